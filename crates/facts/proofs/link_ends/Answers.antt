-- A link's end is the definition's by the element's kind; another message has none.
use mathlib.Core.Path.{subst}
use Rattle.rules.specs.Lent.{lists_of, lent_opening, lent_tables}
use Rattle.rules.specs.World.{rows_of}
use Rattle.rules.specs.Effects.{link_end}
use Rattle.facts.specs.Links.{link_ends, LinkFits}
use Rattle.facts.proofs.LinkLaws.{no_link}
use Rattle.facts.proofs.link_ends.Goals as goal

pub kind_of-kind-requires : goal.kind_of-kind-requires
kind_of-kind-requires c =
    (subst (LinkFits c.args.lent.now.element_data.now) c.in-Link.is c.requires.link_fits).2

pub link_end-requires : goal.link_end-requires
link_end-requires c =
    let fits = subst (LinkFits c.args.lent.now.element_data.now) c.in-Link.is c.requires.link_fits in
    record {
      period_rows = c.requires.links.run;
      pair_fits = (fits.0, fits.1);
    }

pub returns-in-Link : goal.returns-in-Link
unfolding link_ends link_end rows_of
returns-in-Link c =
    rw (c.in-Link.is, ← c.kind_of-kind.ensures c.args.lent.now.book (lists_of c.args.lent.now)) c.link_end.ensures

pub returns-in_default : goal.returns-in_default
returns-in_default c = no_link (lent_opening c.args.lent.now) (lent_tables c.args.lent.now) c.args.body c.in_default.not-Link
