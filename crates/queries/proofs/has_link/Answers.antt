-- `queries::has_link` meets its contract: what the chain finds of the elements is what the definition asks of their numbers.
use Rattle.std.proofs.Common.{rules, arith, tests, ◌∙◌, sym, refl}
use lib.ListN.{take}
use Rattle.std.proofs.lemmas.Iterator.{YieldsList-from_range}
use Rattle.std.proofs.lemmas.Iterator.Search.{any_from_yields_List}
use Rattle.rules.specs.World.{linked_on, rows_of}
use Rattle.queries.proofs.Lacks.{linked_by, any_to-range}
use Rattle.queries.proofs.has_link.Goals as goal

pub returns : goal.returns
unfolding linked_on rows_of
returns c =
    let l = c.args.lent.now in
    let f = linked_by (take l.book.periods l.links.now) c.args.point c.args.day in
    any_from_yields_List f _ _ _ c.any.ensures.ran (YieldsList-from_range 0 l.book.elements l.book.elements refl (omega arith))
    (λ x b q k. search (rules, tests))
    ∙ sym (any_to-range f l.book.elements)
