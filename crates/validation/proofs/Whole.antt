-- A book that questions 2 to 5 pass is one that questions 7 to 16 can be asked of: each fact is a part of those questions.
use Prim.Native.Nat.{ℕ}
use Rattle.std.specs.Prelude.{Some}
use mathlib.Core.Path.{◌≡◌, refl}
use mathlib.Core.Bool.{true}
use mathlib.Core.List.{List, [], ◌∷◌}
use borrow.Author.Tests.{le-leb}
use Rattle.rules.specs.Sizes.{end_of_days}
use Rattle.rules.specs.declared.Lent.{Lent}
use Rattle.rules.specs.declared.Fields.{Fields}
use Rattle.rules.specs.declared.Message.{Message}
use Rattle.rules.specs.Lent.{lists_of, lent_world, lent_opening, lent_tables}
use Rattle.rules.specs.Basics.{all_in}
use Rattle.rules.specs.Rows.{period_end}
use Rattle.rules.specs.World.{Opening, rows_of}
use Rattle.rules.specs.WellFormed.{period_right}
use Rattle.rules.proofs.Tests.{both}
use Rattle.rules.proofs.PeriodsRight.{right_of}
use Rattle.rules.proofs.Parts.{lengths, formed, dated, links-each}
use Rattle.rules.specs.Whole.{Whole}
use Rattle.tables.proofs.Right.{whole-rows}
use Rattle.rules.specs.Messages.{understood}
use Rattle.rules.proofs.Passed.{understands, ranged}
use Rattle.validation.specs.Decided.{ends_in_time, Readable, InRange}

ends-all : (o : Opening) (rows : List ℕ) → all_in (period_right o) rows ≡ true → all_in ends_in_time rows ≡ true
unfolding all_in ends_in_time
ends-all o [] h = refl
ends-all o (r ∷ rs) h =
    let k = both (period_right o r) (all_in (period_right o) rs) h in
    rw (le-leb (period_end r) end_of_days (right_of o r k.0).last, ends-all o rs k.1)

pub whole_readable : (l : Lent) → Whole (lent_world l) → Readable l
whole_readable l c =
    let o = lent_opening l in
    let t = lent_tables l in
    let n = lengths (lent_world l) c in
    let rows = whole-rows l.book (lists_of l) c in
    record {
      month = dated l.book (lists_of l) c;
      points = n.limited.points;
      elements = n.limited.elements;
      data_length = n.element_data;
      link_rows = rows.links;
      link_ends = unfold rows_of in ends-all o (rows_of t.links) (links-each o t.links (formed (lent_world l) c).tables.links);
      holder-rows = rows.holders;
      state-rows = rows.states;
      block_places = n.blocks;
    }

-- and what question 6 has passed is a message that they can be asked of
pub in_range : (suppliers : ℕ) (f : Fields) (m : Message) → understood suppliers f ≡ Some m → InRange suppliers m
in_range suppliers f m e =
    let u = understands suppliers f m e in
    record { received = rw u.received u.day; body = ranged suppliers f m e }
