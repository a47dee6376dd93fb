-- Supplier and element are read off the line's number; behind them stand how far the line has moved, and the line.
use Prim.Native.Nat.{◌<◌}
use native.Mathlib.Nat.{div-le_self, mod-lt}
use Rattle.rules.proofs.Stored.{factor}
use Rattle.rules.proofs.Parts.{few-lines}
use Rattle.ledger.proofs.RoundLaws.{record_is}
use native.Mathlib.Omega.{arith}
use Rattle.ledger.proofs.rounds.record_of.Goals as goal
use Rattle.ledger.proofs.rounds.record_of.Goals.{Start}

has_elements : (c : Start) → 0 < c.args.book.elements
has_elements c = factor c.args.k c.args.book.suppliers c.args.book.elements c.requires.below

pub nonzero_div-result : goal.nonzero_div-result
nonzero_div-result c = has_elements (goal.at.nonzero_div-result c).Start

pub overflow_add-result : goal.overflow_add-result
overflow_add-result c =
    let b = c.args.book in
    let p = c.requires in
    record {
      fits = omega (
        arith,
        div-le_self c.args.k b.elements,
        few-lines b.suppliers b.elements p.suppliers p.elements,
      );
    }

pub nonzero_rem-result : goal.nonzero_rem-result
nonzero_rem-result c = has_elements (goal.at.nonzero_rem-result c).Start

pub returns : goal.returns
returns c =
    let b = c.args.book in
    let p = c.requires in
    let g = c.moved_by.ensures in
    let l = c.line_at.ensures in
    let n = few-lines b.suppliers b.elements p.suppliers p.elements in
    let h = mod-lt c.args.k (has_elements (goal.at.returns c).Start) in
    let e = p.elements in (
      record {
        kind = omega (arith, p.round-high);
        supplier = omega (arith, div-le_self c.args.k b.elements, p.below);
        element = omega arith;
        moved = record {
          quantity = omega (arith, g.quantity-small);
          kroner = omega (arith, g.kroner-small);
          billionths = omega (arith, g.form);
        };
        balance = record {
          quantity = omega (arith, l.quantity-small);
          kroner = omega (arith, l.kroner-small);
          billionths = omega (arith, l.form);
        };
      },
      record_is b _ _ c.args.k c.moved_by.result c.line_at.result _ _ _ _ g l,
    )
