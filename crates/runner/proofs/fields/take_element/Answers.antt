-- The value is stored behind those before it, where there is room.
use mathlib.Core.Path.{◌≡◌, ◌∙◌}
use Prim.Native.Nat.{◌+◌, min}
use lib.ListN.{length, take, drop, length-drop}
use lib.Seq.{length-take-le}
use Rattle.rules.specs.Sizes.{most_elements}
use Rattle.runner.proofs.ValueLaws.{value_read, value_dropped}
use native.Mathlib.Omega.{arith}
use Rattle.runner.proofs.fields.take_element.Goals as goal
use Rattle.runner.proofs.fields.take_element.Goals.{then-book-lt-MOST_ELEMENTS, else-book-lt-MOST_ELEMENTS}

pub returns : goal.returns
returns c h values v =
    let a = c.args in
    let p = c.requires in
    let n : c.min.result + 1 ≡ min (most_elements + 1) (a.book.elements + 1) = omega (arith, c.min.ensures) in
    let m : length (take a.size (drop a.start a.s.now)) ≡ a.size =
    length-take-le a.size (drop a.start a.s.now) (rw length-drop (omega arith)) in
    elim c.if-book-lt-MOST_ELEMENTS.branch [
      | then-book-lt-MOST_ELEMENTS w ↦ value_read a.book _ _ h values v _ _ (rw n) w.if-book-lt-MOST_ELEMENTS.true (omega arith)
          p.element_data_len.0 p.element_data_len.1 _ _ (w.element_data-is ∙ w.read_element.ensures.described)
          (w.prices-is ∙ w.read_element.ensures.priced)
      | else-book-lt-MOST_ELEMENTS w ↦ rw (w.element_data-is, w.prices-is)
          (value_dropped a.book _ _ h values v _ _ (rw n) w.if-book-lt-MOST_ELEMENTS.false)
    ]
