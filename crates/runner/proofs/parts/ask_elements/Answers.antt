-- The parts of the two tables have their exact lengths, so question 4 is asked of the elements that were read.
use mathlib.Core.Path.{refl, sym, ◌∙◌}
use Prim.Native.Nat.{◌*◌}
use lib.Seq.{length-take-le}
use Rattle.rules.specs.Sizes.{element_size, price_places}
use Rattle.rules.specs.Lent.{lend_elements}
use Rattle.rules.specs.Effects.{ask}
use Rattle.runner.specs.Parts.{ends_of, cut_to}
use Rattle.runner.proofs.PartLaws.{elements-asked}
use native.Mathlib.Omega.{arith}
use Rattle.runner.proofs.parts.ask_elements.Goals as goal

pub slice_bounds-elements_right-end : goal.slice_bounds-elements_right-end
slice_bounds-elements_right-end c =
    let z = c.requires.element_data_len in
    let f = c.requires.fitted.elements in
    sym (length-take-le (c.args.book.elements * element_size) c.args.element_data.now (omega arith))

pub slice_bounds-elements_right-end-2 : goal.slice_bounds-elements_right-end-2
slice_bounds-elements_right-end-2 c =
    let z = c.requires.element_data_len in
    let f = c.requires.fitted.elements in
    sym (length-take-le (c.args.book.elements * price_places) c.args.prices.now (omega arith))

pub elements_right-right-requires : goal.elements_right-right-requires
elements_right-right-requires c =
    let z = c.requires.element_data_len in
    let f = c.requires.fitted.elements in
    let a = c.args in record {
      few = f;
      described = length-take-le (a.book.elements * element_size) a.element_data.now (omega arith);
      priced = length-take-le (a.book.elements * price_places) a.prices.now (omega arith);
    }

pub returns : goal.returns
unfolding ends_of ask
returns c o =
    let t = lend_elements c.args.element_data.now c.args.prices.now o in
    let e = ends_of c.args.book in
    c.ask.ensures ∙ elements-asked c.args.book t e refl _ (sym (c.elements_right-right.ensures (cut_to e t)))
