-- `packed::digits_right` meets its contract: what the chain finds of the places is what the rules ask of the digits.
use Rattle.std.proofs.Common.{rules, tests, arith, ◌∙◌, refl, sym, leb}
use Rattle.std.proofs.lemmas.Iterator.{YieldsList-from_range}
use Rattle.std.proofs.lemmas.Iterator.Search.{all_from_yields_List}
use Rattle.rules.specs.Packed.{digit_count, half_in, digits_right}
use Rattle.rules.proofs.Chains.{all_to-range}
use Rattle.packed.proofs.digits_right.Goals as goal

pub returns : goal.returns
unfolding digits_right
returns c =
    all_from_yields_List (λ k. leb (half_in c.args.bytes.now k) 9) _ _ _ c.all.ensures.ran
    (YieldsList-from_range 0 digit_count digit_count refl (omega arith)) (λ x b q k. search (rules, tests))
    ∙ sym (all_to-range (λ k. leb (half_in c.args.bytes.now k) 9) digit_count)
