-- Questions 2 to 5 in order: a whole book is answered by what comes next, another by its own number; where the number is 0 the book is
-- whole. By cases on the questions.
use Prim.Native.Nat.{ℕ}
use mathlib.Core.Path.{◌≡◌, refl}
use mathlib.Core.Logic.{◌≢◌}
use mathlib.Core.Bool.{Bool, true, false}
use native.Mathlib.Omega.{arith}
use Rattle.rules.specs.World.{World}
use Rattle.rules.specs.WellFormed.{question2, question3, question4, question5}
use Rattle.rules.specs.Effects.{ask, ask_book}
use Rattle.rules.specs.Opening.{opening_answer}
use Rattle.rules.specs.Whole.{Whole}
use Rattle.rules.proofs.Passed.{asked_passed}

stands : (a b c d : Bool) → ask a 2 (ask b 3 (ask c 4 (ask d 5 0))) ≢ 0
    → (rest : ℕ) → ask a 2 (ask b 3 (ask c 4 (ask d 5 rest))) ≡ ask a 2 (ask b 3 (ask c 4 (ask d 5 0)))
unfolding ask
stands true true true true h rest = absurd (h refl)
stands true true true false h rest = refl
stands true true false d h rest = refl
stands true false c d h rest = refl
stands false b c d h rest = refl

-- questions 2 to 4 passed: the fifth decides
fifth : (a b c d : Bool) → ask a 2 (ask b 3 (ask c 4 0)) ≡ 0 → ask a 2 (ask b 3 (ask c 4 (ask d 5 0))) ≡ ask d 5 0
unfolding ask
fifth true true true d h = refl
fifth true true false d h = absurd (omega arith)
fifth true false c d h = absurd (omega arith)
fifth false b c d h = absurd (omega arith)

-- one of them did not
fourth : (a b c d : Bool) → ask a 2 (ask b 3 (ask c 4 0)) ≢ 0 → ask a 2 (ask b 3 (ask c 4 0)) ≡ ask a 2 (ask b 3 (ask c 4 (ask d 5 0)))
unfolding ask
fourth true true true d h = absurd (h refl)
fourth true true false d h = refl
fourth true false c d h = refl
fourth false b c d h = refl

module _ (w : World) where
  pub whole-asked : Whole w → (rest : ℕ) → ask_book w rest ≡ rest
  unfolding ask_book ask
  whole-asked c rest = rw (c.limited, c.sized, c.elements, c.right)

  pub book-refused : ask_book w 0 ≢ 0 → (rest : ℕ) → ask_book w rest ≡ ask_book w 0
  unfolding ask_book
  book-refused h rest = stands (question2 w) (question3 w) (question4 w) (question5 w) h rest

  pub book-whole : (rest : ℕ) → ask_book w rest ≡ 0 → Whole w × (rest ≡ 0)
  unfolding ask_book
  book-whole rest h =
      let a = asked_passed (question2 w) 2 _ 0 (λ k. omega arith) h in
      let b = asked_passed (question3 w) 3 _ 0 (λ k. omega arith) a.1 in
      let c = asked_passed (question4 w) 4 _ 0 (λ k. omega arith) b.1 in
      let d = asked_passed (question5 w) 5 _ 0 (λ k. omega arith) c.1 in
      (record { limited = a.0; sized = b.0; elements = c.0; right = d.0 }, d.1)

  -- ---- after an opening's questions

  pub opening_passed : opening_answer w ≡ 0 → ask_book w 0 ≡ ask (question5 w) 5 0
  unfolding opening_answer ask_book
  opening_passed h = fifth (question2 w) (question3 w) (question4 w) (question5 w) h

  pub opening-refused : opening_answer w ≢ 0 → opening_answer w ≡ ask_book w 0
  unfolding opening_answer ask_book
  opening-refused h = fourth (question2 w) (question3 w) (question4 w) (question5 w) h
