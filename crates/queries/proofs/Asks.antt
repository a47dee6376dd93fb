-- The questions of the queries, one after the other: those of the book, then the query's own. What has passed where none says no.
use Prim.Native.Nat.{ℕ, ◌<◌}
use mathlib.Core.Path.{◌≡◌, sym, ◌∙◌}
use mathlib.Core.Logic.{◌≢◌}
use mathlib.Core.Path.{refl}
use mathlib.Core.Bool.{true, false}
use borrow.Author.Tests.{ne_eqb}
use Rattle.std.specs.Prelude.{Result, Ok, Err, is_err, ⊤}
use Rattle.rules.specs.Answers.{refusal_number, number_of}
use Rattle.rules.specs.declared.Refusal.{Refusal}
use Rattle.validation.proofs.Next.{refuses}
use lib.Dec.{ltb}
use borrow.Author.Tests.{ltb-true}
use native.Mathlib.Omega.{arith}
use Rattle.rules.specs.Basics.{within}
use Rattle.rules.specs.World.{World, InBook}
use Rattle.rules.specs.Effects.{ask}
use Rattle.rules.specs.Queries.{line_number, periods_number, day_number, DayResult, day_query}
use Rattle.rules.proofs.Ranges.{within_low, within-high}
use Rattle.rules.specs.Whole.{Whole}
use Rattle.rules.proofs.Passed.{asked_passed}
use Rattle.rules.proofs.BookLaws.{whole-asked, book-whole}

-- a refusal's number is none that says that all has passed
pub refused_not : (r : Refusal) → refusal_number r ≢ 0
refused_not r e = let k = refuses r in absurd (omega arith)

pub passed_number : (r : Result ⊤ Refusal) → is_err r ≡ false → number_of r ≡ 0
passed_number (Ok x) h = refl
passed_number (Err r) h = absurd (let x : ◌≡◌ {A = ℕ} 0 1 = cc in omega arith)

pub refused_number : (r : Result ⊤ Refusal) → is_err r ≡ true → number_of r ≢ 0
refused_number (Ok x) h e = absurd (let x : ◌≡◌ {A = ℕ} 0 1 = cc in omega arith)
refused_number (Err r) h e = refused_not r e

module _ (w : World) where
  -- a book that is well formed is answered by the query's own questions
  module _ (h : Whole w) where
    pub line-asks : (s e : ℕ) → ask (within 1 w.opening.suppliers s) 6 (ask (ltb e w.opening.elements) 8 0) ≡ line_number w s e
    unfolding line_number
    line-asks s e = sym (whole-asked w h _)

    pub periods-asks : (p e : ℕ) → ask (ltb p w.opening.points) 7 (ask (ltb e w.opening.elements) 8 0) ≡ periods_number w p e
    unfolding periods_number
    periods-asks p e = sym (whole-asked w h _)

    pub day-asks : (p : ℕ) → ask (ltb p w.opening.points) 7 0 ≡ day_number w p
    unfolding day_number
    day-asks p = sym (whole-asked w h _)

  -- the book is whole, and the rest has passed
  pub line_passed : (s e : ℕ) → line_number w s e ≡ 0 → Whole w × InBook w.opening s e
  unfolding line_number
  line_passed s e h =
      let k = book-whole w _ h in
      let a = asked_passed (within 1 w.opening.suppliers s) 6 _ 0 (λ z. omega arith) k.1 in
      let b = asked_passed (ltb e w.opening.elements) 8 0 0 (λ z. omega arith) a.1 in
      (k.0, record { someone = within_low _ _ s a.0; supplier = within-high _ _ s a.0; element = ltb-true _ _ b.0 })

  pub periods_passed : (p e : ℕ) → periods_number w p e ≡ 0 → Whole w × ((p < w.opening.points) × (e < w.opening.elements))
  unfolding periods_number
  periods_passed p e h =
      let k = book-whole w _ h in
      let a = asked_passed (ltb p w.opening.points) 7 _ 0 (λ z. omega arith) k.1 in
      let b = asked_passed (ltb e w.opening.elements) 8 0 0 (λ z. omega arith) a.1 in
      (k.0, (ltb-true _ _ a.0, ltb-true _ _ b.0))

  pub day_passed : (p : ℕ) → day_number w p ≡ 0 → Whole w × (p < w.opening.points)
  unfolding day_number
  day_passed p h =
      let k = book-whole w _ h in
      (k.0, ltb-true _ _ (asked_passed (ltb p w.opening.points) 7 0 0 (λ z. omega arith) k.1).0)

  -- question 7 says no
  pub day-refused : (p : ℕ) (r : Refusal) → refusal_number r ≡ day_number w p → DayResult.refused (refusal_number r) ≡ day_query w p
  unfolding day_query
  day-refused p r k = rw (ne_eqb (day_number w p) 0 (λ z. refused_not r (k ∙ z)), k)
