-- A lent list with its first places written: those places hold what was written, and the rest is as lent. One store more is one place more.
use mathlib.Core.Path.{◌≡◌, refl, sym, ap, ◌∙◌}
use mathlib.Core.List.{List, [], ◌∷◌, ◌++◌, append_assoc}
use Prim.Native.Nat.{ℕ, suc, ◌+◌, ◌-◌, ◌≤◌, ◌<◌}
use native.Mathlib.Omega.{arith}
use native.Mathlib.Numerals.{add-one}
use lib.ListN.{length, get_or, set, drop, length-append, length-drop}
use lib.Seq.{drop-cons, set_at, get_or-append-add, get_or-drop}
use Rattle.rules.specs.Basics.{list_to}
use Rattle.rules.proofs.Ranges.{length-list_to}

-- f 0, .., f (n − 1) at the front of a lent list
unfoldable pub front : {A : Type 0} → (ℕ → A) → ℕ → List A → List A
front f n lent = list_to f n ++ drop n lent

module _ {A : Type 0} (f : ℕ → A) where
  pub front-is : (n : ℕ) (lent : List A) → front f n lent ≡ list_to f n ++ drop n lent
  unfolding front
  front-is n lent = refl

  pub front_none : (lent : List A) → front f 0 lent ≡ lent
  unfolding front list_to
  front_none lent = refl

  pub length_front : (n : ℕ) (lent : List A) → n ≤ length lent → length (front f n lent) ≡ length lent
  unfolding front
  length_front n lent l = simp (length-append, length-list_to, length-drop) (omega arith)

  pub front-step : (m n : ℕ) (lent : List A) (v : A) → m < length lent → n ≡ m + 1 → v ≡ f m → set (front f m lent) m v ≡ front f n lent
  unfolding front list_to
  front-step m n lent v l e h =
      rw (
        e,
        add-one m,
        drop-cons lent m (f m) l,
        h,
        set_at (list_to f m) (get_or lent m (f m)) (drop (suc m) lent) (f m) m (length-list_to f m),
      )
      (sym (append_assoc (list_to f m) (f m ∷ []) (drop (suc m) lent)))

  pub front_more : (n : ℕ) (lent : List A) → n < length lent → front f (n + 1) lent ≡ set (front f n lent) n (f n)
  front_more n lent l = sym (front-step n (n + 1) lent (f n) l refl refl)

  -- places behind those are as lent
  pub front_rest : (m j : ℕ) (lent : List A) (z : A) → m ≤ j → get_or (front f m lent) j z ≡ get_or lent j z
  unfolding front
  front_rest m j lent z l =
      let e : j ≡ length (list_to f m) + (j - m) = rw (length-list_to f m) (omega arith) in
      let d : m + (j - m) ≡ j = omega arith in
      ap (λ (x : ℕ). get_or (list_to f m ++ drop m lent) x z) e
      ∙ get_or-append-add (list_to f m) (drop m lent) (j - m) z
      ∙ get_or-drop m lent (j - m) z
      ∙ ap (λ (x : ℕ). get_or lent x z) d
