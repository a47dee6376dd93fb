-- Laws of a list with other entries from a place on: a second piece behind the first, the length, what stands before their end and behind
-- it; and of texts: none, one behind the other, those of many entries. The pieces are cut at their lengths. Assumes nothing.
use Prim.Native.Nat.{ℕ, suc, ◌+◌, ◌*◌, ◌≤◌, ◌<◌}
use native.Mathlib.Nat.{suc-mul, mul-le-mul_right}
use mathlib.Core.Path.{◌≡◌, sym, ap, ◌∙◌}
use mathlib.Core.List.{List, [], ◌∷◌, ◌++◌, flat_map, append_assoc, append-nil}
use lib.ListN.{length, take, drop, length-append}
use lib.Seq.{paste-zero, take_at, drop_at, drop-drop, length-take-le}
use native.Mathlib.Omega.{arith}
use Rattle.std.proofs.lemmas.Grind.{common_steps}
use Rattle.file.specs.Bytes.{placed}
use Rattle.file.specs.Lines.{Written}

module _ {A : Type 0} where
  pub placed_none : (xs : List A) (at : ℕ) → xs ≡ placed xs at []
  unfolding placed
  placed_none xs at = paste-zero xs at []

  front_length : (xs : List A) (at : ℕ) (ys : List A) → at ≤ length xs → length (take at xs ++ ys) ≡ at + length ys
  front_length xs at ys h = length-append (take at xs) ys ∙ ap (λ k. k + length ys) (length-take-le at xs h)

  pub placed-append : (xs : List A) (at : ℕ) (ys zs : List A) → at + length ys ≤ length xs
      → placed (placed xs at ys) (at + length ys) zs ≡ placed xs at (ys ++ zs)
  unfolding placed
  placed-append xs at ys zs h =
      let f = front_length xs at ys (omega arith) in
      let k : at + length (ys ++ zs) ≡ at + length ys + length zs = rw length-append (omega arith) in
      rw (
        take_at (take at xs ++ ys) (drop (at + length ys) xs) (at + length ys) f,
        ← drop-drop (length zs) (at + length ys) (take at xs ++ ys ++ drop (at + length ys) xs),
        drop_at (take at xs ++ ys) (drop (at + length ys) xs) (at + length ys) f,
        k,
        ← append_assoc (take at xs) ys zs,
        drop-drop (length zs) (at + length ys) xs,
      )

  pub placed-length : (xs : List A) (at : ℕ) (ys : List A) → at + length ys ≤ length xs → length (placed xs at ys) ≡ length xs
  unfolding placed
  placed-length xs at ys h = grind (arith, common_steps)

-- a list in which others were placed: its front up to their end, and what is behind it
module _ {A : Type 0} (xs : List A) (at : ℕ) (ys : List A) (n : ℕ) (h : at ≤ length xs) (e : n ≡ at + length ys) where
  pub placed-front : take n (placed xs at ys) ≡ take at xs ++ ys
  unfolding placed
  placed-front = grind (arith, common_steps)

  pub placed-behind : drop n (placed xs at ys) ≡ drop n xs
  unfolding placed
  placed-behind = grind (arith, common_steps)

-- where nothing is put, the text is empty
pub nothing_written : (most : ℕ) (out : List ℕ) (from : ℕ) → Written most out out from from []
nothing_written most out from = record { is = placed_none out from; end = omega arith; short = omega arith }

-- what is written leaves the output as long as it was
pub written-long : {k at n : ℕ} {a b t : List ℕ} → Written k a b at n t → at + k ≤ length a → length b ≡ length a
written-long {at = at} {a = a} {t = t} w h = ap length w.is ∙ placed-length a at t (omega (arith, w.short))

-- a text behind a text is one text
pub joined : {j k at m n : ℕ} {a b c t u : List ℕ} → Written j a b at m t → Written k b c m n u → at + length t ≤ length a
    → Written (j + k) a c at n (t ++ u)
joined {j} {k} {at} {m} {n} {a} {b} {c} {t} {u} v w h =
    record {
      is = w.is ∙ rw (v.is, v.end) (placed-append a at t u h);
      end = rw length-append (omega (arith, v.end, w.end));
      short = rw length-append (omega (arith, v.short, w.short));
    }

-- and needs no more room than more
pub loosened : {j k at n : ℕ} {a b t : List ℕ} → j ≤ k → Written j a b at n t → Written k a b at n t
loosened h w = record { is = w.is; end = w.end; short = omega (arith, w.short) }

-- ---- texts of entries, one behind the other, each of at most `width` bytes

module _ {A : Type 0} (text : A → List ℕ) where
  pub texts_more : (xs : List A) (x : A) → flat_map text (xs ++ (x ∷ [])) ≡ flat_map text xs ++ text x
  unfolding flat_map
  texts_more [] x = append-nil (text x)
  texts_more (y ∷ xs) x =
      ap (λ (t : List ℕ). text y ++ t) (texts_more xs x) ∙ sym (append_assoc (text y) (flat_map text xs) (text x))

  -- the text of one more
  pub text_more : (width i : ℕ) (xs : List A) (x : A) {a b c : List ℕ} {from at next : ℕ}
      → Written (i * width) a b from at (flat_map text xs) → Written width b c at next (text x) → from + i * width ≤ length a
      → Written (suc i * width) a c from next (flat_map text (xs ++ (x ∷ [])))
  text_more width i xs x v w room = rw (suc-mul i width, texts_more xs x) (joined v w (omega (arith, v.short)))

-- and it has room where there is room for all
pub text-fits : (width : ℕ) {i from at count m : ℕ} {a b t : List ℕ} → Written (i * width) a b from at t → i < count
    → from + count * width ≤ length a → m ≡ length a → at + width ≤ m
text-fits width {i} w less room same = omega (arith, w.end, w.short, mul-le-mul_right width less, suc-mul i width)
