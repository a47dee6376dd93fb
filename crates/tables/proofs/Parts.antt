-- What a part that was lent on leaves of the whole table, and how many rows there are then.
use Prim.Native.Nat.{ℕ, zero, suc, ◌+◌, ◌-◌, ◌≤◌, ◌<◌}
use mathlib.Core.Path.{◌≡◌, refl, sym, ap, ◌∙◌}
use mathlib.Core.List.{List, [], ◌∷◌, ◌++◌, append_assoc}
use lib.ListN.{length, take, drop, set, replicate, length-append, length-take, length-drop, length-set}
use lib.ListN.{take-append-drop, replicate-append-replicate}
use lib.Seq.{length-take-le, take-take, drop-drop, take_at, drop_at, take-nil}
use lib.Seq.{get_or-take}
use lib.Seq.{set-append_left, drop-set-lt, take-set-lt}
use native.Mathlib.Omega.{arith}
use native.Mathlib.Nat.{le_trans}
use borrow.Rule.Slice.PartMut.{mid_of, put_mid, mid_len, Post-is}
use Rattle.rules.specs.Sizes.{places}
use Rattle.rules.specs.World.{table_of}
use Rattle.tables.specs.Order.{ClearBehind}
use Rattle.tables.specs.Search.{put_in, without, cut_before, Changed}

-- ---- tables

module _ {A : Type 0} where
  pub take-drop : (a n : ℕ) (xs : List A) → take (n - a) (drop a xs) ≡ drop a (take n xs)
  take-drop zero n xs = let e : n - 0 ≡ n = omega arith in rw e
  take-drop (suc a) zero xs = let e : 0 - suc a ≡ 0 = omega arith in rw e
  take-drop (suc a) (suc n) [] = take-nil (suc n - suc a)
  take-drop (suc a) (suc n) (x ∷ xs) = let e : suc n - suc a ≡ n - a = omega arith in rw e (take-drop a n xs)

  -- a part of the first n entries, read from the whole list
  pub part-within : (a b n : ℕ) (xs : List A) → b ≤ n → take (b - a) (drop a xs) ≡ take (b - a) (drop a (take n xs))
  part-within a b n xs h = take-drop a b xs ∙ ap (drop a) (sym (take-take b n xs h)) ∙ sym (take-drop a b (take n xs))

-- a table of n rows: the rows, and zeros
words_of : (rows : List ℕ) (n : ℕ) → length rows ≡ n → (table_of rows).words ≡ rows ++ replicate (places - n) 0
unfolding table_of
words_of rows n e = rw e

module _ (xs : List ℕ) (n : ℕ) (c : ClearBehind xs n) where
  pub rows_long : length (take n xs) ≡ n
  rows_long = let l = c.long in let m = c.count in length-take-le n xs (omega arith)

  pub table_is : xs ≡ (table_of (take n xs)).words
  table_is = sym (take-append-drop n xs) ∙ rw c.clear (sym (words_of (take n xs) n rows_long))

  -- a row replaced
  pub table_set : (i w : ℕ) → i < n → set xs i w ≡ (table_of (set (take n xs) i w)).words
  table_set i w h =
      let l = rows_long in
      let m : i < length (take n xs) = omega arith in
      ap (λ (t : List ℕ). set t i w) (table_is ∙ words_of (take n xs) n l)
      ∙ set-append_left (take n xs) (replicate (places - n) 0) i w m
      ∙ sym (words_of (set (take n xs) i w) n (length-set (take n xs) i w ∙ l))

  -- a word put in: what came back of the part that was shifted
  pub table_put : (at w : ℕ) → at ≤ n → n < places
      → let lent = mid_of at (n + 1 - at) xs in
      put_mid at (n + 1 - at) xs (w ∷ take (length lent - 1) lent) ≡ (table_of (put_in at w (take n xs))).words
  unfolding put_in
  table_put at w h k =
      let l = c.long in
      let e : n + 1 - at - 1 ≡ n - at = omega arith in
      let z : places - n ≡ suc (places - (n + 1)) = omega arith in
      let front : take at xs ≡ take at (take n xs) = sym (take-take at n xs h) in
      let kept : take (n - at) (take (n + 1 - at) (drop at xs)) ≡ drop at (take n xs)
      = take-take (n - at) (n + 1 - at) (drop at xs) (omega arith) ∙ take-drop at n xs in
      let behind : drop (n + 1) xs ≡ replicate (places - (n + 1)) 0 = sym (drop-drop 1 n xs) ∙ rw (c.clear, z) in
      let long : length (take at (take n xs) ++ (w ∷ drop at (take n xs))) ≡ n + 1
      = length-append (take at (take n xs)) (w ∷ drop at (take n xs)) ∙ rw (length-take, length-drop, rows_long) (omega arith) in
      rw (mid_len at (n + 1) xs (omega arith), e, kept, front, Post-is at (n + 1) xs (omega arith), behind)
      (sym (words_of _ (n + 1) long ∙ append_assoc (take at (take n xs)) (w ∷ drop at (take n xs)) (replicate (places - (n + 1)) 0)))

  -- rows taken out: what came back of the part that was closed up, and of the part that was cleared
  pub table_without : (from to : ℕ) → from ≤ to → to ≤ n → (ys : List ℕ)
      → let lent = mid_of from (n - from) xs in
      let gap = to - from in
      ys ≡ put_mid from (n - from) xs (drop gap lent ++ drop (length lent - gap) lent)
      → put_mid (n - gap) (n - (n - gap)) ys (replicate (length (mid_of (n - gap) (n - (n - gap)) ys)) 0)
      ≡ (table_of (without from to (take n xs))).words
  unfolding without
  table_without from to h k ys e =
      let rows = take n xs in
      let end = n - (to - from) in
      let kept = take from rows ++ drop to rows in
      let l = c.long in
      let m = c.count in
      let rl = rows_long in
      let there : from + (to - from) ≡ to = omega arith in
      let front : length (take from rows) ≡ from = length-take-le from rows (rw rl (le_trans h k)) in
      let long : length kept ≡ end = length-append (take from rows) (drop to rows) ∙ rw (front, length-drop, rl) (omega arith) in
      let rest = drop (length (drop from rows) - (to - from)) (drop from rows) in
      let is : ys ≡ kept ++ (rest ++ drop n xs)
      = e ∙ rw (take-drop from n xs, drop-drop, there, sym (take-take from n xs (omega arith)), Post-is from n xs (omega arith))
      (simp append_assoc) in
      let restl : length rest ≡ n - end = rw (length-drop, length-drop, rl) (omega arith) in
      let all : n ≤ length ys = rw (is, length-append, long, length-append, restl, length-drop) (omega arith) in
      let first : take end ys ≡ kept = rw is (take_at kept (rest ++ drop n xs) end long) in
      let behind : drop n ys ≡ replicate (places - n) 0
      = rw (is, ← append_assoc) (drop_at (kept ++ rest) (drop n xs) n (rw (length-append, long, restl) (omega arith)) ∙ c.clear) in
      let zeros : replicate (n - end) 0 ++ replicate (places - n) 0 ≡ replicate (places - end) 0
      = replicate-append-replicate {A = ℕ} (n - end) (places - n) 0 ∙ ap (λ (i : ℕ). replicate i 0) (omega arith) in
      rw (mid_len end n ys all, Post-is end n ys (omega arith), first, behind, zeros) (sym (words_of kept end long))

  -- what a row replaced keeps
  pub clear-set : (i w : ℕ) → i < n → ClearBehind (set xs i w) n
  clear-set i w h = record { long = length-set xs i w ∙ c.long; count = c.count; clear = drop-set-lt n xs i w h ∙ c.clear }

-- ---- how many rows there are

pub length_put : (at w : ℕ) (ws : List ℕ) → at ≤ length ws → length (put_in at w ws) ≡ suc (length ws)
unfolding put_in
length_put at w ws h = length-append (take at ws) (w ∷ drop at ws) ∙ rw (length-take-le at ws h, length-drop) (omega arith)

length_without : (from to : ℕ) (ws : List ℕ) → from ≤ to → to ≤ length ws → length (without from to ws) ≡ length ws - (to - from)
unfolding without
length_without from to ws h k =
    length-append (take from ws) (drop to ws) ∙ rw (length-take-le from ws (le_trans h k), length-drop) (omega arith)

pub taken_out : (xs : List ℕ) (n : ℕ) → ClearBehind xs n → (from to : ℕ) → from ≤ to → to ≤ n → (zs : List ℕ)
    → zs ≡ (table_of (without from to (take n xs))).words → Changed (without from to (take n xs)) zs (n - (to - from))
taken_out xs n c from to h k zs z =
    let l = rows_long xs n c in
    record { is = z; count = sym (length_without from to (take n xs) h (rw l k) ∙ ap (λ (i : ℕ). i - (to - from)) l) }

-- no row taken out
pub none_out : (xs : List ℕ) (n : ℕ) → ClearBehind xs n → (from to : ℕ) → from ≡ to → Changed (without from to (take n xs)) xs n
unfolding without
none_out xs n c from to e =
    let all : take from (take n xs) ++ drop to (take n xs) ≡ take n xs = rw e (take-append-drop to (take n xs)) in
    record { is = rw all (table_is xs n c); count = rw all (sym (rows_long xs n c)) }

-- ---- the row before a place, cut

module _ (p e d : ℕ) (xs : List ℕ) where
  pub take_cut : (n at : ℕ) → at ≤ n → take n (cut_before p e d at xs) ≡ cut_before p e d at (take n xs)
  unfolding cut_before
  take_cut n zero h = refl
  take_cut n (suc i) h = rw (get_or-take n xs i 0 h) (take-set-lt n xs i _ h)

  pub clear_cut : (n at : ℕ) → at ≤ n → ClearBehind xs n → ClearBehind (cut_before p e d at xs) n
  unfolding cut_before
  clear_cut n zero h c = c
  clear_cut n (suc i) h c = clear-set xs n c i _ h
