-- The tail of a list that was lent on: what is lent, and what it leaves of the whole when it comes back.
use Prim.Native.Nat.{ℕ, ◌-◌, ◌≤◌}
use mathlib.Core.Path.{◌≡◌, ◌∙◌}
use mathlib.Core.List.{List, append-nil}
use lib.ListN.{length, take, drop, length-drop}
use lib.Seq.{length-take-le, take_all, drop_at, drop-length}
use lib.IntN.{ℤ}
use native.Mathlib.Omega.{arith}
use Rattle.std.specs.Prelude.{Result}
use Rattle.rules.specs.declared.Fields.{Fields}
use Rattle.rules.specs.declared.Refusal.{Refusal}
use Rattle.rules.specs.World.{World}
use Rattle.settlement.specs.Replies.{Replied}
use borrow.Rule.Slice.PartMut.{mid_of, put_mid, Post-is, take_put}

module _ {A : Type 0} (at : ℕ) (xs : List A) where
  tail_lent : mid_of at (length xs - at) xs ≡ drop at xs
  tail_lent = take_all (length xs - at) (drop at xs) (let l = length-drop at xs in omega arith)

  module _ (ys : List A) (h : at ≤ length xs) where
    tail_back : drop at (put_mid at (length xs - at) xs ys) ≡ ys
    tail_back = drop_at (take at xs) _ at (length-take-le at xs h) ∙ rw (Post-is at (length xs) xs h, drop-length xs) (append-nil ys)

    front_stays : take at (put_mid at (length xs - at) xs ys) ≡ take at xs
    front_stays = take_put at (length xs - at) xs ys h

-- a message that was lent the tail
pub replied_tail : (mid after : World) (f : Fields) (r : Result ℕ Refusal) (list ys : List ℤ) (at : ℕ) → at ≤ length list
    → Replied mid after f r (mid_of at (length list - at) list) ys
    → Replied mid after f r (drop at list) (drop at (put_mid at (length list - at) list ys))
    × (take at (put_mid at (length list - at) list ys) ≡ take at list)
replied_tail mid after f r list ys at h q = (rw (tail_back at list ys h, ← tail_lent at list) q, front_stays at list ys h)
