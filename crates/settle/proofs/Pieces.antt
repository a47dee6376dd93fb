-- Bytes of a buffer copied to its front: those that are kept. Bytes read behind those in hand, and what is so where nothing is read.
use mathlib.Core.Path.{◌≡◌, refl, sym, ap, ◌∙◌}
use mathlib.Core.Bool.{Bool, true, false, false≢true}
use mathlib.Core.List.{List, [], ◌∷◌, ◌++◌, append-nil}
use Prim.Native.Nat.{ℕ, zero, suc, ◌+◌, ◌-◌, ◌≤◌}
use native.Mathlib.Omega.{arith}
use native.Mathlib.Nat.{zero-add}
use lib.ListN.{length, take, drop, length-drop}
use lib.Seq.{take-nil, take-paste, take-add, drop_at, take-append-le, length-take-le}
use borrow.Rule.Slice.PartMut.{put_mid, post_of}
use Rattle.std.specs.List.{copy_within}
use Rattle.std.specs.Prelude.{Option, None, Some}
use Rattle.std.specs.Io.KnownBytes.{Consumes}
use Rattle.settle.specs.declared.Next.{Next}
use Rattle.settle.specs.declared.Session.{Session}
use Rattle.settle.specs.Sessions.{is_read, Received}

-- what is left of the first bytes
part-rest : (at n : ℕ) (b : List ℕ) → drop at (take (at + n) b) ≡ take n (drop at b)
part-rest zero n b = ap (λ (k : ℕ). take k b) (zero-add n)
part-rest (suc at) n [] = ap (λ (xs : List ℕ). drop (suc at) xs) (take-nil (suc at + n)) ∙ sym (take-nil n)
part-rest (suc at) n (x ∷ b) =
    let q : suc at + n ≡ suc (at + n) = omega arith in
    ap (λ (k : ℕ). drop (suc at) (take k (x ∷ b))) q ∙ part-rest at n b

pub kept : (b : List ℕ) (at have : ℕ) → at ≤ have → have ≤ length b
    → take (have - at) (copy_within b at have 0) ≡ drop at (take have b)
kept b at have l h =
    let n = have - at in
    let long : n ≤ length (drop at b) = rw length-drop (omega arith) in
    let q : at + n ≡ have = omega arith in
    ap (λ (j : ℕ). take j (copy_within b at have 0)) (sym (zero-add n)) ∙ take-paste b 0 (drop at b) n (omega arith) long
    ∙ sym (part-rest at n b) ∙ ap (λ (k : ℕ). drop at (take k b)) q

-- bytes read behind those in hand
pub read_behind : (held count n : ℕ) (b free : List ℕ) → held ≤ length b → count ≤ length free
    → take (held + count) (put_mid held n b free) ≡ take held (put_mid held n b free) ++ take count free
read_behind held count n b free h l =
    let front = take held (put_mid held n b free) in
    take-add held count (put_mid held n b free)
    ∙ ap (λ (y : List ℕ). front ++ take count y) (drop_at (take held b) (free ++ post_of held n b) held (length-take-le held b h))
    ∙ ap (λ (y : List ℕ). front ++ y) (take-append-le count free (post_of held n b) l)

-- where more bytes are in hand or the input has ended, nothing is read
no_read : (n : Next) → (n ≡ Next.Read → ⊥) → is_read n ≡ false
no_read Next.Read h = absurd (h refl)
no_read Next.Held h = refl
no_read Next.Last h = refl

consumes_none : (remaining : Option (List ℕ)) → Consumes remaining remaining []
consumes_none None = _
consumes_none (Some xs) = refl

pub nothing_read : (remaining : Option (List ℕ)) (s : Session) (buffer : List ℕ) → s.held ≤ length buffer → (s.next ≡ Next.Read → ⊥)
    → Received remaining remaining s buffer s
nothing_read remaining s buffer h n =
    let z = no_read s.next n in
    record {
      arrived = record {
        come = [];
        read = consumes_none remaining;
        progress = refl;
        bytes = sym (append-nil (take s.held buffer));
        held = h;
        ended = λ e. (e, refl);
        at_end = λ e. absurd (false≢true (sym z ∙ e));
        stays = λ e. (refl, refl);
        ready = z;
      };
      told = λ e. absurd (n e);
    }
