-- A list of first days holds to the rule at each of its entries where one test passes, which antt computes over the whole list: each entry
-- is the one before it and the days of the month before. By recursion over the list. Assumes nothing.
use mathlib.Core.Path.{◌≡◌, refl, sym, ap, ◌∙◌}
use mathlib.Core.Bool.{Bool, true, false, ◌&&◌}
use mathlib.Core.List.{List, [], ◌∷◌}
use Prim.Native.Nat.{ℕ, zero, suc, ◌+◌, ◌<◌}
use native.Mathlib.Nat.{add-zero, add-suc, suc-add, zero-add, le_of_suc-le-suc, not-suc-le-zero}
use lib.Dec.{T, eqb, eqb→eq}
use lib.ListN.{length, get_or}
use Rattle.calendar.specs.Gregorian.{first_of_month, days_after}

pub both_left : (a b : Bool) → T (a && b) → T a
both_left true b t = tt
both_left false b t = t

pub both_right : (a b : Bool) → T (a && b) → T b
both_right true b t = t
both_right false b t = absurd t

-- the list begins with the day first, which is that of the month n, and goes on as the rule says
abbrev pub holds : (n first : ℕ) → (days : List ℕ) → Bool
holds n first [] = true
holds n first (day ∷ days) = eqb day first && holds (suc n) (day + days_after n) days

from : (n first : ℕ) (days : List ℕ) → first ≡ first_of_month n → T (holds n first days)
    → (k : ℕ) → k < length days → get_or days k 0 ≡ first_of_month (n + k)
unfolding first_of_month
from n first [] e t k h = absurd (not-suc-le-zero h)
from n first (day ∷ days) e t zero h =
    eqb→eq day first (both_left (eqb day first) (holds (suc n) (day + days_after n) days) t) ∙ e ∙ ap first_of_month (sym (add-zero n))
from n first (day ∷ days) e t (suc k) h =
    from (suc n) (day + days_after n) days
    (ap (λ (d : ℕ). d + days_after n) (eqb→eq day first (both_left (eqb day first) (holds (suc n) (day + days_after n) days) t) ∙ e))
    (both_right (eqb day first) (holds (suc n) (day + days_after n) days) t) k (le_of_suc-le-suc h)
    ∙ ap first_of_month (suc-add n k ∙ sym (add-suc n k))

pub at : (days : List ℕ) → T (holds 0 0 days) → (k : ℕ) → k < length days → get_or days k 0 ≡ first_of_month k
unfolding first_of_month
at days t k h = from 0 0 days refl t k h ∙ ap first_of_month (zero-add k)
