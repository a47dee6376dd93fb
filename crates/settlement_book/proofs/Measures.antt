-- What questions 2 and 3 leave for question 5: counts within their limits, and tables of their lengths.
use native.Mathlib.Omega.{arith}
use mathlib.Core.Path.{◌≡◌, sym, ap, ◌∙◌}
use mathlib.Core.Bool.{Bool, true, false, ◌&&◌, and_assoc}
use Rattle.rules.specs.declared.Book.{Book}
use Rattle.rules.specs.declared.Lent.{Lent}
use Rattle.rules.specs.WellFormed.{within_limits, rows_fit, question2, line_places}
use Rattle.rules.specs.World.{line_count}
use Rattle.rules.specs.Opening.{opening_answer}
use Rattle.rules.specs.Whole.{Limits}
use Rattle.rules.specs.Lent.{Lists, world_in, opening_in, tables_in, lent_world}
use Rattle.rules.proofs.Tests.{both}
use Rattle.rules.proofs.Parts.{limits, lengths_asked}
use Rattle.rules.proofs.Begin.{passed}
use Rattle.settlement_book.specs.Lengths.{Measured}

pub limited : (b : Book) (o : Lists) → question2 (world_in b o) ≡ true → Limits (opening_in b o)
unfolding question2
limited b o h = limits (opening_in b o) (both (within_limits (opening_in b o)) (rows_fit (tables_in b o)) h).0

pub measured : (l : Lent) → opening_answer (lent_world l) ≡ 0 → Measured l
unfolding line_places line_count
measured l h =
    let k = passed (lent_world l) h in
    let n = lengths_asked (lent_world l) k.limited k.sized in
    let a = n.links in
    let b = n.holders in
    let c = n.states in
    record {
      limits = n.limited;
      element_data = n.element_data;
      periods = omega arith;
      holders = omega arith;
      states = omega arith;
      lines = n.lines;
      sent = n.sent;
    }

-- ---- a test of tests that ends at the first that fails

pub and_then : (a b : Bool) {r : Bool} → a ≡ true → r ≡ b → r ≡ (a && b)
and_then a b h k = rw h k

pub and_else : (a b : Bool) {r : Bool} → a ≡ false → r ≡ false → r ≡ (a && b)
and_else a b h k = rw h k

pub and_third : (a b c : Bool) {r : Bool} → a && b ≡ true → r ≡ c → r ≡ (a && (b && c))
and_third a b c h k = let p = both a b h in rw (p.0, p.1) k

pub and_stops : (a b c : Bool) {r : Bool} → a && b ≡ false → r ≡ false → r ≡ (a && (b && c))
and_stops a b c h k = k ∙ sym (ap (λ (x : Bool). x && c) h) ∙ and_assoc a b c
