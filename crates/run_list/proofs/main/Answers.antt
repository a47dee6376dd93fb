-- The records that the run has counted stand at the front of its list.
use Prim.Native.Nat.{ℕ, ◌<◌}
use mathlib.Core.Path.{refl, sym, subst}
use mathlib.Core.List.{List}
use lib.IntN.{ℤ}
use Rattle.rules.specs.declared.Fields.{Fields}
use Rattle.rules.specs.World.{World}
use Rattle.ledger.specs.RecordNumbers.{RecordPlaces}
use Rattle.ledger.proofs.RecordNumbers.{records-placed}
use Rattle.history.specs.Runs.{Followed}
use Rattle.run_list.proofs.main.Goals as goal

placed : {w after : World} {fs : List Fields} {count : ℕ} {lent out : List ℤ} {table answered : List ℕ}
    → Followed w after fs count lent out table answered → (i : ℕ) → i < count → RecordPlaces out i
placed g i h = subst (λ (l : List ℤ). RecordPlaces l i) (sym g.list) (records-placed _ _ i (subst (λ n. i < n) g.count-is h))

pub show_records-requires : goal.show_records-requires
show_records-requires c =
    let r = rw c.in-Ok.is at c.open_and_run-ran.ensures.runs in
    placed (r.followed refl)
