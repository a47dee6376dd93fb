-- The rows of one point.
use Rattle.std.specs.Prelude.{ℕ, Bool, List, eqb}
use Rattle.rules.specs.Basics.{keep}
use Rattle.rules.specs.Rows.{period_point}

-- is the row one of the point
unfoldable pub of_point : (point row : ℕ) → Bool
of_point p w = eqb (period_point w) p

-- everything recorded for one point
unfoldable pub point_rows : (point : ℕ) → (rows : List ℕ) → List ℕ
point_rows p ws = keep (of_point p) ws
