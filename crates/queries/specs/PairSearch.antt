-- The search for the periods of a point and an element among any rows, in order or not: it reads them from the first on and ends at the
-- first beyond the point and element.
use Rattle.std.specs.Prelude.{ℕ, ◌+◌, ◌≤◌, ◌≡◌, Bool, ◌&&◌, ◌||◌, cond, List, [], ◌∷◌, eqb, ltb, length, take, drop}
use Rattle.rules.specs.Basics.{keep}
use Rattle.rules.specs.Rows.{period_point, period_element}
use Rattle.rules.specs.Queries.{beyond_pair, read_to}

-- is the row one of an earlier point, or of the point and an earlier element
unfoldable pub before_pair : (point element row : ℕ) → Bool
before_pair p e w = ltb (period_point w) p || (eqb (period_point w) p && ltb (period_element w) e)

-- the place of a point and an element among rows: how many stand before theirs
unfoldable pub pair_place : (point element : ℕ) → (rows : List ℕ) → ℕ
pair_place p e ws = length (keep (before_pair p e) ws)

-- the rows before the first beyond, or all where none is beyond
unfoldable pub up_to_beyond : (point element : ℕ) → (rows : List ℕ) → List ℕ
up_to_beyond p e [] = []
up_to_beyond p e (w ∷ ws) = cond (beyond_pair p e w) [] (w ∷ up_to_beyond p e ws)

-- where the part that is handed back begins, and that part: those of them behind as many as are before the point and element
unfoldable pub searched_place : (point element : ℕ) → (rows : List ℕ) → ℕ
searched_place p e ws = pair_place p e (up_to_beyond p e ws)

unfoldable pub searched_part : (point element : ℕ) → (rows : List ℕ) → List ℕ
searched_part p e ws = drop (searched_place p e ws) (up_to_beyond p e ws)

-- what the search finds: the place, how many rows from there on are the part, and how many rows were read
pub record PairFound (p e : ℕ) (rows : List ℕ) (place count told : ℕ) : Type 0 where
  pub from : place ≡ searched_place p e rows
  pub many : count ≡ length (searched_part p e rows)
  pub part : take count (drop place rows) ≡ searched_part p e rows
  pub within : place + count ≤ length rows
  pub read : told ≡ read_to p e rows
