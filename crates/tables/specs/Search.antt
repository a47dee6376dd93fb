-- What a search over rows in order finds.
use Rattle.std.specs.Prelude.{ℕ, zero, suc, min, ◌≡◌, Bool, true, false, ◌&&◌, cond, List, [], ◌∷◌, ◌++◌}
use Rattle.std.specs.Prelude.{length, get_or, take, drop, set, ltb, eqb}
use Rattle.std.specs.Prelude.{Option, None, Some}
use Rattle.rules.specs.World.{table_of}
use Rattle.rules.specs.Sizes.{end_of_days}
use Rattle.rules.specs.Rows.{pack_period, period_first, period_end, period_quantity, of_pair, covers, value_point, value_first}

-- how many rows are below the word: those up to the first that is not
unfoldable pub rows_below : (word : ℕ) → (rows : List ℕ) → ℕ
rows_below x [] = 0
rows_below x (w ∷ ws) = cond (ltb w x) (suc (rows_below x ws)) 0

-- the end of the period that covers the day, or 0 where none does
unfoldable pub end_on : (rows : List ℕ) → (point element day : ℕ) → ℕ
end_on [] p e d = 0
end_on (w ∷ ws) p e d = cond (covers p e d w) (period_end w) (end_on ws p e d)

-- the rows with a word put in at a place
unfoldable pub put_in : (at word : ℕ) → (rows : List ℕ) → List ℕ
put_in at w ws = take at ws ++ (w ∷ drop at ws)

-- the rows without those from one place up to another
unfoldable pub without : (from to : ℕ) → (rows : List ℕ) → List ℕ
without from to ws = take from ws ++ drop to ws

-- a period of the pair that runs past the day, ended on it
unfoldable pub cut_row : (point element day row : ℕ) → ℕ
cut_row p e d w = cond (of_pair p e w && ltb d (period_end w)) (pack_period p e (period_first w) d (period_quantity w)) w

-- the row before a place, so ended
unfoldable pub cut_before : (point element day at : ℕ) → (rows : List ℕ) → List ℕ
cut_before p e d zero ws = ws
cut_before p e d (suc i) ws = set ws i (cut_row p e d (get_or ws i 0))

-- the first day after d for which a value is recorded for the point, or the end of days
unfoldable pub next_recorded : (size : ℕ) → (rows : List ℕ) → (point day : ℕ) → ℕ
next_recorded size [] p d = end_of_days
next_recorded size (w ∷ ws) p d =
    cond (eqb (value_point size w) p && ltb d (value_first size w))
    (min (value_first size w) (next_recorded size ws p d))
    (next_recorded size ws p d)

-- is there a value
unfoldable pub is_given : (value : Option ℕ) → Bool
is_given None = false
is_given (Some v) = true

-- a table that has these rows and zeros behind them, and how many they are
pub record Changed (rows words : List ℕ) (used : ℕ) : Type 0 where
  pub is : words ≡ (table_of rows).words
  pub count : used ≡ length rows
