-- The tests that question 5 of a table is made of, as the code makes them: row by row.
use Rattle.std.specs.Prelude.{ℕ, suc, Bool, not, ◌&&◌, ◌||◌, ltb, leb, eqb}
use Rattle.rules.specs.Basics.{within}
use Rattle.rules.specs.Sizes.{end_of_days, most_quantity}
use Rattle.rules.specs.Lines.{fee, tariff}

-- "fees one day long, tariff quantities 1"
abbrev pub kind_allows : (kind first end quantity : ℕ) → Bool
kind_allows kind first end quantity = (not (eqb kind fee) || eqb end (suc first)) && (not (eqb kind tariff) || eqb quantity 1)

-- a period's days and quantity within their ranges
abbrev pub days_right : (first end quantity : ℕ) → Bool
days_right first end quantity = ltb first end && (leb end end_of_days && within 1 most_quantity quantity)
