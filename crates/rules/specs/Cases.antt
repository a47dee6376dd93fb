-- The twelve marked cases of "Both sides of the line", as one table: what the definitions give, and what document 01 states.
use Rattle.std.specs.Prelude.{ℕ, List, [], ◌∷◌, map, Bool, true, false, ◌&&◌, ℤ, pos, negsuc, eqb, replicate}
use Rattle.calendar.specs.Gregorian.{first_day}
use Rattle.rules.specs.declared.Fields.{Fields}
use Rattle.rules.specs.Rows.{pack_period, period_first, period_end, period_quantity, pack_value}
use Rattle.rules.specs.Lines.{day_price}
use Rattle.rules.specs.Sizes.{state_size}
use Rattle.rules.specs.World.{World, rows_of, table_of, connected}
use Rattle.rules.specs.Effects.{answer, step}

-- March 2024, one point, one supplier, one subscription of the grid company's at 20,000,000, with these periods and states. Nobody holds
-- the point, so the line is 0.
unfoldable pub case_book : (periods states : List ℕ) → World
case_book links states =
    record {
      opening = record {
        year = 2024;
        month = 3;
        points = 1;
        suppliers = 1;
        elements = 1;
        element_data = 1 ∷ 1 ∷ 0 ∷ [];
        prices = pos 20000000 ∷ replicate 23 (pos 0);
      };
      position = record {
        tables = record {
          links = table_of links;
          holders = table_of [];
          states = table_of states;
          readings = replicate 744 0;
          blocks = 0 ∷ [];
        };
        lines = replicate 3 (pos 0);
      };
      sent = record { totals = replicate 3 (pos 0); round = 1 };
      dates = record { first = 8826; days = 31 };
    }

-- as its opening leaves it
unfoldable pub empty_book : World
empty_book = case_book [] []

-- "One subscription linked from 8830, point connected from 8826": what two messages make of it (`first-book` in proofs/MarkedCases.antt)
unfoldable pub first_book : World
first_book = case_book (pack_period 0 0 8830 36525 1 ∷ []) (pack_value state_size 0 8826 connected ∷ [])

-- a message about point 0 and element 0 from the grid company, received 8826
unfoldable pub message : (kind day value : ℕ) → Fields
message kind day value =
    record { kind = kind; role = 1; sender = 0; received = 8826; point = 0; element = 0; day = day; hour = 0; value = value }

unfoldable pub after : World → Fields → World
after w f = step w f 0

-- the first day, end day and quantity of each period
unfoldable pub periods : List ℕ → List ℤ
periods [] = []
periods (r ∷ rs) = pos (period_first r) ∷ pos (period_end r) ∷ pos (period_quantity r) ∷ periods rs

-- the answer to a message, and the periods afterwards
unfoldable pub answer_and_periods : World → Fields → List ℤ
answer_and_periods w f = pos (answer w f 0) ∷ periods (rows_of (after w f).position.tables.links)

pub record Case : Type 0 where
  pub given : List ℤ
  pub stated : List ℤ

unfoldable pub naturals : List ℕ → List ℤ
naturals ns = map pos ns

unfoldable pub cases : List Case
cases =
    -- 1 February 2024 is 8797, 1 March 8826, 1 April 8857
    record { given = naturals (first_day 2024 2 ∷ first_day 2024 3 ∷ first_day 2024 4 ∷ []); stated = naturals (8797 ∷ 8826 ∷ 8857 ∷ []) }
    -- 20,000,000 over 31 days: 645,161; over 28: 714,286
    ∷ record { given = day_price (pos 20000000) 31 ∷ day_price (pos 20000000) 28 ∷ []; stated = naturals (645161 ∷ 714286 ∷ []) }
    -- 15 over 30: 1
    ∷ record { given = day_price (pos 15) 30 ∷ []; stated = pos 1 ∷ [] }
    -- −15: −1
    ∷ record { given = day_price (negsuc 14) 30 ∷ []; stated = negsuc 0 ∷ [] }
    -- 14: 0
    ∷ record { given = day_price (pos 14) 30 ∷ []; stated = pos 0 ∷ [] }
    -- again on 8830: 13
    ∷ record { given = answer_and_periods first_book (message 1 8830 1); stated = naturals (13 ∷ 8830 ∷ 36525 ∷ 1 ∷ []) }
    -- on 8829: accepted, covers 8829 alone
    ∷ record { given = answer_and_periods first_book (message 1 8829 1); stated = naturals (0 ∷ 8829 ∷ 8830 ∷ 1 ∷ 8830 ∷ 36525 ∷ 1 ∷ []) }
    -- stop on 8830: 14
    ∷ record { given = answer_and_periods first_book (message 2 8830 0); stated = naturals (14 ∷ 8830 ∷ 36525 ∷ 1 ∷ []) }
    -- stop on 8831: leaves 8830
    ∷ record { given = answer_and_periods first_book (message 2 8831 0); stated = naturals (0 ∷ 8830 ∷ 8831 ∷ 1 ∷ []) }
    -- after that stop: a link from 8831 is accepted
    ∷ record {
      given = answer_and_periods (after first_book (message 2 8831 0)) (message 1 8831 1);
      stated = naturals (0 ∷ 8830 ∷ 8831 ∷ 1 ∷ 8831 ∷ 36525 ∷ 1 ∷ []);
    }
    -- quantity on 8835 splits
    ∷ record { given = answer_and_periods first_book (message 3 8835 2); stated = naturals (0 ∷ 8830 ∷ 8835 ∷ 1 ∷ 8835 ∷ 36525 ∷ 2 ∷ []) }
    -- quantity on 8829: 15
    ∷ record { given = answer_and_periods first_book (message 3 8829 2); stated = naturals (15 ∷ 8830 ∷ 36525 ∷ 1 ∷ []) }
    ∷ []

-- ---- a case holds where the two lists are the same

unfoldable pub same_number : (x y : ℤ) → Bool
same_number (pos m) (pos n) = eqb m n
same_number (pos m) (negsuc n) = false
same_number (negsuc m) (pos n) = false
same_number (negsuc m) (negsuc n) = eqb m n

unfoldable pub same_numbers : (xs ys : List ℤ) → Bool
same_numbers [] [] = true
same_numbers [] (y ∷ ys) = false
same_numbers (x ∷ xs) [] = false
same_numbers (x ∷ xs) (y ∷ ys) = same_number x y && same_numbers xs ys

unfoldable pub holds : Case → Bool
holds c = same_numbers c.given c.stated
