-- What each exported function promises of the numbers that it gives: equations with the rules' definitions.
use Rattle.std.specs.Prelude.{ℕ, ◌≡◌, ◌≢◌, true, cond, List, ℤ, length, eqb}
use Rattle.rules.specs.declared.Fields.{Fields}
use Rattle.rules.specs.Lines.{Measure, line}
use Rattle.rules.specs.World.{World, book_of, terms_of, InBook}
use Rattle.rules.specs.Opening.{opening_answer, after_opening}
use Rattle.rules.specs.Effects.{answer, step, records_of}
use Rattle.rules.specs.Queries.{line_number, line_query, line_given, own_line, periods_number, periods_read, day_number, day_query}
use Rattle.rules.specs.Packed.{numbers_right, owned_sum, in_ore, packed_size, packed, read_packed, sum_number, sum_written, read_number}
use Rattle.rules.specs.Fresh.{fresh_facts}
use Rattle.rules.specs.Claim.{Event, reached}
use Rattle.ledger.specs.RecordNumbers.{numbers_after}
use Rattle.queries.specs.Promises.{PeriodsAt}
use Rattle.settlement.specs.Replies.{room_in}
use Rattle.settlement_book.specs.Numbers.{numbers_in, line_numbers, day_after, amount_after}

-- an opening of the world w that leaves the world after, and of the book's numbers
pub record OpensIn (w after : World) (lent out : List ℕ) (r : ℕ) : Type 0 where
  pub number : r ≡ opening_answer w
  pub book : out ≡ cond (eqb (opening_answer w) 0) (numbers_in (book_of w)) lent
  pub world : after ≡ after_opening w

-- a message: the answer, everything lent, the records at the front of the list, and how many there are, n₀ being the count as it was lent
pub record RepliesIn (w after : World) (f : Fields) (r n₀ n : ℕ) (lent out : List ℤ) : Type 0 where
  pub number : r ≡ answer w f (room_in lent)
  pub world : after ≡ step w f (room_in lent)
  pub list : out ≡ numbers_after (records_of w f (room_in lent)) lent
  pub count : n ≡ cond (eqb (answer w f (room_in lent)) 0) (length (records_of w f (room_in lent))) n₀

-- the line query; for a book reached from an opening the line's numbers are the rules' sums of its own tables, which are those of fresh
-- settlement
pub record LineIn (w : World) (supplier element : ℕ) (r : ℕ) (lent out : List ℤ) : Type 0 where
  pub number : r ≡ line_number w supplier element
  pub numbers : out ≡ cond (eqb (line_number w supplier element) 0) (line_numbers (line_query w supplier element)) lent
  pub sums : (w₀ : World) (vs : List Event) → opening_answer w₀ ≡ 0 → w ≡ (reached w₀ vs).world → InBook w₀.opening supplier element
      → out ≡ line_numbers (own_line w supplier element)
  pub settled : (w₀ : World) (vs : List Event) → opening_answer w₀ ≡ 0 → w ≡ (reached w₀ vs).world → InBook w₀.opening supplier element
      → out ≡ line_numbers (line_given w₀.opening (fresh_facts (reached w₀ vs).fresh) supplier element)

-- the periods of a point and element: where they stand in the link table, and how many there are, p₀ and n₀ being both as they were lent;
-- and how many periods were read
pub record PeriodsIn (w : World) (point element : ℕ) (r p₀ p n₀ n told : ℕ) : Type 0 where
  pub number : r ≡ periods_number w point element
  pub refused : r ≢ 0 → (p ≡ p₀) × (n ≡ n₀)
  pub answered : r ≡ 0 → PeriodsAt w point element p n
  pub read : told ≡ periods_read w point element

-- the query for the earliest day without a holder: its number, and the day
pub record DayIn (w : World) (point : ℕ) (r lent out : ℕ) : Type 0 where
  pub number : r ≡ day_number w point
  pub day : out ≡ day_after (day_query w point) lent

-- the sum of a supplier and an owner as packed decimal: the number, and the lent bytes. For a book reached from an opening, with eight
-- bytes and a supplier and an owner that there are, no question says no, and the sum is that of fresh settlement's lines
pub record PackedIn (w : World) (supplier owner : ℕ) (r : ℕ) (lent out : List ℕ) : Type 0 where
  pub number : r ≡ sum_number w supplier owner (length lent)
  pub bytes : out ≡ sum_written w supplier owner lent
  pub settled : (w₀ : World) (vs : List Event) → opening_answer w₀ ≡ 0 → w ≡ (reached w₀ vs).world
      → numbers_right w₀.opening.suppliers supplier owner ≡ true → length lent ≡ packed_size
      → (r ≡ 0) × (out ≡ packed (in_ore (owned_sum w₀.opening owner
      (λ e. line (terms_of w₀.opening) (fresh_facts (reached w₀ vs).fresh) Measure.amount supplier e))))

-- packed decimal, read: the number, and the lent amount in øre
pub record ReadIn (bytes : List ℕ) (r : ℕ) (lent out : ℤ) : Type 0 where
  pub number : r ≡ read_number (read_packed bytes)
  pub amount : out ≡ amount_after (read_packed bytes) lent
