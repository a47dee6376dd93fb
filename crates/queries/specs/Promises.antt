-- What the queries for lines and periods promise, each as one record of equations with the rules' definitions. The query for a day promises
-- one equation, with `day_query`.
use Rattle.std.specs.Prelude.{ℕ, ◌+◌, ◌≤◌, ◌≡◌, Result, is_ok, List, eqb, length, take, drop}
use Rattle.rules.specs.declared.Line.{Line}
use Rattle.rules.specs.declared.Refusal.{Refusal}
use Rattle.rules.specs.World.{World, rows_of, InBook}
use Rattle.rules.specs.Opening.{opening_answer}
use Rattle.rules.specs.Queries.{line_number, line_query, line_given, own_line, periods_query}
use Rattle.rules.specs.Answers.{line_result}
use Rattle.rules.specs.Fresh.{fresh_facts}
use Rattle.rules.specs.Claim.{Event, reached}
use Rattle.queries.specs.PairSearch.{pair_place}

-- "For a book reached from opening, the promise of a line query names both numbers by this rule; for another book that passes question 5 it
-- names the stored line."
pub record LineAnswered (w : World) (supplier element : ℕ) (r : Result Line Refusal) : Type 0 where
  pub told : is_ok r ≡ eqb (line_number w supplier element) 0
  pub stored : line_result r ≡ line_query w supplier element
  -- for a book reached from an opening: the rules' sums of its own tables, which are those of fresh settlement
  pub sums : (w₀ : World) (vs : List Event) → opening_answer w₀ ≡ 0 → w ≡ (reached w₀ vs).world → InBook w₀.opening supplier element
      → line_result r ≡ own_line w supplier element
  pub settled : (w₀ : World) (vs : List Event) → opening_answer w₀ ≡ 0 → w ≡ (reached w₀ vs).world → InBook w₀.opening supplier element
      → line_result r ≡ line_given w₀.opening (fresh_facts (reached w₀ vs).fresh) supplier element

-- the part of the link table that holds a point and an element: behind the rows in use of earlier points and elements, as many rows as
-- there are
pub record PeriodsAt (w : World) (point element : ℕ) (place count : ℕ) : Type 0 where
  pub from : place ≡ pair_place point element (rows_of w.position.tables.links)
  pub many : count ≡ length (periods_query w point element)
  pub rows : take count (drop place w.position.tables.links.words) ≡ periods_query w point element
  pub within : place + count ≤ w.position.tables.links.used
