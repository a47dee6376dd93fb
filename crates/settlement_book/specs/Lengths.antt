-- The lengths of all that is lent, and what follows from questions 2 and 3.
use Rattle.std.specs.Prelude.{◌*◌, ◌≤◌, ◌≡◌, length}
use Rattle.rules.specs.declared.Lent.{Lent}
use Rattle.rules.specs.Sizes.{element_size, line_size}
use Rattle.rules.specs.Lent.{Lists, lent_opening}
use Rattle.rules.specs.Whole.{Limits}
use Rattle.settlement_book.specs.declared.questions.Lengths.{Lengths}

abbrev pub lengths_of : Lists → Lengths
lengths_of o =
    record {
      element_data = length o.element_data;
      prices = length o.prices;
      links = length o.links;
      holders = length o.holders;
      states = length o.states;
      readings = length o.readings;
      blocks = length o.blocks;
      lines = length o.lines;
      sent = length o.sent;
    }

-- counts within their limits, and tables that are long enough for the rows and lines in use
pub record Measured (l : Lent) : Type 0 where
  pub limits : Limits (lent_opening l)
  pub element_data : length l.element_data.now ≡ l.book.elements * element_size
  pub periods : l.book.periods ≤ length l.links.now
  pub holders : l.book.holders ≤ length l.holders.now
  pub states : l.book.states ≤ length l.states.now
  pub lines : length l.lines.now ≡ l.book.suppliers * l.book.elements * line_size
  pub sent : length l.sent.now ≡ l.book.suppliers * l.book.elements * line_size
