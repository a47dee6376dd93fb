-- What the program `settle` prints for a whole input: document 01's "File and program", over the rules' definitions.
use Rattle.std.specs.Prelude.{ℕ, zero, suc, ◌+◌, cond, ℤ, pos, length, take, drop, replicate, leb, eqb}
use mathlib.Core.List.{List, [], ◌∷◌, ◌++◌, flat_map}
use Rattle.rules.specs.Sizes.{element_size, most_lines}
use Rattle.rules.specs.declared.Fields.{Fields}
use Rattle.rules.specs.declared.Record.{Record}
use Rattle.rules.specs.World.{Opening, World, table_of, month_first, month_days, month_dates}
use Rattle.rules.specs.WellFormed.{reading_count, line_places}
use Rattle.rules.specs.Opening.{opening_answer, opened}
use Rattle.rules.specs.Effects.{ask, answer, step, records_of}
use Rattle.file.specs.declared.fields.Phase.{Phase}
use Rattle.file.specs.declared.fields.Found.{Found}
use Rattle.file.specs.declared.fields.Found.TheVariants.{Month, Element, Message, End, More, Broken}
use Rattle.file.specs.Field.{header_size, month_size, message_size, field_of, found_number}
use Rattle.file.specs.Element.{prices_in}
use Rattle.file.specs.Lines.{book_line, record_line, refused_line}

-- ---- what the program has room for

-- "`settle` takes at most 16 points; more is question 2"
abbrev pub settle_points : ℕ
settle_points = 16

-- "the list holds 1,024": a record for each line
abbrev pub settle_records : ℕ
settle_records = most_lines

-- "Refusals 1 to 4 print `refused 0 N` and end the run; lines printed before stand."
unfoldable pub ended_by : (question : ℕ) → List ℕ
ended_by question = refused_line 0 question

-- ---- messages

-- the lines of some records, one behind the other
abbrev pub record_lines : (records : List Record) → List ℕ
record_lines rs = flat_map record_line rs

-- "An accepted message prints only its records"; "`refused`: message number from 1, question."
unfoldable pub answered : (world : World) → (message : Fields) → (number : ℕ) → List ℕ
answered w f number =
    cond (eqb (answer w f settle_records) 0)
    (record_lines (records_of w f settle_records))
    (refused_line number (answer w f settle_records))

-- a message, and what is printed behind it from the next world on
unfoldable pub on_message : (found : Found) → (world : World) → (number : ℕ) → (more : World → List ℕ) → List ℕ
on_message (Message f) w number more = answered w f number ++ more (step w f settle_records)
on_message End w number more = []
on_message (Month year month points suppliers) w number more = ended_by 1
on_message (Element size) w number more = ended_by 1
on_message More w number more = ended_by 1
on_message Broken w number more = ended_by (found_number Broken)

-- at most `most` fields: no input has more fields than bytes
unfoldable pub messages_from : (most : ℕ) → (bytes : List ℕ) → (world : World) → (number : ℕ) → List ℕ
messages_from zero bytes w number = []
messages_from (suc most) bytes w number =
    on_message (field_of bytes Phase.Messages) w number
    (λ after. messages_from most (drop message_size bytes) after (suc number))

-- ---- the opening

-- tag 1
pub record Heading : Type 0 where
  pub year : ℕ
  pub month : ℕ
  pub points : ℕ
  pub suppliers : ℕ

-- three bytes and 24 prices of each element
unfoldable pub described_all : (values : List (List ℕ)) → List ℕ
described_all [] = []
described_all (value ∷ values) = take element_size value ++ described_all values

unfoldable pub prices_all : (values : List (List ℕ)) → List ℤ
prices_all [] = []
prices_all (value ∷ values) = prices_in value ++ prices_all values

-- the month with the elements whose values were read, in the order of the file
unfoldable pub collected : (heading : Heading) → (values : List (List ℕ)) → Opening
collected h values =
    record {
      year = h.year;
      month = h.month;
      points = h.points;
      suppliers = h.suppliers;
      elements = length values;
      element_data = described_all values;
      prices = prices_all values;
    }

-- the tables that the program lends: each of its exact length
unfoldable pub lent_for : Opening → World
lent_for o =
    record {
      opening = o;
      position = record {
        tables = record {
          links = table_of [];
          holders = table_of [];
          states = table_of [];
          readings = replicate (reading_count o) 0;
          blocks = replicate o.points 0;
        };
        lines = replicate (line_places o) (pos 0);
      };
      sent = record { totals = replicate (line_places o) (pos 0); round = 1 };
      dates = month_dates o;
    }

-- "no tag 2 question 2", since an opening without elements is
unfoldable pub settle_answer : Opening → ℕ
settle_answer o = ask (leb o.points settle_points) 2 (opening_answer (lent_for o))

-- "The book opens, printing its line": "`book`: year, month, days, first day."; "2 to 4 are asked then"
unfoldable pub open_then : Opening → (more : World → List ℕ) → List ℕ
open_then o more =
    cond (eqb (settle_answer o) 0)
    (book_line o.year o.month (month_days o) (month_first o) ++ more (opened (lent_for o)))
    (ended_by (settle_answer o))

-- ---- elements

-- "at the first whole message field or the end"; what is printed from the next element on, and from a message on
unfoldable pub on_element : (found : Found) → (bytes : List ℕ) → (heading : Heading) → (values : List (List ℕ))
    → (more : (next : ℕ) → List (List ℕ) → List ℕ) → (messages : World → List ℕ) → List ℕ
on_element (Element size) bytes h values more messages = more (header_size + size) (values ++ (take size (drop header_size bytes) ∷ []))
on_element (Message f) bytes h values more messages = open_then (collected h values) messages
on_element End bytes h values more messages = open_then (collected h values) (λ w. [])
on_element (Month year month points suppliers) bytes h values more messages = ended_by 1
on_element More bytes h values more messages = ended_by 1
on_element Broken bytes h values more messages = ended_by (found_number Broken)

unfoldable pub elements_from : (most : ℕ) → (bytes : List ℕ) → (heading : Heading) → (values : List (List ℕ)) → List ℕ
elements_from zero bytes h values = []
elements_from (suc most) bytes h values =
    on_element (field_of bytes Phase.Elements) bytes h values
    (λ next read. elements_from most (drop next bytes) h read)
    (λ w. messages_from (suc most) bytes w 1)

-- ---- the program

-- "No tag 1 is question 1"
unfoldable pub on_month : (found : Found) → (more : Heading → List ℕ) → List ℕ
on_month (Month year month points suppliers) more =
    more (record { year = year; month = month; points = points; suppliers = suppliers })
on_month (Element size) more = ended_by 1
on_month (Message f) more = ended_by 1
on_month End more = ended_by 1
on_month More more = ended_by 1
on_month Broken more = ended_by (found_number Broken)

unfoldable pub settled : (bytes : List ℕ) → List ℕ
settled bytes = on_month (field_of bytes Phase.Start) (λ h. elements_from (length bytes) (drop month_size bytes) h [])
