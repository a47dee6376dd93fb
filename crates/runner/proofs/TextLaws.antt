-- What a message leaves and prints, from what the message itself promises: the lines of its records one behind the other, or its refusal.
use Prim.Native.Nat.{ℕ, ◌+◌, ◌*◌, ◌≤◌, ◌<◌}
use native.Mathlib.Numerals.{add-one}
use native.Mathlib.Omega.{arith}
use mathlib.Core.Path.{◌≡◌, refl, ap, ◌∙◌}
use mathlib.Core.List.{List, ◌++◌, flat_map}
use lib.IntN.{ℤ}
use lib.ListN.{length, get_or, take}
use lib.Seq.{take_at}
use borrow.Author.Tests.{ne_eqb}
use Rattle.rules.specs.Sizes.{record_size}
use Rattle.rules.specs.declared.Fields.{Fields}
use Rattle.rules.specs.declared.Record.{Record}
use Rattle.rules.specs.Answers.{refusal_number, number_of}
use Rattle.rules.specs.declared.Refusal.{Refusal}
use Rattle.std.specs.Prelude.{Result, Ok, Err, cond, eqb}
use Rattle.validation.proofs.Next.{refuses}
use Rattle.rules.specs.Basics.{list_to}
use Rattle.rules.specs.World.{World}
use Rattle.rules.specs.Effects.{records_of}
use Rattle.rules.proofs.Passed.{records_fit}
use Rattle.rules.proofs.Ranges.{length-list_to, get_d_list_to}
use Rattle.ledger.specs.RecordNumbers.{record_at, RecordPlaces, numbers_after}
use Rattle.ledger.proofs.RecordNumbers.{records-read, records-placed}
use Rattle.settlement.specs.Replies.{room_in, count_of, Replied}
use Rattle.file.specs.Lines.{record_line, refused_line, longest_line, Written}
use Rattle.file.specs.Program.{settle_records, record_lines, answered}
use Rattle.file.proofs.PlacedLaws.{nothing_written, text_more}
use Rattle.runner.specs.Texts.{reply_text}

-- ---- the lines of the first records

module _ (numbers : List ℤ) where
  pub no_lines : (out : List ℕ) (from : ℕ) → Written (0 * longest_line) out out from from (record_lines (list_to (record_at numbers) 0))
  unfolding flat_map list_to
  no_lines out from = nothing_written 0 out from

  pub line_more : (i : ℕ) (a b c : List ℕ) (from at next : ℕ)
      → Written (i * longest_line) a b from at (record_lines (list_to (record_at numbers) i))
      → (r : Record) → r ≡ record_at numbers i → Written longest_line b c at next (record_line r) → from + i * longest_line ≤ length a
      → Written ((i + 1) * longest_line) a c from next (record_lines (list_to (record_at numbers) (i + 1)))
  unfolding list_to
  line_more i a b c from at next v r e w room =
      rw (add-one i) (text_more record_line longest_line i (list_to (record_at numbers) i) (record_at numbers i) v (rw e at w) room)

-- the front of a list that begins with them
module _ (f : ℕ → Record) (count i : ℕ) (rest list : List Record) (e : list ≡ list_to f count ++ rest) where
  front_is : take count list ≡ list_to f count
  front_is = rw e (take_at (list_to f count) rest count (length-list_to f count))

  pub listed-below : i < length (take count list) → i < count
  listed-below less = rw (front_is, length-list_to f count) at less

  pub listed_at : (other : Record) → i < count → get_or (take count list) i other ≡ f i
  listed_at other less = rw front_is (get_d_list_to f count i other less)

-- ---- the records of a message

-- with a list for 1,024 records
text_of : (r : Result ℕ Refusal) (message : ℕ) (numbers : List ℤ)
    → reply_text r message numbers
    ≡ cond (eqb (number_of r) 0) (record_lines (list_to (record_at numbers) (count_of r))) (refused_line message (number_of r))
text_of (Ok n) message numbers = refl
text_of (Err e) message numbers = let h = refuses e in rw (ne_eqb (refusal_number e) 0 (omega arith))

module _ (w after : World) (f : Fields) (r : Result ℕ Refusal) (lent out : List ℤ)
    (long : length lent ≡ settle_records * record_size) (p : Replied w after f r lent out) where
  room-is : room_in lent ≡ settle_records
  room-is = omega arith

  count-is : count_of r ≡ length (records_of w f settle_records)
  count-is = p.count ∙ ap (λ (n : ℕ). length (records_of w f n)) room-is

  list-is : out ≡ numbers_after (records_of w f settle_records) lent
  list-is = p.list ∙ ap (λ (n : ℕ). numbers_after (records_of w f n) lent) room-is

  pub few-records : count_of r ≤ settle_records
  few-records = let h = records_fit w f settle_records in let e = count-is in omega arith

  pub placed-records : (i : ℕ) → i < count_of r → RecordPlaces out i
  placed-records i l = rw list-is (records-placed (records_of w f settle_records) lent i (let e = count-is in omega arith))

  read-records : list_to (record_at out) (count_of r) ≡ records_of w f settle_records
  read-records = rw (count-is, list-is) (records-read (records_of w f settle_records) lent)

  -- what is printed is the definition's text
  pub reply_text_lem : (message : ℕ) → reply_text r message out ≡ answered w f message
  unfolding answered
  reply_text_lem message = text_of r message out ∙ rw (p.number, room-is, read-records)
