-- One field of the file: "fields of a one-byte tag, a two-byte length, high byte first, and a value". Places are counted from the field's
-- tag.
use Rattle.std.specs.Prelude.{ℕ, ◌+◌, ◌/◌, ◌%◌, ◌≤◌, ◌≡◌, Bool, true, ◌&&◌, ◌||◌, cond, List, [], ◌∷◌, T, leb, ltb, eqb}
use Rattle.std.specs.Prelude.{Option, Some, None}
use lib.ListN.{length}
use Rattle.rules.specs.Sizes.{element_size}
use Rattle.rules.specs.World.{hourly}
use Rattle.rules.specs.declared.Fields.{Fields}
use Rattle.rules.specs.declared.Refusal.TheVariants.{BrokenField}
use Rattle.rules.specs.Answers.{refusal_number}
use Rattle.file.specs.declared.fields.Phase.{Phase}
use Rattle.file.specs.declared.fields.Tag.{Tag}
use Rattle.file.specs.declared.fields.Found.{Found}
use Rattle.file.specs.declared.fields.Found.TheVariants.{Month, Element, Message, End, More, Broken}
use Rattle.file.specs.Bytes.{number_in}

-- ---- by these names a length is a value's, and a size a whole field's

-- tag and length
abbrev pub header_size : ℕ
header_size = 3

-- "Tag 1 (6 bytes ..)"
abbrev pub month_tag : ℕ
month_tag = 1

abbrev pub month_length : ℕ
month_length = 6

abbrev pub month_size : ℕ
month_size = header_size + month_length

-- "Tag 2 (195 where mark 8 is set, else 11)": kind, owner and marks, and 24 prices or one
abbrev pub element_tag : ℕ
element_tag = 2

abbrev pub hourly_length : ℕ
hourly_length = 195

abbrev pub one_price_length : ℕ
one_price_length = 11

-- "prices of 8 bytes"
abbrev pub price_bytes : ℕ
price_bytes = 8

-- "Tag 3 (19 ..)"
abbrev pub message_tag : ℕ
message_tag = 3

abbrev pub message_length : ℕ
message_length = 19

abbrev pub message_size : ℕ
message_size = header_size + message_length

-- the bytes that a header and an element's kind, owner and marks take: no field is shorter
abbrev pub head_size : ℕ
head_size = header_size + element_size

-- ---- the header

unfoldable pub tag_of : (bytes : List ℕ) → ℕ
tag_of bytes = number_in bytes 0 1

unfoldable pub length_of : (bytes : List ℕ) → ℕ
length_of bytes = number_in bytes 1 2

-- the third byte of the value, where tag 2 has its marks
unfoldable pub marks_in : (bytes : List ℕ) → ℕ
marks_in bytes = number_in bytes 5 1

-- a tag's number, and the tag of a number, where it is one of the three
abbrev pub tag_number : Tag → ℕ
tag_number Tag.Month = month_tag
tag_number Tag.Element = element_tag
tag_number Tag.Message = message_tag

abbrev pub tag_numbered : (number : ℕ) → Option Tag
tag_numbered number =
    cond (eqb number month_tag) (Some Tag.Month)
    (cond (eqb number element_tag) (Some Tag.Element)
    (cond (eqb number message_tag) (Some Tag.Message) None))

-- "Tag 1 (.. first, once)", "Tag 3 (.. after all tag 2)"
unfoldable pub tag_allowed : (phase : Phase) → (tag : ℕ) → Bool
tag_allowed Phase.Start tag = eqb tag month_tag
tag_allowed Phase.Elements tag = eqb tag element_tag || eqb tag message_tag
tag_allowed Phase.Messages tag = eqb tag message_tag

unfoldable pub element_length : (marks : ℕ) → ℕ
element_length marks = cond (eqb (marks / hourly % 2) 1) hourly_length one_price_length

unfoldable pub length_due : (tag marks : ℕ) → ℕ
length_due tag marks =
    cond (eqb tag month_tag) month_length (cond (eqb tag element_tag) (element_length marks) message_length)

-- "with tag, length and order as below"
unfoldable pub header_right : (phase : Phase) → (tag length marks : ℕ) → Bool
header_right phase tag length marks = tag_allowed phase tag && eqb length (length_due tag marks)

-- ---- the values, whose places follow from the widths that document 01 lists

-- "kind 1, role 1, sender 1, received 4, point 2, element 1, day 4, hour 1, value 4"
unfoldable pub message_fields : (bytes : List ℕ) → Fields
message_fields bytes =
    record {
      kind = number_in bytes 3 1;
      role = number_in bytes 4 1;
      sender = number_in bytes 5 1;
      received = number_in bytes 6 4;
      point = number_in bytes 10 2;
      element = number_in bytes 12 1;
      day = number_in bytes 13 4;
      hour = number_in bytes 17 1;
      value = number_in bytes 18 4;
    }

-- "year 2, month 1, points 2, suppliers 1"
unfoldable pub month_in : (bytes : List ℕ) → Found
month_in bytes = Month (number_in bytes 3 2) (number_in bytes 5 1) (number_in bytes 6 2) (number_in bytes 8 1)

-- a field that is whole and right
unfoldable pub field_named : (bytes : List ℕ) → Found
field_named bytes =
    cond (eqb (tag_of bytes) month_tag)
    (month_in bytes)
    (cond (eqb (tag_of bytes) element_tag)
    (Element (length_of bytes))
    (Message (message_fields bytes)))

unfoldable pub right_field : (phase : Phase) → (bytes : List ℕ) → Bool
right_field phase bytes = header_right phase (tag_of bytes) (length_of bytes) (marks_in bytes)

unfoldable pub whole_field : (bytes : List ℕ) → Bool
whole_field bytes = leb (header_size + length_of bytes) (length bytes)

-- question 1, "Is the file field whole, with tag, length and order as below?", of all that is left of the input
unfoldable pub field_of : (bytes : List ℕ) → (phase : Phase) → Found
field_of [] phase = End
field_of (b ∷ bytes) phase = cond (whole_field (b ∷ bytes) && right_field phase (b ∷ bytes)) (field_named (b ∷ bytes)) Broken

-- the number of what was found: 1, question 1's, for a field that is broken
abbrev pub found_number : Found → ℕ
found_number (Month year month points suppliers) = 0
found_number (Element length) = 0
found_number (Message fields) = 0
found_number End = 0
found_number More = 0
found_number Broken = refusal_number BrokenField

-- how many bytes the field has: none where there is no whole one
unfoldable pub field_size : Found → ℕ
field_size (Month year month points suppliers) = month_size
field_size (Element length) = header_size + length
field_size (Message fields) = message_size
field_size End = 0
field_size More = 0
field_size Broken = 0

-- ---- the same where the bytes in hand may not be all that is left

-- the input ends after so many bytes of a field, or more follow
unfoldable pub cut_off : (have : ℕ) → (ended : Bool) → Found
cut_off have ended = cond ended (cond (eqb have 0) End Broken) More

unfoldable pub field_in : (bytes : List ℕ) → (phase : Phase) → (ended : Bool) → Found
field_in bytes phase ended =
    cond (ltb (length bytes) head_size) (cut_off (length bytes) ended)
    (cond (right_field phase bytes)
    (cond (whole_field bytes) (field_named bytes) (cut_off (length bytes) ended))
    Broken)

-- the field at the front of the bytes has this tag, and tag, length and order are right
pub record RightTag (phase : Phase) (bytes : List ℕ) (tag : ℕ) : Type 0 where
  pub right : right_field phase bytes ≡ true
  pub tagged : tag ≡ tag_of bytes

-- the field at the front of the bytes has this tag and this length, the one that is due, and is whole
pub record RightField (bytes : List ℕ) (tag length : ℕ) : Type 0 where
  pub tagged : tag ≡ tag_of bytes
  pub sized : length ≡ length_of bytes
  pub due : length ≡ length_due tag (marks_in bytes)
  pub whole : header_size + length ≤ lib.ListN.length bytes

-- an element's value has a price at least
abbrev pub Priced : Found → Type 0
Priced (Month year month points suppliers) = T true
Priced (Element length) = one_price_length ≤ length
Priced (Message fields) = T true
Priced End = T true
Priced More = T true
Priced Broken = T true

-- a field that was found at place `at` ends at place `end` or before, and an element has a price
abbrev pub Inside : (at end : ℕ) → (found : Found) → Type 0
Inside at end found = (at + field_size found ≤ end) × Priced found
