-- The lines that the program prints.
use Rattle.std.specs.Prelude.{ℕ, ◌+◌, ◌≤◌, ◌≡◌, List, [], ◌∷◌, ◌++◌, ℤ, length}
use Rattle.rules.specs.declared.Line.{Line}
use Rattle.rules.specs.declared.Record.{Record}
use Rattle.file.specs.declared.output.Text.{Text}
use Rattle.file.specs.Bytes.{placed}
use Rattle.file.specs.Decimal.{decimal, signed_decimal}

abbrev pub space : ℕ
space = 32

abbrev pub newline : ℕ
newline = 10

-- "book ", "record ", "refused "
abbrev pub book_word : List ℕ
book_word = 98 ∷ 111 ∷ 111 ∷ 107 ∷ 32 ∷ []

abbrev pub record_word : List ℕ
record_word = 114 ∷ 101 ∷ 99 ∷ 111 ∷ 114 ∷ 100 ∷ 32 ∷ []

abbrev pub refused_word : List ℕ
refused_word = 114 ∷ 101 ∷ 102 ∷ 117 ∷ 115 ∷ 101 ∷ 100 ∷ 32 ∷ []

-- a number with what stands behind it
abbrev pub number_then : (n after : ℕ) → List ℕ
number_then n after = decimal n ++ (after ∷ [])

abbrev pub signed_then : (z : ℤ) → (after : ℕ) → List ℕ
signed_then z after = signed_decimal z ++ (after ∷ [])

-- "`book`: year, month, days, first day."
unfoldable pub book_line : (year month days first : ℕ) → List ℕ
book_line year month days first =
    book_word ++ number_then year space ++ number_then month space ++ number_then days space ++ number_then first newline

-- a quantity and an amount with what stands behind them
unfoldable pub measures_then : Line → (after : ℕ) → List ℕ
measures_then l after = signed_then l.quantity space ++ signed_then l.kroner space ++ number_then l.billionths after

-- "`record`: kind, supplier, element, quantity, kroner, billionths."
unfoldable pub record_names : (kind supplier element : ℕ) → List ℕ
record_names kind supplier element = record_word ++ number_then kind space ++ number_then supplier space ++ number_then element space

-- "`settle` prints the three new numbers at the end of each record line"
unfoldable pub record_line : Record → List ℕ
record_line r =
    record_names r.kind r.supplier r.element ++ measures_then r.moved space ++ measures_then r.balance newline

-- "`refused`: message number from 1, question."
unfoldable pub refused_line : (message question : ℕ) → List ℕ
refused_line message question = refused_word ++ number_then message space ++ number_then question newline

-- ---- how long a text of 64-bit numbers is at most

-- 2^64 - 1 has 20 digits
abbrev pub most_digits : ℕ
most_digits = 20

-- a number, without a sign and with one, and what stands behind it
abbrev pub number_width : ℕ
number_width = most_digits + 1

abbrev pub signed_width : ℕ
signed_width = number_width + 1

-- "record " and three numbers
abbrev pub names_width : ℕ
names_width = length record_word + number_width + number_width + number_width

-- a quantity, kroner and billionths
abbrev pub measures_width : ℕ
measures_width = signed_width + signed_width + number_width

-- a record's line is the longest: 200
abbrev pub longest_line : ℕ
longest_line = names_width + measures_width + measures_width

-- a text of at most `most` bytes was written from a place on, and `next` is the place behind it
pub record Written (most : ℕ) (before after : List ℕ) (at next : ℕ) (text : List ℕ) : Type 0 where
  pub is : after ≡ placed before at text
  pub end : next ≡ at + length text
  pub short : length text ≤ most

-- a text that grows in a list has room for so many bytes more
abbrev pub HasRoom : Text → (most : ℕ) → Type 0
HasRoom text most = text.at + most ≤ length text.out.now

-- more of it, at most `most` bytes, was put behind what there was of it, in the same list
pub record Puts (most : ℕ) (before after : Text) (more : List ℕ) : Type 0 where
  pub same_reference : after.out.ghost_name ≡ before.out.ghost_name
  pub long : length after.out.now ≡ length before.out.now
  pub within : after.at ≤ length after.out.now
  pub written : Written most before.out.now after.out.now before.at after.at more
