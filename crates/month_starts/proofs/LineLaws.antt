-- Lines of numbers: one more line behind the others, and the text that stands at the front of what was written.
use Prim.Native.Nat.{ℕ, ◌+◌, ◌*◌, ◌<◌}
use mathlib.Core.Path.{◌≡◌}
use mathlib.Core.List.{List}
use lib.ListN.{length, get_or, take}
use lib.Seq.{take-suc}
use native.Mathlib.Nat.{suc-mul}
use native.Mathlib.Numerals.{add-one}
use native.Mathlib.Omega.{arith}
use Rattle.file.specs.declared.output.Text.{Text}
use Rattle.file.specs.Lines.{number_width, Written, Puts}
use Rattle.file.proofs.PlacedLaws.{placed-front, texts_more}
use Rattle.file.proofs.TextLaws.{puts_then}
use Rattle.month_starts.specs.MonthStarts.{number_line, number_lines}

pub line_more : (numbers : List ℕ) (i : ℕ) {a b c : Text} → i < length numbers
    → Puts (i * number_width) a b (number_lines (take i numbers)) → Puts number_width b c (number_line (get_or numbers i 0))
    → Puts ((i + 1) * number_width) a c (number_lines (take (i + 1) numbers))
line_more numbers i less v w =
    rw (add-one i, take-suc numbers i 0 less, suc-mul i number_width, texts_more number_line (take i numbers) (get_or numbers i 0))
    (puts_then v w)

-- what was written from the first place on is the front
pub text-front : {most n : ℕ} {a b text : List ℕ} → Written most a b 0 n text → take n b ≡ text
text-front {n = n} {a = a} {text = text} w = rw w.is (placed-front a 0 text n (omega arith) w.end)
