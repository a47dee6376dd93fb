-- Laws of a text that grows in a list: two pieces are one, and what the list holds where the text ends, by the laws of placed lists. And
-- std's text of a number of 64 bits is ours, digit by digit. Assumes nothing.
use Rattle.std.proofs.Common.{◌≡◌, ℕ, suc, ◌+◌, ◌^◌, ◌<◌, ◌≤◌, List, [], ◌++◌, length, refl, ◌∙◌, sym, arith}
use Rattle.std.proofs.lemmas.Fmt.{decimal_digit, decimal_step, length_signed_le}
use Rattle.std.specs.Fmt.{decimal as std_decimal, signed_decimal as std_signed}
use lib.IntN.{ℤ, pos, negsuc}
use mir.Syntax.{w64}
use mir.Facts.{to_z-of_z}
use mir.Val.{SFits, of_z, to_z}
use Rattle.file.specs.declared.output.Text.{Text}
use Rattle.file.specs.Decimal.{decimal, signed_decimal}
use Rattle.file.specs.Lines.{Written, Puts}
use Rattle.file.proofs.DecimalLaws.{decimal-small, decimal_more, by_digits}
use Rattle.file.proofs.PlacedLaws.{nothing_written, joined, loosened}

pub no_text : (text : Text) → text.at ≤ length text.out.now → Puts 0 text text []
no_text text h = record { same_reference = refl; long = refl; within = h; written = nothing_written 0 text.out.now text.at }

pub puts_then : {j k : ℕ} {a b c : Text} {t u : List ℕ} → Puts j a b t → Puts k b c u → Puts (j + k) a c (t ++ u)
puts_then {a = a} {b = b} {t = t} v w =
    let room : a.at + length t ≤ length a.out.now = omega (arith, v.long, v.within, v.written.end) in
    record {
      same_reference = w.same_reference ∙ v.same_reference;
      long = w.long ∙ v.long;
      within = w.within;
      written = joined v.written w.written room;
    }

-- what was lent, once the text has ended
pub lent_back : {j most : ℕ} {a b : Text} {t left : List ℕ} → Puts j a b t → j ≤ most
    → (a.out.ghost_name ≡ b.out.ghost_name → left ≡ b.out.now) → Written most a.out.now left a.at b.at t
lent_back v h back = rw (back (sym v.same_reference)) (loosened h v.written)

pub looser : {j k : ℕ} {a b : Text} {t : List ℕ} → j ≤ k → Puts j a b t → Puts k a b t
looser h v =
    record {
      same_reference = v.same_reference;
      long = v.long;
      within = v.within;
      written = loosened h v.written;
    }

-- ---- std's text of a number

pub printed : (n : ℕ) → n < 2 ^ 64 → std_decimal n ≡ decimal n
printed = by_digits {P = λ m. m < 2 ^ 64 → std_decimal m ≡ decimal m}
    (λ m s h. decimal_digit m s ∙ sym (decimal-small m s))
    (λ m s p h. rw (decimal_step m s h, p (omega arith), decimal_more m s))

signed-same : (z : ℤ) → SFits w64 z → std_signed z ≡ signed_decimal z
unfolding signed_decimal
signed-same (pos n) f = printed n (omega (arith, f.sfits))
signed-same (negsuc n) f = rw (printed (suc n) (omega (arith, f.sfits)))

-- of a signed number as the code passes it, by its bits
pub signed_printed : (z : ℤ) → SFits w64 z → std_signed (to_z w64 (of_z w64 z)) ≡ signed_decimal z
signed_printed z h = rw (to_z-of_z h) (signed-same z h)

pub signed-short : (z : ℤ) → SFits w64 z → length (signed_decimal z) ≤ 21
signed-short z h = rw (signed-same z h) at (length_signed_le 20 z (omega (arith, h.sfits)) (omega (arith, h.sfits)))
