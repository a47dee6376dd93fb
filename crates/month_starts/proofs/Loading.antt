-- What is printed can be loaded: a system that reads the digits of each line up to its end gets the numbers back. By the digits of each
-- number, then by recursion over the numbers. A check of the definition, which no other proof cites.
use Prim.Native.Nat.{ℕ, ◌+◌, ◌-◌, ◌*◌, ◌/◌, ◌%◌}
use mathlib.Core.Path.{◌≡◌, refl, ap, ◌∙◌}
use mathlib.Core.Bool.{cond}
use mathlib.Core.List.{List, [], ◌∷◌, ◌++◌, flat_map, append_assoc}
use lib.Dec.{eqb}
use native.Mathlib.Omega.{arith}
use borrow.Author.Tests.{ne_eqb}
use Rattle.file.specs.Lines.{newline}
use Rattle.file.specs.Decimal.{decimal, digit, zero_digit}
use Rattle.file.proofs.DecimalLaws.{decimal-small, decimal_more, by_digits}
use Rattle.month_starts.specs.MonthStarts.{month_starts, number_lines, month_text}

-- the numbers of a text, where the digits of its first line that were read already are n
unfoldable pub loaded_behind : (n : ℕ) → (text : List ℕ) → List ℕ
loaded_behind n [] = []
loaded_behind n (c ∷ cs) = cond (eqb c newline) (n ∷ loaded_behind 0 cs) (loaded_behind (n * 10 + (c - zero_digit)) cs)

abbrev pub loaded : (text : List ℕ) → List ℕ
loaded text = loaded_behind 0 text

-- a digit is no line end
digit-read : (n d : ℕ) (cs : List ℕ) → loaded_behind n (digit d ∷ cs) ≡ loaded_behind (n * 10 + d) cs
unfolding loaded_behind
digit-read n d cs =
    let same : n * 10 + (digit d - zero_digit) ≡ n * 10 + d = omega arith in
    rw (ne_eqb (digit d) newline (λ e. omega arith)) (ap (λ (k : ℕ). loaded_behind k cs) same)

number_read : (n : ℕ) (cs : List ℕ) → loaded (decimal n ++ cs) ≡ loaded_behind n cs
number_read = by_digits {P = λ m. (cs : List ℕ) → loaded (decimal m ++ cs) ≡ loaded_behind m cs}
    (λ m s cs. let e : 0 * 10 + m ≡ m = omega arith in
    rw (decimal-small m s) (digit-read 0 m cs ∙ ap (λ (k : ℕ). loaded_behind k cs) e))
    (λ m s p cs. let e : m / 10 * 10 + m % 10 ≡ m = omega arith in
    rw (decimal_more m s, append_assoc (decimal (m / 10)) (digit (m % 10) ∷ []) cs)
    (p (digit (m % 10) ∷ cs) ∙ digit-read (m / 10) (m % 10) cs ∙ ap (λ (k : ℕ). loaded_behind k cs) e))

pub lines_loaded : (ns : List ℕ) → loaded (number_lines ns) ≡ ns
unfolding flat_map loaded_behind
lines_loaded [] = refl
lines_loaded (n ∷ ns) =
    rw (append_assoc (decimal n) (newline ∷ []) (number_lines ns))
    (number_read n (newline ∷ number_lines ns) ∙ ap (λ (l : List ℕ). n ∷ l) (lines_loaded ns))

pub month_starts_loaded : loaded month_text ≡ month_starts
month_starts_loaded = lines_loaded month_starts
