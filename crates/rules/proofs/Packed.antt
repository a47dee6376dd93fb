-- Laws of packed decimal: reading gives back what was packed, and eight bytes that are read are what packing gives. By recursion on the
-- digits: a number is the number without its last digit, times ten, and that digit.
use Prim.Native.Nat.{ℕ, zero, suc, ◌+◌, ◌-◌, ◌*◌, ◌/◌, ◌%◌, ◌^◌, ◌≤◌, ◌<◌}
use mathlib.Core.Path.{◌≡◌, refl, sym, ap, ◌∙◌}
use mathlib.Core.Bool.{true, false, not, ◌&&◌, ◌||◌, cond, false≢true}
use mathlib.Core.List.{List, [], ◌∷◌}
use Rattle.std.specs.Prelude.{Option, None, Some}
use lib.IntN.{ℤ, pos, negsuc, nat_abs, neg_ℤ, ◌-ℤ◌, ◌*ℤ◌}
use lib.ListN.{length, get_or}
use lib.Seq.{ext_get_or}
use lib.Dec.{ltb, eqb}
use borrow.Author.Tests.{lt-ltb, le-leb, leb-true, eqb-true, ne_eqb, ltb-true}
use native.Mathlib.Nat.{pow-suc, pow-succ', div-one, div-eq_of_lt, div-div-eq-div-mul}
use native.Mathlib.Omega.{arith}
use Rattle.integers.specs.Division.{nearest}
use Rattle.integers.specs.Sums.{sum_to}
use Rattle.integers.proofs.Nearest.{nearest_half}
use Rattle.rules.specs.Basics.{all_to, list_to, when}
use Rattle.rules.specs.World.{Opening, owner_of, grid_company, energinet}
use Rattle.rules.specs.Packed.{owned_sum, ore, in_ore, packed_size, digit_count, sign_above, sign_below, fits}
use Rattle.rules.specs.Packed.{digit_at, sign_of, packed_half, packed_byte}
use Rattle.rules.specs.Packed.{packed_bytes, packed, half_in, digits_in, sign_in, digits_right, sign_right}
use Rattle.rules.specs.Packed.{is_packed, packed_amount, read_packed}
use Rattle.rules.proofs.Tests.{tests, cases, both, none_some}
use Rattle.rules.proofs.Ranges.{all-at, all_true, length-list_to, get_d_list_to}

-- ---- digits

-- a number without one digit more
without_more : (n i : ℕ) → n / 10 ^ suc i ≡ n / 10 ^ i / 10
without_more n i = ap (λ (m : ℕ). n / m) (pow-suc 10 i) ∙ sym (div-div-eq-div-mul n (10 ^ i) 10)

-- the last digit, and those before it by the tenth part
pub digit-last : (n : ℕ) → digit_at n 0 ≡ n % 10
unfolding digit_at
digit-last n = ap (λ (m : ℕ). m % 10) (div-one n)

pub digit_more : (n i : ℕ) → digit_at n (suc i) ≡ digit_at (n / 10) i
unfolding digit_at
digit_more n i =
    ap (λ (m : ℕ). n / m % 10) (pow-succ' 10 i) ∙ ap (λ (m : ℕ). m % 10) (sym (div-div-eq-div-mul n 10 (10 ^ i)))

pub digit_le : (n i : ℕ) → digit_at n i ≤ 9
unfolding digit_at
digit_le n i = omega arith

-- ---- half-bytes and bytes

pub half_low : (size sign h : ℕ) → sign ≤ 15 → packed_half size sign h ≤ 15
unfolding packed_half
half_low size sign h k = cases (ltb h digit_count)
    (λ t. rw t (omega (arith, digit_le size (digit_count - 1 - h))))
    (λ t. rw t k)

-- the two halves of a byte
upper_half : (a b : ℕ) → b ≤ 15 → (a * 16 + b) / 16 ≡ a
upper_half a b h = omega arith

lower_half : (a b : ℕ) → b ≤ 15 → (a * 16 + b) % 16 ≡ b
lower_half a b h = omega arith

-- the half-bytes that are read are those that were packed
pub half_packed : (size sign h : ℕ) → sign ≤ 15 → h < 16 → half_in (packed_bytes size sign) h ≡ packed_half size sign h
unfolding half_in packed_bytes packed_byte
half_packed size sign h k l =
    let i = h / 2 in
    let low = half_low size sign (2 * i + 1) k in
    rw (get_d_list_to (packed_byte size sign) packed_size i 0 (omega arith))
    (cases (eqb (h % 2) 0)
    (λ t. let e : 2 * i ≡ h = omega (arith, tests) in
    rw t (upper_half (packed_half size sign (2 * i)) _ low ∙ ap (packed_half size sign) e))
    (λ t. let e : 2 * i + 1 ≡ h = omega (arith, tests) in
    rw t (lower_half (packed_half size sign (2 * i)) _ low ∙ ap (packed_half size sign) e)))

-- ---- reading what was packed

-- a digit that is read is the last one of the number without those behind it
half_digit : (size sign n i : ℕ) → sign ≤ 15 → n < digit_count → digit_count - 1 - n ≡ i
    → half_in (packed_bytes size sign) n ≡ size / 10 ^ i % 10
unfolding packed_half digit_at
half_digit size sign n i k l f = half_packed size sign n k (omega arith) ∙ rw (lt-ltb n digit_count l, f)

-- the first n digits are the number without the others
digits-packed : (size sign n : ℕ) → size < 10 ^ digit_count → sign ≤ 15 → n ≤ digit_count
    → digits_in (packed_bytes size sign) n ≡ size / 10 ^ (digit_count - n)
unfolding digits_in
digits-packed size sign zero h k l = sym (div-eq_of_lt h)
digits-packed size sign (suc n) h k l =
    let i = digit_count - suc n in
    let e : digit_count - n ≡ suc i = omega arith in
    let half = half_digit size sign n i k (omega arith) (omega arith) in
    rw (digits-packed size sign n h k (omega arith), e, without_more size i, half) (omega arith)

digits_back : (size sign : ℕ) → size < 10 ^ digit_count → sign ≤ 15 → digits_in (packed_bytes size sign) digit_count ≡ size
digits_back size sign h k = digits-packed size sign digit_count h k (omega arith) ∙ div-one size

sign_back : (size sign : ℕ) → sign ≤ 15 → sign_in (packed_bytes size sign) ≡ sign
unfolding packed_half
sign_back size sign k = half_packed size sign digit_count k (omega arith)

digits-right : (size sign : ℕ) → sign ≤ 15 → digits_right (packed_bytes size sign) ≡ true
unfolding digits_right packed_half
digits-right size sign k = all_true _ digit_count (λ h l.
    rw (half_packed size sign h k (omega arith), lt-ltb h digit_count l) (le-leb _ 9 (digit_le size (digit_count - 1 - h))))

length-packed : (size sign : ℕ) → length (packed_bytes size sign) ≡ packed_size
unfolding packed_bytes
length-packed size sign = length-list_to (packed_byte size sign) packed_size

-- an amount that fits is read as what it is
pub read-packed : (a : ℤ) → fits a ≡ true → read_packed (packed a) ≡ Some a
unfolding read_packed when is_packed sign_right packed_amount fits
read-packed (pos n) h =
    let d = digits_back n sign_above (ltb-true _ _ h) (omega arith) in
    rw (length-packed n sign_above, digits-right n sign_above (omega arith), sign_back n sign_above (omega arith), d)
read-packed (negsuc n) h =
    let d = digits_back (suc n) sign_below (ltb-true _ _ h) (omega arith) in
    rw (
      length-packed (suc n) sign_below,
      digits-right (suc n) sign_below (omega arith),
      sign_back (suc n) sign_below (omega arith),
      d,
      ne_eqb (suc n) 0 (λ z. omega arith),
    )

-- ---- packing what was read

-- a digit of the number that is read is the half-byte that stands there
digit-read : (bs : List ℕ) (n h : ℕ) → ((i : ℕ) → i < n → half_in bs i ≤ 9) → h < n → digit_at (digits_in bs n) (n - 1 - h) ≡ half_in bs h
unfolding digits_in
digit-read bs zero h r l = absurd (omega arith)
digit-read bs (suc n) h r l =
    let d = r n (omega arith) in
    let x = digits_in bs n * 10 + half_in bs n in
    cases (eqb h n)
    (λ t. let e : h ≡ n = eqb-true h n t in
    let z : suc n - 1 - h ≡ 0 = omega arith in
    let v : x % 10 ≡ half_in bs n = omega arith in
    ap (digit_at x) z ∙ digit-last x ∙ v ∙ ap (half_in bs) (sym e))
    (λ t. let k : h < n = omega (arith, tests) in
    let z : suc n - 1 - h ≡ suc (n - 1 - h) = omega arith in
    let v : x / 10 ≡ digits_in bs n = omega arith in
    ap (digit_at x) z ∙ digit_more x (n - 1 - h) ∙ ap (λ (y : ℕ). digit_at y (n - 1 - h)) v
    ∙ digit-read bs n h (λ i m. r i (omega arith)) k)

pub digits-small : (bs : List ℕ) (n : ℕ) → ((i : ℕ) → i < n → half_in bs i ≤ 9) → digits_in bs n < 10 ^ n
unfolding digits_in
digits-small bs zero r = omega arith
digits-small bs (suc n) r = rw pow-suc (omega (arith, r n (omega arith), digits-small bs n (λ i m. r i (omega arith))))

-- a byte is its two halves
halves_in : (bs : List ℕ) (i : ℕ) → get_or bs i 0 ≡ half_in bs (2 * i) * 16 + half_in bs (2 * i + 1)
unfolding half_in
halves_in bs i =
    let a : 2 * i % 2 ≡ 0 = omega arith in
    let b : (2 * i + 1) % 2 ≡ 1 = omega arith in
    let c : 2 * i / 2 ≡ i = omega arith in
    let d : (2 * i + 1) / 2 ≡ i = omega arith in
    rw (a, b, c, d) (omega arith)

-- the amount by its sign, which is not minus where the digits are 0
signed : (n sign : ℕ) → eqb sign sign_above || (eqb sign sign_below && not (eqb n 0)) ≡ true
    → let a = cond (eqb sign sign_below) (neg_ℤ (pos n)) (pos n) in
    (nat_abs a ≡ n) × (sign_of a ≡ sign)
signed zero sign h = cases (eqb sign sign_above)
    (λ t. let e : sign ≡ 12 = eqb-true sign sign_above t in rw e (refl, refl))
    (λ t. absurd (false≢true (both (eqb sign sign_below) false (rw t at h)).1))
signed (suc n) sign h = cases (eqb sign sign_below)
    (λ t. rw t (refl, sym (eqb-true sign sign_below t)))
    (λ t. rw t (refl, cases (eqb sign sign_above) (λ u. sym (eqb-true sign sign_above u)) (λ u. absurd (false≢true (rw (u, t) at h)))))

-- what a packed number has
pub record IsPacked (bs : List ℕ) : Type 0 where
  pub eight : length bs ≡ packed_size
  pub digits : digits_right bs ≡ true
  pub sign : sign_right bs ≡ true

pub packed_parts : (bs : List ℕ) → is_packed bs ≡ true → IsPacked bs
unfolding is_packed
packed_parts bs h =
    let k = both (eqb (length bs) packed_size) _ h in
    let l = both (digits_right bs) _ k.1 in
    record { eight = eqb-true _ _ k.0; digits = l.0; sign = l.1 }

pub digit_low : (bs : List ℕ) → digits_right bs ≡ true → (i : ℕ) → i < digit_count → half_in bs i ≤ 9
unfolding digits_right
digit_low bs h i l = leb-true _ _ (all-at _ digit_count h i l)

module _ (bs : List ℕ) (h : IsPacked bs) where
  -- the half-bytes are those that packing gives
  half_read : (i : ℕ) → i < 16 → packed_half (digits_in bs digit_count) (sign_in bs) i ≡ half_in bs i
  unfolding packed_half
  half_read i l = cases (ltb i digit_count)
      (λ t. rw t (digit-read bs digit_count i (digit_low bs h.digits) (ltb-true i digit_count t)))
      (λ t. let e : digit_count ≡ i = omega (arith, tests) in rw t (ap (half_in bs) e))

  byte_read : (i : ℕ) → i < packed_size → get_or bs i 0 ≡ packed_byte (digits_in bs digit_count) (sign_in bs) i
  unfolding packed_byte
  byte_read i l =
      rw (half_read (2 * i) (omega arith), half_read (2 * i + 1) (omega arith))
      (halves_in bs i)

  bytes_read : bs ≡ packed_bytes (digits_in bs digit_count) (sign_in bs)
  unfolding packed_bytes
  bytes_read = ext_get_or 0 bs _ (h.eight ∙ sym (length-list_to (packed_byte (digits_in bs digit_count) (sign_in bs)) packed_size))
      (λ i l. let k : i < packed_size = rw h.eight at l in
      byte_read i k ∙ sym (get_d_list_to (packed_byte (digits_in bs digit_count) (sign_in bs)) packed_size i 0 k))

  amount-read : (nat_abs (packed_amount bs) ≡ digits_in bs digit_count) × (sign_of (packed_amount bs) ≡ sign_in bs)
  unfolding packed_amount sign_right
  amount-read = signed (digits_in bs digit_count) (sign_in bs) h.sign

  amount-fits : fits (packed_amount bs) ≡ true
  unfolding fits
  amount-fits = rw amount-read.0 (lt-ltb _ _ (digits-small bs digit_count (digit_low bs h.digits)))

  bytes_packed : bs ≡ packed (packed_amount bs)
  bytes_packed = rw (amount-read.0, amount-read.1) bytes_read

-- bytes that are read as an amount are what packing it gives, and it fits
pub packed-read : (bs : List ℕ) (a : ℤ) → read_packed bs ≡ Some a → (bs ≡ packed a) × (fits a ≡ true)
unfolding read_packed when
packed-read bs a h = cases (is_packed bs)
    (λ t. let e : packed_amount bs ≡ a = let z : Some (packed_amount bs) ≡ Some a = rw t at h in cc in
    let p = packed_parts bs t in rw (← e) (bytes_packed bs p, amount-fits bs p))
    (λ t. let z : ◌≡◌ {A = Option ℤ} None (Some a) = rw t at h in absurd (none_some a z))

-- "every amount that fits has one form": the bytes that are read as it are those that packing gives, and no others
pub one_form : (a : ℤ) → fits a ≡ true → (bs : List ℕ)
    → (read_packed bs ≡ Some a → bs ≡ packed a) × (bs ≡ packed a → read_packed bs ≡ Some a)
one_form a h bs = (λ r. (packed-read bs a r).0, λ p. ap read_packed p ∙ read-packed a h)

-- ---- rounding

-- what is rounded to the øre is within half an øre of the sum
pub ore_near : (x : ℤ) → nat_abs (in_ore x *ℤ pos ore -ℤ x) * 2 ≤ ore
ore_near x = nearest_half x ore (omega arith)

-- ---- checks of the definitions, which no proof cites: numbers worked out by hand

-- 1,234.56 kroner, seven øre below zero, 123,456,789,012,345 øre, and zero
pub packed_known : (packed (pos 123456) ≡ 0x00 ∷ 0x00 ∷ 0x00 ∷ 0x00 ∷ 0x01 ∷ 0x23 ∷ 0x45 ∷ 0x6c ∷ [])
    × (packed (negsuc 6) ≡ 0x00 ∷ 0x00 ∷ 0x00 ∷ 0x00 ∷ 0x00 ∷ 0x00 ∷ 0x00 ∷ 0x7d ∷ [])
    × (packed (pos 123456789012345) ≡ 0x12 ∷ 0x34 ∷ 0x56 ∷ 0x78 ∷ 0x90 ∷ 0x12 ∷ 0x34 ∷ 0x5c ∷ [])
    × (packed (pos 0) ≡ 0x00 ∷ 0x00 ∷ 0x00 ∷ 0x00 ∷ 0x00 ∷ 0x00 ∷ 0x00 ∷ 0x0c ∷ [])
unfolding packed_bytes packed_byte packed_half digit_at list_to
packed_known = (refl, refl, refl, refl)

-- half an øre on both sides of zero, a billionth less, and −0.004 kroner
pub ore_known : (in_ore (pos 5000000) ≡ pos 1) × (in_ore (negsuc 4999999) ≡ negsuc 0)
    × (in_ore (pos 4999999) ≡ pos 0) × (in_ore (negsuc 4999998) ≡ pos 0) × (in_ore (negsuc 3999999) ≡ pos 0)
unfolding nearest
ore_known = (refl, refl, refl, refl, refl)

-- minus zero, a digit above 9, another sign, and seven bytes are no packed numbers
pub none_known : (read_packed (0x00 ∷ 0x00 ∷ 0x00 ∷ 0x00 ∷ 0x00 ∷ 0x00 ∷ 0x00 ∷ 0x0d ∷ []) ≡ None)
    × (read_packed (0x00 ∷ 0x00 ∷ 0x00 ∷ 0x0a ∷ 0x00 ∷ 0x00 ∷ 0x00 ∷ 0x0c ∷ []) ≡ None)
    × (read_packed (0x00 ∷ 0x00 ∷ 0x00 ∷ 0x00 ∷ 0x00 ∷ 0x00 ∷ 0x00 ∷ 0x1f ∷ []) ≡ None)
    × (read_packed (0x00 ∷ 0x00 ∷ 0x00 ∷ 0x00 ∷ 0x00 ∷ 0x00 ∷ 0x1c ∷ []) ≡ None)
unfolding read_packed is_packed digits_right sign_right digits_in half_in all_to when
none_known = (refl, refl, refl, refl)

-- three elements of the owners 1, 2 and 1, with amounts of 1, 20 and 300
abbrev three_elements : Opening
three_elements =
    record {
      year = 2024;
      month = 3;
      points = 1;
      suppliers = 1;
      elements = 3;
      element_data = 1 ∷ 1 ∷ 0 ∷ 3 ∷ 2 ∷ 0 ∷ 2 ∷ 1 ∷ 0 ∷ [];
      prices = [];
    }

abbrev three_amounts : (element : ℕ) → ℤ
three_amounts e = get_or (pos 1 ∷ pos 20 ∷ pos 300 ∷ []) e (pos 0)

pub owned_known : (owned_sum three_elements grid_company three_amounts ≡ pos 301)
    × (owned_sum three_elements energinet three_amounts ≡ pos 20)
unfolding owned_sum owner_of sum_to
owned_known = (refl, refl)
