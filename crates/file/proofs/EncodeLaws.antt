-- Decoding what was encoded gives it back: numbers of every width by one law, and the three fields, whatever follows them. The widths of a
-- field are numerals, so that its bytes and the tests of its header compute. Assumes nothing.
use Prim.Native.Nat.{ℕ, zero, suc, ◌+◌, ◌-◌, ◌*◌, ◌/◌, ◌%◌, ◌^◌, ◌≤◌, ◌<◌}
use mathlib.Core.Path.{◌≡◌, refl, sym, ap, ◌∙◌}
use mathlib.Core.Bool.{true, cond}
use mathlib.Core.List.{List, [], ◌∷◌, ◌++◌}
use lib.IntN.{ℤ, pos, negsuc}
use lib.ListN.{length, get_or, take, drop, length-append}
use lib.Seq.{take_at, drop_at, drop-drop, drop-nil, drop-cons}
use lib.Signed.{mag}
use lib.Dec.{eqb}
use native.Mathlib.Nat.{pow-suc}
use native.Mathlib.Omega.{arith}
use borrow.Author.Tests.{le-leb, eq-eqb}
use Rattle.integers.proofs.Linear.{lin, #, nat, ◌⊝◌}
use Rattle.rules.specs.Sizes.{price_places}
use Rattle.rules.proofs.Tests.{cases}
use Rattle.rules.specs.declared.Fields.{Fields}
use Rattle.file.specs.declared.fields.Phase.{Phase}
use Rattle.file.specs.declared.fields.Found.TheVariants.{Month, Element, Message}
use Rattle.file.specs.Bytes.{followed, bytes_number, number_in, twos_complement, signed64}
use Rattle.file.specs.Field.{tag_of, length_of, marks_in, tag_allowed, element_length, length_due, header_right, month_in, message_fields}
use Rattle.file.specs.Field.{field_named, right_field, whole_field, field_of}
use Rattle.file.specs.Element.{price_at}
use Rattle.file.specs.Encode.{number_bytes, encode_field, encode_month, complement, encode_prices, element_value, encode_element}
use Rattle.file.specs.Encode.{message_value, encode_message, FieldsFit}
use Rattle.file.proofs.ByteLaws.{bytes_more, bytes_none, low_half, high_half}
use Rattle.file.proofs.FieldLaws.{element_bounds}

-- ---- numbers

pub bytes-length : (width n : ℕ) → length (number_bytes width n) ≡ width
unfolding number_bytes
bytes-length zero n = refl
bytes-length (suc width) n = length-append (number_bytes width (n / 256)) (n % 256 ∷ []) ∙ rw (bytes-length width (n / 256)) (omega arith)

pub bytes_back : (width n : ℕ) → n < 256 ^ width → bytes_number (number_bytes width n) ≡ n
unfolding number_bytes
bytes_back zero n h = omega (arith, bytes_none)
bytes_back (suc width) n h =
    let k : n < 256 ^ width * 256 = rw pow-suc at h in
    rw (bytes_more (number_bytes width (n / 256)) (n % 256), bytes_back width (n / 256) (omega arith)) (omega arith)

-- ---- any field, with what follows it

taken : (bytes : List ℕ) (phase : Phase) → 3 + length_of bytes ≤ length bytes → right_field phase bytes ≡ true
    → field_of bytes phase ≡ field_named bytes
unfolding field_of whole_field
taken [] phase w r = absurd (omega arith)
taken (b ∷ bytes) phase w r = rw (le-leb (3 + length_of (b ∷ bytes)) (length (b ∷ bytes)) w, r)

right_is : (bytes : List ℕ) (phase : Phase) (tag n : ℕ) → tag_of bytes ≡ tag → length_of bytes ≡ n
    → header_right phase tag n (marks_in bytes) ≡ true → right_field phase bytes ≡ true
unfolding right_field
right_is bytes phase tag n t l r = rw (t, l) r

module _ (tag : ℕ) (value rest : List ℕ) where
  tag_first : tag_of (encode_field tag value ++ rest) ≡ tag
  unfolding tag_of number_in bytes_number followed encode_field
  tag_first = omega arith

  length-second : length value < 65536 → length_of (encode_field tag value ++ rest) ≡ length value
  unfolding length_of number_in encode_field number_bytes
  length-second h = bytes_back 2 (length value) h

  field_length : length (encode_field tag value ++ rest) ≡ 3 + length value + length rest
  unfolding encode_field number_bytes
  field_length =
      length-append ((tag ∷ number_bytes 2 (length value)) ++ value) rest
      ∙ rw (length-append (tag ∷ number_bytes 2 (length value)) value) (omega arith)

  pub field_decoded : (phase : Phase) → length value < 65536
      → header_right phase tag (length value) (marks_in (encode_field tag value ++ rest)) ≡ true
      → field_of (encode_field tag value ++ rest) phase ≡ field_named (encode_field tag value ++ rest)
  field_decoded phase h r =
      taken (encode_field tag value ++ rest) phase (rw (length-second h, field_length) (omega arith))
      (right_is (encode_field tag value ++ rest) phase tag (length value) tag_first (length-second h) r)

-- ---- the three fields

pub month_decoded : (year month points suppliers : ℕ) (rest : List ℕ) → year < 65536 → month < 256 → points < 65536 → suppliers < 256
    → field_of (encode_month year month points suppliers ++ rest) Phase.Start ≡ Month year month points suppliers
unfolding encode_month encode_field number_bytes header_right tag_allowed length_due field_named month_in number_in tag_of bytes_number
    followed
month_decoded year month points suppliers rest y m p s =
    field_decoded 1 (number_bytes 2 year ++ number_bytes 1 month ++ number_bytes 2 points ++ number_bytes 1 suppliers) rest Phase.Start
    (omega arith) refl
    ∙ rw (bytes_back 2 year y, bytes_back 1 month m, bytes_back 2 points p, bytes_back 1 suppliers s)

-- a message where one may come: behind the elements and behind messages
pub message_decoded : (f : Fields) (rest : List ℕ) (phase : Phase) → tag_allowed phase 3 ≡ true → FieldsFit f
    → field_of (encode_message f ++ rest) phase ≡ Message f
unfolding encode_message encode_field message_value number_bytes header_right length_due field_named message_fields number_in tag_of
    bytes_number
    followed
message_decoded f rest phase a h =
    field_decoded 3 (message_value f) rest phase (omega arith) (rw a)
    ∙ rw (
      bytes_back 1 f.kind h.kind,
      bytes_back 1 f.role h.role,
      bytes_back 1 f.sender h.sender,
      bytes_back 4 f.received h.received,
      bytes_back 2 f.point h.point,
      bytes_back 1 f.element h.element,
      bytes_back 4 f.day h.day,
      bytes_back 1 f.hour h.hour,
      bytes_back 4 f.value h.value,
    )

-- ---- an element: 24 prices where it is marked hourly, else one

prices-length : (ps : List ℤ) → length (encode_prices ps) ≡ 8 * length ps
unfolding encode_prices
prices-length [] = refl
prices-length (p ∷ ps) =
    length-append (number_bytes 8 (complement p)) (encode_prices ps) ∙ rw (bytes-length 8 (complement p), prices-length ps) (omega arith)

value-length : (kind owner marks : ℕ) (ps : List ℤ) → length (element_value kind owner marks ps) ≡ 3 + 8 * length ps
unfolding element_value
value-length kind owner marks ps = rw (prices-length ps) (omega arith)

due-length : (marks : ℕ) (ps : List ℤ) → length ps ≡ cond (eqb (marks / 8 % 2) 1) price_places 1 → 3 + 8 * length ps ≡ element_length marks
unfolding element_length
due-length marks ps h = cases (eqb (marks / 8 % 2) 1) (λ t. rw (h, t)) (λ t. rw (h, t))

marks_third : (kind owner marks : ℕ) (ps : List ℤ) (rest : List ℕ) → marks_in (encode_element kind owner marks ps ++ rest) ≡ marks
unfolding marks_in number_in bytes_number followed encode_element encode_field element_value number_bytes
marks_third kind owner marks ps rest = omega arith

element-right : (n m marks : ℕ) → n ≡ element_length marks → m ≡ marks → header_right Phase.Elements 2 n m ≡ true
unfolding header_right tag_allowed length_due
element-right n m marks h e = rw e (eq-eqb n (element_length marks) h)

element-named : (bytes : List ℕ) (n : ℕ) → tag_of bytes ≡ 2 → length_of bytes ≡ n → field_named bytes ≡ Element n
unfolding field_named
element-named bytes n t l = rw (t, l)

pub element_decoded : (kind owner marks : ℕ) (ps : List ℤ) (rest : List ℕ) → length ps ≡ cond (eqb (marks / 8 % 2) 1) price_places 1
    → field_of (encode_element kind owner marks ps ++ rest) Phase.Elements ≡ Element (element_length marks)
unfolding encode_element
element_decoded kind owner marks ps rest h =
    let n : length (element_value kind owner marks ps) ≡ element_length marks = value-length kind owner marks ps ∙ due-length marks ps h in
    let s : length (element_value kind owner marks ps) < 65536 = omega (arith, (element_bounds marks).1) in
    field_decoded 2 (element_value kind owner marks ps) rest Phase.Elements s
    (element-right (length (element_value kind owner marks ps)) _ marks n (marks_third kind owner marks ps rest))
    ∙ element-named (encode_field 2 (element_value kind owner marks ps) ++ rest) (element_length marks)
    (tag_first 2 (element_value kind owner marks ps) rest) (length-second 2 (element_value kind owner marks ps) rest s ∙ n)

-- the value is what stands there
pub value_decoded : (kind owner marks : ℕ) (ps : List ℤ) (rest : List ℕ) → length ps ≡ cond (eqb (marks / 8 % 2) 1) price_places 1
    → take (element_length marks) (drop 3 (encode_element kind owner marks ps ++ rest)) ≡ element_value kind owner marks ps
unfolding encode_element encode_field number_bytes
value_decoded kind owner marks ps rest h =
    take_at (element_value kind owner marks ps) rest (element_length marks) (value-length kind owner marks ps ∙ due-length marks ps h)

-- and its prices are those that were written
drop-prices : (k : ℕ) (ps : List ℤ) → drop (8 * k) (encode_prices ps) ≡ encode_prices (drop k ps)
unfolding encode_prices
drop-prices zero ps = refl
drop-prices (suc k) [] = drop-nil (8 * suc k)
drop-prices (suc k) (p ∷ ps) =
    ap (λ n. drop n (number_bytes 8 (complement p) ++ encode_prices ps)) (eight k)
    ∙ sym (drop-drop (8 * k) 8 (number_bytes 8 (complement p) ++ encode_prices ps))
    ∙ ap (λ (bs : List ℕ). drop (8 * k) bs) (drop_at (number_bytes 8 (complement p)) (encode_prices ps) 8 (bytes-length 8 (complement p)))
    ∙ drop-prices k ps
  where
    eight : (k : ℕ) → 8 * suc k ≡ 8 + 8 * k
    eight k = omega arith

complement-fits : (z : ℤ) → mag z < 9223372036854775808 → complement z < 18446744073709551616
unfolding complement
complement-fits (pos n) h = omega arith
complement-fits (negsuc n) h = omega arith

complement_back : (z : ℤ) → mag z < 9223372036854775808 → twos_complement (complement z) ≡ z
unfolding complement
complement_back (pos n) h = low_half n h
complement_back (negsuc n) h =
    sym (high_half (18446744073709551616 - suc n) (omega arith) (omega arith))
    ∙ lin (# (negsuc 0) ⊝ nat (18446744073709551615 - (18446744073709551616 - suc n))) (# (negsuc n)) (omega arith)

-- the first price of a list of them
first-price : (p : ℤ) (ps : List ℤ) → mag p < 9223372036854775808 → signed64 (take 8 (encode_prices (p ∷ ps))) ≡ p
unfolding signed64 encode_prices
first-price p ps h =
    rw (
      take_at (number_bytes 8 (complement p)) (encode_prices ps) 8 (bytes-length 8 (complement p)),
      bytes_back 8 (complement p) (complement-fits p h),
    ) (complement_back p h)

tail_prices : (kind owner marks : ℕ) (ps : List ℤ) (k : ℕ)
    → drop (8 * k) (drop 3 (element_value kind owner marks ps)) ≡ encode_prices (drop k ps)
unfolding element_value
tail_prices kind owner marks ps k = drop-prices k ps

pub price_decoded : (kind owner marks : ℕ) (ps : List ℤ) (k : ℕ) → k < length ps → mag (get_or ps k (pos 0)) < 9223372036854775808
    → price_at (element_value kind owner marks ps) k ≡ get_or ps k (pos 0)
unfolding price_at
price_decoded kind owner marks ps k h m =
    rw (
      value-length kind owner marks ps,
      le-leb (11 + 8 * k) (3 + 8 * length ps) (omega arith),
      ← drop-drop (8 * k) 3 (element_value kind owner marks ps),
    )
    (ap (λ (bs : List ℕ). signed64 (take 8 bs)) (tail_prices kind owner marks ps k ∙ ap encode_prices (drop-cons ps k (pos 0) h))
    ∙ first-price (get_or ps k (pos 0)) (drop (suc k) ps) m)
