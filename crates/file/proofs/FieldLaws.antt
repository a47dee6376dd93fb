-- Laws of one field: what each test on the way says of `field_in`, that the whole rest of the input decides as `field_of` does, and that
-- what was decided before the input's end does not depend on what follows. Everything is by cases on the tests, over the first six bytes.
-- Assumes nothing.
use Prim.Native.Nat.{ℕ, suc, ◌+◌, ◌/◌, ◌%◌, ◌≤◌, ◌<◌}
use mathlib.Core.Path.{◌≡◌, sym, ◌∙◌}
use mathlib.Core.Logic.{◌⊎◌, inl, inr}
use Rattle.std.specs.Prelude.{None}
use mathlib.Core.Bool.{Bool, true, false, ◌&&◌, and-false}
use mathlib.Core.List.{List, [], ◌∷◌, ◌++◌}
use lib.ListN.{length, drop, length-drop, length-append}
use lib.Dec.{leb, ltb, eqb}
use native.Mathlib.Omega.{arith}
use borrow.Author.Tests.{lt-ltb, le-ltb, le-leb, lt-leb, eq-eqb, ne_eqb, ltb-true, ltb-false, leb-true, leb-false, eqb-true, eqb-false}
use Rattle.rules.proofs.Tests.{cases, both}
use Rattle.file.specs.declared.fields.Phase.{Phase}
use Rattle.file.specs.declared.fields.Found.{Found}
use Rattle.file.specs.declared.fields.Found.TheVariants.{More, Broken}
use Rattle.file.specs.Field.{header_size, hourly_length, tag_of, length_of, marks_in, tag_allowed, element_length, length_due, header_right}
use Rattle.file.specs.Field.{month_in, message_fields, field_named, right_field, whole_field, field_of, cut_off, field_in, field_size}
use Rattle.file.specs.Field.{tag_numbered, Inside}
use Rattle.file.proofs.ByteLaws.{number-front}

-- ---- the length that is due

pub due-month : (tag marks : ℕ) → tag ≡ 1 → length_due tag marks ≡ 6
unfolding length_due
due-month tag marks h = rw (eq-eqb tag 1 h)

pub due-message : (tag marks : ℕ) → (tag ≡ 1 → ⊥) → (tag ≡ 2 → ⊥) → length_due tag marks ≡ 19
unfolding length_due
due-message tag marks h k = rw (ne_eqb tag 1 h, ne_eqb tag 2 k)

pub element_bounds : (marks : ℕ) → (11 ≤ element_length marks) × (element_length marks ≤ 195)
unfolding element_length
element_bounds marks = cases (eqb (marks / 8 % 2) 1) (λ t. rw t (omega arith, omega arith)) (λ t. rw t (omega arith, omega arith))

pub due_bounds : (tag marks : ℕ) → (6 ≤ length_due tag marks) × (length_due tag marks ≤ 195)
unfolding length_due
due_bounds tag marks =
    let bounds = element_bounds marks in
    cases (eqb tag 1)
    (λ t. rw t (omega arith, omega arith))
    (λ t. rw t (cases (eqb tag 2) (λ u. rw u (omega arith, omega arith)) (λ u. rw u (omega arith, omega arith))))

pub right-length : (phase : Phase) (tag n marks : ℕ) → header_right phase tag n marks ≡ true → n ≡ length_due tag marks
unfolding header_right
right-length phase tag n marks h = eqb-true n (length_due tag marks) (both (tag_allowed phase tag) _ h).1

-- a number that no tag has may not come next
pub unknown_tag : (phase : Phase) (number : ℕ) → tag_numbered number ≡ None → tag_allowed phase number ≡ false
unfolding tag_allowed
unknown_tag Phase.Start number h = cases (eqb number 1) (λ t. let k = rw t at h in cc) (λ t. t)
unknown_tag Phase.Elements number h = cases (eqb number 1)
    (λ t. let k = rw t at h in cc)
    (λ t. cases (eqb number 2)
    (λ u. let k = rw (t, u) at h in cc)
    (λ u. cases (eqb number 3) (λ v. let k = rw (t, u, v) at h in cc) (λ v. rw (u, v))))
unknown_tag Phase.Messages number h = cases (eqb number 1)
    (λ t. let k = rw t at h in cc)
    (λ t. cases (eqb number 2)
    (λ u. let k = rw (t, u) at h in cc)
    (λ u. cases (eqb number 3) (λ v. let k = rw (t, u, v) at h in cc) (λ v. v)))

-- ---- the tests of `field_in`

module _ (bytes : List ℕ) (phase : Phase) (ended : Bool) where
  pub in_short : length bytes < 6 → field_in bytes phase ended ≡ cut_off (length bytes) ended
  unfolding field_in
  in_short h = rw (lt-ltb (length bytes) 6 h)

  pub in_wrong : 6 ≤ length bytes → right_field phase bytes ≡ false → field_in bytes phase ended ≡ Broken
  unfolding field_in
  in_wrong h w = rw (le-ltb (length bytes) 6 h, w)

  pub in_cut : 6 ≤ length bytes → right_field phase bytes ≡ true → length bytes < 3 + length_of bytes
      → field_in bytes phase ended ≡ cut_off (length bytes) ended
  unfolding field_in whole_field
  in_cut h w k = rw (le-ltb (length bytes) 6 h, w, lt-leb (3 + length_of bytes) (length bytes) k)

  pub in_whole : 6 ≤ length bytes → right_field phase bytes ≡ true → 3 + length_of bytes ≤ length bytes
      → field_in bytes phase ended ≡ field_named bytes
  unfolding field_in whole_field
  in_whole h w k = rw (le-ltb (length bytes) 6 h, w, le-leb (3 + length_of bytes) (length bytes) k)

-- ---- all that is left of the input: `field_in` decides as `field_of` does

-- a field that is whole and right has at least nine bytes
whole_enough : (bytes : List ℕ) (phase : Phase) → length bytes < 6 → (whole_field bytes && right_field phase bytes) ≡ false
unfolding whole_field right_field
whole_enough bytes phase h =
    cases (leb (3 + length_of bytes) (length bytes) && header_right phase (tag_of bytes) (length_of bytes) (marks_in bytes))
    (λ t.
    let b = both (leb (3 + length_of bytes) (length bytes)) _ t in
    let n = right-length phase (tag_of bytes) (length_of bytes) (marks_in bytes) b.1 in
    absurd (omega (arith, leb-true (3 + length_of bytes) (length bytes) b.0, (due_bounds (tag_of bytes) (marks_in bytes)).0)))
    (λ t. t)

ended-cons : (b : ℕ) (bytes : List ℕ) (phase : Phase) → cut_off (length (b ∷ bytes)) true ≡ Broken
unfolding cut_off
ended-cons b bytes phase = rw (ne_eqb (suc (length bytes)) 0 (λ e. omega arith))

whole_is : (bytes : List ℕ) (t : Bool) → leb (3 + length_of bytes) (length bytes) ≡ t → whole_field bytes ≡ t
unfolding whole_field
whole_is bytes t e = e

pub whole-rest : (bytes : List ℕ) (phase : Phase) → field_in bytes phase true ≡ field_of bytes phase
unfolding field_of cut_off
whole-rest [] phase = in_short [] phase true (omega arith)
whole-rest (b ∷ bytes) phase = cases (ltb (length (b ∷ bytes)) 6)
    (λ t.
    let h : length (b ∷ bytes) < 6 = ltb-true (length (b ∷ bytes)) 6 t in
    rw (whole_enough (b ∷ bytes) phase h) (in_short (b ∷ bytes) phase true h ∙ ended-cons b bytes phase))
    (λ t.
    let h : 6 ≤ length (b ∷ bytes) = ltb-false (length (b ∷ bytes)) 6 t in
    cases (right_field phase (b ∷ bytes))
    (λ r. cases (leb (3 + length_of (b ∷ bytes)) (length (b ∷ bytes)))
    (λ w. rw (whole_is (b ∷ bytes) true w, r) (in_whole (b ∷ bytes) phase true h r (leb-true _ _ w)))
    (λ w. rw (whole_is (b ∷ bytes) false w) (in_cut (b ∷ bytes) phase true h r (leb-false _ _ w) ∙ ended-cons b bytes phase)))
    (λ r. rw (r, and-false (whole_field (b ∷ bytes))) (in_wrong (b ∷ bytes) phase true h r)))

-- ---- what was decided before the input's end does not depend on what follows

module _ (bytes rest : List ℕ) (phase : Phase) (h : 6 ≤ length bytes) where
  longer : 6 ≤ length (bytes ++ rest)
  longer = rw length-append (omega arith)

  length_front : length_of (bytes ++ rest) ≡ length_of bytes
  unfolding length_of
  length_front = number-front bytes rest 1 2 (omega arith)

  tag_front : tag_of (bytes ++ rest) ≡ tag_of bytes
  unfolding tag_of
  tag_front = number-front bytes rest 0 1 (omega arith)

  right-front : right_field phase (bytes ++ rest) ≡ right_field phase bytes
  unfolding right_field marks_in
  right-front = rw (tag_front, length_front, number-front bytes rest 5 1 (omega arith))

  -- the bytes of the value are among those in hand
  named-front : right_field phase bytes ≡ true → 3 + length_of bytes ≤ length bytes → field_named (bytes ++ rest) ≡ field_named bytes
  unfolding right_field field_named month_in message_fields
  named-front r w =
      let n = right-length phase (tag_of bytes) (length_of bytes) (marks_in bytes) r in
      rw (tag_front, length_front) (cases (eqb (tag_of bytes) 1)
      (λ t.
      let m = due-month (tag_of bytes) (marks_in bytes) (eqb-true _ _ t) in
      rw (
        t,
        number-front bytes rest 3 2 (omega arith),
        number-front bytes rest 5 1 (omega arith),
        number-front bytes rest 6 2 (omega arith),
        number-front bytes rest 8 1 (omega arith),
      ))
      (λ t. rw t (cases (eqb (tag_of bytes) 2)
      (λ u. rw u)
      (λ u.
      let m = due-message (tag_of bytes) (marks_in bytes) (eqb-false _ _ t) (eqb-false _ _ u) in
      rw (
        u,
        number-front bytes rest 3 1 (omega arith),
        number-front bytes rest 4 1 (omega arith),
        number-front bytes rest 5 1 (omega arith),
        number-front bytes rest 6 4 (omega arith),
        number-front bytes rest 10 2 (omega arith),
        number-front bytes rest 12 1 (omega arith),
        number-front bytes rest 13 4 (omega arith),
        number-front bytes rest 17 1 (omega arith),
        number-front bytes rest 18 4 (omega arith),
      )))))

due-length : (bytes : List ℕ) (phase : Phase) → right_field phase bytes ≡ true → length_of bytes ≤ 195
unfolding right_field
due-length bytes phase r =
    let n = right-length phase (tag_of bytes) (length_of bytes) (marks_in bytes) r in
    omega (arith, (due_bounds (tag_of bytes) (marks_in bytes)).1)

-- what the bytes in hand decide: more are needed, of which a field has never more than 198, or the same whatever follows
pub record Undecided (bytes : List ℕ) (found : Found) : Type 0 where
  pub asks : found ≡ More
  pub short : length bytes < header_size + hourly_length

pub front_decides : (bytes : List ℕ) (phase : Phase)
    → Undecided bytes (field_in bytes phase false) ⊎ ((rest : List ℕ) → field_of (bytes ++ rest) phase ≡ field_in bytes phase false)
unfolding cut_off
front_decides bytes phase = cases (ltb (length bytes) 6)
    (λ t.
    let h : length bytes < 6 = ltb-true (length bytes) 6 t in
    inl (record { asks = in_short bytes phase false h; short = omega arith }))
    (λ t.
    let h : 6 ≤ length bytes = ltb-false (length bytes) 6 t in
    cases (right_field phase bytes)
    (λ r. cases (leb (3 + length_of bytes) (length bytes))
    (λ w.
    let k : 3 + length_of bytes ≤ length bytes = leb-true _ _ w in
    inr (λ rest. sym (whole-rest (bytes ++ rest) phase)
    ∙ in_whole (bytes ++ rest) phase true (longer bytes rest phase h) (right-front bytes rest phase h ∙ r)
    (rw (length_front bytes rest phase h, length-append bytes rest) (omega arith))
    ∙ named-front bytes rest phase h r k ∙ sym (in_whole bytes phase false h r k)))
    (λ w.
    let k : length bytes < 3 + length_of bytes = leb-false _ _ w in
    inl (record { asks = in_cut bytes phase false h r k; short = omega (arith, due-length bytes phase r) })))
    (λ r. inr (λ rest. sym (whole-rest (bytes ++ rest) phase)
    ∙ in_wrong (bytes ++ rest) phase true (longer bytes rest phase h) (right-front bytes rest phase h ∙ r)
    ∙ sym (in_wrong bytes phase false h r))))

-- ---- what was found lies within the bytes, and the next field begins behind it

inside_cut : (end have : ℕ) (ended : Bool) → Inside 0 end (cut_off have ended)
unfolding cut_off field_size
inside_cut end have false = (omega arith, tt)
inside_cut end have true = cases (eqb have 0) (λ t. rw t (omega arith, tt)) (λ t. rw t (omega arith, tt))

element_least : (bytes : List ℕ) → eqb (tag_of bytes) 1 ≡ false → eqb (tag_of bytes) 2 ≡ true
    → length_of bytes ≡ length_due (tag_of bytes) (marks_in bytes) → 11 ≤ length_of bytes
unfolding length_due
element_least bytes t u d = rw (d, t, u) (element_bounds (marks_in bytes)).0

inside-named : (bytes : List ℕ) (end : ℕ) → length_of bytes ≡ length_due (tag_of bytes) (marks_in bytes) → 3 + length_of bytes ≤ end
    → Inside 0 end (field_named bytes)
unfolding field_named month_in field_size
inside-named bytes end d w = cases (eqb (tag_of bytes) 1)
    (λ t. let n = due-month (tag_of bytes) (marks_in bytes) (eqb-true _ _ t) in rw t (omega arith, tt))
    (λ t. rw t (cases (eqb (tag_of bytes) 2)
    (λ u. rw u (omega (arith, w), element_least bytes t u d))
    (λ u. let n = due-message (tag_of bytes) (marks_in bytes) (eqb-false _ _ t) (eqb-false _ _ u) in rw u (omega arith, tt))))

pub inside_in : (bytes : List ℕ) (phase : Phase) (ended : Bool) → Inside 0 (length bytes) (field_in bytes phase ended)
unfolding right_field field_size
inside_in bytes phase ended = cases (ltb (length bytes) 6)
    (λ t. rw (in_short bytes phase ended (ltb-true _ _ t)) (inside_cut (length bytes) (length bytes) ended))
    (λ t.
    let h : 6 ≤ length bytes = ltb-false _ _ t in
    cases (right_field phase bytes)
    (λ r. cases (leb (3 + length_of bytes) (length bytes))
    (λ w. rw (in_whole bytes phase ended h r (leb-true _ _ w))
    (inside-named bytes (length bytes) (right-length phase (tag_of bytes) (length_of bytes) (marks_in bytes) r) (leb-true _ _ w)))
    (λ w. rw (in_cut bytes phase ended h r (leb-false _ _ w)) (inside_cut (length bytes) (length bytes) ended)))
    (λ r. rw (in_wrong bytes phase ended h r) (omega arith, tt)))

pub inside_of : (bytes : List ℕ) (phase : Phase) → Inside 0 (length bytes) (field_of bytes phase)
inside_of bytes phase = rw (whole-rest bytes phase) at (inside_in bytes phase true)

-- what `field_at` answers
pub inside-at : (s : List ℕ) (at : ℕ) (phase : Phase) (ended : Bool) → at ≤ length s
    → Inside at (length s) (field_in (drop at s) phase ended)
inside-at s at phase ended h =
    let i = inside_in (drop at s) phase ended in let l = length-drop at s in (omega (arith, i.0), i.1)
