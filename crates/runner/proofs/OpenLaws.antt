-- The opening: what `settle` answers is what the code asks, and a book that opens finds the tables as the rules say.
use Prim.Native.Nat.{ℕ, ◌+◌, ◌*◌, ◌≤◌, ◌<◌, min}
use native.Mathlib.Omega.{arith}
use mathlib.Core.Path.{◌≡◌, refl, sym, ap, subst, ◌∙◌}
use mathlib.Core.Logic.{◌≢◌}
use mathlib.Core.Bool.{Bool, true, false}
use mathlib.Core.List.{List}
use lib.IntN.{pos}
use lib.ListN.{length, take, length-replicate}
use lib.Seq.{length-take-le}
use lib.Dec.{leb, eqb}
use borrow.Author.Tests.{eq-eqb, ne_eqb, le-leb, lt-leb, leb-true, leb-false}
use Rattle.calendar.specs.Gregorian.{InRange, days_of_month, first_day}
use Rattle.rules.specs.Sizes.{element_size, hour_places, line_size, most_elements, price_places}
use Rattle.rules.specs.declared.Book.{Book}
use Rattle.rules.specs.World.{Opening, World, table_of, month_days, month_first, line_count}
use Rattle.rules.specs.WellFormed.{within_limits, rows_fit, opening_sized, tables_sized, lines_sized, reading_count, line_places, question2}
use Rattle.rules.specs.WellFormed.{question3, question4}
use Rattle.rules.specs.Opening.{opening_answer, opened}
use Rattle.rules.specs.Effects.{ask}
use Rattle.rules.specs.Lent.{Lists, world_in}
use Rattle.rules.specs.Whole.{Limits, Dated, Whole}
use Rattle.rules.proofs.Tests.{cases, both}
use Rattle.rules.proofs.Parts.{limits}
use Rattle.rules.proofs.Passed.{asked_passed}
use Rattle.rules.proofs.Begin.{passed, begin-whole}
use Rattle.recording.specs.Opened.{cleared}
use Rattle.recording.proofs.ClearLaws.{opened-cleared}
use Rattle.file.specs.Lines.{book_line, longest_line, Written}
use Rattle.file.specs.Program.{Heading, collected, lent_for, settle_points, settle_answer}
use Rattle.file.proofs.PlacedLaws.{loosened}
use Rattle.runner.specs.declared.Progress.{Progress}
use Rattle.runner.specs.declared.Advanced.{Advanced}
use Rattle.runner.specs.Stages.{Stage, messages, broken, line_of, opened_to, opening}
use Rattle.runner.specs.Parts.{Sized, Fitted, ends_of, fronts, fronts_world, fronts_opening, elements_answer, anew}
use Rattle.runner.specs.Holding.{HoldsValues, Open, Represents, Advances}
use Rattle.runner.proofs.PartLaws.{within, limited_fitted}

-- ---- question 2

pub unlimited : (o : Opening) → within_limits o ≡ false → settle_answer o ≡ 2
unfolding settle_answer opening_answer question2 ask lent_for
unlimited o h = cases (leb o.points settle_points) (λ t. rw (t, h)) (λ t. rw t)

pub too_many-points : (o : Opening) → settle_points < o.points → settle_answer o ≡ 2
unfolding settle_answer ask
too_many-points o h = rw (lt-leb o.points settle_points h)

too_many : (o : Opening) → most_elements < o.elements → settle_answer o ≡ 2
too_many o h = cases (within_limits o) (λ t. let l = limits o t in absurd (omega (arith, l.elements))) (λ t. unlimited o t)

-- ---- questions 3 and 4: every table has its exact length

lent-sized : (o : Opening) → opening_sized o ≡ true → question3 (lent_for o) ≡ true
unfolding question3 lent_for tables_sized lines_sized table_of
lent-sized o h =
    rw (
      h,
      length-replicate {A = ℕ} (reading_count o) 0,
      eq-eqb (reading_count o) (reading_count o) refl,
      length-replicate {A = ℕ} o.points 0,
      eq-eqb o.points o.points refl,
      length-replicate (line_places o) (pos 0),
      eq-eqb (line_places o) (line_places o) refl,
    )

front-sized : {A : Type 0} (n : ℕ) (xs : List A) → n ≤ length xs → eqb (length (take n xs)) n ≡ true
front-sized n xs h = eq-eqb (length (take n xs)) n (length-take-le n xs h)

module _ (b : Book) (t : Lists) (g : Fitted b)
    (ed : b.elements * element_size ≤ length t.element_data) (ps : b.elements * price_places ≤ length t.prices) where
  described-sized : opening_sized (fronts_opening b t) ≡ true
  unfolding opening_sized ends_of
  described-sized = rw (front-sized (b.elements * element_size) t.element_data ed, front-sized (b.elements * price_places) t.prices ps)

  -- question 4 alone is left
  pub asked-elements : within_limits (fronts_opening b t) ≡ true → settle_answer (fronts_opening b t) ≡ elements_answer (fronts_opening b t)
  unfolding settle_answer opening_answer question2 question4 ask rows_fit table_of lent_for
  asked-elements h = rw (le-leb b.points settle_points g.points, h, lent-sized (fronts_opening b t) described-sized)

-- ---- questions 2 to 4 pass

pub record Settles (o : Opening) : Type 0 where
  pub points : o.points ≤ settle_points
  pub limits : Limits o
  pub within : within_limits o ≡ true
  pub sized : opening_sized o ≡ true
  pub elements : question4 (lent_for o) ≡ true
  pub whole : Whole (opened (lent_for o))

pub settles : (o : Opening) → settle_answer o ≡ 0 → Settles o
unfolding settle_answer lent_for question2 question3
settles o h =
    let a = asked_passed (leb o.points settle_points) 2 _ 0 (λ k. omega arith) h in
    let p = passed (lent_for o) a.1 in
    let l = (both (within_limits o) _ p.limited).0 in
    record {
      points = leb-true _ _ a.0;
      limits = limits o l;
      within = l;
      sized = (both (opening_sized o) _ p.sized).0;
      elements = p.elements;
      whole = begin-whole (lent_for o) p;
    }

-- ---- the tables' own opening

module _ (b : Book) (t : Lists) (s : Sized t) (h : settle_answer (fronts_opening b t) ≡ 0) where
  pub settled_fitted : Fitted b
  settled_fitted = let p = settles (fronts_opening b t) h in limited_fitted b (fronts b t) p.within p.points

  parts_sized : question3 (fronts_world (anew b) t) ≡ true
  unfolding question3 ends_of tables_sized lines_sized reading_count line_places line_count month_days
  parts_sized =
      let f = within b settled_fitted (ends_of b) refl t s in
      rw (
        (settles (fronts_opening b t) h).sized,
        s.links,
        s.holders,
        s.states,
        front-sized (b.points * days_of_month b.year b.month * hour_places) t.readings f.readings,
        front-sized b.points t.blocks f.blocks,
        front-sized (b.suppliers * b.elements * line_size) t.lines f.lines,
        front-sized (b.suppliers * b.elements * line_size) t.sent f.sent,
      )

  opens_parts : opening_answer (fronts_world (anew b) t) ≡ 0
  unfolding opening_answer question2 question4 ask rows_fit ends_of lent_for
  opens_parts = let p = settles (fronts_opening b t) h in rw (p.within, parts_sized, p.elements)

  -- cleared parts are the opened book's
  pub opened_parts : (t' : Lists) → fronts b t' ≡ cleared (fronts b t) → fronts_world (anew b) t' ≡ opened (lent_for (fronts_opening b t))
  unfolding ends_of
  opened_parts t' e =
      ap (world_in (anew b)) e
      ∙ opened-cleared b.year b.month b.points b.suppliers b.elements (fronts b t) opens_parts
      ∙ unfold opened lent_for in refl

-- ---- the values that were read are the tables' opening

count-few : (n : ℕ) → n ≤ most_elements → min (most_elements + 1) n ≡ n
count-few n h = omega arith

count-many : (n : ℕ) → most_elements < n → most_elements < min (most_elements + 1) n
count-many n h = omega arith

module _ (b : Book) (t : Lists) (h : Heading) (values : List (List ℕ)) (v : HoldsValues b t.element_data t.prices h values) where
  collected_in : length values ≤ most_elements → fronts_opening b t ≡ collected h values
  unfolding ends_of collected
  collected_in l = rw (v.book, count-few (length values) l, v.described l, v.priced l)

  collected-many : most_elements < length values → most_elements < (fronts_opening b t).elements
  collected-many l = rw v.book (count-many (length values) l)

  many : (at : ℕ) (o : Opening) (more : World → Stage) → most_elements < o.elements → opening at o more ≡ broken at 2
  unfolding opening
  many at o more l = rw (too_many o l)

  opening_in_lem : (at : ℕ) (more : World → Stage) → opening at (fronts_opening b t) more ≡ opening at (collected h values) more
  opening_in_lem at more = cases (leb (length values) most_elements)
      (λ l. ap (λ (o : Opening). opening at o more) (collected_in (leb-true _ _ l)))
      (λ l. let k = leb-false _ _ l in many at (fronts_opening b t) more (collected-many k)
      ∙ sym (many at (collected h values) more (unfold collected in k)))

  -- ---- what the opening prints and leaves

  pub book_opens : (t' : Lists) → Sized t → settle_answer (fronts_opening b t) ≡ 0
      → fronts (anew b) t' ≡ cleared (fronts (anew b) t) → (out out' : List ℕ) (at from written : ℕ) (last : Bool) (p : Progress)
      → ((x : World) → Open (anew b) 1 t' (messages x 1) → Represents p t' (opened_to last x))
      → Written longest_line out out' from written (book_line b.year b.month (days_of_month b.year b.month) (first_day b.year b.month))
      → Advances (opening at (collected h values) (opened_to last)) (record { progress = p; next = at; written = written }) t' out out' from
  unfolding opening line_of month_days month_first ends_of
  book_opens t' s k c out out' at from written last p r w =
      let z = settles (fronts_opening b t) k in
      let same : fronts_world (anew b) t' ≡ opened (lent_for (fronts_opening b t)) = opened_parts b t s k t' c in
      rw (← opening_in_lem at (opened_to last), k) (record {
        holds = r (opened (lent_for (fronts_opening b t))) (record {
          is = rw same;
          holds = record { whole = subst (λ (x : World). Whole x) (sym same) z.whole; points = z.points };
        });
        text = loosened (omega arith) w;
        place = refl;
      })

  pub book_stays : (question : ℕ) → question ≡ settle_answer (fronts_opening b t) → question ≢ 0
      → (t' : Lists) (out out' : List ℕ) (at from : ℕ) (last : Bool) (a : Advanced)
      → Advances (broken at question) a t' out out' from
      → Advances (opening at (collected h values) (opened_to last)) a t' out out' from
  unfolding opening
  book_stays question e z t' out out' at from last a v =
      let k : settle_answer (fronts_opening b t) ≢ 0 = λ y. z (e ∙ y) in
      rw (← opening_in_lem at (opened_to last), ne_eqb (settle_answer (fronts_opening b t)) 0 k, ← e) v

-- the book that is opened fits the tables, and has the dates of its month
pub fresh-ready : (b : Book) (t : Lists) → Sized t → settle_answer (fronts_opening b t) ≡ 0 → Fitted (anew b) × Dated (anew b)
fresh-ready b t s h =
    let f = settled_fitted b t s h in (
      record { month = f.month; points = f.points; suppliers = f.suppliers; elements = f.elements },
      record { month = f.month; first = refl; days = refl },
    )

pub cleared_by : (x y : Book) (t t' : Lists) → x ≡ y → fronts x t' ≡ cleared (fronts x t) → fronts y t' ≡ cleared (fronts y t)
cleared_by x y t t' e c = subst (λ (b : Book). fronts b t' ≡ cleared (fronts b t)) e c

-- the month of a book that opens
pub open_month : (b : Book) (t : Lists) → settle_answer (fronts_opening b t) ≡ 0 → InRange b.year b.month
open_month b t h = (settles (fronts_opening b t) h).limits.month
