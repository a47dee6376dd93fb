-- The parts of the tables that a book uses: they lie within the tables, and a part that was lent on comes back as the front of its table.
use Prim.Native.Nat.{ℕ, ◌*◌, ◌≤◌}
use native.Mathlib.Nat.{mul-le-mul}
use native.Mathlib.Omega.{arith}
use mathlib.Core.Path.{◌≡◌, refl, sym, ap, ◌∙◌}
use mathlib.Core.Bool.{Bool, true, cond}
use mathlib.Core.List.{List, ◌++◌}
use Rattle.std.specs.Prelude.{Option, None, Some}
use lib.IntN.{ℤ}
use lib.ListN.{length, take, drop}
use lib.Seq.{length-take-le, take_at}
use Rattle.calendar.specs.Gregorian.{days_of_month, longest_month}
use Rattle.calendar.proofs.MonthLaws.{days-range}
use Rattle.rules.specs.Sizes.{element_size, hour_places, line_size, most_elements, most_lines, most_suppliers, price_places}
use Rattle.rules.specs.declared.Book.{Book}
use Rattle.rules.specs.declared.Body.{Body}
use Rattle.rules.specs.declared.Fields.{Fields}
use Rattle.rules.specs.Basics.{all_to}
use Rattle.rules.specs.World.{Opening, World}
use Rattle.rules.specs.WellFormed.{within_limits, element_right}
use Rattle.rules.specs.Effects.{ask, posted, accepted, step_by, step}
use Rattle.rules.specs.Lent.{Lists, world_in, opening_in, lend_tables}
use Rattle.rules.proofs.Parts.{limits, lengths}
use Rattle.rules.specs.Whole.{Whole}
use Rattle.recording.specs.Opened.{cleared}
use Rattle.file.specs.Program.{settle_points}
use Rattle.runner.specs.declared.parts.Ends.{Ends}
use Rattle.runner.specs.Parts.{Sized, Fitted, ends_of, cut_to, fronts, fronts_world, fronts_opening, elements_answer}

-- ---- the parts lie within the tables

pub record EndsFit (e : Ends) : Type 0 where
  pub described : e.described ≤ most_elements * element_size
  pub priced : e.priced ≤ most_elements * price_places
  pub readings : e.readings ≤ settle_points * longest_month * hour_places
  pub blocks : e.blocks ≤ settle_points
  pub lines : e.lines ≤ most_lines * line_size

-- of the tables that messages write
pub record Within (e : Ends) (t : Lists) : Type 0 where
  pub readings : e.readings ≤ length t.readings
  pub blocks : e.blocks ≤ length t.blocks
  pub lines : e.lines ≤ length t.lines
  pub sent : e.lines ≤ length t.sent

pub month-fits : (points year month : ℕ) → points ≤ settle_points → points * days_of_month year month ≤ settle_points * longest_month
month-fits points year month h = mul-le-mul h (days-range year month).1

pub ends_fit : (b : Book) → Fitted b → (e : Ends) → e ≡ ends_of b → EndsFit e
unfolding ends_of
ends_fit b f e q =
    let p = month-fits b.points b.year b.month f.points in
    let l : b.suppliers * b.elements ≤ most_suppliers * most_elements = mul-le-mul f.suppliers f.elements in
    let n = f.elements in
    rw q (record { described = omega arith; priced = omega arith; readings = omega arith; blocks = f.points; lines = omega arith })

pub within : (b : Book) → Fitted b → (e : Ends) → e ≡ ends_of b → (t : Lists) → Sized t → Within e t
within b g e q t s =
    let f = ends_fit b g e q in
    record {
      readings = omega (arith, f.readings, s.readings);
      blocks = omega (arith, f.blocks, s.blocks);
      lines = omega (arith, f.lines, s.lines);
      sent = omega (arith, f.lines, s.sent);
    }

-- ---- books that they fit

pub limited_fitted : (b : Book) (o : Lists) → within_limits (opening_in b o) ≡ true → b.points ≤ settle_points → Fitted b
limited_fitted b o h p =
    let l = limits (opening_in b o) h in
    record { month = l.month; points = p; suppliers = l.suppliers; elements = l.elements }

-- an open book of at most 16 points
pub whole_fitted : (b : Book) (t : Lists) → Whole (fronts_world b t) → b.points ≤ settle_points → Fitted b
whole_fitted b t w p =
    let l = (lengths (fronts_world b t) w).limited in
    record { month = l.month; points = p; suppliers = l.suppliers; elements = l.elements }

-- ---- a part that was lent on comes back

front_back : {A : Type 0} (n : ℕ) (xs ys : List A) → length ys ≡ length (take n xs) → n ≤ length xs → take n (ys ++ drop n xs) ≡ ys
front_back n xs ys l h = take_at ys (drop n xs) n (l ∙ length-take-le n xs h)

-- the tables with the parts x back in their places
abbrev pub put_back : Ends → (before parts : Lists) → Lists
put_back e t x =
    lend_tables x.links x.holders x.states (x.readings ++ drop e.readings t.readings)
    (x.blocks ++ drop e.blocks t.blocks) (x.lines ++ drop e.lines t.lines) (x.sent ++ drop e.lines t.sent) t

-- parts that are as long as they were
pub record AsLong (e : Ends) (t x : Lists) : Type 0 where
  pub readings : length x.readings ≡ length (take e.readings t.readings)
  pub blocks : length x.blocks ≡ length (take e.blocks t.blocks)
  pub lines : length x.lines ≡ length (take e.lines t.lines)
  pub sent : length x.sent ≡ length (take e.lines t.sent)

pub parts_back : (e : Ends) (t x : Lists) → Within e t → AsLong e t x
    → cut_to e (put_back e t x)
    ≡ lend_tables x.links x.holders x.states x.readings x.blocks x.lines x.sent (cut_to e t)
parts_back e t x v l =
    rw (
      front_back e.readings t.readings x.readings l.readings v.readings,
      front_back e.blocks t.blocks x.blocks l.blocks v.blocks,
      front_back e.lines t.lines x.lines l.lines v.lines,
      front_back e.lines t.sent x.sent l.sent v.sent,
    )

-- ---- a message leaves the month and the counts

by_opening : (w : World) (b : Option Body) → (step_by w b).opening ≡ w.opening
unfolding step_by posted
by_opening w None = refl
by_opening w (Some b) = refl

pub step-opening : (w : World) (f : Fields) (room : ℕ) → (step w f room).opening ≡ w.opening
unfolding step
step-opening w f room = by_opening w (accepted w f room)

-- so the parts end where they did
ends_same : (a b : Book) → a.year ≡ b.year → a.month ≡ b.month → a.points ≡ b.points → a.suppliers ≡ b.suppliers
    → a.elements ≡ b.elements → ends_of a ≡ ends_of b
unfolding ends_of
ends_same a b y m p s e = rw (y, m, p, s, e)

pub ends_stay : (a b : Book) (o x : Lists) (f : Fields) (room : ℕ) → world_in a x ≡ step (world_in b o) f room → ends_of a ≡ ends_of b
ends_stay a b o x f room e =
    let h = ap (λ (w : World). w.opening) e ∙ step-opening (world_in b o) f room in
    ends_same a b (ap (λ (y : Opening). y.year) h) (ap (λ (y : Opening). y.month) h) (ap (λ (y : Opening). y.points) h)
    (ap (λ (y : Opening). y.suppliers) h) (ap (λ (y : Opening). y.elements) h)

pub points_stay : (a b : Book) (o x : Lists) (f : Fields) (room : ℕ) → world_in a x ≡ step (world_in b o) f room → a.points ≡ b.points
points_stay a b o x f room e = ap (λ (w : World). w.opening.points) e
    ∙ ap (λ (y : Opening). y.points) (step-opening (world_in b o) f room)

-- ---- question 4 of the parts

pub elements-asked : (b : Book) (t : Lists) (e : Ends) → e ≡ ends_of b → (r : Bool)
    → all_to (element_right (opening_in b (cut_to e t))) b.elements ≡ r
    → cond r 0 4 ≡ elements_answer (fronts_opening b t)
unfolding ask
elements-asked b t e q r h =
    ap (λ (x : Bool). cond x 0 4) (sym h)
    ∙ ap (λ (y : Ends). cond (all_to (element_right (opening_in b (cut_to y t))) b.elements) 0 4) q

-- ---- parts that were cleared

pub cleared_back : (b : Book) (t : Lists) (e : Ends) → e ≡ ends_of b → Within e t
    → (links holders states readings blocks : List ℕ) (lines sent : List ℤ)
    → AsLong e t (lend_tables links holders states readings blocks lines sent (cut_to e t))
    → lend_tables links holders states readings blocks lines sent (cut_to e t) ≡ cleared (cut_to e t)
    → fronts b (put_back e t (lend_tables links holders states readings blocks lines sent (cut_to e t))) ≡ cleared (fronts b t)
cleared_back b t e q v links holders states readings blocks lines sent l h =
    let x = lend_tables links holders states readings blocks lines sent (cut_to e t) in
    ap (λ (y : Ends). cut_to y (put_back e t x)) (sym q) ∙ parts_back e t x v l ∙ h ∙ ap (λ (y : Ends). cleared (cut_to y t)) q
