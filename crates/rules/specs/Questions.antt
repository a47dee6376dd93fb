-- Questions 7 to 16, each a test of what the opening fixes, of the tables and of the message. A question that does not concern a body
-- passes.
use Rattle.std.specs.Prelude.{ℕ, ◌+◌, ◌-◌, Bool, true, false, not, ◌&&◌, ◌||◌, get_or, leb, ltb, eqb}
use Rattle.std.specs.Prelude.{Option, None, Some}
use Rattle.rules.specs.declared.Sender.{Sender}
use Rattle.rules.specs.declared.Sender.TheVariants.{GridCompany, Energinet, Supplier}
use Rattle.rules.specs.declared.Body.{Body}
use Rattle.rules.specs.declared.Body.TheVariants.{Link, Stop, Quantity, Holder, State, Reading, Block, Round}
use Rattle.rules.specs.declared.Place.{Place}
use Rattle.rules.specs.Basics.{any_to, asked}
use Rattle.rules.specs.Sizes.{end_of_days, days_ahead, grid_days_back, supplier_days_back}
use Rattle.rules.specs.World.{Opening, Tables, owner_of, marked, tax, is_tariff, month_first, month_days}
use Rattle.rules.specs.World.{grid_company, energinet, holder_on, state_on, not_existing, closed, linked_on}

-- the point that a message is about; a round is about none
unfoldable pub point_of : Body → Option ℕ
point_of (Link p e d q) = Some p
point_of (Stop p e d) = Some p
point_of (Quantity p e d q) = Some p
point_of (Holder p d h) = Some p
point_of (State p d s) = Some p
point_of (Reading p d h n) = Some p
point_of (Block p b) = Some p
point_of Round = None

-- what kinds 1 to 3 are about
unfoldable pub place_of : Body → Option Place
place_of (Link p e d q) = Some (record { point = p; element = e; day = d })
place_of (Stop p e d) = Some (record { point = p; element = e; day = d })
place_of (Quantity p e d q) = Some (record { point = p; element = e; day = d })
place_of (Holder p d h) = None
place_of (State p d s) = None
place_of (Reading p d h n) = None
place_of (Block p b) = None
place_of Round = None

-- 7: "Except for a round: is the point in the book (E10)?"
unfoldable pub question7 : Opening → Body → Bool
question7 o b = asked (λ p. ltb p o.points) (point_of b)

-- "the quantity 1 where a tariff is linked"
unfoldable pub tariff_once : Opening → Body → Bool
tariff_once o (Link p e d q) = not (is_tariff o e) || eqb q 1
tariff_once o (Stop p e d) = true
tariff_once o (Quantity p e d q) = true
tariff_once o (Holder p d h) = true
tariff_once o (State p d s) = true
tariff_once o (Reading p d h n) = true
tariff_once o (Block p b) = true
tariff_once o Round = true

-- 8: "Kinds 1 to 3: is the element in the book, and the quantity 1 where a tariff is linked?"
unfoldable pub question8 : Opening → Body → Bool
question8 o b = asked (λ (l : Place). ltb l.element o.elements) (place_of b) && tariff_once o b

-- "Block (1) or unblock (0) the point"
unfoldable pub blocked : Tables → (point : ℕ) → Bool
blocked t p = eqb (get_or t.blocks p 0) 1

unfoldable pub is_grid_company : Sender → Bool
is_grid_company GridCompany = true
is_grid_company Energinet = false
is_grid_company (Supplier s) = false

unfoldable pub is_energinet : Sender → Bool
is_energinet GridCompany = false
is_energinet Energinet = true
is_energinet (Supplier s) = false

-- "the grid company for its own elements, and for taxes on a blocked point; Energinet for its own; a supplier for Energinet's tariffs on an
-- unblocked point that it holds on the given day"
unfoldable pub may_link : Opening → Tables → Sender → Place → Bool
may_link o t GridCompany l = eqb (owner_of o l.element) grid_company || (marked o tax l.element && blocked t l.point)
may_link o t Energinet l = eqb (owner_of o l.element) energinet
may_link o t (Supplier s) l =
    eqb (owner_of o l.element) energinet
    && (is_tariff o l.element && (not (blocked t l.point) && eqb (holder_on t l.point l.day) s))

-- "Kinds 5 to 7: the grid company. Kinds 4 and 8: Energinet."
unfoldable pub may_send : Sender → Body → Bool
may_send from (Link p e d q) = true
may_send from (Stop p e d) = true
may_send from (Quantity p e d q) = true
may_send from (Holder p d h) = is_energinet from
may_send from (State p d s) = is_grid_company from
may_send from (Reading p d h n) = is_grid_company from
may_send from (Block p b) = is_grid_company from
may_send from Round = is_energinet from

-- 9: "May the sender (E22)?"
unfoldable pub question9 : Opening → Tables → Sender → Body → Bool
question9 o t from b = asked (may_link o t from) (place_of b) && may_send from b

-- "is the day at most 1,095 after the received day, and at most 90 (grid company) or 21 (supplier) before it? Energinet has no lower bound
-- (E17)."
unfoldable pub in_time : Sender → (received day : ℕ) → Bool
in_time GridCompany received d = leb d (received + days_ahead) && leb received (d + grid_days_back)
in_time Energinet received d = leb d (received + days_ahead)
in_time (Supplier s) received d = leb d (received + days_ahead) && leb received (d + supplier_days_back)

-- 10: that, of "Kinds 1 to 3"
unfoldable pub question10 : Sender → (received : ℕ) → Body → Bool
question10 from received b = asked (λ (l : Place). in_time from received l.day) (place_of b)

-- 11: "Kinds 1 to 3: does the point exist on the given day (E50)?"
unfoldable pub question11 : Tables → Body → Bool
question11 t b = asked (λ (l : Place). not (eqb (state_on t l.point l.day) not_existing)) (place_of b)

-- 12: "Is it other than closed on that day (D16)?"
unfoldable pub question12 : Tables → Body → Bool
question12 t b = asked (λ (l : Place). not (eqb (state_on t l.point l.day) closed)) (place_of b)

-- 13: "Link: is the element not linked that day", D14 as document 01 widens it
unfoldable pub question13 : Tables → (point element day : ℕ) → Bool
question13 t p e d = not (linked_on t p e d)

-- 14: "Stop: is some day before D linked, and some day from D on (E50)?"
unfoldable pub question14 : Tables → (point element day : ℕ) → Bool
question14 t p e d = any_to (linked_on t p e) d && any_to (λ i. linked_on t p e (d + i)) (end_of_days - d)

-- 15: "Quantity: no tariff, and linked that day?"
unfoldable pub question15 : Opening → Tables → (point element day : ℕ) → Bool
question15 o t p e d = not (is_tariff o e) && linked_on t p e d

-- 16: "Reading: is the day in the month?"
unfoldable pub question16 : Opening → (day : ℕ) → Bool
question16 o d = leb (month_first o) d && ltb d (month_first o + month_days o)

-- the question that one body alone is asked, and its number
unfoldable pub own_question : Opening → Tables → Body → Bool
own_question o t (Link p e d q) = question13 t p e d
own_question o t (Stop p e d) = question14 t p e d
own_question o t (Quantity p e d q) = question15 o t p e d
own_question o t (Holder p d h) = true
own_question o t (State p d s) = true
own_question o t (Reading p d h n) = question16 o d
own_question o t (Block p b) = true
own_question o t Round = true

unfoldable pub own_number : Body → ℕ
own_number (Link p e d q) = 13
own_number (Stop p e d) = 14
own_number (Quantity p e d q) = 15
own_number (Holder p d h) = 0
own_number (State p d s) = 0
own_number (Reading p d h n) = 16
own_number (Block p b) = 0
own_number Round = 0
