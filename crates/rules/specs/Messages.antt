-- Question 6: from the fields as they came to a message. "Is the kind 1 to 8 and is every field in range, unused ones 0?"
use Rattle.std.specs.Prelude.{ℕ, Bool, true, false, ◌&&◌, ◌||◌, cond, leb, ltb, eqb}
use Rattle.std.specs.Prelude.{Option, None, Some}
use Rattle.rules.specs.declared.Fields.{Fields}
use Rattle.rules.specs.declared.Sender.{Sender}
use Rattle.rules.specs.declared.Sender.TheVariants.{GridCompany, Energinet, Supplier}
use Rattle.rules.specs.declared.Body.{Body}
use Rattle.rules.specs.declared.Body.TheVariants.{Link, Stop, Quantity, Holder, State, Reading, Block, Round}
use Rattle.rules.specs.declared.Message.{Message}
use Rattle.rules.specs.Basics.{within, when}
use Rattle.rules.specs.Sizes.{end_of_days, hour_places, most_energy, most_quantity}
use Rattle.rules.specs.World.{new_state, closed}

-- "Days 0 to 36,524"
unfoldable pub is_day : (day : ℕ) → Bool
is_day d = ltb d end_of_days

-- "Roles: 1 grid company, 2 Energinet, 3 supplier (with its number; else 0)"; "a supplier of the book, which a role 3 sender must be too"
unfoldable pub sender_of : (suppliers : ℕ) → Fields → Option Sender
sender_of suppliers f =
    cond (eqb f.role 1) (when (eqb f.sender 0) GridCompany)
    (cond (eqb f.role 2) (when (eqb f.sender 0) Energinet)
    (when (eqb f.role 3 && within 1 suppliers f.sender) (Supplier f.sender)))

-- the hour is not used; neither it nor the element is
unfoldable pub no_hour : Fields → Bool
no_hour f = eqb f.hour 0

unfoldable pub no_element : Fields → Bool
no_element f = eqb f.element 0 && no_hour f

-- "quantity 1 to 999"
unfoldable pub is_quantity : (quantity : ℕ) → Bool
is_quantity n = within 1 most_quantity n

-- "Kinds 1 to 3 use point, element and day; 4 and 5 point and day; 6 point, day and hour; 7 the point.": the days and hours that a kind
-- uses are in range, and what it does not use is 0
unfoldable pub fields_right : Fields → Bool
fields_right f =
    cond (within 1 3 f.kind) (is_day f.day && no_hour f)
    (cond (within 4 5 f.kind) (is_day f.day && no_element f)
    (cond (eqb f.kind 6) (is_day f.day && (eqb f.element 0 && ltb f.hour hour_places))
    (cond (eqb f.kind 7) (eqb f.day 0 && no_element f)
    (eqb f.kind 8 && (eqb f.point 0 && (no_element f && eqb f.day 0))))))

-- "The value is the quantity, holder, state, Wh or block mark; kinds 2 and 8 have none.": it is in the kind's range, or 0
unfoldable pub value_fits : (suppliers kind value : ℕ) → Bool
value_fits suppliers kind value =
    cond (eqb kind 1 || eqb kind 3) (is_quantity value)
    (cond (eqb kind 4) (leb value suppliers)
    (cond (eqb kind 5) (within new_state closed value)
    (cond (eqb kind 6) (leb value most_energy)
    (cond (eqb kind 7) (leb value 1)
    (eqb value 0)))))

-- the body that the kind number names, of eight, with the fields that it uses
unfoldable pub body_named : Fields → Body
body_named f =
    cond (eqb f.kind 1) (Link f.point f.element f.day f.value)
    (cond (eqb f.kind 2) (Stop f.point f.element f.day)
    (cond (eqb f.kind 3) (Quantity f.point f.element f.day f.value)
    (cond (eqb f.kind 4) (Holder f.point f.day f.value)
    (cond (eqb f.kind 5) (State f.point f.day f.value)
    (cond (eqb f.kind 6) (Reading f.point f.day f.hour f.value)
    (cond (eqb f.kind 7) (Block f.point f.value)
    Round))))))

unfoldable pub body_of : (suppliers : ℕ) → Fields → Option Body
body_of suppliers f = when (fields_right f && value_fits suppliers f.kind f.value) (body_named f)

unfoldable pub both : (received : ℕ) → Option Sender → Option Body → Option Message
both received None b = None
both received (Some s) None = None
both received (Some s) (Some b) = Some (record { sender = s; received = received; body = b })

-- the message, where question 6 passes
unfoldable pub understood : (suppliers : ℕ) → Fields → Option Message
understood suppliers f = cond (is_day f.received) (both f.received (sender_of suppliers f) (body_of suppliers f)) None

-- 6: "Is the kind 1 to 8 and is every field in range, unused ones 0?"
unfoldable pub question6 : Option Message → Bool
question6 None = false
question6 (Some m) = true

unfoldable pub body_in : Option Message → Option Body
body_in None = None
body_in (Some m) = Some m.body
