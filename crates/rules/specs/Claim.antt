-- Demand 3, with what requests 7 and 11 say of such lists, as one claim about every opening and every list of messages.
use Rattle.std.specs.Prelude.{◌≡◌, ℕ, suc, ◌+◌, ◌≤◌, ◌<◌, Bool, true, false, ◌&&◌, cond, ℤ, pos, nat_abs, ◌+ℤ◌, length, eqb}
use mathlib.Core.List.{List, [], ◌∷◌, ◌++◌, Memᴰ}
use Rattle.std.specs.Prelude.{Option, None, Some}
use Rattle.integers.specs.Sums.{sum_to}
use Rattle.rules.specs.declared.Fields.{Fields}
use Rattle.rules.specs.declared.Message.{Message}
use Rattle.rules.specs.declared.Record.{Record}
use Rattle.rules.specs.Lines.{Measure, line, owed_by_holder}
use Rattle.rules.specs.World.{Opening, World, month_first, month_days, terms_of, amount_of, InBook}
use Rattle.rules.specs.WellFormed.{rows_fit}
use Rattle.rules.specs.Whole.{Whole}
use Rattle.rules.specs.Messages.{understood}
use Rattle.rules.specs.Effects.{tables_after, answer, step, records_of}
use Rattle.rules.specs.Opening.{opening_answer, opened}
use Rattle.rules.specs.Queries.{LineResult, line_query, line_named, line_given, own_line, named}
use Rattle.rules.specs.Packed.{owned_sum, ledger_sum, ledger_amount, fits}
use Rattle.rules.specs.Fresh.{Fresh, nothing, hear, fresh_facts}

-- a message as it came, and the list of records that was lent with it
pub record Event : Type 0 where
  pub fields : Fields
  pub lent : List Record

-- where a list of messages has led: the world, fresh settlement, and the records that the accepted rounds have written
pub record History : Type 0 where
  pub world : World
  pub fresh : Fresh
  pub records : List Record

-- fresh settlement is told the message and the answer
unfoldable pub advance : History → Event → History
advance h v =
    record {
      world = step h.world v.fields (length v.lent);
      fresh = hear h.world.opening h.fresh v.fields (answer h.world v.fields (length v.lent));
      records = h.records ++ records_of h.world v.fields (length v.lent);
    }

unfoldable pub advance_all : History → List Event → History
advance_all h [] = h
advance_all h (v ∷ vs) = advance_all (advance h v) vs

-- from a fresh opening
unfoldable pub begin : World → History
begin w = record { world = w; fresh = nothing; records = [] }

abbrev pub reached : World → List Event → History
reached w vs = advance_all (begin (opened w)) vs

-- a list of messages, split at one of them: those before it, it, and those behind it
pub record Split {A : Type 0} (list : List A) : Type 0 where
  pub before : List A
  pub message : A
  pub behind : List A
  pub is : list ≡ before ++ (message ∷ behind)

-- the messages up to that one, it among them
abbrev pub up_to : {A : Type 0} {list : List A} → Split list → List A
up_to x = x.before ++ (x.message ∷ [])

-- is the record of the supplier's line under the element
abbrev pub is_of : (supplier element : ℕ) → Record → Bool
is_of s e r = eqb r.supplier s && eqb r.element e

-- what the records say of one supplier and element, in one measure
unfoldable pub moves : Measure → Record → ℤ
moves Measure.quantity r = r.moved.quantity
moves Measure.amount r = amount_of r.moved.kroner (pos r.moved.billionths)

unfoldable pub total : Measure → (supplier element : ℕ) → List Record → ℤ
total m s e [] = pos 0
total m s e (r ∷ rs) = cond (is_of s e r) (moves m r) (pos 0) +ℤ total m s e rs

-- both sums, in the form of the line query's answer
abbrev pub total_line : (supplier element : ℕ) → List Record → LineResult
total_line s e rs = line_named (total Measure.quantity s e rs) (total Measure.amount s e rs)

-- the balance that a record carries, in the same form
unfoldable pub balance_of : Record → LineResult
balance_of r =
    record { number = 0; quantity = r.balance.quantity; kroner = r.balance.kroner; billionths = r.balance.billionths }

-- the last record of a line, or the one that was found before these
unfoldable pub last_record : (supplier element : ℕ) → (found : Option Record) → List Record → Option Record
last_record s e found [] = found
last_record s e found (r ∷ rs) = last_record s e (cond (is_of s e r) (Some r) found) rs

-- "for a line with records, the last balance equals their sum"
abbrev pub LastBalance : (supplier element : ℕ) → List Record → Type 0
LastBalance s e rs = (r : Record) → last_record s e None rs ≡ Some r → balance_of r ≡ total_line s e rs

-- and it is the line as it stands: "and the line at that round"
abbrev pub LastStands : (supplier element : ℕ) → List Record → World → Type 0
LastStands s e rs w = (r : Record) → last_record s e None rs ≡ Some r → balance_of r ≡ line_query w s e

-- the supplier holds the point on some day of the month; "holders fresh settlement's"
pub record Holds (o : Opening) (f : Fresh) (s p : ℕ) : Type 0 where
  pub day : ℕ
  pub in_month : day < month_days o
  pub holder : (fresh_facts f).holder p (month_first o + day) ≡ s

-- no line of a book reached from an opening is larger
unfoldable pub reached_limit : Measure → ℕ
reached_limit Measure.quantity = 2000000000000
reached_limit Measure.amount = 80000000000000000000

-- for one opening and one list of messages; "Lines there are the line query's answers"
pub record Kept (w : World) (vs : List Event) : Type 0 where
  -- "every line equals the line that fresh settlement in document 01 gives from the opening and the accepted messages alone"
  pub fresh : (s e : ℕ) → InBook w.opening s e
      → line_query (reached w vs).world s e ≡ line_given w.opening (fresh_facts (reached w vs).fresh) s e
  -- demand 2, of the book's own tables: "every line equals the sum that those rules give from links, holders, connection states, prices and
  -- readings"
  pub sums : (s e : ℕ) → InBook w.opening s e → line_query (reached w vs).world s e ≡ own_line (reached w vs).world s e
  -- "each message about one point has changed only lines of suppliers who hold that point on some day of the month, before or after that
  -- message"
  pub local : (x : Split vs) (s e : ℕ) → InBook w.opening s e
      → (Holds w.opening (reached w x.before).fresh s x.message.fields.point → ⊥)
      → (Holds w.opening (reached w (up_to x)).fresh s x.message.fields.point → ⊥)
      → line_query (reached w (up_to x)).world s e ≡ line_query (reached w x.before).world s e
  -- "after each accepted round in the list, the records that its accepted rounds have written so far, each as document 01's round has it,
  -- add up, for every supplier and element, to the line as it then stands"
  pub rounds : (x : Split vs) → x.message.fields.kind ≡ 8
      → answer (reached w x.before).world x.message.fields (length x.message.lent) ≡ 0
      → (m : Measure) (s e : ℕ) → InBook w.opening s e
      → total m s e (reached w (up_to x)).records ≡ named m (line_query (reached w (up_to x)).world s e)
  -- request 7: "for a line with records, the last balance equals their sum"
  pub last_balance : (s e : ℕ) → InBook w.opening s e → LastBalance s e (reached w vs).records
  -- "and the line at that round", whether the round has a record for it or not
  pub round_balance : (x : Split vs) → x.message.fields.kind ≡ 8
      → answer (reached w x.before).world x.message.fields (length x.message.lent) ≡ 0
      → (s e : ℕ) → InBook w.opening s e → LastStands s e (reached w (up_to x)).records (reached w (up_to x)).world
  -- and each record r that a message writes (`List.Memᴰ r rs`: r stands in the list rs) carries the line query's answer after it
  pub each_balance : (x : Split vs) (r : Record)
      → Memᴰ r (records_of (reached w x.before).world x.message.fields (length x.message.lent))
      → balance_of r ≡ line_query (reached w (up_to x)).world r.supplier r.element
  -- "an element's lines over all suppliers add up to what is owed for it point by point, by the same settlement, on the month's days with a
  -- holder"
  pub totals : (m : Measure) (e : ℕ) → e < w.opening.elements
      → sum_to (λ s. named m (line_query (reached w vs).world (suc s) e)) w.opening.suppliers
      ≡ sum_to (λ p. sum_to (λ i. owed_by_holder (terms_of w.opening) (fresh_facts (reached w vs).fresh) m p e (month_first w.opening + i))
      (month_days w.opening)) w.opening.points
  -- the book stays well formed, so nothing is refused for the book's sake
  pub whole : Whole (reached w vs).world
  -- "An opened book never leaves the bounds": lines stay far inside them, and 17 is said only where rows do not fit
  pub small : (m : Measure) (s e : ℕ) → InBook w.opening s e → nat_abs (named m (line_query (reached w vs).world s e)) ≤ reached_limit m
  pub full : (x : Split vs) (b : Message) → understood w.opening.suppliers x.message.fields ≡ Some b
      → answer (reached w x.before).world x.message.fields (length x.message.lent) ≡ 17
      → rows_fit (tables_after (reached w x.before).world b.body) ≡ false
  -- request 11: "Every sum of a book reached from opening fits"
  pub ledger_fits : (s owner : ℕ) → 1 ≤ s → s ≤ w.opening.suppliers → fits (ledger_amount (reached w vs).world s owner) ≡ true
  -- and it is that of fresh settlement's lines
  pub ledger_fresh : (s owner : ℕ) → 1 ≤ s → s ≤ w.opening.suppliers
      → ledger_sum (reached w vs).world s owner
      ≡ owned_sum w.opening owner (λ e. line (terms_of w.opening) (fresh_facts (reached w vs).fresh) Measure.amount s e)

-- demand 3
abbrev pub Demand3 : Type 0
Demand3 = (w : World) → opening_answer w ≡ 0 → (vs : List Event) → Kept w vs
