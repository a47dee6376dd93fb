-- Fresh settlement: "told the opening and each message with the answer that demand 2 gives it, nothing else. It keeps, per point, holders
-- and states by first day, readings by day and hour, and per element and day a quantity (0 if unlinked) and a mark where a period starts;
-- none at first."
-- Its state and what each message does to it stand here alone: no rows, no lines, nothing that was sent. It shares with the book which
-- message the fields are (`understood`), the kinds and prices of elements and the month (`kind_of`, `terms_of`), that a recorded value
-- holds up to the next (`latest`), which states count (`counting_states`), and the charge of a day with its sums (`charge`, `line` in
-- Lines.antt).
use Rattle.std.specs.Prelude.{ℕ, ◌+◌, ◌-◌, Bool, false, not, ◌&&◌, ◌||◌, cond, leb, ltb, eqb}
use Rattle.std.specs.Prelude.{Option, None, Some}
use Rattle.rules.specs.declared.Fields.{Fields}
use Rattle.rules.specs.declared.Body.{Body}
use Rattle.rules.specs.declared.Body.TheVariants.{Link, Stop, Quantity, Holder, State, Reading, Block, Round}
use Rattle.rules.specs.Basics.{latest, all_to}
use Rattle.rules.specs.Sizes.{end_of_days}
use Rattle.rules.specs.Lines.{Facts, fee}
use Rattle.rules.specs.World.{Opening, kind_of}
use Rattle.rules.specs.Messages.{understood, body_in}

pub record Fresh : Type 0 where
  pub holder : (point day : ℕ) → Option ℕ
  pub state : (point day : ℕ) → Option ℕ
  pub reading : (point day hour : ℕ) → ℕ
  pub quantity : (point element day : ℕ) → ℕ
  pub start : (point element day : ℕ) → Bool

unfoldable pub nothing : Fresh
nothing =
    record { holder = λ p d. None; state = λ p d. None; reading = λ p d h. 0; quantity = λ p e d. 0; start = λ p e d. false }

-- are these the two numbers of the message
unfoldable pub here : (a b : ℕ) → (x y : ℕ) → Bool
here a b x y = eqb x a && eqb y b

-- no period starts after day a, up to d
unfoldable pub no_start : (start : (day : ℕ) → Bool) → (from day : ℕ) → Bool
no_start start a d = all_to (λ i. not (start (a + 1 + i))) (d - a)

-- the days that a link from a reaches: "a fee covers the given day alone; other kinds run to the element's next period on that point, or to
-- day 36,525"
unfoldable pub reaches : (is_fee : Bool) → (start : (day : ℕ) → Bool) → (from day : ℕ) → Bool
reaches is_fee start a d = cond is_fee (eqb d a) (leb a d && (ltb d end_of_days && no_start start a d))

-- "a period is a marked day with the linked days after it up to the next mark": the days after a, up to d, are linked and none is marked
unfoldable pub goes_on : (start : (day : ℕ) → Bool) → (quantity : (day : ℕ) → ℕ) → (from day : ℕ) → Bool
goes_on start quantity a d = all_to (λ i. not (start (a + 1 + i)) && not (eqb (quantity (a + 1 + i)) 0)) (d - a)

-- other quantities and marks for one point and element
unfoldable pub relinked : Fresh → (point element : ℕ) → (quantity : (day old : ℕ) → ℕ) → (start : (day : ℕ) → (old : Bool) → Bool) → Fresh
relinked s p e q k =
    record {
      holder = s.holder;
      state = s.state;
      reading = s.reading;
      quantity = λ p' e' d. cond (here p e p' e') (q d (s.quantity p e d)) (s.quantity p' e' d);
      start = λ p' e' d. cond (here p e p' e') (k d (s.start p e d)) (s.start p' e' d);
    }

-- "Refused messages, blocks and rounds change nothing. Accepted ones of kinds 1 to 6 act as numbered above: a link or quantity marks D, a
-- stop removes the marks from D on"
unfoldable pub heard : Opening → Fresh → Body → Fresh
heard o s (Link p e a q) =
    relinked s p e (λ d old. cond (reaches (eqb (kind_of o e) fee) (s.start p e) a d) q old) (λ d old. eqb d a || old)
heard o s (Stop p e a) = relinked s p e (λ d old. cond (leb a d) 0 old) (λ d old. not (leb a d) && old)
heard o s (Quantity p e a q) =
    relinked s p e (λ d old. cond (leb a d && goes_on (s.start p e) (s.quantity p e) a d) q old) (λ d old. eqb d a || old)
heard o s (Holder p a h) =
    record {
      holder = λ p' d. cond (here p a p' d) (Some h) (s.holder p' d);
      state = s.state;
      reading = s.reading;
      quantity = s.quantity;
      start = s.start;
    }
heard o s (State p a v) =
    record {
      holder = s.holder;
      state = λ p' d. cond (here p a p' d) (Some v) (s.state p' d);
      reading = s.reading;
      quantity = s.quantity;
      start = s.start;
    }
heard o s (Reading p a h n) =
    record {
      holder = s.holder;
      state = s.state;
      reading = λ p' d h'. cond (here p a p' d && eqb h' h) n (s.reading p' d h');
      quantity = s.quantity;
      start = s.start;
    }
heard o s (Block p b) = s
heard o s Round = s

unfoldable pub heard_body : Opening → Fresh → Option Body → Fresh
heard_body o s None = s
heard_body o s (Some b) = heard o s b

-- one message with its answer
unfoldable pub hear : Opening → Fresh → Fields → (answer : ℕ) → Fresh
hear o s f answer = heard_body o s (cond (eqb answer 0) (body_in (understood o.suppliers f)) None)

-- "Its lines are the sums, by holder and element, of what points owe on the month's days"
unfoldable pub fresh_facts : Fresh → Facts
fresh_facts s =
    record {
      holder = λ p d. latest (s.holder p) d;
      state = λ p d. latest (s.state p) d;
      quantity = s.quantity;
      energy = s.reading;
    }
