-- Questions asked one after the other: the first number that is not 0 stands, whatever the rest is. Each question adds a number that
-- is not 0, so by cases on whether it passes.
use Prim.Native.Nat.{ℕ, ◌≤◌}
use mathlib.Core.Path.{◌≡◌, refl, ◌∙◌}
use mathlib.Core.Logic.{◌≢◌}
use mathlib.Core.Bool.{Bool, true, false, cond}
use Rattle.std.specs.Prelude.{Option, None, Some}
use lib.Dec.{eqb}
use borrow.Author.Tests.{ne_eqb}
use native.Mathlib.Omega.{arith}
use Rattle.rules.specs.declared.Refusal.{Refusal}
use Rattle.rules.specs.Answers.{refusal_number}
use Rattle.rules.specs.declared.Body.{Body}
use Rattle.rules.specs.declared.Message.{Message}
use Rattle.rules.specs.World.{Opening, Tables, World}
use Rattle.rules.specs.Messages.{question6}
use Rattle.rules.specs.Questions.{own_number, own_question}
use Rattle.rules.specs.Effects.{ask, question17, question18, answer_to}
use Rattle.validation.specs.Decided.{decided}

-- the first number, or the next where the first is 0
unfoldable pub or_next : (first next : ℕ) → ℕ
or_next first next = cond (eqb first 0) next first

-- a refusal's number is that of a question
pub refuses : (r : Refusal) → 1 ≤ refusal_number r
refuses Refusal.BrokenField = omega arith
refuses Refusal.OutOfLimits = omega arith
refuses Refusal.WrongLength = omega arith
refuses Refusal.WrongElement = omega arith
refuses Refusal.IllFormed = omega arith
refuses Refusal.OutOfRange = omega arith
refuses Refusal.UnknownPoint = omega arith
refuses Refusal.UnknownElement = omega arith
refuses Refusal.NotPermitted = omega arith
refuses Refusal.OutOfTime = omega arith
refuses Refusal.NotExisting = omega arith
refuses Refusal.Closed = omega arith
refuses Refusal.AlreadyLinked = omega arith
refuses Refusal.NothingToStop = omega arith
refuses Refusal.NoSuchQuantity = omega arith
refuses Refusal.OutsideMonth = omega arith
refuses Refusal.TableFull = omega arith
refuses Refusal.ListFull = omega arith
refuses Refusal.NotPacked = omega arith

-- an answer that is its own number, or the rest where that is 0
abbrev pub Chain : (ℕ → ℕ) → Type 0
Chain f = (rest : ℕ) → f rest ≡ or_next (f 0) rest

pub ask_chain : (c : Bool) (n : ℕ) → eqb n 0 ≡ false → (f : ℕ → ℕ) → Chain f → Chain (λ rest. ask c n (f rest))
unfolding ask
ask_chain true n h f k rest = k rest
ask_chain false n h f k rest = unfold or_next in rw h

pub chain_end : Chain (λ rest. rest)
unfolding or_next
chain_end rest = refl

pub chain_passed : (f : ℕ → ℕ) → Chain f → f 0 ≡ 0 → (rest : ℕ) → f rest ≡ rest
unfolding or_next
chain_passed f k h rest = k rest ∙ rw h

pub chain_refused : (f : ℕ → ℕ) → Chain f → f 0 ≢ 0 → (rest : ℕ) → f rest ≡ f 0
unfolding or_next
chain_refused f k h rest = k rest ∙ rw (ne_eqb (f 0) 0 h)

-- ---- questions 7 to 16

own_chain : (o : Opening) (t : Tables) (b : Body) → Chain (λ rest. ask (own_question o t b) (own_number b) rest)
unfolding own_number
own_chain o t (Body.Link p e d q) = ask_chain _ 13 refl (λ rest. rest) chain_end
own_chain o t (Body.Stop p e d) = ask_chain _ 14 refl (λ rest. rest) chain_end
own_chain o t (Body.Quantity p e d q) = ask_chain _ 15 refl (λ rest. rest) chain_end
own_chain o t (Body.Holder p d h) = unfold own_question ask in chain_end
own_chain o t (Body.State p d s) = unfold own_question ask in chain_end
own_chain o t (Body.Reading p d h n) = ask_chain _ 16 refl (λ rest. rest) chain_end
own_chain o t (Body.Block p b) = unfold own_question ask in chain_end
own_chain o t Body.Round = unfold own_question ask in chain_end

module _ (o : Opening) (t : Tables) where
  pub decided_chain : (m : Message) → Chain (decided o t m)
  unfolding decided
  decided_chain m =
      ask_chain _ 7 refl _ (ask_chain _ 8 refl _ (ask_chain _ 9 refl _ (ask_chain _ 10 refl _ (ask_chain _ 11 refl _
      (ask_chain _ 12 refl _ (own_chain o t m.body))))))

  -- a message that passes is answered by the rest
  pub decided_passed : (m : Message) → decided o t m 0 ≡ 0 → (rest : ℕ) → decided o t m rest ≡ rest
  decided_passed m = chain_passed (decided o t m) (decided_chain m)

  -- and one that does not by its number
  pub decided-refused : (m : Message) → decided o t m 0 ≢ 0 → (rest : ℕ) → decided o t m rest ≡ decided o t m 0
  decided-refused m = chain_refused (decided o t m) (decided_chain m)

-- the rules' answer asks question 6 first
pub answer-asks_6 : (w : World) (x : Option Message) (room : ℕ) → answer_to w x room ≡ ask (question6 x) 6 (answer_to w x room)
unfolding ask question6 answer_to
answer-asks_6 w None room = refl
answer-asks_6 w (Some m) room = refl

-- the rules' answer to a message: questions 7 to 16, then 17 and 18
pub answer-decided : (w : World) (m : Message) (room : ℕ)
    → answer_to w (Some m) room
    ≡ decided w.opening w.position.tables m (ask (question17 w m.body) 17 (ask (question18 w m.body room) 18 0))
unfolding answer_to decided
answer-decided w m room = refl
