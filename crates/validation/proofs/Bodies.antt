-- What a message of each kind is asked, as `decide` asks it, is what questions 7 to 16 answer.
use Prim.Native.Nat.{ℕ}
use mathlib.Core.Path.{◌≡◌}
use lib.Dec.{ltb}
use Rattle.rules.specs.declared.Sender.{Sender}
use Rattle.rules.specs.declared.Body.{Body}
use Rattle.rules.specs.declared.Message.{Message}
use Rattle.rules.specs.Basics.{asked}
use Rattle.rules.specs.World.{Opening, Tables}
use Rattle.rules.specs.Questions.{point_of, place_of, tariff_once, may_send, is_energinet, is_grid_company, own_question, own_number}
use Rattle.rules.specs.Questions.{question7, question8, question9, question10, question11, question12}
use Rattle.rules.specs.Questions.{question13, question14, question15, question16}
use Rattle.rules.specs.Effects.{ask}
use Rattle.std.proofs.lemmas.Grind.{common_steps}
use native.Mathlib.Omega.{arith}
use Rattle.validation.specs.Decided.{decided, asked9to12}
use Rattle.validation.proofs.Next.{or_next}

module _ (o : Opening) (t : Tables) (from : Sender) (received : ℕ) where
  -- questions 7 and 8 of a point and an element
  abbrev pub pair : (point element : ℕ) → ℕ
  pair p e = ask (ltb p o.points) 7 (ask (ltb e o.elements) 8 0)

  -- questions 9 to 12 of a place
  abbrev pub placed : (point element day : ℕ) → ℕ
  placed p e d = asked9to12 o t from received (record { point = p; element = e; day = d }) 0

  abbrev pub asked_of : Body → ℕ
  asked_of (Body.Link p e d q) =
      or_next (pair p e) (or_next (ask (tariff_once o (Body.Link p e d q)) 8 0)
      (or_next (placed p e d) (ask (question13 t p e d) 13 0)))
  asked_of (Body.Stop p e d) = or_next (pair p e) (or_next (placed p e d) (ask (question14 t p e d) 14 0))
  asked_of (Body.Quantity p e d q) = or_next (pair p e) (or_next (placed p e d) (ask (question15 o t p e d) 15 0))
  asked_of (Body.Holder p d h) = or_next (ask (ltb p o.points) 7 0) (ask (is_energinet from) 9 0)
  asked_of (Body.State p d s) = or_next (ask (ltb p o.points) 7 0) (ask (is_grid_company from) 9 0)
  asked_of (Body.Reading p d h n) =
      or_next (ask (ltb p o.points) 7 0) (or_next (ask (is_grid_company from) 9 0) (ask (question16 o d) 16 0))
  asked_of (Body.Block p b) = or_next (ask (ltb p o.points) 7 0) (ask (is_grid_company from) 9 0)
  asked_of Body.Round = ask (is_energinet from) 9 0

  by_body : (b : Body) → decided o t (record { sender = from; received = received; body = b }) 0 ≡ asked_of b
  unfolding decided asked9to12 ask asked or_next question7 question8 question9 question10 question11 question12 point_of place_of
      tariff_once may_send own_question own_number
  by_body (Body.Link p e d q) = grind (arith, common_steps)
  by_body (Body.Stop p e d) = grind (arith, common_steps)
  by_body (Body.Quantity p e d q) = grind (arith, common_steps)
  by_body (Body.Holder p d h) = grind (arith, common_steps)
  by_body (Body.State p d s) = grind (arith, common_steps)
  by_body (Body.Reading p d h n) = grind (arith, common_steps)
  by_body (Body.Block p b) = grind (arith, common_steps)
  by_body Body.Round = grind (arith, common_steps)

pub decided_is : (o : Opening) (t : Tables) (m : Message) → decided o t m 0 ≡ asked_of o t m.sender m.received m.body
decided_is o t m = by_body o t m.sender m.received m.body
