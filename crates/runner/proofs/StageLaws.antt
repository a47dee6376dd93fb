-- One field at a time: the text that it prints and what is printed behind it are what is printed from it on. Of a whole input, and of the
-- bytes in hand, whatever follows them. By cases on the stage and the field.
use Prim.Native.Nat.{ℕ, suc, ◌+◌, ◌≤◌, ◌<◌}
use mathlib.Core.Path.{◌≡◌, refl, sym, ap, ◌∙◌}
use mathlib.Core.Logic.{⊎_elim}
use mathlib.Core.Bool.{Bool, true, false}
use mathlib.Core.List.{List, [], ◌++◌, append-nil}
use lib.ListN.{length, drop, length-drop, length-append}
use lib.Seq.{take-append-le, drop-append-le, drop-drop}
use lib.Dec.{eqb}
use native.Mathlib.Nat.{zero-add}
use native.Mathlib.Omega.{arith}
use Rattle.rules.specs.World.{Opening, World}
use Rattle.rules.proofs.Tests.{cases}
use Rattle.file.specs.declared.fields.Phase.{Phase}
use Rattle.file.specs.declared.fields.Found.{Found}
use Rattle.file.specs.declared.fields.Found.TheVariants.{Month, Element, Message, End, More, Broken}
use Rattle.file.specs.Field.{field_of, field_in, field_size, Inside}
use Rattle.file.specs.Program.{ended_by, answered, on_message, messages_from, Heading, collected, settle_answer, open_then, on_element}
use Rattle.file.specs.Program.{elements_from, on_month, settled}
use Rattle.file.proofs.FieldLaws.{whole-rest, front_decides, inside_in, Undecided}
use Rattle.file.proofs.ProgramLaws.{shorter, messages_enough, elements_enough}
use Rattle.runner.specs.Stages.{Stage, start, elements, messages, over, phase_of, printed, Move, broken, line_of, opened_to, opening}
use Rattle.runner.specs.Stages.{move_on, is_more}

-- ---- one field, where it is the one at the front of all the bytes that are left

one_more : (n : ℕ) → n < suc n
one_more n = omega arith

elements-behind : (bytes : List ℕ) (next : ℕ) (h : Heading) (values : List (List ℕ)) → 0 < next → next ≤ length bytes
    → elements_from (length bytes) (drop next bytes) h values ≡ elements_from (suc (length (drop next bytes))) (drop next bytes) h values
elements-behind bytes next h values a b =
    elements_enough (length bytes) (suc (length (drop next bytes))) (drop next bytes) h values
    (shorter bytes next (length bytes) (one_more (length bytes)) a b)
    (one_more (length (drop next bytes)))

messages-behind : (bytes : List ℕ) (next : ℕ) (w : World) (number : ℕ) → 0 < next → next ≤ length bytes
    → messages_from (length bytes) (drop next bytes) w number ≡ messages_from (suc (length (drop next bytes))) (drop next bytes) w number
messages-behind bytes next w number a b =
    messages_enough (length bytes) (suc (length (drop next bytes))) (drop next bytes) w number
    (shorter bytes next (length bytes) (one_more (length bytes)) a b)
    (one_more (length (drop next bytes)))

pub never : {P : Type 0} → ◌≡◌ {A = Bool} true false → P
never z = let y : ◌≡◌ {A = ℕ} 0 1 = cc in absurd (omega arith)

behind : (text : List ℕ) → text ≡ text ++ []
behind text = sym (append-nil text)

-- the opening, and what is printed behind it
opens : (o : Opening) (bytes : List ℕ) (more : World → Stage)
    → open_then o (λ w. printed (more w) bytes) ≡ (opening 0 o more).text ++ printed (opening 0 o more).stage
    (drop (opening 0 o more).next bytes)
unfolding open_then opening line_of broken printed
opens o bytes more = cases (eqb (settle_answer o) 0) (λ t. rw t) (λ t. rw t (behind (ended_by (settle_answer o))))

module _ (bytes : List ℕ) where
  pub onward : (stage : Stage) (found : Found) → is_more found ≡ false → Inside 0 (length bytes) found
      → field_of bytes (phase_of stage) ≡ found
      → printed stage bytes ≡ (move_on 0 stage found bytes).text ++ printed (move_on 0 stage found bytes).stage
      (drop (move_on 0 stage found bytes).next bytes)
  unfolding printed move_on broken is_more field_size settled on_month elements_from on_element messages_from on_message
  onward start (Month year month points suppliers) m l e = rw e (elements-behind bytes 9 _ [] (omega arith) (omega (arith, l.0)))
  onward start (Element size) m l e = rw e (behind (ended_by 1))
  onward start (Message f) m l e = rw e (behind (ended_by 1))
  onward start End m l e = rw e (behind (ended_by 1))
  onward start More m l e = never m
  onward start Broken m l e = rw e (behind (ended_by 1))
  onward (elements h values) (Month year month points suppliers) m l e = rw e (behind (ended_by 1))
  onward (elements h values) (Element size) m l e =
      rw (e, zero-add (3 + size)) (elements-behind bytes (3 + size) h _ (omega arith) (omega (arith, l.0)))
  onward (elements h values) (Message f) m l e = rw e (opens (collected h values) bytes (opened_to false))
  onward (elements h values) End m l e = rw e (opens (collected h values) bytes (opened_to true))
  onward (elements h values) More m l e = never m
  onward (elements h values) Broken m l e = rw e (behind (ended_by 1))
  onward (messages w number) (Month year month points suppliers) m l e = rw e (behind (ended_by 1))
  onward (messages w number) (Element size) m l e = rw e (behind (ended_by 1))
  onward (messages w number) (Message f) m l e =
      rw e (ap (λ (t : List ℕ). answered w f number ++ t) (messages-behind bytes 22 _ _ (omega arith) (omega (arith, l.0))))
  onward (messages w number) End m l e = rw e
  onward (messages w number) More m l e = never m
  onward (messages w number) Broken m l e = rw e (behind (ended_by 1))
  onward over found m l e = refl

-- ---- the bytes in hand, whatever follows them

-- an element's value lies within the bytes in hand
same_move : (stage : Stage) (found : Found) (front rest : List ℕ) → Inside 0 (length front) found
    → move_on 0 stage found (front ++ rest) ≡ move_on 0 stage found front
unfolding move_on field_size
same_move (elements h values) (Element size) front rest l =
    let a : 3 ≤ length front = omega (arith, l.0) in
    let b : size ≤ length (drop 3 front) = rw length-drop (omega (arith, l.0)) in
    rw (drop-append-le 3 front rest a, take-append-le size (drop 3 front) rest b)
same_move (elements h values) (Month year month points suppliers) front rest l = refl
same_move (elements h values) (Message f) front rest l = refl
same_move (elements h values) End front rest l = refl
same_move (elements h values) More front rest l = refl
same_move (elements h values) Broken front rest l = refl
same_move start (Month year month points suppliers) front rest l = refl
same_move start (Element size) front rest l = refl
same_move start (Message f) front rest l = refl
same_move start End front rest l = refl
same_move start More front rest l = refl
same_move start Broken front rest l = refl
same_move (messages w number) (Month year month points suppliers) front rest l = refl
same_move (messages w number) (Element size) front rest l = refl
same_move (messages w number) (Message f) front rest l = refl
same_move (messages w number) End front rest l = refl
same_move (messages w number) More front rest l = refl
same_move (messages w number) Broken front rest l = refl
same_move over found front rest l = refl

opening-next : (o : Opening) (more : World → Stage) → (opening 0 o more).next ≡ 0
unfolding opening broken
opening-next o more = cases (eqb (settle_answer o) 0) (λ t. rw t) (λ t. rw t)

-- the next field begins within the bytes in hand, or at their end
pub next-inside : (stage : Stage) (found : Found) (front : List ℕ) → Inside 0 (length front) found
    → (move_on 0 stage found front).next ≤ length front
unfolding move_on broken field_size
next-inside start (Month year month points suppliers) front l = omega (arith, l.0)
next-inside start (Element size) front l = omega arith
next-inside start (Message f) front l = omega arith
next-inside start End front l = omega arith
next-inside start More front l = omega arith
next-inside start Broken front l = omega arith
next-inside (elements h values) (Month year month points suppliers) front l = omega arith
next-inside (elements h values) (Element size) front l = omega (arith, l.0)
next-inside (elements h values) (Message f) front l = rw (opening-next (collected h values) (opened_to false)) (omega arith)
next-inside (elements h values) End front l = rw (opening-next (collected h values) (opened_to true)) (omega arith)
next-inside (elements h values) More front l = omega arith
next-inside (elements h values) Broken front l = omega arith
next-inside (messages w number) (Month year month points suppliers) front l = omega arith
next-inside (messages w number) (Element size) front l = omega arith
next-inside (messages w number) (Message f) front l = omega (arith, l.0)
next-inside (messages w number) End front l = omega arith
next-inside (messages w number) More front l = omega arith
next-inside (messages w number) Broken front l = omega arith
next-inside over found front l = omega arith

-- where the bytes in hand end within the field, all is still to come
waits : (stage : Stage) (found : Found) (front rest : List ℕ) → is_more found ≡ true
    → printed stage (front ++ rest) ≡ (move_on 0 stage found front).text ++ printed (move_on 0 stage found front).stage
    (drop (move_on 0 stage found front).next front ++ rest)
unfolding is_more move_on
waits start More front rest m = refl
waits (elements h values) More front rest m = refl
waits (messages w number) More front rest m = refl
waits over More front rest m = refl
waits stage (Month year month points suppliers) front rest m = never (sym m)
waits stage (Element size) front rest m = never (sym m)
waits stage (Message f) front rest m = never (sym m)
waits stage End front rest m = never (sym m)
waits stage Broken front rest m = never (sym m)

wider : (found : Found) (n m : ℕ) → n ≤ m → Inside 0 n found → Inside 0 m found
wider found n m h l = (omega (arith, l.0), l.1)

decided : (front rest : List ℕ) (phase : Phase) (ended : Bool) → (ended ≡ true → rest ≡ []) → is_more (field_in front phase ended) ≡ false
    → field_of (front ++ rest) phase ≡ field_in front phase ended
unfolding is_more
decided front rest phase true h m = rw (h refl, append-nil front) (sym (whole-rest front phase))
decided front rest phase false h m = ⊎_elim
    (λ (u : Undecided front (field_in front phase false)). never (ap is_more (sym u.asks) ∙ m))
    (λ (g : (rest : List ℕ) → field_of (front ++ rest) phase ≡ field_in front phase false). g rest)
    (front_decides front phase)

-- ---- the same from a place on

abbrev moved_by : ℕ → Move → Move
moved_by at m = record { text = m.text; stage = m.stage; next = at + m.next }

opening-from : (at : ℕ) (o : Opening) (more : World → Stage) → opening at o more ≡ moved_by at (opening 0 o more)
unfolding opening broken
opening-from at o more = let z : at ≡ at + 0 = omega arith in cases (eqb (settle_answer o) 0) (λ t. rw (t, ← z)) (λ t. rw (t, ← z))

pub move-from : (at : ℕ) (stage : Stage) (found : Found) (s : List ℕ)
    → move_on at stage found s ≡ moved_by at (move_on 0 stage found (drop at s))
unfolding move_on broken
move-from at start (Month year month points suppliers) s = refl
move-from at start (Element size) s = let z : at ≡ at + 0 = omega arith in rw (← z)
move-from at start (Message f) s = let z : at ≡ at + 0 = omega arith in rw (← z)
move-from at start End s = let z : at ≡ at + 0 = omega arith in rw (← z)
move-from at start More s = let z : at ≡ at + 0 = omega arith in rw (← z)
move-from at start Broken s = let z : at ≡ at + 0 = omega arith in rw (← z)
move-from at (elements h values) (Month year month points suppliers) s = let z : at ≡ at + 0 = omega arith in rw (← z)
move-from at (elements h values) (Element size) s = rw (zero-add (3 + size), drop-drop 3 at s)
move-from at (elements h values) (Message f) s = opening-from at (collected h values) (opened_to false)
move-from at (elements h values) End s = opening-from at (collected h values) (opened_to true)
move-from at (elements h values) More s = let z : at ≡ at + 0 = omega arith in rw (← z)
move-from at (elements h values) Broken s = let z : at ≡ at + 0 = omega arith in rw (← z)
move-from at (messages w number) (Month year month points suppliers) s = let z : at ≡ at + 0 = omega arith in rw (← z)
move-from at (messages w number) (Element size) s = let z : at ≡ at + 0 = omega arith in rw (← z)
move-from at (messages w number) (Message f) s = refl
move-from at (messages w number) End s = let z : at ≡ at + 0 = omega arith in rw (← z)
move-from at (messages w number) More s = let z : at ≡ at + 0 = omega arith in rw (← z)
move-from at (messages w number) Broken s = let z : at ≡ at + 0 = omega arith in rw (← z)
move-from at over found s = let z : at ≡ at + 0 = omega arith in rw (← z)

front-moves : (stage : Stage) (front rest : List ℕ) (ended : Bool) → (ended ≡ true → rest ≡ []) → (found : Found)
    → found ≡ field_in front (phase_of stage) ended
    → printed stage (front ++ rest) ≡ (move_on 0 stage found front).text ++ printed (move_on 0 stage found front).stage
    (drop (move_on 0 stage found front).next front ++ rest)
front-moves stage front rest ended h found e = cases (is_more found)
    (λ m. waits stage found front rest m)
    (λ m.
    let l : Inside 0 (length front) found = rw e (inside_in front (phase_of stage) ended) in
    let k : length front ≤ length (front ++ rest) = rw length-append (omega arith) in
    let d : field_of (front ++ rest) (phase_of stage) ≡ found = decided front rest (phase_of stage) ended h
    (ap is_more (sym e) ∙ m) ∙ sym e in
    rw (
      ← drop-append-le (move_on 0 stage found front).next front rest (next-inside stage found front l),
      ← same_move stage found front rest l,
    ) (onward (front ++ rest) stage found m (wider found _ _ k l) d))

-- the step of a run over a whole input
pub whole : (stage : Stage) (bytes : List ℕ) (found : Found) → found ≡ field_of bytes (phase_of stage)
    → printed stage bytes ≡ (move_on 0 stage found bytes).text ++ printed (move_on 0 stage found bytes).stage
    (drop (move_on 0 stage found bytes).next bytes)
whole stage bytes found e = rw (append-nil bytes, append-nil (drop (move_on 0 stage found bytes).next bytes)) at
    (front-moves stage bytes [] true (λ z. refl) found (e ∙ sym (whole-rest bytes (phase_of stage))))

-- the step of a run over pieces, from a place of the bytes in hand on
pub pieces : (stage : Stage) (s rest : List ℕ) (at : ℕ) (ended : Bool) → (ended ≡ true → rest ≡ []) → (m : Move)
    → m ≡ move_on at stage (field_in (drop at s) (phase_of stage) ended) s
    → printed stage (drop at s ++ rest) ≡ m.text ++ printed m.stage (drop m.next s ++ rest)
pieces stage s rest at ended h m e =
    let found = field_in (drop at s) (phase_of stage) ended in
    let z = e ∙ move-from at stage found s in
    rw (z, ← drop-drop (move_on 0 stage found (drop at s)).next at s) (front-moves stage (drop at s) rest ended h found refl)
