-- What the case of a found field says of it, where the code has told its cases apart, and what the field does there. By cases.
use Prim.Native.Nat.{ℕ, ◌+◌, ◌≤◌}
use native.Mathlib.Omega.{arith}
use mathlib.Core.Path.{◌≡◌, refl}
use mathlib.Core.Bool.{false}
use mathlib.Core.List.{List}
use Rattle.rules.specs.Sizes.{element_size}
use Rattle.rules.specs.declared.Fields.{Fields}
use Rattle.rules.specs.World.{World}
use Rattle.file.specs.declared.fields.Found.{Found}
use Rattle.file.specs.declared.fields.Found.TheVariants.{Month, Element, Message, End, More}
use Rattle.file.specs.Field.{field_size, Inside}
use Rattle.file.specs.Program.{Heading}
use Rattle.runner.specs.Stages.{start, elements, messages, broken, move_on, is_more}

pub not_more : (f : Found) → (f ≡ More → ⊥) → is_more f ≡ false
unfolding is_more
not_more More h = absurd (h refl)
not_more f h = refl

-- ---- a field that is not in its place

module _ (at : ℕ) (bytes : List ℕ) where
  pub start_else : (f : Found) → (f ≡ More → ⊥) → ((y m p s : ℕ) → f ≡ Month y m p s → ⊥) → move_on at start f bytes ≡ broken at 1
  unfolding move_on
  start_else More m h = absurd (m refl)
  start_else (Month year month points suppliers) m h = absurd (h year month points suppliers refl)
  start_else f m h = refl

  pub elements_else : (g : Heading) (values : List (List ℕ)) (f : Found) → (f ≡ More → ⊥) → ((n : ℕ) → f ≡ Element n → ⊥)
      → ((x : Fields) → f ≡ Message x → ⊥) → (f ≡ End → ⊥) → move_on at (elements g values) f bytes ≡ broken at 1
  unfolding move_on
  elements_else g values More m h k e = absurd (m refl)
  elements_else g values (Element size) m h k e = absurd (h size refl)
  elements_else g values (Message f) m h k e = absurd (k f refl)
  elements_else g values End m h k e = absurd (e refl)
  elements_else g values f m h k e = refl

  pub messages_else : (w : World) (n : ℕ) (f : Found) → (f ≡ More → ⊥) → ((x : Fields) → f ≡ Message x → ⊥) → (f ≡ End → ⊥)
      → move_on at (messages w n) f bytes ≡ broken at 1
  unfolding move_on
  messages_else w n More m k e = absurd (m refl)
  messages_else w n (Message f) m k e = absurd (k f refl)
  messages_else w n End m k e = absurd (e refl)
  messages_else w n f m k e = refl

-- an element's value lies within the bytes
pub element-inside : (at end size : ℕ) (f : Found) → f ≡ Element size → Inside at end f → (at + 3 + size ≤ end) × (element_size ≤ size)
unfolding field_size
element-inside at end size f e h =
    let i : Inside at end (Element size) = rw e at h in (omega (arith, i.0), omega (arith, i.1))
