-- The bound on the number of fields in `messages_from` and `elements_from` cuts nothing: where it is above the number of bytes left, any
-- other such bound prints the same. Each field that is found takes bytes away. Assumes nothing.
use Prim.Native.Nat.{ℕ, zero, suc, ◌+◌, ◌≤◌, ◌<◌}
use mathlib.Core.Path.{◌≡◌, refl, ap}
use mathlib.Core.List.{List, [], ◌∷◌, ◌++◌}
use lib.ListN.{length, take, drop, length-drop}
use native.Mathlib.Omega.{arith}
use Rattle.rules.specs.World.{World}
use Rattle.rules.specs.Effects.{step}
use Rattle.file.specs.declared.fields.Phase.{Phase}
use Rattle.file.specs.declared.fields.Found.{Found}
use Rattle.file.specs.declared.fields.Found.TheVariants.{Month, Element, Message, End, More, Broken}
use Rattle.file.specs.Field.{header_size, message_size, field_of, field_size, Inside}
use Rattle.file.specs.Program.{answered, on_message, messages_from, Heading, settle_records, collected, open_then, on_element}
use Rattle.file.specs.Program.{elements_from}
use Rattle.file.proofs.FieldLaws.{inside_of}

-- ---- messages

same_on_message : (found : Found) (w : World) (number end : ℕ) (f g : World → List ℕ) → Inside 0 end found
    → ((after : World) → message_size ≤ end → f after ≡ g after)
    → on_message found w number f ≡ on_message found w number g
unfolding on_message field_size
same_on_message (Message fields) w number end f g h same =
    ap (λ (t : List ℕ). answered w fields number ++ t) (same (step w fields settle_records) (omega (arith, h.0)))
same_on_message End w number end f g h same = refl
same_on_message (Month year month points suppliers) w number end f g h same = refl
same_on_message (Element size) w number end f g h same = refl
same_on_message More w number end f g h same = refl
same_on_message Broken w number end f g h same = refl

pub shorter : (bytes : List ℕ) (next m : ℕ) → length bytes < suc m → 0 < next → next ≤ length bytes → length (drop next bytes) < m
shorter bytes next m h a b = rw length-drop (omega arith)

pub messages_enough : (m k : ℕ) (bytes : List ℕ) (w : World) (number : ℕ) → length bytes < m → length bytes < k
    → messages_from m bytes w number ≡ messages_from k bytes w number
unfolding messages_from
messages_enough zero k bytes w number h l = absurd (omega arith)
messages_enough (suc m) zero bytes w number h l = absurd (omega arith)
messages_enough (suc m) (suc k) bytes w number h l = same_on_message (field_of bytes Phase.Messages) w number (length bytes)
    (λ after. messages_from m (drop message_size bytes) after (suc number))
    (λ after. messages_from k (drop message_size bytes) after (suc number))
    (inside_of bytes Phase.Messages)
    (λ after b. messages_enough m k (drop message_size bytes) after (suc number) (shorter bytes message_size m h (omega arith) b)
    (shorter bytes message_size k l (omega arith) b))

-- ---- elements

same_on_element : (found : Found) (bytes : List ℕ) (o : Heading) (values : List (List ℕ)) (end : ℕ) (f g : ℕ → List (List ℕ) → List ℕ)
    (p q : World → List ℕ) → Inside 0 end found
    → ((next : ℕ) (read : List (List ℕ)) → 0 < next → next ≤ end → f next read ≡ g next read) → p ≡ q
    → on_element found bytes o values f p ≡ on_element found bytes o values g q
unfolding on_element field_size
same_on_element (Element size) bytes o values end f g p q h same e =
    same (header_size + size) (values ++ (take size (drop header_size bytes) ∷ [])) (omega arith) (omega (arith, h.0))
same_on_element (Message fields) bytes o values end f g p q h same e = ap (λ (t : World → List ℕ). open_then (collected o values) t) e
same_on_element End bytes o values end f g p q h same e = refl
same_on_element (Month year month points suppliers) bytes o values end f g p q h same e = refl
same_on_element More bytes o values end f g p q h same e = refl
same_on_element Broken bytes o values end f g p q h same e = refl

pub elements_enough : (m k : ℕ) (bytes : List ℕ) (o : Heading) (values : List (List ℕ)) → length bytes < m → length bytes < k
    → elements_from m bytes o values ≡ elements_from k bytes o values
unfolding elements_from
elements_enough zero k bytes o values h l = absurd (omega arith)
elements_enough (suc m) zero bytes o values h l = absurd (omega arith)
elements_enough (suc m) (suc k) bytes o values h l = same_on_element (field_of bytes Phase.Elements) bytes o values (length bytes)
    (λ next read. elements_from m (drop next bytes) o read)
    (λ next read. elements_from k (drop next bytes) o read)
    (λ w. messages_from (suc m) bytes w 1)
    (λ w. messages_from (suc k) bytes w 1)
    (inside_of bytes Phase.Elements)
    (λ next read a b. elements_enough m k (drop next bytes) o read (shorter bytes next m h a b) (shorter bytes next k l a b))
    (λ i w. messages_enough (suc m) (suc k) bytes w 1 h l i)
