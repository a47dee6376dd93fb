-- What a file holds: a month with its elements, and messages in order. Read by the same steps as `settled`, with nothing settled.
use Rattle.std.specs.Prelude.{ℕ, zero, suc, ◌+◌, Bool, true, false, List, [], ◌∷◌, ◌++◌, length, take, drop}
use Rattle.std.specs.Prelude.{Option, None, Some}
use Rattle.rules.specs.declared.Fields.{Fields}
use Rattle.rules.specs.World.{Opening}
use Rattle.file.specs.declared.fields.Phase.{Phase}
use Rattle.file.specs.declared.fields.Found.{Found}
use Rattle.file.specs.declared.fields.Found.TheVariants.{Month, Element, Message, End, More, Broken}
use Rattle.file.specs.Field.{header_size, month_size, message_size, field_of}
use Rattle.file.specs.Program.{Heading, collected}

-- ---- the messages

-- the whole message fields in order, and whether a field that question 1 refuses ends them
pub record Messages : Type 0 where
  pub fields : List Fields
  pub broken : Bool

abbrev pub no_messages : (broken : Bool) → Messages
no_messages broken = record { fields = []; broken = broken }

unfoldable pub messages_at : (found : Found) → (more : Messages) → Messages
messages_at (Message f) more = record { fields = f ∷ more.fields; broken = more.broken }
messages_at End more = no_messages false
messages_at (Month year month points suppliers) more = no_messages true
messages_at (Element size) more = no_messages true
messages_at More more = no_messages true
messages_at Broken more = no_messages true

unfoldable pub messages_in : (most : ℕ) → (bytes : List ℕ) → Messages
messages_in zero bytes = no_messages false
messages_in (suc most) bytes = messages_at (field_of bytes Phase.Messages) (messages_in most (drop message_size bytes))

-- ---- the file

pub record Contents : Type 0 where
  pub opening : Opening
  pub messages : Messages

-- the book opens "at the first whole message field or the end"; a field that question 1 refuses before that leaves nothing to open
unfoldable pub elements_at : (found : Found) → (bytes : List ℕ) → (heading : Heading) → (values : List (List ℕ))
    → (more : (next : ℕ) → List (List ℕ) → Option Contents) → (messages : Messages) → Option Contents
elements_at (Element size) bytes h values more ms = more (header_size + size) (values ++ (take size (drop header_size bytes) ∷ []))
elements_at (Message f) bytes h values more ms = Some (record { opening = collected h values; messages = ms })
elements_at End bytes h values more ms = Some (record { opening = collected h values; messages = no_messages false })
elements_at (Month year month points suppliers) bytes h values more ms = None
elements_at More bytes h values more ms = None
elements_at Broken bytes h values more ms = None

unfoldable pub elements_in : (most : ℕ) → (bytes : List ℕ) → (heading : Heading) → (values : List (List ℕ)) → Option Contents
elements_in zero bytes h values = None
elements_in (suc most) bytes h values =
    elements_at (field_of bytes Phase.Elements) bytes h values
    (λ next read. elements_in most (drop next bytes) h read)
    (messages_in (suc most) bytes)

unfoldable pub month_at : (found : Found) → (more : Heading → Option Contents) → Option Contents
month_at (Month year month points suppliers) more =
    more (record { year = year; month = month; points = points; suppliers = suppliers })
month_at (Element size) more = None
month_at (Message f) more = None
month_at End more = None
month_at More more = None
month_at Broken more = None

unfoldable pub contents_of : (bytes : List ℕ) → Option Contents
contents_of bytes = month_at (field_of bytes Phase.Start) (λ h. elements_in (length bytes) (drop month_size bytes) h [])
