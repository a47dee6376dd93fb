-- "The reader carries the bytes it was lent and how far it has come": what it finds at a place of the bytes, and how far it has come then.
use Rattle.std.specs.Prelude.{ℕ, ◌+◌, Bool, List, drop}
use Rattle.file.specs.declared.fields.Phase.{Phase}
use Rattle.file.specs.declared.reader.Located.{Located}
use Rattle.file.specs.Field.{field_in, field_size}

-- the field at a place, and the place behind it; where there is none the reader stays
abbrev pub located_at : (bytes : List ℕ) → (at : ℕ) → Phase → (ended : Bool) → Located
located_at bytes at phase ended =
    let found = field_in (drop at bytes) phase ended in record { found = found; place = at + field_size found }
