-- Fields as they are written into a file: what the decoder is to give back.
use Rattle.std.specs.Prelude.{ℕ, zero, suc, ◌-◌, ◌/◌, ◌%◌, ◌^◌, ◌<◌, List, [], ◌∷◌, ◌++◌, ℤ, pos, negsuc, length}
use Rattle.rules.specs.declared.Fields.{Fields}
use Rattle.file.specs.Bytes.{byte_room, word_room}
use Rattle.file.specs.Field.{month_tag, element_tag, message_tag, price_bytes}

-- n in so many bytes, high byte first
unfoldable pub number_bytes : (width n : ℕ) → List ℕ
number_bytes zero n = []
number_bytes (suc width) n = number_bytes width (n / byte_room) ++ (n % byte_room ∷ [])

-- "fields of a one-byte tag, a two-byte length, high byte first, and a value"
unfoldable pub encode_field : (tag : ℕ) → (value : List ℕ) → List ℕ
encode_field tag value = (tag ∷ number_bytes 2 (length value)) ++ value

unfoldable pub encode_month : (year month points suppliers : ℕ) → List ℕ
encode_month year month points suppliers =
    encode_field month_tag (number_bytes 2 year ++ number_bytes 1 month ++ number_bytes 2 points ++ number_bytes 1 suppliers)

-- two's complement of 64 bits
unfoldable pub complement : (z : ℤ) → ℕ
complement (pos n) = n
complement (negsuc n) = word_room - suc n

unfoldable pub encode_prices : (prices : List ℤ) → List ℕ
encode_prices [] = []
encode_prices (p ∷ ps) = number_bytes price_bytes (complement p) ++ encode_prices ps

-- "kind, owner, marks .., one or 24 two's-complement prices of 8 bytes"
unfoldable pub element_value : (kind owner marks : ℕ) → (prices : List ℤ) → List ℕ
element_value kind owner marks prices = kind ∷ owner ∷ marks ∷ encode_prices prices

unfoldable pub encode_element : (kind owner marks : ℕ) → (prices : List ℤ) → List ℕ
encode_element kind owner marks prices = encode_field element_tag (element_value kind owner marks prices)

unfoldable pub message_value : Fields → List ℕ
message_value f =
    number_bytes 1 f.kind ++ number_bytes 1 f.role ++ number_bytes 1 f.sender ++ number_bytes 4 f.received
    ++ number_bytes 2 f.point ++ number_bytes 1 f.element ++ number_bytes 4 f.day ++ number_bytes 1 f.hour
    ++ number_bytes 4 f.value

unfoldable pub encode_message : Fields → List ℕ
encode_message f = encode_field message_tag (message_value f)

-- the numbers of a message fit their bytes
pub record FieldsFit (f : Fields) : Type 0 where
  pub kind : f.kind < byte_room
  pub role : f.role < byte_room
  pub sender : f.sender < byte_room
  pub received : f.received < byte_room ^ 4
  pub point : f.point < byte_room ^ 2
  pub element : f.element < byte_room
  pub day : f.day < byte_room ^ 4
  pub hour : f.hour < byte_room
  pub value : f.value < byte_room ^ 4
