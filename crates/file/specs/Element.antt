-- The value of an element field: "kind, owner, marks .., one or 24 two's-complement prices of 8 bytes", and its place in the tables of the
-- book.
use Rattle.std.specs.Prelude.{ℕ, ◌+◌, ◌*◌, ◌≤◌, cond, List, ℤ, pos, length, take, drop, leb}
use Rattle.rules.specs.Basics.{list_to}
use Rattle.rules.specs.Sizes.{element_size, price_places}
use Rattle.file.specs.Bytes.{signed64, placed}
use Rattle.file.specs.Field.{price_bytes, one_price_length}

-- price k of the value, where it has so many; "its 23 further places being 0"
unfoldable pub price_at : (value : List ℕ) → (k : ℕ) → ℤ
price_at value k =
    cond (leb (one_price_length + price_bytes * k) (length value))
    (signed64 (take price_bytes (drop (element_size + price_bytes * k) value)))
    (pos 0)

unfoldable pub prices_in : (value : List ℕ) → List ℤ
prices_in value = list_to (price_at value) price_places

-- the table of kinds, owners and marks, three bytes an element, with those of element e from its value
unfoldable pub element_bytes : (element_data : List ℕ) → (e : ℕ) → (value : List ℕ) → List ℕ
element_bytes element_data e value = placed element_data (e * element_size) (take element_size value)

-- the table of prices, 24 an element, with those of element e
unfoldable pub element_prices : (prices : List ℤ) → (e : ℕ) → (value : List ℕ) → List ℤ
element_prices prices e value = placed prices (e * price_places) (prices_in value)

-- the value stands in the bytes, and the tables have room for element e
pub record ElementRoom (bytes : List ℕ) (at size : ℕ) (element_data : List ℕ) (prices : List ℤ) (e : ℕ) : Type 0 where
  pub head : element_size ≤ size
  pub value : at + size ≤ length bytes
  pub described : e * element_size + element_size ≤ length element_data
  pub priced : e * price_places + price_places ≤ length prices
