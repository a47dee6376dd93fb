-- Rows in order, tables with zeros behind their rows, and the ranges of the fields: what the functions of this crate require.
use Rattle.std.specs.Prelude.{ℕ, suc, ◌+◌, ◌-◌, ◌*◌, ◌/◌, ◌≤◌, ◌<◌, ◌≡◌, List, [], ◌∷◌, length, take, drop, replicate}
use Rattle.rules.specs.declared.Book.{Book}
use Rattle.rules.specs.Sizes.{places, element_room, day_room, holder_size, state_size}
use Rattle.rules.specs.Order.{Run}

-- the largest word of 64 bits, which no row reaches, and how many points a period's word has room for
abbrev pub largest_word : ℕ
largest_word = 18446744073709551615

abbrev pub point_room : ℕ
point_room = 65536

-- the rows from k on: the key of each is above that of the one before
pub data Rising (key : (row : ℕ) → ℕ) : (k : ℕ) → (rows : List ℕ) → Type 0 where
  nil : {k : ℕ} → Rising key k []
  row : {k w : ℕ} {ws : List ℕ} → k ≤ key w → Rising key (suc (key w)) ws → Rising key k (w ∷ ws)

-- rows that are strictly increasing; periods in order and apart; dated values, in order by point and first day, without repeats
abbrev pub InOrder : (rows : List ℕ) → Type 0
InOrder rows = Rising (λ w. w) 0 rows

abbrev pub PeriodRows : (rows : List ℕ) → Type 0
PeriodRows rows = Run 0 rows

abbrev pub DatedRows : (size : ℕ) → (rows : List ℕ) → Type 0
DatedRows size rows = Rising (λ w. w / size) 0 rows

-- the same of the rows in use of a table
pub record OrderedRows (words : List ℕ) (used : ℕ) : Type 0 where
  pub fits : used ≤ length words
  pub order : InOrder (take used words)

pub record LinkRows (words : List ℕ) (used : ℕ) : Type 0 where
  pub fits : used ≤ length words
  pub run : PeriodRows (take used words)

pub record ValueRows (size : ℕ) (words : List ℕ) (used : ℕ) : Type 0 where
  pub fits : used ≤ length words
  pub order : DatedRows size (take used words)

-- a whole table, with zeros past the rows in use
pub record ClearBehind (words : List ℕ) (used : ℕ) : Type 0 where
  pub long : length words ≡ places
  pub count : used ≤ places
  pub clear : drop used words ≡ replicate (places - used) 0

-- the three tables of rows of a book, each in order and with zeros past its rows
pub record TableRows (b : Book) (link_words holder_words state_words : List ℕ) : Type 0 where
  pub links : LinkRows link_words b.periods
  pub holders : ValueRows holder_size holder_words b.holders
  pub states : ValueRows state_size state_words b.states
  pub links-clear : ClearBehind link_words b.periods
  pub holders-clear : ClearBehind holder_words b.holders
  pub states-clear : ClearBehind state_words b.states

-- a point p and an element e whose words, and the next pair's, fit 64 bits
pub record PairFits (p e : ℕ) : Type 0 where
  pub point : p < point_room - 1
  pub element : e < element_room

-- and a day d whose word, and the next day's, does
pub record DayFits (d : ℕ) : Type 0 where
  pub day : d < day_room - 1

-- a point p whose dated values of a size fit 64 bits
pub record PointFits (size p : ℕ) : Type 0 where
  pub some : 0 < size
  pub point : (p + 1) * day_room * size ≤ largest_word
