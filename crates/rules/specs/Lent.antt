-- What is lent with a book, as one value, and the worlds that contracts speak of.
use Rattle.std.specs.Prelude.{◌≡◌, ℕ, List, [], ℤ}
use Rattle.rules.specs.declared.Book.{Book}
use Rattle.rules.specs.declared.Lent.{Lent}
use Rattle.rules.specs.declared.OpenBook.{OpenBook}
use Rattle.rules.specs.World.{Opening, Tables, World}

-- every table that is lent
pub record Lists : Type 0 where
  pub element_data : List ℕ
  pub prices : List ℤ
  pub links : List ℕ
  pub holders : List ℕ
  pub states : List ℕ
  pub readings : List ℕ
  pub blocks : List ℕ
  pub lines : List ℤ
  pub sent : List ℤ

-- nothing is lent
abbrev pub no_lists : Lists
no_lists =
    record {
      element_data = [];
      prices = [];
      links = [];
      holders = [];
      states = [];
      readings = [];
      blocks = [];
      lines = [];
      sent = [];
    }

-- ---- the world of a book and of what is lent with it, and its parts

abbrev pub opening_in : Book → Lists → Opening
opening_in b o =
    record {
      year = b.year;
      month = b.month;
      points = b.points;
      suppliers = b.suppliers;
      elements = b.elements;
      element_data = o.element_data;
      prices = o.prices;
    }

abbrev pub tables_in : Book → Lists → Tables
tables_in b o =
    record {
      links = record { used = b.periods; words = o.links };
      holders = record { used = b.holders; words = o.holders };
      states = record { used = b.states; words = o.states };
      readings = o.readings;
      blocks = o.blocks;
    }

abbrev pub world_in : Book → Lists → World
world_in b o =
    record {
      opening = opening_in b o;
      position = record { tables = tables_in b o; lines = o.lines };
      sent = record { totals = o.sent; round = b.round };
      dates = record { first = b.first; days = b.days };
    }

-- ---- what a function is lent that reads them all, as it is at one moment

abbrev pub given : (element_data : List ℕ) → (prices : List ℤ) → (links holders states readings blocks : List ℕ) → (lines sent : List ℤ)
    → Lists
given element_data prices links holders states readings blocks lines sent =
    record {
      element_data = element_data;
      prices = prices;
      links = links;
      holders = holders;
      states = states;
      readings = readings;
      blocks = blocks;
      lines = lines;
      sent = sent;
    }

-- the same where all of it is one value, to be read; and the worlds of it
abbrev pub lists_of : Lent → Lists
lists_of l =
    given l.element_data.now l.prices.now l.links.now l.holders.now l.states.now l.readings.now l.blocks.now l.lines.now l.sent.now

abbrev pub lent_opening : Lent → Opening
lent_opening l = opening_in l.book (lists_of l)

abbrev pub lent_tables : Lent → Tables
lent_tables l = tables_in l.book (lists_of l)

abbrev pub lent_world : Lent → World
lent_world l = world_in l.book (lists_of l)

-- the same of a book that is open
abbrev pub open_lists : OpenBook → Lists
open_lists b =
    given b.element_data.now b.prices.now b.links.now b.holders.now b.states.now b.readings.now b.blocks.now b.lines.now b.sent.now

abbrev pub open_world : OpenBook → World
open_world b = world_in b.book (open_lists b)

-- what is lent with a book that is open stays the same slices: their content alone changes, and element data and prices do not
pub record SameLent (b c : OpenBook) : Type 0 where
  pub element_data : c.element_data ≡ b.element_data
  pub prices : c.prices ≡ b.prices
  pub links : c.links.ghost_name ≡ b.links.ghost_name
  pub holders : c.holders.ghost_name ≡ b.holders.ghost_name
  pub states : c.states.ghost_name ≡ b.states.ghost_name
  pub readings : c.readings.ghost_name ≡ b.readings.ghost_name
  pub blocks : c.blocks.ghost_name ≡ b.blocks.ghost_name
  pub lines : c.lines.ghost_name ≡ b.lines.ghost_name
  pub sent : c.sent.ghost_name ≡ b.sent.ghost_name

-- ---- what a function is lent that reads some tables: those, and whatever else there is

abbrev pub lend_elements : (element_data : List ℕ) → (prices : List ℤ) → Lists → Lists
lend_elements ds ps o =
    record {
      element_data = ds;
      prices = ps;
      links = o.links;
      holders = o.holders;
      states = o.states;
      readings = o.readings;
      blocks = o.blocks;
      lines = o.lines;
      sent = o.sent;
    }

abbrev pub lend_data : (element_data : List ℕ) → Lists → Lists
lend_data ds o = lend_elements ds o.prices o

-- what a book's opening fixes where nothing but elements and prices is lent
abbrev pub opening_of : Book → (element_data : List ℕ) → (prices : List ℤ) → Opening
opening_of b ds ps = opening_in b (lend_elements ds ps no_lists)

abbrev pub lend_rows : (links holders states : List ℕ) → Lists → Lists
lend_rows links holders states o =
    record {
      element_data = o.element_data;
      prices = o.prices;
      links = links;
      holders = holders;
      states = states;
      readings = o.readings;
      blocks = o.blocks;
      lines = o.lines;
      sent = o.sent;
    }

abbrev pub lend_links : (links : List ℕ) → Lists → Lists
lend_links links o = lend_rows links o.holders o.states o

abbrev pub lend_holders : (holders : List ℕ) → Lists → Lists
lend_holders holders o = lend_rows o.links holders o.states o

abbrev pub lend_states : (states : List ℕ) → Lists → Lists
lend_states states o = lend_rows o.links o.holders states o

abbrev pub lend_readings : (readings : List ℕ) → Lists → Lists
lend_readings readings o =
    record {
      element_data = o.element_data;
      prices = o.prices;
      links = o.links;
      holders = o.holders;
      states = o.states;
      readings = readings;
      blocks = o.blocks;
      lines = o.lines;
      sent = o.sent;
    }

abbrev pub lend_blocks : (blocks : List ℕ) → Lists → Lists
lend_blocks blocks o =
    record {
      element_data = o.element_data;
      prices = o.prices;
      links = o.links;
      holders = o.holders;
      states = o.states;
      readings = o.readings;
      blocks = blocks;
      lines = o.lines;
      sent = o.sent;
    }

abbrev pub lend_money : (lines sent : List ℤ) → Lists → Lists
lend_money lines sent o =
    record {
      element_data = o.element_data;
      prices = o.prices;
      links = o.links;
      holders = o.holders;
      states = o.states;
      readings = o.readings;
      blocks = o.blocks;
      lines = lines;
      sent = sent;
    }

abbrev pub lend_lines : (lines : List ℤ) → Lists → Lists
lend_lines lines o = lend_money lines o.sent o

-- what charges are computed from: elements and prices, links, holders and states, readings
abbrev pub lend_charging : (element_data : List ℕ) → (prices : List ℤ) → (links holders states readings : List ℕ) → Lists → Lists
lend_charging ds ps links holders states readings o =
    lend_elements ds ps (lend_rows links holders states (lend_readings readings o))

-- every table that messages write
abbrev pub lend_tables : (links holders states readings blocks : List ℕ) → (lines sent : List ℤ) → Lists → Lists
lend_tables links holders states readings blocks lines sent o =
    lend_rows links holders states (lend_readings readings (lend_blocks blocks (lend_money lines sent o)))
