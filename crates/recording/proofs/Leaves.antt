-- What each message leaves: the table that changes is the rules', the other tables and numbers are as they were.
use Prim.Native.Nat.{ℕ}
use mathlib.Core.Path.{◌≡◌, refl, sym, ap, ◌∙◌}
use mathlib.Core.List.{List}
use lib.ListN.{take, set}
use Rattle.rules.specs.declared.Book.{Book}
use Rattle.rules.specs.declared.Body.{Body}
use Rattle.rules.specs.declared.Body.TheVariants.{Link, Stop, Quantity, Holder, State, Reading, Block}
use Rattle.rules.specs.Rows.{pack_period, insert_row, stop_rows, split_rows, pack_value, record_row}
use Rattle.rules.specs.Sizes.{holder_size, state_size}
use Rattle.rules.specs.World.{World, Table, Tables, rows_of, reading_at}
use Rattle.rules.specs.Effects.{with_links, with_holders, with_states, with_readings, with_blocks, told}
use Rattle.rules.specs.Lent.{Lists, world_in, opening_in, tables_in, lend_links, lend_holders, lend_states, lend_readings, lend_blocks}
use Rattle.tables.specs.Search.{Changed}
use Rattle.tables.proofs.Callers.{changed_table}
use Rattle.facts.specs.Links.{link_ends}
use Rattle.recording.specs.Recorded.{recorded_in}

module _ (b : Book) (o : Lists) where
  -- the world with other tables
  abbrev with_tables : Tables → World
  with_tables x = record (world_in b o) { position = record { tables = x; lines = o.lines } }

  module _ (body : Body) {rows words : List ℕ} {n : ℕ} (c : Changed rows words n) where
    links_recorded : told (opening_in b o) (tables_in b o) body ≡ with_links (tables_in b o) rows
        → world_in (record b { periods = n }) (lend_links words o) ≡ recorded_in (world_in b o) body
    unfolding with_links
    links_recorded e =
        ap (λ (x : Table). with_tables (record (tables_in b o) { links = x })) (changed_table c) ∙ ap with_tables (sym e)

    holders_recorded : told (opening_in b o) (tables_in b o) body ≡ with_holders (tables_in b o) rows
        → world_in (record b { holders = n }) (lend_holders words o) ≡ recorded_in (world_in b o) body
    unfolding with_holders
    holders_recorded e =
        ap (λ (x : Table). with_tables (record (tables_in b o) { holders = x })) (changed_table c) ∙ ap with_tables (sym e)

    states_recorded : told (opening_in b o) (tables_in b o) body ≡ with_states (tables_in b o) rows
        → world_in (record b { states = n }) (lend_states words o) ≡ recorded_in (world_in b o) body
    unfolding with_states
    states_recorded e =
        ap (λ (x : Table). with_tables (record (tables_in b o) { states = x })) (changed_table c) ∙ ap with_tables (sym e)

  module _ {body : Body} {words : List ℕ} {n : ℕ} where
    -- message 1
    pub link_left : (p e d q ends : ℕ) → body ≡ Link p e d q → ends ≡ link_ends (opening_in b o) (tables_in b o) body
        → Changed (insert_row (pack_period p e d ends q) (take b.periods o.links)) words n
        → world_in (record b { periods = n }) (lend_links words o) ≡ recorded_in (world_in b o) body
    link_left p e d q ends h k c =
        let k' : ends ≡ link_ends (opening_in b o) (tables_in b o) (Link p e d q) = rw h at k in
        rw h (links_recorded (Link p e d q) c (rw k' (unfold told link_ends rows_of in refl)))

    -- message 2
    pub stop_left : (p e d : ℕ) → body ≡ Stop p e d → Changed (stop_rows p e d (take b.periods o.links)) words n
        → world_in (record b { periods = n }) (lend_links words o) ≡ recorded_in (world_in b o) body
    stop_left p e d h c = rw h (links_recorded (Stop p e d) c (unfold told rows_of in refl))

    -- message 3
    pub quantity-left : (p e d q : ℕ) → body ≡ Quantity p e d q → Changed (split_rows p e d q (take b.periods o.links)) words n
        → world_in (record b { periods = n }) (lend_links words o) ≡ recorded_in (world_in b o) body
    quantity-left p e d q h c = rw h (links_recorded (Quantity p e d q) c (unfold told rows_of in refl))

    -- message 4
    pub holder-left : (p d v : ℕ) → body ≡ Holder p d v
        → Changed (record_row holder_size (pack_value holder_size p d v) (take b.holders o.holders)) words n
        → world_in (record b { holders = n }) (lend_holders words o) ≡ recorded_in (world_in b o) body
    holder-left p d v h c = rw h (holders_recorded (Holder p d v) c (unfold told rows_of in refl))

    -- message 5
    pub state-left : (p d v : ℕ) → body ≡ State p d v
        → Changed (record_row state_size (pack_value state_size p d v) (take b.states o.states)) words n
        → world_in (record b { states = n }) (lend_states words o) ≡ recorded_in (world_in b o) body
    state-left p d v h c = rw h (states_recorded (State p d v) c (unfold told rows_of in refl))

  -- message 6
  pub reading-left : (p d h n at : ℕ) → at ≡ reading_at (opening_in b o) p d h
      → world_in b (lend_readings (set o.readings at n) o) ≡ recorded_in (world_in b o) (Reading p d h n)
  reading-left p d h n at e = rw e (unfold told with_readings in refl)

  -- message 7
  pub block_left : (p v : ℕ) → world_in b (lend_blocks (set o.blocks p v) o) ≡ recorded_in (world_in b o) (Block p v)
  block_left p v = unfold told with_blocks in refl
