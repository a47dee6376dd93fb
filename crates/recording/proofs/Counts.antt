-- Whether the rows fit after each message: the tables that it leaves alone fit as before, the other by its number of rows.
use Prim.Native.Nat.{ℕ, suc, ◌+◌, ◌≤◌, ◌<◌}
use mathlib.Core.Path.{◌≡◌, refl, sym, subst, ◌∙◌}
use mathlib.Core.Bool.{Bool, true, false, cond, and-true}
use mathlib.Core.List.{List}
use lib.Dec.{leb}
use lib.ListN.{length, take}
use lib.Seq.{length-take-le}
use native.Mathlib.Numerals.{add-one}
use native.Mathlib.Omega.{arith}
use borrow.Author.Tests.{le-leb, leb-true}
use Rattle.rules.specs.declared.Book.{Book}
use Rattle.rules.specs.declared.Body.{Body}
use Rattle.rules.specs.declared.Body.TheVariants.{Link, Stop, Quantity, Holder, State, Reading, Block, Round}
use Rattle.rules.specs.Rows.{pack_period, starts_on, insert_row, stop_rows, split_rows, pack_value, recorded_on, record_row}
use Rattle.rules.specs.Sizes.{holder_size, places, state_size}
use Rattle.rules.specs.World.{rows_of, table_of}
use Rattle.rules.specs.WellFormed.{rows_fit}
use Rattle.rules.specs.Effects.{with_links, with_holders, with_states, link_end, told}
use Rattle.rules.specs.Lent.{Lists, opening_in, tables_in}
use Rattle.tables.specs.Order.{TableRows}
use Rattle.tables.specs.Search.{is_given}
use Rattle.tables.proofs.Callers.{length_insert, length_stop, length_split, length_record}
use Rattle.recording.specs.Recorded.{RowFits}

-- one row more, as the code counts
one_more : (t : Bool) (n : ℕ) → cond t n (suc n) ≡ cond t n (n + 1)
one_more true n = refl
one_more false n = sym (add-one n)

module _ (b : Book) (o : Lists) (g : TableRows b o.links o.holders o.states) where
  abbrev fits_after : Body → Bool
  fits_after x = rows_fit (told (opening_in b o) (tables_in b o) x)

  with_links_fit : (rows : List ℕ) → rows_fit (with_links (tables_in b o) rows) ≡ leb (length rows) places
  unfolding rows_fit with_links table_of
  with_links_fit rows = rw (le-leb _ _ g.holders-clear.count, le-leb _ _ g.states-clear.count) (and-true _)

  with_holders_fit : (rows : List ℕ) → rows_fit (with_holders (tables_in b o) rows) ≡ leb (length rows) places
  unfolding rows_fit with_holders table_of
  with_holders_fit rows = rw (le-leb _ _ g.links-clear.count, le-leb _ _ g.states-clear.count) (and-true _)

  with_states_fit : (rows : List ℕ) → rows_fit (with_states (tables_in b o) rows) ≡ leb (length rows) places
  unfolding rows_fit with_states table_of
  with_states_fit rows = rw (le-leb _ _ g.links-clear.count, le-leb _ _ g.holders-clear.count)

  -- by the rows that each message leaves
  link_fits : (p e d q : ℕ) → fits_after (Link p e d q) ≡ leb (b.periods + 1) places
  unfolding told rows_of
  link_fits p e d q =
      with_links_fit (insert_row (pack_period p e d (link_end (opening_in b o) (tables_in b o) p e d) q) (take b.periods o.links))
      ∙ rw (length_insert, length-take-le b.periods o.links g.links.fits, add-one b.periods)

  stop_fits : (p e d : ℕ) → fits_after (Stop p e d) ≡ leb (length (stop_rows p e d (take b.periods o.links))) places
  unfolding told rows_of
  stop_fits p e d = with_links_fit (stop_rows p e d (take b.periods o.links))

  quantity-fits : (p e d q : ℕ) → fits_after (Quantity p e d q) ≡ leb (length (split_rows p e d q (take b.periods o.links))) places
  unfolding told rows_of
  quantity-fits p e d q = with_links_fit (split_rows p e d q (take b.periods o.links))

  holder-fits : (p d v : ℕ) → fits_after (Holder p d v)
      ≡ leb (length (record_row holder_size (pack_value holder_size p d v) (take b.holders o.holders))) places
  unfolding told rows_of
  holder-fits p d v = with_holders_fit (record_row holder_size (pack_value holder_size p d v) (take b.holders o.holders))

  state-fits : (p d v : ℕ) → fits_after (State p d v)
      ≡ leb (length (record_row state_size (pack_value state_size p d v) (take b.states o.states))) places
  unfolding told rows_of
  state-fits p d v = with_states_fit (record_row state_size (pack_value state_size p d v) (take b.states o.states))

  -- what the code finds is whether they fit
  module _ (body : Body) (f : RowFits (take b.periods o.links) body) where
    fields : (x : Body) → body ≡ x → RowFits (take b.periods o.links) x
    fields x h = subst (RowFits (take b.periods o.links)) h f

    -- message 1: one row more
    pub link_count : (p e d q : ℕ) → body ≡ Link p e d q → (r : Bool) → r ≡ leb (cond false b.periods (b.periods + 1)) places
        → r ≡ fits_after body
    link_count p e d q h r k = rw h (k ∙ sym (link_fits p e d q))

    -- message 2: none
    stop_count : (p e d : ℕ) → true ≡ fits_after (Stop p e d)
    stop_count p e d =
        let l = length-take-le b.periods o.links g.links.fits in
        let n = length_stop p e d (take b.periods o.links) in
        let m = g.links-clear.count in
        let k : length (stop_rows p e d (take b.periods o.links)) ≤ places = omega arith in
        sym (le-leb _ _ k) ∙ sym (stop_fits p e d)

    -- message 3: one, unless a period starts that day
    pub quantity-count : (p e d q : ℕ) → body ≡ Quantity p e d q → (t r : Bool) → t ≡ starts_on (take b.periods o.links) p e d
        → r ≡ leb (cond t b.periods (b.periods + 1)) places → r ≡ fits_after body
    quantity-count p e d q h t r s k =
        let l = length-take-le b.periods o.links g.links.fits in
        let n = length_split p e d q g.links.run (fields (Quantity p e d q) h).3 in
        rw (h, quantity-fits p e d q, n, l, ← s, one_more) k

    -- messages 4 and 5: one, unless one is recorded for that day
    pub holder-count : (p d v : ℕ) → body ≡ Holder p d v → (t r : Bool)
        → t ≡ is_given (recorded_on holder_size (take b.holders o.holders) p d)
        → r ≡ leb (cond t b.holders (b.holders + 1)) places → r ≡ fits_after body
    holder-count p d v h t r s k =
        let l = length-take-le b.holders o.holders g.holders.fits in
        let m = fields (Holder p d v) h in
        let n = length_record holder_size (omega arith) p d v (omega arith) m.2 g.holders.order in
        rw (h, holder-fits p d v, n, l, ← s, one_more) k

    pub state-count : (p d v : ℕ) → body ≡ State p d v → (t r : Bool)
        → t ≡ is_given (recorded_on state_size (take b.states o.states) p d)
        → r ≡ leb (cond t b.states (b.states + 1)) places → r ≡ fits_after body
    state-count p d v h t r s k =
        let l = length-take-le b.states o.states g.states.fits in
        let m = fields (State p d v) h in
        let n = length_record state_size (omega arith) p d v (omega arith) m.2 g.states.order in
        rw (h, state-fits p d v, n, l, ← s, one_more) k

    -- of the messages that the code does not look at, a stop alone writes a row
    other_count : (x : Body) → RowFits (take b.periods o.links) x → ((p e d q : ℕ) → x ≡ Link p e d q → ⊥)
        → ((p e d q : ℕ) → x ≡ Quantity p e d q → ⊥)
        → ((p d v : ℕ) → x ≡ Holder p d v → ⊥)
        → ((p d v : ℕ) → x ≡ State p d v → ⊥)
        → true ≡ fits_after x
    other_count (Link p e d q) r not_link not_quantity not_holder not_state = absurd (not_link p e d q refl)
    other_count (Stop p e d) r not_link not_quantity not_holder not_state = stop_count p e d
    other_count (Quantity p e d q) r not_link not_quantity not_holder not_state = absurd (not_quantity p e d q refl)
    other_count (Holder p d v) r not_link not_quantity not_holder not_state = absurd (not_holder p d v refl)
    other_count (State p d v) r not_link not_quantity not_holder not_state = absurd (not_state p d v refl)
    other_count (Reading p d h n) r not_link not_quantity not_holder not_state = absurd r
    other_count (Block p v) r not_link not_quantity not_holder not_state = absurd r
    other_count Round r not_link not_quantity not_holder not_state = absurd r

    pub rest-count : ((p e d q : ℕ) → body ≡ Link p e d q → ⊥)
        → ((p e d q : ℕ) → body ≡ Quantity p e d q → ⊥)
        → ((p d v : ℕ) → body ≡ Holder p d v → ⊥)
        → ((p d v : ℕ) → body ≡ State p d v → ⊥) → true ≡ fits_after body
    rest-count not_link not_quantity not_holder not_state = other_count body f not_link not_quantity not_holder not_state

    -- where they fit, the row that is written has its place
    module _ (t : fits_after body ≡ true) where
      fit_as : (x : Body) → body ≡ x → fits_after x ≡ true
      fit_as x h = subst (λ y. fits_after y ≡ true) h t

      pub link_room : (p e d q : ℕ) → body ≡ Link p e d q → b.periods < places
      link_room p e d q h = let n : b.periods + 1 ≤ places = leb-true _ _ (sym (link_fits p e d q) ∙ fit_as _ h) in omega arith

      pub quantity-room : (p e d q : ℕ) → body ≡ Quantity p e d q → length (split_rows p e d q (take b.periods o.links)) ≤ places
      quantity-room p e d q h = leb-true _ _ (sym (quantity-fits p e d q) ∙ fit_as _ h)

      pub holder-room : (p d v : ℕ) → body ≡ Holder p d v
          → length (record_row holder_size (pack_value holder_size p d v) (take b.holders o.holders)) ≤ places
      holder-room p d v h = leb-true _ _ (sym (holder-fits p d v) ∙ fit_as _ h)

      pub state-room : (p d v : ℕ) → body ≡ State p d v
          → length (record_row state_size (pack_value state_size p d v) (take b.states o.states)) ≤ places
      state-room p d v h = leb-true _ _ (sym (state-fits p d v) ∙ fit_as _ h)
