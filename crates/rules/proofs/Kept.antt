-- A book that is well formed stays so: the tables after a body that is ready are right and have their lengths, and so have the lines.
use Prim.Native.Nat.{ℕ, ◌+◌, ◌≤◌, ◌<◌, min}
use mathlib.Core.Path.{◌≡◌, refl}
use mathlib.Core.Bool.{Bool, true}
use mathlib.Core.List.{List}
use lib.IntN.{ℤ}
use lib.ListN.{length, set, length-append, length-replicate, length-set}
use lib.Dec.{leb, eqb}
use borrow.Author.Tests.{leb-true, le-leb, eq-eqb}
use native.Mathlib.Omega.{arith}
use Rattle.rules.specs.declared.Body.{Body}
use Rattle.rules.specs.declared.Body.TheVariants.{Link, Stop, Quantity, Holder, State, Reading, Block, Round}
use Rattle.rules.specs.Basics.{within, chained, all_in}
use Rattle.rules.specs.Rows.{pack_period, pack_value, record_row}
use Rattle.rules.specs.World.{Opening, Tables, World, rows_of, table_of}
use Rattle.rules.specs.Sizes.{places, end_of_days, holder_size, last_round, most_energy, state_size}
use Rattle.rules.specs.WellFormed.{within_limits, rows_fit, opening_sized, tables_sized, lines_sized, period_right, apart, value_right}
use Rattle.rules.specs.WellFormed.{earlier, links_right, holders_right, states_right, tables_right, lines_right, question2, question3}
use Rattle.rules.specs.WellFormed.{dates_right, question4, question5}
use Rattle.rules.specs.Questions.{point_of}
use Rattle.rules.specs.Effects.{with_links, with_holders, with_states, with_readings, with_blocks, link_end, told, moved_line, moved_lines}
use Rattle.rules.specs.Effects.{is_round, sent_after, tables_after, lines_after, posted, question17}
use Rattle.rules.proofs.Tests.{cases, both}
use Rattle.rules.proofs.Ranges.{all_set}
use Rattle.rules.proofs.PeriodsRight.{packed, run-chained, run_insert, run_stop, run_split, right_pack, right_insert, right_stop}
use Rattle.rules.proofs.PeriodsRight.{right_split}
use Rattle.rules.proofs.ValuesRight.{record_chained, record_right, value-right}
use Rattle.rules.proofs.Stored.{length-lines}
use Rattle.rules.proofs.Parts.{table_ordered, table_each, table_right_lem, tables-right, links-each, links-run}
use Rattle.rules.specs.Whole.{TablesRight, Whole}
use Rattle.rules.specs.Ready.{Ready}
use Rattle.rules.proofs.Passed.{own_link, own-quantity, element_link, element_stop, element-quantity, point-inside}
use Rattle.rules.proofs.Agree.{link_fee, link_ends_lem}

-- ---- right tables

module _ (op : Opening) (t : Tables) (k : TablesRight op t) where
  links-kept : (rows : List ℕ) → chained apart rows ≡ true → all_in (period_right op) rows ≡ true → TablesRight op (with_links t rows)
  unfolding with_links links_right
  links-kept rows c a = record {
    links = table_right_lem apart (period_right op) rows c a;
    holders = k.holders;
    states = k.states;
    readings = k.readings;
    blocks = k.blocks;
  }

  holders-kept : (p d h : ℕ) → p < op.points → d < end_of_days → h < holder_size → h ≤ op.suppliers
      → TablesRight op (with_holders t (record_row holder_size (pack_value holder_size p d h) (rows_of t.holders)))
  unfolding with_holders holders_right
  holders-kept p d h hp hd hv hs =
      let order = earlier holder_size in
      let each = value_right holder_size 0 op.suppliers op in
      record {
        links = k.links;
        holders = table_right_lem order each _
            (record_chained holder_size (omega arith) _ _ (table_ordered order each t.holders k.holders))
            (record_right holder_size (omega arith) each _ _
            (value-right holder_size (omega arith) op 0 op.suppliers p d h hp hd hv (omega arith) hs)
            (table_each order each t.holders k.holders));
        states = k.states;
        readings = k.readings;
        blocks = k.blocks;
      }

  states-kept : (p d v : ℕ) → p < op.points → d < end_of_days → 1 ≤ v → v ≤ 4
      → TablesRight op (with_states t (record_row state_size (pack_value state_size p d v) (rows_of t.states)))
  unfolding with_states states_right
  states-kept p d v hp hd h1 h4 =
      let order = earlier state_size in
      let each = value_right state_size 1 4 op in
      record {
        links = k.links;
        holders = k.holders;
        states = table_right_lem order each _
            (record_chained state_size (omega arith) _ _ (table_ordered order each t.states k.states))
            (record_right state_size (omega arith) each _ _ (value-right state_size (omega arith) op 1 4 p d v hp hd (omega arith) h1 h4)
            (table_each order each t.states k.states));
        readings = k.readings;
        blocks = k.blocks;
      }

  readings-kept : (i n : ℕ) → n ≤ most_energy → TablesRight op (with_readings t (set t.readings i n))
  unfolding with_readings
  readings-kept i n h = record {
    links = k.links;
    holders = k.holders;
    states = k.states;
    readings = all_set _ t.readings i n (le-leb n most_energy h) k.readings;
    blocks = k.blocks;
  }

  blocks-kept : (p b : ℕ) → b ≤ 1 → TablesRight op (with_blocks t (set t.blocks p b))
  unfolding with_blocks
  blocks-kept p b h = record {
    links = k.links;
    holders = k.holders;
    states = k.states;
    readings = k.readings;
    blocks = all_set _ t.blocks p b (le-leb b 1 h) k.blocks;
  }

pub told-right : (op : Opening) (t : Tables) (b : Body) → Ready op t b → TablesRight op (told op t b)
unfolding told point_of
told-right op t (Link p e a q) r =
    let k = r.right in
    let c = r.limited in
    let i = element_link op t p e a q r.element in
    let hp = point-inside op t (Link p e a q) p refl r.point in
    let g = r.range in
    let b = link_end op t p e a in
    let m = link_ends_lem op t p e a g.0 in
    let f = packed p e a b q (omega arith) (omega arith) (omega arith) (omega arith) in
    links-kept op t k _
    (run-chained (run_insert p e a b (pack_period p e a b q) (omega arith) f.point f.element f.first f.end (omega arith)
    m.0 {k = 0} (omega arith) m.1
    (own_link op t p e a q k r.own) (links-run op t.links k.links)))
    (right_insert op c.elements (pack_period p e a b q) (rows_of t.links)
    (right_pack op c.elements p e a b q hp i.0 m.0 m.2 g.1 g.2
    (λ n. let z = link_fee op t p e a n in omega arith)
    i.1)
    (links-each op t.links k.links))
told-right op t (Stop p e a) r =
    let k = r.right in
    let c = r.limited in
    let i = element_stop op t p e a r.element in
    let g = r.range in
    links-kept op t k _
    (run-chained (run_stop p e a (omega arith) (omega arith) (links-run op t.links k.links)))
    (right_stop op c.elements p e a g (rows_of t.links) (links-each op t.links k.links))
told-right op t (Quantity p e a q) r =
    let k = r.right in
    let c = r.limited in
    let i = element-quantity op t p e a q r.element in
    let g = r.range in
    links-kept op t k _
    (run-chained (run_split p e a (omega arith) (omega arith) q g.1 (omega arith) (links-run op t.links k.links)))
    (right_split op c.elements p e a g.0 q g.1 g.2 (own-quantity op t p e a q k r.own).0 (rows_of t.links)
    (links-each op t.links k.links))
told-right op t (Holder p a h) r =
    let c = r.limited in
    let g = r.range in
    holders-kept op t r.right p a h (point-inside op t (Holder p a h) p refl r.point) g.0 (omega arith) g.1
told-right op t (State p a v) r =
    let g = r.range in
    states-kept op t r.right p a v (point-inside op t (State p a v) p refl r.point) g.0 g.1 g.2
told-right op t (Reading p a h n) r = let g = r.range in readings-kept op t r.right _ n g.2
told-right op t (Block p b) r = blocks-kept op t r.right p b r.range
told-right op t Round r = r.right

-- ---- lengths

length_table : (rows : List ℕ) → length rows ≤ places → length (table_of rows).words ≡ places
unfolding table_of
length_table rows h = simp (length-append, length-replicate) (omega arith)

module _ (op : Opening) (t : Tables) (rows : List ℕ) (h : tables_sized op t ≡ true) where
  links-sized : rows_fit (with_links t rows) ≡ true → tables_sized op (with_links t rows) ≡ true
  unfolding rows_fit tables_sized with_links
  links-sized f =
      let l : length rows ≤ places = unfold table_of in leb-true (length rows) places (both (leb (length rows) places) _ f).0 in
      rw (length_table rows l) (both (eqb (length t.links.words) places) _ h).1

  holders-sized : rows_fit (with_holders t rows) ≡ true → tables_sized op (with_holders t rows) ≡ true
  unfolding rows_fit tables_sized with_holders
  holders-sized f =
      let g = both (leb t.links.used places) _ f in
      let l : length rows ≤ places = unfold table_of in leb-true (length rows) places (both (leb (length rows) places) _ g.1).0 in
      let k = both (eqb (length t.links.words) places) _ h in
      rw (k.0, length_table rows l) (both (eqb (length t.holders.words) places) _ k.1).1

  states-sized : rows_fit (with_states t rows) ≡ true → tables_sized op (with_states t rows) ≡ true
  unfolding rows_fit tables_sized with_states
  states-sized f =
      let g = both (leb t.holders.used places) _ (both (leb t.links.used places) _ f).1 in
      let l : length rows ≤ places = unfold table_of in leb-true (length rows) places g.1 in
      let k = both (eqb (length t.links.words) places) _ h in
      let m = both (eqb (length t.holders.words) places) _ k.1 in
      rw (k.0, m.0, length_table rows l) (both (eqb (length t.states.words) places) _ m.1).1

-- tables that fit have the lengths that they had
pub told-sized : (op : Opening) (t : Tables) (b : Body) → tables_sized op t ≡ true → rows_fit (told op t b) ≡ true
    → tables_sized op (told op t b) ≡ true
unfolding told
told-sized op t (Link p e d q) h f = links-sized op t _ h f
told-sized op t (Stop p e d) h f = links-sized op t _ h f
told-sized op t (Quantity p e d q) h f = links-sized op t _ h f
told-sized op t (Holder p d v) h f = holders-sized op t _ h f
told-sized op t (State p d v) h f = states-sized op t _ h f
told-sized op t (Reading p d v n) h f = unfold tables_sized with_readings in rw length-set h
told-sized op t (Block p b) h f = unfold tables_sized with_blocks in rw length-set h
told-sized op t Round h f = h

-- ---- what was sent

-- a property of what was sent, kept by a round that sends lines with the property
sent-kept : (P : List ℤ → Bool) (w : World) (b : Body) → P w.position.lines ≡ true → P w.sent.totals ≡ true
    → P (sent_after w b).totals ≡ true
unfolding sent_after
sent-kept P w b h k = cases (is_round b) (λ c. rw c h) (λ c. rw c k)

next-round : (n : ℕ) → within 1 last_round (min last_round (n + 1)) ≡ true
unfolding within
next-round n = rw (le-leb 1 (min last_round (n + 1)) (omega arith), le-leb (min last_round (n + 1)) last_round (omega arith))

round-kept : (w : World) (b : Body) → within 1 3 w.sent.round ≡ true → within 1 3 (sent_after w b).round ≡ true
unfolding sent_after
round-kept w b h = cases (is_round b) (λ c. rw c (next-round w.sent.round)) (λ c. rw c h)

-- ---- the world

lines-sized : (op : Opening) (ls : List ℤ) (t v : Tables) → lines_sized op (moved_lines op ls t v) ≡ true
unfolding lines_sized moved_lines
lines-sized op ls t v = eq-eqb _ _ (length-lines op (moved_line op ls t v))

pub posted-whole : (w : World) (b : Body) → Whole w → Ready w.opening w.position.tables b → question17 w b ≡ true
    → Whole (posted w b)
unfolding posted question17 question2 question3 question4 question5
posted-whole w b c r q =
    let o = w.opening in
    let t = w.position.tables in
    let f = both (rows_fit (tables_after w b)) (lines_right o (lines_after w b)) q in
    let s1 = both (opening_sized o) _ c.sized in
    let s2 = both (tables_sized o t) _ s1.1 in
    let s3 = both (lines_sized o w.position.lines) (lines_sized o w.sent.totals) s2.1 in
    let r1 = both (tables_right o t) _ c.right in
    let r2 = both (lines_right o w.position.lines) _ r1.1 in
    let r3 = both (lines_right o w.sent.totals) _ r2.1 in
    let r4 = both (within 1 3 w.sent.round) (dates_right o w.dates) r3.1 in
    let sized : tables_sized o (tables_after w b) ≡ true = unfold tables_after in told-sized o t b s2.0 (unfold tables_after in f.0) in
    let right : tables_right o (tables_after w b) ≡ true = unfold tables_after in tables-right o (told o t b) (told-right o t b r) in
    let lines : lines_sized o (lines_after w b) ≡ true = unfold lines_after in lines-sized o w.position.lines t (tables_after w b) in
    record {
      limited = rw (both (within_limits o) (rows_fit t) c.limited).0 f.0;
      sized = rw (s1.0, sized, lines) (sent-kept (lines_sized o) w b s3.0 s3.1);
      elements = c.elements;
      right = rw (right, f.1, sent-kept (lines_right o) w b r2.0 r3.0) (rw (round-kept w b r4.0) r4.1);
    }
