-- Message 6: the changes of the lines of the supplier who pays, as changes of all lines, are the rules'; so question 17 asks of them what
-- the code tests, and what is written are the rules' lines.
use Prim.Native.Nat.{ℕ, ◌+◌, ◌*◌, ◌/◌, ◌%◌}
use mathlib.Core.Path.{◌≡◌, refl, sym, ap, ◌∙◌}
use mathlib.Core.Bool.{Bool, true, false, cond}
use mathlib.Core.List.{List}
use lib.IntN.{ℤ, pos}
use lib.ListN.{length, get_or}
use lib.Dec.{eqb}
use Rattle.rules.specs.declared.Book.{Book}
use Rattle.rules.specs.declared.Body.{Body}
use Rattle.rules.specs.declared.Body.TheVariants.{Reading}
use Rattle.rules.specs.Basics.{all_to}
use Rattle.rules.specs.Lines.{Measure}
use Rattle.rules.specs.Sizes.{line_size}
use Rattle.rules.specs.World.{Opening, Tables, World, line_count}
use Rattle.rules.specs.WellFormed.{within_limits, rows_fit, line_places, line_right, lines_right, question2}
use Rattle.rules.specs.Effects.{told, with_readings, supplier_of, element_of, question17}
use Rattle.rules.specs.Lent.{Lists, world_in, opening_in, tables_in}
use Rattle.rules.specs.Whole.{Whole}
use Rattle.rules.proofs.Tests.{both}
use Rattle.rules.proofs.Parts.{lengths, formed}
use Rattle.rules.proofs.Ranges.{get_d_list_to}
use Rattle.metering.specs.Hours.{Reread, RereadBoth, ReadingSettled}
use Rattle.recording.specs.Recorded.{recorded_in}
use Rattle.ledger.specs.Added.{ByRules, own_at, own_changes, own_lines}
use Rattle.ledger.specs.Moved.{lines_in}
use Rattle.settlement.specs.Replies.{Applied}
use Rattle.settlement.proofs.Applying.{Rules, fits-is, applied, applied_not}

module _ (o : Opening) (t : Tables) (b : Body) (who : ℕ) where
  own_rules : (m : Measure) (cs : List ℤ) → Reread o t b who m cs
      → ByRules o t (told o t b) m (own_changes o.suppliers o.elements who cs)
  unfolding own_changes own_at line_count supplier_of element_of
  own_rules m cs r =
      record {
        is = λ k l.
            get_d_list_to (λ (i : ℕ). cond (eqb (i / o.elements + 1) who) (get_or cs (i % o.elements) (pos 0)) (pos 0))
            (o.suppliers * o.elements) k (pos 0) l
            ∙ sym (r.is k l);
      }

  reread_rules : (qs vs : List ℤ) → RereadBoth o t b who qs vs
      → Rules o t b (own_changes o.suppliers o.elements who qs) (own_changes o.suppliers o.elements who vs)
  reread_rules qs vs r = record { quantity = own_rules Measure.quantity qs r.quantity; amount = own_rules Measure.amount vs r.amount }

-- what the lines are asked
pub lines-asked : (b : Book) (o : Lists) → Whole (world_in b o)
    → (length o.lines ≡ lines_in b * line_size) × (all_to (λ k. line_right o.lines (k * line_size)) (lines_in b) ≡ true)
unfolding line_count line_places lines_right
lines-asked b o c = ((lengths (world_in b o) c).lines, (formed (world_in b o) c).lines)

module _ (b : Book) (o : Lists) (p d h n : ℕ) (c : Whole (world_in b o)) (out : List ℤ) (x : Bool)
    (g : ReadingSettled (opening_in b o) (tables_in b o) (Reading p d h n) o.lines out x) where
  abbrev w : World
  w = world_in b o

  abbrev body : Body
  body = Reading p d h n

  own : Rules (opening_in b o) (tables_in b o) body (own_changes b.suppliers b.elements g.who g.qs)
      (own_changes b.suppliers b.elements g.who g.vs)
  own = reread_rules (opening_in b o) (tables_in b o) body g.who g.qs g.vs g.both

  -- a reading adds no row
  rows : rows_fit (told (opening_in b o) (tables_in b o) body) ≡ true
  unfolding told with_readings rows_fit question2
  rows = (both (within_limits (opening_in b o)) (rows_fit (tables_in b o)) c.limited).1

  -- the test is question 17
  asked : question17 w body ≡ x
  unfolding own_lines
  asked = fits-is b o body _ _ own x (rw rows g.fits)

  pub reading_applied : x ≡ true → (after : World)
      → after ≡ record (recorded_in w body) { position = record (recorded_in w body).position { lines = out } }
      → Applied w after body 0
  unfolding own_lines
  reading_applied f after e = rw e (applied b o body _ _ own (asked ∙ f) (recorded_in w body) refl out (rw f at g.lines))

  pub reading-refused : x ≡ false → (after : World) → after ≡ record w { position = record w.position { lines = out } }
      → Applied w after body 17
  reading-refused f after e =
      let l : out ≡ o.lines = rw f at g.lines in
      applied_not w after body (asked ∙ f) (e ∙ ap (λ (ls : List ℤ). record w { position = record w.position { lines = ls } }) l)
