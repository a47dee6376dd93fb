-- What a message of an open book leaves, whose tables are the fronts of what is lent: the tables with the parts back in their places
-- hold the
-- book that it leaves.
use Prim.Native.Nat.{ℕ, ◌*◌, ◌≤◌}
use native.Mathlib.Omega.{arith}
use mathlib.Core.Path.{◌≡◌, sym, ap, subst, ◌∙◌}
use mathlib.Core.List.{List}
use lib.IntN.{ℤ}
use lib.ListN.{length}
use Rattle.rules.specs.Sizes.{record_size}
use Rattle.rules.specs.declared.Book.{Book}
use Rattle.rules.specs.declared.Fields.{Fields}
use Rattle.rules.specs.World.{World}
use Rattle.rules.specs.Whole.{Whole}
use Rattle.rules.specs.Effects.{step}
use Rattle.rules.specs.Lent.{Lists, world_in, lend_tables}
use Rattle.rules.specs.declared.Refusal.{Refusal}
use Rattle.std.specs.Prelude.{Result}
use Rattle.settlement.specs.Replies.{room_in, Replied}
use Rattle.file.specs.Program.{settle_records, settle_points, answered}
use Rattle.runner.specs.declared.parts.Ends.{Ends}
use Rattle.runner.specs.Parts.{Sized, Fitted, ends_of, cut_to, fronts_world}
use Rattle.runner.specs.Holding.{Told}
use Rattle.runner.proofs.PartLaws.{within, AsLong, put_back, parts_back, ends_stay, points_stay}
use Rattle.runner.proofs.TextLaws.{few-records, placed-records, reply_text_lem}

module _ (b : Book) (t : Lists) (e : Ends) (q : e ≡ ends_of b) (s : Sized t) (g : Fitted b)
    (links holders states readings blocks : List ℕ) (lines sent : List ℤ)
    (l : AsLong e t (lend_tables links holders states readings blocks lines sent (cut_to e t))) (f : Fields) (b' : Book)
    (r : Result ℕ Refusal) where
  abbrev x : Lists
  x = lend_tables links holders states readings blocks lines sent (cut_to e t)

  message-world : (room : ℕ) → world_in b' x ≡ step (world_in b (cut_to e t)) f room
      → fronts_world b' (put_back e t x) ≡ step (fronts_world b t) f room
  message-world room h =
      let n : ends_of b' ≡ e = ends_stay b' b (cut_to e t) x f room h ∙ sym q in
      ap (λ (y : Ends). world_in b' (cut_to y (put_back e t x))) n
      ∙ ap (world_in b') (parts_back e t x (within b g e q t s) l)
      ∙ h ∙ ap (λ (y : Ends). step (world_in b (cut_to y t)) f room) q

  pub told : (lent records : List ℤ) → length lent ≡ settle_records * record_size
      → Replied (world_in b (cut_to e t)) (world_in b' x) f r lent records
      → Whole (world_in b' x) → b.points ≤ settle_points → Told b t f b' r (put_back e t x) records
  told lent records long p c k =
      let room : room_in lent ≡ settle_records = omega arith in
      let w : fronts_world b' (put_back e t x) ≡ step (fronts_world b t) f settle_records =
      message-world settle_records (p.world ∙ ap (step (world_in b (cut_to e t)) f) room) in
      let c' : Whole (step (fronts_world b t) f settle_records) =
      subst (λ (y : World). Whole y) (p.world ∙ ap (step (world_in b (cut_to e t)) f) room
      ∙ ap (λ (y : Ends). step (world_in b (cut_to y t)) f settle_records) q) c in
      record {
        world = w;
        holds = record {
          whole = subst (λ (y : World). Whole y) (sym w) c';
          points = rw (points_stay b' b (cut_to e t) x f (room_in lent) p.world) k;
        };
        few = few-records _ _ _ _ _ _ long p;
        placed = placed-records _ _ _ _ _ _ long p;
        text = λ message. reply_text_lem (world_in b (cut_to e t)) (world_in b' x) f r lent records long p message
            ∙ ap (λ (y : Ends). answered (world_in b (cut_to y t)) f message) q;
      }
