-- A run, turn by turn: what was printed and what is still to be printed stay what was to be printed at first, and each turn takes bytes
-- away, opens the book or is the last.
use Prim.Native.Nat.{ℕ, suc, ◌+◌, ◌-◌, ◌*◌, ◌≤◌, ◌<◌}
use native.Mathlib.Omega.{arith}
use mathlib.Core.Path.{◌≡◌, refl, sym, ap, ◌∙◌}
use mathlib.Core.Bool.{Bool, true, false, ◌&&◌}
use mathlib.Core.Logic.{⊎_elim}
use mathlib.Core.List.{List, [], ◌∷◌, ◌++◌, append_assoc, append-nil}
use lib.ListN.{length, take, drop, length-drop}
use lib.Seq.{drop-drop}
use lib.Dec.{eqb}
use Rattle.std.specs.Prelude.{Some, None}
use Rattle.rules.specs.World.{Opening, World}
use Rattle.rules.proofs.Tests.{cases}
use Rattle.file.specs.declared.fields.Phase.{Phase}
use Rattle.file.specs.declared.fields.Found.{Found}
use Rattle.file.specs.declared.fields.Found.TheVariants.{Month, Element, Message, End, More, Broken}
use Rattle.file.specs.Field.{tag_of, month_in, field_named, right_field, whole_field, field_of, field_in, field_size, Inside}
use Rattle.file.specs.Program.{settle_answer, collected, settled}
use Rattle.file.proofs.FieldLaws.{whole-rest, front_decides, Undecided, inside_in, inside-at}
use Rattle.file.proofs.PlacedLaws.{placed-front, placed-behind}
use Rattle.runner.specs.declared.Progress.{Progress}
use Rattle.runner.specs.declared.Advanced.{Advanced}
use Rattle.runner.specs.Stages.{Stage, start, elements, messages, over, phase_of, printed, Move, broken, opened_to, opening, move_on}
use Rattle.runner.specs.Stages.{found_at, is_more}
use Rattle.rules.specs.Lent.{Lists}
use Rattle.runner.specs.Texts.{longest_text}
use Rattle.runner.specs.Holding.{Represents, Stands, may_come, Advances, Stepped, can_go_on, Reached, longest_field, Stopped}
use Rattle.runner.proofs.StageLaws.{never, move-from, next-inside, pieces}

-- ---- where more bytes are needed, the input does not end with those in hand, and few are left

named_not_more : (bytes : List ℕ) → is_more (field_named bytes) ≡ false
unfolding is_more field_named month_in
named_not_more bytes = cases (eqb (tag_of bytes) 1) (λ t. rw t) (λ t. rw t (cases (eqb (tag_of bytes) 2) (λ u. rw u) (λ u. rw u)))

whole_not_more : (bytes : List ℕ) (phase : Phase) → is_more (field_of bytes phase) ≡ false
unfolding is_more field_of
whole_not_more [] phase = refl
whole_not_more (b ∷ bytes) phase = cases (whole_field (b ∷ bytes) && right_field phase (b ∷ bytes)) (λ t. rw t (named_not_more (b ∷ bytes)))
    (λ t. rw t)

more_short : (bytes : List ℕ) (phase : Phase) (ended : Bool) → is_more (field_in bytes phase ended) ≡ true
    → (ended ≡ false) × (length bytes < longest_field)
more_short bytes phase true m = never (sym m ∙ ap is_more (whole-rest bytes phase) ∙ whole_not_more bytes phase)
more_short bytes phase false m = ⊎_elim
    (λ (u : Undecided bytes (field_in bytes phase false)). (refl, u.short))
    (λ (g : (rest : List ℕ) → field_of (bytes ++ rest) phase ≡ field_in bytes phase false). never
    (sym m ∙ ap is_more (sym (g [])) ∙ whole_not_more (bytes ++ []) phase))
    (front_decides bytes phase)

-- ---- how much is left to do

pub weight : Progress → ℕ → ℕ
weight Progress.Start left = suc (2 * left + 1)
weight (Progress.Elements b) left = suc (2 * left + 1)
weight (Progress.Messages b number) left = suc (2 * left + 0)
weight Progress.Over left = 0

weight_of : Stage → ℕ → ℕ
weight_of start left = suc (2 * left + 1)
weight_of (elements h values) left = suc (2 * left + 1)
weight_of (messages w n) left = suc (2 * left + 0)
weight_of over left = 0

holds_weight : (p : Progress) (t : Lists) (stage : Stage) (left : ℕ) → Represents p t stage → weight p left ≡ weight_of stage left
unfolding weight weight_of
holds_weight Progress.Start t stage left h = rw h
holds_weight (Progress.Elements b) t stage left h = rw h.is
holds_weight (Progress.Messages b number) t stage left h = rw h.is
holds_weight Progress.Over t stage left h = rw h

some_weight : (p : Progress) (left : ℕ) → may_come p ≡ true → 0 < weight p left
unfolding weight
some_weight Progress.Start left h = omega arith
some_weight (Progress.Elements b) left h = omega arith
some_weight (Progress.Messages b number) left h = omega arith
some_weight Progress.Over left h = never (sym h)

opened_falls : (at end : ℕ) (w : World) (last : Bool) → weight_of (opened_to last w) (end - at) < suc (2 * (end - at) + 1)
unfolding weight_of
opened_falls at end w true = omega arith
opened_falls at end w false = omega arith

opening_falls : (at end : ℕ) (o : Opening) (last : Bool)
    → weight_of (opening at o (opened_to last)).stage (end - (opening at o (opened_to last)).next) < suc (2 * (end - at) + 1)
unfolding opening broken
opening_falls at end o last = cases (eqb (settle_answer o) 0) (λ t. rw t (opened_falls at end _ last))
    (λ t. rw t (unfold weight_of in omega arith))

falls : (at end : ℕ) (stage : Stage) (f : Found) (s : List ℕ) → Inside at end f → is_more f ≡ false → 0 < weight_of stage (end - at)
    → weight_of (move_on at stage f s).stage (end - (move_on at stage f s).next) < weight_of stage (end - at)
unfolding move_on broken is_more weight_of field_size
falls at end start (Month year month points suppliers) s l m k = omega (arith, l.0)
falls at end start (Element size) s l m k = omega arith
falls at end start (Message f) s l m k = omega arith
falls at end start End s l m k = omega arith
falls at end start More s l m k = never m
falls at end start Broken s l m k = omega arith
falls at end (elements h values) (Month year month points suppliers) s l m k = omega arith
falls at end (elements h values) (Element size) s l m k = omega (arith, l.0)
falls at end (elements h values) (Message f) s l m k = opening_falls at end (collected h values) false
falls at end (elements h values) End s l m k = opening_falls at end (collected h values) true
falls at end (elements h values) More s l m k = never m
falls at end (elements h values) Broken s l m k = omega arith
falls at end (messages w n) (Month year month points suppliers) s l m k = omega arith
falls at end (messages w n) (Element size) s l m k = omega arith
falls at end (messages w n) (Message f) s l m k = omega (arith, l.0)
falls at end (messages w n) End s l m k = omega arith
falls at end (messages w n) More s l m k = never m
falls at end (messages w n) Broken s l m k = omega arith
falls at end over f s l m k = absurd (omega arith)

-- ---- a turn

-- the run so far
pub record Running (ended : Bool) (s : List ℕ) (at : ℕ) (p₀ : Progress) (t₀ : Lists) (out₀ : List ℕ) (t : Lists) (out : List ℕ)
    (p : Progress) (place written : ℕ) : Type 0 where
  pub inside : place ≤ length s
  pub long : length out ≡ length out₀
  pub text : written ≤ length out₀
  pub behind : drop written out ≡ drop written out₀
  pub reached : (stage : Stage) → Represents p₀ t₀ stage → Reached ended stage (drop at s) (take written out) p t (drop place s)

pub begins : (ended : Bool) (s : List ℕ) (at : ℕ) (p : Progress) (t : Lists) (out : List ℕ) → at ≤ length s
    → Running ended s at p t out t out p at 0
begins ended s at p t out l =
    record {
      inside = l;
      long = refl;
      text = omega arith;
      behind = refl;
      reached = λ stage h. record { stage = stage; holds = h; same = λ rest e. refl };
    }

module _ (ended : Bool) (s : List ℕ) (at : ℕ) (p₀ : Progress) (t₀ : Lists) (out₀ : List ℕ) (t : Lists) (out : List ℕ) (p : Progress)
    (place written : ℕ)
    (u : Running ended s at p₀ t₀ out₀ t out p place written)
  where
    -- where it stops
    pub ends : (waits : Bool) → can_go_on p waits (length out - written) ≡ false
        → (waits ≡ true → (ended ≡ false) × (length s - place < longest_field))
        → Stopped s ended out₀ out (record { progress = p; next = place; written = written; waits = waits })
    ends waits g few =
        record { place = u.inside; text = omega (arith, u.long, u.text); behind = u.behind; waits = few; stops = g }

    module _ (b : Stands p₀ t₀) where
      -- the numbers and the tables stand for a stage
      pub stands : Stands p t
      stands = let d = u.reached b.stage b.holds in record { stage = d.stage; holds = d.holds }

      abbrev found : Stage → Found
      found stage = found_at s place (phase_of stage) ended

      -- more bytes are needed
      pub few-left : (t' : Lists) (after : List ℕ)
          → ((stage : Stage) → Represents p t stage → Stepped stage s place ended None t t' out after written)
          → (ended ≡ false) × (length s - place < longest_field)
      few-left t' after f =
          let q = more_short (drop place s) (phase_of stands.stage) ended (f stands.stage stands.holds).0 in
          (q.0, omega (arith, rw length-drop at q.1))

      -- a field is taken
      module _ (k : may_come p ≡ true) (room : longest_text ≤ length out - written) (t' : Lists) (after : List ℕ) (a : Advanced)
          (f : (stage : Stage) → Represents p t stage → Stepped stage s place ended (Some a) t t' out after written)
        where
          turn : Advances (move_on place stands.stage (found stands.stage) s) a t' out after written
          turn = (f stands.stage stands.holds).1

          next-within : a.next ≤ length s
          next-within =
              let i = found stands.stage in
              let z = ap (λ (x : Move). x.next) (move-from place stands.stage i s) in
              let n = next-inside stands.stage i (drop place s) (inside_in (drop place s) (phase_of stands.stage) ended) in
              omega (arith, turn.place, z, rw length-drop at n, u.inside)

          text-within : a.written ≤ length out₀
          text-within = omega (arith, turn.text.end, turn.text.short, room, u.long, u.text)

          next-behind : drop a.written after ≡ drop a.written out₀
          next-behind =
              let v = turn.text in
              let text = (move_on place stands.stage (found stands.stage) s).text in
              rw (
                v.is,
                placed-behind out written text a.written (omega (arith, u.long, u.text)) v.end,
                v.end,
                ← drop-drop (length text) written out,
                u.behind,
                drop-drop,
              )

          next-reached : (stage : Stage) → Represents p₀ t₀ stage
              → Reached ended stage (drop at s) (take a.written after) a.progress t' (drop a.next s)
          next-reached stage h =
              let d = u.reached stage h in
              let v = (f d.stage d.holds).1 in
              let move = move_on place d.stage (found d.stage) s in
              let text : take a.written after ≡ take written out ++ move.text =
              rw v.text.is (placed-front out written move.text a.written (omega (arith, u.long, u.text)) v.text.end) in
              record {
                stage = move.stage;
                holds = v.holds;
                same = λ rest r. d.same rest r ∙ ap (λ (x : List ℕ). take written out ++ x) (pieces d.stage s rest place ended r move refl)
                    ∙ rw (v.place, text) (sym (append_assoc (take written out) move.text _));
              }

          pub turns : length after ≡ length out
              → Running ended s at p₀ t₀ out₀ t' after a.progress a.next a.written
          turns l = record {
            inside = next-within;
            long = l ∙ u.long;
            text = text-within;
            behind = next-behind;
            reached = next-reached;
          }

          pub less : weight a.progress (length s - a.next) < weight p (length s - place)
          less =
              let i = inside-at s place (phase_of stands.stage) ended u.inside in
              let w : weight p (length s - place) ≡ weight_of stands.stage (length s - place) =
              holds_weight p t stands.stage (length s - place) stands.holds in
              let w' = holds_weight a.progress t' (move_on place stands.stage (found stands.stage) s).stage
              (length s - (move_on place stands.stage (found stands.stage) s).next) turn.holds in
              let pos : 0 < weight p (length s - place) = some_weight p (length s - place) k in
              rw turn.place (omega (
                arith,
                w,
                w',
                falls place (length s) stands.stage (found stands.stage) s i
                    (f stands.stage stands.holds).0 (rw w at pos),
              ))

-- ---- for callers

over_silent : (t : Lists) (stage : Stage) (bytes : List ℕ) → Represents Progress.Over t stage → printed stage bytes ≡ []
unfolding printed
over_silent t stage bytes h = rw h

-- a run that is over has printed all
pub run-over : (ended : Bool) (stage : Stage) (front text : List ℕ) (t : Lists) (left : List ℕ)
    → Reached ended stage front text Progress.Over t left
    → (rest : List ℕ) → (ended ≡ true → rest ≡ []) → printed stage (front ++ rest) ≡ text
run-over ended stage front text t left r rest e = r.same rest e
    ∙ rw (over_silent t r.stage (left ++ rest) r.holds) (append-nil text)

-- the whole input from the beginning, over in one call: the text is the program's
pub whole_run : (s text : List ℕ) (t : Lists) (left : List ℕ) → Reached true start s text Progress.Over t left → text ≡ settled s
unfolding printed
whole_run s text t left r = sym (run-over true start s text t left r [] (λ e. refl)) ∙ ap settled (append-nil s)

-- a run that goes on over the bytes that were left, with more behind them; with none where the input had ended and the output was full
pub runs_joined : (first ended : Bool) (stage : Stage) (front more text text' : List ℕ) (p p' : Progress) (t t' : Lists)
    (left left' : List ℕ)
    → (first ≡ true → (ended ≡ true) × (more ≡ [])) → (r : Reached first stage front text p t left)
    → Reached ended r.stage (left ++ more) text' p' t' left' → Reached ended stage (front ++ more) (text ++ text') p' t' left'
runs_joined first ended stage front more text text' p p' t t' left left' h r q =
    record {
      stage = q.stage;
      holds = q.holds;
      same = λ rest e. rw (append_assoc front more rest) (r.same (more ++ rest) (λ z. rw (h z).1 (e (h z).0)))
          ∙ ap (λ (x : List ℕ). text ++ x) (rw (append_assoc left more rest) at (q.same rest e)) ∙ sym (append_assoc text text' _);
    }
