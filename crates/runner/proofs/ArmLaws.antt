-- What each case of the code leaves is what the field does.
use Prim.Native.Nat.{ℕ, ◌+◌, ◌≤◌}
use native.Mathlib.Numerals.{add-one}
use native.Mathlib.Omega.{arith}
use mathlib.Core.Path.{◌≡◌, refl, sym, ap, subst, ◌∙◌}
use mathlib.Core.Bool.{Bool, true, false}
use mathlib.Core.List.{List, [], ◌∷◌, ◌++◌}
use lib.IntN.{ℤ}
use lib.ListN.{length, take, drop}
use Rattle.std.specs.Prelude.{Option, Some, None, Result}
use Rattle.rules.specs.Sizes.{element_size}
use Rattle.rules.specs.declared.Book.{Book}
use Rattle.rules.specs.declared.Fields.{Fields}
use Rattle.rules.specs.Lent.{Lists}
use Rattle.recording.specs.Opened.{named_book}
use Rattle.rules.specs.declared.Refusal.{Refusal}
use Rattle.file.specs.declared.fields.Found.{Found}
use Rattle.file.specs.declared.fields.Found.TheVariants.{Month, Element, Message}
use Rattle.file.specs.declared.fields.Phase.{Phase}
use Rattle.file.specs.declared.reader.Located.{Located}
use Rattle.file.specs.Field.{header_size, field_size, Inside}
use Rattle.file.specs.Reader.{located_at}
use Rattle.file.specs.Lines.{refused_line, longest_line, Written}
use Rattle.file.specs.Program.{ended_by, Heading, described_all, prices_all}
use Rattle.file.proofs.FieldLaws.{inside-at}
use Rattle.file.proofs.PlacedLaws.{nothing_written, loosened}
use Rattle.runner.specs.declared.Progress.{Progress}
use Rattle.runner.specs.declared.Advanced.{Advanced}
use Rattle.runner.specs.Stages.{Stage, start, elements, messages, over, phase_of, quiet, broken, move_on, found_at, is_more}
use Rattle.runner.specs.Parts.{fronts_world}
use Rattle.runner.specs.Texts.{longest_text, reply_text}
use Rattle.runner.specs.Holding.{HoldsValues, Told, Advances, Taken, Stepped}
use Rattle.runner.proofs.FoundLaws.{element-inside}

-- ---- the field that was read is the one at the place

module _ (s : List ℕ) (at : ℕ) (phase : Phase) (ended : Bool) (l : Located) (e : l ≡ located_at s at phase ended) where
  pub found_is : l.found ≡ found_at s at phase ended
  found_is = ap (λ (x : Located). x.found) e

  -- the reader's place behind it
  pub place_is : (f : Found) → l.found ≡ f → l.place ≡ at + field_size f
  place_is f q = ap (λ (x : Located). x.place) e ∙ ap (λ (x : Found). at + field_size x) (sym found_is ∙ q)

  -- an element's value lies within the bytes
  pub value_inside : at ≤ length s → (size : ℕ) → l.found ≡ Element size → (at + 3 + size ≤ length s) × (element_size ≤ size)
  value_inside h size q =
      element-inside at (length s) size l.found q (subst (Inside at (length s)) (sym found_is) (inside-at s at phase ended h))

module _ (stage : Stage) (s : List ℕ) (at : ℕ) (ended : Bool) (l : Located) (e : l ≡ located_at s at (phase_of stage) ended)
    (t : Lists) (out : List ℕ) (from : ℕ) (f : Found) (q : l.found ≡ f)
  where
    stepped : (r : Option Advanced) (t' : Lists) (out' : List ℕ) → Taken f (move_on at stage f s) r t t' out out' from
        → Stepped stage s at ended r t t' out out' from
    stepped r t' out' k =
        subst (λ (x : Found). Taken x (move_on at stage x s) r t t' out out' from) (sym q ∙ found_is s at (phase_of stage) ended l e) k

    -- more bytes are needed
    pub waits : is_more f ≡ true → Stepped stage s at ended None t t out out from
    waits m = stepped None t out (m, refl, refl)

    -- it is taken
    pub takes : is_more f ≡ false → {a : Advanced} {t' : Lists} {out' : List ℕ}
        → Advances (move_on at stage f s) a t' out out' from → Stepped stage s at ended (Some a) t t' out out' from
    takes n {a = a} {t' = t'} {out' = out'} v = stepped (Some a) t' out' (n, v)

-- ---- what is done

-- the run ends with a question
pub arm_broken : (at question : ℕ) (t : Lists) (out after : List ℕ) (from written : ℕ)
    → Written longest_line out after from written (refused_line 0 question)
    → Advances (broken at question) (record { progress = Progress.Over; next = at; written = written }) t out after from
unfolding broken ended_by
arm_broken at question t out after from written w = record { holds = refl; text = loosened (omega arith) w; place = refl }

-- the input ends
pub arm_over : (at : ℕ) (t : Lists) (out : List ℕ) (from : ℕ)
    → Advances (quiet over at) (record { progress = Progress.Over; next = at; written = from }) t out out from
arm_over at t out from = record { holds = refl; text = nothing_written longest_text out from; place = refl }

-- the month
no_values : (year month points suppliers : ℕ) (t : Lists)
    → HoldsValues (named_book year month points suppliers 0) t.element_data t.prices
    (record { year = year; month = month; points = points; suppliers = suppliers }) []
unfolding described_all prices_all
no_values year month points suppliers t = record { book = refl; described = λ h. refl; priced = λ h. refl }

pub arm_month : (at year month points suppliers next : ℕ) (bytes : List ℕ) (t : Lists) (out : List ℕ) (from : ℕ) (b : Book)
    → b ≡ named_book year month points suppliers 0
    → next ≡ at + field_size (Month year month points suppliers)
    → Advances (move_on at start (Month year month points suppliers) bytes)
    (record { progress = Progress.Elements b; next = next; written = from }) t out out from
unfolding move_on field_size
arm_month at year month points suppliers next bytes t out from b f n =
    record {
      holds = record { heading = _; values = []; is = refl; holds = rw f (no_values year month points suppliers t) };
      text = nothing_written longest_text out from;
      place = n;
    }

-- an element
pub arm_element : (at size next : ℕ) (bytes : List ℕ) (h : Heading) (values : List (List ℕ)) (t : Lists) (out : List ℕ) (from : ℕ)
    (b : Book)
    → HoldsValues b t.element_data t.prices h (values ++ (take size (drop (at + header_size) bytes) ∷ []))
    → next ≡ at + field_size (Element size)
    → Advances (move_on at (elements h values) (Element size) bytes)
    (record { progress = Progress.Elements b; next = next; written = from }) t out out from
unfolding move_on field_size
arm_element at size next bytes h values t out from b v n =
    record {
      holds = record { heading = h; values = _; is = refl; holds = v };
      text = nothing_written longest_text out from;
      place = n;
    }

-- a message of an open book
pub arm_message : (b : Book) (t : Lists) (f : Fields) (b' : Book) (r : Result ℕ Refusal) (t' : Lists) (records : List ℤ)
    → Told b t f b' r t' records
    → (at next number : ℕ) (bytes : List ℕ) (out after : List ℕ) (from written : ℕ)
    → Written longest_text out after from written (reply_text r number records) → next ≡ at + field_size (Message f)
    → Advances (move_on at (messages (fronts_world b t) number) (Message f) bytes)
    (record { progress = Progress.Messages b' (number + 1); next = next; written = written }) t' out after from
unfolding move_on field_size
arm_message b t f b' r t' records m at next number bytes out after from written v n =
    record {
      holds = record { is = rw (m.world, add-one number); holds = m.holds };
      text = rw m.text at v;
      place = n;
    }
