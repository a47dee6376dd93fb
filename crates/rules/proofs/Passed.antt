-- What a message has passed that is accepted, or that only question 17 refuses.
use Prim.Native.Nat.{ℕ, ◌+◌, ◌≤◌, ◌<◌}
use mathlib.Core.Path.{◌≡◌, refl, sym, ap, ◌∙◌, subst}
use mathlib.Core.Logic.{◌≢◌}
use mathlib.Core.Bool.{Bool, true, false, not, ◌&&◌, ◌||◌, cond}
use Rattle.std.specs.Prelude.{Option, None, Some}
use lib.Dec.{leb, ltb, eqb}
use lib.ListN.{length}
use borrow.Author.Tests.{eqb-true, eq-eqb, leb-true, ltb-true, not-true}
use native.Mathlib.Omega.{arith}
use Rattle.rules.specs.Sizes.{end_of_days, hour_places, most_quantity}
use Rattle.rules.specs.declared.Fields.{Fields}
use Rattle.rules.specs.declared.Sender.{Sender}
use Rattle.rules.specs.declared.Body.{Body}
use Rattle.rules.specs.declared.Body.TheVariants.{Link, Stop, Quantity, Holder, State, Reading, Block, Round}
use Rattle.rules.specs.declared.Message.{Message}
use Rattle.rules.specs.Basics.{within, when, asked}
use Rattle.rules.specs.World.{new_state, closed}
use Rattle.rules.specs.World.{Opening, Tables, World, rows_of, kind_of, is_tariff, linked_on, month_first, month_days}
use Rattle.rules.specs.WellFormed.{question2, question3, question4, question5}
use Rattle.rules.specs.Messages.{is_day, is_quantity, fields_right, value_fits, body_named, sender_of, body_of, both as both_of}
use Rattle.rules.specs.Messages.{understood, body_in}
use Rattle.rules.specs.Questions.{point_of, place_of, tariff_once, question7, question8, question9, question10, question11, question12}
use Rattle.rules.specs.Questions.{question13, question15, question16, own_number, own_question}
use Rattle.rules.specs.Effects.{ask, question17, question18, answer_to, ask_book, answer, accepted, written, written_by, records_of}
use Rattle.rules.proofs.Tests.{tests, cases, both}
use Rattle.rules.proofs.Ranges.{within_low, within-high}
use Rattle.rules.specs.Order.{linked_in}
use Rattle.rules.proofs.Runs.{linked_quantity}
use Rattle.rules.specs.Whole.{TablesRight, Whole}
use Rattle.rules.proofs.Parts.{lengths, formed, links-run}
use Rattle.rules.specs.Ready.{Ranged, Ready}

-- ---- question 6: what holds of fields that are a message

pub record Understands (suppliers : ℕ) (f : Fields) (m : Message) : Type 0 where
  pub day : f.received < end_of_days
  pub fields : fields_right f ≡ true
  pub value : value_fits suppliers f.kind f.value ≡ true
  pub received : m.received ≡ f.received
  pub body : m.body ≡ body_named f

module _ (suppliers : ℕ) (f : Fields) where
  body-named : (b : Body) → body_of suppliers f ≡ Some b
      → (fields_right f ≡ true) × (value_fits suppliers f.kind f.value ≡ true) × (b ≡ body_named f)
  unfolding body_of when
  body-named b e = cases (fields_right f && value_fits suppliers f.kind f.value)
      (λ t. let e' : Some (body_named f) ≡ Some b = rw t at e in
      let k = both (fields_right f) (value_fits suppliers f.kind f.value) t in
      (k.0, k.1, (cc)))
      (λ t. let e' : None ≡ Some b = rw t at e in let z : ◌≡◌ {A = ℕ} 0 1 = cc in absurd (omega arith))

  pub understands : (m : Message) → understood suppliers f ≡ Some m → Understands suppliers f m
  unfolding understood both_of is_day
  understands m e = cases (is_day f.received)
      (λ t. go (ltb-true _ _ t) (sender_of suppliers f) (body_of suppliers f) refl (rw t at e))
      (λ t. let e' : None ≡ Some m = rw t at e in let z : ◌≡◌ {A = ℕ} 0 1 = cc in absurd (omega arith))
    where
      go : f.received < end_of_days → (o : Option Sender) (c : Option Body) → body_of suppliers f ≡ c → both_of f.received o c ≡ Some m
          → Understands suppliers f m
      go d None c q h = let z : ◌≡◌ {A = ℕ} 0 1 = cc in absurd (omega arith)
      go d (Some s) None q h = let z : ◌≡◌ {A = ℕ} 0 1 = cc in absurd (omega arith)
      go d (Some s) (Some c) q h =
          let z : m ≡ record { sender = s; received = f.received; body = c } = cc in
          let k = body-named c q in
          record { day = d; fields = k.0; value = k.1; received = rw z; body = rw z k.2 }

-- what holds of the body that a kind number names holds where it does of each
module _ (f : Fields) (P : Body → Type 0) where
  pub record ByKind : Type 0 where
    pub link : f.kind ≡ 1 → P (Link f.point f.element f.day f.value)
    pub stop : f.kind ≡ 2 → P (Stop f.point f.element f.day)
    pub quantity : f.kind ≡ 3 → P (Quantity f.point f.element f.day f.value)
    pub holder : f.kind ≡ 4 → P (Holder f.point f.day f.value)
    pub state : f.kind ≡ 5 → P (State f.point f.day f.value)
    pub reading : f.kind ≡ 6 → P (Reading f.point f.day f.hour f.value)
    pub block : f.kind ≡ 7 → P (Block f.point f.value)
    pub round : P Round

  of_cond : (n k : ℕ) (a b : Body) → (n ≡ k → P a) → P b → P (cond (eqb n k) a b)
  of_cond n k a b g h = cases (eqb n k) (λ t. rw t (g (eqb-true n k t))) (λ t. rw t h)

  pub by_kind_lem : ByKind → P (body_named f)
  unfolding body_named
  by_kind_lem k =
      of_cond f.kind 1 _ _ k.link
      (of_cond f.kind 2 _ _ k.stop
      (of_cond f.kind 3 _ _ k.quantity
      (of_cond f.kind 4 _ _ k.holder
      (of_cond f.kind 5 _ _ k.state
      (of_cond f.kind 6 _ _ k.reading
      (of_cond f.kind 7 _ _ k.block
      k.round))))))

module _ (suppliers : ℕ) (f : Fields) where
  -- the day of a kind that uses one
  day-first : (unused : Bool) → is_day f.day && unused ≡ true → f.day < end_of_days
  unfolding is_day
  day-first unused h = ltb-true _ _ (both (ltb f.day end_of_days) unused h).0

  a_quantity : is_quantity f.value ≡ true → (1 ≤ f.value) × (f.value ≤ most_quantity)
  unfolding is_quantity
  a_quantity h = (within_low 1 most_quantity f.value h, within-high 1 most_quantity f.value h)

  pub ranged : (m : Message) → understood suppliers f ≡ Some m → Ranged suppliers m.body
  unfolding fields_right value_fits within
  ranged m e =
      let u = understands suppliers f m e in
      let right = u.fields in
      let fits = u.value in
      rw u.body (by_kind_lem f (Ranged suppliers) record {
        link = λ k. let q = a_quantity (rw k at fits) in (day-first _ (rw k at right), q.0, q.1);
        stop = λ k. day-first _ (rw k at right);
        quantity = λ k. let q = a_quantity (rw k at fits) in (day-first _ (rw k at right), q.0, q.1);
        holder = λ k. (day-first _ (rw k at right), leb-true _ _ (rw k at fits));
        state = λ k. let v = rw k at fits in
            (day-first _ (rw k at right), within_low new_state closed f.value v, within-high new_state closed f.value v);
        reading = λ k. let r = rw k at right in
            let h = (both (eqb f.element 0) (ltb f.hour hour_places) (both (is_day f.day) _ r).1).1 in
            (day-first _ r, ltb-true _ _ h, leb-true _ _ (rw k at fits));
        block = λ k. leb-true _ _ (rw k at fits);
        round = tt;
      })

  -- a message is about the point that its fields name, or about none
  pub about : (m : Message) → understood suppliers f ≡ Some m → (p : ℕ) → point_of m.body ≡ Some p → p ≡ f.point
  unfolding point_of
  about m e =
      rw (understands suppliers f m e).body (by_kind_lem f (λ b. (p : ℕ) → point_of b ≡ Some p → p ≡ f.point) record {
        link = λ _ p e. cc;
        stop = λ _ p e. cc;
        quantity = λ _ p e. cc;
        holder = λ _ p e. cc;
        state = λ _ p e. cc;
        reading = λ _ p e. cc;
        block = λ _ p e. cc;
        round = λ p e. let z : ◌≡◌ {A = ℕ} 0 1 = cc in absurd (omega arith);
      })

  -- kind 8 is a round
  pub round-body : f.kind ≡ 8 → (m : Message) → understood suppliers f ≡ Some m → m.body ≡ Round
  unfolding body_named
  round-body k m e = (understands suppliers f m e).body ∙ rw k

-- ---- questions 7, 8 and a body's own, as facts

module _ (o : Opening) (t : Tables) where
  linked_on_lem : (p e d : ℕ) → TablesRight o t → linked_on t p e d ≡ linked_in (rows_of t.links) p e d
  unfolding linked_on
  linked_on_lem p e d r = linked_quantity p e d (links-run o t.links r.links)

  pub own_link : (p e d q : ℕ) → TablesRight o t → own_question o t (Link p e d q) ≡ true → linked_in (rows_of t.links) p e d ≡ false
  unfolding own_question question13
  own_link p e d q r h = sym (linked_on_lem p e d r) ∙ not-true (linked_on t p e d) h

  pub own-quantity : (p e d q : ℕ) → TablesRight o t → own_question o t (Quantity p e d q) ≡ true → (kind_of o e ≢ 3)
      × (linked_in (rows_of t.links) p e d ≡ true)
  unfolding own_question question15 is_tariff
  own-quantity p e d q r h =
      let k = both (not (eqb (kind_of o e) 3)) (linked_on t p e d) h in
      let n : eqb (kind_of o e) 3 ≡ false = not-true (eqb (kind_of o e) 3) k.0 in
      (omega (arith, tests), sym (linked_on_lem p e d r) ∙ k.1)

  pub own-reading : (p d h n : ℕ) → own_question o t (Reading p d h n) ≡ true → (month_first o ≤ d) × (d < month_first o + month_days o)
  unfolding own_question question16
  own-reading p d h n e = let k = both (leb (month_first o) d) (ltb d (month_first o + month_days o)) e in
      (leb-true _ _ k.0, ltb-true _ _ k.1)

  pub element_link : (p e d q : ℕ) → question8 o (Link p e d q) ≡ true → (e < o.elements) × (kind_of o e ≡ 3 → q ≡ 1)
  unfolding question8 asked place_of tariff_once is_tariff
  element_link p e d q h =
      let k = both (ltb e o.elements) (not (eqb (kind_of o e) 3) || eqb q 1) h in
      (ltb-true _ _ k.0, λ m. let z : eqb q 1 ≡ true = rw (eq-eqb (kind_of o e) 3 m) at k.1 in omega (arith, tests))

  pub element_stop : (p e d : ℕ) → question8 o (Stop p e d) ≡ true → e < o.elements
  unfolding question8 asked place_of tariff_once
  element_stop p e d h = ltb-true _ _ (both (ltb e o.elements) true h).0

  pub element-quantity : (p e d q : ℕ) → question8 o (Quantity p e d q) ≡ true → e < o.elements
  unfolding question8 asked place_of tariff_once
  element-quantity p e d q h = ltb-true _ _ (both (ltb e o.elements) true h).0

  pub point-inside : (b : Body) (p : ℕ) → point_of b ≡ Some p → question7 o b ≡ true → p < o.points
  unfolding question7 asked
  point-inside b p e h = ltb-true p o.points (rw e at h)

-- ---- an answer that no question before 17 gives

-- a passed question does not give its number
pub asked_passed : (c : Bool) (n rest k : ℕ) → n ≢ k → ask c n rest ≡ k → (c ≡ true) × (rest ≡ k)
unfolding ask
asked_passed true n rest k h e = (refl, e)
asked_passed false n rest k h e = absurd (h e)

-- a body that is asked nothing of its own passes, whatever the number
own_passed : (o : Opening) (t : Tables) (b : Body) (rest k : ℕ) → ((n : ℕ) → 2 ≤ n → n ≤ 16 → n ≢ k)
    → ask (own_question o t b) (own_number b) rest ≡ k → (own_question o t b ≡ true) × (rest ≡ k)
unfolding own_number
own_passed o t (Link p e d q) rest k h a = asked_passed _ 13 rest k (h 13 (omega arith) (omega arith)) a
own_passed o t (Stop p e d) rest k h a = asked_passed _ 14 rest k (h 14 (omega arith) (omega arith)) a
own_passed o t (Quantity p e d q) rest k h a = asked_passed _ 15 rest k (h 15 (omega arith) (omega arith)) a
own_passed o t (Holder p d v) rest k h a = unfold own_question ask in (refl, a)
own_passed o t (State p d v) rest k h a = unfold own_question ask in (refl, a)
own_passed o t (Reading p d v n) rest k h a = asked_passed _ 16 rest k (h 16 (omega arith) (omega arith)) a
own_passed o t (Block p v) rest k h a = unfold own_question ask in (refl, a)
own_passed o t Round rest k h a = unfold own_question ask in (refl, a)

-- what stands behind an answer: a whole book, a message that is ready to be told, and what questions 17 and 18 say of it
pub record Behind (w : World) (f : Fields) (room k : ℕ) : Type 0 where
  pub whole : Whole w
  pub message : Message
  pub is : understood w.opening.suppliers f ≡ Some message
  pub ready : Ready w.opening w.position.tables message.body
  pub rest : ask (question17 w message.body) 17 (ask (question18 w message.body room) 18 0) ≡ k

module _ (w : World) (f : Fields) (room k : ℕ) (h : (n : ℕ) → 2 ≤ n → n ≤ 16 → n ≢ k) where
  behind-message : Whole w → (x : Option Message) → understood w.opening.suppliers f ≡ x → answer_to w x room ≡ k → Behind w f room k
  unfolding answer_to
  behind-message c None u e = absurd (h 6 (omega arith) (omega arith) e)
  behind-message c (Some m) u e =
      let a7 = asked_passed (question7 w.opening m.body) 7 _ k (h 7 (omega arith) (omega arith)) e in
      let a8 = asked_passed (question8 w.opening m.body) 8 _ k (h 8 (omega arith) (omega arith)) a7.1 in
      let a9 = asked_passed (question9 w.opening w.position.tables m.sender m.body) 9 _ k (h 9 (omega arith) (omega arith))
      a8.1 in
      let a10 = asked_passed (question10 m.sender m.received m.body) 10 _ k (h 10 (omega arith) (omega arith)) a9.1 in
      let a11 = asked_passed (question11 w.position.tables m.body) 11 _ k (h 11 (omega arith) (omega arith)) a10.1 in
      let a12 = asked_passed (question12 w.position.tables m.body) 12 _ k (h 12 (omega arith) (omega arith)) a11.1 in
      let own = own_passed w.opening w.position.tables m.body _ k h a12.1 in
      record {
        whole = c;
        message = m;
        is = u;
        ready = record {
          limited = (lengths w c).limited;
          readings = (lengths w c).readings;
          right = (formed w c).tables;
          point = a7.0;
          element = a8.0;
          own = own.0;
          range = ranged w.opening.suppliers f m u;
        };
        rest = own.1;
      }

  pub behind : answer w f room ≡ k → Behind w f room k
  unfolding answer ask_book
  behind e =
      let a2 = asked_passed (question2 w) 2 _ k (h 2 (omega arith) (omega arith)) e in
      let a3 = asked_passed (question3 w) 3 _ k (h 3 (omega arith) (omega arith)) a2.1 in
      let a4 = asked_passed (question4 w) 4 _ k (h 4 (omega arith) (omega arith)) a3.1 in
      let a5 = asked_passed (question5 w) 5 _ k (h 5 (omega arith) (omega arith)) a4.1 in
      behind-message (record { limited = a2.0; sized = a3.0; elements = a4.0; right = a5.0 })
      (understood w.opening.suppliers f) refl a5.1

-- 17 is said where the tables or the lines do not fit
pub refused_17 : (w : World) (f : Fields) (room : ℕ) → answer w f room ≡ 17 → (b : Behind w f room 17)
    → question17 w b.message.body ≡ false
unfolding ask
refused_17 w f room e b = cases (question17 w b.message.body)
    (λ t. let r : ask (question18 w b.message.body room) 18 0 ≡ 17 = rw t at b.rest in
    absurd (never (question18 w b.message.body room) r))
    (λ t. t)
  where
    never : (c : Bool) → ask c 18 0 ≡ 17 → ⊥
    never true r = omega arith
    never false r = omega arith

-- ---- an accepted message

pub record Taken (w : World) (f : Fields) (room : ℕ) (b : Body) : Type 0 where
  pub zero : answer w f room ≡ 0
  pub whole : Whole w
  pub message : Message
  pub is : understood w.opening.suppliers f ≡ Some message
  pub body : message.body ≡ b
  pub ready : Ready w.opening w.position.tables b
  pub fits : question17 w b ≡ true

pub taken : (w : World) (f : Fields) (room : ℕ) (b : Body) → accepted w f room ≡ Some b → Taken w f room b
unfolding accepted body_in
taken w f room b e = cases (eqb (answer w f room) 0)
    (λ t. let z = eqb-true (answer w f room) 0 t in
    let c = behind w f room 0 (λ n i j k. omega arith) z in
    let y : Some c.message.body ≡ Some b = let k : body_in (understood w.opening.suppliers f) ≡ Some b = rw t at e in
    rw c.is at k in
    let x : c.message.body ≡ b = cc in
    record {
      zero = z;
      whole = c.whole;
      message = c.message;
      is = c.is;
      body = x;
      ready = subst (Ready w.opening w.position.tables) x c.ready;
      fits = subst (λ b'. question17 w b' ≡ true) x (asked_passed (question17 w c.message.body) 17 _ 0 (λ k. omega arith) c.rest).0;
    })
    (λ t. let e' : None ≡ Some b = rw t at e in let z : ◌≡◌ {A = ℕ} 0 1 = cc in absurd (omega arith))

-- ---- the records of a message fit the list that is lent with it

module _ (w : World) (f : Fields) (room : ℕ) where
  written_fit : (x : Option Body) → accepted w f room ≡ x → length (written_by w x) ≤ room
  unfolding written_by question18
  written_fit None e = omega arith
  written_fit (Some b) e =
      let t = taken w f room b e in
      let k = behind w f room 0 (λ n i j l. omega arith) t.zero in
      let q : Some k.message ≡ Some t.message = sym k.is ∙ t.is in
      let m : k.message ≡ t.message = cc in
      let z : k.message.body ≡ b = ap (λ x. x.body) m ∙ t.body in
      let p = asked_passed (question17 w k.message.body) 17 _ 0 (λ n. omega arith) k.rest in
      let r = asked_passed (question18 w k.message.body room) 18 _ 0 (λ n. omega arith) p.1 in
      subst (λ (x : Body). length (written w x) ≤ room) z (leb-true _ room r.0)

  pub records_fit : length (records_of w f room) ≤ room
  unfolding records_of
  records_fit = written_fit (accepted w f room) refl
