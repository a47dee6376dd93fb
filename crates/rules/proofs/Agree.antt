-- What the tables say of a point is what fresh settlement says, and a message keeps it so.
use Prim.Native.Nat.{ℕ, ◌+◌, ◌-◌, ◌*◌, ◌≤◌, ◌<◌}
use mathlib.Core.Path.{◌≡◌, refl, sym, ap, ◌∙◌}
use mathlib.Core.Bool.{Bool, true, false, not, ◌&&◌, ◌||◌, cond, false≢true}
use mathlib.Core.List.{List}
use Rattle.std.specs.Prelude.{Some}
use lib.ListN.{length, get_or, set}
use lib.Seq.{get_or-set_same, get_or-set_other}
use lib.Dec.{leb, ltb, eqb}
use borrow.Author.Tests.{eqb-true, eq-eqb, ltb-true}
use native.Mathlib.Omega.{arith}
use native.Mathlib.Nat.{mul-le-mul_right}
use Rattle.rules.specs.Sizes.{day_room, element_room, end_of_days, holder_size, hour_places, quantity_room, state_size}
use Rattle.rules.specs.declared.Body.{Body}
use Rattle.rules.specs.declared.Body.TheVariants.{Link, Stop, Quantity, Holder, State, Reading, Block, Round}
use Rattle.rules.specs.Rows.{pack_period, of_pair, covers, quantity_on, starts_on, next_start, insert_row, stop_rows}
use Rattle.rules.specs.Rows.{split_rows, pack_value}
use Rattle.rules.specs.Rows.{recorded_on, record_row}
use Rattle.rules.specs.World.{Opening, Tables, rows_of, kind_of, month_first, month_days, reading_at, energy_of}
use Rattle.rules.specs.WellFormed.{reading_count}
use Rattle.rules.specs.Questions.{point_of}
use Rattle.rules.specs.Effects.{with_links, with_holders, with_states, with_readings, with_blocks, link_end, told}
use Rattle.rules.specs.Fresh.{Fresh, here, no_start, reaches, goes_on, relinked, heard}
use Rattle.rules.proofs.Tests.{tests, cases, both, eqb_comm}
use Rattle.rules.proofs.Ranges.{all_cong}
use Rattle.rules.proofs.Words.{pair_pack, pair_pack_same, covers-is}
use Rattle.rules.proofs.Values.{recorded_pack}
use Rattle.rules.specs.Order.{Run, linked_in}
use Rattle.rules.proofs.Runs.{covered}
use Rattle.rules.proofs.Reach.{goes_on_lem, no_start_lem, next-after}
use Rattle.rules.proofs.Changes.{quantity_insert, starts_insert, clear, quantity_stop, starts_stop, quantity_stop_other}
use Rattle.rules.proofs.Changes.{starts_stop_other, quantity_split, starts_split, quantity_split_other, starts_split_other}
use Rattle.rules.proofs.PeriodsRight.{packed}
use Rattle.rules.proofs.Parts.{rows_table, links-run}
use Rattle.rules.specs.Ready.{Ready}
use Rattle.rules.proofs.Passed.{own_link, own-quantity, own-reading, element_link, element_stop, element-quantity, point-inside}

pub record Agree (op : Opening) (t : Tables) (s : Fresh) : Type 0 where
  pub holder : (p d : ℕ) → recorded_on holder_size (rows_of t.holders) p d ≡ s.holder p d
  pub state : (p d : ℕ) → recorded_on state_size (rows_of t.states) p d ≡ s.state p d
  pub quantity : (p e d : ℕ) → quantity_on (rows_of t.links) p e d ≡ s.quantity p e d
  pub start : (p e d : ℕ) → starts_on (rows_of t.links) p e d ≡ s.start p e d
  pub reading : (p d h : ℕ) → p < op.points → month_first op ≤ d → d < month_first op + month_days op → h < hour_places
      → energy_of op t p d h ≡ s.reading p d h

-- ---- periods

here-is : (p e p' e' : ℕ) → here p e p' e' ≡ (eqb p p' && eqb e e')
unfolding here
here-is p e p' e' = rw (eqb_comm p p', eqb_comm e e')

at_pair : (p e p' e' : ℕ) (P : ℕ → ℕ → Bool → Type 0) → P p e true → ((eqb p p' && eqb e e') ≡ false → P p' e' false)
    → P p' e' (here p e p' e')
at_pair p e p' e' P same other = rw (here-is p e p' e') (cases (eqb p p' && eqb e e')
    (λ c. let m = both (eqb p p') (eqb e e') c in rw c (rw (eqb-true p p' m.0, eqb-true e e' m.1) at same))
    (λ c. rw c (other c)))

module _ (op : Opening) (t : Tables) (s : Fresh) (ag : Agree op t s) where
  -- other rows for one point and element, and the same change in fresh settlement
  agree-links : (rows : List ℕ) (p e : ℕ) (f : ℕ → ℕ → ℕ) (g : ℕ → Bool → Bool)
      → ((d : ℕ) → quantity_on rows p e d ≡ f d (quantity_on (rows_of t.links) p e d))
      → ((d : ℕ) → starts_on rows p e d ≡ g d (starts_on (rows_of t.links) p e d))
      → ((p' e' d : ℕ) → (eqb p p' && eqb e e') ≡ false → quantity_on rows p' e' d ≡ quantity_on (rows_of t.links) p' e' d)
      → ((p' e' d : ℕ) → (eqb p p' && eqb e e') ≡ false → starts_on rows p' e' d ≡ starts_on (rows_of t.links) p' e' d)
      → Agree op (with_links t rows) (relinked s p e f g)
  unfolding relinked with_links
  agree-links rows p e f g q k oq ok = record {
    holder = ag.holder;
    state = ag.state;
    quantity = λ p' e' d. rw (rows_table rows)
        (at_pair p e p' e' (λ x y b. Path ℕ (quantity_on rows x y d) (cond b (f d (s.quantity p e d)) (s.quantity x y d)))
        (q d ∙ ap (f d) (ag.quantity p e d)) (λ n. oq p' e' d n ∙ ag.quantity p' e' d));
    start = λ p' e' d. rw (rows_table rows)
        (at_pair p e p' e' (λ x y b. Path Bool (starts_on rows x y d) (cond b (g d (s.start p e d)) (s.start x y d)))
        (k d ∙ ap (g d) (ag.start p e d)) (λ n. ok p' e' d n ∙ ag.start p' e' d));
    reading = unfold energy_of in ag.reading;
  }

  agree_stop : (p e a : ℕ) → e < element_room → a < day_room → Agree op (told op t (Stop p e a)) (heard op s (Stop p e a))
  unfolding told heard
  agree_stop p e a he ha =
      agree-links (stop_rows p e a (rows_of t.links)) p e
      (λ d old. cond (leb a d) 0 old) (λ d old. not (leb a d) && old)
      (λ d. quantity_stop p e a d he ha (rows_of t.links))
      (λ d. starts_stop p e a d he ha (rows_of t.links))
      (λ p' e' d n. quantity_stop_other p e p' e' he n a d ha (rows_of t.links))
      (λ p' e' d n. starts_stop_other p e p' e' he n a d ha (rows_of t.links))

  -- the days that go on are the same by the tables
  same-run : (p e a d : ℕ) → goes_on (s.start p e) (s.quantity p e) a d ≡ goes_on (starts_on (rows_of t.links) p e)
      (quantity_on (rows_of t.links) p e) a d
  unfolding goes_on
  same-run p e a d = all_cong _ _ (d - a) (λ i k. rw (ag.start p e (a + 1 + i), ag.quantity p e (a + 1 + i)))

  same_next : (p e a d : ℕ) → no_start (s.start p e) a d ≡ no_start (starts_on (rows_of t.links) p e) a d
  unfolding no_start
  same_next p e a d = all_cong _ _ (d - a) (λ i k. rw (ag.start p e (a + 1 + i)))

  agree-quantity : Run 0 (rows_of t.links) → (p e a q : ℕ) → e < element_room → a < day_room → q < quantity_room
      → linked_in (rows_of t.links) p e a ≡ true
      → Agree op (told op t (Quantity p e a q)) (heard op s (Quantity p e a q))
  unfolding told heard
  agree-quantity r p e a q he ha hq l =
      agree-links (split_rows p e a q (rows_of t.links)) p e
      (λ d old. cond (leb a d && goes_on (s.start p e) (s.quantity p e) a d) q old) (λ d old. eqb d a || old)
      (λ d. quantity_split p e a q d he ha hq r l ∙ cases (leb a d)
      (λ c. rw (c, same-run p e a d, goes_on_lem p e a d r l (omega (arith, tests))))
      (λ c. rw c))
      (λ d. starts_split p e a q d he ha hq (rows_of t.links) l)
      (λ p' e' d n. quantity_split_other p e p' e' he n a d ha (rows_of t.links) q hq)
      (λ p' e' d n. starts_split_other p e p' e' he n a d ha (rows_of t.links) q hq)

-- where a link ends
link_end_lem : (op : Opening) (t : Tables) (p e a : ℕ)
    → link_end op t p e a ≡ cond (eqb (kind_of op e) 2) (a + 1) (next_start (rows_of t.links) p e a)
unfolding link_end
link_end_lem op t p e a = refl

pub link_fee : (op : Opening) (t : Tables) (p e a : ℕ) → kind_of op e ≡ 2 → link_end op t p e a ≡ a + 1
link_fee op t p e a k = rw (link_end_lem op t p e a, eq-eqb (kind_of op e) 2 k)

pub link_ends_lem : (op : Opening) (t : Tables) (p e a : ℕ) → a < end_of_days
    → (a < link_end op t p e a) × (link_end op t p e a ≤ next_start (rows_of t.links) p e a) × (link_end op t p e a ≤ end_of_days)
link_ends_lem op t p e a ha = let n = next-after p e a (rows_of t.links) ha in rw (link_end_lem op t p e a) (cases (eqb (kind_of op e) 2)
    (λ c. rw c (omega arith))
    (λ c. rw c (omega arith)))

module _ (op : Opening) (t : Tables) (s : Fresh) (ag : Agree op t s) where
  -- the days that a link reaches are those of its period
  link_reaches : (p e a d : ℕ) → a < end_of_days
      → (leb a d && ltb d (link_end op t p e a)) ≡ reaches (eqb (kind_of op e) 2) (s.start p e) a d
  unfolding reaches
  link_reaches p e a d ha = let m = next-after p e a (rows_of t.links) ha in rw (link_end_lem op t p e a) (cases (eqb (kind_of op e) 2)
      (λ c. rw c (cases (leb a d)
      (λ u. rw u (cases (eqb d a)
      (λ v. rw v (omega (arith, tests)))
      (λ v. rw v (omega (arith, tests)))))
      (λ u. rw u (sym (omega (arith, tests))))))
      (λ c. rw c (cases (leb a d)
      (λ u. rw u (cases (ltb d end_of_days)
      (λ v. rw (v, same_next op t s ag p e a d, no_start_lem p e a d (rows_of t.links) (omega (arith, tests)) (omega (arith, tests))))
      (λ v. rw v (omega (arith, tests)))))
      (λ u. rw u))))

  agree_link : (p e a q : ℕ) → e < element_room → a < end_of_days → q < quantity_room
      → linked_in (rows_of t.links) p e a ≡ false
      → Agree op (told op t (Link p e a q)) (heard op s (Link p e a q))
  unfolding told heard
  agree_link p e a q he ha hq l =
      let b = link_end op t p e a in
      let m = link_ends_lem op t p e a ha in
      let r = pack_period p e a b q in
      let f = packed p e a b q he (omega arith) (omega arith) hq in
      let o = pair_pack_same p e a b q he (omega arith) (omega arith) hq in
      let c : (d : ℕ) → covers p e d r ≡ (leb a d && ltb d b) = λ d. simp (covers-is, o, f.first, f.end) in
      let c' : (p' e' d : ℕ) → (eqb p p' && eqb e e') ≡ false → of_pair p' e' r ≡ false =
      λ p' e' d n. pair_pack p e a b q he (omega arith) (omega arith) hq p' e' ∙ n in
      agree-links op t s ag (insert_row r (rows_of t.links)) p e
      (λ d old. cond (reaches (eqb (kind_of op e) 2) (s.start p e) a d) q old) (λ d old. eqb d a || old)
      (λ d. quantity_insert r p e d (rows_of t.links)
      (λ k. let n = covered p e d r k in clear p e a b d (rows_of t.links) l m.1 (omega arith) (omega arith))
      ∙ rw (c d, link_reaches p e a d ha, f.quantity))
      (λ d. starts_insert r p e d (rows_of t.links) ∙ rw (o, f.first, eqb_comm a d))
      (λ p' e' d n. quantity_insert r p' e' d (rows_of t.links)
      (λ k. absurd (false≢true (simp (covers-is, c' p' e' d n) at k)))
      ∙ simp (covers-is, c' p' e' d n))
      (λ p' e' d n. starts_insert r p' e' d (rows_of t.links) ∙ rw (c' p' e' d n))

  -- ---- holders and states

  agree-holder : (p a h : ℕ) → a < day_room → h < holder_size → Agree op (told op t (Holder p a h)) (heard op s (Holder p a h))
  unfolding told heard with_holders
  agree-holder p a h ha hh = record {
    holder = λ p' d. rw (rows_table (record_row holder_size (pack_value holder_size p a h) (rows_of t.holders)))
        (recorded_pack holder_size p a h ha hh (rows_of t.holders) p' d ∙ ap (cond (here p a p' d) (Some h)) (ag.holder p' d));
    state = ag.state;
    quantity = ag.quantity;
    start = ag.start;
    reading = unfold energy_of in ag.reading;
  }

  agree-state : (p a v : ℕ) → a < day_room → v < state_size → Agree op (told op t (State p a v)) (heard op s (State p a v))
  unfolding told heard with_states
  agree-state p a v ha hv = record {
    holder = ag.holder;
    state = λ p' d. rw (rows_table (record_row state_size (pack_value state_size p a v) (rows_of t.states)))
        (recorded_pack state_size p a v ha hv (rows_of t.states) p' d ∙ ap (cond (here p a p' d) (Some v)) (ag.state p' d));
    quantity = ag.quantity;
    start = ag.start;
    reading = unfold energy_of in ag.reading;
  }

-- ---- readings

row_of : (n p i p' i' : ℕ) → i < n → i' < n → p * n + i ≡ p' * n + i' → p ≡ p'
row_of n p i p' i' h h' e = cases (ltb p p')
    (λ t. let m = mul-le-mul_right n (ltb-true p p' t) in absurd (omega arith))
    (λ t. cases (ltb p' p)
    (λ u. let m = mul-le-mul_right n (ltb-true p' p u) in absurd (omega arith))
    (λ u. omega (arith, tests)))

read_set : (rs : List ℕ) (points days first : ℕ) → length rs ≡ points * days * hour_places
    → (p a h n p' d h' : ℕ) → p < points → first ≤ a → a < first + days → h < hour_places → first ≤ d → d < first + days → h' < hour_places
    → get_or (set rs ((p * days + (a - first)) * hour_places + h) n) ((p' * days + (d - first)) * hour_places + h') 0
    ≡ cond (here p a p' d && eqb h' h) n (get_or rs ((p' * days + (d - first)) * hour_places + h') 0)
unfolding here
read_set rs points days first len p a h n p' d h' hp h1 h2 hh k1 k2 hh' =
    let hi : d - first < days = omega arith in
    let at = (p * days + (a - first)) * hour_places + h in
    let at' = (p' * days + (d - first)) * hour_places + h' in
    let m = mul-le-mul_right days hp in
    let j : a - first < days = omega arith in
    cases ((eqb p' p && eqb d a) && eqb h' h)
    (λ t. let k = both (eqb p' p && eqb d a) (eqb h' h) t in
    let l = both (eqb p' p) (eqb d a) k.0 in
    let z : at' ≡ at = rw (eqb-true p' p l.0) (omega (arith, tests)) in
    rw (t, z) (get_or-set_same rs at n 0 (omega arith)))
    (λ t. rw t (get_or-set_other rs at at' n 0 (λ e.
    let x : p ≡ p' = row_of days p (a - first) p' (d - first) j hi (omega arith) in
    let z : d - first ≡ a - first = let y : p * days ≡ p' * days = ap (λ v. v * days) x in omega arith in
    let u : eqb p' p ≡ true = omega (arith, tests) in
    let v : eqb d a ≡ true = omega (arith, tests) in
    let g : eqb h' h ≡ true = omega (arith, tests) in
    false≢true (sym t ∙ rw (u, v, g)))))

module _ (op : Opening) (t : Tables) (s : Fresh) (ag : Agree op t s) where
  agree-reading : length t.readings ≡ reading_count op → (p a h n : ℕ) → p < op.points → h < hour_places → month_first op ≤ a
      → a < month_first op + month_days op
      → Agree op (told op t (Reading p a h n)) (heard op s (Reading p a h n))
  unfolding told heard with_readings energy_of reading_at reading_count
  agree-reading len p a h n hp hh h1 h2 = record {
    holder = ag.holder;
    state = ag.state;
    quantity = ag.quantity;
    start = ag.start;
    reading = λ p' d h' kp k1 k2 kh.
        read_set t.readings op.points (month_days op) (month_first op) len p a h n p' d h' hp h1 h2 hh k1 k2 kh
        ∙ ap (cond (here p a p' d && eqb h' h) n) (ag.reading p' d h' kp k1 k2 kh);
  }

  agree_block : (p b : ℕ) → Agree op (told op t (Block p b)) (heard op s (Block p b))
  unfolding told heard with_blocks
  agree_block p b = record {
    holder = ag.holder;
    state = ag.state;
    quantity = ag.quantity;
    start = ag.start;
    reading = unfold energy_of in ag.reading;
  }

  agree-round : Agree op (told op t Round) (heard op s Round)
  unfolding told heard
  agree-round = ag

-- one step: what the tables say after a body that is ready is what fresh settlement says
pub agree-told : (op : Opening) (t : Tables) (s : Fresh) (b : Body) → Ready op t b → Agree op t s → Agree op (told op t b) (heard op s b)
unfolding point_of
agree-told op t s (Link p e a q) r ag =
    let c = r.limited in
    let k = element_link op t p e a q r.element in
    let m = r.range in
    agree_link op t s ag p e a q (omega arith) m.0 (omega arith) (own_link op t p e a q r.right r.own)
agree-told op t s (Stop p e a) r ag =
    let c = r.limited in
    let k = element_stop op t p e a r.element in
    let m = r.range in
    agree_stop op t s ag p e a (omega arith) (omega arith)
agree-told op t s (Quantity p e a q) r ag =
    let c = r.limited in
    let k = element-quantity op t p e a q r.element in
    let m = r.range in
    agree-quantity op t s ag (links-run op t.links r.right.links) p e a q (omega arith) (omega arith) (omega arith)
    (own-quantity op t p e a q r.right r.own).1
agree-told op t s (Holder p a h) r ag = let c = r.limited in let m = r.range in agree-holder op t s ag p a h (omega arith) (omega arith)
agree-told op t s (State p a v) r ag = let m = r.range in agree-state op t s ag p a v (omega arith) (omega arith)
agree-told op t s (Reading p a h n) r ag =
    let m = r.range in
    let d = own-reading op t p a h n r.own in
    agree-reading op t s ag r.readings p a h n (point-inside op t (Reading p a h n) p refl r.point) m.1 d.0 d.1
agree-told op t s (Block p b) r ag = agree_block op t s ag p b
agree-told op t s Round r ag = agree-round op t s ag
