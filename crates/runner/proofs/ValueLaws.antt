-- An element's value put into the tables behind those before it: the tables' fronts are the values' bytes and prices.
use Prim.Native.Nat.{ℕ, ◌+◌, ◌*◌, ◌≤◌, ◌<◌, min}
use native.Mathlib.Omega.{arith}
use mathlib.Core.Path.{◌≡◌, sym, ap, ◌∙◌}
use mathlib.Core.List.{List, [], ◌∷◌, ◌++◌, append_assoc, append-nil}
use lib.IntN.{ℤ}
use lib.ListN.{length, take, length-append}
use lib.Seq.{length-take-le}
use Rattle.rules.specs.Sizes.{element_size, most_elements, price_places}
use Rattle.rules.specs.declared.Book.{Book}
use Rattle.rules.proofs.Ranges.{length-list_to}
use Rattle.recording.specs.Opened.{named_book}
use Rattle.file.specs.Element.{price_at, prices_in, element_bytes, element_prices}
use Rattle.file.specs.Program.{Heading, described_all, prices_all}
use Rattle.file.proofs.PlacedLaws.{placed-front}
use Rattle.runner.specs.Holding.{HoldsValues, counted}

described_more : (values : List (List ℕ)) (value : List ℕ) → described_all (values ++ (value ∷ []))
    ≡ described_all values ++ take element_size value
unfolding described_all
described_more [] value = append-nil (take element_size value)
described_more (v ∷ values) value =
    ap (λ (l : List ℕ). take element_size v ++ l) (described_more values value)
    ∙ sym (append_assoc (take element_size v) (described_all values) (take element_size value))

prices_more : (values : List (List ℕ)) (value : List ℕ) → prices_all (values ++ (value ∷ [])) ≡ prices_all values ++ prices_in value
unfolding prices_all
prices_more [] value = append-nil (prices_in value)
prices_more (v ∷ values) value = ap (λ (l : List ℤ). prices_in v ++ l) (prices_more values value)
    ∙ sym (append_assoc (prices_in v) (prices_all values) (prices_in value))

length_more : (values : List (List ℕ)) (value : List ℕ) → length (values ++ (value ∷ [])) ≡ length values + 1
length_more values value = length-append values (value ∷ [])

prices-long : (value : List ℕ) → length (prices_in value) ≡ price_places
unfolding prices_in
prices-long value = length-list_to (price_at value) price_places

counted_more : (n : ℕ) → min (most_elements + 1) (min (most_elements + 1) n + 1) ≡ min (most_elements + 1) (n + 1)
counted_more n = omega arith

module _ (b : Book) (ds : List ℕ) (ps : List ℤ) (h : Heading) (values : List (List ℕ)) (v : HoldsValues b ds ps h values) (value : List ℕ)
    (r : Book) (c : r ≡ counted b) where
  book_more : r ≡ named_book h.year h.month h.points h.suppliers (min (most_elements + 1) (length (values ++ (value ∷ []))))
  book_more = c ∙ rw (v.book, length_more values value, counted_more (length values))

  -- there is room for it
  pub value_read : b.elements < most_elements → element_size ≤ length value
      → length ds ≡ most_elements * element_size → length ps ≡ most_elements * price_places
      → (ds' : List ℕ) (ps' : List ℤ) → ds' ≡ element_bytes ds b.elements value
      → ps' ≡ element_prices ps b.elements value
      → HoldsValues r ds' ps' h (values ++ (value ∷ []))
  unfolding element_bytes element_prices
  value_read k m ld lp ds' ps' d p =
      let n = length values in
      let e : b.elements ≡ min (most_elements + 1) n = ap (λ (x : Book). x.elements) v.book in
      let z : b.elements ≡ n = omega arith in
      let l : n ≤ most_elements = omega arith in
      let t : length (take element_size value) ≡ element_size = length-take-le element_size value m in
      record {
        book = book_more;
        described = λ q. rw (d, z, length_more values value, described_more values value, ← v.described l)
            (placed-front ds (n * element_size) (take element_size value) ((n + 1) * element_size) (omega arith) (omega (arith, t)));
        priced = λ q. rw (p, z, length_more values value, prices_more values value, ← v.priced l)
            (placed-front ps (n * price_places) (prices_in value) ((n + 1) * price_places) (omega arith)
            (omega (arith, prices-long value)));
      }

  -- there is none
  pub value_dropped : most_elements ≤ b.elements → HoldsValues r ds ps h (values ++ (value ∷ []))
  value_dropped k =
      let n = length values in
      let e : b.elements ≡ min (most_elements + 1) n = ap (λ (x : Book). x.elements) v.book in
      let l = length_more values value in
      record { book = book_more; described = λ q. absurd (omega arith); priced = λ q. absurd (omega arith) }
