-- The bounds of the loops of a section with prices, by their headers.
use Rattle.std.proofs.Common.{◌≡◌, ℕ, zero, suc, ◌*◌, ◌/◌, ◌%◌, ◌<◌, Bool, true, false, ◌==◌, List, [], ◌∷◌, length, get_or, map, Contains, Option, Some, None, slice_index, refl, sym, ap, ◌∙◌, subst, arith, eqb-true}
use Rattle.std.specs.Prelude.{if◌then◌else◌, unwrap_or}
use Rattle.section_check.specs.Section.{CertifiedLoop, PricedLoop, priced}
use Rattle.section_check.specs.Placing.{IsEntryAt}
use Rattle.method_flow.specs.Keeping.{BoundOf}
use Rattle.bound_rules.specs.Fitting.{header_bound, header_bounds}
use Rattle.bound_rules.specs.Sections.{section_bounds}
use Rattle.fact_rules.specs.Laws.{PricedHeadersHaveBounds}

-- ---- entries of lists

at_map : {X Y : Type 0} (f : X → Y) (xs : List X) (i : ℕ) (x : X) → IsEntryAt xs i x → IsEntryAt (map f xs) i (f x)
at_map f [] i x at = absurd (let below = at.0 in omega arith)
at_map f (y ∷ ys) zero x at = (omega arith, ap f at.1)
at_map f (y ∷ ys) (suc i) x at = let below = at.0 in let r = at_map f ys i x (omega arith, at.1) in let lt = r.0 in (omega arith, r.1)

index_at : (ns : List ℕ) (i n : ℕ) → IsEntryAt ns i n → slice_index ns i ≡ n
index_at [] i n at = absurd (let below = at.0 in omega arith)
index_at (m ∷ ms) zero n at = at.1
index_at (m ∷ ms) (suc i) n at = let below = at.0 in index_at ms i n (omega arith, at.1)

-- the bound that is computed for a loop
bound_by_header : (bound_of : BoundOf) (m : ℕ) (hs : List ℕ) (i h : ℕ) → IsEntryAt hs i h → slice_index (header_bounds bound_of m hs) i ≡ unwrap_or (header_bound bound_of m h) 0
bound_by_header bound_of m hs i h at = index_at (header_bounds bound_of m hs) i (unwrap_or (header_bound bound_of m h) 0) (at_map (λ u. unwrap_or (header_bound bound_of m u) 0) hs i h at)

-- ---- headers

even_half : (u : ℕ) → u % 2 ≡ 0 → u ≡ 2 * (u / 2)
even_half u e = omega arith

-- a header with a bound is an instruction, for which the bound is given
header_place : (bound_of : BoundOf) (m u n : ℕ) → header_bound bound_of m u ≡ Some n → (p : ℕ) × (u ≡ 2 * p) × (bound_of m p ≡ Some n)
header_place bound_of m u n e = by (u % 2 == 0) refl e
  where
    by : (b : Bool) → (u % 2 == 0) ≡ b → ◌≡◌ {A = Option ℕ} (if b then bound_of m (u / 2) else None) (Some n) → (p : ℕ) × (u ≡ 2 * p) × (bound_of m p ≡ Some n)
    by true is e' = (u / 2, even_half u (eqb-true (u % 2) 0 is), e')
    by false is e' = absurd (cc)

pub priced_headers_have_bounds : PricedHeadersHaveBounds
priced_headers_have_bounds P t bound_of q earlier s value h i l at = by (header_bound bound_of s.plain.method l.header) refl
  where
    by : (o : Option ℕ) → header_bound bound_of s.plain.method l.header ≡ o → (p : ℕ) × (l.header ≡ 2 * p) × (bound_of s.plain.method p ≡ Some (slice_index (section_bounds bound_of s.plain) i))
    by None none = absurd (h.bounded l.header (record { headed = l; among = (i, at.0, at.1); header = refl; none = none }))
    by (Some n) some =
        let r = header_place bound_of s.plain.method l.header n some in
        let computed = bound_by_header bound_of s.plain.method (map (λ k. k.header) s.plain.section.loops) i l.header (at_map (λ k. k.header) s.plain.section.loops i l at) in
        let same : slice_index (section_bounds bound_of s.plain) i ≡ n = computed ∙ ap (λ (o : Option ℕ). unwrap_or o 0) some in
        (r.0, r.1, r.2 ∙ ap (λ (k : ℕ). Some k) (sym same))

-- ---- loops with their prices

-- a loop with its price is one of the section, with its bound
pub record IsPricedAt (ls : List CertifiedLoop) (bounds : List ℕ) (l : PricedLoop) : Type 0 where
  pub place : ℕ
  pub at : IsEntryAt ls place l.certified
  pub bound : l.bound ≡ slice_index bounds place

priced_place : (ls : List CertifiedLoop) (bounds : List ℕ) (loads : List (Option ℕ)) (i : ℕ) (d : PricedLoop) → i < length (priced ls bounds loads)
    → IsEntryAt ls i (get_or (priced ls bounds loads) i d).certified × ((get_or (priced ls bounds loads) i d).bound ≡ slice_index bounds i)
priced_place [] bounds loads i d below = absurd (omega arith)
priced_place (l ∷ ls) [] loads i d below = absurd (omega arith)
priced_place (l ∷ ls) (b ∷ bs) [] i d below = absurd (omega arith)
priced_place (l ∷ ls) (b ∷ bs) (x ∷ xs) zero d below = ((omega arith, refl), refl)
priced_place (l ∷ ls) (b ∷ bs) (x ∷ xs) (suc i) d below = let r = priced_place ls bs xs i d (omega arith) in let lt = r.0.0 in ((omega arith, r.0.1), r.1)

pub priced_at : (ls : List CertifiedLoop) (bounds : List ℕ) (loads : List (Option ℕ)) (l : PricedLoop) → Contains (priced ls bounds loads) l → IsPricedAt ls bounds l
priced_at ls bounds loads l has =
    let r = priced_place ls bounds loads has.0 l has.1 in
    let P : PricedLoop → Type 0 = λ k. IsEntryAt ls has.0 k.certified in
    let Q : PricedLoop → Type 0 = λ k. k.bound ≡ slice_index bounds has.0 in
    record { place = has.0; at = subst P has.2 r.0; bound = subst Q has.2 r.1 }
