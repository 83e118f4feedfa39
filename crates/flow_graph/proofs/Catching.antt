-- The edges from raise steps to handlers, range by range.
use Rattle.std.proofs.Common.{◌≡◌, ℕ, ◌+◌, ◌*◌, ◌<◌, ◌≤◌, ◌⊎◌, Bool, true, false, ◌&&◌, max, List, length, get_or, All, Contains, refl, sym, ◌∙◌, subst, inl, inr, arith}
use Rattle.std.specs.Prelude.{◌==◌, nat_le, nat_lt, if◌then◌else◌}
use Rattle.std.specs.List.Sorted.{IsStrictlyIncreasing}
use Rattle.std.proofs.lemmas.Bool.{cases_lt, eqb-true, leb-true, ltb-true}
use Rattle.std.proofs.lemmas.List.{get_or_default, get_or_past}
use Rattle.std.proofs.lemmas.List.Elements.{All-contains, Contains-get_or}
use Rattle.lists.specs.Members.{rising_pair, rising_all, place_of}
use Rattle.method_flow.specs.declared.flow.HandlerRange.{HandlerRange}
use Rattle.flow_graph.specs.Growing.{Grows}
use Rattle.flow_graph.specs.Raising.{IsEdgeWithin, IsHandlerEdge, IsCovered, AreSameRanges, IsFirstFrom, uncovered_from}
use Rattle.flow_graph.proofs.Growing.{Upto, grows_alike}

-- ---- places by binary search

pub found_first : (xs : List ℕ) (x i : ℕ) → IsStrictlyIncreasing xs → i < length xs → get_or xs i 0 ≡ x → IsFirstFrom xs x i
found_first xs x i rise lt at = record {
  within = omega arith;
  below = λ j less. let p = rising_pair xs rise j i less lt in omega arith;
  above = λ j le below. let p = rising_all xs rise i j le below in omega arith;
}

pub next_first : (xs : List ℕ) (x i : ℕ) → i ≤ length xs → ((k : ℕ) → k < i → get_or xs k 0 < x) → ((k : ℕ) → i ≤ k → k < length xs → x < get_or xs k 0) → IsFirstFrom xs x i
next_first xs x i le low high = record { within = le; below = low; above = λ j le below. let p = high j le below in omega arith }

-- ---- the places from one up to another

abbrev pub IsPlaceEdge : List ℕ → (first last handler : ℕ) → ℕ → ℕ × ℕ → Type 0
IsPlaceEdge places first last handler i e = (first ≤ i) × (i < last) × (e ≡ (2 * get_or places i 0 + 1, 2 * handler))

pub edges_within : (old new : List (ℕ × ℕ)) (places : List ℕ) (from to first last handler n : ℕ) → IsFirstFrom places from first → IsFirstFrom places to last → last ≤ n → Grows old new (Upto (IsPlaceEdge places first last handler) n) → Grows old new (IsEdgeWithin places from to handler)
edges_within old new places from to first last handler n f l le a =
    grows_alike old new (Upto (IsPlaceEdge places first last handler) n) (IsEdgeWithin places from to handler)
    (λ e x.
    let i = x.0 in
    let x' = x.2.0 in
    let x'' = x.2.1 in
    let whole = l.within in
    let inside : i < length places = omega arith in
    record { place = get_or places i 0; among = Contains-get_or places i 0 inside; above = f.above i x' inside; below = l.below i x''; is = x.2.2 })
    (λ e x.
    let at = place_of places x.place x.among in
    let i = at.0 in
    let lt = at.1 in
    let is = at.2 in
    let above = x.above in
    let below = x.below in
    let low : first ≤ i = elim (cases_lt i first) [ inl less ↦ (let p = f.below i less in absurd (omega arith)) | inr ge ↦ ge ] in
    let high : i < last = elim (cases_lt i last) [ inl less ↦ less | inr ge ↦ (let p = l.above i ge lt in absurd (omega arith)) ] in
    let P : ℕ → Type 0 = λ y. e ≡ (2 * y + 1, 2 * handler) in
    (i, omega arith, (low, high, subst P (sym is) x.is)))
    a

-- ---- what is covered

-- the other range covers what comes before the place, or it doesn't count
abbrev pub IsUncovered : (covered range : HandlerRange) → ℕ → Type 0
IsUncovered c r from = (from ≡ r.start) ⊎ ((c.handler ≡ r.handler) × (c.start ≤ r.start) × (r.start < c.end) × (from ≡ c.end))

chosen : (c r : HandlerRange) (a b d : Bool) → (c.handler == r.handler) ≡ a → nat_le c.start r.start ≡ b → nat_lt r.start c.end ≡ d → IsUncovered c r (if a && b && d then c.end else r.start)
chosen c r true true true ea eb ed = inr (eqb-true c.handler r.handler ea, leb-true c.start r.start eb, ltb-true r.start c.end ed, refl)
chosen c r true true false ea eb ed = inl refl
chosen c r true false d ea eb ed = inl refl
chosen c r false b d ea eb ed = inl refl

pub uncovered : (c r : HandlerRange) → IsUncovered c r (uncovered_from c r)
uncovered c r = chosen c r (c.handler == r.handler) (nat_le c.start r.start) (nat_lt r.start c.end) refl refl refl

module _ (places : List ℕ) (c r : HandlerRange) (old new : List (ℕ × ℕ)) (from : ℕ) (is : IsUncovered c r from) (before : IsCovered places c old) (grown : Grows old new (IsEdgeWithin places from r.end r.handler)) where
  -- what is below the place is covered already
  there_before : (e : ℕ × ℕ) (place : ℕ) → Contains places place → r.start ≤ place → place < from → e ≡ (2 * place + 1, 2 * r.handler) → Contains new e
  there_before e place among above below at =
      elim is [
        | inl same ↦ absurd (omega arith)
        | inr h ↦
            let handler : r.handler ≡ c.handler = sym h.0 in
            let low = h.1 in
            let end = h.3 in
            let P : ℕ → Type 0 = λ z. e ≡ (2 * place + 1, 2 * z) in
            grown.keeps e (before e (record { place = place; among = among; above = omega arith; below = omega arith; is = subst P handler at }))
      ]

  not_below : r.start ≤ from
  not_below = elim is [ inl same ↦ omega arith | inr h ↦ let lt = h.2 in let end = h.3 in omega arith ]

  pub range_edges : Grows old new (IsEdgeWithin places r.start r.end r.handler)
  range_edges = record {
    keeps = grown.keeps;
    adds = λ e x.
        elim (cases_lt x.place from) [
          | inl below ↦ there_before e x.place x.among x.above below x.is
          | inr above ↦ grown.adds e (record { place = x.place; among = x.among; above = above; below = x.below; is = x.is })
        ];
    only = λ e has.
        elim (grown.only e has) [
          | inl earlier ↦ inl earlier
          | inr x ↦ let low = x.above in let le = not_below in inr (record { place = x.place; among = x.among; above = omega arith; below = x.below; is = x.is })
        ];
  }

  pub range_covered : (end : ℕ) → end ≡ max from r.end → IsCovered places (record { start = r.start; end = end; handler = r.handler }) new
  range_covered end top e x =
      let low = x.above in
      let high = x.below in
      elim (cases_lt x.place r.end) [
        | inl below ↦ range_edges.adds e (record { place = x.place; among = x.among; above = x.above; below = below; is = x.is })
        | inr past ↦ there_before e x.place x.among x.above (omega arith) x.is
      ]

-- ---- all ranges

abbrev pub no_range : HandlerRange
no_range = record { start = 0; end = 0; handler = 0 }

abbrev pub IsRangeEdge : (places : List ℕ) → List HandlerRange → ℕ → ℕ × ℕ → Type 0
IsRangeEdge places ranges i e =
    let r = get_or ranges i no_range in
    IsEdgeWithin places r.start r.end r.handler e

pub none_covered : (places : List ℕ) (es : List (ℕ × ℕ)) → IsCovered places no_range es
none_covered places es e x = let b = x.below in absurd (omega arith)

pub all_ranges : (old new : List (ℕ × ℕ)) (places : List ℕ) (ranges sorted : List HandlerRange) (n : ℕ) → AreSameRanges ranges sorted → length sorted ≤ n → Grows old new (Upto (IsRangeEdge places sorted) n) → Grows old new (IsHandlerEdge places ranges)
all_ranges old new places ranges sorted n same le a =
    grows_alike old new (Upto (IsRangeEdge places sorted) n) (IsHandlerEdge places ranges)
    (λ e x.
    let w = x.2 in
    elim (cases_lt x.0 (length sorted)) [
      | inl lt ↦
          let r = get_or sorted x.0 no_range in
          record { place = w.place; handler = r.handler; among = w.among; caught = record { range = r; among = (same r).0 (Contains-get_or sorted x.0 no_range lt); from = w.above; to = w.below; handler = refl }; is = w.is }
      | inr past ↦ absurd (none_covered_past sorted x.0 places e past w)
    ])
    (λ e x.
    let h = x.caught in
    let at = (same h.range).1 h.among in
    let lt = at.1 in
    let is : get_or sorted at.0 no_range ≡ h.range = get_or_default sorted at.0 no_range h.range lt ∙ at.2 in
    let P : HandlerRange → Type 0 = λ r. IsEdgeWithin places r.start r.end r.handler e in
    let Q : ℕ → Type 0 = λ z. e ≡ (2 * x.place + 1, 2 * z) in
    let w : IsEdgeWithin places h.range.start h.range.end h.range.handler e = record { place = x.place; among = x.among; above = h.from; below = h.to; is = subst Q (sym h.handler) x.is } in
    (at.0, omega arith, subst P (sym is) w))
    a
  where
    none_covered_past : (sorted : List HandlerRange) (i : ℕ) (places : List ℕ) (e : ℕ × ℕ) → length sorted ≤ i → IsRangeEdge places sorted i e → ⊥
    none_covered_past sorted i places e past w =
        let at : get_or sorted i no_range ≡ no_range = get_or_past sorted i no_range past in
        let P : HandlerRange → Type 0 = λ r. IsEdgeWithin places r.start r.end r.handler e in
        let v : IsEdgeWithin places 0 0 0 e = subst P at w in
        let b = v.below in
        omega arith

pub range_near : (ranges sorted items : List HandlerRange) (i : ℕ) → AreSameRanges ranges sorted → items ≡ sorted → All (λ r. r.handler < 65536) ranges → i < length items → (get_or items i no_range).handler < 65536
range_near ranges sorted items i same is all lt =
    let r = get_or items i no_range in
    let P : List HandlerRange → Type 0 = λ rs. Contains rs r in
    All-contains (λ (x : HandlerRange). x.handler < 65536) ranges r all ((same r).0 (subst P is (Contains-get_or items i no_range lt)))

pub same_items : (ranges sorted items : List HandlerRange) → AreSameRanges ranges sorted → items ≡ sorted → AreSameRanges ranges items
same_items ranges sorted items same is = let P : List HandlerRange → Type 0 = λ rs. AreSameRanges ranges rs in subst P (sym is) same
