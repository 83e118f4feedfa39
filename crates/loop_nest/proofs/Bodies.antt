-- The headers, and the marks of a loop's members.
use Rattle.std.proofs.Common.{◌≡◌, ℕ, ◌+◌, ◌<◌, ◌↔◌, Bool, true, false, Option, Some, List, [], ◌∷◌, ◌++◌, length, get_or, set, All, Contains, sym, ap, ◌∙◌, subst, inl, inr, arith}
use Rattle.std.specs.List.Sorted.{IsStrictlyIncreasing}
use Rattle.std.proofs.lemmas.Bool.{cases_lt, cases_eq}
use Rattle.std.proofs.lemmas.List.{map-append, length-map, get_or_append_left, get_or_push, length_push, get_or-set_same, get_or-set_other, length-set, get_or_default, get_or-map, map-set, set-get_or}
use Rattle.std.proofs.lemmas.List.Elements.{All-push, All-set, All-get_or, All-weaker, All-from_get_or, Contains-append_left, Contains-push, Contains-push_cases, Contains-get_or}
use Rattle.loop_nest.specs.Digraph.{Digraph, IsDigraph, sources_of}
use Rattle.loop_nest.specs.Walks.{IsHeader, IsMember}
use Rattle.loop_nest.specs.Entered.{AreBackEdges}
use Rattle.loop_nest.specs.Search.{mark_at, AreFound}
use Rattle.loop_nest.specs.Nest.{NaturalLoop, headers_of, outers_of}
use Rattle.loop_nest.specs.Nesting.{AreHeadersBelow}
use Rattle.loop_nest.proofs.Ends.{ends_within}
use Rattle.loop_nest.proofs.Searching.{sources_has, from_sources}
use Rattle.loop_nest.proofs.Rising.{rising_push}

pub targets_within : (g : Digraph) (bs : List (ℕ × ℕ)) → IsDigraph g → AreBackEdges g bs → All (λ e. e.1 < g.nodes) bs
targets_within g bs wf all = All-from_get_or (λ (e : ℕ × ℕ). e.1 < g.nodes) bs (0, 0) (λ i lt.
    let e = get_or bs i (0, 0) in
    let b = (all e.0 e.1).0 (Contains-get_or bs i (0, 0) lt) in
    (ends_within wf e.0 e.1 b.edge).1)

pub starts_within : (g : Digraph) (bs : List (ℕ × ℕ)) (h : ℕ) → IsDigraph g → AreBackEdges g bs → All (λ x. x < g.nodes) (sources_of bs h)
starts_within g bs h wf all = All-from_get_or (λ (x : ℕ). x < g.nodes) (sources_of bs h) 0 (λ i lt.
    let u = get_or (sources_of bs h) i 0 in
    let b = (all u h).0 (from_sources bs u h (Contains-get_or (sources_of bs h) i 0 lt)) in
    (ends_within wf u h b.edge).0)

-- the search from the sources of the back edges of h marks the members of its loop
pub members_found : (g : Digraph) (bs : List (ℕ × ℕ)) (h n : ℕ) (marks : List (Option ℕ)) → AreBackEdges g bs → IsHeader g h → AreFound g h (sources_of bs h) n marks → (x : ℕ) → (mark_at marks x ≡ Some n) ↔ IsMember g h x
members_found g bs h n marks all header found x = (
  λ at. (
    header,
    elim ((found x).0 at) [
      | inl same ↦ inl same
      | inr r ↦ inr (record { source = r.source; back_edge = (all r.source h).0 (from_sources bs r.source h r.listed); leads = r.leads })
    ],
  ),
  λ m.
      (found x).1 (elim m.1 [
        | inl same ↦ inl same
        | inr r ↦ inr (record { source = r.source; listed = sources_has bs r.source h ((all r.source h).1 r.back_edge); leads = r.leads })
      ]),
)

-- the flags of the targets of some edges
pub record AreFlagsOf (n : ℕ) (es : List (ℕ × ℕ)) (flags : List Bool) : Type 0 where
  pub long : length flags ≡ n
  pub each : (h : ℕ) → (get_or flags h false ≡ true) ↔ ((u : ℕ) × Contains es (u, h))

pub flags_more : (n u v : ℕ) (es : List (ℕ × ℕ)) (flags : List Bool) → v < n → AreFlagsOf n es flags → AreFlagsOf n (es ++ (u, v) ∷ []) (set flags v true)
flags_more n u v es flags lt f =
    let long = f.long in
    record {
      long = length-set flags v true ∙ long;
      each = λ h.
          elim (cases_eq h v) [
            | inl same ↦ (
              λ _. (u, let P : ℕ → Type 0 = λ z. Contains (es ++ (u, v) ∷ []) (u, z) in subst P (sym same) (Contains-push es (u, v))),
              λ _. ap (λ (z : ℕ). get_or (set flags v true) z false) same ∙ get_or-set_same flags v true false (omega arith),
            )
            | inr other ↦ (
              λ at. let r = (f.each h).0 (sym (get_or-set_other flags v h true false other) ∙ at) in (r.0, Contains-append_left es ((u, v) ∷ []) (r.0, h) r.1),
              λ has.
                  elim (Contains-push_cases es (u, v) (has.0, h) has.1) [
                    | inl old ↦ get_or-set_other flags v h true false other ∙ (f.each h).1 (has.0, old)
                    | inr same ↦ absurd (other (sym (ap (λ (z : ℕ × ℕ). z.1) same)))
                  ],
            )
          ];
    }

pub headers_more : (g : Digraph) (h : ℕ) (ls : List NaturalLoop) (l : NaturalLoop) (numbers : List ℕ) → l.header ≡ h → l.members ≡ [] → IsHeader g h → AreHeadersBelow g h ls numbers → AreHeadersBelow g (h + 1) (ls ++ l ∷ []) (numbers ++ length ls ∷ [])
headers_more g h ls l numbers at none header before =
    let heads : headers_of (ls ++ l ∷ []) ≡ headers_of ls ++ h ∷ [] =
    map-append (λ (x : NaturalLoop). x.header) ls (l ∷ []) ∙ ap (λ (k : ℕ). headers_of ls ++ k ∷ []) at in
    let P : List ℕ → Type 0 = λ hs. IsStrictlyIncreasing hs in
    let Q : List ℕ → Type 0 = λ hs. All (λ k. k < h + 1) hs in
    let R : List ℕ → Type 0 = λ hs. All (IsHeader g) hs in
    let long = before.long in
    let size = length_push ls l in
    let many = length-map ls (λ (x : NaturalLoop). x.header) in
    record {
      rising = subst P (sym heads) (rising_push (headers_of ls) h before.rising before.below);
      below = subst Q (sym heads) (All-push (λ k. k < h + 1) (headers_of ls) h (All-weaker (λ k. k < h) (λ k. k < h + 1) (λ k lt. omega arith) (headers_of ls) before.below) (omega arith));
      headers = subst R (sym heads) (All-push (IsHeader g) (headers_of ls) h before.headers header);
      long = omega (arith, length_push numbers (length ls));
      numbered = λ k lt is.
          elim (cases_lt k h) [
            | inl less ↦
                let old = before.numbered k less is in
                let below = old.0 in
                let n : get_or (numbers ++ length ls ∷ []) k 0 ≡ get_or numbers k 0 = get_or_append_left numbers (length ls ∷ []) 0 k (omega arith) in
                let S : ℕ → Type 0 = λ z. (z < length (ls ++ l ∷ [])) × (get_or (headers_of (ls ++ l ∷ [])) z 0 ≡ k) in
                subst S (sym n) (omega arith, ap (λ (hs : List ℕ). get_or hs (get_or numbers k 0) 0) heads ∙ get_or_append_left (headers_of ls) (h ∷ []) 0 (get_or numbers k 0) (omega arith) ∙ old.1)
            | inr not_less ↦
                let n : get_or (numbers ++ length ls ∷ []) k 0 ≡ length ls = get_or_push numbers (length ls) 0 k (omega arith) in
                let S : ℕ → Type 0 = λ z. (z < length (ls ++ l ∷ [])) × (get_or (headers_of (ls ++ l ∷ [])) z 0 ≡ k) in
                let same : h ≡ k = omega arith in
                subst S (sym n) (omega arith, ap (λ (hs : List ℕ). get_or hs (length ls) 0) heads ∙ get_or_push (headers_of ls) h 0 (length ls) many ∙ same)
          ];
      empty = All-push (λ (x : NaturalLoop). x.members ≡ []) ls l before.empty none;
    }

pub headers_same : (g : Digraph) (h : ℕ) (ls : List NaturalLoop) (numbers : List ℕ) → (IsHeader g h → ⊥) → AreHeadersBelow g h ls numbers → AreHeadersBelow g (h + 1) ls (numbers ++ length ls ∷ [])
headers_same g h ls numbers none before =
    let long = before.long in
    record {
      rising = before.rising;
      below = All-weaker (λ k. k < h) (λ k. k < h + 1) (λ k lt. omega arith) (headers_of ls) before.below;
      headers = before.headers;
      long = omega (arith, length_push numbers (length ls));
      numbered = λ k lt is.
          elim (cases_lt k h) [
            | inl less ↦
                let n : get_or (numbers ++ length ls ∷ []) k 0 ≡ get_or numbers k 0 = get_or_append_left numbers (length ls ∷ []) 0 k (omega arith) in
                let S : ℕ → Type 0 = λ z. (z < length ls) × (get_or (headers_of ls) z 0 ≡ k) in
                subst S (sym n) (before.numbered k less is)
            | inr not_less ↦ let same : k ≡ h = omega arith in let P : ℕ → Type 0 = λ z. IsHeader g z in absurd (none (subst P same is))
          ];
      empty = before.empty;
    }

pub numbered_at : (g : Digraph) (n : ℕ) (ls : List NaturalLoop) (numbers : List ℕ) (h m : ℕ) → AreHeadersBelow g n ls numbers → h < n → IsHeader g h → m ≡ get_or numbers h m → (m < length ls) × (get_or (headers_of ls) m 0 ≡ h)
numbered_at g n ls numbers h m heads lt header is =
    let long = heads.long in
    let at : get_or numbers h 0 ≡ m = get_or_default numbers h 0 m (omega arith) ∙ sym is in
    let P : ℕ → Type 0 = λ z. (z < length ls) × (get_or (headers_of ls) z 0 ≡ h) in
    subst P at (heads.numbered h lt header)

-- setting the outer loop of loop m
module _ (m : ℕ) (ls : List NaturalLoop) (l : NaturalLoop) (o : Option ℕ) (lt : m < length ls) (is : l ≡ get_or ls m l) where
  pub headers_kept : headers_of (set ls m (record l { outer = o })) ≡ headers_of ls
  headers_kept =
      map-set (λ (y : NaturalLoop). y.header) ls m (record l { outer = o })
      ∙ ap (λ (y : ℕ). set (headers_of ls) m y) (ap (λ (y : NaturalLoop). y.header) is ∙ sym (get_or-map (λ (y : NaturalLoop). y.header) ls m l 0 lt))
      ∙ set-get_or (headers_of ls) m 0

  pub outer_set : outers_of (set ls m (record l { outer = o })) ≡ set (outers_of ls) m o
  outer_set = map-set (λ (y : NaturalLoop). y.outer) ls m (record l { outer = o })

  pub numbers_kept : (g : Digraph) (n : ℕ) (numbers : List ℕ) → AreHeadersBelow g n ls numbers → AreHeadersBelow g n (set ls m (record l { outer = o })) numbers
  numbers_kept g n numbers heads =
      let P : List ℕ → Type 0 = λ hs. IsStrictlyIncreasing hs in
      let Q : List ℕ → Type 0 = λ hs. All (λ h. h < n) hs in
      let R : List ℕ → Type 0 = λ hs. All (IsHeader g) hs in
      let S : NaturalLoop → Type 0 = λ y. y.members ≡ [] in
      let none : l.members ≡ [] = subst S (sym is) (All-get_or S ls m l lt heads.empty) in
      record {
        rising = subst P (sym headers_kept) heads.rising;
        below = subst Q (sym headers_kept) heads.below;
        headers = subst R (sym headers_kept) heads.headers;
        long = heads.long;
        numbered = λ h below header.
            let r = heads.numbered h below header in
            let inside = r.0 in
            (omega (arith, length-set ls m (record l { outer = o })), ap (λ (hs : List ℕ). get_or hs (get_or numbers h 0) 0) headers_kept ∙ r.1);
        empty = All-set S ls m (record l { outer = o }) none heads.empty;
      }
