-- The pairs of loops and the places of their members, and the loops that hold a number.
use Rattle.std.proofs.Common.{◌≡◌, ℕ, ◌+◌, ◌<◌, List, [], ◌++◌, length, get_or, map, Contains, sym, ap, subst, inl, inr, arith}
use Rattle.std.specs.Prelude.{All}
use Rattle.std.proofs.lemmas.Bool.{cases_lt}
use Rattle.std.proofs.lemmas.List.Elements.{Contains-get_or, Contains-append_left, Contains-append_right, Contains-append_cases}
use Rattle.lists.specs.Members.{map_contains, nil_contains}
use Rattle.loop_nest.specs.Digraph.{AreSources}
use Rattle.section_index.specs.Family.{set_at}
use Rattle.loop_nest.proofs.Elements.{from_map}
use Rattle.loop_nest.proofs.Searching.{sources_has, from_sources}
use Rattle.section_check.specs.Section.{CertifiedLoop}
use Rattle.section_check.proofs.Headed.{itself_at}
use Rattle.section_index.specs.Numbering.{AreNumbers, ArePlaced, ArePairs, AreHolders}
use Rattle.section_index.proofs.Crossed.{member_at, place_back, below_all}
use Rattle.section_index.proofs.Ranks.{no_loop}

-- the pairs of the first n sets
pub record ArePairsBelow (ss : List (List ℕ)) (n : ℕ) (es : List (ℕ × ℕ)) : Type 0 where
  pub from : (i p : ℕ) → Contains es (i, p) → (i < n) × Contains (set_at ss i) p
  pub all : (i p : ℕ) → i < n → Contains (set_at ss i) p → Contains es (i, p)

pub pairs_none : (ss : List (List ℕ)) → ArePairsBelow ss 0 []
pairs_none ss = record { from = λ i p has. absurd (nil_contains (i, p) has); all = λ i p lt. absurd (omega arith) }

pub pairs_more : (ss : List (List ℕ)) (n : ℕ) (ps : List ℕ) (es fs : List (ℕ × ℕ)) → ps ≡ set_at ss n → fs ≡ es ++ map (λ p. (n, p)) ps → ArePairsBelow ss n es → ArePairsBelow ss (n + 1) fs
pairs_more ss n ps es fs is made h =
    let more : List (ℕ × ℕ) = map (λ p. (n, p)) ps in
    let F : List (ℕ × ℕ) → Type 0 = λ zs. ArePairsBelow ss (n + 1) zs in
    let Q : List ℕ → ℕ → Type 0 = λ zs p. Contains zs p in
    subst F (sym made) (record {
      from = λ i p has.
          elim (Contains-append_cases es more (i, p) has) [
            | inl old ↦ let r = h.from i p old in let lt = r.0 in (omega arith, r.1)
            | inr new ↦
                let r = from_map (λ (q : ℕ). (n, q)) ps (i, p) new in
                let e : n ≡ i = ap (λ (z : ℕ × ℕ). z.0) r.2 in
                let f : r.0 ≡ p = ap (λ (z : ℕ × ℕ). z.1) r.2 in
                let A : ℕ → Type 0 = λ k. Contains (set_at ss k) p in
                let B : List ℕ → Type 0 = λ zs. Contains zs p in
                let C : ℕ → Type 0 = λ k. Contains ps k in
                (omega arith, subst A e (subst B is (subst C f r.1)))
          ];
      all = λ i p lt has.
          elim (cases_lt i n) [
            | inl less ↦ Contains-append_left es more (i, p) (h.all i p less has)
            | inr ge ↦
                let e : n ≡ i = omega arith in
                let A : ℕ → Type 0 = λ k. Contains (set_at ss k) p in
                let B : List ℕ → Type 0 = λ zs. Contains zs p in
                let here : Contains ps p = subst B (sym is) (subst A (sym e) has) in
                let C : ℕ → Type 0 = λ k. Contains (es ++ more) (k, p) in
                subst C e (Contains-append_right es more (n, p) (map_contains (λ (q : ℕ). (n, q)) ps p here))
          ];
    })

pub pairs_all : (ss : List (List ℕ)) (n : ℕ) (es : List (ℕ × ℕ)) → n ≡ length ss → ArePairsBelow ss n es → ArePairs ss es
pairs_all ss n es same h =
    let P : ℕ → Type 0 = λ k. ArePairsBelow ss k es in
    let g = subst P same h in
    record { from = g.from; all = g.all }

-- each pair's place is below the numbers' count
pub pairs_below : (ss : List (List ℕ)) (size : ℕ) (es : List (ℕ × ℕ)) → ((i p : ℕ) → i < length ss → Contains (set_at ss i) p → p < size) → ArePairs ss es → All (λ e. e.1 < size) es
pairs_below ss size es below h = λ k d lt.
    let r = h.from (get_or es k d).0 (get_or es k d).1 (Contains-get_or es k d lt) in
    below (get_or es k d).0 (get_or es k d).1 r.0 r.1

pub pairs_fit : (ls : List CertifiedLoop) (ns : List ℕ) (ss : List (List ℕ)) (es : List (ℕ × ℕ)) → ArePlaced ns ls ss → ArePairs ss es → All (λ e. e.1 < length ns) es
pairs_fit ls ns ss es placed h =
    pairs_below ss (length ns) es
    (λ i p lt has. let long = placed.long in below_all ns (get_or ls i no_loop).members (set_at ss i) (placed.each i (get_or ls i no_loop) (itself_at ls i no_loop (omega arith))) p has) h

pub are_holders : (ls : List CertifiedLoop) (ns : List ℕ) (ss hs : List (List ℕ)) (es : List (ℕ × ℕ)) → AreNumbers ls ns → ArePlaced ns ls ss → ArePairs ss es → AreSources es (length ns) hs → AreHolders ns ls hs
are_holders ls ns ss hs es numbers placed pairs h = record {
  long = h.long;
  within = λ p i lt has.
      let P : List ℕ → Type 0 = λ zs. Contains zs i in
      let long = placed.long in
      let r = (pairs.from i p (from_sources es i p (subst P (h.each p lt) has))).0 in
      omega arith;
  holds = λ p i l lt at has.
      let P : List ℕ → Type 0 = λ zs. Contains zs i in
      member_at ns l.members (set_at ss i) (placed.each i l at) p (pairs.from i p (from_sources es i p (subst P (h.each p lt) has))).1;
  held = λ p i l lt at has.
      let P : List ℕ → Type 0 = λ zs. Contains zs i in
      let long = placed.long in
      let below = at.0 in
      subst P (sym (h.each p lt)) (sources_has es i p (pairs.all i p (omega arith) (place_back ls ns l.members (set_at ss i) numbers (placed.each i l at) p lt has)));
}
