-- Members among numbers, by their places.
use Rattle.std.proofs.Common.{◌≡◌, ℕ, ◌+◌, ◌<◌, ◌≤◌, eqb, List, [], ◌∷◌, ◌++◌, length, get_or, Contains, IsPermutation, IsSorted, refl, sym, ap, ◌∙◌, subst, inl, inr, arith}
use Rattle.std.specs.Prelude.{All, Option, Some, None, Result, Ok, Err, IfOk, is_some, false}
use Rattle.std.specs.List.{dedup}
use Rattle.std.specs.List.Sorted.{IsStrictlyIncreasing}
use Rattle.std.specs.Ordering.{nat_cmp}
use Rattle.std.proofs.lemmas.Bool.{cases_lt}
use Rattle.std.proofs.lemmas.List.{get_or_default, get_or_append_left, get_or_push, length_push}
use Rattle.std.proofs.lemmas.List.Elements.{All-get_or, Contains-append_left, Contains-append_right}
use Rattle.std.proofs.lemmas.List.Kept.{Contains-dedup_nat}
use Rattle.std.proofs.lemmas.List.Sorted.{Contains-permutation}
use Rattle.std.proofs.lemmas.Map.Keys.{IsStrictlyIncreasing-dedup}
use Rattle.lists.specs.Members.{contains_at}
use Rattle.section_index.specs.Family.{AreSets, set_at}
use Rattle.section_check.specs.Section.{CertifiedLoop, MembersRise}
use Rattle.section_check.specs.Placing.{IsEntryAt}
use Rattle.section_check.specs.Least.{IsLeast, IsMemberBeyond}
use Rattle.section_check.proofs.LeastLemmas.{same_at}
use Rattle.section_check.proofs.Headed.{itself_at}
use Rattle.section_index.specs.Numbering.{AreNodes, AreNumbers, ArePlaces, ArePlaced}
use Rattle.section_index.proofs.Elements.{lower_place}

pub nodes_none : AreNodes 0 []
nodes_none = record { long = refl; each = λ k lt. absurd (omega arith) }

pub nodes_more : (ns : List ℕ) (u : ℕ) → AreNodes u ns → AreNodes (u + 1) (ns ++ u ∷ [])
nodes_more ns u h =
    let long = h.long in
    let size = length_push ns u in
    record {
      long = omega arith;
      each = λ k lt.
          elim (cases_lt k u) [
            | inl less ↦
                let at : get_or (ns ++ u ∷ []) k 0 ≡ get_or ns k 0 = get_or_append_left ns (u ∷ []) 0 k (omega arith) in
                at ∙ h.each k less
            | inr ge ↦
                let at : get_or (ns ++ u ∷ []) k 0 ≡ u = get_or_push ns u 0 k (omega arith) in
                let same : u ≡ k = omega arith in
                at ∙ same
          ];
    }

-- all nodes, where no member is past them
pub nodes_are_numbers : (ls : List CertifiedLoop) (n : ℕ) (ns : List ℕ) → AreNodes n ns → IsLeast (IsMemberBeyond n ls) None → AreNumbers ls ns
nodes_are_numbers ls n ns h none = record {
  rising = λ k lt.
      let long = h.long in
      let a = h.each k (omega arith) in
      let b = h.each (k + 1) (omega arith) in
      omega arith;
  all = λ i l x at has.
      elim (cases_lt x n) [
        | inl below ↦ let long = h.long in contains_at ns x x (omega arith) (h.each x below)
        | inr past ↦ absurd (none x (record { holder = l; among = (i, at.0, at.1); inside = has }, past))
      ];
}

-- the members of the first i loops are among these
pub among_more : (ls : List CertifiedLoop) (i : ℕ) (r : CertifiedLoop) (ms us : List ℕ) → r ≡ get_or ls i r → us ≡ r.members → ((j : ℕ) (l : CertifiedLoop) (x : ℕ) → j < i → IsEntryAt ls j l → Contains l.members x → Contains ms x)
    → (j : ℕ) (l : CertifiedLoop) (x : ℕ) → j < i + 1 → IsEntryAt ls j l → Contains l.members x → Contains (ms ++ us) x
among_more ls i r ms us is members h j l x lt at has =
    elim (cases_lt j i) [
      | inl less ↦ Contains-append_left ms us x (h j l x less at has)
      | inr ge ↦
          let e : j ≡ i = omega arith in
          let P : ℕ → Type 0 = λ k. IsEntryAt ls k l in
          let same : r ≡ l = same_at ls i l r (subst P e at) is in
          let Q : List ℕ → Type 0 = λ zs. Contains zs x in
          Contains-append_right ms us x (subst Q (sym (members ∙ ap (λ (k : CertifiedLoop). k.members) same)) has)
    ]

pub members_are_numbers : (ls : List CertifiedLoop) (i : ℕ) (ms sorted ns : List ℕ) → length ls ≤ i → ((j : ℕ) (l : CertifiedLoop) (x : ℕ) → j < i → IsEntryAt ls j l → Contains l.members x → Contains ms x) → IsPermutation ms sorted → IsSorted nat_cmp sorted → ns ≡ dedup eqb sorted → AreNumbers ls ns
members_are_numbers ls i ms sorted ns all h moved rise is =
    let P : List ℕ → Type 0 = λ zs. AreNumbers ls zs in
    subst P (sym is) (record {
      rising = IsStrictlyIncreasing-dedup sorted rise;
      all = λ j l x at has. let lt = at.0 in Contains-dedup_nat sorted x (Contains-permutation ms sorted x moved (h j l x (omega arith) at has));
    })

-- members that rise have places that rise
pub places_rise : (ns ms ps : List ℕ) → IsStrictlyIncreasing ns → IsStrictlyIncreasing ms → ArePlaces ns ms ps → IsStrictlyIncreasing ps
places_rise ns ms ps rise up h = λ k lt.
    let long = h.long in
    let a = h.each k (omega arith) in
    let b = h.each (k + 1) (omega arith) in
    let less = up k (omega arith) in
    let at_a = a.is in
    let at_b = b.is in
    lower_place ns rise (get_or ps k 0) (get_or ps (k + 1) 0) a.below b.below (omega arith)

pub places_below : (ns ms ps : List ℕ) → ArePlaces ns ms ps → All (λ p. p < length ns) ps
places_below ns ms ps h = λ k d lt.
    let long = h.long in
    let at = get_or_default ps k d 0 lt in
    let below = (h.each k (omega arith)).below in
    omega arith

-- a loop, to name where none is known
pub no_loop : CertifiedLoop
no_loop = record { header = 0; iteration_cost = 0; members = []; region = false }

pub are_sets : (ns : List ℕ) (ls : List CertifiedLoop) (ss : List (List ℕ)) → AreNumbers ls ns → MembersRise ls → ArePlaced ns ls ss → (n : ℕ) → n ≡ length ns → AreSets (record { sets = ss; size = n })
are_sets ns ls ss numbers rise h n is = record {
  rising = λ k d lt.
      let long = h.long in
      let at = get_or_default ss k d [] lt in
      let P : List ℕ → Type 0 = λ zs. IsStrictlyIncreasing zs in
      subst P (sym at) (rising_at k (omega arith));
  below = λ k d lt.
      let long = h.long in
      let at = get_or_default ss k d [] lt in
      let P : List ℕ → Type 0 = λ zs. All (λ x. x < n) zs in
      let Q : ℕ → Type 0 = λ m. All (λ x. x < m) (set_at ss k) in
      subst P (sym at) (subst Q (sym is) (below_at k (omega arith)));
} where
  rising_at : (k : ℕ) → k < length ls → IsStrictlyIncreasing (set_at ss k)
  rising_at k lt =
      let l = get_or ls k no_loop in
      places_rise ns l.members (set_at ss k) numbers.rising (All-get_or (λ (m : CertifiedLoop). IsStrictlyIncreasing m.members) ls k no_loop lt rise) (h.each k l (itself_at ls k no_loop lt))

  below_at : (k : ℕ) → k < length ls → All (λ p. p < length ns) (set_at ss k)
  below_at k lt = let l = get_or ls k no_loop in places_below ns l.members (set_at ss k) (h.each k l (itself_at ls k no_loop lt))

-- facts of a value where there is one
pub ok_then : {T E : Type 0} (r : Result T E) (P Q : T → Type 0) → ((x : T) → P x → Q x) → IfOk r P → IfOk r Q
ok_then (Ok x) P Q f h = f x h
ok_then (Err e) P Q f h = h

pub none_is_least : (P : ℕ → Type 0) (o : Option ℕ) → is_some o ≡ false → IsLeast P o → IsLeast P None
none_is_least P None is h = h
none_is_least P (Some n) is h = let bad : ⊥ = cc in absurd bad

-- the places of one loop's members more
pub placed_more : (ns : List ℕ) (ls : List CertifiedLoop) (xs : List (List ℕ)) (ps us : List ℕ) (i : ℕ) (r : CertifiedLoop) → length xs ≡ i → r ≡ get_or ls i r → us ≡ r.members → ArePlaces ns us ps
    → ((j : ℕ) (m : CertifiedLoop) → j < i → IsEntryAt ls j m → ArePlaces ns m.members (set_at xs j)) → (j : ℕ) (m : CertifiedLoop) → j < i + 1 → IsEntryAt ls j m → ArePlaces ns m.members (set_at (xs ++ ps ∷ []) j)
placed_more ns ls xs ps us i r long is members here before j m lt at =
    elim (cases_lt j i) [
      | inl less ↦
          let P : List ℕ → Type 0 = λ zs. ArePlaces ns m.members zs in
          let e : get_or (xs ++ ps ∷ []) j [] ≡ get_or xs j [] = get_or_append_left xs (ps ∷ []) [] j (omega arith) in
          subst P (sym e) (before j m less at)
      | inr ge ↦
          let same : j ≡ i = omega arith in
          let e : get_or (xs ++ ps ∷ []) j [] ≡ ps = get_or_push xs ps [] j (omega arith) in
          let A : ℕ → Type 0 = λ k. IsEntryAt ls k m in
          let f : us ≡ m.members = members ∙ ap (λ (l : CertifiedLoop). l.members) (same_at ls i m r (subst A same at) is) in
          let P : List ℕ → Type 0 = λ zs. ArePlaces ns m.members zs in
          let Q : List ℕ → Type 0 = λ zs. ArePlaces ns zs ps in
          subst P (sym e) (subst Q f here)
    ]
