-- The tests of a loop and of an edge by the loops that hold a number.
use Rattle.std.proofs.Common.{◌≡◌, ◌≢◌, ℕ, ◌+◌, ◌<◌, ◌≤◌, ◌⊎◌, true, List, [], length, get_or, Contains, Option, Some, None, sym, ap, subst, inl, inr, arith}
use Rattle.std.specs.Prelude.{MatchOption}
use Rattle.std.proofs.lemmas.Bool.{cases_order}
use Rattle.std.proofs.lemmas.List.Elements.{Contains-get_or}
use Rattle.lists.specs.Members.{place_of}
use Rattle.section_check.specs.Section.{CertifiedLoop}
use Rattle.section_check.specs.Placing.{IsEntryAt, SharesHeader, LiesInRegion, CrossesAnother, IsFaulty, LiesIn, EntersAside}
use Rattle.section_check.specs.Placing.IsFaulty.{shares_header, leaves_header_out, crosses_another, does_not_fit, lies_in_region}
use Rattle.section_check.specs.Least.{IsLeast}
use Rattle.section_check.proofs.LeastLemmas.{same_at, one_more}
use Rattle.section_index.specs.Numbering.{Crosses, AreNumbers, AreHolders, IsPlaced}

one_at : (ls : List CertifiedLoop) (i : ℕ) (l m : CertifiedLoop) → IsEntryAt ls i l → IsEntryAt ls i m → m ≡ l
one_at ls i l m at_l at_m = same_at ls i l m at_l (sym at_m.1)

-- the first loop that crosses another does
pub crosses_here : (ls : List CertifiedLoop) (i : ℕ) (l : CertifiedLoop) (o : Option ℕ) → IsEntryAt ls i l → IsLeast (Crosses ls) o → o ≡ Some i → CrossesAnother ls l
crosses_here ls i l o at h is =
    let P : Option ℕ → Type 0 = λ z. IsLeast (Crosses ls) z in
    let c = (subst P is h).0 in
    let Q : CertifiedLoop → Type 0 = λ m. CrossesAnother ls m in
    subst Q (one_at ls i l c.0 at c.1) c.2

-- and a loop that crosses another is the first, where no earlier one is faulty
pub first_here : (ls : List CertifiedLoop) (loads : List (Option ℕ)) (i : ℕ) (l : CertifiedLoop) (o : Option ℕ) → IsEntryAt ls i l → ((j : ℕ) (m : CertifiedLoop) → j < i → IsEntryAt ls j m → IsFaulty ls loads j m → ⊥) → IsLeast (Crosses ls) o → CrossesAnother ls l → o ≡ Some i
first_here ls loads i l None at earlier h c = absurd (h i (l, at, c))
first_here ls loads i l (Some k) at earlier h c =
    elim (cases_order k i) [
      | inl same ↦ ap (λ (z : ℕ). Some z) same
      | inr other ↦
          elim other [
            | inl less ↦ absurd (earlier k h.0.0 less h.0.1 (crosses_another h.0.2))
            | inr more ↦ absurd (h.1 i more (l, at, c))
          ]
    ]

-- what is left where a loop's header is its own, and it crosses none
pub only_regions : (ls : List CertifiedLoop) (loads : List (Option ℕ)) (i : ℕ) (l : CertifiedLoop) (o : Option ℕ) → IsEntryAt ls i l → ((j : ℕ) (m : CertifiedLoop) → j < i → IsEntryAt ls j m → IsFaulty ls loads j m → ⊥) → IsLeast (Crosses ls) o
    → (SharesHeader ls i l → ⊥) → Contains l.members l.header → (o ≡ Some i → ⊥) → IsFaulty ls loads i l → (l.region ≡ true) × (IsEntryAt loads i None ⊎ LiesInRegion ls i l)
only_regions ls loads i l o at earlier h own has apart (shares_header s) = absurd (own s)
only_regions ls loads i l o at earlier h own has apart (leaves_header_out out) = absurd (out has)
only_regions ls loads i l o at earlier h own has apart (crosses_another c) = absurd (apart (first_here ls loads i l o at earlier h c))
only_regions ls loads i l o at earlier h own has apart (does_not_fit r none) = (r, inl none)
only_regions ls loads i l o at earlier h own has apart (lies_in_region r inside) = (r, inr inside)

-- a region around a loop is among the loops that hold its header
pub around_holds : (ls : List CertifiedLoop) (ns : List ℕ) (hs : List (List ℕ)) (i p : ℕ) (l : CertifiedLoop) → AreHolders ns ls hs → IsPlaced ns l.header p → Contains l.members l.header → (r : LiesInRegion ls i l) → (j : ℕ) × (j < length (get_or hs p [])) × (get_or (get_or hs p []) j 0 ≡ r.place)
around_holds ls ns hs i p l h at has r =
    let P : ℕ → Type 0 = λ z. Contains r.other.members z in
    place_of (get_or hs p []) r.place (h.held p r.place r.other at.below r.at (subst P (sym at.is) (r.within l.header has)))

-- a loop that an edge enters aside is among those that hold its target
pub entered_holds : (ls : List CertifiedLoop) (ns : List ℕ) (hs : List (List ℕ)) (p u v : ℕ) → AreHolders ns ls hs → IsPlaced ns v p → (e : EntersAside ls u v) → (j : ℕ) × (j < length (get_or hs p [])) × (get_or (get_or hs p []) j 0 ≡ e.among.0)
entered_holds ls ns hs p u v h at e =
    let P : ℕ → Type 0 = λ z. Contains e.entered.members z in
    place_of (get_or hs p []) e.among.0 (h.held p e.among.0 e.entered at.below (e.among.1, e.among.2) (subst P (sym at.is) e.inside))

-- a loop that holds a number is one of the loops
pub holder_below : (ls : List CertifiedLoop) (ns : List ℕ) (hs : List (List ℕ)) (p j : ℕ) → AreHolders ns ls hs → p < length ns → j < length (get_or hs p []) → get_or (get_or hs p []) j 0 < length ls
holder_below ls ns hs p j h lt below = h.within p (get_or (get_or hs p []) j 0) lt (Contains-get_or (get_or hs p []) j 0 below)

-- one holder more that is no region around a loop
pub no_region_more : (ls : List CertifiedLoop) (i : ℕ) (ks : List ℕ) (n : ℕ) → ((l m : CertifiedLoop) → IsEntryAt ls i l → IsEntryAt ls (get_or ks n 0) m → (get_or ks n 0 ≢ i) × (m.region ≡ true) × LiesIn l m → ⊥)
    → ((j : ℕ) (m x : CertifiedLoop) → j < n → IsEntryAt ls (get_or ks j 0) m → IsEntryAt ls i x → (get_or ks j 0 ≢ i) × (m.region ≡ true) × LiesIn x m → ⊥)
    → (j : ℕ) (m x : CertifiedLoop) → j < n + 1 → IsEntryAt ls (get_or ks j 0) m → IsEntryAt ls i x → (get_or ks j 0 ≢ i) × (m.region ≡ true) × LiesIn x m → ⊥
no_region_more ls i ks n here before j m x lt =
    one_more n j (λ k. IsEntryAt ls (get_or ks k 0) m → IsEntryAt ls i x → (get_or ks k 0 ≢ i) × (m.region ≡ true) × LiesIn x m → ⊥) (λ k less. before k m x less) (λ at inner. here x m inner at) lt

-- where no holder of its header is a region around a loop, none is
pub no_region : (ls : List CertifiedLoop) (ns : List ℕ) (hs : List (List ℕ)) (ks : List ℕ) (i p h n : ℕ) (l : CertifiedLoop) → AreHolders ns ls hs → IsPlaced ns h p → h ≡ l.header → ks ≡ get_or hs p [] → length ks ≤ n → IsEntryAt ls i l → Contains l.members l.header
    → ((j : ℕ) (m x : CertifiedLoop) → j < n → IsEntryAt ls (get_or ks j 0) m → IsEntryAt ls i x → (get_or ks j 0 ≢ i) × (m.region ≡ true) × LiesIn x m → ⊥) → LiesInRegion ls i l → ⊥
no_region ls ns hs ks i p h n l holders at head is end here has none r =
    let P : ℕ → Type 0 = λ z. IsPlaced ns z p in
    let f = around_holds ls ns hs i p l holders (subst P head at) has r in
    let Q : List ℕ → Type 0 = λ zs. (f.0 < length zs) × (get_or zs f.0 0 ≡ r.place) in
    let g = subst Q (sym is) (f.1, f.2) in
    let less = g.0 in
    let A : ℕ → Type 0 = λ z. IsEntryAt ls z r.other in
    let B : ℕ → Type 0 = λ z. z ≢ i in
    none f.0 r.other l (omega arith) (subst A (sym g.1) r.at) here (subst B (sym g.1) r.apart, r.region, r.within)

-- where the header isn't numbered, it is no member
pub no_number : (ls : List CertifiedLoop) (ns : List ℕ) (i h : ℕ) (l : CertifiedLoop) (o : Option ℕ) → AreNumbers ls ns → o ≡ None → MatchOption o (Contains ns h → ⊥) (IsPlaced ns h) → IsEntryAt ls i l → h ≡ l.header → Contains l.members l.header → ⊥
no_number ls ns i h l o numbers none told at head has =
    let P : Option ℕ → Type 0 = λ z. MatchOption z (Contains ns h → ⊥) (IsPlaced ns h) in
    let Q : ℕ → Type 0 = λ z. Contains ns z in
    subst P none told (subst Q (sym head) (numbers.all i l l.header at has))

-- an edge to a number that is no member enters no loop
pub no_target : (ls : List CertifiedLoop) (ns : List ℕ) (u v : ℕ) (o : Option ℕ) → AreNumbers ls ns → o ≡ None → MatchOption o (Contains ns v → ⊥) (IsPlaced ns v) → EntersAside ls u v → ⊥
no_target ls ns u v o numbers none told e =
    let P : Option ℕ → Type 0 = λ z. MatchOption z (Contains ns v → ⊥) (IsPlaced ns v) in
    subst P none told (numbers.all e.among.0 e.entered v (e.among.1, e.among.2) e.inside)

-- where no holder of its target is entered aside, none is
pub none_entered : (ls : List CertifiedLoop) (ns : List ℕ) (hs : List (List ℕ)) (ks : List ℕ) (p u v n : ℕ) → AreHolders ns ls hs → IsPlaced ns v p → ks ≡ get_or hs p [] → length ks ≤ n
    → ((j : ℕ) (m : CertifiedLoop) → j < n → IsEntryAt ls (get_or ks j 0) m → (Contains m.members u → ⊥) → v ≢ m.header → ⊥) → EntersAside ls u v → ⊥
none_entered ls ns hs ks p u v n holders at is end none e =
    let f = entered_holds ls ns hs p u v holders at e in
    let Q : List ℕ → Type 0 = λ zs. (f.0 < length zs) × (get_or zs f.0 0 ≡ e.among.0) in
    let g = subst Q (sym is) (f.1, f.2) in
    let less = g.0 in
    let A : ℕ → Type 0 = λ z. IsEntryAt ls z e.entered in
    none f.0 e.entered (omega arith) (subst A (sym g.1) (e.among.1, e.among.2)) e.outside e.aside

-- a holder of its target that lacks the source is entered aside
pub entered : (ls : List CertifiedLoop) (ns : List ℕ) (hs : List (List ℕ)) (ks : List ℕ) (p u v n : ℕ) (m : CertifiedLoop) → AreHolders ns ls hs → IsPlaced ns v p → ks ≡ get_or hs p [] → n < length ks → IsEntryAt ls (get_or ks n 0) m → (Contains m.members u → ⊥) → v ≢ m.header → EntersAside ls u v
entered ls ns hs ks p u v n m holders at is below here out aside =
    let k = get_or ks n 0 in
    let Q : List ℕ → Type 0 = λ zs. Contains zs k in
    let held = holders.holds p k m at.below here (subst Q is (Contains-get_or ks n 0 below)) in
    let R : ℕ → Type 0 = λ z. Contains m.members z in
    record { entered = m; among = (k, here.0, here.1); inside = subst R at.is held; outside = out; aside = aside }

pub holder_among : (ls : List CertifiedLoop) (ns : List ℕ) (hs : List (List ℕ)) (ks : List ℕ) (p j : ℕ) → AreHolders ns ls hs → p < length ns → ks ≡ get_or hs p [] → j < length ks → get_or ks j 0 < length ls
holder_among ls ns hs ks p j h below is lt =
    let P : List ℕ → Type 0 = λ zs. j < length zs → get_or zs j 0 < length ls in
    subst P (sym is) (λ less. holder_below ls ns hs p j h below less) lt

-- a loop's header is its member
pub own_header : (ls : List CertifiedLoop) (i h : ℕ) (ms : List ℕ) (l r : CertifiedLoop) → IsEntryAt ls i l → r ≡ get_or ls i r → ms ≡ r.members → h ≡ r.header → Contains ms h → Contains l.members l.header
own_header ls i h ms l r at is members header has =
    let P : ℕ → Type 0 = λ z. Contains ms z in
    let Q : List ℕ → Type 0 = λ zs. Contains zs r.header in
    let R : CertifiedLoop → Type 0 = λ m. Contains m.members m.header in
    subst R (same_at ls i l r at is) (subst Q members (subst P header has))
