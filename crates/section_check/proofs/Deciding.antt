-- What the tests of an edge decide.
use Rattle.std.proofs.Common.{◌≡◌, ℕ, ℤ, pos, Bool, IsTrue, List, Option, Some, ◌↔◌, slice_index, sym, subst, arith}
use Rattle.std.specs.Prelude.{◌+ℤ◌, ◌≤ℤ◌, ◌<ℤ◌, ◌^◌, ◌<◌}
use lib.Signed.{le_z}
use mir.Val.{to_z, of_z}
use mir.Syntax.{w128}
use Rattle.std.proofs.lemmas.Int.{ints}
use Rattle.section_check.specs.Bounded.{holds}
use Rattle.section_check.specs.Section.{Certified, PricedLoop, headed_by, potential, IsPotential}
use Rattle.section_check.specs.Conditions.{DescendsTo, Descends, DescendsFrom, EdgeHolds}

pub le_as : (T : Type 0) (x y x' y' : ℤ) → x ≡ x' → y ≡ y' → (T ↔ (x ≤ℤ y)) → T ↔ (x' ≤ℤ y')
le_as T x y x' y' ex ey h = let P : ℤ → Type 0 = λ z. T ↔ (z ≤ℤ y) in let Q : ℤ → Type 0 = λ z. T ↔ (x' ≤ℤ z) in subst Q ey (subst P ex h)

pub edge_when : (costs : List ℕ) (c : Certified) (ls : List PricedLoop) (u v : ℕ) (p q : ℤ) (o : Option PricedLoop) (T : Type 0) → headed_by v ls ≡ o → potential c.nodes u ≡ Some p → potential c.nodes v ≡ Some q
    → (T ↔ Descends o (slice_index costs u) u p q) → T ↔ EdgeHolds costs c ls u v
edge_when costs c ls u v p q o T headed above below h =
    let P : Option PricedLoop → Type 0 = λ x. T ↔ DescendsFrom x (slice_index costs u) u (potential c.nodes u) (potential c.nodes v) in
    let Q : Option ℤ → Type 0 = λ x. T ↔ DescendsFrom o (slice_index costs u) u x (potential c.nodes v) in
    let R : Option ℤ → Type 0 = λ x. T ↔ DescendsFrom o (slice_index costs u) u (Some p) x in
    subst P (sym headed) (subst Q (sym above) (subst R (sym below) h))

pub descends_when : (l : PricedLoop) (cost u : ℕ) (p q : ℤ) (b : Bool) (T : Type 0) → holds l.certified.members u ≡ b → (T ↔ DescendsTo b l cost p q) → T ↔ Descends (Some l) cost u p q
descends_when l cost u p q b T is h = let P : Bool → Type 0 = λ x. T ↔ DescendsTo x l cost p q in subst P (sym is) h

le_from : (x y : ℤ) → IsTrue (le_z x y) → x ≤ℤ y
le_from x y t = grind (arith, ints)

le_to : (x y : ℤ) → x ≤ℤ y → IsTrue (le_z x y)
le_to x y h = grind (arith, ints)

abbrev pub wrapped : ℤ → ℤ
wrapped z = to_z w128 (of_z w128 z)

-- the sums of a test of an edge don't wrap
pub covered : (above below fee from_cost from_iteration : ℤ) (cost iteration : ℕ) → IsPotential above → IsPotential below → pos 0 ≤ℤ fee → fee <ℤ pos (2 ^ 97) → cost < 2 ^ 64 → iteration < 2 ^ 64 → from_cost ≡ pos cost → from_iteration ≡ pos iteration
    → IsTrue (le_z (wrapped (wrapped (wrapped from_cost +ℤ wrapped below) +ℤ wrapped fee)) (wrapped (wrapped above +ℤ wrapped from_iteration))) ↔ (((pos cost +ℤ below) +ℤ fee) ≤ℤ (above +ℤ pos iteration))
covered above below fee from_cost from_iteration cost iteration ha hb least most small_cost small_iteration ec et =
    let x = wrapped (wrapped (wrapped from_cost +ℤ wrapped below) +ℤ wrapped fee) in
    let y = wrapped (wrapped above +ℤ wrapped from_iteration) in
    let ex : x ≡ (pos cost +ℤ below) +ℤ fee = omega (arith, ints) in
    let ey : y ≡ above +ℤ pos iteration = omega (arith, ints) in
    le_as (IsTrue (le_z x y)) x y ((pos cost +ℤ below) +ℤ fee) (above +ℤ pos iteration) ex ey (le_from x y, le_to x y)
