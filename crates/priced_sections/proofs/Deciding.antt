-- When an edge or an exit pays.
use Rattle.std.proofs.Common.{◌≡◌, ℕ, ℤ, pos, Bool, true, false, cond, IsTrue, Option, Some, None, refl, sym, subst, arith}
use Rattle.std.specs.Prelude.{◌+ℤ◌, ◌-ℤ◌, ◌≤ℤ◌, ◌↔◌, option_map}
use lib.Signed.{le_z}
use mir.Val.{to_z, of_z}
use mir.Syntax.{w128}
use Rattle.std.proofs.lemmas.Int.{ints}
use Rattle.section_check.specs.Bounded.{holds}
use Rattle.section_check.specs.Section.{PricedLoop, fee}
use Rattle.priced_sections.specs.Paid.{PaysTo, Pays, PaysFrom}
use Rattle.priced_sections.specs.Views.{price_along}

pays_to : (b : Bool) (l : PricedLoop) (cost back : ℕ) (p q left : ℤ) → left ≡ (p +ℤ pos back) -ℤ pos cost
    → ((q +ℤ cond b (pos 0 -ℤ pos l.certified.iteration_cost) (pos (fee l))) ≤ℤ left) ↔ PaysTo b l cost back p q
pays_to true l cost back p q left is = ((λ h. omega (arith, ints)), (λ h. omega (arith, ints)))
pays_to false l cost back p q left is = ((λ h. omega (arith, ints)), (λ h. omega (arith, ints)))

pays : (o : Option PricedLoop) (cost back u : ℕ) (p q left : ℤ) → left ≡ (p +ℤ pos back) -ℤ pos cost → ((q +ℤ price_along o u) ≤ℤ left) ↔ Pays o cost back u p q
pays None cost back u p q left is = ((λ h. omega (arith, ints)), (λ h. omega (arith, ints)))
pays (Some l) cost back u p q left is = pays_to (holds l.certified.members u) l cost back p q left is

-- what a node leaves tells its potential
left_from : (a : Option ℤ) (back cost : ℕ) (left : ℤ) → option_map (λ p. (p +ℤ pos back) -ℤ pos cost) a ≡ Some left → (p : ℤ) × (a ≡ Some p) × (left ≡ (p +ℤ pos back) -ℤ pos cost)
left_from None back cost left is = absurd (let bad : ⊥ = cc in bad)
left_from (Some p) back cost left is = (p, refl, cc)

pub pays_when : (o : Option PricedLoop) (cost back u : ℕ) (a b : Option ℤ) (q left price : ℤ) (T : Type 0) → b ≡ Some q → option_map (λ p. (p +ℤ pos back) -ℤ pos cost) a ≡ Some left → price ≡ price_along o u → (T ↔ ((q +ℤ price) ≤ℤ left))
    → T ↔ PaysFrom o cost back u a b
pays_when o cost back u a b q left price T below leaves is h =
    let from = left_from a back cost left leaves in
    let P : Option ℤ → Type 0 = λ z. T ↔ PaysFrom o cost back u z b in
    let Q : Option ℤ → Type 0 = λ z. T ↔ PaysFrom o cost back u (Some from.0) z in
    let R : ℤ → Type 0 = λ z. T ↔ ((q +ℤ z) ≤ℤ left) in
    let k = subst R is h in
    let e = pays o cost back u from.0 q left from.2 in
    subst P (sym from.1) (subst Q (sym below) ((λ t. e.0 (k.0 t)), (λ x. k.1 (e.1 x))))

le_as : (T : Type 0) (x y x' y' : ℤ) → x ≡ x' → y ≡ y' → (T ↔ (x ≤ℤ y)) → T ↔ (x' ≤ℤ y')
le_as T x y x' y' ex ey h = let P : ℤ → Type 0 = λ z. T ↔ (z ≤ℤ y) in let Q : ℤ → Type 0 = λ z. T ↔ (x' ≤ℤ z) in subst Q ey (subst P ex h)

le_from : (x y : ℤ) → IsTrue (le_z x y) → x ≤ℤ y
le_from x y t = grind (arith, ints)

le_to : (x y : ℤ) → x ≤ℤ y → IsTrue (le_z x y)
le_to x y h = grind (arith, ints)

-- a number of 128 bits
abbrev pub wrapped : ℤ → ℤ
wrapped z = to_z w128 (of_z w128 z)

-- the sums of a test of an edge don't wrap
pub tested : (below price left x y : ℤ) → x ≡ below +ℤ price → y ≡ left → IsTrue (le_z x y) ↔ ((below +ℤ price) ≤ℤ left)
tested below price left x y ex ey = le_as (IsTrue (le_z x y)) x y (below +ℤ price) left ex ey (le_from x y, le_to x y)
