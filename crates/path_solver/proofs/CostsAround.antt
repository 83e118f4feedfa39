-- What iterations of some of the loops cost at most together.
use Rattle.std.proofs.Common.{◌≡◌, ℕ, zero, suc, ◌+◌, ◌≤◌, Bool, true, false, cond, List, [], ◌∷◌, get_or, Contains, refl, ap, ◌∙◌, arith}
use Rattle.std.proofs.lemmas.Bool.{cond-true, cond-false, false≢true}
use Rattle.lists.specs.Members.{at_head, in_tail}
use Rattle.loop_nest.specs.Nest.{NaturalLoop}
use Rattle.section_check.specs.Placing.{IsEntryAt}
use Rattle.section_check.specs.Bounded.{holds}
use Rattle.section_check.proofs.Elements.{holds_from_contains}
use Rattle.path_solver.specs.Totals.{iteration_costs_around}

-- one iteration of each loop that fits
abbrev pub reserve_where : (NaturalLoop → Bool) → List NaturalLoop → List ℕ → ℕ
reserve_where b [] iteration_costs = 0
reserve_where b (l ∷ ls) [] = 0
reserve_where b (l ∷ ls) (iteration_cost ∷ iteration_costs) = cond (b l) iteration_cost 0 + reserve_where b ls iteration_costs

pub around_where : (loops : List NaturalLoop) (iteration_costs : List ℕ) (u : ℕ) → iteration_costs_around loops iteration_costs u ≡ reserve_where (λ l. holds l.members u) loops iteration_costs
around_where [] iteration_costs u = refl
around_where (l ∷ ls) [] u = refl
around_where (l ∷ ls) (w ∷ ws) u = ap (λ (k : ℕ). cond (holds l.members u) w 0 + k) (around_where ls ws u)

one_grows : (a b : Bool) (w : ℕ) → (a ≡ true → b ≡ true) → cond a w 0 ≤ cond b w 0
one_grows true true w f = omega arith
one_grows true false w f = absurd (false≢true (f refl))
one_grows false b w f = omega arith

-- where more loops fit, they cost at most no less
pub reserve_grows : (a b : NaturalLoop → Bool) (loops : List NaturalLoop) (iteration_costs : List ℕ) → ((l : NaturalLoop) → Contains loops l → a l ≡ true → b l ≡ true) → reserve_where a loops iteration_costs ≤ reserve_where b loops iteration_costs
reserve_grows a b [] iteration_costs more = omega arith
reserve_grows a b (l ∷ ls) [] more = omega arith
reserve_grows a b (l ∷ ls) (w ∷ ws) more =
    let here = one_grows (a l) (b l) w (more l (at_head l ls)) in
    let later = reserve_grows a b ls ws (λ k has. more k (in_tail l k ls has)) in
    omega arith

-- and where loop i fits that didn't, they cost at most more by an iteration of it
pub reserve_grows_by : (a b : NaturalLoop → Bool) (loops : List NaturalLoop) (iteration_costs : List ℕ) (i : ℕ) (l : NaturalLoop) → IsEntryAt loops i l → a l ≡ false → b l ≡ true → ((k : NaturalLoop) → Contains loops k → a k ≡ true → b k ≡ true)
    → reserve_where a loops iteration_costs + get_or iteration_costs i 0 ≤ reserve_where b loops iteration_costs
reserve_grows_by a b [] iteration_costs i l at no' yes' more = let lt = at.0 in absurd (omega arith)
reserve_grows_by a b (k ∷ ls) [] i l at no' yes' more = omega arith
reserve_grows_by a b (k ∷ ls) (w ∷ ws) zero l at no' yes' more =
    let later = reserve_grows a b ls ws (λ j has. more j (in_tail k j ls has)) in
    let before = cond-false (a k) w 0 (ap a at.1 ∙ no') in
    let after = cond-true (b k) w 0 (ap b at.1 ∙ yes') in
    omega arith
reserve_grows_by a b (k ∷ ls) (w ∷ ws) (suc i) l at no' yes' more =
    let lt = at.0 in
    let here = one_grows (a k) (b k) w (more k (at_head k ls)) in
    let later = reserve_grows_by a b ls ws i l (omega arith, at.1) no' yes' (λ j has. more j (in_tail k j ls has)) in
    omega arith

-- an iteration of one loop around a node costs at most no more than those of all
pub iteration_cost_of_one : (loops : List NaturalLoop) (iteration_costs : List ℕ) (i : ℕ) (l : NaturalLoop) (u : ℕ) → IsEntryAt loops i l → Contains l.members u → get_or iteration_costs i 0 ≤ iteration_costs_around loops iteration_costs u
iteration_cost_of_one loops iteration_costs i l u at inside =
    let grows = reserve_grows_by (λ k. false) (λ k. holds k.members u) loops iteration_costs i l at refl (holds_from_contains l.members u inside) (λ k has no'. absurd (false≢true no')) in
    let is = around_where loops iteration_costs u in
    omega arith
