-- What a walk costs as it is prolonged at its end.
use Rattle.std.proofs.Common.{◌≡◌, ℕ, ◌+◌, ◌*◌, ◌≤◌, Bool, true, false, cond, not, ◌&&◌, List, [], ◌∷◌, ◌++◌, get_or, sum_by, Contains, refl, ap, ◌∙◌, arith, mul-le-mul_left}
use Rattle.std.proofs.lemmas.Bool.{and_from}
use Rattle.std.proofs.lemmas.List.Sums.{sum_by-cons, sum_by-append, sum_by_push, sum_by-le-sum_by, get_or-le-sum_by}
use Rattle.section_check.specs.Bounded.{BoundedLoop, holds, entries_from, cost_of_nodes, later_entries, cost_of_iteration}
use Rattle.section_check.proofs.Elements.{holds_from_contains}

-- whether a set of nodes holds the last of some nodes
abbrev held_after : Bool → List ℕ → List ℕ → Bool
held_after inside members [] = inside
held_after inside members (u ∷ ns) = held_after (holds members u) members ns

held_push : (inside : Bool) (members first : List ℕ) (u : ℕ) → held_after inside members (first ++ u ∷ []) ≡ holds members u
held_push inside members [] u = refl
held_push inside members (f ∷ first) u = held_push (holds members f) members first u

entries_append : (inside : Bool) (members xs ys : List ℕ) → entries_from inside members (xs ++ ys) ≡ entries_from inside members xs + entries_from (held_after inside members xs) members ys
entries_append inside members [] ys = omega arith
entries_append inside members (x ∷ xs) ys = let rest = entries_append (holds members x) members xs ys in omega arith

entries_behind : (inside : Bool) (members first ys : List ℕ) (u : ℕ) → entries_from inside members ((first ++ u ∷ []) ++ ys) ≡ entries_from inside members (first ++ u ∷ []) + entries_from (holds members u) members ys
entries_behind inside members first ys u =
    entries_append inside members (first ++ u ∷ []) ys
    ∙ ap (λ (b : Bool). entries_from inside members (first ++ u ∷ []) + entries_from b members ys) (held_push inside members first u)

-- what nodes cost, and the entries into loops that a walk makes among them, where it may stand in loops before
abbrev pub cost_from : List ℕ → List BoundedLoop → (BoundedLoop → Bool) → List ℕ → ℕ
cost_from costs loops inside ns = cost_of_nodes costs ns + sum_by (λ l. l.load * entries_from (inside l) l.members ns) loops

abbrev pub held_at : ℕ → BoundedLoop → Bool
held_at u l = holds l.members u

entries_costs : (loops : List BoundedLoop) (inside : BoundedLoop → Bool) (first ys : List ℕ) (u : ℕ)
    → sum_by (λ l. l.load * entries_from (inside l) l.members ((first ++ u ∷ []) ++ ys)) loops
    ≡ sum_by (λ l. l.load * entries_from (inside l) l.members (first ++ u ∷ [])) loops + sum_by (λ l. l.load * entries_from (held_at u l) l.members ys) loops
entries_costs [] inside first ys u = refl
entries_costs (l ∷ ls) inside first ys u =
    let rest = entries_costs ls inside first ys u in
    let here = ap (λ (k : ℕ). l.load * k) (entries_behind (inside l) l.members first ys u) in
    let a = sum_by-cons (λ (k : BoundedLoop). k.load * entries_from (inside k) k.members ((first ++ u ∷ []) ++ ys)) l ls in
    let b = sum_by-cons (λ (k : BoundedLoop). k.load * entries_from (inside k) k.members (first ++ u ∷ [])) l ls in
    let c = sum_by-cons (λ (k : BoundedLoop). k.load * entries_from (held_at u k) k.members ys) l ls in
    omega arith

-- behind a node, a walk costs what it cost with that node, and what follows
pub cost_append : (costs : List ℕ) (loops : List BoundedLoop) (inside : BoundedLoop → Bool) (first ys : List ℕ) (u : ℕ)
    → cost_from costs loops inside ((first ++ u ∷ []) ++ ys) ≡ cost_from costs loops inside (first ++ u ∷ []) + cost_from costs loops (held_at u) ys
cost_append costs loops inside first ys u =
    let a = entries_costs loops inside first ys u in
    let b = sum_by-append (λ (x : ℕ). get_or costs x 0) (first ++ u ∷ []) ys in
    omega arith

-- a node costs its own, and the load of a loop that is entered there
pub cost_enters : (costs : List ℕ) (loops : List BoundedLoop) (inside : BoundedLoop → Bool) (u : ℕ) (l : BoundedLoop) → Contains loops l → Contains l.members u → inside l ≡ false
    → get_or costs u 0 + l.load ≤ cost_from costs loops inside (u ∷ [])
cost_enters costs loops inside u l has member out =
    let f : BoundedLoop → ℕ = λ k. k.load * entries_from (inside k) k.members (u ∷ []) in
    let part = get_or-le-sum_by f loops has.0 l has.1 in
    let same = ap f has.2 in
    let test : (holds l.members u && not (inside l)) ≡ true = and_from (holds l.members u) (not (inside l)) (holds_from_contains l.members u member) (ap not out) in
    let one : entries_from (inside l) l.members (u ∷ []) ≡ 1 = ap (λ (b : Bool). cond b 1 0 + 0) test in
    let all = ap (λ (n : ℕ). l.load * n) one in
    omega arith

pub cost_of_node : (costs : List ℕ) (loops : List BoundedLoop) (inside : BoundedLoop → Bool) (u : ℕ) → get_or costs u 0 ≤ cost_from costs loops inside (u ∷ [])
cost_of_node costs loops inside u = omega arith

entries_grow : (inside : Bool) (members xs ys : List ℕ) → entries_from inside members xs ≤ entries_from inside members (xs ++ ys)
entries_grow inside members xs ys = let e = entries_append inside members xs ys in omega arith

-- an iteration costs what it adds to a walk that stands at its header
pub cost_iterations : (costs : List ℕ) (loops : List BoundedLoop) (h : ℕ) (ns : List ℕ) → cost_of_iteration costs loops (h ∷ ns) ≤ cost_from costs loops (held_at h) (ns ++ h ∷ [])
cost_iterations costs loops h ns =
    let f : BoundedLoop → ℕ = λ l. l.load * later_entries l.members (h ∷ ns) in
    let k : BoundedLoop → ℕ = λ l. l.load * entries_from (held_at h l) l.members (ns ++ h ∷ []) in
    let grows = sum_by-le-sum_by f k loops (λ l. mul-le-mul_left l.load (entries_grow (held_at h l) l.members ns (h ∷ []))) in
    let cost : ℕ → ℕ = λ x. get_or costs x 0 in
    let a = sum_by-cons cost h ns in
    let b = sum_by_push cost ns h in
    omega arith

once : (b : Bool) → (b && not b) ≡ false
once true = refl
once false = refl

-- a walk from a node costs as an iteration no less than where it stands in that node's loops before
pub cost_as_iteration : (costs : List ℕ) (loops : List BoundedLoop) (h : ℕ) (ns : List ℕ) → cost_from costs loops (held_at h) (h ∷ ns) ≤ cost_of_iteration costs loops (h ∷ ns)
cost_as_iteration costs loops h ns =
    let f : BoundedLoop → ℕ = λ l. l.load * later_entries l.members (h ∷ ns) in
    let k : BoundedLoop → ℕ = λ l. l.load * entries_from (held_at h l) l.members (h ∷ ns) in
    let le = sum_by-le-sum_by k f loops (λ l. mul-le-mul_left l.load (let e = ap (λ (b : Bool). cond b 1 0 + entries_from (held_at h l) l.members ns) (once (held_at h l)) in omega arith)) in
    omega arith
