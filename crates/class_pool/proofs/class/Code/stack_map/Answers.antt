use Rattle.std.proofs.Common.{◌≡◌, ℕ, ◌<◌, Bool, cond, List, length, get_or, Some, None, sym, ap, ◌∙◌, arith}
use Rattle.class_pool.specs.Found.{frames_part}
use Rattle.class_pool.proofs.FoundLemmas.{first_here, first_later}
use Rattle.class_pool.proofs.class.Code.stack_map.Goals as goal

pub returns-then-is_named : goal.returns-then-is_named
returns-then-is_named c =
    let all : List (ℕ × List ℕ) = c.args.self.now.attributes in
    let item : ℕ × List ℕ = c.loop-name-item.result in
    let lt : c.loop-name.name-index < length all = omega (arith, c.loop-name-test.true, ap (λ (xs : List (ℕ × List ℕ)). length xs) c.as_slice-name-items.ensures) in
    let is : item ≡ get_or all c.loop-name.name-index item = c.loop-name-item.is ∙ ap (λ (xs : List (ℕ × List ℕ)). get_or xs c.loop-name.name-index item) c.as_slice-name-items.ensures in
    let has : frames_part c.args.pool.now item ≡ Some item.1 = ap (λ (b : Bool). cond b (Some item.1) None) (sym c.is_named.ensures ∙ c.if-is_named.true) in
    let found = first_here (frames_part c.args.pool.now) all c.loop-name.name-index item item.1 lt is has c.loop-name.invariant in
    ap (λ (b : List ℕ). Some b) c.as_slice.ensures ∙ sym found

pub loop-name-preserved : goal.loop-name-preserved
loop-name-preserved c =
    let all : List (ℕ × List ℕ) = c.args.self.now.attributes in
    let item : ℕ × List ℕ = c.loop-name-item.result in
    let lt : c.loop-name.name-index < length all = omega (arith, c.loop-name-test.true, ap (λ (xs : List (ℕ × List ℕ)). length xs) c.as_slice-name-items.ensures) in
    let is : item ≡ get_or all c.loop-name.name-index item = c.loop-name-item.is ∙ ap (λ (xs : List (ℕ × List ℕ)). get_or xs c.loop-name.name-index item) c.as_slice-name-items.ensures in
    let lacks : frames_part c.args.pool.now item ≡ None = ap (λ (b : Bool). cond b (Some item.1) None) (sym c.is_named.ensures ∙ c.if-is_named.false) in
    first_later (frames_part c.args.pool.now) all c.loop-name.name-index item lt is lacks c.loop-name.invariant
