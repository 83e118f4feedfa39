use Rattle.std.proofs.Common.{◌≡◌, ℕ, List, subst, rules}
use Rattle.std.specs.List.Sorted.{IsPermutation}
use Rattle.call_regions.proofs.Sorting.{rises}
use Rattle.memory_bound.proofs.causes.rising.Goals as goal

pub returns : goal.returns
returns c =
    let numbers = c.args.numbers.now in
    let copy : c.in_ok-rising.rising.items ≡ numbers = c.in_ok-rising.ensures.items_if_clones_equal (λ x y h. search rules) in
    let after = c.sort_unstable.new.self.items in
    let P : List ℕ → Type 0 = λ xs. IsPermutation xs after in
    let moved = subst P copy c.sort_unstable.ensures.permutation in (moved, rises numbers after c.requires moved c.sort_unstable.ensures.sorted)
