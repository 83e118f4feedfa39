use Rattle.std.proofs.Common.{ℕ, ◌+◌, ◌-◌, List, length, map, sym, ap, ◌∙◌, subst, rules, arith}
use Rattle.std.proofs.lemmas.List.{take_all}
use Rattle.std.proofs.lemmas.List.Sorted.{IsNonDecreasingBy-from_sort_by_key}
use Rattle.section_index.proofs.Falling.{AreRanked, ranked_more, larger_first}
use Rattle.section_index.proofs.crossing_sets.order.larger_first.Goals as goal

pub loop-i-preserved : goal.loop-i-preserved
loop-i-preserved c =
    let ss = c.args.family.now.sets in
    let i = c.loop-i.i in
    let most : ℕ = 18446744073709551615 in
    let P : List (ℕ × ℕ) → Type 0 = λ rs. AreRanked ss most (i + 1) rs in
    let size = ap length c.set.ensures.numbers in
    let in_range = c.set.type_inv in
    subst P (sym c.in_ok-push.ensures.items) (ranked_more ss most i (most - length c.set.result.now) c.loop-i.ranked.items (omega (arith, in_range.0)) (let lt = c.loop-i-test.true in let n = c.len-i-end.ensures.count in omega arith) c.loop-i.invariant)

pub returns : goal.returns
returns c =
    let ss = c.args.family.now.sets in
    let sorted = c.sort_unstable_by_key.new.self.items in
    let all = c.loop-i-test.false in
    let snd : ℕ × ℕ → ℕ = λ r. r.1 in
    larger_first ss 18446744073709551615 c.loop-i.i c.loop-i.ranked.items sorted c.loop-rank.order.items (let count = c.len-i-end.ensures.count in omega arith) c.loop-i.invariant c.sort_unstable_by_key.ensures.permutation
    (IsNonDecreasingBy-from_sort_by_key (λ (r : ℕ × ℕ). r.0) sorted c.sort_unstable_by_key.ensures.sorted (λ a r q k. search rules))
    (c.loop-rank.invariant ∙ ap (map snd) (take_all c.loop-rank.rank-index c.deref-rank-items.result.now c.loop-rank-test.false ∙ c.deref-rank-items.ensures.value))
