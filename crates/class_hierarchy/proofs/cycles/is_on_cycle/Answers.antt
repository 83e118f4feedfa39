use Rattle.std.proofs.Common.{◌<◌, ◌≤◌, ◌||◌, ℕ, List, length, get_or, sym, ap, ap₂, ◌∙◌, subst, arith}
use Rattle.lists.specs.Numbers.{is_among}
use Rattle.lists.proofs.Tables.{entry_read}
use Rattle.class_lookup.specs.Hierarchy.{direct_supertypes}
use Rattle.class_hierarchy.proofs.CycleLemmas.{searched_first, searched_more, searched_all, found_few, next_below}
use Rattle.class_hierarchy.proofs.cycles.is_on_cycle.Goals as goal

pub loop-next-init : goal.loop-next-init
loop-next-init c =
    let cs = c.args.classes.now in
    let class = c.args.class in
    let within : class < length c.args.above.now = omega (arith, c.requires.class, c.requires.long) in
    let up = c.as_slice.ensures ∙ (sym (entry_read c.args.above.now class c.index-above-class.result within c.index-above-class.is) ∙ c.requires.direct class) in (
      searched_first cs class c.add_each.new.found (λ x. c.in_ok-add_each.ensures.among x ∙ ap₂ (λ (a : List ℕ) (b : List ℕ). is_among a x || is_among b x) c.new-found.ensures up),
      c.is_distinct.ensures,
    )

pub bounds-above-upper : goal.bounds-above-upper
bounds-above-upper c =
    let cs = c.args.classes.now in
    let next = c.loop-next.next in
    let lt = subst (λ (xs : List ℕ). next < length xs) c.as_slice-in-loop-next.ensures c.loop-next-test.true in
    let below = next_below cs c.args.class c.loop-next.found next c.loop-next.invariant.0 lt in
    subst (λ n. get_or c.as_slice-in-loop-next-2.result.now next 0 < n) (sym c.requires.long)
    (subst (λ (xs : List ℕ). get_or xs next 0 < length cs) (sym c.as_slice-in-loop-next-2.ensures) below)

pub loop-next-smaller : goal.loop-next-smaller
loop-next-smaller c =
    let next = c.loop-next.next in
    let lt = subst (λ (xs : List ℕ). next < length xs) c.as_slice-in-loop-next.ensures c.loop-next-test.true in
    let few = found_few c.args.classes.now c.args.class c.loop-next.found next c.loop-next.invariant.0 c.loop-next.invariant.1 in
    omega (arith, lt, few)

pub loop-next-preserved : goal.loop-next-preserved
loop-next-preserved c =
    let cs = c.args.classes.now in
    let next = c.loop-next.next in
    let found = c.loop-next.found in
    let lt = subst (λ (xs : List ℕ). next < length xs) c.as_slice-in-loop-next.ensures c.loop-next-test.true in
    let upper = get_or c.as_slice-in-loop-next-2.result.now next 0 in
    let same = ap (λ (xs : List ℕ). get_or xs next 0) c.as_slice-in-loop-next-2.ensures in
    let below = next_below cs c.args.class found next c.loop-next.invariant.0 lt in
    let within : upper < length c.args.above.now = omega (arith, below, same, c.requires.long) in
    let up = c.as_slice-in-loop-next-3.ensures
    ∙ (sym (entry_read c.args.above.now upper c.index-above-upper.result within c.index-above-upper.is) ∙ (c.requires.direct upper ∙ ap (direct_supertypes cs) same)) in (
      searched_more cs c.args.class found c.add_each-in-loop-next.new.found next c.loop-next.invariant.0 lt c.in_ok-add_each-2.ensures.behind
          (λ x. c.in_ok-add_each-2.ensures.among x ∙ ap (λ (b : List ℕ). is_among found x || is_among b x) up),
      c.is_distinct-in-loop-next.ensures,
    )

pub returns : goal.returns
returns c =
    let next = c.loop-next.next in
    let all = subst (λ (xs : List ℕ). length xs ≤ next) c.as_slice-in-loop-next.ensures c.loop-next-test.false in
    c.contains.ensures ∙ searched_all c.args.classes.now c.args.class c.loop-next.found next c.loop-next.invariant.0 all
