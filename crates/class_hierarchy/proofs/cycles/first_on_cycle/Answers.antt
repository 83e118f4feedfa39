use Rattle.std.proofs.Common.{length, sym, ◌∙◌, arith}
use Rattle.class_lookup.specs.Hierarchy.{is_on_a_cycle}
use Rattle.class_hierarchy.proofs.CycleLemmas.{found_first, found_nowhere, acyclic_without}
use Rattle.class_hierarchy.proofs.cycles.first_on_cycle.Goals as goal

pub returns-then-branch-clause-first : goal.returns-then-branch-clause-first
returns-then-branch-clause-first c =
    let cs = c.args.classes.now in
    let at = c.loop-class.class in
    let end = c.class_count-class-end.ensures in
    sym (found_first (is_on_a_cycle cs) (length cs) 0 at (omega arith) (omega (arith, c.loop-class-test.true, end)) (λ k g l. c.loop-class.invariant k l) (sym c.in_ok-is_on_cycle.ensures ∙ c.if-branch.true))

pub returns-clause-first : goal.returns-clause-first
returns-clause-first c =
    let cs = c.args.classes.now in
    let end = c.class_count-class-end.ensures in
    sym (found_nowhere (is_on_a_cycle cs) (length cs) 0 (λ k g l. c.loop-class.invariant k (omega (arith, l, c.loop-class-test.false, end))))

pub returns-clause-none : goal.returns-clause-none
returns-clause-none c = λ some e.
    let end = c.class_count-class-end.ensures in
    acyclic_without c.args.classes.now some (λ k l. c.loop-class.invariant k (omega (arith, l, c.loop-class-test.false, end)))
