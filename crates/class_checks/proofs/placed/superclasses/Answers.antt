use Rattle.std.proofs.Common.{◌≡◌, ◌-◌, ◌+◌, ℕ, List, Option, Some, ◌++◌, ap, ap₂, subst, ◌∙◌}
use Rattle.class_lookup.specs.Hierarchy.{superclasses}
use Rattle.class_checks.proofs.PlacedLemmas.{still, begins, one_upwards}
use Rattle.class_checks.proofs.placed.superclasses.Goals as goal

pub loop-init : goal.loop-init
loop-init c =
    ap (λ (xs : List ℕ). xs ++ still c.args.classes.now (c.class_count-count.result - 0) (Some c.args.class)) c.new-found.ensures.items ∙ begins c.args.classes.now c.args.class c.class_count-count.result c.class_count-count.ensures

pub loop-preserved : goal.loop-preserved
loop-preserved c =
    let cs = c.args.classes.now in
    let count = c.class_count-count.result in
    ap₂ (λ (xs : List ℕ) (o : Option ℕ). xs ++ still cs (count - (c.loop.counter + 1)) o) c.in_ok-push-in-Some.ensures.items c.superclass_at-next.ensures
    ∙ one_upwards cs c.loop.found.items count c.loop.counter c.in-Some.at (superclasses cs c.args.class) c.loop-test.true
    (subst (λ (o : Option ℕ). c.loop.found.items ++ still cs (count - c.loop.counter) o ≡ superclasses cs c.args.class) c.in-Some.is c.loop.invariant)
