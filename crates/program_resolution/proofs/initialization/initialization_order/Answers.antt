use Rattle.std.proofs.Common.{ℕ, List, length, reverse, ap, ◌∙◌, arith}
use Rattle.std.specs.Prelude.{nat_eq}
use Rattle.class_lookup.specs.Hierarchy.{superclasses}
use Rattle.program_tables.specs.Lists.{with_items}
use Rattle.program_resolution.proofs.OrderLemmas.{one_ordered, all_ordered}
use Rattle.program_resolution.proofs.initialization.initialization_order.Goals as goal

pub loop-class-preserved : goal.loop-class-preserved
loop-class-preserved c =
    let cs = c.args.classes.now in
    one_ordered (λ (k : ℕ). reverse (superclasses cs k)) c.loop-class.order c.insert_from_last.new.order c.loop-class.class c.loop-class.invariant
    (c.in_ok-insert_from_last.ensures ∙ ap (λ (xs : List ℕ). with_items nat_eq c.loop-class.order (reverse xs)) (c.deref.ensures.value ∙ c.in_ok-chain.ensures))

pub returns : goal.returns
returns c =
    all_ordered (λ (k : ℕ). reverse (superclasses c.args.classes.now k)) c.loop-class.order c.loop-class.class (length c.args.classes.now) c.loop-class.invariant
    (omega (arith, c.loop-class-test.false, c.loop-class.auto.class-end, c.class_count-count.ensures))
