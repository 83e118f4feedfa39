use Rattle.std.proofs.Common.{◌≡◌, ◌+◌, ◌<◌, [], ℕ, length, Option, sym, ap, ◌∙◌, subst, arith}
use Rattle.std.specs.Prelude.{IfSome}
use Rattle.std.specs.Option.{option_map_or}
use Rattle.class_lookup.specs.Hierarchy.{superclass, superclasses}
use Rattle.program_tables.specs.Numbers.{instance_fields}
use Rattle.resolved_program.specs.Instances.{fields_above}
use Rattle.resolved_program.proofs.InstanceLemmas.{own_long, own_read, count_step, chain_length, chain_falls, supers_below}
use Rattle.resolved_program.proofs.instances.instance_count.Goals as goal

pub bounds-own-at : goal.bounds-own-at
bounds-own-at c =
    let cs = c.args.classes.now in
    let inside = subst (λ (o : Option ℕ). IfSome o (λ s. s < length cs)) c.in-Some.is c.loop-next.invariant.inside in
    let long = own_long cs c.args.own.now c.requires.own in
    omega (arith, inside, long)

pub loop-next-smaller : goal.loop-next-smaller
loop-next-smaller c =
    let cs = c.args.classes.now in
    let at = c.in-Some.at in
    let upper = c.superclass-next.ensures ∙ ap (λ x. superclass x at) c.classes.ensures in
    let are = c.superclasses_stand_above.ensures cs c.is_without_cycle.ensures in
    subst (λ (o : Option ℕ). chain_length cs c.superclass-next.result < chain_length cs o) (sym c.in-Some.is)
    (subst (λ (o : Option ℕ). chain_length cs o < length (superclasses cs at)) (sym upper) (chain_falls cs are at))

pub loop-next-preserved : goal.loop-next-preserved
loop-next-preserved c =
    let cs = c.args.classes.now in
    let at = c.in-Some.at in
    let upper = c.superclass-next.ensures ∙ ap (λ x. superclass x at) c.classes.ensures in
    let are = c.superclasses_stand_above.ensures cs c.is_without_cycle.ensures in
    let inside = subst (λ (o : Option ℕ). IfSome o (λ s. s < length cs)) c.in-Some.is c.loop-next.invariant.inside in
    let before = subst (λ (o : Option ℕ). c.loop-next.count + length (option_map_or (instance_fields cs) o []) ≡ length (instance_fields cs c.args.class)) c.in-Some.is c.loop-next.invariant.count in
    let read = ap length (own_read cs c.args.own.now c.requires.own at inside c.index-own-at.result c.index-own-at.is) in
    let more = c.count-more.ensures in
    let step = count_step cs are at in
    let above : length (option_map_or (instance_fields cs) c.superclass-next.result []) ≡ length (fields_above cs at) = ap (λ o. length (option_map_or (instance_fields cs) o [])) upper in
    record {
      inside = supers_below cs at c.superclass-next.result upper;
      count = omega (arith, before, read, more, step, above);
    }
