use Rattle.std.proofs.Common.{◌≡◌, ◌-◌, ◌<◌, ℕ, List, [], length, Option, sym, ap, ◌∙◌, subst, arith}
use Rattle.std.specs.Prelude.{slice_get}
use Rattle.std.specs.Option.{option_map_or}
use Rattle.class_lookup.specs.Hierarchy.{superclass, superclasses}
use Rattle.class_lookup.specs.Lookup.{Place}
use Rattle.program_tables.specs.Numbers.{own_instance_fields, instance_fields}
use Rattle.resolved_program.specs.Instances.{fields_above}
use Rattle.resolved_program.proofs.InstanceLemmas.{own_long, own_read, count_step, chain_length, chain_falls, super_below, field_own, field_above}
use Rattle.resolved_program.proofs.instances.Instances.at.Goals as goal

pub index-requires : goal.index-requires
index-requires c =
    let long = own_long c.args.classes.now c.args.self.now.own.items c.requires.own in
    omega (arith, long, c.loop-class.invariant.inside)

pub at-requires : goal.at-requires
at-requires c =
    let cs = c.args.classes.now in
    let at = c.loop-class.at in
    let read = ap length (own_read cs c.args.self.now.own.items c.requires.own at c.loop-class.invariant.inside c.index.result.now c.index.ensures) in
    let step = count_step cs (c.superclasses_stand_above.ensures cs c.is_without_cycle.ensures) at in
    omega (arith, read, step, c.above-above.ensures.above, c.loop-class.invariant.within, c.if-index-above.true)

pub returns-then-index-above : goal.returns-then-index-above
returns-then-index-above c =
    let cs = c.args.classes.now in
    let at = c.loop-class.at in
    let above = c.above-above.ensures.above in
    let read = own_read cs c.args.self.now.own.items c.requires.own at c.loop-class.invariant.inside c.index.result.now c.index.ensures in
    sym c.loop-class.invariant.same
    ∙ (field_own cs (c.superclasses_stand_above.ensures cs c.is_without_cycle.ensures) at c.args.index (omega (arith, above, c.if-index-above.true))
    ∙ (ap (λ (n : ℕ). slice_get (own_instance_fields cs at) (c.args.index - n)) (sym above)
    ∙ (ap (λ (xs : List Place). slice_get xs (c.args.index - c.above-above.result)) (sym read) ∙ c.at.ensures)))

pub loop-class-smaller : goal.loop-class-smaller
loop-class-smaller c =
    let cs = c.args.classes.now in
    let at = c.loop-class.at in
    let upper = sym (c.superclass.ensures ∙ ap (λ x. superclass x at) c.classes.ensures) ∙ c.in-Some.is in
    subst (λ (o : Option ℕ). chain_length cs o < length (superclasses cs at)) upper
    (chain_falls cs (c.superclasses_stand_above.ensures cs c.is_without_cycle.ensures) at)

pub loop-class-preserved : goal.loop-class-preserved
loop-class-preserved c =
    let cs = c.args.classes.now in
    let at = c.loop-class.at in
    let upper = sym (c.superclass.ensures ∙ ap (λ x. superclass x at) c.classes.ensures) ∙ c.in-Some.is in
    let fields : fields_above cs at ≡ instance_fields cs c.in-Some.upper = ap (λ o. option_map_or (instance_fields cs) o []) upper in
    let many = ap length fields in
    let above = c.above-above.ensures.above in
    let lt : c.args.index < length (fields_above cs at) = omega (arith, above, c.if-index-above.false) in
    record {
      inside = super_below cs at c.in-Some.upper upper;
      within = omega (arith, many, lt);
      same =
          ap (λ (xs : List Place). slice_get xs c.args.index) (sym fields)
          ∙ (sym (field_above cs (c.superclasses_stand_above.ensures cs c.is_without_cycle.ensures) at c.args.index lt) ∙ c.loop-class.invariant.same);
    }
