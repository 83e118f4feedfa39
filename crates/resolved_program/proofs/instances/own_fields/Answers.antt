use Rattle.std.proofs.Common.{[], ◌∷◌, ◌++◌, List, sym, ap₂, ◌∙◌, arith}
use Rattle.std.proofs.lemmas.List.FromFn.{map-range_with_len_more}
use Rattle.class_lookup.specs.Lookup.{Place}
use Rattle.program_tables.specs.Numbers.{own_instance_fields}
use Rattle.resolved_program.proofs.instances.own_fields.Goals as goal

pub loop-class-preserved : goal.loop-class-preserved
loop-class-preserved c =
    let i = c.loop-class.class in
    c.in_ok-push.ensures.items
    ∙ (ap₂ (λ (xs : List (List Place)) (x : List Place). xs ++ x ∷ []) c.loop-class.invariant c.in_ok-instance_fields_of.ensures
    ∙ sym (map-range_with_len_more (own_instance_fields c.args.classes.now) 0 i i (omega arith)))
