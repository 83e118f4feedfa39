use Rattle.std.proofs.Common.{◌≡◌, ◌+◌, ◌<◌, ◌≤◌, length, Some, sym, ap, ◌∙◌, arith}
use Rattle.std.specs.Option.{option_map}
use Rattle.program_tables.proofs.ComponentLemmas.{index_below}
use Rattle.bytecode_model.specs.Lists.{index_of}
use Rattle.class_lookup.specs.Lookup.{Place, same_place}
use Rattle.program_tables.specs.Numbers.{own_instance_fields}
use Rattle.resolved_program.specs.Instances.{fields_above}
use Rattle.resolved_program.proofs.InstanceLemmas.{own_long, own_read, own_past, number_step}
use Rattle.resolved_program.proofs.instances.Instances.number.Goals as goal

pub index-requires : goal.index-requires
index-requires c =
    let all = ap length c.classes.ensures in
    let long = own_long c.args.classes.now c.args.self.now.own.items c.requires.own in
    omega (arith, all, long, c.class_count.ensures, c.if-place-class_count.true)

pub overflow_add-result : goal.overflow_add-result
overflow_add-result c =
    let cs = c.args.classes.now in
    let p = c.args.place in
    let one : c.place.inside.class ≡ p.0 = ap (λ (q : Place). q.0) c.place.view_is in
    let two : c.place-then-place-class_count.inside.class ≡ p.0 = ap (λ (q : Place). q.0) c.place-then-place-class_count.view_is in
    let all = ap length c.classes.ensures in
    let inside : c.place.inside.class < length cs = omega (arith, all, c.class_count.ensures, c.if-place-class_count.true) in
    let read = own_read cs c.args.self.now.own.items c.requires.own c.place.inside.class inside c.index.result.now c.index.ensures ∙ ap (own_instance_fields cs) one in
    let lt = index_below (same_place p) (own_instance_fields cs p.0) c.in-Some.number (sym (c.number.ensures ∙ ap (index_of (same_place p)) read) ∙ c.in-Some.is) in
    let same = ap (λ k. length (own_instance_fields cs k)) two in
    omega (arith, lt, same, c.above.ensures.small)

pub returns-in-Some : goal.returns-in-Some
returns-in-Some c =
    let cs = c.args.classes.now in
    let p = c.args.place in
    let acyclic = c.is_without_cycle.ensures in
    let one : c.place.inside.class ≡ p.0 = ap (λ (q : Place). q.0) c.place.view_is in
    let two : c.place-then-place-class_count.inside.class ≡ p.0 = ap (λ (q : Place). q.0) c.place-then-place-class_count.view_is in
    let all = ap length c.classes.ensures in
    let inside : c.place.inside.class < length cs = omega (arith, all, c.class_count.ensures, c.if-place-class_count.true) in
    let read = own_read cs c.args.self.now.own.items c.requires.own c.place.inside.class inside c.index.result.now c.index.ensures ∙ ap (own_instance_fields cs) one in
    let found = sym c.in-Some.is ∙ (c.number.ensures ∙ ap (index_of (same_place p)) read) in
    ap (λ n. Some (n + c.in-Some.number)) (c.above.ensures.above ∙ ap (λ k. length (fields_above cs k)) two)
    ∙ (ap (option_map (λ k. length (fields_above cs p.0) + k)) found
    ∙ sym (number_step cs (c.superclasses_stand_above.ensures cs acyclic) p ((c.classes_extend_what_is_above.ensures cs acyclic).not_itself p.0)))

pub returns-in-None : goal.returns-in-None
returns-in-None c =
    let cs = c.args.classes.now in
    let p = c.args.place in
    let acyclic = c.is_without_cycle.ensures in
    let one : c.place.inside.class ≡ p.0 = ap (λ (q : Place). q.0) c.place.view_is in
    let all = ap length c.classes.ensures in
    let inside : c.place.inside.class < length cs = omega (arith, all, c.class_count.ensures, c.if-place-class_count.true) in
    let read = own_read cs c.args.self.now.own.items c.requires.own c.place.inside.class inside c.index.result.now c.index.ensures ∙ ap (own_instance_fields cs) one in
    let found = sym c.in-None.is ∙ (c.number.ensures ∙ ap (index_of (same_place p)) read) in
    ap (option_map (λ k. length (fields_above cs p.0) + k)) found
    ∙ sym (number_step cs (c.superclasses_stand_above.ensures cs acyclic) p ((c.classes_extend_what_is_above.ensures cs acyclic).not_itself p.0))

pub returns-else-place-class_count : goal.returns-else-place-class_count
returns-else-place-class_count c =
    let cs = c.args.classes.now in
    let p = c.args.place in
    let acyclic = c.is_without_cycle.ensures in
    let one : c.place.inside.class ≡ p.0 = ap (λ (q : Place). q.0) c.place.view_is in
    let all = ap length c.classes.ensures in
    let past : length cs ≤ p.0 = omega (arith, all, one, c.class_count.ensures, c.if-place-class_count.false) in
    ap (λ xs. option_map (λ k. length (fields_above cs p.0) + k) (index_of (same_place p) xs)) (sym (own_past cs p.0 past))
    ∙ sym (number_step cs (c.superclasses_stand_above.ensures cs acyclic) p ((c.classes_extend_what_is_above.ensures cs acyclic).not_itself p.0))
