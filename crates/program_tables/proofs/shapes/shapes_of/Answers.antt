use Rattle.std.proofs.Common.{◌≡◌, ◌<◌, ◌≤◌, ℕ, List, length, Some, sym, ap, ◌∙◌, subst, arith}
use Rattle.std.specs.Prelude.{slice_get}
use Rattle.std.proofs.lemmas.Bool.{ltb-true, ltb-false}
use Rattle.std.proofs.lemmas.Option.{slice_get-get_or}
use Rattle.class_pool.specs.declared.class.ClassFile.{ClassFile}
use Rattle.class_lookup.specs.Lookup.{Place}
use Rattle.program_tables.specs.Meanings.{HasShape}
use Rattle.program_tables.specs.Resolved.{method_in, resolved_methods}
use Rattle.program_tables.proofs.ShapeLemmas.{within_at, holds_at, each_more, shape_at}
use Rattle.program_tables.proofs.shapes.shapes_of.Goals as goal

pub class-class-requires : goal.class-class-requires
class-class-requires c =
    let cs = c.args.texts.now in
    let n = c.loop-number.number in
    let p = c.at-place.result in
    let one : c.place.inside.class ≡ p.0 = ap (λ (q : Place). q.0) c.place.view_is in
    let there = (c.members_are_there.ensures cs n p).0 (ap (λ xs. slice_get xs n) (sym c.requires) ∙ c.at-place.ensures) in
    let lt = within_at cs p.0 (λ (k : ClassFile). p.1 < length k.methods) there in
    let long = ap length c.classes-classes.ensures in
    omega (arith, one, lt, long)

pub unreachable-requires : goal.unreachable-requires
unreachable-requires c =
    let cs = c.args.texts.now in
    let n = c.loop-number.number in
    let p = c.at-place.result in
    let k = c.class-class.result.now in
    let list = c.as_slice.result.now in
    let j = c.place.inside.index in
    let one : c.place.inside.class ≡ p.0 = ap (λ (q : Place). q.0) c.place.view_is in
    let two : j ≡ p.1 = ap (λ (q : Place). q.1) c.place.view_is in
    let there = (c.members_are_there.ensures cs n p).0 (ap (λ xs. slice_get xs n) (sym c.requires) ∙ c.at-place.ensures) in
    let within : p.1 < length k.methods = holds_at (slice_get cs p.0) k (λ (k : ClassFile). p.1 < length k.methods) there (ap (slice_get cs) (sym one) ∙ (ap (λ (xs : List ClassFile). slice_get xs c.place.inside.class) (sym c.classes-classes.ensures) ∙ c.class-class.ensures)) in
    let long : length list ≡ length k.methods = ap length c.as_slice.ensures in
    let past : length list ≤ j = ltb-false j (length list) (sym c.in-None.ensures.lookup.0) in
    omega (arith, two, within, long, past)

pub loop-number-preserved : goal.loop-number-preserved
loop-number-preserved c =
    let cs = c.args.texts.now in
    let n = c.loop-number.number in
    let p = c.at-place.result in
    let k = c.class-class.result.now in
    let list = c.as_slice.result.now in
    let j = c.place.inside.index in
    let m = c.in-Some.method.now in
    let x = c.in_ok-shape_of-in-Some.field-0 in
    let one : c.place.inside.class ≡ p.0 = ap (λ (q : Place). q.0) c.place.view_is in
    let two : j ≡ p.1 = ap (λ (q : Place). q.1) c.place.view_is in
    let numbered = ap (λ xs. slice_get xs n) (sym c.requires) ∙ c.at-place.ensures in
    let found = slice_get-get_or list j m (ltb-true j (length list) (sym c.in-Some.ensures.lookup.0)) ∙ ap Some (sym c.in-Some.ensures.lookup.1) in
    each_more HasShape (resolved_methods cs) n c.loop-number.made.items c.push.new.self.items x c.loop-number.invariant c.in_ok-push-in-Some.ensures.items
    (shape_at c.methods_stand_by_number.ensures cs n p k m x numbered (ap (slice_get cs) (sym one) ∙ (ap (λ (xs : List ClassFile). slice_get xs c.place.inside.class) (sym c.classes-classes.ensures) ∙ c.class-class.ensures))
    (ap (slice_get k.methods) (sym two) ∙ (ap (λ xs. slice_get xs j) (sym c.as_slice.ensures) ∙ found))
    (subst (λ (owner : ℕ). HasShape x (method_in cs owner k m)) one c.in_ok-shape_of-in-Some.ensures))
