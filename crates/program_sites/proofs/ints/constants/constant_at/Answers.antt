use Rattle.std.proofs.Common.{◌≡◌, List, Option, Some, sym, ap, ◌∙◌}
use Rattle.std.specs.Prelude.{slice_get}
use Rattle.lists.specs.Lists.{onto}
use Rattle.class_pool.specs.declared.class.Member.{Member}
use Rattle.class_pool.specs.declared.class.ClassFile.{ClassFile}
use Rattle.class_lookup.specs.Lookup.{Place, field_at}
use Rattle.program_sites.specs.Ints.Constants.{constant_in}
use Rattle.program_sites.proofs.ints.constants.constant_at.Goals as goal

pub returns : goal.returns
returns c =
    let cs = c.args.program.now in
    let p = c.args.place in
    let k = c.class.result.now in
    let class : slice_get c.args.program.now c.args.place.0 ≡ Some c.class.result.now = ap (λ (x : Place). slice_get cs x.0) (sym c.place-2.view_is) ∙ c.class.ensures in
    let field : field_at c.args.program.now c.args.place ≡ Some c.in_ok-field.field.now =
    ap (λ (ks : List ClassFile). field_at ks c.args.place) (sym (c.classes.ensures ∙ c.hierarchy.ensures)) ∙ sym c.in_ok-field.ensures in
    c.constant_in.ensures
    ∙ sym (ap (λ (o : Option ClassFile). onto o (λ x. onto (field_at cs p) (constant_in x))) class ∙ ap (λ (o : Option Member). onto o (constant_in k)) field)
