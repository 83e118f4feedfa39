use Rattle.std.proofs.Common.{List, get_or, length, ap, ◌∙◌, arith}
use Rattle.class_pool.specs.declared.class.ClassFile.{ClassFile}
use Rattle.class_lookup.specs.Hierarchy.{is_interface}
use Rattle.class_lookup.specs.Lookup.{Place}
use Rattle.image_words.proofs.TableLemmas.{interface_at}
use Rattle.image_words.proofs.class_slots.add_inherited.Goals as goal

pub add_method-requires-clause-interface : goal.add_method-requires-clause-interface
add_method-requires-clause-interface c =
    let cs = c.args.classes.now in
    let i = c.loop-method.method-index in
    let d = c.method-item.result in
    let test = c.loop-method-test.true in
    let long = ap length c.requires.methods in
    ap (λ (ks : List ClassFile). is_interface ks c.method.inside.class) c.classes.ensures
    ∙ (ap (λ (p : Place). is_interface cs p.0) (c.method.view_is ∙ (c.method-item.is ∙ ap (λ (xs : List Place). get_or xs i d) c.requires.methods)) ∙ interface_at cs i d (omega (arith, test, long)))
