use Rattle.std.proofs.Common.{◌≡◌, ◌+◌, ℕ, List, length, map, ap, ap₂, ◌∙◌, arith}
use Rattle.class_pool.specs.declared.class.ClassFile.{ClassFile}
use Rattle.image_words.specs.Layout.{interface_words, classes_of, interfaces_place}
use Rattle.image_words.specs.Slots.{interface_methods}
use Rattle.image_layout.proofs.LayoutLemmas.{run_made}
use Rattle.image_layout.proofs.outline.interface_table_places.Goals as goal

pub returns : goal.returns
returns c =
    let cs = c.args.program.now in
    let counted = c.in_ok-many.ensures in
    let long = ap length c.requires.methods in
    let many : c.in_ok-many.many ≡ length (interface_methods cs) = omega (arith, counted, long) in
    let start = c.in_ok-start.ensures ∙ ap₂ (λ (a : ℕ) (b : ℕ). a + b) c.requires.zeros many in
    let listed = c.classes.ensures ∙ c.hierarchy.ensures in
    let sizes = c.deref.ensures.value ∙ (c.in_ok-sizes.ensures ∙ ap (λ (ks : List ClassFile). map (interface_words ks) (classes_of ks)) listed) in
    run_made c.run_from.result c.in_ok-start.start (interfaces_place cs + length (interface_methods cs)) c.deref.result.now (map (interface_words cs) (classes_of cs)) start sizes c.run_from.ensures
