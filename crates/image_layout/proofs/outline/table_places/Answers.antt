use Rattle.std.proofs.Common.{◌≡◌, ◌+◌, ◌*◌, ℕ, List, map, ap, ap₂, ◌∙◌}
use Rattle.class_pool.specs.declared.class.ClassFile.{ClassFile}
use Rattle.image_words.specs.Layout.{table_words, classes_of, tables_place}
use Rattle.image_layout.proofs.LayoutLemmas.{run_made}
use Rattle.image_layout.proofs.outline.table_places.Goals as goal

pub returns : goal.returns
returns c =
    let cs = c.args.program.now in
    let size = c.in_ok-times.ensures ∙ ap₂ (λ (a : ℕ) (b : ℕ). a * b) c.type_count.ensures c.requires.words in
    let start : c.in_ok-start.start ≡ tables_place cs = c.in_ok-start.ensures ∙ ap₂ (λ (a : ℕ) (b : ℕ). a + b) c.requires.types size in
    let sizes = c.deref.ensures.value ∙ (c.in_ok-sizes.ensures ∙ ap (λ (ks : List ClassFile). map (table_words ks) (classes_of ks)) c.hierarchy.ensures) in
    run_made c.run_from.result c.in_ok-start.start (tables_place cs) c.deref.result.now (map (table_words cs) (classes_of cs)) start sizes c.run_from.ensures
