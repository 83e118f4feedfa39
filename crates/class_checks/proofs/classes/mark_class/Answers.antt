use Rattle.std.proofs.Common.{List, ℕ, ◌&&◌, length, ap, sym, ◌∙◌}
use Rattle.std.specs.Prelude.{slice_get}
use Rattle.std.specs.List.{list_any, range_with_len}
use Rattle.std.specs.Option.{option_map_or}
use Rattle.class_pool.specs.declared.class.ClassFile.{ClassFile}
use Rattle.class_lookup.specs.Hierarchy.{extends, is_concrete}
use Rattle.class_lookup.specs.Parts.{is_abstract}
use Rattle.class_lookup.specs.Selection.{is_method_with}
use Rattle.class_checks.proofs.MarkLemmas.{kept_of_class, kept_without_abstract, on_ok_more}
use Rattle.class_checks.proofs.classes.mark_class.Goals as goal

pub returns-then-has_abstract : goal.returns-then-has_abstract
returns-then-has_abstract c =
    let cs = c.args.classes.now in
    let n = c.args.upper in
    let many = c.method_count-count.ensures ∙ ap (λ (ks : List ClassFile). option_map_or (λ (k : ClassFile). length k.methods) (slice_get ks n) 0) c.classes.ensures in
    on_ok_more c.mark_methods.result _ _ (kept_of_class cs (λ k. is_concrete cs k && extends cs k n) n c.method_count-count.result _ _ many) c.mark_methods.ensures

pub returns-else-has_abstract : goal.returns-else-has_abstract
returns-else-has_abstract c =
    let cs = c.args.classes.now in
    let n = c.args.upper in
    let many = c.method_count-count.ensures ∙ ap (λ (ks : List ClassFile). option_map_or (λ (k : ClassFile). length k.methods) (slice_get ks n) 0) c.classes.ensures in
    kept_without_abstract cs (λ k. is_concrete cs k && extends cs k n) n c.method_count-count.result c.args.marks.now.items many
    (ap (λ (ks : List ClassFile). list_any (λ (i : ℕ). is_method_with is_abstract ks (n, i)) (range_with_len 0 c.method_count-count.result)) (sym c.classes-2.ensures) ∙ (sym c.has_abstract.ensures ∙ c.if-has_abstract.false))
