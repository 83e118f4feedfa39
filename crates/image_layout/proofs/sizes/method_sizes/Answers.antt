use Rattle.std.proofs.Common.{◌++◌, ◌∷◌, [], ◌≤◌, ℕ, List, length, map, sym, ap, ◌∙◌, arith}
use Rattle.image_words.specs.Layout.{method_size}
use Rattle.program_tables.specs.Numbers.{methods_by_number}
use Rattle.program_tables.specs.Resolved.{resolved_methods}
use Rattle.image_builder.proofs.ListLemmas.{take_some}
use Rattle.image_layout.proofs.SizeLemmas.{methods_end}
use Rattle.image_layout.proofs.sizes.method_sizes.Goals as goal

pub loop-method-preserved : goal.loop-method-preserved
loop-method-preserved c =
    let cs = c.args.program.now in
    let method = c.loop-method.method in
    let sizes = map method_size (resolved_methods cs) in
    c.in_ok-push.ensures.items ∙ (ap (λ (xs : List ℕ). xs ++ c.in_ok-method_size.field-0 ∷ []) c.loop-method.invariant ∙ sym (take_some sizes method c.in_ok-method_size.field-0 c.in_ok-method_size.ensures))

pub returns : goal.returns
returns c =
    let cs = c.args.program.now in
    let test = c.loop-method-test.false in
    let count = c.method_count-method-end.ensures in
    let past : length (methods_by_number cs) ≤ c.loop-method.method = omega (arith, test, count) in
    c.loop-method.invariant ∙ methods_end method_size c.methods_stand_by_number.ensures cs c.loop-method.method past
