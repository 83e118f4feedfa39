use Rattle.std.proofs.Common.{◌<◌, List, length, slice_get, sym, ap, ◌∙◌, subst}
use Rattle.program_tables.proofs.ComponentLemmas.{index_below}
use Rattle.class_pool.specs.declared.class.ClassFile.{ClassFile}
use Rattle.resolved_program.proofs.entries.field_found.Goals as goal

pub find_field_by-requires : goal.find_field_by-requires
find_field_by-requires c =
    let same = c.classes-listed.ensures in
    let listed = c.classes-listed.result.now in
    let there = ap (λ (xs : List ClassFile). slice_get xs c.args.current) same ∙ c.requires.class in
    subst (λ (xs : List ClassFile). c.in_ok-named.named < length xs) same (index_below _ listed c.in_ok-named.named (sym (c.in_ok-named.ensures c.args.class.now there)))
