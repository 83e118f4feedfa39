use Rattle.std.proofs.Common.{ℕ, Bool, List, length, refl, ap, ◌∙◌, subst, arith}
use Rattle.program_tables.specs.Numbers.{methods_by_number}
use Rattle.program_tables.specs.Resolved.{resolved}
use Rattle.flow_table.specs.Marks.{HasMarks}
use Rattle.flow_table.specs.Targets.{AreSelected}
use Rattle.flow_table.proofs.Flowing.{calls_fit}
use Rattle.flow_table.proofs.Making.{are_targets}
use Rattle.flow_table.proofs.targets.target_lists.Goals as goal

pub marks_of-requires : goal.marks_of-requires
marks_of-requires c m k x at has =
    let fits =
    calls_fit c.methods_stand_by_number.ensures c.args.program.now c.requires.placed c.requires.lawful c.args.coded c.requires.coded c.args.methods.now c.requires.methods m k x at has in
    let many = c.method_count.ensures in
    omega arith

pub selected_lists-requires-clause-marks : goal.selected_lists-requires-clause-marks
selected_lists-requires-clause-marks c = ap (λ (xs : List Bool). length xs) c.deref.ensures.value ∙ (c.in_ok-marks.ensures.long ∙ c.method_count.ensures)

pub returns : goal.returns
returns c =
    let cs = c.args.program.now in
    let ks = c.args.methods.now in
    let count = length (methods_by_number cs) in
    let marks = c.in_ok-marks.marks.items in
    let marked = subst (λ (n : ℕ). HasMarks c.args.coded n ks marks) c.method_count.ensures c.in_ok-marks.ensures in
    let selected = subst (λ (xs : List Bool). AreSelected (resolved cs) xs count c.in_ok-selected.selected.items) c.deref.ensures.value c.in_ok-selected.ensures in
    are_targets cs c.args.coded count ks marks _ _ _ c.in_ok-lists.ensures refl marked selected c.in_ok-append.ensures.items
