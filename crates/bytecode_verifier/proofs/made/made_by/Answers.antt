use Rattle.std.proofs.Common.{sym, ap, ◌∙◌}
use Rattle.lists.specs.Lists.{onto}
use Rattle.bytecode_typing.specs.Checks.{class_made_by}
use Rattle.program_tables.specs.Meanings.{operand_seen}
use Rattle.bytecode_verifier.specs.Family.{named_row}
use Rattle.bytecode_verifier.specs.declared.family.Named.TheVariants as named
use Rattle.bytecode_verifier.proofs.FormLemmas.{made_new}
use Rattle.bytecode_verifier.proofs.OrdinaryLemmas.{makes_none, constant_ordinary, long_ordinary, new_array_ordinary, cast_ordinary, test_ordinary}
use Rattle.bytecode_verifier.proofs.made.made_by.Goals as goal

pub returns-in-New : goal.returns-in-New
returns-in-New c = λ code i.
    let o = operand_seen c.args.operand in
    made_new code i o c.class_meant.result (c.class_meant.ensures code i) ∙ ap (λ n. onto (named_row n code i o) class_made_by) (sym c.in-New.is)

pub returns-in-Constant : goal.returns-in-Constant
returns-in-Constant c = λ code i.
    let o = operand_seen c.args.operand in
    sym (makes_none (named_row named.Constant code i o) (constant_ordinary code i o)) ∙ ap (λ n. onto (named_row n code i o) class_made_by) (sym c.in-Constant.is)

pub returns-in-LongConstant : goal.returns-in-LongConstant
returns-in-LongConstant c = λ code i.
    let o = operand_seen c.args.operand in
    sym (makes_none (named_row named.LongConstant code i o) (long_ordinary code i o)) ∙ ap (λ n. onto (named_row n code i o) class_made_by) (sym c.in-LongConstant.is)

pub returns-in-NewArray : goal.returns-in-NewArray
returns-in-NewArray c = λ code i.
    let o = operand_seen c.args.operand in
    sym (makes_none (named_row named.NewArray code i o) (new_array_ordinary code i o)) ∙ ap (λ n. onto (named_row n code i o) class_made_by) (sym c.in-NewArray.is)

pub returns-in-Cast : goal.returns-in-Cast
returns-in-Cast c = λ code i.
    let o = operand_seen c.args.operand in
    sym (makes_none (named_row named.Cast code i o) (cast_ordinary code i o)) ∙ ap (λ n. onto (named_row n code i o) class_made_by) (sym c.in-Cast.is)

pub returns-in-Test : goal.returns-in-Test
returns-in-Test c = λ code i.
    let o = operand_seen c.args.operand in
    sym (makes_none (named_row named.Test code i o) (test_ordinary code i o)) ∙ ap (λ n. onto (named_row n code i o) class_made_by) (sym c.in-Test.is)
