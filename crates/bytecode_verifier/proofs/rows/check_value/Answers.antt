use Rattle.std.proofs.Common.{map, refl, ap, ◌∙◌, Some, None}
use Rattle.std.proofs.lemmas.Result.{IfOk-weaker}
use Rattle.bytecode_model.specs.Lists.{onto}
use Rattle.bytecode_model.specs.declared.Value.TheVariants as values
use Rattle.bytecode_model.specs.Rows as rows
use Rattle.std.specs.Prelude.{pos}
use Rattle.verifier_types.specs.Locals.{lists_seen}
use Rattle.verifier_types.specs.Frame.{frame_seen}
use Rattle.verifier_types.specs.Seen.{number_seen}
use Rattle.bytecode_verifier.specs.Plain.{any_of, check_found}
use Rattle.bytecode_verifier.proofs.FindLemmas.{by_value}
use Rattle.bytecode_verifier.proofs.rows.check_value.Goals as goal

pub returns-in-PushNull-clause-checks : goal.returns-in-PushNull-clause-checks
returns-in-PushNull-clause-checks c = IfOk-weaker c.check_push.result _ _ (λ x p s code o h.
    p s values.Null refl (lists_seen c.args.lists.now) ∙ by_value s (frame_seen (lists_seen c.args.lists.now) c.args.frame.now) code c.args.instr.now o c.args.family _ c.in-PushNull.is) c.check_push.ensures.constant

pub returns-in-PushInt-clause-checks : goal.returns-in-PushInt-clause-checks
returns-in-PushInt-clause-checks c = IfOk-weaker c.check_push-in-PushInt.result _ _ (λ x p s code o h.
    p s (values.Int (pos 0)) refl (lists_seen c.args.lists.now) ∙ by_value s (frame_seen (lists_seen c.args.lists.now) c.args.frame.now) code c.args.instr.now o c.args.family _ c.in-PushInt.is) c.check_push-in-PushInt.ensures.constant

pub returns-in-PushLong-clause-checks : goal.returns-in-PushLong-clause-checks
returns-in-PushLong-clause-checks c = IfOk-weaker c.check_push-in-PushLong.result _ _ (λ x p s code o h.
    p s (values.Long (pos 0)) refl (lists_seen c.args.lists.now) ∙ by_value s (frame_seen (lists_seen c.args.lists.now) c.args.frame.now) code c.args.instr.now o c.args.family _ c.in-PushLong.is) c.check_push-in-PushLong.ensures.constant

pub returns-in-Compute-clause-checks : goal.returns-in-Compute-clause-checks
returns-in-Compute-clause-checks c = IfOk-weaker c.check_compute.result _ _ (λ x p s code o h.
    p s (any_of (map number_seen c.in-Compute.taken.now) None) (lists_seen c.args.lists.now) ∙ by_value s (frame_seen (lists_seen c.args.lists.now) c.args.frame.now) code c.args.instr.now o c.args.family _ c.in-Compute.is) c.check_compute.ensures

pub returns-in-Some-local_of-2-clause-checks : goal.returns-in-Some-local_of-2-clause-checks
returns-in-Some-local_of-2-clause-checks c = λ s code o h.
    let f = frame_seen (lists_seen c.args.lists.now) c.args.frame.now in
    let n = c.args.instr.now.second in
    c.check_increment.ensures s n h
    ∙ (ap (λ k. check_found s f (onto k (λ k. Some (rows.Increment k n)))) c.in-Some-local_of-2.ensures
    ∙ by_value s f code c.args.instr.now o c.args.family _ c.in-Increment.is)

pub returns-in-Shuffle-clause-checks : goal.returns-in-Shuffle-clause-checks
returns-in-Shuffle-clause-checks c = IfOk-weaker c.check_shuffle.result _ _ (λ x p s code o h.
    p s (lists_seen c.args.lists.now) ∙ by_value s (frame_seen (lists_seen c.args.lists.now) c.args.frame.now) code c.args.instr.now o c.args.family _ c.in-Shuffle.is) c.check_shuffle.ensures

pub returns-in-Write-clause-checks : goal.returns-in-Write-clause-checks
returns-in-Write-clause-checks c = λ s code o h.
    c.check_write.ensures s (lists_seen c.args.lists.now) ∙ by_value s (frame_seen (lists_seen c.args.lists.now) c.args.frame.now) code c.args.instr.now o c.args.family _ c.in-Write.is
