use Rattle.std.proofs.Common.{◌∙◌}
use Rattle.cert_checker.proofs.Answering.{answers_for}
use Rattle.cert_checker.proofs.section.check_potentials.Goals as goal

pub returns : goal.returns
returns c =
    answers_for c.args.task.now c.args.s.now c.args.p.now c.deref.result.now c.deref-2.result.now c.in_ok-fees.fees.items c.deref-3.result.now c.check_with_index.result c.deref.ensures.value
    (c.deref-2.ensures.value ∙ c.in_ok-bounds.ensures) c.deref-3.ensures.value c.in_ok-fees.ensures.each c.check_with_index.ensures.answers
