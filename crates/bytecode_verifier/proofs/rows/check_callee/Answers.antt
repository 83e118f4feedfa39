use Rattle.std.proofs.Common.{◌∙◌}
use Rattle.std.specs.Prelude.{slice_get}
use Rattle.std.proofs.lemmas.Result.{IfOk-weaker}
use Rattle.bytecode_model.specs.Program.{AMethod}
use Rattle.program_tables.specs.Meanings.{HasShape}
use Rattle.program_tables.specs.Resolved.{resolved}
use Rattle.verifier_types.specs.Frame.{frame_seen}
use Rattle.verifier_types.specs.Locals.{lists_seen}
use Rattle.bytecode_verifier.proofs.FindLemmas.{by_call}
use Rattle.bytecode_verifier.proofs.LeadsLemmas.{some_there, method_there}
use Rattle.bytecode_verifier.proofs.MemberLemmas.{method_lost}
use Rattle.bytecode_verifier.proofs.rows.check_callee.Goals as goal

pub returns-in-None-clause-checks : goal.returns-in-None-clause-checks
returns-in-None-clause-checks c = λ s code i p st g. method_lost s (frame_seen (lists_seen c.args.lists.now) c.args.frame.now) code i c.args.method.0 c.args.method.1 c.args.family (resolved c.args.checking.now.program.now) p c.in-None.ensures

pub returns-in-Static-clause-checks : goal.returns-in-Static-clause-checks
returns-in-Static-clause-checks c = IfOk-weaker c.check_static.result _ _ (λ x q s code i p st g.
    let P = resolved c.args.checking.now.program.now in
    let k = some_there (slice_get P.methods c.args.method.1) (HasShape c.in-Some.shape.now) c.in-Some.ensures in
    q s c.args.method.1 k.0 st (method_there s P c.args.method.1 k.0 p k.1) k.2 (lists_seen c.args.lists.now)
    ∙ by_call s (frame_seen (lists_seen c.args.lists.now) c.args.frame.now) code i (AMethod c.args.method.0 c.args.method.1) c.args.family _ c.in-Static.is) c.check_static.ensures

pub returns-in-Special-clause-checks : goal.returns-in-Special-clause-checks
returns-in-Special-clause-checks c = IfOk-weaker c.check_special.result _ _ (λ x q s code i p st g.
    let P = resolved c.args.checking.now.program.now in
    let k = some_there (slice_get P.methods c.args.method.1) (HasShape c.in-Some.shape.now) c.in-Some.ensures in
    q s c.args.method.1 k.0 st g (method_there s P c.args.method.1 k.0 p k.1) k.2
    ∙ by_call s (frame_seen (lists_seen c.args.lists.now) c.args.frame.now) code i (AMethod c.args.method.0 c.args.method.1) c.args.family _ c.in-Special.is) c.check_special.ensures.checks

pub returns-in-Virtual-clause-checks : goal.returns-in-Virtual-clause-checks
returns-in-Virtual-clause-checks c = IfOk-weaker c.check_virtual.result _ _ (λ x q s code i p st g.
    let P = resolved c.args.checking.now.program.now in
    let k = some_there (slice_get P.methods c.args.method.1) (HasShape c.in-Some.shape.now) c.in-Some.ensures in
    q s c.args.method.1 k.0 st g (method_there s P c.args.method.1 k.0 p k.1) k.2 (lists_seen c.args.lists.now)
    ∙ by_call s (frame_seen (lists_seen c.args.lists.now) c.args.frame.now) code i (AMethod c.args.method.0 c.args.method.1) c.args.family _ c.in-Virtual.is) c.check_virtual.ensures.class

pub returns-in-Interface-clause-checks : goal.returns-in-Interface-clause-checks
returns-in-Interface-clause-checks c = IfOk-weaker c.check_virtual-in-Interface.result _ _ (λ x q s code i p st g.
    let P = resolved c.args.checking.now.program.now in
    let k = some_there (slice_get P.methods c.args.method.1) (HasShape c.in-Some.shape.now) c.in-Some.ensures in
    q s c.args.method.1 k.0 st g (method_there s P c.args.method.1 k.0 p k.1) k.2 (lists_seen c.args.lists.now)
    ∙ by_call s (frame_seen (lists_seen c.args.lists.now) c.args.frame.now) code i (AMethod c.args.method.0 c.args.method.1) c.args.family _ c.in-Interface.is) c.check_virtual-in-Interface.ensures.interface
