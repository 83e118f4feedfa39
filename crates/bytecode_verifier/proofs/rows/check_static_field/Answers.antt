use Rattle.std.proofs.Common.{◌∙◌}
use Rattle.std.proofs.lemmas.Result.{IfOk-weaker}
use Rattle.bytecode_model.specs.Rows as rows
use Rattle.program_tables.specs.Resolved.{resolved}
use Rattle.verifier_types.specs.Frame.{frame_seen}
use Rattle.bytecode_verifier.proofs.MemberLemmas.{static_lost, static_there, if_writes, if_reads}
use Rattle.bytecode_verifier.proofs.rows.check_static_field.Goals as goal

pub returns-in-Some : goal.returns-in-Some
returns-in-Some c = λ s p st ls.
    let P = resolved c.args.checking.now.program.now in
    c.check_put_static.ensures s c.args.index st (static_there s c.args.index P c.in-Some.declared p c.in-Some.ensures) ls
    ∙ if_writes s (frame_seen ls c.args.frame.now) c.args.writes (rows.PutStatic c.args.index) (rows.GetStatic c.args.index) c.if-writes.true

pub returns-in-Some-2 : goal.returns-in-Some-2
returns-in-Some-2 c = IfOk-weaker c.check_get_static.result _ _ (λ x q s p st ls.
    let P = resolved c.args.checking.now.program.now in
    q s c.args.index (static_there s c.args.index P c.in-Some.declared p c.in-Some.ensures) ls
    ∙ if_reads s (frame_seen ls c.args.frame.now) c.args.writes (rows.PutStatic c.args.index) (rows.GetStatic c.args.index) c.if-writes.false) c.check_get_static.ensures

pub returns-in-None : goal.returns-in-None
returns-in-None c = λ s p st ls. static_lost s (frame_seen ls c.args.frame.now) c.args.index c.args.writes (resolved c.args.checking.now.program.now) p c.in-None.ensures
