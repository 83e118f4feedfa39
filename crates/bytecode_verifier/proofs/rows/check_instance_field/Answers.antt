use Rattle.std.proofs.Common.{◌∙◌}
use Rattle.std.proofs.lemmas.Result.{IfOk-weaker}
use Rattle.bytecode_model.specs.Rows as rows
use Rattle.program_tables.specs.Resolved.{resolved}
use Rattle.verifier_types.specs.Frame.{frame_seen}
use Rattle.bytecode_verifier.proofs.MemberLemmas.{field_lost, field_there, if_writes, if_reads}
use Rattle.bytecode_verifier.proofs.rows.check_instance_field.Goals as goal

pub returns-in-Some : goal.returns-in-Some
returns-in-Some c = λ s p st g ls.
    let P = resolved c.args.checking.now.program.now in
    let x = c.args.field in
    c.check_put_field.ensures s x.2 st g (field_there s x.1 x.2 P c.in-Some.held p c.in-Some.ensures) ls
    ∙ if_writes s (frame_seen ls c.args.frame.now) c.args.writes (rows.PutField x.0 x.1 x.2) (rows.GetField x.0 x.1 x.2) c.if-writes.true

pub returns-in-Some-2 : goal.returns-in-Some-2
returns-in-Some-2 c = IfOk-weaker c.check_get_field.result _ _ (λ y q s p st g ls.
    let P = resolved c.args.checking.now.program.now in
    let x = c.args.field in
    q s x.1 x.2 st g (field_there s x.1 x.2 P c.in-Some.held p c.in-Some.ensures) ls
    ∙ if_reads s (frame_seen ls c.args.frame.now) c.args.writes (rows.PutField x.0 x.1 x.2) (rows.GetField x.0 x.1 x.2) c.if-writes.false) c.check_get_field.ensures

pub returns-in-None : goal.returns-in-None
returns-in-None c = λ s p st g ls.
    let x = c.args.field in field_lost s (frame_seen ls c.args.frame.now) x.0 x.1 x.2 c.args.writes (resolved c.args.checking.now.program.now) p c.in-None.ensures
