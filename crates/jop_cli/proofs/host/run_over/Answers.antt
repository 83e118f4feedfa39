use Rattle.std.proofs.Common.{refl, inr}
use Rattle.jop_cli.proofs.Calling.{new_status}
use Rattle.jop_cli.proofs.host.run_over.Goals as goal

pub returns : goal.returns
returns g c =
    inr (new_status c.args.words.now _ c.in-Ok.files.told c.in-Ok.files.faults _ c.new-2.result _ _ _ c.status_of_call.result c.in-Ok.ensures.words c.in-Ok.ensures.told c.in-Ok.ensures.counts
    c.new-2.ensures c.status_of_call.ensures refl refl)
