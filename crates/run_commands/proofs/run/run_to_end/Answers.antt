use Rattle.std.proofs.Common.{arith}
use Rattle.endings.specs.Show.{shown_by}
use Rattle.run_commands.proofs.Ended.{unbroken, ran_so}
use Rattle.run_commands.proofs.run.run_to_end.Goals as goal

pub run_shown-end-requires : goal.run_shown-end-requires
run_shown-end-requires g c = (omega arith, (unbroken c.args.running.now c.requires.started, (c.requires.few, c.requires.named)))

pub returns-clause-ran : goal.returns-clause-ran
returns-clause-ran g c = λ h s.
    ran_so (shown_by c.args.shown.now) h c.args.running.now c.run_shown-end.new.running.machine c.machine.result.now c.args.limit _ _ c.run_shown-end.result c.counts_of.result s c.run_shown-end.ensures.runs c.machine.ensures c.counts_of.ensures
