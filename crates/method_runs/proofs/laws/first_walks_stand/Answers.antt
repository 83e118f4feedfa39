use Rattle.method_runs.proofs.Running.{unknown_walks_stand, boot_walks_stand}
use Rattle.method_runs.proofs.laws.first_walks_stand.Goals as goal

pub returns-clause-unknown : goal.returns-clause-unknown
returns-clause-unknown c = unknown_walks_stand

pub returns-clause-boot : goal.returns-clause-boot
returns-clause-boot c = boot_walks_stand
