use Rattle.machine_stands.proofs.Operands.{one_on_top, two_on_top, one_pushed, parted, joined}
use Rattle.machine_stands.proofs.Counting.{operands_count}
use Rattle.machine_stands.proofs.operands_have_words.Goals as goal

pub returns-clause-one : goal.returns-clause-one
returns-clause-one c = one_on_top

pub returns-clause-two : goal.returns-clause-two
returns-clause-two c = two_on_top

pub returns-clause-pushed : goal.returns-clause-pushed
returns-clause-pushed c = one_pushed

pub returns-clause-parts : goal.returns-clause-parts
returns-clause-parts c = parted

pub returns-clause-joined : goal.returns-clause-joined
returns-clause-joined c = joined

pub returns-clause-count : goal.returns-clause-count
returns-clause-count c = operands_count
