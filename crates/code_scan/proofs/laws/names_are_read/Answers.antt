use Rattle.code_scan.proofs.NamedPlaces.{names_are_read, ends_are_read}
use Rattle.code_scan.proofs.laws.names_are_read.Goals as goal

pub returns-clause-names : goal.returns-clause-names
returns-clause-names c = names_are_read c.lines_are_read.ensures c.targets_fit_the_kind.ensures

pub returns-clause-ends : goal.returns-clause-ends
returns-clause-ends c = ends_are_read c.lines_are_read.ensures
