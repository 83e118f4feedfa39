use Rattle.bound_causes.proofs.Compacting.{compact_keeps_headers, compact_keeps_members, compact_keeps_nests}
use Rattle.bound_causes.proofs.laws.compact_keeps_loops.Goals as goal

pub returns-clause-headers : goal.returns-clause-headers
returns-clause-headers c = compact_keeps_headers

pub returns-clause-members : goal.returns-clause-members
returns-clause-members c = compact_keeps_members

pub returns-clause-nests : goal.returns-clause-nests
returns-clause-nests c = compact_keeps_nests
