use Rattle.source_headers.proofs.LawLemmas as law
use Rattle.source_headers.proofs.laws.kept_notes_are_kept.Goals as goal

pub returns-clause-kept : goal.returns-clause-kept
returns-clause-kept c = law.kept

pub returns-clause-exact : goal.returns-clause-exact
returns-clause-exact c = law.exact
