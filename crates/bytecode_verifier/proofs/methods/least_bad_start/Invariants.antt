use Rattle.std.proofs.Common.{◌≡◌, drop}
use Rattle.bytecode_verifier.specs.Failure.{is_bad_entry, lesser}
use Rattle.bytecode_verifier.proofs.TableLemmas.{least_start}
use Rattle.bytecode_verifier.proofs.methods.least_bad_start.Given as goal

abbrev pub invariant-loop-entry : goal.invariant-loop-entry
invariant-loop-entry l = lesser l.found (least_start (is_bad_entry l.code) (drop l.entry-index l.entries)) ≡ least_start (is_bad_entry l.code) l.entries
