use Rattle.std.proofs.Common.{◌≡◌, ℕ, ◌<◌, true}
use Rattle.std.specs.Prelude.{slice_get}
use Rattle.program_tables.specs.Resolved.{resolved}
use Rattle.verifier_types.specs.Locals.{lists_seen, locals_seen}
use Rattle.verifier_types.specs.Compared.{stands}
use Rattle.verifier_types.proofs.compared.stand_in_turn.Given as goal

abbrev pub invariant-loop-index : goal.invariant-loop-index
invariant-loop-index l = (k : ℕ) → k < l.index → true ≡ stands (resolved l.lists.classes) (slice_get (locals_seen (lists_seen l.lists) l.from) k) (slice_get (locals_seen (lists_seen l.lists) l.to) k)
