use Rattle.std.proofs.Common.{ap, sym, ◌∙◌}
use Rattle.std.specs.Prelude.{slice_get}
use Rattle.verifier_types.specs.Locals.{types_at, lists_seen}
use Rattle.verifier_types.proofs.NumberLemmas.{beyond_seen}
use Rattle.verifier_types.proofs.local_lists.LocalLists.max_locals.Goals as goal

pub returns-clause-beyond : goal.returns-clause-beyond
returns-clause-beyond c = λ n i le. ap (λ t. slice_get (types_at (lists_seen t) n) i) (sym c.self.view_is) ∙ beyond_seen c.self.inside.types.keys c.self.inside.lists n i (c.width.ensures.beyond n i le)
