use Rattle.std.proofs.Common.{sym}
use Rattle.persistent_lists.proofs.TableLemmas.{beyond_width}
use Rattle.persistent_lists.proofs.shared.SharedLists.width.Goals as goal

pub returns-clause-beyond : goal.returns-clause-beyond
returns-clause-beyond c = λ n i le. beyond_width c.args.self.now c.self.inside.width c.self.inside.rest c.self.inside.height c.self.inside.pairs c.self.inside.roots.items n i (sym c.self.view_is) le
