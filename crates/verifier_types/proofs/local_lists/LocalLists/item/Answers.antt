use Rattle.std.proofs.Common.{ap, sym, ◌∙◌}
use Rattle.std.specs.Prelude.{slice_get}
use Rattle.verifier_types.specs.Locals.{types_at, lists_seen}
use Rattle.verifier_types.proofs.NumberLemmas.{item_some, item_none}
use Rattle.verifier_types.proofs.local_lists.LocalLists.item.Goals as goal

pub returns-in-Some : goal.returns-in-Some
returns-in-Some c =
    item_some c.self.inside.types.keys c.self.inside.lists c.args.list c.args.index c.in-Some.number c.type_at.result (sym c.item.ensures ∙ c.in-Some.is) c.type_at.ensures
    ∙ ap (λ t. slice_get (types_at (lists_seen t) c.args.list) c.args.index) c.self.view_is

pub returns-in-None : goal.returns-in-None
returns-in-None c =
    item_none c.self.inside.types.keys c.self.inside.lists c.args.list c.args.index (sym c.item.ensures ∙ c.in-None.is)
    ∙ ap (λ t. slice_get (types_at (lists_seen t) c.args.list) c.args.index) c.self.view_is
