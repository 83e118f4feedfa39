use Rattle.std.proofs.Common.{sym, ap, ◌∙◌}
use Rattle.std.specs.Option.{option_map}
use Rattle.verifier_types.specs.Seen.{type_seen}
use Rattle.verifier_types.specs.Locals.{lists_seen, locals_seen}
use Rattle.verifier_types.proofs.WrittenLemmas.{none_stored}
use Rattle.verifier_types.proofs.locals.Locals.store_at.Goals as goal

pub returns-then-index-max_locals-clause-stored : goal.returns-then-index-max_locals-clause-stored
returns-then-index-max_locals-clause-stored c =
    none_stored (locals_seen (lists_seen c.args.lists.now) c.args.self.now) c.args.index (type_seen c.args.item) (c.max_locals.ensures.beyond c.args.self.now.list c.args.index c.if-index-max_locals.true)

pub returns-in-None-default-clause-stored : goal.returns-in-None-default-clause-stored
returns-in-None-default-clause-stored c = none_stored (locals_seen (lists_seen c.args.lists.now) c.args.self.now) c.args.index (type_seen c.args.item) (sym c.local.ensures ∙ ap (option_map type_seen) c.in-None-default.is-0)
