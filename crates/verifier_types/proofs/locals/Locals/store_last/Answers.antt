use Rattle.std.proofs.Common.{sym, ◌∙◌}
use Rattle.verifier_types.specs.Seen.{type_seen}
use Rattle.verifier_types.specs.Locals.{lists_seen, locals_seen}
use Rattle.verifier_types.proofs.WrittenLemmas.{last_long, last_short}
use Rattle.verifier_types.proofs.locals.Locals.store_last.Goals as goal

pub returns-then-is_long-clause-stored : goal.returns-then-is_long-clause-stored
returns-then-is_long-clause-stored c = last_long (locals_seen (lists_seen c.args.lists.now) c.args.self.now) c.args.index (type_seen c.args.item) c.requires.here c.requires.last (sym c.is_long.ensures ∙ c.if-is_long.true)

pub returns-clause-stored : goal.returns-clause-stored
returns-clause-stored c =
    last_short (locals_seen (lists_seen c.args.lists.now) c.args.self.now) (locals_seen (lists_seen c.write.new.lists) c.write.new.self) c.args.index (type_seen c.args.item) c.requires.here c.requires.last (sym c.is_long.ensures ∙ c.if-is_long.false) c.in_ok-write.ensures.written
