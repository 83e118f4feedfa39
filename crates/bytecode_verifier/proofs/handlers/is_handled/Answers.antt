use Rattle.std.proofs.Common.{rules}
use Rattle.verifier_types.specs.Locals.{lists_seen}
use Rattle.bytecode_verifier.proofs.handlers.is_handled.Goals as goal

pub returns-in-None-frame_at-clause-handled : goal.returns-in-None-frame_at-clause-handled
returns-in-None-frame_at-clause-handled c = let there = c.in-None-frame_at.ensures (lists_seen c.args.lists.now) in search rules
