use Rattle.std.proofs.Common.{ap, ◌∙◌, ◌++◌, map, drop, ◌+◌}
use Rattle.program_tables.specs.Meanings.{handler_seen}
use Rattle.program_tables.specs.Resolved.{handler_of}
use Rattle.bytecode_verifier.proofs.ListLemmas.{pushed}
use Rattle.bytecode_verifier.proofs.methods.handlers_of.Goals as goal

pub loop-entry-preserved : goal.loop-entry-preserved
loop-entry-preserved c = λ k e.
    ap (λ hs. map handler_seen hs ++ map (handler_of c.args.program.now k) (drop (c.loop-entry.entry-index + 1) c.args.entries.now)) c.in_ok-push.ensures.items
    ∙ (pushed handler_seen (handler_of c.args.program.now k) c.loop-entry.handlers.items c.handler.result c.args.entries.now c.loop-entry.entry-index _ c.loop-entry-test.true (c.handler.ensures k e)
    ∙ c.loop-entry.invariant k e)
