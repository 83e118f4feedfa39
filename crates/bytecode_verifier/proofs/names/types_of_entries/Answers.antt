use Rattle.std.proofs.Common.{ap, ◌∙◌, ◌++◌, ◌+◌, map, drop}
use Rattle.frame_types.specs.Steps.{named}
use Rattle.verifier_types.specs.Seen.{type_seen, types_seen}
use Rattle.bytecode_verifier.specs.Listed.{types_by}
use Rattle.bytecode_verifier.specs.Named.{type_by}
use Rattle.bytecode_verifier.proofs.ListLemmas.{pushed_twice}
use Rattle.bytecode_verifier.proofs.names.types_of_entries.Goals as goal

pub loop-entry-preserved : goal.loop-entry-preserved
loop-entry-preserved c = λ k e.
    let cs = c.args.of.now.program.now in
    ap (λ ts. types_seen ts ++ types_by cs (map (named k.pool) (drop (c.loop-entry.entry-index + 1) c.args.entries.now))) c.in_ok-push.ensures.items
    ∙ (pushed_twice type_seen (type_by cs) (named k.pool) c.loop-entry.found.items c.type_of_entry.result c.args.entries.now c.loop-entry.entry-index _ c.loop-entry-test.true (c.type_of_entry.ensures k e)
    ∙ c.loop-entry.invariant k e)
