use Rattle.std.proofs.Common.{◌≡◌, ◌++◌, drop}
use Rattle.verifier_types.specs.Seen.{types_seen}
use Rattle.bytecode_verifier.specs.Listed.{words_of}
use Rattle.bytecode_verifier.proofs.names.spread.Given as goal

abbrev pub invariant-loop-item : goal.invariant-loop-item
invariant-loop-item l = types_seen l.words.items ++ words_of (types_seen (drop l.item-index l.types)) ≡ words_of (types_seen l.types)
