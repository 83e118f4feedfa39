use Rattle.std.proofs.Common.{◌≡◌, ◌++◌, ◌+◌, length, drop}
use Rattle.verifier_types.specs.Seen.{types_seen}
use Rattle.bytecode_verifier.specs.Listed.{words_of, starts_from}
use Rattle.bytecode_verifier.proofs.names.starts_of.Given as goal

abbrev pub invariant-loop-item : goal.invariant-loop-item
invariant-loop-item l =
    (l.starts.items ++ starts_from l.words (types_seen (drop l.item-index l.types)) ≡ starts_from 0 (types_seen l.types))
    × (l.words + length (words_of (types_seen (drop l.item-index l.types))) ≡ length (words_of (types_seen l.types)))
