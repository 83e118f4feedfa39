use Rattle.std.proofs.Common.{◌≡◌, ◌++◌, ◌*◌, ◌-◌, length}
use Rattle.base.specs.Packed.{words_from, words_for, words_of_bytes}
use Rattle.base.proofs.packed.pack.Given as goal

abbrev pub invariant-loop-k : goal.invariant-loop-k
invariant-loop-k l = l.words.items ++ words_from l.bytes (4 * l.k) (words_for (length l.bytes) - l.k) ≡ words_of_bytes l.bytes
