use Rattle.std.proofs.Common.{◌≡◌, ℕ, ◌<◌, length}
use Rattle.loop_rules.specs.Further.Arrays.{length_at}
use Rattle.array_fields.specs.Contents.{content_at, flag_at}
use Rattle.array_fields.specs.Lengths.{length_kept}
use Rattle.array_fields.proofs.lengths.lengths_kept.Given as goal

abbrev pub invariant-loop-index : goal.invariant-loop-index
invariant-loop-index l = (length l.lengths.items ≡ l.index) × ((i : ℕ) → i < l.index → length_at l.lengths.items i ≡ length_kept (flag_at l.flags i) (content_at l.contents i))
