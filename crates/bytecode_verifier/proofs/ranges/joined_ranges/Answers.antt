use Rattle.std.proofs.Common.{rules}
use Rattle.bytecode_verifier.proofs.HeldLemmas.{permuted_alike}
use Rattle.bytecode_verifier.proofs.RangeLemmas.{alike_through, deduped_alike}
use Rattle.bytecode_verifier.proofs.ranges.joined_ranges.Goals as goal

pub returns : goal.returns
returns c =
    alike_through _ _ _
    (deduped_alike _ (λ s next last b t next' last' called. search rules) _ _ _ c.dedup_by.ensures.filtered)
    (permuted_alike _ _ c.sort_unstable_by_key.ensures.permutation)
