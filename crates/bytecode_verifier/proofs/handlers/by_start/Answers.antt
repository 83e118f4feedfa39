use Rattle.std.proofs.Common.{rules}
use Rattle.std.proofs.lemmas.List.Sorted.{IsNonDecreasingBy-from_sort_by_key}
use Rattle.bytecode_verifier.proofs.HeldLemmas.{permuted_alike}
use Rattle.bytecode_verifier.proofs.RangeLemmas.{alike_through}
use Rattle.bytecode_verifier.proofs.handlers.by_start.Goals as goal

pub invariant_of-result : goal.invariant_of-result
invariant_of-result c = record { rising = IsNonDecreasingBy-from_sort_by_key (λ h. h.start) _ c.sort_unstable_by_key.ensures.sorted (λ a r q k. search rules) }

pub returns : goal.returns
returns c = alike_through _ _ _ (permuted_alike _ _ c.sort_unstable_by_key.ensures.permutation) c.joined_ranges-handlers.ensures
