use Rattle.std.proofs.Common.{◌≡◌, ℕ, true, false, ltb, List, arith, rules}
use Rattle.std.specs.List.Sorted.{IsPartitionPoint}
use Rattle.std.proofs.lemmas.List.Elements.{Contains-get_or}
use Rattle.std.proofs.lemmas.List.Sorted.{IsPartitionPoint-from_clause, IsPartitionedBy-ltb}
use Rattle.section_check.proofs.Rising.{numbers_rise, all_above, beyond_least, beyond_none}
use Rattle.section_check.proofs.placing.first_beyond.Goals as goal

abbrev IsParted : List ℕ → ℕ → ℕ → Type 0
IsParted xs n i = IsPartitionPoint (λ (x : ℕ). ltb x n ≡ true) (λ (x : ℕ). ltb x n ≡ false) xs i

pub returns-then-i-nodes : goal.returns-then-i-nodes
returns-then-i-nodes c =
    let xs = c.args.nodes.now in
    let n = c.args.n in
    let i = c.partition_point-i.result in
    let here = c.if-i-nodes.true in
    let rise = numbers_rise xs c.requires in
    let parted : IsParted xs n i =
    IsPartitionPoint-from_clause (λ (x : ℕ). ltb x n) xs i c.partition_point-i.ensures.partitioned (IsPartitionedBy-ltb (λ (x : ℕ). x) xs n rise) (λ a r f k. search rules)
    in (
      (Contains-get_or xs i 0 here, all_above (λ (x : ℕ). x) xs n i parted i 0 (omega arith) here),
      λ u less b. let at = b.0.2 in let least = beyond_least (λ (x : ℕ). x) xs n i rise parted b.0.0 0 u here b.0.1 (omega arith) in omega arith,
    )

pub returns-else-i-nodes : goal.returns-else-i-nodes
returns-else-i-nodes c =
    let xs = c.args.nodes.now in
    let n = c.args.n in
    let i = c.partition_point-i.result in
    let parted : IsParted xs n i =
    IsPartitionPoint-from_clause (λ (x : ℕ). ltb x n) xs i c.partition_point-i.ensures.partitioned (IsPartitionedBy-ltb (λ (x : ℕ). x) xs n (numbers_rise xs c.requires)) (λ a r f k. search rules)
    in
    λ u b. let at = b.0.2 in beyond_none (λ (x : ℕ). x) xs n i parted b.0.0 u c.if-i-nodes.false b.0.1 (omega arith)
