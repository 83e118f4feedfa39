use Rattle.std.proofs.Common.{◌≡◌, ℕ, ℤ, pos, true, false, ltb, List, arith, rules}
use Rattle.std.specs.List.Sorted.{IsPartitionPoint}
use Rattle.std.proofs.lemmas.List.Sorted.{IsPartitionPoint-from_clause, IsPartitionedBy-ltb}
use Rattle.section_check.proofs.Rising.{listed_rise, all_above, beyond_least, beyond_none, is_listed, listed_is}
use Rattle.section_check.proofs.placing.first_listed_beyond.Goals as goal

abbrev IsParted : List (ℕ × ℤ) → ℕ → ℕ → Type 0
IsParted ps n i = IsPartitionPoint (λ (p : ℕ × ℤ). ltb p.0 n ≡ true) (λ (p : ℕ × ℤ). ltb p.0 n ≡ false) ps i

pub returns-then-i-nodes : goal.returns-then-i-nodes
returns-then-i-nodes c =
    let ps = c.args.nodes.now in
    let n = c.args.n in
    let i = c.partition_point-i.result in
    let here = c.if-i-nodes.true in
    let rise = listed_rise ps c.requires in
    let parted : IsParted ps n i =
    IsPartitionPoint-from_clause (λ (p : ℕ × ℤ). ltb p.0 n) ps i c.partition_point-i.ensures.partitioned (IsPartitionedBy-ltb (λ (p : ℕ × ℤ). p.0) ps n rise) (λ a r f k. search rules)
    in (
      (is_listed ps i here, all_above (λ (p : ℕ × ℤ). p.0) ps n i parted i (0, pos 0) (omega arith) here),
      λ u less b.
          let at = listed_is ps u b.0 in
          let same = at.2 in
          let least = beyond_least (λ (p : ℕ × ℤ). p.0) ps n i rise parted at.0 (0, pos 0) (0, pos 0) here at.1 (omega arith) in
          omega arith,
    )

pub returns-else-i-nodes : goal.returns-else-i-nodes
returns-else-i-nodes c =
    let ps = c.args.nodes.now in
    let n = c.args.n in
    let i = c.partition_point-i.result in
    let parted : IsParted ps n i =
    IsPartitionPoint-from_clause (λ (p : ℕ × ℤ). ltb p.0 n) ps i c.partition_point-i.ensures.partitioned (IsPartitionedBy-ltb (λ (p : ℕ × ℤ). p.0) ps n (listed_rise ps c.requires)) (λ a r f k. search rules)
    in
    λ u b. let at = listed_is ps u b.0 in let same = at.2 in beyond_none (λ (p : ℕ × ℤ). p.0) ps n i parted at.0 (0, pos 0) c.if-i-nodes.false at.1 (omega arith)
