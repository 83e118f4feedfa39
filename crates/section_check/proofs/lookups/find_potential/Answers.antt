use Rattle.std.proofs.Common.{◌≡◌, ℕ, ◌<◌, ℤ, pos, true, false, ltb, List, length, get_or, Some, sym, ap, ◌∙◌, arith, rules}
use Rattle.std.specs.List.Sorted.{IsPartitionPoint}
use Rattle.std.proofs.lemmas.List.{get_or_default}
use Rattle.std.proofs.lemmas.List.Sorted.{IsPartitionPoint-from_clause, IsPartitionedBy-ltb}
use Rattle.std.proofs.lemmas.Int.{to_z-of_z}
use mir.Val.{SFits}
use mir.Syntax.{w128}
use Rattle.section_check.proofs.Rising.{listed_rise, potential_at, potential_none, none_before, none_there}
use Rattle.section_check.proofs.lookups.find_potential.Goals as goal
use Rattle.section_check.proofs.lookups.find_potential.Goals.{else-i-nodes-via-then-i-nodes+else-nodes-i, else-i-nodes-via-else-i-nodes}

abbrev IsParted : List (ℕ × ℤ) → ℕ → ℕ → Type 0
IsParted ps u i = IsPartitionPoint (λ (p : ℕ × ℤ). ltb p.0 u ≡ true) (λ (p : ℕ × ℤ). ltb p.0 u ≡ false) ps i

pub returns-then-nodes-i-clause-value : goal.returns-then-nodes-i-clause-value
returns-then-nodes-i-clause-value c =
    let ps = c.args.nodes.now in
    let u = c.args.u in
    let i = c.partition_point-i.result in
    let parted : IsParted ps u i =
    IsPartitionPoint-from_clause (λ (p : ℕ × ℤ). ltb p.0 u) ps i c.partition_point-i.ensures.partitioned (IsPartitionedBy-ltb (λ (p : ℕ × ℤ). p.0) ps u (listed_rise ps c.requires.nodes)) (λ a r f k. search rules)
    in
    let found = potential_at ps u i (0, pos 0) c.if-i-nodes.true c.if-nodes-i.true (λ k lt same. none_before (λ (p : ℕ × ℤ). p.0) ps u i parted k (0, pos 0) lt same) in
    let fits : SFits w128 (get_or ps i (0, pos 0)).1 = search rules in
    ap (λ (z : ℤ). Some z) (to_z-of_z w128 (get_or ps i (0, pos 0)).1 fits) ∙ sym found

pub returns-else-i-nodes-clause-value : goal.returns-else-i-nodes-clause-value
returns-else-i-nodes-clause-value c =
    let ps = c.args.nodes.now in
    let u = c.args.u in
    let i = c.partition_point-i.result in
    let parted : IsParted ps u i =
    IsPartitionPoint-from_clause (λ (p : ℕ × ℤ). ltb p.0 u) ps i c.partition_point-i.ensures.partitioned (IsPartitionedBy-ltb (λ (p : ℕ × ℤ). p.0) ps u (listed_rise ps c.requires.nodes)) (λ a r f k. search rules)
    in
    let other : (d : ℕ × ℤ) → i < length ps → (get_or ps i d).0 ≡ u → ⊥ =
    elim c.else-i-nodes.branch [
      | else-i-nodes-via-then-i-nodes+else-nodes-i w ↦
          λ d lt same. let no' = w.if-nodes-i.false in no' (ap (λ (p : ℕ × ℤ). p.0) (get_or_default ps i (0, pos 0) d lt) ∙ same)
      | else-i-nodes-via-else-i-nodes w ↦ λ d lt same. let ge = w.if-i-nodes.false in omega arith
    ]
    in
    sym (potential_none ps u (0, pos 0) (λ k lt same. none_there (λ (p : ℕ × ℤ). p.0) ps u i (listed_rise ps c.requires.nodes) parted other k (0, pos 0) lt same))
