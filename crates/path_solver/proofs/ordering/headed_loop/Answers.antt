use Rattle.std.proofs.Common.{◌≡◌, ℕ, ◌<◌, true, false, ltb, List, length, get_or, sym, ap, ◌∙◌, arith, rules}
use Rattle.std.specs.List.Sorted.{IsPartitionPoint}
use Rattle.std.proofs.lemmas.List.{get_or_default}
use Rattle.std.proofs.lemmas.List.Sorted.{IsPartitionPoint-from_clause, IsPartitionedBy-ltb}
use Rattle.loop_nest.specs.Nest.{NaturalLoop}
use Rattle.section_check.proofs.Rising.{none_there}
use Rattle.path_solver.proofs.Loops.{header_of, headers_rise}
use Rattle.path_solver.proofs.ordering.headed_loop.Goals as goal
use Rattle.path_solver.proofs.ordering.headed_loop.Goals.{else-i-loops-via-then-i-loops+else-header-u, else-i-loops-via-else-i-loops}

abbrev IsParted : List NaturalLoop → ℕ → ℕ → Type 0
IsParted ls u i = IsPartitionPoint (λ (l : NaturalLoop). ltb l.header u ≡ true) (λ (l : NaturalLoop). ltb l.header u ≡ false) ls i

pub returns-then-header-u : goal.returns-then-header-u
returns-then-header-u c =
    record {
      headed = c.index-loops-i.result;
      at = (c.if-i-loops.true, sym c.index-loops-i.is);
      header = sym c.header.ensures ∙ c.if-header-u.true;
    }

other_there : (ls : List NaturalLoop) (u i h : ℕ) (l : NaturalLoop) → i < length ls → l ≡ get_or ls i l → h ≡ l.header → (h ≡ u → ⊥) → (d : NaturalLoop) → i < length ls → (get_or ls i d).header ≡ u → ⊥
other_there ls u i h l below is head other d lt same = other (head ∙ ap header_of (is ∙ get_or_default ls i l d below) ∙ same)

pub returns-else-i-loops : goal.returns-else-i-loops
returns-else-i-loops c =
    let ls = c.args.loops.now in
    let u = c.args.u in
    let i = c.partition_point-i.result in
    let parted : IsParted ls u i =
    IsPartitionPoint-from_clause (λ (k : NaturalLoop). ltb k.header u) ls i c.partition_point-i.ensures.partitioned (IsPartitionedBy-ltb header_of ls u (headers_rise ls c.requires)) (λ a r f k. search rules)
    in
    let other : (d : NaturalLoop) → i < length ls → (get_or ls i d).header ≡ u → ⊥ =
    elim c.else-i-loops.branch [
      | else-i-loops-via-then-i-loops+else-header-u w ↦ other_there ls u i w.header.result w.index-loops-i.result w.if-i-loops.true w.index-loops-i.is w.header.ensures w.if-header-u.false
      | else-i-loops-via-else-i-loops w ↦ λ d lt same. let ge = w.if-i-loops.false in omega arith
    ]
    in
    λ k m at same. none_there header_of ls u i (headers_rise ls c.requires) parted other k m at.0 (ap header_of at.1 ∙ same)
