use Rattle.std.proofs.Common.{◌≡◌, ℕ, ◌<◌, true, false, ltb, List, length, get_or, sym, ap, ◌∙◌, arith, rules}
use Rattle.std.specs.List.Sorted.{IsPartitionPoint, IsNonDecreasingBy}
use Rattle.std.proofs.lemmas.List.{get_or_default}
use Rattle.std.proofs.lemmas.List.Sorted.{IsPartitionPoint-from_clause, IsPartitionedBy-ltb, IsNonDecreasingBy-from_all_adjacent}
use Rattle.section_check.specs.Section.{CertifiedLoop, HeadersRise}
use Rattle.section_check.proofs.Rising.{none_before, none_there}
use Rattle.section_check.proofs.lookups.find_header.Goals as goal
use Rattle.section_check.proofs.lookups.find_header.Goals.{else-i-loops-via-then-i-loops+else-header-u, else-i-loops-via-else-i-loops}

abbrev header_of : CertifiedLoop → ℕ
header_of l = l.header

abbrev IsParted : List CertifiedLoop → ℕ → ℕ → Type 0
IsParted ls u i = IsPartitionPoint (λ (l : CertifiedLoop). ltb l.header u ≡ true) (λ (l : CertifiedLoop). ltb l.header u ≡ false) ls i

rise : (ls : List CertifiedLoop) → HeadersRise ls → IsNonDecreasingBy header_of ls
rise ls h = IsNonDecreasingBy-from_all_adjacent header_of ls h

pub returns-then-header-u : goal.returns-then-header-u
returns-then-header-u c =
    let ls = c.args.loops.now in
    let u = c.args.u in
    let i = c.partition_point-i.result in
    let l = c.index-loops-i.result in
    let parted : IsParted ls u i =
    IsPartitionPoint-from_clause (λ (k : CertifiedLoop). ltb k.header u) ls i c.partition_point-i.ensures.partitioned (IsPartitionedBy-ltb header_of ls u (rise ls c.requires)) (λ a r f k. search rules)
    in
    record {
      headed = l;
      at = (c.if-i-loops.true, sym c.index-loops-i.is);
      header = sym c.header.ensures ∙ c.if-header-u.true;
      first = λ k m lt at same. none_before header_of ls u i parted k m lt (ap header_of at.1 ∙ same);
    }

other_there : (ls : List CertifiedLoop) (u i h : ℕ) (l : CertifiedLoop) → i < length ls → l ≡ get_or ls i l → h ≡ l.header → (h ≡ u → ⊥) → (d : CertifiedLoop) → i < length ls → (get_or ls i d).header ≡ u → ⊥
other_there ls u i h l below is head other d lt same = other (head ∙ ap header_of (is ∙ get_or_default ls i l d below) ∙ same)

pub returns-else-i-loops : goal.returns-else-i-loops
returns-else-i-loops c =
    let ls = c.args.loops.now in
    let u = c.args.u in
    let i = c.partition_point-i.result in
    let parted : IsParted ls u i =
    IsPartitionPoint-from_clause (λ (k : CertifiedLoop). ltb k.header u) ls i c.partition_point-i.ensures.partitioned (IsPartitionedBy-ltb header_of ls u (rise ls c.requires)) (λ a r f k. search rules)
    in
    let other : (d : CertifiedLoop) → i < length ls → (get_or ls i d).header ≡ u → ⊥ =
    elim c.else-i-loops.branch [
      | else-i-loops-via-then-i-loops+else-header-u w ↦ other_there ls u i w.header.result w.index-loops-i.result w.if-i-loops.true w.index-loops-i.is w.header.ensures w.if-header-u.false
      | else-i-loops-via-else-i-loops w ↦ λ d lt same. let ge = w.if-i-loops.false in omega arith
    ]
    in
    λ k m at same. none_there header_of ls u i (rise ls c.requires) parted other k m at.0 (ap header_of at.1 ∙ same)
