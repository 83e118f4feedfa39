use Rattle.std.proofs.Common.{ℕ, ◌+◌, ◌<◌, eqb, List, Contains, sym, subst}
use Rattle.std.proofs.lemmas.List.Filters.{dedup_is}
use Rattle.section_check.specs.Section.{CertifiedLoop}
use Rattle.section_check.specs.Placing.{IsEntryAt}
use Rattle.section_index.proofs.Ranks.{among_more, members_are_numbers}
use Rattle.section_index.proofs.numbering.members.Goals as goal

pub loop-i-preserved : goal.loop-i-preserved
loop-i-preserved c =
    let ls = c.args.loops.now in
    let P : List ℕ → Type 0 = λ ms. (j : ℕ) (l : CertifiedLoop) (x : ℕ) → j < c.loop-i.i + 1 → IsEntryAt ls j l → Contains l.members x → Contains ms x in
    subst P (sym c.in_ok-extend_from_slice.ensures.items) (among_more ls c.loop-i.i c.index-loops-i.result c.loop-i.members.items c.members.result.now c.index-loops-i.is c.members.ensures c.loop-i.invariant)

pub returns : goal.returns
returns c =
    let sorted = c.sort_unstable.new.self.items in
    members_are_numbers c.args.loops.now c.loop-i.i c.loop-i.members.items sorted c.dedup.new.self.items c.loop-i-test.false c.loop-i.invariant c.sort_unstable.ensures.permutation c.sort_unstable.ensures.sorted (dedup_is eqb sorted c.dedup.new.self.items c.dedup.ensures.filtered)
