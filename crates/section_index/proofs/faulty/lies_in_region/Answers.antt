use Rattle.std.proofs.Common.{◌≡◌, ℕ, List, get_or, refl, sym, ap, ◌∙◌}
use Rattle.std.proofs.lemmas.Bool.{false≢true}
use Rattle.section_check.specs.Section.{CertifiedLoop}
use Rattle.section_check.specs.Placing.{IsEntryAt}
use Rattle.section_check.proofs.Headed.{itself_at}
use Rattle.section_check.proofs.LeastLemmas.{same_at}
use Rattle.section_index.proofs.Faults.{holder_among, no_region_more, no_region, no_number}
use Rattle.section_index.proofs.faulty.lies_in_region.Goals as goal

header_is : (ls : List CertifiedLoop) (i h : ℕ) (l r : CertifiedLoop) → h ≡ r.header → IsEntryAt ls i l → r ≡ get_or ls i r → h ≡ l.header
header_is ls i h l r head at is = head ∙ ap (λ (m : CertifiedLoop). m.header) (same_at ls i l r at is)

pub returns-in_default : goal.returns-in_default
returns-in_default c = λ l at has. (
  λ t. absurd (false≢true t),
  λ r. absurd (no_number c.args.loops.now c.args.numbers.now c.args.i c.header.result l c.place.result c.requires.numbers c.in_default.is c.place.ensures.place at (header_is c.args.loops.now c.args.i c.header.result l c.index-loops-i.result c.header.ensures at c.index-loops-i.is) has),
)

pub is_region_around-requires-clause-outer : goal.is_region_around-requires-clause-outer
is_region_around-requires-clause-outer c = holder_among c.args.loops.now c.args.numbers.now c.args.holders.now c.of-around.result.now c.in-Some.p c.loop-k.k-index c.requires.holders c.in-Some.ensures.place.below c.of-around.ensures c.loop-k-test.true

pub returns-then-is_region_around : goal.returns-then-is_region_around
returns-then-is_region_around c = λ l at has.
    let ls = c.args.loops.now in
    let k = get_or c.of-around.result.now c.loop-k.k-index 0 in
    let there = itself_at ls k l (holder_among c.args.loops.now c.args.numbers.now c.args.holders.now c.of-around.result.now c.in-Some.p c.loop-k.k-index c.requires.holders c.in-Some.ensures.place.below c.of-around.ensures c.loop-k-test.true) in
    let facts = (c.is_region_around.ensures l (get_or ls k l) at there).0 c.if-is_region_around.true in
    (λ t. record { place = k; other = get_or ls k l; at = there; apart = facts.0; region = facts.1; within = facts.2 }, λ r. refl)

pub loop-k-preserved : goal.loop-k-preserved
loop-k-preserved c =
    no_region_more c.args.loops.now c.args.i c.of-around.result.now c.loop-k.k-index (λ l m at_i at_k facts. false≢true (sym c.if-is_region_around.false ∙ (c.is_region_around.ensures l m at_i at_k).1 facts)) c.loop-k.invariant

pub returns : goal.returns
returns c = λ l at has. (
  λ t. absurd (false≢true t),
  λ r. absurd (no_region c.args.loops.now c.args.numbers.now c.args.holders.now c.of-around.result.now c.args.i c.in-Some.p c.header.result c.loop-k.k-index l c.requires.holders c.in-Some.ensures.place (header_is c.args.loops.now c.args.i c.header.result l c.index-loops-i.result c.header.ensures at c.index-loops-i.is) c.of-around.ensures c.loop-k-test.false at has c.loop-k.invariant r),
)
