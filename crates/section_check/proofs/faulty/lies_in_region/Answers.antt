use Rattle.std.proofs.Common.{get_or, refl}
use Rattle.section_check.proofs.Headed.{itself_at}
use Rattle.section_check.proofs.faulty.lies_in_region.Goals as goal

pub returns-then-is_region_around : goal.returns-then-is_region_around
returns-then-is_region_around c = λ l inner.
    let ls = c.args.loops.now in
    let k = c.loop-k.k in
    let at = itself_at ls k l c.loop-k-test.true in
    let facts = (c.is_region_around.ensures l (get_or ls k l) inner at).0 c.if-is_region_around.true in
    (λ t. record { place = k; other = get_or ls k l; at = at; apart = facts.0; region = facts.1; within = facts.2 }, λ x. refl)
