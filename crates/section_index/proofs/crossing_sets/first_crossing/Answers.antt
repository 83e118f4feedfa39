use Rattle.section_index.proofs.Crossings.{none_crosses, first_crosses}
use Rattle.section_index.proofs.crossing_sets.first_crossing.Goals as goal

pub returns-in_default : goal.returns-in_default
returns-in_default c =
    none_crosses c.args.family.now.sets c.deref.result.now c.in_ok-order.order.items c.len.result c.in_ok-split.field-0 c.deref.ensures.value c.len.ensures.count c.in_default.is c.in_ok-order.ensures c.len.ensures.valid.rising c.in_ok-split.ensures

pub returns : goal.returns
returns c =
    first_crosses c.args.family.now.sets c.deref.result.now c.deref-2.result.now c.in_ok-order.order.items c.len.result c.in-Some.split c.in_ok-split.field-0 c.in_ok-splitting.splitting c.lesser.result c.deref.ensures.value c.deref-2.ensures.value c.len.ensures.count c.in-Some.is
    c.lesser.ensures c.in_ok-order.ensures c.len.ensures.valid.rising c.in_ok-split.ensures c.in_ok-splitting.ensures
