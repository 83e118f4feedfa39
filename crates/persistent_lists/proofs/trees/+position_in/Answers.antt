use Rattle.std.proofs.Common.{false, arith, subst}
use Rattle.std.specs.Prelude.{IsTrue}
use Rattle.persistent_lists.proofs.SearchLemmas.{position_past, leaf_position, no_leaf_position, left_position, right_position, no_position, no_position_twice, index_left, index_right}
use Rattle.persistent_lists.proofs.ResidueLemmas.{left_with_residues, right_with_residues, absent_item}
use Rattle.persistent_lists.proofs.trees.+position_in.Goals as goal

pub returns-then-from-size_of-clause-found : goal.returns-then-from-size_of-clause-found
returns-then-from-size_of-clause-found t c = position_past c.args.pairs.now c.args.height c.args.node c.args.item c.args.from (omega (arith, c.if-from-size_of.true, c.size_of.ensures))

pub returns-then-node-item-clause-found : goal.returns-then-node-item-clause-found
returns-then-node-item-clause-found t c =
    leaf_position c.args.pairs.now c.args.height c.args.node c.args.item c.args.from c.if-height-eq0.true (omega (arith, c.if-from-size_of.false, c.size_of.ensures)) c.if-node-item.true

pub returns-else-node-item-clause-found : goal.returns-else-node-item-clause-found
returns-else-node-item-clause-found t c = no_leaf_position c.args.pairs.now c.args.height c.args.node c.args.item c.args.from c.if-height-eq0.true c.if-node-item.false

pub returns-then-not-may_hold-clause-found : goal.returns-then-not-may_hold-clause-found
returns-then-not-may_hold-clause-found t c =
    absent_item c.args.pairs.now c.args.residues.now c.args.height c.args.node c.args.item c.args.from c.at.result (omega (arith, c.if-height-eq0.false)) c.at.ensures (λ holds. let no : IsTrue false = subst IsTrue c.if-not-may_hold.true (c.may_hold.ensures holds) in cc) c.requires.marked

pub position_in-requires : goal.position_in-requires
position_in-requires t c = (
  omega (arith, c.decreases, c.if-height-eq0.false),
  (
    omega (arith, c.requires.height),
    left_with_residues c.args.pairs.now c.args.residues.now c.args.height c.args.node c.get-halves.result c.get-halves.ensures (omega (arith, c.if-height-eq0.false)) c.requires.marked,
  ),
)

pub position_in-requires-2 : goal.position_in-requires-2
position_in-requires-2 t c = (
  omega (arith, c.decreases, c.if-height-eq0.false),
  (
    omega (arith, c.requires.height),
    right_with_residues c.args.pairs.now c.args.residues.now c.args.height c.args.node c.get-halves.result c.get-halves.ensures (omega (arith, c.if-height-eq0.false)) c.requires.marked,
  ),
)

pub returns-in-Some-clause-found : goal.returns-in-Some-clause-found
returns-in-Some-clause-found t c =
    left_position c.args.pairs.now c.args.height c.args.node c.args.item c.get-halves.result c.get-halves.ensures (omega (arith, c.if-height-eq0.false)) c.args.from c.in-Some.index c.in-Some.ensures.within c.in-Some.ensures.found

pub returns-in-Some-clause-within : goal.returns-in-Some-clause-within
returns-in-Some-clause-within t c = index_left c.args.height c.in-Some.index (omega (arith, c.if-height-eq0.false)) c.in-Some.ensures.within

pub returns-then-halves-clause-found : goal.returns-then-halves-clause-found
returns-then-halves-clause-found t c =
    no_position_twice c.args.pairs.now c.args.height c.args.node c.args.item c.get-halves.result c.get-halves.ensures (omega (arith, c.if-height-eq0.false)) c.args.from c.if-halves.true c.if-from-eq0.true c.in_default.ensures.found

pub returns-in-Some-position_in-clause-found : goal.returns-in-Some-position_in-clause-found
returns-in-Some-position_in-clause-found t c =
    right_position c.args.pairs.now c.args.height c.args.node c.args.item c.get-halves.result c.get-halves.ensures (omega (arith, c.if-height-eq0.false))
    c.args.from c.in-Some-position_in.index c.size_of-half.result c.saturating_sub-behind.result c.size_of-half.ensures c.saturating_sub-behind.ensures c.in_default.ensures.found c.in-Some-position_in.ensures.found

pub returns-in-Some-position_in-clause-within : goal.returns-in-Some-position_in-clause-within
returns-in-Some-position_in-clause-within t c = index_right c.args.height c.in-Some-position_in.index c.size_of-half.result (omega (arith, c.if-height-eq0.false)) c.size_of-half.ensures c.in-Some-position_in.ensures.within

pub returns-in-None-clause-found : goal.returns-in-None-clause-found
returns-in-None-clause-found t c =
    no_position c.args.pairs.now c.args.height c.args.node c.args.item c.get-halves.result c.get-halves.ensures (omega (arith, c.if-height-eq0.false))
    c.args.from c.size_of-half.result c.saturating_sub-behind.result c.size_of-half.ensures c.saturating_sub-behind.ensures c.in_default.ensures.found c.in-None.ensures.found
