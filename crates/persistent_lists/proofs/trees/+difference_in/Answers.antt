use Rattle.std.proofs.Common.{arith}
use Rattle.persistent_lists.proofs.SearchLemmas.{difference_past, leaf_difference, left_difference, right_difference, no_difference, index_left, index_right}
use Rattle.persistent_lists.proofs.trees.+difference_in.Goals as goal

pub returns-then-from-size_of-clause-found : goal.returns-then-from-size_of-clause-found
returns-then-from-size_of-clause-found t c = difference_past c.args.pairs.now c.args.height c.args.first c.args.second c.args.from (omega (arith, c.if-from-size_of.true, c.size_of.ensures))

pub returns-then-height-eq0-clause-found : goal.returns-then-height-eq0-clause-found
returns-then-height-eq0-clause-found t c =
    leaf_difference c.args.pairs.now c.args.height c.args.first c.args.second c.args.from c.if-height-eq0.true (omega (arith, c.if-from-size_of.false, c.size_of.ensures)) c.if-first-second.false

pub returns-in-Some-clause-found : goal.returns-in-Some-clause-found
returns-in-Some-clause-found t c =
    left_difference c.args.pairs.now c.args.height c.args.first c.args.second c.get-halves.result c.get-others.result c.get-halves.ensures c.get-others.ensures (omega (arith, c.if-height-eq0.false))
    c.args.from c.in-Some.index c.in-Some.ensures.within c.in-Some.ensures.found

pub returns-in-Some-clause-within : goal.returns-in-Some-clause-within
returns-in-Some-clause-within t c = index_left c.args.height c.in-Some.index (omega (arith, c.if-height-eq0.false)) c.in-Some.ensures.within

pub returns-in-Some-difference_in-clause-found : goal.returns-in-Some-difference_in-clause-found
returns-in-Some-difference_in-clause-found t c =
    right_difference c.args.pairs.now c.args.height c.args.first c.args.second c.get-halves.result c.get-others.result c.get-halves.ensures c.get-others.ensures (omega (arith, c.if-height-eq0.false))
    c.args.from c.in-Some-difference_in.index c.size_of-half.result c.saturating_sub-behind.result c.size_of-half.ensures c.saturating_sub-behind.ensures c.in_default.ensures.found c.in-Some-difference_in.ensures.found

pub returns-in-Some-difference_in-clause-within : goal.returns-in-Some-difference_in-clause-within
returns-in-Some-difference_in-clause-within t c = index_right c.args.height c.in-Some-difference_in.index c.size_of-half.result (omega (arith, c.if-height-eq0.false)) c.size_of-half.ensures c.in-Some-difference_in.ensures.within

pub returns-in-None-clause-found : goal.returns-in-None-clause-found
returns-in-None-clause-found t c =
    no_difference c.args.pairs.now c.args.height c.args.first c.args.second c.get-halves.result c.get-others.result c.get-halves.ensures c.get-others.ensures (omega (arith, c.if-height-eq0.false))
    c.args.from c.size_of-half.result c.saturating_sub-behind.result c.size_of-half.ensures c.saturating_sub-behind.ensures c.in_default.ensures.found c.in-None.ensures.found
