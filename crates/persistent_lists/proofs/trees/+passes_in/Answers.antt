use Rattle.std.proofs.Common.{true, false, arith}
use Rattle.persistent_lists.proofs.AnswerLemmas.{leaf_answered, left_lost, same_answered, halves_answered}
use Rattle.persistent_lists.proofs.KnownLemmas.{remembered_answered, grown_pass}
use Rattle.persistent_lists.proofs.trees.+passes_in.Goals as goal

pub returns-then-height-eq0-clause-answered : goal.returns-then-height-eq0-clause-answered
returns-then-height-eq0-clause-answered g t c = leaf_answered (goal.F-post g c.args.test.now) c.args.pairs.now c.args.height c.args.width c.args.first c.args.second c.test.result c.if-height-eq0.true (omega arith) c.test.ensures

pub returns-then-contains-clause-answered : goal.returns-then-contains-clause-answered
returns-then-contains-clause-answered g t c =
    remembered_answered (goal.F-post g c.args.test.now) c.args.pairs.now c.args.known.now (record { height = c.args.height; first = c.args.first; second = c.args.second }) c.args.width c.requires.known
    (c.contains.ensures c.if-contains.true)

pub returns-then-not-passes_in-clause-answered : goal.returns-then-not-passes_in-clause-answered
returns-then-not-passes_in-clause-answered g t c =
    left_lost (goal.F-post g c.args.test.now) c.args.pairs.now c.args.height c.args.first c.args.second c.args.width c.get-halves.result c.get-others.result c.get-halves.ensures c.get-others.ensures (omega (arith, c.if-height-eq0.false))
    c.if-not-passes_in.ensures.answered

pub returns-then-others-clause-answered : goal.returns-then-others-clause-answered
returns-then-others-clause-answered g t c =
    same_answered (goal.F-post g c.args.test.now) c.args.pairs.now c.args.height c.args.first c.args.second c.args.width c.get-halves.result c.get-others.result c.get-halves.ensures c.get-others.ensures (omega (arith, c.if-height-eq0.false))
    c.if-halves.true c.if-others.true c.if-not-passes_in.ensures.answered

pub returns-then-others-clause-known : goal.returns-then-others-clause-known
returns-then-others-clause-known g t c =
    grown_pass (goal.F-post g c.args.test.now) c.args.pairs.now c.passes_in.new.known c.remember.new.known (record { height = c.args.height; first = c.args.first; second = c.args.second }) c.args.width
    c.if-not-passes_in.ensures.known c.requires.trees
    (same_answered (goal.F-post g c.args.test.now) c.args.pairs.now c.args.height c.args.first c.args.second c.args.width c.get-halves.result c.get-others.result c.get-halves.ensures c.get-others.ensures (omega (arith, c.if-height-eq0.false))
    c.if-halves.true c.if-others.true c.if-not-passes_in.ensures.answered)
    c.remember.ensures

pub returns-then-not-passes_in-2-clause-answered : goal.returns-then-not-passes_in-2-clause-answered
returns-then-not-passes_in-2-clause-answered g t c =
    halves_answered (goal.F-post g c.args.test.now) c.args.pairs.now c.args.height c.args.first c.args.second c.args.width c.get-halves.result c.get-others.result c.get-halves.ensures c.get-others.ensures (omega (arith, c.if-height-eq0.false))
    c.size_of.result c.saturating_sub-behind.result false c.size_of.ensures c.saturating_sub-behind.ensures c.if-not-passes_in.ensures.answered c.if-not-passes_in-2.ensures.answered

pub returns-clause-answered : goal.returns-clause-answered
returns-clause-answered g t c =
    halves_answered (goal.F-post g c.args.test.now) c.args.pairs.now c.args.height c.args.first c.args.second c.args.width c.get-halves.result c.get-others.result c.get-halves.ensures c.get-others.ensures (omega (arith, c.if-height-eq0.false))
    c.size_of.result c.saturating_sub-behind.result true c.size_of.ensures c.saturating_sub-behind.ensures c.if-not-passes_in.ensures.answered c.if-not-passes_in-2.ensures.answered

pub returns-clause-known : goal.returns-clause-known
returns-clause-known g t c =
    grown_pass (goal.F-post g c.args.test.now) c.args.pairs.now c.passes_in-2.new.known c.remember-2.new.known (record { height = c.args.height; first = c.args.first; second = c.args.second }) c.args.width
    c.if-not-passes_in-2.ensures.known c.requires.trees
    (halves_answered (goal.F-post g c.args.test.now) c.args.pairs.now c.args.height c.args.first c.args.second c.args.width c.get-halves.result c.get-others.result c.get-halves.ensures c.get-others.ensures (omega (arith, c.if-height-eq0.false))
    c.size_of.result c.saturating_sub-behind.result true c.size_of.ensures c.saturating_sub-behind.ensures c.if-not-passes_in.ensures.answered c.if-not-passes_in-2.ensures.answered)
    c.remember-2.ensures
