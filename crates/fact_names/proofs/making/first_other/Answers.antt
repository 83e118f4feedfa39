use Rattle.std.proofs.Common.{List, length, refl, subst}
use Rattle.std.proofs.lemmas.Bool.{both_ways}
use Rattle.std.proofs.lemmas.List.{take_all}
use Rattle.std.proofs.lemmas.Option.{slice_get_read}
use Rattle.flow_facts.specs.declared.line.NumberedFact.{NumberedFact}
use Rattle.fact_names.specs.Refused.{AreOwn}
use Rattle.fact_names.proofs.Refusing as refusing
use Rattle.fact_names.proofs.making.first_other.Goals as goal

pub returns-then-not-is_own : goal.returns-then-not-is_own
returns-then-not-is_own c =
    let lines = c.args.lines.now in
    let i = c.loop-line.line-index in
    let l = c.line-item.result in
    refusing.first_other lines i l (slice_get_read lines (length lines) i l refl c.loop-line-test.true c.line-item.is) c.loop-line.invariant (λ own. both_ways c.is_own.result c.if-not-is_own.true (c.is_own.ensures.1 own))

pub loop-line-preserved : goal.loop-line-preserved
loop-line-preserved c =
    let lines = c.args.lines.now in
    let i = c.loop-line.line-index in
    let l = c.line-item.result in
    refusing.next_own lines i l (slice_get_read lines (length lines) i l refl c.loop-line-test.true c.line-item.is) c.loop-line.invariant (c.is_own.ensures.0 c.if-not-is_own.false)

pub returns : goal.returns
returns c = subst (λ (ls : List NumberedFact). AreOwn ls) (take_all c.loop-line.line-index c.args.lines.now c.loop-line-test.false) c.loop-line.invariant
