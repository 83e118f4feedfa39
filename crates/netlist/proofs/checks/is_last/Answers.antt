use Rattle.std.proofs.Common.{◌<◌, ◌≤◌, length, sym, ◌∙◌, subst, arith}
use Rattle.netlist.specs.WellFormed.{names_in}
use Rattle.netlist.proofs.Names.{none_yet, one_more, differ, agree, not_last, is_last}
use Rattle.netlist.proofs.checks.is_last.Goals as goal

pub loop-later-init : goal.loop-later-init
loop-later-init c = none_yet (names_in c.args.n.now) c.args.k

pub returns-then-eq : goal.returns-then-eq
returns-then-eq c =
    let names = names_in c.args.n.now in
    let below : c.loop-later.later < length names = subst (λ m. c.loop-later.later < m) c.count_names-count.ensures c.loop-later-test.true in
    not_last names c.args.k c.loop-later.later (let ge = c.loop-later.auto.later in omega (arith, ge)) below
    (agree names c.args.k c.loop-later.later c.name_at.result.now c.name_at-in-loop-later.result.now c.name_at.ensures c.name_at-in-loop-later.ensures
    (sym c.eq.ensures ∙ c.if-eq.true))

pub loop-later-preserved : goal.loop-later-preserved
loop-later-preserved c =
    let names = names_in c.args.n.now in
    one_more names c.args.k c.loop-later.later
    (differ names c.args.k c.loop-later.later c.name_at.result.now c.name_at-in-loop-later.result.now c.name_at.ensures c.name_at-in-loop-later.ensures
    (sym c.eq.ensures ∙ c.if-eq.false)) c.loop-later.invariant

pub returns : goal.returns
returns c =
    let names = names_in c.args.n.now in
    is_last names c.args.k c.loop-later.later (subst (λ m. m ≤ c.loop-later.later) c.count_names-count.ensures c.loop-later-test.false) c.loop-later.invariant
