use Rattle.std.proofs.Common.{◌<◌, ◌≤◌, length, sym, ◌∙◌, subst}
use Rattle.netlist.specs.WellFormed.{names_in}
use Rattle.netlist.proofs.Names.{no_names, names_push, not_names, are_names}
use Rattle.netlist.proofs.checks.are_names.Goals as goal

pub loop-k-init : goal.loop-k-init
loop-k-init c = no_names (names_in c.args.n.now)

pub returns-then-not-is_only_name : goal.returns-then-not-is_only_name
returns-then-not-is_only_name c =
    let names = names_in c.args.n.now in
    let below : c.loop-k.k < length names = subst (λ m. c.loop-k.k < m) c.count_names-k-end.ensures c.loop-k-test.true in
    not_names names c.loop-k.k below (λ both. sym c.if-not-is_only_name.true ∙ c.is_only_name.ensures.1 both)

pub loop-k-preserved : goal.loop-k-preserved
loop-k-preserved c =
    let both = c.is_only_name.ensures.0 c.if-not-is_only_name.false in
    names_push (names_in c.args.n.now) c.loop-k.k both.0 both.1 c.loop-k.invariant

pub returns : goal.returns
returns c =
    let names = names_in c.args.n.now in
    are_names names c.loop-k.k (subst (λ m. m ≤ c.loop-k.k) c.count_names-k-end.ensures c.loop-k-test.false) c.loop-k.invariant
