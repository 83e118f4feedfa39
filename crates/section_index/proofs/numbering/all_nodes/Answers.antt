use Rattle.std.proofs.Common.{◌≡◌, ℕ, ◌+◌, List, sym, subst, arith}
use Rattle.section_index.specs.Numbering.{AreNodes}
use Rattle.section_index.proofs.Ranks.{nodes_none, nodes_more}
use Rattle.section_index.proofs.numbering.all_nodes.Goals as goal

pub loop-u-init : goal.loop-u-init
loop-u-init c = let P : List ℕ → Type 0 = λ ns. AreNodes 0 ns in subst P (sym c.new-found.ensures.items) nodes_none

pub loop-u-preserved : goal.loop-u-preserved
loop-u-preserved c = let P : List ℕ → Type 0 = λ ns. AreNodes (c.loop-u.u + 1) ns in subst P (sym c.in_ok-push.ensures.items) (nodes_more c.loop-u.found.items c.loop-u.u c.loop-u.invariant)

pub returns : goal.returns
returns c =
    let end = c.loop-u-test.false in
    let top = c.loop-u.auto.u-end in
    let same : c.loop-u.u ≡ c.args.nodes = omega arith in
    let P : ℕ → Type 0 = λ n. AreNodes n c.loop-u.found.items in
    subst P same c.loop-u.invariant
