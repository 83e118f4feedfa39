-- The nodes of the loops that are directly within the loop.
use Rattle.std.proofs.Common.{ℕ, length, get_or}
use Rattle.std.proofs.lemmas.Result.{IfOk-weaker}
use Rattle.loop_nest.specs.Digraph.{Digraph}
use Rattle.loop_nest.specs.Nest.{IsNest, header_at}
use Rattle.compact_walks.specs.Moving.{IsMoved}
use Rattle.loop_marks.specs.Flags.{Flags}
use Rattle.loop_marks.specs.Marking.{AreHeldDirectly, AreInnerFlagged, AreMembersFlagged}
use Rattle.loop_marks.proofs.MarkLemmas.{inner_are}
use Rattle.loop_marks.proofs.marking.inner_flags.Goals as goal

pub returns : goal.returns
returns c =
    let node : ℕ → ℕ = λ (u : ℕ). get_or c.args.nodes.now u 0 in
    let ls = c.args.nest.now in
    let i = c.args.index in
    let members = c.args.members.now.items in
    IfOk-weaker c.held_directly.result (λ (flags : Flags). AreHeldDirectly node ls i (length ls) members flags.items)
    (λ (flags : Flags). (g d : Digraph) → IsMoved g d node → IsNest d ls → AreMembersFlagged g (node (header_at ls i)) members → AreInnerFlagged g (node (header_at ls i)) flags.items)
    (λ (flags : Flags) h g d moved nest are. inner_are c.headers_dominate_members.ensures c.loops_are_nested.ensures c.dominance_is_antisymmetric.ensures g d node moved ls nest i c.requires.index members flags.items are h)
    c.held_directly.ensures
