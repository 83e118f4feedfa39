-- The search through the members but for the node.
use Rattle.std.proofs.Common.{ℕ, Bool, false, List, set, subst}
use Rattle.std.proofs.lemmas.Result.{IfOk-weaker}
use Rattle.loop_marks.specs.Flags.{Flags}
use Rattle.loop_marks.specs.Reach.{AreReached}
use Rattle.loop_marks.specs.Marking.{AreMarksOf, IsWithout}
use Rattle.loop_marks.proofs.Reaching.{without_is}
use Rattle.loop_marks.proofs.iterations.reached_without.Goals as goal

pub returns : goal.returns
returns c =
    let g = c.args.routes.now in
    let k = c.args.marks.now in
    let x = c.args.node in
    let members = c.members.result.now.items in
    let start = c.header.result in
    IfOk-weaker c.reached.result (λ (flags : Flags). AreReached g (set members x false) start flags.items) (λ (flags : Flags). AreMarksOf g k → IsWithout g k.header x flags.items)
    (λ (flags : Flags) r are. without_is g k.header x k.members are.members flags.items
    (subst (λ (h : ℕ). AreReached g (set k.members x false) h flags.items) c.header.ensures (subst (λ (ms : List Bool). AreReached g (set ms x false) start flags.items) c.members.ensures r)))
    c.reached.ensures
