use Rattle.std.proofs.Common.{ℕ, take}
use Rattle.bytecode_model.specs.Program.{Program}
use Rattle.loop_rules.specs.Further.Known.{Known}
use Rattle.loop_marks.specs.Marking.{AreMarksOf}
use Rattle.loop_finder.specs.Beginning.{AddsBeginnings, IsBodyOf}
use Rattle.loop_finder.proofs.Adding.{IsSteppedAmong}
use Rattle.loop_finder.proofs.beginning.add_of_loop.Given as goal

-- so of the first nodes that write
abbrev pub invariant-loop-node : goal.invariant-loop-node
invariant-loop-node l = (P : Program) (known : Known) (m : ℕ) → IsBodyOf P known m l.body → AreMarksOf l.body.graph l.marks
    → AddsBeginnings P known m l.body.graph l.marks.header (IsSteppedAmong P known m l.body.graph l.marks.header l.body l.node-items (take l.node-index l.node-items))
    l.fn.found.items l.found.items
