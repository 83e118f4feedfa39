use Rattle.std.proofs.Common.{ℕ, ◌+◌, take, Option, sym, ◌∙◌, subst}
use Rattle.loop_acts.specs.Writing.{IsOnly, IsWriterAmong}
use Rattle.loop_acts.proofs.WriterLemmas.{no_writer, one_writer, two_writers, all_nodes}
use Rattle.loop_acts.proofs.writing.only_writer.Goals as goal
use Rattle.loop_acts.proofs.writing.only_writer.Goals.{in-Some+else-is_other, in_default}

pub returns-then-is_other : goal.returns-then-is_other
returns-then-is_other c =
    two_writers c.args.acts.now c.args.local c.args.nodes.now c.loop-node.node-index c.loop-node-test.true c.loop-node.found c.in-Some.place c.loop-node.invariant (sym c.is_other.ensures ∙ c.if-is_other.true) c.in-Some.ensures

pub loop-node-preserved : goal.loop-node-preserved
loop-node-preserved c =
    let acts = c.args.acts.now in
    let nodes = c.args.nodes.now in
    let i = c.loop-node.node-index in
    let lt = c.loop-node-test.true in
    let P : Option ℕ → Type 0 = λ o. IsOnly (IsWriterAmong acts (take (i + 1) nodes) c.args.local) o in
    elim c.match-writer_at.branch [
      | in-Some+else-is_other w ↦ subst P (sym w.found-is) (one_writer acts c.args.local nodes i lt c.loop-node.found w.in-Some.place c.loop-node.invariant (sym w.is_other.ensures ∙ w.if-is_other.false) w.in-Some.ensures)
      | in_default w ↦ subst P (sym w.found-is) (no_writer acts c.args.local nodes i lt c.loop-node.found c.loop-node.invariant w.in_default.ensures)
    ]

pub returns : goal.returns
returns c = all_nodes c.args.acts.now c.args.local c.args.nodes.now c.loop-node.node-index c.loop-node.found c.loop-node-test.false c.loop-node.invariant
