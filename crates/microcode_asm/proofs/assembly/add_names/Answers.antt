use Rattle.std.proofs.Common.{◌≡◌, ◌∙◌, sym, List, ℕ, [], map}
use Rattle.microcode_asm.specs.SoFar.{texts}
use Rattle.microcode_asm.proofs.LabelLemmas.{now}
use Rattle.microcode_asm.proofs.NameLemmas.{named_more, named_twice, named_last}
use Rattle.microcode_asm.proofs.assembly.add_names.Goals as goal

pub returns-then-not-branch-clause-again : goal.returns-then-not-branch-clause-again
returns-then-not-branch-clause-again c =
    named_twice c.args.labels.now (record { ref_ptr = (0, 0); now = [] }) c.loop-label.label-index (texts c.loop-label.names.keys) (texts c.args.names.now.keys) (map now c.args.labels.now)
    c.loop-label-test.true c.loop-label.invariant (sym c.if-not-branch.true ∙ c.in_ok-add_name.ensures.added)

pub loop-label-preserved : goal.loop-label-preserved
loop-label-preserved c =
    named_more c.args.labels.now (record { ref_ptr = (0, 0); now = [] }) c.loop-label.label-index (texts c.loop-label.names.keys) (texts c.add_name.new.names.keys) (texts c.args.names.now.keys) (map now c.args.labels.now)
    c.loop-label-test.true c.loop-label.invariant (sym c.if-not-branch.false ∙ c.in_ok-add_name.ensures.added) (c.in_ok-add_name.ensures.kept c.if-not-branch.false)

pub returns-clause-again : goal.returns-clause-again
returns-clause-again c =
    (named_last c.args.labels.now c.loop-label.label-index (texts c.loop-label.names.keys) (texts c.args.names.now.keys) (map now c.args.labels.now) c.loop-label-test.false c.loop-label.invariant).0

pub returns-clause-kept : goal.returns-clause-kept
returns-clause-kept c = λ e.
    (named_last c.args.labels.now c.loop-label.label-index (texts c.loop-label.names.keys) (texts c.args.names.now.keys) (map now c.args.labels.now) c.loop-label-test.false c.loop-label.invariant).1
