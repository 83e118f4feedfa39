use Rattle.std.proofs.Common.{ℕ, List, [], map}
use Rattle.std.specs.Option.{option_or}
use Rattle.std.specs.Map.{lookup}
use Rattle.indexmap.specs.IndexMap.{get_by}
use Rattle.microcode_asm.specs.Parts.{is}
use Rattle.microcode_asm.proofs.LabelLemmas.{now, has_text, label_more, label_last}
use Rattle.microcode_asm.proofs.labels.add_labels.Goals as goal

pub loop-name-preserved : goal.loop-name-preserved
loop-name-preserved c = λ q.
    label_more q c.args.words c.args.names.now (record { ref_ptr = (0, 0); now = [] }) c.loop-name.name-index (get_by (has_text q) c.loop-name.labels) (get_by (has_text q) c.add_label.new.labels)
    (option_or (get_by (has_text q) c.args.labels.now) (lookup (is q) (map (λ n. (n, c.args.words)) (map now c.args.names.now))))
    c.loop-name-test.true (c.in_ok-add_label.ensures q) (c.loop-name.invariant q)

pub returns : goal.returns
returns c = λ q.
    label_last q c.args.words c.args.names.now c.loop-name.name-index (get_by (has_text q) c.loop-name.labels)
    (option_or (get_by (has_text q) c.args.labels.now) (lookup (is q) (map (λ n. (n, c.args.words)) (map now c.args.names.now))))
    c.loop-name-test.false (c.loop-name.invariant q)
