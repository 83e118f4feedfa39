use Rattle.std.proofs.Common.{◌≡◌, ℕ, List, arith}
use Rattle.indexmap.specs.IndexMap.{get_by}
use Rattle.microcode_asm.specs.Statements.{line_of}
use Rattle.microcode_asm.proofs.LabelLemmas.{has_text, size_small}
use Rattle.microcode_asm.proofs.ReadLemmas.{labelled_more, words_fit}
use Rattle.microcode_asm.proofs.labels.read_labels.Goals as goal

pub overflow_add-words : goal.overflow_add-words
overflow_add-words c =
    let few = words_fit c.args.text.now c.loop-line.line-iterator c.next.new.self c.in-Some.line.now c.loop-line.words (λ (q : List ℕ). get_by (has_text q) c.loop-line.labels) c.loop-line.invariant c.in-Some.ensures.steps in
    omega (arith, c.in_ok-words.ensures.size, size_small (line_of c.in-Some.line.now))

pub loop-line-preserved : goal.loop-line-preserved
loop-line-preserved c =
    labelled_more c.args.text.now c.loop-line.line-iterator c.next.new.self c.in-Some.line.now c.loop-line.words c.in_ok-words.field-0
    (λ (q : List ℕ). get_by (has_text q) c.loop-line.labels) (λ (q : List ℕ). get_by (has_text q) c.add_line.new.labels)
    c.loop-line.invariant c.in-Some.ensures.steps c.in_ok-words.ensures.size c.in_ok-words.ensures.labels
