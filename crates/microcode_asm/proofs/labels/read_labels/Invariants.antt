use Rattle.std.proofs.Common.{ℕ, List}
use Rattle.indexmap.specs.IndexMap.{get_by}
use Rattle.microcode_asm.proofs.LabelLemmas.{has_text}
use Rattle.microcode_asm.proofs.ReadLemmas.{IsLabelledSoFar}
use Rattle.microcode_asm.proofs.labels.read_labels.Given as goal

abbrev pub invariant-loop-line : goal.invariant-loop-line
invariant-loop-line l = IsLabelledSoFar l.text l.line-iterator l.words (λ (q : List ℕ). get_by (has_text q) l.labels)
