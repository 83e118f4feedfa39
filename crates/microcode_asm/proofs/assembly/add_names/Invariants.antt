use Rattle.std.proofs.Common.{drop, map}
use Rattle.microcode_asm.specs.SoFar.{texts}
use Rattle.microcode_asm.proofs.LabelLemmas.{now}
use Rattle.microcode_asm.proofs.NameLemmas.{IsNamedSoFar}
use Rattle.microcode_asm.proofs.assembly.add_names.Given as goal

abbrev pub invariant-loop-label : goal.invariant-loop-label
invariant-loop-label l = IsNamedSoFar (texts l.names.keys) (drop l.label-index (map now l.labels)) (texts l.fn.names.keys) (map now l.labels)
