use Rattle.microcode_asm.specs.SoFar.{kept, places_by}
use Rattle.microcode_asm.proofs.ReadLemmas.{IsReadSoFar}
use Rattle.microcode_asm.proofs.assemble_with.Given as goal

abbrev pub invariant-loop-line : goal.invariant-loop-line
invariant-loop-line l = IsReadSoFar l.text l.number l.line-iterator (places_by l.labels) (kept l.assembly)
