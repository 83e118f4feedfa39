use Rattle.std.proofs.Common.{◌≡◌, ◌++◌, drop, map}
use Rattle.microcode_asm.specs.Parts.{labels_of}
use Rattle.microcode_asm.proofs.part.labels_of.Given as goal

abbrev pub invariant-loop-text : goal.invariant-loop-text
invariant-loop-text l = map (λ name. name.now) l.names.items ++ labels_of (drop l.text-index (map (λ p. p.now) l.parts)) ≡ labels_of (map (λ p. p.now) l.parts)
