use Rattle.std.proofs.Common.{map, take}
use Rattle.program_resolution.specs.Resolving.{AreClassesOf}
use Rattle.refusal_lines.proofs.naming.read_files.Given as goal

abbrev pub invariant-loop-file : goal.invariant-loop-file
invariant-loop-file l = AreClassesOf (take l.file-index (map (λ f. f.items) l.files)) l.classes.items
