use Rattle.std.proofs.Common.{◌≡◌, map, take}
use Rattle.std.specs.List.{AllByRecursion}
use Rattle.program_tables.specs.Resolving.{HasBytes}
use Rattle.program_resolution.specs.Resolving.{AreClassesOf}
use Rattle.program_resolution.proofs.reading.read_files.Given as goal

abbrev pub invariant-loop-file : goal.invariant-loop-file
invariant-loop-file l = AreClassesOf (take l.file-index (map (λ f. f.items) l.files)) l.classes.items × (l.number ≡ l.file-index) × AllByRecursion (λ k. AllByRecursion HasBytes k.methods) l.classes.items
