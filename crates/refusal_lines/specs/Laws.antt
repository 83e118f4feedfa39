-- What the law of missing classes says.
use Rattle.std.specs.Prelude.{◌≡◌, ℕ, List}
use Rattle.class_pool.specs.declared.class.ClassFile.{ClassFile}
use Rattle.core_classes.specs.Core.{core}
use Rattle.program_tables.specs.Unresolved.{missing_class}
use Rattle.program_resolution.specs.Linked.{linked_classes}
use Rattle.refusal_lines.specs.Entries.{missing}

-- Of any names, the first of which no class is there is the first of which the program of the files has none: for want of it linking refuses them with NoClass.
abbrev pub MissingInProgram : Type 0
MissingInProgram = (files : List ClassFile) (main : List ℕ) (names : List (List ℕ)) → missing core files names ≡ missing_class (linked_classes files main) names
