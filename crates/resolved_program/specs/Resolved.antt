-- Resolved classes.
use Rattle.std.specs.Prelude.{List}
use Rattle.class_pool.specs.declared.class.ClassFile.{ClassFile}
use Rattle.program_tables.specs.Resolving.{IsResolved}

-- resolved, as a word that proofs open only where they need what it says
unfoldable pub AreResolved : List ClassFile → Type 0
AreResolved cs = IsResolved cs
