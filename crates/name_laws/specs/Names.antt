-- The names of methods: JVM Specification SE 8, 4.2, 4.3 and 4.6.
use Rattle.std.specs.Prelude.{◌≡◌, ℕ, List, IsSome}
use Rattle.class_pool.specs.declared.class.ClassFile.{ClassFile}
use Rattle.bytecode_model.specs.Program.{body_of}
use Rattle.program_tables.specs.Resolved.{resolved, method_name}
use Rattle.program_tables.specs.Resolving.{IsResolved}

-- in resolved classes two methods with code of one name are one
abbrev pub NamesAreOne : Type 0
NamesAreOne = (cs : List ClassFile) → IsResolved cs → (m n : ℕ) → IsSome (body_of (resolved cs) m) → IsSome (body_of (resolved cs) n)
    → method_name cs m ≡ method_name cs n → m ≡ n
