-- Room for the names of classes.
use Rattle.std.specs.Prelude.{ℕ, ◌*◌, ◌≤◌, List, length, slice_get, IfSome}
use Rattle.class_pool.specs.declared.class.ClassFile.{ClassFile}
use Rattle.class_lookup.specs.Parts.{name_of}

-- so many bytes are enough for the name of each class: what is written of a unit has four at most
abbrev pub HasRoom : List ClassFile → (bytes : ℕ) → Type 0
HasRoom cs bytes = (c : ℕ) → IfSome (slice_get cs c) (λ k. 4 * length (name_of k) ≤ bytes)
