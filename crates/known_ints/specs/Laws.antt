-- Where nothing is known of fields but constants.
use Rattle.std.specs.Prelude.{ℕ, [], ℤ}
use Rattle.std.specs.declared.option.Option.{Option}
use Rattle.bytecode_model.specs.Program.{Program}
use Rattle.loop_rules.specs.Further.Found.{only_constants}
use Rattle.loop_rules.specs.Further.Arrays.{AreApart, AreArraysRead}

-- no static field that is known to hold an int is known to hold arrays
abbrev pub ConstantsAreApart : Type 0
ConstantsAreApart = (constants : (field : ℕ) → Option ℤ) → AreApart (only_constants constants)

-- no instruction reads a field that is known to hold arrays, as the empty list says of each method
abbrev pub NoArraysAreRead : Type 0
NoArraysAreRead = (P : Program) (constants : (field : ℕ) → Option ℤ) (m : ℕ) → AreArraysRead P (only_constants constants) m []
