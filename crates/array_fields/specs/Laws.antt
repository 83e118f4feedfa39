-- What holds of fields that are known by what instructions put to them.
use Rattle.std.specs.Prelude.{◌≡◌, ℕ, ℤ, Some}
use Rattle.std.specs.declared.option.Option.{Option}
use Rattle.bytecode_model.specs.Program.{Program}
use Rattle.code_lines.specs.Lines.{IsNeverPut}
use Rattle.loop_rules.specs.Further.Known.{Known}
use Rattle.loop_rules.specs.Further.Arrays.{IsKnownBy, AreApart}

-- where no instruction writes a static field that has a constant, no such field is known to hold arrays: something puts them
abbrev pub KnownFieldsAreApart : Type 0
KnownFieldsAreApart = (P : Program) (constants : (field : ℕ) → Option ℤ) (known : Known) → IsKnownBy P constants known
    → ((f : ℕ) (c : ℤ) → constants f ≡ Some c → IsNeverPut P f)
    → AreApart known
