-- Control goes on behind an instruction, where what it uses is initialised: JVM Specification SE 8, 4.10.1.9.
use Rattle.std.specs.Prelude.{true}
use Rattle.bytecode_typing.specs.Types.{is_initialized}
use Rattle.verifier_types.specs.declared.types.VarType.{VarType}
use Rattle.verifier_types.specs.declared.checked.Checked.{Checked}
use Rattle.verifier_types.specs.declared.checked.Checked.TheVariants.{Leaves}
use Rattle.verifier_types.specs.Seen.{type_seen}

abbrev pub uses_initialized : VarType → Checked
uses_initialized item = Leaves (record { falls = true; access = true; init = is_initialized (type_seen item); target = true })
