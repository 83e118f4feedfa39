-- How the rules take items off the stack (JVM Specification SE 8, 4.10.1.4, canPop), and how local variables are filled up with Top.
use Rattle.std.specs.Prelude.{◌≡◌, ◌≤◌, ℕ, List, map, length, Some}
use Rattle.bytecode_model.specs.Types.{NumberType, Declared}
use Rattle.bytecode_model.specs.Program.{Program}
use Rattle.bytecode_model.specs.Slots.{padded}
use Rattle.bytecode_typing.specs.Types.{VarType, Top, type_of}
use Rattle.bytecode_typing.specs.Rules as rule
use Rattle.bytecode_typing.specs.Rules.{Checked, found, on_type, on_reference, on_number_types, on_argument_types}
use Rattle.verifier_types.specs.Locals.{filled}
use Rattle.verifier_types.specs.Taken.{item_taken, reference_taken, numbers_taken, arguments_taken}

-- the rules go on with what is taken, and where it isn't there the rule on the stack fails
pub record TakingLaw : Type 0 where
  pub item : (stack : List VarType) (go : VarType → List VarType → Checked) → on_type stack go ≡ found (item_taken stack) rule.Stack (λ x. go x.0 x.1)
  pub reference : (stack : List VarType) (go : VarType → List VarType → Checked)
      → on_reference stack go ≡ found (reference_taken stack) rule.Stack (λ x. go x.0 x.1)
  pub numbers : (ns : List NumberType) (stack : List VarType) (go : List VarType → Checked)
      → on_number_types ns stack go ≡ found (numbers_taken ns stack) rule.Stack go
  pub arguments : (P : Program) (seen : VarType → VarType) (ds : List Declared) (stack : List VarType) (go : List VarType → List VarType → Checked)
      → on_argument_types P seen ds stack go ≡ found (arguments_taken P seen (map type_of ds) stack) rule.Stack (λ x. go x.0 x.1)

-- types that have room are filled up with Top
abbrev pub PaddingLaw : Type 0
PaddingLaw = (max_locals : ℕ) (types : List VarType) → length types ≤ max_locals → padded Top max_locals types ≡ Some (filled max_locals types)
