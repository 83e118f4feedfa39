-- Ints that methods push, told of a program apart from its code: constants, and static fields that hold constants.
use Rattle.std.specs.Prelude.{◌≡◌, ◌↔◌, ℕ, ◌<◌, ℤ, List, length, Some, None, IsSome, MatchOption, slice_get, slice_index_or}
use Rattle.std.specs.declared.option.Option.{Option}
use Rattle.bytecode_model.specs.declared.Value.TheVariants.{Int}
use Rattle.bytecode_model.specs.Program.{Program, body_of}
use Rattle.bytecode_model.specs.Rows as rows
use Rattle.code_lines.specs.Lines.{IsLine, IsNeverPut}
use Rattle.loop_rules.specs.Tests.{Constants}

-- of a method, by place, the int constants that its instructions push, and the constants of the static fields that they read
pub record SitesOf : Type 0 where
  pub pushed : List (Option ℤ)
  pub fields : List (Option ℤ)

-- these of each method with code, by number, and the constants of static fields, by number
pub record Sites : Type 0 where
  pub methods : List SitesOf
  pub constants : List (Option ℤ)

abbrev pub int_at : List (Option ℤ) → ℕ → Option ℤ
int_at xs p = slice_index_or xs p None

abbrev pub constants_in : Sites → Constants
constants_in s = int_at s.constants

-- an instruction at the place pushes the int constant
abbrev pub IsPushAt : Program → (method place : ℕ) → ℤ → Type 0
IsPushAt P m p c = (next : ℕ) × IsLine P m p next (rows.Push (Int c))

-- an instruction at the place reads a static field with the constant
abbrev pub IsReadAt : Program → Constants → (method place : ℕ) → ℤ → Type 0
IsReadAt P constants m p c = (next : ℕ) × (f : ℕ) × IsLine P m p next (rows.GetStatic f) × (constants f ≡ Some c)

-- these are the ints of the places at which it is so, by place
abbrev pub AreSites : (IsAt : (place : ℕ) → ℤ → Type 0) → List (Option ℤ) → Type 0
AreSites IsAt xs = (p : ℕ) → MatchOption (int_at xs p) ((c : ℤ) → ¬ IsAt p c) (IsAt p)

-- they are the method's, where static fields have these constants
pub record AreSitesOf (P : Program) (constants : Constants) (m : ℕ) (x : SitesOf) : Type 0 where
  pub pushed : AreSites (IsPushAt P m) x.pushed
  pub fields : AreSites (IsReadAt P constants m) x.fields

-- no instruction writes a static field that has a constant
abbrev pub AreNeverPut : Program → Constants → Type 0
AreNeverPut P constants = (f : ℕ) (c : ℤ) → constants f ≡ Some c → IsNeverPut P f

-- they are the program's
pub record AreIntSites (P : Program) (s : Sites) : Type 0 where
  pub coded : (m : ℕ) → IsSome (body_of P m) ↔ (m < length s.methods)
  pub each : (m : ℕ) (x : SitesOf) → slice_get s.methods m ≡ Some x → AreSitesOf P (constants_in s) m x
  pub never_put : AreNeverPut P (constants_in s)
