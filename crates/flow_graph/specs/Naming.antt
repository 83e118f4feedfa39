-- The places that an instruction names, and whether control goes to them and to the next instruction (JVM Specification SE 8, 6.5).
use Rattle.std.specs.Prelude.{◌≡◌, ℕ, ◌<◌, Bool, true, false, List, map, Contains, ℤ, pos, ◌+ℤ◌}
use Rattle.opcodes.specs.declared.instruction.Instr.{Instr}
use Rattle.opcodes.specs.declared.table.Kind.{Kind}
use Rattle.opcodes.specs.declared.table.Kind.TheVariants.{Plain, Branch, Jump, Switch, Return, Throw, Invoke}
use Rattle.opcodes.specs.Target.{cases_of}

-- the places of the cases of a switch
abbrev pub case_places : (code : List ℕ) → (place : ℕ) → Instr → List ℤ
case_places code p instr = map (λ c. pos p +ℤ c.offset) (cases_of code instr)

-- the place is among those that are named
abbrev pub IsNamed : List ℤ → ℕ → Type 0
IsNamed named q = Contains named (pos q)

-- no named place is past the longest code
abbrev pub AreNear : List ℤ → Type 0
AreNear named = (q : ℕ) → IsNamed named q → q < 65536

-- control may go to the places that an instruction of the kind names
abbrev pub goes_to_targets : Kind → Bool
goes_to_targets Plain = false
goes_to_targets Branch = true
goes_to_targets Jump = true
goes_to_targets Switch = true
goes_to_targets Return = false
goes_to_targets Throw = false
goes_to_targets Invoke = false

-- control may go on behind an instruction of the kind
abbrev pub goes_on : Kind → Bool
goes_on Plain = true
goes_on Branch = true
goes_on Jump = false
goes_on Switch = false
goes_on Return = false
goes_on Throw = false
goes_on Invoke = true

-- the place is named by an instruction of a kind that goes there
abbrev pub IsNamedBy : Kind → (named : List ℤ) → ℕ → Type 0
IsNamedBy kind named q = (goes_to_targets kind ≡ true) × IsNamed named q

-- the place is behind an instruction of a kind that goes on
abbrev pub IsNextBy : Kind → (next : ℕ) → ℕ → Type 0
IsNextBy kind next q = (goes_on kind ≡ true) × (q ≡ next)
