-- What instructions do, as far as loops that count go.
use Rattle.std.specs.Prelude.{◌≡◌, ℕ, suc, ℤ, Bool, List, [], ◌∷◌, MatchOption, slice_index_or}
use Rattle.bytecode_model.specs.Program.{Program}
use Rattle.bytecode_model.specs.Rows as rows
use Rattle.bytecode_model.specs.Rows.{Row}
use Rattle.bytecode_model.specs.Types.{IntType, LongType, Numbers, References}
use Rattle.code_lines.specs.Lines.{IsLine, written_by}
use Rattle.code_scan.specs.Rows.{test_of}
use Rattle.loop_rules.specs.Tests.{IsTest}
use Rattle.loop_acts.specs.Rules.{Rules}
use Rattle.loop_acts.specs.declared.effects.Test.{Test}
use Rattle.loop_acts.specs.declared.effects.Act.{Act}
use Rattle.loop_acts.specs.declared.effects.Act.TheVariants as does

abbrev pub act_at : List Act → (place : ℕ) → Act
act_at acts p = slice_index_or acts p does.Other

-- the local variables that it writes; a long takes two (2.6.1)
abbrev pub written : Act → List ℕ
written (does.Test t) = []
written (does.Step k n) = k ∷ []
written (does.Set k c) = k ∷ []
written (does.SetLong k) = k ∷ suc k ∷ []
written (does.SetReference k) = k ∷ []
written does.Other = []

-- which values take the test's branch
abbrev pub taken_by : Test → ℤ → Bool
taken_by t value = test_of t.taken t.limit value

-- a test with a limit of the rules is at the place, and it is this one
pub record IsTestAt (P : Program) (rules : Rules) (m p : ℕ) (t : Test) : Type 0 where
  pub is : IsTest P (rules.limit m) m p t.next t.local t.offset (taken_by t)
  pub only : (next local : ℕ) (offset : ℤ) (taken : ℤ → Bool) → IsTest P (rules.limit m) m p next local offset taken
      → (next ≡ t.next) × (local ≡ t.local) × (offset ≡ t.offset) × (taken ≡ taken_by t)

-- the instruction at the place is of this row
abbrev pub HasRow : Program → (method place : ℕ) → Row → Type 0
HasRow P m p r = (next : ℕ) × IsLine P m p next r

-- the act is that of the instruction at the place; where there is no instruction, or it is of no note, there is no test, and nothing is written
abbrev pub IsActAt : Program → Rules → (method place : ℕ) → Act → Type 0
IsActAt P rules m p (does.Test t) = IsTestAt P rules m p t
IsActAt P rules m p (does.Step k n) = HasRow P m p (rows.Increment k n)
IsActAt P rules m p (does.Set k o) =
    HasRow P m p (rows.Store (Numbers IntType) k) × MatchOption o ((c : ℤ) → ¬ rules.stored m p c) (rules.stored m p)
IsActAt P rules m p (does.SetLong k) = HasRow P m p (rows.Store (Numbers LongType) k)
IsActAt P rules m p (does.SetReference k) = HasRow P m p (rows.Store References k)
IsActAt P rules m p does.Other =
    ((next local : ℕ) (offset : ℤ) (taken : ℤ → Bool) → ¬ IsTest P (rules.limit m) m p next local offset taken)
    × ((next : ℕ) (r : Row) → IsLine P m p next r → written_by r ≡ [])

-- so at each place
abbrev pub AreActs : Program → Rules → (method : ℕ) → List Act → Type 0
AreActs P rules m acts = (p : ℕ) → IsActAt P rules m p (act_at acts p)
