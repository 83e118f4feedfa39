-- Lists of ints by place, as far as places of a method tell them.
use Rattle.std.specs.Prelude.{◌≡◌, ◌↔◌, ℕ, ℤ, List, length, Contains, Some, None, slice_set}
use Rattle.std.specs.declared.option.Option.{Option}
use Rattle.lists.specs.Lists.{onto}
use Rattle.bytecode_model.specs.Program.{Program}
use Rattle.loop_rules.specs.Tests.{Constants}
use Rattle.loop_rules.specs.Sites.{int_at}
use Rattle.program_sites.specs.Ints.Rows.{read_at}

-- the constant of the static field that the instruction at a place of a method reads
abbrev pub constant_read : Program → Constants → (method place : ℕ) → Option ℤ
constant_read P constants m p = onto (read_at P m p) constants

-- these are just the ints of these places
abbrev pub AreIntsOf : (int_of : (place : ℕ) → Option ℤ) → (places : List ℕ) → List (Option ℤ) → Type 0
AreIntsOf int_of ps xs = (p : ℕ) (c : ℤ) → (int_at xs p ≡ Some c) ↔ (Contains ps p × (int_of p ≡ Some c))

-- the int of one field less
abbrev pub without : List (Option ℤ) → (field : Option ℕ) → List (Option ℤ)
without xs None = xs
without xs (Some f) = slice_set xs f None

-- those are left of the fields that are put at none of these places
abbrev pub AreLeft : (field_of : (place : ℕ) → Option ℕ) → (places : List ℕ) → (old new : List (Option ℤ)) → Type 0
AreLeft field_of ps old new =
    (length new ≡ length old)
    × ((f : ℕ) (c : ℤ) → (int_at new f ≡ Some c) ↔ ((int_at old f ≡ Some c) × ((p : ℕ) → Contains ps p → ¬ (field_of p ≡ Some f))))
