-- Marks of the methods for which invokes select others.
use Rattle.std.specs.Prelude.{◌≡◌, ℕ, ◌-◌, ◌≤◌, Bool, true, false, List, length, Contains, slice_index_or}
use Rattle.method_flow.specs.declared.flow.Call.{Call}
use Rattle.method_flow.specs.Flow.{Coded}
use Rattle.flow_table.specs.Targets.{IsNamedByInvoke}

-- what was marked is marked still, and what these invokes name is
pub record AreMarked (coded : ℕ) (calls : List Call) (old new : List Bool) : Type 0 where
  pub long : length new ≡ length old
  pub kept : (i : ℕ) → slice_index_or old i false ≡ true → slice_index_or new i false ≡ true
  pub each : (c : Call) → Contains calls c → coded ≤ c.targets → slice_index_or new (c.targets - coded) false ≡ true

-- what an invoke of these methods names is marked
pub record HasMarks (coded count : ℕ) (ks : List Coded) (marks : List Bool) : Type 0 where
  pub long : length marks ≡ count
  pub named : (m : ℕ) → IsNamedByInvoke coded ks m → slice_index_or marks m false ≡ true
