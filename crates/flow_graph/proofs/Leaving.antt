-- The exits among flagged nodes.
use Rattle.std.proofs.Common.{◌≡◌, ℕ, ◌≤◌, Bool, true, false, List, [], length, Contains, refl, sym, subst, inl, inr, arith}
use Rattle.std.specs.Prelude.{◌↔◌}
use Rattle.std.proofs.lemmas.Bool.{cases_lt, both_ways}
use Rattle.std.proofs.lemmas.List.{get_or_past}
use Rattle.lists.specs.Members.{nil_contains}
use Rattle.lists.specs.Tests.{and_left}
use Rattle.flow_graph.specs.Edges.{IsExitAt, exits_at, leaves_at}
use Rattle.flow_graph.specs.Growing.{Grows}
use Rattle.flow_graph.specs.Reach.{flag_at}
use Rattle.flow_graph.proofs.Growing.{Upto}

pub all_exits : (code : List ℕ) (flags : List Bool) (exits : List ℕ) (n : ℕ) → length flags ≤ n → Grows [] exits (Upto (IsExitAt code flags) n) → (u : ℕ) → Contains exits u ↔ (exits_at code flags u ≡ true)
all_exits code flags exits n le a u = (
  λ has.
      elim (a.only u has) [
        | inl none ↦ absurd (nil_contains u none)
        | inr x ↦ let P : ℕ → Type 0 = λ v. exits_at code flags v ≡ true in subst P (sym x.2.1) x.2.0
      ],
  λ on.
      elim (cases_lt u (length flags)) [
        | inl below ↦ a.adds u (u, omega arith, (on, refl))
        | inr past ↦ absurd (both_ways (flag_at flags u) (get_or_past flags u false past) (and_left (flag_at flags u) (leaves_at code u) on))
      ],
)
