-- Sets of methods that fit the method cache together, so that each of them is loaded once at most; and the bounds of loops by their headers.
use Rattle.std.specs.Prelude.{ℕ, ◌%◌, ◌/◌, ◌==◌, if◌then◌else◌, List, map, Option, None, unwrap_or}
use Rattle.bytecode_model.specs.Program.{Program}
use Rattle.method_flow.specs.declared.timing.Timing.{Timing}
use Rattle.method_flow.specs.Keeping.{BoundOf}
use Rattle.method_flow.specs.Regions.{IsWithin, IsWithinNodes, AreMethodsOf, Fit, loads}

-- the methods of a set, which fit the cache together
pub record FitTogether (P : Program) (t : Timing) (K : ℕ → Type 0) : Type 0 where
  pub methods : List ℕ
  pub are : AreMethodsOf K methods
  pub fit : Fit P t.blocks t.block_words methods

-- the methods that may run while a method does
abbrev pub RegionFits : Program → Timing → (method : ℕ) → Type 0
RegionFits P t m = FitTogether P t (IsWithin P m)

-- those that may run while control stays among the members of a loop of the method
abbrev pub LoopFits : Program → Timing → (method : ℕ) → (members : List ℕ) → Type 0
LoopFits P t m members = FitTogether P t (IsWithinNodes P m members)

-- the cycles that the loads of them all stall
abbrev pub loads_of : {P : Program} {t : Timing} {K : ℕ → Type 0} → FitTogether P t K → ℕ
loads_of {P} {t} h = loads P t.read h.methods

-- ---- bounds

-- the bound that is given for the loop that a node heads; a raise step heads none
abbrev pub header_bound : BoundOf → (method node : ℕ) → Option ℕ
header_bound bound_of m u = if u % 2 == 0 then bound_of m (u / 2) else None

-- those of loops with these headers, 0 where none is given
abbrev pub header_bounds : BoundOf → (method : ℕ) → (headers : List ℕ) → List ℕ
header_bounds bound_of m hs = map (λ h. unwrap_or (header_bound bound_of m h) 0) hs
