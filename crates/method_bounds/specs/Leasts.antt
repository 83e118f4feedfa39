-- Of some methods the least of which a loop has several entries, and the least of which a loop has no bound.
use Rattle.std.specs.Prelude.{◌≡◌, ℕ, List, [], Contains, Option, Some, None, slice_index_or}
use Rattle.section_check.specs.Least.{IsLeast, lesser_of}
use Rattle.bytecode_model.specs.Program.{Program}
use Rattle.method_flow.specs.Flow.{Flow}
use Rattle.method_flow.specs.Regions.{IsWithin}
use Rattle.method_bounds.specs.declared.loops.Loops.{Loops}
use Rattle.method_bounds.specs.declared.loops.Loops.TheVariants.{Bounded, Lacking, Irreducible}
use Rattle.method_bounds.specs.declared.causes.Leasts.{Leasts}
use Rattle.method_bounds.specs.declared.causes.Found.{Found}
use Rattle.method_bounds.specs.Loops.{IsAmong, IsIrreducible, IsLacking}

-- of no methods
abbrev pub no_leasts : Leasts
no_leasts = record { irreducible = None; lacking = None }

-- of the methods of both
abbrev pub lesser_leasts : Leasts → Leasts → Leasts
lesser_leasts a b = record { irreducible = lesser_of a.irreducible b.irreducible; lacking = lesser_of a.lacking b.lacking }

-- of one method, of whose loops this is said
abbrev pub leasts_alone : (method : ℕ) → Option Loops → Leasts
leasts_alone m None = no_leasts
leasts_alone m (Some Bounded) = no_leasts
leasts_alone m (Some (Lacking p)) = record { irreducible = None; lacking = Some m }
leasts_alone m (Some Irreducible) = record { irreducible = Some m; lacking = None }

-- they are the least of the methods of a set
pub record AreLeasts (loops : List Loops) (K : ℕ → Type 0) (x : Leasts) : Type 0 where
  pub irreducible : IsLeast (IsAmong K (IsIrreducible loops)) x.irreducible
  pub lacking : IsLeast (IsAmong K (IsLacking loops)) x.lacking

abbrev pub leasts_at : List Leasts → ℕ → Leasts
leasts_at methods m = slice_index_or methods m no_leasts

-- what was found of the method is so of all that may run while it does
abbrev pub AreLeastsOf : List Loops → Program → (methods : List Leasts) → ℕ → Type 0
AreLeastsOf loops P methods m = AreLeasts loops (IsWithin P m) (leasts_at methods m)

-- the method may run while one of these does
pub record IsBelow (P : Program) (targets : List ℕ) (x : ℕ) : Type 0 where
  pub target : ℕ
  pub among : Contains targets target
  pub within : IsWithin P target x

-- what was found of a list of targets is so of all that may run while one of them does
abbrev pub AreListed : Flow → List Loops → Program → List (Option Leasts) → Type 0
AreListed f loops P lists = (n : ℕ) (x : Leasts) → slice_index_or lists n None ≡ Some x → AreLeasts loops (IsBelow P (slice_index_or f.targets n [])) x

-- what was found is so of these methods, and of lists of targets
pub record AreFound (f : Flow) (loops : List Loops) (P : Program) (done : List ℕ) (found : Found) : Type 0 where
  pub methods : (m : ℕ) → Contains done m → AreLeastsOf loops P found.methods.items m
  pub lists : AreListed f loops P found.lists.items
