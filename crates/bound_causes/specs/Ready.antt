-- A method that is asked for, with the methods that may run while it does, where no bound is refused but for its size.
use Rattle.std.specs.Prelude.{◌<◌, length, All}
use Rattle.std.specs.List.Sorted.{IsStrictlyIncreasing}
use Rattle.bytecode_model.specs.Program.{Program}
use Rattle.method_flow.specs.Flow.{Flow}
use Rattle.method_flow.specs.Keeping.{BoundOf}
use Rattle.method_flow.specs.Regions.{IsWithin, AreMethodsOf}
use Rattle.call_regions.specs.Calling.{IsTargetsFirst}
use Rattle.bound_rules.specs.Bounding.{HasNoRecursion, AreReducible, HaveLines}
use Rattle.bound_causes.specs.declared.causes.Asked.{Asked}

-- the methods are exactly those that may run while the root does, each behind all that it may run, and there is no cause to refuse a bound but its size
pub record IsReady (P : Program) (bound_of : BoundOf) (a : Asked) : Type 0 where
  pub calls : HasNoRecursion P a.root
  pub reducible : AreReducible P a.root
  pub lines : HaveLines P bound_of a.root
  pub order : IsTargetsFirst P a.root a.order.methods
  pub methods : AreMethodsOf (IsWithin P a.root) a.methods

-- they are methods of the table, and those of the second list rise
pub record AreInTable (f : Flow) (a : Asked) : Type 0 where
  pub root : a.root < length f.methods
  pub order : All (λ m. m < length f.methods) a.order.methods
  pub methods : All (λ m. m < length f.methods) a.methods
  pub rising : IsStrictlyIncreasing a.methods
