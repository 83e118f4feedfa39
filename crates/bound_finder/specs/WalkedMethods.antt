-- A method whose walks are asked on what it is prepared for, and what is found by them.
use Rattle.std.specs.Prelude.{◌≡◌, ℕ, List, Some, slice_get}
use Rattle.bytecode_model.specs.Program.{Program}
use Rattle.method_flow.specs.Flow.{Flow, Coded, IsCoded, IsFlowOf}
use Rattle.method_flow.specs.Keeping.{BoundOf}
use Rattle.method_flow.specs.declared.timing.Timing.{Timing}
use Rattle.bound_finder.specs.declared.known.Known.{Known}
use Rattle.bound_finder.specs.declared.prepared.Prepared.{Prepared}
use Rattle.bound_finder.specs.declared.fit.Fit.{Fit}
use Rattle.bound_finder.specs.declared.found.Walked.{Walked}
use Rattle.bound_finder.specs.declared.found.Found.{Found}
use Rattle.bound_finder.specs.Known.{CalleesAreKnown}
use Rattle.bound_finder.specs.Prepared.{IsInShape, IsPreparedFor}
use Rattle.bound_finder.specs.Found.{IsWalked, found_by}

-- the method of a program with its flow, what it is prepared to, whether it fits the cache with all that it runs, and what its walks cost; the
-- table has what is known of methods
pub record WalkedMethod : Type 0 where
  pub program : Program
  pub timing : Timing
  pub bound_of : BoundOf
  pub flow : Flow
  pub table : List Known
  pub method : ℕ
  pub coded : Coded
  pub prepared : Prepared
  pub fit : Fit
  pub walked : Walked

-- these belong together, and all is told that the method may call
pub record IsWalkedMethod (x : WalkedMethod) : Type 0 where
  pub flow : IsFlowOf x.program x.flow
  pub at : slice_get x.flow.methods x.method ≡ Some x.coded
  pub coded : IsCoded x.coded
  pub callees : CalleesAreKnown x.program x.timing x.table x.method
  pub shape : IsInShape x.prepared
  pub prepared : IsPreparedFor x.program x.timing x.bound_of x.table x.method x.prepared
  pub fits : x.prepared.fits ≡ x.fit.fits
  pub walked : IsWalked x.prepared x.walked

-- what is found of it
abbrev pub found_of : WalkedMethod → Found
found_of x = found_by x.method x.fit x.walked
