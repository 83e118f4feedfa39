use Rattle.std.proofs.Common.{◌≡◌, ℕ, take}
use Rattle.bytecode_model.specs.Program.{Program}
use Rattle.method_flow.specs.Flow.{IsFlowOf}
use Rattle.call_regions.specs.Tables.{Runs}
use Rattle.method_bounds.specs.Leasts.{AreLeasts, AreLeastsOf, AreListed}
use Rattle.method_bounds.proofs.Leasts.{IsUpTo}
use Rattle.method_bounds.proofs.causes.of_method.Given as goal

abbrev pub invariant-loop-call : goal.invariant-loop-call
invariant-loop-call l = record {
  same : l.found.methods.items ≡ l.fn.found.methods.items;
  leasts : (P : Program) → IsFlowOf P l.f → AreListed l.f l.loops P l.fn.found.lists.items → ((t : ℕ) → Runs l.f l.m t → AreLeastsOf l.loops P l.fn.found.methods.items t)
      → AreListed l.f l.loops P l.found.lists.items × AreLeasts l.loops (IsUpTo P l.f l.m (take l.call-index l.call-items)) l.leasts;
}
