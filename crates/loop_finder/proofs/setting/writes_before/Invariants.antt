use Rattle.loop_finder.proofs.Traced.{IsTraced}
use Rattle.loop_finder.proofs.setting.writes_before.Given as goal

abbrev pub invariant-loop-step : goal.invariant-loop-step
invariant-loop-step l = IsTraced l.acts l.routes l.from l.node l._step l.places.items
