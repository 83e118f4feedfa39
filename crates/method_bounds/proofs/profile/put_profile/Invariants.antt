use Rattle.std.proofs.Common.{◌≤◌, take}
use Rattle.outside.specs.Outside.{Grew}
use Rattle.method_bounds.specs.Lines.{name_in}
use Rattle.method_bounds.specs.Profiles.{profile_lines}
use Rattle.method_bounds.proofs.profile.put_profile.Given as goal

abbrev pub invariant-loop-m : goal.invariant-loop-m
invariant-loop-m g l = record {
  put : Grew (g.O.Sink.held l.fn.out) (g.O.Sink.held l.out) (profile_lines (name_in l.f) 0 (take l.m l.rows) (take l.m l.answers));
  later : g.O.Sink.faults l.fn.out ≤ g.O.Sink.faults l.out;
}
