use Rattle.std.proofs.Common.{◌≡◌, drop}
use Rattle.loop_finder.specs.Counting.{begin_in}
use Rattle.loop_finder.proofs.body.begin_in.Given as goal

-- no entry before is for it
abbrev pub invariant-loop-begin : goal.invariant-loop-begin
invariant-loop-begin l = begin_in l.begins l.header l.local ≡ begin_in (drop l.begin-index l.begins) l.header l.local
