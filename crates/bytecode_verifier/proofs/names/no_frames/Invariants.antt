use Rattle.std.proofs.Common.{◌≡◌, replicate, None}
use Rattle.bytecode_verifier.proofs.names.no_frames.Given as goal

abbrev pub invariant-loop-place : goal.invariant-loop-place
invariant-loop-place l = l.frames.items ≡ replicate l._place None
