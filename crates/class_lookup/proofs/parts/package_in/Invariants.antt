use Rattle.std.proofs.Common.{◌≡◌, ◌≤◌, drop}
use Rattle.class_lookup.proofs.PackageLemmas.{last_slash}
use Rattle.class_lookup.proofs.parts.package_in.Given as goal

abbrev pub invariant-loop-i : goal.invariant-loop-i
invariant-loop-i l = (last_slash l.i l.length (drop l.i l.name) ≡ last_slash 0 0 l.name) × (l.length ≤ l.i)
