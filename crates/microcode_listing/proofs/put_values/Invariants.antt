use Rattle.std.proofs.Common.{◌≡◌, ◌++◌, take}
use Rattle.microcode_listing.specs.Listing.{numbered, constant_text}
use Rattle.microcode_listing.proofs.put_values.Given as goal

abbrev pub invariant-loop-number : goal.invariant-loop-number
invariant-loop-number l = l.out.items ≡ l.initial.out.items ++ numbered constant_text 0 (take l.number l.values)
