use Rattle.std.proofs.Common.{◌≡◌, ◌++◌, take}
use Rattle.microcode_listing.specs.Listing.{numbered, entry_text}
use Rattle.microcode_listing.proofs.put_entries_of.Given as goal

abbrev pub invariant-loop-op : goal.invariant-loop-op
invariant-loop-op l = l.out.items ≡ l.initial.out.items ++ numbered (entry_text l.address) 0 (take l.op l.entries)
