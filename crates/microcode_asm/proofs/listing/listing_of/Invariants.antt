use Rattle.std.proofs.Common.{◌≡◌, take}
use Rattle.microcode_asm.specs.Listing.{listing_of}
use Rattle.microcode_asm.proofs.listing.listing_of.Given as goal

abbrev pub invariant-loop-address : goal.invariant-loop-address
invariant-loop-address l = l.text.items ≡ listing_of (take l.address l.words)
