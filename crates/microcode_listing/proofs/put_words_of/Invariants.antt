use Rattle.std.proofs.Common.{◌≡◌, ◌++◌, take}
use Rattle.microcode_listing.specs.Listing.{numbered, word_text}
use Rattle.microcode_listing.proofs.put_words_of.Given as goal

abbrev pub invariant-loop-address : goal.invariant-loop-address
invariant-loop-address l = l.out.items ≡ l.initial.out.items ++ numbered word_text 0 (take l.address l.words)
