use Rattle.microcode_listing.proofs.Whole.{assembled_text}
use Rattle.microcode_listing.proofs.laws.the_listing_is_assembled.Goals as goal

pub returns : goal.returns
returns c = assembled_text
