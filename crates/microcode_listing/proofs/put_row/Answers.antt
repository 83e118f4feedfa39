use Rattle.microcode_listing.specs.Listing.{head_text}
use Rattle.microcode_listing.proofs.Numbers.{put_three}
use Rattle.microcode_listing.proofs.put_row.Goals as goal

pub returns : goal.returns
unfolding head_text
returns c = put_three c.put_opcodes.result _ _ _ _ _ _ _ c.in_ok-put.ensures c.in_ok-put_numbered.ensures c.put_opcodes.ensures
