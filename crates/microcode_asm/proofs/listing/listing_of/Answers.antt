use Rattle.microcode_asm.proofs.WordLines.{one_more}
use Rattle.microcode_asm.proofs.listing.listing_of.Goals as goal

pub loop-address-preserved : goal.loop-address-preserved
loop-address-preserved c =
    let more = one_more c.args.words.now c.loop-address.address 0 c.loop-address-test.true in
    cc (c.in_ok-extend_from_slice.ensures.items, c.word_line.ensures, c.loop-address.invariant, more)
