use Rattle.std.proofs.Common.{sym, append-nil}
use Rattle.microcode_listing.specs.Listing.{numbered, word_text}
use Rattle.microcode_listing.proofs.Numbers.{put_next}
use Rattle.microcode_listing.proofs.put_words_of.Goals as goal

pub loop-address-init : goal.loop-address-init
unfolding numbered
loop-address-init c = sym (append-nil c.args.out.now.items)

pub loop-address-preserved : goal.loop-address-preserved
loop-address-preserved c =
    put_next word_text c.args.words.now c.loop-address.address 0 c.args.out.now.items c.loop-address.out.items c.put_row_word.new.out.items c.loop-address-test.true c.loop-address.invariant c.in_ok-put_row_word.ensures
