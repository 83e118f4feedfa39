use Rattle.std.proofs.Common.{sym, append-nil}
use Rattle.microcode_listing.specs.Listing.{numbered, constant_text}
use Rattle.microcode_listing.proofs.Numbers.{put_next}
use Rattle.microcode_listing.proofs.put_values.Goals as goal

pub loop-number-init : goal.loop-number-init
unfolding numbered
loop-number-init c = sym (append-nil c.args.out.now.items)

pub loop-number-preserved : goal.loop-number-preserved
loop-number-preserved c =
    put_next constant_text c.args.values.now c.loop-number.number 0 c.args.out.now.items c.loop-number.out.items c.put_constant.new.out.items c.loop-number-test.true c.loop-number.invariant c.in_ok-put_constant.ensures
