use Rattle.std.proofs.Common.{sym, append-nil}
use Rattle.microcode_listing.specs.Listing.{numbered, entry_text}
use Rattle.microcode_listing.proofs.Numbers.{put_next}
use Rattle.microcode_listing.proofs.put_entries_of.Goals as goal

pub loop-op-init : goal.loop-op-init
unfolding numbered
loop-op-init c = sym (append-nil c.args.out.now.items)

pub loop-op-preserved : goal.loop-op-preserved
loop-op-preserved c =
    put_next (entry_text c.args.address) c.args.entries.now c.loop-op.op 0 c.args.out.now.items c.loop-op.out.items c.put_entry.new.out.items c.loop-op-test.true c.loop-op.invariant c.in_ok-put_entry.ensures
