use Rattle.std.proofs.Common.{arith, ap, length}
use Rattle.ask_commands.proofs.Fitting.{words_fit}
use Rattle.ask_commands.proofs.assembling.listing.Goals as goal

pub listing_of-requires : goal.listing_of-requires
listing_of-requires c =
    let few = words_fit c.args.text.now c.in-Ok.rom c.in-Ok.ensures.assembled in
    record { few = omega (arith, few, ap length c.as_slice.ensures) }
