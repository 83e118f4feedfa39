use Rattle.loop_finder.proofs.Skipping.{none_idle}
use Rattle.loop_finder.proofs.finding.skipped_flags.Goals as goal

pub returns-in_ok-vec-in-OfSites : goal.returns-in_ok-vec-in-OfSites
returns-in_ok-vec-in-OfSites c = none_idle c.args.acts.now c.args.nodes _ (c.in_ok-vec-in-OfSites.ensures.items_if_clones_equal (λ y h. h))
