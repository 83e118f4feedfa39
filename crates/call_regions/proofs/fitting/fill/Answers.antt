use Rattle.std.proofs.Common.{◌≡◌}
use Rattle.call_regions.proofs.Growing.{on_ok}
use Rattle.call_regions.proofs.Answering.{whole}
use Rattle.call_regions.proofs.fitting.fill.Goals as goal

pub returns : goal.returns
returns c =
    on_ok c.add_reached.result
    (λ found. whole c.args.f.now c.args.cache.block_words c.args.cache.blocks c.args.m (λ x. x ≡ c.args.m) c.args.s.now c.add.new.s c.add_reached.new.s c.requires.first c.in_ok-add.ensures found)
    c.add_reached.ensures
