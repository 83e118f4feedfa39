use Rattle.std.proofs.Common.{refl}
use Rattle.source_places.proofs.tables.laws.examples.Goals as goal

pub returns : goal.returns
returns c = record { two = refl; short = refl; long = refl; empty = refl; between = refl; there = refl; turned = refl; before = refl; twice = refl; folder = refl; unnamed = refl }
