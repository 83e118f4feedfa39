use Rattle.std.proofs.Common.{refl}
use Rattle.section_index.proofs.Ranks.{are_sets}
use Rattle.section_index.proofs.numbering.numbered.Goals as goal

pub new-requires : goal.new-requires
new-requires c = are_sets c.args.numbers.now c.args.loops.now _ c.requires.numbers c.requires.members c.in_ok-sets.ensures _ refl
