use Rattle.std.proofs.Common.{◌≡◌, [], take}
use Rattle.std.specs.List.{flat_map}
use Rattle.unresolved_names.specs.Causes.{refused_frame_class}
use Rattle.unresolved_names.proofs.mentions.first_in_frames.Given as goal

abbrev pub invariant-loop-index : goal.invariant-loop-index
invariant-loop-index l = flat_map (refused_frame_class l.namer.texts.now l.namer.class.now) (take l.index-index l.indexes) ≡ []
