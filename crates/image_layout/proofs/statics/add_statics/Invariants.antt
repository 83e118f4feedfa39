use Rattle.std.proofs.Common.{◌≡◌, ◌++◌, take}
use Rattle.std.specs.List.{filter_map, flat_map}
use Rattle.image_facts.specs.Words.{words_of}
use Rattle.program_tables.specs.Numbers.{static_fields}
use Rattle.program_tables.specs.Resolved.{first_value}
use Rattle.image_words.specs.Layout.{outline_of}
use Rattle.image_words.specs.Regions.{first_place}
use Rattle.image_layout.proofs.statics.add_statics.Given as goal

abbrev pub invariant-loop-index : goal.invariant-loop-index
invariant-loop-index l =
    l.words.items ≡ l.fn.words.items ++ flat_map (words_of (first_place l.program (outline_of l.program))) (filter_map (first_value l.program) (take l.index (static_fields l.program)))
