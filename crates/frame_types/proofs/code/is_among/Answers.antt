use Rattle.std.proofs.Common.{◌∙◌}
use Rattle.std.proofs.lemmas.List.Sorted.{searched}
use Rattle.lists.specs.Members.{rising_all}
use Rattle.frame_types.proofs.SearchLemmas.{told}
use Rattle.frame_types.proofs.code.is_among.Goals as goal

pub returns : goal.returns
returns c =
    let xs = c.args.numbers.now in
    let x = c.args.number in
    c.is_ok.ensures.value ∙ told xs x c.binary_search.result (searched xs x c.binary_search.result c.binary_search.ensures.position (rising_all xs c.requires))
