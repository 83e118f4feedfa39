use Rattle.std.proofs.Common.{◌∙◌, ap, sym}
use Rattle.bound_finder.specs.Found.{found_by}
use Rattle.bound_finder.proofs.found.found_by.Goals as goal

pub returns-in-Large : goal.returns-in-Large
returns-in-Large c = c.large.ensures c.args.m ∙ ap (found_by c.args.m c.args.fit) (sym c.in-Large.is)
