use Rattle.std.proofs.Common.{map}
use Rattle.flow_facts.proofs.WordLemmas.{no_total}
use Rattle.flow_facts.proofs.line_reader.read_total.Goals as goal

pub returns-in_default-most_of : goal.returns-in_default-most_of
returns-in_default-most_of c = no_total c.args.name.now c.args.node.now c.args.most.now (map (λ w. w.now) c.args.scope.now) c.in_default-most_of.ensures
