use Rattle.std.proofs.lemmas.Map.Text.{btree_map_updates_str}
use Rattle.class_rules.proofs.distinct.number_of.Goals as goal

pub returns-clause-numbered : goal.returns-clause-numbered
returns-clause-numbered c = btree_map_updates_str c.args.text.now c.args.numbers.now c.insert.new.self _ c.in_ok-insert.ensures.updates
