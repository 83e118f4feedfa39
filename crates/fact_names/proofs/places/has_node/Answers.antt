use Rattle.fact_names.proofs.places.has_node.Goals as goal

pub may_raise-requires-clause-inside : goal.may_raise-requires-clause-inside
may_raise-requires-clause-inside c = (c.starts_follow_one_another.ensures c.args.code.now).within_code c.in-RaiseStep.place (c.is_start-in-RaiseStep.ensures.0 c.if-is_start.true)
