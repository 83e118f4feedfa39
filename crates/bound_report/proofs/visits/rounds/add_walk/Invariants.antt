use Rattle.bound_report.proofs.visits.rounds.add_walk.Given as goal

abbrev pub ghost-add_path : goal.ghost-add_path
ghost-add_path a = a.q.now.found.now.topology.order.items
