use Rattle.bound_report.proofs.VisitsLemmas.GhostMembers.{members_headed}
use Rattle.bound_report.proofs.visits.rounds.go_round.Given as goal

abbrev pub ghost-add_path : goal.ghost-add_path
ghost-add_path a = members_headed a.q.now.nest.now a.start
