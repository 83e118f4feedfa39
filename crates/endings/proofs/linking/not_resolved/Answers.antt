use Rattle.endings.proofs.linking.not_resolved.Goals as goal

pub returns-in-Ok : goal.returns-in-Ok
returns-in-Ok c main refused = (refused, c.in-Ok.ensures)
