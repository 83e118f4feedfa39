use Rattle.known_ints.proofs.answers.told_of_load.Goals as goal

pub returns-in_ok-ask : goal.returns-in_ok-ask
returns-in_ok-ask c P known m of so come = let told = c.in_ok-ask.ensures P known m of so come in (told, told.settled)
