-- What options were given to mean, as the code has it.
use Rattle.std.specs.Prelude.{ℕ, List, [], ◌∷◌}
use Rattle.std.specs.declared.option.Option.{Option}
use Rattle.command_line.specs.declared.given.Given.{Given}

abbrev pub values_of : Given → List (Option ℕ)
values_of g = g.main ∷ g.method ∷ g.all ∷ g.shapes ∷ g.cycles ∷ g.stack ∷ g.memory ∷ g.blocks ∷ g.block_words ∷ g.read ∷ g.write ∷ g.micro ∷ g.rounds
    ∷ g.further ∷ g.facts ∷ []
