-- The members of the loop of a header.
use Rattle.std.proofs.Common.{ℕ, List, [], ◌∷◌}
use Rattle.std.specs.Prelude.{◌==◌, if◌then◌else◌}
use Rattle.loop_nest.specs.Nest.{NaturalLoop}

abbrev pub members_headed : List NaturalLoop → (header : ℕ) → List ℕ
members_headed [] h = []
members_headed (l ∷ ls) h = if l.header == h then l.members else members_headed ls h
