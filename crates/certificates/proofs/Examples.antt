-- The worked texts, by computing.
use Rattle.std.proofs.Common.{refl}
use Rattle.std.specs.Fmt.{digits}
use Rattle.certificates.specs.Examples.{WorkedTexts}

pub worked : WorkedTexts
unfolding digits
worked = record {
  text_of_smallest = refl;
  text_of_sections = refl;
  greatest_potential = refl;
  least_potential = refl;
  greatest_loop = refl;
  greatest_method = refl;
  no_cycle = refl;
  root_first = refl;
  version_twice = refl;
  node_in_no_section = refl;
  node_behind_loop = refl;
  behind_bound = refl;
  alone_beside_loops = refl;
}
