use Rattle.path_solver.proofs.Listing.{IsListing}
use Rattle.path_solver.proofs.certifying.potentials.Given as goal

abbrev pub invariant-loop-u : goal.invariant-loop-u
invariant-loop-u l = IsListing l.listed l.value l.dist l.u l.nodes.items
