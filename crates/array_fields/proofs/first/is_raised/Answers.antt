use Rattle.std.proofs.Common.{ℕ, List, length, sym, subst, ◌<◌}
use Rattle.std.specs.Prelude.{All}
use Rattle.array_fields.proofs.Starting.{raised_within}
use Rattle.array_fields.proofs.first.is_raised.Goals as goal

pub are_below-requires : goal.are_below-requires
are_below-requires c = subst (λ (xs : List ℕ). All (λ d. d < length c.args.program.now) xs) (sym c.raised_classes.ensures) (raised_within c.args.program.now c.is_resolved.ensures)
