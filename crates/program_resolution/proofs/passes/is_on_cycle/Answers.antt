use Rattle.std.proofs.Common.{◌≤◌, ℕ, Option, length, sym, subst, ◌∙◌}
use Rattle.std.specs.Prelude.{IfSome}
use Rattle.class_lookup.specs.Hierarchy.{is_on_a_cycle}
use Rattle.program_resolution.proofs.AnyLemmas.{is_the_first, is_none_of_them}
use Rattle.program_resolution.proofs.passes.is_on_cycle.Goals as goal

pub returns-in-Some : goal.returns-in-Some
returns-in-Some c =
    is_the_first (is_on_a_cycle c.args.classes.now) (length c.args.classes.now) c.args.class c.in-Some.found (sym c.in-Some.is ∙ c.requires.first)
    (subst (λ (o : Option ℕ). IfSome o (λ d. c.args.class ≤ d)) c.in-Some.is c.requires.behind)

pub returns-in-None : goal.returns-in-None
returns-in-None c = is_none_of_them (is_on_a_cycle c.args.classes.now) (length c.args.classes.now) c.args.class (sym c.in-None.is ∙ c.requires.first) c.requires.class
