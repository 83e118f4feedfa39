use Rattle.std.proofs.Common.{inr, [], refl, sym, ap, ◌∙◌, subst}
use Rattle.persistent_lists.specs.Tables as tables
use Rattle.program_tables.specs.Resolved.{resolved}
use Rattle.verifier_types.specs.Locals.{filled, with_types}
use Rattle.verifier_types.specs.Numbered.{AreNumbersOf}
use Rattle.verifier_types.specs.Seen.{types_seen}
use Rattle.verifier_types.proofs.NumberLemmas.{numbered_kept, numbered_after, known_after, kept_view, more_view, filled_seen, filled_fits, either, on_ok, on_err, always_err}
use Rattle.verifier_types.proofs.local_lists.LocalLists.push.Goals as goal

pub returns-in_err-numbers-clause-unchanged : goal.returns-in_err-numbers-clause-unchanged
returns-in_err-numbers-clause-unchanged c =
    always_err c.from_residual.result _ (kept_view c.self.inside.classes.now c.self.inside.types.keys c.numbers_of.new.types.keys c.self.inside.lists c.self.inside.lists c.numbers_of.ensures.more c.self.invariant.0 refl ∙ c.self.view_is)

pub invariant_of-self : goal.invariant_of-self
invariant_of-self c = (
  numbered_kept c.self.inside.types.keys c.numbers_of.new.types.keys c.self.inside.lists c.numbers_of.ensures.more c.self.invariant.0,
  known_after (resolved c.self.inside.classes.now) c.self.inside.types.keys c.numbers_of.new.types.keys c.self.inside.lists c.self.inside.lists [] c.numbers_of.ensures.more c.self.invariant.1 (inr refl),
)

pub invariant_of-self-2 : goal.invariant_of-self-2
invariant_of-self-2 c =
    let are = numbered_kept c.self.inside.types.keys c.numbers_of.new.types.keys c.self.inside.lists c.numbers_of.ensures.more c.self.invariant.0 in
    let numbers : AreNumbersOf c.numbers_of.new.types.keys c.args.locals.now c.deref.result.now = subst (λ ns. AreNumbersOf c.numbers_of.new.types.keys c.args.locals.now ns) (sym c.deref.ensures.value) c.in_ok-numbers.ensures.numbers in
    let added = either c.push.result _ _ c.push.ensures.list c.push.ensures.unchanged in (
      numbered_after c.numbers_of.new.types.keys c.self.inside.lists c.push.new.self (tables.filled c.self.inside.lists c.deref.result.now) are
          (filled_fits c.numbers_of.new.types.keys c.args.locals.now c.self.inside.lists c.deref.result.now are numbers) added,
      known_after (resolved c.self.inside.classes.now) c.self.inside.types.keys c.numbers_of.new.types.keys c.self.inside.lists c.push.new.self (tables.filled c.self.inside.lists c.deref.result.now) c.numbers_of.ensures.more c.self.invariant.1 added,
    )

pub returns-clause-list : goal.returns-clause-list
returns-clause-list c =
    let are = numbered_kept c.self.inside.types.keys c.numbers_of.new.types.keys c.self.inside.lists c.numbers_of.ensures.more c.self.invariant.0 in
    let numbers : AreNumbersOf c.numbers_of.new.types.keys c.args.locals.now c.deref.result.now = subst (λ ns. AreNumbersOf c.numbers_of.new.types.keys c.args.locals.now ns) (sym c.deref.ensures.value) c.in_ok-numbers.ensures.numbers in
    on_ok c.push.result _ _
    (λ e. more_view c.self.inside.classes.now c.self.inside.types.keys c.numbers_of.new.types.keys c.self.inside.lists c.push.new.self (tables.filled c.self.inside.lists c.deref.result.now) (filled c.self.inside.lists.width (types_seen c.args.locals.now))
    c.numbers_of.ensures.more c.self.invariant.0 e (filled_seen c.numbers_of.new.types.keys c.args.locals.now c.self.inside.lists c.deref.result.now are numbers)
    ∙ ap (λ t. with_types t (filled t.max_locals (types_seen c.args.locals.now))) c.self.view_is)
    c.push.ensures.list

pub returns-clause-unchanged : goal.returns-clause-unchanged
returns-clause-unchanged c =
    on_err c.push.result _ _ (λ e. kept_view c.self.inside.classes.now c.self.inside.types.keys c.numbers_of.new.types.keys c.self.inside.lists c.push.new.self c.numbers_of.ensures.more c.self.invariant.0 e ∙ c.self.view_is) c.push.ensures.unchanged
