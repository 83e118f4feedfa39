use Rattle.std.proofs.Common.{inr, [], ◌≡◌, refl, ap, ◌∙◌}
use Rattle.persistent_lists.specs.Tables as tables
use Rattle.program_tables.specs.Resolved.{resolved}
use Rattle.verifier_types.specs.Locals.{changed_types, with_types}
use Rattle.verifier_types.specs.Seen.{type_seen}
use Rattle.verifier_types.proofs.NumberLemmas.{table, numbered_kept, numbered_after, known_after, kept_view, more_view, changed_seen, either, on_ok, on_err, always_err}
use Rattle.verifier_types.proofs.local_lists.LocalLists.push_with.Goals as goal

pub returns-in_err-number-clause-unchanged : goal.returns-in_err-number-clause-unchanged
returns-in_err-number-clause-unchanged c =
    always_err c.from_residual.result _ (kept_view c.self.inside.classes.now c.self.inside.types.keys c.number_of.new.types.keys c.self.inside.lists c.self.inside.lists c.number_of.ensures.more c.self.invariant.0 refl ∙ c.self.view_is)

pub invariant_of-self : goal.invariant_of-self
invariant_of-self c = (
  numbered_kept c.self.inside.types.keys c.number_of.new.types.keys c.self.inside.lists c.number_of.ensures.more c.self.invariant.0,
  known_after (resolved c.self.inside.classes.now) c.self.inside.types.keys c.number_of.new.types.keys c.self.inside.lists c.self.inside.lists [] c.number_of.ensures.more c.self.invariant.1 (inr refl),
)

pub invariant_of-self-2 : goal.invariant_of-self-2
invariant_of-self-2 c =
    let are = numbered_kept c.self.inside.types.keys c.number_of.new.types.keys c.self.inside.lists c.number_of.ensures.more c.self.invariant.0 in
    let added = either c.push_with.result _ _ c.push_with.ensures.list c.push_with.ensures.unchanged in (
      numbered_after c.number_of.new.types.keys c.self.inside.lists c.push_with.new.self (tables.changed_list c.self.inside.lists c.args.list c.args.index c.in_ok-number.number) are
          (changed_seen c.self.inside.classes.now c.number_of.new.types.keys c.self.inside.lists c.args.list c.args.index c.in_ok-number.number c.args.item are c.in_ok-number.ensures.number).1 added,
      known_after (resolved c.self.inside.classes.now) c.self.inside.types.keys c.number_of.new.types.keys c.self.inside.lists c.push_with.new.self (tables.changed_list c.self.inside.lists c.args.list c.args.index c.in_ok-number.number) c.number_of.ensures.more c.self.invariant.1 added,
    )

pub returns-clause-list : goal.returns-clause-list
returns-clause-list c =
    let are = numbered_kept c.self.inside.types.keys c.number_of.new.types.keys c.self.inside.lists c.number_of.ensures.more c.self.invariant.0 in
    let same : table c.self.inside.classes.now c.number_of.new.types.keys c.self.inside.lists ≡ c.args.self.now =
    kept_view c.self.inside.classes.now c.self.inside.types.keys c.number_of.new.types.keys c.self.inside.lists c.self.inside.lists c.number_of.ensures.more c.self.invariant.0 refl ∙ c.self.view_is in
    on_ok c.push_with.result _ _
    (λ e. more_view c.self.inside.classes.now c.self.inside.types.keys c.number_of.new.types.keys c.self.inside.lists c.push_with.new.self (tables.changed_list c.self.inside.lists c.args.list c.args.index c.in_ok-number.number) _
    c.number_of.ensures.more c.self.invariant.0 e
    ((changed_seen c.self.inside.classes.now c.number_of.new.types.keys c.self.inside.lists c.args.list c.args.index c.in_ok-number.number c.args.item are c.in_ok-number.ensures.number).0
    ∙ ap (λ t. changed_types t c.args.list c.args.index (type_seen c.args.item)) same)
    ∙ ap (λ t. with_types t (changed_types c.args.self.now c.args.list c.args.index (type_seen c.args.item))) c.self.view_is)
    c.push_with.ensures.list

pub returns-clause-unchanged : goal.returns-clause-unchanged
returns-clause-unchanged c =
    on_err c.push_with.result _ _ (λ e. kept_view c.self.inside.classes.now c.self.inside.types.keys c.number_of.new.types.keys c.self.inside.lists c.push_with.new.self c.number_of.ensures.more c.self.invariant.0 e ∙ c.self.view_is) c.push_with.ensures.unchanged
