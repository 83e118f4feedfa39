use Rattle.std.proofs.Common.{◌∷◌, ◌++◌, [], Option, sym, ap, ◌∙◌}
use Rattle.std.specs.Option.{option_map_or}
use Rattle.program_tables.specs.declared.operand.Declared.{Declared}
use Rattle.program_tables.proofs.ShapeLemmas.{next_declared}
use Rattle.program_tables.proofs.text_type.all_declared.Goals as goal
use Rattle.program_tables.proofs.text_type.all_declared.Goals.{in-Some+in_ok-push-in-Some, in-None}

pub loop-of-preserved : goal.loop-of-preserved
loop-of-preserved c =
    let made = c.loop-of.all.items in
    let found = c.declared_of.result in
    next_declared c.args.classes.now c.args.types.now c.loop-of.of-index c.of-item.result made c.match-declared_of.all.items found c.loop-of-test.true c.of-item.is c.loop-of.invariant c.declared_of.ensures (
    elim c.match-declared_of.branch [
      | in-Some+in_ok-push-in-Some w ↦
          ap (λ x. x.items) w.all-is ∙ (w.in_ok-push-in-Some.ensures.items ∙ ap (λ (o : Option Declared). option_map_or (λ d. made ++ d ∷ []) o made) (sym w.in-Some.is))
      | in-None w ↦ ap (λ x. x.items) w.all-is ∙ ap (λ (o : Option Declared). option_map_or (λ d. made ++ d ∷ []) o made) (sym w.in-None.is)
    ]
    )
