use Rattle.std.proofs.Common.{sym, ap, ◌∙◌}
use Rattle.std.specs.Prelude.{slice_get}
use Rattle.program_tables.proofs.TableLemmas.{all_more, small_pool}
use Rattle.resolved_program.proofs.entries.all_meanings.Goals as goal

pub meanings_in-requires-clause-pool : goal.meanings_in-requires-clause-pool
meanings_in-requires-clause-pool c =
    let i = c.loop-current.current in
    small_pool c.args.tables.now.classes.now i c.class.result.now c.requires.bounds (ap (λ xs. slice_get xs i) (sym c.classes-listed.ensures) ∙ c.class.ensures)

pub loop-current-preserved : goal.loop-current-preserved
loop-current-preserved c =
    let i = c.loop-current.current in
    all_more c.args.tables.now.classes.now i c.loop-current.made.items c.push.new.self.items c.in_ok-meanings_in.field-0 c.class.result.now c.loop-current.invariant c.in_ok-push.ensures.items
    (ap (λ xs. slice_get xs i) (sym c.classes-listed.ensures) ∙ c.class.ensures) c.in_ok-meanings_in.ensures
