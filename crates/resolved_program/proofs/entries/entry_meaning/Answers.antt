use Rattle.std.proofs.Common.{Some, inl, inr, sym, ap, ◌∙◌}
use Rattle.program_tables.specs.Entries.{meaning_of}
use Rattle.resolved_program.proofs.entries.entry_meaning.Goals as goal

pub returns-in-Field : goal.returns-in-Field
returns-in-Field c = c.field_meaning.ensures c.args.index ∙ ap (λ e. meaning_of c.args.tables.now.classes.now c.args.current c.args.class.now c.args.index (Some e)) (sym c.in-Field.is)

-- which of both it is doesn't count for what it means
pub returns-in-Method : goal.returns-in-Method
returns-in-Method c = elim c.in-Method.is [
  | inl is ↦ c.method_meaning.ensures c.args.index ∙ ap (λ e. meaning_of c.args.tables.now.classes.now c.args.current c.args.class.now c.args.index (Some e)) (sym is)
  | inr is ↦ c.method_meaning.ensures c.args.index ∙ ap (λ e. meaning_of c.args.tables.now.classes.now c.args.current c.args.class.now c.args.index (Some e)) (sym is)
]
