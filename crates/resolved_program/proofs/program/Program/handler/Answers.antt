use Rattle.std.proofs.Common.{ap, ◌∙◌}
use Rattle.std.proofs.lemmas.Bool.{ne_eqb}
use Rattle.std.specs.Option.{option_map}
use Rattle.bytecode_model.specs.Lists.{onto}
use Rattle.program_tables.specs.Kinds.{kind_of_entry}
use Rattle.program_tables.specs.Tables.{kind_seen}
use Rattle.resolved_program.proofs.InstructionLemmas.{catches_any, catches_one}
use Rattle.resolved_program.proofs.program.Program.handler.Goals as goal

pub returns-then-caught-eq0 : goal.returns-then-caught-eq0
returns-then-caught-eq0 c = λ k at. catches_any c.args.self.now k c.args.entry c.if-caught-eq0.true

pub returns-else-caught-eq0 : goal.returns-else-caught-eq0
returns-else-caught-eq0 c = λ k at.
    let cs = c.args.self.now in
    catches_one cs k c.args.entry (option_map kind_seen c.kind_of_entry.result) (ne_eqb c.args.entry.3 0 c.if-caught-eq0.false)
    (c.kind_of_entry.ensures ∙ ap (λ o. onto o (λ f. kind_of_entry cs f.pool c.args.entry.3)) at)
