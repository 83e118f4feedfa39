use Rattle.std.proofs.Common.{sym, ap, ◌∙◌}
use Rattle.std.specs.Option.{option_map}
use Rattle.class_pool.specs.Grammar.{class_name_of, entry_at}
use Rattle.bytecode_model.specs.Lists.{onto}
use Rattle.program_tables.specs.Entries.{meaning_at}
use Rattle.program_tables.specs.Kinds.{kind_of_entry}
use Rattle.program_tables.specs.Tables.{kind_seen}
use Rattle.program_tables.proofs.TakenLemmas.{class_usual}
use Rattle.resolved_program.proofs.InstructionLemmas.{kind_back, no_class}
use Rattle.resolved_program.proofs.program.Program.kind_of_entry.Goals as goal

pub returns-in-Some : goal.returns-in-Some
returns-in-Some c =
    let cs = c.args.self.now in
    let class = c.args.class in
    let index = c.args.index in
    let k = c.class.result.now in
    let at = c.class.ensures in
    ap (option_map kind_seen) c.kind_in.ensures
    ∙ (kind_back c.meaning.result.usual (kind_of_entry cs k.pool index) (
    ap (λ m. m.usual) (c.meaning.ensures k at ∙ ap (meaning_at cs class k) c.from.ensures) ∙ class_usual cs class k index c.in-Some.field-0 (entry_at k.pool index) (sym c.in-Some.ensures)
    )
    ∙ ap (λ o. onto o (λ f. kind_of_entry cs f.pool index)) (sym at))

pub returns-in-None : goal.returns-in-None
returns-in-None c =
    let cs = c.args.self.now in
    let index = c.args.index in
    let k = c.class.result.now in
    no_class cs k.pool (class_name_of (entry_at k.pool index)) (sym c.in-None.ensures) ∙ ap (λ o. onto o (λ f. kind_of_entry cs f.pool index)) (sym c.class.ensures)
