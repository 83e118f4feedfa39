use Rattle.std.specs.Prelude.{unsigned_abs}
use Rattle.std.proofs.Common.{rules, ◌≡◌, false, sym, ap, ◌∙◌}
use Rattle.std.specs.Option.{option_map_or}
use Rattle.class_pool.specs.declared.class.ClassFile.{ClassFile}
use Rattle.class_pool.specs.Grammar.{entry_at}
use Rattle.lists.proofs.Lemmas.{some_same}
use Rattle.program_tables.specs.Instructions.{index_of_entry}
use Rattle.program_tables.specs.Taken.{takes_entry}
use Rattle.resolved_program.proofs.program.Program.takes.Goals as goal

pub returns-in-Some : goal.returns-in-Some
returns-in-Some c = λ k at.
    let abs : c.unsigned_abs.result ≡ unsigned_abs c.args.instr.now.first = search rules in
    let file = c.class-file.result.now in
    let op = c.args.instr.now.op in
    c.takes_entry.ensures
    ∙ (ap (λ o. option_map_or (takes_entry file.major op) o false) (c.in-Some.ensures ∙ ap (entry_at file.pool) abs)
    ∙ ap (λ (f : ClassFile). option_map_or (takes_entry f.major op) (entry_at f.pool (index_of_entry c.args.instr.now)) false) (some_same file k (sym c.class-file.ensures ∙ at)))

pub returns-in-None : goal.returns-in-None
returns-in-None c = λ k at.
    let abs : c.unsigned_abs.result ≡ unsigned_abs c.args.instr.now.first = search rules in
    let file = c.class-file.result.now in
    let op = c.args.instr.now.op in
    ap (λ o. option_map_or (takes_entry file.major op) o false) (c.in-None.ensures ∙ ap (entry_at file.pool) abs)
    ∙ ap (λ (f : ClassFile). option_map_or (takes_entry f.major op) (entry_at f.pool (index_of_entry c.args.instr.now)) false) (some_same file k (sym c.class-file.ensures ∙ at))
