use Rattle.std.proofs.Common.{sym, ap, ◌∙◌}
use Rattle.std.specs.Option.{option_map}
use Rattle.bytecode_model.specs.Lists.{onto}
use Rattle.class_pool.specs.declared.class.ClassFile.{ClassFile}
use Rattle.program_tables.specs.Kinds.{kind_of_entry}
use Rattle.program_tables.specs.Tables.{kind_seen}
use Rattle.bytecode_typing.specs.Checks.{reference_or_top}
use Rattle.bytecode_verifier.proofs.names.entry_object.Goals as goal

pub returns-in-Some : goal.returns-in-Some
returns-in-Some c = λ k at.
    let cs = c.args.of.now.program.now in
    ap reference_or_top (ap (option_map kind_seen) (sym c.in-Some.is) ∙ (c.kind_of_entry.ensures ∙ ap (λ o. onto o (λ (f : ClassFile). kind_of_entry cs f.pool c.args.index)) at))

pub returns-in-None : goal.returns-in-None
returns-in-None c = λ k at.
    let cs = c.args.of.now.program.now in
    ap reference_or_top (ap (option_map kind_seen) (sym c.in-None.is) ∙ (c.kind_of_entry.ensures ∙ ap (λ o. onto o (λ (f : ClassFile). kind_of_entry cs f.pool c.args.index)) at))
