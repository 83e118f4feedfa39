use Rattle.std.proofs.Common.{◌∙◌, sym}
use Rattle.class_lookup.specs.Parts.{signature_of}
use Rattle.class_pool.specs.Grammar.{text_at}
use Rattle.program_tables.specs.Kinds.{class_in_entry, classes_in_field_descriptor}
use Rattle.unresolved_names.specs.Causes.{signature_at}
use Rattle.unresolved_names.proofs.ReasonLemmas.{field_found, is_all_there, class_is_named}
use Rattle.unresolved_names.proofs.fields.why_field.Goals as goal

pub returns : goal.returns
returns c =
    let caller = c.args.caller.now in
    let cs = caller.classes.now in
    let pool = caller.namer.class.now.pool in
    let there = is_all_there caller.namer.texts.now cs (class_in_entry pool c.args.index) caller.same c.if-not-is_entry_there.ensures in
    let all = is_all_there caller.namer.texts.now cs (classes_in_field_descriptor (text_at pool c.args.descriptor)) caller.same c.if-not-is_field_there.ensures in
    let named = class_is_named caller.namer.texts.now cs caller.namer.class.now c.args.index c.in-Some.class caller.same c.in-Some.ensures.named in
    c.why_field_found.ensures
    ∙ field_found cs caller.namer.number caller.namer.class.now (signature_of caller.namer.class.now c.args.method.now) c.args.op c.args.index (signature_at pool c.args.name c.args.descriptor) c.in-Some.class c.in-Some-field_found.place there all named (sym c.in-Some-field_found.ensures)
