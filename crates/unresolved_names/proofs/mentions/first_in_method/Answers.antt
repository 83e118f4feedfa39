use Rattle.std.proofs.Common.{ℕ, Some, ◌∙◌, sym, ap}
use Rattle.class_pool.specs.Grammar.{text_at}
use Rattle.lists.proofs.FirstLemmas.{ok_same}
use Rattle.program_tables.specs.declared.refusal.Why.TheVariants as reasons
use Rattle.program_tables.specs.Kinds.{classes_in_method_descriptor}
use Rattle.unresolved_names.proofs.MentionLemmas.{at_descriptor, at_code, without_code}
use Rattle.unresolved_names.proofs.ReasonLemmas.{is_all_there, isnt_all_there}
use Rattle.unresolved_names.proofs.mentions.first_in_method.Goals as goal

pub returns-then-not-is_method_there : goal.returns-then-not-is_method_there
returns-then-not-is_method_there c =
    let caller = c.args.caller.now in
    ap (λ (d : ℕ). Some (d, reasons.NoClass)) c.from.ensures
    ∙ at_descriptor caller.classes.now caller.namer.number caller.namer.class.now c.args.method.now
    (isnt_all_there caller.namer.texts.now caller.classes.now (classes_in_method_descriptor (text_at caller.namer.class.now.pool c.args.method.now.descriptor)) caller.same c.if-not-is_method_there.ensures)

pub returns-in-Some : goal.returns-in-Some
returns-in-Some c =
    let caller = c.args.caller.now in
    ok_same c.first_in_code.result _ _
    (at_code caller.classes.now caller.namer.number caller.namer.class.now c.args.method.now c.in-Some.code.now (sym c.in-Some.ensures)
    (is_all_there caller.namer.texts.now caller.classes.now (classes_in_method_descriptor (text_at caller.namer.class.now.pool c.args.method.now.descriptor)) caller.same c.if-not-is_method_there.ensures))
    c.first_in_code.ensures

pub returns-in-None : goal.returns-in-None
returns-in-None c =
    let caller = c.args.caller.now in
    without_code caller.classes.now caller.namer.number caller.namer.class.now c.args.method.now (sym c.in-None.ensures)
    (is_all_there caller.namer.texts.now caller.classes.now (classes_in_method_descriptor (text_at caller.namer.class.now.pool c.args.method.now.descriptor)) caller.same c.if-not-is_method_there.ensures)
