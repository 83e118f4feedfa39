use Rattle.std.proofs.Common.{◌==◌, ◌||◌, List, not, ap, sym, ◌∙◌}
use Rattle.class_pool.specs.declared.class.ClassFile.{ClassFile}
use Rattle.class_lookup.specs.Parts.{is_static, is_private}
use Rattle.program_tables.specs.Unresolved.{calls_no_private, is_callable_name}
use Rattle.bytecode_model.specs.Effects.{same_bool}
use Rattle.unresolved_names.specs.Words.{rightly_named, rightly_special}
use Rattle.unresolved_names.proofs.ReasonLemmas.{kind_is_right, right_kind}
use Rattle.unresolved_names.proofs.methods.is_right_method.Goals as goal

pub returns : goal.returns
returns c = λ s same.
    let through = c.args.through.now in
    let caller = through.caller.now in
    let cs = caller.classes.now in
    let k = c.args.method.now in
    (c.is_callable_name.ensures s same ∙ ap (λ (ks : List ClassFile). is_callable_name ks caller.namer.number c.args.op s) c.classes.ensures)
    ∙ (kind_is_right (rightly_named cs caller.namer.number caller.namer.class.now c.args.of_interface c.args.op through.index) (same_bool (c.args.op == 184) (is_static k)) (not (calls_no_private c.args.op) || not (is_private k))
    (not (c.args.op == 183) || rightly_special cs caller.namer.number caller.namer.class.now through.index c.args.place) (is_callable_name cs caller.namer.number c.args.op s)
    c.if-not-is_named_rightly.ensures
    (c.if-not-is_as_needed.ensures ∙ ap (same_bool (c.args.op == 184)) c.has_flags.ensures)
    c.if-not-is_open_to_calls.ensures c.if-not-is_special_where_needed.ensures
    ∙ sym (right_kind cs caller.namer.number caller.namer.class.now c.args.of_interface c.args.op through.index s c.args.place k))
