use Rattle.std.proofs.Common.{ap₂, true, false, ◌∙◌}
use Rattle.class_lookup.specs.Parts.{signature_of}
use Rattle.bytecode_model.specs.Effects.{same_bool}
use Rattle.unresolved_names.proofs.ReasonLemmas.{refused_use, judged_use, field_lost}
use Rattle.unresolved_names.proofs.fields.why_field_found.Goals as goal

pub returns-in_default : goal.returns-in_default
returns-in_default c =
    let through = c.args.through.now in
    let caller = through.caller.now in
    field_lost c.classes.result.now caller.classes.now caller.namer.number caller.namer.class.now (signature_of caller.namer.class.now c.args.method.now) c.args.op through.index c.args.place c.classes.ensures c.in_default.ensures

pub returns-then-not-may_use_field : goal.returns-then-not-may_use_field
returns-then-not-may_use_field c =
    let through = c.args.through.now in
    let caller = through.caller.now in
    refused_use c.classes.result.now caller.classes.now caller.namer.number caller.namer.class.now (signature_of caller.namer.class.now c.args.method.now) c.args.op through.index c.args.place c.in-Some.field.now c.classes.ensures c.in-Some.ensures
    c.if-not-may_use_field.ensures

pub returns-then-not-is_as_needed : goal.returns-then-not-is_as_needed
returns-then-not-is_as_needed c =
    let through = c.args.through.now in
    let caller = through.caller.now in
    judged_use c.classes.result.now caller.classes.now caller.namer.number caller.namer.class.now (signature_of caller.namer.class.now c.args.method.now) c.args.op through.index c.args.place c.in-Some.field.now false c.classes.ensures c.in-Some.ensures
    c.if-not-may_use_field.ensures (c.if-not-is_as_needed.ensures ∙ ap₂ same_bool c.needs_static_field.ensures c.has_flags.ensures)

pub returns-else-not-is_as_needed : goal.returns-else-not-is_as_needed
returns-else-not-is_as_needed c =
    let through = c.args.through.now in
    let caller = through.caller.now in
    judged_use c.classes.result.now caller.classes.now caller.namer.number caller.namer.class.now (signature_of caller.namer.class.now c.args.method.now) c.args.op through.index c.args.place c.in-Some.field.now true c.classes.ensures c.in-Some.ensures
    c.if-not-may_use_field.ensures (c.if-not-is_as_needed.ensures ∙ ap₂ same_bool c.needs_static_field.ensures c.has_flags.ensures)
