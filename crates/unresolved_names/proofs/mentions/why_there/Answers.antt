use Rattle.std.proofs.Common.{◌∙◌}
use Rattle.class_lookup.specs.Parts.{signature_of}
use Rattle.unresolved_names.specs.Causes.{signature_at}
use Rattle.unresolved_names.proofs.ReasonLemmas.{constant_told, class_told, field_told, method_told, interface_told, no_field_told, no_method_told, no_interface_told, signature_is, no_signature}
use Rattle.unresolved_names.proofs.mentions.why_there.Goals as goal

pub returns-in-Constant : goal.returns-in-Constant
returns-in-Constant c =
    let caller = c.args.caller.now in
    constant_told caller.classes.now caller.namer.number caller.namer.class.now (signature_of caller.namer.class.now c.args.method.now) c.args.op c.args.named c.in-Constant.field-0 c.in-Constant.is

pub returns-in-Class : goal.returns-in-Class
returns-in-Class c =
    let caller = c.args.caller.now in
    c.why_class_use.ensures ∙ class_told caller.namer.texts.now caller.classes.now caller.namer.number caller.namer.class.now (signature_of caller.namer.class.now c.args.method.now) c.args.op c.args.named c.in-Class.index caller.same c.in-Class.is

pub returns-in-Some : goal.returns-in-Some
returns-in-Some c =
    let caller = c.args.caller.now in
    let pool = caller.namer.class.now.pool in
    c.why_field.ensures
    ∙ field_told caller.classes.now caller.namer.number caller.namer.class.now (signature_of caller.namer.class.now c.args.method.now) c.args.op c.args.named c.in-Field.index c.in-Field.member (signature_at pool c.in-Some.name c.in-Some.descriptor) c.in-Field.is
    (signature_is pool c.in-Field.member c.in-Some.name c.in-Some.descriptor c.in-Some.ensures)

pub returns-in-None : goal.returns-in-None
returns-in-None c =
    let caller = c.args.caller.now in
    no_field_told caller.classes.now caller.namer.number caller.namer.class.now (signature_of caller.namer.class.now c.args.method.now) c.args.op c.args.named c.in-Field.index c.in-Field.member c.in-Field.is
    (no_signature caller.namer.class.now.pool c.in-Field.member c.in-None.ensures)

pub returns-in-Some-name_and_type : goal.returns-in-Some-name_and_type
returns-in-Some-name_and_type c =
    let caller = c.args.caller.now in
    let pool = caller.namer.class.now.pool in
    c.why_method.ensures
    ∙ method_told caller.classes.now caller.namer.number caller.namer.class.now (signature_of caller.namer.class.now c.args.method.now) c.args.op c.args.named c.in-Method.index c.in-Method.member (signature_at pool c.in-Some-name_and_type.name c.in-Some-name_and_type.descriptor) c.in-Method.is
    (signature_is pool c.in-Method.member c.in-Some-name_and_type.name c.in-Some-name_and_type.descriptor c.in-Some-name_and_type.ensures)

pub returns-in-None-name_and_type : goal.returns-in-None-name_and_type
returns-in-None-name_and_type c =
    let caller = c.args.caller.now in
    no_method_told caller.classes.now caller.namer.number caller.namer.class.now (signature_of caller.namer.class.now c.args.method.now) c.args.op c.args.named c.in-Method.index c.in-Method.member c.in-Method.is
    (no_signature caller.namer.class.now.pool c.in-Method.member c.in-None-name_and_type.ensures)

pub returns-in-Some-name_and_type-2 : goal.returns-in-Some-name_and_type-2
returns-in-Some-name_and_type-2 c =
    let caller = c.args.caller.now in
    let pool = caller.namer.class.now.pool in
    c.why_method-in-Some-name_and_type-2.ensures
    ∙ interface_told caller.classes.now caller.namer.number caller.namer.class.now (signature_of caller.namer.class.now c.args.method.now) c.args.op c.args.named c.in-InterfaceMethod.index c.in-InterfaceMethod.member (signature_at pool c.in-Some-name_and_type-2.name c.in-Some-name_and_type-2.descriptor) c.in-InterfaceMethod.is
    (signature_is pool c.in-InterfaceMethod.member c.in-Some-name_and_type-2.name c.in-Some-name_and_type-2.descriptor c.in-Some-name_and_type-2.ensures)

pub returns-in-None-name_and_type-2 : goal.returns-in-None-name_and_type-2
returns-in-None-name_and_type-2 c =
    let caller = c.args.caller.now in
    no_interface_told caller.classes.now caller.namer.number caller.namer.class.now (signature_of caller.namer.class.now c.args.method.now) c.args.op c.args.named c.in-InterfaceMethod.index c.in-InterfaceMethod.member c.in-InterfaceMethod.is
    (no_signature caller.namer.class.now.pool c.in-InterfaceMethod.member c.in-None-name_and_type-2.ensures)
