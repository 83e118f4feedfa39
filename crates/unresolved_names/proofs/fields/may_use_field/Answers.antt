use Rattle.std.proofs.Common.{ap, sym}
use Rattle.class_lookup.specs.Lookup.{Place}
use Rattle.class_lookup.specs.Parts.{signature_of}
use Rattle.unresolved_names.proofs.ReasonLemmas.{field_free, field_unnamed, field_closed, field_read, field_written}
use Rattle.unresolved_names.proofs.fields.may_use_field.Goals as goal

pub returns-then-is_free : goal.returns-then-is_free
returns-then-is_free c =
    let through = c.args.through.now in
    let caller = through.caller.now in
    field_free caller.classes.now c.classes.result.now caller.namer.number caller.namer.class.now (signature_of caller.namer.class.now c.args.method.now) c.args.op through.index c.args.place c.args.field.now through.class
    c.classes.ensures through.named c.if-is_free.ensures

pub returns-then-not-through : goal.returns-then-not-through
returns-then-not-through c =
    let through = c.args.through.now in
    let caller = through.caller.now in
    field_unnamed caller.classes.now c.classes.result.now caller.namer.number caller.namer.class.now (signature_of caller.namer.class.now c.args.method.now) c.args.op through.index c.args.place c.args.field.now through.class through.may_be_named
    c.classes.ensures through.named c.if-is_free.ensures through.may c.if-not-through.true

pub returns-then-not-is_accessible_member : goal.returns-then-not-is_accessible_member
returns-then-not-is_accessible_member c =
    let through = c.args.through.now in
    let caller = through.caller.now in
    field_closed caller.classes.now c.classes.result.now caller.namer.number caller.namer.class.now (signature_of caller.namer.class.now c.args.method.now) c.args.op through.index c.args.place c.args.field.now through.class through.may_be_named
    c.place.inside.class c.classes.ensures through.named c.if-is_free.ensures through.may c.if-not-through.false (ap (λ (q : Place). q.0) c.place.view_is) c.if-not-is_accessible_member.ensures

pub returns-then-not-writes_field : goal.returns-then-not-writes_field
returns-then-not-writes_field c =
    let through = c.args.through.now in
    let caller = through.caller.now in
    field_read caller.classes.now c.classes.result.now caller.namer.number caller.namer.class.now (signature_of caller.namer.class.now c.args.method.now) c.args.op through.index c.args.place c.args.field.now through.class through.may_be_named
    c.place.inside.class c.classes.ensures through.named c.if-is_free.ensures through.may c.if-not-through.false (ap (λ (q : Place). q.0) c.place.view_is) c.if-not-is_accessible_member.ensures c.if-not-writes_field.ensures

pub returns : goal.returns
returns c =
    let through = c.args.through.now in
    let caller = through.caller.now in
    field_written caller.classes.now c.classes.result.now caller.namer.number caller.namer.class.now (signature_of caller.namer.class.now c.args.method.now) c.args.op through.index c.args.place c.args.field.now through.class through.may_be_named
    c.place.inside.class c.is_writable_field.result c.classes.ensures through.named c.if-is_free.ensures through.may c.if-not-through.false (ap (λ (q : Place). q.0) c.place.view_is) c.if-not-is_accessible_member.ensures c.if-not-writes_field.ensures
    (c.is_writable_field.ensures (signature_of caller.namer.class.now c.args.method.now) (sym c.text_at-name.ensures))
