use Rattle.std.proofs.Common.{ap}
use Rattle.class_lookup.specs.Lookup.{Place}
use Rattle.unresolved_names.proofs.ReasonLemmas.{method_free, method_unnamed, method_open}
use Rattle.unresolved_names.proofs.methods.may_use_method.Goals as goal

pub returns-then-is_free : goal.returns-then-is_free
returns-then-is_free c =
    let through = c.args.through.now in
    let caller = through.caller.now in
    method_free caller.classes.now c.classes.result.now caller.namer.number caller.namer.class.now through.index c.args.place c.args.method.now through.class c.classes.ensures through.named c.if-is_free.ensures

pub returns-then-not-through : goal.returns-then-not-through
returns-then-not-through c =
    let through = c.args.through.now in
    let caller = through.caller.now in
    method_unnamed caller.classes.now c.classes.result.now caller.namer.number caller.namer.class.now through.index c.args.place c.args.method.now through.class through.may_be_named c.classes.ensures through.named c.if-is_free.ensures
    through.may c.if-not-through.true

pub returns : goal.returns
returns c =
    let through = c.args.through.now in
    let caller = through.caller.now in
    method_open caller.classes.now c.classes.result.now caller.namer.number caller.namer.class.now through.index c.args.place c.args.method.now through.class through.may_be_named c.place.inside.class c.is_accessible_member.result
    c.classes.ensures through.named c.if-is_free.ensures through.may c.if-not-through.false (ap (λ (q : Place). q.0) c.place.view_is) c.is_accessible_member.ensures
