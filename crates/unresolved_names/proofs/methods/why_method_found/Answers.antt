use Rattle.std.proofs.Common.{true, false}
use Rattle.unresolved_names.proofs.ReasonLemmas.{refused_call, judged_call, method_lost}
use Rattle.unresolved_names.proofs.methods.why_method_found.Goals as goal

pub returns-in_default : goal.returns-in_default
returns-in_default c = λ s same.
    let through = c.args.through.now in
    let caller = through.caller.now in
    method_lost c.classes.result.now caller.classes.now caller.namer.number caller.namer.class.now c.args.of_interface c.args.op through.index s c.args.place c.classes.ensures c.in_default.ensures

pub returns-then-not-may_use_method : goal.returns-then-not-may_use_method
returns-then-not-may_use_method c = λ s same.
    let through = c.args.through.now in
    let caller = through.caller.now in
    refused_call c.classes.result.now caller.classes.now caller.namer.number caller.namer.class.now c.args.of_interface c.args.op through.index s c.args.place c.in-Some.method.now c.classes.ensures c.in-Some.ensures c.if-not-may_use_method.ensures

pub returns-then-is_right_method : goal.returns-then-is_right_method
returns-then-is_right_method c = λ s same.
    let through = c.args.through.now in
    let caller = through.caller.now in
    judged_call c.classes.result.now caller.classes.now caller.namer.number caller.namer.class.now c.args.of_interface c.args.op through.index s c.args.place c.in-Some.method.now true c.classes.ensures c.in-Some.ensures
    c.if-not-may_use_method.ensures (c.if-is_right_method.ensures s same)

pub returns-else-is_right_method : goal.returns-else-is_right_method
returns-else-is_right_method c = λ s same.
    let through = c.args.through.now in
    let caller = through.caller.now in
    judged_call c.classes.result.now caller.classes.now caller.namer.number caller.namer.class.now c.args.of_interface c.args.op through.index s c.args.place c.in-Some.method.now false c.classes.ensures c.in-Some.ensures
    c.if-not-may_use_method.ensures (c.if-is_right_method.ensures s same)
