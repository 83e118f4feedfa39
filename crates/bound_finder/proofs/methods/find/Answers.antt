use Rattle.std.proofs.Common.{List, subst}
use Rattle.bound_finder.specs.declared.known.Known.{Known}
use Rattle.bound_finder.specs.Methods.{IsUnready}
use Rattle.bound_finder.proofs.methods.find.Goals as goal

pub returns-in-Err-clause-cause : goal.returns-in-Err-clause-cause
returns-in-Err-clause-cause c =
    let C : List Known → Type 0 = λ tb. IsUnready c.args.task.now tb c.args.m c.in-Err.fault in
    subst C c.deref.ensures.value c.in-Err.ensures.cause
