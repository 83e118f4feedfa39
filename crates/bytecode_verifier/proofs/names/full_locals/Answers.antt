use Rattle.std.proofs.Common.{ap, ◌∙◌, subst}
use Rattle.verifier_types.specs.Seen.{types_seen}
use Rattle.bytecode_verifier.specs.Listed.{HasLocals, HasLocalsIfRoom}
use Rattle.bytecode_verifier.proofs.names.full_locals.Goals as goal

pub returns-in-Some-clause-locals : goal.returns-in-Some-clause-locals
returns-in-Some-clause-locals c = λ k at fits.
    let u = c.all_locals.new.lists in
    let types = ap types_seen c.deref.ensures.value ∙ c.in_ok-types.ensures k at in
    subst (λ ts. HasLocals u c.in-Some.all ts) types (subst (λ o. HasLocalsIfRoom u o (types_seen c.deref.result.now)) c.in-Some.is c.in_ok-all.ensures.locals)
