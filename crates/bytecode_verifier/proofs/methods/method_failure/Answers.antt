use Rattle.std.proofs.Common.{sym, ◌∙◌}
use Rattle.std.proofs.lemmas.Result.{IfOk-weaker}
use Rattle.bytecode_verifier.proofs.MethodLemmas.{code_there, failure_is, no_failure}
use Rattle.bytecode_verifier.proofs.methods.method_failure.Goals as goal

pub returns-in-Some : goal.returns-in-Some
returns-in-Some c = IfOk-weaker c.code_failure.result _ _ (λ x p.
    let h = code_there c.args.program.now c.args.number c.in-Some.code.now (sym c.in-Some.ensures.code) in
    p h ∙ sym (failure_is c.args.program.now c.args.number c.in-Some.code.now h)) c.code_failure.ensures

pub returns-in-None : goal.returns-in-None
returns-in-None c = sym (no_failure c.args.program.now c.args.number (sym c.in-None.ensures.code))
