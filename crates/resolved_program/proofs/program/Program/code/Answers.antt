use Rattle.std.proofs.Common.{sym, ap, ◌∙◌}
use Rattle.class_pool.specs.Found.{code_of}
use Rattle.bytecode_model.specs.Lists.{onto}
use Rattle.resolved_program.proofs.InstructionLemmas.{code_small, copied_small}
use Rattle.resolved_program.proofs.program.Program.code.Goals as goal

pub returns-clause-small : goal.returns-clause-small
returns-clause-small c =
    copied_small c.code.result (λ k e.
    code_small c.methods_have_code.ensures c.args.self.now c.is_resolved.ensures.grammar c.method.result k (ap (λ o. onto o code_of) (sym c.in_ok-method_at.ensures) ∙ (sym c.code.ensures ∙ e)))
