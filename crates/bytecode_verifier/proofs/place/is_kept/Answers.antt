use Rattle.std.proofs.Common.{sym, ◌∙◌, subst}
use Rattle.bytecode_verifier.specs.Family.{IsFamilyOf}
use Rattle.bytecode_verifier.proofs.KeptLemmas.{keeps_as}
use Rattle.bytecode_verifier.proofs.place.is_kept.Goals as goal

pub returns-then-not-is_empty : goal.returns-then-not-is_empty
returns-then-not-is_empty c = λ kept code i o same.
    keeps_as code i o c.family_of.result (subst (λ op. IsFamilyOf op c.family_of.result) (sym same) c.family_of.ensures) ∙ c.keeps_locals.ensures code i o kept
