-- What follows of these definitions.
use Rattle.std.specs.Prelude.{◌≡◌}
use Rattle.bytecode_model.specs.Program.{Program}
use Rattle.method_flow.specs.Keeping.{BoundOf}
use Rattle.memory_rules.specs.declared.causes.NeedCause.{NeedCause}
use Rattle.memory_rules.specs.declared.needs.Need.{Need}
use Rattle.memory_bound.specs.Causes.{IsNeedCause, IsNeedOf}

-- there is one cause at most
abbrev pub NeedCausesAreOne : Type 0
NeedCausesAreOne = (P : Program) (bounds lengths : BoundOf) (a b : NeedCause) → IsNeedCause P bounds lengths a → IsNeedCause P bounds lengths b → a ≡ b

-- where there is a need, there is none
abbrev pub NeedsHaveNoCause : Type 0
NeedsHaveNoCause =
    (P : Program) (bounds lengths : BoundOf) (n : Need) → IsNeedOf P bounds lengths n → (cause : NeedCause) → ¬ IsNeedCause P bounds lengths cause
