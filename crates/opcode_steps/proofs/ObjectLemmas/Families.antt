-- The opcodes of each family, one by one.
use Rattle.std.proofs.Common.{◌≡◌, ◌⊎◌, ℕ, ◌==◌, ◌||◌, Bool, true, false, inl, inr, ⊎_elim, subst, eqb-true}
use Rattle.std.specs.Prelude.{IsTrue}
use Rattle.lists.specs.Tests.{either}
use Rattle.bytecode_model.specs.Program.{Program}
use Rattle.machine_stands.specs.Simulates.{Simulates, is_bare}
use Rattle.opcode_steps.specs.Objects.Family.{allocates, is_monitor, tests_types}
use Rattle.opcode_steps.proofs.ObjectLemmas.Scenes.{StateLaws}
use Rattle.opcode_steps.proofs.ObjectLemmas.Making.{MakingLaws}
use Rattle.opcode_steps.proofs.ObjectLemmas.TypeTests.{checkcast, instanceof}
use Rattle.opcode_steps.proofs.ObjectLemmas.Monitors.{monitorenter, monitorexit}
use Rattle.opcode_steps.proofs.ObjectLemmas.Allocation.{new}
use Rattle.opcode_steps.proofs.ObjectLemmas.Arrays.{newarray, anewarray}

is_number : (op k : ℕ) → IsTrue (op == k) → op ≡ k
is_number op k h = eqb-true op k h

-- no bare image has such an opcode
must_be_linked : (P : Program) (op k : ℕ) → op ≡ k → (IsTrue (is_bare k) → ⊥) → (P.linked ≡ true) ⊎ IsTrue (is_bare op) → P.linked ≡ true
must_be_linked P op k is none linked = ⊎_elim (λ e. e) (λ bare. absurd (none (subst (λ (i : ℕ). IsTrue (is_bare i)) is bare))) linked

pub types_simulate : StateLaws → Simulates tests_types
types_simulate laws P pl n size m answer s s' h mode family linked =
    let op = m.opcode in
    ⊎_elim
    (λ e. let is = is_number op 192 e in checkcast laws P pl n size m answer s s' h mode (must_be_linked P op 192 is (λ bare. cc) linked) is)
    (λ e. let is = is_number op 193 e in instanceof laws P pl n size m answer s s' h mode (must_be_linked P op 193 is (λ bare. cc) linked) is)
    (either (op == 192) (op == 193) family)

pub monitors_simulate : StateLaws → Simulates is_monitor
monitors_simulate laws P pl n size m answer s s' h mode family linked =
    let op = m.opcode in
    ⊎_elim
    (λ e. let is = is_number op 194 e in monitorenter laws P pl n size m answer s s' h mode (must_be_linked P op 194 is (λ bare. cc) linked) is)
    (λ e. let is = is_number op 195 e in monitorexit laws P pl n size m answer s s' h mode (must_be_linked P op 195 is (λ bare. cc) linked) is)
    (either (op == 194) (op == 195) family)

pub objects_simulate : StateLaws → MakingLaws → Simulates allocates
objects_simulate laws more P pl n size m answer s s' h mode family linked =
    let op = m.opcode in
    ⊎_elim
    (λ others.
    ⊎_elim
    (λ e. let is = is_number op 187 e in new laws more P pl n size m answer s s' h mode (must_be_linked P op 187 is (λ bare. cc) linked) is)
    (λ e. let is = is_number op 188 e in newarray laws more P pl n size m answer s s' h mode (must_be_linked P op 188 is (λ bare. cc) linked) is)
    (either (op == 187) (op == 188) others))
    (λ e. let is = is_number op 189 e in anewarray laws more P pl n size m answer s s' h mode (must_be_linked P op 189 is (λ bare. cc) linked) is)
    (either (op == 187 || op == 188) (op == 189) family)
