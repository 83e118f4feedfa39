-- The opcodes of the family, one by one.
use Rattle.std.proofs.Common.{◌≡◌, ◌⊎◌, ℕ, ◌==◌, ◌||◌, Bool, true, false, inl, inr, ⊎_elim, subst, eqb-true}
use Rattle.std.specs.Prelude.{IsTrue}
use Rattle.lists.specs.Tests.{either}
use Rattle.bytecode_model.specs.Program.{Program}
use Rattle.machine_stands.specs.Simulates.{Simulates, is_bare}
use Rattle.call_steps.specs.Tables.{Invokevirtual, Invokespecial, Invokeinterface}
use Rattle.call_steps.specs.Family.{calls_by_receiver}
use Rattle.call_steps.proofs.TableStates.{StateLaws, table_call_comes}

is_number : (op k : ℕ) → IsTrue (op == k) → op ≡ k
is_number op k h = eqb-true op k h

-- no bare image has such a call
linked_by : (P : Program) (op k : ℕ) → (IsTrue (is_bare k) → ⊥) → op ≡ k → (P.linked ≡ true) ⊎ IsTrue (is_bare op) → P.linked ≡ true
linked_by P op k none is linked = ⊎_elim (λ e. e) (λ bare. absurd (none (subst (λ (j : ℕ). IsTrue (is_bare j)) is bare))) linked

no_virtual : IsTrue (is_bare 182) → ⊥
no_virtual h = cc

no_special : IsTrue (is_bare 183) → ⊥
no_special h = cc

no_interface : IsTrue (is_bare 185) → ⊥
no_interface h = cc

pub simulates : StateLaws → Simulates calls_by_receiver
simulates laws P pl n size m answer s s' h mode family linked =
    let op = m.opcode in
    ⊎_elim
    (λ classes.
    ⊎_elim
    (λ e. let is = is_number op 182 e in table_call_comes laws P pl n size m answer s s' h mode (linked_by P op 182 no_virtual is linked) Invokevirtual is)
    (λ e. let is = is_number op 183 e in table_call_comes laws P pl n size m answer s s' h mode (linked_by P op 183 no_special is linked) Invokespecial is)
    (either (op == 182) (op == 183) classes))
    (λ e. let is = is_number op 185 e in table_call_comes laws P pl n size m answer s s' h mode (linked_by P op 185 no_interface is linked) Invokeinterface is)
    (either (op == 182 || op == 183) (op == 185) family)
