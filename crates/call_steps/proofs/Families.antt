-- The opcodes of the family, one by one.
use Rattle.std.proofs.Common.{◌≡◌, ◌⊎◌, ℕ, ◌==◌, ◌||◌, Bool, true, false, inl, inr, ⊎_elim, subst, eqb-true}
use Rattle.std.specs.Prelude.{IsTrue}
use Rattle.lists.specs.Tests.{either}
use Rattle.bytecode_model.specs.Program.{Program}
use Rattle.machine_stands.specs.Simulates.{Simulates, is_bare}
use Rattle.call_steps.specs.Family.{calls_or_returns}
use Rattle.call_steps.specs.Returns.{Return, Ireturn, Areturn, Lreturn}
use Rattle.call_steps.proofs.Scenes.{StateLaws}
use Rattle.call_steps.proofs.StaticCalls.{static_call_comes}
use Rattle.call_steps.proofs.ReturnStates.{return_comes}

is_number : (op k : ℕ) → IsTrue (op == k) → op ≡ k
is_number op k h = eqb-true op k h

-- no bare image has an invokestatic
must_be_linked : (P : Program) (op : ℕ) → op ≡ 184 → (P.linked ≡ true) ⊎ IsTrue (is_bare op) → P.linked ≡ true
must_be_linked P op is linked = ⊎_elim (λ e. e) (λ bare. absurd (no_shape (subst (λ (k : ℕ). IsTrue (is_bare k)) is bare))) linked
  where
    no_shape : IsTrue (is_bare 184) → ⊥
    no_shape h = cc

pub simulates : StateLaws → Simulates calls_or_returns
simulates laws P pl n size m answer s s' h mode family linked =
    let op = m.opcode in
    ⊎_elim
    (λ returns.
    ⊎_elim
    (λ values.
    ⊎_elim
    (λ numbers.
    ⊎_elim
    (λ e. return_comes laws P pl n size m answer s s' h mode Ireturn (is_number op 172 e))
    (λ e. return_comes laws P pl n size m answer s s' h mode Lreturn (is_number op 173 e))
    (either (op == 172) (op == 173) numbers))
    (λ e. return_comes laws P pl n size m answer s s' h mode Areturn (is_number op 176 e))
    (either (op == 172 || op == 173) (op == 176) values))
    (λ e. return_comes laws P pl n size m answer s s' h mode Return (is_number op 177 e))
    (either (op == 172 || op == 173 || op == 176) (op == 177) returns))
    (λ e. let is = is_number op 184 e in static_call_comes laws P pl n size m answer s s' h mode (must_be_linked P op is linked) is)
    (either (op == 172 || op == 173 || op == 176 || op == 177) (op == 184) family)
