-- What the instruction at a place of a method may run, by the calls of the table.
use Rattle.std.proofs.Common.{◌≡◌, ◌↔◌, ℕ, true, List, [], Contains, Option, Some, None, IsSomeAnd, refl, sym, ◌∙◌, subst}
use Rattle.std.specs.Prelude.{slice_get}
use Rattle.std.specs.Option.{option_map_or}
use Rattle.bytecode_model.specs.Program.{Program}
use Rattle.bytecode_model.specs.Rows as rows
use Rattle.bytecode_model.specs.Rows.{Row}
use Rattle.bytecode_model.specs.Steps.{row_in}
use Rattle.bytecode_model.specs.WellFormed.{is_call}
use Rattle.lists.proofs.Lemmas.{some_same}
use Rattle.lists.specs.Members.{nil_contains}
use Rattle.method_flow.specs.declared.flow.Call.{Call}
use Rattle.method_flow.specs.Calls.{targets_of_row, IsTarget, IsStartOf}
use Rattle.method_flow.specs.Flow.{Flow, Coded, IsCoded, IsFlowOf, targets_of_call}
use Rattle.call_regions.specs.Laws.{RunsAreCalls}

-- a row with targets is a call
call_of : (P : Program) (r : Row) (t : ℕ) → Contains (targets_of_row P r) t → is_call r ≡ true
call_of P (rows.CallStatic m) t c = refl
call_of P (rows.CallSpecial named m) t c = refl
call_of P (rows.CallVirtual named m) t c = refl
call_of P (rows.CallInterface named m) t c = refl
call_of P r t c = absurd (nil_contains t c)

call_at : (P : Program) (o : Option (ℕ × Row)) (t : ℕ) → Contains (option_map_or (λ x. targets_of_row P x.1) o []) t → IsSomeAnd o (λ x. is_call x.1 ≡ true)
call_at P None t c = absurd (nil_contains t c)
call_at P (Some x) t c = call_of P x.1 t c

module _ (P : Program) (f : Flow) (m place : ℕ) (k : Coded) (flow : IsFlowOf P f) (is : slice_get f.methods m ≡ Some k) where
  -- the targets of the call that is there
  pub targets_there : (c : Call) (targets : List ℕ) → Contains k.calls c → c.place ≡ place → targets ≡ targets_of_call f c → (t : ℕ) → Contains targets t ↔ IsTarget P m place t
  targets_there c targets among at are t =
      let here : Contains (targets_of_call f c) t ↔ IsTarget P m place t = subst (λ (p : ℕ). Contains (targets_of_call f c) t ↔ IsTarget P m p t) at (flow.targets m k c is among t) in
      subst (λ (ts : List ℕ). Contains ts t ↔ IsTarget P m place t) (sym are) here

  -- where no call is, there are none
  pub targets_nowhere : RunsAreCalls → IsCoded k → ((d : Call) → Contains k.calls d → d.place ≡ place → ⊥) → IsStartOf P m place → (t : ℕ) → Contains [] t ↔ IsTarget P m place t
  targets_nowhere runs coded none start t = (
    λ has. absurd (nil_contains t has),
    λ target.
        let r = (runs P f m place t flow (record { method = k; is = is; coded = coded })).1 (record { start = start; call = call_at P (row_in P m place) t target; is_target = target }) in
        let same : r.code.method ≡ k = some_same r.code.method k (sym r.code.is ∙ is) in
        absurd (none r.call (subst (λ (j : Coded). Contains j.calls r.call) same r.among) r.at),
  )
