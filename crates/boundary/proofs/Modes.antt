-- All states for which a machine stands go on alike.
use Rattle.std.proofs.Common.{◌≡◌, ◌≢◌, ℕ, ◌+◌, Option, Some, None, Ok, Err, refl, sym, ◌∙◌, ap, subst, arith}
use Rattle.std.specs.Prelude.{IfOk}
use Rattle.std.specs.declared.result.Result.{Result}
use Rattle.device_traits.specs.declared.fault.DeviceFault.{DeviceFault}
use Rattle.jop_core.specs.declared.halt.Halt.TheVariants as halts
use Rattle.jop_core.specs.State as machine
use Rattle.bytecode_model.specs.declared.Ending.{Ending}
use Rattle.bytecode_model.specs.declared.Ending.TheVariants as modes
use Rattle.bytecode_model.specs.State.{State}
use Rattle.bytecode_typing.specs.Fits.{IsGoing}
use Rattle.boundary.specs.declared.answer.Boundary.{Boundary}
use Rattle.boundary.specs.declared.answer.Boundary.TheVariants as answers
use Rattle.boundary.specs.Answers.{answer_of}
use Rattle.boundary.specs.Setting.{Setting, IsSetting, Stands}
use Rattle.boundary.specs.Session.{Session, HasWaits, IsInStep, KeepsStep, AllGoOnSo}
use Rattle.boundary.specs.StageLaws.{StagesAgree}
use Rattle.boundary.proofs.Ended.{EndLaws, End, Returned, Thrown, end_of}
use Rattle.boundary.proofs.Stages.{at_mode}

modes_agree : StagesAgree → EndLaws → (m : machine.MachineState) (g h : Setting) (s t : State) → IsSetting g → IsSetting h → Stands g m s → Stands h m t → HasWaits m → answer_of t.mode ≡ answer_of s.mode
modes_agree agree laws m g h s t is_g is_h st_g st_h waits = by_mode s.mode refl
  where
    both : End g m s → End h m t → answer_of t.mode ≡ answer_of s.mode
    both (Returned a x) (Returned b y) = ap answer_of b ∙ sym (ap answer_of a)
    both (Returned a x) (Thrown d b y) = let clash : ◌≡◌ {A = Option ℕ} None (Some (8 + d)) = sym x ∙ y in absurd (cc)
    both (Thrown c a x) (Returned b y) = let clash : ◌≡◌ {A = Option ℕ} None (Some (8 + c)) = sym y ∙ x in absurd (cc)
    both (Thrown c a x) (Thrown d b y) = ap answer_of b ∙ ap (λ (k : ℕ). answers.Uncaught k) (let k : d ≡ c = omega (arith, same (8 + d) (8 + c) (sym y ∙ x)) in k) ∙ sym (ap answer_of a)
      where
        same : (i j : ℕ) → ◌≡◌ {A = Option ℕ} (Some i) (Some j) → i ≡ j
        same i j e = cc

    ended : m.halt ≢ halts.Running → answer_of t.mode ≡ answer_of s.mode
    ended halted = both (end_of laws g m s is_g st_g halted) (end_of laws h m t is_h st_h halted)

    by_mode : (mode : Ending) → s.mode ≡ mode → answer_of t.mode ≡ answer_of s.mode
    by_mode modes.Running e = agree m (record { setting = g; is_setting = is_g; state = s; stands = st_g; going = subst IsGoing (sym e) tt; waits = waits }) h t is_h st_h
    by_mode (modes.Raising p) e = agree m (record { setting = g; is_setting = is_g; state = s; stands = st_g; going = subst IsGoing (sym e) tt; waits = waits }) h t is_h st_h
    by_mode modes.Ended e = let st = st_g.stands in ended (λ running. let clash : halts.Ended ≡ halts.Running = sym (at_mode g.program g.places m s st.top st.body modes.Ended e st.at) ∙ running in cc)
    by_mode (modes.Uncaught c) e = let st = st_g.stands in ended (λ running. let clash : halts.Uncaught ≡ halts.Running = sym (at_mode g.program g.places m s st.top st.body (modes.Uncaught c) e st.at).halted ∙ running in cc)

all_alike : StagesAgree → EndLaws → (n : ℕ) (r : Session) (answer : Boundary) → r.mode ≡ Ok answer → IsInStep n r → AllGoOnSo r.machine answer
all_alike agree laws n r answer e here g s is stage =
    modes_agree agree laws r.machine here.setting g here.state s here.is_setting is here.stands stage here.waits ∙ same (answer_of here.state.mode) answer (here.mode ∙ e)
  where
    same : (a b : Boundary) → ◌≡◌ {A = Result Boundary DeviceFault} (Ok a) (Ok b) → a ≡ b
    same a b h = cc

by_mode : StagesAgree → EndLaws → (n : ℕ) (r : Session) (mode : Result Boundary DeviceFault) → r.mode ≡ mode → KeepsStep n r mode → IfOk mode (AllGoOnSo r.machine)
by_mode agree laws n r (Ok answer) e kept = all_alike agree laws n r answer e kept
by_mode agree laws n r (Err fault) e kept = tt

pub all_go_on_so : StagesAgree → EndLaws → (n : ℕ) (r now : Session) → r ≡ now → KeepsStep n r r.mode → IfOk r.mode (AllGoOnSo now.machine)
all_go_on_so agree laws n r now is kept = subst (λ (z : Session). IfOk r.mode (AllGoOnSo z.machine)) is (by_mode agree laws n r r.mode refl kept)
