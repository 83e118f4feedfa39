-- Where a run begins at the boot state, a bound asks for no facts that are read off the code.
use Rattle.std.proofs.Common.{◌≡◌, ℕ, Option, Some, sym, ◌∙◌, subst}
use Rattle.bytecode_model.specs.State.{State}
use Rattle.bytecode_model.specs.Program.{Program}
use Rattle.bytecode_model.specs.Steps.{boot_state}
use Rattle.bytecode_typing.specs.Fits.{Fits}
use Rattle.program_tables.specs.Resolved.{resolved}
use Rattle.loop_rules.specs.Sites.{int_at}
use Rattle.loop_rules.specs.Tests.{Constants}
use Rattle.loop_rules.specs.Further.Known.{Known}
use Rattle.loop_rules.specs.Further.Fields.{PutOnlyArrays}
use Rattle.loop_rules.specs.Further.Arrays.{IsKnownBy, PutsKeepArrays}
use Rattle.counted_laws.specs.Paths.{AreNullAtFirst, BootHoldsKnown, HoldConstants, HoldKnown, IsOfRun}
use Rattle.activations.specs.Setting.{Setting, limits}
use Rattle.activation_laws.specs.Counted.Further.{IsOfKnownRun}
use Rattle.activation_laws.specs.Counted.Runs.{BootHoldsConstants}
use Rattle.activation_laws.proofs.CountedLemmas.FurtherBeginning.{of_run}
use Rattle.counted_facts.specs.Found.{FoundFactsNeedNoPromise, FoundFactsOfRuns}

-- ---- fields that are known hold null at first

null_at_first : (P : Program) (constants : Constants) (known : Known) → IsKnownBy P constants known → AreNullAtFirst P known
null_at_first P constants known is = record {
  statics = λ f n known_is. ((is.statics_are f n).0 known_is).first;
  fields = λ owner index n p o known_is at has. absurd (((is.fields_are owner index n).0 known_is).first p o at has);
}

constants_hold : (P : Program) (constants : Constants) (known : Known) (s : State) → ((f : ℕ) → known.constants f ≡ constants f) → HoldConstants P constants s
    → HoldConstants P known.constants s
constants_hold P constants known s are hold f c is never = hold f c (sym (are f) ∙ is) never

-- what is so of a program is so of that of a setting which is the same
known_of : (g : Setting) (P : Program) → P ≡ g.program → (known : Known) (s boot : State) → boot_state P ≡ Some boot → Fits P g.types (limits g) boot
    → PutOnlyArrays P known → HoldKnown P known boot → IsOfRun P (limits g) boot s → IsOfKnownRun g known s
known_of g P e known s boot begins fits arrays hold run = record {
  boot = boot;
  begins = subst (λ (Q : Program). boot_state Q ≡ Some boot) e begins;
  fits = subst (λ (Q : Program). Fits Q g.types (limits g) boot) e fits;
  arrays = subst (λ (Q : Program). PutOnlyArrays Q known) e arrays;
  hold = subst (λ (Q : Program). HoldKnown Q known boot) e hold;
  run = subst (λ (Q : Program). IsOfRun Q (limits g) boot s) e run;
}

pub found_facts_of_runs : PutsKeepArrays → BootHoldsKnown → BootHoldsConstants → FoundFactsNeedNoPromise → FoundFactsOfRuns
found_facts_of_runs keep boot_holds boot_constants no_promise cs t constants known bound_of facts m bound is_resolved are is_known bounds g a b is program timing run h others but =
    let P = resolved cs in
    let first = boot_constants cs constants run.boot is_resolved are run.begins in
    let holds = boot_holds P known run.boot run.begins (null_at_first P (int_at constants) known is_known)
    (constants_hold P (int_at constants) known run.boot is_known.constants_are first) in
    let comes = subst (λ (s : State). IsOfRun P (limits g) run.boot s) (sym run.is) (of_run P (limits g) run.input run.gives run.boot run.steps) in
    let known_run : IsOfKnownRun g known a.state =
    known_of g P (sym program) known a.state run.boot run.begins run.fits (keep P (int_at constants) known is_known) holds comes in
    no_promise P t known bound_of facts m bound bounds g a b is program timing known_run h others but
