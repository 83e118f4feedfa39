-- Where a run begins at the boot state, in which fields hold what is known of them.
use Rattle.std.proofs.Common.{◌≡◌, ℕ, zero, suc, Option, Some, None, refl, sym, ap, ◌∙◌, subst, ◌⊎◌, inl, inr, ⊎_elim, length}
use Rattle.bytecode_model.specs.State.{State}
use Rattle.bytecode_model.specs.Program.{Program, Limits}
use Rattle.bytecode_model.specs.Steps.{boot_state, step, run_from}
use Rattle.bytecode_typing.specs.Fits.{Fits}
use Rattle.method_runs.specs.Laws.{GivesBytes}
use Rattle.program_tables.specs.Resolved.{resolved}
use Rattle.loop_rules.specs.Sites.{int_at}
use Rattle.loop_rules.specs.Tests.{Constants}
use Rattle.loop_rules.specs.Further.Known.{Known}
use Rattle.loop_rules.specs.Further.Fields.{PutOnlyArrays}
use Rattle.loop_rules.specs.Further.Arrays.{IsKnownBy, PutsKeepArrays}
use Rattle.counted_laws.specs.Paths.{AreNullAtFirst, BootHoldsKnown, HoldConstants, HoldKnown, IsOfRun}
use Rattle.counted_laws.specs.Paths.IsOfRun.{same, next}
use Rattle.activations.specs.Setting.{Setting, limits}
use Rattle.loop_finder.specs.Laws.{ReducibleCyclesAreLoops}
use Rattle.activation_laws.specs.Counted.Further.{FurtherLoopsNeedNoPremise, IsOfKnownRun}
use Rattle.activation_laws.specs.Counted.FurtherRuns.{FurtherFoundLoopsCount, FurtherLoopsOfRuns}
use Rattle.activation_laws.specs.Counted.Runs.{BootHoldsConstants}

-- ---- the states of a run, one behind another

module _ (P : Program) (limits : Limits) (input : ℕ → Option ℕ) (gives : GivesBytes input) (boot : State) where
  abbrev at : ℕ → State
  at n = run_from P limits input boot n

  first_at : at zero ≡ boot
  unfolding run_from
  first_at = refl

  goes_on : (n : ℕ) (u : State) → step P limits (input (length (at n).answers)) (at n) ≡ Some u → at (suc n) ≡ u
  unfolding run_from
  goes_on n u e = ap (λ (o : Option State). elim o [ None ↦ at n | Some v ↦ v ]) e

  stays : (n : ℕ) → step P limits (input (length (at n).answers)) (at n) ≡ None → at (suc n) ≡ at n
  unfolding run_from
  stays n e = ap (λ (o : Option State). elim o [ None ↦ at n | Some v ↦ v ]) e

  step_or_not : (o : Option State) → (o ≡ None) ⊎ ((u : State) × (o ≡ Some u))
  step_or_not None = inl refl
  step_or_not (Some u) = inr (u, refl)

  pub of_run : (n : ℕ) → IsOfRun P limits boot (at n)
  of_run zero = subst (λ (s : State). IsOfRun P limits boot s) (sym first_at) same
  of_run (suc n) =
      ⊎_elim
      (λ none. subst (λ (s : State). IsOfRun P limits boot s) (sym (stays n none)) (of_run n))
      (λ some. subst (λ (s : State). IsOfRun P limits boot s) (sym (goes_on n some.0 some.1)) (next (input (length (at n).answers)) (of_run n) (gives _) some.1))
      (step_or_not (step P limits (input (length (at n).answers)) (at n)))

-- ---- fields that are known hold null at first

null_at_first : (P : Program) (constants : Constants) (known : Known) → IsKnownBy P constants known → AreNullAtFirst P known
null_at_first P constants known is = record {
  statics = λ f n known_is. ((is.statics_are f n).0 known_is).first;
  fields = λ owner index n p o known_is at has. absurd (((is.fields_are owner index n).0 known_is).first p o at has);
}

constants_hold : (P : Program) (constants : Constants) (known : Known) (s : State) → ((f : ℕ) → known.constants f ≡ constants f) → HoldConstants P constants s
    → HoldConstants P known.constants s
constants_hold P constants known s are hold f c is never = hold f c (sym (are f) ∙ is) never

-- what is so of a program is so of that of a setting which is the same
known_of : (g : Setting) (P : Program) → P ≡ g.program → (known : Known) (s boot : State) → boot_state P ≡ Some boot → Fits P g.types (limits g) boot
    → PutOnlyArrays P known → HoldKnown P known boot → IsOfRun P (limits g) boot s → IsOfKnownRun g known s
known_of g P e known s boot begins fits arrays hold run = record {
  boot = boot;
  begins = subst (λ (Q : Program). boot_state Q ≡ Some boot) e begins;
  fits = subst (λ (Q : Program). Fits Q g.types (limits g) boot) e fits;
  arrays = subst (λ (Q : Program). PutOnlyArrays Q known) e arrays;
  hold = subst (λ (Q : Program). HoldKnown Q known boot) e hold;
  run = subst (λ (Q : Program). IsOfRun Q (limits g) boot s) e run;
}

pub of_known_run : PutsKeepArrays → BootHoldsKnown → BootHoldsConstants → FurtherLoopsNeedNoPremise → FurtherLoopsOfRuns
of_known_run keep boot_holds boot_constants no_premise cs t constants known bound_of m bound is_resolved are is_known bounds g a b is program timing run h others =
    let P = resolved cs in
    let first = boot_constants cs constants run.boot is_resolved are run.begins in
    let holds = boot_holds P known run.boot run.begins (null_at_first P (int_at constants) known is_known)
    (constants_hold P (int_at constants) known run.boot is_known.constants_are first) in
    let comes = subst (λ (s : State). IsOfRun P (limits g) run.boot s) (sym run.is) (of_run P (limits g) run.input run.gives run.boot run.steps) in
    let known_run : IsOfKnownRun g known a.state =
    known_of g P (sym program) known a.state run.boot run.begins run.fits (keep P (int_at constants) known is_known) holds comes in
    no_premise P t known bound_of m bound bounds g a b is program timing known_run h others

pub further_found_count : ReducibleCyclesAreLoops → FurtherFoundLoopsCount
further_found_count cycles P known x h = record {
  graph = h.graph;
  is_graph = h.is_graph;
  cycles = cycles P x.method h.graph h.is_graph h.reducible;
  counts = h.counts;
}
