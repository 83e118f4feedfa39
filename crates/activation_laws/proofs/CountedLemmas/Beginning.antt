-- Where an activation begins with constants in their fields, and where its bound holds.
use Rattle.std.proofs.Common.{◌≡◌, List, [], ◌∷◌, map, Some, sym, ap, ◌∙◌, subst}
use Rattle.std.specs.Prelude.{slice_get}
use Rattle.lists.proofs.Lemmas.{onto_some, some_same}
use Rattle.bytecode_model.specs.declared.Ending.TheVariants.{Running}
use Rattle.bytecode_model.specs.declared.Value.{Value}
use Rattle.bytecode_model.specs.declared.Value.TheVariants.{Int}
use Rattle.bytecode_model.specs.Lists.{onto}
use Rattle.bytecode_model.specs.Types.{default}
use Rattle.bytecode_model.specs.State.{Frame, State}
use Rattle.bytecode_model.specs.Program.{Program, Method}
use Rattle.bytecode_model.specs.Steps.{boot_state, first_frame}
use Rattle.bytecode_typing.specs.Typed.{Typed}
use Rattle.bytecode_typing.specs.Lawful.{Lawful}
use Rattle.bytecode_typing.specs.Laws.{FittingStatesAreWellFormed}
use Rattle.method_flow.specs.Kinds.{RowsAreOfTheirKinds}
use Rattle.method_runs.specs.Laws.{RunsHaveWalks, UnknownWalksStand}
use Rattle.program_tables.specs.Resolved.{resolved}
use Rattle.loop_rules.specs.Sites.{int_at}
use Rattle.counted_laws.specs.Paths.{HoldConstants}
use Rattle.counted_laws.proofs.Following.{constants_hold}
use Rattle.activations.specs.Setting.{limits}
use Rattle.program_laws.proofs.Statics.{ReadFields}
use Rattle.activation_laws.proofs.CountedLemmas.Starting.{first_is}
use Rattle.activation_laws.specs.Counted.Laws.{CountedActivationsKeep, CountedLoopsNeedNoPremise}
use Rattle.activation_laws.specs.Counted.Further.{FurtherActivationsKeep, FurtherLoopsNeedNoPremise}
use Rattle.activation_laws.specs.Counted.Runs.{BootHoldsConstants, CountedLoopsOfRuns, RunsHoldConstants}

pub need_no_premise : CountedActivationsKeep → CountedLoopsNeedNoPremise
need_no_premise keep P t constants bound_of m bound bounds g a b is same timing hold h others =
    bounds g a b is same timing h (keep g constants bound_of m a b h is (subst (λ (Q : Program). HoldConstants Q constants a.state) (sym same) hold) others)

pub further_need_no_premise : FurtherActivationsKeep → FurtherLoopsNeedNoPremise
further_need_no_premise keep P t known bound_of m bound bounds g a b is same timing run h others = bounds g a b is same timing h (keep g known bound_of m a b h is run others)

pub runs_hold : FittingStatesAreWellFormed → RowsAreOfTheirKinds → RunsHaveWalks → UnknownWalksStand → RunsHoldConstants
runs_hold fitting kinds have_walks unknown P types limits constants input s n lawful typed gives fits hold =
    (constants_hold fitting kinds have_walks unknown P types limits constants input s n lawful typed gives fits hold).hold.constants

abbrev begins_with : Program → Frame → State
begins_with P f = record { frames = f ∷ []; objects = P.first_objects; statics = P.first_statics; answers = []; output = []; mode = Running }

first_values : (P : Program) (s : State) → boot_state P ≡ Some s → s.statics ≡ P.first_statics
first_values P s is =
    let k = onto_some (slice_get P.methods P.boot) (λ (x : Method). onto (first_frame P P.boot (map default x.parameters)) (λ f. Some (begins_with P f))) s is in
    let f = onto_some (first_frame P P.boot (map default k.0.parameters)) (λ f. Some (begins_with P f)) s k.2 in
    ap (λ (x : State). x.statics) (sym (some_same (begins_with P f.0) s f.2))

pub boot_holds : ReadFields → BootHoldsConstants
boot_holds read cs constants s is are boot f c at never =
    let value : slice_get (resolved cs).first_statics f ≡ Some (Int c) = first_is read cs is f c ((are f c).0 at).0 in
    ap (λ (vs : List Value). slice_get vs f) (first_values (resolved cs) s boot) ∙ value

pub of_runs : CountedLoopsNeedNoPremise → RunsHoldConstants → BootHoldsConstants → CountedLoopsOfRuns
of_runs no_premise runs boot cs t constants bound_of m bound is_resolved are bounds g a b is same timing run h others =
    let P = resolved cs in
    let lawful = subst (λ (Q : Program). Lawful Q) same is.lawful in
    let typed = subst (λ (Q : Program). Typed Q g.types) same is.typed in
    let first = boot cs constants run.boot is_resolved are run.begins in
    let later = runs P g.types (limits g) (int_at constants) run.input run.boot run.steps lawful typed run.gives run.fits first in
    let hold = subst (λ (s : State). HoldConstants P (int_at constants) s) (sym run.is) later in
    no_premise P t (int_at constants) bound_of m bound bounds g a b is same timing hold h others
