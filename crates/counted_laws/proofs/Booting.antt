-- Runs from the boot state: all walks are known, and fields hold their arrays.
use Rattle.std.proofs.Common.{◌≡◌, ◌⊎◌, ℕ, zero, suc, List, [], ◌∷◌, ◌++◌, Option, Some, None, refl, sym, ap, ◌∙◌, subst, inl, inr, IsSomeAnd, map, slice_get}
use Rattle.lists.proofs.Lemmas.{some_same, onto_some, some_in, holds_at}
use Rattle.lists.specs.Members.{tails}
use Rattle.bytecode_model.specs.declared.Value.{Value}
use Rattle.bytecode_model.specs.declared.Value.TheVariants.{Null}
use Rattle.bytecode_model.specs.declared.Ending.{Ending}
use Rattle.bytecode_model.specs.declared.Ending.TheVariants.{Running}
use Rattle.bytecode_model.specs.State.{Frame, State}
use Rattle.bytecode_model.specs.Program.{Program, Limits, Method}
use Rattle.bytecode_model.specs.Lists.{onto}
use Rattle.bytecode_model.specs.Types.{default}
use Rattle.bytecode_model.specs.Steps.{step as step_of, first_frame, run_from, boot_state}
use Rattle.bytecode_typing.specs.Typed.{Typing, Typed}
use Rattle.bytecode_typing.specs.Lawful.{Lawful}
use Rattle.bytecode_typing.specs.Fits.{Fits, FramesFit, numbers_of}
use Rattle.bytecode_typing.specs.Laws.{FittingStatesAreWellFormed, TypedProgramsKeep}
use Rattle.method_flow.specs.Nodes.{Node, At, number_of}
use Rattle.method_flow.specs.Kinds.{RowsAreOfTheirKinds}
use Rattle.code_lines.specs.Laws.{LinesAreOne, LinesAreApart, OneStandsBefore}
use Rattle.loop_rules.specs.Further.Known.{Known}
use Rattle.loop_rules.specs.Further.Fields.{PutsArray, PutOnlyArrays}
use Rattle.method_runs.specs.Runs.{Walks, walks_after, walks_from, boot_walks}
use Rattle.method_runs.specs.Standing.{MethodWalk, last_node, Standing}
use Rattle.method_runs.specs.Standing.MethodWalk.{starts, goes}
use Rattle.method_runs.specs.Steps.{WalksStep, Stepped, Stayed}
use Rattle.method_runs.specs.Steps.WalksStep.{moves, enters, returns, drops, ends}
use Rattle.method_runs.specs.Laws.{GivesBytes, HasWalks, RunsHaveWalks, StepsFollowWalks, BootWalksStand}
use Rattle.counted_laws.specs.Visits.{Visit, lengths_of, IsArrayOf, Path}
use Rattle.counted_laws.specs.Visits.Path.{here}
use Rattle.counted_laws.specs.Paths.{HoldArrays, HoldKnown, HavePaths, IsOfRun, RunsHoldKnown, RunsHoldArrays, BootHoldsKnown}
use Rattle.counted_laws.specs.Paths.IsOfRun.{same, next}
use Rattle.counted_laws.proofs.Stepping.{Wrote}
use Rattle.counted_laws.proofs.Fields.{arrays_stay}
use Rattle.counted_laws.proofs.Following.{Here, holds, done, going, step_on}
use Rattle.counted_laws.proofs.Pushing.{put_array}

-- ---- walks that are known

abbrev pub AllKnown : Walks → Type 0
AllKnown [] = Unit {0}
AllKnown (None ∷ ws) = ⊥
AllKnown (Some ns ∷ ws) = AllKnown ws

step_known : {P : Program} {mode : Ending} {f : Frame} {callers : List Frame} {t : State} {ws vs : Walks} → WalksStep P mode f callers t ws vs → AllKnown ws → AllKnown vs
step_known (moves {w = None} {ws} h) known = known
step_known (moves {w = Some ns} {ws} h) known = known
step_known (enters h) known = known
step_known (returns {v = None} {w} {ws} h) known = absurd known
step_known (returns {v = Some us} {w = None} {ws} h) known = known
step_known (returns {v = Some us} {w = Some ns} {ws} h) known = known
step_known (drops {v = None} {w} {ws} h) known = absurd known
step_known (drops {v = Some us} {w = None} {ws} h) known = known
step_known (drops {v = Some us} {w = Some ns} {ws} h) known = known
step_known (ends none frames ended) known = known

-- ---- the boot state

longer : (xs : List ℕ) (x y z : ℕ) → (xs ++ x ∷ []) ++ y ∷ [] ≡ z ∷ [] → ⊥
longer [] x y z e = absurd (cc)
longer (w ∷ xs) x y z e = by xs (tails w z ((xs ++ x ∷ []) ++ y ∷ []) [] e)
  where
    by : (xs : List ℕ) → (xs ++ x ∷ []) ++ y ∷ [] ≡ [] → ⊥
    by [] e' = absurd (cc)
    by (v ∷ vs) e' = absurd (cc)

some_nodes : {P : Program} {m : ℕ} {u : Node} {ns : List ℕ} → MethodWalk P m u ns → (xs : List ℕ) × (x : ℕ) × (ns ≡ xs ++ x ∷ [])
some_nodes (starts) = ([], 0, refl)
some_nodes (goes {u} {v} {ns} walk edge) = (ns, number_of v, refl)

one_node : {P : Program} {m : ℕ} {u : Node} {ns : List ℕ} → MethodWalk P m u ns → ns ≡ 0 ∷ [] → u ≡ At 0
one_node (starts) e = refl
one_node (goes {u} {v} {ns} walk edge) e =
    let l = some_nodes walk in
    absurd (longer l.0 l.1 (number_of v) 0 (ap (λ (xs : List ℕ). xs ++ number_of v ∷ []) (sym l.2) ∙ e))

boot_paths : (P : Program) (known : Known) (ls : List ℕ) (mode : Ending) (fs : List Frame) → Standing P mode fs boot_walks → HavePaths P known ls mode fs boot_walks
boot_paths P known ls mode [] h = absurd h
boot_paths P known ls mode (f ∷ []) h =
    let at : last_node mode f ≡ At 0 = one_node h.0 refl in
    let a : Visit = record { node = last_node mode f; locals = f.locals; operands = f.operands; lengths = ls } in
    ((a, at, subst (λ (x : ℕ). Path P known f.method a a (x ∷ [])) (ap number_of at) here), tt)
boot_paths P known ls mode (f ∷ g ∷ fs) h = absurd h.1

-- ---- what fields hold at first

abbrev begins_with : Program → Frame → State
begins_with P f = record { frames = f ∷ []; objects = P.first_objects; statics = P.first_statics; answers = []; output = []; mode = Running }

boot_is : (P : Program) (s : State) → boot_state P ≡ Some s → (f : Frame) × (begins_with P f ≡ s)
boot_is P s is =
    let k = onto_some (slice_get P.methods P.boot) (λ (x : Method). onto (first_frame P P.boot (map default x.parameters)) (λ f. Some (begins_with P f))) s is in
    let f = onto_some (first_frame P P.boot (map default k.0.parameters)) (λ f. Some (begins_with P f)) s k.2 in
    (f.0, some_same (begins_with P f.0) s f.2)

null_at : (ls : List ℕ) (n : ℕ) (o : Option Value) → o ≡ Some Null → IsSomeAnd o (IsArrayOf ls n)
null_at ls n o is = some_in o Null (IsArrayOf ls n) is tt

pub boot_holds_known : BootHoldsKnown
boot_holds_known P known s boot null constants =
    let b = boot_is P s boot in
    record {
      constants = constants;
      arrays = subst (HoldArrays P known) b.1 (record {
        statics = λ f n is. null_at (lengths_of P.first_objects) n (slice_get P.first_statics f) (null.statics f n is);
        fields = λ owner index n p o is at has. null_at (lengths_of P.first_objects) n (slice_get o.parts index) (null.fields owner index n p o is at has);
      });
    }

-- ---- what the top frame puts

module _ (one : LinesAreOne) (apart : LinesAreApart) (before : OneStandsBefore) (P : Program) (lawful : Lawful P) (known : Known) (are : PutOnlyArrays P known) where
  puts : (mode : Ending) (ls : List ℕ) (f : Frame) (callers : List Frame) (ws : Walks) → HavePaths P known ls mode (f ∷ callers) ws → AllKnown ws → mode ≡ Running
      → (n : ℕ) (v : Value) (rest : List Value) → PutsArray P known f.method f.pc n → f.operands ≡ v ∷ rest → IsArrayOf ls n v
  puts mode ls f callers [] have all running n v rest put top = absurd have
  puts mode ls f callers (None ∷ ws) have all running n v rest put top = absurd all
  puts mode ls f callers (Some us ∷ ws) have all running n v rest put top =
      let path = have.0 in
      put_array one apart before P known f.method path.0 path.1 (record { node = last_node mode f; locals = f.locals; operands = f.operands; lengths = ls }) us f.pc n v rest path.2
      (ap (λ (x : Ending). last_node x f) running) put top

  -- so fields go on holding their arrays
  pub arrays_go_on : (s t : State) (f : Frame) (callers : List Frame) (ws : Walks) → s.frames ≡ f ∷ callers → Here P known s ws → AllKnown ws → Wrote P s.mode s f t → HoldArrays P known t
  arrays_go_on s t f callers ws frames now all wrote =
      let have : HavePaths P known (lengths_of s.objects) s.mode (f ∷ callers) ws = subst (λ (fs : List Frame). HavePaths P known (lengths_of s.objects) s.mode fs ws) frames now.have in
      arrays_stay P lawful known are s.mode s f t now.hold.arrays (puts s.mode (lengths_of s.objects) f callers ws have all) wrote

-- ---- along a run

module _ (fitting : FittingStatesAreWellFormed) (kinds : RowsAreOfTheirKinds) (boots : BootWalksStand) (one : LinesAreOne) (apart : LinesAreApart) (before : OneStandsBefore)
    (P : Program) (types : Typing) (limits : Limits) (known : Known) (s : State)
    (lawful : Lawful P) (typed : Typed P types) (fits : Fits P types limits s) (boot : boot_state P ≡ Some s) (are : PutOnlyArrays P known) (hold : HoldKnown P known s) where
  stand : Standing P s.mode s.frames boot_walks
  stand = boots P s boot

  first_here : Here P known s boot_walks
  first_here = record { have = boot_paths P known (lengths_of s.objects) s.mode s.frames stand; hold = hold }

  -- a state of a run
  record Reached (t : State) : Type 0 where
    fitting_state : Fits P types limits t
    walks : Walks
    all : AllKnown walks
    standing : Standing P t.mode t.frames walks
    here_now : Here P known t walks

  some_frame : (ks : List ℕ) (mode : Ending) (fs : List Frame) → FramesFit P types ks mode fs → (f : Frame) × (callers : List Frame) × (fs ≡ f ∷ callers)
  some_frame ks mode [] h = absurd h
  some_frame ks mode (f ∷ fs) h = (f, fs, refl)

  module _ (follow : StepsFollowWalks) (keep : TypedProgramsKeep) where
    reached : {t : State} → IsOfRun P limits s t → Reached t
    reached (same) = record { fitting_state = fits; walks = boot_walks; all = tt; standing = stand; here_now = first_here }
    reached (next {t} {u} answer run byte step) =
        let r = reached run in
        let top = some_frame (numbers_of t.objects) t.mode t.frames r.fitting_state.frames in
        let f = top.0 in
        let callers = top.1 in
        let x = follow P types limits answer t u f callers r.walks lawful typed r.fitting_state top.2 step r.standing in
        let d = done fitting kinds P types limits known lawful typed answer t u f callers top.2 r.fitting_state step r.here_now.hold in
        let arrays = arrays_go_on one apart before P lawful known are t u f callers r.walks top.2 r.here_now r.all d.1 in
        let on = going fitting kinds P types limits known lawful typed answer t u f callers top.2 r.fitting_state step in
        record {
          fitting_state = holds_at (step_of P limits answer t) u (Fits P types limits) step (keep P types limits lawful typed t on r.fitting_state answer byte);
          walks = walks_after t u r.walks;
          all = step_known x.0 r.all;
          standing = x.1;
          here_now = step_on fitting kinds P types limits known lawful typed answer t u f callers top.2 r.fitting_state step r.walks (walks_after t u r.walks) r.standing x.0 r.here_now arrays;
        }

    pub hold_on : (t : State) → IsOfRun P limits s t → HoldKnown P known t
    hold_on t run = (reached run).here_now.hold

  module _ (have_walks : RunsHaveWalks) (input : ℕ → Option ℕ) (gives : GivesBytes input) where
    abbrev run : ℕ → State
    run n = run_from P limits input s n

    abbrev so_far : ℕ → Walks
    so_far n = walks_from P limits input s boot_walks n

    walks_at : (n : ℕ) → HasWalks P types limits input s boot_walks n
    walks_at n = have_walks P types limits input s boot_walks lawful typed gives fits stand n

    first_known : AllKnown (so_far zero)
    unfolding walks_from
    first_known = tt

    all_known : (n : ℕ) → AllKnown (so_far n)
    all_known zero = first_known
    all_known (suc n) = by (walks_at n).next (all_known n)
      where
        by : Stepped P limits (run n) (run (suc n)) (so_far n) (so_far (suc n)) ⊎ Stayed (run n) (run (suc n)) (so_far n) (so_far (suc n)) → AllKnown (so_far n) → AllKnown (so_far (suc n))
        by (inl x) h = step_known x.walks h
        by (inr x) h = subst AllKnown (sym x.same_walks) h

    pub holds_on : (n : ℕ) → Here P known (run n) (so_far n)
    holds_on n =
        holds fitting kinds have_walks P types limits known input s boot_walks lawful typed gives fits stand first_here
        (λ k f callers frames now wrote. arrays_go_on one apart before P lawful known are (run k) (run (suc k)) f callers (so_far k) frames now (all_known k) wrote) n

pub runs_hold_known : FittingStatesAreWellFormed → RowsAreOfTheirKinds → BootWalksStand → LinesAreOne → LinesAreApart → OneStandsBefore → StepsFollowWalks → TypedProgramsKeep → RunsHoldKnown
runs_hold_known fitting kinds boots one apart before follow keep P types limits known s t lawful typed fits boot are hold run =
    hold_on fitting kinds boots one apart before P types limits known s lawful typed fits boot are hold follow keep t run

pub runs_hold_arrays : FittingStatesAreWellFormed → RowsAreOfTheirKinds → RunsHaveWalks → BootWalksStand → LinesAreOne → LinesAreApart → OneStandsBefore → RunsHoldArrays
runs_hold_arrays fitting kinds have_walks boots one apart before P types limits known input s n lawful typed gives fits boot are hold =
    let h = holds_on fitting kinds boots one apart before P types limits known s lawful typed fits boot are hold have_walks input gives n in
    (h.hold, h.have)
