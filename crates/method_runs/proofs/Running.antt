-- The walks of a run.
use Rattle.std.proofs.Common.{◌≡◌, ◌⊎◌, ℕ, zero, suc, Bool, true, false, List, [], ◌∷◌, length, map, Option, Some, None, slice_get, refl, sym, ap, ◌∙◌, subst, inl, inr}
use Rattle.std.specs.Prelude.{if◌then◌else◌}
use Rattle.lists.proofs.Lemmas.{some_is, onto_some, some_same, none≢some}
use Rattle.bytecode_model.specs.declared.Value.{Value}
use Rattle.bytecode_model.specs.declared.Ending.{Ending}
use Rattle.bytecode_model.specs.declared.Ending.TheVariants.{Running, Raising, Ended, Uncaught}
use Rattle.bytecode_model.specs.Lists.{onto}
use Rattle.bytecode_model.specs.Types.{default}
use Rattle.bytecode_model.specs.State.{Frame, State}
use Rattle.bytecode_model.specs.Program.{Program, Limits}
use Rattle.bytecode_model.specs.Steps.{step, step_in, run_from, first_frame, all_suit, taken_types}
use Rattle.bytecode_typing.specs.Typed.{Typing, Typed}
use Rattle.bytecode_typing.specs.Lawful.{Lawful}
use Rattle.bytecode_typing.specs.Fits.{IsGoing, Fits, FramesFit, numbers_of}
use Rattle.bytecode_typing.specs.Laws.{TypedProgramsKeep, TypedRunsFit}
use Rattle.method_flow.specs.Nodes.{At}
use Rattle.method_runs.specs.Runs.{nodes_now, Walks, on_top, followed, walks_after, walks_from, boot_walks}
use Rattle.method_runs.specs.Standing.{MethodWalk, Waiting, Standing}
use Rattle.method_runs.specs.Standing.MethodWalk.{starts}
use Rattle.method_runs.specs.Steps.{WalksStep, Stepped, Stayed}
use Rattle.method_runs.specs.Laws.{StepsFollowWalks, GivesBytes, HasWalks, RunsHaveWalks, UnknownWalksStand, BootWalksStand}
use Rattle.method_runs.proofs.Following.{same_depth, no_nodes}

-- ---- one step of a run

next_is : (P : Program) (limits : Limits) (input : ℕ → Option ℕ) (s : State) (n : ℕ) (t : State)
    → step P limits (input (length (run_from P limits input s n).answers)) (run_from P limits input s n) ≡ Some t → run_from P limits input s (suc n) ≡ t
unfolding run_from
next_is P limits input s n t e = ap (λ (o : Option State). elim o [ None ↦ run_from P limits input s n | Some u ↦ u ]) e

stays_is : (P : Program) (limits : Limits) (input : ℕ → Option ℕ) (s : State) (n : ℕ)
    → step P limits (input (length (run_from P limits input s n).answers)) (run_from P limits input s n) ≡ None → run_from P limits input s (suc n) ≡ run_from P limits input s n
unfolding run_from
stays_is P limits input s n e = ap (λ (o : Option State). elim o [ None ↦ run_from P limits input s n | Some u ↦ u ]) e

walks_next : (P : Program) (limits : Limits) (input : ℕ → Option ℕ) (s : State) (ws : Walks) (n : ℕ)
    → walks_from P limits input s ws (suc n) ≡ walks_after (run_from P limits input s n) (run_from P limits input s (suc n)) (walks_from P limits input s ws n)
unfolding walks_from
walks_next P limits input s ws n = refl

walks_first : (P : Program) (limits : Limits) (input : ℕ → Option ℕ) (s : State) (ws : Walks) → walks_from P limits input s ws zero ≡ ws
unfolding walks_from
walks_first P limits input s ws = refl

run_first : (P : Program) (limits : Limits) (input : ℕ → Option ℕ) (s : State) → run_from P limits input s zero ≡ s
unfolding run_from
run_first P limits input s = refl

-- ---- whether the program has ended

going_or_not : (mode : Ending) → IsGoing mode ⊎ (IsGoing mode → ⊥)
going_or_not Running = inl tt
going_or_not (Raising p) = inl tt
going_or_not Ended = inr (λ h. h)
going_or_not (Uncaught c) = inr (λ h. h)

no_step : (P : Program) (limits : Limits) (answer : Option ℕ) (s : State) (fs : List Frame) (mode : Ending) → (IsGoing mode → ⊥) → step_in P limits answer s fs mode ≡ None
no_step P limits answer s fs Running ended = absurd (ended tt)
no_step P limits answer s fs (Raising p) ended = absurd (ended tt)
no_step P limits answer s [] Ended ended = refl
no_step P limits answer s (f ∷ fs) Ended ended = refl
no_step P limits answer s [] (Uncaught c) ended = refl
no_step P limits answer s (f ∷ fs) (Uncaught c) ended = refl

no_nodes_now : (mode : Ending) (fs : List Frame) → (IsGoing mode → ⊥) → nodes_now mode fs ≡ []
no_nodes_now Running fs ended = absurd (ended tt)
no_nodes_now (Raising p) fs ended = absurd (ended tt)
no_nodes_now Ended [] ended = refl
no_nodes_now Ended (f ∷ fs) ended = refl
no_nodes_now (Uncaught c) [] ended = refl
no_nodes_now (Uncaught c) (f ∷ fs) ended = refl

on_none : (ws : Walks) → on_top [] ws ≡ ws
on_none [] = refl
on_none (w ∷ ws) = ap (λ (x : Option (List ℕ)). x ∷ ws) (no_nodes w)

walks_stay : (s : State) (ws : Walks) → (IsGoing s.mode → ⊥) → walks_after s s ws ≡ ws
walks_stay s ws ended =
    ap (λ (nodes : List ℕ). followed (length s.frames) (length s.frames) nodes ws) (no_nodes_now s.mode s.frames ended) ∙ (same_depth (length s.frames) [] ws ∙ on_none ws)

-- ---- along a run

-- a state that fits has a top frame
a_frame : (P : Program) (types : Typing) (ks : List ℕ) (mode : Ending) (fs : List Frame) → FramesFit P types ks mode fs → (f : Frame) × (callers : List Frame) × (fs ≡ f ∷ callers)
a_frame P types ks mode [] h = absurd h
a_frame P types ks mode (f ∷ fs) h = (f, fs, refl)

module _ (follow : StepsFollowWalks) (keep : TypedProgramsKeep) (fit : TypedRunsFit) (P : Program) (types : Typing) (limits : Limits) (input : ℕ → Option ℕ) (s : State) (ws : Walks) (lawful : Lawful P) (typed : Typed P types)
    (gives : GivesBytes input) (fits : Fits P types limits s) (stand : Standing P s.mode s.frames ws) where
  abbrev run : ℕ → State
  run n = run_from P limits input s n

  abbrev so_far : ℕ → Walks
  so_far n = walks_from P limits input s ws n

  abbrev Stands : ℕ → Type 0
  Stands n = Standing P (run n).mode (run n).frames (so_far n)

  abbrev Next : ℕ → Type 0
  Next n = Stepped P limits (run n) (run (suc n)) (so_far n) (so_far (suc n)) ⊎ Stayed (run n) (run (suc n)) (so_far n) (so_far (suc n))

  fits_at : (n : ℕ) → Fits P types limits (run n)
  fits_at n = fit P types limits lawful typed input gives s fits n

  go_on : (n : ℕ) → Stands n → Next n × Stands (suc n)
  go_on n standing = by (going_or_not (run n).mode)
    where
      answer : Option ℕ
      answer = input (length (run n).answers)

      by : IsGoing (run n).mode ⊎ (IsGoing (run n).mode → ⊥) → Next n × Stands (suc n)
      by (inl going) =
          let a = run n in
          let found = some_is (step P limits answer a) (Fits P types limits) (keep P types limits lawful typed a going (fits_at n) answer (gives (length a.answers))) in
          let same : run (suc n) ≡ found.0 = next_is P limits input s n found.0 found.1 in
          let next : step P limits answer a ≡ Some (run (suc n)) = found.1 ∙ ap (λ (u : State). Some u) (sym same) in
          let top = a_frame P types (numbers_of a.objects) a.mode a.frames (fits_at n).frames in
          let x = follow P types limits answer a (run (suc n)) top.0 top.1 (so_far n) lawful typed (fits_at n) top.2 next standing in
          let e = walks_next P limits input s ws n in (
            inl (record { frame = top.0; callers = top.1; frames = top.2; answer = answer; is_next = next; walks = subst (λ (vs : Walks). WalksStep P a.mode top.0 top.1 (run (suc n)) (so_far n) vs) (sym e) x.0 }),
            subst (Standing P (run (suc n)).mode (run (suc n)).frames) (sym e) x.1,
          )
      by (inr ended) =
          let a = run n in
          let same : run (suc n) ≡ a = stays_is P limits input s n (no_step P limits answer a a.frames a.mode ended) in
          let e : so_far (suc n) ≡ so_far n = walks_next P limits input s ws n ∙ (ap (λ (u : State). walks_after a u (so_far n)) same ∙ walks_stay a (so_far n) ended) in (
            inr (record { ended = ended; same = same; same_walks = e }),
            subst (λ (vs : Walks). Standing P (run (suc n)).mode (run (suc n)).frames vs) (sym e) (subst (λ (u : State). Standing P u.mode u.frames (so_far n)) (sym same) standing),
          )

  first_stands : Stands zero
  first_stands =
      subst (λ (vs : Walks). Standing P (run zero).mode (run zero).frames vs) (sym (walks_first P limits input s ws))
      (subst (λ (u : State). Standing P u.mode u.frames ws) (sym (run_first P limits input s)) stand)

  stands : (n : ℕ) → Stands n
  stands zero = first_stands
  stands (suc n) = (go_on n (stands n)).1

  pub has_walks : (n : ℕ) → HasWalks P types limits input s ws n
  has_walks n = record { fits = fits_at n; standing = stands n; next = (go_on n (stands n)).0 }

pub runs_have_walks : StepsFollowWalks → TypedProgramsKeep → TypedRunsFit → RunsHaveWalks
runs_have_walks follow keep fit P types limits input s ws lawful typed gives fits stand n = has_walks follow keep fit P types limits input s ws lawful typed gives fits stand n

-- ---- at the first state

all_unknown : (P : Program) (fs : List Frame) → Waiting P None fs (map (λ (f : Frame). None) fs)
all_unknown P [] = tt
all_unknown P (f ∷ fs) = (tt, refl, all_unknown P fs)

unknown_stand : (P : Program) (types : Typing) (ks : List ℕ) (mode : Ending) (fs : List Frame) → FramesFit P types ks mode fs → Standing P mode fs (map (λ (f : Frame). None) fs)
unknown_stand P types ks mode [] h = absurd h
unknown_stand P types ks mode (f ∷ fs) h = (tt, all_unknown P fs)

pub unknown_walks_stand : UnknownWalksStand
unknown_walks_stand P types limits s fits = unknown_stand P types (numbers_of s.objects) s.mode s.frames fits.frames

-- the first frame of a method is at its first instruction
module _ (m : ℕ) (args : List Value) where
  padded_is : (b : Bool) (o : Option (List Value)) (g : Frame) → (if b then onto o (λ ls. Some (record { method = m; pc = 0; locals = ls; operands = [] })) else None) ≡ Some g → g.pc ≡ 0
  padded_is false o g e = absurd (none≢some g e)
  padded_is true o g e =
      let found = onto_some o (λ ls. Some (record { method = m; pc = 0; locals = ls; operands = [] })) g e in
      let fresh : Frame = record { method = m; pc = 0; locals = found.0; operands = [] } in
      ap (λ (x : Frame). x.pc) (sym (some_same fresh g found.2))

  first_is : (P : Program) (g : Frame) → first_frame P m args ≡ Some g → g.pc ≡ 0
  first_is P g e =
      let method = onto_some (slice_get P.methods m) _ g e in
      let body = onto_some method.0.body _ g method.2 in
      padded_is (all_suit (taken_types method.0) args) _ g body.2

pub boot_walks_stand : BootWalksStand
boot_walks_stand P s e =
    let method = onto_some (slice_get P.methods P.boot) _ s e in
    let frame = onto_some (first_frame P P.boot (map default method.0.parameters)) _ s method.2 in
    let f = frame.0 in
    let u : State = record { frames = f ∷ []; objects = P.first_objects; statics = P.first_statics; answers = []; output = []; mode = Running } in
    let same : u ≡ s = some_same u s frame.2 in
    let walk : MethodWalk P f.method (At f.pc) (0 ∷ []) = subst (λ (p : ℕ). MethodWalk P f.method (At p) (0 ∷ [])) (sym (first_is P.boot (map default method.0.parameters) P f frame.1)) starts in
    subst (λ (x : State). Standing P x.mode x.frames boot_walks) same (walk, tt)
