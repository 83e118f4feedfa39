-- The boot state, and runs from it, step by step.
use Rattle.std.proofs.Common.{◌≡◌, ℕ, zero, suc, Bool, true, false, List, [], ◌∷◌, length, map, Option, Some, None, slice_get, refl, sym, ap, ◌∙◌, IsSomeAnd}
use Rattle.std.specs.Prelude.{if◌then◌else◌}
use Rattle.lists.proofs.Lemmas.{onto_some, some_is, some_in, some_same, none≢some}
use Rattle.opcodes.specs.Start.{IsStart}
use Rattle.bytecode_model.specs.declared.Value.{Value}
use Rattle.bytecode_model.specs.declared.Ending.{Ending}
use Rattle.bytecode_model.specs.declared.Ending.TheVariants.{Running, Raising, Ended, Uncaught}
use Rattle.bytecode_model.specs.Lists.{onto}
use Rattle.bytecode_model.specs.Types.{default}
use Rattle.bytecode_model.specs.State.{Frame, State}
use Rattle.bytecode_model.specs.Program.{Program, Limits, Body, body_of}
use Rattle.bytecode_model.specs.Steps.{step, step_in, run_from, boot_state, first_frame, all_suit, taken_types}
use Rattle.bytecode_model.specs.WellFormed.{IsFrame, AreFrames}
use Rattle.bytecode_typing.specs.Fits.{IsGoing}
use Rattle.method_runs.specs.Runs.{Walks, walks_from}

-- ---- one step of a run

pub next_is : (P : Program) (limits : Limits) (input : ℕ → Option ℕ) (s : State) (n : ℕ) (t : State)
    → step P limits (input (length (run_from P limits input s n).answers)) (run_from P limits input s n) ≡ Some t → run_from P limits input s (suc n) ≡ t
unfolding run_from
next_is P limits input s n t e = ap (λ (o : Option State). elim o [ None ↦ run_from P limits input s n | Some u ↦ u ]) e

pub walks_first : (P : Program) (limits : Limits) (input : ℕ → Option ℕ) (s : State) (ws : Walks) → walks_from P limits input s ws zero ≡ ws
unfolding walks_from
walks_first P limits input s ws = refl

pub run_first : (P : Program) (limits : Limits) (input : ℕ → Option ℕ) (s : State) → run_from P limits input s zero ≡ s
unfolding run_from
run_first P limits input s = refl

pub goes_on : (P : Program) (limits : Limits) (answer : Option ℕ) (s t : State) (fs : List Frame) (mode : Ending) → step_in P limits answer s fs mode ≡ Some t → IsGoing mode
goes_on P limits answer s t fs Running e = tt
goes_on P limits answer s t fs (Raising p) e = tt
goes_on P limits answer s t [] Ended e = absurd (none≢some t e)
goes_on P limits answer s t (f ∷ fs) Ended e = absurd (none≢some t e)
goes_on P limits answer s t [] (Uncaught c) e = absurd (none≢some t e)
goes_on P limits answer s t (f ∷ fs) (Uncaught c) e = absurd (none≢some t e)

-- ---- the first frame

-- a frame of the method m with this body, at its first instruction
pub record IsFirst (P : Program) (m : ℕ) (g : Frame) : Type 0 where
  pub method : g.method ≡ m
  pub place : g.pc ≡ 0
  pub body : Body
  pub has_body : body_of P m ≡ Some body

module _ (P : Program) (m : ℕ) (args : List Value) where
  padded_is : (b : Bool) (o : Option (List Value)) (g : Frame) → (if b then onto o (λ ls. Some (record { method = m; pc = 0; locals = ls; operands = [] })) else None) ≡ Some g → (g.method ≡ m) × (g.pc ≡ 0)
  padded_is false o g e = absurd (none≢some g e)
  padded_is true o g e =
      let found = onto_some o (λ ls. Some (record { method = m; pc = 0; locals = ls; operands = [] })) g e in
      let fresh : Frame = record { method = m; pc = 0; locals = found.0; operands = [] } in
      let same : g ≡ fresh = sym (some_same fresh g found.2) in
      (ap (λ (x : Frame). x.method) same, ap (λ (x : Frame). x.pc) same)

  pub first_is : (g : Frame) → first_frame P m args ≡ Some g → IsFirst P m g
  first_is g e =
      let method = onto_some (slice_get P.methods m) _ g e in
      let body = onto_some method.0.body _ g method.2 in
      let is = padded_is (all_suit (taken_types method.0) args) _ g body.2 in
      record { method = is.0; place = is.1; body = body.0; has_body = ap (λ o. onto o (λ k. k.body)) method.1 ∙ body.1 }

-- ---- the boot state

pub record Boots (P : Program) (s : State) : Type 0 where
  pub frame : Frame
  pub frames : s.frames ≡ frame ∷ []
  pub first : IsFirst P P.boot frame
  pub objects : s.objects ≡ P.first_objects
  pub running : s.mode ≡ Running

pub boots : (P : Program) (s : State) → boot_state P ≡ Some s → Boots P s
boots P s e =
    let method = onto_some (slice_get P.methods P.boot) _ s e in
    let frame = onto_some (first_frame P P.boot (map default method.0.parameters)) _ s method.2 in
    let u : State = record { frames = frame.0 ∷ []; objects = P.first_objects; statics = P.first_statics; answers = []; output = []; mode = Running } in
    let same : s ≡ u = sym (some_same u s frame.2) in
    record {
      frame = frame.0;
      frames = ap (λ (x : State). x.frames) same;
      first = first_is P P.boot (map default method.0.parameters) frame.0 frame.1;
      objects = ap (λ (x : State). x.objects) same;
      running = ap (λ (x : State). x.mode) same;
    }

-- ---- the top frame of a state that is well formed

pub start_of : (P : Program) (objects : ℕ) (f : Frame) (fs : List Frame) → AreFrames P objects (f ∷ fs) → IsSomeAnd (body_of P f.method) (λ b. IsStart b.code f.pc)
start_of P objects f fs are = let b = some_is (body_of P f.method) (IsFrame P objects f) are.0 in some_in (body_of P f.method) b.0 (λ (x : Body). IsStart x.code f.pc) b.1 b.2.start
