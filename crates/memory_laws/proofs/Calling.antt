-- The frames of a run from boot are a chain of calls.
use Rattle.std.proofs.Common.{◌≡◌, ℕ, zero, suc, ◌+◌, ◌≤◌, List, [], ◌∷◌, length, Option, refl, sym, ap, ◌∙◌, subst, inl, inr, arith, ◌⊎◌}
use Rattle.std.proofs.lemmas.List.Sums.{sum_by-cons}
use Rattle.bytecode_model.specs.declared.Ending.{Ending}
use Rattle.bytecode_model.specs.State.{Frame, State}
use Rattle.bytecode_model.specs.Program.{Program, Limits}
use Rattle.bytecode_model.specs.Sizes.{frame_words, frames_words}
use Rattle.bytecode_model.specs.Steps.{run_from, called}
use Rattle.bytecode_model.specs.WellFormed.{AreFrames}
use Rattle.bytecode_typing.specs.Typed.{Typing}
use Rattle.bytecode_typing.specs.Fits.{Fits}
use Rattle.bytecode_typing.specs.Laws.{FittingStatesAreWellFormed}
use Rattle.method_flow.specs.Nodes.{MayRaise}
use Rattle.method_flow.specs.Calls.{IsCall, IsTarget, IsStartOf}
use Rattle.method_flow.specs.Recursion.{MayCall}
use Rattle.method_flow.specs.Shapes.{Enters}
use Rattle.method_runs.specs.Runs.{Walks, walks_from, boot_walks}
use Rattle.method_runs.specs.Steps.{WalksStep, Stepped, Stayed}
use Rattle.method_runs.specs.Steps.WalksStep.{moves, enters, returns, drops, ends}
use Rattle.method_runs.specs.Laws.{HasWalks, RunsHaveWalks, BootWalksStand}
use Rattle.memory_rules.specs.Stack.{Chain, method_words, chain_words, IsStackNeed}
use Rattle.memory_rules.specs.Stack.Chain.{alone, calling}
use Rattle.memory_laws.specs.Promises.{RunsFromBoot}
use Rattle.memory_laws.proofs.Booting.{run_first, boots, start_of}

-- ---- frames that wait

-- at the place of the method's code an invoke may run the target
pub record MayRun (P : Program) (m p t : ℕ) : Type 0 where
  pub start : IsStartOf P m p
  pub call : IsCall P m p
  pub may_raise : MayRaise P m p
  pub target : IsTarget P m p t

-- the frames below one of the method, down to boot's: each waits where it may run the one above
abbrev pub CalledFrom : Program → (method : ℕ) → List Frame → Type 0
CalledFrom P m [] = m ≡ P.boot
CalledFrom P m (f ∷ fs) = MayRun P f.method f.pc m × CalledFrom P f.method fs

abbrev pub AreCalled : Program → List Frame → Type 0
AreCalled P [] = ⊥
AreCalled P (f ∷ fs) = CalledFrom P f.method fs

pub may_run_same : (P : Program) (m n p q t u : ℕ) → m ≡ n → p ≡ q → t ≡ u → MayRun P m p t → MayRun P n q u
may_run_same P m n p q t u a b c h = subst (λ (x : ℕ). MayRun P x q u) a (subst (λ (x : ℕ). MayRun P m x u) b (subst (λ (x : ℕ). MayRun P m p x) c h))

module _ (P : Program) (mode : Ending) (f : Frame) (callers : List Frame) (t : State) (start : IsStartOf P f.method f.pc) where
  pub by_entry : CalledFrom P f.method callers → (h : Enters P mode f callers t) → CalledFrom P h.top.method (h.waiting ∷ callers)
  by_entry below h =
      (may_run_same P f.method h.waiting.method f.pc h.waiting.pc h.top.method h.top.method (sym h.same) (sym h.place) refl (record { start = start; call = h.call; may_raise = h.may_raise; target = h.target }), subst (λ (m : ℕ). CalledFrom P m callers) (sym h.same) below)

  pub still_called : {ws vs : Walks} → CalledFrom P f.method callers → WalksStep P mode f callers t ws vs → AreCalled P t.frames
  still_called below (moves h) = subst (AreCalled P) (sym h.frames) (subst (λ (m : ℕ). CalledFrom P m callers) (sym h.same) below)
  still_called below (enters h) = subst (AreCalled P) (sym h.frames) (by_entry below h)
  still_called below (returns h) =
      let rest = subst (CalledFrom P f.method) h.callers_are below in
      subst (AreCalled P) (sym h.frames) (subst (λ (m : ℕ). CalledFrom P m h.others) (sym h.same) rest.1)
  still_called below (drops h) =
      let rest = subst (CalledFrom P f.method) h.callers_are below in
      subst (AreCalled P) (sym h.frames) (subst (λ (m : ℕ). CalledFrom P m h.others) (sym h.same) rest.1)
  still_called below (ends none frames ended) = subst (AreCalled P) (sym frames) (subst (CalledFrom P f.method) none below)

-- ---- along a run

module _ (fitting : FittingStatesAreWellFormed) (have_walks : RunsHaveWalks) (stand : BootWalksStand) (P : Program) (types : Typing) (limits : Limits) (input : ℕ → Option ℕ) (boot : State)
    (run_is : RunsFromBoot P types input boot) (fits : Fits P types limits boot) where
  abbrev run : ℕ → State
  run n = run_from P limits input boot n

  pub walks_at : (n : ℕ) → HasWalks P types limits input boot boot_walks n
  walks_at n = have_walks P types limits input boot boot_walks run_is.lawful run_is.typed run_is.gives fits (stand P boot run_is.begins) n

  pub frames_at : (n : ℕ) → AreFrames P (length (run n).objects) (run n).frames
  frames_at n = (fitting P types limits run_is.typed (run n) (walks_at n).fits).frames

  pub start_at : (n : ℕ) (f : Frame) (callers : List Frame) → (run n).frames ≡ f ∷ callers → IsStartOf P f.method f.pc
  start_at n f callers is = start_of P (length (run n).objects) f callers (subst (AreFrames P (length (run n).objects)) is (frames_at n))

  pub called_at : (n : ℕ) → AreCalled P (run n).frames
  called_at zero =
      let b = boots P boot run_is.begins in
      subst (AreCalled P) (sym (ap (λ (x : State). x.frames) (run_first P limits input boot) ∙ b.frames)) b.first.method
  called_at (suc n) = by (called_at n) (walks_at n).next
    where
      by : AreCalled P (run n).frames
          → Stepped P limits (run n) (run (suc n)) (walks_from P limits input boot boot_walks n) (walks_from P limits input boot boot_walks (suc n)) ⊎ Stayed (run n) (run (suc n)) (walks_from P limits input boot boot_walks n) (walks_from P limits input boot boot_walks (suc n))
          → AreCalled P (run (suc n)).frames
      by h (inl x) = still_called P (run n).mode x.frame x.callers (run (suc n)) (start_at n x.frame x.callers x.frames) (subst (AreCalled P) x.frames h) x.walks
      by h (inr x) = subst (λ (u : State). AreCalled P u.frames) (sym x.same) h

-- ---- the words of the frames

turned : (a b c d e : ℕ) → d ≡ a + c → e ≡ a + b → b + d ≡ e + c
turned a b c d e h k = omega (arith, h, k)

at_most : (a b c d e need : ℕ) → c ≡ a + 0 → d ≡ a + b → e ≡ b + c → e ≤ need → d ≤ need
at_most a b c d e need h k l m = omega (arith, h, k, l, m)

-- the methods from boot on to the method m and on along a chain from m
longer : (P : Program) (m : ℕ) (fs : List Frame) (ms : List ℕ) → CalledFrom P m fs → Chain P m ms → (ns : List ℕ) × Chain P P.boot ns × (chain_words P ns ≡ frames_words P fs + chain_words P ms)
longer P m [] ms is chain = (ms, subst (λ (x : ℕ). Chain P x ms) is chain, omega arith)
longer P m (f ∷ fs) ms is chain =
    let may : MayCall P f.method m = record { place = f.pc; start = is.0.start; call = is.0.call; is_target = is.0.target } in
    let rest = longer P f.method fs (f.method ∷ ms) is.1 (calling may chain) in
    let a = sum_by-cons (method_words P) f.method ms in
    let b = sum_by-cons (frame_words P) f fs in
    let same : frame_words P f ≡ method_words P f.method = refl in
    (rest.0, rest.1, rest.2 ∙ turned (method_words P f.method) (frames_words P fs) (chain_words P ms) (chain_words P (f.method ∷ ms)) (frames_words P (f ∷ fs)) a b)

pub few_words : (P : Program) (need : ℕ) → IsStackNeed P need → (g : Frame) (fs : List Frame) → CalledFrom P g.method fs → frames_words P (g ∷ fs) ≤ need
few_words P need is g fs called =
    let l = longer P g.method fs (g.method ∷ []) called alone in
    let most = is.greatest l.0 l.1 in
    let a = sum_by-cons (method_words P) g.method [] in
    let b = sum_by-cons (frame_words P) g fs in
    at_most (method_words P g.method) (frames_words P fs) (chain_words P (g.method ∷ [])) (frames_words P (g ∷ fs)) (chain_words P l.0) need a b l.2 most
