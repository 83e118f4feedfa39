-- With the words of the stack need no invoke overflows.
use Rattle.std.proofs.Common.{◌≡◌, ℕ, suc, ◌+◌, ◌≤◌, Bool, true, false, List, [], ◌∷◌, length, Option, Some, None, refl, sym, ap, ◌∙◌, subst, inl, inr, arith, le-leb, leb-false}
use Rattle.std.specs.Prelude.{◌⊎◌, if◌then◌else◌, nat_le, IfSome}
use Rattle.std.proofs.lemmas.List.Sums.{sum_by-cons}
use Rattle.lists.proofs.Lemmas.{onto_some, some_same, none≢some, holds_at}
use Rattle.lists.specs.Members.{heads, tails}
use Rattle.bytecode_model.specs.declared.Value.{Value}
use Rattle.bytecode_model.specs.declared.Ending.{Ending}
use Rattle.bytecode_model.specs.declared.Ending.TheVariants.{Running, Raising}
use Rattle.bytecode_model.specs.Lists.{onto}
use Rattle.bytecode_model.specs.State.{Frame, State}
use Rattle.bytecode_model.specs.Program.{Program, Limits, Body, body_of}
use Rattle.bytecode_model.specs.Sizes.{body_words, frame_words, frames_words}
use Rattle.bytecode_model.specs.Rows as rows
use Rattle.bytecode_model.specs.Rows.{Row}
use Rattle.bytecode_model.specs.Effects.{Effect, Stuck, Go, Make, WritePart, WriteStatic, Take, Give, Call, Leave, Raise, effect, fault_object, StackOverflowError}
use Rattle.bytecode_model.specs.Steps.{step, step_in, run_from, boot_state, row_at, first_frame, called, with_top, raising, applied}
use Rattle.bytecode_model.specs.WellFormed.{is_call}
use Rattle.bytecode_typing.specs.Typed.{Typing, Typed}
use Rattle.bytecode_typing.specs.Lawful.{Lawful}
use Rattle.bytecode_typing.specs.Fits.{IsGoing, Fits}
use Rattle.bytecode_typing.specs.Laws.{FittingStatesAreWellFormed, TheBootStateFits}
use Rattle.method_flow.specs.Calls.{IsStartOf}
use Rattle.method_flow.specs.Shapes.{FramesStep, StepsHaveShapes}
use Rattle.method_flow.specs.Shapes.FramesStep.{moves as is_move, enters as is_entry, returns as is_return, drops as is_drop, stops as is_stop}
use Rattle.method_runs.specs.Runs.{walks_from, boot_walks}
use Rattle.method_runs.specs.Steps.{Stepped, Stayed}
use Rattle.method_runs.specs.Laws.{HasWalks, RunsHaveWalks, BootWalksStand}
use Rattle.method_runs.proofs.Shaping.{shape_of}
use Rattle.memory_rules.specs.Stack.{method_words, IsStackNeed}
use Rattle.memory_rules.specs.Stack.Chain.{alone}
use Rattle.memory_laws.specs.Promises.{RunsFromBoot}
use Rattle.memory_laws.specs.Laws.{StackNeedSuffices}
use Rattle.memory_laws.proofs.Raising.{CallsOrRaisesNot, call_is}
use Rattle.memory_laws.proofs.Calling.{CalledFrom, AreCalled, by_entry, few_words, called_at, start_at, walks_at}

pub same_place : {X : Type 0} {xs ys : List X} → xs ≡ ys → length xs ≡ length ys
same_place {X} e = ap (λ (zs : List X). length zs) e

-- what an invoke does doesn't depend on the words that there are
same_call : (P : Program) (l k : Limits) (s : State) (f : Frame) (next : ℕ) (r : Row) → is_call r ≡ true → effect P l s f next r ≡ effect P k s f next r
same_call P l k s f next (rows.CallStatic m) c = refl
same_call P l k s f next (rows.CallSpecial named m) c = refl
same_call P l k s f next (rows.CallVirtual named m) c = refl
same_call P l k s f next (rows.CallInterface named m) c = refl
same_call P l k s f next r c = absurd (cc)

more_words : (a b c d e f : ℕ) → d ≡ a + b → e ≡ a + b → f ≡ c + e → d ≤ f
more_words a b c d e f h k l = omega (arith, h, k, l)

module _ (shapes : StepsHaveShapes) (fitting : FittingStatesAreWellFormed) (P : Program) (types : Typing) (limits : Limits) (answer : Option ℕ) (s t : State) (f : Frame) (callers : List Frame)
    (lawful : Lawful P) (typed : Typed P types) (fits : Fits P types limits s) (frames : s.frames ≡ f ∷ callers) (running : s.mode ≡ Running) (start : IsStartOf P f.method f.pc) (below : CalledFrom P f.method callers)
    (next : ℕ) (r : Row) (row : row_at P f ≡ Some (next, r)) (call : is_call r ≡ true) where
  -- a step where there are so many words
  step_is : (l : Limits) (e : Effect) → effect P l s f next r ≡ e → step P l answer s ≡ applied P l answer s f callers e
  step_is l e is =
      ap (λ (fs : List Frame). step_in P l answer s fs s.mode) frames
      ∙ (ap (λ (m : Ending). step_in P l answer s (f ∷ callers) m) running
      ∙ (ap (λ (o : Option (ℕ × Row)). onto o (λ x. applied P l answer s f callers (effect P l s f x.0 x.1))) row
      ∙ ap (λ (x : Effect). applied P l answer s f callers x) is))

  -- the frame that would be made
  module _ (m : ℕ) (args ops : List Value) (g : Frame) (is : effect P limits s f next r ≡ Call m args ops) (first : first_frame P m args ≡ Some g) where
    abbrev w : Frame
    w = record f { operands = ops }

    abbrev words : ℕ
    words = frames_words P (g ∷ w ∷ callers)

    -- as many words as are wanted
    abbrev enough : Limits
    enough = record { frames = words; heap = limits.heap }

    abbrev u : State
    u = with_top s (w ∷ callers) g

    enters_there : step P enough answer s ≡ Some u
    enters_there =
        step_is enough (Call m args ops) (same_call P enough limits s f next r call ∙ is)
        ∙ (ap (λ (o : Option Frame). onto o (λ x. Some (called P enough s w callers x))) first
        ∙ ap (λ (b : Bool). Some (if b then u else raising s w callers (fault_object StackOverflowError))) (le-leb words words (omega arith)))

    fits_there : Fits P types enough s
    fits_there = record {
      frames = fits.frames;
      boot = fits.boot;
      objects = fits.objects;
      first = fits.first;
      statics = fits.statics;
      frame_sum =
          let a = sum_by-cons (frame_words P) f callers in
          let b = sum_by-cons (frame_words P) w callers in
          let c = sum_by-cons (frame_words P) g (w ∷ callers) in
          subst (λ (fs : List Frame). frames_words P fs ≤ words) (sym frames) (more_words (frame_words P f) (frames_words P callers) (frame_words P g) (frames_words P (f ∷ callers)) (frames_words P (w ∷ callers)) words a b c);
      heap_sum = fits.heap_sum;
    }

    may_call : CalledFrom P g.method (w ∷ callers)
    may_call = by (shape_of shapes fitting P types enough answer s u f callers lawful typed fits_there frames enters_there)
      where
        by : FramesStep P s.mode f callers u → CalledFrom P g.method (w ∷ callers)
        by (is_entry h) =
            let e : h.top ∷ h.waiting ∷ callers ≡ g ∷ w ∷ callers = sym h.frames in
            let top : h.top ≡ g = heads h.top g (h.waiting ∷ callers) (w ∷ callers) e in
            let rest : h.waiting ∷ callers ≡ w ∷ callers = tails h.top g (h.waiting ∷ callers) (w ∷ callers) e in
            subst (λ (x : Frame). CalledFrom P x.method (w ∷ callers)) top (subst (λ (xs : List Frame). CalledFrom P h.top.method xs) rest (by_entry P s.mode f callers u start below h))
        by (is_move h) = absurd (let e = same_place h.frames in omega arith)
        by (is_return h) = absurd (let e = same_place h.frames in let k = same_place h.callers_are in omega arith)
        by (is_drop h) = absurd (let e = same_place h.frames in let k = same_place h.callers_are in omega arith)
        by (is_stop none ended) = absurd (ended tt)

  module _ (need : ℕ) (is_need : IsStackNeed P need) (room : need ≤ limits.frames) where
    no_overflow : (m : ℕ) (args ops : List Value) (g : Frame) → effect P limits s f next r ≡ Call m args ops → first_frame P m args ≡ Some g → (b : Bool)
        → nat_le (frames_words P (g ∷ record f { operands = ops } ∷ callers)) limits.frames ≡ b
        → Some (if b then with_top s (record f { operands = ops } ∷ callers) g else raising s (record f { operands = ops }) callers (fault_object StackOverflowError)) ≡ Some t
        → t.mode ≡ Raising (fault_object StackOverflowError) → ⊥
    no_overflow m args ops g is first true fit h raised =
        let mode : Running ≡ t.mode = ap (λ (x : State). x.mode) (some_same (with_top s (record f { operands = ops } ∷ callers) g) t h) in
        cc (mode, raised)
    no_overflow m args ops g is first false fit h raised =
        let few = few_words P need is_need g (record f { operands = ops } ∷ callers) (may_call m args ops g is first) in
        let many = leb-false (frames_words P (g ∷ record f { operands = ops } ∷ callers)) limits.frames fit in
        omega (arith, few, many, room)

    by_effect : (e : Effect) → effect P limits s f next r ≡ e → CallsOrRaisesNot (fault_object StackOverflowError) e → applied P limits answer s f callers e ≡ Some t → t.mode ≡ Raising (fault_object StackOverflowError) → ⊥
    by_effect Stuck is k h raised = none≢some t h
    by_effect (Go pc ls ops) is k h raised = k
    by_effect (Make o pc ls ops) is k h raised = k
    by_effect (WritePart p i v pc ls ops) is k h raised = k
    by_effect (WriteStatic i v pc ls ops) is k h raised = k
    by_effect (Take pc ls ops) is k h raised = k
    by_effect (Give byte pc ls ops) is k h raised = k
    by_effect (Call m args ops) is k h raised =
        let x = onto_some (first_frame P m args) (λ g. Some (called P limits s (record f { operands = ops }) callers g)) t h in
        no_overflow m args ops x.0 is x.1 (nat_le (frames_words P (x.0 ∷ record f { operands = ops } ∷ callers)) limits.frames) refl x.2 raised
    by_effect (Leave result) is k h raised = k
    by_effect (Raise p) is k h raised =
        let mode : Raising p ≡ t.mode = ap (λ (x : State). x.mode) (some_same (raising s f callers p) t h) in
        let both : Raising p ≡ Raising (fault_object StackOverflowError) = mode ∙ raised in
        let same : p ≡ fault_object StackOverflowError = cc in
        k same

    pub never : step P limits answer s ≡ Some t → t.mode ≡ Raising (fault_object StackOverflowError) → ⊥
    never h raised =
        let e = effect P limits s f next r in
        let null : 6 ≡ 8 → ⊥ = λ x. omega (arith, x) in
        let change : 4 ≡ 8 → ⊥ = λ x. omega (arith, x) in
        by_effect e refl (call_is (fault_object StackOverflowError) P limits s f next null change r call) (sym (step_is limits e refl) ∙ h) raised

-- ---- along a run

-- the frame of boot alone takes no more words
boot_words : (P : Program) (need : ℕ) → IsStackNeed P need → (b : Body) → body_of P P.boot ≡ Some b → body_words b ≤ need
boot_words P need is b e =
    let one = is.greatest (P.boot ∷ []) alone in
    let a = sum_by-cons (method_words P) P.boot [] in
    let words : method_words P P.boot ≡ body_words b = ap (λ (o : Option Body). elim o [ None ↦ 0 | Some x ↦ body_words x ]) e in
    omega (arith, one, a, words)

pub boot_fits : TheBootStateFits → (P : Program) (types : Typing) (limits : Limits) (input : ℕ → Option ℕ) (boot : State) → RunsFromBoot P types input boot
    → ((b : Body) → body_of P P.boot ≡ Some b → body_words b ≤ limits.frames) → Fits P types limits boot
boot_fits fit P types limits input boot run few =
    holds_at (boot_state P) boot (Fits P types limits) run.begins (fit P types limits run.lawful run.typed (if_some (body_of P P.boot) (λ b. body_words b ≤ limits.frames) few))
  where
    if_some : (o : Option Body) (K : Body → Type 0) → ((b : Body) → o ≡ Some b → K b) → IfSome o K
    if_some None K h = tt
    if_some (Some b) K h = h b refl

pub stack_need_suffices : FittingStatesAreWellFormed → TheBootStateFits → StepsHaveShapes → RunsHaveWalks → BootWalksStand → StackNeedSuffices
stack_need_suffices fitting fit shapes have_walks stand P types limits input boot need n run is_need room at raised = by here.next
  where
    fits : Fits P types limits boot
    fits = boot_fits fit P types limits input boot run (λ b e. let few = boot_words P need is_need b e in omega (arith, few, room))

    here : HasWalks P types limits input boot boot_walks n
    here = walks_at fitting have_walks stand P types limits input boot run fits n

    by : Stepped P limits (run_from P limits input boot n) (run_from P limits input boot (suc n)) (walks_from P limits input boot boot_walks n) (walks_from P limits input boot boot_walks (suc n))
        ⊎ Stayed (run_from P limits input boot n) (run_from P limits input boot (suc n)) (walks_from P limits input boot boot_walks n) (walks_from P limits input boot boot_walks (suc n)) → ⊥
    by (inl x) =
        let below : CalledFrom P at.frame.method at.callers = subst (AreCalled P) at.frames (called_at fitting have_walks stand P types limits input boot run fits n) in
        let start = start_at fitting have_walks stand P types limits input boot run fits n at.frame at.callers at.frames in
        never shapes fitting P types limits x.answer (run_from P limits input boot n) (run_from P limits input boot (suc n)) at.frame at.callers run.lawful run.typed here.fits at.frames at.running start below at.next at.row at.is at.has need is_need room x.is_next raised
    by (inr x) = x.ended (subst IsGoing (sym at.running) tt)
