-- Where there is no room for a frame beside boot's, a run is that with room for just this one.
use Rattle.std.proofs.Common.{◌≡◌, ◌⊎◌, ℕ, zero, suc, ◌+◌, ◌<◌, ◌≤◌, Bool, true, false, List, [], ◌∷◌, length, Option, Some, None, refl, sym, ap, ◌∙◌, subst, arith, inl, inr, leb-true}
use Rattle.std.specs.Prelude.{if◌then◌else◌, nat_le}
use Rattle.std.proofs.lemmas.Bool.{cases_lt}
use Rattle.std.proofs.lemmas.List.Sums.{sum_by-cons}
use Rattle.lists.proofs.Lemmas.{some_is, some_same}
use Rattle.opcodes.specs.Start.{IsStart}
use Rattle.bytecode_model.specs.declared.Value.{Value}
use Rattle.bytecode_model.specs.declared.Ending.{Ending}
use Rattle.bytecode_model.specs.declared.Ending.TheVariants.{Running, Raising, Ended, Uncaught}
use Rattle.bytecode_model.specs.Lists.{onto}
use Rattle.bytecode_model.specs.State.{Frame, State}
use Rattle.bytecode_model.specs.Program.{Program, Limits, Body, body_of}
use Rattle.bytecode_model.specs.Sizes.{body_words, frame_words, frames_words}
use Rattle.bytecode_model.specs.Rows as rows
use Rattle.bytecode_model.specs.Rows.{Row}
use Rattle.bytecode_model.specs.Effects.{Effect, Call, effect, fault_object, OutOfMemoryError, StackOverflowError}
use Rattle.bytecode_model.specs.Steps.{step, step_in, run_from, row_at, first_frame, called, with_top, raising, applied}
use Rattle.bytecode_typing.specs.Typed.{Typing}
use Rattle.bytecode_typing.specs.Fits.{Fits}
use Rattle.bytecode_typing.specs.Laws.{FittingStatesAreWellFormed, TheBootStateFits, TypedProgramsKeep}
use Rattle.method_flow.specs.Keeping.{BoundOf}
use Rattle.method_flow.specs.Kinds.{RowsAreOfTheirKinds}
use Rattle.method_runs.specs.TypedGraphs.Laws.{MethodGraphsExist}
use Rattle.method_runs.specs.Runs.{Walks, walks_after, walks_from, boot_walks}
use Rattle.method_runs.specs.Laws.{RunsHaveWalks, BootWalksStand, WalksAreOfGraphs}
use Rattle.code_lines.specs.Laws.{LinesAreOne, LinesAreApart, OneStandsBefore}
use Rattle.memory_rules.specs.Stack.{method_words}
use Rattle.memory_laws.specs.Promises.{RunsFromBoot, StandsAtMaking, FramesKeep, AsksAtMost, KeptSoFar}
use Rattle.memory_laws.specs.Laws.{HeapNeedSuffices}
use Rattle.memory_laws.proofs.Booting.{first_is, Boots, boots}
use Rattle.memory_laws.proofs.Calling.{CalledFrom, AreCalled, called_at, start_at, walks_at}
use Rattle.memory_laws.proofs.Overflowing.{boot_fits}
use Rattle.memory_laws.proofs.Accounting.{never}

-- ---- what doesn't depend on the room for frames

same_effect : (P : Program) (a b heap : ℕ) (s : State) (f : Frame) (next : ℕ) (r : Row) → effect P (record { frames = a; heap = heap }) s f next r ≡ effect P (record { frames = b; heap = heap }) s f next r
same_effect P a b heap s f next (rows.Return None) = refl
same_effect P a b heap s f next (rows.Return (Some sort)) = refl
same_effect P a b heap s f next r = refl

not_le : (a b : ℕ) → b < a → nat_le a b ≡ false
not_le a b h = by (nat_le a b) refl
  where
    by : (x : Bool) → nat_le a b ≡ x → x ≡ false
    by true e = let le = leb-true a b e in absurd (omega (arith, le, h))
    by false e = refl

-- a frame of a method with code has words of its own
some_words : (P : Program) (m : ℕ) (b : Body) → body_of P m ≡ Some b → 5 ≤ method_words P m
some_words P m b e =
    let words : method_words P m ≡ body_words b = ap (λ (o : Option Body). elim o [ None ↦ 0 | Some x ↦ body_words x ]) e in
    let five : 5 ≤ body_words b = omega arith in
    omega (arith, words, five)

module _ (P : Program) (a b heap : ℕ) (answer : Option ℕ) (s : State) (f : Frame) (few_a : a < frame_words P f + 5) (few_b : b < frame_words P f + 5) where
  called_alike : (w g : Frame) → frame_words P w ≡ frame_words P f → 5 ≤ frame_words P g → called P (record { frames = a; heap = heap }) s w [] g ≡ called P (record { frames = b; heap = heap }) s w [] g
  called_alike w g same five =
      let sum = sum_by-cons (frame_words P) g (w ∷ []) in
      let rest = sum_by-cons (frame_words P) w [] in
      let words : frames_words P (g ∷ w ∷ []) ≡ frame_words P g + (frame_words P w + 0) = sum ∙ ap (λ (n : ℕ). frame_words P g + n) rest in
      let above_a : a < frames_words P (g ∷ w ∷ []) = omega (arith, words, same, five, few_a) in
      let above_b : b < frames_words P (g ∷ w ∷ []) = omega (arith, words, same, five, few_b) in
      ap (λ (x : Bool). if x then with_top s (w ∷ []) g else raising s w [] (fault_object StackOverflowError)) (not_le (frames_words P (g ∷ w ∷ [])) a above_a ∙ sym (not_le (frames_words P (g ∷ w ∷ [])) b above_b))

  call_alike : (m : ℕ) (args ops : List Value) (o : Option Frame) → first_frame P m args ≡ o
      → onto o (λ g. Some (called P (record { frames = a; heap = heap }) s (record f { operands = ops }) [] g)) ≡ onto o (λ g. Some (called P (record { frames = b; heap = heap }) s (record f { operands = ops }) [] g))
  call_alike m args ops None e = refl
  call_alike m args ops (Some g) e =
      let first = first_is P m args g e in
      let five : 5 ≤ frame_words P g = subst (λ (x : ℕ). 5 ≤ method_words P x) (sym first.method) (some_words P m first.body first.has_body) in
      ap (λ (u : State). Some u) (called_alike (record f { operands = ops }) g refl five)

  same_applied : (e : Effect) → applied P (record { frames = a; heap = heap }) answer s f [] e ≡ applied P (record { frames = b; heap = heap }) answer s f [] e
  same_applied (Call m args ops) = call_alike m args ops (first_frame P m args) refl
  same_applied e = refl

  same_in : (mode : Ending) → step_in P (record { frames = a; heap = heap }) answer s (f ∷ []) mode ≡ step_in P (record { frames = b; heap = heap }) answer s (f ∷ []) mode
  same_in Running = by (row_at P f)
    where
      by : (o : Option (ℕ × Row)) → onto o (λ x. applied P (record { frames = a; heap = heap }) answer s f [] (effect P (record { frames = a; heap = heap }) s f x.0 x.1))
          ≡ onto o (λ x. applied P (record { frames = b; heap = heap }) answer s f [] (effect P (record { frames = b; heap = heap }) s f x.0 x.1))
      by None = refl
      by (Some x) = ap (λ (e : Effect). applied P (record { frames = a; heap = heap }) answer s f [] e) (same_effect P a b heap s f x.0 x.1) ∙ same_applied (effect P (record { frames = b; heap = heap }) s f x.0 x.1)
  same_in (Raising p) = refl
  same_in Ended = refl
  same_in (Uncaught c) = refl

  pub same_step : s.frames ≡ f ∷ [] → step P (record { frames = a; heap = heap }) answer s ≡ step P (record { frames = b; heap = heap }) answer s
  same_step frames =
      ap (λ (fs : List Frame). step_in P (record { frames = a; heap = heap }) answer s fs s.mode) frames ∙ (same_in s.mode ∙ sym (ap (λ (fs : List Frame). step_in P (record { frames = b; heap = heap }) answer s fs s.mode) frames))

-- ---- runs

-- boot's frame is among the frames
boot_among : (P : Program) (m : ℕ) (fs : List Frame) → CalledFrom P m fs → method_words P P.boot ≤ method_words P m + frames_words P fs
boot_among P m [] is = let same : method_words P m ≡ method_words P P.boot = ap (method_words P) is in omega (arith, same)
boot_among P m (f ∷ fs) is =
    let rest = boot_among P f.method fs is.1 in
    let sum = sum_by-cons (frame_words P) f fs in
    let same : frame_words P f ≡ method_words P f.method = refl in
    omega (arith, rest, sum, same)

module _ (fitting : FittingStatesAreWellFormed) (fit : TheBootStateFits) (have_walks : RunsHaveWalks) (stand : BootWalksStand) (P : Program) (types : Typing) (frames heap : ℕ) (input : ℕ → Option ℕ) (boot : State) (run_is : RunsFromBoot P types input boot)
    (b : Body) (body : body_of P P.boot ≡ Some b) (small : frames < body_words b) where
  abbrev limits : Limits
  limits = record { frames = frames; heap = heap }

  -- room for boot's frame
  abbrev just : Limits
  just = record { frames = body_words b; heap = heap }

  pub just_fits : Fits P types just boot
  just_fits = boot_fits fit P types just input boot run_is (λ c e. let same : body_words c ≡ body_words b = ap body_words (some_same c b (sym e ∙ body)) in omega (arith, same))

  boot_words : method_words P P.boot ≡ body_words b
  boot_words = ap (λ (o : Option Body). elim o [ None ↦ 0 | Some x ↦ body_words x ]) body

  one_frame : (n : ℕ) → (f : Frame) × ((run_from P just input boot n).frames ≡ f ∷ []) × (frame_words P f ≡ body_words b)
  one_frame n = by (run_from P just input boot n).frames refl (called_at fitting have_walks stand P types just input boot run_is just_fits n)
    where
      by : (fs : List Frame) → (run_from P just input boot n).frames ≡ fs → AreCalled P fs → (f : Frame) × ((run_from P just input boot n).frames ≡ f ∷ []) × (frame_words P f ≡ body_words b)
      by [] e are = absurd are
      by (f ∷ []) e are = (f, e, ap (method_words P) are ∙ boot_words)
      by (f ∷ g ∷ gs) e are =
          let most = (walks_at fitting have_walks stand P types just input boot run_is just_fits n).fits.frame_sum in
          let sum : frames_words P (f ∷ g ∷ gs) ≤ body_words b = subst (λ (fs : List Frame). frames_words P fs ≤ body_words b) e most in
          let start = start_at fitting have_walks stand P types just input boot run_is just_fits n f (g ∷ gs) e in
          let c = some_is (body_of P f.method) (λ (x : Body). IsStart x.code f.pc) start in
          let five = some_words P f.method c.0 c.1 in
          let rest = boot_among P g.method gs are.1 in
          let first = sum_by-cons (frame_words P) f (g ∷ gs) in
          let second = sum_by-cons (frame_words P) g gs in
          let whole : frames_words P (f ∷ g ∷ gs) ≡ method_words P f.method + (method_words P g.method + frames_words P gs) = first ∙ ap (λ (x : ℕ). frame_words P f + x) second in
          absurd (let own = boot_words in omega (arith, sum, five, rest, whole, own))

  pub same_run : (n : ℕ) → run_from P limits input boot n ≡ run_from P just input boot n
  unfolding run_from
  same_run zero = refl
  same_run (suc n) =
      let t = run_from P just input boot n in
      let f = one_frame n in
      let words = f.2 in
      let few : frames < frame_words P f.0 + 5 = omega (arith, words, small) in
      let just_few : body_words b < frame_words P f.0 + 5 = omega (arith, words) in
      ap (λ (s : State). elim (step P limits (input (length s.answers)) s) [ None ↦ s | Some u ↦ u ]) (same_run n)
      ∙ ap (λ (o : Option State). elim o [ None ↦ t | Some u ↦ u ]) (same_step P frames (body_words b) heap (input (length t.answers)) t f.0 few just_few f.1)

  pub same_walks : (ws : Walks) (n : ℕ) → walks_from P limits input boot ws n ≡ walks_from P just input boot ws n
  unfolding walks_from
  same_walks ws zero = refl
  same_walks ws (suc n) =
      ap (λ (s : State). walks_after s (run_from P limits input boot (suc n)) (walks_from P limits input boot ws n)) (same_run n)
      ∙ (ap (λ (s : State). walks_after (run_from P just input boot n) s (walks_from P limits input boot ws n)) (same_run (suc n))
      ∙ ap (λ (vs : Walks). walks_after (run_from P just input boot n) (run_from P just input boot (suc n)) vs) (same_walks ws n))

  pub kept_too : (bounds lengths : BoundOf) (n : ℕ) → KeptSoFar P limits bounds lengths input boot n → KeptSoFar P just bounds lengths input boot n
  kept_too bounds lengths n kept = record {
    loops = λ k le. subst (λ (s : State). FramesKeep P bounds s.frames (walks_from P just input boot boot_walks k)) (same_run k)
        (subst (λ (ws : Walks). FramesKeep P bounds (run_from P limits input boot k).frames ws) (same_walks boot_walks k) (kept.loops k le));
    arrays = λ k le. subst (λ (s : State). AsksAtMost P lengths s) (same_run k) (kept.arrays k le);
  }

pub heap_need_suffices : FittingStatesAreWellFormed → TheBootStateFits → TypedProgramsKeep → RunsHaveWalks → BootWalksStand → RowsAreOfTheirKinds → MethodGraphsExist → WalksAreOfGraphs → LinesAreOne → LinesAreApart → OneStandsBefore → HeapNeedSuffices
heap_need_suffices fitting fit keep have_walks stand kinds exist graphs one apart before P types limits bounds lengths input boot need n run have is_need room kept at raised =
    by (boots P boot run.begins) (cases_lt limits.frames (body_words (boots P boot run.begins).first.body))
  where
    by : (x : Boots P boot) → (limits.frames < body_words x.first.body) ⊎ (body_words x.first.body ≤ limits.frames) → ⊥
    by x (inl small) =
        let b = x.first.body in
        let body = x.first.has_body in
        let body' : body_of P P.boot ≡ Some b = body in
        let just : Limits = record { frames = body_words b; heap = limits.heap } in
        let same = same_run fitting fit have_walks stand P types limits.frames limits.heap input boot run b body' small in
        never fitting keep have_walks stand kinds exist graphs one apart before P types just bounds lengths input boot run (just_fits fitting fit have_walks stand P types limits.frames limits.heap input boot run b body' small) have n
        (kept_too fitting fit have_walks stand P types limits.frames limits.heap input boot run b body' small bounds lengths n kept)
        (subst (StandsAtMaking P) (same n) at) need is_need room
        (subst (λ (s : State). s.mode ≡ Raising (fault_object OutOfMemoryError)) (same (suc n)) raised)
    by x (inr enough) =
        let fits = boot_fits fit P types limits input boot run (λ c e. let same : body_words c ≡ body_words x.first.body = ap body_words (some_same c x.first.body (sym e ∙ x.first.has_body)) in omega (arith, same, enough)) in
        never fitting keep have_walks stand kinds exist graphs one apart before P types limits bounds lengths input boot run fits have n kept at need is_need room raised
