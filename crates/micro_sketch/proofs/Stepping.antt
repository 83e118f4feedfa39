-- Runs of a machine and a device together, one cycle more at a time.
use Rattle.std.proofs.Common.{◌≡◌, ℕ, zero, suc, ◌+◌, ◌-◌, ◌<◌, ◌≤◌, ◌^◌, Bool, true, false, if◌then◌else◌, List, [], ◌∷◌, ◌++◌, ◌⊎◌, inl, inr, ⊎_elim, Ok, Err, refl, sym, ap, ◌∙◌, subst, arith, append_assoc, append-nil, add-zero}
use Rattle.std.specs.declared.option.Option.{Option}
use Rattle.jop_core.specs.declared.halt.Halt.{Halt}
use Rattle.jop_core.specs.declared.halt.Halt.TheVariants.{Running, Ended, Uncaught}
use Rattle.jop_core.specs.declared.tick.Tick.{Tick}
use Rattle.jop_core.specs.declared.tick.Tick.TheVariants.{Went, Halted as HasHalted}
use Rattle.jop_core.specs.State.{MachineState, seen_of}
use Rattle.jop_core.specs.Cycle.{cycle_of, asks_input, output_of, at_boundary, is_running}
use Rattle.jop_core.specs.Scene.{Scene, begun, given, left_over, run, output_during, seen_during, notes_during}
use Rattle.device_traits.specs.declared.fault.DeviceFault.{DeviceFault}
use Rattle.device_traits.specs.declared.fault.DeviceFault.TheVariants.{Input, Output, Seen}
use Rattle.device_traits.specs.Told.{Told, GivesWhere, GivesEach}
use Rattle.jop_core.specs.Ticked.{Ticked, notes_of}
use Rattle.micro_sketch.specs.Ends.{AreGiven, EndsSoon}
use Rattle.micro_sketch.specs.Step.{RanCycles, HasNoBoundary, Arrived, Broke}
use Rattle.micro_sketch.specs.StepLaws.{StepsAddUp}
use Rattle.micro_sketch.proofs.Scenes.{run-add, run-begun, scene_is, after_output, UsesUp}
use Rattle.micro_sketch.proofs.During.{output_during-zero, seen_during-zero, notes_during-zero, output_during-one, seen_during-one, notes_during-one, output_during-add, seen_during-add, notes_during-add, output_during-after_output, seen_during-after_output, notes_during-after_output, output_during-followed, seen_during-followed, notes_during-followed, state-followed}
use Rattle.micro_sketch.proofs.Attends.{asked_for, Attended-refl, Attended-one, Attended-trans}

-- no cycle

pub Ran-none : (s : MachineState) (told : Told) → RanCycles 0 s s told told []
Ran-none s told = record {
  state = λ more. refl;
  left = λ more. refl;
  device = Attended-trans told told told [] [] [] [] _ [] [] _ [] [] _ (Attended-refl told) (Attended-refl told)
      (output_during-zero (begun s [])) (seen_during-zero (begun s [])) (notes_during-zero (begun s []));
}

-- one cycle

given-asked : (asks : Bool) (l0 l1 : Option (List ℕ)) (input : Option ℕ) (more : List (Option ℕ)) → GivesWhere asks l0 l1 input → given asks (asked_for asks input ++ more) ≡ input
given-asked true l0 l1 input more gives = refl
given-asked false l0 l1 input more gives = sym gives.1

left_over-asked : (asks : Bool) (input : Option ℕ) (more : List (Option ℕ)) → left_over asks (asked_for asks input ++ more) ≡ more
left_over-asked true input more = refl
left_over-asked false input more = refl

pub Ran-one : (old new : MachineState) (t0 t1 : Told) (tick : Ticked old new t0 t1 (Ok Went)) → RanCycles 1 old new t0 t1 (asked_for (asks_input old) tick.1)
Ran-one old new t0 t1 tick = let answers = asked_for (asks_input old) tick.1 in record {
  state = λ more. ap (λ answer. cycle_of answer old) (given-asked (asks_input old) t0.left t1.left tick.1 more tick.3.left) ∙ sym tick.2;
  left = λ more. left_over-asked (asks_input old) tick.1 more;
  device = Attended-trans t0 t0 t1 [] answers [] (output_of old) _ [] (seen_of old ∷ []) _ [] (notes_of old) _
      (Attended-refl t0) (Attended-one t0 t1 (asks_input old) tick.1 (output_of old) (seen_of old ∷ []) (notes_of old) tick.3 tick.4)
      (output_during-one (begun old answers)) (seen_during-one (begun old answers)) (notes_during-one (begun old answers));
}

-- cycles after others

-- where the scene stands after the cycles so far
run-parts : (m : ℕ) (old mid : MachineState) (t0 t1 : Told) (earlier later : List (Option ℕ)) → RanCycles m old mid t0 t1 earlier
    → run m (begun old (earlier ++ later)) ≡ after_output (run m (begun old (earlier ++ later))).output (begun mid later)
run-parts m old mid t0 t1 earlier later first = scene_is (run m (begun old (earlier ++ later))) mid later (run m (begun old (earlier ++ later))).output (first.state later) (first.left later) refl

module _ (m n : ℕ) (old mid new : MachineState) (t0 t1 t2 : Told) (earlier later : List (Option ℕ)) (first : RanCycles m old mid t0 t1 earlier) (second : RanCycles n mid new t1 t2 later) where
  pub run-both : (more : List (Option ℕ)) → run (m + n) (begun old ((earlier ++ later) ++ more)) ≡ after_output (run m (begun old (earlier ++ (later ++ more)))).output (run n (begun mid (later ++ more)))
  run-both more =
      let start = begun old (earlier ++ (later ++ more)) in
      ap (λ (answers : List (Option ℕ)). run (m + n) (begun old answers)) (append_assoc earlier later more)
      ∙ run-add m n start
      ∙ run-begun n (run m start)
      ∙ ap (λ (s : MachineState). after_output (run m start).output (run n (begun s (run m start).answers))) (first.state (later ++ more))
      ∙ ap (λ (answers : List (Option ℕ)). after_output (run m start).output (run n (begun mid answers))) (first.left (later ++ more))

  uses_first : UsesUp (m + 0) (begun old earlier)
  uses_first = λ more. ap (λ k. (run k (begun old (earlier ++ more))).answers) (add-zero m) ∙ first.left more

  output-both : output_during (m + n) (begun old (earlier ++ later)) ≡ output_during m (begun old earlier) ++ output_during n (begun mid later)
  output-both =
      output_during-add m n (begun old (earlier ++ later))
      ∙ ap (λ out. out ++ output_during n (run m (begun old (earlier ++ later)))) (output_during-followed m 0 (begun old earlier) uses_first later)
      ∙ ap (λ (c : Scene). output_during m (begun old earlier) ++ output_during n c) (run-parts m old mid t0 t1 earlier later first)
      ∙ ap (λ out. output_during m (begun old earlier) ++ out) (output_during-after_output n (run m (begun old (earlier ++ later))).output (begun mid later))

  seen-both : seen_during (m + n) (begun old (earlier ++ later)) ≡ seen_during m (begun old earlier) ++ seen_during n (begun mid later)
  seen-both =
      seen_during-add m n (begun old (earlier ++ later))
      ∙ ap (λ seen. seen ++ seen_during n (run m (begun old (earlier ++ later)))) (seen_during-followed m 0 (begun old earlier) uses_first later)
      ∙ ap (λ (c : Scene). seen_during m (begun old earlier) ++ seen_during n c) (run-parts m old mid t0 t1 earlier later first)
      ∙ ap (λ seen. seen_during m (begun old earlier) ++ seen) (seen_during-after_output n (run m (begun old (earlier ++ later))).output (begun mid later))

  notes-both : notes_during (m + n) (begun old (earlier ++ later)) ≡ notes_during m (begun old earlier) ++ notes_during n (begun mid later)
  notes-both =
      notes_during-add m n (begun old (earlier ++ later))
      ∙ ap (λ notes. notes ++ notes_during n (run m (begun old (earlier ++ later)))) (notes_during-followed m 0 (begun old earlier) uses_first later)
      ∙ ap (λ (c : Scene). notes_during m (begun old earlier) ++ notes_during n c) (run-parts m old mid t0 t1 earlier later first)
      ∙ ap (λ notes. notes_during m (begun old earlier) ++ notes) (notes_during-after_output n (run m (begun old (earlier ++ later))).output (begun mid later))

pub Ran-add : StepsAddUp
Ran-add m n old mid new t0 t1 t2 earlier later first second = record {
  state = λ more. ap (λ (c : Scene). c.state) (run-both m n old mid new t0 t1 t2 earlier later first second more) ∙ second.state more;
  left = λ more. ap (λ (c : Scene). c.answers) (run-both m n old mid new t0 t1 t2 earlier later first second more) ∙ second.left more;
  device = Attended-trans t0 t1 t2 earlier later _ _ _ _ _ _ _ _ _ first.device second.device
      (output-both m n old mid new t0 t1 t2 earlier later first second) (seen-both m n old mid new t0 t1 t2 earlier later first second) (notes-both m n old mid new t0 t1 t2 earlier later first second);
}

-- What a run's states are doesn't hang on the answers behind it.

pub Ran-state : (i k : ℕ) (old new : MachineState) (t0 t1 : Told) (answers : List (Option ℕ)) → RanCycles (i + k) old new t0 t1 answers → (more : List (Option ℕ))
    → (run i (begun old (answers ++ more))).state ≡ (run i (begun old answers)).state
Ran-state i k old new t0 t1 answers far more = state-followed i k (begun old answers) far.left more

-- and the last is where it ends
pub Ran-end : (n : ℕ) (old new : MachineState) (t0 t1 : Told) (answers : List (Option ℕ)) → RanCycles n old new t0 t1 answers → (run n (begun old answers)).state ≡ new
Ran-end n old new t0 t1 answers far = ap (λ (all : List (Option ℕ)). (run n (begun old all)).state) (sym (append-nil answers)) ∙ far.state []

-- What a run puts out doesn't hang on the answers behind it either, nor on what was put out before.
pub Ran-output : (n : ℕ) (old new : MachineState) (t0 t1 : Told) (answers more : List (Option ℕ)) (before : List ℕ) → RanCycles n old new t0 t1 answers
    → output_during n (record { state = old; answers = answers ++ more; output = before }) ≡ output_during n (begun old answers)
Ran-output n old new t0 t1 answers more before far =
    let uses : UsesUp (n + 0) (begun old answers) = λ others. ap (λ k. (run k (begun old (answers ++ others))).answers) (add-zero n) ∙ far.left others in
    output_during-after_output n before (begun old (answers ++ more)) ∙ output_during-followed n 0 (begun old answers) uses more

-- The invariant of a step: some cycles were done, none of which came to a boundary.
pub record Underway (old new : MachineState) (told told' : Told) : Type 0 where
  pub cycles : ℕ
  pub answers : List (Option ℕ)
  pub ran : RanCycles cycles old new told told' answers
  pub quiet : HasNoBoundary (suc cycles) old answers
  pub clock : new.clock ≡ old.clock + cycles
  pub running : new.halt ≡ Running

pub underway_none : (s : MachineState) (told : Told) → s.halt ≡ Running → Underway s s told told
underway_none s told running = record {
  cycles = 0;
  answers = [];
  ran = Ran-none s told;
  quiet = λ i below. absurd (omega arith);
  clock = sym (add-zero s.clock);
  running = running;
}

pub below_or_from : (k n : ℕ) → (k < n) ⊎ (n ≤ k)
below_or_from k zero = inr (omega arith)
below_or_from zero (suc n) = inl (omega arith)
below_or_from (suc k) (suc n) = ⊎_elim (λ below. inl (omega (arith, below))) (λ from. inr (omega (arith, from))) (below_or_from k n)

-- no boundary on the way, also where further answers stand behind
quiet_more : (n : ℕ) (old mid : MachineState) (t0 t1 : Told) (answers more : List (Option ℕ)) → RanCycles n old mid t0 t1 answers → HasNoBoundary (suc n) old answers → HasNoBoundary (suc n) old (answers ++ more)
quiet_more n old mid t0 t1 answers more far quiet i below =
    let R : ℕ → Type 0 = λ k. RanCycles k old mid t0 t1 answers in
    let whole : n ≡ suc i + (n - suc i) = omega arith in
    ap at_boundary (Ran-state (suc i) (n - suc i) old mid t0 t1 answers (subst R whole far) more) ∙ quiet i below

-- and after one more that comes to none
quiet_on : (n : ℕ) (old new : MachineState) (answers : List (Option ℕ)) → HasNoBoundary (suc n) old answers → (run (n + 1) (begun old answers)).state ≡ new → at_boundary new ≡ false → HasNoBoundary (suc (n + 1)) old answers
quiet_on n old new answers quiet ends none i below =
    ⊎_elim
    (λ early. quiet i (omega (arith, early)))
    (λ from.
    let last : suc i ≡ n + 1 = omega (arith, from, below) in
    ap (λ k. at_boundary (run k (begun old answers)).state) last ∙ ap at_boundary ends ∙ none)
    (below_or_from i n)

running_off : (h : Halt) (b : Bool) → (if is_running h then b else true) ≡ false → h ≡ Running
running_off Running b none = refl
running_off Ended b none = cc
running_off Uncaught b none = cc

pub underway_on : (old mid new : MachineState) (t0 t1 t2 : Told) → Underway old mid t0 t1 → Ticked mid new t1 t2 (Ok Went) → new.clock ≡ mid.clock + 1 → at_boundary new ≡ false → Underway old new t0 t2
underway_on old mid new t0 t1 t2 far tick clock none =
    let last = asked_for (asks_input mid) tick.1 in
    let ran = Ran-add far.cycles 1 old mid new t0 t1 t2 far.answers last far.ran (Ran-one mid new t1 t2 tick) in
    record {
      cycles = far.cycles + 1;
      answers = far.answers ++ last;
      ran = ran;
      quiet = quiet_on far.cycles old new (far.answers ++ last) (quiet_more far.cycles old mid t0 t1 far.answers last far.ran far.quiet) (Ran-end (far.cycles + 1) old new t0 t2 (far.answers ++ last) ran) none;
      clock = omega (arith, far.clock, clock);
      running = running_off new.halt _ none;
    }

pub arrived : (old mid new : MachineState) (t0 t1 t2 : Told) → Underway old mid t0 t1 → Ticked mid new t1 t2 (Ok Went) → at_boundary new ≡ true → Arrived old new t0 t2
arrived old mid new t0 t1 t2 far tick boundary =
    let last = asked_for (asks_input mid) tick.1 in
    let quiet = quiet_more far.cycles old mid t0 t1 far.answers last far.ran far.quiet in
    record {
      cycles = far.cycles + 1;
      positive = omega arith;
      answers = far.answers ++ last;
      ran = Ran-add far.cycles 1 old mid new t0 t1 t2 far.answers last far.ran (Ran-one mid new t1 t2 tick);
      boundary = boundary;
      quiet = λ i below. quiet i (omega (arith, below));
    }

-- the answers of a device are bytes, or the end
pub are_given : (old new : Option (List ℕ)) (answers : List (Option ℕ)) → GivesEach old new answers → AreGiven answers
are_given old new [] h = tt
are_given old new (answer ∷ answers) h = (h.1.0, are_given h.0 new answers h.2)

pub given_so_far : (old mid : MachineState) (t0 t1 : Told) → (far : Underway old mid t0 t1) → AreGiven far.answers
given_so_far old mid t0 t1 far = are_given t0.left t1.left far.answers far.ran.device.left

-- a boundary that is known to come is still to come
pub still_below : (old mid : MachineState) (t0 t1 : Told) → (far : Underway old mid t0 t1) → (ends : EndsSoon old) → far.cycles ≤ (ends far.answers (given_so_far old mid t0 t1 far)).after
still_below old mid t0 t1 far ends =
    let soon = ends far.answers (given_so_far old mid t0 t1 far) in
    ⊎_elim
    (λ past. absurd (let clash : false ≡ true = sym (far.quiet soon.after (omega (arith, past))) ∙ soon.boundary in cc))
    (λ from. from)
    (below_or_from soon.after far.cycles)

pub clock_below : (old mid : MachineState) (t0 t1 : Told) → Underway old mid t0 t1 → EndsSoon old → old.clock < 2 ^ 63 → mid.clock < 2 ^ 63 + 2 ^ 62
clock_below old mid t0 t1 far ends start =
    let soon = (ends far.answers (given_so_far old mid t0 t1 far)).soon in
    omega (arith, still_below old mid t0 t1 far ends, soon, far.clock)

-- A machine that runs hasn't halted: a cycle that is answered was done.
pub was_done : (old new : MachineState) (t0 t1 : Told) (tick : Tick) → old.halt ≡ Running → Ticked old new t0 t1 (Ok tick) → tick ≡ Went
was_done old new t0 t1 Went running ticked = refl
was_done old new t0 t1 HasHalted running ticked = absurd (ticked.0 running)

pub done_so : (old new : MachineState) (t0 t1 : Told) (tick : Tick) → old.halt ≡ Running → Ticked old new t0 t1 (Ok tick) → Ticked old new t0 t1 (Ok Went)
done_so old new t0 t1 Went running ticked = ticked
done_so old new t0 t1 HasHalted running ticked = absurd (ticked.0 running)

-- a call on the device that failed on the way
pub broke : (old mid new : MachineState) (t0 t1 t2 : Told) (fault : DeviceFault) → Underway old mid t0 t1 → new ≡ mid → Ticked mid new t1 t2 (Err fault) → Broke old new t0 t2 fault
broke old mid new t0 t1 t2 fault far same ticked =
    let T : MachineState → Type 0 = λ s. Ticked s new t1 t2 (Err fault) in
    let R : MachineState → Type 0 = λ s. RanCycles far.cycles old s t0 t1 far.answers in
    record { cycles = far.cycles; answers = far.answers; before = t1; ran = subst R (sym same) far.ran; quiet = far.quiet; tried = subst T (sym same) ticked }

-- it leaves the machine
pub same_after : (old new : MachineState) (t0 t1 : Told) (fault : DeviceFault) → Ticked old new t0 t1 (Err fault) → new ≡ old
same_after old new t0 t1 Input ticked = ticked.1
same_after old new t0 t1 Output ticked = ticked.1
same_after old new t0 t1 Seen ticked = ticked.1
