-- What the machine does from an instruction or a raise on, by where it then stands.
use Rattle.std.proofs.Common.{◌≡◌, ◌≢◌, ℕ, ◌+◌, ◌≤◌, List, [], ◌∷◌, ◌++◌, length, Option, Some, refl, sym, ◌∙◌, ap, subst, arith, append-nil, length-append, ◌⊎◌, inl, inr}
use Rattle.std.proofs.lemmas.List.{append_cancel_left}
use Rattle.micro_sketch.proofs.Breaking.{empty}
use Rattle.micro_flow.specs.Closed.{RaiseApart}
use Rattle.microcode.specs.declared.TheConstants.{RAISE}
use Rattle.jop_core.specs.declared.halt.Halt.TheVariants as halts
use Rattle.device_traits.specs.declared.fault.DeviceFault.{DeviceFault}
use Rattle.device_traits.specs.declared.fault.DeviceFault.TheVariants as faults
use Rattle.jop_core.specs.State as machine
use Rattle.jop_core.specs.Cycle.{output_of}
use Rattle.jop_core.specs.Scene.{begun, output_during, first_of}
use Rattle.device_traits.specs.Told.{Told, GivesEach}
use Rattle.micro_sketch.specs.Ends.{AreGiven}
use Rattle.micro_sketch.specs.Step.{RanCycles, Arrived, Broke}
use Rattle.micro_sketch.specs.StepLaws.{AreRunLaws}
use Rattle.bytecode_typing.specs.Fits.{IsGoing}
use Rattle.bytecode_model.specs.State.{State}
use Rattle.bytecode_model.specs.Steps.{step}
use Rattle.bytecode_model.specs.WellFormed.{IsInput}
use Rattle.machine_stands.specs.StandsFor.{StandsFor}
use Rattle.boundary.specs.declared.answer.Boundary.TheVariants as answers
use Rattle.boundary.specs.Answers.{answer_of, answer_at_end}
use Rattle.boundary.specs.Setting.{Setting, limits, IsSetting, Stands}
use Rattle.boundary.specs.Session.{IsAtStep, HasEnded, EndsWith}
use Rattle.boundary.specs.Advances.{Advances, ReachesBoundary, AfterStep, FailsToRead, FailsToWrite, FailsToShow, FailsOnDevice}
use Rattle.boundary.specs.StageLaws.{NextStage, StagesAdvance, StagesAgree}
use Rattle.boundary.proofs.Obeys.{Sort, Plain, Takes, Puts, Obeys, StepSort, step_sort}
use Rattle.boundary.proofs.Landings.{comes_lands, arrived_lands, meets, Within, same_landing, broke_within}
use Rattle.boundary.proofs.Faults.{same_read, same_write}
use Rattle.boundary.proofs.Stages.{some_in, goes_alike, running_here, raising_here, first_given, taken_of}

are_given : (old new : Option (List ℕ)) (answers : List (Option ℕ)) → GivesEach old new answers → AreGiven answers
are_given old new [] h = tt
are_given old new (answer ∷ answers) h = (h.1.0, are_given h.0 new answers h.2)

-- ---- lists

some_byte : (xs : List ℕ) → xs ≢ [] → 1 ≤ length xs
some_byte [] h = absurd (h refl)
some_byte (x ∷ xs) h = omega arith

-- the parts of a list of one byte, of which the middle one is there
pub record IsMiddle (byte : ℕ) (part middle : List ℕ) : Type 0 where
  pub none : part ≡ []
  pub is : middle ≡ byte ∷ []

middle_is : (byte : ℕ) (part middle rest : List ℕ) → byte ∷ [] ≡ part ++ (middle ++ rest) → middle ≢ [] → IsMiddle byte part middle
middle_is byte part middle rest e some =
    let counts : 1 ≡ length part + (length middle + length rest) = ap length e ∙ length-append part (middle ++ rest) ∙ ap (λ k. length part + k) (length-append middle rest) in
    let here = some_byte middle some in
    let none : part ≡ [] = empty part (omega (arith, counts, here)) in
    let behind : rest ≡ [] = empty rest (omega (arith, counts, here)) in
    record { none = none; is = sym (e ∙ ap (λ (p : List ℕ). p ++ (middle ++ rest)) none ∙ ap (λ (q : List ℕ). middle ++ q) behind ∙ append-nil middle) }

-- nothing has no part
no_part : (part middle rest : List ℕ) → [] ≡ part ++ (middle ++ rest) → (part ≡ []) × (middle ≡ [])
no_part part middle rest e =
    let counts : 0 ≡ length part + (length middle + length rest) = ap length e ∙ length-append part (middle ++ rest) ∙ ap (λ k. length part + k) (length-append middle rest) in
    (empty part (omega (arith, counts)), empty middle (omega (arith, counts)))

-- what is given is the first of what is taken
given_first : (taken given : List (Option ℕ)) → (taken ≡ []) ⊎ (taken ≡ first_of given ∷ []) → length given ≤ length taken → (other : List (Option ℕ)) × (taken ≡ given ++ other)
given_first taken given (inl none) few = ([], none ∙ sym (empty given (omega (arith, ap (λ (xs : List (Option ℕ)). length xs) none, few))) ∙ sym (append-nil given))
given_first taken [] (inr one) few = (taken, refl)
given_first taken (x ∷ []) (inr one) few = ([], one)
given_first taken (x ∷ y ∷ ys) (inr one) few = absurd (omega (arith, ap (λ (xs : List (Option ℕ)). length xs) one, few))

-- ---- the machine

module _ (advance : StagesAdvance) (agree : StagesAgree) (runs : AreRunLaws) (apart : RaiseApart) (old : machine.MachineState) (here : IsAtStep old) (g : Setting) (s : State) (is : IsSetting g) (st : Stands g old s) where
  going : IsGoing s.mode
  going = goes_alike s.mode here.state.mode (agree old here g s is st) here.going

  -- ---- at a boundary

  pub record Arrival (new : machine.MachineState) (t0 t1 : Told) : Type 0 where
    pub advances : Advances g s old new t0 t1
    pub stands : StandsFor g.program g.places g.chip g.memory new advances.next

  pub arrival : (new : machine.MachineState) (t0 t1 : Told) → Arrived old new t0 t1 → Arrival new t0 t1
  arrival new t0 t1 a =
      let answer = first_of a.answers in
      let byte = first_given a.answers (are_given t0.left t1.left a.answers a.ran.device.left) in
      let n = advance g old s is st going answer byte in
      let c = n.comes in
      let same = same_landing runs old c.new new c.answers a.answers c.cycles a.cycles (comes_lands g.program g.places g.chip g.memory old s n.next c) (arrived_lands old new t0 t1 a) (meets c.answers a.answers (taken_of g old s answer going n)) in
      let A : List (Option ℕ) → Type 0 = λ xs. RanCycles a.cycles old new t0 t1 xs in
      let C : ℕ → Type 0 = λ k. RanCycles k old new t0 t1 c.answers in
      let S : machine.MachineState → Type 0 = λ m. StandsFor g.program g.places g.chip g.memory m n.next in
      record {
        advances = record { answer = answer; byte = byte; next = n.next; is_next = n.is_next; fits = n.fits; comes = c; answer_is = ap first_of (sym same.answers_are); new_is = same.new_is; ran = subst C (sym same.cycles_are) (subst A (sym same.answers_are) a.ran) };
        stands = subst S same.new_is c.stands;
      }

  pub next_reached : (new : machine.MachineState) (t0 t1 : Told) → Arrived old new t0 t1 → new.halt ≡ halts.Running → new.mpc ≢ RAISE → ReachesBoundary g s old new t0 t1 answers.Bytecode
  next_reached new t0 t1 a running other =
      let r = arrival new t0 t1 a in
      (r.advances, ap answer_of (running_here apart g new r.advances.next running other r.stands r.advances.next.mode refl))

  pub raise_reached : (new : machine.MachineState) (t0 t1 : Told) → Arrived old new t0 t1 → new.halt ≡ halts.Running → new.mpc ≡ RAISE → ReachesBoundary g s old new t0 t1 answers.Raise
  raise_reached new t0 t1 a running at_raise =
      let r = arrival new t0 t1 a in
      (r.advances, raising_here apart g new r.advances.next is running at_raise r.stands r.advances.next.mode refl)

  -- each state for which the machine stands that has halted has ended so
  pub end_reached : (new : machine.MachineState) (t0 t1 : Told) (class : Option ℕ) → Arrived old new t0 t1 → EndsWith new class → (r : Advances g s old new t0 t1) × (answer_of r.next.mode ≡ answer_at_end class)
  end_reached new t0 t1 class a ends =
      let r = arrival new t0 t1 a in
      (r.advances, ends g r.advances.next is (record { stands = r.stands; fits = r.advances.fits }))

  pub has_ended : (new : machine.MachineState) (t0 t1 : Told) → Arrived old new t0 t1 → new.halt ≢ halts.Running → HasEnded new
  has_ended new t0 t1 a halted =
      let r = arrival new t0 t1 a in
      record { setting = g; is_setting = is; state = r.advances.next; stands = record { stands = r.stands; fits = r.advances.fits }; halted = halted }

  -- ---- where a call on the device failed

  -- the step for what was answered before, of which the way that broke off is a part
  pub record Break (new : machine.MachineState) (t0 t1 : Told) (fault : DeviceFault) (b : Broke old new t0 t1 fault) : Type 0 where
    pub byte : IsInput (first_of b.answers)
    pub next : NextStage g old s (first_of b.answers)
    pub within : Within next.comes.answers b.answers (output_during next.comes.cycles (begun old next.comes.answers)) (output_during b.cycles (begun old b.answers)) next.comes.cycles b.cycles new

  break_off : (new : machine.MachineState) (t0 t1 : Told) (fault : DeviceFault) (b : Broke old new t0 t1 fault) → Break new t0 t1 fault b
  break_off new t0 t1 fault b =
      let answer = first_of b.answers in
      let byte = first_given b.answers (are_given t0.left b.before.left b.answers b.ran.device.left) in
      let n = advance g old s is st going answer byte in
      let c = n.comes in
      record {
        byte = byte;
        next = n;
        within = broke_within runs old c.new new t0 t1 fault c.answers c.cycles b (comes_lands g.program g.places g.chip g.memory old s n.next c) (meets c.answers b.answers (taken_of g old s answer going n));
      }

  -- what the step puts out on the whole way
  whole_output : (answer : Option ℕ) (n : NextStage g old s answer) (out : List ℕ) → n.next.output ≡ s.output ++ out → output_during n.comes.cycles (begun old n.comes.answers) ≡ out
  whole_output answer n out h = append_cancel_left s.output _ out (sym n.comes.put ∙ h)

  no_output : (answer : Option ℕ) (n : NextStage g old s answer) → n.next.output ≡ s.output → output_during n.comes.cycles (begun old n.comes.answers) ≡ []
  no_output answer n h = whole_output answer n [] (h ∙ sym (append-nil s.output))

  no_answers : (answer : Option ℕ) (n : NextStage g old s answer) → n.next.answers ≡ s.answers → n.comes.answers ≡ []
  no_answers answer n h = append_cancel_left s.answers n.comes.answers [] (sym n.comes.took ∙ h ∙ sym (append-nil s.answers))

  after_each : (K : Option ℕ → State → Type 0) → ((answer : Option ℕ) (t : State) → step g.program (limits g) answer s ≡ Some t → K answer t) → AfterStep g s K
  after_each K each answer byte =
      let n = advance g old s is st going answer byte in
      some_in (step g.program (limits g) answer s) n.next (K answer) n.is_next (each answer n.next n.is_next)

  nothing_put : (new : machine.MachineState) (t0 t1 : Told) (fault : DeviceFault) (b : Broke old new t0 t1 fault) → b.answers ≡ [] → output_during b.cycles (begun old b.answers) ≡ [] → output_during b.cycles (begun old []) ≡ []
  nothing_put new t0 t1 fault b none put = ap (λ (xs : List (Option ℕ)). output_during b.cycles (begun old xs)) (sym none) ∙ put

  -- the machine is where it was
  still : (new : machine.MachineState) → new ≡ old → Stands g new s
  still new same = subst (λ (m : machine.MachineState). Stands g m s) (sym same) st

  write_failed : (new : machine.MachineState) (t0 t1 : Told) → Broke old new t0 t1 faults.Output → FailsToWrite g s old new t0 t1
  write_failed new t0 t1 b = by_sort (step_sort g.program (limits g) s going) (break_off new t0 t1 faults.Output b)
    where
      silent : (r : Break new t0 t1 faults.Output b) → r.next.next.output ≡ s.output → FailsToWrite g s old new t0 t1
      silent r h = absurd (b.tried.4 (no_part _ (output_of new) r.within.rest (sym (no_output (first_of b.answers) r.next h) ∙ r.within.output)).1)

      on : (sort : Sort) → ((answer : Option ℕ) (t : State) → step g.program (limits g) answer s ≡ Some t → Obeys sort answer s t) → (r : Break new t0 t1 faults.Output b) → FailsToWrite g s old new t0 t1
      on Plain obeys r = silent r (obeys (first_of b.answers) r.next.next r.next.is_next).1
      on Takes obeys r = silent r (obeys (first_of b.answers) r.next.next r.next.is_next).1
      on (Puts byte) obeys r =
          let did = obeys (first_of b.answers) r.next.next r.next.is_next in
          let whole = whole_output (first_of b.answers) r.next (byte ∷ []) did.1 in
          let middle = middle_is byte _ (output_of new) r.within.rest (sym whole ∙ r.within.output) b.tried.4 in
          let taken = no_answers (first_of b.answers) r.next did.0 in
          let none : b.answers ≡ [] = empty b.answers (omega (arith, r.within.fewer, ap (λ (xs : List (Option ℕ)). length xs) taken)) in
          record {
            broke = b;
            answers = none;
            output = nothing_put new t0 t1 faults.Output b none middle.none;
            puts = after_each (λ answer t. t.output ≡ s.output ++ output_of new) (λ answer t h. (obeys answer t h).1 ∙ ap (λ (out : List ℕ). s.output ++ out) (sym middle.is));
            same = same_write g.program g.places s st.stands.top st.stands.body s.mode going old st.stands.at new t0 t1 b;
            stands = still new (same_write g.program g.places s st.stands.top st.stands.body s.mode going old st.stands.at new t0 t1 b);
          }

      by_sort : StepSort g.program (limits g) s → Break new t0 t1 faults.Output b → FailsToWrite g s old new t0 t1
      by_sort sort r = on sort.sort sort.obeys r

  read_failed : (new : machine.MachineState) (t0 t1 : Told) → Broke old new t0 t1 faults.Input → FailsToRead g s old new t0 t1
  read_failed new t0 t1 b = by_sort (step_sort g.program (limits g) s going) (break_off new t0 t1 faults.Input b)
    where
      unasked : (r : Break new t0 t1 faults.Input b) → r.next.next.answers ≡ s.answers → FailsToRead g s old new t0 t1
      unasked r h = absurd (omega (arith, r.within.asks b.tried.4, ap (λ (xs : List (Option ℕ)). length xs) (no_answers (first_of b.answers) r.next h)))

      on : (sort : Sort) → ((answer : Option ℕ) (t : State) → step g.program (limits g) answer s ≡ Some t → Obeys sort answer s t) → (r : Break new t0 t1 faults.Input b) → FailsToRead g s old new t0 t1
      on Plain obeys r = unasked r (obeys (first_of b.answers) r.next.next r.next.is_next).0
      on (Puts byte) obeys r = unasked r (obeys (first_of b.answers) r.next.next r.next.is_next).0
      on Takes obeys r =
          let did = obeys (first_of b.answers) r.next.next r.next.is_next in
          let taken : r.next.comes.answers ≡ first_of b.answers ∷ [] = append_cancel_left s.answers r.next.comes.answers (first_of b.answers ∷ []) (sym r.next.comes.took ∙ did.0) in
          let none : b.answers ≡ [] = empty b.answers (omega (arith, r.within.asks b.tried.4, ap (λ (xs : List (Option ℕ)). length xs) taken)) in
          record {
            broke = b;
            answers = none;
            output = nothing_put new t0 t1 faults.Input b none (no_part _ (output_of new) r.within.rest (sym (no_output (first_of b.answers) r.next did.1) ∙ r.within.output)).0;
            takes = after_each (λ answer t. t.answers ≡ s.answers ++ answer ∷ []) (λ answer t h. (obeys answer t h).0);
            same = same_read g.program g.places s st.stands.top st.stands.body s.mode going old st.stands.at new t0 t1 b;
            stands = still new (same_read g.program g.places s st.stands.top st.stands.body s.mode going old st.stands.at new t0 t1 b);
          }

      by_sort : StepSort g.program (limits g) s → Break new t0 t1 faults.Input b → FailsToRead g s old new t0 t1
      by_sort sort r = on sort.sort sort.obeys r

  show_failed : (new : machine.MachineState) (t0 t1 : Told) → Broke old new t0 t1 faults.Seen → FailsToShow g s old new t0 t1
  show_failed new t0 t1 b =
      let r = break_off new t0 t1 faults.Seen b in
      let n = r.next in
      let (other, is_taken) = given_first n.comes.answers b.answers (taken_of g old s (first_of b.answers) going n) r.within.fewer in
      record {
        broke = b;
        part = record {
          answer = first_of b.answers;
          byte = r.byte;
          next = n.next;
          is_next = n.is_next;
          other_answers = other;
          took = n.comes.took ∙ ap (λ (xs : List (Option ℕ)). s.answers ++ xs) is_taken;
          other_output = output_of new ++ r.within.rest;
          put = n.comes.put ∙ ap (λ (out : List ℕ). s.output ++ out) r.within.output;
        };
      }

  pub call_failed : (fault : DeviceFault) (new : machine.MachineState) (t0 t1 : Told) → Broke old new t0 t1 fault → FailsOnDevice g fault s old new t0 t1
  call_failed faults.Input new t0 t1 b = read_failed new t0 t1 b
  call_failed faults.Output new t0 t1 b = write_failed new t0 t1 b
  call_failed faults.Seen new t0 t1 b = show_failed new t0 t1 b
