-- The next boundary comes soon.
use Rattle.std.proofs.Common.{◌≡◌, ℕ, zero, suc, ◌+◌, ◌-◌, ◌^◌, ◌<◌, ◌≤◌, Bool, true, false, List, [], ◌∷◌, ◌++◌, length, Option, Some, None, Result, Ok, Err, refl, sym, ◌∙◌, ap, subst, arith, append-nil, length-append, ◌⊎◌, inl, inr, ⊎_elim}
use Rattle.std.specs.Prelude.{IfSome, IsSomeAnd, nat_le, nat_lt, if◌then◌else◌, slice_get}
use Rattle.std.specs.List.{flat_map}
use Rattle.std.proofs.Math.Nat.{mul-le-mul}
use Rattle.lists.proofs.Lemmas.{onto_some}
use Rattle.base.specs.Packed.{words_for, words_of_bytes, PackedHasWords}
use Rattle.method_cache.specs.Contents.{is_cached}
use Rattle.micro_flow.specs.Walk.{IsCost}
use Rattle.micro_flow.specs.Costs.{CostsAreSmall, RaiseIsSmall}
use Rattle.opcodes.specs.declared.instruction.Instr.{Instr}
use Rattle.opcodes.specs.declared.instruction.DecodeFault.{DecodeFault}
use Rattle.opcodes.specs.declared.instruction.DecodeFault.TheVariants.{Short}
use Rattle.opcodes.specs.Bytes.{u1}
use Rattle.opcodes.specs.Form.{Form, NotAnOpcode, Fixed, Widened, TableSwitch, LookupSwitch, Wide}
use Rattle.opcodes.specs.Row as opcodes
use Rattle.opcodes.specs.Instruction.{decoded, within, spelled_at, widened_at, fixed_at, table_switch_at, lookup_switch_at}
use Rattle.opcodes.specs.Target.{WholeIsWithin}
use Rattle.jop_core.specs.State as machine
use Rattle.jop_core.specs.Cycle.{at_boundary, asks_input, cycle_of, output_of}
use Rattle.jop_core.specs.Scene.{Scene, begun, run, given, left_over, first_of}
use Rattle.micro_sketch.specs.StepLaws.{followed_by}
use Rattle.bytecode_model.specs.declared.Ending.{Ending}
use Rattle.bytecode_model.specs.declared.Ending.TheVariants.{Running, Raising, Ended, Uncaught}
use Rattle.bytecode_model.specs.Lists.{onto}
use Rattle.bytecode_model.specs.State.{Frame, State}
use Rattle.bytecode_model.specs.Program.{Program, Body, Handler, body_of, as_instr, instr_at}
use Rattle.bytecode_model.specs.Table.{row_of}
use Rattle.bytecode_model.specs.Effects.{effect}
use Rattle.bytecode_model.specs.Steps.{step, step_in, row_at, applied}
use Rattle.bytecode_typing.specs.Fits.{IsGoing}
use Rattle.bytecode_typing.specs.Laws.{FittingStatesAreWellFormed}
use Rattle.image_facts.specs.Says.{IsCode, SaysAll, SaysLinked, handler_words, method_words}
use Rattle.machine_stands.specs.Fixed.{FixedWordsAreRead}
use Rattle.machine_stands.specs.StandsFor.{StandsFor}
use Rattle.machine_stands.specs.Comes.{params, IsFrameCost, IsTopCost, IsStepCost, Found, LooksUp, found_by}
use Rattle.boundary.specs.Setting.{Setting, limits, IsSetting, Stands}
use Rattle.boundary.specs.Session.{HasWaits}
use Rattle.boundary.specs.StageLaws.{StagesAdvance, StagesEndSoon}
use Rattle.boundary.proofs.Stages.{some_in, code_of, linked_at, first_given, taken_of}

-- ---- the cases of a switch are few

ok_same : (i j : Instr) → ◌≡◌ {A = Result Instr DecodeFault} (Ok i) (Ok j) → i ≡ j
ok_same i j h = cc

within_ok : (code : List ℕ) (pc : ℕ) (i j : Instr) → within code pc (Ok j) ≡ Ok i → j ≡ i
within_ok code pc i j h = test (nat_le (pc + j.length) (length code)) h
  where
    test : (b : Bool) → ◌≡◌ {A = Result Instr DecodeFault} (if b then Ok j else Err Short) (Ok i) → j ≡ i
    test true h = ok_same j i h
    test false h = absurd (cc)

few_cases : (code : List ℕ) (pc : ℕ) (i : Instr) (form : Form) → length code < 2 ^ 16 → WholeIsWithin code pc → decoded code pc ≡ Ok i → (opcodes.row_of (u1 code pc)).form ≡ form → within code pc (spelled_at code pc form) ≡ Ok i → i.count < 2 ^ 32
few_cases code pc i NotAnOpcode short whole is at h = absurd (cc)
few_cases code pc i (Fixed plain) short whole is at h = omega (arith, ap (λ (j : Instr). j.count) (within_ok code pc i (fixed_at code pc false plain) h))
few_cases code pc i (Widened plain widened) short whole is at h = omega (arith, ap (λ (j : Instr). j.count) (within_ok code pc i (fixed_at code pc false plain) h))
few_cases code pc i TableSwitch short whole is at h =
    let same = within_ok code pc i (table_switch_at code pc) h in
    let w = whole i is in
    let ends = w.table_switch (ap (λ (j : Instr). (opcodes.row_of j.op).form) (sym same) ∙ at) in
    omega (arith, ends, w.ends, short)
few_cases code pc i LookupSwitch short whole is at h =
    let same = within_ok code pc i (lookup_switch_at code pc) h in
    let w = whole i is in
    let ends = w.lookup_switch (ap (λ (j : Instr). (opcodes.row_of j.op).form) (sym same) ∙ at) in
    omega (arith, ends, w.ends, short)
few_cases code pc i Wide short whole is at h = here (nat_lt (pc + 1) (length code)) h
  where
    widened : (form : Form) → within code pc (widened_at code pc form) ≡ Ok i → i.count < 2 ^ 32
    widened (Widened plain wider) h = omega (arith, ap (λ (j : Instr). j.count) (within_ok code pc i (fixed_at code pc true wider) h))
    widened NotAnOpcode h = absurd (cc)
    widened (Fixed plain) h = absurd (cc)
    widened TableSwitch h = absurd (cc)
    widened LookupSwitch h = absurd (cc)
    widened Wide h = absurd (cc)

    here : (b : Bool) → within code pc (if b then widened_at code pc (opcodes.row_of (u1 code (pc + 1))).form else Err Short) ≡ Ok i → i.count < 2 ^ 32
    here true h = widened (opcodes.row_of (u1 code (pc + 1))).form h
    here false h = absurd (cc)

count_small : (code : List ℕ) (pc : ℕ) (i : Instr) → length code < 2 ^ 16 → WholeIsWithin code pc → decoded code pc ≡ Ok i → i.count < 2 ^ 32
unfolding decoded
count_small code pc i short whole is = few_cases code pc i (opcodes.row_of (u1 code pc)).form short whole is refl is

-- ---- what the step costs

instr_some : (code : List ℕ) (pc : ℕ) (i : Instr) → as_instr (decoded code pc) ≡ Some i → decoded code pc ≡ Ok i
instr_some code pc i h = by_result (decoded code pc) h
  where
    by_result : (r : Result Instr DecodeFault) → as_instr r ≡ Some i → r ≡ Ok i
    by_result (Ok j) h = let same : j ≡ i = cc in ap Ok same
    by_result (Err e) h = absurd (cc)

-- the instruction of a running state that has a step
pub record HasInstr (P : Program) (f : Frame) (b : Body) : Type 0 where
  pub instr : Instr
  pub is : instr_at P f.method f.pc ≡ Some instr
  pub decodes : decoded b.code f.pc ≡ Ok instr

has_instr : (g : Setting) (m : machine.MachineState) (s t : State) (answer : Option ℕ) (st : StandsFor g.program g.places g.chip g.memory m s) → s.mode ≡ Running → step g.program (limits g) answer s ≡ Some t → HasInstr g.program st.top st.body
has_instr g m s t answer st mode h =
    let P = g.program in
    let f = st.top in
    let here : step_in P (limits g) answer s (f ∷ st.callers) Running ≡ Some t =
    ap (λ fs. step_in P (limits g) answer s fs Running) (sym st.frames) ∙ ap (λ (md : Ending). step_in P (limits g) answer s s.frames md) (sym mode) ∙ h in
    let (x, row, applies) = onto_some (row_at P f) (λ x. applied P (limits g) answer s f st.callers (effect P (limits g) s f x.0 x.1)) t here in
    let (b, body, with_body) = onto_some (body_of P f.method) (λ b. onto (instr_at P f.method f.pc) (λ i. onto (row_of b.code i (P.operand f.method f.pc)) (λ r. Some (f.pc + i.length, r)))) x row in
    let (i, instr, with_instr) = onto_some (instr_at P f.method f.pc) (λ i. onto (row_of b.code i (P.operand f.method f.pc)) (λ r. Some (f.pc + i.length, r))) x with_body in
    let (c, code, decodes) = onto_some (body_of P f.method) (λ c. as_instr (decoded c.code f.pc)) i instr in
    let same : c ≡ st.body = some_body c st.body (sym code ∙ st.is_body) in
    record { instr = i; is = instr; decodes = ap (λ (b : Body). decoded b.code f.pc) (sym same) ∙ instr_some c.code f.pc i decodes }
  where
    some_body : (b c : Body) → Some b ≡ Some c → b ≡ c
    some_body b c h = cc

step_cost : (g : Setting) (m : machine.MachineState) (s : State) (st : StandsFor g.program g.places g.chip g.memory m s) (i : Instr) (c : ℕ) → s.mode ≡ Running → instr_at g.program st.top.method st.top.pc ≡ Some i
    → IsCost (u1 st.body.code st.top.pc) (params m i.count 0) c → IsStepCost g.program m s c
step_cost g m s st i c mode instr cost =
    let P = g.program in
    subst (λ md. IsTopCost P m md s.frames c) (sym mode) (subst (λ fs. IsTopCost P m Running fs c) (sym st.frames)
    (some_in (body_of P st.top.method) st.body (λ b. IsFrameCost P m Running st.top b c) st.is_body
    (some_in (instr_at P st.top.method st.top.pc) i (λ i. IsCost (u1 st.body.code st.top.pc) (params m i.count 0) c) instr cost)))

-- and its look-up stalls

quarter : (n : ℕ) → words_for n ≤ n
quarter n = omega arith

stall_small : PackedHasWords → (g : Setting) (old new : machine.MachineState) (stall : ℕ) (o : Option ℕ) → IsSetting g → old.port.read ≤ 63 → LooksUp g.program g.places o old new stall → stall < 2 ^ 24
stall_small packed g old new stall None is few h = omega (arith, h.0)
stall_small packed g old new stall (Some k) is few h = by_body (body_of g.program k) (is.says.codes k) h
  where
    found : (hit : Bool) (code : List ℕ) → length code < 2 ^ 16 → Found hit (g.places.method k) (words_of_bytes code) old new stall → stall < 2 ^ 24
    found true code short h = omega (arith, h.0)
    found false code short h =
        let words : length (words_of_bytes code) ≤ 65536 = omega (arith, packed code, quarter (length code), short) in
        let waits : 2 + old.port.read ≤ 65 = omega (arith, few) in
        omega (arith, h.0, mul-le-mul words waits)

    by_body : (b : Option Body) → IfSome b (λ b. IsCode b.code) → IsSomeAnd b (λ b. Found (is_cached (g.places.method k) old.cache) (g.places.method k) (words_of_bytes b.code) old new stall) → stall < 2 ^ 24
    by_body None code h = absurd h
    by_body (Some b) code h = found (is_cached (g.places.method k) old.cache) b.code code.short h

-- ---- the end of the input stands behind the last answer

-- the scene after a cycle that asks or doesn't, with these answers left before it
abbrev after_cycle : Scene → (asks : Bool) → List (Option ℕ) → Scene
after_cycle c asks answers = record { state = cycle_of (given asks answers) c.state; answers = left_over asks answers; output = output_of c.state ++ c.output }

abbrev state_after : ℕ → Scene → (asks : Bool) → List (Option ℕ) → machine.MachineState
state_after k c asks answers = (run k (after_cycle c asks answers)).state

end_behind : (k : ℕ) (c : Scene) → (run k (followed_by (None ∷ []) c)).state ≡ (run k c).state
end_behind zero c = refl
end_behind (suc k) c = on (λ d. end_behind k d) (asks_input c.state) c.answers refl refl
  where
    to : (asks : Bool) (answers more : List (Option ℕ)) → asks_input c.state ≡ asks → c.answers ≡ answers → state_after k c (asks_input c.state) (c.answers ++ more) ≡ state_after k c asks (answers ++ more)
    to asks answers more asking are =
        ap (λ (b : Bool). state_after k c b (c.answers ++ more)) asking ∙ ap (λ (xs : List (Option ℕ)). state_after k c asks (xs ++ more)) are

    back : (asks : Bool) (answers : List (Option ℕ)) → asks_input c.state ≡ asks → c.answers ≡ answers → state_after k c asks answers ≡ state_after k c (asks_input c.state) c.answers
    back asks answers asking are =
        sym (ap (λ (b : Bool). state_after k c b c.answers) asking ∙ ap (λ (xs : List (Option ℕ)). state_after k c asks xs) are)

    on : ((d : Scene) → (run k (followed_by (None ∷ []) d)).state ≡ (run k d).state) → (asks : Bool) (answers : List (Option ℕ)) → asks_input c.state ≡ asks → c.answers ≡ answers → state_after k c (asks_input c.state) (c.answers ++ None ∷ []) ≡ state_after k c (asks_input c.state) c.answers
    on behind true [] asking are = to true [] (None ∷ []) asking are ∙ back true [] asking are
    on behind true (x ∷ xs) asking are = to true (x ∷ xs) (None ∷ []) asking are ∙ behind (after_cycle c true (x ∷ xs)) ∙ back true (x ∷ xs) asking are
    on behind false xs asking are = to false xs (None ∷ []) asking are ∙ behind (after_cycle c false xs) ∙ back false xs asking are

-- a run that is at a boundary with an answer more or the end behind is at one without it
pub record ReachesOn (m : machine.MachineState) (answers : List (Option ℕ)) (cycles : ℕ) : Type 0 where
  pub more : List (Option ℕ)
  pub only_end : (more ≡ []) ⊎ (more ≡ None ∷ [])
  pub boundary : at_boundary (run cycles (begun m (answers ++ more))).state ≡ true

boundary_with : (m : machine.MachineState) (answers : List (Option ℕ)) (cycles : ℕ) → ReachesOn m answers cycles → at_boundary (run cycles (begun m answers)).state ≡ true
boundary_with m answers cycles r =
    ⊎_elim
    (λ none. ap (λ (xs : List (Option ℕ)). at_boundary (run cycles (begun m xs)).state) (sym (append-nil answers)) ∙ ap (λ (xs : List (Option ℕ)). at_boundary (run cycles (begun m (answers ++ xs))).state) (sym none) ∙ r.boundary)
    (λ one. ap at_boundary (sym (end_behind cycles (begun m answers))) ∙ ap (λ (xs : List (Option ℕ)). at_boundary (run cycles (begun m (answers ++ xs))).state) (sym one) ∙ r.boundary)
    r.only_end

-- the step takes none of the answers, or the first
reaches_on : (m new : machine.MachineState) (cycles : ℕ) (taken answers : List (Option ℕ)) → (taken ≡ []) ⊎ (taken ≡ first_of answers ∷ []) → ((more : List (Option ℕ)) → (run cycles (begun m (taken ++ more))).state ≡ new) → at_boundary new ≡ true
    → ReachesOn m answers cycles
reaches_on m new cycles taken answers (inl none) ran boundary =
    record { more = []; only_end = inl refl; boundary = ap (λ (xs : List (Option ℕ)). at_boundary (run cycles (begun m xs)).state) (append-nil answers ∙ ap (λ (xs : List (Option ℕ)). xs ++ answers) (sym none)) ∙ ap at_boundary (ran answers) ∙ boundary }
reaches_on m new cycles taken [] (inr one) ran boundary =
    record { more = None ∷ []; only_end = inr refl; boundary = ap (λ (xs : List (Option ℕ)). at_boundary (run cycles (begun m xs)).state) (sym (append-nil (None ∷ [])) ∙ ap (λ (xs : List (Option ℕ)). xs ++ []) (sym one)) ∙ ap at_boundary (ran []) ∙ boundary }
reaches_on m new cycles taken (x ∷ xs) (inr one) ran boundary =
    record { more = []; only_end = inl refl; boundary = ap (λ (ys : List (Option ℕ)). at_boundary (run cycles (begun m (x ∷ ys))).state) (append-nil xs) ∙ ap (λ (ys : List (Option ℕ)). at_boundary (run cycles (begun m (ys ++ xs))).state) (sym one) ∙ ap at_boundary (ran xs) ∙ boundary }

-- ---- a step costs little

-- what is proved of costs, and what bounds the pairs and entries of code
pub record CostLaws : Type 0 where
  pub opcodes : CostsAreSmall
  pub raise : RaiseIsSmall
  pub packed : PackedHasWords
  pub whole : (code : List ℕ) (pc : ℕ) → WholeIsWithin code pc
  pub fixed : FixedWordsAreRead
  pub well : FittingStatesAreWellFormed

pub record SmallStep (g : Setting) (m : machine.MachineState) (s : State) : Type 0 where
  pub cycles : ℕ
  pub is : IsStepCost g.program m s cycles
  pub small : cycles < 2 ^ 61

small_instruction : CostLaws → (g : Setting) (m : machine.MachineState) (s t : State) (answer : Option ℕ) → IsSetting g → Stands g m s → HasWaits m → step g.program (limits g) answer s ≡ Some t → s.mode ≡ Running → SmallStep g m s
small_instruction laws g m s t answer is stage waits has mode =
    let st = stage.stands in
    let code = code_of g m s is st in
    let instr = has_instr g m s t answer st mode has in
    let cost = laws.opcodes (params m instr.instr.count 0) (record { r = waits.read; w = waits.write; pairs = count_small st.body.code st.top.pc instr.instr code.short (laws.whole st.body.code st.top.pc) instr.decodes; entries = omega arith }) (u1 st.body.code st.top.pc) in
    record { cycles = cost.cycles; is = step_cost g m s st instr.instr cost.cycles mode instr.is cost.is; small = cost.small }

-- the entries of an exception table lie in the memory
handlers_long : (P : Program) (hs : List Handler) → length hs ≤ length (flat_map (handler_words P) hs)
handlers_long P [] = omega arith
handlers_long P (h ∷ hs) = omega (arith, handlers_long P hs, length-append (handler_words P h) (flat_map (handler_words P) hs))

few_entries : CostLaws → (g : Setting) (m : machine.MachineState) (s : State) → IsSetting g → (stage : Stands g m s) → g.program.linked ≡ true → length stage.stands.body.handlers < 2 ^ 32
few_entries laws g m s is stage linked =
    let P = g.program in
    let pl = g.places in
    let st = stage.stands in
    let b = st.body in
    let well = laws.well P g.types (limits g) is.typed s stage.fits in
    let says : SaysLinked P pl = subst (λ l. SaysAll l P pl) linked is.says.all in
    let (k, is_method, is_body) = onto_some (slice_get P.methods st.top.method) (λ k. k.body) b st.is_body in
    let said = says.methods st.top.method k b is_method is_body in
    let words = method_words P pl k b in
    let hs = flat_map (handler_words P) b.handlers in
    let long : length words ≡ 4 + (length hs + length (words_of_bytes b.code)) = omega (arith, length-append hs (words_of_bytes b.code)) in
    let last = laws.fixed P pl g.chip g.memory m s (pl.method st.top.method) words (3 + length b.handlers) st well said.words (omega (arith, long, handlers_long P b.handlers)) in
    omega (arith, last.0, st.sizes.small)

small_raise : CostLaws → (g : Setting) (m : machine.MachineState) (s : State) (p : ℕ) → IsSetting g → Stands g m s → HasWaits m → s.mode ≡ Raising p → SmallStep g m s
small_raise laws g m s p is stage waits mode =
    let P = g.program in
    let st = stage.stands in
    let cost = laws.raise (params m 0 (length st.body.handlers)) (record { r = waits.read; w = waits.write; pairs = omega arith; entries = few_entries laws g m s is stage (linked_at g s p mode is stage.fits) }) in
    record {
      cycles = cost.cycles;
      is = subst (λ md. IsTopCost P m md s.frames cost.cycles) (sym mode) (subst (λ fs. IsTopCost P m (Raising p) fs cost.cycles) (sym st.frames)
          (some_in (body_of P st.top.method) st.body (λ b. IsFrameCost P m (Raising p) st.top b cost.cycles) st.is_body cost.is));
      small = cost.small;
    }

small_step : CostLaws → (g : Setting) (m : machine.MachineState) (s t : State) (answer : Option ℕ) → IsSetting g → Stands g m s → HasWaits m → step g.program (limits g) answer s ≡ Some t → (mode : Ending) → s.mode ≡ mode → IsGoing mode → SmallStep g m s
small_step laws g m s t answer is stage waits has Running e going = small_instruction laws g m s t answer is stage waits has e
small_step laws g m s t answer is stage waits has (Raising p) e going = small_raise laws g m s p is stage waits e
small_step laws g m s t answer is stage waits has Ended e going = absurd going
small_step laws g m s t answer is stage waits has (Uncaught c) e going = absurd going

pub stages_end_soon : StagesAdvance → CostLaws → StagesEndSoon
stages_end_soon advance laws m here answers given =
    let g = here.setting in
    let s = here.state in
    let answer = first_of answers in
    let next = advance g m s here.is_setting here.stands here.going answer (first_given answers given) in
    let c = next.comes in
    let cost = small_step laws g m s next.next answer here.is_setting here.stands here.waits next.is_next s.mode refl here.going in
    let micro = c.cost cost.cycles cost.is in
    let stall = stall_small laws.packed g m c.new c.stall (found_by s next.next) here.is_setting here.waits.read c.look_up in
    let positive = c.positive in
    let place : suc (c.cycles - 1) ≡ c.cycles = omega arith in
    record {
      after = c.cycles - 1;
      soon = omega (arith, micro, stall, c.sum, cost.small);
      boundary = ap (λ k. at_boundary (run k (begun m answers)).state) place
          ∙ boundary_with m answers c.cycles (reaches_on m c.new c.cycles c.answers answers (taken_of g m s answer here.going next) c.ran c.boundary);
    }
