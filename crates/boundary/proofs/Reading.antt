-- What a run's machine shows.
use Rattle.std.proofs.Common.{◌≡◌, ℕ, List, [], length, Bool, true, false, ◌∙◌, sym, ap, subst, refl, ⊎_elim}
use Rattle.std.specs.Prelude.{sum_by, IsSomeAnd, Some, None, Ok, Err}
use Rattle.std.specs.declared.result.Result.{Result}
use Rattle.device_traits.specs.declared.fault.DeviceFault.{DeviceFault}
use Rattle.opcodes.specs.Bytes.{u1}
use Rattle.image_facts.specs.declared.method.CodedMethod.{CodedMethod}
use Rattle.jop_core.specs.State as machine
use Rattle.bytecode_model.specs.declared.Ending.{Ending}
use Rattle.bytecode_model.specs.declared.Ending.TheVariants.{Running, Raising, Ended, Uncaught}
use Rattle.bytecode_model.specs.Lists.{onto}
use Rattle.bytecode_model.specs.State.{Frame, State}
use Rattle.bytecode_model.specs.Program.{Program, body_of}
use Rattle.bytecode_model.specs.Sizes.{value_words}
use Rattle.bytecode_model.specs.WellFormed.{ModeFits, top_operands}
use Rattle.bytecode_typing.specs.Laws.{FittingStatesAreWellFormed}
use Rattle.image_facts.specs.Places.{Places}
use Rattle.machine_stands.specs.StandsFor.{StandsFor, IsAt}
use Rattle.machine_stands.specs.ShownFrames.Shows as frames
use Rattle.machine_stands.specs.ShownFrames.Shows.{ShowsState, IsShown, IsRunning, EachRunning, IsRaising, EachRaising, top_frame}
use Rattle.boundary.specs.declared.answer.Boundary.{Boundary}
use Rattle.boundary.specs.declared.answer.Boundary.TheVariants as answers
use Rattle.boundary.specs.Answers.{answer_of, goes_on, is_raise, HasFrames}
use Rattle.boundary.specs.Opcodes.{next_opcode, opcode_in}
use Rattle.boundary.specs.Setting.{Setting, limits}
use Rattle.boundary.specs.Session.{Session, IsStateOf, IsInStep, KeepsStep, EachShownState, EachShownTop}
use Rattle.boundary.specs.StageLaws.{StagesAgree}
use Rattle.boundary.proofs.Keeping.{going_state, going_step}
use Rattle.boundary.proofs.Stages.{some_in}

abbrev pub ok : Boundary → Result Boundary DeviceFault
ok answer = Ok answer

pub raise_so : (mode : Result Boundary DeviceFault) (b : Bool) → b ≡ is_raise mode → b ≡ true → mode ≡ ok answers.Raise
raise_so (Ok answers.Raise) b is on = refl
raise_so (Ok answers.Bytecode) b is on = let clash : false ≡ true = sym is ∙ on in absurd (cc)
raise_so (Ok answers.Halted) b is on = let clash : false ≡ true = sym is ∙ on in absurd (cc)
raise_so (Ok (answers.Uncaught c)) b is on = let clash : false ≡ true = sym is ∙ on in absurd (cc)
raise_so (Err fault) b is on = let clash : false ≡ true = sym is ∙ on in absurd (cc)

pub not_raise : (mode : Result Boundary DeviceFault) (b : Bool) → b ≡ is_raise mode → b ≡ false → mode ≡ ok answers.Raise → ⊥
not_raise mode b is off raise = let clash : true ≡ false = sym (ap is_raise raise) ∙ sym is ∙ off in cc

goes_so : (mode : Result Boundary DeviceFault) → HasFrames mode → goes_on mode ≡ true
goes_so mode going = ⊎_elim (λ e. ap goes_on e) (λ e. ap goes_on e) going

pub shows : FittingStatesAreWellFormed → (g : Setting) (methods : List CodedMethod) (m : machine.MachineState) (s : State) → IsStateOf g methods m s → ShowsState methods m g.program g.places g.chip g.memory s
shows well g methods m s h = record { says = h.is_setting.says; methods_are = h.methods_are; stands = h.stands.stands; formed = well g.program g.types (limits g) h.is_setting.typed s h.stands.fits }

-- a run that goes on
module _ (well : FittingStatesAreWellFormed) (n : ℕ) (r : Session) (going : HasFrames r.mode) (kept : KeepsStep n r r.mode) where
  pub here : IsInStep n r
  here = going_step n r r.mode (goes_so r.mode going) kept

  pub shown : (h : IsShown n r.methods r.machine) × (h.state ≡ here.state)
  shown =
      let g = here.setting in
      let is : IsStateOf here.setting r.methods r.machine here.state = record { is_setting = here.is_setting; methods_are = here.methods; stands = here.stands } in
      (record { program = g.program; places = g.places; memory = g.memory; state = here.state; shows = subst (λ k. ShowsState r.methods r.machine g.program g.places k g.memory here.state) here.chip (shows well g r.methods r.machine here.state is) }, refl)

  -- each state goes on as is known of the run
  pub each_mode : StagesAgree → (g : Setting) (s : State) → IsStateOf g r.methods r.machine s → Ok (answer_of s.mode) ≡ r.mode
  each_mode agree g s h =
      ap ok
      (agree r.machine (record { setting = here.setting; is_setting = here.is_setting; state = here.state; stands = here.stands; going = going_state here.state.mode r.mode here.mode (goes_so r.mode going); waits = here.waits }) g s h.is_setting h.stands)
      ∙ here.mode

-- what a mode is, by how it goes on
pub is_running : (mode : Ending) → ok (answer_of mode) ≡ ok answers.Bytecode → mode ≡ Running
is_running Running e = refl
is_running (Raising p) e = absurd (cc)
is_running Ended e = absurd (cc)
is_running (Uncaught c) e = absurd (cc)

pub is_raising : (mode : Ending) → ok (answer_of mode) ≡ ok answers.Raise → (p : ℕ) × (mode ≡ Raising p)
is_raising Running e = absurd (cc)
is_raising (Raising p) e = (p, refl)
is_raising Ended e = absurd (cc)
is_raising (Uncaught c) e = absurd (cc)

-- the opcode that the machine is about to run is that of the state's instruction
opcode_stands : (P : Program) (pl : Places) (n size : ℕ) (m : machine.MachineState) (s : State) → StandsFor P pl n size m s → s.mode ≡ Running → next_opcode P s ≡ Some m.opcode
opcode_stands P pl n size m s st mode =
    let at = subst (IsAt P pl m s st.top st.body) mode st.at in
    ap (opcode_in P s) mode
    ∙ ap (λ o. onto o (λ f. onto (body_of P f.method) (λ b. Some (u1 b.code f.pc)))) (ap top_frame st.frames)
    ∙ ap (λ o. onto o (λ b. Some (u1 b.code st.top.pc))) st.is_body
    ∙ ap (λ (k : ℕ). Some k) (sym at.opcode)

-- ---- what is answered

-- the session as it is seen, and the methods as they are lent
module _ (well : FittingStatesAreWellFormed) (agree : StagesAgree) (n : ℕ) (r now : Session) (is : r ≡ now) (going : HasFrames now.mode) (kept : KeepsStep n r r.mode) (methods : List CodedMethod) (same : methods ≡ r.methods) where
  going_now : HasFrames r.mode
  going_now = subst (λ (z : Session). HasFrames z.mode) (sym is) going

  with_state : (h : IsShown n methods r.machine) × (h.state ≡ (here well n r going_now kept).state)
  with_state = subst (λ zs. (h : IsShown n zs r.machine) × (h.state ≡ (here well n r going_now kept).state)) (sym same) (shown well n r going_now kept)

  pub is_shown : IsShown n methods r.machine
  is_shown = with_state.0

  pub each_state : (K : State → Type 0) → frames.EachState methods r.machine K → EachShownState now K
  each_state K each = subst (λ (z : Session). EachShownState z K) is (λ g s h. each g.program g.places g.chip g.memory s (shows well g methods r.machine s (subst (λ zs. IsStateOf g zs r.machine s) (sym same) h)))

  each_with : (K : State → Type 0) → ((g : Setting) (s : State) → IsStateOf g r.methods r.machine s → K s) → EachShownState now K
  each_with K each = subst (λ (z : Session). EachShownState z K) is each

  each_of : (K : Setting → State → Type 0) → ((g : Setting) (s : State) → IsStateOf g r.methods r.machine s → K g s) → (g : Setting) (s : State) → IsStateOf g now.methods now.machine s → K g s
  each_of K each = subst (λ (z : Session). (g : Setting) (s : State) → IsStateOf g z.methods z.machine s → K g s) is each

  -- ---- where it runs

  module _ (not_raising : r.mode ≡ ok answers.Raise → ⊥) where
    bytecode : r.mode ≡ ok answers.Bytecode
    bytecode = ⊎_elim (λ e. e) (λ e. absurd (not_raising e)) going_now

    pub running_state : IsRunning n methods r.machine
    running_state = let (h, e) = with_state in (h, ap (λ (s : State). s.mode) e ∙ is_running (here well n r going_now kept).state.mode ((here well n r going_now kept).mode ∙ bytecode))

    pub each_running : (K : Frame → Type 0) → EachRunning methods r.machine K → EachShownTop now K
    each_running K each = each_with (λ s. IsSomeAnd (top_frame s.frames) K) (λ g s h.
        each g.program g.places g.chip g.memory s (shows well g methods r.machine s (subst (λ zs. IsStateOf g zs r.machine s) (sym same) h)) (is_running s.mode (each_mode well n r going_now kept agree g s h ∙ bytecode)))

    pub opcode_read : (g : Setting) (s : State) → IsStateOf g now.methods now.machine s → next_opcode g.program s ≡ Some r.machine.opcode
    opcode_read = each_of (λ g s. next_opcode g.program s ≡ Some r.machine.opcode) (λ g s h.
        opcode_stands g.program g.places g.chip g.memory r.machine s h.stands.stands (is_running s.mode (each_mode well n r going_now kept agree g s h ∙ bytecode)))

  -- ---- where an object is raised

  module _ (raise : r.mode ≡ ok answers.Raise) where
    pub raising_state : IsRaising n methods r.machine
    raising_state =
        let (h, e) = with_state in
        let (p, mode) = is_raising (here well n r going_now kept).state.mode ((here well n r going_now kept).mode ∙ raise) in
        (h, p, ap (λ (s : State). s.mode) e ∙ mode)

    pub each_raising : (K : Frame → Type 0) → EachRaising methods r.machine K → EachShownTop now K
    each_raising K each = each_with (λ s. IsSomeAnd (top_frame s.frames) K) (λ g s h.
        let (p, mode) = is_raising s.mode (each_mode well n r going_now kept agree g s h ∙ raise) in
        each g.program g.places g.chip g.memory s (shows well g methods r.machine s (subst (λ zs. IsStateOf g zs r.machine s) (sym same) h)) p mode)

    -- the top frame has no operands
    pub none_left : EachShownTop now (λ f. sum_by value_words f.operands ≡ 0)
    none_left = each_with (λ s. IsSomeAnd (top_frame s.frames) (λ f. sum_by value_words f.operands ≡ 0)) (λ g s h.
        let (p, mode) = is_raising s.mode (each_mode well n r going_now kept agree g s h ∙ raise) in
        let formed = well g.program g.types (limits g) h.is_setting.typed s h.stands.fits in
        let none : top_operands s.frames ≡ [] = (subst (λ md. ModeFits (length s.objects) s.frames md) mode formed.mode).1 in
        let st = h.stands.stands in
        some_in (top_frame s.frames) st.top (λ f. sum_by value_words f.operands ≡ 0) (ap top_frame st.frames) (ap (sum_by value_words) (sym (ap top_operands st.frames) ∙ none)))

    -- none of an instruction
    pub no_opcode : (g : Setting) (s : State) → IsStateOf g now.methods now.machine s → next_opcode g.program s ≡ None
    no_opcode = each_of (λ g s. next_opcode g.program s ≡ None) (λ g s h. let (p, mode) = is_raising s.mode (each_mode well n r going_now kept agree g s h ∙ raise) in ap (opcode_in g.program s) mode)
