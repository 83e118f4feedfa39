-- Steps of a program and of the machine that stands for its states.
use Rattle.std.proofs.Common.{◌≡◌, ◌≢◌, ℕ, zero, suc, ◌<◌, true, List, [], ◌∷◌, ◌++◌, length, Option, Some, None, refl, sym, ◌∙◌, ap, subst, arith, append-nil, ◌⊎◌, inl, inr, ⊎_elim}
use Rattle.std.specs.Prelude.{IfSome, IsSomeAnd, IsTrue, slice_get}
use Rattle.std.proofs.lemmas.List.{append_cancel_left}
use Rattle.micro_flow.specs.Closed.{RaiseApart}
use Rattle.microcode.specs.declared.TheConstants.{RAISE}
use Rattle.opcodes.specs.Bytes.{u1}
use Rattle.opcodes.specs.Start.{IsStart}
use Rattle.opcodes.specs.Reading.{InstructionsAreOfTheirForm}
use Rattle.jop_core.specs.declared.halt.Halt.TheVariants as halts
use Rattle.jop_core.specs.State as machine
use Rattle.jop_core.specs.Scene.{first_of}
use Rattle.device_traits.specs.Told.{IsGiven}
use Rattle.micro_sketch.specs.Ends.{AreGiven}
use Rattle.image_file.specs.Bare.{BareContent}
use Rattle.bytecode_model.specs.declared.Ending.{Ending}
use Rattle.bytecode_model.specs.declared.Ending.TheVariants.{Running, Raising, Ended, Uncaught}
use Rattle.bytecode_model.specs.State.{Frame, State}
use Rattle.bytecode_model.specs.Lists.{onto}
use Rattle.bytecode_model.specs.Types.{OfClass}
use Rattle.bytecode_model.specs.Program.{Program, Body, body_of, is_of, throwable_class}
use Rattle.bytecode_model.specs.Supported.{RowsAreOfTheirOpcodes}
use Rattle.bytecode_model.specs.Steps.{step}
use Rattle.bytecode_model.specs.WellFormed as formed
use Rattle.bytecode_model.specs.WellFormed.{IsInput, IsWellFormed}
use Rattle.bytecode_typing.specs.Tests.{Holds}
use Rattle.bytecode_typing.specs.Typed.{Typing}
use Rattle.bytecode_typing.specs.Fits.{Fits, FramesFit, IsGoing, IsThrowable, numbers_of}
use Rattle.bytecode_typing.specs.Laws.{TypedProgramsKeep, FittingStatesAreWellFormed}
use Rattle.image_facts.specs.Places.{Places}
use Rattle.image_facts.specs.Says.{IsCode}
use Rattle.machine_stands.specs.Bare as bare
use Rattle.machine_stands.specs.StandsFor.{StandsFor, IsAt}
use Rattle.machine_stands.specs.Comes.{ComesTo}
use Rattle.machine_stands.specs.Reading.{RowsAreRead}
use Rattle.machine_stands.specs.Simulates.{Simulates, Unwinds, IsStep, is_bare}
use Rattle.boundary.specs.declared.answer.Boundary.TheVariants as answers
use Rattle.boundary.specs.Answers.{answer_of}
use Rattle.boundary.specs.Families.{is_built}
use Rattle.boundary.specs.Setting.{Setting, limits, IsSetting, IsBareProgram}
use Rattle.boundary.specs.Session.{IsAtStep}
use Rattle.boundary.specs.StageLaws.{NextStage, StagesAdvance, StagesAgree}
use Rattle.boundary.specs.BareLaws.{BareOpcodes}
use Rattle.boundary.proofs.Built.{opcode_is_built}
use Rattle.boundary.proofs.Obeys.{Sort, Plain, Takes, Puts, Obeys, step_sort}

-- ---- options

pub some_is : {A : Type 0} (o : Option A) (K : A → Type 0) → IsSomeAnd o K → (x : A) × (o ≡ Some x) × K x
some_is None K h = absurd h
some_is (Some x) K h = (x, refl, h)

pub some_in : {A : Type 0} (o : Option A) (x : A) (K : A → Type 0) → o ≡ Some x → K x → IsSomeAnd o K
some_in o x K e h = subst (λ o. IsSomeAnd o K) (sym e) h

pub some_at : {A : Type 0} (o : Option A) (x : A) (K : A → Type 0) → o ≡ Some x → IsSomeAnd o K → K x
some_at o x K e h = subst (λ o. IsSomeAnd o K) e h

pub if_at : {A : Type 0} (o : Option A) (x : A) (K : A → Type 0) → o ≡ Some x → IfSome o K → K x
if_at o x K e h = subst (λ o. IfSome o K) e h

-- ---- where a machine stands that stands for a state

pub at_mode : (P : Program) (pl : Places) (m : machine.MachineState) (s : State) (f : Frame) (b : Body) (mode : Ending) → s.mode ≡ mode → IsAt P pl m s f b s.mode → IsAt P pl m s f b mode
at_mode P pl m s f b mode e h = subst (λ md. IsAt P pl m s f b md) e h

pub code_of : (g : Setting) (m : machine.MachineState) (s : State) → IsSetting g → (st : StandsFor g.program g.places g.chip g.memory m s) → IsCode st.body.code
code_of g m s is st = if_at (body_of g.program st.top.method) st.body (λ b. IsCode b.code) st.is_body (is.says.codes st.top.method)

-- about to run an instruction is not about to raise
pub apart_at : RaiseApart → (g : Setting) (m : machine.MachineState) (s : State) → IsSetting g → (st : StandsFor g.program g.places g.chip g.memory m s) → s.mode ≡ Running → m.mpc ≢ RAISE
apart_at apart g m s is st mode e =
    let at = at_mode g.program g.places m s st.top st.body Running mode st.at in
    let byte : m.opcode < 256 = omega (arith, at.opcode, (code_of g m s is st).bytes st.top.pc) in
    apart m.opcode byte (sym at.mpc ∙ e)

pub running_here : RaiseApart → (g : Setting) (m : machine.MachineState) (s : State) → m.halt ≡ halts.Running → m.mpc ≢ RAISE → (st : StandsFor g.program g.places g.chip g.memory m s) → (mode : Ending) → s.mode ≡ mode → s.mode ≡ Running
running_here apart g m s running other st Running e = e
running_here apart g m s running other st (Raising p) e = absurd (other (at_mode g.program g.places m s st.top st.body (Raising p) e st.at).mpc)
running_here apart g m s running other st Ended e = let clash : halts.Ended ≡ halts.Running = sym (at_mode g.program g.places m s st.top st.body Ended e st.at) ∙ running in absurd (cc)
running_here apart g m s running other st (Uncaught c) e = let clash : halts.Uncaught ≡ halts.Running = sym (at_mode g.program g.places m s st.top st.body (Uncaught c) e st.at).halted ∙ running in absurd (cc)

pub raising_here : RaiseApart → (g : Setting) (m : machine.MachineState) (s : State) → IsSetting g → m.halt ≡ halts.Running → m.mpc ≡ RAISE → (st : StandsFor g.program g.places g.chip g.memory m s) → (mode : Ending) → s.mode ≡ mode
    → answer_of s.mode ≡ answers.Raise
raising_here apart g m s is running at_raise st Running e = absurd (apart_at apart g m s is st e at_raise)
raising_here apart g m s is running at_raise st (Raising p) e = ap answer_of e
raising_here apart g m s is running at_raise st Ended e = let clash : halts.Ended ≡ halts.Running = sym (at_mode g.program g.places m s st.top st.body Ended e st.at) ∙ running in absurd (cc)
raising_here apart g m s is running at_raise st (Uncaught c) e = let clash : halts.Uncaught ≡ halts.Running = sym (at_mode g.program g.places m s st.top st.body (Uncaught c) e st.at).halted ∙ running in absurd (cc)

pub stages_agree : RaiseApart → StagesAgree
stages_agree apart m here g s is st = by_mode here.state.mode refl here.going
  where
    by_mode : (mode : Ending) → here.state.mode ≡ mode → IsGoing mode → answer_of s.mode ≡ answer_of here.state.mode
    by_mode Running e h =
        let own = here.stands.stands in
        let at = at_mode here.setting.program here.setting.places m here.state own.top own.body Running e own.at in
        ap answer_of (running_here apart g m s at.running (apart_at apart here.setting m here.state here.is_setting own e) st.stands s.mode refl) ∙ sym (ap answer_of e)
    by_mode (Raising p) e h =
        let own = here.stands.stands in
        let at = at_mode here.setting.program here.setting.places m here.state own.top own.body (Raising p) e own.at in
        raising_here apart g m s is at.running at.mpc st.stands s.mode refl ∙ sym (ap answer_of e)
    by_mode Ended e h = absurd h
    by_mode (Uncaught c) e h = absurd h

-- what goes on like a going state goes on
pub goes_alike : (a b : Ending) → answer_of a ≡ answer_of b → IsGoing b → IsGoing a
goes_alike Running b e h = tt
goes_alike (Raising p) b e h = tt
goes_alike Ended Running e h = absurd (cc)
goes_alike Ended (Raising p) e h = absurd (cc)
goes_alike Ended Ended e h = h
goes_alike Ended (Uncaught c) e h = h
goes_alike (Uncaught c) Running e h = absurd (cc)
goes_alike (Uncaught c) (Raising p) e h = absurd (cc)
goes_alike (Uncaught c) Ended e h = h
goes_alike (Uncaught c) (Uncaught d) e h = h

-- ---- programs in which objects are raised

-- of a bare image there is no object
none_thrown : (image : BareContent) (ks : List ℕ) (p : ℕ) → IsThrowable (bare.program_of image) ks p → ⊥
none_thrown image ks p h = by_get (slice_get ks p) h
  where
    by_get : (o : Option ℕ) → IsSomeAnd (onto o (λ t. slice_get (bare.program_of image).types t)) (λ k. Holds (is_of (bare.program_of image) k (OfClass throwable_class))) → ⊥
    by_get None h = h
    by_get (Some t) h = h

pub none_raised : (image : BareContent) (P : Program) → P ≡ bare.program_of image → (types : Typing) (ks : List ℕ) (p : ℕ) (fs : List Frame) → FramesFit P types ks (Raising p) fs → ⊥
none_raised image P is types ks p [] h = h
none_raised image P is types ks p (f ∷ fs) h = none_thrown image ks p (subst (λ P. IsThrowable P ks p) is h.0.2)

pub linked_at : (g : Setting) (s : State) (p : ℕ) → s.mode ≡ Raising p → IsSetting g → Fits g.program g.types (limits g) s → g.program.linked ≡ true
linked_at g s p mode is fits =
    ⊎_elim
    (λ linked. linked)
    (λ (image, grammar, same). absurd (none_raised image g.program same g.types (numbers_of s.objects) p s.frames (subst (λ md. FramesFit g.program g.types (numbers_of s.objects) md s.frames) mode fits.frames)))
    is.origin

-- ---- the step

body_is : (image : BareContent) (P : Program) (k : ℕ) (b : Body) → P ≡ bare.program_of image → body_of P k ≡ Some b → b ≡ bare.body_of image
body_is image P k b e h = only k (ap (λ (P : Program). body_of P k) (sym e) ∙ h)
  where
    only : (k : ℕ) → body_of (bare.program_of image) k ≡ Some b → b ≡ bare.body_of image
    only zero h = cc
    only (suc k) h = absurd (cc)

-- a program's instruction, where it comes of no class files, is one of a bare image
origin_of : BareOpcodes → (g : Setting) (m : machine.MachineState) (s : State) → (st : StandsFor g.program g.places g.chip g.memory m s) → IsWellFormed g.program (limits g) s → s.mode ≡ Running
    → (g.program.linked ≡ true) ⊎ IsBareProgram g.program → (g.program.linked ≡ true) ⊎ IsTrue (is_bare m.opcode)
origin_of opcodes g m s st well mode (inl linked) = inl linked
origin_of opcodes g m s st well mode (inr (image, grammar, is)) =
    let at = at_mode g.program g.places m s st.top st.body Running mode st.at in
    let frames = subst (λ fs. formed.AreFrames g.program (length s.objects) fs) st.frames well.frames in
    let frame = some_at (body_of g.program st.top.method) st.body (formed.IsFrame g.program (length s.objects) st.top) st.is_body frames.0 in
    let code : st.body.code ≡ image.code = ap (λ (b : Body). b.code) (body_is image g.program st.top.method st.body is st.is_body) in
    let start : IsStart image.code st.top.pc = subst (λ c. IsStart c st.top.pc) code frame.start in
    inr (ap is_bare (at.opcode ∙ ap (λ c. u1 c st.top.pc) code) ∙ opcodes image grammar st.top.pc start)

-- what is proved of steps
pub record AdvanceLaws : Type 0 where
  pub simulates : Simulates is_built
  pub unwinds : Unwinds
  pub read : RowsAreRead
  pub rows : RowsAreOfTheirOpcodes
  pub forms : InstructionsAreOfTheirForm
  pub opcodes : BareOpcodes
  pub keep : TypedProgramsKeep
  pub well : FittingStatesAreWellFormed

-- an instruction that has a step has an opcode of a family
built_at : AdvanceLaws → (g : Setting) (m : machine.MachineState) (answer : Option ℕ) (s t : State) → IsSetting g → (h : IsStep g.program g.places g.chip g.memory m answer s t) → s.mode ≡ Running → is_built m.opcode ≡ true
built_at laws g m answer s t is h mode =
    let r = laws.read g.program g.places g.chip g.memory m answer s t h mode in
    let f = h.stands.top in
    let code = code_of g m s is h.stands in
    opcode_is_built laws.rows laws.forms h.stands.body.code f.pc m.opcode r.instr (g.program.operand f.method f.pc) r.row (sym r.is.opcode) (omega (arith, r.is.opcode, code.bytes f.pc)) r.is.whole r.is.is_row

comes_on : AdvanceLaws → (g : Setting) (m : machine.MachineState) (answer : Option ℕ) (s t : State) → IsSetting g → Fits g.program g.types (limits g) s → IsStep g.program g.places g.chip g.memory m answer s t → (mode : Ending) → s.mode ≡ mode → IsGoing mode
    → ComesTo g.program g.places g.chip g.memory m s t
comes_on laws g m answer s t is fits h Running e going =
    laws.simulates g.program g.places g.chip g.memory m answer s t h e (built_at laws g m answer s t is h e) (origin_of laws.opcodes g m s h.stands h.well_formed e is.origin)
comes_on laws g m answer s t is fits h (Raising p) e going = laws.unwinds g.program g.places g.chip g.memory m answer s t p h e (linked_at g s p e is fits)
comes_on laws g m answer s t is fits h Ended e going = absurd going
comes_on laws g m answer s t is fits h (Uncaught c) e going = absurd going

pub stages_advance : AdvanceLaws → StagesAdvance
stages_advance laws g m s is st going answer byte =
    let (t, defined, fits) = some_is (step g.program (limits g) answer s) (Fits g.program g.types (limits g)) (laws.keep g.program g.types (limits g) is.lawful is.typed s going st.fits answer byte) in
    let here = laws.well g.program g.types (limits g) is.typed s st.fits in
    let h : IsStep g.program g.places g.chip g.memory m answer s t =
    record { says = is.says; stands = st.stands; well_formed = here; byte = byte; step = defined; next_well_formed = laws.well g.program g.types (limits g) is.typed t fits } in
    record {
      next = t;
      is_next = defined;
      fits = fits;
      comes = comes_on laws g m answer s t is st.fits h s.mode refl going;
    }

-- ---- the answers that it takes

pub given_answers : (answer : Option ℕ) → IsGiven answer → IsInput answer
given_answers None h = tt
given_answers (Some byte) h = h

pub first_given : (answers : List (Option ℕ)) → AreGiven answers → IsInput (first_of answers)
first_given [] h = tt
first_given (answer ∷ answers) h = given_answers answer h.0

some_or_none : (sort : Sort) (answer : Option ℕ) (s t : State) (taken : List (Option ℕ)) → Obeys sort answer s t → t.answers ≡ s.answers ++ taken → (taken ≡ []) ⊎ (taken ≡ answer ∷ [])
some_or_none Plain answer s t taken h took = inl (append_cancel_left s.answers taken [] (sym took ∙ h.0 ∙ sym (append-nil s.answers)))
some_or_none Takes answer s t taken h took = inr (append_cancel_left s.answers taken (answer ∷ []) (sym took ∙ h.0))
some_or_none (Puts byte) answer s t taken h took = inl (append_cancel_left s.answers taken [] (sym took ∙ h.0 ∙ sym (append-nil s.answers)))

-- none, or the one that the step is given
pub taken_of : (g : Setting) (m : machine.MachineState) (s : State) (answer : Option ℕ) → IsGoing s.mode → (n : NextStage g m s answer) → (n.comes.answers ≡ []) ⊎ (n.comes.answers ≡ answer ∷ [])
taken_of g m s answer going n =
    let sort = step_sort g.program (limits g) s going in
    some_or_none sort.sort answer s n.next n.comes.answers (sort.obeys answer n.next n.is_next) n.comes.took

pub stage_runs : (m : machine.MachineState) → IsAtStep m → m.halt ≡ halts.Running
stage_runs m here = by_mode here.state.mode refl here.going
  where
    by_mode : (mode : Ending) → here.state.mode ≡ mode → IsGoing mode → m.halt ≡ halts.Running
    by_mode Running e h = let st = here.stands.stands in (at_mode here.setting.program here.setting.places m here.state st.top st.body Running e st.at).running
    by_mode (Raising p) e h = let st = here.stands.stands in (at_mode here.setting.program here.setting.places m here.state st.top st.body (Raising p) e st.at).running
    by_mode Ended e h = absurd h
    by_mode (Uncaught c) e h = absurd h
