-- A run that begins.
use Rattle.std.proofs.Common.{◌≡◌, ℕ, List, Option, Some, Ok, map, refl, sym, ap, subst}
use Rattle.std.specs.Prelude.{slice_get}
use Rattle.lists.proofs.Lemmas.{onto_some}
use Rattle.machine_memory.specs.Stack.Size.{IsSize}
use Rattle.machine_memory.specs.declared.timing.Config.{Config}
use Rattle.image_file.specs.Bare.{BareContent, IsBareContent}
use Rattle.std.specs.declared.result.Result.{Result}
use Rattle.device_traits.specs.declared.fault.DeviceFault.{DeviceFault}
use Rattle.boundary.specs.declared.answer.Boundary.{Boundary}
use Rattle.jop_core.specs.State as machine
use Rattle.jop_core.specs.Reset.{CanStart, bare_reset, linked_reset}
use Rattle.bytecode_model.specs.declared.Ending.{Ending}
use Rattle.bytecode_model.specs.declared.Ending.TheVariants.{Running}
use Rattle.bytecode_model.specs.Types.{default}
use Rattle.bytecode_model.specs.State.{State}
use Rattle.bytecode_model.specs.Program.{Program}
use Rattle.bytecode_model.specs.Steps.{boot_state, first_frame}
use Rattle.boundary.specs.declared.answer.Boundary.TheVariants as answers
use Rattle.boundary.specs.Answers.{answer_of}
use Rattle.image_facts.specs.Places.{image_of, bare_places}
use Rattle.machine_stands.specs.Bare.{program_of}
use Rattle.image_facts.specs.declared.method.CodedMethod.{CodedMethod}
use Rattle.image_facts.specs.Methods.{AreMethods}
use Rattle.boundary.specs.Laws.{BareImagesArePrograms}
use Rattle.boundary.specs.Linked.{IsHeldImage, BeginsEach, LinkedRunsBegin}
use Rattle.boundary.specs.Setting.{Setting, IsSetting, bare_setting}
use Rattle.boundary.specs.Session.{HasWaits, IsInStep, Begins}

pub boot_runs : (P : Program) (s : State) → boot_state P ≡ Some s → s.mode ≡ Running
boot_runs P s h =
    let (k, method, from_method) = onto_some (slice_get P.methods P.boot) _ s h in
    let (f, frame, is) = onto_some (first_frame P P.boot (map default k.parameters)) _ s from_method in
    some_mode _ s is refl
  where
    some_mode : (u t : State) → ◌≡◌ {A = Option State} (Some u) (Some t) → u.mode ≡ Running → t.mode ≡ Running
    some_mode u t h e = let same : u ≡ t = cc in subst (λ (z : State). z.mode ≡ Running) same e

pub begins_at : (g : Setting) (reset m : machine.MachineState) → m ≡ reset → Begins g reset → Begins g m
begins_at g reset m is h = subst (Begins g) (sym is) h

-- a run that begins is in step
begun_step : (methods : List CodedMethod) (g : Setting) (m : machine.MachineState) → IsSetting g → AreMethods g.program g.places methods → Begins g m → HasWaits m
    → IsInStep g.chip (record { machine = m; methods = methods; mode = Ok answers.Bytecode })
begun_step methods g m is are begins waits = record {
  setting = g;
  is_setting = is;
  chip = refl;
  methods = are;
  state = begins.boot;
  stands = begins.stands;
  mode = ap (λ (state : Ending). let ok : Result Boundary DeviceFault = Ok (answer_of state) in ok) (boot_runs g.program begins.boot begins.is_boot);
  waits = waits;
}

pub step_begins : BareImagesArePrograms → (n : ℕ) (image : BareContent) (config : Config) (methods : List CodedMethod) (m : machine.MachineState) → IsBareContent image → AreMethods (program_of image) bare_places methods
    → m ≡ bare_reset n image config → Begins (bare_setting image n config.memory) m → IsInStep n (record { machine = m; methods = methods; mode = Ok answers.Bytecode })
step_begins programs n image config methods m grammar are is begins =
    let W : machine.MachineState → Type 0 = λ z. HasWaits z in
    begun_step methods (bare_setting image n config.memory) m (programs image n config.memory grammar) are begins (subst W (sym is) (record { read = config.most_read; write = config.most_write }))

-- ---- linked programs

pub size_of : (n : ℕ) (words : List ℕ) (methods : List CodedMethod) (config : Config) → IsHeldImage n words methods config → IsSize n
size_of n words methods config linked = subst IsSize linked.chip linked.held.size

pub can_start : LinkedRunsBegin → (n : ℕ) (words : List ℕ) (methods : List CodedMethod) (config : Config) → IsHeldImage n words methods config → CanStart words config
can_start begin n words methods config linked = subst (λ ws. CanStart ws config) (sym linked.words_are) (begin linked.setting config linked.held).0

pub linked_begins : LinkedRunsBegin → (n : ℕ) (words : List ℕ) (config : Config) (m : machine.MachineState) → m ≡ linked_reset n words config → BeginsEach n words config m
linked_begins begin n words config m is g held chip words_are =
    let M : ℕ → List ℕ → Type 0 = λ k ws. Begins g (linked_reset k ws config) in
    subst (λ (z : machine.MachineState). Begins g z) (sym is) (subst (λ (ws : List ℕ). M n ws) (sym words_are) (subst (λ (k : ℕ). M k (image_of g.program g.places)) chip (begin g config held).1))

pub linked_step : LinkedRunsBegin → (n : ℕ) (words : List ℕ) (methods : List CodedMethod) (config : Config) (m : machine.MachineState) → IsHeldImage n words methods config → m ≡ linked_reset n words config
    → IsInStep n (record { machine = m; methods = methods; mode = Ok answers.Bytecode })
linked_step begin n words methods config m linked is =
    let W : machine.MachineState → Type 0 = λ z. HasWaits z in
    let step = begun_step methods linked.setting m linked.held.is_setting linked.methods_are (linked_begins begin n words config m is linked.setting linked.held linked.chip linked.words_are)
    (subst W (sym is) (record { read = config.most_read; write = config.most_write })) in
    subst (λ k. IsInStep k (record { machine = m; methods = methods; mode = Ok answers.Bytecode })) linked.chip step
