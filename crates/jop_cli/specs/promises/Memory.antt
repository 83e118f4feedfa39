-- What `memory` promises: the words that it tells suffice.
use Rattle.std.specs.Prelude.{◌≡◌, ℕ, suc, ◌≤◌, List, Option, ◌+◌, ◌⊎◌, Ok, Vec, length}
use Rattle.std.specs.declared.alloc.Global.{Global}
use Rattle.command_line.specs.declared.command.Command.TheVariants.{Memory}
use Rattle.bytecode_model.specs.declared.Ending.TheVariants.{Raising}
use Rattle.bytecode_model.specs.State.{State}
use Rattle.bytecode_model.specs.Program.{Limits}
use Rattle.bytecode_model.specs.Effects.{fault_object, OutOfMemoryError, StackOverflowError}
use Rattle.bytecode_model.specs.Steps.{run_from}
use Rattle.bytecode_typing.specs.Typed.{Typing}
use Rattle.memory_rules.specs.declared.needs.Need.{Need}
use Rattle.memory_laws.specs.Promises.{RunsFromBoot, StandsAtCall, StandsAtMaking, KeptSoFar}
use Rattle.boundary.specs.Runs.{input_of}
use Rattle.analysis_commands.specs.Memory.{IsNeed, IsMemoryRefusal, IsNotMet}
use Rattle.boundary.specs.Setting.{limits}
use Rattle.boundary.specs.Activations.{Stage}
use Rattle.memory_rules.specs.declared.causes.NeedCause.{NeedCause}
use Rattle.analysis_commands.specs.declared.memory.MemoryRefusal.{MemoryRefusal}
use Rattle.analysis_commands.specs.declared.memory.MemoryRefusal.TheVariants.{NoMemory, NoNeed}
use Rattle.ask_commands.specs.Needs.{SaysNeed, SaysBareNeed}
use Rattle.jop_cli.specs.promises.Words.{ClassFile, resolved, bounds_of, Grew, Parts, text_of_word, Call, BareContent, IsBareFile, AreFiles, command_of}
use Rattle.jop_cli.specs.promises.Words.{Written, IsResolved, Settings, IsLinked, Show, RanLinked, linked_setting}
use Rattle.jop_cli.specs.promises.Images.{IsOpened}
use Rattle.jop_cli.specs.promises.Runs.{RunGoesOn}

-- ---- what `memory` promises

-- With the words that `memory` tells each run of the program has room, ended or not: no invoke overflows where frames may take so many words; and where
-- objects may take so many, no instruction that makes one lacks memory, as long as the loops in which objects are made kept the bounds, and no array was
-- asked for that is longer than its line says.
abbrev pub NeedsSuffice : Type 0
NeedsSuffice =
    (cs : List ClassFile) (bounds_text sizes_text : List ℕ) (need : Need) (is : IsNeed cs bounds_text sizes_text need) (types : Typing) (limits : Limits)
    (input : ℕ → Option ℕ) (boot : State) (n : ℕ) → RunsFromBoot (resolved cs) types input boot
    → let now = run_from (resolved cs) limits input boot n in let next = run_from (resolved cs) limits input boot (suc n) in
    (need.stack ≤ limits.frames → StandsAtCall (resolved cs) now → ¬ (next.mode ≡ Raising (fault_object StackOverflowError)))
    × (need.heap ≤ limits.heap → KeptSoFar (resolved cs) limits (bounds_of cs is.given.bounds) (bounds_of cs is.given.lengths) input boot n
    → StandsAtMaking (resolved cs) now → ¬ (next.mode ≡ Raising (fault_object OutOfMemoryError)))

-- ---- from the outcome alone

-- the line was put that says what the runs of what is linked need
pub record NeedShown (c : Call) (files : List (List ℕ)) : Type 0 where
  pub linked : Parts
  pub opened : IsOpened (text_of_word files 0) linked
  pub text : List ℕ
  pub says : SaysNeed linked (text_of_word files 1) (text_of_word files 2) text
  pub put : Grew c.old.out c.new.out text

-- or that of a bare image
pub record BareNeedShown (c : Call) (files : List (List ℕ)) : Type 0 where
  pub image : BareContent
  pub bare : IsBareFile (text_of_word files 0) image
  pub text : List ℕ
  pub says : SaysBareNeed image (text_of_word files 1) (text_of_word files 2) text
  pub put : Grew c.old.out c.new.out text

pub record ShowsNeed (c : Call) (image : ℕ) : Type 0 where
  pub files : List (List ℕ)
  pub are : AreFiles c.old.files image (image + 3) files
  pub shows : NeedShown c files ⊎ BareNeedShown c files

abbrev pub NeedsAreShown : Type 0
NeedsAreShown = (c : Call) (image bounds sizes : ℕ) → command_of c.words ≡ Ok (Memory image bounds sizes) → c.outcome ≡ Written → ShowsNeed c image

-- ---- exactly

-- the texts give one need
abbrev pub NeedsAreOne : Type 0
NeedsAreOne =
    (cs : List ClassFile) (bounds_text sizes_text : List ℕ) (a b : Need) → IsNeed cs bounds_text sizes_text a → IsNeed cs bounds_text sizes_text b
    → (a.stack ≡ b.stack) × (a.heap ≡ b.heap)

-- where they give one, nothing refuses them: no line of a text, and no cause
abbrev pub NeedsAreNotRefused : Type 0
NeedsAreNotRefused =
    (cs : List ClassFile) (bounds_text sizes_text : List ℕ) (need : Need) (refusal : MemoryRefusal) → IsNeed cs bounds_text sizes_text need
    → IsMemoryRefusal cs bounds_text sizes_text refusal → refusal ≡ NoMemory

-- one cause at most is right to answer
abbrev pub NeedCausesAreTold : Type 0
NeedCausesAreTold =
    (cs : List ClassFile) (bounds_text sizes_text : List ℕ) (a b : NeedCause) (x y : Vec ℕ Global) → IsNotMet cs bounds_text sizes_text (NoNeed a x)
    → IsNotMet cs bounds_text sizes_text (NoNeed b y) → a ≡ b

-- ---- in the runs

-- What was linked was run, `memory` tells of it what its runs need, and the run goes on from one boundary to the next.
pub record NeedInRun : Type 0 where
  pub call : Call
  pub settings : Settings
  pub show : Show
  pub linked : Parts
  pub is_linked : IsLinked linked
  pub are_resolved : IsResolved linked.classes
  pub ran : RanLinked call settings show linked
  pub bounds_text : List ℕ
  pub sizes_text : List ℕ
  pub need : Need
  pub is : IsNeed linked.classes bounds_text sizes_text need
  pub before : Stage
  pub after : Stage
  pub goes_on : RunGoesOn settings linked ran.config before after

-- So far the loops in which objects are made kept the bounds, and no array was asked for that is longer than its line says.
abbrev pub HasKept : NeedInRun → Type 0
HasKept x =
    KeptSoFar (resolved x.linked.classes) (limits (linked_setting x.linked.classes x.settings.stack x.ran.config.memory))
    (bounds_of x.linked.classes x.is.given.bounds) (bounds_of x.linked.classes x.is.given.lengths) (input_of x.after.state.answers) x.goes_on.from.boot
    x.goes_on.from.steps

-- Of `--stack` the machine keeps 80 words for itself, and of `--memory` the image has its own. Where the rest has the words that `memory` tells, no invoke of
-- the run overflows; and no instruction that makes an object lacks memory, as long as bounds and lengths are kept.
abbrev pub NeedsSufficeInRuns : Type 0
NeedsSufficeInRuns =
    (x : NeedInRun)
    → (x.need.stack + 80 ≤ x.settings.stack → StandsAtCall (resolved x.linked.classes) x.before.state
    → ¬ (x.after.state.mode ≡ Raising (fault_object StackOverflowError)))
    × (x.need.heap + length x.linked.laid.words ≤ x.settings.memory → HasKept x → StandsAtMaking (resolved x.linked.classes) x.before.state
    → ¬ (x.after.state.mode ≡ Raising (fault_object OutOfMemoryError)))
