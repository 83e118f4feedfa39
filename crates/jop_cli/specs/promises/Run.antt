-- What `run` and `trace` promise of an image that is told.
use Rattle.std.specs.Prelude.{ℕ, ◌≤◌, List, length, ◌≡◌, ◌⊎◌, Ok, Bool, Some}
use Rattle.image_file.specs.Linked as file
use Rattle.command_line.specs.declared.command.Command.TheVariants.{Run, Trace}
use Rattle.endings.specs.declared.show.Show.TheVariants as shows
use Rattle.endings.specs.Fitting.{blocks_of_code}
use Rattle.jop_cli.specs.promises.Words.{Settings, Parts, IsLinked, image_of, CodesFit, Call, command_of, NothingFailed, LacksMemory, RanLinked, Stage, Show}
use Rattle.jop_cli.specs.promises.Words.{BareContent, IsBareFile}
use Rattle.jop_cli.specs.Calls.{IsTold}
use Rattle.jop_cli.specs.Courses.{RanBare}

-- The bytes of the file of a word are those of the image of what is linked, and a machine with the settings holds it.
pub record HoldsLinked (c : Call) (settings : Settings) (word : ℕ) (l : Parts) : Type 0 where
  pub is_linked : IsLinked l
  pub bytes : List ℕ
  pub is_file : file.IsLinkedFile bytes (image_of l)
  pub told : IsTold c word bytes
  pub codes : CodesFit settings l
  pub memory : length l.laid.words ≤ settings.memory

-- `run` of an image that `link` writes is the run of the program by the definition of the bytecode, on the machine, with its output and its end; or
-- there is no memory.
abbrev pub RunsAreTheBytecodes : Type 0
RunsAreTheBytecodes =
    (c : Call) (settings : Settings) (word : ℕ) (l : Parts) → command_of c.words ≡ Ok (Run settings word) → HoldsLinked c settings word l → NothingFailed c
    → RanLinked c settings shows.Output l ⊎ LacksMemory c

-- `trace` is the same run, and puts its lines.
abbrev pub TracesAreTheRuns : Type 0
TracesAreTheRuns =
    (c : Call) (settings : Settings) (micro : Bool) (word : ℕ) (l : Parts) → command_of c.words ≡ Ok (Trace settings micro word) → HoldsLinked c settings word l
    → NothingFailed c
    → RanLinked c settings (shows.Trace micro) l ⊎ LacksMemory c

-- the boundary to which a run came, or a traced one
abbrev pub last_boundary : {c : Call} {settings : Settings} {l : Parts} (show : Show) → RanLinked c settings show l → Stage
last_boundary shows.Output r = r.ran.last
last_boundary (shows.Trace cycles) r = r.ran.last

-- And it is one: with the same settings and the same input, `run` and `trace` of what is linked come to the same boundary, and are answered alike.
abbrev pub RunsAreOne : Type 0
RunsAreOne =
    (c d : Call) (settings : Settings) (l : Parts) (input : List ℕ) (show other : Show) (r : RanLinked c settings show l) (q : RanLinked d settings other l)
    → c.old.left ≡ Some input → d.old.left ≡ Some input → (last_boundary show r ≡ last_boundary other q) × (c.outcome ≡ d.outcome)

-- The bytes of the file of a word are a bare image, and its code fits the method cache.
pub record HoldsBare (c : Call) (settings : Settings) (word : ℕ) (image : BareContent) : Type 0 where
  pub bytes : List ℕ
  pub is_file : IsBareFile bytes image
  pub told : IsTold c word bytes
  pub code : blocks_of_code settings image ≤ settings.blocks

-- So it is of a bare image.
abbrev pub BareRunsAreTheBytecodes : Type 0
BareRunsAreTheBytecodes =
    (c : Call) (settings : Settings) (word : ℕ) (image : BareContent) → command_of c.words ≡ Ok (Run settings word) → HoldsBare c settings word image
    → NothingFailed c → RanBare c settings shows.Output image ⊎ LacksMemory c

abbrev pub BareTracesAreTheRuns : Type 0
BareTracesAreTheRuns =
    (c : Call) (settings : Settings) (micro : Bool) (word : ℕ) (image : BareContent) → command_of c.words ≡ Ok (Trace settings micro word)
    → HoldsBare c settings word image → NothingFailed c
    → RanBare c settings (shows.Trace micro) image ⊎ LacksMemory c
