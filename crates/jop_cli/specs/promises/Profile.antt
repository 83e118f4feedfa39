-- What `profile` promises: its lines are those of the run, and the bounds in them are kept.
use Rattle.std.specs.Prelude.{◌≡◌, ℕ, ◌≤◌, List, [], ◌∷◌, length, Ok, ◌⊎◌, Option, Some, slice_get, ◌+◌}
use Rattle.image_file.specs.Linked as file
use Rattle.command_line.specs.declared.command.Command.TheVariants.{Profile as ToProfile}
use Rattle.run_devices.specs.Lent.{Lent, wired}
use Rattle.run_follower.specs.declared.watch.profile.Profile.{Profile}
use Rattle.activation_laws.specs.Profiled.{EachKeeps, ProfileIsWithin}
use Rattle.method_bounds.specs.declared.answer.BoundAnswer.{BoundAnswer}
use Rattle.method_bounds.specs.Profiles.{profile_lines}
use Rattle.run_commands.specs.Following.{run_stages}
use Rattle.jop_cli.specs.promises.Words.{Settings, command_of, Parts, IsLinked, image_of, LoopBound, IsRead, CodesFit, Call, OperandsAreTold, Ending}
use Rattle.jop_cli.specs.promises.Words.{named_or_number, line_of, PutsOut, outcome_of, NothingFailed, LacksMemory, linked_reset, Stage, linked_setting}
use Rattle.jop_cli.specs.promises.Words.{AreSettings, bounds_of, text_of_word, BareContent, IsBareFile, Grew, AreFiles}
use Rattle.run_commands.specs.Profiling.{RanProfile, EndsRun, unwatched, input_of, bound_told, RanBareProfile}
use Rattle.jop_cli.specs.promises.Runs.{IsOver}

-- ---- `profile`

-- The words say `profile` of two files: the image of what is linked, which a machine with the settings holds, and a text of bounds.
pub record ProfilesTexts (c : Call) (settings : Settings) (image : ℕ) (l : Parts) (bounds_text : List ℕ) : Type 0 where
  pub bounds : ℕ
  pub command : command_of c.words ≡ Ok (ToProfile settings image bounds)
  pub bytes : List ℕ
  pub told : OperandsAreTold c image (bytes ∷ bounds_text ∷ [])
  pub is_linked : IsLinked l
  pub is_file : file.IsLinkedFile bytes (image_of l)
  pub codes : CodesFit settings l
  pub memory : length l.laid.words ≤ settings.memory
  pub lines : List LoopBound
  pub read : IsRead bounds_text lines

-- What was linked was run, with the input and nothing that keeps its output. All lines of its profile were put: of each method of which an activation has
-- ended among the run's boundaries what its activations come to, beside what `bound --all` says of it. The line on err says how the run ended.
pub record IsProfiled (c : Call) (settings : Settings) (l : Parts) (bounds_text : List ℕ) : Type 0 where
  pub ending : Ending
  pub ran : RanProfile settings l bounds_text (unwatched c.old) (unwatched c.new) ending
  pub ends : EndsRun ending
  pub outcome : c.outcome ≡ outcome_of ending
  pub puts : PutsOut c (profile_lines (named_or_number l.classes) 0 ran.rows ran.answers) (line_of c.words ending)

-- So it is where nothing fails; or there is no memory.
abbrev pub ProfilesAreComplete : Type 0
ProfilesAreComplete =
    (c : Call) (settings : Settings) (image : ℕ) (l : Parts) (bounds_text : List ℕ) → ProfilesTexts c settings image l bounds_text → NothingFailed c
    → IsProfiled c settings l bounds_text ⊎ LacksMemory c

-- The boundaries of the run of a profile.
abbrev pub boundaries_of : (settings : Settings) → (l : Parts) → (bounds_text : List ℕ) → (old new : Lent) → (ending : Ending)
    → RanProfile settings l bounds_text old new ending → List Stage
boundaries_of settings l bounds_text old new ending r =
    run_stages (linked_setting l.classes settings.stack r.ran.config.memory) (linked_reset settings.stack l.laid.words r.ran.config) settings.cycles
    (wired (input_of old)) (wired (input_of new)) r.followed r.ran.profiles.ran

-- The bound in a line is kept by the greatest number of cycles beside it, where each ended activation of the method in the run keeps the bounds of loops.
abbrev pub ProfilesAreKept : Type 0
ProfilesAreKept =
    (settings : Settings) (l : Parts) (bounds_text : List ℕ) (old new : Lent) (ending : Ending) (r : RanProfile settings l bounds_text old new ending)
    (m : ℕ) (row : Profile) (answer : BoundAnswer) (bound : Option ℕ)
    → AreSettings settings → slice_get r.rows m ≡ Some row → slice_get r.answers m ≡ Some answer → bound_told answer ≡ Some bound
    → EachKeeps (linked_setting l.classes settings.stack r.ran.config.memory) (boundaries_of settings l bounds_text old new ending r)
    (bounds_of l.classes r.bounds) m
    → ProfileIsWithin row bound

-- What was linked was run, and the lines were put of its profile, whose bounds are kept as `ProfilesAreKept` says.
pub record ProfileShown (c : Call) (settings : Settings) (files : List (List ℕ)) (ending : Ending) : Type 0 where
  pub linked : Parts
  pub is_linked : IsLinked linked
  pub is_file : file.IsLinkedFile (text_of_word files 0) (image_of linked)
  pub ran : RanProfile settings linked (text_of_word files 1) (unwatched c.old) (unwatched c.new) ending

-- or a bare image was, of which no line is put
pub record BareProfileShown (settings : Settings) (files : List (List ℕ)) (ending : Ending) : Type 0 where
  pub image : BareContent
  pub bare : IsBareFile (text_of_word files 0) image
  pub ran : RanBareProfile settings image (text_of_word files 1) ending

-- The line says how the run ended.
pub record ShowsProfile (c : Call) (settings : Settings) (image : ℕ) : Type 0 where
  pub files : List (List ℕ)
  pub are : AreFiles c.old.files image (image + 2) files
  pub ending : Ending
  pub shows : ProfileShown c settings files ending ⊎ BareProfileShown settings files ending
  pub outcome : c.outcome ≡ outcome_of ending
  pub line : Grew c.err_old c.err_new (line_of c.words ending)

abbrev pub ProfilesAreShown : Type 0
ProfilesAreShown =
    (c : Call) (settings : Settings) (image bounds : ℕ) → command_of c.words ≡ Ok (ToProfile settings image bounds) → IsOver c.outcome
    → ShowsProfile c settings image
