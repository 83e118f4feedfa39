-- What `profile` does: the image of a word is run, and of each method of which an activation has ended a line is put, beside its bound by the bounds of
-- loops, which is the operand behind it.
use Rattle.std.specs.Prelude.{◌≡◌, ◌↔◌, ℕ, ◌+◌, ◌<◌, ◌≤◌, true, false, ◌⊎◌, List, [], length, Some, None, IsSome, slice_get}
use Rattle.std.specs.declared.option.Option.{Option}
use Rattle.outside.specs.Outside.{Grew}
use Rattle.outside.specs.Files.{OnlyWords, AreFiles}
use Rattle.class_pool.specs.declared.class.ClassFile.{ClassFile}
use Rattle.program_tables.specs.Resolved.{resolved}
use Rattle.machine_memory.specs.declared.timing.Config.{Config}
use Rattle.jop_core.specs.State as machine
use Rattle.jop_core.specs.Reset.{linked_reset}
use Rattle.image_file.specs.Bare.{BareContent, IsBareFile}
use Rattle.image_file.specs.Linked as file
use Rattle.jopizer.specs.Linked.{Parts, IsLinked, image_of}
use Rattle.bytecode_model.specs.Program.{Program, body_of}
use Rattle.method_flow.specs.Keeping.{BoundOf}
use Rattle.method_flow.specs.declared.timing.Timing.{Timing}
use Rattle.bound_texts.specs.Loops.Bounds.{LoopBound}
use Rattle.bound_texts.specs.Loops.Grammar.{IsRead}
use Rattle.run_follower.specs.declared.here.Here.{Here}
use Rattle.run_follower.specs.declared.watch.profile.Profile.{Profile}
use Rattle.run_follower.specs.Watch.Watched.{activations, of_method, profile_of}
use Rattle.boundary.specs.Setting.{Setting}
use Rattle.bound_rules.specs.Told.{Value}
use Rattle.method_bounds.specs.declared.answer.BoundAnswer.{BoundAnswer}
use Rattle.method_bounds.specs.declared.answer.BoundAnswer.TheVariants.{Cycles, Never, Refused}
use Rattle.method_bounds.specs.Answers.{IsBoundAnswer}
use Rattle.method_bounds.specs.Profiles.{profile_lines}
use Rattle.run_devices.specs.Lent.{Lent, lent, wired}
use Rattle.command_line.specs.declared.command.Settings.{Settings}
use Rattle.answer_lines.specs.declared.analysis.AnalysisFault.{AnalysisFault}
use Rattle.analysis_commands.specs.Analysis.{timing_of, bounds_of, named_or_number}
use Rattle.answer_lines.specs.BoundsFaults.{IsBoundsFault}
use Rattle.run_commands.specs.declared.program_end.ProgramEnd.{ProgramEnd}
use Rattle.endings.specs.declared.outcome.Ending.{Ending}
use Rattle.endings.specs.declared.outcome.Ending.TheVariants.{Ended, Uncaught, Spent, WriteFault, NoMemory}
use Rattle.endings.specs.declared.show.Show.TheVariants as shows
use Rattle.endings.specs.Line.{text_of_word}
use Rattle.endings.specs.Phase.{HasSettings, is_linked}
use Rattle.endings.specs.World.{World, IsQuiet}
use Rattle.endings.specs.Opening.{ImageFault}
use Rattle.run_commands.specs.BareFile as bare
use Rattle.endings.specs.Settings.{linked_setting}
use Rattle.endings.specs.Fitting.{CodesFit}
use Rattle.endings.specs.Opening.{BytesFault}
use Rattle.run_commands.specs.LinkedFile.{SaysEnd}
use Rattle.endings.specs.Fitting.{IsUnheld}
use Rattle.endings.specs.Linking.{files_of, OperandsFault}
use Rattle.endings.specs.AnalysisFaults.{fault_ending}
use Rattle.endings.specs.Fitting.{EndsTooLong}
use Rattle.endings.specs.AnalysisFaults.{EndsUnread}
use Rattle.endings.specs.Putting.{PutsPart}
use Rattle.run_commands.specs.Following.{RanSo, heres_of}

-- ---- the run, whose output isn't kept

-- what such a run is lent: the input, and nothing that keeps the program's bytes
abbrev pub input_of : Lent → Lent
input_of o = lent o.left o.read_faults None 0 None

-- the same with an input that has ended
abbrev pub nothing : Lent
nothing = lent (Some []) 0 None 0 None

-- of each method of so many what the activations come to that are among all that is seen of the run
pub record AreRows (methods : ℕ) (heres : List Here) (rows : List Profile) : Type 0 where
  pub long : length rows ≡ methods
  pub each : (m : ℕ) → m < methods → slice_get rows m ≡ Some (profile_of (of_method m (activations heres)))

pub record Profiles (g : Setting) (reset : machine.MachineState) (limit : ℕ) (old new : Lent) (methods : ℕ) (rows : List Profile)
    (f : ProgramEnd) : Type 0 where
  pub ran : RanSo g reset limit (wired old) (wired new) f
  pub rows_are : AreRows methods (heres_of g reset limit (wired old) (wired new) f ran) rows

-- A machine with the settings holds the image, and it was run from reset.
pub record ProfilesWith (s : Settings) (l : Parts) (old new : Lent) (methods : ℕ) (rows : List Profile) (f : ProgramEnd) : Type 0 where
  pub config : Config
  pub has : HasSettings s config
  pub profiles : Profiles (linked_setting l.classes s.stack config.memory) (linked_reset s.stack l.laid.words config) s.cycles old new methods rows f

-- ---- the bounds

-- of each method with code what is answered of its bound
pub record AreAnswers (P : Program) (t : Timing) (bound_of : BoundOf) (answers : List BoundAnswer) : Type 0 where
  pub coded : (m : ℕ) → IsSome (body_of P m) ↔ (m < length answers)
  pub each : (m : ℕ) (x : BoundAnswer) → slice_get answers m ≡ Some x → IsBoundAnswer P t bound_of m x

-- the bound that is given, if one is
abbrev pub bound_told : BoundAnswer → Option Value
bound_told (Cycles n) = Some (Some n)
bound_told Never = Some None
bound_told (Refused cause) = None

-- ---- what is put

-- All lines were put, and the ending says how the run ended; or a front of them, where out failed.
abbrev pub PutsProfile : List ClassFile → (text : List ℕ) → ProgramEnd → (old new : Option (List ℕ)) → (before now : ℕ) → Ending → Type 0
PutsProfile cs text f old new before now ending =
    (Grew old new text × (before ≤ now) × SaysEnd cs f.end f.counts ending) ⊎ ((ending ≡ WriteFault) × PutsPart text old new before now)

-- an ending of a run without a fault
abbrev pub EndsRun : Ending → Type 0
EndsRun (Ended counts) = Unit {0}
EndsRun (Uncaught class name counts) = Unit {0}
EndsRun (Spent counts) = Unit {0}
EndsRun ending = ⊥

-- ---- of an image

-- What was linked was run, and the lines were put.
pub record RanProfile (s : Settings) (l : Parts) (bounds_text : List ℕ) (old new : Lent) (ending : Ending) : Type 0 where
  pub codes : CodesFit s l
  pub memory : length l.laid.words ≤ s.memory
  pub bounds : List LoopBound
  pub read : IsRead bounds_text bounds
  pub answers : List BoundAnswer
  pub answered : AreAnswers (resolved l.classes) (timing_of s) (bounds_of l.classes bounds) answers
  pub rows : List Profile
  pub followed : ProgramEnd
  pub ran : ProfilesWith s l (input_of old) (input_of new) (length answers) rows followed
  pub puts : PutsProfile l.classes (profile_lines (named_or_number l.classes) 0 rows answers) followed
      old.held new.held old.write_faults new.write_faults ending

-- a machine with the settings holds it, and this refuses the bounds
pub record EndsUnbounded (s : Settings) (l : Parts) (bounds_text : List ℕ) (ending : Ending) : Type 0 where
  pub codes : CodesFit s l
  pub memory : length l.laid.words ≤ s.memory
  pub fault : AnalysisFault
  pub is : IsBoundsFault bounds_text fault
  pub says : ending ≡ fault_ending s fault

-- why it wasn't run; or there was no memory
abbrev pub EndsUnprofiled : Settings → Parts → (bounds_text : List ℕ) → Ending → Type 0
EndsUnprofiled s l bounds_text ending = IsUnheld s l ending ⊎ (EndsUnbounded s l bounds_text ending ⊎ (ending ≡ NoMemory))

abbrev pub ProfilesLinked : Settings → Parts → (bounds_text : List ℕ) → (old new : Lent) → Ending → Type 0
ProfilesLinked s l bounds_text old new ending = (EndsUnprofiled s l bounds_text ending × (new ≡ old)) ⊎ RanProfile s l bounds_text old new ending

-- where a machine with the settings holds it, and the bounds are read, it was run, or there was no memory
abbrev pub ProfilesHeld : Settings → Parts → (bounds_text : List ℕ) → (old new : Lent) → Ending → Type 0
ProfilesHeld s l bounds_text old new ending = ((ending ≡ NoMemory) × (new ≡ old)) ⊎ RanProfile s l bounds_text old new ending

-- A bare image, whose one method starts the program, was run with an input that has ended; no activation of it ends, and no line is put.
pub record RanBareProfile (s : Settings) (image : BareContent) (bounds_text : List ℕ) (ending : Ending) : Type 0 where
  pub bounds : List LoopBound
  pub read : IsRead bounds_text bounds
  pub ran : bare.RanImageWith s shows.Output image nothing nothing ending

abbrev pub ProfilesBare : Settings → BareContent → (bounds_text : List ℕ) → Ending → Type 0
ProfilesBare s image bounds_text ending =
    EndsTooLong s image ending ⊎ (EndsUnread s image bounds_text ending ⊎ RanBareProfile s image bounds_text ending)

-- the bytes are the file of what was linked, or a bare image
pub record ProfilesParts (s : Settings) (operands : List (List ℕ)) (old new : Lent) (ending : Ending) : Type 0 where
  pub linked : Parts
  pub is_linked : IsLinked linked
  pub is_file : file.IsLinkedFile (text_of_word operands 0) (image_of linked)
  pub profiles : ProfilesLinked s linked (text_of_word operands 1) old new ending

pub record ProfilesBareFile (s : Settings) (operands : List (List ℕ)) (ending : Ending) : Type 0 where
  pub image : BareContent
  pub is_bare : IsBareFile (text_of_word operands 0) image
  pub profiles : ProfilesBare s image (text_of_word operands 1) ending

abbrev pub ProfilesImage : Settings → (operands : List (List ℕ)) → (old new : Lent) → Ending → Type 0
ProfilesImage s operands old new ending =
    ((is_linked (text_of_word operands 0) ≡ true) × ((BytesFault (text_of_word operands 0) ending × (new ≡ old)) ⊎ ProfilesParts s operands old new ending))
    ⊎ ((is_linked (text_of_word operands 0) ≡ false) × (new ≡ old) × (ImageFault (text_of_word operands 0) ending ⊎ ProfilesBareFile s operands ending))

-- ---- the files

-- what is lent without the watch
abbrev pub unwatched : World → Lent
unwatched w = lent w.left w.read_faults w.out w.out_faults None

-- the files of the operands were read, and the image was run
pub record ProfilesRead (s : Settings) (image : ℕ) (old new : World) (ending : Ending) : Type 0 where
  pub operands : List (List ℕ)
  pub only : OnlyWords (files_of old) (files_of new) image (image + 2)
  pub are : AreFiles old.files image (image + 2) operands
  pub profiles : ProfilesImage s operands (unwatched old) (unwatched new) ending
  pub watch : new.watch ≡ old.watch

-- How a profile of the image of a word ends, each ending with its cause.
abbrev pub ProfilesFiles : Settings → (image : ℕ) → World → World → Ending → Type 0
ProfilesFiles s image old new ending =
    (OperandsFault image (image + 2) (files_of old) (files_of new) ending × IsQuiet old new) ⊎ ProfilesRead s image old new ending
