-- What `work` does: the class W of so many methods is linked, its program is run, its main method is bounded, and one line says what came of it.
use Rattle.std.specs.Prelude.{◌≡◌, ℕ, ◌<◌, ◌≤◌, ◌⊎◌, List, [], ◌∷◌, length, take, Some, None}
use Rattle.std.specs.declared.option.Option.{Option}
use Rattle.outside.specs.Outside.{Grew, Rose}
use Rattle.class_pool.specs.ClassSpelling.{class_bytes}
use Rattle.class_pool.specs.declared.class.ClassFile.{ClassFile}
use Rattle.program_tables.specs.Resolved.{resolved}
use Rattle.activations.specs.Warrant.{BoundsActivations}
use Rattle.run_devices.specs.Lent.{Lent, lent}
use Rattle.jopizer.specs.Linked.{Parts, IsLinked}
use Rattle.certificates.specs.Certificate.{Certificate}
use Rattle.bound_rules.specs.declared.faults.BoundRefusal.{BoundRefusal}
use Rattle.bound_rules.specs.Bounding.{IsCause}
use Rattle.answer_lines.specs.declared.bound.BoundCause.{BoundCause}
use Rattle.analysis_commands.specs.Analysis.{timing_of, bounds_of, named_or_number}
use Rattle.analysis_commands.specs.Bounding.{MethodHasName, IsBoundBy, cause_of, subject_of}
use Rattle.answer_lines.specs.declared.line.Counts.{Counts}
use Rattle.work_gen.specs.Work.{class_name, work}
use Rattle.work_gen.specs.Bounds.{main_text, adder_bounds}
use Rattle.answer_lines.specs.WorkLines.{work_line}
use Rattle.boundary.specs.declared.runs.RunEnd.TheVariants as ends
use Rattle.endings.specs.declared.show.Show.TheVariants as shows
use Rattle.endings.specs.declared.outcome.Refusal.TheVariants.{MemoryTooSmall}
use Rattle.answer_lines.specs.declared.unanswered.Cause.TheVariants.{Bound}
use Rattle.endings.specs.declared.outcome.Ending.{Ending}
use Rattle.endings.specs.declared.outcome.Ending.TheVariants.{Written, Uncaught, Refused, TooLong, NotAnswered, Spent, WriteFault, NoMemory}
use Rattle.endings.specs.World.{World, IsUntaken}
use Rattle.endings.specs.Linking.{LinkFault}
use Rattle.run_commands.specs.Run.{ended}
use Rattle.run_commands.specs.LinkedSettings.{RanLinkedWith}
use Rattle.run_commands.specs.LinkedFile.{EndsAs}
use Rattle.endings.specs.Settings.{usual_settings}

-- ---- what is linked, and how it is run

-- the file of the class alone
abbrev pub work_files : (n : ℕ) → List (List ℕ)
work_files n = class_bytes (work n) ∷ []

-- it is linked to this, with the class as the main class
pub record IsWork (n : ℕ) (l : Parts) : Type 0 where
  pub is_linked : IsLinked l
  pub its_files : l.files ≡ work_files n
  pub its_main : l.main ≡ class_name

-- before the run: an input that has ended, an output that holds nothing, and no watch
abbrev pub fresh : Lent
fresh = lent (Some []) 0 (Some []) 0 None

-- ---- the run

-- The run of what was linked ended by returning, with these counts, and put these bytes out.
pub record Returned (l : Parts) (output : List ℕ) (counts : Counts) : Type 0 where
  pub after : Lent
  pub ran : RanLinkedWith usual_settings shows.Output l fresh after (ended ends.Ended counts)
  pub held : after.held ≡ Some output

-- it ended so, as `run` of its image with nothing to read does
abbrev pub EndsWork : Parts → Ending → Type 0
EndsWork l ending = (after : Lent) × EndsAs usual_settings shows.Output l fresh after ending

-- it ended otherwise than by returning, or wasn't begun; or there was no memory
abbrev pub StopsAs : Parts → Ending → Type 0
StopsAs l (TooLong method name blocks limit) = EndsWork l (TooLong method name blocks limit)
StopsAs l (Refused (MemoryTooSmall words given)) = EndsWork l (Refused (MemoryTooSmall words given))
StopsAs l (Uncaught class name counts) = EndsWork l (Uncaught class name counts)
StopsAs l (Spent counts) = EndsWork l (Spent counts)
StopsAs l NoMemory = Unit {0}
StopsAs l ending = ⊥

-- ---- the bound of main, with the bounds of the class's loops

-- This is the last number of a certificate that meets its conditions, and each ended activation of main takes at most as many cycles, whatever the
-- method cache held, where its loops keep the bounds.
pub record IsMainBound (n : ℕ) (cs : List ClassFile) (bound : Option ℕ) : Type 0 where
  pub certificate : Certificate
  pub is : IsBoundBy (resolved cs) (timing_of usual_settings) (bounds_of cs (adder_bounds n)) (MethodHasName cs main_text) certificate
  pub bound_is : bound ≡ certificate.bound
  pub holds : BoundsActivations (resolved cs) (timing_of usual_settings) (bounds_of cs (adder_bounds n)) certificate.root certificate.bound

-- this forbids a bound of main, and its line names this
pub record ForbidsMain (n : ℕ) (cs : List ClassFile) (cause : BoundCause) (subject : List ℕ) : Type 0 where
  pub refusal : BoundRefusal
  pub is : IsCause (resolved cs) (timing_of usual_settings) (bounds_of cs (adder_bounds n)) (MethodHasName cs main_text) refusal
  pub cause_is : cause_of refusal ≡ Some cause
  pub subject_is : subject ≡ subject_of (named_or_number cs) refusal

-- so no bound of main is given; or there was no memory
abbrev pub ForbidsAs : (n : ℕ) → List ClassFile → Ending → Type 0
ForbidsAs n cs (NotAnswered (Bound cause) subject) = ForbidsMain n cs cause subject.items
ForbidsAs n cs NoMemory = Unit {0}
ForbidsAs n cs ending = ⊥

-- ---- the line

-- The class is linked, its program returns, and the line says what it put out, its counts, and the bound of its main method.
pub record IsWorkLine (n : ℕ) (line : List ℕ) : Type 0 where
  pub linked : Parts
  pub is : IsWork n linked
  pub output : List ℕ
  pub counts : Counts
  pub returned : Returned linked output counts
  pub bound : Option ℕ
  pub bounded : IsMainBound n linked.classes bound
  pub line_is : line ≡ work_line n output counts bound

-- all of it was put
pub record PutsWholeLine (n : ℕ) (old new : Option (List ℕ)) (before now : ℕ) : Type 0 where
  pub line : List ℕ
  pub is : IsWorkLine n line
  pub put : Grew old new line
  pub later : before ≤ now

-- a front of it was put, where out failed
pub record PutsLineFront (n : ℕ) (old new : Option (List ℕ)) (before now : ℕ) : Type 0 where
  pub line : List ℕ
  pub is : IsWorkLine n line
  pub count : ℕ
  pub part : count < length line
  pub put : Grew old new (take count line)
  pub rose : Rose before now

-- ---- how it ends

-- the class is linked, and the run of its program stops so
pub record Stops (n : ℕ) (ending : Ending) : Type 0 where
  pub linked : Parts
  pub is : IsWork n linked
  pub stops : StopsAs linked ending

-- its program returns, and a bound of its main method is forbidden so
pub record ForbidsWork (n : ℕ) (ending : Ending) : Type 0 where
  pub linked : Parts
  pub is : IsWork n linked
  pub output : List ℕ
  pub counts : Counts
  pub returned : Returned linked output counts
  pub forbids : ForbidsAs n linked.classes ending

-- why there is no line, in this order: the class isn't linked, its program stops otherwise than by returning, a bound of main is forbidden
abbrev pub NotWorked : (n : ℕ) → Ending → Type 0
NotWorked n ending = LinkFault (work_files n) class_name ending ⊎ (Stops n ending ⊎ ForbidsWork n ending)

-- what out told before and then, and its counts of faults
abbrev pub PutsWork : (n : ℕ) → (old new : Option (List ℕ)) → (before now : ℕ) → Ending → Type 0
PutsWork n old new before now ending =
    ((ending ≡ Written) × PutsWholeLine n old new before now)
    ⊎ (((ending ≡ WriteFault) × PutsLineFront n old new before now) ⊎ (NotWorked n ending × (new ≡ old) × (now ≡ before)))

-- nothing but out changed
pub record OnlyOut (old new : World) : Type 0 where
  pub words : new.words ≡ old.words
  pub contents : (k : ℕ) → new.files k ≡ old.files k
  pub counts : (k : ℕ) → new.file_faults k ≡ old.file_faults k
  pub input : IsUntaken old new
  pub watch : new.watch ≡ old.watch

-- How the work of so many methods ends, each ending with its cause.
abbrev pub Works : (n : ℕ) → World → World → Ending → Type 0
Works n old new ending = PutsWork n old.out new.out old.out_faults new.out_faults ending × OnlyOut old new
