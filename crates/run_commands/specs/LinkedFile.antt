-- What `run` and `trace` do with the bytes of the file of a linked image.
use Rattle.std.specs.Prelude.{◌≡◌, ℕ, ◌⊎◌, List, slice_get, IsSomeAnd, Ok, Err}
use Rattle.std.specs.declared.result.Result.{Result}
use Rattle.device_traits.specs.declared.fault.DeviceFault.{DeviceFault}
use Rattle.class_pool.specs.Utf8.{utf8_bytes}
use Rattle.class_pool.specs.declared.class.ClassFile.{ClassFile}
use Rattle.class_lookup.specs.Parts.{name_of}
use Rattle.name_laws.specs.Written.{written}
use Rattle.image_file.specs.Linked as file
use Rattle.command_line.specs.declared.command.Settings.{Settings}
use Rattle.jopizer.specs.Linked.{Parts, IsLinked, image_of}
use Rattle.boundary.specs.declared.runs.RunEnd.{RunEnd}
use Rattle.boundary.specs.declared.runs.RunEnd.TheVariants as ends
use Rattle.answer_lines.specs.declared.line.Counts.{Counts}
use Rattle.endings.specs.declared.outcome.Refusal.TheVariants.{MemoryTooSmall}
use Rattle.endings.specs.declared.outcome.Ending.{Ending}
use Rattle.endings.specs.declared.outcome.Ending.TheVariants.{Ended, Uncaught, Refused, TooLong, Spent, InputFault, WriteFault, NoMemory}
use Rattle.endings.specs.declared.show.Show.{Show}
use Rattle.run_devices.specs.Lent.{Lent}
use Rattle.run_commands.specs.Run.{ended, failed}
use Rattle.endings.specs.DeviceFaults.{fault_ending}
use Rattle.run_commands.specs.LinkedSettings.{RanLinkedWith}
use Rattle.endings.specs.Fitting.{IsUnheld}
use Rattle.endings.specs.Opening.{BytesFault}

-- ---- the run

-- this is written of the name of the class of this number
abbrev pub NamesClass : List ClassFile → (class : ℕ) → (name : List ℕ) → Type 0
NamesClass cs class name = IsSomeAnd (slice_get cs class) (λ k. name ≡ written (utf8_bytes (name_of k)))

-- this ending says how a run ended, with these counts
abbrev pub SaysEnd : List ClassFile → Result RunEnd DeviceFault → Counts → Ending → Type 0
SaysEnd cs (Ok ends.Ended) counts ending = ending ≡ Ended counts
SaysEnd cs (Ok (ends.Uncaught class)) counts (Uncaught number name said) = (number ≡ class) × (said ≡ counts) × NamesClass cs class name.items
SaysEnd cs (Ok (ends.Uncaught class)) counts ending = ⊥
SaysEnd cs (Ok ends.Spent) counts ending = ending ≡ Spent counts
SaysEnd cs (Err fault) counts ending = ending ≡ fault_ending fault

-- it was run, a call on a device failed, and that ends so
pub record FailsAs (settings : Settings) (show : Show) (l : Parts) (old new : Lent) (ending : Ending) : Type 0 where
  pub fault : DeviceFault
  pub says : ending ≡ fault_ending fault
  pub counts : Counts
  pub ran : RanLinkedWith settings show l old new (failed fault counts)

-- how the run of what was linked ends, with what its line shows
abbrev pub EndsAs : Settings → Show → Parts → (old new : Lent) → Ending → Type 0
EndsAs settings show l old new (TooLong method name blocks limit) = IsUnheld settings l (TooLong method name blocks limit) × (new ≡ old)
EndsAs settings show l old new (Refused (MemoryTooSmall words given)) = IsUnheld settings l (Refused (MemoryTooSmall words given)) × (new ≡ old)
EndsAs settings show l old new (Ended counts) = RanLinkedWith settings show l old new (ended ends.Ended counts)
EndsAs settings show l old new (Uncaught class name counts) =
    RanLinkedWith settings show l old new (ended (ends.Uncaught class) counts) × NamesClass l.classes class name.items
EndsAs settings show l old new (Spent counts) = RanLinkedWith settings show l old new (ended ends.Spent counts)
EndsAs settings show l old new InputFault = FailsAs settings show l old new InputFault
EndsAs settings show l old new WriteFault = FailsAs settings show l old new WriteFault
EndsAs settings show l old new NoMemory = new ≡ old
EndsAs settings show l old new ending = ⊥

-- the bytes are the file of what was linked, and it was run
pub record RunsLinkedProgram (settings : Settings) (show : Show) (bytes : List ℕ) (old new : Lent) (ending : Ending) : Type 0 where
  pub linked : Parts
  pub is_linked : IsLinked linked
  pub is_file : file.IsLinkedFile bytes (image_of linked)
  pub ends_as : EndsAs settings show linked old new ending

-- how the run of the bytes ends
abbrev pub RunsLinkedBytes : Settings → Show → (bytes : List ℕ) → (old new : Lent) → Ending → Type 0
RunsLinkedBytes settings show bytes old new ending = (BytesFault bytes ending × (new ≡ old)) ⊎ RunsLinkedProgram settings show bytes old new ending
