-- How the run of what was linked ends, by what its ending says.
use Rattle.std.proofs.Common.{◌≡◌, ℕ, List, refl, sym, ◌∙◌, subst}
use Rattle.std.specs.Prelude.{Result, Ok, Err}
use Rattle.device_traits.specs.declared.fault.DeviceFault.{DeviceFault}
use Rattle.device_traits.specs.declared.fault.DeviceFault.TheVariants as faults
use Rattle.outside.specs.Outside.{Rose}
use Rattle.class_pool.specs.declared.class.ClassFile.{ClassFile}
use Rattle.boundary.specs.declared.runs.RunEnd.{RunEnd}
use Rattle.boundary.specs.declared.runs.RunEnd.TheVariants as ends
use Rattle.answer_lines.specs.declared.line.Counts.{Counts}
use Rattle.run_devices.specs.Lent.{Lent}
use Rattle.command_line.specs.declared.command.Settings.{Settings}
use Rattle.jopizer.specs.Linked.{Parts}
use Rattle.run_commands.specs.declared.program_end.ProgramEnd.{ProgramEnd}
use Rattle.endings.specs.declared.outcome.Ending.{Ending}
use Rattle.endings.specs.declared.outcome.Ending.TheVariants as endings
use Rattle.endings.specs.declared.show.Show.{Show}
use Rattle.endings.specs.Leaving.{Leaves}
use Rattle.run_commands.specs.Run.{ended, failed}
use Rattle.endings.specs.DeviceFaults.{fault_ending}
use Rattle.run_commands.specs.LinkedSettings.{RanLinkedWith}
use Rattle.run_commands.specs.LinkedFile.{NamesClass, SaysEnd, EndsAs}
use Rattle.run_commands.proofs.Reset.{fault_leaves}

module _ (settings : Settings) (show : Show) (l : Parts) (old new : Lent) where
  abbrev Ends : Ending → Type 0
  Ends ending = EndsAs settings show l old new ending

  to_fault : (fault : DeviceFault) (counts : Counts) → RanLinkedWith settings show l old new (failed fault counts) → Ends (fault_ending fault)
  to_fault faults.Input counts ran = record { fault = faults.Input; says = refl; counts = counts; ran = ran }
  to_fault faults.Output counts ran = record { fault = faults.Output; says = refl; counts = counts; ran = ran }
  to_fault faults.Seen counts ran = record { fault = faults.Seen; says = refl; counts = counts; ran = ran }

  by_end : (end : Result RunEnd DeviceFault) (counts : Counts) (ending : Ending) → RanLinkedWith settings show l old new (record { end = end; counts = counts }) → SaysEnd l.classes end counts ending → Ends ending
  by_end (Ok ends.Ended) counts ending ran says = subst Ends (sym says) ran
  by_end (Ok (ends.Uncaught class)) counts (endings.Uncaught number name said) ran says =
      let N : ℕ → Type 0 = λ k. RanLinkedWith settings show l old new (ended (ends.Uncaught k) counts) × NamesClass l.classes k name.items in
      let S : Counts → Type 0 = λ c. RanLinkedWith settings show l old new (ended (ends.Uncaught number) c) in
      let named = subst N (sym says.0) (ran, says.2) in
      (subst S (sym says.1) named.0, named.1)
  by_end (Ok (ends.Uncaught class)) counts ending ran says = absurd says
  by_end (Ok ends.Spent) counts ending ran says = subst Ends (sym says) ran
  by_end (Err fault) counts ending ran says = subst Ends (sym says) (to_fault fault counts ran)

  pub ends_as : (p : ProgramEnd) (ending : Ending) → RanLinkedWith settings show l old new p → SaysEnd l.classes p.end p.counts ending → Ends ending
  ends_as p ending ran says = by_end p.end p.counts ending ran says

  -- where the input failed its count rose
  input_rose : (ending : Ending) (fault : DeviceFault) (counts : Counts) → ending ≡ endings.InputFault → ending ≡ fault_ending fault → RanLinkedWith settings show l old new (failed fault counts) → Rose old.read_faults new.read_faults
  input_rose ending faults.Input counts is says ran = ran.ran.rose
  input_rose ending faults.Output counts is says ran = let clash : endings.InputFault ≡ endings.WriteFault = sym is ∙ says in absurd (cc)
  input_rose ending faults.Seen counts is says ran = let clash : endings.InputFault ≡ endings.WriteFault = sym is ∙ says in absurd (cc)

  pub input_failed : Ends endings.InputFault → Rose old.read_faults new.read_faults
  input_failed h = input_rose endings.InputFault h.fault h.counts refl h.says h.ran

-- a run that was begun leaves nothing as it was
pub said_done : (cs : List ClassFile) (end : Result RunEnd DeviceFault) (counts : Counts) (ending : Ending) → SaysEnd cs end counts ending → Leaves ending → ⊥
said_done cs (Ok ends.Ended) counts ending says leaves = subst Leaves says leaves
said_done cs (Ok (ends.Uncaught class)) counts (endings.Uncaught number name said) says leaves = leaves
said_done cs (Ok (ends.Uncaught class)) counts ending says leaves = absurd says
said_done cs (Ok ends.Spent) counts ending says leaves = subst Leaves says leaves
said_done cs (Err fault) counts ending says leaves = fault_leaves fault ending says leaves
