-- How the run of a program ends.
use Rattle.std.proofs.Common.{◌≡◌, rules, ℕ, ◌≤◌, Bool, List, Option, Ok, Err, refl, sym, subst, arith}
use Rattle.std.specs.Prelude.{IsOk}
use Rattle.std.specs.declared.result.Result.{Result}
use Rattle.device_traits.specs.declared.fault.DeviceFault.{DeviceFault}
use Rattle.device_traits.specs.declared.fault.DeviceFault.TheVariants as faults
use Rattle.jop_core.specs.State as machine
use Rattle.outside.specs.Outside.{Rose}
use Rattle.class_pool.specs.declared.class.ClassFile.{ClassFile}
use Rattle.device_traits.specs.declared.seen.Seen.{Seen}
use Rattle.device_traits.specs.Told.{Told}
use Rattle.run_devices.specs.Traced.{traced}
use Rattle.boundary.specs.Activations.{Stage}
use Rattle.boundary.specs.declared.runs.RunEnd.{RunEnd}
use Rattle.boundary.specs.declared.runs.RunEnd.TheVariants as ends
use Rattle.boundary.specs.declared.answer.Boundary.{Boundary}
use Rattle.boundary.specs.Setting.{Setting}
use Rattle.boundary.specs.Session.{Session, Begins}
use Rattle.boundary.specs.Runs.{RunsAll}
use Rattle.answer_lines.specs.declared.line.Counts.{Counts}
use Rattle.boundary.specs.Start.{UncaughtClassesAreThere}
use Rattle.run_devices.specs.Lent.{Lent, lent, wired}
use Rattle.boundary.specs.Traces.{OutputFails, AtBoundary, AtWrite, TracesAll}
use Rattle.endings.specs.declared.show.NamedShow.{NamedShow}
use Rattle.endings.specs.declared.show.NamedShow.TheVariants as shows
use Rattle.endings.specs.Show.{Shown, Output, Trace, shown_by}
use Rattle.run_commands.specs.Run.{AreCounts, Started, HasStarted, RunsAsAll, RunsFromReset, HasRisen, Ran}
use Rattle.run_commands.specs.LinkedRun.{HasClass}
use Rattle.endings.specs.Settings.{linked_setting}
use Rattle.run_commands.specs.declared.program_end.ProgramEnd.{ProgramEnd}

pub unbroken : (r : Session) → HasStarted r → IsOk r.mode
unbroken r (g, s) = let U : Result Boundary DeviceFault → Type 0 = λ mode. IsOk mode in subst U (sym s.mode) (search rules)

-- ---- what is shown

pub as_output : (limit : ℕ) (r : Session) (now : machine.MachineState) (old new : Lent) (end : Result RunEnd DeviceFault) → RunsAll limit r.machine now (wired old) (wired new) end → RunsAsAll Output limit r now old new end
unfolding RunsAll
as_output limit r now old new end all g s is = all g s is.is_setting is.stands

pub as_shown : (show : NamedShow) (limit : ℕ) (r : Session) (now : machine.MachineState) (old new : Lent) (end : Result RunEnd DeviceFault) → show ≡ shows.Output → RunsAll limit r.machine now (wired old) (wired new) end → RunsAsAll (shown_by show) limit r now old new end
as_shown show limit r now old new end is all = subst (λ (x : NamedShow). RunsAsAll (shown_by x) limit r now old new end) (sym is) (as_output limit r now old new end all)

-- so many faults were counted at the start, and these things told
pub as_trace : (names : List (List ℕ)) (limit : ℕ) (r : Session) (now : machine.MachineState) (cycles k : Bool) (left l : Option (List ℕ)) (reads rd : ℕ) (held h : Option (List ℕ)) (faults w s : ℕ) (watch : Option (List Seen)) (after : Told) (new : Lent) (end : Result RunEnd DeviceFault)
    → k ≡ cycles → l ≡ left → rd ≡ reads → h ≡ held → w ≡ faults → s ≡ faults → after.left ≡ new.left → after.read_faults ≡ new.read_faults → after.noted ≡ new.held → after.write_faults ≤ new.write_faults
    → after.seen_faults ≤ new.write_faults → new.handed ≡ watch → TracesAll k names limit r now (traced k l rd h w s) after end → RunsAsAll (Trace cycles names) limit r now (lent left reads held faults watch) new end
unfolding TracesAll
as_trace names limit r now cycles k left l reads rd held h faults w s watch after new end ek el er eh ew es left_is reads_is noted_is writes sees handed all =
    let A = subst (λ (x : Bool). TracesAll x names limit r now (traced x l rd h w s) after end) ek all in
    let B = subst (λ (x : Option (List ℕ)). TracesAll cycles names limit r now (traced cycles x rd h w s) after end) el A in
    let C = subst (λ (x : ℕ). TracesAll cycles names limit r now (traced cycles left x h w s) after end) er B in
    let D = subst (λ (x : Option (List ℕ)). TracesAll cycles names limit r now (traced cycles left reads x w s) after end) eh C in
    let E = subst (λ (x : ℕ). TracesAll cycles names limit r now (traced cycles left reads held x s) after end) ew D in
    let F = subst (λ (x : ℕ). TracesAll cycles names limit r now (traced cycles left reads held faults x) after end) es E in
    λ g st is. record { after = after; traces = F g st is; left = left_is; reads = reads_is; noted = noted_is; writes = writes; sees = sees; watch = handed }

-- ---- the run

-- the run is one from where it began
pub runs_to : (shown : Shown) (g : Setting) (r : Session) (now : machine.MachineState) (limit : ℕ) (old new : Lent) (end : Result RunEnd DeviceFault) → Started g r.machine r → RunsAsAll shown limit r now old new end → RunsFromReset shown g r.machine limit end old new
runs_to shown g r now limit old new end s all =
    record { is_setting = s.is_setting; boot = s.begins.boot; is_boot = s.begins.is_boot; now = now; runs = all g s.begins.boot (record { is_setting = s.is_setting; methods_are = s.methods; stands = s.begins.stands }) }

-- ---- counts of faults

pub reads_rose : (shown : Shown) (g : Setting) (reset : machine.MachineState) (limit : ℕ) (old new : Lent) → RunsFromReset shown g reset limit (Err faults.Input) old new → Rose old.read_faults new.read_faults
reads_rose Output g reset limit old new r =
    let x = r.runs in
    omega (arith, x.fails.broke.tried.5, x.fails.broke.ran.device.counts.reads, x.run.ran.device.counts.reads)
reads_rose (Trace cycles names) g reset limit old new r =
    let x = r.runs.traces in
    omega (arith, x.fails.holds.broke.tried.5, x.fails.holds.broke.ran.device.counts.reads, x.fails.line.rests.counts.reads, x.traced.run.ran.device.counts.reads, r.runs.reads)

-- a line that fails was counted
fails_rose : (names : List (List ℕ)) (g : Setting) (a : Stage) (now : machine.MachineState) (told told' : Told) → OutputFails names g a now told told' → Rose told.write_faults told'.write_faults
fails_rose names g a now told told' (AtBoundary same line) = line.rose
fails_rose names g a now told told' (AtWrite after) = omega (arith, after.holds.broke.tried.5, after.holds.broke.ran.device.counts.writes, after.line.rests.counts.writes)

writes_rose : (shown : Shown) (g : Setting) (reset : machine.MachineState) (limit : ℕ) (old new : Lent) → RunsFromReset shown g reset limit (Err faults.Output) old new → Rose old.write_faults new.write_faults
writes_rose Output g reset limit old new r =
    let x = r.runs in
    omega (arith, x.fails.broke.tried.5, x.fails.broke.ran.device.counts.writes, x.run.ran.device.counts.writes)
writes_rose (Trace cycles names) g reset limit old new r =
    let x = r.runs.traces in
    omega (arith, fails_rose names g x.last r.now x.before r.runs.after x.fails, x.traced.run.ran.device.counts.writes, r.runs.writes)

-- a watch doesn't fail, and a line of a cycle is one of the output
sees_rose : (shown : Shown) (g : Setting) (reset : machine.MachineState) (limit : ℕ) (old new : Lent) → RunsFromReset shown g reset limit (Err faults.Seen) old new → Rose old.write_faults new.write_faults
sees_rose Output g reset limit old new r =
    let x = r.runs in
    absurd (omega (arith, x.fails.broke.tried.4, x.fails.broke.ran.device.counts.sees, x.run.ran.device.counts.sees))
sees_rose (Trace cycles names) g reset limit old new r =
    let x = r.runs.traces in
    omega (arith, x.fails.holds.broke.tried.4, x.fails.holds.broke.ran.device.counts.sees, x.fails.line.rests.counts.sees, x.traced.run.ran.device.counts.sees, r.runs.sees)

pub has_risen : (shown : Shown) (g : Setting) (reset : machine.MachineState) (limit : ℕ) (old new : Lent) (end : Result RunEnd DeviceFault) → RunsFromReset shown g reset limit end old new → HasRisen end old new
has_risen shown g reset limit old new (Ok end) r = tt
has_risen shown g reset limit old new (Err faults.Input) r = reads_rose shown g reset limit old new r
has_risen shown g reset limit old new (Err faults.Output) r = writes_rose shown g reset limit old new r
has_risen shown g reset limit old new (Err faults.Seen) r = sees_rose shown g reset limit old new r

-- ---- how the program ended

pub ran_so : (shown : Shown) (g : Setting) (r : Session) (now read : machine.MachineState) (limit : ℕ) (old new : Lent) (end : Result RunEnd DeviceFault) (counts : Counts) → Started g r.machine r → RunsAsAll shown limit r now old new end
    → read ≡ now → AreCounts counts read → Ran shown g r.machine limit old new (record { end = end; counts = counts })
unfolding runs_to
ran_so shown g r now read limit old new end counts s all same are =
    let runs = runs_to shown g r now limit old new end s all in
    record { run = runs; counts = subst (AreCounts counts) same are; rose = has_risen shown g r.machine limit old new end runs }

-- ---- the class that isn't caught

pub class_there : UncaughtClassesAreThere → (shown : Shown) (cs : List ClassFile) (n memory : ℕ) (reset : machine.MachineState) (limit : ℕ) (old new : Lent) (end : Result RunEnd DeviceFault)
    → RunsFromReset shown (linked_setting cs n memory) reset limit end old new → HasClass cs end
class_there law Output cs n memory reset limit old new (Ok (ends.Uncaught class)) r =
    let x = r.runs in
    law cs (linked_setting cs n memory).places n memory x.last.machine x.last.state class x.run.stands.stands x.holds
class_there law (Trace cycles names) cs n memory reset limit old new (Ok (ends.Uncaught class)) r =
    let x = r.runs.traces in
    law cs (linked_setting cs n memory).places n memory x.last.machine x.last.state class x.traced.run.stands.stands x.holds
class_there law shown cs n memory reset limit old new (Ok ends.Ended) r = tt
class_there law shown cs n memory reset limit old new (Ok ends.Spent) r = tt
class_there law shown cs n memory reset limit old new (Err fault) r = tt

-- ---- where it began

restarted : (g : Setting) (reset : machine.MachineState) (r : Session) → Started g reset r → Started g r.machine r
restarted g reset r s = record { is_setting = s.is_setting; methods = s.methods; machine_is = refl; mode = s.mode; begins = subst (Begins g) (sym s.machine_is) s.begins }

pub has_restarted : (g : Setting) (reset : machine.MachineState) (r : Session) → Started g reset r → HasStarted r
has_restarted g reset r s = (g, restarted g reset r s)

pub ran_from : (shown : Shown) (g : Setting) (reset : machine.MachineState) (r : Session) (limit : ℕ) (old new : Lent) (end : ProgramEnd) → Started g reset r
    → ((h : Setting) → Started h r.machine r → Ran shown h r.machine limit old new end) → Ran shown g reset limit old new end
ran_from shown g reset r limit old new end s ran = subst (λ (m : machine.MachineState). Ran shown g m limit old new end) s.machine_is (ran g (restarted g reset r s))
