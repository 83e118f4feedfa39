-- The run of what was linked with a follower, from where it began.
use Rattle.std.proofs.Common.{◌≡◌, ℕ, List, sym, subst, arith}
use Rattle.std.specs.Prelude.{IfOk, Result, Ok, Err}
use Rattle.device_traits.specs.declared.fault.DeviceFault.{DeviceFault}
use Rattle.device_traits.specs.declared.fault.DeviceFault.TheVariants as faults
use Rattle.class_pool.specs.declared.class.ClassFile.{ClassFile}
use Rattle.outside.specs.Outside.{Rose}
use Rattle.device_traits.specs.Told.{Told}
use Rattle.image_builder.specs.Laid.{Laid}
use Rattle.jop_core.specs.State as machine
use Rattle.jop_core.specs.Reset.{linked_reset}
use Rattle.answer_lines.specs.declared.line.Counts.{Counts}
use Rattle.run_follower.specs.declared.here.Here.{Here}
use Rattle.run_devices.specs.Lent.{Lent, wired}
use Rattle.boundary.specs.declared.runs.RunEnd.{RunEnd}
use Rattle.boundary.specs.declared.runs.RunEnd.TheVariants as ends
use Rattle.boundary.specs.Setting.{Setting}
use Rattle.boundary.specs.Session.{Session}
use Rattle.boundary.specs.Start.{UncaughtClassesAreThere}
use Rattle.boundary.specs.Followed.{FollowsAll}
use Rattle.command_line.specs.declared.command.Settings.{Settings}
use Rattle.jopizer.specs.Linked.{Parts}
use Rattle.endings.specs.declared.settings.Plan.{Plan}
use Rattle.run_commands.specs.declared.program_end.ProgramEnd.{ProgramEnd}
use Rattle.endings.specs.Phase.{HasSettings}
use Rattle.run_commands.specs.Run.{AreCounts, HasRisen, Started}
use Rattle.run_commands.specs.LinkedRun.{HasClass}
use Rattle.endings.specs.Settings.{linked_setting}
use Rattle.run_commands.specs.Following.{RanSo, FollowsRun, FollowsWith}

pub follows_so : {F : Type 0} (after : F → Here → F) (g : Setting) (r : Session) (now read : machine.MachineState) (limit : ℕ) (told told' : Told) (first last : F) (end : Result RunEnd DeviceFault) (counts : Counts) → Started g r.machine r
    → FollowsAll after limit r now told told' first last end → read ≡ now → AreCounts counts read → FollowsRun after g r.machine limit told told' first last (record { end = end; counts = counts })
unfolding FollowsAll
follows_so after g r now read limit told told' first last end counts s all same are =
    let f = all g s.begins.boot s.is_setting s.begins.stands in
    record {
      ran = record { is_setting = s.is_setting; boot = s.begins.boot; is_boot = s.begins.is_boot; now = now; runs = f.runs; counts = subst (AreCounts counts) same are };
      follower = f.follower_is s.methods;
      small = f.small s.methods;
    }

-- ---- where it began

restarted : (g : Setting) (reset : machine.MachineState) (r : Session) → Started g reset r → Started g r.machine r
restarted g reset r s = subst (λ (m : machine.MachineState). Started g m r) (sym s.machine_is) s

pub follows_from : {F : Type 0} (after : F → Here → F) (g : Setting) (reset : machine.MachineState) (r : Session) (limit : ℕ) (told told' : Told) (first last : F) (f : ProgramEnd) → Started g reset r
    → ((h : Setting) → Started h r.machine r → FollowsRun after h r.machine limit told told' first last f) → FollowsRun after g reset limit told told' first last f
follows_from after g reset r limit told told' first last f s all = subst (λ (m : machine.MachineState). FollowsRun after g m limit told told' first last f) s.machine_is (all g (restarted g reset r s))

-- ---- with settings

pub follows_with : {F E : Type 0} (after : F → Here → F) (s : Settings) (l : Parts) (cs : List ClassFile) (laid : Laid) (n : ℕ) (plan : Plan) (told told' : Told) (first last : F) (r : Result ProgramEnd E) → cs ≡ l.classes → laid ≡ l.laid → s.stack ≡ n
    → HasSettings s plan.config → plan.limit ≡ s.cycles → IfOk r (FollowsRun after (linked_setting cs n plan.config.memory) (linked_reset n laid.words plan.config) plan.limit told told' first last) → IfOk r (FollowsWith after s l told told' first last)
follows_with after s l cs laid n plan told told' first last (Ok f) classes laid_is stack has limit follows =
    let config = plan.config in
    let a = subst (λ (xs : List ClassFile). FollowsRun after (linked_setting xs n config.memory) (linked_reset n laid.words config) plan.limit told told' first last f) classes follows in
    let b = subst (λ (x : Laid). FollowsRun after (linked_setting l.classes n config.memory) (linked_reset n x.words config) plan.limit told told' first last f) laid_is a in
    let c = subst (λ (k : ℕ). FollowsRun after (linked_setting l.classes n config.memory) (linked_reset n l.laid.words config) k told told' first last f) limit b in
    record {
      config = config;
      has = has;
      follows = subst (λ (k : ℕ). FollowsRun after (linked_setting l.classes k config.memory) (linked_reset k l.laid.words config) s.cycles told told' first last f) (sym stack) c;
    }
follows_with after s l cs laid n plan told told' first last (Err e) classes laid_is stack has limit follows = tt

-- ---- how it ended

-- of an input, an output and a watch that are lent
module _ (g : Setting) (reset : machine.MachineState) (limit : ℕ) (old new : Lent) where
  rose_by : (end : Result RunEnd DeviceFault) (counts : Counts) → RanSo g reset limit (wired old) (wired new) (record { end = end; counts = counts }) → HasRisen end old new
  rose_by (Ok end) counts r = tt
  rose_by (Err faults.Input) counts r =
      let x = r.runs in
      omega (arith, x.fails.broke.tried.5, x.fails.broke.ran.device.counts.reads, x.run.ran.device.counts.reads)
  rose_by (Err faults.Output) counts r =
      let x = r.runs in
      omega (arith, x.fails.broke.tried.5, x.fails.broke.ran.device.counts.writes, x.run.ran.device.counts.writes)
  rose_by (Err faults.Seen) counts r =
      let x = r.runs in
      absurd (omega (arith, x.fails.broke.tried.4, x.fails.broke.ran.device.counts.sees, x.run.ran.device.counts.sees))

  -- the count of the call that failed has risen
  pub rose : (f : ProgramEnd) → RanSo g reset limit (wired old) (wired new) f → HasRisen f.end old new
  rose f r = rose_by f.end f.counts r

-- where neither count has risen no call has failed
pub unrisen : (end : Result RunEnd DeviceFault) (old new : Lent) → (Rose old.read_faults new.read_faults → ⊥) → (Rose old.write_faults new.write_faults → ⊥) → HasRisen end old new → (fault : DeviceFault) → end ≡ Err fault → ⊥
unrisen end old new reads writes risen faults.Input is = reads (subst (λ (e : Result RunEnd DeviceFault). HasRisen e old new) is risen)
unrisen end old new reads writes risen faults.Output is = writes (subst (λ (e : Result RunEnd DeviceFault). HasRisen e old new) is risen)
unrisen end old new reads writes risen faults.Seen is = writes (subst (λ (e : Result RunEnd DeviceFault). HasRisen e old new) is risen)

-- a class that isn't caught is one of the program's
class_by : UncaughtClassesAreThere → (cs : List ClassFile) (n memory : ℕ) (reset : machine.MachineState) (limit : ℕ) (told told' : Told) (end : Result RunEnd DeviceFault) (counts : Counts)
    → RanSo (linked_setting cs n memory) reset limit told told' (record { end = end; counts = counts }) → HasClass cs end
class_by law cs n memory reset limit told told' (Ok (ends.Uncaught class)) counts r =
    let x = r.runs in
    law cs (linked_setting cs n memory).places n memory x.last.machine x.last.state class x.run.stands.stands x.holds
class_by law cs n memory reset limit told told' (Ok ends.Ended) counts r = tt
class_by law cs n memory reset limit told told' (Ok ends.Spent) counts r = tt
class_by law cs n memory reset limit told told' (Err fault) counts r = tt

pub class_of : UncaughtClassesAreThere → (cs : List ClassFile) (n memory : ℕ) (reset : machine.MachineState) (limit : ℕ) (told told' : Told) (f : ProgramEnd) → RanSo (linked_setting cs n memory) reset limit told told' f → HasClass cs f.end
class_of law cs n memory reset limit told told' f r = class_by law cs n memory reset limit told told' f.end f.counts r
