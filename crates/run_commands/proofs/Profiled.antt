-- The profile of a run of what was linked.
use Rattle.std.proofs.Common.{◌≡◌, ℕ, ◌<◌, ◌≤◌, List, length, refl, sym, ◌∙◌, ap, subst}
use Rattle.std.specs.Prelude.{◌↔◌, IsSome, IfOk, Result, Ok, Err}
use Rattle.std.proofs.Math.Path.{fun_ext}
use Rattle.program_tables.specs.Resolved.{resolved}
use Rattle.bytecode_model.specs.Program.{body_of}
use Rattle.method_flow.specs.Keeping.{BoundOf}
use Rattle.method_bounds.specs.Answers.{IsBoundAnswer}
use Rattle.method_bounds.specs.Lines.{name_in}
use Rattle.method_bounds.specs.Profiles.{profile_lines}
use Rattle.analysis_commands.specs.Analysis.{timing_of, bounds_of}
use Rattle.analysis_commands.proofs.Lifting.{bounds_same, named}
use Rattle.outside.specs.Outside.{Rose}
use Rattle.device_traits.specs.declared.fault.DeviceFault.{DeviceFault}
use Rattle.device_traits.specs.declared.fault.DeviceFault.TheVariants as faults
use Rattle.class_pool.specs.declared.class.ClassFile.{ClassFile}
use Rattle.jop_core.specs.Reset.{linked_reset}
use Rattle.answer_lines.specs.declared.line.Counts.{Counts}
use Rattle.run_follower.specs.Following.{followed}
use Rattle.run_follower.specs.declared.watch.profile.Profile.{Profile}
use Rattle.run_follower.specs.Watch.Counting.{Totals, totals_after, no_totals}
use Rattle.run_follower.specs.Watch.Promises.{rows_of, EachHasARow, ProfilesAreExact}
use Rattle.activation_laws.specs.Profiled.{SeenAreWithin}
use Rattle.boundary.specs.declared.runs.RunEnd.{RunEnd}
use Rattle.boundary.specs.declared.runs.RunEnd.TheVariants as ends
use Rattle.boundary.specs.Setting.{Setting}
use Rattle.boundary.specs.Activations.{Stage}
use Rattle.boundary.specs.Followed.{stages_of, RunsAreInARow}
use Rattle.run_devices.specs.Lent.{Lent, wired}
use Rattle.command_line.specs.declared.command.Settings.{Settings}
use Rattle.jopizer.specs.Linked.{Parts}
use Rattle.endings.specs.declared.outcome.Ending.{Ending}
use Rattle.endings.specs.declared.outcome.Ending.TheVariants as endings
use Rattle.run_commands.specs.declared.program_end.ProgramEnd.{ProgramEnd}
use Rattle.endings.specs.Leaving.{FailsRisen}
use Rattle.endings.specs.DeviceFaults.{fault_ending}
use Rattle.endings.specs.Settings.{linked_setting}
use Rattle.run_commands.specs.LinkedFile.{SaysEnd}
use Rattle.run_commands.specs.Following.{heres_of, FollowsWith}
use Rattle.endings.specs.Fitting.{CodesFit}
use Rattle.run_commands.specs.declared.profiling.Prepared.{Prepared}
use Rattle.run_commands.specs.Preparing.{IsPreparedBy}
use Rattle.run_commands.specs.Profiling.{AreRows, ProfilesWith, AreAnswers, PutsProfile, RanProfile, input_of}
use Rattle.run_commands.proofs.InRuns.{rows_are_seen, last_stands}

-- ---- what the totals come to

module _ (rows : RunsAreInARow) (within : SeenAreWithin) (long : EachHasARow) (exact : ProfilesAreExact) (s : Settings) (l : Parts) (old new : Lent) (methods : ℕ) (first last : Totals) (fresh : first ≡ no_totals methods s.stack) where
  profiles_so : (f : ProgramEnd) → FollowsWith totals_after s l (wired old) (wired new) first last f → ProfilesWith s l old new methods last.rows f
  profiles_so f h =
      let k = h.follows in
      let r = k.ran in
      let g : Setting = linked_setting l.classes s.stack h.config.memory in
      let reset = linked_reset s.stack l.laid.words h.config in
      let a : Stage = record { machine = reset; state = r.boot } in
      let heres = heres_of g reset s.cycles (wired old) (wired new) f r in
      let stages = stages_of g s.cycles a r.now (wired old) (wired new) f.end r.runs in
      let row = rows g s.cycles a r.now (wired old) (wired new) f.end r.runs in
      let seen = rows_are_seen g stages row.row in
      let few = within g stages heres r.is_setting seen (last_stands g stages row.row) k.small in
      let R : List Profile → Type 0 = λ xs. AreRows methods heres xs in
      let is : rows_of methods s.stack heres ≡ last.rows = sym (ap (λ (t : Totals). t.rows) (k.follower ∙ ap (λ (t : Totals). followed totals_after t heres) fresh)) in
      record {
        config = h.config;
        has = h.has;
        profiles = record { ran = r; rows_are = subst R is (record { long = long methods s.stack heres; each = exact methods s.stack heres few }) };
      }

pub profiles_of : {E : Type 0} → RunsAreInARow → SeenAreWithin → EachHasARow → ProfilesAreExact → (s : Settings) (l : Parts) (old new : Lent) (first last : Totals) (r : Result ProgramEnd E)
    → IfOk r (FollowsWith totals_after s l (wired old) (wired new) first last) → IfOk r (λ f. (methods : ℕ) → first ≡ no_totals methods s.stack → ProfilesWith s l old new methods last.rows f)
profiles_of rows within long exact s l old new first last (Ok f) h = λ methods fresh. profiles_so rows within long exact s l old new methods first last fresh f h
profiles_of rows within long exact s l old new first last (Err e) h = tt

-- ---- the ending

-- where the run's input failed, its count rose
fault_risen : (fault : DeviceFault) (ending : Ending) (before now : ℕ) → ending ≡ fault_ending fault → (◌≡◌ {A = Result RunEnd DeviceFault} (Err fault) (Err faults.Input) → Rose before now) → FailsRisen ending before now
fault_risen faults.Input ending before now is rose = subst (λ (e : Ending). FailsRisen e before now) (sym is) (rose refl)
fault_risen faults.Output ending before now is rose = subst (λ (e : Ending). FailsRisen e before now) (sym is) tt
fault_risen faults.Seen ending before now is rose = subst (λ (e : Ending). FailsRisen e before now) (sym is) tt

pub said_risen : (cs : List ClassFile) (end : Result RunEnd DeviceFault) (counts : Counts) (ending : Ending) (before now : ℕ) → SaysEnd cs end counts ending → (end ≡ Err faults.Input → Rose before now) → FailsRisen ending before now
said_risen cs (Ok ends.Ended) counts ending before now is rose = subst (λ (e : Ending). FailsRisen e before now) (sym is) tt
said_risen cs (Ok (ends.Uncaught class)) counts (endings.Uncaught number name said) before now is rose = tt
said_risen cs (Ok (ends.Uncaught class)) counts ending before now is rose = absurd is
said_risen cs (Ok ends.Spent) counts ending before now is rose = subst (λ (e : Ending). FailsRisen e before now) (sym is) tt
said_risen cs (Err fault) counts ending before now is rose = fault_risen fault ending before now is rose

-- ---- of an image

-- by the table of a program the answers are those of the program
answered_of : (cs : List ClassFile) (s : Settings) (bounds_text : List ℕ) (p : Prepared) (k : IsPreparedBy s cs bounds_text p) → AreAnswers (resolved cs) (timing_of s) (bounds_of cs k.bounds) p.answers.items
answered_of cs s bounds_text p k =
    let i = k.is in
    record {
      coded = subst (λ (n : ℕ). (m : ℕ) → IsSome (body_of (resolved cs) m) ↔ (m < n)) (sym i.long) i.flow.coded;
      each = λ m x at. subst (λ (b : BoundOf). IsBoundAnswer (resolved cs) (timing_of s) b m x) (bounds_same cs p.flow i.flow i.names k.bounds) (i.each (resolved cs) i.flow m x at);
    }

pub ran_profile : (s : Settings) (l : Parts) (bounds_text : List ℕ) (old new : Lent) (p : Prepared) (cs : List ClassFile) (rows : List Profile) (f : ProgramEnd) (ending : Ending) → cs ≡ l.classes → CodesFit s l → length l.laid.words ≤ s.memory
    → IsPreparedBy s l.classes bounds_text p → ProfilesWith s l (input_of old) (input_of new) (length p.flow.methods) rows f
    → PutsProfile cs (profile_lines (name_in p.flow) 0 rows p.answers.items) f old.held new.held old.write_faults new.write_faults ending → RanProfile s l bounds_text old new ending
ran_profile s l bounds_text old new p cs rows f ending classes codes memory k ran puts =
    let i = k.is in
    let T : List ClassFile → (ℕ → List ℕ) → Type 0 = λ xs name. PutsProfile xs (profile_lines name 0 rows p.answers.items) f old.held new.held old.write_faults new.write_faults ending in
    record {
      codes = codes;
      memory = memory;
      bounds = k.bounds;
      read = k.read;
      answers = p.answers.items;
      answered = answered_of l.classes s bounds_text p k;
      rows = rows;
      followed = f;
      ran = subst (λ (n : ℕ). ProfilesWith s l (input_of old) (input_of new) n rows f) (sym i.long) ran;
      puts = subst (T l.classes) (fun_ext (named l.classes p.flow i.flow i.names)) (subst (λ (xs : List ClassFile). T xs (name_in p.flow)) classes puts);
    }
