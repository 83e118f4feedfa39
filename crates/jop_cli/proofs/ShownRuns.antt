-- What a call of `run` or of `trace` shows that answers how the run ended; and what a certificate that holds promises of it.
use Rattle.std.proofs.Common.{◌≡◌, ℕ, List, [], sym, subst, inl, inr, ⊎_elim}
use Rattle.image_file.specs.Bare.{BareContent}
use Rattle.jop_core.specs.Reset.{bare_reset, linked_reset}
use Rattle.boundary.specs.Setting.{bare_setting}
use Rattle.program_tables.specs.Resolved.{resolved}
use Rattle.method_flow.specs.declared.timing.Timing.{Timing}
use Rattle.activations.specs.Warrant.{BoundsActivations}
use Rattle.command_line.specs.declared.command.Settings.{Settings}
use Rattle.jopizer.specs.Linked.{Parts}
use Rattle.jopizer.specs.Laws.{OneLinked}
use Rattle.analysis_commands.specs.Analysis.{timing_of, bounds_of}
use Rattle.endings.specs.declared.outcome.Refusal.TheVariants as refusals
use Rattle.endings.specs.declared.outcome.Ending.{Ending}
use Rattle.endings.specs.declared.outcome.Ending.TheVariants as endings
use Rattle.endings.specs.declared.show.Show.{Show}
use Rattle.endings.specs.declared.show.Show.TheVariants as shows
use Rattle.endings.specs.Show.{bare_shown, linked_shown}
use Rattle.endings.specs.World.{IsUntaken}
use Rattle.endings.specs.Line.{text_of_word}
use Rattle.run_commands.specs.LinkedFile.{EndsAs, RunsLinkedBytes}
use Rattle.endings.specs.Settings.{linked_setting}
use Rattle.run_commands.specs.BareFile as bare
use Rattle.run_commands.specs.BareFile.{RunsBareBytes}
use Rattle.jop_cli.specs.declared.task.Task.{Task}
use Rattle.jop_cli.specs.Answer.{DoesTask, FileFault, RunsFile, outcome_of, outcome_unsaid, lent_of, lent_without_input}
use Rattle.jop_cli.specs.Calls.{Call}
use Rattle.jop_cli.specs.Courses.{RanLinked, RanBare}
use Rattle.jop_cli.specs.promises.Activations.{BoundInRun, BoundsHoldInRuns, CheckedRunsAreKept}
use Rattle.jop_cli.specs.promises.Runs.{IsOver, RanLinkedFile, RanBareFile, ShowsRun, RunsAreShown, RunsComeToBoundaries}
use Rattle.jop_cli.proofs.Refusing.{IsRefusing, bytes_refuse, image_refuses}
use Rattle.jop_cli.proofs.Wholly.{IsWholly, executed}
use Rattle.jop_cli.proofs.Coming.{ended, uncaught, spent}

-- ---- which outcomes aren't of a run that is over

unsaid_over : (e : Ending) → IsOver (outcome_unsaid e) → ⊥
unsaid_over (endings.Ended counts) over = over
unsaid_over e over = absurd over

pub refused_over : (e : Ending) → IsRefusing e → IsOver (outcome_of e) → ⊥
refused_over (endings.Ended counts) refuses over = refuses
refused_over (endings.Uncaught class name counts) refuses over = refuses
refused_over (endings.Spent counts) refuses over = refuses
refused_over (endings.CycleEnded slots) refuses over = refuses
refused_over (endings.CycleUncaught class name slots) refuses over = refuses
refused_over (endings.CycleSpent slots) refuses over = refuses
refused_over e refuses over = absurd over

file_refuses : (word : ℕ) (c : Call) (e : Ending) → FileFault word c.old c.new e → IsRefusing e
file_refuses word c (endings.Refused (refusals.TooBig operand sum)) fault = tt
file_refuses word c endings.ReadFault fault = tt
file_refuses word c endings.NoMemory fault = tt
file_refuses word c e fault = absurd fault

module _ (c : Call) (settings : Settings) (show : Show) where
  -- what was linked
  linked_ran : (l : Parts) (e : Ending) → IsWholly c e → IsOver (outcome_of e) → EndsAs settings show l (lent_of c.old) (lent_of c.new) e → RanLinked c settings show l
  linked_ran l (endings.Ended counts) w over h = record {
    config = h.config;
    has = h.has;
    ran = ended c l.classes (linked_setting l.classes settings.stack h.config.memory) (linked_reset settings.stack l.laid.words h.config) settings.cycles (lent_of c.old) (lent_of c.new) (linked_shown l.classes show) counts h.ran w;
  }
  linked_ran l (endings.Uncaught class name counts) w over (h, names) = record {
    config = h.config;
    has = h.has;
    ran = uncaught c l.classes (linked_setting l.classes settings.stack h.config.memory) (linked_reset settings.stack l.laid.words h.config) settings.cycles (lent_of c.old) (lent_of c.new) (linked_shown l.classes show) class name counts names h.ran w;
  }
  linked_ran l (endings.Spent counts) w over h = record {
    config = h.config;
    has = h.has;
    ran = spent c l.classes (linked_setting l.classes settings.stack h.config.memory) (linked_reset settings.stack l.laid.words h.config) settings.cycles (lent_of c.old) (lent_of c.new) (linked_shown l.classes show) counts h.ran w;
  }
  linked_ran l (endings.CycleEnded slots) w over h = absurd h
  linked_ran l (endings.CycleUncaught class name slots) w over h = absurd h
  linked_ran l (endings.CycleSpent slots) w over h = absurd h
  linked_ran l e w over h = absurd over

  linked_shows : (bytes : List ℕ) (e : Ending) → IsWholly c e → IsOver (outcome_of e) → RunsLinkedBytes settings show bytes (lent_of c.old) (lent_of c.new) e → RanLinkedFile c settings show bytes
  linked_shows bytes e w over runs =
      ⊎_elim
      (λ fault. absurd (refused_over e (bytes_refuse bytes e fault.0) over))
      (λ r. record { linked = r.linked; is_linked = r.is_linked; is_file = r.is_file; ran = linked_ran r.linked e w over r.ends_as })
      runs

  -- a bare image
  image_ran : (image : BareContent) (e : Ending) → IsWholly c e → IsOver (outcome_of e) → IsUntaken c.old c.new → bare.RanImageWith settings show image (lent_without_input c.old) (lent_without_input c.new) e
      → RanBare c settings show image
  image_ran image (endings.Ended counts) w over untaken h = record {
    config = h.config;
    has = h.has;
    ran = ended c [] (bare_setting image settings.stack h.config.memory) (bare_reset settings.stack image h.config) settings.cycles (lent_without_input c.old) (lent_without_input c.new) (bare_shown show) counts h.ran w;
    input = untaken;
  }
  image_ran image (endings.Spent counts) w over untaken h = record {
    config = h.config;
    has = h.has;
    ran = spent c [] (bare_setting image settings.stack h.config.memory) (bare_reset settings.stack image h.config) settings.cycles (lent_without_input c.old) (lent_without_input c.new) (bare_shown show) counts h.ran w;
    input = untaken;
  }
  image_ran image (endings.Uncaught class name counts) w over untaken h = absurd h.ran
  image_ran image (endings.CycleEnded slots) w over untaken h = absurd h.ran
  image_ran image (endings.CycleUncaught class name slots) w over untaken h = absurd h.ran
  image_ran image (endings.CycleSpent slots) w over untaken h = absurd h.ran
  image_ran image e w over untaken h = absurd over

  bare_shows : (bytes : List ℕ) (e : Ending) → IsWholly c e → IsOver (outcome_of e) → IsUntaken c.old c.new → RunsBareBytes settings show bytes (lent_without_input c.old) (lent_without_input c.new) e → RanBareFile c settings show bytes
  bare_shows bytes e w over untaken runs =
      ⊎_elim
      (λ fault. absurd (refused_over e (image_refuses bytes e fault.0) over))
      (λ r. ⊎_elim
      (λ long. absurd (refused_over e (subst IsRefusing (sym long.ending_is) tt) over))
      (λ ran. record { image = r.image; bare = r.bare; ran = image_ran r.image e w over untaken ran })
      r.ran)
      runs

  -- the file of a word
  file_shows : (word : ℕ) (e : Ending) → IsWholly c e → IsOver (outcome_of e) → RunsFile settings show word c.old c.new e → ShowsRun c settings show word
  file_shows word e w over runs =
      ⊎_elim
      (λ fault. absurd (refused_over e (file_refuses word c e fault.0) over))
      (λ read. ⊎_elim
      (λ r. record { bytes = r.bytes; reads = r.reads; shows = inr (bare_shows r.bytes e w over r.input r.runs) })
      (λ r. record { bytes = r.bytes; reads = r.reads.reads; shows = inl (linked_shows r.bytes e w over r.runs) })
      read)
      runs

-- the whole line was put
pub wholly_over : (c : Call) → IsOver c.outcome → IsWholly c c.answered.ending
wholly_over c over =
    ⊎_elim
    (λ whole. record { line = whole.0; outcome = whole.1 })
    (λ less. absurd (unsaid_over c.answered.ending (subst IsOver less.1 over)))
    c.answered.said.said

pub runs_are_shown : RunsAreShown
runs_are_shown c command settings show word is task over =
    let w = wholly_over c over in
    let did = executed c command is in
    let runs : RunsFile settings show word c.old c.new c.answered.ending = subst (λ (t : Task). DoesTask c.words t c.old c.new c.answered.ending) task did in
    file_shows c settings show word c.answered.ending w (subst IsOver w.outcome over) runs

-- ---- the boundary to which a run came

pub runs_come_to_boundaries : RunsComeToBoundaries
runs_come_to_boundaries c settings shows.Output l r = record { boot = r.ran.boot; is_boot = r.ran.is_boot; steps = r.ran.run.steps; goes = r.ran.run.stages }
runs_come_to_boundaries c settings (shows.Trace cycles) l r = record { boot = r.ran.boot; is_boot = r.ran.is_boot; steps = r.ran.run.steps; goes = r.ran.run.stages }

-- ---- a certificate that holds

pub checked_runs_are_kept : OneLinked → BoundsHoldInRuns → CheckedRunsAreKept
checked_runs_are_kept one hold x keeps =
    let held = x.held in
    let l = x.file.linked in
    let root = held.certificate.root in
    let bound = held.certificate.bound in
    let same : held.linked ≡ l = one (text_of_word held.files 0) held.linked l held.is_linked x.file.is_linked held.is_file x.file.is_file in
    let of_linked = subst (λ (p : Parts). BoundsActivations (resolved p.classes) (timing_of x.checked) (bounds_of p.classes held.lines) root bound) same held.kept in
    let kept = subst (λ (t : Timing). BoundsActivations (resolved l.classes) t (bounds_of l.classes held.lines) root bound) (sym x.timing) of_linked in
    let in_run : BoundInRun = record {
      call = x.call;
      settings = x.settings;
      show = x.show;
      linked = l;
      ran = x.file.ran;
      method = root;
      first = x.first;
      last = x.last;
      begins = x.begins;
      ended = x.ended;
      bound_of = bounds_of l.classes held.lines;
      bound = bound;
      holds = kept;
    } in
    hold in_run keeps
