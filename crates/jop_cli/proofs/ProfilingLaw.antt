-- What `profile` answers of what was linked, where nothing fails; and that the bounds in its lines are kept.
use Rattle.std.proofs.Common.{◌≡◌, ℕ, ◌+◌, ◌<◌, true, false, List, [], ◌∷◌, length, Option, Some}
use Rattle.std.proofs.Common.{None, Ok, Err, refl, sym, ◌∙◌, ap, subst, arith, ⊎_elim, ◌⊎◌, inl, inr}
use Rattle.std.proofs.lemmas.Option.{slice_get_within}
use Rattle.lists.proofs.Lemmas.{some_same}
use Rattle.class_pool.specs.declared.class.ClassFile.{ClassFile}
use Rattle.outside.specs.Files.{AreFiles}
use Rattle.bytecode_model.specs.Program.{body_of}
use Rattle.bound_texts.specs.Loops.Bounds.{LoopBound}
use Rattle.bound_texts.specs.Loops.Laws.{ReadIsNotRefused}
use Rattle.bound_texts.specs.declared.loops.BoundsFault.TheVariants as texts
use Rattle.program_tables.specs.Resolved.{resolved}
use Rattle.jop_core.specs.Reset.{linked_reset}
use Rattle.activations.specs.Setting.{Setting}
use Rattle.activations.specs.Activations.{Stage}
use Rattle.activations.specs.Warrant.{BoundsActivations}
use Rattle.run_follower.specs.declared.watch.profile.Profile.{Profile}
use Rattle.run_follower.specs.Watch.Watched.{activations, of_method, profile_of}
use Rattle.activation_laws.specs.Profiled.{FirstHasTiming, ProfileIsWithin, ProfilesKeepBounds}
use Rattle.bound_laws.specs.Soundness.Laws.{CertificatesAreSound}
use Rattle.std.specs.declared.result.Result.{Result}
use Rattle.device_traits.specs.declared.fault.DeviceFault.{DeviceFault}
use Rattle.answer_lines.specs.declared.line.Counts.{Counts}
use Rattle.boundary.specs.declared.runs.RunEnd.{RunEnd}
use Rattle.boundary.specs.declared.runs.RunEnd.TheVariants as ends
use Rattle.boundary.specs.Followed.{RunsAreInARow}
use Rattle.method_bounds.specs.declared.answer.BoundAnswer.{BoundAnswer}
use Rattle.method_bounds.specs.declared.answer.BoundAnswer.TheVariants.{Cycles, Never, Refused}
use Rattle.method_bounds.specs.Answers.{IsBoundAnswer}
use Rattle.bound_finder.specs.Certified.{IsCertified}
use Rattle.run_devices.specs.Lent.{Lent, wired}
use Rattle.command_line.specs.declared.command.Settings.{Settings}
use Rattle.command_line.specs.declared.command.Command.TheVariants as commands
use Rattle.command_line.specs.Range.{AreSettings}
use Rattle.answer_lines.specs.declared.analysis.AnalysisFault.{AnalysisFault}
use Rattle.answer_lines.specs.declared.analysis.AnalysisFault.TheVariants as analysis
use Rattle.analysis_commands.specs.Analysis.{timing_of, bounds_of}
use Rattle.answer_lines.specs.BoundsFaults.{IsBoundsFault}
use Rattle.jopizer.specs.Linked.{Parts, image_of}
use Rattle.jopizer.specs.Laws.{OneLinked, LinkedImagesAreRead}
use Rattle.endings.specs.declared.outcome.Refusal.TheVariants as refusals
use Rattle.endings.specs.declared.outcome.Ending.{Ending}
use Rattle.endings.specs.declared.outcome.Ending.TheVariants as endings
use Rattle.endings.specs.Phase.{is_linked as is_linked_file}
use Rattle.endings.specs.World.{World, IsQuiet}
use Rattle.endings.specs.Settings.{linked_setting}
use Rattle.run_commands.specs.LinkedFile.{SaysEnd}
use Rattle.endings.specs.Fitting.{IsUnheld}
use Rattle.endings.specs.Linking.{files_of, OperandsFault}
use Rattle.endings.specs.AnalysisFaults.{fault_ending}
use Rattle.run_commands.specs.Following.{heres_of, run_stages}
use Rattle.run_commands.specs.Profiling.{RanProfile, EndsRun, ProfilesLinked, ProfilesParts, ProfilesImage, ProfilesFiles, input_of, unwatched, bound_told}
use Rattle.jop_cli.specs.Calls.{Call, NothingFailed, LacksMemory}
use Rattle.jop_cli.specs.promises.Profile.{ProfilesTexts, IsProfiled, ProfilesAreComplete, ProfilesAreKept}
use Rattle.jop_cli.proofs.Wholly.{IsWholly, wholly, executed, lacks, same_files, files_read}
use Rattle.jop_cli.proofs.RunningLaw.{not_more, begins_linked, is_read}
use Rattle.jop_cli.proofs.HoldingLaw.{reset_timing}
use Rattle.run_commands.proofs.Followed.{rose, unrisen}
use Rattle.run_commands.proofs.InRuns.{rows_are_seen}

-- ---- what is answered

-- nothing was done with what was lent
pub quiet_of : (old new : World) → unwatched new ≡ unwatched old → new.watch ≡ old.watch → IsQuiet old new
quiet_of old new e watch = record {
  input = record { left = ap (λ (x : Lent). x.left) e; read_faults = ap (λ (x : Lent). x.read_faults) e };
  out = ap (λ (x : Lent). x.held) e;
  out_faults = ap (λ (x : Lent). x.write_faults) e;
  watch = watch;
}

-- a run on which no call fails ends without a fault
pub ends_run : (cs : List ClassFile) (end : Result RunEnd DeviceFault) (counts : Counts) (ending : Ending) → ((fault : DeviceFault) → end ≡ Err fault → ⊥) → SaysEnd cs end counts ending → EndsRun ending
ends_run cs (Ok ends.Ended) counts ending none is = subst EndsRun (sym is) tt
ends_run cs (Ok (ends.Uncaught class)) counts (endings.Uncaught number name said) none is = tt
ends_run cs (Ok (ends.Uncaught class)) counts ending none is = absurd is
ends_run cs (Ok ends.Spent) counts ending none is = subst EndsRun (sym is) tt
ends_run cs (Err fault) counts ending none is = absurd (none fault refl)

module _ (one : OneLinked) (images : LinkedImagesAreRead) (not_refused : ReadIsNotRefused) (c : Call) (n : NothingFailed c) (s : Settings) (image : ℕ) (l : Parts) (bounds_text : List ℕ) (h : ProfilesTexts c s image l bounds_text) where
  abbrev operands : List (List ℕ)
  operands = h.bytes ∷ bounds_text ∷ []

  abbrev Answer : Type 0
  Answer = IsProfiled c s l bounds_text ⊎ LacksMemory c

  abbrev old : Lent
  old = unwatched c.old

  abbrev new : Lent
  new = unwatched c.new

  -- the run
  ran_so : (ending : Ending) → IsWholly c ending → RanProfile s l bounds_text old new ending → Answer
  ran_so ending w r =
      let g : Setting = linked_setting l.classes s.stack r.ran.config.memory in
      let reset = linked_reset s.stack l.laid.words r.ran.config in
      let x = r.ran.profiles.ran in
      let none = unrisen r.followed.end (input_of old) (input_of new) n.input (λ written. omega (arith, written)) (rose g reset s.cycles (input_of old) (input_of new) r.followed x) in
      ⊎_elim
      (λ whole. inl (record {
        ending = ending;
        ran = r;
        ends = ends_run l.classes r.followed.end r.followed.counts ending none whole.2;
        outcome = w.outcome;
        puts = record { out = whole.0; err = w.line };
      }))
      (λ part. absurd (n.out part.1.rose))
      r.puts

  -- no machine, no bounds, or no memory
  unheld : (ending : Ending) → IsWholly c ending → IsQuiet c.old c.new → IsUnheld s l ending → Answer
  unheld (endings.TooLong method name blocks limit) w quiet is = absurd (not_more (body_of (resolved l.classes) method) s.blocks s.block_words blocks is.0.code (h.codes method) is.0.more)
  unheld (endings.Refused (refusals.MemoryTooSmall words given)) w quiet is = let fits = h.memory in absurd (omega (arith, fits, is.0.count, is.0.more))
  unheld endings.NoMemory w quiet is = inr (lacks c endings.NoMemory w refl quiet)
  unheld ending w quiet is = absurd is

  unbounded : (ending : Ending) → IsWholly c ending → IsQuiet c.old c.new → (fault : AnalysisFault) → IsBoundsFault bounds_text fault → ending ≡ fault_ending s fault → Answer
  unbounded ending w quiet (analysis.MethodTooLong m name blocks) is says = absurd is
  unbounded ending w quiet (analysis.BadBounds line) is says = let e : texts.Line line ≡ texts.NoMemory = not_refused bounds_text h.lines (texts.Line line) h.read is in absurd (cc)
  unbounded ending w quiet (analysis.TwiceBound line) is says = let e : texts.Twice line ≡ texts.NoMemory = not_refused bounds_text h.lines (texts.Twice line) h.read is in absurd (cc)
  unbounded ending w quiet analysis.NoMemory is says = inr (lacks c ending w says quiet)

  linked : (ending : Ending) → IsWholly c ending → c.new.watch ≡ c.old.watch → ProfilesLinked s l bounds_text old new ending → Answer
  linked ending w watch p =
      ⊎_elim
      (λ none.
      let quiet = quiet_of c.old c.new none.1 watch in
      ⊎_elim (unheld ending w quiet) (λ more. ⊎_elim (λ u. unbounded ending w quiet u.fault u.is u.says) (λ is. inr (lacks c ending w is quiet)) more) none.0)
      (ran_so ending w)
      p

  -- its bytes begin as those of a linked image
  not_bare : is_linked_file h.bytes ≡ false → ⊥
  not_bare bare =
      let clash : false ≡ true = sym bare ∙ begins_linked h.bytes (image_of l) h.is_file in
      absurd (cc)

  parts : (ending : Ending) → IsWholly c ending → c.new.watch ≡ c.old.watch → ProfilesParts s operands old new ending → Answer
  parts ending w watch p =
      let same : p.linked ≡ l = one h.bytes p.linked l p.is_linked h.is_linked p.is_file h.is_file in
      linked ending w watch (subst (λ (q : Parts). ProfilesLinked s q bounds_text old new ending) same p.profiles)

  of_image : (ending : Ending) → IsWholly c ending → c.new.watch ≡ c.old.watch → ProfilesImage s operands old new ending → Answer
  of_image ending w watch p =
      ⊎_elim
      (λ linked. ⊎_elim
      (λ fault. inr (lacks c ending w (is_read images h.bytes l h.is_linked h.is_file ending fault.0) (quiet_of c.old c.new fault.1 watch)))
      (parts ending w watch)
      linked.1)
      (λ bare. absurd (not_bare bare.0))
      p

  many : image + 2 ≡ c.old.words
  many = h.told.many

  of_files : (ending : Ending) → IsWholly c ending → ProfilesFiles s image c.old c.new ending → Answer
  of_files ending w p =
      ⊎_elim
      (λ fault. inr (lacks c ending w (files_read c image operands h.told n ending (subst (λ (e : ℕ). OperandsFault image e (files_of c.old) (files_of c.new) ending) many fault.0)) fault.1))
      (λ r.
      let are = subst (λ (e : ℕ). AreFiles c.old.files image e r.operands) many r.are in
      let same : r.operands ≡ operands = same_files c image operands r.operands h.told are in
      of_image ending w r.watch (subst (λ (x : List (List ℕ)). ProfilesImage s x old new ending) same r.profiles))
      p

pub profiles_are_complete : OneLinked → LinkedImagesAreRead → ReadIsNotRefused → ProfilesAreComplete
profiles_are_complete one images not_refused c s image l bounds_text h n =
    of_files one images not_refused c n s image l bounds_text h c.answered.ending (wholly c n) (executed c (commands.Profile s image h.bounds) h.command)

-- ---- what is kept

pub certified_of : CertificatesAreSound → (cs : List ClassFile) (s : Settings) (bounds : List LoopBound) (m : ℕ) (bound : Option ℕ) → AreSettings s → IsCertified (resolved cs) (timing_of s) (bounds_of cs bounds) m bound
    → BoundsActivations (resolved cs) (timing_of s) (bounds_of cs bounds) m bound
certified_of sound cs s bounds m bound are c =
    let B : ℕ → Option ℕ → Type 0 = λ k x. BoundsActivations (resolved cs) (timing_of s) (bounds_of cs bounds) k x in
    let kept = sound (resolved cs) (timing_of s) (bounds_of cs bounds) c.certificate are.read_most are.write_most c.meets in
    subst (λ (k : ℕ). B k bound) c.of_method (subst (B c.certificate.root) c.says kept)

pub certified : CertificatesAreSound → (cs : List ClassFile) (s : Settings) (bounds : List LoopBound) (m : ℕ) (answer : BoundAnswer) (bound : Option ℕ) → AreSettings s → bound_told answer ≡ Some bound
    → IsBoundAnswer (resolved cs) (timing_of s) (bounds_of cs bounds) m answer → BoundsActivations (resolved cs) (timing_of s) (bounds_of cs bounds) m bound
certified sound cs s bounds m answer bound are told is = by answer told is
  where
    of_certificate : (b : Option ℕ) → b ≡ bound → IsCertified (resolved cs) (timing_of s) (bounds_of cs bounds) m b → BoundsActivations (resolved cs) (timing_of s) (bounds_of cs bounds) m bound
    of_certificate b same c = certified_of sound cs s bounds m bound are (subst (λ (x : Option ℕ). IsCertified (resolved cs) (timing_of s) (bounds_of cs bounds) m x) same c)

    by : (a : BoundAnswer) → bound_told a ≡ Some bound → IsBoundAnswer (resolved cs) (timing_of s) (bounds_of cs bounds) m a → BoundsActivations (resolved cs) (timing_of s) (bounds_of cs bounds) m bound
    by (Cycles k) e a = of_certificate (Some k) (some_same (Some k) bound e) a.2
    by Never e a = of_certificate None (some_same None bound e) a.2
    by (Refused cause) e a = absurd (cc)

pub profiles_are_kept : CertificatesAreSound → RunsAreInARow → ProfilesKeepBounds → ProfilesAreKept
profiles_are_kept sound rows kept s l bounds_text old new ending r m row answer bound are row_is answer_is told keeps =
    let p = r.ran.profiles in
    let x = p.ran in
    let g : Setting = linked_setting l.classes s.stack r.ran.config.memory in
    let reset = linked_reset s.stack l.laid.words r.ran.config in
    let told' = wired (input_of old) in
    let then = wired (input_of new) in
    let a : Stage = record { machine = reset; state = x.boot } in
    let heres = heres_of g reset s.cycles told' then r.followed x in
    let stages = run_stages g reset s.cycles told' then r.followed x in
    let in_row = rows g s.cycles a x.now told' then r.followed.end x.runs in
    let seen = rows_are_seen g stages in_row.row in
    let timing : FirstHasTiming (timing_of s) stages = subst (FirstHasTiming (timing_of s)) (sym in_row.begins) (reset_timing s r.ran.config s.stack l.laid.words r.ran.has) in
    let bounds = certified sound l.classes s r.bounds m answer bound are told (r.answered.each m answer answer_is) in
    let there : m < length r.answers = slice_get_within r.answers m answer answer_is in
    let same : profile_of (of_method m (activations heres)) ≡ row = some_same (profile_of (of_method m (activations heres))) row (sym (p.rows_are.each m there) ∙ row_is) in
    subst (λ (k : Profile). ProfileIsWithin k bound) same (kept g stages heres (timing_of s) (bounds_of l.classes r.bounds) m bound x.is_setting seen timing bounds keeps)
