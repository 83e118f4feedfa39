-- A certificate that meets the conditions holds, and one that doesn't is refused by the first that fails.
use Rattle.std.proofs.Common.{◌≡◌, ℕ, List, [], ◌∷◌, Option, refl, ◌∙◌, ap, ap₂, subst, ◌⊎◌, inl, inr, ⊎_elim}
use Rattle.std.specs.Prelude.{Vec}
use Rattle.std.specs.declared.alloc.Global.{Global}
use Rattle.std.specs.List.{concat}
use Rattle.outside.specs.Outside.{Grew}
use Rattle.class_pool.specs.declared.class.ClassFile.{ClassFile}
use Rattle.program_tables.specs.Resolved.{resolved}
use Rattle.name_laws.specs.Written.{written_name}
use Rattle.bytecode_model.specs.Program.{body_of}
use Rattle.bound_texts.specs.declared.loops.BoundsFault.TheVariants as texts
use Rattle.bound_texts.specs.Loops.Bounds.{LoopBound}
use Rattle.bound_texts.specs.Loops.Laws.{GivesOne, ReadIsNotRefused}
use Rattle.certificates.specs.Certificate.{Certificate}
use Rattle.certificates.specs.Laws.{HasOneCertificate}
use Rattle.ascii_text.specs.Line.{lines_of as text_lines}
use Rattle.bound_rules.specs.declared.faults.CheckFault.{CheckFault}
use Rattle.bound_rules.specs.Conditions.{MeetsConditions}
use Rattle.bound_rules.specs.Refused.{IsCertRefused}
use Rattle.bound_rules.specs.Laws.{FaultsAreOne, RefusedIsNotMet}
use Rattle.answer_lines.specs.AnalysisLines.{held_parts, fault_parts}
use Rattle.answer_lines.specs.declared.analysis.AnalysisFault.{AnalysisFault}
use Rattle.answer_lines.specs.declared.analysis.AnalysisFault.TheVariants as analysis
use Rattle.answer_lines.specs.declared.analysis.Held.{Held}
use Rattle.analysis_commands.specs.declared.check.CheckRefusal.{CheckRefusal}
use Rattle.analysis_commands.specs.declared.check.CheckRefusal.TheVariants as check
use Rattle.analysis_commands.specs.Analysis.{timing_of, bounds_of, IsAnalysisFault}
use Rattle.analysis_commands.specs.Checking.{FailsBy, IsCheckRefusal, fault_name}
use Rattle.activations.specs.Warrant.{BoundsActivations}
use Rattle.command_line.specs.declared.command.Settings.{Settings}
use Rattle.command_line.specs.declared.command.Command.TheVariants.{Check}
use Rattle.jopizer.specs.Linked.{Parts}
use Rattle.jopizer.specs.Laws.{OneLinked, LinkedImagesAreRead}
use Rattle.endings.specs.declared.outcome.Refusal.TheVariants.{Check as NotChecked}
use Rattle.endings.specs.declared.outcome.Ending.{Ending}
use Rattle.endings.specs.declared.outcome.Ending.TheVariants as endings
use Rattle.endings.specs.declared.outcome.Outcome.{Outcome}
use Rattle.endings.specs.declared.outcome.Outcome.TheVariants as outcomes
use Rattle.endings.specs.Line.{line_of}
use Rattle.endings.specs.World.{IsQuiet}
use Rattle.endings.specs.AnalysisFaults.{fault_ending}
use Rattle.ask_commands.specs.Checking.{refusal_ending, Checks, EndsHeld, EndsRefused}
use Rattle.jop_cli.specs.Tasks.{checking}
use Rattle.jop_cli.specs.Answer.{outcome_of}
use Rattle.jop_cli.specs.Calls.{Call, NothingFailed, LacksMemory}
use Rattle.jop_cli.specs.promises.Check.{ChecksTexts, CheckingIsComplete, FaultsAreAnswered}
use Rattle.jop_cli.specs.promises.Answers.{AnswersLine}
use Rattle.jop_cli.proofs.Wholly.{IsWholly, wholly, executed, lacks}
use Rattle.jop_cli.proofs.RunningLaw.{not_more}
use Rattle.jop_cli.proofs.AskingLaw.{Comes, comes}
use Rattle.jop_cli.proofs.AskingLaw as asked

-- what this certificate comes to, with these bounds: it meets the conditions, or is refused by the first that fails; or there was no memory
data Settled (cs : List ClassFile) (s : Settings) (lines : List LoopBound) (c : Certificate) (ending : Ending) : Type 0 where
  holds : (held : Held) → ending ≡ endings.Holds held → MeetsConditions (resolved cs) (timing_of s) (bounds_of cs lines) c → BoundsActivations (resolved cs) (timing_of s) (bounds_of cs lines) c.root c.bound → held.name.items ≡ written_name cs c.root → held.bound ≡ c.bound → Settled cs s lines c ending
  fails : (fault : CheckFault) (name : Vec ℕ Global) → ending ≡ endings.NotHeld fault name → IsCertRefused (resolved cs) (timing_of s) (bounds_of cs lines) c fault → name.items ≡ fault_name cs fault → Settled cs s lines c ending
  lacking : ending ≡ endings.NoMemory → Settled cs s lines c ending

module _ (one : GivesOne) (not_refused : ReadIsNotRefused) (certified : HasOneCertificate) (c : Call) (s : Settings) (image : ℕ) (l : Parts) (lines : List LoopBound) (certificate : Certificate) (h : ChecksTexts c s image l lines certificate) where
  held_settled : (ending : Ending) → EndsHeld l.classes s h.bounds_text h.cert_text ending → Settled l.classes s lines certificate ending
  held_settled ending e =
      let k = e.shows.meets in
      let same_lines : k.bounds ≡ lines = one h.bounds_text k.bounds lines k.reads.bounds_read h.read in
      let same : k.certificate ≡ certificate = certified (text_lines h.cert_text) k.certificate certificate k.reads.cert_read h.text in
      let meets = subst (λ (b : List LoopBound). MeetsConditions (resolved l.classes) (timing_of s) (bounds_of l.classes b) k.certificate) same_lines k.meets in
      let of_lines = subst (λ (b : List LoopBound). BoundsActivations (resolved l.classes) (timing_of s) (bounds_of l.classes b) e.held.root e.held.bound) same_lines e.shows.holds in
      let of_root = subst (λ (m : ℕ). BoundsActivations (resolved l.classes) (timing_of s) (bounds_of l.classes lines) m e.held.bound) (k.root ∙ ap (λ (x : Certificate). x.root) same) of_lines in
      holds e.held e.says
      (subst (λ (x : Certificate). MeetsConditions (resolved l.classes) (timing_of s) (bounds_of l.classes lines) x) same meets)
      (subst (λ (o : Option ℕ). BoundsActivations (resolved l.classes) (timing_of s) (bounds_of l.classes lines) certificate.root o) (k.bound ∙ ap (λ (x : Certificate). x.bound) same) of_root)
      (k.name ∙ ap (λ (x : Certificate). written_name l.classes x.root) same)
      (k.bound ∙ ap (λ (x : Certificate). x.bound) same)

  fails_settled : (ending : Ending) (fault : CheckFault) (name : Vec ℕ Global) → ending ≡ endings.NotHeld fault name → FailsBy l.classes s h.bounds_text h.cert_text fault → name.items ≡ fault_name l.classes fault → Settled l.classes s lines certificate ending
  fails_settled ending fault name says k is =
      let same_lines : k.bounds ≡ lines = one h.bounds_text k.bounds lines k.reads.bounds_read h.read in
      let same : k.certificate ≡ certificate = certified (text_lines h.cert_text) k.certificate certificate k.reads.cert_read h.text in
      let refused = subst (λ (b : List LoopBound). IsCertRefused (resolved l.classes) (timing_of s) (bounds_of l.classes b) k.certificate fault) same_lines k.refused in
      fails fault name says (subst (λ (x : Certificate). IsCertRefused (resolved l.classes) (timing_of s) (bounds_of l.classes lines) x fault) same refused) is

  analysed : (ending : Ending) (fault : AnalysisFault) → IsAnalysisFault l.classes s h.bounds_text fault → ending ≡ fault_ending s fault → Settled l.classes s lines certificate ending
  analysed ending (analysis.MethodTooLong m name blocks) cause says =
      absurd (not_more (body_of (resolved l.classes) m) s.blocks s.block_words blocks cause.0.code (h.codes m) cause.0.more)
  analysed ending (analysis.BadBounds line) cause says =
      let e : texts.Line line ≡ texts.NoMemory = not_refused h.bounds_text lines (texts.Line line) h.read cause.1 in
      absurd (cc)
  analysed ending (analysis.TwiceBound line) cause says =
      let e : texts.Twice line ≡ texts.NoMemory = not_refused h.bounds_text lines (texts.Twice line) h.read cause.1 in
      absurd (cc)
  analysed ending analysis.NoMemory cause says = lacking says

  refused_settled : (ending : Ending) (r : EndsRefused l.classes s h.bounds_text h.cert_text ending) → Settled l.classes s lines certificate ending
  refused_settled ending r = by_refusal r.refusal r.cause r.says
    where
      by_refusal : (refusal : CheckRefusal) → IsCheckRefusal l.classes s h.bounds_text h.cert_text refusal → ending ≡ refusal_ending s refusal → Settled l.classes s lines certificate ending
      by_refusal (check.NoAnalysis fault) cause says = analysed ending fault cause says
      by_refusal (check.BadCert line) cause says = absurd (cause.1.first.none certificate h.text)
      by_refusal (check.Fails fault name) cause says = fails_settled ending fault name says cause.0 cause.1
      by_refusal check.NoMemory cause says = lacking says

  program_settled : (ending : Ending) → Checks l.classes s h.bounds_text h.cert_text ending → Settled l.classes s lines certificate ending
  program_settled ending checks = ⊎_elim (held_settled ending) (refused_settled ending) checks

  -- ---- the files

  answer_settled : (ending : Ending) → Comes c (checking s image) l (h.bytes ∷ h.bounds_text ∷ h.cert_text ∷ []) ending → Settled l.classes s lines certificate ending × IsQuiet c.old c.new
  answer_settled ending (asked.puts text is written put sound) = absurd is
  answer_settled ending (asked.says checks quiet sound) = (program_settled ending checks, quiet)
  answer_settled ending (asked.lacking is quiet) = (lacking is, quiet)

  settled : OneLinked → LinkedImagesAreRead → NothingFailed c → Settled l.classes s lines certificate c.answered.ending × IsQuiet c.old c.new
  settled linked_one images n =
      answer_settled c.answered.ending
      (comes linked_one images c n (checking s image) l (h.bytes ∷ h.bounds_text ∷ h.cert_text ∷ []) h.told.many h.told h.is_linked h.is_file c.answered.ending
      (executed c (Check s image h.bounds h.last) h.command))

-- ---- what is answered

module _ (c : Call) (ending : Ending) (w : IsWholly c ending) (quiet : IsQuiet c.old c.new) where
  pub answers : (e : Ending) (outcome : Outcome) (parts : List (List ℕ)) → ending ≡ e → outcome_of e ≡ outcome → line_of c.words e ≡ concat parts → AnswersLine c outcome parts
  answers e outcome parts is of line = record {
    outcome_is = w.outcome ∙ (ap outcome_of is ∙ of);
    line = subst (λ (x : List ℕ). Grew c.err_old c.err_new x) (ap (line_of c.words) is ∙ line) w.line;
    quiet = quiet;
  }

  holds_answered : (cs : List ClassFile) (s : Settings) (lines : List LoopBound) (d : Certificate) → RefusedIsNotMet → MeetsConditions (resolved cs) (timing_of s) (bounds_of cs lines) d → Settled cs s lines d ending
      → AnswersLine c outcomes.Holds (held_parts (written_name cs d.root) d.bound) ⊎ LacksMemory c
  holds_answered cs s lines d law meets (holds held is meets' kept name bound) =
      inl (answers (endings.Holds held) outcomes.Holds (held_parts (written_name cs d.root) d.bound) is refl (ap₂ (λ (n : List ℕ) (b : Option ℕ). concat (held_parts n b)) name bound))
  holds_answered cs s lines d law meets (fails fault name is refused name_is) = absurd (law (resolved cs) (timing_of s) (bounds_of cs lines) d fault refused meets)
  holds_answered cs s lines d law meets (lacking is) = inr (lacks c ending w is quiet)

  fault_answered : (cs : List ClassFile) (s : Settings) (lines : List LoopBound) (d : Certificate) (fault : CheckFault) → RefusedIsNotMet → FaultsAreOne → IsCertRefused (resolved cs) (timing_of s) (bounds_of cs lines) d fault → Settled cs s lines d ending
      → AnswersLine c (outcomes.Refused (NotChecked fault)) (fault_parts fault (fault_name cs fault)) ⊎ LacksMemory c
  fault_answered cs s lines d fault law faults refused (holds held is meets kept name bound) = absurd (law (resolved cs) (timing_of s) (bounds_of cs lines) d fault refused meets)
  fault_answered cs s lines d fault law faults refused (fails other name is refused' name_is) =
      let same : other ≡ fault = faults (resolved cs) (timing_of s) (bounds_of cs lines) d other fault refused' refused in
      inl (answers (endings.NotHeld other name) (outcomes.Refused (NotChecked fault)) (fault_parts fault (fault_name cs fault)) is
      (ap (λ (f : CheckFault). outcomes.Refused (NotChecked f)) same)
      (ap (λ (n : List ℕ). concat (fault_parts other n)) name_is ∙ ap (λ (f : CheckFault). concat (fault_parts f (fault_name cs f))) same))
  fault_answered cs s lines d fault law faults refused (lacking is) = inr (lacks c ending w is quiet)

pub checking_is_complete : GivesOne → ReadIsNotRefused → HasOneCertificate → OneLinked → LinkedImagesAreRead → RefusedIsNotMet → CheckingIsComplete
checking_is_complete one not_refused certified linked_one images law c s image l lines d h n meets =
    let did = settled one not_refused certified c s image l lines d h linked_one images n in
    holds_answered c c.answered.ending (wholly c n) did.1 l.classes s lines d law meets did.0

pub faults_are_answered : GivesOne → ReadIsNotRefused → HasOneCertificate → OneLinked → LinkedImagesAreRead → RefusedIsNotMet → FaultsAreOne → FaultsAreAnswered
faults_are_answered one not_refused certified linked_one images law faults c s image l lines d fault h n refused =
    let did = settled one not_refused certified c s image l lines d h linked_one images n in
    fault_answered c c.answered.ending (wholly c n) did.1 l.classes s lines d fault law faults refused did.0
