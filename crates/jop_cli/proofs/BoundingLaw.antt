-- A certificate is written where nothing forbids a bound, it holds, and what is answered else forbids one.
use Rattle.std.proofs.Common.{◌≡◌, ℕ, List, [], ◌∷◌, Some, sym, ◌∙◌, ap, subst, ◌⊎◌, inl, inr}
use Rattle.std.specs.Prelude.{Vec}
use Rattle.std.specs.declared.alloc.Global.{Global}
use Rattle.std.specs.List.{concat}
use Rattle.lists.proofs.Lemmas.{none≢some}
use Rattle.outside.specs.Outside.{Grew}
use Rattle.program_tables.specs.Resolved.{resolved}
use Rattle.bytecode_model.specs.Program.{body_of}
use Rattle.bound_texts.specs.declared.loops.BoundsFault.TheVariants as texts
use Rattle.bound_texts.specs.Loops.Bounds.{LoopBound}
use Rattle.bound_texts.specs.Loops.Laws.{GivesOne, ReadIsNotRefused}
use Rattle.certificates.specs.Certificate.{Certificate, IsInGrammar}
use Rattle.certificates.specs.Texts.{text_of}
use Rattle.bound_rules.specs.declared.faults.BoundRefusal.{BoundRefusal}
use Rattle.bound_rules.specs.declared.faults.BoundRefusal.TheVariants as forbids
use Rattle.bound_rules.specs.Bounding.{IsCause}
use Rattle.answer_lines.specs.declared.bound.BoundCause.{BoundCause}
use Rattle.answer_lines.specs.declared.unanswered.Cause.TheVariants as unanswered
use Rattle.answer_lines.specs.AnalysisLines.{cause_parts}
use Rattle.answer_lines.specs.declared.analysis.AnalysisFault.{AnalysisFault}
use Rattle.answer_lines.specs.declared.analysis.AnalysisFault.TheVariants as analysis
use Rattle.analysis_commands.specs.declared.bound.NotBounded.{NotBounded}
use Rattle.analysis_commands.specs.declared.bound.NotBounded.TheVariants as bound
use Rattle.analysis_commands.specs.Analysis.{timing_of, bounds_of, named_or_number, IsAnalysisFault}
use Rattle.analysis_commands.specs.Bounding.{MethodHasName, IsBoundBy, cause_of, subject_of, IsForbidden, IsNotBounded}
use Rattle.activations.specs.Warrant.{BoundsActivations}
use Rattle.command_line.specs.declared.command.Settings.{Settings}
use Rattle.command_line.specs.declared.command.Command.TheVariants.{Bound}
use Rattle.jopizer.specs.Linked.{Parts}
use Rattle.jopizer.specs.Laws.{OneLinked, LinkedImagesAreRead}
use Rattle.endings.specs.declared.outcome.Refusal.TheVariants.{Bound as Forbidden}
use Rattle.endings.specs.declared.outcome.Ending.{Ending}
use Rattle.endings.specs.declared.outcome.Ending.TheVariants as endings
use Rattle.endings.specs.declared.outcome.Outcome.TheVariants as outcomes
use Rattle.endings.specs.Line.{line_of}
use Rattle.endings.specs.World.{IsQuiet}
use Rattle.endings.specs.AnalysisFaults.{fault_ending}
use Rattle.ask_commands.specs.Bounding.{cause_ending, Bounds, EndsNotBounded}
use Rattle.jop_cli.specs.Tasks.{bounding}
use Rattle.jop_cli.specs.Answer.{outcome_of}
use Rattle.jop_cli.specs.Calls.{Call, NothingFailed, LacksMemory}
use Rattle.jop_cli.specs.promises.Bound.{BoundsTexts, IsBounded, Forbids, AnswersForbidden, BoundingIsComplete, BoundRefusalsAreCaused}
use Rattle.jop_cli.proofs.Wholly.{IsWholly, wholly, executed, lacks}
use Rattle.jop_cli.proofs.RunningLaw.{not_more}
use Rattle.jop_cli.proofs.AskingLaw.{IsSound, Comes, comes}
use Rattle.jop_cli.proofs.AskingLaw as asked
use Rattle.jop_cli.proofs.CheckingLaw.{answers}

-- what a method of this name comes to, with these bounds: a certificate was put, which holds; or this forbids a bound; or there was no memory
pub data Settled (c : Call) (s : Settings) (l : Parts) (lines : List LoopBound) (name : List ℕ) (ending : Ending) : Type 0 where
  bounded : ending ≡ endings.Written → (d : Certificate) → IsBoundBy (resolved l.classes) (timing_of s) (bounds_of l.classes lines) (MethodHasName l.classes name) d → IsInGrammar d → Grew c.old.out c.new.out (text_of d)
      → BoundsActivations (resolved l.classes) (timing_of s) (bounds_of l.classes lines) d.root d.bound → IsSound l → Settled c s l lines name ending
  forbidden : (cause : BoundCause) (subject : Vec ℕ Global) → ending ≡ endings.NotAnswered (unanswered.Bound cause) subject → (refusal : BoundRefusal)
      → IsCause (resolved l.classes) (timing_of s) (bounds_of l.classes lines) (MethodHasName l.classes name) refusal → cause_of refusal ≡ Some cause → subject.items ≡ subject_of (named_or_number l.classes) refusal
      → IsQuiet c.old c.new → IsSound l → Settled c s l lines name ending
  lacking : ending ≡ endings.NoMemory → IsQuiet c.old c.new → Settled c s l lines name ending

module _ (one : GivesOne) (not_refused : ReadIsNotRefused) (c : Call) (s : Settings) (image : ℕ) (l : Parts) (lines : List LoopBound) (name : List ℕ) (h : BoundsTexts c s image l lines name) where
  text_settled : (ending : Ending) → ending ≡ endings.Written → (text : List ℕ) → Bounds l.classes s h.bounds_text name text → Grew c.old.out c.new.out text → IsSound l → Settled c s l lines name ending
  text_settled ending says text b put sound =
      let k = b.is in
      let same : k.bounds ≡ lines = one h.bounds_text k.bounds lines k.bounds_read h.read in
      bounded says k.certificate
      (subst (λ (x : List LoopBound). IsBoundBy (resolved l.classes) (timing_of s) (bounds_of l.classes x) (MethodHasName l.classes name) k.certificate) same k.is)
      k.reads.grammar
      (subst (λ (x : List ℕ). Grew c.old.out c.new.out x) k.text_is put)
      (subst (λ (x : List LoopBound). BoundsActivations (resolved l.classes) (timing_of s) (bounds_of l.classes x) k.certificate.root k.certificate.bound) same b.holds)
      sound

  analysed : (ending : Ending) → IsQuiet c.old c.new → (fault : AnalysisFault) → IsAnalysisFault l.classes s h.bounds_text fault → ending ≡ fault_ending s fault → Settled c s l lines name ending
  analysed ending quiet (analysis.MethodTooLong m long blocks) cause says =
      absurd (not_more (body_of (resolved l.classes) m) s.blocks s.block_words blocks cause.0.code (h.codes m) cause.0.more)
  analysed ending quiet (analysis.BadBounds line) cause says =
      let e : texts.Line line ≡ texts.NoMemory = not_refused h.bounds_text lines (texts.Line line) h.read cause.1 in
      absurd (cc)
  analysed ending quiet (analysis.TwiceBound line) cause says =
      let e : texts.Twice line ≡ texts.NoMemory = not_refused h.bounds_text lines (texts.Twice line) h.read cause.1 in
      absurd (cc)
  analysed ending quiet analysis.NoMemory cause says = lacking says quiet

  forbidden_settled : (ending : Ending) → IsQuiet c.old c.new → IsSound l → (cause : BoundCause) (subject : Vec ℕ Global) → ending ≡ endings.NotAnswered (unanswered.Bound cause) subject → IsForbidden l.classes s h.bounds_text name cause subject.items
      → Settled c s l lines name ending
  forbidden_settled ending quiet sound cause subject says k =
      let same : k.bounds ≡ lines = one h.bounds_text k.bounds lines k.bounds_read h.read in
      forbidden cause subject says k.refusal
      (subst (λ (x : List LoopBound). IsCause (resolved l.classes) (timing_of s) (bounds_of l.classes x) (MethodHasName l.classes name) k.refusal) same k.is)
      k.cause_is k.subject_is quiet sound

  cause_settled : (ending : Ending) → IsQuiet c.old c.new → IsSound l → (cause : NotBounded) → IsNotBounded l.classes s h.bounds_text name cause → ending ≡ cause_ending s cause → Settled c s l lines name ending
  cause_settled ending quiet sound (bound.NoAnalysis fault) is says = analysed ending quiet fault is says
  cause_settled ending quiet sound (bound.Forbidden cause subject) is says = forbidden_settled ending quiet sound cause subject says is
  cause_settled ending quiet sound bound.NoMemory is says = lacking says quiet

  -- ---- the files

  answer_settled : (ending : Ending) → Comes c (bounding s h.method image) l (h.bytes ∷ h.bounds_text ∷ []) ending → Settled c s l lines name ending
  answer_settled ending (asked.puts text bounds written put sound) =
      text_settled ending written text.items (subst (λ (x : List ℕ). Bounds l.classes s h.bounds_text x text.items) h.named bounds) put sound
  answer_settled ending (asked.says ends quiet sound) =
      let e = subst (λ (x : List ℕ). EndsNotBounded l.classes s h.bounds_text x ending) h.named ends in
      cause_settled ending quiet sound e.cause e.is e.says
  answer_settled ending (asked.lacking is quiet) = lacking is quiet

  pub settled : OneLinked → LinkedImagesAreRead → NothingFailed c → Settled c s l lines name c.answered.ending
  settled linked_one images n =
      answer_settled c.answered.ending
      (comes linked_one images c n (bounding s h.method image) l (h.bytes ∷ h.bounds_text ∷ []) h.told.many h.told h.is_linked h.is_file c.answered.ending
      (executed c (Bound s h.method image h.bounds) h.command))

-- ---- what is answered

-- want of memory forbids nothing
pub forbids_so : (s : Settings) (l : Parts) (lines : List LoopBound) (name : List ℕ) (refusal : BoundRefusal) (cause : BoundCause) → cause_of refusal ≡ Some cause
    → IsCause (resolved l.classes) (timing_of s) (bounds_of l.classes lines) (MethodHasName l.classes name) refusal → Forbids s l lines name refusal
forbids_so s l lines name forbids.NoMemory cause is h = absurd (none≢some cause is)
forbids_so s l lines name forbids.NoMethod cause is h = h
forbids_so s l lines name (forbids.Recursion cycle) cause is h = h
forbids_so s l lines name (forbids.Irreducible m nodes) cause is h = h
forbids_so s l lines name (forbids.MissingBound m p) cause is h = h
forbids_so s l lines name (forbids.TooLarge m) cause is h = h

module _ (c : Call) (s : Settings) (l : Parts) (lines : List LoopBound) (name : List ℕ) (ending : Ending) (w : IsWholly c ending) where
  is_bounded : ending ≡ endings.Written → (d : Certificate) → IsBoundBy (resolved l.classes) (timing_of s) (bounds_of l.classes lines) (MethodHasName l.classes name) d → IsInGrammar d → Grew c.old.out c.new.out (text_of d)
      → IsBounded c s l lines name
  is_bounded says d is grammar put = record {
    outcome = w.outcome ∙ ap outcome_of says;
    certificate = d;
    is = is;
    grammar = grammar;
    puts = record { out = put; err = subst (λ (x : List ℕ). Grew c.err_old c.err_new x) (ap (line_of c.words) says) w.line };
  }

  complete : ((refusal : BoundRefusal) → ¬ Forbids s l lines name refusal) → Settled c s l lines name ending → IsBounded c s l lines name ⊎ LacksMemory c
  complete none (bounded says d is grammar put holds sound) = inl (is_bounded says d is grammar put)
  complete none (forbidden cause subject says refusal is cause_is subject_is quiet sound) = absurd (none refusal (forbids_so s l lines name refusal cause cause_is is))
  complete none (lacking says quiet) = inr (lacks c ending w says quiet)

  pub caused : (cause : BoundCause) → c.outcome ≡ outcomes.Refused (Forbidden cause) → Settled c s l lines name ending → AnswersForbidden c s l lines name cause
  caused cause answer (bounded says d is grammar put holds sound) =
      let clash : outcomes.Refused (Forbidden cause) ≡ outcomes.Written = sym answer ∙ (w.outcome ∙ ap outcome_of says) in
      absurd (cc)
  caused cause answer (forbidden other subject says refusal is cause_is subject_is quiet sound) =
      let e : outcomes.Refused (Forbidden other) ≡ outcomes.Refused (Forbidden cause) = sym (w.outcome ∙ ap outcome_of says) ∙ answer in
      let same : other ≡ cause = cc e in
      record {
        refusal = refusal;
        forbids = forbids_so s l lines name refusal other cause_is is;
        cause_is = cause_is ∙ ap (λ (x : BoundCause). Some x) same;
        answers = answers c ending w quiet (endings.NotAnswered (unanswered.Bound other) subject) (outcomes.Refused (Forbidden cause)) (cause_parts cause (subject_of (named_or_number l.classes) refusal)) says e
            (ap (λ (n : List ℕ). concat (cause_parts other n)) subject_is ∙ ap (λ (x : BoundCause). concat (cause_parts x (subject_of (named_or_number l.classes) refusal))) same);
      }
  caused cause answer (lacking says quiet) =
      let clash : outcomes.Refused (Forbidden cause) ≡ outcomes.NoMemory = sym answer ∙ (w.outcome ∙ ap outcome_of says) in
      absurd (cc)

pub bounding_is_complete : GivesOne → ReadIsNotRefused → OneLinked → LinkedImagesAreRead → BoundingIsComplete
bounding_is_complete one not_refused linked_one images c s image l lines name h n none =
    complete c s l lines name c.answered.ending (wholly c n) none (settled one not_refused c s image l lines name h linked_one images n)

pub bound_refusals_are_caused : GivesOne → ReadIsNotRefused → OneLinked → LinkedImagesAreRead → BoundRefusalsAreCaused
bound_refusals_are_caused one not_refused linked_one images c s image l lines name cause h n answer =
    caused c s l lines name c.answered.ending (wholly c n) cause answer (settled one not_refused c s image l lines name h linked_one images n)
