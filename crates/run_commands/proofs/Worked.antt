-- What came of the class is told of its number of methods.
use Rattle.std.proofs.Common.{◌≡◌, ℕ, ◌<◌, ◌≤◌, List, length, take, Option, refl, sym, subst, arith, inr, ⊎_elim, lit≤}
use Rattle.class_pool.specs.declared.class.ClassFile.{ClassFile}
use Rattle.program_tables.specs.Resolved.{resolved}
use Rattle.bytecode_model.specs.Program.{body_of}
use Rattle.lists.proofs.Lemmas.{some_is, if_at}
use Rattle.jopizer.specs.Methods.Fitting.{code_blocks}
use Rattle.bound_texts.specs.declared.loops.BoundsFault.TheVariants as faults
use Rattle.bound_texts.specs.Loops.Bounds.{LoopBound}
use Rattle.bound_laws.specs.Soundness.Laws.{CertificatesAreSound}
use Rattle.command_line.specs.declared.command.Settings.{Settings}
use Rattle.work_gen.specs.Work.{bounds_text}
use Rattle.work_gen.specs.Bounds.{main_text, adder_bounds}
use Rattle.work_gen.specs.Laws.{OnlyTheseAreRead}
use Rattle.answer_lines.specs.declared.bound.BoundCause.{BoundCause}
use Rattle.answer_lines.specs.declared.analysis.AnalysisFault.{AnalysisFault}
use Rattle.answer_lines.specs.declared.analysis.AnalysisFault.TheVariants as analysis
use Rattle.analysis_commands.specs.Analysis.{EachFits, timing_of, bounds_of, IsAnalysisFault}
use Rattle.analysis_commands.specs.Bounding as bounding
use Rattle.analysis_commands.specs.Bounding.{IsBoundNumber, IsBoundBy, MethodHasName}
use Rattle.bound_rules.specs.Bounding.{IsCause}
use Rattle.answer_lines.specs.declared.line.Counts.{Counts}
use Rattle.jopizer.specs.Linked.{Parts}
use Rattle.outside.specs.Outside.{Grew, Rose}
use Rattle.endings.specs.declared.outcome.Ending.{Ending}
use Rattle.endings.specs.declared.outcome.Ending.TheVariants as endings
use Rattle.endings.specs.World.{World}
use Rattle.endings.specs.Leaving.{FailsRisen}
use Rattle.run_commands.specs.Working.{IsWork, Returned, IsMainBound, ForbidsMain, ForbidsAs, IsWorkLine, PutsWholeLine, PutsLineFront, NotWorked, Works}
use Rattle.endings.specs.Settings.{usual_settings}

-- what holds of a program with settings and a text holds of these that they are
pub as_usual : (R : List ClassFile → Settings → List ℕ → Type 0) (n : ℕ) (had cs : List ClassFile) (s : Settings) (text : List ℕ) → had ≡ cs → s ≡ usual_settings → text ≡ bounds_text n → R had s text → R cs usual_settings (bounds_text n)
as_usual R n had cs s text same usual is h =
    subst (λ (t : List ℕ). R cs usual_settings t) is (subst (λ (x : Settings). R cs x text) usual (subst (λ (x : List ClassFile). R x s text) same h))

-- ---- the bound of main

module _ (n : ℕ) (few : n ≤ 1000) (only : OnlyTheseAreRead) (cs : List ClassFile) where
  pub main_bounded : CertificatesAreSound → (bound : Option ℕ) → IsBoundNumber cs usual_settings (bounds_text n) main_text bound → IsMainBound n cs bound
  main_bounded sound bound h =
      let B : List LoopBound → Type 0 = λ bs. IsBoundBy (resolved cs) (timing_of usual_settings) (bounds_of cs bs) (MethodHasName cs main_text) h.certificate in
      let is : B (adder_bounds n) = subst B ((only n few).0 h.bounds h.bounds_read) h.is in
      record {
        certificate = h.certificate;
        is = is;
        bound_is = h.bound_is;
        holds = sound (resolved cs) (timing_of usual_settings) (bounds_of cs (adder_bounds n)) h.certificate (lit≤ tt) (lit≤ tt) is.meets;
      }

  pub main_forbidden : (cause : BoundCause) (subject : List ℕ) → bounding.IsForbidden cs usual_settings (bounds_text n) main_text cause subject → ForbidsMain n cs cause subject
  main_forbidden cause subject h =
      let C : List LoopBound → Type 0 = λ bs. IsCause (resolved cs) (timing_of usual_settings) (bounds_of cs bs) (MethodHasName cs main_text) h.refusal in
      record { refusal = h.refusal; is = subst C ((only n few).0 h.bounds h.bounds_read) h.is; cause_is = h.cause_is; subject_is = h.subject_is }

  -- the codes fit, and the text is read: an analysis wants nothing but memory
  pub only_memory : EachFits usual_settings cs → (fault : AnalysisFault) → IsAnalysisFault cs usual_settings (bounds_text n) fault → fault ≡ analysis.NoMemory
  only_memory codes (analysis.MethodTooLong m name blocks) h =
      let first = h.0 in
      let there = some_is (body_of (resolved cs) m) (λ b. blocks ≡ code_blocks 64 b) first.code in
      let fits = if_at (body_of (resolved cs) m) there.0 (λ b. code_blocks 64 b ≤ 16) there.1 (codes m) in
      absurd (omega (arith, first.more, there.2, fits))
  only_memory codes (analysis.BadBounds line) h =
      let none = (only n few).1 (faults.Line line) h.1 in absurd (cc)
  only_memory codes (analysis.TwiceBound line) h =
      let none = (only n few).1 (faults.Twice line) h.1 in absurd (cc)
  only_memory codes analysis.NoMemory h = refl

-- ---- what is put

pub forbidden_work : (n : ℕ) (l : Parts) (output : List ℕ) (counts : Counts) (ending : Ending) → IsWork n l → Returned l output counts → ForbidsAs n l.classes ending → NotWorked n ending
forbidden_work n l output counts ending is returned forbids = inr (inr (record { linked = l; is = is; output = output; counts = counts; returned = returned; forbids = forbids }))

pub puts_whole : (n : ℕ) (line bytes : List ℕ) (old new : Option (List ℕ)) (before now : ℕ) → bytes ≡ line → IsWorkLine n line → Grew old new bytes → before ≤ now → PutsWholeLine n old new before now
puts_whole n line bytes old new before now same is put later = record { line = bytes; is = subst (IsWorkLine n) (sym same) is; put = put; later = later }

pub puts_front : (n : ℕ) (line bytes : List ℕ) (old new : Option (List ℕ)) (before now : ℕ) → bytes ≡ line → IsWorkLine n line → (k : ℕ) × (k < length bytes) × Grew old new (take k bytes) → Rose before now → PutsLineFront n old new before now
puts_front n line bytes old new before now same is front rose =
    record { line = bytes; is = subst (IsWorkLine n) (sym same) is; count = front.0; part = front.1; put = front.2; rose = rose }

-- ---- nothing is taken from the input

no_input : (n : ℕ) (old new : World) → Works n old new endings.InputFault → ⊥
no_input n old new works =
    ⊎_elim
    (λ written. let e = written.0 in absurd (cc))
    (λ rest. ⊎_elim (λ fault. let e = fault.0 in absurd (cc)) (λ none. ⊎_elim (λ link. link) (λ later. ⊎_elim (λ s. s.stops) (λ f. f.forbids) later) none.0) rest)
    works.0

pub works_risen : (n : ℕ) (old new : World) (ending : Ending) (before now : ℕ) → Works n old new ending → FailsRisen ending before now
works_risen n old new endings.InputFault before now works = absurd (no_input n old new works)
works_risen n old new ending before now works = tt
