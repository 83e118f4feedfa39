-- What a call shows that answers that a certificate holds, or that one is written: its bound is kept.
use Rattle.std.proofs.Common.{◌≡◌, ℕ, ◌+◌, List, Option, sym, ◌∙◌, ap, ap₂, subst, refl, ⊎_elim}
use Rattle.std.specs.Prelude.{Vec}
use Rattle.std.specs.declared.alloc.Global.{Global}
use Rattle.std.specs.List.{concat}
use Rattle.outside.specs.Outside.{Grew}
use Rattle.program_tables.specs.Resolved.{resolved}
use Rattle.name_laws.specs.Written.{written_name}
use Rattle.activations.specs.Warrant.{BoundsActivations}
use Rattle.command_line.specs.declared.command.Settings.{Settings}
use Rattle.command_line.specs.declared.command.Command.TheVariants.{Check, Bound}
use Rattle.answer_lines.specs.AnalysisLines.{held_parts}
use Rattle.analysis_commands.specs.Analysis.{timing_of, bounds_of}
use Rattle.endings.specs.declared.outcome.Answer.{Answer}
use Rattle.endings.specs.declared.outcome.Answer.TheVariants.{Text, Ends}
use Rattle.endings.specs.declared.outcome.Ending.{Ending}
use Rattle.endings.specs.declared.outcome.Outcome.TheVariants as outcomes
use Rattle.endings.specs.Line.{text_of_word, line_of}
use Rattle.endings.specs.Linking.{files_of}
use Rattle.ask_commands.specs.Checking.{refusal_ending, EndsHeld}
use Rattle.ask_commands.specs.Bounding.{Bounds}
use Rattle.ask_commands.specs.Asking.{AnswersLinked, Answers, AsksRead, AsksFiles}
use Rattle.endings.specs.Putting.{PutsAnswer}
use Rattle.jop_cli.specs.Tasks.{checking, bounding}
use Rattle.jop_cli.specs.Answer.{outcome_of}
use Rattle.jop_cli.specs.Calls.{Call}
use Rattle.jop_cli.specs.promises.Check.{ShowsHeld, CheckedBoundsAreKept}
use Rattle.jop_cli.specs.promises.Bound.{ShowsWritten, WrittenBoundsAreKept}
use Rattle.jop_cli.proofs.Refusing.{IsRefusing, not_written, not_holds, refusal_refuses, cause_refuses}
use Rattle.jop_cli.proofs.Refusing.{refusing_by, bytes_refuse, image_refuses, operands_refuse, bare_refuses}
use Rattle.jop_cli.proofs.Wholly.{IsWholly, wholly_written, wholly_held, executed}

-- ---- `check`

module _ (c : Call) (s : Settings) (image : ℕ) (w : IsWholly c c.answered.ending) where
  shows_held : (r : AsksRead c.words (checking s image) c.old c.new c.answered.ending) (e : Ending) → c.answered.ending ≡ e → (a : AnswersLinked c.words (checking s image).question r.operands (Ends e))
      → EndsHeld a.linked.classes s (text_of_word r.operands 1) (text_of_word r.operands 2) e → ShowsHeld c s image
  shows_held r e same a h =
      let k = h.shows.meets in
      let cs = a.linked.classes in
      let says : line_of c.words c.answered.ending ≡ concat (held_parts (written_name cs k.certificate.root) k.certificate.bound) =
      ap (line_of c.words) (same ∙ h.says) ∙ ap₂ (λ (n : List ℕ) (b : Option ℕ). concat (held_parts n b)) k.name k.bound in
      let of_root = subst (λ (m : ℕ). BoundsActivations (resolved cs) (timing_of s) (bounds_of cs k.bounds) m h.held.bound) k.root h.shows.holds in
      record {
        files = r.operands;
        are = r.are;
        linked = a.linked;
        is_linked = a.is_linked;
        is_file = a.is_file;
        are_resolved = a.are_resolved;
        setting = a.setting;
        codes = k.reads.codes_fit;
        lines = k.bounds;
        read = k.reads.bounds_read;
        certificate = k.certificate;
        text = k.reads.cert_read;
        meets = k.meets;
        says = subst (λ (x : List ℕ). Grew c.err_old c.err_new x) says w.line;
        kept = subst (λ (b : Option ℕ). BoundsActivations (resolved cs) (timing_of s) (bounds_of cs k.bounds) k.certificate.root b) k.bound of_root;
      }

  module _ (is : c.outcome ≡ outcomes.Holds) where
    not_refused : (e : Ending) → c.answered.ending ≡ e → IsRefusing e → ⊥
    not_refused e same refuses = not_holds e refuses (ap outcome_of (sym same) ∙ (sym w.outcome ∙ is))

    of_answer : (r : AsksRead c.words (checking s image) c.old c.new c.answered.ending) (answer : Answer) → Answers c.words (checking s image).question r.operands answer
        → PutsAnswer answer c.old.out c.new.out c.old.out_faults c.new.out_faults c.answered.ending → ShowsHeld c s image
    of_answer r (Text text) answers puts =
        let outcome : outcome_of c.answered.ending ≡ outcomes.Holds = sym w.outcome ∙ is in
        ⊎_elim
        (λ whole. let clash : outcomes.Written ≡ outcomes.Holds = ap outcome_of (sym whole.0) ∙ outcome in absurd (cc))
        (λ part. let clash : outcomes.WriteFault ≡ outcomes.Holds = ap outcome_of (sym part.0) ∙ outcome in absurd (cc))
        puts
    of_answer r (Ends e) answers puts =
        ⊎_elim
        (λ linked. ⊎_elim
        (λ fault. absurd (not_refused e puts.0 (bytes_refuse (text_of_word r.operands 0) e fault)))
        (λ a. ⊎_elim (shows_held r e puts.0 a) (λ h. absurd (not_refused e puts.0 (refusing_by e (refusal_ending s h.refusal) h.says (refusal_refuses s h.refusal)))) a.answers)
        linked.1)
        (λ bare. absurd (not_refused e puts.0 (⊎_elim
        (image_refuses (text_of_word r.operands 0) e)
        (λ b. bare_refuses (checking s image).question b.image r.operands e b.answers)
        bare.1)))
        answers

    of_asks : AsksFiles c.words (checking s image) c.old c.new c.answered.ending → ShowsHeld c s image
    of_asks asks =
        ⊎_elim
        (λ fault. absurd (not_refused c.answered.ending refl (operands_refuse image (image + 3) (files_of c.old) (files_of c.new) c.answered.ending fault.0)))
        (λ r. of_answer r r.answer r.answers r.puts)
        asks

pub checked_bounds_are_kept : CheckedBoundsAreKept
checked_bounds_are_kept c s image bounds last command is = of_asks c s image (wholly_held c is) is (executed c (Check s image bounds last) command)

-- ---- `bound`

module _ (c : Call) (s : Settings) (method image : ℕ) (w : IsWholly c c.answered.ending) where
  shows_written : (r : AsksRead c.words (bounding s method image) c.old c.new c.answered.ending) (text : Vec ℕ Global) → Grew c.old.out c.new.out text.items → (a : AnswersLinked c.words (bounding s method image).question r.operands (Text text))
      → Bounds a.linked.classes s (text_of_word r.operands 1) (text_of_word c.words method) text.items → ShowsWritten c s method image
  shows_written r text put a b =
      let k = b.is in
      record {
        files = r.operands;
        are = r.are;
        linked = a.linked;
        is_linked = a.is_linked;
        is_file = a.is_file;
        are_resolved = a.are_resolved;
        setting = a.setting;
        codes = k.codes_fit;
        lines = k.bounds;
        read = k.bounds_read;
        certificate = k.certificate;
        is = k.is;
        put = subst (λ (x : List ℕ). Grew c.old.out c.new.out x) k.text_is put;
        kept = b.holds;
      }

  module _ (is : c.outcome ≡ outcomes.Written) where
    none_refused : (e : Ending) → c.answered.ending ≡ e → IsRefusing e → ⊥
    none_refused e same refuses = not_written e refuses (ap outcome_of (sym same) ∙ (sym w.outcome ∙ is))

    written_by : (r : AsksRead c.words (bounding s method image) c.old c.new c.answered.ending) (answer : Answer) → Answers c.words (bounding s method image).question r.operands answer
        → PutsAnswer answer c.old.out c.new.out c.old.out_faults c.new.out_faults c.answered.ending → ShowsWritten c s method image
    written_by r (Text text) answers puts =
        ⊎_elim
        (λ whole. ⊎_elim
        (λ linked. ⊎_elim (λ fault. absurd fault) (λ a. shows_written r text whole.1 a a.answers) linked.1)
        (λ bare. absurd (⊎_elim (λ fault. fault) (λ b. b.answers) bare.1))
        answers)
        (λ part. let clash : outcomes.WriteFault ≡ outcomes.Written = ap outcome_of (sym part.0) ∙ (sym w.outcome ∙ is) in absurd (cc))
        puts
    written_by r (Ends e) answers puts =
        absurd (none_refused e puts.0 (⊎_elim
        (λ linked. ⊎_elim
        (bytes_refuse (text_of_word r.operands 0) e)
        (λ a. refusing_by e _ a.answers.says (cause_refuses s a.answers.cause))
        linked.1)
        (λ bare. ⊎_elim (image_refuses (text_of_word r.operands 0) e) (λ b. bare_refuses (bounding s method image).question b.image r.operands e b.answers) bare.1)
        answers))

    written_of : AsksFiles c.words (bounding s method image) c.old c.new c.answered.ending → ShowsWritten c s method image
    written_of asks =
        ⊎_elim
        (λ fault. absurd (none_refused c.answered.ending refl (operands_refuse image (image + 2) (files_of c.old) (files_of c.new) c.answered.ending fault.0)))
        (λ r. written_by r r.answer r.answers r.puts)
        asks

pub written_bounds_are_kept : WrittenBoundsAreKept
written_bounds_are_kept c s method image bounds command is = written_of c s method image (wholly_written c is) is (executed c (Bound s method image bounds) command)
