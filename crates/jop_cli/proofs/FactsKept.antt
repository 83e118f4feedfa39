-- What a call shows that answers that a certificate holds by facts, or that one is written by them: its bound is kept.
use Rattle.std.proofs.Common.{◌≡◌, ℕ, ◌+◌, List, sym, ◌∙◌, ap, subst, refl, ⊎_elim}
use Rattle.std.specs.Prelude.{Vec}
use Rattle.std.specs.declared.alloc.Global.{Global}
use Rattle.outside.specs.Outside.{Grew}
use Rattle.command_line.specs.declared.command.Settings.{Settings}
use Rattle.command_line.specs.declared.command.Command.TheVariants.{CheckWith, BoundWith}
use Rattle.endings.specs.declared.outcome.Answer.{Answer}
use Rattle.endings.specs.declared.outcome.Answer.TheVariants.{Text, Ends}
use Rattle.endings.specs.declared.outcome.Ending.{Ending}
use Rattle.endings.specs.declared.outcome.Outcome.TheVariants as outcomes
use Rattle.endings.specs.Line.{text_of_word, line_of}
use Rattle.endings.specs.Linking.{files_of}
use Rattle.endings.specs.Putting.{PutsAnswer}
use Rattle.ask_commands.specs.declared.priced_files.AskedWith.{AskedWith}
use Rattle.ask_commands.specs.Pricing.{unbounded_ending, unheld_ending, BoundsWith, EndsHeldWith}
use Rattle.ask_commands.specs.PricedFiles.{AnswersLinkedWith, AnswersWith, AsksReadWith, AsksFilesWith}
use Rattle.jop_cli.specs.Tasks.{checking_with, bounding_with}
use Rattle.jop_cli.specs.Answer.{outcome_of}
use Rattle.jop_cli.specs.Calls.{Call}
use Rattle.jop_cli.specs.promises.Facts.{ReadsLinkedWith, ShowsWrittenWith, WrittenFactBoundsAreKept, ShowsHeldWith, CheckedFactBoundsAreKept}
use Rattle.jop_cli.proofs.Refusing.{IsRefusing, not_written, not_holds, unbounded_refuses, unheld_refuses, file_of_facts_refuses}
use Rattle.jop_cli.proofs.Refusing.{refusing_by, bytes_refuse, image_refuses, operands_refuse, bare_refuses_with}
use Rattle.jop_cli.proofs.Wholly.{IsWholly, wholly_written, wholly_held, executed}

abbrev read_linked : (c : Call) (asked : AskedWith) (r : AsksReadWith c.words asked c.old c.new c.answered.ending) (answer : Answer) → AnswersLinkedWith c.words asked.question r.operands r.facts answer
    → ReadsLinkedWith c asked.facts asked.image asked.operands
read_linked c asked r answer a = record {
  files = r.operands;
  are = r.reads.are;
  facts_text = r.facts;
  facts_are = r.facts_are;
  linked = a.linked;
  is_linked = a.is_linked;
  is_file = a.is_file;
  are_resolved = a.are_resolved;
  setting = a.setting;
}

-- ---- `check`

module _ (c : Call) (s : Settings) (facts image : ℕ) (w : IsWholly c c.answered.ending) where
  abbrev Checked : Type 0
  Checked = AsksReadWith c.words (checking_with s facts image) c.old c.new c.answered.ending

  shows_held : (r : Checked) (e : Ending) → c.answered.ending ≡ e → (a : AnswersLinkedWith c.words (checking_with s facts image).question r.operands r.facts (Ends e))
      → EndsHeldWith a.linked.classes s (text_of_word r.operands 1) r.facts (text_of_word r.operands 2) e → ShowsHeldWith c s facts image
  shows_held r e same a h = record {
    reads = read_linked c (checking_with s facts image) r (Ends e) a;
    held = h.held;
    says = subst (λ (x : List ℕ). Grew c.err_old c.err_new x) (ap (line_of c.words) (same ∙ h.says)) w.line;
    shows = h.shows;
  }

  module _ (is : c.outcome ≡ outcomes.Holds) where
    not_refused : (e : Ending) → c.answered.ending ≡ e → IsRefusing e → ⊥
    not_refused e same refuses = not_holds e refuses (ap outcome_of (sym same) ∙ (sym w.outcome ∙ is))

    held_by : (r : Checked) (answer : Answer) → AnswersWith c.words (checking_with s facts image).question r.operands r.facts answer
        → PutsAnswer answer c.old.out c.new.out c.old.out_faults c.new.out_faults c.answered.ending → ShowsHeldWith c s facts image
    held_by r (Text text) answers puts =
        let outcome : outcome_of c.answered.ending ≡ outcomes.Holds = sym w.outcome ∙ is in
        ⊎_elim
        (λ whole. let clash : outcomes.Written ≡ outcomes.Holds = ap outcome_of (sym whole.0) ∙ outcome in absurd (cc))
        (λ part. let clash : outcomes.WriteFault ≡ outcomes.Holds = ap outcome_of (sym part.0) ∙ outcome in absurd (cc))
        puts
    held_by r (Ends e) answers puts =
        ⊎_elim
        (λ linked. ⊎_elim
        (λ fault. absurd (not_refused e puts.0 (bytes_refuse (text_of_word r.operands 0) e fault)))
        (λ a. ⊎_elim (shows_held r e puts.0 a) (λ h. absurd (not_refused e puts.0 (refusing_by e (unheld_ending s h.refusal) h.says (unheld_refuses s h.refusal)))) a.answers)
        linked.1)
        (λ bare. absurd (not_refused e puts.0 (⊎_elim
        (image_refuses (text_of_word r.operands 0) e)
        (λ b. bare_refuses_with (checking_with s facts image).question b.image r.operands r.facts e b.answers)
        bare.1)))
        answers

    held_of : AsksFilesWith c.words (checking_with s facts image) c.old c.new c.answered.ending → ShowsHeldWith c s facts image
    held_of asks =
        ⊎_elim
        (λ fault. absurd (not_refused c.answered.ending refl (operands_refuse image (image + 3) (files_of c.old) (files_of c.new) c.answered.ending fault.0)))
        (λ rest. ⊎_elim
        (λ f. absurd (not_refused c.answered.ending refl (file_of_facts_refuses facts _ _ _ _ c.answered.ending f.0.fault)))
        (λ r. held_by r r.answer r.answers r.puts)
        rest)
        asks

pub checked_fact_bounds_are_kept : CheckedFactBoundsAreKept
checked_fact_bounds_are_kept c s facts image bounds last command is =
    held_of c s facts image (wholly_held c is) is (executed c (CheckWith s facts image bounds last) command)

-- ---- `bound`

module _ (c : Call) (s : Settings) (method facts image : ℕ) (w : IsWholly c c.answered.ending) where
  abbrev Bounded : Type 0
  Bounded = AsksReadWith c.words (bounding_with s method facts image) c.old c.new c.answered.ending

  shows_written : (r : Bounded) (text : Vec ℕ Global) → Grew c.old.out c.new.out text.items → (a : AnswersLinkedWith c.words (bounding_with s method facts image).question r.operands r.facts (Text text))
      → BoundsWith a.linked.classes s (text_of_word r.operands 1) r.facts (text_of_word c.words method) text.items → ShowsWrittenWith c s method facts image
  shows_written r text put a b = record { reads = read_linked c (bounding_with s method facts image) r (Text text) a; text = text.items; put = put; shows = b }

  module _ (is : c.outcome ≡ outcomes.Written) where
    none_refused : (e : Ending) → c.answered.ending ≡ e → IsRefusing e → ⊥
    none_refused e same refuses = not_written e refuses (ap outcome_of (sym same) ∙ (sym w.outcome ∙ is))

    written_by : (r : Bounded) (answer : Answer) → AnswersWith c.words (bounding_with s method facts image).question r.operands r.facts answer
        → PutsAnswer answer c.old.out c.new.out c.old.out_faults c.new.out_faults c.answered.ending → ShowsWrittenWith c s method facts image
    written_by r (Text text) answers puts =
        ⊎_elim
        (λ whole. ⊎_elim
        (λ linked. ⊎_elim (λ fault. absurd fault) (λ a. shows_written r text whole.1 a a.answers) linked.1)
        (λ bare. absurd (⊎_elim (λ fault. fault) (λ b. b.answers) bare.1))
        answers)
        (λ part. let clash : outcomes.WriteFault ≡ outcomes.Written = ap outcome_of (sym part.0) ∙ (sym w.outcome ∙ is) in absurd (cc))
        puts
    written_by r (Ends e) answers puts =
        absurd (none_refused e puts.0 (⊎_elim
        (λ linked. ⊎_elim
        (bytes_refuse (text_of_word r.operands 0) e)
        (λ a. refusing_by e (unbounded_ending s a.answers.cause) a.answers.says (unbounded_refuses s a.answers.cause))
        linked.1)
        (λ bare. ⊎_elim
        (image_refuses (text_of_word r.operands 0) e)
        (λ b. bare_refuses_with (bounding_with s method facts image).question b.image r.operands r.facts e b.answers)
        bare.1)
        answers))

    written_of : AsksFilesWith c.words (bounding_with s method facts image) c.old c.new c.answered.ending → ShowsWrittenWith c s method facts image
    written_of asks =
        ⊎_elim
        (λ fault. absurd (none_refused c.answered.ending refl (operands_refuse image (image + 2) (files_of c.old) (files_of c.new) c.answered.ending fault.0)))
        (λ rest. ⊎_elim
        (λ f. absurd (none_refused c.answered.ending refl (file_of_facts_refuses facts _ _ _ _ c.answered.ending f.0.fault)))
        (λ r. written_by r r.answer r.answers r.puts)
        rest)
        asks

pub written_fact_bounds_are_kept : WrittenFactBoundsAreKept
written_fact_bounds_are_kept c s method facts image bounds command is =
    written_of c s method facts image (wholly_written c is) is (executed c (BoundWith s method facts image bounds) command)
