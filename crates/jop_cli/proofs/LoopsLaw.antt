-- What a call shows that answers that the lines of loops are written: the loops count.
use Rattle.std.proofs.Common.{◌≡◌, ℕ, ◌+◌, Bool, true, false, List, sym, ◌∙◌, ap, subst, refl, inl, inr, ⊎_elim}
use Rattle.std.specs.Prelude.{Contains, Vec}
use Rattle.std.specs.declared.alloc.Global.{Global}
use Rattle.outside.specs.Outside.{Grew}
use Rattle.command_line.specs.declared.command.Command.TheVariants.{Loops}
use Rattle.loop_rules.specs.declared.found.FoundLoop.{FoundLoop}
use Rattle.loop_rules.specs.Sites.{int_at}
use Rattle.class_pool.specs.declared.class.ClassFile.{ClassFile}
use Rattle.program_tables.specs.Resolved.{resolved}
use Rattle.activation_laws.specs.Counted.Found.{FoundLoopsCount}
use Rattle.activation_laws.specs.Counted.FurtherRuns.{FurtherFoundLoopsCount}
use Rattle.endings.specs.declared.outcome.Answer.{Answer}
use Rattle.endings.specs.declared.outcome.Answer.TheVariants.{Text, Ends}
use Rattle.endings.specs.declared.outcome.Ending.{Ending}
use Rattle.endings.specs.declared.outcome.Ending.TheVariants as endings
use Rattle.endings.specs.declared.outcome.Outcome.TheVariants as outcomes
use Rattle.endings.specs.Line.{text_of_word}
use Rattle.ask_commands.specs.Needs.{AnswersLoops}
use Rattle.endings.specs.Linking.{files_of}
use Rattle.ask_commands.specs.Asking.{AnswersLinked, AnswersBare, Answers, AsksRead, AsksFiles}
use Rattle.endings.specs.Putting.{PutsAnswer}
use Rattle.jop_cli.specs.Tasks.{finding_loops}
use Rattle.jop_cli.specs.Answer.{outcome_of}
use Rattle.jop_cli.specs.Calls.{Call}
use Rattle.jop_cli.specs.promises.Loops.{LinesCount, ShowsLoops, WrittenLoopsCount}
use Rattle.jop_cli.specs.promises.Images.{HasNoLoop}
use Rattle.jop_cli.proofs.Refusing.{IsRefusing, not_written, refusing_by, bytes_refuse, image_refuses, operands_refuse, bare_refuses}
use Rattle.jop_cli.proofs.Wholly.{IsWholly, wholly_written, executed}

lacking : (further : Bool) (cs : List ClassFile) (e : Ending) → AnswersLoops further cs (Ends e) → e ≡ endings.NoMemory
lacking true cs e is = is
lacking false cs e is = is

module _ (count : FoundLoopsCount) (further_count : FurtherFoundLoopsCount) (c : Call) (image : ℕ) (w : IsWholly c c.answered.ending) where
  lines_count : (further : Bool) (r : AsksRead c.words (finding_loops further image) c.old c.new c.answered.ending) (text : Vec ℕ Global)
      → Grew c.old.out c.new.out text.items → AnswersLinked c.words (finding_loops further image).question r.operands (Text text)
      → LinesCount c further (text_of_word r.operands 0)
  lines_count false r text put a = record {
    linked = a.linked;
    is_linked = a.is_linked;
    is_file = a.is_file;
    are_resolved = a.are_resolved;
    text = text.items;
    lines = a.answers;
    put = put;
    counts = λ (x : FoundLoop) (is : Contains a.answers.found x). count (resolved a.linked.classes) (int_at a.answers.constants) x ((a.answers.counted.each x).0 is);
  }
  lines_count true r text put a = record {
    linked = a.linked;
    is_linked = a.is_linked;
    is_file = a.is_file;
    are_resolved = a.are_resolved;
    text = text.items;
    lines = a.answers;
    put = put;
    counts = λ (x : FoundLoop) (is : Contains a.answers.found x). further_count (resolved a.linked.classes) a.answers.known x ((a.answers.counted.each x).0 is);
  }

  has_none : (further : Bool) (r : AsksRead c.words (finding_loops further image) c.old c.new c.answered.ending) (text : Vec ℕ Global) → Grew c.old.out c.new.out text.items
      → AnswersBare (finding_loops further image).question r.operands (Text text) → HasNoLoop c (text_of_word r.operands 0)
  has_none further r text put b = record { image = b.image; bare = b.bare; put = subst (λ (x : List ℕ). Grew c.old.out c.new.out x) b.answers put }

  module _ (further : Bool) (is : c.outcome ≡ outcomes.Written) where
    not_refused : (e : Ending) → c.answered.ending ≡ e → IsRefusing e → ⊥
    not_refused e same refuses = not_written e refuses (ap outcome_of (sym same) ∙ (sym w.outcome ∙ is))

    of_text : (r : AsksRead c.words (finding_loops further image) c.old c.new c.answered.ending) (text : Vec ℕ Global) → Grew c.old.out c.new.out text.items → Answers c.words (finding_loops further image).question r.operands (Text text)
        → ShowsLoops c further image
    of_text r text put answers = record {
      files = r.operands;
      are = r.are;
      shows = ⊎_elim
          (λ linked. ⊎_elim (λ fault. absurd fault) (λ a. inl (lines_count further r text put a)) linked.1)
          (λ bare. ⊎_elim (λ fault. absurd fault) (λ b. inr (has_none further r text put b)) bare.1)
          answers;
    }

    of_answer : (r : AsksRead c.words (finding_loops further image) c.old c.new c.answered.ending) (answer : Answer) → Answers c.words (finding_loops further image).question r.operands answer
        → PutsAnswer answer c.old.out c.new.out c.old.out_faults c.new.out_faults c.answered.ending → ShowsLoops c further image
    of_answer r (Text text) answers puts =
        ⊎_elim
        (λ whole. of_text r text whole.1 answers)
        (λ part. let clash : outcomes.WriteFault ≡ outcomes.Written = ap outcome_of (sym part.0) ∙ (sym w.outcome ∙ is) in absurd (cc))
        puts
    of_answer r (Ends e) answers puts =
        absurd (not_refused e puts.0 (⊎_elim
        (λ linked. ⊎_elim
        (bytes_refuse (text_of_word r.operands 0) e)
        (λ a. refusing_by e endings.NoMemory (lacking further a.linked.classes e a.answers) tt)
        linked.1)
        (λ bare. ⊎_elim (image_refuses (text_of_word r.operands 0) e) (λ b. bare_refuses (finding_loops further image).question b.image r.operands e b.answers) bare.1)
        answers))

    of_asks : AsksFiles c.words (finding_loops further image) c.old c.new c.answered.ending → ShowsLoops c further image
    of_asks asks =
        ⊎_elim
        (λ fault. absurd (not_refused c.answered.ending refl (operands_refuse image (image + 1) (files_of c.old) (files_of c.new) c.answered.ending fault.0)))
        (λ r. of_answer r r.answer r.answers r.puts)
        asks

pub written_loops_count : FoundLoopsCount → FurtherFoundLoopsCount → WrittenLoopsCount
written_loops_count count further_count c further image command is =
    of_asks count further_count c image (wholly_written c is) further is (executed c (Loops further image) command)
