-- A question that is answered by a text, as the outcome alone shows; and the numbers of a command that is read.
use Rattle.std.proofs.Common.{◌≡◌, ℕ, ◌+◌, List, [], ◌∷◌, Ok, refl, sym, ◌∙◌, ap, ◌⊎◌, inl, inr, ⊎_elim}
use Rattle.std.specs.Prelude.{Vec}
use Rattle.std.specs.Borrow.{Bor}
use Rattle.std.specs.declared.alloc.Global.{Global}
use Rattle.std.specs.declared.result.Result.{Result}
use Rattle.outside.specs.Outside.{Grew}
use Rattle.outside.specs.Files.{AreFiles}
use Rattle.command_line.specs.declared.command.Command.{Command}
use Rattle.command_line.specs.Command.{texts, command_of}
use Rattle.command_line.specs.Range.{HasNumbersInRange}
use Rattle.command_line.proofs.Ranges.{ranges}
use Rattle.endings.specs.declared.outcome.Answer.{Answer}
use Rattle.endings.specs.declared.outcome.Answer.TheVariants.{Text, Ends}
use Rattle.endings.specs.declared.outcome.Ending.{Ending}
use Rattle.endings.specs.declared.outcome.Outcome.TheVariants as outcomes
use Rattle.endings.specs.Line.{text_of_word}
use Rattle.endings.specs.Linking.{files_of}
use Rattle.ask_commands.specs.declared.asking.Asked.{Asked}
use Rattle.ask_commands.specs.Asking.{AnswersLinked, AnswersBare, Answers, AsksRead, AsksFiles}
use Rattle.endings.specs.Putting.{PutsAnswer}
use Rattle.jop_cli.specs.Answer.{outcome_of}
use Rattle.jop_cli.specs.Calls.{Call}
use Rattle.jop_cli.specs.promises.Images.{IsOpened}
use Rattle.jop_cli.proofs.Refusing.{Says, refuses, holds, not_written, bytes_refuse, image_refuses, operands_refuse, linked_says, bare_refuses}
use Rattle.jop_cli.proofs.Wholly.{IsWholly, wholly_written}

-- ---- the numbers of a command

shared : List (List ℕ) → List (Bor (List ℕ))
shared [] = []
shared (word ∷ words) = record { ref_ptr = (0, 0); now = word } ∷ shared words

texts_shared : (words : List (List ℕ)) → texts (shared words) ≡ words
unfolding shared
texts_shared [] = refl
texts_shared (word ∷ words) = ap (λ (ws : List (List ℕ)). word ∷ ws) (texts_shared words)

pub in_range : (words : List (List ℕ)) (command : Command) → command_of words ≡ Ok command → HasNumbersInRange command
in_range words command is =
    let read : Result Command ℕ = Ok command in
    ranges (shared words) read (sym (ap command_of (texts_shared words) ∙ is))

-- ---- the text

-- the files of the operands, and a text that was put, by which an image answers
pub record TextPut (c : Call) (asked : Asked) : Type 0 where
  pub operands : List (List ℕ)
  pub are : AreFiles c.old.files asked.image (asked.image + asked.operands) operands
  pub text : Vec ℕ Global
  pub put : Grew c.old.out c.new.out text.items
  pub answers : AnswersLinked c.words asked.question operands (Text text) ⊎ AnswersBare asked.question operands (Text text)

pub opened : (c : Call) (asked : Asked) (operands : List (List ℕ)) (answer : Answer) → (a : AnswersLinked c.words asked.question operands answer) → IsOpened (text_of_word operands 0) a.linked
opened c asked operands answer a = record { is_linked = a.is_linked; is_file = a.is_file; are_resolved = a.are_resolved; setting = a.setting }

module _ (c : Call) (asked : Asked) (is : c.outcome ≡ outcomes.Written) where
  w : IsWholly c c.answered.ending
  w = wholly_written c is

  outcome : outcome_of c.answered.ending ≡ outcomes.Written
  outcome = sym w.outcome ∙ is

  not_said : (e : Ending) → c.answered.ending ≡ e → Says e → ⊥
  not_said e same (refuses h) = not_written e h (ap outcome_of (sym same) ∙ outcome)
  not_said e same (holds held h) = let clash : outcomes.Holds ≡ outcomes.Written = sym (ap outcome_of (same ∙ h)) ∙ outcome in absurd (cc)

  says : (operands : List (List ℕ)) (e : Ending) → Answers c.words asked.question operands (Ends e) → Says e
  says operands e answers =
      ⊎_elim
      (λ linked. ⊎_elim
      (λ fault. refuses (bytes_refuse (text_of_word operands 0) e fault))
      (λ a. linked_says c.words asked.question a.linked operands e a.answers)
      linked.1)
      (λ bare. ⊎_elim
      (λ fault. refuses (image_refuses (text_of_word operands 0) e fault))
      (λ b. refuses (bare_refuses asked.question b.image operands e b.answers))
      bare.1)
      answers

  of_text : (r : AsksRead c.words asked c.old c.new c.answered.ending) (text : Vec ℕ Global) → Grew c.old.out c.new.out text.items → Answers c.words asked.question r.operands (Text text) → TextPut c asked
  of_text r text put answers = record {
    operands = r.operands;
    are = r.are;
    text = text;
    put = put;
    answers = ⊎_elim
        (λ linked. ⊎_elim (λ fault. absurd fault) (λ a. inl a) linked.1)
        (λ bare. ⊎_elim (λ fault. absurd fault) (λ b. inr b) bare.1)
        answers;
  }

  of_answer : (r : AsksRead c.words asked c.old c.new c.answered.ending) (answer : Answer) → Answers c.words asked.question r.operands answer
      → PutsAnswer answer c.old.out c.new.out c.old.out_faults c.new.out_faults c.answered.ending → TextPut c asked
  of_answer r (Text text) answers puts =
      ⊎_elim
      (λ whole. of_text r text whole.1 answers)
      (λ part. let clash : outcomes.WriteFault ≡ outcomes.Written = ap outcome_of (sym part.0) ∙ outcome in absurd (cc))
      puts
  of_answer r (Ends e) answers puts = absurd (not_said e puts.0 (says r.operands e answers))

  pub text_put : AsksFiles c.words asked c.old c.new c.answered.ending → TextPut c asked
  text_put asks =
      ⊎_elim
      (λ fault. absurd (not_said c.answered.ending refl (refuses (operands_refuse asked.image (asked.image + asked.operands) (files_of c.old) (files_of c.new) c.answered.ending fault.0))))
      (λ r. of_answer r r.answer r.answers r.puts)
      asks
