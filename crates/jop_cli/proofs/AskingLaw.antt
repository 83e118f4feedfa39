-- What is asked of the files of a linked image is answered of what was linked.
use Rattle.std.proofs.Common.{◌≡◌, ℕ, ◌+◌, true, false, List, sym, ◌∙◌, subst, ⊎_elim}
use Rattle.std.specs.Prelude.{Vec}
use Rattle.std.specs.declared.alloc.Global.{Global}
use Rattle.image_file.specs.Linked as file
use Rattle.program_tables.specs.Resolving.{IsResolved}
use Rattle.activations.specs.Setting.{IsSetting}
use Rattle.outside.specs.Outside.{Grew}
use Rattle.outside.specs.Files.{AreFiles}
use Rattle.jopizer.specs.Linked.{Parts, IsLinked, image_of}
use Rattle.jopizer.specs.Laws.{OneLinked, LinkedImagesAreRead}
use Rattle.ask_commands.specs.declared.asking.Asked.{Asked}
use Rattle.endings.specs.declared.outcome.Answer.{Answer}
use Rattle.endings.specs.declared.outcome.Answer.TheVariants.{Text, Ends}
use Rattle.endings.specs.declared.outcome.Ending.{Ending}
use Rattle.endings.specs.declared.outcome.Ending.TheVariants as endings
use Rattle.endings.specs.Line.{text_of_word}
use Rattle.endings.specs.Settings.{linked_setting}
use Rattle.endings.specs.Phase.{is_linked as is_linked_file}
use Rattle.endings.specs.World.{IsQuiet, IsUntaken}
use Rattle.endings.specs.Linking.{files_of, OperandsFault}
use Rattle.ask_commands.specs.Asking.{IsAnswer, AnswersLinked, Answers, AsksRead, AsksFiles}
use Rattle.endings.specs.Putting.{PutsAnswer}
use Rattle.jop_cli.specs.Calls.{Call, NothingFailed, OperandsAreTold}
use Rattle.jop_cli.proofs.Wholly.{same_files, files_read}
use Rattle.jop_cli.proofs.RunningLaw.{begins_linked, is_read}

-- the classes of what was linked are resolved, and machines of any size run its program
pub record IsSound (l : Parts) : Type 0 where
  pub resolved : IsResolved l.classes
  pub setting : (chip memory : ℕ) → IsSetting (linked_setting l.classes chip memory)

-- what comes of a question where nothing fails: the whole of a text was put; or a line says the answer; or there was no memory
pub data Comes (c : Call) (asked : Asked) (l : Parts) (operands : List (List ℕ)) (ending : Ending) : Type 0 where
  puts : (text : Vec ℕ Global) → IsAnswer c.words asked.question l operands (Text text) → ending ≡ endings.Written → Grew c.old.out c.new.out text.items → IsSound l → Comes c asked l operands ending
  says : IsAnswer c.words asked.question l operands (Ends ending) → IsQuiet c.old c.new → IsSound l → Comes c asked l operands ending
  lacking : ending ≡ endings.NoMemory → IsQuiet c.old c.new → Comes c asked l operands ending

module _ (linked_one : OneLinked) (images : LinkedImagesAreRead) (c : Call) (n : NothingFailed c) (asked : Asked) (l : Parts) (operands : List (List ℕ)) (many : asked.image + asked.operands ≡ c.old.words) (told : OperandsAreTold c asked.image operands) (is_linked : IsLinked l) (is_file : file.IsLinkedFile (text_of_word operands 0) (image_of l)) where
  of_linked : (answer : Answer) → AnswersLinked c.words asked.question operands answer → IsAnswer c.words asked.question l operands answer
  of_linked answer r =
      let same : r.linked ≡ l = linked_one (text_of_word operands 0) r.linked l r.is_linked is_linked r.is_file is_file in
      subst (λ (p : Parts). IsAnswer c.words asked.question p operands answer) same r.answers

  sound : (answer : Answer) → AnswersLinked c.words asked.question operands answer → IsSound l
  sound answer r =
      let same : r.linked ≡ l = linked_one (text_of_word operands 0) r.linked l r.is_linked is_linked r.is_file is_file in
      let is : IsSound r.linked = record { resolved = r.are_resolved; setting = r.setting } in
      subst IsSound same is

  -- its bytes begin as those of a linked image
  not_bare : is_linked_file (text_of_word operands 0) ≡ false → ⊥
  not_bare bare =
      let clash : false ≡ true = sym bare ∙ begins_linked (text_of_word operands 0) (image_of l) is_file in
      absurd (cc)

  text_comes : (text : Vec ℕ Global) → Answers c.words asked.question operands (Text text) → IsAnswer c.words asked.question l operands (Text text) × IsSound l
  text_comes text answers =
      ⊎_elim
      (λ linked. ⊎_elim (λ fault. absurd fault) (λ r. (of_linked (Text text) r, sound (Text text) r)) linked.1)
      (λ bare. absurd (not_bare bare.0))
      answers

  line_comes : (ending : Ending) → IsQuiet c.old c.new → Answers c.words asked.question operands (Ends ending) → Comes c asked l operands ending
  line_comes ending quiet answers =
      ⊎_elim
      (λ linked. ⊎_elim (λ fault. lacking (is_read images (text_of_word operands 0) l is_linked is_file ending fault) quiet) (λ r. says (of_linked (Ends ending) r) quiet (sound (Ends ending) r)) linked.1)
      (λ bare. absurd (not_bare bare.0))
      answers

  answer_comes : (ending : Ending) (answer : Answer) → IsUntaken c.old c.new → c.new.watch ≡ c.old.watch → Answers c.words asked.question operands answer → PutsAnswer answer c.old.out c.new.out c.old.out_faults c.new.out_faults ending
      → Comes c asked l operands ending
  answer_comes ending (Text text) untaken watch answers put = ⊎_elim (λ whole. let is = text_comes text answers in puts text is.0 whole.0 whole.1 is.1) (λ part. absurd (n.out part.1.rose)) put
  answer_comes ending (Ends other) untaken watch answers put =
      line_comes ending (record { input = untaken; out = put.1; out_faults = put.2; watch = watch }) (subst (λ (e : Ending). Answers c.words asked.question operands (Ends e)) (sym put.0) answers)

  read_comes : (ending : Ending) → AsksRead c.words asked c.old c.new ending → Comes c asked l operands ending
  read_comes ending r =
      let are = subst (λ (e : ℕ). AreFiles c.old.files asked.image e r.operands) many r.are in
      let same : r.operands ≡ operands = same_files c asked.image operands r.operands told are in
      answer_comes ending r.answer r.input r.watch (subst (λ (x : List (List ℕ)). Answers c.words asked.question x r.answer) same r.answers) r.puts

  pub comes : (ending : Ending) → AsksFiles c.words asked c.old c.new ending → Comes c asked l operands ending
  comes ending asks =
      ⊎_elim
      (λ fault. lacking (files_read c asked.image operands told n ending (subst (λ (e : ℕ). OperandsFault asked.image e (files_of c.old) (files_of c.new) ending) many fault.0)) fault.1)
      (read_comes ending)
      asks
