-- What `link` promises.
use Rattle.std.specs.Prelude.{◌≡◌, ℕ, List, ◌⊎◌, Ok}
use Rattle.command_line.specs.declared.command.Command.TheVariants.{Link as LinkTo}
use Rattle.answer_lines.specs.declared.line.Sizes.{Sizes}
use Rattle.endings.specs.declared.outcome.Ending.TheVariants as endings
use Rattle.endings.specs.declared.outcome.Ending.TheVariants.{Linked}
use Rattle.endings.specs.Linking.{AreLinkedTo, class_name, ReadsFiles, PutsImage}
use Rattle.jop_cli.specs.promises.Words.{Written, line_of, Call, PutsOut, command_of, LinkRefusal, text_of_word, RefusesFiles, NothingFailed, LacksMemory}
use Rattle.jop_cli.specs.promises.Words.{OperandsAreTold, Grew}
use Rattle.jop_cli.specs.promises.Answers.{AnswersRefusal}

-- ---- `link`

-- The files are linked with the main class: the file of their image was put, and the line says its sizes.
pub record IsLinkedBy (c : Call) (files : List (List ℕ)) (main : List ℕ) : Type 0 where
  pub outcome : c.outcome ≡ Written
  pub bytes : List ℕ
  pub sizes : Sizes
  pub linked : AreLinkedTo files main bytes sizes
  pub puts : PutsOut c bytes (line_of c.words (endings.Linked sizes))

-- Class files that nothing refuses are linked, and the file of their image is put; or there is no memory.
abbrev pub LinkingIsComplete : Type 0
LinkingIsComplete =
    (c : Call) (main first : ℕ) (files : List (List ℕ)) → command_of c.words ≡ Ok (LinkTo main first) → OperandsAreTold c first files → NothingFailed c
    → ((refusal : LinkRefusal) → ¬ RefusesFiles files (class_name (text_of_word c.words main)) refusal)
    → IsLinkedBy c files (class_name (text_of_word c.words main)) ⊎ LacksMemory c

-- What refuses class files is answered; or there is no memory.
abbrev pub LinkRefusalsAreAnswered : Type 0
LinkRefusalsAreAnswered =
    (c : Call) (main first : ℕ) (files : List (List ℕ)) (refusal : LinkRefusal) → command_of c.words ≡ Ok (LinkTo main first) → OperandsAreTold c first files
    → NothingFailed c → RefusesFiles files (class_name (text_of_word c.words main)) refusal
    → AnswersRefusal c files refusal ⊎ LacksMemory c

-- For it is one refusal, and what is refused isn't linked.
abbrev pub LinkRefusalsAreOne : Type 0
LinkRefusalsAreOne =
    (files : List (List ℕ)) (main : List ℕ) (refusal : LinkRefusal) → RefusesFiles files main refusal
    → ((bytes : List ℕ) (sizes : Sizes) → ¬ AreLinkedTo files main bytes sizes) × ((other : LinkRefusal) → RefusesFiles files main other → other ≡ refusal)

-- ---- `link`

-- The files of the words from one on are linked with the main class that a word names, the bytes of the image's file were put, and the line has its sizes.
pub record ShowsLinked (c : Call) (main first : ℕ) : Type 0 where
  pub files : List (List ℕ)
  pub reads : ReadsFiles first files c.old c.new
  pub sizes : Sizes
  pub image : PutsImage files (class_name (text_of_word c.words main)) sizes c.old.out c.new.out c.old.out_faults c.new.out_faults
  pub line : Grew c.err_old c.err_new (line_of c.words (Linked sizes))

abbrev pub LinkedImagesAreShown : Type 0
LinkedImagesAreShown = (c : Call) (main first : ℕ) → command_of c.words ≡ Ok (LinkTo main first) → c.outcome ≡ Written → ShowsLinked c main first
