-- What `bound --facts` and `check --facts` promise: the bound of a certificate that is written by facts, or that holds by them, is kept where these are.
use Rattle.std.specs.Prelude.{◌≡◌, ℕ, List, [], Ok, ◌+◌}
use Rattle.std.specs.List.{concat}
use Rattle.outside.specs.Outside.{IsWhole}
use Rattle.image_file.specs.Linked as file
use Rattle.command_line.specs.declared.command.Command.TheVariants.{BoundWith, CheckWith}
use Rattle.answer_lines.specs.declared.analysis.Held.{Held}
use Rattle.answer_lines.specs.AnalysisLines.{held_parts}
use Rattle.endings.specs.declared.outcome.Outcome.TheVariants.{Holds}
use Rattle.ask_commands.specs.Pricing.{BoundsWith, ShowsBoundWith}
use Rattle.jop_cli.specs.promises.Words.{Settings, command_of, Parts, IsLinked, image_of, text_of_word, Call, Written, IsSetting, IsResolved, linked_setting}
use Rattle.jop_cli.specs.promises.Words.{Grew, AreFiles, ClassFile, resolved, timing_of, bounds_of, BoundsActivations}

-- ---- the image

-- These are the bytes of the files of so many operands from one on, the first of which is the file of what is linked, and of the file of facts. The classes are
-- resolved, and there is a machine of each size for the program.
pub record ReadsLinkedWith (c : Call) (facts image operands : ℕ) : Type 0 where
  pub files : List (List ℕ)
  pub are : AreFiles c.old.files image (image + operands) files
  pub facts_text : List ℕ
  pub facts_are : IsWhole (c.old.files facts) facts_text
  pub linked : Parts
  pub is_linked : IsLinked linked
  pub is_file : file.IsLinkedFile (text_of_word files 0) (image_of linked)
  pub are_resolved : IsResolved linked.classes
  pub setting : (chip memory : ℕ) → IsSetting (linked_setting linked.classes chip memory)

-- ---- `bound`

-- What a call shows that answers that a certificate of a method is written by facts: its text was put, and it meets the conditions by the facts of their
-- text. Each ended activation of the method that keeps the bounds of loops and these facts takes at most as many cycles as it says: in every run of the
-- program, on each machine with these waits and a method cache of these sizes, whatever the cache holds and whatever is read. Where it says never, no such
-- activation ends.
pub record ShowsWrittenWith (c : Call) (settings : Settings) (method facts image : ℕ) : Type 0 where
  pub reads : ReadsLinkedWith c facts image 2
  pub text : List ℕ
  pub put : Grew c.old.out c.new.out text
  pub shows : BoundsWith reads.linked.classes settings (text_of_word reads.files 1) reads.facts_text (text_of_word c.words method) text

abbrev pub WrittenFactBoundsAreKept : Type 0
WrittenFactBoundsAreKept =
    (c : Call) (settings : Settings) (method facts image bounds : ℕ) → command_of c.words ≡ Ok (BoundWith settings method facts image bounds)
    → c.outcome ≡ Written
    → ShowsWrittenWith c settings method facts image

-- ---- `check`

-- What a call shows in the same way that answers that a certificate holds by facts: the line says its method and its bound, which is kept.
pub record ShowsHeldWith (c : Call) (settings : Settings) (facts image : ℕ) : Type 0 where
  pub reads : ReadsLinkedWith c facts image 3
  pub held : Held
  pub says : Grew c.err_old c.err_new (concat (held_parts held.name.items held.bound))
  pub shows : ShowsBoundWith reads.linked.classes settings (text_of_word reads.files 1) reads.facts_text (text_of_word reads.files 2) held

abbrev pub CheckedFactBoundsAreKept : Type 0
CheckedFactBoundsAreKept =
    (c : Call) (settings : Settings) (facts image bounds last : ℕ) → command_of c.words ≡ Ok (CheckWith settings facts image bounds last) → c.outcome ≡ Holds
    → ShowsHeldWith c settings facts image

-- ---- no facts

-- With an empty text of facts nothing is supposed beside the bounds of loops: each ended activation of the method that keeps these takes at most as many
-- cycles as the certificate says that is written,
abbrev pub WrittenWithoutFacts : Type 0
WrittenWithoutFacts =
    (cs : List ClassFile) (s : Settings) (bounds_text name text : List ℕ) (shows : BoundsWith cs s bounds_text [] name text)
    → BoundsActivations (resolved cs) (timing_of s) (bounds_of cs shows.is.bounds) shows.is.certificate.plain.root shows.is.certificate.plain.bound

-- or that is checked
abbrev pub CheckedWithoutFacts : Type 0
CheckedWithoutFacts =
    (cs : List ClassFile) (s : Settings) (bounds_text cert_text : List ℕ) (h : Held) (shows : ShowsBoundWith cs s bounds_text [] cert_text h)
    → BoundsActivations (resolved cs) (timing_of s) (bounds_of cs shows.bounds) h.root h.bound
