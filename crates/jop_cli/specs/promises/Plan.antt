-- What `plan` promises: what is linked with the executive has it, and the bound in each line is kept.
use Rattle.std.specs.Prelude.{ℕ, List, ◌∷◌, ◌++◌, ◌≡◌, [], Vec, Ok, Some, slice_get}
use Rattle.std.specs.declared.alloc.Global.{Global}
use Rattle.command_line.specs.declared.command.Command.TheVariants.{Plan as ToPlan}
use Rattle.slot_table.specs.Grammar as tables
use Rattle.analysis_commands.specs.Executive.{IsExecutive}
use Rattle.slot_plans.specs.Plan.{IsPlan}
use Rattle.endings.specs.declared.outcome.Answer.TheVariants.{Text, Ends}
use Rattle.endings.specs.Executive.{executive_class, with_executive, IsReadied}
use Rattle.jop_cli.specs.promises.Words.{LinkRefusal, Slot, RefusesFiles, Call, OperandsAreTold, Parts, resolved, named_or_number, IsLinkedWith, Settings}
use Rattle.jop_cli.specs.promises.Words.{Ending, Written, line_of, Grew, IsQuiet, LacksMemory, PutsOut, outcome_of, command_of, NothingFailed, AreFiles}
use Rattle.jop_cli.specs.promises.Words.{BoundsActivations, timing_of, bounds_of, text_of_word, ClassFile, IsSetting, linked_setting}
use Rattle.slot_plans.specs.Planning.{AnswersPlan, planned_files}

-- ---- `plan` and `cycle`

-- The files of the words from one on are told: a table that gives these slots, these texts behind it, and class files that are linked with the executive of
-- the slots, which nothing refuses.
pub record AreReadied (c : Call) (table rounds : ℕ) (slots : List Slot) (texts files : List (List ℕ)) : Type 0 where
  pub table_text : List ℕ
  pub told : OperandsAreTold c table (table_text ∷ (texts ++ files))
  pub read : tables.IsTableRead table_text slots
  pub none : (refusal : LinkRefusal) → ¬ RefusesFiles (with_executive slots rounds files) executive_class refusal

-- What is linked with an executive has it: there is a first method with code that has its name.
abbrev pub ExecutivesAreThere : Type 0
ExecutivesAreThere =
    (slots : List Slot) (rounds : ℕ) (files : List (List ℕ)) (l : Parts) → IsLinkedWith slots rounds files l
    → (executive : ℕ) × IsExecutive (resolved l.classes) (named_or_number l.classes) executive

-- What comes of a plan: the lines of all slots were put, and no line; or a line was said that tells why there is no plan, and nothing was put; or there was
-- no memory.
pub data IsPlanned (c : Call) (settings : Settings) (rounds : ℕ) (slots : List Slot) (bounds_text : List ℕ) (files : List (List ℕ)) : Type 0 where
  puts : (l : Parts) (text : Vec ℕ Global) → IsLinkedWith slots rounds files l → AnswersPlan l.classes settings slots bounds_text (Text text)
      → c.outcome ≡ Written → PutsOut c text.items [] → IsPlanned c settings rounds slots bounds_text files
  says : (l : Parts) (ending : Ending) → IsLinkedWith slots rounds files l → AnswersPlan l.classes settings slots bounds_text (Ends ending)
      → c.outcome ≡ outcome_of ending → Grew c.err_old c.err_new (line_of c.words ending) → IsQuiet c.old c.new
      → IsPlanned c settings rounds slots bounds_text files
  lacks : LacksMemory c → IsPlanned c settings rounds slots bounds_text files

abbrev pub PlansAreAnswered : Type 0
PlansAreAnswered =
    (c : Call) (settings : Settings) (rounds table bounds first : ℕ) (slots : List Slot) (bounds_text : List ℕ) (files : List (List ℕ))
    → command_of c.words ≡ Ok (ToPlan settings rounds table bounds first) → AreReadied c table rounds slots (bounds_text ∷ []) files → NothingFailed c
    → IsPlanned c settings rounds slots bounds_text files

-- The lines were put of the slots of the table, with whose executive the class files are linked. The bound in each line, which doesn't pass the slot's
-- length, is kept by the activations of the slot's method.
pub record ShowsPlan (c : Call) (settings : Settings) (rounds table : ℕ) : Type 0 where
  pub files : List (List ℕ)
  pub are : AreFiles c.old.files table c.old.words files
  pub slots : List Slot
  pub linked : Parts
  pub readied : IsReadied (text_of_word files 0) rounds (planned_files files) slots linked
  pub text : List ℕ
  pub plan : IsPlan linked.classes settings (text_of_word files 1) slots text
  pub put : Grew c.old.out c.new.out text
  pub kept : (number : ℕ) (slot : Slot) (bound : ℕ) → (there : slice_get slots number ≡ Some slot) → (at : slice_get plan.is.bounds number ≡ Some bound)
      → BoundsActivations (resolved linked.classes) (timing_of settings) (bounds_of linked.classes plan.bounds)
      (plan.is.each number slot bound there at).is.method (Some bound)

abbrev pub PlansAreKept : Type 0
PlansAreKept =
    (c : Call) (settings : Settings) (rounds table bounds first : ℕ) → command_of c.words ≡ Ok (ToPlan settings rounds table bounds first) → c.outcome ≡ Written
    → ShowsPlan c settings rounds table

-- The lines are the only answer: two plans of the same slots, with the same bounds of loops and the same settings, are one, where a machine runs the program.
abbrev pub PlansAreOne : Type 0
PlansAreOne =
    (cs : List ClassFile) → IsSetting (linked_setting cs 0 0) → (settings : Settings) (bounds_text : List ℕ) (slots : List Slot) (text other : List ℕ)
    → IsPlan cs settings bounds_text slots text → IsPlan cs settings bounds_text slots other → text ≡ other
