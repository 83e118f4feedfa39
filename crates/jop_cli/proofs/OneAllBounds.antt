-- The lines of all methods are one text.
use Rattle.std.proofs.Common.{◌≡◌, List, subst}
use Rattle.class_pool.specs.declared.class.ClassFile.{ClassFile}
use Rattle.program_tables.specs.Resolved.{resolved}
use Rattle.program_tables.specs.Resolving.{IsResolved}
use Rattle.bound_texts.specs.Loops.Bounds.{LoopBound}
use Rattle.bound_texts.specs.Loops.Laws.{GivesOne}
use Rattle.activations.specs.Setting.{IsSetting}
use Rattle.bound_laws.specs.Existing.{OwnCostsExist, ResolvedCodesAreShort}
use Rattle.method_bounds.specs.Lines.{AreBoundLines}
use Rattle.answer_laws.specs.Answers.{IsCosted, BoundLinesAreOne}
use Rattle.analysis_commands.specs.Analysis.{timing_of, bounds_of, named_or_number}
use Rattle.command_line.specs.declared.command.Settings.{Settings}
use Rattle.command_line.specs.Range.{AreSettings}
use Rattle.endings.specs.Settings.{linked_setting}
use Rattle.jop_cli.specs.promises.AllBounds.{AllBoundsAreOne}

costed : OwnCostsExist → ResolvedCodesAreShort → (cs : List ClassFile) → IsResolved cs → IsSetting (linked_setting cs 0 0) → (s : Settings) → AreSettings s
    → IsCosted (resolved cs) (timing_of s)
costed costs short cs are setting s settings = record {
  types = (linked_setting cs 0 0).types;
  typed = setting.typed;
  lawful = setting.lawful;
  costs = costs (resolved cs) (linked_setting cs 0 0).types (timing_of s) setting.typed settings.read_most settings.write_most (short cs are);
}

pub all_bounds_are_one : GivesOne → BoundLinesAreOne → OwnCostsExist → ResolvedCodesAreShort → AllBoundsAreOne
all_bounds_are_one gives one costs short cs are setting s settings bounds_text text other a b =
    let same : a.bounds ≡ b.bounds = gives bounds_text a.bounds b.bounds a.read b.read in
    let moved : AreBoundLines (resolved cs) (timing_of s) (bounds_of cs b.bounds) (named_or_number cs) text =
    subst (λ (bs : List LoopBound). AreBoundLines (resolved cs) (timing_of s) (bounds_of cs bs) (named_or_number cs) text) same a.lines in
    one (resolved cs) (timing_of s) (bounds_of cs b.bounds) (named_or_number cs) text other (costed costs short cs are setting s settings) moved b.lines
