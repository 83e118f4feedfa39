-- The words of other crates in which the promises are said.
pub use Rattle.image_file.specs.Bare.{BareContent, IsBareFile}
pub use Rattle.command_line.specs.declared.command.Settings.{Settings}
pub use Rattle.command_line.specs.declared.command.Command.{Command}
pub use Rattle.command_line.specs.Command.{command_of}
pub use Rattle.command_line.specs.Range.{AreSettings}
pub use Rattle.jopizer.specs.declared.refusal.LinkRefusal.{LinkRefusal}
pub use Rattle.jopizer.specs.Linked.{IsLinked, Parts, image_of}
pub use Rattle.jop_core.specs.Reset.{linked_reset}
pub use Rattle.class_pool.specs.declared.class.ClassFile.{ClassFile}
pub use Rattle.bytecode_model.specs.Program.{body_of}
pub use Rattle.activations.specs.Setting.{IsSetting}
pub use Rattle.activations.specs.Activations.{Stage}
pub use Rattle.activations.specs.Keeping.{Keeps}
pub use Rattle.activations.specs.Warrant.{BoundsActivations}
pub use Rattle.slot_table.specs.declared.slot.Slot.{Slot}
pub use Rattle.endings.specs.declared.outcome.Ending.{Ending}
pub use Rattle.program_tables.specs.Resolved.{resolved}
pub use Rattle.program_tables.specs.Resolving.{IsResolved}
pub use Rattle.bound_texts.specs.Loops.Bounds.{LoopBound}
pub use Rattle.bound_texts.specs.Loops.Grammar.{IsRead}
pub use Rattle.analysis_commands.specs.Analysis.{bounds_of, named_or_number, timing_of}
pub use Rattle.endings.specs.declared.outcome.Outcome.TheVariants.{Refused, Written}
pub use Rattle.endings.specs.declared.show.Show.{Show}
pub use Rattle.endings.specs.Settings.{linked_setting}
pub use Rattle.endings.specs.Line.{line_of, text_of_word}
pub use Rattle.endings.specs.Linking.{RefusesFiles}
pub use Rattle.endings.specs.Fitting.{CodesFit}
pub use Rattle.outside.specs.Outside.{Grew}
pub use Rattle.outside.specs.Files.{AreFiles}
pub use Rattle.endings.specs.World.{IsQuiet}
pub use Rattle.endings.specs.Executive.{IsLinkedWith}
pub use Rattle.jop_cli.specs.Calls.{Call, LacksMemory, NothingFailed, OperandsAreTold, PutsOut}
pub use Rattle.jop_cli.specs.Courses.{RanLinked}
pub use Rattle.jop_cli.specs.Tasks.{task_of}
pub use Rattle.jop_cli.specs.Answer.{outcome_of}
