-- A linked program and its machine.
use Rattle.std.specs.Prelude.{◌≡◌, ℕ, ◌<◌, ◌≤◌, None, List, length, Ok}
use Rattle.std.specs.declared.result.Result.{Result}
use Rattle.device_traits.specs.declared.fault.DeviceFault.{DeviceFault}
use Rattle.machine_memory.specs.declared.timing.Config.{Config}
use Rattle.class_pool.specs.declared.class.ClassFile.{ClassFile}
use Rattle.program_tables.specs.Resolved.{resolved}
use Rattle.image_builder.specs.Laid.{Laid}
use Rattle.image_layout.specs.Layout.{IsLaidOut, first_passed}
use Rattle.program_resolution.specs.Linked.{linked_classes}
use Rattle.boundary.specs.declared.runs.RunEnd.{RunEnd}
use Rattle.boundary.specs.declared.runs.RunEnd.TheVariants.{Uncaught}
use Rattle.jopizer.specs.Methods.Fitting.{MethodFits}

-- the classes are those of some files, with the one that is run
pub record AreLinkedClasses (cs : List ClassFile) : Type 0 where
  pub files : List ClassFile
  pub main : List ℕ
  pub classes : cs ≡ linked_classes files main

-- The image of the classes is laid out within its limits, and a machine with these settings holds it: the words fit its memory, and each code its method cache.
pub record CanRun (cs : List ClassFile) (laid : Laid) (config : Config) : Type 0 where
  pub linked : AreLinkedClasses cs
  pub laid_out : IsLaidOut cs laid
  pub within : first_passed cs ≡ None
  pub memory : length laid.words ≤ config.memory
  pub codes : (m : ℕ) → MethodFits (resolved cs) config.blocks config.block_words m

-- a class that isn't caught is one of the program's
abbrev pub HasClass : List ClassFile → Result RunEnd DeviceFault → Type 0
HasClass cs (Ok (Uncaught class)) = class < length cs
HasClass cs end = Unit {0}
