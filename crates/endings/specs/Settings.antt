-- The usual settings of a machine, and the program and machine of a run.
use Rattle.std.specs.Prelude.{ℕ, List}
use Rattle.class_pool.specs.declared.class.ClassFile.{ClassFile}
use Rattle.program_tables.specs.Resolved.{resolved}
use Rattle.command_line.specs.declared.command.Settings.{Settings}
use Rattle.command_line.specs.Command.{none_given, settings_of}
use Rattle.image_words.specs.Regions.{places_of}
use Rattle.bytecode_verifier.specs.Failure.{types_found}
use Rattle.boundary.specs.Setting.{Setting}

-- the settings where no option is given
abbrev pub usual_settings : Settings
usual_settings = settings_of none_given

-- the program of the classes with the places of its image and the types that the verifier finds, and a machine of so many words
abbrev pub linked_setting : List ClassFile → (chip memory : ℕ) → Setting
linked_setting cs n size = record { program = resolved cs; places = places_of cs; types = types_found cs; chip = n; memory = size }
