-- What an outline says of a program's image: where its parts lie.
use Rattle.std.specs.Prelude.{◌≡◌, ℕ, ◌+◌, List, length, map, Some, slice_get}
use Rattle.class_pool.specs.declared.class.ClassFile.{ClassFile}
use Rattle.bytecode_model.specs.Sizes.{object_words}
use Rattle.image_facts.specs.Words.{declared_words}
use Rattle.program_tables.specs.Resolved.{resolved}
use Rattle.image_words.specs.Slots as numbered
use Rattle.image_words.specs.Layout.{front_size, type_words, table_words, interface_words, pool_words, method_size, methods_size, classes_of, tables_place}
use Rattle.image_words.specs.Layout.{interfaces_place, pools_place, methods_place}
use Rattle.image_words.specs.Tables.{AreSlots}
use Rattle.image_words.specs.declared.outline.Outline.{Outline}
use Rattle.image_builder.specs.declared.sums.Run.{Run}
use Rattle.image_builder.specs.Runs.{IsRun}

-- by class the instance fields, behind the word of the object's type
pub record AreInstances (cs : List ClassFile) (runs : List Run) : Type 0 where
  pub count : length runs ≡ length cs
  pub each : (c : ℕ) (run : Run) → slice_get runs c ≡ Some run → IsRun 1 (map declared_words ((resolved cs).fields c)) run

pub record IsOutline (cs : List ClassFile) (o : Outline) : Type 0 where
  pub interface_methods : o.interface_methods.items ≡ numbered.interface_methods cs
  pub slots : AreSlots cs o.slots
  pub instances : AreInstances cs o.instances.items
  pub statics : IsRun front_size (map declared_words (resolved cs).statics) o.statics
  pub type_words : o.type_words ≡ type_words cs
  pub tables : IsRun (tables_place cs) (map (table_words cs) (classes_of cs)) o.tables
  -- behind the table of zeros
  pub interface_tables : IsRun (interfaces_place cs + length (numbered.interface_methods cs)) (map (interface_words cs) (classes_of cs)) o.interface_tables
  pub pools : IsRun (pools_place cs) (map pool_words cs) o.pools
  pub methods : IsRun (methods_place cs) (map method_size (resolved cs).methods) o.methods
  pub objects : IsRun (methods_place cs + methods_size cs) (map (object_words (resolved cs)) (resolved cs).first_objects) o.objects
