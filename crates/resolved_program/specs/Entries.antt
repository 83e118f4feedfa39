-- The tables by which entries are resolved, and those of a program.
use Rattle.std.specs.Prelude.{◌≡◌, List, map}
use Rattle.class_pool.specs.declared.class.ClassFile.{ClassFile}
use Rattle.program_tables.specs.Entries.{all_meanings, meanings_seen}
use Rattle.program_tables.specs.Meanings.{field_types_in, types_seen, AreShapes}
use Rattle.program_tables.specs.Numbers.{methods_by_number, fields_by_number, static_fields, types_of, strings_of}
use Rattle.program_tables.specs.Tables.{kind_seen, numbers_among}
use Rattle.resolved_program.specs.declared.entries.Tables.{Tables}
use Rattle.resolved_program.specs.declared.tables.ProgramTables.{ProgramTables}
use Rattle.resolved_program.specs.Instances.{own_lists, instance_counts}

pub record AreTables (cs : List ClassFile) (t : Tables) : Type 0 where
  pub texts : t.texts.now ≡ cs
  pub numbers : t.numbers.now ≡ numbers_among (strings_of cs) cs
  pub methods : t.members.now.methods ≡ methods_by_number cs
  pub statics : t.members.now.statics ≡ static_fields cs
  pub own : t.instances.now.own.items ≡ own_lists cs
  pub counts : t.instances.now.counts.items ≡ instance_counts cs

pub record AreProgramTables (cs : List ClassFile) (t : ProgramTables) : Type 0 where
  pub methods : t.by_number.members.methods ≡ methods_by_number cs
  pub fields : t.by_number.members.fields ≡ fields_by_number cs
  pub statics : t.by_number.members.statics ≡ static_fields cs
  pub shapes : AreShapes cs t.by_number.shapes.items
  pub held : map types_seen t.by_number.held.items ≡ map (field_types_in cs) cs
  pub types : map kind_seen t.by_entry.mentioned.types ≡ types_of cs
  pub strings : t.by_entry.mentioned.strings ≡ strings_of cs
  pub own : t.by_entry.instances.own.items ≡ own_lists cs
  pub counts : t.by_entry.instances.counts.items ≡ instance_counts cs
  pub entries : map meanings_seen t.by_entry.entries.items ≡ all_meanings cs
