-- Which entries an opcode takes: JVM Specification SE 8, 4.9.1 and 6.5.
use Rattle.std.specs.Prelude.{ℕ, Bool, false, not, ◌&&◌}
use Rattle.class_pool.specs.declared.entry.Entry.{Entry}
use Rattle.class_pool.specs.declared.entry.Entry.TheVariants as entries
use Rattle.program_tables.specs.Instructions.{is_ldc, is_ldc2, is_field_access, is_class_use, takes_method, takes_interface_method}

-- an entry of the right tag; a class is no constant here, since `ldc` of one isn't supported
abbrev pub takes_entry : (major op : ℕ) → Entry → Bool
takes_entry major op (entries.Integer n) = is_ldc op
takes_entry major op (entries.Float bits) = is_ldc op
takes_entry major op (entries.Text units) = is_ldc op
takes_entry major op (entries.Handle kind reference) = is_ldc op
takes_entry major op (entries.MethodType descriptor) = is_ldc op
takes_entry major op (entries.Long n) = is_ldc2 op
takes_entry major op (entries.Double bits) = is_ldc2 op
takes_entry major op (entries.Class name) = not (is_ldc op) && is_class_use op
takes_entry major op (entries.Field owner member) = is_field_access op
takes_entry major op (entries.Method owner member) = takes_method op
takes_entry major op (entries.InterfaceMethod owner member) = takes_interface_method major op
takes_entry major op entry = false
