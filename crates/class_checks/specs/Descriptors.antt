-- What isn't supported of the descriptors in a pool, by the places of their entries.
use Rattle.std.specs.Prelude.{◌≡◌, ℕ, List, Option, None, map}
use Rattle.class_pool.specs.declared.entry.Entry.{Entry}
use Rattle.class_pool.specs.declared.entry.Entry.TheVariants as entries
use Rattle.lists.specs.Lists.{first}
use Rattle.program_tables.specs.declared.refusal.Item.{Item}
use Rattle.program_tables.specs.Unsupported.{types_in_field, types_in_method, items_of_types}
use Rattle.class_checks.specs.declared.tables.DescriptorItems.{DescriptorItems}

-- the first of what isn't supported of a text, read as a descriptor
abbrev pub field_item : List ℕ → Option Item
field_item text = first (items_of_types (types_in_field text))

abbrev pub method_item : List ℕ → Option Item
method_item text = first (items_of_types (types_in_method text))

-- what is said of an entry that is a text
abbrev pub of_entry : (List ℕ → Option Item) → Entry → Option Item
of_entry say (entries.Utf8 units) = say units
of_entry say entry = None

pub record AreItems (pool : List Entry) (d : DescriptorItems) : Type 0 where
  pub fields : d.fields.items ≡ map (of_entry field_item) pool
  pub methods : d.methods.items ≡ map (of_entry method_item) pool
