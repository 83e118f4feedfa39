-- What a text of a pool is: JVM Specification SE 8, 4.2 and 4.3.
use Rattle.std.specs.Prelude.{ℕ, zero, suc, Bool, false, not, ◌==◌, if◌then◌else◌, nat_eq, List, map, codes, Option, Some, None, option_map, is_none, is_some}
use Rattle.std.specs.Prelude.{slice_get}
use lib.Pointwise.{pointwise}
use Rattle.class_pool.specs.declared.entry.Entry.{Entry}
use Rattle.class_pool.specs.declared.entry.Entry.TheVariants as entries
use Rattle.descriptors.specs.declared.descriptor.Element.{Element}
use Rattle.descriptors.specs.declared.descriptor.Element.TheVariants as elements
use Rattle.descriptors.specs.declared.descriptor.FieldType.{FieldType}
use Rattle.descriptors.specs.declared.descriptor.MethodType.{MethodType}
use Rattle.class_rules.specs.declared.forms.Constant.{Constant}
use Rattle.class_rules.specs.declared.forms.Constant.TheVariants.{Integer, Float, Long, Double, Text}
use Rattle.class_rules.specs.declared.forms.Call.{Call}
use Rattle.class_rules.specs.declared.forms.Form.{Form}
use Rattle.descriptors.specs.Names.{is_unqualified, is_method_name, has_no_parenthesis, is_instance_initializer, is_class_name}
use Rattle.descriptors.specs.Descriptors.{argument_words}
use Rattle.descriptors.specs.Parsing.{field_in, method_in}

abbrev pub is_string : List ℕ → Bool
is_string units = pointwise nat_eq units (codes "java/lang/String")

-- the constant that a field may have whose type is no array (table 4.7.2-A)
abbrev pub element_constant : Element → Option Constant
element_constant elements.Byte = Some Integer
element_constant elements.Char = Some Integer
element_constant elements.Double = Some Double
element_constant elements.Float = Some Float
element_constant elements.Int = Some Integer
element_constant elements.Long = Some Long
element_constant (elements.Class name) = if is_string name then Some Text else None
element_constant elements.Short = Some Integer
element_constant elements.Boolean = Some Integer

abbrev pub constant_of : FieldType → Option Constant
constant_of t = if t.dimensions == 0 then element_constant t.element else None

abbrev pub field_constant : Option FieldType → Option Constant
field_constant None = None
field_constant (Some t) = constant_of t

-- the words of the arguments, and whether nothing is returned
abbrev pub call_of : MethodType → Call
call_of m = record { words = argument_words m.parameters; is_void = is_none m.result }

abbrev pub is_array : Option FieldType → Bool
is_array None = false
is_array (Some t) = not (t.dimensions == 0)

abbrev pub form_of : List ℕ → Form
form_of units = record {
  is_class = is_class_name units;
  is_array = is_array (field_in units);
  is_unqualified = is_unqualified units;
  is_method = is_method_name units;
  has_no_parenthesis = has_no_parenthesis units;
  is_initializer = is_instance_initializer units;
  is_field = is_some (field_in units);
  constant = field_constant (field_in units);
  method = option_map call_of (method_in units);
}

-- what an entry is that is no text
abbrev pub no_form : Form
no_form = record {
  is_class = false;
  is_array = false;
  is_unqualified = false;
  is_method = false;
  has_no_parenthesis = false;
  is_initializer = false;
  is_field = false;
  constant = None;
  method = None;
}

abbrev pub entry_form : Entry → Form
entry_form (entries.Utf8 units) = form_of units
entry_form entry = no_form

abbrev pub forms_of : List Entry → List Form
forms_of pool = map entry_form pool

abbrev pub found_form : Option Form → Form
found_form None = no_form
found_form (Some form) = form

abbrev pub form_in : List Form → ℕ → Option Form
form_in forms zero = None
form_in forms (suc place) = slice_get forms place

-- what the entry of an index is
abbrev pub form_at : List Form → ℕ → Form
form_at forms index = found_form (form_in forms index)
