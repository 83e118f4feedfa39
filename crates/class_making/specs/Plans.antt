-- A class as a plan, with items where a class file has indexes, and the class file that says the same: with a pool of what it mentions in
-- order of first mention, and with no attributes but Code and, in it, StackMapTable.
use Rattle.std.specs.Prelude.{ℕ, List, [], ◌∷◌, ◌++◌, map, codes, Option, Some, None}
use Rattle.std.specs.Option.{option_to_list}
use Rattle.std.specs.List.{flat_map}
use Rattle.class_pool.specs.Spelling.{u2}
use Rattle.class_pool.specs.ClassSpelling.{NamedParts}
use Rattle.class_pool.specs.declared.class.Attribute.{Attribute}
use Rattle.class_pool.specs.declared.class.Body.TheVariants as bodies
use Rattle.class_pool.specs.declared.class.Code.{Code as CodeParts}
use Rattle.class_pool.specs.declared.class.Member.{Member}
use Rattle.class_pool.specs.declared.class.ClassFile.{ClassFile}
use Rattle.class_making.specs.declared.item.Item.{Item}
use Rattle.class_making.specs.declared.item.Item.TheVariants.{Text, Class}
use Rattle.class_making.specs.declared.plan.Piece.{Piece}
use Rattle.class_making.specs.declared.plan.Piece.TheVariants.{Byte, Index}
use Rattle.class_making.specs.declared.plan.CodePlan.{CodePlan}
use Rattle.class_making.specs.declared.plan.FieldPlan.{FieldPlan}
use Rattle.class_making.specs.declared.plan.MethodPlan.{MethodPlan}
use Rattle.class_making.specs.declared.plan.ClassPlan.{ClassPlan}
use Rattle.class_making.specs.Making.{mention_each, index_of, pool_of}

-- ---- parts

abbrev pub field_plan : (flags : ℕ) (name descriptor : List ℕ) → FieldPlan
field_plan flags name descriptor = record { flags = flags; name = name; descriptor = descriptor }

-- a method with code, and no table of frames
abbrev pub method_plan : (flags : ℕ) (name descriptor : List ℕ) (max_stack max_locals : ℕ) → List Piece → MethodPlan
method_plan flags name descriptor max_stack max_locals pieces = record {
  flags = flags;
  name = name;
  descriptor = descriptor;
  code = Some (record { max_stack = max_stack; max_locals = max_locals; pieces = pieces; stack_map = None });
}

-- a class or an interface of version 52 with neither superinterfaces nor fields
abbrev pub bare_class : (flags : ℕ) (name : List ℕ) (superclass : Option (List ℕ)) → List MethodPlan → ClassPlan
bare_class flags name superclass methods = record {
  major = 52;
  flags = flags;
  name = name;
  superclass = superclass;
  interfaces = [];
  fields = [];
  methods = methods;
}

-- ---- what is mentioned, in order

-- the name of the attribute that is a method's code (4.7.3)
abbrev pub code_name : List ℕ
code_name = codes "Code"

-- the name of the attribute that is the table of frames of a code (4.7.4)
abbrev pub stack_map_name : List ℕ
stack_map_name = codes "StackMapTable"

abbrev pub piece_mentions : Piece → List Item
piece_mentions (Byte byte) = []
piece_mentions (Index x) = x ∷ []

-- where there is a table of frames, its name is mentioned last
abbrev pub with_stack_map : List Item → Option (List ℕ) → List Item
with_stack_map items None = items
with_stack_map items (Some bytes) = items ++ Text stack_map_name ∷ []

abbrev pub code_mentions : Option CodePlan → List Item
code_mentions None = []
code_mentions (Some k) = Text code_name ∷ with_stack_map (flat_map piece_mentions k.pieces) k.stack_map

abbrev pub field_mentions : FieldPlan → List Item
field_mentions f = Text f.name ∷ Text f.descriptor ∷ []

abbrev pub method_mentions : MethodPlan → List Item
method_mentions m = Text m.name ∷ Text m.descriptor ∷ code_mentions m.code

abbrev pub supertype_mentions : ClassPlan → List Item
supertype_mentions p = map Class (option_to_list p.superclass) ++ map Class p.interfaces

-- the class, its supertypes, its fields and its methods
abbrev pub plan_mentions : ClassPlan → List Item
plan_mentions p = Class p.name ∷ (supertype_mentions p ++ (flat_map field_mentions p.fields ++ flat_map method_mentions p.methods))

-- what the pool has an entry for
unfoldable pub items_of : ClassPlan → List Item
items_of p = mention_each [] (plan_mentions p)

-- ---- the class file, over the items of its pool (4.1, 4.5 to 4.7)

abbrev pub piece_bytes : List Item → Piece → List ℕ
piece_bytes items (Byte byte) = byte ∷ []
piece_bytes items (Index x) = u2 (index_of items x)

-- the name and the bytes of the table of frames, if there is one
abbrev pub stack_map_in : List Item → Option (List ℕ) → List NamedParts
stack_map_in items None = []
stack_map_in items (Some bytes) = (index_of items (Text stack_map_name), bytes) ∷ []

abbrev pub code_in : List Item → CodePlan → CodeParts
code_in items k = record {
  max_stack = k.max_stack;
  max_locals = k.max_locals;
  code = flat_map (piece_bytes items) k.pieces;
  handlers = [];
  attributes = stack_map_in items k.stack_map;
}

abbrev pub code_attributes : List Item → Option CodePlan → List Attribute
code_attributes items None = []
code_attributes items (Some k) = record { name = index_of items (Text code_name); body = bodies.Code (code_in items k) } ∷ []

abbrev pub field_in : List Item → FieldPlan → Member
field_in items f = record {
  flags = f.flags;
  name = index_of items (Text f.name);
  descriptor = index_of items (Text f.descriptor);
  attributes = [];
}

abbrev pub method_in : List Item → MethodPlan → Member
method_in items m = record {
  flags = m.flags;
  name = index_of items (Text m.name);
  descriptor = index_of items (Text m.descriptor);
  attributes = code_attributes items m.code;
}

abbrev pub class_index : List Item → List ℕ → ℕ
class_index items name = index_of items (Class name)

-- 0 where there is none
abbrev pub superclass_index : List Item → Option (List ℕ) → ℕ
superclass_index items None = 0
superclass_index items (Some name) = class_index items name

abbrev pub class_in : List Item → ClassPlan → ClassFile
class_in items p = record {
  minor = 0;
  major = p.major;
  pool = pool_of items;
  flags = p.flags;
  this_class = class_index items p.name;
  super_class = superclass_index items p.superclass;
  interfaces = map (class_index items) p.interfaces;
  fields = map (field_in items) p.fields;
  methods = map (method_in items) p.methods;
  attributes = [];
}

-- the class file of a plan
unfoldable pub class_of : ClassPlan → ClassFile
class_of p = class_in (items_of p) p
