-- Reading the parts of a class file from the front of bytes: what was read and the bytes behind it, or nothing.
use Rattle.std.specs.Prelude.{ℕ, zero, suc, ◌==◌, if◌then◌else◌, List, [], ◌∷◌, Option, Some, None}
use Rattle.class_pool.specs.declared.entry.Entry.{Entry}
use Rattle.base.specs.Reading.{whole, ◌>>=◌}
use Rattle.class_pool.specs.Reading.{number_in, front_in}
use Rattle.class_pool.specs.declared.class.Attribute.{Attribute}
use Rattle.class_pool.specs.declared.class.Body.{Body}
use Rattle.class_pool.specs.declared.class.Body.TheVariants.{Code, ConstantValue, Bytes}
use Rattle.class_pool.specs.declared.class.Code.{Code as CodeParts}
use Rattle.class_pool.specs.declared.class.Member.{Member}
use Rattle.class_pool.specs.declared.class.ClassFile.{ClassFile}
use Rattle.class_file.specs.declared.structure.Identity.{Identity}
use Rattle.class_file.specs.declared.structure.Members.{Members}
use Rattle.class_pool.specs.declared.kind.Owner.{Owner}
use Rattle.class_pool.specs.declared.kind.Owner.TheVariants as owners
use Rattle.class_pool.specs.declared.kind.Kind.{Kind}
use Rattle.class_pool.specs.declared.kind.Kind.TheVariants as kinds
use Rattle.class_pool.specs.Kind.{kind_of}
use Rattle.class_pool.specs.ClassSpelling.{HandlerParts, NamedParts}

-- so many items
unfoldable pub many_in : {X : Type 0} → (List ℕ → Option (X × List ℕ)) → ℕ → List ℕ → Option (List X × List ℕ)
many_in read zero bytes = Some ([], bytes)
many_in read (suc n) bytes = do
  first ← read bytes
  others ← many_in read n first.1
  Some (first.0 ∷ others.0, others.1)

-- a number of items, and the items
unfoldable pub counted_in : {X : Type 0} → (List ℕ → Option (X × List ℕ)) → List ℕ → Option (List X × List ℕ)
counted_in read bytes = do
  n ← number_in 2 bytes
  many_in read n.0 n.1

unfoldable pub handler_in : List ℕ → Option (HandlerParts × List ℕ)
handler_in bytes = do
  start ← number_in 2 bytes
  end ← number_in 2 start.1
  handler ← number_in 2 end.1
  caught ← number_in 2 handler.1
  Some ((start.0, end.0, handler.0, caught.0), caught.1)

-- a name, a length and so many bytes
unfoldable pub named_in : List ℕ → Option (NamedParts × List ℕ)
named_in bytes = do
  name ← number_in 2 bytes
  n ← number_in 4 name.1
  content ← front_in n.0 n.1
  Some ((name.0, content.0), content.1)

unfoldable pub code_in : List ℕ → Option (CodeParts × List ℕ)
code_in bytes = do
  max_stack ← number_in 2 bytes
  max_locals ← number_in 2 max_stack.1
  n ← number_in 4 max_locals.1
  code ← front_in n.0 n.1
  handlers ← counted_in handler_in code.1
  attributes ← counted_in named_in handlers.1
  Some (record { max_stack = max_stack.0; max_locals = max_locals.0; code = code.0; handlers = handlers.0; attributes = attributes.0 }, attributes.1)

-- all of the bytes as the body of an attribute of a kind
unfoldable pub body_in : Kind → List ℕ → Option Body
body_in kinds.Code bytes = do
  found ← code_in bytes
  code ← whole found
  Some (Code code)
body_in kinds.ConstantValue bytes = do
  found ← number_in 2 bytes
  constant ← whole found
  Some (ConstantValue constant)
body_in kinds.Bytes bytes = Some (Bytes bytes)

unfoldable pub attribute_in : Owner → List Entry → List ℕ → Option (Attribute × List ℕ)
attribute_in owner pool bytes = do
  found ← named_in bytes
  body ← body_in (kind_of owner pool found.0.0) found.0.1
  Some (record { name = found.0.0; body = body }, found.1)

unfoldable pub member_in : Owner → List Entry → List ℕ → Option (Member × List ℕ)
member_in owner pool bytes = do
  flags ← number_in 2 bytes
  name ← number_in 2 flags.1
  descriptor ← number_in 2 name.1
  attributes ← counted_in (attribute_in owner pool) descriptor.1
  Some (record { flags = flags.0; name = name.0; descriptor = descriptor.0; attributes = attributes.0 }, attributes.1)

unfoldable pub identity_in : List ℕ → Option (Identity × List ℕ)
identity_in bytes = do
  flags ← number_in 2 bytes
  this_class ← number_in 2 flags.1
  super_class ← number_in 2 this_class.1
  interfaces ← counted_in (number_in 2) super_class.1
  Some (record { flags = flags.0; this_class = this_class.0; super_class = super_class.0; interfaces = interfaces.0 }, interfaces.1)

unfoldable pub members_in : List Entry → List ℕ → Option (Members × List ℕ)
members_in pool bytes = do
  fields ← counted_in (member_in owners.Field pool) bytes
  methods ← counted_in (member_in owners.Method pool) fields.1
  attributes ← counted_in (attribute_in owners.Class pool) methods.1
  Some (record { fields = fields.0; methods = methods.0; attributes = attributes.0 }, attributes.1)

abbrev pub class_of : ℕ → ℕ → List Entry → Identity → Members → ClassFile
class_of minor major pool i m =
    record {
      minor = minor;
      major = major;
      pool = pool;
      flags = i.flags;
      this_class = i.this_class;
      super_class = i.super_class;
      interfaces
          = i.interfaces;
      fields = m.fields;
      methods = m.methods;
      attributes = m.attributes;
    }

-- what stands behind the pool of a class file, all of the bytes
unfoldable pub inside_in : ℕ → ℕ → List Entry → List ℕ → Option ClassFile
inside_in minor major pool bytes = do
  identity ← identity_in bytes
  found ← members_in pool identity.1
  members ← whole found
  Some (class_of minor major pool identity.0 members)

-- the minor and the major version behind the magic number
unfoldable pub header_in : List ℕ → Option ((ℕ × ℕ) × List ℕ)
header_in bytes = do
  magic ← number_in 4 bytes
  rest ← if magic.0 == 0xCAFEBABE then Some magic.1 else None
  minor ← number_in 2 rest
  major ← number_in 2 minor.1
  Some ((minor.0, major.0), major.1)
