-- The bytes of a class file: JVM Specification SE 8, 4.1 and 4.5 to 4.7.
use Rattle.std.specs.Prelude.{ℕ, List, ◌++◌, length}
use Rattle.std.specs.List.{flat_map}
use Rattle.class_pool.specs.Spelling.{u2, u4, pool_bytes}
use Rattle.class_pool.specs.declared.class.Attribute.{Attribute}
use Rattle.class_pool.specs.declared.class.Body.{Body}
use Rattle.class_pool.specs.declared.class.Body.TheVariants.{Code, ConstantValue, Bytes}
use Rattle.class_pool.specs.declared.class.Code.{Code as CodeParts}
use Rattle.class_pool.specs.declared.class.Member.{Member}
use Rattle.class_pool.specs.declared.class.ClassFile.{ClassFile}

abbrev pub HandlerParts : Type 0
HandlerParts = ℕ × ℕ × ℕ × ℕ

abbrev pub NamedParts : Type 0
NamedParts = ℕ × List ℕ

-- a number of items, and their bytes
abbrev pub counted : {X : Type 0} → (X → List ℕ) → List X → List ℕ
counted spelled xs = u2 (length xs) ++ flat_map spelled xs

-- an entry of an exception table (4.7.3)
abbrev pub handler_bytes : HandlerParts → List ℕ
handler_bytes h = u2 h.0 ++ (u2 h.1 ++ (u2 h.2 ++ u2 h.3))

-- a name, a length and so many bytes (4.7)
abbrev pub framed : ℕ → List ℕ → List ℕ
framed name bytes = u2 name ++ (u4 (length bytes) ++ bytes)

abbrev pub named_bytes : NamedParts → List ℕ
named_bytes a = framed a.0 a.1

-- what a Code attribute says (4.7.3)
abbrev pub code_bytes : CodeParts → List ℕ
code_bytes c = u2 c.max_stack ++ (u2 c.max_locals ++ (u4 (length c.code) ++ (c.code ++ (counted handler_bytes c.handlers ++ counted named_bytes c.attributes))))

abbrev pub body_bytes : Body → List ℕ
body_bytes (Code c) = code_bytes c
body_bytes (ConstantValue constant) = u2 constant
body_bytes (Bytes bytes) = bytes

abbrev pub attribute_bytes : Attribute → List ℕ
attribute_bytes a = framed a.name (body_bytes a.body)

-- a field or a method (4.5, 4.6)
abbrev pub member_bytes : Member → List ℕ
member_bytes m = u2 m.flags ++ (u2 m.name ++ (u2 m.descriptor ++ counted attribute_bytes m.attributes))

-- what a class is, behind the pool
abbrev pub identity_bytes : ClassFile → List ℕ
identity_bytes c = u2 c.flags ++ (u2 c.this_class ++ (u2 c.super_class ++ counted u2 c.interfaces))

-- what a class has
abbrev pub members_bytes : ClassFile → List ℕ
members_bytes c = counted member_bytes c.fields ++ (counted member_bytes c.methods ++ counted attribute_bytes c.attributes)

-- what stands behind the pool
abbrev pub inside_bytes : ClassFile → List ℕ
inside_bytes c = identity_bytes c ++ members_bytes c

abbrev pub magic : List ℕ
magic = u4 0xCAFEBABE

-- what stands before the pool
abbrev pub header_bytes : ℕ → ℕ → List ℕ
header_bytes minor major = magic ++ (u2 minor ++ u2 major)

-- a class file (4.1)
abbrev pub class_bytes : ClassFile → List ℕ
class_bytes c = header_bytes c.minor c.major ++ (pool_bytes c.pool ++ inside_bytes c)
