-- Which parts of a class file have room for their lengths.
use Rattle.std.specs.Prelude.{◌<◌, ◌^◌, length}
use Rattle.class_pool.specs.declared.class.Attribute.{Attribute}
use Rattle.class_pool.specs.declared.class.Body.{Body}
use Rattle.class_pool.specs.declared.class.Body.TheVariants.{Code}
use Rattle.class_pool.specs.declared.class.Member.{Member}
use Rattle.class_pool.specs.ClassSpelling.{body_bytes}
use Rattle.class_pool.specs.Structure.{AreCounted, HasCodeRange}

abbrev pub HasRoom : Body → Type 0
HasRoom (Code code) = HasCodeRange code
HasRoom body = Unit {0}

abbrev pub IsRoomy : Attribute → Type 0
IsRoomy a = (length (body_bytes a.body) < 2 ^ 32) × HasRoom a.body

abbrev pub IsRoomyMember : Member → Type 0
IsRoomyMember m = AreCounted IsRoomy m.attributes
