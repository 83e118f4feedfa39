-- What the body of an attribute is (JVM Specification SE 8, 4.7): Code on a method and ConstantValue on a field; all others are kept as bytes.
use Rattle.std.specs.Prelude.{ℕ, Bool, false, if◌then◌else◌, List, codes, Option, Some, None}
use Rattle.std.specs.Str.{bytes_eq}
use Rattle.class_pool.specs.declared.entry.Entry.{Entry}
use Rattle.class_pool.specs.Grammar.{entry_at, utf8_of}
use Rattle.class_pool.specs.declared.kind.Owner.{Owner}
use Rattle.class_pool.specs.declared.kind.Owner.TheVariants.{Class, Field, Method}
use Rattle.class_pool.specs.declared.kind.Kind.{Kind}
use Rattle.class_pool.specs.declared.kind.Kind.TheVariants as kinds

abbrev pub is_this_text : Option (List ℕ) → List ℕ → Bool
is_this_text None text = false
is_this_text (Some units) text = bytes_eq units text

-- the entry of an index is this text
abbrev pub is_named : List Entry → ℕ → List ℕ → Bool
is_named pool index text = is_this_text (utf8_of (entry_at pool index)) text

abbrev pub kind_of : Owner → List Entry → ℕ → Kind
kind_of Class pool name = kinds.Bytes
kind_of Field pool name = if is_named pool name (codes "ConstantValue") then kinds.ConstantValue else kinds.Bytes
kind_of Method pool name = if is_named pool name (codes "Code") then kinds.Code else kinds.Bytes
