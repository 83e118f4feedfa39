-- Which file a class was compiled from: JVM Specification SE 8, 4.7.10.
use Rattle.std.specs.Prelude.{ℕ, ◌+◌, ◌*◌, ◌==◌, if◌then◌else◌, List, [], ◌∷◌, ◌++◌, Option, Some, None, codes, option_map, unwrap_or}
use Rattle.std.specs.List.{list_any}
use Rattle.lists.specs.Lists.{onto}
use Rattle.class_pool.specs.declared.entry.Entry.{Entry}
use Rattle.class_pool.specs.declared.class.Attribute.{Attribute}
use Rattle.class_pool.specs.declared.class.Body.{Body}
use Rattle.class_pool.specs.declared.class.Body.TheVariants.{Bytes}
use Rattle.class_pool.specs.declared.class.ClassFile.{ClassFile}
use Rattle.class_pool.specs.Found.{first_of}
use Rattle.class_pool.specs.Grammar.{entry_at, class_name_of, utf8_of}
use Rattle.class_pool.specs.Kind.{is_named}
use Rattle.class_pool.specs.Utf8.{utf8_bytes}

abbrev pub bytes_part : Body → Option (List ℕ)
bytes_part (Bytes bytes) = Some bytes
bytes_part body = None

abbrev pub source_part : List Entry → Attribute → Option (List ℕ)
source_part pool a = if is_named pool a.name (codes "SourceFile") then bytes_part a.body else None

-- the text whose index stands in two bytes
abbrev pub named_text : List Entry → List ℕ → Option (List ℕ)
named_text pool (high ∷ low ∷ []) = utf8_of (entry_at pool (256 * high + low))
named_text pool bytes = None

-- the name of the file, without folders; a class file has one such attribute at most, and of more the first counts
abbrev pub source_name : ClassFile → Option (List ℕ)
source_name c = onto (first_of (source_part c.pool) c.attributes) (named_text c.pool)

-- the name of the class (4.2.1); nothing where the index is that of no class
abbrev pub binary_name : ClassFile → List ℕ
binary_name c = unwrap_or (onto (class_name_of (entry_at c.pool c.this_class)) (λ name. utf8_of (entry_at c.pool name))) []

-- the part of a name up to its last /, which it includes
abbrev pub folder_in : List ℕ → List ℕ
folder_in [] = []
folder_in (unit ∷ units) = if list_any (λ u. u == 47) (unit ∷ units) then unit ∷ folder_in units else []

-- the file of a class, in the folder of its package, as bytes
abbrev pub source_file_of : ClassFile → Option (List ℕ)
source_file_of c = option_map (λ name. utf8_bytes (folder_in (binary_name c) ++ name)) (source_name c)
