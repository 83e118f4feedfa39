-- What stands behind the pool of a class file: JVM Specification SE 8, 4.1.
use Rattle.std.specs.Prelude.{◌≡◌, ℕ, List}
use Rattle.class_pool.specs.declared.entry.Entry.{Entry}
use Rattle.class_pool.specs.declared.class.ClassFile.{ClassFile}
use Rattle.class_pool.specs.ClassSpelling.{inside_bytes}
use Rattle.class_pool.specs.Structure.{HasPartsInRange}

-- the bytes are what stands behind the pool in that class file, which is of these versions and this pool
pub record IsInsideOf (minor major : ℕ) (pool : List Entry) (bytes : List ℕ) (c : ClassFile) : Type 0 where
  pub spelling : bytes ≡ inside_bytes c
  pub structure : HasPartsInRange c
  pub same_minor : c.minor ≡ minor
  pub same_major : c.major ≡ major
  pub same_pool : c.pool ≡ pool

-- class files of one version and one pool whose bytes behind the pool are the same are one
abbrev pub OneInside : Type 0
OneInside = (minor major : ℕ) (pool : List Entry) (bytes : List ℕ) (c d : ClassFile) → IsInsideOf minor major pool bytes c → IsInsideOf minor major pool bytes d
    → c ≡ d
