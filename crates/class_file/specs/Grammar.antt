-- What stands behind the header of a class file, and headers of other versions: JVM Specification SE 8, 4.1.
use Rattle.std.specs.Prelude.{◌≡◌, ℕ, ◌<◌, ◌⊎◌, List, ◌++◌}
use Rattle.class_pool.specs.declared.class.ClassFile.{ClassFile}
use Rattle.class_pool.specs.Grammar.{IsPool}
use Rattle.class_pool.specs.Spelling.{pool_bytes}
use Rattle.class_pool.specs.ClassSpelling.{header_bytes, inside_bytes}
use Rattle.class_pool.specs.Structure.{IsHalf, HasPartsInRange}
use Rattle.class_rules.specs.Rules.{FollowsRules}

-- these bytes stand behind the header of that class file of these versions
pub record IsBehindHeader (minor major : ℕ) (bytes : List ℕ) (c : ClassFile) : Type 0 where
  pub same_minor : c.minor ≡ minor
  pub same_major : c.major ≡ major
  pub pool : IsPool c.pool
  pub inside : HasPartsInRange c
  pub rules : FollowsRules c
  pub spelling : bytes ≡ pool_bytes c.pool ++ inside_bytes c

-- the first eight bytes are a header of another major version
pub record IsOtherVersion (bytes : List ℕ) (major : ℕ) : Type 0 where
  pub minor : ℕ
  pub rest : List ℕ
  pub minor_fits : IsHalf minor
  pub major_fits : IsHalf major
  pub other : (major < 50) ⊎ (52 < major)
  pub spelling : bytes ≡ header_bytes minor major ++ rest
