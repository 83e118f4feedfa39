-- The class grammar: which values are a class file, and which bytes are which class file: JVM Specification SE 8, chapter 4.
use Rattle.std.specs.Prelude.{◌≡◌, ℕ, ◌≤◌, List}
use Rattle.class_pool.specs.declared.class.ClassFile.{ClassFile}
use Rattle.class_pool.specs.Grammar.{IsPool}
use Rattle.class_pool.specs.ClassSpelling.{class_bytes}
use Rattle.class_pool.specs.Structure.{IsHalf, HasPartsInRange}
use Rattle.class_rules.specs.Rules.{FollowsRules}

-- a value of the grammar
pub record IsClass (c : ClassFile) : Type 0 where
  pub minor : IsHalf c.minor
  -- the versions that JVM Specification SE 8, 4.1 allows to code whose types are checked by StackMapTable alone, from Java 6 on (4.10.1)
  pub oldest : 50 ≤ c.major
  pub newest : c.major ≤ 52
  pub pool : IsPool c.pool
  pub inside : HasPartsInRange c
  pub rules : FollowsRules c

-- these bytes are that class file
pub record IsClassOf (bytes : List ℕ) (c : ClassFile) : Type 0 where
  pub grammar : IsClass c
  pub spelling : bytes ≡ class_bytes c
