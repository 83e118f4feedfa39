-- What the class grammar says of numbers of entries and of bytes.
use Rattle.std.proofs.Common.{◌≡◌, ◌≤◌, List, [], ◌∷◌, length, Option, Some, None, refl, arith}
use Rattle.std.specs.Prelude.{IfSome}
use Rattle.std.specs.List.{AllByRecursion}
use Rattle.class_pool.specs.declared.class.Code.{Code}
use Rattle.class_pool.specs.declared.class.ClassFile.{ClassFile}
use Rattle.class_pool.specs.Found.{code_of}
use Rattle.class_rules.specs.Found.{MethodsHaveCode}
use Rattle.class_rules.specs.Grammar.{IsClass}
use Rattle.class_rules.specs.Rules.{IsRightMethod, IsRightCode}
use Rattle.program_tables.specs.Tables.{HasFileLimits}

all_of : {X : Type 0} (P Q : X → Type 0) → ((x : X) → P x → Q x) → (xs : List X) → AllByRecursion P xs → AllByRecursion Q xs
all_of P Q h [] g = tt
all_of P Q h (x ∷ xs) g = (h x g.0, all_of P Q h xs g.1)

code_case : (c : ClassFile) (o : Option Code) → ((code : Code) → o ≡ Some code → IsRightCode c.pool code) → IfSome o (λ k. length k.code ≤ 33554432)
code_case c None h = tt
code_case c (Some k) h = let right = h k refl in omega (arith, right.not_long)

class_bounds : MethodsHaveCode → (c : ClassFile) → IsClass c → HasFileLimits c
class_bounds law c is = record {
  pool = omega (arith, is.pool.count);
  code = all_of (IsRightMethod c) (λ m. IfSome (code_of m) (λ k. length k.code ≤ 33554432)) (λ m right. code_case c (code_of m) (law c m right).0) c.methods is.rules.methods;
}

pub bounds : MethodsHaveCode → (cs : List ClassFile) → AllByRecursion IsClass cs → AllByRecursion HasFileLimits cs
bounds law cs are = all_of IsClass HasFileLimits (class_bounds law) cs are
