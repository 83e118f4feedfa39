-- What the laws of the core classes and of the class that is run say.
use Rattle.std.specs.Prelude.{◌≡◌, ℕ, ◌≤◌, List, [], ◌∷◌, length, map, codes, Some, slice_get}
use Rattle.std.specs.List.{AllByRecursion}
use Rattle.class_rules.specs.Rules.{IsClassName}
use Rattle.class_rules.specs.Grammar.{IsClass}
use Rattle.class_making.specs.Right.{IsPoolText}
use Rattle.class_pool.specs.declared.class.ClassFile.{ClassFile}
use Rattle.class_making.specs.declared.plan.ClassPlan.{ClassPlan}
use Rattle.class_making.specs.Plans.{class_of}
use Rattle.class_making.specs.Laws.{HasBytes, class_text, SaysPlan}
use Rattle.core_classes.specs.Core.{core_plans, core, boot_plan, boot}

-- each core class is a class file
abbrev pub CoreClassesAreClasses : Type 0
CoreClassesAreClasses = AllByRecursion IsClass core

-- and their code is bytes
abbrev pub CoreHasBytes : Type 0
CoreHasBytes = AllByRecursion HasBytes core

-- the name of a class, which a pool can hold
abbrev pub IsCalled : List ℕ → Type 0
IsCalled name = IsClassName name × IsPoolText name

-- so is the class that is run, whichever classes it calls
abbrev pub BootIsAClass : Type 0
BootIsAClass = (calls : List (List ℕ)) (main : List ℕ) → length calls ≤ 10000 → AllByRecursion IsCalled calls → IsCalled main
    → IsClass (boot calls main) × HasBytes (boot calls main)

-- ---- what they say

-- the core classes have these names, in this order
abbrev pub core_names : List (List ℕ)
core_names =
    codes "java/lang/Object"
    ∷ codes "java/io/Serializable"
    ∷ codes "java/lang/Cloneable"
    ∷ codes "java/lang/String"
    ∷ codes "java/lang/Throwable"
    ∷ codes "java/lang/Exception"
    ∷ codes "java/lang/RuntimeException"
    ∷ codes "java/lang/Error"
    ∷ codes "java/lang/ArithmeticException"
    ∷ codes "java/lang/ArrayStoreException"
    ∷ codes "java/lang/ClassCastException"
    ∷ codes "java/lang/IllegalArgumentException"
    ∷ codes "java/lang/IllegalStateException"
    ∷ codes "java/lang/IndexOutOfBoundsException"
    ∷ codes "java/lang/ArrayIndexOutOfBoundsException"
    ∷ codes "java/lang/NegativeArraySizeException"
    ∷ codes "java/lang/NullPointerException"
    ∷ codes "java/lang/LinkageError"
    ∷ codes "java/lang/IncompatibleClassChangeError"
    ∷ codes "java/lang/VirtualMachineError"
    ∷ codes "java/lang/OutOfMemoryError"
    ∷ codes "java/lang/StackOverflowError"
    ∷ codes "jop/Io"
    ∷ []

abbrev pub class_name : ClassFile → List ℕ
class_name c = class_text c.pool c.this_class

abbrev pub CoreIsNamed : Type 0
CoreIsNamed = map class_name core ≡ core_names

-- each is the class file of its plan, and says what the plan says
abbrev pub CoreSaysPlans : Type 0
CoreSaysPlans = (i : ℕ) (p : ClassPlan) → slice_get core_plans i ≡ Some p → (slice_get core i ≡ Some (class_of p)) × SaysPlan p (class_of p)

abbrev pub BootSaysPlan : Type 0
BootSaysPlan = (calls : List (List ℕ)) (main : List ℕ) → length calls ≤ 10000 → SaysPlan (boot_plan calls main) (boot calls main)
