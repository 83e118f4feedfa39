-- That the core classes are verified.
use Rattle.std.specs.Prelude.{◌≡◌, ℕ, ◌<◌, ◌≤◌, List, [], ◌∷◌, ◌++◌, length, Some, None, slice_get}
use Rattle.program_tables.specs.Core.{core_count}
use Rattle.class_pool.specs.declared.class.ClassFile.{ClassFile}
use Rattle.class_lookup.specs.Hierarchy.{find_class}
use Rattle.class_lookup.specs.Lookup.{Place}
use Rattle.program_tables.specs.Numbers.{methods_by_number}
use Rattle.std.specs.List.{AllByRecursion}
use Rattle.core_classes.specs.Core.{core, boot}
use Rattle.core_classes.specs.Linkage.{DeclaresStatic, initializer, main_signature}
use Rattle.bytecode_verifier.specs.Failure.{method_failure}

-- no rule fails in a method of a core class, whichever classes stand behind them, if each of these has a name
abbrev pub CoreIsVerified : Type 0
CoreIsVerified = (others : List ClassFile) → find_class others [] ≡ None → (n : ℕ) (p : Place) → slice_get (methods_by_number (core ++ others)) n ≡ Some p
    → p.0 < core_count → method_failure (core ++ others) n ≡ None

-- nor in the method of the class that is run, which stands behind them, if it calls methods that are there
abbrev pub BootIsVerified : Type 0
BootIsVerified = (ks : List ClassFile) (calls : List (List ℕ)) (main : List ℕ) → length calls ≤ 10000
    → AllByRecursion (λ name. DeclaresStatic (core ++ (ks ++ boot calls main ∷ [])) name initializer) calls
    → DeclaresStatic (core ++ (ks ++ boot calls main ∷ [])) main main_signature
    → (n : ℕ) → slice_get (methods_by_number (core ++ (ks ++ boot calls main ∷ []))) n ≡ Some (length (core ++ ks), 0)
    → method_failure (core ++ (ks ++ boot calls main ∷ [])) n ≡ None
