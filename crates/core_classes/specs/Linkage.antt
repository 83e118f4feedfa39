-- What the laws of the core classes say.
use Rattle.std.specs.Prelude.{◌≡◌, ℕ, ◌≤◌, List, [], ◌++◌, Some, ◌∷◌, None, false, IsTrue, ◌&&◌, codes, length, slice_get}
use Rattle.std.specs.List.{AllByRecursion}
use Rattle.class_pool.specs.declared.class.ClassFile.{ClassFile}
use Rattle.class_rules.specs.Rules.{IsClassName}
use Rattle.core_classes.specs.Core.{core, boot}
use Rattle.class_pool.specs.declared.class.Member.{Member}
use Rattle.class_lookup.specs.Parts.{Signature, signature_of, is_static, has_code}
use Rattle.class_lookup.specs.Hierarchy.{find_class, is_on_a_cycle}
use Rattle.class_lookup.specs.Lookup.{Place, method_at, declared_method}
use Rattle.program_tables.specs.Core.{boot_name, boot_method, boot_descriptor}
use Rattle.program_tables.specs.Unsupported.{unsupported_in}
use Rattle.program_tables.specs.Resolving.{IsLinkable, HasCore}

-- whichever classes stand behind them, if each of these has a name
abbrev pub CoreIsLinkable : Type 0
CoreIsLinkable = (others : List ClassFile) → find_class others [] ≡ None → (c : ℕ) (k : ClassFile) → slice_get core c ≡ Some k → IsLinkable (core ++ others) c k

-- before other classes, of which the last has such a method
abbrev pub CoreStandsFirst : Type 0
CoreStandsFirst = (others : List ClassFile) (last : ClassFile) (boot : Member) → find_class (others ++ last ∷ []) [] ≡ None
    → slice_get last.methods 0 ≡ Some boot → IsTrue (is_static boot && has_code boot)
    → signature_of last boot ≡ record { name = boot_method; descriptor = boot_descriptor }
    → HasCore (core ++ (others ++ last ∷ []))

abbrev pub CoreIsSupported : Type 0
CoreIsSupported = AllByRecursion (λ k. unsupported_in k ≡ []) core

-- ---- the class that is run, which stands behind all others

-- there is a class of this name, and it declares such a method, which is static
pub record DeclaresStatic (cs : List ClassFile) (name : List ℕ) (s : Signature) : Type 0 where
  pub right : IsClassName name
  pub place : Place
  pub found : find_class cs name ≡ Some place.0
  pub declared : declared_method cs s place.0 ≡ Some place
  pub method : Member
  pub there : method_at cs place ≡ Some method
  pub static : IsTrue (is_static method)

abbrev pub initializer : Signature
initializer = record { name = codes "<clinit>"; descriptor = codes "()V" }

abbrev pub main_signature : Signature
main_signature = record { name = codes "main"; descriptor = codes "([Ljava/lang/String;)V" }

abbrev pub BootIsSupported : Type 0
BootIsSupported = (calls : List (List ℕ)) (main : List ℕ) → length calls ≤ 10000 → unsupported_in (boot calls main) ≡ []

-- if no other class has its name, and each has one, and it calls methods that are there
abbrev pub BootIsLinkable : Type 0
BootIsLinkable = (ks : List ClassFile) (calls : List (List ℕ)) (main : List ℕ) → length calls ≤ 10000 → find_class (core ++ ks) boot_name ≡ None
    → find_class ks [] ≡ None
    → AllByRecursion (λ name. DeclaresStatic (core ++ (ks ++ boot calls main ∷ [])) name initializer) calls
    → DeclaresStatic (core ++ (ks ++ boot calls main ∷ [])) main main_signature
    → IsLinkable (core ++ (ks ++ boot calls main ∷ [])) (length (core ++ ks)) (boot calls main)

-- it isn't above itself, whatever it calls
abbrev pub BootIsOnNoCycle : Type 0
BootIsOnNoCycle = (ks : List ClassFile) (calls : List (List ℕ)) (main : List ℕ) → length calls ≤ 10000 → find_class (core ++ ks) boot_name ≡ None
    → find_class ks [] ≡ None
    → is_on_a_cycle (core ++ (ks ++ boot calls main ∷ [])) (length (core ++ ks)) ≡ false
