-- What is found where no class declares a member of a name and a descriptor.
use Rattle.std.proofs.Common.{◌≡◌, ℕ, false, List, [], ◌∷◌, map, Option, Some, None, refl, sym, ap, ◌∙◌}
use Rattle.std.specs.List.{filter_map, cons_option}
use Rattle.number_sets.specs.Bits.Bits.{has}
use Rattle.number_sets.specs.Bits.Table.{BitTable}
use Rattle.class_pool.specs.declared.class.Member.{Member}
use Rattle.class_pool.specs.declared.class.ClassFile.{ClassFile}
use Rattle.lists.specs.Lists.{onto, first_some}
use Rattle.lists.proofs.Finding.{all_none}
use Rattle.class_lookup.specs.Parts.{Signature}
use Rattle.class_lookup.specs.Lookup.{Place, declared, declared_method}
use Rattle.class_lookup.specs.Symbols.{symbol}
use Rattle.class_hierarchy.specs.declared.members.Named.{Named}
use Rattle.class_hierarchy.specs.Marks.{AreMarked}
use Rattle.class_hierarchy.specs.Members.{declared_as, HasSymbols}
use Rattle.class_hierarchy.proofs.Marking.{no_row}

pub none_found : (members : ClassFile → List Member) (cs : List ClassFile) (m : BitTable) (a b : ℕ) → AreMarked members cs m → ((c : ℕ) → has m (a, b) c ≡ false)
    → (s : Signature) → symbol cs s.name ≡ Some a → symbol cs s.descriptor ≡ Some b → (list : List ℕ) → None ≡ first_some (map (declared members cs s) list)
none_found members cs m a b h is s n d list = sym (all_none (declared members cs s) list (λ c e. no_row members cs m a b h is s c n d))

none_kept : (find : ℕ → Option Place) (xs : List ℕ) → ((x : ℕ) → find x ≡ None) → filter_map find xs ≡ []
none_kept find [] h = refl
none_kept find (x ∷ xs) h = ap (λ o. cons_option o (filter_map find xs)) (h x) ∙ none_kept find xs h

pub none_named : (cs : List ClassFile) (marks : BitTable) (m : Named) → HasSymbols cs m → AreMarked (λ k. k.methods) cs marks → ((c : ℕ) → has marks (m.name, m.descriptor) c ≡ false)
    → (list : List ℕ) → filter_map (declared_as cs m.place) list ≡ []
none_named cs marks m h marked is list =
    none_kept (declared_as cs m.place) list
    (λ c. ap (λ o. onto o (λ s. declared_method cs s c)) h.has ∙ no_row (λ k. k.methods) cs marks m.name m.descriptor marked is h.signature c h.name_is h.descriptor_is)
