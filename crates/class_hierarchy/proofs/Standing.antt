-- The tables of what stands above each class, from an order of the classes.
use Rattle.std.proofs.Common.{◌≡◌, ℕ, zero, suc, ◌<◌, ◌≤◌, true, List, [], ◌∷◌, map, length, get_or, refl, sym, ap, ◌∙◌, subst, arith}
use Rattle.std.specs.Prelude.{slice_get}
use Rattle.std.specs.Option.{option_map_or}
use Rattle.std.specs.List.{filter_map, flat_map}
use Rattle.class_pool.specs.declared.class.ClassFile.{ClassFile}
use Rattle.class_lookup.specs.Parts.{superinterface_names}
use Rattle.class_lookup.specs.Hierarchy.{find_class, superinterfaces, direct_supertypes, supertypes, with_superinterfaces, reached, is_among}
use Rattle.lists.proofs.Reached.{flat_same}
use Rattle.class_hierarchy.proofs.Directly.{interface_is_above}
use Rattle.number_sets.specs.Numbers.{entry, IsSameSearch, IsPeeled, HasAll}
use Rattle.class_hierarchy.specs.TopDown.{IsTopDown}
use Rattle.lists.proofs.Tables.{same_along}

pub peeled_of : (cs : List ClassFile) (above : List (List ℕ)) (order : List ℕ) → length above ≡ length cs → ((c d : ℕ) → is_among (entry above c) d ≡ true → is_among (direct_supertypes cs c) d ≡ true) → IsTopDown cs order → IsPeeled above order
peeled_of cs above order long within o = record {
  ordered = λ i d lt h. o.ordered i d lt (within (get_or order i 0) d h);
  below = λ c h. subst (λ n. c < n) (sym long) (o.below c h);
}

pub all_of : (cs : List ClassFile) (above : List (List ℕ)) (order : List ℕ) → length above ≡ length cs → IsTopDown cs order → HasAll (length above) order
all_of cs above order long o c lt = o.all c (subst (λ n. c < n) long lt)

pub few_of : (cs : List ClassFile) (above : List (List ℕ)) (order : List ℕ) → length above ≡ length cs → length order ≤ length cs → length order ≤ length above
few_of cs above order long few = omega (arith, long, few)

reached_same : (f g : ℕ → List ℕ) → ((k : ℕ) → f k ≡ g k) → (n c : ℕ) → reached f n c ≡ reached g n c
reached_same f g h zero c = refl
reached_same f g h (suc n) c =
    ap (λ xs. c ∷ xs) (flat_same (reached f n) (reached g n) (f c) (λ x e. reached_same f g h n x) ∙ ap (λ xs. flat_map (reached g n) xs) (h c))

-- ---- superclasses and superinterfaces

pub supertypes_of : (cs : List ClassFile) (above : List (List ℕ)) → length above ≡ length cs → ((c : ℕ) → entry above c ≡ direct_supertypes cs c) → (list : List ℕ) (c : ℕ) → IsSameSearch list (reached (entry above) (length above) c) → IsSameSearch list (supertypes cs c)
unfolding supertypes
supertypes_of cs above long direct list c h =
    same_along list (reached (entry above) (length above) c) (reached (direct_supertypes cs) (length cs) c) h
    (reached_same (entry above) (direct_supertypes cs) direct (length above) c ∙ ap (λ n. reached (direct_supertypes cs) n c) long)

-- ---- superinterfaces

lists_at : (cs ks : List ClassFile) (c : ℕ) → get_or (map (λ k. filter_map (find_class cs) (superinterface_names k)) ks) c [] ≡ option_map_or (λ k. filter_map (find_class cs) (superinterface_names k)) (slice_get ks c) []
lists_at cs [] c = refl
lists_at cs (k ∷ ks) zero = refl
lists_at cs (k ∷ ks) (suc c) = lists_at cs ks c

pub interface_lists : (cs : List ClassFile) (table : List (List ℕ)) → table ≡ map (λ k. filter_map (find_class cs) (superinterface_names k)) cs → (c : ℕ) → entry table c ≡ superinterfaces cs c
interface_lists cs table h c = ap (λ (t : List (List ℕ)). entry t c) h ∙ lists_at cs cs c

long_map : (f : ClassFile → List ℕ) (ks : List ClassFile) → length (map f ks) ≡ length ks
long_map f [] = refl
long_map f (k ∷ ks) = ap suc (long_map f ks)

pub interface_long : (cs : List ClassFile) (table : List (List ℕ)) → table ≡ map (λ k. filter_map (find_class cs) (superinterface_names k)) cs → length table ≡ length cs
interface_long cs table h = ap (λ (t : List (List ℕ)). length t) h ∙ long_map (λ k. filter_map (find_class cs) (superinterface_names k)) cs

pub interface_within : (cs : List ClassFile) (table : List (List ℕ)) → ((c : ℕ) → entry table c ≡ superinterfaces cs c) → (c d : ℕ) → is_among (entry table c) d ≡ true → is_among (direct_supertypes cs c) d ≡ true
interface_within cs table h c d e = interface_is_above cs c d (ap (λ xs. is_among xs d) (sym (h c)) ∙ e)

pub interfaces_of : (cs : List ClassFile) (above : List (List ℕ)) → length above ≡ length cs → ((c : ℕ) → entry above c ≡ superinterfaces cs c) → (list : List ℕ) (c : ℕ) → IsSameSearch list (reached (entry above) (length above) c) → IsSameSearch list (with_superinterfaces cs c)
unfolding with_superinterfaces
interfaces_of cs above long direct list c h =
    same_along list (reached (entry above) (length above) c) (reached (superinterfaces cs) (length cs) c) h
    (reached_same (entry above) (superinterfaces cs) direct (length above) c ∙ ap (λ n. reached (superinterfaces cs) n c) long)
