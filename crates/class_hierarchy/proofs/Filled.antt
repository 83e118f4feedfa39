-- Tables of what each class has, one class after another, each behind those directly above it.
use Rattle.std.proofs.Common.{◌≡◌, ℕ, zero, suc, ◌+◌, ◌<◌, ◌≤◌, true, eqb, List, [], ◌∷◌, ◌++◌, take, map, length, get_or, set, replicate, Option, Some, None, inl, inr, refl, sym, ap, ap₂, ◌∙◌, subst, append-nil, arith}
use Rattle.std.specs.Option.{option_map_or, option_to_list}
use Rattle.std.specs.List.{flat_map}
use Rattle.std.proofs.lemmas.Bool.{cases_eq, or_cases, eqb-true, false≢true}
use Rattle.std.proofs.lemmas.List.{get_or-set_same, get_or-set_other, length-set, take_all}
use Rattle.std.proofs.lemmas.List.Folds.{list_any_more}
use Rattle.class_pool.specs.declared.class.ClassFile.{ClassFile}
use Rattle.class_lookup.specs.Lists.{first_some}
use Rattle.class_lookup.specs.Hierarchy.{superclass, superclasses, superinterfaces, with_superinterfaces, all_superinterfaces, is_among, IsAcyclic}
use Rattle.class_hierarchy.proofs.Directly.{upward_step, super_list, super_is_above, interface_is_above}
use Rattle.number_sets.specs.Numbers.{entry, IsSameSearch, HasAll}
use Rattle.class_hierarchy.specs.TopDown.{IsTopDown}
use Rattle.lists.proofs.Finding.{same_search, same_append, same_flat}
use Rattle.class_hierarchy.proofs.Ranks.{direct_below}

pub record IsFilled (P : ℕ → List ℕ → Type 0) (most : ℕ) (done : List ℕ) (table : List (List ℕ)) : Type 0 where
  pub long : length table ≡ most
  pub each : (c : ℕ) → is_among done c ≡ true → P c (entry table c)

long_none : (n : ℕ) → length (replicate {A = List ℕ} n []) ≡ n
long_none zero = refl
long_none (suc n) = ap suc (long_none n)

pub filled_none : (P : ℕ → List ℕ → Type 0) (most : ℕ) (table : List (List ℕ)) → table ≡ replicate most [] → IsFilled P most [] table
filled_none P most table h = record { long = ap length h ∙ long_none most; each = λ c e. absurd (false≢true e) }

pub filled_more : (P : ℕ → List ℕ → Type 0) (most : ℕ) (order : List ℕ) (i : ℕ) (table : List (List ℕ)) (list : List ℕ) → i < length order → get_or order i 0 < most
    → IsFilled P most (take i order) table → P (get_or order i 0) list → IsFilled P most (take (i + 1) order) (set table (get_or order i 0) list)
filled_more P most order i table list lt below f p =
    let n = get_or order i 0 in
    let within : n < length table = let long = f.long in omega (arith, below, long) in
    record {
      long = length-set table n list ∙ f.long;
      each = λ c e. elim (cases_eq c n) [
        | inl s ↦ subst (λ k. P k (entry (set table n list) k)) (sym s) (subst (λ xs. P n xs) (sym (get_or-set_same table n list [] within)) p)
        | inr s ↦ subst (λ xs. P c xs) (sym (get_or-set_other table n c list [] s))
            (f.each c (elim (or_cases (is_among (take i order) c) (eqb n c) (sym (list_any_more (λ k. eqb k c) order i 0 lt) ∙ e)) [ inl l ↦ l | inr r ↦ absurd (s (sym (eqb-true n c r))) ]))
      ];
    }

pub filled_all : (P : ℕ → List ℕ → Type 0) (most : ℕ) (order : List ℕ) (i : ℕ) (table : List (List ℕ)) → length order ≤ i → HasAll most order → IsFilled P most (take i order) table → (c : ℕ) → c < most → P c (entry table c)
filled_all P most order i table g all f c lt = f.each c (ap (λ xs. is_among xs c) (take_all i order g) ∙ all c lt)

-- ---- superclasses

abbrev pub AreSuperclassesOf : List ClassFile → ℕ → List ℕ → Type 0
AreSuperclassesOf cs c xs = xs ≡ superclasses cs c

chain_case : (cs : List ClassFile) (table : List (List ℕ)) (o : Option ℕ) → ((s : ℕ) → o ≡ Some s → entry table s ≡ superclasses cs s) → option_map_or (entry table) o [] ≡ flat_map (superclasses cs) (option_to_list o)
chain_case cs table None h = refl
chain_case cs table (Some s) h = h s refl ∙ sym (append-nil (superclasses cs s))

pub chain_list : (cs : List ClassFile) → IsAcyclic cs → (order : List ℕ) → IsTopDown cs order → (i : ℕ) (table : List (List ℕ)) → i < length order → IsFilled (AreSuperclassesOf cs) (length cs) (take i order) table
    → (list : List ℕ) → list ≡ get_or order i 0 ∷ option_map_or (entry table) (superclass cs (get_or order i 0)) [] → AreSuperclassesOf cs (get_or order i 0) list
chain_list cs a order o i table lt f list h =
    let n = get_or order i 0 in
    h ∙ (ap (λ xs. n ∷ xs) (chain_case cs table (superclass cs n) (λ s e. f.each s (o.ordered i s lt (super_is_above cs n s e)))) ∙ sym (upward_step cs a n))

-- ---- superinterfaces of superclasses

abbrev pub AreInherited : List ClassFile → ℕ → List ℕ → Type 0
AreInherited cs c xs = IsSameSearch xs (all_superinterfaces cs c)

own_interfaces : List ClassFile → ℕ → List ℕ
own_interfaces cs k = flat_map (with_superinterfaces cs) (superinterfaces cs k)

above_case : (cs : List ClassFile) (table : List (List ℕ)) (o : Option ℕ) → ((s : ℕ) → o ≡ Some s → IsSameSearch (entry table s) (all_superinterfaces cs s))
    → IsSameSearch (option_map_or (entry table) o []) (flat_map (λ k. flat_map (with_superinterfaces cs) (superinterfaces cs k)) (flat_map (superclasses cs) (option_to_list o)))
above_case cs table None h find = refl
above_case cs table (Some s) h find =
    h s refl find ∙ ap (λ xs. first_some (map find (flat_map (λ k. flat_map (with_superinterfaces cs) (superinterfaces cs k)) xs))) (sym (append-nil (superclasses cs s)))

pub inherited_list : (cs : List ClassFile) → IsAcyclic cs → (order : List ℕ) → IsTopDown cs order → (interfaces : List (List ℕ)) → ((c : ℕ) → c < length cs → IsSameSearch (entry interfaces c) (with_superinterfaces cs c))
    → (i : ℕ) (table : List (List ℕ)) → i < length order → IsFilled (AreInherited cs) (length cs) (take i order) table
    → (list : List ℕ) → IsSameSearch list (flat_map (entry interfaces) (superinterfaces cs (get_or order i 0)) ++ option_map_or (entry table) (superclass cs (get_or order i 0)) []) → AreInherited cs (get_or order i 0) list
inherited_list cs a order o interfaces w i table lt f list h find =
    let n = get_or order i 0 in
    let G : ℕ → List ℕ = λ k. flat_map (with_superinterfaces cs) (superinterfaces cs k) in
    h find
    ∙ (same_append (flat_map (entry interfaces) (superinterfaces cs n)) (G n) (option_map_or (entry table) (superclass cs n) []) (flat_map G (flat_map (superclasses cs) (super_list cs n)))
    (same_flat (entry interfaces) (with_superinterfaces cs) (superinterfaces cs n) (λ d e. w d (direct_below cs n d (interface_is_above cs n d e))))
    (above_case cs table (superclass cs n) (λ s e. f.each s (o.ordered i s lt (super_is_above cs n s e)))) find
    ∙ ap (λ xs. first_some (map find (flat_map G xs))) (sym (upward_step cs a n)))

-- ---- as the code makes them

pub superclass_below : (cs : List ClassFile) (c d : ℕ) → Some d ≡ superclass cs c → d < length cs
superclass_below cs c d h = direct_below cs c d (super_is_above cs c d (sym h))

pub none_of : {A : Type 0} (o : Option A) → ((x : A) → o ≡ Some x → ⊥) → o ≡ None
none_of None h = refl
none_of (Some x) h = absurd (h x refl)

pub above_some : (table : List (List ℕ)) (o : Option ℕ) (s : ℕ) → Some s ≡ o → entry table s ≡ option_map_or (entry table) o []
above_some table o s h = ap (λ x. option_map_or (entry table) x []) h

pub above_none : (table : List (List ℕ)) (o : Option ℕ) → None ≡ o → [] ≡ option_map_or (entry table) o []
above_none table o h = ap (λ x. option_map_or (entry table) x []) h

pub front_then : (start pushed items read rest : List ℕ) (n : ℕ) → start ≡ [] → pushed ≡ start ++ n ∷ [] → items ≡ pushed ++ read → read ≡ rest → items ≡ n ∷ rest
front_then start pushed items read rest n h e i r = i ∙ (ap (λ xs. xs ++ read) (e ∙ ap (λ xs. xs ++ n ∷ []) h) ∙ ap (λ xs. n ∷ xs) r)

pub front_alone : (start pushed rest : List ℕ) (n : ℕ) → start ≡ [] → pushed ≡ start ++ n ∷ [] → [] ≡ rest → pushed ≡ n ∷ rest
front_alone start pushed rest n h e r = e ∙ (ap (λ xs. xs ++ n ∷ []) h ∙ ap (λ xs. n ∷ xs) r)

pub both_parts : (old set final base read rest : List ℕ) → old ≡ [] → IsSameSearch set (old ++ base) → IsSameSearch final (set ++ read) → read ≡ rest → IsSameSearch final (base ++ rest)
both_parts old set final base read rest h e i r find =
    i find ∙ (same_append set (old ++ base) read read e (same_search read read refl) find
    ∙ ap₂ (λ xs ys. first_some (map find (xs ++ base ++ ys))) h r)

pub one_part : (old set base rest : List ℕ) → old ≡ [] → IsSameSearch set (old ++ base) → [] ≡ rest → IsSameSearch set (base ++ rest)
one_part old set base rest h e r find = e find ∙ ap (λ xs. first_some (map find xs)) (ap (λ xs. xs ++ base) h ∙ (sym (append-nil base) ∙ ap (λ xs. base ++ xs) r))
