-- Classes behind their superclasses, and the superclasses of a class one after another.
use Rattle.std.proofs.Common.{◌≡◌, ℕ, zero, suc, ◌<◌, true, false, inl, inr, List, [], ◌∷◌, ◌++◌, Option, Some, None, map, length, get_or, append-nil, append_assoc, refl, sym, ap, ◌∙◌, subst, arith}
use Rattle.std.specs.Prelude.{slice_get, slice_index}
use Rattle.std.specs.Option.{option_map_or, option_to_list}
use Rattle.std.specs.List.{flat_map, range_with_len}
use Rattle.std.proofs.lemmas.Bool.{cases_Bool}
use Rattle.std.proofs.lemmas.List.FromFn.{get_or-map-range_with_len, length-map-range_with_len}
use Rattle.class_pool.specs.declared.class.ClassFile.{ClassFile}
use Rattle.lists.proofs.Lemmas.{none≢some, some_same}
use Rattle.lists.proofs.Among.{among_at, in_option, option_in}
use Rattle.class_lookup.specs.Hierarchy.{superclass, superclasses, is_among, IsAcyclic}
use Rattle.class_lookup.specs.Laws.{AreSuperclasses}
use Rattle.class_lookup.proofs.Hierarchies.{super_is_above}
use Rattle.number_sets.specs.Numbers.{entry, IsPeeled, IsStuck}
use Rattle.image_words.specs.Order.{IsSuperclassFirst}
use Rattle.image_words.proofs.FillLemmas.{superclass_within}

abbrev pub superclass_lists : List ClassFile → List (List ℕ)
superclass_lists cs = map (λ c. option_to_list (superclass cs c)) (range_with_len 0 (length cs))

entry_is : (cs : List ClassFile) (lists : List (List ℕ)) (c : ℕ) → lists ≡ superclass_lists cs → c < length cs → entry lists c ≡ option_to_list (superclass cs c)
entry_is cs lists c e lt =
    ap (λ xs. entry xs c) e ∙ get_or-map-range_with_len (λ c. option_to_list (superclass cs c)) 0 (length cs) c c [] lt (omega arith)

long : (cs : List ClassFile) (lists : List (List ℕ)) → lists ≡ superclass_lists cs → length lists ≡ length cs
long cs lists e = ap length e ∙ length-map-range_with_len (λ c. option_to_list (superclass cs c)) 0 (length cs)

-- where no class is its own superclass, none is left
left_below : (cs : List ClassFile) (a : IsAcyclic cs) (lists : List (List ℕ)) (order : List ℕ) → lists ≡ superclass_lists cs → IsStuck lists order → (n c : ℕ) → slice_index a.ranks c < n → c < length cs → is_among order c ≡ false → ⊥
left_below cs a lists order e s zero c lt l h = absurd (omega (arith, lt))
left_below cs a lists order e s (suc n) c lt l h =
    let all = long cs lists e in
    let w = s c (omega (arith, all, l)) h in
    let up = in_option (superclass cs c) w.0 (sym (ap (λ xs. is_among xs w.0) (entry_is cs lists c e l)) ∙ w.1) in
    let lower = a.ranked.falls c w.0 (super_is_above cs c w.0 up) in
    left_below cs a lists order e s n w.0 (omega (arith, lower, lt)) (superclass_within cs c w.0 up) w.2

pub superclass_first : (cs : List ClassFile) → IsAcyclic cs → (lists : List (List ℕ)) (order : List ℕ) → lists ≡ superclass_lists cs → IsPeeled lists order → IsStuck lists order → IsSuperclassFirst cs order
superclass_first cs a lists order e p s =
    let within : (c : ℕ) → is_among order c ≡ true → c < length cs = λ c h. subst (λ n. c < n) (long cs lists e) (p.below c h) in
    record {
      ordered = λ i d lt h. p.ordered i d lt (ap (λ xs. is_among xs d) (entry_is cs lists (get_or order i 0) e (within (get_or order i 0) (among_at order i lt))) ∙ option_in (superclass cs (get_or order i 0)) d h);
      below = within;
      all = λ c lt. elim (cases_Bool (is_among order c)) [
        | inl t ↦ t
        | inr f ↦ absurd (left_below cs a lists order e s (length cs) c (a.ranked.bounded c) lt f)
      ];
    }

-- ---- the superclasses of a class

abbrev pub chain_from : List ClassFile → Option ℕ → List ℕ
chain_from cs o = option_map_or (superclasses cs) o []

from_case : (cs : List ClassFile) (o : Option ℕ) → flat_map (superclasses cs) (option_to_list o) ≡ chain_from cs o
from_case cs None = refl
from_case cs (Some d) = append-nil (superclasses cs d)

pub chain_step : (cs : List ClassFile) → AreSuperclasses cs → (c : ℕ) → superclasses cs c ≡ c ∷ chain_from cs (superclass cs c)
chain_step cs are c = are.step c ∙ ap (λ xs. c ∷ xs) (from_case cs (superclass cs c))

pub chain_more : (cs : List ClassFile) → AreSuperclasses cs → (at class : ℕ) (next : Option ℕ) (chain new : List ℕ) → next ≡ superclass cs at → chain ++ superclasses cs at ≡ superclasses cs class → new ≡ chain ++ at ∷ [] → new ++ chain_from cs next ≡ superclasses cs class
chain_more cs are at class next chain new n h e =
    ap (λ xs. xs ++ chain_from cs next) e
    ∙ (append_assoc chain (at ∷ []) (chain_from cs next) ∙ (ap (λ o. chain ++ at ∷ chain_from cs o) n ∙ (ap (λ xs. chain ++ xs) (sym (chain_step cs are at)) ∙ h)))

-- each is followed by its superclass
link_case : (cs : List ClassFile) → AreSuperclasses cs → (c i d : ℕ) (o : Option ℕ) → superclass cs c ≡ o → ((x : ℕ) → slice_get (superclasses cs x) i ≡ Some d → superclass cs d ≡ slice_get (superclasses cs x) (suc i)) → slice_get (chain_from cs o) i ≡ Some d → superclass cs d ≡ slice_get (chain_from cs o) (suc i)
link_case cs are c i d None h later e = absurd (none≢some d e)
link_case cs are c i d (Some x) h later e = later x e

start_case : (cs : List ClassFile) → AreSuperclasses cs → (o : Option ℕ) → o ≡ slice_get (chain_from cs o) 0
start_case cs are None = refl
start_case cs are (Some x) = sym (ap (λ xs. slice_get xs 0) (chain_step cs are x))

pub chain_link : (cs : List ClassFile) → AreSuperclasses cs → (i c d : ℕ) → slice_get (superclasses cs c) i ≡ Some d → superclass cs d ≡ slice_get (superclasses cs c) (suc i)
chain_link cs are zero c d h =
    let same = some_same c d (sym (ap (λ xs. slice_get xs 0) (chain_step cs are c)) ∙ h) in
    ap (superclass cs) (sym same) ∙ (start_case cs are (superclass cs c) ∙ sym (ap (λ xs. slice_get xs 1) (chain_step cs are c)))
chain_link cs are (suc i) c d h =
    link_case cs are c i d (superclass cs c) refl (λ x e. chain_link cs are i x d e) (sym (ap (λ xs. slice_get xs (suc i)) (chain_step cs are c)) ∙ h)
    ∙ sym (ap (λ xs. slice_get xs (suc (suc i))) (chain_step cs are c))

within_case : (cs : List ClassFile) → (c i d : ℕ) (o : Option ℕ) → superclass cs c ≡ o → ((x : ℕ) → x < length cs → slice_get (superclasses cs x) i ≡ Some d → d < length cs) → slice_get (chain_from cs o) i ≡ Some d → d < length cs
within_case cs c i d None h later e = absurd (none≢some d e)
within_case cs c i d (Some x) h later e = later x (superclass_within cs c x h) e

pub chain_within : (cs : List ClassFile) → AreSuperclasses cs → (i c d : ℕ) → c < length cs → slice_get (superclasses cs c) i ≡ Some d → d < length cs
chain_within cs are zero c d lt h =
    let same = some_same c d (sym (ap (λ xs. slice_get xs 0) (chain_step cs are c)) ∙ h) in
    subst (λ n. n < length cs) same lt
chain_within cs are (suc i) c d lt h =
    within_case cs c i d (superclass cs c) refl (λ x l e. chain_within cs are i x d l e) (sym (ap (λ xs. slice_get xs (suc i)) (chain_step cs are c)) ∙ h)
