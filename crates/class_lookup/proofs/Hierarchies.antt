-- The hierarchy of classes without a cycle.
use Rattle.std.proofs.Common.{◌≡◌, ℕ, ◌<◌, ◌≤◌, Bool, true, false, eqb, List, [], ◌∷◌, ◌⊎◌, inl, inr, Some, length, refl, sym, ap, ◌∙◌, subst, arith}
use Rattle.std.specs.Prelude.{slice_index}
use Rattle.std.specs.Option.{option_to_list}
use Rattle.std.specs.List.{flat_map, list_any}
use Rattle.std.proofs.lemmas.Bool.{or_cases, or_left, or_right, eq-eqb, false≢true, false_from_ne_true}
use Rattle.class_pool.specs.declared.class.ClassFile.{ClassFile}
use Rattle.class_lookup.specs.Hierarchy.{superclass, superinterfaces, direct_supertypes, superclasses, supertypes, is_among, is_subclass, extends, is_on_a_cycle, IsRanked, IsAcyclic}
use Rattle.class_lookup.specs.Laws.{HierarchyLaw, SuperclassesLaw}
pub use Rattle.lists.proofs.Among.{in_option, option_in}
use Rattle.lists.proofs.Among.{in_left, in_right}
use Rattle.class_lookup.proofs.Reached.{Falls, here, beyond, way_of, in_append, reached_self, reached_by, reached_through, reached_rank, reached_kept, reached_step}

abbrev pub rank_in : List ℕ → ℕ → ℕ
rank_in ranks c = slice_index ranks c

-- ---- the three ways upwards fall in rank

abbrev pub super_list : List ClassFile → ℕ → List ℕ
super_list cs c = option_to_list (superclass cs c)

pub falls_supertypes : (cs : List ClassFile) (ranks : List ℕ) → IsRanked cs ranks → Falls (direct_supertypes cs) (rank_in ranks) (length cs)
falls_supertypes cs ranks r = record { bounded = r.bounded; falls = r.falls }

pub falls_superclasses : (cs : List ClassFile) (ranks : List ℕ) → IsRanked cs ranks → Falls (super_list cs) (rank_in ranks) (length cs)
falls_superclasses cs ranks r = record {
  bounded = r.bounded;
  falls = λ c d h. r.falls c d (in_right (superinterfaces cs c) (super_list cs c) d h);
}

pub falls_superinterfaces : (cs : List ClassFile) (ranks : List ℕ) → IsRanked cs ranks → Falls (superinterfaces cs) (rank_in ranks) (length cs)
falls_superinterfaces cs ranks r = record {
  bounded = r.bounded;
  falls = λ c d h. r.falls c d (in_left (superinterfaces cs c) (super_list cs c) d h);
}

-- ---- what is above

pub extends_self : (cs : List ClassFile) → IsAcyclic cs → (c : ℕ) → extends cs c c ≡ true
unfolding supertypes
extends_self cs a c = reached_self (direct_supertypes cs) (rank_in a.ranks) (length cs) (falls_supertypes cs a.ranks a.ranked) c

pub extends_by : (cs : List ClassFile) → IsAcyclic cs → (c x d : ℕ) → is_among (direct_supertypes cs c) x ≡ true → extends cs x d ≡ true → extends cs c d ≡ true
unfolding supertypes
extends_by cs a c x d h e = reached_by (direct_supertypes cs) (rank_in a.ranks) (length cs) (falls_supertypes cs a.ranks a.ranked) c x d h e

pub extends_direct : (cs : List ClassFile) → IsAcyclic cs → (c d : ℕ) → is_among (direct_supertypes cs c) d ≡ true → extends cs c d ≡ true
extends_direct cs a c d h = extends_by cs a c d d h (extends_self cs a d)

pub extends_through : (cs : List ClassFile) → IsAcyclic cs → (x y z : ℕ) → extends cs x y ≡ true → extends cs y z ≡ true → extends cs x z ≡ true
unfolding supertypes
extends_through cs a x y z h e = reached_through (direct_supertypes cs) (rank_in a.ranks) (length cs) (falls_supertypes cs a.ranks a.ranked) x y z h e

abbrev pub Above : List ClassFile → ℕ → ℕ → Type 0
Above cs c d = (c ≡ d) ⊎ ((x : ℕ) × (is_among (direct_supertypes cs c) x ≡ true) × (extends cs x d ≡ true))

pub extends_way : (cs : List ClassFile) → IsAcyclic cs → (c d : ℕ) → extends cs c d ≡ true → Above cs c d
unfolding supertypes
extends_way cs a c d h =
    elim (way_of (direct_supertypes cs) (rank_in a.ranks) (length cs) (falls_supertypes cs a.ranks a.ranked) c d h) [
      | here s ↦ inl s
      | beyond x u v ↦ inr (x, u, v)
    ]

pub extends_rank : (cs : List ClassFile) (a : IsAcyclic cs) (c d : ℕ) → extends cs c d ≡ true → slice_index a.ranks d ≤ slice_index a.ranks c
unfolding supertypes
extends_rank cs a c d h = reached_rank (direct_supertypes cs) (rank_in a.ranks) (length cs) (falls_supertypes cs a.ranks a.ranked) c d h

-- what is handed to each class directly above is handed to all above
pub extends_kept : (cs : List ClassFile) → IsAcyclic cs → (P : ℕ → Type 0) → ((x y : ℕ) → P x → is_among (direct_supertypes cs x) y ≡ true → P y) → (c d : ℕ) → P c → extends cs c d ≡ true → P d
unfolding supertypes
extends_kept cs a P up c d p h = reached_kept (direct_supertypes cs) (rank_in a.ranks) (length cs) (falls_supertypes cs a.ranks a.ranked) P up c d p h

one_way : (cs : List ClassFile) (a : IsAcyclic cs) (c d : ℕ) → extends cs c d ≡ true → extends cs d c ≡ true → c ≡ d
one_way cs a c d h e =
    elim (extends_way cs a c d h) [
      | inl s ↦ s
      | inr w ↦
          let lower = a.ranked.falls c w.0 w.1 in
          let below = extends_rank cs a w.0 d w.2 in
          let back = extends_rank cs a d c e in
          absurd (omega (arith, lower, below, back))
    ]

any_in : (test : ℕ → Bool) (xs : List ℕ) → list_any test xs ≡ true → (x : ℕ) × (is_among xs x ≡ true) × (test x ≡ true)
any_in test [] h = absurd (false≢true h)
any_in test (x ∷ xs) h =
    elim (or_cases (test x) (list_any test xs) h) [
      | inl e ↦ (x, or_left (eqb x x) (is_among xs x) (eq-eqb x x refl), e)
      | inr e ↦ let r = any_in test xs e in (r.0, or_right (eqb x r.0) (is_among xs r.0) r.1, r.2)
    ]

pub no_cycle : (cs : List ClassFile) (a : IsAcyclic cs) (c : ℕ) → is_on_a_cycle cs c ≡ false
no_cycle cs a c = false_from_ne_true (is_on_a_cycle cs c) (λ h.
    let r = any_in (λ d. extends cs d c) (direct_supertypes cs c) h in
    let lower = a.ranked.falls c r.0 r.1 in
    let back = extends_rank cs a r.0 c r.2 in
    absurd (omega (arith, lower, back)))

-- ---- superclasses

-- a class or a superclass
abbrev pub IsUpward : List ClassFile → ℕ → ℕ → Type 0
IsUpward cs c d = is_among (superclasses cs c) d ≡ true

pub upward_self : (cs : List ClassFile) → IsAcyclic cs → (c : ℕ) → IsUpward cs c c
unfolding superclasses
upward_self cs a c = reached_self (super_list cs) (rank_in a.ranks) (length cs) (falls_superclasses cs a.ranks a.ranked) c

pub upward_step : (cs : List ClassFile) → IsAcyclic cs → (c : ℕ) → superclasses cs c ≡ c ∷ flat_map (superclasses cs) (super_list cs c)
unfolding superclasses
upward_step cs a c = reached_step (super_list cs) (rank_in a.ranks) (length cs) (falls_superclasses cs a.ranks a.ranked) c

pub upward_by : (cs : List ClassFile) → IsAcyclic cs → (c x d : ℕ) → superclass cs c ≡ Some x → IsUpward cs x d → IsUpward cs c d
unfolding superclasses
upward_by cs a c x d h e = reached_by (super_list cs) (rank_in a.ranks) (length cs) (falls_superclasses cs a.ranks a.ranked) c x d (option_in (superclass cs c) x h) e

pub upward_through : (cs : List ClassFile) → IsAcyclic cs → (x y z : ℕ) → IsUpward cs x y → IsUpward cs y z → IsUpward cs x z
unfolding superclasses
upward_through cs a x y z h e = reached_through (super_list cs) (rank_in a.ranks) (length cs) (falls_superclasses cs a.ranks a.ranked) x y z h e

pub upward_rank : (cs : List ClassFile) (a : IsAcyclic cs) (c d : ℕ) → IsUpward cs c d → slice_index a.ranks d ≤ slice_index a.ranks c
unfolding superclasses
upward_rank cs a c d h = reached_rank (super_list cs) (rank_in a.ranks) (length cs) (falls_superclasses cs a.ranks a.ranked) c d h

pub upward_way : (cs : List ClassFile) → IsAcyclic cs → (c d : ℕ) → IsUpward cs c d → (c ≡ d) ⊎ ((x : ℕ) × (superclass cs c ≡ Some x) × IsUpward cs x d)
unfolding superclasses
upward_way cs a c d h =
    elim (way_of (super_list cs) (rank_in a.ranks) (length cs) (falls_superclasses cs a.ranks a.ranked) c d h) [
      | here s ↦ inl s
      | beyond x u v ↦ inr (x, in_option (superclass cs c) x u, v)
    ]

pub super_is_above : (cs : List ClassFile) (c d : ℕ) → superclass cs c ≡ Some d → is_among (direct_supertypes cs c) d ≡ true
super_is_above cs c d h = in_right (superinterfaces cs c) (super_list cs c) d (option_in (superclass cs c) d h)

pub interface_is_above : (cs : List ClassFile) (c d : ℕ) → is_among (superinterfaces cs c) d ≡ true → is_among (direct_supertypes cs c) d ≡ true
interface_is_above cs c d h = in_left (superinterfaces cs c) (super_list cs c) d h

pub upward_extends : (cs : List ClassFile) → IsAcyclic cs → (c d : ℕ) → IsUpward cs c d → extends cs c d ≡ true
unfolding superclasses
upward_extends cs a c d h =
    reached_kept (super_list cs) (rank_in a.ranks) (length cs) (falls_superclasses cs a.ranks a.ranked) (λ x. extends cs c x ≡ true)
    (λ x y p u. extends_through cs a c x y p (extends_direct cs a x y (in_right (superinterfaces cs x) (super_list cs x) y u))) c d (extends_self cs a c) h

-- ---- subclasses

pub subclass_of : (cs : List ClassFile) (c d : ℕ) → is_subclass cs c d ≡ true → (s : ℕ) × (superclass cs c ≡ Some s) × IsUpward cs s d
subclass_of cs c d h =
    let r = any_in (λ s. is_among (superclasses cs s) d) (super_list cs c) h in
    (r.0, in_option (superclass cs c) r.0 r.1, r.2)

pub subclass_from : (cs : List ClassFile) (c s d : ℕ) → superclass cs c ≡ Some s → IsUpward cs s d → is_subclass cs c d ≡ true
subclass_from cs c s d h e = ap (λ o. list_any (λ x. is_among (superclasses cs x) d) (option_to_list o)) h ∙ or_left (is_among (superclasses cs s) d) false e

pub subclass_upward : (cs : List ClassFile) → IsAcyclic cs → (c d : ℕ) → is_subclass cs c d ≡ true → IsUpward cs c d
subclass_upward cs a c d h = let r = subclass_of cs c d h in upward_by cs a c r.0 d r.1 r.2

pub upward_subclass : (cs : List ClassFile) → IsAcyclic cs → (c d : ℕ) → IsUpward cs c d → (c ≡ d) ⊎ (is_subclass cs c d ≡ true)
upward_subclass cs a c d h = elim (upward_way cs a c d h) [ inl s ↦ inl s | inr w ↦ inr (subclass_from cs c w.0 d w.1 w.2) ]

pub subclass_through : (cs : List ClassFile) → IsAcyclic cs → (x y z : ℕ) → is_subclass cs x y ≡ true → IsUpward cs y z → is_subclass cs x z ≡ true
subclass_through cs a x y z h e = let r = subclass_of cs x y h in subclass_from cs x r.0 z r.1 (upward_through cs a r.0 y z r.2 e)

pub upward_then_subclass : (cs : List ClassFile) → IsAcyclic cs → (x y z : ℕ) → IsUpward cs x y → is_subclass cs y z ≡ true → is_subclass cs x z ≡ true
upward_then_subclass cs a x y z h e =
    elim (upward_subclass cs a x y h) [
      | inl s ↦ ap (λ k. is_subclass cs k z) s ∙ e
      | inr s ↦ subclass_through cs a x y z s (subclass_upward cs a y z e)
    ]

pub subclass_rank : (cs : List ClassFile) (a : IsAcyclic cs) (c d : ℕ) → is_subclass cs c d ≡ true → slice_index a.ranks d < slice_index a.ranks c
subclass_rank cs a c d h =
    let r = subclass_of cs c d h in
    let lower = a.ranked.falls c r.0 (super_is_above cs c r.0 r.1) in
    let below = upward_rank cs a r.0 d r.2 in
    omega (arith, lower, below)

pub not_itself : (cs : List ClassFile) (a : IsAcyclic cs) (c : ℕ) → is_subclass cs c c ≡ false
not_itself cs a c = false_from_ne_true (is_subclass cs c c) (λ h. let lower = subclass_rank cs a c c h in absurd (omega (arith, lower)))

abbrev BySuperclass : List ClassFile → ℕ → ℕ → Type 0
BySuperclass cs c d = (s : ℕ) × (superclass cs c ≡ Some s) × ((s ≡ d) ⊎ (is_subclass cs s d ≡ true))

by_superclass : (cs : List ClassFile) → IsAcyclic cs → (c d : ℕ) → is_subclass cs c d ≡ true → BySuperclass cs c d
by_superclass cs a c d h = let r = subclass_of cs c d h in (r.0, r.1, upward_subclass cs a r.0 d r.2)

from_superclass : (cs : List ClassFile) → IsAcyclic cs → (c d : ℕ) → BySuperclass cs c d → is_subclass cs c d ≡ true
from_superclass cs a c d w =
    subclass_from cs c w.0 d w.1 (elim w.2 [ inl s ↦ subst (λ k. IsUpward cs w.0 k) s (upward_self cs a w.0) | inr s ↦ subclass_upward cs a w.0 d s ])

directly_of : (cs : List ClassFile) (c d : ℕ) → is_among (direct_supertypes cs c) d ≡ true → (is_among (superinterfaces cs c) d ≡ true) ⊎ (superclass cs c ≡ Some d)
directly_of cs c d h =
    elim (or_cases (is_among (superinterfaces cs c) d) (is_among (super_list cs c) d) (sym (in_append (superinterfaces cs c) (super_list cs c) d) ∙ h)) [
      | inl e ↦ inl e
      | inr e ↦ inr (in_option (superclass cs c) d e)
    ]

of_directly : (cs : List ClassFile) (c d : ℕ) → (is_among (superinterfaces cs c) d ≡ true) ⊎ (superclass cs c ≡ Some d) → is_among (direct_supertypes cs c) d ≡ true
of_directly cs c d (inl e) = interface_is_above cs c d e
of_directly cs c d (inr e) = super_is_above cs c d e

pub hierarchy : HierarchyLaw
hierarchy cs a = record {
  self = extends_self cs a;
  direct = extends_direct cs a;
  directly = λ c d. (directly_of cs c d, of_directly cs c d);
  through = extends_through cs a;
  least = extends_way cs a;
  kept = λ test. extends_kept cs a (λ x. test x ≡ true);
  one_way = one_way cs a;
  acyclic = no_cycle cs a;
  subclass = λ c d. (by_superclass cs a c d, from_superclass cs a c d);
  subclass_extends = λ c d h. upward_extends cs a c d (subclass_upward cs a c d h);
  not_itself = not_itself cs a;
}

pub superclasses_law : SuperclassesLaw
superclasses_law cs a = record {
  step = upward_step cs a;
  self = upward_self cs a;
  by = upward_by cs a;
  way = upward_way cs a;
  through = upward_through cs a;
  extends = upward_extends cs a;
}
