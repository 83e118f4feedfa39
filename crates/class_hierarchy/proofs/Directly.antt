-- What stands directly above a class; and when texts, names with descriptors, and places are equal.
use Rattle.std.proofs.Common.{◌≡◌, ℕ, eqb, true, List, ◌∷◌, length, Some, ap, ap₂}
use Rattle.std.specs.Prelude.{slice_index}
use Rattle.std.specs.Option.{option_to_list}
use Rattle.std.specs.List.{flat_map}
use Rattle.std.proofs.lemmas.Bool.{and_parts, and_from, eqb-true}
use lib.Pointwise.{bytes_decides}
use Rattle.class_pool.specs.declared.class.ClassFile.{ClassFile}
use Rattle.lists.proofs.Reached.{reached_step}
use Rattle.lists.proofs.Among.{in_left, in_right, option_in}
use Rattle.class_lookup.specs.Parts.{same_text, Signature, same_signature}
use Rattle.class_lookup.specs.Hierarchy.{superclass, superclasses, superinterfaces, direct_supertypes, is_among, IsAcyclic}
use Rattle.class_lookup.specs.Lookup.{Place, same_place}

abbrev pub super_list : List ClassFile → ℕ → List ℕ
super_list cs c = option_to_list (superclass cs c)

pub super_is_above : (cs : List ClassFile) (c d : ℕ) → superclass cs c ≡ Some d → is_among (direct_supertypes cs c) d ≡ true
super_is_above cs c d h = in_right (superinterfaces cs c) (super_list cs c) d (option_in (superclass cs c) d h)

pub interface_is_above : (cs : List ClassFile) (c d : ℕ) → is_among (superinterfaces cs c) d ≡ true → is_among (direct_supertypes cs c) d ≡ true
interface_is_above cs c d h = in_left (superinterfaces cs c) (super_list cs c) d h

-- from a class upwards: the class, and those from its direct superclass upwards
pub upward_step : (cs : List ClassFile) → IsAcyclic cs → (c : ℕ) → superclasses cs c ≡ c ∷ flat_map (superclasses cs) (super_list cs c)
unfolding superclasses
upward_step cs a c =
    reached_step (super_list cs) (λ k. slice_index a.ranks k) (length cs)
    (record { bounded = a.ranked.bounded; falls = λ c d h. a.ranked.falls c d (in_right (superinterfaces cs c) (super_list cs c) d h) }) c

pub text_same : (a b : List ℕ) → same_text a b ≡ true → a ≡ b
text_same a b h = (bytes_decides a b).0 h

pub same_is_text : (a b : List ℕ) → a ≡ b → same_text a b ≡ true
same_is_text a b h = (bytes_decides a b).1 h

pub signature_same : (s t : Signature) → same_signature s t ≡ true → s ≡ t
signature_same s t h =
    let p = and_parts (same_text s.name t.name) (same_text s.descriptor t.descriptor) h in
    ap₂ (λ n d. record { name = n; descriptor = d }) (text_same s.name t.name p.0) (text_same s.descriptor t.descriptor p.1)

pub same_is_signature : (s t : Signature) → s ≡ t → same_signature s t ≡ true
same_is_signature s t h =
    and_from (same_text s.name t.name) (same_text s.descriptor t.descriptor) (same_is_text s.name t.name (ap (λ x. x.name) h)) (same_is_text s.descriptor t.descriptor (ap (λ x. x.descriptor) h))

pub place_same : (p q : Place) → same_place p q ≡ true → p ≡ q
place_same p q h =
    let e = and_parts (eqb p.0 q.0) (eqb p.1 q.1) h in
    ap₂ (λ (x : ℕ) (y : ℕ). (x, y)) (eqb-true p.0 q.0 e.0) (eqb-true p.1 q.1 e.1)
