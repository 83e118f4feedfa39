-- Kinds of objects by their dimensions, and what stands above them.
use Rattle.std.proofs.Common.{◌≡◌, ℕ, zero, suc, ◌+◌, ◌<◌, ◌≤◌, Bool, true, false, ◌||◌, ◌==◌, List, [], ◌∷◌, ◌++◌, Option, Some, None, length, refl, sym, ap, ap₂, ◌∙◌, arith}
use Rattle.std.specs.Prelude.{slice_get}
use Rattle.std.specs.Option.{option_map_or, option_to_list}
use Rattle.std.specs.List.{flat_map, filter_map}
use Rattle.std.proofs.lemmas.Bool.{ne_eqb}
use Rattle.std.proofs.lemmas.Option.{slice_get_past}
use Rattle.bytecode_model.specs.Effects.{component_of}
use Rattle.image_facts.specs.Says.{counted_type, instance_words}
use Rattle.program_tables.specs.Numbers.{types_of}
use Rattle.program_tables.specs.Resolved.{resolved}
use Rattle.image_words.specs.Layout.{table_place, table_of, interface_table_of, outline_of}
use Rattle.image_words.specs.Regions.{supertype_words, type_image}
use Rattle.class_pool.specs.declared.class.ClassFile.{ClassFile}
use Rattle.bytecode_model.specs.Types.{Kind, OfReferences}
use Rattle.bytecode_model.specs.Program.{Program, is_of, object_class, serializable_class, cloneable_class}
use Rattle.lists.specs.Lists.{onto}
use Rattle.lists.specs.Numbers.{reached}
use Rattle.class_lookup.specs.Parts.{superclass_name, superinterface_names}
use Rattle.class_lookup.specs.Hierarchy.{find_class, supertypes, direct_supertypes, extends, is_among}
use Rattle.program_tables.specs.Kinds.{arrays_of}
use Rattle.program_tables.specs.declared.kinds.Base.{Base}
use Rattle.program_tables.specs.declared.kinds.Base.TheVariants.{Class, Numbers}
use Rattle.program_tables.specs.Tables.{base_kind}

-- ---- by dimensions

-- no base is an array of references
base_not : (P : Program) (b : Base) (k : Kind) → is_of P (base_kind b) (OfReferences k) ≡ false
base_not P (Class c) k = refl
base_not P (Numbers a) k = refl

pub fewer_dimensions : (P : Program) (a b : Base) (n m : ℕ) → n < m → is_of P (arrays_of n (base_kind a)) (arrays_of m (base_kind b)) ≡ false
fewer_dimensions P a b n zero lt = absurd (omega (arith, lt))
fewer_dimensions P a b zero (suc m) lt = base_not P a (arrays_of m (base_kind b))
fewer_dimensions P a b (suc n) (suc m) lt = fewer_dimensions P a b n m (omega (arith, lt))

pub more_dimensions : (P : Program) (a b : Base) (n m d : ℕ) → n ≡ d + m → is_of P (arrays_of n (base_kind a)) (arrays_of m (base_kind b)) ≡ is_of P (arrays_of d (base_kind a)) (base_kind b)
more_dimensions P a b n zero d h = let same : n ≡ d = omega (arith, h) in ap (λ k. is_of P (arrays_of k (base_kind a)) (base_kind b)) same
more_dimensions P a b zero (suc m) d h = absurd (omega (arith, h))
more_dimensions P a b (suc n) (suc m) d h = more_dimensions P a b n m d (omega (arith, h))

abbrev pub above_arrays : ℕ → Bool
above_arrays c = c == object_class || c == serializable_class || c == cloneable_class

-- an array, of numbers or of references
pub array_is : (P : Program) (a : Base) (n d : ℕ) → (n ≡ 0 → ⊥) → is_of P (arrays_of n (base_kind a)) (base_kind (Class d)) ≡ above_arrays d
array_is P a zero d h = absurd (h refl)
array_is P a (suc n) d h = refl

pub array_isnt : (P : Program) (a : Base) (n code : ℕ) → (n ≡ 0 → ⊥) → is_of P (arrays_of n (base_kind a)) (base_kind (Numbers code)) ≡ false
array_isnt P a zero code h = absurd (h refl)
array_isnt P a (suc n) code h = refl

pub numbers_are : (P : Program) (a n d : ℕ) → is_of P (arrays_of n (base_kind (Numbers a))) (base_kind (Class d)) ≡ above_arrays d
numbers_are P a zero d = refl
numbers_are P a (suc n) d = refl

pub class_isnt : (P : Program) (c n code : ℕ) → is_of P (arrays_of n (base_kind (Class c))) (base_kind (Numbers code)) ≡ false
class_isnt P c zero code = refl
class_isnt P c (suc n) code = refl

-- ---- what is no class

above_case : (cs : List ClassFile) (c : ℕ) → slice_get cs c ≡ None → direct_supertypes cs c ≡ []
above_case cs c h =
    ap (λ (o : Option ClassFile). option_map_or (λ k. filter_map (find_class cs) (superinterface_names k)) o [] ++ option_to_list (onto o (λ k. find_class cs (superclass_name k)))) h

alone : (cs : List ClassFile) (c : ℕ) → direct_supertypes cs c ≡ [] → (n : ℕ) → 0 < n → reached (direct_supertypes cs) n c ≡ c ∷ []
alone cs c h zero lt = absurd (omega (arith, lt))
alone cs c h (suc n) lt = ap (λ (xs : List ℕ). c ∷ flat_map (reached (direct_supertypes cs) n) xs) h

or_false : (b : Bool) → (b || false) ≡ b
or_false true = refl
or_false false = refl

-- is itself alone
pub extends_past : (cs : List ClassFile) (c d : ℕ) → 0 < length cs → length cs ≤ c → extends cs c d ≡ (c == d)
unfolding supertypes
extends_past cs c d lt past =
    ap (λ xs. is_among xs d) (alone cs c (above_case cs c (slice_get_past cs c past)) (length cs) lt) ∙ or_false (c == d)

pub past_is : (cs : List ClassFile) (c d : ℕ) → 0 < length cs → length cs ≤ c → (d ≡ 0 → ⊥) → (c == d) ≡ (d == object_class || extends cs c d)
past_is cs c d lt past other = sym (ap (λ (b : Bool). b || extends cs c d) (ne_eqb d 0 other) ∙ extends_past cs c d lt past)

-- ---- what the record of a type says

pub table_default : (cs : List ClassFile) (n : ℕ) (b : Base) → ((c : ℕ) → b ≡ Class c → n ≡ 0 → ⊥) → table_place cs 0 ≡ table_of cs (arrays_of n (base_kind b))
table_default cs zero (Class c) h = absurd (h c refl refl)
table_default cs zero (Numbers a) h = refl
table_default cs (suc n) b h = refl

pub type_same : (cs : List ClassFile) (t : ℕ) (k : Kind) (a b m i : ℕ) → slice_get (types_of cs) t ≡ Some k → a ≡ instance_words (resolved cs) k → b ≡ counted_type (resolved cs) (component_of (Some k)) → m ≡ table_of cs k
    → i ≡ interface_table_of cs k → t ∷ a ∷ b ∷ m ∷ i ∷ supertype_words cs k ≡ type_image cs (outline_of cs) (t, k)
type_same cs t k a b m i at ha hb hm hi =
    let words : ℕ → ℕ → ℕ → ℕ → List ℕ = λ a b m i. t ∷ a ∷ b ∷ m ∷ i ∷ supertype_words cs k in
    let table = ap (λ o. option_map_or (table_of cs) o 0) at in
    let interfaces = ap (λ o. option_map_or (interface_table_of cs) o 0) at in
    ap₂ (λ (x : ℕ) (y : ℕ). words x y m i) ha hb
    ∙ ap₂ (λ (x : ℕ) (y : ℕ). words (instance_words (resolved cs) k) (counted_type (resolved cs) (component_of (Some k))) x y) (hm ∙ sym table) (hi ∙ sym interfaces)
