-- What methods are apart from their code, and what fields hold, one after another.
use Rattle.std.proofs.Common.{◌≡◌, ℕ, zero, suc, ◌+◌, ◌<◌, List, [], ◌∷◌, ◌++◌, map, append-nil, take, length, length-append, get_or, inl, inr, Option, Some, None, refl, sym, ap, ap₂, ◌∙◌, subst, arith}
use Rattle.std.specs.Prelude.{slice_get}
use Rattle.std.specs.Option.{option_map, option_map_or, IsSomeAnd}
use Rattle.std.specs.List.{filter_map, cons_option}
use Rattle.std.proofs.lemmas.Bool.{cases_lt}
use Rattle.std.proofs.lemmas.List.{map-append}
use Rattle.std.proofs.lemmas.Grind.{take_at_read}
use Rattle.std.proofs.lemmas.List.Elements.{filter_map-append}
use Rattle.std.proofs.lemmas.Option.{slice_get-map, slice_get_within}
use Rattle.class_pool.specs.declared.class.ClassFile.{ClassFile}
use Rattle.class_pool.specs.declared.class.Member.{Member}
use Rattle.descriptors.specs.declared.descriptor.FieldType.{FieldType}
use Rattle.bytecode_model.specs.Lists.{onto}
use Rattle.bytecode_model.specs.Types as model
use Rattle.lists.proofs.Lemmas.{some_same}
use Rattle.program_tables.specs.declared.operand.Declared.{Declared}
use Rattle.program_tables.specs.declared.operand.MethodShape.{MethodShape}
use Rattle.class_lookup.specs.Lookup.{Place, method_at}
use Rattle.class_pool.specs.Grammar.{text_at}
use Rattle.program_tables.specs.Kinds.{declared_of, field_declared}
use Rattle.program_tables.specs.Laws.{MethodsStandByNumber}
use Rattle.program_tables.specs.Numbers.{methods_by_number}
use Rattle.program_tables.specs.Meanings.{declared_seen, types_seen, field_types_in, HasShape}
use Rattle.program_tables.specs.Resolved.{declared_at, method_in, resolved_method, resolved_methods}

-- ---- the types of a list

declared_case : (made next : List Declared) (o : Option Declared) (p : Option model.Declared) → option_map declared_seen o ≡ p → next ≡ option_map_or (λ d. made ++ d ∷ []) o made
    → map declared_seen next ≡ map declared_seen made ++ cons_option p []
declared_case made next None p h g = ap (map declared_seen) g ∙ (sym (append-nil (map declared_seen made)) ∙ ap (λ q. map declared_seen made ++ cons_option q []) h)
declared_case made next (Some d) p h g = ap (map declared_seen) g ∙ (map-append declared_seen made (d ∷ []) ∙ ap (λ q. map declared_seen made ++ cons_option q []) h)

pub next_declared : (cs : List ClassFile) (xs : List FieldType) (i : ℕ) (of : FieldType) (made next : List Declared) (o : Option Declared) → i < length xs → of ≡ get_or xs i of
    → map declared_seen made ≡ filter_map (declared_of cs) (take i xs) → option_map declared_seen o ≡ declared_of cs of → next ≡ option_map_or (λ d. made ++ d ∷ []) o made
    → map declared_seen next ≡ filter_map (declared_of cs) (take (i + 1) xs)
next_declared cs xs i of made next o lt is h e g =
    declared_case made next o (declared_of cs of) e g
    ∙ (ap (λ ys. ys ++ cons_option (declared_of cs of) []) h
    ∙ sym (ap (filter_map (declared_of cs)) ((take_at_read xs i of lt).1 ∙ ap (λ x. take i xs ++ x ∷ []) (sym is)) ∙ filter_map-append (declared_of cs) (take i xs) (of ∷ [])))

-- ---- a place that is there

pub within_at : {A : Type 0} (xs : List A) (n : ℕ) (P : A → Type 0) → IsSomeAnd (slice_get xs n) P → n < length xs
within_at {A} xs n P h = by_case xs n (slice_get xs n) refl h
  where
    by_case : (xs : List A) (n : ℕ) (o : Option A) → slice_get xs n ≡ o → IsSomeAnd o P → n < length xs
    by_case xs n None e h = absurd h
    by_case xs n (Some x) e h = slice_get_within xs n x e

pub holds_at : {A : Type 0} (o : Option A) (x : A) (P : A → Type 0) → IsSomeAnd o P → o ≡ Some x → P x
holds_at None x P h e = absurd h
holds_at (Some y) x P h e = subst P (some_same y x e) h

-- ---- one more shape

seam_get : {A : Type 0} (xs : List A) (x y : A) (n : ℕ) → slice_get (xs ++ x ∷ []) n ≡ Some y → length xs ≡ n → x ≡ y
seam_get [] x y zero e h = some_same x y e
seam_get [] x y (suc n) e h = absurd (omega (arith, h))
seam_get (z ∷ xs) x y zero e h = absurd (omega (arith, h))
seam_get (z ∷ xs) x y (suc n) e h = seam_get xs x y n e (omega (arith, h))

pub front_get : {A : Type 0} (xs ys : List A) (i : ℕ) → i < length xs → slice_get (xs ++ ys) i ≡ slice_get xs i
front_get [] ys i lt = absurd (omega (arith, lt))
front_get (x ∷ xs) ys zero lt = refl
front_get (x ∷ xs) ys (suc i) lt = front_get xs ys i (omega (arith, lt))

abbrev pub EachIs : {A B : Type 0} → (A → B → Type 0) → List B → (many : ℕ) → List A → Type 0
EachIs Is ys i made = (length made ≡ i) × ((n : ℕ) (s : _) → slice_get made n ≡ Some s → IsSomeAnd (slice_get ys n) (Is s))

pub each_more : {A B : Type 0} (Is : A → B → Type 0) (ys : List B) (i : ℕ) (made pushed : List A) (x : A) → EachIs Is ys i made → pushed ≡ made ++ x ∷ [] → IsSomeAnd (slice_get ys i) (Is x)
    → EachIs Is ys (i + 1) pushed
each_more {A} {B} Is ys i made pushed x h g at =
    subst (λ (zs : List A). EachIs Is ys (i + 1) zs) (sym g) (
      let long = length-append made (x ∷ []) in let old = h.0 in omega (arith, long, old),
      λ n s e. elim (cases_lt n i) [
        | inl l ↦ let lt : n < length made = let old = h.0 in omega (arith, l, old) in h.1 n s (sym (front_get made (x ∷ []) n lt) ∙ e)
        | inr o ↦
            let within = slice_get_within (made ++ x ∷ []) n s e in
            let long = length-append made (x ∷ []) in
            let old = h.0 in
            let last : length made ≡ n = omega (arith, within, long, old, o) in
            let same = seam_get made x s n e last in
            subst (λ k. IsSomeAnd (slice_get ys k) (Is s)) (sym old ∙ last) (subst (λ y. IsSomeAnd (slice_get ys i) (Is y)) same at)
      ],
    )

pub shape_at : MethodsStandByNumber → (cs : List ClassFile) (i : ℕ) (p : Place) (c : ClassFile) (m : Member) (x : MethodShape) → slice_get (methods_by_number cs) i ≡ Some p → slice_get cs p.0 ≡ Some c
    → slice_get c.methods p.1 ≡ Some m → HasShape x (method_in cs p.0 c m) → IsSomeAnd (slice_get (resolved_methods cs) i) (HasShape x)
shape_at law cs i p c m x hp hc hm s =
    let at : method_at cs p ≡ Some m = ap (λ o. onto o (λ k. slice_get k.methods p.1)) hc ∙ hm in
    let found = law cs i ∙ (ap (λ o. onto o (resolved_method cs)) hp ∙ (ap (λ o. onto o (λ k. option_map (method_in cs p.0 k) (method_at cs p))) hc ∙ ap (option_map (method_in cs p.0 c)) at)) in
    subst (λ o. IsSomeAnd o (HasShape x)) (sym found) s

-- ---- one more of a list

pub next_seen : {A B C : Type 0} (seen : B → C) (f : A → C) (xs : List A) (i : ℕ) (x : A) (made pushed : List B) (y : B)
    → map seen made ≡ map f (take i xs) → pushed ≡ made ++ y ∷ [] → i < length xs → get_or xs i x ≡ x → seen y ≡ f x → map seen pushed ≡ map f (take (i + 1) xs)
next_seen {A} {B} {C} seen f xs i x made pushed y h g lt is e =
    let front : take (i + 1) xs ≡ take i xs ++ x ∷ [] = (take_at_read xs i x lt).1 ∙ ap (λ q. take i xs ++ q ∷ []) is in
    ap (map seen) g
    ∙ (map-append seen made (y ∷ [])
    ∙ (ap₂ (λ (ys : List C) (z : C). ys ++ z ∷ []) h e
    ∙ sym (ap (map f) front ∙ map-append f (take i xs) (x ∷ []))))

pub next_map : {A C : Type 0} (f : A → C) (xs : List A) (i : ℕ) (x : A) (made pushed : List C) (y : C)
    → made ≡ map f (take i xs) → pushed ≡ made ++ y ∷ [] → i < length xs → get_or xs i x ≡ x → y ≡ f x → pushed ≡ map f (take (i + 1) xs)
next_map {A} {C} f xs i x made pushed y h g lt is e =
    let front : take (i + 1) xs ≡ take i xs ++ x ∷ [] = (take_at_read xs i x lt).1 ∙ ap (λ q. take i xs ++ q ∷ []) is in
    g ∙ (ap₂ (λ (ys : List C) (z : C). ys ++ z ∷ []) h e ∙ sym (ap (map f) front ∙ map-append f (take i xs) (x ∷ [])))

-- ---- a field's type, read

type_case : (cs : List ClassFile) (i : ℕ) (o : Option ClassFile)
    → onto (option_map (field_types_in cs) o) (λ types. onto (slice_get types i) (λ t. t)) ≡ onto o (λ c. onto (slice_get c.fields i) (λ k. field_declared cs (text_at c.pool k.descriptor)))
type_case cs i None = refl
type_case cs i (Some c) = ap (λ o. onto o (λ t. t)) (slice_get-map (λ (f : Member). field_declared cs (text_at c.pool f.descriptor)) c.fields i) ∙ member_case (slice_get c.fields i)
  where
    member_case : (o : Option Member) → onto (option_map (λ (f : Member). field_declared cs (text_at c.pool f.descriptor)) o) (λ t. t) ≡ onto o (λ k. field_declared cs (text_at c.pool k.descriptor))
    member_case None = refl
    member_case (Some m) = refl

declared_case_at : (cs : List ClassFile) (i : ℕ) (o : Option ClassFile)
    → onto o (λ c. onto (slice_get c.fields i) (λ k. field_declared cs (text_at c.pool k.descriptor))) ≡ onto o (λ c. onto (onto o (λ k. slice_get k.fields i)) (λ k. field_declared cs (text_at c.pool k.descriptor)))
declared_case_at cs i None = refl
declared_case_at cs i (Some c) = refl

-- by the table of all classes
abbrev held_at : List (List (Option Declared)) → (class place : ℕ) → Option model.Declared
held_at table i j = onto (option_map types_seen (slice_get table i)) (λ types. onto (slice_get types j) (λ t. t))

type_at : (cs : List ClassFile) (table : List (List (Option Declared))) → map types_seen table ≡ map (field_types_in cs) cs → (p : Place) (i j : ℕ) → i ≡ p.0 → j ≡ p.1
    → held_at table i j ≡ declared_at cs p
type_at cs table e p i j hi hj =
    ap₂ (held_at table) hi hj
    ∙ (ap (λ o. onto o (λ types. onto (slice_get types p.1) (λ t. t))) (sym (slice_get-map types_seen table p.0) ∙ (ap (λ xs. slice_get xs p.0) e ∙ slice_get-map (field_types_in cs) cs p.0))
    ∙ (type_case cs p.1 (slice_get cs p.0) ∙ declared_case_at cs p.1 (slice_get cs p.0)))

held_in : (types : List (Option Declared)) (j : ℕ) (o : Option (Option Declared)) → slice_get types j ≡ o → option_map declared_seen (onto o (λ t. t)) ≡ onto (slice_get (types_seen types) j) (λ t. t)
held_in types j o h = by_case o ∙ ap (λ q. onto q (λ t. t)) (sym (slice_get-map (option_map declared_seen) types j ∙ ap (option_map (option_map declared_seen)) h))
  where
    by_case : (o : Option (Option Declared)) → option_map declared_seen (onto o (λ t. t)) ≡ onto (option_map (option_map declared_seen) o) (λ t. t)
    by_case None = refl
    by_case (Some t) = refl

-- the type of the field at a place, read
pub type_there : (cs : List ClassFile) (table : List (List (Option Declared))) → map types_seen table ≡ map (field_types_in cs) cs → (p : Place) (i j : ℕ) → i ≡ p.0 → j ≡ p.1
    → (types : List (Option Declared)) (o : Option (Option Declared)) → slice_get table i ≡ Some types → slice_get types j ≡ o → option_map declared_seen (onto o (λ t. t)) ≡ declared_at cs p
type_there cs table e p i j hi hj types o h g =
    held_in types j o g ∙ (ap (λ q. onto (option_map types_seen q) (λ ts. onto (slice_get ts j) (λ t. t))) (sym h) ∙ type_at cs table e p i j hi hj)

pub type_missing : (cs : List ClassFile) (table : List (List (Option Declared))) → map types_seen table ≡ map (field_types_in cs) cs → (p : Place) (i j : ℕ) → i ≡ p.0 → j ≡ p.1
    → slice_get table i ≡ None → None ≡ declared_at cs p
type_missing cs table e p i j hi hj h = ap (λ q. onto (option_map types_seen q) (λ ts. onto (slice_get ts j) (λ t. t))) (sym h) ∙ type_at cs table e p i j hi hj
