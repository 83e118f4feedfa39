-- What is called first: how many classes there are in the order, and what is known of each that is called.
use Rattle.std.proofs.Common.{◌≡◌, ℕ, zero, suc, ◌+◌, ◌<◌, ◌≤◌, Bool, true, false, not, List, [], ◌∷◌, length, reverse, Option, Some, None, refl, sym, ap, ◌∙◌, subst, arith}
use Rattle.std.specs.Prelude.{nat_eq, if◌then◌else◌, slice_get}
use Rattle.std.specs.Option.{option_to_list}
use Rattle.std.specs.List.{filter, filter_map, cons_option, flat_map, range_with_len, AllByRecursion}
use Rattle.std.proofs.lemmas.Bool.{eqb-true, eq-eqb}
use Rattle.std.proofs.lemmas.List.{reverse-append}
use Rattle.std.proofs.lemmas.Option.{slice_get_within}
use Rattle.core_classes.proofs.Lists.{all_along, all_join, all_parts}
use Rattle.lists.specs.Lists.{onto}
use Rattle.lists.specs.Numbers.{reached}
use Rattle.lists.proofs.Lemmas.{index_found}
use Rattle.class_pool.specs.declared.class.ClassFile.{ClassFile}
use Rattle.class_lookup.specs.Parts.{same_text, name_of, superclass_name}
use Rattle.class_lookup.specs.Hierarchy.{find_class, superclass, superclasses}
use Rattle.program_tables.specs.Lists.{distinct}
use Rattle.program_resolution.specs.Linked.{is_initialized, initialization_order, initialized}

-- ---- all of a list

all_kept : {X : Type 0} (P : X → Type 0) (t : X → Bool) (xs : List X) → AllByRecursion P xs → AllByRecursion P (filter t xs)
all_kept P t [] h = tt
all_kept P t (x ∷ xs) h = chosen (t x) (all_kept P t xs h.1)
  where
    chosen : (b : Bool) → AllByRecursion P (filter t xs) → AllByRecursion P (if b then x ∷ filter t xs else filter t xs)
    chosen true later = (h.0, later)
    chosen false later = later

all_turned : {X : Type 0} (P : X → Type 0) (xs : List X) → AllByRecursion P xs → AllByRecursion P (reverse xs)
all_turned P [] h = tt
all_turned P (x ∷ xs) h = subst (AllByRecursion P) (sym (reverse-append (x ∷ []) xs)) (all_join P (reverse xs) (x ∷ []) (all_turned P xs h.1) (h.0, tt))

all_distinct : (P : ℕ → Type 0) (xs : List ℕ) → AllByRecursion P xs → AllByRecursion P (distinct nat_eq xs)
all_distinct P [] h = tt
all_distinct P (x ∷ xs) h = (h.0, all_kept P (λ y. not (nat_eq x y)) (distinct nat_eq xs) (all_distinct P xs h.1))

-- ---- distinct numbers below a number are no more than that

-- no two are the same
abbrev AreApart : List ℕ → Type 0
AreApart [] = Unit {0}
AreApart (x ∷ xs) = AllByRecursion (λ y. nat_eq x y ≡ false) xs × AreApart xs

differ : (x : ℕ) (xs : List ℕ) → AllByRecursion (λ y. nat_eq x y ≡ false) (filter (λ y. not (nat_eq x y)) xs)
differ x [] = tt
differ x (y ∷ ys) = chosen (nat_eq x y) refl (differ x ys)
  where
    chosen : (b : Bool) → nat_eq x y ≡ b → AllByRecursion (λ z. nat_eq x z ≡ false) (filter (λ z. not (nat_eq x z)) ys)
        → AllByRecursion (λ z. nat_eq x z ≡ false) (if not b then y ∷ filter (λ z. not (nat_eq x z)) ys else filter (λ z. not (nat_eq x z)) ys)
    chosen true e later = later
    chosen false e later = (e, later)

apart_kept : (t : ℕ → Bool) (xs : List ℕ) → AreApart xs → AreApart (filter t xs)
apart_kept t [] h = tt
apart_kept t (x ∷ xs) h = chosen (t x) (apart_kept t xs h.1)
  where
    chosen : (b : Bool) → AreApart (filter t xs) → AreApart (if b then x ∷ filter t xs else filter t xs)
    chosen true later = (all_kept (λ y. nat_eq x y ≡ false) t xs h.0, later)
    chosen false later = later

distinct_are_apart : (xs : List ℕ) → AreApart (distinct nat_eq xs)
distinct_are_apart [] = tt
distinct_are_apart (x ∷ xs) = (differ x (distinct nat_eq xs), apart_kept (λ y. not (nat_eq x y)) (distinct nat_eq xs) (distinct_are_apart xs))

all_stay : (n : ℕ) (xs : List ℕ) → AllByRecursion (λ y. nat_eq n y ≡ false) xs → filter (λ y. not (nat_eq n y)) xs ≡ xs
all_stay n [] h = refl
all_stay n (x ∷ xs) h = ap (λ (b : Bool). if not b then x ∷ filter (λ y. not (nat_eq n y)) xs else filter (λ y. not (nat_eq n y)) xs) h.0 ∙ ap (λ (ys : List ℕ). x ∷ ys) (all_stay n xs h.1)

-- without one number there is at most one less
one_less : (n : ℕ) (xs : List ℕ) → AreApart xs → length xs ≤ suc (length (filter (λ y. not (nat_eq n y)) xs))
one_less n [] h = omega arith
one_less n (x ∷ xs) h = chosen (nat_eq n x) refl (one_less n xs h.1)
  where
    chosen : (b : Bool) → nat_eq n x ≡ b → length xs ≤ suc (length (filter (λ y. not (nat_eq n y)) xs)) → length (x ∷ xs) ≤ suc (length (if not b then x ∷ filter (λ y. not (nat_eq n y)) xs else filter (λ y. not (nat_eq n y)) xs))
    chosen true e less =
        let same : n ≡ x = eqb-true n x e in
        let stay = ap length (all_stay n xs (subst (λ (k : ℕ). AllByRecursion (λ y. nat_eq k y ≡ false) xs) (sym same) h.0)) in
        omega (arith, stay)
    chosen false e less = omega (arith, less)

below_one_less : (n : ℕ) (xs : List ℕ) → AllByRecursion (λ d. d < suc n) xs → AllByRecursion (λ d. d < n) (filter (λ y. not (nat_eq n y)) xs)
below_one_less n [] h = tt
below_one_less n (x ∷ xs) h = chosen (nat_eq n x) refl (below_one_less n xs h.1)
  where
    chosen : (b : Bool) → nat_eq n x ≡ b → AllByRecursion (λ d. d < n) (filter (λ y. not (nat_eq n y)) xs) → AllByRecursion (λ d. d < n) (if not b then x ∷ filter (λ y. not (nat_eq n y)) xs else filter (λ y. not (nat_eq n y)) xs)
    chosen true e later = later
    chosen false e later =
        let ne : n ≡ x → ⊥ = λ s. (let f : true ≡ false = sym (eq-eqb n x s) ∙ e in cc) in
        let lt = h.0 in
        (omega (arith, lt, ne), later)

few_apart : (n : ℕ) (xs : List ℕ) → AreApart xs → AllByRecursion (λ d. d < n) xs → length xs ≤ n
few_apart zero [] h below = omega arith
few_apart zero (x ∷ xs) h below = absurd (let lt = below.0 in omega (arith, lt))
few_apart (suc n) xs h below =
    let t : ℕ → Bool = λ y. not (nat_eq n y) in
    let less = one_less n xs h in
    let rest = few_apart n (filter t xs) (apart_kept t xs h) (below_one_less n xs below) in
    omega (arith, less, rest)

-- ---- the order

superclass_there : (cs : List ClassFile) (o : Option ClassFile) → AllByRecursion (λ d. d < length cs) (option_to_list (onto o (λ k. find_class cs (superclass_name k))))
superclass_there cs None = tt
superclass_there cs (Some k) = chosen (find_class cs (superclass_name k)) refl
  where
    chosen : (o : Option ℕ) → find_class cs (superclass_name k) ≡ o → AllByRecursion (λ d. d < length cs) (option_to_list o)
    chosen None e = tt
    chosen (Some d) e = let r = index_found (λ c. same_text (name_of c) (superclass_name k)) cs d e in (slice_get_within cs d r.0 r.1, tt)

reached_there : (above : ℕ → List ℕ) (n : ℕ) → ((k : ℕ) → AllByRecursion (λ d. d < n) (above k)) → (most c : ℕ) → c < n → AllByRecursion (λ d. d < n) (reached above most c)
reached_there above n h zero c lt = tt
reached_there above n h (suc most) c lt = (lt, all_parts (λ d. d < n) (λ d. d < n) (reached above most) (λ d less. reached_there above n h most d less) (above c) (h c))

range_there : (s n : ℕ) → AllByRecursion (λ c. c < s + n) (range_with_len s n)
range_there s zero = tt
range_there s (suc n) = (
  omega arith,
  all_along (λ c. c < s + 1 + n) (λ c. c < s + suc n) (λ c lt. omega arith) (range_with_len (s + 1) n) (range_there (s + 1) n),
)

order_there : (cs : List ClassFile) → AllByRecursion (λ c. c < length cs) (initialization_order cs)
unfolding superclasses
order_there cs =
    all_distinct (λ c. c < length cs) (flat_map (λ c. reverse (superclasses cs c)) (range_with_len 0 (length cs)))
    (all_parts (λ c. c < 0 + length cs) (λ c. c < length cs) (λ c. reverse (superclasses cs c))
    (λ c lt. all_turned (λ d. d < length cs) (superclasses cs c) (reached_there (λ k. option_to_list (superclass cs k)) (length cs) (λ k. superclass_there cs (slice_get cs k)) (length cs) c (omega arith)))
    (range_with_len 0 (length cs)) (range_there 0 (length cs)))

given_case : {Y : Type 0} (o : Option Y) (ys : List Y) (n : ℕ) → length ys ≤ n → length (cons_option o ys) ≤ suc n
given_case None ys n le = omega arith
given_case (Some y) ys n le = omega arith

few_given : {X Y : Type 0} (f : X → Option Y) (xs : List X) → length (filter_map f xs) ≤ length xs
few_given f [] = omega arith
few_given f (x ∷ xs) = given_case (f x) (filter_map f xs) (length xs) (few_given f xs)

pub few_initialized : (cs : List ClassFile) → length (initialized cs) ≤ length cs
few_initialized cs =
    let order = initialization_order cs in
    let few = few_apart (length cs) order (distinct_are_apart (flat_map (λ c. reverse (superclasses cs c)) (range_with_len 0 (length cs)))) (order_there cs) in
    let given = few_given (λ c. onto (slice_get cs c) (λ k. if is_initialized k then Some (name_of k) else None)) order in
    omega (arith, few, given)

-- ---- what is called

-- a class of this name is there, and it has an initialization method
pub record IsInitialized (cs : List ClassFile) (name : List ℕ) : Type 0 where
  pub class : ℕ
  pub file : ClassFile
  pub there : slice_get cs class ≡ Some file
  pub has : is_initialized file ≡ true
  pub is : name_of file ≡ name

by_test : (cs : List ClassFile) (c : ℕ) (rest : List (List ℕ)) (k : ClassFile) (b : Bool) → slice_get cs c ≡ Some k → is_initialized k ≡ b → AllByRecursion (IsInitialized cs) rest
    → AllByRecursion (IsInitialized cs) (cons_option (if b then Some (name_of k) else None) rest)
by_test cs c rest k true at e later = (record { class = c; file = k; there = at; has = e; is = refl }, later)
by_test cs c rest k false at e later = later

by_file : (cs : List ClassFile) (c : ℕ) (rest : List (List ℕ)) (o : Option ClassFile) → slice_get cs c ≡ o → AllByRecursion (IsInitialized cs) rest
    → AllByRecursion (IsInitialized cs) (cons_option (onto o (λ k. if is_initialized k then Some (name_of k) else None)) rest)
by_file cs c rest None at later = later
by_file cs c rest (Some k) at later = by_test cs c rest k (is_initialized k) at refl later

by_class : (cs : List ClassFile) (xs : List ℕ) → AllByRecursion (IsInitialized cs) (filter_map (λ c. onto (slice_get cs c) (λ k. if is_initialized k then Some (name_of k) else None)) xs)
by_class cs [] = tt
by_class cs (c ∷ xs) =
    by_file cs c (filter_map (λ d. onto (slice_get cs d) (λ k. if is_initialized k then Some (name_of k) else None)) xs) (slice_get cs c) refl (by_class cs xs)

pub all_initialized : (cs : List ClassFile) → AllByRecursion (IsInitialized cs) (initialized cs)
all_initialized cs = by_class cs (initialization_order cs)
