-- No method is left out of those by number.
use Rattle.std.proofs.Common.{◌≡◌, ℕ, zero, suc, ◌+◌, ◌≤◌, ◌<◌, Bool, true, false, not, ◌&&◌, List, [], ◌∷◌, ◌++◌, map, length, Option, Some, None, refl, sym, ap, ap₂, ◌∙◌, subst, arith}
use Rattle.std.specs.Prelude.{is_some, slice_get, if◌then◌else◌}
use Rattle.std.specs.Option.{option_map, IsSomeAnd}
use Rattle.std.specs.List.{filter, filter_map, cons_option, flat_map, enumerate_from, range_with_len, list_all}
use Rattle.std.proofs.lemmas.Bool.{false≢true}
use Rattle.std.proofs.lemmas.List.Folds.{list_all-append}
use Rattle.std.proofs.lemmas.Option.{slice_get_within}
use Rattle.lists.specs.Tests.{and_left, and_right}
use Rattle.class_pool.specs.declared.class.Member.{Member}
use Rattle.class_pool.specs.declared.class.ClassFile.{ClassFile}
use Rattle.lists.proofs.Lemmas.{none≢some, some_same}
use Rattle.bytecode_model.specs.Lists.{onto}
use Rattle.bytecode_model.specs.Program.{Method}
use Rattle.class_lookup.specs.Lookup.{Place}
use Rattle.program_tables.specs.Numbers.{places_of, is_coded, methods_by_number, fields_by_number}
use Rattle.program_tables.specs.Resolved.{method_in, resolved_method, resolved_methods}

-- ---- what holds of all items

filter_case : (p : Place → Bool) (x : Place) (ys : List Place) (b : Bool) → p x ≡ true → list_all p ys ≡ true → list_all p (if b then x ∷ ys else ys) ≡ true
filter_case p x ys true h g = ap₂ (λ a b. a && b) h g
filter_case p x ys false h g = g

all_filter : (p t : Place → Bool) (xs : List Place) → list_all p xs ≡ true → list_all p (filter t xs) ≡ true
all_filter p t [] h = refl
all_filter p t (x ∷ xs) h = filter_case p x (filter t xs) (t x) (and_left (p x) (list_all p xs) h) (all_filter p t xs (and_right (p x) (list_all p xs) h))

all_append : (p : Place → Bool) (xs ys : List Place) → list_all p xs ≡ true → list_all p ys ≡ true → list_all p (xs ++ ys) ≡ true
all_append p xs ys h g = list_all-append p xs ys ∙ ap₂ (λ a b. a && b) h g

at_all : (p : Place → Bool) (xs : List Place) (i : ℕ) (x : Place) → list_all p xs ≡ true → slice_get xs i ≡ Some x → p x ≡ true
at_all p [] i x h e = absurd (none≢some x e)
at_all p (y ∷ xs) zero x h e = ap p (sym (some_same y x e)) ∙ and_left (p y) (list_all p xs) h
at_all p (y ∷ xs) (suc i) x h e = at_all p xs i x (and_right (p y) (list_all p xs) h) e

all_imply : (p q : Place → Bool) → ((x : Place) → p x ≡ true → q x ≡ true) → (xs : List Place) → list_all p xs ≡ true → list_all q xs ≡ true
all_imply p q f [] h = refl
all_imply p q f (x ∷ xs) h = ap₂ (λ a b. a && b) (f x (and_left (p x) (list_all p xs) h)) (all_imply p q f xs (and_right (p x) (list_all p xs) h))

-- ---- each place is that of a member

abbrev member_at : (ClassFile → List Member) → List ClassFile → Place → Option Member
member_at members cs p = onto (slice_get cs p.0) (λ c. slice_get (members c) p.1)

abbrev is_there : (ClassFile → List Member) → List ClassFile → Place → Bool
is_there members cs p = is_some (member_at members cs p)

there : (members : ClassFile → List Member) (cs : List ClassFile) (n i : ℕ) (c : ClassFile) (m : Member) → slice_get cs n ≡ Some c → slice_get (members c) i ≡ Some m → is_there members cs (n, i) ≡ true
there members cs n i c m h e = ap is_some (ap (λ o. onto o (λ k. slice_get (members k) i)) h ∙ e)

pub got : {A : Type 0} (xs : List A) (i : ℕ) → i < length xs → (x : A) × (slice_get xs i ≡ Some x)
got [] i lt = absurd (omega (arith, lt))
got (x ∷ xs) zero lt = (x, refl)
got (x ∷ xs) (suc i) lt = got xs i (omega (arith, lt))

own_there : (members : ClassFile → List Member) (cs : List ClassFile) (n : ℕ) (c : ClassFile) → slice_get cs n ≡ Some c → (m a : ℕ) → a + m ≤ length (members c)
    → list_all (is_there members cs) (map (λ i. (n, i)) (range_with_len a m)) ≡ true
own_there members cs n c h zero a lt = refl
own_there members cs n c h (suc m) a lt =
    let k = got (members c) a (omega (arith, lt)) in
    ap₂ (λ x y. x && y) (there members cs n a c k.0 h k.1) (own_there members cs n c h m (a + 1) (omega (arith, lt)))

places_there : (members : ClassFile → List Member) (cs : List ClassFile) (n : ℕ) (ks : List ClassFile) → ((j : ℕ) (k : ClassFile) → slice_get ks j ≡ Some k → slice_get cs (n + j) ≡ Some k)
    → list_all (is_there members cs) (flat_map (λ e. map (λ i. (e.0, i)) (range_with_len 0 (length (members e.1)))) (enumerate_from n ks)) ≡ true
places_there members cs n [] h = refl
places_there members cs n (k ∷ ks) h =
    let F : ℕ × ClassFile → List Place = λ e. map (λ i. (e.0, i)) (range_with_len 0 (length (members e.1))) in
    let first : slice_get cs n ≡ Some k = subst (λ x. slice_get cs x ≡ Some k) (omega arith) (h 0 k refl) in
    all_append (is_there members cs) (F (n, k)) (flat_map F (enumerate_from (n + 1) ks)) (own_there members cs n k first (length (members k)) 0 (omega arith))
    (places_there members cs (n + 1) ks (λ j x e. subst (λ y. slice_get cs y ≡ Some x) (omega arith) (h (suc j) x e)))

whole_there : (members : ClassFile → List Member) (cs : List ClassFile) → list_all (is_there members cs) (places_of members cs) ≡ true
whole_there members cs = places_there members cs 0 cs (λ j k e. subst (λ y. slice_get cs y ≡ Some k) (omega arith) e)

methods_there : (cs : List ClassFile) → list_all (is_there (λ c. c.methods) cs) (methods_by_number cs) ≡ true
unfolding methods_by_number
methods_there cs =
    let all = places_of (λ c. c.methods) cs in
    let whole = whole_there (λ c. c.methods) cs in
    all_append (is_there (λ c. c.methods) cs) (filter (is_coded cs) all) (filter (λ m. not (is_coded cs m)) all)
    (all_filter (is_there (λ c. c.methods) cs) (is_coded cs) all whole)
    (all_filter (is_there (λ c. c.methods) cs) (λ m. not (is_coded cs m)) all whole)

fields_there : (cs : List ClassFile) → list_all (is_there (λ c. c.fields) cs) (fields_by_number cs) ≡ true
unfolding fields_by_number
fields_there cs = whole_there (λ c. c.fields) cs

in_class : (members : ClassFile → List Member) (i : ℕ) (o : Option ClassFile) → is_some (onto o (λ c. slice_get (members c) i)) ≡ true → IsSomeAnd o (λ c. i < length (members c))
in_class members i None h = absurd (false≢true h)
in_class members i (Some c) h = within (members c) i (slice_get (members c) i) refl h
  where
    within : (ms : List Member) (i : ℕ) (o : Option Member) → slice_get ms i ≡ o → is_some o ≡ true → i < length ms
    within ms i None e h = absurd (false≢true h)
    within ms i (Some m) e h = slice_get_within ms i m e

pub method_there : (cs : List ClassFile) (n : ℕ) (p : Place) → slice_get (methods_by_number cs) n ≡ Some p → IsSomeAnd (slice_get cs p.0) (λ c. p.1 < length c.methods)
method_there cs n p h = in_class (λ c. c.methods) p.1 (slice_get cs p.0) (at_all (is_there (λ c. c.methods) cs) (methods_by_number cs) n p (methods_there cs) h)

pub field_there : (cs : List ClassFile) (n : ℕ) (p : Place) → slice_get (fields_by_number cs) n ≡ Some p → IsSomeAnd (slice_get cs p.0) (λ c. p.1 < length c.fields)
field_there cs n p h = in_class (λ c. c.fields) p.1 (slice_get cs p.0) (at_all (is_there (λ c. c.fields) cs) (fields_by_number cs) n p (fields_there cs) h)

-- ---- none is left out

member_case : (cs : List ClassFile) (n : ℕ) (c : ClassFile) (o : Option Member) → is_some o ≡ true → is_some (option_map (method_in cs n c) o) ≡ true
member_case cs n c None h = h
member_case cs n c (Some m) h = refl

resolved_case : (cs : List ClassFile) (n i : ℕ) (o : Option ClassFile) → is_some (onto o (λ c. slice_get c.methods i)) ≡ true → is_some (onto o (λ c. option_map (method_in cs n c) (onto o (λ k. slice_get k.methods i)))) ≡ true
resolved_case cs n i None h = h
resolved_case cs n i (Some c) h = member_case cs n c (slice_get c.methods i) h

kept_case : (f : Place → Option Method) (x : Place) (xs : List Place) (n : ℕ) (o : Option Method) → f x ≡ o → is_some o ≡ true → ((j : ℕ) → slice_get (filter_map f xs) j ≡ onto (slice_get xs j) f)
    → slice_get (cons_option o (filter_map f xs)) n ≡ onto (slice_get (x ∷ xs) n) f
kept_case f x xs n None e some later = absurd (false≢true some)
kept_case f x xs zero (Some k) e some later = sym e
kept_case f x xs (suc n) (Some k) e some later = later n

kept_at : (f : Place → Option Method) (xs : List Place) → list_all (λ p. is_some (f p)) xs ≡ true → (n : ℕ) → slice_get (filter_map f xs) n ≡ onto (slice_get xs n) f
kept_at f [] h n = refl
kept_at f (x ∷ xs) h n =
    kept_case f x xs n (f x) refl (and_left (is_some (f x)) (list_all (λ p. is_some (f p)) xs) h) (kept_at f xs (and_right (is_some (f x)) (list_all (λ p. is_some (f p)) xs) h))

pub methods_kept : (cs : List ClassFile) (n : ℕ) → slice_get (resolved_methods cs) n ≡ onto (slice_get (methods_by_number cs) n) (resolved_method cs)
methods_kept cs n =
    kept_at (resolved_method cs) (methods_by_number cs)
    (all_imply (is_there (λ c. c.methods) cs) (λ p. is_some (resolved_method cs p)) (λ p h. resolved_case cs p.0 p.1 (slice_get cs p.0) h) (methods_by_number cs) (methods_there cs)) n
