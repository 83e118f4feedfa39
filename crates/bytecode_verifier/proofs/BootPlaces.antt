-- A method that a class declares has a number, under which the program has it.
use Rattle.std.proofs.Common.{◌≡◌, ℕ, zero, suc, ◌+◌, ◌<◌, Bool, true, false, not, cond, ◌&&◌, ◌==◌, List, [], ◌∷◌, ◌++◌, length, map, Option, Some, None, refl, sym, ap, ap₂, ◌∙◌, subst, arith, eqb-true, eq-eqb, add-zero}
use Rattle.std.specs.Prelude.{slice_get, if◌then◌else◌}
use Rattle.std.specs.Option.{option_to_list}
use Rattle.std.specs.List.{range_with_len, enumerate_from, filter, flat_map}
use Rattle.lists.specs.Lists.{first_some}
use Rattle.lists.specs.Numbers.{reached}
use Rattle.lists.proofs.Lemmas.{some_same, index_found, index_there}
use Rattle.class_pool.specs.declared.class.ClassFile.{ClassFile}
use Rattle.class_lookup.specs.Parts.{Signature, is_init}
use Rattle.class_lookup.specs.Hierarchy.{superclass, superinterfaces, is_interface, superclasses, with_superinterfaces, all_superinterfaces}
use Rattle.class_lookup.specs.Lookup.{Place, same_place, declared_method, method_search, find_method}
use Rattle.program_tables.specs.Numbers.{methods_by_number, method_number, is_coded}
use Rattle.bytecode_verifier.proofs.CoreNumbers.{places_in}

abbrev place : ℕ → ℕ → Place
place class index = (class, index)

-- ---- an item that stands in a list

among_front : {X : Type 0} (x : X) (xs ys : List X) (j : ℕ) → slice_get xs j ≡ Some x → slice_get (xs ++ ys) j ≡ Some x
among_front x [] ys j at = absurd (let f : None ≡ Some x = at in cc)
among_front x (z ∷ xs) ys zero at = at
among_front x (z ∷ xs) ys (suc j) at = among_front x xs ys j at

among_back : {X : Type 0} (x : X) (xs ys : List X) → (j : ℕ) × (slice_get ys j ≡ Some x) → (j : ℕ) × (slice_get (xs ++ ys) j ≡ Some x)
among_back x [] ys a = a
among_back x (z ∷ xs) ys a = let r = among_back x xs ys a in (suc r.0, r.1)

kept_here : {X : Type 0} (x z : X) (b : Bool) (zs : List X) → z ≡ x → b ≡ true → (j : ℕ) × (slice_get (cond b (z ∷ zs) zs) j ≡ Some x)
kept_here x z true zs e t = (0, ap (λ (y : _). Some y) e)
kept_here x z false zs e t = absurd (let f : false ≡ true = t in cc)

kept_later : {X : Type 0} (x z : X) (b : Bool) (zs : List X) → (j : ℕ) × (slice_get zs j ≡ Some x) → (j : ℕ) × (slice_get (cond b (z ∷ zs) zs) j ≡ Some x)
kept_later x z true zs a = (suc a.0, a.1)
kept_later x z false zs a = a

among_kept : {X : Type 0} (t : X → Bool) (x : X) (xs : List X) (j : ℕ) → slice_get xs j ≡ Some x → t x ≡ true → (i : ℕ) × (slice_get (filter t xs) i ≡ Some x)
among_kept t x [] j at p = absurd (let f : None ≡ Some x = at in cc)
among_kept t x (z ∷ xs) zero at p = let e : z ≡ x = some_same z x at in kept_here x z (t z) (filter t xs) e (ap t e ∙ p)
among_kept t x (z ∷ xs) (suc j) at p = kept_later x z (t z) (filter t xs) (among_kept t x xs j at p)

among_either : {X : Type 0} (t : X → Bool) (x : X) (xs : List X) (j : ℕ) → slice_get xs j ≡ Some x → (i : ℕ) × (slice_get (filter t xs ++ filter (λ y. not (t y)) xs) i ≡ Some x)
among_either t x xs j at = chosen t x xs j at (t x) refl
  where
    chosen : {X : Type 0} (t : X → Bool) (x : X) (xs : List X) (j : ℕ) → slice_get xs j ≡ Some x → (b : Bool) → t x ≡ b → (i : ℕ) × (slice_get (filter t xs ++ filter (λ y. not (t y)) xs) i ≡ Some x)
    chosen t x xs j at true e = let r = among_kept t x xs j at e in (r.0, among_front x (filter t xs) (filter (λ y. not (t y)) xs) r.0 r.1)
    chosen t x xs j at false e = among_back x (filter t xs) (filter (λ y. not (t y)) xs) (among_kept (λ y. not (t y)) x xs j at (ap not e))

among_class : (k a len i : ℕ) → i < len → slice_get (map (place k) (range_with_len a len)) i ≡ Some (place k (a + i))
among_class k a zero i lt = absurd (omega arith)
among_class k a (suc len) zero lt = ap (λ (m : ℕ). Some (place k m)) (sym (add-zero a))
among_class k a (suc len) (suc i) lt = among_class k (a + 1) len i (omega arith) ∙ (let e : a + 1 + i ≡ a + suc i = omega arith in ap (λ (m : ℕ). Some (place k m)) e)

among_places : (k : ℕ) (cs : List ClassFile) (d i : ℕ) (c : ClassFile) → slice_get cs d ≡ Some c → i < length c.methods → (j : ℕ) × (slice_get (places_in (enumerate_from k cs)) j ≡ Some (place (k + d) i))
among_places k [] d i c at lt = absurd (let f : None ≡ Some c = at in cc)
among_places k (x ∷ cs) zero i c at lt =
    let e : x ≡ c = some_same x c at in
    let less : i < length x.methods = subst (λ (y : ClassFile). i < length y.methods) (sym e) lt in
    let here : slice_get (map (place k) (range_with_len 0 (length x.methods))) i ≡ Some (place (k + 0) i) =
    among_class k 0 (length x.methods) i less ∙ (let z : 0 + i ≡ i = omega arith in let y : k ≡ k + 0 = omega arith in ap₂ (λ (a b : ℕ). Some (place a b)) y z) in
    (i, among_front (place (k + 0) i) (map (place k) (range_with_len 0 (length x.methods))) (places_in (enumerate_from (k + 1) cs)) i here)
among_places k (x ∷ cs) (suc d) i c at lt =
    let later = among_places (k + 1) cs d i c at lt in
    let e : k + 1 + d ≡ k + suc d = omega arith in
    among_back (place (k + suc d) i) (map (place k) (range_with_len 0 (length x.methods))) (places_in (enumerate_from (k + 1) cs)) (later.0, later.1 ∙ ap (λ (a : ℕ). Some (place a i)) e)

same_place_true : (p q : Place) → same_place p q ≡ true → q ≡ p
same_place_true p q e = decided (p.0 == q.0) (p.1 == q.1) refl refl e
  where
    decided : (a b : Bool) → (p.0 == q.0) ≡ a → (p.1 == q.1) ≡ b → (a && b) ≡ true → q ≡ p
    decided true true x y h = ap₂ place (sym (eqb-true p.0 q.0 x)) (sym (eqb-true p.1 q.1 y))
    decided true false x y h = absurd (let f : false ≡ true = h in cc)
    decided false b x y h = absurd (let f : false ≡ true = h in cc)

place_is_same : (p : Place) → same_place p p ≡ true
place_is_same p = ap₂ (λ (a b : Bool). a && b) (eq-eqb p.0 p.0 refl) (eq-eqb p.1 p.1 refl)

-- the method at a place has a number
pub record HasNumber (cs : List ClassFile) (p : Place) : Type 0 where
  pub number : ℕ
  pub is : method_number cs p ≡ Some number
  pub there : slice_get (methods_by_number cs) number ≡ Some p

pub has_number : (cs : List ClassFile) (p : Place) (c : ClassFile) → slice_get cs p.0 ≡ Some c → p.1 < length c.methods → HasNumber cs p
unfolding methods_by_number
has_number cs p c at lt =
    let placed = among_places 0 cs p.0 p.1 c at lt in
    let z : 0 + p.0 ≡ p.0 = omega arith in
    let listed : slice_get (places_in (enumerate_from 0 cs)) placed.0 ≡ Some p = placed.1 ∙ ap (λ (a : ℕ). Some (place a p.1)) z in
    let numbered = among_either (is_coded cs) p (places_in (enumerate_from 0 cs)) placed.0 listed in
    let first = index_there (same_place p) (methods_by_number cs) numbered.0 p numbered.1 (place_is_same p) in
    let found = index_found (same_place p) (methods_by_number cs) first.0 first.1 in
    record { number = first.0; is = first.1; there = found.1 ∙ ap (λ (q : Place). Some q) (same_place_true p found.0 found.2) }

-- ---- a method that a class declares is found there

pub found_first : (cs : List ClassFile) (s : Signature) (d k : ℕ) (p : Place) → length cs ≡ suc k → is_init s ≡ false → declared_method cs s d ≡ Some p → find_method cs d s ≡ Some p
unfolding find_method superclasses with_superinterfaces
found_first cs s d k p long plain at =
    ap (λ (b : Bool). if b then declared_method cs s d else first_some (map (declared_method cs s) (method_search cs d))) plain ∙ searched (is_interface cs d) refl
  where
    searched : (b : Bool) → is_interface cs d ≡ b → first_some (map (declared_method cs s) (method_search cs d)) ≡ Some p
    searched true is =
        ap (λ (x : Bool). first_some (map (declared_method cs s) (if x then with_superinterfaces cs d else superclasses cs d ++ all_superinterfaces cs d))) is
        ∙ (ap (λ (most : ℕ). first_some (map (declared_method cs s) (reached (superinterfaces cs) most d))) long
        ∙ ap (λ (o : Option Place). first_some (o ∷ map (declared_method cs s) (flat_map (reached (superinterfaces cs) k) (superinterfaces cs d)))) at)
    searched false is =
        ap (λ (x : Bool). first_some (map (declared_method cs s) (if x then with_superinterfaces cs d else superclasses cs d ++ all_superinterfaces cs d))) is
        ∙ (ap (λ (most : ℕ). first_some (map (declared_method cs s) (reached (λ c. option_to_list (superclass cs c)) most d ++ all_superinterfaces cs d))) long
        ∙ ap (λ (o : Option Place). first_some (o ∷ map (declared_method cs s) (flat_map (reached (λ c. option_to_list (superclass cs c)) k) (option_to_list (superclass cs d)) ++ all_superinterfaces cs d))) at)
