-- The numbers of methods.
use Rattle.std.proofs.Common.{◌≡◌, ℕ, zero, suc, ◌+◌, ◌<◌, Bool, true, false, not, List, [], ◌∷◌, ◌++◌, ◌⊎◌, inl, inr, Option, Some, None, map, length, refl, sym, ap, ◌∙◌, subst, arith}
use Rattle.std.specs.Prelude.{slice_get, if◌then◌else◌}
use Rattle.std.specs.Option.{option_map}
use Rattle.std.specs.List.{filter, filter_map, cons_option, flat_map, enumerate_from, range_with_len}
use Rattle.std.proofs.lemmas.Bool.{false≢true, cases_Bool, or_cases}
use Rattle.std.proofs.lemmas.List.Folds.{list_any-append}
use Rattle.std.proofs.lemmas.Option.{slice_get_within}
use Rattle.program_tables.proofs.NumberingLemmas.{got}
use Rattle.class_lookup.proofs.Overriding.{place_same, same_is_place}
use Rattle.class_pool.specs.declared.class.Member.{Member}
use Rattle.class_pool.specs.declared.class.ClassFile.{ClassFile}
use Rattle.bytecode_model.specs.Lists.{onto}
use Rattle.bytecode_model.specs.Program.{Method}
use Rattle.lists.proofs.Lemmas.{none≢some, some_same, onto_some, map_some, index_found, index_there}
use Rattle.class_lookup.specs.Lookup.{Place, method_at, same_place}
use Rattle.program_tables.specs.Numbers.{places_of, is_coded, methods_by_number, method_number}
use Rattle.program_tables.specs.Resolved.{method_in, resolved_method, resolved_methods}
use Rattle.program_laws.proofs.Places.{has, has_head, has_tail, has_cases}
use Rattle.program_laws.proofs.Selections.{has_left, has_right, has_filter, has_range}

-- ---- the places of all members

listed_from : (members : ClassFile → List Member) (n : ℕ) (cs : List ClassFile) (j i : ℕ) (k : ClassFile) → slice_get cs j ≡ Some k → i < length (members k)
    → has (flat_map (λ e. map (λ i. (e.0, i)) (range_with_len 0 (length (members e.1)))) (enumerate_from n cs)) (n + j, i) ≡ true
listed_from members n [] j i k h lt = absurd (none≢some k h)
listed_from members n (c ∷ cs) zero i k h lt =
    let F : ℕ × ClassFile → List Place = λ e. map (λ i. (e.0, i)) (range_with_len 0 (length (members e.1))) in
    let same : n ≡ n + 0 = omega arith in
    let high = subst (λ (x : ClassFile). i < length (members x)) (sym (some_same c k h)) lt in
    has_left (F (n, c)) (flat_map F (enumerate_from (n + 1) cs)) (n + 0, i) (subst (λ x. has (F (n, c)) (x, i) ≡ true) same (has_range n (length (members c)) 0 i (omega arith) (omega (arith, high))))
listed_from members n (c ∷ cs) (suc j) i k h lt =
    let F : ℕ × ClassFile → List Place = λ e. map (λ i. (e.0, i)) (range_with_len 0 (length (members e.1))) in
    let same : n + 1 + j ≡ n + suc j = omega arith in
    has_right (F (n, c)) (flat_map F (enumerate_from (n + 1) cs)) (n + suc j, i) (subst (λ x. has (flat_map F (enumerate_from (n + 1) cs)) (x, i) ≡ true) same (listed_from members (n + 1) cs j i k h lt))

pub listed : (members : ClassFile → List Member) (cs : List ClassFile) (p : Place) (k : ClassFile) (m : Member) → slice_get cs p.0 ≡ Some k → slice_get (members k) p.1 ≡ Some m → has (places_of members cs) p ≡ true
listed members cs p k m h e =
    let same : 0 + p.0 ≡ p.0 = omega arith in
    subst (λ x. has (places_of members cs) (x, p.1) ≡ true) same (listed_from members 0 cs p.0 p.1 k h (slice_get_within (members k) p.1 m e))

-- ---- what is listed

Listed : (ClassFile → List Member) → ℕ → List ClassFile → Place → Type 0
Listed members n cs p = (j : ℕ) × (k : ClassFile) × (p.0 ≡ n + j) × (slice_get cs j ≡ Some k) × (p.1 < length (members k))

range_has : (c n a : ℕ) (p : Place) → has (map (λ j. (c, j)) (range_with_len a n)) p ≡ true → (p.0 ≡ c) × (p.1 < a + n)
range_has c zero a p h = absurd (false≢true h)
range_has c (suc n) a p h =
    elim (has_cases (c, a) p (map (λ j. (c, j)) (range_with_len (a + 1) n)) h) [
      | inl e ↦ let same : p.1 ≡ a = ap (λ (x : Place). x.1) e in (ap (λ (x : Place). x.0) e, omega (arith, same))
      | inr e ↦ let r = range_has c n (a + 1) p e in let lt = r.1 in (r.0, omega (arith, lt))
    ]

append_has : (xs ys : List Place) (p : Place) → has (xs ++ ys) p ≡ true → (has xs p ≡ true) ⊎ (has ys p ≡ true)
append_has xs ys p h = or_cases (has xs p) (has ys p) (sym (list_any-append (same_place p) xs ys) ∙ h)

listed_is : (members : ClassFile → List Member) (n : ℕ) (cs : List ClassFile) (p : Place)
    → has (flat_map (λ e. map (λ i. (e.0, i)) (range_with_len 0 (length (members e.1)))) (enumerate_from n cs)) p ≡ true → Listed members n cs p
unfolding Listed
listed_is members n [] p h = absurd (false≢true h)
listed_is members n (c ∷ cs) p h =
    let F : ℕ × ClassFile → List Place = λ e. map (λ i. (e.0, i)) (range_with_len 0 (length (members e.1))) in
    elim (append_has (F (n, c)) (flat_map F (enumerate_from (n + 1) cs)) p h) [
      | inl e ↦
          let r = range_has n (length (members c)) 0 p e in
          let own = r.0 in
          let lt = r.1 in
          (0, c, omega (arith, own), refl, omega (arith, lt))
      | inr e ↦
          let r = listed_is members (n + 1) cs p e in
          let own = r.2 in
          (suc r.0, r.1, omega (arith, own), r.3, r.4)
    ]

pub IsMember : (ClassFile → List Member) → List ClassFile → Place → Type 0
IsMember members cs p = (k : ClassFile) × (m : Member) × (slice_get cs p.0 ≡ Some k) × (slice_get (members k) p.1 ≡ Some m)

pub is_member : (members : ClassFile → List Member) (cs : List ClassFile) (p : Place) → has (places_of members cs) p ≡ true → IsMember members cs p
unfolding Listed IsMember
is_member members cs p h =
    let r = listed_is members 0 cs p h in
    let m = got (members r.1) p.1 r.4 in
    let own = r.2 in
    let same : p.0 ≡ r.0 = omega (arith, own) in
    (r.1, m.0, ap (slice_get cs) same ∙ r.3, m.1)

-- ---- places by number

filter_keeps : (test : Place → Bool) (x : Place) (xs : List Place) (p : Place) (b : Bool) → (has (filter test xs) p ≡ true → has xs p ≡ true) → has (if b then x ∷ filter test xs else filter test xs) p ≡ true → has (x ∷ xs) p ≡ true
filter_keeps test x xs p true later h = elim (has_cases x p (filter test xs) h) [ inl e ↦ ap (has (x ∷ xs)) e ∙ has_head x xs | inr e ↦ has_tail x p xs (later e) ]
filter_keeps test x xs p false later h = has_tail x p xs (later h)

filter_has : (test : Place → Bool) (xs : List Place) (p : Place) → has (filter test xs) p ≡ true → has xs p ≡ true
filter_has test [] p h = h
filter_has test (x ∷ xs) p h = filter_keeps test x xs p (test x) (filter_has test xs p) h

pub numbered_is : (cs : List ClassFile) (p : Place) → has (methods_by_number cs) p ≡ true → IsMember (λ k. k.methods) cs p
unfolding methods_by_number
numbered_is cs p h =
    let all = places_of (λ k. k.methods) cs in
    elim (append_has (filter (is_coded cs) all) (filter (λ m. not (is_coded cs m)) all) p h) [
      | inl e ↦ is_member (λ k. k.methods) cs p (filter_has (is_coded cs) all p e)
      | inr e ↦ is_member (λ k. k.methods) cs p (filter_has (λ m. not (is_coded cs m)) all p e)
    ]

pub is_numbered : (cs : List ClassFile) (p : Place) (k : ClassFile) (m : Member) → slice_get cs p.0 ≡ Some k → slice_get k.methods p.1 ≡ Some m → has (methods_by_number cs) p ≡ true
unfolding methods_by_number
is_numbered cs p k m h e =
    let all = places_of (λ k. k.methods) cs in
    let there = listed (λ k. k.methods) cs p k m h e in
    elim (cases_Bool (is_coded cs p)) [
      | inl c ↦ has_left (filter (is_coded cs) all) (filter (λ m. not (is_coded cs m)) all) p (has_filter (is_coded cs) all p there c)
      | inr c ↦ has_right (filter (is_coded cs) all) (filter (λ m. not (is_coded cs m)) all) p (has_filter (λ m. not (is_coded cs m)) all p there (ap not c))
    ]

pub has_place : (xs : List Place) (p : Place) → has xs p ≡ true → (j : ℕ) × (slice_get xs j ≡ Some p)
has_place [] p h = absurd (false≢true h)
has_place (x ∷ xs) p h =
    elim (has_cases x p xs h) [
      | inl e ↦ (0, ap Some (sym e))
      | inr e ↦ let r = has_place xs p e in (suc r.0, r.1)
    ]

pub place_has : (xs : List Place) (j : ℕ) (p : Place) → slice_get xs j ≡ Some p → has xs p ≡ true
place_has [] j p h = absurd (none≢some p h)
place_has (x ∷ xs) zero p h = ap (has (x ∷ xs)) (sym (some_same x p h)) ∙ has_head x xs
place_has (x ∷ xs) (suc j) p h = has_tail x p xs (place_has xs j p h)

-- ---- methods by number

kept_case : (f : Place → Option Method) (x : Place) (xs : List Place) (n : ℕ) (o : Option Method) → f x ≡ o → (o ≡ None → ⊥) → ((j : ℕ) → slice_get (filter_map f xs) j ≡ onto (slice_get xs j) f)
    → slice_get (cons_option o (filter_map f xs)) n ≡ onto (slice_get (x ∷ xs) n) f
kept_case f x xs n None e no_case later = absurd (no_case refl)
kept_case f x xs zero (Some k) e some later = sym e
kept_case f x xs (suc n) (Some k) e some later = later n

kept_at : (f : Place → Option Method) (xs : List Place) → ((p : Place) → has xs p ≡ true → f p ≡ None → ⊥) → (n : ℕ) → slice_get (filter_map f xs) n ≡ onto (slice_get xs n) f
kept_at f [] h n = refl
kept_at f (x ∷ xs) h n = kept_case f x xs n (f x) refl (h x (has_head x xs)) (kept_at f xs (λ p e. h p (has_tail x p xs e)))

-- a method and its class, as the program has them
pub record IsMethodOf (cs : List ClassFile) (p : Place) (k : Method) : Type 0 where
  pub owner : ClassFile
  pub member : Member
  pub class : slice_get cs p.0 ≡ Some owner
  pub there : slice_get owner.methods p.1 ≡ Some member
  pub is : k ≡ method_in cs p.0 owner member

pub at_place : (cs : List ClassFile) (p : Place) (c : ClassFile) (m : Member) → slice_get cs p.0 ≡ Some c → slice_get c.methods p.1 ≡ Some m → method_at cs p ≡ Some m
at_place cs p c m h e = ap (λ o. onto o (λ c. slice_get c.methods p.1)) h ∙ e

pub resolved_at : (cs : List ClassFile) (p : Place) (c : ClassFile) (m : Member) → slice_get cs p.0 ≡ Some c → slice_get c.methods p.1 ≡ Some m → resolved_method cs p ≡ Some (method_in cs p.0 c m)
resolved_at cs p c m h e =
    ap (λ o. onto o (λ c. option_map (method_in cs p.0 c) (method_at cs p))) h ∙ ap (option_map (method_in cs p.0 c)) (at_place cs p c m h e)

pub method_of : (cs : List ClassFile) (p : Place) (k : Method) → resolved_method cs p ≡ Some k → IsMethodOf cs p k
method_of cs p k h =
    let c = onto_some (slice_get cs p.0) (λ c. option_map (method_in cs p.0 c) (method_at cs p)) k h in
    let m = map_some (method_in cs p.0 c.0) (method_at cs p) k c.2 in
    let d = onto_some (slice_get cs p.0) (λ c. slice_get c.methods p.1) m.0 m.1 in
    record { owner = c.0; member = m.0; class = c.1; there = subst (λ (x : ClassFile). slice_get x.methods p.1 ≡ Some m.0) (some_same d.0 c.0 (sym d.1 ∙ c.1)) d.2; is = sym m.2 }

by_number : (cs : List ClassFile) (n : ℕ) → slice_get (resolved_methods cs) n ≡ onto (slice_get (methods_by_number cs) n) (resolved_method cs)
unfolding IsMember
by_number cs n =
    kept_at (resolved_method cs) (methods_by_number cs) (λ p h e.
    let r = numbered_is cs p h in
    none≢some (method_in cs p.0 r.0 r.1) (sym e ∙ resolved_at cs p r.0 r.1 r.2 r.3)) n

-- the method of a number is the one at its place
pub record IsNumbered (cs : List ClassFile) (n : ℕ) (k : Method) : Type 0 where
  pub place : Place
  pub number : slice_get (methods_by_number cs) n ≡ Some place
  pub method : IsMethodOf cs place k

pub numbered : (cs : List ClassFile) (n : ℕ) (k : Method) → slice_get (resolved_methods cs) n ≡ Some k → IsNumbered cs n k
numbered cs n k h =
    let p = onto_some (slice_get (methods_by_number cs) n) (resolved_method cs) k (sym (by_number cs n) ∙ h) in
    record { place = p.0; number = p.1; method = method_of cs p.0 k p.2 }

-- each method has a number
pub number_of : (cs : List ClassFile) (p : Place) (c : ClassFile) (m : Member) → slice_get cs p.0 ≡ Some c → slice_get c.methods p.1 ≡ Some m
    → (n : ℕ) × (method_number cs p ≡ Some n) × (slice_get (resolved_methods cs) n ≡ Some (method_in cs p.0 c m))
number_of cs p c m h e =
    let j = has_place (methods_by_number cs) p (is_numbered cs p c m h e) in
    let i = index_there (same_place p) (methods_by_number cs) j.0 p j.1 (same_is_place p p refl) in
    let f = index_found (same_place p) (methods_by_number cs) i.0 i.1 in
    let at : slice_get (methods_by_number cs) i.0 ≡ Some p = f.1 ∙ ap Some (sym (place_same p f.0 f.2)) in
    (i.0, i.1, by_number cs i.0 ∙ (ap (λ o. onto o (resolved_method cs)) at ∙ resolved_at cs p c m h e))
