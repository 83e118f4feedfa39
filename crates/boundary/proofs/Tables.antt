-- An exception table of which no entry is out of its form.
use Rattle.std.proofs.Common.{◌≡◌, ℕ, zero, suc, ◌<◌, inl, inr, Bool, true, false, not, ◌||◌, ◌&&◌, cond, List, [], ◌∷◌, length, map, min, Option, Some, None, refl, sym, subst, ⊎_elim}
use Rattle.std.specs.Prelude.{slice_get, ◌==◌, nat_lt, ◌⊎◌}
use Rattle.std.specs.List.{filter}
use Rattle.std.specs.Option.{option_map}
use Rattle.std.proofs.lemmas.Bool.{false≢true, and_parts, or_cases, ltb-true, eqb-true}
use Rattle.lists.proofs.Lemmas.{none≢some, some_same}
use Rattle.frame_types.specs.Types.{is_start}
use Rattle.bytecode_verifier.specs.Failure.{Table, is_bad_entry, lesser, least, table_failure}

pub none_case : {A B : Type 0} (f : A → B) (o : Option A) → option_map f o ≡ None → o ≡ None
none_case f None h = refl
none_case f (Some x) h = absurd (none≢some (f x) (sym h))

lesser_there : (n : ℕ) (o : Option ℕ) → lesser (Some n) o ≡ None → ⊥
lesser_there n None h = none≢some n (sym h)
lesser_there n (Some m) h = none≢some (min n m) (sym h)

least_none : {A : Type 0} (f : A → ℕ) (xs : List A) → least (map f xs) ≡ None → xs ≡ []
least_none f [] h = refl
least_none f (x ∷ xs) h = absurd (lesser_there (f x) (least (map f xs)) h)

head_apart : {A : Type 0} (x : A) (xs : List A) → x ∷ xs ≡ [] → ⊥
head_apart x xs h = cc

filter_case : {A : Type 0} (test : A → Bool) (y : A) (ys : List A) (b : Bool) → test y ≡ b → cond b (y ∷ filter test ys) (filter test ys) ≡ [] → (filter test ys ≡ [] → (i : ℕ) (x : A) → slice_get ys i ≡ Some x → test x ≡ false)
    → (i : ℕ) (x : A) → slice_get (y ∷ ys) i ≡ Some x → test x ≡ false
filter_case test y ys true e h later i x at = absurd (head_apart y (filter test ys) h)
filter_case {A} test y ys false e h later zero x at = subst (λ (z : A). test z ≡ false) (some_same y x at) e
filter_case test y ys false e h later (suc i) x at = later h i x at

filter_none : {A : Type 0} (test : A → Bool) (xs : List A) → filter test xs ≡ [] → (i : ℕ) (x : A) → slice_get xs i ≡ Some x → test x ≡ false
filter_none test [] h i x at = absurd (none≢some x at)
filter_none test (y ∷ ys) h i x at = filter_case test y ys (test y) refl h (filter_none test ys) i x at

-- an entry with its start, its end and its handler's place, in its form
pub record IsFormed (code : List ℕ) (h : ℕ × ℕ × ℕ × ℕ) : Type 0 where
  pub some : h.0 < h.1
  pub start : is_start code h.0 ≡ true
  pub end : (is_start code h.1 ≡ true) ⊎ (h.1 ≡ length code)

not_false : (b : Bool) → not b ≡ false → b ≡ true
not_false true h = refl
not_false false h = absurd (false≢true (sym h))

formed_of : (code : List ℕ) (h : ℕ × ℕ × ℕ × ℕ) → is_bad_entry code h ≡ false → IsFormed code h
formed_of code h good =
    let ends = is_start code h.1 || h.1 == length code in
    let all = and_parts (nat_lt h.0 h.1) (is_start code h.0 && (ends && is_start code h.2)) (not_false _ good) in
    let places = and_parts (is_start code h.0) (ends && is_start code h.2) all.1 in
    let behind = and_parts ends (is_start code h.2) places.1 in
    record {
      some = ltb-true h.0 h.1 all.0;
      start = places.0;
      end = ⊎_elim (λ s. inl s) (λ e. inr (eqb-true h.1 (length code) e)) (or_cases (is_start code h.1) (h.1 == length code) behind.0);
    }

pub formed : (code : List ℕ) (hs : List (ℕ × ℕ × ℕ × ℕ)) → table_failure code hs ≡ None → (i : ℕ) (h : ℕ × ℕ × ℕ × ℕ) → slice_get hs i ≡ Some h → IsFormed code h
formed code hs none i h at =
    formed_of code h (filter_none (is_bad_entry code) hs (least_none (λ h. h.0) (filter (is_bad_entry code) hs) (none_case (λ pc. (pc, Table)) (least (map (λ h. h.0) (filter (is_bad_entry code) hs))) none)) i h at)
