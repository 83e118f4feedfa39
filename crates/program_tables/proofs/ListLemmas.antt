-- Lists, one item after another.
use Rattle.std.proofs.Common.{◌≡◌, ℕ, zero, suc, get_or, ◌+◌, Bool, true, false, not, cond, map, nat_lt, List, [], ◌∷◌, ◌++◌, length, Option, Some, None, Bor, refl, sym, ap, ap₂, ◌∙◌, arith}
use Rattle.std.specs.Prelude.{is_some, if◌then◌else◌, slice_get, position}
use Rattle.std.specs.List.{position_or_len}
use Rattle.std.specs.Option.{option_or, option_map, option_copied}
use Rattle.std.specs.Map.{lookup}
use Rattle.std.proofs.lemmas.Bool.{false≢true, lt-ltb, le-ltb, ltb-true, ltb-false}
use Rattle.bytecode_model.specs.Lists.{onto, index_of}

lookup_case : {K : Type 0} (t : K → Bool) (e : K × ℕ) (es : List (K × ℕ)) (k : K) (v : ℕ) (b : Bool) → lookup t (es ++ (k, v) ∷ []) ≡ option_or (lookup t es) (if t k then Some v else None)
    → (if b then Some e.1 else lookup t (es ++ (k, v) ∷ [])) ≡ option_or (if b then Some e.1 else lookup t es) (if t k then Some v else None)
lookup_case t e es k v true h = refl
lookup_case t e es k v false h = h

pub lookup-one_more : {K : Type 0} (t : K → Bool) (es : List (K × ℕ)) (k : K) (v : ℕ) → lookup t (es ++ (k, v) ∷ []) ≡ option_or (lookup t es) (if t k then Some v else None)
lookup-one_more t [] k v = refl
lookup-one_more t (e ∷ es) k v = lookup_case t e es k v (t e.0) (lookup-one_more t es k v)

raised : (o : Option ℕ) (b : Bool) (n : ℕ) → onto (option_or o (if b then Some n else None)) (λ k. Some (suc k)) ≡ option_or (onto o (λ k. Some (suc k))) (if b then Some (suc n) else None)
raised None true n = refl
raised None false n = refl
raised (Some k) b n = refl

index_case : {A : Type 0} (t : A → Bool) (xs : List A) (y : A) (b : Bool) → index_of t (xs ++ y ∷ []) ≡ option_or (index_of t xs) (if t y then Some (length xs) else None)
    → (if b then Some 0 else onto (index_of t (xs ++ y ∷ [])) (λ k. Some (suc k))) ≡ option_or (if b then Some 0 else onto (index_of t xs) (λ k. Some (suc k))) (if t y then Some (suc (length xs)) else None)
index_case t xs y true h = refl
index_case t xs y false h = ap (λ o. onto o (λ k. Some (suc k))) h ∙ raised (index_of t xs) (t y) (length xs)

pub index_of-one_more : {A : Type 0} (t : A → Bool) (xs : List A) (y : A) → index_of t (xs ++ y ∷ []) ≡ option_or (index_of t xs) (if t y then Some (length xs) else None)
index_of-one_more t [] y = refl
index_of-one_more t (x ∷ xs) y = index_case t xs y (t x) (index_of-one_more t xs y)

-- entries that give the first index of each item, with one item more
pub found_new : {K : Type 0} (t : K → Bool) (es : List (K × ℕ)) (xs : List K) (x : K) (i : ℕ) → lookup t es ≡ index_of t xs → i ≡ length xs
    → lookup t (es ++ (x, i) ∷ []) ≡ index_of t (xs ++ x ∷ [])
found_new t es xs x i h n =
    lookup-one_more t es x i
    ∙ (ap (λ o. option_or o (if t x then Some i else None)) h
    ∙ (ap (λ j. option_or (index_of t xs) (if t x then Some j else None)) n ∙ sym (index_of-one_more t xs x)))

-- the item is there already
old_case : {K : Type 0} (t : K → Bool) (xs : List K) (x : K) (o : Option ℕ) → index_of t xs ≡ o → (b : Bool) → t x ≡ b → (t x ≡ true → is_some (index_of t xs) ≡ true)
    → o ≡ option_or o (if b then Some (length xs) else None)
old_case t xs x (Some k) e b f there = refl
old_case t xs x None e false f there = refl
old_case t xs x None e true f there = absurd (false≢true (sym (ap is_some e) ∙ there f))

pub found_old : {K : Type 0} (t : K → Bool) (es : List (K × ℕ)) (xs : List K) (x : K) → lookup t es ≡ index_of t xs → (t x ≡ true → is_some (index_of t xs) ≡ true)
    → lookup t es ≡ index_of t (xs ++ x ∷ [])
found_old t es xs x h there = h ∙ (old_case t xs x (index_of t xs) refl (t x) refl there ∙ sym (index_of-one_more t xs x))

pub no_copy : {T : Type 0} (r : Option (Bor T)) → ((x : Bor T) → r ≡ Some x → ⊥) → option_copied r ≡ None
no_copy None h = refl
no_copy (Some x) h = absurd (h x refl)

pub no_value : {T : Type 0} (r : Option T) → ((x : T) → r ≡ Some x → ⊥) → r ≡ None
no_value None h = refl
no_value (Some x) h = absurd (h x refl)

pub got_index : {A : Type 0} (xs : List A) (i : ℕ) (x : A) → slice_get xs i ≡ Some x → x ≡ get_or xs i x
got_index [] i x e = absurd (let f : None ≡ Some x = e in cc)
got_index (y ∷ xs) zero x e = let f : Some y ≡ Some x = e in (cc)
got_index (y ∷ xs) (suc i) x e = got_index xs i x e

-- ---- where an item stands first

position_next : (b : Bool) (k n : ℕ) (o : Option ℕ) → nat_lt k n ≡ b → cond b (Some k) None ≡ o → cond (nat_lt (1 + k) (suc n)) (Some (1 + k)) None ≡ onto o (λ j. Some (suc j))
position_next true k n o e h =
    let next : 1 + k ≡ suc k = omega arith in
    let lt = ltb-true k n e in
    ap (λ (x : Bool). cond x (Some (1 + k)) None) (lt-ltb (1 + k) (suc n) (omega arith)) ∙ (ap (λ j. Some j) next ∙ ap (λ x. onto x (λ j. Some (suc j))) h)
position_next false k n o e h =
    let le = ltb-false k n e in
    ap (λ (x : Bool). cond x (Some (1 + k)) None) (le-ltb (1 + k) (suc n) (omega arith)) ∙ ap (λ x. onto x (λ j. Some (suc j))) h

position_case : (b : Bool) (k n : ℕ) (o : Option ℕ) → cond (nat_lt k n) (Some k) None ≡ o
    → cond (nat_lt (cond (not b) (1 + k) 0) (suc n)) (Some (cond (not b) (1 + k) 0)) None ≡ (if b then Some 0 else onto o (λ j. Some (suc j)))
position_case true k n o h = ap (λ (x : Bool). cond x (Some 0) None) (lt-ltb 0 (suc n) (omega arith))
position_case false k n o h = position_next (nat_lt k n) k n o refl h

pub position_is : {A : Type 0} (t : A → Bool) (xs : List A) → position t xs ≡ index_of t xs
position_is t [] = refl
position_is t (x ∷ xs) = position_case (t x) (position_or_len t xs) (length xs) (index_of t xs) (position_is t xs)

pub index_of-same : {A : Type 0} (s t : A → Bool) → ((x : A) → s x ≡ t x) → (xs : List A) → index_of s xs ≡ index_of t xs
index_of-same s t h [] = refl
index_of-same s t h (x ∷ xs) = ap₂ (λ (b : Bool) (o : Option ℕ). if b then Some 0 else onto o (λ k. Some (suc k))) (h x) (index_of-same s t h xs)

pub index_of-map : {A B : Type 0} (t : B → Bool) (f : A → B) (xs : List A) → index_of (λ x. t (f x)) xs ≡ index_of t (map f xs)
index_of-map t f [] = refl
index_of-map t f (x ∷ xs) = ap (λ o. if t (f x) then Some 0 else onto o (λ k. Some (suc k))) (index_of-map t f xs)

behind_more : (o p : Option ℕ) (n : ℕ) → onto (option_or o (option_map (λ k. n + k) p)) (λ k. Some (suc k)) ≡ option_or (onto o (λ k. Some (suc k))) (option_map (λ k. suc n + k) p)
behind_more (Some k) p n = refl
behind_more None None n = refl
behind_more None (Some j) n = let same : suc (n + j) ≡ suc n + j = omega arith in ap (λ k. Some k) same

append_case : (b : Bool) (o p q : Option ℕ) (n : ℕ) → o ≡ option_or p (option_map (λ k. n + k) q)
    → (if b then Some 0 else onto o (λ k. Some (suc k))) ≡ option_or (if b then Some 0 else onto p (λ k. Some (suc k))) (option_map (λ k. suc n + k) q)
append_case true o p q n h = refl
append_case false o p q n h = ap (λ x. onto x (λ k. Some (suc k))) h ∙ behind_more p q n

none_more : (o : Option ℕ) → o ≡ option_map (λ k. 0 + k) o
none_more None = refl
none_more (Some k) = let same : k ≡ 0 + k = omega arith in ap (λ j. Some j) same

pub index_of-append : {A : Type 0} (t : A → Bool) (xs ys : List A) → index_of t (xs ++ ys) ≡ option_or (index_of t xs) (option_map (λ k. length xs + k) (index_of t ys))
index_of-append t [] ys = none_more (index_of t ys)
index_of-append t (x ∷ xs) ys = append_case (t x) (index_of t (xs ++ ys)) (index_of t xs) (index_of t ys) (length xs) (index_of-append t xs ys)

pub index_of-none : {A : Type 0} (t : A → Bool) (xs : List A) → ((x : A) → t x ≡ false) → index_of t xs ≡ None
index_of-none t [] h = refl
index_of-none t (x ∷ xs) h = ap₂ (λ (b : Bool) (o : Option ℕ). if b then Some 0 else onto o (λ k. Some (suc k))) (h x) (index_of-none t xs h)
