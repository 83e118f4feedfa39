-- Items that are put last once for each symbol.
use Rattle.std.proofs.Common.{◌≡◌, ℕ, zero, suc, ◌<◌, Bool, true, false, ◌&&◌, ◌||◌, ◌⊎◌, List, [], ◌∷◌, ◌++◌, inl, inr, Some, refl, sym, ap, ap₂, ◌∙◌, subst, arith}
use Rattle.std.specs.Prelude.{slice_get, if◌then◌else◌}
use Rattle.std.proofs.Math.ListN.{set, replicate}
use Rattle.std.specs.List.{list_any, list_all}
use Rattle.std.proofs.lemmas.Bool.{false≢true, cond-true}
use Rattle.std.proofs.lemmas.List.{length-replicate, get_or-replicate}
use Rattle.std.proofs.lemmas.Option.{slice_get_within}
use Rattle.std.proofs.lemmas.List.Folds.{list_any-append}
use Rattle.program_tables.specs.Lists.{with_item, with_items}
use Rattle.program_tables.specs.Marks.{AreAdded}
use Rattle.program_tables.proofs.ListLemmas.{got_index}

split_and : (a b : Bool) → (a && b) ≡ true → (a ≡ true) × (b ≡ true)
split_and true b h = (refl, h)
split_and false b h = absurd (false≢true h)

-- what is there changes nothing
pub kept : {A : Type 0} (same : A → A → Bool) (ks xs : List A) → list_all (λ x. list_any (same x) ks) xs ≡ true → with_items same ks xs ≡ ks
kept same ks [] h = refl
kept same ks (x ∷ xs) h =
    let both = split_and (list_any (same x) ks) (list_all (λ y. list_any (same y) ks) xs) h in
    ap (λ zs. with_items same zs xs) (cond-true (list_any (same x) ks) ks (ks ++ x ∷ []) both.0) ∙ kept same ks xs both.1

-- what is there stays there
item_stays : {A : Type 0} (p : A → Bool) (ks : List A) (x : A) (b : Bool) → list_any p ks ≡ true → list_any p (if b then ks else ks ++ x ∷ []) ≡ true
item_stays p ks x true h = h
item_stays p ks x false h = list_any-append p ks (x ∷ []) ∙ ap (λ b. b || list_any p (x ∷ [])) h

stays : {A : Type 0} (same : A → A → Bool) (p : A → Bool) (ks ys : List A) → list_any p ks ≡ true → list_any p (with_items same ks ys) ≡ true
stays same p ks [] h = h
stays same p ks (y ∷ ys) h = stays same p (with_item same ks y) ys (item_stays p ks y (list_any (same y) ks) h)

all_stay : {A : Type 0} (same : A → A → Bool) (ks ys xs : List A) → list_all (λ x. list_any (same x) ks) xs ≡ true → list_all (λ x. list_any (same x) (with_items same ks ys)) xs ≡ true
all_stay same ks ys [] h = refl
all_stay same ks ys (x ∷ xs) h =
    let both = split_and (list_any (same x) ks) (list_all (λ y. list_any (same y) ks) xs) h in
    ap₂ (λ (a b : Bool). a && b) (stays same (same x) ks ys both.0) (all_stay same ks ys xs both.1)

pub added_more : {A : Type 0} (same : A → A → Bool) (items : ℕ → List A) (ks ys : List A) (marks : List Bool) → AreAdded same items ks marks → AreAdded same items (with_items same ks ys) marks
added_more same items ks ys marks h n e = all_stay same ks ys (items n) (h n e)

-- what was put is there
put_case : {A : Type 0} (same : A → A → Bool) (ks : List A) (x : A) (b : Bool) → list_any (same x) ks ≡ b → same x x ≡ true → list_any (same x) (if b then ks else ks ++ x ∷ []) ≡ true
put_case same ks x true e h = e
put_case same ks x false e h = list_any-append (same x) ks (x ∷ []) ∙ ap₂ (λ (a b : Bool). a || (b || false)) e h

pub all_put : {A : Type 0} (same : A → A → Bool) → ((x : A) → same x x ≡ true) → (ks xs : List A) → list_all (λ x. list_any (same x) (with_items same ks xs)) xs ≡ true
all_put same h ks [] = refl
all_put same h ks (x ∷ xs) =
    ap₂ (λ (a b : Bool). a && b) (stays same (same x) (with_item same ks x) xs (put_case same ks x (list_any (same x) ks) refl (h x))) (all_put same h (with_item same ks x) xs)

-- a mark more
set_there : (marks : List Bool) (n m : ℕ) → slice_get (set marks n true) m ≡ Some true → (m ≡ n) ⊎ (slice_get marks m ≡ Some true)
set_there [] n m e = inr e
set_there (b ∷ marks) zero zero e = inl refl
set_there (b ∷ marks) zero (suc m) e = inr e
set_there (b ∷ marks) (suc n) zero e = inr e
set_there (b ∷ marks) (suc n) (suc m) e = elim (set_there marks n m e) [
  | inl same ↦ inl (ap suc same)
  | inr old ↦ inr old
]

pub marked : {A : Type 0} (same : A → A → Bool) → ((x : A) → same x x ≡ true) → (items : ℕ → List A) (ks xs : List A) (marks : List Bool) (n : ℕ) → AreAdded same items ks marks → items n ≡ xs
    → AreAdded same items (with_items same ks xs) (set marks n true)
marked same r items ks xs marks n h e m g = elim (set_there marks n m g) [
  | inl at ↦ subst (λ ys. list_all (λ x. list_any (same x) (with_items same ks xs)) ys ≡ true) (sym (ap items at ∙ e)) (all_put same r ks xs)
  | inr old ↦ added_more same items ks xs marks h m old
]

-- no mark
pub none_added : {A : Type 0} (same : A → A → Bool) (items : ℕ → List A) (ks : List A) (marks : List Bool) → ((n : ℕ) → slice_get marks n ≡ Some true → ⊥) → AreAdded same items ks marks
none_added same items ks marks h n e = absurd (h n e)

pub no_true : (n m : ℕ) → slice_get (replicate n false) m ≡ Some true → ⊥
no_true n m e =
    let within = slice_get_within (replicate n false) m true e in
    let lt : m < n = let long = length-replicate n false in omega (arith, within, long) in
    false≢true (sym (get_or-replicate n m false true lt) ∙ sym (got_index (replicate n false) m true e))
