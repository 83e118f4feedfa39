-- Items at their first mention, one after another.
use Rattle.std.proofs.Common.{◌≡◌, ℕ, ◌+◌, ◌<◌, Bool, true, false, not, ◌||◌, List, [], ◌∷◌, ◌++◌, take, get_or, length, append_assoc, append-nil, refl, sym, ap, ap₂, ◌∙◌, cond}
use Rattle.std.specs.Prelude.{if◌then◌else◌}
use Rattle.std.specs.Bool.{Decides}
use Rattle.std.specs.List.{filter, flat_map, list_any}
use Rattle.std.proofs.lemmas.Grind.{take_at_read}
use Rattle.std.proofs.lemmas.Bool.Decides.{Decides-like, same_from_decides}
use Rattle.class_lookup.specs.Lists.{distinct, with_item, with_items}

-- ---- what is put last after other items

pub with_items-append : {A : Type 0} (same : A → A → Bool) (ks xs ys : List A) → with_items same ks (xs ++ ys) ≡ with_items same (with_items same ks xs) ys
with_items-append same ks [] ys = refl
with_items-append same ks (x ∷ xs) ys = with_items-append same (with_item same ks x) xs ys

flat_map-more : {X Y : Type 0} (f : X → List Y) (xs : List X) (x : X) → flat_map f (xs ++ x ∷ []) ≡ flat_map f xs ++ f x
flat_map-more f [] x = append-nil (f x)
flat_map-more f (y ∷ xs) x = ap (λ zs. f y ++ zs) (flat_map-more f xs x) ∙ sym (append_assoc (f y) (flat_map f xs) (f x))

-- one part more
pub next_of : {X Y : Type 0} (same : Y → Y → Bool) (f : X → List Y) (xs : List X) (i : ℕ) (x d : X) (old ks after : List Y) → i < length xs → x ≡ get_or xs i d
    → ks ≡ with_items same old (flat_map f (take i xs)) → after ≡ with_items same ks (f x) → after ≡ with_items same old (flat_map f (take (i + 1) xs))
next_of same f xs i x d old ks after lt is h e =
    e ∙ (ap (λ zs. with_items same zs (f x)) h
    ∙ (sym (with_items-append same old (flat_map f (take i xs)) (f x))
    ∙ ap (with_items same old) (sym (flat_map-more f (take i xs) x) ∙ ap (flat_map f) (ap (λ z. take i xs ++ z ∷ []) is ∙ sym (take_at_read xs i d lt).1))))

pub next_part : {X Y : Type 0} (same : Y → Y → Bool) (f : X → List Y) (xs : List X) (i : ℕ) (x : X) (old ks after : List Y) → i < length xs → x ≡ get_or xs i x
    → ks ≡ with_items same old (flat_map f (take i xs)) → after ≡ with_items same ks (f x) → after ≡ with_items same old (flat_map f (take (i + 1) xs))
next_part same f xs i x old ks after lt is h e = next_of same f xs i x x old ks after lt is h e

-- ---- each at its first mention

abbrev pub outside : {A : Type 0} → (A → A → Bool) → List A → A → Bool
outside same ks y = not (list_any (same y) ks)

filter_same : {A : Type 0} (p q : A → Bool) → ((y : A) → p y ≡ q y) → (ys : List A) → filter p ys ≡ filter q ys
filter_same p q h [] = refl
filter_same p q h (y ∷ ys) = ap₂ (λ (b : Bool) (zs : List _). cond b (y ∷ zs) zs) (h y) (filter_same p q h ys)

both_case : {A : Type 0} (p q r : A → Bool) (y : A) (ys : List A) (b c : Bool) → q y ≡ b → r y ≡ c → cond c b false ≡ p y → filter p ys ≡ filter q (filter r ys)
    → cond (p y) (y ∷ filter p ys) (filter p ys) ≡ filter q (cond (r y) (y ∷ filter r ys) (filter r ys))
both_case p q r y ys b true e f g h =
    ap₂ (λ (x : Bool) (zs : List _). cond x (y ∷ zs) zs) (sym g ∙ sym e) h ∙ ap (λ (x : Bool). filter q (cond x (y ∷ filter r ys) (filter r ys))) (sym f)
both_case p q r y ys b false e f g h =
    ap₂ (λ (x : Bool) (zs : List _). cond x (y ∷ zs) zs) (sym g) h ∙ ap (λ (x : Bool). filter q (cond x (y ∷ filter r ys) (filter r ys))) (sym f)

-- a test of two tests
filter_both : {A : Type 0} (p q r : A → Bool) → ((y : A) → cond (r y) (q y) false ≡ p y) → (ys : List A) → filter p ys ≡ filter q (filter r ys)
filter_both p q r h [] = refl
filter_both p q r h (y ∷ ys) = both_case p q r y ys (q y) (r y) refl refl (h y) (filter_both p q r h ys)

same_back : {A : Type 0} (same : A → A → Bool) → ((x y : A) → Decides (same x y) (x ≡ y)) → (x y : A) → same x y ≡ same y x
same_back same decides x y = same_from_decides (same x y) (same y x) (decides x y) (Decides-like (same y x) (λ e. sym e) (λ e. sym e) (decides y x))

-- what is there already is left out anyway
there_case : {A : Type 0} (same : A → A → Bool) → ((x y : A) → Decides (same x y) (x ≡ y)) → (ks : List A) (x y : A) (b : Bool) → same x y ≡ b → list_any (same x) ks ≡ true
    → cond (not b) (outside same ks y) false ≡ outside same ks y
there_case same decides ks x y false e h = refl
there_case same decides ks x y true e h = let eq = (decides x y).0 e in sym (ap (λ z. not (list_any (same z) ks)) (sym eq) ∙ ap not h)

pub any_more : {A : Type 0} (p : A → Bool) (ks : List A) (x : A) → list_any p (ks ++ x ∷ []) ≡ (list_any p ks || p x)
any_more p [] x = or_false (p x)
  where
    or_false : (b : Bool) → (b || false) ≡ b
    or_false true = refl
    or_false false = refl
any_more p (k ∷ ks) x = ap (λ b. p k || b) (any_more p ks x) ∙ or_assoc (p k) (list_any p ks) (p x)
  where
    or_assoc : (a b c : Bool) → (a || (b || c)) ≡ ((a || b) || c)
    or_assoc true b c = refl
    or_assoc false b c = refl

new_case : (a b : Bool) → cond (not b) (not a) false ≡ not (a || b)
new_case true true = refl
new_case true false = refl
new_case false true = refl
new_case false false = refl

mention_case : {A : Type 0} (same : A → A → Bool) → ((x y : A) → Decides (same x y) (x ≡ y)) → (ks : List A) (x : A) (xs : List A) (b : Bool) → list_any (same x) ks ≡ b
    → ((zs : List A) → with_items same zs xs ≡ zs ++ filter (outside same zs) (distinct same xs))
    → with_items same (if b then ks else ks ++ x ∷ []) xs
    ≡ ks ++ cond (not b) (x ∷ filter (outside same ks) (filter (λ y. not (same x y)) (distinct same xs))) (filter (outside same ks) (filter (λ y. not (same x y)) (distinct same xs)))
mention_case same decides ks x xs true h all =
    all ks
    ∙ ap (λ zs. ks ++ zs) (filter_both (outside same ks) (outside same ks) (λ y. not (same x y)) (λ y. there_case same decides ks x y (same x y) refl h) (distinct same xs))
mention_case same decides ks x xs false h all =
    all (ks ++ x ∷ [])
    ∙ (append_assoc ks (x ∷ []) (filter (outside same (ks ++ x ∷ [])) (distinct same xs))
    ∙ ap (λ zs. ks ++ x ∷ zs)
    (filter_both (outside same (ks ++ x ∷ [])) (outside same ks) (λ y. not (same x y))
    (λ y. new_case (list_any (same y) ks) (same x y) ∙ ap not (ap (λ b. list_any (same y) ks || b) (same_back same decides x y) ∙ sym (any_more (same y) ks x)))
    (distinct same xs)))

pub with_items-distinct : {A : Type 0} (same : A → A → Bool) → ((x y : A) → Decides (same x y) (x ≡ y)) → (ks xs : List A)
    → with_items same ks xs ≡ ks ++ filter (outside same ks) (distinct same xs)
with_items-distinct same decides ks [] = sym (append-nil ks)
with_items-distinct same decides ks (x ∷ xs) = mention_case same decides ks x xs (list_any (same x) ks) refl (λ zs. with_items-distinct same decides zs xs)

all_kept : {A : Type 0} (ys : List A) → filter (λ y. true) ys ≡ ys
all_kept [] = refl
all_kept (y ∷ ys) = ap (λ zs. y ∷ zs) (all_kept ys)

pub first_mentions : {A : Type 0} (same : A → A → Bool) → ((x y : A) → Decides (same x y) (x ≡ y)) → (xs : List A) → with_items same [] xs ≡ distinct same xs
first_mentions same decides xs = with_items-distinct same decides [] xs ∙ all_kept (distinct same xs)
