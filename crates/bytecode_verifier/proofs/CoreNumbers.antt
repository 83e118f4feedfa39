-- The numbers of methods of classes that stand behind others.
use Rattle.std.proofs.Common.{◌≡◌, ℕ, zero, suc, ◌+◌, ◌<◌, ◌≤◌, Bool, true, false, not, cond, List, [], ◌∷◌, ◌++◌, length, map, Some, None, inl, inr, sym, ap, ◌∙◌, arith}
use Rattle.std.specs.Prelude.{slice_get}
use Rattle.std.specs.List.{list_all, range_with_len, enumerate_from, filter, flat_map, AllByRecursion}
use Rattle.std.proofs.lemmas.Bool.{cases_lt}
use Rattle.lists.specs.Tests.{and_left, and_right}
use Rattle.class_pool.specs.declared.class.ClassFile.{ClassFile}
use Rattle.class_lookup.specs.Lookup.{Place}

pub all_in_range : (t : ℕ → Bool) (a len n : ℕ) → list_all t (range_with_len a len) ≡ true → a ≤ n → n < a + len → t n ≡ true
all_in_range t a zero n all from below = absurd (omega arith)
all_in_range t a (suc len) n all from below =
    elim (cases_lt a n) [
      | inl lt ↦ all_in_range t (a + 1) len n (and_right (t a) (list_all t (range_with_len (a + 1) len)) all) (omega arith) (omega arith)
      | inr le ↦ (let same : a ≡ n = omega arith in ap t (sym same) ∙ and_left (t a) (list_all t (range_with_len (a + 1) len)) all)
    ]

-- ---- places

pub all_at : {X : Type 0} (P : X → Type 0) (xs : List X) (i : ℕ) (x : X) → AllByRecursion P xs → slice_get xs i ≡ Some x → P x
all_at P [] i x all at = absurd (let f : None ≡ Some x = at in cc)
all_at P (y ∷ xs) zero x all at = let e : y ≡ x = cc in rw (← e) all.0
all_at P (y ∷ xs) (suc i) x all at = all_at P xs i x all.1 at

all_front : {X : Type 0} (P : X → Type 0) (xs ys : List X) → AllByRecursion P xs → AllByRecursion P ys → AllByRecursion P (xs ++ ys)
all_front P [] ys a b = b
all_front P (x ∷ xs) ys a b = (a.0, all_front P xs ys a.1 b)

kept : {X : Type 0} (P : X → Type 0) (x : X) (b : Bool) (ys : List X) → P x → AllByRecursion P ys → AllByRecursion P (cond b (x ∷ ys) ys)
kept P x true ys p q = (p, q)
kept P x false ys p q = q

all_kept : {X : Type 0} (P : X → Type 0) (t : X → Bool) (xs : List X) → AllByRecursion P xs → AllByRecursion P (filter t xs)
all_kept P t [] a = tt
all_kept P t (x ∷ xs) a = kept P x (t x) (filter t xs) a.0 (all_kept P t xs a.1)

abbrev pub places_in : List (ℕ × ClassFile) → List Place
places_in es = flat_map (λ e. map (λ i. (e.0, i)) (range_with_len 0 (length e.1.methods))) es

all_of_class : (k a len n : ℕ) → n ≤ k → AllByRecursion (λ (p : Place). n ≤ p.0) (map (λ (i : ℕ). (k, i)) (range_with_len a len))
all_of_class k a zero n le = tt
all_of_class k a (suc len) n le = (le, all_of_class k (a + 1) len n le)

pub all_behind : (n k : ℕ) (cs : List ClassFile) → n ≤ k → AllByRecursion (λ (p : Place). n ≤ p.0) (places_in (enumerate_from k cs))
all_behind n k [] le = tt
all_behind n k (c ∷ cs) le = all_front (λ (p : Place). n ≤ p.0) (map (λ (i : ℕ). (k, i)) (range_with_len 0 (length c.methods))) (places_in (enumerate_from (k + 1) cs)) (all_of_class k 0 (length c.methods) n le) (all_behind n (k + 1) cs (omega arith))

pub all_numbered_behind : (t : Place → Bool) (n : ℕ) (cs : List ClassFile) → AllByRecursion (λ (p : Place). n ≤ p.0) (filter t (places_in (enumerate_from n cs)) ++ filter (λ p. not (t p)) (places_in (enumerate_from n cs)))
all_numbered_behind t n cs =
    let all = all_behind n n cs (omega arith) in
    all_front (λ (p : Place). n ≤ p.0) (filter t (places_in (enumerate_from n cs))) (filter (λ p. not (t p)) (places_in (enumerate_from n cs)))
    (all_kept (λ (p : Place). n ≤ p.0) t (places_in (enumerate_from n cs)) all) (all_kept (λ (p : Place). n ≤ p.0) (λ p. not (t p)) (places_in (enumerate_from n cs)) all)

pub past_front : {X : Type 0} (P : X → Type 0) (front rest : List X) (n : ℕ) (x : X) → length front ≤ n → AllByRecursion P rest → slice_get (front ++ rest) n ≡ Some x → P x
past_front P [] rest n x le all at = all_at P rest n x all at
past_front P (y ∷ front) rest zero x le all at = absurd (omega arith)
past_front P (y ∷ front) rest (suc n) x le all at = past_front P front rest n x (omega arith) all at
