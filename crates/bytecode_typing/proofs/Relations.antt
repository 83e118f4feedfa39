-- Lists of types and lists of values keep step.
use Rattle.std.proofs.Common.{◌≡◌, ℕ, zero, suc, Bool, true, false, List, [], ◌∷◌, ◌++◌, Option, Some, None, refl, sym, subst, ap, map, length}
use Rattle.std.specs.Prelude.{◌&&◌, slice_get, IfSome, if◌then◌else◌}
use Rattle.std.specs.Option.{IsSomeAnd}
use Rattle.bytecode_model.specs.Lists.{onto, replaced}
use Rattle.bytecode_model.specs.Rows.{Width, Zero, One, Two, StackForm, Drop, Copy, Swap}
use Rattle.bytecode_model.specs.Slots.{spread, padded, split, shuffled, shuffle}
use Rattle.bytecode_typing.specs.Tests.{Holds, AllTwo, all_two}

-- ---- tests

pub both_left : (a b : Bool) → Holds (a && b) → Holds a
both_left true b h = tt
both_left false b h = h

pub both_right : (a b : Bool) → Holds (a && b) → Holds b
both_right true b h = h
both_right false b h = absurd h

pub both_in : (a b : Bool) → Holds a → Holds b → Holds (a && b)
both_in true b h g = g
both_in false b h g = absurd h

pub is_true : (b : Bool) → Holds b → b ≡ true
is_true true h = refl
is_true false h = absurd h

pub from_true : (b : Bool) → b ≡ true → Holds b
from_true true e = tt
from_true false e = absurd (cc)

-- ---- options

pub some_in : {A : Type 0} (o : Option A) (P Q : A → Type 0) → IsSomeAnd o P → ((a : A) → P a → Q a) → IsSomeAnd o Q
some_in None P Q h k = absurd h
some_in (Some a) P Q h k = k a h

pub some_is : {A : Type 0} (o : Option A) (Q : A → Type 0) → IsSomeAnd o Q → (a : A) × (o ≡ Some a) × Q a
some_is None Q h = absurd h
some_is (Some a) Q h = (a, refl, h)

pub some_at : {A : Type 0} (o : Option A) (a : A) (Q : A → Type 0) → o ≡ Some a → Q a → IsSomeAnd o Q
some_at o a Q e q = subst (λ o. IsSomeAnd o Q) (sym e) q

pub at_some : {A : Type 0} (o : Option A) (a : A) (Q : A → Type 0) → o ≡ Some a → IsSomeAnd o Q → Q a
at_some o a Q e q = subst (λ o. IsSomeAnd o Q) e q

pub there_at : {A : Type 0} (o : Option A) (a : A) (Q : A → Type 0) → o ≡ Some a → IfSome o Q → Q a
there_at o a Q e q = subst (λ o. IfSome o Q) e q

pub onto_some : {A B : Type 0} (o : Option A) (a : A) (go : A → Option B) (Q : B → Type 0) → o ≡ Some a → IsSomeAnd (go a) Q → IsSomeAnd (onto o go) Q
onto_some o a go Q e h = subst (λ o. IsSomeAnd (onto o go) Q) (sym e) h

pub onto_is : {A B : Type 0} (o : Option A) (a : A) (go : A → Option B) (c : Option B) → o ≡ Some a → go a ≡ c → onto o go ≡ c
onto_is o a go c e h = subst (λ o. onto o go ≡ c) (sym e) h

pub onto_in : {A B : Type 0} (o : Option A) (go : A → Option B) (P : A → Type 0) (Q : B → Type 0) → IfSome o P → ((a : A) → P a → IfSome (go a) Q) → IfSome (onto o go) Q
onto_in None go P Q h k = tt
onto_in (Some a) go P Q h k = k a h

pub onto_back : {A B : Type 0} (o : Option A) (go : A → Option B) (b : B) → onto o go ≡ Some b → (a : A) × (o ≡ Some a) × (go a ≡ Some b)
onto_back None go b e = absurd (cc)
onto_back (Some a) go b e = (a, refl, e)

pub some_same : {A : Type 0} (a b : A) → Some a ≡ Some b → a ≡ b
some_same a b e = cc

-- where the first has something, the second has what stands in the relation
abbrev pub OptTwo : {A B : Type 0} → (A → B → Type 0) → Option A → Option B → Type 0
OptTwo R None o = Unit {0}
OptTwo R (Some a) None = ⊥
OptTwo R (Some a) (Some b) = R a b

pub onto_two : {A B C D : Type 0} (R : A → B → Type 0) (S : C → D → Type 0) (o : Option A) (p : Option B) (f : A → Option C) (g : B → Option D) → OptTwo R o p → ((a : A) (b : B) → R a b → OptTwo S (f a) (g b)) → OptTwo S (onto o f) (onto p g)
onto_two R S None p f g h k = tt
onto_two R S (Some a) None f g h k = absurd h
onto_two R S (Some a) (Some b) f g h k = k a b h

pub if_two : {C D : Type 0} (S : C → D → Type 0) (a b : Bool) (o o' : Option C) (p p' : Option D) → b ≡ a → OptTwo S o p → OptTwo S o' p' → OptTwo S (if a then o else o') (if b then p else p')
if_two S true true o o' p p' e h k = h
if_two S false false o o' p p' e h k = k
if_two S true false o o' p p' e h k = absurd (cc)
if_two S false true o o' p p' e h k = absurd (cc)

-- ---- lists

module _ {A B : Type 0} (R : A → B → Type 0) where
  pub get_two : (xs : List A) (ys : List B) → AllTwo R xs ys → (n : ℕ) → OptTwo R (slice_get xs n) (slice_get ys n)
  get_two [] ys h n = tt
  get_two (x ∷ xs) [] h n = absurd h
  get_two (x ∷ xs) (y ∷ ys) h zero = h.0
  get_two (x ∷ xs) (y ∷ ys) h (suc n) = get_two xs ys h.1 n

  pub length_two : (xs : List A) (ys : List B) → AllTwo R xs ys → length xs ≡ length ys
  length_two [] [] h = refl
  length_two [] (y ∷ ys) h = absurd h
  length_two (x ∷ xs) [] h = absurd h
  length_two (x ∷ xs) (y ∷ ys) h = ap suc (length_two xs ys h.1)

  pub append_two : (xs xs' : List A) (ys ys' : List B) → AllTwo R xs ys → AllTwo R xs' ys' → AllTwo R (xs ++ xs') (ys ++ ys')
  append_two [] xs' [] ys' h k = k
  append_two [] xs' (y ∷ ys) ys' h k = absurd h
  append_two (x ∷ xs) xs' [] ys' h k = absurd h
  append_two (x ∷ xs) xs' (y ∷ ys) ys' h k = (h.0, append_two xs xs' ys ys' h.1 k)

  -- an item is replaced by one of the same kind
  pub replaced_two : (xs : List A) (ys : List B) (n : ℕ) (a : A) (b : B) → AllTwo R xs ys → slice_get xs n ≡ Some a → R a b → (zs : List B) × (replaced ys n b ≡ Some zs) × AllTwo R xs zs × (length zs ≡ length ys)
  replaced_two [] ys n a b h e r = absurd (cc)
  replaced_two (x ∷ xs) [] n a b h e r = absurd h
  replaced_two (x ∷ xs) (y ∷ ys) zero a b h e r = let is : x ≡ a = cc in (b ∷ ys, refl, (subst (λ x. R x b) (sym is) r, h.1), refl)
  replaced_two (x ∷ xs) (y ∷ ys) (suc n) a b h e r =
      let (zs, ez, hz, l) = replaced_two xs ys n a b h.1 e r in
      (y ∷ zs, onto_is (replaced ys n b) zs (λ zs. Some (y ∷ zs)) (Some (y ∷ zs)) ez refl, (h.0, hz), ap suc l)

  module _ (la : A → Bool) (lb : B → Bool) (same : (a : A) (b : B) → R a b → lb b ≡ la a) where
    abbrev SplitTwo : (List A × List A) → (List B × List B) → Type 0
    SplitTwo a b = AllTwo R a.0 b.0 × AllTwo R a.1 b.1

    split_two : (w : Width) (xs : List A) (ys : List B) → AllTwo R xs ys → OptTwo SplitTwo (split la w xs) (split lb w ys)
    split_two Zero xs ys h = (tt, h)
    split_two One [] ys h = tt
    split_two One (x ∷ xs) [] h = absurd h
    split_two One (x ∷ xs) (y ∷ ys) h = if_two SplitTwo (la x) (lb y) _ _ _ _ (same x y h.0) tt ((h.0, tt), h.1)
    split_two Two [] ys h = tt
    split_two Two (x ∷ xs) [] h = absurd h
    split_two Two (x ∷ []) (y ∷ []) h = if_two SplitTwo (la x) (lb y) _ _ _ _ (same x y h.0) ((h.0, tt), h.1) tt
    split_two Two (x ∷ []) (y ∷ y' ∷ ys) h = absurd h.1
    split_two Two (x ∷ x' ∷ xs) (y ∷ []) h = absurd h.1
    split_two Two (x ∷ x' ∷ xs) (y ∷ y' ∷ ys) h =
        if_two SplitTwo (la x) (lb y) _ _ _ _ (same x y h.0) ((h.0, tt), h.1)
        (if_two SplitTwo (la x') (lb y') _ _ _ _ (same x' y' h.1.0) tt ((h.0, (h.1.0, tt)), h.1.1))

    shuffled_two : (f : StackForm) (a b c : List A) (a' b' c' : List B) → AllTwo R a a' → AllTwo R b b' → AllTwo R c c' → AllTwo R (shuffled f a b c) (shuffled f a' b' c')
    shuffled_two Drop a b c a' b' c' h k l = l
    shuffled_two Copy a b c a' b' c' h k l =
        append_two ((a ++ b) ++ a) c ((a' ++ b') ++ a') c' (append_two (a ++ b) a (a' ++ b') a' (append_two a b a' b' h k) h) l
    shuffled_two Swap a b c a' b' c' h k l = append_two (b ++ a) c (b' ++ a') c' (append_two b a b' a' k h) l

    pub shuffle_two : (f : StackForm) (u l : Width) (xs : List A) (ys : List B) → AllTwo R xs ys → OptTwo (AllTwo R) (shuffle la f u l xs) (shuffle lb f u l ys)
    shuffle_two f u l xs ys h =
        onto_two SplitTwo (AllTwo R) (split la u xs) (split lb u ys) _ _ (split_two u xs ys h)
        (λ a b r. onto_two SplitTwo (AllTwo R) (split la l a.1) (split lb l b.1) _ _ (split_two l a.1 b.1 r.1)
        (λ a' b' r'. shuffled_two f a.0 a'.0 a'.1 b.0 b'.0 b'.1 r.0 r'.0 r'.1))

  -- the local variables of a method, where an item need not be as wide as its type says
  module _ (la : A → Bool) (lb : B → Bool) (top : A) (unset : B) (any : R top unset) where
    pub padded_two : (n : ℕ) (xs : List A) (ys : List B) → AllTwo R xs ys → OptTwo (AllTwo R) (padded top n xs) (padded unset n ys)
    padded_two zero [] [] h = tt
    padded_two zero [] (y ∷ ys) h = absurd h
    padded_two zero (x ∷ xs) ys h = tt
    padded_two (suc n) [] [] h = onto_two (AllTwo R) (AllTwo R) (padded top n []) (padded unset n []) _ _ (padded_two n [] [] tt) (λ c d k. (any, k))
    padded_two (suc n) [] (y ∷ ys) h = absurd h
    padded_two (suc n) (x ∷ xs) [] h = absurd h
    padded_two (suc n) (x ∷ xs) (y ∷ ys) h = onto_two (AllTwo R) (AllTwo R) (padded top n xs) (padded unset n ys) _ _ (padded_two n xs ys h.1) (λ c d k. (h.0, k))

    -- arguments that are as wide as their types
    spread_one : (a : A) (b : B) (l m : Bool) (xs : List A) (ys : List B) → m ≡ l → R a b → AllTwo R xs ys → AllTwo R (if l then a ∷ top ∷ xs else a ∷ xs) (if m then b ∷ unset ∷ ys else b ∷ ys)
    spread_one a b true true xs ys e r h = (r, (any, h))
    spread_one a b false false xs ys e r h = (r, h)
    spread_one a b true false xs ys e r h = absurd (cc)
    spread_one a b false true xs ys e r h = absurd (cc)

    pub spread_two : (xs : List A) (ys : List B) → AllTwo (λ a b. R a b × (lb b ≡ la a)) xs ys → AllTwo R (spread la top xs) (spread lb unset ys)
    spread_two [] [] h = tt
    spread_two [] (y ∷ ys) h = absurd h
    spread_two (x ∷ xs) [] h = absurd h
    spread_two (x ∷ xs) (y ∷ ys) h = spread_one x y (la x) (lb y) _ _ h.0.1 h.0.0 (spread_two xs ys h.1)

pub map_two : {A B C D : Type 0} (R : A → B → Type 0) (S : C → D → Type 0) (f : A → C) (g : B → D) (step : (a : A) (b : B) → R a b → S (f a) (g b)) (xs : List A) (ys : List B) → AllTwo R xs ys → AllTwo S (map f xs) (map g ys)
map_two R S f g step [] [] h = tt
map_two R S f g step [] (y ∷ ys) h = absurd h
map_two R S f g step (x ∷ xs) [] h = absurd h
map_two R S f g step (x ∷ xs) (y ∷ ys) h = (step x y h.0, map_two R S f g step xs ys h.1)

-- the same lists in another relation
pub weaken_two : {A B : Type 0} (R S : A → B → Type 0) (step : (a : A) (b : B) → R a b → S a b) (xs : List A) (ys : List B) → AllTwo R xs ys → AllTwo S xs ys
weaken_two R S step [] [] h = tt
weaken_two R S step [] (y ∷ ys) h = absurd h
weaken_two R S step (x ∷ xs) [] h = absurd h
weaken_two R S step (x ∷ xs) (y ∷ ys) h = (step x y h.0, weaken_two R S step xs ys h.1)

-- other types for the same values
pub retype_two : {A B C : Type 0} (R : A → B → Type 0) (S : C → B → Type 0) (f : A → C) (step : (a : A) (b : B) → R a b → S (f a) b) (xs : List A) (ys : List B) → AllTwo R xs ys → AllTwo S (map f xs) ys
retype_two R S f step [] [] h = tt
retype_two R S f step [] (y ∷ ys) h = absurd h
retype_two R S f step (x ∷ xs) [] h = absurd h
retype_two R S f step (x ∷ xs) (y ∷ ys) h = (step x y h.0, retype_two R S f step xs ys h.1)

-- types that the test takes for others, for the same values
pub widen_two : {A C B : Type 0} (test : A → C → Bool) (R : A → B → Type 0) (S : C → B → Type 0) (step : (a : A) (c : C) (b : B) → Holds (test a c) → R a b → S c b) (xs : List A) (zs : List C) (ys : List B) → Holds (all_two test xs zs) → AllTwo R xs ys → AllTwo S zs ys
widen_two test R S step [] [] [] t h = tt
widen_two test R S step [] [] (y ∷ ys) t h = absurd h
widen_two test R S step [] (z ∷ zs) ys t h = absurd t
widen_two test R S step (x ∷ xs) [] ys t h = absurd t
widen_two test R S step (x ∷ xs) (z ∷ zs) [] t h = absurd h
widen_two test R S step (x ∷ xs) (z ∷ zs) (y ∷ ys) t h = (step x z y (both_left (test x z) _ t) h.0, widen_two test R S step xs zs ys (both_right (test x z) _ t) h.1)
