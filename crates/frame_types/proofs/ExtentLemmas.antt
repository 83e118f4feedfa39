-- Extents of local variables that are taken away or follow; and what fits a method.
use Rattle.std.proofs.Common.{◌≡◌, ℕ, zero, suc, ◌+◌, ◌-◌, ◌<◌, ◌≤◌, Bool, true, false, ◌&&◌, ◌||◌, List, [], ◌∷◌, ◌++◌, ◌⊎◌, length, take, drop, Some, refl, sym, ap, ◌∙◌, inl, inr, arith}
use Rattle.std.specs.Prelude.{nat_le, map, slice_get}
use Rattle.std.specs.List.{list_all, list_any}
use Rattle.std.proofs.lemmas.Bool.{leb-true}
use Rattle.std.proofs.lemmas.List.{take-append-drop}
use Rattle.std.proofs.lemmas.List.Folds.{list_all-map}
use Rattle.std.proofs.lemmas.List.Sums.{sum_by-cons, sum_by-append}
use Rattle.lists.proofs.Lemmas.{none≢some, some_same}
use Rattle.lists.specs.Tests.{and_left, and_right}
use Rattle.class_pool.specs.declared.entry.Entry.{Entry}
use Rattle.frame_types.specs.declared.types.VarType.{VarType}
use Rattle.frame_types.specs.declared.steps.EntryType.{EntryType}
use Rattle.frame_types.specs.declared.steps.EntryType.TheVariants.{Top, Integer, Long, Null, UninitializedThis, Object, Uninitialized}
use Rattle.frame_types.specs.declared.steps.FirstLocal.{FirstLocal}
use Rattle.frame_types.specs.declared.extents.Extent.{Extent}
use Rattle.frame_types.specs.Types.{words_of, stack_words, is_this, names_new}
use Rattle.frame_types.specs.Steps.{named, first_local}
use Rattle.frame_types.specs.Extents.{shape, extent_behind, extents_behind, last_extent, first_words, first_extents, fit}
use Rattle.frame_types.proofs.GivenLemmas.{all_append, nat_cases}

-- ---- types without the names of classes

words_same : (pool : List Entry) (t : EntryType) → words_of (named pool t) ≡ words_of (shape t)
words_same pool Top = refl
words_same pool Integer = refl
words_same pool Long = refl
words_same pool Null = refl
words_same pool UninitializedThis = refl
words_same pool (Object index) = refl
words_same pool (Uninitialized place) = refl

news_same : (code : List ℕ) (pool : List Entry) (t : EntryType) → names_new code (named pool t) ≡ names_new code (shape t)
news_same code pool Top = refl
news_same code pool Integer = refl
news_same code pool Long = refl
news_same code pool Null = refl
news_same code pool UninitializedThis = refl
news_same code pool (Object index) = refl
news_same code pool (Uninitialized place) = refl

extent_same : (pool : List Entry) (x : Extent) (t : EntryType) → extent_behind x (named pool t) ≡ extent_behind x (shape t)
extent_same pool x Top = refl
extent_same pool x Integer = refl
extent_same pool x Long = refl
extent_same pool x Null = refl
extent_same pool x UninitializedThis = refl
extent_same pool x (Object index) = refl
extent_same pool x (Uninitialized place) = refl

words_all : (pool : List Entry) (ts : List EntryType) → stack_words (map (named pool) ts) ≡ stack_words (map shape ts)
words_all pool [] = refl
words_all pool (t ∷ ts) =
    let a = sum_by-cons words_of (named pool t) (map (named pool) ts) in
    let b = sum_by-cons words_of (shape t) (map shape ts) in
    let c = words_same pool t in
    let d = words_all pool ts in
    omega (arith, a, b, c, d)

news_all : (code : List ℕ) (pool : List Entry) (ts : List EntryType) → list_all (names_new code) (map (named pool) ts) ≡ list_all (names_new code) (map shape ts)
news_all code pool [] = refl
news_all code pool (t ∷ ts) =
    ap (λ b. b && list_all (names_new code) (map (named pool) ts)) (news_same code pool t) ∙ ap (λ b. names_new code (shape t) && b) (news_all code pool ts)

pub fit_all : (code : List ℕ) (most : ℕ) (pool : List Entry) (ts : List EntryType) → fit code most (map (named pool) ts) ≡ fit code most (map shape ts)
fit_all code most pool ts =
    ap (λ (n : ℕ). nat_le n most && list_all (names_new code) (map (named pool) ts)) (words_all pool ts) ∙ ap (λ b. nat_le (stack_words (map shape ts)) most && b) (news_all code pool ts)

pub extents_all : (pool : List Entry) (x : Extent) (ts : List EntryType) → extents_behind x (map (named pool) ts) ≡ extents_behind x (map shape ts)
extents_all pool x [] = refl
extents_all pool x (t ∷ ts) =
    ap (λ (y : Extent). y ∷ extents_behind y (map (named pool) ts)) (extent_same pool x t) ∙ ap (λ (l : List Extent). extent_behind x (shape t) ∷ l) (extents_all pool (extent_behind x (shape t)) ts)

pub all_shapes : (code : List ℕ) (ts : List EntryType) → list_all (names_new code) (map shape ts) ≡ list_all (λ t. names_new code (shape t)) ts
all_shapes code ts = list_all-map (names_new code) shape ts

-- ---- extents

-- the last of them
pub last_there : (w x : Extent) (es : List Extent) → Some x ≡ slice_get es (length es - 1) → x ≡ last_extent w es
last_there w x [] h = absurd (none≢some x (sym h))
last_there w x (y ∷ []) h = some_same x y h
last_there w x (y ∷ z ∷ zs) h =
    let n : length (y ∷ z ∷ zs) - 1 ≡ suc (length (z ∷ zs) - 1) = omega arith in
    last_there y x (z ∷ zs) (h ∙ ap (slice_get (y ∷ z ∷ zs)) n)

pub extents_append : (x : Extent) (ts us : List VarType) → extents_behind x (ts ++ us) ≡ extents_behind x ts ++ extents_behind (last_extent x (extents_behind x ts)) us
extents_append x [] us = refl
extents_append x (t ∷ ts) us = ap (λ (l : List Extent). extent_behind x t ∷ l) (extents_append (extent_behind x t) ts us)

pub extents_take : (n : ℕ) (x : Extent) (ts : List VarType) → take n (extents_behind x ts) ≡ extents_behind x (take n ts)
extents_take zero x [] = refl
extents_take zero x (t ∷ ts) = refl
extents_take (suc n) x [] = refl
extents_take (suc n) x (t ∷ ts) = ap (λ (l : List Extent). extent_behind x t ∷ l) (extents_take n (extent_behind x t) ts)

pub extents_long : (x : Extent) (ts : List VarType) → length (extents_behind x ts) ≡ length ts
extents_long x [] = refl
extents_long x (t ∷ ts) = ap suc (extents_long (extent_behind x t) ts)

pub last_left : (x : Extent) (ts : List VarType) → (last_extent x (extents_behind x ts)).left ≡ x.left - stack_words ts
last_left x [] = omega arith
last_left x (t ∷ ts) =
    let a = last_left (extent_behind x t) ts in
    let b = sum_by-cons words_of t ts in
    omega (arith, a, b)

-- of the local variables with which a method begins
pub firsts_behind : (x : Extent) (ts : List VarType) → first_extents x (map first_local ts) ≡ extents_behind x ts
firsts_behind x [] = refl
firsts_behind x (t ∷ ts) = ap (λ (l : List Extent). extent_behind x t ∷ l) (firsts_behind (extent_behind x t) ts)

pub firsts_words : (ts : List VarType) → first_words (map first_local ts) ≡ stack_words ts
firsts_words [] = refl
firsts_words (t ∷ ts) =
    let a = sum_by-cons (λ (f : FirstLocal). f.words) (first_local t) (map first_local ts) in
    let b = sum_by-cons words_of t ts in
    let c = firsts_words ts in
    omega (arith, a, b, c)

or_none : (a : Bool) → a ≡ (a || false)
or_none true = refl
or_none false = refl

or_group : (a b c : Bool) → ((a || b) || c) ≡ (a || (b || c))
or_group true b c = refl
or_group false b c = refl

pub last_this : (x : Extent) (ts : List VarType) → (last_extent x (extents_behind x ts)).this ≡ (x.this || list_any is_this ts)
last_this x [] = or_none x.this
last_this x (t ∷ ts) = last_this (extent_behind x t) ts ∙ or_group x.this (is_this t) (list_any is_this ts)

-- ---- what fits

le_moved : (a b m : ℕ) → a ≤ m → nat_le b (m - a) ≡ nat_le (a + b) m
le_moved a b m h = by (nat_cases (a + b) m)
  where
    by : ((a + b) ≤ m) ⊎ (m < a + b) → nat_le b (m - a) ≡ nat_le (a + b) m
    by (inl l) = let p : nat_le b (m - a) ≡ true = grind (arith, l, h) in let q : nat_le (a + b) m ≡ true = grind (arith, l) in p ∙ sym q
    by (inr l) = let p : nat_le b (m - a) ≡ false = grind (arith, l, h) in let q : nat_le (a + b) m ≡ false = grind (arith, l) in p ∙ sym q

pub fit_room : (code : List ℕ) (most : ℕ) (ts : List VarType) → fit code most ts ≡ true → stack_words ts ≤ most
fit_room code most ts h = leb-true (stack_words ts) most (and_left (nat_le (stack_words ts) most) (list_all (names_new code) ts) h)

-- what follows fits where it fits what is left
pub fit_behind : (code : List ℕ) (most : ℕ) (ts us : List VarType) → fit code most ts ≡ true → fit code (most - stack_words ts) us ≡ fit code most (ts ++ us)
fit_behind code most ts us h =
    let news = and_right (nat_le (stack_words ts) most) (list_all (names_new code) ts) h in
    let words : nat_le (stack_words us) (most - stack_words ts) ≡ nat_le (stack_words (ts ++ us)) most =
    le_moved (stack_words ts) (stack_words us) most (fit_room code most ts h) ∙ ap (λ (n : ℕ). nat_le n most) (sym (sum_by-append words_of ts us))
    in
    let all : list_all (names_new code) us ≡ list_all (names_new code) (ts ++ us) = sym (all_append code ts us ∙ ap (λ b. b && list_all (names_new code) us) news) in
    ap (λ b. b && list_all (names_new code) us) words ∙ ap (λ b. nat_le (stack_words (ts ++ us)) most && b) all

both : (a b : Bool) → a ≡ true → b ≡ true → (a && b) ≡ true
both true b p q = q
both false b p q = p

-- a front of what fits does
pub fit_front : (code : List ℕ) (most n : ℕ) (ts : List VarType) → fit code most ts ≡ true → fit code most (take n ts) ≡ true
fit_front code most n ts h =
    let parts = take-append-drop n ts in
    let room = fit_room code most ts h in
    let one = sum_by-append words_of (take n ts) (drop n ts) in
    let two = ap stack_words parts in
    let sum : stack_words (take n ts) + stack_words (drop n ts) ≡ stack_words ts = omega (arith, one, two) in
    let words : nat_le (stack_words (take n ts)) most ≡ true = grind (arith, room, sum) in
    let news = sym (all_append code (take n ts) (drop n ts)) ∙ (ap (list_all (names_new code)) parts ∙ and_right (nat_le (stack_words ts) most) (list_all (names_new code) ts) h) in
    both (nat_le (stack_words (take n ts)) most) (list_all (names_new code) (take n ts)) words (and_left (list_all (names_new code) (take n ts)) (list_all (names_new code) (drop n ts)) news)
