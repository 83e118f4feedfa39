-- The first of the parts that the items of a list give, found item by item.
use Rattle.std.proofs.Common.{◌≡◌, ℕ, zero, suc, ◌+◌, ◌<◌, ◌≤◌, List, [], ◌∷◌, ◌++◌, map, length, take, get_or, take_all, Option, Some, None, refl, sym, ap}
use Rattle.std.proofs.Common.{◌∙◌, ap₂, subst, append_assoc, append-nil, arith}
use Rattle.std.specs.Prelude.{Result, Ok, Err, IfOk}
use Rattle.std.specs.Option.{option_or, option_map, option_to_list}
use Rattle.std.specs.List.{flat_map, enumerate_from}
use Rattle.std.proofs.lemmas.Grind.{take_at_read}
use Rattle.lists.specs.Lists.{first}

-- ---- two lists

pub first-append : {A : Type 0} (xs ys : List A) → first (xs ++ ys) ≡ option_or (first xs) (first ys)
first-append [] ys = refl
first-append (x ∷ xs) ys = refl

pub first-none : {A : Type 0} (xs : List A) → first xs ≡ None → xs ≡ []
first-none [] h = refl
first-none (x ∷ xs) h = absurd (let f : Some x ≡ None = h in cc)

pub first-map : {A B : Type 0} (f : A → B) (xs : List A) → first (map f xs) ≡ option_map f (first xs)
first-map f [] = refl
first-map f (x ∷ xs) = refl

pub first-to_list : {A : Type 0} (o : Option A) → first (option_to_list o) ≡ o
first-to_list None = refl
first-to_list (Some x) = refl

-- the first of two lists where the first has none, and where it has one
pub first-behind : {A : Type 0} (xs ys : List A) → first xs ≡ None → first (xs ++ ys) ≡ first ys
first-behind [] ys h = refl
first-behind (x ∷ xs) ys h = absurd (let f : Some x ≡ None = h in cc)

pub first-before : {A : Type 0} (xs ys : List A) (x : A) → first xs ≡ Some x → first (xs ++ ys) ≡ Some x
first-before [] ys x h = absurd (let f : None ≡ Some x = h in cc)
first-before (z ∷ xs) ys x h = h

-- ---- the parts that the items of a list give

pub flat_map-more : {X Y : Type 0} (f : X → List Y) (xs : List X) (x : X) → flat_map f (xs ++ x ∷ []) ≡ flat_map f xs ++ f x
flat_map-more f [] x = append-nil (f x)
flat_map-more f (y ∷ xs) x = ap (λ zs. f y ++ zs) (flat_map-more f xs x) ∙ sym (append_assoc (f y) (flat_map f xs) (f x))

pub flat_map-append : {X Y : Type 0} (f : X → List Y) (xs ys : List X) → flat_map f (xs ++ ys) ≡ flat_map f xs ++ flat_map f ys
flat_map-append f [] ys = refl
flat_map-append f (x ∷ xs) ys = ap (λ zs. f x ++ zs) (flat_map-append f xs ys) ∙ sym (append_assoc (f x) (flat_map f xs) (flat_map f ys))

take_next : {X : Type 0} (xs : List X) (i : ℕ) (x d : X) → i < length xs → x ≡ get_or xs i d → take (i + 1) xs ≡ take i xs ++ x ∷ []
take_next xs i x d lt is = (take_at_read xs i d lt).1 ∙ ap (λ z. take i xs ++ z ∷ []) (sym is)

-- one item more gives nothing
pub still_none : {X Y : Type 0} (f : X → List Y) (xs : List X) (i : ℕ) (x d : X) → i < length xs → x ≡ get_or xs i d → flat_map f (take i xs) ≡ []
    → first (f x) ≡ None → flat_map f (take (i + 1) xs) ≡ []
still_none f xs i x d lt is so_far none =
    ap (flat_map f) (take_next xs i x d lt is) ∙ (flat_map-more f (take i xs) x ∙ (ap (λ ys. ys ++ f x) so_far ∙ first-none (f x) none))

-- nothing before an item, and something of it
found_case : {X Y : Type 0} (f : X → List Y) (xs : List X) (i : ℕ) (x d : X) (y : Y) → i < length xs → x ≡ get_or xs i d → flat_map f (take i xs) ≡ []
    → first (f x) ≡ Some y → first (flat_map f xs) ≡ Some y
found_case f [] i x d y lt is none one = absurd (omega arith)
found_case f (z ∷ xs) zero x d y lt is none one = first-before (f z) (flat_map f xs) y (subst (λ (w : _). first (f w) ≡ Some y) is one)
found_case f (z ∷ xs) (suc i) x d y lt is none one =
    let here : f z ≡ [] = left_none (f z) (flat_map f (take i xs)) none in
    let later : flat_map f (take i xs) ≡ [] = right_none (f z) (flat_map f (take i xs)) none in
    let rest : first (flat_map f xs) ≡ Some y = found_case f xs i x d y (omega arith) is later one in
    ap (λ ys. first (ys ++ flat_map f xs)) here ∙ rest
  where
    left_none : {A : Type 0} (xs ys : List A) → xs ++ ys ≡ [] → xs ≡ []
    left_none [] ys h = refl
    left_none (x ∷ xs) ys h = absurd (let f : (x ∷ (xs ++ ys)) ≡ [] = h in cc)

    right_none : {A : Type 0} (xs ys : List A) → xs ++ ys ≡ [] → ys ≡ []
    right_none [] ys h = h
    right_none (x ∷ xs) ys h = absurd (let f : (x ∷ (xs ++ ys)) ≡ [] = h in cc)

pub found_here : {X Y : Type 0} (f : X → List Y) (xs : List X) (i : ℕ) (x d : X) (y : Y) → i < length xs → x ≡ get_or xs i d → flat_map f (take i xs) ≡ []
    → first (f x) ≡ Some y → first (flat_map f xs) ≡ Some y
found_here f xs i x d y lt is none one = found_case f xs i x d y lt is none one

-- nothing of all items
pub none_at_all : {X Y : Type 0} (f : X → List Y) (xs : List X) (i : ℕ) → length xs ≤ i → flat_map f (take i xs) ≡ [] → flat_map f xs ≡ []
none_at_all f xs i past so_far = sym (ap (flat_map f) (take_all i xs past)) ∙ so_far

pub none_first : {X Y : Type 0} (f : X → List Y) (xs : List X) (i : ℕ) → length xs ≤ i → flat_map f (take i xs) ≡ [] → first (flat_map f xs) ≡ None
none_first f xs i past so_far = ap first (none_at_all f xs i past so_far)

-- ---- numbered items

pub length-enumerate : {X : Type 0} (n : ℕ) (xs : List X) → length (enumerate_from n xs) ≡ length xs
length-enumerate n [] = refl
length-enumerate n (x ∷ xs) = ap suc (length-enumerate (n + 1) xs)

pub numbered : {X : Type 0} (n : ℕ) (xs : List X) (i : ℕ) (x : X) (d : ℕ × X) → i < length xs → x ≡ get_or xs i x
    → (n + i, x) ≡ get_or (enumerate_from n xs) i d
numbered n [] i x d lt is = absurd (omega arith)
numbered n (y ∷ xs) zero x d lt is = let same : n + 0 ≡ n = omega arith in ap₂ (λ (a : ℕ) (b : _). (a, b)) same is
numbered n (y ∷ xs) (suc i) x d lt is =
    let same : n + suc i ≡ n + 1 + i = omega arith in
    let less : i < length xs = omega arith in
    ap (λ (a : ℕ). (a, x)) same ∙ numbered (n + 1) xs i x d less is

-- the items are looked at in turn, with their numbers
number_is : {X : Type 0} (ms : List X) (i n : ℕ) (m : X) → i < length ms → m ≡ get_or ms i m → n ≡ i → (n, m) ≡ get_or (enumerate_from 0 ms) n (n, m)
number_is ms i n m lt is same =
    let e : n ≡ 0 + i = omega arith in
    ap (λ (k : ℕ). (k, m)) e ∙ (numbered 0 ms i m (n, m) lt is ∙ ap (λ (k : ℕ). get_or (enumerate_from 0 ms) k (n, m)) (sym same))

number_in : {X : Type 0} (ms : List X) (i n : ℕ) → i < length ms → n ≡ i → n < length (enumerate_from 0 ms)
number_in ms i n lt same = let long = length-enumerate 0 ms in omega (arith, long, lt, same)

pub found_number : {X Y : Type 0} (f : ℕ × X → List Y) (ms : List X) (i n : ℕ) (m : X) (y : Y) → i < length ms → m ≡ get_or ms i m → n ≡ i
    → flat_map f (take n (enumerate_from 0 ms)) ≡ [] → first (f (n, m)) ≡ Some y → first (flat_map f (enumerate_from 0 ms)) ≡ Some y
found_number f ms i n m y lt is same none one = found_here f (enumerate_from 0 ms) n (n, m) (n, m) y (number_in ms i n lt same)
    (number_is ms i n m lt is same) none one

pub none_number : {X Y : Type 0} (f : ℕ × X → List Y) (ms : List X) (i n : ℕ) (m : X) → i < length ms → m ≡ get_or ms i m → n ≡ i
    → flat_map f (take n (enumerate_from 0 ms)) ≡ [] → first (f (n, m)) ≡ None → flat_map f (take (n + 1) (enumerate_from 0 ms)) ≡ []
none_number f ms i n m lt is same none one = still_none f (enumerate_from 0 ms) n (n, m) (n, m) (number_in ms i n lt same)
    (number_is ms i n m lt is same) none one

pub none_numbered : {X Y : Type 0} (f : ℕ × X → List Y) (ms : List X) (i n : ℕ) → length ms ≤ i → n ≡ i → flat_map f (take n (enumerate_from 0 ms)) ≡ []
    → first (flat_map f (enumerate_from 0 ms)) ≡ None
none_numbered f ms i n past same none = let long = length-enumerate 0 ms in none_first f (enumerate_from 0 ms) n (omega (arith, long, past, same)) none

-- ---- what is the same

pub ok_same : {T E : Type 0} (r : Result T E) (a b : T) → a ≡ b → IfOk r (λ x. x ≡ a) → IfOk r (λ x. x ≡ b)
ok_same (Ok x) a b e h = h ∙ e
ok_same (Err x) a b e h = tt
