-- Items at their first mention, one after another.
use Rattle.std.proofs.Common.{◌≡◌, ℕ, zero, suc, ◌+◌, ◌<◌, ◌==◌, Bool, true, false, not, ◌||◌, List, [], ◌∷◌, ◌++◌, map, take, get_or, length, append_assoc, append-nil, Option, Some, None, Result, Ok, Err, refl, sym, ap, ap₂, ◌∙◌, cond, ◌&&◌, ◌≤◌, add-one, arith}
use Rattle.std.specs.Prelude.{if◌then◌else◌}
use Rattle.std.specs.Option.{option_map, option_map_or}
use Rattle.std.specs.Bool.{Decides}
use Rattle.std.specs.List.{filter, filter_map, flat_map, list_any, list_all, cons_option, range_with_len}
use Rattle.std.proofs.lemmas.Bool.{false≢true, ne_eqb}
use Rattle.std.proofs.lemmas.List.{map-append}
use Rattle.std.proofs.lemmas.Bool.Decides.{Decides-eqb, Decides-like, same_from_decides}
use lib.Pointwise.{bytes_decides}
use Rattle.class_pool.specs.declared.class.Code.{Code}
use Rattle.class_pool.specs.declared.class.Member.{Member}
use Rattle.class_pool.specs.Found.{code_of}
use Rattle.class_pool.specs.declared.class.ClassFile.{ClassFile}
use Rattle.program_tables.specs.Instructions.{Placed, placed_at, instructions_in, instructions_of, named_in}
use Rattle.program_tables.specs.Numbers.{reference_arrays, used_by, class_kind, arrays_mentioned_by, arrays_mentioned_in, first_types, types_of, strings_in, strings_of}
use Rattle.opcodes.specs.declared.instruction.Instr.{Instr}
use Rattle.opcodes.specs.Instruction.{decoded}
use Rattle.opcodes.specs.Start.{starts_of}
use Rattle.bytecode_model.specs.Program.{as_instr}
use Rattle.bytecode_model.specs.Types.{Kind, OfClass, OfNumbers, OfReferences, same_kind}
use Rattle.class_lookup.specs.Parts.{same_text}
use Rattle.program_tables.specs.declared.kinds.Base.{Base}
use Rattle.program_tables.specs.declared.kinds.Base.TheVariants.{Class, Numbers}
use Rattle.program_tables.specs.declared.kinds.ObjectKind.{ObjectKind}
use Rattle.program_tables.specs.Kinds.{arrays_of}
use Rattle.program_tables.specs.Lists.{distinct, with_item, with_items}
use Rattle.program_tables.specs.Tables.{base_kind, kind_seen}
pub use Rattle.class_lookup.proofs.Mentions.{with_items-append, next_of, next_part, outside, any_more, with_items-distinct, first_mentions}

-- the instructions of one method more
pub next_method : {Y : Type 0} (same : Y → Y → Bool) (f : Placed → List Y) (ms : List Member) (i : ℕ) (m : Member) (old ks after : List Y) (o : Option Code) → i < length ms → m ≡ get_or ms i m
    → ks ≡ with_items same old (flat_map (λ x. flat_map f (instructions_of x)) (take i ms)) → code_of m ≡ o
    → after ≡ with_items same ks (flat_map f (option_map_or (λ k. instructions_in k.code) o []))
    → after ≡ with_items same old (flat_map (λ x. flat_map f (instructions_of x)) (take (i + 1) ms))
next_method same f ms i m old ks after o lt is h e g =
    next_part same (λ x. flat_map f (instructions_of x)) ms i m old ks after lt is h
    (g ∙ ap (λ x. with_items same ks (flat_map f (option_map_or (λ k. instructions_in k.code) x []))) (sym e))

-- the parts of what a part may give
pub parts_of_some : {X Y Z : Type 0} (f : Y → List Z) (g : X → Option Y) (xs : List X) → flat_map f (filter_map g xs) ≡ flat_map (λ x. option_map_or f (g x) []) xs
parts_of_some f g [] = refl
parts_of_some f g (x ∷ xs) = some_case (g x) ∙ ap (λ zs. option_map_or f (g x) [] ++ zs) (parts_of_some f g xs)
  where
    some_case : (o : Option _) → flat_map f (cons_option o (filter_map g xs)) ≡ option_map_or f o [] ++ flat_map f (filter_map g xs)
    some_case None = refl
    some_case (Some y) = refl

-- one place more of a code
pub next_place : {Y : Type 0} (same : Y → Y → Bool) (f : Placed → List Y) (code ps : List ℕ) (i pc : ℕ) (old ks after : List Y) (o : Option Instr) → i < length ps → pc ≡ get_or ps i 0
    → ks ≡ with_items same old (flat_map (λ q. option_map_or f (placed_at code q) []) (take i ps)) → as_instr (decoded code pc) ≡ o
    → after ≡ with_items same ks (option_map_or f (option_map (λ x. record { pc = pc; instr = x }) o) [])
    → after ≡ with_items same old (flat_map (λ q. option_map_or f (placed_at code q) []) (take (i + 1) ps))
next_place same f code ps i pc old ks after o lt is h e g =
    next_of same (λ q. option_map_or f (placed_at code q) []) ps i pc 0 old ks after lt is h
    (g ∙ ap (λ x. with_items same ks (option_map_or f (option_map (λ y. record { pc = pc; instr = y }) x) [])) (sym e))

pub all_places : {Y : Type 0} (f : Placed → List Y) (code : List ℕ) → flat_map (λ q. option_map_or f (placed_at code q) []) (starts_of code) ≡ flat_map f (instructions_in code)
unfolding instructions_in
all_places f code = sym (parts_of_some f (placed_at code) (starts_of code))

-- ---- kinds are told apart

pub kind_decides : (k l : Kind) → Decides (same_kind k l) (k ≡ l)
kind_decides (OfClass c) (OfClass d) = Decides-like (c == d) (λ e. ap OfClass e) (λ e. (cc)) (Decides-eqb c d)
kind_decides (OfNumbers a) (OfNumbers b) = Decides-like (a == b) (λ e. ap OfNumbers e) (λ e. (cc)) (Decides-eqb a b)
kind_decides (OfReferences k) (OfReferences l) = Decides-like (same_kind k l) (λ e. ap OfReferences e) (λ e. (cc)) (kind_decides k l)
kind_decides k l = (λ t. absurd (let f : false ≡ true = t in cc), λ e. absurd (cc))

depth : Kind → ℕ
depth (OfReferences k) = suc (depth k)
depth k = 0

core : Kind → Kind
core (OfReferences k) = core k
core k = k

depth_is : (n : ℕ) (b : Base) → depth (arrays_of n (base_kind b)) ≡ n
unfolding depth
depth_is zero (Class c) = refl
depth_is zero (Numbers a) = refl
depth_is (suc n) b = ap suc (depth_is n b)

core_is : (n : ℕ) (b : Base) → core (arrays_of n (base_kind b)) ≡ base_kind b
unfolding core
core_is zero (Class c) = refl
core_is zero (Numbers a) = refl
core_is (suc n) b = core_is n b

base_same : (a b : Base) → base_kind a ≡ base_kind b → a ≡ b
base_same (Class c) (Class d) e = ap Class (let f : OfClass c ≡ OfClass d = e in cc)
base_same (Numbers c) (Numbers d) e = ap Numbers (let f : OfNumbers c ≡ OfNumbers d = e in cc)
base_same (Class c) (Numbers d) e = absurd (let f : OfClass c ≡ OfNumbers d = e in cc)
base_same (Numbers c) (Class d) e = absurd (let f : OfNumbers c ≡ OfClass d = e in cc)

pub kind_seen_same : (k l : ObjectKind) → kind_seen k ≡ kind_seen l → k ≡ l
kind_seen_same k l e =
    let dimensions : k.dimensions ≡ l.dimensions = sym (depth_is k.dimensions k.base) ∙ (ap depth e ∙ depth_is l.dimensions l.base) in
    let base = base_same k.base l.base (sym (core_is k.dimensions k.base) ∙ (ap core e ∙ core_is l.dimensions l.base)) in
    ap₂ (λ (n : ℕ) (b : Base). let kind : ObjectKind = record { dimensions = n; base = b } in kind) dimensions base

-- ---- sets of kinds

set_any : {K V : Type 0} (f : K → V) (eq : K → K → Bool) (same : V → V → Bool) → ((x y : K) → eq x y ≡ same (f x) (f y)) → (x : K) (ks : List K)
    → list_any (eq x) ks ≡ list_any (same (f x)) (map f ks)
set_any f eq same h x [] = refl
set_any f eq same h x (k ∷ ks) = ap₂ (λ (a b : Bool). a || b) (h x k) (set_any f eq same h x ks)

chosen_map : {K V : Type 0} (f : K → V) (ks : List K) (x : K) (b : Bool) → map f (if b then ks else ks ++ x ∷ []) ≡ (if b then map f ks else map f ks ++ f x ∷ [])
chosen_map f ks x true = refl
chosen_map f ks x false = map-append f ks (x ∷ [])

pub set_with : {K V : Type 0} (f : K → V) (eq : K → K → Bool) (same : V → V → Bool) → ((x y : K) → eq x y ≡ same (f x) (f y)) → (ks : List K) (x : K)
    → map f (if list_any (eq x) ks then ks else ks ++ x ∷ []) ≡ with_item same (map f ks) (f x)
set_with f eq same h ks x =
    chosen_map f ks x (list_any (eq x) ks) ∙ ap (λ (b : Bool). if b then map f ks else map f ks ++ f x ∷ []) (set_any f eq same h x ks)

pub kind_eq : (eq : ObjectKind → ObjectKind → Bool) → ((x y : ObjectKind) → Decides (eq x y) (x ≡ y)) → (x y : ObjectKind) → eq x y ≡ same_kind (kind_seen x) (kind_seen y)
kind_eq eq decides x y =
    same_from_decides (eq x y) (same_kind (kind_seen x) (kind_seen y)) (decides x y)
    (Decides-like (same_kind (kind_seen x) (kind_seen y)) (kind_seen_same x y) (λ e. ap kind_seen e) (kind_decides (kind_seen x) (kind_seen y)))

pub kind_put : (eq : ObjectKind → ObjectKind → Bool) → ((x y : ObjectKind) → Decides (eq x y) (x ≡ y)) → (ks after : List ObjectKind) (x : ObjectKind)
    → after ≡ (if list_any (eq x) ks then ks else ks ++ x ∷ []) → map kind_seen after ≡ with_item same_kind (map kind_seen ks) (kind_seen x)
kind_put eq decides ks after x h = ap (map kind_seen) h ∙ set_with kind_seen eq same_kind (kind_eq eq decides) ks x

-- ---- the types of a program

-- items that are none of those before
pub put_range : {A : Type 0} (same : A → A → Bool) (f : ℕ → A) → ((i j : ℕ) → same (f i) (f j) ≡ (i == j)) → (a n : ℕ) (ks : List A)
    → ((i : ℕ) → a ≤ i → list_any (same (f i)) ks ≡ false) → with_items same ks (map f (range_with_len a n)) ≡ ks ++ map f (range_with_len a n)
put_range same f h a zero ks fresh = sym (append-nil ks)
put_range same f h a (suc n) ks fresh =
    let one : with_item same ks (f a) ≡ ks ++ f a ∷ [] = ap (λ (b : Bool). if b then ks else ks ++ f a ∷ []) (fresh a (omega arith)) in
    ap (λ xs. with_items same xs (map f (range_with_len (a + 1) n))) one
    ∙ (put_range same f h (a + 1) n (ks ++ f a ∷ [])
    (λ i le. any_more (same (f i)) ks (f a)
    ∙ (let first = fresh i (omega arith) in let second : (i == a) ≡ false = ne_eqb i a (omega arith) in ap₂ (λ (x y : Bool). x || y) first (h i a ∙ second)))
    ∙ append_assoc ks (f a ∷ []) (map f (range_with_len (a + 1) n)))

no_class : (c : ℕ) → list_any (same_kind (OfClass c)) (map OfNumbers (range_with_len 4 8)) ≡ false
no_class c = refl

pub first_put : (n : ℕ) → with_items same_kind (with_items same_kind [] (map OfNumbers (range_with_len 4 8))) (map OfClass (range_with_len 0 n)) ≡ first_types n
first_put n =
    let numbers = map OfNumbers (range_with_len 4 8) in
    ap (λ ks. with_items same_kind ks (map OfClass (range_with_len 0 n))) (put_range same_kind OfNumbers (λ i j. refl) 4 8 [] (λ i le. refl))
    ∙ put_range same_kind OfClass (λ i j. refl) 0 n numbers (λ i le. no_class i)

split_and : (a b : Bool) → (a && b) ≡ true → (a ≡ true) × (b ≡ true)
split_and true b h = (refl, h)
split_and false b h = absurd (false≢true h)

-- an array of references
pub is_array : Kind → Bool
is_array (OfReferences k) = true
is_array k = false

all_append : {A : Type 0} (p : A → Bool) (xs ys : List A) → list_all p xs ≡ true → list_all p ys ≡ true → list_all p (xs ++ ys) ≡ true
all_append p [] ys h g = g
all_append p (x ∷ xs) ys h g = let both = split_and (p x) (list_all p xs) h in ap₂ (λ (a b : Bool). a && b) both.0 (all_append p xs ys both.1 g)

all_parts : {A B : Type 0} (p : B → Bool) (f : A → List B) → ((x : A) → list_all p (f x) ≡ true) → (xs : List A) → list_all p (flat_map f xs) ≡ true
all_parts p f h [] = refl
all_parts p f h (x ∷ xs) = all_append p (f x) (flat_map f xs) (h x) (all_parts p f h xs)

all_filter_case : {A : Type 0} (p : A → Bool) (x : A) (ys : List A) (b : Bool) → p x ≡ true → list_all p ys ≡ true → list_all p (cond b (x ∷ ys) ys) ≡ true
all_filter_case p x ys true h g = ap₂ (λ (a b : Bool). a && b) h g
all_filter_case p x ys false h g = g

all_filter : {A : Type 0} (p q : A → Bool) (xs : List A) → list_all p xs ≡ true → list_all p (filter q xs) ≡ true
all_filter p q [] h = refl
all_filter p q (x ∷ xs) h = let both = split_and (p x) (list_all p xs) h in all_filter_case p x (filter q xs) (q x) both.0 (all_filter p q xs both.1)

all_distinct : {A : Type 0} (p : A → Bool) (same : A → A → Bool) (xs : List A) → list_all p xs ≡ true → list_all p (distinct same xs) ≡ true
all_distinct p same [] h = refl
all_distinct p same (x ∷ xs) h =
    let both = split_and (p x) (list_all p xs) h in ap₂ (λ (a b : Bool). a && b) both.0 (all_filter p (λ y. not (same x y)) (distinct same xs) (all_distinct p same xs both.1))

filter_all : {A : Type 0} (p q : A → Bool) → ((x : A) → p x ≡ true → q x ≡ true) → (xs : List A) → list_all p xs ≡ true → filter q xs ≡ xs
filter_all p q h [] g = refl
filter_all p q h (x ∷ xs) g =
    let both = split_and (p x) (list_all p xs) g in ap₂ (λ (b : Bool) (ys : List _). cond b (x ∷ ys) ys) (h x both.0) (filter_all p q h xs both.1)

arrays_within : (k : Kind) → list_all is_array (reference_arrays k) ≡ true
unfolding is_array
arrays_within (OfClass c) = refl
arrays_within (OfNumbers c) = refl
arrays_within (OfReferences k) = all_append is_array (reference_arrays k) (OfReferences k ∷ []) (arrays_within k) refl

used_case : (a b c : Bool) (k : Kind) → list_all is_array (if a then reference_arrays (OfReferences k) else if b then reference_arrays k else if c then reference_arrays k else []) ≡ true
used_case true b c k = arrays_within (OfReferences k)
used_case false true c k = arrays_within k
used_case false false true k = arrays_within k
used_case false false false k = refl

used_arrays : (op : ℕ) (o : Option Kind) → list_all is_array (used_by op o) ≡ true
used_arrays op None = refl
used_arrays op (Some k) = used_case (op == 189) (op == 192) (op == 193) k

mentioned_arrays : (cs : List ClassFile) → list_all is_array (flat_map (arrays_mentioned_in cs) cs) ≡ true
mentioned_arrays cs =
    all_parts is_array (arrays_mentioned_in cs)
    (λ c. all_parts is_array (λ m. flat_map (arrays_mentioned_by cs c) (instructions_of m))
    (λ m. all_parts is_array (arrays_mentioned_by cs c) (λ p. used_arrays p.instr.op (class_kind cs c (named_in c p.instr))) (instructions_of m)) c.methods)
    cs

no_array : (k : Kind) (n a : ℕ) → list_any (same_kind (OfReferences k)) (map OfClass (range_with_len a n)) ≡ false
no_array k zero a = refl
no_array k (suc n) a = no_array k n (a + 1)

outside_first : (n : ℕ) (k : Kind) → is_array k ≡ true → outside same_kind (first_types n) k ≡ true
unfolding is_array
outside_first n (OfReferences k) h = ap not (no_array k n 0)
outside_first n (OfClass c) h = absurd (false≢true h)
outside_first n (OfNumbers c) h = absurd (false≢true h)

pub types_are : (cs : List ClassFile) → with_items same_kind (first_types (length cs)) (flat_map (arrays_mentioned_in cs) cs) ≡ types_of cs
unfolding types_of
types_are cs =
    let mentioned = flat_map (arrays_mentioned_in cs) cs in
    let numbers = map OfNumbers (range_with_len 4 8) in
    let classes = map OfClass (range_with_len 0 (length cs)) in
    with_items-distinct same_kind kind_decides (first_types (length cs)) mentioned
    ∙ (ap (λ xs. first_types (length cs) ++ xs)
    (filter_all is_array (outside same_kind (first_types (length cs))) (outside_first (length cs)) (distinct same_kind mentioned) (all_distinct is_array same_kind mentioned (mentioned_arrays cs)))
    ∙ append_assoc numbers classes (distinct same_kind mentioned))

pub strings_are : (cs : List ClassFile) → with_items same_text [] (flat_map strings_in cs) ≡ strings_of cs
unfolding strings_of
strings_are cs = first_mentions same_text (λ a b. bytes_decides a b) (flat_map strings_in cs)

pub range_more : {A : Type 0} (f : ℕ → A) (a n : ℕ) → map f (range_with_len a (n + 1)) ≡ map f (range_with_len a n) ++ f (a + n) ∷ []
range_more f a n = ap (λ m. map f (range_with_len a m)) (add-one n) ∙ more n a
  where
    more : (m b : ℕ) → map f (range_with_len b (suc m)) ≡ map f (range_with_len b m) ++ f (b + m) ∷ []
    more zero b = let same : b ≡ b + 0 = omega arith in ap (λ k. f k ∷ []) same
    more (suc m) b = let same : b + 1 + m ≡ b + suc m = omega arith in ap (λ xs. f b ∷ xs) (more m (b + 1) ∙ ap (λ k. map f (range_with_len (b + 1) m) ++ f k ∷ []) same)

pub put_next : {A : Type 0} (same : A → A → Bool) (f : ℕ → A) (a n m : ℕ) (first ks after : List A) → m ≡ n + 1 → ks ≡ with_items same first (map f (range_with_len a n))
    → after ≡ with_item same ks (f (a + n)) → after ≡ with_items same first (map f (range_with_len a m))
put_next same f a n m first ks after e h g =
    g ∙ (ap (λ xs. with_item same xs (f (a + n))) h
    ∙ (sym (with_items-append same first (map f (range_with_len a n)) (f (a + n) ∷ []))
    ∙ ap (with_items same first) (sym (range_more f a n) ∙ ap (λ k. map f (range_with_len a k)) (sym e))))
