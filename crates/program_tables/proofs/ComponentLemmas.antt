-- The component of an array of references that is among the types is among them.
use Rattle.std.proofs.Common.{◌≡◌, ℕ, zero, suc, ◌<◌, Bool, true, false, ◌||◌, ◌==◌, List, [], ◌∷◌, ◌++◌, map, length, Option, Some, None, refl, sym, ap, ◌∙◌, subst, arith}
use Rattle.std.specs.Prelude.{is_some, slice_get, if◌then◌else◌}
use Rattle.std.specs.Option.{option_map}
use Rattle.std.specs.List.{flat_map, list_any, range_with_len}
use Rattle.std.proofs.lemmas.Bool.{false≢true}
use Rattle.std.proofs.lemmas.List.Folds.{list_any-append, list_any_at}
use Rattle.std.proofs.lemmas.List.FromFn.{get_or-map-range_with_len, length-map-range_with_len}
use Rattle.class_pool.specs.declared.class.ClassFile.{ClassFile}
use Rattle.descriptors.specs.declared.descriptor.Element.{Element}
use Rattle.descriptors.specs.declared.descriptor.Element.TheVariants as elements
use Rattle.descriptors.specs.declared.descriptor.FieldType.{FieldType}
use Rattle.bytecode_model.specs.Lists.{onto, index_of}
use Rattle.bytecode_model.specs.Types.{Kind, OfClass, OfNumbers, OfReferences, same_kind}
use Rattle.class_lookup.specs.Parts.{same_text, name_of}
use Rattle.class_lookup.specs.Hierarchy.{find_class}
use Rattle.program_tables.specs.Instructions.{instructions_of, Named, Constant, Class, Field, Method, named_in}
use Rattle.program_tables.specs.Kinds.{class_type, arrays_of, arrays_of_numbers, kind_by, kind_of_type}
use Rattle.program_tables.specs.Lists.{distinct, with_item, with_items}
use Rattle.program_tables.specs.Numbers.{reference_arrays, used_by, class_kind, arrays_mentioned_by, arrays_mentioned_in, first_types, types_of}
use Rattle.program_tables.proofs.MentionLemmas.{first_mentions, kind_decides}

abbrev has : Kind → List Kind → Bool
has k ks = list_any (same_kind k) ks

same_refl : (k : Kind) → same_kind k k ≡ true
same_refl k = (kind_decides k k).1 refl

-- ---- tests

or_case : (P : Type 0) (x y : Bool) → (x || y) ≡ true → (x ≡ true → P) → (y ≡ true → P) → P
or_case P true y h f g = f refl
or_case P false y h f g = g h

or_right : (x y : Bool) → y ≡ true → (x || y) ≡ true
or_right true y h = refl
or_right false y h = h

pub or_false : (x : Bool) → (x || false) ≡ x
or_false true = refl
or_false false = refl

or_assoc : (a b c : Bool) → ((a || b) || c) ≡ (a || (b || c))
or_assoc true b c = refl
or_assoc false b c = refl

left_in : (a b f : Bool) → (a || f) ≡ true → ((a || b) || f) ≡ true
left_in true b f h = refl
left_in false true f h = refl
left_in false false f h = h

right_in : (a b f : Bool) → (b || f) ≡ true → ((a || b) || f) ≡ true
right_in true b f h = refl
right_in false b f h = h

turned : (a b m : Bool) → (m || (a || b)) ≡ true → (a || (b || m)) ≡ true
turned true b m h = refl
turned false true m h = refl
turned false false true h = refl
turned false false false h = h

-- ---- what is among the items is among the distinct ones

there : (k y : Kind) (ks : List Kind) (b : Bool) → same_kind k y ≡ b → has y ks ≡ true → has k ks ≡ (has k ks || b)
there k y ks true e h =
    let all : has k ks ≡ true = subst (λ (x : Kind). has x ks ≡ true) (sym ((kind_decides k y).0 e)) h in
    all ∙ sym (ap (λ b. b || true) all)
there k y ks false e h = sym (or_false (has k ks))

item_case : (k y : Kind) (ks : List Kind) (b : Bool) → has y ks ≡ b → has k (if b then ks else ks ++ y ∷ []) ≡ (has k ks || same_kind k y)
item_case k y ks true h = there k y ks (same_kind k y) refl h
item_case k y ks false h = list_any-append (same_kind k) ks (y ∷ []) ∙ ap (λ b. has k ks || b) (or_false (same_kind k y))

items_any : (k : Kind) (ks xs : List Kind) → has k (with_items same_kind ks xs) ≡ (has k ks || has k xs)
items_any k ks [] = sym (or_false (has k ks))
items_any k ks (y ∷ ys) =
    items_any k (with_item same_kind ks y) ys
    ∙ (ap (λ b. b || has k ys) (item_case k y ks (has y ks) refl) ∙ or_assoc (has k ks) (same_kind k y) (has k ys))

distinct_any : (k : Kind) (xs : List Kind) → has k (distinct same_kind xs) ≡ has k xs
distinct_any k xs = ap (has k) (sym (first_mentions same_kind kind_decides xs)) ∙ items_any k [] xs

-- ---- lists that have, with an array of references, its component, or it is one of the first types

abbrev HasCore : (classes : ℕ) → Kind → Type 0
HasCore n (OfReferences k) = HasCore n k
HasCore n (OfClass c) = has (OfClass c) (first_types n) ≡ true
HasCore n (OfNumbers a) = has (OfNumbers a) (first_types n) ≡ true

abbrev Closed : (classes : ℕ) → List Kind → Type 0
Closed n xs = (k : Kind) → has (OfReferences k) xs ≡ true → (has k xs || has k (first_types n)) ≡ true

closed_nil : (n : ℕ) → Closed n []
closed_nil n = λ k h. absurd (false≢true h)

closed_append : (n : ℕ) (xs ys : List Kind) → Closed n xs → Closed n ys → Closed n (xs ++ ys)
closed_append n xs ys f g = λ k h.
    ap (λ b. b || has k (first_types n)) (list_any-append (same_kind k) xs ys)
    ∙ or_case (((has k xs || has k ys) || has k (first_types n)) ≡ true) (has (OfReferences k) xs) (has (OfReferences k) ys)
    (sym (list_any-append (same_kind (OfReferences k)) xs ys) ∙ h)
    (λ a. left_in (has k xs) (has k ys) (has k (first_types n)) (f k a))
    (λ b. right_in (has k xs) (has k ys) (has k (first_types n)) (g k b))

closed_flat : {X : Type 0} (n : ℕ) (f : X → List Kind) (xs : List X) → ((x : X) → Closed n (f x)) → Closed n (flat_map f xs)
closed_flat n f [] h = closed_nil n
closed_flat n f (x ∷ xs) h = closed_append n (f x) (flat_map f xs) (h x) (closed_flat n f xs h)

last_has : (k : Kind) (xs ys : List Kind) → has k ((xs ++ k ∷ []) ++ ys) ≡ true
last_has k [] ys = ap (λ b. b || has k ys) (same_refl k)
last_has k (x ∷ xs) ys = or_right (same_kind k x) (has k ((xs ++ k ∷ []) ++ ys)) (last_has k xs ys)

own_in : (n : ℕ) (k : Kind) → HasCore n k → (has k (reference_arrays k ++ OfReferences k ∷ []) || has k (first_types n)) ≡ true
own_in n (OfReferences k) core = ap (λ b. b || has (OfReferences k) (first_types n)) (last_has (OfReferences k) (reference_arrays k) (OfReferences (OfReferences k) ∷ []))
own_in n (OfClass c) core = or_right (has (OfClass c) (reference_arrays (OfClass c) ++ OfReferences (OfClass c) ∷ [])) (has (OfClass c) (first_types n)) core
own_in n (OfNumbers a) core = or_right (has (OfNumbers a) (reference_arrays (OfNumbers a) ++ OfReferences (OfNumbers a) ∷ [])) (has (OfNumbers a) (first_types n)) core

closed_arrays : (n : ℕ) (k : Kind) → HasCore n k → Closed n (reference_arrays k)
closed_arrays n (OfReferences l) core = λ k h.
    or_case ((has k (reference_arrays l ++ OfReferences l ∷ []) || has k (first_types n)) ≡ true) (has (OfReferences k) (reference_arrays l)) (same_kind k l || false)
    (sym (list_any-append (same_kind (OfReferences k)) (reference_arrays l) (OfReferences l ∷ [])) ∙ h)
    (λ a.
    ap (λ b. b || has k (first_types n)) (list_any-append (same_kind k) (reference_arrays l) (OfReferences l ∷ []))
    ∙ left_in (has k (reference_arrays l)) (has k (OfReferences l ∷ [])) (has k (first_types n)) (closed_arrays n l core k a))
    (λ b.
    subst (λ (x : Kind). (has x (reference_arrays l ++ OfReferences l ∷ []) || has x (first_types n)) ≡ true)
    (sym ((kind_decides k l).0 (sym (or_false (same_kind k l)) ∙ b))) (own_in n l core))
closed_arrays n (OfClass c) core = closed_nil n
closed_arrays n (OfNumbers a) core = closed_nil n

used_case : (n : ℕ) (k : Kind) → HasCore n k → (a b c : Bool)
    → Closed n (if a then reference_arrays (OfReferences k) else if b then reference_arrays k else if c then reference_arrays k else [])
used_case n k core true b c = closed_arrays n (OfReferences k) core
used_case n k core false true c = closed_arrays n k core
used_case n k core false false true = closed_arrays n k core
used_case n k core false false false = closed_nil n

closed_used : (n op : ℕ) (o : Option Kind) → ((k : Kind) → o ≡ Some k → HasCore n k) → Closed n (used_by op o)
closed_used n op None h = closed_nil n
closed_used n op (Some k) h = used_case n k (h k refl) (op == 189) (op == 192) (op == 193)

-- ---- types that Class entries name

pub below_case : (b : Bool) (o : Option ℕ) (k n : ℕ) → (if b then Some 0 else onto o (λ j. Some (suc j))) ≡ Some k → ((j : ℕ) → o ≡ Some j → j < n) → k < suc n
below_case true o k n h f = let e : Some 0 ≡ Some k = h in let z : 0 ≡ k = cc in omega arith
below_case false None k n h f = let e : None ≡ Some k = h in absurd (cc)
below_case false (Some j) k n h f = let e : Some (suc j) ≡ Some k = h in let z : suc j ≡ k = cc in let lt = f j refl in omega arith

pub index_below : {A : Type 0} (t : A → Bool) (xs : List A) (k : ℕ) → index_of t xs ≡ Some k → k < length xs
index_below t [] k h = let e : None ≡ Some k = h in absurd (cc)
index_below t (x ∷ xs) k h = below_case (t x) (index_of t xs) k (length xs) h (index_below t xs)

class_first : (n c : ℕ) → c < n → has (OfClass c) (first_types n) ≡ true
class_first n c lt =
    let long : c < length (map OfClass (range_with_len 0 n)) = omega (arith, lt, length-map-range_with_len OfClass 0 n) in
    let at = get_or-map-range_with_len OfClass 0 n c c (OfClass c) lt (omega arith) in
    list_any-append (same_kind (OfClass c)) (map OfNumbers (range_with_len 4 8)) (map OfClass (range_with_len 0 n))
    ∙ or_right (has (OfClass c) (map OfNumbers (range_with_len 4 8))) (has (OfClass c) (map OfClass (range_with_len 0 n)))
    (list_any_at (same_kind (OfClass c)) (map OfClass (range_with_len 0 n)) c (OfClass c) long (ap (same_kind (OfClass c)) at ∙ same_refl (OfClass c)))

core_arrays : (n d : ℕ) (k : Kind) → HasCore n k → HasCore n (arrays_of d k)
core_arrays n zero k h = h
core_arrays n (suc d) k h = core_arrays n d k h

core_class : (cs : List ClassFile) (name : List ℕ) (d : ℕ) (o : Option ℕ) (k : Kind) → find_class cs name ≡ o → option_map (λ c. arrays_of d (OfClass c)) o ≡ Some k → HasCore (length cs) k
core_class cs name d None k e h = let f : None ≡ Some k = h in absurd (cc)
core_class cs name d (Some c) k e h =
    let f : Some (arrays_of d (OfClass c)) ≡ Some k = h in
    let same : arrays_of d (OfClass c) ≡ k = cc in
    subst (HasCore (length cs)) same (core_arrays (length cs) d (OfClass c) (class_first (length cs) c (index_below (λ x. same_text (name_of x) name) cs c e)))

core_numbers : (n d code : ℕ) (k : Kind) → has (OfNumbers code) (first_types n) ≡ true → arrays_of_numbers d code ≡ Some k → HasCore n k
core_numbers n zero code k c h = let f : None ≡ Some k = h in absurd (cc)
core_numbers n (suc d) code k c h =
    let f : Some (arrays_of d (OfNumbers code)) ≡ Some k = h in
    let same : arrays_of d (OfNumbers code) ≡ k = cc in
    subst (HasCore n) same (core_arrays n d (OfNumbers code) c)

core_by : (cs : List ClassFile) (d : ℕ) (e : Element) (k : Kind) → kind_by cs d e ≡ Some k → HasCore (length cs) k
core_by cs d (elements.Class name) k h = core_class cs name d (find_class cs name) k refl h
core_by cs d elements.Byte k h = core_numbers (length cs) d 8 k refl h
core_by cs d elements.Char k h = core_numbers (length cs) d 5 k refl h
core_by cs d elements.Double k h = core_numbers (length cs) d 7 k refl h
core_by cs d elements.Float k h = core_numbers (length cs) d 6 k refl h
core_by cs d elements.Int k h = core_numbers (length cs) d 10 k refl h
core_by cs d elements.Long k h = core_numbers (length cs) d 11 k refl h
core_by cs d elements.Short k h = core_numbers (length cs) d 9 k refl h
core_by cs d elements.Boolean k h = core_numbers (length cs) d 4 k refl h

core_type : (cs : List ClassFile) (o : Option FieldType) (k : Kind) → onto o (kind_of_type cs) ≡ Some k → HasCore (length cs) k
core_type cs None k h = let f : None ≡ Some k = h in absurd (cc)
core_type cs (Some t) k h = core_by cs t.dimensions t.element k h

core_named : (cs : List ClassFile) (c : ClassFile) (o : Option Named) (k : Kind) → class_kind cs c o ≡ Some k → HasCore (length cs) k
core_named cs c (Some (Class index)) k h = core_type cs (class_type c.pool index) k h
core_named cs c (Some (Constant entry)) k h = let f : None ≡ Some k = h in absurd (cc)
core_named cs c (Some (Field index s)) k h = let f : None ≡ Some k = h in absurd (cc)
core_named cs c (Some (Method of_interface index s)) k h = let f : None ≡ Some k = h in absurd (cc)
core_named cs c None k h = let f : None ≡ Some k = h in absurd (cc)

mentioned_closed : (cs : List ClassFile) → Closed (length cs) (flat_map (arrays_mentioned_in cs) cs)
mentioned_closed cs =
    closed_flat (length cs) (arrays_mentioned_in cs) cs (λ c.
    closed_flat (length cs) (λ m. flat_map (arrays_mentioned_by cs c) (instructions_of m)) c.methods (λ m.
    closed_flat (length cs) (arrays_mentioned_by cs c) (instructions_of m) (λ p.
    closed_used (length cs) p.instr.op (class_kind cs c (named_in c p.instr)) (core_named cs c (named_in c p.instr)))))

-- ---- the types

types_any : (cs : List ClassFile) (k : Kind)
    → has k (types_of cs) ≡ (has k (map OfNumbers (range_with_len 4 8)) || (has k (map OfClass (range_with_len 0 (length cs))) || has k (flat_map (arrays_mentioned_in cs) cs)))
unfolding types_of
types_any cs k =
    let numbers = map OfNumbers (range_with_len 4 8) in
    let classes = map OfClass (range_with_len 0 (length cs)) in
    let mentioned = flat_map (arrays_mentioned_in cs) cs in
    list_any-append (same_kind k) numbers (classes ++ distinct same_kind mentioned)
    ∙ ap (λ b. has k numbers || b) (list_any-append (same_kind k) classes (distinct same_kind mentioned) ∙ ap (λ b. has k classes || b) (distinct_any k mentioned))

no_class : (k : Kind) (is : List ℕ) → has (OfReferences k) (map OfClass is) ≡ false
no_class k [] = refl
no_class k (i ∷ is) = no_class k is

got_has : (ks : List Kind) (i : ℕ) (k : Kind) → slice_get ks i ≡ Some k → has k ks ≡ true
got_has [] i k h = let f : None ≡ Some k = h in absurd (cc)
got_has (x ∷ ks) zero k h =
    let f : Some x ≡ Some k = h in
    let same : x ≡ k = cc in
    ap (λ b. b || has k ks) (ap (same_kind k) same ∙ same_refl k)
got_has (x ∷ ks) (suc i) k h = or_right (same_kind k x) (has k ks) (got_has ks i k h)

some_case : (b : Bool) (o : Option ℕ) (rest : Bool) → (b || rest) ≡ true → (rest ≡ true → is_some o ≡ true) → is_some (if b then Some 0 else onto o (λ k. Some (suc k))) ≡ true
some_case true o rest h f = refl
some_case false None rest h f = f h
some_case false (Some k) rest h f = refl

has_index : (k : Kind) (ks : List Kind) → has k ks ≡ true → is_some (index_of (same_kind k) ks) ≡ true
has_index k [] h = absurd (false≢true h)
has_index k (x ∷ ks) h = some_case (same_kind k x) (index_of (same_kind k) ks) (has k ks) h (has_index k ks)

pub component_has_number : (cs : List ClassFile) (i : ℕ) (k : Kind) → slice_get (types_of cs) i ≡ Some (OfReferences k) → is_some (index_of (same_kind k) (types_of cs)) ≡ true
component_has_number cs i k h =
    let classes = map OfClass (range_with_len 0 (length cs)) in
    let mentioned = flat_map (arrays_mentioned_in cs) cs in
    let array : has (OfReferences k) mentioned ≡ true =
    sym (ap (λ b. b || has (OfReferences k) mentioned) (no_class k (range_with_len 0 (length cs)))) ∙ (sym (types_any cs (OfReferences k)) ∙ got_has (types_of cs) i (OfReferences k) h)
    in
    let both = sym (ap (λ b. has k mentioned || b) (list_any-append (same_kind k) (map OfNumbers (range_with_len 4 8)) classes)) ∙ mentioned_closed cs k array in
    has_index k (types_of cs) (types_any cs k ∙ turned (has k (map OfNumbers (range_with_len 4 8))) (has k classes) (has k mentioned) both)
