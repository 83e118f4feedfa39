-- Members by number, one after another.
use Rattle.std.proofs.Common.{◌≡◌, ℕ, suc, ◌+◌, ◌<◌, Bool, true, false, not, List, [], ◌∷◌, ◌++◌, map, take, get_or, length, length-take, append_assoc, append-nil, Some, refl, sym, ap, ap₂, ◌∙◌, arith}
use Rattle.std.specs.Prelude.{slice_get, if◌then◌else◌}
use Rattle.std.specs.Option.{option_map_or}
use Rattle.std.specs.List.{filter, flat_map, range_with_len, enumerate_from}
use Rattle.std.proofs.lemmas.List.Elements.{filter-append}
use Rattle.std.proofs.lemmas.Grind.{take_at_read}
use Rattle.class_pool.specs.declared.class.Member.{Member}
use Rattle.class_pool.specs.declared.class.ClassFile.{ClassFile}
use Rattle.bytecode_model.specs.Lists.{onto}
use Rattle.class_lookup.specs.Parts.{has_code, is_static}
use Rattle.class_lookup.specs.Lookup.{Place}
use Rattle.program_tables.specs.declared.members.Which.{Which}
use Rattle.program_tables.specs.declared.members.Which.TheVariants.{Field, StaticField, InstanceField, MethodWithCode, OtherMethod}
use Rattle.program_tables.specs.Numbers.{places_of, methods_by_number, fields_by_number, static_fields, is_instance_field, own_instance_fields}
use Rattle.program_tables.specs.Members.{members_in, takes, own_members, is_chosen, chosen}

-- ---- one member more

one_place : Bool → ℕ → ℕ → List Place
one_place b c i = if b then (c, i) ∷ [] else []

own_case : (b : Bool) (p : Place) (a b' rest : List Place) → a ≡ b' ++ rest → (if b then p ∷ a else a) ≡ (if b then p ∷ b' else b') ++ rest
own_case true p a b' rest h = ap (λ xs. p ∷ xs) h
own_case false p a b' rest h = h

own_more : (w : Which) (c i : ℕ) (ms : List Member) (m : Member) (j : ℕ) → j ≡ i + length ms
    → own_members w c i (ms ++ m ∷ []) ≡ own_members w c i ms ++ (if takes w m then (c, j) ∷ [] else [])
own_more w c i [] m j e = ap (λ k. if takes w m then (c, k) ∷ [] else []) (omega arith)
own_more w c i (x ∷ ms) m j e =
    own_case (takes w x) (c, i) (own_members w c (i + 1) (ms ++ m ∷ [])) (own_members w c (i + 1) ms) (if takes w m then (c, j) ∷ [] else []) (own_more w c (i + 1) ms m j (omega arith))

next_own : (w : Which) (c i : ℕ) (ms : List Member) (m : Member) (before : List Place) (b : Bool) → i < length ms → m ≡ get_or ms i m → takes w m ≡ b
    → (before ++ own_members w c 0 (take i ms)) ++ (if b then (c, i) ∷ [] else []) ≡ before ++ own_members w c 0 (take (i + 1) ms)
next_own w c i ms m before b lt is e =
    let long = length-take i ms in
    append_assoc before (own_members w c 0 (take i ms)) (if b then (c, i) ∷ [] else [])
    ∙ ap (λ xs. before ++ xs)
    (ap (λ x. own_members w c 0 (take i ms) ++ (if x then (c, i) ∷ [] else [])) (sym e)
    ∙ (sym (own_more w c 0 (take i ms) m i (omega (arith, long, lt)))
    ∙ ap (own_members w c 0) (ap (λ x. take i ms ++ x ∷ []) is ∙ sym (take_at_read ms i m lt).1)))

pub own_taken : (w : Which) (c i : ℕ) (ms : List Member) (m : Member) (before : List Place) → i < length ms → m ≡ get_or ms i m → takes w m ≡ true
    → (before ++ own_members w c 0 (take i ms)) ++ (c, i) ∷ [] ≡ before ++ own_members w c 0 (take (i + 1) ms)
own_taken w c i ms m before lt is e = next_own w c i ms m before true lt is e

pub own_left : (w : Which) (c i : ℕ) (ms : List Member) (m : Member) (before : List Place) → i < length ms → m ≡ get_or ms i m → takes w m ≡ false
    → before ++ own_members w c 0 (take i ms) ≡ before ++ own_members w c 0 (take (i + 1) ms)
own_left w c i ms m before lt is e = sym (append-nil (before ++ own_members w c 0 (take i ms))) ∙ next_own w c i ms m before false lt is e

-- ---- one class more

abbrev pub all_own : Which → (first : ℕ) → List ClassFile → List Place
all_own w s [] = []
all_own w s (k ∷ ks) = own_members w s 0 (members_in w k) ++ all_own w (s + 1) ks

all_more : (w : Which) (s : ℕ) (ks : List ClassFile) (k : ClassFile) (j : ℕ) → j ≡ s + length ks
    → all_own w s (ks ++ k ∷ []) ≡ all_own w s ks ++ own_members w j 0 (members_in w k)
all_more w s [] k j e = append-nil (own_members w s 0 (members_in w k)) ∙ ap (λ i. own_members w i 0 (members_in w k)) (omega arith)
all_more w s (x ∷ ks) k j e =
    ap (λ xs. own_members w s 0 (members_in w x) ++ xs) (all_more w (s + 1) ks k j (omega arith))
    ∙ sym (append_assoc (own_members w s 0 (members_in w x)) (all_own w (s + 1) ks) (own_members w j 0 (members_in w k)))

pub next_class : (w : Which) (i : ℕ) (cs : List ClassFile) (k : ClassFile) (before : List Place) → i < length cs → k ≡ get_or cs i k
    → (before ++ all_own w 0 (take i cs)) ++ own_members w i 0 (members_in w k) ≡ before ++ all_own w 0 (take (i + 1) cs)
next_class w i cs k before lt is =
    let long = length-take i cs in
    append_assoc before (all_own w 0 (take i cs)) (own_members w i 0 (members_in w k))
    ∙ ap (λ xs. before ++ xs)
    (sym (all_more w 0 (take i cs) k i (omega (arith, long, lt)))
    ∙ ap (all_own w 0) (ap (λ x. take i cs ++ x ∷ []) is ∙ sym (take_at_read cs i k lt).1))

-- ---- these are the members that are chosen

is_takes : (w : Which) (cs : List ClassFile) (c i : ℕ) (k : ClassFile) (m : Member) → slice_get cs c ≡ Some k → slice_get (members_in w k) i ≡ Some m → is_chosen w cs (c, i) ≡ takes w m
is_takes Field cs c i k m h g = refl
is_takes StaticField cs c i k m h g = ap (λ o. option_map_or is_static (onto o (λ x. slice_get x.fields i)) false) h ∙ ap (λ o. option_map_or is_static o false) g
is_takes InstanceField cs c i k m h g = ap (λ o. option_map_or (λ f. not (is_static f)) (onto o (λ x. slice_get x.fields i)) false) h ∙ ap (λ o. option_map_or (λ f. not (is_static f)) o false) g
is_takes MethodWithCode cs c i k m h g = ap (λ o. option_map_or has_code (onto o (λ x. slice_get x.methods i)) false) h ∙ ap (λ o. option_map_or has_code o false) g
is_takes OtherMethod cs c i k m h g =
    ap not (ap (λ o. option_map_or has_code (onto o (λ x. slice_get x.methods i)) false) h ∙ ap (λ o. option_map_or has_code o false) g)

filter_case : (a b : Bool) (p : Place) (xs ys : List Place) → a ≡ b → xs ≡ ys → (if a then p ∷ xs else xs) ≡ (if b then p ∷ ys else ys)
filter_case a b p xs ys e h = ap₂ (λ (x : Bool) (zs : List Place). if x then p ∷ zs else zs) e h

own_filter : (w : Which) (cs : List ClassFile) (c : ℕ) (k : ClassFile) → slice_get cs c ≡ Some k → (a : ℕ) (ms : List Member)
    → ((j : ℕ) → slice_get (members_in w k) (a + j) ≡ slice_get ms j)
    → filter (is_chosen w cs) (map (λ i. (c, i)) (range_with_len a (length ms))) ≡ own_members w c a ms
own_filter w cs c k h a [] at = refl
own_filter w cs c k h a (m ∷ ms) at =
    let same : a + 0 ≡ a = omega arith in
    let here : slice_get (members_in w k) a ≡ Some m = ap (slice_get (members_in w k)) (sym same) ∙ at 0 in
    filter_case (is_chosen w cs (c, a)) (takes w m) (c, a) (filter (is_chosen w cs) (map (λ i. (c, i)) (range_with_len (a + 1) (length ms)))) (own_members w c (a + 1) ms)
    (is_takes w cs c a k m h here)
    (own_filter w cs c k h (a + 1) ms (λ j. let next : a + 1 + j ≡ a + suc j = omega arith in ap (slice_get (members_in w k)) next ∙ at (suc j)))

pub own_instances : (cs : List ClassFile) (c : ℕ) (k : ClassFile) → slice_get cs c ≡ Some k → own_members InstanceField c 0 k.fields ≡ own_instance_fields cs c
own_instances cs c k h =
    sym (own_filter InstanceField cs c k h 0 k.fields (λ j. let none : 0 + j ≡ j = omega arith in ap (slice_get k.fields) none))
    ∙ ap (λ o. filter (is_instance_field cs) (option_map_or (λ x. map (λ i. (c, i)) (range_with_len 0 (length x.fields))) o [])) (sym h)

abbrev places_in : Which → ℕ × ClassFile → List Place
places_in w e = map (λ i. (e.0, i)) (range_with_len 0 (length (members_in w e.1)))

all_filter : (w : Which) (cs : List ClassFile) (s : ℕ) (ks : List ClassFile) → ((j : ℕ) → slice_get cs (s + j) ≡ slice_get ks j)
    → filter (is_chosen w cs) (flat_map (places_in w) (enumerate_from s ks)) ≡ all_own w s ks
all_filter w cs s [] at = refl
all_filter w cs s (k ∷ ks) at =
    let same : s + 0 ≡ s = omega arith in
    let here : slice_get cs s ≡ Some k = ap (slice_get cs) (sym same) ∙ at 0 in
    filter-append (is_chosen w cs) (places_in w (s, k)) (flat_map (places_in w) (enumerate_from (s + 1) ks))
    ∙ ap₂ (λ xs ys. xs ++ ys)
    (own_filter w cs s k here 0 (members_in w k) (λ j. let none : 0 + j ≡ j = omega arith in ap (slice_get (members_in w k)) none))
    (all_filter w cs (s + 1) ks (λ j. let next : s + 1 + j ≡ s + suc j = omega arith in ap (slice_get cs) next ∙ at (suc j)))

pub all_chosen : (w : Which) (cs : List ClassFile) → all_own w 0 cs ≡ chosen w cs
all_chosen w cs = sym (all_filter w cs 0 cs (λ j. let none : 0 + j ≡ j = omega arith in ap (slice_get cs) none))

-- ---- the tables of a program

all_kept : (ps : List Place) → filter (λ p. true) ps ≡ ps
all_kept [] = refl
all_kept (p ∷ ps) = ap (λ qs. p ∷ qs) (all_kept ps)

pub methods_are : (cs : List ClassFile) → chosen MethodWithCode cs ++ chosen OtherMethod cs ≡ methods_by_number cs
unfolding methods_by_number
methods_are cs = refl

pub fields_are : (cs : List ClassFile) → chosen Field cs ≡ fields_by_number cs
unfolding fields_by_number
fields_are cs = all_kept (places_of (λ c. c.fields) cs)

pub statics_are : (cs : List ClassFile) → chosen StaticField cs ≡ static_fields cs
unfolding fields_by_number
statics_are cs = refl
