-- How many words the pools and the methods take.
use Rattle.std.proofs.Common.{◌≡◌, ℕ, zero, suc, ◌+◌, ◌*◌, ◌^◌, Bool, true, false, eqb, List, [], ◌∷◌, ◌++◌, Option, Some, None, take, length, length-append, refl, sym, ap, ap₂, ◌∙◌, arith}
use Rattle.std.specs.Prelude.{slice_get, sum_by, if◌then◌else◌}
use Rattle.std.specs.Option.{option_map_or}
use Rattle.std.specs.List.{flat_map, enumerate_from, range_with_len}
use Rattle.std.proofs.lemmas.List.Sums.{sum_by-cons}
use Rattle.std.proofs.lemmas.List.FromFn.{length-range_with_len}
use Rattle.class_pool.specs.declared.entry.Entry.{Entry}
use Rattle.class_pool.specs.declared.entry.Entry.TheVariants as entries
use Rattle.class_pool.specs.Grammar.{entry_at}
use Rattle.class_pool.specs.declared.class.ClassFile.{ClassFile}
use Rattle.base.specs.Packed.{words_for, words_of_bytes, PackedHasWords}
use Rattle.bytecode_model.specs.Program.{Method, Body, Handler}
use Rattle.image_facts.specs.Places.{Places}
use Rattle.image_facts.specs.Says.{argument_words_of, handler_words, method_words}
use Rattle.image_facts.proofs.Pieces.{length_in}
use Rattle.lists.specs.Lists.{onto}
use Rattle.lists.proofs.Lemmas.{none≢some}
use Rattle.class_lookup.specs.Lookup.{Place}
use Rattle.program_tables.specs.Instructions.{signature_in}
use Rattle.program_tables.specs.Operands.{field_named}
use Rattle.program_tables.specs.Resolved.{resolved}
use Rattle.image_words.specs.Layout.{pool_words, body_size, method_size, types_size, tables_size, interfaces_size, pools_size, methods_size, middle_size}
use Rattle.image_words.specs.Pools.{no_words, naming, field_words, words_of_entry, entry_words, pool_image}
use Rattle.image_words.specs.Regions.{types_region, tables_region, interfaces_region, pools_region, method_image, methods_region, middle_of}
use Rattle.image_words.proofs.Words.{equal_sum}
use Rattle.image_words.proofs.Placing.{types_length, tables_length, interfaces_length}

-- ---- enumerated lists

enumerated_sum : {A : Type 0} (size : A → ℕ) (n : ℕ) (xs : List A) → sum_by (λ (e : ℕ × A). size e.1) (enumerate_from n xs) ≡ sum_by size xs
enumerated_sum size n [] = refl
enumerated_sum {A} size n (x ∷ xs) =
    sum_by-cons (λ (e : ℕ × A). size e.1) (n, x) (enumerate_from (n + 1) xs) ∙ (ap (λ k. size x + k) (enumerated_sum size (n + 1) xs) ∙ sym (sum_by-cons size x xs))

take_enumerated : {A : Type 0} (n i : ℕ) (xs : List A) → take i (enumerate_from n xs) ≡ enumerate_from n (take i xs)
take_enumerated n zero xs = refl
take_enumerated n (suc i) [] = refl
take_enumerated n (suc i) (x ∷ xs) = ap (λ ys. (n, x) ∷ ys) (take_enumerated (n + 1) i xs)

pub enumerated_place : {A : Type 0} (size : A → ℕ) (i : ℕ) (xs : List A) → sum_by (λ (e : ℕ × A). size e.1) (take i (enumerate_from 0 xs)) ≡ sum_by size (take i xs)
enumerated_place {A} size i xs = ap (sum_by (λ (e : ℕ × A). size e.1)) (take_enumerated 0 i xs) ∙ enumerated_sum size 0 (take i xs)

pub take_length : {A : Type 0} (xs : List A) (i : ℕ) (x : A) → slice_get xs i ≡ Some x → length (take i xs) ≡ i
take_length [] i x h = absurd (none≢some x h)
take_length (y ∷ xs) zero x h = refl
take_length (y ∷ xs) (suc i) x h = ap suc (take_length xs i x h)

-- ---- pools

pair_case : (b : Bool) (ws : List ℕ) → length ws ≡ 2 → length (if b then no_words else ws) ≡ 2
pair_case true ws h = refl
pair_case false ws h = h

field_case : (f : Place → List ℕ) (o : Option Place) → ((p : Place) → length (f p) ≡ 2) → length (option_map_or f o no_words) ≡ 2
field_case f None h = refl
field_case f (Some p) h = h p

words_length : (cs : List ClassFile) (pl : Places) (c : ℕ) (k : ClassFile) (index : ℕ) (o : Option Entry) → length (words_of_entry cs pl c k index o) ≡ 2
words_length cs pl c k index (Some (entries.Field owner member)) = field_case (field_words cs pl) (onto (signature_in k.pool member) (field_named cs k owner)) (λ p. refl)
words_length cs pl c k index o = refl

pub entry_length : (cs : List ClassFile) (pl : Places) (c : ℕ) (k : ClassFile) (index : ℕ) → length (entry_words cs pl c k index) ≡ 2
entry_length cs pl c k index =
    pair_case (eqb (length (naming k index)) 0) (words_of_entry cs pl c k index (entry_at k.pool index)) (words_length cs pl c k index (entry_at k.pool index))

pub twice : (n : ℕ) → n * 2 ≡ 2 * n
twice n = omega arith

pub pool_length : (cs : List ClassFile) (pl : Places) (e : ℕ × ClassFile) → length (pool_image cs pl e.0 e.1) ≡ pool_words e.1
pool_length cs pl e =
    let indexes = range_with_len 0 (1 + length e.1.pool) in
    length_in (entry_words cs pl e.0 e.1) (λ i. 2) (entry_length cs pl e.0 e.1) indexes
    ∙ (equal_sum 2 indexes ∙ (ap (λ n. n * 2) (length-range_with_len 0 (1 + length e.1.pool)) ∙ twice (1 + length e.1.pool)))

pools_length : (cs : List ClassFile) (pl : Places) → length (pools_region cs pl) ≡ pools_size cs
pools_length cs pl = length_in (λ (e : ℕ × ClassFile). pool_image cs pl e.0 e.1) (λ e. pool_words e.1) (pool_length cs pl) (enumerate_from 0 cs) ∙ enumerated_sum pool_words 0 cs

-- ---- methods

four : (n a b c d : ℕ) (xs : List ℕ) → length xs ≡ n → length (a ∷ b ∷ c ∷ d ∷ xs) ≡ 4 + n
four n a b c d xs h = omega (arith, h)

thrice : (n : ℕ) → n * 3 ≡ 3 * n
thrice n = omega arith

pub added : (xs ys : List ℕ) (a b : ℕ) → length xs ≡ a → length ys ≡ b → length (xs ++ ys) ≡ a + b
added xs ys a b h k = length-append xs ys ∙ ap₂ (λ (x : ℕ) (y : ℕ). x + y) h k

body_case : PackedHasWords → (cs : List ClassFile) (pl : Places) (k : Method) (o : Option Body) → length (option_map_or (method_words (resolved cs) pl k) o []) ≡ option_map_or body_size o 0
body_case law cs pl k None = refl
body_case law cs pl k (Some b) =
    let P = resolved cs in
    let table = length_in (handler_words P) (λ (h : Handler). 3) (λ h. refl) b.handlers ∙ (equal_sum 3 b.handlers ∙ thrice (length b.handlers)) in
    let both = added (flat_map (handler_words P) b.handlers) (words_of_bytes b.code) (3 * length b.handlers) (words_for (length b.code)) table (law b.code) in
    four (3 * length b.handlers + words_for (length b.code)) (b.max_locals * 2 ^ 16 + b.max_stack) (argument_words_of k * 2 ^ 16 + words_for (length b.code)) (pl.pool k.owner) (length b.handlers) (flat_map (handler_words P) b.handlers ++ words_of_bytes b.code) both

pub method_length : PackedHasWords → (cs : List ClassFile) (pl : Places) (k : Method) → length (method_image cs pl k) ≡ method_size k
method_length law cs pl k = body_case law cs pl k k.body

methods_length : PackedHasWords → (cs : List ClassFile) (pl : Places) → length (methods_region cs pl) ≡ methods_size cs
methods_length law cs pl = length_in (method_image cs pl) method_size (method_length law cs pl) (resolved cs).methods

-- ---- the middle

pub tail_lengths : (cs : List ClassFile) (pl : Places) → (length (types_region cs pl) ≡ types_size cs) × (length (tables_region cs pl) ≡ tables_size cs) × (length (interfaces_region cs pl) ≡ interfaces_size cs)
    × (length (pools_region cs pl) ≡ pools_size cs)
tail_lengths cs pl = (types_length cs pl, tables_length cs pl, interfaces_length cs pl, pools_length cs pl)

pub middle_length : PackedHasWords → (cs : List ClassFile) (pl : Places) → length (middle_of cs pl) ≡ middle_size cs
middle_length law cs pl =
    let methods = methods_region cs pl in
    let pools = pools_region cs pl in
    let interfaces = interfaces_region cs pl in
    let tables = tables_region cs pl in
    let a = added pools methods (pools_size cs) (methods_size cs) (pools_length cs pl) (methods_length law cs pl) in
    let b = added interfaces (pools ++ methods) (interfaces_size cs) (pools_size cs + methods_size cs) (interfaces_length cs pl) a in
    let c = added tables (interfaces ++ (pools ++ methods)) (tables_size cs) (interfaces_size cs + (pools_size cs + methods_size cs)) (tables_length cs pl) b in
    added (types_region cs pl) (tables ++ (interfaces ++ (pools ++ methods))) (types_size cs) (tables_size cs + (interfaces_size cs + (pools_size cs + methods_size cs))) (types_length cs pl) c
