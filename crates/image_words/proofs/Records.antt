-- The records of methods and types, and the entries of pools, lie at their places.
use Rattle.std.proofs.Common.{◌≡◌, ℕ, zero, suc, ◌+◌, ◌*◌, List, [], ◌∷◌, ◌++◌, Option, Some, take, length, ap, ◌∙◌, subst, arith}
use Rattle.std.specs.Prelude.{slice_get, sum_by}
use Rattle.std.specs.Option.{option_map_or}
use Rattle.std.specs.List.{enumerate_from, range_with_len}
use Rattle.class_pool.specs.declared.class.ClassFile.{ClassFile}
use Rattle.base.specs.Packed.{PackedHasWords}
use Rattle.bytecode_model.specs.Types.{Kind}
use Rattle.bytecode_model.specs.Program.{Method, Body}
use Rattle.lists.proofs.Lemmas.{none≢some, some_same}
use Rattle.image_facts.specs.Within.{LieAt}
use Rattle.image_facts.specs.Places.{AreFixed}
use Rattle.image_facts.specs.Says.{method_words}
use Rattle.image_facts.proofs.Pieces.{lie_in, lie_through}
use Rattle.program_tables.specs.Numbers.{types_of}
use Rattle.program_tables.specs.Resolved.{resolved}
use Rattle.image_words.specs.Layout.{type_words, pool_words, method_size, types_size, tables_size, interfaces_size, pools_size, types_place, tables_place, interfaces_place, pools_place, methods_place, type_place, method_place, outline_of}
use Rattle.image_words.specs.Pools.{entry_words, pool_image}
use Rattle.image_words.specs.Regions.{type_image, types_region, tables_region, interfaces_region, pools_region, method_image, methods_region, places_of}
use Rattle.image_words.specs.Laws.{MethodsLie, TypesLie, EntriesLie}
use Rattle.image_words.proofs.Words.{lie_behind, lie_ahead, range_get, equal_sum}
use Rattle.image_words.proofs.Placing.{in_middle, type_length}
use Rattle.image_words.proofs.Sizes.{enumerated_place, take_length, entry_length, twice, pool_length, method_length, tail_lengths}

enumerated : {A : Type 0} (xs : List A) (n i : ℕ) (x : A) → slice_get xs i ≡ Some x → slice_get (enumerate_from n xs) i ≡ Some (n + i, x)
enumerated [] n i x h = absurd (none≢some x h)
enumerated (y ∷ xs) n zero x h = let same : n ≡ n + 0 = omega arith in ap (λ k. Some (k, y)) same ∙ ap (λ z. Some (n + 0, z)) (some_same y x h)
enumerated (y ∷ xs) n (suc i) x h = let same : n + 1 + i ≡ n + suc i = omega arith in enumerated xs (n + 1) i x h ∙ ap (λ k. Some (k, x)) same

abbrev Fixed : List ClassFile → ℕ → List ℕ → Type 0
Fixed cs place words = AreFixed (resolved cs) (places_of cs) place words

step : (front rest : List ℕ) (n k : ℕ) (words : List ℕ) → length front ≡ n → LieAt rest k words → LieAt (front ++ rest) (n + k) words
step front rest n k words h l = subst (λ m. LieAt (front ++ rest) (m + k) words) h (lie_behind front rest k words l)

regroup : (a b k : ℕ) → a + (b + k) ≡ a + b + k
regroup a b k = omega arith

-- ---- the regions in the middle

types_fixed : (cs : List ClassFile) (k : ℕ) (words : List ℕ) → LieAt (types_region cs (outline_of cs)) k words → Fixed cs (types_place cs + k) words
types_fixed cs k words l =
    let pl = outline_of cs in
    in_middle cs k words (lie_ahead (types_region cs pl) (tables_region cs pl ++ (interfaces_region cs pl ++ (pools_region cs pl ++ methods_region cs pl))) k words l)

-- behind the types and the tables
tail_fixed : (cs : List ClassFile) (k : ℕ) (words : List ℕ) → LieAt (pools_region cs (outline_of cs) ++ methods_region cs (outline_of cs)) k words → Fixed cs (pools_place cs + k) words
tail_fixed cs k words l =
    let pl = outline_of cs in
    let n = tail_lengths cs pl in
    let rest = pools_region cs pl ++ methods_region cs pl in
    let interfaces = interfaces_region cs pl in
    let tables = tables_region cs pl in
    let a = step interfaces rest (interfaces_size cs) k words n.2 l in
    let b = step tables (interfaces ++ rest) (tables_size cs) (interfaces_size cs + k) words n.1 a in
    let c = step (types_region cs pl) (tables ++ (interfaces ++ rest)) (types_size cs) (tables_size cs + (interfaces_size cs + k)) words n.0 b in
    let place = regroup (types_place cs) (types_size cs) (tables_size cs + (interfaces_size cs + k))
    ∙ (regroup (tables_place cs) (tables_size cs) (interfaces_size cs + k) ∙ regroup (interfaces_place cs) (interfaces_size cs) k) in
    subst (λ m. Fixed cs m words) place (in_middle cs (types_size cs + (tables_size cs + (interfaces_size cs + k))) words c)

pools_fixed : (cs : List ClassFile) (k : ℕ) (words : List ℕ) → LieAt (pools_region cs (outline_of cs)) k words → Fixed cs (pools_place cs + k) words
pools_fixed cs k words l = tail_fixed cs k words (lie_ahead (pools_region cs (outline_of cs)) (methods_region cs (outline_of cs)) k words l)

methods_fixed : (cs : List ClassFile) (k : ℕ) (words : List ℕ) → LieAt (methods_region cs (outline_of cs)) k words → Fixed cs (methods_place cs + k) words
methods_fixed cs k words l =
    let pl = outline_of cs in
    let n = tail_lengths cs pl in
    subst (λ m. Fixed cs m words) (regroup (pools_place cs) (pools_size cs) k)
    (tail_fixed cs (pools_size cs + k) words (step (pools_region cs pl) (methods_region cs pl) (pools_size cs) k words n.3 l))

-- ---- methods

method_at : PackedHasWords → (cs : List ClassFile) (m : ℕ) (k : Method) (b : Body) → slice_get (resolved cs).methods m ≡ Some k → k.body ≡ Some b → Fixed cs (method_place cs m) (method_words (resolved cs) (outline_of cs) k b)
method_at law cs m k b h hb =
    let P = resolved cs in
    let pl = outline_of cs in
    let l = lie_in (method_image cs pl) method_size (method_length law cs pl) P.methods m k h in
    subst (Fixed cs (method_place cs m)) (ap (λ (o : Option Body). option_map_or (method_words P pl k) o []) hb)
    (methods_fixed cs (sum_by method_size (take m P.methods)) (method_image cs pl k) l)

pub methods : PackedHasWords → MethodsLie
unfolding places_of
methods law cs m k b h hb = method_at law cs m k b h hb

-- ---- types

type_at : (cs : List ClassFile) (t : ℕ) (k : Kind) → slice_get (types_of cs) t ≡ Some k → Fixed cs (type_place cs t) (type_image cs (outline_of cs) (t, k))
type_at cs t k h =
    let pl = outline_of cs in
    let types = types_of cs in
    let w = type_words cs in
    let zero_more : 0 + t ≡ t = omega arith in
    let at : slice_get (enumerate_from 0 types) t ≡ Some (t, k) = enumerated types 0 t k h ∙ ap (λ (n : ℕ). Some (n, k)) zero_more in
    let l = lie_in (type_image cs pl) (λ e. w) (type_length cs pl) (enumerate_from 0 types) t (t, k) at in
    let before = take t (enumerate_from 0 types) in
    let place : sum_by (λ (e : ℕ × Kind). w) before ≡ t * w = equal_sum w before ∙ ap (λ n. n * w) (take_length (enumerate_from 0 types) t (t, k) at) in
    types_fixed cs (t * w) (type_image cs pl (t, k)) (subst (λ n. LieAt (types_region cs pl) n (type_image cs pl (t, k))) place l)

pub types : TypesLie
unfolding places_of
types cs t k h = type_at cs t k h

-- ---- pools

pub entries : EntriesLie
entries cs c k index h le =
    let pl = outline_of cs in
    let indexes = range_with_len 0 (1 + length k.pool) in
    let zero_more : 0 + c ≡ c = omega arith in
    let same : 0 + index ≡ index = omega arith in
    let at : slice_get (enumerate_from 0 cs) c ≡ Some (c, k) = enumerated cs 0 c k h ∙ ap (λ (n : ℕ). Some (n, k)) zero_more in
    let listed : slice_get indexes index ≡ Some index = range_get 0 (1 + length k.pool) index (omega (arith, le)) ∙ ap Some same in
    let words = entry_words cs pl c k index in
    let inner = lie_in (entry_words cs pl c k) (λ i. 2) (entry_length cs pl c k) indexes index index listed in
    let before = take index indexes in
    let part : sum_by (λ (i : ℕ). 2) before ≡ 2 * index = equal_sum 2 before ∙ (ap (λ n. n * 2) (take_length indexes index index listed) ∙ twice index) in
    let own : LieAt (pool_image cs pl c k) (2 * index) words = subst (λ n. LieAt (pool_image cs pl c k) n words) part inner in
    let pool = lie_in (λ (e : ℕ × ClassFile). pool_image cs pl e.0 e.1) (λ e. pool_words e.1) (pool_length cs pl) (enumerate_from 0 cs) c (c, k) at in
    let there : LieAt (pools_region cs pl) (sum_by pool_words (take c cs)) (pool_image cs pl c k) =
    subst (λ n. LieAt (pools_region cs pl) n (pool_image cs pl c k)) (enumerated_place pool_words c cs) pool in
    let l = lie_through (pools_region cs pl) (sum_by pool_words (take c cs)) (pool_image cs pl c k) (2 * index) words there own in
    subst (λ n. Fixed cs n words) (regroup (pools_place cs) (sum_by pool_words (take c cs)) (2 * index)) (pools_fixed cs (sum_by pool_words (take c cs) + 2 * index) words l)
