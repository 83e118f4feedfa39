-- Types that have numbers, and lists of these numbers.
use Rattle.std.proofs.Common.{◌≡◌, ℕ, zero, suc, ◌+◌, ◌-◌, ◌<◌, ◌≤◌, ◌^◌, true, false, List, [], ◌∷◌, ◌++◌, length, map, set, take, get_or, replicate, All, Option, Some, None, append_assoc, length-append, refl, sym, ap, ap₂, ◌∙◌, subst, arith}
use Rattle.std.specs.Prelude.{slice_get, IfSome, Result, Ok, Err, OnOk, OnErr, ◌⊎◌}
use Rattle.std.proofs.Common.{inl, inr}
use Rattle.std.proofs.lemmas.Grind.{take_at_read}
use Rattle.std.specs.Option.{option_map, option_map_or}
use Rattle.std.proofs.Math.ListN.{get_or-map}
use Rattle.std.proofs.lemmas.Option.{slice_get-map}
use Rattle.std.proofs.lemmas.List.{get_or_append_left, map-append, map-set, length-map}
use Rattle.std.proofs.lemmas.List.Elements.{All-append, All-replicate}
use Rattle.lists.proofs.Lemmas.{none≢some, some_same}
use Rattle.persistent_lists.specs.Tables as tables
use Rattle.persistent_lists.specs.Tables.{ListTable, with_list, changed_list}
use Rattle.persistent_lists.specs.Answers.{AreKnown}
use Rattle.class_pool.specs.declared.class.ClassFile.{ClassFile}
use Rattle.bytecode_model.specs.Program.{Program}
use Rattle.bytecode_model.specs.Slots.{padded}
use Rattle.bytecode_model.specs.Lists.{onto}
use Rattle.bytecode_typing.specs.Types as typing
use Rattle.verifier_types.specs.declared.types.VarType.{VarType}
use Rattle.verifier_types.specs.declared.types.VarType.TheVariants.{Top}
use Rattle.verifier_types.specs.Seen.{type_seen, types_seen}
use Rattle.verifier_types.specs.Locals.{LocalTable, with_types, filled, types_at, changed_types}
use Rattle.verifier_types.specs.Compared.{is_assignable_at, AreAssignable}
use Rattle.verifier_types.specs.Numbered.{type_numbered, lists_numbered, AreNumbered, Grows, IsNumberOf, AreNumbersOf}

-- ---- the types grow

pub grown_twice : (a b c : List VarType) → Grows a b → Grows b c → Grows a c
grown_twice a b c m n = (m.0 ++ n.0, n.1 ∙ (ap (λ l. l ++ n.0) m.1 ∙ append_assoc a m.0 n.0))

pub grown_length : (old new : List VarType) → Grows old new → length old ≤ length new
grown_length old new more = let e = ap length more.1 in omega (arith, e, length-append old more.0)

pub type_kept : (old new : List VarType) (n : ℕ) → Grows old new → n < length old → type_numbered new n ≡ type_numbered old n
type_kept old new n more lt = ap (λ l. get_or l n Top) more.1 ∙ get_or_append_left old more.0 Top n lt

pub all_kept : (old new : List VarType) (ns : List ℕ) → Grows old new → All (λ n. n < length old) ns → All (λ n. n < length new) ns
all_kept old new ns more all = λ k d lt. let h = all k d lt in omega (arith, h, grown_length old new more)

-- the types of a list
abbrev pub seen_of : List VarType → List ℕ → List typing.VarType
seen_of types ns = map (λ n. type_seen (type_numbered types n)) ns

pub list_kept : (old new : List VarType) (ns : List ℕ) → Grows old new → All (λ n. n < length old) ns → seen_of new ns ≡ seen_of old ns
list_kept old new [] more all = refl
list_kept old new (n ∷ ns) more all =
    ap₂ (λ a b. a ∷ b) (ap type_seen (type_kept old new n more (all 0 n (omega arith)))) (list_kept old new ns more (λ k d lt. all (suc k) d (omega (arith, lt))))

pub lists_kept : (old new : List VarType) (ls : List (List ℕ)) → Grows old new → All (All (λ n. n < length old)) ls → lists_numbered new ls ≡ lists_numbered old ls
lists_kept old new [] more all = refl
lists_kept old new (l ∷ ls) more all =
    ap₂ (λ a b. a ∷ b) (list_kept old new l more (all 0 l (omega arith))) (lists_kept old new ls more (λ k d lt. all (suc k) d (omega (arith, lt))))

pub all_lists_kept : (old new : List VarType) (ls : List (List ℕ)) → Grows old new → All (All (λ n. n < length old)) ls → All (All (λ n. n < length new)) ls
all_lists_kept old new ls more all = λ k d lt. all_kept old new (get_or ls k d) more (all k d lt)

one : (P : List ℕ → Type 0) (x : List ℕ) → P x → All P (x ∷ [])
one P x h zero d lt = h
one P x h (suc k) d lt = absurd (omega (arith, lt))

first_kept : (old new : List VarType) → Grows old new → slice_get old 0 ≡ Some Top → slice_get new 0 ≡ Some Top
first_kept old new more e = ap (λ l. slice_get l 0) more.1 ∙ front old more.0 e
  where
    front : (xs ys : List VarType) → slice_get xs 0 ≡ Some Top → slice_get (xs ++ ys) 0 ≡ Some Top
    front [] ys e = absurd (none≢some Top e)
    front (x ∷ xs) ys e = e

pub numbered_kept : (old new : List VarType) (t : ListTable) → Grows old new → AreNumbered old t → AreNumbered new t
numbered_kept old new t more are = (are.0, first_kept old new more are.1, are.2, all_lists_kept old new t.lists more are.3)

pub numbered_more : (types : List VarType) (t : ListTable) (ns : List ℕ) → AreNumbered types t → All (λ n. n < length types) ns → AreNumbered types (with_list t ns)
numbered_more types t ns are all = (are.0, are.1, are.2, All-append (All (λ n. n < length types)) t.lists (ns ∷ []) are.3 (one (All (λ n. n < length types)) ns all))

-- ---- the table that is seen

abbrev pub table : List ClassFile → List VarType → ListTable → LocalTable
table cs types t = record { classes = cs; max_locals = t.width; lists = lists_numbered types t.lists }

pub kept_view : (cs : List ClassFile) (old new : List VarType) (t u : ListTable) → Grows old new → AreNumbered old t → u ≡ t → table cs new u ≡ table cs old t
kept_view cs old new t u more are e = ap (table cs new) e ∙ ap (λ ls. let l : LocalTable = record { classes = cs; max_locals = t.width; lists = ls } in l) (lists_kept old new t.lists more are.3)

pub more_view : (cs : List ClassFile) (old new : List VarType) (t u : ListTable) (ns : List ℕ) (ts : List typing.VarType) → Grows old new → AreNumbered old t → u ≡ with_list t ns → seen_of new ns ≡ ts → table cs new u ≡ with_types (table cs old t) ts
more_view cs old new t u ns ts more are e is =
    ap (table cs new) e
    ∙ ap (λ ls. let l : LocalTable = record { classes = cs; max_locals = t.width; lists = ls } in l)
    (map-append (seen_of new) t.lists (ns ∷ []) ∙ ap₂ (λ a b. a ++ b ∷ []) (lists_kept old new t.lists more are.3) is)

-- ---- the list that is added

seen_rests : (types : List VarType) (k r : ℕ) → r ≡ 0 → slice_get types 0 ≡ Some Top → seen_of types (replicate k r) ≡ replicate k typing.Top
seen_rests types zero r e h = refl
seen_rests types (suc k) r e h = ap₂ (λ a b. a ∷ b) (ap (λ (n : ℕ). type_seen (type_numbered types n)) e ∙ ap type_seen (first types h)) (seen_rests types k r e h)
  where
    first : (types : List VarType) → slice_get types 0 ≡ Some Top → get_or types 0 Top ≡ Top
    first [] h = refl
    first (x ∷ xs) h = some_same x Top h

seen_given : (types : List VarType) (ns : List ℕ) → seen_of types ns ≡ types_seen (map (type_numbered types) ns)
seen_given types [] = refl
seen_given types (n ∷ ns) = ap (λ l. type_seen (type_numbered types n) ∷ l) (seen_given types ns)

pub filled_seen : (types locals : List VarType) (t : ListTable) (ns : List ℕ) → AreNumbered types t → AreNumbersOf types locals ns
    → seen_of types (tables.filled t ns) ≡ filled t.width (types_seen locals)
filled_seen types locals t ns are numbers =
    let same : length ns ≡ length (types_seen locals) = sym (length-map ns (type_numbered types)) ∙ (ap length numbers.1 ∙ sym (length-map locals type_seen)) in
    map-append (λ n. type_seen (type_numbered types n)) ns (replicate (t.width - length ns) t.rest)
    ∙ ap₂ (λ a b. a ++ b) (seen_given types ns ∙ ap types_seen numbers.1) (seen_rests types (t.width - length ns) t.rest are.0 are.1 ∙ ap (λ (n : ℕ). replicate (t.width - n) typing.Top) same)

rest_fits : (types : List VarType) (t : ListTable) → AreNumbered types t → t.rest < length types
rest_fits types t are = subst (λ (n : ℕ). n < length types) (sym are.0) (within types are.1)
  where
    within : (types : List VarType) → slice_get types 0 ≡ Some Top → 0 < length types
    within [] e = absurd (none≢some Top e)
    within (x ∷ xs) e = omega arith

pub filled_fits : (types locals : List VarType) (t : ListTable) (ns : List ℕ) → AreNumbered types t → AreNumbersOf types locals ns → All (λ n. n < length types) (tables.filled t ns)
filled_fits types locals t ns are numbers =
    All-append (λ n. n < length types) ns (replicate (t.width - length ns) t.rest) numbers.0 (All-replicate (λ n. n < length types) (t.width - length ns) t.rest (rest_fits types t are))

no_numbers : (types : List VarType) → AreNumbersOf types [] []
no_numbers types = ((λ k d lt. absurd (omega (arith, lt))), refl)

all_set : (types : List VarType) (ns : List ℕ) (i n : ℕ) → All (λ m. m < length types) ns → n < length types → All (λ m. m < length types) (set ns i n)
all_set types [] i n all lt k d h = all k d h
all_set types (m ∷ ns) zero n all lt zero d h = lt
all_set types (m ∷ ns) zero n all lt (suc k) d h = all (suc k) d h
all_set types (m ∷ ns) (suc i) n all lt zero d h = all 0 d (omega arith)
all_set types (m ∷ ns) (suc i) n all lt (suc k) d h = all_set types ns i n (λ j e l. all (suc j) e (omega (arith, l))) lt k d (omega (arith, h))

changed_case : (types : List VarType) (t : ListTable) (i n : ℕ) (x : VarType) (o : Option (List ℕ)) (all : (ns : List ℕ) → o ≡ Some ns → All (λ m. m < length types) ns) → AreNumbered types t → IsNumberOf types x n
    → (seen_of types (option_map_or (λ ns. set ns i n) o (tables.filled t [])) ≡ option_map_or (λ ts. set ts i (type_seen x)) (option_map (seen_of types) o) (filled t.width []))
    × All (λ m. m < length types) (option_map_or (λ ns. set ns i n) o (tables.filled t []))
changed_case types t i n x None all are is = (filled_seen types [] t [] are (no_numbers types), filled_fits types [] t [] are (no_numbers types))
changed_case types t i n x (Some ns) all are is =
    (map-set (λ m. type_seen (type_numbered types m)) ns i n ∙ ap (λ y. set (seen_of types ns) i (type_seen y)) is.1, all_set types ns i n (all ns refl) is.0)

list_fits : (types : List VarType) (ls : List (List ℕ)) (k : ℕ) → All (All (λ m. m < length types)) ls → (ns : List ℕ) → slice_get ls k ≡ Some ns → All (λ m. m < length types) ns
list_fits types [] k all ns e = absurd (none≢some ns e)
list_fits types (l ∷ ls) zero all ns e = subst (λ l. All (λ m. m < length types) l) (some_same l ns e) (all 0 l (omega arith))
list_fits types (l ∷ ls) (suc k) all ns e = list_fits types ls k (λ j d lt. all (suc j) d (omega (arith, lt))) ns e

pub changed_seen : (cs : List ClassFile) (types : List VarType) (t : ListTable) (k i n : ℕ) (x : VarType) → AreNumbered types t → IsNumberOf types x n
    → (seen_of types (changed_list t k i n) ≡ changed_types (table cs types t) k i (type_seen x)) × All (λ m. m < length types) (changed_list t k i n)
changed_seen cs types t k i n x are is =
    let c = changed_case types t i n x (slice_get t.lists k) (list_fits types t.lists k are.3) are is in
    (c.0 ∙ ap (λ o. option_map_or (λ ts. set ts i (type_seen x)) o (filled t.width [])) (sym (slice_get-map (seen_of types) t.lists k)), c.1)

-- ---- what is read

pub types_numbered : (types : List VarType) (t : ListTable) (k : ℕ) → types_at (lists_numbered types t.lists) k ≡ seen_of types (tables.list_at t k)
types_numbered types t k = get_or-map (seen_of types) t.lists k []

pub item_seen : (types : List VarType) (t : ListTable) (k i : ℕ) → slice_get (types_at (lists_numbered types t.lists) k) i ≡ option_map (λ n. type_seen (type_numbered types n)) (slice_get (tables.list_at t k) i)
item_seen types t k i = ap (λ l. slice_get l i) (types_numbered types t k) ∙ slice_get-map (λ n. type_seen (type_numbered types n)) (tables.list_at t k) i

-- ---- types that are filled up

pub padded_filled : (n : ℕ) (ts : List typing.VarType) → length ts ≤ n → padded typing.Top n ts ≡ Some (filled n ts)
padded_filled zero [] le = refl
padded_filled zero (t ∷ ts) le = absurd (omega (arith, le))
padded_filled (suc n) [] le = ap (λ o. onto o (λ ws. Some (typing.Top ∷ ws))) (padded_filled n [] (omega arith)) ∙ ap Some (rests n)
  where
    rests : (n : ℕ) → typing.Top ∷ replicate (n - 0) typing.Top ≡ replicate (suc n - 0) typing.Top
    rests n = let e : n - 0 ≡ n = omega arith in let f : suc n ≡ suc n - 0 = omega arith in ap (λ (k : ℕ). typing.Top ∷ replicate k typing.Top) e ∙ ap (λ (k : ℕ). replicate k typing.Top) f
padded_filled (suc n) (t ∷ ts) le =
    let count : n - length ts ≡ suc n - length (t ∷ ts) = omega arith in
    ap (λ o. onto o (λ ws. Some (t ∷ ws))) (padded_filled n ts (omega (arith, le))) ∙ ap (λ (k : ℕ). Some (t ∷ ts ++ replicate k typing.Top)) count

-- ---- beyond the lists

pub beyond_seen : (types : List VarType) (t : ListTable) (n i : ℕ) → slice_get (tables.list_at t n) i ≡ None → slice_get (types_at (lists_numbered types t.lists) n) i ≡ None
beyond_seen types t n i e = item_seen types t n i ∙ ap (option_map (λ m. type_seen (type_numbered types m))) e

pub within_all : (o : Option ℕ) (w : ℕ) → w < 2 ^ 16 → IfSome o (λ k. k < w) → IfSome o (λ k. k < 2 ^ 16)
within_all None w lt h = tt
within_all (Some k) w lt h = omega (arith, lt, h)

pub item_some : (types : List VarType) (t : ListTable) (k i n : ℕ) (x : VarType) → slice_get (tables.list_at t k) i ≡ Some n → x ≡ type_numbered types n → Some (type_seen x) ≡ slice_get (types_at (lists_numbered types t.lists) k) i
item_some types t k i n x at e = ap (λ y. Some (type_seen y)) e ∙ sym (item_seen types t k i ∙ ap (option_map (λ m. type_seen (type_numbered types m))) at)

pub item_none : (types : List VarType) (t : ListTable) (k i : ℕ) → slice_get (tables.list_at t k) i ≡ None → None ≡ slice_get (types_at (lists_numbered types t.lists) k) i
item_none types t k i at = sym (beyond_seen types t k i at)

-- ---- one number more

numbers_kept : (old new : List VarType) (ns : List ℕ) → Grows old new → All (λ n. n < length old) ns → map (type_numbered new) ns ≡ map (type_numbered old) ns
numbers_kept old new [] more all = refl
numbers_kept old new (n ∷ ns) more all = ap₂ (λ a b. a ∷ b) (type_kept old new n more (all 0 n (omega arith))) (numbers_kept old new ns more (λ k d lt. all (suc k) d (omega (arith, lt))))

one_number : (P : ℕ → Type 0) (x : ℕ) → P x → All P (x ∷ [])
one_number P x h zero d lt = h
one_number P x h (suc k) d lt = absurd (omega (arith, lt))

pub numbers_more : (old new locals : List VarType) (i n : ℕ) (ns ms : List ℕ) → Grows old new → i < length locals → AreNumbersOf old (take i locals) ns → IsNumberOf new (get_or locals i Top) n → ms ≡ ns ++ n ∷ []
    → AreNumbersOf new (take (i + 1) locals) ms
numbers_more old new locals i n ns ms more lt are is e = subst (λ l. AreNumbersOf new (take (i + 1) locals) l) (sym e) (
  All-append (λ m. m < length new) ns (n ∷ []) (all_kept old new ns more are.0) (one_number (λ m. m < length new) n is.0),
  map-append (type_numbered new) ns (n ∷ []) ∙ (ap₂ (λ a b. a ++ b ∷ []) (numbers_kept old new ns more are.0 ∙ are.1) is.1 ∙ sym (take_at_read locals i Top lt).1),
)

pub either : {T E : Type 0} (r : Result T E) (P Q : Type 0) → OnOk r P → OnErr r Q → P ⊎ Q
either (Ok x) P Q p q = inl p
either (Err x) P Q p q = inr q

pub on_ok : {T E : Type 0} (r : Result T E) (P Q : Type 0) → (P → Q) → OnOk r P → OnOk r Q
on_ok (Ok x) P Q f p = f p
on_ok (Err x) P Q f p = tt

pub on_err : {T E : Type 0} (r : Result T E) (P Q : Type 0) → (P → Q) → OnErr r P → OnErr r Q
on_err (Ok x) P Q f p = tt
on_err (Err x) P Q f p = f p

pub always_err : {T E : Type 0} (r : Result T E) (P : Type 0) → P → OnErr r P
always_err (Ok x) P p = tt
always_err (Err x) P p = p

-- the table after a list is added, or isn't
pub numbered_after : (types : List VarType) (t u : ListTable) (ns : List ℕ) → AreNumbered types t → All (λ n. n < length types) ns → (u ≡ with_list t ns) ⊎ (u ≡ t) → AreNumbered types u
numbered_after types t u ns are all (inl e) = subst (λ v. AreNumbered types v) (sym e) (numbered_more types t ns are all)
numbered_after types t u ns are all (inr e) = subst (λ v. AreNumbered types v) (sym e) are

-- ---- what is known of types

pub type_there : (types : List VarType) (n : ℕ) → n < length types → slice_get types n ≡ Some (type_numbered types n)
type_there [] n lt = absurd (omega (arith, lt))
type_there (t ∷ ts) zero lt = refl
type_there (t ∷ ts) (suc n) lt = type_there ts n (omega (arith, lt))

still_there : (xs ys : List VarType) (n : ℕ) (x : VarType) → slice_get xs n ≡ Some x → slice_get (xs ++ ys) n ≡ Some x
still_there [] ys n x e = absurd (none≢some x e)
still_there (y ∷ xs) ys zero x e = e
still_there (y ∷ xs) ys (suc n) x e = still_there xs ys n x e

-- a type of which it is known that it may stand for another has a number, and so it stays
both_kept : (P : Program) (old more : List VarType) (a b : ℕ) (o p : Option VarType) → slice_get old a ≡ o → slice_get old b ≡ p → true ≡ is_assignable_at P o p → true ≡ is_assignable_at P (slice_get (old ++ more) a) (slice_get (old ++ more) b)
both_kept P old more a b None None e f h = absurd (let g : true ≡ false = h in cc)
both_kept P old more a b None (Some u) e f h = absurd (let g : true ≡ false = h in cc)
both_kept P old more a b (Some t) None e f h = absurd (let g : true ≡ false = h in cc)
both_kept P old more a b (Some t) (Some u) e f h = h ∙ ap₂ (λ x y. is_assignable_at P x y) (sym (still_there old more a t e)) (sym (still_there old more b u f))

known_kept : (P : Program) (old new : List VarType) (t : ListTable) → Grows old new → AreKnown (AreAssignable P old) t → AreKnown (AreAssignable P new) t
known_kept P old new t more known = λ k d lt i x y gx gy. elim (known k d lt i x y gx gy) [
  | inl same ↦ inl same
  | inr stands ↦ inr (both_kept P old more.0 x y (slice_get old x) (slice_get old y) refl refl stands ∙ ap (λ l. is_assignable_at P (slice_get l x) (slice_get l y)) (sym more.1))
]

-- the same after a list is added, or isn't
pub known_after : (P : Program) (old new : List VarType) (t u : ListTable) (ns : List ℕ) → Grows old new → AreKnown (AreAssignable P old) t → (u ≡ with_list t ns) ⊎ (u ≡ t) → AreKnown (AreAssignable P new) u
known_after P old new t u ns more known (inl e) = subst (λ v. AreKnown (AreAssignable P new) v) (sym e) (known_kept P old new t more known)
known_after P old new t u ns more known (inr e) = subst (λ v. AreKnown (AreAssignable P new) v) (sym e) (known_kept P old new t more known)
