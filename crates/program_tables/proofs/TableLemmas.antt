-- The tables of what entries mean, as they are built and read.
use Rattle.std.proofs.Common.{◌≡◌, ℕ, zero, suc, ◌+◌, ◌<◌, ◌≤◌, List, [], ◌∷◌, ◌++◌, map, length, get_or, Some, None, sym, ap, ap₂, ◌∙◌, subst, arith}
use Rattle.std.specs.Prelude.{slice_get}
use Rattle.std.specs.Option.{option_map, option_map_or}
use Rattle.std.specs.List.{range_with_len, AllByRecursion}
use Rattle.std.proofs.lemmas.List.FromFn.{map-range_with_len_more, get_or-map-range_with_len, length-map-range_with_len}
use Rattle.std.proofs.lemmas.List as lists
use Rattle.std.proofs.lemmas.List.{map-append, length-map}
use Rattle.std.proofs.lemmas.Option.{slice_get-map, slice_get-get_or, slice_get_past, slice_get_within}
use Rattle.class_pool.specs.declared.entry.Entry.{Entry}
use Rattle.class_pool.specs.declared.class.ClassFile.{ClassFile}
use Rattle.class_pool.specs.Grammar.{entry_at}
use Rattle.lists.proofs.Lemmas.{none≢some, some_same}
use Rattle.program_tables.specs.Tables.{HasFileLimits}
use Rattle.program_tables.specs.declared.meanings.Meaning.{Meaning as Made}
use Rattle.program_tables.specs.Entries.{Meaning, meaning_of, meaning_at, meanings_in, meanings_by, all_meanings, meaning_seen, meanings_seen}

-- ---- what holds of all classes

pub all_at : {A : Type 0} (P : A → Type 0) (xs : List A) (i : ℕ) (x : A) → AllByRecursion P xs → slice_get xs i ≡ Some x → P x
all_at P [] i x h e = absurd (none≢some x e)
all_at P (y ∷ xs) zero x h e = subst P (some_same y x e) h.0
all_at P (y ∷ xs) (suc i) x h e = all_at P xs i x h.1 e

pub small_pool : (cs : List ClassFile) (n : ℕ) (c : ClassFile) → AllByRecursion HasFileLimits cs → slice_get cs n ≡ Some c → length c.pool < 65536
small_pool cs n c h e = let b = all_at HasFileLimits cs n c h e in let small = b.pool in omega (arith, small)

-- ---- one more

abbrev pub first_meanings : List ClassFile → (current : ℕ) → ClassFile → (many : ℕ) → List Meaning
first_meanings cs current c n = map (λ place. meaning_at cs current c (place + 1)) (range_with_len 0 n)

pub entry_there : (entries : List Entry) (place : ℕ) (e : Entry) → place < length entries → e ≡ get_or entries place e → entry_at entries (place + 1) ≡ Some e
entry_there entries place e lt h =
    let next : place + 1 ≡ suc place = omega arith in
    ap (entry_at entries) next ∙ (slice_get-get_or entries place e lt ∙ ap Some (sym h))

pub meanings_more : (cs : List ClassFile) (current : ℕ) (c : ClassFile) (i : ℕ) (made pushed : List Made) (x : Made) (e : Entry)
    → meanings_seen made ≡ first_meanings cs current c i → pushed ≡ made ++ x ∷ [] → i < length c.pool → e ≡ get_or c.pool i e
    → meaning_seen x ≡ meaning_of cs current c (i + 1) (Some e) → meanings_seen pushed ≡ first_meanings cs current c (i + 1)
meanings_more cs current c i made pushed x e h g lt is m =
    let F : ℕ → Meaning = λ place. meaning_at cs current c (place + 1) in
    ap (λ (xs : List Made). map meaning_seen xs) g
    ∙ (map-append meaning_seen made (x ∷ [])
    ∙ (ap₂ (λ (xs : List Meaning) (y : Meaning). xs ++ y ∷ []) h (m ∙ ap (meaning_of cs current c (i + 1)) (sym (entry_there c.pool i e lt is)))
    ∙ sym (map-range_with_len_more F 0 i i (omega arith))))

pub all_more : (cs : List ClassFile) (i : ℕ) (made pushed : List (List Made)) (x : List Made) (c : ClassFile)
    → map meanings_seen made ≡ map (meanings_by cs) (range_with_len 0 i) → pushed ≡ made ++ x ∷ [] → slice_get cs i ≡ Some c → meanings_seen x ≡ meanings_in cs i c
    → map meanings_seen pushed ≡ map (meanings_by cs) (range_with_len 0 (i + 1))
unfolding meanings_by
all_more cs i made pushed x c h g at m =
    ap (λ (xs : List (List Made)). map meanings_seen xs) g
    ∙ (map-append meanings_seen made (x ∷ [])
    ∙ (ap₂ (λ (xs : List (List Meaning)) (y : List Meaning). xs ++ y ∷ []) h (m ∙ ap (λ o. option_map_or (meanings_in cs i) o []) (sym at))
    ∙ sym (map-range_with_len_more (meanings_by cs) 0 i i (omega arith))))

-- ---- read

pub entries_long : (cs : List ClassFile) (table : List (List Made)) → map meanings_seen table ≡ all_meanings cs → length table ≡ length cs
entries_long cs table e = sym (length-map table meanings_seen) ∙ (ap length e ∙ length-map-range_with_len (meanings_by cs) 0 (length cs))

pub entries_read : (cs : List ClassFile) (table : List (List Made)) → map meanings_seen table ≡ all_meanings cs → (n : ℕ) → n < length cs → (x : List Made) → x ≡ get_or table n x
    → (c : ClassFile) → slice_get cs n ≡ Some c → meanings_seen x ≡ meanings_in cs n c
unfolding meanings_by
entries_read cs table e n lt x h c at =
    let long = entries_long cs table e in
    ap meanings_seen h
    ∙ (sym (lists.get_or-map meanings_seen table n x (meanings_seen x) (omega (arith, lt, long)))
    ∙ (ap (λ ys. get_or ys n (meanings_seen x)) e
    ∙ (get_or-map-range_with_len (meanings_by cs) 0 (length cs) n n (meanings_seen x) lt (omega arith)
    ∙ ap (λ o. option_map_or (meanings_in cs n) o []) at)))

made_long : (cs : List ClassFile) (current : ℕ) (c : ClassFile) (made : List Made) → meanings_seen made ≡ meanings_in cs current c → length made ≡ length c.pool
made_long cs current c made e = sym (length-map made meaning_seen) ∙ (ap length e ∙ length-map-range_with_len (λ place. meaning_at cs current c (place + 1)) 0 (length c.pool))

pub meaning_there : (cs : List ClassFile) (current : ℕ) (c : ClassFile) (made : List Made) → meanings_seen made ≡ meanings_in cs current c → (place index : ℕ) → index ≡ place + 1
    → (m : Made) → slice_get made place ≡ Some m → meaning_seen m ≡ meaning_at cs current c index
meaning_there cs current c made e place index next m h =
    let F : ℕ → Meaning = λ place. meaning_at cs current c (place + 1) in
    let long = made_long cs current c made e in
    let within = slice_get_within made place m h in
    let lt : place < length c.pool = omega (arith, long, within) in
    let wide : place < length (map F (range_with_len 0 (length c.pool))) = let l = length-map-range_with_len F 0 (length c.pool) in omega (arith, l, lt) in
    let got = sym (slice_get-map meaning_seen made place ∙ ap (option_map meaning_seen) h) ∙ (ap (λ ys. slice_get ys place) e
    ∙ (slice_get-get_or (map F (range_with_len 0 (length c.pool))) place (meaning_seen m) wide
    ∙ ap Some (get_or-map-range_with_len F 0 (length c.pool) place place (meaning_seen m) lt (omega arith)))) in
    some_same (meaning_seen m) (F place) got ∙ ap (meaning_at cs current c) (sym next)

pub meaning_past : (cs : List ClassFile) (current : ℕ) (c : ClassFile) (made : List Made) → meanings_seen made ≡ meanings_in cs current c → (place index : ℕ) → index ≡ place + 1
    → length made ≤ place → meaning_of cs current c index None ≡ meaning_at cs current c index
meaning_past cs current c made e place index next past =
    let long = made_long cs current c made e in
    let at : index ≡ suc place = omega (arith, next) in
    ap (meaning_of cs current c index) (sym (ap (entry_at c.pool) at ∙ slice_get_past c.pool place (omega (arith, long, past))))
