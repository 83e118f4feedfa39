-- How many words there are, how many methods have code, and the first limit that is passed.
use Rattle.std.proofs.Common.{◌≡◌, ℕ, ◌+◌, Bool, true, false, not, List, [], ◌∷◌, ◌++◌, Option, Some, None, map, take, length, length-append, append-nil, refl, sym, ap, ap₂, ◌∙◌, arith}
use Rattle.std.specs.Prelude.{slice_get, sum_by, if◌then◌else◌}
use Rattle.std.specs.List.{filter}
use Rattle.std.proofs.lemmas.List.Elements.{filter-append}
use Rattle.class_pool.specs.declared.class.ClassFile.{ClassFile}
use Rattle.base.specs.Packed.{PackedHasWords}
use Rattle.bytecode_model.specs.declared.Value.{Value}
use Rattle.bytecode_model.specs.declared.Value.TheVariants.{Int, Long, Ref, Null, Unset}
use Rattle.bytecode_model.specs.Types.{IntType, LongType, Declared, Numeric, Reference, is_long, default}
use Rattle.bytecode_model.specs.Program.{Program}
use Rattle.bytecode_model.specs.Sizes.{object_words}
use Rattle.bytecode_model.specs.WellFormed.{AreAlike}
use Rattle.bytecode_typing.specs.Tests.{AllTwo}
use Rattle.bytecode_typing.specs.Fits.{HasDeclared, numbers_of}
use Rattle.image_facts.specs.Laws.{WordsEnd}
use Rattle.image_facts.specs.Places.{objects_place, image_words}
use Rattle.program_tables.specs.Resolved.{resolved}
use Rattle.program_tables.specs.Resolving.{IsResolved}
use Rattle.program_laws.specs.Laws.{ProgramLaw}
use Rattle.image_words.specs.Laws.{ImageWordsLie}
use Rattle.image_words.specs.Layout.{outline_of}
use Rattle.image_words.specs.Regions as regions
use Rattle.image_words.proofs.Image.{object_same}
use Rattle.lists.specs.Lists.{first_some}
use Rattle.lists.proofs.Lemmas.{none≢some}
use Rattle.class_lookup.specs.Lookup.{Place}
use Rattle.program_tables.specs.Numbers.{places_of, is_coded, methods_by_number, types_of}
use Rattle.image_words.specs.Slots.{interface_methods}
use Rattle.image_words.specs.Regions.{image_words_of}
use Rattle.image_words.specs.Limits.{coded_methods, most_types, most_interface_methods, most_methods, most_words}
use Rattle.image_builder.specs.declared.fault.Counted.{Counted}
use Rattle.image_builder.specs.declared.fault.Counted.TheVariants.{Types, InterfaceMethods, Methods, Words}
use Rattle.image_layout.specs.Layout.{counts_passed, first_passed}
use Rattle.image_builder.specs.Passed.{passed}
use Rattle.image_builder.proofs.ListLemmas.{take_whole, take_some}

-- ---- all words

one_alike : (P : Program) (ks : List ℕ) (d : Declared) (v : Value) → HasDeclared P ks d v → (is_long v ≡ is_long (default d)) × (v ≡ Unset → ⊥)
one_alike P ks (Numeric IntType) (Int i) h = (refl, λ e. cc)
one_alike P ks (Numeric LongType) (Long i) h = (refl, λ e. cc)
one_alike P ks (Reference l) Null h = (refl, λ e. cc)
one_alike P ks (Reference l) (Ref p) h = (refl, λ e. cc)
one_alike P ks d v h = absurd h

all_alike : (P : Program) (ks : List ℕ) (ds : List Declared) (vs : List Value) → AllTwo (HasDeclared P ks) ds vs → AreAlike vs (map default ds)
all_alike P ks [] [] h = tt
all_alike P ks [] (v ∷ vs) h = absurd h
all_alike P ks (d ∷ ds) [] h = absurd h
all_alike P ks (d ∷ ds) (v ∷ vs) h = let one = one_alike P ks d v h.0 in (one.0, one.1, all_alike P ks ds vs h.1)

pub words_counted : PackedHasWords → WordsEnd → ImageWordsLie → ProgramLaw → (cs : List ClassFile) → IsResolved cs → length (image_words_of cs) ≡ image_words (resolved cs) (outline_of cs)
words_counted packed end lie lawful cs r =
    let P = resolved cs in
    let objects = P.first_objects in
    let all = take_whole objects (length objects) refl in
    let alike = all_alike P (numbers_of objects) P.statics P.first_statics (lawful cs r).first_statics in
    ap length (lie cs)
    ∙ (end P (regions.places_of cs) P.first_statics objects alike
    ∙ (ap (λ os. objects_place P (regions.places_of cs) + sum_by (object_words P) os) (sym all)
    ∙ (sym (object_same packed cs (length objects)) ∙ ap (λ os. objects_place P (outline_of cs) + sum_by (object_words P) os) all)))

-- ---- methods with code

twice_case : (test : Place → Bool) (p : Place) (ps : List Place) (b : Bool) → test p ≡ b → filter test (filter test ps) ≡ filter test ps → filter test (if b then p ∷ filter test ps else filter test ps) ≡ (if b then p ∷ filter test ps else filter test ps)
twice_case test p ps true h e = ap (λ (b : Bool). if b then p ∷ filter test (filter test ps) else filter test (filter test ps)) h ∙ ap (λ (qs : List Place). p ∷ qs) e
twice_case test p ps false h e = e

filter_twice : (test : Place → Bool) (ps : List Place) → filter test (filter test ps) ≡ filter test ps
filter_twice test [] = refl
filter_twice test (p ∷ ps) = twice_case test p ps (test p) refl (filter_twice test ps)

others_case : (test : Place → Bool) (p : Place) (ps : List Place) (b : Bool) → test p ≡ b → filter test (filter (λ q. not (test q)) ps) ≡ [] → filter test (if not b then p ∷ filter (λ q. not (test q)) ps else filter (λ q. not (test q)) ps) ≡ []
others_case test p ps true h e = e
others_case test p ps false h e = ap (λ (b : Bool). if b then p ∷ filter test (filter (λ q. not (test q)) ps) else filter test (filter (λ q. not (test q)) ps)) h ∙ e

filter_others : (test : Place → Bool) (ps : List Place) → filter test (filter (λ q. not (test q)) ps) ≡ []
filter_others test [] = refl
filter_others test (p ∷ ps) = others_case test p ps (test p) refl (filter_others test ps)

pub coded_all : (cs : List ClassFile) (n : ℕ) → length (methods_by_number cs) ≡ n → length (filter (is_coded cs) (take n (methods_by_number cs))) ≡ coded_methods cs
unfolding methods_by_number
coded_all cs n h =
    let all = places_of (λ k. k.methods) cs in
    let test = is_coded cs in
    ap (λ (ps : List Place). length (filter test ps)) (take_whole (methods_by_number cs) n h)
    ∙ (ap length (filter-append test (filter test all) (filter (λ m. not (test m)) all))
    ∙ (ap₂ (λ (a : List Place) (b : List Place). length (a ++ b)) (filter_twice test all) (filter_others test all) ∙ ap length (append-nil (filter test all))))

count_case : (old : ℕ) (kept : List Place) (p : Place) (b : Bool) → old ≡ length kept → length (kept ++ (if b then p ∷ [] else [])) ≡ (if b then old + 1 else old)
count_case old kept p true h = let l = length-append kept (p ∷ []) in omega (arith, l, h)
count_case old kept p false h = ap length (append-nil kept) ∙ sym h

pub coded_more : (cs : List ClassFile) (i : ℕ) (p : Place) (old new : ℕ) (b : Bool) → slice_get (methods_by_number cs) i ≡ Some p → old ≡ length (filter (is_coded cs) (take i (methods_by_number cs))) → is_coded cs p ≡ b
    → new ≡ (if b then old + 1 else old) → new ≡ length (filter (is_coded cs) (take (i + 1) (methods_by_number cs)))
coded_more cs i p old new b at h e g =
    let test = is_coded cs in
    let kept = filter test (take i (methods_by_number cs)) in
    g ∙ sym (ap (λ ps. length (filter test ps)) (take_some (methods_by_number cs) i p at)
    ∙ (ap length (filter-append test (take i (methods_by_number cs)) (p ∷ []))
    ∙ (ap (λ (b : Bool). length (kept ++ (if b then p ∷ [] else []))) e ∙ count_case old kept p b h)))

-- ---- the first limit

pub last_counts : {A : Type 0} (a b c d : Option A) → first_some (a ∷ b ∷ c ∷ []) ≡ None → first_some (a ∷ b ∷ c ∷ d ∷ []) ≡ d
last_counts (Some x) b c d h = absurd (none≢some x (sym h))
last_counts None (Some x) c d h = absurd (none≢some x (sym h))
last_counts None None (Some x) d h = absurd (none≢some x (sym h))
last_counts None None None None h = refl
last_counts None None None (Some x) h = refl

pub first_counts : {A : Type 0} (a b c d : Option A) (y : A) → first_some (a ∷ b ∷ c ∷ []) ≡ Some y → first_some (a ∷ b ∷ c ∷ d ∷ []) ≡ Some y
first_counts (Some x) b c d y h = h
first_counts None (Some x) c d y h = h
first_counts None None (Some x) d y h = h
first_counts None None None d y h = absurd (none≢some y h)

-- no count passes its limit, nor do so many words
pub limits_kept : (cs : List ClassFile) (n : ℕ) → n ≡ length (image_words_of cs) → counts_passed cs ≡ None → passed Words n most_words ≡ None → first_passed cs ≡ None
limits_kept cs n h counts words =
    last_counts (passed Types (length (types_of cs)) most_types) (passed InterfaceMethods (length (interface_methods cs)) most_interface_methods) (passed Methods (coded_methods cs) most_methods)
    (passed Words (length (image_words_of cs)) most_words) counts
    ∙ (ap (λ (n : ℕ). passed Words n most_words) (sym h) ∙ words)

pub words_passed : (cs : List ClassFile) (n : ℕ) (what : Counted) (count limit : ℕ) → n ≡ length (image_words_of cs) → counts_passed cs ≡ None → passed Words n most_words ≡ Some (what, count, limit) → first_passed cs ≡ Some (what, count, limit)
words_passed cs n what count limit h counts words =
    last_counts (passed Types (length (types_of cs)) most_types) (passed InterfaceMethods (length (interface_methods cs)) most_interface_methods) (passed Methods (coded_methods cs) most_methods)
    (passed Words (length (image_words_of cs)) most_words) counts
    ∙ (ap (λ (n : ℕ). passed Words n most_words) (sym h) ∙ words)

pub count_passed : (cs : List ClassFile) (what : Counted) (count limit : ℕ) → counts_passed cs ≡ Some (what, count, limit) → first_passed cs ≡ Some (what, count, limit)
count_passed cs what count limit h =
    first_counts (passed Types (length (types_of cs)) most_types) (passed InterfaceMethods (length (interface_methods cs)) most_interface_methods) (passed Methods (coded_methods cs) most_methods)
    (passed Words (length (image_words_of cs)) most_words) (what, count, limit) h
