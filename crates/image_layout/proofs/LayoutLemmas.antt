-- The regions one behind another, and where the parts lie.
use Rattle.std.proofs.Common.{◌≡◌, ℕ, ◌+◌, List, [], ◌∷◌, ◌++◌, Option, Some, None, map, take, length, append_assoc, append-nil, refl, sym, ap, ap₂, ◌∙◌, subst}
use Rattle.std.specs.Prelude.{sum_by, Result, IfOk, OnOk}
use Rattle.std.specs.Option.{option_map_or}
use Rattle.std.specs.List.{range_with_len}
use Rattle.std.proofs.lemmas.List.{length-map, length-replicate}
use Rattle.class_pool.specs.declared.class.ClassFile.{ClassFile}
use Rattle.base.specs.Packed.{PackedHasWords}
use Rattle.lists.specs.Lists.{index_of}
use Rattle.image_facts.specs.Places.{static_place}
use Rattle.image_facts.specs.Words.{declared_words}
use Rattle.class_lookup.specs.Lookup.{Place, same_place}
use Rattle.program_tables.specs.Numbers.{fields_by_number, static_fields, strings_of}
use Rattle.program_tables.specs.Operands.{string_object}
use Rattle.program_tables.specs.Resolved.{resolved}
use Rattle.image_words.specs.Layout.{front_size, outline_of}
use Rattle.image_words.specs.Pools.{static_word}
use Rattle.image_words.specs.Regions as regions
use Rattle.image_words.specs.Regions.{first_place}
use Rattle.image_words.proofs.Image.{object_same}
use Rattle.image_words.proofs.Placing.{front_length}
use Rattle.image_builder.specs.declared.sums.Run.{Run}
use Rattle.image_builder.specs.Runs.{place_behind, IsRun}
use Rattle.image_builder.proofs.ListLemmas.{sum_taken}

ten_joined : (w0 w1 w2 w3 w4 r1 r2 r3 r4 r5 r6 r7 r8 r9 r10 : List ℕ) → w0 ≡ [] → w1 ≡ w0 ++ (r1 ++ r2) → w2 ≡ w1 ++ r3 → w3 ≡ w2 ++ (r4 ++ (r5 ++ (r6 ++ (r7 ++ r8)))) → w4 ≡ w3 ++ (r9 ++ r10)
    → w4 ≡ r1 ++ (r2 ++ (r3 ++ (r4 ++ (r5 ++ (r6 ++ (r7 ++ (r8 ++ (r9 ++ (r10 ++ [])))))))))
ten_joined w0 w1 w2 w3 w4 r1 r2 r3 r4 r5 r6 r7 r8 r9 r10 e0 e1 e2 e3 e4 =
    e4 ∙ ap (λ (w : List ℕ). w ++ (r9 ++ r10)) (e3 ∙ ap (λ (w : List ℕ). w ++ (r4 ++ (r5 ++ (r6 ++ (r7 ++ r8))))) (e2 ∙ ap (λ (w : List ℕ). w ++ r3) (e1 ∙ ap (λ (w : List ℕ). w ++ (r1 ++ r2)) e0)))
    ∙ simp (append_assoc, append-nil)

-- the last step puts a region behind words that another is behind
pub last_joined : {T E : Type 0} (r : Result T E) (old mid new last front : List ℕ) → mid ≡ old ++ front → OnOk r (new ≡ mid ++ last) → OnOk r (new ≡ old ++ (front ++ last))
last_joined r old mid new last front e made = subst (λ (words : List ℕ). OnOk r (new ≡ words)) (ap (λ (w : List ℕ). w ++ last) e ∙ append_assoc old front last) made

pub middle_joined : {T E : Type 0} (r : Result T E) (w0 w1 w2 w3 w4 w5 r1 r2 r3 r4 r5 : List ℕ) → w1 ≡ w0 ++ r1 → w2 ≡ w1 ++ r2 → w3 ≡ w2 ++ r3 → w4 ≡ w3 ++ r4 → OnOk r (w5 ≡ w4 ++ r5)
    → OnOk r (w5 ≡ w0 ++ (r1 ++ (r2 ++ (r3 ++ (r4 ++ r5)))))
middle_joined r w0 w1 w2 w3 w4 w5 r1 r2 r3 r4 r5 e1 e2 e3 e4 made =
    let four : w4 ≡ w0 ++ (r1 ++ (r2 ++ (r3 ++ r4))) = e4 ∙ ap (λ (w : List ℕ). w ++ r4) (e3 ∙ ap (λ (w : List ℕ). w ++ r3) (e2 ∙ ap (λ (w : List ℕ). w ++ r2) e1)) ∙ simp append_assoc in
    let five : w4 ++ r5 ≡ w0 ++ (r1 ++ (r2 ++ (r3 ++ (r4 ++ r5)))) = ap (λ (w : List ℕ). w ++ r5) four ∙ simp append_assoc in
    subst (λ (words : List ℕ). OnOk r (w5 ≡ words)) five made

map_same : {A : Type 0} (f g : A → ℕ) (xs : List A) → ((x : A) → f x ≡ g x) → map f xs ≡ map g xs
map_same f g [] h = refl
map_same f g (x ∷ xs) h = ap₂ (λ (y : ℕ) (ys : List ℕ). y ∷ ys) (h x) (map_same f g xs h)

pub places_of_run : {A : Type 0} (f : A → ℕ) (xs : List A) (start : ℕ) (run : Run) → IsRun start (map f xs) run → run.places.items ≡ map (λ i. start + sum_by f (take i xs)) (range_with_len 0 (length xs))
places_of_run f xs start run is =
    is.places
    ∙ (ap (λ n. map (place_behind start (map f xs)) (range_with_len 0 n)) (length-map xs f)
    ∙ map_same (place_behind start (map f xs)) (λ i. start + sum_by f (take i xs)) (range_with_len 0 (length xs)) (λ i. ap (λ n. start + n) (sum_taken f xs i)))

word_same : (cs : List ClassFile) (f : Place) → static_word cs (outline_of cs) f ≡ static_word cs (regions.places_of cs) f
unfolding regions.places_of
word_same cs f = by_case (index_of (same_place f) (static_fields cs))
  where
    by_case : (o : Option ℕ) → option_map_or (static_place (resolved cs) (outline_of cs)) o 0 ≡ option_map_or (static_place (resolved cs) (regions.places_of cs)) o 0
    by_case None = refl
    by_case (Some k) = ap (λ n. n + sum_by declared_words (take k (resolved cs).statics)) (length-replicate {A = ℕ} front_size 0 ∙ sym (front_length cs (outline_of cs)))

pub fields_same : (cs : List ClassFile) → map (static_word cs (outline_of cs)) (fields_by_number cs) ≡ map (static_word cs (regions.places_of cs)) (fields_by_number cs)
fields_same cs = map_same (static_word cs (outline_of cs)) (static_word cs (regions.places_of cs)) (fields_by_number cs) (word_same cs)

pub strings_same : PackedHasWords → (cs : List ClassFile)
    → map (λ n. first_place cs (outline_of cs) (string_object n)) (range_with_len 0 (length (strings_of cs))) ≡ map (λ n. first_place cs (regions.places_of cs) (string_object n)) (range_with_len 0 (length (strings_of cs)))
strings_same law cs =
    map_same (λ n. first_place cs (outline_of cs) (string_object n)) (λ n. first_place cs (regions.places_of cs) (string_object n)) (range_with_len 0 (length (strings_of cs))) (λ n. object_same law cs (string_object n))

-- the regions put behind one another are the image
pub all_joined : (cs : List ClassFile) (w0 w1 w2 w3 w4 : List ℕ) → w0 ≡ [] → w1 ≡ w0 ++ regions.front_of cs (outline_of cs) → w2 ≡ w1 ++ regions.statics_region cs (outline_of cs) → w3 ≡ w2 ++ regions.middle_of cs (outline_of cs)
    → w4 ≡ w3 ++ (regions.raised_region cs (outline_of cs) ++ regions.strings_region cs (outline_of cs)) → w4 ≡ regions.image_words_of cs
unfolding regions.image_words_of
all_joined cs w0 w1 w2 w3 w4 e0 e1 e2 e3 e4 =
    let pl = outline_of cs in
    ten_joined w0 w1 w2 w3 w4 (regions.header_region cs pl) (regions.lists_region cs pl) (regions.statics_region cs pl) (regions.types_region cs pl) (regions.tables_region cs pl) (regions.interfaces_region cs pl) (regions.pools_region cs pl) (regions.methods_region cs pl) (regions.raised_region cs pl) (regions.strings_region cs pl) e0 e1 e2 e3 e4

-- ---- items that lie from a place on

pub run_made : {E : Type 0} (r : Result Run E) (start other : ℕ) (sizes others : List ℕ) → start ≡ other → sizes ≡ others → IfOk r (IsRun start sizes) → IfOk r (IsRun other others)
run_made r start other sizes others h e is = subst (λ (xs : List ℕ). IfOk r (IsRun other xs)) e (subst (λ (n : ℕ). IfOk r (IsRun n sizes)) h is)
