-- Texts one after another.
use Rattle.std.proofs.Common.{◌≡◌, ℕ, suc, ◌+◌, ◌<◌, List, [], ◌∷◌, ◌++◌, length, take, sym, ap, ◌∙◌, arith}
use Rattle.std.specs.Prelude.{slice_index_or, flat_map}
use Rattle.std.proofs.lemmas.Grind.{flat_map-append}
use Rattle.std.proofs.Math.Seq.{take-suc, take-length}
use Rattle.std.proofs.lemmas.List.{append-nil, append_assoc, length-take-le}
use Rattle.netlist_text.specs.Text.{each_from}

each_push : {A : Type 0} (text : ℕ → A → List ℕ) (k : ℕ) (xs : List A) (x : A) → each_from text k (xs ++ x ∷ []) ≡ each_from text k xs ++ text (k + length xs) x
each_push text k [] x = let same : k + 0 ≡ k = omega arith in append-nil (text k x) ∙ ap (λ m. text m x) (sym same)
each_push text k (y ∷ ys) x =
    let same : k + 1 + length ys ≡ k + suc (length ys) = omega arith in
    ap (λ l. text k y ++ l) (each_push text (k + 1) ys x ∙ ap (λ m. each_from text (k + 1) ys ++ text m x) same)
    ∙ sym (append_assoc (text k y) (each_from text (k + 1) ys) (text (k + suc (length ys)) x))

-- the texts of the first items, and that of the next
pub each_take : {A : Type 0} (text : ℕ → A → List ℕ) (xs : List A) (k : ℕ) (d : A) → k < length xs
    → each_from text 0 (take (k + 1) xs) ≡ each_from text 0 (take k xs) ++ text k (slice_index_or xs k d)
each_take text xs k d lt =
    let up : k + 1 ≡ suc k = omega arith in
    let many : length (take k xs) ≡ k = length-take-le k xs (omega (arith, lt)) in
    let at : 0 + length (take k xs) ≡ k = omega (arith, many) in
    ap (λ m. each_from text 0 (take m xs)) up ∙ ap (each_from text 0) (take-suc xs k d lt) ∙ each_push text 0 (take k xs) (slice_index_or xs k d)
    ∙ ap (λ m. each_from text 0 (take k xs) ++ text m (slice_index_or xs k d)) at

-- what was appended of the next item is behind what was appended of those before
pub appended : {A : Type 0} (text : ℕ → A → List ℕ) (xs : List A) (k : ℕ) (x : A) (start old new : List ℕ) → k < length xs → x ≡ slice_index_or xs k x
    → old ≡ start ++ each_from text 0 (take k xs) → new ≡ old ++ text k x → new ≡ start ++ each_from text 0 (take (k + 1) xs)
appended text xs k x start old new lt is before step =
    step ∙ ap (λ l. l ++ text k x) before ∙ append_assoc start (each_from text 0 (take k xs)) (text k x)
    ∙ ap (λ y. start ++ (each_from text 0 (take k xs) ++ text k y)) is
    ∙ ap (λ l. start ++ l) (sym (each_take text xs k x lt))

-- all texts
pub each_whole : {A : Type 0} (text : ℕ → A → List ℕ) (xs : List A) (start new : List ℕ) → new ≡ start ++ each_from text 0 (take (length xs) xs)
    → new ≡ start ++ each_from text 0 xs
each_whole text xs start new h = h ∙ ap (λ l. start ++ each_from text 0 l) (take-length xs)

-- the same, where the item that was read is said by what stands where there is none
pub appended_or : {A : Type 0} (text : ℕ → A → List ℕ) (xs : List A) (k : ℕ) (d : A) (start old new : List ℕ) → k < length xs
    → old ≡ start ++ each_from text 0 (take k xs) → new ≡ old ++ text k (slice_index_or xs k d) → new ≡ start ++ each_from text 0 (take (k + 1) xs)
appended_or text xs k d start old new lt before step =
    step ∙ ap (λ l. l ++ text k (slice_index_or xs k d)) before ∙ append_assoc start (each_from text 0 (take k xs)) (text k (slice_index_or xs k d))
    ∙ ap (λ l. start ++ l) (sym (each_take text xs k d lt))

-- the same, where the items aren't numbered
pub appended_flat : {A : Type 0} (text : A → List ℕ) (xs : List A) (k : ℕ) (x : A) (start old new : List ℕ) → k < length xs → x ≡ slice_index_or xs k x
    → old ≡ start ++ flat_map text (take k xs) → new ≡ old ++ text x → new ≡ start ++ flat_map text (take (k + 1) xs)
appended_flat text xs k x start old new lt is before step =
    let up : k + 1 ≡ suc k = omega arith in
    let one : flat_map text (slice_index_or xs k x ∷ []) ≡ text (slice_index_or xs k x) = append-nil (text (slice_index_or xs k x)) in
    let next : flat_map text (take (k + 1) xs) ≡ flat_map text (take k xs) ++ text (slice_index_or xs k x) =
    ap (λ m. flat_map text (take m xs)) up ∙ ap (flat_map text) (take-suc xs k x lt) ∙ flat_map-append text (take k xs) (slice_index_or xs k x ∷ [])
    ∙ ap (λ l. flat_map text (take k xs) ++ l) one in
    step ∙ ap (λ l. l ++ text x) before ∙ append_assoc start (flat_map text (take k xs)) (text x)
    ∙ ap (λ y. start ++ (flat_map text (take k xs) ++ text y)) is ∙ ap (λ l. start ++ l) (sym next)

-- ---- pieces behind one another

pub behind : (start a b : List ℕ) {mid new : List ℕ} → mid ≡ start ++ a → new ≡ mid ++ b → new ≡ start ++ (a ++ b)
behind start a b first next = next ∙ ap (λ l. l ++ b) first ∙ append_assoc start a b

-- where the next piece has two parts
pub behind_two : (start a b c : List ℕ) {mid new : List ℕ} → mid ≡ start ++ a → new ≡ mid ++ (b ++ c) → new ≡ start ++ (a ++ b ++ c)
behind_two start a b c first next =
    next ∙ ap (λ l. l ++ (b ++ c)) first ∙ append_assoc start a (b ++ c) ∙ ap (λ l. start ++ l) (sym (append_assoc a b c))
