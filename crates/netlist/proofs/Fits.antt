-- Whether words are within widths, one after another.
use Rattle.std.proofs.Common.{◌≡◌, ◌↔◌, ℕ, ◌+◌, ◌^◌, ◌<◌, true, false, List, [], ◌∷◌, ◌++◌, map, length, take, refl, sym, ap, ◌∙◌, subst}
use Rattle.std.specs.Prelude.{slice_index_or, IsTrue}
use Rattle.std.proofs.lemmas.List.{map_more, take_more}
use Rattle.std.proofs.lemmas.List.{length-map}
use Rattle.std.proofs.lemmas.List.Elements.{AllZip-push, AllZip-get_or, length_all_zip}
use Rattle.std.proofs.Math.ListN.{get_or-map}
use Rattle.std.proofs.Math.Seq.{take-length}
use Rattle.netlist.specs.WellFormed.{Fit}

abbrev pub Within : ℕ → ℕ → Type 0
Within width word = word < 2 ^ width

pub fit_more : {A : Type 0} (width : A → ℕ) (xs : List A) (words : List ℕ) (k : ℕ) (x : A) → k < length xs → k < length words
    → x ≡ slice_index_or xs k x → slice_index_or words k 0 < 2 ^ width x → Fit (map width (take k xs)) (take k words)
    → Fit (map width (take (k + 1) xs)) (take (k + 1) words)
fit_more width xs words k x lt below is within before =
    let widths : map width (take (k + 1) xs) ≡ map width (take k xs) ++ width x ∷ [] =
    map_more width xs k x lt ∙ ap (λ y. map width (take k xs) ++ width y ∷ []) (sym is) in
    let more : take (k + 1) words ≡ take k words ++ slice_index_or words k 0 ∷ [] = take_more words k 0 below in
    subst (λ l. Fit l (take (k + 1) words)) (sym widths)
    (subst (Fit (map width (take k xs) ++ width x ∷ [])) (sym more)
    (AllZip-push Within (map width (take k xs)) (take k words) (width x) (slice_index_or words k 0) before within))

no : {A : Type 0} → IsTrue false → A
no f = absurd (let g : false ≡ true = f in cc)

pub not_fit : {A : Type 0} (width : A → ℕ) (xs : List A) (words : List ℕ) (k : ℕ) (x : A) → k < length xs → x ≡ slice_index_or xs k x
    → (slice_index_or words k 0 < 2 ^ width x → IsTrue false) → IsTrue false ↔ Fit (map width xs) words
not_fit width xs words k x lt is h = (
  (λ f. no f),
  (λ fit.
      let own : slice_index_or (map width xs) k (width x) ≡ width x = get_or-map width xs k x ∙ ap width (sym is) in
      h (subst (λ w. slice_index_or words k 0 < 2 ^ w) own
      (AllZip-get_or Within (map width xs) words k (width x) 0 fit (subst (λ m. k < m) (sym (length-map xs width)) lt)))),
)

pub not_as_many : {A : Type 0} (width : A → ℕ) (xs : List A) (words : List ℕ) → (length words ≡ length xs → IsTrue false)
    → IsTrue false ↔ Fit (map width xs) words
not_as_many width xs words h =
    ((λ f. no f), (λ fit. h (sym (length_all_zip Within (map width xs) words fit) ∙ length-map xs width)))

pub all_fit : {A : Type 0} (width : A → ℕ) (xs : List A) (words : List ℕ) (k : ℕ) → length words ≡ length xs → k ≡ length xs
    → Fit (map width (take k xs)) (take k words) → IsTrue true ↔ Fit (map width xs) words
all_fit width xs words k many whole fit =
    let xs_all : take k xs ≡ xs = ap (λ m. take m xs) whole ∙ take-length xs in
    let words_all : take k words ≡ words = ap (λ m. take m words) (whole ∙ sym many) ∙ take-length words in (
      (λ t. subst (λ l. Fit (map width l) words) xs_all (subst (Fit (map width (take k xs))) words_all fit)),
      (λ f. refl),
    )
