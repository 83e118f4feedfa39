-- The lines of headers, place by place.
use Rattle.std.proofs.Common.{◌≡◌, ℕ, ◌+◌, ◌<◌, ◌≤◌, List, ◌++◌, length, take, get_or, sym, ◌∙◌, ap, ap₂, arith, Option, append_assoc, inl, inr}
use Rattle.std.specs.Prelude.{flat_map}
use Rattle.std.specs.List.Sorted.{IsStrictlyIncreasing}
use Rattle.std.proofs.lemmas.Grind.{take_at_read}
use Rattle.lists.proofs.FirstLemmas.{flat_map-more}
use Rattle.lists.specs.Members.{rising_pair}
use Rattle.loop_nest.specs.Digraph.{IsBefore}
use Rattle.loop_rules.specs.declared.found.FoundLoop.{FoundLoop}
use Rattle.bound_texts.specs.Sources.Notes.{Note}
use Rattle.source_places.specs.declared.methods.sources.MethodSource.{MethodSource}
use Rattle.source_headers.specs.Found.{IsLeftFrom}
use Rattle.source_headers.specs.Headers.{found_at, header_lines}
use Rattle.source_places.specs.Methods.Told.{source_by}
use Rattle.source_headers.specs.Told.{header_by, headers_by}
use Rattle.source_headers.proofs.FoundLemmas.{before_itself}

-- the numbers from one of the places on are those of all that are found
abbrev pub AreLeftAt : (found left : List FoundLoop) → (m : ℕ) → (places : List ℕ) → (i : ℕ) → Type 0
AreLeftAt found left m places i = (k : ℕ) → i ≤ k → k < length places → found_at left m (get_or places k 0) ≡ found_at found m (get_or places k 0)

module _ (found left next : List FoundLoop) (m : ℕ) (places : List ℕ) (i : ℕ) (rising : IsStrictlyIncreasing places) (lt : i < length places) (h : AreLeftAt found left m places i)
    (less : IsLeftFrom left next m (get_or places i 0)) where
  not_before : (k : ℕ) → i < k → k < length places → IsBefore (m, get_or places k 0) (m, get_or places i 0) → ⊥
  not_before k after below (inl b) = omega (arith, b)
  not_before k after below (inr b) = let up = rising_pair places rising i k after below in omega (arith, up, b.1)

  pub left_more : AreLeftAt found next m places (i + 1)
  left_more k le below = less.same m (get_or places k 0) (not_before k (omega (arith, le)) below) ∙ h k (omega (arith, le)) below

  pub number_is : found_at next m (get_or places i 0) ≡ found_at found m (get_or places i 0)
  number_is = less.same m (get_or places i 0) (before_itself (m, get_or places i 0)) ∙ h i (omega arith) lt

pub lines_more : (notes : List Note) (found : List FoundLoop) (m : ℕ) (name : List ℕ) (source : Option MethodSource) (places : List ℕ) (i : ℕ) (old now new : List ℕ) (s : Option (List ℕ × ℕ)) (n : Option ℕ)
    → i < length places → now ≡ old ++ headers_by notes found m name source (take i places) → new ≡ now ++ header_lines notes name (record { place = get_or places i 0; source = s; found = n })
    → s ≡ source_by source (get_or places i 0) → n ≡ found_at found m (get_or places i 0) → new ≡ old ++ headers_by notes found m name source (take (i + 1) places)
lines_more notes found m name source places i old now new s n lt before put source_is number_is =
    let p = get_or places i 0 in
    let F : ℕ → List ℕ = λ p. header_lines notes name (header_by source found m p) in
    let here : header_lines notes name (record { place = p; source = s; found = n }) ≡ F p = ap₂ (λ (s : Option (List ℕ × ℕ)) (n : Option ℕ). header_lines notes name (record { place = p; source = s; found = n })) source_is number_is in
    put ∙ ap₂ (λ (a b : List ℕ). a ++ b) before here ∙ append_assoc old (flat_map F (take i places)) (F p)
    ∙ ap (λ (t : List ℕ). old ++ t) (sym (flat_map-more F (take i places) p) ∙ ap (flat_map F) (sym (take_at_read places i 0 lt).1))
