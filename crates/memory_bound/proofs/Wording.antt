-- The words of objects that instructions, methods and nodes make, one by one.
use Rattle.std.proofs.Common.{◌≡◌, ℕ, ◌+◌, ◌*◌, ◌/◌, ◌<◌, ◌≤◌, ◌⊎◌, max, List, [], ◌∷◌, ◌++◌, length, get_or, take, Contains, Option, Some, None, sym, ap, ◌∙◌, subst, inl, inr, arith}
use Rattle.std.specs.Prelude.{slice_index}
use Rattle.std.proofs.lemmas.Bool.{cases_lt}
use Rattle.std.proofs.lemmas.List.{take_more, length_push, get_or_append_left, get_or_push, get_or-take, length-take-le}
use Rattle.std.proofs.lemmas.List.Elements.{Contains-push, Contains-push_cases, Contains-append_left}
use Rattle.opcodes.proofs.WithinLemmas.{IsWithin-decoded}
use Rattle.bytecode_model.specs.Program.{Program}
use Rattle.method_flow.specs.Flow.{IsFlowOf}
use Rattle.method_flow.specs.Keeping.{BoundOf}
use Rattle.method_flow.specs.Nodes.{At, RaiseAt}
use Rattle.code_lines.specs.Laws.{OneIsPushedBefore}
use Rattle.code_lines.proofs.Reading.{lines_are_one}
use Rattle.code_lines.proofs.Following.{lines_are_apart, one_stands_before, one_is_pushed_before}
use Rattle.memory_rules.specs.declared.sites.Makes.{Makes}
use Rattle.memory_rules.specs.Heap.{OfNode}
use Rattle.memory_rules.specs.Heap.MayMake.{nothing}
use Rattle.memory_rules.specs.Sites.{IsMadeAt, AreSitesOf}
use Rattle.memory_bound.specs.declared.found.Found.{Found}
use Rattle.memory_bound.specs.Setting.{NeedSetting, sites_of}
use Rattle.memory_bound.specs.Found.{found_at, IsMostOr}
use Rattle.memory_bound.specs.Words.{told_words, IsSiteWords, IsGreatestOf, IsNodeWords, AreNodeWords}
use Rattle.memory_bound.proofs.NodeMost.{site_words_are, raise_none}
use Rattle.memory_bound.proofs.Sited.{has_needs, made_in}

-- ---- the instruction itself

one_is_pushed : OneIsPushedBefore
one_is_pushed = one_is_pushed_before lines_are_one (one_stands_before (lines_are_apart IsWithin-decoded))

pub words_by_site : (P : Program) (s : NeedSetting) (lengths : BoundOf) (m p : ℕ) → IsFlowOf P s.flow → AreSitesOf P s.sites → m < length s.flow.methods
    → (o : Option Makes) → IsMadeAt (sites_of s m) p o → IsSiteWords P lengths m p (elim o [ None ↦ 0 | Some makes ↦ told_words makes (lengths m p) ])
words_by_site P s lengths m p flow sites lt o is =
    let h = has_needs P s m flow sites lt in
    site_words_are P lengths m p one_is_pushed lines_are_one h.needs h.are o (made_in P s m p h o is)

-- ---- methods that it may run

-- one method more
pub one_more_method : (table : List Found) (targets : List ℕ) (i n v : ℕ) → i < length targets → IsGreatestOf table (take i targets) n
    → (found_at table (get_or targets i 0)).heap ≡ Some v → IsGreatestOf table (take (i + 1) targets) (max v n)
one_more_method table targets i n v lt h heap =
    let K : List ℕ → Type 0 = λ ts. IsGreatestOf table ts (max v n) in
    subst K (sym (take_more targets i 0 lt)) (record {
      attained = by (cases_lt n v);
      greatest = λ t has.
          elim (Contains-push_cases (take i targets) (get_or targets i 0) t has) [
            | inl there ↦ let r = h.greatest t there in let le = r.2 in (r.0, r.1, omega arith)
            | inr same ↦ (v, subst (λ (y : ℕ). (found_at table y).heap ≡ Some v) same heap, omega arith)
          ];
    })
  where
    by : (n < v) ⊎ (v ≤ n) → (max v n ≡ 0) ⊎ ((t : ℕ) × Contains (take i targets ++ get_or targets i 0 ∷ []) t × ((found_at table t).heap ≡ Some (max v n)))
    by (inl less) =
        let same : v ≡ max v n = omega arith in
        inr (get_or targets i 0, Contains-push (take i targets) (get_or targets i 0), heap ∙ ap Some same)
    by (inr le) =
        let same : n ≡ max v n = omega arith in
        elim h.attained [
          | inl none ↦ inl (omega arith)
          | inr r ↦ inr (r.0, Contains-append_left (take i targets) (get_or targets i 0 ∷ []) r.0 r.1, r.2 ∙ ap Some same)
        ]

-- ---- nodes

module _ (P : Program) (bounds lengths : BoundOf) (m : ℕ) where
  -- a raise step makes nothing
  pub raise_words : (x : ℕ) → (x ≡ 2 * (x / 2) → ⊥) → IsNodeWords P bounds lengths m x (Some 0)
  raise_words x odd (At p) e = absurd (odd (omega (arith, e)))
  raise_words x odd (RaiseAt p) e = record { attained = nothing; greatest = λ w may. raise_none P bounds lengths may }

  -- an instruction makes what is told of its place
  pub place_words : (x : ℕ) (o : Option ℕ) → x ≡ 2 * (x / 2) → IsMostOr P bounds lengths (OfNode m (At (x / 2))) o → IsNodeWords P bounds lengths m x o
  place_words x o even is (At p) e =
      let same : x / 2 ≡ p = omega (arith, e) in
      subst (λ (q : ℕ). IsMostOr P bounds lengths (OfNode m (At q)) o) same is
  place_words x o even is (RaiseAt p) e = absurd (omega (arith, e))

  -- one node more
  pub one_more_node : (nodes words : List ℕ) (i w : ℕ) → i < length nodes → length words ≡ i → AreNodeWords P bounds lengths m (take i nodes) words
      → IsNodeWords P bounds lengths m (get_or nodes i 0) (Some w) → AreNodeWords P bounds lengths m (take (i + 1) nodes) (words ++ w ∷ [])
  one_more_node nodes words i w lt long are is = record {
    long = omega (arith, length_push words w, length-take-le (i + 1) nodes (omega arith));
    each = λ k less.
        let below : k < i + 1 = omega (arith, length-take-le (i + 1) nodes (omega arith)) in
        at k below (cases_lt k i);
  }
    where
      at : (k : ℕ) → k < i + 1 → (k < i) ⊎ (i ≤ k) → IsNodeWords P bounds lengths m (slice_index (take (i + 1) nodes) k) (Some (slice_index (words ++ w ∷ []) k))
      at k below (inl less) =
          let node : get_or (take i nodes) k 0 ≡ get_or (take (i + 1) nodes) k 0 = get_or-take i nodes k 0 less ∙ sym (get_or-take (i + 1) nodes k 0 below) in
          let word : get_or words k 0 ≡ get_or (words ++ w ∷ []) k 0 = sym (get_or_append_left words (w ∷ []) 0 k (omega arith)) in
          subst (λ (x : ℕ). IsNodeWords P bounds lengths m x (Some (get_or (words ++ w ∷ []) k 0))) node
          (subst (λ (y : ℕ). IsNodeWords P bounds lengths m (get_or (take i nodes) k 0) (Some y)) word (are.each k (omega (arith, length-take-le i nodes (omega arith)))))
      at k below (inr le) =
          let same : i ≡ k = omega arith in
          let node : get_or nodes i 0 ≡ get_or (take (i + 1) nodes) k 0 = ap (λ (j : ℕ). get_or nodes j 0) same ∙ sym (get_or-take (i + 1) nodes k 0 below) in
          let word : w ≡ get_or (words ++ w ∷ []) k 0 = sym (get_or_push words w 0 k (long ∙ same)) in
          subst (λ (x : ℕ). IsNodeWords P bounds lengths m x (Some (get_or (words ++ w ∷ []) k 0))) node
          (subst (λ (y : ℕ). IsNodeWords P bounds lengths m (get_or nodes i 0) (Some y)) word is)
