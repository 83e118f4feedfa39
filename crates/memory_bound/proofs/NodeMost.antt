-- The most words that single nodes make.
use Rattle.std.proofs.Common.{◌≡◌, ℕ, ◌+◌, ◌*◌, ◌≤◌, ◌<◌, ◌⊎◌, max, List, Contains, Option, Some, None, refl, sym, ap, ap₂, ◌∙◌, subst, inl, inr, arith}
use Rattle.std.proofs.lemmas.Bool.{cases_lt}
use Rattle.bytecode_model.specs.Program.{Program}
use Rattle.bytecode_model.specs.Rows.{Row}
use Rattle.method_flow.specs.Nodes.{Node, At, RaiseAt}
use Rattle.method_flow.specs.Calls.{IsStartOf, IsTarget}
use Rattle.method_flow.specs.Keeping.{BoundOf}
use Rattle.method_flow.specs.Recursion.{MayCall}
use Rattle.code_lines.specs.Lines.{IsLine}
use Rattle.code_lines.specs.Laws.{LinesAreOne, OneIsPushedBefore}
use Rattle.flow_graph.proofs.Starting.{target_calls}
use Rattle.memory_rules.specs.declared.sites.Makes.{Makes}
use Rattle.memory_rules.specs.declared.sites.Makes.TheVariants.{Object, Array}
use Rattle.memory_rules.specs.Heap.{Made, AnObject, AnArray, made_by, constant_words, MostWords, Part, OfMethod, OfWalk, OfNode, MayMake, IsMostMade}
use Rattle.memory_rules.specs.Heap.MostWords.{object, constant, listed}
use Rattle.memory_rules.specs.Heap.MayMake.{stops, nowhere, visits, nothing, makes as makes_itself, runs}
use Rattle.memory_rules.specs.Sites.{MethodNeeds, IsMadeAt, IsToldAs, AreNeedsOf}
use Rattle.memory_bound.specs.declared.found.Found.{Found}
use Rattle.memory_bound.specs.Found.{found_at, Exceeds, IsMostOr, KnowHeaps}
use Rattle.memory_bound.specs.Words.{told_words, IsSiteWords, IsGreatestOf}
use Rattle.memory_bound.proofs.MakingParts.{most_is_made}

-- ---- what an instruction makes itself

module _ (P : Program) (lengths : BoundOf) (m p : ℕ) (one : OneIsPushedBefore) where
  told_most : (made : Made) (makes : Makes) → IsToldAs P m p made makes → (w : ℕ) → MostWords P lengths m p (Some made) w → w ≤ told_words makes (lengths m p)
  told_most (AnObject words) (Object told) is w most = by most
    where
      by : {v : ℕ} → MostWords P lengths m p (Some (AnObject words)) v → v ≤ told
      by object = omega (arith, is)
  told_most (AnArray element) (Array told (Some c)) is w most = by most
    where
      by : {v : ℕ} → MostWords P lengths m p (Some (AnArray element)) v → v ≤ constant_words told c
      by (constant {c = d} pushed) =
          let same : c ≡ d = one P m p c d is.1 pushed in
          let words : constant_words told c ≡ constant_words element d = ap₂ constant_words is.0 same in
          omega (arith, words)
      by (listed none given) = absurd (none c is.1)
  told_most (AnArray element) (Array told None) is w most = by most
    where
      by : {v : ℕ} → MostWords P lengths m p (Some (AnArray element)) v → v ≤ told_words (Array told None) (lengths m p)
      by (constant {c = d} pushed) = absurd (is.1 d pushed)
      by (listed {n = n} none given) =
          let e : told_words (Array told None) (lengths m p) ≡ 2 + told * n = ap (told_words (Array told None)) given in
          let f : 2 + told * n ≡ 2 + element * n = ap (λ (z : ℕ). 2 + z * n) is.0 in
          omega arith
  told_most (AnObject words) (Array told c) is w most = absurd is
  told_most (AnArray element) (Object told) is w most = absurd is

  told_made : (made : Made) (makes : Makes) → IsToldAs P m p made makes → (told_words makes (lengths m p) ≡ 0) ⊎ MostWords P lengths m p (Some made) (told_words makes (lengths m p))
  told_made (AnObject words) (Object told) is = inr (subst (λ (w : ℕ). MostWords P lengths m p (Some (AnObject words)) w) (sym is) object)
  told_made (AnArray element) (Array told (Some c)) is =
      inr (subst (λ (e : ℕ). MostWords P lengths m p (Some (AnArray element)) (constant_words e c)) (sym is.0) (constant is.1))
  told_made (AnArray element) (Array told None) is = by (lengths m p) refl
    where
      by : (o : Option ℕ) → lengths m p ≡ o → (told_words (Array told None) (lengths m p) ≡ 0) ⊎ MostWords P lengths m p (Some (AnArray element)) (told_words (Array told None) (lengths m p))
      by None none = inl (ap (told_words (Array told None)) none)
      by (Some n) given =
          let e : told_words (Array told None) (lengths m p) ≡ 2 + element * n = ap (told_words (Array told None)) given ∙ ap (λ (z : ℕ). 2 + z * n) is.0 in
          inr (subst (λ (w : ℕ). MostWords P lengths m p (Some (AnArray element)) w) (sym e) (listed is.1 given))
  told_made (AnObject words) (Array told c) is = absurd is
  told_made (AnArray element) (Object told) is = absurd is

  -- the words at a place
  abbrev words_at : Option Makes → ℕ
  words_at o = elim o [ None ↦ 0 | Some makes ↦ told_words makes (lengths m p) ]

  pub site_words_are : LinesAreOne → (k : MethodNeeds) → AreNeedsOf P m k → (o : Option Makes) → IsMadeAt k.sites p o → IsSiteWords P lengths m p (elim o [ None ↦ 0 | Some makes ↦ told_words makes (lengths m p) ])
  site_words_are lines k needs None none = record {
    attained = inl refl;
    greatest = λ next w r line most. let made = most_is_made most in absurd (none (needs.each p next r made.0 line made.1));
  }
  site_words_are lines k needs (Some told) has =
      let site = needs.only (record { place = p; makes = told }) has in
      record {
        attained = elim (told_made site.made told site.told) [
          | inl none ↦ inl none
          | inr most ↦ inr (site.next, site.row, site.line, subst (λ (o : Option Made). MostWords P lengths m p o (told_words told (lengths m p))) (sym site.makes) most)
        ];
        greatest = λ next w r line most.
            let same : r ≡ site.row = (lines P m p next site.next r site.row line site.line).1 in
            let made : made_by P r ≡ Some site.made = ap (made_by P) same ∙ site.makes in
            told_most site.made told site.told w (subst (λ (o : Option Made). MostWords P lengths m p o w) made most);
      }

-- ---- what a node makes

module _ (P : Program) (bounds lengths : BoundOf) (m p n : ℕ) where
  -- at this instruction at most so many
  abbrev AtMost : Part → ℕ → Type 0
  AtMost (OfMethod k) w = Unit {0}
  AtMost (OfWalk k ns) w = Unit {0}
  AtMost (OfNode k u) w = k ≡ m → u ≡ At p → w ≤ n

  module _ (own : (next w : ℕ) (r : Row) → IsLine P m p next r → MostWords P lengths m p (made_by P r) w → w ≤ n)
      (called : (t w : ℕ) → IsTarget P m p t → MayMake P bounds lengths (OfMethod t) w → w ≤ n) where
    place_of : (q : ℕ) → At q ≡ At p → q ≡ p
    place_of q e = let f : Node → ℕ = λ u. elim u [ At x ↦ x | RaiseAt x ↦ x ] in ap f e

    pub node_most : {part : Part} {w : ℕ} → MayMake P bounds lengths part w → AtMost part w
    node_most (stops is walk kept may) = tt
    node_most nowhere = tt
    node_most (visits node rest) = tt
    node_most nothing = λ same at. omega arith
    node_most (makes_itself {m = k} {p = q} {next} {w} {r} line most) = λ same at.
        let here : q ≡ p = place_of q at in
        let line' : IsLine P m p next r = subst (λ (x : ℕ). IsLine P m x next r) here (subst (λ (j : ℕ). IsLine P j q next r) same line) in
        let most' : MostWords P lengths m p (made_by P r) w = subst (λ (x : ℕ). MostWords P lengths m x (made_by P r) w) here (subst (λ (j : ℕ). MostWords P lengths j q (made_by P r) w) same most) in
        own next w r line' most'
    node_most (runs {m = k} {p = q} {t} {w} target may) = λ same at.
        let here : q ≡ p = place_of q at in
        let target' : IsTarget P m p t = subst (λ (x : ℕ). IsTarget P m x t) here (subst (λ (j : ℕ). IsTarget P j q t) same target) in
        called t w target' may

-- a raise step makes nothing
module _ (P : Program) (bounds lengths : BoundOf) where
  abbrev RaisesNone : Part → ℕ → Type 0
  RaisesNone (OfMethod k) w = Unit {0}
  RaisesNone (OfWalk k ns) w = Unit {0}
  RaisesNone (OfNode k (At p)) w = Unit {0}
  RaisesNone (OfNode k (RaiseAt p)) w = w ≤ 0

  none_of : (m : ℕ) (u : Node) → RaisesNone (OfNode m u) 0
  none_of m (At p) = tt
  none_of m (RaiseAt p) = omega arith

  pub raise_none : {part : Part} {w : ℕ} → MayMake P bounds lengths part w → RaisesNone part w
  raise_none (stops is walk kept may) = tt
  raise_none nowhere = tt
  raise_none (visits node rest) = tt
  raise_none (nothing {m} {u}) = none_of m u
  raise_none (makes_itself line most) = tt
  raise_none (runs target may) = tt

  -- ---- the instruction at a place

  module _ (m p : ℕ) (start : IsStartOf P m p) (table : List Found) (known : KnowHeaps P bounds lengths table m) (targets : List ℕ) (are : (t : ℕ) → (Contains targets t → IsTarget P m p t) × (IsTarget P m p t → Contains targets t)) where
    may_call : (t : ℕ) → IsTarget P m p t → MayCall P m t
    may_call t target = record { place = p; start = start; call = target_calls P m p t target; is_target = target }

    heap_is : (t v : ℕ) → IsTarget P m p t → (found_at table t).heap ≡ Some v → IsMostMade P bounds lengths (OfMethod t) v
    heap_is t v target is = subst (λ (o : Option ℕ). IsMostOr P bounds lengths (OfMethod t) o) is (known t (may_call t target))

    -- one of the methods that it may run exceeds 64 bits
    pub called_exceeds : (t : ℕ) × Contains targets t × ((found_at table t).heap ≡ None) → Exceeds P bounds lengths (OfNode m (At p))
    called_exceeds (t, has, none) =
        let target = (are t).0 has in
        let e : Exceeds P bounds lengths (OfMethod t) = subst (λ (o : Option ℕ). IsMostOr P bounds lengths (OfMethod t) o) none (known t (may_call t target)) in
        record { words = e.words; may = runs target e.may; exceeds = e.exceeds }

    pub place_most : (called own : ℕ) → IsGreatestOf table targets called → IsSiteWords P lengths m p own → IsMostMade P bounds lengths (OfNode m (At p)) (max called own)
    place_most called own h k = record {
      attained = by (cases_lt called own);
      greatest = λ w may. node_most P bounds lengths m p (max called own)
          (λ next v r line most. let le = k.greatest next v r line most in omega arith)
          (λ t v target made. let b = h.greatest t ((are t).1 target) in let le = (heap_is t b.0 target b.1).greatest v made in let also = b.2 in omega arith) may refl refl;
    }
      where
        by : (called < own) ⊎ (own ≤ called) → MayMake P bounds lengths (OfNode m (At p)) (max called own)
        by (inl lt) =
            let same : max called own ≡ own = omega arith in
            subst (λ (w : ℕ). MayMake P bounds lengths (OfNode m (At p)) w) (sym same)
            (elim k.attained [
              | inl none ↦ subst (λ (w : ℕ). MayMake P bounds lengths (OfNode m (At p)) w) (sym none) nothing
              | inr made ↦ makes_itself made.2 made.3
            ])
        by (inr le) =
            let same : max called own ≡ called = omega arith in
            subst (λ (w : ℕ). MayMake P bounds lengths (OfNode m (At p)) w) (sym same)
            (elim h.attained [
              | inl none ↦ subst (λ (w : ℕ). MayMake P bounds lengths (OfNode m (At p)) w) (sym none) nothing
              | inr t ↦ runs ((are t.0).0 t.1) (heap_is t.0 called ((are t.0).0 t.1) t.2).attained
            ])
