-- The loops of a program that count, method by method.
use Rattle.std.proofs.Common.{◌≡◌, ◌↔◌, ℕ, zero, suc, ◌+◌, ◌<◌, List, [], ◌∷◌, ◌++◌, length, map, get_or, take, Contains, append_assoc, refl, sym, ap, ◌∙◌, subst, inl, inr, arith}
use Rattle.std.specs.Prelude.{IsSome}
use Rattle.std.specs.List.{AllAdjacentBelow}
use Rattle.std.specs.List.Sorted.{IsStrictlyIncreasing}
use Rattle.std.proofs.lemmas.Bool.{cases_lt}
use Rattle.std.proofs.lemmas.List.{length-map, map-append, take_more}
use Rattle.std.proofs.lemmas.List.Elements.{Contains-append_left, Contains-append_right, Contains-append_cases, Contains-get_or}
use Rattle.lists.specs.Members.{at_head, in_tail, nil_contains, map_contains}
use Rattle.lists.proofs.Lemmas.{some_is}
use Rattle.bytecode_model.specs.Program.{Program, body_of}
use Rattle.loop_nest.specs.Digraph.{IsBefore}
use Rattle.loop_nest.proofs.Elements.{from_map}
use Rattle.loop_rules.specs.declared.found.FoundLoop.{FoundLoop}
use Rattle.loop_rules.specs.Tests.{Constants}
use Rattle.loop_rules.specs.Finding.{places_of, IsCountedLoop, AreCountedLoops}
use Rattle.loop_rules.specs.Further.Known.{Known}
use Rattle.loop_acts.specs.Rules.{Rules, further, plain}
use Rattle.loop_finder.specs.Counted.{AreCountedWith, IsCountedWith}
use Rattle.loop_finder.specs.Further.{AreCountedFurther, FurtherRulesAreRight, IsCountedFurther}
use Rattle.loop_finder.specs.Methods.{AreMethodBounds, found_in}

-- ---- lists that rise

module _ {X : Type 0} (R : X → X → Type 0) where
  pub adjacent_append : (xs ys : List X) → AllAdjacentBelow R xs (length xs) → AllAdjacentBelow R ys (length ys) → ((x y : X) → Contains xs x → Contains ys y → R x y) → AllAdjacentBelow R (xs ++ ys) (length (xs ++ ys))
  adjacent_append [] ys a b across k d lt = b k d lt
  adjacent_append (x ∷ []) ys a b across zero d lt = across x (get_or ys 0 d) (at_head x []) (Contains-get_or ys 0 d (omega arith))
  adjacent_append (x ∷ []) ys a b across (suc k) d lt =
      let e : suc (k + 1) ≡ suc k + 1 = omega arith in
      subst (λ (n : ℕ). R (get_or ys k d) (get_or (x ∷ ys) n d)) e (b k d (omega arith))
  adjacent_append (x ∷ z ∷ zs) ys a b across zero d lt = a zero d (omega arith)
  adjacent_append (x ∷ z ∷ zs) ys a b across (suc k) d lt =
      let e : suc (k + 1) ≡ suc k + 1 = omega arith in
      subst (λ (n : ℕ). R (get_or (z ∷ zs ++ ys) k d) (get_or (x ∷ z ∷ zs ++ ys) n d)) e
      (adjacent_append (z ∷ zs) ys
      (λ j f lj. let g : suc j + 1 ≡ suc (j + 1) = omega arith in subst (λ (n : ℕ). R (get_or (z ∷ zs) j f) (get_or (x ∷ z ∷ zs) n f)) g (a (suc j) f (omega arith)))
      b (λ u v here there. across u v (in_tail x u (z ∷ zs) here) there) k d (omega arith))

-- the loops of one method rise
method_rises : (m : ℕ) (bounds : List (ℕ × ℕ)) → IsStrictlyIncreasing (map (λ x. x.0) bounds) → AllAdjacentBelow IsBefore (places_of (map (found_in m) bounds)) (length (places_of (map (found_in m) bounds)))
method_rises m [] h k d lt = absurd (omega arith)
method_rises m (x ∷ []) h k d lt = absurd (omega arith)
method_rises m (x ∷ y ∷ zs) h zero d lt = let up : x.0 < y.0 = h 0 (omega arith) in inr (refl, up)
method_rises m (x ∷ y ∷ zs) h (suc k) d lt =
    let e : suc (k + 1) ≡ suc k + 1 = omega arith in
    subst (λ (n : ℕ). IsBefore (get_or (places_of (map (found_in m) (y ∷ zs))) k d) (get_or (places_of (map (found_in m) (x ∷ y ∷ zs))) n d)) e
    (method_rises m (y ∷ zs)
    (λ j lj. let g : suc j + 1 ≡ suc (j + 1) = omega arith in subst (λ (n : ℕ). get_or (map (λ (z : ℕ × ℕ). z.0) (y ∷ zs)) j 0 < get_or (map (λ (z : ℕ × ℕ). z.0) (x ∷ y ∷ zs)) n 0) g (h (suc j) (omega arith)))
    k d (omega arith))

-- one loop more behind the others
pub appended_more : (m : ℕ) (bounds : List (ℕ × ℕ)) (i : ℕ) (old now new : List FoundLoop) → i < length bounds → now ≡ old ++ map (found_in m) (take i bounds) → new ≡ now ++ found_in m (get_or bounds i (0, 0)) ∷ []
    → new ≡ old ++ map (found_in m) (take (i + 1) bounds)
appended_more m bounds i old now new lt is more =
    let x = found_in m (get_or bounds i (0, 0)) ∷ [] in
    more ∙ (ap (λ (xs : List FoundLoop). xs ++ x) is ∙ (append_assoc old (map (found_in m) (take i bounds)) x
    ∙ ap (λ (xs : List FoundLoop). old ++ xs) (sym (map-append (found_in m) (take i bounds) (get_or bounds i (0, 0) ∷ [])) ∙ ap (map (found_in m)) (sym (take_more bounds i (0, 0) lt)))))

-- ---- the first methods

-- just the loops that count by the rules of the methods below m
pub record AreFoundBelow (P : Program) (rules : Rules) (m : ℕ) (found : List FoundLoop) : Type 0 where
  pub rising : AllAdjacentBelow IsBefore (places_of found) (length (places_of found))
  pub each : (x : FoundLoop) → Contains found x ↔ (IsCountedWith P rules x × (x.method < m))

module _ (P : Program) (rules : Rules) where
  pub no_methods : AreFoundBelow P rules 0 []
  no_methods = record {
    rising = λ k d lt. absurd (omega arith);
    each = λ x. (λ has. absurd (nil_contains x has), λ h. let below = h.1 in absurd (omega arith));
  }

  pub method_more : (m : ℕ) (found : List FoundLoop) (bounds : List (ℕ × ℕ)) → AreFoundBelow P rules m found → AreMethodBounds P rules m bounds → AreFoundBelow P rules (m + 1) (found ++ map (found_in m) bounds)
  method_more m found bounds old are = record {
    rising =
        subst (λ (xs : List (ℕ × ℕ)). AllAdjacentBelow IsBefore xs (length xs)) (sym (map-append (λ (x : FoundLoop). (x.method, x.place)) found (map (found_in m) bounds)))
        (adjacent_append IsBefore (places_of found) (places_of (map (found_in m) bounds)) old.rising (method_rises m bounds are.rising) across);
    each = λ x. (to x, from x);
  }
    where
      across : (a c : ℕ × ℕ) → Contains (places_of found) a → Contains (places_of (map (found_in m) bounds)) c → IsBefore a c
      across a c has there =
          let f = from_map (λ (x : FoundLoop). (x.method, x.place)) found a has in
          let g = from_map (λ (x : FoundLoop). (x.method, x.place)) (map (found_in m) bounds) c there in
          let y = from_map (found_in m) bounds g.0 g.1 in
          let less : f.0.method < m = ((old.each f.0).0 f.1).1 in
          let first : f.0.method ≡ a.0 = ap (λ (z : ℕ × ℕ). z.0) f.2 in
          let second : m ≡ c.0 = ap (λ (z : FoundLoop). z.method) y.2 ∙ ap (λ (z : ℕ × ℕ). z.0) g.2 in
          inl (omega arith)

      to : (x : FoundLoop) → Contains (found ++ map (found_in m) bounds) x → IsCountedWith P rules x × (x.method < m + 1)
      to x has =
          elim (Contains-append_cases found (map (found_in m) bounds) x has) [
            | inl before ↦ let h = (old.each x).0 before in let less = h.1 in (h.0, omega arith)
            | inr there ↦
                let y = from_map (found_in m) bounds x there in
                let same : m ≡ x.method = ap (λ (z : FoundLoop). z.method) y.2 in
                (subst (IsCountedWith P rules) y.2 ((are.each y.0.0 y.0.1).0 y.1), omega arith)
          ]

      from : (x : FoundLoop) → IsCountedWith P rules x × (x.method < m + 1) → Contains (found ++ map (found_in m) bounds) x
      from x h =
          elim (cases_lt x.method m) [
            | inl less ↦ Contains-append_left found (map (found_in m) bounds) x ((old.each x).1 (h.0, less))
            | inr ge ↦
                let less = h.1 in
                let same : x.method ≡ m = omega arith in
                let counted = subst (λ (k : ℕ). IsCountedWith P rules (record { method = k; place = x.place; bound = x.bound })) same h.0 in
                let has = map_contains (found_in m) bounds (x.place, x.bound) ((are.each x.place x.bound).1 counted) in
                let is = subst (λ (k : ℕ). Contains (map (found_in m) bounds) (record { method = k; place = x.place; bound = x.bound })) (sym same) has in
                Contains-append_right found (map (found_in m) bounds) x is
          ]

  pub all_methods : (m : ℕ) (found : List FoundLoop) → AreFoundBelow P rules m found → ((k : ℕ) → IsSome (body_of P k) → k < m) → AreCountedWith P rules found
  all_methods m found are below = record {
    rising = subst (λ (n : ℕ). AllAdjacentBelow IsBefore (places_of found) n) (length-map found (λ (x : FoundLoop). (x.method, x.place))) are.rising;
    each = λ x. (λ has. ((are.each x).0 has).0, λ counted. (are.each x).1 (counted, below x.method (coded x counted)));
  }
    where
      coded : (x : FoundLoop) → IsCountedWith P rules x → IsSome (body_of P x.method)
      coded x counted = let b = some_is (body_of P x.method) _ counted.is_graph.size in subst IsSome (sym b.1) refl

-- ---- the loops that count by the plain rules

module _ (P : Program) (constants : Constants) where
  is_counted : (x : FoundLoop) → IsCountedWith P (plain P constants) x ↔ IsCountedLoop P constants x
  is_counted x = (
    λ h. record { graph = h.graph; is_graph = h.is_graph; reducible = h.reducible; counted = record { counts = h.counts; least = h.least } },
    λ h. record { graph = h.graph; is_graph = h.is_graph; reducible = h.reducible; counts = h.counted.counts; least = h.counted.least },
  )

  pub are_counted : (found : List FoundLoop) → AreCountedWith P (plain P constants) found → AreCountedLoops P constants found
  are_counted found are = record {
    rising = are.rising;
    each = λ x. (λ has. (is_counted x).0 ((are.each x).0 has), λ counted. (are.each x).1 ((is_counted x).1 counted));
  }

-- ---- the loops that count by what is known further

module _ (right : FurtherRulesAreRight) (P : Program) (known : Known) where
  is_further : (x : FoundLoop) → IsCountedWith P (further P known) x ↔ IsCountedFurther P known x
  is_further x = (
    λ h. record {
      graph = h.graph;
      is_graph = h.is_graph;
      reducible = h.reducible;
      counts = (right P known x.method h.graph x.place x.bound h.is_graph).0 h.counts;
      least = λ other counts. h.least other ((right P known x.method h.graph x.place other h.is_graph).1 counts);
    },
    λ h. record {
      graph = h.graph;
      is_graph = h.is_graph;
      reducible = h.reducible;
      counts = (right P known x.method h.graph x.place x.bound h.is_graph).1 h.counts;
      least = λ other counts. h.least other ((right P known x.method h.graph x.place other h.is_graph).0 counts);
    },
  )

  pub are_further : (found : List FoundLoop) → AreCountedWith P (further P known) found → AreCountedFurther P known found
  are_further found are = record {
    rising = are.rising;
    each = λ x. (λ has. (is_further x).0 ((are.each x).0 has), λ counted. (are.each x).1 ((is_further x).1 counted));
  }
