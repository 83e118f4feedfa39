-- A loop that counts, visit by visit: how often it has gone round, and what its local variable holds.
use Rattle.std.proofs.Common.{◌≡◌, ◌⊎◌, ℕ, suc, ◌<◌, ◌≤◌, false, ℤ, ◌+ℤ◌, List, [], ◌∷◌, ◌++◌, Contains, refl, sym, ap, ◌∙◌, subst, inl, inr, arith, append_assoc}
use Rattle.std.specs.Prelude.{FitsSigned}
use Rattle.std.specs.Int.{w32}
use Rattle.std.proofs.lemmas.Int.{ints, int_wrap_fits}
use Rattle.std.proofs.lemmas.Bool.{cases_eq, cases_lt, false≢true}
use Rattle.std.proofs.lemmas.List.Elements.{Contains-append_left, Contains-append_right, Contains-append_cases}
use Rattle.lists.specs.Members.{at_head, cons_cases, nil_contains, has_or_not}
use Rattle.bytecode_model.specs.declared.Value.TheVariants.{Int}
use Rattle.bytecode_model.specs.Program.{Program}
use Rattle.bytecode_model.specs.Rows as rows
use Rattle.loop_nest.specs.Digraph.{Digraph, Edge}
use Rattle.loop_nest.specs.Walks.{Walk, IsMember, IsBackEdge, IsEntering}
use Rattle.loop_nest.specs.Walks.Walk.{stay}
use Rattle.loop_nest.specs.Laws.{HeaderDominatesMembers, LoopIsEnteredAtHeader, EdgesToHeaderAreBackEdges, EntryDominatesAll}
use Rattle.loop_nest.proofs.SimpleWalks.{walk_until, walk_from}
use Rattle.method_flow.specs.Nodes.{Node, At, number_of}
use Rattle.method_flow.specs.Graphs.{IsGraphOf}
use Rattle.code_lines.specs.Lines.{IsLine}
use Rattle.code_lines.specs.Laws.{LinesAreOne, LinesAreApart, OneStandsBefore}
use Rattle.loop_rules.specs.Iterations.{ReachesWithout, IsOnEachIteration, FirstTested}
use Rattle.loop_rules.specs.Iterations.FirstTested.{test_first, step_first}
use Rattle.loop_rules.specs.Values.{value_at}
use Rattle.loop_rules.specs.Counted.{EachCycleIsALoop}
use Rattle.loop_rules.specs.Further.Known.{Known}
use Rattle.counted_laws.specs.Visits.{Visit, HoldsInt, Passes, Path}
use Rattle.counted_laws.specs.Counting.{CountsFurther}
use Rattle.counted_laws.proofs.Cycles.{split_at, at_last, last_cases, all_of, walk_more, no_return}
use Rattle.counted_laws.proofs.Visiting.{same_node, tested, stays_in, test_is_branch, step_is_other, edge_in}
use Rattle.counted_laws.proofs.Pushing.{limits_lie, begun}

-- ---- values

value_zero : (c s : ℤ) → value_at c s 0 ≡ c
value_zero c s = omega (arith, ints)

next_value : (c s : ℤ) (k : ℕ) → value_at c s k +ℤ s ≡ value_at c s (suc k)
next_value c s k = omega (arith, ints)

shifted : (c s : ℤ) (k : ℕ) → value_at (c +ℤ s) s k ≡ value_at c s (suc k)
shifted c s k = omega (arith, ints)

by_order : (g : Digraph) (h step test : ℕ) (c s f : ℤ) → FirstTested g h step test c s f → ((f ≡ c) × (ReachesWithout g h test step → ⊥)) ⊎ ((f ≡ c +ℤ s) × (ReachesWithout g h step test → ⊥))
by_order g h step test c s f (test_first none) = inl (refl, none)
by_order g h step test c s f (step_first none) = inr (refl, none)

single : (x y : ℕ) → Contains (x ∷ []) y → x ≡ y
single x y c = elim (cons_cases x y [] c) [ inl same ↦ same | inr none ↦ absurd (nil_contains y none) ]

not_nil : (xs : List ℕ) (x : ℕ) → xs ++ x ∷ [] ≡ [] → ⊥
not_nil [] x e = absurd (cc)
not_nil (y ∷ ys) x e = absurd (cc)

module _ (one : LinesAreOne) (apart : LinesAreApart) (before : OneStandsBefore) (headers : HeaderDominatesMembers) (entered : LoopIsEnteredAtHeader) (back : EdgesToHeaderAreBackEdges) (entry : EntryDominatesAll)
    (P : Program) (known : Known) (m : ℕ) (g : Digraph) (h n : ℕ) (of : IsGraphOf P m g) (cycles : EachCycleIsALoop g) (count : CountsFurther P known m g h n) where
  abbrev H : ℕ
  H = number_of (At h)

  abbrev I : ℕ
  I = number_of (At count.step)

  abbrev T : ℕ
  T = number_of (At count.test)

  abbrev num : Visit → ℕ
  num v = number_of v.node

  -- the value that is tested in so many turns
  abbrev tested_value : ℕ → ℤ
  tested_value k = value_at count.first count.s k

  -- what the local variable holds after so many steps
  abbrev held_value : ℕ → ℤ
  held_value k = value_at count.c count.s k

  -- Since the loop was entered it has gone round so often; since the header these nodes were visited before this one.
  pub record Turning (v : Visit) (turns : ℕ) : Type 0 where
    pub prev : List ℕ
    pub walk : Walk g H (num v) (prev ++ num v ∷ [])
    pub members : (x : ℕ) → Contains (prev ++ num v ∷ []) x → IsMember g H x
    pub shape : ((prev ≡ []) × (num v ≡ H)) ⊎ ((more : List ℕ) × (prev ≡ H ∷ more) × (Contains (more ++ num v ∷ []) H → ⊥))
    pub few : (k : ℕ) → k < turns → count.out (tested_value k) ≡ false
    pub was_tested : Contains prev T → count.out (tested_value turns) ≡ false
    pub fresh : (Contains prev I → ⊥) → HoldsInt v.locals count.local (held_value turns)
    pub stepped : Contains prev I → HoldsInt v.locals count.local (held_value (suc turns))

  -- ---- how often

  pub at_most : (turns : ℕ) → ((k : ℕ) → k < turns → count.out (tested_value k) ≡ false) → turns ≤ n
  at_most turns few =
      elim (cases_lt n turns) [
        | inl more ↦ absurd (false≢true (sym (few n more) ∙ count.first_out.leaves))
        | inr le ↦ le
      ]

  and_one : (turns : ℕ) → ((k : ℕ) → k < turns → count.out (tested_value k) ≡ false) → count.out (tested_value turns) ≡ false → (k : ℕ) → k < suc turns → count.out (tested_value k) ≡ false
  and_one turns few now k less =
      elim (cases_eq k turns) [
        | inl same ↦ subst (λ (i : ℕ). count.out (tested_value i) ≡ false) (sym same) now
        | inr other ↦ few k (omega arith)
      ]

  -- ---- each turn visits the step and the test once

  apart_step : I ≡ T → ⊥
  apart_step e =
      let same : count.step ≡ count.test = omega arith in
      let branch = test_is_branch P known m count.test count.behind_test count.local count.offset count.taken count.is_test in
      let step : IsLine P m count.test count.behind_step (rows.Increment count.local count.s) = subst (λ (p : ℕ). IsLine P m p count.behind_step (rows.Increment count.local count.s)) same count.increment in
      step_is_other one P m count.test count.behind_step count.behind_test count.local count.s branch.0 step branch.1 branch.2

  -- the nodes since the header, where one of them is told
  split_prev : (prev : List ℕ) (x last : ℕ) (p q : List ℕ) → prev ≡ p ++ x ∷ q → prev ++ last ∷ [] ≡ p ++ x ∷ (q ++ last ∷ [])
  split_prev prev x last p q e = ap (λ (zs : List ℕ). zs ++ last ∷ []) e ∙ append_assoc p (x ∷ q) (last ∷ [])

  unique : (v : Visit) (turns : ℕ) (t : Turning v turns) (x : ℕ) → IsOnEachIteration g H x → num v ≡ x → Contains t.prev x → ⊥
  unique v turns t x on at has = by t.shape
    where
      by : ((t.prev ≡ []) × (num v ≡ H)) ⊎ ((more : List ℕ) × (t.prev ≡ H ∷ more) × (Contains (more ++ num v ∷ []) H → ⊥)) → ⊥
      by (inl (empty, first)) = nil_contains x (subst (λ (zs : List ℕ). Contains zs x) empty has)
      by (inr (more, is, none)) =
          elim (cases_eq x H) [
            | inl same ↦ none (subst (λ (z : ℕ). Contains (more ++ num v ∷ []) z) (at ∙ same) (at_last more (num v)))
            | inr differ ↦ elim (cons_cases H x more (subst (λ (zs : List ℕ). Contains zs x) is has)) [
              | inl same ↦ differ (sym same)
              | inr there ↦
                  let part = split_at more x there in
                  let p = part.0 in
                  let q = part.1 in
                  let tail : more ++ num v ∷ [] ≡ p ++ x ∷ (q ++ num v ∷ []) = split_prev more x (num v) p q part.2 in
                  let whole : t.prev ++ num v ∷ [] ≡ (H ∷ p) ++ x ∷ (q ++ num v ∷ []) = ap (λ (zs : List ℕ). zs ++ num v ∷ []) is ∙ ap (λ (zs : List ℕ). H ∷ zs) tail in
                  let from : Walk g x (num v) (x ∷ (q ++ num v ∷ [])) = walk_from t.walk (H ∷ p) x (q ++ num v ∷ []) whole in
                  let cycle : Walk g x x (x ∷ (q ++ num v ∷ [])) = subst (λ (z : ℕ). Walk g x z (x ∷ (q ++ num v ∷ []))) at from in
                  no_return g cycles H x on.once (q ++ num v ∷ []) (λ e. not_nil q (num v) e) cycle
                  (λ y c. t.members y (subst (λ (zs : List ℕ). Contains zs y) (sym whole) (Contains-append_right (H ∷ p) (x ∷ (q ++ num v ∷ [])) y c)))
                  (λ c. none (subst (λ (zs : List ℕ). Contains zs H) (sym tail) (Contains-append_right p (x ∷ (q ++ num v ∷ [])) H c)))
            ]
          ]

  passed_all : (v : Visit) (turns : ℕ) (t : Turning v turns) (x : ℕ) → IsOnEachIteration g H x → IsBackEdge g (num v) H → Contains (t.prev ++ num v ∷ []) x
  passed_all v turns t x on edge =
      elim (has_or_not (t.prev ++ num v ∷ []) x) [
        | inl has ↦ has
        | inr never ↦ absurd (on.passed (num v) edge (t.prev ++ num v ∷ [], t.walk, all_of (IsMember g H) (t.prev ++ num v ∷ []) t.members, never))
      ]

  -- where the node of a visit is told, the walk to it that doesn't come to another
  reaches : (v : Visit) (turns : ℕ) (t : Turning v turns) (x y : ℕ) → num v ≡ x → (Contains t.prev y → ⊥) → (x ≡ y → ⊥) → ReachesWithout g H y x
  reaches v turns t x y at never differ = (
    t.prev ++ num v ∷ [],
    subst (λ (z : ℕ). Walk g H z (t.prev ++ num v ∷ [])) at t.walk,
    all_of (IsMember g H) (t.prev ++ num v ∷ []) t.members,
    λ c. elim (last_cases t.prev (num v) y c) [ inl there ↦ never there | inr same ↦ differ (sym at ∙ same) ],
  )

  -- the same of a node that was visited before
  reached_before : (v : Visit) (turns : ℕ) (t : Turning v turns) (x y : ℕ) → Contains t.prev x → (Contains t.prev y → ⊥) → (x ≡ y → ⊥) → ReachesWithout g H y x
  reached_before v turns t x y has never differ =
      let part = split_at t.prev x has in
      let p = part.0 in
      let q = part.1 in
      let whole : t.prev ++ num v ∷ [] ≡ p ++ x ∷ (q ++ num v ∷ []) = split_prev t.prev x (num v) p q part.2 in
      let in_prev : (z : ℕ) → Contains (p ++ x ∷ []) z → Contains t.prev z = λ z c. subst (λ (zs : List ℕ). Contains zs z) (sym part.2) (elim (Contains-append_cases p (x ∷ []) z c) [
        | inl left ↦ Contains-append_left p (x ∷ q) z left
        | inr right ↦ Contains-append_right p (x ∷ q) z (subst (λ (w : ℕ). Contains (x ∷ q) w) (single x z right) (at_head x q))
      ]) in (
        p ++ x ∷ [],
        walk_until t.walk p x (q ++ num v ∷ []) whole,
        all_of (IsMember g H) (p ++ x ∷ []) (λ z c. t.members z (Contains-append_left t.prev (num v ∷ []) z (in_prev z c))),
        λ c. never (in_prev y c),
      )

  -- ---- the test and the step

  order : ((count.first ≡ count.c) × (ReachesWithout g H T I → ⊥)) ⊎ ((count.first ≡ count.c +ℤ count.s) × (ReachesWithout g H I T → ⊥))
  order = by_order g H I T count.c count.s count.first count.tested

  -- what the local variable holds at the test
  at_test : (v : Visit) (turns : ℕ) (t : Turning v turns) → num v ≡ T → HoldsInt v.locals count.local (tested_value turns)
  at_test v turns t at = by order
    where
      by : ((count.first ≡ count.c) × (ReachesWithout g H T I → ⊥)) ⊎ ((count.first ≡ count.c +ℤ count.s) × (ReachesWithout g H I T → ⊥)) → HoldsInt v.locals count.local (tested_value turns)
      by (inl (same, none)) =
          let never : Contains t.prev I → ⊥ = λ has. none (reached_before v turns t I T has (unique v turns t T count.each_test at) apart_step) in
          subst (λ (f : ℤ). HoldsInt v.locals count.local (value_at f count.s turns)) (sym same) (t.fresh never)
      by (inr (same, none)) =
          elim (has_or_not t.prev I) [
            | inl has ↦
                let e : held_value (suc turns) ≡ tested_value turns = sym (shifted count.c count.s turns) ∙ ap (λ (f : ℤ). value_at f count.s turns) (sym same) in
                subst (λ (x : ℤ). HoldsInt v.locals count.local x) e (t.stepped has)
            | inr never ↦ absurd (none (reaches v turns t T I at never (λ e. apart_step (sym e))))
          ]

  -- the next value is an int
  fits_next : (v : Visit) (turns : ℕ) (t : Turning v turns) → num v ≡ I → FitsSigned w32 (held_value (suc turns))
  fits_next v turns t at = by order
    where
      by : ((count.first ≡ count.c) × (ReachesWithout g H T I → ⊥)) ⊎ ((count.first ≡ count.c +ℤ count.s) × (ReachesWithout g H I T → ⊥)) → FitsSigned w32 (held_value (suc turns))
      by (inl (same, none)) =
          elim (has_or_not t.prev T) [
            | inl has ↦
                let le : suc turns ≤ n = at_most (suc turns) (and_one turns t.few (t.was_tested has)) in
                subst (λ (f : ℤ). FitsSigned w32 (value_at f count.s (suc turns))) same (count.first_out.ints (suc turns) le)
            | inr never ↦ absurd (none (reaches v turns t I T at never apart_step))
          ]
      by (inr (same, none)) =
          let le : turns ≤ n = at_most turns t.few in
          let e : tested_value turns ≡ held_value (suc turns) = ap (λ (f : ℤ). value_at f count.s turns) same ∙ shifted count.c count.s turns in
          subst (FitsSigned w32) e (count.first_out.ints turns le)

  -- behind the step
  step_sets : (v b : Visit) (turns : ℕ) (t : Turning v turns) → Passes P known m v b → num v ≡ I → HoldsInt b.locals count.local (held_value (suc turns))
  step_sets v b turns t passes at =
      let node : v.node ≡ At count.step = same_node v.node (At count.step) at in
      let holds = t.fresh (unique v turns t I count.each_step at) in
      let did = passes.does count.step count.behind_step (rows.Increment count.local count.s) node count.increment.is (held_value turns) holds in
      let sum = next_value count.c count.s turns in
      let fits : FitsSigned w32 (held_value turns +ℤ count.s) = subst (FitsSigned w32) (sym sum) (fits_next v turns t at) in
      subst (λ (x : ℤ). HoldsInt b.locals count.local x) (int_wrap_fits w32 (held_value turns +ℤ count.s) fits ∙ sum) did

  other_keeps : (v b : Visit) (turns : ℕ) (t : Turning v turns) → Passes P known m v b → (num v ≡ I → ⊥) → (x : ℤ) → HoldsInt v.locals count.local x → HoldsInt b.locals count.local x
  other_keeps v b turns t passes differ x holds =
      passes.keeps count.local (Int x) refl holds (λ p is writes.
      let member : IsMember g H (number_of (At p)) = subst (λ (u : Node). IsMember g H (number_of u)) is (t.members (num v) (at_last t.prev (num v))) in
      differ (ap number_of is ∙ ap (λ (q : ℕ). number_of (At q)) (count.no_other p member writes)))

  after_stepped : (v b : Visit) (turns : ℕ) (t : Turning v turns) → Passes P known m v b → Contains (t.prev ++ num v ∷ []) I → HoldsInt b.locals count.local (held_value (suc turns))
  after_stepped v b turns t passes has =
      elim (cases_eq (num v) I) [
        | inl at ↦ step_sets v b turns t passes at
        | inr differ ↦ elim (last_cases t.prev (num v) I has) [
          | inl there ↦ other_keeps v b turns t passes differ (held_value (suc turns)) (t.stepped there)
          | inr same ↦ absurd (differ same)
        ]
      ]

  after_fresh : (v b : Visit) (turns : ℕ) (t : Turning v turns) → Passes P known m v b → (Contains (t.prev ++ num v ∷ []) I → ⊥) → HoldsInt b.locals count.local (held_value turns)
  after_fresh v b turns t passes never =
      let differ : num v ≡ I → ⊥ = λ at. never (subst (λ (z : ℕ). Contains (t.prev ++ num v ∷ []) z) at (at_last t.prev (num v))) in
      other_keeps v b turns t passes differ (held_value turns) (t.fresh (λ has. never (Contains-append_left t.prev (num v ∷ []) I has)))

  after_tested : (w v b : Visit) (ns : List ℕ) (turns : ℕ) (t : Turning v turns) → w.node ≡ At 0 → Path P known m w v ns → Passes P known m v b → IsMember g H (num b) → Contains (t.prev ++ num v ∷ []) T
      → count.out (tested_value turns) ≡ false
  after_tested w v b ns turns t begins path passes member has =
      elim (last_cases t.prev (num v) T has) [
        | inl there ↦ t.was_tested there
        | inr at ↦
            let node : v.node ≡ At count.test = same_node v.node (At count.test) at in
            let branched = tested one apart before P known m (limits_lie one apart before P known m) w v b ns begins path passes count.local count.test count.behind_test count.offset count.taken count.is_test node (tested_value turns) (at_test v turns t at) in
            stays_in g H count.test count.behind_test count.offset count.taken count.out count.leaves b (tested_value turns) branched member
      ]

  -- ---- on to the next visit

  onward_shape : (prev : List ℕ) (u x : ℕ) → ((prev ≡ []) × (u ≡ H)) ⊎ ((more : List ℕ) × (prev ≡ H ∷ more) × (Contains (more ++ u ∷ []) H → ⊥)) → (x ≡ H → ⊥)
      → (more : List ℕ) × (prev ++ u ∷ [] ≡ H ∷ more) × (Contains (more ++ x ∷ []) H → ⊥)
  onward_shape prev u x (inl (empty, first)) differ =
      ([], ap (λ (zs : List ℕ). zs ++ u ∷ []) empty ∙ ap (λ (z : ℕ). z ∷ []) first, λ c. differ (single x H c))
  onward_shape prev u x (inr (more, is, none)) differ = (
    more ++ u ∷ [],
    ap (λ (zs : List ℕ). zs ++ u ∷ []) is,
    λ c. elim (last_cases (more ++ u ∷ []) x H c) [ inl there ↦ none there | inr same ↦ differ same ],
  )

  module _ (w v b : Visit) (ns : List ℕ) (turns : ℕ) (t : Turning v turns) (begins : w.node ≡ At 0) (path : Path P known m w v ns) (passes : Passes P known m v b) (member : IsMember g H (num b)) where
    taken_edge : Edge g (num v) (num b)
    taken_edge = edge_in P known m g of v b w ns begins path passes

    pub onward : (num b ≡ H → ⊥) → Turning b turns
    onward differ = record {
      prev = t.prev ++ num v ∷ [];
      walk = walk_more t.walk taken_edge;
      members = λ x c. elim (last_cases (t.prev ++ num v ∷ []) (num b) x c) [ inl there ↦ t.members x there | inr same ↦ subst (IsMember g H) same member ];
      shape = inr (onward_shape t.prev (num v) (num b) t.shape differ);
      few = t.few;
      was_tested = λ has. after_tested w v b ns turns t begins path passes member has;
      fresh = λ never. after_fresh v b turns t passes never;
      stepped = λ has. after_stepped v b turns t passes has;
    }

    pub around : num b ≡ H → Turning b (suc turns)
    around at =
        let edge : IsBackEdge g (num v) H = back g H (num v) (t.members (num v) (at_last t.prev (num v))) (subst (λ (z : ℕ). Edge g (num v) z) at taken_edge) in
        let has_test = passed_all v turns t T count.each_test edge in
        let has_step = passed_all v turns t I count.each_step edge in
        record {
          prev = [];
          walk = subst (λ (z : ℕ). Walk g H z (z ∷ [])) (sym at) stay;
          members = λ x c. subst (IsMember g H) (single (num b) x c) member;
          shape = inl (refl, at);
          few = and_one turns t.few (after_tested w v b ns turns t begins path passes member has_test);
          was_tested = λ has. absurd (nil_contains T has);
          fresh = λ never. after_stepped v b turns t passes has_step;
          stepped = λ has. absurd (nil_contains I has);
        }

  -- ---- into the loop

  pub enter : (w y x : Visit) (ns : List ℕ) → w.node ≡ At 0 → Path P known m w y ns → Passes P known m y x → (IsMember g H (num y) → ⊥) → IsMember g H (num x) → Turning x 0
  enter w y x ns begins path passes outside member =
      let edge : Edge g (num y) (num x) = edge_in P known m g of y x w ns begins path passes in
      let entering : IsEntering g H (num y) (num x) = record { edge = edge; outside = outside; inside = member } in
      let at : num x ≡ H = entered g H (num y) (num x) entering in
      let to_header : IsEntering g H (num y) H = subst (λ (z : ℕ). IsEntering g H (num y) z) at entering in
      let holds = begun one apart before P known m w begins g H count.local count.c count.begins y x ns path passes to_header in
      record {
        prev = [];
        walk = subst (λ (z : ℕ). Walk g H z (z ∷ [])) (sym at) stay;
        members = λ z c. subst (IsMember g H) (single (num x) z c) member;
        shape = inl (refl, at);
        few = λ k less. absurd (omega arith);
        was_tested = λ has. absurd (nil_contains T has);
        fresh = λ never. subst (λ (z : ℤ). HoldsInt x.locals count.local z) (sym (value_zero count.c count.s)) holds;
        stepped = λ has. absurd (nil_contains I has);
      }

  -- a method doesn't begin within the loop
  pub begins_outside : IsMember g H 0 → ⊥
  begins_outside member =
      let dominated : Contains (0 ∷ []) H = headers g H 0 member (0 ∷ []) stay in
      count.begins.entered (sym (single 0 H dominated))
