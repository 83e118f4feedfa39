-- Of a loop that counts, the place behind its test is visited at most so often from an entry to the next.
use Rattle.std.proofs.Common.{◌≡◌, ◌⊎◌, ℕ, suc, ◌+◌, ◌<◌, ◌≤◌, Bool, false, ℤ, cond, List, [], ◌∷◌, ◌++◌, Contains, refl, sym, ap, ◌∙◌, subst, inl, inr, arith, append_assoc}
use Rattle.std.proofs.lemmas.Bool.{cases_eq, cases_lt, false_from_ne_true}
use Rattle.std.proofs.lemmas.List.{append-nil}
use Rattle.std.proofs.lemmas.List.Sums.{sum_by-append, sum_by-cons}
use Rattle.std.proofs.lemmas.List.Elements.{Contains-append_left, Contains-append_right}
use Rattle.lists.specs.Members.{heads, tails, at_head, in_tail, cons_cases, nil_contains}
use Rattle.bytecode_model.specs.Program.{Program}
use Rattle.loop_nest.specs.Digraph.{Digraph, Edge}
use Rattle.loop_nest.specs.Walks.{Walk, IsHeader, IsMember, IsBackEdge, TakesEdge}
use Rattle.loop_nest.specs.Walks.Walk.{stay, along}
use Rattle.loop_nest.specs.Laws.{HeaderDominatesMembers, LoopIsEnteredAtHeader, EdgesToHeaderAreBackEdges, EntryDominatesAll}
use Rattle.loop_nest.proofs.SimpleWalks.{begins as walk_begins, walk_from}
use Rattle.section_check.specs.Bounded.{holds}
use Rattle.section_check.proofs.Elements.{contains_from_holds, holds_from_contains}
use Rattle.method_flow.specs.Nodes.{At, number_of}
use Rattle.method_flow.specs.Graphs.{IsGraphOf}
use Rattle.code_lines.specs.Laws.{LinesAreOne, LinesAreApart, OneStandsBefore}
use Rattle.loop_rules.specs.Iterations.{IsOnEachIteration}
use Rattle.loop_rules.specs.Values.{value_at}
use Rattle.loop_rules.specs.Counted.{EachCycleIsALoop}
use Rattle.loop_rules.specs.Further.Known.{Known}
use Rattle.counted_laws.specs.Visits.{Visit, Passes, Path}
use Rattle.counted_laws.specs.Visits.Path.{here, more}
use Rattle.counted_laws.specs.Counting.{CountsFurther}
use Rattle.counted_laws.proofs.Cycles.{split_at, at_last, last_cases, no_return, walk_more}
use Rattle.counted_laws.proofs.Visiting.{edge_in}
use Rattle.counted_laws.proofs.Turning.{Turning, at_most, onward, around, enter}
use Rattle.priced_sections.specs.Visits.{visits_of, IsSegment, KeepsPer}
use Rattle.counted_facts.specs.Stays.{GoesOnAt, StaysFurther}
use Rattle.counted_facts.specs.Stays.GoesOnAt.{behind, taken}
use Rattle.counted_facts.specs.Laws.{StayingPathsKeep}

-- ---- lists by their last items

no_end : (xs ys : List ℕ) → [] ≡ xs ++ ys → ys ≡ []
no_end [] ys e = sym e
no_end (x ∷ xs) ys e = absurd (cc)

not_nil : (x : ℕ) (xs : List ℕ) → x ∷ xs ≡ [] → ⊥
not_nil x xs e = absurd (cc)

snoc_not_nil : (xs : List ℕ) (x : ℕ) → xs ++ x ∷ [] ≡ [] → ⊥
snoc_not_nil [] x e = absurd (cc)
snoc_not_nil (y ∷ ys) x e = absurd (cc)

-- the last item of a list that ends in a part
record Split (ns : List ℕ) (x : ℕ) (before seg : List ℕ) : Type 0 where
  front : List ℕ
  is : seg ≡ front ++ x ∷ []
  rest : ns ≡ before ++ front

split_last : (ns : List ℕ) (x : ℕ) (before seg : List ℕ) → ns ++ x ∷ [] ≡ before ++ seg → (seg ≡ [] → ⊥) → Split ns x before seg
split_last ns x [] seg e some = record { front = ns; is = sym e; rest = refl }
split_last [] x (y ∷ ys) seg e some = absurd (some (no_end ys seg (tails x y [] (ys ++ seg) e)))
split_last (z ∷ zs) x (y ∷ ys) seg e some =
    let r = split_last zs x ys seg (tails z y (zs ++ x ∷ []) (ys ++ seg) e) some in
    let same : z ≡ y = heads z y (zs ++ x ∷ []) (ys ++ seg) e in
    record { front = r.front; is = r.is; rest = ap (λ (k : ℕ). k ∷ zs) same ∙ ap (λ (l : List ℕ). y ∷ l) r.rest }

single : (x y : ℕ) → Contains (x ∷ []) y → x ≡ y
single x y c = elim (cons_cases x y [] c) [ inl same ↦ same | inr none ↦ absurd (nil_contains y none) ]

-- ---- how often one node is visited

module _ (y : ℕ) where
  abbrev often : List ℕ → ℕ
  often xs = visits_of (y ∷ []) xs

  abbrev one_if : ℕ → ℕ
  one_if x = cond (holds (y ∷ []) x) 1 0

  often_last : (xs : List ℕ) (x : ℕ) → often (xs ++ x ∷ []) ≡ often xs + one_if x
  often_last xs x =
      let a = sum_by-append one_if xs (x ∷ []) in
      let b = sum_by-cons one_if x [] in
      omega arith

  is_one : (x : ℕ) → x ≡ y → one_if x ≡ 1
  is_one x e = ap (λ (b : Bool). cond b 1 0) (holds_from_contains (y ∷ []) x (subst (λ (z : ℕ). Contains (y ∷ []) z) (sym e) (at_head y [])))

  is_none : (x : ℕ) → (x ≡ y → ⊥) → one_if x ≡ 0
  is_none x d = ap (λ (b : Bool). cond b 1 0) (false_from_ne_true (holds (y ∷ []) x) (λ t. d (sym (single y x (contains_from_holds (y ∷ []) x t)))))

-- ---- walks

-- a walk that comes to y, to which all edges come from t, was at t before its end
was_before : {g : Digraph} {a u : ℕ} {ns : List ℕ} → Walk g a u ns → (y t : ℕ) → ((z : ℕ) → Edge g z y → z ≡ t) → (y ≡ a → ⊥) → Contains ns y → (xs : List ℕ) → ns ≡ xs ++ u ∷ [] → Contains xs t
was_before {g} (stay {u}) y t alone other has xs e = absurd (other (sym (single u y has)))
was_before {g} (along {u} {v} {w} {ns} edge rest) y t alone other has [] e =
    let b = walk_begins rest in
    let none : ns ≡ [] = tails u w ns [] e in
    absurd (not_nil v b.0 (sym b.1 ∙ none))
was_before {g} (along {u} {v} {w} {ns} edge rest) y t alone other has (x ∷ xs) e =
    let same : u ≡ x = heads u x ns (xs ++ w ∷ []) e in
    let tail : ns ≡ xs ++ w ∷ [] = tails u x ns (xs ++ w ∷ []) e in
    elim (cons_cases u y ns has) [
      | inl at ↦ absurd (other (sym at))
      | inr there ↦ elim (cases_eq y v) [
        | inl at ↦
            let from : u ≡ t = alone u (subst (λ (z : ℕ). Edge g u z) (sym at) edge) in
            subst (λ (z : ℕ). Contains (x ∷ xs) z) (sym same ∙ from) (at_head x xs)
        | inr differ ↦ in_tail x t xs (was_before rest y t alone differ there xs tail)
      ]
    ]

module _ (P : Program) (known : Known) (m : ℕ) where
  path_last : {w v : Visit} {ns : List ℕ} → Path P known m w v ns → (ms : List ℕ) × (ns ≡ ms ++ number_of v.node ∷ [])
  path_last (here) = ([], refl)
  path_last (more {b} {c} {ns} path passes) = (ns, refl)

  -- the part of a path up to one of its visits
  prefix : {w v : Visit} {ns : List ℕ} → Path P known m w v ns → (xs after : List ℕ) → ns ≡ xs ++ after → (xs ≡ [] → ⊥) → (u : Visit) × Path P known m w u xs
  prefix {w} {v} {ns} path xs [] e some = (v, subst (λ (l : List ℕ). Path P known m w v l) (e ∙ append-nil xs) path)
  prefix {w} (here) xs (a ∷ more_after) e some =
      let r = split_last [] (number_of w.node) xs (a ∷ more_after) e (not_nil a more_after) in
      absurd (some (none_left xs r.front r.rest))
    where
      none_left : (ys zs : List ℕ) → [] ≡ ys ++ zs → ys ≡ []
      none_left [] zs e' = refl
      none_left (y ∷ ys) zs e' = absurd (cc)
  prefix {w} (more {b} {c} {ns} path passes) xs (a ∷ more_after) e some =
      let r = split_last ns (number_of c.node) xs (a ∷ more_after) e (not_nil a more_after) in
      prefix path xs r.front r.rest some

-- where a loop goes on it stays among its members
goes_inside : {g : Digraph} {h p next : ℕ} {offset : ℤ} {y : ℕ} → GoesOnAt g h p next offset y → IsMember g h (number_of (At y))
goes_inside (behind at outside inside) = inside
goes_inside (taken at inside outside) = inside

-- the source of a back edge is a member
source_inside : (g : Digraph) (h u : ℕ) → IsBackEdge g u h → IsMember g h u
source_inside g h u edge =
    let header : IsHeader g h = (u, edge) in
    elim (cases_eq u h) [
      | inl at ↦ (header, inl at)
      | inr differ ↦ (header, inr (record { source = u; back_edge = edge; leads = (u ∷ [], stay, λ c. differ (single u h c)) }))
    ]

module _ (one : LinesAreOne) (apart : LinesAreApart) (before : OneStandsBefore) (headers : HeaderDominatesMembers) (entered : LoopIsEnteredAtHeader) (back : EdgesToHeaderAreBackEdges) (entry : EntryDominatesAll)
    (P : Program) (known : Known) (m : ℕ) (g : Digraph) (h n y : ℕ) (of : IsGraphOf P m g) (cycles : EachCycleIsALoop g) (fact : StaysFurther P known m g h n y) where
  abbrev count : CountsFurther P known m g h n
  count = fact.counts

  abbrev H : ℕ
  H = number_of (At h)

  abbrev Y : ℕ
  Y = number_of (At y)

  abbrev T : ℕ
  T = number_of (At fact.counts.test)

  abbrev num : Visit → ℕ
  num v = number_of v.node

  abbrev Turns : Visit → ℕ → Type 0
  Turns v k = Turning one apart before headers entered back entry P known m g h n of cycles fact.counts v k

  -- since the header these nodes were visited before this one
  record Since (v : Visit) : Type 0 where
    prev : List ℕ
    walk : Walk g H (num v) (prev ++ num v ∷ [])
    members : (x : ℕ) → Contains (prev ++ num v ∷ []) x → IsMember g H x
    shape : ((prev ≡ []) × (num v ≡ H)) ⊎ ((later : List ℕ) × (prev ≡ H ∷ later) × (Contains (later ++ num v ∷ []) H → ⊥))

  at_header : (v : Visit) → num v ≡ H → IsMember g H (num v) → Since v
  at_header v at member = record {
    prev = [];
    walk = subst (λ (z : ℕ). Walk g H z (z ∷ [])) (sym at) stay;
    members = λ x c. subst (IsMember g H) (single (num v) x c) member;
    shape = inl (refl, at);
  }

  onward_shape : (prev : List ℕ) (u x : ℕ) → ((prev ≡ []) × (u ≡ H)) ⊎ ((later : List ℕ) × (prev ≡ H ∷ later) × (Contains (later ++ u ∷ []) H → ⊥)) → (x ≡ H → ⊥)
      → (later : List ℕ) × (prev ++ u ∷ [] ≡ H ∷ later) × (Contains (later ++ x ∷ []) H → ⊥)
  onward_shape prev u x (inl (empty, first)) differ =
      ([], ap (λ (zs : List ℕ). zs ++ u ∷ []) empty ∙ ap (λ (z : ℕ). z ∷ []) first, λ c. differ (single x H c))
  onward_shape prev u x (inr (later, is, none)) differ = (
    later ++ u ∷ [],
    ap (λ (zs : List ℕ). zs ++ u ∷ []) is,
    λ c. elim (last_cases (later ++ u ∷ []) x H c) [ inl there ↦ none there | inr same ↦ differ same ],
  )

  -- a step on within the turn
  abbrev since_on : (v b : Visit) → Since v → Edge g (num v) (num b) → IsMember g H (num b) → (num b ≡ H → ⊥) → Since b
  since_on v b t edge member differ = record {
    prev = t.prev ++ num v ∷ [];
    walk = walk_more t.walk edge;
    members = λ x c. elim (last_cases (t.prev ++ num v ∷ []) (num b) x c) [ inl there ↦ t.members x there | inr same ↦ subst (IsMember g H) same member ];
    shape = inr (onward_shape t.prev (num v) (num b) t.shape differ);
  }

  -- a turn visits the test once
  unique : (v : Visit) (t : Since v) (x : ℕ) → IsOnEachIteration g H x → num v ≡ x → Contains t.prev x → ⊥
  unique v t x on at has = by t.shape
    where
      by : ((t.prev ≡ []) × (num v ≡ H)) ⊎ ((later : List ℕ) × (t.prev ≡ H ∷ later) × (Contains (later ++ num v ∷ []) H → ⊥)) → ⊥
      by (inl (empty, first)) = nil_contains x (subst (λ (zs : List ℕ). Contains zs x) empty has)
      by (inr (later, is, none)) =
          elim (cases_eq x H) [
            | inl same ↦ none (subst (λ (z : ℕ). Contains (later ++ num v ∷ []) z) (at ∙ same) (at_last later (num v)))
            | inr differ ↦ elim (cons_cases H x later (subst (λ (zs : List ℕ). Contains zs x) is has)) [
              | inl same ↦ differ (sym same)
              | inr there ↦
                  let part = split_at later x there in
                  let p = part.0 in
                  let q = part.1 in
                  let tail : later ++ num v ∷ [] ≡ p ++ x ∷ (q ++ num v ∷ []) = ap (λ (zs : List ℕ). zs ++ num v ∷ []) part.2 ∙ append_assoc p (x ∷ q) (num v ∷ []) in
                  let whole : t.prev ++ num v ∷ [] ≡ (H ∷ p) ++ x ∷ (q ++ num v ∷ []) = ap (λ (zs : List ℕ). zs ++ num v ∷ []) is ∙ ap (λ (zs : List ℕ). H ∷ zs) tail in
                  let from : Walk g x (num v) (x ∷ (q ++ num v ∷ [])) = walk_from t.walk (H ∷ p) x (q ++ num v ∷ []) whole in
                  let cycle : Walk g x x (x ∷ (q ++ num v ∷ [])) = subst (λ (z : ℕ). Walk g x z (x ∷ (q ++ num v ∷ []))) at from in
                  no_return g cycles H x on.once (q ++ num v ∷ []) (λ e. snoc_not_nil q (num v) e) cycle
                  (λ z c. t.members z (subst (λ (zs : List ℕ). Contains zs z) (sym whole) (Contains-append_right (H ∷ p) (x ∷ (q ++ num v ∷ [])) z c)))
                  (λ c. none (subst (λ (zs : List ℕ). Contains zs H) (sym tail) (Contains-append_right p (x ∷ (q ++ num v ∷ [])) H c)))
            ]
          ]

  -- where a visit of the place comes, the test of its turn lets the loop go on
  lets_go_on : (v : Visit) (turns : ℕ) → Turns v turns → num v ≡ Y → count.out (value_at count.first count.s turns) ≡ false
  lets_go_on v turns t at =
      let has : Contains (t.prev ++ num v ∷ []) Y = subst (λ (z : ℕ). Contains (t.prev ++ num v ∷ []) z) at (at_last t.prev (num v)) in
      t.was_tested (was_before t.walk Y T fact.alone fact.other has t.prev refl)

  and_one : (turns : ℕ) (v : Visit) (t : Turns v turns) → count.out (value_at count.first count.s turns) ≡ false → suc turns ≤ n
  and_one turns v t now = at_most one apart before headers entered back entry P known m g h n of cycles fact.counts (suc turns) few
    where
      few : (k : ℕ) → k < suc turns → count.out (value_at count.first count.s k) ≡ false
      few k less =
          elim (cases_eq k turns) [
            | inl same ↦ subst (λ (i : ℕ). count.out (value_at count.first count.s i) ≡ false) (sym same) now
            | inr other ↦ t.few k (omega arith)
          ]

  -- ---- from visit to visit

  -- how often the place was visited since the entry: in this turn not yet, or once
  abbrev Sofar : (v : Visit) (turns : ℕ) → Since v → ℕ → Type 0
  Sofar v turns s k = (k ≤ turns) ⊎ ((k ≡ suc turns) × (count.out (value_at count.first count.s turns) ≡ false) × Contains (s.prev ++ num v ∷ []) Y)

  abbrev Inside : Visit → ℕ → Type 0
  Inside v k = (turns : ℕ) × Turns v turns × (s : Since v) × Sofar v turns s k

  -- the loop was left
  abbrev Outside : Visit → ℕ → Type 0
  Outside v k = (IsMember g H (num v) → ⊥) × (k ≤ n)

  abbrev State : Visit → ℕ → Type 0
  State v k = Inside v k ⊎ Outside v k

  few_visits : (v : Visit) (turns : ℕ) (t : Turns v turns) (s : Since v) (k : ℕ) → Sofar v turns s k → k ≤ n
  few_visits v turns t s k (inl le) = let most = at_most one apart before headers entered back entry P known m g h n of cycles fact.counts turns t.few in omega arith
  few_visits v turns t s k (inr (is, now, has)) = let most = and_one turns v t now in omega arith

  at_most_n : (v : Visit) (k : ℕ) → State v k → k ≤ n
  at_most_n v k (inl (turns, t, s, sofar)) = few_visits v turns t s k sofar
  at_most_n v k (inr (out, le)) = le

  module _ (w v b : Visit) (ns : List ℕ) (k : ℕ) (begins : w.node ≡ At 0) (path : Path P known m w v ns) (passes : Passes P known m v b) where
    edge : Edge g (num v) (num b)
    edge = edge_in P known m g of v b w ns begins path passes

    -- control comes to the place: from the test, and for the first time in this turn
    comes : (turns : ℕ) (s : Since v) → Sofar v turns s k → num b ≡ Y → k ≤ turns
    comes turns s (inl le) at = le
    comes turns s (inr (is, now, has)) at =
        let from : num v ≡ T = fact.alone (num v) (subst (λ (z : ℕ). Edge g (num v) z) at edge) in
        absurd (unique v s T count.each_test from (was_before s.walk Y T fact.alone fact.other has s.prev refl))

    goes_on : (turns : ℕ) (t : Turns v turns) (s : Since v) → Sofar v turns s k → (member : IsMember g H (num b)) → (num b ≡ H → ⊥) → Inside b (k + one_if Y (num b))
    goes_on turns t s sofar member differ = (turns, next, since_on v b s edge member differ, by (cases_eq (num b) Y))
      where
        next : Turns b turns
        next = onward one apart before headers entered back entry P known m g h n of cycles fact.counts w v b ns turns t begins path passes member differ

        still : Sofar v turns s k → (num b ≡ Y → ⊥) → Sofar b turns (since_on v b s edge member differ) (k + one_if Y (num b))
        still (inl le) other = let none = is_none Y (num b) other in inl (omega arith)
        still (inr (is, now, has)) other =
            let none = is_none Y (num b) other in
            inr (omega arith, now, Contains-append_left (s.prev ++ num v ∷ []) (num b ∷ []) Y has)

        by : (num b ≡ Y) ⊎ (num b ≡ Y → ⊥) → Sofar b turns (since_on v b s edge member differ) (k + one_if Y (num b))
        by (inr other) = still sofar other
        by (inl at) =
            let le = comes turns s sofar at in
            let unit = is_one Y (num b) at in
            elim (cases_lt k turns) [
              | inl less ↦ inl (omega arith)
              | inr most ↦ inr (omega arith, lets_go_on b turns next at, subst (λ (z : ℕ). Contains ((s.prev ++ num v ∷ []) ++ num b ∷ []) z) at (at_last (s.prev ++ num v ∷ []) (num b)))
            ]

    goes_around : (turns : ℕ) (t : Turns v turns) (s : Since v) → Sofar v turns s k → (member : IsMember g H (num b)) → num b ≡ H → Inside b (k + one_if Y (num b))
    goes_around turns t s sofar member at = (suc turns, around one apart before headers entered back entry P known m g h n of cycles fact.counts w v b ns turns t begins path passes member at, at_header b at member, inl (by sofar))
      where
        none : one_if Y (num b) ≡ 0
        none = is_none Y (num b) (λ e. fact.other (sym e ∙ at))

        by : Sofar v turns s k → k + one_if Y (num b) ≤ suc turns
        by (inl le) = let zero' = none in omega arith
        by (inr (is, now, has)) = let zero' = none in omega arith

    leaves : State v k → (IsMember g H (num b) → ⊥) → Outside b (k + one_if Y (num b))
    leaves s out =
        let most = at_most_n v k s in
        let none = is_none Y (num b) (λ at. out (subst (IsMember g H) (sym at) (goes_inside fact.place))) in
        (out, omega arith)

    -- one visit further, where each step to the header is by a back edge
    steps : State v k → (num b ≡ H → IsBackEdge g (num v) H) → (State b (k + one_if Y (num b)) → ⊥) → ⊥
    steps (inr (out, le)) stays never =
        never (inr (leaves (inr (out, le)) (λ member.
        let at : num b ≡ H = entered g H (num v) (num b) (record { edge = edge; outside = out; inside = member }) in
        let edge' = stays at in
        out (source_inside g H (num v) edge'))))
    steps (inl (turns, t, s, sofar)) stays never =
        never (inr (leaves (inl (turns, t, s, sofar)) (λ member. elim (cases_eq (num b) H) [
          | inl at ↦ never (inl (goes_around turns t s sofar member at))
          | inr differ ↦ never (inl (goes_on turns t s sofar member differ))
        ])))

  -- ---- along a segment

  module _ (w : Visit) (begins : w.node ≡ At 0) (xs : List ℕ) (enters : (earlier : List ℕ) (u : ℕ) → xs ≡ earlier ++ u ∷ [] → IsBackEdge g u H → ⊥) where
    abbrev Claim : Visit → List ℕ → Type 0
    Claim v ns = (further : List ℕ) → ns ≡ xs ++ H ∷ further → ((u : ℕ) → TakesEdge (H ∷ further) u H → IsBackEdge g u H) → (State v (often Y (H ∷ further)) → ⊥) → ⊥

    header_member : IsMember g H H
    header_member = (count.each_step.member.0, inl refl)

    at_entry : (b v : Visit) (ns : List ℕ) → Path P known m w b ns → Passes P known m b v → num v ≡ H → ns ≡ xs → Turns v 0
    at_entry b v ns path passes at same =
        let l = path_last P known m path in
        let to_header : Edge g (num b) H = subst (λ (z : ℕ). Edge g (num b) z) at (edge_in P known m g of b v w ns begins path passes) in
        enter one apart before headers entered back entry P known m g h n of cycles fact.counts w b v ns begins path passes
        (λ inside. enters l.0 (num b) (sym same ∙ l.1) (back g H (num b) inside to_header)) (subst (IsMember g H) (sym at) header_member)

    first_visit : often Y (H ∷ []) ≡ 0
    first_visit = let a = often_last Y [] H in let b = is_none Y H (λ e. fact.other (sym e)) in omega arith

    on : (b v : Visit) (ns : List ℕ) → Path P known m w b ns → Passes P known m b v → Claim b ns → (front further : List ℕ) → H ∷ further ≡ front ++ num v ∷ [] → ns ≡ xs ++ front
        → ((u : ℕ) → TakesEdge (H ∷ further) u H → IsBackEdge g u H) → (State v (often Y (H ∷ further)) → ⊥) → ⊥
    on b v ns path passes claim [] further is rest stays never =
        let at : H ≡ num v = heads H (num v) further [] is in
        let none : further ≡ [] = tails H (num v) further [] is in
        let zero' : often Y (H ∷ further) ≡ 0 = ap (λ (l : List ℕ). often Y (H ∷ l)) none ∙ first_visit in
        never (inl (0, at_entry b v ns path passes (sym at) (rest ∙ append-nil xs), at_header v (sym at) (subst (IsMember g H) at header_member), inl (omega arith)))
    on b v ns path passes claim (z ∷ zs) further is rest stays never =
        let at : H ≡ z = heads H z further (zs ++ num v ∷ []) is in
        let tail : further ≡ zs ++ num v ∷ [] = tails H z further (zs ++ num v ∷ []) is in
        let before' : ns ≡ xs ++ H ∷ zs = rest ∙ ap (λ (k : ℕ). xs ++ k ∷ zs) (sym at) in
        let sum : often Y (H ∷ further) ≡ often Y (H ∷ zs) + one_if Y (num v) = ap (λ (l : List ℕ). often Y (H ∷ l)) tail ∙ often_last Y (H ∷ zs) (num v) in
        claim zs before' (λ u takes. stays u (takes.0, takes.1 ++ num v ∷ [], ap (λ (l : List ℕ). H ∷ l) tail ∙ (ap (λ (l : List ℕ). l ++ num v ∷ []) takes.2 ∙ append_assoc takes.0 (u ∷ H ∷ takes.1) (num v ∷ []))))
        (λ s. steps w b v ns (often Y (H ∷ zs)) begins path passes s (λ to. stays (num b) (last_edge to tail before')) (λ s'. never (subst (State v) (sym sum) s')))
      where
        last_edge : num v ≡ H → further ≡ zs ++ num v ∷ [] → ns ≡ xs ++ H ∷ zs → TakesEdge (H ∷ further) (num b) H
        last_edge to tail before' =
            let l = path_last P known m path in
            let r = split_last l.0 (num b) xs (H ∷ zs) (sym l.1 ∙ before') (not_nil H zs) in
            (r.front, [], ap (λ (l : List ℕ). H ∷ l) tail ∙ (ap (λ (l : List ℕ). l ++ num v ∷ []) r.is ∙ (append_assoc r.front (num b ∷ []) (num v ∷ []) ∙ ap (λ (k : ℕ). r.front ++ num b ∷ k ∷ []) to)))

    along_path : (v : Visit) (ns : List ℕ) → Path P known m w v ns → Claim v ns
    along_path v ns (here) further e stays never =
        let r = split_last [] (num w) xs (H ∷ further) e (not_nil H further) in
        let none : xs ≡ [] = no_front xs r.front r.rest in
        let at : num w ≡ H = heads (num w) H [] further (e ∙ ap (λ (l : List ℕ). l ++ H ∷ further) none) in
        fact.counts.begins.entered (sym at ∙ ap number_of begins)
      where
        no_front : (ys zs : List ℕ) → [] ≡ ys ++ zs → ys ≡ []
        no_front [] zs e' = refl
        no_front (y ∷ ys) zs e' = absurd (cc)
    along_path v ns (more {b} {c} {ns = ms} path passes) further e stays never =
        let r = split_last ms (num c) xs (H ∷ further) e (not_nil H further) in
        on b c ms path passes (along_path b ms path) r.front further r.is r.rest stays never

  snoc_some : (xs ys : List ℕ) (x : ℕ) → xs ++ x ∷ ys ≡ [] → ⊥
  snoc_some [] ys x e = absurd (cc)
  snoc_some (z ∷ zs) ys x e = absurd (cc)

  pub keeps : (w v : Visit) (us : List ℕ) → w.node ≡ At 0 → Path P known m w v us → KeepsPer g H (Y ∷ []) n us
  keeps w v us begins path = λ part segment. by part segment
    where
      by : (part : List ℕ) → IsSegment g H us part → visits_of (Y ∷ []) part ≤ n
      by part s =
          let whole : us ≡ (s.before ++ H ∷ s.further) ++ s.after = s.split ∙ (ap (λ (l : List ℕ). s.before ++ (l ++ s.after)) s.part_is ∙ sym (append_assoc s.before (H ∷ s.further) s.after)) in
          let p = prefix P known m path (s.before ++ H ∷ s.further) s.after whole (snoc_some s.before s.further H) in
          let same : visits_of (Y ∷ []) part ≡ often Y (H ∷ s.further) = ap (often Y) s.part_is in
          elim (cases_lt n (often Y (H ∷ s.further))) [
            | inr le ↦ omega arith
            | inl above ↦ absurd (along_path w begins s.before s.enters p.0 (s.before ++ H ∷ s.further) p.1 s.further refl
                (λ u takes. s.stays u (subst (λ (l : List ℕ). TakesEdge l u H) (sym s.part_is) takes)) (λ state. let most = at_most_n p.0 (often Y (H ∷ s.further)) state in omega arith))
          ]

pub staying_paths_keep : LinesAreOne → LinesAreApart → OneStandsBefore → HeaderDominatesMembers → LoopIsEnteredAtHeader → EdgesToHeaderAreBackEdges → EntryDominatesAll → StayingPathsKeep
staying_paths_keep one apart before headers entered back entry P known m g h n y a b us of cycles fact begins path = keeps one apart before headers entered back entry P known m g h n y of cycles fact a b us begins path
