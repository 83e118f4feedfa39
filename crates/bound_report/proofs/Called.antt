-- What is added at a node, by the method with the greatest number among those that are called there.
use Rattle.std.proofs.Common.{◌≡◌, ◌≢◌, ℕ, ◌+◌, ◌-◌, ◌*◌, ◌<◌, Bool, true, false, not, List, [], ◌∷◌, Contains, Option, Some, None, refl, sym, ap, ap₂, ◌∙◌, subst, inl, inr, arith}
use Rattle.std.specs.Prelude.{◌↔◌, if◌then◌else◌, option_map, unwrap_or, slice_get, slice_index_or, IsSome}
use Rattle.std.proofs.lemmas.Bool.{cases_lt, cond_below, cond_above}
use Rattle.lists.proofs.Lemmas.{map_some, some_in}
use Rattle.lists.specs.Members.{has_or_not, map_contains}
use Rattle.opcodes.specs.Start.{IsStart, AreStarts}
use Rattle.bytecode_model.specs.Program.{Program, body_of}
use Rattle.method_flow.specs.declared.flow.Call.{Call}
use Rattle.method_flow.specs.Calls.{IsStartOf, IsTarget, targets_of}
use Rattle.method_flow.specs.Flow.{Coded, IsCoded, IsCodedOf, Flow, IsFlowOf, places_of, targets_of_call}
use Rattle.method_flow.specs.Kinds.{RowsAreOfTheirKinds}
use Rattle.method_flow.specs.Live.{IsLiveEdge}
use Rattle.method_flow.specs.Nodes.{Node, At, RaiseAt, number_of, IsReached}
use Rattle.method_flow.specs.Recursion.{MayCall}
use Rattle.method_flow.specs.Regions.{load}
use Rattle.method_flow.specs.declared.timing.Timing.{Timing}
use Rattle.flow_graph.proofs.Joining.{reached_alike}
use Rattle.flow_graph.proofs.Starting.{IsPlaced, body, first_placed, next_placed, target_calls, call_at, among_at, call_listed}
use Rattle.bound_rules.specs.Costs.{greater, greatest_of, added, added_at}
use Rattle.bound_rules.specs.Fitting.{loads_of}
use Rattle.bound_rules.specs.Numbers.{full_and_back}
use Rattle.bound_rules.proofs.Greatest.{same_members, none_greatest}
use Rattle.compact_walks.specs.Limited.{cycles_limit, limited}
use Rattle.bound_finder.specs.declared.known.Known.{Known}
use Rattle.bound_finder.specs.Known.{known_at, CalleesAreKnown, IsFullBy, IsToldOf}
use Rattle.bound_finder.specs.Known.IsFullBy.{fits as full_fits, exceeds as full_exceeds}
use Rattle.bound_finder.specs.Laws.{numbers_by}
use Rattle.bound_finder.proofs.Limiting.{small_is}
use Rattle.bound_report.specs.declared.callees.Callee.{Callee}
use Rattle.bound_report.specs.Counts.{IsMore, IsAdded}
use Rattle.bound_report.specs.Counts.IsMore.{fits, exceeds}
use Rattle.bound_report.specs.Callees.{IsGreatestTarget, more_of, loads_at, IsCallee, no_callee, callee_at, AreCallees}
use Rattle.bound_report.specs.Settled.{asked_in}

-- ---- greatest values

greater_back : (b : ℕ) (x y : Option ℕ) → greater (option_map (λ n. n + b) x) (option_map (λ n. n + b) y) ≡ option_map (λ n. n + b) (greater x y)
greater_back b None y = refl
greater_back b (Some m) None = refl
greater_back b (Some m) (Some n) =
    ap (λ (k : ℕ). Some k)
    (elim (cases_lt m n) [
      | inl less ↦ sym (cond_below (m + b) (n + b) (n + b) (m + b) (omega arith)) ∙ ap (λ (k : ℕ). k + b) (cond_below m n n m less)
      | inr more ↦ sym (cond_above (m + b) (n + b) (n + b) (m + b) (m + b) (omega arith) refl) ∙ ap (λ (k : ℕ). k + b) (cond_above m n n m m more refl)
    ])

greatest_back : (b : ℕ) (f : ℕ → Option ℕ) (xs : List ℕ) → greatest_of (λ x. option_map (λ n. n + b) (f x)) xs ≡ option_map (λ n. n + b) (greatest_of f xs)
greatest_back b f [] = refl
greatest_back b f (x ∷ xs) = ap (greater (option_map (λ n. n + b) (f x))) (greatest_back b f xs) ∙ greater_back b (f x) (greatest_of f xs)

some_of : (o : Option ℕ) → IsSome o → (n : ℕ) × (o ≡ Some n)
some_of None some = absurd (let bad : false ≡ true = some in cc)
some_of (Some n) some = (n, refl)

-- what is called adds, without loads or with them
abbrev pub adds_if : Program → Timing → List Known → (method place : ℕ) → (without : Bool) → ℕ
adds_if P t table m p b = if b then added P m p (numbers_by table).inside else added P m p (full_and_back P t (numbers_by table) m)

-- ---- one call

module _ (P : Program) (t : Timing) (table : List Known) (m p : ℕ) (targets : List ℕ) (start : IsStartOf P m p) (told : (x : ℕ) → IsTarget P m p x → IsToldOf P t x (known_at table x))
    (same : (f : ℕ → Option ℕ) → greatest_of f targets ≡ greatest_of f (targets_of P m p)) (members : (x : ℕ) → Contains targets x → IsTarget P m p x) where
  abbrev asked : ℕ → Option ℕ
  asked = asked_in table

  abbrev back : ℕ
  back = load P t.read m

  -- without loads
  inside_added : (target : Option ℕ) (loads : ℕ) → IsGreatestTarget table false targets target → loads ≡ loads_at table false back target
      → IsAdded P t asked m (At p) false target loads (added P m p (numbers_by table).inside)
  inside_added None loads g e = (e, ap (λ (o : Option ℕ). unwrap_or o 0) (sym (same asked) ∙ g))
  inside_added (Some x) loads g e =
      let n = some_of (asked x) g.1 in
      let value : added P m p (numbers_by table).inside ≡ n.0 = ap (λ (o : Option ℕ). unwrap_or o 0) (sym (same asked) ∙ (g.2 ∙ n.1)) in
      ((start, members x g.0), e, (n.0, n.1, omega arith))

  -- with loads
  more_is : (x nf n more : ℕ) → nf ≡ limited (n + more) → nf < cycles_limit → (known_at table x).full ≡ Some nf → (known_at table x).asked ≡ Some n → more_of (known_at table x) ≡ more
  more_is x nf n more is small full number =
      let exact : nf ≡ n + more = is ∙ small_is (n + more) (omega arith) in
      let a : more_of (known_at table x) ≡ nf - n = ap₂ (λ (u v : Option ℕ). unwrap_or u 0 - unwrap_or v 0) full number in
      omega arith

  paid : (x nf : ℕ) → (known_at table x).full ≡ Some nf → nf < cycles_limit → IsFullBy P t x (known_at table x) → (n : ℕ) × (asked x ≡ Some n) × (more : ℕ) × IsMore P t x more × (more_of (known_at table x) ≡ more) × (nf ≡ n + more)
  paid x nf full small (full_fits together is) =
      let n = map_some (λ k. limited (k + loads_of together)) (known_at table x).asked nf (sym is ∙ full) in
      let exact : nf ≡ n.0 + loads_of together = sym n.2 ∙ small_is (n.0 + loads_of together) (let e = n.2 in omega arith) in
      (n.0, n.1, loads_of together, fits together, more_is x nf n.0 (loads_of together) (sym n.2) small full n.1, exact)
  paid x nf full small (full_exceeds apart is) =
      let n = map_some (λ k. limited (k + load P t.read x)) (known_at table x).asked nf (sym is ∙ full) in
      let exact : nf ≡ n.0 + load P t.read x = sym n.2 ∙ small_is (n.0 + load P t.read x) (let e = n.2 in omega arith) in
      (n.0, n.1, load P t.read x, exceeds apart, more_is x nf n.0 (load P t.read x) (sym n.2) small full n.1, exact)

  full_value : added P m p (full_and_back P t (numbers_by table) m) ≡ unwrap_or (option_map (λ n. n + back) (greatest_of (λ x. (known_at table x).full) targets)) 0
  full_value =
      ap (λ (o : Option ℕ). unwrap_or o 0)
      (greatest_back back (λ x. (known_at table x).full) (targets_of P m p) ∙ ap (option_map (λ n. n + back)) (sym (same (λ x. (known_at table x).full))))

  full_added : (target : Option ℕ) (loads : ℕ) → IsGreatestTarget table true targets target → loads ≡ loads_at table true back target → added P m p (full_and_back P t (numbers_by table) m) < cycles_limit
      → IsAdded P t asked m (At p) true target loads (added P m p (full_and_back P t (numbers_by table) m))
  full_added None loads g e small = (e, full_value ∙ ap (λ (o : Option ℕ). unwrap_or (option_map (λ n. n + back) o) 0) g)
  full_added (Some x) loads g e small =
      let nf = some_of (known_at table x).full g.1 in
      let value : added P m p (full_and_back P t (numbers_by table) m) ≡ nf.0 + back = full_value ∙ ap (λ (o : Option ℕ). unwrap_or (option_map (λ n. n + back) o) 0) (g.2 ∙ nf.1) in
      let is = paid x nf.0 nf.1 (omega arith) (told x (members x g.0)).sum in
      let n = is.0 in
      let more = is.2 in
      let exact = is.5 in
      let paid_more = is.4 in
      ((start, members x g.0), (more, is.3, omega arith), (n, is.1, omega arith))

  pub called_added : (b : Bool) (c : Callee) → IsCallee table (not b) back targets c → adds_if P t table m p b < cycles_limit → IsAdded P t asked m (At p) (not b) c.target c.loads (adds_if P t table m p b)
  called_added true c is small = inside_added c.target c.loads is.greatest is.loads
  called_added false c is small = full_added c.target c.loads is.greatest is.loads small

-- ---- a node of a method

module _ (starts : (code : List ℕ) → AreStarts code) (kinds : RowsAreOfTheirKinds) (P : Program) (t : Timing) (f : Flow) (flow : IsFlowOf P f) (table : List Known) (m : ℕ) (k : Coded) (at : slice_get f.methods m ≡ Some k) (c : IsCoded k) (ends : CalleesAreKnown P t table m)
    (without : List Bool) (callees : List Callee) (are : AreCallees f k.calls table (load P t.read m) without callees) where
  of : IsCodedOf P m k
  of = flow.methods m k at

  abbrev wb : ℕ → Bool
  wb u = slice_index_or without u false

  -- control stays at instructions
  placed : {u : Node} → IsReached (IsLiveEdge P m) u → IsPlaced k u
  placed r = (reached_alike (IsLiveEdge P m) (IsLiveEdge P m) (IsPlaced k) (first_placed starts kinds P m k c of) (λ a b here e. (e, next_placed starts kinds P m k c of a b here e.edge)) r).1

  pub started : (q : ℕ) → IsReached (IsLiveEdge P m) (At q) → IsStart k.code q
  started q reached = placed reached

  pub raised : (q : ℕ) → IsReached (IsLiveEdge P m) (RaiseAt q) → IsStart k.code q
  raised q reached = placed reached

  start_of : (q : ℕ) → IsStart k.code q → IsStartOf P m q
  start_of q start =
      let b = body starts kinds P m k c of in
      some_in (body_of P m) b.0 (λ z. IsStart z.code q) b.1 (subst (λ (xs : List ℕ). IsStart xs q) (sym b.2.0) start)

  may_call : (q x : ℕ) → IsStart k.code q → IsTarget P m q x → MayCall P m x
  may_call q x start target = record { place = q; start = start_of q start; call = target_calls P m q x target; is_target = target }

  -- at a call of the table
  call_added : (q : ℕ) → IsStart k.code q → (d : Call) → Contains k.calls d → d.place ≡ q → adds_if P t table m q (wb (2 * q)) < cycles_limit
      → IsAdded P t (asked_in table) m (At q) (not (wb (2 * q))) (callee_at callees (2 * q)).target (callee_at callees (2 * q)).loads (adds_if P t table m q (wb (2 * q)))
  call_added q start d among place small =
      let targets = targets_of_call f d in
      let all : (x : ℕ) → Contains targets x ↔ IsTarget P m q x = λ x. subst (λ (z : ℕ). Contains targets x ↔ IsTarget P m z x) place (flow.targets m k d at among x) in
      let is : IsCallee table (not (wb (2 * q))) (load P t.read m) targets (callee_at callees (2 * q)) =
      subst (λ (z : ℕ). IsCallee table (not (wb (2 * z))) (load P t.read m) targets (callee_at callees (2 * z))) place (are.at_calls d among)
      in
      called_added P t table m q targets (start_of q start) (λ x target. ends x (may_call q x start target)) (λ g. same_members g targets (targets_of P m q) (λ x has. (all x).0 has) (λ x has. (all x).1 has)) (λ x has. (all x).0 has)
      (wb (2 * q)) (callee_at callees (2 * q)) is small

  nothing : (u : Node) (pays : Bool) (added' : ℕ) → callee_at callees (number_of u) ≡ no_callee → added' ≡ 0 → IsAdded P t (asked_in table) m u pays (callee_at callees (number_of u)).target (callee_at callees (number_of u)).loads added'
  nothing u pays added' none zero = subst (λ (x : Callee). IsAdded P t (asked_in table) m u pays x.target x.loads added') (sym none) (refl, zero)

  -- at another instruction nothing is added
  adds_none : (q : ℕ) → ((x : ℕ) → IsTarget P m q x → ⊥) → (b : Bool) → adds_if P t table m q b ≡ 0
  adds_none q never true = ap (λ (o : Option ℕ). unwrap_or o 0) (none_greatest (asked_in table) (targets_of P m q) never)
  adds_none q never false = ap (λ (o : Option ℕ). unwrap_or o 0) (none_greatest (full_and_back P t (numbers_by table) m) (targets_of P m q) never)

  pub node_added : (u : Node) → IsReached (IsLiveEdge P m) u → added_at (λ q. adds_if P t table m q (wb (2 * q))) u < cycles_limit → (pays : ℕ → Bool) → ((q : ℕ) → u ≡ At q → pays (2 * q) ≡ not (wb (2 * q)))
      → IsAdded P t (asked_in table) m u (pays (number_of u)) (callee_at callees (number_of u)).target (callee_at callees (number_of u)).loads (added_at (λ q. adds_if P t table m q (wb (2 * q))) u)
  node_added (At q) reached small pays same =
      let start = started q reached in
      elim (has_or_not (places_of k.calls) q) [
        | inl has ↦
            let d = call_at k.calls q has in
            subst (λ (b : Bool). IsAdded P t (asked_in table) m (At q) b (callee_at callees (2 * q)).target (callee_at callees (2 * q)).loads (adds_if P t table m q (wb (2 * q)))) (sym (same q refl))
            (call_added q start d.1 (among_at k.calls d.0 d.1 d.2) d.3 small)
        | inr none ↦
            let apart : (d : Call) → Contains k.calls d → 2 * q ≢ 2 * d.place = λ d among e. none (subst (λ (z : ℕ). Contains (places_of k.calls) z) (let one : d.place ≡ q = omega arith in one) (map_contains (λ (x : Call). x.place) k.calls d among)) in
            let never : (x : ℕ) → IsTarget P m q x → ⊥ = λ x target. none (call_listed starts kinds P m k c of q start (target_calls P m q x target)) in
            nothing (At q) (pays (2 * q)) (adds_if P t table m q (wb (2 * q))) (are.others (2 * q) apart) (adds_none q never (wb (2 * q)))
      ]
  node_added (RaiseAt q) reached small pays same = nothing (RaiseAt q) (pays (2 * q + 1)) 0 (are.others (2 * q + 1) (λ d among e. omega arith)) refl
