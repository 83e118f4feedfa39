-- The worked examples, by computing.
use Rattle.std.proofs.Common.{◌≡◌, ◌⊎◌, ℕ, ◌<◌, ◌≤◌, true, false, List, [], ◌∷◌, Contains, pos, ◌+ℤ◌, refl, sym, ap, ◌∙◌, subst, inl, inr, arith}
use Rattle.std.specs.Int.{int_wrap}
use Rattle.std.proofs.lemmas.List.Elements.{All-cons, All-nil}
use Rattle.opcodes.specs.declared.instruction.Case.{Case}
use Rattle.opcodes.specs.Instruction.{decoded}
use Rattle.opcodes.specs.Row as opcodes
use Rattle.opcodes.specs.Start.{starts_of}
use Rattle.bytecode_model.specs.Program.{Handler}
use Rattle.bytecode_model.specs.Table.{row_of}
use Rattle.lists.specs.Members.{at_head, in_tail, cons_cases, nil_contains}
use Rattle.method_flow.specs.Nodes.{Node, At, RaiseAt, number_of, IsEdge, IsExit, IsHandled, IsReached}
use Rattle.method_flow.specs.Nodes.IsReached.{first, later}
use Rattle.method_flow.specs.Calls.{IsCall, IsStartOf, IsTarget}
use Rattle.method_flow.specs.Live.{CanEnd, EndsFrom, IsLiveEdge}
use Rattle.method_flow.specs.Live.CanEnd.{ends}
use Rattle.method_flow.specs.Live.EndsFrom.{here, along, behind}
use Rattle.method_flow.specs.Graphs.{IsReachedEdge, IsReachedExit, IsLiveGraph}
use Rattle.method_flow.specs.Regions.{IsWithin}
use Rattle.method_flow.specs.Regions.IsWithin.{itself, calls}
use Rattle.method_flow.specs.Examples.{sample, catch_all, LeadsToEach, GoesTo, SynchronizedLoop, Calling, CallOfEndless, EndlessRecursion, DeadCall, WorkedExamples}

-- ---- places

place_only : (n q : ℕ) → q ≡ n → Contains (At n ∷ []) (At q)
place_only n q e = subst (λ (x : ℕ). Contains (At n ∷ []) (At x)) (sym e) (at_head (At n) [])

place_first : (n : ℕ) (v : Node) (q : ℕ) → q ≡ n → Contains (At n ∷ v ∷ []) (At q)
place_first n v q e = subst (λ (x : ℕ). Contains (At n ∷ v ∷ []) (At x)) (sym e) (at_head (At n) (v ∷ []))

place_second : (v : Node) (n q : ℕ) → q ≡ n → Contains (v ∷ At n ∷ []) (At q)
place_second v n q e = in_tail v (At q) (At n ∷ []) (place_only n q e)

raise_only : (n q : ℕ) → q ≡ n → Contains (RaiseAt n ∷ []) (RaiseAt q)
raise_only n q e = subst (λ (x : ℕ). Contains (RaiseAt n ∷ []) (RaiseAt x)) (sym e) (at_head (RaiseAt n) [])

raise_second : (v : Node) (n q : ℕ) → q ≡ n → Contains (v ∷ RaiseAt n ∷ []) (RaiseAt q)
raise_second v n q e = in_tail v (RaiseAt q) (RaiseAt n ∷ []) (raise_only n q e)

at_offset : (n q : ℕ) → pos n ≡ pos q → q ≡ n
at_offset n q e = cc

never : false ≡ true → ⊥
never e = absurd (cc)

-- ---- the nodes of the loop

covered : (h : Handler) (hs : List Handler) (p q : ℕ) → IsHandled (h ∷ hs) p q → ((h.start ≤ p) × (p < h.end) × (q ≡ h.target)) ⊎ IsHandled hs p q
covered h hs p q x =
    elim (cons_cases h x.entry hs x.among) [
      | inl same ↦
          let K : Handler → Type 0 = λ e. (e.start ≤ p) × (p < e.end) × (q ≡ e.target) in
          let at : K x.entry = (x.from, x.to, sym x.handler) in
          inl (subst K (sym same) at)
      | inr there ↦ inr (record { entry = x.entry; among = there; from = x.from; to = x.to; handler = x.handler })
    ]

uncovered : (p q : ℕ) → IsHandled [] p q → ⊥
uncovered p q x = nil_contains x.entry x.among

-- the node leads to these instructions and raise steps
goes : (u : Node) (vs : List Node) → LeadsToEach sample 0 u vs → ((q : ℕ) → IsEdge sample 0 u (At q) → Contains vs (At q)) → ((q : ℕ) → IsEdge sample 0 u (RaiseAt q) → Contains vs (RaiseAt q))
    → GoesTo sample 0 u vs
goes u vs each on raises = record { each = each; no_other = by }
  where
    by : (v : Node) → IsEdge sample 0 u v → Contains vs v
    by (At q) e = on q e
    by (RaiseAt q) e = raises q e

abbrev case : Case
case = record { key = pos 0; offset = pos 25 }

switch_leads : (q : ℕ) → (pos 20 ≡ pos q) ⊎ ((c : Case) × Contains (case ∷ []) c × (pos 1 +ℤ c.offset ≡ pos q)) → Contains (At 20 ∷ At 26 ∷ []) (At q)
switch_leads q (inl e) = place_first 20 (At 26) q (at_offset 20 q e)
switch_leads q (inr found) =
    elim (cons_cases case found.0 [] found.1) [
      | inl same ↦ place_second (At 20) 26 q (at_offset 26 q (ap (λ (c : Case). pos 1 +ℤ c.offset) same ∙ found.2))
      | inr there ↦ absurd (nil_contains found.0 there)
    ]

-- the handler of the invoke covers it alone, and the other one from place 30 to 32
handled : (p q : ℕ) → (p < 33) → IsHandled (catch_all 26 29 30 ∷ catch_all 30 33 30 ∷ []) p q → q ≡ 30
handled p q below h =
    elim (covered (catch_all 26 29 30) (catch_all 30 33 30 ∷ []) p q h) [
      | inl covers ↦ covers.2
      | inr other ↦
          elim (covered (catch_all 30 33 30) [] p q other) [
            | inl there ↦ there.2
            | inr none ↦ absurd (uncovered p q none)
          ]
    ]

unhandled : (p q : ℕ) → 33 ≤ p → IsHandled (catch_all 26 29 30 ∷ catch_all 30 33 30 ∷ []) p q → ⊥
unhandled p q above h =
    elim (covered (catch_all 26 29 30) (catch_all 30 33 30 ∷ []) p q h) [
      | inl covers ↦ let to = covers.1 in omega arith
      | inr other ↦
          elim (covered (catch_all 30 33 30) [] p q other) [
            | inl there ↦ let to = there.1 in omega arith
            | inr none ↦ uncovered p q none
          ]
    ]

by_handler : (entry : Handler) (p : ℕ) → Contains (catch_all 26 29 30 ∷ catch_all 30 33 30 ∷ []) entry → entry.start ≤ p → p < entry.end → IsHandled (catch_all 26 29 30 ∷ catch_all 30 33 30 ∷ []) p entry.target
by_handler entry p among from to = record { entry = entry; among = among; from = from; to = to; handler = refl }

synchronized_loop : SynchronizedLoop
unfolding decoded opcodes.row_of row_of int_wrap
synchronized_loop = record {
  load = goes (At 0) (At 1 ∷ []) (refl, tt) (λ q e. place_only 1 q e) (λ q e. absurd (never e.1));
  switch = goes (At 1) (At 20 ∷ At 26 ∷ []) (inl refl, (inr (case, at_head case [], refl), tt)) (λ q e. switch_leads q e) (λ q e. absurd (never e.1));
  increment = goes (At 20) (At 23 ∷ []) (refl, tt) (λ q e. place_only 23 q e) (λ q e. absurd (never e.1));
  back = goes (At 23) (At 0 ∷ []) (refl, tt) (λ q e. place_only 0 q (at_offset 0 q e)) (λ q e. absurd (never e.1));
  call = goes (At 26) (At 29 ∷ RaiseAt 26 ∷ []) (refl, ((refl, refl), tt)) (λ q e. place_first 29 (RaiseAt 26) q e) (λ q e. raise_second (At 29) 26 q e.0);
  return = goes (At 29) [] tt (λ q e. absurd e) (λ q e. absurd (never e.1));
  call_raises = goes (RaiseAt 26) (At 30 ∷ []) (by_handler (catch_all 26 29 30) 26 (at_head (catch_all 26 29 30) (catch_all 30 33 30 ∷ [])) (omega arith) (omega arith), tt) (λ q e. place_only 30 q (handled 26 q (omega arith) e)) (λ q e. absurd e);
  handler = goes (At 30) (At 31 ∷ []) (refl, tt) (λ q e. place_only 31 q e) (λ q e. absurd (never e.1));
  monitor = goes (At 31) (At 32 ∷ []) (refl, tt) (λ q e. place_only 32 q e) (λ q e. absurd (never e.1));
  exit_monitor = goes (At 32) (At 33 ∷ RaiseAt 32 ∷ []) (refl, ((refl, refl), tt)) (λ q e. place_first 33 (RaiseAt 32) q e) (λ q e. raise_second (At 33) 32 q e.0);
  exit_raises = goes (RaiseAt 32) (At 30 ∷ []) (by_handler (catch_all 30 33 30) 32 (in_tail (catch_all 26 29 30) (catch_all 30 33 30) (catch_all 30 33 30 ∷ []) (at_head (catch_all 30 33 30) [])) (omega arith) (omega arith), tt) (λ q e. place_only 30 q (handled 32 q (omega arith) e)) (λ q e. absurd e);
  object = goes (At 33) (At 34 ∷ []) (refl, tt) (λ q e. place_only 34 q e) (λ q e. absurd (never e.1));
  throw = goes (At 34) (RaiseAt 34 ∷ []) ((refl, refl), tt) (λ q e. absurd e) (λ q e. raise_only 34 q e.0);
  throw_raises = goes (RaiseAt 34) [] tt (λ q e. absurd (unhandled 34 q (omega arith) e)) (λ q e. absurd e);
  return_is_exit = tt;
  raise_is_exit = tt;
  throw_is_none = λ x. x;
  number_of_call = refl;
  number_of_raise = refl;
}

-- ---- calls

calling : Calling
unfolding decoded opcodes.row_of row_of int_wrap
calling = record { fixed = refl; selected = refl; is_call = refl; is_none = never }

endless : {u : Node} → EndsFrom sample 2 u → u ≡ At 0 → ⊥
unfolding decoded opcodes.row_of row_of int_wrap
endless (here {m} {u} exit) at = subst (λ (v : Node). IsExit sample 2 v) at exit
endless (along {m} {u} {v} edge free more) at = endless more (only v (subst (λ (x : Node). IsEdge sample 2 x v) at edge))
  where
    only : (w : Node) → IsEdge sample 2 (At 0) w → w ≡ At 0
    only (At q) e = ap At (at_offset 0 q e)
    only (RaiseAt q) e = absurd (never e.1)
endless (behind {m} {t} {p} {q} edge target ended more) at =
    let here_at : IsTarget sample 2 0 t = subst (λ (x : ℕ). IsTarget sample 2 x t) (place p 0 at) target in
    nil_contains t here_at
  where
    place : (a b : ℕ) → At a ≡ At b → a ≡ b
    place a b e = cc

cannot_end : CanEnd sample 2 → ⊥
cannot_end (ends e) = endless e refl

only_endless : (t : ℕ) → Contains (2 ∷ []) t → t ≡ 2
only_endless t c = elim (cons_cases 2 t [] c) [ inl same ↦ sym same | inr there ↦ absurd (nil_contains t there) ]

not_behind : IsLiveEdge sample 3 (At 0) (At 3) → ⊥
unfolding decoded opcodes.row_of row_of int_wrap
not_behind live = let on = live.goes_on refl in cannot_end (subst (CanEnd sample) (only_endless on.0 on.1) on.2)

to_raise : IsLiveEdge sample 3 (At 0) (RaiseAt 0)
unfolding decoded opcodes.row_of row_of int_wrap
to_raise = record { edge = (refl, refl); goes_on = tt }

-- the one edge that a run can take from the invoke or its raise step
one_edge : (u v : Node) → (u ≡ At 0) ⊎ (u ≡ RaiseAt 0) → IsLiveEdge sample 3 u v → (u ≡ At 0) × (v ≡ RaiseAt 0)
unfolding decoded opcodes.row_of row_of int_wrap
one_edge u v (inl at) live = (at, from_call v (subst (λ (x : Node). IsLiveEdge sample 3 x v) at live))
  where
    from_call : (w : Node) → IsLiveEdge sample 3 (At 0) w → w ≡ RaiseAt 0
    from_call (At q) taken =
        let place : q ≡ 3 = taken.edge in
        absurd (not_behind (subst (λ (x : ℕ). IsLiveEdge sample 3 (At 0) (At x)) place taken))
    from_call (RaiseAt q) taken = ap RaiseAt taken.edge.0
one_edge u v (inr at) live = absurd (from_raise v (subst (λ (x : Node). IsLiveEdge sample 3 x v) at live))
  where
    from_raise : (w : Node) → IsLiveEdge sample 3 (RaiseAt 0) w → ⊥
    from_raise (At q) taken = uncovered 0 q taken.edge
    from_raise (RaiseAt q) taken = taken.edge

reached_by_run : {u : Node} → IsReached (IsLiveEdge sample 3) u → (u ≡ At 0) ⊎ (u ≡ RaiseAt 0)
reached_by_run first = inl refl
reached_by_run (later {u} {v} reached live) = inr (one_edge u v (reached_by_run reached) live).1

live_graph : IsLiveGraph sample 3 (record { nodes = 8; edges = (0, 1) ∷ []; exits = 1 ∷ [] })
unfolding decoded opcodes.row_of row_of int_wrap
live_graph = record {
  digraph = record {
    entry = omega arith;
    edges = record { ends = All-cons (λ (e : ℕ × ℕ). (e.0 < 8) × (e.1 < 8)) (0, 1) [] (omega arith, omega arith) (All-nil (λ (e : ℕ × ℕ). (e.0 < 8) × (e.1 < 8))); rising = λ k d below. absurd (omega arith) };
    exits = record { within = All-cons (λ (u : ℕ). u < 8) 1 [] (omega arith) (All-nil (λ (u : ℕ). u < 8)); rising = λ k below. absurd (omega arith) };
  };
  size = refl;
  edges = λ u v. (edge_to u v, edge_from u v);
  exits = λ u. (exit_to u, exit_from u);
}
  where
    edge_to : (u v : ℕ) → Contains {X = ℕ × ℕ} ((0, 1) ∷ []) (u, v) → IsReachedEdge (IsLiveEdge sample 3) u v
    edge_to u v c =
        elim (cons_cases {X = ℕ × ℕ} (0, 1) (u, v) [] c) [
          | inl same ↦ record { source = At 0; target = RaiseAt 0; reached = first; edge = to_raise; numbered = (ap (λ (e : ℕ × ℕ). e.0) (sym same), ap (λ (e : ℕ × ℕ). e.1) (sym same)) }
          | inr there ↦ absurd (nil_contains {X = ℕ × ℕ} (u, v) there)
        ]

    edge_from : (u v : ℕ) → IsReachedEdge (IsLiveEdge sample 3) u v → Contains {X = ℕ × ℕ} ((0, 1) ∷ []) (u, v)
    edge_from u v e =
        let is = one_edge e.source e.target (reached_by_run e.reached) e.edge in
        let source : u ≡ 0 = e.numbered.0 ∙ ap number_of is.0 in
        let target : v ≡ 1 = e.numbered.1 ∙ ap number_of is.1 in
        subst (λ (x : ℕ). Contains {X = ℕ × ℕ} ((0, 1) ∷ []) (x, v)) (sym source) (subst (λ (y : ℕ). Contains {X = ℕ × ℕ} ((0, 1) ∷ []) (0, y)) (sym target) (at_head {X = ℕ × ℕ} (0, 1) []))

    exit_to : (u : ℕ) → Contains (1 ∷ []) u → IsReachedExit (IsLiveEdge sample 3) sample 3 u
    exit_to u c =
        elim (cons_cases 1 u [] c) [
          | inl same ↦ record { node = RaiseAt 0; reached = later first to_raise; exit = tt; numbered = sym same }
          | inr there ↦ absurd (nil_contains u there)
        ]

    is_raise : (w : Node) → (w ≡ At 0) ⊎ (w ≡ RaiseAt 0) → IsExit sample 3 w → w ≡ RaiseAt 0
    is_raise w (inl at) exit = absurd (subst (λ (x : Node). IsExit sample 3 x) at exit)
    is_raise w (inr at) exit = at

    exit_from : (u : ℕ) → IsReachedExit (IsLiveEdge sample 3) sample 3 u → Contains (1 ∷ []) u
    exit_from u e =
        let is : u ≡ 1 = e.numbered ∙ ap number_of (is_raise e.node (reached_by_run e.reached) e.exit) in
        subst (λ (x : ℕ). Contains (1 ∷ []) x) (sym is) (at_head 1 [])

call_of_endless : CallOfEndless
unfolding decoded opcodes.row_of row_of int_wrap
call_of_endless = record {
  endless = cannot_end;
  edge = refl;
  not_live = not_behind;
  raises = to_raise;
  can_end = ends (along {v = RaiseAt 0} (refl, refl) (λ none. none) (here tt));
  live_graph = live_graph;
}

raises_first : (m : ℕ) → IsEdge sample m (At 0) (RaiseAt 0) → CanEnd sample m
raises_first m edge = ends (along {v = RaiseAt 0} edge (λ none. none) (here tt))

endless_recursion : EndlessRecursion
unfolding decoded opcodes.row_of row_of int_wrap
endless_recursion = record {
  first = raises_first 4 (refl, refl);
  second = raises_first 5 (refl, refl);
  goes_on = record { edge = refl; goes_on = λ call. (5, at_head 5 [], raises_first 5 (refl, refl)) };
}

-- ---- a call that is dead

reached_first : {v : Node} → IsReached (IsEdge sample 6) v → v ≡ At 0
unfolding decoded opcodes.row_of row_of int_wrap
reached_first first = refl
reached_first (later {u} {v} reached edge) = absurd (none v (subst (λ (x : Node). IsEdge sample 6 x v) (reached_first reached) edge))
  where
    none : (w : Node) → IsEdge sample 6 (At 0) w → ⊥
    none (At q) e = e
    none (RaiseAt q) e = never e.1

-- of methods without invokes, each is alone within itself
alone : (m : ℕ) → ((p : ℕ) → IsStartOf sample m p → IsCall sample m p → ⊥) → {x : ℕ} → IsWithin sample m x → x ≡ m
alone m none itself = refl
alone m none (calls p start call target more) = absurd (none p start call)

one_start : (p : ℕ) → Contains (0 ∷ []) p → p ≡ 0
one_start p c = elim (cons_cases 0 p [] c) [ inl same ↦ sym same | inr there ↦ absurd (nil_contains p there) ]

no_call_in_endless : (p : ℕ) → IsStartOf sample 2 p → IsCall sample 2 p → ⊥
unfolding decoded opcodes.row_of row_of int_wrap starts_of
no_call_in_endless p start call = never (subst (λ (x : ℕ). IsCall sample 2 x) (one_start p start) call)

within_dead : {x : ℕ} → IsWithin sample 6 x → (x ≡ 6) ⊎ (x ≡ 2)
unfolding decoded opcodes.row_of row_of int_wrap starts_of
within_dead itself = inl refl
within_dead (calls {m} {t} {x} p start call target more) =
    elim (cons_cases 0 p (1 ∷ 4 ∷ []) start) [
      | inl at_0 ↦ absurd (never (subst (λ (q : ℕ). IsCall sample 6 q) (sym at_0) call))
      | inr behind_it ↦
          elim (cons_cases 1 p (4 ∷ []) behind_it) [
            | inl at_1 ↦
                let same : t ≡ 2 = target_is (subst (λ (q : ℕ). IsTarget sample 6 q t) (sym at_1) target) in
                inr (alone 2 no_call_in_endless (subst (λ (y : ℕ). IsWithin sample y x) same more))
            | inr last ↦
                elim (cons_cases 4 p [] last) [
                  | inl at_4 ↦ absurd (never (subst (λ (q : ℕ). IsCall sample 6 q) (sym at_4) call))
                  | inr none ↦ absurd (nil_contains p none)
                ]
          ]
    ]
  where
    target_is : Contains (2 ∷ []) t → t ≡ 2
    target_is c = elim (cons_cases 2 t [] c) [ inl same ↦ sym same | inr there ↦ absurd (nil_contains t there) ]

dead_call : DeadCall
unfolding decoded opcodes.row_of row_of int_wrap starts_of
dead_call = record {
  not_reached = λ reached. let bad = reached_first reached in other bad;
  within = calls 1 (in_tail 0 1 (1 ∷ 4 ∷ []) (at_head 1 (4 ∷ []))) refl (at_head 2 []) itself;
  no_other = λ within. elim (within_dead within) [ inl six ↦ absurd (omega arith) | inr two ↦ absurd (omega arith) ];
}
  where
    other : At 1 ≡ At 0 → ⊥
    other e = absurd (cc)

pub worked : WorkedExamples
worked = record { synchronized_loop = synchronized_loop; calling = calling; call_of_endless = call_of_endless; endless_recursion = endless_recursion; dead_call = dead_call }
