-- Worked examples of a certificate, and of refusals of bounds.
use Rattle.std.proofs.Common.{◌≡◌, ◌≢◌, ℕ, zero, suc, ◌+◌, ◌*◌, ◌<◌, ◌≤◌, ◌^◌, true, false, List, [], ◌∷◌, Contains, Option, Some, None, pos, refl, sym, ap, ap₂, ◌∙◌, subst, inl, inr, IsSome, arith}
use Rattle.std.proofs.lemmas.List.Elements.{All-cons, All-nil, All-contains}
use Rattle.std.specs.Int.{int_wrap}
use Rattle.opcodes.specs.Instruction.{decoded}
use Rattle.opcodes.specs.Row as opcodes
use Rattle.opcodes.specs.Start.{starts_of}
use Rattle.bytecode_model.specs.Table.{row_of}
use Rattle.lists.specs.Members.{at_head, cons_cases, nil_contains}
use Rattle.micro_flow.specs.Costs.{IsGreatestInvoke}
use Rattle.method_cache.specs.Regions.Region.{AreDistinct}
use Rattle.loop_nest.specs.Digraph.{Digraph, Edge, IsBefore}
use Rattle.loop_nest.specs.Walks.{Walk, IsReachable, IsHeader}
use Rattle.loop_nest.specs.Walks.Walk.{stay, along}
use Rattle.loop_nest.specs.Reduction.{Leaves}
use Rattle.loop_nest.specs.Reduction.Reduces.{done, drops}
use Rattle.bytecode_model.specs.Program.{body_of}
use Rattle.method_flow.specs.Nodes.{Node, At, IsEdge, IsExit, IsReached}
use Rattle.method_flow.specs.Nodes.IsReached.{first, later}
use Rattle.method_flow.specs.Calls.{IsCall, IsStartOf}
use Rattle.method_flow.specs.Graphs.{IsGraphOf}
use Rattle.method_flow.specs.Compact.{IsCompact}
use Rattle.method_flow.specs.Keeping.{BoundOf}
use Rattle.method_flow.specs.Regions.{IsWithin, IsGreatestLoad}
use Rattle.method_flow.specs.Regions.IsWithin.{itself, calls}
use Rattle.method_flow.specs.Recursion.{MayCall, IsRecursion}
use Rattle.method_flow.specs.declared.timing.Timing.{Timing}
use Rattle.method_flow.specs.Costs.{params, IsOwnCost}
use Rattle.method_flow.specs.Examples.{sample}
use Rattle.bound_rules.specs.declared.faults.CheckFault.TheVariants as faults
use Rattle.bound_rules.specs.declared.faults.BoundRefusal.TheVariants as refusals
use Rattle.bound_rules.specs.Told.{Valued, section_value, most_cycles}
use Rattle.bound_rules.specs.Told.SaysFull.{fits}
use Rattle.bound_rules.specs.Conditions.{MeetAll, IsRight, MeetsConditions}
use Rattle.bound_rules.specs.Refused.{IsCertRefused}
use Rattle.bound_rules.specs.Refused.IsCertRefused.{at_end}
use Rattle.bound_rules.specs.Bounding.{HasNoRecursion, IsLeftWith, IsCause}
use Rattle.bound_rules.specs.Bounding.ExceedsSize.{full}
use Rattle.bound_rules.specs.Examples.{timing, inside_section, return_certificate, ReturnCertificates, Refusals, RefusedBounds}
use Rattle.bound_rules.proofs.Graphing.{is_listed, listed_graph, from_loop, loop_edge, loop_no_exit}
use Rattle.bound_rules.proofs.Examples.{return_sections}
use Rattle.bound_rules.proofs.Printing.{same_invoke, same_load}
use Rattle.bound_rules.proofs.Sampling.{return_fits, alone, no_call_in_return, no_call_in_loop}

-- ---- a certificate

module _ (bound_of : BoundOf) (c i greatest : ℕ) (own : IsOwnCost sample timing 1 (At 0) c) (invoke : IsGreatestInvoke (params timing 0 0) i) (load : IsGreatestLoad sample 1 greatest) (small : i + (c + 7) + greatest ≤ most_cycles) where
  return_values : List Valued
  return_values = section_value (inside_section 1 ((0, pos c) ∷ [])) (Some c) ∷ []

  all_meet : MeetAll sample timing bound_of [] (inside_section 1 ((0, pos c) ∷ []) ∷ []) return_values
  unfolding return_values
  all_meet = (Some c, (return_sections timing bound_of c own (omega arith)).meets, refl)

  right : IsRight sample timing (Some (c + 7)) (Some (i + (c + 7) + greatest))
  right = record { printed = record { invoke = i; is_invoke = invoke; greatest_load = greatest; is_load = load; is = refl }; small = small }

  holds : MeetsConditions sample timing bound_of (return_certificate c (Some (i + (c + 7) + greatest)))
  unfolding return_values
  holds = record { values = return_values; sections = all_meet; coded = refl; full = Some (c + 7); says = fits return_fits refl; right = right }

  one_right : (bound : Option ℕ) → IsRight sample timing (Some (c + 7)) bound → bound ≡ Some (i + (c + 7) + greatest)
  one_right bound r =
      let invokes = same_invoke (params timing 0 0) r.printed.invoke i r.printed.is_invoke invoke in
      let loads = same_load sample 1 r.printed.greatest_load greatest r.printed.is_load load in
      r.printed.is ∙ ap₂ (λ (n k : ℕ). Some (n + (c + 7) + k)) invokes loads

  wrong_line : (bound : Option ℕ) → bound ≢ Some (i + (c + 7) + greatest) → IsCertRefused sample timing bound_of (return_certificate c bound) (faults.Region 1)
  unfolding return_values
  wrong_line bound other = at_end return_values all_meet (refl, record { coded = refl; full = Some (c + 7); says = fits return_fits refl; wrong = λ r. other (one_right bound r) })

  no_section : (bound : Option ℕ) → IsCertRefused sample timing bound_of (record { version = 2; root = 1; sections = []; bound = bound }) (faults.Missing 1)
  no_section bound = at_end [] refl (refl, inr (refl, fits return_fits refl))

pub return_certificates : ReturnCertificates
return_certificates bound_of c i greatest own invoke load small = record {
  holds = holds bound_of c i greatest own invoke load small;
  wrong_line = wrong_line bound_of c i greatest own invoke load small;
  no_section = no_section bound_of c i greatest own invoke load small;
}

-- ---- the endless loop

only_entry : {u : Node} → IsReached (IsEdge sample 2) u → u ≡ At 0
only_entry first = refl
only_entry (later {u} {v} reached e) = from_loop v (subst (λ (x : Node). IsEdge sample 2 x v) (only_entry reached) e)

loop_graph : IsGraphOf sample 2 (listed_graph 6 ((At 0, At 0) ∷ []) [])
unfolding decoded opcodes.row_of row_of int_wrap
loop_graph =
    is_listed (IsEdge sample 2) sample 2 6 ((At 0, At 0) ∷ []) []
    (record { edges_are = edges_are; edges_all = edges_all; exits_are = λ u has. absurd (nil_contains u has); exits_all = λ u reached e. absurd (loop_no_exit (subst (λ (x : Node). IsExit sample 2 x) (only_entry reached) e)) })
    (record {
      entry = omega arith;
      edges = record { ends = All-cons (λ (e : ℕ × ℕ). (e.0 < 6) × (e.1 < 6)) (0, 0) [] (omega arith, omega arith) (All-nil (λ (e : ℕ × ℕ). (e.0 < 6) × (e.1 < 6))); rising = λ k d below. absurd (omega arith) };
      exits = record { within = All-nil (λ (u : ℕ). u < 6); rising = λ k below. absurd (omega arith) };
    })
    refl
  where
    edges_are : (u v : Node) → Contains {X = Node × Node} ((At 0, At 0) ∷ []) (u, v) → IsReached (IsEdge sample 2) u × IsEdge sample 2 u v
    edges_are u v has =
        elim (cons_cases {X = Node × Node} (At 0, At 0) (u, v) [] has) [
          | inl same ↦ subst (λ (e : Node × Node). IsReached (IsEdge sample 2) e.0 × IsEdge sample 2 e.0 e.1) same (first, loop_edge)
          | inr none ↦ absurd (nil_contains {X = Node × Node} (u, v) none)
        ]

    edges_all : (u v : Node) → IsReached (IsEdge sample 2) u → IsEdge sample 2 u v → Contains {X = Node × Node} ((At 0, At 0) ∷ []) (u, v)
    edges_all u v reached e =
        let at = only_entry reached in
        let to = from_loop v (subst (λ (x : Node). IsEdge sample 2 x v) at e) in
        subst (λ (x : Node). Contains {X = Node × Node} ((At 0, At 0) ∷ []) (x, v)) (sym at)
        (subst (λ (y : Node). Contains {X = Node × Node} ((At 0, At 0) ∷ []) (At 0, y)) (sym to) (at_head {X = Node × Node} (At 0, At 0) []))

-- a walk begins with its first node
begins : {g : Digraph} {u v : ℕ} {ns : List ℕ} → Walk g u v ns → Contains ns u
begins {g} {u} stay = at_head u []
begins {g} {u} (along {u = w} {ns = ns} e more) = at_head w ns

abbrev loop_listed : Digraph
loop_listed = listed_graph 6 ((At 0, At 0) ∷ []) []

loop_header : IsHeader loop_listed (2 * 0)
loop_header = (0, record { edge = at_head {X = ℕ × ℕ} (0, 0) []; dominates = λ ns walk. begins walk })

-- its nodes without gaps: the first one alone
abbrev loop_compact : Digraph
loop_compact = record { nodes = 1; edges = (0, 0) ∷ []; exits = [] }

stays_there : (g : Digraph) → ((u v : ℕ) → Edge g u v → (u ≡ 0) × (v ≡ 0)) → {u v : ℕ} {ns : List ℕ} → Walk g u v ns → u ≡ 0 → v ≡ 0
stays_there g zeros stay e = e
stays_there g zeros (along {u} {v} edge more) e = stays_there g zeros more (zeros u v edge).1

loop_edges : (u v : ℕ) → Contains {X = ℕ × ℕ} ((0, 0) ∷ []) (u, v) → (u ≡ 0) × (v ≡ 0)
loop_edges u v has =
    elim (cons_cases {X = ℕ × ℕ} (0, 0) (u, v) [] has) [
      | inl same ↦ (ap (λ (e : ℕ × ℕ). e.0) (sym same), ap (λ (e : ℕ × ℕ). e.1) (sym same))
      | inr none ↦ absurd (nil_contains {X = ℕ × ℕ} (u, v) none)
    ]

is_compact : IsCompact loop_listed loop_compact (λ u. u)
is_compact = record {
  digraph = record {
    entry = omega arith;
    edges = record { ends = All-cons (λ (e : ℕ × ℕ). (e.0 < 1) × (e.1 < 1)) (0, 0) [] (omega arith, omega arith) (All-nil (λ (e : ℕ × ℕ). (e.0 < 1) × (e.1 < 1))); rising = λ k d below. absurd (omega arith) };
    exits = record { within = All-nil (λ (u : ℕ). u < 1); rising = λ k below. absurd (omega arith) };
  };
  entry = refl;
  rising = λ u v below less. less;
  edges = λ u v. (λ e. let at = loop_edges u v e in (omega arith, omega arith, e), λ e. e.2);
  exits = λ u. (λ e. absurd (nil_contains u e), λ e. absurd (nil_contains u e.1));
  all = λ x reached. let zero' = stays_there loop_listed loop_edges reached.1 refl in (0, omega arith, sym zero');
  reached = λ u below. let zero' : u ≡ 0 = omega arith in subst (λ (x : ℕ). IsReachable loop_compact x) (sym zero') (0 ∷ [], stay);
}

-- the reduction drops the edge
loop_leaves : Leaves loop_compact []
loop_leaves = record {
  last = record { nodes = 0 ∷ []; edges = [] };
  steps = drops 0 (record { nodes = refl; edges = refl }) done;
  reduced = record { no_self_edge = λ p has. nil_contains {X = ℕ × ℕ} (p, p) has; no_merge = λ x p merge. nil_contains {X = ℕ × ℕ} (p, x) merge.entered.edge };
  nodes = refl;
}

loop_left : IsLeftWith sample 2 []
loop_left = record { graph = loop_listed; is_graph = loop_graph; compact = loop_compact; node = λ u. u; is_compact = is_compact; left = []; leaves = loop_leaves; nodes_are = refl }

-- ---- refusals of bounds

only_loop : {x : ℕ} → IsWithin sample 2 x → x ≡ 2
only_loop within = alone 2 no_call_in_loop within

calls_none : (m x : ℕ) → m ≡ 2 → MayCall sample m x → ⊥
calls_none m x is call = no_call_in_loop call.place (subst (λ (y : ℕ). IsStartOf sample y call.place) is call.start) (subst (λ (y : ℕ). IsCall sample y call.place) is call.call)

no_recursion : HasNoRecursion sample 2
no_recursion [] recursion = recursion.calls
no_recursion (m ∷ []) recursion = calls_none m m (only_loop (All-contains (IsWithin sample 2) (m ∷ []) m recursion.within (at_head m []))) recursion.calls
no_recursion (m ∷ n ∷ ms) recursion = calls_none m n (only_loop (All-contains (IsWithin sample 2) (m ∷ n ∷ ms) m recursion.within (at_head m (n ∷ ms)))) recursion.calls.0

ring : MayCall sample 4 5 × MayCall sample 5 4
unfolding decoded opcodes.row_of row_of int_wrap starts_of
ring = (
  record { place = 0; start = at_head 0 (3 ∷ []); call = refl; is_target = at_head 5 [] },
  record { place = 0; start = at_head 0 (3 ∷ []); call = refl; is_target = at_head 4 [] },
)

two_differ : AreDistinct (4 ∷ 5 ∷ [])
two_differ zero zero d less below same = absurd (omega arith)
two_differ zero (suc zero) d less below same = let four_is_five : ◌≡◌ {A = ℕ} 4 5 = same in absurd (omega arith)
two_differ zero (suc (suc j)) d less below same = absurd (omega arith)
two_differ (suc i) zero d less below same = absurd (omega arith)
two_differ (suc i) (suc zero) d less below same = absurd (omega arith)
two_differ (suc i) (suc (suc j)) d less below same = absurd (omega arith)

recursion : IsRecursion sample 4 (4 ∷ 5 ∷ [])
recursion = record {
  calls = ring;
  within = All-cons (IsWithin sample 4) 4 (5 ∷ []) itself (All-cons (IsWithin sample 4) 5 [] (calls ring.0.place ring.0.start ring.0.call ring.0.is_target itself) (All-nil (IsWithin sample 4)));
  distinct = two_differ;
}

module _ (t : Timing) (bound_of : BoundOf) where
  missing : bound_of 2 0 ≡ None → IsCause sample t bound_of (λ m. m ≡ 2) (refusals.MissingBound 2 0)
  missing none = (
    2,
    record { coded = refl; not_boot = λ e. apart e; is_named = refl },
    no_recursion,
    λ m within. subst (λ (x : ℕ). IsLeftWith sample x []) (sym (only_loop within)) loop_left,
    record {
      lacks = record { within = itself; graph = loop_listed; is_graph = loop_graph; header = loop_header; none = none };
      first = λ x q before lacks. none_before x q before (only_loop lacks.within);
    },
  )
    where
      apart : ◌≡◌ {A = ℕ} 2 0 → ⊥
      apart e = let bad : ⊥ = omega arith in bad

      none_before : (x q : ℕ) → IsBefore (x, q) (2, 0) → x ≡ 2 → ⊥
      none_before x q (inl less) is = let bad : ⊥ = omega arith in bad
      none_before x q (inr (same, less)) is = let bad : ⊥ = omega arith in bad

  refusals_of : Refusals t bound_of
  refusals_of = record {
    no_code = λ root asked. uncoded (subst (λ (x : ℕ). IsSome (body_of sample x)) asked.is_named asked.coded);
    starts = λ root asked. asked.not_boot asked.is_named;
    recursion = recursion;
    missing = missing;
    too_large = λ N is. (itself, full (2 ^ 64) is (omega arith));
    elsewhere = λ N large. let e : ◌≡◌ {A = ℕ} 2 1 = alone 1 no_call_in_return large.0 in let bad : ⊥ = omega arith in bad;
  }
    where
      uncoded : false ≡ true → ⊥
      uncoded e = absurd (cc)

pub refused_bounds : RefusedBounds
refused_bounds t bound_of = refusals_of t bound_of
