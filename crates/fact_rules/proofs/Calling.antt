-- The greatest load of a method that may call the root, method by method.
use Rattle.std.proofs.Common.{◌≡◌, ℕ, ◌+◌, ◌<◌, ◌≤◌, max, List, [], ◌∷◌, ◌++◌, length, get_or, take, Contains, Some, IsSome, refl, sym, ap, ◌∙◌, subst, inl, inr, arith}
use Rattle.std.specs.Prelude.{is_some, slice_get}
use Rattle.std.proofs.lemmas.Bool.{cases_eq, cases_lt}
use Rattle.std.proofs.lemmas.List.{take_more, take_all}
use Rattle.std.proofs.lemmas.List.Elements.{Contains-push_cases}
use Rattle.opcodes.specs.Start.{IsStart}
use Rattle.bytecode_model.specs.Program.{Program, Body, body_of}
use Rattle.lists.proofs.Lemmas.{some_is, some_same}
use Rattle.method_flow.specs.declared.flow.Call.{Call}
use Rattle.method_flow.specs.Flow.{Flow, Coded, IsCoded, IsFlowOf, targets_of_call}
use Rattle.method_flow.specs.Recursion.{MayCall}
use Rattle.method_flow.specs.Regions.{load}
use Rattle.call_regions.specs.Laws.{RunsAreCalls}
use Rattle.call_regions.specs.Tables.{IsOfTable, IsTargetOf}
use Rattle.fact_rules.specs.Conditions.{IsCallersLoad}
use Rattle.fact_rules.specs.Conditions.IsCallersLoad.{none, greatest}

-- ---- whether a method may call another

module _ (law : RunsAreCalls) (P : Program) (f : Flow) (m target : ℕ) (of : IsFlowOf P f) (k : Coded) (is : slice_get f.methods m ≡ Some k) (coded : IsCoded k) where
  abbrev table : IsOfTable f m
  table = record { method = k; is = is; coded = coded }

  pub calls_from : IsTargetOf f k.calls target → MayCall P m target
  calls_from r =
      let may = (law P f m r.call.place target of table).0 (record { code = table; call = r.call; among = r.among; at = refl; lists = r.lists }) in
      record { place = r.call.place; start = may.start; call = may.call; is_target = may.is_target }

  pub calls_to : MayCall P m target → IsTargetOf f k.calls target
  calls_to c =
      let r = (law P f m c.place target of table).1 (record { start = c.start; call = c.call; is_target = c.is_target }) in
      let same : r.code.method ≡ k = some_same r.code.method k (sym r.code.is ∙ is) in
      subst (λ (j : Coded). IsTargetOf f j.calls target) same (record { call = r.call; among = r.among; lists = r.lists })

-- a method that may call another has code
pub caller_is_coded : (P : Program) (x target : ℕ) → MayCall P x target → IsSome (body_of P x)
caller_is_coded P x target c = let found = some_is (body_of P x) (λ (b : Body). IsStart b.code c.place) c.start in ap is_some found.1

-- ---- call by call

module _ (f : Flow) (calls : List Call) (target i : ℕ) where
  pub target_here : (call : Call) → i < length calls → call ≡ get_or calls i call → Contains (targets_of_call f call) target → IsTargetOf f calls target
  target_here call below is lists = record { call = call; among = (i, below, sym is); lists = lists }

  pub target_more : (call : Call) → i < length calls → call ≡ get_or calls i call → (IsTargetOf f (take i calls) target → ⊥) → (Contains (targets_of_call f call) target → ⊥)
      → IsTargetOf f (take (i + 1) calls) target → ⊥
  target_more call below is before not r =
      let taken = take_more calls i call below ∙ ap (λ (x : Call). take i calls ++ x ∷ []) (sym is) in
      elim (Contains-push_cases (take i calls) call r.call (subst (λ (xs : List Call). Contains xs r.call) taken r.among)) [
        | inl there ↦ before (record { call = r.call; among = there; lists = r.lists })
        | inr same ↦ not (subst (λ (k : Call). Contains (targets_of_call f k) target) (sym same) r.lists)
      ]

  pub target_all : length calls ≤ i → (IsTargetOf f (take i calls) target → ⊥) → IsTargetOf f calls target → ⊥
  target_all past before = subst (λ (xs : List Call). IsTargetOf f xs target → ⊥) (take_all i calls past) before

-- ---- the greatest load

-- so far the greatest load of a method that may call the root, among those with numbers below i
pub data IsCallersBelow (P : Program) (r root i cycles : ℕ) : Type 0 where
  none_below : cycles ≡ 0 → ((x : ℕ) → x < i → MayCall P x root → ⊥) → IsCallersBelow P r root i cycles
  greatest_below : (m : ℕ) → MayCall P m root → cycles ≡ load P r m → ((x : ℕ) → x < i → MayCall P x root → load P r x ≤ cycles) → IsCallersBelow P r root i cycles

module _ (P : Program) (r root : ℕ) where
  pub callers_start : IsCallersBelow P r root 0 0
  callers_start = none_below refl (λ x below calls. omega arith)

  pub callers_same : (i cycles : ℕ) → IsCallersBelow P r root i cycles → (MayCall P i root → ⊥) → IsCallersBelow P r root (i + 1) cycles
  callers_same i cycles (none_below is never) not = none_below is (λ x below calls. elim (cases_eq x i) [
    | inl same ↦ not (subst (λ (m : ℕ). MayCall P m root) same calls)
    | inr other ↦ never x (omega arith) calls
  ])
  callers_same i cycles (greatest_below m may is most) not = greatest_below m may is (λ x below calls. elim (cases_eq x i) [
    | inl same ↦ absurd (not (subst (λ (m : ℕ). MayCall P m root) same calls))
    | inr other ↦ most x (omega arith) calls
  ])

  pub callers_more : (i cycles next top : ℕ) → IsCallersBelow P r root i cycles → MayCall P i root → next ≡ load P r i → top ≡ max next cycles → IsCallersBelow P r root (i + 1) top
  callers_more i cycles next top (none_below is never) may at top_is =
      let same : top ≡ next = omega arith in
      greatest_below i may (same ∙ at) (λ x below calls. elim (cases_eq x i) [
        | inl here ↦ let e = ap (load P r) here in omega arith
        | inr other ↦ absurd (never x (omega arith) calls)
      ])
  callers_more i cycles next top (greatest_below m called is most) may at top_is =
      let below_top : (x : ℕ) → x < i + 1 → MayCall P x root → load P r x ≤ top =
      λ x below calls. elim (cases_eq x i) [
        | inl here ↦ let e = ap (load P r) here in omega arith
        | inr other ↦ let le = most x (omega arith) calls in omega arith
      ]
      in
      elim (cases_lt cycles next) [
        | inl up ↦ greatest_below i may (let e : top ≡ next = omega arith in e ∙ at) below_top
        | inr down ↦ greatest_below m called (let e : top ≡ cycles = omega arith in e ∙ is) below_top
      ]

  pub callers_all : (f : Flow) (i cycles : ℕ) → IsFlowOf P f → length f.methods ≤ i → IsCallersBelow P r root i cycles → IsCallersLoad P r root cycles
  callers_all f i cycles of past (none_below is never) = none is (λ x calls. let below = (of.coded x).0 (caller_is_coded P x root calls) in never x (omega arith) calls)
  callers_all f i cycles of past (greatest_below m may is most) =
      greatest m may is (λ x calls. let below = (of.coded x).0 (caller_is_coded P x root calls) in most x (omega arith) calls)
