-- Methods that stand behind all that they may call run no ring of calls; and a ring of the table is one of the program.
use Rattle.std.proofs.Common.{◌≡◌, ℕ, zero, suc, ◌+◌, ◌-◌, ◌<◌, List, [], ◌∷◌, length, get_or, take, Contains, Some, subst, inl, inr, arith}
use Rattle.std.specs.Prelude.{slice_get}
use Rattle.std.proofs.lemmas.List.Elements.{All-head, All-weaker, All-contains_itself}
use Rattle.lists.specs.Members.{cons_cases, nil_contains}
use Rattle.bytecode_model.specs.Program.{Program}
use Rattle.method_flow.specs.Flow.{Flow, IsFlowOf}
use Rattle.method_flow.specs.Recursion.{MayCall, IsCallChain, IsCallCycle, IsRecursion}
use Rattle.method_flow.specs.Regions.{IsWithin}
use Rattle.method_flow.specs.Regions.IsWithin.{itself, calls}
use Rattle.bound_rules.specs.Bounding.{HasNoRecursion}
use Rattle.bound_finder.proofs.Ordering.{within_all}
use Rattle.call_regions.specs.Laws.{RunsAreCalls}
use Rattle.call_regions.specs.Tables.{Runs, IsReached}
use Rattle.call_regions.specs.Tables.IsReached.{given, later}
use Rattle.call_regions.specs.Walking.{EachRunsNext, AreBehindTargets, IsRing}
use Rattle.method_bounds.proofs.Leasts.{run_may, may_run, may_within}
use Rattle.method_bounds.proofs.Tabled.{get_contained, from_take, from_taken}

module _ (P : Program) where
  -- ---- along a chain of calls

  chain_reaches : (first m : ℕ) (ms : List ℕ) → IsCallChain P first (m ∷ ms) → (t : ℕ) × MayCall P m t × IsWithin P t first
  chain_reaches first m [] c = (first, c, itself)
  chain_reaches first m (n ∷ ms) c = let r = chain_reaches first n ms c.1 in (n, c.0, may_within P r.1 r.2)

  chain_within : (first m : ℕ) (ms : List ℕ) → IsCallChain P first (m ∷ ms) → (y : ℕ) → Contains (m ∷ ms) y → IsWithin P m y
  chain_within first m [] c y has =
      let W : ℕ → Type 0 = λ z. IsWithin P m z in
      elim (cons_cases m y [] has) [ inl same ↦ subst W same itself | inr none ↦ absurd (nil_contains y none) ]
  chain_within first m (n ∷ ms) c y has =
      let W : ℕ → Type 0 = λ z. IsWithin P m z in
      elim (cons_cases m y (n ∷ ms) has) [ inl same ↦ subst W same itself | inr there ↦ may_within P c.0 (chain_within first n ms c.1 y there) ]

  leads_to : (m c : ℕ) (cs : List ℕ) → IsWithin P m c → IsCallChain P c (c ∷ cs) → (t : ℕ) × MayCall P m t × IsWithin P t c
  leads_to m c cs itself chain = chain_reaches c c cs chain
  leads_to m c cs (calls {m = a} {t = t} {x = b} p start invoke target rest) chain = (t, record { place = p; start = start; call = invoke; is_target = target }, rest)

  -- where none of what a method may call runs a ring, the method doesn't
  none_above : (m : ℕ) → ((t : ℕ) → MayCall P m t → HasNoRecursion P t) → HasNoRecursion P m
  none_above m none [] ring = ring.calls
  none_above m none (c ∷ cs) ring =
      let t = leads_to m c cs (All-head (IsWithin P m) c cs ring.within) ring.calls in
      none t.0 t.1 (c ∷ cs) (record {
        calls = ring.calls;
        within =
            All-weaker (Contains (c ∷ cs)) (IsWithin P t.0) (λ y has. within_all P t.0 c y t.2 (chain_within c c cs ring.calls y has)) (c ∷ cs)
            (All-contains_itself (c ∷ cs));
        distinct = ring.distinct;
      })

module _ (P : Program) (f : Flow) (flow : IsFlowOf P f) (are : RunsAreCalls) where
  -- ---- methods in order

  module _ (order : List ℕ) (behind : AreBehindTargets f order) where
    pub stands_before : (i m t : ℕ) → slice_get order i ≡ Some m → MayCall P m t → Contains (take i order) t
    stands_before i m t at may = let here = behind i m at in here.1 t (may_run P f flow are m t here.0 may)

    pub has_all : (m x : ℕ) → Contains order m → IsWithin P m x → Contains order x
    has_all m x has itself = has
    has_all m x has (calls {m = a} {t = t} {x = b} p start invoke target rest) =
        let at = get_contained order m has in
        let before = stands_before at.0 m t at.1 (record { place = p; start = start; call = invoke; is_target = target }) in
        has_all t x (from_take at.0 order t before) rest

    none_before : (n i m : ℕ) → i < n → slice_get order i ≡ Some m → HasNoRecursion P m
    none_before zero i m lt at = absurd (omega arith)
    none_before (suc n) i m lt at = none_above P m (λ t may.
        let before = from_taken i order t (stands_before i m t at may) in
        let less = before.1 in
        none_before n before.0 t (omega arith) before.2)

    pub no_recursion : (m : ℕ) → Contains order m → HasNoRecursion P m
    no_recursion m has = let at = get_contained order m has in none_before (suc at.0) at.0 m (omega arith) at.1

  -- ---- rings

  chain : (first : ℕ) (ms : List ℕ) → 0 < length ms → EachRunsNext f ms → Runs f (get_or ms (length ms - 1) 0) first → IsCallChain P first ms
  chain first [] some next last = absurd (omega arith)
  chain first (m ∷ []) some next last = run_may P f flow are m first last
  chain first (m ∷ n ∷ ms) some next last =
      let end : length (m ∷ n ∷ ms) - 1 ≡ suc (length (n ∷ ms) - 1) = omega arith in
      let L : ℕ → Type 0 = λ k. Runs f (get_or (m ∷ n ∷ ms) k 0) first in (
        run_may P f flow are m n (next 0 (omega arith)),
        chain first (n ∷ ms) (omega arith)
            (λ i lt.
            let up : suc i + 1 ≡ suc (i + 1) = omega arith in
            let R : ℕ → Type 0 = λ k. Runs f (get_or (n ∷ ms) i 0) (get_or (m ∷ n ∷ ms) k 0) in
            subst R up (next (suc i) (omega arith)))
            (subst L end last),
      )

  cycle_of : (m : ℕ) (ms : List ℕ) → IsRing f m ms → IsCallCycle P ms
  cycle_of m [] is = let some = is.some in absurd (omega arith)
  cycle_of m (x ∷ ms) is = chain x (x ∷ ms) is.some is.runs is.around

  reached_within : (m x : ℕ) → IsReached f (λ y. y ≡ m) x → IsWithin P m x
  reached_within m x (given {x = y} same) = let W : ℕ → Type 0 = λ z. IsWithin P z y in subst W same itself
  reached_within m x (later {x = y} {t = t} r runs) = within_all P m y t (reached_within m y r) (may_within P (run_may P f flow are y t runs) itself)

  pub ring_is : (m : ℕ) (ms : List ℕ) → IsRing f m ms → IsRecursion P m ms
  ring_is m ms is = record { calls = cycle_of m ms is; within = All-weaker (IsReached f (λ y. y ≡ m)) (IsWithin P m) (reached_within m) ms is.reached; distinct = is.distinct }
