-- The numbers of settled methods are within 64 bits, and not 0.
use Rattle.std.proofs.Common.{◌≡◌, ℕ, ◌+◌, ◌-◌, ◌^◌, ◌<◌, true, false, List, length, All, Option, Some, sym, ap, ap₂, ◌∙◌, subst, inl, inr, arith}
use Rattle.std.specs.Prelude.{IsTrue, option_map, unwrap_or, slice_index}
use Rattle.std.specs.Option.{IsSomeAnd}
use Rattle.std.proofs.lemmas.Bool.{cases_lt}
use Rattle.lists.proofs.Lemmas.{some_is}
use Rattle.section_check.specs.Bounded.{BoundedLoop, IsGreatest}
use Rattle.loop_nest.specs.Digraph.{Digraph}
use Rattle.bytecode_model.specs.Program.{Program, body_of, instr_at}
use Rattle.micro_flow.specs.Walk.{IsCost, IsRaiseCost}
use Rattle.microcode.specs.declared.TheConstants.{ENTRIES, RAISE}
use Rattle.opcodes.specs.Bytes.{u1}
use Rattle.method_flow.specs.Keeping.{BoundOf}
use Rattle.method_flow.specs.Costs.{params, IsOwnCost}
use Rattle.method_flow.specs.Live.{IsLiveEdge}
use Rattle.method_flow.specs.Nodes.{Node, At, RaiseAt}
use Rattle.method_flow.specs.Nodes.IsReached.{first}
use Rattle.method_flow.specs.Recursion.{MayCall}
use Rattle.method_flow.specs.Regions.{load}
use Rattle.method_flow.specs.declared.timing.Timing.{Timing}
use Rattle.bound_rules.specs.Costs.{AreCosts}
use Rattle.bound_rules.specs.Fitting.{loads_of}
use Rattle.bound_rules.specs.Numbers.{IsGreatestValue, IsFull}
use Rattle.bound_rules.specs.Numbers.IsFull.{fits as full_fits, exceeds as full_exceeds}
use Rattle.compact_walks.proofs.Walks.{start_visited}
use Rattle.bound_finder.specs.declared.known.Known.{Known}
use Rattle.bound_finder.specs.Known.{known_at, IsLimited, Agrees}
use Rattle.bound_finder.specs.Known.ExceedsBeside.{full as exceeds_full}
use Rattle.bound_finder.specs.Laws.{numbers_by}
use Rattle.bound_report.specs.Counts.{IsMore}
use Rattle.bound_report.specs.Counts.IsMore.{fits, exceeds}
use Rattle.bound_report.specs.Callees.{more_of}
use Rattle.bound_report.specs.Settled.{asked_in, IsSettledAt}
use Rattle.bound_report.proofs.Adding.{number_in}
use Rattle.bound_report.proofs.Positive.{cost_positive}
use Rattle.bound_report.proofs.Settled.{agree_with}
use Rattle.bound_report.proofs.Sums.{term_most}

-- ---- own costs

pub own_positive : (P : Program) (t : Timing) (m : ℕ) (u : Node) (own : ℕ) → IsOwnCost P t m u own → 0 < own
own_positive P t m (At p) own is =
    let b = some_is (body_of P m) (λ b. IsSomeAnd (instr_at P m p) (λ i. IsCost (u1 b.code p) (params t i.count 0) own)) is in
    let i = some_is (instr_at P m p) (λ i. IsCost (u1 b.0.code p) (params t i.count 0) own) b.2 in
    cost_positive (params t i.0.count 0) (slice_index ENTRIES (u1 b.0.code p)) own i.2
own_positive P t m (RaiseAt p) own is =
    let b = some_is (body_of P m) (λ b. IsRaiseCost (params t 0 (length b.handlers)) own) is in
    cost_positive (params t 0 (length b.0.handlers)) RAISE own b.2

-- ---- the numbers of a method

module _ (P : Program) (t : Timing) (bound_of : BoundOf) (table : List Known) (limited : All IsLimited table) (m : ℕ) (h : IsSettledAt P t bound_of table m) where
  full_small : (n : ℕ) → (known_at table m).full ≡ Some n → n < 2 ^ 64
  full_small n is =
      elim (cases_lt n (2 ^ 64)) [
        | inl less ↦ less
        | inr more ↦
            let agree : (x : ℕ) → MayCall P m x → Agrees P t (numbers_by table) x (known_at table x) = λ x call. agree_with P t table limited x in
            let large : IsTrue (known_at table m).too_large = (h.known.exceeds (numbers_by table) agree h.numbers).1 (exceeds_full n is more) in
            absurd (let bad : false ≡ true = sym h.small ∙ large in cc)
      ]

  -- with all loads it has so much more
  pub record HasMore : Type 0 where
    pub more : ℕ
    pub is_more : IsMore P t m more
    pub full : (known_at table m).full ≡ Some (h.number + more)

  pub has_more : HasMore
  has_more = by h.numbers.full
    where
      by : IsFull P t (numbers_by table) m → HasMore
      by (full_fits together e) = record { more = loads_of together; is_more = fits together; full = e ∙ ap (option_map (λ n. n + loads_of together)) h.is_number }
      by (full_exceeds apart e) = record { more = load P t.read m; is_more = exceeds apart; full = e ∙ ap (option_map (λ n. n + load P t.read m)) h.is_number }

  pub number_is : number_in (asked_in table) m ≡ h.number
  number_is = ap (λ (o : Option ℕ). unwrap_or o 0) h.is_number

  pub all_small : h.number + has_more.more < 2 ^ 64
  all_small = full_small (h.number + has_more.more) has_more.full

  pub number_small : number_in (asked_in table) m < 2 ^ 64
  number_small = let all = all_small in let same = number_is in omega arith

  pub more_is : more_of (known_at table m) ≡ has_more.more
  more_is =
      let a : more_of (known_at table m) ≡ h.number + has_more.more - h.number = ap₂ (λ (u v : Option ℕ). unwrap_or u 0 - unwrap_or v 0) has_more.full h.is_number in
      omega arith

  -- a walk costs at least what the first instruction takes
  walk_positive : (g : Digraph) (costs : List ℕ) (loops : List BoundedLoop) (adds : ℕ → ℕ) (n : ℕ) → AreCosts P t m (IsLiveEdge P m) adds g costs → IsGreatest g costs loops n → 0 < n
  walk_positive g costs loops adds n are greatest =
      let cost = are.each (At 0) first in
      let own = own_positive P t m (At 0) cost.0 cost.1 in
      let value = cost.2 in
      let most = term_most (λ (u : ℕ). slice_index costs u) greatest.walk 0 (start_visited greatest.bounded.walk) in
      let all = greatest.attained in
      omega arith

  value_positive : (g : Digraph) (costs : List ℕ) (loops : List BoundedLoop) (adds : ℕ → ℕ) (o : Option ℕ) → AreCosts P t m (IsLiveEdge P m) adds g costs → o ≡ Some h.number → IsGreatestValue g costs loops o → 0 < h.number
  value_positive g costs loops adds o are is value = walk_positive g costs loops adds h.number are (subst (λ (v : Option ℕ). IsGreatestValue g costs loops v) is value)

  positive : 0 < h.number
  positive = by h.numbers.full
    where
      by : IsFull P t (numbers_by table) m → 0 < h.number
      by (full_fits together e) = let x = h.numbers.inside together in value_positive x.flow.graph x.costs _ _ (asked_in table m) x.are_costs h.is_number x.value
      by (full_exceeds apart e) = let x = h.numbers.loops apart in value_positive x.flow.graph x.costs _ _ (asked_in table m) x.are_costs h.is_number x.value

  pub number_positive : 0 < number_in (asked_in table) m
  number_positive = let same = number_is in let some = positive in omega arith
