-- An order of the table is one of the program, and so is a cycle.
use Rattle.std.proofs.Common.{◌≡◌, ℕ, zero, suc, ◌+◌, ◌-◌, ◌<◌, List, [], ◌∷◌, length, get_or, take, All, Contains, Some, is_some, refl, sym, ap, subst, inl, inr, arith}
use Rattle.std.specs.Prelude.{slice_get}
use Rattle.lists.proofs.Lemmas.{some_is}
use Rattle.lists.specs.Members.{at_head, cons_cases, nil_contains}
use Rattle.bytecode_model.specs.Program.{Program, Body, body_of}
use Rattle.opcodes.specs.Start.{IsStart}
use Rattle.method_flow.specs.Flow.{Flow, IsFlowOf}
use Rattle.method_flow.specs.Regions.{IsWithin}
use Rattle.method_flow.specs.Regions.IsWithin.{itself as within_itself, calls as within_calls}
use Rattle.method_flow.specs.Recursion.{MayCall, IsCallChain, IsCallCycle}
use Rattle.call_regions.specs.Regions.{AreKnown}
use Rattle.call_regions.specs.Calling.{IsTargetsFirst, IsCallCause}
use Rattle.call_regions.specs.Laws.{RunsAreCalls, OrderExcludesCycles}
use Rattle.call_regions.specs.Tables.{Runs, IsReached}
use Rattle.call_regions.specs.Walking.{EachRunsNext, IsRing, IsRingCause, IsTableOrder}
use Rattle.call_regions.specs.declared.answers.CallFault.{CallFault}
use Rattle.call_regions.specs.declared.answers.CallFault.TheVariants.{NoMemory, Recursion}
use Rattle.std.proofs.lemmas.Option.{slice_get_within}
use Rattle.std.proofs.lemmas.List.Elements.{All-weaker, All-head, All-contains_itself}
use Rattle.call_regions.proofs.Lists.{distinct_single, from_take, from_get, from_taken, get_contained}
use Rattle.call_regions.proofs.Answering.{run_may, reached_within}

-- the methods of an order are of the table
pub known_order : (f : Flow) (root : ℕ) (order : List ℕ) → IsTableOrder f root order → AreKnown f order
known_order f root order is =
    let K : ℕ → Type 0 = λ m. m < length f.methods in
    let known : (m : ℕ) → Contains order m → K m = λ m has.
    let at = get_contained order m has in
    let here = (is.behind at.0 m at.1).0 in
    slice_get_within f.methods m here.method here.is in
    (All-weaker (Contains order) K known order (All-contains_itself order), is.once)

module _ (P : Program) (f : Flow) (flow : IsFlowOf P f) (calls : RunsAreCalls) where
  first_is : (root x : ℕ) → x ≡ root → IsWithin P root x
  first_is root x same = let Q : ℕ → Type 0 = λ z. IsWithin P root z in subst Q (sym same) within_itself

  module _ (root : ℕ) (order : List ℕ) (is : IsTableOrder f root order) where
    stands_before : (i m t : ℕ) → slice_get order i ≡ Some m → MayCall P m t → Contains (take i order) t
    stands_before i m t at may =
        let here = is.behind i m at in
        here.1 t (record { place = may.place; from = (calls P f m may.place t flow here.0).1 (record { start = may.start; call = may.call; is_target = may.is_target }) })

    has_all : {y x : ℕ} → Contains order y → IsWithin P y x → Contains order x
    has_all {y} has within_itself = has
    has_all {y} has (within_calls {m} {t} {x} p start call target rest) =
        let at = get_contained order y has in
        let before = stands_before at.0 y t at.1 (record { place = p; start = start; call = call; is_target = target }) in
        has_all (from_take at.0 order t before) rest

    pub table_order : IsTargetsFirst P root order
    table_order = record {
      methods = record {
        distinct = is.once;
        each = λ x. (λ has. reached_within P f flow calls (first_is root) (is.reached x has), λ w. has_all is.from w);
      };
      first = stands_before;
    }

  -- a method without code runs none
  no_code : (root : ℕ) → (root < length f.methods → ⊥) → {x : ℕ} → IsWithin P root x → x ≡ root
  no_code root none within_itself = refl
  no_code root none (within_calls {m} {t} {x} p start call target rest) =
      let found = some_is (body_of P root) (λ (b : Body). IsStart b.code p) start in
      absurd (none ((flow.coded root).0 (ap is_some found.1)))

  no_calls : (root t : ℕ) → (root < length f.methods → ⊥) → MayCall P root t → ⊥
  no_calls root t none may =
      let found = some_is (body_of P root) (λ (b : Body). IsStart b.code may.place) may.start in
      none ((flow.coded root).0 (ap is_some found.1))

  pub lone_order : (root : ℕ) → (root < length f.methods → ⊥) → IsTargetsFirst P root (root ∷ [])
  lone_order root none = record {
    methods = record {
      distinct = distinct_single root;
      each = λ x. (
        λ has. elim (cons_cases root x [] has) [ inl same ↦ first_is root x (sym same) | inr never ↦ absurd (nil_contains x never) ],
        λ w. let Q : ℕ → Type 0 = λ z. Contains (root ∷ []) z in subst Q (sym (no_code root none w)) (at_head root []),
      );
    };
    first = λ i m t at may.
        let has : Contains (root ∷ []) m = from_get (root ∷ []) i m at in
        elim (cons_cases root m [] has) [
          | inl same ↦ let Q : ℕ → Type 0 = λ z. MayCall P z t in absurd (no_calls root t none (subst Q (sym same) may))
          | inr never ↦ absurd (nil_contains m never)
        ];
  }

  -- ---- cycles

  chain : (first : ℕ) (ms : List ℕ) → 0 < length ms → EachRunsNext f ms → Runs f (get_or ms (length ms - 1) 0) first → IsCallChain P first ms
  chain first [] some next last = absurd (omega arith)
  chain first (m ∷ []) some next last = run_may P f flow calls last
  chain first (m ∷ n ∷ ms) some next last =
      let end : length (m ∷ n ∷ ms) - 1 ≡ suc (length (n ∷ ms) - 1) = omega arith in
      let L : ℕ → Type 0 = λ k. Runs f (get_or (m ∷ n ∷ ms) k 0) first in (
        run_may P f flow calls (next 0 (omega arith)),
        chain first (n ∷ ms) (omega arith)
            (λ i lt.
            let up : suc i + 1 ≡ suc (i + 1) = omega arith in
            let R : ℕ → Type 0 = λ k. Runs f (get_or (n ∷ ms) i 0) (get_or (m ∷ n ∷ ms) k 0) in
            subst R up (next (suc i) (omega arith)))
            (subst L end last),
      )

  cycle_of : (root : ℕ) (ms : List ℕ) → IsRing f root ms → IsCallCycle P ms
  cycle_of root [] is = let some = is.some in absurd (omega arith)
  cycle_of root (m ∷ ms) is = chain m (m ∷ ms) is.some is.runs is.around

  pub call_cause : (root : ℕ) (e : CallFault) → IsRingCause f root e → IsCallCause P root e
  call_cause root NoMemory is = tt
  call_cause root (Recursion ms) is = record {
    calls = cycle_of root ms is;
    within = All-weaker (IsReached f (λ y. y ≡ root)) (IsWithin P root) (λ x r. reached_within P f flow calls (first_is root) r) ms is.reached;
    distinct = is.distinct;
  }

-- ---- an order and a cycle exclude each other

module _ (P : Program) (root : ℕ) (order : List ℕ) (is : IsTargetsFirst P root order) where
  -- a method stands behind each that it may run
  earlier : (i m t : ℕ) → slice_get order i ≡ Some m → MayCall P m t → (j : ℕ) × (j < i) × (slice_get order j ≡ Some t)
  earlier i m t at may = from_taken i order t (is.first i m t at may)

  -- along a chain
  earlier_first : (first m : ℕ) (ms : List ℕ) (i : ℕ) → slice_get order i ≡ Some m → IsCallChain P first (m ∷ ms) → (j : ℕ) × (j < i) × (slice_get order j ≡ Some first)
  earlier_first first m [] i at c = earlier i m first at c
  earlier_first first m (n ∷ ms) i at c =
      let next = earlier i m n at c.0 in
      let last = earlier_first first n ms next.0 next.2 c.1 in
      let a = next.1 in
      let b = last.1 in (last.0, omega arith, last.2)

  -- no place is the first
  never : (most i m : ℕ) (ms : List ℕ) → i < most → slice_get order i ≡ Some m → IsCallChain P m (m ∷ ms) → ⊥
  never zero i m ms lt at c = absurd (omega arith)
  never (suc most) i m ms lt at c =
      let before = earlier_first m m ms i at c in
      let a = before.1 in
      never most before.0 m ms (omega arith) before.2 c

  excluded : (cycle : List ℕ) → IsCallCycle P cycle → All (IsWithin P root) cycle → ⊥
  excluded [] c w = c
  excluded (m ∷ ms) c w =
      let has = (is.methods.each m).1 (All-head (IsWithin P root) m ms w) in
      let at = get_contained order m has in
      never (suc at.0) at.0 m ms (omega arith) at.1 c

pub order_excludes_cycles : OrderExcludesCycles
order_excludes_cycles P root order cycle is cause = excluded P root order is cycle cause.calls cause.within
