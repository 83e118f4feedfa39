-- Methods that are counted one behind the other, callers first.
use Rattle.std.proofs.Common.{◌≡◌, ℕ, ◌+◌, ◌^◌, ◌<◌, ◌≤◌, Bool, List, [], ◌∷◌, ◌++◌, length, take, drop, get_or, All, Contains, Option, Some, None, refl, sym, ap, ap₂, ◌∙◌, subst, arith}
use Rattle.std.specs.Prelude.{slice_index, is_some, IfSome}
use Rattle.std.proofs.Math.Nat.{le-mul_of_pos_right}
use Rattle.std.proofs.lemmas.List.{map_push, take_more, drop_more, take_all, drop_all, take-append-drop}
use Rattle.std.proofs.lemmas.List.Elements.{All-contains, All-push, All-nil, Contains-get_or, Contains-append_right}
use Rattle.lists.specs.Members.{at_head, in_tail}
use Rattle.method_cache.specs.Regions.Region.{AreDistinct}
use Rattle.bytecode_model.specs.Program.{Program}
use Rattle.method_flow.specs.Keeping.{BoundOf}
use Rattle.method_flow.specs.Nodes.{Node, At, RaiseAt}
use Rattle.method_flow.specs.Recursion.{MayCall}
use Rattle.method_flow.specs.declared.timing.Timing.{Timing}
use Rattle.flow_graph.proofs.Starting.{target_calls}
use Rattle.bound_finder.specs.declared.known.Known.{Known}
use Rattle.bound_finder.specs.Known.{IsLimited}
use Rattle.bound_finder.specs.Laws.{numbers_by}
use Rattle.bound_report.specs.declared.counts.NodeCount.{NodeCount}
use Rattle.bound_report.specs.declared.counts.MethodCounts.{MethodCounts}
use Rattle.bound_report.specs.Counts.{IsAdded, IsNodeCount, AreCountsOf}
use Rattle.bound_report.specs.Times.{methods_of, times_of, AreTimes, CallsAmong, AreOrdered}
use Rattle.bound_report.specs.Settled.{asked_in}
use Rattle.bound_report.specs.Adding.{AreTimesAdded, AreRootTimes, AreSettled, AreCountsOfAll}
use Rattle.bound_report.proofs.Adding.{number_in, parts_in, is_sum}
use Rattle.bound_report.proofs.Counting.{times_most, times_snoc, ordered_snoc}
use Rattle.bound_report.proofs.Small.{number_small, number_positive}
use Rattle.bound_report.proofs.Telescoping.{IsSum, times_more}

pub all_of : {X : Type 0} (Q : X → Type 0) (xs : List X) → ((x : X) → Contains xs x → Q x) → All Q xs
all_of Q xs f i d lt = f _ (Contains-get_or xs i d lt)

module _ (P : Program) (t : Timing) (bound_of : BoundOf) (table : List Known) (root : ℕ) (methods : List ℕ) where
  -- the first i of the methods are counted, and the times of the others are those by what these call
  pub record IsCounting (i : ℕ) (times : List ℕ) (ks : List MethodCounts) : Type 0 where
    pub each : All (AreCountsOf P t bound_of (numbers_by table) (asked_in table)) ks
    pub are : methods_of ks ≡ take i methods
    pub ordered : AreOrdered ks (drop i methods)
    pub summed : AreTimes root [] ks
    pub at_times : (x : ℕ) → Contains (drop i methods) x → slice_index times x ≡ times_of root ks x

  pub counting_none : (count : ℕ) (times : List ℕ) → ((x : ℕ) → Contains methods x → x < count) → AreRootTimes count root times → IsCounting 0 times []
  counting_none count times known start = record {
    each = All-nil (AreCountsOf P t bound_of (numbers_by table) (asked_in table));
    are = refl;
    ordered = tt;
    summed = tt;
    at_times = λ x has. start.each x (known x has) ∙ omega arith;
  }

  pub counting_all : (i : ℕ) (times : List ℕ) (ks : List MethodCounts) → length methods ≤ i → IsCounting i times ks → AreCountsOfAll P t bound_of table root methods ks
  counting_all i times ks all h = record {
    each = h.each;
    methods_are = h.are ∙ take_all i methods all;
    ordered = subst (λ (ms : List ℕ). AreOrdered ks ms) (drop_all i methods all) h.ordered;
    times = h.summed;
  }

  module _ (settled : AreSettled P t bound_of table root methods) (limited : All IsLimited table) (i : ℕ) (lt : i < length methods) (times : List ℕ) (ks : List MethodCounts) (h : IsCounting i times ks) (k : MethodCounts)
      (is : AreCountsOf P t bound_of (numbers_by table) (asked_in table) k) (method : k.method ≡ get_or methods i 0) (counted : k.times ≡ slice_index times (get_or methods i 0)) (times' : List ℕ)
      (added : AreTimesAdded times k.times k.nodes.items times') (known : (x : ℕ) → Contains methods x → x < length times) where
    abbrev m : ℕ
    m = get_or methods i 0

    abbrev rest : List ℕ
    rest = drop (i + 1) methods

    here : drop i methods ≡ m ∷ rest
    here = drop_more methods i 0 lt

    parted : methods ≡ take i methods ++ m ∷ rest
    parted = sym (take-append-drop i methods) ∙ ap (λ (ms : List ℕ). take i methods ++ ms) here

    in_rest : (x : ℕ) → Contains rest x → Contains (drop i methods) x
    in_rest x has = subst (λ (ms : List ℕ). Contains ms x) (sym here) (in_tail m x rest has)

    in_methods : (x : ℕ) → Contains (drop i methods) x → Contains methods x
    in_methods x has = subst (λ (ms : List ℕ). Contains ms x) (take-append-drop i methods) (Contains-append_right (take i methods) (drop i methods) x has)

    m_there : Contains (drop i methods) m
    m_there = subst (λ (ms : List ℕ). Contains ms m) (sym here) (at_head m rest)

    k_times : k.times ≡ times_of root ks k.method
    k_times = counted ∙ (h.at_times m m_there ∙ ap (times_of root ks) (sym method))

    -- what it calls stands behind it
    called_behind : (u : Node) (pays : Bool) (target : Option ℕ) (loads added' : ℕ) → IsAdded P t (asked_in table) k.method u pays target loads added' → IfSome target (Contains rest)
    called_behind u pays None loads added' a = tt
    called_behind (At q) pays (Some x) loads added' a =
        let n = a.2 in
        let call : MayCall P m x = subst (λ (y : ℕ). MayCall P y x) method (record { place = q; start = a.0.0; call = target_calls P k.method q x a.0.1; is_target = a.0.1 }) in
        settled.before (take i methods) m rest parted x call (ap is_some n.1)
    called_behind (RaiseAt q) pays (Some x) loads added' a = absurd a.0

    among : CallsAmong rest k.nodes.items
    among = all_of (λ (c : NodeCount). IfSome c.target (Contains rest)) k.nodes.items (λ c has.
        let one = All-contains (IsNodeCount P t (asked_in table) k.method is.costs is.pays is.walk) k.nodes.items c is.each has in
        called_behind one.node (is.pays c.node) c.target c.loads one.added one.is_added)

    each' : All (AreCountsOf P t bound_of (numbers_by table) (asked_in table)) (ks ++ k ∷ [])
    each' = All-push (AreCountsOf P t bound_of (numbers_by table) (asked_in table)) ks k h.each is

    are' : methods_of (ks ++ k ∷ []) ≡ take (i + 1) methods
    are' = map_push (λ (j : MethodCounts). j.method) ks k ∙ (ap₂ (λ (ms : List ℕ) (x : ℕ). ms ++ x ∷ []) h.are method ∙ sym (take_more methods i 0 lt))

    ordered' : AreOrdered (ks ++ k ∷ []) rest
    ordered' = ordered_snoc ks k rest (subst (λ (ms : List ℕ). AreOrdered ks ms) (here ∙ ap (λ (x : ℕ). x ∷ rest) (sym method)) h.ordered) among

    summed' : AreTimes root [] (ks ++ k ∷ [])
    summed' = times_snoc root [] ks k h.summed k_times

    all' : methods_of (ks ++ k ∷ []) ++ rest ≡ methods
    all' = ap (λ (ms : List ℕ). ms ++ rest) are' ∙ take-append-drop (i + 1) methods

    sums : (j : MethodCounts) → Contains (ks ++ k ∷ []) j → IsSum root (number_in (asked_in table)) parts_in j
    sums j has = is_sum P t bound_of (numbers_by table) (asked_in table) j (All-contains (AreCountsOf P t bound_of (numbers_by table) (asked_in table)) (ks ++ k ∷ []) j each' has)

    -- its times are within 64 bits
    few : (x : ℕ) → Contains rest x → times_of root (ks ++ k ∷ []) x < 2 ^ 64
    few x has =
        let number : ℕ → ℕ = number_in (asked_in table) in
        let most = times_most root number parts_in (ks ++ k ∷ []) rest summed' ordered' (subst AreDistinct (sym all') settled.distinct) (subst (λ (ms : List ℕ). Contains ms root) (sym all') settled.rooted) sums x has in
        let small = number_small P t bound_of table limited root (settled.each root settled.rooted) in
        let positive = number_positive P t bound_of table limited x (settled.each x (in_methods x (in_rest x has))) in
        let up = le-mul_of_pos_right (times_of root (ks ++ k ∷ []) x) positive in
        omega arith

    at_times' : (x : ℕ) → Contains rest x → slice_index times' x ≡ times_of root (ks ++ k ∷ []) x
    at_times' x has =
        let more = times_more root ks k x in
        let was = h.at_times x (in_rest x has) in
        let small = few x has in
        added.each x (known x (in_methods x (in_rest x has))) (omega arith) ∙ omega arith

    pub counting_more : IsCounting (i + 1) times' (ks ++ k ∷ [])
    counting_more = record { each = each'; are = are'; ordered = ordered'; summed = summed'; at_times = at_times' }
