-- The report of a root, by the counts of all methods that have a number.
use Rattle.std.proofs.Common.{◌≡◌, ℕ, ◌+◌, ◌*◌, ◌^◌, ◌<◌, ◌≤◌, true, List, sum_by, All, Contains, Option, Some, None, refl, sym, ap, ◌∙◌, subst, arith}
use Rattle.std.specs.Prelude.{is_some, IsSome}
use Rattle.std.proofs.Math.Nat.{le-mul_of_pos_right, mul-le-mul_left}
use Rattle.std.proofs.lemmas.List.Elements.{All-contains}
use Rattle.lists.proofs.Lemmas.{map_some}
use Rattle.method_cache.specs.Regions.Region.{AreDistinct}
use Rattle.bytecode_model.specs.Program.{Program}
use Rattle.method_flow.specs.Keeping.{BoundOf}
use Rattle.method_flow.specs.Costs.{params, IsPrintedOf}
use Rattle.method_flow.specs.Regions.{IsGreatestLoad}
use Rattle.method_flow.specs.Regions.IsWithin.{itself}
use Rattle.method_flow.specs.declared.timing.Timing.{Timing}
use Rattle.micro_flow.specs.Costs.{IsGreatestInvoke}
use Rattle.bound_finder.specs.declared.known.Known.{Known}
use Rattle.bound_finder.specs.Known.{known_at, IsLimited}
use Rattle.bound_finder.specs.Laws.{numbers_by}
use Rattle.bound_report.specs.declared.counts.NodeCount.{NodeCount}
use Rattle.bound_report.specs.declared.counts.MethodCounts.{MethodCounts}
use Rattle.bound_report.specs.declared.reports.Report.{Report}
use Rattle.bound_report.specs.Callees.{more_of}
use Rattle.bound_report.specs.Counts.{IsNodeCount, AreCountsOf}
use Rattle.bound_report.specs.Report.{AreRootCounts, rows_of, loads_in, IsReportOf}
use Rattle.bound_report.specs.Rows.{HasSmallRow, AreSmallRows, AreSmallParts}
use Rattle.bound_report.specs.Settled.{asked_in, IsSettledAt, IsSettled}
use Rattle.bound_report.specs.Adding.{has_number, callers_of, AreSettled, AreCountsOfAll}
use Rattle.bound_report.proofs.Adding.{own_in, parts_in, root_number, parts_apart}
use Rattle.bound_report.proofs.Callers.{settled_at, callers_settled}
use Rattle.bound_report.proofs.Small.{HasMore, has_more, more_is, number_is, all_small, own_positive}
use Rattle.bound_report.proofs.Sums.{term_most}
use Rattle.bound_report.proofs.Turns.{all_of}

module _ (P : Program) (t : Timing) (bound_of : BoundOf) (root : ℕ) (order : List ℕ) (table : List Known) (distinct : AreDistinct order) (limited : All IsLimited table) (settled : IsSettled P t bound_of root order table) (bound : ℕ)
    (printed : IsPrintedOf P t (known_at table root).full (Some bound)) where
  root_among : Contains order root
  root_among = (settled.ready.order.methods.each root).1 itself

  is_some_of : (o : Option ℕ) → IsSome o → is_some o ≡ true
  is_some_of None some = some
  is_some_of (Some n) some = refl

  -- what is printed of it comes from a number
  pub root_numbered : has_number table root ≡ true
  root_numbered =
      let p = printed in
      let full = map_some (λ n. p.invoke + n + p.greatest_load) (known_at table root).full bound (sym p.is) in
      let told = (settled.known root root_among).told in
      is_some_of (asked_in table root) (told.asked.1 (told.full.0 (subst (λ (o : Option ℕ). IsSome o) (sym full.1) refl)))

  pub all_settled : AreSettled P t bound_of table root (callers_of table order)
  all_settled = callers_settled P t bound_of root order table distinct settled root_numbered

  root_at : IsSettledAt P t bound_of table root
  root_at = settled_at P t bound_of root order table distinct settled root root_among root_numbered

  more : HasMore P t bound_of table limited root root_at
  more = has_more P t bound_of table limited root root_at

  module _ (ks : List MethodCounts) (all : AreCountsOfAll P t bound_of table root (callers_of table order) ks) where
    pub are_root_counts : AreRootCounts P t bound_of root bound ks
    are_root_counts = record {
      numbers = numbers_by table;
      are = settled.numbers;
      printed = printed;
      asked = asked_in table;
      each = all.each;
      distinct = subst AreDistinct (sym all.methods_are) all_settled.distinct;
      rooted = subst (λ (ms : List ℕ). Contains ms root) (sym all.methods_are) all_settled.rooted;
      ordered = all.ordered;
      times = all.times;
    }

    sum_is : root_at.number ≡ sum_by (λ k. k.times * parts_in k) ks
    unfolding are_root_counts
    sum_is = sym (number_is P t bound_of table limited root root_at) ∙ root_number P t bound_of root bound ks are_root_counts

    small_row : (k : MethodCounts) → Contains ks k → (c : NodeCount) → Contains k.nodes.items c → HasSmallRow k c
    small_row k has c among =
        let is = All-contains (AreCountsOf P t bound_of (numbers_by table) (asked_in table)) ks k all.each has in
        let one = All-contains (IsNodeCount P t (asked_in table) k.method is.costs is.pays is.walk) k.nodes.items c is.each among in
        let own = own_positive P t k.method one.node c.own one.own in
        let node = term_most (λ (d : NodeCount). d.visits * d.own) k.nodes.items c among in
        let part = mul-le-mul_left k.times node in
        let parts = mul-le-mul_left k.times (let le : own_in k ≤ parts_in k = omega arith in le) in
        let term = term_most (λ (j : MethodCounts). j.times * parts_in j) ks k has in
        let sum = sum_is in
        let small = all_small P t bound_of table limited root root_at in
        let visits = le-mul_of_pos_right (k.times * c.visits) own in
        let same : k.times * c.visits * c.own ≡ k.times * (c.visits * c.own) = omega arith in
        record { visits = omega arith; cycles = omega arith }

    pub small_parts : AreSmallParts ks
    small_parts = all_of AreSmallRows ks (λ k has. all_of (HasSmallRow k) k.nodes.items (small_row k has))

    pub loads_small : more_of (known_at table root) + sum_by loads_in ks < 2 ^ 128
    loads_small =
        let apart = parts_apart P t bound_of root bound ks are_root_counts in
        let sum = sum_is in
        let small = all_small P t bound_of table limited root root_at in
        let same = more_is P t bound_of table limited root root_at in
        omega arith

    pub report_is : (r : Report) → r.totals.bound ≡ bound → r.rows.items ≡ rows_of ks → r.totals.loads ≡ more_of (known_at table root) + sum_by loads_in ks → IsGreatestInvoke (params t 0 0) r.totals.invoke → IsGreatestLoad P t.read r.totals.back → IsReportOf P t bound_of root r
    unfolding more
    report_is r bound_is rows loads invoke back = record {
      counts = ks;
      are = subst (λ (b : ℕ). AreRootCounts P t bound_of root b ks) (sym bound_is) are_root_counts;
      rows = rows;
      more = more.more;
      is_more = more.is_more;
      loads = loads ∙ ap (λ (n : ℕ). n + sum_by loads_in ks) (more_is P t bound_of table limited root root_at);
      invoke = invoke;
      back = back;
    }
