-- The parts of a report add up to the number that is printed.
use Rattle.std.proofs.Common.{◌≡◌, ℕ, ◌+◌, ◌*◌, Bool, List, [], ◌∷◌, ◌++◌, map, filter, sum_by, count_by, Contains, Option, Some, None, refl, sym, ap, ap₂, ◌∙◌, subst, inl, inr, arith}
use Rattle.std.specs.Prelude.{◌==◌, nat_lt, option_map, unwrap_or, slice_index}
use Rattle.std.specs.List.{flat_map}
use Rattle.std.specs.List.Sorted.{IsStrictlyIncreasing}
use Rattle.std.proofs.lemmas.Bool.{cases_lt, cond_below, cond_above}
use Rattle.std.proofs.lemmas.List.{append-nil, get_or_default}
use Rattle.std.proofs.lemmas.List.Sums.{sum_by-cons, sum_by-append}
use Rattle.std.proofs.lemmas.List.Elements.{All-contains, filter-append}
use Rattle.lists.proofs.Lemmas.{some_same}
use Rattle.lists.specs.Members.{rising_apart}
use Rattle.loop_nest.proofs.Elements.{from_map}
use Rattle.loop_nest.specs.Digraph.{Digraph}
use Rattle.section_check.specs.Bounded.{BoundedLoop, entries, cost_of_nodes, cost_of_entries}
use Rattle.method_cache.specs.Regions.Region.{AreDistinct}
use Rattle.bytecode_model.specs.Program.{Program}
use Rattle.method_flow.specs.Nodes.{Node}
use Rattle.method_flow.specs.Keeping.{BoundOf}
use Rattle.method_flow.specs.Regions.{load, IsGreatestLoad}
use Rattle.method_flow.specs.Regions.IsWithin.{itself}
use Rattle.method_flow.specs.Costs.{params}
use Rattle.method_flow.specs.declared.timing.Timing.{Timing}
use Rattle.micro_flow.specs.declared.CostParams.{CostParams}
use Rattle.micro_flow.specs.Costs.{IsGreatestInvoke}
use Rattle.bound_rules.specs.Fitting.{RegionFits, loads_of}
use Rattle.bound_rules.specs.Numbers.{Numbers, IsFull}
use Rattle.bound_rules.specs.Numbers.IsFull.{fits as full_fits, exceeds as full_exceeds}
use Rattle.bound_rules.proofs.Sums.{same_loads}
use Rattle.bound_report.specs.declared.counts.NodeCount.{NodeCount}
use Rattle.bound_report.specs.declared.counts.MethodCounts.{MethodCounts}
use Rattle.bound_report.specs.declared.contents.rows.ReportRow.{ReportRow}
use Rattle.bound_report.specs.Counts.{Asks, IsMore, IsAdded, IsNodeCount, AreCountsOf, nodes_of}
use Rattle.bound_report.specs.Counts.Asks.{inside, loops}
use Rattle.bound_report.specs.Counts.IsMore.{fits, exceeds}
use Rattle.bound_report.specs.Times.{methods_of}
use Rattle.bound_report.specs.Report.{AreRootCounts, row_of, rows_of, products, loads_in, PartsAddUp}
use Rattle.bound_report.proofs.Sums.{same_sum, plus_sum, map_sum, walk_sum}
use Rattle.bound_report.proofs.Telescoping.{called, called_in, IsSum}
use Rattle.bound_report.proofs.Counting.{whole}

-- ---- one method

abbrev pub number_in : (asked : ℕ → Option ℕ) → ℕ → ℕ
number_in asked x = unwrap_or (asked x) 0

-- what a visit of each node takes by itself
abbrev pub own_in : MethodCounts → ℕ
own_in k = sum_by (λ c. c.visits * c.own) k.nodes.items

abbrev pub paid_in : MethodCounts → ℕ
paid_in k = products k.entered.items k.fees.items + sum_by (λ c. c.visits * c.loads) k.nodes.items

abbrev pub parts_in : MethodCounts → ℕ
parts_in k = own_in k + paid_in k

pub rising_distinct : (xs : List ℕ) → IsStrictlyIncreasing xs → AreDistinct xs
rising_distinct xs rising i j d less below same =
    rising_apart xs rising i j less below (get_or_default xs i 0 d (omega arith) ∙ (same ∙ get_or_default xs j d 0 below))

entries_sum : (f g : BoundedLoop → ℕ) (ls : List BoundedLoop) → products (map f ls) (map g ls) ≡ sum_by (λ l. g l * f l) ls
entries_sum f g [] = refl
entries_sum f g (l ∷ ls) = omega (arith, sum_by-cons (λ k. g k * f k) l ls, entries_sum f g ls)

-- what is added at a node, by what is called there
added_is : (P : Program) (t : Timing) (asked : ℕ → Option ℕ) (m : ℕ) (u : Node) (pays : Bool) (target : Option ℕ) (loads added : ℕ) → IsAdded P t asked m u pays target loads added → added ≡ loads + called (number_in asked) target
added_is P t asked m u pays None loads added is = let none = is.0 in let same = is.1 in omega arith
added_is P t asked m u pays (Some x) loads added is =
    let n = is.2 in
    let number : number_in asked x ≡ n.0 = ap (λ (o : Option ℕ). unwrap_or o 0) n.1 in
    let sum = n.2 in
    omega arith

-- which number is asked
by_inside : (P : Program) (t : Timing) (bound_of : BoundOf) (N : Numbers) (m : ℕ) → RegionFits P t m → {g : Digraph} {costs : List ℕ} {ls : List BoundedLoop} {pays : ℕ → Bool} {o : Option ℕ} → Asks P t bound_of N m g costs ls pays o → N.inside m ≡ o
by_inside P t bound_of N m together (inside fit x) = refl
by_inside P t bound_of N m together (loops apart x) = absurd (apart together)

by_loops : (P : Program) (t : Timing) (bound_of : BoundOf) (N : Numbers) (m : ℕ) → ¬ RegionFits P t m → {g : Digraph} {costs : List ℕ} {ls : List BoundedLoop} {pays : ℕ → Bool} {o : Option ℕ} → Asks P t bound_of N m g costs ls pays o → N.loops m ≡ o
by_loops P t bound_of N m apart (inside fit x) = absurd (apart fit)
by_loops P t bound_of N m apart (loops other x) = refl

module _ (P : Program) (t : Timing) (bound_of : BoundOf) (N : Numbers) (asked : ℕ → Option ℕ) (k : MethodCounts) (h : AreCountsOf P t bound_of N asked k) where
  node_sum : (c : NodeCount) → Contains k.nodes.items c
      → count_by (λ u. u == c.node) h.walk * slice_index h.costs c.node ≡ c.visits * c.own + (c.visits * c.loads + c.visits * called (number_in asked) c.target)
  node_sum c has =
      let one = All-contains (IsNodeCount P t asked k.method h.costs h.pays h.walk) k.nodes.items c h.each has in
      let added = added_is P t asked k.method one.node (h.pays c.node) c.target c.loads one.added one.is_added in
      let cost : slice_index h.costs c.node ≡ c.own + (c.loads + called (number_in asked) c.target) = one.costs_are ∙ ap (λ (n : ℕ). c.own + n) added in
      ap₂ (λ (a b : ℕ). a * b) (sym one.visits) cost ∙ omega arith

  nodes_cost : cost_of_nodes h.costs h.walk ≡ own_in k + (sum_by (λ c. c.visits * c.loads) k.nodes.items + called_in (number_in asked) k.nodes.items)
  nodes_cost =
      let cs = k.nodes.items in
      let count : ℕ → ℕ = λ y. count_by (λ u. u == y) h.walk * slice_index h.costs y in
      walk_sum (λ u. slice_index h.costs u) (nodes_of cs) (rising_distinct (nodes_of cs) h.rising) h.walk h.visited
      ∙ (map_sum count (λ (c : NodeCount). c.node) cs
      ∙ (same_sum (λ (c : NodeCount). count c.node) (λ c. c.visits * c.own + (c.visits * c.loads + c.visits * called (number_in asked) c.target)) cs node_sum
      ∙ (plus_sum (λ (c : NodeCount). c.visits * c.own) (λ c. c.visits * c.loads + c.visits * called (number_in asked) c.target) cs
      ∙ ap (λ (n : ℕ). own_in k + n) (plus_sum (λ (c : NodeCount). c.visits * c.loads) (λ c. c.visits * called (number_in asked) c.target) cs))))

  entries_cost : cost_of_entries h.loops h.walk ≡ products k.entered.items k.fees.items
  entries_cost =
      sym (ap₂ (λ (xs ys : List ℕ). products xs ys) h.entered h.fees ∙ entries_sum (λ l. entries l.members h.walk) (λ l. l.load) h.loops)

  -- the method's number is what its nodes take, with the loads, and the numbers of what is called
  pub is_sum : number_in asked k.method ≡ parts_in k + called_in (number_in asked) k.nodes.items
  is_sum =
      let value : number_in asked k.method ≡ h.value = ap (λ (o : Option ℕ). unwrap_or o 0) h.asked_is in
      let nodes = nodes_cost in
      let fees = entries_cost in
      let all = h.attained in
      omega arith

  -- and it is that of the family
  pub asked_inside : RegionFits P t k.method → N.inside k.method ≡ asked k.method
  asked_inside together = by_inside P t bound_of N k.method together h.asks ∙ (h.number_is ∙ sym h.asked_is)

  pub asked_loops : ¬ RegionFits P t k.method → N.loops k.method ≡ asked k.method
  asked_loops apart = by_loops P t bound_of N k.method apart h.asks ∙ (h.number_is ∙ sym h.asked_is)

-- ---- rows

row_cases : (k : MethodCounts) (c : NodeCount) (rows : List ReportRow) → sum_by (λ (r : ReportRow). r.cycles) (filter (λ (r : ReportRow). nat_lt 0 r.visits) (row_of k c ∷ rows)) ≡ k.times * (c.visits * c.own) + sum_by (λ (r : ReportRow). r.cycles) (filter (λ (r : ReportRow). nat_lt 0 r.visits) rows)
row_cases k c rows =
    let p : ReportRow → Bool = λ r. nat_lt 0 r.visits in
    let f : ReportRow → ℕ = λ r. r.cycles in
    elim (cases_lt 0 (k.times * c.visits)) [
      | inl some ↦
          ap (sum_by f) (sym (cond_below 0 (k.times * c.visits) (row_of k c ∷ filter p rows) (filter p rows) some))
          ∙ (sum_by-cons f (row_of k c) (filter p rows) ∙ omega arith)
      | inr none ↦
          let zero : k.times * c.visits ≡ 0 = omega arith in
          let cycles : k.times * (c.visits * c.own) ≡ 0 = let e : k.times * (c.visits * c.own) ≡ k.times * c.visits * c.own = omega arith in e ∙ (ap (λ (n : ℕ). n * c.own) zero ∙ omega arith) in
          ap (sum_by f) (sym (cond_above 0 (k.times * c.visits) (row_of k c ∷ filter p rows) (filter p rows) (filter p rows) none refl)) ∙ omega arith
    ]

method_rows : (k : MethodCounts) (cs : List NodeCount) → sum_by (λ (r : ReportRow). r.cycles) (filter (λ (r : ReportRow). nat_lt 0 r.visits) (map (row_of k) cs)) ≡ k.times * sum_by (λ c. c.visits * c.own) cs
method_rows k [] = omega arith
method_rows k (c ∷ cs) =
    row_cases k c (map (row_of k) cs) ∙ (ap (λ (n : ℕ). k.times * (c.visits * c.own) + n) (method_rows k cs) ∙ omega (arith, ap (λ (n : ℕ). k.times * n) (sum_by-cons (λ (d : NodeCount). d.visits * d.own) c cs)))

pub rows_sum : (ks : List MethodCounts) → sum_by (λ (r : ReportRow). r.cycles) (rows_of ks) ≡ sum_by (λ k. k.times * own_in k) ks
rows_sum [] = refl
rows_sum (k ∷ ks) =
    let p : ReportRow → Bool = λ r. nat_lt 0 r.visits in
    let f : ReportRow → ℕ = λ r. r.cycles in
    let here = map (row_of k) k.nodes.items in
    let rest = flat_map (λ (j : MethodCounts). map (row_of j) j.nodes.items) ks in
    ap (sum_by f) (filter-append p here rest)
    ∙ (sum_by-append f (filter p here) (filter p rest)
    ∙ (ap₂ (λ (a b : ℕ). a + b) (method_rows k k.nodes.items) (rows_sum ks) ∙ sym (sum_by-cons (λ (j : MethodCounts). j.times * own_in j) k ks)))

-- ---- what stands around

one_invoke : (p : CostParams) (a b : ℕ) → IsGreatestInvoke p a → IsGreatestInvoke p b → a ≡ b
one_invoke p a b x y = let up = y.greatest x.op a x.invoke x.is in let down = x.greatest y.op b y.invoke y.is in omega arith

one_load : (P : Program) (r a b : ℕ) → IsGreatestLoad P r a → IsGreatestLoad P r b → a ≡ b
one_load P r a b x y = let up = y.greatest x.method x.coded in let down = x.greatest y.method y.coded in let same = x.attained in let other = y.attained in omega arith

-- ---- a root

module _ (P : Program) (t : Timing) (bound_of : BoundOf) (root bound : ℕ) (ks : List MethodCounts) (h : AreRootCounts P t bound_of root bound ks) where
  abbrev asked : ℕ → Option ℕ
  asked = h.asked

  abbrev number : ℕ → ℕ
  number = number_in h.asked

  each_sum : (k : MethodCounts) → Contains ks k → IsSum root number parts_in k
  each_sum k has = is_sum P t bound_of h.numbers h.asked k (All-contains (AreCountsOf P t bound_of h.numbers h.asked) ks k h.each has)

  -- the root's number is the sum of the parts of all
  pub root_number : number root ≡ sum_by (λ k. k.times * parts_in k) ks
  root_number =
      let apart : AreDistinct (methods_of ks ++ []) = subst AreDistinct (sym (append-nil (methods_of ks))) h.distinct in
      let rooted : Contains (methods_of ks ++ []) root = subst (λ (ms : List ℕ). Contains ms root) (sym (append-nil (methods_of ks))) h.rooted in
      whole root number parts_in ks [] h.times h.ordered apart rooted each_sum ∙ omega arith

  root_value : (value : ℕ) × (h.asked root ≡ Some value)
  root_value =
      let r = from_map (λ (k : MethodCounts). k.method) ks root h.rooted in
      let c = All-contains (AreCountsOf P t bound_of h.numbers h.asked) ks r.0 h.each r.1 in
      (c.value, ap h.asked (sym r.2) ∙ c.asked_is)

  root_inside : RegionFits P t root → h.numbers.inside root ≡ h.asked root
  root_inside together =
      let r = from_map (λ (k : MethodCounts). k.method) ks root h.rooted in
      let c = All-contains (AreCountsOf P t bound_of h.numbers h.asked) ks r.0 h.each r.1 in
      subst (λ (m : ℕ). h.numbers.inside m ≡ h.asked m) r.2 (asked_inside P t bound_of h.numbers h.asked r.0 c (subst (λ (m : ℕ). RegionFits P t m) (sym r.2) together))

  root_loops : ¬ RegionFits P t root → h.numbers.loops root ≡ h.asked root
  root_loops apart =
      let r = from_map (λ (k : MethodCounts). k.method) ks root h.rooted in
      let c = All-contains (AreCountsOf P t bound_of h.numbers h.asked) ks r.0 h.each r.1 in
      subst (λ (m : ℕ). h.numbers.loops m ≡ h.asked m) r.2 (asked_loops P t bound_of h.numbers h.asked r.0 c (λ fit. apart (subst (λ (m : ℕ). RegionFits P t m) r.2 fit)))

  -- its number with all loads has so much beside it
  root_full : (more : ℕ) → IsMore P t root more → h.numbers.full root ≡ option_map (λ n. n + more) (h.asked root)
  root_full more (fits together) = by (h.are.full root itself)
    where
      by : IsFull P t h.numbers root → h.numbers.full root ≡ option_map (λ n. n + loads_of together) (h.asked root)
      by (full_fits fit e) = e ∙ ap₂ (λ (a : ℕ) (o : Option ℕ). option_map (λ n. n + a) o) (same_loads fit together) (root_inside fit)
      by (full_exceeds apart e) = absurd (apart together)
  root_full more (exceeds apart) = by (h.are.full root itself)
    where
      by : IsFull P t h.numbers root → h.numbers.full root ≡ option_map (λ n. n + load P t.read root) (h.asked root)
      by (full_fits fit e) = absurd (apart fit)
      by (full_exceeds other e) = e ∙ ap (λ (o : Option ℕ). option_map (λ n. n + load P t.read root) o) (root_loops apart)

  pub bound_is : (more invoke back : ℕ) → IsMore P t root more → IsGreatestInvoke (params t 0 0) invoke → IsGreatestLoad P t.read back → bound ≡ invoke + (number root + more) + back
  bound_is more invoke back is_more is_invoke is_back =
      let v = root_value in
      let p = h.printed in
      let full : h.numbers.full root ≡ Some (v.0 + more) = root_full more is_more ∙ ap (option_map (λ n. n + more)) v.1 in
      let bound_some : Some bound ≡ Some (p.invoke + (v.0 + more) + p.greatest_load) = p.is ∙ ap (option_map (λ n. p.invoke + n + p.greatest_load)) full in
      let same = some_same bound (p.invoke + (v.0 + more) + p.greatest_load) bound_some in
      let first = one_invoke (params t 0 0) p.invoke invoke p.is_invoke is_invoke in
      let last = one_load P t.read p.greatest_load back p.is_load is_back in
      let value : number root ≡ v.0 = ap (λ (o : Option ℕ). unwrap_or o 0) v.1 in
      omega arith

  pub parts_apart : sum_by (λ k. k.times * parts_in k) ks ≡ sum_by (λ k. k.times * own_in k) ks + sum_by loads_in ks
  parts_apart = same_sum (λ (k : MethodCounts). k.times * parts_in k) (λ k. k.times * own_in k + loads_in k) ks (λ k has. omega arith) ∙ plus_sum (λ (k : MethodCounts). k.times * own_in k) loads_in ks

pub parts_add_up : PartsAddUp
parts_add_up P t bound_of root r h =
    let c = h.are in
    let bound = bound_is P t bound_of root r.totals.bound h.counts c h.more r.totals.invoke r.totals.back h.is_more h.invoke h.back in
    let number = root_number P t bound_of root r.totals.bound h.counts c in
    let apart = parts_apart P t bound_of root r.totals.bound h.counts c in
    let rows = ap (sum_by (λ (row : ReportRow). row.cycles)) h.rows ∙ rows_sum h.counts in
    let loads = h.loads in
    omega arith
