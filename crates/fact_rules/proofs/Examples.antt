-- The worked examples.
use Rattle.std.proofs.Common.{◌≡◌, ℕ, ◌+◌, ◌*◌, ◌<◌, ◌≤◌, ◌^◌, ◌==◌, Bool, true, false, List, [], ◌∷◌, Contains, Option, Some, None, IsSome, pos, negsuc, ◌+ℤ◌, ◌≤ℤ◌, ℤ, refl, sym, ap, ◌∙◌, subst, inl, inr, arith, slice_index, eqb-true, ◌≢◌}
use Rattle.std.specs.Prelude.{◌-ℤ◌, ◌<ℤ◌, if◌then◌else◌}
use Rattle.std.proofs.lemmas.Int.{ints}
use Rattle.std.specs.Int.{int_wrap}
use Rattle.opcodes.specs.Instruction.{decoded}
use Rattle.opcodes.specs.Row as opcodes
use Rattle.opcodes.specs.Start.{starts_of}
use Rattle.bytecode_model.specs.Table.{row_of}
use Rattle.method_flow.specs.Recursion.{MayCall}
use Rattle.fact_rules.specs.Conditions.IsCallersLoad.{none as no_caller, greatest}
use Rattle.lists.specs.Members.{at_head, in_tail, cons_cases, nil_contains}
use Rattle.section_check.specs.Section.{Certified}
use Rattle.section_check.specs.Placing.{IsMisplaced}
use Rattle.section_check.specs.Placing.IsMisplaced.{lists_no_node, holds_no_node, heads_faulty, enters_aside, holds_entry, exceeds_limit}
use Rattle.section_check.specs.Conditions.{DescendsFrom, CoversCost}
use Rattle.method_flow.specs.Keeping.{BoundOf}
use Rattle.method_flow.specs.declared.timing.Timing.{Timing}
use Rattle.method_flow.specs.Examples.{sample}
use Rattle.bound_rules.specs.Told.{most_cycles, Valued, section_value}
use Rattle.bound_rules.specs.Sections.{SectionView, MeetsSection}
use Rattle.bound_rules.specs.Examples.{inside_section, ReturnSections as PlainReturns, timing}
use Rattle.flow_facts.specs.declared.facts.Scope.TheVariants.{Own, In}
use Rattle.flow_facts.specs.Facts.{CountFact}
use Rattle.priced_cert.specs.declared.prices.Price.{Price}
use Rattle.priced_sections.specs.Prices.{PricedFact, own_due}
use Rattle.priced_sections.specs.Paid.{PaysFrom, CoversWith, at_least_zero}
use Rattle.fact_rules.specs.Pricing.{Pricing, PlacedPrice, own_facts, credit, PricedSection, placed_prices}
use Rattle.fact_rules.specs.Sections.{MeetsPriced, MeetAllPriced}
use Rattle.fact_rules.specs.Conditions.{AreOfFacts, IsCallersLoad, IsPricedRight, MeetsPrices}
use Rattle.fact_rules.specs.Examples.{Priced, price, root_price, return_pricing, return_section, ReturnsWithPrice, RefusedPrices, LastLines, CallersCount, return_facts, return_certificate, ReturnCertificates}
use Rattle.micro_flow.specs.Costs.{IsGreatestInvoke}
use Rattle.method_flow.specs.Nodes.{At}
use Rattle.method_flow.specs.Calls.{IsCall, IsStartOf}
use Rattle.method_flow.specs.Regions.{IsWithin}
use Rattle.method_flow.specs.Regions.IsWithin.{itself, calls}
use Rattle.method_flow.specs.Costs.{params, IsOwnCost}
use Rattle.bound_rules.specs.declared.faults.CheckFault.TheVariants.{Region}
use Rattle.bound_rules.specs.Fitting.{RegionFits}
use Rattle.bound_rules.specs.Told.SaysFull.{fits}
use Rattle.fact_rules.specs.Refused.{IsRefusedWithPrices}
use Rattle.fact_rules.specs.Refused.AreSectionsRefused.{at_end}
use Rattle.fact_rules.proofs.Lines.{priced_line_is_told}
use Rattle.fact_rules.specs.declared.faults.PricedFault.TheVariants as faults

pub priced : Priced
priced = record {
  own = refl;
  per = refl;
  other_loop = refl;
  raise_step = refl;
  several = refl;
  other_method = refl;
  in_its_root = refl;
  in_another = refl;
  facts_are = refl;
  none_elsewhere = refl;
  given_back = refl;
  not_elsewhere = refl;
  without_root = refl;
  of_its_method = refl;
  due = refl;
}

-- ---- a return

abbrev alone : ℤ → Certified
alone z = record { nodes = (0, z) ∷ []; loops = [] }

edge_by : (b k : Bool) (c cost given u : ℕ) (z : ℤ) → DescendsFrom None cost u (if b then Some (pos c) else None) (if k then Some (pos c) else None) → PaysFrom None cost given u (if b then Some z else None) (if k then Some z else None)
edge_by true true c cost given u z d = omega (arith, ints)
edge_by true false c cost given u z d = tt
edge_by false true c cost given u z d = absurd d
edge_by false false c cost given u z d = tt

exit_by : (b : Bool) (c cost given : ℕ) (z : ℤ) → (b ≡ true → pos c ≤ℤ (z +ℤ pos given)) → CoversCost cost (if b then Some (pos c) else None) → CoversWith cost given (if b then Some z else None)
exit_by true c cost given z enough covers = let e = enough refl in omega (arith, ints)
exit_by false c cost given z enough covers = absurd covers

-- the section of a return with another potential, where the potential and what a visit gives back cover its cost
module _ (t : Timing) (bound_of : BoundOf) (c : ℕ) (base : MeetsSection sample t bound_of [] (inside_section 1 ((0, pos c) ∷ [])) (Some c)) (q : Pricing) (z : ℤ) (prices : List Price)
    (enough : pos c ≤ℤ (z +ℤ pos (credit q (return_section z prices) 0))) (most : z ≤ℤ pos most_cycles) where
  abbrev seen : SectionView sample t [] (inside_section 1 ((0, z) ∷ []))
  seen = record {
    coded = base.view.coded;
    told = base.view.told;
    are_told = λ p x reached call target. let w = base.view.are_told p x reached call target in record { own = w.own; is_own = w.is_own; said = w.said; says = w.says; is = w.is };
    graph = base.view.graph;
    is_graph = base.view.is_graph;
    costs = base.view.costs;
    are_costs = base.view.are_costs;
    fees = base.view.fees;
    are_fees = record { long = base.view.are_fees.long; each = base.view.are_fees.each };
  }

  small_start : (w : ℤ) → ◌≡◌ {A = Option ℤ} (Some (z +ℤ pos 0)) (Some w) → pos most_cycles <ℤ w → ⊥
  small_start w is exceeds = let same : z +ℤ pos 0 ≡ w = cc in let bad : ⊥ = omega (arith, ints) in bad

  placed : (u : ℕ) → IsMisplaced seen.graph (alone z) [] seen.fees u → ⊥
  placed u (lists_no_node listed past) = base.accepted.placed u (lists_no_node listed past)
  placed u (holds_no_node held past) = base.accepted.placed u (holds_no_node held past)
  placed u (heads_faulty heads) = base.accepted.placed u (heads_faulty heads)
  placed u (enters_aside v e enters) = base.accepted.placed u (enters_aside v e enters)
  placed u (holds_entry zero' holds) = base.accepted.placed u (holds_entry zero' holds)
  placed u (exceeds_limit zero' exceeds) = small_start exceeds.value exceeds.is exceeds.exceeds

  returns_with : (n : ℕ) → ((f : PricedFact) (h : ℕ) → Contains (own_facts q.facts (return_section z prices)) f → f.header ≡ Some h → ⊥)
      → at_least_zero ((z +ℤ pos 0) +ℤ pos (own_due (own_facts q.facts (return_section z prices)))) ≡ n → n < 2 ^ 64 → MeetsPriced sample t bound_of q [] (return_section z prices) (Some n)
  returns_with n own is small = record {
    view = seen;
    present = base.present;
    nodes = λ u wrong. base.nodes u (record { said = wrong.said; none = wrong.none });
    bounded = λ u lacks. nil_contains lacks.headed lacks.among;
    paid = record {
      nodes = record { placed = placed; held = λ f h has header. own f h has header; small = subst (λ (k : ℕ). k < 2 ^ 64) (sym is) small };
      edges = λ u v e. edge_by (0 == u) (0 == v) c (slice_index base.view.costs u) (credit q (return_section z prices) u) u z (base.accepted.edges u v e);
      exits = λ u e. exit_by (0 == u) c (slice_index base.view.costs u) (credit q (return_section z prices) u) z
          (λ at. subst (λ (x : ℕ). pos c ≤ℤ (z +ℤ pos (credit q (return_section z prices) x))) (eqb-true 0 u at) enough) (base.accepted.exits u e);
    };
    is = ap (λ (k : ℕ). Some k) (sym is);
  }

-- a fact of the activation has no header
no_header : (f x : PricedFact) (h : ℕ) → x.header ≡ None → Contains (x ∷ []) f → f.header ≡ Some h → ⊥
no_header f x h none has some =
    elim (cons_cases x f [] has) [
      | inl same ↦ let bad : ◌≡◌ {A = Option ℕ} None (Some h) = sym none ∙ (ap (λ (y : PricedFact). y.header) same ∙ some) in cc
      | inr nothing ↦ absurd (nil_contains f nothing)
    ]

module _ (t : Timing) (bound_of : BoundOf) (c : ℕ) (base : MeetsSection sample t bound_of [] (inside_section 1 ((0, pos c) ∷ [])) (Some c)) (small : c ≤ most_cycles) where
  once : MeetsPriced sample t bound_of (return_pricing 1 1 []) [] (return_section (pos c -ℤ pos 5) (price 0 None 5 ∷ [])) (Some c)
  once =
      let same : ((pos c -ℤ pos 5) +ℤ pos 0) +ℤ pos 5 ≡ pos c = omega (arith, ints) in
      returns_with t bound_of c base (return_pricing 1 1 []) (pos c -ℤ pos 5) (price 0 None 5 ∷ []) (omega (arith, ints)) (omega (arith, ints)) c
      (λ f h has some. no_header f (record { nodes = 0 ∷ []; most = 1; header = None; price = 5 }) h refl has some) (ap at_least_zero same) (omega arith)

  none_due : (negsuc 6 +ℤ pos 0) +ℤ pos (0 + (c + 7) * 0) ≡ negsuc 6
  none_due = omega (arith, ints)

  never : MeetsPriced sample t bound_of (return_pricing 0 1 []) [] (return_section (negsuc 6) (price 0 None (c + 7) ∷ [])) (Some 0)
  never =
      returns_with t bound_of c base (return_pricing 0 1 []) (negsuc 6) (price 0 None (c + 7) ∷ []) (omega (arith, ints)) (omega (arith, ints)) 0
      (λ f h has some. no_header f (record { nodes = 0 ∷ []; most = 0; header = None; price = c + 7 }) h refl has some) (ap at_least_zero none_due) (omega arith)

  in_the_root : (d : ℕ) → c ≡ d + 5 → MeetsPriced sample t bound_of (return_pricing 1 1 (root_price 1 0 5 ∷ [])) [] (return_section (pos d) []) (Some d)
  in_the_root d is =
      let same : (pos d +ℤ pos 0) +ℤ pos 0 ≡ pos d = omega (arith, ints) in
      returns_with t bound_of c base (return_pricing 1 1 (root_price 1 0 5 ∷ [])) (pos d) [] (omega (arith, ints)) (omega (arith, ints)) d (λ f h has some. nil_contains f has) (ap at_least_zero same) (omega arith)

pub returns_with_price : PlainReturns → ReturnsWithPrice
returns_with_price law t bound_of c own small =
    let base = (law t bound_of c own small).meets in
    record { once = once t bound_of c base small; never = never t bound_of c base small; in_the_root = in_the_root t bound_of c base small }

-- ---- prices without facts

of_no_price : AreOfFacts []
of_no_price x has = absurd (nil_contains x has)

of_one_price : (p : PlacedPrice) → IsSome p.fact → AreOfFacts (p ∷ [])
of_one_price p some x has = elim (cons_cases p x [] has) [ inl same ↦ subst (λ (y : PlacedPrice). IsSome y.fact) same some | inr none ↦ absurd (nil_contains x none) ]

pub refused_prices : RefusedPrices
refused_prices t bound_of z bound = record {
  no_fact = record { before = []; price = record { method = 1; node = 0; fact = None }; after = []; split = refl; first = of_no_price; none = refl; method = refl; node = refl };
  second =
      let fact : CountFact = record { method = 1; nodes = 0 ∷ []; most = 1; scope = Own } in
      record {
        before = record { method = 1; node = 0; fact = Some fact } ∷ [];
        price = record { method = 1; node = 1; fact = None };
        after = [];
        split = refl;
        first = of_one_price (record { method = 1; node = 0; fact = Some fact }) refl;
        none = refl;
        method = refl;
        node = refl;
      };
  other_scope = record { before = []; price = record { method = 1; node = 0; fact = None }; after = []; split = refl; first = of_no_price; none = refl; method = refl; node = refl };
  root_first = record {
    before = [];
    price = record { method = 2; node = 4; fact = None };
    after = record { method = 1; node = 0; fact = None } ∷ [];
    split = refl;
    first = of_no_price;
    none = refl;
    method = refl;
    node = refl;
  };
}

pub last_lines : LastLines
last_lines invoke back is_invoke is_back = record {
  line = record { invoke = invoke; is_invoke = is_invoke; back = back; is_back = is_back; is = refl };
  never = record { invoke = invoke; is_invoke = is_invoke; back = back; is_back = is_back; is = refl };
}

-- ---- callers

may_call : MayCall sample 0 1
unfolding decoded opcodes.row_of row_of int_wrap starts_of
may_call = record {
  place = 26;
  start =
      in_tail 0 26 (1 ∷ 20 ∷ 23 ∷ 26 ∷ 29 ∷ 30 ∷ 31 ∷ 32 ∷ 33 ∷ 34 ∷ [])
      (in_tail 1 26 (20 ∷ 23 ∷ 26 ∷ 29 ∷ 30 ∷ 31 ∷ 32 ∷ 33 ∷ 34 ∷ [])
      (in_tail 20 26 (23 ∷ 26 ∷ 29 ∷ 30 ∷ 31 ∷ 32 ∷ 33 ∷ 34 ∷ [])
      (in_tail 23 26 (26 ∷ 29 ∷ 30 ∷ 31 ∷ 32 ∷ 33 ∷ 34 ∷ []) (at_head 26 (29 ∷ 30 ∷ 31 ∷ 32 ∷ 33 ∷ 34 ∷ [])))));
  call = refl;
  is_target = at_head 1 [];
}

pub callers_count : CallersCount
callers_count back (no_caller is uncalled) = absurd (uncalled 0 may_call)
callers_count back (greatest m may is most) = most 0 may_call

-- ---- a certificate

false_is : false ≡ true → ⊥
false_is e = absurd (cc)

one_start : (p : ℕ) → Contains (0 ∷ []) p → p ≡ 0
one_start p c = elim (cons_cases 0 p [] c) [ inl same ↦ sym same | inr there ↦ absurd (nil_contains p there) ]

no_call : (p : ℕ) → IsStartOf sample 1 p → IsCall sample 1 p → ⊥
unfolding decoded opcodes.row_of row_of int_wrap starts_of
no_call p start call = false_is (subst (λ (x : ℕ). IsCall sample 1 x) (one_start p start) call)

alone_within : {x : ℕ} → IsWithin sample 1 x → 1 ≡ x
alone_within itself = refl
alone_within (calls p start call target more) = absurd (no_call p start call)

only_one : (x : ℕ) → Contains (1 ∷ []) x → 1 ≡ x
only_one x has = elim (cons_cases 1 x [] has) [ inl same ↦ same | inr none ↦ absurd (nil_contains x none) ]

-- method 1 by itself fits the cache
abbrev return_fits : RegionFits sample timing 1
return_fits = record {
  methods = 1 ∷ [];
  are = record {
    distinct = λ i j d less below. absurd (omega arith);
    each = λ x. (
      (λ has. subst (λ (y : ℕ). IsWithin sample 1 y) (only_one x has) itself),
      (λ within. subst (λ (y : ℕ). Contains (1 ∷ []) y) (alone_within within) (at_head 1 [])),
    );
  };
  fit = omega arith;
}

of_two_prices : (p r : PlacedPrice) → IsSome p.fact → IsSome r.fact → AreOfFacts (p ∷ r ∷ [])
of_two_prices p r some some' x has = elim (cons_cases p x (r ∷ []) has) [ inl same ↦ subst (λ (y : PlacedPrice). IsSome y.fact) same some | inr more ↦ of_one_price r some' x more ]

module _ (law : PlainReturns) (bound_of : BoundOf) (d invoke back : ℕ) (own : IsOwnCost sample timing 1 (At 0) (d + 2)) (is_invoke : IsGreatestInvoke (params timing 0 0) invoke) (is_back : IsCallersLoad sample 1 1 back)
    (small : invoke + (d + 7 + 2) + back ≤ most_cycles) where
  abbrev pricing : Pricing
  pricing = return_pricing 1 1 (root_price 1 0 2 ∷ [])

  abbrev its_section : PricedSection
  its_section = return_section (pos d -ℤ pos 5) (price 0 None 5 ∷ [])

  values : List Valued
  values = section_value (inside_section 1 ((0, pos d -ℤ pos 5) ∷ [])) (Some d) ∷ []

  its_section_meets : MeetsPriced sample timing bound_of pricing [] its_section (Some d)
  its_section_meets =
      let base = (law timing bound_of (d + 2) own (omega arith)).meets in
      let same : ((pos d -ℤ pos 5) +ℤ pos 0) +ℤ pos 5 ≡ pos d = omega (arith, ints) in
      returns_with timing bound_of (d + 2) base pricing (pos d -ℤ pos 5) (price 0 None 5 ∷ []) (omega (arith, ints)) (omega (arith, ints)) d
      (λ f h has some. no_header f (record { nodes = 0 ∷ []; most = 1; header = None; price = 5 }) h refl has some) (ap at_least_zero same) (omega arith)

  all_meet : MeetAllPriced sample timing bound_of pricing [] (its_section ∷ []) values
  unfolding values
  all_meet = (Some d, its_section_meets, refl)

  of_facts : AreOfFacts (placed_prices pricing (its_section ∷ []))
  of_facts =
      let fact : CountFact = record { method = 1; nodes = 0 ∷ []; most = 1; scope = In 1 } in
      let own_fact : CountFact = record { method = 1; nodes = 0 ∷ []; most = 1; scope = Own } in
      of_two_prices (record { method = 1; node = 0; fact = Some fact }) (record { method = 1; node = 0; fact = Some own_fact }) refl refl

  right : IsPricedRight sample timing 1 2 (Some (d + 7)) (Some (invoke + (d + 7 + 2) + back))
  right = record { line = record { invoke = invoke; is_invoke = is_invoke; back = back; is_back = is_back; is = refl }; small = small }

  holds : MeetsPrices sample timing bound_of (return_facts 1 1) (return_certificate (pos d -ℤ pos 5) (root_price 1 0 2 ∷ []) (price 0 None 5 ∷ []) (Some (invoke + (d + 7 + 2) + back)))
  unfolding values
  holds = record { facts_are = of_facts; values = values; sections = all_meet; coded = refl; full = Some (d + 7); says = fits return_fits refl; right = right }

  wrong_line : (bound : Option ℕ) → bound ≢ Some (invoke + (d + 7 + 2) + back)
      → IsRefusedWithPrices sample timing bound_of (return_facts 1 1) (return_certificate (pos d -ℤ pos 5) (root_price 1 0 2 ∷ []) (price 0 None 5 ∷ []) bound) (faults.Check (Region 1))
  unfolding values
  wrong_line bound other = (
    of_facts,
    at_end values all_meet
        (refl, record { coded = refl; full = Some (d + 7); says = fits return_fits refl; wrong = λ r. other (priced_line_is_told sample timing 1 2 (Some (d + 7)) bound (Some (invoke + (d + 7 + 2) + back)) r right) }),
  )

pub return_certificates : PlainReturns → ReturnCertificates
return_certificates law bound_of d invoke back own is_invoke is_back small =
    record { holds = holds law bound_of d invoke back own is_invoke is_back small; wrong_line = wrong_line law bound_of d invoke back own is_invoke is_back small }
