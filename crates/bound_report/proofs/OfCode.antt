-- The rows of a report are of places of codes, since only nodes of walks have rows.
use Rattle.std.proofs.Common.{◌≡◌, ℕ, zero, suc, ◌+◌, ◌*◌, ◌/◌, ◌<◌, Bool, List, [], ◌∷◌, length, map, cond, count_by, Contains, Option, ap, ◌∙◌, subst, inl, inr, arith}
use Rattle.std.specs.Prelude.{◌==◌, if◌then◌else◌, nat_lt}
use Rattle.std.specs.List.{flat_map}
use Rattle.std.proofs.Math.Nat.{mul-zero}
use Rattle.std.proofs.lemmas.Bool.{cases_eq, ne_eqb, ltb-true}
use Rattle.std.proofs.lemmas.List.Sums.{sum_by-cons}
use Rattle.std.proofs.lemmas.List.Elements.{All-contains, Contains-append_cases}
use Rattle.lists.proofs.Lemmas.{some_is}
use Rattle.lists.specs.Members.{at_head, in_tail, nil_contains}
use Rattle.loop_nest.specs.Digraph.{Digraph}
use Rattle.loop_nest.proofs.Elements.{from_map, from_filter}
use Rattle.loop_nest.proofs.Ends.{visited_within}
use Rattle.section_check.specs.Bounded.{BoundedLoop}
use Rattle.bytecode_model.specs.Program.{Program, body_of}
use Rattle.method_flow.specs.Graphs.{IsLiveGraph}
use Rattle.method_flow.specs.Keeping.{BoundOf}
use Rattle.method_flow.specs.declared.timing.Timing.{Timing}
use Rattle.bound_rules.specs.Numbers.{Numbers}
use Rattle.bound_report.specs.declared.contents.rows.ReportRow.{ReportRow}
use Rattle.bound_report.specs.Contents.Rows.{IsCodePlace}
use Rattle.bound_report.specs.declared.counts.NodeCount.{NodeCount}
use Rattle.bound_report.specs.declared.counts.MethodCounts.{MethodCounts}
use Rattle.bound_report.specs.Counts.{Asks, AreCountsOf, IsNodeCount}
use Rattle.bound_report.specs.Counts.Asks.{inside, loops}
use Rattle.bound_report.specs.Report.{row_of, RowsAreOfCode}

from_flat : {X Y : Type 0} (f : X → List Y) (xs : List X) (y : Y) → Contains (flat_map f xs) y → (x : X) × Contains xs x × Contains (f x) y
from_flat f [] y has = absurd (nil_contains y has)
from_flat f (x ∷ xs) y has =
    elim (Contains-append_cases (f x) (flat_map f xs) y has) [
      | inl here ↦ (x, at_head x xs, here)
      | inr there ↦ let r = from_flat f xs y there in (r.0, in_tail x r.0 xs r.1, r.2)
    ]

-- what is counted stands there
counted : (u : ℕ) (ns : List ℕ) → 0 < count_by (λ x. x == u) ns → Contains ns u
counted u [] some = absurd (omega (arith, some))
counted u (n ∷ ns) some =
    elim (cases_eq n u) [
      | inl same ↦ let P : ℕ → Type 0 = λ z. Contains (n ∷ ns) z in subst P same (at_head n ns)
      | inr other ↦
          let split : ◌≡◌ {A = ℕ} (count_by (λ x. x == u) (n ∷ ns)) ((if n == u then 1 else 0) + count_by (λ x. x == u) ns) = sum_by-cons (λ (v : ℕ). if v == u then 1 else 0) n ns in
          let none : ◌≡◌ {A = ℕ} (if n == u then 1 else 0) 0 = ap (λ (b : Bool). cond b 1 0) (ne_eqb n u other) in
          in_tail n u ns (counted u ns (omega (arith, some, split, none)))
    ]

factor : (a b : ℕ) → 0 < a * b → 0 < b
factor a zero some = absurd (omega (arith, some, mul-zero a))
factor a (suc b) some = omega arith

module _ (P : Program) (t : Timing) (bound_of : BoundOf) (N : Numbers) (asked : ℕ → Option ℕ) (k : MethodCounts) (are : AreCountsOf P t bound_of N asked k) where
  live : {g : Digraph} {costs : List ℕ} {ls : List BoundedLoop} {pays : ℕ → Bool} {number : Option ℕ} → Asks P t bound_of N k.method g costs ls pays number → IsLiveGraph P k.method g
  live (inside fits h) = h.flow.is_live
  live (loops apart h) = h.flow.is_live

  pub visited_place : (c : NodeCount) → Contains k.nodes.items c → 0 < c.visits → IsCodePlace P k.method (c.node / 2)
  visited_place c has some =
      let is = All-contains (IsNodeCount P t asked k.method are.costs are.pays are.walk) k.nodes.items c are.each has in
      let graph = live are.asks in
      let there = counted c.node are.walk (subst (λ (n : ℕ). 0 < n) is.visits some) in
      let last = All-contains (λ (u : ℕ). u < are.graph.nodes) are.graph.exits are.bounded.last graph.digraph.exits.within are.bounded.exit in
      let below = visited_within graph.digraph are.bounded.walk last c.node there in
      let size = some_is (body_of P k.method) (λ b. are.graph.nodes ≡ 2 * length b.code) graph.size in
      (size.0, size.1, omega (arith, below, size.2))

pub rows_are_of_code : RowsAreOfCode
rows_are_of_code P t bound_of root r h row has =
    let R : List ReportRow → Type 0 = λ rows. Contains rows row in
    let kept = from_filter (λ (x : ReportRow). nat_lt 0 x.visits) (flat_map (λ (k : MethodCounts). map (row_of k) k.nodes.items) h.counts) row (subst R h.rows has) in
    let of = from_flat (λ (k : MethodCounts). map (row_of k) k.nodes.items) h.counts row kept.0 in
    let node = from_map (row_of of.0) of.0.nodes.items row of.2 in
    let k = of.0 in
    let c = node.0 in
    let are = All-contains (AreCountsOf P t bound_of h.are.numbers h.are.asked) h.counts k h.are.each of.1 in
    let C : ReportRow → Type 0 = λ x. IsCodePlace P x.method x.place in
    subst C node.2 (visited_place P t bound_of h.are.numbers h.are.asked k are c node.1 (factor k.times c.visits (ltb-true 0 (k.times * c.visits) (ap (λ (x : ReportRow). nat_lt 0 x.visits) node.2 ∙ kept.1))))
