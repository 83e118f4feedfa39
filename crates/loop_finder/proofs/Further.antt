-- Loops count by the further rules where they count by what is known further.
use Rattle.std.proofs.Common.{◌≡◌, ℕ, ◌*◌, ℤ, Bool, List, refl, sym, subst, inl, inr}
use Rattle.bytecode_model.specs.Program.{Program}
use Rattle.loop_nest.specs.Digraph.{Digraph, Edge}
use Rattle.loop_nest.specs.Walks.{Walk, IsMember}
use Rattle.loop_nest.specs.Walks.Walk.{stay, along}
use Rattle.method_flow.specs.Nodes.{Node, At, IsEdge, IsReached}
use Rattle.method_flow.specs.Nodes.IsReached.{later}
use Rattle.method_flow.specs.Graphs.{IsGraphOf}
use Rattle.loop_rules.specs.Tests.{Pushing, IsTest}
use Rattle.loop_rules.specs.Tests.IsTest.{with_zero, with_limit}
use Rattle.loop_rules.specs.Counted.{CountsBy}
use Rattle.loop_rules.specs.Further.Known.{Known, Pushes}
use Rattle.loop_rules.specs.Further.Found.{IsFollowing}
use Rattle.loop_acts.specs.Rules.{further}
use Rattle.loop_finder.specs.Further.{FurtherRulesAreRight}
use Rattle.loop_finder.proofs.Meeting.{at_number}

-- ---- control comes to the members of a loop

module _ (P : Program) (m : ℕ) (g : Digraph) (is : IsGraphOf P m g) where
  from_reached : (p v : ℕ) → Edge g (2 * p) v → IsReached (IsEdge P m) (At p)
  from_reached p v e =
      let r = (is.edges (2 * p) v).0 e in
      subst (λ (u : Node). IsReached (IsEdge P m) u) (at_number r.source p (sym r.numbered.0)) r.reached

  to_reached : (u p : ℕ) → Edge g u (2 * p) → IsReached (IsEdge P m) (At p)
  to_reached u p e =
      let r = (is.edges u (2 * p)).0 e in
      subst (λ (v : Node). IsReached (IsEdge P m) v) (at_number r.target p (sym r.numbered.1)) (later r.reached r.edge)

  walk_reached : {x y : ℕ} {ns : List ℕ} (p h : ℕ) → Walk g x y ns → x ≡ 2 * p → Edge g y h → IsReached (IsEdge P m) (At p)
  walk_reached p h stay same e = from_reached p h (subst (λ (z : ℕ). Edge g z h) same e)
  walk_reached p h (along {v = v} first rest) same e = from_reached p v (subst (λ (z : ℕ). Edge g z v) same first)

  pub member_reached : (h p : ℕ) → IsMember g h (2 * p) → IsReached (IsEdge P m) (At p)
  member_reached h p (header, inl same) = to_reached header.0 p (subst (λ (z : ℕ). Edge g header.0 z) (sym same) header.1.edge)
  member_reached h p (header, inr r) = walk_reached p h r.leads.1 refl r.back_edge.edge

-- ---- with limits of other rules

module _ (P : Program) (Limit Other : Pushing) (Start : (local : ℕ) → ℤ → Type 0) (m : ℕ) (g : Digraph) (h n : ℕ) where
  pub counts_by : ((p next local : ℕ) (offset : ℤ) (taken : ℤ → Bool) → IsMember g (2 * h) (2 * p) → IsTest P Limit m p next local offset taken → IsTest P Other m p next local offset taken)
      → CountsBy P Limit Start m g h n → CountsBy P Other Start m g h n
  counts_by to count = record {
    local = count.local;
    step = count.step;
    behind_step = count.behind_step;
    s = count.s;
    increment = count.increment;
    moves = count.moves;
    each_step = count.each_step;
    no_other = count.no_other;
    test = count.test;
    behind_test = count.behind_test;
    offset = count.offset;
    taken = count.taken;
    out = count.out;
    is_test = to count.test count.behind_test count.local count.offset count.taken count.each_test.member count.is_test;
    each_test = count.each_test;
    leaves = count.leaves;
    c = count.c;
    begins = count.begins;
    first = count.first;
    tested = count.tested;
    first_out = count.first_out;
    small = count.small;
  }

-- ---- the further rules

module _ (P : Program) (known : Known) (m : ℕ) where
  abbrev Followed : Pushing
  Followed from to c = IsFollowing P m to × Pushes P known m from to c

  test_to : (p next local : ℕ) (offset : ℤ) (taken : ℤ → Bool) → IsTest P Followed m p next local offset taken → IsTest P (Pushes P known m) m p next local offset taken
  test_to p next local offset taken (with_zero load branch free) = with_zero load branch free
  test_to p next local offset taken (with_limit load limit branch free free_push) = with_limit load limit.1 branch free free_push

  test_from : (p next local : ℕ) (offset : ℤ) (taken : ℤ → Bool) → IsReached (IsEdge P m) (At p) → IsTest P (Pushes P known m) m p next local offset taken → IsTest P Followed m p next local offset taken
  test_from p next local offset taken come (with_zero load branch free) = with_zero load branch free
  test_from p next local offset taken come (with_limit load limit branch free free_push) = with_limit load (record { reached = come; unnamed = free }, limit) branch free free_push

pub rules_are_right : FurtherRulesAreRight
rules_are_right P known m g h n is = (
  counts_by P (Followed P known m) (Pushes P known m) (λ local c. (further P known).begins m g h local c) m g h n (λ p next local offset taken member t. test_to P known m p next local offset taken t),
  counts_by P (Pushes P known m) (Followed P known m) (λ local c. (further P known).begins m g h local c) m g h n
      (λ p next local offset taken member t. test_from P known m p next local offset taken (member_reached P m g is (2 * h) p member) t),
)
