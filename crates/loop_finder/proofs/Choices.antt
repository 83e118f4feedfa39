-- How a loop counts by the test at a place.
use Rattle.std.proofs.Common.{◌≡◌, ◌↔◌, ℕ, ◌+◌, ◌*◌, ◌%◌, ◌<◌, ℤ, Bool, true, false, List, [], length, get_or, take, Contains, Option, Some, None, refl, sym, ap, ◌∙◌, subst, inl, inr, arith}
use Rattle.std.specs.Prelude.{not, Vec}
use Rattle.std.specs.declared.alloc.Global.{Global}
use Rattle.std.proofs.lemmas.Bool.{false≢true}
use Rattle.lists.specs.Members.{nil_contains}
use Rattle.lists.proofs.Lemmas.{none≢some, some_same}
use Rattle.section_check.specs.Least.{IsLeast, lesser_of}
use Rattle.section_check.proofs.LeastLemmas.{least_either}
use Rattle.loop_nest.specs.Digraph.{Digraph}
use Rattle.loop_nest.specs.Walks.{IsMember}
use Rattle.code_scan.specs.declared.rows.Comparison.{Comparison}
use Rattle.loop_rules.specs.Tests.{LeavesLoop}
use Rattle.loop_rules.specs.Iterations.{ReachesWithout}
use Rattle.loop_acts.specs.declared.effects.Test.{Test}
use Rattle.loop_acts.specs.declared.effects.Act.{Act}
use Rattle.loop_acts.specs.declared.effects.Act.TheVariants as does
use Rattle.loop_finder.specs.declared.counting.Choice.{Choice}
use Rattle.loop_acts.specs.Acts.{act_at, taken_by}
use Rattle.loop_marks.specs.Marking.{Marks, AreMarksOf, IsInner, IsWithout}
use Rattle.loop_marks.specs.Reach.{flag_at}
use Rattle.loop_finder.specs.declared.body.Beginnings.{Beginnings}
use Rattle.loop_finder.specs.declared.body.Beginnings.TheVariants.{Stored, Listed}
use Rattle.loop_acts.specs.Writing.{IsOnly}
use Rattle.loop_finder.specs.Setting.{AreWritesBefore, IsOnlyEntry, IsSetTo}
use Rattle.loop_finder.specs.declared.body.Beginning.{Beginning}
use Rattle.loop_finder.specs.Counting.{AreBefore, AreBeforeBy, BeginsBy, BeginsIn, Body, begin_in, IsOnlyStep, IsChoice, Counts, CountsAt, CountsByNode, IsStepFound, IsLeaving, IsChoiceAt}
use Rattle.loop_finder.proofs.Choosing.{leaves_one, none_inner}
use Rattle.loop_acts.proofs.Taking.{take_has, take_keeps, take_cases}

abbrev test_in : Test → Act → Test
test_in d (does.Test t) = t
test_in d a = d

module _ (b : Body) (h p : ℕ) (t : Test) (act : act_at b.acts p ≡ does.Test t) where
  test_is : (k : Choice) (is : IsChoice b h k) → k.test ≡ p → is.test ≡ t
  test_is k is same = ap (test_in t) (sym is.is ∙ (ap (act_at b.acts) same ∙ act))

  leaves_at : (k : Choice) (is : IsChoice b h k) → k.test ≡ p → LeavesLoop b.graph h p t.next t.offset (taken_by t) is.out
  leaves_at k is same =
      subst (λ (u : Test). LeavesLoop b.graph h p u.next u.offset (taken_by u) is.out) (test_is k is same)
      (subst (λ (q : ℕ). LeavesLoop b.graph h q is.test.next is.test.offset (taken_by is.test) is.out) same is.leaves)

  step_at : (k : Choice) (is : IsChoice b h k) → k.test ≡ p → IsOnlyStep b h t.local k.step k.by
  step_at k is same = subst (λ (u : Test). IsOnlyStep b h u.local k.step k.by) (test_is k is same) is.step

  begin_at : (k : Choice) (is : IsChoice b h k) → k.test ≡ p → BeginsIn b h t.local k.begin
  begin_at k is same = subst (λ (u : Test). BeginsIn b h u.local k.begin) (test_is k is same) is.begins

  pub no_leaving : IsLeaving b.graph h p t None → IsChoiceAt b h p None
  no_leaving none = λ k is same. none is.out (leaves_at k is same)

  pub no_step : IsStepFound b h t.local None → IsChoiceAt b h p None
  no_step none = λ k is same. none k.step k.by (step_at k is same)

  pub no_begin : IsOnly (BeginsIn b h t.local) None → IsChoiceAt b h p None
  no_begin none = λ k is same. none k.begin (begin_at k is same)

  pub one_choice : (out : Comparison) (step : ℕ) (by begin : ℤ) → IsLeaving b.graph h p t (Some out) → IsStepFound b h t.local (Some (step, by)) → IsOnly (BeginsIn b h t.local) (Some begin)
      → IsChoiceAt b h p (Some (record { test = p; step = step; by = by; begin = begin; out = out; limit = t.limit }))
  one_choice out step by begin leaves found set = record {
    is = record { test = t; is = act; step = found.0; begins = set.0; out = leaves.out; leaves = leaves.leaves; same = leaves.same };
    test = refl;
    only = λ other is same.
        let s = found.1 other.step other.by (step_at other is same) in
        record {
          step = s.0;
          by = s.1;
          begin = set.1 other.begin (begin_at other is same);
          out = λ value.
              sym (is.same value) ∙ (leaves_one b.graph h p t.next t.offset (taken_by t) is.out leaves.out (leaves_at other is same) leaves.leaves value ∙ leaves.same value);
        };
  }

-- ---- with what a local variable begins

module _ (b : Body) (h k : ℕ) (o : Option ℤ) where
  pub stored_only : b.begins ≡ Stored → (places : List ℕ) → AreBefore b h places
      → ((entry : ℕ) → IsOnlyEntry b.graph h entry → AreWritesBefore b.acts b.graph entry places → IsOnly (IsSetTo b.acts b.graph h k) o) → IsOnly (BeginsIn b h k) o
  stored_only stored places before only =
      let w = subst (λ (x : Beginnings). AreBeforeBy x b.acts b.graph h places) stored before in
      subst (λ (x : Beginnings). IsOnly (BeginsBy x b.acts b.graph h k) o) (sym stored) (only w.entry w.only w.writes)

  pub listed_only : (xs : Vec Beginning Global) → b.begins ≡ Listed xs → o ≡ begin_in xs.items h k → IsOnly (BeginsIn b h k) o
  listed_only xs listed is = subst (λ (x : Beginnings). IsOnly (BeginsBy x b.acts b.graph h k) o) (sym listed) (by o is)
    where
      by : (o : Option ℤ) → o ≡ begin_in xs.items h k → IsOnly (λ c. begin_in xs.items h k ≡ Some c) o
      by None is = λ c e. none≢some c (is ∙ e)
      by (Some c) is = (sym is, λ d e. some_same d c (sym e ∙ sym is))

-- ---- on each iteration

-- a node is reached without another one where its flag is set
pub flag_without : (g : Digraph) (h x u : ℕ) (flags : List Bool) → IsWithout g h x flags → (v : Bool) → v ≡ flag_at flags u → (not v ≡ true) ↔ (¬ ReachesWithout g h x u)
flag_without g h x u flags without true is = (λ e. absurd (false≢true e), λ none. absurd (none ((without u).0 (sym is))))
flag_without g h x u flags without false is = (λ e r. false≢true (is ∙ (without u).1 r), λ none. refl)

-- ---- in an inner loop

pub none_where_inner : (b : Body) (h p : ℕ) → IsInner b.graph h (2 * p) → IsLeast (CountsAt b h p) None
none_where_inner b h p n = none_inner b h p (λ turn. n.differs (turn.once n.other n.header n.member n.within))

-- ---- the way to the loop

-- where the loop is not entered from one node alone
pub no_entry : (b : Body) (h : ℕ) → b.begins ≡ Stored → ((u : ℕ) → ¬ IsOnlyEntry b.graph h u) → IsLeast (Counts b h) None
no_entry b h stored none n c =
    let set = subst (λ (x : Beginnings). BeginsBy x b.acts b.graph h c.1.1.test.local c.1.0.begin) stored c.1.1.begins in
    none set.source set.entry

-- ---- node by node

pub odd_counts : (b : Body) (h u : ℕ) → u % 2 ≡ 1 → IsLeast (CountsByNode b h u) None
odd_counts b h u odd = λ n c. let e = c.1 in absurd (omega arith)

-- where there is no test
pub no_test : (b : Body) (h p : ℕ) → ((t : Test) → act_at b.acts p ≡ does.Test t → ⊥) → IsLeast (CountsAt b h p) None
no_test b h p none = λ n c. none c.1.test (sym (ap (act_at b.acts) c.2) ∙ c.1.is)

-- such a number for the test at one of these nodes
abbrev pub CountsAmong : Body → (h : ℕ) → List ℕ → ℕ → Type 0
CountsAmong b h nodes n = (u : ℕ) × Contains nodes u × CountsByNode b h u n

pub no_nodes : (b : Body) (h : ℕ) → IsLeast (CountsAmong b h []) None
no_nodes b h = λ n c. nil_contains c.0 c.1

pub one_more : (b : Body) (h : ℕ) (nodes : List ℕ) (i : ℕ) (a o : Option ℕ) → i < length nodes → IsLeast (CountsAmong b h (take i nodes)) a → IsLeast (CountsByNode b h (get_or nodes i 0)) o
    → IsLeast (CountsAmong b h (take (i + 1) nodes)) (lesser_of a o)
one_more b h nodes i a o lt =
    least_either (CountsAmong b h (take i nodes)) (CountsByNode b h (get_or nodes i 0)) (CountsAmong b h (take (i + 1) nodes)) a o
    (λ n c. (c.0, take_keeps nodes i c.0 lt c.1, c.2)) (λ n c. (get_or nodes i 0, take_has nodes i 0 lt, c))
    (λ n c. elim (take_cases nodes i 0 c.0 lt c.1) [ inl before ↦ inl (c.0, before, c.2) | inr here ↦ inr (subst (λ (u : ℕ). CountsByNode b h u n) (sym here) c.2) ])

pub counted_among : (b : Body) (k : Marks) → AreMarksOf b.graph k → (n : ℕ) → Counts b k.header n → CountsAmong b k.header k.nodes n
counted_among b k marks n c = (2 * c.0, (marks.nodes (2 * c.0)).1 (subst (λ (q : ℕ). IsMember b.graph k.header (2 * q)) c.1.2 c.1.3.each_test.member), (c.0, refl, c.1))
