-- The least number by a choice of a test, a step and a first value.
use Rattle.std.proofs.Common.{◌≡◌, ◌≢◌, ◌↔◌, ◌⊎◌, ℕ, ◌*◌, ◌<◌, Bool, true, false, ℤ, ◌+ℤ◌, Option, Some, None, refl, sym, ◌∙◌, subst, inl, inr, arith}
use Rattle.std.proofs.lemmas.Bool.{false≢true}
use Rattle.section_check.specs.Least.{IsLeast, lesser_of}
use Rattle.section_check.proofs.LeastLemmas.{least_same, least_either}
use Rattle.loop_nest.specs.Digraph.{Digraph}
use Rattle.code_scan.specs.Rows.{test_of}
use Rattle.loop_rules.specs.Iterations.{ReachesWithout, IsOnEachIteration, FirstTested}
use Rattle.loop_rules.specs.Iterations.FirstTested.{test_first, step_first}
use Rattle.loop_rules.specs.Tests.{LeavesLoop}
use Rattle.loop_rules.specs.Tests.LeavesLoop.{where_taken, where_not}
use Rattle.loop_rules.specs.Values.{IsFirstOut}
use Rattle.loop_finder.specs.declared.counting.Choice.{Choice}
use Rattle.loop_acts.specs.Values.{IsFirst}
use Rattle.loop_finder.specs.Counting.{Body, CountsFor, CountsAt, CountsByNode, IsChoice, IsFirstIf, IsLikeChoice, IsOnlyChoice}

-- ---- first values

first_same : (first s : ℤ) (out other : ℤ → Bool) (n : ℕ) → ((value : ℤ) → out value ≡ other value) → IsFirstOut first s out n → IsFirstOut first s other n
first_same first s out other n same is = record { ints = is.ints; leaves = sym (same _) ∙ is.leaves; stays = λ k less. sym (same _) ∙ is.stays k less }

-- one value is the first
not_before : (first s : ℤ) (out : ℤ → Bool) (n k : ℕ) → IsFirstOut first s out n → IsFirstOut first s out k → k < n → ⊥
not_before first s out n k a b less = false≢true (sym (a.stays k less) ∙ b.leaves)

pub least_first : (first s : ℤ) (out : ℤ → Bool) (o : Option ℕ) → IsFirst first s out o → IsLeast (IsFirstOut first s out) o
least_first first s out None none = none
least_first first s out (Some n) is = (is, λ k less other. not_before first s out n k is other less)

-- where it is tested first
abbrev pub FirstWhen : Bool → (first : ℤ) → Choice → ℕ → Type 0
FirstWhen flag first k n = (flag ≡ true) × IsFirstOut first k.by (λ value. test_of k.out k.limit value) n

pub least_when : (flag : Bool) (first : ℤ) (k : Choice) (o : Option ℕ) → IsFirstIf flag first k o → IsLeast (FirstWhen flag first k) o
least_when true first k o is = least_same (IsFirstOut first k.by (λ value. test_of k.out k.limit value)) (FirstWhen true first k) o (λ n h. (refl, h)) (λ n h. h.1) (least_first first k.by (λ value. test_of k.out k.limit value) o is)
least_when false first k o none = subst (IsLeast (FirstWhen false first k)) (sym none) (λ n h. false≢true h.0)

-- ---- by a choice

module _ (g : Digraph) (h : ℕ) (k : Choice) (test step : Bool) (is_test : (test ≡ true) ↔ (¬ ReachesWithout g h (2 * k.test) (2 * k.step))) (is_step : (step ≡ true) ↔ (¬ ReachesWithout g h (2 * k.step) (2 * k.test)))
    (each_test : IsOnEachIteration g h (2 * k.test)) (each_step : IsOnEachIteration g h (2 * k.step)) where
  from_test : (n : ℕ) → FirstWhen test k.begin k n → CountsFor g h k n
  from_test n f = record { each_test = each_test; each_step = each_step; first = k.begin; tested = test_first (is_test.0 f.0); first_out = f.1 }

  from_step : (n : ℕ) → FirstWhen step (k.begin +ℤ k.by) k n → CountsFor g h k n
  from_step n f = record { each_test = each_test; each_step = each_step; first = k.begin +ℤ k.by; tested = step_first (is_step.0 f.0); first_out = f.1 }

  one_of : (n : ℕ) → CountsFor g h k n → FirstWhen test k.begin k n ⊎ FirstWhen step (k.begin +ℤ k.by) k n
  one_of n c = by c.first c.tested c.first_out
    where
      by : (first : ℤ) → FirstTested g h (2 * k.step) (2 * k.test) k.begin k.by first → IsFirstOut first k.by (λ value. test_of k.out k.limit value) n → FirstWhen test k.begin k n ⊎ FirstWhen step (k.begin +ℤ k.by) k n
      by first (test_first none) f = inl (is_test.1 none, f)
      by first (step_first none) f = inr (is_step.1 none, f)

  pub least_choice : (a b : Option ℕ) → IsFirstIf test k.begin k a → IsFirstIf step (k.begin +ℤ k.by) k b → IsLeast (CountsFor g h k) (lesser_of a b)
  least_choice a b ha hb = least_either (FirstWhen test k.begin k) (FirstWhen step (k.begin +ℤ k.by) k) (CountsFor g h k) a b from_test from_step one_of (least_when test k.begin k a ha) (least_when step (k.begin +ℤ k.by) k b hb)

pub none_on_iteration : (g : Digraph) (h : ℕ) (k : Choice) → (IsOnEachIteration g h (2 * k.test) → IsOnEachIteration g h (2 * k.step) → ⊥) → (n : ℕ) → ¬ CountsFor g h k n
none_on_iteration g h k none n c = none c.each_test c.each_step

-- ---- by a test

like : (g : Digraph) (h : ℕ) (k other : Choice) (n : ℕ) → other.test ≡ k.test → IsLikeChoice k other → CountsFor g h other n → CountsFor g h k n
like g h k other n test same c = record {
  each_test = subst (λ (p : ℕ). IsOnEachIteration g h (2 * p)) test c.each_test;
  each_step = subst (λ (p : ℕ). IsOnEachIteration g h (2 * p)) same.step c.each_step;
  first = c.first;
  tested =
      subst (λ (p : ℕ). FirstTested g h (2 * p) (2 * k.test) k.begin k.by c.first) same.step
      (subst (λ (p : ℕ). FirstTested g h (2 * other.step) (2 * p) k.begin k.by c.first) test
      (subst (λ (z : ℤ). FirstTested g h (2 * other.step) (2 * other.test) z k.by c.first) same.begin
      (subst (λ (z : ℤ). FirstTested g h (2 * other.step) (2 * other.test) other.begin z c.first) same.by c.tested)));
  first_out =
      first_same c.first k.by (λ value. test_of other.out other.limit value) (λ value. test_of k.out k.limit value) n same.out
      (subst (λ (z : ℤ). IsFirstOut c.first z (λ value. test_of other.out other.limit value) n) same.by c.first_out);
}

pub counts_back : (b : Body) (h p : ℕ) (k : Choice) → IsOnlyChoice b h p k → (n : ℕ) → CountsAt b h p n → CountsFor b.graph h k n
counts_back b h p k only n c = like b.graph h k c.0 n (c.2 ∙ sym only.test) (only.only c.0 c.1 c.2) c.3

pub least_at : (b : Body) (h p : ℕ) (k : Choice) (o : Option ℕ) → IsOnlyChoice b h p k → IsLeast (CountsFor b.graph h k) o → IsLeast (CountsAt b h p) o
least_at b h p k o only = least_same (CountsFor b.graph h k) (CountsAt b h p) o (λ n c. (k, only.is, only.test, c)) back
  where
    back : (n : ℕ) → CountsAt b h p n → CountsFor b.graph h k n
    back n c = like b.graph h k c.0 n (c.2 ∙ sym only.test) (only.only c.0 c.1 c.2) c.3

pub none_at : (b : Body) (h p : ℕ) → ((k : Choice) → IsChoice b h k → k.test ≢ p) → (n : ℕ) → ¬ CountsAt b h p n
none_at b h p none n c = none c.0 c.1 c.2

pub none_inner : (b : Body) (h p : ℕ) → (IsOnEachIteration b.graph h (2 * p) → ⊥) → (n : ℕ) → ¬ CountsAt b h p n
none_inner b h p none n c = none (subst (λ (q : ℕ). IsOnEachIteration b.graph h (2 * q)) c.2 c.3.each_test)

-- ---- by a node

pub half : (p q : ℕ) → 2 * p ≡ 2 * q → p ≡ q
half p q e = omega arith

pub least_by_node : (b : Body) (h p : ℕ) (o : Option ℕ) → IsLeast (CountsAt b h p) o → IsLeast (CountsByNode b h (2 * p)) o
least_by_node b h p o = least_same (CountsAt b h p) (CountsByNode b h (2 * p)) o (λ n c. (p, refl, c)) (λ n c. subst (λ (q : ℕ). CountsAt b h q n) (sym (half p c.0 c.1)) c.2)

-- ---- leaving

-- the same values leave the loop, however it is said
pub leaves_one : (g : Digraph) (h p next : ℕ) (offset : ℤ) (taken out other : ℤ → Bool) → LeavesLoop g h p next offset taken out → LeavesLoop g h p next offset taken other → (value : ℤ) → out value ≡ other value
leaves_one g h p next offset taken out other (where_taken at away inside) (where_taken at' away' inside') value = refl
leaves_one g h p next offset taken out other (where_taken at away inside) (where_not at' inside' away') value = absurd (away' inside)
leaves_one g h p next offset taken out other (where_not at inside away) (where_taken at' away' inside') value = absurd (away inside')
leaves_one g h p next offset taken out other (where_not at inside away) (where_not at' inside' away') value = refl
