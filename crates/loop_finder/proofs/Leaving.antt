-- When a value leaves a loop at a test, by which of the branch's two ways stay in the loop.
use Rattle.std.proofs.Common.{◌≡◌, ℕ, ◌*◌, ℤ, Bool, true, false, Some, None, refl, sym, ◌∙◌, subst, arith}
use Rattle.std.specs.Prelude.{not}
use Rattle.std.proofs.Math.Bool.{beq}
use Rattle.std.proofs.lemmas.Bool.{both_ways, false≢true}
use Rattle.std.proofs.lemmas.Int.{ints}
use Rattle.loop_nest.specs.Digraph.{Digraph}
use Rattle.loop_nest.specs.Walks.{IsMember}
use Rattle.method_flow.specs.Nodes.{IsAtOffset}
use Rattle.code_scan.specs.declared.rows.Comparison.{Comparison}
use Rattle.code_scan.specs.Rows.{test_of}
use Rattle.loop_rules.specs.Tests.{LeavesLoop}
use Rattle.loop_rules.specs.Tests.LeavesLoop.{where_taken, where_not}
use Rattle.loop_acts.specs.declared.effects.Test.{Test}
use Rattle.loop_acts.specs.Acts.{taken_by}
use Rattle.loop_marks.specs.Reach.{flag_at}
use Rattle.loop_marks.specs.Marking.{Marks, AreMarksOf}
use Rattle.loop_finder.specs.Counting.{IsLeaving}

one_target : (p q target : ℕ) (offset : ℤ) → IsAtOffset p offset q → IsAtOffset p offset target → q ≡ target
one_target p q target offset a b = omega (arith, ints)

-- of two flags that differ, one is set where the other isn't
pub same_flags : (a b : Bool) → beq a b ≡ true → a ≡ b
same_flags true true e = refl
same_flags true false e = absurd (false≢true e)
same_flags false true e = absurd (false≢true e)
same_flags false false e = refl

pub other_false : (a b : Bool) → beq a b ≡ false → b ≡ true → a ≡ false
other_false true true e on = absurd (false≢true (sym e))
other_false true false e on = absurd (false≢true on)
other_false false b e on = refl

pub other_true : (a b : Bool) → beq a b ≡ false → b ≡ false → a ≡ true
other_true true b e off = refl
other_true false true e off = absurd (false≢true (sym off))
other_true false false e off = absurd (false≢true (sym e))

-- the branch leads nowhere
pub no_target : (g : Digraph) (h p : ℕ) (t : Test) → ((q : ℕ) → ¬ IsAtOffset p t.offset q) → IsLeaving g h p t None
no_target g h p t none = λ out leaves. by out leaves
  where
    by : (out : ℤ → Bool) → LeavesLoop g h p t.next t.offset (taken_by t) out → ⊥
    by out (where_taken {q} at away inside) = none q at
    by out (where_not {q} at inside away) = none q at

module _ (g : Digraph) (k : Marks) (marks : AreMarksOf g k) (p target : ℕ) (t : Test) (at : IsAtOffset p t.offset target) where
  stays : (q : ℕ) → IsAtOffset p t.offset q → IsMember g k.header (2 * q) → flag_at k.members (2 * target) ≡ true
  stays q is inside = (marks.members (2 * target)).1 (subst (λ (z : ℕ). IsMember g k.header (2 * z)) (one_target p q target t.offset is at) inside)

  inside : (q : ℕ) → IsAtOffset p t.offset q → flag_at k.members (2 * target) ≡ true → IsMember g k.header (2 * q)
  inside q is flag = subst (λ (z : ℕ). IsMember g k.header (2 * z)) (sym (one_target p q target t.offset is at)) ((marks.members (2 * target)).0 flag)

  -- both ways stay, or none
  pub ways_alike : flag_at k.members (2 * target) ≡ flag_at k.members (2 * t.next) → IsLeaving g k.header p t None
  ways_alike same = λ out leaves. by out leaves
    where
      by : (out : ℤ → Bool) → LeavesLoop g k.header p t.next t.offset (taken_by t) out → ⊥
      by out (where_taken {q} is away next) = away (inside q is (same ∙ (marks.members (2 * t.next)).1 next))
      by out (where_not {q} is stay away) = away ((marks.members (2 * t.next)).0 (sym same ∙ stays q is stay))

  -- the way on stays
  pub on_stays : flag_at k.members (2 * target) ≡ false → flag_at k.members (2 * t.next) ≡ true → IsLeaving g k.header p t (Some t.taken)
  on_stays away next = record {
    out = taken_by t;
    leaves = where_taken {q = target} at (λ member. both_ways (flag_at k.members (2 * target)) away ((marks.members (2 * target)).1 member)) ((marks.members (2 * t.next)).0 next);
    same = λ value. refl;
  }

  -- the branch stays
  pub branch_stays : flag_at k.members (2 * target) ≡ true → flag_at k.members (2 * t.next) ≡ false → (c : Comparison) → ((y x : ℤ) → test_of c y x ≡ not (test_of t.taken y x)) → IsLeaving g k.header p t (Some c)
  branch_stays stay away c opposite = record {
    out = λ value. not (taken_by t value);
    leaves = where_not {q = target} at ((marks.members (2 * target)).0 stay) (λ member. both_ways (flag_at k.members (2 * t.next)) away ((marks.members (2 * t.next)).1 member));
    same = λ value. sym (opposite t.limit value);
  }
