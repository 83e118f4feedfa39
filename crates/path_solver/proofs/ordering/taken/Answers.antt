use Rattle.std.proofs.Common.{ℕ, ◌+◌, Bool, true, false, List, get_or, take, sym, ap, ◌∙◌, subst}
use Rattle.std.proofs.lemmas.Bool.{both_ways}
use Rattle.std.proofs.lemmas.List.{take_all}
use Rattle.path_solver.specs.Ordering.{ClosesLoop, AreTaken}
use Rattle.path_solver.proofs.Taken.{taken_next, taken_not_next}
use Rattle.path_solver.proofs.ordering.taken.Goals as goal
use Rattle.path_solver.proofs.ordering.taken.Goals.{then-closes_loop+in_ok-push, else-closes_loop+in_ok-push-2}

pub loop-i-preserved-then-not-listed-v : goal.loop-i-preserved-then-not-listed-v
loop-i-preserved-then-not-listed-v c =
    let es = c.args.edges.now in
    let i = c.loop-i.i in
    let ls = c.args.loops.now in
    let flags = c.args.listed.now in
    let flag = get_or flags (get_or es i (0, 0)).1 false in
    record {
      onward = taken_not_next ls flags false es c.loop-i.onward.items i c.loop-i-test.true (λ b. both_ways flag c.if-not-listed-v.true b.0) c.loop-i.invariant.onward;
      backward = taken_not_next ls flags true es c.loop-i.backward.items i c.loop-i-test.true (λ b. both_ways flag c.if-not-listed-v.true b.0) c.loop-i.invariant.backward;
    }

pub loop-i-preserved : goal.loop-i-preserved
loop-i-preserved c =
    let es = c.args.edges.now in
    let i = c.loop-i.i in
    let ls = c.args.loops.now in
    let flags = c.args.listed.now in
    let lt = c.loop-i-test.true in
    let onward = c.loop-i.onward.items in
    let backward = c.loop-i.backward.items in
    let P : Bool → List (ℕ × ℕ) → Type 0 = λ back found. AreTaken (take (i + 1) es) ls flags back found in
    elim c.if-closes_loop.branch [
      | then-closes_loop+in_ok-push w ↦
          let back = c.closes_loop.ensures.0 w.if-closes_loop.true in
          record {
            onward = subst (P false) (sym (ap (λ v. v.items) w.onward-is)) (taken_not_next ls flags false es onward i lt (λ b. b.1 back) c.loop-i.invariant.onward);
            backward = subst (P true) (sym (ap (λ v. v.items) w.backward-is ∙ w.in_ok-push.ensures.items)) (taken_next ls flags true es backward i lt (c.if-not-listed-v.false, back) c.loop-i.invariant.backward);
          }
      | else-closes_loop+in_ok-push-2 w ↦
          let off : ClosesLoop ls (get_or es i (0, 0)).0 (get_or es i (0, 0)).1 → ⊥ = λ back. both_ways c.closes_loop.result w.if-closes_loop.false (c.closes_loop.ensures.1 back) in
          record {
            onward = subst (P false) (sym (ap (λ v. v.items) w.onward-is ∙ w.in_ok-push-2.ensures.items)) (taken_next ls flags false es onward i lt (c.if-not-listed-v.false, off) c.loop-i.invariant.onward);
            backward = subst (P true) (sym (ap (λ v. v.items) w.backward-is)) (taken_not_next ls flags true es backward i lt (λ b. off b.1) c.loop-i.invariant.backward);
          }
    ]

pub returns-clause-onward : goal.returns-clause-onward
returns-clause-onward c =
    let P : List (ℕ × ℕ) → Type 0 = λ es. AreTaken es c.args.loops.now c.args.listed.now false c.loop-i.onward.items in
    subst P (take_all c.loop-i.i c.args.edges.now c.loop-i-test.false) c.loop-i.invariant.onward

pub returns-clause-backward : goal.returns-clause-backward
returns-clause-backward c =
    let P : List (ℕ × ℕ) → Type 0 = λ es. AreTaken es c.args.loops.now c.args.listed.now true c.loop-i.backward.items in
    subst P (take_all c.loop-i.i c.args.edges.now c.loop-i-test.false) c.loop-i.invariant.backward
