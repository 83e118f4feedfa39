use Rattle.std.proofs.Common.{ℕ, ◌+◌, List, length, map, slice_index, Option, sym, ap, ◌∙◌, subst, arith}
use Rattle.std.proofs.lemmas.List.{length_push}
use Rattle.bound_finder.specs.Prepared.{IsCandidate, AreCandidates}
use Rattle.bound_finder.proofs.CandidateLists.{candidates_more}
use Rattle.bound_finder.proofs.Within.{all_members_within, loop_item}
use Rattle.bound_finder.proofs.charges.loop_candidates.Goals as goal

pub loop_candidate-requires-clause-within : goal.loop_candidate-requires-clause-within
loop_candidate-requires-clause-within c = λ k d lt.
    let h = c.requires.shape.1 in
    let s = c.args.s.now in
    let item = c.l-item.result in
    let is = loop_item s.graph s.nest c.loops-l-items.result.now c.loop-l.l-index item h.nest.loops c.loops-l-items.ensures c.loop-l-test.true c.l-item.is in
    let below = all_members_within s.graph h.compact.digraph item is k d lt in
    let many = ap length c.as_slice-nodes.ensures in
    let long = h.long in
    omega arith

pub loop-l-preserved : goal.loop-l-preserved
loop-l-preserved c =
    let s = c.args.s.now in
    let t = c.args.task.now.timing in
    let m = c.args.m in
    let old = c.loop-l.candidates.items in
    let item = c.l-item.result in
    let o : Option ℕ = c.in_ok-loop_candidate.field-0 in
    let long = c.loop-l.invariant.long in
    record {
      long = ap length c.in_ok-push.ensures.items ∙ length_push old o ∙ ap (λ (n : ℕ). n + 1) long;
      each = λ P flow.
          let here = subst (λ (xs : List ℕ). IsCandidate P t m (map (slice_index xs) item.members) o) c.as_slice-nodes.ensures (c.in_ok-loop_candidate.ensures P flow) in
          subst (λ (os : List (Option ℕ)). AreCandidates P t m s os) (sym c.in_ok-push.ensures.items)
          (candidates_more P t m s c.loops-l-items.result.now old c.loop-l.l-index item o long c.loops-l-items.ensures c.loop-l-test.true c.l-item.is here (c.loop-l.invariant.each P flow));
    }
