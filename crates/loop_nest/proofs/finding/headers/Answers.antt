use Rattle.std.proofs.Common.{◌≡◌, ℕ, ◌+◌, false, List, [], ◌∷◌, ◌++◌, length, get_or, sym, ap, ◌∙◌, subst, arith}
use Rattle.std.proofs.lemmas.Bool.{both_ways}
use Rattle.std.proofs.lemmas.List.{length-map}
use Rattle.loop_nest.specs.Nest.{NaturalLoop, headers_of}
use Rattle.loop_nest.specs.Nesting.{AreHeadersBelow}
use Rattle.loop_nest.proofs.Nested.{few_below}
use Rattle.loop_nest.proofs.Bodies.{headers_more, headers_same}
use Rattle.loop_nest.proofs.finding.headers.Goals as goal
use Rattle.loop_nest.proofs.finding.headers.Goals.{then-flags-h+in_ok-push-2, else-flags-h}

pub overflow_cast-len : goal.overflow_cast-len
overflow_cast-len c =
    let ls = c.loop-h.loops.items in
    let few = few_below (headers_of ls) c.loop-h.h c.loop-h.invariant.rising c.loop-h.invariant.below in
    let many = length-map ls (λ (l : NaturalLoop). l.header) in
    let nodes = c.nodes-h-end.ensures.nodes in
    let small = c.nodes-h-end.ensures.few in
    let ok = c.loop-h.loops.ok in
    omega (arith, ok.0)

pub loop-h-preserved : goal.loop-h-preserved
loop-h-preserved c =
    let g = c.args.g.now in
    let h = c.loop-h.h in
    let ls = c.loop-h.loops.items in
    let ok = c.loop-h.loops.ok in
    let is : c.len.result ≡ length ls = omega (arith, ok.0) in
    let numbers : c.push.new.self.items ≡ c.loop-h.numbers.items ++ length ls ∷ [] =
    c.in_ok-push.ensures.items ∙ ap (λ (k : ℕ). c.loop-h.numbers.items ++ k ∷ []) is in
    let P : List NaturalLoop → Type 0 = λ xs. AreHeadersBelow g (h + 1) xs c.push.new.self.items in
    let Q : List ℕ → List NaturalLoop → Type 0 = λ ns xs. AreHeadersBelow g (h + 1) xs ns in
    elim c.if-flags-h.branch [
      | then-flags-h+in_ok-push-2 w ↦
          let l = w.new-then-flags-h.result in
          let R : List ℕ → Type 0 = λ ns. Q ns (ls ++ l ∷ []) in
          let none : l.members ≡ [] = ap (λ (z : NaturalLoop). z.members) w.new-then-flags-h.ensures ∙ w.new.ensures.items in
          subst P (sym (ap (λ v. v.items) w.loops-is ∙ w.in_ok-push-2.ensures.items)) (subst R (sym numbers) (
          headers_more g h ls l c.loop-h.numbers.items (ap (λ (z : NaturalLoop). z.header) w.new-then-flags-h.ensures) none ((c.requires.each h).0 w.if-flags-h.true) c.loop-h.invariant))
      | else-flags-h w ↦
          let R : List ℕ → Type 0 = λ ns. Q ns ls in
          subst P (sym (ap (λ v. v.items) w.loops-is)) (subst R (sym numbers) (
          headers_same g h ls c.loop-h.numbers.items (λ header. both_ways (get_or c.args.flags.now h false) w.if-flags-h.false ((c.requires.each h).1 header)) c.loop-h.invariant))
    ]
