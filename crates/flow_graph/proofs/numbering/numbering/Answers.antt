use Rattle.std.proofs.Common.{◌≡◌, ℕ, ◌+◌, List, [], ◌∷◌, ◌++◌, length, Vec, Global, sym, ap, ◌∙◌, subst, arith}
use Rattle.flow_graph.specs.Numbering.{AreNumbered}
use Rattle.flow_graph.proofs.Renumbering.{numbered_skips, numbered_takes}
use Rattle.flow_graph.proofs.numbering.numbering.Goals as goal
use Rattle.flow_graph.proofs.numbering.numbering.Goals.{then-flags-x+in_ok-push-2, else-flags-x}

pub loop-x-preserved : goal.loop-x-preserved
loop-x-preserved c =
    let flags = c.args.flags.now in
    let x = c.loop-x.x in
    let nodes = c.loop-x.nodes.items in
    let numbers = c.loop-x.numbers.items in
    let h = c.loop-x.invariant in
    let ok = c.loop-x.nodes.ok in
    let count : c.len.result ≡ length nodes = omega (arith, ok.0, c.len.ensures) in
    let numbers' : c.push.new.self.items ≡ numbers ++ length nodes ∷ [] = c.in_ok-push.ensures.items ∙ ap (λ (n : ℕ). numbers ++ n ∷ []) count in
    let P : List ℕ → Type 0 = λ ns. AreNumbered flags (x + 1) c.if-flags-x.nodes.items ns in
    subst P (sym numbers') (elim c.if-flags-x.branch [
      | then-flags-x+in_ok-push-2 w ↦
          let are : c.if-flags-x.nodes.items ≡ nodes ++ x ∷ [] = ap (λ (v : Vec ℕ Global). v.items) w.nodes-is ∙ w.in_ok-push-2.ensures.items in
          let Q : List ℕ → Type 0 = λ ns. AreNumbered flags (x + 1) ns (numbers ++ length nodes ∷ []) in
          subst Q (sym are) (numbered_takes flags x nodes numbers h w.if-flags-x.true)
      | else-flags-x w ↦
          let are : c.if-flags-x.nodes.items ≡ nodes = ap (λ (v : Vec ℕ Global). v.items) w.nodes-is in
          let Q : List ℕ → Type 0 = λ ns. AreNumbered flags (x + 1) ns (numbers ++ length nodes ∷ []) in
          subst Q (sym are) (numbered_skips flags x nodes numbers h w.if-flags-x.false)
    ])
