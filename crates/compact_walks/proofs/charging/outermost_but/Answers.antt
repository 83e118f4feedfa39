use Rattle.std.proofs.Common.{◌≡◌, ℕ, ◌+◌, ◌<◌, ◌&&◌, false, true, not, Bool, List, length, get_or, sym, ap, ◌∙◌, subst}
use Rattle.std.specs.Prelude.{◌↔◌}
use Rattle.loop_nest.specs.Nest.{NaturalLoop, header_at}
use Rattle.path_solver.specs.Reaching.{IsFlagged}
use Rattle.compact_walks.specs.Charging.{IsOutermostOf}
use Rattle.compact_walks.proofs.Loops.{header_of}
use Rattle.compact_walks.proofs.Marks.{flags_more, outermost_at}
use Rattle.compact_walks.proofs.charging.outermost_but.Goals as goal

pub loop-i-preserved : goal.loop-i-preserved
loop-i-preserved c =
    let ls = c.args.loops.now in
    let cs = c.args.candidates.now in
    let inner = c.args.inner.now in
    let i = c.loop-i.i in
    let lt = c.loop-i-test.true in
    let l = c.index-loops-i.result in
    let b = c.is_outermost.result in
    let flags = c.loop-i.flags.items in
    let head : header_at ls i ≡ l.header = header_of ls i l lt ∙ ap (λ (z : NaturalLoop). z.header) (sym c.index-loops-i.is) in
    let there : get_or inner c.header.result false ≡ get_or inner (header_at ls i) false = ap (λ (k : ℕ). get_or inner k false) (c.header.ensures ∙ sym head) in
    let is : b ≡ get_or cs i false && not (get_or inner (header_at ls i) false) = c.is_outermost.ensures ∙ ap (λ (x : Bool). get_or cs i false && not x) there in
    let at = outermost_at ls cs inner (length inner) i lt c.requires.rising c.requires.inner in
    let last : (b ≡ true) ↔ IsOutermostOf ls cs i = (λ e. at.0 (sym is ∙ e), λ q. is ∙ at.1 q) in
    let next = flags_more (λ k. IsOutermostOf ls cs k) flags b i c.loop-i.invariant.0 c.loop-i.invariant.1 last in
    subst (λ (fs : List Bool). (length fs ≡ i + 1) × ((k : ℕ) → k < i + 1 → IsFlagged fs k ↔ IsOutermostOf ls cs k)) (sym c.in_ok-push.ensures.items) next
