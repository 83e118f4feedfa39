-- The first boundary is where the sketch comes to one.
use Rattle.std.proofs.Common.{◌≡◌, ℕ, suc, pred, ◌+◌, ◌^◌, ◌<◌, ◌≤◌, Bool, true, false, nat_lt, refl, sym, ap, ◌∙◌, arith, ltb-true, ltb-false}
use Rattle.jop_core.specs.Cycle.{at_boundary}
use Rattle.jop_core.specs.Scene.{Scene, run}
use Rattle.micro_flow.specs.declared.CostParams.{CostParams}
use Rattle.micro_flow.specs.Walk.{IsGreatestTime}
use Rattle.micro_sketch.specs.Sketch.{Sketch}
use Rattle.micro_sketch.specs.Stands.{Env, Reaches, IsDone, scene, stalls}
use Rattle.micro_sketch.specs.Laws.{StartsAt, FirstBoundary, ComesSoon}
use Rattle.micro_sketch.proofs.Costs.{within_greatest}

pub true_false : true ≡ false → ⊥
true_false h = cc

pub by_test : (b : Bool) (m n : ℕ) → nat_lt m n ≡ b → (m < n → ⊥) → n ≤ m
by_test true m n e never = absurd (never (ltb-true m n e))
by_test false m n e never = ltb-false m n e

-- no cycle before a first boundary is one
pub not_before : (c : Scene) (j k : ℕ) → FirstBoundary c k → 0 < j → at_boundary (run j c).state ≡ true → j < k → ⊥
not_before c j k f p b h =
    let q : suc (pred j) ≡ j = omega arith in
    let none : at_boundary (run j c).state ≡ false = sym (ap (λ i. at_boundary (run i c).state) q) ∙ f.quiet (pred j) (omega arith) in
    true_false (sym b ∙ none)

pub one_first : (c : Scene) (j k : ℕ) → FirstBoundary c j → FirstBoundary c k → j ≡ k
one_first c j k f g =
    let a = by_test (nat_lt j k) j k refl (λ h. not_before c j k g f.positive f.boundary h) in
    let b = by_test (nat_lt k j) k j refl (λ h. not_before c k j f g.positive g.boundary h) in omega arith

pub first_boundary : (n : ℕ) (x y : Sketch) (e : Env) (r : Reaches n x y e) → IsDone y → FirstBoundary (scene n x e) r.cycles
first_boundary n x y e r d = record { positive = r.positive; boundary = ap (λ (c : Scene). at_boundary c.state) r.same ∙ r.ending ∙ d.done; quiet = r.quiet }

pub lands : (n : ℕ) (x y : Sketch) (e : Env) (r : Reaches n x y e) → IsDone y → (cycles : ℕ) → FirstBoundary (scene n x e) cycles → (cycles ≡ r.cycles) × (run cycles (scene n x e) ≡ scene n y r.env)
lands n x y e r d cycles f =
    let same : cycles ≡ r.cycles = one_first (scene n x e) cycles r.cycles f (first_boundary n x y e r d) in
    (same, ap (λ k. run k (scene n x e)) same ∙ r.same)

pub comes_soon : (p : CostParams) (address c n : ℕ) (x y : Sketch) (e : Env) → StartsAt p address x e → Reaches n x y e → IsDone y → IsGreatestTime p address c → c + stalls y p.r < 2 ^ 62 → ComesSoon (scene n x e)
comes_soon p address c n x y e a r d k l =
    let most = within_greatest p address c n x y e a r d k in
    record { cycles = r.cycles; first = first_boundary n x y e r d; soon = omega arith }
