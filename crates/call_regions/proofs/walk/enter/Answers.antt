use Rattle.std.proofs.Common.{◌≡◌, ◌≢◌, ℕ, List, ◌∷◌, [], ◌++◌, drop, Contains, Some, refl, sym, ap, ◌∙◌, subst}
use Rattle.std.specs.Prelude.{slice_get}
use Rattle.call_regions.specs.Walking.{state_of, methods_of, IsLeftAt}
use Rattle.call_regions.specs.declared.walk.State.{State}
use Rattle.call_regions.specs.declared.walk.State.TheVariants.{Open}
use Rattle.call_regions.specs.declared.walk.Visit.{Visit}
use Rattle.call_regions.proofs.Visiting.{open_listed, ring_found, entered, enter_fewer}
use Rattle.call_regions.proofs.walk.enter.Goals as goal

pub cycle_from-requires : goal.cycle_from-requires
cycle_from-requires c =
    let w = c.args.walk.now in
    let t = c.target_at-t.result in
    let e = c.deref-in-Open.ensures.value ∙ c.in_ok-push.ensures.items in
    let is : state_of w.states.items t ≡ Open = ap (λ (s : List State). state_of s t) (sym c.deref.ensures.value) ∙ sym c.state_at.ensures ∙ c.in-Open.is in
    let P : List Visit → Type 0 = λ vs. Contains (methods_of vs) t in
    subst P (sym e) (open_listed c.args.f.now w w.visits.items c.args.visit c.requires.walk t is)

pub returns-in-Open-clause-cause : goal.returns-in-Open-clause-cause
returns-in-Open-clause-cause c =
    let f = c.args.f.now in
    let w = c.args.walk.now in
    let t = c.target_at-t.result in
    let L : ℕ → Type 0 = λ n. IsLeftAt f w.states.items c.args.visit n in
    let at = subst L (sym (c.target_at-t.ensures.target w.states.items c.requires.left.0 c.requires.left.1)) c.requires.left.1 in
    let e = c.deref-in-Open.ensures.value ∙ c.in_ok-push.ensures.items in
    let r = c.in_ok-cycle.ensures in
    let G : List Visit → Type 0 = λ vs. slice_get (methods_of vs) r.0 ≡ Some t in
    ring_found f w w.visits.items c.args.visit c.requires.walk t r.0 c.new.result at (subst G e r.1) (c.new.ensures ∙ r.2 ∙ ap (λ (vs : List Visit). drop r.0 (methods_of vs)) e)

pub returns-clause-walk : goal.returns-clause-walk
returns-clause-walk c =
    let f = c.args.f.now in
    let w = c.args.walk.now in
    let t = c.target_at-t.result in
    let first : Visit = record { method = t; call = 0; target = 0 } in
    let L : ℕ → Type 0 = λ n. IsLeftAt f w.states.items c.args.visit n in
    let at = subst L (sym (c.target_at-t.ensures.target w.states.items c.requires.left.0 c.requires.left.1)) c.requires.left.1 in
    let not_open : state_of w.states.items t ≢ Open = λ is. c.in_default.not-Open (c.state_at.ensures ∙ ap (λ (s : List State). state_of s t) c.deref.ensures.value ∙ is) in
    entered f w w.visits.items c.args.visit c.requires.walk _ t first at c.target_at-t.ensures.within not_open refl refl refl refl refl refl refl _
    (c.in_ok-push-2.ensures.items ∙ ap (λ (vs : List Visit). vs ++ first ∷ []) c.in_ok-push.ensures.items)

pub returns-clause-fewer : goal.returns-clause-fewer
returns-clause-fewer c =
    let f = c.args.f.now in
    let w = c.args.walk.now in
    let t = c.target_at-t.result in
    let L : ℕ → Type 0 = λ n. IsLeftAt f w.states.items c.args.visit n in
    let at = subst L (sym (c.target_at-t.ensures.target w.states.items c.requires.left.0 c.requires.left.1)) c.requires.left.1 in
    let not_open : state_of w.states.items t ≢ Open = λ is. c.in_default.not-Open (c.state_at.ensures ∙ ap (λ (s : List State). state_of s t) c.deref.ensures.value ∙ is) in
    enter_fewer f w w.visits.items c.args.visit c.requires.walk t at c.target_at-t.ensures.within not_open
