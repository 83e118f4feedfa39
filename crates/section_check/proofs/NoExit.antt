-- Where an accepted section has no value, no exit is reached from node 0.
use Rattle.std.proofs.Common.{◌≡◌, ℕ, ◌≤◌, List, [], ◌∷◌, ◌++◌, All, Contains, Option, None, MatchOption, map, get_or, ◌∙◌, sym, subst, inl, inr, arith, append_assoc}
use Rattle.std.proofs.lemmas.List.Elements.{Contains-append_left, Contains-append_right, Contains-get_or, All-head}
use Rattle.loop_nest.specs.Digraph.{Digraph}
use Rattle.loop_nest.specs.Walks.{Walk}
use Rattle.loop_nest.specs.Walks.Walk.{stay, along}
use Rattle.loop_nest.proofs.SimpleWalks.{walk_until, not_in_both, VisitsOnce, simple_walk}
use Rattle.loop_nest.proofs.Elements.{from_map}
use Rattle.section_check.specs.Bounded.{BoundedLoop, cost_of, IsKept}
use Rattle.section_check.specs.Section.{Certified, PricedLoop, priced, bounded}
use Rattle.section_check.specs.Conditions.{IsAccepted, value_of}
use Rattle.section_check.proofs.Sound.{AreSound, sound}
use Rattle.section_check.proofs.Bounding.{value_bounds}
use Rattle.section_check.proofs.Own.{count_none, header_dominates}

-- a walk from node 0 that visits no node twice takes no iteration in a stay, and so keeps every bound
kept_once : (g : Digraph) (ls : List PricedLoop) → AreSound g ls → (l : PricedLoop) → Contains ls l → (x : ℕ) (ns : List ℕ) → Walk g 0 x ns → VisitsOnce ns → IsKept ns (bounded l)
kept_once g ls well l has x ns w once before [] after is all = omega arith
kept_once g ls well l has x ns w once before (u ∷ s) after is all =
    let h = l.certified.header in
    let first = before ++ u ∷ [] in
    let placed : ns ≡ before ++ u ∷ (s ++ after) = is ∙ simp append_assoc in
    let came = header_dominates g g ls well (λ y z e. e) l has u (All-head (Contains l.certified.members) u s all) first (walk_until w before u (s ++ after) placed) in
    let P : List ℕ → Type 0 = λ zs. VisitsOnce zs in
    let parts : ns ≡ first ++ (s ++ after) = placed ∙ simp append_assoc in
    omega (arith, count_none h s (λ c. not_in_both first (s ++ after) h (subst P parts once) came (Contains-append_left s after h c)))

pub no_exit : (g : Digraph) (costs : List ℕ) (c : Certified) (bounds : List ℕ) (loads : List (Option ℕ)) → IsAccepted g costs c bounds loads → value_of c (priced c.loops bounds loads) ≡ None
    → (exit : ℕ) (ns : List ℕ) → Contains g.exits exit → Walk g 0 exit ns → ⊥
no_exit g costs c bounds loads accepted none exit ns is_exit walk =
    let ls = priced c.loops bounds loads in
    let well = sound g c bounds loads accepted.placed in
    let s = simple_walk walk in
    let kept : All (IsKept s.nodes) (map bounded ls) = λ k d below.
    let from = from_map bounded ls (get_or (map bounded ls) k d) (Contains-get_or (map bounded ls) k d below) in
    let K : BoundedLoop → Type 0 = λ l. IsKept s.nodes l in
    subst K from.2 (kept_once g ls well from.0 from.1 exit s.nodes s.walk s.once)
    in
    let P : Option ℕ → Type 0 = λ o. MatchOption o ⊥ (λ most. cost_of costs (map bounded ls) s.nodes ≤ most) in
    subst P none (value_bounds g costs c ls well accepted.edges accepted.exits s.nodes (record { last = exit; walk = s.walk; exit = is_exit; kept = kept }))
