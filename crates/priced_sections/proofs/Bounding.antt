-- A walk that keeps the bounds and the facts costs at most what a paid section says.
use Rattle.std.proofs.Common.{◌≡◌, ℕ, ◌+◌, ◌*◌, ◌≤◌, ℤ, pos, negsuc, List, [], ◌∷◌, get_or, map, sum_by, All, Contains, Option, Some, None, MatchOption, refl, sym, subst, arith}
use Rattle.std.specs.Prelude.{◌+ℤ◌, ◌≤ℤ◌, option_map}
use Rattle.std.proofs.lemmas.Int.{ints}
use Rattle.std.proofs.lemmas.List.Sums.{sum_by-cons}
use Rattle.std.proofs.lemmas.List.Elements.{All-contains, Contains-get_or}
use Rattle.lists.specs.Members.{at_head, in_tail, map_contains}
use Rattle.loop_nest.specs.Digraph.{Digraph, Edge}
use Rattle.loop_nest.specs.Walks.{Walk}
use Rattle.loop_nest.specs.Walks.Walk.{stay, along}
use Rattle.loop_nest.proofs.Elements.{from_map}
use Rattle.section_check.specs.Bounded.{BoundedLoop, IsKept, cost_of}
use Rattle.section_check.specs.Section.{Certified, PricedLoop, priced, bounded, headed_by, start_value}
use Rattle.section_check.specs.Laws.{loops_of, OwnBoundsSuffice}
use Rattle.section_check.proofs.Sums.{sum_by-plus}
use Rattle.priced_sections.specs.Visits.{visits_of}
use Rattle.priced_sections.specs.Prices.{PricedFact, credit_of, own_due, with_due, with_dues}
use Rattle.priced_sections.specs.Paid.{paying, HoldsAll, at_least_zero, IsPaid}
use Rattle.priced_sections.specs.Laws.{StepsArePaid, KeepsFact, PaidBoundWalks}
use Rattle.priced_sections.proofs.Sound.{sound_paying}
use Rattle.priced_sections.proofs.Counting.{entries_count}
use Rattle.priced_sections.proofs.Steps.{start_bounds}
use Rattle.priced_sections.proofs.Gains.{back_in, all_given_back, due_in, headed_among, own_paid, header_paid, all_due, entries_with_dues}

-- what is due changes no bound
kept_with_dues : (fs : List PricedFact) (ls : List PricedLoop) (ns : List ℕ) → All (IsKept ns) (map bounded ls) → All (IsKept ns) (map bounded (with_dues fs ls))
kept_with_dues fs ls ns kept k d below =
    let K : BoundedLoop → Type 0 = λ b. IsKept ns b in
    let from = from_map bounded (with_dues fs ls) (get_or (map bounded (with_dues fs ls)) k d) (Contains-get_or (map bounded (with_dues fs ls)) k d below) in
    let plain = from_map (with_due fs) ls from.0 from.1 in
    let here : IsKept ns (bounded plain.0) = All-contains (IsKept ns) (map bounded ls) (bounded plain.0) kept (map_contains bounded ls plain.0 plain.1) in
    let P : PricedLoop → Type 0 = λ l. IsKept ns (bounded l) in
    subst K from.2 (subst P plain.2 here)

pub steps_are_paid : StepsArePaid
steps_are_paid g costs back c bounds loads fs ns paid walk =
    start_bounds g costs back c (paying c bounds loads fs) (sound_paying g c bounds loads fs paid.nodes.placed) paid.edges paid.exits ns
    (record { last = walk.last; walk = walk.walk; exit = walk.exit; kept = kept_with_dues fs (priced c.loops bounds loads) ns walk.kept })

lifted : {g part : Digraph} {u v : ℕ} {ns : List ℕ} → ((a b : ℕ) → Edge part a b → Edge g a b) → Walk part u v ns → Walk g u v ns
lifted sub (stay {u}) = stay
lifted sub (along {u} {v} {w} {ns} e t) = along (sub u v e) (lifted sub t)

-- what one fact gives back is due
one_paid : (g part : Digraph) (costs : List ℕ) (back : ℕ → ℕ) (c : Certified) (bounds : List ℕ) (loads : List (Option ℕ)) (fs : List PricedFact) (last : ℕ) (ns : List ℕ)
    → IsPaid g costs back c bounds loads fs → ((u v : ℕ) → Edge part u v → Edge g u v) → Walk part 0 last ns → (f : PricedFact) → Contains fs f → (o : Option ℕ) → f.header ≡ o → KeepsFact part f o ns
    → back_in ns f ≤ due_in (priced c.loops bounds loads) ns o (f.price * f.most)
one_paid g part costs back c bounds loads fs last ns paid sub walk f has None is keeps = own_paid (priced c.loops bounds loads) ns f.price f.most (visits_of f.nodes ns) keeps
one_paid g part costs back c bounds loads fs last ns paid sub walk f has (Some h) is keeps =
    let ls = priced c.loops bounds loads in
    let V : ℕ = visits_of f.nodes ns in
    let Goal : Type 0 = back_in ns f ≤ due_in ls ns (Some h) (f.price * f.most) in
    let P : Option PricedLoop → Type 0 = λ o. headed_by h ls ≡ o → HoldsAll o f.nodes → Goal in
    let go : (o : Option PricedLoop) → P o =
    elim [
      | None ↦ λ at held. absurd held
      | Some l ↦ λ at held.
          let r = headed_among h ls l at in
          let same : l.certified.header ≡ h = r.1 in
          let K : ℕ → Type 0 = λ x. KeepsFact part f (Some x) ns in
          let few = entries_count g part c bounds loads paid.nodes.placed sub l f.nodes f.most last ns r.0 held walk (subst K (sym same) keeps) in
          header_paid ls ns f.price f.most V h l r.0 same few
    ]
    in
    go (headed_by h ls) refl (paid.nodes.held f h has is)

all_paid : (ls : List PricedLoop) (ns : List ℕ) (fs : List PricedFact) → ((f : PricedFact) → Contains fs f → back_in ns f ≤ due_in ls ns f.header (f.price * f.most))
    → sum_by (back_in ns) fs ≤ sum_by (λ f. due_in ls ns f.header (f.price * f.most)) fs
all_paid ls ns [] each = omega arith
all_paid ls ns (f ∷ fs) each =
    let due : PricedFact → ℕ = λ k. due_in ls ns k.header (k.price * k.most) in
    omega (arith, sum_by-cons (back_in ns) f fs, sum_by-cons due f fs, each f (at_head f fs), all_paid ls ns fs (λ k has. each k (in_tail f k fs has)))

at_most_value : (cost other : ℕ) (z : ℤ) → pos cost ≤ℤ (z +ℤ pos other) → cost ≤ at_least_zero z + other
at_most_value cost other (pos n) h = omega (arith, ints)
at_most_value cost other (negsuc n) h = omega (arith, ints)

pub paid_bound_walks : OwnBoundsSuffice → PaidBoundWalks
paid_bound_walks law g part costs other c bounds loads fs last ns paid sub walk exit keeps_bounds keeps_facts =
    let ls = priced c.loops bounds loads in
    let back : ℕ → ℕ = λ u. credit_of fs u + other u in
    let kept = law g part c bounds loads paid.nodes.placed sub last ns walk keeps_bounds in
    let steps = steps_are_paid g costs back c bounds loads fs ns paid (record { last = last; walk = lifted sub walk; exit = exit; kept = kept }) in
    let gains = all_paid ls ns fs (λ f has. one_paid g part costs back c bounds loads fs last ns paid sub walk f has f.header refl (keeps_facts f has)) in
    let sums = sum_by-plus (λ (u : ℕ). credit_of fs u) other ns in
    let backs = all_given_back fs ns in
    let dues = all_due fs ls ns in
    let more = entries_with_dues fs ls ns in
    let cost = cost_of costs (loops_of c bounds loads) ns in
    let whole = cost_of costs (map bounded (paying c bounds loads fs)) ns in
    let P : Option ℤ → Type 0 = λ o. MatchOption o ⊥ (λ z. pos whole ≤ℤ (z +ℤ pos (sum_by back ns)))
    → MatchOption (option_map (λ z. at_least_zero (z +ℤ pos (own_due fs))) o) ⊥ (λ most. cost ≤ most + sum_by other ns)
    in
    let go : (o : Option ℤ) → P o =
    elim [
      | None ↦ λ h. h
      | Some z ↦ λ h. at_most_value cost (sum_by other ns) (z +ℤ pos (own_due fs)) (omega (arith, ints))
    ]
    in
    go (start_value c (paying c bounds loads fs)) steps
