use Rattle.std.proofs.Common.{ℕ, ◌∙◌, ap, map, List, subst, sym, ◌/◌, arith}
use Rattle.std.specs.Prelude.{◌↔◌, IsTrue}
use Rattle.method_flow.specs.Nodes.{number_of}
use Rattle.loop_rules.specs.Further.Search.{IsBegunBy, IsSearched}
use Rattle.loop_rules.proofs.FurtherLemmas.Lasting.{are_nearest}
use Rattle.loop_rules.proofs.FurtherLemmas.Skipping.{begun_alike, decided_alike, stops_alike}
use Rattle.loop_rules.proofs.further.writes.nearest.Goals as goal

pub is_begun-requires : goal.is_begun-requires
is_begun-requires g c = let lt = c.requires.within in let long = c.in_ok-searched.ensures.long in omega arith

pub returns : goal.returns
returns g c P m k u idle of are passed stops e go =
    let gr = c.args.g.now in
    let backs = c.args.backs.now in
    let Stop = g.S.Stops.stops_at c.args.stops.now in
    let s = c.in_ok-searched.searched in
    let wf = of.digraph in
    let searched = subst (λ (x : ℕ). IsSearched gr backs Stop x s.flags.items s.stops.items) (sym e) c.in_ok-searched.ensures in
    let silent = subst (λ (x : ℕ). ¬ Stop x) (sym e) go in
    let begun = subst (λ (x : ℕ). IsTrue c.is_begun.result ↔ IsBegunBy gr backs Stop x) (sym e) (c.is_begun.ensures gr backs c.args.node c.in_ok-searched.ensures) in
    let alike = begun_alike gr idle Stop backs (number_of u) wf are passed in
    let places = c.in_ok-places.ensures ∙ ap (λ (xs : List ℕ). map (λ x. x / 2) xs) c.deref.ensures.value in
    are_nearest c.last_writes_are_reached.ensures.reached P m gr of k Stop stops u s.stops.items
    (λ x. let same = stops_alike gr idle Stop backs (number_of u) wf are passed x in ((λ has. same.0 ((searched.stopped x).0 has)), (λ there. (searched.stopped x).1 (same.1 there))))
    (decided_alike gr idle Stop backs (number_of u) wf are passed searched.decided) silent (record { places = c.in_ok-places.places; unwritten = c.is_begun.result }) places
    ((λ is. alike.0 (begun.0 is)), (λ is. begun.1 (alike.1 is)))
