-- What is counted over all boundaries of a stay counts the visits of its own nodes.
use Rattle.std.proofs.Common.{◌≡◌, ℕ, ◌+◌, ◌≤◌, ◌==◌, ◌&&◌, Bool, true, false, List, [], ◌∷◌, ◌++◌, refl, sym, ap, ◌∙◌, arith, eq-eqb}
use Rattle.std.proofs.lemmas.List.Sums.{sum_by-cons, sum_by-append}
use Rattle.std.specs.Prelude.{if◌then◌else◌, cond}
use Rattle.section_check.specs.Bounded.{holds}
use Rattle.bytecode_model.specs.State.{Frame}
use Rattle.method_flow.specs.Nodes.{number_of}
use Rattle.method_flow.specs.Shapes.{node_of}
use Rattle.activations.specs.Setting.{Setting}
use Rattle.activations.specs.Activations.{Stage}
use Rattle.activations.specs.Stays.{IsTop, Stay}
use Rattle.activations.specs.Stays.Stay.{leaves, goes, calls}
use Rattle.activations.specs.Trees.{ActivationsAreTrees}
use Rattle.flow_facts.specs.Facts.{CountFact}
use Rattle.priced_sections.specs.Visits.{visits_of}
use Rattle.fact_keeping.specs.Keeping.{top_visits, visits_at}
use Rattle.fact_keeping.specs.Laws.{OwnVisitsCount}

module _ (f : CountFact) where
  -- a visit at a node
  abbrev at_node : ℕ → ℕ
  at_node u = cond (holds f.nodes u) 1 0

  abbrev one_if : Bool → ℕ
  one_if x = if x then 1 else 0

  chosen : (x : Bool) → one_if x ≡ cond x 1 0
  chosen true = refl
  chosen false = refl

  -- where a frame of the fact's method is the top one
  top_is : {callers : List Frame} {m : ℕ} {a : Stage} {u : ℕ} → IsTop callers m a u → f.method ≡ m → top_visits f a.state.mode a.state.frames ≡ at_node u
  top_is {callers} {m} {a} {u} top of =
      let same : (top.frame.method == f.method) ≡ true = eq-eqb top.frame.method f.method (top.method ∙ sym of) in
      ap (top_visits f a.state.mode) top.frames
      ∙ (ap (λ (x : Bool). one_if (x && holds f.nodes (number_of (node_of a.state.mode top.frame)))) same
      ∙ (chosen (holds f.nodes (number_of (node_of a.state.mode top.frame))) ∙ ap at_node (sym top.node)))

  first_visits : (u : ℕ) (us : List ℕ) → visits_of f.nodes (u ∷ us) ≡ at_node u + visits_of f.nodes us
  first_visits u us = sum_by-cons at_node u us

  abbrev at_stage : Stage → ℕ
  at_stage c = top_visits f c.state.mode c.state.frames

  first_stage : (a : Stage) (cs : List Stage) → visits_at f (a ∷ cs) ≡ at_stage a + visits_at f cs
  first_stage a cs = sum_by-cons at_stage a cs

  both_parts : (xs ys : List Stage) → visits_at f (xs ++ ys) ≡ visits_at f xs + visits_at f ys
  both_parts xs ys = sum_by-append at_stage xs ys

  own_count : {g : Setting} {callers : List Frame} {m : ℕ} {a b : Stage} {cs : List Stage} {us : List ℕ} → Stay g callers m a b cs us → f.method ≡ m → visits_of f.nodes us ≤ visits_at f (a ∷ cs)
  own_count (leaves {callers} {m} {a} {b} {u} top follows h) of =
      let one = top_is top of in let us = first_visits u [] in let here = first_stage a [] in omega arith
  own_count (goes {callers} {m} {a} {b} {c} {u} {cs} {us} top follows h more) of =
      let one = top_is top of in let nodes = first_visits u us in let here = first_stage a (b ∷ cs) in let rest = own_count more of in omega arith
  own_count (calls {callers} {m} {a} {b} {c} {d} {u} {bs} {cs} {us} top follows h child more) of =
      let one = top_is top of in
      let nodes = first_visits u us in
      let here = first_stage a ((b ∷ bs) ++ (c ∷ cs)) in
      let parts = both_parts (b ∷ bs) (c ∷ cs) in
      let rest = own_count more of in
      omega arith

pub own_visits_count : ActivationsAreTrees → OwnVisitsCount
own_visits_count trees g m a b h setting f of = let tree = trees g m a b h setting in own_count f tree.stay of
