-- Sections that were examined one behind another, whatever conditions they met: one without a value reaches no exit. A method with such a section can't end.
use Rattle.std.proofs.Common.{◌≡◌, ◌≢◌, ℕ, Bool, true, false, List, [], ◌∷◌, ◌++◌, Contains, Option, Some, None, refl, sym, ◌∙◌, subst, inl, inr}
use Rattle.loop_nest.specs.Digraph.{Digraph, Edge}
use Rattle.loop_nest.specs.Walks.{Walk}
use Rattle.loop_nest.specs.Walks.Walk.{stay, along as walks_on}
use Rattle.certificates.specs.declared.cert.CertSection.{CertSection}
use Rattle.certificates.specs.Certificate.{is_inside}
use Rattle.bytecode_model.specs.Program.{Program}
use Rattle.method_flow.specs.Nodes.{Node, At, number_of, IsEdge, IsExit}
use Rattle.method_flow.specs.Nodes.IsReached.{first, later}
use Rattle.method_flow.specs.Calls.{IsCall, IsTarget}
use Rattle.method_flow.specs.Live.{IsReturning, CanEnd, EndsFrom, CanBeTaken, IsLiveEdge}
use Rattle.method_flow.specs.Live.CanEnd.{ends}
use Rattle.method_flow.specs.Live.EndsFrom.{here, along, behind}
use Rattle.method_flow.specs.Regions.{load}
use Rattle.method_flow.specs.declared.timing.Timing.{Timing}
use Rattle.bound_rules.specs.Fitting.{loads_of}
use Rattle.bound_rules.specs.Told.{Valued, section_value, value_in, TargetValues, SaysFull, SaysCalled, is_without_loads, within_limit}
use Rattle.bound_rules.specs.Told.SaysFull.{fits, exceeds}
use Rattle.bound_rules.specs.Sections.{IsSectionEdge, IsSectionNode, SectionView}
use Rattle.bound_rules.proofs.Finding.{found_behind, none_raised, none_within}

-- without a value, no exit is reached from the first node of its graph
abbrev pub NoExit : Digraph → Option ℕ → Type 0
NoExit g value = value ≡ None → (exit : ℕ) (ns : List ℕ) → Contains g.exits exit → ¬ Walk g 0 exit ns

pub record IsExamined (P : Program) (t : Timing) (earlier : List Valued) (s : CertSection) (value : Option ℕ) : Type 0 where
  pub view : SectionView P t earlier s
  pub no_exit : NoExit view.graph value

-- the values of sections each of which was examined behind those before it
pub data AreExamined (P : Program) (t : Timing) : List Valued → Type 0 where
  nothing : AreExamined P t []
  one_more : {earlier : List Valued} → AreExamined P t earlier → (s : CertSection) (value : Option ℕ) → IsExamined P t earlier s value → AreExamined P t (earlier ++ section_value s value ∷ [])

-- an edge behind which nothing has to return is one of the section's graph
free_edge : (P : Program) (m : ℕ) (told : TargetValues) (u v : Node) → IsEdge P m u v → (IsReturning P m u v → ⊥) → IsSectionEdge P m told u v
free_edge P m told u v edge free = record { edge = edge; goes_on = λ p q is_u is_v call. absurd (free (subst (λ (x : Node). IsReturning P m x v) (sym is_u) (subst (λ (x : Node). IsReturning P m (At p) x) (sym is_v) call))) }

module _ (P : Program) (t : Timing) where
  -- a section of the method has no value
  record IsWithout (m : ℕ) : Type 0 where
    earlier : List Valued
    examined : AreExamined P t earlier
    section : CertSection
    is : IsExamined P t earlier section None
    method : section.method ≡ m

  find : {earlier : List Valued} → AreExamined P t earlier → (inside : Bool) (m : ℕ) → value_in inside m earlier ≡ Some None → IsWithout m
  find nothing inside m e = absurd (cc)
  find (one_more {earlier} before s x is) inside m e =
      elim (found_behind inside m earlier (section_value s x) None e) [
        | inl there ↦ find before inside m there
        | inr last ↦ record { earlier = earlier; examined = before; section = s; is = subst (λ (y : Option ℕ). IsExamined P t earlier s y) last.2 is; method = last.0 }
      ]

  full_none : {earlier : List Valued} → AreExamined P t earlier → (m : ℕ) (said : Option (Option ℕ)) → SaysFull P t earlier m said → said ≡ Some None → IsWithout m
  full_none {earlier} examined m said (fits together is) none = find examined true m (none_raised (loads_of together) (value_in true m earlier) (sym is ∙ none))
  full_none {earlier} examined m said (exceeds alone is) none = find examined false m (none_raised (load P t.read m) (value_in false m earlier) (sym is ∙ none))

  -- so has one of which an invoke is told that it never ends
  told_none : {earlier : List Valued} → AreExamined P t earlier → (without_loads : Bool) (m x own : ℕ) (said : Option (Option ℕ)) → SaysCalled P t earlier without_loads m x said → within_limit own said ≡ Some None
      → IsWithout x
  told_none examined true m x own said says none = find examined true x (sym says ∙ none_within own said none)
  told_none examined false m x own said (full, says, is) none = full_none examined x full says (none_raised (load P t.read m) full (sym is ∙ none_within own said none))

  module _ {earlier : List Valued} {s : CertSection} where
    target_none : AreExamined P t earlier → (view : SectionView P t earlier s) → (p x : ℕ) → IsSectionNode P s.method view.told (At p) → IsCall P s.method p → IsTarget P s.method p x → view.told p x ≡ Some None → IsWithout x
    target_none examined view p x reached call target none =
        let told = view.are_told p x reached call target in
        told_none examined (is_without_loads s p) s.method x told.own told.said told.says (sym told.is ∙ none)

    -- an exit is reached in the section's graph
    record Exits (view : SectionView P t earlier s) (u : Node) : Type 0 where
      exit : ℕ
      nodes : List ℕ
      among : Contains view.graph.exits exit
      walk : Walk view.graph (number_of u) exit nodes

    edge_in : (view : SectionView P t earlier s) (u v : Node) → IsSectionNode P s.method view.told u → IsSectionEdge P s.method view.told u v → Edge view.graph (number_of u) (number_of v)
    edge_in view u v reached edge = (view.is_graph.edges (number_of u) (number_of v)).1 (record { source = u; target = v; reached = reached; edge = edge; numbered = (refl, refl) })

    exits_by : (view : SectionView P t earlier s) (u v : Node) → IsSectionNode P s.method view.told u → IsSectionEdge P s.method view.told u v → Exits view v → Exits view u
    exits_by view u v reached edge x = record { exit = x.exit; nodes = number_of u ∷ x.nodes; among = x.among; walk = walks_on (edge_in view u v reached edge) x.walk }

  mutual
    cannot_end : {m : ℕ} → CanEnd P m → (f : IsWithout m) → ⊥
    cannot_end (ends {m = m} e) f =
        let x = exits_from e f.examined f.is.view f.method first in
        f.is.no_exit refl x.exit x.nodes x.among x.walk

    exits_from : {m : ℕ} {u : Node} {earlier : List Valued} {s : CertSection} → EndsFrom P m u → AreExamined P t earlier → (view : SectionView P t earlier s) → s.method ≡ m → IsSectionNode P s.method view.told u → Exits view u
    exits_from {s = s} (here {m = m} {u = u} exit) examined view is reached = record {
      exit = number_of u;
      nodes = number_of u ∷ [];
      among = (view.is_graph.exits (number_of u)).1 (record { node = u; reached = reached; exit = subst (λ (x : ℕ). IsExit P x u) (sym is) exit; numbered = refl });
      walk = stay;
    }
    exits_from {s = s} (along {m = m} {u = u} {v = v} edge free more) examined view is reached =
        let edge' : IsSectionEdge P s.method view.told u v = free_edge P s.method view.told u v (subst (λ (x : ℕ). IsEdge P x u v) (sym is) edge) (subst (λ (x : ℕ). IsReturning P x u v → ⊥) (sym is) free) in
        exits_by view u v reached edge' (exits_from more examined view is (later reached edge'))
    exits_from {s = s} (behind {m = m} {t = x} {p = p} {q = q} edge target ended more) examined view is reached =
        let target' : IsTarget P s.method p x = subst (λ (y : ℕ). IsTarget P y p x) (sym is) target in
        let edge' : IsSectionEdge P s.method view.told (At p) (At q) = record {
          edge = subst (λ (y : ℕ). IsEdge P y (At p) (At q)) (sym is) edge;
          goes_on = λ p' q' is_p is_q call.
              let same : p ≡ p' = cc in
              let here' : IsTarget P s.method p' x = subst (λ (y : ℕ). IsTarget P s.method y x) same target' in
              let reached' : IsSectionNode P s.method view.told (At p') = subst (λ (y : ℕ). IsSectionNode P s.method view.told (At y)) same reached in
              (x, here', λ none. cannot_end ended (target_none examined view p' x reached' call here' none));
        } in
        exits_by view (At p) (At q) reached edge' (exits_from more examined view is (later reached edge'))

  -- a method that has a section without a value can't end
  pub no_end : (earlier : List Valued) (s : CertSection) → AreExamined P t earlier → IsExamined P t earlier s None → ¬ CanEnd P s.method
  no_end earlier s examined is ended = cannot_end ended (record { earlier = earlier; examined = examined; section = s; is = is; method = refl })

  -- from a node of the section's graph, each edge that a run can take is one of that graph
  pub live_edge : (earlier : List Valued) (s : CertSection) → AreExamined P t earlier → (view : SectionView P t earlier s) (u v : Node) → IsSectionNode P s.method view.told u → IsLiveEdge P s.method u v
      → IsSectionEdge P s.method view.told u v
  live_edge earlier s examined view u v reached live = record { edge = live.edge; goes_on = λ p q is_u is_v call. by p q is_u is_v call (subst (λ (x : Node). CanBeTaken P s.method x v) is_u live.goes_on) }
    where
      by : (p q : ℕ) → u ≡ At p → v ≡ At q → IsCall P s.method p → CanBeTaken P s.method (At p) v → (x : ℕ) × IsTarget P s.method p x × (view.told p x ≢ Some None)
      by p q is_u is_v call goes =
          let g : IsCall P s.method p → (x : ℕ) × IsTarget P s.method p x × CanEnd P x = subst (λ (y : Node). CanBeTaken P s.method (At p) y) is_v goes in
          let x = g call in
          let reached' : IsSectionNode P s.method view.told (At p) = subst (λ (y : Node). IsSectionNode P s.method view.told y) is_u reached in
          (x.0, x.1, λ none. cannot_end x.2 (target_none examined view p x.0 reached' call x.1 none))
