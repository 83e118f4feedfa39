-- The empty section of a method that can't end meets its conditions: no invoke is reached, since an invoke may raise, and no exit.
use Rattle.std.proofs.Common.{ℕ, Bool, List, [], None, refl, sym, inl, inr, arith}
use Rattle.lists.proofs.Lemmas.{none≢some}
use Rattle.lists.specs.Members.{nil_contains}
use Rattle.loop_nest.specs.Digraph.{Digraph}
use Rattle.section_check.specs.Section.{Certified}
use Rattle.section_check.specs.Placing.{IsMisplaced}
use Rattle.section_check.specs.Placing.IsMisplaced.{lists_no_node, holds_no_node, heads_faulty, enters_aside, holds_entry, exceeds_limit}
use Rattle.path_solver.specs.Reaching.{ReachesExit}
use Rattle.bytecode_model.specs.Program.{Program}
use Rattle.certificates.specs.declared.cert.CertSection.{CertSection}
use Rattle.method_flow.specs.Calls.{IsCall}
use Rattle.method_flow.specs.Keeping.{BoundOf}
use Rattle.method_flow.specs.Kinds.{CallsAreInvokes}
use Rattle.method_flow.specs.Live.{IsLiveEdge}
use Rattle.method_flow.specs.Nodes.{Node, At, RaiseAt, number_of, IsExit, IsReached}
use Rattle.method_flow.specs.Nodes.IsReached.{later}
use Rattle.method_flow.specs.declared.timing.Timing.{Timing}
use Rattle.bound_rules.specs.Laws.{ReachesStarts}
use Rattle.bound_rules.specs.Told.{Valued}
use Rattle.bound_rules.specs.Sections.{AreEntryLoads, IsNoNode, MeetsSection}
use Rattle.compact_walks.specs.Limited.{AreSmallAt}
use Rattle.bound_finder.specs.declared.known.Known.{Known}
use Rattle.bound_finder.specs.declared.prepared.Prepared.{Prepared}
use Rattle.bound_finder.specs.Known.{CalleesAreKnown}
use Rattle.bound_finder.specs.Prepared.{IsPreparedFor}
use Rattle.bound_finder.specs.Found.{kind_of}
use Rattle.bound_finder.proofs.Raising.{call_raises}
use Rattle.bound_finder.proofs.Reached.{reachable}
use Rattle.bound_finder.proofs.ShowTold.{told}
use Rattle.bound_finder.proofs.ShowSection.{AreSaid, view}

abbrev empty : Certified
empty = record { nodes = []; loops = [] }

nothing_misplaced : (g : Digraph) (u : ℕ) → IsMisplaced g empty [] [] u → ⊥
nothing_misplaced g u (lists_no_node has more) = nil_contains u has
nothing_misplaced g u (holds_no_node held more) = nil_contains held.holder held.among
nothing_misplaced g u (heads_faulty f) = let below = f.at.0 in omega arith
nothing_misplaced g u (enters_aside v e a) = nil_contains a.entered a.among
nothing_misplaced g u (holds_entry z f) = nil_contains f.holder f.among
nothing_misplaced g u (exceeds_limit z x) = none≢some x.value x.is

module _ (invokes : CallsAreInvokes) (P : Program) (t : Timing) (bound_of : BoundOf) (table : List Known) (m : ℕ) (p : Prepared) (starts : ReachesStarts P m) (ends : CalleesAreKnown P t table m) (h : IsPreparedFor P t bound_of table m p)
    (earlier : List Valued) (small : AreSmallAt p.shape.nodes p.costs.items) (fits : Bool) (never : ReachesExit h.graph 0 → ⊥) where
  abbrev s : CertSection
  s = record { kind = kind_of fits; method = m; section = empty }

  exit_free : (u : Node) → IsReached (IsLiveEdge P m) u → IsExit P m u → ⊥
  exit_free u r exit =
      let w = reachable P m h.graph h.is_live r in
      never (record { exit = number_of u; among = (h.is_live.exits (number_of u)).1 (record { node = u; reached = r; exit = exit; numbered = refl }); nodes = w.0; walk = w.1 })

  no_call : (q : ℕ) → IsReached (IsLiveEdge P m) (At q) → IsCall P m q → ⊥
  no_call q r call = exit_free (RaiseAt q) (later r (call_raises invokes P m q call)) tt

  said : AreSaid P t bound_of table m p starts ends h earlier small fits empty
  said q x r call target = absurd (no_call q r call)

  no_fees : AreEntryLoads P t s []
  no_fees = record { long = refl; each = λ i l at. absurd (let below = at.0 in omega arith) }

  none_without : (u : ℕ) → IsNoNode P s (told P t bound_of table m p starts ends h) u → ⊥
  none_without u other = elim (other.said) [ inl has ↦ nil_contains u has | inr held ↦ nil_contains held.holder held.among ]

  pub meets_never : MeetsSection P t bound_of earlier s None
  meets_never = record {
    view = view P t bound_of table m p starts ends h earlier small fits empty said [] no_fees;
    present = λ x l. none≢some _ (sym l.absent);
    nodes = none_without;
    bounded = λ u l. nil_contains l.headed l.among;
    accepted = record {
      placed = nothing_misplaced h.graph;
      edges = λ u v e. tt;
      exits = λ u has. let x = (h.is_live.exits u).0 has in exit_free x.node x.reached x.exit;
    };
    is = refl;
  }
