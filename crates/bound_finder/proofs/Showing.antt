-- The section that is found of a method shows its number.
use Rattle.std.proofs.Common.{◌≡◌, ℕ, Bool, true, false, List, Some, sym, subst, inr}
use Rattle.std.specs.Prelude.{IfSome, slice_get}
use Rattle.lists.proofs.Lemmas.{some_in}
use Rattle.opcodes.specs.Start.{IsStart, AreStarts}
use Rattle.bytecode_model.specs.Program.{Program, body_of}
use Rattle.certificates.specs.declared.cert.CertSection.{CertSection}
use Rattle.section_check.specs.Section.{Certified}
use Rattle.section_check.specs.Renumbering.{RenumberedStaysAccepted}
use Rattle.method_flow.specs.Flow.{Flow, Coded, IsCoded, IsCodedOf, IsFlowOf}
use Rattle.method_flow.specs.Kinds.{CallsAreInvokes, RowsAreOfTheirKinds}
use Rattle.method_flow.specs.Nodes.{IsEdge}
use Rattle.method_flow.specs.Keeping.{BoundOf}
use Rattle.method_flow.specs.declared.timing.Timing.{Timing}
use Rattle.flow_graph.proofs.Joining.{reached_alike}
use Rattle.flow_graph.proofs.Starting.{IsPlaced, body, first_placed, next_placed}
use Rattle.bound_rules.specs.Laws.{CalledFit, ReachesStarts}
use Rattle.bound_rules.specs.Sections.{MeetsSection}
use Rattle.compact_walks.specs.Moving.{IsMoved}
use Rattle.compact_walks.specs.Laws.{GraphsAreMoved, MovedIsRenumbered, MovedReachesExit}
use Rattle.bound_finder.specs.declared.found.Walked.{Walked}
use Rattle.bound_finder.specs.declared.found.Walked.TheVariants.{Never, Shown, Large}
use Rattle.bound_finder.specs.declared.known.Known.{Known}
use Rattle.bound_finder.specs.declared.prepared.Prepared.{Prepared}
use Rattle.bound_finder.specs.declared.fit.Fit.{Fit}
use Rattle.bound_finder.specs.Known.{CalleesAreKnown}
use Rattle.bound_finder.specs.Prepared.{node_of, IsInShape, IsPreparedFor}
use Rattle.bound_finder.specs.Found.{IsWalked, ShowsNumber, found_by, known_by, section_by, section_unless}
use Rattle.bound_finder.specs.ShowLaws.{FoundShows}
use Rattle.bound_finder.proofs.ShowSection.{meets}
use Rattle.bound_finder.proofs.ShowNever.{meets_never}

-- control stays at instructions
reaches_starts : ((code : List ℕ) → AreStarts code) → RowsAreOfTheirKinds → (P : Program) (f : Flow) (m : ℕ) (k : Coded) → IsFlowOf P f → slice_get f.methods m ≡ Some k → IsCoded k → ReachesStarts P m
reaches_starts starts kinds P f m k of is c q r =
    let coded : IsCodedOf P m k = of.methods m k is in
    let placed = reached_alike (IsEdge P m) (IsEdge P m) (IsPlaced k) (first_placed starts kinds P m k c coded) (λ s t at e. (e, next_placed starts kinds P m k c coded s t at e)) r in
    let b = body starts kinds P m k c coded in
    let start : IsStart k.code q = placed.1 in
    some_in (body_of P m) b.0 (λ z. IsStart z.code q) b.1 (subst (λ (xs : List ℕ). IsStart xs q) (sym b.2.0) start)

pub if_shown : (K : CertSection → Type 0) (large : Bool) (s : CertSection) → K s → IfSome (section_unless large s) K
if_shown K true s k = tt
if_shown K false s k = k

section_shows : ((code : List ℕ) → AreStarts code) → RowsAreOfTheirKinds → CallsAreInvokes → CalledFit → RenumberedStaysAccepted → GraphsAreMoved → MovedIsRenumbered → MovedReachesExit
    → (P : Program) (t : Timing) (bound_of : BoundOf) (f : Flow) (k : Coded) (table : List Known) (m : ℕ) (p : Prepared) (fit : Fit) (walked : Walked)
    → IsFlowOf P f → slice_get f.methods m ≡ Some k → IsCoded k → CalleesAreKnown P t table m → IsInShape p → IsPreparedFor P t bound_of table m p → p.fits ≡ fit.fits → IsWalked p walked
    → IfSome (found_by m fit walked).section (ShowsNumber P t bound_of table m (found_by m fit walked).known)
section_shows starts kinds invokes called stays moves renumbers exits P t bound_of f k table m p fit walked of is c ends in_shape h same w = by walked w
  where
    reaches : ReachesStarts P m
    reaches = reaches_starts starts kinds P f m k of is c

    is_moved : IsMoved h.graph p.shape.graph (node_of p.shape)
    is_moved = moves P m h.graph p.shape.graph (node_of p.shape) (inr h.is_live) h.shape.compact

    by : (walked : Walked) → IsWalked p walked → IfSome (found_by m fit walked).section (ShowsNumber P t bound_of table m (found_by m fit walked).known)
    by Never w = λ earlier cover. meets_never invokes P t bound_of table m p reaches ends h earlier w.0 fit.fits (λ reach. w.1 ((exits h.graph p.shape.graph (node_of p.shape) is_moved).1 reach))
    by (Shown value s) w =
        if_shown (ShowsNumber P t bound_of table m (known_by fit value false)) (known_by fit value false).too_large (section_by m fit s)
        (λ earlier cover.
        let one = meets called stays renumbers P t bound_of table m p reaches ends h in_shape is_moved earlier cover w.small fit.fits same w.solution w.shown in
        let other : MeetsSection P t bound_of earlier (section_by m fit s) (Some w.solution.value) = subst (λ (c : Certified). MeetsSection P t bound_of earlier (section_by m fit c) (Some w.solution.value)) (sym w.section_is) one in
        subst (λ (n : ℕ). MeetsSection P t bound_of earlier (section_by m fit s) (Some n)) (sym w.value_is) other)
    by (Large value) w = tt

pub found_shows : ((code : List ℕ) → AreStarts code) → RowsAreOfTheirKinds → CallsAreInvokes → CalledFit → RenumberedStaysAccepted → GraphsAreMoved → MovedIsRenumbered → MovedReachesExit → FoundShows
found_shows starts kinds invokes called stays moves renumbers exits x is =
    section_shows starts kinds invokes called stays moves renumbers exits x.program x.timing x.bound_of x.flow x.coded x.table x.method x.prepared x.fit x.walked
    is.flow is.at is.coded is.callees is.shape is.prepared is.fits is.walked
