-- What follows of the rules.
use Rattle.std.specs.Prelude.{◌≡◌, ◌⊎◌, ℕ, ◌*◌, ◌≤◌, Bool, List, [], ◌∷◌, ◌++◌, slice_index, Option, Some, None, IsSome, MatchOption}
use Rattle.loop_nest.specs.Digraph.{Digraph}
use Rattle.loop_nest.specs.Walks.{IsHeader}
use Rattle.loop_nest.specs.Nest.{headers_of}
use Rattle.section_check.specs.Bounded.{BoundedLoop, cost_of}
use Rattle.section_check.specs.Section.{CertifiedLoop}
use Rattle.section_check.specs.Placing.{IsEntryAt}
use Rattle.section_check.specs.Laws.{loops_of}
use Rattle.certificates.specs.declared.cert.CertSection.{CertSection}
use Rattle.certificates.specs.Certificate.{Certificate}
use Rattle.path_solver.specs.Longest.{IterationsExceed}
use Rattle.bytecode_model.specs.Program.{Program, body_of}
use Rattle.bytecode_typing.specs.Lawful.{Lawful}
use Rattle.method_flow.specs.Nodes.{Node, At, number_of, IsEdge, IsReached}
use Rattle.method_flow.specs.Calls.{IsStartOf}
use Rattle.method_flow.specs.Live.{CanEnd, IsLiveEdge, LiveWalk}
use Rattle.method_flow.specs.Graphs.{IsGraphBy, IsGraphOf, IsLiveGraph}
use Rattle.method_flow.specs.Keeping.{BoundOf, WalkKeeps}
use Rattle.method_flow.specs.Regions.{IsWithin}
use Rattle.method_flow.specs.Recursion.{MayCall}
use Rattle.method_flow.specs.declared.timing.Timing.{Timing}
use Rattle.method_flow.specs.Costs.{IsPrintedOf}
use Rattle.bound_rules.specs.declared.faults.CheckFault.{CheckFault}
use Rattle.bound_rules.specs.Costs.{AreCosts}
use Rattle.bound_rules.specs.Fitting.{RegionFits}
use Rattle.bound_rules.specs.Numbers.{Numbers, LiveNest, charged_loops, AreCharged, IsGreatestValue, AreNumbers, IsPrinted}
use Rattle.bound_rules.specs.Told.{Valued, section_value, value_in, TargetValues}
use Rattle.bound_rules.specs.Sections.{IsSectionEdge, IsSectionNode, MeetsSection, section_bounds}
use Rattle.bound_rules.specs.Conditions.{MeetAll, MeetsConditions}
use Rattle.bound_rules.specs.Refused.{IsCertRefused}
use Rattle.bound_rules.specs.Met.{AreMet}

-- ---- sections

-- the sections of a certificate that all meet their conditions are sections that meet them one behind another
abbrev pub AllAreMet : Type 0
AllAreMet = (P : Program) (t : Timing) (bound_of : BoundOf) (earlier : List Valued) (ss : List CertSection) (values : List Valued) → AreMet P t bound_of earlier
    → MeetAll P t bound_of earlier ss values
    → AreMet P t bound_of values

-- with one more behind them that meets its conditions, they all meet theirs
abbrev pub OneMoreMeets : Type 0
OneMoreMeets =
    (P : Program) (t : Timing) (bound_of : BoundOf) (earlier : List Valued) (ss : List CertSection) (values : List Valued) (s : CertSection) (value : Option ℕ)
    → MeetAll P t bound_of earlier ss values
    → MeetsSection P t bound_of values s value → MeetAll P t bound_of earlier (ss ++ s ∷ []) (values ++ section_value s value ∷ [])

-- the header of a loop of such a section is an instruction, and the loop has the bound that is given for it
abbrev pub HeadersHaveBounds : Type 0
HeadersHaveBounds =
    (P : Program) (t : Timing) (bound_of : BoundOf) (earlier : List Valued) (s : CertSection) (value : Option ℕ) → MeetsSection P t bound_of earlier s value
    → (i : ℕ) (l : CertifiedLoop) → IsEntryAt s.section.loops i l
    → (p : ℕ) × (l.header ≡ 2 * p) × (bound_of s.method p ≡ Some (slice_index (section_bounds bound_of s) i))

-- ---- runs

-- a method whose section has no value can't end
abbrev pub NoValueNoEnd : Type 0
NoValueNoEnd = (P : Program) (t : Timing) (bound_of : BoundOf) (earlier : List Valued) (s : CertSection) → AreMet P t bound_of earlier
    → MeetsSection P t bound_of earlier s None → ¬ CanEnd P s.method

-- from a node of the section's graph, each edge that a run can take is one of that graph
abbrev pub LiveEdgesStay : Type 0
LiveEdgesStay =
    (P : Program) (t : Timing) (bound_of : BoundOf) (earlier : List Valued) (s : CertSection) (value : Option ℕ) → AreMet P t bound_of earlier
    → (h : MeetsSection P t bound_of earlier s value)
    → (u v : Node) → IsSectionNode P s.method h.view.told u → IsLiveEdge P s.method u v → IsSectionEdge P s.method h.view.told u v

-- What a walk costs that a run can take, from the first instruction to an exit, is at most the section's value where it keeps the bounds that are
-- given. Where the section has no value, there is no such walk.
abbrev pub SectionsBoundWalks : Type 0
SectionsBoundWalks =
    (P : Program) (t : Timing) (bound_of : BoundOf) (earlier : List Valued) (s : CertSection) (value : Option ℕ) → AreMet P t bound_of earlier
    → (h : MeetsSection P t bound_of earlier s value)
    → (g : Digraph) → IsLiveGraph P s.method g → (ns : List ℕ) → LiveWalk P s.method (At 0) ns → WalkKeeps P bound_of s.method ns
    → MatchOption value ⊥ (λ most. cost_of h.view.costs (loops_of s.section (section_bounds bound_of s) h.view.fees) ns ≤ most)

-- ---- programs

-- what may run while a method with code does has code
abbrev pub MethodsHaveCode : Type 0
MethodsHaveCode = (P : Program) → Lawful P → (m x : ℕ) → IsSome (body_of P m) → IsWithin P m x → IsSome (body_of P x)

-- ---- numbers

-- which of these loops are charged is told by it, too
abbrev pub ChargesAreOne : Type 0
ChargesAreOne =
    (P : Program) (t : Timing) (bound_of : BoundOf) (m : ℕ) (a b : LiveNest P bound_of m) (flags others : List Bool) → AreCharged P t m a.nest flags
    → AreCharged P t m b.nest others → flags ≡ others

-- costs that agree at each node that a run can come to
abbrev pub AgreeOnLive : Program → (method : ℕ) → (costs others : List ℕ) → Type 0
AgreeOnLive P m costs others = (u : Node) → IsReached (IsLiveEdge P m) u → slice_index costs (number_of u) ≡ slice_index others (number_of u)

-- the costs of these nodes are told by what is added at their places
abbrev pub CostsAreTold : Type 0
CostsAreTold =
    (P : Program) (t : Timing) (m : ℕ) (adds others : ℕ → ℕ) (g : Digraph) (a b : List ℕ) → AreCosts P t m (IsLiveEdge P m) adds g a
    → AreCosts P t m (IsLiveEdge P m) others g b
    → ((p : ℕ) → IsReached (IsLiveEdge P m) (At p) → adds p ≡ others p) → AgreeOnLive P m a b

-- the value of a method's live graph is told by them
abbrev pub ValuesAreTold : Type 0
ValuesAreTold =
    (P : Program) (m : ℕ) (g : Digraph) (costs others : List ℕ) (loops : List BoundedLoop) (a b : Option ℕ) → IsLiveGraph P m g → AgreeOnLive P m costs others
    → IsGreatestValue g costs loops a → IsGreatestValue g others loops b
    → a ≡ b

-- and so is whether iterations of its loops exceed 64 bits together
abbrev pub IterationsAreTold : Type 0
IterationsAreTold =
    (P : Program) (bound_of : BoundOf) (m : ℕ) (flow : LiveNest P bound_of m) (costs others fees : List ℕ) → AgreeOnLive P m costs others
    → IterationsExceed flow.graph costs (charged_loops flow fees)
    → IterationsExceed flow.graph others (charged_loops flow fees)

-- where all that may run while a method does fits the cache together, it can't be that what runs while one does that it calls doesn't
abbrev pub CalledFit : Type 0
CalledFit = (P : Program) (t : Timing) (m x : ℕ) → RegionFits P t m → MayCall P m x → ¬ ¬ RegionFits P t x

-- control comes from the first instruction to instructions of the code alone, and not into the middle of one
abbrev pub ReachesStarts : Program → (method : ℕ) → Type 0
ReachesStarts P m = (p : ℕ) → IsReached (IsEdge P m) (At p) → IsStartOf P m p

-- each chain of calls from the method comes to an end
pub data CallsEnd (P : Program) : ℕ → Type 0 where
  ends : {m : ℕ} → ((t : ℕ) → MayCall P m t → CallsEnd P t) → CallsEnd P m

-- two families of numbers agree on a method, as far as these are asked
pub record AreSameOf (P : Program) (t : Timing) (N M : Numbers) (m : ℕ) : Type 0 where
  pub inside : RegionFits P t m → N.inside m ≡ M.inside m
  pub loops : ¬ RegionFits P t m → N.loops m ≡ M.loops m
  pub full : N.full m ≡ M.full m

-- a method whose calls end has one family of numbers
abbrev pub NumbersAreOne : Type 0
NumbersAreOne =
    (P : Program) (t : Timing) (bound_of : BoundOf) (root : ℕ) (N M : Numbers) → CallsEnd P root → ((m : ℕ) → IsWithin P root m → ReachesStarts P m)
    → AreNumbers P t bound_of root N → AreNumbers P t bound_of root M
    → (m : ℕ) → IsWithin P root m → AreSameOf P t N M m

-- so one number is printed of it
abbrev pub PrintedIsOne : Type 0
PrintedIsOne =
    (P : Program) (t : Timing) (bound_of : BoundOf) (root : ℕ) (a b : Option ℕ) → CallsEnd P root → ((m : ℕ) → IsWithin P root m → ReachesStarts P m)
    → IsPrinted P t bound_of root a → IsPrinted P t bound_of root b
    → a ≡ b

-- what is printed of a method is told by its number with all loads
abbrev pub PrintedIsTold : Type 0
PrintedIsTold = (P : Program) (t : Timing) (full a b : Option ℕ) → IsPrintedOf P t full a → IsPrintedOf P t full b → a ≡ b

-- ---- graphs

-- a method has one graph, one live graph, and by what its invokes are told one section graph
abbrev pub GraphsAreOne : Type 0
GraphsAreOne = (P : Program) (m : ℕ) (g h : Digraph) → IsGraphOf P m g → IsGraphOf P m h → g ≡ h

abbrev pub LiveGraphsAreOne : Type 0
LiveGraphsAreOne = (P : Program) (m : ℕ) (g h : Digraph) → IsLiveGraph P m g → IsLiveGraph P m h → g ≡ h

abbrev pub SectionGraphsAreOne : Type 0
SectionGraphsAreOne = (P : Program) (m : ℕ) (told : TargetValues) (g h : Digraph) → IsGraphBy (IsSectionEdge P m told) P m g
    → IsGraphBy (IsSectionEdge P m told) P m h → g ≡ h

-- the headers of their loops are instructions, so that a bound can be given for each
abbrev pub HeadersAreInstructions : Type 0
HeadersAreInstructions = (P : Program) (m : ℕ) (g : Digraph) (h : ℕ) → IsGraphOf P m g ⊎ IsLiveGraph P m g → IsHeader g h → (p : ℕ) × (h ≡ 2 * p)

-- the loops of a method's live graph are told by it, with their bounds and whatever they are charged, in the order of their headers
abbrev pub ChargedLoopsAreOne : Type 0
ChargedLoopsAreOne =
    (P : Program) (bound_of : BoundOf) (m : ℕ) (a b : LiveNest P bound_of m) (fees : List ℕ)
    → (headers_of a.nest ≡ headers_of b.nest) × (charged_loops a fees ≡ charged_loops b fees)

-- ---- refusals

-- a certificate has one fault at most
abbrev pub FaultsAreOne : Type 0
FaultsAreOne =
    (P : Program) (t : Timing) (bound_of : BoundOf) (c : Certificate) (a b : CheckFault)
    → IsCertRefused P t bound_of c a → IsCertRefused P t bound_of c b → a ≡ b

-- and none where it meets the conditions
abbrev pub RefusedIsNotMet : Type 0
RefusedIsNotMet = (P : Program) (t : Timing) (bound_of : BoundOf) (c : Certificate) (fault : CheckFault) → IsCertRefused P t bound_of c fault
    → ¬ MeetsConditions P t bound_of c
