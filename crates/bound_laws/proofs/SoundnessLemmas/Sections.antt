-- Supported sections of a method, by what the values say.
use Rattle.std.proofs.Common.{◌≡◌, ℕ, ◌+◌, ◌*◌, ◌≤◌, Bool, true, false, List, ◌∷◌, Option, Some, None, IsSome, refl, sym, ◌∙◌, subst, inl, inr, arith}
use Rattle.section_check.specs.Bounded.{cost_of}
use Rattle.section_check.specs.Section.{Certified}
use Rattle.section_check.specs.Laws.{loops_of}
use Rattle.certificates.specs.declared.lines.line.SectionKind.{SectionKind}
use Rattle.certificates.specs.declared.cert.CertSection.{CertSection}
use Rattle.certificates.specs.Certificate.{is_inside}
use Rattle.lists.specs.Members.{has_or_not}
use Rattle.bound_laws.specs.Soundness.Charges.{Charges, AreCharged, start_fee, charge_of}
use Rattle.bound_laws.specs.Soundness.Stays.{EntersNone}
use Rattle.bytecode_model.specs.Program.{Program, body_of}
use Rattle.method_flow.specs.Nodes.{Node, At, number_of}
use Rattle.method_flow.specs.Nodes.IsReached.{later}
use Rattle.method_flow.specs.Calls.{IsCall, IsTarget}
use Rattle.method_flow.specs.Live.{CanEnd, IsLiveEdge}
use Rattle.method_flow.specs.Keeping.{BoundOf}
use Rattle.method_flow.specs.declared.timing.Timing.{Timing}
use Rattle.method_flow.specs.Regions.{IsWithinNodes, load}
use Rattle.bound_rules.specs.Fitting.{loads_of}
use Rattle.bound_rules.specs.Told.{Valued, value_in, SaysFull, SaysCalled, is_without_loads}
use Rattle.bound_rules.specs.Told.SaysFull.{fits, exceeds}
use Rattle.bound_rules.specs.Sections.{IsSectionEdge, IsSectionNode, section_bounds}
use Rattle.activations.specs.Setting.{Setting}
use Rattle.bound_laws.proofs.SoundnessLemmas.Supported.{IsSupported, AreSupported, section_of}
use Rattle.bound_laws.proofs.SoundnessLemmas.Known.{Known, keyed, nodes_coded}
use Rattle.bound_laws.proofs.SoundnessLemmas.Charged.{charges, region_at, region_of_is, are_charged, all_charged}
use Rattle.bound_laws.proofs.SoundnessLemmas.Inside.{never_said, never_without, number_said, number_without}

module _ (g : Setting) (k : Known g) (t : Timing) (bound_of : BoundOf) (Keep : ℕ → List ℕ → Type 0) where
  abbrev P : Program
  P = g.program

  -- a section of the method, inside or of another kind, that has this value, behind others that are supported
  pub record SectionOf (inside : Bool) (m : ℕ) (value : Option ℕ) : Type 0 where
    pub earlier : List Valued
    pub met : AreSupported P t bound_of Keep earlier
    pub kind : SectionKind
    pub is_kind : is_inside kind ≡ inside
    pub certified : Certified
    pub meets : IsSupported P t bound_of Keep earlier (record { kind = kind; method = m; section = certified }) value

  abbrev pub as_section : {inside : Bool} {m : ℕ} {value : Option ℕ} → SectionOf inside m value → CertSection
  as_section {inside} {m} {value} s = record { kind = s.kind; method = m; section = s.certified }

  pub find : (earlier : List Valued) → AreSupported P t bound_of Keep earlier → (inside : Bool) (m : ℕ) (value : Option ℕ) → value_in inside m earlier ≡ Some value → SectionOf inside m value
  find earlier met inside m value e =
      let f = section_of met inside m value e in
      record {
        earlier = f.earlier;
        met = f.supported;
        kind = f.section.kind;
        is_kind = f.kind;
        certified = f.section.section;
        meets = subst (λ (y : ℕ). IsSupported P t bound_of Keep f.earlier (record { kind = f.section.kind; method = y; section = f.section.section }) value) f.method f.meets;
      }

  -- ---- the nodes of a section

  abbrev pub NodeIn : {inside : Bool} {m : ℕ} {value : Option ℕ} → SectionOf inside m value → Node → Type 0
  NodeIn {inside} {m} {value} s u = IsSectionNode P m s.meets.view.told u

  pub section_edge : {inside : Bool} {m : ℕ} {value : Option ℕ} (s : SectionOf inside m value) (u v : Node) → NodeIn s u → IsLiveEdge P m u v → IsSectionEdge P m s.meets.view.told u v
  section_edge {inside} {m} {value} s u v reached e = s.meets.edges u v reached e

  pub later_node : {inside : Bool} {m : ℕ} {value : Option ℕ} (s : SectionOf inside m value) (u v : Node) → NodeIn s u → IsLiveEdge P m u v → NodeIn s v
  later_node s u v reached e = later reached (section_edge s u v reached e)

  -- ---- a target that can end is not told that it never does

  none_found : (earlier : List Valued) → AreSupported P t bound_of Keep earlier → (inside : Bool) (x : ℕ) → CanEnd P x → value_in inside x earlier ≡ Some None → ⊥
  none_found earlier met inside x ended none = let s = find earlier met inside x None none in s.meets.ends refl ended

  pub full_some : (earlier : List Valued) → AreSupported P t bound_of Keep earlier → (x : ℕ) (said : Option (Option ℕ)) → SaysFull P t earlier x said → CanEnd P x → said ≡ Some None → ⊥
  full_some earlier met x said (fits together is) ended none = none_found earlier met true x ended (never_without (loads_of together) (value_in true x earlier) (sym is ∙ none))
  full_some earlier met x said (exceeds not is) ended none = none_found earlier met false x ended (never_without (load P t.read x) (value_in false x earlier) (sym is ∙ none))

  called_some : (earlier : List Valued) → AreSupported P t bound_of Keep earlier → (without_loads : Bool) (m x : ℕ) (said : Option (Option ℕ)) → SaysCalled P t earlier without_loads m x said → CanEnd P x → said ≡ Some None → ⊥
  called_some earlier met true m x said says ended none = none_found earlier met true x ended (sym says ∙ none)
  called_some earlier met false m x said (full, says, is) ended none = full_some earlier met x full says ended (never_without (load P t.read m) full (sym is ∙ none))

  pub told_some : {inside : Bool} {m : ℕ} {value : Option ℕ} (s : SectionOf inside m value) (p x : ℕ) → NodeIn s (At p) → IsCall P m p → IsTarget P m p x → CanEnd P x → s.meets.view.told p x ≡ Some None → ⊥
  told_some {inside} {m} {value} s p x reached call target ended none =
      let told = s.meets.view.are_told p x reached call target in
      called_some s.earlier s.met (is_without_loads (as_section s) p) m x told.said told.says ended (never_said told.own told.said (sym told.is ∙ none))

  -- ---- a number that it is told is that of a section

  pub told_inside : {inside : Bool} {m : ℕ} {value : Option ℕ} (s : SectionOf inside m value) (p x n : ℕ) → NodeIn s (At p) → IsCall P m p → IsTarget P m p x → is_without_loads (as_section s) p ≡ true
      → s.meets.view.told p x ≡ Some (Some n) → SectionOf true x (Some n)
  told_inside {inside} {m} {value} s p x n reached call target without is =
      let told = s.meets.view.are_told p x reached call target in
      let says : SaysCalled P t s.earlier true m x told.said = subst (λ (b : Bool). SaysCalled P t s.earlier b m x told.said) without told.says in
      find s.earlier s.met true x (Some n) (sym says ∙ number_said told.own told.said n (sym told.is ∙ is))

  -- or with all loads, and that of the caller
  pub record FullWithLoad (earlier : List Valued) (m x n : ℕ) : Type 0 where
    pub full : ℕ
    pub says : SaysFull P t earlier x (Some (Some full))
    pub is : n ≡ full + load P t.read m

  pub told_full : {inside : Bool} {m : ℕ} {value : Option ℕ} (s : SectionOf inside m value) (p x n : ℕ) → NodeIn s (At p) → IsCall P m p → IsTarget P m p x → is_without_loads (as_section s) p ≡ false
      → s.meets.view.told p x ≡ Some (Some n) → FullWithLoad s.earlier m x n
  told_full {inside} {m} {value} s p x n reached call target with_loads is =
      let told = s.meets.view.are_told p x reached call target in
      let says : SaysCalled P t s.earlier false m x told.said = subst (λ (b : Bool). SaysCalled P t s.earlier b m x told.said) with_loads told.says in
      let v = number_without (load P t.read m) says.0 n (sym says.2 ∙ number_said told.own told.said n (sym told.is ∙ is)) in
      record { full = v.0; says = subst (λ (o : Option (Option ℕ)). SaysFull P t s.earlier x o) v.1 says.1; is = v.2 }

  -- ---- what its nodes, edges and regions are charged

  abbrev pub charges_of : {inside : Bool} {m : ℕ} {value : Option ℕ} → SectionOf inside m value → Charges
  charges_of {inside} {m} {value} s =
      charges k.section_laws P t k.words (λ x. g.places.method x) (keyed g k) bound_of Keep s.earlier (as_section s) value s.meets (λ x nodes within. nodes_coded g k m x nodes s.meets.view.coded within)

  -- An edge to a raise step enters no region: it would come to the region's header, and that is an instruction.
  pub enters_none : {inside : Bool} {m : ℕ} {value : Option ℕ} (s : SectionOf inside m value) (u v : Node) (q : ℕ) → number_of v ≡ 2 * q + 1 → NodeIn s u → IsLiveEdge P m u v
      → EntersNone (charges_of s) (number_of u) (number_of v)
  enters_none {inside} {m} {value} s u v q odd reached e l at =
      let coded : (x : ℕ) (nodes : List ℕ) → IsWithinNodes P m nodes x → IsSome (body_of P x) = λ x nodes within. nodes_coded g k m x nodes s.meets.view.coded within in
      let r = region_at k.section_laws P t k.words (λ x. g.places.method x) (keyed g k) bound_of Keep s.earlier (as_section s) value s.meets coded l (number_of v) at in
      let edge = (s.meets.view.is_graph.edges (number_of u) (number_of v)).1 (record { source = u; target = v; reached = reached; edge = section_edge s u v reached e; numbered = (refl, refl) }) in
      elim (has_or_not r.loop.members (number_of u)) [
        | inl held ↦
            region_of_is k.section_laws P t k.words (λ x. g.places.method x) (keyed g k) bound_of Keep s.earlier (as_section s) value s.meets coded l (number_of u)
            (record { loop = r.loop; at = r.at; region = r.region; inside = held })
        | inr not_held ↦
            let even = (s.meets.headers l r.loop r.at).1 in
            let at_header =
            k.section_laws.entered s.meets.view.graph s.certified (section_bounds bound_of (as_section s)) s.meets.view.fees s.meets.placed r.loop (number_of u) (number_of v)
            (l, r.at.0, r.at.1) edge r.inside not_held
            in
            absurd (omega arith)
      ]

  -- the same by the numbers of the nodes
  pub enters_none_at : {inside : Bool} {m : ℕ} {value : Option ℕ} (s : SectionOf inside m value) (u v : Node) (n x q : ℕ) → n ≡ number_of u → x ≡ number_of v → x ≡ 2 * q + 1 → NodeIn s u → IsLiveEdge P m u v
      → EntersNone (charges_of s) n x
  enters_none_at s u v n x q n_is x_is odd reached e =
      let C = charges_of s in
      let V : ℕ → Type 0 = λ z. EntersNone C n z in
      let U : ℕ → Type 0 = λ z. EntersNone C z (number_of v) in
      subst V (sym x_is) (subst U (sym n_is) (enters_none s u v q (sym x_is ∙ odd) reached e))

  pub charged : {inside : Bool} {m : ℕ} {value : Option ℕ} (s : SectionOf inside m value) → AreCharged (charges_of s)
  charged {inside} {m} {value} s =
      are_charged k.section_laws P t k.words (λ x. g.places.method x) (keyed g k) bound_of Keep s.earlier (as_section s) value s.meets (λ x nodes within. nodes_coded g k m x nodes s.meets.view.coded within)

  pub charged_at_most : {inside : Bool} {m : ℕ} {value : Option ℕ} (s : SectionOf inside m value) (u : ℕ) (vs : List ℕ)
      → start_fee (charges_of s) ((charges_of s).region_of u) + charge_of (charges_of s) u vs ≤ cost_of s.meets.view.costs (loops_of s.certified (section_bounds bound_of (as_section s)) s.meets.view.fees) (u ∷ vs)
  charged_at_most {inside} {m} {value} s u vs =
      all_charged k.section_laws P t k.words (λ x. g.places.method x) (keyed g k) bound_of Keep s.earlier (as_section s) value s.meets (λ x nodes within. nodes_coded g k m x nodes s.meets.view.coded within) u vs
