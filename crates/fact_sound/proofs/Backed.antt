-- Sections whose values, with what visits give back by prices in the root, bound what walks of their methods cost.
use Rattle.std.proofs.Common.{◌≡◌, ℕ, ◌+◌, ◌≤◌, ◌==◌, Bool, true, false, List, [], ◌∷◌, ◌++◌, Option, Some, None, MatchOption, sum_by, refl, sym, ap, ◌∙◌, subst, eqb-true}
use Rattle.std.specs.Prelude.{if◌then◌else◌, ◌&&◌}
use Rattle.std.specs.Option.{option_or}
use Rattle.lists.specs.Tests.{and_left, and_right, not_true}
use Rattle.loop_nest.specs.Digraph.{Digraph}
use Rattle.section_check.specs.Bounded.{cost_of}
use Rattle.section_check.specs.Laws.{loops_of}
use Rattle.certificates.specs.declared.cert.CertSection.{CertSection}
use Rattle.certificates.specs.Certificate.{is_inside}
use Rattle.bytecode_model.specs.Program.{Program}
use Rattle.method_flow.specs.Nodes.{At}
use Rattle.method_flow.specs.Calls.{IsCall, IsTarget}
use Rattle.method_flow.specs.Live.{LiveWalk}
use Rattle.method_flow.specs.Graphs.{IsLiveGraph}
use Rattle.method_flow.specs.Keeping.{BoundOf}
use Rattle.method_flow.specs.declared.timing.Timing.{Timing}
use Rattle.bound_rules.specs.Told.{Valued, section_value, is_same, value_in, SaysCalled, is_without_loads}
use Rattle.bound_rules.specs.Sections.{section_bounds}
use Rattle.cert_checker.proofs.Valuing.{said_by, value_in-push}
use Rattle.activations.specs.Setting.{Setting}
use Rattle.bound_laws.proofs.SoundnessLemmas.Supported.{IsSupported, AreSupported}
use Rattle.bound_laws.proofs.SoundnessLemmas.Supported.AreSupported.{nothing as none_supported, one_more as one_more_supported}
use Rattle.bound_laws.proofs.SoundnessLemmas.Known.{Known}
use Rattle.bound_laws.proofs.SoundnessLemmas.Inside.{number_said}
use Rattle.bound_laws.proofs.SoundnessLemmas.Sections.{SectionOf, as_section, NodeIn}

-- no walk keeps this: of a section that is supported where it is asked of walks all is known but what walks cost
abbrev pub Never : (method : ℕ) → List ℕ → Type 0
Never m ns = ⊥

-- ---- what is asked of walks, and what they give back

-- what is asked of the walks of methods, and what a visit of a node of a method gives back
pub record Asked : Type 1 where
  pub keep : (method : ℕ) → List ℕ → Type 0
  pub credit : (method node : ℕ) → ℕ

same_is : (a b : Bool) → is_same a b ≡ true → b ≡ a
same_is true b e = e
same_is false b e = not_true b e

-- one value says this of the method
said : (inside : Bool) (m : ℕ) (w : Valued) (x : Option ℕ) → said_by inside m w ≡ Some x → (w.method ≡ m) × (w.inside ≡ inside) × (w.value ≡ x)
said inside m w x e = by (is_same inside w.inside && w.method == m) refl e
  where
    by : (b : Bool) → (is_same inside w.inside && w.method == m) ≡ b → ◌≡◌ {A = Option (Option ℕ)} (if b then Some w.value else None) (Some x) → (w.method ≡ m) × (w.inside ≡ inside) × (w.value ≡ x)
    by true is e' = (eqb-true w.method m (and_right (is_same inside w.inside) (w.method == m) is), same_is inside w.inside (and_left (is_same inside w.inside) (w.method == m) is), cc)
    by false is e' = absurd (cc)

module _ (P : Program) (t : Timing) (bound_of : BoundOf) (ask : Asked) where
  -- what a walk costs that a run can take and that keeps what is asked is at most the value, with what its visits give back
  abbrev pub BoundsWalks : (earlier : List Valued) (s : CertSection) (value : Option ℕ) → IsSupported P t bound_of Never earlier s value → Type 0
  BoundsWalks earlier s value h =
      (g : Digraph) → IsLiveGraph P s.method g → (ns : List ℕ) → LiveWalk P s.method (At 0) ns → ask.keep s.method ns
      → MatchOption value ⊥ (λ most. cost_of h.view.costs (loops_of s.section (section_bounds bound_of s) h.view.fees) ns ≤ most + sum_by (ask.credit s.method) ns)

  abbrev pub IsBacked : (earlier : List Valued) (s : CertSection) (value : Option ℕ) → Type 0
  IsBacked earlier s value = (h : IsSupported P t bound_of Never earlier s value) × BoundsWalks earlier s value h

  -- the values of sections each of which is so, behind those before it
  pub data AreBacked : List Valued → Type 0 where
    nothing : AreBacked []
    one_more : {earlier : List Valued} → AreBacked earlier → (s : CertSection) (value : Option ℕ) → IsBacked earlier s value → AreBacked (earlier ++ section_value s value ∷ [])

  -- such a section of the method, inside or of another kind, that has this value
  pub record IsBackedBy (inside : Bool) (m : ℕ) (value : Option ℕ) : Type 0 where
    pub earlier : List Valued
    pub backed : AreBacked earlier
    pub section : CertSection
    pub meets : IsBacked earlier section value
    pub method : section.method ≡ m
    pub kind : is_inside section.kind ≡ inside

  -- a value among theirs is that of one of them
  pub section_of : {earlier : List Valued} → AreBacked earlier → (inside : Bool) (m : ℕ) (value : Option ℕ) → value_in inside m earlier ≡ Some value → IsBackedBy inside m value
  section_of nothing inside m value e = absurd (cc)
  section_of (one_more {earlier} before s x meets) inside m value e =
      by (value_in inside m earlier) refl (sym (value_in-push inside m earlier (section_value s x)) ∙ e) (section_of before inside m value)
    where
      by : (o : Option (Option ℕ)) → value_in inside m earlier ≡ o → option_or (value_in inside m earlier) (said_by inside m (section_value s x)) ≡ Some value
          → (value_in inside m earlier ≡ Some value → IsBackedBy inside m value) → IsBackedBy inside m value
      by (Some y) is e' there = there (is ∙ (ap (λ (o : Option (Option ℕ)). option_or o (said_by inside m (section_value s x))) (sym is) ∙ e'))
      by None is e' there =
          let its = said inside m (section_value s x) value (ap (λ (o : Option (Option ℕ)). option_or o (said_by inside m (section_value s x))) (sym is) ∙ e') in
          record {
            earlier = earlier;
            backed = before;
            section = s;
            meets = subst (λ (o : Option ℕ). IsBacked earlier s o) its.2 meets;
            method = its.0;
            kind = its.1;
          }

  pub are_supported : {earlier : List Valued} → AreBacked earlier → AreSupported P t bound_of Never earlier
  are_supported nothing = none_supported
  are_supported (one_more before s value meets) = one_more_supported (are_supported before) s value meets.0

-- ---- sections of a method

module _ (g : Setting) (k : Known g) (t : Timing) (bound_of : BoundOf) (ask : Asked) where
  -- a section of the method, inside or of another kind, that has this value, behind others
  pub record BackedSection (inside : Bool) (m : ℕ) (value : Option ℕ) : Type 0 where
    pub plain : SectionOf g k t bound_of Never inside m value
    pub backed : AreBacked g.program t bound_of ask plain.earlier
    pub bounds : BoundsWalks g.program t bound_of ask plain.earlier (as_section g k t bound_of Never plain) value plain.meets

  pub find : (earlier : List Valued) → AreBacked g.program t bound_of ask earlier → (inside : Bool) (m : ℕ) (value : Option ℕ) → value_in inside m earlier ≡ Some value → BackedSection inside m value
  find earlier backed inside m value e =
      let f = section_of g.program t bound_of ask backed inside m value e in
      let its =
      subst (λ (y : ℕ). IsBacked g.program t bound_of ask f.earlier (record { kind = f.section.kind; method = y; section = f.section.section }) value) f.method f.meets
      in
      record {
        plain = record {
          earlier = f.earlier;
          met = are_supported g.program t bound_of ask f.backed;
          kind = f.section.kind;
          is_kind = f.kind;
          certified = f.section.section;
          meets = its.0;
        };
        backed = f.backed;
        bounds = its.1;
      }

  -- a number that an invoke is told without loads is that of a section inside
  pub told_inside : {inside : Bool} {m : ℕ} {value : Option ℕ} (s : BackedSection inside m value) (p x n : ℕ) → NodeIn g k t bound_of Never s.plain (At p) → IsCall g.program m p → IsTarget g.program m p x
      → is_without_loads (as_section g k t bound_of Never s.plain) p ≡ true → s.plain.meets.view.told p x ≡ Some (Some n) → BackedSection true x (Some n)
  told_inside {inside} {m} {value} s p x n reached call target without is =
      let told = s.plain.meets.view.are_told p x reached call target in
      let says : SaysCalled g.program t s.plain.earlier true m x told.said = subst (λ (b : Bool). SaysCalled g.program t s.plain.earlier b m x told.said) without told.says in
      find s.plain.earlier s.backed true x (Some n) (sym says ∙ number_said told.own told.said n (sym told.is ∙ is))
