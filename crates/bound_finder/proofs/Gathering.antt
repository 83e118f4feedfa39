-- The sections of all that may run while a method does, where no number of them is too large.
use Rattle.std.proofs.Common.{◌≡◌, ◌↔◌, ◌⊎◌, ℕ, zero, suc, ◌<◌, ◌≤◌, Bool, true, false, List, [], ◌∷◌, ◌++◌, length, get_or, Contains, Option, Some, None, refl, sym, ap, ◌∙◌, subst, inl, inr, IsSome, arith}
use Rattle.std.specs.Prelude.{slice_get, IsTrue}
use Rattle.std.proofs.lemmas.Bool.{cases_lt, false_from_ne_true, false≢true}
use Rattle.std.proofs.lemmas.List.{map-append}
use Rattle.std.proofs.lemmas.List.Elements.{Contains-push, Contains-append_left}
use Rattle.std.proofs.lemmas.Option.{slice_get-get_or, get_or_from_slice_get}
use Rattle.section_check.specs.Least.{IsLeast}
use Rattle.bytecode_model.specs.Program.{Program, body_of}
use Rattle.certificates.specs.declared.cert.CertSection.{CertSection}
use Rattle.method_flow.specs.Keeping.{BoundOf}
use Rattle.method_flow.specs.Regions.{load}
use Rattle.method_flow.specs.Regions.IsWithin.{itself, calls}
use Rattle.method_flow.specs.declared.timing.Timing.{Timing}
use Rattle.bound_rules.specs.Conditions.{MeetAll}
use Rattle.bound_rules.specs.Fitting.{RegionFits, loads_of}
use Rattle.bound_rules.specs.Laws.{OneMoreMeets}
use Rattle.bound_rules.specs.Numbers.{IsFull}
use Rattle.bound_rules.specs.Numbers.IsFull.{fits as full_fits, exceeds as full_exceeds}
use Rattle.bound_rules.specs.Told.{Valued, SaysFull, section_value, value_in, with_cycles}
use Rattle.bound_rules.specs.Told.SaysFull.{fits as says_fits, exceeds as says_exceeds}
use Rattle.bound_finder.specs.declared.known.Known.{Known}
use Rattle.bound_finder.specs.Known.{known_at, IsKnownOf}
use Rattle.bound_finder.specs.Laws.{numbers_by}
use Rattle.bound_finder.specs.Found.{Cover, HasSection}
use Rattle.bound_finder.specs.Methods.{values_by}
use Rattle.bound_finder.specs.Ready.{AreBehindCalls}
use Rattle.bound_finder.specs.Ending.{IsLargeWithin, AreSmallWithin, HasSections}
use Rattle.bound_finder.proofs.KnownWithin.{at, among, before, numbers_within}
use Rattle.bound_finder.proofs.MoreFound.{value_found, section_says}

-- ---- the loads beside the value

-- with the loads of all, or those of the method itself
module _ (P : Program) (t : Timing) (table : List Known) (m : ℕ) (values : List Valued) (told : IsTrue (known_at table m).fits ↔ RegionFits P t m) where
  abbrev fits : Bool
  fits = (known_at table m).fits

  abbrev asked : Option ℕ
  asked = (known_at table m).asked

  pub says_by : IsFull P t (numbers_by table) m → (b : Bool) → fits ≡ b → value_in fits m values ≡ Some asked → SaysFull P t values m (Some (known_at table m).full)
  says_by (full_fits together e) b is value =
      let V : Bool → Type 0 = λ c. value_in c m values ≡ Some asked in
      let here : value_in true m values ≡ Some asked = subst V (told.1 together) value in
      says_fits together (ap (λ (o : Option ℕ). Some o) e ∙ ap (with_cycles (loads_of together)) (sym here))
  says_by (full_exceeds apart e) true is value = absurd (apart (told.0 is))
  says_by (full_exceeds apart e) false is value =
      let V : Bool → Type 0 = λ c. value_in c m values ≡ Some asked in
      let here : value_in false m values ≡ Some asked = subst V is value in
      says_exceeds apart (ap (λ (o : Option ℕ). Some o) e ∙ ap (with_cycles (load P t.read m)) (sym here))

-- ---- one behind the other

-- whether a number of them is too large
pub small_cases : (P : Program) (table : List Known) (m : ℕ) (o : Option ℕ) → IsLeast (IsLargeWithin P table m) o → AreSmallWithin P table m ⊎ (¬ AreSmallWithin P table m)
small_cases P table m None least = inl (λ x within. false_from_ne_true (known_at table x).too_large (λ large. least x (within, large)))
small_cases P table m (Some x) least = inr (λ small. false≢true (sym (small x least.0.0) ∙ least.0.1))

-- the sections of some methods, among which are those of an order before this place that have no too large number within
record Gathered (P : Program) (t : Timing) (bound_of : BoundOf) (order : List ℕ) (table : List Known) (n : ℕ) : Type 0 where
  methods : List ℕ
  sections : List CertSection
  meet : MeetAll P t bound_of [] sections (values_by table methods)
  all : (i x : ℕ) → i < n → slice_get order i ≡ Some x → AreSmallWithin P table x → Contains methods x

module _ (one_more : OneMoreMeets) (P : Program) (t : Timing) (bound_of : BoundOf) (order : List ℕ) (table : List Known) (behind : AreBehindCalls P order)
    (known : (x : ℕ) → Contains order x → IsKnownOf P t bound_of table x (known_at table x))
    (shown : (x : ℕ) → Contains order x → (known_at table x).too_large ≡ false → HasSection P t bound_of table x (known_at table x))
    (least : (x : ℕ) → Contains order x → (o : Option ℕ) × IsLeast (IsLargeWithin P table x) o) where
  abbrev Before : ℕ → Type 0
  Before n = Gathered P t bound_of order table n

  -- they say of all that the method at the place may call what is known of it
  covered : (n x : ℕ) → slice_get order n ≡ Some x → AreSmallWithin P table x → (b : Before n) → Cover P table (values_by table b.methods) x
  covered n x is small b y call =
      let j = before P t bound_of order table behind known n x y is call in
      value_found table y b.methods (b.all j.0 y j.1 j.2 (λ z within. small z (calls call.place call.start call.call call.is_target within)))

  -- with the section of the method there
  with_one : (n x : ℕ) → slice_get order n ≡ Some x → AreSmallWithin P table x → Before n → Before (suc n)
  with_one n x is small b =
      let s = shown x (among P t bound_of order table behind known n x is) (small x itself) in
      let says : values_by table (b.methods ++ x ∷ []) ≡ values_by table b.methods ++ section_value s.section (known_at table x).asked ∷ [] =
      map-append (λ (y : ℕ). let V : Valued = record { method = y; inside = (known_at table y).fits; value = (known_at table y).asked } in V) b.methods (x ∷ [])
      ∙ ap (λ (v : Valued). values_by table b.methods ++ v ∷ []) (section_says x (known_at table x) s.section s.of_method) in
      let M : List Valued → Type 0 = λ vs. MeetAll P t bound_of [] (b.sections ++ s.section ∷ []) vs in
      record {
        methods = b.methods ++ x ∷ [];
        sections = b.sections ++ s.section ∷ [];
        meet = subst M (sym says) (one_more P t bound_of [] b.sections (values_by table b.methods) s.section (known_at table x).asked b.meet (s.shows (values_by table b.methods) (covered n x is small b)));
        all = λ i y lt at_i few.
            elim (cases_lt i n) [
              | inl less ↦ Contains-append_left b.methods (x ∷ []) y (b.all i y less at_i few)
              | inr past ↦
                  let here : i ≡ n = omega arith in
                  let same : x ≡ y = sym (get_or_from_slice_get order n x x is) ∙ (sym (ap (λ (k : ℕ). get_or order k x) here) ∙ get_or_from_slice_get order i y x at_i) in
                  let C : ℕ → Type 0 = λ z. Contains (b.methods ++ x ∷ []) z in
                  subst C same (Contains-push b.methods x)
            ];
      }

  -- or without it
  with_none : (n x : ℕ) → slice_get order n ≡ Some x → (AreSmallWithin P table x → ⊥) → Before n → Before (suc n)
  with_none n x is large b = record {
    methods = b.methods;
    sections = b.sections;
    meet = b.meet;
    all = λ i y lt at_i few.
        elim (cases_lt i n) [
          | inl less ↦ b.all i y less at_i few
          | inr past ↦
              let here : i ≡ n = omega arith in
              let same : y ≡ x = sym (get_or_from_slice_get order i y x at_i) ∙ (ap (λ (k : ℕ). get_or order k x) here ∙ get_or_from_slice_get order n x x is) in
              let S : ℕ → Type 0 = λ z. AreSmallWithin P table z in
              absurd (large (subst S same few))
        ];
  }

  gathered : (n : ℕ) → n ≤ length order → Before n
  gathered zero most = record { methods = []; sections = []; meet = refl; all = λ i x lt is few. absurd (omega arith) }
  gathered (suc n) most =
      let x = get_or order n 0 in
      let is : slice_get order n ≡ Some x = slice_get-get_or order n 0 (omega arith) in
      let o = least x (among P t bound_of order table behind known n x is) in
      let b = gathered n (omega arith) in
      elim (small_cases P table x o.0 o.1) [
        | inl small ↦ with_one n x is small b
        | inr large ↦ with_none n x is large b
      ]

  -- ---- of one method

  pub has_sections : (m : ℕ) → Contains order m → AreSmallWithin P table m → HasSections P t bound_of table m
  has_sections m has small =
      let b = gathered (length order) (omega arith) in
      let place = at P t bound_of order table behind known m has in
      let value = value_found table m b.methods (b.all place.0 m place.1 place.2 small) in
      let s = shown m has (small m itself) in
      let cover : Cover P table (values_by table b.methods) m = λ x call.
      let j = before P t bound_of order table behind known place.0 m x place.2 call in
      let lt = j.1 in
      let below = place.1 in
      value_found table x b.methods (b.all j.0 x (omega arith) j.2 (λ y within. small y (calls call.place call.start call.call call.is_target within))) in
      let C : ℕ → Type 0 = λ x. IsSome (body_of P x) in
      let numbers = numbers_within P t bound_of order table behind known m has small in
      record {
        sections = b.sections;
        values = values_by table b.methods;
        meet = b.meet;
        coded = subst C s.of_method.method (s.shows (values_by table b.methods) cover).view.coded;
        says = says_by P t table m (values_by table b.methods) (known m has).told.fits (numbers.full m itself) (known_at table m).fits refl value;
      }
