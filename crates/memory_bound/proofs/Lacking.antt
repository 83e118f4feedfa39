-- Which instructions make arrays of no length.
use Rattle.std.proofs.Common.{◌≡◌, ℕ, ◌*◌, ◌/◌, ◌<◌, ◌≤◌, Bool, true, false, List, length, get_or, Contains, Option, Some, None, refl, sym, ap, ◌∙◌, subst, inl, inr, arith, ℤ}
use Rattle.std.specs.Prelude.{is_some, not}
use Rattle.std.specs.List.Sorted.{IsStrictlyIncreasing}
use Rattle.std.proofs.lemmas.Bool.{cases_lt, false≢true}
use Rattle.lists.proofs.Lemmas.{some_same}
use Rattle.lists.specs.Members.{contains_at, place_of, rising_all}
use Rattle.bytecode_model.specs.Program.{Program}
use Rattle.method_flow.specs.Flow.{IsFlowOf}
use Rattle.method_flow.specs.Keeping.{BoundOf}
use Rattle.code_lines.proofs.Reading.{lines_are_one}
use Rattle.memory_rules.specs.declared.sites.Makes.{Makes}
use Rattle.memory_rules.specs.declared.sites.Makes.TheVariants.{Object, Array}
use Rattle.memory_rules.specs.Heap.{Made, AnObject, AnArray, made_by}
use Rattle.memory_rules.specs.Given.{MakesArrays}
use Rattle.memory_rules.specs.Sites.{MethodNeeds, IsMadeAt, IsToldAs, IsSiteOf, AreNeedsOf, AreSitesOf}
use Rattle.memory_bound.specs.Setting.{NeedSetting, sites_of}
use Rattle.memory_bound.specs.Found.{HasArrayLength, IsUnlimited}
use Rattle.memory_bound.specs.Lengths.{AreOn, IsFirstAmong, IsReachedIn, TellsLength, TellsNode, lacks_constant}
use Rattle.memory_bound.proofs.Sited.{has_needs, made_in}

-- ---- an instruction

module _ (P : Program) (lengths : BoundOf) (m p : ℕ) (k : MethodNeeds) (needs : AreNeedsOf P m k) where
  -- what the site at the place tells is what the instruction there makes
  array_told : (told : Makes) → Contains k.sites (record { place = p; makes = told }) → (arrays : MakesArrays P m p) → IsToldAs P m p (AnArray arrays.element) told
  array_told told has arrays =
      let site = needs.only (record { place = p; makes = told }) has in
      let same : arrays.row ≡ site.row = (lines_are_one P m p arrays.next site.next arrays.row site.row arrays.line site.line).1 in
      let made : AnArray arrays.element ≡ site.made = some_same (AnArray arrays.element) site.made (sym arrays.makes ∙ (ap (made_by P) same ∙ site.makes)) in
      subst (λ (x : Made). IsToldAs P m p x told) (sym made) site.told

  -- one that makes no arrays, or whose arrays have a constant length
  no_site : IsMadeAt k.sites p None → HasArrayLength P lengths m p
  no_site none arrays = absurd (none (needs.each p arrays.next arrays.row (AnArray arrays.element) arrays.line arrays.makes))

  object_site : (words : ℕ) → Contains k.sites (record { place = p; makes = Object words }) → HasArrayLength P lengths m p
  object_site words has arrays = absurd (array_told (Object words) has arrays)

  constant_site : (element : ℕ) (c : ℤ) → Contains k.sites (record { place = p; makes = Array element (Some c) }) → HasArrayLength P lengths m p
  constant_site element c has arrays = inl (c, (array_told (Array element (Some c)) has arrays).1)

  -- one whose arrays have none
  array_site : (element : ℕ) → Contains k.sites (record { place = p; makes = Array element None }) → IsReachedIn P m p → (b : Bool) → is_some (lengths m p) ≡ not b → TellsLength P lengths m p b
  array_site element has on b given = by site.made site.makes site.told (lengths m p) refl b given
    where
      site : IsSiteOf P m (record { place = p; makes = Array element None })
      site = needs.only (record { place = p; makes = Array element None }) has

      by : (made : Made) → made_by P site.row ≡ Some made → IsToldAs P m p made (Array element None) → (o : Option ℕ) → lengths m p ≡ o → (b : Bool) → is_some o ≡ not b → TellsLength P lengths m p b
      by (AnObject words) makes told o is b given = absurd told
      by (AnArray e) makes told None is true given = record {
        arrays = record { graph = on.0; on = on.1; next = site.next; row = site.row; line = site.line; element = e; makes = makes };
        no_constant = told.1;
        none = is;
      }
      by (AnArray e) makes told None is false given = absurd (false≢true given)
      by (AnArray e) makes told (Some n) is true given = absurd (false≢true (sym given))
      by (AnArray e) makes told (Some n) is false given = λ arrays. inr (n, is)

module _ (P : Program) (s : NeedSetting) (lengths : BoundOf) (m p : ℕ) (flow : IsFlowOf P s.flow) (sites : AreSitesOf P s.sites) (lt : m < length s.flow.methods) (o : Option Makes)
    (is : IsMadeAt (sites_of s m) p o) where
  pub has_length : lacks_constant o ≡ false → HasArrayLength P lengths m p
  has_length constant = let h = has_needs P s m flow sites lt in by h.needs h.are o (made_in P s m p h o is) constant
    where
      by : (k : MethodNeeds) → AreNeedsOf P m k → (o : Option Makes) → IsMadeAt k.sites p o → lacks_constant o ≡ false → HasArrayLength P lengths m p
      by k needs None none constant = no_site P lengths m p k needs none
      by k needs (Some (Object words)) has constant = object_site P lengths m p k needs words has
      by k needs (Some (Array element (Some c))) has constant = constant_site P lengths m p k needs element c has
      by k needs (Some (Array element None)) has constant = absurd (false≢true (sym constant))

  pub tells_length : lacks_constant o ≡ true → IsReachedIn P m p → (b : Bool) → is_some (lengths m p) ≡ not b → TellsLength P lengths m p b
  tells_length lacks on = let h = has_needs P s m flow sites lt in by h.needs h.are o (made_in P s m p h o is) lacks
    where
      by : (k : MethodNeeds) → AreNeedsOf P m k → (o : Option Makes) → IsMadeAt k.sites p o → lacks_constant o ≡ true → (b : Bool) → is_some (lengths m p) ≡ not b → TellsLength P lengths m p b
      by k needs None none lacks = absurd (false≢true lacks)
      by k needs (Some (Object words)) has lacks = absurd (false≢true lacks)
      by k needs (Some (Array element (Some c))) has lacks = absurd (false≢true lacks)
      by k needs (Some (Array element None)) has lacks = array_site P lengths m p k needs element has on

-- ---- nodes

pub node_by_place : (P : Program) (lengths : BoundOf) (m u : ℕ) (b : Bool) → 2 * (u / 2) ≡ u → TellsLength P lengths m (u / 2) b → TellsNode P lengths m u b
node_by_place P lengths m u true half tells = (u / 2, half, tells)
node_by_place P lengths m u false half tells = λ p e.
    let same : u / 2 ≡ p = omega arith in
    subst (λ (q : ℕ). HasArrayLength P lengths m q) same tells

pub node_on : (P : Program) (m : ℕ) (nodes : List ℕ) → AreOn P m nodes → (i : ℕ) → i < length nodes → (p : ℕ) → 2 * p ≡ get_or nodes i 0 → IsReachedIn P m p
node_on P m nodes on i lt p e = on p (contains_at nodes i (2 * p) lt (sym e))

module _ (P : Program) (lengths : BoundOf) (m : ℕ) (nodes : List ℕ) (i : ℕ) (before : (k : ℕ) → k < i → (p : ℕ) → 2 * p ≡ get_or nodes k 0 → HasArrayLength P lengths m p) where
  -- the node at the index is the first
  pub first_here : IsStrictlyIncreasing nodes → i < length nodes → (h u : ℕ) → h ≡ u / 2 → u ≡ get_or nodes i 0 → TellsNode P lengths m u true → IsFirstAmong P lengths m nodes (Some h)
  first_here rising lt h u half at (p, e, lacks) =
      let same : p ≡ h = omega arith in (
        contains_at nodes i (2 * h) lt (omega arith),
        subst (λ (q : ℕ). IsUnlimited P lengths m q) same lacks,
        λ q less has.
            let r = place_of nodes (2 * q) has in
            before r.0 (earlier r.0 q r.1 r.2 less) q (sym r.2),
      )
    where
      earlier : (k q : ℕ) → k < length nodes → get_or nodes k 0 ≡ 2 * q → q < h → k < i
      earlier k q below at' less =
          elim (cases_lt k i) [
            | inl lt' ↦ lt'
            | inr le ↦ let up = rising_all nodes rising i k le below in absurd (omega arith)
          ]

  -- there is none
  pub nowhere : length nodes ≤ i → IsFirstAmong P lengths m nodes None
  nowhere end p has = let r = place_of nodes (2 * p) has in let lt = r.1 in before r.0 (omega arith) p (sym r.2)
