-- What the sites of a method and the nodes of its shape tell of its instructions.
use Rattle.std.proofs.Common.{◌≡◌, ◌↔◌, ℕ, ◌*◌, ◌/◌, ◌<◌, ◌≤◌, Bool, true, false, List, [], length, get_or, Contains, Option, Some, None, sym, ap, subst, inl, inr, arith}
use Rattle.std.specs.Prelude.{IsTrue, Any, is_some, slice_get}
use Rattle.std.proofs.lemmas.Bool.{false≢true}
use Rattle.std.proofs.lemmas.Option.{slice_get-get_or}
use Rattle.lists.specs.Members.{contains_at, place_of}
use Rattle.bytecode_model.specs.Program.{Program}
use Rattle.method_flow.specs.Calls.{IsStartOf, IsTarget}
use Rattle.method_flow.specs.Flow.{IsFlowOf}
use Rattle.method_flow.specs.Recursion.{MayCall}
use Rattle.flow_graph.proofs.Starting.{target_calls}
use Rattle.memory_rules.specs.declared.sites.Makes.{Makes}
use Rattle.memory_rules.specs.declared.sites.Site.{Site}
use Rattle.memory_rules.specs.Heap.{MakesAt, PlaceMakesObjects}
use Rattle.memory_rules.specs.Sites.{MethodNeeds, IsMadeAt, AreNeedsOf, AreSitesOf}
use Rattle.memory_bound.specs.declared.found.Found.{Found}
use Rattle.memory_bound.specs.Setting.{NeedSetting, sites_of}
use Rattle.memory_bound.specs.Found.{BeginInstructions, KnowMaking, found_at}

-- ---- the sites of a method

-- the table of sites has the method
pub record HasNeeds (P : Program) (s : NeedSetting) (m : ℕ) : Type 0 where
  pub needs : MethodNeeds
  pub is : slice_get s.sites m ≡ Some needs
  pub are : AreNeedsOf P m needs

pub has_needs : (P : Program) (s : NeedSetting) (m : ℕ) → IsFlowOf P s.flow → AreSitesOf P s.sites → m < length s.flow.methods → HasNeeds P s m
has_needs P s m flow sites lt =
    let below : m < length s.sites = (sites.coded m).0 ((flow.coded m).1 lt) in
    let none : MethodNeeds = record { words = 0; sites = [] } in
    let is = slice_get-get_or s.sites m none below in
    record { needs = get_or s.sites m none; is = is; are = sites.methods m (get_or s.sites m none) is }

-- what is told of an instruction is so by the sites of that method
pub made_in : (P : Program) (s : NeedSetting) (m p : ℕ) (h : HasNeeds P s m) (o : Option Makes) → IsMadeAt (sites_of s m) p o → IsMadeAt h.needs.sites p o
made_in P s m p h o is =
    let sites : Option MethodNeeds → List Site = λ k. elim k [ None ↦ [] | Some needs ↦ needs.sites ] in
    subst (λ (ss : List Site). IsMadeAt ss p o) (ap sites h.is) is

module _ (P : Program) (m p : ℕ) (k : MethodNeeds) (needs : AreNeedsOf P m k) where
  made_there : (o : Option Makes) → IsMadeAt k.sites p o → is_some o ≡ true → MakesAt P m p
  made_there None none there = absurd (false≢true there)
  made_there (Some told) has there =
      let site = needs.only (record { place = p; makes = told }) has in
      record { next = site.next; row = site.row; line = site.line; made = site.made; makes = site.makes }

  none_there : (o : Option Makes) → IsMadeAt k.sites p o → is_some o ≡ false → MakesAt P m p → ⊥
  none_there None none absent at = none (needs.each p at.next at.row at.made at.line at.makes)
  none_there (Some told) has absent at = false≢true (sym absent)

module _ (P : Program) (s : NeedSetting) (m p : ℕ) (flow : IsFlowOf P s.flow) (sites : AreSitesOf P s.sites) (lt : m < length s.flow.methods) (o : Option Makes) (is : IsMadeAt (sites_of s m) p o) where
  pub makes_at : is_some o ≡ true → MakesAt P m p
  makes_at there = let h = has_needs P s m flow sites lt in made_there P m p h.needs h.are o (made_in P s m p h o is) there

  pub makes_none : is_some o ≡ false → MakesAt P m p → ⊥
  makes_none absent = let h = has_needs P s m flow sites lt in none_there P m p h.needs h.are o (made_in P s m p h o is) absent

-- ---- what an instruction may run

pub may_run : (P : Program) (m p t : ℕ) → IsStartOf P m p → IsTarget P m p t → MayCall P m t
may_run P m p t start target = record { place = p; start = start; call = target_calls P m p t target; is_target = target }

-- an instruction that makes nothing itself makes objects where a method does that it may run
pub called_make : (P : Program) (m p : ℕ) → IsStartOf P m p → (table : List Found) → KnowMaking P table m → (targets : List ℕ)
    → ((t : ℕ) → Contains targets t ↔ IsTarget P m p t) → (MakesAt P m p → ⊥) → (b : Bool)
    → (IsTrue b ↔ Any (λ t. (found_at table t).makes ≡ true) targets) → IsTrue b ↔ PlaceMakesObjects P m p
called_make P m p start table known targets are none b both = (
  λ yes.
      let r = both.0 yes in
      let target : IsTarget P m p r.1 = (are r.1).0 (r.0, r.2, r.3) in
      inr (r.1, target, (known r.1 (may_run P m p r.1 start target)).0 r.4),
  λ makes.
      elim makes [
        | inl at ↦ absurd (none at)
        | inr t ↦ let has = (are t.0).1 t.1 in both.1 (has.0, t.0, has.1, has.2, (known t.0 (may_run P m p t.0 start t.1)).1 t.2)
      ],
)

-- ---- nodes

-- the place of a node of the list
pub node_start : (P : Program) (m : ℕ) (nodes : List ℕ) → BeginInstructions P m nodes → (i : ℕ) → i < length nodes → (p : ℕ) → 2 * p ≡ get_or nodes i 0 → IsStartOf P m p
node_start P m nodes starts i lt p e = starts p (contains_at nodes i (2 * p) lt (sym e))

-- whether an instruction does at a node is whether the node does
pub at_half : (u : ℕ) (Holds : ℕ → Type 0) (b : Bool) → 2 * (u / 2) ≡ u → (IsTrue b ↔ Holds (u / 2)) → IsTrue b ↔ ((p : ℕ) × (2 * p ≡ u) × Holds p)
at_half u Holds b half both = (
  λ yes. (u / 2, half, both.0 yes),
  λ r. let e = r.1 in let same : r.0 ≡ u / 2 = omega arith in both.1 (subst Holds same r.2),
)

-- none of these nodes does, or one does
pub none_does : (nodes : List ℕ) (i : ℕ) (Holds : ℕ → Type 0) → length nodes ≤ i → ((k : ℕ) → k < i → (p : ℕ) → 2 * p ≡ get_or nodes k 0 → Holds p → ⊥)
    → (p : ℕ) → Contains nodes (2 * p) → Holds p → ⊥
none_does nodes i Holds le none p has holds =
    let r = place_of nodes (2 * p) has in
    let lt = r.1 in
    none r.0 (omega arith) p (sym r.2) holds
