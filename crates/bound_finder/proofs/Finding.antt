-- The methods of an order, found one behind the other; and why one can't be.
use Rattle.std.proofs.Common.{◌≡◌, ◌⊎◌, ℕ, ◌<◌, ◌≤◌, List, [], map, length, take, drop, get_or, replicate, Contains, Option, Some, None, refl, sym, ap, ◌∙◌, subst, inl, inr, arith}
use Rattle.std.specs.Prelude.{slice_get, All, IfNone}
use Rattle.std.proofs.lemmas.List.{length-replicate, length-take-le, get_or-take, take-append-le, take-append-drop}
use Rattle.std.proofs.lemmas.List.Elements.{All-replicate}
use Rattle.std.proofs.lemmas.Option.{slice_get-get_or, slice_get_within, get_or_from_slice_get}
use Rattle.lists.specs.Members.{nil_contains}
use Rattle.section_check.specs.Least.{IsLeast}
use Rattle.certificates.specs.declared.lines.line.SectionKind.TheVariants.{Alone}
use Rattle.certificates.specs.declared.cert.CertSection.{CertSection}
use Rattle.certificates.specs.Certificate.{IsSectionInText}
use Rattle.bound_rules.specs.Conditions.{MeetAll}
use Rattle.bytecode_model.specs.Program.{Program}
use Rattle.method_cache.specs.Regions.Region.{AreDistinct}
use Rattle.loop_nest.specs.Digraph.{Digraph}
use Rattle.method_flow.specs.Graphs.{IsLiveGraph}
use Rattle.bound_rules.specs.declared.faults.BoundRefusal.{BoundRefusal}
use Rattle.bound_rules.specs.declared.faults.BoundRefusal.TheVariants.{NoMemory}
use Rattle.bound_finder.specs.declared.known.Known.{Known}
use Rattle.bound_finder.specs.declared.methods.Methods.{Methods}
use Rattle.bound_finder.specs.declared.shape.Shape.{Shape}
use Rattle.bound_finder.specs.Known.{BoundSetting, bounds_in, ForEach, unknown, IsLimited, CalleesAreKnown}
use Rattle.bound_finder.specs.Laws.{ReadyHasShape}
use Rattle.bound_finder.specs.Methods.{values_by, IsEmptyIfEndless, IsLargeAmong, AreMethodsFound, IsUnready}
use Rattle.bound_finder.specs.Prepared.{IsShapeOf, IsLeftBy, IsUnbounded}
use Rattle.bound_finder.specs.Ready.{AreBehindCalls, AreReady, IsWantOfMemory}

-- ---- none yet

all_unknown : (n : ℕ) → All IsLimited (replicate n unknown)
all_unknown n = All-replicate IsLimited n unknown (record { asked = tt; full = tt })

pub none_found : (st : BoundSetting) (n : ℕ) (a : Methods) → a.table.items ≡ replicate n unknown → a.least ≡ None → a.sections.items ≡ [] → n ≡ length st.flow.methods → AreMethodsFound st [] a
none_found st n a table least sections long =
    let none : Option ℕ = None in
    let T : List Known → Type 0 = λ tb. All IsLimited tb in
    let O : Option ℕ → Type 0 = λ o. IsLeast (IsLargeAmong a.table.items []) o in
    let S : List CertSection → Type 0 = λ ss. All (IsSectionInText 2) ss in
    let K : List CertSection → Type 0 = λ ss. All (λ (s : CertSection). s.kind ≡ Alone → ⊥) ss in
    let M : List CertSection → Type 0 = λ ss. IfNone none (map (λ (s : CertSection). s.method) ss ≡ []) in
    let E : List CertSection → Type 0 = λ ss. IfNone none (All (IsEmptyIfEndless a.table.items) ss) in
    let F : Option ℕ → Type 0 = λ o. IfNone o (All (IsEmptyIfEndless a.table.items) a.sections.items) in
    let A : List CertSection → Type 0 = λ ss. IfNone none (ForEach st (λ P. AreBehindCalls P [] → MeetAll P st.timing (bounds_in st) [] ss (values_by a.table.items []))) in
    let N : Option ℕ → Type 0 = λ o. IfNone o (map (λ (s : CertSection). s.method) a.sections.items ≡ []) in
    let B : Option ℕ → Type 0 = λ o. IfNone o (ForEach st (λ P. AreBehindCalls P [] → MeetAll P st.timing (bounds_in st) [] a.sections.items (values_by a.table.items []))) in
    record {
      long = ap length table ∙ (length-replicate n unknown ∙ long);
      limited = subst T (sym table) (all_unknown n);
      known = λ P of behind m has. absurd (nil_contains m has);
      shown = λ P of behind m has. absurd (nil_contains m has);
      least = subst O (sym least) (λ u large. nil_contains u large.0);
      in_text = subst S (sym sections) (λ i d lt. absurd (omega arith));
      kinds = subst K (sym sections) (λ i d lt. absurd (omega arith));
      methods = subst N (sym least) (subst M (sym sections) refl);
      empty = subst F (sym least) (subst E (sym sections) (λ i d lt. absurd (omega arith)));
      meet = subst B (sym least) (subst A (sym sections) (λ P of behind. refl));
    }

-- ---- what stands before a place

module _ (order : List ℕ) (i : ℕ) (below : i < length order) where
  -- it isn't among those before it
  pub taken_apart : (m : ℕ) → m ≡ get_or order i m → AreDistinct order → Contains (take i order) m → ⊥
  taken_apart m is apart has =
      let long = length-take-le i order (omega arith) in
      let lt = has.1 in
      let less : has.0 < i = omega arith in
      apart has.0 i m less below (sym (get_or-take i order has.0 m less) ∙ (has.2 ∙ is))

  pub taken_behind : (P : Program) → AreBehindCalls P order → AreBehindCalls P (take i order)
  taken_behind P behind k m x is call =
      let long = length-take-le i order (omega arith) in
      let lt = slice_get_within (take i order) k m is in
      let less : k < i = omega arith in
      let inside : k < length order = omega arith in
      let at : slice_get order k ≡ Some m = slice_get-get_or order k m inside ∙ ap (λ (y : ℕ). Some y) (sym (get_or-take i order k m less) ∙ get_or_from_slice_get (take i order) k m m is) in
      let C : List ℕ → Type 0 = λ xs. Contains xs x in
      subst C (sym (taken_twice k order (omega arith) (omega arith))) (behind k m x at call)
    where
      taken_twice : (k : ℕ) (xs : List ℕ) → k ≤ i → i ≤ length xs → take k (take i xs) ≡ take k xs
      taken_twice k xs most all =
          let long = length-take-le i xs (omega arith) in
          sym (take-append-le k (take i xs) (drop i xs) (omega arith)) ∙ ap (take k) (take-append-drop i xs)

  pub at_place : (m : ℕ) → m ≡ get_or order i m → slice_get order i ≡ Some m
  at_place m is = slice_get-get_or order i m below ∙ ap (λ (y : ℕ). Some y) (sym is)

  -- ---- why the method there isn't found

  module _ (law : ReadyHasShape) (st : BoundSetting) (a : Methods) (found : AreMethodsFound st (take i order) a) (m : ℕ) (is : m ≡ get_or order i m) where
    pub only_memory : (fault : BoundRefusal) → IsUnready st a.table.items m fault → ForEach st (λ P. AreReady P (bounds_in st) order → IsWantOfMemory fault)
    only_memory fault unready = λ P of ready.
        let behind : AreBehindCalls P order = ready.behind in
        let at = at_place m is in
        let told : CalleesAreKnown P st.timing a.table.items m = λ x call. (found.known P of (taken_behind P behind) x (behind i m x at call)).told in
        let among : Contains order m = (i, below, sym is) in
        let want : fault ≡ NoMemory =
        elim (unready P of told) [
          | inl none ↦ none
          | inr other ↦ unprepared P ready among other.0 other.1 other.2
        ]
        in
        let W : BoundRefusal → Type 0 = λ e. IsWantOfMemory e in
        subst W (sym want) tt
      where
        unprepared : (P : Program) → AreReady P (bounds_in st) order → Contains order m → (g : Digraph) → IsLiveGraph P m g
            → IsLeftBy g m fault ⊎ ((s : Shape) × IsShapeOf g s × IsUnbounded (bounds_in st) m s fault) → fault ≡ NoMemory
        unprepared P ready among g live (inl left) = (law P st.timing (bounds_in st) m order g (record { graph = g; nodes = []; nest = []; size = 0 }) fault ready among live).0 left
        unprepared P ready among g live (inr shaped) = (law P st.timing (bounds_in st) m order g shaped.0 fault ready among live).1 shaped.1 shaped.2
