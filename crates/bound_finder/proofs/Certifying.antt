-- The certificate of the root, once all methods of its order are found.
use Rattle.std.proofs.Common.{◌≡◌, ℕ, ◌<◌, ◌^◌, List, [], ◌∷◌, map, length, get_or, Contains, Option, Some, None, refl, sym, ap, ◌∙◌, subst, inr, arith}
use Rattle.std.specs.Prelude.{AllPairs, IfSome, IfNone, IsSome}
use Rattle.std.proofs.lemmas.Bool.{false≢true}
use Rattle.std.proofs.lemmas.List.{get_or-map, length-map}
use Rattle.std.proofs.lemmas.List.Elements.{All-contains}
use Rattle.lists.specs.Members.{map_contains}
use Rattle.method_cache.specs.Regions.Region.{AreDistinct}
use Rattle.section_check.specs.Least.{IsLeast}
use Rattle.section_check.proofs.LeastLemmas.{least_same}
use Rattle.bytecode_model.specs.Program.{Program}
use Rattle.certificates.specs.CertLines.{IsBoundValue}
use Rattle.certificates.specs.declared.cert.CertSection.{CertSection}
use Rattle.certificates.specs.declared.cert.SectionSort.{SectionSort}
use Rattle.certificates.specs.Certificate.{IsInGrammar, sort_of}
use Rattle.method_flow.specs.Flow.{IsFlowOf}
use Rattle.method_flow.specs.Keeping.{BoundOf}
use Rattle.method_flow.specs.Regions.IsWithin.{itself}
use Rattle.method_flow.specs.declared.timing.Timing.{Timing}
use Rattle.bound_rules.specs.declared.faults.BoundRefusal.{BoundRefusal}
use Rattle.bound_rules.specs.declared.faults.BoundRefusal.TheVariants.{NoMethod, Recursion, Irreducible, MissingBound, TooLarge, NoMemory}
use Rattle.bound_rules.specs.Conditions.{MeetsConditions}
use Rattle.bound_rules.specs.Told.{SaysFull}
use Rattle.compact_walks.specs.Limited.{cycles_limit}
use Rattle.bound_finder.specs.declared.known.Known.{Known}
use Rattle.bound_finder.specs.declared.methods.Methods.{Methods}
use Rattle.bound_finder.specs.Known.{BoundSetting, bounds_in, ForEach, known_at, IsKnownOf}
use Rattle.bound_finder.specs.Certified.{AreEmptyIfEndless}
use Rattle.bound_finder.specs.Methods.{IsEmptyIfEndless, IsLargeAmong, values_by}
use Rattle.bound_finder.specs.Ending.{IsPrintedSmall, IsLargeWithin, AreSmallWithin, AreKnownWithin, AreReadyFound}
use Rattle.bound_finder.specs.Ready.{AreBehindCalls, IsWantOfMemory, IsSizeCause}
use Rattle.bound_finder.proofs.MoreFound.{value_found}
use Rattle.bound_finder.proofs.KnownWithin.{agree_within, exceed_within, numbers_within}
use Rattle.bound_finder.proofs.Ended.{at_most, all_small}
use Rattle.bound_finder.proofs.Gathering.{says_by}

-- ---- what stands once

-- sections of distinct methods are of distinct sorts
pub sorts_apart : (ss : List CertSection) (order : List ℕ) → map (λ (s : CertSection). s.method) ss ≡ order → AreDistinct order → AllPairs (λ a b. a ≡ b → ⊥) (map sort_of ss)
sorts_apart ss order e apart i j d less below same =
    let long = length-map ss sort_of in
    let count = length-map ss (λ (s : CertSection). s.method) in
    let all = ap length e in
    apart i j d.method less (omega arith) (method_at i (omega arith) ∙ (ap (λ (k : SectionSort). k.method) same ∙ sym (method_at j (omega arith))))
  where
    maps : (xs : List CertSection) → map (λ (k : SectionSort). k.method) (map sort_of xs) ≡ map (λ (s : CertSection). s.method) xs
    maps [] = refl
    maps (x ∷ xs) = ap (λ (ys : List ℕ). x.method ∷ ys) (maps xs)

    method_at : (k : ℕ) → k < length (map sort_of ss) → get_or order k d.method ≡ (get_or (map sort_of ss) k d).method
    method_at k lt = ap (λ (xs : List ℕ). get_or xs k d.method) (sym (maps ss ∙ e)) ∙ get_or-map (λ (x : SectionSort). x.method) (map sort_of ss) k d d.method lt

module _ (set : BoundSetting) (root : ℕ) (a : Methods) (h : AreReadyFound set root a) where
  abbrev table : List Known
  table = a.table.items

  -- what the sections say of the root with all its loads
  says_root : (P : Program) → IsFlowOf P set.flow → AreSmallWithin P table root → SaysFull P set.timing (values_by table h.order) root (Some (known_at table root).full)
  says_root P of small =
      let ready = h.ready P of in
      let behind : AreBehindCalls P h.order = ready.order.first in
      let known = h.found.known P of behind in
      let has : Contains h.order root = (ready.order.methods.each root).1 itself in
      let numbers = numbers_within P set.timing (bounds_in set) h.order table behind known root has small in
      says_by P set.timing table root (values_by table h.order) (known root has).told.fits (numbers.full root itself) (known_at table root).fits refl (value_found table root h.order has)

  -- where none of them has a number that is too large, none of all has
  least_none : (P : Program) → IsFlowOf P set.flow → AreSmallWithin P table root → (o : Option ℕ) → IsLeast (IsLargeAmong table h.order) o → o ≡ None
  least_none P of small None least = refl
  least_none P of small (Some x) least = absurd (false≢true (sym (small x (((h.ready P of).order.methods.each x).0 least.0.0)) ∙ least.0.1))

  at_none : a.least ≡ None → (X : Type 0) → IfNone a.least X → X
  at_none none X has = let I : Option ℕ → Type 0 = λ o. IfNone o X in subst I none has

  -- what is known of all that may run
  pub root_known : root < length set.flow.methods → ForEach set (λ P. AreKnownWithin P set.timing (bounds_in set) table a.least root)
  root_known inside P of =
      let ready = h.ready P of in
      let behind : AreBehindCalls P h.order = ready.order.first in
      let known : (x : ℕ) → Contains h.order x → IsKnownOf P set.timing (bounds_in set) table x (known_at table x) = h.found.known P of behind in
      let has : Contains h.order root = (ready.order.methods.each root).1 itself in
      record {
        agree = λ N are x within. (agree_within P set.timing (bounds_in set) h.order table behind known root has N are x within, exceed_within P set.timing (bounds_in set) h.order table behind known root has N are x within);
        known = λ small. numbers_within P set.timing (bounds_in set) h.order table behind known root has small;
        sections = λ small. record {
          sections = a.sections.items;
          values = values_by table h.order;
          meet = at_none (least_none P of small a.least h.found.least) _ h.found.meet P of behind;
          coded = (of.coded root).1 inside;
          says = says_root P of small;
        };
        is_least = least_same (IsLargeAmong table h.order) (IsLargeWithin P table root) a.least (λ u large. ((ready.order.methods.each u).0 large.0, large.1)) (λ u large. ((ready.order.methods.each u).1 large.0, large.1)) h.found.least;
      }

  module _ (bound : Option ℕ) (none : a.least ≡ None) (printed : IsPrintedSmall set (known_at table root).full bound) where
    pub in_grammar : root < 2 ^ 32 → IsInGrammar (record { version = 2; root = root; sections = a.sections.items; bound = bound })
    in_grammar small = record {
      version = inr refl;
      root = small;
      sections = h.found.in_text;
      apart = sorts_apart a.sections.items h.order (at_none none _ h.found.methods) h.distinct;
      bound = in_range bound printed.within;
    }
      where
        in_range : (o : Option ℕ) → IfSome o (λ b. b < cycles_limit) → IsBoundValue o
        in_range None within = tt
        in_range (Some n) within = within

    pub meets : (P : Program) → IsFlowOf P set.flow → root < length set.flow.methods → MeetsConditions P set.timing (bounds_in set) (record { version = 2; root = root; sections = a.sections.items; bound = bound })
    meets P of inside = record {
      values = values_by table h.order;
      sections = at_none none _ h.found.meet P of (h.ready P of).order.first;
      coded = (of.coded root).1 inside;
      full = (known_at table root).full;
      says = says_root P of (all_small P set.timing (bounds_in set) table a.least root (root_known inside P of) none);
      right = record { printed = printed.printed P of; small = at_most bound printed.within };
    }

    pub are_empty : (P : Program) → IsFlowOf P set.flow → AreEmptyIfEndless P a.sections.items
    are_empty P of s has endless =
        let C : List ℕ → Type 0 = λ xs. Contains xs s.method in
        let among : Contains h.order s.method = subst C (at_none none _ h.found.methods) (map_contains (λ (x : CertSection). x.method) a.sections.items s has) in
        let told = (h.found.known P of (h.ready P of).order.first s.method among).told in
        All-contains (IsEmptyIfEndless table) a.sections.items s (at_none none _ h.found.empty) has (none_of (known_at table s.method).asked (λ some. endless (told.asked.0 some)))
      where
        none_of : (o : Option ℕ) → ¬ IsSome o → o ≡ None
        none_of None never = refl
        none_of (Some n) never = absurd (never refl)

-- ---- want of memory

-- it is no other cause
pub want_is_cause : (P : Program) (t : Timing) (bound_of : BoundOf) (root : ℕ) (fault : BoundRefusal) → IsWantOfMemory fault → IsSizeCause P t bound_of root fault
want_is_cause P t bound_of root NoMemory h = tt
want_is_cause P t bound_of root NoMethod h = absurd h
want_is_cause P t bound_of root (Recursion cycle) h = absurd h
want_is_cause P t bound_of root (Irreducible m nodes) h = absurd h
want_is_cause P t bound_of root (MissingBound m p) h = absurd h
want_is_cause P t bound_of root (TooLarge m) h = absurd h
