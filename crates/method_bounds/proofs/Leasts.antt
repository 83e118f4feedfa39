-- The least of some methods with a property, of several sets of methods.
use Rattle.std.proofs.Common.{◌≡◌, ◌≢◌, ◌⊎◌, ℕ, ◌+◌, ◌<◌, List, [], ◌∷◌, ◌++◌, length, get_or, set, take, Contains, Option, Some, None, refl, sym, ap, ◌∙◌, subst, inl, inr, arith}
use Rattle.std.specs.Prelude.{slice_get, slice_index_or}
use Rattle.std.proofs.lemmas.Bool.{cases_eq}
use Rattle.std.proofs.lemmas.List.{get_or-set_same, get_or-set_other}
use Rattle.std.proofs.lemmas.List.Elements.{Contains-push, Contains-push_cases, Contains-append_left}
use Rattle.lists.proofs.Lemmas.{none≢some}
use Rattle.lists.specs.Members.{nil_contains}
use Rattle.bytecode_model.specs.Program.{Program}
use Rattle.method_flow.specs.Flow.{Flow, IsFlowOf, targets_of_call}
use Rattle.method_flow.specs.Recursion.{MayCall}
use Rattle.method_flow.specs.Regions.{IsWithin}
use Rattle.method_flow.specs.Regions.IsWithin.{itself, calls}
use Rattle.method_flow.specs.declared.flow.Call.{Call}
use Rattle.call_regions.specs.Laws.{RunsAreCalls}
use Rattle.call_regions.specs.Tables.{IsOfTable, HasCalls, Runs}
use Rattle.section_check.specs.Least.{IsLeast, lesser_of}
use Rattle.section_check.proofs.LeastLemmas.{least_either}
use Rattle.method_bounds.specs.declared.causes.Found.{Found}
use Rattle.method_bounds.specs.declared.causes.Leasts.{Leasts}
use Rattle.method_bounds.specs.declared.loops.Loops.{Loops}
use Rattle.method_bounds.specs.declared.loops.Loops.TheVariants.{Bounded, Lacking, Irreducible}
use Rattle.method_bounds.specs.Leasts.{no_leasts, lesser_leasts, leasts_alone, leasts_at, AreLeasts, AreLeastsOf, IsBelow, AreListed, AreFound}
use Rattle.method_bounds.specs.Loops.{IsAmong, IsIrreducible, IsLacking, AreSingle, IsLoopCauseIn, missing_in, missing_of}
use Rattle.method_bounds.proofs.Tabled.{runs_target, target_runs}

-- ---- sets of methods

least_as : (P Q : ℕ → Type 0) (o : Option ℕ) → ((u : ℕ) → P u → Q u) → ((u : ℕ) → Q u → P u) → IsLeast P o → IsLeast Q o
least_as P Q None to back h = λ u q. h u (back u q)
least_as P Q (Some n) to back h = (to n h.0, λ u less q. h.1 u less (back u q))

module _ (loops : List Loops) where
  pub leasts_none : (K : ℕ → Type 0) → ((x : ℕ) → K x → ⊥) → AreLeasts loops K no_leasts
  leasts_none K none = record { irreducible = λ u h. none u h.0; lacking = λ u h. none u h.0 }

  -- of a set in other words
  pub leasts_as : (K L : ℕ → Type 0) (x : Leasts) → ((u : ℕ) → K u → L u) → ((u : ℕ) → L u → K u) → AreLeasts loops K x → AreLeasts loops L x
  leasts_as K L x to back h = record {
    irreducible = least_as (IsAmong K (IsIrreducible loops)) (IsAmong L (IsIrreducible loops)) x.irreducible (λ u k. (to u k.0, k.1)) (λ u l. (back u l.0, l.1)) h.irreducible;
    lacking = least_as (IsAmong K (IsLacking loops)) (IsAmong L (IsLacking loops)) x.lacking (λ u k. (to u k.0, k.1)) (λ u l. (back u l.0, l.1)) h.lacking;
  }

  module _ (K L M : ℕ → Type 0) (k : (x : ℕ) → K x → M x) (l : (x : ℕ) → L x → M x) (cases : (x : ℕ) → M x → K x ⊎ L x) where
    either : (Has : ℕ → Type 0) (a b : Option ℕ) → IsLeast (IsAmong K Has) a → IsLeast (IsAmong L Has) b → IsLeast (IsAmong M Has) (lesser_of a b)
    either Has a b ha hb =
        least_either (IsAmong K Has) (IsAmong L Has) (IsAmong M Has) a b (λ u h. (k u h.0, h.1)) (λ u h. (l u h.0, h.1))
        (λ u h. elim (cases u h.0) [ inl x ↦ inl (x, h.1) | inr y ↦ inr (y, h.1) ]) ha hb

    -- of the methods of both sets
    pub leasts_either : (a b : Leasts) → AreLeasts loops K a → AreLeasts loops L b → AreLeasts loops M (lesser_leasts a b)
    leasts_either a b ha hb = record {
      irreducible = either (IsIrreducible loops) a.irreducible b.irreducible ha.irreducible hb.irreducible;
      lacking = either (IsLacking loops) a.lacking b.lacking ha.lacking hb.lacking;
    }

  -- of one method
  pub alone_are : (m : ℕ) (o : Option Loops) → slice_get loops m ≡ o → AreLeasts loops (λ x. x ≡ m) (leasts_alone m o)
  alone_are m o is = by_case o is
    where
      said : (o : Option Loops) (u : ℕ) (x : Loops) → slice_get loops m ≡ o → u ≡ m → slice_get loops u ≡ Some x → o ≡ Some x
      said o u x is same at = sym is ∙ ap (slice_get loops) (sym same) ∙ at

      by_case : (o : Option Loops) → slice_get loops m ≡ o → AreLeasts loops (λ x. x ≡ m) (leasts_alone m o)
      by_case None is = record {
        irreducible = λ u h. none≢some Irreducible (said None u Irreducible is h.0 h.1);
        lacking = λ u h. none≢some (Lacking h.1.0) (said None u (Lacking h.1.0) is h.0 h.1.1);
      }
      by_case (Some Bounded) is = record {
        irreducible = λ u h. let e = said (Some Bounded) u Irreducible is h.0 h.1 in cc;
        lacking = λ u h. let e = said (Some Bounded) u (Lacking h.1.0) is h.0 h.1.1 in cc;
      }
      by_case (Some (Lacking p)) is = record {
        irreducible = λ u h. let e = said (Some (Lacking p)) u Irreducible is h.0 h.1 in cc;
        lacking = ((refl, (p, is)), λ u less h. let e = h.0 in omega arith);
      }
      by_case (Some Irreducible) is = record {
        irreducible = ((refl, is), λ u less h. let e = h.0 in omega arith);
        lacking = λ u h. let e = said (Some Irreducible) u (Lacking h.1.0) is h.0 h.1.1 in cc;
      }

  -- of what may run while these methods do, and while one more does
  pub below_more : (P : Program) (ts : List ℕ) (t : ℕ) (a b : Leasts) → AreLeasts loops (IsBelow P ts) a → AreLeasts loops (IsWithin P t) b → AreLeasts loops (IsBelow P (ts ++ t ∷ [])) (lesser_leasts a b)
  below_more P ts t a b ha hb =
      leasts_either (IsBelow P ts) (IsWithin P t) (IsBelow P (ts ++ t ∷ []))
      (λ x k. record { target = k.target; among = Contains-append_left ts (t ∷ []) k.target k.among; within = k.within })
      (λ x w. record { target = t; among = Contains-push ts t; within = w })
      (λ x k.
      elim (Contains-push_cases ts t k.target k.among) [
        | inl there ↦ inl (record { target = k.target; among = there; within = k.within })
        | inr same ↦ inr (let W : ℕ → Type 0 = λ y. IsWithin P y x in subst W (sym same) k.within)
      ])
      a b ha hb

-- ---- calls

-- the method may run while a target of one of these calls does
pub record IsBelowCalls (P : Program) (f : Flow) (calls : List Call) (x : ℕ) : Type 0 where
  pub call : Call
  pub among : Contains calls call
  pub below : IsBelow P (targets_of_call f call) x

-- it is the one with these calls, or may run while a target of one of them does
abbrev pub IsUpTo : Program → Flow → (m : ℕ) → List Call → ℕ → Type 0
IsUpTo P f m ks x = (x ≡ m) ⊎ IsBelowCalls P f ks x

module _ (P : Program) (f : Flow) (flow : IsFlowOf P f) (are : RunsAreCalls) where
  pub run_may : (m t : ℕ) → Runs f m t → MayCall P m t
  run_may m t r = let at = (are P f m r.place t flow r.from.code).0 r.from in record { place = r.place; start = at.start; call = at.call; is_target = at.is_target }

  pub may_run : (m t : ℕ) → IsOfTable f m → MayCall P m t → Runs f m t
  may_run m t code may = record { place = may.place; from = (are P f m may.place t flow code).1 (record { start = may.start; call = may.call; is_target = may.is_target }) }

pub may_within : (P : Program) {m t x : ℕ} → MayCall P m t → IsWithin P t x → IsWithin P m x
may_within P may rest = calls may.place may.start may.call may.is_target rest

module _ (loops : List Loops) (P : Program) (f : Flow) (m : ℕ) where
  pub up_to_none : (x : Leasts) → AreLeasts loops (λ y. y ≡ m) x → AreLeasts loops (IsUpTo P f m []) x
  up_to_none x h = leasts_as loops (λ y. y ≡ m) (IsUpTo P f m []) x (λ u same. inl same) (λ u up. elim up [ inl same ↦ same | inr below ↦ absurd (nil_contains below.call below.among) ]) h

  pub up_to_more : (ks : List Call) (k : Call) (a b : Leasts) → AreLeasts loops (IsUpTo P f m ks) a → AreLeasts loops (IsBelow P (targets_of_call f k)) b → AreLeasts loops (IsUpTo P f m (ks ++ k ∷ [])) (lesser_leasts a b)
  up_to_more ks k a b ha hb =
      leasts_either loops (IsUpTo P f m ks) (IsBelow P (targets_of_call f k)) (IsUpTo P f m (ks ++ k ∷ []))
      (λ x up. elim up [ inl same ↦ inl same | inr below ↦ inr (record { call = below.call; among = Contains-append_left ks (k ∷ []) below.call below.among; below = below.below }) ])
      (λ x below. inr (record { call = k; among = Contains-push ks k; below = below }))
      (λ x up.
      elim up [
        | inl same ↦ inl (inl same)
        | inr below ↦
            elim (Contains-push_cases ks k below.call below.among) [
              | inl there ↦ inl (inr (record { call = below.call; among = there; below = below.below }))
              | inr same ↦ inr (let B : Call → Type 0 = λ c. IsBelow P (targets_of_call f c) x in subst B (sym same) below.below)
            ]
      ])
      a b ha hb

module _ (P : Program) (f : Flow) (flow : IsFlowOf P f) (are : RunsAreCalls) where
  from_within : (m x : ℕ) (ks : List Call) → HasCalls f m ks → IsWithin P m x → IsUpTo P f m ks x
  from_within m x ks has itself = inl refl
  from_within m x ks has (calls {m = a} {t = t} {x = b} p start invoke target rest) =
      let one = runs_target f m t ks has (may_run P f flow are m t has.code (record { place = p; start = start; call = invoke; is_target = target })) in
      inr (record { call = one.call; among = one.among; below = record { target = t; among = one.lists; within = rest } })

  -- these are all that may run while the method does
  pub up_to_all : (loops : List Loops) (m : ℕ) (ks : List Call) → HasCalls f m ks → (x : Leasts) → AreLeasts loops (IsUpTo P f m ks) x → AreLeasts loops (IsWithin P m) x
  up_to_all loops m ks has x h =
      leasts_as loops (IsUpTo P f m ks) (IsWithin P m) x
      (λ u up.
      elim up [
        | inl same ↦ (let W : ℕ → Type 0 = λ y. IsWithin P m y in subst W (sym same) itself)
        | inr below ↦
            may_within P (run_may P f flow are m below.below.target (target_runs f m below.below.target ks has (record { call = below.call; among = below.among; lists = below.below.among }))) below.below.within
      ])
      (λ u w. from_within m u ks has w) h

-- ---- what was found

pub none_found : (f : Flow) (loops : List Loops) (P : Program) (found : Found) → found.lists.items ≡ [] → AreFound f loops P [] found
none_found f loops P found none =
    let L : List (Option Leasts) → Type 0 = λ xs. AreListed f loops P xs in
    record { methods = λ m has. absurd (nil_contains m has); lists = subst L (sym none) (λ n x is. absurd (none≢some x is)) }

pub found_more : (f : Flow) (loops : List Loops) (P : Program) (done : List ℕ) (m : ℕ) (old new : Found) (x : Leasts) → m < length old.methods.items → AreFound f loops P done old → AreListed f loops P new.lists.items
    → new.methods.items ≡ set old.methods.items m x → AreLeasts loops (IsWithin P m) x → AreFound f loops P (done ++ m ∷ []) new
found_more f loops P done m old new x lt was lists are h =
    let M : List Leasts → Type 0 = λ xs. (k : ℕ) → Contains (done ++ m ∷ []) k → AreLeastsOf loops P xs k in
    record {
      methods =
          subst M (sym are) (λ k has.
          elim (cases_eq m k) [
            | inl same ↦
                let A : ℕ → Type 0 = λ y. AreLeastsOf loops P (set old.methods.items m x) y in
                let X : Leasts → Type 0 = λ y. AreLeasts loops (IsWithin P m) y in
                subst A same (subst X (sym (get_or-set_same old.methods.items m x no_leasts lt)) h)
            | inr other ↦
                elim (Contains-push_cases done m k has) [
                  | inl there ↦ let X : Leasts → Type 0 = λ y. AreLeasts loops (IsWithin P k) y in subst X (sym (get_or-set_other old.methods.items m k x no_leasts (λ e. other (sym e)))) (was.methods k there)
                  | inr same ↦ absurd (other same)
                ]
          ]);
      lists = lists;
    }

-- ---- causes

pub missing_is : (loops : List Loops) (K : ℕ → Type 0) (o : Option ℕ) → AreSingle loops K → IsLeast (IsAmong K (IsLacking loops)) o → IsLoopCauseIn loops K (missing_of loops o)
missing_is loops K None single h = (single, h)
missing_is loops K (Some m) single h =
    let p = h.0.1.0 in
    let at = h.0.1.1 in
    let C : Option Loops → Type 0 = λ l. IsLoopCauseIn loops K (missing_in m l) in
    subst C (sym at) (single, h, at)
