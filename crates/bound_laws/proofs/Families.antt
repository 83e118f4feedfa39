-- A family of numbers, method by method, each behind those that it may call.
use Rattle.std.proofs.Common.{◌≡◌, ℕ, zero, suc, ◌+◌, ◌<◌, ◌≤◌, List, [], ◌∷◌, length, Contains, None, subst, sym, inl, inr, arith}
use Rattle.lists.specs.Members.{in_tail, cons_cases, nil_contains, has_or_not}
use Rattle.bytecode_model.specs.Program.{Program}
use Rattle.method_flow.specs.Keeping.{BoundOf}
use Rattle.method_flow.specs.Recursion.{MayCall}
use Rattle.method_flow.specs.Regions.{IsWithin}
use Rattle.method_flow.specs.Regions.IsWithin.{itself, calls}
use Rattle.method_flow.specs.declared.timing.Timing.{Timing}
use Rattle.bound_rules.specs.Laws.{CallsEnd}
use Rattle.bound_rules.specs.Laws.CallsEnd.{ends}
use Rattle.bound_rules.specs.Numbers.{Numbers, AreNumbers}
use Rattle.bound_laws.specs.Walking.{GreatestWalksExist}
use Rattle.bound_laws.proofs.Calls.{Once, once_below, next_method}
use Rattle.bound_laws.proofs.Flows.{GraphLaws}
use Rattle.bound_laws.proofs.Numbers.{AgreeAt, AreNumbersAt, IsGround, goes_on_to, still_numbers}

calls_end_on : {P : Program} {m x : ℕ} → IsWithin P m x → CallsEnd P m → CallsEnd P x
calls_end_on itself c = c
calls_end_on (calls {m} {t} {x} p start call target more) (ends further) = calls_end_on more (further t (record { place = p; start = start; call = call; is_target = target }))

-- the family has the numbers of some methods, and these may call one another alone
record HasDone (P : Program) (t : Timing) (bound_of : BoundOf) (root count : ℕ) (done : List ℕ) (N : Numbers) : Type 0 where
  once : Once done
  below : (x : ℕ) → Contains done x → x < count
  within : (x : ℕ) → Contains done x → IsWithin P root x
  behind : (x y : ℕ) → Contains done x → MayCall P x y → Contains done y
  are : (x : ℕ) → Contains done x → AreNumbersAt P t bound_of N x

module _ (laws : GraphLaws) (greatest : GreatestWalksExist) (P : Program) (t : Timing) (bound_of : BoundOf) (root count : ℕ) (end : CallsEnd P root) (bounded : (x : ℕ) → IsWithin P root x → x < count)
    (ground : (m : ℕ) → IsWithin P root m → IsGround P t bound_of m) where
  one_more : (done : List ℕ) (N : Numbers) → HasDone P t bound_of root count done N → (m : ℕ) → IsWithin P root m → (Contains done m → ⊥) → ((y : ℕ) → MayCall P m y → Contains done y) → (M : Numbers)
      → ((x : ℕ) → (x ≡ m → ⊥) → AgreeAt N M x) → AreNumbersAt P t bound_of M m → HasDone P t bound_of root count (m ∷ done) M
  one_more done N h m within new targets M others are = record {
    once = (new, h.once);
    below = λ x c. elim (cons_cases m x done c) [ inl same ↦ subst (λ (z : ℕ). z < count) same (bounded m within) | inr there ↦ h.below x there ];
    within = λ x c. elim (cons_cases m x done c) [ inl same ↦ subst (λ (z : ℕ). IsWithin P root z) same within | inr there ↦ h.within x there ];
    behind = λ x y c call. elim (cons_cases m x done c) [
      | inl same ↦ in_tail m y done (targets y (subst (λ (z : ℕ). MayCall P z y) (sym same) call))
      | inr there ↦ in_tail m y done (h.behind x y there call)
    ];
    are = λ x c. elim (cons_cases m x done c) [
      | inl same ↦ subst (λ (z : ℕ). AreNumbersAt P t bound_of M z) same are
      | inr there ↦
          still_numbers P t bound_of x (ground x (h.within x there)).starts N M (λ y call. others y (λ same. new (subst (λ (z : ℕ). Contains done z) same (h.behind x y there call))))
          (others x (λ same. new (subst (λ (z : ℕ). Contains done z) same there))) (h.are x there)
    ];
  }

  all_done : (done : List ℕ) (N : Numbers) → HasDone P t bound_of root count done N → ((x : ℕ) → IsWithin P root x → Contains done x) → AreNumbers P t bound_of root N
  all_done done N h all = record {
    inside = λ m within. (h.are m (all m within)).inside;
    loops = λ m within. (h.are m (all m within)).loops;
    full = λ m within. (h.are m (all m within)).full;
  }

  -- where a method isn't done, another one can be
  found : (done : List ℕ) (N : Numbers) → HasDone P t bound_of root count done N → ((N' : Numbers) × AreNumbers P t bound_of root N' → ⊥)
      → ((m : ℕ) (M : Numbers) → (Contains done m → ⊥) → HasDone P t bound_of root count (m ∷ done) M → ⊥) → ⊥
  found done N h none further =
      none (
        N,
        all_done done N h (λ x within. elim (has_or_not done x) [
          | inl has ↦ has
          | inr missing ↦
              absurd (next_method P root done (calls_end_on within end) within missing (λ m within' missing' targets.
              goes_on_to laws greatest P t bound_of m (ground m within') N (λ y call same. missing' (subst (λ (z : ℕ). Contains done z) same (targets y call)))
              (λ r. further m r.numbers missing' (one_more done N h m within' missing' targets r.numbers r.others r.are))))
        ]),
      )

  build : (more : ℕ) (done : List ℕ) (N : Numbers) → HasDone P t bound_of root count done N → count ≤ length done + more → ((N' : Numbers) × AreNumbers P t bound_of root N' → ⊥) → ⊥
  build zero done N h near none =
      found done N h none (λ m M new h'. let le = once_below count (m ∷ done) h'.once h'.below in omega arith)
  build (suc more) done N h near none =
      found done N h none (λ m M new h'. build more (m ∷ done) M h' (omega arith) none)

  none_yet : Numbers
  none_yet = record { inside = λ x. None; loops = λ x. None; full = λ x. None }

  pub family_exists : ((N : Numbers) × AreNumbers P t bound_of root N → ⊥) → ⊥
  family_exists none =
      build count [] none_yet (record {
        once = tt;
        below = λ x c. absurd (nil_contains x c);
        within = λ x c. absurd (nil_contains x c);
        behind = λ x y c call. absurd (nil_contains x c);
        are = λ x c. absurd (nil_contains x c);
      }) (omega arith) none
