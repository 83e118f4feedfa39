-- The first cause that is found, and how the causes stand one behind another.
use Rattle.std.proofs.Common.{◌≡◌, ◌↔◌, ℕ, ◌<◌, List, [], length, get_or, take, Contains, Some, None, refl, sym, subst}
use Rattle.std.specs.Prelude.{unwrap_or}
use Rattle.std.specs.List.Sorted.{IsStrictlyIncreasing, IsPermutation}
use Rattle.std.proofs.lemmas.List.Sorted.{Contains-permutation, IsPermutation-sym}
use Rattle.lists.specs.Members.{contains_at}
use Rattle.bytecode_model.specs.Program.{Program}
use Rattle.method_flow.specs.Keeping.{BoundOf}
use Rattle.method_flow.specs.Regions.{IsWithin, AreMethodsOf}
use Rattle.method_flow.specs.Regions.IsWithin.{itself}
use Rattle.call_regions.specs.Calling.{IsTargetsFirst}
use Rattle.call_regions.specs.Laws.{OrderExcludesCycles}
use Rattle.bound_rules.specs.Bounding.{HasNoRecursion, IsLeftWith, AreReducible}
use Rattle.memory_rules.specs.declared.causes.NeedFault.{NeedFault}
use Rattle.memory_rules.specs.declared.causes.NeedFault.TheVariants.{Recursion, Irreducible, MissingBound, MissingSize, TooLarge, NoMemory}
use Rattle.memory_rules.specs.declared.needs.Need.{Need}
use Rattle.memory_rules.specs.Stack.{IsStackNeedOf}
use Rattle.memory_rules.specs.Heap.{OfMethod, IsMostMade}
use Rattle.memory_bound.specs.declared.found.Found.{Found}
use Rattle.memory_bound.specs.Found.{IsMemoryFoundOf, found_at}
use Rattle.memory_bound.specs.Causes.{IsCallFault, IsNeedFault, IsNeedOf}
use Rattle.memory_bound.specs.Needs.{IsShapeFaultOf, IsShapesFault, NoneLacksBound, NoneLacksLength, NoneTooLarge, HaveNoCause, IsFoundFault, IsFaultIn}
use Rattle.memory_bound.proofs.Ordered.{stands_before}
use Rattle.memory_bound.proofs.Refusing.{lines_are, lengths_are, none_large, need_is, fault_is}

-- ---- the first of methods that rise

module _ (ms : List ℕ) (i : ℕ) (rising : IsStrictlyIncreasing ms) (lt : i < length ms) where
  here : Contains ms (get_or ms i 0)
  here = contains_at ms i (get_or ms i 0) lt refl

  pub fault_here : (P : Program) (e : NeedFault) → ((x : ℕ) → Contains (take i ms) x → IsLeftWith P x []) → IsShapeFaultOf P (get_or ms i 0) e → IsShapesFault P ms e
  fault_here P (Irreducible m nodes) before h =
      let same : m ≡ get_or ms i 0 = h.0 in (
        subst (λ (x : ℕ). Contains ms x) (sym same) here,
        h.1,
        h.2,
        λ x has less. before x (stands_before ms i rising lt x has (subst (λ (y : ℕ). x < y) same less)),
      )
  fault_here P NoMemory before h = tt
  fault_here P (Recursion cycle) before h = absurd h
  fault_here P (MissingBound m p) before h = absurd h
  fault_here P (MissingSize m p) before h = absurd h
  fault_here P (TooLarge m) before h = absurd h

  pub bound_here : (table : List Found) (p : ℕ) → NoneLacksBound table (take i ms) → (found_at table (get_or ms i 0)).unbounded ≡ Some p → IsFoundFault table ms (MissingBound (get_or ms i 0) p)
  bound_here table p before is = (here, is, λ x has less. before x (stands_before ms i rising lt x has less))

  pub length_here : (table : List Found) (p : ℕ) → NoneLacksBound table ms → NoneLacksLength table (take i ms) → (found_at table (get_or ms i 0)).unlimited ≡ Some p
      → IsFoundFault table ms (MissingSize (get_or ms i 0) p)
  length_here table p bounds before is = (bounds, (here, is, λ x has less. before x (stands_before ms i rising lt x has less)))

  pub size_here : (table : List Found) → NoneLacksBound table ms → NoneLacksLength table ms → NoneTooLarge table (take i ms) → (found_at table (get_or ms i 0)).heap ≡ None
      → IsFoundFault table ms (TooLarge (get_or ms i 0))
  size_here table bounds lengths before is = (bounds, lengths, (here, is, λ x has less. before x (stands_before ms i rising lt x has less)))

-- ---- the methods that may run, in another order

pub methods_are : (K : ℕ → Type 0) (xs ys : List ℕ) → AreMethodsOf K xs → IsPermutation xs ys → (x : ℕ) → Contains ys x ↔ K x
methods_are K xs ys are moved x = (λ has. (are.each x).0 (Contains-permutation ys xs x (IsPermutation-sym xs ys moved) has), λ k. Contains-permutation xs ys x moved ((are.each x).1 k))

-- ---- causes

pub no_recursion : OrderExcludesCycles → (P : Program) (root : ℕ) (order : List ℕ) → IsTargetsFirst P root order → HasNoRecursion P root
no_recursion excludes P root order is cycle recursion = excludes P root order cycle is recursion

module _ (P : Program) (bounds lengths : BoundOf) where
  pub of_calls : (e : NeedFault) → IsCallFault P e → IsNeedFault P bounds lengths e
  of_calls (Recursion cycle) h = h
  of_calls NoMemory h = tt
  of_calls (Irreducible m nodes) h = absurd h
  of_calls (MissingBound m p) h = absurd h
  of_calls (MissingSize m p) h = absurd h
  of_calls (TooLarge m) h = absurd h

  module _ (none : HasNoRecursion P P.boot) where
    pub of_shapes : (ms : List ℕ) → ((x : ℕ) → Contains ms x ↔ IsWithin P P.boot x) → (e : NeedFault) → IsShapesFault P ms e → IsNeedFault P bounds lengths e
    of_shapes ms are (Irreducible m nodes) h = (none, record { within = (are m).0 h.0; left = h.1; some = h.2; first = λ x less within. h.3 x ((are x).1 within) less })
    of_shapes ms are NoMemory h = tt
    of_shapes ms are (Recursion cycle) h = absurd h
    of_shapes ms are (MissingBound m p) h = absurd h
    of_shapes ms are (MissingSize m p) h = absurd h
    of_shapes ms are (TooLarge m) h = absurd h

    pub of_found : AreReducible P P.boot → (e : NeedFault) → IsFaultIn P bounds lengths e → IsNeedFault P bounds lengths e
    of_found reducible (MissingBound m p) h = (none, reducible, h)
    of_found reducible (MissingSize m p) h = (none, reducible, h.0, h.1)
    of_found reducible (TooLarge m) h = (none, reducible, h.0, h.1, h.2)
    of_found reducible NoMemory h = tt
    of_found reducible (Recursion cycle) h = absurd h
    of_found reducible (Irreducible m nodes) h = absurd h

-- ---- the need, where it is found of each method what it makes

module _ (P : Program) (bounds lengths : BoundOf) (table : List Found) (ms order : List ℕ) (first : IsTargetsFirst P P.boot order) (moved : IsPermutation order ms)
    (found : (x : ℕ) → Contains order x → IsMemoryFoundOf P bounds lengths x (found_at table x)) where
  are : (x : ℕ) → Contains ms x ↔ IsWithin P P.boot x
  are = methods_are (IsWithin P P.boot) order ms first.methods moved

  found_of : (x : ℕ) → Contains ms x → IsMemoryFoundOf P bounds lengths x (found_at table x)
  found_of x has = found x ((first.methods.each x).1 ((are x).0 has))

  pub need_of_found : HasNoRecursion P P.boot → ((x : ℕ) → Contains order x → IsLeftWith P x []) → HaveNoCause table ms → (n : Need) → IsStackNeedOf P P.boot n.stack → n.heap ≡ unwrap_or (found_at table P.boot).heap 0 → IsNeedOf P bounds lengths n
  need_of_found calls left none n stack heap = record {
    stack = stack;
    heap = subst (λ (w : ℕ). IsMostMade P bounds lengths (OfMethod P.boot) w) (sym heap) (need_is P bounds lengths table ms are found_of none P.boot ((are P.boot).1 itself));
    calls = calls;
    reducible = λ x within. left x ((first.methods.each x).1 within);
    lines = lines_are P bounds lengths table ms are found_of none.bounds;
    lengths_are = lengths_are P bounds lengths table ms are found_of none.lengths;
    small = none_large P bounds lengths table ms are found_of none;
  }

  pub fault_of_found : (e : NeedFault) → IsFoundFault table ms e → IsFaultIn P bounds lengths e
  fault_of_found = fault_is P bounds lengths table ms are found_of
