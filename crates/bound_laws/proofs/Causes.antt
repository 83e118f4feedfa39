-- One cause at most forbids a bound of a method.
use Rattle.std.proofs.Common.{◌≡◌, ℕ, List, [], Option, refl, sym, ◌∙◌, subst, inl, inr}
use Rattle.std.proofs.lemmas.Bool.{cases_order}
use Rattle.bytecode_model.specs.Program.{Program}
use Rattle.method_flow.specs.Keeping.{BoundOf}
use Rattle.method_flow.specs.Recursion.{IsRecursion}
use Rattle.method_flow.specs.declared.timing.Timing.{Timing}
use Rattle.bound_rules.specs.declared.faults.BoundRefusal.{BoundRefusal}
use Rattle.bound_rules.specs.declared.faults.BoundRefusal.TheVariants.{NoMethod, Recursion, Irreducible, MissingBound, TooLarge, NoMemory}
use Rattle.bound_rules.specs.Bounding.{IsAsked, HasNoRecursion, IsLeftWith, IsFirstIrreducible, AreReducible, IsFirstLacking, HaveLines, IsFirstTooLarge, HasNoCause}
use Rattle.bound_rules.specs.Numbers.{Numbers, AreNumbers, IsPrinted}
use Rattle.bound_laws.specs.Existing.{NumbersExist}
use Rattle.bound_laws.specs.Causes.{IsForbidding, IsSameRefusal, Bears, NamesAreApart, RefusalsAreOne, PrintedIsNotForbidden}

-- the reduction of a method's graph leaves the same nodes
abbrev pub LeftIsOne : Type 0
LeftIsOne = (P : Program) (m : ℕ) (nodes others : List ℕ) → IsLeftWith P m nodes → IsLeftWith P m others → nodes ≡ others

-- ---- of one method

-- the refusal of a method that is asked for
abbrev pub IsOfRoot : Program → Timing → BoundOf → (root : ℕ) → BoundRefusal → Type 0
IsOfRoot P t bound_of root NoMethod = ⊥
IsOfRoot P t bound_of root (Recursion cycle) = IsRecursion P root cycle.items
IsOfRoot P t bound_of root (Irreducible m nodes) = HasNoRecursion P root × IsFirstIrreducible P root m nodes.items
IsOfRoot P t bound_of root (MissingBound m p) = HasNoRecursion P root × AreReducible P root × IsFirstLacking P bound_of root m p
IsOfRoot P t bound_of root (TooLarge m) = HasNoRecursion P root × AreReducible P root × HaveLines P bound_of root × IsFirstTooLarge P t bound_of root m
IsOfRoot P t bound_of root NoMemory = ⊥

module _ (left_one : LeftIsOne) (P : Program) (t : Timing) (bound_of : BoundOf) (root : ℕ) where
  first_irreducible : (m x : ℕ) (nodes others : List ℕ) → IsFirstIrreducible P root m nodes → IsFirstIrreducible P root x others → (m ≡ x) × (nodes ≡ others)
  first_irreducible m x nodes others h k =
      elim (cases_order m x) [
        | inl same ↦ (same, left_one P m nodes others h.left (subst (λ (y : ℕ). IsLeftWith P y others) (sym same) k.left))
        | inr apart ↦
            elim apart [
              | inl less ↦ absurd (h.some (left_one P m nodes [] h.left (k.first m less h.within)))
              | inr more ↦ absurd (k.some (left_one P x others [] k.left (h.first x more k.within)))
            ]
      ]

  not_reducible : (m : ℕ) (nodes : List ℕ) → IsFirstIrreducible P root m nodes → AreReducible P root → ⊥
  not_reducible m nodes h all = h.some (left_one P m nodes [] h.left (all m h.within))

  first_lacking : (m p x q : ℕ) → IsFirstLacking P bound_of root m p → IsFirstLacking P bound_of root x q → (m ≡ x) × (p ≡ q)
  first_lacking m p x q h k =
      elim (cases_order m x) [
        | inl same ↦
            elim (cases_order p q) [
              | inl alike ↦ (same, alike)
              | inr apart ↦
                  elim apart [
                    | inl less ↦ absurd (k.first m p (inr (same, less)) h.lacks)
                    | inr more ↦ absurd (h.first x q (inr (sym same, more)) k.lacks)
                  ]
            ]
        | inr apart ↦
            elim apart [
              | inl less ↦ absurd (k.first m p (inl less) h.lacks)
              | inr more ↦ absurd (h.first x q (inl more) k.lacks)
            ]
      ]

  first_large : (((N : Numbers) × AreNumbers P t bound_of root N → ⊥) → ⊥) → (m x : ℕ) → IsFirstTooLarge P t bound_of root m → IsFirstTooLarge P t bound_of root x → m ≡ x
  first_large exist m x h k =
      elim (cases_order m x) [
        | inl same ↦ same
        | inr apart ↦
            elim apart [
              | inl less ↦ absurd (exist (λ N. (k N.0 N.1).1 m less (h N.0 N.1).0))
              | inr more ↦ absurd (exist (λ N. (h N.0 N.1).1 x more (k N.0 N.1).0))
            ]
      ]

  module _ (exist : HasNoRecursion P root → AreReducible P root → HaveLines P bound_of root → ((N : Numbers) × AreNumbers P t bound_of root N → ⊥) → ⊥) where
    same_of_root : (a b : BoundRefusal) → IsOfRoot P t bound_of root a → IsOfRoot P t bound_of root b → IsSameRefusal a b
    same_of_root NoMethod b h k = absurd h
    same_of_root NoMemory b h k = absurd h
    same_of_root (Recursion cycle) NoMethod h k = absurd k
    same_of_root (Recursion cycle) (Recursion other) h k = tt
    same_of_root (Recursion cycle) (Irreducible x others) h k = absurd (k.0 cycle.items h)
    same_of_root (Recursion cycle) (MissingBound x q) h k = absurd (k.0 cycle.items h)
    same_of_root (Recursion cycle) (TooLarge x) h k = absurd (k.0 cycle.items h)
    same_of_root (Recursion cycle) NoMemory h k = absurd k
    same_of_root (Irreducible m nodes) NoMethod h k = absurd k
    same_of_root (Irreducible m nodes) (Recursion other) h k = absurd (h.0 other.items k)
    same_of_root (Irreducible m nodes) (Irreducible x others) h k = first_irreducible m x nodes.items others.items h.1 k.1
    same_of_root (Irreducible m nodes) (MissingBound x q) h k = absurd (not_reducible m nodes.items h.1 k.1)
    same_of_root (Irreducible m nodes) (TooLarge x) h k = absurd (not_reducible m nodes.items h.1 k.1)
    same_of_root (Irreducible m nodes) NoMemory h k = absurd k
    same_of_root (MissingBound m p) NoMethod h k = absurd k
    same_of_root (MissingBound m p) (Recursion other) h k = absurd (h.0 other.items k)
    same_of_root (MissingBound m p) (Irreducible x others) h k = absurd (not_reducible x others.items k.1 h.1)
    same_of_root (MissingBound m p) (MissingBound x q) h k = first_lacking m p x q h.2 k.2
    same_of_root (MissingBound m p) (TooLarge x) h k = absurd (k.2 m p h.2.lacks)
    same_of_root (MissingBound m p) NoMemory h k = absurd k
    same_of_root (TooLarge m) NoMethod h k = absurd k
    same_of_root (TooLarge m) (Recursion other) h k = absurd (h.0 other.items k)
    same_of_root (TooLarge m) (Irreducible x others) h k = absurd (not_reducible x others.items k.1 h.1)
    same_of_root (TooLarge m) (MissingBound x q) h k = absurd (h.2 x q k.2.lacks)
    same_of_root (TooLarge m) (TooLarge x) h k = first_large (exist h.0 h.1 h.2) m x h.3 k.3
    same_of_root (TooLarge m) NoMemory h k = absurd k

  -- where there is no cause and something is printed, nothing is refused
  not_of_root : HasNoCause P t bound_of root → (printed : Option ℕ) → IsPrinted P t bound_of root printed → (refusal : BoundRefusal) → IsOfRoot P t bound_of root refusal → ⊥
  not_of_root none printed is NoMethod h = h
  not_of_root none printed is (Recursion cycle) h = none.calls cycle.items h
  not_of_root none printed is (Irreducible m nodes) h = not_reducible m nodes.items h.1 none.reducible
  not_of_root none printed is (MissingBound m p) h = none.lines m p h.2.lacks
  not_of_root none printed is (TooLarge m) h = none.size is.numbers is.are m (h.3 is.numbers is.are).0
  not_of_root none printed is NoMemory h = h

-- ---- of the method that is asked for

-- no method is asked for, or the refusal is of one that is
data IsNamed (P : Program) (t : Timing) (bound_of : BoundOf) (named : ℕ → Type 0) (refusal : BoundRefusal) : Type 0 where
  no_method : refusal ≡ NoMethod → ((root : ℕ) → IsAsked P named root → ⊥) → IsNamed P t bound_of named refusal
  of_root : (root : ℕ) → IsAsked P named root → IsOfRoot P t bound_of root refusal → IsNamed P t bound_of named refusal

named_by : (P : Program) (t : Timing) (bound_of : BoundOf) (named : ℕ → Type 0) (refusal : BoundRefusal) → IsForbidding P t bound_of named refusal → IsNamed P t bound_of named refusal
named_by P t bound_of named NoMethod h = no_method refl h
named_by P t bound_of named (Recursion cycle) h = of_root h.0 h.1 h.2
named_by P t bound_of named (Irreducible m nodes) h = of_root h.0 h.1 (h.2, h.3)
named_by P t bound_of named (MissingBound m p) h = of_root h.0 h.1 (h.2, h.3, h.4)
named_by P t bound_of named (TooLarge m) h = of_root h.0 h.1 (h.2, h.3, h.4, h.5)
named_by P t bound_of named NoMemory h = absurd h

one_root : (P : Program) (name_of : ℕ → List ℕ) (name : List ℕ) → NamesAreApart P name_of → (m n : ℕ) → IsAsked P (Bears name_of name) m → IsAsked P (Bears name_of name) n → m ≡ n
one_root P name_of name one m n a b = one m n a.coded b.coded (a.is_named ∙ sym b.is_named)

pub refusals_are_one : LeftIsOne → NumbersExist → RefusalsAreOne
refusals_are_one left_one exist P types t bound_of name_of name a b typed lawful costs one forbids forbids' = by (named_by P t bound_of (Bears name_of name) a forbids) (named_by P t bound_of (Bears name_of name) b forbids')
  where
    by : IsNamed P t bound_of (Bears name_of name) a → IsNamed P t bound_of (Bears name_of name) b → IsSameRefusal a b
    by (no_method is none) (no_method is' none') = subst (λ (x : BoundRefusal). IsSameRefusal x b) (sym is) (subst (λ (y : BoundRefusal). IsSameRefusal NoMethod y) (sym is') tt)
    by (no_method is none) (of_root root asked h) = absurd (none root asked)
    by (of_root root asked h) (no_method is none) = absurd (none root asked)
    by (of_root root asked h) (of_root other asked' k) =
        same_of_root left_one P t bound_of root (λ calls reducible lines missing. exist P types t bound_of root typed lawful costs asked.coded calls reducible lines missing) a b h
        (subst (λ (r : ℕ). IsOfRoot P t bound_of r b) (one_root P name_of name one other root asked' asked) k)

pub printed_is_not_forbidden : LeftIsOne → PrintedIsNotForbidden
printed_is_not_forbidden left_one P t bound_of name_of name root printed refusal one asked none is forbids = by (named_by P t bound_of (Bears name_of name) refusal forbids)
  where
    by : IsNamed P t bound_of (Bears name_of name) refusal → ⊥
    by (no_method is' none') = none' root asked
    by (of_root other asked' h) = not_of_root left_one P t bound_of root none printed is refusal (subst (λ (r : ℕ). IsOfRoot P t bound_of r refusal) (one_root P name_of name one other root asked' asked) h)
