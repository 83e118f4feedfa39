-- What resolved classes give, class by class.
use Rattle.std.proofs.Common.{◌≡◌, ℕ, zero, suc, Bool, true, false, not, ◌||◌, eqb, List, [], ◌∷◌, Option, Some, None, refl, sym, ap, ◌∙◌, subst}
use Rattle.std.specs.Prelude.{slice_get, bit_and}
use Rattle.std.specs.Option.{option_map_or}
use Rattle.std.specs.List.{AllByRecursion}
use Rattle.std.proofs.lemmas.Bool.{false≢true, both_ways, eqb-true, eq-eqb, not-true, false_from_ne_true}
use Rattle.class_pool.specs.declared.class.Member.{Member}
use Rattle.class_pool.specs.declared.class.ClassFile.{ClassFile}
use Rattle.class_pool.specs.declared.entry.Entry.{Entry}
use Rattle.class_rules.specs.Flags.{IsSet}
use Rattle.class_rules.specs.Rules.{AreSame, AreNamedOnce}
use Rattle.class_rules.specs.Grammar.{IsClass}
use Rattle.lists.proofs.Lemmas.{none≢some, some_same}
use Rattle.class_lookup.specs.Parts.{is_interface_class, is_abstract_class}
use Rattle.class_pool.specs.Grammar.{has}
use Rattle.class_lookup.specs.Hierarchy.{is_interface, is_concrete, is_on_a_cycle}
use Rattle.class_lookup.specs.Laws as lookups
use Rattle.program_tables.specs.Placed.{lacks_superclass, has_bad_superclass, has_bad_superinterface, is_bad_interface, has_overridden_final}
use Rattle.program_tables.specs.Resolving.{IsResolved}

pub all_at : {X : Type 0} (P : X → Type 0) (xs : List X) (i : ℕ) (x : X) → AllByRecursion P xs → slice_get xs i ≡ Some x → P x
all_at P [] i x a h = absurd (none≢some x h)
all_at P (y ∷ xs) zero x a h = subst P (some_same y x h) a.0
all_at P (y ∷ xs) (suc i) x a h = all_at P xs i x a.1 h

pub map_or_some : {A : Type 0} (f : A → Bool) (o : Option A) → option_map_or f o false ≡ true → (x : A) × (o ≡ Some x) × (f x ≡ true)
map_or_some f None h = absurd (false≢true h)
map_or_some f (Some x) h = (x, refl, h)

pub map_or_at : {A : Type 0} (f : A → Bool) (o : Option A) (x : A) → o ≡ Some x → option_map_or f o false ≡ f x
map_or_at f o x h = ap (λ p. option_map_or f p false) h

-- ---- flags

pub set_of : (flags mask : ℕ) → has flags mask ≡ true → IsSet flags mask
set_of flags mask h e = both_ways (eqb (bit_and flags mask) 0) (not-true (eqb (bit_and flags mask) 0) h) (eq-eqb (bit_and flags mask) 0 e)

pub has_of : (flags mask : ℕ) → IsSet flags mask → has flags mask ≡ true
has_of flags mask s = ap not (false_from_ne_true (eqb (bit_and flags mask) 0) (λ e. s (eqb-true (bit_and flags mask) 0 e)))

-- ---- members

same_back : (pool : List Entry) (m n : Member) → AreSame pool m n → AreSame pool n m
same_back pool m n s = (sym s.0, sym s.1)

distinct_at : (pool : List Entry) (ms : List Member) (i j : ℕ) (x y : Member) → AreNamedOnce pool ms → slice_get ms i ≡ Some x → slice_get ms j ≡ Some y → AreSame pool x y → i ≡ j
distinct_at pool [] i j x y d h e s = absurd (none≢some x h)
distinct_at pool (m ∷ ms) zero zero x y d h e s = refl
distinct_at pool (m ∷ ms) zero (suc j) x y d h e s =
    absurd (subst (λ z. AreSame pool z y → ⊥) (some_same m x h) (all_at (λ n. AreSame pool m n → ⊥) ms j y d.0 e) s)
distinct_at pool (m ∷ ms) (suc i) zero x y d h e s =
    absurd (subst (λ z. AreSame pool z x → ⊥) (some_same m y e) (all_at (λ n. AreSame pool m n → ⊥) ms i x d.0 h) (same_back pool x y s))
distinct_at pool (m ∷ ms) (suc i) (suc j) x y d h e s = ap suc (distinct_at pool ms i j x y d.1 h e s)

pub distinct : (cs : List ClassFile) → IsResolved cs → lookups.DeclareMethodsOnce cs
distinct cs r c i j k x y hk hx hy s =
    let rules = (all_at IsClass cs c k r.grammar hk).rules in
    distinct_at k.pool k.methods i j x y rules.distinct_methods hx hy (ap (λ z. z.name) s, ap (λ z. z.descriptor) s)

-- ---- places in the hierarchy

pub record IsWellPlaced (cs : List ClassFile) (c : ℕ) : Type 0 where
  pub superclass : lacks_superclass cs c ≡ false
  pub right_superclass : has_bad_superclass cs c ≡ false
  pub right_superinterfaces : has_bad_superinterface cs c ≡ false
  pub interface : is_bad_interface cs c ≡ false

six : (a b c d e f : Bool) → not (a || b || c || d || e || f) ≡ true → (a ≡ false) × (c ≡ false) × (d ≡ false) × (e ≡ false)
six false b false false false f h = (refl, refl, refl, refl)
six true b c d e f h = absurd (false≢true h)
six false true c d e f h = absurd (false≢true h)
six false false true d e f h = absurd (false≢true h)
six false false false true e f h = absurd (false≢true h)
six false false false false true f h = absurd (false≢true h)

pub well_placed : (cs : List ClassFile) → IsResolved cs → (c : ℕ) (k : ClassFile) → slice_get cs c ≡ Some k → IsWellPlaced cs c
well_placed cs r c k h =
    let p = six (lacks_superclass cs c) (is_on_a_cycle cs c) (has_bad_superclass cs c) (has_bad_superinterface cs c) (is_bad_interface cs c) (has_overridden_final cs c) (r.linkable c k h).placed in
    record { superclass = p.0; right_superclass = p.1; right_superinterfaces = p.2; interface = p.3 }

-- an interface is abstract
pub interface_not_concrete : (cs : List ClassFile) → IsResolved cs → (c : ℕ) → is_interface cs c ≡ true → is_concrete cs c ≡ true → ⊥
interface_not_concrete cs r c i k =
    let f = map_or_some is_interface_class (slice_get cs c) i in
    let g = map_or_some (λ k. not (is_abstract_class k)) (slice_get cs c) k in
    let rules = (all_at IsClass cs c f.0 r.grammar f.1).rules in
    let abstract = has_of f.0.flags 0x0400 (rules.of_interface (set_of f.0.flags 0x0200 f.2)) in
    let same = some_same g.0 f.0 (sym g.1 ∙ f.1) in
    both_ways (is_abstract_class f.0) (not-true (is_abstract_class f.0) (ap (λ x. not (is_abstract_class x)) (sym same) ∙ g.2)) abstract
