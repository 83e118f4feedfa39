-- Where a list of types of local variables has a type.
use Rattle.std.proofs.Common.{◌≡◌, ℕ, zero, suc, ◌+◌, ◌<◌, ◌≤◌, Bool, true, false, not, cond, List, [], ◌∷◌, length, get_or, All, Option, Some, None, refl, sym, ap, ◌∙◌, subst, arith}
use Rattle.std.specs.Prelude.{slice_get, nat_lt, if◌then◌else◌}
use Rattle.std.specs.Option.{option_map}
use Rattle.std.specs.List.{position, position_or_len, IsDistinct}
use Rattle.std.specs.Bool.{Decides}
use Rattle.std.proofs.lemmas.Bool.{false≢true, lt-ltb, ltb-false}
use Rattle.std.proofs.lemmas.Map.Keys.{apart_from_distinct}
use Rattle.lists.proofs.Lemmas.{none≢some, some_same}
use Rattle.persistent_lists.specs.Tables as tables
use Rattle.persistent_lists.specs.Tables.{ListTable}
use Rattle.verifier_types.specs.declared.types.VarType.{VarType}
use Rattle.verifier_types.specs.declared.types.VarType.TheVariants.{Top}
use Rattle.verifier_types.specs.Seen.{type_seen}
use Rattle.verifier_types.specs.Locals.{types_at}
use Rattle.verifier_types.specs.Numbered.{type_numbered, lists_numbered, AreNumbered, IsOnlyNumber, HoldsUpTo}
use Rattle.verifier_types.proofs.NumberLemmas.{item_seen, beyond_seen}
use Rattle.verifier_types.proofs.SeenLemmas.{seen_as}

-- ---- the number of a type

-- the first that passes a test
first_at : {A : Type 0} (t : A → Bool) (xs : List A) (n : ℕ) (d : A) → n < length xs → t (get_or xs n d) ≡ true → ((j : ℕ) → j < n → t (get_or xs j d) ≡ false) → position_or_len t xs ≡ n
first_at t [] n d lt here before = absurd (omega (arith, lt))
first_at t (x ∷ xs) zero d lt here before = ap (λ b. cond (not b) (1 + position_or_len t xs) 0) here
first_at t (x ∷ xs) (suc n) d lt here before =
    let rest : position_or_len t xs ≡ n = first_at t xs n d (omega (arith, lt)) here (λ j below. before (suc j) (omega (arith, below))) in
    ap (λ b. cond (not b) (1 + position_or_len t xs) 0) (before 0 (omega arith)) ∙ omega (arith, rest)

position_at : {A : Type 0} (t : A → Bool) (xs : List A) (n : ℕ) (d : A) → n < length xs → t (get_or xs n d) ≡ true → ((j : ℕ) → j < n → t (get_or xs j d) ≡ false) → position t xs ≡ Some n
position_at t xs n d lt here before =
    ap (λ (m : ℕ). cond (nat_lt m (length xs)) (Some m) None) (first_at t xs n d lt here before) ∙ ap (λ b. cond b (Some n) None) (lt-ltb n (length xs) lt)

not_true : (b : Bool) → (b ≡ true → ⊥) → b ≡ false
not_true true h = absurd (h refl)
not_true false h = refl

pub only_number : (eq : VarType → VarType → Bool) → ((x y : VarType) → Decides (eq x y) (x ≡ y)) → (types : List VarType) (x : VarType) → IsDistinct eq types → IsOnlyNumber types x (position (eq x) types)
only_number eq decides types x apart = λ n lt is.
    position_at (eq x) types n Top lt ((decides x (get_or types n Top)).1 (sym is))
    (λ j below. not_true (eq x (get_or types j Top))
    (λ t.
    let same : get_or types j Top ≡ get_or types n Top = sym ((decides x (get_or types j Top)).0 t) ∙ sym is in
    false≢true (sym (apart_from_distinct eq types j n Top apart below lt) ∙ (decides (get_or types j Top) (get_or types n Top)).1 same)))

-- ---- where a list has it

pub list_fits : (types : List VarType) (ls : List (List ℕ)) (k : ℕ) → All (All (λ m. m < length types)) ls → All (λ m. m < length types) (get_or ls k [])
list_fits types [] k all = λ j d lt. absurd (omega (arith, lt))
list_fits types (l ∷ ls) zero all = all 0 [] (omega arith)
list_fits types (l ∷ ls) (suc k) all = list_fits types ls k (λ j d lt. all (suc j) d (omega (arith, lt)))

pub item_fits : (types : List VarType) (ns : List ℕ) (i n : ℕ) → All (λ m. m < length types) ns → slice_get ns i ≡ Some n → n < length types
item_fits types [] i n all e = absurd (none≢some n e)
item_fits types (m ∷ ns) zero n all e = subst (λ (j : ℕ). j < length types) (some_same m n e) (all 0 m (omega arith))
item_fits types (m ∷ ns) (suc i) n all e = item_fits types ns i n (λ j d lt. all (suc j) d (omega (arith, lt))) e

module _ (types : List VarType) (t : ListTable) (k : ℕ) (x : VarType) (found : Option ℕ) (are : AreNumbered types t) (only : IsOnlyNumber types x found) where
  number_there : (i : ℕ) (o : Option ℕ) → slice_get (tables.list_at t k) i ≡ o → option_map (λ n. type_seen (type_numbered types n)) o ≡ Some (type_seen x) → slice_get (tables.list_at t k) i ≡ found
  number_there i None at e = absurd (none≢some (type_seen x) e)
  number_there i (Some n) at e =
      let fits : n < length types = item_fits types (tables.list_at t k) i n (list_fits types t.lists k are.3) at in
      at ∙ sym (only n fits (seen_as (type_numbered types n) x (some_same (type_seen (type_numbered types n)) (type_seen x) e)))

  number_at : (i : ℕ) → slice_get (types_at (lists_numbered types t.lists) k) i ≡ Some (type_seen x) → slice_get (tables.list_at t k) i ≡ found
  number_at i e = number_there i (slice_get (tables.list_at t k) i) refl (sym (item_seen types t k i) ∙ e)

  holds_nowhere : (i : ℕ) (o : Option ℕ) → slice_get (tables.list_at t k) i ≡ o → found ≡ None → slice_get (types_at (lists_numbered types t.lists) k) i ≡ Some (type_seen x) → ⊥
  holds_nowhere i None at none e = none≢some (type_seen x) (sym (beyond_seen types t k i at) ∙ e)
  holds_nowhere i (Some n) at none e = none≢some n (sym none ∙ (sym (number_at i e) ∙ at))

  -- a type without a number stands nowhere
  pub without_number : (from : ℕ) → found ≡ None → HoldsUpTo (types_at (lists_numbered types t.lists) k) (type_seen x) from None
  without_number from none = λ i le e. holds_nowhere i (slice_get (tables.list_at t k) i) refl none e

  pub with_number : (number from : ℕ) (o : Option ℕ) → found ≡ Some number → HoldsUpTo (tables.list_at t k) number from o → HoldsUpTo (types_at (lists_numbered types t.lists) k) (type_seen x) from o
  with_number number from None is p = λ i le e. p i le (number_at i e ∙ is)
  with_number number from (Some j) is p = (p.0, (λ i le lt e. p.1 i le lt (number_at i e ∙ is)))

-- ---- where a list holds a number

pub position_holds : (xs : List ℕ) (x from : ℕ) (o : Option ℕ) → tables.IsPosition xs x from o → HoldsUpTo xs x from o
position_holds xs x from None p = p
position_holds xs x from (Some k) p = (p.0, p.2)

-- nothing is said of what stands before the index itself
each_case : (xs : List ℕ) (x count from : ℕ) → ((i : ℕ) → count ≤ i → slice_get xs i ≡ None) → (b : Bool) → nat_lt from count ≡ b → HoldsUpTo xs x from (if b then Some from else None)
each_case xs x count from beyond true is = ((omega arith), (λ i le lt e. omega (arith, le, lt)))
each_case xs x count from beyond false is = λ i le e. let past = ltb-false from count is in none≢some x (sym (beyond i (omega (arith, le, past))) ∙ e)

pub each_holds : (xs : List ℕ) (x count from : ℕ) (o : Option ℕ) → ((i : ℕ) → count ≤ i → slice_get xs i ≡ None) → o ≡ (if nat_lt from count then Some from else None) → HoldsUpTo xs x from o
each_holds xs x count from o beyond is = subst (λ o. HoldsUpTo xs x from o) (sym is) (each_case xs x count from beyond (nat_lt from count) refl)
