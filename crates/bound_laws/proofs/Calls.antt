-- Where no method that may run calls itself, by however many calls, each chain of calls comes to an end.
use Rattle.std.proofs.Common.{◌≡◌, ℕ, zero, suc, ◌+◌, ◌<◌, ◌≤◌, List, [], ◌∷◌, ◌++◌, length, Contains, Option, Some, None, IsSome, refl, sym, subst, inl, inr, arith}
use Rattle.std.specs.Prelude.{slice_get}
use Rattle.std.specs.List.{range_with_len}
use Rattle.std.proofs.lemmas.List.FromFn.{length-range_with_len}
use Rattle.std.proofs.lemmas.List.Elements.{All-weaker, All-contains_itself, Contains-get_or}
use Rattle.std.proofs.lemmas.Bool.{false≢true}
use Rattle.std.proofs.lemmas.Option.{slice_get_within}
use Rattle.lists.proofs.Lemmas.{onto_some}
use Rattle.lists.specs.Members.{at_head, in_tail, cons_cases, nil_contains, has_or_not}
use Rattle.loop_nest.proofs.Elements.{range_contains}
use Rattle.method_cache.specs.Regions.Region.{AreDistinct}
use Rattle.bytecode_model.specs.Program.{Program, Method, Body, body_of}
use Rattle.method_flow.specs.Recursion.{MayCall, IsCallChain, IsRecursion}
use Rattle.method_flow.specs.Regions.{IsWithin}
use Rattle.method_flow.specs.Regions.IsWithin.{itself, calls}
use Rattle.bound_rules.specs.Bounding.{HasNoRecursion}
use Rattle.bound_rules.specs.Laws.{CallsEnd}
use Rattle.bound_rules.specs.Laws.CallsEnd.{ends}
use Rattle.bound_laws.proofs.Lists.{parts_at, without}

-- ---- lists of different items

-- no item stands twice
abbrev pub Once : List ℕ → Type 0
Once [] = Unit {0}
Once (x ∷ xs) = (Contains xs x → ⊥) × Once xs

-- such a list is no longer than one that has all its items
once_short : (xs ys : List ℕ) → Once xs → ((x : ℕ) → Contains xs x → Contains ys x) → length xs ≤ length ys
once_short [] ys once in_ys = omega arith
once_short (x ∷ xs) ys once in_ys =
    let less = without ys x (in_ys x (at_head x xs)) in
    let rest = once_short xs less.0 once.1 (λ y c. less.2 y (in_ys y (in_tail x y xs c)) (λ same. once.0 (subst (λ (z : ℕ). Contains xs z) same c))) in
    let shorter = less.1 in
    omega arith

pub once_below : (count : ℕ) (xs : List ℕ) → Once xs → ((x : ℕ) → Contains xs x → x < count) → length xs ≤ count
once_below count xs once below =
    let le = once_short xs (range_with_len 0 count) once (λ x c. range_contains count x (below x c)) in
    let long = length-range_with_len 0 count in
    omega arith

once_distinct : (xs : List ℕ) → Once xs → AreDistinct xs
once_distinct [] once i j d less below = absurd (omega arith)
once_distinct (x ∷ xs) once i zero d less below = absurd (omega arith)
once_distinct (x ∷ xs) once zero (suc j) d less below = λ same. once.0 (subst (λ (z : ℕ). Contains xs z) (sym same) (Contains-get_or xs j d (omega arith)))
once_distinct (x ∷ xs) once (suc i) (suc j) d less below = once_distinct xs once.1 i j d (omega arith) (omega arith)

-- ---- what may run

module _ (P : Program) where
  pub within_on : {a b x : ℕ} → IsWithin P a b → MayCall P b x → IsWithin P a x
  within_on itself c = calls c.place c.start c.call c.is_target itself
  within_on (calls p start call target more) c = calls p start call target (within_on more c)

-- ---- chains of calls, the latest method first

module _ (P : Program) where
  -- the first of these methods may call a method, and each later one the one before it
  abbrev AreCallers : ℕ → List ℕ → Type 0
  AreCallers m [] = Unit {0}
  AreCallers m (n ∷ ns) = MayCall P n m × AreCallers n ns

  -- a chain that comes back is a cycle
  collected : (root t : ℕ) (before : List ℕ) (a : ℕ) (as' rest : List ℕ) → IsCallChain P t (a ∷ as') → AreCallers a (before ++ t ∷ rest) → Once (a ∷ as') → Once (before ++ t ∷ rest) → ((x : ℕ) → Contains (a ∷ as') x → Contains (before ++ t ∷ rest) x → ⊥)
      → ((x : ℕ) → Contains (a ∷ as') x → IsWithin P root x) → ((x : ℕ) → Contains (before ++ t ∷ rest) x → IsWithin P root x) → (cycle : List ℕ) × IsRecursion P root cycle
  collected root t [] a as' rest chain path once once' apart within within' = (
    t ∷ a ∷ as',
    record {
      calls = (path.0, chain);
      within = All-weaker (Contains (t ∷ a ∷ as')) (IsWithin P root) (λ x c. elim (cons_cases t x (a ∷ as') c) [
        | inl same ↦ subst (λ (z : ℕ). IsWithin P root z) same (within' t (at_head t rest))
        | inr there ↦ within x there
      ]) (t ∷ a ∷ as') (All-contains_itself (t ∷ a ∷ as'));
      distinct = once_distinct (t ∷ a ∷ as') (λ c. apart t c (at_head t rest), once);
    },
  )
  collected root t (b ∷ bs) a as' rest chain path once once' apart within within' =
      collected root t bs b (a ∷ as') rest (path.0, chain) path.1 (λ c. apart b c (at_head b (bs ++ t ∷ rest)), once) once'.1
      (λ x c c'. elim (cons_cases b x (a ∷ as') c) [
        | inl same ↦ once'.0 (subst (λ (z : ℕ). Contains (bs ++ t ∷ rest) z) (sym same) c')
        | inr there ↦ apart x there (in_tail b x (bs ++ t ∷ rest) c')
      ])
      (λ x c. elim (cons_cases b x (a ∷ as') c) [
        | inl same ↦ subst (λ (z : ℕ). IsWithin P root z) same (within' b (at_head b (bs ++ t ∷ rest)))
        | inr there ↦ within x there
      ])
      (λ x c. within' x (in_tail b x (bs ++ t ∷ rest) c))

  module _ (root count : ℕ) (none : HasNoRecursion P root) (below : (x : ℕ) → IsWithin P root x → x < count) where
    comes_back : (m : ℕ) (path : List ℕ) → AreCallers m path → Once (m ∷ path) → ((x : ℕ) → Contains (m ∷ path) x → IsWithin P root x) → (t : ℕ) → MayCall P m t → Contains (m ∷ path) t → ⊥
    comes_back m path callers once within t call has =
        elim (cons_cases m t path has) [
          | inl same ↦
              none (m ∷ []) (record {
                calls = subst (λ (z : ℕ). MayCall P m z) (sym same) call;
                within = All-weaker (Contains (m ∷ [])) (IsWithin P root) (λ x c. elim (cons_cases m x [] c) [ inl e ↦ within x (subst (λ (z : ℕ). Contains (m ∷ path) z) e (at_head m path)) | inr n ↦ absurd (nil_contains x n) ]) (m ∷ [])
                    (All-contains_itself (m ∷ []));
                distinct = once_distinct (m ∷ []) (λ c. nil_contains m c, tt);
              })
          | inr there ↦
              let r = parts_at path t there in
              let at : (x : ℕ) → Contains (r.0 ++ t ∷ r.1) x → Contains path x = λ x c. subst (λ (zs : List ℕ). Contains zs x) (sym r.2) c in
              let c = collected root t r.0 m [] r.1 call (subst (λ (zs : List ℕ). AreCallers m zs) r.2 callers) (λ c. nil_contains m c, tt) (subst Once r.2 once.1)
              (λ x c c'. elim (cons_cases m x [] c) [ inl e ↦ once.0 (subst (λ (z : ℕ). Contains path z) (sym e) (at x c')) | inr n ↦ nil_contains x n ])
              (λ x c. elim (cons_cases m x [] c) [ inl e ↦ within x (subst (λ (z : ℕ). Contains (m ∷ path) z) e (at_head m path)) | inr n ↦ absurd (nil_contains x n) ])
              (λ x c. within x (in_tail m x path (at x c)))
              in
              none c.0 c.1
        ]

    ends_behind : (more m : ℕ) (path : List ℕ) → AreCallers m path → Once (m ∷ path) → ((x : ℕ) → Contains (m ∷ path) x → IsWithin P root x) → count < length (m ∷ path) + more → CallsEnd P m
    ends_behind zero m path callers once within near = let le = once_below count (m ∷ path) once (λ x c. below x (within x c)) in absurd (omega arith)
    ends_behind (suc more) m path callers once within near =
        ends (λ t call. ends_behind more t (m ∷ path) (call, callers) (λ has. comes_back m path callers once within t call has, once)
        (λ x c. elim (cons_cases t x (m ∷ path) c) [ inl e ↦ subst (λ (z : ℕ). IsWithin P root z) e (within_on P (within m (at_head m path)) call) | inr there ↦ within x there ])
        (omega arith))

    pub calls_end : CallsEnd P root
    calls_end =
        ends_behind count root [] tt (λ c. nil_contains root c, tt) (λ x c. elim (cons_cases root x [] c) [ inl e ↦ subst (λ (z : ℕ). IsWithin P root z) e itself | inr n ↦ absurd (nil_contains x n) ]) (omega arith)

-- ---- the next method in an order

module _ (P : Program) (root : ℕ) (done : List ℕ) where
  -- where a method isn't done, there is one that isn't and may call done ones alone
  pub next_method : {x : ℕ} → CallsEnd P x → IsWithin P root x → (Contains done x → ⊥) → ((m : ℕ) → IsWithin P root m → (Contains done m → ⊥) → ((y : ℕ) → MayCall P m y → Contains done y) → ⊥) → ⊥
  next_method (ends {m = x} further) within missing found =
      found x within missing (λ y call. elim (has_or_not done y) [
        | inl has ↦ has
        | inr none ↦ absurd (next_method (further y call) (within_on P within call) none found)
      ])

-- a method with code is one of the program's
pub coded_below : (P : Program) (m : ℕ) → IsSome (body_of P m) → m < length P.methods
coded_below P m coded = by (body_of P m) refl coded
  where
    by : (o : Option Body) → body_of P m ≡ o → IsSome o → m < length P.methods
    by None is none = absurd (false≢true none)
    by (Some b) is some = let r = onto_some (slice_get P.methods m) (λ (k : Method). k.body) b is in slice_get_within P.methods m r.0 r.1
