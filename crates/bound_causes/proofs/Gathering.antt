-- The search for loops without a bound through methods that rise.
use Rattle.std.proofs.Common.{◌≡◌, ℕ, ◌+◌, ◌<◌, List, [], ◌∷◌, ◌++◌, length, get_or, take, Contains, Option, Some, None, sym, ◌∙◌, subst, inl, inr, arith}
use Rattle.std.specs.List.Sorted.{IsStrictlyIncreasing}
use Rattle.std.proofs.lemmas.Bool.{cases_lt}
use Rattle.std.proofs.lemmas.List.{get_or-take, length-take-le, take_more}
use Rattle.std.proofs.lemmas.List.Elements.{Contains-append_left, Contains-push, Contains-push_cases}
use Rattle.lists.specs.Members.{place_of, contains_at, rising_pair, rising_all}
use Rattle.section_check.specs.Least.{IsLeast}
use Rattle.bytecode_model.specs.Program.{Program}
use Rattle.method_flow.specs.Keeping.{BoundOf}
use Rattle.method_flow.specs.Regions.{IsWithin, AreMethodsOf}
use Rattle.bound_rules.specs.Bounding.{IsLeftWith, AreReducible, LacksLine, IsFirstLacking, HaveLines}
use Rattle.bound_rules.specs.declared.faults.BoundRefusal.{BoundRefusal}
use Rattle.bound_rules.specs.declared.faults.BoundRefusal.TheVariants.{NoMethod, Recursion, Irreducible, MissingBound, TooLarge, NoMemory}
use Rattle.bound_causes.specs.Headers.{HeadsUnbounded}
use Rattle.bound_causes.specs.Causes.{IsLoopCause, IsUnboundedIn, IsIrreducibleBy, IsLeastUnbounded, AreSearched, IsIrreducibleAmong, found_or}

-- ---- methods that rise

-- those before a place are less than the one there
pub below_next : (ms : List ℕ) (i : ℕ) → IsStrictlyIncreasing ms → i < length ms → (x : ℕ) → Contains (take i ms) x → x < get_or ms i 0
below_next ms i rising below x has =
    let at = place_of (take i ms) x has in
    let long = length-take-le i ms (omega arith) in
    let lt : at.0 < i = let inside = at.1 in omega arith in
    let same = get_or-take i ms at.0 0 lt in
    let up = rising_pair ms rising at.0 i lt below in
    let is = at.2 in
    omega arith

-- and those that are less stand before it
pub stands_before : (ms : List ℕ) (i : ℕ) → IsStrictlyIncreasing ms → i < length ms → (x : ℕ) → Contains ms x → x < get_or ms i 0 → Contains (take i ms) x
stands_before ms i rising below x has less =
    let at = place_of ms x has in
    elim (cases_lt at.0 i) [
      | inl lt ↦
          let long = length-take-le i ms (omega arith) in
          contains_at (take i ms) at.0 x (omega arith) (get_or-take i ms at.0 0 lt ∙ at.2)
      | inr past ↦ let up = rising_all ms rising i at.0 (omega arith) at.1 in let is = at.2 in absurd (omega arith)
    ]

-- ---- one method more

module _ (P : Program) (bound_of : BoundOf) where
  module _ (ms : List ℕ) (m : ℕ) (rises : (x : ℕ) → Contains ms x → x < m) where
    more_reducible : ((x : ℕ) → Contains ms x → IsLeftWith P x []) → IsLeftWith P m [] → (x : ℕ) → Contains (ms ++ m ∷ []) x → IsLeftWith P x []
    more_reducible before here x has =
        elim (Contains-push_cases ms m x has) [ inl there ↦ before x there | inr same ↦ (let Q : ℕ → Type 0 = λ y. IsLeftWith P y [] in subst Q same here) ]

    -- what holds of no place of them, and of none of the next
    none_more : ((x p : ℕ) → Contains ms x → ¬ HeadsUnbounded P bound_of x p) → ((p : ℕ) → ¬ HeadsUnbounded P bound_of m p) → (x p : ℕ) → Contains (ms ++ m ∷ []) x → ¬ HeadsUnbounded P bound_of x p
    none_more before here x p has h =
        elim (Contains-push_cases ms m x has) [ inl there ↦ before x p there h | inr same ↦ (let Q : ℕ → Type 0 = λ y. HeadsUnbounded P bound_of y p in here p (subst Q (sym same) h)) ]

    first_here : ((x p : ℕ) → Contains ms x → ¬ HeadsUnbounded P bound_of x p) → (place : ℕ) → IsLeast (HeadsUnbounded P bound_of m) (Some place) → IsLeastUnbounded P bound_of (ms ++ m ∷ []) (m, place)
    first_here before place here = record {
      among = Contains-push ms m;
      heads = here.0;
      first = λ x p has earlier h.
          elim (Contains-push_cases ms m x has) [
            | inl there ↦ before x p there h
            | inr same ↦
                let Q : ℕ → Type 0 = λ y. HeadsUnbounded P bound_of y p in
                elim earlier [
                  | inl less ↦ (let lt : x < m = less in let eq : m ≡ x = same in absurd (omega arith))
                  | inr at ↦ here.1 p at.1 (subst Q (sym same) h)
                ]
          ];
    }

    first_before : (found : ℕ × ℕ) → IsLeastUnbounded P bound_of ms found → IsLeastUnbounded P bound_of (ms ++ m ∷ []) found
    first_before found is = record {
      among = Contains-append_left ms (m ∷ []) found.0 is.among;
      heads = is.heads;
      first = λ x p has earlier h.
          elim (Contains-push_cases ms m x has) [
            | inl there ↦ is.first x p there earlier h
            | inr same ↦
                let up : found.0 < m = rises found.0 is.among in
                let eq : m ≡ x = same in
                elim earlier [ inl less ↦ (let lt : x < found.0 = less in absurd (omega arith)) | inr at ↦ (let is' : x ≡ found.0 = at.0 in absurd (omega arith)) ]
          ];
    }

    pub one_more : (found : Option (ℕ × ℕ)) (place : Option ℕ) → AreSearched P bound_of ms found → IsUnboundedIn P bound_of m place → AreSearched P bound_of (ms ++ m ∷ []) (found_or found m place)
    one_more None None s here = record { reducible = more_reducible s.reducible here.0; least = none_more s.least here.1 }
    one_more None (Some p) s here = record { reducible = more_reducible s.reducible here.0; least = first_here s.least p here.1 }
    one_more (Some found) place s here = record { reducible = more_reducible s.reducible here.0; least = first_before found s.least }

  -- in the list of all
  pub next_searched : (all : List ℕ) (i m : ℕ) (found : Option (ℕ × ℕ)) (place : Option ℕ) → IsStrictlyIncreasing all → i < length all → m ≡ get_or all i 0 → AreSearched P bound_of (take i all) found
      → IsUnboundedIn P bound_of m place → AreSearched P bound_of (take (i + 1) all) (found_or found m place)
  next_searched all i m found place rising below is s here =
      let Q : List ℕ → Type 0 = λ xs. AreSearched P bound_of xs (found_or found m place) in
      let R : ℕ → Type 0 = λ x. IsUnboundedIn P bound_of x place in
      let S : ℕ → Type 0 = λ x. AreSearched P bound_of (take i all ++ x ∷ []) (found_or found x place) in
      let more : AreSearched P bound_of (take i all ++ m ∷ []) (found_or found m place) = subst S (sym is) (one_more (take i all) (get_or all i 0) (below_next all i rising below) found place s (subst R is here)) in
      let T : ℕ → Type 0 = λ x. take (i + 1) all ≡ take i all ++ x ∷ [] in
      subst Q (sym (subst T (sym is) (take_more all i 0 below))) more

  -- the first method that isn't reducible
  pub irreducible_among : (all : List ℕ) (i m : ℕ) (found : Option (ℕ × ℕ)) (e : BoundRefusal) → IsStrictlyIncreasing all → i < length all → m ≡ get_or all i 0 → AreSearched P bound_of (take i all) found
      → IsIrreducibleBy P m e → IsIrreducibleAmong P all e
  irreducible_among all i m found NoMethod rising below is s h = h
  irreducible_among all i m found (Recursion cycle) rising below is s h = h
  irreducible_among all i m found (Irreducible n nodes) rising below is s h =
      let at : get_or all i 0 ≡ n = sym is ∙ sym h.0 in
      let Q : ℕ → Type 0 = λ x. IsLeftWith P x nodes.items in
      record {
        among = contains_at all i n below at;
        left = subst Q (sym h.0) h.1;
        some = h.2;
        first = λ x has less. s.reducible x (stands_before all i rising below x has (omega arith));
      }
  irreducible_among all i m found (MissingBound n p) rising below is s h = h
  irreducible_among all i m found (TooLarge n) rising below is s h = h
  irreducible_among all i m found NoMemory rising below is s h = tt

  -- ---- over all that may run

  module _ (root : ℕ) (all : List ℕ) (methods : AreMethodsOf (IsWithin P root) all) where
    unbounded_of : (m p : ℕ) → LacksLine P bound_of root m p → HeadsUnbounded P bound_of m p
    unbounded_of m p l = record { heads = record { graph = l.graph; is_graph = l.is_graph; header = l.header }; none = l.none }

    pub all_reducible : (found : Option (ℕ × ℕ)) → AreSearched P bound_of all found → AreReducible P root
    all_reducible found s m within = s.reducible m ((methods.each m).1 within)

    pub have_lines : AreSearched P bound_of all None → HaveLines P bound_of root
    have_lines s m p l = s.least m p ((methods.each m).1 l.within) (unbounded_of m p l)

    pub first_lacking : (found : ℕ × ℕ) → AreSearched P bound_of all (Some found) → IsFirstLacking P bound_of root found.0 found.1
    first_lacking found s = record {
      lacks = record { within = (methods.each found.0).0 s.least.among; graph = s.least.heads.heads.graph; is_graph = s.least.heads.heads.is_graph; header = s.least.heads.heads.header; none = s.least.heads.none };
      first = λ x q before l. s.least.first x q ((methods.each x).1 l.within) before (unbounded_of x q l);
    }

    pub loop_cause : (e : BoundRefusal) → IsIrreducibleAmong P all e → IsLoopCause P bound_of root e
    loop_cause NoMethod h = h
    loop_cause (Recursion cycle) h = h
    loop_cause (Irreducible m nodes) h =
        record { within = (methods.each m).0 h.among; left = h.left; some = h.some; first = λ x less within. h.first x ((methods.each x).1 within) less }
    loop_cause (MissingBound m p) h = absurd h
    loop_cause (TooLarge m) h = h
    loop_cause NoMemory h = tt
