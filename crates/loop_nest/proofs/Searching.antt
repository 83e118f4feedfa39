-- The search for the members of a loop, step by step.
use Rattle.std.proofs.Common.{◌≡◌, ◌≢◌, ℕ, zero, suc, ◌+◌, ◌*◌, ◌<◌, ◌≤◌, ◌⊎◌, Bool, true, false, Option, Some, None, eqb, not, List, [], ◌∷◌, ◌++◌, length, get_or, set, replicate, filter, All, Contains, refl, sym, ap, ◌∙◌, subst, inl, inr, arith}
use Rattle.std.proofs.lemmas.Bool.{cases_eq, cases_lt, cases_Bool, eq-eqb, ne_eqb, eqb-true}
use Rattle.std.proofs.lemmas.List.{length-set, length-map, get_or-set_same, get_or-set_other, get_or_past, get_or-replicate, length-replicate}
use Rattle.std.proofs.lemmas.List.Elements.{All-contains, All-append, All-from_get_or, Contains-append_left, Contains-append_right, Contains-push, Contains-push_cases, Contains-append_cases, Contains-get_or}
use Rattle.lists.specs.Members.{nil_contains, map_contains}
use Rattle.loop_nest.specs.Digraph.{Digraph, Edge, IsDigraph, sources_of}
use Rattle.loop_nest.specs.Search.{ReachesOneOf, mark_at, IsSearch, AreFound, AreUnmarked, IsMarkedWith}
use Rattle.loop_nest.proofs.Elements.{from_map, filter_contains, from_filter, kept_at, dropped_at, filter_at_most}
use Rattle.loop_nest.proofs.Around.{Around, around_from, leads_around}
use Rattle.loop_nest.proofs.Around.Around.{rest, through}
use Rattle.loop_nest.proofs.Ends.{ends_within}

pub sources_has : (es : List (ℕ × ℕ)) (u v : ℕ) → Contains es (u, v) → Contains (sources_of es v) u
sources_has es u v has =
    map_contains (λ (e : ℕ × ℕ). e.0) (filter (λ e. eqb e.1 v) es) (u, v) (filter_contains (λ (e : ℕ × ℕ). eqb e.1 v) es (u, v) (eq-eqb v v refl) has)

pub from_sources : (es : List (ℕ × ℕ)) (u v : ℕ) → Contains (sources_of es v) u → Contains es (u, v)
from_sources es u v has =
    let r = from_map (λ (e : ℕ × ℕ). e.0) (filter (λ e. eqb e.1 v) es) u has in
    let k = from_filter (λ (e : ℕ × ℕ). eqb e.1 v) es r.0 r.1 in
    let P : ℕ → Type 0 = λ z. Contains es (z, r.0.1) in
    let Q : ℕ → Type 0 = λ z. Contains es (u, z) in
    subst Q (eqb-true r.0.1 v k.1) (subst P r.2 k.0)

pub few_sources : (es : List (ℕ × ℕ)) (v : ℕ) → length (sources_of es v) ≤ length es
few_sources es v =
    let e = length-map (filter (λ (e : ℕ × ℕ). eqb e.1 v) es) (λ e. e.0) in
    let f = filter_at_most (λ (e : ℕ × ℕ). eqb e.1 v) es in
    omega arith

-- a list of equal elements has this one at each place
pub same_everywhere : {X : Type 0} (n i : ℕ) (x : X) → get_or (replicate n x) i x ≡ x
same_everywhere n i x =
    elim (cases_lt i n) [
      | inl below ↦ get_or-replicate n i x x below
      | inr above ↦ get_or_past (replicate n x) i x (omega (arith, length-replicate n x))
    ]

-- a list has fewer elements of a kind when one of them is replaced by another
pub fewer-set : {X : Type 0} (p : X → Bool) (xs : List X) (i : ℕ) (y d : X) → i < length xs → p (get_or xs i d) ≡ true → p y ≡ false → length (filter p (set xs i y)) < length (filter p xs)
fewer-set p [] i y d lt old new' = absurd (omega arith)
fewer-set p (x ∷ xs) zero y d lt old new' =
    let a = ap length (dropped_at p y xs new') in
    let b = ap length (kept_at p x xs old) in
    omega arith
fewer-set p (x ∷ xs) (suc i) y d lt old new' =
    let rest = fewer-set p xs i y d (omega arith) old new' in
    elim (cases_Bool (p x)) [
      | inl yes' ↦ let a = ap length (kept_at p x (set xs i y) yes') in let b = ap length (kept_at p x xs yes') in omega arith
      | inr no' ↦ let a = ap length (dropped_at p x (set xs i y) no') in let b = ap length (dropped_at p x xs no') in omega arith
    ]

abbrev pub is_other : ℕ → Option ℕ → Bool
is_other n None = true
is_other n (Some k) = not (eqb k n)

-- how many nodes are not marked with the number
pub unmarked : ℕ → List (Option ℕ) → ℕ
unmarked n marks = length (filter (is_other n) marks)

other_is : (n : ℕ) (o : Option ℕ) → o ≢ Some n → is_other n o ≡ true
other_is n None ne = refl
other_is n (Some k) ne = ap not (ne_eqb k n (λ e. ne (ap (λ (z : ℕ). Some z) e)))

pub unmarked-set : (n x : ℕ) (marks : List (Option ℕ)) → x < length marks → mark_at marks x ≢ Some n → unmarked n (set marks x (Some n)) < unmarked n marks
unfolding unmarked
unmarked-set n x marks lt ne =
    fewer-set (is_other n) marks x (Some n) None lt (other_is n (mark_at marks x) ne) (ap not (eq-eqb n n refl))

pub scaled : (a b k : ℕ) → a < b → a * suc k + suc k ≤ b * suc k
scaled a b k lt = grind arith

pub fewer_left : (a b m r k : ℕ) → a < b → k ≤ m → a * suc m + (r + k) < b * suc m + suc r
fewer_left a b m r k lt most = let s = scaled a b m lt in omega arith

set_at : (n x : ℕ) (marks : List (Option ℕ)) → x < length marks → mark_at (set marks x (Some n)) x ≡ Some n
set_at n x marks lt = get_or-set_same marks x (Some n) None lt

set_keeps : (n x y : ℕ) (marks : List (Option ℕ)) → x < length marks → mark_at marks y ≡ Some n → mark_at (set marks x (Some n)) y ≡ Some n
set_keeps n x y marks lt at =
    elim (cases_eq y x) [
      | inl same ↦ ap (λ (z : ℕ). mark_at (set marks x (Some n)) z) same ∙ set_at n x marks lt
      | inr other ↦ get_or-set_other marks x y (Some n) None other ∙ at
    ]

set_cases : (n x y : ℕ) (marks : List (Option ℕ)) → mark_at (set marks x (Some n)) y ≡ Some n → (y ≡ x) ⊎ (mark_at marks y ≡ Some n)
set_cases n x y marks at =
    elim (cases_eq y x) [
      | inl same ↦ inl same
      | inr other ↦ inr (sym (get_or-set_other marks x y (Some n) None other) ∙ at)
    ]

pub shorter : (n x : ℕ) (left : List ℕ) → All (λ y. y < n) (left ++ x ∷ []) → All (λ y. y < n) left
shorter n x left all = All-from_get_or (λ y. y < n) left 0 (λ i lt.
    All-contains (λ y. y < n) (left ++ x ∷ []) (get_or left i 0) all (Contains-append_left left (x ∷ []) (get_or left i 0) (Contains-get_or left i 0 lt)))

pub search_start : (g : Digraph) (h : ℕ) (ends : List ℕ) (n : ℕ) (marks : List (Option ℕ)) → h < g.nodes → length marks ≡ g.nodes → AreUnmarked n marks → All (λ x. x < g.nodes) ends → IsSearch g h ends n ends (set marks h (Some n))
search_start g h ends n marks below long fresh within = record {
  long = length-set marks h (Some n) ∙ long;
  stack_within = within;
  found = λ x at. elim (set_cases n h x marks at) [ inl same ↦ inl same | inr old ↦ absurd (fresh x old) ];
  waiting = λ x has.
      elim (cases_eq x h) [
        | inl same ↦ inl same
        | inr other ↦ inr (record { source = x; listed = has; leads = leads_around (rest other) })
      ];
  from_header = set_at n h marks (omega arith);
  from_ends = λ x has. inr has;
  closed = λ u x at other e. elim (set_cases n h x marks at) [ inl same ↦ absurd (other same) | inr old ↦ absurd (fresh x old) ];
}

pub search_skips : {g : Digraph} {h : ℕ} {ends : List ℕ} {n : ℕ} {marks : List (Option ℕ)} (left : List ℕ) (x : ℕ) → IsSearch g h ends n (left ++ x ∷ []) marks → mark_at marks x ≡ Some n → IsSearch g h ends n left marks
search_skips {g} {h} {ends} {n} {marks} left x s at =
    let P : ℕ → Type 0 = λ y. mark_at marks y ≡ Some n in
    let settle : (y : ℕ) → (mark_at marks y ≡ Some n) ⊎ Contains (left ++ x ∷ []) y → (mark_at marks y ≡ Some n) ⊎ Contains left y =
    λ y o.
    elim o [
      | inl m ↦ inl m
      | inr w ↦ elim (Contains-push_cases left x y w) [ inl old ↦ inr old | inr same ↦ inl (subst P same at) ]
    ] in
    record {
      long = s.long;
      stack_within = shorter g.nodes x left s.stack_within;
      found = s.found;
      waiting = λ y has. s.waiting y (Contains-append_left left (x ∷ []) y has);
      from_header = s.from_header;
      from_ends = λ y has. settle y (s.from_ends y has);
      closed = λ u y m other e. settle u (s.closed u y m other e);
    }

pub search_takes : {g : Digraph} {h : ℕ} {ends : List ℕ} {n : ℕ} {marks : List (Option ℕ)} (left : List ℕ) (x : ℕ) → IsDigraph g → IsSearch g h ends n (left ++ x ∷ []) marks → mark_at marks x ≢ Some n → IsSearch g h ends n (left ++ sources_of g.edges x) (set marks x (Some n))
search_takes {g} {h} {ends} {n} {marks} left x wf s fresh =
    let long = s.long in
    let srcs = sources_of g.edges x in
    let new' = set marks x (Some n) in
    let below : x < g.nodes = All-contains (λ y. y < g.nodes) (left ++ x ∷ []) x s.stack_within (Contains-push left x) in
    let inside : x < length marks = omega arith in
    let not_header : x ≢ h = λ e. fresh (ap (λ (z : ℕ). mark_at marks z) e ∙ s.from_header) in
    let reached : (x ≡ h) ⊎ ReachesOneOf g h ends x = s.waiting x (Contains-push left x) in
    let settle : (y : ℕ) → (mark_at marks y ≡ Some n) ⊎ Contains (left ++ x ∷ []) y → (mark_at new' y ≡ Some n) ⊎ Contains (left ++ srcs) y =
    λ y o.
    elim o [
      | inl m ↦ inl (set_keeps n x y marks inside m)
      | inr w ↦
          elim (Contains-push_cases left x y w) [
            | inl old ↦ inr (Contains-append_left left srcs y old)
            | inr same ↦ let P : ℕ → Type 0 = λ z. mark_at new' z ≡ Some n in inl (subst P same (set_at n x marks inside))
          ]
    ] in
    record {
      long = length-set marks x (Some n) ∙ long;
      stack_within = All-append (λ y. y < g.nodes) left srcs (shorter g.nodes x left s.stack_within) (All-from_get_or (λ y. y < g.nodes) srcs 0 (λ i lt.
          (ends_within wf (get_or srcs i 0) x (from_sources g.edges (get_or srcs i 0) x (Contains-get_or srcs i 0 lt))).0));
      found = λ y at.
          elim (set_cases n x y marks at) [
            | inl same ↦ let P : ℕ → Type 0 = λ z. (z ≡ h) ⊎ ReachesOneOf g h ends z in subst P (sym same) reached
            | inr old ↦ s.found y old
          ];
      waiting = λ y has.
          elim (Contains-append_cases left srcs y has) [
            | inl old ↦ s.waiting y (Contains-append_left left (x ∷ []) y old)
            | inr new' ↦
                elim (cases_eq y h) [
                  | inl at_h ↦ inl at_h
                  | inr off_h ↦
                      elim reached [
                        | inl at ↦ absurd (not_header at)
                        | inr r ↦
                            inr (record {
                              source = r.source;
                              listed = r.listed;
                              leads = leads_around (through off_h (from_sources g.edges y x new') (around_from r.leads.1 r.leads.2));
                            })
                      ]
                ]
          ];
      from_header = set_keeps n x h marks inside s.from_header;
      from_ends = λ y has. settle y (s.from_ends y has);
      closed = λ u y at other e.
          elim (set_cases n x y marks at) [
            | inl same ↦
                let P : ℕ → Type 0 = λ z. Edge g u z in
                inr (Contains-append_right left srcs u (sources_has g.edges u x (subst P same e)))
            | inr old ↦ settle u (s.closed u y old other e)
          ];
    }

starts_elsewhere : {g : Digraph} {h u v : ℕ} → Around g h u v → u ≢ h
starts_elsewhere (rest ne) = ne
starts_elsewhere (through ne e a) = ne

all_found : {g : Digraph} {h : ℕ} {ends : List ℕ} {n : ℕ} {marks : List (Option ℕ)} → IsSearch g h ends n [] marks → {x y : ℕ} → Around g h x y → Contains ends y → mark_at marks x ≡ Some n
all_found s (rest {u} ne) listed = elim (s.from_ends u listed) [ inl m ↦ m | inr w ↦ absurd (nil_contains u w) ]
all_found s (through {u} {v} {w} ne e a) listed =
    elim (s.closed u v (all_found s a listed) (starts_elsewhere a) e) [ inl m ↦ m | inr k ↦ absurd (nil_contains u k) ]

pub search_ends : {g : Digraph} {h : ℕ} {ends : List ℕ} {n : ℕ} {marks : List (Option ℕ)} → IsSearch g h ends n [] marks → AreFound g h ends n marks
search_ends {g} {h} {ends} {n} {marks} s x = (
  s.found x,
  λ o.
      elim o [
        | inl same ↦ ap (λ (z : ℕ). mark_at marks z) same ∙ s.from_header
        | inr r ↦ all_found s (around_from r.leads.1 r.leads.2) r.listed
      ],
)

pub marked_more : (n x : ℕ) (old new : List (Option ℕ)) → IsMarkedWith n old new → IsMarkedWith n old (set new x (Some n))
marked_more n x old new m = record {
  long = length-set new x (Some n) ∙ m.long;
  each = λ y.
      elim (cases_eq y x) [
        | inl same ↦
            elim (cases_lt x (length new)) [
              | inl below ↦ inl (ap (λ (z : ℕ). mark_at (set new x (Some n)) z) same ∙ set_at n x new below)
              | inr above ↦
                  let past : length (set new x (Some n)) ≤ y = omega (arith, length-set new x (Some n)) in
                  let past_old : length old ≤ y = let l = m.long in omega arith in
                  inr (get_or_past (set new x (Some n)) y None past ∙ sym (get_or_past old y None past_old))
            ]
        | inr other ↦
            elim (m.each y) [
              | inl at ↦ inl (get_or-set_other new x y (Some n) None other ∙ at)
              | inr kept ↦ inr (get_or-set_other new x y (Some n) None other ∙ kept)
            ]
      ];
}
