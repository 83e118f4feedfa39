-- The sources of edges in the order of the edges' targets.
use Rattle.std.proofs.Common.{◌≡◌, ◌≢◌, ℕ, zero, suc, ◌+◌, ◌-◌, ◌<◌, ◌≤◌, Bool, true, false, cond, eqb, List, [], ◌∷◌, ◌++◌, length, get_or, set, take, drop, map, filter, count_by, refl, sym, ap, ◌∙◌, inl, inr, arith, zero-add}
use Rattle.std.specs.List.{range_with_len, slice_range}
use Rattle.std.specs.Prelude.{nat_lt}
use Rattle.std.proofs.lemmas.Bool.{cases_eq, cases_lt, eq-eqb, ne_eqb, lt-ltb, le-ltb}
use Rattle.std.proofs.lemmas.List.{length-set, length-map, length-take, length-drop, length_push, map-append, get_or-set_same, get_or-set_other, get_or_append_left, get_or_push, get_or-map, get_or-take, get_or-drop, take_more, take_all, append-nil}
use Rattle.std.proofs.lemmas.List.Elements.{filter-append}
use Rattle.std.proofs.lemmas.List.FromFn.{length-range_with_len, get_or-range_with_len}
use Rattle.std.proofs.lemmas.List.Sums.{count_by-le-length, sum_by-cons}
use Rattle.std.proofs.lemmas.Grind.{same_number_lists}
use Rattle.loop_nest.specs.Digraph.{sources_of, AreSources}
use Rattle.loop_nest.specs.Grouping.{lists_from, AreStartsIn, edges_below, AreStarts, ArePlaced}
use Rattle.loop_nest.proofs.Elements.{kept_at, dropped_at}

count_yes : {X : Type 0} (p : X → Bool) (x : X) (xs : List X) → p x ≡ true → count_by p (x ∷ xs) ≡ suc (count_by p xs)
count_yes p x xs h = sum_by-cons (λ y. cond (p y) 1 0) x xs ∙ ap (λ b. cond b 1 0 + count_by p xs) h ∙ (let e : 1 + count_by p xs ≡ suc (count_by p xs) = omega arith in e)

count_no : {X : Type 0} (p : X → Bool) (x : X) (xs : List X) → p x ≡ false → count_by p (x ∷ xs) ≡ count_by p xs
count_no p x xs h = sum_by-cons (λ y. cond (p y) 1 0) x xs ∙ ap (λ b. cond b 1 0 + count_by p xs) h ∙ zero-add (count_by p xs)

sources_yes : (e : ℕ × ℕ) (es : List (ℕ × ℕ)) (v : ℕ) → e.1 ≡ v → sources_of (e ∷ es) v ≡ e.0 ∷ sources_of es v
sources_yes e es v is = ap (map (λ (x : ℕ × ℕ). x.0)) (kept_at (λ (x : ℕ × ℕ). eqb x.1 v) e es (eq-eqb e.1 v is))

sources_no : (e : ℕ × ℕ) (es : List (ℕ × ℕ)) (v : ℕ) → e.1 ≢ v → sources_of (e ∷ es) v ≡ sources_of es v
sources_no e es v ne = ap (map (λ (x : ℕ × ℕ). x.0)) (dropped_at (λ (x : ℕ × ℕ). eqb x.1 v) e es (ne_eqb e.1 v ne))

below_yes : (e : ℕ × ℕ) (es : List (ℕ × ℕ)) (v : ℕ) → e.1 < v → edges_below (e ∷ es) v ≡ suc (edges_below es v)
below_yes e es v lt = count_yes (λ (x : ℕ × ℕ). nat_lt x.1 v) e es (lt-ltb e.1 v lt)

below_no : (e : ℕ × ℕ) (es : List (ℕ × ℕ)) (v : ℕ) → v ≤ e.1 → edges_below (e ∷ es) v ≡ edges_below es v
below_no e es v le = count_no (λ (x : ℕ × ℕ). nat_lt x.1 v) e es (le-ltb e.1 v le)

-- the lists of lower nodes come before, and the list of v then
pub below_more : (es : List (ℕ × ℕ)) (v : ℕ) → edges_below es (v + 1) ≡ edges_below es v + length (sources_of es v)
below_more [] v = refl
below_more (e ∷ es) v =
    let rest = below_more es v in
    elim (cases_eq e.1 v) [
      | inl same ↦
          let a = below_yes e es (v + 1) (omega arith) in
          let b = below_no e es v (omega arith) in
          let c = ap length (sources_yes e es v same) in
          omega arith
      | inr other ↦
          let c = ap length (sources_no e es v other) in
          elim (cases_lt e.1 v) [
            | inl low ↦ let a = below_yes e es (v + 1) (omega arith) in let b = below_yes e es v low in omega arith
            | inr high ↦ let a = below_no e es (v + 1) (omega arith) in let b = below_no e es v high in omega arith
          ]
    ]

pub below_rises : (es : List (ℕ × ℕ)) (v w : ℕ) → v ≤ w → edges_below es v ≤ edges_below es w
below_rises [] v w le = omega arith
below_rises (e ∷ es) v w le =
    let rest = below_rises es v w le in
    elim (cases_lt e.1 w) [
      | inl low ↦
          let a = below_yes e es w low in
          elim (cases_lt e.1 v) [
            | inl lower ↦ let b = below_yes e es v lower in omega arith
            | inr above ↦ let b = below_no e es v above in omega arith
          ]
      | inr high ↦ let a = below_no e es w high in let b = below_no e es v (omega arith) in omega arith
    ]

pub below_few : (es : List (ℕ × ℕ)) (v : ℕ) → edges_below es v ≤ length es
below_few es v = count_by-le-length (λ (e : ℕ × ℕ). nat_lt e.1 v) es

pub none_below : (es : List (ℕ × ℕ)) → edges_below es 0 ≡ 0
none_below [] = refl
none_below (e ∷ es) = below_no e es 0 (omega arith) ∙ none_below es

-- as many sources as edges are counted
pub counted : (es : List (ℕ × ℕ)) (v : ℕ) → count_by (λ (e : ℕ × ℕ). eqb e.1 v) es ≡ length (sources_of es v)
counted [] v = refl
counted (e ∷ es) v =
    let p : ℕ × ℕ → Bool = λ x. eqb x.1 v in
    let rest = counted es v in
    elim (cases_eq e.1 v) [
      | inl same ↦ let a = count_yes p e es (eq-eqb e.1 v same) in let b = ap length (sources_yes e es v same) in omega arith
      | inr other ↦ let a = count_no p e es (ne_eqb e.1 v other) in let b = ap length (sources_no e es v other) in omega arith
    ]

fewer_taken : (es : List (ℕ × ℕ)) (k v : ℕ) → length (sources_of (take k es) v) ≤ length (sources_of es v)
fewer_taken [] k v = let none : take k [] ≡ [] = take_all {A = ℕ × ℕ} k [] (omega arith) in let f = ap (λ (z : List (ℕ × ℕ)). length (sources_of z v)) none in omega arith
fewer_taken (e ∷ es) zero v = omega arith
fewer_taken (e ∷ es) (suc k) v =
    let rest = fewer_taken es k v in
    elim (cases_eq e.1 v) [
      | inl same ↦ let a = ap length (sources_yes e (take k es) v same) in let b = ap length (sources_yes e es v same) in omega arith
      | inr other ↦ let a = ap length (sources_no e (take k es) v other) in let b = ap length (sources_no e es v other) in omega arith
    ]

sources_push : (es : List (ℕ × ℕ)) (e : ℕ × ℕ) (v : ℕ) → sources_of (es ++ e ∷ []) v ≡ sources_of es v ++ sources_of (e ∷ []) v
sources_push es e v =
    ap (map (λ (x : ℕ × ℕ). x.0)) (filter-append (λ (x : ℕ × ℕ). eqb x.1 v) es (e ∷ []))
    ∙ map-append (λ (x : ℕ × ℕ). x.0) (filter (λ x. eqb x.1 v) es) (filter (λ x. eqb x.1 v) (e ∷ []))

taken_same : (es : List (ℕ × ℕ)) (k v : ℕ) → k < length es → (get_or es k (0, 0)).1 ≡ v → sources_of (take (k + 1) es) v ≡ sources_of (take k es) v ++ (get_or es k (0, 0)).0 ∷ []
taken_same es k v lt is =
    let e = get_or es k (0, 0) in
    ap (λ (z : List (ℕ × ℕ)). sources_of z v) (take_more es k (0, 0) lt) ∙ sources_push (take k es) e v ∙ ap (λ ls. sources_of (take k es) v ++ ls) (sources_yes e [] v is)

taken_other : (es : List (ℕ × ℕ)) (k v : ℕ) → k < length es → (get_or es k (0, 0)).1 ≢ v → sources_of (take (k + 1) es) v ≡ sources_of (take k es) v
taken_other es k v lt ne =
    let e = get_or es k (0, 0) in
    ap (λ (z : List (ℕ × ℕ)). sources_of z v) (take_more es k (0, 0) lt) ∙ sources_push (take k es) e v ∙ ap (λ ls. sources_of (take k es) v ++ ls) (sources_no e [] v ne) ∙ append-nil (sources_of (take k es) v)

module _ (es : List (ℕ × ℕ)) (n k : ℕ) (next nodes : List ℕ) (lt : k < length es) (low : (get_or es k (0, 0)).1 < n) (h : ArePlaced es n k next nodes) where
  abbrev u : ℕ
  u = (get_or es k (0, 0)).0

  abbrev v : ℕ
  v = (get_or es k (0, 0)).1

  abbrev place : ℕ
  place = get_or next v 0

  -- the list of v has room for one more
  room : place < edges_below es v + length (sources_of es v)
  room =
      let a = h.next v low in
      let b = ap length (taken_same es k v lt refl) in
      let c = length_push (sources_of (take k es) v) u in
      let d = fewer_taken es (k + 1) v in
      omega arith

  pub place_inside : place < length nodes
  place_inside =
      let a = room in
      let b = below_more es v in
      let c = below_few es (v + 1) in
      let d = h.long in
      omega arith

  -- the lists of other nodes lie elsewhere
  elsewhere : (w j : ℕ) → w ≢ v → j < length (sources_of (take k es) w) → edges_below es w + j ≢ place
  elsewhere w j other short at =
      let a = room in
      let b = h.next v low in
      let c = fewer_taken es k w in
      elim (cases_lt w v) [
        | inl less ↦
            let d = below_more es w in
            let e = below_rises es (w + 1) v (omega arith) in
            omega arith
        | inr more ↦
            let d = below_more es v in
            let e = below_rises es (v + 1) w (omega arith) in
            omega arith
      ]

  pub placed_more : ArePlaced es n (k + 1) (set next v (place + 1)) (set nodes place u)
  placed_more =
      let long = h.long in
      let places_long = h.places_long in
      record {
        long = length-set nodes place u ∙ long;
        places_long = length-set next v (place + 1) ∙ places_long;
        next = λ w below.
            elim (cases_eq w v) [
              | inl same ↦
                  let a = ap (λ (z : ℕ). get_or (set next v (place + 1)) z 0) same ∙ get_or-set_same next v (place + 1) 0 (omega arith) in
                  let b = h.next v low in
                  let c = ap length (taken_same es k v lt refl) in
                  let d = length_push (sources_of (take k es) v) u in
                  let e = ap (λ (z : ℕ). edges_below es z + length (sources_of (take (k + 1) es) z)) same in
                  omega arith
              | inr other ↦
                  let a = get_or-set_other next v w (place + 1) 0 other in
                  let b = h.next w below in
                  let c = ap length (taken_other es k w lt (λ e. other (sym e))) in
                  omega arith
            ];
        each = λ w j below short.
            elim (cases_eq w v) [
              | inl same ↦
                  let is = taken_same es k w lt (sym same) in
                  let size = ap length is in
                  let one = length_push (sources_of (take k es) w) u in
                  let b = h.next v low in
                  let e = ap (λ (z : ℕ). edges_below es z + length (sources_of (take k es) z)) same in
                  elim (cases_lt j (length (sources_of (take k es) w))) [
                    | inl old ↦
                        let off : edges_below es w + j ≢ place = λ at. let bad : ⊥ = omega arith in bad in
                        get_or-set_other nodes place (edges_below es w + j) u 0 off ∙ h.each w j below old
                        ∙ sym (ap (λ ls. get_or ls j 0) is ∙ get_or_append_left (sources_of (take k es) w) (u ∷ []) 0 j old)
                    | inr last ↦
                        let end' : length (sources_of (take k es) w) ≡ j = omega arith in
                        let at : edges_below es w + j ≡ place = omega arith in
                        ap (λ (z : ℕ). get_or (set nodes place u) z 0) at ∙ get_or-set_same nodes place u 0 place_inside
                        ∙ sym (ap (λ ls. get_or ls j 0) is ∙ get_or_push (sources_of (take k es) w) u 0 j end')
                  ]
              | inr other ↦
                  let is = taken_other es k w lt (λ e. other (sym e)) in
                  let old : j < length (sources_of (take k es) w) = let size = ap length is in omega arith in
                  get_or-set_other nodes place (edges_below es w + j) u 0 (elsewhere w j other old) ∙ h.each w j below old ∙ sym (ap (λ ls. get_or ls j 0) is)
            ];
      }

pub placed_start : (es : List (ℕ × ℕ)) (n : ℕ) (starts nodes : List ℕ) → AreStarts es n starts → length nodes ≡ length es → ArePlaced es n 0 starts nodes
placed_start es n starts nodes h long = record {
  long = long;
  places_long = h.long;
  next = λ v lt. let a = h.each v (omega arith) in omega arith;
  each = λ v j lt none. absurd (let bad : ⊥ = omega arith in bad);
}

pub starts_in : (es : List (ℕ × ℕ)) (n : ℕ) (starts nodes : List ℕ) → AreStarts es n starts → length nodes ≡ length es → AreStartsIn starts nodes
starts_in es n starts nodes h long =
    let size = h.long in
    record {
      rising = λ v lt.
          let a = h.each v (omega arith) in
          let b = h.each (v + 1) (omega arith) in
          let c = below_rises es v (v + 1) (omega arith) in
          omega arith;
      within = λ v lt. let a = h.each v (omega arith) in let b = below_few es v in omega arith;
    }

pub list_at : (starts nodes : List ℕ) (v : ℕ) → v < length starts - 1 → get_or (lists_from starts nodes) v [] ≡ slice_range nodes (get_or starts v 0) (get_or starts (v + 1) 0)
list_at starts nodes v lt =
    let m = length starts - 1 in
    let f : ℕ → List ℕ = λ w. slice_range nodes (get_or starts w 0) (get_or starts (w + 1) 0) in
    get_or-map f (range_with_len 0 m) v 0 [] (omega (arith, length-range_with_len 0 m))
    ∙ ap f (get_or-range_with_len 0 m v 0 lt ∙ (let e : 0 + v ≡ v = omega arith in e))

pub many_lists : (starts nodes : List ℕ) → length (lists_from starts nodes) ≡ length starts - 1
many_lists starts nodes =
    length-map (range_with_len 0 (length starts - 1)) (λ w. slice_range nodes (get_or starts w 0) (get_or starts (w + 1) 0))
    ∙ length-range_with_len 0 (length starts - 1)

list_is : (es : List (ℕ × ℕ)) (n k v : ℕ) (starts next nodes : List ℕ) → length es ≤ k → v < n → AreStarts es n starts → ArePlaced es n k next nodes → slice_range nodes (get_or starts v 0) (get_or starts (v + 1) 0) ≡ sources_of es v
list_is es n k v starts next nodes end low h p =
    let a = get_or starts v 0 in
    let b = get_or starts (v + 1) 0 in
    let ss = sources_of es v in
    let ea : a ≡ edges_below es v = h.each v (omega arith) in
    let eb : b ≡ edges_below es (v + 1) = h.each (v + 1) (omega arith) in
    let more = below_more es v in
    let few = below_few es (v + 1) in
    let long = p.long in
    let all : sources_of (take k es) v ≡ ss = ap (λ (z : List (ℕ × ℕ)). sources_of z v) (take_all k es end) in
    let size : length (slice_range nodes a b) ≡ length ss = let c = length-take (b - a) (drop a nodes) in let d = length-drop a nodes in omega arith in
    same_number_lists (slice_range nodes a b) ss size (λ j lt.
    let short : j < length ss = omega arith in
    let inside : j < length (sources_of (take k es) v) = let l = ap length all in omega arith in
    get_or-take (b - a) (drop a nodes) j 0 (omega arith) ∙ get_or-drop a nodes j 0 ∙ ap (λ (z : ℕ). get_or nodes (z + j) 0) ea
    ∙ p.each v j low inside ∙ ap (λ ls. get_or ls j 0) all)

pub placed_ends : (es : List (ℕ × ℕ)) (n k : ℕ) (starts next nodes : List ℕ) → length es ≤ k → AreStarts es n starts → ArePlaced es n k next nodes → AreSources es n (lists_from starts nodes)
placed_ends es n k starts next nodes end h p =
    let size = h.long in
    record {
      long = let m = many_lists starts nodes in omega arith;
      each = λ v lt. list_at starts nodes v (omega arith) ∙ list_is es n k v starts next nodes end lt h p;
    }
