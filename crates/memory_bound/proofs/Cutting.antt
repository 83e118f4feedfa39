-- A walk is no dearer than one that takes no back edge of loops whose members cost nothing.
use Rattle.std.proofs.Common.{◌≡◌, ℕ, zero, suc, ◌+◌, ◌≤◌, eqb, List, [], ◌∷◌, ◌++◌, length, All, Contains, refl, sym, ap, ◌∙◌, subst, inl, inr, arith, append_assoc, length-append}
use Rattle.std.proofs.lemmas.Bool.{cases_eq, eq-eqb, cond-true}
use Rattle.std.proofs.lemmas.List.Sums.{sum_by_push, sum_by-append}
use Rattle.std.proofs.lemmas.List.Elements.{All-contains, Contains-append_right, Contains-append_cases}
use Rattle.lists.specs.Members.{cons_cases, nil_contains, has_or_not}
use Rattle.loop_nest.specs.Digraph.{Digraph, Edge}
use Rattle.loop_nest.specs.Walks.{Walk, back_edges_to}
use Rattle.loop_nest.specs.Walks.Walk.{stay, along}
use Rattle.section_check.specs.Bounded.{BoundedLoop, IsKept}
use Rattle.memory_bound.proofs.Keeping.{all_from_contains, last_in, is_node, IsTail, tail_iterations, tail_stays, tail_enters}

-- ---- lists

pub all_right : {X : Type 0} (P : X → Type 0) (xs ys : List X) → All P (xs ++ ys) → All P ys
all_right P xs ys all = all_from_contains P ys (λ x c. All-contains P (xs ++ ys) x all (Contains-append_right xs ys x c))

pub all_both : {X : Type 0} (P : X → Type 0) (xs ys : List X) → All P xs → All P ys → All P (xs ++ ys)
all_both P xs ys first second =
    all_from_contains P (xs ++ ys) (λ x c.
    elim (Contains-append_cases xs ys x c) [
      | inl here ↦ All-contains P xs x first here
      | inr there ↦ All-contains P ys x second there
    ])

pub all_one : {X : Type 0} (P : X → Type 0) (x : X) → P x → All P (x ∷ [])
all_one P x p =
    all_from_contains P (x ∷ []) (λ y c.
    elim (cons_cases x y [] c) [
      | inl same ↦ subst P same p
      | inr there ↦ absurd (nil_contains y there)
    ])

-- where a number last stands in a list
pub last_split : (xs : List ℕ) (h : ℕ) → Contains xs h → (before : List ℕ) × (after : List ℕ) × (xs ≡ before ++ h ∷ after) × (Contains after h → ⊥)
last_split [] h c = absurd (nil_contains h c)
last_split (x ∷ xs) h c =
    elim (has_or_not xs h) [
      | inl later ↦ let r = last_split xs h later in (x ∷ r.0, r.1, ap (λ (zs : List ℕ). x ∷ zs) r.2, r.3)
      | inr never ↦
          elim (cons_cases x h xs c) [
            | inl same ↦ ([], xs, ap (λ (z : ℕ). z ∷ xs) same, never)
            | inr later ↦ absurd (never later)
          ]
    ]

-- ---- how often a header is come to

pub more_edges : (h : ℕ) (m ys : List ℕ) → back_edges_to h m ≤ back_edges_to h (m ++ ys)
more_edges h [] ys = omega arith
more_edges h (x ∷ m) ys = let e = sum_by-append (is_node h) m ys in omega arith

one_more : (h v x : ℕ) (m : List ℕ) → back_edges_to h ((x ∷ m) ++ v ∷ []) ≡ back_edges_to h (x ∷ m) + is_node h v
one_more h v x m = sum_by_push (is_node h) m v

pub kept_first : (xs ys : List ℕ) (l : BoundedLoop) → IsKept (xs ++ ys) l → IsKept xs l
kept_first xs ys l kept before in_loop after is all =
    kept before in_loop (after ++ ys) (ap (λ (zs : List ℕ). zs ++ ys) is ∙ append_assoc (before ++ in_loop) after ys) all

-- ---- the ends of two lists

-- where the last stays of one list bound those of another, they do so with one more node behind both
module _ (l : BoundedLoop) (orig pre : List ℕ) (u v : ℕ) (follow : (c : ℕ) → IsTail orig l c → IsTail pre l c) where
  h : ℕ
  h = l.header

  -- a stay of the longer list ends with the last node
  outside : (c : ℕ) → (Contains l.members v → ⊥) → IsTail (pre ++ v ∷ []) l c
  outside c out before in_loop is all =
      elim (last_in before in_loop pre v (sym is)) [
        | inl empty ↦ let e = ap (back_edges_to l.header) empty in omega arith
        | inr has ↦ absurd (out (All-contains (Contains l.members) in_loop v all has))
      ]

  module _ (c : ℕ) (inside : Contains l.members v) (tail : IsTail (orig ++ v ∷ []) l c) where
    -- a stay of the shorter list, with the last node
    longer : (before in_loop : List ℕ) → orig ≡ before ++ in_loop → All (Contains l.members) in_loop → back_edges_to l.header (in_loop ++ v ∷ []) ≤ c
    longer before in_loop is all =
        tail before (in_loop ++ v ∷ []) (ap (λ (zs : List ℕ). zs ++ v ∷ []) is ∙ append_assoc before in_loop (v ∷ [])) (all_both (Contains l.members) in_loop (v ∷ []) all (all_one (Contains l.members) v inside))

    shorter : IsTail orig l c
    shorter before in_loop is all = let more = more_edges l.header in_loop (v ∷ []) in let le = longer before in_loop is all in omega arith

    module _ (d : ℕ) (is_suc : c ≡ suc d) (at : v ≡ l.header) where
      one_less : IsTail orig l d
      one_less before [] is all = omega arith
      one_less before (x ∷ m) is all =
          let le = longer before (x ∷ m) is all in
          let more = one_more l.header v x m in
          let one : is_node l.header v ≡ 1 = cond-true (eqb v l.header) 1 0 (eq-eqb v l.header at) in
          omega arith

      at_header : IsTail (pre ++ v ∷ []) l c
      at_header before in_loop is all =
          let le = tail_iterations pre l d v (follow d one_less) before in_loop is all in
          let one : is_node l.header v ≡ 1 = cond-true (eqb v l.header) 1 0 (eq-eqb v l.header at) in
          omega arith

    by_header : (first : List ℕ) → orig ≡ first ++ u ∷ [] → (second : List ℕ) → pre ≡ second ++ u ∷ [] → IsTail (pre ++ v ∷ []) l c
    by_header first ends second also =
        elim (cases_eq v l.header) [
          | inr other ↦ tail_stays pre l c v other (follow c shorter)
          | inl at ↦
              elim (has_or_not l.members u) [
                | inr out ↦ entered out
                | inl has ↦ counted at has
              ]
        ]
      where
        entered : (Contains l.members u → ⊥) → IsTail (pre ++ v ∷ []) l c
        entered out =
            let P : List ℕ → Type 0 = λ zs. IsTail (zs ++ v ∷ []) l c in
            subst P (sym also) (λ before in_loop is all. let le = tail_enters second u v l out before in_loop is all in omega arith)

        least_one : v ≡ l.header → Contains l.members u → 1 ≤ c
        least_one at has =
            let le = longer first (u ∷ []) ends (all_one (Contains l.members) u has) in
            let more = one_more l.header v u [] in
            let one : is_node l.header v ≡ 1 = cond-true (eqb v l.header) 1 0 (eq-eqb v l.header at) in
            omega arith

        with : (d : ℕ) → c ≡ d → 1 ≤ d → v ≡ l.header → IsTail (pre ++ v ∷ []) l c
        with zero is one at = absurd (omega arith)
        with (suc d) is one at = at_header d is at

        counted : v ≡ l.header → Contains l.members u → IsTail (pre ++ v ∷ []) l c
        counted at has = with c refl (least_one at has) at

  pub tail_follow : (c : ℕ) (first : List ℕ) → orig ≡ first ++ u ∷ [] → (second : List ℕ) → pre ≡ second ++ u ∷ [] → IsTail (orig ++ v ∷ []) l c → IsTail (pre ++ v ∷ []) l c
  tail_follow c first ends second also tail =
      elim (has_or_not l.members v) [
        | inr out ↦ outside c out
        | inl inside ↦ by_header c inside tail first ends second also
      ]

-- ---- walks

pub walk_push : {g : Digraph} {a u v : ℕ} {ns : List ℕ} → Walk g a u ns → Edge g u v → Walk g a v (ns ++ v ∷ [])
walk_push stay e = along e stay
walk_push (along d t) e = along d (walk_push t e)

pub walk_ends : {g : Digraph} {a u : ℕ} {ns : List ℕ} → Walk g a u ns → (first : List ℕ) × (ns ≡ first ++ u ∷ [])
walk_ends (stay {u}) = ([], refl)
walk_ends (along {u} e t) = let r = walk_ends t in (u ∷ r.0, ap (λ (zs : List ℕ). u ∷ zs) r.1)

pub walk_starts : {g : Digraph} {a u : ℕ} {ns : List ℕ} → Walk g a u ns → (rest : List ℕ) × (ns ≡ a ∷ rest)
walk_starts (stay {u}) = ([], refl)
walk_starts (along {u} {v} {w} {ns} e t) = (ns, refl)

-- a walk from its second node on
pub walk_rest : {g : Digraph} {a b u : ℕ} {ns : List ℕ} → Walk g a u (a ∷ b ∷ ns) → Walk g b u (b ∷ ns)
walk_rest {g} {a} {b} {u} {ns} walk = rest_of walk refl
  where
    rest_of : {x : ℕ} {zs : List ℕ} → Walk g x u zs → zs ≡ a ∷ b ∷ ns → Walk g b u (b ∷ ns)
    rest_of stay is = let k = ap length is in absurd (omega arith)
    rest_of (along {v = v} {ns = ms} e t) is =
        let rest : ms ≡ b ∷ ns = cc in
        let r = walk_starts t in
        let both : v ∷ r.0 ≡ b ∷ ns = sym r.1 ∙ rest in
        let at : v ≡ b = cc in
        let Q : ℕ → Type 0 = λ z. Walk g z u (b ∷ ns) in
        subst Q at (subst (λ (zs : List ℕ). Walk g v u zs) rest t)

-- a walk that visits h, up to there and from there on
pub walk_parts : {g : Digraph} {a u : ℕ} {ns : List ℕ} → Walk g a u ns → (before after : List ℕ) (h : ℕ) → ns ≡ before ++ h ∷ after
    → Walk g a h (before ++ h ∷ []) × Walk g h u (h ∷ after)
walk_parts {g} (stay {u}) [] after h is =
    let same : u ≡ h = cc in
    let none : [] ≡ after = cc in
    let P : ℕ → Type 0 = λ z. Walk g u z (z ∷ []) in
    let Q : ℕ → Type 0 = λ z. Walk g z u (z ∷ after) in
    let R : List ℕ → Type 0 = λ zs. Walk g u u (u ∷ zs) in
    (subst (λ (z : ℕ). Walk g u z (z ∷ [])) same stay, subst Q same (subst R none stay))
walk_parts {g} (stay {u}) (b ∷ before) after h is =
    let k = ap length is in
    let l = length-append before (h ∷ after) in
    absurd (omega arith)
walk_parts {g} (along {u} {v} {w} {ns} e t) [] after h is =
    let same : u ≡ h = cc in
    let rest : ns ≡ after = cc in
    let Q : ℕ → Type 0 = λ z. Walk g z w (z ∷ after) in
    let R : List ℕ → Type 0 = λ zs. Walk g u w (u ∷ zs) in
    (subst (λ (z : ℕ). Walk g u z (z ∷ [])) same stay, subst Q same (subst R rest (along e t)))
walk_parts {g} (along {u} {v} {w} {ns} e t) (b ∷ before) after h is =
    let same : u ≡ b = cc in
    let rest : ns ≡ before ++ h ∷ after = cc in
    let r = walk_parts t before after h rest in
    let Q : ℕ → Type 0 = λ z. Walk g u h (z ∷ before ++ h ∷ []) in
    (subst Q same (along e r.0), r.1)
