-- Walks among the members of a loop, and cycles that don't come to its header.
use Rattle.std.proofs.Common.{◌≡◌, ◌⊎◌, ℕ, zero, suc, ◌≤◌, List, [], ◌∷◌, ◌++◌, length, get_or, Contains, All, refl, sym, ap, ◌∙◌, subst, inl, inr, arith, append_assoc, length-append}
use Rattle.std.proofs.lemmas.Bool.{cases_eq}
use Rattle.std.proofs.lemmas.List.{get_or_default}
use Rattle.std.proofs.lemmas.List.Elements.{Contains-append_left, Contains-append_right, Contains-append_cases}
use Rattle.lists.specs.Members.{heads, tails, at_head, in_tail, cons_cases, nil_contains, has_or_not}
use Rattle.loop_nest.specs.Digraph.{Digraph, Edge}
use Rattle.loop_nest.specs.Walks.{Walk, IsHeader, IsMember, ReachesBackEdge}
use Rattle.loop_nest.specs.Walks.Walk.{stay, along}
use Rattle.loop_nest.proofs.SimpleWalks.{walk_until, walk_from}
use Rattle.loop_rules.specs.Counted.{EachCycleIsALoop}

-- ---- lists

pub split_at : (xs : List ℕ) (x : ℕ) → Contains xs x → (p : List ℕ) × (q : List ℕ) × (xs ≡ p ++ x ∷ q)
split_at [] x c = absurd (nil_contains x c)
split_at (y ∷ ys) x c =
    elim (cons_cases y x ys c) [
      | inl same ↦ ([], ys, ap (λ (z : ℕ). z ∷ ys) same)
      | inr there ↦ let r = split_at ys x there in (y ∷ r.0, r.1, ap (λ (zs : List ℕ). y ∷ zs) r.2)
    ]

pub at_last : (xs : List ℕ) (x : ℕ) → Contains (xs ++ x ∷ []) x
at_last xs x = Contains-append_right xs (x ∷ []) x (at_head x [])

pub last_cases : (xs : List ℕ) (x y : ℕ) → Contains (xs ++ x ∷ []) y → Contains xs y ⊎ (x ≡ y)
last_cases xs x y c =
    elim (Contains-append_cases xs (x ∷ []) y c) [
      | inl there ↦ inl there
      | inr last ↦ elim (cons_cases x y [] last) [ inl same ↦ inr same | inr none ↦ absurd (nil_contains y none) ]
    ]

-- all of them, item by item
pub all_of : (K : ℕ → Type 0) (xs : List ℕ) → ((x : ℕ) → Contains xs x → K x) → All K xs
all_of K xs h = λ k d lt. h (get_or xs k d) (k, lt, get_or_default xs k (get_or xs k d) d lt)

pub each_of : (K : ℕ → Type 0) (xs : List ℕ) → All K xs → (x : ℕ) → Contains xs x → K x
each_of K xs h x c = subst K c.2 (h c.0 x c.1)

not_empty : (zs : List ℕ) (x : ℕ) (rest : List ℕ) → zs ++ x ∷ rest ≡ [] → ⊥
not_empty [] x rest e = absurd (cc)
not_empty (z ∷ zs) x rest e = absurd (cc)

-- what is left where the part between two visits of one node is cut out
inside : (x inner : ℕ) (ns zs q after : List ℕ) → ns ≡ zs ++ inner ∷ (q ++ inner ∷ after) → (z : ℕ) → Contains (x ∷ (zs ++ inner ∷ after)) z → Contains (x ∷ ns) z
inside x inner ns zs q after tail z c =
    let here : (w : ℕ) → Contains (zs ++ inner ∷ (q ++ inner ∷ after)) w → Contains (x ∷ ns) w = λ w d. in_tail x w ns (subst (λ (l : List ℕ). Contains l w) (sym tail) d) in
    elim (cons_cases x z (zs ++ inner ∷ after) c) [
      | inl same ↦ subst (λ (w : ℕ). Contains (x ∷ ns) w) same (at_head x ns)
      | inr further ↦ elim (Contains-append_cases zs (inner ∷ after) z further) [
        | inl left ↦ here z (Contains-append_left zs (inner ∷ (q ++ inner ∷ after)) z left)
        | inr right ↦ here z (Contains-append_right zs (inner ∷ (q ++ inner ∷ after)) z (in_tail inner z (q ++ inner ∷ after) (Contains-append_right q (inner ∷ after) z right)))
      ]
    ]

-- ---- walks

pub walk_more : {g : Digraph} {u v w : ℕ} {ns : List ℕ} → Walk g u v ns → Edge g v w → Walk g u w (ns ++ w ∷ [])
walk_more (stay) edge = along edge stay
walk_more (along e rest) edge = along e (walk_more rest edge)

walk_join : {g : Digraph} {u v w : ℕ} {ns : List ℕ} (rest : List ℕ) → Walk g u v ns → Walk g v w (v ∷ rest) → Walk g u w (ns ++ rest)
walk_join rest (stay) second = second
walk_join rest (along e first) second = along e (walk_join rest first second)

-- a walk that goes somewhere takes an edge first
pub record Edges (g : Digraph) (u w : ℕ) (ns : List ℕ) : Type 0 where
  pub next : ℕ
  pub rest : List ℕ
  pub nodes : ns ≡ u ∷ rest
  pub edge : Edge g u next
  pub walk : Walk g next w rest

first_edge : {g : Digraph} {u w : ℕ} {ns : List ℕ} → Walk g u w ns → (ns ≡ u ∷ []) ⊎ Edges g u w ns
first_edge (stay {u}) = inl refl
first_edge (along {u} {v} {w} {ns} e rest) = inr (record { next = v; rest = ns; nodes = refl; edge = e; walk = rest })

-- ---- cycles

module _ (g : Digraph) (cycles : EachCycleIsALoop g) (h x : ℕ) (once : (other : ℕ) → IsHeader g other → IsMember g other x → IsMember g h other → other ≡ h) where
  -- no cycle among the members leads through a node that lies in no inner loop and doesn't come to the header
  abbrev NoCycle : ℕ → Type 0
  NoCycle k = (ns : List ℕ) → length ns ≤ k → (ns ≡ [] → ⊥) → Walk g x x (x ∷ ns) → ((y : ℕ) → Contains (x ∷ ns) y → IsMember g h y) → (Contains (x ∷ ns) h → ⊥) → ⊥

  -- a cycle that comes to an inner header twice has a shorter one in it
  shorter : (k : ℕ) → NoCycle k → (ns : List ℕ) → length ns ≤ suc k → Walk g x x (x ∷ ns) → ((y : ℕ) → Contains (x ∷ ns) y → IsMember g h y) → (Contains (x ∷ ns) h → ⊥) → (inner : ℕ) → (x ≡ inner → ⊥)
      → (before after p q : List ℕ) (a : ℕ) → x ∷ ns ≡ before ++ a ∷ inner ∷ after → before ++ a ∷ [] ≡ p ++ inner ∷ q → ⊥
  shorter k none_shorter ns short walk members none inner differ before after p q a is there = by p there
    where
      whole : (r : List ℕ) → before ++ a ∷ [] ≡ r → x ∷ ns ≡ r ++ inner ∷ after
      whole r e = is ∙ (sym (append_assoc before (a ∷ []) (inner ∷ after)) ∙ ap (λ (zs : List ℕ). zs ++ inner ∷ after) e)

      second : Walk g inner x (inner ∷ after)
      second = walk_from walk (before ++ a ∷ []) inner after (whole (before ++ a ∷ []) refl)

      by : (p : List ℕ) → before ++ a ∷ [] ≡ p ++ inner ∷ q → ⊥
      by [] there' = differ (heads x inner ns (q ++ inner ∷ after) (whole (inner ∷ q) there'))
      by (y ∷ ys) there' =
          let all : x ∷ ns ≡ ((y ∷ ys) ++ inner ∷ q) ++ inner ∷ after = whole ((y ∷ ys) ++ inner ∷ q) there' in
          let flat : x ∷ ns ≡ (y ∷ ys) ++ inner ∷ (q ++ inner ∷ after) = all ∙ append_assoc (y ∷ ys) (inner ∷ q) (inner ∷ after) in
          let same : x ≡ y = heads x y ns (ys ++ inner ∷ (q ++ inner ∷ after)) flat in
          let first : Walk g x inner ((y ∷ ys) ++ inner ∷ []) = walk_until walk (y ∷ ys) inner (q ++ inner ∷ after) flat in
          let joined : Walk g x x (((y ∷ ys) ++ inner ∷ []) ++ after) = walk_join after first second in
          let nodes : ((y ∷ ys) ++ inner ∷ []) ++ after ≡ x ∷ (ys ++ inner ∷ after) = append_assoc (y ∷ ys) (inner ∷ []) after ∙ ap (λ (z : ℕ). z ∷ (ys ++ inner ∷ after)) (sym same) in
          let cycle : Walk g x x (x ∷ (ys ++ inner ∷ after)) = subst (λ (zs : List ℕ). Walk g x x zs) nodes joined in
          let tail : ns ≡ ys ++ inner ∷ (q ++ inner ∷ after) = tails x y ns (ys ++ inner ∷ (q ++ inner ∷ after)) flat in
          let l1 = ap (λ (zs : List ℕ). length zs) tail in
          let l2 = length-append ys (inner ∷ (q ++ inner ∷ after)) in
          let l3 = length-append q (inner ∷ after) in
          let l4 = length-append ys (inner ∷ after) in
          let within : (z : ℕ) → Contains (x ∷ (ys ++ inner ∷ after)) z → Contains (x ∷ ns) z = λ z c. inside x inner ns ys q after tail z c in
          none_shorter (ys ++ inner ∷ after) (omega arith) (λ e. not_empty ys inner after e) cycle (λ z c. members z (within z c)) (λ c. none (within h c))

  -- no cycle among the members leads through a node that lies in no inner loop and doesn't come to the header
  no_cycle : (k : ℕ) → NoCycle k
  no_cycle zero [] short some walk members none = some refl
  no_cycle zero (n ∷ ns) short some walk members none = absurd (omega arith)
  no_cycle (suc k) ns short some walk members none = by (first_edge walk) (no_cycle k)
    where
      by : (x ∷ ns ≡ x ∷ []) ⊎ Edges g x x (x ∷ ns) → NoCycle k → ⊥
      by (inl stays) less = some (tails x x ns [] stays)
      by (inr e) less =
          let rest : ns ≡ e.rest = tails x x ns e.rest e.nodes in
          let found = cycles x e.next e.rest e.edge e.walk in
          let a = found.0 in
          let inner = found.1 in
          let before = found.2.0 in
          let after = found.2.1 in
          let is : x ∷ ns ≡ before ++ a ∷ inner ∷ after = ap (λ (zs : List ℕ). x ∷ zs) rest ∙ found.2.2 in
          let has : Contains (x ∷ ns) inner = subst (λ (zs : List ℕ). Contains zs inner) (sym is) (Contains-append_right before (a ∷ inner ∷ after) inner (in_tail a inner (inner ∷ after) (at_head inner after))) in
          let header : IsHeader g inner = (a, found.3) in
          let not_h : inner ≡ h → ⊥ = λ same. none (subst (λ (z : ℕ). Contains (x ∷ ns) z) same has) in
          elim (cases_eq x inner) [
            | inl same ↦ not_h (once inner header (header, inl same) (members inner has))
            | inr differ ↦ elim (has_or_not (before ++ a ∷ []) inner) [
              | inl twice ↦ let p = split_at (before ++ a ∷ []) inner twice in shorter k less ns short walk members none inner differ before after p.0 p.1 a is p.2
              | inr never ↦
                  let to_a : Walk g x a (before ++ a ∷ []) = walk_until walk before a (inner ∷ after) is in
                  let reaches : ReachesBackEdge g inner x = record { source = a; back_edge = found.3; leads = (before ++ a ∷ [], to_a, never) } in
                  not_h (once inner header (header, inr reaches) (members inner has))
            ]
          ]

  pub no_return : (ns : List ℕ) → (ns ≡ [] → ⊥) → Walk g x x (x ∷ ns) → ((y : ℕ) → Contains (x ∷ ns) y → IsMember g h y) → (Contains (x ∷ ns) h → ⊥) → ⊥
  no_return ns some walk members none = no_cycle (length ns) ns (omega arith) some walk members none
