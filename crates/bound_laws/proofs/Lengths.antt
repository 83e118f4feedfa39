-- Where each cycle lies in a loop that has a bound, the walks that keep the bounds are no longer than some number.
use Rattle.std.proofs.Common.{◌≡◌, ℕ, zero, suc, ◌+◌, ◌*◌, ◌≤◌, ◌⊎◌, List, [], ◌∷◌, ◌++◌, length, Contains, cond, refl, sym, ap, ◌∙◌, subst, inl, inr, arith, append_assoc, length-append}
use Rattle.std.specs.Prelude.{count_by, ◌==◌}
use Rattle.std.proofs.Math.Nat.{mul-le-mul_right, suc-mul}
use Rattle.std.proofs.lemmas.List.{append-nil}
use Rattle.std.proofs.lemmas.List.Elements.{Contains-append_left, Contains-append_right}
use Rattle.std.proofs.lemmas.List.Sums.{sum_by-append, sum_by-cons}
use Rattle.std.proofs.lemmas.Bool.{cond-true, eq-eqb}
use Rattle.lists.specs.Members.{at_head, in_tail, cons_cases, has_or_not}
use Rattle.loop_nest.specs.Digraph.{Digraph, Edge}
use Rattle.loop_nest.specs.Walks.{Walk}
use Rattle.loop_nest.specs.Walks.Walk.{stay, along}
use Rattle.loop_nest.proofs.SimpleWalks.{begins, walk_until, walk_from}
use Rattle.section_check.specs.Bounded.{BoundedLoop, IsKept}
use Rattle.path_solver.proofs.Keeping.{all_from_contains}
use Rattle.bound_laws.proofs.Lists.{first_at, last_at, without}
use Rattle.bound_laws.proofs.Cycles.{goes_on, pushed_not_empty}

-- what keeps a bound, each part of it keeps it
pub part_keeps : (l : BoundedLoop) (front part behind ns : List ℕ) → ns ≡ front ++ part ++ behind → IsKept ns l → IsKept part l
part_keeps l front part behind ns is kept before in_loop after parts all = kept (front ++ before) in_loop (after ++ behind) e all
  where
    e : ns ≡ (front ++ before) ++ in_loop ++ (after ++ behind)
    e = is ∙ (ap (λ (zs : List ℕ). front ++ zs ++ behind) parts ∙ simp append_assoc)

empty_has_none : (ys : List ℕ) (x : ℕ) (rest : List ℕ) → [] ≡ ys ++ x ∷ rest → ⊥
empty_has_none [] x rest is = cc
empty_has_none (y ∷ ys) x rest is = cc

-- the part of a walk before a node that it visits is empty or a walk
pub front_walk : {g : Digraph} {u v : ℕ} {ns : List ℕ} → Walk g u v ns → (front : List ℕ) (x : ℕ) (behind : List ℕ) → ns ≡ front ++ x ∷ behind → (front ≡ []) ⊎ ((z : ℕ) × Walk g u z front)
front_walk w [] x behind is = inl refl
front_walk (stay {u}) (y ∷ ys) x behind is = absurd (empty_has_none ys x behind cc)
front_walk {g} (along {u} {v} {w} {ns} e t) (y ∷ ys) x behind is =
    let same : u ≡ y = cc in
    let tail : ns ≡ ys ++ x ∷ behind = cc in
    elim (front_walk t ys x behind tail) [
      | inl empty ↦ inr (u, subst (λ (zs : List ℕ). Walk g u u zs) (ap (λ (z : ℕ). z ∷ []) same ∙ ap (λ (zs : List ℕ). y ∷ zs) (sym empty)) stay)
      | inr r ↦ inr (r.0, subst (λ (z : ℕ). Walk g u r.0 (z ∷ ys)) same (along e r.1))
    ]

-- the part behind it is empty or a walk
pub behind_walk : {g : Digraph} {u v : ℕ} {ns : List ℕ} → Walk g u v ns → (front : List ℕ) (x : ℕ) (behind : List ℕ) → ns ≡ front ++ x ∷ behind → (behind ≡ []) ⊎ ((z : ℕ) × Walk g z v behind)
behind_walk w front x [] is = inl refl
behind_walk w front x (y ∷ ys) is =
    let r = goes_on (walk_from w front x (y ∷ ys) is) (y ∷ ys) refl (λ e. let bad : ⊥ = cc in bad) in
    inr (r.0, r.2)

last_part : (front : List ℕ) (x : ℕ) (behind : List ℕ) → front ++ x ∷ behind ≡ (front ++ x ∷ []) ++ behind ++ []
last_part front x behind = sym (append_assoc front (x ∷ []) behind) ∙ sym (append-nil ((front ++ x ∷ []) ++ behind))

-- how often a list has a number
abbrev visits : ℕ → List ℕ → ℕ
visits h ns = count_by (λ x. x == h) ns

visits_more : (h : ℕ) (front behind ns : List ℕ) → ns ≡ front ++ h ∷ behind → suc (visits h behind) ≤ visits h ns
visits_more h front behind ns is =
    let k = ap (visits h) is in
    let parts = sum_by-append (λ (x : ℕ). cond (x == h) 1 0) front (h ∷ behind) in
    let next = sum_by-cons (λ (x : ℕ). cond (x == h) 1 0) h behind in
    let here : ◌≡◌ {A = ℕ} (cond (h == h) 1 0) 1 = cond-true (h == h) 1 0 (eq-eqb h h refl) in
    omega arith

-- a loop has all these nodes, and its header is one of them
pub record IsCovered (loops : List BoundedLoop) (ns : List ℕ) : Type 0 where
  pub loop : BoundedLoop
  pub among : Contains loops loop
  pub visited : Contains ns loop.header
  pub members : (x : ℕ) → Contains ns x → Contains loop.members x

-- all these nodes are some of those
abbrev pub AreAmong : List ℕ → List ℕ → Type 0
AreAmong ns nodes = (x : ℕ) → Contains ns x → Contains nodes x

-- a walk among so many nodes that keeps the bounds is no longer
abbrev pub IsLimit : Digraph → List BoundedLoop → (count limit : ℕ) → Type 0
IsLimit g loops count limit =
    (nodes : List ℕ) → length nodes ≤ count → (u v : ℕ) (ns : List ℕ) → Walk g u v ns → AreAmong ns nodes → ((l : BoundedLoop) → Contains loops l → IsKept ns l) → length ns ≤ limit

module _ (g : Digraph) (loops : List BoundedLoop) where
  part_limited : (count limit : ℕ) → IsLimit g loops count limit → (nodes : List ℕ) → length nodes ≤ count → (part : List ℕ) → (part ≡ []) ⊎ ((u : ℕ) × (v : ℕ) × Walk g u v part) → AreAmong part nodes
      → ((l : BoundedLoop) → Contains loops l → IsKept part l) → length part ≤ limit
  part_limited count limit is nodes few part (inl empty) among kept = let k = ap (λ (zs : List ℕ). length zs) empty in omega arith
  part_limited count limit is nodes few part (inr w) among kept = is nodes few w.0 w.1 part w.2 among kept

  -- how long a walk is, by how often it visits a node
  segments : (count limit : ℕ) → IsLimit g loops count limit → (nodes others : List ℕ) (h : ℕ) → length others ≤ count → ((x : ℕ) → Contains nodes x → (x ≡ h → ⊥) → Contains others x)
      → (n : ℕ) (u v : ℕ) (ns : List ℕ) → length ns ≤ n → Walk g u v ns → AreAmong ns nodes → ((l : BoundedLoop) → Contains loops l → IsKept ns l) → length ns ≤ visits h ns * suc limit + limit
  segments count limit is nodes others h few apart zero u v ns short w among kept = let b = begins w in let k = ap (λ (zs : List ℕ). length zs) b.1 in absurd (omega arith)
  segments count limit is nodes others h few apart (suc n) u v ns short w among kept =
      elim (has_or_not ns h) [
        | inr never ↦
            let le = is others few u v ns w (λ x c. apart x (among x c) (λ same. never (subst (λ (z : ℕ). Contains ns z) same c))) kept in
            omega arith
        | inl has ↦
            let r = first_at ns h has in
            let front = part_limited count limit is others few r.0 (before r.0 r.1 r.2)
            (λ x c. apart x (among x (subst (λ (zs : List ℕ). Contains zs x) (sym r.2) (Contains-append_left r.0 (h ∷ r.1) x c))) (λ same. r.3 (subst (λ (z : ℕ). Contains r.0 z) same c)))
            (λ l c. part_keeps l [] r.0 (h ∷ r.1) ns r.2 (kept l c))
            in
            let behind : length r.1 ≤ visits h r.1 * suc limit + limit = rest r.0 r.1 r.2 (λ a ns' short' w' among' kept'. segments count limit is nodes others h few apart n a v ns' short' w' among' kept') (behind_walk w r.0 h r.1 r.2) in
            let more = mul-le-mul_right (suc limit) (visits_more h r.0 r.1 ns r.2) in
            let product = suc-mul (visits h r.1) (suc limit) in
            let long = length-append r.0 (h ∷ r.1) in
            let k = ap (λ (zs : List ℕ). length zs) r.2 in
            omega arith
      ]
    where
      before : (front behind : List ℕ) → ns ≡ front ++ h ∷ behind → (front ≡ []) ⊎ ((a : ℕ) × (b : ℕ) × Walk g a b front)
      before front behind parts = elim (front_walk w front h behind parts) [ inl empty ↦ inl empty | inr t ↦ inr (u, t.0, t.1) ]

      rest : (front behind : List ℕ) → ns ≡ front ++ h ∷ behind
          → ((a : ℕ) (ms : List ℕ) → length ms ≤ n → Walk g a v ms → AreAmong ms nodes → ((l : BoundedLoop) → Contains loops l → IsKept ms l) → length ms ≤ visits h ms * suc limit + limit)
          → (behind ≡ []) ⊎ ((z : ℕ) × Walk g z v behind) → length behind ≤ visits h behind * suc limit + limit
      rest front behind parts again (inl empty) = let k = ap (λ (zs : List ℕ). length zs) empty in omega arith
      rest front behind parts again (inr t) =
          let long = length-append front (h ∷ behind) in
          let k = ap (λ (zs : List ℕ). length zs) parts in
          again t.0 behind (omega arith) t.1
          (λ x c. among x (subst (λ (zs : List ℕ). Contains zs x) (sym parts) (Contains-append_right front (h ∷ behind) x (in_tail h x behind c))))
          (λ l c. part_keeps l (front ++ h ∷ []) behind [] ns (parts ∙ last_part front h behind) (kept l c))

module _ (g : Digraph) (loops : List BoundedLoop) (covered : (u v : ℕ) (ns : List ℕ) → Edge g u v → Walk g v u ns → IsCovered loops ns) (most : ℕ) (below : (l : BoundedLoop) → Contains loops l → l.bound ≤ most) where
  -- the part of a walk up to the last visit of its first node
  round : (count limit : ℕ) → IsLimit g loops count limit → (nodes : List ℕ) → length nodes ≤ suc count → (u : ℕ) (front ns behind : List ℕ) → Walk g u u (front ++ u ∷ []) → ns ≡ front ++ u ∷ behind → AreAmong ns nodes
      → ((l : BoundedLoop) → Contains loops l → IsKept ns l) → length (front ++ u ∷ []) ≤ suc (most * suc limit + limit)
  round count limit is nodes few u [] ns behind w parts among kept = omega arith
  round count limit is nodes few u (x ∷ front) ns behind w parts among kept =
      let first = begins w in
      let same : x ≡ u = cc in
      let step = goes_on w (front ++ u ∷ []) (ap (λ (z : ℕ). z ∷ (front ++ u ∷ [])) same) (pushed_not_empty front u) in
      let cover = covered u step.0 (front ++ u ∷ []) step.1 step.2 in
      let l = cover.loop in
      let inside : AreAmong (x ∷ (front ++ u ∷ [])) ns = λ z c. subst (λ (zs : List ℕ). Contains zs z) (sym whole) (Contains-append_left (x ∷ (front ++ u ∷ [])) behind z c) in
      let at = inside l.header (in_tail x l.header (front ++ u ∷ []) cover.visited) in
      let less = without nodes l.header (among l.header at) in
      let shorter = less.1 in
      let keeps = below l cover.among in
      let taken : visits l.header (front ++ u ∷ []) ≤ l.bound = kept l cover.among [] (x ∷ (front ++ u ∷ [])) behind whole
      (all_from_contains (Contains l.members) (x ∷ (front ++ u ∷ [])) (λ z c. elim (cons_cases x z (front ++ u ∷ []) c) [
        | inl e ↦ cover.members z (subst (λ (y : ℕ). Contains (front ++ u ∷ []) y) (sym same ∙ e) (Contains-append_right front (u ∷ []) u (at_head u [])))
        | inr c' ↦ cover.members z c'
      ]))
      in
      let times = mul-le-mul_right (suc limit) (let le : visits l.header (front ++ u ∷ []) ≤ most = omega arith in le) in
      let long = segments g loops count limit is nodes less.0 l.header (omega arith) less.2 (length (front ++ u ∷ [])) step.0 u (front ++ u ∷ []) (omega arith) step.2
      (λ z c. among z (inside z (in_tail x z (front ++ u ∷ []) c)))
      (λ k c. part_keeps k (x ∷ []) (front ++ u ∷ []) behind ns whole (kept k c))
      in
      omega arith
    where
      whole : ns ≡ (x ∷ (front ++ u ∷ [])) ++ behind
      whole = parts ∙ sym (append_assoc (x ∷ front) (u ∷ []) behind)

  limit_more : (count limit : ℕ) → IsLimit g loops count limit → IsLimit g loops (suc count) (suc (most * suc limit + limit) + limit)
  limit_more count limit is nodes few u v ns w among kept =
      let b = begins w in
      let here : Contains ns u = subst (λ (zs : List ℕ). Contains zs u) (sym b.1) (at_head u b.0) in
      let r = last_at ns u here in
      let less = without nodes u (among u here) in
      let shorter = less.1 in
      let front = round count limit is nodes few u r.0 ns r.1 (walk_until w r.0 u r.1 r.2) r.2 among kept in
      let behind = part_limited g loops count limit is less.0 (omega arith) r.1 (rest r.0 r.1 r.2)
      (λ x c. less.2 x (among x (subst (λ (zs : List ℕ). Contains zs x) (sym r.2) (Contains-append_right r.0 (u ∷ r.1) x (in_tail u x r.1 c)))) (λ same. r.3 (subst (λ (z : ℕ). Contains r.1 z) same c)))
      (λ l c. part_keeps l (r.0 ++ u ∷ []) r.1 [] ns (r.2 ∙ last_part r.0 u r.1) (kept l c))
      in
      let long = length-append r.0 (u ∷ r.1) in
      let long' = length-append r.0 (u ∷ []) in
      let k = ap (λ (zs : List ℕ). length zs) r.2 in
      omega arith
    where
      rest : (before after : List ℕ) → ns ≡ before ++ u ∷ after → (after ≡ []) ⊎ ((a : ℕ) × (z : ℕ) × Walk g a z after)
      rest before after parts = elim (behind_walk w before u after parts) [ inl empty ↦ inl empty | inr t ↦ inr (t.0, v, t.1) ]

  pub limits : (count : ℕ) → (limit : ℕ) × IsLimit g loops count limit
  limits zero = (0, by)
    where
      by : IsLimit g loops 0 0
      by nodes few u v ns w among kept =
          let b = begins w in
          let c = among u (subst (λ (zs : List ℕ). Contains zs u) (sym b.1) (at_head u b.0)) in
          let below' = c.1 in
          absurd (omega arith)
  limits (suc count) = let r = limits count in (suc (most * suc r.0 + r.0) + r.0, limit_more count r.0 r.1)
