-- Walks are prolonged by nodes and by iterations of loops, and pay for both.
use Rattle.std.proofs.Common.{◌≡◌, ◌≢◌, ℕ, zero, suc, ◌+◌, ◌*◌, ◌≤◌, eqb, Bool, false, List, [], ◌∷◌, ◌++◌, get_or, All, Contains, refl, sym, ap, ◌∙◌, subst, inl, inr, arith, append_assoc}
use Rattle.std.proofs.lemmas.Bool.{cases_eq, eq-eqb, cond-true, false_from_ne_true}
use Rattle.std.proofs.lemmas.List.Elements.{All-append, All-push, All-contains, All-cons, All-nil, All-head, All-tail, Contains-push_cases}
use Rattle.lists.specs.Members.{has_or_not, nil_contains}
use Rattle.loop_nest.specs.Digraph.{Digraph, Edge}
use Rattle.loop_nest.specs.Walks.{Walk, back_edges_to}
use Rattle.loop_nest.specs.Walks.Walk.{stay, along}
use Rattle.loop_nest.proofs.SimpleWalks.{begins}
use Rattle.section_check.specs.Bounded.{BoundedLoop, holds, IsKept, IsIteration, cost_of_iteration}
use Rattle.section_check.proofs.Elements.{contains_from_holds}
use Rattle.path_solver.specs.Distances.{IsReachedBy}
use Rattle.path_solver.proofs.Order.{counted}
use Rattle.path_solver.proofs.Keeping.{is_node, IsTail, tail_iterations, tail_on, tail_enters, kept_push, kept_stays, kept_enters, kept_on, kept_apart, kept_rest, tail_one}
use Rattle.path_solver.proofs.Entering.{cost_from, held_at, cost_append, cost_enters, cost_of_node, cost_iterations}

-- a walk ends with its last node
pub walk_ends : {g : Digraph} {u v : ℕ} {ns : List ℕ} → Walk g u v ns → (first : List ℕ) × (ns ≡ first ++ v ∷ [])
walk_ends (stay {u}) = ([], refl)
walk_ends (along {u} {v} {w} {ns} e t) = let r = walk_ends t in (u ∷ r.0, ap (λ (zs : List ℕ). u ∷ zs) r.1)

pub walk_joined : {g : Digraph} {u v w : ℕ} {ns more : List ℕ} → Walk g u v ns → Walk g v w (v ∷ more) → Walk g u w (ns ++ more)
walk_joined stay next = next
walk_joined (along e t) next = along e (walk_joined t next)

-- loops with their own headers, of which no two hold each other's
pub record AreNested (ls : List BoundedLoop) : Type 0 where
  pub own : (l : BoundedLoop) → Contains ls l → Contains l.members l.header
  pub mutual_same : (l k : BoundedLoop) → Contains ls l → Contains ls k → Contains l.members k.header → Contains k.members l.header → k.header ≡ l.header
  pub decides : (l k : BoundedLoop) → Contains ls l → Contains ls k → k.header ≡ l.header → k ≡ l

-- a walk from s to u that goes on from a base by fresh nodes, and keeps all bounds
pub record IsWay (g : Digraph) (ls : List BoundedLoop) (Fresh : ℕ → Type 0) (base : List ℕ) (s u : ℕ) (ns : List ℕ) : Type 0 where
  pub walk : Walk g s u ns
  pub more : List ℕ
  pub is : ns ≡ base ++ more
  pub fresh : All Fresh more
  pub kept : (l : BoundedLoop) → Contains ls l → IsKept ns l

-- a fee is paid for by iterations and the load of the loop that is entered, or there is none
pub data IsFeePaid (g : Digraph) (costs : List ℕ) (ls : List BoundedLoop) (Fresh : ℕ → Type 0) (u fee : ℕ) : Type 0 where
  nothing : fee ≡ 0 → IsFeePaid g costs ls Fresh u fee
  by_iterations : (l : BoundedLoop) (t : List ℕ) → Contains ls l → l.header ≡ u → IsIteration g ls l t → All Fresh t → fee ≤ l.bound * cost_of_iteration costs ls t + l.load → IsFeePaid g costs ls Fresh u fee

-- u heads no loop that holds q
abbrev pub GoesOn : List BoundedLoop → ℕ → ℕ → Type 0
GoesOn ls q u = (k : BoundedLoop) → Contains ls k → k.header ≡ u → Contains k.members q → ⊥

not_again : (h : ℕ) (ns : List ℕ) → back_edges_to h (h ∷ ns) ≡ 0 → Contains ns h → ⊥
not_again h ns none has = let some = counted (λ (x : ℕ). eqb x h) ns h has (eq-eqb h h refl) in omega arith

module _ (g : Digraph) (costs : List ℕ) (ls : List BoundedLoop) (nested : AreNested ls) (inside : BoundedLoop → Bool) (s : ℕ) (base : List ℕ) (Fresh : ℕ → Type 0) where
  abbrev pub Way : ℕ → List ℕ → Type 0
  Way u ns = IsWay g ls Fresh base s u ns

  abbrev pub cost : List ℕ → ℕ
  cost ns = cost_from costs ls inside ns

  way_on : (u v : ℕ) (ns add : List ℕ) → Way u ns → Walk g u v (u ∷ add) → All Fresh add → ((l : BoundedLoop) → Contains ls l → IsKept (ns ++ add) l) → Way v (ns ++ add)
  way_on u v ns add way t fresh kept = record {
    walk = walk_joined way.walk t;
    more = way.more ++ add;
    is = ap (λ (zs : List ℕ). zs ++ add) way.is ∙ append_assoc base way.more add;
    fresh = All-append Fresh way.more add way.fresh fresh;
    kept = kept;
  }

  module _ (l : BoundedLoop) (has : Contains ls l) where
    abbrev h : ℕ
    h = l.header

    module _ (rest : List ℕ) (iteration : IsIteration g ls l (h ∷ rest)) (fresh : All Fresh (h ∷ rest)) where
      abbrev add : List ℕ
      add = rest ++ h ∷ []

      iteration_walk : Walk g h h (h ∷ add)
      iteration_walk = walk_joined iteration.walk (along iteration.back stay)

      tail_iterated : (ns : List ℕ) (n : ℕ) → IsTail ns l n → IsTail (ns ++ add) l (n + 1)
      tail_iterated ns n tail =
          let P : List ℕ → Type 0 = λ zs. IsTail zs l (n + 1) in
          let one : is_node h h ≡ 1 = cond-true (eqb h h) 1 0 (eq-eqb h h refl) in
          let Q : ℕ → Type 0 = λ z. IsTail ((ns ++ rest) ++ h ∷ []) l (n + z) in
          subst P (append_assoc ns rest (h ∷ [])) (subst Q one (tail_iterations (ns ++ rest) l n h (tail_on ns rest l n (not_again h rest iteration.first) tail)))

      -- the loop itself keeps its bound, where an iteration is left
      kept_own : (ns : List ℕ) (n : ℕ) → IsKept ns l → IsTail ns l n → n + 1 ≤ l.bound → IsKept (ns ++ add) l
      kept_own ns n kept tail room =
          let P : List ℕ → Type 0 = λ zs. IsKept zs l in
          let Q : List ℕ → Type 0 = λ zs. IsTail zs l l.bound in
          let most : IsTail (ns ++ add) l l.bound = λ before in_loop is all. let r = tail_iterated ns n tail before in_loop is all in omega arith in
          subst P (append_assoc ns rest (h ∷ [])) (kept_push (ns ++ rest) l h (kept_on ns rest l (not_again h rest iteration.first) kept) (subst Q (sym (append_assoc ns rest (h ∷ []))) most))

      add_within : (x : ℕ) → Contains add x → Contains l.members x
      add_within x c =
          let P : ℕ → Type 0 = λ z. Contains l.members z in
          elim (Contains-push_cases rest h x c) [
            | inl old ↦ All-contains (Contains l.members) rest x (All-tail (Contains l.members) h rest iteration.within) old
            | inr same ↦ subst P same (nested.own l has)
          ]

      -- a loop with another header keeps its bound: either the iteration lies in a loop inside it or apart from it, or it is inside
      kept_other : (first : List ℕ) (k : BoundedLoop) → Contains ls k → k.header ≢ h → IsKept (first ++ h ∷ []) k → IsKept ((first ++ h ∷ []) ++ add) k
      kept_other first k has' other kept =
          elim (has_or_not l.members k.header) [
            | inl in' ↦
                let iteration_kept = kept_rest h rest k (All-contains (IsKept (h ∷ rest)) ls k iteration.kept has') in
                kept_apart first add h k (λ c. other (nested.mutual_same l k has has' in' c)) kept (kept_stays rest k h (λ same. other (sym same)) iteration_kept)
            | inr out ↦ kept_on (first ++ h ∷ []) add k (λ c. out (add_within k.header c)) kept
          ]

      kept_iterated : (first : List ℕ) (n : ℕ) → ((k : BoundedLoop) → Contains ls k → IsKept (first ++ h ∷ []) k) → IsTail (first ++ h ∷ []) l n → n + 1 ≤ l.bound
          → (k : BoundedLoop) → Contains ls k → IsKept ((first ++ h ∷ []) ++ add) k
      kept_iterated first n kept tail room k has' =
          let P : BoundedLoop → Type 0 = λ j. IsKept ((first ++ h ∷ []) ++ add) j in
          elim (cases_eq k.header h) [
            | inl same ↦ subst P (sym (nested.decides l k has has' same)) (kept_own (first ++ h ∷ []) n (kept l has) tail room)
            | inr other ↦ kept_other first k has' other (kept k has')
          ]

      iterated_once : (ns : List ℕ) (n : ℕ) → Way h ns → IsTail ns l n → n + 1 ≤ l.bound → (ns' : List ℕ) × Way h ns' × IsTail ns' l (n + 1) × (cost ns + cost_of_iteration costs ls (h ∷ rest) ≤ cost ns')
      iterated_once ns n way tail room =
          let ends = walk_ends way.walk in
          let P : List ℕ → Type 0 = λ zs. Way h zs → IsTail zs l n → (ns' : List ℕ) × Way h ns' × IsTail ns' l (n + 1) × (cost zs + cost_of_iteration costs ls (h ∷ rest) ≤ cost ns') in
          let go : P (ends.0 ++ h ∷ []) = λ way' tail'.
          let a = cost_append costs ls inside ends.0 add h in
          let b = cost_iterations costs ls h rest in (
            (ends.0 ++ h ∷ []) ++ add,
            way_on h h (ends.0 ++ h ∷ []) add way' iteration_walk (All-push Fresh rest h (All-tail Fresh h rest fresh) (All-head Fresh h rest fresh)) (kept_iterated ends.0 n way'.kept tail' room),
            tail_iterated (ends.0 ++ h ∷ []) n tail',
            omega arith,
          )
          in
          subst P (sym ends.1) go way tail

      turned : (k n : ℕ) (ns : List ℕ) → Way h ns → IsTail ns l n → n + k ≤ l.bound → (ns' : List ℕ) × Way h ns' × (cost ns + k * cost_of_iteration costs ls (h ∷ rest) ≤ cost ns')
      turned zero n ns way tail room = (ns, way, omega arith)
      turned (suc k) n ns way tail room =
          let r = iterated_once ns n way tail (omega arith) in
          let z = turned k (n + 1) r.0 r.1 r.2 (omega arith) in
          let a = r.3 in
          let b = z.2 in
          (z.0, z.1, omega arith)

    -- all iterations of a loop, one after the other
    pub all_iterated : (t : List ℕ) → IsIteration g ls l t → All Fresh t → (ns : List ℕ) → Way h ns → IsTail ns l 0 → (ns' : List ℕ) × Way h ns' × (cost ns + l.bound * cost_of_iteration costs ls t ≤ cost ns')
    all_iterated t iteration fresh ns way tail =
        let b = begins iteration.walk in
        let P : List ℕ → Type 0 = λ zs. IsIteration g ls l zs → All Fresh zs → (ns' : List ℕ) × Way h ns' × (cost ns + l.bound * cost_of_iteration costs ls zs ≤ cost ns') in
        subst P (sym b.1) (λ turn' fresh'. turned b.0 turn' fresh' l.bound 0 ns way tail (omega arith)) iteration fresh

  abbrev pub Reached : ℕ → ℕ → Type 0
  Reached u most = (ns : List ℕ) × Way u ns × (most ≤ cost ns)

  stepped : (q u : ℕ) (first : List ℕ) → Way q (first ++ q ∷ []) → Edge g q u → GoesOn ls q u → Fresh u → Way u ((first ++ q ∷ []) ++ u ∷ [])
  stepped q u first way e on fresh =
      way_on q u (first ++ q ∷ []) (u ∷ []) way (along e stay) (All-cons Fresh u [] fresh (All-nil Fresh))
      (λ k has.
      elim (cases_eq k.header u) [
        | inl same ↦ kept_enters first q u k (on k has same) (way.kept k has)
        | inr other ↦ kept_stays (first ++ q ∷ []) k u (λ same. other (sym same)) (way.kept k has)
      ])

  paid_there : (q u fee : ℕ) (first : List ℕ) → Way q (first ++ q ∷ []) → Edge g q u → GoesOn ls q u → Fresh u → IsFeePaid g costs ls Fresh u fee → Reached u (cost (first ++ q ∷ []) + fee + get_or costs u 0)
  paid_there q u fee first way e on fresh (nothing none) =
      let a = cost_append costs ls inside first (u ∷ []) q in
      let b = cost_of_node costs ls (held_at q) u in
      ((first ++ q ∷ []) ++ u ∷ [], stepped q u first way e on fresh, omega arith)
  paid_there q u fee first way e on fresh (by_iterations l t has same iteration fresh' le) =
      let ns = (first ++ q ∷ []) ++ u ∷ [] in
      let P : ℕ → Type 0 = λ z. Way z ns in
      let Q : ℕ → Type 0 = λ z. Contains l.members z in
      let out = on l has same in
      let r = all_iterated l has t iteration fresh' ns (subst P (sym same) (stepped q u first way e on fresh)) (tail_enters first q u l out) in
      let R : ℕ → Type 0 = λ z. Way z r.0 in
      let a = cost_append costs ls inside first (u ∷ []) q in
      let b = cost_enters costs ls (held_at q) u l has (subst Q same (nested.own l has)) (false_from_ne_true (holds l.members q) (λ held. out (contains_from_holds l.members q held))) in
      let c = r.2 in
      (r.0, subst R same r.1, omega arith)

  -- a node is reached by an edge, with its fee
  pub arrived : (q u fee most : ℕ) → Reached q most → Edge g q u → GoesOn ls q u → Fresh u → IsFeePaid g costs ls Fresh u fee → Reached u (most + fee + get_or costs u 0)
  arrived q u fee most reached e on fresh paid =
      let enough = reached.2 in
      let ends = walk_ends reached.1.walk in
      let P : List ℕ → Type 0 = λ zs. Way q zs → most ≤ cost zs → Reached u (most + fee + get_or costs u 0) in
      let go : P (ends.0 ++ q ∷ []) = λ way low. let r = paid_there q u fee ends.0 way e on fresh paid in let a = r.2 in (r.0, r.1, omega arith) in
      subst P (sym ends.1) go reached.1 enough

  -- a node is reached at its distance, where all from which edges lead to it are
  pub reached_on : (src : ℕ → List ℕ) (fees dist : List ℕ) (u q : ℕ) → IsReachedBy src costs fees dist u → Contains (src u) q → ((x : ℕ) → Contains (src u) x → Reached x (get_or dist x 0 + get_or costs x 0))
      → ((x : ℕ) → Contains (src u) x → Edge g x u) → ((x : ℕ) → Contains (src u) x → GoesOn ls x u)
      → Fresh u → IsFeePaid g costs ls Fresh u (get_or fees u 0) → Reached u (get_or dist u 0 + get_or costs u 0)
  reached_on src fees dist u q by has before edges on fresh paid =
      elim by.most.attained [
        | inl none ↦ let P : List ℕ → Type 0 = λ zs. Contains zs q in absurd (nil_contains q (subst P none.0 has))
        | inr some ↦
            let x = some.0 in
            let r = arrived x u (get_or fees u 0) (get_or dist x 0 + get_or costs x 0) (before x some.1) (edges x some.1) (on x some.1) fresh paid in
            let a = some.2 in
            let b = by.is in
            let enough = r.2 in
            (r.0, r.1, omega arith)
      ]

  -- a walk starts at a node with its fee, where it doesn't stand in the node's loop before
  pub started : (u fee : ℕ) → Way u (u ∷ []) → ((k : BoundedLoop) → inside k ≡ false) → IsFeePaid g costs ls Fresh u fee → Reached u (fee + get_or costs u 0)
  started u fee way out (nothing none) = let a = cost_of_node costs ls inside u in (u ∷ [], way, omega arith)
  started u fee way out (by_iterations l t has same iteration fresh' le) =
      let P : ℕ → Type 0 = λ z. Way z (u ∷ []) in
      let Q : ℕ → Type 0 = λ z. Contains l.members z in
      let r = all_iterated l has t iteration fresh' (u ∷ []) (subst P (sym same) way) (tail_one u l) in
      let R : ℕ → Type 0 = λ z. Way z r.0 in
      let a = cost_enters costs ls inside u l has (subst Q same (nested.own l has)) (out l) in
      let b = r.2 in
      (r.0, subst R same r.1, omega arith)
