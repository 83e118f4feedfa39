-- Walks of two parts that visit no node twice keep all bounds.
use Rattle.std.proofs.Common.{◌≡◌, ℕ, ◌+◌, ◌≤◌, ◌⊎◌, cond, eqb, List, [], ◌∷◌, ◌++◌, count_by, length, get_or, All, Contains, refl, sym, ap, ◌∙◌, subst, inl, inr, arith, append_assoc, append-nil, length-append}
use Rattle.std.proofs.lemmas.Bool.{cases_eq, eq-eqb, ne_eqb, cond-true, cond-false}
use Rattle.std.proofs.lemmas.List.Sums.{sum_by-cons, sum_by-append}
use Rattle.std.proofs.lemmas.List.Elements.{All-cons, All-nil, All-head, All-tail, All-contains, Contains-append_left, Contains-get_or}
use Rattle.lists.specs.Members.{at_head, in_tail, cons_cases, nil_contains, has_or_not}
use Rattle.loop_nest.specs.Digraph.{Digraph}
use Rattle.loop_nest.specs.Walks.{Walk, Dominates, TakesEdge, back_edges_to}
use Rattle.loop_nest.specs.Walks.Walk.{stay, along}
use Rattle.loop_nest.specs.Nest.{NaturalLoop, IsLoopOf, IsNest}
use Rattle.loop_nest.specs.Laws.{HeaderDominatesMembers}
use Rattle.loop_nest.proofs.SimpleWalks.{walk_until, not_in_both, VisitsOnce, begins}
use Rattle.loop_nest.proofs.Around.{end_visited}
use Rattle.section_check.specs.Bounded.{BoundedLoop, IsKept}
use Rattle.path_solver.specs.Longest.{bounded_loops}
use Rattle.path_solver.specs.Laws.{ReachedWithinBounds, LiesOnBoundedWalk}
use Rattle.path_solver.proofs.SimpleParts.{simple_part, later}
use Rattle.path_solver.proofs.Prolonging.{walk_joined}

abbrev count : ℕ → List ℕ → ℕ
count h ns = count_by (λ x. eqb x h) ns

count_none : (h : ℕ) (ns : List ℕ) → (Contains ns h → ⊥) → count h ns ≡ 0
count_none h [] none = refl
count_none h (n ∷ ns) none =
    let f : ℕ → ℕ = λ x. cond (eqb x h) 1 0 in
    let here : f n ≡ 0 = cond-false (eqb n h) 1 0 (ne_eqb n h (λ same. none (let P : ℕ → Type 0 = λ y. Contains (n ∷ ns) y in subst P same (at_head n ns)))) in
    omega (arith, sum_by-cons f n ns, count_none h ns (λ c. none (in_tail n h ns c)))

count_once : (h : ℕ) (ns : List ℕ) → VisitsOnce ns → count h ns ≤ 1
count_once h [] once = omega arith
count_once h (n ∷ ns) once =
    let f : ℕ → ℕ = λ x. cond (eqb x h) 1 0 in
    elim (cases_eq n h) [
      | inl same ↦
          let here : f n ≡ 1 = cond-true (eqb n h) 1 0 (eq-eqb n h same) in
          omega (arith, sum_by-cons f n ns, count_none h ns (λ c. once.0 (let P : ℕ → Type 0 = λ y. Contains ns y in subst P (sym same) c)))
      | inr other ↦
          let here : f n ≡ 0 = cond-false (eqb n h) 1 0 (ne_eqb n h other) in
          omega (arith, sum_by-cons f n ns, count_once h ns once.1)
    ]

count_append : (h : ℕ) (xs ys : List ℕ) → count h (xs ++ ys) ≡ count h xs + count h ys
count_append h xs ys = sum_by-append (λ (x : ℕ). cond (eqb x h) 1 0) xs ys

-- within a set, h is come to from a node of the set
taken_within : (h : ℕ) (ms : List ℕ) (y : ℕ) (s : List ℕ) → All (Contains ms) (y ∷ s) → Contains s h → (x : ℕ) × Contains ms x × TakesEdge (y ∷ s) x h
taken_within h ms y [] all has = absurd (nil_contains h has)
taken_within h ms y (z ∷ zs) all has =
    elim (cons_cases z h zs has) [
      | inl same ↦ (y, All-head (Contains ms) y (z ∷ zs) all, ([], zs, ap (λ (k : ℕ). y ∷ k ∷ zs) same))
      | inr there ↦ let r = taken_within h ms z zs (All-tail (Contains ms) y (z ∷ zs) all) there in (r.0, r.1, later y r.0 h (z ∷ zs) r.2)
    ]

taken_around : (before ns after : List ℕ) (x h : ℕ) → TakesEdge ns x h → TakesEdge (before ++ ns ++ after) x h
taken_around before ns after x h k = (before ++ k.0, k.1 ++ after, ap (λ (zs : List ℕ). before ++ zs ++ after) k.2 ∙ simp append_assoc)

-- a walk of two parts takes the edges of the first and of the second
taken_by_parts : {g : Digraph} {z u : ℕ} {a : List ℕ} → Walk g z u a → (b : List ℕ) (x h : ℕ) (before after : List ℕ) → a ++ b ≡ before ++ x ∷ h ∷ after → TakesEdge a x h ⊎ TakesEdge (u ∷ b) x h
taken_by_parts (stay {u}) b x h before after is = inr (before, after, is)
taken_by_parts (along {u = z} {v} {w} {ns} e t) b x h [] after is =
    let r = begins t in
    let target : v ≡ h = cc (r.1, is) in
    let source : z ≡ x = cc in
    inl ([], r.0, ap (λ (zs : List ℕ). z ∷ zs) r.1 ∙ ap (λ (k : ℕ). k ∷ v ∷ r.0) source ∙ ap (λ (k : ℕ). x ∷ k ∷ r.0) target)
taken_by_parts (along {u = z} {v} {w} {ns} e t) b x h (p ∷ ps) after is =
    elim (taken_by_parts t b x h ps after cc) [
      | inl k ↦ inl (later z x h ns k)
      | inr k ↦ inr k
    ]

-- a place in two lists, one behind the other, lies in the first or in the second
places : (a b before : List ℕ) (y : ℕ) (r : List ℕ) → a ++ b ≡ before ++ y ∷ r → ((c : List ℕ) × (a ≡ before ++ y ∷ c) × (c ++ b ≡ r)) ⊎ ((c : List ℕ) × (b ≡ c ++ y ∷ r))
places [] b before y r is = inr (before, is)
places (z ∷ zs) b [] y r is = inl (zs, cc, cc)
places (z ∷ zs) b (p ∷ ps) y r is =
    elim (places zs b ps y r cc) [
      | inl k ↦ let same : z ≡ p = cc in inl (k.0, cc (k.1), k.2)
      | inr k ↦ inr k
    ]

-- a loop that its header dominates, the header among its members
record IsOwn (g : Digraph) (l : BoundedLoop) : Type 0 where
  own : Contains l.members l.header
  dominates : (x : ℕ) → Contains l.members x → Dominates g l.header x

from_bounded : (nest : List NaturalLoop) (bounds loads : List ℕ) (l : BoundedLoop) → Contains (bounded_loops nest bounds loads) l → (k : NaturalLoop) × Contains nest k × (l.header ≡ k.header) × (l.members ≡ k.members)
from_bounded [] bounds loads l has = absurd (nil_contains l has)
from_bounded (k ∷ ks) [] loads l has = absurd (nil_contains l has)
from_bounded (k ∷ ks) (x ∷ xs) [] l has = absurd (nil_contains l has)
from_bounded (k ∷ ks) (x ∷ xs) (y ∷ ys) l has =
    elim (cons_cases (record { header = k.header; members = k.members; bound = x; load = y }) l (bounded_loops ks xs ys) has) [
      | inl same ↦ (k, at_head k ks, ap (λ (z : BoundedLoop). z.header) (sym same), ap (λ (z : BoundedLoop). z.members) (sym same))
      | inr there ↦ let r = from_bounded ks xs ys l there in (r.0, in_tail k r.0 ks r.1, r.2, r.3)
    ]

own_of : (g : Digraph) (nest : List NaturalLoop) (bounds loads : List ℕ) → HeaderDominatesMembers → IsNest g nest → (l : BoundedLoop) → Contains (bounded_loops nest bounds loads) l → IsOwn g l
own_of g nest bounds loads law h l has =
    let r = from_bounded nest bounds loads l has in
    let k = r.0 in
    let loop = All-contains (IsLoopOf g) nest k h.loops r.1 in
    let P : List ℕ → Type 0 = λ ms. Contains ms l.header in
    let Q : ℕ → Type 0 = λ z. Contains k.members z in
    let R : ℕ → ℕ → Type 0 = λ y x. Dominates g y x in
    record {
      own = subst P (sym r.3) (subst Q (sym r.2) ((loop.members k.header).1 (loop.header, inl refl)));
      dominates = λ x in_l.
          let S : List ℕ → Type 0 = λ ms. Contains ms x in
          let T : ℕ → Type 0 = λ y. Dominates g y x in
          subst T (sym r.2) (law g k.header x ((loop.members x).0 (subst S r.3 in_l)));
    }

module _ (g : Digraph) (l : BoundedLoop) (o : IsOwn g l) where
  abbrev h : ℕ
  h = l.header

  -- a walk from node 0 that visits no node twice comes to the header before each member
  came : (x : ℕ) (a before : List ℕ) (y : ℕ) (c : List ℕ) → Walk g 0 x a → a ≡ before ++ y ∷ c → Contains l.members y → Contains (before ++ y ∷ []) h
  came x a before y c w is inside = o.dominates y inside (before ++ y ∷ []) (walk_until w before y c is)

  parted : (before : List ℕ) (y : ℕ) (c : List ℕ) → before ++ y ∷ c ≡ (before ++ y ∷ []) ++ c
  parted before y c = simp append_assoc

  never_again : (x : ℕ) (a before : List ℕ) (y : ℕ) (c : List ℕ) → Walk g 0 x a → VisitsOnce a → a ≡ before ++ y ∷ c → Contains l.members y → Contains c h → ⊥
  never_again x a before y c w once is inside has =
      let P : List ℕ → Type 0 = λ zs. VisitsOnce zs in
      not_in_both (before ++ y ∷ []) c h (subst P (is ∙ parted before y c) once) (came x a before y c w is inside) has

  not_taken : (x : ℕ) (a : List ℕ) → Walk g 0 x a → VisitsOnce a → (y : ℕ) → Contains l.members y → TakesEdge a y h → ⊥
  not_taken x a w once y inside k = never_again x a k.0 y (h ∷ k.1) w once k.2 inside (at_head h k.1)

  -- a bound of 0 forbids each edge back
  forbidden : (ns : List ℕ) → l.bound ≡ 0 → IsKept ns l → (y : ℕ) → Contains l.members y → TakesEdge ns y h → ⊥
  forbidden ns none kept y inside k =
      let all = All-cons (Contains l.members) y (h ∷ []) inside (All-cons (Contains l.members) h [] o.own (All-nil (Contains l.members))) in
      let f : ℕ → ℕ = λ x. cond (eqb x h) 1 0 in
      let once : f h ≡ 1 = cond-true (eqb h h) 1 0 (eq-eqb h h refl) in
      let placed : ns ≡ k.0 ++ (y ∷ h ∷ []) ++ k.1 = k.2 ∙ simp append_assoc in
      let most = kept k.0 (y ∷ h ∷ []) k.1 placed all in
      let counted : back_edges_to h (y ∷ h ∷ []) ≡ f h + 0 = sum_by-cons f h [] in
      absurd (omega arith)

  -- the first part, from node 0, and the second, from u on, visit no node twice
  module _ (u exit : ℕ) (a b ns : List ℕ) (first : Walk g 0 u a) (first_once : VisitsOnce a) (second_once : VisitsOnce (u ∷ b)) (part : (x y : ℕ) → TakesEdge (u ∷ b) x y → TakesEdge ns x y) (kept : l.bound ≡ 0 → IsKept ns l) where
    few : (before : List ℕ) (y : ℕ) (s after : List ℕ) → a ++ b ≡ before ++ y ∷ (s ++ after) → Contains l.members y → count h s ≤ 1
    few before y s after is inside =
        let once = count_once h b second_once.1 in
        let split = count_append h s after in
        elim (places a b before y (s ++ after) is) [
          | inl k ↦
              let none = count_none h k.0 (never_again u a before y k.0 first first_once k.1 inside) in
              let same = ap (count h) k.2 in
              omega (arith, count_append h k.0 b)
          | inr k ↦
              let f : ℕ → ℕ = λ x. cond (eqb x h) 1 0 in
              let same = ap (count h) k.1 in
              omega (arith, count_append h k.0 (y ∷ (s ++ after)), sum_by-cons f y (s ++ after))
        ]

    kept_here : (before : List ℕ) (y : ℕ) (s after : List ℕ) → a ++ b ≡ before ++ (y ∷ s) ++ after → All (Contains l.members) (y ∷ s) → count h s ≤ l.bound
    kept_here before y s after is all =
        let placed : a ++ b ≡ before ++ y ∷ (s ++ after) = is ∙ simp append_assoc in
        elim (has_or_not s h) [
          | inr none ↦ omega (arith, count_none h s none)
          | inl has ↦
              let t = taken_within h l.members y s all has in
              let k = taken_around before (y ∷ s) after t.0 h t.2 in
              elim (taken_by_parts first b t.0 h k.0 k.1 (is ∙ k.2)) [
                | inl in_first ↦ absurd (not_taken u a first first_once t.0 t.1 in_first)
                | inr in_second ↦
                    elim (cases_eq l.bound 0) [
                      | inl zero' ↦ absurd (forbidden ns zero' (kept zero') t.0 t.1 (part t.0 h in_second))
                      | inr some ↦ let most = few before y s after placed (All-head (Contains l.members) y s all) in omega arith
                    ]
              ]
        ]

    kept_by_both : IsKept (a ++ b) l
    kept_by_both before [] after is all = omega arith
    kept_by_both before (y ∷ s) after is all = kept_here before y s after is all

-- a walk of one node takes no edge
single_kept : (u : ℕ) (l : BoundedLoop) → IsKept (u ∷ []) l
single_kept u l before [] after is all = omega arith
single_kept u l before (x ∷ []) after is all = omega arith
single_kept u l before (x ∷ y ∷ zs) after is all =
    let same = ap length is in absurd (omega (arith, length-append (before ++ (x ∷ y ∷ zs)) after, length-append before (x ∷ y ∷ zs)))

all_kept : (loops : List BoundedLoop) (ns : List ℕ) → ((l : BoundedLoop) → Contains loops l → IsKept ns l) → All (IsKept ns) loops
all_kept loops ns each k d below = each (get_or loops k d) (Contains-get_or loops k d below)

pub reached_within_bounds : HeaderDominatesMembers → ReachedWithinBounds
reached_within_bounds law g nest bounds loads h u reached =
    let s = simple_part reached.1 in
    let loops = bounded_loops nest bounds loads in
    let same : s.nodes ++ [] ≡ s.nodes = append-nil s.nodes in (
      s.nodes,
      s.walk,
      all_kept loops s.nodes (λ l has.
          let P : List ℕ → Type 0 = λ zs. IsKept zs l in
          subst P same
          (kept_by_both g l (own_of g nest bounds loads law h l has) u u s.nodes [] (u ∷ []) s.walk s.once (λ c. nil_contains u c, tt) (λ x y k. k) (λ none. single_kept u l))),
    )

pub lies_on_bounded_walk : HeaderDominatesMembers → LiesOnBoundedWalk
lies_on_bounded_walk law g nest bounds loads h u reached out =
    let s = simple_part reached.1 in
    let t = simple_part out.walk in
    let b = begins t.walk in
    let loops = bounded_loops nest bounds loads in
    let P : List ℕ → Type 0 = λ zs. Walk g u out.exit zs in
    let Q : List ℕ → Type 0 = λ zs. VisitsOnce zs in
    let once = subst Q b.1 t.once in
    let part : (x y : ℕ) → TakesEdge (u ∷ b.0) x y → TakesEdge out.nodes x y = λ x y k. t.part x y (k.0, k.1, b.1 ∙ k.2) in (
      s.nodes ++ b.0,
      record {
        last = out.exit;
        walk = walk_joined s.walk (subst P b.1 t.walk);
        exit = out.among;
        kept = all_kept loops (s.nodes ++ b.0) (λ l has. kept_by_both g l (own_of g nest bounds loads law h l has) u out.exit s.nodes b.0 out.nodes s.walk s.once once part (out.kept l has));
      },
      Contains-append_left s.nodes b.0 u (end_visited s.walk),
    )
