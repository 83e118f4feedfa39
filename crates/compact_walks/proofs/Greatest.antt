-- The greatest walk costs the same under the other numbers, and numbers are too large there exactly where they are.
use Rattle.std.proofs.Common.{◌≡◌, ◌≢◌, ℕ, zero, suc, ◌+◌, ◌^◌, ◌<◌, ◌≤◌, Bool, true, false, cond, eqb, List, [], ◌∷◌, map, get_or, All, Contains, sum_by, refl, sym, ap, ap₂, ◌∙◌, subst, inl, inr, arith}
use Rattle.std.specs.List.Sorted.{IsStrictlyIncreasing}
use Rattle.std.proofs.lemmas.Bool.{cases_eq, eq-eqb, ne_eqb, cond-true, cond-false}
use Rattle.std.proofs.lemmas.List.Sums.{sum_by-cons}
use Rattle.std.proofs.lemmas.List.Elements.{All-contains}
use Rattle.lists.specs.Members.{at_head, in_tail, cons_cases, nil_contains, map_contains, place_of, rising_pair}
use Rattle.loop_nest.specs.Digraph.{Digraph, Edge}
use Rattle.loop_nest.specs.Walks.{Walk, back_edges_to}
use Rattle.loop_nest.specs.Nest.{NaturalLoop, headers_of, IsLoopOf, IsNest}
use Rattle.loop_nest.specs.Walks.Walk.{stay, along}
use Rattle.loop_nest.specs.Walks.{IsReachable}
use Rattle.loop_nest.proofs.Elements.{from_map, from_filter}
use Rattle.loop_nest.proofs.Ends.{visited_within}
use Rattle.section_check.specs.Bounded.{BoundedLoop, holds, cost_of, IsKept, IsBoundedWalk, IsGreatest, IsIteration, cost_of_iteration}
use Rattle.section_check.specs.Renumbering.{AreMovedCosts}
use Rattle.path_solver.specs.Longest.{bounded_loops, around, WalkExceeds, IterationsExceed}
use Rattle.compact_walks.specs.Moving.{IsMoved, moved_nest, moved_bounded}
use Rattle.compact_walks.specs.Laws.{MovedIsGreatest, MovedWalkExceeds, MovedIterationsExceed}
use Rattle.compact_walks.proofs.Renumbering.{AreBelow, same_test, same_holds, moved_back}
use Rattle.compact_walks.proofs.Walks.{start_visited, edge_out, edge_in, walk_out, walk_back, from_entry, from_entry_back, exit_in}
use Rattle.compact_walks.proofs.Loops.{loop_header_below, loop_members_below}
use Rattle.compact_walks.proofs.Kept.{IsBelow, all_of, same_back_edges, kept_out, kept_in, same_cost, same_iteration_cost}

pub bounded_moved : (node : ℕ → ℕ) (ls : List NaturalLoop) (bounds fees : List ℕ) → bounded_loops (moved_nest node ls) bounds fees ≡ map (moved_bounded node) (bounded_loops ls bounds fees)
bounded_moved node [] bounds fees = refl
bounded_moved node (l ∷ ls) [] fees = refl
bounded_moved node (l ∷ ls) (b ∷ bs) [] = refl
bounded_moved node (l ∷ ls) (b ∷ bs) (f ∷ fs) = ap (λ (ks : List BoundedLoop). (record { header = node l.header; members = map node l.members; bound = b; load = f }) ∷ ks) (bounded_moved node ls bs fs)

-- a bounded loop is one of the nest, with a bound and a fee
from_nest : (ls : List NaturalLoop) (bounds fees : List ℕ) (l : BoundedLoop) → Contains (bounded_loops ls bounds fees) l → (k : NaturalLoop) × Contains ls k × (k.header ≡ l.header) × (k.members ≡ l.members)
from_nest [] bounds fees l has = absurd (nil_contains l has)
from_nest (k ∷ ks) [] fees l has = absurd (nil_contains l has)
from_nest (k ∷ ks) (b ∷ bs) [] l has = absurd (nil_contains l has)
from_nest (k ∷ ks) (b ∷ bs) (f ∷ fs) l has =
    elim (cons_cases (record { header = k.header; members = k.members; bound = b; load = f }) l (bounded_loops ks bs fs) has) [
      | inl same ↦ (k, at_head k ks, ap (λ (x : BoundedLoop). x.header) same, ap (λ (x : BoundedLoop). x.members) same)
      | inr there ↦ let r = from_nest ks bs fs l there in (r.0, in_tail k r.0 ks r.1, r.2, r.3)
    ]

-- the number of a node that has another number
abbrev pub number_in : (node : ℕ → ℕ) → (n x : ℕ) → ℕ
number_in node zero x = zero
number_in node (suc n) x = cond (eqb (node n) x) n (number_in node n x)

-- the loop with the header that has another number
abbrev pub loop_in : (node : ℕ → ℕ) → List BoundedLoop → BoundedLoop → BoundedLoop
loop_in node [] k = k
loop_in node (l ∷ ls) k = cond (eqb (node l.header) k.header) l (loop_in node ls k)

-- no two of these have one header
abbrev HeadersDiffer : List BoundedLoop → Type 0
HeadersDiffer ls = (l k : BoundedLoop) → Contains ls l → Contains ls k → l.header ≡ k.header → l ≡ k

increasing_tail : (x : ℕ) (xs : List ℕ) → IsStrictlyIncreasing (x ∷ xs) → IsStrictlyIncreasing xs
increasing_tail x xs h k below =
    let e : suc k + 1 ≡ suc (k + 1) = omega arith in
    subst (λ (n : ℕ). get_or xs k 0 < get_or (x ∷ xs) n 0) e (h (suc k) (omega arith))

-- the header of the first is none of the others'
first_apart : (k : NaturalLoop) (ks : List NaturalLoop) → IsStrictlyIncreasing (headers_of (k ∷ ks)) → (h : ℕ) → Contains (headers_of ks) h → k.header ≢ h
first_apart k ks rise h has same =
    let at = place_of (headers_of ks) h has in
    let below = at.1 in
    let here = at.2 in
    let less = rising_pair (headers_of (k ∷ ks)) rise 0 (suc at.0) (omega arith) (omega arith) in
    absurd (omega arith)

headers_differ : (ls : List NaturalLoop) (bounds fees : List ℕ) → IsStrictlyIncreasing (headers_of ls) → HeadersDiffer (bounded_loops ls bounds fees)
headers_differ [] bounds fees rise l k a b same = absurd (nil_contains l a)
headers_differ (n ∷ ns) [] fees rise l k a b same = absurd (nil_contains l a)
headers_differ (n ∷ ns) (m ∷ ms) [] rise l k a b same = absurd (nil_contains l a)
headers_differ (n ∷ ns) (m ∷ ms) (f ∷ fs) rise l k a b same =
    let x : BoundedLoop = record { header = n.header; members = n.members; bound = m; load = f } in
    let rest = bounded_loops ns ms fs in
    let later : (y : BoundedLoop) → Contains rest y → n.header ≢ y.header = λ y has.
    let r = from_nest ns ms fs y has in
    let among = map_contains (λ (z : NaturalLoop). z.header) ns r.0 r.1 in
    first_apart n ns rise y.header (subst (λ (z : ℕ). Contains (headers_of ns) z) r.2 among) in
    elim (cons_cases x l rest a) [
      | inl here ↦
          elim (cons_cases x k rest b) [
            | inl there ↦ sym here ∙ there
            | inr behind ↦ absurd (later k behind (ap (λ (z : BoundedLoop). z.header) here ∙ same))
          ]
      | inr behind ↦
          elim (cons_cases x k rest b) [
            | inl here ↦ absurd (later l behind (ap (λ (z : BoundedLoop). z.header) here ∙ sym same))
            | inr too ↦ headers_differ ns ms fs (increasing_tail n.header (headers_of ns) rise) l k behind too same
          ]
    ]

module _ (g d : Digraph) (node : ℕ → ℕ) (h : IsMoved g d node) where
  pub number_in_is : (n u : ℕ) → n ≤ d.nodes → u < n → number_in node n (node u) ≡ u
  number_in_is zero u most lt = absurd (omega arith)
  number_in_is (suc n) u most lt =
      elim (cases_eq u n) [
        | inl same ↦ cond-true (eqb (node n) (node u)) n (number_in node n (node u)) (eq-eqb (node n) (node u) (ap node (sym same))) ∙ sym same
        | inr other ↦
            let apart : node n ≢ node u = λ e. let up = h.compact.rising u n (omega arith) (omega arith) in absurd (omega arith) in
            cond-false (eqb (node n) (node u)) n (number_in node n (node u)) (ne_eqb (node n) (node u) apart) ∙ number_in_is n u (omega arith) (omega arith)
      ]

  numbers_in_are : (ns : List ℕ) → AreBelow d.nodes ns → map (number_in node d.nodes) (map node ns) ≡ ns
  numbers_in_are [] below = refl
  numbers_in_are (u ∷ ns) below = ap₂ (λ (a : ℕ) (b : List ℕ). a ∷ b) (number_in_is d.nodes u (omega arith) (below u (at_head u ns))) (numbers_in_are ns (λ v has. below v (in_tail u v ns has)))

  loop_in_is : (ls : List BoundedLoop) → ((l : BoundedLoop) → Contains ls l → IsBelow d.nodes l) → HeadersDiffer ls → (l : BoundedLoop) → Contains ls l → loop_in node ls (moved_bounded node l) ≡ l
  loop_in_is [] in_range differ l has = absurd (nil_contains l has)
  loop_in_is (k ∷ ks) in_range differ l has =
      let first = in_range k (at_head k ks) in
      let test = same_test d.nodes node h.compact.rising k.header l.header first.header (in_range l has).header in
      elim (cases_eq k.header l.header) [
        | inl same ↦
            cond-true (eqb (node k.header) (node l.header)) k (loop_in node ks (moved_bounded node l)) (test ∙ eq-eqb k.header l.header same) ∙ differ k l (at_head k ks) has same
        | inr other ↦
            let there : Contains ks l = elim (cons_cases k l ks has) [ inl here ↦ absurd (other (ap (λ (z : BoundedLoop). z.header) here)) | inr behind ↦ behind ] in
            cond-false (eqb (node k.header) (node l.header)) k (loop_in node ks (moved_bounded node l)) (test ∙ ne_eqb k.header l.header other)
            ∙ loop_in_is ks (λ x c. in_range x (in_tail k x ks c)) (λ x y a b. differ x y (in_tail k x ks a) (in_tail k y ks b)) l there
      ]

  module _ (loops : List BoundedLoop) (in_range : (l : BoundedLoop) → Contains loops l → IsBelow d.nodes l) (costs others : List ℕ) (same : AreMovedCosts d node costs others) where
    abbrev moved_loops : List BoundedLoop
    moved_loops = map (moved_bounded node) loops

    all_kept_out : (ns : List ℕ) → AreBelow d.nodes ns → All (IsKept ns) loops → All (IsKept (map node ns)) moved_loops
    all_kept_out ns below kept = all_of (IsKept (map node ns)) moved_loops (λ k has.
        let r = from_map (moved_bounded node) loops k has in
        subst (λ (z : BoundedLoop). IsKept (map node ns) z) r.2 (kept_out d.nodes node h.compact.rising r.0 (in_range r.0 r.1) ns below (All-contains (IsKept ns) loops r.0 kept r.1)))

    all_kept_in : (ns : List ℕ) → AreBelow d.nodes ns → All (IsKept (map node ns)) moved_loops → All (IsKept ns) loops
    all_kept_in ns below kept = all_of (IsKept ns) loops (λ l has.
        kept_in d.nodes node h.compact.rising l (in_range l has) ns below (All-contains (IsKept (map node ns)) moved_loops (moved_bounded node l) kept (map_contains (moved_bounded node) loops l has)))

    -- ---- bounded walks

    walk_below : {u v : ℕ} {ns : List ℕ} → Walk d u v ns → v < d.nodes → AreBelow d.nodes ns
    walk_below t below = visited_within h.compact.digraph t below

    exit_below : (u : ℕ) → Contains d.exits u → u < d.nodes
    exit_below u has = ((h.compact.exits u).0 has).0

    bounded_out : (ns : List ℕ) → IsBoundedWalk d loops ns → IsBoundedWalk g moved_loops (map node ns)
    bounded_out ns b =
        let below = exit_below b.last b.exit in
        record { last = node b.last; walk = from_entry g d node h b.walk; exit = ((h.compact.exits b.last).0 b.exit).1; kept = all_kept_out ns (walk_below b.walk below) b.kept }

    -- a bounded walk of the other graph, put back
    record BackWalk (ms : List ℕ) : Type 0 where
      nodes : List ℕ
      are : map node nodes ≡ ms
      below : AreBelow d.nodes nodes
      bounded : IsBoundedWalk d loops nodes

    bounded_back : (ms : List ℕ) → IsBoundedWalk g moved_loops ms → BackWalk ms
    bounded_back ms w =
        let b = from_entry_back g d node h w.walk in
        let below = walk_below b.walk b.below in
        record {
          nodes = b.nodes;
          are = b.are;
          below = below;
          bounded = record {
            last = b.target;
            walk = b.walk;
            exit = exit_in g d node h b.target b.below (subst (λ (z : ℕ). Contains g.exits z) (sym b.is) w.exit);
            kept = all_kept_in b.nodes below (subst (λ (zs : List ℕ). All (IsKept zs) moved_loops) (sym b.are) w.kept);
          };
        }

    cost_out : (ns : List ℕ) → AreBelow d.nodes ns → cost_of others moved_loops (map node ns) ≡ cost_of costs loops ns
    cost_out ns below = same_cost d.nodes node h.compact.rising costs others same loops in_range ns below

    pub greatest_out : (value : ℕ) → IsGreatest d costs loops value → IsGreatest g others moved_loops value
    greatest_out value w =
        let below = walk_below w.bounded.walk (exit_below w.bounded.last w.bounded.exit) in
        record {
          walk = map node w.walk;
          bounded = bounded_out w.walk w.bounded;
          attained = cost_out w.walk below ∙ w.attained;
          greatest = λ ms b.
              let r = bounded_back ms b in
              subst (λ (zs : List ℕ). cost_of others moved_loops zs ≤ value) r.are
              (let e = cost_out r.nodes r.below in let most = w.greatest r.nodes r.bounded in let k : cost_of others moved_loops (map node r.nodes) ≤ value = omega arith in k);
        }

    pub exceeds_out : WalkExceeds d costs loops → WalkExceeds g others moved_loops
    exceeds_out w =
        let below = walk_below w.bounded.walk (exit_below w.bounded.last w.bounded.exit) in
        record { walk = map node w.walk; bounded = bounded_out w.walk w.bounded; exceeds = subst (λ (z : ℕ). 2 ^ 64 ≤ z) (sym (cost_out w.walk below)) w.exceeds }

    -- ---- iterations

    iteration_below : (l : BoundedLoop) (ns : List ℕ) → Contains loops l → IsIteration d loops l ns → AreBelow d.nodes ns
    iteration_below l ns has it u among = (in_range l has).members u (All-contains (Contains l.members) ns u it.within among)

    iteration_out : (l : BoundedLoop) (ns : List ℕ) → Contains loops l → IsIteration d loops l ns → IsIteration g moved_loops (moved_bounded node l) (map node ns)
    iteration_out l ns has it =
        let below = iteration_below l ns has it in
        record {
          last = node it.last;
          walk = walk_out g d node h it.walk;
          within = all_of (Contains (map node l.members)) (map node ns) (λ x among.
              let r = from_map node ns x among in
              subst (λ (z : ℕ). Contains (map node l.members) z) r.2 (map_contains node l.members r.0 (All-contains (Contains l.members) ns r.0 it.within r.1)));
          back = edge_out g d node h it.last l.header it.back;
          first = same_back_edges d.nodes node h.compact.rising l.header ns (in_range l has).header below ∙ it.first;
          kept = all_kept_out ns below it.kept;
        }

    record BackIteration (l : BoundedLoop) (ms : List ℕ) : Type 0 where
      nodes : List ℕ
      are : map node nodes ≡ ms
      below : AreBelow d.nodes nodes
      iteration : IsIteration d loops l nodes

    iteration_back : (l : BoundedLoop) (ms : List ℕ) → Contains loops l → IsIteration g moved_loops (moved_bounded node l) ms → BackIteration l ms
    iteration_back l ms has it =
        let range = in_range l has in
        let b = walk_back g d node h it.walk l.header range.header refl in
        let below = walk_below b.walk b.below in
        record {
          nodes = b.nodes;
          are = b.are;
          below = below;
          iteration = record {
            last = b.target;
            walk = b.walk;
            within = all_of (Contains l.members) b.nodes (λ u among.
                moved_back d.nodes node h.compact.rising l.members range.members u (below u among)
                (All-contains (Contains (map node l.members)) ms (node u) it.within (subst (λ (zs : List ℕ). Contains zs (node u)) b.are (map_contains node b.nodes u among))));
            back = edge_in g d node h b.target l.header b.below range.header (subst (λ (z : ℕ). Edge g z (node l.header)) (sym b.is) it.back);
            first = sym (same_back_edges d.nodes node h.compact.rising l.header b.nodes range.header below) ∙ ap (back_edges_to (node l.header)) b.are ∙ it.first;
            kept = all_kept_in b.nodes below (subst (λ (zs : List ℕ). All (IsKept zs) moved_loops) (sym b.are) it.kept);
          };
        }

    iteration_cost_out : (ns : List ℕ) → AreBelow d.nodes ns → cost_of_iteration others moved_loops (map node ns) ≡ cost_of_iteration costs loops ns
    iteration_cost_out ns below = same_iteration_cost d.nodes node h.compact.rising costs others same loops in_range ns below

    -- the loops around a node
    around_moved : (ls : List BoundedLoop) → ((l : BoundedLoop) → Contains ls l → IsBelow d.nodes l) → (u : ℕ) → u < d.nodes → around (map (moved_bounded node) ls) (node u) ≡ map (moved_bounded node) (around ls u)
    around_moved [] range u lu = refl
    around_moved (l ∷ ls) range u lu =
        let test = same_holds d.nodes node h.compact.rising l.members (range l (at_head l ls)).members u lu in
        let rest = around_moved ls (λ k has. range k (in_tail l k ls has)) u lu in
        ap (λ (b : Bool). cond b (moved_bounded node l ∷ around (map (moved_bounded node) ls) (node u)) (around (map (moved_bounded node) ls) (node u))) test
        ∙ ap (λ (ks : List BoundedLoop). cond (holds l.members u) (moved_bounded node l ∷ ks) ks) rest
        ∙ chosen (holds l.members u) l (around ls u)
      where
        chosen : (b : Bool) (k : BoundedLoop) (ks : List BoundedLoop) → cond b (moved_bounded node k ∷ map (moved_bounded node) ks) (map (moved_bounded node) ks) ≡ map (moved_bounded node) (cond b (k ∷ ks) ks)
        chosen true k ks = refl
        chosen false k ks = refl

    sum_moved : (ls : List BoundedLoop) (f f' : BoundedLoop → ℕ) → ((l : BoundedLoop) → Contains ls l → f' (moved_bounded node l) ≡ f l) → sum_by f' (map (moved_bounded node) ls) ≡ sum_by f ls
    sum_moved [] f f' alike = refl
    sum_moved (l ∷ ls) f f' alike =
        sum_by-cons f' (moved_bounded node l) (map (moved_bounded node) ls)
        ∙ ap₂ (λ (a b : ℕ). a + b) (alike l (at_head l ls)) (sum_moved ls f f' (λ k has. alike k (in_tail l k ls has)))
        ∙ sym (sum_by-cons f l ls)

    among_loops : (u : ℕ) (l : BoundedLoop) → Contains (around loops u) l → Contains loops l
    among_loops u l has = (from_filter (λ (k : BoundedLoop). holds k.members u) loops l has).0

    module _ (differ : HeadersDiffer loops) where
      pub iterations_out : IterationsExceed d costs loops → IterationsExceed g others moved_loops
      iterations_out e =
          let exit_lt = exit_below e.reaches.exit e.reaches.among in
          let lu = walk_below e.reaches.walk exit_lt e.node (start_visited e.reaches.walk) in
          let moved_around = around_moved loops in_range e.node lu in
          let iteration' : BoundedLoop → List ℕ = λ k. map node (e.iteration (loop_in node loops k)) in
          let of : (l : BoundedLoop) → Contains (around loops e.node) l → iteration' (moved_bounded node l) ≡ map node (e.iteration l) = λ l has.
          ap (λ (k : BoundedLoop). map node (e.iteration k)) (loop_in_is loops in_range differ l (among_loops e.node l has)) in
          let cost : BoundedLoop → ℕ = λ l. cost_of_iteration costs loops (e.iteration l) in
          let cost' : BoundedLoop → ℕ = λ k. cost_of_iteration others moved_loops (iteration' k) in
          let total : sum_by cost' (map (moved_bounded node) (around loops e.node)) ≡ sum_by cost (around loops e.node) = sum_moved (around loops e.node) cost cost' (λ l has.
          ap (λ (ns : List ℕ). cost_of_iteration others moved_loops ns) (of l has) ∙ iteration_cost_out (e.iteration l) (iteration_below l (e.iteration l) (among_loops e.node l has) (e.are l has))) in
          record {
            node = node e.node;
            reaches = record { exit = node e.reaches.exit; among = ((h.compact.exits e.reaches.exit).0 e.reaches.among).1; nodes = map node e.reaches.nodes; walk = walk_out g d node h e.reaches.walk };
            iteration = iteration';
            are = λ k has.
                let r = from_map (moved_bounded node) (around loops e.node) k (subst (λ (ks : List BoundedLoop). Contains ks k) moved_around has) in
                subst (λ (z : BoundedLoop). IsIteration g moved_loops z (iteration' z)) r.2
                (subst (λ (ns : List ℕ). IsIteration g moved_loops (moved_bounded node r.0) ns) (sym (of r.0 r.1)) (iteration_out r.0 (e.iteration r.0) (among_loops e.node r.0 r.1) (e.are r.0 r.1)));
            exceeds = subst (λ (ks : List BoundedLoop). 2 ^ 64 ≤ sum_by cost' ks) (sym moved_around) (subst (λ (z : ℕ). 2 ^ 64 ≤ z) (sym total) e.exceeds);
          }

      from_exit : {x y : ℕ} {ns : List ℕ} → Walk g x y ns → Contains g.exits y → IsReachable g x
      from_exit (stay {u}) among = h.exits u among
      from_exit (along {u} {v} e t) among = h.edges u v e

      -- for a node that has this number
      iterations_at : (e : IterationsExceed g others moved_loops) (u : ℕ) → u < d.nodes → node u ≡ e.node → IterationsExceed d costs loops
      iterations_at e u lu is =
          let b = walk_back g d node h e.reaches.walk u lu is in
          let moved_around : around moved_loops e.node ≡ map (moved_bounded node) (around loops u) = ap (λ (z : ℕ). around moved_loops z) (sym is) ∙ around_moved loops in_range u lu in
          let iteration' : BoundedLoop → List ℕ = λ l. map (number_in node d.nodes) (e.iteration (moved_bounded node l)) in
          let there : (l : BoundedLoop) → Contains (around loops u) l → BackIteration l (e.iteration (moved_bounded node l)) = λ l has.
          iteration_back l (e.iteration (moved_bounded node l)) (among_loops u l has)
          (e.are (moved_bounded node l) (subst (λ (ks : List BoundedLoop). Contains ks (moved_bounded node l)) (sym moved_around) (map_contains (moved_bounded node) (around loops u) l has))) in
          let of : (l : BoundedLoop) (has : Contains (around loops u) l) → iteration' l ≡ (there l has).nodes = λ l has.
          ap (λ (ms : List ℕ). map (number_in node d.nodes) ms) (sym (there l has).are) ∙ numbers_in_are (there l has).nodes (there l has).below in
          let cost : BoundedLoop → ℕ = λ l. cost_of_iteration costs loops (iteration' l) in
          let cost' : BoundedLoop → ℕ = λ k. cost_of_iteration others moved_loops (e.iteration k) in
          let total : sum_by cost' (map (moved_bounded node) (around loops u)) ≡ sum_by cost (around loops u) = sum_moved (around loops u) cost cost' (λ l has.
          ap (λ (ms : List ℕ). cost_of_iteration others moved_loops ms) (sym (there l has).are)
          ∙ iteration_cost_out (there l has).nodes (there l has).below
          ∙ ap (λ (ns : List ℕ). cost_of_iteration costs loops ns) (sym (of l has))) in
          record {
            node = u;
            reaches = record { exit = b.target; among = exit_in g d node h b.target b.below (subst (λ (z : ℕ). Contains g.exits z) (sym b.is) e.reaches.among); nodes = b.nodes; walk = b.walk };
            iteration = iteration';
            are = λ l has. subst (λ (ns : List ℕ). IsIteration d loops l ns) (sym (of l has)) (there l has).iteration;
            exceeds = subst (λ (z : ℕ). 2 ^ 64 ≤ z) total (subst (λ (ks : List BoundedLoop). 2 ^ 64 ≤ sum_by cost' ks) moved_around e.exceeds);
          }

      pub iterations_in : IterationsExceed g others moved_loops → IterationsExceed d costs loops
      iterations_in e =
          let at = h.compact.all e.node (from_exit e.reaches.walk e.reaches.among) in
          iterations_at e at.0 at.1 at.2

-- ---- laws

module _ (g d : Digraph) (node : ℕ → ℕ) (h : IsMoved g d node) (nest : List NaturalLoop) (is : IsNest d nest) (bounds fees : List ℕ) where
  nest_below : (l : BoundedLoop) → Contains (bounded_loops nest bounds fees) l → IsBelow d.nodes l
  nest_below l has =
      let r = from_nest nest bounds fees l has in
      let loop = All-contains (λ (k : NaturalLoop). IsLoopOf d k) nest r.0 is.loops r.1 in
      record {
        header = subst (λ (z : ℕ). z < d.nodes) r.2 (loop_header_below g d node h r.0 loop);
        members = subst (λ (us : List ℕ). AreBelow d.nodes us) r.3 (loop_members_below g d node h r.0 loop);
      }

pub moved_is_greatest : MovedIsGreatest
moved_is_greatest g d node h nest is bounds fees costs others same value w =
    subst (λ (ls : List BoundedLoop). IsGreatest g others ls value) (sym (bounded_moved node nest bounds fees))
    (greatest_out g d node h (bounded_loops nest bounds fees) (nest_below g d node h nest is bounds fees) costs others same value w)

pub moved_walk_exceeds : MovedWalkExceeds
moved_walk_exceeds g d node h nest is bounds fees costs others same w =
    subst (λ (ls : List BoundedLoop). WalkExceeds g others ls) (sym (bounded_moved node nest bounds fees))
    (exceeds_out g d node h (bounded_loops nest bounds fees) (nest_below g d node h nest is bounds fees) costs others same w)

pub moved_iterations_exceed : MovedIterationsExceed
moved_iterations_exceed g d node h nest is bounds fees costs others same =
    let loops = bounded_loops nest bounds fees in
    let range = nest_below g d node h nest is bounds fees in
    let differ = headers_differ nest bounds fees is.rising in
    let moves = bounded_moved node nest bounds fees in (
      λ e. subst (λ (ls : List BoundedLoop). IterationsExceed g others ls) (sym moves) (iterations_out g d node h loops range costs others same differ e),
      λ e. iterations_in g d node h loops range costs others same differ (subst (λ (ls : List BoundedLoop). IterationsExceed g others ls) moves e),
    )
