-- A walk of a compact graph with its counts, under the other numbers of nodes.
use Rattle.std.proofs.Common.{◌≡◌, ℕ, ◌+◌, ◌<◌, ◌&&◌, Bool, false, not, cond, eqb, List, [], ◌∷◌, length, map, get_or, count_by, All, Contains, refl, sym, ap, ap₂, ◌∙◌, subst, inl, inr, arith}
use Rattle.std.proofs.lemmas.List.{length-map, get_or-map, get_or_default, same_lists}
use Rattle.std.proofs.lemmas.List.Sums.{sum_by-cons}
use Rattle.std.proofs.lemmas.List.Elements.{All-contains}
use Rattle.lists.specs.Members.{at_head, in_tail, cons_cases, nil_contains}
use Rattle.loop_nest.specs.Digraph.{Digraph}
use Rattle.loop_nest.specs.Nest.{NaturalLoop, IsLoopOf, IsNest}
use Rattle.loop_nest.proofs.Elements.{from_map}
use Rattle.loop_nest.proofs.Ends.{visited_within}
use Rattle.section_check.specs.Bounded.{BoundedLoop, holds, entries_from, entries, cost_of, IsKept, IsBoundedWalk}
use Rattle.section_check.specs.Placing.{IsEntryAt}
use Rattle.section_check.specs.Renumbering.{AreMovedCosts}
use Rattle.path_solver.specs.Longest.{bounded_loops}
use Rattle.compact_walks.specs.Moving.{IsMoved, moved_nest, moved_bounded}
use Rattle.compact_walks.proofs.Renumbering.{AreBelow, rest_below, same_test, same_holds}
use Rattle.compact_walks.proofs.Walks.{from_entry}
use Rattle.compact_walks.proofs.Loops.{loop_header_below, loop_members_below}
use Rattle.compact_walks.proofs.Kept.{IsBelow, all_of, kept_out, same_cost}
use Rattle.bound_report.specs.Visits.Counts.{AreCounts}

bounded_moved : (node : ℕ → ℕ) (ls : List NaturalLoop) (bounds fees : List ℕ) → bounded_loops (moved_nest node ls) bounds fees ≡ map (moved_bounded node) (bounded_loops ls bounds fees)
bounded_moved node [] bounds fees = refl
bounded_moved node (l ∷ ls) [] fees = refl
bounded_moved node (l ∷ ls) (b ∷ bs) [] = refl
bounded_moved node (l ∷ ls) (b ∷ bs) (f ∷ fs) = ap (λ (ks : List BoundedLoop). (record { header = node l.header; members = map node l.members; bound = b; load = f }) ∷ ks) (bounded_moved node ls bs fs)

from_nest : (ls : List NaturalLoop) (bounds fees : List ℕ) (l : BoundedLoop) → Contains (bounded_loops ls bounds fees) l → (k : NaturalLoop) × Contains ls k × (k.header ≡ l.header) × (k.members ≡ l.members)
from_nest [] bounds fees l has = absurd (nil_contains l has)
from_nest (k ∷ ks) [] fees l has = absurd (nil_contains l has)
from_nest (k ∷ ks) (b ∷ bs) [] l has = absurd (nil_contains l has)
from_nest (k ∷ ks) (b ∷ bs) (f ∷ fs) l has =
    elim (cons_cases (record { header = k.header; members = k.members; bound = b; load = f }) l (bounded_loops ks bs fs) has) [
      | inl same ↦ (k, at_head k ks, ap (λ (x : BoundedLoop). x.header) same, ap (λ (x : BoundedLoop). x.members) same)
      | inr there ↦ let r = from_nest ks bs fs l there in (r.0, in_tail k r.0 ks r.1, r.2, r.3)
    ]

module _ (n : ℕ) (node : ℕ → ℕ) (rising : (u v : ℕ) → v < n → u < v → node u < node v) where
  pub counted : (h : ℕ) (ns : List ℕ) → h < n → AreBelow n ns → count_by (λ x. eqb x (node h)) (map node ns) ≡ count_by (λ x. eqb x h) ns
  counted h [] lh below = refl
  counted h (u ∷ ns) lh below =
      let f : ℕ → ℕ = λ x. cond (eqb x (node h)) 1 0 in
      let g : ℕ → ℕ = λ x. cond (eqb x h) 1 0 in
      let here : f (node u) ≡ g u = ap (λ (b : Bool). cond b 1 0) (same_test n node rising u h (below u (at_head u ns)) lh) in
      sum_by-cons f (node u) (map node ns) ∙ ap₂ (λ (a b : ℕ). a + b) here (counted h ns lh (rest_below n u ns below)) ∙ sym (sum_by-cons g u ns)

  pub entries_same : (inside : Bool) (members : List ℕ) → AreBelow n members → (ns : List ℕ) → AreBelow n ns → entries_from inside (map node members) (map node ns) ≡ entries_from inside members ns
  entries_same inside members in_range [] below = refl
  entries_same inside members in_range (u ∷ ns) below =
      let here = same_holds n node rising members in_range u (below u (at_head u ns)) in
      let rest = rest_below n u ns below in
      ap (λ (b : Bool). cond (b && not inside) 1 0 + entries_from b (map node members) (map node ns)) here
      ∙ ap (λ (k : ℕ). cond (holds members u && not inside) 1 0 + k) (entries_same (holds members u) members in_range ns rest)

-- a walk with its counts: its nodes have their other numbers, and its entries are as they were
pub record MovedWalk (g d : Digraph) (node : ℕ → ℕ) (costs : List ℕ) (loops : List BoundedLoop) (value : ℕ) (visits entered : List ℕ) : Type 0 where
  pub walk : List ℕ
  pub bounded : IsBoundedWalk g loops walk
  pub attained : cost_of costs loops walk ≡ value
  pub visits_are : (u : ℕ) → u < d.nodes → get_or visits u 0 ≡ count_by (λ x. eqb x (node u)) walk
  pub among : (x : ℕ) → Contains walk x → (u : ℕ) × (u < d.nodes) × (node u ≡ x)
  pub entered_are : entered ≡ map (λ l. entries l.members walk) loops

module _ (g d : Digraph) (node : ℕ → ℕ) (h : IsMoved g d node) (nest : List NaturalLoop) (is : IsNest d nest) (bounds fees : List ℕ) where
  abbrev inner : List BoundedLoop
  inner = bounded_loops nest bounds fees

  in_range : (l : BoundedLoop) → Contains inner l → IsBelow d.nodes l
  in_range l has =
      let r = from_nest nest bounds fees l has in
      let loop = All-contains (λ (k : NaturalLoop). IsLoopOf d k) nest r.0 is.loops r.1 in
      record {
        header = subst (λ (z : ℕ). z < d.nodes) r.2 (loop_header_below g d node h r.0 loop);
        members = subst (λ (us : List ℕ). AreBelow d.nodes us) r.3 (loop_members_below g d node h r.0 loop);
      }

  kept_all : (ns : List ℕ) → AreBelow d.nodes ns → All (IsKept ns) inner → All (IsKept (map node ns)) (map (moved_bounded node) inner)
  kept_all ns below kept = all_of (IsKept (map node ns)) (map (moved_bounded node) inner) (λ k has.
      let r = from_map (moved_bounded node) inner k has in
      subst (λ (z : BoundedLoop). IsKept (map node ns) z) r.2 (kept_out d.nodes node h.compact.rising r.0 (in_range r.0 r.1) ns below (All-contains (IsKept ns) inner r.0 kept r.1)))

  -- the entries of each loop, in their order
  entries_of : (ns : List ℕ) → AreBelow d.nodes ns → (ls : List BoundedLoop) → ((l : BoundedLoop) → Contains ls l → IsBelow d.nodes l) → map (λ (l : BoundedLoop). entries l.members (map node ns)) (map (moved_bounded node) ls) ≡ map (λ (l : BoundedLoop). entries l.members ns) ls
  entries_of ns below [] all = refl
  entries_of ns below (l ∷ ls) all =
      ap₂ (λ (k : ℕ) (ks : List ℕ). k ∷ ks) (entries_same d.nodes node h.compact.rising false l.members (all l (at_head l ls)).members ns below) (entries_of ns below ls (λ k has. all k (in_tail l k ls has)))

  pub moved_walk : (costs others : List ℕ) → AreMovedCosts d node costs others → (value : ℕ) (visits entered : List ℕ) → AreCounts d costs inner value visits entered
      → MovedWalk g d node others (bounded_loops (moved_nest node nest) bounds fees) value visits entered
  moved_walk costs others same value visits entered c =
      let last = ((h.compact.exits c.bounded.last).0 c.bounded.exit).0 in
      let below : AreBelow d.nodes c.walk = visited_within h.compact.digraph c.bounded.walk last in
      let out = subst (λ (ls : List BoundedLoop). MovedWalk g d node others ls value visits entered) (sym (bounded_moved node nest bounds fees)) in
      out (record {
        walk = map node c.walk;
        bounded = record { last = node c.bounded.last; walk = from_entry g d node h c.bounded.walk; exit = ((h.compact.exits c.bounded.last).0 c.bounded.exit).1; kept = kept_all c.walk below c.bounded.kept };
        attained = same_cost d.nodes node h.compact.rising costs others same inner in_range c.walk below ∙ c.attained;
        visits_are = λ u lu. c.visits_are u ∙ sym (counted d.nodes node h.compact.rising u c.walk lu below);
        among = λ x has. let r = from_map node c.walk x has in (r.0, below r.0 r.1, r.2);
        entered_are = listed c.walk c.entered_are c.entered_long ∙ sym (entries_of c.walk below inner in_range);
      })
    where
      none : BoundedLoop
      none = record { header = 0; members = []; bound = 0; load = 0 }

      listed : (walk : List ℕ) → ((i : ℕ) (l : BoundedLoop) → IsEntryAt inner i l → get_or entered i 0 ≡ entries l.members walk) → length entered ≡ length inner → entered ≡ map (λ (l : BoundedLoop). entries l.members walk) inner
      listed walk are long =
          let f : BoundedLoop → ℕ = λ l. entries l.members walk in
          same_lists entered (map f inner) (long ∙ sym (length-map inner f))
          (λ k e lt.
          let within : k < length inner = omega arith in
          get_or_default entered k e 0 lt
          ∙ (are k (get_or inner k none) (within, get_or_default inner k (get_or inner k none) none within)
          ∙ sym (get_or-map f inner k none e within)))
