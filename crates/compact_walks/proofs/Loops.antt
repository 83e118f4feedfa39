-- The loops of a compact graph, under the other numbers of nodes, are those of the other graph.
use Rattle.std.proofs.Common.{◌≡◌, ℕ, zero, suc, ◌<◌, List, [], ◌∷◌, length, map, get_or, Contains, Option, Some, None, refl, sym, ap, ◌∙◌, subst, inl, inr, arith}
use Rattle.std.specs.Prelude.{MatchOption}
use Rattle.std.specs.List.Sorted.{IsStrictlyIncreasing}
use Rattle.std.proofs.lemmas.List.{length-map}
use Rattle.std.proofs.lemmas.List.Elements.{All-map}
use Rattle.lists.specs.Members.{map_contains}
use Rattle.loop_nest.specs.Digraph.{Digraph, IsDigraph}
use Rattle.loop_nest.specs.Walks.{IsMember}
use Rattle.loop_nest.specs.Nest.{NaturalLoop, headers_of, header_at, members_at, outers_of, outer_at, IsLoopOf, IsAround, IsOutermost, IsNextOuter, IsNest}
use Rattle.loop_nest.proofs.Elements.{from_map}
use Rattle.loop_nest.proofs.Ends.{ends_within, visited_within}
use Rattle.compact_walks.specs.Moving.{IsMoved, moved_natural, moved_nest}
use Rattle.compact_walks.specs.Laws.{MovedIsNest}
use Rattle.compact_walks.proofs.Renumbering.{AreBelow, rising_moved, moved_back}
use Rattle.compact_walks.proofs.Walks.{start_visited, header_out, header_back, member_out, member_back}

pub headers_moved : (node : ℕ → ℕ) (ls : List NaturalLoop) → headers_of (moved_nest node ls) ≡ map node (headers_of ls)
headers_moved node [] = refl
headers_moved node (l ∷ ls) = ap (λ (hs : List ℕ). node l.header ∷ hs) (headers_moved node ls)

outers_moved : (node : ℕ → ℕ) (ls : List NaturalLoop) → outers_of (moved_nest node ls) ≡ outers_of ls
outers_moved node [] = refl
outers_moved node (l ∷ ls) = ap (λ (os : List (Option ℕ)). l.outer ∷ os) (outers_moved node ls)

pub members_moved : (node : ℕ → ℕ) (ls : List NaturalLoop) (k : ℕ) → members_at (moved_nest node ls) k ≡ map node (members_at ls k)
members_moved node [] k = refl
members_moved node (l ∷ ls) zero = refl
members_moved node (l ∷ ls) (suc k) = members_moved node ls k

pub header_moved : (node : ℕ → ℕ) (ls : List NaturalLoop) (k : ℕ) → k < length ls → header_at (moved_nest node ls) k ≡ node (header_at ls k)
header_moved node [] k lt = absurd (omega arith)
header_moved node (l ∷ ls) zero lt = refl
header_moved node (l ∷ ls) (suc k) lt = header_moved node ls k (omega arith)

-- ---- where loops of a nest are

pub header_of : (ls : List NaturalLoop) (k : ℕ) (e : NaturalLoop) → k < length ls → header_at ls k ≡ (get_or ls k e).header
header_of [] k e lt = absurd (omega arith)
header_of (l ∷ ls) zero e lt = refl
header_of (l ∷ ls) (suc k) e lt = header_of ls k e (omega arith)

pub members_of : (ls : List NaturalLoop) (k : ℕ) (e : NaturalLoop) → k < length ls → members_at ls k ≡ (get_or ls k e).members
members_of [] k e lt = absurd (omega arith)
members_of (l ∷ ls) zero e lt = refl
members_of (l ∷ ls) (suc k) e lt = members_of ls k e (omega arith)

outcome : (o : Option ℕ) (A B : Type 0) (P Q : ℕ → Type 0) → (A → B) → ((x : ℕ) → P x → Q x) → MatchOption o A P → MatchOption o B Q
outcome None A B P Q f g h = f h
outcome (Some x) A B P Q f g h = g x h

-- the members of a loop are nodes
pub member_within : {g : Digraph} (h x : ℕ) → IsDigraph g → IsMember g h x → x < g.nodes
member_within {g} h x wf m =
    elim m.1 [
      | inl same ↦ let b = m.0.1 in subst (λ (z : ℕ). z < g.nodes) (sym same) (ends_within wf m.0.0 h b.edge).1
      | inr r ↦ visited_within wf r.leads.1 (ends_within wf r.source h r.back_edge.edge).0 x (start_visited r.leads.1)
    ]

pub no_loop : NaturalLoop
no_loop = record { header = 0; members = []; outer = None }

module _ (g d : Digraph) (node : ℕ → ℕ) (h : IsMoved g d node) where
  pub loop_header_below : (l : NaturalLoop) → IsLoopOf d l → l.header < d.nodes
  loop_header_below l is = let e = is.header in (ends_within h.compact.digraph e.0 l.header e.1.edge).1

  pub loop_members_below : (l : NaturalLoop) → IsLoopOf d l → AreBelow d.nodes l.members
  loop_members_below l is u has = member_within l.header u h.compact.digraph ((is.members u).0 has)

  pub loop_moved : (l : NaturalLoop) → IsLoopOf d l → IsLoopOf g (moved_natural node l)
  loop_moved l is = record {
    header = header_out g d node h l.header is.header;
    rising = rising_moved d.nodes node h.compact.rising l.members (loop_members_below l is) is.rising;
    members = λ x. (out x, back x);
  }
    where
      out : (x : ℕ) → Contains (map node l.members) x → IsMember g (node l.header) x
      out x has =
          let r = from_map node l.members x has in
          subst (λ (z : ℕ). IsMember g (node l.header) z) r.2 (member_out g d node h l.header r.0 ((is.members r.0).0 r.1))

      back : (x : ℕ) → IsMember g (node l.header) x → Contains (map node l.members) x
      back x m =
          let r = member_back g d node h l.header (loop_header_below l is) x m in
          subst (λ (z : ℕ). Contains (map node l.members) z) r.2 (map_contains node l.members r.0 ((is.members r.0).1 r.3))

  module _ (ls : List NaturalLoop) (nest : IsNest d ls) where
    loop_at : (k : ℕ) → k < length ls → IsLoopOf d (get_or ls k no_loop)
    loop_at k lt = nest.loops k no_loop lt

    pub header_below : (k : ℕ) → k < length ls → header_at ls k < d.nodes
    header_below k lt = subst (λ (z : ℕ). z < d.nodes) (sym (header_of ls k no_loop lt)) (loop_header_below (get_or ls k no_loop) (loop_at k lt))

    pub members_below : (k : ℕ) → k < length ls → AreBelow d.nodes (members_at ls k)
    members_below k lt = subst (λ (us : List ℕ). AreBelow d.nodes us) (sym (members_of ls k no_loop lt)) (loop_members_below (get_or ls k no_loop) (loop_at k lt))

    pub headers_below : AreBelow d.nodes (headers_of ls)
    headers_below u has =
        let r = from_map (λ (l : NaturalLoop). l.header) ls u has in
        let below = loop_header_below (get_or ls r.1.0 r.0) (nest.loops r.1.0 r.0 r.1.1) in
        let same = ap (λ (l : NaturalLoop). l.header) r.1.2 ∙ r.2 in
        subst (λ (z : ℕ). z < d.nodes) same below

    inside_out : (i k : ℕ) → i < length ls → Contains (members_at ls k) (header_at ls i) → Contains (members_at (moved_nest node ls) k) (header_at (moved_nest node ls) i)
    inside_out i k lt has =
        subst (λ (us : List ℕ). Contains us (header_at (moved_nest node ls) i)) (sym (members_moved node ls k))
        (subst (λ (z : ℕ). Contains (map node (members_at ls k)) z) (sym (header_moved node ls i lt)) (map_contains node (members_at ls k) (header_at ls i) has))

    inside_in : (i k : ℕ) → i < length ls → k < length ls → Contains (members_at (moved_nest node ls) k) (header_at (moved_nest node ls) i) → Contains (members_at ls k) (header_at ls i)
    inside_in i k lt below has =
        moved_back d.nodes node h.compact.rising (members_at ls k) (members_below k below) (header_at ls i) (header_below i lt)
        (subst (λ (us : List ℕ). Contains us (node (header_at ls i))) (members_moved node ls k) (subst (λ (z : ℕ). Contains (members_at (moved_nest node ls) k) z) (header_moved node ls i lt) has))

    pub around_out : (i k : ℕ) → i < length ls → IsAround ls i k → IsAround (moved_nest node ls) i k
    around_out i k lt a = record { below = (let below = a.below in omega (arith, length-map ls (moved_natural node))); other = a.other; member = inside_out i k lt a.member }

    pub around_in : (i k : ℕ) → i < length ls → IsAround (moved_nest node ls) i k → IsAround ls i k
    around_in i k lt a =
        let below' = a.below in
        let below : k < length ls = omega (arith, length-map ls (moved_natural node)) in
        record { below = below; other = a.other; member = inside_in i k lt below a.member }

    next_out : (i j : ℕ) → i < length ls → IsNextOuter ls i j → IsNextOuter (moved_nest node ls) i j
    next_out i j lt n = record {
      around = around_out i j lt n.around;
      next = λ k a. let inner = around_in i k lt a in inside_out j k n.around.below (n.next k inner);
    }

    pub nest_moved : IsNest g (moved_nest node ls)
    nest_moved = record {
      rising = subst (λ (us : List ℕ). IsStrictlyIncreasing us) (sym (headers_moved node ls)) (rising_moved d.nodes node h.compact.rising (headers_of ls) headers_below nest.rising);
      loops = All-map (λ (l : NaturalLoop). IsLoopOf g l) (moved_natural node) ls (λ k e lt. loop_moved (get_or ls k e) (nest.loops k e lt));
      complete = λ x head.
          let r = header_back g d node h x head in
          subst (λ (us : List ℕ). Contains us x) (sym (headers_moved node ls)) (subst (λ (z : ℕ). Contains (map node (headers_of ls)) z) r.3 (map_contains node (headers_of ls) r.0 (nest.complete r.0 r.2)));
      outer = λ i below.
          let lt : i < length ls = omega (arith, length-map ls (moved_natural node)) in
          let same : outer_at (moved_nest node ls) i ≡ outer_at ls i = ap (λ (os : List (Option ℕ)). get_or os i None) (outers_moved node ls) in
          subst (λ (o : Option ℕ). MatchOption o (IsOutermost (moved_nest node ls) i) (IsNextOuter (moved_nest node ls) i)) (sym same)
          (outcome (outer_at ls i) (IsOutermost ls i) (IsOutermost (moved_nest node ls) i) (IsNextOuter ls i) (IsNextOuter (moved_nest node ls) i) (λ none k a. none k (around_in i k lt a)) (λ j n. next_out i j lt n) (nest.outer i lt));
    }

pub moved_is_nest : MovedIsNest
moved_is_nest g d node h nest is = nest_moved g d node h nest is
