-- The nodes of a compact graph's loops, and how these lie around one another under the other numbers.
use Rattle.std.proofs.Common.{◌≡◌, ℕ, ◌+◌, ◌<◌, ◌≤◌, List, ◌∷◌, [], ◌++◌, length, map, take, take_all, get_or, All, Contains, sym, ap, ◌∙◌, subst, arith}
use Rattle.std.proofs.lemmas.List.{get_or-map, length-map, map_more, map_push}
use Rattle.std.proofs.lemmas.List.Elements.{Contains-get_or}
use Rattle.lists.specs.Members.{map_contains}
use Rattle.loop_nest.specs.Digraph.{Digraph, IsDigraph}
use Rattle.loop_nest.specs.Nest.{NaturalLoop, headers_of, header_at, members_at, IsLoopOf, IsAround, IsNest}
use Rattle.loop_nest.proofs.Ends.{ends_within}
use Rattle.section_check.specs.Placing.{IsEntryAt}
use Rattle.compact_walks.specs.Moving.{moved_natural, moved_nest}
use Rattle.compact_walks.proofs.Loops.{no_loop, member_within, members_moved, header_moved, header_of, members_of}
use Rattle.compact_walks.proofs.Renumbering.{moved_back}

pub header_within : (d : Digraph) → IsDigraph d → (l : NaturalLoop) → IsLoopOf d l → l.header < d.nodes
header_within d wf l is = let e = is.header in (ends_within wf e.0 l.header e.1.edge).1

pub members_within : (d : Digraph) → IsDigraph d → (l : NaturalLoop) → IsLoopOf d l → (u : ℕ) → Contains l.members u → u < d.nodes
members_within d wf l is u has = member_within l.header u wf ((is.members u).0 has)

pub all_members_within : (d : Digraph) → IsDigraph d → (l : NaturalLoop) → IsLoopOf d l → All (λ u. u < d.nodes) l.members
all_members_within d wf l is k e lt = members_within d wf l is (get_or l.members k e) (Contains-get_or l.members k e lt)

-- ---- loops under the other numbers

module _ (d : Digraph) (wf : IsDigraph d) (node : ℕ → ℕ) (rising : (u v : ℕ) → v < d.nodes → u < v → node u < node v) (ls : List NaturalLoop) (nest : IsNest d ls) where
  header_below : (k : ℕ) → k < length ls → header_at ls k < d.nodes
  header_below k lt = subst (λ (z : ℕ). z < d.nodes) (sym (header_of ls k no_loop lt)) (header_within d wf (get_or ls k no_loop) (nest.loops k no_loop lt))

  member_below : (k : ℕ) → k < length ls → (u : ℕ) → Contains (members_at ls k) u → u < d.nodes
  member_below k lt u has =
      members_within d wf (get_or ls k no_loop) (nest.loops k no_loop lt) u (subst (λ (us : List ℕ). Contains us u) (members_of ls k no_loop lt) has)

  pub around_out : (i k : ℕ) → i < length ls → IsAround ls i k → IsAround (moved_nest node ls) i k
  around_out i k lt a = record {
    below = (let below = a.below in omega (arith, length-map ls (moved_natural node)));
    other = a.other;
    member =
        subst (λ (us : List ℕ). Contains us (header_at (moved_nest node ls) i)) (sym (members_moved node ls k))
        (subst (λ (z : ℕ). Contains (map node (members_at ls k)) z) (sym (header_moved node ls i lt)) (map_contains node (members_at ls k) (header_at ls i) a.member));
  }

  pub around_in : (i k : ℕ) → i < length ls → IsAround (moved_nest node ls) i k → IsAround ls i k
  around_in i k lt a =
      let below' = a.below in
      let below : k < length ls = omega (arith, length-map ls (moved_natural node)) in
      let has =
      subst (λ (us : List ℕ). Contains us (node (header_at ls i))) (members_moved node ls k) (subst (λ (z : ℕ). Contains (members_at (moved_nest node ls) k) z) (header_moved node ls i lt) a.member) in
      let inside = moved_back d.nodes node rising (members_at ls k) (member_below k below) (header_at ls i) (header_below i lt) has in
      record { below = below; other = a.other; member = inside }

-- an item of a list of loops is a loop
pub loop_item : (d : Digraph) (ls xs : List NaturalLoop) (i : ℕ) (item : NaturalLoop) → All (IsLoopOf d) ls → xs ≡ ls → i < length xs → item ≡ get_or xs i item → IsLoopOf d item
loop_item d ls xs i item are same lt is =
    let lt' : i < length ls = subst (λ (ys : List NaturalLoop). i < length ys) same lt in
    let is' : item ≡ get_or ls i item = subst (λ (ys : List NaturalLoop). item ≡ get_or ys i item) same is in
    subst (λ (l : NaturalLoop). IsLoopOf d l) (sym is') (are i item lt')

-- and an item of the other list has its members under the other numbers
pub moved_members : (node : ℕ → ℕ) (ls xs : List NaturalLoop) (i : ℕ) (item k : NaturalLoop) → xs ≡ ls → i < length xs → item ≡ get_or xs i item → IsEntryAt (moved_nest node ls) i k → map node item.members ≡ k.members
moved_members node ls xs i item k same lt is at =
    let lt' : i < length ls = subst (λ (ys : List NaturalLoop). i < length ys) same lt in
    let is' : item ≡ get_or ls i item = subst (λ (ys : List NaturalLoop). item ≡ get_or ys i item) same is in
    ap (λ (l : NaturalLoop). map node l.members) is' ∙ ap (λ (l : NaturalLoop). l.members) (sym (get_or-map (moved_natural node) ls i item k lt') ∙ at.1)

-- the headers of the first loops under the other numbers, with that of one loop more
pub headers_more : (node : ℕ → ℕ) (ls xs : List NaturalLoop) (i : ℕ) (item : NaturalLoop) (old new : List ℕ) → xs ≡ ls → i < length xs → item ≡ get_or xs i item → old ≡ headers_of (moved_nest node (take i ls)) → new ≡ old ++ node item.header ∷ []
    → new ≡ headers_of (moved_nest node (take (i + 1) ls))
headers_more node ls xs i item old new same lt is before more =
    let lt' : i < length ls = subst (λ (ys : List NaturalLoop). i < length ys) same lt in
    let is' : item ≡ get_or ls i item = subst (λ (ys : List NaturalLoop). item ≡ get_or ys i item) same is in
    more
    ∙ ap (λ (hs : List ℕ). hs ++ node item.header ∷ []) before
    ∙ ap (λ (l : NaturalLoop). headers_of (moved_nest node (take i ls)) ++ node l.header ∷ []) is'
    ∙ sym (ap headers_of (map_more (moved_natural node) ls i item lt') ∙ map_push (λ (l : NaturalLoop). l.header) (moved_nest node (take i ls)) (moved_natural node (get_or ls i item)))

pub headers_all : (node : ℕ → ℕ) (ls xs : List NaturalLoop) (i : ℕ) (hs : List ℕ) → xs ≡ ls → length xs ≤ i → hs ≡ headers_of (moved_nest node (take i ls)) → hs ≡ headers_of (moved_nest node ls)
headers_all node ls xs i hs same past are =
    let past' : length ls ≤ i = subst (λ (ys : List NaturalLoop). length ys ≤ i) same past in
    are ∙ ap (λ (ks : List NaturalLoop). headers_of (moved_nest node ks)) (take_all i ls past')
