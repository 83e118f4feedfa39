-- What is found of a loop of a nest is so under the other numbers of the nodes.
use Rattle.std.proofs.Common.{◌≡◌, ◌↔◌, ℕ, ◌<◌, true, List, length, map, get_or, All, Contains, sym, ap, ◌∙◌, subst}
use Rattle.std.proofs.lemmas.List.Elements.{All-map, All-get_or}
use Rattle.loop_nest.specs.Digraph.{Digraph}
use Rattle.loop_nest.specs.Walks.{IsHeader, IsMember}
use Rattle.loop_nest.specs.Nest.{NaturalLoop, header_at, IsLoopOf, IsNest}
use Rattle.compact_walks.specs.Moving.{IsMoved}
use Rattle.compact_walks.proofs.Loops.{header_of, loop_moved}
use Rattle.loop_marks.specs.Reach.{flag_at}
use Rattle.loop_marks.specs.Marking.{Marks, AreSized, AreMarksOfLoop, AreMembersFlagged, AreInnerFlagged}

module _ (nodes : List ℕ) (ls : List NaturalLoop) (l : NaturalLoop) (i : ℕ) (lt : i < length ls) (is : l ≡ get_or ls i l) where
  pub head_low : All (λ x. x.header < length nodes) ls → l.header < length nodes
  head_low all = subst (λ (x : NaturalLoop). x.header < length nodes) (sym is) (All-get_or (λ (x : NaturalLoop). x.header < length nodes) ls i l lt all)

  pub members_low : All (λ x. All (λ u. u < length nodes) x.members) ls → All (λ u. u < length nodes) l.members
  members_low all =
      subst (λ (x : NaturalLoop). All (λ u. u < length nodes) x.members) (sym is)
      (All-get_or (λ (x : NaturalLoop). All (λ u. u < length nodes) x.members) ls i l lt all)

  pub marks_sized : All (λ x. x.header < length nodes) ls → All (λ x. All (λ u. u < length nodes) x.members) ls → (k : Marks) → k.header ≡ get_or nodes l.header 0
      → k.nodes ≡ map (λ u. get_or nodes u 0) l.members → (g : Digraph) → All (λ x. x < g.nodes) nodes → AreSized g k
  marks_sized headers within k head nodes_are g low =
      let below : (u : ℕ) → u < length nodes → get_or nodes u 0 < g.nodes = λ u small. All-get_or (λ (x : ℕ). x < g.nodes) nodes u 0 small low in
      let all = All-map (λ (x : ℕ). x < g.nodes) (λ (u : ℕ). get_or nodes u 0) l.members (λ j d few. below (get_or l.members j d) (members_low within j d few)) in
      record {
        header = subst (λ (x : ℕ). x < g.nodes) (sym head) (below l.header (head_low headers));
        nodes = subst (λ (xs : List ℕ). All (λ x. x < g.nodes) xs) (sym nodes_are) all;
      }

  pub marks_are : (k : Marks) → k.header ≡ get_or nodes l.header 0 → k.nodes ≡ map (λ u. get_or nodes u 0) l.members → (g d : Digraph) → IsMoved g d (λ u. get_or nodes u 0) → IsNest d ls
      → ((x : ℕ) → (flag_at k.members x ≡ true) ↔ Contains k.nodes x)
      → (AreMembersFlagged g (get_or nodes (header_at ls i) 0) k.members → AreInnerFlagged g (get_or nodes (header_at ls i) 0) k.inner) → AreMarksOfLoop g (λ u. get_or nodes u 0) ls i k
  marks_are k head nodes_is g d moved nest flagged inner =
      let of : IsLoopOf d l = subst (IsLoopOf d) (sym is) (nest.loops i l lt) in
      let m = loop_moved g d (λ (u : ℕ). get_or nodes u 0) moved l of in
      let at : header_at ls i ≡ l.header = header_of ls i l lt ∙ sym (ap (λ (x : NaturalLoop). x.header) is) in
      let here : k.header ≡ get_or nodes (header_at ls i) 0 = head ∙ ap (λ (u : ℕ). get_or nodes u 0) (sym at) in
      let has : (x : ℕ) → Contains k.nodes x ↔ IsMember g k.header x =
      λ x. subst (λ (xs : List ℕ). Contains xs x ↔ IsMember g k.header x) (sym nodes_is) (subst (λ (h : ℕ). Contains (map (λ u. get_or nodes u 0) l.members) x ↔ IsMember g h x) (sym head) (m.members x)) in
      let members : AreMembersFlagged g k.header k.members = λ x. (λ f. (has x).0 ((flagged x).0 f), λ w. (flagged x).1 ((has x).1 w)) in
      record {
        header = here;
        marks = record {
          header = subst (λ (h : ℕ). IsHeader g h) (sym head) m.header;
          nodes = has;
          members = members;
          inner = subst (λ (h : ℕ). AreInnerFlagged g h k.inner) (sym here) (inner (subst (λ (h : ℕ). AreMembersFlagged g h k.members) here members));
        };
      }
