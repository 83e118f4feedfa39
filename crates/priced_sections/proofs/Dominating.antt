-- In every part of the graph the header of a well placed loop dominates its members, and edges within the loop to its header are back edges.
use Rattle.std.proofs.Common.{ℕ, ◌⊎◌, List, [], ◌∷◌, Contains, sym, subst, inl, inr}
use Rattle.lists.specs.Members.{at_head, in_tail, has_or_not}
use Rattle.loop_nest.specs.Digraph.{Digraph, Edge}
use Rattle.loop_nest.specs.Walks.{Walk, Dominates, IsBackEdge}
use Rattle.loop_nest.specs.Walks.Walk.{stay, along}
use Rattle.loop_nest.proofs.SimpleWalks.{begins}
use Rattle.section_check.specs.Section.{PricedLoop}
use Rattle.priced_sections.proofs.Sound.{AreSound}

abbrev pub LeadsTo : Digraph → ℕ → List ℕ → Type 0
LeadsTo g u [] = Unit {0}
LeadsTo g u (v ∷ ns) = Edge g u v

-- an edge goes from each node to the next
abbrev pub AreJoined : Digraph → List ℕ → Type 0
AreJoined g [] = Unit {0}
AreJoined g (u ∷ ns) = LeadsTo g u ns × AreJoined g ns

pub walk_joined : {g : Digraph} {u v : ℕ} {ns : List ℕ} → Walk g u v ns → AreJoined g ns
walk_joined (stay {u}) = (tt, tt)
walk_joined {g} (along {u} {v} {w} {ns} e t) =
    let b = begins t in
    let P : List ℕ → Type 0 = λ zs. LeadsTo g u zs in
    (subst P (sym b.1) e, walk_joined t)

module _ (g part : Digraph) (ls : List PricedLoop) (sound : AreSound g ls) (within : (u v : ℕ) → Edge part u v → Edge g u v) (l : PricedLoop) (has : Contains ls l) where
  abbrev h : ℕ
  h = l.certified.header

  abbrev Holds : ℕ → Type 0
  Holds u = Contains l.certified.members u

  visits : {a x : ℕ} {ns : List ℕ} → Walk part a x ns → Holds x → Contains ns h ⊎ Holds a
  visits (stay {u}) inside = inr inside
  visits (along {u} {v} {w} {ns} e t) inside =
      elim (visits t inside) [
        | inl visited ↦ inl (in_tail u h ns visited)
        | inr inside_v ↦
            elim (has_or_not l.certified.members u) [
              | inl inside_u ↦ inr inside_u
              | inr outside ↦
                  let same = sound.entered l u v has (within u v e) inside_v outside in
                  let b = begins t in
                  let P : List ℕ → Type 0 = λ zs. Contains zs v in
                  let Q : ℕ → Type 0 = λ y. Contains ns y in
                  inl (in_tail u h ns (subst Q same (subst P (sym b.1) (at_head v b.0))))
            ]
      ]

  pub header_dominates : (x : ℕ) → Holds x → Dominates part h x
  header_dominates x inside ns w =
      elim (visits w inside) [
        | inl visited ↦ visited
        | inr inside_entry ↦
            let b = begins w in
            let P : List ℕ → Type 0 = λ zs. Contains zs 0 in
            let Q : ℕ → Type 0 = λ y. Contains ns y in
            subst Q (sym (sound.entry l has inside_entry)) (subst P (sym b.1) (at_head 0 b.0))
      ]

  pub back_edge : (u : ℕ) → Holds u → Edge part u h → IsBackEdge part u h
  back_edge u inside e = record { edge = e; dominates = header_dominates u inside }
