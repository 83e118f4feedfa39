-- Loops of which no member writes a local variable.
use Rattle.std.proofs.Common.{◌≡◌, ℕ, ◌*◌, ◌<◌, ℤ, List, [], length, get_or, All, Contains, None, sym, ap, ◌∙◌, subst}
use Rattle.std.proofs.lemmas.List.Elements.{All-contains}
use Rattle.lists.specs.Members.{at_head}
use Rattle.loop_nest.specs.Digraph.{Digraph}
use Rattle.loop_nest.specs.Nest.{NaturalLoop, header_at, IsLoopOf, IsNest}
use Rattle.loop_nest.proofs.Elements.{from_map}
use Rattle.compact_walks.specs.Moving.{IsMoved}
use Rattle.compact_walks.proofs.Loops.{header_of, loop_moved}
use Rattle.loop_acts.specs.declared.effects.Act.{Act}
use Rattle.loop_acts.specs.Acts.{written}
use Rattle.loop_acts.specs.Writing.{IsIdle}
use Rattle.loop_finder.specs.Counting.{Body, IsOnlyStep}
use Rattle.loop_finder.specs.Methods.{IsBoundOfLoop}
use Rattle.loop_finder.proofs.Nests.{no_bound}

module _ (b : Body) (d : Digraph) (node : ℕ → ℕ) (moved : IsMoved b.graph d node) (ls : List NaturalLoop) (nest : IsNest d ls) (l : NaturalLoop) (i : ℕ) (lt : i < length ls) (is : l ≡ get_or ls i l)
    (idle : All (λ u. IsIdle b.acts (node u)) l.members) where
  of : IsLoopOf d l
  of = subst (IsLoopOf d) (sym is) (nest.loops i l lt)

  pub head : node l.header ≡ node (header_at ls i)
  head = ap node (ap (λ (x : NaturalLoop). x.header) is ∙ sym (header_of ls i l lt))

  pub no_step : (local step : ℕ) (s : ℤ) → IsOnlyStep b (node l.header) local step s → ⊥
  no_step local step s one =
      let m = loop_moved b.graph d node moved l of in
      let r = from_map node l.members (2 * step) ((m.members (2 * step)).1 one.member) in
      All-contains (λ u. IsIdle b.acts (node u)) l.members r.0 idle r.1 local step (r.2, subst (λ (a : Act). Contains (written a) local) (sym one.is) (at_head local []))

  pub idle_loop : IsBoundOfLoop b node ls i None
  idle_loop = no_bound b node ls i (node l.header) head (λ n c. no_step c.1.1.test.local c.1.0.step c.1.0.by c.1.1.step)
