-- Bounded loops lie as the loops of their nest do.
use Rattle.std.proofs.Common.{◌≡◌, ℕ, Bool, List, length, Contains, sym, ap, ◌∙◌, subst}
use Rattle.loop_nest.specs.Digraph.{Digraph}
use Rattle.loop_nest.specs.Nest.{NaturalLoop}
use Rattle.path_solver.specs.declared.topology.TopologicalOrder.{TopologicalOrder}
use Rattle.section_check.specs.Placing.{IsEntryAt}
use Rattle.section_check.specs.Bounded.{BoundedLoop}
use Rattle.path_solver.specs.Longest.{bounded_loops}
use Rattle.path_solver.proofs.Loops.{same_place}
use Rattle.path_solver.specs.Problem.{IsProblem}
use Rattle.path_solver.proofs.Structure.{own_header, mutual_same, header_decides}
use Rattle.path_solver.proofs.Correspond.{bounded_at, from_bounded}
use Rattle.path_solver.proofs.Prolonging.{AreNested}

pub contained : {X : Type 0} (xs : List X) (i : ℕ) (x : X) → IsEntryAt xs i x → Contains xs x
contained xs i x at = (i, at.0, at.1)

module _ (g : Digraph) (loops : List NaturalLoop) (flags : List Bool) (p : TopologicalOrder) (h : IsProblem g loops flags p) (bounds loads : List ℕ) (b : length bounds ≡ length loops) (m : length loads ≡ length loops) where
  abbrev all : List BoundedLoop
  all = bounded_loops loops bounds loads

  -- a bounded loop is one of the nest, with its place
  pub record IsLoopAt (k : BoundedLoop) : Type 0 where
    pub place : ℕ
    pub loop : NaturalLoop
    pub at : IsEntryAt loops place loop
    pub among : Contains loops loop
    pub header : k.header ≡ loop.header
    pub members : k.members ≡ loop.members
    pub is : k ≡ bounded_at loops bounds loads b m loop place

  pub loop_of : (k : BoundedLoop) → Contains all k → IsLoopAt k
  loop_of k has =
      let r = from_bounded loops bounds loads b m k has in
      record {
        place = r.0;
        loop = r.1;
        at = r.2;
        among = contained loops r.0 r.1 r.2;
        header = ap (λ (x : BoundedLoop). x.header) r.3;
        members = ap (λ (x : BoundedLoop). x.members) r.3;
        is = r.3;
      }

  own_all : (k : BoundedLoop) → Contains all k → Contains k.members k.header
  own_all k has =
      let r = loop_of k has in
      let P : BoundedLoop → Type 0 = λ z. Contains z.members z.header in
      subst P (sym r.is) (own_header g loops flags p h r.loop r.among)

  member_of : (k : BoundedLoop) (r : IsLoopAt k) (x : ℕ) → Contains k.members x → Contains r.loop.members x
  member_of k r x c = let P : List ℕ → Type 0 = λ zs. Contains zs x in subst P r.members c

  pub holds_header : (l k : BoundedLoop) (a : IsLoopAt l) (r : IsLoopAt k) → Contains l.members k.header → Contains a.loop.members r.loop.header
  holds_header l k a r c = let P : ℕ → Type 0 = λ z. Contains a.loop.members z in subst P r.header (member_of l a k.header c)

  mutual_all : (l k : BoundedLoop) → Contains all l → Contains all k → Contains l.members k.header → Contains k.members l.header → k.header ≡ l.header
  mutual_all l k has has' x y =
      let a = loop_of l has in
      let r = loop_of k has' in
      r.header ∙ mutual_same g loops flags p h a.loop r.loop a.among r.among (holds_header l k a r x) (holds_header k l r a y) ∙ sym a.header

  decides_all : (l k : BoundedLoop) → Contains all l → Contains all k → k.header ≡ l.header → k ≡ l
  decides_all l k has has' same =
      let a = loop_of l has in
      let r = loop_of k has' in
      let heads : r.loop.header ≡ a.loop.header = sym r.header ∙ same ∙ a.header in
      let loop : r.loop ≡ a.loop = header_decides g loops flags p h a.loop r.loop a.among r.among heads in
      let place : r.place ≡ a.place = same_place loops h.nest.rising r.place a.place r.loop a.loop r.at a.at heads in
      r.is ∙ ap (λ (z : NaturalLoop). bounded_at loops bounds loads b m z r.place) loop ∙ ap (λ (i : ℕ). bounded_at loops bounds loads b m a.loop i) place ∙ sym a.is

  pub all_nested : AreNested all
  all_nested = record { own = own_all; mutual_same = mutual_all; decides = decides_all }
