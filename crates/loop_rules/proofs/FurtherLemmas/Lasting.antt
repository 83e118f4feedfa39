-- What the search finds may have written the local variable last, and nothing else may have.
use Rattle.std.proofs.Common.{◌≡◌, ◌⊎◌, ℕ, ◌*◌, ◌/◌, ◌%◌, false, List, [], ◌∷◌, map, Contains, Option, Some, None, refl, sym, ap, ◌∙◌, subst, inl, inr, arith}
use Rattle.std.specs.Prelude.{◌↔◌, IsTrue}
use Rattle.std.proofs.lemmas.Bool.{both_ways, cases_eq}
use Rattle.lists.proofs.Lemmas.{none≢some, some_same}
use Rattle.lists.specs.Members.{at_head, cons_cases, map_contains, nil_contains}
use Rattle.loop_nest.specs.Digraph.{Digraph}
use Rattle.loop_nest.proofs.Elements.{from_map}
use Rattle.bytecode_model.specs.Program.{Program}
use Rattle.method_flow.specs.Nodes.{Node, At, RaiseAt, number_of, IsEdge, IsReached}
use Rattle.method_flow.specs.Graphs.{IsGraphOf}
use Rattle.code_lines.specs.Lines.{Writes}
use Rattle.loop_rules.specs.Further.Writing.{NodeWrites, MayBeLast}
use Rattle.loop_rules.specs.Further.Writing.MayBeLast.{here as writes_here, unwritten, before}
use Rattle.loop_rules.specs.Further.Laws.{LastWritesAreReached}
use Rattle.loop_rules.specs.Further.Search.{Comes, IsBegun, StopsThere}
use Rattle.loop_rules.specs.Further.Search.Comes.{here, along}
use Rattle.loop_rules.specs.declared.further.writes.LastWrites.{LastWrites}
use Rattle.loop_rules.specs.Further.Last.{AreLastWrites, AreNearest, StopsAtWrites, StopsAtWritesAlone}

same_node : (u v : Node) → number_of u ≡ number_of v → u ≡ v
same_node (At p) (At q) e = let same : p ≡ q = omega arith in ap At same
same_node (At p) (RaiseAt q) e = absurd (omega arith)
same_node (RaiseAt p) (At q) e = absurd (omega arith)
same_node (RaiseAt p) (RaiseAt q) e = let same : p ≡ q = omega arith in ap RaiseAt same

same_at : (p q : ℕ) → At p ≡ At q → p ≡ q
same_at p q e = cc

half : (p x : ℕ) → x ≡ 2 * p → x / 2 ≡ p
half p x e = omega arith

-- a node that writes is an instruction
writer_at : (P : Program) (m k : ℕ) (u : Node) → NodeWrites P m u k → (p : ℕ) × (u ≡ At p) × Writes P m p k
writer_at P m k (At p) w = (p, refl, w)
writer_at P m k (RaiseAt p) w = absurd w

at_write : {P : Program} {m k : ℕ} {v : Node} {o : Option ℕ} → MayBeLast P m k v o → (p : ℕ) → v ≡ At p → Writes P m p k → o ≡ Some p
at_write (writes_here {p = q} come w) p at writes = ap Some (same_at q p at)
at_write {P} {m} {k} (unwritten none) p at writes = absurd (none (subst (λ (x : Node). NodeWrites P m x k) (sym at) writes))
at_write {P} {m} {k} (before l edge none) p at writes = absurd (none (subst (λ (x : Node). NodeWrites P m x k) (sym at) writes))

module _ (reach : LastWritesAreReached) (P : Program) (m : ℕ) (g : Digraph) (of : IsGraphOf P m g) (k : ℕ) (Stop : ℕ → Type 0) (stops : StopsAtWrites P m k Stop) (end : Node) where
  -- where the search goes on, nothing is written
  quiet : (u : Node) → (¬ Stop (number_of u)) → ¬ NodeWrites P m u k
  quiet u go w = let one = writer_at P m k u w in go (subst (λ (v : Node). Stop (number_of v)) (sym one.1) (stops.writes one.0 one.2))

  -- what may be last at a node to which the search comes may be last where it begins
  comes_last : {x : ℕ} → Comes g Stop (number_of end) x → (u : Node) (o : Option ℕ) → number_of u ≡ x → MayBeLast P m k u o → MayBeLast P m k end o
  comes_last here u o e l = subst (λ (v : Node). MayBeLast P m k v o) (same_node u end e) l
  comes_last (along {u = x} {v = y} come go edge) u o e l =
      let r = (of.edges x y).0 edge in
      let source : r.source ≡ u = same_node r.source u (sym r.numbered.0 ∙ sym e) in
      let none = quiet r.target (subst (λ (z : ℕ). ¬ Stop z) r.numbered.1 go) in
      comes_last come r.target o (sym r.numbered.1) (before l (subst (λ (v : Node). IsEdge P m v r.target) source r.edge) none)

  -- control comes to a node to which the search comes, but for that where it begins
  comes_reached : {x : ℕ} → Comes g Stop (number_of end) x → (u : Node) → number_of u ≡ x → (u ≡ end) ⊎ IsReached (IsEdge P m) u
  comes_reached here u e = inl (same_node u end e)
  comes_reached (along {u = x} {v = y} come go edge) u e =
      let r = (of.edges x y).0 edge in
      inr (subst (IsReached (IsEdge P m)) (same_node r.source u (sym r.numbered.0 ∙ sym e)) r.reached)

  pub begun_last : IsBegun g Stop (number_of end) → MayBeLast P m k end None
  begun_last (come, go) = comes_last come (At 0) None refl (unwritten (quiet (At 0) go))

  module _ (decided : (x : ℕ) → Comes g Stop (number_of end) x → Stop x ⊎ ¬ Stop x) where
    -- by way of which stop
    abbrev Found : Option ℕ → Type 0
    Found o = ((p : ℕ) × StopsThere g Stop (number_of end) (2 * p) × MayBeLast P m k (At p) o) ⊎ (IsBegun g Stop (number_of end) × (o ≡ None))

    complete : {v : Node} {o : Option ℕ} → MayBeLast P m k v o → Comes g Stop (number_of end) (number_of v) → (¬ Stop (number_of v)) → Found o
    complete (writes_here {p} come w) found go = absurd (quiet (At p) go w)
    complete (unwritten none) found go = inr ((found, go), refl)
    complete (before {u} {v} {w} l edge none) found go = by (decided (number_of u) onward) (complete l onward)
      where
        onward : Comes g Stop (number_of end) (number_of u)
        onward = along found go ((of.edges (number_of u) (number_of v)).1 (record { source = u; target = v; reached = reach P m k u w l; edge = edge; numbered = (refl, refl) }))

        by : Stop (number_of u) ⊎ (¬ Stop (number_of u)) → ((¬ Stop (number_of u)) → Found w) → Found w
        by (inl stop) later =
            let p = stops.instruction (number_of u) stop in
            let at : u ≡ At p.0 = same_node u (At p.0) p.1 in
            inl (p.0, subst (StopsThere g Stop (number_of end)) p.1 (onward, stop), subst (λ (x : Node). MayBeLast P m k x w) at l)
        by (inr on) later = later on

    pub all_found : (¬ Stop (number_of end)) → (o : Option ℕ) → MayBeLast P m k end o → Found o
    all_found go o l = complete l here go

-- so just these are the nearest
pub are_nearest : LastWritesAreReached → (P : Program) (m : ℕ) (g : Digraph) → IsGraphOf P m g → (k : ℕ) (Stop : ℕ → Type 0) → StopsAtWrites P m k Stop → (u : Node) (nodes : List ℕ)
    → ((x : ℕ) → Contains nodes x ↔ StopsThere g Stop (number_of u) x) → ((x : ℕ) → Comes g Stop (number_of u) x → Stop x ⊎ ¬ Stop x) → (¬ Stop (number_of u)) → (found : LastWrites) → found.places.items ≡ map (λ x. x / 2) nodes
    → IsTrue found.unwritten ↔ IsBegun g Stop (number_of u) → AreNearest P m k u Stop found
are_nearest reach P m g of k Stop stops u nodes stopped decided go found is begun = record {
  stops = λ p has. let n = node p has in (n.1, reached p n);
  led = λ p w has l. comes_last reach P m g of k Stop stops u (node p has).0 (At p) w refl l;
  all = λ w l. elim (all_found reach P m g of k Stop stops u decided go w l) [
    | inl f ↦ inl (f.0, listed f.0 f.1, f.2)
    | inr f ↦ inr (begun.1 f.0, f.1)
  ];
  begun = λ is. begun_last reach P m g of k Stop stops u (begun.0 is);
}
  where
    node : (p : ℕ) → Contains found.places.items p → StopsThere g Stop (number_of u) (2 * p)
    node p has =
        let a = from_map (λ x. x / 2) nodes p (subst (λ (xs : List ℕ). Contains xs p) is has) in
        let stop = (stopped a.0).0 a.1 in
        let q = stops.instruction a.0 stop.1 in
        let same : q.0 ≡ p = sym (half q.0 a.0 q.1) ∙ a.2 in
        subst (StopsThere g Stop (number_of u)) (q.1 ∙ ap (λ (x : ℕ). 2 * x) same) stop

    reached : (p : ℕ) → StopsThere g Stop (number_of u) (2 * p) → IsReached (IsEdge P m) (At p)
    reached p (come, stop) = elim (comes_reached reach P m g of k Stop stops u come (At p) refl) [
      | inl same ↦ absurd (go (subst (λ (v : Node). Stop (number_of v)) same stop))
      | inr onward ↦ onward
    ]

    listed : (p : ℕ) → StopsThere g Stop (number_of u) (2 * p) → Contains found.places.items p
    listed p there =
        subst (λ (xs : List ℕ). Contains xs p) (sym is)
        (subst (Contains (map (λ x. x / 2) nodes)) (half p (2 * p) refl) (map_contains (λ x. x / 2) nodes (2 * p) ((stopped (2 * p)).1 there)))

-- ---- where the search stops at writes alone

numbered : (x : ℕ) → (u : Node) × (x ≡ number_of u)
numbered x = elim (cases_eq (x % 2) 0) [ inl e ↦ (At (x / 2), omega (arith, e)) | inr other ↦ (RaiseAt (x / 2), omega (arith, other)) ]

pub stops_at_writes : (P : Program) (m k : ℕ) (Stop : ℕ → Type 0) → StopsAtWritesAlone P m k Stop → StopsAtWrites P m k Stop
stops_at_writes P m k Stop each = record {
  instruction = λ x stop.
      let u = numbered x in
      let one = writer_at P m k u.0 ((each u.0).0 (subst Stop u.1 stop)) in
      (one.0, u.1 ∙ ap number_of one.1);
  writes = λ p w. (each (At p)).1 w;
}

pub nearest_are_last : (P : Program) (m k : ℕ) (u : Node) (Stop : ℕ → Type 0) → StopsAtWritesAlone P m k Stop → (found : LastWrites) → AreNearest P m k u Stop found → AreLastWrites P m k u found
nearest_are_last P m k u Stop each found near = record {
  places = λ w. (
    (λ has. let s = near.stops w has in near.led w (Some w) has (writes_here s.1 ((each (At w)).0 s.0))),
    (λ l. elim (near.all (Some w) l) [
      | inl f ↦
          let is = at_write f.2 f.0 refl ((each (At f.0)).0 (near.stops f.0 f.1).0) in
          subst (Contains found.places.items) (sym (some_same w f.0 is)) f.1
      | inr f ↦ absurd (none≢some w (sym f.1))
    ]),
  );
  unwritten = (
    near.begun,
    (λ l. elim (near.all None l) [
      | inl f ↦ absurd (none≢some f.0 (at_write f.2 f.0 refl ((each (At f.0)).0 (near.stops f.0 f.1).0)))
      | inr f ↦ f.0
    ]),
  );
}

-- a node that writes the local variable is the last write
pub writer_is_last : (P : Program) (m k : ℕ) (u : Node) → NodeWrites P m u k → IsReached (IsEdge P m) u
    → (found : LastWrites) → found.places.items ≡ (number_of u / 2) ∷ [] → found.unwritten ≡ false → AreLastWrites P m k u found
writer_is_last P m k u writes_it come found is never = record {
  places = λ w. (
    (λ has. elim (cons_cases (number_of u / 2) w [] (subst (λ (xs : List ℕ). Contains xs w) is has)) [
      | inl same ↦ subst (λ (x : ℕ). MayBeLast P m k u (Some x)) (sym place ∙ same) here_itself
      | inr there ↦ absurd (nil_contains w there)
    ]),
    (λ l.
        let at : one.0 ≡ w = some_same one.0 w (sym (at_write l one.0 one.1 one.2)) in
        subst (λ (xs : List ℕ). Contains xs w) (sym is) (subst (λ (x : ℕ). Contains ((number_of u / 2) ∷ []) x) (place ∙ at) (at_head (number_of u / 2) []))),
  );
  unwritten = (
    (λ un. absurd (both_ways found.unwritten never un)),
    (λ l. absurd (none≢some one.0 (at_write l one.0 one.1 one.2))),
  );
}
  where
    one : (p : ℕ) × (u ≡ At p) × Writes P m p k
    one = writer_at P m k u writes_it

    place : number_of u / 2 ≡ one.0
    place = half one.0 (number_of u) (ap number_of one.1)

    here_itself : MayBeLast P m k u (Some one.0)
    here_itself = subst (λ (v : Node). MayBeLast P m k v (Some one.0)) (sym one.1) (writes_here (subst (IsReached (IsEdge P m)) one.1 come) one.2)
