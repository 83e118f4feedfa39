-- Parts of a reducible graph are reducible: merges of the whole are merges of the part, or merge none of its nodes.
use Rattle.std.proofs.Common.{◌≡◌, ◌≢◌, ℕ, zero, suc, ◌+◌, ◌<◌, ◌⊎◌, cond, eqb, List, [], ◌∷◌, ◌++◌, map, filter, refl, sym, ap, ◌∙◌, subst, inl, inr, arith}
use Rattle.std.specs.List.{range_with_len}
use Rattle.std.proofs.lemmas.Bool.{cases_eq, ne_eqb}
use Rattle.loop_nest.specs.Digraph.{Digraph, Edge, IsDigraph}
use Rattle.loop_nest.specs.Walks.{Walk}
use Rattle.loop_nest.specs.Walks.Walk.{stay, along}
use Rattle.loop_nest.specs.Reduction.{renamed}
use Rattle.loop_nest.specs.Classes.{CanMergeClass, AreMerged}
use Rattle.loop_nest.specs.Classes.AreMerged.{apart, merged}
use Rattle.loop_nest.specs.Parts.{IsReachedPart}
use Rattle.loop_nest.specs.Laws.{PartsAreReducible}
use Rattle.loop_nest.proofs.Elements.{filter_alike, from_range}
use Rattle.loop_nest.proofs.Classes.{class_cases, entry_stays}
use Rattle.loop_nest.proofs.ClassLists.{filter_range_more}
use Rattle.loop_nest.proofs.Quotients.{classes_after, leaves_of}
use Rattle.loop_nest.proofs.Ends.{entry_on, unmerged, ends_within, all_merged}

-- a walk of the part is a walk of the whole
pub mapped_walk : {whole part : Digraph} (f : ℕ → ℕ) → ((u v : ℕ) → Edge part u v → Edge whole (f u) (f v)) → {u v : ℕ} {ns : List ℕ} → Walk part u v ns → Walk whole (f u) (f v) (map f ns)
mapped_walk f es stay = stay
mapped_walk f es (along {u} {v} {w} {ns} e t) = along (es u v e) (mapped_walk f es t)

end_within : {g : Digraph} → IsDigraph g → {u v : ℕ} {ns : List ℕ} → Walk g u v ns → u < g.nodes → v < g.nodes
end_within wf stay below = below
end_within wf (along {u} {v} {w} {ns} e t) below = end_within wf t (ends_within wf u v e).1

-- one of the nodes below n is in the class x, or none is
in_class : (c : ℕ → ℕ) (x n : ℕ) → ((u : ℕ) × (u < n) × (c u ≡ x)) ⊎ ((u : ℕ) → u < n → c u ≢ x)
in_class c x zero = inr (λ u lt same. absurd (omega arith))
in_class c x (suc n) =
    elim (cases_eq (c n) x) [
      | inl same ↦ inl (n, omega arith, same)
      | inr other ↦
          elim (in_class c x n) [
            | inl some ↦ let lt = some.1 in inl (some.0, omega arith, some.2)
            | inr none ↦
                inr (λ u lt.
                elim (cases_eq u n) [
                  | inl last ↦ let P : ℕ → Type 0 = λ z. c z ≢ x in subst P (sym last) other
                  | inr before ↦ none u (omega arith)
                ])
          ]
    ]

-- merges of the part that merge its nodes as the whole's do
record Follows (part : Digraph) (f c : ℕ → ℕ) : Type 0 where
  class : ℕ → ℕ
  are_merged : AreMerged part class
  alike : (u v : ℕ) → u < part.nodes → v < part.nodes → c (f u) ≡ c (f v) → class u ≡ class v
  back : (u v : ℕ) → u < part.nodes → v < part.nodes → class u ≡ class v → c (f u) ≡ c (f v)

-- both merge u as they merged another node before
record MovesAlike (part : Digraph) (f c d old new : ℕ → ℕ) (u : ℕ) : Type 0 where
  to : ℕ
  below : to < part.nodes
  whole_is : d (f u) ≡ c (f to)
  part_is : new u ≡ old to

follows_on : {part : Digraph} {f c d : ℕ → ℕ} (r : Follows part f c) (new : ℕ → ℕ) → AreMerged part new → ((u : ℕ) → u < part.nodes → MovesAlike part f c d r.class new u) → Follows part f d
follows_on r new m moves = record {
  class = new;
  are_merged = m;
  alike = λ u v lu lv same.
      let a = moves u lu in
      let b = moves v lv in
      a.part_is ∙ r.alike a.to b.to a.below b.below (sym a.whole_is ∙ same ∙ b.whole_is) ∙ sym b.part_is;
  back = λ u v lu lv same.
      let a = moves u lu in
      let b = moves v lv in
      a.whole_is ∙ r.back a.to b.to a.below b.below (sym a.part_is ∙ same ∙ b.part_is) ∙ sym b.whole_is;
}

-- where the part has a node w of the merged class, and is entered there from a
part_can_merge : {whole part : Digraph} {f c : ℕ → ℕ} {x q : ℕ} → IsDigraph part → IsReachedPart whole part f → AreMerged whole c → CanMergeClass whole c q x → (r : Follows part f c) (w a b : ℕ) → w < part.nodes → c (f w) ≡ x → Edge part a b
    → c (f a) ≡ q → c (f b) ≡ x → CanMergeClass part r.class (r.class a) (r.class w)
part_can_merge {whole} {part} {f} {c} {x} {q} wf p m can r w a b lw at edge from_q at_b =
    let ends = ends_within wf a b edge in
    record {
      not_entry = λ zero'.
          let same = r.back w 0 lw wf.entry (zero' ∙ sym (entry_stays r.are_merged)) in
          can.not_entry (sym at ∙ same ∙ ap c p.entry ∙ entry_stays m);
      other = λ same. can.other (sym at ∙ r.back w a lw ends.0 same ∙ from_q);
      source = a;
      target = b;
      edge = edge;
      leaves = refl;
      enters = r.alike b w ends.1 lw (at_b ∙ sym at);
      alone = λ u v e to_w.
          let inner = ends_within wf u v e in
          elim (can.alone (f u) (f v) (p.edges u v e) (r.back v w inner.1 lw to_w ∙ at)) [
            | inl inside ↦ inl (r.alike u w inner.0 lw (inside ∙ sym at))
            | inr outside ↦ inr (r.alike u a inner.0 ends.0 (outside ∙ sym from_q))
          ];
    }

merged_too : {whole part : Digraph} {f c d : ℕ → ℕ} {x q : ℕ} → IsDigraph part → IsReachedPart whole part f → AreMerged whole c → CanMergeClass whole c q x → ((u : ℕ) → d u ≡ renamed x q (c u)) → Follows part f c → (w : ℕ) → w < part.nodes → c (f w) ≡ x → Follows part f d
merged_too {whole} {part} {f} {c} {d} {x} {q} wf p m can is r w lw at =
    let n : ℕ → ℕ = λ u. c (f u) in
    let outside : n 0 ≢ n w = λ same. can.not_entry (sym at ∙ sym same ∙ ap c p.entry ∙ entry_stays m) in
    let k = entry_on {g = part} n {z = 0} {a = w} (p.reached w lw).1 outside in
    let at_b : c (f k.target) ≡ x = k.inside ∙ at in
    let from_q : c (f k.source) ≡ q =
    elim (can.alone (f k.source) (f k.target) (p.edges k.source k.target k.edge) at_b) [
      | inl inside ↦ absurd (k.outside (inside ∙ sym at_b))
      | inr from ↦ from
    ] in
    let can' = part_can_merge {whole = whole} {part = part} {f = f} {c = c} {x = x} {q = q} wf p m can r w k.source k.target lw at k.edge from_q at_b in
    let new : ℕ → ℕ = λ u. renamed (r.class w) (r.class k.source) (r.class u) in
    let source_below = (ends_within wf k.source k.target k.edge).0 in
    follows_on {part = part} {f = f} {c = c} {d = d} r new (merged {c = r.class} {d = new} (r.class w) (r.class k.source) r.are_merged can' (λ u. refl)) (λ u lu.
    elim (class_cases c d x q is (f u)) [
      | inl gone ↦
          elim (class_cases r.class new (r.class w) (r.class k.source) (λ z. refl) u) [
            | inl too ↦ record { to = k.source; below = source_below; whole_is = gone.1 ∙ sym from_q; part_is = too.1 }
            | inr not_too ↦ absurd (not_too.0 (r.alike u w lu lw (gone.0 ∙ sym at)))
          ]
      | inr stays ↦
          elim (class_cases r.class new (r.class w) (r.class k.source) (λ z. refl) u) [
            | inl gone ↦ absurd (stays.0 (r.back u w lu lw gone.0 ∙ at))
            | inr too ↦ record { to = u; below = lu; whole_is = stays.1; part_is = too.1 }
          ]
    ])

follows : {whole part : Digraph} {f c : ℕ → ℕ} → IsDigraph part → IsReachedPart whole part f → AreMerged whole c → Follows part f c
follows {whole} {part} {f} wf p (apart {c} e) = record {
  class = λ u. u;
  are_merged = apart (λ u. refl);
  alike = λ u v lu lv same. p.distinct u v lu lv (sym (e (f u)) ∙ same ∙ e (f v));
  back = λ u v lu lv same. ap (λ z. c (f z)) same;
}
follows {whole} {part} {f} wf p (merged {c} {d} x q m can is) =
    let r = follows {whole = whole} {part = part} {f = f} {c = c} wf p m in
    elim (in_class (λ u. c (f u)) x part.nodes) [
      | inl some ↦ merged_too {whole = whole} {part = part} {f = f} {c = c} {d = d} {x = x} {q = q} wf p m can is r some.0 some.1 some.2
      | inr none ↦
          follows_on {part = part} {f = f} {c = c} {d = d} r r.class r.are_merged (λ u lu.
          elim (class_cases c d x q is (f u)) [
            | inl gone ↦ absurd (none u lu gone.0)
            | inr stays ↦ record { to = u; below = lu; whole_is = stays.1; part_is = refl }
          ])
    ]

-- of all nodes, the first alone passes this test
first_alone : (n : ℕ) → filter (λ a. eqb 0 a) (range_with_len 0 (suc n)) ≡ 0 ∷ []
first_alone zero = refl
first_alone (suc n) =
    let no' = ne_eqb 0 (0 + suc n) (λ e. absurd (omega arith)) in
    filter_range_more (λ a. eqb 0 a) 0 (suc n) ∙ ap (λ b. filter (λ a. eqb 0 a) (range_with_len 0 (suc n)) ++ cond b ((0 + suc n) ∷ []) []) no' ∙ ap (λ ks. ks ++ []) (first_alone n)

entry_alone : (n : ℕ) → 0 < n → filter (λ a. eqb 0 a) (range_with_len 0 n) ≡ 0 ∷ []
entry_alone zero lt = absurd (omega arith)
entry_alone (suc n) lt = first_alone n

pub part_is_reducible : PartsAreReducible
part_is_reducible whole part f wf l wf_part p =
    let a = classes_after l.steps (unmerged whole) in
    let zero' = all_merged wf a.merged (sym a.stands.nodes ∙ l.nodes) in
    let r = follows {whole = whole} {part = part} {f = f} {c = a.class} wf_part p a.merged in
    let P : ℕ → Type 0 = λ z. z < whole.nodes in
    let below : (u : ℕ) → u < part.nodes → f u < whole.nodes = λ u lu. end_within wf (mapped_walk {whole = whole} {part = part} f p.edges (p.reached u lu).1) (subst P (sym p.entry) wf.entry) in
    let all : (u : ℕ) → u < part.nodes → r.class u ≡ 0 = λ u lu.
    r.alike u 0 lu wf_part.entry (zero' (f u) (below u lu) ∙ sym (zero' (f 0) (below 0 wf_part.entry))) ∙ entry_stays r.are_merged in
    let none : (x q : ℕ) → CanMergeClass part r.class q x → ⊥ = λ x q can.
    let ends = ends_within wf_part can.source can.target can.edge in
    can.other (sym can.enters ∙ all can.target ends.1 ∙ sym (all can.source ends.0) ∙ can.leaves) in
    let names : filter (λ z. eqb (r.class z) z) (range_with_len 0 part.nodes) ≡ 0 ∷ [] =
    filter_alike (λ z. eqb (r.class z) z) (λ z. eqb 0 z) (range_with_len 0 part.nodes) (λ z has. ap (λ y. eqb y z) (all z (from_range part.nodes z has))) ∙ entry_alone part.nodes wf_part.entry in
    leaves_of [] r.are_merged none names
