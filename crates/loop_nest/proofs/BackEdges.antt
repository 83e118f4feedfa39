-- Which edges are back edges, told when their targets are merged into other nodes.
use Rattle.std.proofs.Common.{◌≡◌, ◌≢◌, ℕ, ◌<◌, Bool, List, refl, sym, ap, ◌∙◌, subst, inl, inr, arith}
use Rattle.std.proofs.lemmas.Bool.{cases_eq}
use Rattle.std.proofs.lemmas.List.Elements.{Contains-get_or}
use Rattle.lists.specs.Members.{has_or_not}
use Rattle.loop_nest.specs.Digraph.{Digraph, Edge}
use Rattle.loop_nest.specs.Walks.{Dominates, IsReachable}
use Rattle.loop_nest.specs.Reduction.{renamed}
use Rattle.loop_nest.specs.Classes.{CanMergeClass, AreMerged}
use Rattle.loop_nest.specs.Classes.AreMerged.{apart, merged}
use Rattle.loop_nest.specs.Entered.{edge_at, AreMarkedBy, MarksEdgesTo}
use Rattle.loop_nest.proofs.Around.{Around, joined, joined_by, around_from, not_around}
use Rattle.loop_nest.proofs.Around.Around.{rest}
use Rattle.loop_nest.proofs.Nesting.{first_of}
use Rattle.loop_nest.proofs.Classes.{class_cases, renamed_same, renamed_other, idempotent, enters_at_name, name_dominates, name_of_target}

-- a node is reached from the node into which it is merged without any that is merged elsewhere
around_others : {g : Digraph} {c : ℕ → ℕ} → AreMerged g c → (u k : ℕ) → c k ≢ c u → Around g k (c u) u
around_others {g} (apart {c} e) u k ne =
    let P : ℕ → Type 0 = λ z. Around g k z u in
    subst P (sym (e u)) (rest (λ same. ne (ap c (sym same))))
around_others {g} (merged {c} {d} x p m can is) u k ne =
    let P : ℕ → Type 0 = λ z. Around g k z u in
    elim (class_cases c d x p is u) [
      | inl gone ↦
          let not_x : c k ≢ x = λ e. elim (class_cases c d x p is k) [ inl at ↦ ne (at.1 ∙ sym gone.1) | inr off ↦ off.0 e ] in
          let not_p : c k ≢ p = λ e. elim (class_cases c d x p is k) [ inl at ↦ ne (at.1 ∙ sym gone.1) | inr off ↦ ne (off.1 ∙ e ∙ sym gone.1) ] in
          let to_source = around_others m can.source k (λ e. not_p (e ∙ can.leaves)) in
          let from_x = around_others m u k (λ e. not_x (e ∙ gone.0)) in
          let at_x : can.target ≡ c u =
          sym (enters_at_name m can.source can.target can.edge (λ e. can.other (sym can.enters ∙ sym e ∙ can.leaves))) ∙ can.enters ∙ sym gone.0 in
          subst P (can.leaves ∙ sym gone.1) (joined_by to_source can.edge (subst P (sym at_x) from_x))
      | inr stays ↦
          let ne' : c k ≢ c u = λ e. ne (is k ∙ ap (renamed x p) e ∙ sym (is u)) in
          subst P (sym stays.1) (around_others m u k ne')
    ]

-- an edge from p's nodes to x, which is merged into p now, is no back edge
no_back_edge : {g : Digraph} {c : ℕ → ℕ} {x p : ℕ} → AreMerged g c → CanMergeClass g c p x → IsReachable g p → (u : ℕ) → c u ≡ p → Dominates g x u → ⊥
no_back_edge {g} {c} {x} {p} m can reached u at dom =
    let d : ℕ → ℕ = λ z. renamed x p (c z) in
    let n : AreMerged g d = merged {c = c} {d = d} x p m can (λ z. refl) in
    let x_name = name_of_target (idempotent m) can in
    let d_x : d x ≡ p = renamed_same x p (c x) x_name in
    let P : ℕ → Type 0 = λ z. Dominates g z x in
    let p_dominates : Dominates g p x = subst P d_x (name_dominates n x) in
    let inside : Around g x p u =
    let Q : ℕ → Type 0 = λ z. Around g x z u in
    subst Q at (around_others m u x (λ e. can.other (sym x_name ∙ e ∙ at))) in
    elim (has_or_not reached.0 x) [
      | inl visited ↦
          elim (first_of x p can.other reached.1 visited) [
            | inl to_x ↦ not_around p_dominates to_x
            | inr to_p ↦ not_around dom (joined to_p inside)
          ]
      | inr around ↦ not_around dom (joined (around_from reached.1 around) inside)
    ]

pub marked_by : {g : Digraph} {c d : ℕ → ℕ} {x p : ℕ} {old new : List Bool} → AreMerged g c → CanMergeClass g c p x → ((u : ℕ) → d u ≡ renamed x p (c u)) → p < g.nodes → AreMarkedBy g c old → MarksEdgesTo g.edges c x old new → AreMarkedBy g d new
marked_by {g} {c} {d} {x} {p} {old} {new} m can is below back marks =
    let long_new = marks.long in
    let long_old = back.long in
    let x_name = name_of_target (idempotent m) can in
    record {
      long = omega arith;
      each = λ reached i lt moved.
          let u = (edge_at g.edges i).0 in
          let v = (edge_at g.edges i).1 in
          let edge : Edge g u v = Contains-get_or g.edges i (0, 0) lt in
          elim (cases_eq v x) [
            | inl at_x ↦
                let told = marks.to_x i lt at_x in (
                  λ t.
                      let inside : c u ≡ v = told.0 t ∙ sym at_x in
                      let P : ℕ → Type 0 = λ z. Dominates g z u in
                      record { edge = edge; dominates = subst P inside (name_dominates m u) },
                  λ b.
                      told.1 (elim (can.alone u v edge (ap c at_x ∙ x_name)) [
                        | inl inside ↦ inside
                        | inr outside ↦
                            let P : ℕ → Type 0 = λ z. Dominates g z u in
                            absurd (no_back_edge m can (reached p below) u outside (subst P at_x b.dominates))
                      ]),
                )
            | inr off_x ↦
                let moved' : c v ≢ v = λ same. moved (is v ∙ renamed_other x p (c v) (λ e. off_x (sym same ∙ e)) ∙ same) in
                let told = back.each reached i lt moved' in
                (λ t. told.0 (sym (marks.others i off_x) ∙ t), λ b. marks.others i off_x ∙ told.1 b)
          ];
    }
