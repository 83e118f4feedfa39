-- What holds of merged nodes: they have one name, are entered there alone, and are dominated by it.
use Rattle.std.proofs.Common.{◌≡◌, ◌≢◌, ℕ, ◌⊎◌, cond, List, [], Contains, refl, sym, ap, ◌∙◌, subst, inl, inr}
use Rattle.std.proofs.lemmas.Bool.{cases_eq, eq-eqb, ne_eqb}
use Rattle.lists.specs.Members.{at_head, in_tail}
use Rattle.loop_nest.specs.Digraph.{Digraph, Edge}
use Rattle.loop_nest.specs.Walks.{Walk, Dominates}
use Rattle.loop_nest.specs.Walks.Walk.{stay, along}
use Rattle.loop_nest.specs.Reduction.{renamed}
use Rattle.loop_nest.specs.Classes.{CanMergeClass, AreMerged}
use Rattle.loop_nest.specs.Classes.AreMerged.{apart, merged}

pub renamed_same : (x p a : ℕ) → a ≡ x → renamed x p a ≡ p
renamed_same x p a e = ap (λ b. cond b p a) (eq-eqb a x e)

pub renamed_other : (x p a : ℕ) → a ≢ x → renamed x p a ≡ a
renamed_other x p a ne = ap (λ b. cond b p a) (ne_eqb a x ne)

-- a merge of x into p takes a node of the class x to p, and leaves each other where it is
pub class_cases : (c d : ℕ → ℕ) (x p : ℕ) → ((u : ℕ) → d u ≡ renamed x p (c u)) → (u : ℕ) → ((c u ≡ x) × (d u ≡ p)) ⊎ ((c u ≢ x) × (d u ≡ c u))
class_cases c d x p is u =
    elim (cases_eq (c u) x) [
      | inl same ↦ inl (same, is u ∙ renamed_same x p (c u) same)
      | inr other ↦ inr (other, is u ∙ renamed_other x p (c u) other)
    ]

pub name_of_target : {g : Digraph} {c : ℕ → ℕ} {x p : ℕ} → ((u : ℕ) → c (c u) ≡ c u) → CanMergeClass g c p x → c x ≡ x
name_of_target {g} {c} idem can = ap c (sym can.enters) ∙ idem can.target ∙ can.enters

pub name_of_source : {g : Digraph} {c : ℕ → ℕ} {x p : ℕ} → ((u : ℕ) → c (c u) ≡ c u) → CanMergeClass g c p x → c p ≡ p
name_of_source {g} {c} idem can = ap c (sym can.leaves) ∙ idem can.source ∙ can.leaves

pub idempotent : {g : Digraph} {c : ℕ → ℕ} → AreMerged g c → (u : ℕ) → c (c u) ≡ c u
idempotent {g} (apart {c} e) u = e (c u)
idempotent {g} (merged {c} {d} x p m can is) u =
    let idem = idempotent m in
    let at_p : d p ≡ p =
    elim (class_cases c d x p is p) [
      | inl same ↦ absurd (can.other (sym same.0 ∙ name_of_source idem can))
      | inr other ↦ other.1 ∙ name_of_source idem can
    ] in
    elim (class_cases c d x p is u) [
      | inl same ↦ ap d same.1 ∙ at_p ∙ sym same.1
      | inr other ↦
          elim (class_cases c d x p is (c u)) [
            | inl bad ↦ absurd (other.0 (sym (idem u) ∙ bad.0))
            | inr more ↦ ap d other.1 ∙ more.1 ∙ idem u ∙ sym other.1
          ]
    ]

pub entry_stays : {g : Digraph} {c : ℕ → ℕ} → AreMerged g c → c 0 ≡ 0
entry_stays (apart e) = e 0
entry_stays (merged {c} {d} x p m can is) =
    elim (class_cases c d x p is 0) [
      | inl same ↦ absurd (can.not_entry (sym same.0 ∙ entry_stays m))
      | inr other ↦ other.1 ∙ entry_stays m
    ]

-- merged nodes are entered at the node that gives them its name
pub enters_at_name : {g : Digraph} {c : ℕ → ℕ} → AreMerged g c → (u v : ℕ) → Edge g u v → c u ≢ c v → c v ≡ v
enters_at_name (apart e) u v edge ne = e v
enters_at_name (merged {c} {d} x p m can is) u v edge ne =
    let ne' : c u ≢ c v = λ same. ne (is u ∙ ap (renamed x p) same ∙ sym (is v)) in
    elim (class_cases c d x p is v) [
      | inl at_x ↦
          elim (can.alone u v edge at_x.0) [
            | inl from_x ↦ absurd (ne' (from_x ∙ sym at_x.0))
            | inr from_p ↦
                elim (class_cases c d x p is u) [
                  | inl bad ↦ absurd (can.other (sym bad.0 ∙ from_p))
                  | inr u_stays ↦ absurd (ne (u_stays.1 ∙ from_p ∙ sym at_x.1))
                ]
          ]
      | inr v_stays ↦ v_stays.1 ∙ enters_at_name m u v edge ne'
    ]

pub start_visited : {g : Digraph} {u v : ℕ} {ns : List ℕ} → Walk g u v ns → Contains ns u
start_visited (stay {u}) = at_head u []
start_visited (along {u} {v} {w} {ns} e t) = at_head u ns

visits_name : {g : Digraph} {c : ℕ → ℕ} → AreMerged g c → {a u : ℕ} {ns : List ℕ} → Walk g a u ns → Contains ns (c u) ⊎ (c a ≡ c u)
visits_name {g} {c} m (stay {u}) = inr refl
visits_name {g} {c} m (along {u = a} {v = b} {w = u} {ns} e t) =
    elim (visits_name m t) [
      | inl visited ↦ inl (in_tail a (c u) ns visited)
      | inr same ↦
          elim (cases_eq (c a) (c u)) [
            | inl at_a ↦ inr at_a
            | inr other ↦
                let name : c b ≡ b = enters_at_name m a b e (λ eq. other (eq ∙ same)) in
                let P : ℕ → Type 0 = λ y. Contains ns y in
                inl (in_tail a (c u) ns (subst P (sym name ∙ same) (start_visited t)))
          ]
    ]

-- the name of merged nodes dominates them
pub name_dominates : {g : Digraph} {c : ℕ → ℕ} → AreMerged g c → (u : ℕ) → Dominates g (c u) u
name_dominates {g} {c} m u = λ ns w.
    elim (visits_name m w) [
      | inl visited ↦ visited
      | inr same ↦ let P : ℕ → Type 0 = λ y. Contains ns y in subst P (sym (entry_stays m) ∙ same) (start_visited w)
    ]
