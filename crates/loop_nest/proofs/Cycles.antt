-- Every cycle of a reducible graph takes a back edge.
use Rattle.std.proofs.Common.{◌≡◌, ◌≢◌, ℕ, ◌⊎◌, List, [], ◌∷◌, Contains, refl, sym, ap, ◌∙◌, subst, inl, inr}
use Rattle.std.proofs.lemmas.Bool.{cases_eq}
use Rattle.lists.specs.Members.{at_head, in_tail, cons_cases, nil_contains}
use Rattle.loop_nest.specs.Digraph.{Digraph, Edge}
use Rattle.loop_nest.specs.Walks.{Walk, Dominates, IsBackEdge, TakesEdge}
use Rattle.loop_nest.specs.Walks.Walk.{stay, along}
use Rattle.loop_nest.specs.Reduction.{renamed}
use Rattle.loop_nest.specs.Classes.{AreMerged}
use Rattle.loop_nest.specs.Classes.AreMerged.{apart, merged}
use Rattle.loop_nest.proofs.Around.{end_visited}
use Rattle.loop_nest.proofs.Classes.{class_cases, enters_at_name, name_dominates, start_visited}

abbrev TakesBackEdge : Digraph → List ℕ → Type 0
TakesBackEdge g ns = (a h : ℕ) × TakesEdge ns a h × IsBackEdge g a h

-- the walk takes an edge from the class x to the class p
record Crosses (g : Digraph) (c : ℕ → ℕ) (x p : ℕ) (ns : List ℕ) : Type 0 where
  source : ℕ
  target : ℕ
  taken : TakesEdge ns source target
  edge : Edge g source target
  at_x : c source ≡ x
  at_p : c target ≡ p

starts : {g : Digraph} {u v : ℕ} {ns : List ℕ} → Walk g u v ns → (tail : List ℕ) × (ns ≡ u ∷ tail)
starts (stay {u}) = ([], refl)
starts (along {u} {v} {w} {ns} e t) = (ns, refl)

takes_first : {g : Digraph} {v w : ℕ} {ns : List ℕ} (u : ℕ) → Walk g v w ns → TakesEdge (u ∷ ns) u v
takes_first u t = let s = starts t in ([], s.0, ap (λ ms. u ∷ ms) s.1)

later : {g : Digraph} {c : ℕ → ℕ} {x p : ℕ} {ns : List ℕ} (u : ℕ) → Crosses g c x p ns → Crosses g c x p (u ∷ ns)
later u k = record {
  source = k.source;
  target = k.target;
  taken = (u ∷ k.taken.0, k.taken.1, ap (λ ms. u ∷ ms) k.taken.2);
  edge = k.edge;
  at_x = k.at_x;
  at_p = k.at_p;
}

all_cons : (c : ℕ → ℕ) (k u : ℕ) (ns : List ℕ) → c u ≡ k → ((w : ℕ) → Contains ns w → c w ≡ k) → (w : ℕ) → Contains (u ∷ ns) w → c w ≡ k
all_cons c k u ns here there w has = elim (cons_cases u w ns has) [ inl same ↦ ap c (sym same) ∙ here | inr more ↦ there w more ]

abbrev Sides : (ℕ → ℕ) → ℕ → ℕ → List ℕ → Type 0
Sides c x p ns = (w : ℕ) → Contains ns w → (c w ≡ x) ⊎ (c w ≡ p)

-- a walk that begins in the class x stays there or crosses to p
from_x : {g : Digraph} (c : ℕ → ℕ) (x p : ℕ) {a b : ℕ} {ns : List ℕ} → Walk g a b ns → c a ≡ x → Sides c x p ns → ((w : ℕ) → Contains ns w → c w ≡ x) ⊎ Crosses g c x p ns
from_x {g} c x p (stay {u}) at sides = inl (all_cons c x u [] at (λ w has. absurd (nil_contains w has)))
from_x {g} c x p (along {u} {v} {w} {ns} e t) at sides =
    let more : Sides c x p ns = λ y has. sides y (in_tail u y ns has) in
    elim (more v (start_visited t)) [
      | inl v_at_x ↦
          elim (from_x c x p t v_at_x more) [
            | inl all ↦ inl (all_cons c x u ns at all)
            | inr k ↦ inr (later u k)
          ]
      | inr v_at_p ↦ inr (record { source = u; target = v; taken = takes_first u t; edge = e; at_x = at; at_p = v_at_p })
    ]

-- a walk that ends in the class p is there all the time or crosses from x
to_p : {g : Digraph} (c : ℕ → ℕ) (x p : ℕ) {a b : ℕ} {ns : List ℕ} → Walk g a b ns → c b ≡ p → Sides c x p ns → ((w : ℕ) → Contains ns w → c w ≡ p) ⊎ Crosses g c x p ns
to_p {g} c x p (stay {u}) at sides = inl (all_cons c p u [] at (λ w has. absurd (nil_contains w has)))
to_p {g} c x p (along {u} {v} {w} {ns} e t) at sides =
    let more : Sides c x p ns = λ y has. sides y (in_tail u y ns has) in
    elim (to_p c x p t at more) [
      | inl all ↦
          elim (sides u (at_head u ns)) [
            | inl u_at_x ↦ inr (record { source = u; target = v; taken = takes_first u t; edge = e; at_x = u_at_x; at_p = all v (start_visited t) })
            | inr u_at_p ↦ inl (all_cons c p u ns u_at_p all)
          ]
      | inr k ↦ inr (later u k)
    ]

crossed : {g : Digraph} {c d : ℕ → ℕ} {x p : ℕ} {ns : List ℕ} → AreMerged g c → AreMerged g d → x ≢ p → ((u : ℕ) → d u ≡ renamed x p (c u)) → Crosses g c x p ns → TakesBackEdge g ns
crossed {g} {c} {d} {x} {p} m n apart' is k =
    let name : c k.target ≡ k.target = enters_at_name m k.source k.target k.edge (λ same. apart' (sym k.at_x ∙ same ∙ k.at_p)) in
    let P : ℕ → Type 0 = λ y. Dominates g y k.source in
    elim (class_cases c d x p is k.source) [
      | inl at_x ↦
          (k.source, k.target, k.taken, record { edge = k.edge; dominates = subst P (at_x.1 ∙ sym k.at_p ∙ name) (name_dominates n k.source) })
      | inr other ↦ absurd (other.0 k.at_x)
    ]

pub cycle_takes_back_edge : {g : Digraph} {c : ℕ → ℕ} → AreMerged g c → (u v : ℕ) (ns : List ℕ) → Edge g u v → Walk g v u ns → ((w : ℕ) → Contains (u ∷ ns) w → c w ≡ c u) → TakesBackEdge g (u ∷ ns)
cycle_takes_back_edge {g} (apart {c} is) u v ns e t all =
    let same : v ≡ u = sym (is v) ∙ all v (in_tail u v ns (start_visited t)) ∙ is u in
    let P : ℕ → Type 0 = λ y. Dominates g y u in
    (u, v, takes_first u t, record { edge = e; dominates = subst P (sym same) (λ ms w. end_visited w) })
cycle_takes_back_edge {g} (merged {c} {d} x p m can is) u v ns e t all =
    let round : Walk g u u (u ∷ ns) = along e t in
    let kind : (w : ℕ) → Contains (u ∷ ns) w → ((c w ≡ x) × (d w ≡ p)) ⊎ ((c w ≢ x) × (d w ≡ c w)) = λ w has. class_cases c d x p is w in
    elim (cases_eq (d u) p) [
      | inl at_p ↦
          let sides : Sides c x p (u ∷ ns) =
          λ w has. elim (kind w has) [ inl here ↦ inl here.0 | inr there ↦ inr (sym there.1 ∙ all w has ∙ at_p) ] in
          let out : Crosses g c x p (u ∷ ns) → TakesBackEdge g (u ∷ ns) = crossed m (merged {c = c} {d = d} x p m can is) can.other is in
          elim (sides u (at_head u ns)) [
            | inl u_at_x ↦
                elim (from_x c x p round u_at_x sides) [
                  | inl same ↦ cycle_takes_back_edge m u v ns e t (λ w has. same w has ∙ sym u_at_x)
                  | inr k ↦ out k
                ]
            | inr u_at_p ↦
                elim (to_p c x p round u_at_p sides) [
                  | inl same ↦ cycle_takes_back_edge m u v ns e t (λ w has. same w has ∙ sym u_at_p)
                  | inr k ↦ out k
                ]
          ]
      | inr elsewhere ↦
          let stays : (w : ℕ) → Contains (u ∷ ns) w → d w ≡ c w =
          λ w has. elim (kind w has) [ inl here ↦ absurd (elsewhere (sym (all w has) ∙ here.1)) | inr there ↦ there.1 ] in
          cycle_takes_back_edge m u v ns e t (λ w has. sym (stays w has) ∙ all w has ∙ stays u (at_head u ns))
    ]
