-- What walks cost, by what their steps are charged.
use Rattle.std.proofs.Common.{◌≡◌, ℕ, ◌+◌, ◌*◌, ◌≤◌, Bool, true, false, not, ◌&&◌, List, [], ◌∷◌, slice_index, sum_by, Contains, refl, ap, ◌∙◌, inl, inr, arith}
use Rattle.std.specs.Prelude.{if◌then◌else◌}
use Rattle.std.proofs.lemmas.Bool.{false_from_ne_true}
use Rattle.std.proofs.lemmas.List.Sums.{sum_by-cons}
use Rattle.lists.specs.Members.{cons_cases, nil_contains}
use Rattle.section_check.specs.Bounded.{BoundedLoop, holds, entries_from, entries, cost_of_nodes, cost_of_entries}
use Rattle.section_check.specs.Charges.{start_charge, edge_charge, walk_charge, CostsAreCharged, StartsPayLoads, EdgesPayLoads}
use Rattle.section_check.proofs.Elements.{contains_from_holds, holds_from_contains}

-- a load that is paid where a loop is entered
paid_where : (n : ℕ) (b : Bool) → n * (if b then 1 else 0) ≡ (if b then n else 0)
paid_where n true = omega arith
paid_where n false = omega arith

paid_at_start : (n : ℕ) (b : Bool) → n * (if b && not false then 1 else 0) ≡ (if b then n else 0)
paid_at_start n true = omega arith
paid_at_start n false = omega arith

-- what is paid behind u to enter loops
abbrev later_charge : List BoundedLoop → ℕ → List ℕ → ℕ
later_charge loops u vs = sum_by (λ l. l.load * entries_from (holds l.members u) l.members vs) loops

none_later : (loops : List BoundedLoop) (u : ℕ) → later_charge loops u [] ≡ 0
none_later [] u = refl
none_later (l ∷ ls) u = omega (arith, sum_by-cons (λ (k : BoundedLoop). k.load * entries_from (holds k.members u) k.members []) l ls, none_later ls u)

one_later : (loops : List BoundedLoop) (u v : ℕ) (vs : List ℕ) → later_charge loops u (v ∷ vs) ≡ edge_charge loops u v + later_charge loops v vs
one_later [] u v vs = refl
one_later (l ∷ ls) u v vs =
    omega (
      arith,
      sum_by-cons (λ (k : BoundedLoop). k.load * entries_from (holds k.members u) k.members (v ∷ vs)) l ls,
      sum_by-cons (λ (k : BoundedLoop). if holds k.members v && not (holds k.members u) then k.load else 0) l ls,
      sum_by-cons (λ (k : BoundedLoop). k.load * entries_from (holds k.members v) k.members vs) l ls,
      paid_where l.load (holds l.members v && not (holds l.members u)),
      one_later ls u v vs,
    )

from_start : (loops : List BoundedLoop) (u : ℕ) (vs : List ℕ) → cost_of_entries loops (u ∷ vs) ≡ start_charge loops u + later_charge loops u vs
from_start [] u vs = refl
from_start (l ∷ ls) u vs =
    omega (
      arith,
      sum_by-cons (λ (k : BoundedLoop). k.load * entries k.members (u ∷ vs)) l ls,
      sum_by-cons (λ (k : BoundedLoop). if holds k.members u then k.load else 0) l ls,
      sum_by-cons (λ (k : BoundedLoop). k.load * entries_from (holds k.members u) k.members vs) l ls,
      paid_at_start l.load (holds l.members u),
      from_start ls u vs,
    )

on_the_way : (costs : List ℕ) (loops : List BoundedLoop) (u : ℕ) (vs : List ℕ) → cost_of_nodes costs (u ∷ vs) + later_charge loops u vs ≡ walk_charge costs loops u vs
on_the_way costs loops u [] = omega (arith, sum_by-cons (λ (x : ℕ). slice_index costs x) u [], none_later loops u)
on_the_way costs loops u (v ∷ vs) = omega (arith, sum_by-cons (λ (x : ℕ). slice_index costs x) u (v ∷ vs), one_later loops u v vs, on_the_way costs loops v vs)

pub costs_are_charged : CostsAreCharged
costs_are_charged costs loops u vs = omega (arith, from_start loops u vs, on_the_way costs loops u vs)

pub starts_pay_loads : StartsPayLoads
starts_pay_loads [] l u among in' = absurd (nil_contains l among)
starts_pay_loads (k ∷ ks) l u among in' =
    let paid = sum_by-cons (λ (x : BoundedLoop). if holds x.members u then x.load else 0) k ks in
    elim (cons_cases k l ks among) [
      | inl same ↦
          let e : (if holds k.members u then k.load else 0) ≡ l.load =
          ap (λ (x : BoundedLoop). if holds x.members u then x.load else 0) same ∙ ap (λ (b : Bool). if b then l.load else 0) (holds_from_contains l.members u in')
          in
          omega arith
      | inr later ↦ let rest = starts_pay_loads ks l u later in' in omega arith
    ]

pub edges_pay_loads : EdgesPayLoads
edges_pay_loads [] l u v among in' out = absurd (nil_contains l among)
edges_pay_loads (k ∷ ks) l u v among in' out =
    let paid = sum_by-cons (λ (x : BoundedLoop). if holds x.members v && not (holds x.members u) then x.load else 0) k ks in
    elim (cons_cases k l ks among) [
      | inl same ↦
          let e : (if holds k.members v && not (holds k.members u) then k.load else 0) ≡ l.load =
          ap (λ (x : BoundedLoop). if holds x.members v && not (holds x.members u) then x.load else 0) same
          ∙ (ap (λ (b : Bool). if b && not (holds l.members u) then l.load else 0) (holds_from_contains l.members v in')
          ∙ ap (λ (b : Bool). if true && not b then l.load else 0) (false_from_ne_true (holds l.members u) (λ held. out (contains_from_holds l.members u held))))
          in
          omega arith
      | inr later ↦ let rest = edges_pay_loads ks l u v later in' out in omega arith
    ]
