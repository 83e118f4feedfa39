-- The members of a loop that the loops directly within it have, loop by loop.
use Rattle.std.proofs.Common.{◌≡◌, ◌≢◌, ◌⊎◌, ℕ, ◌+◌, ◌<◌, ◌≤◌, Bool, false, List, length, map, get_or, replicate, Contains, Option, Some, None, sym, ap, ◌∙◌, subst, inl, inr, arith}
use Rattle.std.proofs.lemmas.Bool.{both_ways, cases_eq}
use Rattle.std.proofs.lemmas.List.{get_or-map, length-replicate}
use Rattle.lists.proofs.Lemmas.{none≢some, some_same}
use Rattle.loop_nest.specs.Nest.{NaturalLoop, members_at, outer_at}
use Rattle.compact_walks.proofs.Loops.{members_of}
use Rattle.loop_marks.specs.Reach.{flag_at}
use Rattle.loop_marks.specs.Flags.{AreMarkedAmong}
use Rattle.loop_marks.specs.Marking.{IsHeldDirectly, AreHeldDirectly}
use Rattle.loop_marks.proofs.Flagging.{none_flagged}

outer_cases : (o : Option ℕ) (i : ℕ) → (o ≡ Some i) ⊎ (o ≢ Some i)
outer_cases None i = inr (none≢some i)
outer_cases (Some j) i = elim (cases_eq j i) [ inl same ↦ inl (ap (λ (k : ℕ). Some k) same) | inr other ↦ inr (λ e. other (some_same j i e)) ]

pub held_none : (node : ℕ → ℕ) (ls : List NaturalLoop) (i : ℕ) (members flags : List Bool) → flags ≡ replicate (length members) false → AreHeldDirectly node ls i 0 members flags
held_none node ls i members flags none = record {
  long = ap length none ∙ length-replicate (length members) false;
  each = λ x. (
    λ f. absurd (both_ways (flag_at flags x) (ap (λ (fs : List Bool). flag_at fs x) none ∙ none_flagged (length members) x) f),
    λ w. let lt = w.1.below in absurd (omega arith),
  );
}

module _ (node : ℕ → ℕ) (ls : List NaturalLoop) (i n : ℕ) (members old new : List Bool) (l : NaturalLoop) (lt : n < length ls) (is : l ≡ get_or ls n l) (h : AreHeldDirectly node ls i n members old) where
  outer : outer_at ls n ≡ l.outer
  outer = get_or-map (λ (x : NaturalLoop). x.outer) ls n l None lt ∙ sym (ap (λ (x : NaturalLoop). x.outer) is)

  has : members_at ls n ≡ l.members
  has = members_of ls n l lt ∙ sym (ap (λ (x : NaturalLoop). x.members) is)

  kept : (x : ℕ) → IsHeldDirectly node ls i n x → IsHeldDirectly node ls i (n + 1) x
  kept x w = record { index = w.index; below = (let lt' = w.below in omega arith); outer = w.outer; inside = w.inside }

  cases : (x : ℕ) → IsHeldDirectly node ls i (n + 1) x → IsHeldDirectly node ls i n x ⊎ ((l.outer ≡ Some i) × Contains (map node l.members) x)
  cases x w =
      elim (cases_eq w.index n) [
        | inl same ↦ inr (
          sym outer ∙ (sym (ap (outer_at ls) same) ∙ w.outer),
          subst (λ (us : List ℕ). Contains (map node us) x) (ap (members_at ls) same ∙ has) w.inside,
        )
        | inr other ↦ inl (record { index = w.index; below = (let lt' = w.below in omega arith); outer = w.outer; inside = w.inside })
      ]

  more : l.outer ≡ Some i → AreMarkedAmong members (map node l.members) old new → AreHeldDirectly node ls i (n + 1) members new
  more e m = record {
    long = m.long ∙ h.long;
    each = λ x. (
      λ f. elim ((m.each x).0 f) [
        | inl before ↦ let w = (h.each x).0 before in (w.0, kept x w.1)
        | inr w ↦ (w.0, record { index = n; below = omega arith; outer = outer ∙ e; inside = subst (λ (us : List ℕ). Contains (map node us) x) (sym has) w.1 })
      ],
      λ w. (m.each x).1 (elim (cases x w.1) [ inl before ↦ inl ((h.each x).1 (w.0, before)) | inr new' ↦ inr (w.0, new'.1) ]),
    );
  }

  same : l.outer ≢ Some i → AreHeldDirectly node ls i (n + 1) members old
  same other = record {
    long = h.long;
    each = λ x. (
      λ f. let w = (h.each x).0 f in (w.0, kept x w.1),
      λ w. elim (cases x w.1) [ inl before ↦ (h.each x).1 (w.0, before) | inr new' ↦ absurd (other new'.0) ],
    );
  }

  pub held_next : (l.outer ≡ Some i → AreMarkedAmong members (map node l.members) old new) → (l.outer ≢ Some i → new ≡ old) → AreHeldDirectly node ls i (n + 1) members new
  held_next marked unmarked =
      elim (outer_cases l.outer i) [
        | inl e ↦ more e (marked e)
        | inr other ↦ subst (AreHeldDirectly node ls i (n + 1) members) (sym (unmarked other)) (same other)
      ]

pub held_all : (node : ℕ → ℕ) (ls : List NaturalLoop) (i n : ℕ) (members flags : List Bool) → AreHeldDirectly node ls i n members flags → length ls ≤ n → n ≤ length ls → AreHeldDirectly node ls i (length ls) members flags
held_all node ls i n members flags h past most =
    let is : n ≡ length ls = omega arith in
    subst (λ (k : ℕ). AreHeldDirectly node ls i k members flags) is h
