-- The least misplaced node, step by step.
use Rattle.std.proofs.Common.{◌≡◌, ℕ, ◌+◌, ◌<◌, ◌≤◌, ◌⊎◌, List, length, get_or, Contains, Option, sym, ap, ◌∙◌, subst, inl, inr, arith}
use Rattle.std.proofs.lemmas.Bool.{cases_lt}
use Rattle.loop_nest.specs.Digraph.{Digraph}
use Rattle.section_check.specs.Section.{Certified, CertifiedLoop, listed}
use Rattle.section_check.specs.Placing.{IsEntryAt, HeadsFaulty, IsMisplaced}
use Rattle.section_check.specs.Placing.IsMisplaced.{lists_no_node, holds_no_node, heads_faulty, enters_aside, holds_entry, exceeds_limit}
use Rattle.section_check.proofs.LeastLemmas.{same_at, least_same, least_either}
use Rattle.section_check.specs.Least.{IsLeast, lesser_of, IsBeyond, IsMemberBeyond, LeadsAside, IsWrongEntry}

-- u is a member of one of the first i loops, and not below n
pub record IsHeldBelow (n : ℕ) (ls : List CertifiedLoop) (i u : ℕ) : Type 0 where
  pub place : ℕ
  pub holder : CertifiedLoop
  pub early : place < i
  pub at : IsEntryAt ls place holder
  pub inside : Contains holder.members u
  pub high : n ≤ u

pub held_more : (n : ℕ) (ls : List CertifiedLoop) (i : ℕ) (l : CertifiedLoop) (ms : List ℕ) → i < length ls → l ≡ get_or ls i l → ms ≡ l.members → (a b : Option ℕ) → IsLeast (IsHeldBelow n ls i) a → IsLeast (λ u. Contains ms u × (n ≤ u)) b
    → IsLeast (IsHeldBelow n ls (i + 1)) (lesser_of a b)
held_more n ls i l ms below is members a b ha hb =
    let P : List ℕ → ℕ → Type 0 = λ ks u. Contains ks u in
    least_either (IsHeldBelow n ls i) (λ u. Contains ms u × (n ≤ u)) (IsHeldBelow n ls (i + 1)) a b
    (λ u h. let early = h.early in record { place = h.place; holder = h.holder; early = omega arith; at = h.at; inside = h.inside; high = h.high })
    (λ u h. record { place = i; holder = l; early = omega arith; at = (below, sym is); inside = (let Q : List ℕ → Type 0 = λ ks. Contains ks u in subst Q members h.0); high = h.1 })
    (λ u h.
    elim (cases_lt h.place i) [
      | inl less ↦ inl (record { place = h.place; holder = h.holder; early = less; at = h.at; inside = h.inside; high = h.high })
      | inr ge ↦
          let early = h.early in
          let same : h.place ≡ i = omega arith in
          let Q : ℕ → Type 0 = λ k. IsEntryAt ls k h.holder in
          let e = same_at ls i h.holder l (subst Q same h.at) is in
          let R : List ℕ → Type 0 = λ ks. Contains ks u in
          inr (subst R (sym (members ∙ ap (λ (k : CertifiedLoop). k.members) e)) h.inside, h.high)
    ]) ha hb

pub held_all : (n : ℕ) (ls : List CertifiedLoop) (i : ℕ) (o : Option ℕ) → length ls ≤ i → IsLeast (IsHeldBelow n ls i) o → IsLeast (IsMemberBeyond n ls) o
held_all n ls i o all h =
    least_same (IsHeldBelow n ls i) (IsMemberBeyond n ls) o (λ u x. (record { holder = x.holder; among = (x.place, x.at.0, x.at.1); inside = x.inside }, x.high))
    (λ u y. let below = y.0.among.1 in record { place = y.0.among.0; holder = y.0.holder; early = omega arith; at = (y.0.among.1, y.0.among.2); inside = y.0.inside; high = y.1 }) h

-- the least number with one property or the other
least_or : (P Q : ℕ → Type 0) (a b : Option ℕ) → IsLeast P a → IsLeast Q b → IsLeast (λ u. P u ⊎ Q u) (lesser_of a b)
least_or P Q a b = least_either P Q (λ u. P u ⊎ Q u) a b (λ u p. inl p) (λ u q. inr q) (λ u r. r)

-- the ways in which a node is misplaced
ways : (g : Digraph) (c : Certified) (bounds : List ℕ) (loads : List (Option ℕ)) (u : ℕ) → IsMisplaced g c bounds loads u
    → ((IsBeyond g.nodes (listed c.nodes) u ⊎ IsMemberBeyond g.nodes c.loops u) ⊎ (HeadsFaulty c.loops loads u ⊎ LeadsAside g c.loops u)) ⊎ IsWrongEntry c bounds loads u
ways g c bounds loads u (lists_no_node x n) = inl (inl (inl (x, n)))
ways g c bounds loads u (holds_no_node x n) = inl (inl (inr (x, n)))
ways g c bounds loads u (heads_faulty x) = inl (inr (inl x))
ways g c bounds loads u (enters_aside v e x) = inl (inr (inr (v, e, x)))
ways g c bounds loads u (holds_entry z x) = inr (z, inl x)
ways g c bounds loads u (exceeds_limit z x) = inr (z, inr x)

-- the least misplaced node is the least of those that are misplaced in one way
pub least_misplaced : (g : Digraph) (c : Certified) (bounds : List ℕ) (loads : List (Option ℕ)) (a b f l w : Option ℕ) → IsLeast (IsBeyond g.nodes (listed c.nodes)) a → IsLeast (IsMemberBeyond g.nodes c.loops) b → IsLeast (HeadsFaulty c.loops loads) f
    → IsLeast (LeadsAside g c.loops) l → IsLeast (IsWrongEntry c bounds loads) w → IsLeast (IsMisplaced g c bounds loads) (lesser_of (lesser_of (lesser_of a b) (lesser_of f l)) w)
least_misplaced g c bounds loads a b f l w ha hb hf hl hw =
    let P : ℕ → Type 0 = λ u. IsBeyond g.nodes (listed c.nodes) u ⊎ IsMemberBeyond g.nodes c.loops u in
    let Q : ℕ → Type 0 = λ u. HeadsFaulty c.loops loads u ⊎ LeadsAside g c.loops u in
    let R : ℕ → Type 0 = λ u. P u ⊎ Q u in
    let M : ℕ → Type 0 = λ u. IsMisplaced g c bounds loads u in
    let W : ℕ → Type 0 = λ u. IsWrongEntry c bounds loads u in
    let from : (u : ℕ) → R u → M u = λ u r.
    elim r [
      | inl p ↦ elim p [ inl x ↦ lists_no_node x.0 x.1 | inr x ↦ holds_no_node x.0 x.1 ]
      | inr q ↦ elim q [ inl x ↦ heads_faulty x | inr x ↦ enters_aside x.0 x.1 x.2 ]
    ]
    in
    let from_entry : (u : ℕ) → W u → M u = λ u x. elim (x.1) [ inl h ↦ holds_entry x.0 h | inr p ↦ exceeds_limit x.0 p ] in
    least_either R W M (lesser_of (lesser_of a b) (lesser_of f l)) w from from_entry (ways g c bounds loads)
    (least_or P Q (lesser_of a b) (lesser_of f l) (least_or (IsBeyond g.nodes (listed c.nodes)) (IsMemberBeyond g.nodes c.loops) a b ha hb) (least_or (HeadsFaulty c.loops loads) (LeadsAside g c.loops) f l hf hl)) hw
