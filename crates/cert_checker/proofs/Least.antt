-- The least member of a loop that is no node, loop by loop.
use Rattle.std.proofs.Common.{◌≡◌, ℕ, ◌+◌, ◌<◌, ◌≤◌, Bool, false, List, length, get_or, Contains, Option, sym, ap, ◌∙◌, subst, inl, inr, arith}
use Rattle.std.proofs.lemmas.Bool.{cases_lt}
use Rattle.section_check.specs.Least.{IsLeast, lesser_of}
use Rattle.section_check.specs.Section.{CertifiedLoop}
use Rattle.section_check.specs.Placing.{IsEntryAt, IsInLoop}
use Rattle.section_check.proofs.LeastLemmas.{same_at}
pub use Rattle.section_check.proofs.LeastLemmas.{least_same, least_either}
use Rattle.flow_graph.specs.Reach.{flag_at}

-- u is a member of one of the first i loops, and isn't flagged
pub record IsHeldUnder (flags : List Bool) (ls : List CertifiedLoop) (i u : ℕ) : Type 0 where
  pub place : ℕ
  pub holder : CertifiedLoop
  pub early : place < i
  pub at : IsEntryAt ls place holder
  pub inside : Contains holder.members u
  pub missing : flag_at flags u ≡ false

pub held_more : (flags : List Bool) (ls : List CertifiedLoop) (i : ℕ) (l : CertifiedLoop) (ms : List ℕ) → i < length ls → l ≡ get_or ls i l → ms ≡ l.members → (a b : Option ℕ) → IsLeast (IsHeldUnder flags ls i) a
    → IsLeast (λ u. Contains ms u × (flag_at flags u ≡ false)) b → IsLeast (IsHeldUnder flags ls (i + 1)) (lesser_of a b)
held_more flags ls i l ms below is members a b ha hb =
    let P : List ℕ → ℕ → Type 0 = λ ks u. Contains ks u in
    least_either (IsHeldUnder flags ls i) (λ u. Contains ms u × (flag_at flags u ≡ false)) (IsHeldUnder flags ls (i + 1)) a b
    (λ u h. let early = h.early in record { place = h.place; holder = h.holder; early = omega arith; at = h.at; inside = h.inside; missing = h.missing })
    (λ u h. record { place = i; holder = l; early = omega arith; at = (below, sym is); inside = (let Q : List ℕ → Type 0 = λ ks. Contains ks u in subst Q members h.0); missing = h.1 })
    (λ u h.
    elim (cases_lt h.place i) [
      | inl less ↦ inl (record { place = h.place; holder = h.holder; early = less; at = h.at; inside = h.inside; missing = h.missing })
      | inr ge ↦
          let early = h.early in
          let same : h.place ≡ i = omega arith in
          let T : ℕ → Type 0 = λ k. IsEntryAt ls k h.holder in
          let one = same_at ls i h.holder l (subst T same h.at) is in
          let Q : List ℕ → Type 0 = λ ks. Contains ks u in
          inr (subst Q (sym (members ∙ ap (λ (k : CertifiedLoop). k.members) one)) h.inside, h.missing)
    ])
    ha hb

pub held_all : (flags : List Bool) (ls : List CertifiedLoop) (i : ℕ) (o : Option ℕ) → length ls ≤ i → IsLeast (IsHeldUnder flags ls i) o → IsLeast (λ u. IsInLoop ls u × (flag_at flags u ≡ false)) o
held_all flags ls i o all h =
    least_same (IsHeldUnder flags ls i) (λ u. IsInLoop ls u × (flag_at flags u ≡ false)) o (λ u x. (record { holder = x.holder; among = (x.place, x.at.0, x.at.1); inside = x.inside }, x.missing))
    (λ u y. let below = y.0.among.1 in record { place = y.0.among.0; holder = y.0.holder; early = omega arith; at = (y.0.among.1, y.0.among.2); inside = y.0.inside; missing = y.1 }) h
