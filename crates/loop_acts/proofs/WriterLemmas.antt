-- The only instruction that writes a local variable, node by node, and those that write any.
use Rattle.std.proofs.Common.{◌≡◌, ◌≢◌, ◌⊎◌, ℕ, ◌+◌, ◌*◌, ◌<◌, ◌≤◌, true, false, List, [], ◌∷◌, ◌++◌, length, get_or, take, Contains, Option, Some, None, sym, ◌∙◌, subst, inl, inr, arith}
use Rattle.std.specs.Prelude.{◌==◌}
use Rattle.std.proofs.lemmas.Bool.{both_ways, false≢true, eq-eqb, eqb-true}
use Rattle.std.proofs.lemmas.List.{take_all}
use Rattle.std.proofs.lemmas.List.Elements.{Contains-append_left, Contains-push, Contains-push_cases}
use Rattle.lists.specs.Members.{nil_contains}
use Rattle.lists.specs.Tests.{not_true, not_false}
use Rattle.loop_acts.specs.declared.effects.Act.{Act}
use Rattle.loop_acts.specs.Writing.{AreWriters, IsAddedWriter, IsAlone, IsIdle, IsOnly, IsOnlyOf, IsWriterAmong, IsWriterAt, is_other}
use Rattle.loop_acts.proofs.Taking.{from_take, take_has, take_keeps, take_cases}

same_earlier : (q p : ℕ) → is_other (Some q) p ≡ false → q ≡ p
same_earlier q p e = eqb-true q p (not_false (q == p) e)

other_earlier : (q p : ℕ) → is_other (Some q) p ≡ true → q ≢ p
other_earlier q p e same = both_ways (q == p) (not_true (q == p) e) (eq-eqb q p same)

half : (u p q : ℕ) → u ≡ 2 * p → u ≡ 2 * q → q ≡ p
half u p q a b = omega arith

module _ (acts : List Act) (local : ℕ) where
  -- the only writer among these nodes, or none where there is none
  abbrev pub OnlyIn : List ℕ → Option ℕ → Type 0
  OnlyIn nodes o = IsOnly (IsWriterAmong acts nodes local) o

  pub no_nodes : OnlyIn [] None
  no_nodes = λ p w. nil_contains (2 * p) w.0

  module _ (nodes : List ℕ) (i : ℕ) (lt : i < length nodes) where
    abbrev pub node : ℕ
    node = get_or nodes i 0

    cases : (p : ℕ) → IsWriterAmong acts (take (i + 1) nodes) local p → IsWriterAmong acts (take i nodes) local p ⊎ IsWriterAt acts node local p
    cases p w = elim (take_cases nodes i 0 (2 * p) lt w.0) [ inl before ↦ inl (before, w.1) | inr here ↦ inr (here, w.1) ]

    keeps : (p : ℕ) → IsWriterAmong acts (take i nodes) local p → IsWriterAmong acts (take (i + 1) nodes) local p
    keeps p w = (take_keeps nodes i (2 * p) lt w.0, w.1)

    here : (p : ℕ) → IsWriterAt acts node local p → IsWriterAmong acts (take (i + 1) nodes) local p
    here p w = (subst (λ (u : ℕ). Contains (take (i + 1) nodes) u) w.0 (take_has nodes i 0 lt), w.1)

    pub no_writer : (o : Option ℕ) → OnlyIn (take i nodes) o → ((p : ℕ) → ¬ IsWriterAt acts node local p) → OnlyIn (take (i + 1) nodes) o
    no_writer None none other = λ p w. elim (cases p w) [ inl a ↦ none p a | inr b ↦ other p b ]
    no_writer (Some q) is other = (keeps q is.0, λ p w. elim (cases p w) [ inl a ↦ is.1 p a | inr b ↦ absurd (other p b) ])

    pub one_writer : (o : Option ℕ) (place : ℕ) → OnlyIn (take i nodes) o → is_other o place ≡ false → IsWriterAt acts node local place → OnlyIn (take (i + 1) nodes) (Some place)
    one_writer None place none same w = (here place w, λ p v. elim (cases p v) [ inl a ↦ absurd (none p a) | inr b ↦ half node place p w.0 b.0 ])
    one_writer (Some q) place is same w = (here place w, λ p v. elim (cases p v) [ inl a ↦ is.1 p a ∙ same_earlier q place same | inr b ↦ half node place p w.0 b.0 ])

    all : (p : ℕ) → IsWriterAmong acts (take (i + 1) nodes) local p → IsWriterAmong acts nodes local p
    all p w = (from_take (i + 1) nodes (2 * p) w.0, w.1)

    pub two_writers : (o : Option ℕ) (place : ℕ) → OnlyIn (take i nodes) o → is_other o place ≡ true → IsWriterAt acts node local place → (p : ℕ) → ¬ IsAlone (IsWriterAmong acts nodes local) p
    two_writers None place none other w p one = false≢true other
    two_writers (Some q) place is other w p one = other_earlier q place other (one.1 q (all q (keeps q is.0)) ∙ sym (one.1 place (all place (here place w))))

  pub all_nodes : (nodes : List ℕ) (i : ℕ) (o : Option ℕ) → length nodes ≤ i → OnlyIn (take i nodes) o → IsOnlyOf (IsWriterAmong acts nodes local) o
  all_nodes nodes i o done is = whole o (subst (λ (us : List ℕ). OnlyIn us o) (take_all i nodes done) is)
    where
      whole : (o : Option ℕ) → OnlyIn nodes o → IsOnlyOf (IsWriterAmong acts nodes local) o
      whole None none = λ p one. none p one.0
      whole (Some p) one = one

-- ---- those among the nodes of a loop that write

pub no_found : (acts : List Act) (found : List ℕ) → found ≡ [] → AreWriters acts [] found
no_found acts found none = subst (AreWriters acts []) (sym none) (λ local p. (λ w. w, λ w. w))

module _ (acts : List Act) (nodes : List ℕ) (i : ℕ) (lt : i < length nodes) (found : List ℕ) (h : AreWriters acts (take i nodes) found) where
  abbrev at : ℕ
  at = get_or nodes i 0

  pub found_more : AreWriters acts (take (i + 1) nodes) (found ++ get_or nodes i 0 ∷ [])
  found_more local p = (
    λ w. elim (Contains-push_cases found at (2 * p) w.0) [
      | inl old ↦ keeps acts local nodes i lt p ((h local p).0 (old, w.1))
      | inr same ↦ here acts local nodes i lt p (same, w.1)
    ],
    λ w. elim (cases acts local nodes i lt p w) [
      | inl before ↦ let o = (h local p).1 before in (Contains-append_left found (at ∷ []) (2 * p) o.0, o.1)
      | inr this ↦ (subst (λ (u : ℕ). Contains (found ++ at ∷ []) u) this.0 (Contains-push found at), this.1)
    ],
  )

  pub found_same : IsIdle acts (get_or nodes i 0) → AreWriters acts (take (i + 1) nodes) found
  found_same idle local p = (
    λ w. keeps acts local nodes i lt p ((h local p).0 w),
    λ w. elim (cases acts local nodes i lt p w) [ inl before ↦ (h local p).1 before | inr this ↦ absurd (idle local p this) ],
  )

  pub found_next : (new : List ℕ) → IsAddedWriter acts (get_or nodes i 0) found new → AreWriters acts (take (i + 1) nodes) new
  found_next new (inl none) = subst (AreWriters acts (take (i + 1) nodes)) (sym none.1) (found_same none.0)
  found_next new (inr is) = subst (AreWriters acts (take (i + 1) nodes)) (sym is) found_more

pub all_found : (acts : List Act) (nodes : List ℕ) (i : ℕ) (found : List ℕ) → length nodes ≤ i → AreWriters acts (take i nodes) found → AreWriters acts nodes found
all_found acts nodes i found done h = subst (λ (us : List ℕ). AreWriters acts us found) (take_all i nodes done) h

pub found_only : (acts : List Act) (nodes found : List ℕ) (local : ℕ) → AreWriters acts nodes found → (o : Option ℕ) → IsOnlyOf (IsWriterAmong acts found local) o → IsOnlyOf (IsWriterAmong acts nodes local) o
found_only acts nodes found local h None none = λ p one. none p ((h local p).1 one.0, λ q w. one.1 q ((h local q).0 w))
found_only acts nodes found local h (Some p) one = ((h local p).0 one.0, λ q w. one.1 q ((h local q).1 w))
