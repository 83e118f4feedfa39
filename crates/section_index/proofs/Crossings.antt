-- Of two sets that cross, the larger one splits the other.
use Rattle.std.proofs.Common.{◌≡◌, ℕ, ◌<◌, ◌≤◌, ◌⊎◌, min, List, length, get_or, Contains, Option, Some, None, refl, sym, ap, ◌∙◌, subst, inl, inr, arith}
use Rattle.std.specs.Prelude.{All}
use Rattle.std.specs.List.Sorted.{IsStrictlyIncreasing}
use Rattle.std.proofs.lemmas.Bool.{cases_lt, cases_order}
use Rattle.std.proofs.lemmas.List.Elements.{All-get_or}
use Rattle.lists.specs.Members.{place_of}
use Rattle.section_index.specs.Family.{set_at}
use Rattle.section_index.specs.Crossing.{AreCrossed, CrossesAnother, IsLeast}
use Rattle.section_index.specs.Splitting.{Splits, IsSplit, SplitsLater, AreLargerFirst, lesser_of}
use Rattle.section_index.proofs.CrossingElements.{within_or_not, fewer_within}

crossed_back : (us vs : List ℕ) → AreCrossed us vs → AreCrossed vs us
crossed_back us vs h = record { common = h.common; first = h.second; second = h.first; not_within = h.not_around; not_around = h.not_within }

splits_cross : (ss : List (List ℕ)) (k i : ℕ) → IsStrictlyIncreasing (set_at ss k) → length (set_at ss i) ≤ length (set_at ss k) → Splits ss k i → AreCrossed (set_at ss i) (set_at ss k)
splits_cross ss k i rise few s = record {
  common = s.shared;
  first = s.in_both.0;
  second = s.in_both.1;
  not_within = λ w. s.in_one.1 (w s.lacked s.in_one.0);
  not_around = λ w. let more = fewer_within (set_at ss k) (set_at ss i) s.lacked rise w s.in_one.0 s.in_one.1 in omega arith;
}

crossed_splits : (ss : List (List ℕ)) (k i : ℕ) → AreCrossed (set_at ss i) (set_at ss k) → Splits ss k i
crossed_splits ss k i c =
    elim (within_or_not (set_at ss i) (set_at ss k)) [
      | inl w ↦ absurd (c.not_within w)
      | inr r ↦ record { shared = c.common; lacked = r.0; in_both = (c.first, c.second); in_one = (r.1, r.2) }
    ]

least_either : (P Q R : ℕ → Type 0) (o : Option ℕ) (n : ℕ) → ((u : ℕ) → P u → R u) → ((u : ℕ) → Q u → R u) → ((u : ℕ) → R u → P u ⊎ Q u) → IsLeast P o → IsLeast Q (Some n) → IsLeast R (Some (lesser_of o n))
least_either P Q R None n p q cases ha hb = (q n hb.0, λ u less r. elim (cases u r) [ inl x ↦ ha u x | inr y ↦ hb.1 u less y ])
least_either P Q R (Some m) n p q cases ha hb = (
  elim (cases_lt m n) [
    | inl less ↦ let e : m ≡ min m n = omega arith in subst R e (p m ha.0)
    | inr ge ↦ let e : n ≡ min m n = omega arith in subst R e (q n hb.0)
  ],
  λ u less r. elim (cases u r) [ inl x ↦ ha.1 u (omega arith) x | inr y ↦ hb.1 u (omega arith) y ],
)

module _ (ss : List (List ℕ)) (order : List ℕ) (h : AreLargerFirst ss order) (rising : All IsStrictlyIncreasing ss) where
  among : (p : ℕ) → p < length order → get_or order p 0 < length ss
  among p lt = All-get_or (λ i. i < length ss) order p 0 lt h.within

  crossed_at : (p q : ℕ) → p < q → q < length order → Splits ss (get_or order p 0) (get_or order q 0) → AreCrossed (set_at ss (get_or order q 0)) (set_at ss (get_or order p 0))
  crossed_at p q lt below s =
      splits_cross ss (get_or order p 0) (get_or order q 0) (All-get_or IsStrictlyIncreasing ss (get_or order p 0) _ (among p (omega arith)) rising) (h.falling p q (omega arith) below) s

  from_split : (last i : ℕ) → IsSplit ss order last i → CrossesAnother ss i
  from_split last i s =
      let early = s.before in
      let end = s.below in
      let P : ℕ → Type 0 = λ z. Splits ss (get_or order s.first 0) z in
      let Q : ℕ → Type 0 = λ z. CrossesAnother ss z in
      subst Q s.at (record {
        other = get_or order s.first 0;
        below = among s.second s.below;
        among = among s.first (omega arith);
        crossed = crossed_at s.first s.second s.before s.below (subst P (sym s.at) s.splits);
      })

  from_splitting : (k : ℕ) → SplitsLater ss order k → CrossesAnother ss k
  from_splitting k s =
      let early = s.before in
      let end = s.below in
      let P : ℕ → Type 0 = λ z. Splits ss z (get_or order s.second 0) in
      let Q : ℕ → Type 0 = λ z. CrossesAnother ss z in
      subst Q s.at (record {
        other = get_or order s.second 0;
        below = among s.first (omega arith);
        among = among s.second s.below;
        crossed = crossed_back _ _ (crossed_at s.first s.second s.before s.below (subst P (sym s.at) s.splits));
      })

  to_either : (i : ℕ) → CrossesAnother ss i → SplitsLater ss order i ⊎ IsSplit ss order (length ss) i
  to_either i c =
      let a = place_of order i (h.all i c.below) in
      let b = place_of order c.other (h.all c.other c.among) in
      elim (cases_order a.0 b.0) [
        | inl same ↦
            let e : i ≡ c.other = sym a.2 ∙ ap (λ k. get_or order k 0) same ∙ b.2 in
            absurd (c.crossed.not_within (λ x has. let P : ℕ → Type 0 = λ z. Contains (set_at ss z) x in subst P e has))
        | inr apart ↦
            elim apart [
              | inl less ↦
                  let P : ℕ → Type 0 = λ z. Splits ss i z in
                  inl (record { first = a.0; second = b.0; before = less; below = b.1; at = a.2; splits = subst P (sym b.2) (crossed_splits ss i c.other (crossed_back _ _ c.crossed)) })
              | inr more ↦
                  let P : ℕ → Type 0 = λ z. Splits ss z i in
                  let there = b.2 in
                  let fits = c.among in
                  inr (record { first = b.0; second = a.0; before = more; below = a.1; at = a.2; low = omega arith; splits = subst P (sym b.2) (crossed_splits ss c.other i c.crossed) })
            ]
      ]

  pub least_crossing : (o : Option ℕ) (split : ℕ) → IsLeast (IsSplit ss order (length ss)) (Some split) → IsLeast (SplitsLater ss order) o → IsLeast (CrossesAnother ss) (Some (lesser_of o split))
  least_crossing o split s l = least_either (SplitsLater ss order) (IsSplit ss order (length ss)) (CrossesAnother ss) o split from_splitting (from_split (length ss)) to_either l s

  pub no_crossing : IsLeast (IsSplit ss order (length ss)) None → IsLeast (CrossesAnother ss) None
  no_crossing none = λ i c.
      elim (to_either i c) [
        | inr s ↦ none i s
        | inl s ↦
            let early = s.before in
            let end = s.below in
            let fits = among s.first (omega arith) in
            let P : ℕ → Type 0 = λ z. Splits ss z (get_or order s.second 0) in
            none (get_or order s.second 0) (record { first = s.first; second = s.second; before = s.before; below = s.below; at = refl; low = omega arith; splits = subst P (sym s.at) s.splits })
      ]

-- the same, as a sweep finds it
pub none_crosses : (ss : List (List ℕ)) (os order : List ℕ) (n : ℕ) (o : Option ℕ) → os ≡ order → n ≡ length ss → o ≡ None → AreLargerFirst ss order → All IsStrictlyIncreasing ss → IsLeast (IsSplit ss os n) o → IsLeast (CrossesAnother ss) None
none_crosses ss os order n o same all none h rising l =
    let P : List ℕ → Type 0 = λ zs. IsLeast (IsSplit ss zs n) o in
    let Q : ℕ → Type 0 = λ k. IsLeast (IsSplit ss order k) o in
    let R : Option ℕ → Type 0 = λ z. IsLeast (IsSplit ss order (length ss)) z in
    no_crossing ss order h rising (subst R none (subst Q all (subst P same l)))

pub first_crosses : (ss : List (List ℕ)) (os ps order : List ℕ) (n split : ℕ) (o later : Option ℕ) (r : ℕ) → os ≡ order → ps ≡ order → n ≡ length ss → o ≡ Some split → r ≡ lesser_of later split → AreLargerFirst ss order → All IsStrictlyIncreasing ss
    → IsLeast (IsSplit ss os n) o → IsLeast (SplitsLater ss ps) later → IsLeast (CrossesAnother ss) (Some r)
first_crosses ss os ps order n split o later r same same' all some is h rising l s =
    let P : List ℕ → Type 0 = λ zs. IsLeast (IsSplit ss zs n) o in
    let Q : ℕ → Type 0 = λ k. IsLeast (IsSplit ss order k) o in
    let R : Option ℕ → Type 0 = λ z. IsLeast (IsSplit ss order (length ss)) z in
    let S : List ℕ → Type 0 = λ zs. IsLeast (SplitsLater ss zs) later in
    let T : ℕ → Type 0 = λ k. IsLeast (CrossesAnother ss) (Some k) in
    subst T (sym is) (least_crossing ss order h rising later split (subst R some (subst Q all (subst P same l))) (subst S same' s))
