-- What is told of all places, of what is told of each.
use Rattle.std.proofs.Common.{◌≡◌, ℕ, ◌+◌, ◌<◌, ◌≤◌, ℤ, List, length, All, Contains, Option, Some, None, refl, sym, ap, ◌∙◌, subst, inl, inr, arith}
use Rattle.std.specs.Prelude.{slice_index_or}
use Rattle.std.proofs.lemmas.Bool.{cases_eq}
use Rattle.std.proofs.lemmas.List.{get_or_default, nil_from_length}
use Rattle.std.proofs.lemmas.List.Elements.{All-contains}
use Rattle.lists.specs.Members.{contains_at}
use Rattle.known_ints.specs.declared.answers.Answer.{Answer}
use Rattle.known_ints.specs.declared.answers.Answer.TheVariants.{Until, Never}
use Rattle.known_ints.specs.declared.answers.Answer.TheVariants.{Known as Told}
use Rattle.known_ints.proofs.Answering.{told_one}
use Rattle.known_ints.specs.Answers.{IsJoin, IsToldOfAll, IsSoFar}

module _ (Is : (place : ℕ) → Answer → Type 0) (ps : List ℕ) (n : ℕ) where
  here : ℕ
  here = slice_index_or ps n 0

  -- where what is told of the place is this number, so it is of those before it
  join_number : (o : Option ℤ) → IsSoFar Is ps n o → (told : Answer) → (v : ℤ) → IsJoin o told (Told v) → (told ≡ Told v) × ((i : ℕ) → i < n → Is (slice_index_or ps i 0) (Told v))
  join_number None so told v e = (sym e, λ i lt. let none = so in absurd (omega arith))
  join_number (Some u) so (Told w) v (inl (same, e)) =
      let w_is : w ≡ v = sym (told_one v w e) in
      (ap Told w_is, λ i lt. subst (λ (z : ℤ). Is (slice_index_or ps i 0) (Told z)) (same ∙ w_is) (so.1 i lt))
  join_number (Some u) so (Told w) v (inr (apart, e)) = absurd (cc)
  join_number (Some u) so (Until w) v e = absurd (cc)
  join_number (Some u) so Never v e = absurd (cc)

  pub so_far_more : (o : Option ℤ) → IsSoFar Is ps n o → (told : Answer) → Is (slice_index_or ps n 0) told → (v : ℤ) → IsJoin o told (Told v) → IsSoFar Is ps (n + 1) (Some v)
  so_far_more o so told is v join =
      let number = join_number o so told v join in (
        omega arith,
        λ i lt. elim (cases_eq i n) [
          | inl same ↦ subst (λ (j : ℕ). Is (slice_index_or ps j 0) (Told v)) (sym same) (subst (Is (slice_index_or ps n 0)) number.0 is)
          | inr other ↦ number.1 i (omega arith)
        ],
      )

  pub so_far_all : length ps ≤ n → (v : ℤ) → IsSoFar Is ps n (Some v) → (p : ℕ) → Contains ps p → Is p (Told v)
  so_far_all past v so p has = All-contains (λ (q : ℕ). Is q (Told v)) ps p each has
    where
      each : All (λ (q : ℕ). Is q (Told v)) ps
      each k d lt = subst (λ (q : ℕ). Is q (Told v)) (get_or_default ps k 0 d lt) (so.1 k (omega arith))

  pub so_far_nothing : length ps ≤ n → IsSoFar Is ps n None → IsToldOfAll Is ps Never
  so_far_nothing past so = inr (inr (nil_from_length ps (let none = so in omega arith)))

  module _ (below : n < length ps) where
    has : Contains ps (slice_index_or ps n 0)
    has = contains_at ps n (slice_index_or ps n 0) below refl

    join_told : (told : Answer) → Is (slice_index_or ps n 0) told → ((v : ℤ) → told ≡ Told v → ⊥) → IsToldOfAll Is ps told
    join_told (Told v) is none = absurd (none v refl)
    join_told (Until w) is none = (slice_index_or ps n 0, has, is)
    join_told Never is none = inl (slice_index_or ps n 0, has, is)

    moved : (told a : Answer) → a ≡ told → Is (slice_index_or ps n 0) told → ((v : ℤ) → a ≡ Told v → ⊥) → IsToldOfAll Is ps a
    moved told a e is none = subst (IsToldOfAll Is ps) (sym e) (join_told told is (λ v same. none v (e ∙ same)))

    -- what is told of all, where it is no number
    pub join_other : (o : Option ℤ) → IsSoFar Is ps n o → (told : Answer) → Is (slice_index_or ps n 0) told → (a : Answer) → IsJoin o told a → ((v : ℤ) → a ≡ Told v → ⊥) → IsToldOfAll Is ps a
    join_other None so told is a e none = moved told a e is none
    join_other (Some u) so (Told w) is a (inl (same, e)) none = absurd (none w e)
    join_other (Some u) so (Told w) is a (inr (apart, e)) none =
        let first : 0 < length ps = omega (arith, below) in
        subst (IsToldOfAll Is ps) (sym e) (inr (inl (record {
          one = slice_index_or ps 0 0;
          other = slice_index_or ps n 0;
          v = u;
          w = w;
          one_of = contains_at ps 0 (slice_index_or ps 0 0) first refl;
          other_of = has;
          one_is = so.1 0 so.0;
          other_is = is;
          apart = apart;
        })))
    join_other (Some u) so (Until w) is a e none = moved (Until w) a e is none
    join_other (Some u) so Never is a e none = moved Never a e is none
