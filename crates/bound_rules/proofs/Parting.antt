-- What a method calls fits the cache where the method does.
use Rattle.std.proofs.Common.{◌≡◌, ℕ, zero, suc, List, [], ◌∷◌, get_or, Contains, sym, subst, inl, inr, arith}
use Rattle.std.proofs.lemmas.List.Elements.{Contains-get_or}
use Rattle.lists.specs.Members.{at_head, in_tail, cons_cases, nil_contains}
use Rattle.method_cache.specs.Contents.{blocks_for}
use Rattle.method_cache.specs.Regions.Region.{AreDistinct}
use Rattle.bytecode_model.specs.Program.{Program}
use Rattle.method_flow.specs.Regions.{IsWithin, code_words}
use Rattle.method_flow.specs.Regions.IsWithin.{calls}
use Rattle.method_flow.specs.declared.timing.Timing.{Timing}
use Rattle.bound_rules.specs.Fitting.{FitTogether}
use Rattle.bound_rules.specs.Laws.{CalledFit}
use Rattle.bound_rules.proofs.Sums.{sum_of_part, distinct_tail, first_apart}

-- those of some numbers that have a property
record ArePart (K : ℕ → Type 0) (ys zs : List ℕ) : Type 0 where
  within : (z : ℕ) → Contains zs z → Contains ys z × K z
  all : (z : ℕ) → Contains ys z → K z → Contains zs z
  distinct : AreDistinct ys → AreDistinct zs

pub distinct_with : (y : ℕ) (zs : List ℕ) → ((z : ℕ) → Contains zs z → z ≡ y → ⊥) → AreDistinct zs → AreDistinct (y ∷ zs)
distinct_with y zs apart rest zero zero d less below = λ e. let bad : ⊥ = omega arith in bad
distinct_with y zs apart rest zero (suc j) d less below = λ e. apart (get_or zs j d) (Contains-get_or zs j d (omega arith)) (sym e)
distinct_with y zs apart rest (suc i) zero d less below = λ e. let bad : ⊥ = omega arith in bad
distinct_with y zs apart rest (suc i) (suc j) d less below = rest i j d (omega arith) (omega arith)

taken : (K : ℕ → Type 0) (y : ℕ) (ys zs : List ℕ) → ArePart K ys zs → K y → ArePart K (y ∷ ys) (y ∷ zs)
taken K y ys zs part k = record {
  within = λ z has. elim (cons_cases y z zs has) [ inl here ↦ (subst (λ (w : ℕ). Contains (y ∷ ys) w × K w) here (at_head y ys, k)) | inr there ↦ (let p = part.within z there in (in_tail y z ys p.0, p.1)) ];
  all = λ z has kz. elim (cons_cases y z ys has) [ inl here ↦ subst (λ (w : ℕ). Contains (y ∷ zs) w) here (at_head y zs) | inr there ↦ in_tail y z zs (part.all z there kz) ];
  distinct = λ apart. distinct_with y zs (λ z has. first_apart y z ys apart (part.within z has).0) (part.distinct (distinct_tail y ys apart));
}

left : (K : ℕ → Type 0) (y : ℕ) (ys zs : List ℕ) → ArePart K ys zs → (K y → ⊥) → ArePart K (y ∷ ys) zs
left K y ys zs part none = record {
  within = λ z has. (let p = part.within z has in (in_tail y z ys p.0, p.1));
  all = λ z has kz. elim (cons_cases y z ys has) [ inl here ↦ absurd (none (subst K (sym here) kz)) | inr there ↦ part.all z there kz ];
  distinct = λ apart. part.distinct (distinct_tail y ys apart);
}

-- it can't be that there are no such numbers
some_part : (K : ℕ → Type 0) (ys : List ℕ) → ((zs : List ℕ) → ArePart K ys zs → ⊥) → ⊥
some_part K [] never = never [] (record { within = λ z has. absurd (nil_contains z has); all = λ z has k. has; distinct = λ apart. apart })
some_part K (y ∷ ys) never = some_part K ys (λ zs part. never zs (left K y ys zs part (λ k. never (y ∷ zs) (taken K y ys zs part k))))

-- what is part of methods that fit together fits, too
pub part_fits : (P : Program) (t : Timing) (L K : ℕ → Type 0) → FitTogether P t L → ((z : ℕ) → K z → L z) → (FitTogether P t K → ⊥) → ⊥
part_fits P t L K fits inside never =
    some_part K fits.methods
    (λ zs part. never (record {
      methods = zs;
      are = record { distinct = part.distinct fits.are.distinct; each = λ z. (λ has. (part.within z has).1, λ k. part.all z ((fits.are.each z).1 (inside z k)) k) };
      fit = (let less = sum_of_part (λ y. blocks_for t.block_words (code_words P y)) zs fits.methods (part.distinct fits.are.distinct) (λ z has. (part.within z has).0) in let fit = fits.fit in omega arith);
    }))

pub called_fit : CalledFit
called_fit P t m x fits call never = part_fits P t (IsWithin P m) (IsWithin P x) fits (λ z within. calls call.place call.start call.call call.is_target within) never
