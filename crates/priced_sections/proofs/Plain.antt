-- Without prices the conditions on a section and its value are as they were.
use Rattle.std.proofs.Common.{◌≡◌, ℕ, ◌^◌, ◌-◌, ◌<◌, ℤ, pos, negsuc, Bool, true, false, List, [], slice_index, Option, Some, None, refl, sym, ap, ◌∙◌, subst, inl, inr, arith}
use Rattle.std.specs.Prelude.{◌+ℤ◌, ◌<ℤ◌, option_map, IfSome}
use Rattle.std.proofs.lemmas.Bool.{cases_lt}
use Rattle.std.proofs.lemmas.Int.{ints}
use Rattle.lists.specs.Members.{nil_contains}
use Rattle.section_check.specs.Bounded.{holds}
use Rattle.section_check.specs.Section.{Certified, PricedLoop, priced, headed_by, headed_fee, potential, with_fee, start_value}
use Rattle.section_check.specs.Placing.IsMisplaced.{exceeds_limit}
use Rattle.section_check.specs.Conditions.{DescendsTo, DescendsFrom, CoversCost, natural_of}
use Rattle.priced_sections.specs.Prices.{with_due, with_dues}
use Rattle.priced_sections.specs.Paid.{PaysTo, PaysFrom, CoversWith, at_least_zero}
use Rattle.priced_sections.specs.Laws.{PlainIsPaid, PlainValueIsPaid}
use Rattle.priced_sections.proofs.Headed.{headed_with}

abbrev plainly : Option PricedLoop → Option PricedLoop
plainly o = option_map (with_due []) o

plain_to : (b : Bool) (l : PricedLoop) (cost : ℕ) (p q : ℤ) → PaysTo b (with_due [] l) cost 0 p q → DescendsTo b l cost p q
plain_to true l cost p q h = omega (arith, ints)
plain_to false l cost p q h = omega (arith, ints)

plain_back : (b : Bool) (l : PricedLoop) (cost : ℕ) (p q : ℤ) → DescendsTo b l cost p q → PaysTo b (with_due [] l) cost 0 p q
plain_back true l cost p q h = omega (arith, ints)
plain_back false l cost p q h = omega (arith, ints)

edge_to : (o : Option PricedLoop) (cost u : ℕ) (a b : Option ℤ) → PaysFrom (plainly o) cost 0 u a b → DescendsFrom o cost u a b
edge_to o cost u a None h = tt
edge_to o cost u None (Some q) h = h
edge_to None cost u (Some p) (Some q) h = omega (arith, ints)
edge_to (Some l) cost u (Some p) (Some q) h = plain_to (holds l.certified.members u) l cost p q h

edge_back : (o : Option PricedLoop) (cost u : ℕ) (a b : Option ℤ) → DescendsFrom o cost u a b → PaysFrom (plainly o) cost 0 u a b
edge_back o cost u a None h = tt
edge_back o cost u None (Some q) h = h
edge_back None cost u (Some p) (Some q) h = omega (arith, ints)
edge_back (Some l) cost u (Some p) (Some q) h = plain_back (holds l.certified.members u) l cost p q h

exit_to : (cost : ℕ) (o : Option ℤ) → CoversWith cost 0 o → CoversCost cost o
exit_to cost None h = h
exit_to cost (Some p) h = omega (arith, ints)

exit_back : (cost : ℕ) (o : Option ℤ) → CoversCost cost o → CoversWith cost 0 o
exit_back cost None h = h
exit_back cost (Some p) h = omega (arith, ints)

plain_fee : (o : Option PricedLoop) → headed_fee (plainly o) ≡ headed_fee o
plain_fee None = refl
plain_fee (Some l) = omega arith

plain_start : (c : Certified) (ls : List PricedLoop) → start_value c (with_dues [] ls) ≡ start_value c ls
plain_start c ls = ap (λ (n : ℕ). with_fee (potential c.nodes 0) n) (ap (λ (o : Option PricedLoop). headed_fee o) (headed_with [] 0 ls) ∙ plain_fee (headed_by 0 ls))

small_value : (o : Option ℤ) → ((z : ℤ) → o ≡ Some z → pos (2 ^ 64 - 1) <ℤ z → ⊥) → IfSome (option_map (λ z. at_least_zero (z +ℤ pos 0)) o) (λ n. n < 2 ^ 64)
small_value None never = tt
small_value (Some z) never =
    let go : (w : ℤ) → w ≡ z +ℤ pos 0 → at_least_zero w < 2 ^ 64 =
    elim [
      | pos n ↦ λ is. elim (cases_lt n (2 ^ 64)) [ inl less ↦ less | inr more ↦ absurd (never z refl (omega (arith, ints))) ]
      | negsuc n ↦ λ is. omega arith
    ]
    in
    go (z +ℤ pos 0) refl

pub plain_is_paid : PlainIsPaid
plain_is_paid g costs back c bounds loads zero_back =
    let ls = priced c.loops bounds loads in (
      (λ paid. record {
        placed = paid.nodes.placed;
        edges = λ u v e.
            let P : ℕ → Type 0 = λ k. PaysFrom (headed_by v (with_dues [] ls)) (slice_index costs u) k u (potential c.nodes u) (potential c.nodes v) in
            let Q : Option PricedLoop → Type 0 = λ o. PaysFrom o (slice_index costs u) 0 u (potential c.nodes u) (potential c.nodes v) in
            edge_to (headed_by v ls) (slice_index costs u) u (potential c.nodes u) (potential c.nodes v) (subst Q (headed_with [] v ls) (subst P (zero_back u) (paid.edges u v e)));
        exits = λ u at.
            let P : ℕ → Type 0 = λ k. CoversWith (slice_index costs u) k (potential c.nodes u) in
            exit_to (slice_index costs u) (potential c.nodes u) (subst P (zero_back u) (paid.exits u at));
      }),
      (λ accepted. record {
        nodes = record {
          placed = accepted.placed;
          held = λ f h has is. absurd (nil_contains f has);
          small =
              let P : Option ℤ → Type 0 = λ o. IfSome (option_map (λ z. at_least_zero (z +ℤ pos 0)) o) (λ n. n < 2 ^ 64) in
              subst P (sym (plain_start c ls)) (small_value (start_value c ls) (λ z is more. accepted.placed 0 (exceeds_limit refl (record { value = z; is = is; exceeds = more }))));
        };
        edges = λ u v e.
            let P : ℕ → Type 0 = λ k. PaysFrom (headed_by v (with_dues [] ls)) (slice_index costs u) k u (potential c.nodes u) (potential c.nodes v) in
            let Q : Option PricedLoop → Type 0 = λ o. PaysFrom o (slice_index costs u) 0 u (potential c.nodes u) (potential c.nodes v) in
            subst P (sym (zero_back u)) (subst Q (sym (headed_with [] v ls)) (edge_back (headed_by v ls) (slice_index costs u) u (potential c.nodes u) (potential c.nodes v) (accepted.edges u v e)));
        exits = λ u at.
            let P : ℕ → Type 0 = λ k. CoversWith (slice_index costs u) k (potential c.nodes u) in
            subst P (sym (zero_back u)) (exit_back (slice_index costs u) (potential c.nodes u) (accepted.exits u at));
      }),
    )

value_from : (o : Option ℤ) (n : ℕ) → natural_of o ≡ Some n → option_map (λ z. at_least_zero (z +ℤ pos 0)) o ≡ Some n
value_from None n is = absurd (let bad : ⊥ = cc in bad)
value_from (Some (pos m)) n is =
    let same : pos m +ℤ pos 0 ≡ pos m = omega (arith, ints) in
    ap (λ (z : ℤ). Some (at_least_zero z)) same ∙ is
value_from (Some (negsuc m)) n is = absurd (let bad : ⊥ = cc in bad)

pub plain_value_is_paid : PlainValueIsPaid
plain_value_is_paid c bounds loads n is =
    let ls = priced c.loops bounds loads in
    ap (λ (o : Option ℤ). option_map (λ z. at_least_zero (z +ℤ pos 0)) o) (plain_start c ls) ∙ value_from (start_value c ls) n is
