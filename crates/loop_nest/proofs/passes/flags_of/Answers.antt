use Rattle.std.proofs.Common.{◌≡◌, ℕ, ◌<◌, Bool, true, false, List, [], ◌∷◌, ◌++◌, get_or, set, take, replicate, Contains, sym, ap, ◌∙◌, subst, inl, inr, arith}
use Rattle.std.proofs.lemmas.Bool.{cases_eq, both_ways}
use Rattle.std.proofs.lemmas.List.{length-set, get_or-set_same, get_or-set_other, take_more, take_all}
use Rattle.std.proofs.lemmas.List.Elements.{All-get_or, Contains-append_left, Contains-push, Contains-push_cases}
use Rattle.lists.specs.Members.{nil_contains}
use Rattle.loop_nest.specs.Pointers.{AreFlags}
use Rattle.loop_nest.proofs.Searching.{same_everywhere}
use Rattle.loop_nest.proofs.passes.flags_of.Goals as goal

more : (us : List ℕ) (n v : ℕ) (flags : List Bool) → v < n → AreFlags us n flags → AreFlags (us ++ v ∷ []) n (set flags v true)
more us n v flags lt h =
    let long = h.long in
    record {
      long = length-set flags v true ∙ long;
      each = λ u.
          elim (cases_eq u v) [
            | inl same ↦ (
              λ _. let P : ℕ → Type 0 = λ z. Contains (us ++ v ∷ []) z in subst P (sym same) (Contains-push us v),
              λ _. ap (λ (z : ℕ). get_or (set flags v true) z false) same ∙ get_or-set_same flags v true false (omega arith),
            )
            | inr other ↦
                let value = get_or-set_other flags v u true false other in (
                  λ t. Contains-append_left us (v ∷ []) u ((h.each u).0 (sym value ∙ t)),
                  λ has. elim (Contains-push_cases us v u has) [ inl old ↦ value ∙ (h.each u).1 old | inr same ↦ absurd (other (sym same)) ],
                )
          ];
    }

pub loop-u-init : goal.loop-u-init
loop-u-init c =
    let flags = c.in_ok-flags.flags in
    let n = c.args.nodes in
    let all : flags.items ≡ replicate n false = c.in_ok-flags.ensures.items_if_clones_equal (λ y h. h) in
    let none : (u : ℕ) → get_or flags.items u false ≡ false = λ u. ap (λ (bs : List Bool). get_or bs u false) all ∙ same_everywhere n u false in
    let ok = flags.ok in
    let few = c.in_ok-flags.ensures.len in
    record {
      long = omega (arith, ok.0);
      each = λ u. (λ at. absurd (both_ways (get_or flags.items u false) (none u) at), λ has. absurd (nil_contains u has));
    }

pub loop-u-preserved : goal.loop-u-preserved
loop-u-preserved c =
    let us = c.args.us.now in
    let i = c.loop-u.u-index in
    let lt = c.loop-u-test.true in
    let v = get_or us i 0 in
    let below : v < c.args.nodes = All-get_or (λ (u : ℕ). u < c.args.nodes) us i 0 lt c.requires in
    let P : List ℕ → Type 0 = λ ls. AreFlags ls c.args.nodes (set c.loop-u.flags.items v true) in
    subst P (sym (take_more us i 0 lt)) (more (take i us) c.args.nodes v c.loop-u.flags.items below c.loop-u.invariant)

pub returns : goal.returns
returns c =
    let P : List ℕ → Type 0 = λ ls. AreFlags ls c.args.nodes c.loop-u.flags.items in
    subst P (take_all c.loop-u.u-index c.args.us.now c.loop-u-test.false) c.loop-u.invariant
