use Rattle.std.proofs.Common.{◌≡◌, ℕ, ◌+◌, ◌<◌, List, [], ◌∷◌, ◌++◌, length, get_or, All, sym, ap, ◌∙◌, subst, inl, inr, arith}
use Rattle.std.proofs.lemmas.Bool.{cases_lt}
use Rattle.std.proofs.lemmas.List.{get_or_append_left, get_or_push, length_push}
use Rattle.std.proofs.lemmas.List.Elements.{All-push}
use Rattle.loop_nest.specs.Entered.{class_of}
use Rattle.loop_nest.specs.Pointers.{IsNameOf}
use Rattle.loop_nest.proofs.passes.names.Goals as goal

more : (P : ℕ → ℕ → Type 0) (class : List ℕ) (u name : ℕ) → length class ≡ u → P u name → ((k : ℕ) → k < u → P k (get_or class k k)) → (k : ℕ) → k < u + 1 → P k (get_or (class ++ name ∷ []) k k)
more P class u name long new old k lt =
    elim (cases_lt k u) [
      | inl less ↦ let Q : ℕ → Type 0 = λ z. P k z in subst Q (sym (get_or_append_left class (name ∷ []) k k (omega arith))) (old k less)
      | inr not_less ↦
          let same : u ≡ k = omega arith in
          let Q : ℕ → Type 0 = λ z. P k z in
          let R : ℕ → Type 0 = λ z. P z name in
          subst Q (sym (get_or_push class name k k (omega arith))) (subst R same new)
    ]

pub loop-u-preserved : goal.loop-u-preserved
loop-u-preserved c =
    let into = c.args.into.now in
    let u = c.loop-u.u in
    let class = c.loop-u.class.items in
    let inv = c.loop-u.invariant in
    let name = c.look.result in
    let long = inv.long in
    let P : List ℕ → Type 0 = λ ls. All (λ a. a < length into) ls in
    let Q : List ℕ → Type 0 = λ ls. (k : ℕ) → k < u + 1 → IsNameOf into k (get_or ls k k) in
    let R : List ℕ → Type 0 = λ ls. (k : ℕ) → k < u + 1 → class_of into (get_or ls k k) ≡ get_or ls k k in
    let is = sym c.in_ok-push.ensures.items in
    record {
      long = ap length c.in_ok-push.ensures.items ∙ length_push class name ∙ (let e : length class + 1 ≡ u + 1 = omega arith in e);
      within = subst P is (All-push (λ a. a < length into) class name inv.within c.look.ensures.below);
      each = subst Q is (more (λ k z. IsNameOf into k z) class u name long c.look.ensures.name inv.each);
      left = subst R is (more (λ k z. class_of into z ≡ z) class u name long c.look.ensures.left inv.left);
    }
