use Rattle.std.proofs.Common.{◌≡◌, ℕ, ◌+◌, ◌<◌, false, List, [], ◌∷◌, ◌++◌, get_or, All, Contains, sym, ap, ◌∙◌, subst, inl, inr, arith}
use Rattle.std.proofs.lemmas.Bool.{cases_lt}
use Rattle.std.proofs.lemmas.List.{get_or_default}
use Rattle.std.proofs.lemmas.List.Elements.{All-push, Contains-append_left, Contains-push}
use Rattle.loop_nest.specs.Pointers.{AreFlags}
use Rattle.loop_nest.proofs.passes.with_others.Goals as goal
use Rattle.loop_nest.proofs.passes.with_others.Goals.{then-not-index+in_ok-push, else-not-index}

-- one node more is among all
more : (all : List ℕ) (u v : ℕ) → v < u + 1 → Contains all u → ((k : ℕ) → k < u → Contains all k) → Contains all v
more all u v lt has each =
    elim (cases_lt v u) [
      | inl less ↦ each v less
      | inr not_less ↦ let same : u ≡ v = omega arith in let P : ℕ → Type 0 = λ z. Contains all z in subst P same has
    ]

pub loop-u-preserved : goal.loop-u-preserved
loop-u-preserved c =
    let u = c.loop-u.u in
    let n = c.args.nodes in
    let order = c.args.order.items in
    let all = c.loop-u.all.items in
    let inv = c.loop-u.invariant in
    let lt = c.loop-u-test.true in
    let flags = c.in_ok-among.among.items in
    let F : List ℕ → Type 0 = λ ls. AreFlags ls n flags in
    let f = subst F c.deref.ensures.value c.in_ok-among.ensures in
    let long = f.long in
    let flag : get_or flags u false ≡ c.index.result.now = get_or_default flags u false c.index.result.now (omega arith) ∙ sym c.index.ensures in
    elim c.if-not-index.branch [
      | then-not-index+in_ok-push w ↦
          let is : c.if-not-index.all.items ≡ all ++ u ∷ [] = ap (λ v. v.items) w.all-is ∙ w.in_ok-push.ensures.items in
          let P : List ℕ → Type 0 = λ ls. All (λ v. v < n) ls in
          let Q : List ℕ → Type 0 = λ ls. (v : ℕ) → Contains order v → Contains ls v in
          let R : List ℕ → Type 0 = λ ls. (v : ℕ) → v < u + 1 → Contains ls v in
          record {
            within = subst P (sym is) (All-push (λ v. v < n) all u inv.within lt);
            kept = subst Q (sym is) (λ v has. Contains-append_left all (u ∷ []) v (inv.kept v has));
            each = subst R (sym is) (λ v below. more (all ++ u ∷ []) u v below (Contains-push all u) (λ k less. Contains-append_left all (u ∷ []) k (inv.each k less)));
          }
      | else-not-index w ↦
          let is : c.if-not-index.all.items ≡ all = ap (λ v. v.items) w.all-is in
          let P : List ℕ → Type 0 = λ ls. All (λ v. v < n) ls in
          let Q : List ℕ → Type 0 = λ ls. (v : ℕ) → Contains order v → Contains ls v in
          let R : List ℕ → Type 0 = λ ls. (v : ℕ) → v < u + 1 → Contains ls v in
          record {
            within = subst P (sym is) inv.within;
            kept = subst Q (sym is) inv.kept;
            each = subst R (sym is) (λ v below. more all u v below (inv.kept u ((f.each u).0 (flag ∙ w.if-not-index.false))) inv.each);
          }
    ]
