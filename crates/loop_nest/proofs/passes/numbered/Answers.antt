use Rattle.std.proofs.Common.{◌≡◌, ℕ, ◌+◌, ◌<◌, ◌↔◌, List, [], ◌∷◌, ◌++◌, length, Contains, sym, ap, ◌∙◌, subst, inl, inr, arith}
use Rattle.std.proofs.lemmas.Bool.{cases_lt}
use Rattle.std.proofs.lemmas.List.Elements.{Contains-append_left, Contains-push, Contains-push_cases}
use Rattle.loop_nest.specs.Entered.{edge_at}
use Rattle.loop_nest.proofs.passes.numbered.Goals as goal

numbered_more : (es numbered : List (ℕ × ℕ)) (n : ℕ) → ((i v : ℕ) → Contains numbered (i, v) ↔ ((i < n) × ((edge_at es i).1 ≡ v))) → (i v : ℕ) → Contains (numbered ++ (n, (edge_at es n).1) ∷ []) (i, v) ↔ ((i < n + 1) × ((edge_at es i).1 ≡ v))
numbered_more es numbered n h i v =
    let e : ℕ × ℕ = (n, (edge_at es n).1) in (
      λ has.
          elim (Contains-push_cases numbered e (i, v) has) [
            | inl old ↦ let r = (h i v).0 old in let lt = r.0 in (omega arith, r.1)
            | inr same ↦
                let at : n ≡ i = ap (λ z. z.0) same in
                (omega arith, ap (λ (k : ℕ). (edge_at es k).1) (sym at) ∙ ap (λ z. z.1) same)
          ],
      λ r.
          elim (cases_lt i n) [
            | inl less ↦ Contains-append_left numbered (e ∷ []) (i, v) ((h i v).1 (less, r.1))
            | inr not_less ↦
                let lt = r.0 in
                let at : n ≡ i = omega arith in
                let P : ℕ → Type 0 = λ k. Contains (numbered ++ e ∷ []) (k, (edge_at es k).1) in
                let Q : ℕ → Type 0 = λ z. Contains (numbered ++ e ∷ []) (i, z) in
                subst Q r.1 (subst P at (Contains-push numbered e))
          ],
    )

pub loop-i-preserved : goal.loop-i-preserved
loop-i-preserved c = λ i v.
    let P : List (ℕ × ℕ) → Type 0 = λ ls. Contains ls (i, v) ↔ ((i < c.loop-i.i + 1) × ((edge_at c.args.edges.now i).1 ≡ v)) in
    subst P (sym c.in_ok-push.ensures.items) (numbered_more c.args.edges.now c.loop-i.numbered.items c.loop-i.i c.loop-i.invariant i v)

pub returns : goal.returns
returns c = λ i v.
    let n : c.loop-i.i ≡ length c.args.edges.now = let e = c.loop-i.auto.i-end in let f = c.loop-i-test.false in omega arith in
    let P : ℕ → Type 0 = λ k. Contains c.loop-i.numbered.items (i, v) ↔ ((i < k) × ((edge_at c.args.edges.now i).1 ≡ v)) in
    subst P n (c.loop-i.invariant i v)
