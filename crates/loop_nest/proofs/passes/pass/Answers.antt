use Rattle.std.proofs.Common.{◌≡◌, ℕ, ◌<◌, ◌≤◌, Bool, true, false, List, length, get_or, take, Contains, refl, sym, ap, ◌∙◌, subst, inl, inr, arith}
use Rattle.std.specs.Bool.{OnTrue, OnFalse}
use Rattle.std.proofs.lemmas.Bool.{both_ways, MatchBool-at_true, MatchBool-at_false}
use Rattle.std.proofs.lemmas.List.{take_more, take_all}
use Rattle.std.proofs.lemmas.List.Elements.{Contains-push_cases}
use Rattle.loop_nest.specs.Entered.{names}
use Rattle.loop_nest.specs.Pointers.{CannotMerge}
use Rattle.loop_nest.proofs.passes.pass.Goals as goal
use Rattle.loop_nest.proofs.passes.pass.Goals.{then-merge_one, else-merge_one}

-- nothing or something was merged before
no_more : (merged : Bool) (new old start : List ℕ) → length (names new) ≤ length (names old) → (merged ≡ true → length (names old) < length (names start)) → merged ≡ true → length (names new) < length (names start)
no_more merged new old start less before is = let b = before is in omega arith

at_most : (merged : Bool) (old start : List ℕ) → (merged ≡ true → length (names old) < length (names start)) → (merged ≡ false → old ≡ start) → length (names old) ≤ length (names start)
at_most true old start fewer kept = let f = fewer refl in omega arith
at_most false old start fewer kept = let e = ap (λ ls. length (names ls)) (kept refl) in omega arith

pub loop-x-preserved : goal.loop-x-preserved
loop-x-preserved c =
    let g = c.args.g.now in
    let start = c.args.into.now in
    let old = c.loop-x.into in
    let new' = c.merge_one.new.into in
    let order = c.args.order.now in
    let i = c.loop-x.x-index in
    let x = get_or order i 0 in
    let lt = c.loop-x-test.true in
    let inv = c.loop-x.invariant in
    let h = c.merge_one.ensures in
    elim c.if-merge_one.branch [
      | then-merge_one w ↦
          let fell = MatchBool-at_true _ _ w.if-merge_one.true h.fewer in
          let most = at_most c.loop-x.merged old start inv.fewer inv.kept in
          record {
            pointers = h.pointers;
            fewer = λ _. omega arith;
            kept = λ is. absurd (both_ways c.if-merge_one.merged is w.merged-is);
            none = λ is. absurd (both_ways c.if-merge_one.merged is w.merged-is);
          }
      | else-merge_one w ↦
          let same : new' ≡ old = MatchBool-at_false _ _ w.if-merge_one.false h.kept in
          let e = ap (λ ls. length (names ls)) same in
          let left : CannotMerge g old x = MatchBool-at_false _ _ w.if-merge_one.false h.none in
          record {
            pointers = h.pointers;
            fewer = λ is. no_more c.loop-x.merged new' old start (omega arith) inv.fewer (sym w.merged-is ∙ is);
            kept = λ is. same ∙ inv.kept (sym w.merged-is ∙ is);
            none = λ is y has.
                let before = inv.none (sym w.merged-is ∙ is) in
                let P : List ℕ → Type 0 = λ ls. Contains ls y in
                elim (Contains-push_cases (take i order) x y (subst P (take_more order i 0 lt) has)) [
                  | inl earlier ↦ before y earlier
                  | inr now' ↦
                      let Q : List ℕ → Type 0 = λ ls. CannotMerge g ls x in
                      let R : ℕ → Type 0 = λ z. CannotMerge g start z in
                      subst R now' (subst Q (inv.kept (sym w.merged-is ∙ is)) left)
                ];
          }
    ]

on_true : (b : Bool) (P : Type 0) → (b ≡ true → P) → OnTrue b P
on_true true P h = h refl
on_true false P h = tt

on_false : (b : Bool) (P : Type 0) → (b ≡ false → P) → OnFalse b P
on_false true P h = tt
on_false false P h = h refl

pub returns : goal.returns
returns c =
    let inv = c.loop-x.invariant in
    let order = c.args.order.now in
    record {
      pointers = inv.pointers;
      fewer = on_true c.loop-x.merged _ inv.fewer;
      kept = on_false c.loop-x.merged _ inv.kept;
      none = on_false c.loop-x.merged _ (λ is x has.
          let P : List ℕ → Type 0 = λ ls. Contains ls x in
          inv.none is x (subst P (sym (take_all c.loop-x.x-index order c.loop-x-test.false)) has));
    }
