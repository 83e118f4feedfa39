use Rattle.std.proofs.Common.{◌≡◌, ◌≢◌, ℕ, List, [], ◌∷◌, ◌++◌, take, get_or, Option, None, Vec, sym, ap, ◌∙◌, subst}
use Rattle.std.proofs.lemmas.List.{take_more}
use Rattle.method_bounds.specs.Sorting.{ArePicked}
use Rattle.method_bounds.specs.Sorting.ArePicked.{none, free, caused}
use Rattle.method_bounds.proofs.Sorts.{none_by, some_by}
use Rattle.method_bounds.proofs.sorting.without_cause.Goals as goal
use Rattle.method_bounds.proofs.sorting.without_cause.Goals.{then-is_none+in_ok-push, else-is_none}

pub loop-m-init : goal.loop-m-init
loop-m-init c =
    let A : List ℕ → Type 0 = λ xs. ArePicked c.args.causes.now [] xs in
    subst A (sym c.new-picked.ensures.items) none

pub loop-m-preserved : goal.loop-m-preserved
loop-m-preserved c =
    let causes = c.args.causes.now in
    let order = c.args.order.now in
    let i = c.loop-m.m-index in
    let m = get_or order i 0 in
    let was = c.loop-m.invariant in
    let O : List ℕ → Type 0 = λ ms. ArePicked causes ms c.if-is_none.picked.items in
    let A : List ℕ → Type 0 = λ xs. ArePicked causes (take i order ++ m ∷ []) xs in
    subst O (sym (take_more order i 0 c.loop-m-test.true))
    (elim c.if-is_none.branch [
      | then-is_none+in_ok-push w ↦
          subst A (sym (ap (λ (v : Vec ℕ _). v.items) w.picked-is ∙ w.in_ok-push.ensures.items)) (free m was (none_by (get_or causes m None) c.is_none.result c.is_none.ensures w.if-is_none.true))
      | else-is_none w ↦ subst A (sym (ap (λ (v : Vec ℕ _). v.items) w.picked-is)) (caused m was (some_by (get_or causes m None) c.is_none.result c.is_none.ensures w.if-is_none.false))
    ])
