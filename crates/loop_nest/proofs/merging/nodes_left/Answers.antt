use Rattle.std.proofs.Common.{◌≡◌, ℕ, ◌+◌, ◌<◌, Bool, cond, eqb, [], ◌∷◌, ◌++◌, suc, filter, length, get_or, sym, ap, ◌∙◌, arith}
use Rattle.std.specs.List.{range_with_len}
use Rattle.std.proofs.lemmas.Bool.{eq-eqb, ne_eqb}
use Rattle.std.proofs.lemmas.List.{get_or_default, append-nil}
use Rattle.loop_nest.specs.Entered.{class_of}
use Rattle.loop_nest.proofs.Classes.{entry_stays}
use Rattle.loop_nest.proofs.ClassLists.{filter_range_more}
use Rattle.loop_nest.proofs.merging.nodes_left.Goals as goal
use Rattle.loop_nest.proofs.merging.nodes_left.Goals.{then-class-u+in_ok-push, else-class-u}

pub loop-u-init : goal.loop-u-init
loop-u-init c =
    let class = c.args.class.now in
    ap (λ b. cond b (0 ∷ []) []) (eq-eqb (class_of class 0) 0 (entry_stays c.requires.merged))
    ∙ ap (λ ls. 0 ∷ ls) (sym c.new-left.ensures.items)

pub loop-u-preserved : goal.loop-u-preserved
loop-u-preserved c =
    let class = c.args.class.now in
    let u = c.loop-u.u in
    let long = c.requires.long in
    let valid = c.nodes-u-end.ensures.nodes in
    let lt : u < length class = omega arith in
    let p : ℕ → Bool = λ a. eqb (class_of class a) a in
    let at : get_or class u 0 ≡ class_of class u = get_or_default class u 0 u lt in
    let more : filter p (range_with_len 0 (u + 1)) ≡ filter p (range_with_len 0 u) ++ cond (p u) (u ∷ []) [] =
    ap (λ (k : ℕ). filter p (range_with_len 0 k)) (let e : u + 1 ≡ suc u = omega arith in e) ∙ filter_range_more p 0 u
    ∙ ap (λ (k : ℕ). filter p (range_with_len 0 u) ++ cond (p k) (k ∷ []) []) (let e : 0 + u ≡ u = omega arith in e) in
    let left = c.loop-u.left.items in
    let start = more ∙ ap (λ ls. ls ++ cond (p u) (u ∷ []) []) c.loop-u.invariant in
    elim c.if-class-u.branch [
      | then-class-u+in_ok-push w ↦
          start ∙ ap (λ b. 0 ∷ (left ++ cond b (u ∷ []) [])) (eq-eqb (class_of class u) u (sym at ∙ w.if-class-u.true))
          ∙ ap (λ ls. 0 ∷ ls) (sym w.in_ok-push.ensures.items ∙ ap (λ v. v.items) (sym w.left-is))
      | else-class-u w ↦
          start ∙ ap (λ b. 0 ∷ (left ++ cond b (u ∷ []) [])) (ne_eqb (class_of class u) u (λ e. w.if-class-u.false (at ∙ e)))
          ∙ ap (λ ls. 0 ∷ ls) (append-nil left ∙ ap (λ v. v.items) (sym w.left-is))
    ]

pub returns : goal.returns
returns c =
    let class = c.args.class.now in
    let long = c.requires.long in
    let nodes = c.nodes-u-end.ensures.nodes in
    let entry = c.nodes-u-end.ensures.valid.entry in
    let last : length class ≡ c.loop-u.u = omega arith in
    ap (λ (k : ℕ). filter (λ a. eqb (class_of class a) a) (range_with_len 0 k)) last ∙ c.loop-u.invariant
