use Rattle.std.proofs.Common.{◌≡◌, ℕ, ◌+◌, ◌-◌, List, ◌∙◌, ap, arith}
use Rattle.std.proofs.Math.ListN.{set}
use Rattle.jop_core.proofs.ResetWords.{filled, filled-begin, filled-more, filled-end, IsSize-least}
use Rattle.jop_core.proofs.machine.reset.reset_stack.Goals as goal

pub loop-k-init : goal.loop-k-init
loop-k-init g c =
    let limit_is : c.limit.result ≡ g.row.N - 80 = omega (arith, c.limit.ensures.limit) in
    c.write-7.ensures.after
    ∙ ap (λ (w : List ℕ). set w 30 c.args.boot.raise_list) (c.write-6.ensures.after
    ∙ ap (λ (w : List ℕ). set w 29 c.limit.result) (c.write-5.ensures.after
    ∙ ap (λ (w : List ℕ). set w 28 c.args.boot.frame) (c.write-4.ensures.after
    ∙ ap (λ (w : List ℕ). set w 27 c.args.config.memory) (c.write-3.ensures.after
    ∙ ap (λ (w : List ℕ). set w 26 c.args.image_words) (c.write-2.ensures.after
    ∙ ap (λ (w : List ℕ). set w 25 c.args.boot.place) (c.write.ensures.after
    ∙ ap (λ (w : List ℕ). set w 24 c.args.boot.pool) c.in_ok-stack.ensures))))))
    ∙ filled-begin g.row.N c.args.config.memory c.args.image_words c.limit.result c.args.boot c.requires limit_is

pub loop-k-preserved : goal.loop-k-preserved
loop-k-preserved g c =
    c.write-in-loop-k.ensures.after
    ∙ ap (λ (w : List ℕ). set w (32 + c.loop-k.k) c.constant.result) c.loop-k.invariant
    ∙ filled-more g.row.N c.args.config.memory c.args.image_words c.args.boot c.loop-k.k c.constant.result (IsSize-least g.row.N c.requires) c.loop-k-test.true c.constant.ensures

pub returns : goal.returns
returns g c =
    let all : c.loop-k.k ≡ 32 = omega arith in
    c.loop-k.invariant ∙ ap (filled g.row.N c.args.config.memory c.args.image_words c.args.boot) all ∙ filled-end g.row.N c.args.config.memory c.args.image_words c.args.boot
