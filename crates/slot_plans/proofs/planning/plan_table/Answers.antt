use Rattle.std.proofs.Common.{ℕ, ◌≤◌, List, length, sym, ◌∙◌, ap, subst, inr, arith}
use Rattle.std.specs.Prelude.{Vec}
use Rattle.std.specs.declared.alloc.Global.{Global}
use Rattle.base.specs.Sizes.{longest_file}
use Rattle.outside.specs.Files.{contents}
use Rattle.endings.specs.Line.{text_of_word}
use Rattle.slot_plans.specs.Planning.{AnswersPlan}
use Rattle.endings.proofs.Behind.{kept}
use Rattle.endings.proofs.Texts.{short_at}
use Rattle.slot_plans.proofs.planning.plan_table.Goals as goal

pub plan_linked-answer-requires-clause-short : goal.plan_linked-answer-requires-clause-short
plan_linked-answer-requires-clause-short c =
    let S : List ℕ → Type 0 = λ text. length text ≤ longest_file in
    let there = c.requires.there in
    let same = kept c.args.table.now c.args.rounds c.args.operands.now.items c.link_behind.new.operands.items c.in-Ok.ensures.behind 1 (omega (arith, there)) in
    let text = c.operand_text-bounds.ensures ∙ (ap (λ (fs : List (Vec ℕ Global)). text_of_word (contents fs) 1) c.deref.ensures.value ∙ same) in
    subst S (sym text) (short_at longest_file c.args.operands.now.items c.requires.short 1)

pub returns-in-Ok : goal.returns-in-Ok
returns-in-Ok c =
    let there = c.requires.there in
    let same = kept c.args.table.now c.args.rounds c.args.operands.now.items c.link_behind.new.operands.items c.in-Ok.ensures.behind 1 (omega (arith, there)) in
    let text = c.operand_text-bounds.ensures ∙ (ap (λ (fs : List (Vec ℕ Global)). text_of_word (contents fs) 1) c.deref.ensures.value ∙ same) in
    let A : List ℕ → Type 0 = λ t. AnswersPlan c.in-Ok.linked.classes c.args.settings.now c.args.table.now t c.plan_linked-answer.result in
    inr (record {
      slots = c.args.table.now;
      linked = c.in-Ok.linked;
      readied = record { read = c.requires.read; linked = c.in-Ok.ensures.linked };
      answers = subst A text c.plan_linked-answer.ensures;
    })
