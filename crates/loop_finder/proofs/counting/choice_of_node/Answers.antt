use Rattle.std.proofs.Common.{◌≡◌, ℕ, ◌*◌, ◌/◌, List, None, sym, ap, ◌∙◌, subst, arith}
use Rattle.section_check.specs.Least.{IsLeast}
use Rattle.loop_acts.specs.declared.effects.Act.{Act}
use Rattle.loop_acts.specs.Acts.{act_at}
use Rattle.loop_finder.specs.Counting.{Body, CountsByNode, IsChoiceOf}
use Rattle.loop_finder.proofs.Choosing.{least_by_node}
use Rattle.loop_finder.proofs.Choices.{odd_counts, no_test}
use Rattle.loop_finder.proofs.counting.choice_of_node.Goals as goal

pub returns-then-node-eq1-clause-choice : goal.returns-then-node-eq1-clause-choice
returns-then-node-eq1-clause-choice c marks before = odd_counts c.args.body.now c.args.marks.now.header c.args.node c.if-node-eq1.true

pub choice_if-requires : goal.choice_if-requires
choice_if-requires c =
    let odd = c.if-node-eq1.false in
    let small = c.requires.node in
    let acts = c.deref.ensures.value ∙ ap (λ (b : Body). b.acts) c.body.view_is in
    record {
      sized = c.requires.sized;
      writers = c.requires.writers;
      place = omega arith;
      test = sym (c.in-Test.ensures ∙ ap (λ (xs : List Act). act_at xs (c.args.node / 2)) acts);
    }

pub returns-in-Test-clause-choice : goal.returns-in-Test-clause-choice
returns-in-Test-clause-choice c marks before =
    let b = c.args.body.now in
    let h = c.args.marks.now.header in
    let odd = c.if-node-eq1.false in
    let even : 2 * (c.args.node / 2) ≡ c.args.node = omega arith in
    subst (λ (u : ℕ). IsChoiceOf b h u c.choice_if.result) even (c.choice_if.ensures.choice marks before)

pub returns-in_default-clause-choice : goal.returns-in_default-clause-choice
returns-in_default-clause-choice c marks before =
    let b = c.args.body.now in
    let h = c.args.marks.now.header in
    let p = c.args.node / 2 in
    let odd = c.if-node-eq1.false in
    let even : 2 * p ≡ c.args.node = omega arith in
    let acts : c.deref.result.now ≡ b.acts = c.deref.ensures.value ∙ ap (λ (x : Body). x.acts) c.body.view_is in
    let act : c.act_at.result ≡ act_at b.acts p = c.act_at.ensures ∙ ap (λ (xs : List Act). act_at xs p) acts in
    subst (λ (u : ℕ). IsLeast (CountsByNode b h u) None) even (least_by_node b h p None (no_test b h p (λ t is. c.in_default.not-Test t (act ∙ is))))
