use Rattle.std.proofs.Common.{rules, ◌≡◌, ◌+◌, sym, ◌∙◌, subst, arith}
use Rattle.opcodes.specs.Start.{IsStart}
use Rattle.image_facts.proofs.Starting.{whole_at, fault_at, answers_none, answers_start, more_later, within_at, nothing_on}
use Rattle.image_facts.proofs.code.instruction_with.Goals as goal

pub returns-in_default : goal.returns-in_default
returns-in_default c =
    let within = c.instructions_end_within.ensures in
    let code = c.args.code.now in
    let at = c.loop-start.start in
    let (fault, whole) = fault_at within code at (sym c.in_default.is ∙ c.length.ensures) in
    answers_none within code c.args.place (λ pc byte. nothing_on within code c.args.place at pc fault (c.loop-start.invariant.start (omega arith)) whole byte (c.loop-start.invariant.later pc byte))

pub overflow_add-start : goal.overflow_add-start
overflow_add-start c =
    let more = within_at c.instructions_end_within.ensures c.args.code.now c.loop-start.start c.in-Some.bytes c.in-Some.ensures in
    omega (arith, more.1, c.requires)

pub returns-then-place-start : goal.returns-then-place-start
returns-then-place-start c =
    answers_start c.instructions_end_within.ensures c.args.code.now c.args.place c.loop-start.start c.in-Some.bytes (c.loop-start.invariant.start (omega arith)) (omega arith) c.in-Some.ensures c.if-place-start.true c.loop-start.invariant.later

pub loop-start-smaller : goal.loop-start-smaller
loop-start-smaller c =
    let more = within_at c.instructions_end_within.ensures c.args.code.now c.loop-start.start c.in-Some.bytes c.in-Some.ensures in
    omega (arith, more.0)

pub loop-start-preserved : goal.loop-start-preserved
loop-start-preserved c =
    let within = c.instructions_end_within.ensures in
    let code = c.args.code.now in
    let start = c.loop-start.invariant.start (omega arith) in
    let (i, whole, length) = whole_at within code c.loop-start.start c.in-Some.bytes c.in-Some.ensures in
    let e : c.loop-start.start + i.length ≡ c.loop-start.start + c.in-Some.bytes = omega (arith, length) in
    record {
      end = search rules;
      start = λ h. subst (IsStart code) e ((c.starts_follow_one_another.ensures code).next c.loop-start.start i start whole (omega (arith, h, length)));
      later = more_later within code c.args.place c.loop-start.start c.in-Some.bytes start c.in-Some.ensures (omega arith) c.loop-start.invariant.later;
    }

pub returns-else-start-end : goal.returns-else-start-end
returns-else-start-end c = answers_none c.instructions_end_within.ensures c.args.code.now c.args.place (λ pc byte.
    let inside = (c.starts_follow_one_another.ensures c.args.code.now).within_code pc byte.start in
    omega (arith, inside, c.loop-start.invariant.later pc byte))

pub returns-after-loop-start : goal.returns-after-loop-start
returns-after-loop-start c = answers_none c.instructions_end_within.ensures c.args.code.now c.args.place (λ pc byte. omega (arith, byte.from, c.loop-start.invariant.later pc byte))
