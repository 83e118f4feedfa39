use Rattle.std.proofs.Common.{◌≡◌, ℕ, length, replicate, None, ap, ◌∙◌, sym, subst, rules}
use Rattle.known_ints.specs.Rounds.{AreLines}
use Rattle.known_ints.proofs.Rounding.{Laws, empty_sized, empty_finding, ints_known, lengths_known, round_closes}
use Rattle.known_ints.proofs.rounds.known_in.Goals as goal

pub loop-answers-init : goal.loop-answers-init
loop-answers-init c =
    let nothing : c.in_ok-answers.answers.items ≡ replicate c.places.result None = c.in_ok-answers.ensures.items_if_clones_equal (λ y h. search rules) in
    let told = nothing ∙ ap (λ (n : ℕ). replicate n None) c.places.ensures.places in (
      empty_sized c.args.code.now c.in_ok-found.found c.in_ok-answers.answers.items c.in_ok-found.ensures.empty told,
      empty_finding c.args.code.now c.in_ok-found.found c.in_ok-answers.answers.items c.in_ok-found.ensures.empty told,
    )

pub round-requires-clause-sized : goal.round-requires-clause-sized
round-requires-clause-sized c = c.loop-answers.invariant.0

pub loop-answers-smaller : goal.loop-answers-smaller
loop-answers-smaller c = c.in_ok-round.ensures.less c.if-branch.true

pub loop-answers-preserved : goal.loop-answers-preserved
loop-answers-preserved c = (c.in_ok-round.ensures.sized, c.in_ok-round.ensures.finding c.loop-answers.invariant.1)

pub returns-clause-ints : goal.returns-clause-ints
returns-clause-ints c P known m of =
    let laws : Laws = record {
      one = c.lines_follow_one_another.ensures.one;
      stands = c.one_stands_before.ensures.line;
      exist = c.last_writes_exist.ensures;
      wrote = c.last_writes_are_reached.ensures.write;
      come = c.lines_before_are_reached.ensures;
      first = c.pushed_are_one.ensures.reached;
      ints_one = c.pushed_are_one.ensures.ints;
      arrays_one = c.pushed_are_one.ensures.arrays;
      starts = c.starts_follow_one_another.ensures;
    } in
    let code = c.args.code.now in
    let round = c.in_ok-round.ensures in
    let closed = round_closes code c.deref.result.now c.loop-answers.found c.round.new.found c.loop-answers.answers.items c.round.new.answers.items c.in_ok-round.field-0 round c.loop-answers.invariant.1 c.if-branch.false in
    let all = subst (AreLines code (length code.parts)) (sym c.deref.ensures.value) c.in_ok-lines.ensures in
    ints_known laws P known m code of c.round.new.found c.nothing.ensures.nodes ((round.finding c.loop-answers.invariant.1).sound P known m of) c.deref.result.now all closed

pub returns-clause-lengths : goal.returns-clause-lengths
returns-clause-lengths c P known m of =
    let laws : Laws = record {
      one = c.lines_follow_one_another.ensures.one;
      stands = c.one_stands_before.ensures.line;
      exist = c.last_writes_exist.ensures;
      wrote = c.last_writes_are_reached.ensures.write;
      come = c.lines_before_are_reached.ensures;
      first = c.pushed_are_one.ensures.reached;
      ints_one = c.pushed_are_one.ensures.ints;
      arrays_one = c.pushed_are_one.ensures.arrays;
      starts = c.starts_follow_one_another.ensures;
    } in
    let code = c.args.code.now in
    let round = c.in_ok-round.ensures in
    let closed = round_closes code c.deref.result.now c.loop-answers.found c.round.new.found c.loop-answers.answers.items c.round.new.answers.items c.in_ok-round.field-0 round c.loop-answers.invariant.1 c.if-branch.false in
    let all = subst (AreLines code (length code.parts)) (sym c.deref.ensures.value) c.in_ok-lines.ensures in
    lengths_known laws P known m code of c.round.new.found c.nothing.ensures.nodes ((round.finding c.loop-answers.invariant.1).sound P known m of) c.deref.result.now all closed
