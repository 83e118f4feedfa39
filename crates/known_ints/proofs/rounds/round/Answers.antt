use Rattle.std.proofs.Common.{◌≡◌, ℕ, ◌+◌, Bool, length, subst, sym, arith}
use Rattle.std.specs.Prelude.{slice_index_or}
use Rattle.std.proofs.lemmas.List.{take_more}
use Rattle.known_ints.specs.declared.lines.Line.{Line}
use Rattle.known_ints.specs.declared.knowing.Holds.TheVariants.{AnInt}
use Rattle.known_ints.specs.Rounds.{IsRound}
use Rattle.known_ints.proofs.Rounding.{round_begins, round_grows, round_goes_on}
use Rattle.known_ints.proofs.rounds.round.Goals.{then-branch, else-branch}
use Rattle.known_ints.proofs.rounds.round.Goals as goal

-- what stands for a line where there is none
abbrev no_line : Line
no_line = record { place = 0; last = 0; holds = AnInt }

pub loop-line-init : goal.loop-line-init
loop-line-init c = round_begins c.args.code.now c.args.lines.now c.args.found.now c.args.answers.now.items c.requires.sized

pub visit-requires-clause-sized : goal.visit-requires-clause-sized
visit-requires-clause-sized c = c.loop-line.invariant.sized

pub loop-line-preserved : goal.loop-line-preserved
loop-line-preserved c =
    let code = c.args.code.now in
    let lines = c.args.lines.now in
    let n = c.loop-line.line-index in
    let more = take_more lines n no_line c.loop-line-test.true in
    let first = c.args.found.now in
    let told = c.args.answers.now.items in
    elim c.if-branch.branch [
      | then-branch w ↦
          subst (λ (b : Bool). IsRound code lines (n + 1) first c.visit.new.found told c.visit.new.answers.items b) (sym w.grown-is)
          (round_grows code lines n (slice_index_or lines n no_line) more first c.loop-line.found c.visit.new.found told c.loop-line.answers.items c.visit.new.answers.items c.loop-line.grown c.loop-line.invariant
          c.in_ok-visit.field-0 w.if-branch.true c.in_ok-visit.ensures)
      | else-branch w ↦
          subst (λ (b : Bool). IsRound code lines (n + 1) first c.visit.new.found told c.visit.new.answers.items b) (sym w.grown-is)
          (round_goes_on code lines n (slice_index_or lines n no_line) more first c.loop-line.found c.visit.new.found told c.loop-line.answers.items c.visit.new.answers.items c.loop-line.grown c.loop-line.invariant
          c.in_ok-visit.field-0 w.if-branch.false c.in_ok-visit.ensures)
    ]

pub returns : goal.returns
returns c =
    let lines = c.args.lines.now in
    let all : c.loop-line.line-index ≡ length lines = omega (arith, c.loop-line-test.false, c.loop-line.auto.line-index-end) in
    subst (λ (n : ℕ). IsRound c.args.code.now lines n c.args.found.now c.loop-line.found c.args.answers.now.items c.loop-line.answers.items c.loop-line.grown) all c.loop-line.invariant
