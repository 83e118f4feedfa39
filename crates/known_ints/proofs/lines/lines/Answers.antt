use Rattle.std.proofs.Common.{◌-◌, Contains, length, ◌≡◌, [], ◌∷◌, List, ℕ, ◌+◌, Vec, Global, ap, ◌∙◌, subst, sym, arith}
use Rattle.std.proofs.lemmas.List.{length-append}
use Rattle.known_ints.specs.declared.lines.Line.{Line}
use Rattle.known_ints.specs.Rounds.{AreLines}
use Rattle.known_ints.proofs.Lining.{lines_again, lines_more, lines_none, lines_same}
use Rattle.known_ints.proofs.lines.lines.Goals.{in-Some+in_ok-push, in_default}
use Rattle.known_ints.proofs.lines.lines.Goals as goal

pub loop-place-init : goal.loop-place-init
loop-place-init c = lines_none c.args.code.now c.new-lines.result.items c.new-lines.ensures.items

pub loop-place-preserved : goal.loop-place-preserved
loop-place-preserved c =
    let code = c.args.code.now in
    let n = c.loop-place.place in
    elim c.match-line_at.branch [
      | in-Some+in_ok-push w ↦
          let e = w.in-Some.ensures in
          let same = ap (λ (v : Vec Line Global). v.items) w.lines-is in
          lines_more code n c.loop-place.lines.items c.loop-place.invariant w.in-Some.line e.0 e.1 e.2 c.match-line_at.lines.items (same ∙ w.in_ok-push.ensures.items)
      | in_default w ↦
          subst (λ (v : Vec Line Global). AreLines code (n + 1) v.items) (sym w.lines-is) (lines_same code n c.loop-place.lines.items c.loop-place.invariant w.in_default.ensures)
    ]

pub loop-index-init : goal.loop-index-init
loop-index-init c =
    let all : c.loop-place.place ≡ length c.args.code.now.parts = omega (arith, c.loop-place-test.false, c.loop-place.auto.place-end, c.places-place-end.ensures.places) in
    (subst (λ (n : ℕ). AreLines c.args.code.now n c.loop-place.lines.items) all c.loop-place.invariant, omega arith)

pub loop-index-preserved : goal.loop-index-preserved
loop-index-preserved c =
    let lines = c.loop-index.lines.items in
    let items = c.in_ok-push-2.ensures.items in
    let has : Contains lines c.index-line.result.now = (c.loop-index.index - 1, omega (arith, c.loop-index-test.true, c.loop-index.auto.index, c.len-index.ensures, c.loop-place.lines.ok.0, c.loop-index.invariant.1), sym c.index-line.ensures) in (
      lines_again c.args.code.now (length c.args.code.now.parts) lines c.push-in-loop-index.new.self.items c.index-line.result.now c.loop-index.invariant.0 has items,
      (let more = ap (λ (ls : List Line). length ls) items ∙ length-append lines (c.index-line.result.now ∷ []) in let below = c.loop-index.invariant.1 in omega arith),
    )

pub returns : goal.returns
returns c = c.loop-index.invariant.0
