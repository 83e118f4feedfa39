use Rattle.std.proofs.Common.{◌+◌, ◌<◌, ℕ, sym, ◌∙◌, subst, arith, rules}
use Rattle.ascii_text.specs.Line.{lines_of}
use Rattle.priced_cert.proofs.LoopLemmas.{IsCountedTo, counted_plain, counted_price}
use Rattle.priced_cert.proofs.reader.plain_number.Goals as goal
use Rattle.priced_cert.proofs.reader.plain_number.Goals.{then-not-is_price+else-left-eq0, else-not-is_price}

pub loop-line-preserved : goal.loop-line-preserved
loop-line-preserved c =
    let r = c.loop-line.invariant in
    let ls = lines_of c.args.text.now in
    let lt : c.loop-line.number < c.args.next = omega (arith, r.before, c.if-number-next.false) in
    elim c.if-not-is_price.branch [
      | then-not-is_price+else-left-eq0 w ↦
          subst (λ (k : ℕ). IsCountedTo ls c.args.n c.args.next (c.loop-line.number + 1) k c.next.new.self) (sym w.left-is)
          (counted_plain ls c.args.n c.args.next c.loop-line.number c.loop-line.left c.loop-line.line-iterator c.next.new.self c.in-Some.line.now r c.in-Some.ensures.steps lt
          (sym c.is_price.ensures ∙ (search rules)) (omega (arith, r.some, w.if-left-eq0.false)))
      | else-not-is_price w ↦
          subst (λ (k : ℕ). IsCountedTo ls c.args.n c.args.next (c.loop-line.number + 1) k c.next.new.self) (sym w.left-is)
          (counted_price ls c.args.n c.args.next c.loop-line.number c.loop-line.left c.loop-line.line-iterator c.next.new.self c.in-Some.line.now r c.in-Some.ensures.steps lt
          (sym c.is_price.ensures ∙ (search rules)))
    ]
