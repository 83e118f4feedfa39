use Rattle.std.proofs.Common.{◌↔◌, false, map, sym, ◌∙◌, subst, arith}
use Rattle.std.specs.Prelude.{IsTrue}
use Rattle.netlist.specs.declared.parts.BlockRam.{BlockRam}
use Rattle.netlist.specs.WellFormed.{Fit}
use Rattle.netlist.proofs.Fits.{fit_more, not_fit}
use Rattle.netlist.proofs.checks.are_ram_words.Goals as goal

pub returns-then-not-fits : goal.returns-then-not-fits
returns-then-not-fits c =
    subst (λ l. IsTrue false ↔ Fit (map (λ (m : BlockRam). m.write.word.width) l) c.args.words.now) c.as_slice-memories.ensures
    (not_fit (λ (m : BlockRam). m.write.word.width) c.as_slice-memories.result.now c.args.words.now c.loop-k.k c.index-memories-k.result c.loop-k-test.true c.index-memories-k.is
    (λ within. sym c.if-not-fits.true ∙ c.fits.ensures.1 within))

pub loop-k-preserved : goal.loop-k-preserved
loop-k-preserved c =
    let lt = c.loop-k-test.true in
    let same = c.if-words-memories.false in
    fit_more (λ (m : BlockRam). m.write.word.width) c.as_slice-memories.result.now c.args.words.now c.loop-k.k c.index-memories-k.result lt (omega (arith, lt, same))
    c.index-memories-k.is (c.fits.ensures.0 c.if-not-fits.false) c.loop-k.invariant
