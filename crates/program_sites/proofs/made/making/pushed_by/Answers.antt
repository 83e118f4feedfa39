use Rattle.program_sites.proofs.MadeLemmas.Words.{pushed_is}
use Rattle.std.proofs.Common.{Option, ℤ, sym, ap, ◌∙◌, subst}
use Rattle.program_sites.specs.Made.Making.{IsPushBy, pushed_or}
use Rattle.program_sites.proofs.made.making.pushed_by.Goals as goal

pub returns : goal.returns
returns c = λ code r is.
    let t = c.int_row.result in
    let o = c.args.operand in
    let told = pushed_is code c.args.instr.now o r t is (c.int_row.ensures.tells code _ r is) (λ entry. c.int_row.ensures.constant entry code _) in
    subst (λ (z : Option ℤ). IsPushBy r z) (sym (c.pushed_or.ensures ∙ ap (pushed_or t) c.int_of.ensures)) told
