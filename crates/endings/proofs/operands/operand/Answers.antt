use Rattle.std.proofs.Common.{ℕ, ◌≤◌, List, length, sym, subst}
use Rattle.base.specs.Sizes.{longest_file}
use Rattle.endings.proofs.Texts.{short_at}
use Rattle.endings.proofs.operands.operand.Goals as goal

pub returns-clause-short : goal.returns-clause-short
returns-clause-short c =
    let S : List ℕ → Type 0 = λ text. length text ≤ longest_file in
    subst S (sym c.operand_text.ensures) (short_at longest_file c.args.operands.now c.requires c.args.number)
