use Rattle.std.proofs.Common.{sym, ◌∙◌, ap, List, ℕ}
use Rattle.std.specs.Borrow.{Bor}
use Rattle.endings.proofs.Words.{text_at-texts, text_at-past}
use Rattle.endings.proofs.lines.text_of.Goals as goal

pub returns-in-Some : goal.returns-in-Some
returns-in-Some c =
    let found = c.in-Some.ensures.lookup in
    c.as_bytes.ensures.value ∙ ap (λ (x : Bor (List ℕ)). x.now) found.1 ∙ sym (text_at-texts c.args.words.now c.args.k c.in-Some.word.now found.3.0)

pub returns-in-None : goal.returns-in-None
returns-in-None c = sym (text_at-past c.args.words.now c.args.k c.in-None.ensures.lookup.3)
