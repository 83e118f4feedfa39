use Rattle.std.proofs.Common.{ℕ, Some, None, sym, ap, ◌∙◌, subst}
use Rattle.memory_bound.specs.Setting.{lengths_in}
use Rattle.memory_bound.specs.Words.{told_words, IsSiteWords}
use Rattle.memory_bound.proofs.Wording.{words_by_site}
use Rattle.memory_bound.proofs.words.site_words.Goals as goal

pub returns-in-Some : goal.returns-in-Some
returns-in-Some c = λ P flow sites.
    let s = c.args.task.now in
    let m = c.args.m in
    let p = c.args.place in
    let told = c.in-Some.makes in
    let same = c.told_words.ensures ∙ ap (told_words told) c.length_at.ensures in
    subst (λ (w : ℕ). IsSiteWords P (lengths_in s) m p w) (sym same) (words_by_site P s (lengths_in s) m p flow sites c.requires (Some told) c.in-Some.ensures)

pub returns-in-None : goal.returns-in-None
returns-in-None c = λ P flow sites.
    let s = c.args.task.now in
    words_by_site P s (lengths_in s) c.args.m c.args.place flow sites c.requires None c.in-None.ensures
