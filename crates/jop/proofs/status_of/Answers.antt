use Rattle.std.proofs.Common.{◌≡◌, ℕ, List, map, sym, subst}
use Rattle.std.specs.Prelude.{string_bytes}
use Rattle.std.specs.Borrow.{Bor}
use Rattle.jop.proofs.Silent.{process_status}
use Rattle.jop.proofs.status_of.Goals as goal

pub returns : goal.returns
returns c =
    let same = subst (λ (found : List (Bor (List ℕ))). map (λ text. text.now) found ≡ map string_bytes c.args.words.now) (sym c.deref.ensures.value) c.in-Ok.ensures in
    process_status c.deref.result.now (map string_bytes c.args.words.now) c.new-out.result c.new-err.result _ c.answer_words.result same c.new-out.ensures c.new-err.ensures c.answer_words.ensures
