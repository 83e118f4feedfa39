use Rattle.std.proofs.Common.{◌≡◌, ◌≤◌, length, Some, None, refl, sym, ap, ◌∙◌, subst}
use Rattle.bytecode_model.specs.Slots.{padded}
use Rattle.bytecode_typing.specs.Types.{Top}
use Rattle.verifier_types.specs.Locals.{filled}
use Rattle.verifier_types.specs.Seen.{types_seen}
use Rattle.bytecode_verifier.specs.Listed.{IsListOf, words_of}
use Rattle.bytecode_verifier.proofs.ListedLemmas.{all_listed}
use Rattle.bytecode_verifier.proofs.SteppedLemmas.{padded_fits}
use Rattle.bytecode_verifier.proofs.names.all_locals.Goals as goal

pub returns-in-Some-clause-locals : goal.returns-in-Some-clause-locals
returns-in-Some-clause-locals c =
    let t = c.args.lists.now in
    let u = c.list_of.new.lists in
    let types = types_seen c.args.types.now in
    let ws = types_seen c.deref.result.now in
    let words : ws ≡ words_of types = ap types_seen c.deref.ensures.value ∙ c.in_ok-all.ensures in
    let l : IsListOf u (Some c.in-Some.list) (padded Top c.args.max_locals ws) = subst (λ o. IsListOf u o (padded Top c.args.max_locals ws)) c.in-Some.is c.in_ok-list.ensures.list in
    let room : length ws ≤ c.args.max_locals = padded_fits Top c.args.max_locals ws l.0 l.1 in
    let fits : length (words_of types) ≤ t.max_locals = subst (λ n. length (words_of types) ≤ n) (sym c.requires) (subst (λ xs. length xs ≤ c.args.max_locals) words room) in
    let full : padded Top c.args.max_locals ws ≡ Some (filled t.max_locals ws) = c.what_has_room_is_filled.ensures c.args.max_locals ws room ∙ ap (λ n. Some (filled n ws)) (sym c.requires) in
    all_listed t u _ types c.in-Some.list ws words refl c.in_ok-found.ensures.starts c.in_ok-found.ensures.words fits c.in_ok-list.ensures.lists (subst (λ o. IsListOf u (Some c.in-Some.list) o) full l)

pub returns-in-None-clause-locals : goal.returns-in-None-clause-locals
returns-in-None-clause-locals c =
    let u = c.list_of.new.lists in
    let types = types_seen c.args.types.now in
    let ws = types_seen c.deref.result.now in
    let words : ws ≡ words_of types = ap types_seen c.deref.ensures.value ∙ c.in_ok-all.ensures in
    let none : padded Top c.args.max_locals ws ≡ None = subst (λ o. IsListOf u o (padded Top c.args.max_locals ws)) c.in-None.is c.in_ok-list.ensures.list in
    ap (λ n. padded Top n (words_of types)) (c.in_ok-list.ensures.lists.room ∙ c.requires) ∙ (ap (padded Top c.args.max_locals) (sym words) ∙ none)
