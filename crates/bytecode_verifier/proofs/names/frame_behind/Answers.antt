use Rattle.std.proofs.Common.{◌≡◌, ◌≤◌, ◌++◌, length, map, reverse, sym, ap, ◌∙◌, subst}
use Rattle.verifier_types.specs.Frame.{operands_seen}
use Rattle.verifier_types.specs.Locals.{lists_seen, locals_seen, filled}
use Rattle.verifier_types.specs.Seen.{type_seen}
use Rattle.bytecode_verifier.specs.Listed.{words_of, types_by}
use Rattle.bytecode_verifier.specs.Named.{type_by}
use Rattle.bytecode_verifier.proofs.FirstLemmas.{list_got}
use Rattle.bytecode_verifier.proofs.ListLemmas.{reversed_same}
use Rattle.bytecode_verifier.proofs.SteppedLemmas.{made_of, frame_fits, locals_by}
use Rattle.bytecode_verifier.proofs.names.frame_behind.Goals as goal

pub returns-clause-locals : goal.returns-clause-locals
returns-clause-locals c = λ k code before after stack f at room e g h.
    let t = c.args.lists.now in
    let cs = c.args.of.now.program.now in
    c.in_ok-change_locals.ensures.locals k before after stack at e (subst (λ n. length (words_of (types_by cs after)) ≤ n) (room ∙ sym c.requires) (frame_fits cs code after stack f g)) h

pub returns-clause-frame : goal.returns-clause-frame
returns-clause-frame c = λ k code before after stack f more at room e g flag h.
    let t = c.args.lists.now in
    let u = c.change_locals.new.lists in
    let cs = c.args.of.now.program.now in
    let lss = lists_seen u ++ more in
    let fits = subst (λ n. length (words_of (types_by cs after)) ≤ n) (room ∙ sym c.requires) (frame_fits cs code after stack f g) in
    let now = c.in_ok-change_locals.ensures.locals k before after stack at e fits h in
    let width = c.in_ok-change_locals.ensures.lists.room ∙ (c.requires ∙ sym room) in
    let locals : locals_seen lss c.new-locals.result ≡ map (type_by cs) f.locals =
    c.new-locals.ensures lss
    ∙ (list_got lss c.change_locals.new.current.list (filled u.max_locals (words_of (types_by cs after))) (now.list more)
    ∙ (ap (λ n. filled n (words_of (types_by cs after))) width ∙ locals_by c.what_has_room_is_filled.ensures cs code after stack f g)) in
    let made = made_of code after stack f g in
    let operands : operands_seen c.new-operands.result ≡ map (type_by cs) (reverse f.stack) =
    c.new-operands.ensures ∙ reversed_same type_seen (type_by cs) c.in_ok-stack.stack.items f.stack (c.in_ok-stack.ensures k before after stack at e ∙ ap (types_by cs) (sym made.operands)) in
    cc
