use Rattle.std.proofs.Common.{◌≡◌, ◌<◌, ℕ, List, length, map, Option, Some, sym, ap, ap₂, ◌∙◌, subst}
use Rattle.std.specs.Prelude.{slice_get}
use Rattle.std.specs.Option.{option_map}
use Rattle.class_pool.specs.declared.class.ClassFile.{ClassFile}
use Rattle.lists.proofs.Lemmas.{some_same}
use Rattle.program_tables.specs.Meanings.{handler_seen}
use Rattle.program_tables.specs.Numbers.{methods_by_number}
use Rattle.program_tables.specs.Resolved.{handler_of, resolved}
use Rattle.bytecode_typing.specs.Types.{TypeFrame}
use Rattle.bytecode_typing.specs.Walk as walk
use Rattle.bytecode_typing.specs.Walk.{handlers_hold}
use Rattle.verifier_types.specs.Frame.{frame_seen}
use Rattle.verifier_types.specs.Locals.{lists_seen}
use Rattle.bytecode_verifier.specs.Failure.{walk_failure}
use Rattle.bytecode_verifier.specs.Handled.{HoldAlike}
use Rattle.bytecode_verifier.specs.Methods.{method_of, body_of, walk_failed}
use Rattle.bytecode_verifier.proofs.methods.walk_method.Goals as goal

pub walk_places-requires-clause-method : goal.walk_places-requires-clause-method
walk_places-requires-clause-method c = subst (λ (cs : List ClassFile). c.args.number < length (methods_by_number cs)) (sym c.checking_of-checking.ensures.program) c.requires.method

pub returns-in-Some : goal.returns-in-Some
returns-in-Some c = λ h given first same.
    let n = c.args.number in
    let k = c.args.code.now in
    let cs = c.args.program.now in
    let place : (c.class.inside.class, c.class.inside.index) ≡ h.place = c.class.view_is ∙ some_same c.method.result h.place (sym c.method.ensures ∙ h.by_number) in
    let owner : c.class.inside.class ≡ h.place.0 = ap (λ (p : ℕ × ℕ). p.0) place in
    let alike : HoldAlike (map (handler_of cs h.class) k.handlers) (map handler_seen c.by_start-handlers.result.items.items) = λ P frames place f.
    ap (handlers_hold P frames place f) (sym (c.in_ok-handlers_of.ensures h.class (ap (slice_get cs) owner ∙ h.in_classes) ∙ ap (map (handler_of cs h.class)) c.as_slice.ensures)) ∙ sym (c.by_start-handlers.ensures P frames place f) in
    let m = method_of cs n k h in
    let b = body_of cs n k h in
    let walked = c.in_ok-place.ensures m b given (c.checking_of-checking.ensures.method h given c.args.lists.now c.requires.classes same alike) in
    let whole = ap₂ (λ (l : List ℕ) (o : Option TypeFrame). walk_failure (walk.walk (resolved cs) n m b given l o)) c.requires.starts (sym first) in
    ap (option_map walk_failed) (sym c.in-Some.is)
    ∙ (walked ∙ (ap (λ (l : List ClassFile). walk_failure (walk.walk (resolved l) n m b given c.args.starts.now (Some (frame_seen (lists_seen c.args.lists.now) c.args.first)))) c.checking_of-checking.ensures.program ∙ whole))

pub returns : goal.returns
returns c = λ h given first same.
    let n = c.args.number in
    let k = c.args.code.now in
    let cs = c.args.program.now in
    let place : (c.class.inside.class, c.class.inside.index) ≡ h.place = c.class.view_is ∙ some_same c.method.result h.place (sym c.method.ensures ∙ h.by_number) in
    let owner : c.class.inside.class ≡ h.place.0 = ap (λ (p : ℕ × ℕ). p.0) place in
    let alike : HoldAlike (map (handler_of cs h.class) k.handlers) (map handler_seen c.by_start-handlers.result.items.items) = λ P frames place f.
    ap (handlers_hold P frames place f) (sym (c.in_ok-handlers_of.ensures h.class (ap (slice_get cs) owner ∙ h.in_classes) ∙ ap (map (handler_of cs h.class)) c.as_slice.ensures)) ∙ sym (c.by_start-handlers.ensures P frames place f) in
    let m = method_of cs n k h in
    let b = body_of cs n k h in
    let walked = c.in_ok-place.ensures m b given (c.checking_of-checking.ensures.method h given c.args.lists.now c.requires.classes same alike) in
    let whole = ap₂ (λ (l : List ℕ) (o : Option TypeFrame). walk_failure (walk.walk (resolved cs) n m b given l o)) c.requires.starts (sym first) in
    ap (option_map walk_failed) (sym c.in-None.is)
    ∙ (walked ∙ (ap (λ (l : List ClassFile). walk_failure (walk.walk (resolved l) n m b given c.args.starts.now (Some (frame_seen (lists_seen c.args.lists.now) c.args.first)))) c.checking_of-checking.ensures.program ∙ whole))
