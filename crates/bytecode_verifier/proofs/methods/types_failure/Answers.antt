use Rattle.std.proofs.Common.{◌≡◌, ◌++◌, List, [], Option, Some, None, Result, Ok, Err, sym, ap, ap₂, ◌∙◌, subst}
use Rattle.std.proofs.lemmas.Result.{IfOk-weaker}
use Rattle.frame_types.specs.declared.types.Frames.{Frames}
use Rattle.frame_types.specs.declared.types.MapFault.{MapFault}
use Rattle.program_tables.specs.Resolved.{resolved}
use Rattle.program_tables.specs.Meanings.{HasShape}
use Rattle.bytecode_typing.specs.Types.{VarType, TypeFrame}
use Rattle.bytecode_typing.specs.Walk.{first_types}
use Rattle.verifier_types.specs.Frame.{frame_seen}
use Rattle.verifier_types.specs.Locals.{LocalTable, lists_seen}
use Rattle.bytecode_verifier.specs.Begun.{first_kinds, BeginsIfRoom}
use Rattle.std.specs.Prelude.{slice_get, ℕ}
use Rattle.bytecode_verifier.specs.Failure.{types_failure, maps_in}
use Rattle.bytecode_verifier.specs.Methods.{method_of, body_of, found_in, AreMaps}
use Rattle.bytecode_verifier.proofs.FirstLemmas.{none_first}
use Rattle.bytecode_verifier.proofs.MethodLemmas.{method_is}
use Rattle.bytecode_verifier.proofs.CheckedLemmas.{some_at}
use Rattle.bytecode_verifier.proofs.methods.types_failure.Goals as goal

pub begin-requires : goal.begin-requires
begin-requires c = ap (λ (t : LocalTable). t.max_locals) c.in_ok-lists.ensures

pub maps_of-requires-clause-room : goal.maps_of-requires-clause-room
maps_of-requires-clause-room c = c.in_ok-begun.ensures.lists.room ∙ ap (λ (t : LocalTable). t.max_locals) c.in_ok-lists.ensures

pub maps_of-requires-clause-begins : goal.maps_of-requires-clause-begins
maps_of-requires-clause-begins c = λ h.
    let cs = c.args.program.now in
    let n = c.args.number in
    let k = c.args.code.now in
    let m = method_of cs n k h in
    let shaped = some_at (slice_get (resolved cs).methods n) (HasShape c.shape-shape.result.now) m (method_is c.methods_stand_by_number.ensures cs n k h) c.shape-shape.ensures in
    subst (λ o. BeginsIfRoom c.begin.new.lists o (first_kinds m)) c.in-Some.is (c.in_ok-begun.ensures.begins m shaped)

pub walk_method-requires-clause-classes : goal.walk_method-requires-clause-classes
walk_method-requires-clause-classes c = c.in-Ok.ensures.lists.classes ∙ (c.in_ok-begun.ensures.lists.classes ∙ (ap (λ (t : LocalTable). t.classes) c.in_ok-lists.ensures ∙ c.hierarchy.ensures))

pub returns-in-None : goal.returns-in-None
returns-in-None c = λ h.
    let cs = c.args.program.now in
    let n = c.args.number in
    let k = c.args.code.now in
    let m = method_of cs n k h in
    let b = body_of cs n k h in
    let shaped = some_at (slice_get (resolved cs).methods n) (HasShape c.shape-shape.result.now) m (method_is c.methods_stand_by_number.ensures cs n k h) c.shape-shape.ensures in
    let t = c.begin.new.lists in
    let room : b.max_locals ≡ t.max_locals = sym (c.in_ok-begun.ensures.lists.room ∙ ap (λ (u : LocalTable). u.max_locals) c.in_ok-lists.ensures) in
    let none : None ≡ first_types m b = none_first t m b room (subst (λ o. BeginsIfRoom t o (first_kinds m)) c.in-None.is (c.in_ok-begun.ensures.begins m shaped)) in
    ap (λ (o : Option TypeFrame). types_failure cs n m b o (found_in cs n k h)) none

pub returns-in-Ok : goal.returns-in-Ok
returns-in-Ok c = IfOk-weaker c.walk_method.result _ _ (λ x p h.
    let cs = c.args.program.now in
    let n = c.args.number in
    let k = c.args.code.now in
    let m = method_of cs n k h in
    let b = body_of cs n k h in
    let shaped = some_at (slice_get (resolved cs).methods n) (HasShape c.shape-shape.result.now) m (method_is c.methods_stand_by_number.ensures cs n k h) c.shape-shape.ensures in
    let t = c.begin.new.lists in
    let room : b.max_locals ≡ t.max_locals = sym (c.in_ok-begun.ensures.lists.room ∙ ap (λ (u : LocalTable). u.max_locals) c.in_ok-lists.ensures) in
    let begins : BeginsIfRoom t (Some c.in-Some.begun) (first_kinds m) = subst (λ o. BeginsIfRoom t o (first_kinds m)) c.in-Some.is (c.in_ok-begun.ensures.begins m shaped) in
    let kept = c.in-Ok.ensures.lists in
    let frame = c.first_frame-first.result in
    let first : Some (frame_seen (lists_seen c.maps_of.new.lists) frame) ≡ first_types m b =
    ap (λ (ls : List (List VarType)). Some (frame_seen ls frame)) kept.lists ∙ c.first_frame-first.ensures t m b kept.others shaped room begins.0 in
    let a = c.in-Ok.ensures.maps h in
    p h (maps_in cs (Ok a.0)) (sym first) a.2
    ∙ ap₂ (λ (o : Option TypeFrame) (r : Result Frames ℕ). types_failure cs n m b o r) first (sym a.1)) c.walk_method.ensures

pub returns-in-Bad : goal.returns-in-Bad
returns-in-Bad c = λ h.
    let cs = c.args.program.now in
    let n = c.args.number in
    let k = c.args.code.now in
    let m = method_of cs n k h in
    let b = body_of cs n k h in
    let shaped = some_at (slice_get (resolved cs).methods n) (HasShape c.shape-shape.result.now) m (method_is c.methods_stand_by_number.ensures cs n k h) c.shape-shape.ensures in
    let t = c.begin.new.lists in
    let room : b.max_locals ≡ t.max_locals = sym (c.in_ok-begun.ensures.lists.room ∙ ap (λ (u : LocalTable). u.max_locals) c.in_ok-lists.ensures) in
    let begins : BeginsIfRoom t (Some c.in-Some.begun) (first_kinds m) = subst (λ o. BeginsIfRoom t o (first_kinds m)) c.in-Some.is (c.in_ok-begun.ensures.begins m shaped) in
    let first : Some (frame_seen (t.lists ++ []) c.first_frame-first.result) ≡ first_types m b = c.first_frame-first.ensures t m b [] shaped room begins.0 in
    ap₂ (λ (o : Option TypeFrame) (r : Result Frames ℕ). types_failure cs n m b o r) first (sym (subst (λ (e : MapFault). AreMaps (lists_seen c.maps_of.new.lists) cs (found_in cs n k h) (Err e)) c.in-Bad.is (c.in-Err.ensures.maps h)))
