use Rattle.std.proofs.Common.{◌≡◌, ◌<◌, ℕ, length, map, sym, refl, ap, ap₂, ◌∙◌, subst, Some, List, arith}
use Rattle.std.specs.Prelude.{slice_get}
use Rattle.std.specs.List.{AllByRecursion}
use Rattle.class_pool.specs.declared.class.ClassFile.{ClassFile}
use Rattle.frame_types.specs.declared.steps.MapStep.{MapStep}
use Rattle.frame_types.specs.Frames.{frames_of}
use Rattle.frame_types.specs.Locals.{first_locals}
use Rattle.frame_types.specs.Steps.{BeginsWith, AreSteps}
use Rattle.lists.proofs.Lemmas.{some_same}
use Rattle.bytecode_verifier.specs.Begun.{asked_of, first_kinds}
use Rattle.bytecode_verifier.specs.Listed.{HasLocals, types_by}
use Rattle.bytecode_verifier.specs.Methods.{method_of}
use Rattle.bytecode_verifier.proofs.BegunLemmas.{begins_with, kinds_by}
use Rattle.bytecode_verifier.proofs.MadeLemmas.{all_within, steps_within}
use Rattle.bytecode_verifier.proofs.methods.maps_of.Goals as goal

pub map_steps-requires-clause-first : goal.map_steps-requires-clause-first
map_steps-requires-clause-first c = λ m at.
    let cs = c.args.program.now in
    let n = c.args.number in
    let h = c.requires.code in
    let k = c.args.code.now in
    let place : (c.place.inside.class, c.place.inside.index) ≡ h.place = c.place.view_is ∙ some_same c.method-place.result h.place (sym c.method-place.ensures ∙ h.by_number) in
    let class : c.class-class.result.now ≡ h.class =
    some_same c.class-class.result.now h.class (sym c.class-class.ensures ∙ (ap (slice_get c.args.program.now) (ap (λ (p : ℕ × ℕ). p.0) place) ∙ h.in_classes)) in
    let index : c.in-Ok.index ≡ c.place.inside.index = omega (arith, c.in-Ok.ensures) in
    let member : slice_get c.class-class.result.now.methods c.in-Ok.index ≡ Some h.member =
    ap₂ (λ (f : ClassFile) (i : ℕ). slice_get f.methods i) class (index ∙ ap (λ (p : ℕ × ℕ). p.1) place) ∙ h.in_methods in
    let alike = c.first_frames_agree.ensures cs c.is_resolved.ensures n k h in
    let first = c.deref.result.now in
    let asked : first ≡ map asked_of (first_kinds (method_of cs n k h)) = c.deref.ensures.value ∙ (c.requires.begins h).1 in
    let begins : BeginsWith h.class h.member first = begins_with cs n k h alike first asked in
    subst (λ x. BeginsWith c.class-class.result.now x first) (some_same h.member m (sym member ∙ at)) (subst (λ f. BeginsWith f h.member first) (sym class) begins)

pub map_frames-requires-clause-within : goal.map_frames-requires-clause-within
map_frames-requires-clause-within c =
    let h = c.requires.code in
    let k = c.args.code.now in
    let place : (c.place.inside.class, c.place.inside.index) ≡ h.place = c.place.view_is ∙ some_same c.method-place.result h.place (sym c.method-place.ensures ∙ h.by_number) in
    let class : c.class-class.result.now ≡ h.class =
    some_same c.class-class.result.now h.class (sym c.class-class.ensures ∙ (ap (slice_get c.args.program.now) (ap (λ (p : ℕ × ℕ). p.0) place) ∙ h.in_classes)) in
    let index : c.in-Ok.index ≡ c.place.inside.index = omega (arith, c.in-Ok.ensures) in
    let member : slice_get c.class-class.result.now.methods c.in-Ok.index ≡ Some h.member =
    ap₂ (λ (f : ClassFile) (i : ℕ). slice_get f.methods i) class (index ∙ ap (λ (p : ℕ × ℕ). p.1) place) ∙ h.in_methods in
    let st = c.in_ok-steps.ensures h.member k member h.has_code in
    let frames = c.frames_stand_at_instructions.ensures c.class-class.result.now h.member k st.0 st.2 in
    let inside = steps_within c.class-class.result.now.pool k (length k.code) st.1 c.in_ok-steps.steps st.0.at st.5 (all_within k (c.starts_follow_one_another.ensures k.code) st.0.at frames.at) in
    let long : length k.code ≡ length c.as_slice.result.now = ap (λ (l : List ℕ). length l) (sym c.as_slice.ensures) in
    subst (λ (l : List MapStep). AllByRecursion (λ (s : MapStep). s.place < length c.as_slice.result.now) l) (sym c.as_slice-at.ensures)
    (subst (λ (n : ℕ). AllByRecursion (λ (s : MapStep). s.place < n) c.in_ok-steps.steps) long inside)

pub returns-clause-maps : goal.returns-clause-maps
returns-clause-maps c = λ h.
    let cs = c.args.program.now in
    let n = c.args.number in
    let k = c.args.code.now in
    let place : (c.place.inside.class, c.place.inside.index) ≡ h.place = c.place.view_is ∙ some_same c.method-place.result h.place (sym c.method-place.ensures ∙ h.by_number) in
    let class : c.class-class.result.now ≡ h.class =
    some_same c.class-class.result.now h.class (sym c.class-class.ensures ∙ (ap (slice_get c.args.program.now) (ap (λ (p : ℕ × ℕ). p.0) place) ∙ h.in_classes)) in
    let index : c.in-Ok.index ≡ c.place.inside.index = omega (arith, c.in-Ok.ensures) in
    let member : slice_get c.class-class.result.now.methods c.in-Ok.index ≡ Some h.member =
    ap₂ (λ (f : ClassFile) (i : ℕ). slice_get f.methods i) class (index ∙ ap (λ (p : ℕ × ℕ). p.1) place) ∙ h.in_methods in
    let st = c.in_ok-steps.ensures h.member k member h.has_code in
    let alike = c.first_frames_agree.ensures cs c.is_resolved.ensures n k h in
    let locals : first_locals h.class h.member ≡ Some st.1 = ap (λ (f : ClassFile). first_locals f h.member) (sym class) ∙ st.3 in
    let held : HasLocals c.args.lists.now c.args.first.locals (types_by cs st.1) = subst (λ ts. HasLocals c.args.lists.now c.args.first.locals ts) (kinds_by cs n k h alike st.1 locals) (c.requires.begins h).0 in
    let steps : AreSteps c.class-class.result.now.pool k st.1 c.as_slice-at.result.now st.0.at = subst (λ (l : List MapStep). AreSteps c.class-class.result.now.pool k st.1 l st.0.at) (sym c.as_slice-at.ensures) st.5 in (
      st.0,
      ap (λ (f : ClassFile). frames_of f h.member k) (sym class) ∙ st.2,
      λ more at. sym (c.in_ok-maps.ensures.frames c.class-class.result.now k st.1 st.0.at more at c.class-class.ensures refl held steps),
    )
