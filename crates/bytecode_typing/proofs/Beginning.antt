-- The boot state fits.
use Rattle.std.proofs.Common.{◌≡◌, ℕ, ◌+◌, ◌≤◌, List, [], ◌∷◌, Option, Some, None, refl, sym, ap, subst, length, map, drop, arith}
use Rattle.std.specs.Prelude.{IfSome, slice_get, sum_by}
use Rattle.std.specs.Option.{IsSomeAnd}
use Rattle.std.proofs.lemmas.List.Sums.{sum_by-cons}
use Rattle.bytecode_model.specs.Types.{default}
use Rattle.bytecode_model.specs.State.{Object}
use Rattle.bytecode_model.specs.Program.{Program, Limits, Body, body_of}
use Rattle.bytecode_model.specs.Sizes.{object_words, body_words, frame_words, frames_words}
use Rattle.bytecode_model.specs.Steps.{first_frame, boot_state}
use Rattle.bytecode_typing.specs.Typed.{Typing, Typed}
use Rattle.bytecode_typing.specs.Fits.{Fits, numbers_of}
use Rattle.bytecode_typing.specs.Lawful.{Lawful}
use Rattle.bytecode_typing.proofs.Relations.{some_is, onto_some}
use Rattle.bytecode_typing.proofs.Parts.{defaults_fit, begin_self}
use Rattle.bytecode_typing.proofs.CallRows.{begins_static}

none_left : (xs : List Object) → drop (length xs) xs ≡ []
none_left [] = refl
none_left (x ∷ xs) = none_left xs

words_in : (o : Option Body) (limit : ℕ) → IfSome o (λ b. body_words b ≤ limit) → elim o as (λ _. ℕ) [ None ↦ 0 | Some b ↦ body_words b ] ≤ limit
words_in None limit h = omega arith
words_in (Some b) limit h = h

pub boot_fits : (P : Program) (types : Typing) (limits : Limits) → Lawful P → Typed P types → IfSome (body_of P P.boot) (λ b. body_words b ≤ limits.frames) → IsSomeAnd (boot_state P) (Fits P types limits)
boot_fits P types limits law typed room =
    let (k, ek, h) = some_is (slice_get P.methods P.boot) _ law.boot in
    let ks = numbers_of P.first_objects in
    let g = begins_static P types law typed ks P.boot k (map default k.parameters) ek h.0 h.2 (defaults_fit P ks k.parameters) in
    let f = g.frame in
    let sum : frames_words P (f ∷ []) ≡ frame_words P f + 0 = sum_by-cons (frame_words P) f [] in
    let l : frame_words P f ≤ limits.frames = subst (λ (n : ℕ). elim (body_of P n) as (λ _. ℕ) [ None ↦ 0 | Some b ↦ body_words b ] ≤ limits.frames) (sym g.is_of_method) (words_in (body_of P P.boot) limits.frames room) in
    onto_some (slice_get P.methods P.boot) k _ (Fits P types limits) ek
    (onto_some (first_frame P P.boot (map default k.parameters)) f _ (Fits P types limits) g.is_first
    (record {
      frames = (g.fits, tt);
      boot = ap Some g.is_of_method;
      objects = law.first_objects;
      first = begin_self P P.first_objects;
      statics = law.first_statics;
      frame_sum = omega (arith, sum, l);
      heap_sum = subst (λ (xs : List Object). sum_by (object_words P) xs ≤ limits.heap) (sym (none_left P.first_objects)) (omega arith);
    }))
