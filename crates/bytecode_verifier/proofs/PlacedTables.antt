-- Verified programs are well placed.
use Rattle.std.proofs.Common.{◌≡◌, ℕ, Bool, true, false, List, [], ◌∷◌, ◌⊎◌, length, map, refl, ◌∙◌, subst, inl, inr}
use Rattle.std.specs.Prelude.{◌&&◌, ◌||◌, ◌==◌, nat_lt}
use Rattle.std.specs.List.{AllByRecursion}
use Rattle.std.proofs.lemmas.Bool.{eqb-true, ltb-true}
use Rattle.opcodes.specs.Start.{IsStart, starts_of, AreStarts}
use Rattle.class_pool.specs.declared.class.ClassFile.{ClassFile}
use Rattle.class_rules.specs.Found.{MethodsHaveCode}
use Rattle.lists.specs.Tests.{and_left, and_right, not_false}
use Rattle.bytecode_model.specs.Program.{Body}
use Rattle.frame_types.specs.Types.{is_start}
use Rattle.frame_types.specs.Laws.{FramesLaw}
use Rattle.frame_types.proofs.SearchLemmas.{among_contains}
use Rattle.program_tables.specs.Laws.{MethodsStandByNumber}
use Rattle.program_tables.specs.Resolved.{handler_of, resolved}
use Rattle.program_tables.specs.Resolving.{IsResolved}
use Rattle.bytecode_typing.specs.Laws.{TheWalkFindsATyping}
use Rattle.bytecode_typing.specs.WellPlaced.{IsWellPlacedHandler, WellPlaced}
use Rattle.bytecode_verifier.specs.Failure.{is_bad_entry, maps_of, IsVerified}
use Rattle.bytecode_verifier.specs.Laws.{IsTableOf}
use Rattle.bytecode_verifier.proofs.TableLemmas.{Entry}
use Rattle.bytecode_verifier.proofs.MethodLemmas.{has_code}
use Rattle.bytecode_verifier.proofs.TypingLemmas.{typings}
use Rattle.bytecode_verifier.proofs.VerifiedLemmas.{form_of}
use Rattle.bytecode_verifier.proofs.PlacedLemmas.{programs_placed}

either_end : (code : List ℕ) (place : ℕ) (a b : Bool) → is_start code place ≡ a → (place == length code) ≡ b → (a || b) ≡ true → IsStart code place ⊎ (place ≡ length code)
either_end code place true b e f h = inl (among_contains (starts_of code) place e)
either_end code place false b e f h = inr (eqb-true place (length code) (f ∙ h))

handler_placed : (cs : List ClassFile) (c : ClassFile) (code : List ℕ) (e : Entry) → is_bad_entry code e ≡ false → IsWellPlacedHandler code (handler_of cs c e)
handler_placed cs c code e h =
    let all = not_false (nat_lt e.0 e.1 && (is_start code e.0 && ((is_start code e.1 || e.1 == length code) && is_start code e.2))) h in
    let later = and_right (nat_lt e.0 e.1) _ all in
    let last = and_right (is_start code e.0) _ later in
    record {
      range = ltb-true e.0 e.1 (and_left (nat_lt e.0 e.1) _ all);
      start = among_contains (starts_of code) e.0 (and_left (is_start code e.0) _ later);
      end = either_end code e.1 (is_start code e.1) (e.1 == length code) refl refl (and_left (is_start code e.1 || e.1 == length code) _ last);
      target = among_contains (starts_of code) e.2 (and_right (is_start code e.1 || e.1 == length code) _ last);
    }

handlers_placed : (cs : List ClassFile) (c : ClassFile) (code : List ℕ) (es : List Entry) → IsTableOf code es → AllByRecursion (IsWellPlacedHandler code) (map (handler_of cs c) es)
handlers_placed cs c code [] h = tt
handlers_placed cs c code (e ∷ es) h = (handler_placed cs c code e h.0, handlers_placed cs c code es h.1)

pub verified_placed : ((code : List ℕ) → AreStarts code) → TheWalkFindsATyping → FramesLaw → MethodsHaveCode → MethodsStandByNumber → (cs : List ClassFile) → IsResolved cs → IsVerified cs → WellPlaced (resolved cs)
unfolding IsVerified
verified_placed starts walks frames codes stand cs r v =
    programs_placed starts (resolved cs) (maps_of cs) (typings walks frames codes stand cs r v) (λ n m b em eb.
    let x = has_code stand cs n m b em eb in
    let form = (form_of walks frames codes cs n x.code x.there r (v n)).0 in
    subst (λ (b : Body). AllByRecursion (IsWellPlacedHandler b.code) b.handlers) x.body (handlers_placed cs x.there.class x.code.code x.code.handlers form.table))
