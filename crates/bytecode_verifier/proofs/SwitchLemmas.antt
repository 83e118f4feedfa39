-- Cases of a switch, and where they lead.
use Rattle.std.proofs.Common.{◌≡◌, ℕ, ◌+◌, ◌≤◌, Bool, true, false, ◌&&◌, List, [], ◌∷◌, length, drop, drop-cons, add-one, Option, Some, None, ℤ, pos, refl, sym, ap, ap₂, ◌∙◌, arith}
use Rattle.std.specs.Prelude.{slice_get, ◌+ℤ◌}
use Rattle.std.specs.List.{list_all, range_with_len}
use Rattle.std.proofs.Math.ListN.{drop_of_length-le}
use Rattle.std.proofs.lemmas.List.{length-map}
use Rattle.std.proofs.lemmas.List.FromFn.{length-range_with_len}
use Rattle.std.proofs.lemmas.Option.{slice_get_within, get_or_from_slice_get}
use Rattle.opcodes.specs.declared.instruction.Instr.{Instr}
use Rattle.opcodes.specs.Form.{Form, TableSwitch, LookupSwitch}
use Rattle.opcodes.specs.Row.{row_of}
use Rattle.opcodes.specs.Target.{cases_of, cases_by, table_case, lookup_case}
use Rattle.bytecode_model.specs.Lists.{natural}
use Rattle.bytecode_model.specs.Program.{Program}
use Rattle.bytecode_typing.specs.Types.{VarType, TypeFrame}
use Rattle.bytecode_typing.specs.Assignable.{flows_to}
use Rattle.bytecode_typing.specs.Checks as checks
use Rattle.verifier_types.specs.Site.{Site}
use Rattle.bytecode_verifier.specs.declared.maps.MapFrames.{MapFrames}
use Rattle.bytecode_verifier.specs.Maps.{AreMapsOf, frame_over}

-- ---- one after another

step : {A : Type 0} (test : A → Bool) (xs : List A) (i : ℕ) (x : A) → slice_get xs i ≡ Some x → list_all test (drop i xs) ≡ (test x && list_all test (drop (i + 1) xs))
step test xs i x h =
    ap (list_all test) (drop-cons xs i x (slice_get_within xs i x h) ∙ ap₂ (λ y n. y ∷ drop n xs) (get_or_from_slice_get xs i x x h) (sym (add-one i)))

pub case_fails : {A : Type 0} (test : A → Bool) (xs : List A) (i : ℕ) (x : A) → slice_get xs i ≡ Some x → test x ≡ false → list_all test (drop i xs) ≡ false
case_fails test xs i x h e = step test xs i x h ∙ ap (λ b. b && list_all test (drop (i + 1) xs)) e

pub case_holds : {A : Type 0} (test : A → Bool) (xs : List A) (i : ℕ) (x : A) → slice_get xs i ≡ Some x → test x ≡ true → list_all test (drop (i + 1) xs) ≡ list_all test (drop i xs)
case_holds test xs i x h e = sym (step test xs i x h ∙ ap (λ b. b && list_all test (drop (i + 1) xs)) e)

pub no_case_left : {A : Type 0} (test : A → Bool) (xs : List A) (i : ℕ) → length xs ≤ i → list_all test (drop i xs) ≡ true
no_case_left test xs i h = ap (list_all test) (drop_of_length-le xs h)

within : (form : Form) (code : List ℕ) (i : Instr) → length (cases_by form code i) ≤ i.count
within TableSwitch code i = omega (arith, length-map (range_with_len 0 i.count) (table_case code i), length-range_with_len 0 i.count)
within LookupSwitch code i = omega (arith, length-map (range_with_len 0 i.count) (lookup_case code i), length-range_with_len 0 i.count)
within form code i = omega arith

pub cases_within : (code : List ℕ) (i : Instr) → length (cases_of code i) ≤ i.count
cases_within code i = within (row_of i.op).form code i

-- ---- where they lead

pub leads_to : (s : Site) (ls : List (List VarType)) (maps : MapFrames) (f : TypeFrame) (o : Option ℕ) → AreMapsOf ls maps s → checks.frame_at s.program s.number s.method s.body s.maps s.place f o ≡ frame_over ls maps o
leads_to s ls maps f None h = refl
leads_to s ls maps f (Some place) h = h place

pub reaches_is : (s : Site) (P : Program) (ls : List (List VarType)) (maps : MapFrames) (place : ℕ) (f : TypeFrame) (st : List VarType) (offset : ℤ) → s.program ≡ P → s.place ≡ place → AreMapsOf ls maps s
    → checks.reaches s.program s.number s.method s.body s.maps s.place f st offset ≡ flows_to P (record f { stack = st }) (frame_over ls maps (natural (pos place +ℤ offset)))
reaches_is s P ls maps place f st offset p e h =
    ap (flows_to s.program (record f { stack = st })) (leads_to s ls maps f (natural (pos s.place +ℤ offset)) h)
    ∙ ap₂ (λ Q n. flows_to Q (record f { stack = st }) (frame_over ls maps (natural (pos n +ℤ offset)))) p e

pub same_tests : {A : Type 0} (test other : A → Bool) (xs : List A) → ((x : A) → test x ≡ other x) → list_all test xs ≡ list_all other xs
same_tests test other [] h = refl
same_tests test other (x ∷ xs) h = ap₂ (λ a b. a && b) (h x) (same_tests test other xs h)
