-- The exception tables of verified programs: their ranges end between instructions, and what they catch has a number.
use Rattle.std.proofs.Common.{◌≡◌, ℕ, ◌+◌, ◌<◌, Bool, true, false, List, map, length, get_or, Option, Some, None, refl, sym, ◌∙◌, ap, subst, ⊎_elim}
use Rattle.std.specs.Prelude.{slice_get, IfSome, All, if◌then◌else◌, is_some, ◌==◌}
use Rattle.std.proofs.lemmas.Bool.{eq-eqb}
use Rattle.std.proofs.lemmas.Option.{slice_get-get_or, slice_get-map}
use Rattle.class_pool.specs.declared.entry.Entry.{Entry}
use Rattle.class_pool.specs.declared.class.Code.{Code}
use Rattle.class_pool.specs.declared.class.ClassFile.{ClassFile}
use Rattle.class_pool.specs.Found.{otherwise}
use Rattle.class_rules.specs.Found.{MethodsHaveCode}
use Rattle.opcodes.specs.Start.{starts_of, first_bad}
use Rattle.frame_types.specs.Laws.{FramesLaw}
use Rattle.frame_types.specs.Frames as maps
use Rattle.frame_types.proofs.SearchLemmas.{among_contains}
use Rattle.lists.specs.Lists.{onto}
use Rattle.lists.specs.Numbers.{is_among}
use Rattle.lists.proofs.Lemmas.{none≢some, map_some, index_there}
use Rattle.bytecode_model.specs.Types.{Kind, OfClass, same_kind}
use Rattle.bytecode_model.specs.Program.{Method, Body, Handler, type_number}
use Rattle.bytecode_typing.specs.Types.{TypeFrame}
use Rattle.bytecode_typing.specs.Walk.{is_throwable, walked, Frames, first_types}
use Rattle.bytecode_typing.specs.Typed.{Typed, IsTypedAt}
use Rattle.bytecode_typing.specs.Typings.{frames_of}
use Rattle.bytecode_typing.specs.Laws.{TheWalkFindsATyping, ProgramsWithTypingsAreTyped}
use Rattle.image_facts.specs.Says.{IsBetween}
use Rattle.program_laws.specs.Laws.{ProgramLaw}
use Rattle.program_laws.proofs.Objects.{class_type}
use Rattle.program_tables.specs.Laws.{MethodsStandByNumber}
use Rattle.program_tables.specs.Kinds.{kind_of_entry}
use Rattle.program_tables.specs.Numbers.{types_of}
use Rattle.program_tables.specs.Resolved.{handler_of, resolved}
use Rattle.program_tables.specs.Resolving.{IsResolved}
use Rattle.image_laws.specs.Laws.{CatchesAreNumbered, TablesAreAtStarts}
use Rattle.image_laws.proofs.Components.{IsOver, over_entry}
use Rattle.bytecode_verifier.specs.Failure.{Opcode, opcode_failure, table_failure, types_failure, maps_of, types_found, IsVerified}
use Rattle.bytecode_verifier.specs.Methods.{IsCodeOf, method_of, body_of}
use Rattle.bytecode_verifier.proofs.MethodLemmas.{failure_is, has_code}
use Rattle.bytecode_verifier.proofs.TypingLemmas.{neither, typings}
use Rattle.boundary.proofs.Between.{CodeLaws, start_between, end_between}
use Rattle.boundary.proofs.Caught.{framed, is_class, throwable}
use Rattle.boundary.proofs.Tables.{IsFormed, formed, none_case}

-- the laws of the verifier and of programs on which this stands
pub record VerifierLaws : Type 0 where
  pub walks : TheWalkFindsATyping
  pub frames : FramesLaw
  pub codes : MethodsHaveCode
  pub stand : MethodsStandByNumber
  pub typed : ProgramsWithTypingsAreTyped
  pub lawful : ProgramLaw
  pub places : CodeLaws

pub typed_program : VerifierLaws → (cs : List ClassFile) → IsResolved cs → IsVerified cs → Typed (resolved cs) (types_found cs)
typed_program laws cs r v = laws.typed (resolved cs) (maps_of cs) (laws.lawful cs r) refl (typings laws.walks laws.frames laws.codes laws.stand cs r v)

-- ---- the code of a method, in which no rule fails

record IsGood (k : Code) : Type 0 where
  opcodes : first_bad k.code ≡ None
  table : table_failure k.code k.handlers ≡ None

good : (cs : List ClassFile) (n : ℕ) (k : Code) (h : IsCodeOf cs n k) → IsVerified cs → IsGood k
unfolding IsVerified
good cs n k h v =
    let m = method_of cs n k h in
    let b = body_of cs n k h in
    let types = types_failure cs n m b (first_types m b) (maps.frames_of h.class h.member k) in
    let all = neither (opcode_failure k.code) (otherwise (table_failure k.code k.handlers) types) (sym (failure_is cs n k h) ∙ v n) in
    record { opcodes = none_case (λ pc. (pc, Opcode)) (first_bad k.code) all.0; table = (neither (table_failure k.code k.handlers) types all.1).0 }

-- ---- one entry

ranged : CodeLaws → (k : Code) → IsGood k → (h : ℕ × ℕ × ℕ × ℕ) → IsFormed k.code h → IsBetween k.code h.0 × IsBetween k.code h.1
ranged laws k g h f = (
  start_between laws k.code g.opcodes h.0 (among_contains (starts_of k.code) h.0 f.start),
  ⊎_elim (λ s. start_between laws k.code g.opcodes h.1 (among_contains (starts_of k.code) h.1 s)) (λ e. end_between laws k.code h.1 e) f.end,
)

class_number : (cs : List ClassFile) (c : ℕ) → c < length cs → is_some (type_number (resolved cs) (OfClass c)) ≡ true
class_number cs c lt = let i = index_there (same_kind (OfClass c)) (types_of cs) (8 + c) (OfClass c) (class_type cs c lt) (eq-eqb c c refl) in ap is_some i.1

named_over : (cs : List ClassFile) (pool : List Entry) (index : ℕ) (any : Bool) (k : Kind) → (if any then None else kind_of_entry cs pool index) ≡ Some k → IsOver cs k
named_over cs pool index true k h = absurd (none≢some k h)
named_over cs pool index false k h = over_entry cs pool index k h

numbered : (cs : List ClassFile) (o : Option Kind) → is_throwable (resolved cs) o ≡ true → ((k : Kind) → o ≡ Some k → IsOver cs k) → IfSome o (λ k. is_some (type_number (resolved cs) k) ≡ true)
numbered cs None h over = tt
numbered cs (Some k) h over =
    let c = is_class (resolved cs) k h in
    subst (λ (l : Kind). is_some (type_number (resolved cs) l) ≡ true) (sym c.1) (class_number cs c.0 (subst (IsOver cs) c.1 (over k refl)))

-- ---- the frame at the start of an entry's range

frame_there : VerifierLaws → (cs : List ClassFile) → IsResolved cs → IsVerified cs → (n : ℕ) (m : Method) (b : Body) → slice_get (resolved cs).methods n ≡ Some m → m.body ≡ Some b
    → (pc : ℕ) → is_among (starts_of b.code) pc ≡ true → (f : TypeFrame) × (types_found cs n pc ≡ Some f)
frame_there laws cs r v n m b e h pc start =
    let P = resolved cs in
    let maps = maps_of cs n in
    let t = typings laws.walks laws.frames laws.codes laws.stand cs r v n m b e h in
    let typing = t.1.1 in
    let f = framed P n m b maps (starts_of b.code) (first_types m b) t.1.0 typing.behind typing.typing pc start in
    let walk : walked P n m b maps ≡ Frames t.1.0 = ((laws.walks P n m b maps).0 t.1.0).1 typing in (
      f.0,
      ap (λ o. onto o (λ (m : Method). onto m.body (λ b. frames_of (walked P n m b maps) pc))) e
          ∙ ap (λ o. onto o (λ b. frames_of (walked P n m b maps) pc)) h
          ∙ ap (λ w. frames_of w pc) walk
          ∙ f.1,
    )

if_in : {A : Type 0} (o : Option A) (x : A) (K : A → Type 0) → o ≡ Some x → IfSome o K → K x
if_in o x K e h = subst (λ o. IfSome o K) e h

caught : VerifierLaws → (cs : List ClassFile) → IsResolved cs → IsVerified cs → (n : ℕ) (m : Method) (b : Body) → slice_get (resolved cs).methods n ≡ Some m → m.body ≡ Some b
    → (i : ℕ) (h : Handler) → slice_get b.handlers i ≡ Some h → h.start < h.end → is_among (starts_of b.code) h.start ≡ true → is_throwable (resolved cs) h.caught ≡ true
caught laws cs r v n m b e k i h at some start =
    let P = resolved cs in
    let frames = types_found cs n in
    let f = frame_there laws cs r v n m b e k h.start start in
    let typed = (typed_program laws cs r v).methods n m b e k in
    let here = if_in (frames h.start) f.0 (IsTypedAt P n m b frames h.start) f.1 (typed.places h.start) in
    throwable P frames f.0 b.handlers i h at some here.handlers

-- ---- all entries

all_from : {A : Type 0} (K : A → Type 0) (xs : List A) → ((i : ℕ) (x : A) → slice_get xs i ≡ Some x → K x) → All K xs
all_from K xs h = λ i d lt. h i (get_or xs i d) (slice_get-get_or xs i d lt)

entry_of : (cs : List ClassFile) (c : ClassFile) (hs : List (ℕ × ℕ × ℕ × ℕ)) (i : ℕ) (d : Handler) → slice_get (map (handler_of cs c) hs) i ≡ Some d
    → (h : ℕ × ℕ × ℕ × ℕ) × (slice_get hs i ≡ Some h) × (handler_of cs c h ≡ d)
entry_of cs c hs i d at = map_some (handler_of cs c) (slice_get hs i) d (sym (slice_get-map (handler_of cs c) hs i) ∙ at)

pub tables_at_starts : VerifierLaws → (cs : List ClassFile) → IsVerified cs → TablesAreAtStarts (resolved cs)
tables_at_starts laws cs v n m b e f =
    let x = has_code laws.stand cs n m b e f in
    let g = good cs n x.code x.there v in
    let code = x.code.code in
    subst (λ (y : Body). All (λ h. IsBetween y.code h.start × IsBetween y.code h.end) y.handlers) x.body
    (all_from (λ h. IsBetween code h.start × IsBetween code h.end) (map (handler_of cs x.there.class) x.code.handlers) (λ i d at.
    let h = entry_of cs x.there.class x.code.handlers i d at in
    subst (λ (d : Handler). IsBetween code d.start × IsBetween code d.end) h.2 (ranged laws.places x.code g h.0 (formed code x.code.handlers g.table i h.0 h.1))))

pub catches_numbered : VerifierLaws → (cs : List ClassFile) → IsResolved cs → IsVerified cs → CatchesAreNumbered (resolved cs)
catches_numbered laws cs r v n m b e f =
    let x = has_code laws.stand cs n m b e f in
    let g = good cs n x.code x.there v in
    let class = x.there.class in
    let body = body_of cs n x.code x.there in
    let is_body : m.body ≡ Some body = f ∙ ap Some (sym x.body) in
    subst (λ (y : Body). All (λ h. IfSome h.caught (λ k. is_some (type_number (resolved cs) k) ≡ true)) y.handlers) x.body
    (all_from (λ h. IfSome h.caught (λ k. is_some (type_number (resolved cs) k) ≡ true)) body.handlers (λ i d at.
    let h = entry_of cs class x.code.handlers i d at in
    let formed = formed x.code.code x.code.handlers g.table i h.0 h.1 in
    let handler = handler_of cs class h.0 in
    let at : slice_get body.handlers i ≡ Some handler = at ∙ ap Some (sym h.2) in
    subst (λ (d : Handler). IfSome d.caught (λ k. is_some (type_number (resolved cs) k) ≡ true)) h.2
    (numbered cs handler.caught (caught laws cs r v n m body e is_body i handler at formed.some formed.start) (named_over cs class.pool h.0.3 (h.0.3 == 0)))))
