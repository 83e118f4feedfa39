-- A program in which no rule fails has typings, and so is typed.
use Rattle.std.proofs.Common.{◌≡◌, ℕ, ◌+◌, ◌<◌, ◌≤◌, Bool, true, false, eqb, if◌then◌else◌, List, [], ◌∷◌, length, map, reverse, Option, Some, None, refl, sym, ap, ◌∙◌, subst, arith}
use Rattle.std.specs.Prelude.{IfSome, Result, Ok, Err, IsTrue}
use Rattle.std.proofs.lemmas.Bool.{eqb-true}
use Rattle.std.proofs.lemmas.List.Sums.{sum_by-append, sum_by-cons}
use Rattle.std.proofs.lemmas.List.{map-append}
use Rattle.verifier_types.proofs.ListLemmas.{reverse_cons}
use Rattle.opcodes.specs.Start.{IsStart, starts_of}
use Rattle.class_pool.specs.declared.class.Code.{Code}
use Rattle.class_pool.specs.declared.class.ClassFile.{ClassFile}
use Rattle.class_pool.specs.Found.{otherwise}
use Rattle.class_rules.specs.Found.{MethodsHaveCode}
use Rattle.lists.specs.Lists.{onto}
use Rattle.lists.proofs.Lemmas.{none≢some}
use Rattle.bytecode_model.specs.Types.{Kind}
use Rattle.bytecode_model.specs.Program.{Method, Body}
use Rattle.frame_types.specs.declared.types.VarType as names
use Rattle.frame_types.specs.declared.types.VarType.TheVariants.{Top, Integer, Null, UninitializedThis, Object, Uninitialized, Long}
use Rattle.frame_types.specs.declared.types.TypeFrame as frames
use Rattle.frame_types.specs.declared.types.Frames.{Frames}
use Rattle.frame_types.specs.Types.{words_of, stack_words, is_start}
use Rattle.frame_types.specs.Frames.{frames_of}
use Rattle.frame_types.specs.Laws.{IsOfCode, StandFrom, FramesLaw}
use Rattle.program_tables.specs.Laws.{MethodsStandByNumber}
use Rattle.program_tables.specs.Kinds.{type_named, kind_of_type}
use Rattle.program_tables.specs.Resolved.{resolved}
use Rattle.program_tables.specs.Resolving.{IsResolved}
use Rattle.bytecode_typing.specs.Types as typing
use Rattle.bytecode_typing.specs.Types.{TypeFrame, type_words}
use Rattle.bytecode_typing.specs.Checks.{reference_or_top}
use Rattle.bytecode_typing.specs.Walk as walk
use Rattle.bytecode_typing.specs.Walk.{Walked, first_types, walked}
use Rattle.bytecode_typing.specs.Typings.{IsTyping, HasMapFrames, HaveTypings, frame_among}
use Rattle.bytecode_typing.specs.Laws.{TheWalkFindsATyping}
use Rattle.bytecode_verifier.specs.Named.{type_by, frame_by, frames_by}
use Rattle.bytecode_verifier.specs.Failure.{Walk, walk_failure, types_failure, table_failure, opcode_failure, method_failure, maps_in, maps_of, IsVerified}
use Rattle.bytecode_verifier.specs.Methods.{IsCodeOf, method_of, body_of}
use Rattle.frame_types.proofs.SearchLemmas.{among_contains}
use Rattle.program_laws.proofs.Programs.{some_and}
use Rattle.bytecode_verifier.proofs.MethodLemmas.{failure_is, maps_are, has_code, right_code}

-- ---- where nothing fails

pub neither : {A : Type 0} (a b : Option A) → otherwise a b ≡ None → (a ≡ None) × (b ≡ None)
neither None b h = (refl, h)
neither (Some x) b h = absurd (none≢some x (sym h))

-- the walk of a method ends with frames, where the first frame and the frames of the StackMapTable are these
pub record IsWalked (cs : List ClassFile) (n : ℕ) (m : Method) (b : Body) (found : Result Frames ℕ) : Type 0 where
  pub first : TypeFrame
  pub first_is : first_types m b ≡ Some first
  pub named : Frames
  pub named_are : found ≡ Ok named
  pub frames : List (ℕ × TypeFrame)
  pub walk : walked (resolved cs) n m b (maps_in cs found) ≡ walk.Frames frames

walk_case : (w : Walked) → walk_failure w ≡ None → (fs : List (ℕ × TypeFrame)) × (w ≡ walk.Frames fs)
walk_case (walk.Failed pc r) h = absurd (none≢some (pc, Walk r) (sym h))
walk_case (walk.Frames fs) h = (fs, refl)

pub walked_case : (cs : List ClassFile) (n : ℕ) (m : Method) (b : Body) (first : Option TypeFrame) (found : Result Frames ℕ) → first_types m b ≡ first → types_failure cs n m b first found ≡ None → IsWalked cs n m b found
walked_case cs n m b None found e h = cc
walked_case cs n m b (Some f) (Err place) e h = cc
walked_case cs n m b (Some f) (Ok fs) e h =
    let w = walk_case (walked (resolved cs) n m b (maps_in cs (Ok fs))) h in record { first = f; first_is = e; named = fs; named_are = refl; frames = w.0; walk = w.1 }

-- ---- the frames of the StackMapTable

type_case : (o : Option Kind) → 1 ≡ type_words (reference_or_top o)
type_case None = refl
type_case (Some k) = refl

words_same : (cs : List ClassFile) (t : names.VarType) → words_of t ≡ type_words (type_by cs t)
words_same cs Top = refl
words_same cs Integer = refl
words_same cs Null = refl
words_same cs UninitializedThis = refl
words_same cs (Object name) = type_case (onto (type_named name) (kind_of_type cs))
words_same cs (Uninitialized place) = refl
words_same cs Long = refl

stack_same : (cs : List ClassFile) (ts : List names.VarType) → typing.stack_words (map (type_by cs) (reverse ts)) ≡ stack_words ts
stack_same cs [] = refl
stack_same cs (t ∷ ts) =
    ap (λ l. typing.stack_words (map (type_by cs) l)) (reverse_cons t ts)
    ∙ (ap typing.stack_words (map-append (type_by cs) (reverse ts) (t ∷ []))
    ∙ (sum_by-append type_words (map (type_by cs) (reverse ts)) (type_by cs t ∷ [])
    ∙ omega (arith, stack_same cs ts, sum_by-cons type_words (type_by cs t) [], sum_by-cons words_of t ts, words_same cs t)))

abbrev Stands : Code → ℕ → TypeFrame → Type 0
Stands k pc f = IsStart k.code pc × (typing.stack_words f.stack ≤ k.max_stack)

stands_case : (cs : List ClassFile) (k : Code) (pc : ℕ) (place : ℕ) (f : frames.TypeFrame) (rest : Option TypeFrame) (b : Bool) → eqb place pc ≡ b → IsStart k.code place → IsOfCode k f → IfSome rest (Stands k pc)
    → IfSome (if b then Some (frame_by cs f) else rest) (Stands k pc)
stands_case cs k pc place f rest true e s h r =
    let fits = h.stack in let same = stack_same cs f.stack in
    (subst (IsStart k.code) (eqb-true place pc e) s, omega (arith, fits, same))
stands_case cs k pc place f rest false e s h r = r

stand : (cs : List ClassFile) (k : Code) (least : ℕ) (at : List (ℕ × frames.TypeFrame)) → ((place : ℕ) → IsTrue (is_start k.code place) → IsStart k.code place) → StandFrom k least at → (pc : ℕ) → IfSome (frame_among (frames_by cs at) pc) (Stands k pc)
stand cs k least [] starts h pc = tt
stand cs k least (x ∷ xs) starts h pc =
    stands_case cs k pc x.0 x.1 (frame_among (frames_by cs xs) pc) (eqb x.0 pc) refl (starts x.0 h.1) h.2 (stand cs k (x.0 + 1) xs starts h.3 pc)

maps_stand : FramesLaw → (cs : List ClassFile) (n : ℕ) (k : Code) (h : IsCodeOf cs n k) (fs : Frames) → frames_of h.class h.member k ≡ Ok fs → (pc : ℕ) → IfSome (maps_in cs (Ok fs) pc) (Stands k pc)
maps_stand law cs n k h fs e pc = stand cs k 0 fs.at (λ place t. among_contains (starts_of k.code) place t) (law h.class h.member k fs e).at pc

-- ---- a method

abbrev pub HasTypingOf : List ClassFile → (n : ℕ) → Method → Body → Type 0
HasTypingOf cs n m b = HasMapFrames m b (maps_of cs n) × ((fs : List (ℕ × TypeFrame)) × IsTyping (resolved cs) n m b (maps_of cs n) fs)

pub code_typing : TheWalkFindsATyping → FramesLaw → MethodsHaveCode → (cs : List ClassFile) → IsResolved cs → (n : ℕ) (k : Code) (h : IsCodeOf cs n k) → method_failure cs n ≡ None → HasTypingOf cs n (method_of cs n k h) (body_of cs n k h)
code_typing walks frames codes cs r n k h e =
    let m = method_of cs n k h in
    let b = body_of cs n k h in
    let found = frames_of h.class h.member k in
    let left = neither (table_failure k.code k.handlers) (types_failure cs n m b (first_types m b) found) (neither (opcode_failure k.code) _ (sym (failure_is cs n k h) ∙ e)).1 in
    let w = walked_case cs n m b (first_types m b) found refl left.1 in
    let right = right_code codes cs r n k h in
    let some : 0 < length k.code = (let one = right.not_empty in omega (arith, one)) in
    let maps = maps_are cs n k h in (
      record {
        code = some;
        first = some_and (first_types m b) (λ f. Unit {0}) w.first w.first_is tt;
        frames = λ pc. subst (λ (g : ℕ → Option TypeFrame). IfSome (g pc) (Stands k pc)) (sym maps) (subst (λ x. IfSome (maps_in cs x pc) (Stands k pc)) (sym w.named_are) (maps_stand frames cs n k h w.named w.named_are pc));
      },
      (
        w.frames,
        subst (λ (g : ℕ → Option TypeFrame). IsTyping (resolved cs) n m b g w.frames) (sym maps) (((walks (resolved cs) n m b (maps_in cs found)).0 w.frames).0 w.walk),
      ),
    )

pub typings : TheWalkFindsATyping → FramesLaw → MethodsHaveCode → MethodsStandByNumber → (cs : List ClassFile) → IsResolved cs → IsVerified cs → HaveTypings (resolved cs) (maps_of cs)
unfolding IsVerified
typings walks frames codes stand cs r v n m b e f =
    let x = has_code stand cs n m b e f in
    subst (λ c. HasTypingOf cs n m c) x.body (subst (λ l. HasTypingOf cs n l (body_of cs n x.code x.there)) x.method (code_typing walks frames codes cs r n x.code x.there (v n)))
