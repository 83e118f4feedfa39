-- The types that exception tables catch are Throwables, and so classes, which have numbers.
use Rattle.std.proofs.Common.{◌≡◌, ℕ, ◌+◌, Bool, true, false, ◌&&◌, ◌||◌, ◌==◌, eqb, List, [], ◌∷◌, map, Option, Some, None, refl, sym, ◌∙◌, subst, arith}
use Rattle.std.specs.Prelude.{nat_lt, if◌then◌else◌, IfSome, IsSome, slice_get}
use Rattle.std.specs.List.{list_all, AllByRecursion}
use Rattle.std.proofs.lemmas.Bool.{eqb-true, false≢true}
use Rattle.std.proofs.lemmas.List.Elements.{All-from_recursion}
use Rattle.program_laws.proofs.Rows.{same_self}
use Rattle.class_pool.specs.declared.class.Code.{Code}
use Rattle.class_pool.specs.declared.class.ClassFile.{ClassFile}
use Rattle.class_rules.specs.Found.{MethodsHaveCode}
use Rattle.lists.specs.Numbers.{is_among}
use Rattle.lists.proofs.Lemmas.{none≢some, index_there}
use Rattle.opcodes.specs.Start.{starts_of, first_bad}
use Rattle.frame_types.specs.Laws.{FramesLaw}
use Rattle.frame_types.specs.Frames.{frames_of}
use Rattle.bytecode_model.specs.Types.{Kind, OfClass, OfNumbers, OfReferences, same_kind}
use Rattle.bytecode_model.specs.Program.{Program, Method, Body, Handler, type_number}
use Rattle.bytecode_typing.specs.Types.{TypeFrame}
use Rattle.bytecode_typing.specs.Laws.{TheWalkFindsATyping}
use Rattle.bytecode_typing.specs.Walk.{is_throwable, covers, is_handled, handlers_hold, first_types, Passes, verdict_at}
use Rattle.bytecode_typing.specs.Typings.{IsTypingOf}
use Rattle.bytecode_typing.proofs.Relations.{is_true}
use Rattle.bytecode_typing.proofs.TypedWalks.{passed}
use Rattle.program_tables.specs.Laws.{MethodsStandByNumber}
use Rattle.program_tables.specs.Kinds.{kind_of_entry}
use Rattle.program_tables.specs.Numbers.{types_of}
use Rattle.program_tables.specs.Resolving.{IsResolved}
use Rattle.program_tables.specs.Resolved.{resolved, handler_of}
use Rattle.program_laws.proofs.Objects.{class_type}
use Rattle.image_facts.specs.Says.{IsBetween}
use Rattle.image_laws.specs.Laws.{CatchesAreNumbered, TablesAreAtStarts}
use Rattle.image_laws.proofs.Components.{IsOver, over_entry}
use Rattle.bytecode_verifier.specs.Failure.{table_failure, types_failure, opcode_failure, is_bad_entry, method_failure, maps_of, IsVerified}
use Rattle.bytecode_verifier.specs.Methods.{IsCodeOf, method_of, body_of}
use Rattle.bytecode_verifier.proofs.MethodLemmas.{failure_is, has_code}
use Rattle.bytecode_verifier.proofs.TypingLemmas.{neither, typings}
use Rattle.jopizer.proofs.TableLemmas.{Entry, IsInForm, in_form, is_in_form, CodeLaws, range_between, all_whole}

-- ---- a Throwable is a class

numbered : (cs : List ClassFile) (k : Kind) → IsOver cs k → is_throwable (resolved cs) (Some k) ≡ true → IsSome (type_number (resolved cs) k)
numbered cs (OfClass c) over h =
    let there = index_there (same_kind (OfClass c)) (types_of cs) (8 + c) (OfClass c) (class_type cs c over) (same_self (OfClass c)) in
    subst IsSome (sym there.1) refl
numbered cs (OfNumbers a) over h = absurd (false≢true h)
numbered cs (OfReferences k) over h = absurd (false≢true h)

over_caught : (cs : List ClassFile) (pool : List _) (index : ℕ) (b : Bool) (k : Kind) → (if b then None else kind_of_entry cs pool index) ≡ Some k → IsOver cs k
over_caught cs pool index true k h = absurd (none≢some k h)
over_caught cs pool index false k h = over_entry cs pool index k h

caught_numbered : (cs : List ClassFile) (o : Option Kind) → ((k : Kind) → o ≡ Some k → IsOver cs k) → is_throwable (resolved cs) o ≡ true → IfSome o (λ k. IsSome (type_number (resolved cs) k))
caught_numbered cs None over h = tt
caught_numbered cs (Some k) over h = numbered cs k (over k refl) h

-- ---- the rules pass where an instruction begins

module _ (P : Program) (n : ℕ) (m : Method) (b : Body) (maps : ℕ → Option TypeFrame) where
  record IsReached (pc : ℕ) : Type 0 where
    falling : Option TypeFrame
    frame : TypeFrame
    after : Option TypeFrame
    passes : verdict_at P n m b maps pc falling ≡ Passes frame after

  here_or_later : (p pc : ℕ) (ps : List ℕ) (falling : Option TypeFrame) (f : TypeFrame) (after : Option TypeFrame) (here : Bool) → eqb p pc ≡ here → (here || is_among ps pc) ≡ true → verdict_at P n m b maps p falling ≡ Passes f after
      → (is_among ps pc ≡ true → IsReached pc) → IsReached pc
  here_or_later p pc ps falling f after true e h passes later = subst IsReached (eqb-true p pc e) (record { falling = falling; frame = f; after = after; passes = passes })
  here_or_later p pc ps falling f after false e h passes later = later h

  reached : (pcs : List ℕ) (falling : Option TypeFrame) (fs : List (ℕ × TypeFrame)) (behind : Option TypeFrame) → IsTypingOf P n m b maps pcs falling fs behind → (pc : ℕ) → is_among pcs pc ≡ true → IsReached pc
  reached [] falling fs behind t pc h = absurd (false≢true h)
  reached (p ∷ ps) falling [] behind t pc h = absurd t
  reached (p ∷ ps) falling (x ∷ xs) behind t pc h = here_or_later p pc ps falling x.1 t.1.0 (eqb p pc) refl h t.1.1 (reached ps t.1.0 xs behind t.1.2 pc)

  -- so each handler takes what it catches where its range begins
  pub begins : (fs : List (ℕ × TypeFrame)) (behind : Option TypeFrame) → IsTypingOf P n m b maps (starts_of b.code) (first_types m b) fs behind → (pc : ℕ) → is_among (starts_of b.code) pc ≡ true
      → (f : TypeFrame) × (handlers_hold P maps pc f b.handlers ≡ true)
  begins fs behind t pc h =
      let r = reached (starts_of b.code) (first_types m b) fs behind t pc h in
      (r.frame, is_true (handlers_hold P maps pc r.frame b.handlers) (passed P n m b maps pc r.falling r.frame r.after r.passes).handlers)

left_true : (a b : Bool) → (a && b) ≡ true → a ≡ true
left_true true b h = refl
left_true false b h = absurd (false≢true h)

right_true : (a b : Bool) → (a && b) ≡ true → b ≡ true
right_true true b h = h
right_true false b h = absurd (false≢true h)

when_true : (a b : Bool) → a ≡ true → (if a then b else true) ≡ true → b ≡ true
when_true true b e h = h
when_true false b e h = absurd (false≢true e)

-- ---- each handler of a method

module _ (laws : CodeLaws) (cs : List ClassFile) (n : ℕ) (m : Method) (k : Code) (there : IsCodeOf cs n k) where
  abbrev body : Body
  body = body_of cs n k there

  abbrev P : Program
  P = resolved cs

  abbrev handler : Entry → Handler
  handler = handler_of cs there.class

  abbrev IsSaid : Handler → Type 0
  IsSaid h = (IsBetween k.code h.start × IsBetween k.code h.end) × IfSome h.caught (λ c. IsSome (type_number P c))

  -- each handler takes what it catches at the start of its range
  abbrev Takes : Type 0
  Takes = (pc : ℕ) → is_among (starts_of k.code) pc ≡ true → (f : TypeFrame) × (handlers_hold P (maps_of cs n) pc f body.handlers ≡ true)

  abbrev test : TypeFrame → ℕ → Handler → Bool
  test f pc h = if covers pc h then is_handled P (maps_of cs n) f h else true

  covered : (x : Entry) → nat_lt x.0 x.1 ≡ true → covers x.0 (handler x) ≡ true
  covered x h = rw h (grind arith)

  one : first_bad k.code ≡ None → (x : Entry) → IsInForm k.code x → (f : TypeFrame) → test f x.0 (handler x) ≡ true → IsSaid (handler x)
  one none x is f h =
      let handled = when_true (covers x.0 (handler x)) (is_handled P (maps_of cs n) f (handler x)) (covered x is.some) h in
      let throws = left_true (is_throwable P (handler x).caught) _ handled in
      (range_between laws k.code none x is, caught_numbered cs (handler x).caught (over_caught cs there.class.pool x.3 (x.3 == 0)) throws)

  each : first_bad k.code ≡ None → Takes → (xs : List Entry) → ((t : Handler → Bool) → list_all t body.handlers ≡ true → list_all t (map handler xs) ≡ true) → AllByRecursion (λ x. is_bad_entry k.code x ≡ false) xs
      → AllByRecursion IsSaid (map handler xs)
  each none takes [] all fine = tt
  each none takes (x ∷ xs) all fine =
      let is = is_in_form k.code x fine.0 in
      let at = takes x.0 is.start in
      let here = all (test at.0 x.0) at.1 in
      (one none x is at.0 (left_true (test at.0 x.0 (handler x)) _ here), each none takes xs (λ t h. right_true (t (handler x)) (list_all t (map handler xs)) (all t h)) fine.1)

  pub handlers_said : method_failure cs n ≡ None → Takes → AllByRecursion IsSaid body.handlers
  handlers_said fails takes =
      let found = frames_of there.class there.member k in
      let first = neither (opcode_failure k.code) _ (sym (failure_is cs n k there) ∙ fails) in
      let second = neither (table_failure k.code k.handlers) (types_failure cs n (method_of cs n k there) body (first_types (method_of cs n k there) body) found) first.1 in
      each (all_whole k.code first.0) takes k.handlers (λ t h. h) (in_form k.code k.handlers second.0)

-- ---- of all methods

pub record TypingLaws : Type 0 where
  pub walks : TheWalkFindsATyping
  pub frames : FramesLaw
  pub codes : MethodsHaveCode
  pub stand : MethodsStandByNumber
  pub code : CodeLaws

abbrev IsHandled : Program → Body → Handler → Type 0
IsHandled P b h = (IsBetween b.code h.start × IsBetween b.code h.end) × IfSome h.caught (λ c. IsSome (type_number P c))

said : TypingLaws → (cs : List ClassFile) → IsResolved cs → IsVerified cs → (n : ℕ) (m : Method) (b : Body) → slice_get (resolved cs).methods n ≡ Some m → m.body ≡ Some b → AllByRecursion (IsHandled (resolved cs) b) b.handlers
unfolding IsVerified
said laws cs r v n m b e f =
    let x = has_code laws.stand cs n m b e f in
    let t = typings laws.walks laws.frames laws.codes laws.stand cs r v n m b e f in
    let typing = subst (λ (c : Body). IsTypingOf (resolved cs) n m c (maps_of cs n) (starts_of c.code) (first_types m c) t.1.0 t.1.1.behind) (sym x.body) t.1.1.typing in
    subst (λ (c : Body). AllByRecursion (IsHandled (resolved cs) c) c.handlers) x.body
    (handlers_said laws.code cs n m x.code x.there (v n) (begins (resolved cs) n m (body_of cs n x.code x.there) (maps_of cs n) t.1.0 t.1.1.behind typing))

all_right : {X : Type 0} (A B : X → Type 0) (xs : List X) → AllByRecursion (λ x. A x × B x) xs → AllByRecursion B xs
all_right A B [] h = tt
all_right A B (x ∷ xs) h = (h.0.1, all_right A B xs h.1)

all_left : {X : Type 0} (A B : X → Type 0) (xs : List X) → AllByRecursion (λ x. A x × B x) xs → AllByRecursion A xs
all_left A B [] h = tt
all_left A B (x ∷ xs) h = (h.0.0, all_left A B xs h.1)

pub catches : TypingLaws → (cs : List ClassFile) → IsResolved cs → IsVerified cs → CatchesAreNumbered (resolved cs)
catches laws cs r v n m b e f =
    All-from_recursion (λ (h : Handler). IfSome h.caught (λ c. IsSome (type_number (resolved cs) c))) b.handlers
    (all_right (λ (h : Handler). IsBetween b.code h.start × IsBetween b.code h.end) (λ (h : Handler). IfSome h.caught (λ c. IsSome (type_number (resolved cs) c))) b.handlers (said laws cs r v n m b e f))

pub tables : TypingLaws → (cs : List ClassFile) → IsResolved cs → IsVerified cs → TablesAreAtStarts (resolved cs)
tables laws cs r v n m b e f =
    All-from_recursion (λ (h : Handler). IsBetween b.code h.start × IsBetween b.code h.end) b.handlers
    (all_left (λ (h : Handler). IsBetween b.code h.start × IsBetween b.code h.end) (λ (h : Handler). IfSome h.caught (λ c. IsSome (type_number (resolved cs) c))) b.handlers (said laws cs r v n m b e f))
