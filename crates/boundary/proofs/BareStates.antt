-- The states of bare images have one frame of ints.
use Rattle.std.proofs.Common.{◌≡◌, ℕ, zero, suc, Bool, true, false, ◌==◌, List, [], ◌∷◌, Some, refl, sym, ◌∙◌, ap, subst, ◌⊎◌, inl, inr, replicate}
use Rattle.std.specs.Prelude.{IfSome, IsSomeAnd, slice_get, if◌then◌else◌}
use Rattle.image_file.specs.Bare.{BareContent}
use Rattle.opcodes.specs.Start.{starts_of}
use Rattle.bytecode_model.specs.declared.Value.{Value}
use Rattle.bytecode_model.specs.declared.Value.TheVariants.{Int, Long, Ref, Null, Unset}
use Rattle.bytecode_model.specs.declared.Ending.{Ending}
use Rattle.bytecode_model.specs.declared.Ending.TheVariants.{Running, Raising, Ended, Uncaught}
use Rattle.bytecode_model.specs.State.{Object, Frame, State}
use Rattle.bytecode_model.specs.Program.{Program, Method, Body}
use Rattle.bytecode_model.specs.Rows as rows
use Rattle.bytecode_model.specs.Rows.{Row}
use Rattle.bytecode_model.specs.Steps.{step, row_in}
use Rattle.bytecode_typing.specs.Tests.{AllTwo}
use Rattle.bytecode_typing.specs.Types.{Integer, TypeFrame}
use Rattle.bytecode_typing.specs.Typed.{Typing, Typed, RaisesNothing}
use Rattle.bytecode_typing.specs.Typings.{frame_among}
use Rattle.bytecode_typing.specs.Bare.{bare_program, bare_typing, int_frame, int_frames, depth_after}
use Rattle.bytecode_typing.specs.Fits.{Fits, IsGoing, FramesFit, TopFits, CallersFit, MayHaveCalled, Has, HasItem, HasDeclared, ObjectFits, numbers_of}
use Rattle.bytecode_typing.specs.Laws.{TypedProgramsKeep, FittingStatesAreWellFormed}
use Rattle.machine_stands.specs.Bare as bare
use Rattle.boundary.specs.Setting.{limits, bare_setting}
use Rattle.boundary.specs.Laws.{BareImagesArePrograms}
use Rattle.boundary.specs.BareStates.{AreInts, IsBareState, HaveBareStates}
use Rattle.boundary.proofs.BareStepping.{images_step, not_raising}
use Rattle.boundary.proofs.Stages.{some_at, if_at}

-- ---- values

ints_by : (P : Program) (n : ℕ) (m : Method) (ks : List ℕ) (count : ℕ) (vs : List Value) → AllTwo (Has P n m ks) (replicate count Integer) vs → AreInts count vs
ints_by P n m ks zero [] h = tt
ints_by P n m ks zero (v ∷ vs) h = h
ints_by P n m ks (suc count) [] h = h
ints_by P n m ks (suc count) (Int i ∷ vs) h = (h.0, ints_by P n m ks count vs h.1)
ints_by P n m ks (suc count) (Long i ∷ vs) h = absurd h.0
ints_by P n m ks (suc count) (Ref p ∷ vs) h = absurd h.0
ints_by P n m ks (suc count) (Null ∷ vs) h = absurd h.0
ints_by P n m ks (suc count) (Unset ∷ vs) h = absurd h.0

items_by : (P : Program) (n : ℕ) (m : Method) (ks : List ℕ) (count : ℕ) (vs : List Value) → AllTwo (HasItem P n m ks) (replicate count Integer) vs → AreInts count vs
items_by P n m ks zero [] h = tt
items_by P n m ks zero (v ∷ vs) h = h
items_by P n m ks (suc count) [] h = h
items_by P n m ks (suc count) (Int i ∷ vs) h = (h.0.0, items_by P n m ks count vs h.1)
items_by P n m ks (suc count) (Long i ∷ vs) h = absurd h.0.0
items_by P n m ks (suc count) (Ref p ∷ vs) h = absurd h.0.0
items_by P n m ks (suc count) (Null ∷ vs) h = absurd h.0.0
items_by P n m ks (suc count) (Unset ∷ vs) h = absurd h.0.0

-- ---- frames

-- each frame of types is of ints
int_among : (b : Body) (pcs : List ℕ) (d pc : ℕ) (t : TypeFrame) → frame_among (int_frames b pcs d) pc ≡ Some t → (k : ℕ) × (t ≡ int_frame b k)
int_among b [] d pc t h = absurd (cc)
int_among b (q ∷ pcs) d pc t h = by (q == pc) h (λ other. int_among b pcs (depth_after b d (row_in (bare_program b) 0 q)) pc t other)
  where
    by : (here : Bool) → (if here then Some (int_frame b d) else frame_among (int_frames b pcs (depth_after b d (row_in (bare_program b) 0 q))) pc) ≡ Some t
        → (frame_among (int_frames b pcs (depth_after b d (row_in (bare_program b) 0 q))) pc ≡ Some t → (k : ℕ) × (t ≡ int_frame b k)) → (k : ℕ) × (t ≡ int_frame b k)
    by true h later = (d, (let e : t ≡ int_frame b d = cc in e))
    by false h later = later h

-- of a method and a place with a frame of types
record IsTypedAt (b : Body) (n pc : ℕ) (t : TypeFrame) : Type 0 where
  boot : n ≡ 0
  depth : ℕ
  ints : t ≡ int_frame b depth

typed_at : (b : Body) (n pc : ℕ) (t : TypeFrame) → bare_typing b n pc ≡ Some t → IsTypedAt b n pc t
typed_at b zero pc t h = let among = int_among b (starts_of b.code) 0 pc t h in record { boot = refl; depth = among.0; ints = among.1 }
typed_at b (suc n) pc t h = absurd (cc)

-- no quiet row calls
never_calls : (P : Program) (r : Row) (callee : ℕ) → RaisesNothing r → MayHaveCalled P r callee → ⊥
never_calls P (rows.CallStatic c) callee quiet calls = quiet
never_calls P (rows.CallSpecial named c) callee quiet calls = quiet
never_calls P (rows.CallVirtual named c) callee quiet calls = quiet
never_calls P (rows.CallInterface named c) callee quiet calls = quiet
never_calls P r callee quiet calls = calls

module _ (image : BareContent) (n size : ℕ) (typed : Typed (bare_setting image n size).program (bare_setting image n size).types) where
  abbrev P : Program
  P = (bare_setting image n size).program

  abbrev types : Typing
  types = (bare_setting image n size).types

  abbrev b : Body
  b = bare.body_of image

  -- no frame waits for another one
  none_waits : (ks : List ℕ) (callee : ℕ) (fs : List Frame) → CallersFit P types ks callee fs → fs ≡ []
  none_waits ks callee [] h = refl
  none_waits ks callee (c ∷ fs) h =
      let waits = h.0 in
      let quiet = some_at (row_in P c.method c.pc) (waits.next, waits.row) (λ x. RaisesNothing x.1) waits.at_invoke (if_at (types c.method c.pc) waits.fits.frame (λ f. IsSomeAnd (row_in P c.method c.pc) (λ x. RaisesNothing x.1)) waits.fits.at_place (typed.quiet refl c.method c.pc)) in
      absurd (never_calls P waits.row callee quiet waits.may_call)

  -- there is no object, and no static field
  no_objects : (os : List Object) (ks : List ℕ) → ((p : ℕ) → IfSome (slice_get os p) (ObjectFits P ks)) → os ≡ []
  no_objects [] ks h = refl
  no_objects (o ∷ os) ks h = absurd (h 0)

  no_statics : (vs : List Value) (ks : List ℕ) → AllTwo (HasDeclared P ks) P.statics vs → vs ≡ []
  no_statics [] ks h = refl
  no_statics (v ∷ vs) ks h = absurd h

  -- a state with these frames, whose top one fits
  bare_state : (s : State) (f : Frame) (fs : List Frame) → s.frames ≡ f ∷ fs → (s.mode ≡ Running) ⊎ (s.mode ≡ Ended) → Fits P types (limits (bare_setting image n size)) s
      → TopFits P types (numbers_of s.objects) f → CallersFit P types (numbers_of s.objects) f.method fs → IsBareState image s
  bare_state s f fs frames mode fits top callers =
      let at = typed_at b f.method f.pc top.fits.frame top.fits.at_place in
      record {
        frame = f;
        only = frames ∙ ap (λ rest. f ∷ rest) (none_waits (numbers_of s.objects) f.method fs callers);
        boot = at.boot;
        objects = no_objects s.objects (numbers_of s.objects) fits.objects;
        statics = no_statics s.statics (numbers_of s.objects) fits.statics;
        mode = mode;
        locals = ints_by P f.method top.fits.method (numbers_of s.objects) image.max_locals f.locals (subst (λ (t : TypeFrame). AllTwo (Has P f.method top.fits.method (numbers_of s.objects)) t.locals f.locals) at.ints top.fits.locals);
        depth = at.depth;
        place = ap (λ k. bare_typing b k f.pc) (sym at.boot) ∙ top.fits.at_place ∙ ap Some at.ints;
        operands = items_by P f.method top.fits.method (numbers_of s.objects) at.depth f.operands (subst (λ (t : TypeFrame). AllTwo (HasItem P f.method top.fits.method (numbers_of s.objects)) t.stack f.operands) at.ints top.operands);
      }

  by_frames : (s : State) (fs : List Frame) (mode : Ending) → s.frames ≡ fs → s.mode ≡ mode → Fits P types (limits (bare_setting image n size)) s
      → FramesFit P types (numbers_of s.objects) mode fs → ((c : ℕ) → s.mode ≡ Uncaught c → ⊥) → IsBareState image s
  by_frames s [] mode frames is fits h caught = absurd h
  by_frames s (f ∷ fs) Running frames is fits h caught = bare_state s f fs frames (inl is) fits h.0 h.1
  by_frames s (f ∷ fs) Ended frames is fits h caught = bare_state s f fs frames (inr is) fits h.0 h.1
  by_frames s (f ∷ fs) (Raising p) frames is fits h caught = absurd (not_raising image n size s p is fits)
  by_frames s (f ∷ fs) (Uncaught c) frames is fits h caught = absurd (caught c is)

  pub fits_bare : (s : State) → Fits P types (limits (bare_setting image n size)) s → ((c : ℕ) → s.mode ≡ Uncaught c → ⊥) → IsBareState image s
  fits_bare s fits caught = by_frames s s.frames s.mode refl refl fits fits.frames caught

caught_by : (mode : Ending) → (mode ≡ Running) ⊎ (mode ≡ Ended) → (c : ℕ) → mode ≡ Uncaught c → ⊥
caught_by mode (inl running) c is = let clash : Running ≡ Uncaught c = sym running ∙ is in cc
caught_by mode (inr ended) c is = let clash : Ended ≡ Uncaught c = sym ended ∙ is in cc

pub have_bare_states : BareImagesArePrograms → TypedProgramsKeep → FittingStatesAreWellFormed → HaveBareStates
have_bare_states programs keep well = record {
  fit = λ image n size s grammar fits caught. fits_bare image n size (programs image n size grammar).typed s fits caught;
  next = λ image n size m answer s t grammar stage mode byte is.
      let g = bare_setting image n size in
      let setting = programs image n size grammar in
      let stepped = images_step programs keep well image n size m answer s t grammar stage mode byte is in
      let fits = some_at (step g.program (limits g) answer s) t (Fits g.program g.types (limits g)) is (keep g.program g.types (limits g) setting.lawful setting.typed s (subst IsGoing (sym mode) tt) stage.fits answer byte) in
      fits_bare image n size setting.typed t fits (caught_by t.mode stepped.mode);
}
