-- The place of a fault is the least at which the rule fails.
use Rattle.std.proofs.Common.{◌≡◌, ℕ, ◌+◌, ◌<◌, ◌≤◌, ◌⊎◌, List, [], ◌∷◌, ◌++◌, Option, Some, None, Result, Ok, Err, refl, sym, ap, subst, inl, inr, arith}
use Rattle.class_pool.specs.declared.class.Code.{Code}
use Rattle.class_pool.specs.declared.class.Member.{Member}
use Rattle.class_pool.specs.declared.class.ClassFile.{ClassFile}
use Rattle.frame_types.specs.declared.types.VarType.{VarType}
use Rattle.frame_types.specs.declared.types.TypeFrame.{TypeFrame}
use Rattle.frame_types.specs.declared.types.Frames.{Frames}
use Rattle.frame_types.specs.declared.read.MapEntry.{MapEntry}
use Rattle.frame_types.specs.Table.{entries_of}
use Rattle.frame_types.specs.Locals.{first_locals}
use Rattle.frame_types.specs.Frames.{frame_of, mapped, or_fails_at, with_frames, frames_from, with_first, frames_of}
use Rattle.frame_types.specs.Laws.{FailsAtStart, FailsFrom, FailsAtEntry, FaultLaw}

abbrev Rest : Type 0
Rest = Result (List (ℕ × TypeFrame)) ℕ

ok≢err : {A : Type 0} (y : A) (place : ℕ) → Ok y ≡ Err place → ⊥
ok≢err {A} y place h =
    let is_ok_type : Result A ℕ → Type 0 = λ r. elim r as (λ _. Type 0) [ Ok _ ↦ Unit {0} | Err _ ↦ ⊥ ] in
    subst is_ok_type h tt

abbrev failed : {A : Type 0} → ℕ → Result A ℕ
failed place = Err place

err_same : {A : Type 0} (p q : ℕ) → failed {A = A} p ≡ failed q → p ≡ q
err_same {A} p q h =
    let value : Result A ℕ → ℕ = λ r. elim r as (λ _. ℕ) [ Ok _ ↦ p | Err z ↦ z ] in
    ap value h

-- what fails behind frames fails alone
rest_fails : (front : List (ℕ × TypeFrame)) (rest : Rest) (place : ℕ) → with_frames front rest ≡ Err place → rest ≡ Err place
rest_fails front (Ok fs) place h = absurd (ok≢err (front ++ fs) place h)
rest_fails front (Err other) place h = h

first_fails : (first : TypeFrame) (rest : Rest) (place : ℕ) → with_first first rest ≡ Err place → rest ≡ Err place
first_fails first (Ok fs) place h = let made : Frames = record { first = first; at = fs } in absurd (ok≢err made place h)
first_fails first (Err other) place h = ap failed (err_same other place h)

-- the entry fails here, or a later one does
at_entry : (k : Code) (next : ℕ) (locals : List VarType) (e : MapEntry) (es : List MapEntry) (place : ℕ) (made : Option (List VarType × TypeFrame)) → mapped k (next + e.offset) e.change locals ≡ made
    → or_fails_at (next + e.offset) made (λ x. with_frames ((next + e.offset, x.1) ∷ []) (frames_from k (next + e.offset + 1) x.0 es)) ≡ Err place
    → ((x : List VarType × TypeFrame) → frames_from k (next + e.offset + 1) x.0 es ≡ Err place → FailsFrom k (next + e.offset + 1) x.0 es place)
    → FailsFrom k next locals (e ∷ es) place
at_entry k next locals e es place None is h later =
    let same : next + e.offset ≡ place = err_same {A = List (ℕ × TypeFrame)} (next + e.offset) place h in
    record {
      before = [];
      here = e;
      after = es;
      are = refl;
      frames = [];
      given = refl;
      smaller = tt;
      least = omega arith;
      fails = rw is h;
    }
at_entry k next locals e es place (Some x) is h later =
    let r = later x (rest_fails ((next + e.offset, x.1) ∷ []) (frames_from k (next + e.offset + 1) x.0 es) place h) in
    let bound : next + e.offset + 1 ≤ place = r.least in
    let here : next + e.offset < place = omega arith in
    record {
      before = e ∷ r.before;
      here = r.here;
      after = r.after;
      are = ap (λ (q : List MapEntry). e ∷ q) r.are;
      frames = (next + e.offset, x.1) ∷ r.frames;
      given = rw (is, r.given) refl;
      smaller = (here, r.smaller);
      least = omega arith;
      fails = rw (is, r.fails) refl;
    }

fails_from : (k : Code) (next : ℕ) (locals : List VarType) (es : List MapEntry) (place : ℕ) → frames_from k next locals es ≡ Err place → FailsFrom k next locals es place
fails_from k next locals [] place h = let none : List (ℕ × TypeFrame) = [] in absurd (ok≢err none place h)
fails_from k next locals (e ∷ es) place h =
    at_entry k next locals e es place (mapped k (next + e.offset) e.change locals) refl h (λ x. fails_from k (next + e.offset + 1) x.0 es place)

Outcome : ClassFile → Member → Code → ℕ → Type 0
Outcome c m k place = ((place ≡ 0) × FailsAtStart c m k) ⊎ FailsAtEntry c m k place

at_frame : (c : ClassFile) (m : Member) (k : Code) (place : ℕ) (es : List MapEntry) (locals : List VarType) (first : Option TypeFrame) → entries_of c.pool k ≡ Some es → first_locals c m ≡ Some locals → frame_of k locals [] ≡ first
    → or_fails_at 0 first (λ f. with_first f (frames_from k 0 locals es)) ≡ Err place → Outcome c m k place
unfolding Outcome
at_frame c m k place es locals None has begins is h = inl (sym (err_same {A = Frames} 0 place h), inr (rw (begins, is) refl))
at_frame c m k place es locals (Some f) has begins is h =
    inr (record { entries = es; locals = locals; entries_are = has; locals_are = begins; at = fails_from k 0 locals es place (first_fails f (frames_from k 0 locals es) place h) })

at_locals : (c : ClassFile) (m : Member) (k : Code) (place : ℕ) (es : List MapEntry) (locals : Option (List VarType)) → entries_of c.pool k ≡ Some es → first_locals c m ≡ locals
    → or_fails_at 0 locals (λ ls. or_fails_at 0 (frame_of k ls []) (λ f. with_first f (frames_from k 0 ls es))) ≡ Err place → Outcome c m k place
unfolding Outcome
at_locals c m k place es None has is h = inl (sym (err_same {A = Frames} 0 place h), inr (rw is refl))
at_locals c m k place es (Some ls) has is h = at_frame c m k place es ls (frame_of k ls []) has is refl h

at_table : (c : ClassFile) (m : Member) (k : Code) (place : ℕ) (entries : Option (List MapEntry)) → entries_of c.pool k ≡ entries
    → or_fails_at 0 entries (λ es. or_fails_at 0 (first_locals c m) (λ ls. or_fails_at 0 (frame_of k ls []) (λ f. with_first f (frames_from k 0 ls es)))) ≡ Err place → Outcome c m k place
unfolding Outcome
at_table c m k place None is h = inl (sym (err_same {A = Frames} 0 place h), inl is)
at_table c m k place (Some es) is h = at_locals c m k place es (first_locals c m) is refl h

pub fault_law : FaultLaw
unfolding frames_of Outcome
fault_law c m k place h = at_table c m k place (entries_of c.pool k) refl h
