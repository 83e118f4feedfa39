-- The steps of a StackMapTable, one after the other, as a loop makes them.
use Rattle.std.proofs.Common.{◌≡◌, ℕ, suc, ◌+◌, ◌<◌, ◌≤◌, Bool, true, false, ◌&&◌, List, [], ◌∷◌, ◌++◌, length, get_or, drop, Option, Some, None, Result, Ok, Err, refl, sym, ap, ap₂, subst, ◌∙◌, append_assoc, arith}
use Rattle.std.specs.Prelude.{if◌then◌else◌, nat_le, map, IfOk}
use Rattle.std.specs.List.{list_all}
use Rattle.std.proofs.lemmas.List.{append-nil, drop_all, length-map, get_or-map}
use Rattle.lists.specs.Lists.{onto}
use Rattle.lists.proofs.Lemmas.{none≢some, some_same, if_at}
use Rattle.class_pool.specs.declared.entry.Entry.{Entry}
use Rattle.class_pool.specs.declared.class.Code.{Code}
use Rattle.class_pool.specs.declared.class.Member.{Member}
use Rattle.class_pool.specs.declared.class.ClassFile.{ClassFile}
use Rattle.frame_types.specs.declared.types.VarType.{VarType}
use Rattle.frame_types.specs.declared.types.TypeFrame.{TypeFrame}
use Rattle.frame_types.specs.declared.types.Frames.{Frames}
use Rattle.frame_types.specs.declared.types.MapFault.{MapFault}
use Rattle.frame_types.specs.declared.types.MapFault.TheVariants as faults
use Rattle.frame_types.specs.declared.read.Change.{Change}
use Rattle.frame_types.specs.declared.read.MapEntry.{MapEntry}
use Rattle.frame_types.specs.declared.read.StepEntry.{StepEntry}
use Rattle.frame_types.specs.declared.steps.FirstLocal.{FirstLocal}
use Rattle.frame_types.specs.declared.steps.MapStep.{MapStep}
use Rattle.frame_types.specs.declared.extents.Extent.{Extent}
use Rattle.frame_types.specs.Types.{is_start, stack_words, names_new}
use Rattle.frame_types.specs.Locals.{first_locals}
use Rattle.frame_types.specs.Frames.{changed, frame_of, mapped, or_fails_at, with_frames, with_first, frames_from}
use Rattle.frame_types.specs.Steps.{AreSteps, IsStepwise, change_named, first_local}
use Rattle.frame_types.specs.Extents.{whole_extent, extents_behind, last_extent, first_words, first_extents, fit, entry_named, AreLocals, Makes, MakesAt, StepsGive, frames_with}
use Rattle.frame_types.proofs.GivenLemmas.{the_frame}
use Rattle.frame_types.proofs.CauseLemmas.{first_news, with_none}
use Rattle.frame_types.proofs.ExtentLemmas.{last_this, firsts_behind, firsts_words}
use Rattle.frame_types.proofs.MakesLemmas.{frame_is}
use Rattle.frame_types.proofs.WalkLemmas.{next_entry, walk_goes_on_at}

-- ---- an entry

module _ (k : Code) (place : ℕ) (ch : Change) (ls : List VarType) where
  abbrev framed : List VarType × List VarType → Option (List VarType × TypeFrame)
  framed x = onto (frame_of k x.0 x.1) (λ f. Some (x.0, f))

  abbrev started : Bool → Option (List VarType × TypeFrame)
  started b = if b then onto (changed ch ls) framed else None

  pub mapped_to : (es : List Extent) (m : MakesAt k place ch ls es true) → mapped k place ch ls ≡ Some (m.1.0, m.1.2)
  mapped_to es m = ap started m.0 ∙ (ap (λ o. onto o framed) m.1.3 ∙ ap (λ o. onto o (λ f. Some (m.1.0, f))) m.1.4)

  framed_none : (o : Option (List VarType × List VarType)) → onto o (λ x. frame_of k x.0 x.1) ≡ None → onto o framed ≡ None
  framed_none None h = refl
  framed_none (Some x) h = ap (λ o. onto o (λ f. Some (x.0, f))) h

  pub mapped_none : (es : List Extent) → MakesAt k place ch ls es false → mapped k place ch ls ≡ None
  mapped_none es m = by (is_start k.code place) refl
    where
      by : (b : Bool) → is_start k.code place ≡ b → started b ≡ None
      by true e = framed_none (changed ch ls) (m e)
      by false e = refl

  -- where an instruction begins
  pub makes_there : (es : List Extent) → is_start k.code place ≡ true → (made : Bool) → Makes k ch ls es made → MakesAt k place ch ls es made
  makes_there es start true h = (start, h)
  makes_there es start false h = λ _. h

pub if_ok_all : {A E : Type 0} (r : Result A E) (P Q : A → Type 0) → ((x : A) → P x → Q x) → IfOk r P → IfOk r Q
if_ok_all (Ok x) P Q f h = f x h
if_ok_all (Err e) P Q f h = tt

-- ---- the entries so far

-- so many entries gave these steps, and the walk goes on from a place
pub record SoFar (pool : List Entry) (k : Code) (es : List MapEntry) (ls : List VarType) (next i : ℕ) (extents : List Extent) (at : List MapStep) : Type 0 where
  pub locals : List VarType
  pub front : List (ℕ × TypeFrame)
  pub are : AreLocals k locals extents
  pub walk : with_frames front (frames_from k next locals (drop i es)) ≡ frames_from k 0 ls es
  pub steps : (ss : List MapStep) (xs : List (ℕ × TypeFrame)) → AreSteps pool k locals ss xs → AreSteps pool k ls (at ++ ss) (front ++ xs)

-- an entry among them, with names
pub entry_there : (pool : List Entry) (entries : List StepEntry) (i : ℕ) (e : StepEntry) → (i < length entries) × (e ≡ get_or entries i e) → (i < length (map (entry_named pool) entries)) × (entry_named pool e ≡ get_or (map (entry_named pool) entries) i (entry_named pool e))
entry_there pool entries i e h =
    let long = length-map entries (entry_named pool) in
    let lt = h.0 in
    (omega (arith, long, lt), ap (entry_named pool) h.1 ∙ sym (get_or-map (entry_named pool) entries i e (entry_named pool e) h.0))

pub none_left : (pool : List Entry) (entries : List StepEntry) (i : ℕ) → i ≡ length entries → length (map (entry_named pool) entries) ≤ i
none_left pool entries i h = let long = length-map entries (entry_named pool) in omega (arith, long, h)

module _ (pool : List Entry) (k : Code) (es : List MapEntry) (ls : List VarType) where
  pub begins : (extents : List Extent) → AreLocals k ls extents → SoFar pool k es ls 0 0 extents []
  begins extents h = record { locals = ls; front = []; are = h; walk = with_none (frames_from k 0 ls es); steps = λ ss xs g. g }

  pub goes_on : (next i : ℕ) (extents new : List Extent) (at : List MapStep) (e : MapEntry) (step : MapStep) → i < length es → e ≡ get_or es i e → step.place ≡ next + e.offset → change_named pool step.change ≡ e.change
      → step.flag ≡ (last_extent (whole_extent k.max_locals) new).this → ((before : List VarType) → AreLocals k before extents → MakesAt k step.place (change_named pool step.change) before new true)
      → SoFar pool k es ls next i extents at → SoFar pool k es ls (step.place + 1) (i + 1) new (at ++ step ∷ [])
  goes_on next i extents new at e step lt is here same flag makes so_far =
      let m = makes so_far.locals so_far.are in
      let after = m.1.0 in
      let f = m.1.2 in
      let gives : mapped k step.place e.change so_far.locals ≡ Some (after, f) =
      ap (λ (ch : Change). mapped k step.place ch so_far.locals) (sym same) ∙ mapped_to k step.place (change_named pool step.change) so_far.locals new m
      in
      let flags : f.flag ≡ step.flag =
      m.1.5 ∙ (sym (ap (λ (l : List Extent). (last_extent (whole_extent k.max_locals) l).this) m.1.6.extents ∙ last_this (whole_extent k.max_locals) after) ∙ sym flag)
      in
      record {
        locals = after;
        front = so_far.front ++ (step.place, f) ∷ [];
        are = m.1.6;
        walk = walk_goes_on_at k so_far.front next so_far.locals es i e step.place (after, f) (frames_from k 0 ls es) lt is here gives so_far.walk;
        steps = λ ss xs g.
            let all : AreSteps pool k ls (at ++ step ∷ ss) (so_far.front ++ (step.place, f) ∷ xs) = so_far.steps (step ∷ ss) ((step.place, f) ∷ xs) (after, m.1.1, m.1.3, m.1.4, refl, flags, g) in
            subst (λ (l : List (ℕ × TypeFrame)). AreSteps pool k ls ((at ++ step ∷ []) ++ ss) l) (sym (append_assoc so_far.front ((step.place, f) ∷ []) xs)) (subst (λ (l : List MapStep). AreSteps pool k ls l (so_far.front ++ (step.place, f) ∷ xs)) (sym (append_assoc at (step ∷ []) ss)) all);
      }

  pub stops : (next i : ℕ) (extents new : List Extent) (at : List MapStep) (e : MapEntry) (place : ℕ) (change : Change) → i < length es → e ≡ get_or es i e → place ≡ next + e.offset → change ≡ e.change
      → ((before : List VarType) → AreLocals k before extents → MakesAt k place change before new false) → SoFar pool k es ls next i extents at → frames_from k 0 ls es ≡ Err place
  stops next i extents new at e place change lt is here same makes so_far =
      let locals = so_far.locals in
      let none : mapped k (next + e.offset) e.change locals ≡ None =
      ap (λ (p : ℕ). mapped k p e.change locals) (sym here) ∙ (ap (λ (ch : Change). mapped k place ch locals) (sym same) ∙ mapped_none k place change locals new (makes locals so_far.are))
      in
      let go : List VarType × TypeFrame → Result (List (ℕ × TypeFrame)) ℕ = λ x. with_frames ((next + e.offset, x.1) ∷ []) (frames_from k (next + e.offset + 1) x.0 (drop (suc i) es)) in
      let step : frames_from k next locals (e ∷ drop (suc i) es) ≡ Err (next + e.offset) = ap (λ o. or_fails_at (next + e.offset) o go) none in
      sym so_far.walk
      ∙ (ap (λ (q : List MapEntry). with_frames so_far.front (frames_from k next locals q)) (next_entry es i e lt is)
      ∙ (ap (with_frames so_far.front) step ∙ ap (λ (p : ℕ). let r : Result (List (ℕ × TypeFrame)) ℕ = Err p in r) (sym here)))

  pub ends : (next i : ℕ) (extents : List Extent) (at : List MapStep) → length es ≤ i → SoFar pool k es ls next i extents at → (fs : List (ℕ × TypeFrame)) × (frames_from k 0 ls es ≡ Ok fs) × AreSteps pool k ls at fs
  ends next i extents at le so_far =
      let none : frames_from k next so_far.locals (drop i es) ≡ Ok [] = ap (frames_from k next so_far.locals) (drop_all i es le) in
      let all : AreSteps pool k ls (at ++ []) (so_far.front ++ []) = so_far.steps [] [] tt in (
        so_far.front,
        sym so_far.walk ∙ (ap (with_frames so_far.front) none ∙ ap (λ (l : List (ℕ × TypeFrame)). let r : Result (List (ℕ × TypeFrame)) ℕ = Ok l in r) (append-nil so_far.front)),
        subst (λ (l : List (ℕ × TypeFrame)). AreSteps pool k ls at l) (append-nil so_far.front) (subst (λ (l : List MapStep). AreSteps pool k ls l (so_far.front ++ [])) (append-nil at) all),
      )

-- ---- a method

pub none_if : {A : Type 0} (b : Bool) (x : A) → None ≡ (if b then Some x else None) → b ≡ false
none_if true x h = absurd (none≢some x h)
none_if false x h = refl

pub some_if : {A : Type 0} (b : Bool) (x y : A) → Some y ≡ (if b then Some x else None) → (b ≡ true) × (y ≡ x)
some_if true x y h = (refl, some_same y x h)
some_if false x y h = absurd (none≢some y (sym h))

module _ (c : ClassFile) (m : Member) (k : Code) (es : List MapEntry) where
  both : (a b : Bool) → a ≡ true → b ≡ true → (a && b) ≡ true
  both true b p q = q
  both false b p q = p

  pub first_fits : (ls : List VarType) → first_locals c m ≡ Some ls → nat_le (stack_words ls) k.max_locals ≡ true → fit k.code k.max_locals ls ≡ true
  first_fits ls e room = both (nat_le (stack_words ls) k.max_locals) (list_all (names_new k.code) ls) room (if_at (first_locals c m) ls (λ ts. list_all (names_new k.code) ts ≡ true) e (first_news k.code c m))

  tests : (ls : List VarType) (w : Bool) → nat_le (stack_words ls) k.max_locals ≡ w → first_locals c m ≡ Some ls → (fit k.code k.max_locals ls && fit k.code k.max_stack []) ≡ w
  tests ls true e is = both (fit k.code k.max_locals ls) (fit k.code k.max_stack []) (first_fits ls is e) (let z : nat_le 0 k.max_stack ≡ true = grind arith in ap (λ b. b && true) z)
  tests ls false e is = ap (λ b. (b && list_all (names_new k.code) ls) && fit k.code k.max_stack []) e

  first_is : (ls : List VarType) (w : Bool) → nat_le (stack_words ls) k.max_locals ≡ w → first_locals c m ≡ Some ls → frame_of k ls [] ≡ (if w then Some (the_frame k ls []) else None)
  first_is ls w e is = frame_is k ls [] ∙ ap (λ (b : Bool). let o : Option TypeFrame = if b then Some (the_frame k ls []) else None in o) (tests ls w e is)

  abbrev rest : List VarType → TypeFrame → Result Frames ℕ
  rest ls first = with_first first (frames_from k 0 ls es)

  frames_are : (ls : List VarType) (o : Option TypeFrame) → first_locals c m ≡ Some ls → frame_of k ls [] ≡ o → frames_with c m k es ≡ or_fails_at 0 o (rest ls)
  frames_are ls o e f = ap (λ p. or_fails_at 0 p (λ locals. or_fails_at 0 (frame_of k locals []) (rest locals))) e ∙ ap (λ p. or_fails_at 0 p (rest ls)) f

  pub no_room : (ls : List VarType) → first_locals c m ≡ Some ls → nat_le (stack_words ls) k.max_locals ≡ false → frames_with c m k es ≡ Err 0
  no_room ls e room = frames_are ls None e (first_is ls false room e)

  -- the steps of a method that begins with these local variables, which have room
  pub steps_are : (ls : List VarType) (r : Result (List MapStep) MapFault) → first_locals c m ≡ Some ls → nat_le (stack_words ls) k.max_locals ≡ true → StepsGive c.pool k ls r (frames_from k 0 ls es) → IsStepwise c m k r (frames_with c m k es)
  steps_are ls (Ok at) e room h =
      let first = first_is ls true room e in
      (record { first = the_frame k ls []; at = h.0 }, ls, frames_are ls (Some (the_frame k ls [])) e first ∙ ap (with_first (the_frame k ls [])) h.1, e, first, h.2)
  steps_are ls (Err (faults.Bad place)) e room h = frames_are ls (Some (the_frame k ls [])) e (first_is ls true room e) ∙ ap (with_first (the_frame k ls [])) h
  steps_are ls (Err faults.NoMemory) e room h = tt

  -- where it begins with these
  pub begun_room : (first : List FirstLocal) (ls : List VarType) (o : Option (List Extent)) → map first_local ls ≡ first → o ≡ (if nat_le (first_words first) k.max_locals then Some (first_extents (whole_extent k.max_locals) first) else None)
      → o ≡ (if nat_le (stack_words ls) k.max_locals then Some (extents_behind (whole_extent k.max_locals) ls) else None)
  begun_room first ls o is e =
      e
      ∙ (ap (λ (l : List FirstLocal). if nat_le (first_words l) k.max_locals then Some (first_extents (whole_extent k.max_locals) l) else None) (sym is)
      ∙ ap₂ (λ (n : ℕ) (x : List Extent). if nat_le n k.max_locals then Some x else None) (firsts_words ls) (firsts_behind (whole_extent k.max_locals) ls))
