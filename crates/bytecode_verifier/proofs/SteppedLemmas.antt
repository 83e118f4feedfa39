-- Frames by names that are given as changes, as frames of types.
use Rattle.std.proofs.Common.{◌≡◌, ℕ, zero, suc, ◌-◌, ◌≤◌, Bool, true, false, ◌&&◌, List, [], ◌∷◌, ◌++◌, length, map, take, append_assoc, Option, Some, None, refl, sym, ap, ap₂, ◌∙◌, inl, inr, arith}
use Rattle.std.specs.Prelude.{if◌then◌else◌, nat_le}
use Rattle.std.specs.Option.{option_map}
use Rattle.std.specs.List.{list_all, list_any}
use Rattle.std.proofs.lemmas.Bool.{cases_lt, leb-true}
use Rattle.std.proofs.lemmas.List.{append-nil, length-map, map-append}
use Rattle.class_pool.specs.declared.class.ClassFile.{ClassFile}
use Rattle.class_pool.specs.declared.class.Code.{Code}
use Rattle.class_pool.specs.declared.entry.Entry.{Entry}
use Rattle.bytecode_model.specs.Types.{Kind}
use Rattle.lists.specs.Lists.{onto}
use Rattle.lists.proofs.Lemmas.{none≢some, some_same}
use Rattle.frame_types.specs.declared.types.VarType as names
use Rattle.frame_types.specs.declared.types.VarType.TheVariants as name
use Rattle.frame_types.specs.declared.types.TypeFrame as frames
use Rattle.frame_types.specs.declared.steps.EntryType.{EntryType}
use Rattle.frame_types.specs.declared.steps.StepChange.TheVariants as steps
use Rattle.frame_types.specs.declared.steps.MapStep.{MapStep}
use Rattle.frame_types.specs.Types as by_name
use Rattle.frame_types.specs.Frames.{changed, frame_of}
use Rattle.frame_types.specs.Steps.{named, change_named, AreSteps}
use Rattle.frame_types.proofs.LocalLemmas.{padded_past}
use Rattle.bytecode_model.specs.Slots.{spread, padded}
use Rattle.bytecode_typing.specs.Types.{VarType, Top, is_long_type, is_this}
use Rattle.bytecode_typing.specs.Checks.{reference_or_top}
use Rattle.verifier_types.specs.declared.frame.TypeFrame as codes
use Rattle.verifier_types.specs.Frame.{frame_seen}
use Rattle.verifier_types.specs.Laws.{PaddingLaw}
use Rattle.verifier_types.specs.Locals.{HasListsOf, LocalTable, filled}
use Rattle.bytecode_verifier.specs.declared.names.Current.{Current}
use Rattle.bytecode_verifier.specs.Listed.{HasLocals, words_of, types_by}
use Rattle.bytecode_verifier.specs.Maps.{frames_seen}
use Rattle.bytecode_verifier.specs.Named.{type_by, frame_by, frames_by}

-- ---- which types take two words

reference_short : (k : Option Kind) → is_long_type (reference_or_top k) ≡ false
reference_short None = refl
reference_short (Some k) = refl

pub long_by : (cs : List ClassFile) (t : names.VarType) → is_long_type (type_by cs t) ≡ by_name.is_long t
long_by cs name.Top = refl
long_by cs name.Integer = refl
long_by cs name.Null = refl
long_by cs name.UninitializedThis = refl
long_by cs (name.Object n) = reference_short _
long_by cs (name.Uninitialized place) = refl
long_by cs name.Long = refl

-- ---- which types are that of an uninitialised `this`

reference_begun : (k : Option Kind) → is_this (reference_or_top k) ≡ false
reference_begun None = refl
reference_begun (Some k) = refl

pub this_by : (cs : List ClassFile) (t : names.VarType) → is_this (type_by cs t) ≡ by_name.is_this t
this_by cs name.Top = refl
this_by cs name.Integer = refl
this_by cs name.Null = refl
this_by cs name.UninitializedThis = refl
this_by cs (name.Object n) = reference_begun _
this_by cs (name.Uninitialized place) = refl
this_by cs name.Long = refl

-- ---- local variables by words

spread_case : (cs : List ClassFile) (t : names.VarType) (xs : List names.VarType) (ys : List VarType) (b d : Bool) → d ≡ b → map (type_by cs) xs ≡ ys
    → map (type_by cs) (if b then t ∷ name.Top ∷ xs else t ∷ xs) ≡ (if d then type_by cs t ∷ Top ∷ ys else type_by cs t ∷ ys)
spread_case cs t xs ys b true e h = ap (λ x. map (type_by cs) (if x then t ∷ name.Top ∷ xs else t ∷ xs)) (sym e) ∙ ap (λ l. type_by cs t ∷ Top ∷ l) h
spread_case cs t xs ys b false e h = ap (λ x. map (type_by cs) (if x then t ∷ name.Top ∷ xs else t ∷ xs)) (sym e) ∙ ap (λ l. type_by cs t ∷ l) h

pub spread_by : (cs : List ClassFile) (ts : List names.VarType) → map (type_by cs) (spread by_name.is_long name.Top ts) ≡ words_of (types_by cs ts)
spread_by cs [] = refl
spread_by cs (t ∷ ts) = spread_case cs t (spread by_name.is_long name.Top ts) (words_of (types_by cs ts)) (by_name.is_long t) (is_long_type (type_by cs t)) (long_by cs t) (spread_by cs ts)

-- what is padded has room
pub padded_fits : {A : Type 0} (unset : A) (n : ℕ) (xs ys : List A) → padded unset n xs ≡ Some ys → length xs ≤ n
padded_fits unset n xs ys e = elim (cases_lt n (length xs)) [
  | inl past ↦ absurd (none≢some ys (sym (padded_past unset n xs past) ∙ e))
  | inr fits ↦ fits
]

-- ---- what a frame by names is made of

pub record IsMade (k : Code) (after stack : List names.VarType) (f : frames.TypeFrame) : Type 0 where
  pub locals : padded name.Top k.max_locals (spread by_name.is_long name.Top after) ≡ Some f.locals
  pub operands : f.stack ≡ stack

made_case : (k : Code) (after stack : List names.VarType) (f : frames.TypeFrame) (b : Bool) (o : Option (List names.VarType)) → padded name.Top k.max_locals (spread by_name.is_long name.Top after) ≡ o
    → (if b then onto o (λ all. Some (let g : frames.TypeFrame = record { locals = all; stack = stack; flag = list_any by_name.is_this after } in g)) else None) ≡ Some f → IsMade k after stack f
made_case k after stack f true None p e = absurd (none≢some f e)
made_case k after stack f true (Some all) p e =
    let same = some_same (let g : frames.TypeFrame = record { locals = all; stack = stack; flag = list_any by_name.is_this after } in g) f e in
    record { locals = p ∙ ap (λ (g : frames.TypeFrame). Some g.locals) same; operands = sym (ap (λ (g : frames.TypeFrame). g.stack) same) }
made_case k after stack f false o p e = absurd (none≢some f e)

pub made_of : (k : Code) (after stack : List names.VarType) (f : frames.TypeFrame) → frame_of k after stack ≡ Some f → IsMade k after stack f
made_of k after stack f e =
    made_case k after stack f (nat_le (by_name.stack_words stack) k.max_stack && (list_all (by_name.names_new k.code) after && list_all (by_name.names_new k.code) stack))
    (padded name.Top k.max_locals (spread by_name.is_long name.Top after)) refl e

pub frame_fits : (cs : List ClassFile) (k : Code) (after stack : List names.VarType) (f : frames.TypeFrame) → frame_of k after stack ≡ Some f → length (words_of (types_by cs after)) ≤ k.max_locals
frame_fits cs k after stack f e =
    let made = made_of k after stack f e in
    let fits = padded_fits name.Top k.max_locals (spread by_name.is_long name.Top after) f.locals made.locals in
    let long = ap length (spread_by cs after) in
    let same = length-map (spread by_name.is_long name.Top after) (type_by cs) in
    omega (arith, fits, long, same)

mapped_case : (cs : List ClassFile) (x : names.VarType) (o : Option (List names.VarType)) → onto (option_map (map (type_by cs)) o) (λ ws. Some (type_by cs x ∷ ws)) ≡ option_map (map (type_by cs)) (onto o (λ ws. Some (x ∷ ws)))
mapped_case cs x None = refl
mapped_case cs x (Some ws) = refl

pub padded_by : (cs : List ClassFile) (n : ℕ) (xs : List names.VarType) → padded Top n (map (type_by cs) xs) ≡ option_map (map (type_by cs)) (padded name.Top n xs)
padded_by cs zero [] = refl
padded_by cs zero (x ∷ xs) = refl
padded_by cs (suc n) [] = ap (λ o. onto o (λ ws. Some (Top ∷ ws))) (padded_by cs n []) ∙ mapped_case cs name.Top (padded name.Top n [])
padded_by cs (suc n) (x ∷ xs) = ap (λ o. onto o (λ ws. Some (type_by cs x ∷ ws))) (padded_by cs n xs) ∙ mapped_case cs x (padded name.Top n xs)

-- the local variables of a frame, as the code has them
pub locals_by : PaddingLaw → (cs : List ClassFile) (k : Code) (after stack : List names.VarType) (f : frames.TypeFrame) → frame_of k after stack ≡ Some f → filled k.max_locals (words_of (types_by cs after)) ≡ map (type_by cs) f.locals
locals_by law cs k after stack f e =
    let made = made_of k after stack f e in
    some_same (filled k.max_locals (words_of (types_by cs after))) (map (type_by cs) f.locals)
    (sym (law k.max_locals (words_of (types_by cs after)) (frame_fits cs k after stack f e))
    ∙ (ap (padded Top k.max_locals) (sym (spread_by cs after)) ∙ (padded_by cs k.max_locals (spread by_name.is_long name.Top after) ∙ ap (option_map (map (type_by cs))) made.locals)))

-- ---- what an entry leaves of the local variables

pub same_after : (pool : List Entry) (before after stack : List names.VarType) → changed (change_named pool steps.Same) before ≡ Some (after, stack) → before ≡ after
same_after pool before after stack e = ap (λ (x : List names.VarType × List names.VarType). x.0) (some_same (before, []) (after, stack) e)

pub one_after : (pool : List Entry) (before after stack : List names.VarType) (t : EntryType) → changed (change_named pool (steps.OneItem t)) before ≡ Some (after, stack) → before ≡ after
one_after pool before after stack t e = ap (λ (x : List names.VarType × List names.VarType). x.0) (some_same (before, named pool t ∷ []) (after, stack) e)

pub record IsChopped (n : ℕ) (before after : List names.VarType) : Type 0 where
  pub many : n ≤ length before
  pub are : take (length before - n) before ≡ after

chop_case : (n : ℕ) (before after stack : List names.VarType) (b : Bool) → nat_le n (length before) ≡ b → (if b then Some (let x : List names.VarType × List names.VarType = (take (length before - n) before, []) in x) else None) ≡ Some (after, stack) → IsChopped n before after
chop_case n before after stack true t e = record { many = leb-true n (length before) t; are = ap (λ (x : List names.VarType × List names.VarType). x.0) (some_same (take (length before - n) before, []) (after, stack) e) }
chop_case n before after stack false t e = absurd (none≢some (after, stack) e)

pub chop_after : (pool : List Entry) (n : ℕ) (before after stack : List names.VarType) → changed (change_named pool (steps.Chop n)) before ≡ Some (after, stack) → IsChopped n before after
chop_after pool n before after stack e = chop_case n before after stack (nat_le n (length before)) refl e

pub append_after : (pool : List Entry) (before after stack : List names.VarType) (es : List EntryType) → changed (change_named pool (steps.Append es)) before ≡ Some (after, stack) → before ++ map (named pool) es ≡ after
append_after pool before after stack es e = ap (λ (x : List names.VarType × List names.VarType). x.0) (some_same (before ++ map (named pool) es, []) (after, stack) e)

pub full_after : (pool : List Entry) (before after stack : List names.VarType) (es us : List EntryType) → changed (change_named pool (steps.Full es us)) before ≡ Some (after, stack) → map (named pool) es ≡ after
full_after pool before after stack es us e = ap (λ (x : List names.VarType × List names.VarType). x.0) (some_same (map (named pool) es, map (named pool) us) (after, stack) e)

-- ---- the frames, step by step

-- the frames that are found, and what is left
pub record IsUpTo (cs : List ClassFile) (pool : List Entry) (k : Code) (t : LocalTable) (now : Current) (left : List MapStep) (found : List (ℕ × codes.TypeFrame)) (xs : List (ℕ × frames.TypeFrame)) : Type 0 where
  pub before : List names.VarType
  pub rest : List (ℕ × frames.TypeFrame)
  pub steps : AreSteps pool k before left rest
  pub locals : HasLocals t now (types_by cs before)
  pub frames : (more : List (List VarType)) → frames_seen (t.lists ++ more) found ++ frames_by cs rest ≡ frames_by cs xs

-- the next step, with its frame
pub record IsNext (pool : List Entry) (k : Code) (before : List names.VarType) (s : MapStep) (ss : List MapStep) (rest : List (ℕ × frames.TypeFrame)) : Type 0 where
  pub next : ℕ × frames.TypeFrame
  pub others : List (ℕ × frames.TypeFrame)
  pub are : rest ≡ next ∷ others
  pub after : List names.VarType
  pub stack : List names.VarType
  pub change : changed (change_named pool s.change) before ≡ Some (after, stack)
  pub frame : frame_of k after stack ≡ Some next.1
  pub place : next.0 ≡ s.place
  pub flag : next.1.flag ≡ s.flag
  pub steps : AreSteps pool k after ss others

pub next_of : (pool : List Entry) (k : Code) (before : List names.VarType) (s : MapStep) (ss : List MapStep) (rest : List (ℕ × frames.TypeFrame)) → AreSteps pool k before (s ∷ ss) rest → IsNext pool k before s ss rest
next_of pool k before s ss [] h = absurd h
next_of pool k before s ss (x ∷ xs) h = record { next = x; others = xs; are = refl; after = h.0; stack = h.1; change = h.2; frame = h.3; place = h.4; flag = h.5; steps = h.6 }

pub one_step : (cs : List ClassFile) (pool : List Entry) (k : Code) (t u : LocalTable) (now later : Current) (s : MapStep) (ss : List MapStep) (found : List (ℕ × codes.TypeFrame)) (xs : List (ℕ × frames.TypeFrame)) (g : codes.TypeFrame) → HasListsOf t u
    → (h : IsUpTo cs pool k t now (s ∷ ss) found xs) → (n : IsNext pool k h.before s ss h.rest) → HasLocals u later (types_by cs n.after) → ((more : List (List VarType)) → frame_seen (u.lists ++ more) g ≡ frame_by cs n.next.1)
    → IsUpTo cs pool k u later ss (found ++ (s.place, g) ∷ []) xs
one_step cs pool k t u now later s ss found xs g l h n locals seen = record {
  before = n.after;
  rest = n.others;
  steps = n.steps;
  locals = locals;
  frames = λ more.
      let ls = u.lists ++ more in
      let old : ls ≡ t.lists ++ (l.others ++ more) = ap (λ x. x ++ more) l.lists ∙ append_assoc t.lists l.others more in
      ap (λ x. x ++ frames_by cs n.others) (map-append (λ x. (x.0, frame_seen ls x.1)) found ((s.place, g) ∷ []))
      ∙ (append_assoc (frames_seen ls found) ((s.place, frame_seen ls g) ∷ []) (frames_by cs n.others)
      ∙ (ap (λ x. frames_seen ls found ++ x ∷ frames_by cs n.others) (ap₂ (λ a b. (a, b)) (sym n.place) (seen more))
      ∙ (ap (λ x. frames_seen ls found ++ frames_by cs x) (sym n.are) ∙ (ap (λ x. frames_seen x found ++ frames_by cs h.rest) old ∙ h.frames (l.others ++ more)))));
}

pub last_step : (cs : List ClassFile) (pool : List Entry) (k : Code) (t : LocalTable) (now : Current) (left : List MapStep) (found : List (ℕ × codes.TypeFrame)) (xs : List (ℕ × frames.TypeFrame)) (more : List (List VarType)) → left ≡ [] → (h : IsUpTo cs pool k t now left found xs) → frames_seen (t.lists ++ more) found ≡ frames_by cs xs
last_step cs pool k t now [] found xs more e h = none_left h.rest h.steps (h.frames more)
  where
    none_left : (rest : List (ℕ × frames.TypeFrame)) → AreSteps pool k h.before [] rest → frames_seen (t.lists ++ more) found ++ frames_by cs rest ≡ frames_by cs xs → frames_seen (t.lists ++ more) found ≡ frames_by cs xs
    none_left [] a f = sym (append-nil (frames_seen (t.lists ++ more) found)) ∙ f
    none_left (x ∷ xs2) a f = absurd a
last_step cs pool k t now (s ∷ ss) found xs more e h = cc
