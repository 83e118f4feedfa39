-- The frames that the entries of a StackMapTable give, or why they give none.
use Rattle.std.proofs.Common.{◌≡◌, ℕ, ◌+◌, ◌<◌, ◌≤◌, Bool, true, false, ◌&&◌, List, [], ◌∷◌, ◌++◌, ◌⊎◌, Option, Some, None, Result, Ok, Err, refl, sym, ap, ◌∙◌, subst, inl, inr, arith}
use Rattle.std.specs.Prelude.{if◌then◌else◌, ◌==◌, IfSome, Contains}
use Rattle.std.specs.List.{list_all}
use Rattle.std.proofs.lemmas.List.{append-nil}
use Rattle.lists.specs.Lists.{onto}
use Rattle.descriptors.specs.declared.descriptor.Element.{Element}
use Rattle.descriptors.specs.declared.descriptor.Element.TheVariants as elements
use Rattle.descriptors.specs.declared.descriptor.FieldType.{FieldType}
use Rattle.descriptors.specs.declared.descriptor.MethodType.{MethodType}
use Rattle.descriptors.specs.Descriptors.{type_units}
use Rattle.descriptors.specs.Parsing.{method_in}
use Rattle.class_pool.specs.declared.class.Code.{Code}
use Rattle.class_pool.specs.declared.class.Member.{Member}
use Rattle.class_pool.specs.declared.class.ClassFile.{ClassFile}
use Rattle.class_lookup.specs.Parts.{name_of, is_static}
use Rattle.class_pool.specs.Grammar.{text_at}
use Rattle.frame_types.specs.declared.types.VarType.{VarType}
use Rattle.frame_types.specs.declared.types.VarType.TheVariants.{UninitializedThis, Object, Uninitialized}
use Rattle.frame_types.specs.declared.types.TypeFrame.{TypeFrame}
use Rattle.frame_types.specs.declared.types.Frames.{Frames}
use Rattle.frame_types.specs.declared.read.MapEntry.{MapEntry}
use Rattle.frame_types.specs.Types.{stack_words, is_start, names_new}
use Rattle.frame_types.specs.Table.{entries_of}
use Rattle.frame_types.specs.Locals.{element_type, type_of, types_of, begins_uninitialized, this_types, first_locals}
use Rattle.frame_types.specs.Frames.{frame_of, mapped, or_fails_at, with_frames, frames_from, with_first, frames_of}
use Rattle.frame_types.specs.Given.{IsFrame, HasNoFrame, TooManyLocals, TooDeep, NoNew, BreaksEntry, Give, BreakAt, BreaksMap, NoTable, NoTypes, NoFirst, NoEntry, GivesFrames}
use Rattle.frame_types.specs.Laws.{FramesAreGiven, FaultsHaveCauses}
use Rattle.frame_types.proofs.GivenLemmas.{the_frame, frame_same, FrameCases, frame_cases, Makes, MapCases, map_cases, makes_is, breaks_is, all_news, all_append}

abbrev Rest : Type 0
Rest = Result (List (ℕ × TypeFrame)) ℕ

pub with_none : (r : Rest) → with_frames [] r ≡ r
with_none (Ok fs) = refl
with_none (Err place) = refl

with_more : (x : ℕ × TypeFrame) (xs : List (ℕ × TypeFrame)) (r : Rest) → with_frames (x ∷ []) (with_frames xs r) ≡ with_frames (x ∷ xs) r
with_more x xs (Ok fs) = refl
with_more x xs (Err place) = refl

-- ---- entries that give frames

abbrev go : Code → (place : ℕ) → List MapEntry → List VarType × TypeFrame → Rest
go k place es x = with_frames ((place, x.1) ∷ []) (frames_from k (place + 1) x.0 es)

give_is : (k : Code) (next : ℕ) (ls : List VarType) (es : List MapEntry) (fs : List (ℕ × TypeFrame)) (left : ℕ × List VarType) (rest : List MapEntry) → Give k next ls es fs left → frames_from k next ls (es ++ rest) ≡ with_frames fs (frames_from k left.0 left.1 rest)
give_is k next ls [] [] left rest h = ap (λ (x : ℕ × List VarType). frames_from k x.0 x.1 rest) h ∙ sym (with_none (frames_from k left.0 left.1 rest))
give_is k next ls [] (x ∷ xs) left rest h = absurd h
give_is k next ls (e ∷ es) [] left rest h = absurd h
give_is k next ls (e ∷ es) (x ∷ xs) left rest h =
    let place : ℕ = next + e.offset in
    let after = h.2.0 in
    let makes : Makes k place e.change ls after x.1 = record { stack = h.2.1; starts = ap (is_start k.code) (sym h.0) ∙ h.1; changes = h.2.2; fits = h.2.3; frame = h.2.4 } in
    ap (λ o. or_fails_at place o (go k place (es ++ rest))) (makes_is k place e.change ls after x.1 makes)
    ∙ (ap (λ (q : ℕ). with_frames ((q, x.1) ∷ []) (frames_from k (q + 1) after (es ++ rest))) (sym h.0)
    ∙ (ap (with_frames (x ∷ [])) (give_is k (x.0 + 1) after es xs left rest h.2.5) ∙ with_more x xs (frames_from k left.0 left.1 rest)))

pub is_given : (k : Code) (next : ℕ) (ls : List VarType) (es : List MapEntry) (fs : List (ℕ × TypeFrame)) (left : ℕ × List VarType) → Give k next ls es fs left → frames_from k next ls es ≡ Ok fs
is_given k next ls es fs left h = ap (frames_from k next ls) (sym (append-nil es)) ∙ (give_is k next ls es fs left [] h ∙ ap (λ (l : List (ℕ × TypeFrame)). Ok l) (append-nil fs))

pub is_broken : (k : Code) (next : ℕ) (ls : List VarType) (es : List MapEntry) (place : ℕ) → BreakAt k next ls es place → frames_from k next ls es ≡ Err place
is_broken k next ls es place h =
    let here : ℕ = h.left.0 + h.here.offset in
    let breaks = subst (λ (q : ℕ). BreaksEntry k q h.here.change h.left.1) h.stands h.breaks in
    ap (frames_from k next ls) h.are
    ∙ (give_is k next ls h.before h.frames h.left (h.here ∷ h.after) h.given
    ∙ (ap (λ o. with_frames h.frames (or_fails_at here o (go k here h.after))) (breaks_is k here h.here.change h.left.1 breaks) ∙ ap (λ (q : ℕ). let r : Rest = Err q in r) (sym h.stands)))

-- they do, or one gives none
abbrev FromCases : Code → (next : ℕ) → List VarType → List MapEntry → Rest → Type 0
FromCases k next ls es r =
    ((fs : List (ℕ × TypeFrame)) × (left : ℕ × List VarType) × Give k next ls es fs left × (r ≡ Ok fs)) ⊎ ((place : ℕ) × BreakAt k next ls es place × (r ≡ Err place))

from_cases : (k : Code) (next : ℕ) (ls : List VarType) (es : List MapEntry) → FromCases k next ls es (frames_from k next ls es)
from_cases k next ls [] = inl ([], (next, ls), refl, refl)
from_cases k next ls (e ∷ es) = by (mapped k (next + e.offset) e.change ls) (map_cases k (next + e.offset) e.change ls) (λ after. from_cases k (next + e.offset + 1) after es)
  where
    later : (after : List VarType) (f : TypeFrame) (r : Rest) → Makes k (next + e.offset) e.change ls after f → FromCases k (next + e.offset + 1) after es r → FromCases k next ls (e ∷ es) (with_frames ((next + e.offset, f) ∷ []) r)
    later after f r m (inl y) = inl ((next + e.offset, f) ∷ y.0, y.1, (refl, m.starts, (after, m.stack, m.changes, m.fits, m.frame, y.2)), ap (with_frames ((next + e.offset, f) ∷ [])) y.3)
    later after f r m (inr y) =
        inr (
          y.0,
          record {
            before = e ∷ y.1.before;
            here = y.1.here;
            after = y.1.after;
            are = ap (λ (q : List MapEntry). e ∷ q) y.1.are;
            frames = (next + e.offset, f) ∷ y.1.frames;
            left = y.1.left;
            given = (refl, m.starts, (after, m.stack, m.changes, m.fits, m.frame, y.1.given));
            stands = y.1.stands;
            breaks = y.1.breaks;
          },
          ap (with_frames ((next + e.offset, f) ∷ [])) y.2,
        )

    by : (o : Option (List VarType × TypeFrame)) → MapCases k (next + e.offset) e.change ls o → ((after : List VarType) → FromCases k (next + e.offset + 1) after es (frames_from k (next + e.offset + 1) after es)) → FromCases k next ls (e ∷ es) (or_fails_at (next + e.offset) o (go k (next + e.offset) es))
    by o (inl x) rec =
        inr (
          next + e.offset,
          record { before = []; here = e; after = es; are = refl; frames = []; left = (next, ls); given = refl; stands = refl; breaks = x.0 },
          ap (λ o. or_fails_at (next + e.offset) o (go k (next + e.offset) es)) x.1,
        )
    by o (inr x) rec =
        subst (FromCases k next ls (e ∷ es)) (sym (ap (λ o. or_fails_at (next + e.offset) o (go k (next + e.offset) es)) x.3)) (later x.0 x.1 (frames_from k (next + e.offset + 1) x.0 es) x.2 (rec x.0))

-- ---- the first frame

module _ (code : List ℕ) where
  abbrev News : List VarType → Type 0
  News ts = list_all (names_new code) ts ≡ true

  element_news : (e : Element) → IfSome (element_type e) (λ t. names_new code t ≡ true)
  element_news elements.Double = tt
  element_news elements.Float = tt
  element_news e = refl

  type_news : (t : FieldType) → IfSome (type_of t) (λ t. names_new code t ≡ true)
  type_news t = by (t.dimensions == 0)
    where
      by : (b : Bool) → IfSome (if b then element_type t.element else Some (Object (type_units t))) (λ t. names_new code t ≡ true)
      by true = element_news t.element
      by false = refl

  types_news : (ts : List FieldType) → IfSome (types_of ts) News
  types_news [] = refl
  types_news (t ∷ ts) = by (type_of t) (types_of ts) (type_news t) (types_news ts)
    where
      by : (o : Option VarType) (p : Option (List VarType)) → IfSome o (λ t. names_new code t ≡ true) → IfSome p News → IfSome (onto o (λ first. onto p (λ others. Some (first ∷ others)))) News
      by None p h g = tt
      by (Some x) None h g = tt
      by (Some x) (Some xs) h g = ap (λ b. b && list_all (names_new code) xs) h ∙ g

  this_news : (c : ClassFile) (m : Member) → News (this_types c m)
  this_news c m = by (is_static m) (begins_uninitialized c m)
    where
      by : (s b : Bool) → News (if s then [] else (if b then UninitializedThis else Object (name_of c)) ∷ [])
      by true b = refl
      by false true = refl
      by false false = refl

  pub first_news : (c : ClassFile) (m : Member) → IfSome (first_locals c m) News
  unfolding first_locals
  first_news c m = by (method_in (text_at c.pool m.descriptor))
    where
      by_types : (o : Option (List VarType)) → IfSome o News → IfSome (onto o (λ ts. Some (this_types c m ++ ts))) News
      by_types None h = tt
      by_types (Some ts) h = all_append code (this_types c m) ts ∙ (ap (λ b. b && list_all (names_new code) ts) (this_news c m) ∙ h)

      by : (o : Option MethodType) → IfSome (onto o (λ d. onto (types_of d.parameters) (λ ts. Some (this_types c m ++ ts)))) News
      by None = tt
      by (Some d) = by_types (types_of d.parameters) (types_news d.parameters)

news_are : (code : List ℕ) (ls : List VarType) (o : Option (List VarType)) → o ≡ Some ls → IfSome o (λ ts. list_all (names_new code) ts ≡ true) → list_all (names_new code) ls ≡ true
news_are code ls o e h = subst (λ p. IfSome p (λ ts. list_all (names_new code) ts ≡ true)) e h

no_first : (c : ClassFile) (m : Member) (k : Code) (ls : List VarType) → first_locals c m ≡ Some ls → HasNoFrame k ls [] → k.max_locals < stack_words ls
no_first c m k ls e (TooManyLocals l) = l
no_first c m k ls e (TooDeep l) = absurd (omega arith)
no_first c m k ls e (NoNew x) =
    let news = news_are k.code ls (first_locals c m) e (first_news k.code c m) in
    let is = all_news k.code ls x.0 news (subst (λ (l : List VarType). Contains l (Uninitialized x.0)) (append-nil ls) x.1) in
    absurd (let f : true ≡ false = sym is ∙ x.2 in cc)

first_is : (c : ClassFile) (m : Member) (k : Code) (ls : List VarType) (f : TypeFrame) → first_locals c m ≡ Some ls → IsFrame k ls [] f → frame_of k ls [] ≡ Some f
first_is c m k ls f e h = by (frame_cases k ls [])
  where
    by : FrameCases k ls [] (frame_of k ls []) → frame_of k ls [] ≡ Some f
    by (inl x) = absurd (let l = no_first c m k ls e x.0 in let r = h.room in omega (arith, l, r))
    by (inr x) = x.2 ∙ ap (λ (g : TypeFrame). Some g) (frame_same k ls [] f h)

-- ---- a method

module _ (c : ClassFile) (m : Member) (k : Code) where
  abbrev Cases : Result Frames ℕ → Type 0
  Cases r = ((f : Frames) × GivesFrames c m k f × (r ≡ Ok f)) ⊎ ((place : ℕ) × BreaksMap c m k place × (r ≡ Err place))

  abbrev third : List MapEntry → List VarType → TypeFrame → Result Frames ℕ
  third es ls first = with_first first (frames_from k 0 ls es)

  abbrev second : List MapEntry → List VarType → Result Frames ℕ
  second es ls = or_fails_at 0 (frame_of k ls []) (third es ls)

  abbrev first : List MapEntry → Result Frames ℕ
  first es = or_fails_at 0 (first_locals c m) (second es)

  by_rest : (es : List MapEntry) (ls : List VarType) → entries_of c.pool k ≡ Some es → first_locals c m ≡ Some ls → stack_words ls ≤ k.max_locals → FromCases k 0 ls es (frames_from k 0 ls es) → Cases (third es ls (the_frame k ls []))
  by_rest es ls ee el room (inl y) =
      inl (
        record { first = the_frame k ls []; at = y.0 },
        record { entries = es; locals = ls; entries_are = ee; locals_are = el; first = record { room = room; locals = refl; stack = refl; flag = refl }; left = y.1; at = y.2 },
        ap (with_first (the_frame k ls [])) y.3,
      )
  by_rest es ls ee el room (inr y) = inr (y.0, NoEntry es ls ee el room y.1, ap (with_first (the_frame k ls [])) y.2)

  by_first : (es : List MapEntry) (ls : List VarType) → entries_of c.pool k ≡ Some es → first_locals c m ≡ Some ls → FrameCases k ls [] (frame_of k ls []) → Cases (second es ls)
  by_first es ls ee el (inl x) = inr (0, NoFirst ls refl el (no_first c m k ls el x.0), ap (λ o. or_fails_at 0 o (third es ls)) x.1)
  by_first es ls ee el (inr x) = subst Cases (sym (ap (λ o. or_fails_at 0 o (third es ls)) x.2)) (by_rest es ls ee el x.1 (from_cases k 0 ls es))

  by_locals : (es : List MapEntry) (o : Option (List VarType)) → entries_of c.pool k ≡ Some es → first_locals c m ≡ o → Cases (or_fails_at 0 o (second es))
  by_locals es None ee el = inr (0, NoTypes refl el, refl)
  by_locals es (Some ls) ee el = by_first es ls ee el (frame_cases k ls [])

  by_entries : (o : Option (List MapEntry)) → entries_of c.pool k ≡ o → Cases (or_fails_at 0 o first)
  by_entries None ee = inr (0, NoTable refl ee, refl)
  by_entries (Some es) ee = by_locals es (first_locals c m) ee refl

  cases : Cases (frames_of c m k)
  unfolding frames_of
  cases = by_entries (entries_of c.pool k) refl

  whole : (r : Result Frames ℕ) (es : List MapEntry) (ls : List VarType) (f : TypeFrame) → entries_of c.pool k ≡ Some es → first_locals c m ≡ Some ls → frame_of k ls [] ≡ Some f → with_first f (frames_from k 0 ls es) ≡ r → frames_of c m k ≡ r
  unfolding frames_of
  whole r es ls f ee el ef e = ap (λ o. or_fails_at 0 o first) ee ∙ (ap (λ o. or_fails_at 0 o (second es)) el ∙ (ap (λ o. or_fails_at 0 o (third es ls)) ef ∙ e))

  gives : (f : Frames) → GivesFrames c m k f → frames_of c m k ≡ Ok f
  gives f h = whole (Ok f) h.entries h.locals f.first h.entries_are h.locals_are (first_is c m k h.locals f.first h.locals_are h.first) (ap (with_first f.first) (is_given k 0 h.locals h.entries f.at h.left h.at))

  -- where there is no first frame, 0 is the place
  err_at : (place : ℕ) → place ≡ 0 → ◌≡◌ {A = Result Frames ℕ} (Err 0) (Err place)
  err_at place z = ap (λ (q : ℕ). let r : Result Frames ℕ = Err q in r) (sym z)

  no_table : entries_of c.pool k ≡ None → frames_of c m k ≡ Err 0
  unfolding frames_of
  no_table e = ap (λ o. or_fails_at 0 o first) e

  no_types : first_locals c m ≡ None → frames_of c m k ≡ Err 0
  unfolding frames_of
  no_types e = by (entries_of c.pool k)
    where
      by : (o : Option (List MapEntry)) → ◌≡◌ {A = Result Frames ℕ} (or_fails_at 0 o first) (Err 0)
      by None = refl
      by (Some es) = ap (λ o. or_fails_at 0 o (second es)) e

  too_many : (ls : List VarType) → first_locals c m ≡ Some ls → k.max_locals < stack_words ls → frames_of c m k ≡ Err 0
  unfolding frames_of
  too_many ls e l = by (entries_of c.pool k)
    where
      none : FrameCases k ls [] (frame_of k ls []) → frame_of k ls [] ≡ None
      none (inl x) = x.1
      none (inr x) = absurd (let r = x.1 in omega (arith, r, l))

      by : (o : Option (List MapEntry)) → ◌≡◌ {A = Result Frames ℕ} (or_fails_at 0 o first) (Err 0)
      by None = refl
      by (Some es) = ap (λ o. or_fails_at 0 o (second es)) e ∙ ap (λ o. or_fails_at 0 o (third es ls)) (none (frame_cases k ls []))

  the_first : (ls : List VarType) → stack_words ls ≤ k.max_locals → IsFrame k ls [] (the_frame k ls [])
  the_first ls room = record { room = room; locals = refl; stack = refl; flag = refl }

  breaks : (place : ℕ) → BreaksMap c m k place → frames_of c m k ≡ Err place
  breaks place (NoTable z e) = no_table e ∙ err_at place z
  breaks place (NoTypes z e) = no_types e ∙ err_at place z
  breaks place (NoFirst ls z e l) = too_many ls e l ∙ err_at place z
  breaks place (NoEntry es ls ee el room h) =
      whole (Err place) es ls (the_frame k ls []) ee el (first_is c m k ls (the_frame k ls []) el (the_first ls room)) (ap (with_first (the_frame k ls [])) (is_broken k 0 ls es place h))

  given : (f : Frames) → frames_of c m k ≡ Ok f → GivesFrames c m k f
  given f e = by (frames_of c m k) cases e
    where
      by : (r : Result Frames ℕ) → Cases r → r ≡ Ok f → GivesFrames c m k f
      by r (inl x) e = let is : x.0 ≡ f = (let g = sym x.2 ∙ e in cc) in subst (GivesFrames c m k) is x.1
      by r (inr x) e = absurd (let g = sym x.2 ∙ e in cc)

  caused : (place : ℕ) → frames_of c m k ≡ Err place → BreaksMap c m k place
  caused place e = by (frames_of c m k) cases e
    where
      by : (r : Result Frames ℕ) → Cases r → r ≡ Err place → BreaksMap c m k place
      by r (inl x) e = absurd (let g = sym x.2 ∙ e in cc)
      by r (inr x) e = let is : x.0 ≡ place = (let g = sym x.2 ∙ e in cc) in subst (BreaksMap c m k) is x.1

pub frames_given : FramesAreGiven
frames_given c m k f = (given c m k f, gives c m k f)

pub faults_caused : FaultsHaveCauses
faults_caused c m k place = (caused c m k place, breaks c m k place)
