-- The frames of a method stand at starts of its instructions.
use Rattle.std.proofs.Common.{◌≡◌, ℕ, zero, suc, ◌+◌, ◌≤◌, Bool, true, false, cond, ◌&&◌, ◌||◌, IsTrue, List, [], ◌∷◌, length, Option, Some, None, Result, Ok, Err, refl, sym, ap, subst, ◌∙◌, arith}
use Rattle.std.proofs.lemmas.Bool.{leb-true, false≢true}
use Rattle.std.specs.Prelude.{nat_le}
use Rattle.std.specs.List.{list_all, list_any}
use Rattle.lists.specs.Tests.{and_left, and_right}
use Rattle.lists.specs.Lists.{onto}
use Rattle.lists.proofs.Lemmas.{none≢some, some_same, onto_some}
use Rattle.bytecode_model.specs.Slots.{spread, padded}
use Rattle.class_pool.specs.declared.class.Code.{Code}
use Rattle.frame_types.specs.declared.types.VarType.{VarType}
use Rattle.frame_types.specs.declared.types.VarType.TheVariants.{Top}
use Rattle.frame_types.specs.declared.types.TypeFrame.{TypeFrame}
use Rattle.frame_types.specs.declared.types.Frames.{Frames}
use Rattle.frame_types.specs.declared.read.Change.{Change}
use Rattle.frame_types.specs.declared.read.MapEntry.{MapEntry}
use Rattle.frame_types.specs.Types.{is_long, stack_words, is_this, is_start, names_new}
use Rattle.frame_types.specs.Table.{entries_of}
use Rattle.frame_types.specs.Locals.{first_locals}
use Rattle.frame_types.specs.Frames.{changed, frame_of, mapped, or_fails_at, with_frames, frames_from, with_first, frames_of}
use Rattle.frame_types.specs.Laws.{AreSpaced, IsOfCode, StandFrom, AreFrames, FramesLaw}

abbrev Found : Type 0
Found = Result (List (ℕ × TypeFrame)) ℕ

and_both : (a b : Bool) → a ≡ true → b ≡ true → (a && b) ≡ true
and_both true b p q = q
and_both false b p q = p

-- a test that let through
passed : {A : Type 0} (b : Bool) (o : Option A) (y : A) → cond b o None ≡ Some y → (b ≡ true) × (o ≡ Some y)
passed true o y h = (refl, h)
passed false o y h = absurd (none≢some y h)

err≢ok : {A : Type 0} (place : ℕ) (y : A) → Err place ≡ Ok y → ⊥
err≢ok {A} place y h =
    let is_err_type : Result A ℕ → Type 0 = λ r. elim r as (λ _. Type 0) [ Ok _ ↦ ⊥ | Err _ ↦ Unit {0} ] in
    subst is_err_type h tt

abbrev found : {A : Type 0} → A → Result A ℕ
found y = Ok y

ok_same : {A : Type 0} (x y : A) → found x ≡ found y → x ≡ y
ok_same {A} x y h =
    let value : Result A ℕ → A = λ r. elim r as (λ _. A) [ Ok z ↦ z | Err _ ↦ x ] in
    ap value h

-- what came of a part was there
went_on : {X Y : Type 0} (place : ℕ) (o : Option X) (go : X → Result Y ℕ) (y : Y) → or_fails_at place o go ≡ Ok y → (x : X) × (o ≡ Some x) × (go x ≡ Ok y)
went_on place None go y h = absurd (err≢ok place y h)
went_on place (Some x) go y h = (x, refl, h)

-- ---- local variables that are padded

-- a padded list is that of the first, or another with Top
pad_cases : (n : ℕ) (x : VarType) (xs ys : List VarType) (P : List VarType → Type 0) → padded Top (suc n) (x ∷ xs) ≡ Some ys → ((zs : List VarType) → padded Top n xs ≡ Some zs → P (x ∷ zs)) → P ys
pad_cases n x xs ys P h say =
    let r = onto_some (padded Top n xs) (λ ws. Some (x ∷ ws)) ys h in
    subst P (some_same (x ∷ r.0) ys r.2) (say r.0 r.1)

pad_end : (n : ℕ) (ys : List VarType) (P : List VarType → Type 0) → padded Top (suc n) [] ≡ Some ys → ((zs : List VarType) → padded Top n [] ≡ Some zs → P (Top ∷ zs)) → P ys
pad_end n ys P h say =
    let r = onto_some (padded Top n []) (λ ws. Some (Top ∷ ws)) ys h in
    subst P (some_same (Top ∷ r.0) ys r.2) (say r.0 r.1)

padded_long : (n : ℕ) (xs ys : List VarType) → padded Top n xs ≡ Some ys → length ys ≡ n
padded_long zero [] ys h = sym (ap length (some_same [] ys h))
padded_long zero (x ∷ xs) ys h = absurd (none≢some ys h)
padded_long (suc n) [] ys h = pad_end n ys (λ (q : List VarType). length q ≡ suc n) h (λ zs e. ap suc (padded_long n [] zs e))
padded_long (suc n) (x ∷ xs) ys h = pad_cases n x xs ys (λ (q : List VarType). length q ≡ suc n) h (λ zs e. ap suc (padded_long n xs zs e))

padded_news : (code : List ℕ) (n : ℕ) (xs ys : List VarType) → padded Top n xs ≡ Some ys → list_all (names_new code) xs ≡ true → list_all (names_new code) ys ≡ true
padded_news code zero [] ys h all = subst (λ (q : List VarType). list_all (names_new code) q ≡ true) (some_same [] ys h) refl
padded_news code zero (x ∷ xs) ys h all = absurd (none≢some ys h)
padded_news code (suc n) [] ys h all = pad_end n ys (λ (q : List VarType). list_all (names_new code) q ≡ true) h (λ zs e. padded_news code n [] zs e refl)
padded_news code (suc n) (x ∷ xs) ys h all =
    pad_cases n x xs ys (λ (q : List VarType). list_all (names_new code) q ≡ true) h (λ zs e.
    and_both (names_new code x) (list_all (names_new code) zs) (and_left (names_new code x) (list_all (names_new code) xs) all) (padded_news code n xs zs e (and_right (names_new code x) (list_all (names_new code) xs) all)))

padded_this : (n : ℕ) (xs ys : List VarType) → padded Top n xs ≡ Some ys → list_any is_this xs ≡ list_any is_this ys
padded_this zero [] ys h = ap (list_any is_this) (some_same [] ys h)
padded_this zero (x ∷ xs) ys h = absurd (none≢some ys h)
padded_this (suc n) [] ys h = pad_end n ys (λ (q : List VarType). false ≡ list_any is_this q) h (λ zs e. padded_this n [] zs e)
padded_this (suc n) (x ∷ xs) ys h = pad_cases n x xs ys (λ (q : List VarType). list_any is_this (x ∷ xs) ≡ list_any is_this q) h (λ zs e. ap (λ b. is_this x || b) (padded_this n xs zs e))

-- Top may stand before what is spaced
top_before : (ts : List VarType) → AreSpaced ts → AreSpaced (Top ∷ ts)
top_before [] h = refl
top_before (t ∷ ts) h = (λ e. absurd (false≢true e), h)

-- a type keeps what stands behind it, or has Top behind it
keeps_behind : (n : ℕ) (x : VarType) (xs zs : List VarType) → padded Top n xs ≡ Some zs → AreSpaced (x ∷ xs) → AreSpaced zs → AreSpaced (x ∷ zs)
keeps_behind zero x [] zs e h later = subst (λ (q : List VarType). AreSpaced (x ∷ q)) (some_same [] zs e) h
keeps_behind zero x (y ∷ xs) zs e h later = absurd (none≢some zs e)
keeps_behind (suc n) x [] zs e h later =
    let P : List VarType → Type 0 = λ q. AreSpaced q → AreSpaced (x ∷ q) in
    pad_end n zs P e (λ ws d rest. (λ _. refl, rest)) later
keeps_behind (suc n) x (y ∷ xs) zs e h later =
    let P : List VarType → Type 0 = λ q. AreSpaced q → AreSpaced (x ∷ q) in
    pad_cases n y xs zs P e (λ ws d rest. (h.0, rest)) later

tail_spaced : (x : VarType) (xs : List VarType) → AreSpaced (x ∷ xs) → AreSpaced xs
tail_spaced x [] h = tt
tail_spaced x (y ∷ xs) h = h.1

padded_spaced : (n : ℕ) (xs ys : List VarType) → padded Top n xs ≡ Some ys → AreSpaced xs → AreSpaced ys
padded_spaced zero [] ys h s = subst AreSpaced (some_same [] ys h) tt
padded_spaced zero (x ∷ xs) ys h s = absurd (none≢some ys h)
padded_spaced (suc n) [] ys h s = pad_end n ys AreSpaced h (λ zs e. top_before zs (padded_spaced n [] zs e tt))
padded_spaced (suc n) (x ∷ xs) ys h s = pad_cases n x xs ys AreSpaced h (λ zs e. keeps_behind n x xs zs e s (padded_spaced n xs zs e (tail_spaced x xs s)))

-- ---- local variables that are spread

-- a type, and Top behind it where it is long
abbrev placed : Bool → VarType → List VarType → List VarType
placed b t rest = cond b (t ∷ Top ∷ rest) (t ∷ rest)

placed_news : (code : List ℕ) (b : Bool) (t : VarType) (rest : List VarType) → (names_new code t && list_all (names_new code) rest) ≡ true → list_all (names_new code) (placed b t rest) ≡ true
placed_news code true t rest h = h
placed_news code false t rest h = h

placed_this : (b : Bool) (t : VarType) (rest : List VarType) → (is_this t || list_any is_this rest) ≡ list_any is_this (placed b t rest)
placed_this true t rest = refl
placed_this false t rest = refl

placed_spaced : (b : Bool) (t : VarType) (rest : List VarType) → is_long t ≡ b → AreSpaced rest → AreSpaced (placed b t rest)
placed_spaced true t rest e h = (λ _. refl, top_before rest h)
placed_spaced false t [] e h = e
placed_spaced false t (u ∷ us) e h = (λ l. absurd (false≢true (sym e ∙ l)), h)

spread_news : (code : List ℕ) (ts : List VarType) → list_all (names_new code) ts ≡ true → list_all (names_new code) (spread is_long Top ts) ≡ true
spread_news code [] h = refl
spread_news code (t ∷ ts) h =
    placed_news code (is_long t) t (spread is_long Top ts)
    (and_both (names_new code t) (list_all (names_new code) (spread is_long Top ts)) (and_left (names_new code t) (list_all (names_new code) ts) h) (spread_news code ts (and_right (names_new code t) (list_all (names_new code) ts) h)))

spread_this : (ts : List VarType) → list_any is_this ts ≡ list_any is_this (spread is_long Top ts)
spread_this [] = refl
spread_this (t ∷ ts) = ap (λ b. is_this t || b) (spread_this ts) ∙ placed_this (is_long t) t (spread is_long Top ts)

spread_spaced : (ts : List VarType) → AreSpaced (spread is_long Top ts)
spread_spaced [] = tt
spread_spaced (t ∷ ts) = placed_spaced (is_long t) t (spread is_long Top ts) refl (spread_spaced ts)

-- ---- frames

of_code : (k : Code) (locals stack : List VarType) (f : TypeFrame) → frame_of k locals stack ≡ Some f → IsOfCode k f
of_code k locals stack f h =
    let room = nat_le (stack_words stack) k.max_stack in
    let local_news = list_all (names_new k.code) locals in
    let stack_news = list_all (names_new k.code) stack in
    let build : List VarType → Option TypeFrame = λ all. Some (record { locals = all; stack = stack; flag = list_any is_this locals }) in
    let all = spread is_long Top locals in
    let p = passed (room && (local_news && stack_news)) (onto (padded Top k.max_locals all) build) f h in
    let news = and_right room (local_news && stack_news) p.0 in
    let r = onto_some (padded Top k.max_locals all) build f p.1 in
    let made : TypeFrame = record { locals = r.0; stack = stack; flag = list_any is_this locals } in
    let here : IsOfCode k made =
    record {
      locals = padded_long k.max_locals all r.0 r.1;
      spaced = padded_spaced k.max_locals all r.0 r.1 (spread_spaced locals);
      stack = leb-true (stack_words stack) k.max_stack (and_left room (local_news && stack_news) p.0);
      local_news = padded_news k.code k.max_locals all r.0 r.1 (spread_news k.code locals (and_left local_news stack_news news));
      stack_news = and_right local_news stack_news news;
      flag = spread_this locals ∙ padded_this k.max_locals all r.0 r.1;
    }
    in
    subst (IsOfCode k) (some_same made f r.2) here

at_start : (k : Code) (place : ℕ) (change : Change) (locals : List VarType) (x : List VarType × TypeFrame) → mapped k place change locals ≡ Some x → IsTrue (is_start k.code place) × IsOfCode k x.1
at_start k place change locals x h =
    let build : List VarType → TypeFrame → Option (List VarType × TypeFrame) = λ ls f. Some (ls, f) in
    let go : List VarType × List VarType → Option (List VarType × TypeFrame) = λ y. onto (frame_of k y.0 y.1) (build y.0) in
    let p = passed (is_start k.code place) (onto (changed change locals) go) x h in
    let r = onto_some (changed change locals) go x p.1 in
    let s = onto_some (frame_of k r.0.0 r.0.1) (build r.0.0) x r.2 in
    let made : List VarType × TypeFrame = (r.0.0, s.0) in
    let P : List VarType × TypeFrame → Type 0 = λ q. IsOfCode k q.1 in
    (p.0, subst P (some_same made x s.2) (of_code k r.0.0 r.0.1 s.0 s.1))

behind_one : (k : Code) (next place : ℕ) (f : TypeFrame) (rest : Found) (fs : List (ℕ × TypeFrame)) → with_frames ((place, f) ∷ []) rest ≡ Ok fs
    → ((gs : List (ℕ × TypeFrame)) → rest ≡ Ok gs → StandFrom k (place + 1) gs) → next ≤ place → IsTrue (is_start k.code place) → IsOfCode k f → StandFrom k next fs
behind_one k next place f (Err other) fs h later le start room = absurd (err≢ok other fs h)
behind_one k next place f (Ok gs) fs h later le start room = subst (StandFrom k next) (ok_same ((place, f) ∷ gs) fs h) (le, start, room, later gs refl)

stand : (k : Code) (next : ℕ) (locals : List VarType) (es : List MapEntry) (fs : List (ℕ × TypeFrame)) → frames_from k next locals es ≡ Ok fs → StandFrom k next fs
stand k next locals [] fs h = subst (StandFrom k next) (ok_same [] fs h) tt
stand k next locals (e ∷ es) fs h =
    let place = next + e.offset in
    let go : List VarType × TypeFrame → Found = λ x. with_frames ((place, x.1) ∷ []) (frames_from k (place + 1) x.0 es) in
    let w = went_on place (mapped k place e.change locals) go fs h in
    let a = at_start k place e.change locals w.0 w.1 in
    behind_one k next place w.0.1 (frames_from k (place + 1) w.0.0 es) fs w.2 (stand k (place + 1) w.0.0 es) (omega arith) a.0 a.1

joined : (k : Code) (first : TypeFrame) (rest : Found) (f : Frames) → with_first first rest ≡ Ok f → IsOfCode k first → ((fs : List (ℕ × TypeFrame)) → rest ≡ Ok fs → StandFrom k 0 fs) → AreFrames k f
joined k first (Err place) f h room later = absurd (err≢ok place f h)
joined k first (Ok fs) f h room later =
    let made : Frames = record { first = first; at = fs } in
    let here : AreFrames k made = record { first = room; at = later fs refl } in
    subst (AreFrames k) (ok_same made f h) here

pub frames_law : FramesLaw
unfolding frames_of
frames_law c m k f h =
    let last : List MapEntry → List VarType → TypeFrame → Result Frames ℕ = λ es locals first. with_first first (frames_from k 0 locals es) in
    let third : List MapEntry → List VarType → Result Frames ℕ = λ es locals. or_fails_at 0 (frame_of k locals []) (last es locals) in
    let second : List MapEntry → Result Frames ℕ = λ es. or_fails_at 0 (first_locals c m) (third es) in
    let a = went_on 0 (entries_of c.pool k) second f h in
    let b = went_on 0 (first_locals c m) (third a.0) f a.2 in
    let d = went_on 0 (frame_of k b.0 []) (last a.0 b.0) f b.2 in
    joined k d.0 (frames_from k 0 b.0 a.0) f d.2 (of_code k b.0 [] d.0 d.1) (stand k 0 b.0 a.0)
