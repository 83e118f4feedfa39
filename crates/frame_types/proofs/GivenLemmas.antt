-- The frame of local variables and an operand stack, or why there is none; and what an entry makes of local variables.
use Rattle.std.proofs.Common.{◌≡◌, ℕ, zero, suc, ◌+◌, ◌-◌, ◌<◌, ◌≤◌, Bool, true, false, ◌&&◌, List, [], ◌∷◌, ◌++◌, ◌⊎◌, length, take, drop, Contains, Option, Some, None, refl, sym, ap, ◌∙◌, subst, inl, inr, arith, length-append, length-drop}
use Rattle.std.specs.Prelude.{nat_le, if◌then◌else◌, replicate}
use Rattle.std.specs.List.{list_all, list_any}
use Rattle.std.proofs.lemmas.Bool.{leb-true}
use Rattle.std.proofs.lemmas.List.{take-append-drop}
use Rattle.std.proofs.lemmas.List.Sums.{sum_by-cons}
use Rattle.std.proofs.Math.Seq.{take-append_seam}
use Rattle.lists.specs.Lists.{onto}
use Rattle.lists.specs.Members.{at_head, in_tail, cons_cases, nil_contains}
use Rattle.bytecode_model.specs.Slots.{spread, padded}
use Rattle.class_pool.specs.declared.class.Code.{Code}
use Rattle.frame_types.specs.declared.types.VarType.{VarType}
use Rattle.frame_types.specs.declared.types.VarType.TheVariants.{Top, Uninitialized}
use Rattle.frame_types.specs.declared.types.TypeFrame.{TypeFrame}
use Rattle.frame_types.specs.declared.read.Change.{Change}
use Rattle.frame_types.specs.declared.read.Change.TheVariants.{Same, OneItem, Chop, Append, Full}
use Rattle.frame_types.specs.Types.{is_long, words_of, stack_words, is_this, is_start, is_new, names_new}
use Rattle.frame_types.specs.Frames.{changed, frame_of, mapped}
use Rattle.frame_types.proofs.LocalLemmas.{padded_past}
use Rattle.frame_types.specs.Given.{Changes, IsFrame, NamesNoNew, HasNoFrame, TooManyLocals, TooDeep, NoNew, BreaksEntry, NoInstruction, TakesAbsent, NoFrame}

-- ---- local variables by words

spread_case : (b : Bool) (t : VarType) (ts : List VarType) → length (spread is_long Top ts) ≡ stack_words ts → length (if b then t ∷ Top ∷ spread is_long Top ts else t ∷ spread is_long Top ts) ≡ (if b then 2 else 1) + stack_words ts
spread_case true t ts h = omega (arith, h)
spread_case false t ts h = omega (arith, h)

pub spread_words : (ts : List VarType) → length (spread is_long Top ts) ≡ stack_words ts
spread_words [] = refl
spread_words (t ∷ ts) = spread_case (is_long t) t ts (spread_words ts) ∙ sym (sum_by-cons words_of t ts)

pub padded_is : (n m : ℕ) (xs : List VarType) → length xs + m ≡ n → padded Top n xs ≡ Some (xs ++ replicate m Top)
padded_is zero zero [] h = refl
padded_is zero (suc m) [] h = absurd (omega arith)
padded_is zero m (x ∷ xs) h = absurd (omega arith)
padded_is (suc n) zero [] h = absurd (omega arith)
padded_is (suc n) (suc m) [] h = rw (padded_is n m [] (omega arith)) refl
padded_is (suc n) m (x ∷ xs) h = rw (padded_is n m xs (omega arith)) refl

-- ---- what isn't initialised

only_new : (code : List ℕ) (t : VarType) → names_new code t ≡ false → (place : ℕ) × (t ≡ Uninitialized place) × (is_new code place ≡ false)
only_new code (Uninitialized place) h = (place, refl, h)
only_new code t h = absurd (let g : true ≡ false = h in cc)

missing : (code : List ℕ) (ts : List VarType) → list_all (names_new code) ts ≡ false → NamesNoNew code ts
missing code [] h = absurd (let g : true ≡ false = h in cc)
missing code (t ∷ ts) h = by (names_new code t) refl h (λ g. missing code ts g)
  where
    by : (b : Bool) → names_new code t ≡ b → (b && list_all (names_new code) ts) ≡ false → (list_all (names_new code) ts ≡ false → NamesNoNew code ts) → NamesNoNew code (t ∷ ts)
    by false e g later = let x = only_new code t e in (x.0, subst (Contains (t ∷ ts)) x.1 (at_head t ts), x.2)
    by true e g later = let x = later g in (x.0, in_tail t (Uninitialized x.0) ts x.1, x.2)

pub all_news : (code : List ℕ) (ts : List VarType) (place : ℕ) → list_all (names_new code) ts ≡ true → Contains ts (Uninitialized place) → is_new code place ≡ true
all_news code [] place h c = absurd (nil_contains (Uninitialized place) c)
all_news code (t ∷ ts) place h c = by (names_new code t) refl h (cons_cases t (Uninitialized place) ts c) (λ g d. all_news code ts place g d)
  where
    by : (b : Bool) → names_new code t ≡ b → (b && list_all (names_new code) ts) ≡ true → (t ≡ Uninitialized place) ⊎ Contains ts (Uninitialized place) → (list_all (names_new code) ts ≡ true → Contains ts (Uninitialized place) → is_new code place ≡ true) → is_new code place ≡ true
    by false e g d later = absurd (let f : false ≡ true = g in cc)
    by true e g (inl same) later = sym (ap (names_new code) same) ∙ e
    by true e g (inr d) later = later g d

pub all_append : (code : List ℕ) (xs ys : List VarType) → list_all (names_new code) (xs ++ ys) ≡ (list_all (names_new code) xs && list_all (names_new code) ys)
all_append code [] ys = refl
all_append code (x ∷ xs) ys = by (names_new code x) (all_append code xs ys)
  where
    by : (b : Bool) → list_all (names_new code) (xs ++ ys) ≡ (list_all (names_new code) xs && list_all (names_new code) ys) → (b && list_all (names_new code) (xs ++ ys)) ≡ ((b && list_all (names_new code) xs) && list_all (names_new code) ys)
    by true h = h
    by false h = refl

-- ---- the frame of local variables and an operand stack

abbrev pub the_frame : Code → (locals stack : List VarType) → TypeFrame
the_frame k ls st = record { locals = spread is_long Top ls ++ replicate (k.max_locals - stack_words ls) Top; stack = st; flag = list_any is_this ls }

pub frame_same : (k : Code) (ls st : List VarType) (f : TypeFrame) → IsFrame k ls st f → the_frame k ls st ≡ f
frame_same k ls st f h =
    let a = ap (λ (x : List VarType). let g : TypeFrame = record { locals = x; stack = st; flag = list_any is_this ls } in g) (sym h.locals) in
    let b = ap (λ (x : List VarType). let g : TypeFrame = record { locals = f.locals; stack = x; flag = list_any is_this ls } in g) (sym h.stack) in
    let c = ap (λ (x : Bool). let g : TypeFrame = record { locals = f.locals; stack = f.stack; flag = x } in g) (sym h.flag) in
    a ∙ (b ∙ c)

pub nat_cases : (a b : ℕ) → (a ≤ b) ⊎ (b < a)
nat_cases a b = grind arith

pub not_le : (a b : ℕ) → nat_le a b ≡ false → b < a
not_le a b h = by (nat_cases a b)
  where
    by : (a ≤ b) ⊎ (b < a) → b < a
    by (inl l) = grind (arith, h, l)
    by (inr l) = l

module _ (k : Code) (ls st : List VarType) where
  abbrev build : List VarType → Option TypeFrame
  build all = Some (record { locals = all; stack = st; flag = list_any is_this ls })

  abbrev by_tests : (room news : Bool) → Option TypeFrame
  by_tests room news = if room && news then onto (padded Top k.max_locals (spread is_long Top ls)) build else None

  abbrev pub FrameCases : Option TypeFrame → Type 0
  FrameCases o = (HasNoFrame k ls st × (o ≡ None)) ⊎ ((HasNoFrame k ls st → ⊥) × (stack_words ls ≤ k.max_locals) × (o ≡ Some (the_frame k ls st)))

  fits : nat_le (stack_words st) k.max_stack ≡ true → list_all (names_new k.code) (ls ++ st) ≡ true → stack_words ls ≤ k.max_locals → HasNoFrame k ls st → ⊥
  fits room news l (TooManyLocals m) = omega (arith, l, m)
  fits room news l (TooDeep m) = let r = leb-true (stack_words st) k.max_stack room in omega (arith, r, m)
  fits room news l (NoNew x) = let e = sym (all_news k.code (ls ++ st) x.0 news x.1) ∙ x.2 in let f : true ≡ false = e in cc

  by_room : (room news : Bool) → nat_le (stack_words st) k.max_stack ≡ room → list_all (names_new k.code) (ls ++ st) ≡ news → FrameCases (by_tests room news)
  by_room false news er en = inl (TooDeep (not_le (stack_words st) k.max_stack er), refl)
  by_room true false er en = inl (NoNew (missing k.code (ls ++ st) en), refl)
  by_room true true er en = by (nat_cases (stack_words ls) k.max_locals)
    where
      by : (stack_words ls ≤ k.max_locals) ⊎ (k.max_locals < stack_words ls) → FrameCases (onto (padded Top k.max_locals (spread is_long Top ls)) build)
      by (inl l) =
          let w = spread_words ls in
          let sum : length (spread is_long Top ls) + (k.max_locals - stack_words ls) ≡ k.max_locals = omega (arith, w, l) in
          inr (fits er en l, l, ap (λ o. onto o build) (padded_is k.max_locals (k.max_locals - stack_words ls) (spread is_long Top ls) sum))
      by (inr l) =
          let w = spread_words ls in
          let past : k.max_locals < length (spread is_long Top ls) = omega (arith, w, l) in
          inl (TooManyLocals l, ap (λ o. onto o build) (padded_past Top k.max_locals (spread is_long Top ls) past))

  pub frame_cases : FrameCases (frame_of k ls st)
  frame_cases =
      subst FrameCases (ap (by_tests (nat_le (stack_words st) k.max_stack)) (all_append k.code ls st)) (by_room (nat_le (stack_words st) k.max_stack) (list_all (names_new k.code) (ls ++ st)) refl refl)

-- ---- what an entry makes of local variables

pub changes_is : (ch : Change) (ls a s : List VarType) → Changes ch ls a s → changed ch ls ≡ Some (a, s)
changes_is Same ls a s h = ap (λ (x : List VarType). Some (x, [])) (sym h.0) ∙ ap (λ (x : List VarType). Some (a, x)) (sym h.1)
changes_is (OneItem item) ls a s h = ap (λ (x : List VarType). Some (x, item ∷ [])) (sym h.0) ∙ ap (λ (x : List VarType). Some (a, x)) (sym h.1)
changes_is (Chop n) ls a s h =
    let gone = h.0.0 in
    let e = ap length h.0.1 ∙ length-append a gone in
    let le : nat_le n (length ls) ≡ true = let g = h.0.2 in grind (arith, e, g) in
    let m : length ls - n ≡ length a = let g = h.0.2 in omega (arith, e, g) in
    let front : take (length ls - n) ls ≡ a = ap (λ (i : ℕ). take i ls) m ∙ (ap (take (length a)) h.0.1 ∙ take-append_seam a gone) in
    ap (λ (b : Bool). let o : Option (List VarType × List VarType) = if b then Some (take (length ls - n) ls, []) else None in o) le
    ∙ (ap (λ (x : List VarType). Some (x, [])) front ∙ ap (λ (x : List VarType). Some (a, x)) (sym h.1))
changes_is (Append more) ls a s h = ap (λ (x : List VarType). Some (x, [])) (sym h.0) ∙ ap (λ (x : List VarType). Some (a, x)) (sym h.1)
changes_is (Full all st) ls a s h = ap (λ (x : List VarType). Some (x, st)) (sym h.0) ∙ ap (λ (x : List VarType). Some (a, x)) (sym h.1)

abbrev pub ChangeCases : Change → List VarType → Option (List VarType × List VarType) → Type 0
ChangeCases ch ls o = ((n : ℕ) × (ch ≡ Chop n) × (length ls < n) × (o ≡ None)) ⊎ ((a : List VarType) × (s : List VarType) × Changes ch ls a s × (o ≡ Some (a, s)))

pub change_cases : (ch : Change) (ls : List VarType) → ChangeCases ch ls (changed ch ls)
change_cases Same ls = inr (ls, [], (refl, refl), refl)
change_cases (OneItem item) ls = inr (ls, item ∷ [], (refl, refl), refl)
change_cases (Chop n) ls = by (nat_le n (length ls)) refl
  where
    by : (b : Bool) → nat_le n (length ls) ≡ b → ChangeCases (Chop n) ls (if b then Some (take (length ls - n) ls, []) else None)
    by false e = inl (n, refl, not_le n (length ls) e, refl)
    by true e =
        let l = leb-true n (length ls) e in
        let g : length (drop (length ls - n) ls) ≡ n = (let d = length-drop (length ls - n) ls in omega (arith, d, l)) in
        inr (take (length ls - n) ls, [], ((drop (length ls - n) ls, sym (take-append-drop (length ls - n) ls), g), refl), refl)
change_cases (Append more) ls = inr (ls ++ more, [], (refl, refl), refl)
change_cases (Full all st) ls = inr (all, st, (refl, refl), refl)

-- ---- an entry at a place

module _ (k : Code) (place : ℕ) (ch : Change) (ls : List VarType) where
  pub record Makes (after : List VarType) (f : TypeFrame) : Type 0 where
    pub stack : List VarType
    pub starts : is_start k.code place ≡ true
    pub changes : Changes ch ls after stack
    pub fits : HasNoFrame k after stack → ⊥
    pub frame : IsFrame k after stack f

  abbrev pub MapCases : Option (List VarType × TypeFrame) → Type 0
  MapCases o = (BreaksEntry k place ch ls × (o ≡ None)) ⊎ ((after : List VarType) × (f : TypeFrame) × Makes after f × (o ≡ Some (after, f)))

  abbrev framed : List VarType × List VarType → Option (List VarType × TypeFrame)
  framed x = onto (frame_of k x.0 x.1) (λ f. Some (x.0, f))

  by_frame : (a s : List VarType) (o : Option TypeFrame) → is_start k.code place ≡ true → Changes ch ls a s → FrameCases k a s o → MapCases (onto o (λ f. Some (a, f)))
  by_frame a s o st h (inl x) = inl (NoFrame a s h x.0, ap (λ p. onto p (λ f. Some (a, f))) x.1)
  by_frame a s o st h (inr x) =
      inr (a, the_frame k a s, record { stack = s; starts = st; changes = h; fits = x.0; frame = record { room = x.1; locals = refl; stack = refl; flag = refl } }, ap (λ p. onto p (λ f. Some (a, f))) x.2)

  by_change : (o : Option (List VarType × List VarType)) → is_start k.code place ≡ true → ChangeCases ch ls o → MapCases (onto o framed)
  by_change o st (inl x) = inl (TakesAbsent x.0 x.1 x.2, ap (λ p. onto p framed) x.3)
  by_change o st (inr x) = subst MapCases (sym (ap (λ p. onto p framed) x.3)) (by_frame x.0 x.1 (frame_of k x.0 x.1) st x.2 (frame_cases k x.0 x.1))

  by_start : (b : Bool) → is_start k.code place ≡ b → MapCases (if b then onto (changed ch ls) framed else None)
  by_start false e = inl (NoInstruction e, refl)
  by_start true e = by_change (changed ch ls) e (change_cases ch ls)

  pub map_cases : MapCases (mapped k place ch ls)
  map_cases = by_start (is_start k.code place) refl

  -- the other way
  pub makes_is : (a : List VarType) (f : TypeFrame) → Makes a f → mapped k place ch ls ≡ Some (a, f)
  makes_is a f h =
      ap (λ (b : Bool). let o : Option (List VarType × TypeFrame) = if b then onto (changed ch ls) framed else None in o) h.starts
      ∙ (ap (λ o. onto o framed) (changes_is ch ls a h.stack h.changes) ∙ (ap (λ o. onto o (λ f. Some (a, f))) (is_frame (frame_cases k a h.stack)) ∙ ap (λ (g : TypeFrame). Some (a, g)) (frame_same k a h.stack f h.frame)))
    where
      is_frame : FrameCases k a h.stack (frame_of k a h.stack) → frame_of k a h.stack ≡ Some (the_frame k a h.stack)
      is_frame (inl x) = absurd (h.fits x.0)
      is_frame (inr x) = x.2

  no_frame : (a s : List VarType) → HasNoFrame k a s → FrameCases k a s (frame_of k a s) → frame_of k a s ≡ None
  no_frame a s x (inl y) = y.1
  no_frame a s x (inr y) = absurd (y.0 x)

  absent : (n : ℕ) → ch ≡ Chop n → length ls < n → changed ch ls ≡ None
  absent n e l =
      let le : nat_le n (length ls) ≡ false = grind (arith, l) in
      ap (λ (c : Change). changed c ls) e ∙ ap (λ (b : Bool). let o : Option (List VarType × List VarType) = if b then Some (take (length ls - n) ls, []) else None in o) le

  either_way : (b : Bool) → changed ch ls ≡ None → ◌≡◌ {A = Option (List VarType × TypeFrame)} (if b then onto (changed ch ls) framed else None) None
  either_way true e = ap (λ o. onto o framed) e
  either_way false e = refl

  unframed : (b : Bool) (a s : List VarType) → changed ch ls ≡ Some (a, s) → frame_of k a s ≡ None → ◌≡◌ {A = Option (List VarType × TypeFrame)} (if b then onto (changed ch ls) framed else None) None
  unframed true a s e f = ap (λ o. onto o framed) e ∙ ap (λ o. onto o (λ f. Some (a, f))) f
  unframed false a s e f = refl

  pub breaks_is : BreaksEntry k place ch ls → mapped k place ch ls ≡ None
  breaks_is (NoInstruction e) = ap (λ (b : Bool). let o : Option (List VarType × TypeFrame) = if b then onto (changed ch ls) framed else None in o) e
  breaks_is (TakesAbsent n e l) = either_way (is_start k.code place) (absent n e l)
  breaks_is (NoFrame a s h x) = unframed (is_start k.code place) a s (changes_is ch ls a s h) (no_frame a s x (frame_cases k a s))
