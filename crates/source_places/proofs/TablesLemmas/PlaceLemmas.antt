-- The lines of places, one by one.
use Rattle.std.proofs.Common.{◌≡◌, ◌≢◌, ℕ, zero, suc, ◌<◌, ◌≤◌, Bool, ◌&&◌, cond, List, [], ◌∷◌, ◌++◌, length, get_or, set, get_or-set_same, get_or-set_other, Option, Some, None, refl, sym, ap, ap₂, subst, ◌∙◌, arith, inl, inr}
use Rattle.std.specs.Prelude.{All, MatchOption, nat_le, if◌then◌else◌, option_map, ◌==◌}
use Rattle.std.specs.Option.{option_or}
use Rattle.std.proofs.lemmas.Bool.Decides.{nat_tests}
use Rattle.lists.proofs.Lemmas.{none≢some, some_same}
use Rattle.std.proofs.lemmas.Bool.{cases_eq, eq-eqb, ne_eqb, le-leb, and_from}
use Rattle.source_places.specs.declared.tables.starts.LineStart.{LineStart}
use Rattle.source_places.specs.Tables.Lines.{nearer, nearest, IsNearest}
use Rattle.source_places.specs.Tables.Table.{last_start, last_at, carried}
use Rattle.source_places.proofs.TablesLemmas.TableLaws.{nearest_is_nearest}

-- ---- the last at a place

or_none : {A : Type 0} (o : Option A) → option_or o None ≡ o
or_none None = refl
or_none (Some x) = refl

or_or : {A : Type 0} (a b c : Option A) → option_or (option_or a b) c ≡ option_or a (option_or b c)
or_or None b c = refl
or_or (Some x) b c = refl

map_or : {A B : Type 0} (f : A → B) (a b : Option A) → option_map f (option_or a b) ≡ option_or (option_map f a) (option_map f b)
map_or f None b = refl
map_or f (Some x) b = refl

last_start-append : (p : ℕ) (xs ys : List LineStart) → last_start p (xs ++ ys) ≡ option_or (last_start p ys) (last_start p xs)
last_start-append p [] ys = sym (or_none (last_start p ys))
last_start-append p (x ∷ xs) ys =
    let here : Option LineStart = if x.start == p then Some x else None in
    ap (λ (o : Option LineStart). option_or o here) (last_start-append p xs ys) ∙ or_or (last_start p ys) (last_start p xs) here

pub last_at-append : (p : ℕ) (xs ys : List LineStart) → last_at p (xs ++ ys) ≡ option_or (last_at p ys) (last_at p xs)
last_at-append p xs ys = ap (option_map (λ (e : LineStart). e.line)) (last_start-append p xs ys) ∙ map_or (λ (e : LineStart). e.line) (last_start p ys) (last_start p xs)

at_here : (p : ℕ) (e : LineStart) → e.start ≡ p → last_at p (e ∷ []) ≡ Some e.line
at_here p e h = ap (λ (t : Bool). option_map (λ (e : LineStart). e.line) (cond t (Some e) None)) (eq-eqb e.start p h)

at_other : (p : ℕ) (e : LineStart) → e.start ≢ p → last_at p (e ∷ []) ≡ None
at_other p e h = ap (λ (t : Bool). option_map (λ (e : LineStart). e.line) (cond t (Some e) None)) (ne_eqb e.start p h)

-- ---- one more start

module _ (lines : List (Option ℕ)) (done : List LineStart) (next : LineStart) (p : ℕ) (old : Option ℕ) (so_far : get_or lines p None ≡ option_or (last_at p done) old) where
  -- where it isn't at the place
  pub elsewhere : next.start ≢ p → get_or lines p None ≡ option_or (last_at p (done ++ next ∷ [])) old
  elsewhere apart = so_far ∙ ap (λ (o : Option ℕ). option_or o old) (sym (last_at-append p done (next ∷ []) ∙ ap (λ (o : Option ℕ). option_or o (last_at p done)) (at_other p next apart)))

  -- it is written
  pub written : next.start < length lines → get_or (set lines next.start (Some next.line)) p None ≡ option_or (last_at p (done ++ next ∷ [])) old
  written lt = elim (cases_eq next.start p) [
    | inl same ↦
        let first : get_or (set lines next.start (Some next.line)) p None ≡ Some next.line = subst (λ (q : ℕ). get_or (set lines next.start (Some next.line)) q None ≡ Some next.line) same (get_or-set_same lines next.start (Some next.line) None lt) in
        first ∙ ap (λ (o : Option ℕ). option_or o old) (sym (last_at-append p done (next ∷ []) ∙ ap (λ (o : Option ℕ). option_or o (last_at p done)) (at_here p next same)))
    | inr apart ↦ get_or-set_other lines next.start p (Some next.line) None (λ (e : p ≡ next.start). apart (sym e)) ∙ elsewhere apart
  ]

-- ---- the nearest, place by place

there : (p : ℕ) (x e : LineStart) (o : Option LineStart) → ((y : LineStart) → o ≡ Some y → y.start ≡ p) → option_or o (if x.start == p then Some x else None) ≡ Some e → e.start ≡ p
there p x e (Some y) earlier h = earlier e h
there p x e None earlier h = elim (cases_eq x.start p) [
  | inl same ↦
      let found : Some x ≡ Some e = sym (ap (λ (t : Bool). cond t (Some x) None) (eq-eqb x.start p same)) ∙ h in
      subst (λ (y : LineStart). y.start ≡ p) (some_same x e found) same
  | inr apart ↦ absurd (none≢some e (sym (ap (λ (t : Bool). cond t (Some x) None) (ne_eqb x.start p apart)) ∙ h))
]

last_is_there : (p : ℕ) (es : List LineStart) (e : LineStart) → last_start p es ≡ Some e → e.start ≡ p
last_is_there p [] e h = absurd (none≢some e h)
last_is_there p (x ∷ xs) e h = there p x e (last_start p xs) (last_is_there p xs) h

not_behind : (p : ℕ) (es : List LineStart) (e : LineStart) → nearest p es ≡ Some e → e.start ≤ p
not_behind p es e h =
    let told : IsNearest p es e = subst (λ (o : Option LineStart). MatchOption o (All (λ d. p < d.start) es) (IsNearest p es)) h (nearest_is_nearest p es) in
    told.not_behind

step_here : (p : ℕ) (e l : LineStart) → l.start ≡ suc p → nearer (suc p) e (Some l) ≡ Some l
step_here p e l h = grind (arith, nat_tests)

step_none : (p : ℕ) (e : LineStart) → nearer (suc p) e None ≡ option_or (if e.start == suc p then Some e else None) (nearer p e None)
step_none p e = elim (cases_eq e.start (suc p)) [
  | inl same ↦
      ap (λ (t : Bool). cond t (Some e) None) (le-leb e.start (suc p) (omega arith))
      ∙ sym (ap (λ (t : Bool). option_or (cond t (Some e) None) (nearer p e None)) (eq-eqb e.start (suc p) same))
  | inr apart ↦
      ap (λ (t : Bool). cond t (Some e) None) (same_test e.start p apart)
      ∙ sym (ap (λ (t : Bool). option_or (cond t (Some e) None) (nearer p e None)) (ne_eqb e.start (suc p) apart))
]
  where
    same_test : (a p : ℕ) → a ≢ suc p → nat_le a (suc p) ≡ nat_le a p
    same_test a p apart = grind (arith, nat_tests)

step_some : (p : ℕ) (e d : LineStart) → d.start ≤ p → nearer (suc p) e (Some d) ≡ option_or (if e.start == suc p then Some e else None) (nearer p e (Some d))
step_some p e d h = elim (cases_eq e.start (suc p)) [
  | inl same ↦
      ap (λ (t : Bool). cond t (Some e) (Some d)) (and_from (nat_le e.start (suc p)) (nat_le (suc d.start) e.start) (le-leb e.start (suc p) (omega arith)) (le-leb (suc d.start) e.start (omega arith)))
      ∙ sym (ap (λ (t : Bool). option_or (cond t (Some e) None) (nearer p e (Some d))) (eq-eqb e.start (suc p) same))
  | inr apart ↦
      ap (λ (t : Bool). cond (t && nat_le (suc d.start) e.start) (Some e) (Some d)) (same_test e.start p apart)
      ∙ sym (ap (λ (t : Bool). option_or (cond t (Some e) None) (nearer p e (Some d))) (ne_eqb e.start (suc p) apart))
]
  where
    same_test : (a p : ℕ) → a ≢ suc p → nat_le a (suc p) ≡ nat_le a p
    same_test a p apart = grind (arith, nat_tests)

step : (p : ℕ) (e : LineStart) (l n : Option LineStart) → ((x : LineStart) → l ≡ Some x → x.start ≡ suc p) → ((x : LineStart) → n ≡ Some x → x.start ≤ p)
    → nearer (suc p) e (option_or l n) ≡ option_or (option_or l (if e.start == suc p then Some e else None)) (nearer p e n)
step p e (Some l) n here before = step_here p e l (here l refl)
step p e None None here before = step_none p e
step p e None (Some d) here before = step_some p e d (before d refl)

-- what a place has beside the one before it
nearest-step : (p : ℕ) (es : List LineStart) → nearest (suc p) es ≡ option_or (last_start (suc p) es) (nearest p es)
nearest-step p [] = refl
nearest-step p (e ∷ es) = ap (nearer (suc p) e) (nearest-step p es) ∙ step p e (last_start (suc p) es) (nearest p es) (last_is_there (suc p) es) (not_behind p es)

first_none : (e : LineStart) → nearer 0 e None ≡ option_or None (if e.start == 0 then Some e else None)
first_none e = grind (arith, nat_tests)

first_some : (e d : LineStart) → d.start ≡ 0 → nearer 0 e (Some d) ≡ option_or (Some d) (if e.start == 0 then Some e else None)
first_some e d h = grind (arith, nat_tests)

first : (e : LineStart) (o : Option LineStart) → ((x : LineStart) → o ≡ Some x → x.start ≡ 0) → nearer 0 e o ≡ option_or o (if e.start == 0 then Some e else None)
first e None h = first_none e
first e (Some d) h = first_some e d (h d refl)

nearest-first : (es : List LineStart) → nearest 0 es ≡ last_start 0 es
nearest-first [] = refl
nearest-first (e ∷ es) = ap (nearer 0 e) (nearest-first es) ∙ first e (last_start 0 es) (last_is_there 0 es)

line_step : (p : ℕ) (es : List LineStart) → option_map (λ (e : LineStart). e.line) (nearest (suc p) es) ≡ option_or (last_at (suc p) es) (option_map (λ (e : LineStart). e.line) (nearest p es))
line_step p es = ap (option_map (λ (e : LineStart). e.line)) (nearest-step p es) ∙ map_or (λ (e : LineStart). e.line) (last_start (suc p) es) (nearest p es)

-- what is carried from place to place is the line of the nearest
pub carried_line : (lines : List (Option ℕ)) (es : List LineStart) (p : ℕ) → p < length lines → ((q : ℕ) → q < length lines → get_or lines q None ≡ last_at q es)
    → carried lines (suc p) ≡ option_map (λ e. e.line) (nearest p es)
carried_line lines es zero lt told =
    or_none (get_or lines 0 None) ∙ (told 0 lt ∙ sym (ap (option_map (λ (e : LineStart). e.line)) (nearest-first es)))
carried_line lines es (suc p) lt told =
    ap₂ option_or (told (suc p) lt) (carried_line lines es p (omega arith) told) ∙ sym (line_step p es)

-- ---- one more table

pub table_behind : (p : ℕ) (before table all : List LineStart) (now old : Option ℕ) → old ≡ last_at p before → now ≡ option_or (last_at p table) old → all ≡ before ++ table → now ≡ last_at p all
table_behind p before table all now old o n a = n ∙ (ap (option_or (last_at p table)) o ∙ (sym (last_at-append p before table) ∙ ap (last_at p) (sym a)))
