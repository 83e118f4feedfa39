-- The nearest of starts, one more at a time.
use Rattle.std.proofs.Common.{◌≡◌, ℕ, ◌+◌, ◌-◌, ◌*◌, length, get_or, take, drop, take_all, append_assoc, ◌<◌, ◌≤◌, Bool, ◌&&◌, cond, List, [], ◌∷◌, ◌++◌, Option, Some, None, refl, sym, ap, ap₂, ◌∙◌, arith}
use Rattle.std.specs.Prelude.{nat_le, if◌then◌else◌}
use Rattle.std.proofs.lemmas.Bool.Decides.{nat_tests}
use Rattle.std.proofs.lemmas.Bool.{le-leb, lt-leb, and_from, and_left, and_right}
use Rattle.source_places.specs.declared.tables.starts.LineStart.{LineStart}
use Rattle.source_places.specs.Tables.Lines.{starts_in, nearer, nearest}

-- the nearer one, where the other stands before it in the tables
abbrev pub later : (p : ℕ) → LineStart → Option LineStart → Option LineStart
later p e None = if nat_le e.start p then Some e else None
later p e (Some d) = if nat_le e.start p && nat_le d.start e.start then Some e else Some d

swap_none : (p : ℕ) (x e : LineStart) → nearer p x (later p e None) ≡ later p e (nearer p x None)
swap_none p x e = grind (arith, nat_tests)

swap_some : (p : ℕ) (x e d : LineStart) → nearer p x (later p e (Some d)) ≡ later p e (nearer p x (Some d))
swap_some p x e d = grind (arith, nat_tests)

swap : (p : ℕ) (x e : LineStart) (o : Option LineStart) → nearer p x (later p e o) ≡ later p e (nearer p x o)
swap p x e None = swap_none p x e
swap p x e (Some d) = swap_some p x e d

nearest-more : (p : ℕ) (es : List LineStart) (e : LineStart) → nearest p (es ++ e ∷ []) ≡ later p e (nearest p es)
nearest-more p [] e = refl
nearest-more p (x ∷ es) e = ap (nearer p x) (nearest-more p es e) ∙ swap p x e (nearest p es)

-- ---- what a start changes behind others

past_later : (p : ℕ) (e : LineStart) (o : Option LineStart) → p < e.start → later p e o ≡ o
past_later p e None h = ap (λ (t : Bool). cond t (Some e) None) (lt-leb e.start p h)
past_later p e (Some d) h = ap (λ (t : Bool). cond t (Some e) (Some d)) (and_left (nat_le e.start p) (nat_le d.start e.start) (lt-leb e.start p h))

pub past_stays : (p : ℕ) (es : List LineStart) (e : LineStart) (o : Option LineStart) → p < e.start → o ≡ nearest p es → o ≡ nearest p (es ++ e ∷ [])
past_stays p es e o h is = is ∙ sym (nearest-more p es e ∙ past_later p e (nearest p es) h)

pub first_found : (p : ℕ) (es : List LineStart) (e : LineStart) → e.start ≤ p → None ≡ nearest p es → Some e ≡ nearest p (es ++ e ∷ [])
first_found p es e h is =
    sym (nearest-more p es e ∙ (ap (later p e) (sym is) ∙ ap (λ (t : Bool). cond t (Some e) None) (le-leb e.start p h)))

pub nearer_found : (p : ℕ) (es : List LineStart) (e d : LineStart) → e.start ≤ p → d.start ≤ e.start → Some d ≡ nearest p es → Some e ≡ nearest p (es ++ e ∷ [])
nearer_found p es e d h le is =
    sym (nearest-more p es e
    ∙ (ap (later p e) (sym is) ∙ ap (λ (t : Bool). cond t (Some e) (Some d)) (and_from (nat_le e.start p) (nat_le d.start e.start) (le-leb e.start p h) (le-leb d.start e.start le))))

pub nearer_stays : (p : ℕ) (es : List LineStart) (e d : LineStart) → e.start < d.start → Some d ≡ nearest p es → Some d ≡ nearest p (es ++ e ∷ [])
nearer_stays p es e d lt is =
    sym (nearest-more p es e
    ∙ (ap (later p e) (sym is) ∙ ap (λ (t : Bool). cond t (Some e) (Some d)) (and_right (nat_le e.start p) (nat_le d.start e.start) (lt-leb d.start e.start lt))))

-- ---- by fours

-- the first of the starts that stand in bytes, and those behind it
pub first_start : (left : List ℕ) (start line : ℕ) → 4 ≤ length left → start ≡ 256 * get_or left 0 0 + get_or left 1 0 → line ≡ 256 * get_or left 2 0 + get_or left 3 0
    → starts_in left ≡ record { start = start; line = line } ∷ starts_in (take (length left - 4) (drop 4 left))
first_start [] start line long s l = absurd (omega arith)
first_start (a ∷ []) start line long s l = absurd (omega arith)
first_start (a ∷ b ∷ []) start line long s l = absurd (omega arith)
first_start (a ∷ b ∷ c ∷ []) start line long s l = absurd (omega arith)
first_start (a ∷ b ∷ c ∷ d ∷ rest) start line long s l =
    let all : take (length (a ∷ b ∷ c ∷ d ∷ rest) - 4) rest ≡ rest = take_all (length (a ∷ b ∷ c ∷ d ∷ rest) - 4) rest (omega arith) in
    ap₂ (λ (x y : ℕ). record { start = x; line = y } ∷ starts_in rest) (sym s) (sym l)
    ∙ ap (λ (r : List ℕ). record { start = start; line = line } ∷ starts_in r) (sym all)

-- what is left, with one more done
pub more_done : (all left : List ℕ) (done : List LineStart) (next : LineStart) (rest : List LineStart) → done ++ starts_in left ≡ starts_in all → starts_in left ≡ next ∷ rest
    → (done ++ next ∷ []) ++ rest ≡ starts_in all
more_done all left done next rest split first = append_assoc done (next ∷ []) rest ∙ (ap (λ (ss : List LineStart). done ++ ss) (sym first) ∙ split)

-- the loop's claim, with one more
pub one_more : (p : ℕ) (all left : List ℕ) (es done : List LineStart) (next : LineStart) (rest : List LineStart) (found : Option LineStart)
    → done ++ starts_in left ≡ starts_in all → starts_in left ≡ next ∷ rest → found ≡ nearest p (es ++ done ++ next ∷ [])
    → (more : List LineStart) × (more ++ rest ≡ starts_in all) × (found ≡ nearest p (es ++ more))
one_more p all left es done next rest found split first is =
    (done ++ next ∷ [], more_done all left done next rest split first, is ∙ ap (nearest p) (append_assoc es done (next ∷ [])))
