-- Line tables as they are read, and what the nearest start is.
use Rattle.std.proofs.Common.{◌≡◌, ℕ, zero, suc, ◌+◌, ◌*◌, ◌<◌, ◌≤◌, Bool, cond, List, [], ◌∷◌, ◌++◌, length, refl, sym, ap, ap₂, subst, ◌∙◌, arith, inl, inr, eqb, Option, Some, None}
use Rattle.std.specs.Prelude.{All, MatchOption, nat_le}
use Rattle.std.proofs.lemmas.Bool.{cases_Bool, cases_lt, eqb-true, eq-eqb, le-leb, lt-leb, and_from, and_left, and_right}
use Rattle.std.proofs.lemmas.List.Elements.{All-append, All-cons, All-nil, All-weaker}
use Rattle.source_places.specs.declared.tables.starts.LineStart.{LineStart}
use Rattle.source_places.specs.Tables.Lines.{none, one, AreLineStarts, IsLineTable, starts_in, table_starts, TablesAreRead, nearer, nearest, IsNearest, NearestIsNearest}

-- ---- tables

read : (bytes : List ℕ) (es : List LineStart) → AreLineStarts bytes es → (starts_in bytes ≡ es) × (length bytes ≡ 4 * length es)
read _ _ none = (refl, refl)
read _ _ (one {a} {b} {rest} {start} {line} {es} (h, l, a_is, start_is) (i, m, b_is, line_is) more) =
    let tail = read rest es more in
    let bytes : a ++ b ++ rest ≡ h ∷ l ∷ i ∷ m ∷ rest = ap₂ (λ (x y : List ℕ). x ++ y ++ rest) a_is b_is in
    let head : starts_in (h ∷ l ∷ i ∷ m ∷ rest) ≡ record { start = start; line = line } ∷ es =
    ap₂ (λ (s t : ℕ). record { start = s; line = t } ∷ starts_in rest) (sym start_is) (sym line_is)
    ∙ ap (λ (ss : List LineStart). record { start = start; line = line } ∷ ss) tail.0 in
    (ap starts_in bytes ∙ head, ap length bytes ∙ omega (arith, tail.1))

made : (n : ℕ) (bytes : List ℕ) → length bytes ≡ 4 * n → AreLineStarts bytes (starts_in bytes) × (length (starts_in bytes) ≡ n)
made n [] h = (none, omega arith)
made n (a ∷ []) h = absurd (omega arith)
made n (a ∷ b ∷ []) h = absurd (omega arith)
made n (a ∷ b ∷ c ∷ []) h = absurd (omega arith)
made zero (a ∷ b ∷ c ∷ d ∷ rest) h = absurd (omega arith)
made (suc n) (a ∷ b ∷ c ∷ d ∷ rest) h =
    let tail = made n rest (omega arith) in
    (one (a, b, refl, refl) (c, d, refl, refl) tail.0, ap suc tail.1)

is_read : (bytes : List ℕ) (es : List LineStart) → IsLineTable bytes es → table_starts bytes ≡ es
is_read bytes es (count, rest, split, (h, l, count_is, n_is), entries) =
    let r = read rest es entries in
    let all : bytes ≡ h ∷ l ∷ rest = split ∙ ap (λ (c : List ℕ). c ++ rest) count_is in
    let long : length rest ≡ 4 * (256 * h + l) = r.1 ∙ ap (λ (n : ℕ). 4 * n) n_is in
    ap table_starts all ∙ ap (λ (t : Bool). cond t (starts_in rest) []) (eq-eqb (length rest) (4 * (256 * h + l)) long) ∙ r.0

others : (bytes : List ℕ) → ((es : List LineStart) → ¬ IsLineTable bytes es) → table_starts bytes ≡ []
others [] never = refl
others (h ∷ []) never = refl
others (h ∷ l ∷ rest) never = elim (cases_Bool (eqb (length rest) (4 * (256 * h + l)))) [
  | inl e ↦
      let m = made (256 * h + l) rest (eqb-true _ _ e) in
      absurd (never (starts_in rest) (h ∷ l ∷ [], rest, refl, (h, l, refl, m.1), m.0))
  | inr e ↦ ap (λ (t : Bool). cond t (starts_in rest) []) e
]

pub tables_are_read : TablesAreRead
tables_are_read bytes = (is_read bytes, others bytes)

-- ---- the nearest

abbrev Told : (p : ℕ) → List LineStart → Option LineStart → Type 0
Told p es o = MatchOption o (All (λ d. p < d.start) es) (IsNearest p es)

-- the first one is the nearest
first_is : (p : ℕ) (x : LineStart) (es : List LineStart) → x.start ≤ p → All (λ d. d.start ≤ p → d.start < x.start) es → IsNearest p (x ∷ es) x
first_is p x es le others = record { before = []; after = es; parts = refl; not_behind = le; latest = All-nil _; last = others }

-- one that isn't stands before the nearest
before_it : (p : ℕ) (x d : LineStart) (es : List LineStart) → (x.start ≤ p → x.start ≤ d.start) → IsNearest p es d → IsNearest p (x ∷ es) d
before_it p x d es no_later n = record {
  before = x ∷ n.before;
  after = n.after;
  parts = ap (λ (ys : List LineStart). x ∷ ys) n.parts;
  not_behind = n.not_behind;
  latest = All-cons (λ (y : LineStart). y.start ≤ p → y.start ≤ d.start) x n.before no_later n.latest;
  last = n.last;
}

-- the others begin before one that begins behind the nearest
all_before : (p : ℕ) (x d : LineStart) (es : List LineStart) → d.start < x.start → IsNearest p es d → All (λ (y : LineStart). y.start ≤ p → y.start < x.start) es
all_before p x d es lt n =
    let P : LineStart → Type 0 = λ y. y.start ≤ p → y.start < x.start in
    subst (All P) (sym n.parts)
    (All-append P n.before (d ∷ n.after)
    (All-weaker (λ (y : LineStart). y.start ≤ p → y.start ≤ d.start) P (λ y h le. let k = h le in omega arith) n.before n.latest)
    (All-cons P d n.after (λ _. lt) (All-weaker (λ (y : LineStart). y.start ≤ p → y.start < d.start) P (λ y h le. let k = h le in omega arith) n.after n.last)))

told : (p : ℕ) (x : LineStart) (es : List LineStart) (o : Option LineStart) → Told p es o → Told p (x ∷ es) (nearer p x o)
told p x es None behind = elim (cases_lt p x.start) [
  | inl past ↦ subst (λ (t : Bool). Told p (x ∷ es) (cond t (Some x) None)) (sym (lt-leb x.start p past)) (All-cons (λ (d : LineStart). p < d.start) x es past behind)
  | inr le ↦ subst (λ (t : Bool). Told p (x ∷ es) (cond t (Some x) None)) (sym (le-leb x.start p le))
      (first_is p x es le (All-weaker (λ (d : LineStart). p < d.start) (λ (d : LineStart). d.start ≤ p → d.start < x.start) (λ d b n. omega arith) es behind))
]
told p x es (Some d) n = elim (cases_lt p x.start) [
  | inl past ↦ subst (λ (t : Bool). Told p (x ∷ es) (cond t (Some x) (Some d))) (sym (and_left (nat_le x.start p) (nat_le (suc d.start) x.start) (lt-leb x.start p past)))
      (before_it p x d es (λ le. omega arith) n)
  | inr le ↦ elim (cases_lt d.start x.start) [
    | inl lt ↦ subst (λ (t : Bool). Told p (x ∷ es) (cond t (Some x) (Some d)))
        (sym (and_from (nat_le x.start p) (nat_le (suc d.start) x.start) (le-leb x.start p le) (le-leb (suc d.start) x.start (omega arith)))) (first_is p x es le (all_before p x d es lt n))
    | inr same ↦ subst (λ (t : Bool). Told p (x ∷ es) (cond t (Some x) (Some d)))
        (sym (and_right (nat_le x.start p) (nat_le (suc d.start) x.start) (lt-leb (suc d.start) x.start (omega arith)))) (before_it p x d es (λ _. same) n)
  ]
]

pub nearest_is_nearest : NearestIsNearest
nearest_is_nearest p [] = All-nil _
nearest_is_nearest p (x ∷ es) = told p x es (nearest p es) (nearest_is_nearest p es)
