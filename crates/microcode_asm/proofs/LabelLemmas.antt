-- Labels, the first of each name.
use Rattle.std.proofs.Common.{◌≡◌, ℕ, suc, ◌+◌, ◌<◌, ◌≤◌, Bool, true, false, List, [], ◌∷◌, ◌++◌, length, get_or, drop, map, append_assoc, append-nil, refl, sym, ◌∙◌, ap, ap₂, subst, arith, Option, Some, None, Bor, cond, inl, inr, eqb, Vec, Global, drop-cons}
use Rattle.std.specs.Prelude.{is_some}
use Rattle.std.specs.Option.{option_or, option_copied}
use Rattle.std.specs.Map.{lookup}
use Rattle.std.proofs.lemmas.Bool.{cases_Bool, false≢true, true≢false}
use Rattle.std.proofs.lemmas.List.{length-map, get_or-map, drop_all, map-append}
use lib.Pointwise.{pointwise, bytes_decides}
use Rattle.microcode_asm.specs.Parts.{is}
use Rattle.microcode_asm.specs.Statements.{Statement, nothing, word, branch, entry, raise, constant, turns, size_of, Line, line_of}
use Rattle.microcode_asm.specs.Programs.{labels_at, labels_from, size_at}

abbrev pub now : Bor (List ℕ) → List ℕ
now p = p.now

abbrev pub has_text : List ℕ → Vec ℕ Global → Bool
has_text q k = pointwise eqb q k.items

-- ---- the first or the second

pub or_none : {X : Type 0} (o : Option X) → option_or o None ≡ o
or_none None = refl
or_none (Some x) = refl

or_assoc : (a b c : Option ℕ) → option_or (option_or a b) c ≡ option_or a (option_or b c)
or_assoc None b c = refl
or_assoc (Some x) b c = refl

cond_or : (t : Bool) (v : ℕ) (r s : Option ℕ) → cond t (Some v) (option_or r s) ≡ option_or (cond t (Some v) r) s
cond_or true v r s = refl
cond_or false v r s = refl

pub lookup_append : {K : Type 0} (test : K → Bool) (xs ys : List (K × ℕ)) → lookup test (xs ++ ys) ≡ option_or (lookup test xs) (lookup test ys)
lookup_append test [] ys = refl
lookup_append test (x ∷ xs) ys = ap (λ (r : Option ℕ). cond (test x.0) (Some x.1) r) (lookup_append test xs ys) ∙ cond_or (test x.0) x.1 (lookup test xs) (lookup test ys)

some_stays : (a b : Option ℕ) → is_some a ≡ true → a ≡ option_or a b
some_stays None b h = absurd (false≢true h)
some_stays (Some x) b h = refl

-- ---- one label

pub label_old : (q name : List ℕ) (words : ℕ) (es : List (Vec ℕ Global × ℕ)) → is_some (lookup (has_text name) es) ≡ true
    → lookup (has_text q) es ≡ option_or (lookup (has_text q) es) (lookup (is q) ((name, words) ∷ []))
label_old q name words es there = elim (cases_Bool (is q name)) [
  | inl e ↦
      let same : q ≡ name = (bytes_decides q name).0 e in
      some_stays (lookup (has_text q) es) (lookup (is q) ((name, words) ∷ [])) (ap (λ (x : List ℕ). is_some (lookup (has_text x) es)) same ∙ there)
  | inr e ↦ sym (ap (λ (b : Bool). option_or (lookup (has_text q) es) (cond b (Some words) None)) e ∙ or_none (lookup (has_text q) es))
]

pub label_new : (q name : List ℕ) (words : ℕ) (key : Vec ℕ Global) (es new : List (Vec ℕ Global × ℕ)) → key.items ≡ name → new ≡ es ++ (key, words) ∷ []
    → lookup (has_text q) new ≡ option_or (lookup (has_text q) es) (lookup (is q) ((name, words) ∷ []))
label_new q name words key es new items more =
    ap (lookup (has_text q)) more
    ∙ lookup_append (has_text q) es ((key, words) ∷ [])
    ∙ ap (λ (x : List ℕ). option_or (lookup (has_text q) es) (cond (pointwise eqb q x) (Some words) None)) items

-- ---- the labels of a line

rest_is : (ps : List (Bor (List ℕ))) (i : ℕ) (d : Bor (List ℕ)) → i < length ps → drop i (map now ps) ≡ (get_or ps i d).now ∷ drop (i + 1) (map now ps)
rest_is ps i d lt =
    let next : suc i ≡ i + 1 = omega arith in
    let within : i < length (map now ps) = omega (arith, length-map ps now, lt) in
    drop-cons (map now ps) i [] within ∙ ap₂ (λ (x : List ℕ) k. x ∷ drop k (map now ps)) (get_or-map now ps i d [] lt) next

pub label_more : (q : List ℕ) (words : ℕ) (names : List (Bor (List ℕ))) (d : Bor (List ℕ)) (i : ℕ) (old more all : Option ℕ) → i < length names
    → more ≡ option_or old (lookup (is q) (((get_or names i d).now, words) ∷ []))
    → option_or old (lookup (is q) (map (λ n. (n, words)) (drop i (map now names)))) ≡ all
    → option_or more (lookup (is q) (map (λ n. (n, words)) (drop (i + 1) (map now names)))) ≡ all
label_more q words names d i old more all lt e h =
    let x = (get_or names i d).now in
    let rest = lookup (is q) (map (λ n. (n, words)) (drop (i + 1) (map now names))) in
    ap (λ (o : Option ℕ). option_or o rest) e
    ∙ or_assoc old (cond (is q x) (Some words) None) rest
    ∙ ap (λ (o : Option ℕ). option_or old o) (sym (cond_or (is q x) words None rest))
    ∙ sym (ap (λ (l : List (List ℕ)). option_or old (lookup (is q) (map (λ n. (n, words)) l))) (rest_is names i d lt))
    ∙ h

pub label_last : (q : List ℕ) (words : ℕ) (names : List (Bor (List ℕ))) (i : ℕ) (now_is all : Option ℕ) → length names ≤ i
    → option_or now_is (lookup (is q) (map (λ n. (n, words)) (drop i (map now names)))) ≡ all → now_is ≡ all
label_last q words names i now_is all past h =
    sym (ap (λ (l : List (List ℕ)). option_or now_is (lookup (is q) (map (λ n. (n, words)) l))) (drop_all i (map now names) (omega (arith, length-map names now, past)))
    ∙ or_none now_is)
    ∙ h

-- ---- a line

pub no_line : (q : List ℕ) (words : ℕ) (o : Option Line) (old : Option ℕ) → None ≡ o → old ≡ option_or old (lookup (is q) (labels_at words o))
no_line q words o old e = sym (ap (λ (p : Option Line). option_or old (lookup (is q) (labels_at words p))) (sym e) ∙ or_none old)

pub a_line : (q : List ℕ) (words : ℕ) (o : Option Line) (line : Line) (old more : Option ℕ) → Some line ≡ o
    → more ≡ option_or old (lookup (is q) (map (λ n. (n, words)) line.labels)) → more ≡ option_or old (lookup (is q) (labels_at words o))
a_line q words o line old more e h = h ∙ ap (λ (p : Option Line). option_or old (lookup (is q) (labels_at words p))) e

-- ---- the lines

abbrev pub words_in : List (Option Line) → ℕ
words_in [] = 0
words_in (line ∷ lines) = size_at line + words_in lines

pub words_more : (xs : List (Option Line)) (line : Option Line) → words_in (xs ++ line ∷ []) ≡ words_in xs + size_at line
words_more [] line = omega arith
words_more (x ∷ xs) line = omega (arith, words_more xs line)

pub size_le : (s : Statement) → size_of s ≤ 1
size_le nothing = omega arith
size_le (word bits) = omega arith
size_le (branch how label) = omega arith
size_le (entry op) = omega arith
size_le raise = omega arith
size_le (constant number value) = omega arith
size_le (turns t) = omega arith

pub size_small : (line : Option Line) → size_at line ≤ 1
size_small None = omega arith
size_small (Some line) = size_le line.statement

pub words_few : (xs : List (Option Line)) → words_in xs ≤ length xs
words_few [] = omega arith
words_few (x ∷ xs) = omega (arith, size_small x, words_few xs)

pub labels_more : (n : ℕ) (xs : List (Option Line)) (line : Option Line) → labels_from n (xs ++ line ∷ []) ≡ labels_from n xs ++ labels_at (n + words_in xs) line
labels_more n [] line =
    let same : n ≡ n + 0 = omega arith in
    append-nil (labels_at n line) ∙ ap (λ k. labels_at k line) same
labels_more n (x ∷ xs) line =
    let there : (n + size_at x) + words_in xs ≡ n + (size_at x + words_in xs) = omega arith in
    ap (λ l. labels_at n x ++ l) (labels_more (n + size_at x) xs line ∙ ap (λ k. labels_from (n + size_at x) xs ++ labels_at k line) there)
    ∙ sym (append_assoc (labels_at n x) (labels_from (n + size_at x) xs) (labels_at (n + (size_at x + words_in xs)) line))

-- ---- a look-up that found nothing

pub copied_absent : (o : Option (Bor ℕ)) → is_some o ≡ false → option_copied o ≡ None
copied_absent None h = refl
copied_absent (Some x) h = absurd (true≢false h)
