-- Operand stacks as the code has them, whose top is last.
use Rattle.std.proofs.Common.{◌≡◌, ℕ, suc, ◌+◌, ◌*◌, ◌<◌, ◌≤◌, Bool, true, false, List, [], ◌∷◌, ◌++◌, length, map, reverse, get_or, take, drop, length-drop, drop-cons, add-one, None, refl, sym, ap, ◌∙◌, arith}
use Rattle.std.specs.Prelude.{if◌then◌else◌, ◌==◌}
use Rattle.std.proofs.Math.Seq.{take-length}
use Rattle.std.proofs.Math.ListN.{set, drop_of_length-le}
use Rattle.std.proofs.lemmas.List.{length-reverse, length-map, map-append, map-set, get_or-map, length-take-le}
use Rattle.std.proofs.lemmas.List.Edits.{map_over_more}
use Rattle.std.proofs.lemmas.Grind.{take_at_read}
use Rattle.std.proofs.lemmas.List.Sums.{sum_by-cons, sum_by-append}
use Rattle.bytecode_model.specs.Types as model
use Rattle.bytecode_typing.specs.Types as typing
use Rattle.bytecode_typing.specs.Types.{type_words, stack_words, is_long_type, substituted, holds_made}
use Rattle.verifier_types.specs.declared.types.VarType.{VarType}
use Rattle.verifier_types.specs.declared.types.NumberType.{NumberType}
use Rattle.verifier_types.specs.Seen.{number_seen, type_seen, types_seen, stack_seen}
use Rattle.verifier_types.proofs.ListLemmas.{reverse_cons, map_reverse}
use Rattle.verifier_types.specs.Taken.{item_taken, numbers_taken, is_made}

-- ---- words

pub one_or_two : (t : typing.VarType) → type_words t ≤ 2
one_or_two typing.Top = omega arith
one_or_two typing.Integer = omega arith
one_or_two typing.LongInteger = omega arith
one_or_two typing.NullReference = omega arith
one_or_two typing.UninitializedThis = omega arith
one_or_two (typing.Uninitialized p) = omega arith
one_or_two (typing.ReferenceTo k) = omega arith

pub words_within : (ts : List typing.VarType) → stack_words ts ≤ 2 * length ts
words_within [] = omega arith
words_within (t ∷ ts) = omega (arith, sum_by-cons type_words t ts, one_or_two t, words_within ts)

-- in whichever order they are counted
pub words_reverse : (xs : List VarType) → stack_words (stack_seen xs) ≡ stack_words (types_seen xs)
words_reverse [] = refl
words_reverse (x ∷ xs) =
    ap (λ l. stack_words (map type_seen l)) (reverse_cons x xs)
    ∙ (ap stack_words (map-append type_seen (reverse xs) (x ∷ []))
    ∙ (sum_by-append type_words (stack_seen xs) (type_seen x ∷ [])
    ∙ omega (arith, words_reverse xs, sum_by-cons type_words (type_seen x) (types_seen xs), sum_by-cons type_words (type_seen x) [])))

-- ---- what is made

either : (a b c : Bool) → (if a then true else (if b then true else c)) ≡ (if (if a then true else b) then true else c)
either true b c = refl
either false b c = refl

pub holds_append : (p : ℕ) (xs ys : List typing.VarType) → holds_made p (xs ++ ys) ≡ (if holds_made p xs then true else holds_made p ys)
holds_append p [] ys = refl
holds_append p (typing.Top ∷ xs) ys = holds_append p xs ys
holds_append p (typing.Integer ∷ xs) ys = holds_append p xs ys
holds_append p (typing.LongInteger ∷ xs) ys = holds_append p xs ys
holds_append p (typing.NullReference ∷ xs) ys = holds_append p xs ys
holds_append p (typing.UninitializedThis ∷ xs) ys = holds_append p xs ys
holds_append p (typing.Uninitialized q ∷ xs) ys = ap (λ b. if p == q then true else b) (holds_append p xs ys) ∙ either (p == q) (holds_made p xs) (holds_made p ys)
holds_append p (typing.ReferenceTo k ∷ xs) ys = holds_append p xs ys

pub holds_cons : (p : ℕ) (t : typing.VarType) (ts : List typing.VarType) → holds_made p (t ∷ ts) ≡ (if is_made p t then true else holds_made p ts)
holds_cons p typing.Top ts = refl
holds_cons p typing.Integer ts = refl
holds_cons p typing.LongInteger ts = refl
holds_cons p typing.NullReference ts = refl
holds_cons p typing.UninitializedThis ts = refl
holds_cons p (typing.Uninitialized q) ts = refl
holds_cons p (typing.ReferenceTo k) ts = refl

commute : (a b : Bool) → (if a then true else b) ≡ (if b then true else a)
commute true true = refl
commute true false = refl
commute false true = refl
commute false false = refl

same_if : (b : Bool) → (if b then true else false) ≡ b
same_if true = refl
same_if false = refl

-- from whichever end it is looked for
pub holds_reverse : (p : ℕ) (xs : List VarType) → holds_made p (stack_seen xs) ≡ holds_made p (types_seen xs)
holds_reverse p [] = refl
holds_reverse p (x ∷ xs) =
    let t : typing.VarType = type_seen x in
    let one : holds_made p (t ∷ []) ≡ is_made p t = holds_cons p t [] ∙ same_if (is_made p t) in
    ap (λ l. holds_made p (map type_seen l)) (reverse_cons x xs)
    ∙ (ap (holds_made p) (map-append type_seen (reverse xs) (x ∷ []))
    ∙ (holds_append p (stack_seen xs) (t ∷ [])
    ∙ (ap (λ b. if b then true else holds_made p (t ∷ [])) (holds_reverse p xs)
    ∙ (ap (λ b. if holds_made p (types_seen xs) then true else b) one
    ∙ (commute (holds_made p (types_seen xs)) (is_made p t) ∙ sym (holds_cons p t (types_seen xs)))))))

-- one after another
holds_step : (p : ℕ) (xs : List VarType) (i : ℕ) (d : VarType) → i < length xs
    → holds_made p (types_seen (drop i xs)) ≡ (if is_made p (type_seen (get_or xs i d)) then true else holds_made p (types_seen (drop (i + 1) xs)))
holds_step p xs i d h =
    ap (λ l. holds_made p (map type_seen l)) (drop-cons xs i d h)
    ∙ (holds_cons p (type_seen (get_or xs i d)) (types_seen (drop (suc i) xs))
    ∙ ap (λ n. if is_made p (type_seen (get_or xs i d)) then true else holds_made p (types_seen (drop n xs))) (sym (add-one i)))

pub holds_found : (p : ℕ) (xs : List VarType) (i : ℕ) (d : VarType) → i < length xs → is_made p (type_seen (get_or xs i d)) ≡ true → holds_made p (types_seen (drop i xs)) ≡ true
holds_found p xs i d h e = holds_step p xs i d h ∙ ap (λ b. if b then true else holds_made p (types_seen (drop (i + 1) xs))) e

pub holds_passed : (p : ℕ) (xs : List VarType) (i : ℕ) (d : VarType) → i < length xs → is_made p (type_seen (get_or xs i d)) ≡ false
    → holds_made p (types_seen (drop (i + 1) xs)) ≡ holds_made p (types_seen (drop i xs))
holds_passed p xs i d h e = sym (holds_step p xs i d h ∙ ap (λ b. if b then true else holds_made p (types_seen (drop (i + 1) xs))) e)

pub none_left : (p : ℕ) (xs : List VarType) (i : ℕ) → length xs ≤ i → holds_made p (types_seen (drop i xs)) ≡ false
none_left p xs i h = ap (λ l. holds_made p (types_seen l)) (drop_of_length-le xs h)

-- ---- substitution

substituted_words : (o n t : typing.VarType) → is_long_type n ≡ false → type_words (substituted o n t) ≡ type_words t
substituted_words typing.UninitializedThis n typing.UninitializedThis h = ap (λ b. if b then 2 else 1) h
substituted_words (typing.Uninitialized p) n (typing.Uninitialized q) h = picked (p == q) n q h
  where
    picked : (b : Bool) (n : typing.VarType) (q : ℕ) → is_long_type n ≡ false → type_words (if b then n else typing.Uninitialized q) ≡ 1
    picked true n q h = ap (λ b. if b then 2 else 1) h
    picked false n q h = refl
substituted_words o n t h = refl

words_map : (o n : typing.VarType) → is_long_type n ≡ false → (ts : List typing.VarType) → stack_words (map (substituted o n) ts) ≡ stack_words ts
words_map o n h [] = refl
words_map o n h (t ∷ ts) =
    omega (arith, sum_by-cons type_words (substituted o n t) (map (substituted o n) ts), sum_by-cons type_words t ts, substituted_words o n t h, words_map o n h ts)

pub words_substituted : (o n : VarType) (xs ys : List VarType) → is_long_type (type_seen n) ≡ false → types_seen ys ≡ map (substituted (type_seen o) (type_seen n)) (types_seen xs)
    → stack_words (stack_seen ys) ≡ stack_words (stack_seen xs)
words_substituted o n xs ys h e = words_reverse ys ∙ (ap stack_words e ∙ (words_map (type_seen o) (type_seen n) h (types_seen xs) ∙ sym (words_reverse xs)))

pub stack_substituted : (o n : VarType) (xs ys : List VarType) → types_seen ys ≡ map (substituted (type_seen o) (type_seen n)) (types_seen xs)
    → stack_seen ys ≡ map (substituted (type_seen o) (type_seen n)) (stack_seen xs)
stack_substituted o n xs ys e =
    let f : typing.VarType → typing.VarType = substituted (type_seen o) (type_seen n) in
    map_reverse type_seen ys ∙ (ap reverse e ∙ (sym (map_reverse f (types_seen xs)) ∙ ap (map f) (sym (map_reverse type_seen xs))))

-- ---- numbers on top

empty_stack : (st : List typing.VarType) → item_taken st ≡ None → (ns : List model.NumberType) → 0 < length ns → numbers_taken ns st ≡ None
empty_stack [] e [] h = absurd (omega (arith, h))
empty_stack [] e (n ∷ ns) h = refl
empty_stack (t ∷ st) e ns h = cc

pub no_number : (ns : List NumberType) (i : ℕ) (st : List typing.VarType) → i < length ns → item_taken st ≡ None → numbers_taken (map number_seen (drop i ns)) st ≡ None
no_number ns i st h e = empty_stack st e (map number_seen (drop i ns)) (omega (arith, h, length-drop i ns, length-map (drop i ns) number_seen))

-- ---- in a loop

pub words_more : (xs : List VarType) (i : ℕ) (d : VarType) → i < length xs
    → stack_words (types_seen (take (i + 1) xs)) ≡ stack_words (types_seen (take i xs)) + type_words (type_seen (get_or xs i d))
words_more xs i d h =
    ap (λ l. stack_words (map type_seen l)) (take_at_read xs i d h).1
    ∙ (ap stack_words (map-append type_seen (take i xs) (get_or xs i d ∷ []))
    ∙ (sum_by-append type_words (types_seen (take i xs)) (type_seen (get_or xs i d) ∷ []) ∙ omega (arith, sum_by-cons type_words (type_seen (get_or xs i d)) [])))

pub words_bound : (xs : List VarType) (i : ℕ) → i ≤ length xs → stack_words (types_seen (take i xs)) ≤ 2 * i
words_bound xs i h = omega (arith, words_within (types_seen (take i xs)), length-map (take i xs) type_seen, length-take-le i xs)

pub words_all : (xs : List VarType) (i : ℕ) → i ≡ length xs → stack_words (types_seen (take i xs)) ≡ stack_words (stack_seen xs)
words_all xs i h = ap (λ n. stack_words (types_seen (take n xs))) h ∙ (ap (λ l. stack_words (types_seen l)) (take-length xs) ∙ sym (words_reverse xs))

pub words_of_stack : (xs : List VarType) → stack_words (stack_seen xs) ≤ 2 * length xs
words_of_stack xs = omega (arith, words_within (stack_seen xs), length-map (reverse xs) type_seen, length-reverse xs)

-- one after another is replaced
pub map_more : (o n : VarType) (before after : List VarType) (i : ℕ) (x d : VarType) → i < length before → length after ≡ length before
    → types_seen after ≡ map (substituted (type_seen o) (type_seen n)) (take i (types_seen before)) ++ drop i (types_seen before)
    → type_seen x ≡ substituted (type_seen o) (type_seen n) (type_seen (get_or after i d))
    → types_seen (set after i x) ≡ map (substituted (type_seen o) (type_seen n)) (take (i + 1) (types_seen before)) ++ drop (i + 1) (types_seen before)
map_more o n before after i x d lt len e h =
    let f : typing.VarType → typing.VarType = substituted (type_seen o) (type_seen n) in
    let y : typing.VarType = type_seen (get_or after i d) in
    let at : y ≡ get_or (types_seen after) i y = sym (get_or-map type_seen after i d y (omega (arith, lt, len))) in
    map-set type_seen after i x
    ∙ (ap (set (types_seen after) i) h
    ∙ map_over_more f (types_seen before) (types_seen after) i y (omega (arith, lt, length-map before type_seen)) e at)
