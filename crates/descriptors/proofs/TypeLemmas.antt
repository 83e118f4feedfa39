-- Reading units and types one after the other, as loops do.
use Rattle.std.proofs.Common.{◌≡◌, ℕ, suc, ◌+◌, ◌-◌, ◌<◌, ◌≤◌, ◌==◌, Bool, true, false, cond, List, [], ◌∷◌, ◌++◌, length, take, drop, get_or, Option, Some, None, refl, sym, ap, ◌∙◌, append_assoc, arith, eq-eqb, add-one, drop-cons, nat_le, le-leb}
use Rattle.std.proofs.Math.Seq.{take-suc}
use Rattle.std.proofs.lemmas.List.{take_all, drop_all, length-drop}
use Rattle.descriptors.specs.Descriptors.{argument_words}
use Rattle.std.proofs.lemmas.List.{append-nil}
use Rattle.std.proofs.Common.{ne_eqb}
use Rattle.std.proofs.lemmas.Bool.{lt-ltb, le-ltb}
use Rattle.base.specs.declared.fault.FormatFault.{FormatFault}
use Rattle.base.specs.declared.fault.FormatFault.TheVariants as faults
use Rattle.base.specs.Reading.{◌>>=◌, Fails}
use Rattle.descriptors.specs.declared.descriptor.FieldType.{FieldType}
use Rattle.descriptors.specs.Parsing.{behind, split_in, element_in, with_dimensions, type_from, type_in, types_in}

abbrev pub split_after : List ℕ → Option (List ℕ × List ℕ) → Option (List ℕ × List ℕ)
split_after front read = read >>= λ x. Some (front ++ x.0, x.1)

-- the types that were read before, and those that are still read
abbrev pub types_after : List FieldType → Option (List FieldType × List ℕ) → Option (List FieldType × List ℕ)
types_after front read = read >>= λ x. Some (front ++ x.0, x.1)

split_here : (units : List ℕ) (i : ℕ) → i < length units
    → split_in (drop i units) ≡ cond (get_or units i 0 == 59) (Some ([], drop (i + 1) units)) (split_after (get_or units i 0 ∷ []) (split_in (drop (i + 1) units)))
unfolding split_in
split_here units i lt = rw (add-one, drop-cons units i 0) refl

pub split_found : (units : List ℕ) (i : ℕ) (total : Option (List ℕ × List ℕ)) → i < length units → get_or units i 0 ≡ 59
    → split_after (take i units) (split_in (drop i units)) ≡ total → Some (take i units, take (length units - (i + 1)) (drop (i + 1) units)) ≡ total
split_found units i total lt is so_far =
    let all : take (length units - (i + 1)) (drop (i + 1) units) ≡ drop (i + 1) units = take_all (length units - (i + 1)) (drop (i + 1) units) (omega (arith, length-drop (i + 1) units)) in
    let test : (get_or units i 0 == 59) ≡ true = eq-eqb (get_or units i 0) 59 is in
    let here : split_after (take i units) (split_in (drop i units)) ≡ Some (take i units, drop (i + 1) units) =
    ap (split_after (take i units)) (split_here units i lt ∙ ap (λ (b : Bool). cond b (Some ([], drop (i + 1) units)) (split_after (get_or units i 0 ∷ []) (split_in (drop (i + 1) units)))) test)
    ∙ ap (λ (x : List ℕ). Some (x, drop (i + 1) units)) (append-nil (take i units)) in
    ap (λ (x : List ℕ). Some (take i units, x)) all ∙ (sym here ∙ so_far)

regroup : (front : List ℕ) (x : ℕ) (read : Option (List ℕ × List ℕ)) → split_after front (split_after (x ∷ []) read) ≡ split_after (front ++ x ∷ []) read
regroup front x None = refl
regroup front x (Some y) = ap (λ (xs : List ℕ). Some (xs, y.1)) (sym (append_assoc front (x ∷ []) y.0))

pub split_more : (units : List ℕ) (i : ℕ) (total : Option (List ℕ × List ℕ)) → i < length units → (get_or units i 0 ≡ 59 → ⊥)
    → split_after (take i units) (split_in (drop i units)) ≡ total → split_after (take (i + 1) units) (split_in (drop (i + 1) units)) ≡ total
split_more units i total lt other so_far =
    let test : (get_or units i 0 == 59) ≡ false = ne_eqb (get_or units i 0) 59 other in
    let front : take (i + 1) units ≡ take i units ++ get_or units i 0 ∷ [] = rw add-one (take-suc units i 0 lt) in
    let here : split_after (take i units) (split_in (drop i units)) ≡ split_after (take (i + 1) units) (split_in (drop (i + 1) units)) =
    ap (split_after (take i units)) (split_here units i lt ∙ ap (λ (b : Bool). cond b (Some ([], drop (i + 1) units)) (split_after (get_or units i 0 ∷ []) (split_in (drop (i + 1) units)))) test)
    ∙ regroup (take i units) (get_or units i 0) (split_in (drop (i + 1) units))
    ∙ ap (λ (x : List ℕ). split_after x (split_in (drop (i + 1) units))) (sym front) in
    sym here ∙ so_far

pub split_none : (units : List ℕ) (i : ℕ) (total : Option (List ℕ × List ℕ)) → length units ≤ i → split_after (take i units) (split_in (drop i units)) ≡ total → None ≡ total
unfolding split_in
split_none units i total le so_far =
    let nothing : drop i units ≡ [] = drop_all i units le in
    let here : split_after (take i units) (split_in (drop i units)) ≡ None = rw nothing refl in
    sym here ∙ so_far

pub words_counted : (words : ℕ) (k : ℕ) (types : List FieldType) → length types ≤ k → words + argument_words (drop k types) ≡ argument_words types → words ≤ 255
    → Some words ≡ cond (nat_le (argument_words types) 255) (Some (argument_words types)) None
words_counted words k types le so_far few =
    let nothing : drop k types ≡ [] = drop_all k types le in
    let whole : words + argument_words [] ≡ argument_words types = ap (λ (ts : List FieldType). words + argument_words ts) (sym nothing) ∙ so_far in
    let same : words ≡ argument_words types = omega (arith, whole) in
    let test : nat_le (argument_words types) 255 ≡ true = le-leb (argument_words types) 255 (omega (arith, same, few)) in
    rw (test, ← same) refl

some_is : (test : Bool) (units after : List ℕ) → Some after ≡ cond test (Some units) None → (test ≡ true) × (units ≡ after)
some_is true units after e = (refl, cc)
some_is false units after e = absurd (let f : Some after ≡ None = e in cc)

none_is : (test : Bool) (units : List ℕ) → None ≡ cond test (Some units) None → test ≡ false
none_is true units e = absurd (let f : None ≡ Some units = e in cc)
none_is false units e = refl

pub shorter : (wanted : ℕ) (rest after : List ℕ) → Some after ≡ behind wanted rest → length after < length rest
shorter wanted [] after e = absurd (let f : Some after ≡ None = e in cc)
shorter wanted (unit ∷ units) after e = let s = some_is (unit == wanted) units after e in omega (arith, ap length s.1)

pub type_open : (n : ℕ) (rest after : List ℕ) → Some after ≡ behind 91 rest → n < 255 → type_from n rest ≡ type_from (n + 1) after
unfolding type_from
type_open n [] after e lt = absurd (let f : Some after ≡ None = e in cc)
type_open n (unit ∷ units) after e lt = let s = some_is (unit == 91) units after e in rw (s.0, lt-ltb n 255 lt, ← s.1) refl

pub type_full : (n : ℕ) (rest after : List ℕ) → Some after ≡ behind 91 rest → 255 ≤ n → type_from n rest ≡ None
unfolding type_from
type_full n [] after e le = absurd (let f : Some after ≡ None = e in cc)
type_full n (unit ∷ units) after e le = let s = some_is (unit == 91) units after e in rw (s.0, le-ltb n 255 le) refl

pub type_shut : (n : ℕ) (rest : List ℕ) → None ≡ behind 91 rest → type_from n rest ≡ with_dimensions n (element_in rest)
unfolding type_from element_in
type_shut n [] e = refl
type_shut n (unit ∷ units) e = let s = none_is (unit == 91) units e in rw s refl

pub type_failed : (fault : FormatFault) (n : ℕ) (rest : List ℕ) (total : Option (FieldType × List ℕ)) → None ≡ behind 91 rest → type_from n rest ≡ total → Fails fault (element_in rest) → Fails fault total
type_failed faults.NoMemory n rest total shut so_far fails = tt
type_failed faults.Bad n rest total shut so_far fails = sym so_far ∙ (type_shut n rest shut ∙ ap (with_dimensions n) fails)

types_shut : (n : ℕ) (rest after : List ℕ) → Some after ≡ behind 41 rest → types_in (suc n) rest ≡ Some ([], after)
unfolding types_in
types_shut n [] after e = absurd (let f : Some after ≡ None = e in cc)
types_shut n (unit ∷ units) after e = let s = some_is (unit == 41) units after e in rw (s.0, ← s.1) refl

pub types_more : (n : ℕ) (rest : List ℕ) → None ≡ behind 41 rest → types_in (suc n) rest ≡ (type_in rest >>= λ first. types_in n first.1 >>= λ others. Some (first.0 ∷ others.0, others.1))
unfolding types_in type_from
types_more n [] e = refl
types_more n (unit ∷ units) e = let s = none_is (unit == 41) units e in rw s refl

pub types_end : (front : List FieldType) (count i : ℕ) (rest after : List ℕ) (total : Option (List FieldType × List ℕ)) → i < count → Some after ≡ behind 41 rest
    → types_after front (types_in (count - i) rest) ≡ total → total ≡ Some (front, after)
types_end front count i rest after total lt e so_far =
    let k : count - i ≡ suc (count - (i + 1)) = omega arith in
    let here : types_after front (types_in (count - i) rest) ≡ Some (front, after) = rw (k, types_shut (count - (i + 1)) rest after e) (ap (λ (ts : List FieldType). Some (ts, after)) (append-nil front)) in
    sym so_far ∙ here

types_regroup : (front : List FieldType) (t : FieldType) (read : Option (List FieldType × List ℕ)) → types_after front (read >>= λ x. Some (t ∷ x.0, x.1)) ≡ types_after (front ++ t ∷ []) read
types_regroup front t None = refl
types_regroup front t (Some x) = ap (λ (ts : List FieldType). Some (ts, x.1)) (sym (append_assoc front (t ∷ []) x.0))

pub types_go_on : (front : List FieldType) (count i : ℕ) (rest : List ℕ) (t : FieldType) (after : List ℕ) (total : Option (List FieldType × List ℕ)) → i < count → None ≡ behind 41 rest → type_in rest ≡ Some (t, after)
    → types_after front (types_in (count - i) rest) ≡ total → types_after (front ++ t ∷ []) (types_in (count - (i + 1)) after) ≡ total
types_go_on front count i rest t after total lt shut h so_far =
    let k : count - i ≡ suc (count - (i + 1)) = omega arith in
    let here : types_after front (types_in (count - i) rest) ≡ types_after (front ++ t ∷ []) (types_in (count - (i + 1)) after) =
    rw (k, types_more (count - (i + 1)) rest shut, h) (types_regroup front t (types_in (count - (i + 1)) after)) in
    sym here ∙ so_far

pub types_stop : (fault : FormatFault) (front : List FieldType) (count i : ℕ) (rest : List ℕ) (total : Option (List FieldType × List ℕ)) → i < count → None ≡ behind 41 rest → Fails fault (type_in rest)
    → types_after front (types_in (count - i) rest) ≡ total → Fails fault total
types_stop faults.NoMemory front count i rest total lt shut h so_far = tt
types_stop faults.Bad front count i rest total lt shut h so_far =
    let k : count - i ≡ suc (count - (i + 1)) = omega arith in
    let here : types_after front (types_in (count - i) rest) ≡ None = rw (k, types_more (count - (i + 1)) rest shut, h) refl in
    sym so_far ∙ here

pub types_none : (front : List FieldType) (count i : ℕ) (rest : List ℕ) (total : Option (List FieldType × List ℕ)) → count ≤ i → types_after front (types_in (count - i) rest) ≡ total → total ≡ None
unfolding types_in
types_none front count i rest total le so_far =
    let k : count - i ≡ 0 = omega arith in
    let here : types_after front (types_in (count - i) rest) ≡ None = rw k refl in
    sym so_far ∙ here
