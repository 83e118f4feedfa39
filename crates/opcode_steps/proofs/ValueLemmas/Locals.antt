-- The words of local variables: what is read and written at one (JVM Specification SE 8, 2.6.1).
use Rattle.std.proofs.Common.{◌≡◌, ℕ, zero, suc, ◌+◌, ◌<◌, Bool, true, false, ℤ, List, [], ◌∷◌, Option, Some, None, length, set, refl, sym, ◌∙◌, ap, subst, arith, if◌then◌else◌}
use Rattle.std.specs.Prelude.{slice_get, slice_index}
use Rattle.std.proofs.lemmas.Option.{none-some}
use Rattle.lists.proofs.Lemmas.{onto_some, some_same}
use Rattle.bytecode_model.specs.declared.Value.{Value}
use Rattle.bytecode_model.specs.declared.Value.TheVariants.{Int, Long, Ref, Null, Unset}
use Rattle.bytecode_model.specs.Lists.{onto, replaced}
use Rattle.bytecode_model.specs.Types.{is_long}
use Rattle.bytecode_model.specs.Slots.{stored_at}
use Rattle.bytecode_model.specs.Effects.{stored}
use Rattle.image_facts.specs.Words.{int_word, high_word, low_word}
use Rattle.machine_stands.specs.Frames.{IsWordOf, AreLocals}

-- a value that takes one word and is set
abbrev pub is_word : Value → Bool
is_word (Int n) = true
is_word (Long n) = false
is_word (Ref p) = true
is_word Null = true
is_word Unset = false

pub word_is_short : (v : Value) → is_word v ≡ true → is_long v ≡ false
word_is_short (Int n) h = refl
word_is_short (Ref p) h = refl
word_is_short Null h = refl
word_is_short Unset h = refl
word_is_short (Long n) h = absurd (cc)

one_more : (place : ℕ → ℕ) (v : Value) (vs : List Value) (w : ℕ) (ws : List ℕ) → is_long v ≡ false → IsWordOf place v w → AreLocals place vs ws → AreLocals place (v ∷ vs) (w ∷ ws)
one_more place (Int n) vs w ws short is h = (is, h)
one_more place (Ref p) vs w ws short is h = (is, h)
one_more place Null vs w ws short is h = (is, h)
one_more place Unset vs w ws short is h = (is, h)
one_more place (Long n) vs w ws short is h = absurd (cc)

-- Local variables one after another: one of one word, or a long with the unset one behind it.
by_locals : (place : ℕ → ℕ) (Q : List Value → List ℕ → Type 0) → Q [] []
    → ((v : Value) (vs : List Value) (w : ℕ) (ws : List ℕ) → is_long v ≡ false → IsWordOf place v w → AreLocals place vs ws → Q vs ws → Q (v ∷ vs) (w ∷ ws))
    → ((n : ℤ) (vs : List Value) (high low : ℕ) (ws : List ℕ) → high ≡ high_word n → low ≡ low_word n → AreLocals place vs ws → Q vs ws → Q (Long n ∷ Unset ∷ vs) (high ∷ low ∷ ws))
    → (vs : List Value) (ws : List ℕ) → AreLocals place vs ws → Q vs ws
by_locals place Q none one two [] [] h = none
by_locals place Q none one two [] (w ∷ ws) h = absurd h
by_locals place Q none one two (Int n ∷ vs) [] h = absurd h
by_locals place Q none one two (Ref p ∷ vs) [] h = absurd h
by_locals place Q none one two (Null ∷ vs) [] h = absurd h
by_locals place Q none one two (Unset ∷ vs) [] h = absurd h
by_locals place Q none one two (Int n ∷ vs) (w ∷ ws) h = one (Int n) vs w ws refl h.0 h.1 (by_locals place Q none one two vs ws h.1)
by_locals place Q none one two (Ref p ∷ vs) (w ∷ ws) h = one (Ref p) vs w ws refl h.0 h.1 (by_locals place Q none one two vs ws h.1)
by_locals place Q none one two (Null ∷ vs) (w ∷ ws) h = one Null vs w ws refl h.0 h.1 (by_locals place Q none one two vs ws h.1)
by_locals place Q none one two (Unset ∷ vs) (w ∷ ws) h = one Unset vs w ws refl h.0 h.1 (by_locals place Q none one two vs ws h.1)
by_locals place Q none one two (Long n ∷ []) [] h = absurd h
by_locals place Q none one two (Long n ∷ []) (w ∷ ws) h = absurd h.0
by_locals place Q none one two (Long n ∷ Int k ∷ vs) [] h = absurd h
by_locals place Q none one two (Long n ∷ Long k ∷ vs) [] h = absurd h
by_locals place Q none one two (Long n ∷ Ref k ∷ vs) [] h = absurd h
by_locals place Q none one two (Long n ∷ Null ∷ vs) [] h = absurd h
by_locals place Q none one two (Long n ∷ Unset ∷ vs) [] h = absurd h
by_locals place Q none one two (Long n ∷ Int k ∷ vs) (w ∷ ws) h = absurd h.0
by_locals place Q none one two (Long n ∷ Long k ∷ vs) (w ∷ ws) h = absurd h.0
by_locals place Q none one two (Long n ∷ Ref k ∷ vs) (w ∷ ws) h = absurd h.0
by_locals place Q none one two (Long n ∷ Null ∷ vs) (w ∷ ws) h = absurd h.0
by_locals place Q none one two (Long n ∷ Unset ∷ vs) (w ∷ []) h = absurd h.0
by_locals place Q none one two (Long n ∷ Unset ∷ vs) (high ∷ low ∷ ws) h = two n vs high low ws h.0 h.1 h.2 (by_locals place Q none one two vs ws h.2)

-- those behind the first
behind_first : (place : ℕ → ℕ) (v : Value) (vs : List Value) (w : ℕ) (ws : List ℕ) → AreLocals place (v ∷ vs) (w ∷ ws) → AreLocals place vs ws
behind_first place (Int n) vs w ws h = h.1
behind_first place (Ref p) vs w ws h = h.1
behind_first place Null vs w ws h = h.1
behind_first place Unset vs w ws h = h.1
behind_first place (Long n) [] w ws h = absurd h.0
behind_first place (Long n) (Int k ∷ vs) w ws h = absurd h.0
behind_first place (Long n) (Long k ∷ vs) w ws h = absurd h.0
behind_first place (Long n) (Ref k ∷ vs) w ws h = absurd h.0
behind_first place (Long n) (Null ∷ vs) w ws h = absurd h.0
behind_first place (Long n) (Unset ∷ vs) w [] h = absurd h.0
behind_first place (Long n) (Unset ∷ vs) w (low ∷ ws) h = (tt, h.2)

-- ---- reading

-- the word of a value
abbrev WordAt : (place : ℕ → ℕ) → List Value → List ℕ → Type 0
WordAt place vs ws = (k : ℕ) (v : Value) → slice_get vs k ≡ Some v → is_word v ≡ true → (k < length ws) × IsWordOf place v (slice_index ws k)

pub word_at : (place : ℕ → ℕ) (vs : List Value) (ws : List ℕ) → AreLocals place vs ws → WordAt place vs ws
word_at place vs ws h = by_locals place (WordAt place) (λ k v e is. absurd (none-some v e)) one two vs ws h
  where
    one : (u : Value) (vs : List Value) (w : ℕ) (ws : List ℕ) → is_long u ≡ false → IsWordOf place u w → AreLocals place vs ws → WordAt place vs ws → WordAt place (u ∷ vs) (w ∷ ws)
    one u vs w ws short is h rest zero v e set = (omega arith, subst (λ (t : Value). IsWordOf place t w) (some_same u v e) is)
    one u vs w ws short is h rest (suc k) v e set = let r = rest k v e set in (omega (arith, r.0), r.1)

    two : (n : ℤ) (vs : List Value) (high low : ℕ) (ws : List ℕ) → high ≡ high_word n → low ≡ low_word n → AreLocals place vs ws → WordAt place vs ws → WordAt place (Long n ∷ Unset ∷ vs) (high ∷ low ∷ ws)
    two n vs high low ws a b h rest zero v e set = absurd (let same : Long n ≡ v = some_same (Long n) v e in let wrong : false ≡ true = ap is_word same ∙ set in cc)
    two n vs high low ws a b h rest (suc zero) v e set = absurd (let same : Unset ≡ v = some_same Unset v e in let wrong : false ≡ true = ap is_word same ∙ set in cc)
    two n vs high low ws a b h rest (suc (suc k)) v e set = let r = rest k v e set in (omega (arith, r.0), r.1)

-- the two words of a long
abbrev LongAt : List Value → List ℕ → Type 0
LongAt vs ws = (k : ℕ) (n : ℤ) → slice_get vs k ≡ Some (Long n) → (k + 1 < length ws) × (slice_index ws k ≡ high_word n) × (slice_index ws (k + 1) ≡ low_word n)

pub long_at : (place : ℕ → ℕ) (vs : List Value) (ws : List ℕ) → AreLocals place vs ws → LongAt vs ws
long_at place vs ws h = by_locals place LongAt (λ k n e. absurd (none-some (Long n) e)) one two vs ws h
  where
    next : (k w : ℕ) (ws : List ℕ) → slice_index (w ∷ ws) (suc k + 1) ≡ slice_index ws (k + 1)
    next k w ws = ap (slice_index (w ∷ ws)) (let same : suc k + 1 ≡ suc (k + 1) = omega arith in same)

    one : (u : Value) (vs : List Value) (w : ℕ) (ws : List ℕ) → is_long u ≡ false → IsWordOf place u w → AreLocals place vs ws → LongAt vs ws → LongAt (u ∷ vs) (w ∷ ws)
    one u vs w ws short is h rest zero n e = absurd (let same : u ≡ Long n = some_same u (Long n) e in let wrong : true ≡ false = sym (ap is_long same) ∙ short in cc)
    one u vs w ws short is h rest (suc k) n e = let r = rest k n e in (omega (arith, r.0), r.1, next k w ws ∙ r.2)

    two : (n : ℤ) (vs : List Value) (high low : ℕ) (ws : List ℕ) → high ≡ high_word n → low ≡ low_word n → AreLocals place vs ws → LongAt vs ws → LongAt (Long n ∷ Unset ∷ vs) (high ∷ low ∷ ws)
    two j vs high low ws a b h rest zero n e =
        let values : Long j ≡ Long n = some_same (Long j) (Long n) e in
        let same : j ≡ n = cc in
        (omega arith, a ∙ ap high_word same, b ∙ ap low_word same)
    two j vs high low ws a b h rest (suc zero) n e = absurd (let same : Unset ≡ Long n = some_same Unset (Long n) e in cc)
    two j vs high low ws a b h rest (suc (suc k)) n e = let r = rest k n e in (omega (arith, r.0), r.1, next (suc k) high (low ∷ ws) ∙ next k low ws ∙ r.2)

-- ---- replacing an int

abbrev IntReplaced : (place : ℕ → ℕ) → List Value → List ℕ → Type 0
IntReplaced place vs ws = (k : ℕ) (x y : ℤ) (ls : List Value) → slice_get vs k ≡ Some (Int x) → replaced vs k (Int y) ≡ Some ls → AreLocals place ls (set ws k (int_word y))

pub int_replaced : (place : ℕ → ℕ) (vs : List Value) (ws : List ℕ) → AreLocals place vs ws → IntReplaced place vs ws
int_replaced place vs ws h = by_locals place (IntReplaced place) (λ k x y ls e g. absurd (none-some (Int x) e)) one two vs ws h
  where
    one : (u : Value) (vs : List Value) (w : ℕ) (ws : List ℕ) → is_long u ≡ false → IsWordOf place u w → AreLocals place vs ws → IntReplaced place vs ws → IntReplaced place (u ∷ vs) (w ∷ ws)
    one u vs w ws short is h rest zero x y ls e g = subst (λ (us : List Value). AreLocals place us (int_word y ∷ ws)) (some_same (Int y ∷ vs) ls g) (refl, h)
    one u vs w ws short is h rest (suc k) x y ls e g =
        let r = onto_some (replaced vs k (Int y)) (λ zs. Some (u ∷ zs)) ls g in
        subst (λ (us : List Value). AreLocals place us (w ∷ set ws k (int_word y))) (some_same (u ∷ r.0) ls r.2) (one_more place u r.0 w (set ws k (int_word y)) short is (rest k x y r.0 e r.1))

    two : (n : ℤ) (vs : List Value) (high low : ℕ) (ws : List ℕ) → high ≡ high_word n → low ≡ low_word n → AreLocals place vs ws → IntReplaced place vs ws → IntReplaced place (Long n ∷ Unset ∷ vs) (high ∷ low ∷ ws)
    two n vs high low ws a b h rest zero x y ls e g = absurd (let same : Long n ≡ Int x = some_same (Long n) (Int x) e in cc)
    two n vs high low ws a b h rest (suc zero) x y ls e g = absurd (let same : Unset ≡ Int x = some_same Unset (Int x) e in cc)
    two n vs high low ws a b h rest (suc (suc k)) x y ls e g =
        let r = onto_some (replaced (Unset ∷ vs) (suc k) (Int y)) (λ zs. Some (Long n ∷ zs)) ls g in
        let q = onto_some (replaced vs k (Int y)) (λ zs. Some (Unset ∷ zs)) r.0 r.1 in
        let whole : Long n ∷ Unset ∷ q.0 ≡ ls = ap (λ (us : List Value). Long n ∷ us) (some_same (Unset ∷ q.0) r.0 q.2) ∙ some_same (Long n ∷ r.0) ls r.2 in
        subst (λ (us : List Value). AreLocals place us (high ∷ low ∷ set ws k (int_word y))) whole (a, b, rest k x y q.0 e q.1)

-- ---- storing

-- at the first one
first_stored : (u v : Value) (vs : List Value) → is_long u ≡ false → is_long v ≡ false → stored (u ∷ vs) 0 v ≡ Some (v ∷ vs)
first_stored u v [] a b = ap (λ (t : Bool). let o : Option (List Value) = if t then None else Some (v ∷ []) in o) b
first_stored u v (y ∷ vs) a b =
    ap (λ (t : Bool). if t then Some (v ∷ Unset ∷ vs) else Some (v ∷ (if is_long u then Unset else y) ∷ vs)) b
    ∙ ap (λ (t : Bool). Some (v ∷ (if t then Unset else y) ∷ vs)) a

-- and at a later one
later_stored : (u v : Value) (vs : List Value) (k : ℕ) → stored (u ∷ vs) (suc (suc k)) v ≡ onto (stored vs (suc k) v) (λ ws. Some (u ∷ ws))
later_stored u v [] k = refl
later_stored u v (y ∷ []) zero = refl
later_stored u v (y ∷ []) (suc k) = refl
later_stored u v (y ∷ z ∷ vs) zero = refl
later_stored u v (y ∷ z ∷ vs) (suc k) = refl

next_stored : (u v : Value) (vs : List Value) → is_long u ≡ false → stored (u ∷ vs) 1 v ≡ onto (stored vs 0 v) (λ ws. Some (u ∷ ws))
next_stored u v [] a = refl
next_stored u v (y ∷ []) a = ap (λ (t : Bool). onto (stored_at is_long Unset (y ∷ []) 0 v) (λ ws. Some ((if t then Unset else u) ∷ ws))) a
next_stored u v (y ∷ z ∷ vs) a = ap (λ (t : Bool). onto (stored_at is_long Unset (y ∷ z ∷ vs) 0 v) (λ ws. Some ((if t then Unset else u) ∷ ws))) a

on_stored : (u v : Value) (vs : List Value) (k : ℕ) → is_long u ≡ false → stored (u ∷ vs) (suc k) v ≡ onto (stored vs k v) (λ ws. Some (u ∷ ws))
on_stored u v vs zero a = next_stored u v vs a
on_stored u v vs (suc k) a = later_stored u v vs k

-- the second half of a long is written: the first one is unset
half_stored : (n : ℤ) (v : Value) (vs : List Value) → stored (Long n ∷ Unset ∷ vs) 1 v ≡ onto (stored (Unset ∷ vs) 0 v) (λ ws. Some (Unset ∷ ws))
half_stored n v [] = refl
half_stored n v (y ∷ vs) = refl

abbrev OneStored : (place : ℕ → ℕ) → List Value → List ℕ → Type 0
OneStored place vs ws = (k : ℕ) (v : Value) (w : ℕ) (ls : List Value) → is_long v ≡ false → IsWordOf place v w → stored vs k v ≡ Some ls → (k < length ws) × AreLocals place ls (set ws k w)

pub one_stored : (place : ℕ → ℕ) (vs : List Value) (ws : List ℕ) → AreLocals place vs ws → OneStored place vs ws
one_stored place vs ws h = by_locals place (OneStored place) none one two vs ws h
  where
    none : OneStored place [] []
    none zero v w ls short is g = absurd (none-some ls g)
    none (suc k) v w ls short is g = absurd (none-some ls g)

    one : (u : Value) (vs : List Value) (x : ℕ) (ws : List ℕ) → is_long u ≡ false → IsWordOf place u x → AreLocals place vs ws → OneStored place vs ws → OneStored place (u ∷ vs) (x ∷ ws)
    one u vs x ws a b h rest zero v w ls short is g =
        (omega arith, subst (λ (us : List Value). AreLocals place us (w ∷ ws)) (some_same (v ∷ vs) ls (sym (first_stored u v vs a short) ∙ g)) (one_more place v vs w ws short is h))
    one u vs x ws a b h rest (suc k) v w ls short is g =
        let r = onto_some (stored vs k v) (λ zs. Some (u ∷ zs)) ls (sym (on_stored u v vs k a) ∙ g) in
        let s = rest k v w r.0 short is r.1 in
        (omega (arith, s.0), subst (λ (us : List Value). AreLocals place us (x ∷ set ws k w)) (some_same (u ∷ r.0) ls r.2) (one_more place u r.0 x (set ws k w) a b s.1))

    two : (n : ℤ) (vs : List Value) (high low : ℕ) (ws : List ℕ) → high ≡ high_word n → low ≡ low_word n → AreLocals place vs ws → OneStored place vs ws → OneStored place (Long n ∷ Unset ∷ vs) (high ∷ low ∷ ws)
    two n vs high low ws a b h rest zero v w ls short is g =
        let whole : Some (v ∷ Unset ∷ vs) ≡ Some ls = sym (ap (λ (t : Bool). if t then Some (v ∷ Unset ∷ vs) else Some (v ∷ Unset ∷ vs)) short) ∙ g in
        (omega arith, subst (λ (us : List Value). AreLocals place us (w ∷ low ∷ ws)) (some_same (v ∷ Unset ∷ vs) ls whole) (one_more place v (Unset ∷ vs) w (low ∷ ws) short is (tt, h)))
    two n vs high low ws a b h rest (suc zero) v w ls short is g =
        let whole : Some (Unset ∷ v ∷ vs) ≡ Some ls = ap (λ o. onto o (λ zs. Some (Unset ∷ zs))) (sym (first_stored Unset v vs refl short)) ∙ sym (half_stored n v vs) ∙ g in
        (omega arith, subst (λ (us : List Value). AreLocals place us (high ∷ w ∷ ws)) (some_same (Unset ∷ v ∷ vs) ls whole) (tt, one_more place v vs w ws short is h))
    two n vs high low ws a b h rest (suc (suc k)) v w ls short is g =
        let r = onto_some (stored (Unset ∷ vs) (suc k) v) (λ zs. Some (Long n ∷ zs)) ls (sym (later_stored (Long n) v (Unset ∷ vs) k) ∙ g) in
        let q = onto_some (stored vs k v) (λ zs. Some (Unset ∷ zs)) r.0 (sym (on_stored Unset v vs k refl) ∙ r.1) in
        let whole : Long n ∷ Unset ∷ q.0 ≡ ls = ap (λ (us : List Value). Long n ∷ us) (some_same (Unset ∷ q.0) r.0 q.2) ∙ some_same (Long n ∷ r.0) ls r.2 in
        let s = rest k v w q.0 short is q.1 in
        (omega (arith, s.0), subst (λ (us : List Value). AreLocals place us (high ∷ low ∷ set ws k w)) whole (a, b, s.1))

abbrev TwoStored : (place : ℕ → ℕ) → List Value → List ℕ → Type 0
TwoStored place vs ws = (k : ℕ) (j : ℤ) (ls : List Value) → stored vs k (Long j) ≡ Some ls → (k + 1 < length ws) × AreLocals place ls (set (set ws (k + 1) (low_word j)) k (high_word j))

-- a long over the first two
first_pair : (place : ℕ → ℕ) (u : Value) (vs : List Value) (w : ℕ) (ws : List ℕ) (j : ℤ) (ls : List Value) → AreLocals place vs ws → stored (u ∷ vs) 0 (Long j) ≡ Some ls
    → (0 + 1 < length (w ∷ ws)) × AreLocals place ls (set (set (w ∷ ws) (0 + 1) (low_word j)) 0 (high_word j))
first_pair place u [] w ws j ls h g = absurd (none-some ls g)
first_pair place u (y ∷ vs) w [] j ls h g = absurd (no_words y vs h)
  where
    no_words : (y : Value) (vs : List Value) → AreLocals place (y ∷ vs) [] → ⊥
    no_words y vs h =
        let Q : List Value → List ℕ → Type 0 = λ us zs. length zs ≡ length us in
        let none : 0 ≡ suc (length vs) = by_locals place Q refl (λ v us x zs a b c q. ap suc q) (λ n us x z zs a b c q. ap (λ (k : ℕ). suc (suc k)) q) (y ∷ vs) [] h in
        omega (arith, none)
first_pair place u (y ∷ vs) w (z ∷ ws) j ls h g =
    (omega arith, subst (λ (us : List Value). AreLocals place us (high_word j ∷ low_word j ∷ ws)) (some_same (Long j ∷ Unset ∷ vs) ls g) (refl, refl, behind_first place y vs z ws h))

pub two_stored : (place : ℕ → ℕ) (vs : List Value) (ws : List ℕ) → AreLocals place vs ws → TwoStored place vs ws
two_stored place vs ws h = by_locals place (TwoStored place) none one two vs ws h
  where
    none : TwoStored place [] []
    none zero j ls g = absurd (none-some ls g)
    none (suc k) j ls g = absurd (none-some ls g)

    behind : (k w : ℕ) (ws : List ℕ) (j : ℤ) → w ∷ set (set ws (k + 1) (low_word j)) k (high_word j) ≡ set (set (w ∷ ws) (suc k + 1) (low_word j)) (suc k) (high_word j)
    behind k w ws j = ap (λ (i : ℕ). set (set (w ∷ ws) i (low_word j)) (suc k) (high_word j)) (let same : suc (k + 1) ≡ suc k + 1 = omega arith in same)

    one : (u : Value) (vs : List Value) (x : ℕ) (ws : List ℕ) → is_long u ≡ false → IsWordOf place u x → AreLocals place vs ws → TwoStored place vs ws → TwoStored place (u ∷ vs) (x ∷ ws)
    one u vs x ws a b h rest zero j ls g = first_pair place u vs x ws j ls h g
    one u vs x ws a b h rest (suc k) j ls g =
        let r = onto_some (stored vs k (Long j)) (λ zs. Some (u ∷ zs)) ls (sym (on_stored u (Long j) vs k a) ∙ g) in
        let s = rest k j r.0 r.1 in (
          omega (arith, s.0),
          subst (λ (us : List ℕ). AreLocals place ls us) (behind k x ws j)
              (subst (λ (us : List Value). AreLocals place us (x ∷ set (set ws (k + 1) (low_word j)) k (high_word j))) (some_same (u ∷ r.0) ls r.2) (one_more place u r.0 x _ a b s.1)),
        )

    two : (n : ℤ) (vs : List Value) (high low : ℕ) (ws : List ℕ) → high ≡ high_word n → low ≡ low_word n → AreLocals place vs ws → TwoStored place vs ws → TwoStored place (Long n ∷ Unset ∷ vs) (high ∷ low ∷ ws)
    two n vs high low ws a b h rest zero j ls g = first_pair place (Long n) (Unset ∷ vs) high (low ∷ ws) j ls (tt, h) g
    two n vs high low ws a b h rest (suc zero) j ls g =
        let r = onto_some (stored (Unset ∷ vs) 0 (Long j)) (λ zs. Some (Unset ∷ zs)) ls (sym (half_stored n (Long j) vs) ∙ g) in
        let s = first_pair place Unset vs low ws j r.0 h r.1 in (
          omega (arith, s.0),
          subst (λ (us : List ℕ). AreLocals place ls us) (behind 0 high (low ∷ ws) j)
              (subst (λ (us : List Value). AreLocals place us (high ∷ set (set (low ∷ ws) (0 + 1) (low_word j)) 0 (high_word j))) (some_same (Unset ∷ r.0) ls r.2) (tt, s.1)),
        )
    two n vs high low ws a b h rest (suc (suc k)) j ls g =
        let r = onto_some (stored (Unset ∷ vs) (suc k) (Long j)) (λ zs. Some (Long n ∷ zs)) ls (sym (later_stored (Long n) (Long j) (Unset ∷ vs) k) ∙ g) in
        let q = onto_some (stored vs k (Long j)) (λ zs. Some (Unset ∷ zs)) r.0 (sym (on_stored Unset (Long j) vs k refl) ∙ r.1) in
        let s = rest k j q.0 q.1 in
        let whole : Long n ∷ Unset ∷ q.0 ≡ ls = ap (λ (us : List Value). Long n ∷ us) (some_same (Unset ∷ q.0) r.0 q.2) ∙ some_same (Long n ∷ r.0) ls r.2 in (
          omega (arith, s.0),
          subst (λ (us : List ℕ). AreLocals place ls us) (ap (λ (us : List ℕ). high ∷ us) (behind k low ws j) ∙ behind (suc k) high (low ∷ ws) j)
              (subst (λ (us : List Value). AreLocals place us (high ∷ low ∷ set (set ws (k + 1) (low_word j)) k (high_word j))) whole (a, b, s.1)),
        )
