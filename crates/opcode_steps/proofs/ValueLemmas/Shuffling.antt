-- Rows that move operands on the stack.
use Rattle.std.proofs.Common.{◌≡◌, ℕ, ◌+◌, ◌≤◌, Bool, true, false, if◌then◌else◌, List, [], ◌∷◌, ◌++◌, Option, Some, None, length, reverse, refl, sym, ◌∙◌, ap, subst, arith, append_assoc, length-append}
use Rattle.std.specs.Prelude.{sum_by}
use Rattle.std.proofs.lemmas.List.{length-reverse}
use Rattle.std.proofs.lemmas.List.Sums.{sum_by-cons}
use Rattle.std.proofs.lemmas.Option.{none-some}
use Rattle.lists.proofs.Lemmas.{onto_some, some_same}
use Rattle.opcodes.specs.declared.instruction.Instr.{Instr}
use Rattle.jop_core.specs.State as machine
use Rattle.micro_sketch.specs.Sketch.{Sketch}
use Rattle.micro_sketch.specs.Row.{words_of}
use Rattle.micro_sketch.specs.Opcodes as plain
use Rattle.micro_sketch.specs.Opcodes.{PlainOp, IsReady}
use Rattle.bytecode_model.specs.declared.Value.{Value}
use Rattle.bytecode_model.specs.Types.{is_long}
use Rattle.bytecode_model.specs.State.{State}
use Rattle.bytecode_model.specs.Program.{Program}
use Rattle.bytecode_model.specs.Sizes.{value_words}
use Rattle.bytecode_model.specs.Slots.{split, shuffled}
use Rattle.bytecode_model.specs.Rows as rows
use Rattle.bytecode_model.specs.Rows.{Width, Zero, One, Two, StackForm, Drop, Copy, Swap}
use Rattle.bytecode_model.specs.Effects.{Go, shuffle}
use Rattle.bytecode_model.specs.Lists.{onto}
use Rattle.image_facts.specs.Places.{Places, object_place}
use Rattle.machine_stands.specs.Frames.{AreOperands}
use Rattle.machine_stands.specs.StandsFor.{StandsFor, limits_of}
use Rattle.machine_stands.specs.Comes.{ComesTo}
use Rattle.opcode_steps.proofs.ValueLemmas.Defined.{on_defined}
use Rattle.opcode_steps.proofs.ValueLemmas.Scenes.{Laws, Scene, moved, comes}

-- ---- the words of an item

abbrev pub width_words : Width → ℕ
width_words Zero = 0
width_words One = 1
width_words Two = 2

-- what holds of any so many words
abbrev pub OfWidth : Width → (List ℕ → Type 0) → Type 0
OfWidth Zero Q = Q []
OfWidth One Q = (a : ℕ) → Q (a ∷ [])
OfWidth Two Q = (a b : ℕ) → Q (a ∷ b ∷ [])

at_width : (w : Width) (Q : List ℕ → Type 0) → OfWidth w Q → (words : List ℕ) → length words ≡ width_words w → Q words
at_width Zero Q h [] e = h
at_width Zero Q h (a ∷ rest) e = absurd (omega (arith, e))
at_width One Q h [] e = absurd (omega (arith, e))
at_width One Q h (a ∷ []) e = h a
at_width One Q h (a ∷ b ∷ rest) e = absurd (omega (arith, e))
at_width Two Q h [] e = absurd (omega (arith, e))
at_width Two Q h (a ∷ []) e = absurd (omega (arith, e))
at_width Two Q h (a ∷ b ∷ []) e = h a b
at_width Two Q h (a ∷ b ∷ c ∷ rest) e = absurd (omega (arith, e))

-- the topmost words, as values and those below
record IsSplit (w : Width) (ops upper rest : List Value) : Type 0 where
  whole : ops ≡ upper ++ rest
  words : sum_by value_words upper ≡ width_words w

abbrev Pair : Type 0
Pair = List Value × List Value

same_split : (w : Width) (ops upper rest us vs : List Value) → (let before : Pair = (us, vs) in let after : Pair = (upper, rest) in Some before ≡ Some after) → ops ≡ us ++ vs → sum_by value_words us ≡ width_words w → IsSplit w ops upper rest
same_split w ops upper rest us vs e whole words =
    let before : Pair = (us, vs) in
    let after : Pair = (upper, rest) in
    let pair : before ≡ after = some_same before after e in
    let Q : Pair → Type 0 = λ x. IsSplit w ops x.0 x.1 in
    subst Q pair (record { whole = whole; words = words })

one_value : (v : Value) (t : Bool) → is_long v ≡ t → sum_by value_words (v ∷ []) ≡ (if t then 2 else 1)
one_value v t e = sum_by-cons value_words v [] ∙ ap (λ (b : Bool). (if b then 2 else 1) + 0) e ∙ both t
  where
    both : (t : Bool) → (if t then 2 else 1) + 0 ≡ (if t then 2 else 1)
    both true = refl
    both false = refl

two_values : (v w : Value) → is_long v ≡ false → is_long w ≡ false → sum_by value_words (v ∷ w ∷ []) ≡ 2
two_values v w a b = sum_by-cons value_words v (w ∷ []) ∙ ap (λ (t : Bool). (if t then 2 else 1) + sum_by value_words (w ∷ [])) a ∙ ap (λ (k : ℕ). 1 + k) (one_value w false b)

is_split : (w : Width) (ops upper rest : List Value) → split is_long w ops ≡ Some (upper, rest) → IsSplit w ops upper rest
is_split Zero ops upper rest h = same_split Zero ops upper rest [] ops h refl refl
is_split One [] upper rest h = absurd (none-some (upper, rest) h)
is_split One (v ∷ ops) upper rest h = by (is_long v) refl h
  where
    by : (t : Bool) → is_long v ≡ t → (let o : Option Pair = if t then None else Some (v ∷ [], ops) in o) ≡ Some (upper, rest) → IsSplit One (v ∷ ops) upper rest
    by true e g = absurd (none-some (upper, rest) g)
    by false e g = same_split One (v ∷ ops) upper rest (v ∷ []) ops g refl (one_value v false e)
is_split Two [] upper rest h = absurd (none-some (upper, rest) h)
is_split Two (v ∷ []) upper rest h = by (is_long v) refl h
  where
    by : (t : Bool) → is_long v ≡ t → (let o : Option Pair = if t then Some (v ∷ [], []) else None in o) ≡ Some (upper, rest) → IsSplit Two (v ∷ []) upper rest
    by true e g = same_split Two (v ∷ []) upper rest (v ∷ []) [] g refl (one_value v true e)
    by false e g = absurd (none-some (upper, rest) g)
is_split Two (v ∷ w ∷ ops) upper rest h = by (is_long v) (is_long w) refl refl h
  where
    by : (t u : Bool) → is_long v ≡ t → is_long w ≡ u → (let o : Option Pair = if t then Some (v ∷ [], w ∷ ops) else if u then None else Some (v ∷ w ∷ [], ops) in o) ≡ Some (upper, rest)
        → IsSplit Two (v ∷ w ∷ ops) upper rest
    by true u e f g = same_split Two (v ∷ w ∷ ops) upper rest (v ∷ []) (w ∷ ops) g refl (one_value v true e)
    by false true e f g = absurd (none-some (upper, rest) g)
    by false false e f g = same_split Two (v ∷ w ∷ ops) upper rest (v ∷ w ∷ []) ops g refl (two_values v w e f)

-- ---- the words after a move

abbrev pub arranged : StackForm → (upper lower rest : List ℕ) → List ℕ
arranged Drop upper lower rest = rest
arranged Copy upper lower rest = upper ++ lower ++ upper ++ rest
arranged Swap upper lower rest = lower ++ upper ++ rest

-- the words that an opcode makes of those of the stack are moved so
abbrev pub Arranges : (form : StackForm) (upper lower : Width) → (List ℕ → List ℕ) → Type 0
Arranges form upper lower f = OfWidth upper (λ us. OfWidth lower (λ ls. (rest : List ℕ) → f (us ++ (ls ++ rest)) ≡ arranged form us ls rest))

above : (form : StackForm) (us ls rest saved : List ℕ) → arranged form us ls (rest ++ saved) ≡ arranged form us ls rest ++ saved
above Drop us ls rest saved = refl
above Copy us ls rest saved = sym (append_assoc (us ++ ls ++ us) rest saved)
above Swap us ls rest saved = sym (append_assoc (ls ++ us) rest saved)

are_arranged : Laws → (place : ℕ → ℕ) (form : StackForm) (upper lower rest : List Value) (us ls ws : List ℕ) → AreOperands place upper us → AreOperands place lower ls → AreOperands place rest ws
    → AreOperands place (shuffled form upper lower rest) (arranged form us ls ws)
are_arranged laws place Drop upper lower rest us ls ws a b c = c
are_arranged laws place Copy upper lower rest us ls ws a b c =
    laws.joined place (upper ++ lower ++ upper) rest (us ++ ls ++ us) ws (laws.joined place (upper ++ lower) upper (us ++ ls) us (laws.joined place upper lower us ls a b) a) c
are_arranged laws place Swap upper lower rest us ls ws a b c = laws.joined place (lower ++ upper) rest (ls ++ us) ws (laws.joined place lower upper ls us b a) c

pub shuffles : Laws → (P : Program) (pl : Places) (n size : ℕ) (m : machine.MachineState) (answer : Option ℕ) (s s' : State) (st : StandsFor P pl n size m s) (i : Instr) (op : PlainOp) (x : Sketch) (form : StackForm) (upper lower : Width)
    (f : List ℕ → List ℕ) → Scene P pl n size m answer s s' st i (rows.Shuffle form upper lower) op 0 x → (width_words upper + width_words lower + 3 ≤ length x.under → IsReady op x)
    → plain.effect op x ≡ moved (f (words_of x)) x.deep 0 x → Arranges form upper lower f → ComesTo P pl n size m s s'
shuffles laws P pl n size m answer s s' st i op x form upper lower f at ready makes arranges =
    let next = st.top.pc + i.length in
    let place = object_place P pl s.objects in
    let limits = limits_of P pl n size in
    let ops = st.top.operands in
    let saved = reverse st.words.saved in
    let d = on_defined P limits answer s st.top st.callers s' (shuffle form upper lower ops) (λ vs. Go next st.top.locals vs) at.instruction.step in
    let a = onto_some (split is_long upper ops) (λ (x : Pair). onto (split is_long lower x.1) (λ (y : Pair). Some (shuffled form x.0 y.0 y.1))) d.0 d.1 in
    let b = onto_some (split is_long lower a.0.1) (λ (y : Pair). Some (shuffled form a.0.0 y.0 y.1)) d.0 a.2 in
    let first = is_split upper ops a.0.0 a.0.1 a.1 in
    let second = is_split lower a.0.1 b.0.0 b.0.1 b.1 in
    let u = laws.parts place a.0.0 a.0.1 st.words.operands (subst (λ (vs : List Value). AreOperands place vs st.words.operands) first.whole st.are_frames.0.operands) in
    let l = laws.parts place b.0.0 b.0.1 u.lower_words (subst (λ (vs : List Value). AreOperands place vs u.lower_words) second.whole u.are_lower) in
    let us = u.upper_words in
    let ls = l.upper_words in
    let rest = l.lower_words in
    let many : length us ≡ width_words upper = laws.count place a.0.0 us u.are_upper ∙ first.words in
    let few : length ls ≡ width_words lower = laws.count place b.0.0 ls l.are_upper ∙ second.words in
    let whole : st.words.operands ≡ us ++ (ls ++ rest) = u.split ∙ ap (λ (ws : List ℕ). us ++ ws) l.split in
    let words : words_of x ≡ us ++ (ls ++ (rest ++ saved)) =
    at.shows.words ∙ ap (λ (ws : List ℕ). ws ++ saved) whole ∙ append_assoc us (ls ++ rest) saved ∙ ap (λ (ws : List ℕ). us ++ ws) (append_assoc ls rest saved) in
    let made : f (us ++ (ls ++ (rest ++ saved))) ≡ arranged form us ls (rest ++ saved) =
    at_width lower (λ ls. (rest : List ℕ) → f (us ++ (ls ++ rest)) ≡ arranged form us ls rest)
    (at_width upper (λ us. OfWidth lower (λ ls. (rest : List ℕ) → f (us ++ (ls ++ rest)) ≡ arranged form us ls rest)) arranges us many) ls few (rest ++ saved) in
    let count : length (words_of x) ≡ length us + (length ls + (length rest + 5)) =
    ap (λ (ws : List ℕ). length ws) words ∙ length-append us (ls ++ (rest ++ saved))
    ∙ ap (λ (k : ℕ). length us + k) (length-append ls (rest ++ saved) ∙ ap (λ (k : ℕ). length ls + k) (length-append rest saved ∙ ap (λ (k : ℕ). length rest + k) (length-reverse st.words.saved ∙ at.shows.saved))) in
    comes laws P pl n size m answer s s' st i (rows.Shuffle form upper lower) op 0 x st.top.locals d.0 (f (words_of x)) x.deep st.words.locals (arranged form us ls rest) at
    (ready (omega (arith, count, many, few))) makes d.2 st.are_frames.0.locals
    (subst (λ (vs : List Value). AreOperands place vs (arranged form us ls rest)) (some_same (shuffled form a.0.0 b.0.0 b.0.1) d.0 b.2) (are_arranged laws place form a.0.0 b.0.0 b.0.1 us ls rest u.are_upper l.are_upper l.are_lower))
    (ap f words ∙ made ∙ above form us ls rest saved) at.shows.deep
