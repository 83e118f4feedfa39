-- The marks of the ROM: the addresses that are no opcode's entry, and those that lead to no raise.
use Rattle.std.proofs.Common.{◌≡◌, ℕ, suc, zero, ◌+◌, ◌-◌, ◌<◌, ◌&&◌, ◌==◌, Bool, true, false, nat_lt, if◌then◌else◌, List, [], ◌∷◌, length, get_or, set, ⊎_elim, refl, sym, ap, ◌∙◌, arith, ltb-true}
use Rattle.microcode.specs.Isa.Words.{micro_of}
use Rattle.microcode.specs.declared.TheConstants.{WORDS, ENTRIES, RAISE}
use Rattle.opcodes.specs.Row.{row_of}
use Rattle.micro_flow.specs.Walk.{begin}
use Rattle.micro_flow.specs.Closed.{EntriesInside, RaiseApart, ReachedByDispatch, RaisesWhereItMay}
use Rattle.micro_flow.proofs.Prices.{first, second}
use Rattle.micro_flow.proofs.Marks.{marked, next_ok, Shut, walk_stays, walk_lands}

abbrev pub all_marked : List ℕ → List Bool
all_marked [] = []
all_marked (word ∷ words) = true ∷ all_marked words

-- a test of each entry, with its opcode
abbrev pub each : (test : ℕ → ℕ → Bool) → (op : ℕ) → List ℕ → Bool
each test op [] = true
each test op (entry ∷ entries) = test op entry && each test (op + 1) entries

each_at : (test : ℕ → ℕ → Bool) (op : ℕ) (entries : List ℕ) → each test op entries ≡ true → (k : ℕ) → k < length entries → test (op + k) (get_or entries k 0) ≡ true
each_at test op [] holds k below = absurd (omega arith)
each_at test op (entry ∷ entries) holds zero below =
    let same : op + 0 ≡ op = omega arith in ap (λ o. test o entry) same ∙ first (test op entry) (each test (op + 1) entries) holds
each_at test op (entry ∷ entries) holds (suc k) below =
    let same : op + suc k ≡ op + 1 + k = omega arith in
    ap (λ o. test o (get_or entries k 0)) same ∙ each_at test (op + 1) entries (second (test op entry) (each test (op + 1) entries) holds) k (omega (arith, below))

-- a test that holds of each opcode and its entry
at_entry : (test : ℕ → ℕ → Bool) → each test 0 ENTRIES ≡ true → (op : ℕ) → op < 256 → test op (get_or ENTRIES op 0) ≡ true
at_entry test holds op below =
    let same : 0 + op ≡ op = omega arith in
    ap (λ o. test o (get_or ENTRIES op 0)) (sym same) ∙ each_at test 0 ENTRIES holds op below

-- the entries lie within the list
abbrev pub inside : ℕ → ℕ → Bool
inside op entry = nat_lt entry (length WORDS)

pub entries_inside : EntriesInside
entries_inside op below = ltb-true (get_or ENTRIES op 0) (length WORDS) (at_entry inside refl op below)

-- none is where the raise routine begins
abbrev pub apart : ℕ → ℕ → Bool
apart op entry = if entry == RAISE then false else true

pub raise_apart : RaiseApart
raise_apart op below same = let holds = ap (apart op) (sym same) ∙ at_entry apart refl op below in let clash : false ≡ true = holds in cc

-- the addresses of the list that are no opcode's entry
abbrev pub without : List ℕ → List Bool → List Bool
without [] marks = marks
without (entry ∷ entries) marks = without entries (set marks entry false)

abbrev pub no_entry : List Bool
no_entry = without ENTRIES (all_marked WORDS)

abbrev pub unmarked : ℕ → ℕ → Bool
unmarked op entry = if marked no_entry entry then false else true

pub words_avoid_entries : Shut (all_marked WORDS) no_entry
words_avoid_entries = record { few = omega arith; leads = refl; within = refl }

all_marked_at : (words : List ℕ) (i : ℕ) → i < length words → marked (all_marked words) i ≡ true
all_marked_at [] i below = absurd (omega arith)
all_marked_at (word ∷ words) zero below = refl
all_marked_at (word ∷ words) (suc i) below = all_marked_at words i (omega (arith, below))

not_both : (b : Bool) → (if b then false else true) ≡ true → b ≡ true → ⊥
not_both true out holds = cc
not_both false out holds = cc

pub reached_by_dispatch : ReachedByDispatch
reached_by_dispatch p at choice choices op within below going same =
    ⊎_elim
    (λ over. let clash : true ≡ false = sym over ∙ going in cc)
    (λ lands. not_both (marked no_entry (get_or ENTRIES op 0)) (at_entry unmarked refl op below) (ap (marked no_entry) (sym same) ∙ lands))
    (walk_lands p (all_marked WORDS) no_entry words_avoid_entries choice choices (begin p at) (all_marked_at WORDS at within))

-- The addresses that lead to no raise, from the last one down. What a branch back leads to is taken from the pass before.

abbrev pub one_quiet : (before : List Bool) → (at word : ℕ) → (rest : List Bool) → List Bool
one_quiet before at word rest =
    (if at == RAISE then false else next_ok (marked rest 0) (λ to. if nat_lt at to then marked rest (to - at - 1) else marked before to) (micro_of word)) ∷ rest

abbrev pub quiet_from : (before : List Bool) → (at : ℕ) → List ℕ → List Bool
quiet_from before at [] = []
quiet_from before at (word ∷ words) = one_quiet before at word (quiet_from before (at + 1) words)

-- so many passes; with too few of them the test below fails
abbrev pub quiet_after : (passes : ℕ) → List Bool
quiet_after zero = all_marked WORDS
quiet_after (suc passes) = quiet_from (quiet_after passes) 0 WORDS

abbrev pub quiet : List Bool
quiet = quiet_after 3

pub quiet_words_stay : Shut quiet quiet
quiet_words_stay = record { few = omega arith; leads = refl; within = refl }

abbrev pub may : ℕ → ℕ → Bool
may op entry = if marked quiet entry then true else (row_of op).raises

pub all_may : each may 0 ENTRIES ≡ true
unfolding row_of
all_may = refl

by_mark : (b : Bool) (raises : Bool) → (if b then true else raises) ≡ true → (b ≡ true → ⊥) → raises ≡ true
by_mark true raises holds never = absurd (never refl)
by_mark false raises holds never = holds

pub raises_where_it_may : RaisesWhereItMay
raises_where_it_may p op choices below comes =
    by_mark (marked quiet (get_or ENTRIES op 0)) (row_of op).raises (at_entry may all_may op below)
    (λ here.
    let stays = walk_stays p quiet quiet quiet_words_stay choices (begin p (get_or ENTRIES op 0)) here in
    let clash : false ≡ true = ap (marked quiet) (sym comes) ∙ stays in cc)
