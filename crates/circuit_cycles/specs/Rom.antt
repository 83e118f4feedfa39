-- What the circuit relies on of the words of the ROM.
use Rattle.std.specs.Prelude.{ℕ, ◌+◌, ◌%◌, ◌^◌, Bool, true, false, ◌==◌, ◌&&◌, ◌||◌, not, if◌then◌else◌, List, [], ◌∷◌, IsTrue}
use Rattle.circuit_cycles.specs.Words.{has_opd, has_nxt, is, add, wait, stjpc, stmra, stbc, jbr, jbg, is_ldi, is_bz, is_bnz, is_jmp, takes_at_a}

-- `stmra`, `stbc`, `jbr` and `jbg` have no flag, `stjpc` no operand, and no word has both flags
abbrev pub has_fit_flags : ℕ → Bool
has_fit_flags word =
    if is stmra word || is stbc word || is jbr word || is jbg word then not (has_opd word || has_nxt word)
    else if is stjpc word then not (has_opd word)
    else not (has_opd word && has_nxt word)

-- behind a read stands a wait, and before a word that takes its byte at A an addition or a constant
abbrev pub may_follow : (before word : ℕ) → Bool
may_follow before word =
    if is stmra before then is wait word
    else if takes_at_a word then is add before && not (has_opd before || has_nxt before) || (is_ldi before && not (has_opd before || has_nxt before))
    else true

abbrev pub all_fit : (before : ℕ) → List ℕ → Bool
all_fit before [] = not (is stmra before)
all_fit before (word ∷ words) = has_fit_flags word && may_follow before word && all_fit word words

-- the addresses, from this one on, of the words that take their byte at A
abbrev pub at_a : (address : ℕ) → List ℕ → List ℕ
at_a address [] = []
at_a address (word ∷ words) = if takes_at_a word then address ∷ at_a (address + 1) words else at_a (address + 1) words

abbrev pub is_among : ℕ → List ℕ → Bool
is_among address [] = false
is_among address (other ∷ others) = address == other || is_among address others

-- a branch goes to none of these
abbrev pub goes_apart : (addresses : List ℕ) → ℕ → Bool
goes_apart addresses word = if is_bz word || is_bnz word || is_jmp word then not (is_among (word % 2 ^ 11) addresses) else true

abbrev pub all_apart : (addresses : List ℕ) → (words : List ℕ) → Bool
all_apart addresses [] = true
all_apart addresses (word ∷ words) = goes_apart addresses word && all_apart addresses words

abbrev pub none_among : (addresses : List ℕ) → (entries : List ℕ) → Bool
none_among addresses [] = true
none_among addresses (entry ∷ entries) = not (is_among entry addresses) && none_among addresses entries

-- the words of a ROM and the first addresses of its rows
pub record IsFit (words entries : List ℕ) : Type 0 where
  pub each : IsTrue (all_fit 0 words)
  -- no branch and no bytecode begins at a word that takes its byte at A
  pub targets : IsTrue (all_apart (at_a 0 words) words)
  pub rows : IsTrue (none_among (at_a 0 words) entries)
