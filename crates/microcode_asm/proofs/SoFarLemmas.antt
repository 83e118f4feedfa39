-- One line more of what was kept.
use Rattle.std.proofs.Common.{◌≡◌, ◌≢◌, ℕ, ◌+◌, ◌<◌, Bool, true, false, List, [], ◌∷◌, ◌++◌, length, get_or, set, length-set, append-nil, refl, sym, ◌∙◌, ap, ap₂, subst, arith, Option, Some, None, cond, inl, inr, eqb}
use Rattle.std.specs.Prelude.{is_some, slice_index_or}
use Rattle.std.specs.Option.{option_or}
use Rattle.std.proofs.lemmas.Bool.{cases_Bool, eqb-true, eq-eqb, true≢false}
use Rattle.std.proofs.lemmas.List.{get_or-set_same, get_or-set_other}
use Rattle.microcode.specs.declared.isa.Turns.{Turns}
use Rattle.microcode_asm.specs.Statements.{Statement, nothing, word, branch, entry, raise, constant, turns, Line}
use Rattle.microcode_asm.specs.declared.AsmKind.{AsmKind}
use Rattle.microcode_asm.specs.declared.AsmKind.TheVariants.{LabelTwice, EntryTwice, ConstTwice}
use Rattle.microcode_asm.specs.Programs.{LabelPlaces, address, word_count, turns_behind, turns_after, is_entry, is_raise, repeats, fault_of, statement_fault, branch_fault, enters, raises}
use Rattle.microcode_asm.specs.Roms.{words_of, named_from, value_or, turns_here, turns_from, turns_of_branch}
use Rattle.microcode_asm.specs.SoFar.{Kept, next, with_statement, with_names, with_line, statement_fault_by, line_fault_by, entry_fault_by, constant_fault_by, HasRange, IsAssembledSoFar}
use Rattle.microcode_asm.proofs.LabelLemmas.{or_none}
use Rattle.microcode_asm.proofs.LineLemmas.{named_more, named_some, constant_more, constant_some, after_more, turns_more, count_words, flat_more}

-- ---- the rule that the line breaks

here_is : (place : LabelPlaces) (lines : List Line) (k : Kept) → IsAssembledSoFar place lines k → next k ≡ address (word_count lines)
here_is place lines k r = ap address (ap length r.words ∙ count_words place lines)

fault_same : (place : LabelPlaces) (lines : List Line) (k : Kept) (s : Statement) → IsAssembledSoFar place lines k → HasRange s → statement_fault_by place s k ≡ statement_fault place lines s
fault_same place lines k nothing r h = refl
fault_same place lines k (word bits) r h = refl
fault_same place lines k (branch how label) r h = ap₂ (λ n t. branch_fault (place label) n t) (here_is place lines k r) r.counting
fault_same place lines k (entry op) r h = ap entry_fault_by (ap is_some (r.entries op h) ∙ named_some 0 (is_entry op) lines)
fault_same place lines k raise r h = ap entry_fault_by (ap is_some r.raise_entry ∙ named_some 0 is_raise lines)
fault_same place lines k (constant n v) r h = ap constant_fault_by (ap is_some (r.constants n h) ∙ constant_some n lines)
fault_same place lines k (turns t) r h = refl

-- where a label stands twice, what the line says does not count
twice_first : (b : Bool) (x y z : Option AsmKind) → (b ≡ false → y ≡ z) → cond b x y ≡ cond b x z
twice_first true x y z h = refl
twice_first false x y z h = h refl

pub line_fault_same : (place : LabelPlaces) (lines : List Line) (k : Kept) (line : Line) → IsAssembledSoFar place lines k → (repeats k.names line.labels ≡ false → HasRange line.statement)
    → line_fault_by place line k ≡ fault_of place lines (Some line)
line_fault_same place lines k line r h =
    twice_first (repeats k.names line.labels) (Some LabelTwice) (statement_fault_by place line.statement k) (statement_fault place lines line.statement) (λ e. fault_same place lines k line.statement r (h e))
    ∙ ap (λ (ns : List (List ℕ)). cond (repeats ns line.labels) (Some LabelTwice) (statement_fault place lines line.statement)) r.names

-- ---- what is kept of it, field by field

names_with : (place : LabelPlaces) (s : Statement) (k : Kept) → (with_statement place s k).names ≡ k.names
names_with place nothing k = refl
names_with place (word bits) k = refl
names_with place (branch how label) k = refl
names_with place (entry op) k = refl
names_with place raise k = refl
names_with place (constant n v) k = refl
names_with place (turns t) k = refl

words_with : (place : LabelPlaces) (s : Statement) (k : Kept) → (with_statement place s k).words ≡ k.words ++ words_of place s
words_with place nothing k = sym (append-nil k.words)
words_with place (word bits) k = refl
words_with place (branch how label) k = refl
words_with place (entry op) k = sym (append-nil k.words)
words_with place raise k = sym (append-nil k.words)
words_with place (constant n v) k = sym (append-nil k.words)
words_with place (turns t) k = sym (append-nil k.words)

turns_with : (place : LabelPlaces) (s : Statement) (k : Kept) (n : ℕ) → next k ≡ address n → (with_statement place s k).turns_are ≡ k.turns_are ++ turns_here place n k.counting s
turns_with place nothing k n e = sym (append-nil k.turns_are)
turns_with place (word bits) k n e = sym (append-nil k.turns_are)
turns_with place (branch how label) k n e = ap (λ from. k.turns_are ++ turns_of_branch (place label) from k.counting) e
turns_with place (entry op) k n e = sym (append-nil k.turns_are)
turns_with place raise k n e = sym (append-nil k.turns_are)
turns_with place (constant m v) k n e = sym (append-nil k.turns_are)
turns_with place (turns t) k n e = sym (append-nil k.turns_are)

counting_with : (place : LabelPlaces) (s : Statement) (k : Kept) → (with_statement place s k).counting ≡ turns_behind k.counting s
counting_with place nothing k = refl
counting_with place (word bits) k = refl
counting_with place (branch how label) k = refl
counting_with place (entry op) k = refl
counting_with place raise k = refl
counting_with place (constant n v) k = refl
counting_with place (turns t) k = refl

entry_count_with : (place : LabelPlaces) (s : Statement) (k : Kept) → length k.entries ≡ 256 → length (with_statement place s k).entries ≡ 256
entry_count_with place nothing k h = h
entry_count_with place (word bits) k h = h
entry_count_with place (branch how label) k h = h
entry_count_with place (entry op) k h = length-set k.entries op (Some (next k)) ∙ h
entry_count_with place raise k h = h
entry_count_with place (constant n v) k h = h
entry_count_with place (turns t) k h = h

constant_count_with : (place : LabelPlaces) (s : Statement) (k : Kept) → length k.constants ≡ 32 → length (with_statement place s k).constants ≡ 32
constant_count_with place nothing k h = h
constant_count_with place (word bits) k h = h
constant_count_with place (branch how label) k h = h
constant_count_with place (entry op) k h = h
constant_count_with place raise k h = h
constant_count_with place (constant n v) k h = length-set k.constants n (Some v) ∙ h
constant_count_with place (turns t) k h = h

-- ---- the places of opcodes and constants

absent_by : (kind : AsmKind) (o : Option ℕ) → cond (is_some o) (Some kind) None ≡ None → o ≡ None
absent_by kind None h = refl
absent_by kind (Some x) h = absurd (cc)

-- a list with one place filled that was empty
filled_once : (xs : List (Option ℕ)) (i j : ℕ) (v : ℕ) → i < length xs → get_or xs i None ≡ None
    → get_or (set xs i (Some v)) j None ≡ option_or (get_or xs j None) (cond (eqb i j) (Some v) None)
filled_once xs i j v lt none = elim (cases_Bool (eqb i j)) [
  | inl e ↦
      let same : i ≡ j = eqb-true i j e in
      subst (λ (m : ℕ). get_or (set xs i (Some v)) m None ≡ option_or (get_or xs m None) (cond (eqb i j) (Some v) None)) same
      (get_or-set_same xs i (Some v) None lt ∙ sym (ap₂ (λ (o : Option ℕ) (b : Bool). option_or o (cond b (Some v) None)) none e))
  | inr e ↦
      let apart : j ≢ i = λ q. true≢false (sym (eq-eqb i j (sym q)) ∙ e) in
      get_or-set_other xs i j (Some v) None apart
      ∙ sym (ap (λ (b : Bool). option_or (get_or xs j None) (cond b (Some v) None)) e ∙ or_none (get_or xs j None))
]

entries_with : (place : LabelPlaces) (s : Statement) (k : Kept) (n op : ℕ) → length k.entries ≡ 256 → HasRange s → statement_fault_by place s k ≡ None → next k ≡ address n
    → slice_index_or (with_statement place s k).entries op None ≡ option_or (slice_index_or k.entries op None) (cond (enters op s) (Some (address n)) None)
entries_with place nothing k n op len h f e = sym (or_none (slice_index_or k.entries op None))
entries_with place (word bits) k n op len h f e = sym (or_none (slice_index_or k.entries op None))
entries_with place (branch how label) k n op len h f e = sym (or_none (slice_index_or k.entries op None))
entries_with place (entry o) k n op len h f e =
    filled_once k.entries o op (next k) (omega (arith, len, h)) (absent_by EntryTwice (slice_index_or k.entries o None) f)
    ∙ ap (λ (to : ℕ). option_or (slice_index_or k.entries op None) (cond (eqb o op) (Some to) None)) e
entries_with place raise k n op len h f e = sym (or_none (slice_index_or k.entries op None))
entries_with place (constant m v) k n op len h f e = sym (or_none (slice_index_or k.entries op None))
entries_with place (turns t) k n op len h f e = sym (or_none (slice_index_or k.entries op None))

raise_with : (place : LabelPlaces) (s : Statement) (k : Kept) (n : ℕ) → statement_fault_by place s k ≡ None → next k ≡ address n
    → (with_statement place s k).raise_entry ≡ option_or k.raise_entry (cond (raises s) (Some (address n)) None)
raise_with place nothing k n f e = sym (or_none k.raise_entry)
raise_with place (word bits) k n f e = sym (or_none k.raise_entry)
raise_with place (branch how label) k n f e = sym (or_none k.raise_entry)
raise_with place (entry o) k n f e = sym (or_none k.raise_entry)
raise_with place raise k n f e = ap Some e ∙ sym (ap (λ (o : Option ℕ). option_or o (Some (address n))) (absent_by EntryTwice k.raise_entry f))
raise_with place (constant m v) k n f e = sym (or_none k.raise_entry)
raise_with place (turns t) k n f e = sym (or_none k.raise_entry)

constants_with : (place : LabelPlaces) (s : Statement) (k : Kept) (number : ℕ) → length k.constants ≡ 32 → HasRange s → statement_fault_by place s k ≡ None
    → slice_index_or (with_statement place s k).constants number None ≡ option_or (slice_index_or k.constants number None) (value_or number None s)
constants_with place nothing k number len h f = sym (or_none (slice_index_or k.constants number None))
constants_with place (word bits) k number len h f = sym (or_none (slice_index_or k.constants number None))
constants_with place (branch how label) k number len h f = sym (or_none (slice_index_or k.constants number None))
constants_with place (entry o) k number len h f = sym (or_none (slice_index_or k.constants number None))
constants_with place raise k number len h f = sym (or_none (slice_index_or k.constants number None))
constants_with place (constant m v) k number len h f =
    filled_once k.constants m number v (omega (arith, len, h)) (absent_by ConstTwice (slice_index_or k.constants m None) f)
constants_with place (turns t) k number len h f = sym (or_none (slice_index_or k.constants number None))

-- ---- the whole

no_fault : (b : Bool) (kind : AsmKind) (o : Option AsmKind) → cond b (Some kind) o ≡ None → o ≡ None
no_fault true kind o h = absurd (cc)
no_fault false kind o h = h

-- the names do not count
fault_named : (place : LabelPlaces) (s : Statement) (k : Kept) (names : List (List ℕ)) → statement_fault_by place s (with_names names k) ≡ statement_fault_by place s k
fault_named place nothing k names = refl
fault_named place (word bits) k names = refl
fault_named place (branch how label) k names = refl
fault_named place (entry op) k names = refl
fault_named place raise k names = refl
fault_named place (constant n v) k names = refl
fault_named place (turns t) k names = refl

named_first : (test : Line → Bool) (lines : List Line) (line : Line) → named_from 0 test (lines ++ line ∷ []) ≡ option_or (named_from 0 test lines) (cond (test line) (Some (address (word_count lines))) None)
named_first test lines line =
    let same : 0 + word_count lines ≡ word_count lines = omega arith in
    named_more 0 test lines line ∙ ap (λ k. option_or (named_from 0 test lines) (cond (test line) (Some (address k)) None)) same

turns_first : (place : LabelPlaces) (lines : List Line) (line : Line)
    → turns_from place 0 None (lines ++ line ∷ []) ≡ turns_from place 0 None lines ++ turns_here place (word_count lines) (turns_after None lines) line.statement
turns_first place lines line =
    let same : 0 + word_count lines ≡ word_count lines = omega arith in
    turns_more place 0 None lines line ∙ ap (λ k. turns_from place 0 None lines ++ turns_here place k (turns_after None lines) line.statement) same

pub one_more : (place : LabelPlaces) (lines : List Line) (k : Kept) (line : Line) → IsAssembledSoFar place lines k → HasRange line.statement → line_fault_by place line k ≡ None
    → IsAssembledSoFar place (lines ++ line ∷ []) (with_line place line k)
one_more place lines k line r h none =
    let s = line.statement in
    let more = with_names line.labels k in
    let f : statement_fault_by place s more ≡ None = fault_named place s k line.labels ∙ no_fault (repeats k.names line.labels) LabelTwice (statement_fault_by place s k) none in
    let n = word_count lines in
    let e : next more ≡ address n = here_is place lines k r in
    record {
      names = names_with place s more ∙ ap (λ (ns : List (List ℕ)). ns ++ line.labels) r.names ∙ sym (flat_more (λ (l : Line). l.labels) lines line);
      words = words_with place s more ∙ ap (λ (ws : List ℕ). ws ++ words_of place s) r.words ∙ sym (flat_more (λ (l : Line). words_of place l.statement) lines line);
      entry_count = entry_count_with place s more r.entry_count;
      entries = λ op lt.
          entries_with place s more n op r.entry_count h f e
          ∙ ap (λ (o : Option ℕ). option_or o (cond (enters op s) (Some (address n)) None)) (r.entries op lt)
          ∙ sym (named_first (is_entry op) lines line);
      raise_entry =
          raise_with place s more n f e
          ∙ ap (λ (o : Option ℕ). option_or o (cond (raises s) (Some (address n)) None)) r.raise_entry
          ∙ sym (named_first is_raise lines line);
      constant_count = constant_count_with place s more r.constant_count;
      constants = λ number lt.
          constants_with place s more number r.constant_count h f
          ∙ ap (λ (o : Option ℕ). option_or o (value_or number None s)) (r.constants number lt)
          ∙ sym (constant_more number lines line);
      turns_are =
          turns_with place s more n e
          ∙ ap₂ (λ (ts : List (ℕ × Turns)) (t : Option Turns). ts ++ turns_here place n t s) r.turns_are r.counting
          ∙ sym (turns_first place lines line);
      counting = counting_with place s more ∙ ap (λ (t : Option Turns). turns_behind t s) r.counting ∙ sym (after_more None lines line);
    }
