-- Lines read one by one.
use Rattle.std.proofs.Common.{◌≡◌, ℕ, ◌+◌, ◌<◌, ◌≤◌, Bool, true, false, List, [], ◌∷◌, ◌++◌, length, get_or, map, replicate, append_assoc, append-nil, refl, sym, ◌∙◌, ap, ap₂, subst, arith, Option, Some, None, cond, inl, inr, ◌⊎◌}
use Rattle.std.specs.Prelude.{◌==◌, unwrap_or, Result, Ok, Err, IfOk, IfErr, IfNone}
use Rattle.std.specs.Option.{option_or, option_map}
use Rattle.std.specs.List.{slice_split, range_with_len}
use Rattle.std.specs.Map.{lookup}
use Rattle.std.proofs.lemmas.List.{length-append, map-append, length-map, get_or-map, get_or-replicate, length-replicate}
use Rattle.std.proofs.lemmas.List.FromFn.{fill_by_all}
use Rattle.std.proofs.lemmas.List.Splits.{length-slice_split}
use Rattle.std.proofs.lemmas.List.Sums.{count_by-le-length}
use Rattle.ascii_text.specs.Line.{lines_of, without_empty_last}
use Rattle.microcode_asm.specs.Parts.{is}
use Rattle.microcode_asm.specs.Statements.{Line, line_of}
use Rattle.microcode_asm.specs.declared.AsmKind.{AsmKind}
use Rattle.microcode_asm.specs.declared.AsmKind.TheVariants.{LabelTwice}
use Rattle.microcode_asm.specs.declared.AsmFault.{AsmFault}
use Rattle.microcode_asm.specs.declared.AsmFault.TheVariants.{Line as AtLine, TooLong, NoMemory}
use Rattle.microcode_asm.specs.declared.Rom.{Rom}
use Rattle.microcode_asm.specs.Programs.{LabelPlaces, places_of, read_lines, labels_at, labels_from, size_at, address, word_count, fault_of, KeepRules, is_entry, repeats}
use Rattle.microcode_asm.specs.Roms.{named_from, constant_in, IsProgram, IsAssembled, IsFirstRefused, IsRefused}
use Rattle.microcode_asm.specs.SoFar.{Kept, IsAssembledSoFar, IsRomOf, IsTooLongFor, HasRange, TextHasRange, with_text, text_fault_by, statement_fault_by}
use Rattle.microcode_asm.proofs.LabelLemmas.{lookup_append, labels_more, words_in, words_more, words_few}
use Rattle.microcode_asm.proofs.LineLemmas.{count_words, few_words}
use Rattle.microcode_asm.proofs.SoFarLemmas.{one_more, line_fault_same}

-- ---- the number of lines

shorter : (pieces : List (List ℕ)) → length (without_empty_last pieces) ≤ length pieces
shorter [] = omega arith
shorter ([] ∷ []) = omega arith
shorter ((x ∷ xs) ∷ []) = omega arith
shorter (piece ∷ next ∷ pieces) = omega (arith, shorter (next ∷ pieces))

pub few_lines : (text : List ℕ) → length (lines_of text) ≤ length text + 1
few_lines text = omega (arith, shorter (slice_split (λ byte. byte == 10) text), length-slice_split (λ byte. byte == 10) text, count_by-le-length (λ byte. byte == 10) text)

count_before : (text : List ℕ) (before left rest : List (List ℕ)) (line : List ℕ) → lines_of text ≡ before ++ left → left ≡ line ∷ rest → length before ≤ length text
count_before text before left rest line lines e = omega (arith, few_lines text, ap length lines, length-append before left, ap length e)

-- ---- labels

-- the labels of the lines that are read, the words that these make, and the lines that are left
pub record IsLabelledSoFar (text : List ℕ) (left : List (List ℕ)) (words : ℕ) (get : (q : List ℕ) → Option ℕ) : Type 0 where
  pub done : List (List ℕ)
  pub lines : lines_of text ≡ done ++ left
  pub count : words ≡ words_in (map line_of done)
  pub gives : (q : List ℕ) → get q ≡ lookup (is q) (labels_from 0 (map line_of done))

pub labelled_first : (text : List ℕ) (left : List (List ℕ)) (get : (q : List ℕ) → Option ℕ) → left ≡ lines_of text → ((q : List ℕ) → get q ≡ None) → IsLabelledSoFar text left 0 get
labelled_first text left get e none = record { done = []; lines = sym e; count = refl; gives = none }

pub labelled_more : (text : List ℕ) (left rest : List (List ℕ)) (line : List ℕ) (words size : ℕ) (get more : (q : List ℕ) → Option ℕ) → IsLabelledSoFar text left words get → left ≡ line ∷ rest
    → size ≡ size_at (line_of line) → ((q : List ℕ) → more q ≡ option_or (get q) (lookup (is q) (labels_at words (line_of line)))) → IsLabelledSoFar text rest (words + size) more
labelled_more text left rest line words size get more r e size_is h =
    let ls = map line_of r.done in
    let next : map line_of (r.done ++ line ∷ []) ≡ ls ++ line_of line ∷ [] = map-append line_of r.done (line ∷ []) in
    let same : words ≡ 0 + words_in ls = omega (arith, r.count) in
    record {
      done = r.done ++ line ∷ [];
      lines = r.lines ∙ ap (λ (l : List (List ℕ)). r.done ++ l) e ∙ sym (append_assoc r.done (line ∷ []) rest);
      count = ap₂ (λ a b. a + b) r.count size_is ∙ sym (ap words_in next ∙ words_more ls (line_of line));
      gives = λ q.
          h q
          ∙ ap₂ (λ (o : Option ℕ) n. option_or o (lookup (is q) (labels_at n (line_of line)))) (r.gives q) same
          ∙ sym (lookup_append (is q) (labels_from 0 ls) (labels_at (0 + words_in ls) (line_of line)))
          ∙ sym (ap (lookup (is q)) (ap (labels_from 0) next ∙ labels_more 0 ls (line_of line)));
    }

pub words_fit : (text : List ℕ) (left rest : List (List ℕ)) (line : List ℕ) (words : ℕ) (get : (q : List ℕ) → Option ℕ) → IsLabelledSoFar text left words get → left ≡ line ∷ rest → words ≤ length text
words_fit text left rest line words get r e =
    omega (arith, r.count, words_few (map line_of r.done), length-map r.done line_of, count_before text r.done left rest line r.lines e)

pub labelled_last : (text : List ℕ) (left : List (List ℕ)) (words : ℕ) (get : (q : List ℕ) → Option ℕ) → IsLabelledSoFar text left words get → left ≡ []
    → (q : List ℕ) → get q ≡ lookup (is q) (labels_from 0 (read_lines text))
labelled_last text left words get r e q =
    r.gives q ∙ sym (ap (λ (ls : List (List ℕ)). lookup (is q) (labels_from 0 (map line_of ls))) (r.lines ∙ ap (λ (l : List (List ℕ)). r.done ++ l) e ∙ append-nil r.done))

-- ---- the rules

split_last : (done : List Line) (x : Line) (before : List Line) (y : Line) (after : List Line) → done ++ x ∷ [] ≡ before ++ y ∷ after
    → ((before ≡ done) × (y ≡ x)) ⊎ ((rest : List Line) × (done ≡ before ++ y ∷ rest))
split_last [] x [] y after e =
    let same : y ≡ x = cc in
    inl (refl, same)
split_last [] x (b ∷ before) y after e = absurd (omega (arith, ap length e, length-append before (y ∷ after)))
split_last (d ∷ done) x [] y after e =
    let same : d ≡ y = cc in
    inr (done, ap (λ (l : Line). l ∷ done) same)
split_last (d ∷ done) x (b ∷ before) y after e =
    let heads : d ≡ b = cc in
    let tails : done ++ x ∷ [] ≡ before ++ y ∷ after = cc in
    elim (split_last done x before y after tails) [
      | inl p ↦ inl (ap₂ (λ (l : Line) ls. l ∷ ls) (sym heads) p.0, p.1)
      | inr p ↦ inr (p.0, ap₂ (λ (l : Line) ls. l ∷ ls) heads p.1)
    ]

pub rules_more : (place : LabelPlaces) (done : List Line) (x : Line) → KeepRules place done → fault_of place done (Some x) ≡ None → KeepRules place (done ++ x ∷ [])
rules_more place done x rules none before y after e = elim (split_last done x before y after e) [
  | inl p ↦ ap₂ (λ (ls : List Line) (l : Line). fault_of place ls (Some l)) p.0 p.1 ∙ none
  | inr p ↦ rules before y p.0 p.1
]

pub no_rules : (place : LabelPlaces) → KeepRules place []
no_rules place before y after e = absurd (omega (arith, ap length e, length-append before (y ∷ after)))

-- ---- the lines

-- the lines that are read, so many, what was kept of them, and those that are left
pub record IsReadSoFar (text : List ℕ) (number : ℕ) (left : List (List ℕ)) (place : LabelPlaces) (k : Kept) : Type 0 where
  pub before : List (List ℕ)
  pub done : List Line
  pub lines : lines_of text ≡ before ++ left
  pub read : map line_of before ≡ map Some done
  pub count : number ≡ length done
  pub rules : KeepRules place done
  pub so_far : IsAssembledSoFar place done k

-- nothing is kept of no lines
pub record IsOfNoLines (k : Kept) : Type 0 where
  pub names : k.names ≡ []
  pub words : k.words ≡ []
  pub entries : k.entries ≡ replicate 256 None
  pub raise_entry : k.raise_entry ≡ None
  pub constants : k.constants ≡ replicate 32 None
  pub turns_are : k.turns_are ≡ []
  pub counting : k.counting ≡ None

pub read_first : (text : List ℕ) (left : List (List ℕ)) (place : LabelPlaces) (k : Kept) → left ≡ lines_of text → IsOfNoLines k → IsReadSoFar text 0 left place k
read_first text left place k e n = record {
  before = [];
  done = [];
  lines = sym e;
  read = refl;
  count = refl;
  rules = no_rules place;
  so_far = record {
    names = n.names;
    words = n.words;
    entry_count = ap length n.entries ∙ length-replicate {A = Option ℕ} 256 None;
    entries = λ op lt. ap (λ (l : List (Option ℕ)). get_or l op None) n.entries ∙ get_or-replicate 256 op None None lt;
    raise_entry = n.raise_entry;
    constant_count = ap length n.constants ∙ length-replicate {A = Option ℕ} 32 None;
    constants = λ number lt. ap (λ (l : List (Option ℕ)). get_or l number None) n.constants ∙ get_or-replicate 32 number None None lt;
    turns_are = n.turns_are;
    counting = n.counting;
  };
}

count_done : (before : List (List ℕ)) (done : List Line) → map line_of before ≡ map Some done → length before ≡ length done
count_done before done e = sym (length-map before line_of) ∙ ap length e ∙ length-map done Some

pub number_fits : (text : List ℕ) (number : ℕ) (left rest : List (List ℕ)) (line : List ℕ) (place : LabelPlaces) (k : Kept) → IsReadSoFar text number left place k → left ≡ line ∷ rest → number ≤ length text
number_fits text number left rest line place k r e = omega (arith, r.count, count_done r.before r.done r.read, count_before text r.before left rest line r.lines e)

line_range : (b : Bool) (kind : AsmKind) (o : Option AsmKind) (P : Type 0) → cond b (Some kind) o ≡ None → (b ≡ false → P) → P
line_range true kind o P none h = absurd (cc)
line_range false kind o P none h = h refl

pub read_more : (text : List ℕ) (number : ℕ) (left rest : List (List ℕ)) (bytes : List ℕ) (said : Option Line) (place : LabelPlaces) (k more : Kept) → IsReadSoFar text number left place k → left ≡ bytes ∷ rest
    → said ≡ line_of bytes → TextHasRange said k → None ≡ text_fault_by place said k → more ≡ with_text place said k → IsReadSoFar text (number + 1) rest place more
read_more text number left rest bytes None place k more r e is range none next = absurd (cc)
read_more text number left rest bytes (Some line) place k more r e is range none next =
    let in_range : HasRange line.statement = line_range (repeats k.names line.labels) LabelTwice (statement_fault_by place line.statement k) (HasRange line.statement) (sym none) range in
    record {
      before = r.before ++ bytes ∷ [];
      done = r.done ++ line ∷ [];
      lines = r.lines ∙ ap (λ (l : List (List ℕ)). r.before ++ l) e ∙ sym (append_assoc r.before (bytes ∷ []) rest);
      read =
          map-append line_of r.before (bytes ∷ [])
          ∙ ap₂ (λ (ls : List (Option Line)) (o : Option Line). ls ++ o ∷ []) r.read (sym is)
          ∙ sym (map-append Some r.done (line ∷ []));
      count = omega (arith, r.count, length-append r.done (line ∷ []));
      rules = rules_more place r.done line r.rules (sym (line_fault_same place r.done k line r.so_far range) ∙ sym none);
      so_far = subst (IsAssembledSoFar place (r.done ++ line ∷ [])) (sym next) (one_more place r.done k line r.so_far in_range (sym none));
    }

-- ---- what is refused

refused : (text : List ℕ) (number : ℕ) (left rest : List (List ℕ)) (bytes : List ℕ) (kind : AsmKind) (place : LabelPlaces) (k : Kept) → place ≡ places_of text → (r : IsReadSoFar text number left place k)
    → left ≡ bytes ∷ rest → fault_of place r.done (line_of bytes) ≡ Some kind → IsFirstRefused text (number + 1) kind
refused text number left rest bytes kind place k p r e broken = record {
  before = r.done;
  line = line_of bytes;
  after = map line_of rest;
  lines =
      ap (map line_of) (r.lines ∙ ap (λ (l : List (List ℕ)). r.before ++ l) e)
      ∙ map-append line_of r.before (bytes ∷ rest)
      ∙ ap (λ (ls : List (Option Line)). ls ++ line_of bytes ∷ map line_of rest) r.read;
  number_is = omega (arith, r.count);
  kept = subst (λ (q : LabelPlaces). KeepRules q r.done) p r.rules;
  broken = subst (λ (q : LabelPlaces). fault_of q r.done (line_of bytes) ≡ Some kind) p broken;
}

pub refused_text : (text : List ℕ) (number : ℕ) (left rest : List (List ℕ)) (bytes : List ℕ) (said : Option Line) (kind : AsmKind) (place : LabelPlaces) (k : Kept) → place ≡ places_of text
    → IsReadSoFar text number left place k → left ≡ bytes ∷ rest → said ≡ line_of bytes → TextHasRange said k → Some kind ≡ text_fault_by place said k → IsFirstRefused text (number + 1) kind
refused_text text number left rest bytes None kind place k p r e is range broken =
    refused text number left rest bytes kind place k p r e (sym (ap (fault_of place r.done) is) ∙ sym broken)
refused_text text number left rest bytes (Some line) kind place k p r e is range broken =
    refused text number left rest bytes kind place k p r e
    (sym (ap (fault_of place r.done) is) ∙ sym (line_fault_same place r.done k line r.so_far range) ∙ sym broken)

-- ---- the end

program : (text : List ℕ) (number : ℕ) (left : List (List ℕ)) (place : LabelPlaces) (k : Kept) → place ≡ places_of text → (r : IsReadSoFar text number left place k) → left ≡ [] → IsProgram text r.done
program text number left place k p r e = record {
  read = ap (map line_of) (r.lines ∙ ap (λ (l : List (List ℕ)). r.before ++ l) e ∙ append-nil r.before) ∙ r.read;
  kept = subst (λ (q : LabelPlaces). KeepRules q r.done) p r.rules;
}

pub words_last : (text : List ℕ) (number : ℕ) (left : List (List ℕ)) (place : LabelPlaces) (k : Kept) → IsReadSoFar text number left place k → length k.words ≤ length text + 1
words_last text number left place k r =
    omega (arith, ap length r.so_far.words, count_words place r.done, few_words r.done, count_done r.before r.done r.read, few_lines text, ap length r.lines, length-append r.before left)

-- of each place in its order, what is there or 0
filled : (xs : List (Option ℕ)) (f : ℕ → Option ℕ) (n : ℕ) → length xs ≡ n → ((i : ℕ) → i < n → get_or xs i None ≡ f i)
    → map (λ (o : Option ℕ). unwrap_or o 0) xs ≡ map (λ i. unwrap_or (f i) 0) (range_with_len 0 n)
filled xs f n len at =
    fill_by_all (λ i. unwrap_or (f i) 0) (map (λ (o : Option ℕ). unwrap_or o 0) xs) n 0 (length-map xs (λ (o : Option ℕ). unwrap_or o 0) ∙ len)
    (λ i lt. get_or-map (λ (o : Option ℕ). unwrap_or o 0) xs i None 0 (omega (arith, len, lt)) ∙ ap (λ (o : Option ℕ). unwrap_or o 0) (at i lt))

pub assembled : (text : List ℕ) (number : ℕ) (left : List (List ℕ)) (place : LabelPlaces) (k : Kept) (rom : Rom) → place ≡ places_of text → IsReadSoFar text number left place k → left ≡ [] → IsRomOf k rom → IsAssembled text rom
assembled text number left place k rom p r e m =
    let s = subst (λ (q : LabelPlaces). IsAssembledSoFar q r.done k) p r.so_far in
    record {
      lines = r.done;
      program = program text number left place k p r e;
      fits = omega (arith, m.fits, ap length s.words, count_words (places_of text) r.done);
      words = m.words ∙ s.words;
      entries = m.entries ∙ filled k.entries (λ op. named_from 0 (is_entry op) r.done) 256 s.entry_count s.entries;
      raise_entry = m.raise_entry ∙ ap (λ (o : Option ℕ). unwrap_or o 0) s.raise_entry;
      constants = m.constants ∙ filled k.constants (λ number. constant_in number r.done) 32 s.constant_count s.constants;
      turns_are = m.turns_are ∙ s.turns_are;
    }

pub too_long : (text : List ℕ) (number : ℕ) (left : List (List ℕ)) (place : LabelPlaces) (k : Kept) (fault : AsmFault) → place ≡ places_of text → IsReadSoFar text number left place k → left ≡ []
    → IsTooLongFor k fault → IsRefused text fault
too_long text number left place k (AtLine n kind) p r e h = absurd h
too_long text number left place k (TooLong words) p r e h =
    let count : words ≡ word_count r.done = h.0 ∙ ap length r.so_far.words ∙ count_words place r.done in
    record { lines = r.done; program = program text number left place k p r e; count = count; many = h.1 }
too_long text number left place k NoMemory p r e h = tt

pub finish_ok : (text : List ℕ) (number : ℕ) (left : List (List ℕ)) (place : LabelPlaces) (k : Kept) (result : Result Rom AsmFault) → place ≡ places_of text → IsReadSoFar text number left place k → left ≡ []
    → IfOk result (IsRomOf k) → IfOk result (IsAssembled text)
finish_ok text number left place k (Ok rom) p r e h = assembled text number left place k rom p r e h
finish_ok text number left place k (Err fault) p r e h = tt

pub finish_err : (text : List ℕ) (number : ℕ) (left : List (List ℕ)) (place : LabelPlaces) (k : Kept) (result : Result Rom AsmFault) → place ≡ places_of text → IsReadSoFar text number left place k → left ≡ []
    → IfErr result (IsTooLongFor k) → IfErr result (IsRefused text)
finish_err text number left place k (Ok rom) p r e h = tt
finish_err text number left place k (Err fault) p r e h = too_long text number left place k fault p r e h

pub places_are : (text : List ℕ) (get : (q : List ℕ) → Option ℕ) → ((q : List ℕ) → get q ≡ lookup (is q) (labels_from 0 (read_lines text))) → ◌≡◌ {A = LabelPlaces} (λ q. option_map address (get q)) (places_of text)
places_are text get h = λ i q. option_map address (h q i)

pub at_none : {X : Type 0} (o : Option X) (P : Type 0) → o ≡ None → IfNone o P → P
at_none None P e h = h
at_none (Some x) P e h = absurd (cc)
