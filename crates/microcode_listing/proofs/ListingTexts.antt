-- The lines of the text of the microcode, computed.
use Rattle.std.proofs.Common.{◌≡◌, ℕ, suc, ◌+◌, ◌^◌, ◌<◌, ◌≤◌, Bool, true, false, List, [], ◌∷◌, ◌++◌, length, decimal, append_assoc, append-nil, refl, sym, ap, ap₂, ◌∙◌, arith, Option, Some, None}
use Rattle.std.specs.Prelude.{◌==◌, nat_lt, if◌then◌else◌, codes}
use Rattle.std.specs.List.{AllByRecursion, list_all, find}
use Rattle.std.specs.Option.{option_map}
use Rattle.std.proofs.lemmas.Bool.{and_parts, ltb-true}
use Rattle.ascii_text.specs.Line.{with_line_feeds}
use Rattle.opcodes.specs.Row.{row_of}
use Rattle.microcode.specs.declared.isa.Body.{Body}
use Rattle.microcode.specs.declared.isa.Body.TheVariants.{Plain, Stm, Ldm, Ldi, Bz, Bnz, Jmp}
use Rattle.microcode.specs.declared.isa.Micro.{Micro}
use Rattle.microcode.specs.declared.isa.Turns.{Turns}
use Rattle.microcode.specs.declared.isa.Turns.TheVariants.{Count, PerPair, PerEntry}
use Rattle.microcode.specs.Isa.Words.{micro_of}
use Rattle.microcode.specs.Tables.{turns_in}
use Rattle.microcode.specs.declared.TheConstants.{CONSTANTS, ENTRIES, RAISE, TURNS, WORDS}
use Rattle.microcode_listing.specs.Names.{operation_text, row_text}
use Rattle.microcode_listing.specs.Listing.{numbered, with_number, constant_text, entry_text, raise_text, opcodes_text, head_text, turns_text, target_text, body_text, flag_text, micro_text, word_text, listing_text}
use Rattle.microcode_listing.proofs.Digits.{digits, digits_are}

abbrev pub Texts : Type 0
Texts = List (List ℕ)

-- ---- the lines

abbrev pub numbered_lines : (lines : ℕ → ℕ → Texts) → (first : ℕ) → List ℕ → Texts
numbered_lines lines n [] = []
numbered_lines lines n (x ∷ xs) = lines n x ++ numbered_lines lines (suc n) xs

abbrev pub constant_lines : ℕ → ℕ → Texts
constant_lines k v = if v == 0 then [] else (codes ".const " ++ (digits k ++ (codes " " ++ digits v))) ∷ []

abbrev pub entry_lines : ℕ → ℕ → ℕ → Texts
entry_lines address op entry = elim (entry == address) as (λ b. Texts) [ true ↦ (codes ".entry " ++ (digits op ++ (codes " ; " ++ (row_of op).mnemonic))) ∷ [] | false ↦ [] ]

abbrev pub raise_lines : ℕ → Texts
raise_lines address = if address == RAISE then codes ".raise" ∷ [] else []

abbrev pub head_lines : ℕ → Option (List ℕ) → Texts
head_lines address None = []
head_lines address (Some name) = (name ++ (codes ": ; address " ++ digits address)) ∷ (raise_lines address ++ numbered_lines (entry_lines address) 0 ENTRIES)

abbrev pub turns_lines : Option Turns → Texts
turns_lines None = []
turns_lines (Some (Count count)) = (codes ".turns " ++ digits count) ∷ []
turns_lines (Some PerPair) = codes ".turns pairs" ∷ []
turns_lines (Some PerEntry) = codes ".turns entries" ∷ []

abbrev pub body_line : Body → List ℕ
body_line (Plain code) = operation_text code
body_line (Stm place) = codes "stm " ++ digits place
body_line (Ldm place) = codes "ldm " ++ digits place
body_line (Ldi number) = codes "ldi " ++ digits number
body_line (Bz to) = codes "bz " ++ target_text to
body_line (Bnz to) = codes "bnz " ++ target_text to
body_line (Jmp to) = codes "jmp " ++ target_text to

abbrev pub micro_lines : Option Micro → Texts
micro_lines None = []
micro_lines (Some m) = (codes "  " ++ (body_line m.body ++ (flag_text m.opd (codes " opd") ++ flag_text m.nxt (codes " nxt")))) ∷ []

abbrev pub word_lines : ℕ → ℕ → Texts
word_lines address word = head_lines address (row_text address) ++ (turns_lines (turns_in address TURNS) ++ micro_lines (micro_of word))

unfoldable pub all_lines : Texts
all_lines = numbered_lines constant_lines 0 CONSTANTS ++ numbered_lines word_lines 0 WORDS

-- ---- they are the text

feeds_append : (xs ys : Texts) → with_line_feeds (xs ++ ys) ≡ with_line_feeds xs ++ with_line_feeds ys
feeds_append [] ys = refl
feeds_append (x ∷ xs) ys = ap (λ l. x ++ (10 ∷ l)) (feeds_append xs ys) ∙ sym (append_assoc x (10 ∷ with_line_feeds xs) (with_line_feeds ys))

-- so many items, each of which has its text
numbered_same : (text : ℕ → ℕ → List ℕ) (lines : ℕ → ℕ → Texts) (most : ℕ) (P : ℕ → Type 0) → ((n x : ℕ) → n < most → P x → with_line_feeds (lines n x) ≡ text n x)
    → (n : ℕ) (xs : List ℕ) → n + length xs ≤ most → AllByRecursion P xs → with_line_feeds (numbered_lines lines n xs) ≡ numbered text n xs
unfolding numbered
numbered_same text lines most P same n [] few all = refl
numbered_same text lines most P same n (x ∷ xs) few all =
    feeds_append (lines n x) (numbered_lines lines (suc n) xs)
    ∙ ap₂ (λ (a b : List ℕ). a ++ b) (same n x (omega (arith, few)) all.0) (numbered_same text lines most P same (suc n) xs (omega (arith, few)) all.1)

abbrev feed : List ℕ
feed = 10 ∷ []

behind : (a b c : List ℕ) → (a ++ b) ++ c ≡ a ++ (b ++ c)
behind a b c = append_assoc a b c

-- a number within a line
number_then : (n : ℕ) (more : List ℕ) → n < 2 ^ 32 → digits n ++ more ≡ decimal n ++ more
number_then n more h = ap (λ l. l ++ more) (digits_are n h)

constant_case : (k v : ℕ) → k < 2 ^ 32 → v < 2 ^ 32 → (b : Bool) → with_line_feeds (if b then [] else (codes ".const " ++ (digits k ++ (codes " " ++ digits v))) ∷ []) ≡ (if b then [] else with_number (codes ".const ") k (with_number (codes " ") v (codes "\n")))
constant_case k v few small true = refl
constant_case k v few small false =
    ap (λ l. codes ".const " ++ l) (append_assoc (digits k) (codes " " ++ digits v) feed ∙ (number_then k (codes " " ++ (digits v ++ feed)) few ∙ ap (λ l. decimal k ++ (codes " " ++ l)) (number_then v feed small)))

constant_same : (k v : ℕ) → k < 2048 → v < 2 ^ 32 → with_line_feeds (constant_lines k v) ≡ constant_text k v
unfolding constant_text
constant_same k v few small = constant_case k v (omega (arith, few)) small (v == 0)

entry_case : (op : ℕ) (name : List ℕ) → op < 2 ^ 32 → (b : Bool) → with_line_feeds (elim b as (λ b. Texts) [ true ↦ (codes ".entry " ++ (digits op ++ (codes " ; " ++ name))) ∷ [] | false ↦ [] ]) ≡ (if b then with_number (codes ".entry ") op (codes " ; " ++ (name ++ codes "\n")) else [])
entry_case op name few true = ap (λ l. codes ".entry " ++ l) (append_assoc (digits op) (codes " ; " ++ name) feed ∙ number_then op (codes " ; " ++ (name ++ feed)) few)
entry_case op name few false = refl

entry_same : (address op entry : ℕ) → op < 2048 → Unit {0} → with_line_feeds (entry_lines address op entry) ≡ entry_text address op entry
unfolding entry_text
entry_same address op entry few any = entry_case op (row_of op).mnemonic (omega (arith, few)) (entry == address)

raise_case : (b : Bool) → with_line_feeds (if b then codes ".raise" ∷ [] else []) ≡ (if b then codes ".raise\n" else [])
raise_case true = refl
raise_case false = refl

any_all : (xs : List ℕ) → AllByRecursion (λ x. Unit {0}) xs
any_all [] = tt
any_all (x ∷ xs) = (tt, any_all xs)

opcodes_same : (address : ℕ) → with_line_feeds (raise_lines address ++ numbered_lines (entry_lines address) 0 ENTRIES) ≡ opcodes_text address
unfolding opcodes_text raise_text
opcodes_same address =
    feeds_append (raise_lines address) (numbered_lines (entry_lines address) 0 ENTRIES)
    ∙ ap₂ (λ (a b : List ℕ). a ++ b) (raise_case (address == RAISE)) (numbered_same (entry_text address) (entry_lines address) 2048 (λ x. Unit {0}) (entry_same address) 0 ENTRIES (omega arith) (any_all ENTRIES))

head_same : (address : ℕ) (name : Option (List ℕ)) → address < 2048 → with_line_feeds (head_lines address name) ≡ head_text address name
unfolding head_text
head_same address None few = refl
head_same address (Some name) few =
    append_assoc name (codes ": ; address " ++ digits address) (10 ∷ with_line_feeds (raise_lines address ++ numbered_lines (entry_lines address) 0 ENTRIES))
    ∙ ap (λ l. name ++ (codes ": ; address " ++ l))
    (number_then address (10 ∷ with_line_feeds (raise_lines address ++ numbered_lines (entry_lines address) 0 ENTRIES)) (omega (arith, few))
    ∙ (ap (λ l. decimal address ++ (10 ∷ l)) (opcodes_same address) ∙ sym (append_assoc (decimal address) feed (opcodes_text address))))

-- the turns of a branch are few
abbrev FewTurns : Option Turns → Type 0
FewTurns (Some (Count count)) = count < 2 ^ 32
FewTurns other = Unit {0}

turns_same : (t : Option Turns) → FewTurns t → with_line_feeds (turns_lines t) ≡ turns_text t
unfolding turns_text
turns_same None few = refl
turns_same (Some (Count count)) few = ap (λ l. codes ".turns " ++ l) (number_then count feed few)
turns_same (Some PerPair) few = refl
turns_same (Some PerEntry) few = refl

abbrev FewBody : Body → Type 0
FewBody (Stm place) = place < 2 ^ 32
FewBody (Ldm place) = place < 2 ^ 32
FewBody (Ldi number) = number < 2 ^ 32
FewBody other = Unit {0}

body_same : (b : Body) → FewBody b → body_line b ≡ body_text b
unfolding body_text
body_same (Plain code) few = refl
body_same (Stm place) few = ap (λ l. codes "stm " ++ l) (digits_are place few ∙ sym (append-nil (decimal place)))
body_same (Ldm place) few = ap (λ l. codes "ldm " ++ l) (digits_are place few ∙ sym (append-nil (decimal place)))
body_same (Ldi number) few = ap (λ l. codes "ldi " ++ l) (digits_are number few ∙ sym (append-nil (decimal number)))
body_same (Bz to) few = refl
body_same (Bnz to) few = refl
body_same (Jmp to) few = refl

abbrev FewMicro : Option Micro → Type 0
FewMicro None = Unit {0}
FewMicro (Some m) = FewBody m.body

micro_same : (m : Option Micro) → FewMicro m → with_line_feeds (micro_lines m) ≡ micro_text m
unfolding micro_text
micro_same None few = refl
micro_same (Some m) few =
    let opd = flag_text m.opd (codes " opd") in
    let nxt = flag_text m.nxt (codes " nxt") in
    ap (λ l. codes "  " ++ l)
    (append_assoc (body_line m.body) (opd ++ nxt) feed
    ∙ ap₂ (λ (a b : List ℕ). a ++ b) (body_same m.body few) (append_assoc opd nxt feed))

-- ---- all words, all constants

all_from : {X : Type 0} (P : X → Type 0) (test : X → Bool) → ((x : X) → test x ≡ true → P x) → (xs : List X) → list_all test xs ≡ true → AllByRecursion P xs
all_from P test h [] e = tt
all_from P test h (x ∷ xs) e = let p = and_parts (test x) (list_all test xs) e in (h x p.0, all_from P test h xs p.1)

few_turns : Option Turns → Bool
few_turns None = true
few_turns (Some (Count count)) = nat_lt count (2 ^ 32)
few_turns (Some PerPair) = true
few_turns (Some PerEntry) = true

turns_case : (address : ℕ) (t : ℕ × Turns) (ts : List (ℕ × Turns)) (b : Bool) → FewTurns (Some t.1) → FewTurns (option_map (λ branch. branch.1) (find (λ branch. branch.0 == address) ts))
    → FewTurns (option_map (λ (branch : ℕ × Turns). branch.1) (if b then Some t else find (λ branch. branch.0 == address) ts))
turns_case address t ts true here later = here
turns_case address t ts false here later = later

turns_are_few : (address : ℕ) (ts : List (ℕ × Turns)) → AllByRecursion (λ t. FewTurns (Some t.1)) ts → FewTurns (option_map (λ branch. branch.1) (find (λ branch. branch.0 == address) ts))
turns_are_few address [] a = tt
turns_are_few address (t ∷ ts) a = turns_case address t ts (t.0 == address) a.0 (turns_are_few address ts a.1)

some_few : (t : Turns) → few_turns (Some t) ≡ true → FewTurns (Some t)
unfolding few_turns
some_few (Count count) h = ltb-true count (2 ^ 32) h
some_few PerPair h = tt
some_few PerEntry h = tt

turn_few : (t : ℕ × Turns) → few_turns (Some t.1) ≡ true → FewTurns (Some t.1)
turn_few t h = some_few t.1 h

few_body : Body → Bool
few_body (Stm place) = nat_lt place (2 ^ 32)
few_body (Ldm place) = nat_lt place (2 ^ 32)
few_body (Ldi number) = nat_lt number (2 ^ 32)
few_body (Plain code) = true
few_body (Bz to) = true
few_body (Bnz to) = true
few_body (Jmp to) = true

few_micro : Option Micro → Bool
few_micro None = true
few_micro (Some m) = few_body m.body

body_few : (b : Body) → few_body b ≡ true → FewBody b
unfolding few_body
body_few (Stm place) h = ltb-true place (2 ^ 32) h
body_few (Ldm place) h = ltb-true place (2 ^ 32) h
body_few (Ldi number) h = ltb-true number (2 ^ 32) h
body_few (Plain code) h = tt
body_few (Bz to) h = tt
body_few (Bnz to) h = tt
body_few (Jmp to) h = tt

micro_few : (m : Option Micro) → few_micro m ≡ true → FewMicro m
unfolding few_micro
micro_few None h = tt
micro_few (Some m) h = body_few m.body h

words_few : list_all (λ w. few_micro (micro_of w)) WORDS ≡ true
unfolding few_micro few_body
words_few = refl

constants_few : list_all (λ v. nat_lt v (2 ^ 32)) CONSTANTS ≡ true
constants_few = refl

all_turns_few : list_all (λ t. few_turns (Some t.1)) TURNS ≡ true
unfolding few_turns
all_turns_few = refl

word_same : (address word : ℕ) → address < 2048 → FewMicro (micro_of word) → with_line_feeds (word_lines address word) ≡ word_text address word
unfolding word_text
word_same address word few small =
    let turns = turns_in address TURNS in
    let few_turns = turns_are_few address TURNS (all_from (λ (t : ℕ × Turns). FewTurns (Some t.1)) (λ t. few_turns (Some t.1)) turn_few TURNS all_turns_few) in
    feeds_append (head_lines address (row_text address)) (turns_lines turns ++ micro_lines (micro_of word))
    ∙ ap₂ (λ (a b : List ℕ). a ++ b) (head_same address (row_text address) few)
    (feeds_append (turns_lines turns) (micro_lines (micro_of word)) ∙ ap₂ (λ (a b : List ℕ). a ++ b) (turns_same turns few_turns) (micro_same (micro_of word) small))

words_long : 0 + length WORDS ≤ 2048
words_long = omega arith

pub text_is : with_line_feeds all_lines ≡ listing_text
unfolding all_lines listing_text
text_is =
    feeds_append (numbered_lines constant_lines 0 CONSTANTS) (numbered_lines word_lines 0 WORDS)
    ∙ ap₂ (λ (a b : List ℕ). a ++ b)
    (numbered_same constant_text constant_lines 2048 (λ v. v < 2 ^ 32) constant_same 0 CONSTANTS (omega arith) (all_from (λ v. v < 2 ^ 32) (λ v. nat_lt v (2 ^ 32)) (λ v h. ltb-true v (2 ^ 32) h) CONSTANTS constants_few))
    (numbered_same word_text word_lines 2048 (λ w. FewMicro (micro_of w)) word_same 0 WORDS words_long (all_from (λ w. FewMicro (micro_of w)) (λ w. few_micro (micro_of w)) (λ w h. micro_few (micro_of w) h) WORDS words_few))
