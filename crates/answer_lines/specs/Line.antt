-- The lines that say how a command ended.
use Rattle.std.specs.Prelude.{ℕ, ◌+◌, ◌*◌, ◌/◌, ◌%◌, ◌^◌, Bool, true, false, nat_lt, if◌then◌else◌, List, [], ◌∷◌, ◌++◌, codes, decimal, Some, None}
use Rattle.std.specs.List.{concat}
use Rattle.std.specs.declared.option.Option.{Option}
use Rattle.answer_lines.specs.declared.line.Counts.{Counts}
use Rattle.answer_lines.specs.declared.line.SlotCounts.{SlotCounts}
use Rattle.answer_lines.specs.declared.line.Line.{Line}
use Rattle.answer_lines.specs.declared.line.Line.TheVariants.{Ended, Uncaught, Spent, Linked, Usage, TooBig, BadImage, Differs, MethodTooLong, MemoryTooSmall}
use Rattle.answer_lines.specs.declared.line.Line.TheVariants.{CycleEnded, CycleUncaught, CycleSpent}
use Rattle.answer_lines.specs.declared.line.Line.TheVariants.{NoCircuit, Link, Asm, ReadFault, WriteFault, NoMemory}
use Rattle.answer_lines.specs.declared.line.LinkLine.{LinkLine}
use Rattle.answer_lines.specs.declared.line.LinkLine.TheVariants.{BadClass, UnsupportedVersion, Duplicate, Unsupported, Unresolved, BadHierarchy, NoMain}
use Rattle.answer_lines.specs.declared.line.LinkLine.TheVariants.{NotVerified, TooLarge}
use Rattle.answer_lines.specs.declared.line.AsmLine.{AsmLine}
use Rattle.answer_lines.specs.declared.line.AsmLine.TheVariants.{Broken, TooLong}
use Rattle.answer_lines.specs.declared.line.Place.{Place}
use Rattle.answer_lines.specs.declared.line.Place.TheVariants as place
use Rattle.answer_lines.specs.declared.line.Named.{Named}
use Rattle.answer_lines.specs.declared.line.Named.TheVariants as named

-- ---- numbers in a line

abbrev pub hexadecimal_digit : ℕ → ℕ
hexadecimal_digit d = if nat_lt d 10 then 48 + d else 87 + d

-- the digit of 16 ^ k
abbrev pub digit_at : (k : ℕ) → ℕ → ℕ
digit_at k n = hexadecimal_digit (n / 2 ^ (4 * k) % 16)

-- a word of 32 bits in eight hexadecimal digits
abbrev pub hexadecimal : ℕ → List ℕ
hexadecimal n =
    digit_at 7 n ∷ digit_at 6 n ∷ digit_at 5 n ∷ digit_at 4 n ∷ digit_at 3 n ∷ digit_at 2 n ∷ digit_at 1 n ∷ digit_at 0 n ∷ []

-- a word that may be missing
abbrev pub word_text : Option ℕ → List ℕ
word_text None = codes "none"
word_text (Some n) = hexadecimal n

-- Each line is its parts, one after another.

-- the end of a line of a run
abbrev pub counts_parts : Counts → List (List ℕ)
counts_parts c = codes " cycles=" ∷ decimal c.clock ∷ codes " hits=" ∷ decimal c.hits ∷ codes " misses=" ∷ decimal c.misses ∷ codes "\n" ∷ []

-- the end of a line of a run of a cyclic executive
abbrev pub slot_counts_parts : SlotCounts → List (List ℕ)
slot_counts_parts c =
    codes " slots=" ∷ decimal c.slots ∷ codes " late=" ∷ decimal c.late ∷ codes " idle=" ∷ decimal c.idle ∷ codes " cycles=" ∷ decimal c.clock
    ∷ codes "\n" ∷ []

-- ---- refusals of linking

-- where an item stands in a class file
abbrev pub place_parts : Place → List (List ℕ)
place_parts place.Class = []
place_parts (place.Field i) = codes " field=" ∷ decimal i ∷ []
place_parts (place.Method i) = codes " method=" ∷ decimal i ∷ []
place_parts (place.Code i pc) = codes " method=" ∷ decimal i ∷ codes " pc=" ∷ decimal pc ∷ []

-- a class, or a member with its descriptor directly behind its name
abbrev pub named_parts : Named → List (List ℕ)
named_parts (named.Class name) = name.now ∷ []
named_parts (named.Member class name descriptor) = class.now ∷ codes "." ∷ name.now ∷ descriptor.now ∷ []

abbrev pub link_parts : LinkLine → List (List ℕ)
link_parts (BadClass file) = codes "link: bad class file=" ∷ decimal file ∷ codes "\n" ∷ []
link_parts (UnsupportedVersion file major) = codes "link: unsupported version file=" ∷ decimal file ∷ codes " major=" ∷ decimal major ∷ codes "\n" ∷ []
link_parts (Duplicate file name) = codes "link: duplicate file=" ∷ decimal file ∷ codes " name=" ∷ name.now ∷ codes "\n" ∷ []
link_parts (Unsupported file place item) = codes "link: unsupported file=" ∷ decimal file ∷ (place_parts place ++ codes " item=" ∷ item.now ∷ codes "\n" ∷ [])
link_parts (Unresolved file entry why name) =
    codes "link: unresolved file=" ∷ decimal file ∷ codes " entry=" ∷ decimal entry ∷ codes " why=" ∷ why.now ∷ codes " name="
    ∷ (named_parts name ++ codes "\n" ∷ [])
link_parts (BadHierarchy file) = codes "link: bad hierarchy file=" ∷ decimal file ∷ codes "\n" ∷ []
link_parts NoMain = codes "link: no main\n" ∷ []
link_parts (NotVerified file method pc rule) =
    codes "link: not verified file=" ∷ decimal file ∷ codes " method=" ∷ decimal method ∷ codes " pc=" ∷ decimal pc ∷ codes " rule=" ∷ rule.now ∷ codes "\n"
    ∷ []
link_parts (TooLarge what count limit) = codes "link: too large " ∷ what.now ∷ codes " count=" ∷ decimal count ∷ codes " limit=" ∷ decimal limit ∷ codes "\n"
    ∷ []

-- ---- refusals of assembling

abbrev pub asm_parts : AsmLine → List (List ℕ)
asm_parts (Broken line rule) = codes "asm: line=" ∷ decimal line ∷ codes " " ∷ rule.now ∷ codes "\n" ∷ []
asm_parts (TooLong words) = codes "asm: too long words=" ∷ decimal words ∷ codes "\n" ∷ []

-- ---- the whole line

abbrev pub parts_of : Line → List (List ℕ)
parts_of (Ended counts) = codes "ended" ∷ counts_parts counts
parts_of (Uncaught class counts) = codes "uncaught " ∷ class.now ∷ counts_parts counts
parts_of (Spent counts) = codes "spent" ∷ counts_parts counts
parts_of (CycleEnded counts) = codes "ended" ∷ slot_counts_parts counts
parts_of (CycleUncaught class counts) = codes "uncaught " ∷ class.now ∷ slot_counts_parts counts
parts_of (CycleSpent counts) = codes "spent" ∷ slot_counts_parts counts
parts_of (Linked sizes) =
    codes "linked classes=" ∷ decimal sizes.classes ∷ codes " methods=" ∷ decimal sizes.methods ∷ codes " words=" ∷ decimal sizes.words ∷ codes " bytes="
    ∷ decimal sizes.bytes ∷ codes "\n" ∷ []
parts_of (Usage k) = codes "usage: word " ∷ decimal k ∷ codes "\n" ∷ []
parts_of (TooBig name sum) = codes "too big " ∷ name.now ∷ codes " sum=" ∷ decimal sum ∷ codes "\n" ∷ []
parts_of BadImage = codes "bad image\n" ∷ []
parts_of (Differs word kept linked) = codes "differs word=" ∷ decimal word ∷ codes " kept=" ∷ word_text kept ∷ codes " linked=" ∷ word_text linked ∷ codes "\n"
    ∷ []
parts_of (MethodTooLong name blocks limit) = codes "method too long " ∷ name.now ∷ codes " blocks=" ∷ decimal blocks ∷ codes " limit=" ∷ decimal limit
    ∷ codes "\n" ∷ []
parts_of (MemoryTooSmall words given) = codes "memory too small words=" ∷ decimal words ∷ codes " given=" ∷ decimal given ∷ codes "\n" ∷ []
parts_of NoCircuit = codes "rtl: no circuit\n" ∷ []
parts_of (Link refusal) = link_parts refusal
parts_of (Asm refusal) = asm_parts refusal
parts_of ReadFault = codes "read fault\n" ∷ []
parts_of WriteFault = codes "write fault\n" ∷ []
parts_of NoMemory = codes "no memory\n" ∷ []

abbrev pub line_of : Line → List ℕ
line_of line = concat (parts_of line)

-- a line that replaces no answer: where it can't be put, nothing else is said
abbrev pub is_fault : Line → Bool
is_fault ReadFault = true
is_fault WriteFault = true
is_fault NoMemory = true
is_fault line = false
