-- Calls on which nothing fails: what is said of them, and what is read.
use Rattle.std.proofs.Common.{◌≡◌, ℕ, ◌+◌, ◌<◌, ◌≤◌, Bool, true, false, List, [], length, take, get_or, Option, Some, refl, sym, ◌∙◌, ap, subst, arith, ⊎_elim}
use Rattle.std.specs.Prelude.{sum_by, Ok}
use Rattle.std.proofs.lemmas.List.{ext_get_or, length-take-le, get_or-take}
use Rattle.std.proofs.lemmas.List.Sums.{sum_by_more_le}
use Rattle.outside.specs.Outside.{Grew, Rose, IsWhole, HasFileLength}
use Rattle.answer_lines.specs.Said.{SaidLess}
use Rattle.outside.specs.Files.{AreFiles, IsTooBigAt}
use Rattle.run_devices.specs.Lent.{Lent}
use Rattle.command_line.specs.declared.command.Command.{Command}
use Rattle.command_line.specs.Command.{command_of}
use Rattle.endings.specs.declared.outcome.Refusal.TheVariants as refusals
use Rattle.endings.specs.declared.outcome.Ending.{Ending}
use Rattle.endings.specs.declared.outcome.Ending.TheVariants as endings
use Rattle.endings.specs.declared.outcome.Outcome.TheVariants as outcomes
use Rattle.endings.specs.Line.{line_of}
use Rattle.endings.specs.World.{World, IsQuiet, IsUntaken, Reads}
use Rattle.endings.specs.Linking.{files_of, OperandsFault}
use Rattle.jop_cli.specs.Answer.{Does, FileFault, outcome_of, lent_of, lent_without_input}
use Rattle.jop_cli.specs.Calls.{Call, NothingFailed, LacksMemory, IsTold, OperandsAreTold}
use Rattle.jop_cli.proofs.Refusing.{unsaid_written, unsaid_holds}
use Rattle.jop_cli.proofs.Executing.{does_by}

-- ---- what is said

less_rose : (is_fault : Bool) (line : List ℕ) (old new : Option (List ℕ)) (before now : ℕ) → SaidLess is_fault line old new before now → Rose before now
less_rose true line old new before now s = s.rose
less_rose false line old new before now s = omega (arith, s.rose, s.later)

-- the whole line was put, and the outcome is that of the ending
pub record IsWholly (c : Call) (ending : Ending) : Type 0 where
  pub line : Grew c.err_old c.err_new (line_of c.words ending)
  pub outcome : c.outcome ≡ outcome_of ending

pub wholly_by : (c : Call) → ¬ Rose c.err_faults_old c.err_faults_new → IsWholly c c.answered.ending
wholly_by c unfailed =
    ⊎_elim
    (λ whole. record { line = whole.0; outcome = whole.1 })
    (λ less. absurd (unfailed (less_rose _ _ _ _ _ _ less.0)))
    c.answered.said.said

pub wholly : (c : Call) → NothingFailed c → IsWholly c c.answered.ending
wholly c n = wholly_by c n.err

-- so it is where the outcome is that all was written, or that a certificate holds
pub wholly_written : (c : Call) → c.outcome ≡ outcomes.Written → IsWholly c c.answered.ending
wholly_written c is =
    ⊎_elim
    (λ whole. record { line = whole.0; outcome = whole.1 })
    (λ less. absurd (unsaid_written c.answered.ending (sym less.1 ∙ is)))
    c.answered.said.said

pub wholly_held : (c : Call) → c.outcome ≡ outcomes.Holds → IsWholly c c.answered.ending
wholly_held c is =
    ⊎_elim
    (λ whole. record { line = whole.0; outcome = whole.1 })
    (λ less. absurd (unsaid_holds c.answered.ending (sym less.1 ∙ is)))
    c.answered.said.said

-- the command of the words was executed
pub executed : (c : Call) (command : Command) → command_of c.words ≡ Ok command → Does c.words (Ok command) c.old c.new c.answered.ending
executed c command is = does_by c.words (Ok command) (command_of c.words) c.old c.new c.answered.ending is c.answered.executed

pub lacks : (c : Call) (ending : Ending) → IsWholly c ending → ending ≡ endings.NoMemory → IsQuiet c.old c.new → LacksMemory c
lacks c ending w is quiet = record { outcome = w.outcome ∙ ap outcome_of is; quiet = quiet }

-- nothing was done with what was lent
pub quiet_of : (old new : World) → lent_of new ≡ lent_of old → IsQuiet old new
quiet_of old new e = record {
  input = record { left = ap (λ (x : Lent). x.left) e; read_faults = ap (λ (x : Lent). x.read_faults) e };
  out = ap (λ (x : Lent). x.held) e;
  out_faults = ap (λ (x : Lent). x.write_faults) e;
  watch = ap (λ (x : Lent). x.handed) e;
}

pub quiet_without : (old new : World) → IsUntaken old new → lent_without_input new ≡ lent_without_input old → IsQuiet old new
quiet_without old new untaken e = record {
  input = untaken;
  out = ap (λ (x : Lent). x.held) e;
  out_faults = ap (λ (x : Lent). x.write_faults) e;
  watch = ap (λ (x : Lent). x.handed) e;
}

-- ---- one file

pub whole_told : (told : Option (List ℕ)) (bytes read : List ℕ) → told ≡ Some bytes → IsWhole told read → read ≡ bytes
whole_told told bytes read is whole = subst (λ (o : Option (List ℕ)). IsWhole o read) is whole

pub length_told : (told : Option (List ℕ)) (bytes : List ℕ) (n : ℕ) → told ≡ Some bytes → HasFileLength told n → n ≡ length bytes
length_told told bytes n is has = subst (λ (o : Option (List ℕ)). HasFileLength o n) is has

pub same_bytes : (c : Call) (word : ℕ) (bytes read : List ℕ) → IsTold c word bytes → Reads word read c.old c.new → read ≡ bytes
same_bytes c word bytes read told reads = whole_told (c.old.files word) bytes read told.told reads.whole

pub file_read : (c : Call) (word : ℕ) (bytes : List ℕ) → IsTold c word bytes → NothingFailed c → (ending : Ending) → FileFault word c.old c.new ending → ending ≡ endings.NoMemory
file_read c word bytes told n (endings.Refused (refusals.TooBig operand sum)) h =
    let same : sum ≡ length bytes = length_told (c.old.files word) bytes sum told.told h.length_is in
    absurd (omega (arith, same, told.short, h.long))
file_read c word bytes told n endings.ReadFault h = absurd (n.files word bytes told.told h.1)
file_read c word bytes told n endings.NoMemory h = refl
file_read c word bytes told n ending h = absurd h

-- ---- several files

same_at : (c : Call) (first : ℕ) (files read : List (List ℕ)) (operand : ℕ) → OperandsAreTold c first files → AreFiles c.old.files first operand read → (k : ℕ) → k < length read → k < length files → get_or read k [] ≡ get_or files k []
same_at c first files read operand told are k within there = whole_told (c.old.files (first + k)) (get_or files k []) (get_or read k []) (told.told k there) (are.whole k within)

pub same_files : (c : Call) (first : ℕ) (files read : List (List ℕ)) → OperandsAreTold c first files → AreFiles c.old.files first c.old.words read → read ≡ files
same_files c first files read told are =
    let same : length read ≡ length files = omega (arith, told.many, are.many) in
    ext_get_or [] read files same (λ k within. same_at c first files read c.old.words told are k within (omega (arith, same, within)))

front : (c : Call) (first : ℕ) (files read : List (List ℕ)) (operand : ℕ) → OperandsAreTold c first files → AreFiles c.old.files first operand read → length read < length files → read ≡ take (length read) files
front c first files read operand told are short =
    let len : length (take (length read) files) ≡ length read = length-take-le (length read) files (omega (arith, short)) in
    ext_get_or [] read (take (length read) files) (sym len) (λ k within.
    same_at c first files read operand told are k within (omega (arith, short, within)) ∙ sym (get_or-take (length read) files k [] within))

fits : (c : Call) (first : ℕ) (files : List (List ℕ)) (operand sum : ℕ) → OperandsAreTold c first files → IsTooBigAt (files_of c.old) first c.old.words operand sum → ⊥
fits c first files operand sum told big =
    let n : ℕ = length big.before in
    let short : n < length files = omega (arith, told.many, big.read.many, big.below) in
    let at : c.old.files operand ≡ Some (get_or files n []) = subst (λ (k : ℕ). c.old.files k ≡ Some (get_or files n [])) big.read.many (told.told n short) in
    let long : big.bytes ≡ length (get_or files n []) = length_told (c.old.files operand) (get_or files n []) big.bytes at big.length_is in
    let sums : sum_by length big.before ≡ sum_by length (take n files) = ap (sum_by length) (front c first files big.before operand told big.read short) in
    let most : sum_by length (take n files) + length (get_or files n []) ≤ sum_by length files = sum_by_more_le length files n [] short in
    omega (arith, told.few, big.sum_is, big.past, long, sums, most)

pub files_read : (c : Call) (first : ℕ) (files : List (List ℕ)) → OperandsAreTold c first files → NothingFailed c → (ending : Ending) → OperandsFault first c.old.words (files_of c.old) (files_of c.new) ending → ending ≡ endings.NoMemory
files_read c first files told n (endings.Refused (refusals.TooBig operand sum)) h = absurd (fits c first files operand sum told h.0)
files_read c first files told n endings.ReadFault h =
    let fails = h.1 in
    let k : ℕ = length fails.before in
    let short : k < length files = omega (arith, told.many, fails.read.many, fails.below) in
    let at : c.old.files h.0 ≡ Some (get_or files k []) = subst (λ (x : ℕ). c.old.files x ≡ Some (get_or files k [])) fails.read.many (told.told k short) in
    absurd (n.files h.0 (get_or files k []) at fails.rose)
files_read c first files told n endings.NoMemory h = refl
files_read c first files told n ending h = absurd h
