-- What the entries of pools mean, by what is found.
use Rattle.std.proofs.Common.{◌≡◌, ℕ, Bool, false, List, Option, Some, None, refl, sym, ap, ◌∙◌}
use Rattle.std.specs.Option.{option_map_or}
use Rattle.class_pool.specs.declared.entry.Entry.TheVariants as entries
use Rattle.class_pool.specs.declared.class.Member.{Member}
use Rattle.class_pool.specs.declared.class.ClassFile.{ClassFile}
use Rattle.bytecode_model.specs.Lists.{onto}
use Rattle.bytecode_model.specs.Program.{Operand, NoOperand}
use Rattle.class_lookup.specs.Hierarchy.{find_class}
use Rattle.class_lookup.specs.Lookup.{Place, field_at, method_at, find_field, find_method}
use Rattle.class_lookup.specs.Parts.{Signature, class_text}
use Rattle.class_lookup.specs.Selection.{special}
use Rattle.program_tables.specs.Instructions.{signature_in}
use Rattle.program_tables.specs.Operands.{field_operand, method_operand, is_guarded_member}
use Rattle.program_tables.specs.Entries.{special_op, entry_operand, entry_guarded, Meaning, meaning_of, field_found, method_found}

-- what is named through a class, and then found
abbrev found_in : Option Signature → Option ℕ → (ℕ → Signature → Option Place) → Option (ℕ × Place)
found_in sig k find = onto sig (λ s. onto k (λ n. onto (find n s) (λ p. Some (n, p))))

-- ---- what is said of it

field_case : (cs : List ClassFile) (n : ℕ) (o : Option Place) → option_map_or (field_operand cs n) o NoOperand ≡ option_map_or (λ (r : ℕ × Place). field_operand cs r.0 r.1) (onto o (λ p. Some (n, p))) NoOperand
field_case cs n None = refl
field_case cs n (Some p) = refl

field_said : (cs : List ClassFile) (sig : Option Signature) (k : Option ℕ) (find : ℕ → Signature → Option Place)
    → option_map_or (λ s. option_map_or (λ n. option_map_or (field_operand cs n) (find n s) NoOperand) k NoOperand) sig NoOperand ≡ option_map_or (λ (r : ℕ × Place). field_operand cs r.0 r.1) (found_in sig k find) NoOperand
field_said cs None k find = refl
field_said cs (Some s) None find = refl
field_said cs (Some s) (Some n) find = field_case cs n (find n s)

method_case : (cs : List ClassFile) (n : ℕ) (taken : ℕ → Place → Option Place) (o : Option Place)
    → method_operand cs n (onto o (taken n)) ≡ option_map_or (λ (r : ℕ × Place). method_operand cs r.0 (taken r.0 r.1)) (onto o (λ p. Some (n, p))) NoOperand
method_case cs n taken None = refl
method_case cs n taken (Some p) = refl

method_said : (cs : List ClassFile) (taken : ℕ → Place → Option Place) (sig : Option Signature) (k : Option ℕ) (find : ℕ → Signature → Option Place)
    → option_map_or (λ s. option_map_or (λ n. method_operand cs n (onto (find n s) (taken n))) k NoOperand) sig NoOperand
    ≡ option_map_or (λ (r : ℕ × Place). method_operand cs r.0 (taken r.0 r.1)) (found_in sig k find) NoOperand
method_said cs taken None k find = refl
method_said cs taken (Some s) None find = refl
method_said cs taken (Some s) (Some n) find = method_case cs n taken (find n s)

guard_case : (cs : List ClassFile) (current : ℕ) (at : Place → Option Member) (n : ℕ) (o : Option Place)
    → is_guarded_member cs current o (onto o at) ≡ option_map_or (λ (r : ℕ × Place). is_guarded_member cs current (Some r.1) (at r.1)) (onto o (λ p. Some (n, p))) false
guard_case cs current at n None = refl
guard_case cs current at n (Some p) = refl

guard_said : (cs : List ClassFile) (current : ℕ) (at : Place → Option Member) (sig : Option Signature) (k : Option ℕ) (find : ℕ → Signature → Option Place)
    → option_map_or (λ s. is_guarded_member cs current (onto k (λ n. find n s)) (onto (onto k (λ n. find n s)) at)) sig false
    ≡ option_map_or (λ (r : ℕ × Place). is_guarded_member cs current (Some r.1) (at r.1)) (found_in sig k find) false
guard_said cs current at None k find = refl
guard_said cs current at (Some s) None find = refl
guard_said cs current at (Some s) (Some n) find = guard_case cs current at n (find n s)

-- ---- meanings

abbrev pub made : Operand → Operand → Bool → Meaning
made u s g = record { usual = u; special = s; guarded = g }

pub made_same : (u v s t : Operand) (g h : Bool) → u ≡ v → s ≡ t → g ≡ h → made u s g ≡ made v t h
made_same u v s t g h a b c = ap (λ x. made x s g) a ∙ (ap (λ x. made v x g) b ∙ ap (λ x. made v t x) c)

-- what a field that is found means, and what it means where none is
abbrev pub field_meant : List ClassFile → (current : ℕ) → Option (ℕ × Place) → Meaning
field_meant cs current o =
    let u = option_map_or (λ (r : ℕ × Place). field_operand cs r.0 r.1) o NoOperand in
    made u u (option_map_or (λ (r : ℕ × Place). is_guarded_member cs current (Some r.1) (field_at cs r.1)) o false)

pub field_means : (cs : List ClassFile) (current : ℕ) (c : ClassFile) (owner member index : ℕ) → field_meant cs current (field_found cs c owner member) ≡ meaning_of cs current c index (Some (entries.Field owner member))
field_means cs current c owner member index =
    let sig = signature_in c.pool member in
    let k = find_class cs (class_text c.pool owner) in
    let u = sym (field_said cs sig k (λ n s. find_field cs n s)) in
    made_same
    (option_map_or (λ (r : ℕ × Place). field_operand cs r.0 r.1) (field_found cs c owner member) NoOperand) (entry_operand cs current c 0 index (entries.Field owner member))
    (option_map_or (λ (r : ℕ × Place). field_operand cs r.0 r.1) (field_found cs c owner member) NoOperand) (entry_operand cs current c special_op index (entries.Field owner member))
    (option_map_or (λ (r : ℕ × Place). is_guarded_member cs current (Some r.1) (field_at cs r.1)) (field_found cs c owner member) false) (entry_guarded cs current c (entries.Field owner member))
    u u (sym (guard_said cs current (field_at cs) sig k (λ n s. find_field cs n s)))

abbrev pub method_meant : List ClassFile → (current : ℕ) → Option (ℕ × Place) → Meaning
method_meant cs current o =
    made (option_map_or (λ (r : ℕ × Place). method_operand cs r.0 (Some r.1)) o NoOperand) (option_map_or (λ (r : ℕ × Place). method_operand cs r.0 (special cs current r.0 r.1)) o NoOperand)
    (option_map_or (λ (r : ℕ × Place). is_guarded_member cs current (Some r.1) (method_at cs r.1)) o false)

pub method_means : (cs : List ClassFile) (current : ℕ) (c : ClassFile) (owner member index : ℕ) → method_meant cs current (method_found cs c owner member) ≡ meaning_of cs current c index (Some (entries.Method owner member))
method_means cs current c owner member index =
    let sig = signature_in c.pool member in
    let k = find_class cs (class_text c.pool owner) in
    let find : ℕ → Signature → Option Place = λ n s. find_method cs n s in
    made_same
    (option_map_or (λ (r : ℕ × Place). method_operand cs r.0 (Some r.1)) (method_found cs c owner member) NoOperand) (entry_operand cs current c 0 index (entries.Method owner member))
    (option_map_or (λ (r : ℕ × Place). method_operand cs r.0 (special cs current r.0 r.1)) (method_found cs c owner member) NoOperand) (entry_operand cs current c special_op index (entries.Method owner member))
    (option_map_or (λ (r : ℕ × Place). is_guarded_member cs current (Some r.1) (method_at cs r.1)) (method_found cs c owner member) false) (entry_guarded cs current c (entries.Method owner member))
    (sym (method_said cs (λ n p. Some p) sig k find)) (sym (method_said cs (λ n p. special cs current n p) sig k find))
    (sym (guard_said cs current (method_at cs) sig k find))
