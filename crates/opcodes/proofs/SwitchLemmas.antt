-- Switches: what a decoded one is, and its cases.
use Rattle.std.proofs.Common.{◌≡◌, ℕ, zero, suc, ◌+◌, ◌-◌, ◌*◌, ◌<◌, ◌≤◌, Bool, true, false, List, length, map, refl, sym, ◌∙◌, ap, subst, arith, add-zero, ℤ, pos, negsuc, Ok, Some, inl, inr}
use Rattle.std.specs.Prelude.{◌+ℤ◌, ◌-ℤ◌, slice_get, FitsSigned, int_lt, unsigned_abs, if◌then◌else◌}
use Rattle.std.specs.Int.{w32}
use Rattle.std.specs.List.{range_with_len}
use Rattle.std.proofs.lemmas.Bool.{cases_lt, cases_Bool, cond_below, cond_above, ltb-false, false≢true}
use Rattle.std.proofs.Math.IntN.{sub_ℕ}
use Rattle.std.proofs.Math.Facts.{sfits_to_z, to_z-of_z, to_z_pos}
use Rattle.std.specs.Int.Signed.{mag}
use Rattle.std.proofs.Common.{to_z, of_z}
use Rattle.opcodes.specs.declared.instruction.Instr.{Instr}
use Rattle.opcodes.specs.declared.table.Form.{Form as FormCode}
use Rattle.opcodes.specs.declared.table.Form.TheVariants as forms
use Rattle.opcodes.specs.Entry.{entry_form}
use Rattle.opcodes.specs.Bytes.{u1, u4, s4}
use Rattle.opcodes.specs.Form.{Operands, Form, NotAnOpcode, Fixed, Widened, TableSwitch, LookupSwitch, Wide}
use Rattle.opcodes.specs.Instruction.{decoded, spelled_at, widened_at, within, fixed_at, table_switch_at, lookup_switch_at, values_between, default_place}
use Rattle.opcodes.specs.Row.{row_of}
use Rattle.opcodes.specs.declared.instruction.Case.{Case}
use Rattle.opcodes.specs.Target.{table_case, lookup_case, cases_by, cases_of, IsLocal}
use Rattle.opcodes.proofs.DecodeLemmas.{decoded-form, wide-inside, wide-end}
use Rattle.opcodes.proofs.ReadLemmas.{Agree, same_s4, within-Ok, decoded-same}
use Rattle.opcodes.proofs.WithinLemmas.{IsWithin-decoded}

-- ---- a decoded switch is what its header says, and no other instruction has cases

abbrev pub SwitchIs : List ℕ → ℕ → Instr → Form → Type 0
SwitchIs code pc instr NotAnOpcode = instr.count ≡ 0
SwitchIs code pc instr (Fixed o) = instr.count ≡ 0
SwitchIs code pc instr (Widened o w) = instr.count ≡ 0
SwitchIs code pc instr TableSwitch = table_switch_at code pc ≡ instr
SwitchIs code pc instr LookupSwitch = lookup_switch_at code pc ≡ instr
SwitchIs code pc instr Wide = instr.count ≡ 0

module _ (code : List ℕ) (pc : ℕ) (instr : Instr) where
  by_form : (form : Form) → (row_of instr.op).form ≡ form → SwitchIs code pc instr form → SwitchIs code pc instr (row_of instr.op).form
  by_form form e h = subst (SwitchIs code pc instr) (sym e) h

  fixed_is : (wide : Bool) (o : Operands) (form : Form) → (row_of (fixed_at code pc wide o).op).form ≡ form → (instr.count ≡ 0 → SwitchIs code pc instr form)
      → within code pc (Ok (fixed_at code pc wide o)) ≡ Ok instr → SwitchIs code pc instr (row_of instr.op).form
  fixed_is wide o form op h e =
      let found = within-Ok code pc (fixed_at code pc wide o) instr e in
      by_form form (ap (λ (i : Instr). (row_of i.op).form) (sym found.1) ∙ op) (h (sym (ap (λ (i : Instr). i.count) found.1)))

  widened_is : (form : Form) → within code pc (widened_at code pc form) ≡ Ok instr → (row_of (u1 code (pc + 1))).form ≡ form → SwitchIs code pc instr (row_of instr.op).form
  widened_is NotAnOpcode e op = absurd (cc)
  widened_is (Fixed o) e op = absurd (cc)
  widened_is (Widened o w) e op = fixed_is true w (Widened o w) op (λ none. none) e
  widened_is TableSwitch e op = absurd (cc)
  widened_is LookupSwitch e op = absurd (cc)
  widened_is Wide e op = absurd (cc)

  at_pc : (row_of (u1 code (pc + 0))).form ≡ (row_of (u1 code pc)).form
  at_pc = ap (λ (place : ℕ). (row_of (u1 code place)).form) (add-zero pc)

  spelled_is : (form : Form) → within code pc (spelled_at code pc form) ≡ Ok instr → (row_of (u1 code pc)).form ≡ form → SwitchIs code pc instr (row_of instr.op).form
  spelled_is NotAnOpcode e op = absurd (cc)
  spelled_is (Fixed o) e op = fixed_is false o (Fixed o) (at_pc ∙ op) (λ none. none) e
  spelled_is (Widened o w) e op = fixed_is false o (Widened o w) (at_pc ∙ op) (λ none. none) e
  spelled_is TableSwitch e op =
      let found = within-Ok code pc (table_switch_at code pc) instr e in
      by_form TableSwitch (ap (λ (i : Instr). (row_of i.op).form) (sym found.1) ∙ op) found.1
  spelled_is LookupSwitch e op =
      let found = within-Ok code pc (lookup_switch_at code pc) instr e in
      by_form LookupSwitch (ap (λ (i : Instr). (row_of i.op).form) (sym found.1) ∙ op) found.1
  spelled_is Wide e op = elim (cases_lt (pc + 1) (length code)) [
    | inl h ↦ widened_is (row_of (u1 code (pc + 1))).form (wide-inside code pc (row_of (u1 code (pc + 1))).form h refl ∙ e) refl
    | inr h ↦ let short = wide-end code pc h ∙ e in absurd (cc)
  ]

  pub switch_is : decoded code pc ≡ Ok instr → SwitchIs code pc instr (row_of instr.op).form
  switch_is e = spelled_is (row_of (u1 code pc)).form (decoded-form code pc (row_of (u1 code pc)).form refl ∙ e) refl

-- ---- maps over ranges

pub same_maps : {X : Type 0} (f g : ℕ → X) (from n : ℕ) → ((k : ℕ) → from ≤ k → k < from + n → f k ≡ g k) → map f (range_with_len from n) ≡ map g (range_with_len from n)
same_maps f g from zero same = refl
same_maps f g from (suc n) same =
    let first = same from (omega arith) (omega arith) in
    let rest = same_maps f g (from + 1) n (λ k low high. same k (omega arith) (omega arith)) in
    cc

pub item_of_map : {X : Type 0} (f : ℕ → X) (from n k : ℕ) → k < n → slice_get (map f (range_with_len from n)) k ≡ Some (f (from + k))
item_of_map f from zero k h = absurd (omega arith)
item_of_map f from (suc n) zero h = ap (λ (place : ℕ). Some (f place)) (sym (add-zero from))
item_of_map f from (suc n) (suc k) h =
    let same : from + 1 + k ≡ from + suc k = omega arith in
    item_of_map f (from + 1) n k (omega arith) ∙ ap (λ (place : ℕ). Some (f place)) same

item_from_0 : {X : Type 0} (f : ℕ → X) (n k : ℕ) → k < n → slice_get (map f (range_with_len 0 n)) k ≡ Some (f k)
item_from_0 f n k h =
    let same : 0 + k ≡ k = omega arith in
    item_of_map f 0 n k h ∙ ap (λ (place : ℕ). Some (f place)) same

-- ---- an instruction depends on its own bytes alone

module _ (code other : List ℕ) (pc : ℕ) (instr : Instr) where
  same_cases : (form : Form) → SwitchIs code pc instr form → (form ≡ TableSwitch → instr.table + 4 * instr.count ≡ pc + instr.length) → (form ≡ LookupSwitch → instr.table + 8 * instr.count ≡ pc + instr.length)
      → Agree pc (pc + instr.length) code other → cases_by form other instr ≡ cases_by form code instr
  same_cases NotAnOpcode is table lookup agree = refl
  same_cases (Fixed o) is table lookup agree = refl
  same_cases (Widened o w) is table lookup agree = refl
  same_cases TableSwitch is table lookup agree =
      let at : (table_switch_at code pc).table ≡ instr.table = ap (λ (i : Instr). i.table) is in
      let ends = table refl in
      same_maps (table_case other instr) (table_case code instr) 0 instr.count
      (λ k low high. ap (λ (z : ℤ). record { key = instr.second +ℤ pos k; offset = z })
      (same_s4 pc (pc + instr.length) code other agree (instr.table + 4 * k) (omega arith) (omega arith)))
  same_cases LookupSwitch is table lookup agree =
      let at : (lookup_switch_at code pc).table ≡ instr.table = ap (λ (i : Instr). i.table) is in
      let ends = lookup refl in
      same_maps (lookup_case other instr) (lookup_case code instr) 0 instr.count
      (λ k low high.
      let key = same_s4 pc (pc + instr.length) code other agree (instr.table + 8 * k) (omega arith) (omega arith) in
      let offset = same_s4 pc (pc + instr.length) code other agree (instr.table + 8 * k + 4) (omega arith) (omega arith) in
      cc)
  same_cases Wide is table lookup agree = refl

  pub IsLocal-decoded : IsLocal code other pc instr
  IsLocal-decoded e enough bytes =
      let agree : Agree pc (pc + instr.length) code other = record { same = bytes } in
      let parts = IsWithin-decoded code pc instr e in
      record {
        is = decoded-same code other pc (pc + instr.length) agree (omega (arith, parts.not_empty)) enough instr (omega arith) e;
        cases = same_cases (row_of instr.op).form (switch_is code pc instr e) parts.table_switch parts.lookup_switch agree;
      }

-- ---- the cases of a decoded switch

-- a difference of naturals
difference_fits : (a b : ℕ) → a < b + 2147483648 → b ≤ a + 2147483648 → FitsSigned w32 (sub_ℕ a b)
difference_fits a b low high = elim (cases_lt a b) [
  | inl h ↦ subst (FitsSigned w32) (cond_below a b (negsuc (b - suc a)) (pos (a - b)) h) (record { sfits = omega arith })
  | inr h ↦ subst (FitsSigned w32) (cond_above a b (negsuc (b - suc a)) (pos (a - b)) (pos (a - b)) h refl) (record { sfits = omega arith })
]

distance_is : (a b : ℕ) → b ≤ a → unsigned_abs (sub_ℕ a b) ≡ a - b
distance_is a b h = ap unsigned_abs (sym (cond_above a b (negsuc (b - suc a)) (pos (a - b)) (pos (a - b)) h refl))

-- a key counts up from the low value, and doesn't pass the high one
key_fits : (low high : ℤ) (k : ℕ) → FitsSigned w32 low → FitsSigned w32 high → int_lt high low ≡ false → k ≤ unsigned_abs (high -ℤ low) → FitsSigned w32 (low +ℤ pos k)
key_fits (pos zero) (pos h) k small large order far = record { sfits = omega (arith, large.sfits) }
key_fits (pos (suc l)) (pos h) k small large order far =
    let some : suc l ≤ h = ltb-false h (suc l) order in
    record { sfits = omega (arith, large.sfits, distance_is h (suc l) some) }
key_fits (pos l) (negsuc h) k small large order far = absurd (false≢true (sym order))
key_fits (negsuc l) (pos h) k small large order far = difference_fits k (suc l) (omega (arith, large.sfits)) (omega (arith, small.sfits))
key_fits (negsuc l) (negsuc h) k small large order far = difference_fits k (suc l) (omega (arith, small.sfits, large.sfits, distance_is (suc l) (suc h) (omega (arith, ltb-false l h order)))) (omega (arith, small.sfits))

key_fits_between : (low high : ℤ) (k : ℕ) → FitsSigned w32 low → FitsSigned w32 high → k < values_between low high → FitsSigned w32 (low +ℤ pos k)
key_fits_between low high k small large h = elim (cases_Bool (int_lt high low)) [
  | inl e ↦ let none : values_between low high ≡ 0 = ap (λ (b : Bool). if b then 0 else unsigned_abs (high -ℤ low) + 1) e in absurd (omega arith)
  | inr e ↦
      let some : values_between low high ≡ unsigned_abs (high -ℤ low) + 1 = ap (λ (b : Bool). if b then 0 else unsigned_abs (high -ℤ low) + 1) e in
      key_fits low high k small large e (omega arith)
]

-- four bytes are a word
s4_fits : (code : List ℕ) (place : ℕ) → ((k : ℕ) → u1 code k < 256) → FitsSigned w32 (s4 code place)
s4_fits code place bytes =
    sfits_to_z {n = u4 code place} (record { fits = omega (arith, bytes place, bytes (place + 1), bytes (place + 2), bytes (place + 2 + 1)) })

-- what is read of a case lies within the code
pub record IsCase (code : List ℕ) (instr : Instr) (k end : ℕ) (c : Case) : Type 0 where
  pub inside : end ≤ length code
  pub is : slice_get (cases_of code instr) k ≡ Some c

module _ (code : List ℕ) (pc k : ℕ) (instr : Instr) (e : decoded code pc ≡ Ok instr) (one : k < instr.count) where
  pub lookup_is : (row_of instr.op).form ≡ LookupSwitch → IsCase code instr k (instr.table + 8 * k + 4 + 4) (lookup_case code instr k)
  lookup_is form =
      let parts = IsWithin-decoded code pc instr e in
      let ends = parts.lookup_switch form in
      record {
        inside = omega (arith, ends, parts.ends, one);
        is = ap (λ (f : Form). slice_get (cases_by f code instr) k) form ∙ item_from_0 (lookup_case code instr) instr.count k one;
      }

  table_form : (form : Form) → (row_of instr.op).form ≡ form → (form ≡ LookupSwitch → ⊥) → SwitchIs code pc instr form → (form ≡ TableSwitch) × (table_switch_at code pc ≡ instr)
  table_form NotAnOpcode same other is = absurd (omega arith)
  table_form (Fixed o) same other is = absurd (omega arith)
  table_form (Widened o w) same other is = absurd (omega arith)
  table_form TableSwitch same other is = (refl, is)
  table_form LookupSwitch same other is = absurd (other refl)
  table_form Wide same other is = absurd (omega arith)

  module _ (other : (row_of instr.op).form ≡ LookupSwitch → ⊥) where
    form_is : ((row_of instr.op).form ≡ TableSwitch) × (table_switch_at code pc ≡ instr)
    form_is = table_form (row_of instr.op).form refl other (switch_is code pc instr e)

    pub table_is : IsCase code instr k (instr.table + 4 * k + 4) (table_case code instr k)
    table_is =
        let parts = IsWithin-decoded code pc instr e in
        let ends = parts.table_switch form_is.0 in
        record {
          inside = omega (arith, ends, parts.ends, one);
          is = ap (λ (f : Form). slice_get (cases_by f code instr) k) form_is.0 ∙ item_from_0 (table_case code instr) instr.count k one;
        }

    pub index_fits : length code ≤ 33554432 → FitsSigned w32 (pos k)
    index_fits small = record { sfits = omega (arith, table_is.inside, small) }

    pub key_is : ((k : ℕ) → u1 code k < 256) → FitsSigned w32 (instr.second +ℤ pos k)
    key_is bytes =
        let place = default_place pc in
        let second : s4 code (place + 4) ≡ instr.second = ap (λ (i : Instr). i.second) form_is.1 in
        let count : values_between (s4 code (place + 4)) (s4 code (place + 8)) ≡ instr.count = ap (λ (i : Instr). i.count) form_is.1 in
        subst (λ (z : ℤ). FitsSigned w32 (z +ℤ pos k)) second
        (key_fits_between (s4 code (place + 4)) (s4 code (place + 8)) k (s4_fits code (place + 4) bytes) (s4_fits code (place + 8) bytes) (omega (arith, count, one)))

    second_fits : ((k : ℕ) → u1 code k < 256) → FitsSigned w32 instr.second
    second_fits bytes = subst (FitsSigned w32) (ap (λ (i : Instr). i.second) form_is.1) (s4_fits code (default_place pc + 4) bytes)

    -- the sum as the code computes it
    pub sum_is : length code ≤ 33554432 → ((k : ℕ) → u1 code k < 256) → to_z w32 (of_z w32 instr.second) +ℤ to_z w32 k ≡ instr.second +ℤ pos k
    sum_is small bytes =
        let second : to_z w32 (of_z w32 instr.second) ≡ instr.second = to_z-of_z (second_fits bytes) in
        let index : to_z w32 k ≡ pos k = to_z_pos w32 (omega (arith, table_is.inside, small)) in
        cc

-- what is read as a word is that number
pub word_is : (z : ℤ) → mag z < 2147483648 → to_z w32 (of_z w32 z) ≡ z
word_is z h = to_z-of_z {w = w32} (record { sfits = h })

-- the form of an entry that isn't a `lookupswitch`
pub not_lookup : (form : FormCode) → (form ≡ forms.LookupSwitch → ⊥) → entry_form form ≡ LookupSwitch → ⊥
not_lookup forms.NotAnOpcode other e = cc
not_lookup (forms.Fixed o) other e = cc
not_lookup (forms.Widened o w) other e = cc
not_lookup forms.TableSwitch other e = cc
not_lookup forms.LookupSwitch other e = other refl
not_lookup forms.Wide other e = cc
