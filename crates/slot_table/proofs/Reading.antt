-- Lines read one by one.
use Rattle.std.proofs.Common.{◌≡◌, ℕ, ◌+◌, ◌≤◌, ◌<◌, ◌^◌, List, [], ◌∷◌, ◌++◌, length, append_assoc, append-nil, refl, sym, ◌∙◌, ap, subst, arith, Option, Some, None}
use Rattle.std.specs.Prelude.{Result, Ok, Err, IfOk, IfErr, OnOk}
use Rattle.std.specs.Option.{option_to_list}
use Rattle.std.specs.List.{slice_split}
use Rattle.std.proofs.lemmas.List.{length-append}
use Rattle.std.proofs.lemmas.List.Splits.{length-slice_split}
use Rattle.std.proofs.lemmas.List.Sums.{count_by-le-length}
use Rattle.std.specs.Prelude.{◌==◌}
use Rattle.ascii_text.specs.Line.{lines_of, without_empty_last}
use Rattle.slot_table.specs.declared.slot.Slot.{Slot}
use Rattle.slot_table.specs.declared.table.TableFault.{TableFault}
use Rattle.slot_table.specs.declared.table.TableFault.TheVariants as faults
use Rattle.slot_table.specs.Slots.{AreRightSlots}
use Rattle.slot_table.specs.Grammar.{SaysSlot, IsNoSlotLine, GiveSlots, IsSlotCount, IsTableRead, IsTableReadTo, IsTableRefused, Adds, SlotLineFails, CountFails}

-- ---- one line more

give_more : (done : List (List ℕ)) (line : List ℕ) (slots : List Slot) (said : Option Slot) → GiveSlots done slots → SaysSlot line said → GiveSlots (done ++ line ∷ []) (slots ++ option_to_list said)
give_more [] line slots said g s = (said, [], ap (λ (b : List Slot). b ++ option_to_list said) g ∙ sym (append-nil (option_to_list said)), s, refl)
give_more (x ∷ done) line slots said g s =
    (g.0, g.1 ++ option_to_list said, ap (λ (b : List Slot). b ++ option_to_list said) g.2 ∙ append_assoc (option_to_list g.0) g.1 (option_to_list said), g.3, give_more done line g.1 said g.4 s)

-- the lines of a text that are read, so many, and those that are left
pub record IsReadSoFar (text : List ℕ) (number : ℕ) (left : List (List ℕ)) (slots : List Slot) : Type 0 where
  pub done : List (List ℕ)
  pub lines : lines_of text ≡ done ++ left
  pub count : number ≡ length done
  pub given : GiveSlots done slots

pub at_first : (text : List ℕ) (left : List (List ℕ)) → left ≡ lines_of text → IsReadSoFar text 0 left []
at_first text left e = record { done = []; lines = sym e; count = refl; given = refl }

pub all_given : (text : List ℕ) (number : ℕ) (left : List (List ℕ)) (slots : List Slot) → IsReadSoFar text number left slots → left ≡ [] → GiveSlots (lines_of text) slots
all_given text number left slots r e = subst (λ (ls : List (List ℕ)). GiveSlots ls slots) (sym (r.lines ∙ ap (λ (l : List (List ℕ)). r.done ++ l) e ∙ append-nil r.done)) r.given

pub next_line : (text : List ℕ) (number : ℕ) (left rest : List (List ℕ)) (line : List ℕ) (slots more : List Slot) → IsReadSoFar text number left slots → left ≡ line ∷ rest → Adds line slots more → IsReadSoFar text (number + 1) rest more
next_line text number left rest line slots more r e a = record {
  done = r.done ++ line ∷ [];
  lines = r.lines ∙ ap (λ (l : List (List ℕ)). r.done ++ l) e ∙ sym (append_assoc r.done (line ∷ []) rest);
  count = let n = r.count in let long = length-append r.done (line ∷ []) in omega arith;
  given = subst (GiveSlots (r.done ++ line ∷ [])) (sym a.new_is) (give_more r.done line slots a.said r.given a.says);
}

-- ---- the number of lines, and of slots

shorter : (pieces : List (List ℕ)) → length (without_empty_last pieces) ≤ length pieces
shorter [] = omega arith
shorter ([] ∷ []) = omega arith
shorter ((x ∷ xs) ∷ []) = omega arith
shorter (piece ∷ next ∷ pieces) = omega (arith, shorter (next ∷ pieces))

few_lines : (text : List ℕ) → length (lines_of text) ≤ length text + 1
few_lines text =
    omega (arith, shorter (slice_split (λ byte. byte == 10) text), length-slice_split (λ byte. byte == 10) text, count_by-le-length (λ byte. byte == 10) text)

pub count_fits : (text : List ℕ) (number : ℕ) (left rest : List (List ℕ)) (line : List ℕ) (slots : List Slot) → IsReadSoFar text number left slots → left ≡ line ∷ rest → number ≤ length text
count_fits text number left rest line slots r e = omega (arith, few_lines text, r.count, ap length r.lines, length-append r.done left, ap length e)

one_said : (o : Option Slot) → length (option_to_list o) ≤ 1
one_said None = omega arith
one_said (Some s) = omega arith

few_slots : (lines : List (List ℕ)) (slots : List Slot) → GiveSlots lines slots → length slots ≤ length lines
few_slots [] slots g = let none = ap length g in omega arith
few_slots (line ∷ lines) slots g =
    let rest = few_slots lines g.1 g.4 in
    let all = ap length g.2 ∙ length-append (option_to_list g.0) g.1 in
    omega (arith, rest, all, one_said g.0)

pub slots_fit : (text : List ℕ) (slots : List Slot) → length text ≤ 33554432 → GiveSlots (lines_of text) slots → length slots < 2 ^ 32
slots_fit text slots small g = omega (arith, few_slots (lines_of text) slots g, few_lines text, small)

right_more : (o : Option Slot) (slots : List Slot) (line : List ℕ) → SaysSlot line o → AreRightSlots slots → AreRightSlots (option_to_list o ++ slots)
right_more None slots line s h = h
right_more (Some x) slots line s h = (s.right, h)

pub are_right : (lines : List (List ℕ)) (slots : List Slot) → GiveSlots lines slots → AreRightSlots slots
are_right [] slots g = subst AreRightSlots (sym g) tt
are_right (line ∷ lines) slots g = subst AreRightSlots (sym g.2) (right_more g.0 g.1 line g.3 (are_right lines g.1 g.4))

-- ---- what is refused

reached : (text : List ℕ) (number : ℕ) (left rest : List (List ℕ)) (line : List ℕ) (slots : List Slot) → IsReadSoFar text number left slots → left ≡ line ∷ rest → (r : IsTableReadTo text (number + 1)) × (r.line ≡ line)
reached text number left rest line slots r e = (
  record {
    before = r.done;
    line = line;
    after = rest;
    lines = r.lines ∙ ap (λ (l : List (List ℕ)). r.done ++ l) e;
    number_is = let n = r.count in omega arith;
    slots = slots;
    given = r.given;
  },
  refl,
)

pub line_refused : (text : List ℕ) (number : ℕ) (left rest : List (List ℕ)) (line : List ℕ) (slots : List Slot) → IsReadSoFar text number left slots → left ≡ line ∷ rest
    → (fault : TableFault) → SlotLineFails line (number + 1) fault → IsTableRefused text fault
line_refused text number left rest line slots r e (faults.Line n) h =
    let to = reached text number left rest line slots r e in
    subst (λ (k : ℕ). (r : IsTableReadTo text k) × IsNoSlotLine r.line) (sym h.0) (to.0, subst IsNoSlotLine (sym to.1) h.1)
line_refused text number left rest line slots r e (faults.Count n) h = absurd h
line_refused text number left rest line slots r e faults.NoMemory h = tt

count_case : (text : List ℕ) (slots : List Slot) → GiveSlots (lines_of text) slots → (fault : TableFault) → CountFails (length slots) fault → IsTableRefused text fault
count_case text slots g (faults.Line n) h = absurd h
count_case text slots g (faults.Count n) h =
    record { slots = slots; given = g; count_is = h.0; other = λ counted. h.1 (subst IsSlotCount h.0 counted) }
count_case text slots g faults.NoMemory h = absurd h

-- all lines are read, and their slots counted
pub text_read : (text : List ℕ) (slots : List Slot) (r : Result (List Slot) TableFault) → GiveSlots (lines_of text) slots → IfOk r (λ table. table ≡ slots) → OnOk r (IsSlotCount (length slots)) → IfOk r (IsTableRead text)
text_read text slots (Ok table) g same counted =
    record { given = subst (GiveSlots (lines_of text)) (sym same) g; count = subst (λ (s : List Slot). IsSlotCount (length s)) (sym same) counted }
text_read text slots (Err fault) g same counted = tt

pub text_refused : (text : List ℕ) (slots : List Slot) (r : Result (List Slot) TableFault) → GiveSlots (lines_of text) slots → IfErr r (CountFails (length slots)) → IfErr r (IsTableRefused text)
text_refused text slots (Ok table) g other = tt
text_refused text slots (Err fault) g other = count_case text slots g fault other
