-- A text gives one table, and then it is not refused.
use Rattle.std.proofs.Common.{◌≡◌, ℕ, suc, List, [], ◌∷◌, ◌++◌, length, Option, Some, None, refl, sym, ◌∙◌, ap, ap₂, subst, inl, inr, arith}
use Rattle.std.specs.Option.{option_to_list}
use Rattle.std.proofs.lemmas.List.{append_cancel_right}
use Rattle.lists.specs.Members.{heads, tails}
use Rattle.ascii_text.specs.Line.{lines_of}
use Rattle.slot_table.specs.declared.slot.Slot.{Slot}
use Rattle.slot_table.specs.declared.table.TableFault.{TableFault}
use Rattle.slot_table.specs.declared.table.TableFault.TheVariants as faults
use Rattle.name_laws.proofs.ReadBack.{alike_are_one}
use Rattle.slot_table.specs.Slots.{name_text, slot_word}
use Rattle.slot_table.specs.Grammar.{IsSilentLine, slot_line, IsSlotLine, SaysSlot, IsNoSlotLine, GiveSlots, IsSlotCount, IsTableRead, IsTableRefused}
use Rattle.slot_table.specs.Parts.{IsNameOf}
use Rattle.slot_table.specs.Laws.{GivesOne, ReadIsNotRefused, OneCause, ReadIsATable}
use Rattle.slot_table.proofs.Cuts.{one_cut}
use Rattle.slot_table.proofs.NameLemmas.{name_cut, same_text}
use Rattle.slot_table.proofs.Lines.{slot_parts, slot_name, one_parts}
use Rattle.slot_table.proofs.Reading.{are_right}
use Rattle.std.specs.Prelude.{codes}

-- ---- a line says one thing

one_name : (text class method class' method' : List ℕ) → IsNameOf text class method → IsNameOf text class' method' → (class ≡ class') × (method ≡ method')
one_name text class method class' method' n o =
    let cut = one_cut 46 text n.class_text (n.method_text ++ codes "()V") o.class_text (o.method_text ++ codes "()V") (name_cut text class method n) (name_cut text class' method' o) in
    let ends : n.method_text ≡ o.method_text = append_cancel_right n.method_text o.method_text (codes "()V") cut.1 in
    let a = n.class_is.text in
    let b = o.class_is.text in
    let c = n.method_is.text in
    let d = o.method_is.text in
    (same_text class class' a.fits.0 b.fits.0 (sym a.bytes_are ∙ cut.0 ∙ b.bytes_are), same_text method method' c.fits.0 d.fits.0 (sym c.bytes_are ∙ ends ∙ d.bytes_are))

same_slot : (s t : Slot) → s.class ≡ t.class → s.method ≡ t.method → s.length ≡ t.length → s ≡ t
same_slot s t class method long =
    ap₂ (λ (c m : List ℕ). let x : Slot = record { class = c; method = m; length = s.length } in x) class method
    ∙ ap (λ (n : ℕ). let x : Slot = record { class = t.class; method = t.method; length = n } in x) long

one_slot : (line : List ℕ) (s t : Slot) → IsSlotLine line s → IsSlotLine line t → s ≡ t
one_slot line s t x y =
    let parts = one_parts line (slot_word s) (slot_word t) s.length t.length (slot_parts line s x) (slot_parts line t y) in
    let same : name_text s ≡ name_text t = alike_are_one (name_text s) (name_text t) parts.0 in
    let names = one_name (name_text s) s.class s.method t.class t.method (slot_name s x.right) (subst (λ (n : List ℕ). IsNameOf n t.class t.method) (sym same) (slot_name t y.right)) in
    same_slot s t names.0 names.1 parts.1

not_silent : (line : List ℕ) (s : Slot) → IsSlotLine line s → IsSilentLine line → ⊥
not_silent line s x silent =
    let first : IsSilentLine (slot_line s) = subst IsSilentLine x.line_is silent in
    differ 115 refl first
  where
    differ : (letter : ℕ) → letter ≡ 115 → letter ≡ 35 → ⊥
    differ letter e f = omega arith

says_one : (line : List ℕ) (a b : Option Slot) → SaysSlot line a → SaysSlot line b → a ≡ b
says_one line None None x y = refl
says_one line None (Some t) x y = absurd (not_silent line t y x)
says_one line (Some s) None x y = absurd (not_silent line s x y)
says_one line (Some s) (Some t) x y = ap Some (one_slot line s t x y)

give_one : (lines : List (List ℕ)) (xs ys : List Slot) → GiveSlots lines xs → GiveSlots lines ys → xs ≡ ys
give_one [] xs ys x y = x ∙ sym y
give_one (line ∷ lines) xs ys (said, rest, is, says, give) (said', rest', is', says', give') =
    is ∙ (ap₂ (λ (o : Option Slot) (r : List Slot). option_to_list o ++ r) (says_one line said said' says says') (give_one lines rest rest' give give') ∙ sym is')

pub gives_one : GivesOne
gives_one text a b x y = give_one (lines_of text) a b x.given y.given

-- ---- it is not refused

-- what one of the lines says
said_at : (before : List (List ℕ)) (line : List ℕ) (after : List (List ℕ)) (slots : List Slot) → GiveSlots (before ++ line ∷ after) slots → (said : Option Slot) × SaysSlot line said
said_at [] line after slots (said, rest, is, says, give) = (said, says)
said_at (b ∷ before) line after slots (said, rest, is, says, give) = said_at before line after rest give

well_formed : (line : List ℕ) (said : Option Slot) → SaysSlot line said → IsNoSlotLine line → ⊥
well_formed line None s bad = bad.0 s
well_formed line (Some x) s bad = bad.1 x s

not_refused : (text : List ℕ) (slots : List Slot) (fault : TableFault) → IsTableRead text slots → IsTableRefused text fault → fault ≡ faults.NoMemory
not_refused text slots (faults.Line n) read (r, bad) =
    let said = said_at r.before r.line r.after slots (subst (λ (ls : List (List ℕ)). GiveSlots ls slots) r.lines read.given) in
    absurd (well_formed r.line said.0 said.1 bad)
not_refused text slots (faults.Count n) read m =
    let same : slots ≡ m.slots = give_one (lines_of text) slots m.slots read.given m.given in
    let count : length slots ≡ n = ap length same ∙ sym m.count_is in
    absurd (m.other (subst IsSlotCount count read.count))
not_refused text slots faults.NoMemory read u = refl

pub read_not_refused : ReadIsNotRefused
read_not_refused text slots fault read refused = not_refused text slots fault read refused

pub read_table : ReadIsATable
read_table text slots read = record { some = read.count.some; few = read.count.few; right = are_right (lines_of text) slots read.given }

-- ---- it is refused for one cause

-- the first line that is none of the grammar
same_place : (before before' : List (List ℕ)) (line line' : List ℕ) (after after' : List (List ℕ)) (slots slots' : List Slot) → before ++ line ∷ after ≡ before' ++ line' ∷ after' → GiveSlots before slots → GiveSlots before' slots'
    → IsNoSlotLine line → IsNoSlotLine line' → length before ≡ length before'
same_place [] [] line line' after after' slots slots' e g g' bad bad' = refl
same_place [] (b ∷ bs) line line' after after' slots slots' e g g' bad bad' =
    absurd (well_formed b g'.0 g'.3 (subst IsNoSlotLine (heads line b after (bs ++ line' ∷ after') e) bad))
same_place (b ∷ bs) [] line line' after after' slots slots' e g g' bad bad' =
    absurd (well_formed b g.0 g.3 (subst IsNoSlotLine (sym (heads b line' (bs ++ line ∷ after) after' e)) bad'))
same_place (b ∷ bs) (c ∷ cs) line line' after after' slots slots' e g g' bad bad' =
    ap suc (same_place bs cs line line' after after' g.1 g'.1 (tails b c (bs ++ line ∷ after) (cs ++ line' ∷ after') e) g.4 g'.4 bad bad')

one_line : (text : List ℕ) (m n : ℕ) → IsTableRefused text (faults.Line m) → IsTableRefused text (faults.Line n) → m ≡ n
one_line text m n (r, bad) (s, bad') =
    r.number_is ∙ ap suc (same_place r.before s.before r.line s.line r.after s.after r.slots s.slots (sym r.lines ∙ s.lines) r.given s.given bad bad') ∙ sym s.number_is

line_or_count : (text : List ℕ) (m n : ℕ) → IsTableRefused text (faults.Line m) → IsTableRefused text (faults.Count n) → ⊥
line_or_count text m n (r, bad) c =
    let said = said_at r.before r.line r.after c.slots (subst (λ (ls : List (List ℕ)). GiveSlots ls c.slots) r.lines c.given) in
    well_formed r.line said.0 said.1 bad

pub one_cause : OneCause
one_cause text (faults.Line m) (faults.Line n) x y = inr (inr (ap faults.Line (one_line text m n x y)))
one_cause text (faults.Line m) (faults.Count n) x y = absurd (line_or_count text m n x y)
one_cause text (faults.Line m) faults.NoMemory x y = inr (inl refl)
one_cause text (faults.Count m) (faults.Line n) x y = absurd (line_or_count text n m y x)
one_cause text (faults.Count m) (faults.Count n) x y = inr (inr (ap faults.Count (x.count_is ∙ ap length (give_one (lines_of text) x.slots y.slots x.given y.given) ∙ sym y.count_is)))
one_cause text (faults.Count m) faults.NoMemory x y = inr (inl refl)
one_cause text faults.NoMemory b x y = inl refl
