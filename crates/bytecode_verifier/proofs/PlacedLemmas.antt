-- A program that has typings, and whose exception tables are in their form, is well placed.
use Rattle.std.proofs.Common.{◌≡◌, ℕ, ◌+◌, ◌<◌, ◌≤◌, Bool, true, false, not, List, [], ◌∷◌, ◌⊎◌, length, map, Contains, Option, Some, None, Result, Ok, Err, refl, sym, ap, ◌∙◌, subst, inl, inr, arith}
use Rattle.std.specs.Prelude.{◌&&◌, ◌||◌, ◌==◌, nat_le, nat_lt, sum_by, IfSome, IsTrue, T, ℤ, pos, negsuc, ◌+ℤ◌, ◌<ℤ◌, int_le, int_lt, slice_get, slice_index}
use Rattle.std.specs.Int.Signed.{lt_z_yes}
use Rattle.std.specs.List.{list_all, AllByRecursion}
use Rattle.std.proofs.lemmas.Bool.{leb-true, ltb-true}
use Rattle.std.proofs.lemmas.Option.{slice_get_within}
use Rattle.std.proofs.lemmas.List.Sums.{sum_by-cons}
use Rattle.opcodes.specs.declared.instruction.Instr.{Instr}
use Rattle.opcodes.specs.declared.instruction.Case.{Case}
use Rattle.opcodes.specs.declared.instruction.DecodeFault.{DecodeFault}
use Rattle.opcodes.specs.Instruction.{decoded}
use Rattle.opcodes.specs.Start.{IsStart, starts_of, AreStarts}
use Rattle.lists.specs.Lists.{onto}
use Rattle.lists.proofs.Lemmas.{none≢some, onto_some}
use Rattle.lists.specs.Members.{cons_cases, nil_contains}
use Rattle.bytecode_model.specs.Lists.{natural}
use Rattle.bytecode_model.specs.Types.{IntType, LongType, Declared, Numeric, Reference, Moved, Numbers, References}
use Rattle.bytecode_model.specs.Program.{Program, Method, Body, body_of, instr_at, as_instr}
use Rattle.bytecode_model.specs.Rows as rows
use Rattle.bytecode_model.specs.Rows.{Row}
use Rattle.bytecode_model.specs.Table.{row_of}
use Rattle.bytecode_model.specs.Steps.{taken_types, row_in}
use Rattle.bytecode_typing.specs.Tests.{Holds}
use Rattle.bytecode_typing.specs.Types.{VarType, TypeFrame, is_reference_type, type_words, type_of, moved_words, stack_words}
use Rattle.bytecode_typing.specs.Assignable.{flows_to}
use Rattle.bytecode_typing.specs.Rules as rule
use Rattle.bytecode_typing.specs.Rules.{Checked, on_reference}
use Rattle.bytecode_typing.specs.Checks.{frame_at, reaches, row_check}
use Rattle.bytecode_typing.specs.Walk as walk
use Rattle.bytecode_typing.specs.Walk.{Passes, on_frame, merges, falls_through, is_formed, rises_from, keys_rise, has_words, on_row, on_instr, verdict_at, first_types}
use Rattle.bytecode_typing.specs.Typed.{Typing, IsChecked}
use Rattle.bytecode_typing.specs.Typings.{IsTypingOf, IsTyping, HasMapFrames, HaveTypings}
use Rattle.bytecode_typing.proofs.Relations.{both_left, both_right, is_true, there_at, onto_is}
use Rattle.bytecode_typing.proofs.Hierarchy.{equal, equal_in}
use Rattle.bytecode_typing.proofs.Pairs.{need_checked, found_checked}
use Rattle.bytecode_typing.proofs.TypedWalks.{IsPassed, passed, numbers_checked, unless_passed}
use Rattle.bytecode_typing.specs.WellPlaced.{goes_on, offsets_of, LeadsToInstruction, local_words, HasItsOperand, RiseFrom, KeysRise, declared_words, argument_words, HasItsForm, IsWellPlacedAt, IsWellPlacedHandler, IsWellPlacedCode, WellPlaced}

-- ---- the form of an instruction

less_is : (a b : ℤ) → Holds (int_lt a b) → a <ℤ b
less_is a b h = lt_z_yes (subst T (sym (is_true (int_lt a b) h)) tt)

rise_from : (key : ℤ) (cases : List Case) → Holds (rises_from key cases) → RiseFrom key cases
rise_from key [] h = tt
rise_from key (c ∷ cs) h = (less_is key c.key (both_left (int_lt key c.key) _ h), rise_from c.key cs (both_right (int_lt key c.key) _ h))

keys : (cases : List Case) → Holds (keys_rise cases) → KeysRise cases
keys [] h = tt
keys (c ∷ cs) h = rise_from c.key cs h

range_is : (op count : ℕ) → Holds (not (op == 170) || nat_lt 0 count) → op ≡ 170 → 0 < count
range_is op count h e = by (op == 170) (is_true (op == 170) (equal_in op 170 e)) h
  where
    by : (t : Bool) → t ≡ true → Holds (not t || nat_lt 0 count) → 0 < count
    by true f h = ltb-true 0 count (is_true (nat_lt 0 count) h)
    by false f h = absurd (let g : false ≡ true = f in cc)

words_of_type : (d : Declared) → type_words (type_of d) ≡ declared_words d
words_of_type (Numeric IntType) = refl
words_of_type (Numeric LongType) = refl
words_of_type (Reference k) = refl

words_of_types : (ds : List Declared) → sum_by type_words (map type_of ds) ≡ sum_by declared_words ds
words_of_types [] = refl
words_of_types (d ∷ ds) =
    omega (arith, words_of_types ds, words_of_type d, sum_by-cons type_words (type_of d) (map type_of ds), sum_by-cons declared_words d ds)

number_is : (words : ℕ) (n : ℤ) → Holds (int_le (pos words) n && int_le n (pos words)) → n ≡ pos words
number_is words (pos k) h =
    let a : words ≤ k = leb-true words k (is_true (nat_le words k) (both_left (nat_le words k) _ h)) in
    let b : k ≤ words = leb-true k words (is_true (nat_le k words) (both_right (nat_le words k) _ h)) in
    let same : k ≡ words = omega arith in ap pos same
number_is words (negsuc k) h = absurd h

count_is : (o : Option Method) (n : ℤ) → Holds (has_words o n) → IfSome o (λ k. n ≡ pos (argument_words k))
count_is None n h = tt
count_is (Some k) n h = number_is (walk.argument_words k) n h ∙ ap pos (words_of_types (taken_types k))

form_is : (P : Program) (b : Body) (pc : ℕ) (i : Instr) (row : Row) → Holds (is_formed P b.code pc i row) → HasItsForm P b pc i row
form_is P b pc i (rows.Switch default cases) h = (
  range_is i.op i.count (both_left (not (i.op == 170) || nat_lt 0 i.count) _ h),
  keys cases (both_right (not (i.op == 170) || nat_lt 0 i.count) _ h),
)
form_is P b pc i (rows.CallInterface named c) h = (
  count_is (slice_get P.methods c) i.second (both_left (has_words (slice_get P.methods c) i.second) _ h),
  equal (slice_index b.code (pc + 4)) 0 (both_right (has_words (slice_get P.methods c) i.second) _ h),
)
form_is P b pc i row h = tt

-- ---- control

falls_same : (row : Row) → falls_through (Some row) ≡ goes_on row
falls_same (rows.Jump offset) = refl
falls_same row = refl

within : (falls inside : Bool) → Holds (not falls || inside) → falls ≡ true → Holds inside
within true inside h e = h
within false inside h e = absurd (let f : false ≡ true = e in cc)

true_is : (b : Bool) → IsTrue b → b ≡ true
true_is true h = refl
true_is false h = h

reference_checked : (K : Option TypeFrame → Type 0) (st : List VarType) (go : VarType → List VarType → Checked) → IsChecked (on_reference st go) K → (t : VarType) × (rest : List VarType) × IsChecked (go t rest) K
reference_checked K [] go h = absurd h
reference_checked K (t ∷ st) go h = (t, st, (need_checked K (is_reference_type t) rule.Stack (go t st) h).1)

-- ---- what operands name

same_words : (sort : Moved) → moved_words sort ≡ local_words sort
same_words (Numbers IntType) = refl
same_words (Numbers LongType) = refl
same_words References = refl

locals_there : (sort : Moved) (k most : ℕ) → Holds (nat_le (k + moved_words sort) most) → k + local_words sort ≤ most
locals_there sort k most h = subst (λ w. k + w ≤ most) (same_words sort) (leb-true (k + moved_words sort) most (is_true (nat_le (k + moved_words sort) most) h))

module _ (P : Program) (n : ℕ) (m : Method) (b : Body) (maps : ℕ → Option TypeFrame) (map_frames : HasMapFrames m b maps) (pc : ℕ) (f : TypeFrame) where
  pub operand_there : (K : Option TypeFrame → Type 0) (row : Row) → IsChecked (row_check P n m b maps pc f row) K → HasItsOperand P b row
  operand_there K (rows.Load sort k) h = locals_there sort k b.max_locals (need_checked K (nat_le (k + moved_words sort) b.max_locals) rule.Operand _ h).0
  operand_there K (rows.Store sort k) h = locals_there sort k b.max_locals (need_checked K (nat_le (k + moved_words sort) b.max_locals) rule.Operand _ h).0
  operand_there K (rows.Increment k v) h =
      let l = (need_checked K (nat_le (k + 1) b.max_locals) rule.Operand _ h).0 in
      let e : k + 1 ≤ b.max_locals = leb-true (k + 1) b.max_locals (is_true (nat_le (k + 1) b.max_locals) l) in omega (arith, e)
  operand_there K (rows.GetStatic k) h = let x = found_checked K (slice_get P.statics k) rule.Operand _ h in slice_get_within P.statics k x.0 x.1
  operand_there K (rows.PutStatic k) h = let x = found_checked K (slice_get P.statics k) rule.Operand _ h in slice_get_within P.statics k x.0 x.1
  operand_there K (rows.GetField named owner k) h = let x = found_checked K (slice_get (P.fields owner) k) rule.Operand _ h in slice_get_within (P.fields owner) k x.0 x.1
  operand_there K (rows.PutField named owner k) h = let x = found_checked K (slice_get (P.fields owner) k) rule.Operand _ h in slice_get_within (P.fields owner) k x.0 x.1
  operand_there K (rows.CallStatic c) h = let x = found_checked K (slice_get P.methods c) rule.Operand _ h in slice_get_within P.methods c x.0 x.1
  operand_there K (rows.CallSpecial named c) h = let x = found_checked K (slice_get P.methods c) rule.Operand _ h in slice_get_within P.methods c x.0 x.1
  operand_there K (rows.CallVirtual named c) h = let x = found_checked K (slice_get P.methods c) rule.Operand _ h in slice_get_within P.methods c x.0 x.1
  operand_there K (rows.CallInterface named c) h = let x = found_checked K (slice_get P.methods c) rule.Operand _ h in slice_get_within P.methods c x.0 x.1
  operand_there K row h = tt

  -- ---- targets

  start_at : (g : TypeFrame) (q : ℕ) (o : Option TypeFrame) → maps q ≡ o → Holds (flows_to P g o) → IsStart b.code q
  start_at g q None e h = absurd h
  start_at g q (Some t) e h = (there_at (maps q) t (λ f. IsStart b.code q × (stack_words f.stack ≤ b.max_stack)) e (map_frames.frames q)).0

  leads_by : (g : TypeFrame) (z : ℤ) → Holds (flows_to P g (frame_at P n m b maps pc f (natural z))) → (place : ℕ) × (z ≡ pos place) × IsStart b.code place
  leads_by g (pos q) h = (q, refl, start_at g q (maps q) refl h)
  leads_by g (negsuc q) h = absurd h

  leads : (st : List VarType) (offset : ℤ) → Holds (reaches P n m b maps pc f st offset) → LeadsToInstruction b.code pc offset
  leads st offset h = leads_by (record f { stack = st }) (pos pc +ℤ offset) h

  all_lead : (st : List VarType) (cases : List Case) → Holds (list_all (λ c. reaches P n m b maps pc f st c.offset) cases) → AllByRecursion (LeadsToInstruction b.code pc) (map (λ c. c.offset) cases)
  all_lead st [] h = tt
  all_lead st (c ∷ cs) h = (leads st c.offset (both_left (reaches P n m b maps pc f st c.offset) _ h), all_lead st cs (both_right (reaches P n m b maps pc f st c.offset) _ h))

  pub targets_there : (K : Option TypeFrame → Type 0) (row : Row) → IsChecked (row_check P n m b maps pc f row) K → AllByRecursion (LeadsToInstruction b.code pc) (offsets_of row)
  targets_there K (rows.Branch taken test offset) h = let x = numbers_checked K taken f.stack _ h in (leads x.0 offset x.1.2, tt)
  targets_there K (rows.BranchSame wanted offset) h =
      let x = reference_checked K f.stack _ h in let y = reference_checked K x.1 _ x.2 in (leads y.1 offset y.2.2, tt)
  targets_there K (rows.BranchNull wanted offset) h = let x = reference_checked K f.stack _ h in (leads x.1 offset x.2.2, tt)
  targets_there K (rows.Jump offset) h = (leads f.stack offset h.2, tt)
  targets_there K (rows.Switch default cases) h =
      let x = numbers_checked K (IntType ∷ []) f.stack _ h in
      (leads x.0 default (both_left (reaches P n m b maps pc f x.0 default) _ x.1.2), all_lead x.0 cases (both_right (reaches P n m b maps pc f x.0 default) _ x.1.2))
  targets_there K row h = tt

-- ---- a method

module _ (P : Program) (n : ℕ) (m : Method) (b : Body) (maps : ℕ → Option TypeFrame) where
  -- an instruction that keeps the rules
  record Stands (pc : ℕ) : Type 0 where
    falling : Option TypeFrame
    frame : TypeFrame
    after : Option TypeFrame
    verdict : verdict_at P n m b maps pc falling ≡ Passes frame after

  stands : (pcs : List ℕ) (falling : Option TypeFrame) (fs : List (ℕ × TypeFrame)) (behind : Option TypeFrame) (pc : ℕ) → IsTypingOf P n m b maps pcs falling fs behind → Contains pcs pc → Stands pc
  stands [] falling [] behind pc h c = absurd (nil_contains pc c)
  stands [] falling (x ∷ xs) behind pc h c = absurd h
  stands (p ∷ ps) falling [] behind pc h c = absurd h
  stands (p ∷ ps) falling (x ∷ xs) behind pc h c = by (cons_cases p pc ps c) (λ d. stands ps h.1.0 xs behind pc h.1.2 d)
    where
      by : (p ≡ pc) ⊎ Contains ps pc → (Contains ps pc → Stands pc) → Stands pc
      by (inl e) later = subst Stands e (record { falling = falling; frame = x.1; after = h.1.0; verdict = h.1.1 })
      by (inr d) later = later d

  formed : (pc : ℕ) (falling : Option TypeFrame) (f : TypeFrame) (after : Option TypeFrame) → verdict_at P n m b maps pc falling ≡ Passes f after → (p : IsPassed P n m b maps pc falling f after) → Holds (is_formed P b.code pc p.instr p.row)
  formed pc falling f after e p =
      let e0 = ap (λ o. on_frame o rule.Flow (λ g. on_instr P n m b maps pc (instr_at P n pc) falling g)) p.incoming_is in
      let e1 = ap (λ o. on_instr P n m b maps pc o falling f) p.at_instr in
      let e2 : on_instr P n m b maps pc (Some p.instr) falling f ≡ Passes f after = sym e1 ∙ (sym e0 ∙ e) in
      let e3 = (unless_passed (p.instr.op == 171 || not (falls_through (row_of b.code p.instr (P.operand n pc))) || nat_lt (pc + p.instr.length) (length b.code)) rule.Flow _ f after e2).1 in
      let e4 = (unless_passed (merges P (maps pc) falling) rule.Merge _ f after e3).1 in
      let e5 : on_row P n m b maps pc f p.instr (Some p.row) ≡ Passes f after = sym (ap (λ o. on_row P n m b maps pc f p.instr o) p.at_row) ∙ e4 in
      (unless_passed (is_formed P b.code pc p.instr p.row) rule.Operand _ f after e5).0

  whole : body_of P n ≡ Some b → (pc : ℕ) (i : Instr) → instr_at P n pc ≡ Some i → decoded b.code pc ≡ Ok i
  whole eb pc i e = by (decoded b.code pc) refl (sym (ap (λ o. onto o (λ b. as_instr (decoded b.code pc))) eb) ∙ e)
    where
      by : (r : Result Instr DecodeFault) → decoded b.code pc ≡ r → as_instr r ≡ Some i → decoded b.code pc ≡ Ok i
      by (Ok j) e h = let is : j ≡ i = cc in e ∙ ap Ok is
      by (Err x) e h = absurd (none≢some i h)

  placed_at : AreStarts b.code → body_of P n ≡ Some b → HasMapFrames m b maps → (pc : ℕ) → IsStart b.code pc → Stands pc → IsWellPlacedAt P n b pc
  placed_at starts eb map_frames pc start s =
      let p = passed P n m b maps pc s.falling s.frame s.after s.verdict in
      let row : row_in P n pc ≡ Some (pc + p.instr.length, p.row) =
      onto_is (body_of P n) b _ (Some (pc + p.instr.length, p.row)) eb (onto_is (instr_at P n pc) p.instr _ (Some (pc + p.instr.length, p.row)) p.at_instr (onto_is (row_of b.code p.instr (P.operand n pc)) p.row _ (Some (pc + p.instr.length, p.row)) p.at_row refl)) in
      let K : Option TypeFrame → Type 0 = λ o. o ≡ s.after in
      record {
        instr = p.instr;
        row = p.row;
        has_instr = p.at_instr;
        has_row = row;
        operand = operand_there P n m b maps map_frames pc s.frame K p.row p.check;
        form = form_is P b pc p.instr p.row (formed pc s.falling s.frame s.after s.verdict p);
        targets = targets_there P n m b maps map_frames pc s.frame K p.row p.check;
        behind = λ t.
            let inside = within (falls_through (Some p.row)) (nat_lt (pc + p.instr.length) (length b.code)) p.flow (falls_same p.row ∙ true_is (goes_on p.row) t) in
            starts.next pc p.instr start (whole eb pc p.instr p.at_instr) (ltb-true (pc + p.instr.length) (length b.code) (is_true (nat_lt (pc + p.instr.length) (length b.code)) inside));
      }

  placed_code : AreStarts b.code → body_of P n ≡ Some b → HasMapFrames m b maps → (fs : List (ℕ × TypeFrame)) → IsTyping P n m b maps fs → AllByRecursion (IsWellPlacedHandler b.code) b.handlers → IsWellPlacedCode P n b
  placed_code starts eb map_frames fs h table = record {
    not_empty = map_frames.code;
    instructions = λ pc start. placed_at starts eb map_frames pc start (stands (starts_of b.code) (first_types m b) fs h.behind pc h.typing start);
    handlers = table;
  }

pub programs_placed : ((code : List ℕ) → AreStarts code) → (P : Program) (maps : Typing) → HaveTypings P maps
    → ((n : ℕ) (m : Method) (b : Body) → slice_get P.methods n ≡ Some m → m.body ≡ Some b → AllByRecursion (IsWellPlacedHandler b.code) b.handlers) → WellPlaced P
programs_placed starts P maps have tables n b eb =
    let m = onto_some (slice_get P.methods n) (λ k. k.body) b eb in
    let h = have n m.0 b m.1 m.2 in
    placed_code P n m.0 b (maps n) (starts b.code) eb h.0 h.1.0 h.1.1 (tables n m.0 b m.1 m.2)
