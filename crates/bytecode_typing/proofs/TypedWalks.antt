-- A program whose methods have typings is typed.
use Rattle.std.proofs.Common.{◌≡◌, ℕ, zero, suc, ◌+◌, ◌<◌, ◌≤◌, Bool, true, false, not, List, [], ◌∷◌, ◌++◌, Option, Some, None, refl, sym, ap, ◌∙◌, subst, length, map, arith, Result, Ok, Err}
use Rattle.std.specs.Prelude.{◌&&◌, ◌||◌, ◌==◌, nat_lt, if◌then◌else◌, IfSome, slice_get, slice_index_or, ℤ, pos, ◌+ℤ◌}
use Rattle.std.specs.List.{list_all}
use Rattle.std.proofs.lemmas.Bool.{eqb-true, leb-true, ltb-true, lt-ltb}
use Rattle.opcodes.specs.declared.instruction.Instr.{Instr}
use Rattle.opcodes.specs.declared.instruction.DecodeFault.{DecodeFault}
use Rattle.opcodes.specs.Instruction.{decoded}
use Rattle.opcodes.specs.declared.instruction.Case.{Case}
use Rattle.opcodes.specs.Target.{WholeIsWithin, cases_of}
use Rattle.opcodes.specs.Start.{IsStart, starts_of, starts_from, first_start, next_start, place_behind, AreStarts}
use Rattle.bytecode_model.specs.Lists.{onto, natural}
use Rattle.bytecode_model.specs.Types.{NumberType, IntType, Declared, Moved, Kind, OfClass, OfNumbers, OfReferences}
use Rattle.bytecode_model.specs.Program.{Program, Method, Body, Handler, Operand, body_of, instr_at, as_instr, throwable_class}
use Rattle.bytecode_model.specs.Slots.{spread, padded}
use Rattle.bytecode_model.specs.Rows as rows
use Rattle.bytecode_model.specs.Rows.{Row}
use Rattle.bytecode_model.specs.Table.{row_of}
use Rattle.bytecode_model.specs.Steps.{row_in}
use Rattle.bytecode_typing.specs.Tests.{Holds, all_two}
use Rattle.bytecode_typing.specs.Types.{VarType, Top, Integer, LongInteger, NullReference, UninitializedThis, Uninitialized, ReferenceTo, TypeFrame, type_of, stack_words, is_long_type, is_reference_type, moves}
use Rattle.bytecode_typing.specs.Assignable.{is_assignable_kind, is_assignable, is_assignable_item, keeps_flag, flows_to}
use Rattle.bytecode_model.specs.Effects.{same_bool}
use Rattle.bytecode_typing.specs.Rules as rule
use Rattle.bytecode_typing.specs.Rules.{Rule, Checked, Fails, Leaves, need, on_type, on_reference, is_number_type, on_number_types}
use Rattle.bytecode_typing.specs.Checks.{with_types, frame_at, reaches, is_seen_for, is_seen_as, return_check, row_check}
use Rattle.bytecode_typing.specs.Walk.{Verdict, Breaks, Passes, unless_broken, on_frame, incoming, merges, falls_through, is_formed, has_room, caught_kind, is_throwable, covers, is_handled, handlers_hold, settled, on_row, on_instr, verdict_at, this_types, begins_uninitialized, first_types, Walked, walked}
use Rattle.bytecode_typing.specs.Typed.{Typing, IsChecked, GoesOn, IsTypedAt, IsTypedMethod, Typed}
use Rattle.bytecode_typing.specs.Typings.{IsTypingOf, IsTyping, frame_among, frames_of, typing_found, HasMapFrames, HaveTypings}
use Rattle.bytecode_typing.specs.Lawful.{Lawful}
use Rattle.bytecode_typing.proofs.Relations.{both_left, both_right, both_in, is_true, from_true, some_is, some_at, there_at, onto_is}
use Rattle.bytecode_typing.proofs.Hierarchy.{equal, equal_in, or_right}
use Rattle.bytecode_typing.proofs.Pairs.{need_checked}
use Rattle.bytecode_typing.proofs.Walking.{typing_walks}

-- ---- what passes

pub unless_passed : (t : Bool) (r : Rule) (v : Verdict) (f : TypeFrame) (a : Option TypeFrame) → unless_broken t r v ≡ Passes f a → Holds t × (v ≡ Passes f a)
unless_passed true r v f a e = (tt, e)
unless_passed false r v f a e = absurd (cc)

-- a `lookupswitch` (171) doesn't fall through
lookups_stay : (code : List ℕ) (i : Instr) (operand : Operand) (r : Row) → row_of code i operand ≡ Some r → (i.op == 171) ≡ true → falls_through (Some r) ≡ false
unfolding row_of
lookups_stay code i operand r e t =
    let j : Instr = record i { op = 171 } in
    let same : i ≡ j = ap (λ (k : ℕ). record i { op = k }) (eqb-true i.op 171 t) in
    by (natural i.second) (ap (λ (l : Instr). row_of code l operand) (sym same) ∙ e)
  where
    by : (o : Option ℕ) → onto o (λ pairs. Some (rows.Switch i.first (cases_of code (record i { op = 171 })))) ≡ Some r → falls_through (Some r) ≡ false
    by None h = absurd (cc)
    by (Some k) h = let is : rows.Switch i.first (cases_of code (record i { op = 171 })) ≡ r = cc in ap (λ (q : Row). falls_through (Some q)) (sym is)

stays_within : (lookup falls within : Bool) → (lookup ≡ true → falls ≡ false) → Holds (lookup || not falls || within) → Holds (not falls || within)
stays_within true falls within stays h = subst (λ (b : Bool). Holds (not b || within)) (sym (stays refl)) tt
stays_within false falls within stays h = h

abbrev frame_in : TypeFrame → Verdict → TypeFrame
frame_in g (Breaks r) = g
frame_in g (Passes f a) = f

abbrev after_in : Option TypeFrame → Verdict → Option TypeFrame
after_in o (Breaks r) = o
after_in o (Passes f a) = a

module _ (P : Program) (n : ℕ) (m : Method) (b : Body) (maps : ℕ → Option TypeFrame) where
  pub record IsPassed (pc : ℕ) (falling : Option TypeFrame) (f : TypeFrame) (after : Option TypeFrame) : Type 0 where
    pub incoming_is : incoming (maps pc) falling ≡ Some f
    pub instr : Instr
    pub at_instr : instr_at P n pc ≡ Some instr
    pub row : Row
    pub at_row : row_of b.code instr (P.operand n pc) ≡ Some row
    pub flow : Holds (not (falls_through (Some row)) || nat_lt (pc + instr.length) (length b.code))
    pub merge : Holds (merges P (maps pc) falling)
    pub check : IsChecked (row_check P n m b maps pc f row) (λ o. o ≡ after)
    pub room : Holds (has_room b after)
    pub handlers : Holds (handlers_hold P maps pc f b.handlers)

  record IsSettled (pc : ℕ) (g : TypeFrame) (c : Checked) (f : TypeFrame) (after : Option TypeFrame) : Type 0 where
    same : g ≡ f
    check : IsChecked c (λ o. o ≡ after)
    room : Holds (has_room b after)
    handlers : Holds (handlers_hold P maps pc g b.handlers)

  settled_passed : (pc : ℕ) (g : TypeFrame) (c : Checked) (f : TypeFrame) (after : Option TypeFrame) → settled P n m b maps pc g c ≡ Passes f after → IsSettled pc g c f after
  settled_passed pc g (Fails r) f after e = absurd (cc)
  settled_passed pc g (Leaves o access init target) f after e =
      let (h0, e0) = unless_passed (has_room b o) rule.Stack _ f after e in
      let (h1, e1) = unless_passed access rule.Access _ f after e0 in
      let (h2, e2) = unless_passed init rule.Init _ f after e1 in
      let (h3, e3) = unless_passed target rule.Target _ f after e2 in
      let (h4, e4) = unless_passed (handlers_hold P maps pc g b.handlers) rule.Handled _ f after e3 in
      let is : o ≡ after = ap (after_in o) e4 in
      record {
        same = ap (frame_in g) e4;
        check = (h1, h2, h3, is);
        room = subst (λ o. Holds (has_room b o)) is h0;
        handlers = h4;
      }

  pub passed : (pc : ℕ) (falling : Option TypeFrame) (f : TypeFrame) (after : Option TypeFrame) → verdict_at P n m b maps pc falling ≡ Passes f after → IsPassed pc falling f after
  passed pc falling f after e = by_frame (incoming (maps pc) falling) refl e
    where
      by_row : (g : TypeFrame) (i : Instr) (o : Option Row) → incoming (maps pc) falling ≡ Some g → instr_at P n pc ≡ Some i → row_of b.code i (P.operand n pc) ≡ o → Holds (i.op == 171 || not (falls_through o) || nat_lt (pc + i.length) (length b.code)) → Holds (merges P (maps pc) falling) → on_row P n m b maps pc g i o ≡ Passes f after → IsPassed pc falling f after
      by_row g i None ei er eo fl mg e = absurd (cc)
      by_row g i (Some r) ei er eo fl mg e =
          let (h, e2) = unless_passed (is_formed P b.code pc i r) rule.Operand _ f after e in
          let s = settled_passed pc g (row_check P n m b maps pc g r) f after e2 in
          subst (λ g. IsPassed pc falling g after) s.same (record {
            incoming_is = ei;
            instr = i;
            at_instr = er;
            row = r;
            at_row = eo;
            flow = stays_within (i.op == 171) (falls_through (Some r)) (nat_lt (pc + i.length) (length b.code)) (lookups_stay b.code i (P.operand n pc) r eo) fl;
            merge = mg;
            check = s.check;
            room = s.room;
            handlers = s.handlers;
          })

      by_instr : (g : TypeFrame) (o : Option Instr) → incoming (maps pc) falling ≡ Some g → instr_at P n pc ≡ o → on_instr P n m b maps pc o falling g ≡ Passes f after → IsPassed pc falling f after
      by_instr g None ei er e = absurd (cc)
      by_instr g (Some i) ei er e =
          let (fl, e1) = unless_passed (i.op == 171 || not (falls_through (row_of b.code i (P.operand n pc))) || nat_lt (pc + i.length) (length b.code)) rule.Flow _ f after e in
          let (mg, e2) = unless_passed (merges P (maps pc) falling) rule.Merge _ f after e1 in
          by_row g i (row_of b.code i (P.operand n pc)) ei er refl fl mg e2

      by_frame : (o : Option TypeFrame) → incoming (maps pc) falling ≡ o → on_frame o rule.Flow (λ g. on_instr P n m b maps pc (instr_at P n pc) falling g) ≡ Passes f after → IsPassed pc falling f after
      by_frame None ei e = absurd (cc)
      by_frame (Some g) ei e = by_instr g (instr_at P n pc) ei refl e

-- ---- a row that leaves a frame behind it falls through

pub numbers_checked : (K : Option TypeFrame → Type 0) (ns : List NumberType) (st : List VarType) (go : List VarType → Checked) → IsChecked (on_number_types ns st go) K → (rest : List VarType) × IsChecked (go rest) K
numbers_checked K [] st go h = (st, h)
numbers_checked K (u ∷ ns) [] go h = absurd h
numbers_checked K (u ∷ ns) (t ∷ st) go h = numbers_checked K ns st go (need_checked K (is_number_type u t) rule.Stack (on_number_types ns st go) h).1

type_checked : (K : Option TypeFrame → Type 0) (st : List VarType) (go : VarType → List VarType → Checked) → IsChecked (on_type st go) K → (t : VarType) × (rest : List VarType) × IsChecked (go t rest) K
type_checked K [] go h = absurd h
type_checked K (t ∷ st) go h = (t, st, h)

module _ (P : Program) (n : ℕ) (m : Method) (b : Body) (maps : ℕ → Option TypeFrame) (pc : ℕ) (f g : TypeFrame) where
  abbrev K : Option TypeFrame → Type 0
  K o = o ≡ Some g

  no_frame : (G : Type 0) → K None → G
  no_frame G e = absurd (cc)

  returns_none : (d : Option Declared) (given : Option Moved) → IsChecked (return_check P n m b maps pc f d given) K → ⊥
  returns_none None None h = no_frame ⊥ h.3
  returns_none None (Some sort) h = h
  returns_none (Some d) None h = h
  returns_none (Some d) (Some sort) h =
      let r = type_checked K f.stack _ h in no_frame ⊥ (need_checked K (moves sort r.0 && is_seen_for P n m b maps pc f d r.0) rule.Stack _ r.2).1.3

  pub falls : (row : Row) → IsChecked (row_check P n m b maps pc f row) K → falls_through (Some row) ≡ true
  falls (rows.Jump offset) h = no_frame _ h.3
  falls (rows.Switch default cases) h = no_frame _ (numbers_checked K (IntType ∷ []) f.stack _ h).1.3
  falls rows.Throw h = let r = type_checked K f.stack _ h in no_frame _ (need_checked K (is_seen_as P n m b maps pc f (OfClass throwable_class) r.0) rule.Stack _ r.2).1.3
  falls (rows.Return given) h = absurd (returns_none m.result given h)
  falls row h = refl

-- ---- every frame is assignable to itself

module _ (P : Program) (self : (c : ℕ) → Holds (P.extends c c)) where
  kind_self : (k : Kind) → Holds (is_assignable_kind P k k)
  kind_self (OfClass c) = or_right (P.is_interface c) _ (self c)
  kind_self (OfNumbers a) = equal_in a a refl
  kind_self (OfReferences k) = kind_self k

  type_self : (t : VarType) → Holds (is_assignable P t t)
  type_self Top = tt
  type_self Integer = tt
  type_self LongInteger = tt
  type_self NullReference = tt
  type_self UninitializedThis = tt
  type_self (Uninitialized q) = equal_in q q refl
  type_self (ReferenceTo k) = kind_self k

  bool_self : (x : Bool) → Holds (same_bool x x)
  bool_self true = tt
  bool_self false = tt

  flag_self : (x : Bool) → Holds (keeps_flag x x)
  flag_self true = tt
  flag_self false = tt

  types_self : (ts : List VarType) → Holds (all_two (is_assignable P) ts ts)
  types_self [] = tt
  types_self (t ∷ ts) = both_in (is_assignable P t t) _ (type_self t) (types_self ts)

  items_self : (ts : List VarType) → Holds (all_two (is_assignable_item P) ts ts)
  items_self [] = tt
  items_self (t ∷ ts) = both_in (is_assignable_item P t t) _ (both_in (is_assignable P t t) _ (type_self t) (bool_self (is_long_type t))) (items_self ts)

  pub frame_self : (f : TypeFrame) → Holds (flows_to P f (Some f))
  frame_self f = both_in (all_two (is_assignable P) f.locals f.locals && all_two (is_assignable_item P) f.stack f.stack) _ (both_in (all_two (is_assignable P) f.locals f.locals) _ (types_self f.locals) (items_self f.stack)) (flag_self f.flag)

  -- what falls in flows to the frame that stands there
  pub entered : (o : Option TypeFrame) (g f : TypeFrame) → incoming o (Some g) ≡ Some f → Holds (merges P o (Some g)) → Holds (flows_to P g (Some f))
  entered None g f e h = let is : g ≡ f = cc in subst (λ f. Holds (flows_to P g (Some f))) is (frame_self g)
  entered (Some t) g f e h = let is : t ≡ f = cc in subst (λ f. Holds (flows_to P g (Some f))) is h

-- ---- other frames for the targets, where the StackMapTable's are among them

module _ (P : Program) (n : ℕ) (m : Method) (b : Body) (maps frames : ℕ → Option TypeFrame) (agree : (q : ℕ) (t : TypeFrame) → maps q ≡ Some t → frames q ≡ Some t) (pc : ℕ) (f : TypeFrame) where
  same_flow : (g : TypeFrame) (q : ℕ) (o : Option TypeFrame) → maps q ≡ o → Holds (flows_to P g o) → Holds (flows_to P g (frames q))
  same_flow g q None e h = absurd h
  same_flow g q (Some t) e h = subst (λ o. Holds (flows_to P g o)) (sym (agree q t e)) h

  same_place : (g : TypeFrame) (o : Option ℕ) → Holds (flows_to P g (frame_at P n m b maps pc f o)) → Holds (flows_to P g (frame_at P n m b frames pc f o))
  same_place g None h = absurd h
  same_place g (Some q) h = same_flow g q (maps q) refl h

  same_reach : (st : List VarType) (offset : ℤ) → Holds (reaches P n m b maps pc f st offset) → Holds (reaches P n m b frames pc f st offset)
  same_reach st offset h = same_place (with_types P n m b frames pc f f.locals st) (natural (pos pc +ℤ offset)) h

  same_cases : (st : List VarType) (cases : List Case) → Holds (list_all (λ c. reaches P n m b maps pc f st c.offset) cases) → Holds (list_all (λ c. reaches P n m b frames pc f st c.offset) cases)
  same_cases st [] h = tt
  same_cases st (c ∷ cs) h =
      both_in (reaches P n m b frames pc f st c.offset) _ (same_reach st c.offset (both_left (reaches P n m b maps pc f st c.offset) _ h)) (same_cases st cs (both_right (reaches P n m b maps pc f st c.offset) _ h))

  -- the check of a row, by what it asks of its continuation
  numbers_in : (K : Option TypeFrame → Type 0) (ns : List NumberType) (st : List VarType) (go go2 : List VarType → Checked) → IsChecked (on_number_types ns st go) K → ((rest : List VarType) → IsChecked (go rest) K → IsChecked (go2 rest) K) → IsChecked (on_number_types ns st go2) K
  numbers_in K [] st go go2 h next = next st h
  numbers_in K (u ∷ ns) [] go go2 h next = absurd h
  numbers_in K (u ∷ ns) (t ∷ st) go go2 h next =
      let (a, l) = need_checked K (is_number_type u t) rule.Stack (on_number_types ns st go) h in need_in K (is_number_type u t) rule.Stack _ a (numbers_in K ns st go go2 l next)
    where
      need_in : (K : Option TypeFrame → Type 0) (x : Bool) (r : Rule) (c : Checked) → Holds x → IsChecked c K → IsChecked (need x r c) K
      need_in K true r c h g = g
      need_in K false r c h g = absurd h

  references_in : (K : Option TypeFrame → Type 0) (st : List VarType) (go go2 : VarType → List VarType → Checked) → IsChecked (on_reference st go) K → ((t : VarType) (rest : List VarType) → IsChecked (go t rest) K → IsChecked (go2 t rest) K) → IsChecked (on_reference st go2) K
  references_in K [] go go2 h next = absurd h
  references_in K (t ∷ st) go go2 h next = let (a, l) = need_checked K (is_reference_type t) rule.Stack (go t st) h in need_in K (is_reference_type t) rule.Stack (go2 t st) a (next t st l)
    where
      need_in : (K : Option TypeFrame → Type 0) (x : Bool) (r : Rule) (c : Checked) → Holds x → IsChecked c K → IsChecked (need x r c) K
      need_in K true r c h g = g
      need_in K false r c h g = absurd h

  pub same_check : (K : Option TypeFrame → Type 0) (row : Row) → IsChecked (row_check P n m b maps pc f row) K → IsChecked (row_check P n m b frames pc f row) K
  same_check K (rows.Branch taken test offset) h = numbers_in K taken f.stack _ _ h (λ rest c. (c.0, c.1, same_reach rest offset c.2, c.3))
  same_check K (rows.BranchSame wanted offset) h = references_in K f.stack _ _ h (λ t rest c. references_in K rest _ _ c (λ u rest2 c. (c.0, c.1, same_reach rest2 offset c.2, c.3)))
  same_check K (rows.BranchNull wanted offset) h = references_in K f.stack _ _ h (λ t rest c. (c.0, c.1, same_reach rest offset c.2, c.3))
  same_check K (rows.Jump offset) h = (h.0, h.1, same_reach f.stack offset h.2, h.3)
  same_check K (rows.Switch default cases) h =
      numbers_in K (IntType ∷ []) f.stack _ _ h (λ rest c. (
        c.0,
        c.1,
        both_in (reaches P n m b frames pc f rest default) _ (same_reach rest default (both_left (reaches P n m b maps pc f rest default) _ c.2)) (same_cases rest cases (both_right (reaches P n m b maps pc f rest default) _ c.2)),
        c.3,
      ))
  same_check K row h = h

  pub same_handlers : (hs : List Handler) → Holds (handlers_hold P maps pc f hs) → Holds (handlers_hold P frames pc f hs)
  same_handlers [] h = tt
  same_handlers (x ∷ hs) h =
      both_in (if covers pc x then is_handled P frames f x else true) _ (one (covers pc x) (both_left (if covers pc x then is_handled P maps f x else true) _ h)) (same_handlers hs (both_right (if covers pc x then is_handled P maps f x else true) _ h))
    where
      one : (y : Bool) → Holds (if y then is_handled P maps f x else true) → Holds (if y then is_handled P frames f x else true)
      one false h = tt
      one true h =
          both_in (is_throwable P x.caught) _ (both_left (is_throwable P x.caught) _ h) (same_flow (record f { stack = ReferenceTo (caught_kind x.caught) ∷ [] }) x.target (maps x.target) refl (both_right (is_throwable P x.caught) _ h))

-- ---- one method

abbrev stack_or : List VarType → Option TypeFrame → List VarType
stack_or st None = st
stack_or st (Some f) = f.stack

no_stack : (o : Option (List VarType)) (flag : Bool) (f : TypeFrame) → onto o (λ ls. Some (record { locals = ls; stack = []; flag = flag })) ≡ Some f → f.stack ≡ []
no_stack None flag f e = absurd (cc)
no_stack (Some ls) flag f e = ap (stack_or []) (sym e)

-- each of these frames stands at its place
abbrev pub AllAt : (ℕ → Option TypeFrame) → List (ℕ × TypeFrame) → Type 0
AllAt frames [] = Unit {0}
AllAt frames (x ∷ xs) = (frames x.0 ≡ Some x.1) × AllAt frames xs

-- the places rise from p on
abbrev pub Above : ℕ → List (ℕ × TypeFrame) → Type 0
Above p [] = Unit {0}
Above p (x ∷ xs) = (p ≤ x.0) × Above (suc x.0) xs

pub all_at : (xs : List (ℕ × TypeFrame)) (frames : ℕ → Option TypeFrame) (p : ℕ) → Above p xs → ((q : ℕ) → p ≤ q → frames q ≡ frame_among xs q) → AllAt frames xs
all_at [] frames p h same = tt
all_at (x ∷ xs) frames p h same = (
  same x.0 h.0 ∙ ap (λ (y : Bool). if y then Some x.1 else frame_among xs x.0) (is_true (x.0 == x.0) (equal_in x.0 x.0 refl)),
  all_at xs frames (suc x.0) h.1 (λ q l. same q (omega (arith, l, h.0)) ∙ ap (λ (y : Bool). if y then Some x.1 else frame_among xs q) (apart (x.0 == q) q l refl)),
)
  where
    apart : (y : Bool) (q : ℕ) → suc x.0 ≤ q → (x.0 == q) ≡ y → y ≡ false
    apart false q l e = refl
    apart true q l e = let is : x.0 ≡ q = equal x.0 q (from_true (x.0 == q) e) in absurd (omega (arith, l, is))

module _ (P : Program) (self : (c : ℕ) → Holds (P.extends c c)) (n : ℕ) (m : Method) (b : Body) (maps : ℕ → Option TypeFrame) (em : slice_get P.methods n ≡ Some m) (eb : m.body ≡ Some b) (map_frames : HasMapFrames m b maps) (are_starts : AreStarts b.code) (within : (pc : ℕ) → WholeIsWithin b.code pc) where
  abbrev Of : List ℕ → Option TypeFrame → List (ℕ × TypeFrame) → Option TypeFrame → Type 0
  Of pcs falling xs behind = IsTypingOf P n m b maps pcs falling xs behind

  body_is : body_of P n ≡ Some b
  body_is = onto_is (slice_get P.methods n) m (λ k. k.body) (Some b) em eb

  whole : (pc : ℕ) (i : Instr) → instr_at P n pc ≡ Some i → decoded b.code pc ≡ Ok i
  whole pc i e = by_result (decoded b.code pc) refl (sym (onto_is (body_of P n) b (λ b. as_instr (decoded b.code pc)) (as_instr (decoded b.code pc)) body_is refl) ∙ e)
    where
      by_result : (r : Result Instr DecodeFault) → decoded b.code pc ≡ r → as_instr r ≡ Some i → decoded b.code pc ≡ Ok i
      by_result (Ok j) e h = let is : j ≡ i = cc in e ∙ ap Ok is
      by_result (Err x) e h = absurd (cc)

  -- the next start
  next_is : (pc : ℕ) (i : Instr) → decoded b.code pc ≡ Ok i → next_start b.code pc ≡ (if nat_lt (pc + i.length) (length b.code) then Some (pc + i.length) else None)
  next_is pc i e = ap (place_behind b.code pc) e

  -- what falls in at a place flows to the frame there
  goes : (most next : ℕ) (g : TypeFrame) (xs : List (ℕ × TypeFrame)) (behind : Option TypeFrame) (frames : ℕ → Option TypeFrame) → next < length b.code → length b.code ≤ next + most → Of (starts_from most b.code (Some next)) (Some g) xs behind → AllAt frames xs → Holds (flows_to P g (frames next))
  goes zero next g xs behind frames l fuel h at = absurd (omega (arith, l, fuel))
  goes (suc most) next g [] behind frames l fuel h at = absurd h
  goes (suc most) next g (y ∷ ys) behind frames l fuel h at =
      let p = passed P n m b maps next (Some g) y.1 h.1.0 h.1.1 in
      let e : frames next ≡ Some y.1 = ap frames (sym h.0) ∙ at.0 in
      subst (λ o. Holds (flows_to P g o)) (sym e) (entered P self (maps next) g y.1 p.incoming_is p.merge)

  -- the places rise
  rising : (most : ℕ) (place : Option ℕ) (falling : Option TypeFrame) (xs : List (ℕ × TypeFrame)) (behind : Option TypeFrame) (p : ℕ) → IfSome place (λ pc. p ≤ pc) → Of (starts_from most b.code place) falling xs behind → Above p xs
  rising zero place falling [] behind p l h = tt
  rising zero place falling (x ∷ xs) behind p l h = absurd h
  rising (suc most) None falling [] behind p l h = tt
  rising (suc most) None falling (x ∷ xs) behind p l h = absurd h
  rising (suc most) (Some pc) falling [] behind p l h = absurd h
  rising (suc most) (Some pc) falling (x ∷ xs) behind p l h =
      let q = passed P n m b maps pc falling x.1 h.1.0 h.1.1 in
      let d = whole pc q.instr q.at_instr in
      let more = (within pc q.instr d).not_empty in
      (subst (λ (y : ℕ). p ≤ y) (sym h.0) l, rising most (next_start b.code pc) h.1.0 xs behind (suc x.0) (subst (λ o. IfSome o (λ z. suc x.0 ≤ z)) (sym (next_is pc q.instr d)) (beyond (nat_lt (pc + q.instr.length) (length b.code)) q.instr h.0 more)) h.1.2)
    where
      beyond : (y : Bool) (i : Instr) → x.0 ≡ pc → 0 < i.length → IfSome (if y then Some (pc + i.length) else None) (λ z. suc x.0 ≤ z)
      beyond true i e more = omega (arith, e, more)
      beyond false i e more = tt

  -- a frame of the StackMapTable is the one that stands at its place
  map_stands : (pcs : List ℕ) (falling : Option TypeFrame) (xs : List (ℕ × TypeFrame)) (behind : Option TypeFrame) (frames : ℕ → Option TypeFrame) (q : ℕ) (t : TypeFrame) (k : ℕ) → slice_get pcs k ≡ Some q → maps q ≡ Some t → Of pcs falling xs behind → AllAt frames xs → frames q ≡ Some t
  map_stands [] falling xs behind frames q t k e em h at = absurd (cc)
  map_stands (pc ∷ pcs) falling [] behind frames q t k e em h at = absurd h
  map_stands (pc ∷ pcs) falling (x ∷ xs) behind frames q t (suc k) e em h at = map_stands pcs h.1.0 xs behind frames q t k e em h.1.2 at.1
  map_stands (pc ∷ pcs) falling (x ∷ xs) behind frames q t zero e em h at =
      let is : pc ≡ q = cc in
      let p = passed P n m b maps pc falling x.1 h.1.0 h.1.1 in
      let there : Some t ≡ Some x.1 = ap (λ (o : Option TypeFrame). incoming o falling) (sym em ∙ ap maps (sym is)) ∙ p.incoming_is in
      ap frames (sym is ∙ sym h.0) ∙ at.0 ∙ sym there

  -- each of these frames keeps the rules
  abbrev AllTyped : (ℕ → Option TypeFrame) → List (ℕ × TypeFrame) → Type 0
  AllTyped frames [] = Unit {0}
  AllTyped frames (x ∷ xs) = IsTypedAt P n m b frames x.0 x.1 × AllTyped frames xs

  abbrev IsRoomy : TypeFrame → Type 0
  IsRoomy g = stack_words g.stack ≤ b.max_stack

  roomy_in : (o falling : Option TypeFrame) (f : TypeFrame) → IfSome o IsRoomy → IfSome falling IsRoomy → incoming o falling ≡ Some f → IsRoomy f
  roomy_in None falling f h g e = there_at falling f IsRoomy e g
  roomy_in (Some t) falling f h g e = there_at (Some t) f IsRoomy e h

  roomy_after : (o : Option TypeFrame) → Holds (has_room b o) → IfSome o IsRoomy
  roomy_after None h = tt
  roomy_after (Some g) h = leb-true (stack_words g.stack) b.max_stack (is_true _ h)

  map_roomy : (pc : ℕ) (o : Option TypeFrame) → maps pc ≡ o → IfSome o (λ f. IsStart b.code pc × (stack_words f.stack ≤ b.max_stack)) → IfSome o IsRoomy
  map_roomy pc None e h = tt
  map_roomy pc (Some f) e h = h.1

  module _ (frames : ℕ → Option TypeFrame) (agree : (q : ℕ) (t : TypeFrame) → maps q ≡ Some t → frames q ≡ Some t) where
    after_goes : (most pc : ℕ) (i : Instr) (row : Row) (after : Option TypeFrame) (xs : List (ℕ × TypeFrame)) (behind : Option TypeFrame) → next_start b.code pc ≡ (if nat_lt (pc + i.length) (length b.code) then Some (pc + i.length) else None) → (after_ : (g : TypeFrame) → after ≡ Some g → falls_through (Some row) ≡ true) → Holds (not (falls_through (Some row)) || nat_lt (pc + i.length) (length b.code)) → length b.code ≤ pc + suc most → 0 < i.length → Of (starts_from most b.code (next_start b.code pc)) after xs behind → AllAt frames xs → GoesOn P frames (pc + i.length) after
    after_goes most pc i row None xs behind en fa fl fuel more h at = tt
    after_goes most pc i row (Some g) xs behind en fa fl fuel more h at =
        let lt : nat_lt (pc + i.length) (length b.code) ≡ true = is_true _ (subst (λ (y : Bool). Holds (not y || nat_lt (pc + i.length) (length b.code))) (fa g refl) fl) in
        let next : next_start b.code pc ≡ Some (pc + i.length) = en ∙ ap (λ (y : Bool). if y then Some (pc + i.length) else None) lt in
        let l = ltb-true (pc + i.length) (length b.code) lt in
        goes most (pc + i.length) g xs behind frames l (omega (arith, fuel, more)) (subst (λ o. Of (starts_from most b.code o) (Some g) xs behind) next h) at

    all_typed : (most : ℕ) (place : Option ℕ) (falling : Option TypeFrame) (xs : List (ℕ × TypeFrame)) (behind : Option TypeFrame) → IfSome falling IsRoomy → IfSome place (IsStart b.code) → IfSome place (λ pc. length b.code ≤ pc + most) → Of (starts_from most b.code place) falling xs behind → AllAt frames xs → AllTyped frames xs
    all_typed zero place falling [] behind r st fuel h at = tt
    all_typed zero place falling (x ∷ xs) behind r st fuel h at = absurd h
    all_typed (suc most) None falling [] behind r st fuel h at = tt
    all_typed (suc most) None falling (x ∷ xs) behind r st fuel h at = absurd h
    all_typed (suc most) (Some pc) falling [] behind r st fuel h at = absurd h
    all_typed (suc most) (Some pc) falling (x ∷ xs) behind r st fuel h at =
        let p = passed P n m b maps pc falling x.1 h.1.0 h.1.1 in
        let d = whole pc p.instr p.at_instr in
        let en = next_is pc p.instr d in
        let more = (within pc p.instr d).not_empty in
        let row_is : row_in P n pc ≡ Some (pc + p.instr.length, p.row) =
        onto_is (body_of P n) b _ (Some (pc + p.instr.length, p.row)) body_is (onto_is (instr_at P n pc) p.instr _ (Some (pc + p.instr.length, p.row)) p.at_instr (onto_is (row_of b.code p.instr (P.operand n pc)) p.row _ (Some (pc + p.instr.length, p.row)) p.at_row refl)) in
        let fa = λ (g : TypeFrame) (e : h.1.0 ≡ Some g). falls P n m b maps pc x.1 g p.row (change (row_check P n m b maps pc x.1 p.row) (λ o. o ≡ h.1.0) (λ o. o ≡ Some g) (λ o e2. e2 ∙ e) p.check) in
        let gone = after_goes most pc p.instr p.row h.1.0 xs behind en fa p.flow fuel more h.1.2 at.1 in
        let here : IsTypedAt P n m b frames pc x.1 = record {
          start = st;
          room = roomy_in (maps pc) falling x.1 (map_roomy pc (maps pc) refl (map_frames.frames pc)) r p.incoming_is;
          row = some_at (row_in P n pc) (pc + p.instr.length, p.row) _ row_is
              (same_check P n m b maps frames agree pc x.1 (GoesOn P frames (pc + p.instr.length)) p.row (change (row_check P n m b maps pc x.1 p.row) (λ o. o ≡ h.1.0) (GoesOn P frames (pc + p.instr.length)) (λ o e. subst (GoesOn P frames (pc + p.instr.length)) (sym e) gone) p.check));
          handlers = same_handlers P n m b maps frames agree pc x.1 b.handlers p.handlers;
        } in (
          subst (λ (q : ℕ). IsTypedAt P n m b frames q x.1) (sym h.0) here,
          all_typed most (next_start b.code pc) h.1.0 xs behind (roomy_after h.1.0 p.room)
              (subst (λ o. IfSome o (IsStart b.code)) (sym en) (start_next (nat_lt (pc + p.instr.length) (length b.code)) p.instr refl d))
              (subst (λ o. IfSome o (λ q. length b.code ≤ q + most)) (sym en) (fuel_next (nat_lt (pc + p.instr.length) (length b.code)) p.instr more)) h.1.2 at.1,
        )
      where
        change : (c : Checked) (K L : Option TypeFrame → Type 0) → ((o : Option TypeFrame) → K o → L o) → IsChecked c K → IsChecked c L
        change (Fails r) K L go h = absurd h
        change (Leaves o a i t) K L go h = (h.0, h.1, h.2, go o h.3)

        start_next : (y : Bool) (i : Instr) → nat_lt (pc + i.length) (length b.code) ≡ y → decoded b.code pc ≡ Ok i → IfSome (if y then Some (pc + i.length) else None) (IsStart b.code)
        start_next true i e d = are_starts.next pc i st d (ltb-true (pc + i.length) (length b.code) e)
        start_next false i e d = tt

        fuel_next : (y : Bool) (i : Instr) → 0 < i.length → IfSome (if y then Some (pc + i.length) else None) (λ q. length b.code ≤ q + most)
        fuel_next true i more = omega (arith, fuel, more)
        fuel_next false i more = tt

    -- so is the frame that is found at a place
    looked_up : (xs : List (ℕ × TypeFrame)) (pc : ℕ) → AllTyped frames xs → IfSome (frame_among xs pc) (IsTypedAt P n m b frames pc)
    looked_up [] pc h = tt
    looked_up (x ∷ xs) pc h = here (x.0 == pc) refl (looked_up xs pc h.1)
      where
        here : (y : Bool) → (x.0 == pc) ≡ y → IfSome (frame_among xs pc) (IsTypedAt P n m b frames pc) → IfSome (if y then Some x.1 else frame_among xs pc) (IsTypedAt P n m b frames pc)
        here true e r = subst (λ (q : ℕ). IsTypedAt P n m b frames q x.1) (equal x.0 pc (from_true (x.0 == pc) e)) h.0
        here false e r = r

  first_is : first_start b.code ≡ Some 0
  first_is = by_code (nat_lt 0 (length b.code)) (lt-ltb 0 (length b.code) map_frames.code)
    where
      by_code : (y : Bool) → y ≡ true → if◌then◌else◌ {A = Option ℕ} y (Some 0) None ≡ Some 0
      by_code true e = refl
      by_code false e = absurd (cc)

  starts_are : starts_of b.code ≡ starts_from (length b.code) b.code (Some 0)
  unfolding starts_of
  starts_are = ap (starts_from (length b.code) b.code) first_is

  at_index : (xs : List ℕ) (q k : ℕ) → k < length xs → slice_index_or xs k q ≡ q → slice_get xs k ≡ Some q
  at_index [] q k l e = absurd (omega arith)
  at_index (x ∷ xs) q zero l e = ap Some e
  at_index (x ∷ xs) q (suc k) l e = at_index xs q k (omega arith) e

  pub method_typed : (fs : List (ℕ × TypeFrame)) → IsTyping P n m b maps fs → IsTypedMethod P n m b (frame_among fs)
  method_typed fs h =
      let (ft, ef, u) = some_is (first_types m b) _ map_frames.first in
      let t0 = subst (λ (l : List ℕ). Of l (first_types m b) fs h.behind) starts_are h.typing in
      let t1 = subst (λ o. Of (starts_from (length b.code) b.code (Some 0)) o fs h.behind) ef t0 in
      let above = rising (length b.code) (Some 0) (Some ft) fs h.behind 0 (omega arith) t1 in
      let at = all_at fs (frame_among fs) 0 above (λ q l. refl) in
      let agree = λ (q : ℕ) (t : TypeFrame) (e : maps q ≡ Some t).
      stands q t e (there_at (maps q) t (λ f. IsStart b.code q × (stack_words f.stack ≤ b.max_stack)) e (map_frames.frames q)).0 at in
      let roomy : stack_words ft.stack ≤ b.max_stack = first_roomy ft ef in
      let typed = all_typed (frame_among fs) agree (length b.code) (Some 0) (Some ft) fs h.behind roomy (are_starts.first map_frames.code) (omega arith) t1 at in
      record {
        first = some_at (first_types m b) ft _ ef (goes (length b.code) 0 ft fs h.behind (frame_among fs) map_frames.code (omega arith) t1 at);
        places = λ pc. looked_up (frame_among fs) agree fs pc typed;
      }
    where
      stands : (q : ℕ) (t : TypeFrame) → maps q ≡ Some t → IsStart b.code q → AllAt (frame_among fs) fs → frame_among fs q ≡ Some t
      stands q t e (k, l, i) at = map_stands (starts_of b.code) (first_types m b) fs h.behind (frame_among fs) q t k (at_index (starts_of b.code) q k l i) e h.typing at

      first_roomy : (ft : TypeFrame) → first_types m b ≡ Some ft → stack_words ft.stack ≤ b.max_stack
      first_roomy ft e =
          let empty = no_stack (padded Top b.max_locals (spread is_long_type Top (this_types m ++ map type_of m.parameters))) (begins_uninitialized m) ft e in
          subst (λ (st : List VarType). stack_words st ≤ b.max_stack) (sym empty) (omega arith)

pub programs_typed : (P : Program) (maps : Typing) → Lawful P → P.linked ≡ true → HaveTypings P maps → ((code : List ℕ) → AreStarts code) → ((code : List ℕ) (pc : ℕ) → WholeIsWithin code pc) → Typed P (typing_found P maps)
programs_typed P maps law linked have are_starts within = record {
  methods = λ n m b em eb. one n m b em eb (have n m b em eb);
  quiet = λ unlinked. absurd (cc (linked, unlinked));
}
  where
    one : (n : ℕ) (m : Method) (b : Body) → slice_get P.methods n ≡ Some m → m.body ≡ Some b → HasMapFrames m b (maps n) × ((fs : List (ℕ × TypeFrame)) × IsTyping P n m b (maps n) fs) → IsTypedMethod P n m b (typing_found P maps n)
    one n m b em eb h =
        let fs = h.1.0 in
        let walks = typing_walks P n m b (maps n) fs h.1.1 in
        let at = λ (pc : ℕ). onto_is (slice_get P.methods n) m (λ m. onto m.body (λ b. frames_of (walked P n m b (maps n)) pc)) (frame_among fs pc) em (onto_is m.body b (λ b. frames_of (walked P n m b (maps n)) pc) (frame_among fs pc) eb (ap (λ (w : Walked). frames_of w pc) walks)) in
        let all : typing_found P maps n ≡ frame_among fs = λ i pc. at pc i in
        subst (IsTypedMethod P n m b) (sym all) (method_typed P law.self n m b (maps n) em eb h.0 (are_starts b.code) (within b.code) fs h.1.1)
