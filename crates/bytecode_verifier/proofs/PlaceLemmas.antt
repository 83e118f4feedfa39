-- What is found at a place, step by step.
use Rattle.std.proofs.Common.{◌≡◌, ℕ, Bool, true, false, ◌&&◌, List, [], ◌∷◌, ◌++◌, append_assoc, Option, Some, None, Result, Err, refl, sym, ap, ap₂, ◌∙◌, subst}
use Rattle.std.specs.Prelude.{IfSome, if◌then◌else◌}
use Rattle.opcodes.specs.declared.instruction.Instr.{Instr}
use Rattle.std.proofs.lemmas.List.{append-nil}
use Rattle.class_pool.specs.declared.class.ClassFile.{ClassFile}
use Rattle.bytecode_model.specs.Program.{Program, Method, Body, Handler, instr_at}
use Rattle.bytecode_model.specs.Rows.{Row}
use Rattle.bytecode_model.specs.Table.{row_of}
use Rattle.bytecode_typing.specs.Types.{VarType, ReferenceTo, TypeFrame}
use Rattle.bytecode_typing.specs.Assignable.{flows_to}
use Rattle.bytecode_typing.specs.Checks.{row_check}
use Rattle.bytecode_typing.specs.Rules as rule
use Rattle.bytecode_typing.specs.Walk as walk
use Rattle.bytecode_typing.specs.Walk.{Breaks, unless_broken, on_frame, on_instr, incoming, merges, is_formed, covers, handlers_hold, settled, on_row, instruction_verdict, verdict_at}
use Rattle.program_tables.specs.declared.operand.Instruction.{Instruction}
use Rattle.program_tables.specs.Meanings.{operand_seen}
use Rattle.program_tables.specs.Resolved.{resolved}
use Rattle.program_tables.specs.Resolving.{IsResolved}
use Rattle.verifier_types.specs.declared.frame.TypeFrame as codes
use Rattle.verifier_types.specs.Frame.{frame_seen}
use Rattle.verifier_types.specs.Locals.{HasListsOf, LocalTable}
use Rattle.bytecode_verifier.specs.declared.settle.Verdict as found
use Rattle.bytecode_verifier.specs.declared.maps.MapFrames.{MapFrames}
use Rattle.bytecode_verifier.specs.declared.rows.Checking.{Checking}
use Rattle.bytecode_verifier.specs.Checking.{IsAt}
use Rattle.bytecode_verifier.specs.Handled.{IsHeld}
use Rattle.bytecode_verifier.specs.Settled.{verdict_seen}
use Rattle.bytecode_verifier.specs.Place.{IsMethodOf, IsNamedAs, site_at, stays_within, behind}
use Rattle.bytecode_verifier.specs.Maps.{AreGiven, frames_at}
use Rattle.bytecode_verifier.specs.Plain.{check_found}
use Rattle.bytecode_verifier.proofs.TextLemmas.{operands_typed}

-- ---- the frames that are given, with the lists that there are

pub given_now : (ls : List (List VarType)) (maps : MapFrames) (given : ℕ → Option TypeFrame) → AreGiven ls maps given → (place : ℕ) → given place ≡ frames_at ls maps place
given_now ls maps given h place = h [] place ∙ ap (λ l. frames_at l maps place) (append-nil ls)

-- and with those that are added behind
pub given_behind : (t u : LocalTable) (maps : MapFrames) (given : ℕ → Option TypeFrame) → HasListsOf t u → AreGiven t.lists maps given → AreGiven u.lists maps given
given_behind t u maps given k h = λ more place. h (k.others ++ more) place ∙ ap (λ l. frames_at l maps place) (sym (ap (λ l. l ++ more) k.lists ∙ append_assoc t.lists k.others more))

pub method_behind : (t u : LocalTable) (c : Checking) (n : ℕ) (m : Method) (b : Body) (given : ℕ → Option TypeFrame) → HasListsOf t u → IsMethodOf t c n m b given → IsMethodOf u c n m b given
method_behind t u c n m b given k h = record {
  classes = k.classes ∙ h.classes;
  around = h.around;
  owner = h.owner;
  init = h.init;
  stands = h.stands;
  maps = given_behind t u c.maps.now given k h.maps;
  locals = h.locals;
  stack = h.stack;
  code = h.code;
  handlers = h.handlers;
  result = h.result;
}

-- ---- the instruction as a site

pub stands_at : (t : LocalTable) (c : Checking) (n : ℕ) (m : Method) (b : Body) (maps : ℕ → Option TypeFrame) (place : ℕ) (x : Instruction) → IsResolved c.program.now → IsMethodOf t c n m b maps → IsNamedAs c n place x → IsAt t c place x (site_at c n m b maps place)
stands_at t c n m b maps place x r h k = record {
  classes = h.classes;
  program = refl;
  around = record { program = ap resolved (sym h.around); owner = h.owner; init = h.init; number = sym h.stands };
  place = refl;
  maps = given_now t.lists c.maps.now maps h.maps;
  locals = h.locals;
  result = h.result;
  guarded = k.guarded;
  text = operands_typed c.program.now r n place (operand_seen x.operand) k.operand;
}

-- ---- handlers, by the frames that are given

pub same_handlers : (P : Program) (maps other : ℕ → Option TypeFrame) (pc : ℕ) (f : TypeFrame) (hs : List Handler) → ((p : ℕ) → maps p ≡ other p) → handlers_hold P maps pc f hs ≡ handlers_hold P other pc f hs
same_handlers P maps other pc f [] e = refl
same_handlers P maps other pc f (h ∷ hs) e =
    ap₂ (λ a b. a && b) (ap (λ x. if covers pc h then (walk.is_throwable P h.caught && flows_to P (record f { stack = ReferenceTo (walk.caught_kind h.caught) ∷ [] }) x) else true) (e h.target)) (same_handlers P maps other pc f hs e)

-- ---- the row, once the frame is known

pub not_formed : (P : Program) (n : ℕ) (m : Method) (b : Body) (maps : ℕ → Option TypeFrame) (pc : ℕ) (f : TypeFrame) (i : Instr) (o : Option Row) → IfSome o (λ r. false ≡ is_formed P b.code pc i r) → Breaks rule.Operand ≡ on_row P n m b maps pc f i o
not_formed P n m b maps pc f i None h = refl
not_formed P n m b maps pc f i (Some r) h = ap (λ x. unless_broken x rule.Operand (settled P n m b maps pc f (row_check P n m b maps pc f r))) h

pub formed : (c : Checking) (n : ℕ) (m : Method) (b : Body) (maps : ℕ → Option TypeFrame) (pc : ℕ) (f : TypeFrame) (i : Instr) (o : Option Row) → IfSome o (λ r. true ≡ is_formed (resolved c.program.now) b.code pc i r)
    → settled (resolved c.program.now) n m b maps pc f (check_found (site_at c n m b maps pc) f o) ≡ on_row (resolved c.program.now) n m b maps pc f i o
formed c n m b maps pc f i None h = refl
formed c n m b maps pc f i (Some r) h =
    ap (λ x. unless_broken x rule.Operand (settled (resolved c.program.now) n m b maps pc f (row_check (resolved c.program.now) n m b maps pc f r))) h

pub by_code : (P : Program) (code other : List ℕ) (pc : ℕ) (i : Instr) (o : Option Row) (x : Bool) → code ≡ other → IfSome o (λ r. x ≡ is_formed P other pc i r) → IfSome o (λ r. x ≡ is_formed P code pc i r)
by_code P code other pc i o x e h = subst (λ (l : List ℕ). IfSome o (λ r. x ≡ is_formed P l pc i r)) (sym e) h

-- where the lists stay as they are, the same is found with those before as with those behind
pub same_row : (t u : LocalTable) (c : Checking) (n pc : ℕ) (m : Method) (b : Body) (maps : ℕ → Option TypeFrame) (asked : Option ℕ) (frame : codes.TypeFrame) (v : found.Verdict) (after : TypeFrame) (i : Instr) (row : Option Row) → u ≡ t
    → (IsMethodOf u c n m b maps → IsHeld (resolved c.program.now) maps asked (Some (frame_seen u.lists frame)) b.handlers → verdict_seen v (frame_seen u.lists frame) after ≡ on_row (resolved c.program.now) n m b maps pc (frame_seen u.lists frame) i row)
    → IsMethodOf t c n m b maps → IsHeld (resolved c.program.now) maps asked (Some (frame_seen t.lists frame)) b.handlers → verdict_seen v (frame_seen t.lists frame) after ≡ on_row (resolved c.program.now) n m b maps pc (frame_seen t.lists frame) i row
same_row t u c n pc m b maps asked frame v after i row e h =
    subst (λ (w : LocalTable). IsMethodOf w c n m b maps → IsHeld (resolved c.program.now) maps asked (Some (frame_seen w.lists frame)) b.handlers → verdict_seen v (frame_seen w.lists frame) after ≡ on_row (resolved c.program.now) n m b maps pc (frame_seen w.lists frame) i row) e h

-- ---- the place

module _ (P : Program) (n : ℕ) (m : Method) (b : Body) (maps : ℕ → Option TypeFrame) (pc : ℕ) (falling : Option TypeFrame) where
  pub no_frame : None ≡ incoming (maps pc) falling → Err rule.Flow ≡ behind (verdict_at P n m b maps pc falling)
  no_frame e = ap (λ o. behind (on_frame o rule.Flow (λ f. on_instr P n m b maps pc (instr_at P n pc) falling f))) e

  pub no_instruction : (f : TypeFrame) → Some f ≡ incoming (maps pc) falling → None ≡ instr_at P n pc → Err rule.Operand ≡ behind (verdict_at P n m b maps pc falling)
  no_instruction f e d =
      ap (λ o. behind (on_instr P n m b maps pc o falling f)) d ∙ ap (λ o. behind (on_frame o rule.Flow (λ f. on_instr P n m b maps pc (instr_at P n pc) falling f))) e

  -- the instruction, with the frame before it
  pub with_instruction : (f : TypeFrame) (i : Instr) (v : Result (Option TypeFrame) rule.Rule) → Some f ≡ incoming (maps pc) falling → Some i ≡ instr_at P n pc → v ≡ behind (instruction_verdict P n m b maps pc i falling f) → v ≡ behind (verdict_at P n m b maps pc falling)
  with_instruction f i v e d h =
      h ∙ (ap (λ o. behind (on_instr P n m b maps pc o falling f)) d ∙ ap (λ o. behind (on_frame o rule.Flow (λ f. on_instr P n m b maps pc (instr_at P n pc) falling f))) e)

  -- the rules before those on operands
  pub merges_not : (f : TypeFrame) (i : Instr) → true ≡ stays_within b.code pc i (row_of b.code i (P.operand n pc)) → false ≡ merges P (maps pc) falling → Err rule.Merge ≡ behind (instruction_verdict P n m b maps pc i falling f)
  merges_not f i e d =
      ap (λ y. behind (unless_broken true rule.Flow (unless_broken y rule.Merge (on_row P n m b maps pc f i (row_of b.code i (P.operand n pc)))))) d
      ∙ ap (λ x. behind (unless_broken x rule.Flow (unless_broken (merges P (maps pc) falling) rule.Merge (on_row P n m b maps pc f i (row_of b.code i (P.operand n pc)))))) e

  pub goes_to_row : (f : TypeFrame) (i : Instr) (v : Result (Option TypeFrame) rule.Rule) → true ≡ stays_within b.code pc i (row_of b.code i (P.operand n pc)) → true ≡ merges P (maps pc) falling → v ≡ behind (on_row P n m b maps pc f i (row_of b.code i (P.operand n pc)))
      → v ≡ behind (instruction_verdict P n m b maps pc i falling f)
  goes_to_row f i v e d h =
      h
      ∙ (ap (λ y. behind (unless_broken true rule.Flow (unless_broken y rule.Merge (on_row P n m b maps pc f i (row_of b.code i (P.operand n pc)))))) d
      ∙ ap (λ x. behind (unless_broken x rule.Flow (unless_broken (merges P (maps pc) falling) rule.Merge (on_row P n m b maps pc f i (row_of b.code i (P.operand n pc)))))) e)

-- ---- the same by what is checked

module _ (t : LocalTable) (c : Checking) (n pc : ℕ) (m : Method) (b : Body) (maps : ℕ → Option TypeFrame) (falling map : Option TypeFrame) (h : IsMethodOf t c n m b maps) (e : map ≡ frames_at t.lists c.maps.now pc) where
  incoming_given : incoming map falling ≡ incoming (maps pc) falling
  incoming_given = ap (λ o. incoming o falling) (e ∙ sym (given_now t.lists c.maps.now maps h.maps pc))

  pub verdict_none : None ≡ incoming map falling → Err rule.Flow ≡ behind (verdict_at (resolved c.program.now) n m b maps pc falling)
  verdict_none k = no_frame (resolved c.program.now) n m b maps pc falling (k ∙ incoming_given)

  pub verdict_lost : (f : TypeFrame) → Some f ≡ incoming map falling → None ≡ instr_at (resolved c.program.now) n pc → Err rule.Operand ≡ behind (verdict_at (resolved c.program.now) n m b maps pc falling)
  verdict_lost f k d = no_instruction (resolved c.program.now) n m b maps pc falling f (k ∙ incoming_given) d

module _ (t : LocalTable) (c : Checking) (n pc : ℕ) (m : Method) (b : Body) (maps : ℕ → Option TypeFrame) (falling : Option TypeFrame) (f : TypeFrame) (x : Instruction) (map : Option TypeFrame) where
  abbrev pub row_there : Option Row
  row_there = row_of c.code.now x.instr (operand_seen x.operand)

  row_same : IsMethodOf t c n m b maps → operand_seen x.operand ≡ (resolved c.program.now).operand n pc → row_there ≡ row_of b.code x.instr ((resolved c.program.now).operand n pc)
  row_same h o = ap (λ (l : List ℕ). row_of l x.instr (operand_seen x.operand)) (sym h.code) ∙ ap (row_of b.code x.instr) o

  stays_same : (v : Bool) → IsMethodOf t c n m b maps → operand_seen x.operand ≡ (resolved c.program.now).operand n pc → v ≡ stays_within c.code.now pc x.instr row_there
      → v ≡ stays_within b.code pc x.instr (row_of b.code x.instr ((resolved c.program.now).operand n pc))
  stays_same v h o e = e ∙ (ap (λ (l : List ℕ). stays_within l pc x.instr row_there) (sym h.code) ∙ ap (stays_within b.code pc x.instr) (row_same h o))

  merges_same : (v : Bool) → IsMethodOf t c n m b maps → map ≡ frames_at t.lists c.maps.now pc → v ≡ merges (resolved t.classes) map falling → v ≡ merges (resolved c.program.now) (maps pc) falling
  merges_same v h e k = k ∙ (ap (λ (cs : List ClassFile). merges (resolved cs) map falling) h.classes ∙ ap (λ o. merges (resolved c.program.now) o falling) (e ∙ sym (given_now t.lists c.maps.now maps h.maps pc)))

  incoming_same : IsMethodOf t c n m b maps → map ≡ frames_at t.lists c.maps.now pc → Some f ≡ incoming map falling → Some f ≡ incoming (maps pc) falling
  incoming_same h e k = k ∙ ap (λ o. incoming o falling) (e ∙ sym (given_now t.lists c.maps.now maps h.maps pc))

  pub verdict_merge : IsMethodOf t c n m b maps → map ≡ frames_at t.lists c.maps.now pc → Some f ≡ incoming map falling → Some x.instr ≡ instr_at (resolved c.program.now) n pc → operand_seen x.operand ≡ (resolved c.program.now).operand n pc
      → true ≡ stays_within c.code.now pc x.instr row_there → false ≡ merges (resolved t.classes) map falling → Err rule.Merge ≡ behind (verdict_at (resolved c.program.now) n m b maps pc falling)
  verdict_merge h e k d o s g =
      with_instruction (resolved c.program.now) n m b maps pc falling f x.instr (Err rule.Merge) (incoming_same h e k) d
      (merges_not (resolved c.program.now) n m b maps pc falling f x.instr (stays_same true h o s) (merges_same false h e g))

  pub verdict_row : (v : Result (Option TypeFrame) rule.Rule) → IsMethodOf t c n m b maps → map ≡ frames_at t.lists c.maps.now pc → Some f ≡ incoming map falling → Some x.instr ≡ instr_at (resolved c.program.now) n pc → operand_seen x.operand ≡ (resolved c.program.now).operand n pc
      → true ≡ stays_within c.code.now pc x.instr row_there → true ≡ merges (resolved t.classes) map falling → v ≡ behind (on_row (resolved c.program.now) n m b maps pc f x.instr row_there)
      → v ≡ behind (verdict_at (resolved c.program.now) n m b maps pc falling)
  verdict_row v h e k d o s g r =
      with_instruction (resolved c.program.now) n m b maps pc falling f x.instr v (incoming_same h e k) d
      (goes_to_row (resolved c.program.now) n m b maps pc falling f x.instr v (stays_same true h o s) (merges_same true h e g) (r ∙ ap (λ y. behind (on_row (resolved c.program.now) n m b maps pc f x.instr y)) (row_same h o)))
