-- Which instructions leave the local variables as they are.
use Rattle.std.proofs.Common.{◌≡◌, ℕ, Bool, true, false, List, [], ◌∷◌, reverse, Option, Some, None, Ok, refl, sym, ap, ◌∙◌, subst}
use Rattle.std.specs.Prelude.{◌+◌, nat_le, slice_get}
use Rattle.std.specs.Option.{option_map}
use Rattle.opcodes.specs.declared.instruction.Instr.{Instr}
use Rattle.bytecode_model.specs.Types.{NumberType, IntType, Declared, Moved, OfClass}
use Rattle.bytecode_model.specs.Program.{Program, Method, Body, Operand}
use Rattle.bytecode_model.specs.Rows as rows
use Rattle.bytecode_model.specs.Rows.{Row}
use Rattle.bytecode_model.specs.Slots.{shuffle}
use Rattle.bytecode_model.specs.Table.{row_of}
use Rattle.bytecode_typing.specs.Types.{VarType, ReferenceTo, TypeFrame, type_of, is_long_type, is_reference_type, moved_words}
use Rattle.bytecode_typing.specs.Assignable.{is_assignable, is_assignable_item}
use Rattle.bytecode_typing.specs.Rules as rule
use Rattle.bytecode_typing.specs.Rules.{Rule, Checked, Fails, Leaves, need, found, on_type, on_reference, on_number_types, on_argument_types, is_number_type}
use Rattle.bytecode_typing.specs.Checks.{row_check, virtual_check, return_check, seen}
use Rattle.bytecode_typing.specs.Walk as walk
use Rattle.bytecode_typing.specs.Walk.{Verdict, unless_broken, handlers_hold, is_formed, has_room, settled, on_row}
use Rattle.bytecode_verifier.specs.declared.family.Family.{Family}
use Rattle.bytecode_verifier.specs.Family.{family_row, IsFamilyOf}
use Rattle.bytecode_verifier.specs.Plain.{plain}
use Rattle.bytecode_verifier.specs.Handled.{HaveSameLocals, keeps_locals}
use Rattle.bytecode_verifier.specs.Place.{behind}
use Rattle.bytecode_verifier.proofs.HeldLemmas.{same_held}

-- ---- by family

plain_keeps : (o : Option Row) → keeps_locals (option_map plain o) ≡ keeps_locals o
plain_keeps None = refl
plain_keeps (Some (rows.Push v)) = refl
plain_keeps (Some (rows.Compute taken given compute)) = refl
plain_keeps (Some (rows.Branch taken test offset)) = refl
plain_keeps (Some (rows.BranchSame wanted offset)) = refl
plain_keeps (Some (rows.BranchNull wanted offset)) = refl
plain_keeps (Some (rows.StoreNumber number codes kept)) = refl
plain_keeps (Some rows.Read) = refl
plain_keeps (Some r) = refl

pub keeps_as : (code : List ℕ) (i : Instr) (o : Operand) (f : Family) → IsFamilyOf i.op f → keeps_locals (row_of code i o) ≡ keeps_locals (family_row f code i o)
unfolding IsFamilyOf
keeps_as code i o f h = sym (plain_keeps (row_of code i o)) ∙ (ap keeps_locals (h code i o refl) ∙ plain_keeps (family_row f code i o))

-- ---- by row

-- the frame behind the instruction, if there is one, has the local variables of f
abbrev IsKept : TypeFrame → Checked → Type 0
IsKept f (Leaves (Some g) access init target) = HaveSameLocals f g
IsKept f c = Unit {0}

record Keeps (f : TypeFrame) (c : Checked) : Type 0 where
  kept : IsKept f c

module _ (f : TypeFrame) where
  leaves : (st : List VarType) (access init target : Bool) → Keeps f (Leaves (Some (record f { stack = st })) access init target)
  leaves st access init target = record { kept = (refl, refl) }

  stops : (access init target : Bool) → Keeps f (Leaves None access init target)
  stops access init target = record { kept = tt }

  fails : (r : Rule) → Keeps f (Fails r)
  fails r = record { kept = tt }

  when_needed : (b : Bool) (r : Rule) (c : Checked) → Keeps f c → Keeps f (need b r c)
  when_needed true r c h = h
  when_needed false r c h = fails r

  when_found : {A : Type 0} (o : Option A) (r : Rule) (go : A → Checked) → ((x : A) → Keeps f (go x)) → Keeps f (found o r go)
  when_found None r go h = fails r
  when_found (Some x) r go h = h x

  with_type : (st : List VarType) (go : VarType → List VarType → Checked) → ((t : VarType) (rest : List VarType) → Keeps f (go t rest)) → Keeps f (on_type st go)
  with_type [] go h = fails rule.Stack
  with_type (t ∷ rest) go h = h t rest

  with_reference : (st : List VarType) (go : VarType → List VarType → Checked) → ((t : VarType) (rest : List VarType) → Keeps f (go t rest)) → Keeps f (on_reference st go)
  with_reference [] go h = fails rule.Stack
  with_reference (t ∷ rest) go h = when_needed (is_reference_type t) rule.Stack (go t rest) (h t rest)

  with_numbers : (ns : List NumberType) (st : List VarType) (go : List VarType → Checked) → ((rest : List VarType) → Keeps f (go rest)) → Keeps f (on_number_types ns st go)
  with_numbers [] st go h = h st
  with_numbers (n ∷ ns) [] go h = fails rule.Stack
  with_numbers (n ∷ ns) (t ∷ rest) go h = when_needed (is_number_type n t) rule.Stack (on_number_types ns rest go) (with_numbers ns rest go h)

  with_arguments : (P : Program) (seen : VarType → VarType) (ds : List Declared) (st : List VarType) (go : List VarType → List VarType → Checked) → ((taken rest : List VarType) → Keeps f (go taken rest)) → Keeps f (on_argument_types P seen ds st go)
  with_arguments P seen [] st go h = h [] st
  with_arguments P seen (d ∷ ds) [] go h = fails rule.Stack
  with_arguments P seen (d ∷ ds) (t ∷ rest) go h =
      when_needed (is_assignable_item P (seen t) (type_of d)) rule.Stack (on_argument_types P seen ds rest (λ taken rest2. go (t ∷ taken) rest2)) (with_arguments P seen ds rest (λ taken rest2. go (t ∷ taken) rest2) (λ taken rest2. h (t ∷ taken) rest2))

module _ (P : Program) (n : ℕ) (m : Method) (b : Body) (frames : ℕ → Option TypeFrame) (pc : ℕ) (f : TypeFrame) where
  abbrev checks : Row → Checked
  checks r = row_check P n m b frames pc f r

  virtual_keeps : (named c : ℕ) → Keeps f (virtual_check P n m b frames pc f named c)
  virtual_keeps named c =
      when_found f (slice_get P.methods c) rule.Operand _ (λ k. with_arguments f P (seen P n m) (reverse k.parameters) f.stack _ (λ taken rest. with_type f rest _ (λ t rest2.
      when_needed f (is_assignable P (seen P n m t) (ReferenceTo (OfClass named))) rule.Stack _ (leaves f _ _ _ _))))

  return_keeps : (result : Option Declared) (given : Option Moved) → Keeps f (return_check P n m b frames pc f result given)
  return_keeps None None = stops f _ _ _
  return_keeps (Some d) (Some sort) = with_type f f.stack _ (λ t rest. when_needed f _ rule.Stack _ (stops f _ _ _))
  return_keeps None (Some sort) = fails f rule.Stack
  return_keeps (Some d) None = fails f rule.Stack

  row_keeps : (r : Row) → keeps_locals (Some r) ≡ true → Keeps f (checks r)
  row_keeps rows.Nothing h = leaves f _ _ _ _
  row_keeps (rows.Push v) h = leaves f _ _ _ _
  row_keeps (rows.Compute taken given compute) h = with_numbers f taken f.stack _ (λ rest. leaves f _ _ _ _)
  row_keeps (rows.Branch taken test offset) h = with_numbers f taken f.stack _ (λ rest. leaves f _ _ _ _)
  row_keeps (rows.BranchSame wanted offset) h = with_reference f f.stack _ (λ t rest. with_reference f rest _ (λ u rest2. leaves f _ _ _ _))
  row_keeps (rows.BranchNull wanted offset) h = with_reference f f.stack _ (λ t rest. leaves f _ _ _ _)
  row_keeps (rows.Jump offset) h = stops f _ _ _
  row_keeps (rows.Switch default cases) h = with_numbers f (IntType ∷ []) f.stack _ (λ rest. stops f _ _ _)
  row_keeps (rows.Load sort k) h = when_needed f (nat_le (k + moved_words sort) b.max_locals) rule.Operand _ (when_found f (slice_get f.locals k) rule.Operand _ (λ t. when_needed f _ rule.Stack _ (leaves f _ _ _ _)))
  row_keeps (rows.Store sort k) h = absurd cc
  row_keeps (rows.Increment k j) h = when_needed f (nat_le (k + 1) b.max_locals) rule.Operand _ (when_found f (slice_get f.locals k) rule.Operand _ (λ t. when_needed f _ rule.Stack _ (leaves f _ _ _ _)))
  row_keeps (rows.Shuffle form upper lower) h = when_found f (shuffle is_long_type form upper lower f.stack) rule.Stack _ (λ st. leaves f _ _ _ _)
  row_keeps (rows.GetStatic k) h = when_found f (slice_get P.statics k) rule.Operand _ (λ d. leaves f _ _ _ _)
  row_keeps (rows.PutStatic k) h = when_found f (slice_get P.statics k) rule.Operand _ (λ d. with_type f f.stack _ (λ t rest. when_needed f _ rule.Stack _ (leaves f _ _ _ _)))
  row_keeps (rows.GetField named owner k) h = when_found f (slice_get (P.fields owner) k) rule.Operand _ (λ d. with_type f f.stack _ (λ t rest. when_needed f _ rule.Stack _ (leaves f _ _ _ _)))
  row_keeps (rows.PutField named owner k) h =
      when_found f (slice_get (P.fields owner) k) rule.Operand _ (λ d. with_type f f.stack _ (λ t rest. with_type f rest _ (λ u rest2. when_needed f _ rule.Stack _ (leaves f _ _ _ _))))
  row_keeps (rows.New c) h = absurd cc
  row_keeps (rows.NewNumbers code) h = with_numbers f (IntType ∷ []) f.stack _ (λ rest. leaves f _ _ _ _)
  row_keeps (rows.NewReferences k) h = with_numbers f (IntType ∷ []) f.stack _ (λ rest. leaves f _ _ _ _)
  row_keeps rows.Length h = with_type f f.stack _ (λ t rest. when_needed f _ rule.Stack _ (leaves f _ _ _ _))
  row_keeps (rows.LoadNumber number codes) h = with_numbers f (IntType ∷ []) f.stack _ (λ rest. with_type f rest _ (λ t rest2. when_needed f _ rule.Stack _ (leaves f _ _ _ _)))
  row_keeps (rows.StoreNumber number codes kept) h = with_numbers f (number ∷ IntType ∷ []) f.stack _ (λ rest. with_type f rest _ (λ t rest2. when_needed f _ rule.Stack _ (leaves f _ _ _ _)))
  row_keeps rows.LoadReference h = with_numbers f (IntType ∷ []) f.stack _ (λ rest. with_type f rest _ (λ t rest2. when_found f _ rule.Stack _ (λ u. leaves f _ _ _ _)))
  row_keeps rows.StoreReference h =
      with_reference f f.stack _ (λ t rest. with_numbers f (IntType ∷ []) rest _ (λ rest2. with_type f rest2 _ (λ u rest3. when_needed f _ rule.Stack _ (leaves f _ _ _ _))))
  row_keeps (rows.Cast k) h = with_reference f f.stack _ (λ t rest. leaves f _ _ _ _)
  row_keeps (rows.Test k) h = with_reference f f.stack _ (λ t rest. leaves f _ _ _ _)
  row_keeps rows.Monitor h = with_reference f f.stack _ (λ t rest. leaves f _ _ _ _)
  row_keeps rows.Throw h = with_type f f.stack _ (λ t rest. when_needed f _ rule.Stack _ (stops f _ _ _))
  row_keeps (rows.CallStatic c) h = when_found f (slice_get P.methods c) rule.Operand _ (λ k. with_arguments f P (seen P n m) (reverse k.parameters) f.stack _ (λ taken rest. leaves f _ _ _ _))
  row_keeps (rows.CallSpecial named c) h = absurd cc
  row_keeps (rows.CallVirtual named c) h = virtual_keeps named c
  row_keeps (rows.CallInterface named c) h = virtual_keeps named c
  row_keeps (rows.Return given) h = return_keeps m.result given
  row_keeps rows.Read h = leaves f _ _ _ _
  row_keeps rows.Write h = with_numbers f (IntType ∷ []) f.stack _ (λ rest. leaves f _ _ _ _)

  -- ---- an instruction behind which control goes on

  abbrev unbroken_target : (target handled : Bool) → Option TypeFrame → Verdict
  unbroken_target target handled after = unless_broken target rule.Target (unless_broken handled rule.Handled (walk.Passes f after))

  abbrev unbroken_init : (init target handled : Bool) → Option TypeFrame → Verdict
  unbroken_init init target handled after = unless_broken init rule.Init (unbroken_target target handled after)

  abbrev unbroken_access : (access init target handled : Bool) → Option TypeFrame → Verdict
  unbroken_access access init target handled after = unless_broken access rule.Access (unbroken_init init target handled after)

  unbroken : (x : Bool) (r : Rule) (v : Verdict) (after : Option TypeFrame) → Ok after ≡ behind (unless_broken x r v) → (x ≡ true) × (Ok after ≡ behind v)
  unbroken true r v after e = (refl, e)
  unbroken false r v after e = absurd cc

  same_after : (after : Option TypeFrame) (g : TypeFrame) → Ok (Some g) ≡ behind (walk.Passes f after) → after ≡ Some g
  same_after after g e = cc

  settled_holds : (c : Checked) (g : TypeFrame) → Keeps f c → Ok (Some g) ≡ behind (settled P n m b frames pc f c) → handlers_hold P frames pc g b.handlers ≡ true
  settled_holds (Fails r) g k e = cc
  settled_holds (Leaves after access init target) g k e =
      let handled = handlers_hold P frames pc f b.handlers in
      let first = unbroken (has_room b after) rule.Stack (unbroken_access access init target handled after) (Some g) e in
      let second = unbroken access rule.Access (unbroken_init init target handled after) (Some g) first.1 in
      let third = unbroken init rule.Init (unbroken_target target handled after) (Some g) second.1 in
      let fourth = unbroken target rule.Target (unless_broken handled rule.Handled (walk.Passes f after)) (Some g) third.1 in
      let fifth = unbroken handled rule.Handled (walk.Passes f after) (Some g) fourth.1 in
      let same : HaveSameLocals f g = subst (λ o. IsKept f (Leaves o access init target)) (same_after after g fifth.1) k.kept in
      sym (same_held P frames pc f g b.handlers same) ∙ fifth.0

  pub held_behind : (i : Instr) (row : Option Row) (g : TypeFrame) → keeps_locals row ≡ true → Ok (Some g) ≡ behind (on_row P n m b frames pc f i row) → handlers_hold P frames pc g b.handlers ≡ true
  held_behind i None g k e = cc
  held_behind i (Some r) g k e =
      settled_holds (checks r) g (row_keeps r k) ((unbroken (is_formed P b.code pc i r) rule.Operand (settled P n m b frames pc f (checks r)) (Some g) e).1)
