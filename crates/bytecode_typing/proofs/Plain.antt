-- The rows of numbers, branches, local variables, operands, statics, input and output: the effect of each fits.
use Rattle.std.proofs.Common.{◌≡◌, ℕ, ◌+◌, Bool, true, false, List, [], ◌∷◌, Option, Some, None, refl, sym, ap, ◌∙◌, subst, length, arith}
use Rattle.std.specs.Prelude.{◌&&◌, nat_le, slice_get, if◌then◌else◌, ℤ, pos, negsuc, ◌+ℤ◌}
use Rattle.std.specs.Int.{w32, w64}
use Rattle.std.specs.List.{list_all}
use Rattle.std.proofs.lemmas.Int.{SFits-int_wrap, fits_signed_from_abs}
use Rattle.opcodes.specs.declared.instruction.Case.{Case}
use Rattle.bytecode_model.specs.declared.Value.{Value}
use Rattle.bytecode_model.specs.declared.Value.TheVariants.{Int, Long, Ref, Null, Unset}
use Rattle.bytecode_model.specs.Lists.{onto, replaced, natural}
use Rattle.bytecode_model.specs.Types.{NumberType, IntType, LongType, Kind, Declared, Moved, Numbers, is_moved, suits, is_long}
use Rattle.bytecode_model.specs.State.{Object, Frame, State}
use Rattle.bytecode_model.specs.Program.{Program, Limits, Method, Body, kind_of}
use Rattle.bytecode_model.specs.Numbers.{is_equal}
use Rattle.bytecode_model.specs.Slots.{shuffle, stored}
use Rattle.bytecode_model.specs.Rows as rows
use Rattle.bytecode_model.specs.Rows.{Row, FunctionOf, StackForm, Width}
use Rattle.bytecode_model.specs.Effects.{Effect, Go, ArithmeticException, fault, on, or_fault, only_if, number, same, same_bool, incremented, at_offset, branch, offset_of_key, effect}
use Rattle.bytecode_model.specs.Steps.{answered}
use Rattle.bytecode_model.specs.WellFormed.{AreSpaced, IsInput}
use Rattle.bytecode_typing.specs.Tests.{Holds, AllTwo}
use Rattle.bytecode_typing.specs.Types.{VarType, Top, Integer, NullReference, UninitializedThis, Uninitialized, ReferenceTo, TypeFrame, is_long_type, is_reference_type, number_type, type_of, moves, moved_words}
use Rattle.bytecode_typing.specs.Assignable.{flows_to}
use Rattle.bytecode_typing.specs.Rules as rule
use Rattle.bytecode_typing.specs.Checks.{seen, constant_type, reference_or_top, reaches, frame_at, with_types, is_seen_for, return_check, row_check}
use Rattle.bytecode_typing.specs.Typed.{Typing, IsChecked, GoesOn}
use Rattle.bytecode_typing.specs.Fits.{Has, HasItem, HasDeclared, HasResult, numbers_of, may_be, BeginWith}
use Rattle.bytecode_typing.specs.Lawful.{Lawful, IsConstant}
use Rattle.bytecode_typing.proofs.Relations.{both_left, both_right, some_is, some_at, there_at, get_two, replaced_two, shuffle_two, onto_back}
use Rattle.bytecode_typing.proofs.Spaced.{to_spaced, from_spaced, stored_spaced, stored_length, stored_two, replaced_spaced}
use Rattle.bytecode_typing.proofs.Hierarchy.{is_may_be, is_of_self}
use Rattle.bytecode_typing.proofs.Values.{widen_item, to_declared, from_declared, item_seen, declared_suits, kept, wide, moved_long, moved_is}
use Rattle.bytecode_typing.proofs.Parts.{begin_at, kind_at}
use Rattle.bytecode_typing.proofs.Pairs.{need_checked, found_checked, IsGoing, EffectFits, arrive, top_fits, number_fits, numbers_fit, on_two}

-- null or a reference
abbrev pub IsRef : Value → Type 0
IsRef (Ref p) = Unit {0}
IsRef Null = Unit {0}
IsRef v = ⊥

pub reference_is : (P : Program) (n : ℕ) (m : Method) (ks : List ℕ) (t : VarType) (v : Value) → Holds (is_reference_type t) → Has P n m ks t v → IsRef v
reference_is P n m ks NullReference Null a h = tt
reference_is P n m ks NullReference v a h = absurd h
reference_is P n m ks UninitializedThis (Ref p) a h = tt
reference_is P n m ks UninitializedThis v a h = absurd h
reference_is P n m ks (Uninitialized q) (Ref p) a h = tt
reference_is P n m ks (Uninitialized q) v a h = absurd h
reference_is P n m ks (ReferenceTo k) Null a h = tt
reference_is P n m ks (ReferenceTo k) (Ref p) a h = tt
reference_is P n m ks (ReferenceTo k) v a h = absurd h
reference_is P n m ks t v a h = absurd a

pub same_known : (v w : Value) → IsRef v → IsRef w → (b : Bool) × (same v w ≡ Some b)
same_known (Ref p) (Ref q) h g = (_, refl)
same_known (Ref p) Null h g = (false, refl)
same_known Null (Ref q) h g = (false, refl)
same_known Null Null h g = (true, refl)
same_known v (Int i) h g = absurd g
same_known v (Long i) h g = absurd g
same_known v Unset h g = absurd g
same_known v w h g = absurd h

pub number_item : (P : Program) (n : ℕ) (m : Method) (ks : List ℕ) (given : NumberType) (x : ℤ) → HasItem P n m ks (number_type given) (number given x)
number_item P n m ks IntType x = (SFits-int_wrap w32 x, refl)
number_item P n m ks LongType x = (SFits-int_wrap w64 x, refl)

pub on_some : {A : Type 0} (G : Effect → Type 0) (o : Option A) (a : A) (go : A → Effect) → o ≡ Some a → G (go a) → G (on o go)
on_some G o a go e h = subst (λ o. G (on o go)) (sym e) h

pub only_so : (G : Effect → Type 0) (b : Bool) (e : Effect) → b ≡ true → G e → G (only_if b e)
only_so G b e is h = subst (λ b. G (only_if b e)) (sym is) h

-- the constant of a row
pub constant_item : (P : Program) (law : Lawful P) (n : ℕ) (m : Method) (os : List Object) (v : Value) → BeginWith P.first_objects os → IsConstant P v → HasItem P n m (numbers_of os) (constant_type P v) v
constant_item P law n m os (Int i) start h = (h, refl)
constant_item P law n m os (Long i) start h = (h, refl)
constant_item P law n m os Null start h = (tt, refl)
constant_item P law n m os Unset start h = absurd h
constant_item P law n m os (Ref p) start h =
    let (k, ek, u) = some_is (onto (slice_get P.first_objects p) (λ o. kind_of P o)) _ h in
    let (x, ex, kx) = onto_back (slice_get P.first_objects p) (λ o. kind_of P o) k ek in
    let (o, eo, same_kind) = begin_at P P.first_objects os p x start ex in
    let ko : kind_of P o ≡ Some k = ap (λ (t : ℕ). slice_get P.types t) same_kind ∙ kx in
    subst (λ (c : Option Kind). HasItem P n m (numbers_of os) (reference_or_top c) (Ref p)) (sym ek)
    (kind_at P os p o (λ j. Holds (may_be P j k)) eo (some_at (kind_of P o) k (λ j. Holds (may_be P j k)) ko (is_may_be P k k (is_of_self P law k))), refl)

-- one row in a frame that fits
module _ (P : Program) (types : Typing) (law : Lawful P) (limits : Limits) (s : State) (m : Method) (b : Body) (f : Frame) (t : TypeFrame) (count : length f.locals ≡ b.max_locals) (spaced : AreSpaced f.locals)
    (hl : AllTwo (Has P f.method m (numbers_of s.objects)) t.locals f.locals) (hs : AllTwo (HasItem P f.method m (numbers_of s.objects)) t.stack f.operands) (next : ℕ) where
  abbrev ks : List ℕ
  ks = numbers_of s.objects

  abbrev Fit : Effect → Type 0
  Fit e = EffectFits P types limits s m b f e

  abbrev K : Option TypeFrame → Type 0
  K after = GoesOn P (types f.method) next after

  abbrev pub RowChecked : Row → Type 0
  RowChecked row = IsChecked (row_check P f.method m b (types f.method) f.pc t row) K

  abbrev after_types : List VarType → TypeFrame
  after_types st = with_types P f.method m b (types f.method) f.pc t t.locals st

  -- on to a place with the local variables as they are
  pub goes_on : (pc : ℕ) (st : List VarType) (ops : List Value) → Holds (flows_to P (after_types st) (types f.method pc)) → AllTwo (HasItem P f.method m ks) st ops → IsGoing P types f.method m b ks pc f.locals ops
  goes_on pc st ops fl k = arrive P types law f.method m b ks pc (after_types st) f.locals ops fl count spaced hl k

  pub nothing_fits : RowChecked rows.Nothing → Fit (effect P limits s f next rows.Nothing)
  nothing_fits c = goes_on next t.stack f.operands c.3 hs

  pub push_fits : (v : Value) → BeginWith P.first_objects s.objects → IsConstant P v → RowChecked (rows.Push v) → Fit (effect P limits s f next (rows.Push v))
  push_fits v start h c = goes_on next (constant_type P v ∷ t.stack) (v ∷ f.operands) c.3 (constant_item P law f.method m s.objects v start h, hs)

  pub compute_fits : (W : (ns : List NumberType) → FunctionOf ns (Option ℤ) → Type 0) → ((u : NumberType) (ns : List NumberType) (g : FunctionOf (u ∷ ns) (Option ℤ)) (x : ℤ) → W (u ∷ ns) g → W ns (g x)) → (taken : List NumberType) (given : NumberType) (compute : FunctionOf taken (Option ℤ)) → W taken compute → (W [] None → Fit (fault ArithmeticException)) → RowChecked (rows.Compute taken given compute) → Fit (effect P limits s f next (rows.Compute taken given compute))
  compute_fits W step taken given compute w none c =
      numbers_fit P types law f.method m b ks Fit K (Option ℤ) W step taken compute _ t.stack f.operands _ w hs c (λ r rest ops w h c. result r rest ops w h c.3)
    where
      result : (r : Option ℤ) (rest : List VarType) (ops : List Value) → W [] r → AllTwo (HasItem P f.method m ks) rest ops → Holds (flows_to P (after_types (number_type given ∷ rest)) (types f.method next)) → Fit (or_fault ArithmeticException r (λ x. Go next f.locals (number given x ∷ ops)))
      result None rest ops w h fl = none w
      result (Some x) rest ops w h fl = goes_on next (number_type given ∷ rest) (number given x ∷ ops) fl (number_item P f.method m ks given x, h)

  -- ---- branches

  reach_at : (o : Option ℕ) (st : List VarType) (ops : List Value) → Holds (flows_to P (after_types st) (frame_at P f.method m b (types f.method) f.pc t o)) → AllTwo (HasItem P f.method m ks) st ops → Fit (on o (λ pc. Go pc f.locals ops))
  reach_at None st ops fl h = absurd fl
  reach_at (Some pc) st ops fl h = goes_on pc st ops fl h

  pub reach : (offset : ℤ) (st : List VarType) (ops : List Value) → Holds (reaches P f.method m b (types f.method) f.pc t st offset) → AllTwo (HasItem P f.method m ks) st ops → Fit (at_offset f offset ops)
  reach offset st ops fl h = reach_at (natural (pos f.pc +ℤ offset)) st ops fl h

  branch_fits : (taken : Bool) (offset : ℤ) (st : List VarType) (ops : List Value) → Holds (reaches P f.method m b (types f.method) f.pc t st offset) → Holds (flows_to P (after_types st) (types f.method next)) → AllTwo (HasItem P f.method m ks) st ops → Fit (branch f next taken offset ops)
  branch_fits true offset st ops fl on_ h = reach offset st ops fl h
  branch_fits false offset st ops fl on_ h = goes_on next st ops on_ h

  pub compare_fits : (taken : List NumberType) (test : FunctionOf taken Bool) (offset : ℤ) → RowChecked (rows.Branch taken test offset) → Fit (effect P limits s f next (rows.Branch taken test offset))
  compare_fits taken test offset c =
      numbers_fit P types law f.method m b ks Fit K Bool (λ ns g. Unit {0}) (λ u ns g x w. tt) taken test _ t.stack f.operands _ tt hs c (λ r rest ops w h c. branch_fits r offset rest ops c.2 c.3 h)

  pub same_fits : (wanted : Bool) (offset : ℤ) → RowChecked (rows.BranchSame wanted offset) → Fit (effect P limits s f next (rows.BranchSame wanted offset))
  same_fits wanted offset c =
      top_fits P types law f.method m b ks Fit K _ t.stack f.operands _ hs c (λ u v rest ops hv h c.
      let (a, c2) = need_checked K (is_reference_type u) rule.Stack _ c in
      top_fits P types law f.method m b ks Fit K _ rest ops _ h c2 (λ u2 w rest2 ops2 hw h2 c3.
      let (a2, c4) = need_checked K (is_reference_type u2) rule.Stack _ c3 in
      let (x, is) = same_known v w (reference_is P f.method m ks u v a hv.0) (reference_is P f.method m ks u2 w a2 hw.0) in
      on_some Fit (same v w) x _ is (branch_fits (same_bool x wanted) offset rest2 ops2 c4.2 c4.3 h2)))

  pub null_fits : (wanted : Bool) (offset : ℤ) → RowChecked (rows.BranchNull wanted offset) → Fit (effect P limits s f next (rows.BranchNull wanted offset))
  null_fits wanted offset c =
      top_fits P types law f.method m b ks Fit K _ t.stack f.operands _ hs c (λ u v rest ops hv h c.
      let (a, c2) = need_checked K (is_reference_type u) rule.Stack _ c in
      let (x, is) = same_known v Null (reference_is P f.method m ks u v a hv.0) tt in
      on_some Fit (same v Null) x _ is (branch_fits (same_bool x wanted) offset rest ops c2.2 c2.3 h))

  pub jump_fits : (offset : ℤ) → RowChecked (rows.Jump offset) → Fit (effect P limits s f next (rows.Jump offset))
  jump_fits offset c = reach offset t.stack f.operands c.2 hs

  case_reached : (st : List VarType) (default : ℤ) (cases : List Case) (key : ℤ) → Holds (reaches P f.method m b (types f.method) f.pc t st default) → Holds (list_all (λ c. reaches P f.method m b (types f.method) f.pc t st c.offset) cases) → Holds (reaches P f.method m b (types f.method) f.pc t st (offset_of_key default cases key))
  case_reached st default [] key d h = d
  case_reached st default (c ∷ cs) key d h =
      either (is_equal c.key key) (both_left (reaches P f.method m b (types f.method) f.pc t st c.offset) _ h) (case_reached st default cs key d (both_right (reaches P f.method m b (types f.method) f.pc t st c.offset) _ h))
    where
      either : (is : Bool) → Holds (reaches P f.method m b (types f.method) f.pc t st c.offset) → Holds (reaches P f.method m b (types f.method) f.pc t st (offset_of_key default cs key)) → Holds (reaches P f.method m b (types f.method) f.pc t st (if is then c.offset else offset_of_key default cs key))
      either true x y = x
      either false x y = y

  pub switch_fits : (default : ℤ) (cases : List Case) → RowChecked (rows.Switch default cases) → Fit (effect P limits s f next (rows.Switch default cases))
  switch_fits default cases c =
      number_fits P types law f.method m b ks Fit K IntType _ t.stack f.operands _ hs c (λ key rest ops h c.
      reach (offset_of_key default cases key) rest ops (case_reached rest default cases key (both_left (reaches P f.method m b (types f.method) f.pc t rest default) _ c.2) (both_right (reaches P f.method m b (types f.method) f.pc t rest default) _ c.2)) h)

  -- ---- local variables

  pub load_fits : (sort : Moved) (k : ℕ) → RowChecked (rows.Load sort k) → Fit (effect P limits s f next (rows.Load sort k))
  load_fits sort k c =
      on_two P types law f.method m b ks Fit K (Has P f.method m ks) (slice_get t.locals k) (slice_get f.locals k) rule.Operand _ _ (get_two (Has P f.method m ks) t.locals f.locals hl k)
      (need_checked K (nat_le (k + moved_words sort) b.max_locals) rule.Operand _ c).1
      (λ u v eu ev h c. let (g, c2) = need_checked K (moves sort u) rule.Stack _ c in
      only_so Fit (is_moved sort v) _ (moved_is P f.method m ks sort u v g h) (goes_on next (u ∷ t.stack) (v ∷ f.operands) c2.3 ((h, moved_long P f.method m ks sort u v g h), hs)))

  pub store_fits : (sort : Moved) (k : ℕ) → RowChecked (rows.Store sort k) → Fit (effect P limits s f next (rows.Store sort k))
  store_fits sort k c =
      top_fits P types law f.method m b ks Fit K _ t.stack f.operands _ hs (need_checked K (nat_le (k + moved_words sort) b.max_locals) rule.Operand _ c).1
      (λ u v rest ops hv h c. let (g, c2) = need_checked K (moves sort u) rule.Stack _ c in
      only_so Fit (is_moved sort v) _ (moved_is P f.method m ks sort u v g hv.0)
      (on_two P types law f.method m b ks Fit K (AllTwo (Has P f.method m ks)) (stored is_long_type Top t.locals k u) (stored is_long Unset f.locals k v) rule.Operand _ _
      (stored_two (Has P f.method m ks) is_long_type Top tt (wide P f.method m ks) (kept P f.method m ks) t.locals f.locals k u v hv.1 hv.0 (to_spaced f.locals spaced) hl) c2
      (λ ts vs et ev l c. arrive P types law f.method m b ks next (with_types P f.method m b (types f.method) f.pc t ts rest) vs ops c.3
      (there_at (stored is_long Unset f.locals k v) vs _ ev (stored_length f.locals k v) ∙ count)
      (from_spaced vs (there_at (stored is_long Unset f.locals k v) vs _ ev (stored_spaced k v f.locals (to_spaced f.locals spaced)))) l h)))

  pub increment_fits : (k : ℕ) (x : ℤ) → RowChecked (rows.Increment k x) → Fit (effect P limits s f next (rows.Increment k x))
  increment_fits k x c =
      on_two P types law f.method m b ks Fit K (Has P f.method m ks) (slice_get t.locals k) (slice_get f.locals k) rule.Operand _ _ (get_two (Has P f.method m ks) t.locals f.locals hl k)
      (need_checked K (nat_le (k + 1) b.max_locals) rule.Operand _ c).1
      (λ u v eu ev h c. let (g, c2) = need_checked K (moves (Numbers IntType) u) rule.Stack _ c in int u v eu ev g h c2.3)
    where
      int : (u : VarType) (v : Value) → slice_get t.locals k ≡ Some u → slice_get f.locals k ≡ Some v → Holds (moves (Numbers IntType) u) → Has P f.method m ks u v → Holds (flows_to P (after_types t.stack) (types f.method next)) → Fit (on (incremented v x) (λ w. on (replaced f.locals k w) (λ ls. Go next ls f.operands)))
      int Integer (Int i) eu ev g h fl =
          let w = number IntType (i +ℤ x) in
          let (zs, ez, hz, l) = replaced_two (Has P f.method m ks) t.locals f.locals k Integer w hl eu (SFits-int_wrap w32 (i +ℤ x)) in
          on_some Fit (replaced f.locals k w) zs _ ez
          (arrive P types law f.method m b ks next (after_types t.stack) zs f.operands fl (l ∙ count)
          (from_spaced zs (there_at (replaced f.locals k w) zs _ ez (replaced_spaced f.locals k i w ev refl (to_spaced f.locals spaced)))) hz hs)
      int Integer v eu ev g h fl = absurd h
      int u v eu ev g h fl = absurd g

  pub shuffle_fits : (form : StackForm) (upper lower : Width) → RowChecked (rows.Shuffle form upper lower) → Fit (effect P limits s f next (rows.Shuffle form upper lower))
  shuffle_fits form upper lower c =
      on_two P types law f.method m b ks Fit K (AllTwo (HasItem P f.method m ks)) (shuffle is_long_type form upper lower t.stack) (shuffle is_long form upper lower f.operands) rule.Stack _ _
      (shuffle_two (HasItem P f.method m ks) is_long_type is_long (λ u v h. h.1) form upper lower t.stack f.operands hs) c
      (λ ts vs et ev h c. goes_on next ts vs c.3 h)

  -- ---- statics

  pub static_fits : (k : ℕ) → AllTwo (HasDeclared P ks) P.statics s.statics → RowChecked (rows.GetStatic k) → Fit (effect P limits s f next (rows.GetStatic k))
  static_fits k statics c =
      on_two P types law f.method m b ks Fit K (HasDeclared P ks) (slice_get P.statics k) (slice_get s.statics k) rule.Operand _ _ (get_two (HasDeclared P ks) P.statics s.statics statics k) c
      (λ d v ed ev h c. goes_on next (type_of d ∷ t.stack) (v ∷ f.operands) c.3 (from_declared P f.method m ks d v h, hs))

  -- a value that is seen as of a declared type has it
  pub seen_declared : (d : Declared) (u : VarType) (v : Value) → Holds (is_seen_for P f.method m b (types f.method) f.pc t d u) → HasItem P f.method m ks u v → HasDeclared P ks d v
  seen_declared d u v a h = to_declared P f.method m ks d v (widen_item P f.method m law ks (seen P f.method m u) (type_of d) v a (item_seen P f.method m law ks u v h)).0

  pub put_static_fits : (k : ℕ) → RowChecked (rows.PutStatic k) → Fit (effect P limits s f next (rows.PutStatic k))
  put_static_fits k c =
      let (d, ed, c2) = found_checked K (slice_get P.statics k) rule.Operand _ c in
      top_fits P types law f.method m b ks Fit K _ t.stack f.operands _ hs c2 (λ u v rest ops hv h c.
      let (a, c3) = need_checked K (is_seen_for P f.method m b (types f.method) f.pc t d u) rule.Stack _ c in
      let w = seen_declared d u v a hv in
      on_some Fit (slice_get P.statics k) d _ ed (only_so Fit (suits d v) _ (declared_suits P ks d v w)
      (some_at (slice_get P.statics k) d _ ed w, goes_on next rest ops c3.3 h)))

  -- ---- returns, input and output

  pub return_fits : (given : Option Moved) → RowChecked (rows.Return given) → Fit (effect P limits s f next (rows.Return given))
  return_fits given c = value m.result given refl c
    where
      value : (r : Option Declared) (given : Option Moved) → m.result ≡ r → IsChecked (return_check P f.method m b (types f.method) f.pc t r given) K → Fit (effect P limits s f next (rows.Return given))
      value None None e c = subst (λ r. HasResult P ks r None) (sym e) tt
      value None (Some sort) e c = absurd c
      value (Some d) None e c = absurd c
      value (Some d) (Some sort) e c =
          top_fits P types law f.method m b ks Fit K _ t.stack f.operands _ hs c (λ u v rest ops hv h c.
          let (a, c2) = need_checked K (moves sort u && is_seen_for P f.method m b (types f.method) f.pc t d u) rule.Stack _ c in
          only_so Fit (is_moved sort v) _ (moved_is P f.method m ks sort u v (both_left (moves sort u) _ a) hv.0)
          (subst (λ r. HasResult P ks r (Some v)) (sym e) (seen_declared d u v (both_right (moves sort u) _ a) hv)))

  pub read_fits : RowChecked rows.Read → Fit (effect P limits s f next rows.Read)
  read_fits c = λ answer is. goes_on next (Integer ∷ t.stack) (answered answer ∷ f.operands) c.3 (answer_item answer is, hs)
    where
      answer_item : (answer : Option ℕ) → IsInput answer → HasItem P f.method m ks Integer (answered answer)
      answer_item None is = (fits_signed_from_abs w32 (negsuc 0) (omega arith), refl)
      answer_item (Some byte) is = (fits_signed_from_abs w32 (pos byte) (omega (arith, is)), refl)

  pub write_fits : RowChecked rows.Write → Fit (effect P limits s f next rows.Write)
  write_fits c = number_fits P types law f.method m b ks Fit K IntType _ t.stack f.operands _ hs c (λ x rest ops h c. goes_on next rest ops c.3 h)
