-- A bare program is lawful and typed.
use Rattle.std.proofs.Common.{◌≡◌, ℕ, zero, suc, ◌+◌, ◌<◌, ◌≤◌, Bool, true, false, List, [], ◌∷◌, Option, Some, None, refl, sym, ap, ◌∙◌, subst, length, map, replicate, arith, ◌⊎◌, inl, inr, Result, Ok, Err}
use Rattle.std.specs.Prelude.{◌&&◌, ◌==◌, nat_le, nat_lt, if◌then◌else◌, IfSome, slice_get, slice_index_or}
use Rattle.std.specs.Option.{IsSomeAnd}
use Rattle.std.proofs.lemmas.Bool.{ltb-true, lt-ltb, le-leb}
use Rattle.std.proofs.lemmas.List.Sums.{sum_by-cons}
use Rattle.opcodes.specs.declared.instruction.Instr.{Instr}
use Rattle.opcodes.specs.Target.{WholeIsWithin}
use Rattle.opcodes.specs.declared.instruction.DecodeFault.{DecodeFault}
use Rattle.opcodes.specs.Instruction.{decoded}
use Rattle.opcodes.specs.Start.{IsStart, starts_of, starts_from, AreStarts}
use Rattle.bytecode_model.specs.declared.Value.TheVariants.{Int, Long, Ref, Null, Unset}
use Rattle.bytecode_model.specs.Lists.{onto}
use Rattle.bytecode_model.specs.Types.{IntType, Numeric, Numbers}
use Rattle.bytecode_model.specs.Program.{Program, Method, Body, as_instr, object_class}
use Rattle.bytecode_model.specs.Slots.{stored, spread, padded}
use Rattle.bytecode_model.specs.Rows as rows
use Rattle.bytecode_model.specs.Rows.{Row, Zero, One, Drop, Copy}
use Rattle.bytecode_model.specs.Steps.{row_in}
use Rattle.bytecode_typing.specs.Tests.{Holds}
use Rattle.bytecode_typing.specs.Types.{VarType, Top, Integer, TypeFrame, is_long_type, type_words, stack_words, type_of}
use Rattle.bytecode_typing.specs.Assignable.{flows_to}
use Rattle.bytecode_typing.specs.Rules as rule
use Rattle.bytecode_typing.specs.Rules.{Checked, need, found}
use Rattle.bytecode_typing.specs.Checks.{row_check}
use Rattle.bytecode_typing.specs.Walk.{first_types, handlers_hold}
use Rattle.bytecode_typing.specs.Typed.{Typed, IsTypedAt, IsTypedMethod, IsChecked, GoesOn, RaisesNothing}
use Rattle.bytecode_typing.specs.Typings.{frame_among}
use Rattle.bytecode_typing.specs.Bare.{bare_method, bare_program, depth_behind, IsIntConstant, StayWithin, IsStraightLine, int_frame, depth_after, int_frames, bare_typing}
use Rattle.bytecode_typing.specs.Lawful.{Lawful, IsResolvedRow}
use Rattle.bytecode_typing.proofs.Relations.{from_true, some_in, some_is, some_at}
use Rattle.bytecode_typing.proofs.Hierarchy.{equal, equal_in, or_left, or_right, or_else}
use Rattle.bytecode_typing.proofs.TypedWalks.{frame_self, AllAt, Above, all_at}
use Rattle.bytecode_typing.proofs.Keeping.{row_instr}

-- ---- lists of ints

ints_words : (d : ℕ) → stack_words (replicate d Integer) ≡ d
ints_words zero = refl
ints_words (suc d) = sum_by-cons type_words Integer (replicate d Integer) ∙ omega (arith, ints_words d)

int_at : (n k : ℕ) → k < n → slice_get (replicate n Integer) k ≡ Some Integer
int_at zero k l = absurd (omega arith)
int_at (suc n) zero l = refl
int_at (suc n) (suc k) l = int_at n k (omega arith)

stored_int : (n k : ℕ) → k < n → stored is_long_type Top (replicate n Integer) k Integer ≡ Some (replicate n Integer)
stored_int zero k l = absurd (omega arith)
stored_int (suc zero) zero l = refl
stored_int (suc (suc n)) zero l = refl
stored_int (suc zero) (suc k) l = absurd (omega arith)
stored_int (suc (suc n)) (suc zero) l = ap (λ (o : Option (List VarType)). onto o (λ ws. Some (Integer ∷ ws))) (stored_int (suc n) zero (omega arith))
stored_int (suc (suc n)) (suc (suc k)) l = ap (λ (o : Option (List VarType)). onto o (λ ws. Some (Integer ∷ ws))) (stored_int (suc n) (suc k) (omega arith))

spread_ints : (n : ℕ) → spread is_long_type Top (map type_of (replicate n (Numeric IntType))) ≡ replicate n Integer
spread_ints zero = refl
spread_ints (suc n) = ap (λ (ts : List VarType). Integer ∷ ts) (spread_ints n)

padded_ints : (n : ℕ) → padded Top n (replicate n Integer) ≡ Some (replicate n Integer)
padded_ints zero = refl
padded_ints (suc n) = ap (λ (o : Option (List VarType)). onto o (λ ws. Some (Integer ∷ ws))) (padded_ints n)

-- ---- the hierarchy

module _ (b : Body) where
  abbrev P : Program
  P = bare_program b

  self_class : (c : ℕ) → Holds (P.extends c c)
  self_class c = or_left (c == c) _ (equal_in c c refl)

  above : (c d : ℕ) → Holds (P.extends c d) → (c ≡ d) ⊎ (d ≡ object_class)
  above c d h = or_else (c == d) _ _ h (λ e. inl (equal c d e)) (λ e. inr (equal d object_class e))

  extends_self : (c d : ℕ) → c ≡ d → Holds (P.extends c d)
  extends_self c d e = or_left (c == d) _ (equal_in c d e)

  extends_object : (c d : ℕ) → d ≡ object_class → Holds (P.extends c d)
  extends_object c d e = or_right (c == d) _ (equal_in d object_class e)

  through : (c d e : ℕ) → Holds (P.extends c d) → Holds (P.extends d e) → Holds (P.extends c e)
  through c d e h g = second (above d e g) (above c d h)
    where
      second : (d ≡ e) ⊎ (e ≡ object_class) → (c ≡ d) ⊎ (d ≡ object_class) → Holds (P.extends c e)
      second (inr z) x = extends_object c e z
      second (inl z) (inl x) = extends_self c e (x ∙ z)
      second (inl z) (inr x) = extends_object c e (sym z ∙ x)

  root : (c : ℕ) → Holds (P.extends object_class c) → c ≡ object_class
  root c h = either (above object_class c h)
    where
      either : (object_class ≡ c) ⊎ (c ≡ object_class) → c ≡ object_class
      either (inl e) = sym e
      either (inr e) = e

  superinterfaces : (c d : ℕ) → Holds (P.is_interface c) → Holds (P.extends c d) → Holds (P.is_interface d) ⊎ (d ≡ object_class)
  superinterfaces c d i h = either (above c d h)
    where
      either : (c ≡ d) ⊎ (d ≡ object_class) → Holds (P.is_interface d) ⊎ (d ≡ object_class)
      either (inl e) = inl (subst (λ c. Holds (P.is_interface c)) e i)
      either (inr e) = inr e

  only_method : (c : ℕ) (k : Method) → slice_get P.methods c ≡ Some k → k ≡ bare_method b
  only_method zero k e = cc
  only_method (suc c) k e = absurd (cc)

  no_instance : (c : ℕ) (k : Method) (G : Type 0) → slice_get P.methods c ≡ Some k → k.has_this ≡ true → G
  no_instance c k G e h = let is : false ≡ true = ap (λ (k : Method). k.has_this) (sym (only_method c k e)) ∙ h in absurd (cc)

  -- ---- the rows at the starts

  constant_row : (m : Method) (row : Row) → RaisesNothing row → IsIntConstant row → (d e : ℕ) → depth_behind b row d ≡ Some e → IsResolvedRow P m row
  constant_row m (rows.Push (Int i)) q c d e h = c
  constant_row m (rows.Push (Long i)) q c d e h = absurd (cc)
  constant_row m (rows.Push (Ref p)) q c d e h = absurd (cc)
  constant_row m (rows.Push Null) q c d e h = absurd (cc)
  constant_row m (rows.Push Unset) q c d e h = absurd (cc)
  constant_row m rows.Nothing q c d e h = tt
  constant_row m (rows.Compute taken given compute) q c d e h = tt
  constant_row m (rows.Load sort k) q c d e h = tt
  constant_row m (rows.Store sort k) q c d e h = tt
  constant_row m (rows.Shuffle form upper lower) q c d e h = tt
  constant_row m (rows.Return given) q c d e h = tt
  constant_row m rows.Write q c d e h = tt
  constant_row m row q c d e h = absurd q

  abbrev IsBareAt : Row → Type 0
  IsBareAt row = RaisesNothing row × ((m : Method) → IsResolvedRow P m row)

  return_row : (row : Row) → row ≡ rows.Return None → IsBareAt row
  return_row row e = subst IsBareAt (sym e) (tt, λ m. tt)

  row_bare : (pcs : List ℕ) (d k q : ℕ) → slice_get pcs k ≡ Some q → StayWithin b pcs d → IsSomeAnd (row_in P 0 q) (λ x. IsBareAt x.1)
  row_bare [] d k q e h = absurd h
  row_bare (pc ∷ []) d zero q e h = let is : pc ≡ q = cc in subst (λ (q : ℕ). IsSomeAnd (row_in P 0 q) (λ x. IsBareAt x.1)) is (some_in (row_in P 0 pc) _ _ h (λ x r. return_row x.1 r))
  row_bare (pc ∷ []) d (suc k) q e h = absurd (cc)
  row_bare (pc ∷ p ∷ ps) d zero q e h =
      let is : pc ≡ q = cc in
      subst (λ (q : ℕ). IsSomeAnd (row_in P 0 q) (λ x. IsBareAt x.1)) is (some_in (row_in P 0 pc) _ _ h (λ x g. let (y, ey, r) = some_is (depth_behind b x.1 d) _ g.3 in (g.1, λ m. constant_row m x.1 g.1 g.2 d y ey)))
  row_bare (pc ∷ p ∷ ps) d (suc k) q e h =
      let (x, ex, g) = some_is (row_in P 0 pc) _ h in let (y, ey, r) = some_is (depth_behind b x.1 d) _ g.3 in row_bare (p ∷ ps) y k q e r

  at_index : (xs : List ℕ) (q k : ℕ) → k < length xs → slice_index_or xs k q ≡ q → slice_get xs k ≡ Some q
  at_index [] q k l e = absurd (omega arith)
  at_index (x ∷ xs) q zero l e = ap Some e
  at_index (x ∷ xs) q (suc k) l e = at_index xs q k (omega arith) e

  module _ (bare : IsStraightLine b) where
    start_bare : (pc : ℕ) → IsStart b.code pc → IsSomeAnd (row_in P 0 pc) (λ x. IsBareAt x.1)
    start_bare pc (k, l, e) = row_bare (starts_of b.code) 0 k pc (at_index (starts_of b.code) pc k l e) bare.within

    resolved_rows : (n : ℕ) (m : Method) (c : Body) → slice_get P.methods n ≡ Some m → m.body ≡ Some c → (pc : ℕ) → IsStart c.code pc → IfSome (row_in P n pc) (λ x. IsResolvedRow P m x.1)
    resolved_rows (suc n) m c em ec pc st = absurd (cc)
    resolved_rows zero m c em ec pc st =
        let same : b ≡ c = some_body b c (ap (λ (k : Method). k.body) (sym (only_method 0 m em)) ∙ ec) in
        each (row_in P 0 pc) (start_bare pc (subst (λ (c : Body). IsStart c.code pc) (sym same) st))
      where
        some_body : (x y : Body) → Some x ≡ Some y → x ≡ y
        some_body x y e = cc

        each : (o : Option (ℕ × Row)) → IsSomeAnd o (λ x. IsBareAt x.1) → IfSome o (λ x. IsResolvedRow P m x.1)
        each None h = tt
        each (Some x) h = h.1 m

    pub bare_lawful : Lawful P
    bare_lawful = record {
      self = self_class;
      through = through;
      object = λ c. extends_object c object_class refl;
      root = root;
      superclass = λ c d e. absurd (cc);
      superinterfaces = superinterfaces;
      serializable = tt;
      cloneable = tt;
      throwable = refl;
      object_fields = refl;
      object_methods = λ c k e o h. no_instance c k _ e h;
      fields = λ c d x k. tt;
      selects = λ r c k e h i o x. no_instance c k _ e h;
      rows = resolved_rows;
      boot = (refl, refl, tt);
      faults = λ e x. absurd (cc);
      first_objects = λ p. tt;
      first_statics = tt;
    }

-- ---- the typing

need_in : (K : Option TypeFrame → Type 0) (x : Bool) (r : rule.Rule) (c : Checked) → x ≡ true → IsChecked c K → IsChecked (need x r c) K
need_in K true r c e h = h
need_in K false r c e h = absurd (cc)

found_in : {A : Type 0} (K : Option TypeFrame → Type 0) (o : Option A) (a : A) (r : rule.Rule) (go : A → Checked) → o ≡ Some a → IsChecked (go a) K → IsChecked (found o r go) K
found_in K o a r go e h = subst (λ o. IsChecked (found o r go) K) (sym e) h

if_some : (x : Bool) (a e : ℕ) → if◌then◌else◌ {A = Option ℕ} x (Some a) None ≡ Some e → (x ≡ true) × (a ≡ e)
if_some true a e h = (refl, some_nat a e h)
  where
    some_nat : (a e : ℕ) → Some a ≡ Some e → a ≡ e
    some_nat a e h = cc
if_some false a e h = absurd (cc)

some_nat : (a e : ℕ) → Some a ≡ Some e → a ≡ e
some_nat a e h = cc

and_left : (x y : Bool) → (x && y) ≡ true → x ≡ true
and_left true y e = refl
and_left false y e = absurd (cc)

and_right : (x y : Bool) → (x && y) ≡ true → y ≡ true
and_right true y e = e
and_right false y e = absurd (cc)

module _ (b : Body) (frames : ℕ → Option TypeFrame) (pc next : ℕ) where
  abbrev K : Option TypeFrame → Type 0
  K after = GoesOn (bare_program b) frames next after

  abbrev Passed : ℕ → Row → Type 0
  Passed d row = IsChecked (row_check (bare_program b) 0 (bare_method b) b frames pc (int_frame b d) row) K

  flow : (d e : ℕ) → d ≡ e → frames next ≡ Some (int_frame b e) → Holds (flows_to (bare_program b) (int_frame b d) (frames next))
  flow d e is at = subst (λ o. Holds (flows_to (bare_program b) (int_frame b d) o)) (sym at) (subst (λ (e : ℕ). Holds (flows_to (bare_program b) (int_frame b d) (Some (int_frame b e)))) is (frame_self (bare_program b) (self_class b) (int_frame b d)))

  fits_local : (k : ℕ) → nat_lt k b.max_locals ≡ true → nat_le (k + 1) b.max_locals ≡ true
  fits_local k e = let l = ltb-true k b.max_locals e in le-leb (k + 1) b.max_locals (omega (arith, l))

  row_passed : (row : Row) (d e : ℕ) → depth_behind b row d ≡ Some e → frames next ≡ Some (int_frame b e) → Passed d row
  row_passed rows.Nothing d e h at = (tt, tt, tt, flow d e (some_nat d e h) at)
  row_passed (rows.Push (Int i)) d e h at = (tt, tt, tt, flow (suc d) e (if_some (nat_lt d b.max_stack) (suc d) e h).1 at)
  row_passed (rows.Load (Numbers IntType) k) d e h at =
      let (t, is) = if_some (nat_lt k b.max_locals && nat_lt d b.max_stack) (suc d) e h in
      let in_locals = and_left (nat_lt k b.max_locals) (nat_lt d b.max_stack) t in
      need_in K (nat_le (k + 1) b.max_locals) rule.Operand _ (fits_local k in_locals) (found_in K (slice_get (replicate b.max_locals Integer) k) Integer rule.Operand _ (int_at b.max_locals k (ltb-true k b.max_locals in_locals)) (tt, tt, tt, flow (suc d) e is at))
  row_passed (rows.Store (Numbers IntType) k) (suc d) e h at =
      let (t, is) = if_some (nat_lt k b.max_locals) d e h in
      need_in K (nat_le (k + 1) b.max_locals) rule.Operand _ (fits_local k t) (found_in K (stored is_long_type Top (replicate b.max_locals Integer) k Integer) (replicate b.max_locals Integer) rule.Operand _ (stored_int b.max_locals k (ltb-true k b.max_locals t)) (tt, tt, tt, flow d e is at))
  row_passed (rows.Compute (IntType ∷ IntType ∷ []) IntType compute) (suc (suc d)) e h at = (tt, tt, tt, flow (suc d) e (some_nat (suc d) e h) at)
  row_passed (rows.Shuffle Drop One Zero) (suc d) e h at = (tt, tt, tt, flow d e (some_nat d e h) at)
  row_passed (rows.Shuffle Copy One Zero) (suc d) e h at = (tt, tt, tt, flow (suc (suc d)) e (if_some (nat_lt (suc d) b.max_stack) (suc (suc d)) e h).1 at)
  row_passed rows.Write (suc d) e h at = (tt, tt, tt, flow d e (some_nat d e h) at)
  row_passed row d e h at = absurd (cc)

-- ---- all places

abbrev head_or : ℕ → List ℕ → ℕ
head_or z [] = z
head_or z (y ∷ ys) = y

module _ (b : Body) (are_starts : AreStarts b.code) (within : (pc : ℕ) → WholeIsWithin b.code pc) (bare : IsStraightLine b) where
  abbrev B : Program
  B = bare_program b

  depth_is : (d e : ℕ) (o : Option (ℕ × Row)) (x : ℕ × Row) → o ≡ Some x → depth_behind b x.1 d ≡ Some e → depth_after b d o ≡ e
  depth_is d e o x ex ed = ap (depth_after b d) ex ∙ ap (λ (o : Option ℕ). elim o as (λ _. ℕ) [ None ↦ 0 | Some e ↦ e ]) ed

  -- the next place lies behind
  later : (pc q : ℕ) (x : ℕ × Row) → row_in B 0 pc ≡ Some x → x.0 ≡ q → pc < q
  later pc q x ex e =
      let (i, ei, en) = row_instr B 0 pc x.0 x.1 ex in
      let more = (within pc i (whole (decoded b.code pc) refl i ei)).not_empty in
      omega (arith, e, en, more)
    where
      whole : (r : Result Instr DecodeFault) → decoded b.code pc ≡ r → (i : Instr) → as_instr r ≡ Some i → decoded b.code pc ≡ Ok i
      whole (Ok j) e i h = let is : j ≡ i = cc in e ∙ ap Ok is
      whole (Err y) e i h = absurd (cc)

  above_ints : (pc : ℕ) (pcs : List ℕ) (d p : ℕ) → p ≤ pc → StayWithin b (pc ∷ pcs) d → Above p (int_frames b (pc ∷ pcs) d)
  above_ints pc [] d p l h = (l, tt)
  above_ints pc (q ∷ qs) d p l h =
      let (x, ex, g) = some_is (row_in B 0 pc) _ h in
      let (e, ee, r) = some_is (depth_behind b x.1 d) _ g.3 in
      let more = later pc q x ex g.0 in
      (l, subst (λ (e : ℕ). Above (suc pc) (int_frames b (q ∷ qs) e)) (sym (depth_is d e (row_in B 0 pc) x ex ee)) (above_ints q qs e (suc pc) (omega (arith, more)) r))

  module _ (frames : ℕ → Option TypeFrame) where
    abbrev AllTyped : List (ℕ × TypeFrame) → Type 0
    AllTyped [] = Unit {0}
    AllTyped (x ∷ xs) = IsTypedAt B 0 (bare_method b) b frames x.0 x.1 × AllTyped xs

    no_handlers : (pc d : ℕ) → Holds (handlers_hold B frames pc (int_frame b d) b.handlers)
    no_handlers pc d = subst (λ hs. Holds (handlers_hold B frames pc (int_frame b d) hs)) (sym bare.handlers) tt

    last_passed : (pc next d : ℕ) (row : Row) → row ≡ rows.Return None → Passed b frames pc next d row
    last_passed pc next d row e = subst (Passed b frames pc next d) (sym e) (tt, tt, tt, tt)

    behind : (row : Row) (d e : ℕ) → depth_behind b row d ≡ Some e → d ≤ b.max_stack → e ≤ b.max_stack
    behind rows.Nothing d e h l = let is = some_nat d e h in omega (arith, is, l)
    behind (rows.Push (Int i)) d e h l = let (t, is) = if_some (nat_lt d b.max_stack) (suc d) e h in let m = ltb-true d b.max_stack t in omega (arith, is, m)
    behind (rows.Load (Numbers IntType) k) d e h l =
        let (t, is) = if_some (nat_lt k b.max_locals && nat_lt d b.max_stack) (suc d) e h in let m = ltb-true d b.max_stack (and_right (nat_lt k b.max_locals) (nat_lt d b.max_stack) t) in omega (arith, is, m)
    behind (rows.Store (Numbers IntType) k) (suc d) e h l = let (t, is) = if_some (nat_lt k b.max_locals) d e h in omega (arith, is, l)
    behind (rows.Compute (IntType ∷ IntType ∷ []) IntType compute) (suc (suc d)) e h l = let is = some_nat (suc d) e h in omega (arith, is, l)
    behind (rows.Shuffle Drop One Zero) (suc d) e h l = let is = some_nat d e h in omega (arith, is, l)
    behind (rows.Shuffle Copy One Zero) (suc d) e h l = let (t, is) = if_some (nat_lt (suc d) b.max_stack) (suc (suc d)) e h in let m = ltb-true (suc d) b.max_stack t in omega (arith, is, m)
    behind rows.Write (suc d) e h l = let is = some_nat d e h in omega (arith, is, l)
    behind row d e h l = absurd (cc)

    all_typed : (pc : ℕ) (pcs : List ℕ) (d : ℕ) → ((k q : ℕ) → slice_get (pc ∷ pcs) k ≡ Some q → IsStart b.code q) → d ≤ b.max_stack → AllAt frames (int_frames b (pc ∷ pcs) d) → StayWithin b (pc ∷ pcs) d → AllTyped (int_frames b (pc ∷ pcs) d)
    all_typed pc [] d st l at h = (
      record {
        start = st 0 pc refl;
        room = subst (λ (n : ℕ). n ≤ b.max_stack) (sym (ints_words d)) l;
        row = some_in (row_in B 0 pc) _ _ h (λ x e. last_passed pc x.0 d x.1 e);
        handlers = no_handlers pc d;
      },
      tt,
    )
    all_typed pc (q ∷ qs) d st l at h =
        let (x, ex, g) = some_is (row_in B 0 pc) _ h in
        let (e, ee, r) = some_is (depth_behind b x.1 d) _ g.3 in
        let same = depth_is d e (row_in B 0 pc) x ex ee in
        let at2 = subst (λ (e : ℕ). AllAt frames (int_frames b (q ∷ qs) e)) same at.1 in
        let there : frames x.0 ≡ Some (int_frame b e) = ap frames g.0 ∙ at2.0 in (
          record {
            start = st 0 pc refl;
            room = subst (λ (n : ℕ). n ≤ b.max_stack) (sym (ints_words d)) l;
            row = some_at (row_in B 0 pc) x _ ex (row_passed b frames pc x.0 x.1 d e ee there);
            handlers = no_handlers pc d;
          },
          subst (λ (e : ℕ). AllTyped (int_frames b (q ∷ qs) e)) (sym same) (all_typed q qs e (λ k z w. st (suc k) z w) (behind x.1 d e ee l) at2 r),
        )

    looked_up : (xs : List (ℕ × TypeFrame)) (pc : ℕ) → AllTyped xs → IfSome (frame_among xs pc) (IsTypedAt B 0 (bare_method b) b frames pc)
    looked_up [] pc h = tt
    looked_up (x ∷ xs) pc h = here (x.0 == pc) refl (looked_up xs pc h.1)
      where
        here : (y : Bool) → (x.0 == pc) ≡ y → IfSome (frame_among xs pc) (IsTypedAt B 0 (bare_method b) b frames pc) → IfSome (if y then Some x.1 else frame_among xs pc) (IsTypedAt B 0 (bare_method b) b frames pc)
        here true e r = subst (λ (q : ℕ). IsTypedAt B 0 (bare_method b) b frames q x.1) (equal x.0 pc (from_true (x.0 == pc) e)) h.0
        here false e r = r

  -- the code begins at place 0
  begins_at : (code pcs : List ℕ) (pc : ℕ) → starts_of code ≡ pc ∷ pcs → pc ≡ 0
  unfolding starts_of
  begins_at [] pcs pc e = absurd (cc)
  begins_at (x ∷ code) pcs pc e = first (nat_lt 0 (length (x ∷ code))) (lt-ltb 0 (length (x ∷ code)) (omega arith)) e
    where
      first : (y : Bool) → y ≡ true → starts_from (length (x ∷ code)) (x ∷ code) (if◌then◌else◌ {A = Option ℕ} y (Some 0) None) ≡ pc ∷ pcs → pc ≡ 0
      first true t e = sym (ap (head_or 0) e)
      first false t e = absurd (cc)

  first_is : first_types (bare_method b) b ≡ Some (int_frame b 0)
  first_is =
      ap (λ (ts : List VarType). onto (padded Top b.max_locals ts) (λ ls. Some (record { locals = ls; stack = []; flag = false }))) (spread_ints b.max_locals)
      ∙ ap (λ (o : Option (List VarType)). onto o (λ ls. Some (record { locals = ls; stack = []; flag = false }))) (padded_ints b.max_locals)

  method_from : (pcs : List ℕ) → starts_of b.code ≡ pcs → StayWithin b pcs 0 → IsTypedMethod B 0 (bare_method b) b (frame_among (int_frames b pcs 0))
  method_from [] e h = absurd h
  method_from (pc ∷ pcs) e h =
      let frames = frame_among (int_frames b (pc ∷ pcs) 0) in
      let zero_ : pc ≡ 0 = begins_at b.code pcs pc e in
      let at = all_at (int_frames b (pc ∷ pcs) 0) frames 0 (above_ints pc pcs 0 0 (omega arith) h) (λ q l. refl) in
      let typed = all_typed frames pc pcs 0 (λ k q g. member k q g) (omega arith) at h in
      let there : frames 0 ≡ Some (int_frame b 0) = ap frames (sym zero_) ∙ at.0 in
      record {
        first = some_at (first_types (bare_method b) b) (int_frame b 0) _ first_is (subst (λ o. Holds (flows_to B (int_frame b 0) o)) (sym there) (frame_self B (self_class b) (int_frame b 0)));
        places = λ q. looked_up frames (int_frames b (pc ∷ pcs) 0) q typed;
      }
    where
      index : (xs : List ℕ) (k q : ℕ) → slice_get xs k ≡ Some q → (k < length xs) × (slice_index_or xs k q ≡ q)
      index [] k q g = absurd (cc)
      index (x ∷ xs) zero q g = (omega arith, some_nat x q g)
      index (x ∷ xs) (suc k) q g = let r = index xs k q g in (omega (arith, r.0), r.1)

      member : (k q : ℕ) → slice_get (pc ∷ pcs) k ≡ Some q → IsStart b.code q
      member k q g = let r = index (pc ∷ pcs) k q g in subst (λ (l : List ℕ). (k : ℕ) × (k < length l) × (slice_index_or l k q ≡ q)) (sym e) (k, r.0, r.1)

  method_typed : IsTypedMethod B 0 (bare_method b) b (frame_among (int_frames b (starts_of b.code) 0))
  method_typed = method_from (starts_of b.code) refl bare.within

  pub bare_typed : Typed B (bare_typing b)
  bare_typed = record {
    methods = λ n m c em ec. one n m c em ec;
    quiet = λ e n pc. still n pc;
  }
    where
      body_same : (x y : Body) → Some x ≡ Some y → x ≡ y
      body_same x y e = cc

      one : (n : ℕ) (m : Method) (c : Body) → slice_get B.methods n ≡ Some m → m.body ≡ Some c → IsTypedMethod B n m c (bare_typing b n)
      one zero m c em ec =
          let is = only_method b 0 m em in
          let same : b ≡ c = body_same b c (ap (λ (k : Method). k.body) (sym is) ∙ ec) in
          subst (λ (c : Body). IsTypedMethod B 0 m c (bare_typing b 0)) same (subst (λ (m : Method). IsTypedMethod B 0 m b (bare_typing b 0)) (sym is) method_typed)
      one (suc n) m c em ec = absurd (cc)

      quiet_at : (o : Option TypeFrame) (pc : ℕ) → IfSome o (IsTypedAt B 0 (bare_method b) b (bare_typing b 0) pc) → IfSome o (λ f. IsSomeAnd (row_in B 0 pc) (λ x. RaisesNothing x.1))
      quiet_at None pc h = tt
      quiet_at (Some f) pc h = some_in (row_in B 0 pc) _ _ (start_bare b bare pc h.start) (λ x g. g.0)

      still : (n pc : ℕ) → IfSome (bare_typing b n pc) (λ f. IsSomeAnd (row_in B n pc) (λ x. RaisesNothing x.1))
      still zero pc = quiet_at (bare_typing b 0 pc) pc (method_typed.places pc)
      still (suc n) pc = tt
