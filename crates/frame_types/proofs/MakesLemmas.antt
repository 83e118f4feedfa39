-- What an entry makes of local variables, by their extents.
use Rattle.std.proofs.Common.{◌≡◌, ℕ, ◌-◌, Bool, true, false, ◌&&◌, List, [], ◌∷◌, ◌++◌, length, take, Option, Some, None, refl, sym, ap, ◌∙◌, arith}
use Rattle.std.specs.Prelude.{nat_le, if◌then◌else◌, map}
use Rattle.std.specs.List.{list_all, list_any}
use Rattle.std.proofs.lemmas.Bool.{leb-true}
use Rattle.lists.specs.Lists.{onto}
use Rattle.lists.specs.Tests.{and_left}
use Rattle.bytecode_model.specs.Slots.{spread, padded}
use Rattle.class_pool.specs.declared.entry.Entry.{Entry}
use Rattle.class_pool.specs.declared.class.Code.{Code}
use Rattle.frame_types.specs.declared.types.VarType.{VarType}
use Rattle.frame_types.specs.declared.types.VarType.TheVariants.{Top}
use Rattle.frame_types.specs.declared.types.TypeFrame.{TypeFrame}
use Rattle.frame_types.specs.declared.read.Change.{Change}
use Rattle.frame_types.specs.declared.read.Change.TheVariants.{Same, OneItem, Chop, Append, Full}
use Rattle.frame_types.specs.declared.steps.EntryType.{EntryType}
use Rattle.frame_types.specs.declared.extents.Extent.{Extent}
use Rattle.frame_types.specs.Types.{is_long, stack_words, is_this, names_new}
use Rattle.frame_types.specs.Frames.{changed, frame_of}
use Rattle.frame_types.specs.Steps.{named}
use Rattle.frame_types.specs.Extents.{shape, whole_extent, extents_behind, last_extent, fit, AreLocals, Makes}
use Rattle.frame_types.proofs.LocalLemmas.{padded_past}
use Rattle.frame_types.proofs.GivenLemmas.{the_frame, spread_words, padded_is, not_le}
use Rattle.frame_types.proofs.ExtentLemmas.{fit_all, extents_all, extents_append, extents_take, extents_long, last_left, fit_behind, fit_front}

-- ---- the frame of local variables and an operand stack

module _ (k : Code) (ls st : List VarType) where
  abbrev build : List VarType → Option TypeFrame
  build all = Some (record { locals = all; stack = st; flag = list_any is_this ls })

  by_tests : (w n r s : Bool) → nat_le (stack_words ls) k.max_locals ≡ w
      → (if r && (n && s) then onto (padded Top k.max_locals (spread is_long Top ls)) build else None) ≡ (if (w && n) && (r && s) then Some (the_frame k ls st) else None)
  by_tests true true true true e =
      let l = leb-true (stack_words ls) k.max_locals e in
      let w = spread_words ls in
      ap (λ o. onto o build) (padded_is k.max_locals (k.max_locals - stack_words ls) (spread is_long Top ls) (omega (arith, w, l)))
  by_tests true true true false e = refl
  by_tests true true false s e = refl
  by_tests true false true s e = refl
  by_tests true false false s e = refl
  by_tests false true true true e =
      let l = not_le (stack_words ls) k.max_locals e in
      let w = spread_words ls in
      ap (λ o. onto o build) (padded_past Top k.max_locals (spread is_long Top ls) (omega (arith, w, l)))
  by_tests false true true false e = refl
  by_tests false true false s e = refl
  by_tests false false true s e = refl
  by_tests false false false s e = refl

  pub frame_is : frame_of k ls st ≡ (if fit k.code k.max_locals ls && fit k.code k.max_stack st then Some (the_frame k ls st) else None)
  frame_is = by_tests (nat_le (stack_words ls) k.max_locals) (list_all (names_new k.code) ls) (nat_le (stack_words st) k.max_stack) (list_all (names_new k.code) st) refl

and_true : (c : Bool) → c ≡ (c && true)
and_true true = refl
and_true false = refl

-- ---- what an entry makes

module _ (k : Code) (ls : List VarType) where
  fits_is : (a s : List VarType) (b : Bool) → b ≡ (fit k.code k.max_locals a && fit k.code k.max_stack s) → frame_of k a s ≡ (if b then Some (the_frame k a s) else None)
  fits_is a s b e = frame_is k a s ∙ ap (λ (c : Bool). let o : Option TypeFrame = if c then Some (the_frame k a s) else None in o) (sym e)

  makes_by : (ch : Change) (a s : List VarType) (es : List Extent) (b : Bool) → changed ch ls ≡ Some (a, s) → b ≡ (fit k.code k.max_locals a && fit k.code k.max_stack s)
      → (b ≡ true → es ≡ extents_behind (whole_extent k.max_locals) a) → Makes k ch ls es b
  makes_by ch a s es true h e are =
      (a, s, the_frame k a s, h, fits_is a s true e, refl, record { extents = are refl; fit = and_left (fit k.code k.max_locals a) (fit k.code k.max_stack s) (sym e) })
  makes_by ch a s es false h e are = ap (λ o. onto o (λ x. frame_of k x.0 x.1)) h ∙ fits_is a s false e

  no_operands : fit k.code k.max_stack [] ≡ true
  no_operands = let e : nat_le 0 k.max_stack ≡ true = grind arith in ap (λ b. b && true) e

  -- those that fit, with operands
  with_operands : (a s : List VarType) (b : Bool) → fit k.code k.max_locals a ≡ true → b ≡ fit k.code k.max_stack s → b ≡ (fit k.code k.max_locals a && fit k.code k.max_stack s)
  with_operands a s b h e = e ∙ ap (λ c. c && fit k.code k.max_stack s) (sym h)

  -- those of which it is asked whether they fit, without operands
  without_operands : (a : List VarType) (b : Bool) → b ≡ fit k.code k.max_locals a → b ≡ (fit k.code k.max_locals a && fit k.code k.max_stack [])
  without_operands a b e = e ∙ (and_true (fit k.code k.max_locals a) ∙ ap (λ c. fit k.code k.max_locals a && c) (sym no_operands))

  pub makes_same : (es : List Extent) → AreLocals k ls es → Makes k Same ls es true
  makes_same es h = makes_by Same ls [] es true refl (with_operands ls [] true h.fit (sym no_operands)) (λ _. h.extents)

  pub makes_one : (pool : List Entry) (item : EntryType) (es : List Extent) (b : Bool) → b ≡ fit k.code k.max_stack (shape item ∷ []) → AreLocals k ls es → Makes k (OneItem (named pool item)) ls es b
  makes_one pool item es b e h =
      makes_by (OneItem (named pool item)) ls (named pool item ∷ []) es b refl (with_operands ls (named pool item ∷ []) b h.fit (e ∙ sym (fit_all k.code k.max_stack pool (item ∷ [])))) (λ _. h.extents)

  -- they are there, or some are absent
  pub makes_chop : (n : ℕ) (es new : List Extent) (b : Bool) → b ≡ nat_le n (length es) → new ≡ (if b then take (length es - n) es else es) → AreLocals k ls es → Makes k (Chop n) ls new b
  makes_chop n es new true e is h =
      let long : length es ≡ length ls = ap length h.extents ∙ extents_long (whole_extent k.max_locals) ls in
      let there : nat_le n (length ls) ≡ true = sym (e ∙ ap (nat_le n) long) in
      let made : changed (Chop n) ls ≡ Some (take (length ls - n) ls, []) = ap (λ (c : Bool). let o : Option (List VarType × List VarType) = if c then Some (take (length ls - n) ls, []) else None in o) there in
      let fewer : new ≡ extents_behind (whole_extent k.max_locals) (take (length ls - n) ls) =
      is ∙ (ap (λ (m : ℕ). take (m - n) es) long ∙ (ap (take (length ls - n)) h.extents ∙ extents_take (length ls - n) (whole_extent k.max_locals) ls))
      in
      makes_by (Chop n) (take (length ls - n) ls) [] new true made (without_operands (take (length ls - n) ls) true (sym (fit_front k.code k.max_locals (length ls - n) ls h.fit))) (λ _. fewer)
  makes_chop n es new false e is h =
      let long : length es ≡ length ls = ap length h.extents ∙ extents_long (whole_extent k.max_locals) ls in
      let absent : nat_le n (length ls) ≡ false = sym (e ∙ ap (nat_le n) long) in
      ap (λ (c : Bool). let o : Option (List VarType × List VarType) = if c then Some (take (length ls - n) ls, []) else None in onto o (λ x. frame_of k x.0 x.1)) absent

  pub makes_append : (pool : List Entry) (more : List EntryType) (es new : List Extent) (b : Bool) → b ≡ fit k.code (last_extent (whole_extent k.max_locals) es).left (map shape more)
      → (b ≡ true → new ≡ es ++ extents_behind (last_extent (whole_extent k.max_locals) es) (map shape more)) → AreLocals k ls es → Makes k (Append (map (named pool) more)) ls new b
  makes_append pool more es new b e is h =
      let all : List VarType = map (named pool) more in
      let left : (last_extent (whole_extent k.max_locals) es).left ≡ k.max_locals - stack_words ls =
      ap (λ (l : List Extent). (last_extent (whole_extent k.max_locals) l).left) h.extents ∙ last_left (whole_extent k.max_locals) ls
      in
      let fits : b ≡ fit k.code k.max_locals (ls ++ all) =
      e ∙ (sym (fit_all k.code (last_extent (whole_extent k.max_locals) es).left pool more) ∙ (ap (λ (m : ℕ). fit k.code m all) left ∙ fit_behind k.code k.max_locals ls all h.fit))
      in
      let are : b ≡ true → new ≡ extents_behind (whole_extent k.max_locals) (ls ++ all) = λ t.
      is t
      ∙ (ap (λ (l : List Extent). es ++ l) (sym (extents_all pool (last_extent (whole_extent k.max_locals) es) more))
      ∙ (ap (λ (l : List Extent). l ++ extents_behind (last_extent (whole_extent k.max_locals) l) all) h.extents ∙ sym (extents_append (whole_extent k.max_locals) ls all)))
      in
      makes_by (Append all) (ls ++ all) [] new b refl (without_operands (ls ++ all) b fits) are

  pub makes_full : (pool : List Entry) (all stack : List EntryType) (new : List Extent) (b : Bool) → b ≡ (fit k.code k.max_locals (map shape all) && fit k.code k.max_stack (map shape stack))
      → (b ≡ true → new ≡ extents_behind (whole_extent k.max_locals) (map shape all)) → Makes k (Full (map (named pool) all) (map (named pool) stack)) ls new b
  makes_full pool all stack new b e is =
      let fits : b ≡ (fit k.code k.max_locals (map (named pool) all) && fit k.code k.max_stack (map (named pool) stack)) =
      e
      ∙ (ap (λ c. c && fit k.code k.max_stack (map shape stack)) (sym (fit_all k.code k.max_locals pool all)) ∙ ap (λ c. fit k.code k.max_locals (map (named pool) all) && c) (sym (fit_all k.code k.max_stack pool stack)))
      in
      makes_by (Full (map (named pool) all) (map (named pool) stack)) (map (named pool) all) (map (named pool) stack) new b refl fits (λ t. is t ∙ sym (extents_all pool (whole_extent k.max_locals) all))
