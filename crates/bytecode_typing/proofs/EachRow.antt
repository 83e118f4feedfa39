-- The effect of each row fits.
use Rattle.std.proofs.Common.{◌≡◌, ℕ, Bool, true, false, List, Some, sym, subst, length}
use Rattle.std.specs.Prelude.{IfSome, slice_get}
use Rattle.std.specs.Option.{IsSomeAnd}
use Rattle.bytecode_model.specs.Types.{OfClass}
use Rattle.bytecode_model.specs.State.{Object, Frame, State}
use Rattle.bytecode_model.specs.Program.{Program, Limits, Method, Body, is_of, throwable_class}
use Rattle.bytecode_model.specs.Rows as rows
use Rattle.bytecode_model.specs.Rows.{Row}
use Rattle.bytecode_model.specs.Effects.{Effect, Fault, ArithmeticException, fault_object, effect}
use Rattle.bytecode_model.specs.Steps.{row_in}
use Rattle.bytecode_model.specs.WellFormed.{AreSpaced}
use Rattle.bytecode_typing.specs.Tests.{Holds, AllTwo}
use Rattle.bytecode_typing.specs.Types.{TypeFrame}
use Rattle.bytecode_typing.specs.Checks.{row_check}
use Rattle.bytecode_typing.specs.Typed.{Typing, Typed, IsChecked, GoesOn, IsTotal, RaisesNothing}
use Rattle.bytecode_typing.specs.Fits.{Has, HasItem, HasDeclared, ObjectFits, BeginWith, numbers_of, IsThrowable}
use Rattle.bytecode_typing.specs.Lawful.{Lawful, IsResolvedRow}
use Rattle.bytecode_typing.proofs.Relations.{some_is}
use Rattle.bytecode_typing.proofs.Parts.{begin_at, kind_at}
use Rattle.bytecode_typing.proofs.Pairs.{EffectFits}
use Rattle.bytecode_typing.proofs.Plain as plain
use Rattle.bytecode_typing.proofs.ObjectRows as objects
use Rattle.bytecode_typing.proofs.CallRows as calls

-- what instructions raise is a Throwable
pub raised : (P : Program) (law : Lawful P) (os : List Object) → P.linked ≡ true → BeginWith P.first_objects os → (x : Fault) → IsThrowable P (numbers_of os) (fault_object x)
raised P law os linked start x =
    let (y, ey, hy) = some_is (slice_get P.first_objects (fault_object x)) _ (law.faults linked x) in
    let (o, eo, same) = begin_at P P.first_objects os (fault_object x) y start ey in
    kind_at P os (fault_object x) o (λ k. Holds (is_of P k (OfClass throwable_class))) eo (subst (λ (t : ℕ). IsSomeAnd (slice_get P.types t) (λ k. Holds (is_of P k (OfClass throwable_class)))) (sym same) hy)

module _ (P : Program) (types : Typing) (law : Lawful P) (typed : Typed P types) (limits : Limits) (s : State) (m : Method) (b : Body) (f : Frame) (t : TypeFrame) (em : slice_get P.methods f.method ≡ Some m) (eb : m.body ≡ Some b) (et : types f.method f.pc ≡ Some t)
    (count : length f.locals ≡ b.max_locals) (spaced : AreSpaced f.locals) (hl : AllTwo (Has P f.method m (numbers_of s.objects)) t.locals f.locals) (hs : AllTwo (HasItem P f.method m (numbers_of s.objects)) t.stack f.operands) (next : ℕ)
    (fit : (p : ℕ) → IfSome (slice_get s.objects p) (ObjectFits P (numbers_of s.objects))) (start : BeginWith P.first_objects s.objects) (statics : AllTwo (HasDeclared P (numbers_of s.objects)) P.statics s.statics) where
  abbrev Fit : Effect → Type 0
  Fit e = EffectFits P types limits s m b f e

  abbrev RowChecked : Row → Type 0
  RowChecked row = IsChecked (row_check P f.method m b (types f.method) f.pc t row) (GoesOn P (types f.method) next)

  quiet_fits : (row : Row) → RaisesNothing row → IsResolvedRow P m row → RowChecked row → Fit (effect P limits s f next row)
  quiet_fits rows.Nothing q r c = plain.nothing_fits P types law limits s m b f t count spaced hl hs next c
  quiet_fits (rows.Push v) q r c = plain.push_fits P types law limits s m b f t count spaced hl hs next v start r c
  quiet_fits (rows.Compute taken given compute) q r c =
      plain.compute_fits P types law limits s m b f t count spaced hl hs next IsTotal (λ u ns g x w. w x) taken given compute q (λ none. absurd none) c
  quiet_fits (rows.Load sort k) q r c = plain.load_fits P types law limits s m b f t count spaced hl hs next sort k c
  quiet_fits (rows.Store sort k) q r c = plain.store_fits P types law limits s m b f t count spaced hl hs next sort k c
  quiet_fits (rows.Shuffle form upper lower) q r c = plain.shuffle_fits P types law limits s m b f t count spaced hl hs next form upper lower c
  quiet_fits (rows.Return given) q r c = plain.return_fits P types law limits s m b f t count spaced hl hs next given c
  quiet_fits rows.Write q r c = plain.write_fits P types law limits s m b f t count spaced hl hs next c
  quiet_fits row q r c = absurd q

  module _ (faults : (x : Fault) → IsThrowable P (numbers_of s.objects) (fault_object x)) where
    linked_fits : (row : Row) → row_in P f.method f.pc ≡ Some (next, row) → IsResolvedRow P m row → RowChecked row → Fit (effect P limits s f next row)
    linked_fits rows.Nothing er r c = plain.nothing_fits P types law limits s m b f t count spaced hl hs next c
    linked_fits (rows.Push v) er r c = plain.push_fits P types law limits s m b f t count spaced hl hs next v start r c
    linked_fits (rows.Compute taken given compute) er r c =
        plain.compute_fits P types law limits s m b f t count spaced hl hs next (λ ns g. Unit {0}) (λ u ns g x w. tt) taken given compute tt (λ none. faults ArithmeticException) c
    linked_fits (rows.Branch taken test offset) er r c = plain.compare_fits P types law limits s m b f t count spaced hl hs next taken test offset c
    linked_fits (rows.BranchSame wanted offset) er r c = plain.same_fits P types law limits s m b f t count spaced hl hs next wanted offset c
    linked_fits (rows.BranchNull wanted offset) er r c = plain.null_fits P types law limits s m b f t count spaced hl hs next wanted offset c
    linked_fits (rows.Jump offset) er r c = plain.jump_fits P types law limits s m b f t count spaced hl hs next offset c
    linked_fits (rows.Switch default cases) er r c = plain.switch_fits P types law limits s m b f t count spaced hl hs next default cases c
    linked_fits (rows.Load sort k) er r c = plain.load_fits P types law limits s m b f t count spaced hl hs next sort k c
    linked_fits (rows.Store sort k) er r c = plain.store_fits P types law limits s m b f t count spaced hl hs next sort k c
    linked_fits (rows.Increment k x) er r c = plain.increment_fits P types law limits s m b f t count spaced hl hs next k x c
    linked_fits (rows.Shuffle form upper lower) er r c = plain.shuffle_fits P types law limits s m b f t count spaced hl hs next form upper lower c
    linked_fits (rows.GetStatic k) er r c = plain.static_fits P types law limits s m b f t count spaced hl hs next k statics c
    linked_fits (rows.PutStatic k) er r c = plain.put_static_fits P types law limits s m b f t count spaced hl hs next k c
    linked_fits (rows.GetField named owner k) er r c = objects.field_fits P types law limits s m b f t count spaced hl hs next fit faults named owner k r c
    linked_fits (rows.PutField named owner k) er r c = objects.put_field_fits P types law limits s m b f t count spaced hl hs next fit faults named owner k r c
    linked_fits (rows.New cl) er r c = objects.new_fits P types law limits s m b f t count spaced hl hs next fit faults cl er r c
    linked_fits (rows.NewNumbers code) er r c = objects.new_numbers_fits P types law limits s m b f t count spaced hl hs next fit faults code r c
    linked_fits (rows.NewReferences k) er r c = objects.new_references_fits P types law limits s m b f t count spaced hl hs next fit faults k r c
    linked_fits rows.Length er r c = objects.length_fits P types law limits s m b f t count spaced hl hs next fit faults c
    linked_fits (rows.LoadNumber number codes) er r c = objects.load_number_fits P types law limits s m b f t count spaced hl hs next fit faults number codes c
    linked_fits (rows.StoreNumber number codes kept) er r c = objects.store_number_fits P types law limits s m b f t count spaced hl hs next fit faults number codes kept c
    linked_fits rows.LoadReference er r c = objects.load_reference_fits P types law limits s m b f t count spaced hl hs next fit faults c
    linked_fits rows.StoreReference er r c = objects.store_reference_fits P types law limits s m b f t count spaced hl hs next fit faults c
    linked_fits (rows.Cast k) er r c = objects.cast_fits P types law limits s m b f t count spaced hl hs next fit faults k c
    linked_fits (rows.Test k) er r c = objects.test_fits P types law limits s m b f t count spaced hl hs next fit faults k c
    linked_fits rows.Monitor er r c = objects.monitor_fits P types law limits s m b f t count spaced hl hs next fit faults c
    linked_fits rows.Throw er r c = objects.throw_fits P types law limits s m b f t count spaced hl hs next fit faults c
    linked_fits (rows.CallStatic c2) er r c = calls.static_fits P types law typed limits s m b f t em eb et count spaced hl hs next fit faults c2 er r c
    linked_fits (rows.CallSpecial named c2) er r c = calls.special_fits P types law typed limits s m b f t em eb et count spaced hl hs next fit faults named c2 er r c
    linked_fits (rows.CallVirtual named c2) er r c = calls.virtual_fits P types law typed limits s m b f t em eb et count spaced hl hs next fit faults named c2 er r c
    linked_fits (rows.CallInterface named c2) er r c = calls.interface_fits P types law typed limits s m b f t em eb et count spaced hl hs next fit faults named c2 er r c
    linked_fits (rows.Return given) er r c = plain.return_fits P types law limits s m b f t count spaced hl hs next given c
    linked_fits rows.Read er r c = plain.read_fits P types law limits s m b f t count spaced hl hs next c
    linked_fits rows.Write er r c = plain.write_fits P types law limits s m b f t count spaced hl hs next c

  pub row_fits : (linked : Bool) (row : Row) → P.linked ≡ linked → (P.linked ≡ false → RaisesNothing row) → row_in P f.method f.pc ≡ Some (next, row) → IsResolvedRow P m row → RowChecked row → Fit (effect P limits s f next row)
  row_fits true row e q er r c = linked_fits (raised P law s.objects e start) row er r c
  row_fits false row e q er r c = quiet_fits row (q e) r c
