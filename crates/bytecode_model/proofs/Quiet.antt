-- Effects that neither raise nor call.
use Rattle.std.proofs.Common.{ℕ, Bool, true, false, List, [], ◌∷◌, Option, Some, None, ℤ, pos, ◌+ℤ◌, slice_get}
use Rattle.bytecode_model.specs.declared.Value.{Value}
use Rattle.bytecode_model.specs.declared.Value.TheVariants.{Int, Long, Ref, Null, Unset}
use Rattle.bytecode_model.specs.Lists.{replaced, natural}
use Rattle.bytecode_model.specs.Types.{NumberType, IntType, LongType, Moved, is_moved, suits}
use Rattle.bytecode_model.specs.State.{Frame, State}
use Rattle.bytecode_model.specs.Program.{Program, Limits}
use Rattle.bytecode_model.specs.Rows as rows
use Rattle.bytecode_model.specs.Rows.{Row, FunctionOf}
use Rattle.bytecode_model.specs.Effects.{Effect, Stuck, Go, Make, WritePart, WriteStatic, Take, Give, Call, Leave, Raise, ArithmeticException, effect, on, or_fault, only_if, on_top, on_number, on_numbers, same, same_bool, is_instance, at_offset, branch, offset_of_key, stored, incremented, shuffle, number}

abbrev pub IsQuiet : Effect → Type 0
IsQuiet Stuck = Unit {0}
IsQuiet (Go pc ls ops) = Unit {0}
IsQuiet (Make o pc ls ops) = Unit {0}
IsQuiet (WritePart p k v pc ls ops) = Unit {0}
IsQuiet (WriteStatic k v pc ls ops) = Unit {0}
IsQuiet (Take pc ls ops) = Unit {0}
IsQuiet (Give byte pc ls ops) = Unit {0}
IsQuiet (Call m args ops) = ⊥
IsQuiet (Leave result) = Unit {0}
IsQuiet (Raise p) = ⊥

on_quiet : {A : Type 0} (o : Option A) (go : A → Effect) → ((x : A) → IsQuiet (go x)) → IsQuiet (on o go)
on_quiet None go h = tt
on_quiet (Some x) go h = h x

only_if_quiet : (b : Bool) (e : Effect) → IsQuiet e → IsQuiet (only_if b e)
only_if_quiet true e h = h
only_if_quiet false e h = tt

on_top_quiet : (ops : List Value) (go : Value → List Value → Effect) → ((v : Value) (rest : List Value) → IsQuiet (go v rest)) → IsQuiet (on_top ops go)
on_top_quiet [] go h = tt
on_top_quiet (v ∷ rest) go h = h v rest

on_number_quiet : (t : NumberType) (ops : List Value) (go : ℤ → List Value → Effect) → ((n : ℤ) (rest : List Value) → IsQuiet (go n rest)) → IsQuiet (on_number t ops go)
on_number_quiet IntType [] go h = tt
on_number_quiet IntType (Int n ∷ rest) go h = h n rest
on_number_quiet IntType (Long n ∷ rest) go h = tt
on_number_quiet IntType (Ref p ∷ rest) go h = tt
on_number_quiet IntType (Null ∷ rest) go h = tt
on_number_quiet IntType (Unset ∷ rest) go h = tt
on_number_quiet LongType [] go h = tt
on_number_quiet LongType (Int n ∷ rest) go h = tt
on_number_quiet LongType (Long n ∷ rest) go h = h n rest
on_number_quiet LongType (Ref p ∷ rest) go h = tt
on_number_quiet LongType (Null ∷ rest) go h = tt
on_number_quiet LongType (Unset ∷ rest) go h = tt

on_numbers_quiet : (R : Type 0) (ts : List NumberType) (f : FunctionOf ts R) (ops : List Value) (go : R → List Value → Effect)
    → ((r : R) (rest : List Value) → IsQuiet (go r rest)) → IsQuiet (on_numbers R ts f ops go)
on_numbers_quiet R [] r ops go h = h r ops
on_numbers_quiet R (t ∷ ts) f ops go h = on_number_quiet t ops (λ n rest. on_numbers R ts (f n) rest go) (λ n rest. on_numbers_quiet R ts (f n) rest go h)

at_offset_quiet : (f : Frame) (offset : ℤ) (ops : List Value) → IsQuiet (at_offset f offset ops)
at_offset_quiet f offset ops = on_quiet (natural (pos f.pc +ℤ offset)) (λ pc. Go pc f.locals ops) (λ pc. tt)

branch_quiet : (f : Frame) (next : ℕ) (taken : Bool) (offset : ℤ) (ops : List Value) → IsQuiet (branch f next taken offset ops)
branch_quiet f next true offset ops = at_offset_quiet f offset ops
branch_quiet f next false offset ops = tt

-- a function that always gives a number
abbrev pub IsTotal : (ts : List NumberType) → FunctionOf ts (Option ℤ) → Type 0
IsTotal [] None = ⊥
IsTotal [] (Some n) = Unit {0}
IsTotal (t ∷ ts) f = (n : ℤ) → IsTotal ts (f n)

-- rows whose effect is quiet, whatever the state
abbrev pub IsQuietRow : Row → Type 0
IsQuietRow rows.Nothing = Unit {0}
IsQuietRow (rows.Push v) = Unit {0}
IsQuietRow (rows.Compute taken given compute) = IsTotal taken compute
IsQuietRow (rows.Branch taken test offset) = Unit {0}
IsQuietRow (rows.BranchSame wanted offset) = Unit {0}
IsQuietRow (rows.BranchNull wanted offset) = Unit {0}
IsQuietRow (rows.Jump offset) = Unit {0}
IsQuietRow (rows.Switch default cases) = Unit {0}
IsQuietRow (rows.Load sort k) = Unit {0}
IsQuietRow (rows.Store sort k) = Unit {0}
IsQuietRow (rows.Increment k n) = Unit {0}
IsQuietRow (rows.Shuffle form upper lower) = Unit {0}
IsQuietRow (rows.GetStatic k) = Unit {0}
IsQuietRow (rows.PutStatic k) = Unit {0}
IsQuietRow (rows.Test k) = Unit {0}
IsQuietRow (rows.Return sort) = Unit {0}
IsQuietRow rows.Read = Unit {0}
IsQuietRow rows.Write = Unit {0}
IsQuietRow r = ⊥

computed_quiet : (P : Program) (limits : Limits) (s : State) (f : Frame) (next : ℕ) (given : NumberType) (ts : List NumberType) (compute : FunctionOf ts (Option ℤ)) (ops : List Value)
    → IsTotal ts compute → IsQuiet (on_numbers (Option ℤ) ts compute ops (λ r rest. or_fault ArithmeticException r (λ n. Go next f.locals (number given n ∷ rest))))
computed_quiet P limits s f next given [] None ops total = absurd total
computed_quiet P limits s f next given [] (Some n) ops total = tt
computed_quiet P limits s f next given (t ∷ ts) compute ops total =
    on_number_quiet t ops (λ n rest. on_numbers (Option ℤ) ts (compute n) rest (λ r rest2. or_fault ArithmeticException r (λ m. Go next f.locals (number given m ∷ rest2))))
    (λ n rest. computed_quiet P limits s f next given ts (compute n) rest (total n))

module _ (P : Program) (limits : Limits) (s : State) (f : Frame) (next : ℕ) where
  returns_quiet : (sort : Option Moved) → IsQuiet (effect P limits s f next (rows.Return sort))
  returns_quiet None = tt
  returns_quiet (Some sort) = on_top_quiet f.operands (λ v rest. only_if (is_moved sort v) (Leave (Some v))) (λ v rest. only_if_quiet (is_moved sort v) (Leave (Some v)) tt)

  pub effect_quiet : (r : Row) → IsQuietRow r → IsQuiet (effect P limits s f next r)
  effect_quiet rows.Nothing h = tt
  effect_quiet (rows.Push v) h = tt
  effect_quiet (rows.Compute taken given compute) h = computed_quiet P limits s f next given taken compute f.operands h
  effect_quiet (rows.Branch taken test offset) h = on_numbers_quiet Bool taken test f.operands (λ b rest. branch f next b offset rest) (λ b rest. branch_quiet f next b offset rest)
  effect_quiet (rows.BranchSame wanted offset) h =
      on_top_quiet f.operands _ (λ v rest. on_top_quiet rest _ (λ w rest2. on_quiet (same v w) _ (λ b. branch_quiet f next (same_bool b wanted) offset rest2)))
  effect_quiet (rows.BranchNull wanted offset) h = on_top_quiet f.operands _ (λ v rest. on_quiet (same v Null) _ (λ b. branch_quiet f next (same_bool b wanted) offset rest))
  effect_quiet (rows.Jump offset) h = at_offset_quiet f offset f.operands
  effect_quiet (rows.Switch default cases) h = on_number_quiet IntType f.operands _ (λ key rest. at_offset_quiet f (offset_of_key default cases key) rest)
  effect_quiet (rows.Load sort k) h = on_quiet (slice_get f.locals k) _ (λ v. only_if_quiet (is_moved sort v) _ tt)
  effect_quiet (rows.Store sort k) h = on_top_quiet f.operands _ (λ v rest. only_if_quiet (is_moved sort v) _ (on_quiet (stored f.locals k v) _ (λ ls. tt)))
  effect_quiet (rows.Increment k n) h =
      on_quiet (slice_get f.locals k) _ (λ v. on_quiet (incremented v n) _ (λ u. on_quiet (replaced f.locals k u) _ (λ ls. tt)))
  effect_quiet (rows.Shuffle form upper lower) h = on_quiet (shuffle form upper lower f.operands) _ (λ ops. tt)
  effect_quiet (rows.GetStatic k) h = on_quiet (slice_get s.statics k) _ (λ v. tt)
  effect_quiet (rows.PutStatic k) h = on_top_quiet f.operands _ (λ v rest. on_quiet (slice_get P.statics k) _ (λ d. only_if_quiet (suits d v) _ tt))
  effect_quiet (rows.GetField named owner k) h = absurd h
  effect_quiet (rows.PutField named owner k) h = absurd h
  effect_quiet (rows.New c) h = absurd h
  effect_quiet (rows.NewNumbers code) h = absurd h
  effect_quiet (rows.NewReferences k) h = absurd h
  effect_quiet rows.Length h = absurd h
  effect_quiet (rows.LoadNumber t codes) h = absurd h
  effect_quiet (rows.StoreNumber t codes kept) h = absurd h
  effect_quiet rows.LoadReference h = absurd h
  effect_quiet rows.StoreReference h = absurd h
  effect_quiet (rows.Cast k) h = absurd h
  effect_quiet (rows.Test k) h = on_top_quiet f.operands _ (λ v rest. on_quiet (is_instance P s.objects false k v) _ (λ b. tt))
  effect_quiet rows.Monitor h = absurd h
  effect_quiet rows.Throw h = absurd h
  effect_quiet (rows.CallStatic m) h = absurd h
  effect_quiet (rows.CallSpecial named m) h = absurd h
  effect_quiet (rows.CallVirtual named m) h = absurd h
  effect_quiet (rows.CallInterface named m) h = absurd h
  effect_quiet (rows.Return sort) h = returns_quiet sort
  effect_quiet rows.Read h = tt
  effect_quiet rows.Write h = on_number_quiet IntType f.operands _ (λ n rest. tt)
