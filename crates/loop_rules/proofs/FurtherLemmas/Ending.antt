-- What the last of the lines does that push an int, or an array.
use Rattle.std.proofs.Common.{◌≡◌, ℕ, ℤ, pos, [], ◌∷◌, Option, Some, refl, subst}
use Rattle.std.specs.Int.{w32, int_wrap}
use Rattle.lists.proofs.Lemmas.{some_same}
use Rattle.bytecode_model.specs.declared.Value.{Value}
use Rattle.bytecode_model.specs.declared.Value.TheVariants.{Int}
use Rattle.bytecode_model.specs.Types.{IntType, Numbers, References}
use Rattle.bytecode_model.specs.Program.{Program}
use Rattle.bytecode_model.specs.Rows as rows
use Rattle.bytecode_model.specs.Rows.{Row}
use Rattle.method_flow.specs.Nodes.{At}
use Rattle.code_lines.specs.Lines.{IsLine}
use Rattle.code_lines.specs.Laws.{LinesAreOne, OneStandsBefore}
use Rattle.loop_rules.specs.Further.Writing.{MayBeLast}
use Rattle.loop_rules.specs.Further.Known.{Known, Pushes, PushesArray, Stores, StoresArray}
use Rattle.loop_rules.specs.Further.Known.Pushes.{constant, field, local, length, computed}
use Rattle.loop_rules.specs.Further.Known.PushesArray.{numbers, references, of_static, of_instance, of_local, element}
use Rattle.loop_rules.specs.Further.Known.Stores.{stores}
use Rattle.loop_rules.specs.Further.Known.StoresArray.{keeps}

pub record Computed (P : Program) (known : Known) (m from p : ℕ) (compute : ℤ → ℤ → Option ℤ) (c : ℤ) : Type 0 where
  pub second : ℕ
  pub x : ℤ
  pub y : ℤ
  pub z : ℤ
  pub lower : Pushes P known m from second x
  pub upper : Pushes P known m second p y
  pub is : compute y x ≡ Some z
  pub wraps : c ≡ int_wrap w32 z

pub record Elements (P : Program) (known : Known) (m from p n : ℕ) : Type 0 where
  pub copy : ℕ
  pub index : ℕ
  pub value : ℕ
  pub array : PushesArray P known m from copy n
  pub copies : IsLine P m copy index (rows.Shuffle rows.Copy rows.One rows.Zero)
  pub i : Value
  pub at : IsLine P m index value (rows.Push i)
  pub v : Value
  pub of : IsLine P m value p (rows.Push v)

-- the last line stands at p
abbrev pub Ends : Program → Known → (m : ℕ) → Row → (from p : ℕ) → ℤ → Type 0
Ends P known m (rows.Push (Int x)) from p c = (from ≡ p) × (c ≡ x)
Ends P known m (rows.GetStatic f) from p c = (from ≡ p) × (known.constants f ≡ Some c)
Ends P known m (rows.Load (Numbers IntType) k) from p c = (from ≡ p) × ((w : Option ℕ) → MayBeLast P m k (At p) w → Stores P known m k w c)
Ends P known m rows.Length from p c = (n : ℕ) × (c ≡ pos n) × PushesArray P known m from p n
Ends P known m (rows.Compute (IntType ∷ IntType ∷ []) IntType compute) from p c = Computed P known m from p compute c
Ends P known m r from p c = ⊥

abbrev pub EndsArray : Program → Known → (m : ℕ) → Row → (from p n : ℕ) → Type 0
EndsArray P known m (rows.NewNumbers code) from p n = Pushes P known m from p (pos n)
EndsArray P known m (rows.NewReferences k) from p n = Pushes P known m from p (pos n)
EndsArray P known m (rows.GetStatic f) from p n = (from ≡ p) × (known.statics f ≡ Some n)
EndsArray P known m (rows.GetField named owner index) from p n =
    (k : ℕ) × IsLine P m from p (rows.Load References k) × (known.fields owner index ≡ Some n)
EndsArray P known m (rows.Load References k) from p n = (from ≡ p) × ((w : Option ℕ) → MayBeLast P m k (At p) w → StoresArray P known m k w n)
EndsArray P known m (rows.StoreNumber t codes kept) from p n = Elements P known m from p n
EndsArray P known m r from p n = ⊥

ends : {P : Program} {known : Known} {m from to : ℕ} {c : ℤ} → Pushes P known m from to c → (p : ℕ) × (r : Row) × IsLine P m p to r × Ends P known m r from p c
ends (constant {p} {next} {c} line) = (p, rows.Push (Int c), line, (refl, refl))
ends (field {p} {next} {f} {c} line is never) = (p, rows.GetStatic f, line, (refl, is))
ends (local {p} {next} {k} {c} line writes) = (p, rows.Load (Numbers IntType) k, line, (refl, writes))
ends (length {from} {p} {next} {n} array line unnamed) = (p, rows.Length, line, (n, refl, array))
ends (computed {from} {second} {p} {next} {x} {y} {z} {compute} lower upper line second_unnamed unnamed is) =
    (p, rows.Compute (IntType ∷ IntType ∷ []) IntType compute, line, record { second = second; x = x; y = y; z = z; lower = lower; upper = upper; is = is; wraps = refl })

ends_array : {P : Program} {known : Known} {m from to n : ℕ} → PushesArray P known m from to n → (p : ℕ) × (r : Row) × IsLine P m p to r × EndsArray P known m r from p n
ends_array (numbers {from} {p} {next} {code} pushes line unnamed) = (p, rows.NewNumbers code, line, pushes)
ends_array (references {from} {p} {next} {n} {k} pushes line unnamed) = (p, rows.NewReferences k, line, pushes)
ends_array (of_static {p} {next} {f} line is) = (p, rows.GetStatic f, line, (refl, is))
ends_array (of_instance {from} {p} {next} {k} {named} {owner} {index} load line unnamed is) = (p, rows.GetField named owner index, line, (k, load, is))
ends_array (of_local {p} {next} {k} line writes) = (p, rows.Load References k, line, (refl, writes))
ends_array (element {copy} {index} {value} {store} {i} {v} {t} {codes} {kept} array copies at of line copy_unnamed index_unnamed value_unnamed unnamed) =
    (store, rows.StoreNumber t codes kept, line, record { copy = copy; index = index; value = value; array = array; copies = copies; i = i; at = at; v = v; of = of })

-- so do all lines that end there
module _ (one : LinesAreOne) (stands : OneStandsBefore) {P : Program} {m p to : ℕ} {r : Row} (line : IsLine P m p to r) where
  moved : (K : Row → ℕ → Type 0) (q : ℕ) (s : Row) → IsLine P m q to s → K s q → K r p
  moved K q s other k =
      let place : q ≡ p = stands P m q p to s r other line in
      let row : s ≡ r = (one P m p to to s r (subst (λ (x : ℕ). IsLine P m x to s) place other) line).1 in
      subst (λ (x : Row). K x p) row (subst (λ (x : ℕ). K s x) place k)

  pub ends_at : {known : Known} {from : ℕ} {c : ℤ} → Pushes P known m from to c → Ends P known m r from p c
  ends_at {known} {from} {c} pushes = let e = ends pushes in moved (λ s q. Ends P known m s from q c) e.0 e.1 e.2 e.3

  pub ends_array_at : {known : Known} {from n : ℕ} → PushesArray P known m from to n → EndsArray P known m r from p n
  ends_array_at {known} {from} {n} pushes = let e = ends_array pushes in moved (λ s q. EndsArray P known m s from q n) e.0 e.1 e.2 e.3

-- ---- what a store keeps

stored_at : {P : Program} {known : Known} {m k : ℕ} {o : Option ℕ} {c : ℤ} → Stores P known m k o c → (w : ℕ) → o ≡ Some w → (from : ℕ) × Pushes P known m from w c
stored_at {P} {known} {m} {c} (stores {from} {w = v} pushes line unnamed) w is = (from, subst (λ (x : ℕ). Pushes P known m from x c) (some_same v w is) pushes)

pub stored : {P : Program} {known : Known} {m k w : ℕ} {c : ℤ} → Stores P known m k (Some w) c → (from : ℕ) × Pushes P known m from w c
stored {w} h = stored_at h w refl

kept_at : {P : Program} {known : Known} {m k n : ℕ} {o : Option ℕ} → StoresArray P known m k o n → (w : ℕ) → o ≡ Some w → (from : ℕ) × PushesArray P known m from w n
kept_at {P} {known} {m} {n} (keeps {from} {w = v} pushes line unnamed) w is = (from, subst (λ (x : ℕ). PushesArray P known m from x n) (some_same v w is) pushes)

pub kept : {P : Program} {known : Known} {m k w n : ℕ} → StoresArray P known m k (Some w) n → (from : ℕ) × PushesArray P known m from w n
kept {w} h = kept_at h w refl
