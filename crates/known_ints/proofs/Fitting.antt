-- Which part an instruction is told to be, by its row.
use Rattle.std.proofs.Common.{◌≡◌, ℕ, ℤ, pos, [], ◌∷◌, Some, refl, sym, ap, ◌∙◌, subst, inl, inr}
use Rattle.lists.proofs.Lemmas.{none≢some, some_same}
use Rattle.bytecode_model.specs.declared.Value.{Value}
use Rattle.bytecode_model.specs.declared.Value.TheVariants.{Int}
use Rattle.bytecode_model.specs.Program.{Program}
use Rattle.bytecode_model.specs.Rows as rows
use Rattle.bytecode_model.specs.Rows.{Row}
use Rattle.bytecode_model.specs.Types.{IntType, LongType, Numbers, References}
use Rattle.code_lines.specs.Lines.{IsLine}
use Rattle.code_lines.specs.Laws.{LinesAreOne}
use Rattle.loop_rules.specs.Further.Known.{Known}
use Rattle.loop_rules.specs.Further.Arrays.{AreApart}
use Rattle.known_ints.specs.declared.rows.Arithmetic.{Arithmetic}
use Rattle.known_ints.specs.declared.parts.Part.{Part}
use Rattle.known_ints.specs.declared.parts.Part.TheVariants as does
use Rattle.known_ints.specs.Rows.{computed_of}
use Rattle.known_ints.specs.Parts.{HasRow, IsOtherPart, IsPart}
use Rattle.known_ints.specs.Knowing.{IsConstantPart, IsReferenceLoad}

abbrev pub Fits : Known → Row → Part → Type 0
Fits known (rows.Push (Int c)) part = part ≡ does.Int c
Fits known (rows.Push v) part = IsConstantPart part
Fits known (rows.GetStatic f) part = ((c : ℤ) → known.constants f ≡ Some c → part ≡ does.Field c) × ((n : ℕ) → known.statics f ≡ Some n → part ≡ does.StaticArray (pos n))
Fits known (rows.GetField named owner index) part = (n : ℕ) → known.fields owner index ≡ Some n → part ≡ does.FieldArray (pos n)
Fits known (rows.Load (Numbers IntType) k) part = part ≡ does.Load k
Fits known (rows.Load References k) part = part ≡ does.LoadReference k
Fits known (rows.Store (Numbers IntType) k) part = part ≡ does.Store k
Fits known (rows.Store References k) part = part ≡ does.StoreReference k
Fits known (rows.Shuffle rows.Copy rows.One rows.Zero) part = part ≡ does.Copy
Fits known (rows.Compute (IntType ∷ IntType ∷ []) IntType compute) part = (a : Arithmetic) × (part ≡ does.Compute a) × (compute ≡ (λ y x. computed_of a y x))
Fits known (rows.NewNumbers code) part = part ≡ does.NewArray
Fits known (rows.NewReferences k) part = part ≡ does.NewArray
Fits known rows.Length part = part ≡ does.Length
Fits known (rows.StoreNumber t codes kept) part = part ≡ does.StoreNumber
Fits known r part = Unit {0}

-- the row reads no field of which something is known
record ReadsNone (known : Known) (r : Row) : Type 0 where
  constants : (f : ℕ) (c : ℤ) → r ≡ rows.GetStatic f → known.constants f ≡ Some c → ⊥
  statics : (f n : ℕ) → r ≡ rows.GetStatic f → known.statics f ≡ Some n → ⊥
  fields : (named owner index n : ℕ) → r ≡ rows.GetField named owner index → known.fields owner index ≡ Some n → ⊥

other_fits : (known : Known) (r : Row) → IsOtherPart r → ReadsNone known r → Fits known r does.Other
other_fits known (rows.Push v) h none = absurd h
other_fits known (rows.GetStatic f) h none = ((λ c is. absurd (none.constants f c refl is)), (λ n is. absurd (none.statics f n refl is)))
other_fits known (rows.GetField named owner index) h none = λ n is. absurd (none.fields named owner index n refl is)
other_fits known (rows.Load (Numbers IntType) k) h none = absurd h
other_fits known (rows.Load References k) h none = absurd h
other_fits known (rows.Store sort k) h none = absurd h
other_fits known (rows.Shuffle rows.Copy rows.One rows.Zero) h none = absurd h
other_fits known (rows.Compute (IntType ∷ IntType ∷ []) IntType compute) h none = absurd h
other_fits known (rows.NewNumbers code) h none = absurd h
other_fits known (rows.NewReferences k) h none = absurd h
other_fits known rows.Length h none = absurd h
other_fits known (rows.StoreNumber t codes kept) h none = absurd h
other_fits known r h none = tt

module _ (one : LinesAreOne) (P : Program) (known : Known) (apart : AreApart known) (m p next : ℕ) (r : Row) (line : IsLine P m p next r) where
  -- a row of the place ends there
  pub ends_there : {s : Row} → HasRow P m p s → IsLine P m p next s
  ends_there {s} has = subst (λ (q : ℕ). IsLine P m p q s) (one P m p has.0 next s r has.1 line).0 has.1

  same : {s : Row} → HasRow P m p s → s ≡ r
  same {s} has = (one P m p has.0 next s r has.1 line).1

  by_row : (s : Row) (part : Part) → HasRow P m p s → Fits known s part → Fits known r part
  by_row s part has fits = subst (λ (x : Row). Fits known x part) (same has) fits

  constant_fits : (v : Value) → HasRow P m p (rows.Push v) → ((c : ℤ) → HasRow P m p (rows.Push (Int c)) → ⊥) → Fits known r does.Constant
  constant_fits (Int c) has none = absurd (none c has)
  constant_fits v has none = by_row (rows.Push v) does.Constant has tt

  pub fits : (part : Part) → IsPart P known m p part → Fits known r part
  fits (does.Int c) h = by_row (rows.Push (Int c)) (does.Int c) h refl
  fits does.Constant h = constant_fits h.value h.push h.no_int
  fits (does.Field c) (n, f, has, is) =
      by_row (rows.GetStatic f) (does.Field c) (n, has) ((λ d e. ap does.Field (some_same c d (sym is ∙ e))), (λ k e. absurd (none≢some c (sym (apart f k e) ∙ is))))
  fits (does.StaticArray c) h = by_row (rows.GetStatic h.field) (does.StaticArray c) h.read (
    (λ d e. absurd (none≢some d (sym (apart h.field h.elements h.holds) ∙ e))),
    (λ k e. ap does.StaticArray (h.is ∙ ap pos (some_same h.elements k (sym h.holds ∙ e)))),
  )
  fits (does.FieldArray c) h =
      by_row (rows.GetField h.named h.owner h.index) (does.FieldArray c) h.read (λ k e. ap does.FieldArray (h.is ∙ ap pos (some_same h.elements k (sym h.holds ∙ e))))
  fits (does.Load k) h = by_row (rows.Load (Numbers IntType) k) (does.Load k) h refl
  fits (does.LoadReference k) h = by_row (rows.Load References k) (does.LoadReference k) h refl
  fits (does.Store k) h = by_row (rows.Store (Numbers IntType) k) (does.Store k) h refl
  fits (does.StoreReference k) h = by_row (rows.Store References k) (does.StoreReference k) h refl
  fits (does.StoreLong k) h = by_row (rows.Store (Numbers LongType) k) (does.StoreLong k) h tt
  fits (does.Increment k) (n, h) = by_row (rows.Increment k n) (does.Increment k) h tt
  fits does.Copy h = by_row (rows.Shuffle rows.Copy rows.One rows.Zero) does.Copy h refl
  fits (does.Compute a) h = by_row (rows.Compute (IntType ∷ IntType ∷ []) IntType (λ y x. computed_of a y x)) (does.Compute a) h (a, refl, refl)
  fits does.NewArray (inl (code, h)) = by_row (rows.NewNumbers code) does.NewArray h refl
  fits does.NewArray (inr (k, h)) = by_row (rows.NewReferences k) does.NewArray h refl
  fits does.Length h = by_row rows.Length does.Length h refl
  fits does.StoreNumber h = by_row (rows.StoreNumber h.type h.codes h.kept) does.StoreNumber h.store refl
  fits does.Other h =
      other_fits known r (h.other next r line)
      (record {
        constants = λ f c e is. h.no_field c (next, f, at e, is);
        statics = λ f n e is. h.no_array n (inl (f, next, at e, is));
        fields = λ named owner index n e is. h.no_array n (inr (named, owner, index, next, at e, is));
      })
    where
      at : {s : Row} → r ≡ s → IsLine P m p next s
      at {s} e = subst (λ (x : Row). IsLine P m p next x) e line

-- a constant is pushed where the part says so
pub pushes_constant : (P : Program) (known : Known) (m p : ℕ) (part : Part) → IsPart P known m p part → IsConstantPart part → (v : Value) × HasRow P m p (rows.Push v)
pushes_constant P known m p (does.Int c) h is = (Int c, h)
pushes_constant P known m p does.Constant h is = (h.value, h.push)
pushes_constant P known m p _ h is = absurd is

pub constant_part : (known : Known) (v : Value) (part : Part) → Fits known (rows.Push v) part → IsConstantPart part
constant_part known (Int c) part h = subst IsConstantPart (sym h) tt
constant_part known v part h = h

-- a reference is loaded where the part says so
pub loads_reference : (P : Program) (known : Known) (m p : ℕ) (part : Part) → IsPart P known m p part → IsReferenceLoad part → (k : ℕ) × HasRow P m p (rows.Load References k)
loads_reference P known m p (does.LoadReference k) h is = (k, h)
loads_reference P known m p _ h is = absurd is
