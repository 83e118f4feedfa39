-- What is known of fields by the puts of a program.
use Rattle.std.proofs.Common.{◌≡◌, ◌↔◌, ℕ, zero, suc, ◌<◌, ℤ, pos, negsuc, List, [], ◌∷◌, length, Contains, inl, inr, Option, Some, None, refl, sym, ap, ◌∙◌, subst, arith}
use Rattle.std.specs.Prelude.{slice_get, IsSome}
use Rattle.std.specs.Option.{option_map, IsSomeAnd}
use Rattle.std.proofs.lemmas.Bool.{cases_lt}
use Rattle.lists.specs.Lists.{onto}
use Rattle.lists.proofs.Lemmas.{none≢some, some_same, onto_some, map_some, some_is}
use Rattle.class_pool.specs.declared.class.ClassFile.{ClassFile}
use Rattle.opcodes.specs.Start.{IsStart}
use Rattle.bytecode_model.specs.Lists.{natural}
use Rattle.bytecode_model.specs.Types.{Declared}
use Rattle.bytecode_model.specs.Program.{Program, Body, body_of}
use Rattle.bytecode_model.specs.Rows as rows
use Rattle.bytecode_model.specs.Rows.{Row}
use Rattle.code_lines.specs.Lines.{IsLine}
use Rattle.program_tables.specs.Resolved.{resolved}
use Rattle.loop_rules.specs.declared.further.table.KnownInt.{KnownInt}
use Rattle.loop_rules.specs.Further.Known.{Known, PushesArray}
use Rattle.loop_rules.specs.Further.Found.{Table, known_at, only_constants}
use Rattle.loop_rules.specs.Further.Fields.{IsReferenceType}
use Rattle.loop_rules.specs.Further.Arrays.{GivesArray, WritesStatic, WritesField, AllGive, IsStaticArray, IsFieldArray, IsKnownBy, AreTables, length_at}
use Rattle.array_fields.specs.declared.rows.Field.{Field}
use Rattle.array_fields.specs.declared.rows.Field.TheVariants.{Static, Instance}
use Rattle.array_fields.specs.declared.puts.Put.{Put}
use Rattle.array_fields.specs.Puts.{length_put, PutsField, ArePuts, static_index, static_target, PutsTo}
use Rattle.array_fields.specs.Lengths.{FieldLengths, known_by, HoldsStatic, AreStaticLengths, PutsToField, HoldsField, AreClassLengths}
use Rattle.array_fields.proofs.Lining.{put_static_row, put_field_row}
use Rattle.array_fields.proofs.Starting.{no_fields}

-- ---- lengths as numbers

pos_same : (n k : ℕ) → pos n ≡ pos k → n ≡ k
pos_same n k e = cc

natural_is : (c : ℤ) (n : ℕ) → (natural c ≡ Some n) ↔ (c ≡ pos n)
natural_is (pos k) n = (λ h. ap pos (some_same k n h), λ h. ap (λ (z : ℕ). Some z) (pos_same k n h))
natural_is (negsuc k) n = (λ h. absurd (none≢some n h), λ h. absurd (let no : ⊥ = cc in no))

length_is : (o : Option ℤ) (n : ℕ) → (onto o natural ≡ Some n) ↔ (o ≡ Some (pos n))
length_is None n = (λ h. absurd (none≢some n h), λ h. absurd (none≢some (pos n) h))
length_is (Some c) n = (λ h. ap (λ (z : ℤ). Some z) ((natural_is c n).0 h), λ h. (natural_is c n).1 (some_same c (pos n) h))

-- ---- what a put gives, by the tables

item_at : {A : Type 0} (xs : List A) (i : ℕ) → i < length xs → (x : A) × (slice_get xs i ≡ Some x)
item_at [] i lt = absurd (omega (arith, lt))
item_at (x ∷ xs) zero lt = (x, refl)
item_at (x ∷ xs) (suc i) lt = item_at xs i (omega (arith, lt))

module _ (P : Program) (constants : ℕ → Option ℤ) (ts : List Table) (tables : AreTables P (only_constants constants) ts) where
  abbrev known : Known
  known = only_constants constants

  gives_put : (m p n : ℕ) → length_put ts m p ≡ Some (pos n) → GivesArray P known m p n
  gives_put m p n h =
      let t = onto_some (slice_get ts m) (λ (t : Table). option_map (λ (x : KnownInt). x.value) (known_at t.lengths p)) (pos n) h in
      let x = map_some (λ (x : KnownInt). x.value) (known_at t.0.lengths p) (pos n) t.2 in
      let k = (tables.lengths m t.0 t.1 p x.0).0 x.1 in
      let same : k.1 ≡ n = pos_same k.1 n (sym k.2 ∙ x.2) in
      (k.0, x.0.from, subst (λ (z : ℕ). PushesArray P known m x.0.from p z) same k.3)

  put_gives : (m p n : ℕ) → m < length ts → GivesArray P known m p n → length_put ts m p ≡ Some (pos n)
  put_gives m p n lt g =
      let t = item_at ts m lt in
      let x : KnownInt = record { from = g.1; value = pos n } in
      let at = (tables.lengths m t.0 t.1 p x).1 (g.0, n, refl, g.2) in
      ap (λ (o : Option Table). onto o (λ (t : Table). option_map (λ (x : KnownInt). x.value) (known_at t.lengths p))) t.1 ∙ ap (option_map (λ (x : KnownInt). x.value)) at

  -- a method with lines has a table
  table_there : (m p next : ℕ) (r : Row) → IsLine P m p next r → m < length ts
  table_there m p next r line =
      let b = some_is (body_of P m) (λ (x : Body). IsStart x.code p) line.start in
      (tables.coded m).0 (subst (λ (o : Option Body). IsSome o) (sym b.1) refl)

  -- puts of lengths, told by places
  module _ (Writes : (method place : ℕ) → Type 0) (Puts : Option ℤ → Type 0) (n : ℕ) (coded : (m p : ℕ) → Writes m p → m < length ts) (found : (m p : ℕ) → Writes m p → Puts (length_put ts m p))
      (placed : (l : Option ℤ) → Puts l → (m : ℕ) × (p : ℕ) × Writes m p × (length_put ts m p ≡ l)) where
    all_give : Puts (Some (pos n)) → ((l : Option ℤ) → Puts l → l ≡ Some (pos n)) → AllGive P known Writes n
    all_give one each =
        let at = placed (Some (pos n)) one in
        record { method = at.0; place = at.1; writes = at.2; each = λ m p w. gives_put m p n (each (length_put ts m p) (found m p w)) }

    one_gives : AllGive P known Writes n → Puts (Some (pos n))
    one_gives all = subst Puts (put_gives all.method all.place n (coded all.method all.place all.writes) (all.each all.method all.place all.writes)) (found all.method all.place all.writes)

    each_gives : AllGive P known Writes n → (l : Option ℤ) → Puts l → l ≡ Some (pos n)
    each_gives all l put = let at = placed l put in sym at.3 ∙ put_gives at.0 at.1 n (coded at.0 at.1 at.2) (all.each at.0 at.1 at.2)

  module _ (puts : List Put) (are : ArePuts P ts puts) where
    put_of : (m p : ℕ) (f : Field) → PutsField P m p f → Contains puts (record { field = f; length = length_put ts m p })
    put_of m p f w = (are (record { field = f; length = length_put ts m p })).1 (record { method = m; place = p; puts = w; length = refl })

    -- ---- static fields

    static_is : (f : Field) (k : ℕ) → static_index f ≡ Some k → f ≡ Static k
    static_is (Static g) k h = ap Static (some_same g k h)
    static_is (Instance owner index) k h = absurd (none≢some k h)

    static_found : (f m p : ℕ) → WritesStatic P f m p → PutsTo static_target puts f (length_put ts m p)
    static_found f m p w = (record { field = Static f; length = length_put ts m p }, put_of m p (Static f) (w.0, rows.PutStatic f, w.1, refl), refl, refl)

    static_placed : (f : ℕ) (l : Option ℤ) → PutsTo static_target puts f l → (m : ℕ) × (p : ℕ) × WritesStatic P f m p × (length_put ts m p ≡ l)
    static_placed f l put =
        let x = (are put.0).0 put.1 in
        let w = x.puts in
        let row : w.1 ≡ rows.PutStatic f = put_static_row w.1 f (w.3 ∙ ap (λ (g : Field). Some g) (static_is put.0.field f put.2)) in
        (x.method, x.place, (w.0, subst (λ (r : Row). IsLine P x.method x.place w.0 r) row w.2), x.length ∙ put.3)

    static_coded : (f m p : ℕ) → WritesStatic P f m p → m < length ts
    static_coded f m p w = table_there m p w.0 (rows.PutStatic f) w.1

    pub static_array : (f n : ℕ) → HoldsStatic P puts f (pos n) ↔ IsStaticArray P known f n
    static_array f n = (
      λ h. record { first = h.first; puts = all_give (WritesStatic P f) (PutsTo static_target puts f) n (static_coded f) (static_found f) (static_placed f) h.put h.each },
      λ h. record {
        first = h.first;
        put = one_gives (WritesStatic P f) (PutsTo static_target puts f) n (static_coded f) (static_found f) (static_placed f) h.puts;
        each = each_gives (WritesStatic P f) (PutsTo static_target puts f) n (static_coded f) (static_found f) (static_placed f) h.puts;
      },
    )

    -- ---- instance fields

    module _ (owner index : ℕ) where
      field_found : (m p : ℕ) → WritesField P owner index m p → PutsToField P puts owner index (length_put ts m p)
      field_found m p w = (
        record { field = Instance w.other index; length = length_put ts m p },
        put_of m p (Instance w.other index) (w.next, rows.PutField w.named w.other index, w.line, refl),
        record { other = w.other; class = w.class; field = refl; of_owner = w.of_owner; of_other = w.of_other },
        refl,
      )

      field_placed : (l : Option ℤ) → PutsToField P puts owner index l → (m : ℕ) × (p : ℕ) × WritesField P owner index m p × (length_put ts m p ≡ l)
      field_placed l put =
          let x = (are put.0).0 put.1 in
          let w = x.puts in
          let may = put.2 in
          let row = put_field_row w.1 may.other index (w.3 ∙ ap (λ (g : Field). Some g) may.field) in (
            x.method,
            x.place,
            record {
              next = w.0;
              named = row.0;
              other = may.other;
              class = may.class;
              line = subst (λ (r : Row). IsLine P x.method x.place w.0 r) row.1 w.2;
              of_owner = may.of_owner;
              of_other = may.of_other;
            },
            x.length ∙ put.3,
          )

      field_coded : (m p : ℕ) → WritesField P owner index m p → m < length ts
      field_coded m p w = table_there m p w.next (rows.PutField w.named w.other index) w.line

      pub field_array : (n : ℕ) → HoldsField P puts owner index (pos n) ↔ IsFieldArray P known owner index n
      field_array n = (
        λ h. record { reference = h.reference; first = h.first; puts = all_give (WritesField P owner index) (PutsToField P puts owner index) n field_coded field_found field_placed h.put h.each },
        λ h. record {
          reference = h.reference;
          first = h.first;
          put = one_gives (WritesField P owner index) (PutsToField P puts owner index) n field_coded field_found field_placed h.puts;
          each = each_gives (WritesField P owner index) (PutsToField P puts owner index) n field_coded field_found field_placed h.puts;
        },
      )

-- ---- of a program

pub known_fields : (cs : List ClassFile) (constants : ℕ → Option ℤ) (ts : List Table) (puts : List Put) (a : FieldLengths) → AreTables (resolved cs) (only_constants constants) ts → ArePuts (resolved cs) ts puts
    → AreStaticLengths (resolved cs) puts a.statics → AreClassLengths (resolved cs) puts (length cs) a.fields → IsKnownBy (resolved cs) constants (known_by constants a)
known_fields cs constants ts puts a tables are statics fields = record {
  constants_are = λ f. refl;
  statics_are = λ f n.
      let is = length_is (length_at a.statics f) n in
      let array = static_array (resolved cs) constants ts tables puts are f n in
      (λ h. array.0 ((statics f (pos n)).0 (is.0 h)), λ h. is.1 ((statics f (pos n)).1 (array.1 h)));
  fields_are = λ owner index n.
      let array = field_array (resolved cs) constants ts tables puts are owner index n in
      let P = resolved cs in (
        λ h.
            let xs = onto_some (slice_get a.fields owner) (λ (xs : List (Option ℤ)). onto (length_at xs index) natural) n h in
            array.0 ((fields.each owner xs.0 xs.1 index (pos n)).0 ((length_is (length_at xs.0 index) n).0 xs.2)),
        λ h.
            let lt = class_there cs owner index h.reference in
            let long = fields.long in
            let xs = item_at a.fields owner (let within : owner < length a.fields = omega arith in within) in
            ap (λ (o : Option (List (Option ℤ))). onto o (λ (xs : List (Option ℤ)). onto (length_at xs index) natural)) xs.1
            ∙ (length_is (length_at xs.0 index) n).1 ((fields.each owner xs.0 xs.1 index (pos n)).1 (array.1 h)),
      );
}
  where
    -- a field is one of a class
    class_there : (cs : List ClassFile) (owner index : ℕ) → IsSomeAnd (slice_get ((resolved cs).fields owner) index) IsReferenceType → owner < length cs
    class_there cs owner index h =
        elim (cases_lt owner (length cs)) [
          | inl lt ↦ lt
          | inr past ↦
              let d = some_is (slice_get ((resolved cs).fields owner) index) IsReferenceType h in
              absurd (none≢some d.0 (sym (ap (λ (ds : List Declared). slice_get ds index) (no_fields cs owner past)) ∙ d.1))
        ]
