-- Where nothing more follows of what is found, all is found.
use Rattle.std.proofs.Common.{◌≡◌, ℕ, ℤ, pos, Option, Some, None, refl, sym, ap, ◌∙◌, subst, inl, inr, arith}
use Rattle.std.specs.Prelude.{false, MatchOption}
use Rattle.std.proofs.lemmas.Bool.{cases_Bool}
use Rattle.std.proofs.lemmas.Int.{ints}
use Rattle.bytecode_model.specs.declared.Value.{Value}
use Rattle.bytecode_model.specs.Program.{Program}
use Rattle.bytecode_model.specs.Rows as rows
use Rattle.bytecode_model.specs.Rows.{Row}
use Rattle.method_flow.specs.Nodes.{At}
use Rattle.code_lines.specs.Lines.{IsLine, IsNamed}
use Rattle.code_lines.specs.Laws.{LinesAreOne, OneStandsBefore}
use Rattle.code_scan.specs.Scans.{is_named, line_before}
use Rattle.loop_rules.specs.Further.Writing.{MayBeLast}
use Rattle.loop_rules.specs.Further.Known.{Known, Pushes, PushesArray, Stores, StoresArray}
use Rattle.loop_rules.specs.Further.Known.Pushes.{constant, field, local, length, computed}
use Rattle.loop_rules.specs.Further.Known.PushesArray.{numbers, references, of_static, of_instance, of_local, element}
use Rattle.loop_rules.specs.Further.Known.Stores.{stores}
use Rattle.loop_rules.specs.Further.Known.StoresArray.{keeps}
use Rattle.loop_rules.specs.Further.Laws.{FirstLinesAreReached, IsReachedFromBefore, LastWritesWrite, LinesBeforeAreReached}
use Rattle.known_ints.specs.declared.parts.Part.{Part}
use Rattle.known_ints.specs.declared.parts.Part.TheVariants as does
use Rattle.known_ints.specs.Parts.{part_at}
use Rattle.known_ints.specs.Code.{CodeOf, IsCodeOf}
use Rattle.loop_rules.specs.Further.Found.{Table, IsFollowing, known_at}
use Rattle.known_ints.specs.Knowing.{GivesInt, GivesIntAt, GivesLength, GivesLengthAt, IsConstantPart, IsDoneBefore, IsReferenceLoad, IsStoredBy, an_array, an_int}
use Rattle.known_ints.proofs.Fitting.{Fits, fits, constant_part}

module _ (one : LinesAreOne) (stands : OneStandsBefore) (first : FirstLinesAreReached) (wrote : LastWritesWrite) (come : LinesBeforeAreReached) (P : Program) (known : Known) (m : ℕ) (code : CodeOf) (of : IsCodeOf P known m code) (t : Table)
    (ints_closed : (p from : ℕ) (x : ℤ) → GivesIntAt P m code t p from x → known_at t.ints p ≡ Some (record { from = from; value = x }))
    (lengths_closed : (p from : ℕ) (x : ℤ) → GivesLengthAt P m code t p from x → known_at t.lengths p ≡ Some (record { from = from; value = x })) where
  before_is : (p q : ℕ) (r : Row) → IsLine P m p q r → line_before code.scan q ≡ Some p
  before_is p q r line = by (line_before code.scan q) refl (of.scan.before q)
    where
      by : (o : Option ℕ) → line_before code.scan q ≡ o → MatchOption o ((x : ℕ) (s : Row) → ¬ IsLine P m x q s) (λ x. (s : Row) × IsLine P m x q s) → line_before code.scan q ≡ Some p
      by None is h = absurd (h p r line)
      by (Some x) is h = is ∙ ap Some (stands P m x p q h.0 r h.1 line)

  not_named : (p : ℕ) → (¬ IsNamed P m p) → is_named code.scan p ≡ false
  not_named p none = elim (cases_Bool (is_named code.scan p)) [ inl named ↦ absurd (none ((of.scan.named p).0 named)) | inr is ↦ is ]

  part_fits : (p q : ℕ) (r : Row) → IsLine P m p q r → Fits known r (part_at code.parts p)
  part_fits p q r line = fits one P known of.apart m p q r line (part_at code.parts p) (of.parts p)

  from_before : (q : ℕ) → IsFollowing P m q → IsReachedFromBefore P m q
  from_before q f = record { stays = of.stays; reached = f.reached; unnamed = f.unnamed }

  -- so control comes to the last line, and to the one before it where nothing names that
  before : (p q : ℕ) (r : Row) → IsLine P m p q r → IsFollowing P m q → (¬ IsNamed P m p) → IsFollowing P m p
  before p q r line f unnamed = record { reached = come P m p q r (from_before q f) line; unnamed = unnamed }

  int_given : (p q from : ℕ) (x : ℤ) (r : Row) (part : Part) → IsLine P m p q r → IsFollowing P m q → part_at code.parts p ≡ part → GivesInt P m code t p part from x
      → known_at t.ints q ≡ Some (record { from = from; value = x })
  int_given p q from x r part line f is gives =
      ints_closed q from x (record { following = f; last = p; before = before_is p q r line; gives = subst (λ (z : Part). GivesInt P m code t p z from x) (sym is) gives })

  length_given : (p q from : ℕ) (x : ℤ) (r : Row) (part : Part) → IsLine P m p q r → IsFollowing P m q → part_at code.parts p ≡ part → GivesLength P m code t p part from x
      → known_at t.lengths q ≡ Some (record { from = from; value = x })
  length_given p q from x r part line f is gives =
      lengths_closed q from x (record { following = f; last = p; before = before_is p q r line; gives = subst (λ (z : Part). GivesLength P m code t p z from x) (sym is) gives })

  -- ---- what is stored

  abbrev IntIn : (k : ℕ) → Option ℕ → ℤ → Type 0
  IntIn k None c = ⊥
  IntIn k (Some w) c = IsStoredBy code.parts t.ints (an_int k) w c

  abbrev ArrayIn : (k : ℕ) → Option ℕ → ℕ → Type 0
  ArrayIn k None n = ⊥
  ArrayIn k (Some w) n = IsStoredBy code.parts t.lengths (an_array k) w (pos n)

  constant_done : (p q : ℕ) {v : Value} → IsLine P m p q (rows.Push v) → (¬ IsNamed P m q) → IsDoneBefore code IsConstantPart q p
  constant_done p q {v} line unnamed =
      record { unnamed = not_named q unnamed; is = before_is p q (rows.Push v) line; does_so = constant_part known v (part_at code.parts p) (part_fits p q (rows.Push v) line) }

  mutual
    pub int_known : {from to : ℕ} {c : ℤ} → Pushes P known m from to c → IsFollowing P m to → known_at t.ints to ≡ Some (record { from = from; value = c })
    int_known (constant {p} {next} {c} line) f = int_given p next p c _ (does.Int c) line f (part_fits p next _ line) (refl, refl)
    int_known (field {p} {next} {f = s} {c} line is never) f = int_given p next p c _ (does.Field c) line f ((part_fits p next _ line).0 c is) (refl, refl)
    int_known (local {p} {next} {k} {c} line writes) f =
        int_given p next p c _ (does.Load k) line f (part_fits p next _ line)
        (refl, record { written = λ l. int_stored (writes None l) l; stored = λ w l. int_stored (writes (Some w) l) l })
    int_known (length {from} {p} {next} {n} array line unnamed) f =
        int_given p next from (pos n) _ does.Length line f (part_fits p next _ line) (array_known array (before p next _ line f unnamed))
    int_known (computed {from} {second} {p} {next} {x} {y} {z} {compute} lower upper line second_unnamed unnamed is) f =
        let a = part_fits p next _ line in
        let there = before p next _ line f unnamed in
        let reached = first P known m second p y (from_before p there) upper in
        int_given p next from _ _ (does.Compute a.0) line f a.1
        (record {
          second = second;
          x = x;
          y = y;
          upper = int_known upper there;
          lower = int_known lower (record { reached = reached; unnamed = second_unnamed });
          computed = (z, ap (λ (g : ℤ → ℤ → Option ℤ). g y x) (sym a.2) ∙ is, refl);
        })

    pub array_known : {from to n : ℕ} → PushesArray P known m from to n → IsFollowing P m to → known_at t.lengths to ≡ Some (record { from = from; value = pos n })
    array_known (numbers {from} {p} {next} {n} pushes line unnamed) f =
        length_given p next from (pos n) _ does.NewArray line f (part_fits p next _ line) (int_known pushes (before p next _ line f unnamed), omega (arith, ints))
    array_known (references {from} {p} {next} {n} pushes line unnamed) f =
        length_given p next from (pos n) _ does.NewArray line f (part_fits p next _ line) (int_known pushes (before p next _ line f unnamed), omega (arith, ints))
    array_known (of_static {p} {next} {f = s} {n} line is) f = length_given p next p (pos n) _ (does.StaticArray (pos n)) line f ((part_fits p next _ line).1 n is) (refl, refl)
    array_known (of_instance {from} {p} {next} {n} load line unnamed is) f =
        length_given p next from (pos n) _ (does.FieldArray (pos n)) line f (part_fits p next _ line n is) (
          record {
            unnamed = not_named p unnamed;
            is = before_is from p _ load;
            does_so = subst IsReferenceLoad (sym (part_fits from p _ load)) tt;
          },
          refl,
        )
    array_known (of_local {p} {next} {k} {n} line writes) f =
        length_given p next p (pos n) _ (does.LoadReference k) line f (part_fits p next _ line)
        (refl, record { written = λ l. array_stored (writes None l) l; stored = λ w l. array_stored (writes (Some w) l) l })
    array_known (element {from} {copy} {index} {value} {store} {next} {n} array copies at of line copy_unnamed index_unnamed value_unnamed unnamed) f =
        let at_store = before store next _ line f unnamed in
        let at_value = before value store _ of at_store value_unnamed in
        let at_index = before index value _ at at_value index_unnamed in
        let at_copy = before copy index _ copies at_index copy_unnamed in
        length_given store next from (pos n) _ does.StoreNumber line f (part_fits store next _ line)
        (record {
          value = value;
          index = index;
          copy = copy;
          value_is = constant_done value store of unnamed;
          index_is = constant_done index value at value_unnamed;
          copy_is = record { unnamed = not_named index index_unnamed; is = before_is copy index _ copies; does_so = part_fits copy index _ copies };
          array = array_known array at_copy;
        })

    int_stored : {k : ℕ} {o : Option ℕ} {c : ℤ} → Stores P known m k o c → {p : ℕ} → MayBeLast P m k (At p) o → IntIn k o c
    int_stored (stores {k} {from} {w} {next} {c} pushes line unnamed) {p} last =
        record { is = part_fits w next _ line; from = from; pushed = int_known pushes (record { reached = (wrote P m k w (At p) last).0; unnamed = unnamed }) }

    array_stored : {k n : ℕ} {o : Option ℕ} → StoresArray P known m k o n → {p : ℕ} → MayBeLast P m k (At p) o → ArrayIn k o n
    array_stored (keeps {k} {from} {w} {next} {n} pushes line unnamed) {p} last =
        record { is = part_fits w next _ line; from = from; pushed = array_known pushes (record { reached = (wrote P m k w (At p) last).0; unnamed = unnamed }) }
