-- What follows of what is found is so.
use Rattle.std.proofs.Common.{◌≡◌, ℕ, ℤ, pos, negsuc, false, Option, Some, None, refl, sym, ◌∙◌, subst, inl, inr, arith}
use Rattle.std.specs.Prelude.{◌≤ℤ◌, MatchOption}
use Rattle.std.proofs.lemmas.Bool.{both_ways}
use Rattle.std.proofs.lemmas.Int.{ints}
use Rattle.bytecode_model.specs.declared.Value.{Value}
use Rattle.bytecode_model.specs.Program.{Program}
use Rattle.bytecode_model.specs.Rows as rows
use Rattle.bytecode_model.specs.Rows.{Row}
use Rattle.bytecode_model.specs.Types.{References}
use Rattle.method_flow.specs.Nodes.{At, IsEdge, IsReached}
use Rattle.code_lines.specs.Lines.{IsLine, IsNamed}
use Rattle.code_lines.specs.Laws.{LinesAreOne}
use Rattle.code_scan.specs.Scans.{is_named, line_before}
use Rattle.loop_rules.specs.Further.Writing.{MayBeLast}
use Rattle.loop_rules.specs.Further.Known.{Known, Pushes, PushesArray, Stores, StoresArray}
use Rattle.loop_rules.specs.Further.Known.Pushes.{constant, field, local, length, computed}
use Rattle.loop_rules.specs.Further.Known.PushesArray.{numbers, references, of_static, of_instance, of_local, element}
use Rattle.loop_rules.specs.Further.Known.Stores.{stores}
use Rattle.loop_rules.specs.Further.Known.StoresArray.{keeps}
use Rattle.loop_rules.specs.Further.Laws.{LastWritesExist, LinesBeforeAreReached}
use Rattle.known_ints.specs.declared.parts.Part.{Part}
use Rattle.known_ints.specs.declared.parts.Part.TheVariants as does
use Rattle.known_ints.specs.Parts.{HasRow, IsPart, part_at}
use Rattle.known_ints.specs.Code.{CodeOf, IsCodeOf}
use Rattle.loop_rules.specs.Further.Found.{Table, IsFollowing, known_at}
use Rattle.known_ints.specs.Knowing.{GivesInt, GivesIntAt, GivesLength, GivesLengthAt, IsConstantPart, IsDoneBefore, IsReferenceLoad}
use Rattle.known_ints.specs.Rounds.{IsSound}
use Rattle.known_ints.proofs.Fitting.{ends_there, loads_reference, pushes_constant}

-- an int that isn't negative is a number of elements
natural_of : (x : ℤ) → pos 0 ≤ℤ x → (n : ℕ) × (x ≡ pos n)
natural_of (pos n) le = (n, refl)
natural_of (negsuc n) le = absurd (omega (arith, ints, le))

pos_same : (n l : ℕ) → pos n ≡ pos l → n ≡ l
pos_same n l e = cc

module _ (one : LinesAreOne) (exist : LastWritesExist) (come : LinesBeforeAreReached) (P : Program) (known : Known) (m : ℕ) (code : CodeOf) (of : IsCodeOf P known m code) where
  pub line_of : (p q : ℕ) → line_before code.scan p ≡ Some q → (r : Row) × IsLine P m q p r
  line_of p q is = subst (λ (o : Option ℕ). MatchOption o ((q : ℕ) (r : Row) → ¬ IsLine P m q p r) (λ q. (r : Row) × IsLine P m q p r)) is (of.scan.before p)

  pub unnamed_of : (p : ℕ) → is_named code.scan p ≡ false → ¬ IsNamed P m p
  unnamed_of p none named = both_ways (is_named code.scan p) none ((of.scan.named p).1 named)

  module _ (t : Table) (sound : IsSound P known m t) where
    -- the lines whose last one stands at `last` and ends at p
    module _ (p last : ℕ) (r : Row) (line : IsLine P m last p r) where
      ends : {s : Row} → HasRow P m last s → IsLine P m last p s
      ends {s} has = ends_there one P known of.apart m last p r line has

      stored_int : (k w : ℕ) (x : ℤ) → part_at code.parts w ≡ does.Store k → (from : ℕ) → known_at t.ints w ≡ Some (record { from = from; value = x }) → Stores P known m k (Some w) x
      stored_int k w x is from found =
          let s = sound.ints w (record { from = from; value = x }) found in
          let row = subst (IsPart P known m w) is (of.parts w) in
          stores s.1 row.1 s.0.unnamed

      pushes_by : (part : Part) → IsPart P known m last part → (from : ℕ) (x : ℤ) → GivesInt P m code t last part from x → Pushes P known m from p x
      pushes_by (does.Int c) has from x (at, is) =
          subst (λ (y : ℤ). Pushes P known m from p y) (sym is) (subst (λ (q : ℕ). Pushes P known m q p c) (sym at) (constant (ends has)))
      pushes_by (does.Field c) (n, f, has, value) from x (at, is) =
          subst (λ (y : ℤ). Pushes P known m from p y) (sym is) (subst (λ (q : ℕ). Pushes P known m q p c) (sym at) (field (ends (n, has)) value (of.never_put f c value)))
      pushes_by (does.Load k) has from x (at, h) = subst (λ (q : ℕ). Pushes P known m q p x) (sym at) (local (ends has) writes)
        where
          writes : (w : Option ℕ) → MayBeLast P m k (At last) w → Stores P known m k w x
          writes None l = absurd (h.written l)
          writes (Some w) l = let s = h.stored w l in stored_int k w x s.is s.from s.pushed
      pushes_by does.Length has from x found =
          let s = sound.lengths last (record { from = from; value = x }) found in
          subst (λ (y : ℤ). Pushes P known m from p y) (sym s.2) (length s.3 (ends has) s.0.unnamed)
      pushes_by (does.Compute a) has from x h =
          let upper = sound.ints last (record { from = h.second; value = h.y }) h.upper in
          let lower = sound.ints h.second (record { from = from; value = h.x }) h.lower in
          subst (λ (y : ℤ). Pushes P known m from p y) (sym h.computed.2) (computed lower.1 upper.1 (ends has) lower.0.unnamed upper.0.unnamed h.computed.1)
      pushes_by _ has from x h = absurd h

    abbrev Array : (p from : ℕ) → ℤ → Type 0
    Array p from x = (n : ℕ) × (x ≡ pos n) × PushesArray P known m from p n

    constant_line : (p q : ℕ) → IsDoneBefore code IsConstantPart p q → (v : Value) × IsLine P m q p (rows.Push v)
    constant_line p q h =
        let l = line_of p q h.is in
        let v = pushes_constant P known m q (part_at code.parts q) (of.parts q) h.does_so in
        (v.0, ends p q l.0 l.1 v.1)

    load_line : (p q : ℕ) → IsDoneBefore code IsReferenceLoad p q → (k : ℕ) × IsLine P m q p (rows.Load References k)
    load_line p q h =
        let l = line_of p q h.is in
        let k = loads_reference P known m q (part_at code.parts q) (of.parts q) h.does_so in
        (k.0, ends p q l.0 l.1 k.1)

    array_by : (p last : ℕ) (r : Row) (line : IsLine P m last p r) → IsReached (IsEdge P m) (At last) → (part : Part) → IsPart P known m last part → (from : ℕ) (x : ℤ)
        → GivesLength P m code t last part from x → Array p from x
    array_by p last r line reached does.NewArray (inl (code', has)) from x (found, le) =
        let s = sound.ints last (record { from = from; value = x }) found in
        let n = natural_of x le in
        (n.0, n.1, numbers (subst (λ (y : ℤ). Pushes P known m from last y) n.1 s.1) (ends p last r line has) s.0.unnamed)
    array_by p last r line reached does.NewArray (inr (k, has)) from x (found, le) =
        let s = sound.ints last (record { from = from; value = x }) found in
        let n = natural_of x le in
        (n.0, n.1, references (subst (λ (y : ℤ). Pushes P known m from last y) n.1 s.1) (ends p last r line has) s.0.unnamed)
    array_by p last r line reached (does.LoadReference k) has from x (at, h) = by (exist P m k (At last) of.stays reached)
      where
        kept : (w : ℕ) → MayBeLast P m k (At last) (Some w) → (n : ℕ) × (x ≡ pos n) × StoresArray P known m k (Some w) n
        kept w l =
            let s = h.stored w l in
            let a = sound.lengths w (record { from = s.from; value = x }) s.pushed in
            let row = subst (IsPart P known m w) s.is (of.parts w) in
            (a.1, a.2, keeps a.3 row.1 a.0.unnamed)

        by : (w : Option ℕ) × MayBeLast P m k (At last) w → Array p from x
        by (None, l) = absurd (h.written l)
        by (Some w, l) = (n, is, subst (λ (q : ℕ). PushesArray P known m q p n) (sym at) (of_local (ends p last r line has) writes))
          where
            n : ℕ
            n = (kept w l).0

            is : x ≡ pos n
            is = (kept w l).1

            writes : (o : Option ℕ) → MayBeLast P m k (At last) o → StoresArray P known m k o n
            writes None other = absurd (h.written other)
            writes (Some v) other = let a = kept v other in subst (λ (i : ℕ). StoresArray P known m k (Some v) i) (pos_same a.0 n (sym a.1 ∙ is)) a.2
    array_by p last r line reached (does.StaticArray c) has from x (at, is) =
        (has.elements, is ∙ has.is, subst (λ (q : ℕ). PushesArray P known m q p has.elements) (sym at) (of_static (ends p last r line has.read) has.holds))
    array_by p last r line reached (does.FieldArray c) has from x (loads, is) =
        let l = load_line last from loads in
        (has.elements, is ∙ has.is, of_instance l.1 (ends p last r line has.read) (unnamed_of last loads.unnamed) has.holds)
    array_by p last r line reached does.StoreNumber has from x h =
        let value = constant_line last h.value h.value_is in
        let index = constant_line h.value h.index h.index_is in
        let copy_line = line_of h.index h.copy h.copy_is.is in
        let copies = ends h.index h.copy copy_line.0 copy_line.1 (subst (IsPart P known m h.copy) h.copy_is.does_so (of.parts h.copy)) in
        let a = sound.lengths h.copy (record { from = from; value = x }) h.array in
        (a.1, a.2, element a.3 copies index.1 value.1 (ends p last r line has.store) a.0.unnamed (unnamed_of h.index h.copy_is.unnamed) (unnamed_of h.value h.index_is.unnamed) (unnamed_of last h.value_is.unnamed))
    array_by p last r line reached _ has from x h = absurd h

    pub int_sound : (p from : ℕ) (x : ℤ) → GivesIntAt P m code t p from x → IsFollowing P m p × Pushes P known m from p x
    int_sound p from x g = let l = line_of p g.last g.before in (g.following, pushes_by p g.last l.0 l.1 (part_at code.parts g.last) (of.parts g.last) from x g.gives)

    pub length_sound : (p from : ℕ) (x : ℤ) → GivesLengthAt P m code t p from x → IsFollowing P m p × (n : ℕ) × (x ≡ pos n) × PushesArray P known m from p n
    length_sound p from x g =
        let l = line_of p g.last g.before in
        let reached = come P m g.last p l.0 (record { stays = of.stays; reached = g.following.reached; unnamed = g.following.unnamed }) l.1 in
        let a = array_by p g.last l.0 l.1 reached (part_at code.parts g.last) (of.parts g.last) from x g.gives in
        (g.following, a.0, a.1, a.2)
