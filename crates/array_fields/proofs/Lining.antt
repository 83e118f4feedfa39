-- The fields that lines of a method read and write.
use Rattle.std.proofs.Common.{◌≡◌, ◌↔◌, ℕ, ℤ, pos, Contains, Option, Some, refl, sym, ap, ◌∙◌, subst, inl, inr}
use Rattle.std.specs.Option.{option_map}
use Rattle.lists.specs.Lists.{onto}
use Rattle.lists.proofs.Lemmas.{none≢some, onto_some, map_some, some_in, holds_at}
use Rattle.opcodes.specs.Start.{IsStart, starts_of}
use Rattle.bytecode_model.specs.Program.{Program, Body, body_of}
use Rattle.bytecode_model.specs.Rows as rows
use Rattle.bytecode_model.specs.Rows.{Row}
use Rattle.bytecode_model.specs.Steps.{row_in}
use Rattle.code_lines.specs.Lines.{IsLine}
use Rattle.loop_rules.specs.Further.Arrays.{ReadsArray}
use Rattle.array_fields.specs.declared.rows.Field.{Field}
use Rattle.array_fields.specs.declared.rows.Field.TheVariants.{Static, Instance}
use Rattle.array_fields.specs.Rows.{read_by, put_by, read_at, put_at}
use Rattle.array_fields.specs.Puts.{PutsField}
use Rattle.array_fields.specs.Lengths.{FieldLengths, known_by, array_of, array_read, static_length, field_length}

-- ---- rows

get_static_row : (r : Row) (f : ℕ) → read_by r ≡ Some (Static f) → r ≡ rows.GetStatic f
get_static_row (rows.GetStatic g) f e = let same : g ≡ f = cc in ap rows.GetStatic same
get_static_row (rows.GetField c d k) f e = absurd (let bad : ⊥ = cc in bad)
get_static_row r f e = absurd (none≢some (Static f) e)

get_field_row : (r : Row) (owner index : ℕ) → read_by r ≡ Some (Instance owner index) → (named : ℕ) × (r ≡ rows.GetField named owner index)
get_field_row (rows.GetField c d k) owner index e =
    let first : d ≡ owner = cc in
    let second : k ≡ index = cc in
    (c, ap (λ (x : ℕ). rows.GetField c x k) first ∙ ap (λ (x : ℕ). rows.GetField c owner x) second)
get_field_row (rows.GetStatic f) owner index e = absurd (let bad : ⊥ = cc in bad)
get_field_row r owner index e = absurd (none≢some (Instance owner index) e)

pub put_static_row : (r : Row) (f : ℕ) → put_by r ≡ Some (Static f) → r ≡ rows.PutStatic f
put_static_row (rows.PutStatic g) f e = let same : g ≡ f = cc in ap rows.PutStatic same
put_static_row (rows.PutField c d k) f e = absurd (let bad : ⊥ = cc in bad)
put_static_row r f e = absurd (none≢some (Static f) e)

pub put_field_row : (r : Row) (owner index : ℕ) → put_by r ≡ Some (Instance owner index) → (named : ℕ) × (r ≡ rows.PutField named owner index)
put_field_row (rows.PutField c d k) owner index e =
    let first : d ≡ owner = cc in
    let second : k ≡ index = cc in
    (c, ap (λ (x : ℕ). rows.PutField c x k) first ∙ ap (λ (x : ℕ). rows.PutField c owner x) second)
put_field_row (rows.PutStatic f) owner index e = absurd (let bad : ⊥ = cc in bad)
put_field_row r owner index e = absurd (none≢some (Instance owner index) e)

-- ---- lines

module _ (P : Program) (m : ℕ) (b : Body) (eb : body_of P m ≡ Some b) where
  line_at : (p : ℕ) (x : ℕ × Row) (r : Row) → IsStart b.code p → row_in P m p ≡ Some x → x.1 ≡ r → IsLine P m p x.0 r
  line_at p x r start is same = subst (λ (s : Row). IsLine P m p x.0 s) same (record { start = some_in (body_of P m) b (λ z. IsStart z.code p) eb start; is = is })

  start_of : (p next : ℕ) (r : Row) → IsLine P m p next r → IsStart b.code p
  start_of p next r line = holds_at (body_of P m) b (λ z. IsStart z.code p) eb line.start

  pub puts_are : (p : ℕ) (f : Field) → (Contains (starts_of b.code) p × (put_at P m p ≡ Some f)) ↔ PutsField P m p f
  puts_are p f = (
    λ h. let x = onto_some (row_in P m p) (λ x. put_by x.1) f h.1 in (x.0.0, x.0.1, line_at p x.0 x.0.1 h.0 x.1 refl, x.2),
    λ at. (start_of p at.0 at.1 at.2, ap (λ (o : Option (ℕ × Row)). onto o (λ x. put_by x.1)) at.2.is ∙ at.3),
  )

  -- the length that is read at a place
  module _ (constants : ℕ → Option ℤ) (a : FieldLengths) (p : ℕ) (c : ℤ) where
    abbrev Reads : Type 0
    Reads = (n : ℕ) × (c ≡ pos n) × ReadsArray P (known_by constants a) m p n

    of_field : (f : Field) (x : ℕ × Row) → IsStart b.code p → row_in P m p ≡ Some x → read_by x.1 ≡ Some f → array_of a f ≡ Some c → Reads
    of_field (Static f) x start is read has =
        let n = map_some (λ n. pos n) (static_length a f) c has in
        (n.0, sym n.2, inl (f, x.0, line_at p x (rows.GetStatic f) start is (get_static_row x.1 f read), n.1))
    of_field (Instance owner index) x start is read has =
        let n = map_some (λ n. pos n) (field_length a owner index) c has in
        let row = get_field_row x.1 owner index read in
        (n.0, sym n.2, inr (row.0, owner, index, x.0, line_at p x (rows.GetField row.0 owner index) start is row.1, n.1))

    of_line : (next : ℕ) (r : Row) (f : Field) (n : ℕ) → IsLine P m p next r → read_by r ≡ Some f → c ≡ pos n → array_of a f ≡ Some (pos n) → Contains (starts_of b.code) p × (array_read P a m p ≡ Some c)
    of_line next r f n line read is has = (
      start_of p next r line,
      ap (λ (o : Option (ℕ × Row)). onto (onto o (λ x. read_by x.1)) (array_of a)) line.is ∙ ap (λ (o : Option Field). onto o (array_of a)) read ∙ has ∙ ap (λ (z : ℤ). Some z) (sym is),
    )

    pub reads_are : (Contains (starts_of b.code) p × (array_read P a m p ≡ Some c)) ↔ Reads
    reads_are = (
      λ h.
          let f = onto_some (read_at P m p) (array_of a) c h.1 in
          let x = onto_some (row_in P m p) (λ x. read_by x.1) f.0 f.1 in
          of_field f.0 x.0 h.0 x.1 x.2 f.2,
      λ at.
          elim at.2 [
            | inl s ↦ of_line s.1 (rows.GetStatic s.0) (Static s.0) at.0 s.2 refl at.1 (ap (option_map (λ n. pos n)) s.3)
            | inr i ↦ of_line i.3 (rows.GetField i.0 i.1 i.2) (Instance i.1 i.2) at.0 i.4 refl at.1 (ap (option_map (λ n. pos n)) i.5)
          ],
    )
