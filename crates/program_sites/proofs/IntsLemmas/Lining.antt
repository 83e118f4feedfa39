-- The ints of the lines of a method.
use Rattle.std.proofs.Common.{◌≡◌, ◌↔◌, ℕ, ℤ, List, Contains, Option, Some, None, refl, ap, ◌∙◌, subst}
use Rattle.std.specs.Prelude.{MatchOption}
use Rattle.lists.specs.Lists.{onto}
use Rattle.lists.proofs.Lemmas.{none≢some, some_same, onto_some, some_in, holds_at}
use Rattle.opcodes.specs.Start.{IsStart, starts_of}
use Rattle.bytecode_model.specs.declared.Value.TheVariants.{Int}
use Rattle.bytecode_model.specs.Program.{Program, Body, body_of}
use Rattle.bytecode_model.specs.Rows as rows
use Rattle.bytecode_model.specs.Rows.{Row}
use Rattle.bytecode_model.specs.Steps.{row_in}
use Rattle.code_lines.specs.Lines.{IsLine}
use Rattle.loop_rules.specs.Tests.{Constants}
use Rattle.loop_rules.specs.Sites.{int_at, IsPushAt, IsReadAt, AreSitesOf}
use Rattle.program_sites.specs.Ints.Rows.{pushed_by, read_by, put_by, pushed_at, read_at, put_at}
use Rattle.program_sites.specs.Ints.Places.{constant_read, AreIntsOf}

-- ---- rows

push_row : (r : Row) (c : ℤ) → pushed_by r ≡ Some c → r ≡ rows.Push (Int c)
push_row (rows.Push (Int d)) c e = ap (λ (z : ℤ). rows.Push (Int z)) (some_same d c e)
push_row r c e = absurd (none≢some c e)

read_row : (r : Row) (f : ℕ) → read_by r ≡ Some f → r ≡ rows.GetStatic f
read_row (rows.GetStatic g) f e = ap rows.GetStatic (some_same g f e)
read_row r f e = absurd (none≢some f e)

put_row : (r : Row) (f : ℕ) → put_by r ≡ Some f → r ≡ rows.PutStatic f
put_row (rows.PutStatic g) f e = ap rows.PutStatic (some_same g f e)
put_row r f e = absurd (none≢some f e)

-- ---- lines

module _ (P : Program) (m : ℕ) (b : Body) (eb : body_of P m ≡ Some b) where
  line_at : (p : ℕ) (x : ℕ × Row) (r : Row) → IsStart b.code p → row_in P m p ≡ Some x → x.1 ≡ r → IsLine P m p x.0 r
  line_at p x r start is same = subst (λ (s : Row). IsLine P m p x.0 s) same (record { start = some_in (body_of P m) b (λ z. IsStart z.code p) eb start; is = is })

  pub start_of : (p next : ℕ) (r : Row) → IsLine P m p next r → IsStart b.code p
  start_of p next r line = holds_at (body_of P m) b (λ z. IsStart z.code p) eb line.start

  pushes_are : (p : ℕ) (c : ℤ) → (Contains (starts_of b.code) p × (pushed_at P m p ≡ Some c)) ↔ IsPushAt P m p c
  pushes_are p c = (
    λ h. let x = onto_some (row_in P m p) (λ x. pushed_by x.1) c h.1 in (x.0.0, line_at p x.0 (rows.Push (Int c)) h.0 x.1 (push_row x.0.1 c x.2)),
    λ at. (start_of p at.0 (rows.Push (Int c)) at.1, ap (λ (o : Option (ℕ × Row)). onto o (λ x. pushed_by x.1)) at.1.is),
  )

  reads_are : (constants : Constants) (p : ℕ) (c : ℤ) → (Contains (starts_of b.code) p × (constant_read P constants m p ≡ Some c)) ↔ IsReadAt P constants m p c
  reads_are constants p c = (
    λ h.
        let f = onto_some (read_at P m p) constants c h.1 in
        let x = onto_some (row_in P m p) (λ x. read_by x.1) f.0 f.1 in
        (x.0.0, f.0, line_at p x.0 (rows.GetStatic f.0) h.0 x.1 (read_row x.0.1 f.0 x.2), f.2),
    λ at. (start_of p at.0 (rows.GetStatic at.1) at.2, ap (λ (o : Option (ℕ × Row)). onto (onto o (λ x. read_by x.1)) constants) at.2.is ∙ at.3),
  )

  pub puts_are : (f : ℕ) → ((p : ℕ) → Contains (starts_of b.code) p → ¬ (put_at P m p ≡ Some f)) ↔ ((p next : ℕ) → ¬ IsLine P m p next (rows.PutStatic f))
  puts_are f = (
    λ none p next line. none p (start_of p next (rows.PutStatic f) line) (ap (λ (o : Option (ℕ × Row)). onto o (λ x. put_by x.1)) line.is),
    λ none p start is. let x = onto_some (row_in P m p) (λ x. put_by x.1) f is in none p x.0.0 (line_at p x.0 (rows.PutStatic f) start x.1 (put_row x.0.1 f x.2)),
  )

  pub are_sites : (constants : Constants) (pushed fields : List (Option ℤ)) → AreIntsOf (pushed_at P m) (starts_of b.code) pushed → AreIntsOf (constant_read P constants m) (starts_of b.code) fields
      → AreSitesOf P constants m (record { pushed = pushed; fields = fields })
  are_sites constants pushed fields push read = record {
    pushed = λ p. told (int_at pushed p) (IsPushAt P m p) (λ c. (λ is. (pushes_are p c).0 ((push p c).0 is), λ at. (push p c).1 ((pushes_are p c).1 at)));
    fields = λ p. told (int_at fields p) (IsReadAt P constants m p) (λ c. (λ is. (reads_are constants p c).0 ((read p c).0 is), λ at. (read p c).1 ((reads_are constants p c).1 at)));
  }
    where
      told : (o : Option ℤ) (K : ℤ → Type 0) → ((c : ℤ) → (o ≡ Some c) ↔ K c) → MatchOption o ((c : ℤ) → ¬ K c) K
      told None K h = λ c k. none≢some c ((h c).1 k)
      told (Some c) K h = (h c).0 refl
