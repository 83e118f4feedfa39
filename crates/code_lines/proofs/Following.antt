-- Lines follow one another.
use Rattle.std.proofs.Common.{◌≡◌, ℕ, zero, suc, ◌+◌, ◌<◌, ◌≤◌, ◌⊎◌, Bool, true, false, ℤ, List, length, Contains, Option, Some, None, Result, Ok, Err, refl, sym, ap, ◌∙◌, subst, inl, inr, arith}
use Rattle.std.specs.Prelude.{nat_lt, if◌then◌else◌}
use Rattle.std.proofs.lemmas.Bool.{cases_order}
use Rattle.opcodes.specs.declared.instruction.Instr.{Instr}
use Rattle.opcodes.specs.declared.instruction.DecodeFault.{DecodeFault}
use Rattle.opcodes.specs.Instruction.{decoded}
use Rattle.opcodes.specs.Start.{place_behind, next_start, starts_from, starts_of, first_start, IsStart}
use Rattle.opcodes.specs.Target.{WholeIsWithin}
use Rattle.lists.proofs.Lemmas.{some_is, none≢some, some_same}
use Rattle.lists.specs.Members.{cons_cases, nil_contains}
use Rattle.bytecode_model.specs.declared.Value.{Value}
use Rattle.bytecode_model.specs.declared.Value.TheVariants.{Int}
use Rattle.bytecode_model.specs.Program.{body_of}
use Rattle.bytecode_model.specs.Rows as rows
use Rattle.bytecode_model.specs.Rows.{Row}
use Rattle.code_lines.specs.Lines.{IsLine}
use Rattle.code_lines.specs.Laws.{LinesAreOne, LinesAreApart, OneStandsBefore, OneIsPushedBefore}
use Rattle.code_lines.proofs.Reading.{read_as}

-- ---- starts

module _ (whole : (code : List ℕ) → (pc : ℕ) → WholeIsWithin code pc) (code : List ℕ) where
  -- the next start lies behind the instruction
  behind : (pc q : ℕ) (x : Result Instr DecodeFault) → decoded code pc ≡ x → place_behind code pc x ≡ Some q → (pc < q) × ((i : Instr) → decoded code pc ≡ Ok i → q ≡ pc + i.length)
  behind pc q (Err fault) is e = absurd (none≢some q e)
  behind pc q (Ok j) is e = by (nat_lt (pc + j.length) (length code)) e
    where
      by : (b : Bool) → (if b then Some (pc + j.length) else None) ≡ Some q → (pc < q) × ((i : Instr) → decoded code pc ≡ Ok i → q ≡ pc + i.length)
      by true e' =
          let same : pc + j.length ≡ q = some_same (pc + j.length) q e' in
          let longer = (whole code pc j is).not_empty in
          (omega arith, λ i is'. let inner : j ≡ i = ok_same j i (sym is ∙ is') in sym same ∙ ap (λ (x : Instr). pc + x.length) inner)
        where
          ok_same : (a c : Instr) → ◌≡◌ {A = Result Instr DecodeFault} (Ok a) (Ok c) → a ≡ c
          ok_same a c e'' = cc
      by false e' = absurd (none≢some q e')

  none_from : (most x : ℕ) → Contains (starts_from most code None) x → ⊥
  none_from zero x h = nil_contains x h
  none_from (suc most) x h = nil_contains x h

  -- each start of the list is its first one or lies behind it
  from : (most : ℕ) (o : Option ℕ) (pc x : ℕ) → o ≡ Some pc → Contains (starts_from most code o) x → pc ≤ x
  from zero o pc x e c = absurd (nil_contains x c)
  from (suc most) None pc x e c = absurd (none≢some pc e)
  from (suc most) (Some y) pc x e c =
      let same : y ≡ pc = some_same y pc e in
      elim (cons_cases y x (starts_from most code (next_start code y)) c) [
        | inl first ↦ omega arith
        | inr later ↦ let le = by (next_start code y) refl (λ q is. from most (next_start code y) q x is later) later in omega arith
      ]
    where
      by : (o : Option ℕ) → next_start code y ≡ o → ((q : ℕ) → next_start code y ≡ Some q → q ≤ x) → Contains (starts_from most code o) x → y ≤ x
      by None is inner later = absurd (none_from most x later)
      by (Some q) is inner later = let up = (behind y q (decoded code y) refl is).0 in let le = inner q is in omega arith

  apart : (most : ℕ) (o : Option ℕ) (x y : ℕ) (i : Instr) → decoded code x ≡ Ok i → Contains (starts_from most code o) x → Contains (starts_from most code o) y → x < y → x + i.length ≤ y
  apart zero o x y i is cx cy less = absurd (nil_contains x cx)
  apart (suc most) None x y i is cx cy less = absurd (nil_contains x cx)
  apart (suc most) (Some z) x y i is cx cy less =
      by (next_start code z) refl (apart most (next_start code z) x y i is) (cons_cases z x (starts_from most code (next_start code z)) cx) (cons_cases z y (starts_from most code (next_start code z)) cy)
    where
      by : (o : Option ℕ) → next_start code z ≡ o → (Contains (starts_from most code o) x → Contains (starts_from most code o) y → x < y → x + i.length ≤ y)
          → (z ≡ x) ⊎ Contains (starts_from most code o) x → (z ≡ y) ⊎ Contains (starts_from most code o) y → x + i.length ≤ y
      by None is' later (inl a) (inl b) = absurd (omega arith)
      by None is' later (inl a) (inr b) = absurd (none_from most y b)
      by None is' later (inr a) b = absurd (none_from most x a)
      by (Some q) is' later (inl a) (inl b) = absurd (omega arith)
      by (Some q) is' later (inl a) (inr b) =
          let at : q ≡ z + i.length = (behind z q (decoded code z) refl is').1 i (ap (decoded code) a ∙ is) in
          let le = from most (Some q) q y refl b in
          omega arith
      by (Some q) is' later (inr a) (inl b) =
          let up = (behind z q (decoded code z) refl is').0 in
          let le = from most (Some q) q x refl a in
          absurd (omega arith)
      by (Some q) is' later (inr a) (inr b) = later a b less

  pub starts_apart : (x y : ℕ) (i : Instr) → decoded code x ≡ Ok i → IsStart code x → IsStart code y → x < y → x + i.length ≤ y
  unfolding starts_of
  starts_apart x y i is cx cy less = apart (length code) (first_start code) x y i is cx cy less

-- ---- lines

pub lines_are_apart : ((code : List ℕ) → (pc : ℕ) → WholeIsWithin code pc) → LinesAreApart
lines_are_apart whole P m p next q other r s h g =
    let body = some_is (body_of P m) _ h.start in
    let a = read_as P m p next r body.0 body.1 h in
    let b = read_as P m q other s body.0 body.1 g in
    let longer = (whole body.0.code p a.instr a.is).not_empty in
    let at = a.behind in
    (omega arith, λ less. let le = starts_apart whole body.0.code p q a.instr a.is a.start b.start less in omega arith)

pub one_stands_before : LinesAreApart → OneStandsBefore
one_stands_before apart P m p q place r s h g =
    elim (cases_order p q) [
      | inl same ↦ same
      | inr other ↦ elim other [
        | inl less ↦
            let le = (apart P m p place q place r s h g).1 less in
            let up = (apart P m q place p place s r g h).0 in
            absurd (omega arith)
        | inr more ↦
            let le = (apart P m q place p place s r g h).1 more in
            let up = (apart P m p place q place r s h g).0 in
            absurd (omega arith)
      ]
    ]

value_of : ℤ → Value → ℤ
value_of z (Int n) = n
value_of z v = z

pushed_int : ℤ → Row → ℤ
pushed_int z (rows.Push v) = value_of z v
pushed_int z r = z

pub one_is_pushed_before : LinesAreOne → OneStandsBefore → OneIsPushedBefore
unfolding pushed_int value_of
one_is_pushed_before one before P m place c d h g =
    let same : h.before ≡ g.before = before P m h.before g.before place (rows.Push (Int c)) (rows.Push (Int d)) h.push g.push in
    let moved : IsLine P m g.before place (rows.Push (Int c)) = subst (λ (x : ℕ). IsLine P m x place (rows.Push (Int c))) same h.push in
    ap (pushed_int c) (one P m g.before place place (rows.Push (Int c)) (rows.Push (Int d)) moved g.push).1
