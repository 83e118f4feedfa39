-- The puts of a program, method by method and instruction by instruction.
use Rattle.std.proofs.Common.{◌≡◌, ◌⊎◌, ℕ, ◌+◌, ℤ, List, [], ◌∷◌, ◌++◌, Contains, Option, Some, None, refl, sym, ap, ◌∙◌, subst, inl, inr, arith}
use Rattle.std.proofs.lemmas.Bool.{cases_lt}
use Rattle.std.proofs.lemmas.List.Elements.{Contains-push, Contains-push_cases, Contains-append_left}
use Rattle.lists.proofs.Lemmas.{none≢some, some_same, some_is}
use Rattle.lists.specs.Members.{nil_contains}
use Rattle.opcodes.specs.Start.{IsStart, starts_of}
use Rattle.class_pool.specs.declared.class.ClassFile.{ClassFile}
use Rattle.class_pool.specs.declared.class.Code.{Code}
use Rattle.bytecode_model.specs.Program.{Program, Body, body_of}
use Rattle.bytecode_model.specs.Rows.{Row}
use Rattle.code_lines.specs.Lines.{IsLine}
use Rattle.program_tables.specs.Laws.{MethodsStandByNumber}
use Rattle.program_tables.specs.Resolved.{resolved}
use Rattle.loop_rules.specs.Further.Found.{Table}
use Rattle.array_fields.specs.declared.rows.Field.{Field}
use Rattle.array_fields.specs.declared.puts.Put.{Put}
use Rattle.array_fields.specs.Rows.{put_at}
use Rattle.array_fields.specs.Puts.{PutsField, length_put, ArePuts, with_put, IsPutAt, HasPutsAt, ArePutsBelow}
use Rattle.array_fields.proofs.Coding.{code_at, body_of_code, code_of_body, coded_first}
use Rattle.array_fields.proofs.Lining.{puts_are}

-- ---- at the places of a method

module _ (P : Program) (ts : List Table) (m : ℕ) (old : List Put) where
  pub puts_first : HasPutsAt P ts m [] old old
  puts_first x = (λ has. inl has, λ h. elim h [ inl has ↦ has | inr at ↦ absurd (nil_contains at.0 at.1) ])

  -- with a place more, what is among the others stays
  further : (ps : List ℕ) (p : ℕ) (x : Put) → Contains old x ⊎ ((q : ℕ) × Contains ps q × IsPutAt P ts m q x) → Contains old x ⊎ ((q : ℕ) × Contains (ps ++ p ∷ []) q × IsPutAt P ts m q x)
  further ps p x h = elim h [ inl has ↦ inl has | inr at ↦ inr (at.0, Contains-append_left ps (p ∷ []) at.0 at.1, at.2) ]

  pub puts_more : (ps : List ℕ) (xs : List Put) (p : ℕ) → HasPutsAt P ts m ps old xs → HasPutsAt P ts m (ps ++ p ∷ []) old (with_put xs (put_at P m p) (length_put ts m p))
  puts_more ps xs p h = by (put_at P m p) refl
    where
      by : (o : Option Field) → put_at P m p ≡ o → HasPutsAt P ts m (ps ++ p ∷ []) old (with_put xs o (length_put ts m p))
      by None e x = (
        λ has. further ps p x ((h x).0 has),
        λ k.
            elim k [
              | inl has ↦ (h x).1 (inl has)
              | inr at ↦
                  elim (Contains-push_cases ps p at.0 at.1) [
                    | inl before ↦ (h x).1 (inr (at.0, before, at.2))
                    | inr same ↦ absurd (none≢some x.field (sym e ∙ ap (put_at P m) same ∙ at.2.0))
                  ]
            ],
      )
      by (Some f) e x =
          let new : Put = record { field = f; length = length_put ts m p } in (
            λ has.
                elim (Contains-push_cases xs new x has) [
                  | inl before ↦ further ps p x ((h x).0 before)
                  | inr same ↦ inr (p, Contains-push ps p, (e ∙ ap (λ (y : Put). Some y.field) same, ap (λ (y : Put). y.length) same))
                ],
            λ k.
                elim k [
                  | inl has ↦ Contains-append_left xs (new ∷ []) x ((h x).1 (inl has))
                  | inr at ↦
                      elim (Contains-push_cases ps p at.0 at.1) [
                        | inl before ↦ Contains-append_left xs (new ∷ []) x ((h x).1 (inr (at.0, before, at.2)))
                        | inr same ↦
                            let field : f ≡ x.field = some_same f x.field (sym e ∙ ap (put_at P m) same ∙ at.2.0) in
                            let long : length_put ts m p ≡ x.length = ap (length_put ts m) same ∙ at.2.1 in
                            let is : new ≡ x = ap (λ (g : Field). record { field = g; length = length_put ts m p }) field ∙ ap (λ (l : Option ℤ). record { field = x.field; length = l }) long in
                            subst (λ (y : Put). Contains (xs ++ new ∷ []) y) is (Contains-push xs new)
                      ]
                ],
          )

-- ---- of methods

module _ (stand : MethodsStandByNumber) (cs : List ClassFile) (ts : List Table) where
  pub no_puts : ArePutsBelow (resolved cs) ts 0 []
  no_puts x = (λ has. absurd (nil_contains x has), λ k. let lt = k.1 in absurd (omega arith))

  pub more_puts : (n : ℕ) (k : Code) (old new : List Put) → code_at cs n ≡ Some k → ArePutsBelow (resolved cs) ts n old → HasPutsAt (resolved cs) ts n (starts_of k.code) old new
      → ArePutsBelow (resolved cs) ts (n + 1) new
  more_puts n k old new is h more x =
      let b = body_of_code stand cs n k is in
      let same : (starts_of b.body.code) ≡ (starts_of k.code) = ap starts_of b.code in (
        λ has.
            elim ((more x).0 has) [
              | inl before ↦ let put = (h x).0 before in let lt = put.1 in (put.0, omega arith)
              | inr at ↦
                  let puts = (puts_are (resolved cs) n b.body b.is_body at.0 x.field).0 (subst (λ (ps : List ℕ). Contains ps at.0) (sym same) at.1, at.2.0) in
                  (record { method = n; place = at.0; puts = puts; length = at.2.1 }, omega arith)
            ],
        λ put.
            let lt = put.1 in
            elim (cases_lt put.0.method n) [
              | inl less ↦ (more x).1 (inl ((h x).1 (put.0, less)))
              | inr ge ↦
                  let at : put.0.method ≡ n = omega arith in
                  let there = (puts_are (resolved cs) n b.body b.is_body put.0.place x.field).1 (subst (λ (m : ℕ). PutsField (resolved cs) m put.0.place x.field) at put.0.puts) in
                  (more x).1 (inr (put.0.place, subst (λ (ps : List ℕ). Contains ps put.0.place) same there.0, (there.1, ap (λ (m : ℕ). length_put ts m put.0.place) (sym at) ∙ put.0.length)))
            ],
      )

  -- a method with lines has code
  coded_line : (m p next : ℕ) (r : Row) → IsLine (resolved cs) m p next r → (k : Code) × (code_at cs m ≡ Some k)
  coded_line m p next r line =
      let b = some_is (body_of (resolved cs) m) (λ (x : Body). IsStart x.code p) line.start in
      code_of_body stand cs m b.0 b.1

  -- where no method is left that has code
  pub all_puts : (n : ℕ) (xs : List Put) → code_at cs n ≡ None → ArePutsBelow (resolved cs) ts n xs → ArePuts (resolved cs) ts xs
  all_puts n xs none h x = (
    λ has. ((h x).0 has).0,
    λ put.
        elim (cases_lt put.method n) [
          | inl less ↦ (h x).1 (put, less)
          | inr ge ↦
              let k = coded_line put.method put.place put.puts.0 put.puts.1 put.puts.2 in
              absurd (coded_first cs n put.method none ge k.0 k.1)
        ],
  )
