-- The worked examples, by computing.
use Rattle.std.proofs.Common.{◌≡◌, ℕ, ◌+◌, true, false, [], ◌∷◌, refl, subst, inl, inr, arith}
use Rattle.std.specs.Prelude.{IsSome}
use Rattle.std.specs.Int.{int_wrap}
use Rattle.opcodes.specs.Instruction.{decoded}
use Rattle.opcodes.specs.Row as opcodes
use Rattle.opcodes.specs.Start.{starts_of}
use Rattle.bytecode_model.specs.Program.{body_of}
use Rattle.bytecode_model.specs.Table.{row_of}
use Rattle.lists.specs.Members.{at_head, cons_cases, heads, nil_contains}
use Rattle.method_flow.specs.Calls.{IsCall, IsStartOf, IsTarget}
use Rattle.method_flow.specs.Examples.{sample}
use Rattle.method_flow.specs.Nodes.{MayRaise}
use Rattle.fact_names.specs.Examples.{NamedRows, letter}

false_is : false ≡ true → ⊥
false_is e = absurd (cc)

lettered : (m n : ℕ) → letter m ≡ letter n → m ≡ n
lettered m n e = let h = heads (65 + m) (65 + n) [] [] e in omega arith

invoke_start : IsStartOf sample 3 0
unfolding decoded opcodes.row_of row_of int_wrap starts_of
invoke_start = at_head 0 (3 ∷ [])

return_start : IsStartOf sample 1 0
unfolding decoded opcodes.row_of row_of int_wrap starts_of
return_start = at_head 0 []

invoke_raises : MayRaise sample 3 0
unfolding decoded opcodes.row_of row_of int_wrap starts_of
invoke_raises = refl

invokes : IsCall sample 3 0
unfolding decoded opcodes.row_of row_of int_wrap starts_of
invokes = refl

invoked : IsTarget sample 3 0 2
unfolding decoded opcodes.row_of row_of int_wrap starts_of
invoked = at_head 2 []

no_start : IsStartOf sample 3 1 → ⊥
unfolding decoded opcodes.row_of row_of int_wrap starts_of
no_start h =
    elim (cons_cases 0 1 (3 ∷ []) h) [
      | inl same ↦ omega arith
      | inr later ↦ elim (cons_cases 3 1 [] later) [ inl same ↦ omega arith | inr there ↦ nil_contains 1 there ]
    ]

load_raises : MayRaise sample 0 0 → ⊥
unfolding decoded opcodes.row_of row_of int_wrap starts_of
load_raises h = false_is h

no_code : IsSome (body_of sample 8) → ⊥
no_code h = false_is h

not_invoked : IsTarget sample 3 0 1 → ⊥
unfolding decoded opcodes.row_of row_of int_wrap starts_of
not_invoked h = elim (cons_cases 2 1 [] h) [ inl same ↦ omega arith | inr there ↦ nil_contains 1 there ]

no_call : IsCall sample 3 3 → ⊥
unfolding decoded opcodes.row_of row_of int_wrap starts_of
no_call h = false_is h

pub named_rows : NamedRows
named_rows = record {
  own = (3, _, refl, record { named = (refl, refl); node = invoke_start; scope_is = refl });
  raise_step = (3, _, refl, record { named = (refl, refl); node = (invoke_start, invoke_raises); scope_is = refl });
  in_root = (1, _, refl, record { named = (refl, refl); node = return_start; scope_is = (3, refl, (refl, refl)) });
  targets = record { method = 3; targets = 2 ∷ []; named = (refl, refl); start = invoke_start; invokes = invokes; targets_are = (2, [], refl, (refl, refl), invoked, refl); fact_is = refl };
  inside = λ f x. no_start (subst (λ (m : ℕ). IsStartOf sample m 1) (lettered x.0 3 x.3.named.1) x.3.node);
  load = λ f x. load_raises (subst (λ (m : ℕ). MayRaise sample m 0) (lettered x.0 0 x.3.named.1) x.3.node.1);
  without_code = λ f x. no_code (subst (λ (m : ℕ). IsSome (body_of sample m)) (lettered x.0 8 x.3.named.1) x.3.named.0);
  other_target = λ f x.
      let target = subst (λ (t : ℕ). IsTarget sample x.method 0 t) (lettered x.targets_are.0 1 x.targets_are.3.1) x.targets_are.4 in
      not_invoked (subst (λ (m : ℕ). IsTarget sample m 0 1) (lettered x.method 3 x.named.1) target);
  no_invoke = λ f x. no_call (subst (λ (m : ℕ). IsCall sample m 3) (lettered x.method 3 x.named.1) x.invokes);
}
