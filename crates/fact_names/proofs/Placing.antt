-- What a method's code and graph say of a line is what the program says.
use Rattle.std.proofs.Common.{◌≡◌, ℕ, ◌*◌, ◌<◌, true, List, length, map, Option, Some, None, refl, sym, ap, ◌∙◌, subst, arith}
use Rattle.std.specs.Prelude.{Ok, IsSome}
use Rattle.opcodes.specs.declared.instruction.Instr.{Instr}
use Rattle.opcodes.specs.Instruction.{decoded}
use Rattle.opcodes.specs.Row as opcodes
use Rattle.opcodes.specs.Start.{IsStart, AreStarts}
use Rattle.bytecode_model.specs.Program.{Program, Body, body_of, instr_at, as_instr}
use Rattle.bytecode_model.specs.Lists as model
use Rattle.lists.proofs.Lemmas.{some_is, some_in, holds_at}
use Rattle.loop_nest.specs.Digraph.{Digraph}
use Rattle.loop_nest.specs.Walks.{IsMember}
use Rattle.method_flow.specs.Calls.{IsStartOf}
use Rattle.method_flow.specs.Flow.{Coded, IsCoded, IsCodedOf, range_of}
use Rattle.method_flow.specs.Graphs.{IsGraphOf}
use Rattle.flow_graph.specs.Edges.{raises_in}
use Rattle.bound_rules.specs.Laws.{GraphsAreOne}
use Rattle.flow_facts.specs.declared.facts.Scope.{Scope}
use Rattle.flow_facts.specs.declared.facts.Scope.TheVariants.{Own}
use Rattle.flow_facts.specs.declared.line.NodeName.{NodeName}
use Rattle.flow_facts.specs.declared.line.NodeName.TheVariants.{Instruction, RaiseStep}
use Rattle.flow_facts.specs.declared.line.SaidScope.{SaidScope}
use Rattle.flow_facts.specs.declared.line.SaidScope.TheVariants.{Alone, PerLoop, InMethod}
use Rattle.flow_facts.specs.declared.line.TotalLine.{TotalLine}
use Rattle.flow_facts.specs.Lines.{node_of}
use Rattle.fact_names.specs.declared.naming.Found.{Found}
use Rattle.fact_names.specs.Named.{IsNodeOf, IsHeldBy, IsScopeOf}
use Rattle.fact_names.specs.Refused.{IsOwnScope}
use Rattle.fact_names.specs.Found.{ArePlacesOf, IsFoundBy, IsFoundOf, IsNodeIn, IsScopeBy}

-- the nodes of a code have numbers below two for each byte
pub node_small : (code : List ℕ) → AreStarts code → (n : NodeName) → IsNodeIn code n → node_of n < 2 * length code
node_small code starts (Instruction p) at = let lt = starts.within_code p at in omega arith
node_small code starts (RaiseStep p) at = let lt = starts.within_code p at.start in omega arith

some_there : {A : Type 0} (o : Option A) (x : A) → o ≡ Some x → IsSome o
some_there {A} o x is = subst (λ (q : Option A). IsSome q) (sym is) refl

not_some : {A : Type 0} (x : A) → None ≡ Some x → ⊥
not_some x e = cc

module _ (P : Program) (m : ℕ) (k : Coded) (c : IsCoded k) (of : IsCodedOf P m k) where
  body : (b : Body) × (body_of P m ≡ Some b) × ((b.code ≡ k.code) × (map range_of b.handlers ≡ k.ranges))
  body = some_is (body_of P m) (λ b. (b.code ≡ k.code) × (map range_of b.handlers ≡ k.ranges)) of.body

  pub has_body : IsSome (body_of P m)
  has_body = some_there (body_of P m) body.0 body.1

  start_to : (p : ℕ) → IsStartOf P m p → IsStart k.code p
  start_to p on = subst (λ (code : List ℕ). IsStart code p) body.2.0 (holds_at (body_of P m) body.0 (λ b. IsStart b.code p) body.1 on)

  start_back : (p : ℕ) → IsStart k.code p → IsStartOf P m p
  start_back p start = some_in (body_of P m) body.0 (λ b. IsStart b.code p) body.1 (subst (λ (code : List ℕ). IsStart code p) (sym body.2.0) start)

  instr_is : (p : ℕ) (i : Instr) → decoded k.code p ≡ Ok i → instr_at P m p ≡ Some i
  instr_is p i is =
      ap (λ o. model.onto o (λ (b : Body). as_instr (decoded b.code p))) body.1
      ∙ ap (λ (code : List ℕ). as_instr (decoded code p)) body.2.0
      ∙ ap as_instr is

  pub node_to : (n : NodeName) → IsNodeOf P m n → IsNodeIn k.code n
  node_to (Instruction p) at = start_to p at
  node_to (RaiseStep p) at =
      let start = start_to p at.0 in
      let i = (c.instructions p start).instr in
      let is = (c.instructions p start).is in
      record { start = start; raises = ap raises_in is ∙ holds_at (instr_at P m p) i (λ x. (opcodes.row_of x.op).raises ≡ true) (instr_is p i is) at.1 }

  pub node_back : (n : NodeName) → IsNodeIn k.code n → IsNodeOf P m n
  node_back (Instruction p) at = start_back p at
  node_back (RaiseStep p) at =
      let i = (c.instructions p at.start).instr in
      let is = (c.instructions p at.start).is in (
        start_back p at.start,
        some_in (instr_at P m p) i (λ x. (opcodes.row_of x.op).raises ≡ true) (instr_is p i is) (sym (ap raises_in is) ∙ at.raises),
      )

  module _ (one : GraphsAreOne) (g : Digraph) (is : IsGraphOf P m g) (name_of : ℕ → List ℕ) where
    held_to : (p u : ℕ) → IsHeldBy P m p u → IsMember g (2 * p) u
    held_to p u h = subst (λ (d : Digraph). IsMember d (2 * p) u) (one P m h.graph g h.is_graph is) h.held

    pub scope_some : (said : SaidScope) (u : ℕ) (scope : Scope) → IsScopeBy g u said (Some scope) → IsScopeOf P name_of m u said scope
    scope_some Alone u scope e = some_one scope Own e
      where
        some_one : (a b : Scope) → Some a ≡ Some b → a ≡ b
        some_one a b e = cc
    scope_some (PerLoop p) u scope e = (e.0, record { graph = g; is_graph = is; held = e.1 })
    scope_some (InMethod name) u scope e = absurd (not_some scope (sym e))

    pub scope_none : (said : SaidScope) (u : ℕ) → IsScopeBy g u said None → IsOwnScope said → (scope : Scope) → IsScopeOf P name_of m u said scope → ⊥
    scope_none Alone u e own scope h = not_some Own e
    scope_none (PerLoop p) u e own scope h = e (held_to p u h.1)
    scope_none (InMethod name) u e own scope h = own

module _ (one : GraphsAreOne) (k : Coded) (starts : List ℕ) (g : Digraph) (at : ArePlacesOf k starts g) (m : ℕ) (t : TotalLine) where
  pub found_none : IsFoundBy k.code g t None → IsFoundOf k m t None
  found_none f P name_of of own scope s =
      scope_none P m k at.coded of one g (at.graph P m of) name_of t.scope (node_of t.node) (f (node_to P m k at.coded of t.node s.node)) own scope s.scope_is

  pub found_some : (u : ℕ) (scope : Scope) (x : Found) → IsFoundBy k.code g t (Some (u, scope)) → x ≡ record { method = m; node = u; most = t.most; scope = scope } → IsFoundOf k m t (Some x)
  found_some u scope x f is = subst (λ (y : Found). IsFoundOf k m t (Some y)) (sym is) (
    refl,
    f.1,
    refl,
    λ P name_of of name_is. record {
      named = (has_body P m k at.coded of, name_is);
      node = node_back P m k at.coded of t.node f.0;
      scope_is = scope_some P m k at.coded of one g (at.graph P m of) name_of t.scope (node_of t.node) scope f.2;
    },
  )
