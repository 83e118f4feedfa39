-- The edges from an instruction to the places that it names and to the next one.
use Rattle.std.proofs.Common.{◌≡◌, ℕ, ◌+◌, ◌≤◌, ◌⊎◌, true, false, List, [], ◌∷◌, ◌++◌, length, get_or, Contains, Some, refl, sym, ◌∙◌, subst, inl, inr, arith}
use Rattle.std.specs.Prelude.{Result, Ok, Err, ℤ, pos, negsuc, slice_get, ◌+ℤ◌}
use Rattle.std.proofs.lemmas.Bool.{cases_lt}
use Rattle.std.proofs.lemmas.List.{length-map, get_or_default, get_or_past}
use Rattle.std.proofs.lemmas.List.Elements.{Contains-append_right}
use Rattle.std.proofs.lemmas.List.FromFn.{length-map-range_with_len}
use Rattle.std.proofs.lemmas.Option.{get_or_from_slice_get}
use Rattle.lists.specs.Members.{at_head, cons_cases}
use Rattle.opcodes.specs.declared.instruction.Instr.{Instr}
use Rattle.opcodes.specs.declared.instruction.Case.{Case}
use Rattle.opcodes.specs.declared.instruction.DecodeFault.{DecodeFault}
use Rattle.opcodes.specs.declared.table.Kind.{Kind}
use Rattle.opcodes.specs.declared.table.Kind.TheVariants.{Plain, Branch, Jump, Switch, Return, Throw, Invoke}
use Rattle.opcodes.specs.Form.{Form, NotAnOpcode, Fixed, Widened, TableSwitch, LookupSwitch, Wide}
use Rattle.opcodes.specs.Instruction.{decoded}
use Rattle.opcodes.specs.Row as opcodes
use Rattle.opcodes.specs.Start.{IsStart}
use Rattle.opcodes.specs.Target.{cases_by, cases_of, table_case, lookup_case}
use Rattle.method_flow.specs.Kinds.{LeadsByKind}
use Rattle.flow_graph.specs.Edges.{InstructionLeads, IsEdgeFrom, Leads}
use Rattle.flow_graph.specs.Growing.{Grows}
use Rattle.flow_graph.specs.Naming.{IsNamed, IsNamedBy, IsNextBy, case_places}
use Rattle.flow_graph.proofs.Growing.{Upto, grows_alike, grows_none, grows_then, grows_more}
use Rattle.flow_graph.proofs.Joining.{same_instr}

pub edge_alike : (p : ℕ) (L M : ℕ → Type 0) → ((q : ℕ) → L q → M q) → (e : ℕ × ℕ) → IsEdgeFrom p L e → IsEdgeFrom p M e
edge_alike p L M to e x = record { target = x.target; leads = to x.target x.leads; is = x.is }

-- edges to places of which the one or the other holds
pub edges_then : (old mid new : List (ℕ × ℕ)) (p : ℕ) (L M N : ℕ → Type 0) → Grows old mid (IsEdgeFrom p L) → Grows mid new (IsEdgeFrom p M) → ((q : ℕ) → L q → N q) → ((q : ℕ) → M q → N q) → ((q : ℕ) → N q → L q ⊎ M q) → Grows old new (IsEdgeFrom p N)
edges_then old mid new p L M N a b left right either =
    grows_then old mid new (IsEdgeFrom p L) (IsEdgeFrom p M) (IsEdgeFrom p N) a b (edge_alike p L N left) (edge_alike p M N right) (λ e x.
    elim (either x.target x.leads) [
      | inl l ↦ inl (record { target = x.target; leads = l; is = x.is })
      | inr m ↦ inr (record { target = x.target; leads = m; is = x.is })
    ])

pub edges_alike : (old new : List (ℕ × ℕ)) (p : ℕ) (L M : ℕ → Type 0) → ((q : ℕ) → L q → M q) → ((q : ℕ) → M q → L q) → Grows old new (IsEdgeFrom p L) → Grows old new (IsEdgeFrom p M)
edges_alike old new p L M to back a = grows_alike old new (IsEdgeFrom p L) (IsEdgeFrom p M) (edge_alike p L M to) (edge_alike p M L back) a

-- ---- cases

few_by : (f : Form) (code : List ℕ) (i : Instr) → length (cases_by f code i) ≤ i.count
few_by NotAnOpcode code i = omega arith
few_by (Fixed o) code i = omega arith
few_by (Widened o w) code i = omega arith
few_by TableSwitch code i = let e = length-map-range_with_len (table_case code i) 0 i.count in omega arith
few_by LookupSwitch code i = let e = length-map-range_with_len (lookup_case code i) 0 i.count in omega arith
few_by Wide code i = omega arith

few_cases : (code : List ℕ) (p : ℕ) (i : Instr) → length (case_places code p i) ≤ i.count
few_cases code p i =
    let e = length-map (cases_of code i) (λ (c : Case). pos p +ℤ c.offset) in
    let f = few_by (opcodes.row_of i.op).form code i in
    omega arith

-- the edge to the named place of this number
abbrev pub IsCaseEdge : List ℤ → (source : ℕ) → ℕ → ℕ × ℕ → Type 0
IsCaseEdge named p k e = IsEdgeFrom p (λ q. get_or named k (negsuc 0) ≡ pos q) e

pub case_more : (old mid new : List (ℕ × ℕ)) (named : List ℤ) (p k : ℕ) (place : ℤ) {z : ℤ} → slice_get named k ≡ Some place → Grows old mid (Upto (IsCaseEdge named p) k) → Grows mid new (IsEdgeFrom p (λ q. z ≡ pos q)) → z ≡ place → Grows old new (Upto (IsCaseEdge named p) (k + 1))
case_more old mid new named p k place {z} is a b same =
    let at : get_or named k (negsuc 0) ≡ place = get_or_from_slice_get named k place (negsuc 0) is in
    grows_more old mid new (IsCaseEdge named p) k a (edges_alike mid new p (λ q. z ≡ pos q) (λ q. get_or named k (negsuc 0) ≡ pos q) (λ q e. at ∙ sym same ∙ e) (λ q e. same ∙ sym at ∙ e) b)

below_zero : (q : ℕ) → negsuc 0 ≡ pos q → ⊥
below_zero q e = absurd (cc)

named_at : (named : List ℤ) (k q : ℕ) → get_or named k (negsuc 0) ≡ pos q → IsNamed named q
named_at named k q at =
    elim (cases_lt k (length named)) [
      | inl lt ↦ (k, lt, get_or_default named k (pos q) (negsuc 0) lt ∙ at)
      | inr past ↦ absurd (below_zero q (sym (get_or_past named k (negsuc 0) past) ∙ at))
    ]

pub all_cases : (old new : List (ℕ × ℕ)) (code : List ℕ) (p n : ℕ) (i : Instr) → i.count ≤ n → Grows old new (Upto (IsCaseEdge (case_places code p i) p) n) → Grows old new (IsEdgeFrom p (IsNamed (case_places code p i)))
all_cases old new code p n i le a =
    let named = case_places code p i in
    let few = few_cases code p i in
    grows_alike old new (Upto (IsCaseEdge named p) n) (IsEdgeFrom p (IsNamed named))
    (λ e x. record { target = x.2.target; leads = named_at named x.0 x.2.target x.2.leads; is = x.2.is })
    (λ e x.
    let lt = x.leads.1 in
    let at : get_or named x.leads.0 (negsuc 0) ≡ pos x.target = get_or_default named x.leads.0 (negsuc 0) (pos x.target) lt ∙ x.leads.2 in
    (x.leads.0, omega arith, record { target = x.target; leads = at; is = x.is }))
    a

pub case_named : (named : List ℤ) (k q : ℕ) (place : ℤ) → slice_get named k ≡ Some place → place ≡ pos q → IsNamed named q
case_named named k q place is e = named_at named k q (get_or_from_slice_get named k place (negsuc 0) is ∙ e)

-- ---- the first place and the others

pub first_named : (named others : List ℤ) (place : ℤ) (q : ℕ) → named ≡ (place ∷ []) ++ others → place ≡ pos q → IsNamed named q
first_named named others place q is e =
    let P : List ℤ → Type 0 = λ zs. Contains zs (pos q) in
    let Q : ℤ → Type 0 = λ z. Contains (place ∷ others) z in
    subst P (sym is) (subst Q e (at_head place others))

pub others_named : (named front others : List ℤ) (q : ℕ) → named ≡ front ++ others → IsNamed others q → IsNamed named q
others_named named front others q is has =
    let P : List ℤ → Type 0 = λ zs. Contains zs (pos q) in
    subst P (sym is) (Contains-append_right front others (pos q) has)

either_named : (others : List ℤ) (place : ℤ) (q : ℕ) → Contains ((place ∷ []) ++ others) (pos q) → (place ≡ pos q) ⊎ IsNamed others q
either_named others place q has = cons_cases place (pos q) others has

pub named_then : (old mid new : List (ℕ × ℕ)) (p : ℕ) (named others : List ℤ) (place : ℤ) {z : ℤ} → named ≡ (place ∷ []) ++ others → Grows old mid (IsEdgeFrom p (λ q. z ≡ pos q)) → z ≡ place → Grows mid new (IsEdgeFrom p (IsNamed others)) → Grows old new (IsEdgeFrom p (IsNamed named))
named_then old mid new p named others place {z} is a same b =
    let P : List ℤ → ℕ → Type 0 = λ zs q. Contains zs (pos q) in
    edges_then old mid new p (λ q. z ≡ pos q) (IsNamed others) (IsNamed named) a b
    (λ q e. first_named named others place q is (sym same ∙ e))
    (λ q has. others_named named (place ∷ []) others q is has)
    (λ q has. elim (either_named others place q (subst (λ zs. P zs q) is has)) [ inl e ↦ inl (same ∙ e) | inr h ↦ inr h ])

pub named_alone : (old new : List (ℕ × ℕ)) (p : ℕ) (named others : List ℤ) → named ≡ [] ++ others → Grows old new (IsEdgeFrom p (IsNamed others)) → Grows old new (IsEdgeFrom p (IsNamed named))
named_alone old new p named others is a =
    let P : List ℤ → Type 0 = λ zs. Grows old new (IsEdgeFrom p (IsNamed zs)) in
    subst P (sym is) a

-- ---- by kind

pub leads_by : (kind : Kind) (named : List ℤ) (next q : ℕ) → LeadsByKind kind named next q → IsNamedBy kind named q ⊎ IsNextBy kind next q
leads_by Plain named next q l = inr (refl, l)
leads_by Branch named next q (inl has) = inl (refl, has)
leads_by Branch named next q (inr e) = inr (refl, e)
leads_by Jump named next q l = inl (refl, l)
leads_by Switch named next q l = inl (refl, l)
leads_by Return named next q l = absurd l
leads_by Throw named next q l = absurd l
leads_by Invoke named next q l = inr (refl, l)

no_true : false ≡ true → ⊥
no_true e = absurd (cc)

pub named_leads : (kind : Kind) (named : List ℤ) (next q : ℕ) → IsNamedBy kind named q → LeadsByKind kind named next q
named_leads Plain named next q h = absurd (no_true h.0)
named_leads Branch named next q h = inl h.1
named_leads Jump named next q h = h.1
named_leads Switch named next q h = h.1
named_leads Return named next q h = absurd (no_true h.0)
named_leads Throw named next q h = absurd (no_true h.0)
named_leads Invoke named next q h = absurd (no_true h.0)

pub next_leads : (kind : Kind) (named : List ℤ) (next q : ℕ) → IsNextBy kind next q → LeadsByKind kind named next q
next_leads Plain named next q h = h.1
next_leads Branch named next q h = inr h.1
next_leads Jump named next q h = absurd (no_true h.0)
next_leads Switch named next q h = absurd (no_true h.0)
next_leads Return named next q h = absurd (no_true h.0)
next_leads Throw named next q h = absurd (no_true h.0)
next_leads Invoke named next q h = h.1

pub kind_then : (old mid new : List (ℕ × ℕ)) (p : ℕ) (kind : Kind) (named : List ℤ) (next : ℕ) → Grows old mid (IsEdgeFrom p (IsNamedBy kind named)) → Grows mid new (IsEdgeFrom p (IsNextBy kind next)) → Grows old new (IsEdgeFrom p (LeadsByKind kind named next))
kind_then old mid new p kind named next a b =
    edges_then old mid new p (IsNamedBy kind named) (IsNextBy kind next) (LeadsByKind kind named next) a b (λ q h. named_leads kind named next q h) (λ q h. next_leads kind named next q h) (λ q l. leads_by kind named next q l)

-- ---- at an instruction of the code

pub leads_here : (old new : List (ℕ × ℕ)) (code other : List ℕ) (p : ℕ) (i : Instr) → other ≡ code → IsStart code p → Ok i ≡ decoded other p → Grows old new (IsEdgeFrom p (InstructionLeads other p i)) → Grows old new (IsEdgeFrom p (Leads code p))
leads_here old new code other p i same start at a =
    let D : List ℕ → Type 0 = λ c. Ok i ≡ decoded c p in
    let G : List ℕ → Type 0 = λ c. Grows old new (IsEdgeFrom p (InstructionLeads c p i)) in
    let is : decoded code p ≡ Ok i = sym (subst D same at) in
    edges_alike old new p (InstructionLeads code p i) (Leads code p)
    (λ q l. record { instr = i; at = record { start = start; is = is }; leads = l })
    (λ q l. let P : Instr → Type 0 = λ x. InstructionLeads code p x q in subst P (same_instr code p l.instr i l.at.is is) l.leads)
    (subst G same a)

never_both : (r : Result Instr DecodeFault) (i : Instr) (f : DecodeFault) → r ≡ Ok i → Err f ≡ r → ⊥
never_both r i f a b = absurd (cc)

pub leads_nowhere : (old : List (ℕ × ℕ)) (code other : List ℕ) (p : ℕ) (f : DecodeFault) → other ≡ code → Err f ≡ decoded other p → Grows old old (IsEdgeFrom p (Leads code p))
leads_nowhere old code other p f same at =
    let D : List ℕ → Type 0 = λ c. Err f ≡ decoded c p in
    grows_none old old (IsEdgeFrom p (Leads code p)) refl (λ e x. never_both (decoded code p) x.leads.instr f x.leads.at.is (subst D same at))
