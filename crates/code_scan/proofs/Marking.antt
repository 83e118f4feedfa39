-- Marks that are added.
use Rattle.std.proofs.Common.{◌≡◌, ◌↔◌, ◌⊎◌, ℕ, ◌+◌, ◌<◌, ◌≤◌, Bool, true, false, List, [], ◌∷◌, ◌++◌, length, get_or, replicate, Contains, refl, sym, ap, ◌∙◌, subst, inl, inr, arith}
use Rattle.std.specs.Prelude.{ℤ, pos, negsuc, Some, slice_get, ◌+ℤ◌, Result, Ok, Err}
use Rattle.std.proofs.lemmas.Bool.{cases_eq, cases_lt, false≢true}
use Rattle.std.proofs.lemmas.List.{length-map, get_or_default, get_or_past, get_or-set_other, get_or-replicate, length-replicate}
use Rattle.std.proofs.lemmas.List.Elements.{Contains-append_right}
use Rattle.std.proofs.lemmas.List.FromFn.{length-map-range_with_len}
use Rattle.std.proofs.lemmas.Option.{get_or_from_slice_get}
use Rattle.std.proofs.Math.ListN.{set, length-set}
use Rattle.std.proofs.lemmas.Grind.{get_or-set_at}
use Rattle.lists.specs.Members.{at_head, cons_cases, nil_contains, place_of}
use Rattle.opcodes.specs.declared.instruction.Instr.{Instr}
use Rattle.opcodes.specs.declared.instruction.Case.{Case}
use Rattle.opcodes.specs.Form.{Form, NotAnOpcode, Fixed, Widened, TableSwitch, LookupSwitch, Wide}
use Rattle.opcodes.specs.Row as opcodes
use Rattle.opcodes.specs.declared.instruction.DecodeFault.{DecodeFault}
use Rattle.opcodes.specs.declared.table.Kind.{Kind}
use Rattle.opcodes.specs.declared.table.Kind.TheVariants.{Plain, Branch, Jump, Switch, Return, Throw, Invoke}
use Rattle.opcodes.specs.Instruction.{decoded}
use Rattle.opcodes.specs.Start.{IsStart, starts_of}
use Rattle.opcodes.specs.Target.{cases_by, cases_of, table_case, lookup_case, targets_of, TargetsFitKind}
use Rattle.method_flow.specs.declared.flow.HandlerRange.{HandlerRange}
use Rattle.method_flow.specs.Flow.{Coded, IsCoded, StaysInCode}
use Rattle.method_flow.specs.Kinds.{LeadsByKind}
use Rattle.code_scan.specs.Marks.{Marks, mark_at}
use Rattle.code_scan.specs.Naming.{case_places, NamesIn, HandlesAt, IsNamedIn}

pub marks_none : (old : List Bool) (L : ℕ → Type 0) → ((q : ℕ) → L q → ⊥) → Marks old old L
marks_none old L none = record { long = refl; each = λ q. (λ h. inl h, λ h. elim h [ inl there ↦ there | inr l ↦ absurd (none q l) ]) }

pub marks_alike : (old new : List Bool) (L M : ℕ → Type 0) → ((q : ℕ) → L q → M q) → ((q : ℕ) → M q → L q) → Marks old new L → Marks old new M
marks_alike old new L M to back h = record {
  long = h.long;
  each = λ q. (
    λ e. elim ((h.each q).0 e) [ inl there ↦ inl there | inr l ↦ inr (to q l) ],
    λ e. elim e [ inl there ↦ (h.each q).1 (inl there) | inr m ↦ (h.each q).1 (inr (back q m)) ],
  );
}

pub marks_then : (old mid new : List Bool) (L M N : ℕ → Type 0) → Marks old mid L → Marks mid new M → ((q : ℕ) → L q → N q) → ((q : ℕ) → M q → N q) → ((q : ℕ) → N q → L q ⊎ M q) → Marks old new N
marks_then old mid new L M N a b left right either = record {
  long = b.long ∙ a.long;
  each = λ q. (
    λ e. elim ((b.each q).0 e) [
      | inl there ↦ elim ((a.each q).0 there) [ inl first ↦ inl first | inr l ↦ inr (left q l) ]
      | inr m ↦ inr (right q m)
    ],
    λ e. elim e [
      | inl there ↦ (b.each q).1 (inl ((a.each q).1 (inl there)))
      | inr n ↦ elim (either q n) [ inl l ↦ (b.each q).1 (inl ((a.each q).1 (inr l))) | inr m ↦ (b.each q).1 (inr m) ]
    ],
  );
}

-- ---- one after another

-- what is so of an item among the first so many
abbrev pub Upto : (ℕ → ℕ → Type 0) → (count : ℕ) → ℕ → Type 0
Upto L n q = (k : ℕ) × (k < n) × L k q

pub marks_start : (old : List Bool) (L : ℕ → ℕ → Type 0) → Marks old old (Upto L 0)
marks_start old L = marks_none old (Upto L 0) (λ q h. let below = h.1 in omega arith)

pub marks_more : (old mid new : List Bool) (L : ℕ → ℕ → Type 0) (n : ℕ) → Marks old mid (Upto L n) → Marks mid new (L n) → Marks old new (Upto L (n + 1))
marks_more old mid new L n a b =
    marks_then old mid new (Upto L n) (L n) (Upto L (n + 1)) a b
    (λ q h. let below = h.1 in (h.0, omega arith, h.2))
    (λ q l. (n, omega arith, l))
    (λ q h. by q h.0 h.1 h.2)
  where
    by : (q k : ℕ) → k < n + 1 → L k q → Upto L n q ⊎ L n q
    by q k below l = elim (cases_eq k n) [ inl same ↦ inr (subst (λ (x : ℕ). L x q) same l) | inr other ↦ inl (k, omega arith, l) ]

-- ---- cases

few_by : (f : Form) (code : List ℕ) (i : Instr) → length (cases_by f code i) ≤ i.count
few_by NotAnOpcode code i = omega arith
few_by (Fixed o) code i = omega arith
few_by (Widened o w) code i = omega arith
few_by TableSwitch code i = let e = length-map-range_with_len (table_case code i) 0 i.count in omega arith
few_by LookupSwitch code i = let e = length-map-range_with_len (lookup_case code i) 0 i.count in omega arith
few_by Wide code i = omega arith

few_cases : (code : List ℕ) (p : ℕ) (i : Instr) → length (case_places code p i) ≤ i.count
few_cases code p i =
    let e = length-map (cases_of code i) (λ (c : Case). pos p +ℤ c.offset) in
    let f = few_by (opcodes.row_of i.op).form code i in
    omega arith

-- the named place of this number
abbrev pub IsAt : List ℤ → (k : ℕ) → ℕ → Type 0
IsAt named k q = get_or named k (negsuc 0) ≡ pos q

pub case_more : (old mid new : List Bool) (named : List ℤ) (k : ℕ) (place : ℤ) {z : ℤ} → slice_get named k ≡ Some place → Marks old mid (Upto (IsAt named) k) → Marks mid new (λ q. z ≡ pos q) → z ≡ place → Marks old new (Upto (IsAt named) (k + 1))
case_more old mid new named k place {z} is a b same =
    let at : get_or named k (negsuc 0) ≡ place = get_or_from_slice_get named k place (negsuc 0) is in
    marks_more old mid new (IsAt named) k a (marks_alike mid new (λ q. z ≡ pos q) (IsAt named k) (λ q e. at ∙ sym same ∙ e) (λ q e. same ∙ sym at ∙ e) b)

below_zero : (q : ℕ) → negsuc 0 ≡ pos q → ⊥
below_zero q e = absurd (cc)

named_at : (named : List ℤ) (k q : ℕ) → IsAt named k q → Contains named (pos q)
named_at named k q at =
    elim (cases_lt k (length named)) [
      | inl lt ↦ (k, lt, get_or_default named k (pos q) (negsuc 0) lt ∙ at)
      | inr past ↦ absurd (below_zero q (sym (get_or_past named k (negsuc 0) past) ∙ at))
    ]

pub all_cases : (old new : List Bool) (code : List ℕ) (p n : ℕ) (i : Instr) → i.count ≤ n → Marks old new (Upto (IsAt (case_places code p i)) n) → Marks old new (λ q. Contains (case_places code p i) (pos q))
all_cases old new code p n i le a =
    let named = case_places code p i in
    let few = few_cases code p i in
    marks_alike old new (Upto (IsAt named) n) (λ q. Contains named (pos q))
    (λ q x. named_at named x.0 q x.2)
    (λ q x.
    let lt = x.1 in
    (x.0, omega arith, get_or_default named x.0 (negsuc 0) (pos q) lt ∙ x.2))
    a

pub case_named : (named : List ℤ) (k q : ℕ) (place : ℤ) → slice_get named k ≡ Some place → place ≡ pos q → Contains named (pos q)
case_named named k q place is e = named_at named k q (get_or_from_slice_get named k place (negsuc 0) is ∙ e)

-- ---- the first place and the others

pub first_named : (named others : List ℤ) (place : ℤ) (q : ℕ) → named ≡ (place ∷ []) ++ others → place ≡ pos q → Contains named (pos q)
first_named named others place q is e =
    subst (λ (zs : List ℤ). Contains zs (pos q)) (sym is) (subst (λ (z : ℤ). Contains (place ∷ others) z) e (at_head place others))

pub others_named : (named front others : List ℤ) (q : ℕ) → named ≡ front ++ others → Contains others (pos q) → Contains named (pos q)
others_named named front others q is has =
    subst (λ (zs : List ℤ). Contains zs (pos q)) (sym is) (Contains-append_right front others (pos q) has)

pub named_then : (old mid new : List Bool) (named others : List ℤ) (place : ℤ) {z : ℤ} → named ≡ (place ∷ []) ++ others → Marks old mid (λ q. z ≡ pos q) → z ≡ place → Marks mid new (λ q. Contains others (pos q)) → Marks old new (λ q. Contains named (pos q))
named_then old mid new named others place {z} is a same b =
    marks_then old mid new (λ q. z ≡ pos q) (λ q. Contains others (pos q)) (λ q. Contains named (pos q)) a b
    (λ q e. first_named named others place q is (sym same ∙ e))
    (λ q has. others_named named (place ∷ []) others q is has)
    (λ q has. elim (cons_cases place (pos q) others (subst (λ (zs : List ℤ). Contains zs (pos q)) is has)) [ inl e ↦ inl (same ∙ e) | inr h ↦ inr h ])

pub named_alone : (old new : List Bool) (named others : List ℤ) → named ≡ [] ++ others → Marks old new (λ q. Contains others (pos q)) → Marks old new (λ q. Contains named (pos q))
named_alone old new named others is a =
    let P : List ℤ → Type 0 = λ zs. Marks old new (λ q. Contains zs (pos q)) in
    subst P (sym is) a

-- ---- at an instruction

-- an instruction leads to the places that it names
pub named_leads : (code : List ℕ) (p next q : ℕ) (i : Instr) → TargetsFitKind code p i → (kind : Kind) → (opcodes.row_of i.op).kind ≡ kind → Contains (targets_of code p i) (pos q)
    → LeadsByKind kind (targets_of code p i) next q
named_leads code p next q i fits Plain e c = absurd (nil_contains (pos q) (subst (λ (zs : List ℤ). Contains zs (pos q)) (fits.plain e) c))
named_leads code p next q i fits Branch e c = inl c
named_leads code p next q i fits Jump e c = c
named_leads code p next q i fits Switch e c = c
named_leads code p next q i fits Return e c = absurd (nil_contains (pos q) (subst (λ (zs : List ℤ). Contains zs (pos q)) (fits.return e) c))
named_leads code p next q i fits Throw e c = absurd (nil_contains (pos q) (subst (λ (zs : List ℤ). Contains zs (pos q)) (fits.throw e) c))
named_leads code p next q i fits Invoke e c = absurd (nil_contains (pos q) (subst (λ (zs : List ℤ). Contains zs (pos q)) (fits.invoke e) c))

pub ok_same : (i j : Instr) → ◌≡◌ {A = Result Instr DecodeFault} (Ok i) (Ok j) → i ≡ j
ok_same i j e = cc

-- so they are instructions of the code
pub named_inside : (code : List ℕ) (p q : ℕ) (i : Instr) → TargetsFitKind code p i → StaysInCode code p → decoded code p ≡ Ok i → Contains (targets_of code p i) (pos q) → IsStart code q
named_inside code p q i fits stays is c =
    let same : i ≡ stays.instr = ok_same i stays.instr (sym is ∙ stays.is) in
    let P : Instr → Type 0 = λ x. LeadsByKind (opcodes.row_of x.op).kind (targets_of code p x) (p + x.length) q in
    stays.leads q (subst P same (named_leads code p (p + i.length) q i fits (opcodes.row_of i.op).kind refl c))

-- a start that has an instruction
pub never_bad : (code : List ℕ) (p : ℕ) (f : DecodeFault) → StaysInCode code p → ◌≡◌ {A = Result Instr DecodeFault} (Err f) (decoded code p) → ⊥
never_bad code p f stays e = absurd (let bad : ◌≡◌ {A = Result Instr DecodeFault} (Err f) (Ok stays.instr) = e ∙ stays.is in cc)

pub marks_line : (old new : List Bool) (code : List ℕ) (p : ℕ) (i : Instr) → IsStart code p → decoded code p ≡ Ok i → Marks old new (λ q. Contains (targets_of code p i) (pos q)) → Marks old new (NamesIn code p)
marks_line old new code p i start is a =
    marks_alike old new (λ q. Contains (targets_of code p i) (pos q)) (NamesIn code p)
    (λ q c. record { start = start; instr = i; is = is; names = c })
    (λ q h. let same : h.instr ≡ i = ok_same h.instr i (sym h.is ∙ is) in subst (λ (x : Instr). Contains (targets_of code p x) (pos q)) same h.names)
    a

-- ---- over a code

-- what the instruction at the start of this index names
abbrev pub NamesAt : (code : List ℕ) → (starts : List ℕ) → (k : ℕ) → ℕ → Type 0
NamesAt code starts k q = NamesIn code (get_or starts k 0) q

pub all_lines : (old new : List Bool) (code starts : List ℕ) (n : ℕ) → starts ≡ starts_of code → length starts ≤ n → Marks old new (Upto (NamesAt code starts) n) → Marks old new (λ q. (p : ℕ) × NamesIn code p q)
all_lines old new code starts n are past a =
    marks_alike old new (Upto (NamesAt code starts) n) (λ q. (p : ℕ) × NamesIn code p q)
    (λ q x. (get_or starts x.0 0, x.2))
    (λ q x.
    let at = place_of starts x.0 (subst (λ (ps : List ℕ). Contains ps x.0) (sym are) x.1.start) in
    let below = at.1 in
    (at.0, omega arith, subst (λ (p : ℕ). NamesIn code p q) (sym at.2) x.1))
    a

-- ---- handlers

abbrev pub none : HandlerRange
none = record { start = 0; end = 0; handler = 0 }

-- the handler of the range of this index
abbrev pub HandledAt : List HandlerRange → (k : ℕ) → ℕ → Type 0
HandledAt ranges k q = (k < length ranges) × ((get_or ranges k none).handler ≡ q)

pub one_set : (old new : List Bool) (place : ℕ) → place < length old → new ≡ set old place true → Marks old new (λ q. place ≡ q)
one_set old new place inside is = record {
  long = ap length is ∙ length-set old place true;
  each = λ q. (to q, from q);
}
  where
    at : (q : ℕ) → place ≡ q → mark_at new q ≡ true
    at q same = ap (λ (xs : List Bool). get_or xs q false) is ∙ get_or-set_at old place q true false (sym same) inside

    other : (q : ℕ) → (q ≡ place → ⊥) → mark_at new q ≡ mark_at old q
    other q differ = ap (λ (xs : List Bool). get_or xs q false) is ∙ get_or-set_other old place q true false differ

    to : (q : ℕ) → mark_at new q ≡ true → (mark_at old q ≡ true) ⊎ (place ≡ q)
    to q e = elim (cases_eq q place) [ inl same ↦ inr (sym same) | inr differ ↦ inl (sym (other q differ) ∙ e) ]

    from : (q : ℕ) → (mark_at old q ≡ true) ⊎ (place ≡ q) → mark_at new q ≡ true
    from q (inr same) = at q same
    from q (inl there) = elim (cases_eq q place) [ inl same ↦ at q (sym same) | inr differ ↦ other q differ ∙ there ]

pub handler_more : (old mid new : List Bool) (ranges : List HandlerRange) (k : ℕ) → k < length ranges → Marks old mid (Upto (HandledAt ranges) k) → Marks mid new (λ q. (get_or ranges k none).handler ≡ q) → Marks old new (Upto (HandledAt ranges) (k + 1))
handler_more old mid new ranges k lt a b =
    marks_more old mid new (HandledAt ranges) k a (marks_alike mid new (λ q. (get_or ranges k none).handler ≡ q) (HandledAt ranges k) (λ q e. (lt, e)) (λ q h. h.1) b)

pub all_handlers : (old new : List Bool) (ranges : List HandlerRange) (n : ℕ) → length ranges ≤ n → Marks old new (Upto (HandledAt ranges) n) → Marks old new (HandlesAt ranges)
all_handlers old new ranges n past a =
    marks_alike old new (Upto (HandledAt ranges) n) (HandlesAt ranges)
    (λ q x. let lt = x.2.0 in (get_or ranges x.0 none, (x.0, lt, get_or_default ranges x.0 (get_or ranges x.0 none) none lt), x.2.1))
    (λ q x.
    let lt = x.1.1 in
    let at : get_or ranges x.1.0 none ≡ x.0 = get_or_default ranges x.1.0 none x.0 lt ∙ x.1.2 in
    (x.1.0, omega arith, (lt, ap (λ (r : HandlerRange). r.handler) at ∙ x.2)))
    a

-- ---- both

pub all_named : (n : ℕ) (mid new : List Bool) (k : Coded) → Marks (replicate n false) mid (λ q. (p : ℕ) × NamesIn k.code p q) → Marks mid new (HandlesAt k.ranges) → (q : ℕ) → (mark_at new q ≡ true) ↔ IsNamedIn k q
all_named n mid new k a b q =
    let none = replicate n false in
    let m : Marks none new (IsNamedIn k) = marks_then none mid new (λ x. (p : ℕ) × NamesIn k.code p x) (HandlesAt k.ranges) (IsNamedIn k) a b (λ x h. inl h) (λ x h. inr h) (λ x h. h) in (
      λ e. elim ((m.each q).0 e) [ inl there ↦ absurd (false≢true (sym (all_false n q) ∙ there)) | inr h ↦ h ],
      λ h. (m.each q).1 (inr h),
    )
  where
    all_false : (n q : ℕ) → get_or (replicate n false) q false ≡ false
    all_false n q = elim (cases_lt q n) [ inl lt ↦ get_or-replicate n q false false lt | inr past ↦ get_or_past (replicate n false) q false (let long = length-replicate n false in omega arith) ]

pub handlers_inside : (k : Coded) → IsCoded k → ((q : ℕ) → IsStart k.code q → q < length k.code) → (ranges : List HandlerRange) → ranges ≡ k.ranges → (n : ℕ) (d : HandlerRange) → n < length ranges → (get_or ranges n d).handler < length k.code
handlers_inside k coded inside ranges same n d lt =
    let P : List HandlerRange → Type 0 = λ rs. (i : ℕ) (x : HandlerRange) → i < length rs → (get_or rs i x).handler < length k.code in
    let each : P k.ranges = λ i x below. inside (get_or k.ranges i x).handler (coded.ranges i x below).handler in
    subst P (sym same) each n d lt
