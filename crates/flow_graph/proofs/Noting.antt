-- Where calls go on, and the edges from instructions in turn.
use Rattle.std.proofs.Common.{◌≡◌, ◌≢◌, ℕ, zero, suc, ◌+◌, ◌*◌, ◌<◌, ◌≤◌, ◌⊎◌, Bool, true, false, List, [], ◌∷◌, length, get_or, set, replicate, filter, All, Contains, Some, refl, sym, ap, ◌∙◌, subst, inl, inr, arith}
use Rattle.std.specs.Prelude.{◌↔◌, slice_get}
use Rattle.std.specs.List.Sorted.{IsStrictlyIncreasing}
use Rattle.std.proofs.lemmas.Bool.{cases_eq, cases_lt, both_ways}
use Rattle.std.proofs.lemmas.List.{length-set, get_or-set_same, get_or-set_other, get_or-replicate, length-replicate}
use Rattle.std.proofs.lemmas.List.Elements.{Contains-get_or}
use Rattle.std.proofs.lemmas.List.Kept.{IsStrictlyIncreasing-filter}
use Rattle.std.proofs.lemmas.Option.{slice_get-get_or}
use Rattle.lists.proofs.Lemmas.{some_same}
use Rattle.lists.specs.Members.{place_of, map_contains, nil_contains}
use Rattle.loop_nest.proofs.Elements.{filter_contains, from_filter}
use Rattle.opcodes.specs.Instruction.{decoded}
use Rattle.opcodes.specs.Start.{IsStart, AreStarts, starts_of}
use Rattle.method_flow.specs.declared.flow.Call.{Call}
use Rattle.method_flow.specs.declared.flow.HandlerRange.{HandlerRange}
use Rattle.method_flow.specs.Flow.{Coded, IsCoded}
use Rattle.method_flow.specs.Nodes.{Node, At, RaiseAt, number_of}
use Rattle.flow_graph.specs.Edges.{CodeEdge, IsEdgeFrom, IsEdgeWhereOn, IsLeadEdge, IsNumberedEdge, Leads, RaisesAt, AreCodeEdges, raises_in}
use Rattle.flow_graph.specs.Growing.{Grows}
use Rattle.flow_graph.specs.Raising.{IsRaiseEdge, IsHandlerEdge, IsRaisingEdge, raising_places}
use Rattle.flow_graph.specs.Where.{CallsGoOn, AreGoingOn, noted}
use Rattle.flow_graph.proofs.Growing.{Upto, grows_alike, grows_then}

-- ---- calls in turn

-- the first so many calls at the place go on
abbrev pub FirstGoOn : List Call → List Bool → ℕ → ℕ → Type 0
FirstGoOn calls goes n p = (i : ℕ) (c : Call) → i < n → slice_get calls i ≡ Some c → c.place ≡ p → slice_get goes i ≡ Some true

pub record AreNoted (calls : List Call) (goes : List Bool) (size n : ℕ) (flags : List Bool) : Type 0 where
  pub long : length flags ≡ size
  pub each : (p : ℕ) → p < size → (get_or flags p false ≡ true) ↔ FirstGoOn calls goes n p

pub noted_none : (calls : List Call) (goes : List Bool) (size : ℕ) (flags : List Bool) → flags ≡ replicate size true → AreNoted calls goes size 0 flags
noted_none calls goes size flags is =
    let P : List Bool → Type 0 = λ fs. AreNoted calls goes size 0 fs in
    subst P (sym is) (record {
      long = length-replicate size true;
      each = λ p lt. (λ _ i c less at same. absurd (omega arith), λ _. get_or-replicate size p true false lt);
    })

module _ (calls : List Call) (goes : List Bool) (size n : ℕ) (flags : List Bool) (h : AreNoted calls goes size n flags) (c : Call) (is : slice_get calls n ≡ Some c) (inside : c.place < size) where
  goes_more : slice_get goes n ≡ Some true → (p : ℕ) → FirstGoOn calls goes n p → FirstGoOn calls goes (n + 1) p
  goes_more on p first = λ i d lt at same.
      elim (cases_lt i n) [
        | inl less ↦ first i d less at same
        | inr ge ↦ let e : n ≡ i = omega arith in let P : ℕ → Type 0 = λ j. slice_get goes j ≡ Some true in subst P e on
      ]

  goes_less : (p : ℕ) → FirstGoOn calls goes (n + 1) p → FirstGoOn calls goes n p
  goes_less p first = λ i d lt at same. first i d (omega arith) at same

  pub noted_on : slice_get goes n ≡ Some true → AreNoted calls goes size (n + 1) flags
  noted_on on = record {
    long = h.long;
    each = λ p lt. (λ at. goes_more on p ((h.each p lt).0 at), λ first. (h.each p lt).1 (goes_less p first));
  }

  not_both : Some false ≡ Some true → ⊥
  not_both e = absurd (let f : false ≡ true = some_same false true e in cc)

  other_call : (p : ℕ) → p ≢ c.place → FirstGoOn calls goes n p → FirstGoOn calls goes (n + 1) p
  other_call p apart first = λ i d lt at same.
      elim (cases_lt i n) [
        | inl less ↦ first i d less at same
        | inr ge ↦
            let e : i ≡ n = omega arith in
            let P : ℕ → Type 0 = λ j. slice_get calls j ≡ Some d in
            let one : d ≡ c = some_same d c (sym (subst P e at) ∙ is) in
            absurd (apart (sym same ∙ ap (λ (x : Call). x.place) one))
      ]

  pub noted_off : slice_get goes n ≡ Some false → AreNoted calls goes size (n + 1) (set flags c.place false)
  noted_off off =
      let long = h.long in
      let within : c.place < length flags = omega arith in
      record {
        long = length-set flags c.place false ∙ h.long;
        each = λ p lt.
            elim (cases_eq p c.place) [
              | inl same ↦ (
                λ at. absurd (both_ways (get_or (set flags c.place false) p false) (ap (λ (q : ℕ). get_or (set flags c.place false) q false) same ∙ get_or-set_same flags c.place false false within) at),
                λ first. absurd (not_both (sym off ∙ first n c (omega arith) is (sym same))),
              )
              | inr other ↦
                  let kept = get_or-set_other flags c.place p false false other in
                  (λ at. other_call p other ((h.each p lt).0 (sym kept ∙ at)), λ first. kept ∙ (h.each p lt).1 (goes_less p first))
            ];
      }

  pub noted_more : (b : Bool) → slice_get goes n ≡ Some b → AreNoted calls goes size (n + 1) (noted flags c b)
  noted_more true on = noted_on on
  noted_more false off = noted_off off

past_none : {X : Type 0} (xs : List X) (i : ℕ) (x : X) → slice_get xs i ≡ Some x → i < length xs
past_none [] i x e = absurd (cc)
past_none (y ∷ xs) zero x e = omega arith
past_none (y ∷ xs) (suc i) x e = let lt = past_none xs i x e in omega arith

pub all_noted : (calls : List Call) (goes : List Bool) (size n : ℕ) (flags : List Bool) → length calls ≤ n → AreNoted calls goes size n flags → AreGoingOn calls goes size flags
all_noted calls goes size n flags le h = record {
  long = h.long;
  each = λ p lt. (
    λ at i c is same. let less = past_none calls i c is in (h.each p lt).0 at i c (omega arith) is same,
    λ all. (h.each p lt).1 (λ i c less is same. all i c is same),
  );
}

-- each call is within the code
calls_within : (starts : (code : List ℕ) → AreStarts code) (k : Coded) → IsCoded k → All (λ (c : Call). c.place < length k.code) k.calls
calls_within starts k c = λ i d lt.
    let call = get_or k.calls i d in
    let has = map_contains (λ (x : Call). x.place) k.calls call (Contains-get_or k.calls i d lt) in
    (starts k.code).within_code call.place ((c.calls call.place).0 has).start

-- ---- instructions in turn

abbrev pub IsStartEdge : Coded → (goes : List Bool) → ℕ → ℕ × ℕ → Type 0
IsStartEdge k goes i e =
    let starts = starts_of k.code in
    (i < length starts) × CallsGoOn k.calls goes (get_or starts i 0) × IsEdgeFrom (get_or starts i 0) (Leads k.code (get_or starts i 0)) e

pub all_starts : (old new : List (ℕ × ℕ)) (k : Coded) (goes : List Bool) (n : ℕ) → length (starts_of k.code) ≤ n → Grows old new (Upto (IsStartEdge k goes) n) → Grows old new (IsLeadEdge k goes)
all_starts old new k goes n le a =
    grows_alike old new (Upto (IsStartEdge k goes) n) (IsLeadEdge k goes)
    (λ e x. record { place = get_or (starts_of k.code) x.0 0; goes_on = x.2.1; edge = x.2.2 })
    (λ e x.
    let at = place_of (starts_of k.code) x.place x.edge.leads.at.start in
    let lt = at.1 in
    let P : ℕ → Type 0 = λ p. CallsGoOn k.calls goes p × IsEdgeFrom p (Leads k.code p) e in
    let here : P (get_or (starts_of k.code) at.0 0) = subst P (sym at.2) (x.goes_on, x.edge) in
    (at.0, omega arith, (lt, here.0, here.1)))
    a

-- the flag of a place tells whether the calls there go on
pub where_on : (old new : List (ℕ × ℕ)) (k : Coded) (goes flags : List Bool) (i p : ℕ) (on : Bool) → i < length (starts_of k.code) → p ≡ get_or (starts_of k.code) i 0 → (on ≡ true) ↔ CallsGoOn k.calls goes p → Grows old new (IsEdgeWhereOn on p (Leads k.code p)) → Grows old new (IsStartEdge k goes i)
where_on old new k goes flags i p on lt is when a =
    let P : ℕ → Type 0 = λ q. Grows old new (λ e. (i < length (starts_of k.code)) × CallsGoOn k.calls goes q × IsEdgeFrom q (Leads k.code q) e) in
    subst P is (grows_alike old new (IsEdgeWhereOn on p (Leads k.code p)) (λ e. (i < length (starts_of k.code)) × CallsGoOn k.calls goes p × IsEdgeFrom p (Leads k.code p) e) (λ e x. (lt, when.0 x.0, x.1)) (λ e x. (when.1 x.1, x.2)) a)

-- ---- raise steps

raising_at : (code : List ℕ) (p : ℕ) → Contains (raising_places code) p → RaisesAt code p
raising_at code p has = let f = from_filter (λ (q : ℕ). raises_in (decoded code q)) (starts_of code) p has in record { start = f.0; raises = f.1 }

raising_has : (code : List ℕ) (p : ℕ) → RaisesAt code p → Contains (raising_places code) p
raising_has code p r = filter_contains (λ (q : ℕ). raises_in (decoded code q)) (starts_of code) p r.raises r.start

raising_rises : (starts : (code : List ℕ) → AreStarts code) (code : List ℕ) → IsStrictlyIncreasing (raising_places code)
raising_rises starts code = IsStrictlyIncreasing-filter (λ (q : ℕ). raises_in (decoded code q)) (starts_of code) (starts code).rising

raising_within : (starts : (code : List ℕ) → AreStarts code) (code : List ℕ) → length code < 65536 → All (λ p. p < 65536) (raising_places code)
raising_within starts code short = λ i d lt.
    let p = get_or (raising_places code) i d in
    let r = raising_at code p (Contains-get_or (raising_places code) i d lt) in
    let below = (starts code).within_code p r.start in
    omega arith

starts_within : (starts : (code : List ℕ) → AreStarts code) (code : List ℕ) → All (λ p. p < length code) (starts_of code)
starts_within starts code = λ i d lt. (starts code).within_code (get_or (starts_of code) i d) (Contains-get_or (starts_of code) i d lt)

handlers_within : (starts : (code : List ℕ) → AreStarts code) (k : Coded) → IsCoded k → All (λ (r : HandlerRange). r.handler < 65536) k.ranges
handlers_within starts k c = λ i d lt.
    let r = get_or k.ranges i d in
    let below = (starts k.code).within_code r.handler (c.ranges i d lt).handler in
    let short = c.short in
    omega arith

raising_edges : (old mid new : List (ℕ × ℕ)) (k : Coded) → Grows old mid (IsRaiseEdge (raising_places k.code)) → Grows mid new (IsHandlerEdge (raising_places k.code) k.ranges) → Grows old new (IsRaisingEdge k)
raising_edges old mid new k a b =
    grows_then old mid new (IsRaiseEdge (raising_places k.code)) (IsHandlerEdge (raising_places k.code) k.ranges) (IsRaisingEdge k) a b
    (λ e x. inl (record { place = x.place; raises = raising_at k.code x.place x.among; is = x.is }))
    (λ e x. inr (record { place = x.place; handler = x.handler; raises = raising_at k.code x.place x.among; caught = x.caught; is = x.is }))
    (λ e x. elim x [
      | inl r ↦ inl (record { place = r.place; among = raising_has k.code r.place r.raises; is = r.is })
      | inr h ↦ inr (record { place = h.place; handler = h.handler; among = raising_has k.code h.place h.raises; caught = h.caught; is = h.is })
    ])

-- these are the places of the instructions that may raise
pub raising_is : (code other starts places xs : List ℕ) → other ≡ code → starts ≡ starts_of code → places ≡ filter (λ p. raises_in (decoded other p)) starts → xs ≡ places → xs ≡ raising_places code
raising_is code other starts places xs same are is at =
    at ∙ is ∙ ap (λ (c : List ℕ). filter (λ p. raises_in (decoded c p)) starts) same ∙ ap (filter (λ p. raises_in (decoded code p))) are

pub places_rise : (all : (code : List ℕ) → AreStarts code) (code xs : List ℕ) → xs ≡ raising_places code → IsStrictlyIncreasing xs
places_rise all code xs is = subst IsStrictlyIncreasing (sym is) (raising_rises all code)

pub places_near : (all : (code : List ℕ) → AreStarts code) (code xs : List ℕ) → length code < 65536 → xs ≡ raising_places code → All (λ p. p < 65536) xs
places_near all code xs short is = let P : List ℕ → Type 0 = λ ys. All (λ p. p < 65536) ys in subst P (sym is) (raising_within all code short)

pub starts_inside : (all : (code : List ℕ) → AreStarts code) (code other starts : List ℕ) → other ≡ code → starts ≡ starts_of code → All (λ p. p < length other) starts
starts_inside all code other starts same are =
    let P : List ℕ → Type 0 = λ xs. All (λ p. p < length other) xs in
    let Q : List ℕ → Type 0 = λ c. All (λ p. p < length c) (starts_of code) in
    subst P (sym are) (subst Q (sym same) (starts_within all code))

pub handlers_near : (all : (code : List ℕ) → AreStarts code) (k : Coded) (rs : List HandlerRange) → IsCoded k → rs ≡ k.ranges → All (λ (r : HandlerRange). r.handler < 65536) rs
handlers_near all k rs c is = let P : List HandlerRange → Type 0 = λ xs. All (λ (r : HandlerRange). r.handler < 65536) xs in subst P (sym is) (handlers_within all k c)

pub all_raising : (old mid new : List (ℕ × ℕ)) (k : Coded) (xs ys : List ℕ) (rs : List HandlerRange) → xs ≡ raising_places k.code → ys ≡ raising_places k.code → rs ≡ k.ranges → Grows old mid (IsRaiseEdge xs) → Grows mid new (IsHandlerEdge ys rs) → Grows old new (IsRaisingEdge k)
all_raising old mid new k xs ys rs ex ey er a b =
    let P : List ℕ → Type 0 = λ zs. Grows old mid (IsRaiseEdge zs) in
    let Q : List ℕ → Type 0 = λ zs. Grows mid new (IsHandlerEdge zs rs) in
    let R : List HandlerRange → Type 0 = λ qs. Grows mid new (IsHandlerEdge (raising_places k.code) qs) in
    raising_edges old mid new k (subst P ex a) (subst R er (subst Q ey b))

pub calls_inside : (all : (code : List ℕ) → AreStarts code) (k : Coded) (code : List ℕ) (calls : List Call) → IsCoded k → code ≡ k.code → calls ≡ k.calls → All (λ (c : Call). c.place < length code) calls
calls_inside all k code calls c same are =
    let P : List Call → Type 0 = λ xs. All (λ (x : Call). x.place < length code) xs in
    let Q : List ℕ → Type 0 = λ other. All (λ (x : Call). x.place < length other) k.calls in
    subst P (sym are) (subst Q (sym same) (calls_within all k c))

-- the edge to the raise step at this one of the places
abbrev pub IsStepEdge : List ℕ → ℕ → ℕ × ℕ → Type 0
IsStepEdge places i e = (i < length places) × (e ≡ (2 * get_or places i 0, 2 * get_or places i 0 + 1))

pub all_steps : (old new : List (ℕ × ℕ)) (places : List ℕ) (n : ℕ) → length places ≤ n → Grows old new (Upto (IsStepEdge places) n) → Grows old new (IsRaiseEdge places)
all_steps old new places n le a =
    grows_alike old new (Upto (IsStepEdge places) n) (IsRaiseEdge places)
    (λ e x. record { place = get_or places x.0 0; among = Contains-get_or places x.0 0 x.2.0; is = x.2.1 })
    (λ e x.
    let at = place_of places x.place x.among in
    let lt = at.1 in
    let P : ℕ → Type 0 = λ p. e ≡ (2 * p, 2 * p + 1) in
    (at.0, omega arith, (lt, subst P (sym at.2) x.is)))
    a

-- ---- all edges

lead_numbered : (k : Coded) (goes : List Bool) (e : ℕ × ℕ) → IsLeadEdge k goes e → IsNumberedEdge (CodeEdge k goes) e
lead_numbered k goes e x = record { source = At x.place; target = At x.edge.target; edge = (x.edge.leads, x.goes_on); numbered = x.edge.is }

raising_numbered : (k : Coded) (goes : List Bool) (e : ℕ × ℕ) → IsRaisingEdge k e → IsNumberedEdge (CodeEdge k goes) e
raising_numbered k goes e (inl x) = record { source = At x.place; target = RaiseAt x.place; edge = (refl, x.raises); numbered = x.is }
raising_numbered k goes e (inr x) = record { source = RaiseAt x.place; target = At x.handler; edge = (x.raises, x.caught); numbered = x.is }

numbered_case : (k : Coded) (goes : List Bool) (e : ℕ × ℕ) (s t : Node) → CodeEdge k goes s t → e ≡ (number_of s, number_of t) → IsLeadEdge k goes e ⊎ IsRaisingEdge k e
numbered_case k goes e (At p) (At q) edge is = inl (record { place = p; goes_on = edge.1; edge = record { target = q; leads = edge.0; is = is } })
numbered_case k goes e (At p) (RaiseAt q) edge is =
    let P : ℕ → Type 0 = λ x. e ≡ (2 * p, 2 * x + 1) in
    inr (inl (record { place = p; raises = edge.1; is = subst P edge.0 is }))
numbered_case k goes e (RaiseAt p) (At q) edge is = inr (inr (record { place = p; handler = q; raises = edge.0; caught = edge.1; is = is }))
numbered_case k goes e (RaiseAt p) (RaiseAt q) edge is = absurd edge

pub are_code_edges : (none mid new : List (ℕ × ℕ)) (k : Coded) (goes : List Bool) → none ≡ [] → Grows none mid (IsLeadEdge k goes) → Grows mid new (IsRaisingEdge k) → AreCodeEdges k goes new
are_code_edges none mid new k goes empty a b e =
    let all = grows_then none mid new (IsLeadEdge k goes) (IsRaisingEdge k) (IsNumberedEdge (CodeEdge k goes)) a b (lead_numbered k goes) (raising_numbered k goes) (λ x n. numbered_case k goes x n.source n.target n.edge n.numbered) in
    let P : List (ℕ × ℕ) → Type 0 = λ xs. Contains xs e in (
      λ has. elim (all.only e has) [ inl earlier ↦ absurd (nil_contains e (subst P empty earlier)) | inr x ↦ x ],
      λ x. all.adds e x,
    )

-- ---- lists that are the starts of a code

pub start_at : (code starts : List ℕ) (i : ℕ) → starts ≡ starts_of code → i < length starts → IsStart code (get_or starts i 0)
start_at code starts i is lt =
    let P : List ℕ → Type 0 = λ xs. Contains xs (get_or starts i 0) in
    subst P is (Contains-get_or starts i 0 lt)

-- ---- where all calls go on

pub all_true : (calls others : List Call) (goes : List Bool) → others ≡ calls → goes ≡ replicate (length others) true → (i : ℕ) (c : Call) → slice_get calls i ≡ Some c → slice_get goes i ≡ Some true
all_true calls others goes same is i c at =
    let lt = past_none calls i c at in
    let long = ap length same in
    let size = length-replicate (length others) true in
    let P : List Bool → Type 0 = λ fs. slice_get fs i ≡ Some true in
    subst P (sym is) (slice_get-get_or (replicate (length others) true) i false (omega arith) ∙ ap (λ (b : Bool). Some b) (get_or-replicate (length others) i true false (omega arith)))
