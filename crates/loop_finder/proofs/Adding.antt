-- Beginnings that are added to a list, local variable by local variable and loop by loop.
use Rattle.std.proofs.Common.{◌≡◌, ◌⊎◌, ℕ, ◌+◌, ◌*◌, ◌<◌, ◌≤◌, ℤ, List, [], ◌∷◌, ◌++◌, length, get_or, take, Contains, Some, None, sym, ap, ◌∙◌, subst, inl, inr, arith}
use Rattle.std.proofs.lemmas.Bool.{cases_lt}
use Rattle.std.proofs.lemmas.List.{length-map, take_all}
use Rattle.std.proofs.lemmas.List.Elements.{Contains-append_left, Contains-push, Contains-push_cases}
use Rattle.lists.specs.Members.{at_head, nil_contains, place_of}
use Rattle.bytecode_model.specs.Program.{Program}
use Rattle.loop_nest.specs.Digraph.{Digraph}
use Rattle.loop_nest.specs.Walks.{IsHeader}
use Rattle.loop_nest.specs.Nest.{NaturalLoop, headers_of, header_at, IsNest}
use Rattle.compact_walks.specs.Moving.{IsMoved}
use Rattle.compact_walks.proofs.Walks.{header_back}
use Rattle.loop_rules.specs.Further.Beginning.{BeginsAt}
use Rattle.loop_rules.specs.Further.Known.{Known}
use Rattle.loop_acts.specs.declared.effects.Act.{Act}
use Rattle.loop_acts.specs.declared.effects.Act.TheVariants as does
use Rattle.loop_acts.specs.Acts.{written}
use Rattle.loop_marks.specs.Marking.{Marks, AreMarksOf}
use Rattle.loop_finder.specs.declared.body.Beginning.{Beginning}
use Rattle.loop_acts.specs.Writing.{AreWriters, IsOnly}
use Rattle.loop_finder.specs.Counting.{Body}
use Rattle.loop_finder.specs.Beginning.{AddsBeginnings, AreBeginnings, IsRight, IsSteppedAt}
use Rattle.loop_acts.proofs.Taking.{take_cases}

module _ (P : Program) (known : Known) (m : ℕ) (g : Digraph) (h : ℕ) where
  abbrev Adds : (ℕ → Type 0) → (old new : List Beginning) → Type 0
  Adds Local old new = AddsBeginnings P known m g h Local old new

  -- no such variable
  pub adds_none : (Local : ℕ → Type 0) (old : List Beginning) → ((k : ℕ) → ¬ Local k) → Adds Local old old
  adds_none Local old none = record { kept = λ x has. has; added = λ x has. inl has; all = λ k c is b. absurd (none k is) }

  pub adds_as : (Local Other : ℕ → Type 0) (old new : List Beginning) → ((k : ℕ) → Other k → Local k) → Adds Local old new → Adds Other old new
  adds_as Local Other old new to a = record { kept = a.kept; added = a.added; all = λ k c is b. a.all k c (to k is) b }

  pub adds_then : (First Second Both : ℕ → Type 0) (old mid new : List Beginning) → Adds First old mid → Adds Second mid new → ((k : ℕ) → Both k → First k ⊎ Second k) → Adds Both old new
  adds_then First Second Both old mid new a b cases = record {
    kept = λ x has. b.kept x (a.kept x has);
    added = λ x has. elim (b.added x has) [ inl before ↦ a.added x before | inr right ↦ inr right ];
    all = λ k c is begins. elim (cases k is) [ inl first ↦ b.kept _ (a.all k c first begins) | inr second ↦ b.all k c second begins ];
  }

  module _ (local : ℕ) (header : IsHeader g h) (old : List Beginning) where
    -- the local variable is not known to begin with an int
    pub none_added : IsOnly (BeginsAt P known m g h local) None → Adds (λ k. k ≡ local) old old
    none_added none = record {
      kept = λ x has. has;
      added = λ x has. inl has;
      all = λ k c same b. absurd (none c (subst (λ (i : ℕ). BeginsAt P known m g h i c) same b));
    }

    pub one_added : (v : ℤ) → IsOnly (BeginsAt P known m g h local) (Some v) → (x : Beginning) → x.header ≡ h → x.local ≡ local → x.value ≡ v → (new : List Beginning) → new ≡ old ++ x ∷ []
        → Adds (λ k. k ≡ local) old new
    one_added v one x head of value new is = subst (λ (ys : List Beginning). Adds (λ k. k ≡ local) old ys) (sym is) (record { kept = kept; added = added; all = all })
      where
        kept : (y : Beginning) → Contains old y → Contains (old ++ x ∷ []) y
        kept y has = Contains-append_left old (x ∷ []) y has

        right : IsRight P known m g x
        right = (
          subst (IsHeader g) (sym head) header,
          subst (λ (i : ℕ). BeginsAt P known m g i x.local x.value) (sym head)
              (subst (λ (i : ℕ). BeginsAt P known m g h i x.value) (sym of) (subst (λ (z : ℤ). BeginsAt P known m g h local z) (sym value) one.0)),
        )

        added : (y : Beginning) → Contains (old ++ x ∷ []) y → Contains old y ⊎ IsRight P known m g y
        added y has = elim (Contains-push_cases old x y has) [ inl before ↦ inl before | inr same ↦ inr (subst (IsRight P known m g) same right) ]

        all : (k : ℕ) (c : ℤ) → k ≡ local → BeginsAt P known m g h k c → Contains (old ++ x ∷ []) (record { header = h; local = k; value = c })
        all k c same b =
            let int : x.value ≡ c = value ∙ sym (one.1 c (subst (λ (i : ℕ). BeginsAt P known m g h i c) same b)) in
            let entry : x ≡ record { header = h; local = k; value = c } =
            ap (λ (i : ℕ). record { header = i; local = x.local; value = x.value }) head
            ∙ (ap (λ (i : ℕ). record { header = h; local = i; value = x.value }) (of ∙ sym same) ∙ ap (λ (z : ℤ). record { header = h; local = k; value = z }) int) in
            subst (λ (y : Beginning). Contains (old ++ x ∷ []) y) entry (Contains-push old x)

  -- ---- node by node

  module _ (b : Body) (ws : List ℕ) where
    -- the local variable is stepped at one of these nodes
    abbrev pub IsSteppedAmong : List ℕ → (local : ℕ) → Type 0
    IsSteppedAmong us k = (u : ℕ) × Contains us u × IsSteppedAt b h k u

    pub among_none : (old : List Beginning) → Adds (IsSteppedAmong []) old old
    among_none old = adds_none (IsSteppedAmong []) old (λ k s. nil_contains s.0 s.1)

    pub among_more : (i : ℕ) (old mid new : List Beginning) → i < length ws → Adds (IsSteppedAmong (take i ws)) old mid → Adds (λ k. IsSteppedAt b h k (get_or ws i 0)) mid new
        → Adds (IsSteppedAmong (take (i + 1) ws)) old new
    among_more i old mid new lt before here =
        adds_then (IsSteppedAmong (take i ws)) (λ k. IsSteppedAt b h k (get_or ws i 0)) (IsSteppedAmong (take (i + 1) ws)) old mid new before here
        (λ k s. elim (take_cases ws i 0 s.0 lt s.1) [ inl first ↦ inl (s.0, first, s.2) | inr same ↦ inr (subst (λ (u : ℕ). IsSteppedAt b h k u) (sym same) s.2) ])

module _ (P : Program) (known : Known) (m : ℕ) (b : Body) where
  -- all nodes of a loop
  pub among_all : (marks : Marks) → AreMarksOf b.graph marks → (ws : List ℕ) → AreWriters b.acts marks.nodes ws → (i : ℕ) → length ws ≤ i → (old new : List Beginning)
      → AddsBeginnings P known m b.graph marks.header (IsSteppedAmong P known m b.graph marks.header b ws (take i ws)) old new
      → AddsBeginnings P known m b.graph marks.header (λ k. (u : ℕ) × IsSteppedAt b marks.header k u) old new
  among_all marks are ws writers i done old new a =
      adds_as P known m b.graph marks.header (IsSteppedAmong P known m b.graph marks.header b ws (take i ws)) (λ k. (u : ℕ) × IsSteppedAt b marks.header k u) old new to a
    where
      to : (k : ℕ) → (u : ℕ) × IsSteppedAt b marks.header k u → IsSteppedAmong P known m b.graph marks.header b ws (take i ws) k
      to k s =
          let step = s.1.0 in
          let only = s.1.3 in
          let among = (writers k step).1 ((are.nodes (2 * step)).1 only.member, subst (λ (x : Act). Contains (written x) k) (sym only.is) (at_head k [])) in
          let has = subst (λ (u : ℕ). Contains ws u) (sym s.1.2) among.0 in
          (s.0, subst (λ (us : List ℕ). Contains us s.0) (sym (take_all i ws done)) has, s.1)

  -- ---- loop by loop

  module _ (node : ℕ → ℕ) (ls : List NaturalLoop) where
    -- all entries are right, and those of the first loops are there
    pub record AreOfFirst (i : ℕ) (xs : List Beginning) : Type 0 where
      pub each : (x : Beginning) → Contains xs x → IsRight P known m b.graph x
      pub all : (j h k u : ℕ) (c : ℤ) → j < i → node (header_at ls j) ≡ h → IsSteppedAt b h k u → BeginsAt P known m b.graph h k c
          → Contains xs (record { header = h; local = k; value = c })

    pub first_none : AreOfFirst 0 []
    first_none = record {
      each = λ x has. absurd (nil_contains x has);
      all = λ j h k u c lt head s begins. absurd (let bad : ⊥ = omega arith in bad);
    }

    pub first_more : (i : ℕ) (old new : List Beginning) → AreOfFirst i old
        → AddsBeginnings P known m b.graph (node (header_at ls i)) (λ k. (u : ℕ) × IsSteppedAt b (node (header_at ls i)) k u) old new → AreOfFirst (i + 1) new
    first_more i old new first a = record { each = each; all = all }
      where
        each : (x : Beginning) → Contains new x → IsRight P known m b.graph x
        each x has = elim (a.added x has) [ inl before ↦ first.each x before | inr right ↦ right ]

        here : (h k u : ℕ) (c : ℤ) → node (header_at ls i) ≡ h → IsSteppedAt b h k u → BeginsAt P known m b.graph h k c → Contains new (record { header = h; local = k; value = c })
        here h k u c head s begins =
            subst (λ (z : ℕ). Contains new (record { header = z; local = k; value = c })) head
            (a.all k c (u, subst (λ (z : ℕ). IsSteppedAt b z k u) (sym head) s) (subst (λ (z : ℕ). BeginsAt P known m b.graph z k c) (sym head) begins))

        all : (j h k u : ℕ) (c : ℤ) → j < i + 1 → node (header_at ls j) ≡ h → IsSteppedAt b h k u → BeginsAt P known m b.graph h k c → Contains new (record { header = h; local = k; value = c })
        all j h k u c lt head s begins =
            elim (cases_lt j i) [
              | inl less ↦ a.kept _ (first.all j h k u c less head s begins)
              | inr ge ↦
                  let same : j ≡ i = omega arith in
                  here h k u c (sym (ap (λ (z : ℕ). node (header_at ls z)) same) ∙ head) s begins
            ]

    pub first_all : (d : Digraph) → IsMoved b.graph d node → IsNest d ls → (i : ℕ) → length ls ≤ i → (xs : List Beginning) → AreOfFirst i xs → AreBeginnings P known m b xs
    first_all d moved nest i done xs first = record {
      each = first.each;
      all = λ h k u c s begins.
          let k2 = header_back b.graph d node moved h s.3.member.0 in
          let at = place_of (headers_of ls) k2.0 (nest.complete k2.0 k2.2) in
          let long = length-map ls (λ (l : NaturalLoop). l.header) in
          let lt = at.1 in
          let below : at.0 < i = omega arith in
          first.all at.0 h k u c below (ap node at.2 ∙ k2.3) s begins;
    }

-- ---- the local variable of a step

abbrev stepped_by : ℕ → Act → ℕ
stepped_by d (does.Step k s) = k
stepped_by d a = d

pub step_local : (a : Act) (j k : ℕ) (s z : ℤ) → does.Step j s ≡ a → a ≡ does.Step k z → j ≡ k
step_local a j k s z first second = ap (stepped_by j) (first ∙ second)
