-- Which loops of a nest are charged, and what their entries are.
use Rattle.std.proofs.Common.{◌≡◌, ℕ, zero, suc, ◌<◌, ◌≤◌, ◌↔◌, Bool, true, false, List, [], ◌∷◌, length, get_or, Contains, Option, Some, None, refl, sym, ap, ◌∙◌, subst, inl, inr, arith}
use Rattle.std.proofs.lemmas.Bool.{cases_lt, cases_eq, false≢true}
use Rattle.std.proofs.lemmas.List.{get_or_default, get_or_past, length-map}
use Rattle.loop_nest.specs.Digraph.{Digraph, IsDigraph}
use Rattle.loop_nest.specs.Walks.{IsMember}
use Rattle.loop_nest.specs.Nest.{NaturalLoop, headers_of, header_at, members_at, IsLoopOf, IsAround, IsNest}
use Rattle.loop_nest.specs.Laws.{LoopsAreNested, HeaderDominatesMembers, DominanceIsAntisymmetric}
use Rattle.loop_nest.proofs.Rising.{same_place}
use Rattle.std.proofs.lemmas.List.Elements.{All-contains}
use Rattle.section_check.specs.Placing.{IsEntryAt}
use Rattle.path_solver.specs.Reaching.{IsFlagged}
use Rattle.bytecode_model.specs.Program.{Program}
use Rattle.method_flow.specs.declared.timing.Timing.{Timing}
use Rattle.bound_rules.specs.Fitting.{LoopFits, loads_of}
use Rattle.bound_rules.specs.Numbers.{HasCall, AreCharged, AreLoads}
use Rattle.bound_rules.proofs.Numbering.{same_loads_by}
use Rattle.bound_laws.specs.Walking.{LeadsFromReached}
use Rattle.bound_laws.proofs.Choosing.{chosen}
use Rattle.bound_laws.proofs.Nests.{header_reached, member_of, of_member, header_is}

members_there : (ls : List NaturalLoop) (i : ℕ) (l : NaturalLoop) → IsEntryAt ls i l → members_at ls i ≡ l.members
members_there [] i l at = let lt = at.0 in absurd (omega arith)
members_there (k ∷ ks) zero l at = ap (λ (x : NaturalLoop). x.members) at.1
members_there (k ∷ ks) (suc i) l at = let lt = at.0 in members_there ks i l (omega arith, at.1)

some_loop : NaturalLoop
some_loop = record { header = 0; members = []; outer = None }

module _ (nested : LoopsAreNested) (dominate : HeaderDominatesMembers) (antisymmetric : DominanceIsAntisymmetric) (P : Program) (t : Timing) (m : ℕ) (g : Digraph) (wf : IsDigraph g) (reached : LeadsFromReached g) (nest : List NaturalLoop) (is_nest : IsNest g nest) where
  loops : (l : NaturalLoop) → Contains nest l → IsLoopOf g l
  loops l c = All-contains (IsLoopOf g) nest l is_nest.loops c

  many : length (headers_of nest) ≡ length nest
  many = length-map nest (λ (l : NaturalLoop). l.header)

  -- loops that have each other's headers are the same
  one_loop : (j k : ℕ) → j < length nest → k < length nest → IsMember g (header_at nest j) (header_at nest k) → IsMember g (header_at nest k) (header_at nest j) → j ≡ k
  one_loop j k lj lk in_j in_k =
      let e = many in
      let at = header_reached nested g wf reached (header_at nest j) in_j.0 in
      let same = antisymmetric g (header_at nest j) (header_at nest k) at (dominate g (header_at nest j) (header_at nest k) in_j) (dominate g (header_at nest k) (header_at nest j) in_k) in
      same_place (headers_of nest) is_nest.rising j k (omega arith) (omega arith) same

  own : (k : ℕ) → k < length nest → IsMember g (header_at nest k) (header_at nest k)
  own k lk = (header_is nested g wf reached nest loops k lk, inl refl)

  -- it may be charged, but for those around it
  abbrev MayBe : ℕ → Type 0
  MayBe i = HasCall P m (members_at nest i) × LoopFits P t m (members_at nest i)

  -- loop k has the header of loop i
  abbrev Has : (i k : ℕ) → Type 0
  Has i k = IsMember g (header_at nest k) (header_at nest i)

  of_around : (i k : ℕ) → IsAround nest i k → Has i k
  of_around i k a = member_of nested g wf reached nest loops k (header_at nest i) a.below a.member

  -- none of the first loops that have the header may be charged, or all that may lie in this one
  abbrev IsWidest : (i count : ℕ) → Option ℕ → Type 0
  IsWidest i count None = (k : ℕ) → k < count → Has i k → MayBe k → ⊥
  IsWidest i count (Some j) = (j < length nest) × Has i j × MayBe j × ((k : ℕ) → k < count → Has i k → MayBe k → (y : ℕ) → IsMember g (header_at nest k) y → IsMember g (header_at nest j) y)

  not_wider : (i count : ℕ) (o : Option ℕ) → IsWidest i count o → (Has i count × MayBe count → ⊥) → IsWidest i (suc count) o
  not_wider i count None h never = λ k lt has may. elim (cases_lt k count) [
    | inl below ↦ h k below has may
    | inr last ↦ let same : k ≡ count = omega arith in never (subst (λ (x : ℕ). Has i x × MayBe x) same (has, may))
  ]
  not_wider i count (Some j) h never = (
    h.0,
    h.1,
    h.2,
    λ k lt has may. elim (cases_lt k count) [
      | inl below ↦ h.3 k below has may
      | inr last ↦ let same : k ≡ count = omega arith in absurd (never (subst (λ (x : ℕ). Has i x × MayBe x) same (has, may)))
    ],
  )

  wider : (i count : ℕ) → i < length nest → count < length nest → (o : Option ℕ) → IsWidest i count o → Has i count → MayBe count → (p : Option ℕ) × IsWidest i (suc count) p
  wider i count li lc None h has may = (
    Some count,
    (
      lc,
      has,
      may,
      λ k lt has' may'. elim (cases_lt k count) [
        | inl below ↦ absurd (h k below has' may')
        | inr last ↦ let same : k ≡ count = omega arith in λ y in_k. subst (λ (x : ℕ). IsMember g (header_at nest x) y) same in_k
      ],
    ),
  )
  wider i count li lc (Some j) h has may =
      elim (nested g (header_at nest j) (header_at nest count) (header_at nest i) (header_reached nested g wf reached (header_at nest i) (own i li).0) h.1 has) [
        | inl up ↦ (
          Some count,
          (
            lc,
            has,
            may,
            λ k lt has' may'. elim (cases_lt k count) [
              | inl below ↦ λ y in_k. up y (h.3 k below has' may' y in_k)
              | inr last ↦ let same : k ≡ count = omega arith in λ y in_k. subst (λ (x : ℕ). IsMember g (header_at nest x) y) same in_k
            ],
          ),
        )
        | inr down ↦ (
          Some j,
          (
            h.0,
            h.1,
            h.2,
            λ k lt has' may'. elim (cases_lt k count) [
              | inl below ↦ h.3 k below has' may'
              | inr last ↦ let same : k ≡ count = omega arith in λ y in_k. down y (subst (λ (x : ℕ). IsMember g (header_at nest x) y) same in_k)
            ],
          ),
        )
      ]

  widest : (i : ℕ) → i < length nest → (count : ℕ) → count ≤ length nest → ((o : Option ℕ) × IsWidest i count o → ⊥) → ⊥
  widest i li zero few none = none (None, λ k lt has may. omega arith)
  widest i li (suc count) few none =
      widest i li count (omega arith) (λ r. none (r.0, not_wider i count r.0 r.1 (λ h. none (wider i count li (omega arith) r.0 r.1 h.0 h.1))))

  -- it may be charged, and none around it
  abbrev IsChosen : ℕ → Type 0
  IsChosen i = MayBe i × ((k : ℕ) → IsAround nest i k → MayBe k → ⊥)

  -- none that may be charged is around the widest one
  widest_chosen : (i j : ℕ) → i < length nest → IsWidest i (length nest) (Some j) → IsChosen j
  widest_chosen i j li h = (h.2, alone)
    where
      alone : (k : ℕ) → IsAround nest j k → MayBe k → ⊥
      alone k a may =
          let in_k = of_around j k a in
          elim (nested g (header_at nest k) (header_at nest j) (header_at nest j) (header_reached nested g wf reached (header_at nest j) (own j h.0).0) in_k (own j h.0)) [
            | inl up ↦ a.other (one_loop k j a.below h.0 in_k (up (header_at nest k) (own k a.below)))
            | inr down ↦
                let in_j = h.3 k a.below (down (header_at nest i) h.1) may (header_at nest k) (own k a.below) in
                a.other (one_loop k j a.below h.0 in_k in_j)
          ]

  -- exactly these are charged
  module _ (flags : List Bool) (long : length flags ≡ length nest) (each : (i : ℕ) → i < length nest → (get_or flags i false ≡ true) ↔ IsChosen i) where
    flagged_may : (k : ℕ) → k < length nest → IsFlagged flags k → MayBe k
    flagged_may k lk f = ((each k lk).0 f).0

    -- where none that is charged is around it, none that may be is
    none_around : (i : ℕ) → i < length nest → MayBe i → ((k : ℕ) → IsAround nest i k → IsFlagged flags k → ⊥) → (k : ℕ) → IsAround nest i k → MayBe k → ⊥
    none_around i li may outermost k a may_k = widest i li (length nest) (omega arith) (λ r. by r.0 r.1)
      where
        by : (o : Option ℕ) → IsWidest i (length nest) o → ⊥
        by None h = h i li (own i li) may
        by (Some j) h =
            let chosen_j = widest_chosen i j li h in
            elim (cases_eq j i) [
              | inl same ↦ (subst IsChosen same chosen_j).1 k a may_k
              | inr other ↦
                  outermost j
                  (record {
                    below = h.0;
                    other = other;
                    member = of_member nested g wf reached nest loops j (header_at nest i) h.0 h.1;
                  })
                  ((each j h.0).1 chosen_j)
            ]

    pub charged : AreCharged P t m nest flags
    charged = record {
      long = long;
      each = λ i l at. let li = at.0 in let same = members_there nest i l at in (
        λ f. let c = (each i li).0 f in record {
          call = subst (λ (ms : List ℕ). HasCall P m ms) same c.0.0;
          fits = subst (λ (ms : List ℕ). LoopFits P t m ms) same c.0.1;
          outermost = λ k a fk. c.1 k a (flagged_may k a.below fk);
        },
        λ c. let may : MayBe i = (subst (λ (ms : List ℕ). HasCall P m ms) (sym same) c.call, subst (λ (ms : List ℕ). LoopFits P t m ms) (sym same) c.fits) in
            (each i li).1 (may, none_around i li may c.outermost),
      );
    }

  pub charges_exist : ((flags : List Bool) × AreCharged P t m nest flags → ⊥) → ⊥
  charges_exist none =
      chosen false (λ (i : ℕ) (b : Bool). (b ≡ true) ↔ IsChosen i) (length nest)
      (λ i lt missing. missing (false, (λ e. absurd (false≢true e), λ c. absurd (missing (true, (λ e. c, λ x. refl))))))
      (λ r. none (r.items, charged r.items r.long r.each))

  -- ---- what entries are charged

  abbrev IsLoad : List Bool → ℕ → ℕ → Type 0
  IsLoad flags i fee = ((l : NaturalLoop) → IsEntryAt nest i l → IsFlagged flags i → (fits : LoopFits P t m l.members) → fee ≡ loads_of fits) × ((IsFlagged flags i → ⊥) → fee ≡ 0)

  one_load : (flags : List Bool) → AreCharged P t m nest flags → (i : ℕ) → i < length nest → (fee : ℕ) × IsLoad flags i fee
  one_load flags c i lt = by (get_or flags i false) refl
    where
      by : (b : Bool) → get_or flags i false ≡ b → (fee : ℕ) × IsLoad flags i fee
      by false is = (0, (λ l at f fits. absurd (false≢true (sym is ∙ f)), λ none. refl))
      by true is =
          let k = get_or nest i some_loop in
          let at : IsEntryAt nest i k = (lt, get_or_default nest i k some_loop lt) in
          let fits = ((c.each i k at).0 is).fits in
          (loads_of fits, (λ l at' f fits'. same_loads_by P t m k.members l.members (sym (members_there nest i k at) ∙ members_there nest i l at') fits fits', λ none. absurd (none is)))

  pub loads_exist : (flags : List Bool) → AreCharged P t m nest flags → ((fees : List ℕ) × AreLoads P t m nest flags fees → ⊥) → ⊥
  loads_exist flags c none =
      chosen 0 (IsLoad flags) (length nest) (λ i lt missing. missing (one_load flags c i lt))
      (λ r. none (
        r.items,
        record {
          long = r.long;
          charged = λ i l at f fits. (r.each i at.0).0 l at f fits;
          others = λ i none'. elim (cases_lt i (length nest)) [
            | inl below ↦ (r.each i below).1 none'
            | inr past ↦ let long = r.long in get_or_past r.items i 0 (omega arith)
          ];
        },
      ))
