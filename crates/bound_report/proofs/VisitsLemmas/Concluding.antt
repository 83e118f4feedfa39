-- A walk that goes round all loops that it comes to tells the counts.
use Rattle.std.proofs.Common.{◌≡◌, ◌≢◌, ℕ, ◌+◌, ◌*◌, ◌≤◌, ◌⊎◌, mul_assoc, Bool, true, false, cond, List, [], ◌∷◌, ◌++◌, length, get_or, Contains, refl, sym, ap, ap₂, ◌∙◌, subst, arith, inl, inr}
use Rattle.std.specs.Prelude.{◌==◌, sum_by}
use Rattle.std.proofs.lemmas.Bool.{cases_eq, eq-eqb, ne_eqb, false_from_ne_true}
use Rattle.std.proofs.lemmas.List.Elements.{Contains-append_cases, Contains-append_left, Contains-append_right}
use Rattle.std.proofs.lemmas.List.Sums.{sum_by-cons}
use Rattle.lists.specs.Members.{at_head, in_tail, cons_cases, nil_contains, has_or_not}
use Rattle.loop_nest.specs.Digraph.{Digraph}
use Rattle.section_check.specs.Bounded.{BoundedLoop, holds, entries, IsKept}
use Rattle.section_check.specs.Placing.{IsEntryAt}
use Rattle.section_check.proofs.Elements.{contains_from_holds, holds_from_contains}
use Rattle.path_solver.proofs.Keeping.{all_from_contains}
use Rattle.bound_report.specs.Visits.Counts.{AreCounts}
use Rattle.bound_report.proofs.VisitsLemmas.Expanding.{times, times-cons, repeat, expand, sum_expand}
use Rattle.bound_report.proofs.VisitsLemmas.Keeping.{kept, keeps_fresh}
use Rattle.bound_report.proofs.VisitsLemmas.Sums.{sum_same}
use Rattle.bound_report.proofs.VisitsLemmas.GoingRound.{AreNatural, GoesRound, Iterates, entries_once, goes_past, goes_round, entered_now, entries_stay, one_at, left_fee, paid, total, total_more, same_among}

-- a node that isn't visited
pub times_none : (h : ℕ) (us : List ℕ) → ¬ Contains us h → times h us ≡ 0
times_none h [] none = refl
times_none h (u ∷ us) none =
    times-cons h u us
    ∙ ap₂ (λ (t : Bool) (n : ℕ). cond t 1 0 + n) (ne_eqb u h (λ same. none (subst (λ (z : ℕ). Contains (u ∷ us) z) same (at_head u us)))) (times_none h us (λ c. none (in_tail u h us c)))

-- what a sum has of one node
pub sum_at_least : (f : ℕ → ℕ) (h : ℕ) (us : List ℕ) → times h us * f h ≤ sum_by f us
sum_at_least f h [] = omega arith
sum_at_least f h (u ∷ us) =
    let rest = sum_at_least f h us in
    let both : (cond (u == h) 1 0 + times h us) * f h ≤ f u + sum_by f us = elim (cases_eq u h) [
      | inl same ↦
          let e = ap f same in
          let le : (1 + times h us) * f h ≤ f u + sum_by f us = omega (arith, rest, e) in
          subst (λ (t : Bool). (cond t 1 0 + times h us) * f h ≤ f u + sum_by f us) (sym (eq-eqb u h same)) le
      | inr other ↦
          let le : (0 + times h us) * f h ≤ f u + sum_by f us = omega (arith, rest) in
          subst (λ (t : Bool). (cond t 1 0 + times h us) * f h ≤ f u + sum_by f us) (sym (ne_eqb u h other)) le
    ] in
    subst (λ (n : ℕ). n * f h ≤ sum_by f (u ∷ us)) (sym (times-cons h u us)) (subst (λ (n : ℕ). (cond (u == h) 1 0 + times h us) * f h ≤ n) (sym (sum_by-cons f u us)) both)

-- functions that are the same at each node
pub sum_on : (f f' : ℕ → ℕ) (us : List ℕ) → ((u : ℕ) → Contains us u → f u ≡ f' u) → sum_by f us ≡ sum_by f' us
sum_on f f' [] same = refl
sum_on f f' (u ∷ us) same = sum_by-cons f u us ∙ (ap₂ (λ (a b : ℕ). a + b) (same u (at_head u us)) (sum_on f f' us (λ x c. same x (in_tail u x us c))) ∙ sym (sum_by-cons f' u us))

no_choice : (s t : Bool) → cond {A = ℕ} s 0 0 ≡ cond {A = ℕ} t 0 0
no_choice true true = refl
no_choice true false = refl
no_choice false true = refl
no_choice false false = refl

-- one more is among these only where it is that one
holds_behind : (done : List ℕ) (u x : ℕ) → x ≢ u → holds (done ++ u ∷ []) x ≡ holds done x
holds_behind done u x other =
    same_among (done ++ u ∷ []) done x
    (λ c. elim (Contains-append_cases done (u ∷ []) x c) [
      | inl before ↦ before
      | inr here ↦ elim (cons_cases u x [] here) [ inl same ↦ absurd (other (sym same)) | inr never ↦ absurd (nil_contains x never) ]
    ])
    (λ c. Contains-append_left done (u ∷ []) x c)

-- no iterations
expand_none : (h : ℕ) (p us : List ℕ) → us ≡ expand h p 0 us
expand_none h p [] = refl
expand_none h p (u ∷ us) = no_block (u == h) (ap (λ (xs : List ℕ). u ∷ xs) (expand_none h p us))
  where
    no_block : (t : Bool) → u ∷ us ≡ u ∷ expand h p 0 us → u ∷ us ≡ cond t (repeat 0 p) [] ++ (u ∷ expand h p 0 us)
    no_block true e = e
    no_block false e = e

-- what isn't spent on iterations
spared : (k bound cost load : ℕ) → (k * bound ≡ 0) ⊎ (cost ≡ 0) → k * (bound * cost + load) ≡ k * (0 * 0 + load)
spared k bound cost load (inl none) =
    let zero' : k * (bound * cost) ≡ 0 * cost = sym (mul_assoc k bound cost) ∙ ap (λ (n : ℕ). n * cost) none in
    omega (arith, zero')
spared k bound cost load (inr free) =
    let zero' : k * (bound * cost) ≡ k * (bound * 0) = ap (λ (n : ℕ). k * (bound * n)) free in
    omega (arith, zero')

module _ (g : Digraph) (loops : List BoundedLoop) (natural : AreNatural g loops) (costs : List ℕ) (fees : ℕ → ℕ) (value : ℕ) where
  abbrev pub cost_at : ℕ → ℕ
  cost_at u = get_or costs u 0

  -- the loops with these headers are gone round; the visits, the entries of these loops, and what is spent
  pub record IsCounted (done visits entered : List ℕ) : Type 0 where
    pub last : ℕ
    pub nodes : List ℕ
    pub exit : Contains g.exits last
    pub goes : GoesRound g loops natural done last nodes
    pub visits_are : (u : ℕ) → get_or visits u 0 ≡ times u nodes
    pub entered_are : (i : ℕ) (l : BoundedLoop) → IsEntryAt loops i l → Contains done l.header → get_or entered i 0 ≡ entries l.members nodes
    pub entered_none : (i : ℕ) (l : BoundedLoop) → IsEntryAt loops i l → ¬ Contains done l.header → get_or entered i 0 ≡ 0
    pub spent : total loops cost_at fees done nodes ≡ value

  module _ (done visits entered : List ℕ) (c : IsCounted done visits entered) (all : (u : ℕ) → Contains c.nodes u → Contains done u) where
    keeps : (i : ℕ) (l : BoundedLoop) → IsEntryAt loops i l → IsKept c.nodes l
    keeps i l at = elim (has_or_not done l.header) [
      | inl there ↦ kept l.members l.header l.bound l.load c.nodes (c.goes.went i l at there)
      | inr not ↦
          kept l.members l.header l.bound l.load c.nodes
          (keeps_fresh l.members l.header (holds_from_contains l.members l.header (natural.own i l at)) l.bound c.nodes (c.goes.fresh i l at not))
    ]

    none_entered : (i : ℕ) (l : BoundedLoop) → IsEntryAt loops i l → ¬ Contains done l.header → entries l.members c.nodes ≡ 0
    none_entered i l at not = entries_once g loops natural i l at c.goes.walk (c.goes.fresh i l at not) ∙ times_none l.header c.nodes (λ there. not (all l.header there))

    nodes_cost : sum_by (λ u. cost_at u + left_fee fees done u) c.nodes ≡ sum_by cost_at c.nodes
    nodes_cost =
        sum_on (λ u. cost_at u + left_fee fees done u) cost_at c.nodes
        (λ u there. let none : left_fee fees done u ≡ 0 = ap (λ (t : Bool). cond t 0 (fees u)) (holds_from_contains done u (all u there)) in omega (arith, none))

    loads_cost : sum_by (paid done c.nodes) loops ≡ sum_by (λ l. l.load * entries l.members c.nodes) loops
    loads_cost =
        sum_same (λ l. l.load * entries l.members c.nodes) (paid done c.nodes) loops
        (λ i l at. elim (has_or_not done l.header) [
          | inl there ↦ ap (λ (t : Bool). cond t (l.load * entries l.members c.nodes) 0) (holds_from_contains done l.header there)
          | inr not ↦
              let none : holds done l.header ≡ false = false_from_ne_true (holds done l.header) (λ e. not (contains_from_holds done l.header e)) in
              let zero' : l.load * entries l.members c.nodes ≡ l.load * 0 = ap (λ (n : ℕ). l.load * n) (none_entered i l at not) in
              ap (λ (t : Bool). cond t (l.load * entries l.members c.nodes) 0) none ∙ omega (arith, zero')
        ])

    pub are_counts : length visits ≡ g.nodes → length entered ≡ length loops → AreCounts g costs loops value visits entered
    are_counts visits_long entered_long = record {
      walk = c.nodes;
      bounded = record {
        last = c.last;
        walk = c.goes.walk;
        exit = c.exit;
        kept = all_from_contains (IsKept c.nodes) loops (λ l there. keeps there.0 l (there.1, there.2));
      };
      attained = sym (ap₂ (λ (a b : ℕ). a + b) nodes_cost loads_cost) ∙ c.spent;
      visits_long = visits_long;
      visits_are = c.visits_are;
      entered_long = entered_long;
      entered_are = λ i l at. elim (has_or_not done l.header) [
        | inl there ↦ c.entered_are i l at there
        | inr not ↦ c.entered_none i l at not ∙ sym (none_entered i l at not)
      ];
    }

  -- ---- one node more

  module _ (done visits entered : List ℕ) (c : IsCounted done visits entered) where
    -- one that heads no loop
    module _ (u : ℕ) (plain : (i : ℕ) (l : BoundedLoop) → IsEntryAt loops i l → l.header ≢ u) (free : fees u ≡ 0) where
      still : (i : ℕ) (l : BoundedLoop) → IsEntryAt loops i l → Contains (done ++ u ∷ []) l.header → Contains done l.header
      still i l at there = elim (Contains-append_cases done (u ∷ []) l.header there) [
        | inl before ↦ before
        | inr here ↦ elim (cons_cases u l.header [] here) [ inl same ↦ absurd (plain i l at (sym same)) | inr never ↦ absurd (nil_contains l.header never) ]
      ]

      later : (x : ℕ) → Contains done x → Contains (done ++ u ∷ []) x
      later x there = Contains-append_left done (u ∷ []) x there

      same_fee : (x : ℕ) → left_fee fees (done ++ u ∷ []) x ≡ left_fee fees done x
      same_fee x = elim (cases_eq x u) [
        | inl same ↦
            let none : fees x ≡ 0 = ap fees same ∙ free in
            ap (λ (n : ℕ). cond (holds (done ++ u ∷ []) x) 0 n) none ∙ (no_choice (holds (done ++ u ∷ []) x) (holds done x) ∙ sym (ap (λ (n : ℕ). cond (holds done x) 0 n) none))
        | inr other ↦ ap (λ (t : Bool). cond t 0 (fees x)) (holds_behind done u x other)
      ]

      same_paid : (i : ℕ) (l : BoundedLoop) → IsEntryAt loops i l → paid (done ++ u ∷ []) c.nodes l ≡ paid done c.nodes l
      same_paid i l at = ap (λ (t : Bool). cond t (l.load * entries l.members c.nodes) 0) (holds_behind done u l.header (plain i l at))

      pub plain_node : IsCounted (done ++ u ∷ []) visits entered
      plain_node = record {
        last = c.last;
        nodes = c.nodes;
        exit = c.exit;
        goes = record {
          walk = c.goes.walk;
          went = λ i l at there. c.goes.went i l at (still i l at there);
          fresh = λ i l at not. c.goes.fresh i l at (λ there. not (later l.header there));
        };
        visits_are = c.visits_are;
        entered_are = λ i l at there. c.entered_are i l at (still i l at there);
        entered_none = λ i l at not. c.entered_none i l at (λ there. not (later l.header there));
        spent =
            ap₂ (λ (a b : ℕ). a + b)
            (sum_on (λ x. cost_at x + left_fee fees (done ++ u ∷ []) x) (λ x. cost_at x + left_fee fees done x) c.nodes (λ x there. ap (λ (n : ℕ). cost_at x + n) (same_fee x)))
            (sum_same (paid done c.nodes) (paid (done ++ u ∷ []) c.nodes) loops same_paid)
            ∙ c.spent;
      }

    -- one that heads loop i, whose entries are noted, where the loops around it were before
    module _ (i : ℕ) (l : BoundedLoop) (at : IsEntryAt loops i l) (not_done : ¬ Contains done l.header)
        (outer : (j : ℕ) (m : BoundedLoop) → IsEntryAt loops j m → Contains done m.header → ¬ Contains l.members m.header) (noted : List ℕ) (here : get_or noted i 0 ≡ get_or visits l.header 0)
        (others : (j : ℕ) → j ≢ i → get_or noted j 0 ≡ get_or entered j 0) where
      abbrev more : List ℕ
      more = done ++ l.header ∷ []

      abbrev k : ℕ
      k = times l.header c.nodes

      own_apart : (j : ℕ) (m : BoundedLoop) → IsEntryAt loops j m → j ≢ i → m.header ≢ l.header
      own_apart j m at' other same = other (natural.apart j i m l at' at same)

      entered_once : entries l.members c.nodes ≡ k
      entered_once = entered_now g loops natural done i l at not_done outer c.last c.nodes c.goes

      in_more : Contains more l.header
      in_more = Contains-append_right done (l.header ∷ []) l.header (at_head l.header [])

      -- the entries of the walk so far are noted
      noted_are : (j : ℕ) (m : BoundedLoop) → IsEntryAt loops j m → Contains more m.header → get_or noted j 0 ≡ entries m.members c.nodes
      noted_are j m at' there = elim (cases_eq j i) [
        | inl same ↦
            let is : m ≡ l = one_at loops j i m l at' at same in
            ap (λ (n : ℕ). get_or noted n 0) same ∙ (here ∙ (c.visits_are l.header ∙ (sym entered_once ∙ ap (λ (x : BoundedLoop). entries x.members c.nodes) (sym is))))
        | inr other ↦
            others j other
            ∙ c.entered_are j m at'
            (elim (Contains-append_cases done (l.header ∷ []) m.header there) [
              | inl before ↦ before
              | inr own ↦ elim (cons_cases l.header m.header [] own) [ inl same ↦ absurd (own_apart j m at' other (sym same)) | inr never ↦ absurd (nil_contains m.header never) ]
            ])
      ]

      noted_none : (j : ℕ) (m : BoundedLoop) → IsEntryAt loops j m → ¬ Contains more m.header → get_or noted j 0 ≡ 0
      noted_none j m at' not =
          others j (λ same. not (subst (λ (x : BoundedLoop). Contains more x.header) (sym (one_at loops j i m l at' at same)) in_more))
          ∙ c.entered_none j m at' (λ there. not (Contains-append_left done (l.header ∷ []) m.header there))

      pub skipped : (cost : ℕ) → k * fees l.header ≡ k * (l.bound * cost + l.load) → (k * l.bound ≡ 0) ⊎ (cost ≡ 0) → IsCounted more visits noted
      skipped cost fee spare = record {
        last = c.last;
        nodes = c.nodes;
        exit = c.exit;
        goes = goes_past g loops natural done i l at not_done outer c.last c.nodes c.goes;
        visits_are = c.visits_are;
        entered_are = noted_are;
        entered_none = noted_none;
        spent =
            total_more loops cost_at fees done i l at not_done own_apart c.nodes c.nodes [] 0 0 (expand_none l.header [] c.nodes) (λ j m at' there. refl) entered_once refl
            (fee ∙ spared k l.bound cost l.load spare)
            ∙ c.spent;
      }

      -- gone round on this path, of this cost
      module _ (b : ℕ) (rest : List ℕ) (t : Iterates g loops natural l b rest) (inner : (x : ℕ) → Contains rest x → ¬ Contains done x) (cost : ℕ)
          (sum : sum_by (λ x. cost_at x + fees x) (l.header ∷ rest) ≡ cost + fees l.header) (fee : fees l.header ≡ l.bound * cost + l.load) where
        left_later : (x : ℕ) → Contains rest x → cost_at x + left_fee fees more x ≡ cost_at x + fees x
        left_later x there =
            let none : holds more x ≡ false =
            holds_behind done l.header x (t.others x there) ∙ false_from_ne_true (holds done x) (λ e. inner x there (contains_from_holds done x e)) in
            ap (λ (s : Bool). cost_at x + cond s 0 (fees x)) none

        iteration_cost : sum_by (λ x. cost_at x + left_fee fees more x) (l.header ∷ rest) ≡ cost
        iteration_cost =
            let first : left_fee fees more l.header ≡ 0 = ap (λ (s : Bool). cond s 0 (fees l.header)) (holds_from_contains more l.header in_more) in
            let behind : sum_by (λ x. cost_at x + left_fee fees more x) rest ≡ sum_by (λ x. cost_at x + fees x) rest =
            sum_on (λ x. cost_at x + left_fee fees more x) (λ x. cost_at x + fees x) rest left_later in
            let a = sum_by-cons (λ x. cost_at x + left_fee fees more x) l.header rest in
            let b' = sum_by-cons (λ x. cost_at x + fees x) l.header rest in
            omega (arith, first, behind, a, b', sum)

        pub rounded : (new : List ℕ) → ((u : ℕ) → get_or new u 0 ≡ get_or visits u 0 + get_or visits l.header 0 * l.bound * times u (l.header ∷ rest)) → IsCounted more new noted
        rounded new are = record {
          last = c.last;
          nodes = expand l.header (l.header ∷ rest) l.bound c.nodes;
          exit = c.exit;
          goes = goes_round g loops natural done i l at not_done outer c.last c.nodes c.goes b rest t;
          visits_are = λ u.
              let x = times u (l.header ∷ rest) in
              are u
              ∙ (ap₂ (λ (n v : ℕ). n + v * l.bound * x) (c.visits_are u) (c.visits_are l.header)
              ∙ (ap (λ (n : ℕ). times u c.nodes + n) (mul_assoc k l.bound x) ∙ sym (sum_expand (λ y. cond (y == u) 1 0) l.header (l.header ∷ rest) l.bound c.nodes)));
          entered_are = λ j m at' there. noted_are j m at' there ∙ sym (entries_stay g loops natural done i l at not_done outer c.last c.nodes c.goes b rest t j m at' there);
          entered_none = noted_none;
          spent =
              total_more loops cost_at fees done i l at not_done own_apart c.nodes (expand l.header (l.header ∷ rest) l.bound c.nodes) (l.header ∷ rest) l.bound cost refl
              (λ j m at' there. entries_stay g loops natural done i l at not_done outer c.last c.nodes c.goes b rest t j m at' there) entered_once iteration_cost
              (ap (λ (n : ℕ). k * n) fee)
              ∙ c.spent;
        }
