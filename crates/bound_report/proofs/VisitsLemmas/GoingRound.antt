-- A walk that goes round some loops of a graph as often as they may be, and round the others not at all; and one loop more.
use Rattle.std.proofs.Common.{◌≡◌, ◌≢◌, ℕ, ◌+◌, ◌*◌, ◌⊎◌, Bool, true, false, cond, None, List, [], ◌∷◌, ◌++◌, get_or, Contains, sym, ap, ◌∙◌, subst, arith, inl, inr}
use Rattle.std.specs.Prelude.{if◌then◌else◌, sum_by}
use Rattle.std.proofs.lemmas.Bool.{true≢false, false_from_ne_true}
use Rattle.std.proofs.lemmas.List.{get_or_default}
use Rattle.std.proofs.lemmas.List.Elements.{Contains-append_cases, Contains-append_left, Contains-append_right}
use Rattle.lists.specs.Members.{at_head, cons_cases, nil_contains, has_or_not}
use Rattle.loop_nest.specs.Digraph.{Digraph, Edge}
use Rattle.loop_nest.specs.Walks.{Walk, stay, along}
use Rattle.section_check.specs.Bounded.{BoundedLoop, holds, entries}
use Rattle.section_check.specs.Placing.{IsEntryAt}
use Rattle.section_check.proofs.Elements.{contains_from_holds, holds_from_contains}
use Rattle.bound_report.proofs.VisitsLemmas.Expanding.{expand, times, sum_expand, expanded}
use Rattle.bound_report.proofs.VisitsLemmas.Keeping.{Keeps, Fresh, EntersAt, entries_expand, entries_fresh, keeps_expand, keeps_own, keeps_fresh, fresh_expand}
use Rattle.bound_report.proofs.VisitsLemmas.Sums.{sum_apart, sum_one}

-- the loops of a graph, as far as they are asked for here
pub record AreNatural (g : Digraph) (loops : List BoundedLoop) : Type 0 where
  pub own : (i : ℕ) (l : BoundedLoop) → IsEntryAt loops i l → Contains l.members l.header
  pub entered : (i : ℕ) (l : BoundedLoop) → IsEntryAt loops i l → (u v : ℕ) → Edge g u v → Contains l.members v → ¬ Contains l.members u → v ≡ l.header
  pub entry : (i : ℕ) (l : BoundedLoop) → IsEntryAt loops i l → Contains l.members 0 → l.header ≡ 0
  pub apart : (i j : ℕ) (l m : BoundedLoop) → IsEntryAt loops i l → IsEntryAt loops j m → l.header ≡ m.header → i ≡ j
  pub within : (i j : ℕ) (l m : BoundedLoop) → IsEntryAt loops i l → IsEntryAt loops j m → Contains m.members l.header → (x : ℕ) → Contains l.members x → Contains m.members x
  pub nested : (i j : ℕ) (l m : BoundedLoop) (x : ℕ) → IsEntryAt loops i l → IsEntryAt loops j m → Contains l.members x → Contains m.members x → Contains m.members l.header ⊎ Contains l.members m.header

pub one_at : (loops : List BoundedLoop) (j i : ℕ) (m l : BoundedLoop) → IsEntryAt loops j m → IsEntryAt loops i l → j ≡ i → m ≡ l
one_at loops j i m l a b same = sym a.1 ∙ (get_or_default loops j m l a.0 ∙ (ap (λ (k : ℕ). get_or loops k l) same ∙ b.1))

-- the test by which members are told apart
same_holds : (ms : List ℕ) (x y : ℕ) → (Contains ms x → Contains ms y) → (Contains ms y → Contains ms x) → holds ms x ≡ holds ms y
same_holds ms x y to from = elim (has_or_not ms x) [
  | inl there ↦ holds_from_contains ms x there ∙ sym (holds_from_contains ms y (to there))
  | inr not ↦
      false_from_ne_true (holds ms x) (λ e. not (contains_from_holds ms x e))
      ∙ sym (false_from_ne_true (holds ms y) (λ e. not (from (contains_from_holds ms y e))))
]

module _ (g : Digraph) (loops : List BoundedLoop) (natural : AreNatural g loops) where
  -- the loop that the edge goes to is not the edge's own: it closes none
  abbrev pub GoesOn : ℕ → ℕ → Type 0
  GoesOn u v = (i : ℕ) (l : BoundedLoop) → IsEntryAt loops i l → l.header ≡ v → ¬ Contains l.members u

  -- a walk along edges that close no loop
  pub data Onward : ℕ → ℕ → List ℕ → Type 0 where
    rests : {u : ℕ} → Onward u u (u ∷ [])
    steps : {u v w : ℕ} {ns : List ℕ} → Edge g u v → GoesOn u v → Onward v w ns → Onward u w (u ∷ ns)

  pub onward_walk : {u w : ℕ} {ns : List ℕ} → Onward u w ns → Walk g u w ns
  onward_walk rests = stay
  onward_walk (steps e on t) = along e (onward_walk t)

  module _ (i : ℕ) (l : BoundedLoop) (at : IsEntryAt loops i l) where
    onward_fresh : {u w : ℕ} {ns : List ℕ} → Onward u w ns → (inside : Bool) → (inside ≡ true → u ≢ l.header) → Fresh l.members l.header inside ns
    onward_fresh rests inside first = (first, tt)
    onward_fresh (steps {u} {v} e on t) inside first =
        (first, onward_fresh t (holds l.members u) (λ in' same. on i l at (sym same) (contains_from_holds l.members u in')))

    enters_walk : {u w : ℕ} {ns : List ℕ} → Walk g u w ns → (inside : Bool) → (inside ≡ false → holds l.members u ≡ true → u ≡ l.header) → EntersAt l.members l.header inside ns
    enters_walk stay inside first = (first, tt)
    enters_walk (along {u} {v} e t) inside first = (
      first,
      enters_walk t (holds l.members u)
          (λ out in'. natural.entered i l at u v e (contains_from_holds l.members v in') (λ c. true≢false (sym (holds_from_contains l.members u c) ∙ out))),
    )

    own_holds : holds l.members l.header ≡ true
    own_holds = holds_from_contains l.members l.header (natural.own i l at)

    -- each visit of the header of a loop that isn't gone round enters it
    pub entries_once : {w : ℕ} {ns : List ℕ} → Walk g 0 w ns → Fresh l.members l.header false ns → entries l.members ns ≡ times l.header ns
    entries_once t f =
        entries_fresh l.members l.header own_holds false _ f (enters_walk t false (λ _ in'. sym (natural.entry i l at (contains_from_holds l.members 0 in'))))

  -- the loops with these headers are gone round as often as they may be, the others not
  pub record GoesRound (done : List ℕ) (last : ℕ) (ns : List ℕ) : Type 0 where
    pub walk : Walk g 0 last ns
    pub went : (i : ℕ) (l : BoundedLoop) → IsEntryAt loops i l → Contains done l.header → Keeps l.members l.header l.bound None ns
    pub fresh : (i : ℕ) (l : BoundedLoop) → IsEntryAt loops i l → ¬ Contains done l.header → Fresh l.members l.header false ns

  pub goes_at_first : (last : ℕ) (ns : List ℕ) → Onward 0 last ns → GoesRound [] last ns
  goes_at_first last ns t = record {
    walk = onward_walk t;
    went = λ i l at c. absurd (nil_contains l.header c);
    fresh = λ i l at none. onward_fresh i l at t false (λ e. absurd (true≢false (sym e)));
  }

  -- ---- one loop more

  -- an iteration of the loop, along edges that close no loop but the last
  pub record Iterates (l : BoundedLoop) (last : ℕ) (rest : List ℕ) : Type 0 where
    pub onward : Onward l.header last (l.header ∷ rest)
    pub back : Edge g last l.header
    pub inside : (x : ℕ) → Contains rest x → Contains l.members x
    pub others : (x : ℕ) → Contains rest x → x ≢ l.header

  -- loop i, whose header isn't done, while the headers of all loops around it are, and none inside it
  module _ (done : List ℕ) (i : ℕ) (l : BoundedLoop) (at : IsEntryAt loops i l) (not_done : ¬ Contains done l.header)
      (outer : (j : ℕ) (m : BoundedLoop) → IsEntryAt loops j m → Contains done m.header → ¬ Contains l.members m.header) where
    abbrev pub done_more : List ℕ
    done_more = done ++ l.header ∷ []

    now_done : Contains done_more l.header
    now_done = Contains-append_right done (l.header ∷ []) l.header (at_head l.header [])

    -- the members of the loop are all in a loop that is done, or none
    alike_done : (j : ℕ) (m : BoundedLoop) → IsEntryAt loops j m → Contains done m.header → (x : ℕ) → Contains l.members x → holds m.members x ≡ holds m.members l.header
    alike_done j m at' c x inside =
        same_holds m.members x l.header
        (λ there. elim (natural.nested i j l m x at at' inside there) [ inl around ↦ around | inr within ↦ absurd (outer j m at' c within) ])
        (λ around. natural.within i j l m at at' around x inside)

    not_own : (j : ℕ) (m : BoundedLoop) → IsEntryAt loops j m → Contains done m.header → (x : ℕ) → Contains l.members x → x ≢ m.header
    not_own j m at' c x inside same = outer j m at' c (subst (λ (z : ℕ). Contains l.members z) same inside)

    -- the loop itself, or one that was done or wasn't
    done_cases : (j : ℕ) (m : BoundedLoop) → IsEntryAt loops j m → Contains done_more m.header → Contains done m.header ⊎ ((j ≡ i) × (m ≡ l))
    done_cases j m at' c = elim (Contains-append_cases done (l.header ∷ []) m.header c) [
      | inl before ↦ inl before
      | inr here ↦
          elim (cons_cases l.header m.header [] here) [
            | inl same ↦ inr (let place = natural.apart j i m l at' at (sym same) in (place, one_at loops j i m l at' at place))
            | inr never ↦ absurd (nil_contains m.header never)
          ]
    ]

    later : (j : ℕ) (m : BoundedLoop) → (Contains done_more m.header → ⊥) → (Contains done m.header → ⊥) × (l.header ≢ m.header)
    later j m none =
        (λ c. none (Contains-append_left done (l.header ∷ []) m.header c), λ same. none (subst (λ (z : ℕ). Contains done_more z) same now_done))

    module _ (last : ℕ) (ns : List ℕ) (so_far : GoesRound done last ns) where
      own_fresh : Fresh l.members l.header false ns
      own_fresh = so_far.fresh i l at not_done

      -- how often the loop is entered
      pub entered_now : entries l.members ns ≡ times l.header ns
      entered_now = entries_once i l at so_far.walk own_fresh

      -- it need not be gone round
      pub goes_past : GoesRound done_more last ns
      goes_past = record {
        walk = so_far.walk;
        went = λ j m at' c.
            elim (done_cases j m at' c) [
              | inl before ↦ so_far.went j m at' before
              | inr own ↦ subst (λ (k : BoundedLoop). Keeps k.members k.header k.bound None ns) (sym own.1) (keeps_fresh l.members l.header (own_holds i l at) l.bound ns own_fresh)
            ];
        fresh = λ j m at' none. so_far.fresh j m at' (later j m none).0;
      }

      module _ (b : ℕ) (rest : List ℕ) (t : Iterates l b rest) where
        abbrev pub round : List ℕ
        round = expand l.header (l.header ∷ rest) l.bound ns

        member : (x : ℕ) → Contains (l.header ∷ rest) x → Contains l.members x
        member x c = elim (cons_cases l.header x rest c) [
          | inl same ↦ subst (λ (z : ℕ). Contains l.members z) same (natural.own i l at)
          | inr there ↦ t.inside x there
        ]

        pub goes_round : GoesRound done_more last round
        goes_round = record {
          walk = expanded g l.header b (l.header ∷ rest) (onward_walk t.onward) t.back l.bound so_far.walk;
          went = λ j m at' c.
              elim (done_cases j m at' c) [
                | inl before ↦
                    keeps_expand m.members m.header m.bound l.header (l.header ∷ rest) (λ x c'. alike_done j m at' before x (member x c')) (λ x c'. not_own j m at' before x (member x c'))
                    (not_own j m at' before l.header (natural.own i l at)) l.bound None ns (so_far.went j m at' before)
                | inr own ↦
                    subst (λ (k : BoundedLoop). Keeps k.members k.header k.bound None round) (sym own.1)
                    (keeps_own l.members l.header (own_holds i l at) rest (λ x c'. holds_from_contains l.members x (t.inside x c')) t.others l.bound ns own_fresh)
              ];
          fresh = λ j m at' none.
              let apart = later j m none in
              let way : Fresh m.members m.header false (l.header ∷ rest) = onward_fresh j m at' t.onward false (λ e. absurd (true≢false (sym e))) in
              fresh_expand m.members m.header (own_holds j m at') l.header rest apart.1 way.1 l.bound false ns (so_far.fresh j m at' apart.0);
        }

        -- iterations enter no loop that is done
        pub entries_stay : (j : ℕ) (m : BoundedLoop) → IsEntryAt loops j m → Contains done_more m.header → entries m.members round ≡ entries m.members ns
        entries_stay j m at' c =
            elim (done_cases j m at' c) [
              | inl before ↦ entries_expand m.members l.header (l.header ∷ rest) (λ x c'. alike_done j m at' before x (member x c')) l.bound false ns
              | inr own ↦
                  subst (λ (k : BoundedLoop). entries k.members round ≡ entries k.members ns) (sym own.1)
                  (entries_expand l.members l.header (l.header ∷ rest) (λ x c'. holds_from_contains l.members x (member x c') ∙ sym (own_holds i l at)) l.bound false ns)
            ]

-- ---- what walks cost

abbrev pub left_fee : (fees : ℕ → ℕ) (done : List ℕ) → ℕ → ℕ
left_fee fees done u = if holds done u then 0 else fees u

-- the loads of the loops that are done
abbrev pub paid : (done ns : List ℕ) → BoundedLoop → ℕ
paid done ns l = if holds done l.header then l.load * entries l.members ns else 0

pub same_among : (xs ys : List ℕ) (u : ℕ) → (Contains xs u → Contains ys u) → (Contains ys u → Contains xs u) → holds xs u ≡ holds ys u
same_among xs ys u to from = elim (has_or_not xs u) [
  | inl there ↦ holds_from_contains xs u there ∙ sym (holds_from_contains ys u (to there))
  | inr not ↦
      false_from_ne_true (holds xs u) (λ e. not (contains_from_holds xs u e))
      ∙ sym (false_from_ne_true (holds ys u) (λ e. not (from (contains_from_holds ys u e))))
]

module _ (loops : List BoundedLoop) (cost fees : ℕ → ℕ) where
  -- the nodes with what is left of their fees, and the loads that are paid
  abbrev pub total : (done ns : List ℕ) → ℕ
  total done ns = sum_by (λ u. cost u + left_fee fees done u) ns + sum_by (paid done ns) loops

  module _ (done : List ℕ) (i : ℕ) (l : BoundedLoop) (at : IsEntryAt loops i l) (not_done : ¬ Contains done l.header)
      (apart : (j : ℕ) (m : BoundedLoop) → IsEntryAt loops j m → j ≢ i → m.header ≢ l.header) where
    abbrev more : List ℕ
    more = done ++ l.header ∷ []

    holds_other : (u : ℕ) → u ≢ l.header → holds more u ≡ holds done u
    holds_other u other =
        same_among more done u
        (λ c. elim (Contains-append_cases done (l.header ∷ []) u c) [
          | inl before ↦ before
          | inr here ↦ elim (cons_cases l.header u [] here) [ inl same ↦ absurd (other (sym same)) | inr never ↦ absurd (nil_contains u never) ]
        ])
        (λ c. Contains-append_left done (l.header ∷ []) u c)

    holds_here : holds more l.header ≡ true
    holds_here = holds_from_contains more l.header (Contains-append_right done (l.header ∷ []) l.header (at_head l.header []))

    holds_not : holds done l.header ≡ false
    holds_not = false_from_ne_true (holds done l.header) (λ e. not_done (contains_from_holds done l.header e))

    -- so many iterations of this path, after which the entries of what is done are as before
    pub total_more : (ns all p : List ℕ) (n iteration_cost : ℕ) → all ≡ expand l.header p n ns
        → ((j : ℕ) (m : BoundedLoop) → IsEntryAt loops j m → Contains more m.header → entries m.members all ≡ entries m.members ns) → entries l.members ns ≡ times l.header ns
        → sum_by (λ u. cost u + left_fee fees more u) p ≡ iteration_cost → times l.header ns * fees l.header ≡ times l.header ns * (n * iteration_cost + l.load) → total more all ≡ total done ns
    total_more ns all p n iteration_cost is same once it fee =
        let f : ℕ → ℕ = λ u. cost u + left_fee fees done u in
        let f' : ℕ → ℕ = λ u. cost u + left_fee fees more u in
        let k = times l.header ns in
        let others : (u : ℕ) → u ≢ l.header → f u ≡ f' u = λ u other. ap (λ (t : Bool). cost u + cond t 0 (fees u)) (sym (holds_other u other)) in
        let before : f l.header ≡ cost l.header + fees l.header = ap (λ (t : Bool). cost l.header + cond t 0 (fees l.header)) holds_not in
        let after : f' l.header ≡ cost l.header + 0 = ap (λ (t : Bool). cost l.header + cond t 0 (fees l.header)) holds_here in
        let here : f l.header ≡ f' l.header + fees l.header = omega (arith, before, after) in
        let a : sum_by f ns ≡ sum_by f' ns + k * fees l.header = sum_apart f f' l.header (fees l.header) others here ns in
        let b : sum_by f' all ≡ sum_by f' ns + k * (n * sum_by f' p) = ap (λ (us : List ℕ). sum_by f' us) is ∙ sum_expand f' l.header p n ns in
        let b' : sum_by f' all ≡ sum_by f' ns + k * (n * iteration_cost) = b ∙ ap (λ (w : ℕ). sum_by f' ns + k * (n * w)) it in
        let own_before : paid done ns l ≡ 0 = ap (λ (t : Bool). cond t (l.load * entries l.members ns) 0) holds_not in
        let own_after : paid more all l ≡ l.load * k =
        ap (λ (t : Bool). cond t (l.load * entries l.members all) 0) holds_here
        ∙ ap (λ (e : ℕ). l.load * e) (same i l at (contains_from_holds more l.header holds_here) ∙ once) in
        let own : paid more all l ≡ paid done ns l + l.load * k = own_after ∙ omega (arith, own_before) in
        let c : sum_by (paid more all) loops ≡ sum_by (paid done ns) loops + l.load * k =
        sum_one (paid done ns) (paid more all) loops i l (l.load * k) at own (λ j m at' other. paid_other j m at' (apart j m at' other)) in
        omega (arith, a, b', c, fee)
      where
        paid_other : (j : ℕ) (m : BoundedLoop) → IsEntryAt loops j m → m.header ≢ l.header → paid more all m ≡ paid done ns m
        paid_other j m at' other = elim (has_or_not done m.header) [
          | inl there ↦
              let c : Contains more m.header = Contains-append_left done (l.header ∷ []) m.header there in
              ap (λ (t : Bool). cond t (m.load * entries m.members all) 0) (holds_from_contains more m.header c)
              ∙ (ap (λ (e : ℕ). m.load * e) (same j m at' c)
              ∙ sym (ap (λ (t : Bool). cond t (m.load * entries m.members ns) 0) (holds_from_contains done m.header there)))
          | inr not ↦
              let none : holds done m.header ≡ false = false_from_ne_true (holds done m.header) (λ e. not (contains_from_holds done m.header e)) in
              ap (λ (t : Bool). cond t (m.load * entries m.members all) 0) (holds_other m.header other ∙ none)
              ∙ sym (ap (λ (t : Bool). cond t (m.load * entries m.members ns) 0) none)
        ]
