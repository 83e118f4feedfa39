-- The innermost loops of nodes, loop by loop, outer loops first.
use Rattle.std.proofs.Common.{◌≡◌, ◌≢◌, ℕ, ◌+◌, ◌<◌, ◌≤◌, ◌⊎◌, ◌↔◌, List, length, get_or, set, All, Option, Some, None, refl, sym, ap, ◌∙◌, subst, inl, inr, arith}
use Rattle.std.specs.List.Sorted.{IsStrictlyIncreasing}
use Rattle.std.proofs.lemmas.Bool.{cases_eq, cases_lt}
use Rattle.std.proofs.lemmas.List.{get_or-set_same, get_or-set_other, get_or_past, get_or_default}
use Rattle.std.proofs.lemmas.List.Elements.{All-get_or}
use Rattle.loop_nest.specs.Digraph.{Digraph, IsDigraph}
use Rattle.loop_nest.specs.Walks.{Dominates, IsHeader, IsMember}
use Rattle.loop_nest.specs.Entered.{AreAllReached}
use Rattle.loop_nest.specs.Search.{mark_at, AreUnmarked, IsMarkedWith}
use Rattle.loop_nest.specs.Order.{AreDominatorsFirst}
use Rattle.loop_nest.specs.Nesting.{IsInnermost, HaveOuters, AreInnermost, every_node}
use Rattle.loop_nest.proofs.Nesting.{header_dominates_members, loops_are_nested_lem}
use Rattle.loop_nest.proofs.Nested.{dominates_both, member_within}
use Rattle.loop_nest.proofs.Rising.{same_place}

-- the nodes that stand before place i
abbrev pub before_place : List ℕ → ℕ → ℕ → Type 0
before_place order i k = (j : ℕ) × (j < i) × (get_or order j 0 ≡ k)

pub own_member : (g : Digraph) (h : ℕ) → IsHeader g h → IsMember g h h
own_member g h header = (header, inl refl)

-- the innermost of some loops is that of more, which don't have the node
pub innermost_of_more : (g : Digraph) (among among' : ℕ → Type 0) (hs : List ℕ) (x : ℕ) (o : Option ℕ) → ((k : ℕ) → among k → among' k) → ((k : ℕ) → among' k → IsMember g k x → among k) → IsInnermost g among hs x o → IsInnermost g among' hs x o
innermost_of_more g among among' hs x None more none h = λ k a m. h k (none k a m) m
innermost_of_more g among among' hs x (Some n) more none h = (h.0, more (get_or hs n 0) h.1, h.2, λ k a m. h.3 k (none k a m) m)

module _ (g : Digraph) (wf : IsDigraph g) (reached : AreAllReached g) where
  -- headers in each other's loops are the same
  pub one_header : (h k : ℕ) → IsMember g h k → IsMember g k h → h ≡ k
  one_header h k in_h in_k = dominates_both h k (reached h (member_within k h wf in_k)) (header_dominates_members g h k in_h) (header_dominates_members g k h in_k)

  -- of two loops with a common node, one has the other's header
  pub in_other : (h k x : ℕ) → IsMember g h x → IsMember g k x → (IsMember g h k → ⊥) → IsMember g k h
  in_other h k x in_h in_k out =
      elim (loops_are_nested_lem g h k x (reached x (member_within h x wf in_h)) in_h in_k) [
        | inl within ↦ within h (own_member g h in_h.0)
        | inr within ↦ absurd (out (within k (own_member g k in_k.0)))
      ]

  -- a loop around the header of a loop is around the loop
  pub around_members : (h k x : ℕ) → IsMember g h k → IsMember g k x → IsMember g h x
  around_members h k x in_h in_k =
      elim (loops_are_nested_lem g h k k (reached k (member_within h k wf in_h)) in_h (own_member g k in_k.0)) [
        | inl within ↦
            let same = one_header h k in_h (within h (own_member g h in_h.0)) in
            let P : ℕ → Type 0 = λ z. IsMember g z x in
            subst P (sym same) in_k
        | inr within ↦ within x in_k
      ]

  module _ (order : List ℕ) (first : AreDominatorsFirst g order) (i : ℕ) (inside : i < length order) where
    -- a node behind others has none of them in its loop
    pub not_before : (k : ℕ) → before_place order i k → IsMember g (get_or order i 0) k → ⊥
    not_before k b m =
        let P : ℕ → Type 0 = λ z. Dominates g (get_or order i 0) z in
        first.before b.0 i b.1 inside (subst P (sym b.2) (header_dominates_members g (get_or order i 0) k m))

    later : (k : ℕ) → before_place order i k → before_place order (i + 1) k
    later k b = let lt = b.1 in (b.0, omega arith, b.2)

    split : (k : ℕ) → before_place order (i + 1) k → before_place order i k ⊎ (k ≡ get_or order i 0)
    split k b =
        let lt = b.1 in
        elim (cases_lt b.0 i) [
          | inl low ↦ inl (b.0, low, b.2)
          | inr high ↦ let same : b.0 ≡ i = omega arith in inr (sym b.2 ∙ ap (λ (z : ℕ). get_or order z 0) same)
        ]

    module _ (hs : List ℕ) (outers marks : List (Option ℕ)) (out : HaveOuters g (before_place order i) hs outers) (inner : AreInnermost g (before_place order i) hs marks) where
      pub outers_skip : (IsHeader g (get_or order i 0) → ⊥) → All (IsHeader g) hs → HaveOuters g (before_place order (i + 1)) hs outers
      outers_skip none headers = λ n lt a.
          let among = before_place order i in
          let h = get_or hs n 0 in
          elim (split h a) [
            | inl old ↦
                innermost_of_more g (λ k. among k × (k ≢ h)) (λ k. before_place order (i + 1) k × (k ≢ h)) hs h (mark_at outers n) (λ k b. (later k b.0, b.1)) (λ k b m. (
                  elim (split k b.0) [
                    | inl old' ↦ old'
                    | inr same ↦ let P : ℕ → Type 0 = λ z. IsHeader g z in absurd (none (subst P same m.0))
                  ],
                  b.1,
                )) (out n lt old)
            | inr same ↦ let P : ℕ → Type 0 = λ z. IsHeader g z in absurd (none (subst P same (All-get_or (IsHeader g) hs n 0 lt headers)))
          ]

      pub marks_skip : (IsHeader g (get_or order i 0) → ⊥) → AreInnermost g (before_place order (i + 1)) hs marks
      marks_skip none = record {
        long = inner.long;
        each = λ x lt.
            innermost_of_more g (before_place order i) (before_place order (i + 1)) hs x (mark_at marks x) later (λ k b m.
            elim (split k b) [
              | inl old ↦ old
              | inr same ↦ let P : ℕ → Type 0 = λ z. IsHeader g z in absurd (none (subst P same m.0))
            ]) (inner.each x lt);
      }

      module _ (m : ℕ) (short : m < length hs) (is : get_or hs m 0 ≡ get_or order i 0) (header : IsHeader g (get_or order i 0)) where
        not_among : before_place order i (get_or hs m 0) → ⊥
        not_among b =
            let P : ℕ → Type 0 = λ z. before_place order i z in
            not_before (get_or order i 0) (subst P is b) (own_member g (get_or order i 0) header)

        -- no node is marked with the loop's number before
        pub unmarked_before : AreUnmarked m marks
        unmarked_before x at =
            elim (cases_lt x g.nodes) [
              | inl below ↦
                  let P : Option ℕ → Type 0 = λ o. IsInnermost g (before_place order i) hs x o in
                  let r = subst P at (inner.each x below) in
                  not_among r.1
              | inr above ↦
                  let long = inner.long in
                  let none : mark_at marks x ≡ None = get_or_past marks x None (omega arith) in
                  let wrong : None ≡ Some m = sym none ∙ at in
                  let bad : ⊥ = cc in
                  bad
            ]

        pub outers_more : IsStrictlyIncreasing hs → m < length outers → HaveOuters g (before_place order (i + 1)) hs (set outers m (mark_at marks (get_or order i 0)))
        outers_more rising fits = λ n lt a.
            let among = before_place order i in
            let h = get_or order i 0 in
            let o = mark_at marks h in
            let Q : ℕ → ℕ → Type 0 = λ z w. IsInnermost g (λ k. before_place order (i + 1) k × (k ≢ z)) hs z (mark_at (set outers m o) w) in
            elim (cases_eq n m) [
              | inl same ↦
                  let P : Option ℕ → Type 0 = λ z. IsInnermost g (λ k. before_place order (i + 1) k × (k ≢ h)) hs h z in
                  let here : Q h m =
                  subst P (sym (get_or-set_same outers m o None fits)) (
                  innermost_of_more g among (λ k. before_place order (i + 1) k × (k ≢ h)) hs h o (λ k b. (
                    later k b,
                    λ e.
                        let R : ℕ → Type 0 = λ z. before_place order i z in not_among (subst R (e ∙ sym is) b),
                  )) (λ k b mem. elim (split k b.0) [ inl old ↦ old | inr at ↦ absurd (b.1 at) ]) (inner.each h (member_within h h wf (own_member g h header)))) in
                  let S : ℕ → Type 0 = λ z. Q z m in
                  let T : ℕ → Type 0 = λ z. Q (get_or hs z 0) z in
                  subst T (sym same) (subst S (sym is) here)
              | inr other ↦
                  let k' = get_or hs n 0 in
                  let apart : k' ≢ h = λ e. other (same_place hs rising n m lt short (e ∙ sym is)) in
                  let P : Option ℕ → Type 0 = λ z. IsInnermost g (λ k. before_place order (i + 1) k × (k ≢ k')) hs k' z in
                  let old : before_place order i k' = elim (split k' a) [ inl b ↦ b | inr e ↦ absurd (apart e) ] in
                  subst P (sym (get_or-set_other outers m n o None other)) (
                  innermost_of_more g (λ k. among k × (k ≢ k')) (λ k. before_place order (i + 1) k × (k ≢ k')) hs k' (mark_at outers n) (λ k b. (later k b.0, b.1)) (λ k b mem. (
                    elim (split k b.0) [
                      | inl b' ↦ b'
                      | inr e ↦ let R : ℕ → Type 0 = λ z. IsMember g z k' in absurd (not_before k' old (subst R e mem))
                    ],
                    b.1,
                  )) (out n lt old))
            ]

        pub marks_more : (new' : List (Option ℕ)) → ((x : ℕ) → (mark_at new' x ≡ Some m) ↔ IsMember g (get_or order i 0) x) → IsMarkedWith m marks new' → AreInnermost g (before_place order (i + 1)) hs new'
        marks_more new' found marked =
            let among = before_place order i in
            let h = get_or order i 0 in
            record {
              long = marked.long ∙ inner.long;
              each = λ x lt.
                  let P : Option ℕ → Type 0 = λ z. IsInnermost g (before_place order (i + 1)) hs x z in
                  elim (marked.each x) [
                    | inl at ↦
                        let mem : IsMember g h x = (found x).0 at in
                        let Q : ℕ → Type 0 = λ z. before_place order (i + 1) z in
                        let R : ℕ → Type 0 = λ z. IsMember g z x in
                        subst P (sym at) (
                          short,
                          subst Q (sym is) (i, omega arith, refl),
                          subst R (sym is) mem,
                          λ k b in_k.
                              let S : ℕ → Type 0 = λ z. IsMember g k z in
                              subst S (sym is) (
                              elim (split k b) [
                                | inl old ↦ in_other h k x mem in_k (not_before k old)
                                | inr same ↦ let T : ℕ → Type 0 = λ z. IsMember g z h in subst T (sym same) (own_member g h header)
                              ]),
                        )
                    | inr kept ↦
                        let out_of : IsMember g h x → ⊥ = λ mem. unmarked_before x (sym kept ∙ (found x).1 mem) in
                        subst P (sym kept) (
                        innermost_of_more g among (before_place order (i + 1)) hs x (mark_at marks x) later (λ k b in_k.
                        elim (split k b) [
                          | inl old ↦ old
                          | inr same ↦ let T : ℕ → Type 0 = λ z. IsMember g z x in absurd (out_of (subst T same in_k))
                        ]) (inner.each x lt))
                  ];
            }

  -- where all nodes were passed, these are all loops
  module _ (order : List ℕ) (first : AreDominatorsFirst g order) (i : ℕ) (all : length order ≤ i) where
    placed : (k : ℕ) → IsHeader g k → before_place order i k
    placed k header =
        let c = first.complete k (reached k (member_within k k wf (own_member g k header))) in
        let lt = c.1 in
        (c.0, omega arith, get_or_default order c.0 0 k lt ∙ c.2)

    pub outers_all : (hs : List ℕ) (outers : List (Option ℕ)) → All (IsHeader g) hs → HaveOuters g (before_place order i) hs outers → HaveOuters g every_node hs outers
    outers_all hs outers headers out = λ n lt a.
        let h = get_or hs n 0 in
        innermost_of_more g (λ k. before_place order i k × (k ≢ h)) (λ k. every_node k × (k ≢ h)) hs h (mark_at outers n) (λ k b. (tt, b.1)) (λ k b m. (placed k m.0, b.1)) (out n lt (placed h (All-get_or (IsHeader g) hs n 0 lt headers)))

    pub marks_all : (hs : List ℕ) (marks : List (Option ℕ)) → AreInnermost g (before_place order i) hs marks → AreInnermost g every_node hs marks
    marks_all hs marks inner = record {
      long = inner.long;
      each = λ x lt. innermost_of_more g (before_place order i) every_node hs x (mark_at marks x) (λ k b. tt) (λ k b m. placed k m.0) (inner.each x lt);
    }

-- before the first loop
pub outers_none : (g : Digraph) (order hs : List ℕ) (outers : List (Option ℕ)) → HaveOuters g (before_place order 0) hs outers
outers_none g order hs outers = λ n lt a. let below = a.1 in absurd (omega arith)

pub marks_none : (g : Digraph) (order hs : List ℕ) (marks : List (Option ℕ)) → length marks ≡ g.nodes → ((x : ℕ) → mark_at marks x ≡ None) → AreInnermost g (before_place order 0) hs marks
marks_none g order hs marks long none = record {
  long = long;
  each = λ x lt. let P : Option ℕ → Type 0 = λ o. IsInnermost g (before_place order 0) hs x o in subst P (sym (none x)) (λ k a m. let below = a.1 in absurd (omega arith));
}
