-- A walk costs no more than one that takes no back edge of loops whose members cost nothing, and keeps the bounds of the other loops that it keeps.
use Rattle.std.proofs.Common.{◌≡◌, ℕ, ◌≤◌, ◌⊎◌, ◌↔◌, List, [], ◌∷◌, ◌++◌, get_or, sum_by, All, Contains, refl, sym, ap, ◌∙◌, subst, inl, inr, arith, append_assoc}
use Rattle.std.proofs.lemmas.Bool.{cases_eq}
use Rattle.std.proofs.lemmas.List.Sums.{sum_by_push, sum_by-append, sum_by-cons}
use Rattle.std.proofs.lemmas.List.Elements.{All-contains}
use Rattle.lists.specs.Members.{at_head, in_tail, cons_cases, nil_contains, has_or_not}
use Rattle.loop_nest.specs.Digraph.{Digraph, Edge}
use Rattle.loop_nest.specs.Walks.{Walk, IsReachable, IsBackEdge, IsMember, back_edges_to}
use Rattle.loop_nest.specs.Walks.Walk.{stay, along}
use Rattle.loop_nest.specs.Laws.{HeaderDominatesMembers, LoopsAreNested, DominanceIsAntisymmetric}
use Rattle.section_check.specs.Bounded.{BoundedLoop, IsKept}
use Rattle.memory_bound.proofs.Keeping.{all_from_contains, last_in, IsTail, tail_of_kept, kept_push, kept_stays, kept_enters, kept_one}
use Rattle.memory_bound.proofs.Cutting.{all_both, all_one, last_split, more_edges, kept_first, tail_follow, walk_push, walk_ends, walk_starts, walk_rest, walk_parts}

-- the cost of the nodes
abbrev pub price_of : List ℕ → List ℕ → ℕ
price_of costs ns = sum_by (λ u. get_or costs u 0) ns

-- the members are those of the header's loop
abbrev pub IsLoop : Digraph → BoundedLoop → Type 0
IsLoop g l = (x : ℕ) → Contains l.members x ↔ IsMember g l.header x

-- they cost nothing
abbrev pub IsFree : List ℕ → BoundedLoop → Type 0
IsFree costs l = (x : ℕ) → Contains l.members x → get_or costs x 0 ≡ 0

free_sum : (costs : List ℕ) (ns : List ℕ) → ((x : ℕ) → Contains ns x → get_or costs x 0 ≡ 0) → price_of costs ns ≡ 0
free_sum costs [] none = refl
free_sum costs (x ∷ ns) none =
    let f : ℕ → ℕ = λ u. get_or costs u 0 in
    let here = none x (at_head x ns) in
    let later = free_sum costs ns (λ y c. none y (in_tail x y ns c)) in
    let e = sum_by-cons f x ns in
    omega arith

-- nodes behind the header, up to the source of a back edge, are members
behind_header : (g : Digraph) (h a u : ℕ) (ns : List ℕ) → Walk g a u (a ∷ ns) → (Contains ns h → ⊥) → IsBackEdge g u h → (x : ℕ) → Contains ns x → IsMember g h x
behind_header g h a u [] walk never back x has = absurd (nil_contains x has)
behind_header g h a u (b ∷ ns) walk never back x has =
    let t = walk_rest walk in
    elim (cons_cases b x ns has) [
      | inl same ↦
          let P : ℕ → Type 0 = λ z. IsMember g h z in
          subst P same (
            (u, back),
            inr (record {
              source = u;
              back_edge = back;
              leads = (b ∷ ns, t, never);
            }),
          )
      | inr later ↦ behind_header g h b u ns t (λ c. never (in_tail b h ns c)) back x later
    ]

module _ (g : Digraph) (dominates : HeaderDominatesMembers) (nested : LoopsAreNested) (antisymmetric : DominanceIsAntisymmetric) (costs : List ℕ) where
  module _ (loops : List BoundedLoop) (are : (l : BoundedLoop) → Contains loops l → IsLoop g l) (whole : List ℕ) where
    -- A walk to the same node, which keeps all bounds and costs as much at least. Where the whole walk keeps a bound, it has no more iterations in the
    -- last stay.
    pub record Short (orig : List ℕ) (u : ℕ) : Type 0 where
      pub nodes : List ℕ
      pub walk : Walk g 0 u nodes
      pub kept : (l : BoundedLoop) → Contains loops l → IsKept nodes l
      pub price : price_of costs orig ≤ price_of costs nodes
      pub tails : (l : BoundedLoop) → Contains loops l → IsKept whole l → (c : ℕ) → IsTail orig l c → IsTail nodes l c

    -- the edge from u to v closes a loop that costs nothing
    pub record Closes (u v : ℕ) : Type 0 where
      pub loop : BoundedLoop
      pub among : Contains loops loop
      pub free : IsFree costs loop
      pub header : v ≡ loop.header
      pub source : Contains loop.members u

    -- each loop that it closes has a bound which the whole walk keeps
    abbrev pub KeepsClosed : List BoundedLoop → (u v : ℕ) → Type 0
    KeepsClosed ls u v = (l : BoundedLoop) → Contains ls l → v ≡ l.header → Contains l.members u → IsKept whole l

    module _ (kinds : (l : BoundedLoop) → Contains loops l → IsKept whole l ⊎ IsFree costs l) where
      closed_by : (ls : List BoundedLoop) → ((l : BoundedLoop) → Contains ls l → Contains loops l) → (u v : ℕ) → Closes u v ⊎ KeepsClosed ls u v
      closed_by [] within u v = inr (λ l has. absurd (nil_contains l has))
      closed_by (l ∷ ls) within u v =
          let among = within l (at_head l ls) in
          elim (closed_by ls (λ k has. within k (in_tail l k ls has)) u v) [
            | inl closes ↦ inl closes
            | inr others ↦
                elim (kinds l among) [
                  | inl kept ↦ inr (with others (λ at has. kept))
                  | inr free ↦
                      elim (cases_eq v l.header) [
                        | inr other ↦ inr (with others (λ at has. absurd (other at)))
                        | inl at ↦
                            elim (has_or_not l.members u) [
                              | inr out ↦ inr (with others (λ at' has. absurd (out has)))
                              | inl has ↦ inl (record { loop = l; among = among; free = free; header = at; source = has })
                            ]
                      ]
                ]
          ]
        where
          with : KeepsClosed ls u v → (v ≡ l.header → Contains l.members u → IsKept whole l) → KeepsClosed (l ∷ ls) u v
          with others here k has at source =
              elim (cons_cases l k ls has) [
                | inl same ↦ subst (λ (j : BoundedLoop). IsKept whole j) same
                    (here (at ∙ ap (λ (j : BoundedLoop). j.header) (sym same)) (subst (λ (j : BoundedLoop). Contains j.members u) (sym same) source))
                | inr later ↦ others k later at source
              ]

      module _ (orig : List ℕ) (u v : ℕ) (first rest : List ℕ) (ends : orig ≡ first ++ u ∷ []) (prefix : whole ≡ (orig ++ v ∷ []) ++ rest) (e : Edge g u v) (s : Short orig u) where
        second : (zs : List ℕ) × (s.nodes ≡ zs ++ u ∷ [])
        second = walk_ends s.walk

        kept_prefix : (l : BoundedLoop) → IsKept whole l → IsTail (orig ++ v ∷ []) l l.bound
        kept_prefix l kept = tail_of_kept (orig ++ v ∷ []) l (kept_first (orig ++ v ∷ []) rest l (subst (λ (zs : List ℕ). IsKept zs l) prefix kept))

        tails_on : (l : BoundedLoop) → Contains loops l → IsKept whole l → (c : ℕ) → IsTail (orig ++ v ∷ []) l c → IsTail (s.nodes ++ v ∷ []) l c
        tails_on l has kept c tail = tail_follow l orig s.nodes u v (s.tails l has kept) c first ends second.0 second.1 tail

        -- one node more
        module _ (closed : KeepsClosed loops u v) where
          kept_on : (l : BoundedLoop) → Contains loops l → IsKept (s.nodes ++ v ∷ []) l
          kept_on l has =
              elim (cases_eq v l.header) [
                | inr other ↦ kept_stays s.nodes l v other (s.kept l has)
                | inl at ↦
                    elim (has_or_not l.members u) [
                      | inl source ↦
                          let kept = closed l has at source in
                          kept_push s.nodes l v (s.kept l has) (tails_on l has kept l.bound (kept_prefix l kept))
                      | inr out ↦
                          let P : List ℕ → Type 0 = λ zs. IsKept (zs ++ v ∷ []) l in
                          let Q : List ℕ → Type 0 = λ zs. IsKept zs l in
                          subst P (sym second.1) (kept_enters second.0 u v l out (subst Q second.1 (s.kept l has)))
                    ]
              ]

          pub longer : Short (orig ++ v ∷ []) v
          longer =
              let f : ℕ → ℕ = λ x. get_or costs x 0 in
              let before = s.price in
              let a = sum_by_push f orig v in
              let b = sum_by_push f s.nodes v in
              record {
                nodes = s.nodes ++ v ∷ [];
                walk = walk_push s.walk e;
                kept = kept_on;
                price = omega arith;
                tails = tails_on;
              }

        -- back to the header
        module _ (k : Closes u v) where
          h : ℕ
          h = k.loop.header

          member : IsMember g k.loop.header u
          member = (are k.loop k.among u).0 k.source

          edge : Edge g u k.loop.header
          edge = subst (λ (z : ℕ). Edge g u z) k.header e

          back : IsBackEdge g u k.loop.header
          back = record { edge = edge; dominates = dominates g k.loop.header u member }

          split : (before : List ℕ) × (after : List ℕ) × (s.nodes ≡ before ++ k.loop.header ∷ after) × (Contains after k.loop.header → ⊥)
          split = last_split s.nodes k.loop.header (dominates g k.loop.header u member s.nodes s.walk)

          short : List ℕ
          short = split.0 ++ k.loop.header ∷ []

          parts : Walk g 0 k.loop.header (split.0 ++ k.loop.header ∷ []) × Walk g k.loop.header u (k.loop.header ∷ split.1)
          parts = walk_parts s.walk split.0 split.1 k.loop.header split.2

          is : s.nodes ≡ (split.0 ++ k.loop.header ∷ []) ++ split.1
          is = split.2 ∙ sym (append_assoc split.0 (k.loop.header ∷ []) split.1)

          inside : (x : ℕ) → Contains split.1 x → IsMember g k.loop.header x
          inside = behind_header g k.loop.header k.loop.header u split.1 parts.1 split.3 back

          cost_none : price_of costs split.1 ≡ 0
          cost_none = free_sum costs split.1 (λ x has. k.free x ((are k.loop k.among x).1 (inside x has)))

          header_free : get_or costs v 0 ≡ 0
          header_free =
              let own : IsMember g k.loop.header k.loop.header = ((u, back), inl refl) in
              let P : ℕ → Type 0 = λ z. get_or costs z 0 ≡ 0 in
              subst P (sym k.header) (k.free k.loop.header ((are k.loop k.among k.loop.header).1 own))

          short_kept : (l : BoundedLoop) → Contains loops l → IsKept (split.0 ++ k.loop.header ∷ []) l
          short_kept l has = kept_first (split.0 ++ k.loop.header ∷ []) split.1 l (subst (λ (zs : List ℕ). IsKept zs l) is (s.kept l has))

          price_kept : price_of costs (orig ++ v ∷ []) ≤ price_of costs (split.0 ++ k.loop.header ∷ [])
          price_kept =
              let f : ℕ → ℕ = λ x. get_or costs x 0 in
              let before = s.price in
              let a = sum_by_push f orig v in
              let b = ap (price_of costs) is in
              let c = sum_by-append f (split.0 ++ k.loop.header ∷ []) split.1 in
              let d = cost_none in
              let z = header_free in
              omega arith

          -- a loop that has the header has the members behind it
          module _ (l : BoundedLoop) (has : Contains loops l) (own : Contains l.members k.loop.header) where
            reaches : IsReachable g k.loop.header
            reaches = (split.0 ++ k.loop.header ∷ [], parts.0)

            mine : IsMember g k.loop.header k.loop.header
            mine = ((u, back), inl refl)

            its : IsMember g l.header k.loop.header
            its = (are l has k.loop.header).0 own

            around : (x : ℕ) → Contains split.1 x → Contains l.members x
            around x there =
                elim (nested g k.loop.header l.header k.loop.header reaches mine its) [
                  | inl out ↦ (are l has x).1 (out x (inside x there))
                  | inr into ↦
                      let head : IsMember g l.header l.header = (its.0, inl refl) in
                      let same : k.loop.header ≡ l.header =
                      antisymmetric g k.loop.header l.header reaches (dominates g k.loop.header l.header (into l.header head)) (dominates g l.header k.loop.header its) in
                      (are l has x).1 (subst (λ (z : ℕ). IsMember g z x) same (inside x there))
                ]

          short_tails : (l : BoundedLoop) → Contains loops l → IsKept whole l → (c : ℕ) → IsTail (orig ++ v ∷ []) l c → IsTail (split.0 ++ k.loop.header ∷ []) l c
          short_tails l has kept c tail before in_loop parted all =
              elim (last_in before in_loop split.0 k.loop.header (sym parted)) [
                | inl empty ↦ let none = ap (back_edges_to l.header) empty in omega arith
                | inr at ↦
                    let own = All-contains (Contains l.members) in_loop k.loop.header all at in
                    let own_v : Contains l.members v = subst (λ (z : ℕ). Contains l.members z) (sym k.header) own in
                    let old : IsTail orig l c = of_longer own_v in
                    let whole_stay : All (Contains l.members) (in_loop ++ split.1) =
                    all_both (Contains l.members) in_loop split.1 all (all_from_contains (Contains l.members) split.1 (around l has own)) in
                    let at_end : s.nodes ≡ before ++ (in_loop ++ split.1) = is ∙ ap (λ (zs : List ℕ). zs ++ split.1) parted ∙ append_assoc before in_loop split.1 in
                    let le = s.tails l has kept c old before (in_loop ++ split.1) at_end whole_stay in
                    let more = more_edges l.header in_loop split.1 in
                    omega arith
              ]
            where
              of_longer : Contains l.members v → IsTail orig l c
              of_longer own before in_loop is all =
                  let le = tail before (in_loop ++ v ∷ []) (ap (λ (zs : List ℕ). zs ++ v ∷ []) is ∙ append_assoc before in_loop (v ∷ []))
                  (all_both (Contains l.members) in_loop (v ∷ []) all (all_one (Contains l.members) v own)) in
                  let more = more_edges l.header in_loop (v ∷ []) in
                  omega arith

          pub shorter : Short (orig ++ v ∷ []) v
          shorter = record {
            nodes = split.0 ++ k.loop.header ∷ [];
            walk = subst (λ (z : ℕ). Walk g 0 z (split.0 ++ k.loop.header ∷ [])) (sym k.header) parts.0;
            kept = short_kept;
            price = price_kept;
            tails = short_tails;
          }

        pub next : Short (orig ++ v ∷ []) v
        next =
            elim (closed_by loops (λ l has. has) u v) [
              | inl closes ↦ shorter closes
              | inr closed ↦ longer closed
            ]

      goes : {u w : ℕ} {ns : List ℕ} → Walk g u w ns → (orig first : List ℕ) → orig ≡ first ++ u ∷ [] → whole ≡ first ++ ns → Short orig u → Short whole w
      goes (stay {u}) orig first ends parted s = subst (λ (zs : List ℕ). Short zs u) (ends ∙ sym parted) s
      goes (along {u} {v} {w} {ns} e t) orig first ends parted s =
          let r = walk_starts t in
          let on : whole ≡ orig ++ ns = parted ∙ sym (append_assoc first (u ∷ []) ns) ∙ ap (λ (zs : List ℕ). zs ++ ns) (sym ends) in
          let prefix : whole ≡ (orig ++ v ∷ []) ++ r.0 = on ∙ ap (λ (zs : List ℕ). orig ++ zs) r.1 ∙ sym (append_assoc orig (v ∷ []) r.0) in
          goes t (orig ++ v ∷ []) orig refl on (next orig u v first r.0 ends prefix e s)

      start : Short (0 ∷ []) 0
      start = record {
        nodes = 0 ∷ [];
        walk = stay;
        kept = λ l has. kept_one 0 l;
        price = omega arith;
        tails = λ l has kept c tail. tail;
      }

      pub shortened : (w : ℕ) → Walk g 0 w whole → (ms : List ℕ) × Walk g 0 w ms × All (IsKept ms) loops × (price_of costs whole ≤ price_of costs ms)
      shortened w walk =
          let s = goes walk (0 ∷ []) [] refl refl start in
          (s.nodes, s.walk, all_from_contains (IsKept s.nodes) loops s.kept, s.price)
