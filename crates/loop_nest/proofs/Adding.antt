-- The member lists of loops, node by node.
use Rattle.std.proofs.Common.{◌≡◌, ◌≢◌, ℕ, suc, ◌+◌, ◌-◌, ◌<◌, ◌↔◌, Bool, not, eqb, List, [], ◌∷◌, ◌++◌, length, get_or, set, map, filter, All, Contains, Option, Some, None, MatchOption, refl, sym, ap, ◌∙◌, subst, inl, inr, arith}
use Rattle.std.specs.List.Sorted.{IsStrictlyIncreasing}
use Rattle.std.proofs.lemmas.Bool.{cases_eq, cases_lt, eq-eqb, ne_eqb}
use Rattle.std.proofs.lemmas.List.{length-map, get_or-map, get_or_push, length_push, get_or_default, map-set, set-get_or, get_or-set_same, get_or-set_other}
use Rattle.std.proofs.lemmas.List.Elements.{All-get_or, All-from_get_or, Contains-append_left, Contains-push, Contains-push_cases, Contains-get_or}
use Rattle.loop_nest.specs.Digraph.{Digraph, IsDigraph}
use Rattle.loop_nest.specs.Walks.{IsHeader, IsMember}
use Rattle.loop_nest.specs.Entered.{AreAllReached}
use Rattle.loop_nest.specs.Nest.{NaturalLoop, headers_of, outers_of, header_at, members_at, outer_at, IsLoopOf, IsOutermost, IsNextOuter, IsNest}
use Rattle.loop_nest.specs.Nesting.{IsInnermost, HaveOuters, every_node, IsNesting, KeepsOutline, HaveMembersBelow, IsToCome, IsAddedOrNot, IsAdding}
use Rattle.loop_nest.proofs.Nested.{member_within}
use Rattle.loop_nest.proofs.Innermost.{own_member, one_header, around_members}
use Rattle.loop_nest.proofs.Rising.{same_place, rising_push}
use Rattle.loop_nest.proofs.Searching.{fewer-set}

pub same_length : (old new : List NaturalLoop) → headers_of new ≡ headers_of old → length new ≡ length old
same_length old new heads = sym (length-map new (λ (l : NaturalLoop). l.header)) ∙ ap length heads ∙ length-map old (λ (l : NaturalLoop). l.header)

-- whether x is not the last member of a loop
abbrev pub lacks : ℕ → NaturalLoop → Bool
lacks x l = not (eqb (get_or l.members (length l.members - 1) (suc x)) x)

-- how many loops have not x as their last member
pub lacking : ℕ → List NaturalLoop → ℕ
lacking x ls = length (filter (lacks x) ls)

last_below : (x : ℕ) (ms : List ℕ) → All (λ y. y < x) ms → get_or ms (length ms - 1) (suc x) ≢ x
last_below x [] below = λ e. let bad : ⊥ = omega arith in bad
last_below x (m ∷ ms) below = λ e. let lt = All-get_or (λ (y : ℕ). y < x) (m ∷ ms) (length (m ∷ ms) - 1) (suc x) (omega arith) below in let bad : ⊥ = omega arith in bad

pub lacking-set : (x m : ℕ) (ls : List NaturalLoop) (l : NaturalLoop) → m < length ls → l ≡ get_or ls m l → All (λ y. y < x) l.members → lacking x (set ls m (record l { members = l.members ++ x ∷ [] })) < lacking x ls
unfolding lacking
lacking-set x m ls l lt is below =
    let ms = l.members in
    let size = length_push ms x in
    let last : get_or (ms ++ x ∷ []) (length (ms ++ x ∷ []) - 1) (suc x) ≡ x = get_or_push ms x (suc x) (length (ms ++ x ∷ []) - 1) (omega arith) in
    fewer-set (lacks x) ls m (record l { members = ms ++ x ∷ [] }) l lt (ap (lacks x) (sym is) ∙ ap not (ne_eqb (get_or ms (length ms - 1) (suc x)) x (last_below x ms below))) (ap not (eq-eqb (get_or (ms ++ x ∷ []) (length (ms ++ x ∷ []) - 1) (suc x)) x last))

-- adding a member to loop m
module _ (x m : ℕ) (ls : List NaturalLoop) (l : NaturalLoop) (lt : m < length ls) (is : l ≡ get_or ls m l) where
  pub added_headers : headers_of (set ls m (record l { members = l.members ++ x ∷ [] })) ≡ headers_of ls
  added_headers =
      map-set (λ (y : NaturalLoop). y.header) ls m (record l { members = l.members ++ x ∷ [] })
      ∙ ap (λ (y : ℕ). set (headers_of ls) m y) (ap (λ (y : NaturalLoop). y.header) is ∙ sym (get_or-map (λ (y : NaturalLoop). y.header) ls m l 0 lt))
      ∙ set-get_or (headers_of ls) m 0

  pub added_outers : outers_of (set ls m (record l { members = l.members ++ x ∷ [] })) ≡ outers_of ls
  added_outers =
      map-set (λ (y : NaturalLoop). y.outer) ls m (record l { members = l.members ++ x ∷ [] })
      ∙ ap (λ (y : Option ℕ). set (outers_of ls) m y) (ap (λ (y : NaturalLoop). y.outer) is ∙ sym (get_or-map (λ (y : NaturalLoop). y.outer) ls m l None lt))
      ∙ set-get_or (outers_of ls) m None

  pub added_members : members_at (set ls m (record l { members = l.members ++ x ∷ [] })) m ≡ members_at ls m ++ x ∷ []
  added_members =
      ap (λ (yss : List (List ℕ)). get_or yss m []) (map-set (λ (y : NaturalLoop). y.members) ls m (record l { members = l.members ++ x ∷ [] }))
      ∙ get_or-set_same (map (λ (y : NaturalLoop). y.members) ls) m (l.members ++ x ∷ []) [] (let e = length-map ls (λ (y : NaturalLoop). y.members) in omega arith)
      ∙ ap (λ (ys : List ℕ). ys ++ x ∷ []) (ap (λ (y : NaturalLoop). y.members) is ∙ sym (get_or-map (λ (y : NaturalLoop). y.members) ls m l [] lt))

  pub added_others : (n : ℕ) → n ≢ m → members_at (set ls m (record l { members = l.members ++ x ∷ [] })) n ≡ members_at ls n
  added_others n other =
      ap (λ (yss : List (List ℕ)). get_or yss n []) (map-set (λ (y : NaturalLoop). y.members) ls m (record l { members = l.members ++ x ∷ [] }))
      ∙ get_or-set_other (map (λ (y : NaturalLoop). y.members) ls) m n (l.members ++ x ∷ []) [] other

module _ (g : Digraph) (wf : IsDigraph g) (reached : AreAllReached g) (x : ℕ) (old : List NaturalLoop) where
  pub adding_start : (o : Option ℕ) → IsInnermost g every_node (headers_of old) x o → IsAdding g x old old o
  adding_start None h = record {
    outline = record { headers = refl; outers = refl };
    goes_on = tt;
    each = λ n lt. inr (λ mem. h (header_at old n) tt mem, refl);
  }
  adding_start (Some m) h = record {
    outline = record { headers = refl; outers = refl };
    goes_on = (let lt = h.0 in omega (arith, length-map old (λ (l : NaturalLoop). l.header)), h.2);
    each = λ n lt. inr (λ mem. h.3 (header_at old n) tt mem, refl);
  }

  behind : (n m : ℕ) (o : Option ℕ) → IsInnermost g (λ k. every_node k × (k ≢ header_at old m)) (headers_of old) (header_at old m) o → IsToCome g old n o → IsMember g (header_at old n) (header_at old m)
  behind n m None h to_come = absurd to_come
  behind n m (Some p) h to_come = around_members g wf reached (header_at old n) (header_at old p) (header_at old m) to_come h.2

  ahead : (n m : ℕ) (o : Option ℕ) → header_at old n ≢ header_at old m → IsInnermost g (λ k. every_node k × (k ≢ header_at old m)) (headers_of old) (header_at old m) o → IsMember g (header_at old n) (header_at old m) → IsToCome g old n o
  ahead n m None apart h mem = h (header_at old n) (tt, apart) mem
  ahead n m (Some p) apart h mem = h.3 (header_at old n) (tt, apart) mem

  tried : (m : ℕ) (o : Option ℕ) → IsInnermost g (λ k. every_node k × (k ≢ header_at old m)) (headers_of old) (header_at old m) o → IsToCome g old m o → ⊥
  tried m None h to_come = to_come
  tried m (Some p) h to_come = h.1.1 (sym (one_header g wf reached (header_at old m) (header_at old p) to_come h.2))

  on_to : (m : ℕ) (o : Option ℕ) → IsInnermost g (λ k. every_node k × (k ≢ header_at old m)) (headers_of old) (header_at old m) o → IsMember g (header_at old m) x → MatchOption o (Unit {0}) (λ p. (p < length old) × IsMember g (header_at old p) x)
  on_to m None h mem = tt
  on_to m (Some p) h mem =
      (let lt = h.0 in omega (arith, length-map old (λ (l : NaturalLoop). l.header)), around_members g wf reached (header_at old p) (header_at old m) x h.2 mem)

  pub adding_more : (m : ℕ) (o : Option ℕ) (new new' : List NaturalLoop) → IsStrictlyIncreasing (headers_of old) → IsInnermost g (λ k. every_node k × (k ≢ header_at old m)) (headers_of old) (header_at old m) o → KeepsOutline old new' → members_at new' m ≡ members_at new m ++ x ∷ [] → ((n : ℕ) → n ≢ m → members_at new' n ≡ members_at new n) → IsAdding g x old new (Some m) → IsAdding g x old new' o
  adding_more m o new new' rising inner outline here others a =
      let lt_m = a.goes_on.0 in
      let mem_m = a.goes_on.1 in
      let many = length-map old (λ (l : NaturalLoop). l.header) in
      record {
        outline = outline;
        goes_on = on_to m o inner mem_m;
        each = λ n lt.
            elim (cases_eq n m) [
              | inl same ↦
                  let P : ℕ → Type 0 = λ z. IsAddedOrNot g x old new' o z in
                  subst P (sym same) (
                  elim (a.each m lt_m) [
                    | inl done ↦ absurd (done.1 (own_member g (header_at old m) mem_m.0))
                    | inr waits ↦ inl (mem_m, tried m o inner, here ∙ ap (λ (ys : List ℕ). ys ++ x ∷ []) waits.1)
                  ])
              | inr other ↦
                  let apart : header_at old n ≢ header_at old m = λ e. other (same_place (headers_of old) rising n m (omega arith) (omega arith) e) in
                  elim (a.each n lt) [
                    | inl done ↦ inl (done.0, λ to_come. done.1 (behind n m o inner to_come), others n other ∙ done.2)
                    | inr waits ↦ inr (λ mem. ahead n m o apart inner (waits.0 mem), others n other ∙ waits.1)
                  ]
            ];
      }

  -- a loop that x is still to be added to has members below x
  pub still_below : (m : ℕ) (new : List NaturalLoop) → HaveMembersBelow g x old → IsAdding g x old new (Some m) → All (λ y. y < x) (members_at new m)
  still_below m new below a =
      let lt = a.goes_on.0 in
      let P : List ℕ → Type 0 = λ ms. All (λ y. y < x) ms in
      elim (a.each m lt) [
        | inl done ↦ absurd (done.1 (own_member g (header_at old m) a.goes_on.1.0))
        | inr waits ↦
            subst P (sym waits.1) (All-from_get_or (λ y. y < x) (members_at old m) 0 (λ i inside.
            ((below.each m (get_or (members_at old m) i 0) lt).0 (Contains-get_or (members_at old m) i 0 inside)).0))
      ]

  pub adding_ends : (new : List NaturalLoop) → HaveMembersBelow g x old → IsAdding g x old new None → HaveMembersBelow g (x + 1) new
  adding_ends new below a =
      let size = same_length old new a.outline.headers in
      record {
        rising = λ n lt.
            let P : List ℕ → Type 0 = λ ms. IsStrictlyIncreasing ms in
            let before = below.rising n (omega arith) in
            elim (a.each n (omega arith)) [
              | inl done ↦
                  subst P (sym done.2) (rising_push (members_at old n) x before (All-from_get_or (λ y. y < x) (members_at old n) 0 (λ i inside.
                  ((below.each n (get_or (members_at old n) i 0) (omega arith)).0 (Contains-get_or (members_at old n) i 0 inside)).0)))
              | inr waits ↦ subst P (sym waits.1) before
            ];
        each = λ n y lt.
            let head : header_at new n ≡ header_at old n = ap (λ (hs : List ℕ). get_or hs n 0) a.outline.headers in
            let P : ℕ → Type 0 = λ h. Contains (members_at new n) y ↔ ((y < x + 1) × IsMember g h y) in
            let Q : List ℕ → Type 0 = λ ms. Contains ms y ↔ ((y < x + 1) × IsMember g (header_at old n) y) in
            let before = below.each n y (omega arith) in
            let R : ℕ → Type 0 = λ z. IsMember g (header_at old n) z in
            subst P (sym head) (
            elim (a.each n (omega arith)) [
              | inl done ↦
                  subst Q (sym done.2) (
                    λ has.
                        elim (Contains-push_cases (members_at old n) x y has) [
                          | inl was ↦ let b = before.0 was in let less = b.0 in (omega arith, b.1)
                          | inr same ↦ (let e = same in omega arith, subst R same done.0)
                        ],
                    λ b.
                        let lt' = b.0 in
                        elim (cases_lt y x) [
                          | inl less ↦ Contains-append_left (members_at old n) (x ∷ []) y (before.1 (less, b.1))
                          | inr more ↦
                              let same : x ≡ y = omega arith in
                              let S : ℕ → Type 0 = λ z. Contains (members_at old n ++ x ∷ []) z in
                              subst S same (Contains-push (members_at old n) x)
                        ],
                  )
              | inr waits ↦
                  subst Q (sym waits.1) (
                    λ has. let b = before.0 has in let less = b.0 in (omega arith, b.1),
                    λ b.
                        let lt' = b.0 in
                        elim (cases_lt y x) [
                          | inl less ↦ before.1 (less, b.1)
                          | inr more ↦ let same : y ≡ x = omega arith in absurd (waits.0 (subst R same b.1))
                        ],
                  )
            ]);
      }

-- before the first node
pub no_members : (g : Digraph) (ls : List NaturalLoop) → All (λ l. l.members ≡ []) ls → HaveMembersBelow g 0 ls
no_members g ls none =
    let empty : (n : ℕ) → n < length ls → members_at ls n ≡ [] =
    λ n lt.
    let d : NaturalLoop = record { header = 0; members = []; outer = None } in
    get_or-map (λ (l : NaturalLoop). l.members) ls n d [] lt ∙ All-get_or (λ (l : NaturalLoop). l.members ≡ []) ls n d lt none in
    record {
      rising = λ n lt. let P : List ℕ → Type 0 = λ ms. IsStrictlyIncreasing ms in subst P (sym (empty n lt)) (λ i below. absurd (omega arith));
      each = λ n y lt.
          let P : List ℕ → Type 0 = λ ms. Contains ms y ↔ ((y < 0) × IsMember g (header_at ls n) y) in
          subst P (sym (empty n lt)) (λ has. let below = has.1 in absurd (omega arith), λ b. let below = b.0 in absurd (omega arith));
    }

module _ (g : Digraph) (wf : IsDigraph g) (new : List NaturalLoop) (rising : IsStrictlyIncreasing (headers_of new)) (members : HaveMembersBelow g g.nodes new) where
  many : length (headers_of new) ≡ length new
  many = length-map new (λ (l : NaturalLoop). l.header)

  in_loop : (n y : ℕ) → n < length new → IsMember g (header_at new n) y → Contains (members_at new n) y
  in_loop n y lt mem = (members.each n y lt).1 (member_within (header_at new n) y wf mem, mem)

  apart : (i k : ℕ) → i < length new → k < length new → k ≢ i → header_at new k ≢ header_at new i
  apart i k li lk other = λ e. let e' = many in other (same_place (headers_of new) rising k i (omega arith) (omega arith) e)

  pub outer_is : (i : ℕ) (o : Option ℕ) → i < length new → IsInnermost g (λ k. every_node k × (k ≢ header_at new i)) (headers_of new) (header_at new i) o → MatchOption o (IsOutermost new i) (IsNextOuter new i)
  outer_is i None lt h = λ k a. h (header_at new k) (tt, apart i k lt a.below a.other) ((members.each k (header_at new i) a.below).0 a.member).1
  outer_is i (Some j) lt h =
      let e = many in
      let lt_j = h.0 in
      let short : j < length new = omega arith in
      record {
        around = record { below = short; other = λ same. h.1.1 (ap (λ (z : ℕ). header_at new z) same); member = in_loop j (header_at new i) short h.2 };
        next = λ k a. in_loop k (header_at new j) a.below (h.3 (header_at new k) (tt, apart i k lt a.below a.other) ((members.each k (header_at new i) a.below).0 a.member).1);
      }

pub nest_of : (g : Digraph) (old new : List NaturalLoop) (marks : List (Option ℕ)) → IsDigraph g → IsNesting g old marks → KeepsOutline old new → HaveMembersBelow g g.nodes new → IsNest g new
nest_of g old new marks wf nesting keeps members =
    let heads = keeps.headers in
    let d : NaturalLoop = record { header = 0; members = []; outer = None } in
    let P : List ℕ → Type 0 = λ hs. IsStrictlyIncreasing hs in
    let rising = subst P (sym heads) nesting.headers.rising in
    let Q : List ℕ → Type 0 = λ hs. All (IsHeader g) hs in
    let headers = subst Q (sym heads) nesting.headers.headers in
    let many = length-map new (λ (l : NaturalLoop). l.header) in
    let R : List ℕ → Type 0 = λ hs. HaveOuters g every_node hs (outers_of new) in
    let S : List (Option ℕ) → Type 0 = λ os. HaveOuters g every_node (headers_of old) os in
    let outers = subst R (sym heads) (subst S (sym keeps.outers) nesting.outers) in
    record {
      rising = rising;
      loops = All-from_get_or (IsLoopOf g) new d (λ i lt.
          let l = get_or new i d in
          let hs : header_at new i ≡ l.header = get_or-map (λ (y : NaturalLoop). y.header) new i d 0 lt in
          let ms : members_at new i ≡ l.members = get_or-map (λ (y : NaturalLoop). y.members) new i d [] lt in
          let A : ℕ → Type 0 = λ h. IsHeader g h in
          let B : List ℕ → Type 0 = λ xs. IsStrictlyIncreasing xs in
          let C : List ℕ → Type 0 = λ xs. (x : ℕ) → Contains xs x ↔ IsMember g (header_at new i) x in
          let D : ℕ → Type 0 = λ h. (x : ℕ) → Contains l.members x ↔ IsMember g h x in
          record {
            header = subst A hs (All-get_or (IsHeader g) (headers_of new) i 0 (omega arith) headers);
            rising = subst B ms (members.rising i lt);
            members = subst D hs (subst C ms (λ x. (λ has. ((members.each i x lt).0 has).1, λ mem. (members.each i x lt).1 (member_within (header_at new i) x wf mem, mem))));
          });
      complete = λ h header.
          let below = member_within h h wf (own_member g h header) in
          let n = nesting.headers.numbered h below header in
          let lt = n.0 in
          let old_many = length-map old (λ (l : NaturalLoop). l.header) in
          let T : List ℕ → Type 0 = λ hs. Contains hs h in
          let k = get_or nesting.numbers h 0 in
          let inside : k < length (headers_of old) = omega arith in
          subst T (sym heads) (k, inside, get_or_default (headers_of old) k h 0 inside ∙ n.1);
      outer = λ i lt. outer_is g wf new rising members i (outer_at new i) lt (outers i (omega arith) tt);
    }
