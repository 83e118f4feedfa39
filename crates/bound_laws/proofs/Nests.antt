-- A graph whose edges begin at nodes that are reached has a nest.
use Rattle.std.proofs.Common.{◌≡◌, ℕ, zero, suc, ◌<◌, List, [], ◌∷◌, length, map, get_or, Contains, Option, Some, None, refl, sym, ap, ◌∙◌, subst, inl, inr, arith}
use Rattle.std.specs.Prelude.{MatchOption, slice_index, slice_index_or}
use Rattle.std.specs.List.Sorted.{IsStrictlyIncreasing}
use Rattle.std.proofs.lemmas.Bool.{cases_lt}
use Rattle.std.proofs.lemmas.List.Elements.{All-weaker, All-contains_itself}
use Rattle.lists.specs.Members.{at_head, in_tail, cons_cases, nil_contains}
use Rattle.loop_nest.specs.Digraph.{Digraph, IsDigraph}
use Rattle.loop_nest.specs.Walks.{Walk, IsReachable, IsHeader, IsMember}
use Rattle.loop_nest.specs.Walks.Walk.{stay, along}
use Rattle.loop_nest.specs.Nest.{NaturalLoop, headers_of, header_at, members_at, outers_of, IsLoopOf, IsAround, IsOutermost, IsNextOuter, IsNest}
use Rattle.loop_nest.specs.Laws.{LoopsAreNested}
use Rattle.loop_nest.proofs.Ends.{ends_within, walk_on}
use Rattle.method_runs.proofs.TypedGraphsLemmas.Choosing.{IsKept, kept, to_increasing, numbers_below, numbers_are, numbers_rise}
use Rattle.bound_laws.specs.Walking.{LeadsFromReached, NestsExist}
use Rattle.bound_laws.proofs.Choosing.{AreChosen, chosen}

-- ---- members are nodes

start_below : {g : Digraph} {u v : ℕ} {ns : List ℕ} → IsDigraph g → Walk g u v ns → v < g.nodes → u < g.nodes
start_below wf stay below = below
start_below wf (along {u} {v} e t) below = (ends_within wf u v e).0

member_within : {g : Digraph} (h x : ℕ) → IsDigraph g → IsMember g h x → x < g.nodes
member_within {g} h x wf (header, inl same) = let lt = (ends_within wf header.0 h header.1.edge).1 in omega arith
member_within {g} h x wf (header, inr r) = start_below wf r.leads.1 (ends_within wf r.source h r.back_edge.edge).0

-- ---- loops with other outer loops

with_outers : List NaturalLoop → List (Option ℕ) → List NaturalLoop
with_outers [] os = []
with_outers (l ∷ ls) [] = l ∷ ls
with_outers (l ∷ ls) (o ∷ os) = record { header = l.header; members = l.members; outer = o } ∷ with_outers ls os

same_headers : (ls : List NaturalLoop) (os : List (Option ℕ)) → headers_of (with_outers ls os) ≡ headers_of ls
unfolding with_outers
same_headers [] os = refl
same_headers (l ∷ ls) [] = refl
same_headers (l ∷ ls) (o ∷ os) = ap (λ (hs : List ℕ). l.header ∷ hs) (same_headers ls os)

same_members : (ls : List NaturalLoop) (os : List (Option ℕ)) → map {B = List ℕ} (λ (l : NaturalLoop). l.members) (with_outers ls os) ≡ map {B = List ℕ} (λ (l : NaturalLoop). l.members) ls
unfolding with_outers
same_members [] os = refl
same_members (l ∷ ls) [] = refl
same_members (l ∷ ls) (o ∷ os) = ap (λ (ms : List (List ℕ)). l.members ∷ ms) (same_members ls os)

same_length : (ls : List NaturalLoop) (os : List (Option ℕ)) → length (with_outers ls os) ≡ length ls
unfolding with_outers
same_length [] os = refl
same_length (l ∷ ls) [] = refl
same_length (l ∷ ls) (o ∷ os) = ap suc (same_length ls os)

outers_are : (ls : List NaturalLoop) (os : List (Option ℕ)) → length os ≡ length ls → outers_of (with_outers ls os) ≡ os
unfolding with_outers
outers_are [] [] long = refl
outers_are [] (o ∷ os) long = absurd (omega arith)
outers_are (l ∷ ls) [] long = absurd (omega arith)
outers_are (l ∷ ls) (o ∷ os) long = ap (λ (ps : List (Option ℕ)). o ∷ ps) (outers_are ls os (omega arith))

still_loops : (g : Digraph) (ls : List NaturalLoop) (os : List (Option ℕ)) → ((l : NaturalLoop) → Contains ls l → IsLoopOf g l) → (l : NaturalLoop) → Contains (with_outers ls os) l → IsLoopOf g l
unfolding with_outers
still_loops g [] os each l has = absurd (nil_contains l has)
still_loops g (k ∷ ks) [] each l has = each l has
still_loops g (k ∷ ks) (o ∷ os) each l has =
    let old = each k (at_head k ks) in
    elim (cons_cases (record { header = k.header; members = k.members; outer = o }) l (with_outers ks os) has) [
      | inl same ↦ subst (λ (x : NaturalLoop). IsLoopOf g x) same (record { header = old.header; rising = old.rising; members = old.members })
      | inr there ↦ still_loops g ks os (λ x c. each x (in_tail k x ks c)) l there
    ]

-- ---- the loop at a place

record IsLoopAt (g : Digraph) (ls : List NaturalLoop) (k : ℕ) : Type 0 where
  loop : NaturalLoop
  is : IsLoopOf g loop
  header : header_at ls k ≡ loop.header
  members : members_at ls k ≡ loop.members

loop_at : (g : Digraph) (ls : List NaturalLoop) → ((l : NaturalLoop) → Contains ls l → IsLoopOf g l) → (k : ℕ) → k < length ls → IsLoopAt g ls k
loop_at g [] each k lt = absurd (omega arith)
loop_at g (l ∷ ls) each zero lt = record { loop = l; is = each l (at_head l ls); header = refl; members = refl }
loop_at g (l ∷ ls) each (suc k) lt =
    let r = loop_at g ls (λ x c. each x (in_tail l x ls c)) k (omega arith) in
    record { loop = r.loop; is = r.is; header = r.header; members = r.members }

module _ (nested : LoopsAreNested) (g : Digraph) (wf : IsDigraph g) (reached : LeadsFromReached g) where
  pub header_reached : (h : ℕ) → IsHeader g h → IsReachable g h
  header_reached h (u, back) = let r = reached u h back.edge in walk_on r.1 (along back.edge stay)

  -- ---- headers and members

  loops_of : (hs : List ℕ) → ((h : ℕ) → Contains hs h → IsHeader g h) → ((ls : List NaturalLoop) × (headers_of ls ≡ hs) × ((l : NaturalLoop) → Contains ls l → IsLoopOf g l) → ⊥) → ⊥
  loops_of [] each none = none ([], refl, λ l c. absurd (nil_contains l c))
  loops_of (h ∷ hs) each none =
      loops_of hs (λ k c. each k (in_tail h k hs c)) (λ r. kept ◌<◌ (IsMember g h) (numbers_below g.nodes) (λ ms. none (more r.0 r.1 r.2 ms.0 ms.1)))
    where
      more : (ls : List NaturalLoop) → headers_of ls ≡ hs → ((l : NaturalLoop) → Contains ls l → IsLoopOf g l) → (ms : List ℕ) → IsKept ◌<◌ (IsMember g h) (numbers_below g.nodes) ms
          → (ls : List NaturalLoop) × (headers_of ls ≡ h ∷ hs) × ((l : NaturalLoop) → Contains ls l → IsLoopOf g l)
      more ls same loops ms is =
          let l : NaturalLoop = record { header = h; members = ms; outer = None } in
          let loop : IsLoopOf g l = record {
            header = each h (at_head h hs);
            rising = to_increasing ms (is.rises (numbers_rise g.nodes));
            members = λ x. (λ c. (is.each x c).1, λ m. is.all x (numbers_are g.nodes x (member_within h x wf m)) m);
          } in
          (l ∷ ls, ap (λ (ks : List ℕ). h ∷ ks) same, λ k c. elim (cons_cases l k ls c) [ inl e ↦ subst (λ (x : NaturalLoop). IsLoopOf g x) e loop | inr there ↦ loops k there ])

  -- ---- the next outer loops

  module _ (ls : List NaturalLoop) (loops : (l : NaturalLoop) → Contains ls l → IsLoopOf g l) where
    pub member_of : (k y : ℕ) → k < length ls → Contains (members_at ls k) y → IsMember g (header_at ls k) y
    member_of k y lt has =
        let r = loop_at g ls loops k lt in
        subst (λ (h : ℕ). IsMember g h y) (sym r.header) ((r.is.members y).0 (subst (λ (ms : List ℕ). Contains ms y) r.members has))

    pub of_member : (k y : ℕ) → k < length ls → IsMember g (header_at ls k) y → Contains (members_at ls k) y
    of_member k y lt m =
        let r = loop_at g ls loops k lt in
        subst (λ (ms : List ℕ). Contains ms y) (sym r.members) ((r.is.members y).1 (subst (λ (h : ℕ). IsMember g h y) r.header m))

    pub header_is : (k : ℕ) → k < length ls → IsHeader g (header_at ls k)
    header_is k lt = let r = loop_at g ls loops k lt in subst (λ (h : ℕ). IsHeader g h) (sym r.header) r.is.header

    -- among the first loops none is around loop i, or this one lies in each of them that is
    abbrev IsSoFar : (i count : ℕ) → Option ℕ → Type 0
    IsSoFar i count None = (k : ℕ) → k < count → IsAround ls i k → ⊥
    IsSoFar i count (Some j) = IsAround ls i j × ((k : ℕ) → k < count → IsAround ls i k → (y : ℕ) → IsMember g (header_at ls j) y → IsMember g (header_at ls k) y)

    not_around : (i count : ℕ) (o : Option ℕ) → IsSoFar i count o → (IsAround ls i count → ⊥) → IsSoFar i (suc count) o
    not_around i count None h never = λ k lt a. elim (cases_lt k count) [
      | inl below ↦ h k below a
      | inr last ↦ let same : k ≡ count = omega arith in never (subst (λ (x : ℕ). IsAround ls i x) same a)
    ]
    not_around i count (Some j) h never = (
      h.0,
      λ k lt a. elim (cases_lt k count) [
        | inl below ↦ h.1 k below a
        | inr last ↦ let same : k ≡ count = omega arith in absurd (never (subst (λ (x : ℕ). IsAround ls i x) same a))
      ],
    )

    around : (i count : ℕ) → i < length ls → (o : Option ℕ) → IsSoFar i count o → IsAround ls i count → (p : Option ℕ) × IsSoFar i (suc count) p
    around i count li None h a = (
      Some count,
      (
        a,
        λ k lt b. elim (cases_lt k count) [
          | inl below ↦ absurd (h k below b)
          | inr last ↦ let same : count ≡ k = omega arith in λ y m. subst (λ (x : ℕ). IsMember g (header_at ls x) y) same m
        ],
      ),
    )
    around i count li (Some j) h a =
        elim (nested g (header_at ls j) (header_at ls count) (header_at ls i) (header_reached (header_at ls i) (header_is i li)) (member_of j (header_at ls i) h.0.below h.0.member) (member_of count (header_at ls i) a.below a.member)) [
          | inl up ↦ (
            Some j,
            (
              h.0,
              λ k lt b. elim (cases_lt k count) [
                | inl below ↦ h.1 k below b
                | inr last ↦ let same : count ≡ k = omega arith in λ y m. subst (λ (x : ℕ). IsMember g (header_at ls x) y) same (up y m)
              ],
            ),
          )
          | inr down ↦ (
            Some count,
            (
              a,
              λ k lt b. elim (cases_lt k count) [
                | inl below ↦ λ y m. h.1 k below b y (down y m)
                | inr last ↦ let same : count ≡ k = omega arith in λ y m. subst (λ (x : ℕ). IsMember g (header_at ls x) y) same m
              ],
            ),
          )
        ]

    so_far : (i : ℕ) → i < length ls → (count : ℕ) → ((o : Option ℕ) × IsSoFar i count o → ⊥) → ⊥
    so_far i li zero none = none (None, λ k lt a. omega arith)
    so_far i li (suc count) none = so_far i li count (λ r. none (r.0, not_around i count r.0 r.1 (λ a. none (around i count li r.0 r.1 a))))

    is_outer : (i : ℕ) (o : Option ℕ) → IsSoFar i (length ls) o → MatchOption o (IsOutermost ls i) (IsNextOuter ls i)
    is_outer i None h = λ k a. h k a.below a
    is_outer i (Some j) h = record {
      around = h.0;
      next = λ k a. of_member k (header_at ls j) a.below (h.1 k a.below a (header_at ls j) (header_is j h.0.below, inl refl));
    }

    abbrev IsOuterOf : ℕ → Option ℕ → Type 0
    IsOuterOf i o = MatchOption o (IsOutermost ls i) (IsNextOuter ls i)

    outers : (AreChosen None IsOuterOf (length ls) → ⊥) → ⊥
    outers none = chosen None IsOuterOf (length ls) (λ i lt missing. so_far i lt (length ls) (λ r. missing (r.0, is_outer i r.0 r.1))) none

    -- ---- all

    module _ (os : List (Option ℕ)) (long : length os ≡ length ls) (each : (i : ℕ) → i < length ls → IsOuterOf i (get_or os i None)) where
      around_old : (i k : ℕ) → IsAround (with_outers ls os) i k → IsAround ls i k
      around_old i k a = record {
        below = (let lt = a.below in let e = same_length ls os in omega arith);
        other = a.other;
        member = subst (λ (hs : List ℕ). Contains (members_at ls k) (slice_index hs i)) (same_headers ls os)
            (subst (λ (ms : List (List ℕ)). Contains (slice_index_or ms k []) (header_at (with_outers ls os) i)) (same_members ls os) a.member);
      }

      around_new : (i k : ℕ) → IsAround ls i k → IsAround (with_outers ls os) i k
      around_new i k a = record {
        below = (let lt = a.below in let e = same_length ls os in omega arith);
        other = a.other;
        member = subst (λ (hs : List ℕ). Contains (members_at (with_outers ls os) k) (slice_index hs i)) (sym (same_headers ls os))
            (subst (λ (ms : List (List ℕ)). Contains (slice_index_or ms k []) (header_at ls i)) (sym (same_members ls os)) a.member);
      }

      outer_new : (i : ℕ) (o : Option ℕ) → MatchOption o (IsOutermost ls i) (IsNextOuter ls i) → MatchOption o (IsOutermost (with_outers ls os) i) (IsNextOuter (with_outers ls os) i)
      outer_new i None h = λ k a. h k (around_old i k a)
      outer_new i (Some j) h = record {
        around = around_new i j h.around;
        next = λ k a. subst (λ (hs : List ℕ). Contains (members_at (with_outers ls os) k) (slice_index hs j)) (sym (same_headers ls os))
            (subst (λ (ms : List (List ℕ)). Contains (slice_index_or ms k []) (header_at ls j)) (sym (same_members ls os)) (h.next k (around_old i k a)));
      }

      made : (hs : List ℕ) → headers_of ls ≡ hs → IsKept ◌<◌ (IsHeader g) (numbers_below g.nodes) hs → IsNest g (with_outers ls os)
      made hs same is = record {
        rising = subst (λ (ks : List ℕ). IsStrictlyIncreasing ks) (sym (same_headers ls os ∙ same)) (to_increasing hs (is.rises (numbers_rise g.nodes)));
        loops = All-weaker (Contains (with_outers ls os)) (IsLoopOf g) (still_loops g ls os loops) (with_outers ls os) (All-contains_itself (with_outers ls os));
        complete = λ h header. subst (λ (ks : List ℕ). Contains ks h) (sym (same_headers ls os ∙ same)) (is.all h (numbers_are g.nodes h (member_within h h wf (header, inl refl))) header);
        outer = λ i lt. let e = same_length ls os in
            subst (λ (ps : List (Option ℕ)). MatchOption (slice_index_or ps i None) (IsOutermost (with_outers ls os) i) (IsNextOuter (with_outers ls os) i)) (sym (outers_are ls os long))
            (outer_new i (get_or os i None) (each i (omega arith)));
      }

  pub nest_exists : ((nest : List NaturalLoop) × IsNest g nest → ⊥) → ⊥
  nest_exists none =
      kept ◌<◌ (IsHeader g) (numbers_below g.nodes) (λ hs. loops_of hs.0 (λ h c. (hs.1.each h c).1) (λ ls. outers ls.0 ls.2 (λ os. none (with_outers ls.0 os.items, made ls.0 ls.2 os.items os.long os.each hs.0 ls.1 hs.1))))

pub nests_exist : LoopsAreNested → NestsExist
nests_exist nested g wf reached = nest_exists nested g wf reached
