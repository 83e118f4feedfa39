-- A walk that visits nodes of a loop at most so often from each entry of the loop to the next visits them at most so often for each time that it comes among
-- the members from elsewhere.
use Rattle.std.proofs.Common.{◌≡◌, ℕ, ◌+◌, ◌*◌, ◌≤◌, ◌&&◌, ◌⊎◌, not, Bool, true, false, cond, List, [], ◌∷◌, ◌++◌, All, Contains, refl, sym, ap, ◌∙◌, subst, inl, inr, arith, append_assoc}
use Rattle.std.proofs.lemmas.Bool.{cases_eq, cases_lt, cond-false, false_from_ne_true}
use Rattle.std.proofs.lemmas.List.Sums.{sum_by-cons}
use Rattle.std.proofs.lemmas.List.Elements.{All-contains}
use Rattle.lists.specs.Members.{heads, tails, at_head, in_tail, cons_cases, nil_contains, has_or_not}
use Rattle.loop_nest.specs.Digraph.{Digraph, Edge}
use Rattle.loop_nest.specs.Walks.{Walk, Dominates, IsBackEdge}
use Rattle.loop_nest.proofs.SimpleWalks.{begins, walk_until}
use Rattle.section_check.specs.Bounded.{holds, entries_from, entries}
use Rattle.section_check.specs.Section.{priced}
use Rattle.section_check.proofs.Elements.{contains_from_holds, holds_from_contains}
use Rattle.priced_sections.specs.Visits.{visits_of, KeepsPer}
use Rattle.priced_sections.specs.Laws.{EntriesCount}
use Rattle.priced_sections.proofs.Sound.{sound}
use Rattle.priced_sections.proofs.Dominating.{AreJoined, walk_joined, header_dominates, back_edge}

no_more : (ys : List ℕ) (u : ℕ) (rest : List ℕ) → [] ≡ ys ++ u ∷ rest → ⊥
no_more [] u rest is = cc
no_more (y ∷ ys) u rest is = cc

-- an item of a list with one more at its end is that one or was there before
append_cases : (xs : List ℕ) (v h : ℕ) → Contains (xs ++ v ∷ []) h → Contains xs h ⊎ (v ≡ h)
append_cases [] v h c = elim (cons_cases v h [] c) [ inl same ↦ inr same | inr there ↦ absurd (nil_contains h there) ]
append_cases (x ∷ xs) v h c =
    elim (cons_cases x h (xs ++ v ∷ []) c) [
      | inl same ↦ inl (let P : ℕ → Type 0 = λ y. Contains (x ∷ xs) y in subst P same (at_head x xs))
      | inr there ↦ elim (append_cases xs v h there) [ inl earlier ↦ inl (in_tail x h xs earlier) | inr last ↦ inr last ]
    ]

-- what holds in both cases holds, of numbers
by_cases : (P : Type 0) (a b : ℕ) → (P → a ≤ b) → ((P → ⊥) → a ≤ b) → a ≤ b
by_cases P a b under anew =
    elim (cases_lt b a) [
      | inl less ↦ anew (λ p. let r = under p in let bad : ⊥ = omega arith in bad)
      | inr not_less ↦ omega arith
    ]

more_entries : (b : Bool) (m e : ℕ) → m * e ≤ m * (cond b 1 0 + e)
more_entries true m e = omega arith
more_entries false m e = omega arith

no_end : (zs : List ℕ) (z : ℕ) → [] ≡ zs ++ z ∷ [] → ⊥
no_end [] z is = cc
no_end (a ∷ more) z is = cc

-- lists that end alike have the same last item
same_end : (xs ys : List ℕ) (x y : ℕ) → xs ++ x ∷ [] ≡ ys ++ y ∷ [] → x ≡ y
same_end [] [] x y e = cc
same_end [] (b ∷ bs) x y e = absurd (no_end bs y (tails x b [] (bs ++ y ∷ []) e))
same_end (a ∷ more) [] x y e = absurd (no_end more x (sym (tails a y (more ++ x ∷ []) [] e)))
same_end (a ∷ more) (b ∷ bs) x y e = same_end more bs x y (tails a b (more ++ x ∷ []) (bs ++ y ∷ []) e)

module _ (part : Digraph) (h : ℕ) (ms nodes : List ℕ) (most : ℕ) where
  abbrev pub at : ℕ → ℕ
  at u = cond (holds nodes u) 1 0

  -- going on from u over these nodes, the walk comes to h by back edges alone
  abbrev pub StaysFrom : ℕ → List ℕ → Type 0
  StaysFrom u [] = Unit {0}
  StaysFrom u (v ∷ t) = (v ≡ h → IsBackEdge part u h) × StaysFrom v t

  takes_back : (x u : ℕ) (t before after : List ℕ) → StaysFrom u t → u ∷ t ≡ before ++ x ∷ h ∷ after → IsBackEdge part x h
  takes_back x u [] [] after stays is = absurd (let e : [] ≡ h ∷ after = tails u x [] (h ∷ after) is in cc)
  takes_back x u [] (b ∷ bs) after stays is = absurd (no_more bs x (h ∷ after) (tails u b [] (bs ++ x ∷ h ∷ after) is))
  takes_back x u (v ∷ t) [] after stays is =
      let first : u ≡ x = heads u x (v ∷ t) (h ∷ after) is in
      let next : v ≡ h = heads v h t after (tails u x (v ∷ t) (h ∷ after) is) in
      let P : ℕ → Type 0 = λ y. IsBackEdge part y h in
      subst P first (stays.0 next)
  takes_back x u (v ∷ t) (b ∷ bs) after stays is = takes_back x v t bs after stays.1 (tails u b (v ∷ t) (bs ++ x ∷ h ∷ after) is)

  -- from here on the walk keeps the fact, where its nodes were visited so often since the loop was entered
  pub record KeptFrom (visited u : ℕ) (rest : List ℕ) : Type 0 where
    pub now : (tail after : List ℕ) → rest ≡ tail ++ after → StaysFrom u tail → visited + visits_of nodes tail ≤ most
    pub later : (pre : List ℕ) (x : ℕ) (tail after : List ℕ) → u ∷ rest ≡ pre ++ x ∷ h ∷ (tail ++ after) → (IsBackEdge part x h → ⊥) → StaysFrom h tail → visits_of nodes (h ∷ tail) ≤ most

  visits-cons : (v : ℕ) (t : List ℕ) → visits_of nodes (v ∷ t) ≡ at v + visits_of nodes t
  visits-cons v t = sum_by-cons at v t

  kept_on : (visited u v : ℕ) (t : List ℕ) → KeptFrom visited u (v ∷ t) → (v ≡ h → IsBackEdge part u h) → KeptFrom (visited + at v) v t
  kept_on visited u v t kept stays = record {
    now = λ tail after is on. let most_now = kept.now (v ∷ tail) after (ap (λ (zs : List ℕ). v ∷ zs) is) (stays, on) in omega (arith, visits-cons v tail);
    later = λ pre x tail after is anew on. kept.later (u ∷ pre) x tail after (ap (λ (zs : List ℕ). u ∷ zs) is) anew on;
  }

  kept_anew : (visited u v : ℕ) (t : List ℕ) → KeptFrom visited u (v ∷ t) → v ≡ h → (IsBackEdge part u h → ⊥) → KeptFrom (at v) v t
  kept_anew visited u v t kept same entering = record {
    now = λ tail after is on.
        let P : ℕ → Type 0 = λ y. StaysFrom y tail in
        let Q : ℕ → Type 0 = λ y. visits_of nodes (y ∷ tail) ≤ most in
        let placed : u ∷ v ∷ t ≡ u ∷ h ∷ (tail ++ after) = ap (λ (zs : List ℕ). u ∷ v ∷ zs) is ∙ ap (λ (y : ℕ). u ∷ y ∷ (tail ++ after)) same in
        let most_now = subst Q (sym same) (kept.later [] u tail after placed entering (subst P same on)) in
        omega (arith, visits-cons v tail);
    later = λ pre x tail after is anew on. kept.later (u ∷ pre) x tail after (ap (λ (zs : List ℕ). u ∷ zs) is) anew on;
  }

  module _ (own : Contains ms h) (entered : (u v : ℕ) → Edge part u v → Contains ms v → (Contains ms u → ⊥) → v ≡ h) (back : (u : ℕ) → Contains ms u → Edge part u h → IsBackEdge part u h) (within : All (Contains ms) nodes) where
    abbrev later_entries : ℕ → List ℕ → ℕ
    later_entries u rest = entries_from (holds ms u) ms rest

    holds_not : (u : ℕ) → (Contains ms u → ⊥) → holds ms u ≡ false
    holds_not u out = false_from_ne_true (holds ms u) (λ t. out (contains_from_holds ms u t))

    entries_more : (u v : ℕ) (t : List ℕ) → most * later_entries v t ≤ most * later_entries u (v ∷ t)
    entries_more u v t = more_entries (holds ms v && not (holds ms u)) most (later_entries v t)

    entries_in : (u v : ℕ) (t : List ℕ) → Contains ms v → (Contains ms u → ⊥) → most * later_entries u (v ∷ t) ≡ most + most * later_entries v t
    entries_in u v t inside outside =
        let P : (a b : Bool) → Type 0 = λ a b. most * (cond (a && not b) 1 0 + entries_from a ms t) ≡ most + most * entries_from a ms t in
        let Q : Bool → Type 0 = λ a. P a (holds ms u) in
        let R : Bool → Type 0 = λ b. P true b in
        subst Q (sym (holds_from_contains ms v inside)) (subst R (sym (holds_not u outside)) (omega arith))

    -- what is visited since the loop was entered, and later
    count_on : (visited u : ℕ) (rest : List ℕ) → AreJoined part (u ∷ rest) → KeptFrom visited u rest → visited + visits_of nodes rest ≤ most + most * later_entries u rest
    count_on visited u [] joined kept = let most_now = kept.now [] [] refl tt in omega arith
    count_on visited u (v ∷ t) joined kept =
        let more = entries_more u v t in
        let cons = visits-cons v t in
        elim (cases_eq v h) [
          | inr other ↦ let on = count_on (visited + at v) v t joined.1 (kept_on visited u v t kept (λ same. absurd (other same))) in omega arith
          | inl same ↦
              let edge : Edge part u h = let P : ℕ → Type 0 = λ y. Edge part u y in subst P same joined.0 in
              by_cases (IsBackEdge part u h) (visited + visits_of nodes (v ∷ t)) (most + most * later_entries u (v ∷ t))
              (λ again. let on = count_on (visited + at v) v t joined.1 (kept_on visited u v t kept (λ s. again)) in omega arith)
              (λ entering.
              let inside : Contains ms v = let P : ℕ → Type 0 = λ y. Contains ms y in subst P (sym same) own in
              let one = entries_in u v t inside (λ in_u. entering (back u in_u edge)) in
              let now = kept.now [] (v ∷ t) refl tt in
              let on = count_on (at v) v t joined.1 (kept_anew visited u v t kept same entering) in
              omega arith)
        ]

    not_at : (v : ℕ) → (Contains ms v → ⊥) → at v ≡ 0
    not_at v out = cond-false (holds nodes v) 1 0 (false_from_ne_true (holds nodes v) (λ t. out (All-contains (Contains ms) nodes v within (contains_from_holds nodes v t))))

    module _ (last : ℕ) (ns : List ℕ) (walk : Walk part 0 last ns) (dominates : (u : ℕ) → Contains ms u → Dominates part h u) (keeps : KeepsPer part h nodes most ns) where
      segment_keeps : (before tail after : List ℕ) → ns ≡ before ++ h ∷ (tail ++ after) → ((earlier : List ℕ) (u : ℕ) → before ≡ earlier ++ u ∷ [] → IsBackEdge part u h → ⊥) → StaysFrom h tail → visits_of nodes (h ∷ tail) ≤ most
      segment_keeps before tail after is enters on =
          keeps (h ∷ tail) (record {
            before = before;
            further = tail;
            after = after;
            part_is = refl;
            split = is;
            enters = enters;
            stays = λ u takes. takes_back u h tail takes.0 takes.1 on takes.2;
          })

      later_keeps : (pre : List ℕ) (x : ℕ) (tail after : List ℕ) → ns ≡ pre ++ x ∷ h ∷ (tail ++ after) → (IsBackEdge part x h → ⊥) → StaysFrom h tail → visits_of nodes (h ∷ tail) ≤ most
      later_keeps pre x tail after is anew on =
          segment_keeps (pre ++ x ∷ []) tail after (is ∙ simp append_assoc)
          (λ earlier u same again. let P : ℕ → Type 0 = λ y. IsBackEdge part y h in anew (subst P (sym (same_end pre earlier x u same)) again)) on

      -- as long as the walk hasn't come to h it is outside
      outside : (before : List ℕ) (u : ℕ) (rest : List ℕ) → ns ≡ before ++ u ∷ rest → (Contains (before ++ u ∷ []) h → ⊥) → Contains ms u → ⊥
      outside before u rest is none inside = none (dominates u inside (before ++ u ∷ []) (walk_until walk before u rest is))

      no_back : (before : List ℕ) (u : ℕ) (rest : List ℕ) → ns ≡ before ++ u ∷ rest → (Contains (before ++ u ∷ []) h → ⊥) → IsBackEdge part u h → ⊥
      no_back before u rest is none again = none (again.dominates (before ++ u ∷ []) (walk_until walk before u rest is))

      count_before : (before : List ℕ) (u : ℕ) (rest : List ℕ) → ns ≡ before ++ u ∷ rest → (Contains (before ++ u ∷ []) h → ⊥) → AreJoined part (u ∷ rest) → visits_of nodes rest ≤ most * later_entries u rest
      count_before before u [] is none joined = omega arith
      count_before before u (v ∷ t) is none joined =
          let cons = visits-cons v t in
          let out = outside before u (v ∷ t) is none in
          elim (has_or_not ms v) [
            | inl inside ↦
                let same = entered u v joined.0 inside out in
                let one = entries_in u v t inside out in
                let kept : KeptFrom (at v) v t =
                record {
                  now = λ tail after at_t on.
                      let P : ℕ → Type 0 = λ y. StaysFrom y tail in
                      let Q : ℕ → Type 0 = λ y. visits_of nodes (y ∷ tail) ≤ most in
                      let placed : ns ≡ before ++ u ∷ h ∷ (tail ++ after) = is ∙ ap (λ (zs : List ℕ). before ++ u ∷ v ∷ zs) at_t ∙ ap (λ (y : ℕ). before ++ u ∷ y ∷ (tail ++ after)) same in
                      let now = subst Q (sym same) (later_keeps before u tail after placed (no_back before u (v ∷ t) is none) (subst P same on)) in
                      omega (arith, visits-cons v tail);
                  later = λ pre x tail after at_t anew on.
                      later_keeps (before ++ u ∷ pre) x tail after (is ∙ ap (λ (zs : List ℕ). before ++ u ∷ zs) at_t ∙ simp append_assoc) anew on;
                }
                in
                let on = count_on (at v) v t joined.1 kept in
                omega arith
            | inr outside_v ↦
                let more = entries_more u v t in
                let zero_here = not_at v outside_v in
                let next : ns ≡ (before ++ u ∷ []) ++ v ∷ t = is ∙ simp append_assoc in
                let still : Contains ((before ++ u ∷ []) ++ v ∷ []) h → ⊥ = λ came.
                elim (append_cases (before ++ u ∷ []) v h came) [
                  | inl earlier ↦ none earlier
                  | inr here ↦ outside_v (let P : ℕ → Type 0 = λ y. Contains ms y in subst P (sym here) own)
                ]
                in
                let on = count_before (before ++ u ∷ []) v t next still joined.1 in
                omega arith
          ]

      pub count_all : (rest : List ℕ) → ns ≡ 0 ∷ rest → AreJoined part (0 ∷ rest) → (Contains ms 0 → h ≡ 0) → visits_of nodes ns ≤ most * entries ms ns
      count_all rest is joined entry =
          let P : List ℕ → Type 0 = λ zs. visits_of nodes zs ≤ most * entries ms zs in
          let cons = visits-cons 0 rest in
          subst P (sym is)
          (elim (has_or_not ms 0) [
            | inl inside ↦
                let same = entry inside in
                let one : most * entries ms (0 ∷ rest) ≡ most + most * later_entries 0 rest =
                let Q : Bool → Type 0 = λ a. most * (cond (a && true) 1 0 + entries_from a ms rest) ≡ most + most * entries_from a ms rest in
                subst Q (sym (holds_from_contains ms 0 inside)) (omega arith)
                in
                let kept : KeptFrom (at 0) 0 rest =
                record {
                  now = λ tail after at_t on.
                      let R : ℕ → Type 0 = λ y. StaysFrom y tail in
                      let S : ℕ → Type 0 = λ y. visits_of nodes (y ∷ tail) ≤ most in
                      let placed : ns ≡ [] ++ h ∷ (tail ++ after) = is ∙ ap (λ (zs : List ℕ). 0 ∷ zs) at_t ∙ ap (λ (y : ℕ). y ∷ (tail ++ after)) (sym same) in
                      let now = subst S same (segment_keeps [] tail after placed (λ earlier u none again. no_end earlier u none) (subst R (sym same) on)) in
                      omega (arith, visits-cons 0 tail);
                  later = λ pre x tail after at_t anew on. later_keeps pre x tail after (is ∙ at_t) anew on;
                }
                in
                let on = count_on (at 0) 0 rest joined kept in
                omega arith
            | inr out ↦
                let none : most * entries ms (0 ∷ rest) ≡ most * later_entries 0 rest =
                let Q : Bool → Type 0 = λ a. most * (cond (a && true) 1 0 + entries_from a ms rest) ≡ most * entries_from a ms rest in
                subst Q (sym (holds_not 0 out)) (omega arith)
                in
                let never : Contains ([] ++ 0 ∷ []) h → ⊥ = λ came.
                elim (cons_cases 0 h [] came) [ inl at_h ↦ out (let Q : ℕ → Type 0 = λ y. Contains ms y in subst Q (sym at_h) own) | inr there ↦ nil_contains h there ]
                in
                let zero_here = not_at 0 out in
                let on = count_before [] 0 rest is never joined in
                omega arith
          ])

pub entries_count : EntriesCount
entries_count g part c bounds loads placed sub l nodes most last ns has inside walk keeps =
    let ls = priced c.loops bounds loads in
    let s = sound g c bounds loads placed in
    let b = begins walk in
    let P : List ℕ → Type 0 = λ zs. AreJoined part zs in
    count_all part l.certified.header l.certified.members nodes most (s.own l has) (λ u v e in_v out_u. s.entered l u v has (sub u v e) in_v out_u)
    (back_edge g part ls s sub l has) inside last ns walk (header_dominates g part ls s sub l has) keeps b.0 b.1 (subst P b.1 (walk_joined walk)) (s.entry l has)
