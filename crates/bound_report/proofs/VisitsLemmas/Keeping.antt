-- Stays in a loop, node by node: how often its header is come to again.
use Rattle.std.proofs.Common.{◌≡◌, ◌≢◌, ℕ, zero, suc, ◌+◌, ◌≤◌, Bool, true, false, ◌&&◌, not, cond, List, [], ◌∷◌, ◌++◌, append_assoc, Option, Some, None, Contains, refl, sym, ap, ap₂, ◌∙◌, subst, arith, inl, inr, eqb}
use Rattle.std.specs.Prelude.{◌==◌, if◌then◌else◌}
use Rattle.std.specs.Bool.{MatchBool}
use Rattle.std.proofs.lemmas.Bool.{cases_Bool, cases_eq, eqb-true, eq-eqb, ne_eqb, true≢false, false≢true, MatchBool-at_true, MatchBool-at_false}
use Rattle.std.proofs.lemmas.List.Elements.{All-contains}
use Rattle.lists.specs.Members.{at_head, in_tail, nil_contains}
use Rattle.section_check.specs.Bounded.{holds, entries_from, IsKept}
use Rattle.section_check.proofs.Elements.{holds_from_contains}
use Rattle.bound_report.proofs.VisitsLemmas.Expanding.{repeat, from_repeat, block, expand, times, times-cons}

-- what stands in the iterations before a visit is like it, where all of an iteration is like the header
pub in_block : (P : ℕ → ℕ → Type 0) (h : ℕ) (p : List ℕ) → ((x : ℕ) → Contains p x → P x h) → (n u x : ℕ) → Contains (block h p n u) x → P x u
in_block P h p alike n u x c = elim (cases_Bool (eqb u h)) [
  | inl e ↦ subst (λ (z : ℕ). P x z) (sym (eqb-true u h e)) (alike x (from_repeat n p x (subst (λ (t : Bool). Contains (cond t (repeat n p) []) x) e c)))
  | inr e ↦ absurd (nil_contains x (subst (λ (t : Bool). Contains (cond t (repeat n p) []) x) e c))
]

-- ---- entries

once : (t i : Bool) (n : ℕ) → (if t && not i then 1 else 0) + ((if t && not t then 1 else 0) + n) ≡ (if t && not i then 1 else 0) + n
once true true n = omega arith
once true false n = omega arith
once false i n = omega arith

module _ (members : List ℕ) where
  -- what is like a node before it enters with it
  entries_front : (inside : Bool) (xs : List ℕ) (u : ℕ) (rest : List ℕ) → ((x : ℕ) → Contains xs x → holds members x ≡ holds members u)
      → entries_from inside members (xs ++ (u ∷ rest)) ≡ entries_from inside members (u ∷ rest)
  entries_front inside [] u rest same = refl
  entries_front inside (x ∷ xs) u rest same =
      let alike : holds members x ≡ holds members u = same x (at_head x xs) in
      let later = entries_front (holds members x) xs u rest (λ y c. same y (in_tail x y xs c)) in
      ap (λ (n : ℕ). (if holds members x && not inside then 1 else 0) + n) later
      ∙ ap (λ (t : Bool). (if t && not inside then 1 else 0) + ((if holds members u && not t then 1 else 0) + entries_from (holds members u) members rest)) alike
      ∙ once (holds members u) inside (entries_from (holds members u) members rest)

  -- iterations of a loop that lies within the members or apart from them enter nothing more
  pub entries_expand : (h : ℕ) (p : List ℕ) → ((x : ℕ) → Contains p x → holds members x ≡ holds members h) → (n : ℕ) (inside : Bool) (us : List ℕ)
      → entries_from inside members (expand h p n us) ≡ entries_from inside members us
  entries_expand h p alike n inside [] = refl
  entries_expand h p alike n inside (u ∷ us) =
      entries_front inside (block h p n u) u (expand h p n us) (in_block (λ x z. holds members x ≡ holds members z) h p alike n u)
      ∙ ap (λ (k : ℕ). (if holds members u && not inside then 1 else 0) + k) (entries_expand h p alike n (holds members u) us)

-- ---- stays

-- how often the header was come to again in a stay, with one node more
abbrev pub again : Option ℕ → Bool → ℕ
again None here = 0
again (Some c) true = suc c
again (Some c) false = c

-- in each stay the header is come to again at most so often; at first in a stay that has come to it so often, or in none
abbrev pub Keeps : (members : List ℕ) (h bound : ℕ) (stay : Option ℕ) → List ℕ → Type 0
Keeps members h bound s [] = Unit {0}
Keeps members h bound s (u ∷ us) =
    MatchBool (holds members u) ((again s (u == h) ≤ bound) × Keeps members h bound (Some (again s (u == h))) us) (Keeps members h bound None us)

counted : (t : Bool) (c n bound : ℕ) → again (Some c) t + n ≤ bound → c + (cond t 1 0 + n) ≤ bound
counted true c n bound le = omega arith
counted false c n bound le = omega arith

module _ (members : List ℕ) (h bound : ℕ) where
  abbrev Inside : Option ℕ → ℕ → List ℕ → Type 0
  Inside s u us = (again s (u == h) ≤ bound) × Keeps members h bound (Some (again s (u == h))) us

  abbrev Outside : List ℕ → Type 0
  Outside us = Keeps members h bound None us

  inside_at : (s : Option ℕ) (u : ℕ) (us : List ℕ) → holds members u ≡ true → Keeps members h bound s (u ∷ us) → Inside s u us
  inside_at s u us e k = MatchBool-at_true (Inside s u us) (Outside us) e k

  outside_at : (s : Option ℕ) (u : ℕ) (us : List ℕ) → holds members u ≡ false → Keeps members h bound s (u ∷ us) → Outside us
  outside_at s u us e k = MatchBool-at_false (Inside s u us) (Outside us) e k

  stays : (s : Option ℕ) (u : ℕ) (us : List ℕ) → holds members u ≡ true → Inside s u us → Keeps members h bound s (u ∷ us)
  stays s u us e k = subst (λ (t : Bool). MatchBool t (Inside s u us) (Outside us)) (sym e) k

  leaves : (s : Option ℕ) (u : ℕ) (us : List ℕ) → holds members u ≡ false → Outside us → Keeps members h bound s (u ∷ us)
  leaves s u us e k = subst (λ (t : Bool). MatchBool t (Inside s u us) (Outside us)) (sym e) k

  behind : (before rest : List ℕ) (s : Option ℕ) → Keeps members h bound s (before ++ rest) → (t : Option ℕ) × Keeps members h bound t rest
  behind [] rest s k = (s, k)
  behind (u ∷ us) rest s k = elim (cases_Bool (holds members u)) [
    | inl e ↦ behind us rest (Some (again s (u == h))) (inside_at s u (us ++ rest) e k).1
    | inr e ↦ behind us rest None (outside_at s u (us ++ rest) e k)
  ]

  in_stay : (x : ℕ) (xs after : List ℕ) (s : Option ℕ) → ((y : ℕ) → Contains (x ∷ xs) y → Contains members y) → Keeps members h bound s (x ∷ (xs ++ after)) → again s (x == h) + times h xs ≤ bound
  in_stay x [] after s all k =
      let few = (inside_at s x after (holds_from_contains members x (all x (at_head x []))) k).0 in
      omega (arith, few)
  in_stay x (y ∷ ys) after s all k =
      let here = inside_at s x (y ∷ (ys ++ after)) (holds_from_contains members x (all x (at_head x (y ∷ ys)))) k in
      let later = in_stay y ys after (Some (again s (x == h))) (λ z c. all z (in_tail x z (y ∷ ys) c)) here.1 in
      let sum = counted (y == h) (again s (x == h)) (times h ys) bound later in
      subst (λ (n : ℕ). again s (x == h) + n ≤ bound) (sym (times-cons h y ys)) sum

  pub kept : (load : ℕ) (us : List ℕ) → Keeps members h bound None us → IsKept us (record { header = h; members = members; bound = bound; load = load })
  kept load us k before [] after split all = omega arith
  kept load us k before (x ∷ xs) after split all =
      let whole : us ≡ before ++ ((x ∷ xs) ++ after) = split ∙ append_assoc before (x ∷ xs) after in
      let there = behind before ((x ∷ xs) ++ after) None (subst (Keeps members h bound None) whole k) in
      let few = in_stay x xs after there.0 (λ y c. All-contains (Contains members) (x ∷ xs) y all c) there.1 in
      omega (arith, few)

  -- nodes like one that isn't the header come to it no more often
  front : (xs : List ℕ) (u : ℕ) (rest : List ℕ) (s : Option ℕ) → ((x : ℕ) → Contains xs x → (holds members x ≡ holds members u) × (x ≢ h)) → u ≢ h
      → Keeps members h bound s (u ∷ rest) → Keeps members h bound s (xs ++ (u ∷ rest))
  front [] u rest s alike other k = k
  front (x ∷ xs) u rest s alike other k =
      let a = alike x (at_head x xs) in
      let not_x : (x == h) ≡ false = ne_eqb x h a.1 in
      let not_u : (u == h) ≡ false = ne_eqb u h other in
      let alike' : (y : ℕ) → Contains xs y → (holds members y ≡ holds members u) × (y ≢ h) = λ y c. alike y (in_tail x y xs c) in
      elim (cases_Bool (holds members u)) [
        | inl e ↦
            let here = inside_at s u rest e k in
            let few : again s false ≤ bound = subst (λ (t : Bool). again s t ≤ bound) not_u here.0 in
            let more : Keeps members h bound (Some (again s false)) rest = subst (λ (t : Bool). Keeps members h bound (Some (again s t)) rest) not_u here.1 in
            let again_u : Keeps members h bound (Some (again s false)) (u ∷ rest) =
            stays (Some (again s false)) u rest e
            (subst (λ (t : Bool). (again (Some (again s false)) t ≤ bound) × Keeps members h bound (Some (again (Some (again s false)) t)) rest) (sym not_u) (few, more)) in
            let later : Keeps members h bound (Some (again s false)) (xs ++ (u ∷ rest)) = front xs u rest (Some (again s false)) alike' other again_u in
            stays s x (xs ++ (u ∷ rest)) (a.0 ∙ e)
            (subst (λ (t : Bool). (again s t ≤ bound) × Keeps members h bound (Some (again s t)) (xs ++ (u ∷ rest))) (sym not_x) (few, later))
        | inr e ↦ leaves s x (xs ++ (u ∷ rest)) (a.0 ∙ e) (front xs u rest None alike' other (leaves None u rest e (outside_at s u rest e k)))
      ]

  -- iterations of another loop that don't come to the header
  module _ (g : ℕ) (p : List ℕ) (alike : (x : ℕ) → Contains p x → holds members x ≡ holds members g) (apart : (x : ℕ) → Contains p x → x ≢ h) (other : g ≢ h) where
    with_block : (n u : ℕ) (rest : List ℕ) (s : Option ℕ) → Keeps members h bound s (u ∷ rest) → Keeps members h bound s (block g p n u ++ (u ∷ rest))
    with_block n u rest s k = elim (cases_Bool (eqb u g)) [
      | inl e ↦
          front (block g p n u) u rest s
          (λ x c. (in_block (λ x z. holds members x ≡ holds members z) g p alike n u x c, in_block (λ x z. x ≢ h) g p apart n u x c))
          (λ same. other (sym (eqb-true u g e) ∙ same)) k
      | inr e ↦ subst (λ (t : Bool). Keeps members h bound s (cond t (repeat n p) [] ++ (u ∷ rest))) (sym e) k
    ]

    pub keeps_expand : (n : ℕ) (s : Option ℕ) (us : List ℕ) → Keeps members h bound s us → Keeps members h bound s (expand g p n us)
    keeps_expand n s [] k = tt
    keeps_expand n s (u ∷ us) k = elim (cases_Bool (holds members u)) [
      | inl e ↦
          let here = inside_at s u us e k in
          with_block n u (expand g p n us) s (stays s u (expand g p n us) e (here.0, keeps_expand n (Some (again s (u == h))) us here.1))
      | inr e ↦ with_block n u (expand g p n us) s (leaves s u (expand g p n us) e (keeps_expand n None us (outside_at s u us e k)))
    ]

-- ---- a loop that is not gone round

-- the header is not come to from a member
abbrev pub Fresh : (members : List ℕ) (h : ℕ) (inside : Bool) → List ℕ → Type 0
Fresh members h inside [] = Unit {0}
Fresh members h inside (u ∷ us) = (inside ≡ true → u ≢ h) × Fresh members h (holds members u) us

-- from elsewhere the members are entered at the header
abbrev pub EntersAt : (members : List ℕ) (h : ℕ) (inside : Bool) → List ℕ → Type 0
EntersAt members h inside [] = Unit {0}
EntersAt members h inside (u ∷ us) = (inside ≡ false → holds members u ≡ true → u ≡ h) × EntersAt members h (holds members u) us

enters : (th inside tu : Bool) → (inside ≡ true → tu ≡ false) → (inside ≡ false → th ≡ true → tu ≡ true) → (tu ≡ true → th ≡ true) → if◌then◌else◌ {A = ℕ} (th && not inside) 1 0 ≡ if◌then◌else◌ {A = ℕ} tu 1 0
enters true true true f e o = absurd (true≢false (f refl))
enters true true false f e o = refl
enters true false true f e o = refl
enters true false false f e o = absurd (false≢true (e refl refl))
enters false inside true f e o = absurd (false≢true (o refl))
enters false inside false f e o = refl

module _ (members : List ℕ) (h : ℕ) (own : holds members h ≡ true) where
  -- then each visit of the header enters
  pub entries_fresh : (inside : Bool) (us : List ℕ) → Fresh members h inside us → EntersAt members h inside us → entries_from inside members us ≡ times h us
  entries_fresh inside [] f e = refl
  entries_fresh inside (u ∷ us) f e =
      ap₂ (λ (a b : ℕ). a + b)
      (enters (holds members u) inside (u == h) (λ i. ne_eqb u h (f.0 i)) (λ i t. eq-eqb u h (e.0 i t)) (λ t. ap (holds members) (eqb-true u h t) ∙ own))
      (entries_fresh (holds members u) us f.1 e.1)
      ∙ sym (times-cons h u us)

  fresh_join : (xs ys : List ℕ) (inside : Bool) → Fresh members h inside xs → ((b : Bool) → Fresh members h b ys) → Fresh members h inside (xs ++ ys)
  fresh_join [] ys inside f after = after inside
  fresh_join (x ∷ xs) ys inside f after = (f.0, fresh_join xs ys (holds members x) f.1 after)

  -- iterations of another loop keep it so
  module _ (g : ℕ) (r : List ℕ) (other : g ≢ h) (fresh : Fresh members h (holds members g) r) where
    fresh_repeat : (n : ℕ) (rest : List ℕ) → Fresh members h (holds members g) rest → (b : Bool) → Fresh members h b (repeat n (g ∷ r) ++ (g ∷ rest))
    fresh_repeat zero rest f b = (λ _. other, f)
    fresh_repeat (suc n) rest f b =
        subst (Fresh members h b) (sym (append_assoc (g ∷ r) (repeat n (g ∷ r)) (g ∷ rest)))
        (fresh_join (g ∷ r) (repeat n (g ∷ r) ++ (g ∷ rest)) b (λ _. other, fresh) (fresh_repeat n rest f))

    pub fresh_expand : (n : ℕ) (inside : Bool) (us : List ℕ) → Fresh members h inside us → Fresh members h inside (expand g (g ∷ r) n us)
    fresh_expand n inside [] f = tt
    fresh_expand n inside (u ∷ us) f =
        let later : Fresh members h (holds members u) (expand g (g ∷ r) n us) = fresh_expand n (holds members u) us f.1 in
        elim (cases_Bool (eqb u g)) [
          | inl e ↦
              let same : u ≡ g = eqb-true u g e in
              let there : Fresh members h inside (repeat n (g ∷ r) ++ (g ∷ expand g (g ∷ r) n us)) =
              fresh_repeat n (expand g (g ∷ r) n us) (subst (λ (z : ℕ). Fresh members h (holds members z) (expand g (g ∷ r) n us)) same later) inside in
              subst (λ (t : Bool). Fresh members h inside (cond t (repeat n (g ∷ r)) [] ++ (u ∷ expand g (g ∷ r) n us))) (sym e)
              (subst (λ (z : ℕ). Fresh members h inside (repeat n (g ∷ r) ++ (z ∷ expand g (g ∷ r) n us))) (sym same) there)
          | inr e ↦ subst (λ (t : Bool). Fresh members h inside (cond t (repeat n (g ∷ r)) [] ++ (u ∷ expand g (g ∷ r) n us))) (sym e) (f.0, later)
        ]

  -- with iterations of its own
  module _ (r : List ℕ) (inside_r : (x : ℕ) → Contains r x → holds members x ≡ true) (others : (x : ℕ) → Contains r x → x ≢ h) (bound : ℕ) where
    -- members that aren't the header
    run : (xs ys : List ℕ) (c : ℕ) → ((x : ℕ) → Contains xs x → (holds members x ≡ true) × (x ≢ h)) → c ≤ bound → Keeps members h bound (Some c) ys → Keeps members h bound (Some c) (xs ++ ys)
    run [] ys c all le k = k
    run (x ∷ xs) ys c all le k =
        let a = all x (at_head x xs) in
        let later : Keeps members h bound (Some c) (xs ++ ys) = run xs ys c (λ y d. all y (in_tail x y xs d)) le k in
        stays members h bound (Some c) x (xs ++ ys) a.0
        (subst (λ (t : Bool). (again (Some c) t ≤ bound) × Keeps members h bound (Some (again (Some c) t)) (xs ++ ys)) (sym (ne_eqb x h a.1)) (le, later))

    at_header : (s : Option ℕ) (ys : List ℕ) → again s true ≤ bound → Keeps members h bound (Some (again s true)) ys → Keeps members h bound s (h ∷ ys)
    at_header s ys le k =
        stays members h bound s h ys own (subst (λ (t : Bool). (again s t ≤ bound) × Keeps members h bound (Some (again s t)) ys) (sym (eq-eqb h h refl)) (le, k))

    laps : (n : ℕ) (s : Option ℕ) (rest : List ℕ) → again s true + n ≤ bound → Keeps members h bound (Some (again s true + n)) rest → Keeps members h bound s (repeat n (h ∷ r) ++ (h ∷ rest))
    laps zero s rest le k =
        let same : again s true + 0 ≡ again s true = omega arith in
        at_header s rest (omega arith) (subst (λ (c : ℕ). Keeps members h bound (Some c) rest) same k)
    laps (suc n) s rest le k =
        let c = again s true in
        let same : c + suc n ≡ suc c + n = omega arith in
        let later : Keeps members h bound (Some c) (repeat n (h ∷ r) ++ (h ∷ rest)) =
        laps n (Some c) rest (omega arith) (subst (λ (d : ℕ). Keeps members h bound (Some d) rest) same k) in
        subst (Keeps members h bound s) (sym (append_assoc (h ∷ r) (repeat n (h ∷ r)) (h ∷ rest)))
        (at_header s (r ++ (repeat n (h ∷ r) ++ (h ∷ rest))) (omega arith)
        (run r (repeat n (h ∷ r) ++ (h ∷ rest)) c (λ x d. (inside_r x d, others x d)) (omega arith) later))

    -- in a stay with room, or in none
    abbrev Fits : Bool → Option ℕ → Type 0
    Fits true (Some c) = c ≤ bound
    Fits true None = ⊥
    Fits false (Some c) = ⊥
    Fits false None = Unit {0}

    -- a node that isn't the header, with what follows it
    plain : (s : Option ℕ) (u : ℕ) (ys : List ℕ) → u ≢ h → again s false ≤ bound → (holds members u ≡ true → Keeps members h bound (Some (again s false)) ys)
        → (holds members u ≡ false → Keeps members h bound None ys) → Keeps members h bound s (u ∷ ys)
    plain s u ys other le stay_on leave = elim (cases_Bool (holds members u)) [
      | inl e ↦ stays members h bound s u ys e (subst (λ (t : Bool). (again s t ≤ bound) × Keeps members h bound (Some (again s t)) ys) (sym (ne_eqb u h other)) (le, stay_on e))
      | inr e ↦ leaves members h bound s u ys e (leave e)
    ]

    no_block : (s : Option ℕ) (u : ℕ) (ys : List ℕ) → u ≢ h → Keeps members h bound s (u ∷ ys) → Keeps members h bound s (block h (h ∷ r) bound u ++ (u ∷ ys))
    no_block s u ys other k = subst (λ (t : Bool). Keeps members h bound s (cond t (repeat bound (h ∷ r)) [] ++ (u ∷ ys))) (sym (ne_eqb u h other)) k

    own_expand : (inside : Bool) (s : Option ℕ) → Fits inside s → (us : List ℕ) → Fresh members h inside us → Keeps members h bound s (expand h (h ∷ r) bound us)
    own_expand inside s m [] f = tt
    own_expand true None m (u ∷ us) f = absurd m
    own_expand false (Some c) m (u ∷ us) f = absurd m
    own_expand true (Some c) m (u ∷ us) f =
        let ys = expand h (h ∷ r) bound us in
        no_block (Some c) u ys (f.0 refl)
        (plain (Some c) u ys (f.0 refl) m
        (λ e. own_expand true (Some c) m us (subst (λ (b : Bool). Fresh members h b us) e f.1))
        (λ e. own_expand false None tt us (subst (λ (b : Bool). Fresh members h b us) e f.1)))
    own_expand false None m (u ∷ us) f =
        let ys = expand h (h ∷ r) bound us in
        elim (cases_eq u h) [
          | inl same ↦
              let tail : Fresh members h true us = subst (λ (b : Bool). Fresh members h b us) (ap (holds members) same ∙ own) f.1 in
              let there : Keeps members h bound None (repeat bound (h ∷ r) ++ (h ∷ ys)) = laps bound None ys (omega arith) (own_expand true (Some (0 + bound)) (omega arith) us tail) in
              subst (λ (t : Bool). Keeps members h bound None (cond t (repeat bound (h ∷ r)) [] ++ (u ∷ ys))) (sym (eq-eqb u h same))
              (subst (λ (z : ℕ). Keeps members h bound None (repeat bound (h ∷ r) ++ (z ∷ ys))) (sym same) there)
          | inr other ↦
              no_block None u ys other
              (plain None u ys other (omega arith)
              (λ e. own_expand true (Some 0) (omega arith) us (subst (λ (b : Bool). Fresh members h b us) e f.1))
              (λ e. own_expand false None tt us (subst (λ (b : Bool). Fresh members h b us) e f.1)))
        ]

    pub keeps_own : (us : List ℕ) → Fresh members h false us → Keeps members h bound None (expand h (h ∷ r) bound us)
    keeps_own us f = own_expand false None tt us f

    none_expand : (inside : Bool) (s : Option ℕ) → Fits inside s → (us : List ℕ) → Fresh members h inside us → Keeps members h bound s us
    none_expand inside s m [] f = tt
    none_expand true None m (u ∷ us) f = absurd m
    none_expand false (Some c) m (u ∷ us) f = absurd m
    none_expand true (Some c) m (u ∷ us) f =
        plain (Some c) u us (f.0 refl) m
        (λ e. none_expand true (Some c) m us (subst (λ (b : Bool). Fresh members h b us) e f.1))
        (λ e. none_expand false None tt us (subst (λ (b : Bool). Fresh members h b us) e f.1))
    none_expand false None m (u ∷ us) f =
        elim (cases_eq u h) [
          | inl same ↦
              let tail : Fresh members h true us = subst (λ (b : Bool). Fresh members h b us) (ap (holds members) same ∙ own) f.1 in
              subst (λ (z : ℕ). Keeps members h bound None (z ∷ us)) (sym same) (at_header None us (omega arith) (none_expand true (Some 0) (omega arith) us tail))
          | inr other ↦
              plain None u us other (omega arith)
              (λ e. none_expand true (Some 0) (omega arith) us (subst (λ (b : Bool). Fresh members h b us) e f.1))
              (λ e. none_expand false None tt us (subst (λ (b : Bool). Fresh members h b us) e f.1))
        ]

  -- a walk that doesn't go round keeps each bound
  pub keeps_fresh : (bound : ℕ) (us : List ℕ) → Fresh members h false us → Keeps members h bound None us
  keeps_fresh bound us f = none_expand [] (λ x c. absurd (nil_contains x c)) (λ x c. absurd (nil_contains x c)) bound false None tt us f
