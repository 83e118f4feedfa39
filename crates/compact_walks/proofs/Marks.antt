-- Marks of nodes that loops hold, loop by loop.
use Rattle.std.proofs.Common.{◌≡◌, ◌≢◌, ℕ, zero, suc, ◌+◌, ◌<◌, ◌⊎◌, Bool, true, false, not, ◌&&◌, List, [], ◌∷◌, ◌++◌, length, map, get_or, set, replicate, Contains, ◌≤◌, refl, sym, ap, ◌∙◌, subst, inl, inr, arith}
use Rattle.std.specs.Prelude.{◌↔◌, MatchBool}
use Rattle.std.specs.List.Sorted.{IsStrictlyIncreasing}
use Rattle.std.proofs.lemmas.Bool.{cases_Bool, cases_eq, cases_lt, both_ways}
use Rattle.std.proofs.lemmas.List.{length-set, get_or-set_same, get_or-set_other, length-map, get_or_push, get_or_append_left, get_or_past, length_push}
use Rattle.std.proofs.lemmas.List.Elements.{Contains-append_left, Contains-push, Contains-push_cases}
use Rattle.loop_nest.specs.Nest.{NaturalLoop, headers_of, header_at, members_at}
use Rattle.lists.specs.Members.{map_contains}
use Rattle.loop_nest.proofs.Elements.{from_map}
use Rattle.loop_nest.proofs.Rising.{same_place}
use Rattle.path_solver.specs.Reaching.{IsFlagged}
use Rattle.compact_walks.specs.Charging.{AreMarked, AreMarkedBut, IsInFlagged, IsInnerIn, AreInner, AreHeld, IsOutermostOf, AreOutermost}

-- ---- one mark more

set_flags : (marks : List Bool) (v u : ℕ) → v < length marks → (IsFlagged (set marks v true) u → IsFlagged marks u ⊎ (v ≡ u)) × (IsFlagged marks u ⊎ (v ≡ u) → IsFlagged (set marks v true) u)
set_flags marks v u lt =
    elim (cases_eq u v) [
      | inl same ↦ (
        λ f. inr (sym same),
        λ f. ap (λ (k : ℕ). get_or (set marks v true) k false) same ∙ get_or-set_same marks v true false lt,
      )
      | inr other ↦
          let is = get_or-set_other marks v u true false other in (
            λ f. inl (sym is ∙ f),
            λ f. elim f [ inl old ↦ is ∙ old | inr same ↦ absurd (other (sym same)) ],
          )
    ]

pub marked_more : (us : List ℕ) (old new : List Bool) (v : ℕ) → AreMarked us old new → v < length new → AreMarked (us ++ v ∷ []) old (set new v true)
marked_more us old new v m lt = record {
  long = length-set new v true ∙ m.long;
  each = λ u.
      let s = set_flags new v u lt in (
        λ f. elim (s.0 f) [
          | inl before ↦ elim ((m.each u).0 before) [ inl old' ↦ inl old' | inr has ↦ inr (Contains-append_left us (v ∷ []) u has) ]
          | inr same ↦ inr (subst (λ (z : ℕ). Contains (us ++ v ∷ []) z) same (Contains-push us v))
        ],
        λ f. s.1 (elim f [
          | inl old' ↦ inl ((m.each u).1 (inl old'))
          | inr has ↦ elim (Contains-push_cases us v u has) [ inl before ↦ inl ((m.each u).1 (inr before)) | inr same ↦ inr same ]
        ]),
      );
}

pub marked_but_more : (us : List ℕ) (out : ℕ) (old new : List Bool) (v : ℕ) → AreMarkedBut us out old new → v < length new → out ≢ v → AreMarkedBut (us ++ v ∷ []) out old (set new v true)
marked_but_more us out old new v m lt other = record {
  long = length-set new v true ∙ m.long;
  each = λ u.
      let s = set_flags new v u lt in (
        λ f. elim (s.0 f) [
          | inl before ↦ elim ((m.each u).0 before) [ inl old' ↦ inl old' | inr has ↦ inr (Contains-append_left us (v ∷ []) u has.0, has.1) ]
          | inr same ↦ inr (subst (λ (z : ℕ). Contains (us ++ v ∷ []) z × (out ≢ z)) same (Contains-push us v, other))
        ],
        λ f. s.1 (elim f [
          | inl old' ↦ inl ((m.each u).1 (inl old'))
          | inr has ↦ elim (Contains-push_cases us v u has.0) [ inl before ↦ inl ((m.each u).1 (inr (before, has.1))) | inr same ↦ inr same ]
        ]),
      );
}

pub marked_but_same : (us : List ℕ) (out : ℕ) (old new : List Bool) (v : ℕ) → AreMarkedBut us out old new → out ≡ v → AreMarkedBut (us ++ v ∷ []) out old new
marked_but_same us out old new v m is = record {
  long = m.long;
  each = λ u. (
    λ f. elim ((m.each u).0 f) [ inl old' ↦ inl old' | inr has ↦ inr (Contains-append_left us (v ∷ []) u has.0, has.1) ],
    λ f. elim f [
      | inl old' ↦ (m.each u).1 (inl old')
      | inr has ↦ elim (Contains-push_cases us v u has.0) [ inl before ↦ (m.each u).1 (inr (before, has.1)) | inr same ↦ absurd (has.1 (is ∙ same)) ]
    ],
  );
}

-- ---- one loop more

-- loop k of a list with one more behind is one of the others
record IsBefore (ls : List NaturalLoop) (l : NaturalLoop) (fs : List Bool) (f : Bool) (k : ℕ) : Type 0 where
  below : k < length ls
  members : members_at (ls ++ l ∷ []) k ≡ members_at ls k
  header : header_at (ls ++ l ∷ []) k ≡ header_at ls k
  flag : get_or (fs ++ f ∷ []) k false ≡ get_or fs k false

-- or the last one
record IsLast (ls : List NaturalLoop) (l : NaturalLoop) (fs : List Bool) (f : Bool) (k : ℕ) : Type 0 where
  place : k ≡ length ls
  members : members_at (ls ++ l ∷ []) k ≡ l.members
  header : header_at (ls ++ l ∷ []) k ≡ l.header
  flag : get_or (fs ++ f ∷ []) k false ≡ f

place_of : (ls : List NaturalLoop) (l : NaturalLoop) (fs : List Bool) (f : Bool) → length fs ≡ length ls → (k : ℕ) → k < length ls + 1 → IsBefore ls l fs f k ⊎ IsLast ls l fs f k
place_of [] l [] f long zero lt = inr (record { place = refl; members = refl; header = refl; flag = refl })
place_of [] l [] f long (suc k) lt = absurd (omega arith)
place_of [] l (x ∷ fs) f long k lt = absurd (omega arith)
place_of (y ∷ ls) l [] f long k lt = absurd (omega arith)
place_of (y ∷ ls) l (x ∷ fs) f long zero lt = inl (record { below = omega arith; members = refl; header = refl; flag = refl })
place_of (y ∷ ls) l (x ∷ fs) f long (suc k) lt =
    elim (place_of ls l fs f (omega arith) k (omega arith)) [
      | inl b ↦ inl (record { below = (let lt' = b.below in omega arith); members = b.members; header = b.header; flag = b.flag })
      | inr e ↦ inr (record { place = ap suc e.place; members = e.members; header = e.header; flag = e.flag })
    ]

module _ (ls : List NaturalLoop) (l : NaturalLoop) (fs : List Bool) (f : Bool) (long : length fs ≡ length ls) where
  before_at : (k : ℕ) → k < length ls → IsBefore ls l fs f k
  before_at k lt = elim (place_of ls l fs f long k (omega arith)) [ inl b ↦ b | inr e ↦ (let p = e.place in absurd (omega arith)) ]

  last_at : IsLast ls l fs f (length ls)
  last_at = elim (place_of ls l fs f long (length ls) (omega arith)) [ inl b ↦ (let lt = b.below in absurd (omega arith)) | inr e ↦ e ]

  longer : (k : ℕ) → k < length (ls ++ l ∷ []) → k < length ls + 1
  longer k lt = omega (arith, length_push ls l)

  inner_cases : (u : ℕ) → IsInnerIn (ls ++ l ∷ []) (fs ++ f ∷ []) u → IsInnerIn ls fs u ⊎ ((f ≡ true) × Contains l.members u × (l.header ≢ u))
  inner_cases u i =
      elim (place_of ls l fs f long i.index (longer i.index i.below)) [
        | inl b ↦ inl (record {
          index = i.index;
          below = b.below;
          flagged = sym b.flag ∙ i.flagged;
          inside = subst (λ (us : List ℕ). Contains us u) b.members i.inside;
          not_header = subst (λ (z : ℕ). z ≢ u) b.header i.not_header;
        })
        | inr e ↦ inr (sym e.flag ∙ i.flagged, subst (λ (us : List ℕ). Contains us u) e.members i.inside, subst (λ (z : ℕ). z ≢ u) e.header i.not_header)
      ]

  inner_kept : (u : ℕ) → IsInnerIn ls fs u → IsInnerIn (ls ++ l ∷ []) (fs ++ f ∷ []) u
  inner_kept u i =
      let b = before_at i.index i.below in
      let lt = i.below in
      record {
        index = i.index;
        below = omega (arith, length_push ls l);
        flagged = b.flag ∙ i.flagged;
        inside = subst (λ (us : List ℕ). Contains us u) (sym b.members) i.inside;
        not_header = subst (λ (z : ℕ). z ≢ u) (sym b.header) i.not_header;
      }

  inner_new : (u : ℕ) → f ≡ true → Contains l.members u → l.header ≢ u → IsInnerIn (ls ++ l ∷ []) (fs ++ f ∷ []) u
  inner_new u yes' has other =
      let e = last_at in
      record {
        index = length ls;
        below = omega (arith, length_push ls l);
        flagged = e.flag ∙ yes';
        inside = subst (λ (us : List ℕ). Contains us u) (sym e.members) has;
        not_header = subst (λ (z : ℕ). z ≢ u) (sym e.header) other;
      }

  flagged_cases : (u : ℕ) → IsInFlagged (ls ++ l ∷ []) (fs ++ f ∷ []) u → IsInFlagged ls fs u ⊎ ((f ≡ true) × Contains l.members u)
  flagged_cases u i =
      elim (place_of ls l fs f long i.index (longer i.index i.below)) [
        | inl b ↦ inl (record { index = i.index; below = b.below; flagged = sym b.flag ∙ i.flagged; inside = subst (λ (us : List ℕ). Contains us u) b.members i.inside })
        | inr e ↦ inr (sym e.flag ∙ i.flagged, subst (λ (us : List ℕ). Contains us u) e.members i.inside)
      ]

  flagged_kept : (u : ℕ) → IsInFlagged ls fs u → IsInFlagged (ls ++ l ∷ []) (fs ++ f ∷ []) u
  flagged_kept u i =
      let b = before_at i.index i.below in
      let lt = i.below in
      record { index = i.index; below = omega (arith, length_push ls l); flagged = b.flag ∙ i.flagged; inside = subst (λ (us : List ℕ). Contains us u) (sym b.members) i.inside }

  flagged_new : (u : ℕ) → f ≡ true → Contains l.members u → IsInFlagged (ls ++ l ∷ []) (fs ++ f ∷ []) u
  flagged_new u yes' has =
      let e = last_at in
      record { index = length ls; below = omega (arith, length_push ls l); flagged = e.flag ∙ yes'; inside = subst (λ (us : List ℕ). Contains us u) (sym e.members) has }

  -- the marks of inner nodes, where the loop isn't flagged, and where it is
  pub inner_same : (size : ℕ) (marks : List Bool) → f ≡ false → AreInner ls fs size marks → AreInner (ls ++ l ∷ []) (fs ++ f ∷ []) size marks
  inner_same size marks no' a = record {
    long = a.long;
    each = λ u. (
      λ m. inner_kept u ((a.each u).0 m),
      λ i. (a.each u).1 (elim (inner_cases u i) [ inl before ↦ before | inr new ↦ absurd (both_ways f no' new.0) ]),
    );
  }

  pub inner_more : (size : ℕ) (marks more : List Bool) → f ≡ true → AreInner ls fs size marks → AreMarkedBut l.members l.header marks more → AreInner (ls ++ l ∷ []) (fs ++ f ∷ []) size more
  inner_more size marks more yes' a m = record {
    long = m.long ∙ a.long;
    each = λ u. (
      λ k. elim ((m.each u).0 k) [ inl old ↦ inner_kept u ((a.each u).0 old) | inr has ↦ inner_new u yes' has.0 has.1 ],
      λ i. (m.each u).1 (elim (inner_cases u i) [ inl before ↦ inl ((a.each u).1 before) | inr new ↦ inr (new.1, new.2) ]),
    );
  }

  -- the same of the nodes that have these other numbers
  pub held_same : (node : ℕ → ℕ) (size : ℕ) (marks : List Bool) → f ≡ false → AreHeld node ls fs size marks → AreHeld node (ls ++ l ∷ []) (fs ++ f ∷ []) size marks
  held_same node size marks no' a = record {
    long = a.long;
    each = λ x. (
      λ m. let r = (a.each x).0 m in (r.0, flagged_kept r.0 r.1, r.2),
      λ i. (a.each x).1 (elim (flagged_cases i.0 i.1) [ inl before ↦ (i.0, before, i.2) | inr new ↦ absurd (both_ways f no' new.0) ]),
    );
  }

  pub held_more : (node : ℕ → ℕ) (size : ℕ) (marks more : List Bool) → f ≡ true → AreHeld node ls fs size marks → AreMarked (map node l.members) marks more → AreHeld node (ls ++ l ∷ []) (fs ++ f ∷ []) size more
  held_more node size marks more yes' a m = record {
    long = m.long ∙ a.long;
    each = λ x. (
      λ k. elim ((m.each x).0 k) [
        | inl old ↦ (let r = (a.each x).0 old in (r.0, flagged_kept r.0 r.1, r.2))
        | inr has ↦ (let r = from_map node l.members x has in (r.0, flagged_new r.0 yes' r.1, r.2))
      ],
      λ i. (m.each x).1 (elim (flagged_cases i.0 i.1) [
        | inl before ↦ inl ((a.each x).1 (i.0, before, i.2))
        | inr new ↦ inr (subst (λ (z : ℕ). Contains (map node l.members) z) i.2 (map_contains node l.members i.0 new.1))
      ]),
    );
  }

-- where a loop more is flagged, and where it isn't
pub inner_next : (ls : List NaturalLoop) (l : NaturalLoop) (fs : List Bool) (f : Bool) → length fs ≡ length ls → (size : ℕ) (marks more : List Bool) → AreInner ls fs size marks
    → MatchBool f (AreMarkedBut l.members l.header marks more) (more ≡ marks) → AreInner (ls ++ l ∷ []) (fs ++ f ∷ []) size more
inner_next ls l fs true long size marks more a m = inner_more ls l fs true long size marks more refl a m
inner_next ls l fs false long size marks more a m = subst (λ (ms : List Bool). AreInner (ls ++ l ∷ []) (fs ++ false ∷ []) size ms) (sym m) (inner_same ls l fs false long size marks refl a)

pub held_next : (node : ℕ → ℕ) (ls : List NaturalLoop) (l : NaturalLoop) (fs : List Bool) (f : Bool) → length fs ≡ length ls → (size : ℕ) (marks more : List Bool) → AreHeld node ls fs size marks
    → MatchBool f (AreMarked (map node l.members) marks more) (more ≡ marks) → AreHeld node (ls ++ l ∷ []) (fs ++ f ∷ []) size more
held_next node ls l fs true long size marks more a m = held_more ls l fs true long node size marks more refl a m
held_next node ls l fs false long size marks more a m = subst (λ (ms : List Bool). AreHeld node (ls ++ l ∷ []) (fs ++ false ∷ []) size ms) (sym m) (held_same ls l fs false long node size marks refl a)

no_mark : (n u : ℕ) → get_or (replicate n false) u false ≡ false
no_mark zero u = refl
no_mark (suc n) zero = refl
no_mark (suc n) (suc u) = no_mark n u

-- before all loops nothing is marked
pub inner_none : (size : ℕ) (marks : List Bool) → length marks ≡ size → ((u : ℕ) → get_or marks u false ≡ false) → AreInner [] [] size marks
inner_none size marks long none = record { long = long; each = λ u. (λ m. absurd (both_ways (get_or marks u false) (none u) m), λ i. let lt = i.below in absurd (omega arith)) }

pub held_none : (node : ℕ → ℕ) (size : ℕ) (marks : List Bool) → length marks ≡ size → ((u : ℕ) → get_or marks u false ≡ false) → AreHeld node [] [] size marks
held_none node size marks long none = record { long = long; each = λ x. (λ m. absurd (both_ways (get_or marks x false) (none x) m), λ i. let lt = i.1.below in absurd (omega arith)) }

-- ---- outermost loops

-- flags of so many loops, and one more
pub flags_more : (Q : ℕ → Type 0) (flags : List Bool) (b : Bool) (i : ℕ) → length flags ≡ i → ((k : ℕ) → k < i → IsFlagged flags k ↔ Q k) → (b ≡ true) ↔ Q i
    → (length (flags ++ b ∷ []) ≡ i + 1) × ((k : ℕ) → k < i + 1 → IsFlagged (flags ++ b ∷ []) k ↔ Q k)
flags_more Q flags b i long each last = (
  omega (arith, length_push flags b),
  λ k lt. elim (cases_eq k i) [
    | inl same ↦
        let at = get_or_push flags b false k (long ∙ sym same) in
        (λ f. subst Q (sym same) (last.0 (sym at ∙ f)), λ q. at ∙ last.1 (subst Q same q))
    | inr other ↦
        let at = get_or_append_left flags (b ∷ []) false k (omega arith) in
        let e = each k (omega arith) in
        (λ f. e.0 (sym at ∙ f), λ q. at ∙ e.1 q)
  ],
)

-- flags of all loops
pub flags_all : (ls : List NaturalLoop) (candidates flags : List Bool) (i : ℕ) → length candidates ≡ length ls → length ls ≤ i → (length flags ≡ i) × ((k : ℕ) → k < i → IsFlagged flags k ↔ IsOutermostOf ls candidates k)
    → i ≤ length ls → AreOutermost ls candidates flags
flags_all ls candidates flags i long end h most =
    let size = h.0 in
    record {
      long = omega arith;
      each = λ k.
          elim (cases_lt k (length ls)) [
            | inl lt ↦ h.1 k (omega arith)
            | inr past ↦ (
              λ f. absurd (both_ways (get_or flags k false) (get_or_past flags k false (omega arith)) f),
              λ q. absurd (both_ways (get_or candidates k false) (get_or_past candidates k false (omega arith)) q.candidate),
            )
          ];
    }

left_true : (x y : Bool) → (x && y) ≡ true → x ≡ true
left_true true y e = refl
left_true false y e = e

right_not : (x y : Bool) → (x && not y) ≡ true → y ≡ false
right_not true true e = sym e
right_not true false e = refl
right_not false true e = absurd (both_ways false refl e)
right_not false false e = refl

both_true : (x y : Bool) → x ≡ true → y ≡ false → (x && not y) ≡ true
both_true true y e e' = ap not e'
both_true false y e e' = e

-- a candidate is outermost where no other one has its header
pub outermost_at : (ls : List NaturalLoop) (candidates inner : List Bool) (size i : ℕ) → i < length ls → IsStrictlyIncreasing (headers_of ls) → AreInner ls candidates size inner
    → (get_or candidates i false && not (get_or inner (header_at ls i) false) ≡ true) ↔ IsOutermostOf ls candidates i
outermost_at ls candidates inner size i lt rising a = (out, back)
  where
    long : length (headers_of ls) ≡ length ls
    long = length-map ls (λ (l : NaturalLoop). l.header)

    out : get_or candidates i false && not (get_or inner (header_at ls i) false) ≡ true → IsOutermostOf ls candidates i
    out is = record {
      candidate = left_true (get_or candidates i false) (not (get_or inner (header_at ls i) false)) is;
      outermost = λ k around candidate.
          let below = around.below in
          let apart : header_at ls k ≢ header_at ls i = λ same. around.other (same_place (headers_of ls) rising k i (omega (arith, long)) (omega (arith, long)) same) in
          let inside = (a.each (header_at ls i)).1 (record { index = k; below = below; flagged = candidate; inside = around.member; not_header = apart }) in
          both_ways (get_or inner (header_at ls i) false) (right_not (get_or candidates i false) (get_or inner (header_at ls i) false) is) inside;
    }

    back : IsOutermostOf ls candidates i → get_or candidates i false && not (get_or inner (header_at ls i) false) ≡ true
    back is =
        elim (cases_Bool (get_or inner (header_at ls i) false)) [
          | inl yes' ↦
              let r = (a.each (header_at ls i)).0 yes' in
              absurd (is.outermost r.index (record { below = r.below; other = λ same. r.not_header (ap (header_at ls) same); member = r.inside }) r.flagged)
          | inr no' ↦ both_true (get_or candidates i false) (get_or inner (header_at ls i) false) is.candidate no'
        ]
