-- What is told of what a local variable holds is so.
use Rattle.std.proofs.Common.{◌≡◌, ◌≢◌, ℕ, ◌*◌, ◌<◌, ℤ, false, List, [], length, set, Contains, Option, Some, None, refl, sym, ap, ◌∙◌, subst, inl, inr, arith}
use Rattle.std.specs.Prelude.{IsTrue}
use Rattle.std.proofs.lemmas.Bool.{both_ways, cases_eq}
use Rattle.std.proofs.lemmas.List.{length-set, get_or-set_same, get_or-set_other}
use Rattle.lists.proofs.Lemmas.{none≢some, some_same}
use Rattle.lists.specs.Members.{at_head, nil_contains}
use Rattle.bytecode_model.specs.Program.{Program}
use Rattle.method_flow.specs.Nodes.{Node, At, IsEdge, IsReached}
use Rattle.code_lines.specs.Lines.{Writes}
use Rattle.code_lines.specs.Laws.{LinesAreOne}
use Rattle.loop_rules.specs.Further.Known.{Known}
use Rattle.loop_rules.specs.Further.Writing.{NodeWrites, MayBeLast}
use Rattle.loop_rules.specs.Further.Writing.MayBeLast.{here, unwritten, before}
use Rattle.loop_rules.specs.Further.Laws.{LastWritesExist}
use Rattle.loop_rules.specs.Further.Last.{AreNearest, StopsAtWrites}
use Rattle.loop_rules.specs.declared.further.writes.LastWrites.{LastWrites}
use Rattle.loop_rules.specs.declared.further.table.KnownInt.{KnownInt}
use Rattle.loop_rules.specs.Further.Found.{Table, known_at}
use Rattle.known_ints.specs.declared.parts.Part.{Part}
use Rattle.known_ints.specs.declared.parts.Part.TheVariants as does
use Rattle.known_ints.specs.declared.knowing.Local.{Local}
use Rattle.known_ints.specs.declared.knowing.Holds.{Holds}
use Rattle.known_ints.specs.declared.knowing.Holds.TheVariants.{AnInt, AnArray}
use Rattle.known_ints.specs.declared.answers.Answer.{Answer}
use Rattle.known_ints.specs.declared.answers.Answer.TheVariants.{Until, Never}
use Rattle.known_ints.specs.declared.answers.Answer.TheVariants.{Known as Told}
use Rattle.known_ints.specs.declared.answers.Loads.{Loads}
use Rattle.known_ints.specs.Parts.{part_at, written}
use Rattle.known_ints.specs.Code.{CodeOf, IsCodeOf, IsIdle, StopsAtLocals}
use Rattle.known_ints.specs.Knowing.{AreStoredBy, IsGiven, IsLoadedBy, found_of, load_of, store_of}
use Rattle.known_ints.specs.Answers.{AreAnswers, AreAnswersFor, AreKept, IsAnswer, IsFound, IsToldOfAll, IsSettled, IsSettledAt, IsSettling, IsStop, IsToldAt, answer_at}
use Rattle.known_ints.proofs.Writing.{line_of, writes_part}

pub told_one : (v w : ℤ) → Told v ≡ Told w → v ≡ w
told_one v w e = cc

-- ---- stores and loads of a local variable

stores_by : (h : Holds) (k : ℕ) → Contains (written (store_of (record { index = k; holds = h }))) k
stores_by AnInt k = at_head k []
stores_by AnArray k = at_head k []

pub store_writes : (l : Local) → Contains (written (store_of l)) l.index
store_writes l = stores_by l.holds l.index

loads_by : (h : Holds) (k other : ℕ) → ¬ Contains (written (load_of (record { index = k; holds = h }))) other
loads_by AnInt k other has = nil_contains other has
loads_by AnArray k other has = nil_contains other has

pub load_writes_not : (l : Local) (k : ℕ) → ¬ Contains (written (load_of l)) k
load_writes_not l k = loads_by l.holds l.index k

idle_by : (h : Holds) (k : ℕ) → IsIdle (load_of (record { index = k; holds = h })) → ⊥
idle_by AnInt k idle = idle
idle_by AnArray k idle = idle

idle_loads_not : (part : Part) → IsIdle part → (l : Local) → part ≡ load_of l → ⊥
idle_loads_not part idle l e = idle_by l.holds l.index (subst IsIdle e idle)

idle_writes_not : (part : Part) → IsIdle part → (k : ℕ) → Contains (written part) k → ⊥
idle_writes_not (does.Store j) idle k has = idle
idle_writes_not (does.StoreReference j) idle k has = idle
idle_writes_not (does.StoreLong j) idle k has = idle
idle_writes_not (does.Increment j) idle k has = idle
idle_writes_not _ idle k has = nil_contains k has

one_by : (g h : Holds) (k j : ℕ) → load_of (record { index = k; holds = g }) ≡ load_of (record { index = j; holds = h }) → Path Local (record { index = k; holds = g }) (record { index = j; holds = h })
one_by AnInt AnInt k j e = let same : k ≡ j = cc in ap (λ (i : ℕ). record { index = i; holds = AnInt }) same
one_by AnInt AnArray k j e = absurd (cc)
one_by AnArray AnInt k j e = absurd (cc)
one_by AnArray AnArray k j e = let same : k ≡ j = cc in ap (λ (i : ℕ). record { index = i; holds = AnArray }) same

-- a load is of one local variable
pub load_one : (l j : Local) → load_of l ≡ load_of j → l ≡ j
load_one l j e = one_by l.holds j.holds l.index j.index e

-- ---- what is stored

at_write : {P : Program} {m k : ℕ} {v : Node} {o : Option ℕ} → MayBeLast P m k v o → (p : ℕ) → v ≡ At p → Writes P m p k → o ≡ Some p
at_write (here {p = q} come w) p at writes = let same : q ≡ p = cc in ap Some same
at_write {P} {m} {k} (unwritten none) p at writes = absurd (none (subst (λ (x : Node). NodeWrites P m x k) (sym at) writes))
at_write {P} {m} {k} (before last edge none) p at writes = absurd (none (subst (λ (x : Node). NodeWrites P m x k) (sym at) writes))

module _ (P : Program) (m : ℕ) (parts : List Part) (l : Local) where
  -- what is stored by what is found is so by what is found later
  pub stored_still : (xs ys : List (Option KnownInt)) → AreKept xs ys → (p : ℕ) (c : ℤ) → AreStoredBy P m parts xs l p c → AreStoredBy P m parts ys l p c
  stored_still xs ys kept p c h = record {
    written = h.written;
    stored = λ w last. let s = h.stored w last in record { is = s.is; from = s.from; pushed = kept w (record { from = s.from; value = c }) s.pushed };
  }

  -- and is one number
  pub stored_one : LastWritesExist → (xs : List (Option KnownInt)) (p : ℕ) (c d : ℤ) → (w : Option ℕ) × MayBeLast P m l.index (At p) w → AreStoredBy P m parts xs l p c
      → AreStoredBy P m parts xs l p d → c ≡ d
  stored_one exist xs p c d (None, last) h k = absurd (h.written last)
  stored_one exist xs p c d (Some w, last) h k =
      let a = h.stored w last in
      let b = k.stored w last in
      ap (λ (x : KnownInt). x.value) (some_same (record { from = a.from; value = c }) (record { from = b.from; value = d }) (sym a.pushed ∙ b.pushed))

  -- an answer is so still where more is found
  pub answer_still : (xs ys : List (Option KnownInt)) → AreKept xs ys → (p : ℕ) (a : Answer) → IsAnswer P m parts xs l p a → IsAnswer P m parts ys l p a
  answer_still xs ys kept p (Told c) h = stored_still xs ys kept p c h
  answer_still xs ys kept p (Until w) h = h
  answer_still xs ys kept p Never h = λ zs c more. h zs c (λ q k is. more q k (kept q k is))

  -- what a load gives of which it is settled what is told
  pub load_given : LastWritesExist → (xs : List (Option KnownInt)) (p : ℕ) → (w : Option ℕ) × MayBeLast P m l.index (At p) w → (a : Answer) → IsSettled xs (Some a)
      → IsAnswer P m parts xs l p a → (o : Option KnownInt)
      → ((c : ℤ) → a ≡ Told c → o ≡ Some (record { from = p; value = c })) → (((c : ℤ) → a ≢ Told c) → o ≡ None) → IsGiven (IsLoadedBy P m parts xs l p) o
  load_given exist xs p last (Told c) settled h o some none x = (
    (λ e.
        let at : Path KnownInt (record { from = p; value = c }) x = some_same (record { from = p; value = c }) x (sym (some c refl) ∙ e) in
        (sym (ap (λ (k : KnownInt). k.from) at), subst (AreStoredBy P m parts xs l p) (ap (λ (k : KnownInt). k.value) at) h)),
    (λ g.
        let same : c ≡ x.value = stored_one exist xs p c x.value last h g.1 in
        some c refl ∙ ap (λ (v : ℤ). Some (record { from = p; value = v })) same ∙ ap (λ (f : ℕ). Some (record { from = f; value = x.value })) (sym g.0)),
  )
  load_given exist xs p last (Until w) settled h o some none x = (
    (λ e. absurd (none≢some x (sym (none (λ c is. absurd (cc))) ∙ e))),
    (λ g. let s = g.1.stored w h in absurd (none≢some (record { from = s.from; value = x.value }) (sym settled ∙ s.pushed))),
  )
  load_given exist xs p last Never settled h o some none x = (
    (λ e. absurd (none≢some x (sym (none (λ c is. absurd (cc))) ∙ e))),
    (λ g. absurd (h xs x.value (λ q k is. is) g.1)),
  )

-- ---- where the search stops

module _ (one : LinesAreOne) (P : Program) (known : Known) (m : ℕ) (q : Loads) (of : IsCodeOf P known m q.code.now) where
  parts : List Part
  parts = q.code.now.parts

  -- what was written last where it is written was written there
  written_there : (p : ℕ) → Contains (written (part_at q.code.now.parts p)) q.local.index → (o : Option ℕ) → MayBeLast P m q.local.index (At p) o → o ≡ Some p
  written_there p has o last = at_write last p refl (line_of one P known m q.code.now.parts of.parts p q.local.index (part_at q.code.now.parts p) (of.parts p) has)

  written_here : (p : ℕ) → IsReached (IsEdge P m) (At p) → Contains (written (part_at q.code.now.parts p)) q.local.index → MayBeLast P m q.local.index (At p) (Some p)
  written_here p come has = here come (line_of one P known m q.code.now.parts of.parts p q.local.index (part_at q.code.now.parts p) (of.parts p) has)

  pub store_told : (p : ℕ) (a : Answer) → IsReached (IsEdge P m) (At p) → part_at q.code.now.parts p ≡ store_of q.local → IsFound p (known_at q.found.now p) a → IsToldAt P m q p a
  store_told p a come is found = by (known_at q.found.now p) refl found
    where
      has : Contains (written (part_at q.code.now.parts p)) q.local.index
      has = subst (λ (x : Part). Contains (written x) q.local.index) (sym is) (store_writes q.local)

      by : (o : Option KnownInt) → known_at q.found.now p ≡ o → IsFound p o a → IsToldAt P m q p a
      by None was e = subst (IsToldAt P m q p) (sym e) (record { settled = was; is = written_here p come has })
      by (Some k) was e = subst (IsToldAt P m q p) (sym e) (record {
        settled = tt;
        is = record {
          written = λ last. none≢some p (written_there p has None last);
          stored = λ w last.
              let same : p ≡ w = sym (some_same w p (written_there p has (Some w) last)) in
              let at : part_at q.code.now.parts w ≡ store_of q.local = subst (λ (x : ℕ). part_at q.code.now.parts x ≡ store_of q.local) same is in
              let pushed : known_at q.found.now w ≡ Some (record { from = k.from; value = k.value }) = subst (λ (x : ℕ). known_at q.found.now x ≡ Some k) same was in
              record { is = at; from = k.from; pushed = pushed };
        };
      })

  pub write_told : (p : ℕ) → IsReached (IsEdge P m) (At p) → Contains (written (part_at q.code.now.parts p)) q.local.index → (part_at q.code.now.parts p ≡ store_of q.local → ⊥) → IsToldAt P m q p Never
  write_told p come has other = record { settled = tt; is = λ ys c kept h. other ((h.stored p (written_here p come has)).is) }

  pub load_told : AreAnswersFor P m q.code.now.parts q.found.now q.answers.now q.local → (p : ℕ) → IsReached (IsEdge P m) (At p) → (¬ Contains (written (part_at q.code.now.parts p)) q.local.index) → IsStop q p
      → (a : Answer) → answer_at q.answers.now p ≡ Some a → IsToldAt P m q p a
  load_told so p come silent (inl has) a at = absurd (silent has)
  load_told so p come silent (inr (is, settled)) a at = record { settled = subst (IsSettled q.found.now) at settled; is = so p a come is at }

  pub no_told : (p : ℕ) → (¬ Contains (written (part_at q.code.now.parts p)) q.local.index) → IsStop q p → answer_at q.answers.now p ≡ None → ⊥
  no_told p silent (inl has) none = silent has
  no_told p silent (inr (is, settled)) none = subst (IsSettled q.found.now) none settled

  -- it stops where the local variable is written
  abbrev pub Stop : ℕ → Type 0
  Stop x = (p : ℕ) × (x ≡ 2 * p) × IsStop q p

  pub stops : StopsAtWrites P m q.local.index Stop
  stops = record { instruction = λ x s. (s.0, s.1); writes = λ p w. (p, refl, inl (writes_part one P known m q.code.now.parts of.parts p q.local.index w)) }

  -- and at no instruction that has nothing to do with local variables
  pub stops_at_locals : StopsAtLocals q.code.now.parts Stop
  stops_at_locals p idle s =
      let same : s.0 ≡ p = (let e = s.1 in omega arith) in
      by (subst (IsStop q) same s.2)
    where
      by : IsStop q p → ⊥
      by (inl has) = idle_writes_not (part_at q.code.now.parts p) idle q.local.index has
      by (inr load) = idle_loads_not (part_at q.code.now.parts p) idle q.local load.0

  -- what is told of all places where it stops is told of where it begins
  module _ (exist : LastWritesExist) (p : ℕ) (come : IsReached (IsEdge P m) (At p)) (found : LastWrites) (near : AreNearest P m q.local.index (At p) Stop found) where
    pub stop_of : (r : ℕ) → Contains found.places.items r → IsReached (IsEdge P m) (At r) × IsStop q r
    stop_of r has =
        let s = near.stops r has in
        let same : s.0.0 ≡ r = (let e = s.0.1 in omega arith) in
        (s.1, subst (IsStop q) same s.0.2)

    through : (r : ℕ) → Contains found.places.items r → (ys : List (Option KnownInt)) (c : ℤ) → AreStoredBy P m q.code.now.parts ys q.local p c → AreStoredBy P m q.code.now.parts ys q.local r c
    through r has ys c h = record { written = λ last. h.written (near.led r None has last); stored = λ w last. h.stored w (near.led r (Some w) has last) }

    last_at : (r : ℕ) → IsReached (IsEdge P m) (At r) → (w : Option ℕ) × MayBeLast P m q.local.index (At r) w
    last_at r there = exist P m q.local.index (At r) of.stays there

    pub begun_told : IsTrue found.unwritten → IsToldAt P m q p Never
    begun_told un = record { settled = tt; is = λ ys c kept h. h.written (near.begun un) }

    pub joined_told : found.unwritten ≡ false → (a : Answer) → IsToldOfAll (IsToldAt P m q) found.places.items a → IsToldAt P m q p a
    joined_told none (Told c) all = record {
      settled = tt;
      is = record {
        written = λ last. elim (near.all None last) [
          | inl f ↦ (all f.0 f.1).is.written f.2
          | inr f ↦ both_ways found.unwritten none f.0
        ];
        stored = λ w last. elim (near.all (Some w) last) [
          | inl f ↦ (all f.0 f.1).is.stored w f.2
          | inr f ↦ absurd (none≢some w (sym f.1))
        ];
      };
    }
    joined_told none (Until w) (r, has, t) = record { settled = t.settled; is = near.led r (Some w) has t.is }
    joined_told none Never (inl (r, has, t)) = record { settled = tt; is = λ ys c kept h. t.is ys c kept (through r has ys c h) }
    joined_told none Never (inr (inl a)) = record { settled = tt; is = never }
      where
        never : (ys : List (Option KnownInt)) (c : ℤ) → AreKept q.found.now ys → ¬ AreStoredBy P m q.code.now.parts ys q.local p c
        never ys c kept h =
            let number : (r : ℕ) → Contains found.places.items r → (v : ℤ) → IsToldAt P m q r (Told v) → v ≡ c =
            λ r has v t.
            stored_one P m q.code.now.parts q.local exist ys r v c (last_at r (stop_of r has).0) (stored_still P m q.code.now.parts q.local q.found.now ys kept r v t.is) (through r has ys c h) in
            a.apart (number a.one a.one_of a.v a.one_is ∙ sym (number a.other a.other_of a.w a.other_is))
    joined_told none Never (inr (inr empty)) = absurd (nowhere (last_at p come).0 (last_at p come).1)
      where
        nowhere : (w : Option ℕ) → MayBeLast P m q.local.index (At p) w → ⊥
        nowhere w last = elim (near.all w last) [
          | inl f ↦ nil_contains f.0 (subst (λ (rs : List ℕ). Contains rs f.0) empty f.1)
          | inr f ↦ both_ways found.unwritten none f.0
        ]

-- ---- what is told is kept

module _ (code : CodeOf) (t : Table) (ts : List (Option Answer)) (p : ℕ) (long : length ts ≡ length code.parts) (within : p < length code.parts) where
  -- what is put for a load
  module _ (l : Local) (is : part_at code.parts p ≡ load_of l) (o : Option Answer)
      (told : (P : Program) (known : Known) (m : ℕ) → IsCodeOf P known m code → AreAnswersFor P m code.parts (found_of t l.holds) ts l → IsReached (IsEdge P m) (At p)
      → ((a : Answer) → o ≡ Some a → IsAnswer P m code.parts (found_of t l.holds) l p a) × IsSettled (found_of t l.holds) o) where
    at : answer_at (set ts p o) p ≡ o
    at = get_or-set_same ts p o None (omega arith)

    pub settles : IsSettling code t ts (set ts p o) p
    settles = record { long = length-set ts p o; kept = kept; settled = settled }
      where
        kept : AreAnswers code t ts → AreAnswers code t (set ts p o)
        kept so P known m of j r a come load is_a =
            elim (cases_eq r p) [
              | inl same ↦
                  let mine : l ≡ j = load_one l j (sym is ∙ subst (λ (x : ℕ). part_at code.parts x ≡ load_of j) same load) in
                  let given : o ≡ Some a = sym at ∙ subst (λ (x : ℕ). answer_at (set ts p o) x ≡ Some a) same is_a in
                  let right = (told P known m of (so P known m of l) (subst (λ (x : ℕ). IsReached (IsEdge P m) (At x)) same come)).0 a given in
                  subst (λ (i : Local). IsAnswer P m code.parts (found_of t i.holds) i r a) mine (subst (λ (x : ℕ). IsAnswer P m code.parts (found_of t l.holds) l x a) (sym same) right)
              | inr other ↦ so P known m of j r a come load (sym (get_or-set_other ts p r o None other) ∙ is_a)
            ]

        settled : AreAnswers code t ts → (P : Program) (known : Known) (m : ℕ) → IsCodeOf P known m code → IsReached (IsEdge P m) (At p) → IsSettledAt code t (set ts p o) p
        settled so P known m of come j load =
            let mine : l ≡ j = load_one l j (sym is ∙ load) in
            let right = (told P known m of (so P known m of l) come).1 in
            subst (λ (i : Local). IsSettled (found_of t i.holds) (answer_at (set ts p o) p)) mine (subst (IsSettled (found_of t l.holds)) (sym at) right)

  -- nothing is put for what is no load
  pub settles_none : ((l : Local) → part_at code.parts p ≡ load_of l → ⊥) → IsSettling code t ts ts p
  settles_none none = record { long = refl; kept = λ so. so; settled = λ so P known m of come l load. absurd (none l load) }
