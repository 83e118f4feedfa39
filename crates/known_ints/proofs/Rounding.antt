-- What is found when a round finds nothing more is just what is known.
use Rattle.std.proofs.Common.{◌≡◌, ◌⊎◌, ℕ, ◌+◌, ◌*◌, ◌<◌, ◌≤◌, ℤ, pos, Bool, true, false, List, [], ◌∷◌, ◌++◌, length, replicate, take, Contains, Option, Some, None, refl, sym, ap, ◌∙◌, subst, inl, inr, arith}
use Rattle.std.specs.Prelude.{IsSome}
use Rattle.std.proofs.lemmas.Bool.{both_ways, cases_Bool, cases_lt}
use Rattle.std.proofs.lemmas.List.{get_or-replicate, get_or_past, length-replicate, take_all}
use Rattle.std.proofs.lemmas.List.Elements.{Contains-push_cases}
use Rattle.lists.proofs.Lemmas.{none≢some, some_is, some_same}
use Rattle.lists.specs.Members.{nil_contains}
use Rattle.opcodes.specs.Start.{IsStart, AreStarts}
use Rattle.bytecode_model.specs.Program.{Program, Body, body_of}
use Rattle.code_lines.specs.Laws.{LinesAreOne, OneStandsBefore}
use Rattle.loop_rules.specs.Further.Known.{Known, Pushes, PushesArray}
use Rattle.loop_rules.specs.Further.Laws.{ArraysAreOne, FirstLinesAreReached, IsReachedFromBefore, LastWritesExist, LastWritesWrite, LinesBeforeAreReached, PushedAreOne}
use Rattle.loop_rules.specs.declared.further.table.KnownInt.{KnownInt}
use Rattle.known_ints.specs.declared.knowing.Holds.{Holds}
use Rattle.known_ints.specs.declared.knowing.Holds.TheVariants.{AnInt, AnArray}
use Rattle.known_ints.specs.declared.answers.Answer.{Answer}
use Rattle.known_ints.specs.declared.lines.Line.{Line}
use Rattle.known_ints.specs.Code.{CodeOf, IsCodeOf}
use Rattle.loop_rules.specs.Further.Found.{AreKnownInts, AreKnownLengths, Table, IsFollowing, known_at}
use Rattle.known_ints.specs.Knowing.{GivesBy, GivesIntAt, GivesLengthAt, IsGiven, found_of}
use Rattle.known_ints.specs.Answers.{AreAnswers, IsAsked, IsSettling, answer_at}
use Rattle.known_ints.specs.Rounds.{AreEmpty, AreLines, AreSized, IsClosedAt, IsFinding, IsLineOf, IsPut, IsRound, IsSound, IsPutIfGiven, IsVisited, left}
use Rattle.known_ints.proofs.Answering.{answer_still}
use Rattle.known_ints.proofs.Following.{last_reached}
use Rattle.known_ints.proofs.Closing.{put_cases, put_kept, put_left, put_long}
use Rattle.known_ints.proofs.Sounding.{int_sound, length_sound}
use Rattle.known_ints.proofs.Completing.{int_known, array_known}

-- nothing that is found is found at so many places
pub empty_sound : (P : Program) (known : Known) (m n : ℕ) (t : Table) → AreEmpty n t → IsSound P known m t
empty_sound P known m n t empty = record {
  ints = λ p x is. absurd (none≢some x (sym (empty.empty AnInt p) ∙ is));
  lengths = λ p x is. absurd (none≢some x (sym (empty.empty AnArray p) ∙ is));
}

-- nor is anything told
told_nowhere : (n p : ℕ) → answer_at (replicate n None) p ≡ None
told_nowhere n p = elim (cases_lt p n) [
  | inl lt ↦ get_or-replicate n p None None lt
  | inr past ↦ get_or_past (replicate n None) p None (subst (λ (k : ℕ). k ≤ p) (sym (length-replicate n None)) past)
]

pub empty_sized : (code : CodeOf) (t : Table) (ts : List (Option Answer)) → AreEmpty (length code.parts) t → ts ≡ replicate (length code.parts) None → AreSized code t ts
empty_sized code t ts empty none = record { found = empty.long; answers = ap (λ (us : List (Option Answer)). length us) none ∙ length-replicate (length code.parts) None }

pub empty_finding : (code : CodeOf) (t : Table) (ts : List (Option Answer)) → AreEmpty (length code.parts) t → ts ≡ replicate (length code.parts) None → IsFinding code t ts
empty_finding code t ts empty none = record {
  sound = λ P known m of. empty_sound P known m (length code.parts) t empty;
  answers = λ P known m of l p a come load at.
      absurd (none≢some a (sym (ap (λ (us : List (Option Answer)). answer_at us p) none ∙ told_nowhere (length code.parts) p) ∙ at));
}

-- ---- a visit

pub visit_known : (code : CodeOf) (line : Line) (t : Table) (ts : List (Option Answer)) → AreSized code t ts → IsSome (known_at (found_of t line.holds) line.place) → IsVisited code line t t ts ts false
visit_known code line t ts sized is = record {
  sized = sized;
  finding = λ f. f;
  less = λ e. absurd (both_ways false refl e);
  same = λ e. refl;
  closed = λ f e P known m of from x g. is;
}

-- what is given of lines of which nothing was found
module _ (one : LinesAreOne) (exist : LastWritesExist) (come : LinesBeforeAreReached) (code : CodeOf) (line : Line) (is : IsLineOf code line) (t : Table) (ts ts' : List (Option Answer)) (sized : AreSized code t ts)
    (fresh : known_at (found_of t line.holds) line.place ≡ None) (settles : IsSettling code t ts ts' line.last) (given : Option KnownInt)
    (exact : (P : Program) (known : Known) (m : ℕ) → IsCodeOf P known m code → IsAsked P m code t ts' line.last → IsGiven (GivesBy P m code t line.holds line.place) given) where
  asked : IsFinding code t ts → (P : Program) (known : Known) (m : ℕ) → IsCodeOf P known m code → IsAsked P m code t ts' line.last
  asked f P known m of =
      let follows = is.follows P known m of in
      record {
        answers = λ l. settles.kept f.answers P known m of l;
        settled = settles.settled f.answers P known m of (last_reached P known m code of come line.place line.last follows.0 follows.1);
      }

  none_taken : given ≡ None → IsVisited code line t t ts ts' false
  none_taken none = record {
    sized = record { found = sized.found; answers = settles.long ∙ sized.answers };
    finding = λ f. record { sound = f.sound; answers = settles.kept f.answers };
    less = λ e. absurd (both_ways false refl e);
    same = λ e. refl;
    closed = λ f e P known m of from x g.
        let x' : KnownInt = record { from = from; value = x } in
        absurd (none≢some x' (sym none ∙ (exact P known m of (asked f P known m of) x').1 g));
  }

  within : line.place < length (found_of t line.holds)
  within = let long = sized.found line.holds in let lt = is.place_within in omega arith

  one_taken : (k : KnownInt) → given ≡ Some k → (t' : Table) → IsPut t line.holds line.place k t' → IsVisited code line t t' ts ts' true
  one_taken k some t' put = record {
    sized = record { found = λ h. put_long t t' line.holds line.place k put within h ∙ sized.found h; answers = settles.long ∙ sized.answers };
    finding = λ f. record { sound = λ P known m of. sound f P known m of; answers = answers f };
    less = λ e. put_left t t' line.holds line.place k put within fresh;
    same = λ e. absurd (both_ways true e refl);
    closed = λ f e. absurd (both_ways true e refl);
  }
    where
      answers : IsFinding code t ts → AreAnswers code t' ts'
      answers f P known m of l r a comes load at =
          answer_still P m code.parts l (found_of t l.holds) (found_of t' l.holds) (put_kept t t' line.holds line.place k put within fresh l.holds) r a (settles.kept f.answers P known m of l r a comes load at)

      gives : IsFinding code t ts → (P : Program) (known : Known) (m : ℕ) → IsCodeOf P known m code → (h : Holds) (r : ℕ) (x : KnownInt) → (line.holds ≡ h) × (r ≡ line.place) × (k ≡ x) → GivesBy P m code t h r x.from x.value
      gives f P known m of h r x (sort, at, same) =
          let g : GivesBy P m code t line.holds line.place k.from k.value = (exact P known m of (asked f P known m of) k).0 some in
          subst (λ (y : KnownInt). GivesBy P m code t h r y.from y.value) same
          (subst (λ (q : ℕ). GivesBy P m code t h q k.from k.value) (sym at) (subst (λ (y : Holds). GivesBy P m code t y line.place k.from k.value) sort g))

      sound : IsFinding code t ts → (P : Program) (known : Known) (m : ℕ) → IsCodeOf P known m code → IsSound P known m t'
      sound f P known m of = record { ints = ints; lengths = lengths }
        where
          old : IsSound P known m t
          old = f.sound P known m of

          ints : (r : ℕ) (x : KnownInt) → known_at t'.ints r ≡ Some x → IsFollowing P m r × Pushes P known m x.from r x.value
          ints r x found = elim (put_cases t t' line.holds line.place k put within AnInt r x found) [
            | inl was ↦ old.ints r x was
            | inr new ↦ int_sound one exist come P known m code of t old r x.from x.value (gives f P known m of AnInt r x new)
          ]

          lengths : (r : ℕ) (x : KnownInt) → known_at t'.lengths r ≡ Some x → IsFollowing P m r × (n : ℕ) × (x.value ≡ pos n) × PushesArray P known m x.from r n
          lengths r x found = elim (put_cases t t' line.holds line.place k put within AnArray r x found) [
            | inl was ↦ old.lengths r x was
            | inr new ↦ length_sound one exist come P known m code of t old r x.from x.value (gives f P known m of AnArray r x new)
          ]

  taken_by : (o : Option KnownInt) → given ≡ o → (t' : Table) (b : Bool) → IsPutIfGiven line o t t' b → IsVisited code line t t' ts ts' b
  taken_by None was t' b taken =
      subst (λ (u : Table). IsVisited code line t u ts ts' b) (sym taken.0) (subst (λ (c : Bool). IsVisited code line t t ts ts' c) (sym taken.1) (none_taken was))
  taken_by (Some k) was t' b taken = subst (λ (c : Bool). IsVisited code line t t' ts ts' c) (sym taken.1) (one_taken k was t' taken.0)

  pub visit_taken : (t' : Table) (b : Bool) → IsPutIfGiven line given t t' b → IsVisited code line t t' ts ts' b
  visit_taken t' b taken = taken_by given refl t' b taken

-- ---- a round

pub round_begins : (code : CodeOf) (lines : List Line) (t : Table) (ts : List (Option Answer)) → AreSized code t ts → IsRound code lines 0 t t ts ts false
round_begins code lines t ts sized = record {
  sized = sized;
  finding = λ f. f;
  less = λ e. absurd (both_ways false refl e);
  same = λ e. refl;
  closed = λ f e line has. absurd (nil_contains line has);
}

module _ (code : CodeOf) (lines : List Line) (n : ℕ) (line : Line) (more : take (n + 1) lines ≡ take n lines ++ line ∷ []) (first t t' : Table) (told ts ts' : List (Option Answer)) (grown : Bool)
    (round : IsRound code lines n first t told ts grown) where
  pub round_grows : (b : Bool) → b ≡ true → IsVisited code line t t' ts ts' b → IsRound code lines (n + 1) first t' told ts' true
  round_grows b is visit = record {
    sized = visit.sized;
    finding = λ f. visit.finding (round.finding f);
    less = λ e. fewer (cases_Bool grown);
    same = λ e. absurd (both_ways true e refl);
    closed = λ f e. absurd (both_ways true e refl);
  }
    where
      fewer : (grown ≡ true) ⊎ (grown ≡ false) → left t' < left first
      fewer (inl before) = let a = visit.less is in let c = round.less before in omega arith
      fewer (inr none) = subst (λ (u : Table). left t' < left u) (round.same none) (visit.less is)

  pub round_goes_on : (b : Bool) → b ≡ false → IsVisited code line t t' ts ts' b → IsRound code lines (n + 1) first t' told ts' grown
  round_goes_on b is visit = record {
    sized = visit.sized;
    finding = λ f. visit.finding (round.finding f);
    less = λ e. subst (λ (u : Table). left u < left first) (sym (visit.same is)) (round.less e);
    same = λ e. visit.same is ∙ round.same e;
    closed = λ f e other has.
        elim (Contains-push_cases (take n lines) line other (subst (λ (ls : List Line). Contains ls other) more has)) [
          | inl old ↦ round.closed f e other old
          | inr same ↦ subst (λ (l : Line). IsClosedAt code first l.holds l.place) same (subst (λ (u : Table). IsClosedAt code u line.holds line.place) (round.same e) (visit.closed (round.finding f) is))
        ];
  }

-- a round that finds nothing
pub round_closes : (code : CodeOf) (lines : List Line) (first t : Table) (told ts : List (Option Answer)) (grown : Bool) → IsRound code lines (length lines) first t told ts grown → IsFinding code first told
    → grown ≡ false → (line : Line) → Contains lines line → IsClosedAt code t line.holds line.place
round_closes code lines first t told ts grown round f none line has =
    let within : Contains (take (length lines) lines) line = subst (λ (ls : List Line). Contains ls line) (sym (take_all (length lines) lines (omega arith))) has in
    subst (λ (u : Table). IsClosedAt code u line.holds line.place) (sym (round.same none)) (round.closed f none line within)

-- ---- in the end

-- the laws that are needed
pub record Laws : Type 0 where
  pub one : LinesAreOne
  pub stands : OneStandsBefore
  pub exist : LastWritesExist
  pub wrote : LastWritesWrite
  pub come : LinesBeforeAreReached
  pub first : FirstLinesAreReached
  pub ints_one : PushedAreOne
  pub arrays_one : ArraysAreOne
  pub starts : (code : List ℕ) → AreStarts code

module _ (laws : Laws) (P : Program) (known : Known) (m : ℕ) (code : CodeOf) (of : IsCodeOf P known m code) (t : Table)
    (nodes : code.graph.nodes ≡ 2 * length code.parts) (sound : IsSound P known m t) where
  ints_are : (p from : ℕ) (x : ℤ) → GivesIntAt P m code t p from x → IsFollowing P m p × Pushes P known m from p x
  ints_are = int_sound laws.one laws.exist laws.come P known m code of t sound

  lengths_are : (p from : ℕ) (x : ℤ) → GivesLengthAt P m code t p from x → IsFollowing P m p × (n : ℕ) × (x ≡ pos n) × PushesArray P known m from p n
  lengths_are = length_sound laws.one laws.exist laws.come P known m code of t sound

  -- a place to which control comes is one of the code
  within_code : (p : ℕ) → IsFollowing P m p → p < length code.parts
  within_code p f =
      let start = some_is (body_of P m) (λ (b : Body). IsStart b.code p) (of.stays p f.reached) in
      let size = some_is (body_of P m) (λ (b : Body). code.graph.nodes ≡ 2 * length b.code) of.graph.size in
      let same : start.0 ≡ size.0 = some_same start.0 size.0 (sym start.1 ∙ size.1) in
      let inside = (laws.starts start.0.code).within_code p start.2 in
      let long : code.graph.nodes ≡ 2 * length start.0.code = size.2 ∙ ap (λ (b : Body). 2 * length b.code) (sym same) in
      omega arith

  abbrev some_int : ℕ → ℤ → Option KnownInt
  some_int from x = Some (record { from = from; value = x })

  made_same : (from other : ℕ) (x y : ℤ) → from ≡ other → x ≡ y → some_int from x ≡ some_int other y
  made_same from other x y e f = ap (λ (z : ℕ). some_int z x) e ∙ ap (λ (z : ℤ). some_int other z) f

  module _ (lines : List Line) (all : AreLines code (length code.parts) lines) (closed : (line : Line) → Contains lines line → IsClosedAt code t line.holds line.place) where
    -- what follows was found
    found_of_given : (h : Holds) (p from : ℕ) (x : ℤ) → p < length code.parts → GivesBy P m code t h p from x → (k : KnownInt) × (known_at (found_of t h) p ≡ Some k)
    found_of_given h p from x inside gives =
        let line = all.all p inside P known m of t h from x gives in
        let is = closed line.0 line.1 P known m of in
        let at : (from : ℕ) (x : ℤ) → GivesBy P m code t h line.0.place from x → IsSome (known_at (found_of t h) line.0.place) =
        subst (λ (y : Holds). (from : ℕ) (x : ℤ) → GivesBy P m code t y line.0.place from x → IsSome (known_at (found_of t y) line.0.place)) line.3 is in
        let there : (from : ℕ) (x : ℤ) → GivesBy P m code t h p from x → IsSome (known_at (found_of t h) p) =
        subst (λ (q : ℕ). (from : ℕ) (x : ℤ) → GivesBy P m code t h q from x → IsSome (known_at (found_of t h) q)) line.2 at in
        by (known_at (found_of t h) p) refl (there from x gives)
      where
        by : (o : Option KnownInt) → known_at (found_of t h) p ≡ o → IsSome o → (k : KnownInt) × (known_at (found_of t h) p ≡ Some k)
        by None was some = absurd (both_ways false refl some)
        by (Some k) was some = (k, was)

    before_of : (p : ℕ) → IsFollowing P m p → IsReachedFromBefore P m p
    before_of p f = record { stays = of.stays; reached = f.reached; unnamed = f.unnamed }

    ints_closed : (p from : ℕ) (x : ℤ) → GivesIntAt P m code t p from x → known_at t.ints p ≡ Some (record { from = from; value = x })
    ints_closed p from x gives =
        let f = gives.following in
        let k = found_of_given AnInt p from x (within_code p f) gives in
        let a = sound.ints p k.0 k.1 in
        let b = ints_are p from x gives in
        let same = laws.ints_one P known m k.0.from from p k.0.value x (before_of p f) a.1 b.1 in
        k.1 ∙ made_same k.0.from from k.0.value x same.0 same.1

    lengths_closed : (p from : ℕ) (x : ℤ) → GivesLengthAt P m code t p from x → known_at t.lengths p ≡ Some (record { from = from; value = x })
    lengths_closed p from x gives =
        let f = gives.following in
        let k = found_of_given AnArray p from x (within_code p f) gives in
        let a = sound.lengths p k.0 k.1 in
        let b = lengths_are p from x gives in
        let same = laws.arrays_one P known m k.0.from from p a.1 b.1 (before_of p f) a.3 b.3 in
        k.1 ∙ made_same k.0.from from k.0.value x same.0 (a.2 ∙ (ap pos same.1 ∙ sym b.2))

    pub ints_known : AreKnownInts P known m t.ints
    ints_known p x = (
      (λ is. sound.ints p x is),
      (λ h. int_known laws.one laws.stands laws.first laws.wrote laws.come P known m code of t ints_closed lengths_closed h.1 h.0),
    )

    pub lengths_known : AreKnownLengths P known m t.lengths
    lengths_known p x = (
      (λ is. sound.lengths p x is),
      (λ h.
          array_known laws.one laws.stands laws.first laws.wrote laws.come P known m code of t ints_closed lengths_closed h.3 h.0
          ∙ ap (λ (z : ℤ). Some (record { from = x.from; value = z })) (sym h.2)),
    )
