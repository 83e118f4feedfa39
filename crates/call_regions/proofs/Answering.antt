-- What a search found is what may run in the program, and whether it fits the cache.
use Rattle.std.proofs.Common.{◌≡◌, ◌⊎◌, ℕ, ◌*◌, ◌<◌, ◌≤◌, List, [], length, get_or, Contains, Option, Some, None, refl, sym, ap, ◌∙◌, subst, inl, inr, arith, is_some}
use Rattle.std.specs.Prelude.{slice_get}
use Rattle.std.specs.List.Sorted.{IsStrictlyIncreasing}
use Rattle.std.proofs.lemmas.Option.{slice_get_cases, slice_get_within}
use Rattle.std.proofs.lemmas.List.Kept.{AllPairs-from_increasing}
use Rattle.std.proofs.lemmas.List.Sorted.{All-permutation, sum_by-IsPermutation, Contains-permutation, IsPermutation-sym}
use Rattle.std.proofs.lemmas.List.Elements.{All-contains}
use Rattle.base.specs.Packed.{words_for}
use Rattle.method_cache.specs.Contents.{blocks_for}
use Rattle.method_cache.specs.Regions.Region.{AreDistinct}
use Rattle.lists.proofs.Lemmas.{some_is, some_same, none≢some}
use Rattle.lists.specs.Members.{at_head, cons_cases, nil_contains}
use Rattle.bytecode_model.specs.Program.{Program, Body, body_of}
use Rattle.method_flow.specs.Flow.{Flow, Coded, IsFlowOf}
use Rattle.method_flow.specs.Regions.{IsWithin, IsWithinNodes, code_words}
use Rattle.method_flow.specs.Regions.IsWithin.{itself as within_itself, calls as within_calls}
use Rattle.method_flow.specs.Regions.IsWithinNodes.{itself as nodes_itself, calls as nodes_calls}
use Rattle.method_flow.specs.Recursion.{MayCall}
use Rattle.call_regions.specs.Laws.{RunsAreCalls, WordsAreOfTheTable}
use Rattle.call_regions.specs.Regions.{AreOfTable, IsRegionAnswer}
use Rattle.call_regions.specs.Searching.{IsSearch, FindsAll, IsFirst, IsWhole, IsAnswer}
use Rattle.call_regions.specs.Tables.{IsOfTable, IsTargetAt, Runs, RunsAt, IsReached, words_of, blocks_in}
use Rattle.call_regions.specs.Tables.IsReached.{given, later}
use Rattle.call_regions.specs.declared.search.Search.{Search}
use Rattle.call_regions.specs.declared.answers.Region.{Region}
use Rattle.call_regions.specs.declared.answers.Region.TheVariants.{Fits, Exceeds}
use Rattle.call_regions.proofs.Lists.{sum_of_part, sum_by-same}

-- ---- in the table

pub reached_more : {f : Flow} {K L : ℕ → Type 0} → ((x : ℕ) → K x → L x) → {x : ℕ} → IsReached f K x → IsReached f L x
reached_more more (given {x} k) = given (more x k)
reached_more more (later r runs) = later (reached_more more r) runs

slice_get_inside : {X : Type 0} (xs : List X) (i : ℕ) → i < length xs → (slice_get xs i ≡ None) → ⊥
slice_get_inside xs i lt none = let has = slice_get_cases xs i in elim has.1 [ inl is ↦ none≢some is.0 (sym none ∙ is.2) | inr past ↦ let le = past.0 in omega arith ]

module _ (f : Flow) (block_words most : ℕ) where
  -- more methods take no fewer blocks
  pub blocks_grow : (K : ℕ → Type 0) (old new : Search) → IsSearch f block_words old → FindsAll f block_words most K old new → old.blocks ≤ new.blocks
  blocks_grow K old new search finds =
      let part = sum_of_part (blocks_in f block_words) old.methods new.methods search.distinct finds.kept in
      let a = search.blocks in
      let b = finds.search.blocks in
      omega arith

  pub whole : (m : ℕ) (K : ℕ → Type 0) (a b c : Search) → IsFirst f block_words m a → FindsAll f block_words most K a b → FindsAll f block_words most (IsReached f (Contains b.queue)) b c → IsWhole f block_words most m K c
  whole m K a b c start first second =
      let H : List ℕ → Type 0 = λ ms. Contains ms m in
      let queued : (x : ℕ) → Contains b.queue x → K x =
      λ x has.
      elim (first.no_other x has) [
        | inl there ↦ let Q : List ℕ → Type 0 = λ q. Contains q x in absurd (nil_contains x (subst Q start.queue there))
        | inr k ↦ k
      ] in
      let old : (x : ℕ) → Contains b.methods x → (x ≡ m) ⊎ IsReached f K x =
      λ x has.
      elim (first.methods x has) [
        | inl there ↦
            let Q : List ℕ → Type 0 = λ q. Contains q x in
            elim (cons_cases m x [] (subst Q start.methods there)) [ inl same ↦ inl (sym same) | inr none ↦ absurd (nil_contains x none) ]
        | inr there ↦ inr (given (queued x there))
      ] in
      record {
        search = second.search;
        itself = second.kept m (first.kept m (subst H (sym start.methods) (at_head m [])));
        no_other = λ x has.
            elim (second.methods x has) [
              | inl there ↦ old x there
              | inr there ↦
                  elim (second.no_other x there) [
                    | inl queue ↦ inr (given (queued x queue))
                    | inr r ↦ inr (reached_more queued r)
                  ]
            ];
        all = λ fits x r.
            let grown = blocks_grow (IsReached f (Contains b.queue)) b c first.search second in
            let fits_before : b.blocks ≤ most = omega arith in
            second.search.within x (second.all fits x (reached_more (first.all fits_before) r));
      }

has_number : (f : Flow) (m : ℕ) → IsOfTable f m → m < length f.methods
has_number f m code = slice_get_within f.methods m code.method code.is

-- numbers that rise differ
rising_differ : (xs : List ℕ) → IsStrictlyIncreasing xs → AreDistinct xs
rising_differ xs rising i j d less below same = let up = AllPairs-from_increasing xs rising i j d less below in omega arith

-- the answer of a search is of the table
pub of_table : (f : Flow) (block_words most : ℕ) (s : Search) (r : Region) → IsSearch f block_words s → IsAnswer most s r → AreOfTable f r
of_table f block_words most s (Fits xs) is a =
    let coded = All-permutation (IsOfTable f) s.methods xs a.1 is.coded in
    (λ k d lt. has_number f (get_or xs k d) (coded k d lt), rising_differ xs a.2)
of_table f block_words most s Exceeds is past = tt

-- ---- in the program

module _ (P : Program) (f : Flow) (flow : IsFlowOf P f) where
  -- the table has the sizes of the program's codes
  pub words_are : (m : ℕ) → code_words P m ≡ words_of (slice_get f.methods m)
  words_are m =
      let W : Option Body → ℕ = λ o. elim o [ None ↦ 0 | Some b ↦ words_for (length b.code) ] in
      let T : Option Coded → Type 0 = λ o. (slice_get f.methods m ≡ o) → W (body_of P m) ≡ words_of o in
      elim (slice_get f.methods m) as T [
        | None ↦ λ e.
            let B : Option Body → Type 0 = λ o. (body_of P m ≡ o) → W o ≡ 0 in
            elim (body_of P m) as B [
              | None ↦ λ _. refl
              | Some b ↦ λ is.
                  let below = (flow.coded m).0 (ap is_some is) in
                  absurd (slice_get_inside f.methods m below e)
            ] refl
        | Some k ↦ λ e.
            let found = some_is (body_of P m) (λ (b : Body). (b.code ≡ k.code) × _) (flow.methods m k e).body in
            ap W found.1 ∙ ap (λ (xs : List ℕ). words_for (length xs)) found.2.0
      ] refl

  pub blocks_are : (block_words m : ℕ) → blocks_for block_words (code_words P m) ≡ blocks_in f block_words m
  blocks_are block_words m = ap (blocks_for block_words) (words_are m)

pub words_are_of_the_table : WordsAreOfTheTable
words_are_of_the_table P f m k flow is = words_are P f flow m ∙ ap words_of is

module _ (P : Program) (f : Flow) (flow : IsFlowOf P f) (calls : RunsAreCalls) where
  pub run_may : {m t : ℕ} → Runs f m t → MayCall P m t
  run_may {m} {t} r =
      let at = (calls P f m r.place t flow r.from.code).0 r.from in
      record { place = r.place; start = at.start; call = at.call; is_target = at.is_target }

  within_next : {m x t : ℕ} → IsWithin P m x → MayCall P x t → IsWithin P m t
  within_next within_itself run = within_calls run.place run.start run.call run.is_target within_itself
  within_next (within_calls p start call target rest) run = within_calls p start call target (within_next rest run)

  -- what the table reaches from a method may run while it does
  pub reached_within : {m : ℕ} {K : ℕ → Type 0} → ((x : ℕ) → K x → IsWithin P m x) → {x : ℕ} → IsReached f K x → IsWithin P m x
  reached_within first (given {x} k) = first x k
  reached_within first (later r runs) = within_next (reached_within first r) (run_may runs)

  -- what runs behind a call at a node
  behind_node : {m : ℕ} {members : List ℕ} {x : ℕ} (t : ℕ) → RunsAt f m members t → IsWithin P t x → IsWithinNodes P m members x
  behind_node {m} t k rest =
      let may = (calls P f m k.place t flow k.from.code).0 k.from in
      nodes_calls k.place t k.node may.start may.call may.is_target rest

  -- the first of a walk along calls
  origin : {K : ℕ → Type 0} {x : ℕ} → IsReached f K x → (t : ℕ) × K t × IsWithin P t x
  origin (given {x} k) = (x, k, within_itself)
  origin (later r runs) = let o = origin r in (o.0, o.1, within_next o.2 (run_may runs))

  reached_nodes : {m : ℕ} {members : List ℕ} {x : ℕ} → IsReached f (RunsAt f m members) x → IsWithinNodes P m members x
  reached_nodes r = let o = origin r in behind_node o.0 o.1 o.2

  module _ (block_words most m : ℕ) (K : ℕ → Type 0) (s : Search) (is : IsWhole f block_words most m K s) where
    -- a search that didn't pass the cache found all
    found : s.blocks ≤ most → {y x : ℕ} → IsReached f K y → IsWithin P y x → Contains s.methods x
    found fits {y} r within_itself = is.all fits y r
    found fits {y} r (within_calls {m} {t} {x} p start call target rest) =
        let code = All-contains (IsOfTable f) s.methods y is.search.coded (is.all fits y r) in
        let from = (calls P f y p t flow code).1 (record { start = start; call = call; is_target = target }) in
        found fits (later r (record { place = p; from = from })) rest

    found_at : s.blocks ≤ most → {members : List ℕ} → ((x : ℕ) → RunsAt f m members x → K x) → {x : ℕ} → IsWithinNodes P m members x → Contains s.methods x
    found_at fits {members} seeds (nodes_itself same) = let Q : ℕ → Type 0 = λ z. Contains s.methods z in subst Q (sym same) is.itself
    found_at fits {members} seeds (nodes_calls p t node start call target rest) =
        let code = All-contains (IsOfTable f) s.methods m is.search.coded is.itself in
        let from = (calls P f m p t flow code).1 (record { start = start; call = call; is_target = target }) in
        found fits (given (seeds t (record { place = p; node = node; from = from }))) rest

    -- the answer of a search that found a set
    answer : (W : ℕ → Type 0) (r : Region) → IsAnswer most s r → ((x : ℕ) → Contains s.methods x → W x) → (s.blocks ≤ most → (x : ℕ) → W x → Contains s.methods x) → IsRegionAnswer P most block_words W r
    answer W (Fits xs) a no_other all =
        let fits = a.0 in
        let moved = a.1 in
        let rising = a.2 in
        let size : ℕ → ℕ = λ x. blocks_for block_words (code_words P x) in
        let same = sum_by-same size (blocks_in f block_words) xs (blocks_are P f flow block_words) in
        let kept = sum_by-IsPermutation (blocks_in f block_words) s.methods xs moved in
        let total = is.search.blocks in
        record {
          methods = record {
            distinct = rising_differ xs rising;
            each = λ x. (
              λ has. no_other x (Contains-permutation xs s.methods x (IsPermutation-sym s.methods xs moved) has),
              λ w. Contains-permutation s.methods xs x moved (all fits x w),
            );
          };
          fit = omega arith;
          rising = rising;
        }
    answer W Exceeds past no_other all = λ xs are fit.
        let size : ℕ → ℕ = λ x. blocks_for block_words (code_words P x) in
        let same = sum_by-same size (blocks_in f block_words) xs (blocks_are P f flow block_words) in
        let part = sum_of_part (blocks_in f block_words) s.methods xs is.search.distinct (λ z has. (are.each z).1 (no_other z has)) in
        let total = is.search.blocks in
        omega arith

  pub region_answer : (block_words most m : ℕ) (s : Search) (r : Region) → IsWhole f block_words most m (λ x. x ≡ m) s → IsAnswer most s r → IsRegionAnswer P most block_words (IsWithin P m) r
  region_answer block_words most m s r is a =
      let first : (x : ℕ) → x ≡ m → IsWithin P m x = λ x same. let Q : ℕ → Type 0 = λ z. IsWithin P m z in subst Q (sym same) within_itself in
      answer block_words most m (λ x. x ≡ m) s is (IsWithin P m) r a
      (λ x has. elim (is.no_other x has) [ inl same ↦ first x same | inr reached ↦ reached_within first reached ])
      (λ fits x w. found block_words most m (λ x. x ≡ m) s is fits (given refl) w)

  pub loop_answer : (block_words most m : ℕ) (members : List ℕ) (s : Search) (r : Region) → IsWhole f block_words most m (RunsAt f m members) s → IsAnswer most s r → IsRegionAnswer P most block_words (IsWithinNodes P m members) r
  loop_answer block_words most m members s r is a =
      answer block_words most m (RunsAt f m members) s is (IsWithinNodes P m members) r a
      (λ x has. elim (is.no_other x has) [ inl same ↦ nodes_itself same | inr reached ↦ reached_nodes reached ])
      (λ fits x w. found_at block_words most m (RunsAt f m members) s is fits (λ t k. k) w)

-- ---- calls of a method at nodes

pub runs_at : (f : Flow) (m t : ℕ) (nodes : List ℕ) (code : IsOfTable f m) → IsTargetAt f code.method.calls nodes t → RunsAt f m nodes t
runs_at f m t nodes code at = record { place = at.call.place; node = at.node; from = record { code = code; call = at.call; among = at.among; at = refl; lists = at.lists } }

pub at_runs : (f : Flow) (m t : ℕ) (nodes : List ℕ) (k : Coded) → slice_get f.methods m ≡ Some k → RunsAt f m nodes t → IsTargetAt f k.calls nodes t
at_runs f m t nodes k is r =
    let same : r.from.code.method ≡ k = some_same r.from.code.method k (sym r.from.code.is ∙ is) in
    let P : Coded → Type 0 = λ j. Contains j.calls r.from.call in
    let Q : ℕ → Type 0 = λ p. Contains nodes (2 * p) in
    record { call = r.from.call; among = subst P same r.from.among; node = subst Q (sym r.from.at) r.node; lists = r.from.lists }
