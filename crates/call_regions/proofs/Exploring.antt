-- The search for what may run while the methods of a queue do.
use Rattle.std.proofs.Common.{◌≡◌, ◌⊎◌, ℕ, ◌+◌, ◌*◌, ◌<◌, ◌≤◌, List, [], ◌++◌, length, get_or, Contains, Option, Some, refl, sym, ap, ◌∙◌, subst, inl, inr, arith}
use Rattle.std.specs.Prelude.{slice_get}
use Rattle.std.specs.Int.{div_ceil}
use Rattle.std.proofs.lemmas.Bool.{cases_lt}
use Rattle.std.proofs.lemmas.Grind.{div_ceil_times}
use Rattle.base.specs.Packed.{words_for}
use Rattle.method_cache.specs.Contents.{blocks_for}
use Rattle.std.proofs.lemmas.List.{append-nil, append_assoc, get_or_append_left}
use Rattle.std.proofs.lemmas.List.Elements.{All-contains, Contains-append_left}
use Rattle.std.proofs.lemmas.Option.{slice_get-get_or, slice_get_within, get_or_from_slice_get}
use Rattle.lists.proofs.Lemmas.{some_same}
use Rattle.method_flow.specs.Flow.{Flow, Coded}
use Rattle.call_regions.specs.Tables.{IsOfTable, IsTargetOf, Runs, IsReached, words_of, blocks_in}
use Rattle.call_regions.specs.Tables.IsReached.{given, later}
use Rattle.call_regions.specs.Searching.{IsSearch, FindsAll}
use Rattle.call_regions.specs.declared.search.Search.{Search}
use Rattle.call_regions.proofs.Lists.{sum_of_part, length-le-sum_by, from_get, get_contained}
use Rattle.call_regions.proofs.Growing.{queue_kept}

-- a part is some parts
div_ceil-some : (a b : ℕ) → 0 < a → 0 < b → 0 < div_ceil a b
div_ceil-some a b some size =
    let h = (div_ceil_times a b size).0 in
    elim (cases_lt 0 (div_ceil a b)) [
      | inl more ↦ more
      | inr none ↦
          let zero' : div_ceil a b ≡ 0 = omega arith in
          let e : div_ceil a b * b ≡ 0 * b = ap (λ n. n * b) zero' in absurd (omega arith)
    ]

-- a method takes a block at least
pub block_of : (f : Flow) (block_words z : ℕ) → 0 < block_words → IsOfTable f z → 0 < blocks_in f block_words z
block_of f block_words z size code =
    let P : Option Coded → Type 0 = λ o. 0 < blocks_for block_words (words_of o) in
    subst P (sym code.is) (div_ceil-some (words_for (length code.method.code)) block_words (div_ceil-some (length code.method.code) 4 code.coded.not_empty (omega arith)) size)

-- what the methods of the queue before a place may run was found
pub record Explores (f : Flow) (block_words most : ℕ) (old new : Search) (at : ℕ) : Type 0 where
  pub search : IsSearch f block_words new
  pub more : List ℕ
  pub queue : new.queue ≡ old.queue ++ more
  pub kept : (x : ℕ) → Contains old.methods x → Contains new.methods x
  pub methods : (x : ℕ) → Contains new.methods x → Contains old.methods x ⊎ Contains new.queue x
  pub no_other : (x : ℕ) → Contains new.queue x → IsReached f (Contains old.queue) x
  pub closed : new.blocks ≤ most → (i y t : ℕ) → i < at → slice_get new.queue i ≡ Some y → Runs f y t → Contains new.queue t

-- a method runs just the targets of its calls
pub runs_one : (f : Flow) (y t : ℕ) (k : Coded) → slice_get f.methods y ≡ Some k → Runs f y t → IsTargetOf f k.calls t
runs_one f y t k is r =
    let same : r.from.code.method ≡ k = some_same r.from.code.method k (sym r.from.code.is ∙ is) in
    let P : Coded → Type 0 = λ j. Contains j.calls r.from.call in
    record { call = r.from.call; among = subst P same r.from.among; lists = r.from.lists }

pub target_runs : (f : Flow) (y t : ℕ) (code : IsOfTable f y) → IsTargetOf f code.method.calls t → Runs f y t
target_runs f y t code target = record { place = target.call.place; from = record { code = code; call = target.call; among = target.among; at = refl; lists = target.lists } }

module _ (f : Flow) (block_words most : ℕ) where
  pub explores_none : (s : Search) → IsSearch f block_words s → Explores f block_words most s s 0
  explores_none s search = record {
    search = search;
    more = [];
    queue = sym (append-nil s.queue);
    kept = λ x c. c;
    methods = λ x c. inl c;
    no_other = λ x c. given c;
    closed = λ fits i y t lt at runs. absurd (omega arith);
  }

  -- an item of the queue stays at its place
  at_same : (K : ℕ → Type 0) (b c : Search) → FindsAll f block_words most K b c → (i y : ℕ) → i < length b.queue → slice_get c.queue i ≡ Some y → slice_get b.queue i ≡ Some y
  at_same K b c finds i y lt at =
      let e : get_or c.queue i y ≡ get_or b.queue i y = ap (λ (q : List ℕ). get_or q i y) finds.queue ∙ get_or_append_left b.queue finds.more y i lt in
      slice_get-get_or b.queue i y lt ∙ ap Some (sym e ∙ get_or_from_slice_get c.queue i y y at)

  pub explores_more : (a b c : Search) (at y : ℕ) (code : IsOfTable f y) → Explores f block_words most a b at → b.blocks ≤ most → slice_get b.queue at ≡ Some y → FindsAll f block_words most (IsTargetOf f code.method.calls) b c
      → Explores f block_words most a c (at + 1)
  explores_more a b c at y code was fits here finds = record {
    search = finds.search;
    more = was.more ++ finds.more;
    queue = finds.queue ∙ ap (λ q. q ++ finds.more) was.queue ∙ append_assoc a.queue was.more finds.more;
    kept = λ x k. finds.kept x (was.kept x k);
    methods = λ x k.
        elim (finds.methods x k) [
          | inl there ↦ elim (was.methods x there) [ inl old ↦ inl old | inr queued ↦ inr (queue_kept f block_words most (IsTargetOf f code.method.calls) b c finds x queued) ]
          | inr queued ↦ inr queued
        ];
    no_other = λ x k.
        elim (finds.no_other x k) [
          | inl there ↦ was.no_other x there
          | inr target ↦ later (was.no_other y (from_get b.queue at y here)) (target_runs f y x code target)
        ];
    closed = λ small i z t lt there runs.
        let inside : at < length b.queue = slice_get_within b.queue at y here in
        let below : i < length b.queue = omega arith in
        let before = at_same (IsTargetOf f code.method.calls) b c finds i z below there in
        elim (cases_lt i at) [
          | inl less ↦ queue_kept f block_words most (IsTargetOf f code.method.calls) b c finds t (was.closed fits i z t less before runs)
          | inr more ↦
              let same : i ≡ at = omega arith in
              let P : ℕ → Type 0 = λ j. slice_get b.queue j ≡ Some z in
              let one : z ≡ y = some_same z y (sym (subst P same before) ∙ here) in
              let R : ℕ → Type 0 = λ w. Runs f w t in
              finds.all small t (runs_one f y t code.method code.is (subst R one runs))
        ];
  }

  -- all that is reached is in the queue
  reached_all : (a b : Search) (at : ℕ) → Explores f block_words most a b at → b.blocks ≤ most → length b.queue ≤ at → {x : ℕ} → IsReached f (Contains a.queue) x → Contains b.queue x
  reached_all a b at was fits end (given {x} c) = let P : List ℕ → Type 0 = λ q. Contains q x in subst P (sym was.queue) (Contains-append_left a.queue was.more x c)
  reached_all a b at was fits end (later {x} {t} r runs) =
      let there = get_contained b.queue x (reached_all a b at was fits end r) in
      let inside = slice_get_within b.queue there.0 x there.1 in
      was.closed fits there.0 x t (omega arith) there.1 runs

  pub explored : (a b : Search) (at : ℕ) → Explores f block_words most a b at → (b.blocks ≤ most → length b.queue ≤ at) → FindsAll f block_words most (IsReached f (Contains a.queue)) a b
  explored a b at was end = record {
    search = was.search;
    more = was.more;
    queue = was.queue;
    kept = was.kept;
    methods = was.methods;
    no_other = λ x c. inr (was.no_other x c);
    all = λ fits x r. reached_all a b at was fits (end fits) r;
  }

  -- the queue is no longer than there are blocks
  pub queue_is_short : 0 < block_words → (s : Search) → IsSearch f block_words s → length s.queue ≤ s.blocks
  queue_is_short size s search =
      let each : (z : ℕ) → Contains s.queue z → 0 < blocks_in f block_words z = λ z c. block_of f block_words z size (All-contains (IsOfTable f) s.methods z search.coded (search.within z c)) in
      let count = length-le-sum_by (blocks_in f block_words) s.queue each in
      let part = sum_of_part (blocks_in f block_words) s.queue s.methods search.queued_once search.within in
      let total = search.blocks in
      omega arith
