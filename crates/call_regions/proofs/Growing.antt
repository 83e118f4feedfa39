-- The search for all methods that may run, step by step.
use Rattle.std.proofs.Common.{◌≡◌, ◌⊎◌, ℕ, ◌+◌, ◌≤◌, List, [], ◌∷◌, ◌++◌, sum_by, All, Contains, Result, Ok, Err, OnOk, refl, sym, ap, ◌∙◌, subst, inl, inr}
use Rattle.std.proofs.lemmas.List.{append-nil, append_assoc}
use Rattle.std.proofs.lemmas.List.Sums.{sum_by_push}
use Rattle.std.proofs.lemmas.List.Elements.{All-push, Contains-push, Contains-push_cases, Contains-append_left}
use Rattle.method_cache.specs.Regions.Region.{AreDistinct}
use Rattle.number_sets.specs.Numbers.{with_number}
use Rattle.method_flow.specs.Flow.{Flow}
use Rattle.call_regions.specs.Tables.{IsOfTable, blocks_in}
use Rattle.call_regions.specs.Searching.{IsSearch, Adds, FindsAll}
use Rattle.call_regions.specs.declared.search.Search.{Search}
use Rattle.call_regions.proofs.Lists.{is_with, distinct_push}
use Rattle.call_regions.proofs.Lists.IsWith.{had, added}

-- what a call gives where it doesn't fail
pub on_ok : {T E : Type 0} (r : Result T E) {P Q : Type 0} → (P → Q) → OnOk r P → OnOk r Q
on_ok (Ok x) f h = f h
on_ok (Err e) f h = tt

-- ---- one method more

module _ (f : Flow) (block_words : ℕ) where
  -- a method that was found already
  pub adds_known : (s : Search) (t : ℕ) → IsSearch f block_words s → Contains s.methods t → Adds f block_words t s s
  adds_known s t search has = record { search = search; queue = refl; kept = λ x c. c; has = has; only = λ x c. inl c }

  -- and one that wasn't
  pub adds_new : (old : Search) (new : Search) (t : ℕ) → IsSearch f block_words old → (Contains old.methods t → ⊥) → IsOfTable f t → new.queue ≡ old.queue → new.methods ≡ with_number old.methods t → new.blocks ≡ old.blocks + blocks_in f block_words t
      → Adds f block_words t old new
  adds_new old new t search apart code queue methods blocks =
      let are : new.methods ≡ old.methods ++ t ∷ [] =
      elim (is_with old.methods t) [ had c e ↦ absurd (apart c) | added never e ↦ methods ∙ e ] in
      let D : List ℕ → Type 0 = λ ms. AreDistinct ms in
      let C : List ℕ → Type 0 = λ ms. All (IsOfTable f) ms in
      let H : ℕ → List ℕ → Type 0 = λ x ms. Contains ms x in
      let kept : (x : ℕ) → Contains old.methods x → Contains new.methods x = λ x c. subst (H x) (sym are) (Contains-append_left old.methods (t ∷ []) x c) in
      record {
        search = record {
          within = λ x c. kept x (search.within x (let Q : List ℕ → Type 0 = λ q. Contains q x in subst Q queue c));
          distinct = subst D (sym are) (distinct_push old.methods t search.distinct apart);
          queued_once = subst D (sym queue) search.queued_once;
          coded = subst C (sym are) (All-push (IsOfTable f) old.methods t search.coded code);
          blocks =
              blocks ∙ ap (λ n. n + blocks_in f block_words t) search.blocks ∙ sym (sum_by_push (blocks_in f block_words) old.methods t) ∙ ap (sum_by (blocks_in f block_words)) (sym are);
        };
        queue = queue;
        kept = kept;
        has = subst (H t) (sym are) (Contains-push old.methods t);
        only = λ x c. elim (Contains-push_cases old.methods t x (subst (H x) are c)) [ inl there ↦ inl there | inr same ↦ inr (sym same) ];
      }

  module _ (most : ℕ) where
    -- a method that is to be looked at already
    pub finds_queued : (s : Search) (t : ℕ) → IsSearch f block_words s → Contains s.queue t → FindsAll f block_words most (λ x. x ≡ t) s s
    finds_queued s t search has = record {
      search = search;
      more = [];
      queue = sym (append-nil s.queue);
      kept = λ x c. c;
      methods = λ x c. inl c;
      no_other = λ x c. inl c;
      all = λ fits x same. let Q : ℕ → Type 0 = λ z. Contains s.queue z in subst Q (sym same) has;
    }

    -- and one that isn't yet
    pub finds_one : (old mid new : Search) (t : ℕ) → (Contains old.queue t → ⊥) → IsSearch f block_words old → Adds f block_words t old mid → new.queue ≡ with_number mid.queue t → new.methods ≡ mid.methods → new.blocks ≡ mid.blocks
        → FindsAll f block_words most (λ x. x ≡ t) old new
    finds_one old mid new t apart search adds queue methods blocks =
        let are : new.queue ≡ old.queue ++ t ∷ [] =
        queue ∙ ap (λ q. with_number q t) adds.queue ∙ elim (is_with old.queue t) [ had c e ↦ absurd (apart c) | added never e ↦ e ] in
        let D : List ℕ → Type 0 = λ ms. AreDistinct ms in
        let C : List ℕ → Type 0 = λ ms. All (IsOfTable f) ms in
        let H : ℕ → List ℕ → Type 0 = λ x ms. Contains ms x in
        let known : (x : ℕ) → Contains mid.methods x → Contains new.methods x = λ x c. subst (H x) (sym methods) c in
        record {
          search = record {
            within = λ x c.
                elim (Contains-push_cases old.queue t x (subst (H x) are c)) [
                  | inl there ↦ known x (adds.kept x (search.within x there))
                  | inr same ↦ let Q : ℕ → Type 0 = λ z. Contains new.methods z in subst Q same (known t adds.has)
                ];
            distinct = subst D (sym methods) adds.search.distinct;
            queued_once = subst D (sym are) (distinct_push old.queue t search.queued_once apart);
            coded = subst C (sym methods) adds.search.coded;
            blocks = blocks ∙ adds.search.blocks ∙ ap (sum_by (blocks_in f block_words)) (sym methods);
          };
          more = t ∷ [];
          queue = are;
          kept = λ x c. known x (adds.kept x c);
          methods = λ x c.
              elim (adds.only x (subst (H x) methods c)) [
                | inl there ↦ inl there
                | inr same ↦ inr (let Q : ℕ → Type 0 = λ z. Contains new.queue z in subst Q (sym same) (subst (H t) (sym are) (Contains-push old.queue t)))
              ];
          no_other = λ x c. elim (Contains-push_cases old.queue t x (subst (H x) are c)) [ inl there ↦ inl there | inr same ↦ inr (sym same) ];
          all = λ fits x same. let Q : ℕ → Type 0 = λ z. Contains new.queue z in subst Q (sym same) (subst (H t) (sym are) (Contains-push old.queue t));
        }

    -- ---- several searches behind one another

    -- nothing is to be found
    pub finds_none : (K : ℕ → Type 0) (s : Search) → IsSearch f block_words s → ((x : ℕ) → K x → ⊥) → FindsAll f block_words most K s s
    finds_none K s search none = record {
      search = search;
      more = [];
      queue = sym (append-nil s.queue);
      kept = λ x c. c;
      methods = λ x c. inl c;
      no_other = λ x c. inl c;
      all = λ fits x k. absurd (none x k);
    }

    -- the cache is passed before all of a set was looked at
    pub finds_part : (K L : ℕ → Type 0) (old new : Search) → FindsAll f block_words most K old new → ((x : ℕ) → K x → L x) → (new.blocks ≤ most → ⊥) → FindsAll f block_words most L old new
    finds_part K L old new finds more past = record {
      search = finds.search;
      more = finds.more;
      queue = finds.queue;
      kept = finds.kept;
      methods = finds.methods;
      no_other = λ x c. elim (finds.no_other x c) [ inl there ↦ inl there | inr k ↦ inr (more x k) ];
      all = λ fits x l. absurd (past fits);
    }

    -- the same set in other words
    pub finds_same : (K L : ℕ → Type 0) (old new : Search) → FindsAll f block_words most K old new → ((x : ℕ) → K x → L x) → ((x : ℕ) → L x → K x) → FindsAll f block_words most L old new
    finds_same K L old new finds to back = record {
      search = finds.search;
      more = finds.more;
      queue = finds.queue;
      kept = finds.kept;
      methods = finds.methods;
      no_other = λ x c. elim (finds.no_other x c) [ inl there ↦ inl there | inr k ↦ inr (to x k) ];
      all = λ fits x l. finds.all fits x (back x l);
    }

    pub queue_kept : (K : ℕ → Type 0) (old new : Search) → FindsAll f block_words most K old new → (x : ℕ) → Contains old.queue x → Contains new.queue x
    queue_kept K old new finds x c = let H : List ℕ → Type 0 = λ q. Contains q x in subst H (sym finds.queue) (Contains-append_left old.queue finds.more x c)

    -- one search behind another
    pub finds_then : (K L M : ℕ → Type 0) (a b c : Search) → FindsAll f block_words most K a b → b.blocks ≤ most → FindsAll f block_words most L b c → ((x : ℕ) → K x → M x) → ((x : ℕ) → L x → M x) → ((x : ℕ) → M x → K x ⊎ L x)
        → FindsAll f block_words most M a c
    finds_then K L M a b c first fits second from_first from_second parts = record {
      search = second.search;
      more = first.more ++ second.more;
      queue = second.queue ∙ ap (λ q. q ++ second.more) first.queue ∙ append_assoc a.queue first.more second.more;
      kept = λ x k. second.kept x (first.kept x k);
      methods = λ x k.
          elim (second.methods x k) [
            | inl there ↦ elim (first.methods x there) [ inl old ↦ inl old | inr queued ↦ inr (queue_kept L b c second x queued) ]
            | inr queued ↦ inr queued
          ];
      no_other = λ x k.
          elim (second.no_other x k) [
            | inl there ↦ elim (first.no_other x there) [ inl old ↦ inl old | inr is ↦ inr (from_first x is) ]
            | inr is ↦ inr (from_second x is)
          ];
      all = λ small x m.
          elim (parts x m) [
            | inl k ↦ queue_kept L b c second x (first.all fits x k)
            | inr l ↦ second.all small x l
          ];
    }
