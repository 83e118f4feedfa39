-- The members that were loaded are the newest that the cache holds.
use Rattle.std.proofs.Common.{◌≡◌, ◌≢◌, ℕ, ◌+◌, ◌-◌, ◌≤◌, Bool, true, false, cond, nat_le, eqb, List, [], ◌∷◌, ◌++◌, length, All, Contains, Option, Some, None, is_some, refl, sym, ap, ◌∙◌, subst, inl, inr, arith}
use Rattle.std.proofs.lemmas.Bool.{eq-eqb, le-leb, cond-true}
use Rattle.std.proofs.lemmas.List.Sums.{sum_by-cons}
use Rattle.std.proofs.lemmas.List.Elements.{All-nil, All-cons, All-head, All-tail, All-weaker, All-contains, All-contains_itself}
use Rattle.std.proofs.lemmas.List.Kept.{AllPairs-cons}
use Rattle.method_cache.specs.Contents.{Entry, Cache, blocks_for, blocks_of, total_blocks, fitting, find_words, is_cached, loaded}
use Rattle.method_cache.specs.Regions.Region.{AreDistinct}
use Rattle.method_cache.specs.Regions.LookUps.{loads, blocks_taken}
use Rattle.method_cache.proofs.RegionsLemmas.Parts.{at_head, in_tail, cons_cases, nil_contains, sum_of_part}

abbrev pub entry_of : (ℕ → List ℕ) → ℕ → Entry
entry_of words m = record { method = m; words = words m }

abbrev pub entries_of : (ℕ → List ℕ) → List ℕ → List Entry
entries_of words [] = []
entries_of words (m ∷ ms) = entry_of words m ∷ entries_of words ms

total_blocks-entries : (words : ℕ → List ℕ) (w : ℕ) (ms : List ℕ) → total_blocks w (entries_of words ms) ≡ blocks_taken words w ms
total_blocks-entries words w [] = refl
total_blocks-entries words w (m ∷ ms) =
    ap (λ n. blocks_for w (length (words m)) + n) (total_blocks-entries words w ms) ∙ sym (sum_by-cons (λ k. blocks_for w (length (words k))) m ms)

-- the first of the methods that fit stay
fitting-prefix : (w room : ℕ) (es older : List Entry) → total_blocks w es ≤ room → (rest : List Entry) × (fitting w room (es ++ older) ≡ es ++ rest)
fitting-prefix w room [] older fits = (fitting w room older, refl)
fitting-prefix w room (e ∷ es) older fits =
    let left = room - blocks_of w e in
    let r = fitting-prefix w left es older (omega arith) in
    (r.0, cond-true (nat_le (blocks_of w e) room) (e ∷ fitting w left (es ++ older)) [] (le-leb (blocks_of w e) room (omega arith)) ∙ ap (λ (fs : List Entry). e ∷ fs) r.1)

none_from : (o : Option (List ℕ)) → is_some o ≡ false → o ≡ None
none_from None h = refl
none_from (Some x) h = let bad : ⊥ = cc in absurd bad

-- the cache holds the methods of its entries
absent : (words : ℕ → List ℕ) (m : ℕ) (ms : List ℕ) (older : List Entry) → find_words m (entries_of words ms ++ older) ≡ None → Contains ms m → ⊥
absent words m [] older none c = nil_contains m c
absent words m (x ∷ xs) older none c =
    let rest = find_words m (entries_of words xs ++ older) in
    let P : Bool → Type 0 = λ b. (eqb x m ≡ b) → cond b (Some (words x)) rest ≡ None → ⊥ in
    elim (eqb x m) as P [
      | true ↦ λ e k. let bad : ⊥ = cc in bad
      | false ↦ λ e k.
          elim (cons_cases x m xs c) [
            | inl same ↦ let t = eq-eqb x m same in let bad : ⊥ = cc in bad
            | inr there ↦ absent words m xs older k there
          ]
    ] refl none

-- what is held of the methods that were loaded, the newest of the cache
pub record AreNewest (words : ℕ → List ℕ) (members newest : List ℕ) (c : Cache) : Type 0 where
  pub older : List Entry
  pub contents : c.contents ≡ entries_of words newest ++ older
  pub distinct : AreDistinct newest
  pub within : All (Contains members) newest

pub record AreFreshLoads (members newest ms : List ℕ) : Type 0 where
  pub distinct : AreDistinct ms
  pub within : All (Contains members) ms
  pub fresh : All (λ m. Contains newest m → ⊥) ms

-- a method that is looked up and not found is none of them
missed_apart : (words : ℕ → List ℕ) (members newest : List ℕ) (c : Cache) (m : ℕ) → is_cached m c ≡ false → AreNewest words members newest c → Contains newest m → ⊥
missed_apart words members newest c m missed was =
    absent words m newest was.older (ap (find_words m) (sym was.contents) ∙ none_from (find_words m c.contents) missed)

-- a method that is loaded is the newest
newest_with : (words : ℕ → List ℕ) (members newest : List ℕ) (c : Cache) (m : ℕ) → blocks_taken words c.block_words members ≤ c.blocks → Contains members m → is_cached m c ≡ false → AreNewest words members newest c
    → AreNewest words members (m ∷ newest) (loaded m (words m) c)
newest_with words members newest c m fits member missed was =
    let other : (z : ℕ) → Contains newest z → m ≢ z = λ z has same. missed_apart words members newest c m missed was (let P : ℕ → Type 0 = λ k. Contains newest k in subst P (sym same) has) in
    let distinct : AreDistinct (m ∷ newest) = AllPairs-cons (λ a b. a ≢ b) m newest (All-weaker (Contains newest) (λ z. m ≢ z) other newest (All-contains_itself newest)) was.distinct in
    let within : All (Contains members) (m ∷ newest) = All-cons (Contains members) m newest member was.within in
    let small = sum_of_part (λ k. blocks_for c.block_words (length (words k))) (m ∷ newest) members distinct (λ z has. All-contains (Contains members) (m ∷ newest) z within has) in
    let r = fitting-prefix c.block_words c.blocks (entries_of words (m ∷ newest)) was.older (omega (arith, total_blocks-entries words c.block_words (m ∷ newest))) in
    record {
      older = r.0;
      contents = ap (λ es. fitting c.block_words c.blocks (entry_of words m ∷ es)) was.contents ∙ r.1;
      distinct = distinct;
      within = within;
    }

pub fresh_loads : (words : ℕ → List ℕ) (members look_ups newest : List ℕ) (c : Cache) → blocks_taken words c.block_words members ≤ c.blocks → All (Contains members) look_ups → AreNewest words members newest c
    → AreFreshLoads members newest (loads words look_ups c)
fresh_loads words members [] newest c fits asked was =
    record { distinct = λ i j d less below. absurd (omega arith); within = All-nil (Contains members); fresh = All-nil (λ m. Contains newest m → ⊥) }
fresh_loads words members (m ∷ ms) newest c fits asked was =
    let member = All-head (Contains members) m ms asked in
    let later = All-tail (Contains members) m ms asked in
    let P : Bool → Type 0 = λ b. (is_cached m c ≡ b) → AreFreshLoads members newest (cond b (loads words ms c) (m ∷ loads words ms (loaded m (words m) c))) in
    elim (is_cached m c) as P [
      | true ↦ λ hit. fresh_loads words members ms newest c fits later was
      | false ↦ λ missed.
          let old : ℕ → Type 0 = λ z. Contains newest z → ⊥ in
          let new : ℕ → Type 0 = λ z. Contains (m ∷ newest) z → ⊥ in
          let rest = loads words ms (loaded m (words m) c) in
          let r = fresh_loads words members ms (m ∷ newest) (loaded m (words m) c) fits later (newest_with words members newest c m fits member missed was) in
          let apart : (z : ℕ) → new z → m ≢ z = λ z never same. never (let Q : ℕ → Type 0 = λ k. Contains (m ∷ newest) k in subst Q same (at_head m newest)) in
          record {
            distinct = AllPairs-cons (λ a b. a ≢ b) m rest (All-weaker new (λ z. m ≢ z) apart rest r.fresh) r.distinct;
            within = All-cons (Contains members) m rest member r.within;
            fresh = All-cons old m rest (missed_apart words members newest c m missed was) (All-weaker new old (λ z never has. never (in_tail m z newest has)) rest r.fresh);
          }
    ] refl

-- before the first look-up none was loaded
pub newest_none : (words : ℕ → List ℕ) (members : List ℕ) (c : Cache) → AreNewest words members [] c
newest_none words members c = record { older = c.contents; contents = refl; distinct = λ i j d less below. absurd (omega arith); within = All-nil (Contains members) }
