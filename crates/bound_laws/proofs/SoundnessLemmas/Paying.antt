-- Step by step, what a stay has taken is at most what was charged, or the stalls since a region was entered are still to be told from its fee.
use Rattle.std.proofs.Common.{◌≡◌, ◌⊎◌, ℕ, ◌+◌, ◌≤◌, Bool, true, false, List, [], ◌∷◌, ◌++◌, All, Contains, Option, Some, None, refl, sym, ap, ◌∙◌, subst, inl, inr, arith}
use Rattle.std.proofs.lemmas.Bool.{cases_eq}
use Rattle.std.proofs.lemmas.List.Elements.{All-append, All-cons, All-nil}
use Rattle.method_cache.specs.Contents.{Cache, is_cached}
use Rattle.method_cache.specs.Regions.LookUps.{after, blocks_taken, LoadsKeepTheSum, LookUpsKeepSizes, LookUpsFollow, StallsFollow}
use Rattle.bound_laws.specs.Soundness.Charges.{Charges, stall, load_of, AreCharged, HasSizes, start_fee, charge_of}
use Rattle.bound_laws.specs.Soundness.Stays.{IsCoveredIn, IsCovered, EntersNone, Stays, StaysArePaid}
use Rattle.bound_laws.specs.Soundness.Stays.Stays.{last, goes, raises, handles, returns, drops}

module _ (k : Charges) (charged : AreCharged k) (sums : LoadsKeepTheSum) (sizes : LookUpsKeepSizes) (follow : LookUpsFollow) (stalls : StallsFollow) where
  -- the stalls of the region l since it was entered
  record IsOpen (l : ℕ) (c : Cache) (paid taken : ℕ) : Type 0 where
    start : Cache
    start_sizes : HasSizes k start
    look_ups : List ℕ
    among : All (Contains (k.methods l)) look_ups
    cache : c ≡ after k.words look_ups start
    most : taken + k.fee l ≤ paid + stall k look_ups start

  -- no region is open; at a raise step the method is in the cache, or a load of it is left over
  record IsShut (c : Cache) (u paid taken : ℕ) : Type 0 where
    most : taken ≤ paid
    spare : k.is_raise u ≡ true → (is_cached k.own c ≡ true) ⊎ (taken + load_of k k.own ≤ paid)

  data Account (c : Cache) (u paid taken : ℕ) : Type 0 where
    shut : k.region_of u ≡ None → IsShut c u paid taken → Account c u paid taken
    opened : (l w : ℕ) → k.region_of w ≡ Some l → (k.region_of u ≡ Some l) ⊎ ((k.region_of u ≡ None) × (k.is_raise u ≡ true)) → IsOpen l c paid taken → Account c u paid taken

  has_sizes : (ls : List ℕ) (c : Cache) → HasSizes k c → HasSizes k (after k.words ls c)
  has_sizes ls c h = let e = sizes k.words ls c in record { blocks = e.0 ∙ h.blocks; block_words = e.1 ∙ h.block_words }

  -- the stalls of an open region are at most its fee
  within_fee : (l w : ℕ) → k.region_of w ≡ Some l → (c : Cache) → HasSizes k c → (ls : List ℕ) → All (Contains (k.methods l)) ls → stall k ls c ≤ k.fee l
  within_fee l w at c h ls all =
      let fits : blocks_taken k.words c.block_words (k.methods l) ≤ c.blocks = subst (λ (x : ℕ). blocks_taken k.words x (k.methods l) ≤ c.blocks) (sym h.block_words) (subst (λ (x : ℕ). blocks_taken k.words k.block_words (k.methods l) ≤ x) (sym h.blocks) (charged.fits l w at)) in
      let most = sums k.words (k.methods l) ls c k.wait fits all in
      let fee = charged.covers l w at in
      omega arith

  open_paid : (l w : ℕ) → k.region_of w ≡ Some l → (c : Cache) (paid taken : ℕ) → IsOpen l c paid taken → taken ≤ paid
  open_paid l w at c paid taken o = let few = within_fee l w at o.start o.start_sizes o.look_ups o.among in let most = o.most in omega arith

  -- more look-ups, and cycles that are charged
  opens_on : (l : ℕ) (c : Cache) (paid taken : ℕ) → IsOpen l c paid taken → (n charge : ℕ) (ls : List ℕ) → n ≤ charge → All (Contains (k.methods l)) ls → IsOpen l (after k.words ls c) (paid + charge) (taken + n + stall k ls c)
  opens_on l c paid taken o n charge ls few all =
      let most = o.most in
      let at : stall k (o.look_ups ++ ls) o.start ≡ stall k o.look_ups o.start + stall k ls (after k.words o.look_ups o.start) = stalls k.words k.wait o.look_ups ls o.start in
      let here : stall k ls (after k.words o.look_ups o.start) ≡ stall k ls c = ap (λ (x : Cache). stall k ls x) (sym o.cache) in
      record {
        start = o.start;
        start_sizes = o.start_sizes;
        look_ups = o.look_ups ++ ls;
        among = All-append (Contains (k.methods l)) o.look_ups ls o.among all;
        cache = ap (λ (x : Cache). after k.words ls x) o.cache ∙ sym (follow k.words o.look_ups ls o.start);
        most = omega arith;
      }

  more_charged : (l : ℕ) (c : Cache) (paid taken more : ℕ) → IsOpen l c paid taken → IsOpen l c (paid + more) taken
  more_charged l c paid taken more o = let most = o.most in record { start = o.start; start_sizes = o.start_sizes; look_ups = o.look_ups; among = o.among; cache = o.cache; most = omega arith }

  -- a region is entered
  opens : (l : ℕ) (c : Cache) → HasSizes k c → (paid taken fee : ℕ) → taken ≤ paid → k.fee l ≤ fee → IsOpen l c (paid + fee) taken
  opens l c h paid taken fee few covers = record { start = c; start_sizes = h; look_ups = []; among = All-nil (Contains (k.methods l)); cache = refl; most = omega arith }

  -- after the step at u, before control comes to the next node
  data Stepped (u : ℕ) (c : Cache) (paid taken : ℕ) : Type 0 where
    closed : k.region_of u ≡ None → taken ≤ paid → Stepped u c paid taken
    still : (l w : ℕ) → k.region_of w ≡ Some l → (k.region_of u ≡ Some l) ⊎ ((k.region_of u ≡ None) × (k.is_raise u ≡ true)) → IsOpen l c paid taken → Stepped u c paid taken

  -- of a next node that is a raise step
  abbrev Raises : (u v : ℕ) → Cache → (paid taken : ℕ) → Type 0
  Raises u v c paid taken = (k.is_raise u ≡ false) × (k.is_raise v ≡ true) × EntersNone k u v × (k.region_of u ≡ None → (is_cached k.own c ≡ true) ⊎ (taken + load_of k k.own ≤ paid))

  stepped_paid : (u : ℕ) (c : Cache) (paid taken : ℕ) → Stepped u c paid taken → taken ≤ paid
  stepped_paid u c paid taken (closed none few) = few
  stepped_paid u c paid taken (still l w at where' o) = open_paid l w at c paid taken o

  -- control comes to a region from outside
  comes_in : (u v l : ℕ) → k.region_of v ≡ Some l → (k.region_of u ≡ Some l → ⊥) → (c : Cache) → HasSizes k c → (paid taken : ℕ) → taken ≤ paid → Account c v (paid + k.edge u v) taken
  comes_in u v l at outside c h paid taken few = opened l v at (inl at) (opens l c h paid taken (k.edge u v) few (charged.enters l u v at outside))

  not_some : (u l : ℕ) → k.region_of u ≡ None → k.region_of u ≡ Some l → ⊥
  not_some u l none some = cc

  other_some : (u l m : ℕ) → (l ≡ m → ⊥) → k.region_of u ≡ Some l → k.region_of u ≡ Some m → ⊥
  other_some u l m other at at' = let same : l ≡ m = cc in other same

  arrives : (u v : ℕ) (c : Cache) → HasSizes k c → (paid taken : ℕ) → Stepped u c paid taken → (k.is_raise v ≡ false) ⊎ Raises u v c paid taken → (o : Option ℕ) → k.region_of v ≡ o → Account c v (paid + k.edge u v) taken
  arrives u v c h paid taken (closed none few) (inl plain) None at = shut at (record { most = omega arith; spare = λ is. let bad : true ≡ false = sym is ∙ plain in absurd (cc) })
  arrives u v c h paid taken (closed none few) (inr r) None at =
      shut at (record { most = omega arith; spare = λ is. elim (r.3 none) [ inl cached ↦ inl cached | inr owed ↦ inr (omega arith) ] })
  arrives u v c h paid taken (closed none few) next (Some l) at = comes_in u v l at (not_some u l none) c h paid taken few
  arrives u v c h paid taken (still l w at0 (inl in') o) (inl plain) None at =
      let few = open_paid l w at0 c paid taken o in
      shut at (record { most = omega arith; spare = λ is. let bad : true ≡ false = sym is ∙ plain in absurd (cc) })
  arrives u v c h paid taken (still l w at0 (inl in') o) (inr r) None at = opened l w at0 (inr (at, r.1)) (more_charged l c paid taken (k.edge u v) o)
  arrives u v c h paid taken (still l w at0 (inl in') o) next (Some m) at =
      elim (cases_eq l m) [
        | inl same ↦ opened l w at0 (inl (at ∙ ap (λ (x : ℕ). Some x) (sym same))) (more_charged l c paid taken (k.edge u v) o)
        | inr other ↦ comes_in u v m at (other_some u l m other in') c h paid taken (open_paid l w at0 c paid taken o)
      ]
  arrives u v c h paid taken (still l w at0 (inr tail) o) (inl plain) None at =
      let few = open_paid l w at0 c paid taken o in
      shut at (record { most = omega arith; spare = λ is. let bad : true ≡ false = sym is ∙ plain in absurd (cc) })
  arrives u v c h paid taken (still l w at0 (inr tail) o) (inr r) None at = let bad : true ≡ false = sym tail.1 ∙ r.0 in absurd (cc)
  arrives u v c h paid taken (still l w at0 (inr tail) o) next (Some m) at = comes_in u v m at (not_some u m tail.0) c h paid taken (open_paid l w at0 c paid taken o)

  -- ---- the look-up of the method itself

  -- where it is in the cache it takes nothing, and else at most its load
  own_stall : (c : Cache) → stall k (k.own ∷ []) c ≤ load_of k k.own
  own_stall c = by (is_cached k.own c) refl
    where
      by : (b : Bool) → is_cached k.own c ≡ b → stall k (k.own ∷ []) c ≤ load_of k k.own
      by true is = let e : stall k (k.own ∷ []) c ≡ 0 = rw is refl in omega arith
      by false is = let e : stall k (k.own ∷ []) c ≡ 0 + load_of k k.own = rw is refl in omega arith

  own_hits : (c : Cache) → is_cached k.own c ≡ true → stall k (k.own ∷ []) c ≡ 0
  own_hits c is = rw is refl

  none_taken : (c : Cache) → stall k [] c ≡ 0
  none_taken c = refl

  -- ---- the step at a node

  -- one that looks up nothing
  quietly : (u n : ℕ) (c : Cache) (paid taken : ℕ) → n ≤ k.node u → Account c u paid taken → Stepped u c (paid + k.node u) (taken + n)
  quietly u n c paid taken few (shut none s) = let m = s.most in closed none (omega arith)
  quietly u n c paid taken few (opened l w at where' o) =
      let more = opens_on l c paid taken o n (k.node u) [] few (All-nil (Contains (k.methods l))) in
      let Q : ℕ → Type 0 = λ x. IsOpen l c (paid + k.node u) x in
      still l w at where' (subst Q (omega arith) more)

  handled : (u n : ℕ) (c : Cache) (paid taken : ℕ) → k.is_raise u ≡ true → n ≤ k.node u → Account c u paid taken → Stepped u (after k.words (k.own ∷ []) c) (paid + k.node u) (taken + (n + stall k (k.own ∷ []) c))
  handled u n c paid taken raise few (shut none s) =
      let m = s.most in
      elim (s.spare raise) [
        | inl cached ↦ let hit = own_hits c cached in closed none (omega arith)
        | inr owed ↦ let most = own_stall c in closed none (omega arith)
      ]
  handled u n c paid taken raise few (opened l w at where' o) =
      let more = opens_on l c paid taken o n (k.node u) (k.own ∷ []) few (All-cons (Contains (k.methods l)) k.own [] (charged.own_within l w at) (All-nil (Contains (k.methods l)))) in
      let Q : ℕ → Type 0 = λ x. IsOpen l (after k.words (k.own ∷ []) c) (paid + k.node u) x in
      still l w at where' (subst Q (omega arith) more)

  -- what is covered at a node is so by its region
  covered_by : (u n : ℕ) (ls : List ℕ) (c : Cache) (o : Option ℕ) → k.region_of u ≡ o → IsCovered k u n ls c → IsCoveredIn k o u n ls c
  covered_by u n ls c o at h = let Q : Option ℕ → Type 0 = λ x. IsCoveredIn k x u n ls c in subst Q at h

  back_stall : (ls : List ℕ) (c : Cache) → stall k (ls ++ k.own ∷ []) c ≤ stall k ls c + load_of k k.own
  back_stall ls c = let e = stalls k.words k.wait ls (k.own ∷ []) c in let most = own_stall (after k.words ls c) in omega arith

  returned : (u n : ℕ) (ls : List ℕ) (c : Cache) (paid taken : ℕ) → k.is_raise u ≡ false → IsCovered k u n ls c → Account c u paid taken
      → Stepped u (after k.words (ls ++ k.own ∷ []) c) (paid + k.node u) (taken + (n + stall k (ls ++ k.own ∷ []) c))
  returned u n ls c paid taken plain h (shut none s) =
      let m = s.most in
      let cover = covered_by u n ls c None none h in
      let most = back_stall ls c in
      closed none (omega arith)
  returned u n ls c paid taken plain h (opened l w at (inl in') o) =
      let cover = covered_by u n ls c (Some l) in' h in
      let all = All-append (Contains (k.methods l)) ls (k.own ∷ []) cover.1 (All-cons (Contains (k.methods l)) k.own [] (charged.own_within l w at) (All-nil (Contains (k.methods l)))) in
      let more = opens_on l c paid taken o n (k.node u) (ls ++ k.own ∷ []) cover.0 all in
      let Q : ℕ → Type 0 = λ x. IsOpen l (after k.words (ls ++ k.own ∷ []) c) (paid + k.node u) x in
      still l w at (inl in') (subst Q (omega arith) more)
  returned u n ls c paid taken plain h (opened l w at (inr tail) o) = let bad : true ≡ false = sym tail.1 ∙ plain in absurd (cc)

  dropped : (u n : ℕ) (ls : List ℕ) (c : Cache) (paid taken : ℕ) → k.is_raise u ≡ false → IsCovered k u n ls c → Account c u paid taken
      → Stepped u (after k.words ls c) (paid + k.node u) (taken + (n + stall k ls c)) × (k.region_of u ≡ None → taken + (n + stall k ls c) + load_of k k.own ≤ paid + k.node u)
  dropped u n ls c paid taken plain h (shut none s) =
      let m = s.most in
      let cover = covered_by u n ls c None none h in
      (closed none (omega arith), λ is. omega arith)
  dropped u n ls c paid taken plain h (opened l w at (inl in') o) =
      let cover = covered_by u n ls c (Some l) in' h in
      let more = opens_on l c paid taken o n (k.node u) ls cover.0 cover.1 in
      let Q : ℕ → Type 0 = λ x. IsOpen l (after k.words ls c) (paid + k.node u) x in
      (still l w at (inl in') (subst Q (omega arith) more), λ none. absurd (not_some u l none in'))
  dropped u n ls c paid taken plain h (opened l w at (inr tail) o) = let bad : true ≡ false = sym tail.1 ∙ plain in absurd (cc)

  -- ---- all steps

  paid_to_end : {c : Cache} {u cycles : ℕ} {vs : List ℕ} → Stays k c u vs cycles → HasSizes k c → (paid taken : ℕ) → Account c u paid taken → taken + cycles ≤ paid + charge_of k u vs
  paid_to_end (last {c} {u} n few) h paid taken a = let s = stepped_paid u c (paid + k.node u) (taken + n) (quietly u n c paid taken few a) in omega arith
  paid_to_end (goes {c} {u} {v} {cycles} {vs} n u-plain v-plain few more) h paid taken a =
      let s = quietly u n c paid taken few a in
      let r = paid_to_end more h (paid + k.node u + k.edge u v) (taken + n) (arrives u v c h (paid + k.node u) (taken + n) s (inl v-plain) (k.region_of v) refl) in
      omega arith
  paid_to_end (raises {c} {u} {v} {cycles} {vs} n u-plain v-raise same few cached more) h paid taken a =
      let s = quietly u n c paid taken few a in
      let r = paid_to_end more h (paid + k.node u + k.edge u v) (taken + n) (arrives u v c h (paid + k.node u) (taken + n) s (inr (u-plain, v-raise, same, λ none. inl cached)) (k.region_of v) refl) in
      omega arith
  paid_to_end (handles {c} {u} {v} {cycles} {vs} n u-raise v-plain few more) h paid taken a =
      let c' = after k.words (k.own ∷ []) c in
      let t' = taken + (n + stall k (k.own ∷ []) c) in
      let s = handled u n c paid taken u-raise few a in
      let r = paid_to_end more (has_sizes (k.own ∷ []) c h) (paid + k.node u + k.edge u v) t' (arrives u v c' (has_sizes (k.own ∷ []) c h) (paid + k.node u) t' s (inl v-plain) (k.region_of v) refl) in
      omega arith
  paid_to_end (returns {c} {u} {v} {cycles} {vs} n ls u-plain v-plain cover more) h paid taken a =
      let c' = after k.words (ls ++ k.own ∷ []) c in
      let t' = taken + (n + stall k (ls ++ k.own ∷ []) c) in
      let s = returned u n ls c paid taken u-plain cover a in
      let r = paid_to_end more (has_sizes (ls ++ k.own ∷ []) c h) (paid + k.node u + k.edge u v) t' (arrives u v c' (has_sizes (ls ++ k.own ∷ []) c h) (paid + k.node u) t' s (inl v-plain) (k.region_of v) refl) in
      omega arith
  paid_to_end (drops {c} {u} {v} {cycles} {vs} n ls u-plain v-raise same cover more) h paid taken a =
      let c' = after k.words ls c in
      let t' = taken + (n + stall k ls c) in
      let s = dropped u n ls c paid taken u-plain cover a in
      let r = paid_to_end more (has_sizes ls c h) (paid + k.node u + k.edge u v) t' (arrives u v c' (has_sizes ls c h) (paid + k.node u) t' s.0 (inr (u-plain, v-raise, same, λ none. inr (s.1 none))) (k.region_of v) refl) in
      omega arith

  begins : (c : Cache) (u : ℕ) → HasSizes k c → k.is_raise u ≡ false → (o : Option ℕ) → k.region_of u ≡ o → Account c u (start_fee k o) 0
  begins c u h plain None at = shut at (record { most = omega arith; spare = λ is. let bad : true ≡ false = sym is ∙ plain in absurd (cc) })
  begins c u h plain (Some l) at =
      let Q : ℕ → Type 0 = λ x. IsOpen l c x 0 in
      opened l u at (inl at) (subst Q (omega arith) (opens l c h 0 0 (k.fee l) (omega arith) (omega arith)))

pub stays_are_paid : LoadsKeepTheSum → LookUpsKeepSizes → LookUpsFollow → StallsFollow → StaysArePaid
stays_are_paid sums sizes follow stalls k charged c u cycles vs h plain runs =
    let r = paid_to_end k charged sums sizes follow stalls runs h (start_fee k (k.region_of u)) 0 (begins k charged sums sizes follow stalls c u h plain (k.region_of u) refl) in
    omega arith
