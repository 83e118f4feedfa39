-- Lists of nodes keep the bounds of loops as they are prolonged at their end.
use Rattle.std.proofs.Common.{◌≡◌, ◌≢◌, ℕ, ◌+◌, ◌≤◌, ◌⊎◌, cond, eqb, List, [], ◌∷◌, ◌++◌, length, All, Contains, refl, sym, ap, ◌∙◌, subst, inl, inr, arith, append_assoc, length-append}
use Rattle.std.proofs.lemmas.Bool.{ne_eqb, cond-false}
use Rattle.std.proofs.lemmas.List.{append-nil}
use Rattle.std.proofs.lemmas.List.Sums.{sum_by_push}
use Rattle.std.proofs.lemmas.List.Elements.{All-contains, Contains-get_or, Contains-append_left, Contains-push}
use Rattle.lists.specs.Members.{at_head, in_tail}
use Rattle.loop_nest.specs.Walks.{back_edges_to}
use Rattle.section_check.specs.Bounded.{BoundedLoop, IsKept}

pub all_from_contains : {X : Type 0} (P : X → Type 0) (xs : List X) → ((x : X) → Contains xs x → P x) → All P xs
all_from_contains P xs f i d lt = f _ (Contains-get_or xs i d lt)

pub all_left : {X : Type 0} (P : X → Type 0) (xs ys : List X) → All P (xs ++ ys) → All P xs
all_left P xs ys all = all_from_contains P xs (λ x c. All-contains P (xs ++ ys) x all (Contains-append_left xs ys x c))

-- one list that is parted at two places: the first part holds the other one, or lies in it
pub parted : (xs ys as' bs : List ℕ) → xs ++ ys ≡ as' ++ bs → ((m : List ℕ) × (xs ≡ as' ++ m) × (bs ≡ m ++ ys)) ⊎ ((m : List ℕ) × (as' ≡ xs ++ m) × (ys ≡ m ++ bs))
parted xs ys [] bs is = inl (xs, refl, sym is)
parted [] ys (a ∷ as') bs is = inr (a ∷ as', refl, is)
parted (x ∷ xs) ys (a ∷ as') bs is =
    let tail : xs ++ ys ≡ as' ++ bs = cc in
    let head : x ≡ a = cc in
    elim (parted xs ys as' bs tail) [
      | inl r ↦ let e = r.1 in inl (r.0, (cc), r.2)
      | inr r ↦ let e = r.1 in inr (r.0, (cc), r.2)
    ]

-- what the last part of a list that ends with u is: it has u, where it isn't empty
pub last_in : (before m first : List ℕ) (u : ℕ) → before ++ m ≡ first ++ u ∷ [] → (m ≡ []) ⊎ Contains m u
last_in before [] first u is = inl refl
last_in [] (x ∷ m) first u is = let P : List ℕ → Type 0 = λ zs. Contains zs u in inr (subst P (sym is) (Contains-push first u))
last_in (b ∷ before) (x ∷ m) [] u is =
    let k = ap length is in
    let l = length-append before (x ∷ m) in
    absurd (omega arith)
last_in (b ∷ before) (x ∷ m) (f ∷ first) u is = let tail : before ++ (x ∷ m) ≡ first ++ u ∷ [] = cc in last_in before (x ∷ m) first u tail

abbrev pub is_node : ℕ → ℕ → ℕ
is_node h x = cond (eqb x h) 1 0

iterations_push : (h v : ℕ) (m : List ℕ) → back_edges_to h (m ++ v ∷ []) ≤ back_edges_to h m + is_node h v
iterations_push h v [] = omega arith
iterations_push h v (x ∷ m) = omega (arith, sum_by_push (is_node h) m v)

iterations_at_most_one : (h : ℕ) (ns : List ℕ) → length ns ≤ 1 → back_edges_to h ns ≡ 0
iterations_at_most_one h [] short = refl
iterations_at_most_one h (x ∷ []) short = refl
iterations_at_most_one h (x ∷ y ∷ ns) short = absurd (omega arith)

-- in each stay that lasts to the end of the list, so many iterations were taken at most
abbrev pub IsTail : List ℕ → BoundedLoop → ℕ → Type 0
IsTail ns l n = (before in_loop : List ℕ) → ns ≡ before ++ in_loop → All (Contains l.members) in_loop → back_edges_to l.header in_loop ≤ n

pub tail_of_kept : (ns : List ℕ) (l : BoundedLoop) → IsKept ns l → IsTail ns l l.bound
tail_of_kept ns l kept before in_loop is all = kept before in_loop [] (is ∙ sym (append-nil (before ++ in_loop))) all

-- a part at the end of a list with one more node
pushed : (ns before in_loop : List ℕ) (v : ℕ) → ns ++ v ∷ [] ≡ before ++ in_loop → (length in_loop ≤ 1) ⊎ ((m : List ℕ) × (ns ≡ before ++ m) × (in_loop ≡ m ++ v ∷ []))
pushed ns before in_loop v is =
    elim (parted ns (v ∷ []) before in_loop is) [
      | inl r ↦ inr r
      | inr r ↦
          let k = ap length r.2 in
          let l = length-append r.0 in_loop in
          inl (omega arith)
    ]

pub tail_iterations : (ns : List ℕ) (l : BoundedLoop) (n v : ℕ) → IsTail ns l n → IsTail (ns ++ v ∷ []) l (n + is_node l.header v)
tail_iterations ns l n v tail before in_loop is all =
    let h = l.header in
    elim (pushed ns before in_loop v is) [
      | inl short ↦ let none = iterations_at_most_one h in_loop short in omega arith
      | inr r ↦
          let P : List ℕ → Type 0 = λ zs. All (Contains l.members) zs in
          let old = tail before r.0 r.1 (all_left (Contains l.members) r.0 (v ∷ []) (subst P r.2 all)) in
          let more = iterations_push h v r.0 in
          let same = ap (back_edges_to h) r.2 in
          omega arith
    ]

pub tail_stays : (ns : List ℕ) (l : BoundedLoop) (n v : ℕ) → v ≢ l.header → IsTail ns l n → IsTail (ns ++ v ∷ []) l n
tail_stays ns l n v other tail before in_loop is all =
    let r = tail_iterations ns l n v tail before in_loop is all in
    let none : is_node l.header v ≡ 0 = cond-false (eqb v l.header) 1 0 (ne_eqb v l.header other) in
    omega arith

-- behind a node that is no member no iteration was taken yet
pub tail_enters : (first : List ℕ) (u v : ℕ) (l : BoundedLoop) → (Contains l.members u → ⊥) → IsTail ((first ++ u ∷ []) ++ v ∷ []) l 0
tail_enters first u v l out before in_loop is all =
    elim (pushed (first ++ u ∷ []) before in_loop v is) [
      | inl short ↦ let none = iterations_at_most_one l.header in_loop short in omega arith
      | inr r ↦
          elim (last_in before r.0 first u (sym r.1)) [
            | inl empty ↦
                let e : in_loop ≡ v ∷ [] = r.2 ∙ ap (λ (zs : List ℕ). zs ++ v ∷ []) empty in
                let none = iterations_at_most_one l.header in_loop (omega (arith, ap length e)) in
                omega arith
            | inr has ↦
                let P : List ℕ → Type 0 = λ zs. All (Contains l.members) zs in
                absurd (out (All-contains (Contains l.members) r.0 u (all_left (Contains l.members) r.0 (v ∷ []) (subst P r.2 all)) has))
          ]
    ]

kept_on_last : (ns : List ℕ) (l : BoundedLoop) (v : ℕ) → IsKept ns l → IsTail (ns ++ v ∷ []) l l.bound → (before in_loop after m : List ℕ)
    → before ++ in_loop ≡ ns ++ m → v ∷ [] ≡ m ++ after → All (Contains l.members) in_loop → back_edges_to l.header in_loop ≤ l.bound
kept_on_last ns l v kept tail before in_loop after [] is rest all = tail_of_kept ns l kept before in_loop (sym (is ∙ append-nil ns)) all
kept_on_last ns l v kept tail before in_loop after (x ∷ []) is rest all =
    let same : v ≡ x = cc in
    tail before in_loop (ap (λ (z : ℕ). ns ++ z ∷ []) same ∙ sym is) all
kept_on_last ns l v kept tail before in_loop after (x ∷ y ∷ m) is rest all = let k = ap length rest in absurd (omega arith)

-- a list with one more node keeps the bound where its last stay does
pub kept_push : (ns : List ℕ) (l : BoundedLoop) (v : ℕ) → IsKept ns l → IsTail (ns ++ v ∷ []) l l.bound → IsKept (ns ++ v ∷ []) l
kept_push ns l v kept tail before in_loop after is all =
    elim (parted ns (v ∷ []) (before ++ in_loop) after is) [
      | inl r ↦ kept before in_loop r.0 r.1 all
      | inr r ↦ kept_on_last ns l v kept tail before in_loop after r.0 r.1 r.2 all
    ]

pub kept_stays : (ns : List ℕ) (l : BoundedLoop) (v : ℕ) → v ≢ l.header → IsKept ns l → IsKept (ns ++ v ∷ []) l
kept_stays ns l v other kept = kept_push ns l v kept (tail_stays ns l l.bound v other (tail_of_kept ns l kept))

pub kept_enters : (first : List ℕ) (u v : ℕ) (l : BoundedLoop) → (Contains l.members u → ⊥) → IsKept (first ++ u ∷ []) l → IsKept ((first ++ u ∷ []) ++ v ∷ []) l
kept_enters first u v l out kept =
    kept_push (first ++ u ∷ []) l v kept (λ before in_loop is all. let r = tail_enters first u v l out before in_loop is all in omega arith)

-- nodes other than the header add no iteration
pub tail_on : (ns more : List ℕ) (l : BoundedLoop) (n : ℕ) → (Contains more l.header → ⊥) → IsTail ns l n → IsTail (ns ++ more) l n
tail_on ns [] l n none tail = let P : List ℕ → Type 0 = λ zs. IsTail zs l n in subst P (sym (append-nil ns)) tail
tail_on ns (v ∷ more) l n none tail =
    let P : List ℕ → Type 0 = λ zs. IsTail zs l n in
    let Q : ℕ → Type 0 = λ z. Contains (v ∷ more) z in
    subst P (append_assoc ns (v ∷ []) more) (tail_on (ns ++ v ∷ []) more l n (λ c. none (in_tail v l.header more c)) (tail_stays ns l n v (λ same. none (subst Q same (at_head v more))) tail))

-- a single node takes no iteration
pub kept_one : (u : ℕ) (l : BoundedLoop) → IsKept (u ∷ []) l
kept_one u l before in_loop after is all =
    let k = ap length is in
    let a = length-append (before ++ in_loop) after in
    let b = length-append before in_loop in
    let none = iterations_at_most_one l.header in_loop (omega arith) in
    omega arith

pub tail_one : (u : ℕ) (l : BoundedLoop) → IsTail (u ∷ []) l 0
tail_one u l before in_loop is all =
    let k = ap length is in
    let a = length-append before in_loop in
    let none = iterations_at_most_one l.header in_loop (omega arith) in
    omega arith
