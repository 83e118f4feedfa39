-- The members of a loop in a line, one behind the other.
use Rattle.std.proofs.Common.{◌≡◌, ◌≢◌, ℕ, suc, ◌<◌, ◌≤◌, ◌^◌, List, [], ◌∷◌, ◌++◌, length, append_assoc, append-nil, refl, sym, ◌∙◌, ap, subst, arith, Option, Some, take, drop, true, false}
use Rattle.std.specs.Prelude.{All, nat_eq}
use Rattle.std.specs.List.Sorted.{IsStrictlyIncreasing}
use Rattle.std.proofs.lemmas.List.Elements.{All-head, All-tail, All-push, All-nil, All-get_or}
use Rattle.std.proofs.lemmas.List.{length-append}
use Rattle.std.proofs.lemmas.Bool.{true≢false, false≢true}
use lib.Pointwise.{pointwise, bytes_decides}
use Rattle.lists.proofs.FirstLemmas.{flat_map-more}
use Rattle.certificates.specs.Finding.{HasNoSpace, IsBehindPart, IsFirstPart}
use Rattle.certificates.specs.Loop.{AreLoopMembers, IsAbove, last_of}
use Rattle.certificates.specs.CertLines.{node_text, members_text}
use Rattle.certificates.proofs.PartLemmas.{one_first_part}
use Rattle.certificates.proofs.NumberLemmas.{one_node, node_no_space}
use Rattle.certificates.proofs.RisingLemmas.{rises_on, above_before, at_end}

abbrev pub IsSmall : ℕ → Type 0
IsSmall u = u < 2 ^ 32

item : ℕ → List ℕ
item u = 32 ∷ node_text u

pub behind_members : (xs rest : List ℕ) → IsBehindPart rest → IsBehindPart (members_text xs ++ rest)
behind_members [] rest h = h
behind_members (x ∷ xs) rest h = refl

pub behind_all : (xs : List ℕ) → IsBehindPart (members_text xs)
behind_all [] = tt
behind_all (x ∷ xs) = refl

-- one member and what stands behind it
one_member : (part rest : List ℕ) (y : ℕ) (ys : List ℕ) → HasNoSpace part → IsBehindPart rest → y < 2 ^ 32 → 32 ∷ (part ++ rest) ≡ members_text (y ∷ ys) → (part ≡ node_text y) × (rest ≡ members_text ys)
one_member part rest y ys h b small e =
    let inner : part ++ rest ≡ node_text y ++ members_text ys = cc in
    one_first_part part (node_text y) rest (members_text ys) h (node_no_space y small) b (behind_all ys) inner

-- members that begin the text begin the members of the text
pub begin_members : (xs ys rest : List ℕ) → All IsSmall xs → All IsSmall ys → IsBehindPart rest → members_text xs ++ rest ≡ members_text ys → (zs : List ℕ) × (ys ≡ xs ++ zs) × (rest ≡ members_text zs)
begin_members [] ys rest a b h e = (ys, refl, e)
begin_members (x ∷ xs) [] rest a b h e = absurd (cc)
begin_members (x ∷ xs) (y ∷ ys) rest a b h e =
    let small : x < 2 ^ 32 = All-head IsSmall x xs a in
    let small_too : y < 2 ^ 32 = All-head IsSmall y ys b in
    let text : 32 ∷ (node_text x ++ (members_text xs ++ rest)) ≡ members_text (y ∷ ys) = ap (λ (t : List ℕ). 32 ∷ t) (sym (append_assoc (node_text x) (members_text xs) rest)) ∙ e in
    let one = one_member (node_text x) (members_text xs ++ rest) y ys (node_no_space x small) (behind_members xs rest h) small_too text in
    let same : x ≡ y = one_node x y small small_too one.0 in
    let later = begin_members xs ys rest (All-tail IsSmall x xs a) (All-tail IsSmall y ys b) h one.1 in
    let tail : ys ≡ xs ++ later.0 = later.1 in
    (later.0, cc, later.2)

-- a text is of one list of members
pub same_members : (xs ys : List ℕ) → All IsSmall xs → All IsSmall ys → members_text xs ≡ members_text ys → xs ≡ ys
same_members xs ys a b e =
    let r = begin_members xs ys [] a b tt (append-nil (members_text xs) ∙ e) in
    none xs ys r.0 r.1 r.2
  where
    none : (xs ys zs : List ℕ) → ys ≡ xs ++ zs → [] ≡ members_text zs → xs ≡ ys
    none xs ys [] e f = sym (e ∙ append-nil xs)
    none xs ys (z ∷ zs) e f = absurd (cc)

-- ---- read one by one

pub record AreReadTo (text members rest : List ℕ) : Type 0 where
  pub whole : text ≡ members_text members ++ rest
  pub behind : IsBehindPart rest
  pub rising : IsStrictlyIncreasing members
  pub small : All IsSmall members

pub none_read : (text : List ℕ) → IsBehindPart text → AreReadTo text [] text
none_read text h = record { whole = refl; behind = h; rising = λ k lt. absurd (omega arith); small = All-nil IsSmall }

pub one_more : (text members rest part after : List ℕ) (u : ℕ) → AreReadTo text members rest → rest ≡ 32 ∷ (part ++ after) → IsBehindPart after → part ≡ node_text u → u < 2 ^ 32 → IsAbove (last_of members) u → AreReadTo text (members ++ u ∷ []) after
one_more text members rest part after u r e b is small above = record {
  whole =
      r.whole ∙ (ap (λ (t : List ℕ). members_text members ++ t) (e ∙ ap (λ (t : List ℕ). 32 ∷ (t ++ after)) is)
      ∙ (sym (append_assoc (members_text members) (32 ∷ node_text u) after) ∙ ap (λ (t : List ℕ). t ++ after) (sym (flat_map-more (λ u. 32 ∷ node_text u) members u))));
  behind = b;
  rising = rises_on members u r.rising above;
  small = All-push IsSmall members u r.small small;
}

pub none_more : (text members rest part after : List ℕ) → AreReadTo text members rest → rest ≡ 32 ∷ (part ++ after) → HasNoSpace part → IsBehindPart after
    → ((u : ℕ) → (u < 2 ^ 32) × IsAbove (last_of members) u → part ≢ node_text u) → (ys : List ℕ) → AreLoopMembers ys → text ≢ members_text ys
none_more text members rest part after r e h b none ys m f =
    let begins = begin_members members ys rest r.small m.small r.behind (sym r.whole ∙ f) in
    further begins.0 begins.1 begins.2
  where
    further : (zs : List ℕ) → ys ≡ members ++ zs → rest ≡ members_text zs → ⊥
    further [] same left = let t : 32 ∷ (part ++ after) ≡ [] = sym e ∙ left in absurd (cc)
    further (z ∷ zs) same left =
        let rising : IsStrictlyIncreasing (members ++ z ∷ zs) = subst IsStrictlyIncreasing same m.rising in
        let each : All IsSmall (members ++ z ∷ zs) = subst (All IsSmall) same m.small in
        let long = length-append members (z ∷ zs) in
        let some : length (z ∷ zs) ≡ suc (length zs) = refl in
        let place : length members < length (members ++ z ∷ zs) = omega arith in
        let small : z < 2 ^ 32 = subst IsSmall (at_end members zs z (length members) refl) (All-get_or IsSmall (members ++ z ∷ zs) (length members) 0 place each) in
        let one = one_member part after z zs h b small (sym e ∙ left) in
        none z (small, above_before members zs z rising) one.0

-- all of the text is read
pub read_whole : (text members rest : List ℕ) → AreReadTo text members rest → rest ≡ [] → 0 < length members → (text ≡ members_text members) × AreLoopMembers members
read_whole text members rest r e some =
    (r.whole ∙ (ap (λ (t : List ℕ). members_text members ++ t) e ∙ append-nil (members_text members)), record { some = some; rising = r.rising; small = r.small })

-- a text without members is empty, and none is
pub none_at_all : (text members rest : List ℕ) → AreReadTo text members rest → rest ≡ [] → members ≡ [] → (ys : List ℕ) → AreLoopMembers ys → text ≢ members_text ys
none_at_all text members rest r e n [] m f = let some = m.some in omega arith
none_at_all text members rest r e n (y ∷ ys) m f =
    let empty : text ≡ [] = r.whole ∙ (ap (λ (xs : List ℕ). members_text xs ++ rest) n ∙ e) in
    absurd (let t : [] ≡ members_text (y ∷ ys) = sym empty ∙ f in cc)

-- a node that isn't above the members is none of a text of one above them
pub not_above : (members text : List ℕ) (next last : ℕ) → text ≡ node_text next → next < 2 ^ 32 → last_of members ≡ Some last → next ≤ last → (u : ℕ) → (u < 2 ^ 32) × IsAbove (last_of members) u → text ≢ node_text u
not_above members text next last e small is le u h f =
    let same : next ≡ u = one_node next u small h.0 (sym e ∙ f) in
    let above : last < u = subst (λ (o : Option ℕ). IsAbove o u) is h.1 in
    omega arith

-- ---- where a space stands

pub begins_with : (text rest : List ℕ) → pointwise nat_eq (take 1 text) (32 ∷ []) ≡ true → rest ≡ drop 1 text → text ≡ 32 ∷ rest
begins_with [] rest t e = absurd (false≢true t)
begins_with (x ∷ xs) rest t e =
    let first : x ∷ [] ≡ 32 ∷ [] = (bytes_decides (x ∷ []) (32 ∷ [])).0 t in
    let same : x ≡ 32 = cc in
    cc

pub no_more : (rest : List ℕ) → IsBehindPart rest → pointwise nat_eq (take 1 rest) (32 ∷ []) ≡ false → rest ≡ []
no_more [] h t = refl
no_more (x ∷ xs) h t =
    let same : x ∷ [] ≡ 32 ∷ [] = ap (λ (y : ℕ). y ∷ []) h in
    absurd (true≢false (sym ((bytes_decides (x ∷ []) (32 ∷ [])).1 same) ∙ t))

pub none_said : (text members rest : List ℕ) → AreReadTo text members rest → pointwise nat_eq (take 1 rest) (32 ∷ []) ≡ false → length members ≡ 0 → (ys : List ℕ) → AreLoopMembers ys → text ≢ members_text ys
none_said text [] rest r t n ys m = none_at_all text [] rest r (no_more rest r.behind t) refl ys m
none_said text (x ∷ members) rest r t n ys m = absurd (omega arith)

pub some_said : (text members rest : List ℕ) → AreReadTo text members rest → pointwise nat_eq (take 1 rest) (32 ∷ []) ≡ false → length members ≢ 0 → (text ≡ members_text members) × AreLoopMembers members
some_said text members rest r t n = read_whole text members rest r (no_more rest r.behind t) (omega arith)

pub more_read : (text members rest behind part after more : List ℕ) (u : ℕ) → AreReadTo text members rest → pointwise nat_eq (take 1 rest) (32 ∷ []) ≡ true → behind ≡ drop 1 rest → IsFirstPart behind part after → (part ≡ node_text u) × ((u < 2 ^ 32) × IsAbove (last_of members) u) → more ≡ members ++ u ∷ [] → AreReadTo text more after
more_read text members rest behind part after more u r t e f found is =
    subst (λ (ms : List ℕ). AreReadTo text ms after) (sym is)
    (one_more text members rest part after u r (begins_with rest behind t e ∙ ap (λ (xs : List ℕ). 32 ∷ xs) f.whole) f.behind found.0 found.1.0 found.1.1)

pub none_there : (text members rest behind part after : List ℕ) → AreReadTo text members rest → pointwise nat_eq (take 1 rest) (32 ∷ []) ≡ true → behind ≡ drop 1 rest → IsFirstPart behind part after
    → ((u : ℕ) → (u < 2 ^ 32) × IsAbove (last_of members) u → part ≢ node_text u) → (ys : List ℕ) → AreLoopMembers ys → text ≢ members_text ys
none_there text members rest behind part after r t e f none ys m =
    none_more text members rest part after r (begins_with rest behind t e ∙ ap (λ (xs : List ℕ). 32 ∷ xs) f.whole) f.no_space f.behind none ys m
