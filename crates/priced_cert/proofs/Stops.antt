-- Where a text of version 3 is refused, by where the lines without prices are.
use Rattle.std.proofs.Common.{◌≡◌, ℕ, zero, suc, ◌+◌, ◌-◌, ◌<◌, ◌≤◌, Bool, true, false, List, [], ◌∷◌, ◌++◌, length, take, drop, append_assoc, append-nil, refl, sym, ◌∙◌, ap, subst, arith, Option, Some, None, inl, inr}
use Rattle.std.specs.Prelude.{codes, if◌then◌else◌, ◌==◌}
use Rattle.std.specs.Option.{option_to_list}
use Rattle.std.proofs.lemmas.Bool.{cases_lt, cases_Bool, eqb-true, true≢false}
use Rattle.std.proofs.lemmas.Bool.Decides.{Decides-eqb}
use Rattle.std.proofs.lemmas.Slice.Eq.{starts_is}
use Rattle.std.proofs.lemmas.List.{length-append, take-append-drop, take-append-le, take_at}
use Rattle.std.specs.Prelude.{flat_map}
use Rattle.std.proofs.Math.Seq.{take-append-add}
use Rattle.std.proofs.lemmas.List.Elements.{All-nil, All-cons, All-head, All-tail, All-append}
use Rattle.lists.proofs.FirstLemmas.{flat_map-append}
use Rattle.certificates.specs.Certificate.{Certificate}
use Rattle.certificates.specs.Texts.{AreLinesOf, BeginOne, IsFirstRefusedLine}
use Rattle.priced_cert.specs.declared.prices.RootPrice.{RootPrice}
use Rattle.priced_cert.specs.declared.kind.LineKind.{LineKind}
use Rattle.priced_cert.specs.declared.kind.LineKind.TheVariants.{OfPrice, OfSection, OfAlone, OfBound, Other}
use Rattle.priced_cert.specs.Certificate.{PricedCertificate}
use Rattle.priced_cert.specs.Texts.{ArePricedLinesOf, BeginPriced, IsFirstUnpricedLine}
use Rattle.priced_cert.specs.Parting.{Block, Parted, Blank, Versioned, Begun, Ended, begins, kind_of, plain_of_block, plain_of, empty_block, TakesInside, Takes, TakeAll}
use Rattle.priced_cert.specs.Fronts.{IsStop, is_price, nth_plain}
use Rattle.priced_cert.proofs.Taking.{take_parts, one_end}
use Rattle.priced_cert.proofs.TextLemmas.{HasNoFeed, HaveNoFeed, by_test}
use Rattle.priced_cert.proofs.Going.{all_taken}
use Rattle.priced_cert.proofs.Begins.{begins_priced}

-- ---- how many lines have no price

abbrev plain_count : List (List ℕ) → ℕ
plain_count [] = 0
plain_count (line ∷ lines) = if is_price (kind_of line) then plain_count lines else 1 + plain_count lines

-- lines that the next one adds to those without prices
record AddsTo (w : Parted) (line : List ℕ) (t : Parted) : Type 0 where
  pub more : List (List ℕ)
  pub plain : plain_of t ≡ plain_of w ++ more
  pub count : length more ≡ plain_count (line ∷ [])
  pub clean : HasNoFeed line → HaveNoFeed more

count_at : (line : List ℕ) (b : Bool) → is_price (kind_of line) ≡ b → plain_count (line ∷ []) ≡ (if b then 0 else 1)
count_at line b e = ap (λ (t : Bool). if t then 0 else 1) e

one_clean : (line : List ℕ) → HasNoFeed line → HaveNoFeed (line ∷ [])
one_clean line h = All-cons HasNoFeed line [] h (All-nil HasNoFeed)

root_line_kind : (line : List ℕ) → begins (codes "root ") line ≡ true → is_price (kind_of line) ≡ false
root_line_kind line h =
    let is = (starts_is Decides-eqb line (codes "root ") true (sym h)).0 refl in
    ap (λ (l : List ℕ). is_price (kind_of l)) is

last_plain : (cl : List Block) (b c : Block) (more : List (List ℕ)) → plain_of_block c ≡ plain_of_block b ++ more
    → flat_map plain_of_block (cl ++ c ∷ []) ≡ flat_map plain_of_block (cl ++ b ∷ []) ++ more
last_plain cl b c more e =
    flat_map-append plain_of_block cl (c ∷ [])
    ∙ (ap (λ (ls : List (List ℕ)). flat_map plain_of_block cl ++ ls) (append-nil (plain_of_block c) ∙ (e ∙ ap (λ (ls : List (List ℕ)). ls ++ more) (sym (append-nil (plain_of_block b)))))
    ∙ (sym (append_assoc (flat_map plain_of_block cl) (flat_map plain_of_block (b ∷ [])) more)
    ∙ ap (λ (ls : List (List ℕ)). ls ++ more) (sym (flat_map-append plain_of_block cl (b ∷ [])))))

head_of : (r : List ℕ) (ls more all : List (List ℕ)) → all ≡ ls ++ more → codes "JOPC 2" ∷ r ∷ all ≡ (codes "JOPC 2" ∷ r ∷ ls) ++ more
head_of r ls more all e = ap (λ (xs : List (List ℕ)). codes "JOPC 2" ∷ r ∷ xs) e

adds_inside : (k : LineKind) (r : List ℕ) (xs : List RootPrice) (cl : List Block) (cu : Option Block) (line : List ℕ) (t : Parted)
    → kind_of line ≡ k → TakesInside k r xs cl cu line t → AddsTo (Begun r xs cl cu) line t
adds_inside OfPrice r xs cl None line t is (x, text, behind, e) =
    record { more = []; plain = ap plain_of e ∙ sym (append-nil (plain_of (Begun r xs cl None))); count = sym (count_at line true (ap is_price is)); clean = λ h. All-nil HasNoFeed }
adds_inside OfPrice r xs cl (Some b) line t is (x, text, behind, e) =
    record {
      more = [];
      plain = ap plain_of e ∙ head_of r (flat_map plain_of_block (cl ++ b ∷ [])) [] _ (last_plain cl b (record b { prices = b.prices ++ x ∷ [] }) [] (sym (append-nil (plain_of_block b))));
      count = sym (count_at line true (ap is_price is));
      clean = λ h. All-nil HasNoFeed;
    }
adds_inside OfAlone r xs cl cu line t is a = absurd a
adds_inside OfSection r xs cl cu line t is e =
    record {
      more = line ∷ [];
      plain = ap plain_of e ∙ head_of r (flat_map plain_of_block (cl ++ option_to_list cu)) (line ∷ []) _ (flat_map-append plain_of_block (cl ++ option_to_list cu) (empty_block line ∷ []));
      count = sym (count_at line false (ap is_price is));
      clean = one_clean line;
    }
adds_inside OfBound r xs cl cu line t is e = record { more = line ∷ []; plain = ap plain_of e; count = sym (count_at line false (ap is_price is)); clean = one_clean line }
adds_inside Other r xs cl None line t is a = absurd a
adds_inside Other r xs cl (Some b) line t is (none, e) =
    record {
      more = line ∷ [];
      plain = ap plain_of e ∙ head_of r (flat_map plain_of_block (cl ++ b ∷ [])) (line ∷ []) _ (last_plain cl b (record b { body = b.body ++ line ∷ [] }) (line ∷ []) refl);
      count = sym (count_at line false (ap is_price is));
      clean = one_clean line;
    }

adds_next : (w : Parted) (line : List ℕ) (t : Parted) → Takes w line t → AddsTo w line t
adds_next Blank line t (is, e) =
    record { more = codes "JOPC 2" ∷ []; plain = ap plain_of e; count = sym (count_at line false (ap (λ (l : List ℕ). is_price (kind_of l)) is)); clean = λ h. one_clean (codes "JOPC 2") (by_test (codes "JOPC 2") refl) }
adds_next Versioned line t (is, e) = record { more = line ∷ []; plain = ap plain_of e; count = sym (count_at line false (root_line_kind line is)); clean = one_clean line }
adds_next (Begun r xs cl cu) line t a = adds_inside (kind_of line) r xs cl cu line t refl a
adds_next (Ended r xs bs bound) line t a = absurd a

-- of many lines
pub record AddsAll (w : Parted) (lines : List (List ℕ)) (t : Parted) : Type 0 where
  pub more : List (List ℕ)
  pub plain : plain_of t ≡ plain_of w ++ more
  pub count : length more ≡ plain_count lines
  pub clean : HaveNoFeed lines → HaveNoFeed more

count_more : (line : List ℕ) (lines : List (List ℕ)) → plain_count (line ∷ lines) ≡ plain_count (line ∷ []) + plain_count lines
count_more line lines = by (is_price (kind_of line))
  where
    by : (b : Bool) → (if b then plain_count lines else 1 + plain_count lines) ≡ (if b then 0 else 1) + plain_count lines
    by true = omega arith
    by false = omega arith

pub adds_all : (w t : Parted) (lines : List (List ℕ)) → TakeAll w lines t → AddsAll w lines t
adds_all w t [] e = record { more = []; plain = ap plain_of e ∙ sym (append-nil (plain_of w)); count = refl; clean = λ h. All-nil HasNoFeed }
adds_all w t (x ∷ xs) (u, one, rest) =
    let a = adds_next w x u one in
    let r = adds_all u t xs rest in
    record {
      more = a.more ++ r.more;
      plain = r.plain ∙ (ap (λ (ls : List (List ℕ)). ls ++ r.more) a.plain ∙ append_assoc (plain_of w) a.more r.more);
      count = omega (arith, length-append a.more r.more, a.count, r.count, count_more x xs);
      clean = λ h. All-append HasNoFeed a.more r.more (a.clean (All-head HasNoFeed x xs h)) (r.clean (All-tail HasNoFeed x xs h));
    }

-- ---- the number of a line without a price

count_step : (line : List ℕ) (lines : List (List ℕ)) (b : Bool) → is_price (kind_of line) ≡ b → plain_count (line ∷ lines) ≡ (if b then plain_count lines else 1 + plain_count lines)
count_step line lines b e = ap (λ (t : Bool). if t then plain_count lines else 1 + plain_count lines) e

nth_step : (n : ℕ) (line : List ℕ) (lines : List (List ℕ)) (b c : Bool) → is_price (kind_of line) ≡ b → (n == 1) ≡ c
    → nth_plain n (line ∷ lines) ≡ (if b then 1 + nth_plain n lines else (if c then 1 else 1 + nth_plain (n - 1) lines))
nth_step n line lines b c e f =
    ap (λ (t : Bool). if t then 1 + nth_plain n lines else (if n == 1 then 1 else 1 + nth_plain (n - 1) lines)) e
    ∙ ap (λ (u : Bool). if b then 1 + nth_plain n lines else (if u then 1 else 1 + nth_plain (n - 1) lines)) f

not_one : (n : ℕ) → 1 ≤ n → (n == 1) ≡ false → 2 ≤ n
not_one zero h e = absurd (omega arith)
not_one (suc zero) h e = absurd (true≢false e)
not_one (suc (suc n)) h e = omega arith

record Numbers (n : ℕ) (ls : List (List ℕ)) : Type 0 where
  pub counted : (1 ≤ nth_plain n ls) × (nth_plain n ls ≤ length ls + 1)
  pub before : (k : ℕ) → k < nth_plain n ls → plain_count (take k ls) < n
  pub at : nth_plain n ls ≤ length ls → plain_count (take (nth_plain n ls) ls) ≡ n

number_of_price : (n : ℕ) (l : List ℕ) (ls : List (List ℕ)) → 1 ≤ n → is_price (kind_of l) ≡ true → Numbers n ls → Numbers n (l ∷ ls)
number_of_price n l ls h price r =
    let is : nth_plain n (l ∷ ls) ≡ 1 + nth_plain n ls = ap (λ (t : Bool). if t then 1 + nth_plain n ls else (if n == 1 then 1 else 1 + nth_plain (n - 1) ls)) price in
    let low = r.counted.0 in
    let high = r.counted.1 in
    record {
      counted = (omega (arith, is), omega (arith, is, high));
      before = before is;
      at = λ le. ap (λ (k : ℕ). plain_count (take k (l ∷ ls))) is ∙ (one_less (nth_plain n ls) ∙ (count_step l (take (nth_plain n ls) ls) true price ∙ r.at (omega (arith, is, le))));
    }
  where
    one_less : (k : ℕ) → plain_count (take (1 + k) (l ∷ ls)) ≡ plain_count (l ∷ take k ls)
    one_less k = let same : 1 + k ≡ suc k = omega arith in ap (λ (m : ℕ). plain_count (take m (l ∷ ls))) same

    before : nth_plain n (l ∷ ls) ≡ 1 + nth_plain n ls → (k : ℕ) → k < nth_plain n (l ∷ ls) → plain_count (take k (l ∷ ls)) < n
    before is zero lt = omega arith
    before is (suc k) lt = omega (arith, count_step l (take k ls) true price, r.before k (omega (arith, is, lt)))

number_of_first : (n : ℕ) (l : List ℕ) (ls : List (List ℕ)) → is_price (kind_of l) ≡ false → (n == 1) ≡ true → Numbers n (l ∷ ls)
number_of_first n l ls plain one =
    let is : nth_plain n (l ∷ ls) ≡ 1 = nth_step n l ls false true plain one in
    let n_is : n ≡ 1 = eqb-true n 1 one in
    record {
      counted = (omega (arith, is), omega (arith, is));
      before = before is n_is;
      at = λ le. ap (λ (k : ℕ). plain_count (take k (l ∷ ls))) is ∙ (count_step l [] false plain ∙ sym n_is);
    }
  where
    before : nth_plain n (l ∷ ls) ≡ 1 → n ≡ 1 → (k : ℕ) → k < nth_plain n (l ∷ ls) → plain_count (take k (l ∷ ls)) < n
    before is n_is zero lt = omega (arith, n_is)
    before is n_is (suc k) lt = absurd (omega (arith, is, lt))

number_of_other : (n : ℕ) (l : List ℕ) (ls : List (List ℕ)) → 2 ≤ n → is_price (kind_of l) ≡ false → (n == 1) ≡ false → Numbers (n - 1) ls → Numbers n (l ∷ ls)
number_of_other n l ls some plain more r =
    let is : nth_plain n (l ∷ ls) ≡ 1 + nth_plain (n - 1) ls = nth_step n l ls false false plain more in
    let low = r.counted.0 in
    let high = r.counted.1 in
    record {
      counted = (omega (arith, is), omega (arith, is, high));
      before = before is;
      at = λ le.
          ap (λ (k : ℕ). plain_count (take k (l ∷ ls))) is
          ∙ (one_less (nth_plain (n - 1) ls) ∙ (count_step l (take (nth_plain (n - 1) ls) ls) false plain ∙ omega (arith, r.at (omega (arith, is, le)), some)));
    }
  where
    one_less : (k : ℕ) → plain_count (take (1 + k) (l ∷ ls)) ≡ plain_count (l ∷ take k ls)
    one_less k = let same : 1 + k ≡ suc k = omega arith in ap (λ (m : ℕ). plain_count (take m (l ∷ ls))) same

    before : nth_plain n (l ∷ ls) ≡ 1 + nth_plain (n - 1) ls → (k : ℕ) → k < nth_plain n (l ∷ ls) → plain_count (take k (l ∷ ls)) < n
    before is zero lt = omega (arith, some)
    before is (suc k) lt = omega (arith, count_step l (take k ls) false plain, r.before k (omega (arith, is, lt)), some)

no_number : (n : ℕ) → 1 ≤ n → Numbers n []
no_number n h = record { counted = (omega arith, omega arith); before = before; at = λ le. absurd (omega arith) }
  where
    before : (k : ℕ) → k < 1 → plain_count (take k []) < n
    before zero lt = omega arith
    before (suc k) lt = absurd (omega arith)

numbers : (n : ℕ) (ls : List (List ℕ)) → 1 ≤ n → Numbers n ls
numbers n [] h = no_number n h
numbers n (l ∷ ls) h = elim (cases_Bool (is_price (kind_of l))) [
  | inl price ↦ number_of_price n l ls h price (numbers n ls h)
  | inr plain ↦ elim (cases_Bool (n == 1)) [
    | inl one ↦ number_of_first n l ls plain one
    | inr more ↦ let some : 2 ≤ n = not_one n h more in number_of_other n l ls some plain more (numbers (n - 1) ls (omega arith))
  ]
]

-- ---- begun and not begun

-- the first of lines that were taken
record IsAt (taken : List (List ℕ)) (w : Parted) (k : ℕ) : Type 0 where
  pub state : Parted
  pub takes : TakeAll Blank (take k taken) state
  pub rest : List (List ℕ)
  pub plain : plain_of w ≡ plain_of state ++ rest
  pub count : length (plain_of state) ≡ plain_count (take k taken)

state_at : (taken : List (List ℕ)) (w : Parted) (k : ℕ) → TakeAll Blank taken w → IsAt taken w k
state_at taken w k h =
    let p = take_parts Blank w (take k taken) (drop k taken) (subst (λ (ls : List (List ℕ)). TakeAll Blank ls w) (sym (take-append-drop k taken)) h) in
    let first = adds_all Blank p.0 (take k taken) p.1 in
    let second = adds_all p.0 w (drop k taken) p.2 in
    record { state = p.0; takes = p.1; rest = second.more; plain = second.plain; count = ap length first.plain ∙ first.count }

-- lines that begin a certificate of version 3 are, without prices, the first of a certificate
plain_begins : (ls : List (List ℕ)) (s : Parted) → TakeAll Blank ls s → BeginPriced ls → BeginOne (plain_of s)
plain_begins ls s h b =
    let all = all_taken (ls ++ b.further) b.certificate b.whole in
    let p = take_parts Blank all.0 ls b.further all.1 in
    let more = adds_all p.0 all.0 b.further p.2 in
    let begin : BeginOne (plain_of p.0) =
    record { further = more.more; certificate = b.certificate.plain; whole = record { grammar = b.whole.grammar.plain; text = sym more.plain ∙ all.2 } } in
    subst (λ (z : Parted). BeginOne (plain_of z)) (one_end Blank ls p.0 s p.1 h) begin

-- none begins with a line that isn't taken
no_line : (ls : List (List ℕ)) (w : Parted) (line : List ℕ) → TakeAll Blank ls w → ((t : Parted) → ¬ Takes w line t) → ¬ BeginPriced (ls ++ line ∷ [])
no_line ls w line h stop b =
    let all = all_taken ((ls ++ line ∷ []) ++ b.further) b.certificate b.whole in
    let p = take_parts Blank all.0 (ls ++ line ∷ []) b.further all.1 in
    let q = take_parts Blank p.0 ls (line ∷ []) p.1 in
    stop q.2.0 (subst (λ (z : Parted). Takes z line q.2.0) (one_end Blank ls q.0 w q.1 h) q.2.1)

stop_at : (taken left : List (List ℕ)) (w : Parted) (whole : Bool) → TakeAll Blank taken w → IsStop w left whole → 1 ≤ length left
    → ¬ BeginPriced (take (length taken + 1) (taken ++ left))
stop_at taken [] w whole h stop some b = absurd (omega arith)
stop_at taken (line ∷ rest) w true h stop some b = absurd (cc)
stop_at taken (line ∷ rest) w false h stop some b =
    no_line taken w line h stop (subst BeginPriced (take-append-add taken (line ∷ rest) 1) b)

first_begins : (ls rest : List (List ℕ)) → BeginOne (ls ++ rest) → BeginOne ls
first_begins ls rest b = record {
  further = rest ++ b.further;
  certificate = b.certificate;
  whole = record { grammar = b.whole.grammar; text = sym (append_assoc ls rest b.further) ∙ b.whole.text };
}

priced_prefix : (lines : List (List ℕ)) (k : ℕ) (c : PricedCertificate) → ArePricedLinesOf lines c → BeginPriced (take k lines)
priced_prefix lines k c a = record { further = drop k lines; certificate = c; whole = record { grammar = a.grammar; text = take-append-drop k lines ∙ a.text } }

none_left : (left : List (List ℕ)) → length left ≡ 0 → left ≡ []
none_left [] e = refl
none_left (l ∷ left) e = absurd (omega arith)

-- ---- the answers

module _ (lines taken left : List (List ℕ)) (w : Parted) (whole : Bool) (split : lines ≡ taken ++ left) (takes : TakeAll Blank taken w) (stop : IsStop w left whole) where
  long : length lines ≡ length taken + length left
  long = ap length split ∙ length-append taken left

  front_of : (k : ℕ) → k ≤ length taken → take k lines ≡ take k taken
  front_of k le = ap (take k) split ∙ take-append-le k taken left le

  -- where the lines without prices begin a certificate, so do all
  begins_at : (k : ℕ) → k ≤ length taken → ((s : IsAt taken w k) → BeginOne (plain_of s.state)) → BeginPriced (take k lines)
  begins_at k le one =
      let s = state_at taken w k takes in
      subst BeginPriced (sym (front_of k le)) (begins_priced (take k taken) s.state s.takes (one s))

  fails_behind : 1 ≤ length left → ¬ BeginPriced (take (length taken + 1) lines)
  fails_behind some b = stop_at taken left w whole takes stop some (subst (λ (ls : List (List ℕ)). BeginPriced (take (length taken + 1) ls)) split b)

  all_plain : (c : PricedCertificate) → ArePricedLinesOf lines c → length left ≡ 0 → AreLinesOf (plain_of w) c.plain
  all_plain c a none =
      let same : lines ≡ taken = split ∙ (ap (λ (ls : List (List ℕ)). taken ++ ls) (none_left left none) ∙ append-nil taken) in
      let all = all_taken lines c a in
      let ends : all.0 ≡ w = one_end Blank taken all.0 w (subst (λ (ls : List (List ℕ)). TakeAll Blank ls all.0) same all.1) takes in
      record { grammar = a.grammar.plain; text = ap plain_of (sym ends) ∙ all.2 }

  module _ (n : ℕ) (refused : IsFirstRefusedLine (plain_of w) n) where
    at_number : nth_plain n taken ≤ length lines → ¬ BeginPriced (take (nth_plain n taken) lines)
    at_number le b =
        let num = numbers n taken refused.counted.0 in
        let high = num.counted.1 in
        elim (cases_lt (length taken) (nth_plain n taken)) [
          | inl behind ↦
              let same : nth_plain n taken ≡ length taken + 1 = omega (arith, behind, high) in
              fails_behind (omega (arith, long, le, behind)) (subst (λ (k : ℕ). BeginPriced (take k lines)) same b)
          | inr among ↦
              let within : nth_plain n taken ≤ length taken = omega (arith, among) in
              let s = state_at taken w (nth_plain n taken) takes in
              let count : length (plain_of s.state) ≡ n = s.count ∙ num.at within in
              let first : take n (plain_of w) ≡ plain_of s.state = ap (take n) s.plain ∙ take_at (plain_of s.state) s.rest n count in
              let le_plain : n ≤ length (plain_of w) = omega (arith, ap length s.plain, length-append (plain_of s.state) s.rest, count) in
              refused.at le_plain
              (subst BeginOne (sym first) (plain_begins (take (nth_plain n taken) taken) s.state s.takes (subst BeginPriced (front_of (nth_plain n taken) within) b)))
        ]

    pub refused_plain : IsFirstUnpricedLine lines (nth_plain n taken)
    refused_plain =
        let num = numbers n taken refused.counted.0 in
        let high = num.counted.1 in
        record {
          none = none num high;
          counted = (num.counted.0, omega (arith, long, high));
          before = λ k lt. begins_at k (omega (arith, lt, high)) (λ s.
              subst BeginOne (ap (take (length (plain_of s.state))) s.plain ∙ take_at (plain_of s.state) s.rest (length (plain_of s.state)) refl)
              (refused.before (length (plain_of s.state)) (omega (arith, s.count, num.before k lt))));
          at = at_number;
        }
      where
        none : Numbers n taken → nth_plain n taken ≤ length taken + 1 → (c : PricedCertificate) → ¬ ArePricedLinesOf lines c
        none num high c a = elim (cases_lt (length lines) (nth_plain n taken)) [
          | inl behind ↦ refused.none c.plain (all_plain c a (omega (arith, long, behind, high)))
          | inr among ↦ at_number (omega (arith, among)) (priced_prefix lines (nth_plain n taken) c a)
        ]

  -- where the lines without prices are those of a certificate, the line behind them is refused
  pub refused_behind : 1 ≤ length left → (c : Certificate) → AreLinesOf (plain_of w) c → IsFirstUnpricedLine lines (length taken + 1)
  refused_behind some c a = record {
    none = λ d b. fails_behind some (priced_prefix lines (length taken + 1) d b);
    counted = (omega arith, omega (arith, long, some));
    before = λ k lt. begins_at k (omega (arith, lt)) (λ s. record { further = s.rest; certificate = c; whole = record { grammar = a.grammar; text = sym s.plain ∙ a.text } });
    at = λ le. fails_behind some;
  }

pub stops_there : (w : Parted) (left : List (List ℕ)) → IsStop w left false → 1 ≤ length left
stops_there w [] stop = absurd stop
stops_there w (l ∷ left) stop = omega arith
