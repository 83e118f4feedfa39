-- The greatest walk from an address, from tables over the whole ROM that are found and tested by computing.
use Rattle.std.proofs.Common.{◌≡◌, ℕ, suc, zero, ◌+◌, ◌-◌, ◌*◌, ◌≤◌, ◌&&◌, ◌||◌, ◌==◌, Bool, true, false, nat_lt, if◌then◌else◌, List, [], ◌∷◌, ◌++◌, length, take, drop, inl, inr, Option, Some, None, get_or, refl, sym, ap, ◌∙◌, subst, arith, ltb-true, ltb-false, eqb-true}
use Rattle.microcode.specs.declared.isa.Body.TheVariants.{Plain, Stm, Ldm, Ldi, Bz, Bnz, Jmp}
use Rattle.microcode.specs.declared.isa.Micro.{Micro}
use Rattle.microcode.specs.Isa.Operations.{operation_of}
use Rattle.microcode.specs.Isa.Words.{micro_of}
use Rattle.microcode.specs.declared.TheConstants.{RAISE}
use Rattle.micro_flow.specs.declared.CostParams.{CostParams}
use Rattle.micro_flow.specs.declared.price.Price.{Price}
use Rattle.micro_flow.specs.Costs.{worth, larger}
use Rattle.micro_flow.specs.Walk.{Walker, TimeKind, Reads, Writes, Halts, kind_of, turns_at, walk, begin, Attained, IsGreatestTime}
use Rattle.micro_flow.proofs.Prices.{IsShort, Within, plus, raised, below, all_below, all_within, first, second, plus_value}
use Rattle.micro_flow.proofs.Upper.{Loop, Ctx, look, cycles, Keeps, bounded, stock, time, told}
use Rattle.micro_flow.proofs.Lower.{Free, Trace, Follows, trace, trace_follows, is_free, free_is, port_of}

-- How a loop is walked: its branch and what each turn adds, its header, the price from there on of a walk that goes back no more,
-- the choices of a turn, and the number of those from the header on of a walk that goes back no more.
pub record Plan : Type 0 where
  pub loop : Loop
  pub header : ℕ
  pub exit : Price
  pub turn : List Bool
  pub after : ℕ

-- a price of an address, on top of one turn's, with a walk that attains it; or one of going back once more, for which there is none
pub record Priced : Type 0 where
  pub price : Price
  pub way : List Bool
  pub real : Bool

-- g makes f needless
abbrev pub covers : (g f : Priced) → Bool
covers g f = below f.price g.price && (g.real || (if f.real then false else true))

abbrev pub some_covers : List Priced → Priced → Bool
some_covers [] f = false
some_covers (g ∷ gs) f = if covers g f then true else some_covers gs f

abbrev pub without : Priced → List Priced → List Priced
without f [] = []
without f (g ∷ gs) = if covers f g then without f gs else g ∷ without f gs

abbrev pub insert : Priced → List Priced → List Priced
insert f fs = if some_covers fs f then fs else f ∷ without f fs

abbrev pub union : List Priced → List Priced → List Priced
union [] gs = gs
union (f ∷ fs) gs = insert f (union fs gs)

-- both ways on, where both are known
abbrev pub either_way : List Priced → List Priced → List Priced
either_way [] gs = []
either_way (f ∷ fs) [] = []
either_way (f ∷ fs) (g ∷ gs) = union (f ∷ fs) (g ∷ gs)

abbrev pub advance : Price → List Bool → List Priced → List Priced
advance d way [] = []
advance d way (f ∷ fs) = record { price = plus d f.price; way = way ++ f.way; real = f.real } ∷ advance d way fs

abbrev pub finish : Plan → Price → List Bool → List Priced
finish c d way = record { price = plus d c.loop.gain; way = way; real = true } ∷ []

-- on to a later address; rest has what is known from at + 1 on
abbrev pub reach : Plan → List (List Priced) → (at to : ℕ) → Price → List Bool → List Priced
reach c rest at to d way = if to == RAISE then finish c d way else advance d way (get_or rest (to - at - 1) [])

abbrev pub proceed : Plan → List (List Priced) → ℕ → Bool → Price → List Bool → List Priced
proceed c rest at true d way = finish c d way
proceed c rest at false d way = reach c rest at (at + 1) d way

abbrev pub back : Plan → ℕ → List Priced
back c at = if at == c.loop.branch then record { price = plus (cycles 3) c.exit; way = []; real = false } ∷ [] else []

abbrev pub branch_to : Plan → List (List Priced) → (at to : ℕ) → List Priced
branch_to c rest at to = if nat_lt at to then reach c rest at to (cycles 3) (true ∷ []) else (if to == RAISE then finish c (cycles 3) (true ∷ []) else back c at)

-- a start of the port takes its wait along, which may be the last word
abbrev pub wait_flag : ℕ → Bool
wait_flag word = elim (micro_of word) [ None ↦ false | Some m ↦ m.nxt ]

abbrev pub started : Plan → List (List Priced) → ℕ → List ℕ → Price → List Priced
started c rest at words d = if wait_flag (get_or words 0 0) then finish c d (false ∷ false ∷ []) else reach c rest at (at + 2) d (false ∷ false ∷ [])

abbrev pub of_kind : Plan → List (List Priced) → ℕ → List ℕ → TimeKind → Bool → List Priced
of_kind c rest at words Reads nxt = started c rest at words (record { fixed = 2; reads = 1; writes = 0 })
of_kind c rest at words Writes nxt = started c rest at words (record { fixed = 2; reads = 0; writes = 1 })
of_kind c rest at words Halts nxt = either_way (finish c (cycles 1) (true ∷ [])) (proceed c rest at nxt (cycles 1) (false ∷ []))
of_kind c rest at words _ nxt = proceed c rest at nxt (cycles 1) (false ∷ [])

abbrev pub priced_at : Plan → List (List Priced) → ℕ → List ℕ → Option Micro → List Priced
priced_at c rest at words None = []
priced_at c rest at words (Some m) =
    elim m.body [
      | Plain code ↦ of_kind c rest at words (kind_of (operation_of code)) m.nxt
      | Stm k ↦ proceed c rest at m.nxt (cycles 1) (false ∷ [])
      | Ldm k ↦ proceed c rest at m.nxt (cycles 1) (false ∷ [])
      | Ldi k ↦ proceed c rest at m.nxt (cycles 1) (false ∷ [])
      | Bz to ↦ either_way (branch_to c rest at to) (proceed c rest at false (cycles 1) (false ∷ []))
      | Bnz to ↦ either_way (branch_to c rest at to) (proceed c rest at false (cycles 1) (false ∷ []))
      | Jmp to ↦ branch_to c rest at to
    ]

-- what is known of each address from one on; nothing is known of an address that leads to another loop
abbrev pub solved : Plan → ℕ → List ℕ → List (List Priced)
solved c at [] = []
solved c at (word ∷ words) = let rest = solved c (at + 1) words in priced_at c rest at words (micro_of word) ∷ rest

abbrev pub prices_of : List Priced → List Price
prices_of [] = []
prices_of (f ∷ fs) = f.price ∷ prices_of fs

abbrev pub all_prices : List (List Priced) → List (List Price)
all_prices [] = []
all_prices (fs ∷ rest) = prices_of fs ∷ all_prices rest

abbrev pub from_at : ℕ → ℕ → Trace
from_at at may = record { at = at; port = Free; clock = cycles 0; may = may; spent = false; over = false; fine = true }

abbrev pub same_price : Price → Price → Bool
same_price f g = f.fixed == g.fixed && (f.reads == g.reads && f.writes == g.writes)

-- stands at the header, idle, and no branch but the loop's has gone back
abbrev pub at_header : ℕ → Trace → Bool
at_header h x = x.at == h && (is_free x.port && ((if x.over then false else true) && ((if x.spent then false else true) && x.fine)))

-- a walk to the header, and one from there to the end
abbrev pub way_ok : Plan → ℕ → Price → (before after : List Bool) → Bool
way_ok c entry f before after =
    let x = trace c.loop.branch before (from_at entry 0) in
    let y = trace c.loop.branch after (from_at c.header 0) in
    at_header c.header x && ((y.over && y.fine) && same_price (plus x.clock y.clock) f)

abbrev pub some_way : Plan → ℕ → Price → List Priced → Bool
some_way c entry f [] = false
some_way c entry f (g ∷ gs) = let before = length g.way - c.after in if way_ok c entry f (take before g.way) (drop before g.way) then true else some_way c entry f gs

abbrev pub all_ways : Plan → ℕ → List Price → List Priced → Bool
all_ways c entry [] gs = true
all_ways c entry (f ∷ fs) gs = some_way c entry f gs && all_ways c entry fs gs

abbrev pub turn_ok : Plan → Bool
turn_ok c = let x = trace c.loop.branch c.turn (from_at c.header 1) in at_header c.header x && same_price x.clock c.loop.gain

abbrev pub most : CostParams → List Price → ℕ
most p [] = 0
most p (f ∷ fs) = larger (worth p f) (most p fs)

-- the walks from an address come to these prices
pub record Good (c : Plan) (table : List (List Priced)) (entry : ℕ) (fs : List Price) : Type 0 where
  pub known : told (look (all_prices table) entry) ≡ true
  pub prices : all_below (look (all_prices table) entry) (raised c.loop.gain fs) ≡ true
  pub ways : all_ways c entry fs (get_or table entry []) ≡ true
  pub turn : turn_ok c ≡ true

pub larger_none : (a : ℕ) → larger a 0 ≡ a
larger_none a = by (nat_lt a 0) refl
  where
    by : (b : Bool) → nat_lt a 0 ≡ b → (if b then 0 else a) ≡ a
    by true e = let l = ltb-true a 0 e in omega arith
    by false e = refl

pub larger_left : (a b : ℕ) → a ≤ larger a b
larger_left a b = by (nat_lt a b) refl
  where
    by : (t : Bool) → nat_lt a b ≡ t → a ≤ (if t then b else a)
    by true e = let l = ltb-true a b e in omega arith
    by false e = omega arith

pub larger_right : (a b : ℕ) → b ≤ larger a b
larger_right a b = by (nat_lt a b) refl
  where
    by : (t : Bool) → nat_lt a b ≡ t → b ≤ (if t then b else a)
    by true e = omega arith
    by false e = ltb-false a b e

pub within_most : (p : CostParams) (fs : List Price) (base n : ℕ) → Within p fs base n → n ≤ base + most p fs
within_most p [] base n w = absurd w
within_most p (f ∷ fs) base n (inl l) = omega (arith, larger_left (worth p f) (most p fs))
within_most p (f ∷ fs) base n (inr w) = omega (arith, within_most p fs base n w, larger_right (worth p f) (most p fs))

pub walk_append : (p : CostParams) (gs hs : List Bool) (s : Walker) → walk p (gs ++ hs) s ≡ walk p hs (walk p gs s)
walk_append p [] hs s = refl
walk_append p (g ∷ gs) hs s = walk_append p gs hs _

abbrev pub times : ℕ → List Bool → List Bool
times zero gs = []
times (suc k) gs = gs ++ times k gs

-- s stands at an address, idle, with so many turns left, and no other branch has gone back
pub record Stands (p : CostParams) (c : Plan) (here turns_left base : ℕ) (s : Walker) : Type 0 where
  pub at : s.at ≡ here
  pub port : s.port ≡ 0
  pub clock : s.clock ≡ base
  pub left : turns_left ≤ s.left c.loop.branch
  pub others : (k : ℕ) → (k == c.loop.branch) ≡ false → s.left k ≡ turns_at p k
  pub over : s.over ≡ false
  pub fine : s.fine ≡ true

pub stands_follows : (p : CostParams) (c : Plan) (at may rest base : ℕ) (s : Walker) → Stands p c at (may + rest) base s → (extra : ℕ) → s.left c.loop.branch ≡ may + (rest + extra) → Follows p c.loop.branch (rest + extra) base (from_at at may) s
stands_follows p c at may rest base s h extra e = record { at = h.at; port = h.port; clock = h.clock ∙ omega arith; left = e; others = λ fresh k n. h.others k n; over = h.over; fine = h.fine }

pub same_value : (p : CostParams) (f g : Price) → same_price f g ≡ true → worth p f ≡ worth p g
same_value p f g h =
    let a = eqb-true f.fixed g.fixed (first (f.fixed == g.fixed) (f.reads == g.reads && f.writes == g.writes) h) in
    let t = second (f.fixed == g.fixed) (f.reads == g.reads && f.writes == g.writes) h in
    let b = ap (λ k. k * p.r) (eqb-true f.reads g.reads (first (f.reads == g.reads) (f.writes == g.writes) t)) in
    let d = ap (λ k. k * p.w) (eqb-true f.writes g.writes (second (f.reads == g.reads) (f.writes == g.writes) t)) in
    omega arith

pub is_not : (b : Bool) → (if b then false else true) ≡ true → b ≡ false
is_not true h = cc
is_not false h = refl

-- what a walk to the header comes to
pub to_header : (p : CostParams) (c : Plan) (gs : List Bool) (at may rest base : ℕ) (s : Walker) → Stands p c at (may + rest) base s → at_header c.header (trace c.loop.branch gs (from_at at may)) ≡ true
    → Stands p c c.header rest (base + worth p (trace c.loop.branch gs (from_at at may)).clock) (walk p gs s)
to_header p c gs at may rest base s h k =
    let x = trace c.loop.branch gs (from_at at may) in
    let on = if x.over then false else true in
    let fresh = if x.spent then false else true in
    let k1 = second (x.at == c.header) (is_free x.port && (on && (fresh && x.fine))) k in
    let k2 = second (is_free x.port) (on && (fresh && x.fine)) k1 in
    let k3 = second on (fresh && x.fine) k2 in
    let e = s.left c.loop.branch - (may + rest) in
    let hl = h.left in
    let split : s.left c.loop.branch ≡ may + (rest + e) = omega arith in
    let f = trace_follows p c.loop.branch (rest + e) base gs (from_at at may) s (stands_follows p c at may rest base s h e split) (second fresh x.fine k3) in
    let fl = f.left in
    record {
      at = f.at ∙ eqb-true x.at c.header (first (x.at == c.header) (is_free x.port && (on && (fresh && x.fine))) k);
      port = f.port ∙ ap (λ b. port_of p b) (free_is x.port (first (is_free x.port) (on && (fresh && x.fine)) k1));
      clock = f.clock;
      left = omega arith;
      others = f.others (is_not x.spent (first fresh x.fine k3));
      over = f.over ∙ is_not x.over (first on (fresh && x.fine) k2);
      fine = f.fine ∙ second fresh x.fine k3;
    }

pub all_turns : (p : CostParams) (c : Plan) (t base : ℕ) (s : Walker) → turn_ok c ≡ true → Stands p c c.header t base s → Stands p c c.header 0 (base + t * worth p c.loop.gain) (walk p (times t c.turn) s)
all_turns p c zero base s k h = record { at = h.at; port = h.port; clock = h.clock ∙ omega arith; left = h.left; others = h.others; over = h.over; fine = h.fine }
all_turns p c (suc t) base s k h =
    let x = trace c.loop.branch c.turn (from_at c.header 1) in
    let hl = h.left in
    let one : Stands p c c.header (1 + t) base s = record { at = h.at; port = h.port; clock = h.clock; left = omega arith; others = h.others; over = h.over; fine = h.fine } in
    let a = to_header p c c.turn c.header 1 t base s one (first (at_header c.header x) (same_price x.clock c.loop.gain) k) in
    let v = same_value p x.clock c.loop.gain (second (at_header c.header x) (same_price x.clock c.loop.gain) k) in
    let r = all_turns p c t (base + worth p x.clock) (walk p c.turn s) k a in
    let q : base + worth p x.clock + t * worth p c.loop.gain ≡ base + suc t * worth p c.loop.gain = sums base (worth p x.clock) t (worth p c.loop.gain) v in
    subst (λ z. Stands p c c.header 0 (base + suc t * worth p c.loop.gain) z) (sym (walk_append p c.turn (times t c.turn) s))
    (subst (λ n. Stands p c c.header 0 n (walk p (times t c.turn) (walk p c.turn s))) q r)
  where
    sums : (base u t v : ℕ) → u ≡ v → base + u + t * v ≡ base + suc t * v
    sums base u t v e = let q : suc t * v ≡ t * v + v = omega arith in omega arith

pub way_takes : (p : CostParams) (c : Plan) (entry : ℕ) (f : Price) (before after : List Bool) → turn_ok c ≡ true → way_ok c entry f before after ≡ true → Attained p entry (worth p f + turns_at p c.loop.branch * worth p c.loop.gain)
way_takes p c entry f before after k h =
    let n = turns_at p c.loop.branch in
    let x = trace c.loop.branch before (from_at entry 0) in
    let y = trace c.loop.branch after (from_at c.header 0) in
    let h1 = second (at_header c.header x) ((y.over && y.fine) && same_price (plus x.clock y.clock) f) h in
    let h2 = first (y.over && y.fine) (same_price (plus x.clock y.clock) f) h1 in
    let s0 = begin p entry in
    let a = to_header p c before entry 0 n 0 s0 (record { at = refl; port = refl; clock = refl; left = omega arith; others = λ i e. refl; over = refl; fine = refl }) (first (at_header c.header x) ((y.over && y.fine) && same_price (plus x.clock y.clock) f) h) in
    let s1 = walk p before s0 in
    let b = all_turns p c n (0 + worth p x.clock) s1 k a in
    let s2 = walk p (times n c.turn) s1 in
    let base = 0 + worth p x.clock + n * worth p c.loop.gain in
    let e = s2.left c.loop.branch in
    let d = trace_follows p c.loop.branch (0 + e) base after (from_at c.header 0) s2 (stands_follows p c c.header 0 0 base s2 b e (omega arith)) (second y.over y.fine h2) in
    let same : walk p (before ++ (times n c.turn ++ after)) s0 ≡ walk p after s2 = walk_append p before (times n c.turn ++ after) s0 ∙ walk_append p (times n c.turn) after s1 in
    let v = same_value p (plus x.clock y.clock) f (second (y.over && y.fine) (same_price (plus x.clock y.clock) f) h1) in
    let sum = plus_value p x.clock y.clock in
    let dc = d.clock in
    record {
      choices = before ++ (times n c.turn ++ after);
      ends = record { fine = ap (λ (z : Walker). z.fine) same ∙ d.fine ∙ second y.over y.fine h2; over = ap (λ (z : Walker). z.over) same ∙ d.over ∙ first y.over y.fine h2 };
      takes = ap (λ (z : Walker). z.clock) same ∙ dc ∙ total (worth p x.clock) (worth p y.clock) (worth p f) (n * worth p c.loop.gain) (sym sum ∙ v);
    }
  where
    total : (a b c d : ℕ) → a + b ≡ c → 0 + a + d + b ≡ c + d
    total a b c d e = omega arith

pub some_takes : (p : CostParams) (c : Plan) (entry : ℕ) (f : Price) (gs : List Priced) → turn_ok c ≡ true → some_way c entry f gs ≡ true → Attained p entry (worth p f + turns_at p c.loop.branch * worth p c.loop.gain)
some_takes p c entry f [] k h = cc
some_takes p c entry f (g ∷ gs) k h = by (way_ok c entry f (take (length g.way - c.after) g.way) (drop (length g.way - c.after) g.way)) refl h (λ r. some_takes p c entry f gs k r)
  where
    by : (b : Bool) → way_ok c entry f (take (length g.way - c.after) g.way) (drop (length g.way - c.after) g.way) ≡ b → (if b then true else some_way c entry f gs) ≡ true
        → (some_way c entry f gs ≡ true → Attained p entry (worth p f + turns_at p c.loop.branch * worth p c.loop.gain)) → Attained p entry (worth p f + turns_at p c.loop.branch * worth p c.loop.gain)
    by true e r other = way_takes p c entry f (take (length g.way - c.after) g.way) (drop (length g.way - c.after) g.way) k e
    by false e r other = other r

pub ways_take : (p : CostParams) (c : Plan) (entry : ℕ) (f : Price) (fs : List Price) (gs : List Priced) → turn_ok c ≡ true → all_ways c entry (f ∷ fs) gs ≡ true → Attained p entry (most p (f ∷ fs) + turns_at p c.loop.branch * worth p c.loop.gain)
ways_take p c entry f [] gs k h =
    let e : larger (worth p f) 0 ≡ worth p f = larger_none (worth p f) in
    subst (λ n. Attained p entry (n + turns_at p c.loop.branch * worth p c.loop.gain)) (sym e) (some_takes p c entry f gs k (first (some_way c entry f gs) true h))
ways_take p c entry f (g ∷ fs) gs k h =
    either (nat_lt (worth p f) (most p (g ∷ fs))) (some_takes p c entry f gs k (first (some_way c entry f gs) (all_ways c entry (g ∷ fs) gs) h)) (ways_take p c entry g fs gs k (second (some_way c entry f gs) (all_ways c entry (g ∷ fs) gs) h))
  where
    either : (b : Bool) → Attained p entry (worth p f + turns_at p c.loop.branch * worth p c.loop.gain) → Attained p entry (most p (g ∷ fs) + turns_at p c.loop.branch * worth p c.loop.gain)
        → Attained p entry ((if b then most p (g ∷ fs) else worth p f) + turns_at p c.loop.branch * worth p c.loop.gain)
    either true x y = y
    either false x y = x

-- what is told on top of one turn's price
pub on_top : (p : CostParams) (d : Price) (fs : List Price) (base n : ℕ) → Within p (raised d fs) base (n + worth p d) → Within p fs base n
on_top p d [] base n w = w
on_top p d (f ∷ fs) base n (inl l) = inl (omega (arith, plus_value p d f))
on_top p d (f ∷ fs) base n (inr w) = inr (on_top p d fs base n w)

-- What a good table gives is the greatest walk.
pub good_greatest : (p : CostParams) → IsShort p → (c : Plan) (table : List (List Priced)) (entry : ℕ) (f : Price) (fs : List Price) → Keeps (all_prices table) c.loop → Good c table entry (f ∷ fs)
    → IsGreatestTime p entry (most p (f ∷ fs) + turns_at p c.loop.branch * worth p c.loop.gain)
good_greatest p short c table entry f fs keeps g = record {
  attained = ways_take p c entry f fs (get_or table entry []) g.turn g.ways;
  greatest = λ gs e.
      let x : Ctx = record { p = p; short = short; nodes = all_prices table; loop = c.loop } in
      let s = begin p entry in
      let w = bounded x keeps gs false s (look (all_prices table) entry) (cycles 0) 0 (refl, refl, g.known, refl) refl e in
      let a = all_within p short (look (all_prices table) entry) (raised c.loop.gain (f ∷ fs)) (0 + stock x s) (time x (walk p gs s)) g.prices w in
      let l = within_most p (f ∷ fs) (0 + stock x s) (walk p gs s).clock (on_top p c.loop.gain (f ∷ fs) (0 + stock x s) (walk p gs s).clock a) in omega arith;
}
