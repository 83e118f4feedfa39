-- A load that is under way, clock by clock: its header, and then its words.
use Rattle.std.proofs.Common.{◌≡◌, ◌≢◌, ℕ, ◌+◌, ◌-◌, ◌*◌, ◌%◌, ◌^◌, ◌<◌, ◌≤◌, Bool, true, false, List, [], length, sym, ap, subst, inl, inr, ◌∙◌, arith}
use Rattle.std.specs.Prelude.{◌==◌, ◌&&◌, ◌||◌, nat_lt, if◌then◌else◌, slice_set, slice_index, slice_index_or}
use Rattle.std.proofs.Math.Nat.{mod-add-mod, mul-le-mul_right}
use Rattle.std.proofs.lemmas.Bool.{eq-eqb, ne_eqb, cases_eq}
use Rattle.method_cache.specs.Contents.{IsCache, first_block}
use Rattle.jop_core.specs.State.{MachineState}
use Rattle.jop_core.specs.Operations.{code_place}
use Rattle.circuit_cycles.specs.Shape.{Shape}
use Rattle.circuit_cycles.specs.Tags.{BlockTag, behind, bit_of}
use Rattle.circuit_cycles.specs.Core.{Core, Given, next, runs, fills, fills_word, tag_taken}
use Rattle.circuit_cycles.specs.Methods.{HasPart, IsRing}
use Rattle.circuit_cycles.specs.Stands.{HasShape, HasHeader, HasRing, IsLoading, words_done, load_left, loads}
use Rattle.circuit_cycles.specs.Laws.{rested}
use Rattle.circuit_cycles.proofs.Quiet as quiet
use Rattle.circuit_cycles.proofs.Signals.{lt_is, ge_is}
use Rattle.circuit_cycles.proofs.Rounds.{behind_next}
use Rattle.circuit_cycles.proofs.Entries.{is_split}
use Rattle.circuit_cycles.proofs.Writes.{word_written}
use Rattle.circuit_cycles.proofs.LoadEnds.{load_ends}
use Rattle.circuit_cycles.proofs.UnderWay.{SameRing, goes_on, read_word, ring_same, part_is}

-- what a clock of a load gives
pub record Step (shape : Shape) (c d : Core) (s : MachineState) (words : ℕ) : Type 0 where
  pub ring : HasRing (loads d) shape d (rested s)
  pub left : load_left shape c words ≡ load_left shape d words + 1

pub done_none : (shape : Shape) (c : Core) (n : ℕ) → 0 < c.header → words_done shape c n ≡ 0
done_none shape c n h = ap (λ b. if b then 0 else if c.turn == shape.read_wait + 1 then n - c.left else n - c.left + 1) (lt_is 0 c.header h)

done_before : (shape : Shape) (c : Core) (n : ℕ) → c.header ≡ 0 → c.turn ≡ shape.read_wait + 1 → words_done shape c n ≡ n - c.left
done_before shape c n h t =
    ap (λ b. if b then 0 else if c.turn == shape.read_wait + 1 then n - c.left else n - c.left + 1) (ge_is 0 c.header (omega (arith, h)))
    ∙ ap (λ b. if b then n - c.left else n - c.left + 1) (eq-eqb c.turn (shape.read_wait + 1) t)

done_behind : (shape : Shape) (c : Core) (n : ℕ) → c.header ≡ 0 → c.turn ≢ shape.read_wait + 1 → words_done shape c n ≡ n - c.left + 1
done_behind shape c n h t =
    ap (λ b. if b then 0 else if c.turn == shape.read_wait + 1 then n - c.left else n - c.left + 1) (ge_is 0 c.header (omega (arith, h)))
    ∙ ap (λ b. if b then n - c.left else n - c.left + 1) (ne_eqb c.turn (shape.read_wait + 1) t)

pub left_header : (shape : Shape) (c : Core) (n : ℕ) → 0 < c.header → load_left shape c n ≡ c.header + n * (2 + shape.read_wait)
left_header shape c n h =
    ap (λ b. if b then c.header + n * (2 + shape.read_wait) else if nat_lt 0 c.left then (c.left - 1) * (2 + shape.read_wait) + c.turn + 1 else 0) (lt_is 0 c.header h)

pub left_words : (shape : Shape) (c : Core) (n : ℕ) → c.header ≡ 0 → 0 < c.left → load_left shape c n ≡ (c.left - 1) * (2 + shape.read_wait) + c.turn + 1
left_words shape c n h l =
    ap (λ b. if b then c.header + n * (2 + shape.read_wait) else if nat_lt 0 c.left then (c.left - 1) * (2 + shape.read_wait) + c.turn + 1 else 0) (ge_is 0 c.header (omega (arith, h)))
    ∙ ap (λ b. if b then (c.left - 1) * (2 + shape.read_wait) + c.turn + 1 else 0) (lt_is 0 c.left l)

pub left_none : (shape : Shape) (c : Core) (n : ℕ) → c.header ≡ 0 → c.left ≡ 0 → load_left shape c n ≡ 0
left_none shape c n h l =
    ap (λ b. if b then c.header + n * (2 + shape.read_wait) else if nat_lt 0 c.left then (c.left - 1) * (2 + shape.read_wait) + c.turn + 1 else 0) (ge_is 0 c.header (omega (arith, h)))
    ∙ ap (λ b. if b then (c.left - 1) * (2 + shape.read_wait) + c.turn + 1 else 0) (ge_is 0 c.left (omega (arith, l)))

pub loads_header : (c : Core) → 0 < c.header → loads c ≡ true
loads_header c h = ap (λ b. b || nat_lt 0 c.left) (lt_is 0 c.header h)

loads_words : (c : Core) → c.header ≡ 0 → 0 < c.left → loads c ≡ true
loads_words c h l = ap (λ b. b || nat_lt 0 c.left) (ge_is 0 c.header (omega (arith, h))) ∙ lt_is 0 c.left l

pub loads_no : (c : Core) → c.header ≡ 0 → c.left ≡ 0 → loads c ≡ false
loads_no c h l = ap (λ b. b || nat_lt 0 c.left) (ge_is 0 c.header (omega (arith, h))) ∙ ge_is 0 c.left (omega (arith, l))

-- one word more
one_more : (left n : ℕ) → left ≤ n → (left == n) ≡ (n - left == 0)
one_more left n h = elim (cases_eq left n) [
  | inl same ↦ eq-eqb left n same ∙ sym (eq-eqb (n - left) 0 (omega (arith, same)))
  | inr other ↦ ne_eqb left n other ∙ sym (ne_eqb (n - left) 0 (omega (arith, h, other)))
]

pub ring_some : (blocks words ring : ℕ) → 0 < blocks → 0 < words → ring ≡ blocks * words → 0 < ring
ring_some blocks words ring b w e = let product = mul-le-mul_right {m = 1} {n = blocks} words (omega (arith, b)) in omega (arith, product, e, w)

module _ (shape : Shape) (given : Given) (c : Core) (s : MachineState) (idle : runs c ≡ false) (fit : HasShape shape s) (main : c.main ≡ s.port.words) (is : IsRing shape c.ring c.tags s.cache) (valid : IsCache s.cache) (load : IsLoading shape c s) where
  some : 0 < length load.newest.words
  some = (is_split s.cache [] load.newest load.older valid (let given = is.some_words in let same = is.block_words in omega (arith, given, same)) load.current.split).some_words

  long : length s.port.words ≤ 2 ^ shape.memory_bits
  long = let size = fit.memory in let places = fit.places in omega (arith, size, places)

  -- what stays where no word is written
  same_ring : fills_word shape c ≡ false → SameRing c (next shape given c)
  same_ring none = record {
    ring = quiet.ring shape given c idle ∙ ap (λ b. if b then slice_set c.ring c.target c.main_out else c.ring) none;
    tags = quiet.tags shape given c idle ∙ ap (λ b. if b && c.in_block == 0 then slice_set c.tags c.next_block (tag_taken c) else c.tags) none;
    next_block = quiet.next_block shape given c idle ∙ ap (λ b. if b && c.in_block == 0 then behind shape.blocks c.next_block else c.next_block) none;
    base = quiet.base shape given c idle;
    place = quiet.place shape given c idle;
  }

  same_target : fills_word shape c ≡ false → (next shape given c).target ≡ c.target
  same_target none = quiet.target shape given c idle ∙ ap (λ b. if b then behind shape.ring_words c.target else c.target) none

  same_in_block : fills_word shape c ≡ false → (next shape given c).in_block ≡ c.in_block
  same_in_block none = quiet.in_block shape given c idle ∙ ap (λ b. if b then behind shape.block_words c.in_block else c.in_block) none

  read_source : c.header ≢ 4 → (place : ℕ) → c.source ≡ place % 2 ^ shape.memory_bits → place < length s.port.words → (next shape given c).main_out ≡ slice_index s.port.words place
  read_source other place at low =
      quiet.main_out shape given c idle
      ∙ ap (λ b. slice_index_or c.main (if b then (c.place + 3) % 2 ^ shape.memory_bits else c.source) given.main) (ne_eqb c.header 4 other)
      ∙ ap (λ k. slice_index_or c.main k given.main) at
      ∙ ap (λ (ws : List ℕ). slice_index_or ws (place % 2 ^ shape.memory_bits) given.main) main
      ∙ read_word s.port.words place shape.memory_bits given.main low long

  -- ---- the header

  module _ (heads : 0 < c.header) where
    no_fill : fills c ≡ false
    no_fill = ap (λ b. b && nat_lt 0 c.left) (ne_eqb c.header 0 (omega (arith, heads)))

    no_word : fills_word shape c ≡ false
    no_word = ap (λ b. b && c.turn == shape.read_wait + 1) no_fill

    same_left : c.header ≢ 4 → (next shape given c).left ≡ c.left
    same_left other =
        quiet.left shape given c idle
        ∙ ap (λ b. if b then c.main_out % 2 ^ 16 else if fills c && c.turn == 0 then c.left - 1 else c.left) (ne_eqb c.header 4 other)
        ∙ ap (λ b. if b && c.turn == 0 then c.left - 1 else c.left) no_fill

    same_words : c.header ≢ 4 → (next shape given c).words ≡ length load.newest.words
    same_words other =
        quiet.words shape given c idle
        ∙ ap (λ b. if b then c.main_out % 2 ^ 16 else c.words) (ne_eqb c.header 4 other)
        ∙ load.current.words (let most = load.header.most in omega (arith, most, other))

    full_turn : (next shape given c).turn ≡ shape.read_wait + 1
    full_turn = quiet.turn shape given c idle ∙ ap (λ b. if b && nat_lt 0 c.turn then c.turn - 1 else shape.read_wait + 1) no_fill

    same_source : c.header ≢ 3 → (next shape given c).source ≡ c.source
    same_source other =
        quiet.source shape given c idle
        ∙ ap (λ b. if b then (c.place + 4 + 3 * c.main_out) % 2 ^ shape.memory_bits else if fills_word shape c then (c.source + 1) % 2 ^ shape.memory_bits else c.source) (ne_eqb c.header 3 other)
        ∙ ap (λ b. if b then (c.source + 1) % 2 ^ shape.memory_bits else c.source) no_word

    -- while the header is read
    heads_on : 0 < (next shape given c).header → c.header ≡ (next shape given c).header + 1 → ((next shape given c).header < 4 → (next shape given c).words ≡ length load.newest.words)
        → HasHeader shape (next shape given c) (rested s) load.newest → Step shape c (next shape given c) s (length load.newest.words)
    heads_on still step words header = record {
      ring = subst (λ b. HasRing b shape (next shape given c) (rested s)) (sym (loads_header (next shape given c) still))
          (goes_on shape c (next shape given c) s load (same_ring no_word) (same_target no_word) (same_in_block no_word)
          (done_none shape (next shape given c) (length load.newest.words) still ∙ sym (done_none shape c (length load.newest.words) heads)) words header);
      left =
          left_header shape c (length load.newest.words) heads
          ∙ (let m = length load.newest.words * (2 + shape.read_wait) in let e : c.header + m ≡ (next shape given c).header + m + 1 = omega (arith, step) in e)
          ∙ ap (λ k. k + 1) (sym (left_header shape (next shape given c) (length load.newest.words) still));
    }

  pub four : c.header ≡ 4 → Step shape c (next shape given c) s (length load.newest.words)
  four h =
      let heads : 0 < c.header = omega (arith, h) in
      let is4 = eq-eqb c.header 4 h in
      let hd : (next shape given c).header ≡ 3 = quiet.header shape given c idle ∙ ap (λ k. k - 1) h in
      let size = load.header.size h in
      let fits = load.within in
      heads_on heads (omega (arith, hd)) (omega (arith, h, hd))
      (λ _. quiet.words shape given c idle ∙ ap (λ b. if b then c.main_out % 2 ^ 16 else c.words) is4 ∙ size)
      (record {
        most = omega (arith, hd);
        size = λ h'. absurd (omega (arith, hd, h'));
        entries = λ _.
            quiet.main_out shape given c idle
            ∙ ap (λ b. slice_index_or c.main (if b then (c.place + 3) % 2 ^ shape.memory_bits else c.source) given.main) is4
            ∙ ap (λ p. slice_index_or c.main ((p + 3) % 2 ^ shape.memory_bits) given.main) load.current.place
            ∙ ap (λ (ws : List ℕ). slice_index_or ws ((s.method + 3) % 2 ^ shape.memory_bits) given.main) main
            ∙ read_word s.port.words (s.method + 3) shape.memory_bits given.main (omega (arith, fits)) long;
        left = λ _ _.
            quiet.left shape given c idle
            ∙ ap (λ b. if b then c.main_out % 2 ^ 16 else if fills c && c.turn == 0 then c.left - 1 else c.left) is4 ∙ size;
        source = λ h'. absurd (omega (arith, hd, h'));
        first = λ h'. absurd (omega (arith, hd, h'));
        fewer = λ h'. absurd (omega (arith, hd, h'));
        turn = λ h'. absurd (omega (arith, hd, h'));
      })

  pub three : c.header ≡ 3 → Step shape c (next shape given c) s (length load.newest.words)
  three h =
      let heads : 0 < c.header = omega (arith, h) in
      let hd : (next shape given c).header ≡ 2 = quiet.header shape given c idle ∙ ap (λ k. k - 1) h in
      heads_on heads (omega (arith, hd)) (omega (arith, h, hd))
      (λ _. same_words heads (omega (arith, h)))
      (record {
        most = omega (arith, hd);
        size = λ h'. absurd (omega (arith, hd, h'));
        entries = λ h'. absurd (omega (arith, hd, h'));
        left = λ _ _. same_left heads (omega (arith, h)) ∙ load.header.left heads (omega (arith, h));
        source = λ _.
            quiet.source shape given c idle
            ∙ ap (λ b. if b then (c.place + 4 + 3 * c.main_out) % 2 ^ shape.memory_bits else if fills_word shape c then (c.source + 1) % 2 ^ shape.memory_bits else c.source) (eq-eqb c.header 3 h)
            ∙ ap (λ p. (p + 4 + 3 * c.main_out) % 2 ^ shape.memory_bits) load.current.place
            ∙ ap (λ w. (s.method + 4 + 3 * w) % 2 ^ shape.memory_bits) (load.header.entries h)
            ∙ ap (λ k. k % 2 ^ shape.memory_bits) (let p = code_place s.port.words s.method in let e : p ≡ p + 0 = omega arith in e)
            ∙ ap (λ k. (code_place s.port.words s.method + k) % 2 ^ shape.memory_bits) (sym (done_none shape (next shape given c) (length load.newest.words) (omega (arith, hd))));
        first = λ h'. absurd (omega (arith, hd, h'));
        fewer = λ h'. absurd (omega (arith, hd, h'));
        turn = λ h'. absurd (omega (arith, hd, h'));
      })

  pub two : c.header ≡ 2 → Step shape c (next shape given c) s (length load.newest.words)
  two h =
      let heads : 0 < c.header = omega (arith, h) in
      let hd : (next shape given c).header ≡ 1 = quiet.header shape given c idle ∙ ap (λ k. k - 1) h in
      heads_on heads (omega (arith, hd)) (omega (arith, h, hd))
      (λ _. same_words heads (omega (arith, h)))
      (record {
        most = omega (arith, hd);
        size = λ h'. absurd (omega (arith, hd, h'));
        entries = λ h'. absurd (omega (arith, hd, h'));
        left = λ _ _. same_left heads (omega (arith, h)) ∙ load.header.left heads (omega (arith, h));
        source = λ _.
            same_source heads (omega (arith, h)) ∙ load.header.source (omega (arith, h))
            ∙ ap (λ k. (code_place s.port.words s.method + k) % 2 ^ shape.memory_bits) (done_none shape c (length load.newest.words) heads ∙ sym (done_none shape (next shape given c) (length load.newest.words) (omega (arith, hd))));
        first = λ h'. absurd (omega (arith, hd, h'));
        fewer = λ h'. absurd (omega (arith, hd, h'));
        turn = λ h'. absurd (omega (arith, hd, h'));
      })

  pub one : c.header ≡ 1 → Step shape c (next shape given c) s (length load.newest.words)
  one h =
      let heads : 0 < c.header = omega (arith, h) in
      let d = next shape given c in
      let hd : (next shape given c).header ≡ 0 = quiet.header shape given c idle ∙ ap (λ k. k - 1) h in
      let left : (next shape given c).left ≡ length load.newest.words = same_left heads (omega (arith, h)) ∙ load.header.left heads (omega (arith, h)) in
      let more : 0 < (next shape given c).left = (let w = some in omega (arith, left, w)) in
      let turn = full_turn heads in
      let none = no_word heads in
      let zero' : length load.newest.words - (next shape given c).left ≡ 0 = omega (arith, left) in
      let done : words_done shape (next shape given c) (length load.newest.words) ≡ 0 = done_before shape (next shape given c) (length load.newest.words) hd turn ∙ zero' in
      let p = code_place s.port.words s.method in
      let source : c.source ≡ (p + 0) % 2 ^ shape.memory_bits = load.header.source (omega (arith, h)) ∙ ap (λ k. (p + k) % 2 ^ shape.memory_bits) (done_none shape c (length load.newest.words) heads) in
      let fits = load.within in
      let has = some in
      record {
        ring = subst (λ b. HasRing b shape (next shape given c) (rested s)) (sym (loads_words (next shape given c) hd more))
            (goes_on shape c (next shape given c) s load (same_ring none) (same_target none) (same_in_block none) (done ∙ sym (done_none shape c (length load.newest.words) heads)) (λ _. same_words heads (omega (arith, h)))
            (record {
              most = omega (arith, hd);
              size = λ h'. absurd (omega (arith, hd, h'));
              entries = λ h'. absurd (omega (arith, hd, h'));
              left = λ h' _. absurd (omega (arith, hd, h'));
              source = λ _. same_source heads (omega (arith, h)) ∙ source ∙ ap (λ k. (p + k) % 2 ^ shape.memory_bits) (sym done);
              first = λ _ _. read_source (omega (arith, h)) (p + 0) source (omega (arith, fits, has)) ∙ load.memory 0 has ∙ ap (λ k. slice_index load.newest.words k) (sym zero');
              fewer = λ _. omega (arith, left);
              turn = λ _. omega (arith, turn);
            }));
        left =
            left_header shape c (length load.newest.words) heads
            ∙ ap (λ k. k + length load.newest.words * (2 + shape.read_wait)) h
            ∙ counts (length load.newest.words) shape.read_wait has
            ∙ ap (λ k. (k - 1) * (2 + shape.read_wait) + (shape.read_wait + 1) + 1 + 1) (sym left)
            ∙ ap (λ t. ((next shape given c).left - 1) * (2 + shape.read_wait) + t + 1 + 1) (sym turn)
            ∙ ap (λ k. k + 1) (sym (left_words shape (next shape given c) (length load.newest.words) hd more));
      }
    where
      counts : (m r : ℕ) → 0 < m → 1 + m * (2 + r) ≡ (m - 1) * (2 + r) + (r + 1) + 1 + 1
      counts m r h =
          let k = m - 1 in
          let e : m ≡ k + 1 = omega (arith, h) in
          ap (λ x. 1 + x * (2 + r)) e ∙ (let e' : 1 + (k + 1) * (2 + r) ≡ k * (2 + r) + (r + 1) + 1 + 1 = omega arith in e')

  -- ---- the words

  module _ (zero' : c.header ≡ 0) (more : 0 < c.left) where
    filling : fills c ≡ true
    filling = ap (λ b. b && nat_lt 0 c.left) (eq-eqb c.header 0 zero') ∙ lt_is 0 c.left more

    word_at : fills_word shape c ≡ (c.turn == shape.read_wait + 1)
    word_at = ap (λ b. b && c.turn == shape.read_wait + 1) filling

    head_none : (next shape given c).header ≡ 0
    head_none = quiet.header shape given c idle ∙ ap (λ k. k - 1) zero'

    now_words : (next shape given c).words ≡ length load.newest.words
    now_words =
        quiet.words shape given c idle ∙ ap (λ b. if b then c.main_out % 2 ^ 16 else c.words) (ne_eqb c.header 4 (omega (arith, zero')))
        ∙ load.current.words (omega (arith, zero'))

    now_left : (next shape given c).left ≡ (if c.turn == 0 then c.left - 1 else c.left)
    now_left =
        quiet.left shape given c idle
        ∙ ap (λ b. if b then c.main_out % 2 ^ 16 else if fills c && c.turn == 0 then c.left - 1 else c.left) (ne_eqb c.header 4 (omega (arith, zero')))
        ∙ ap (λ b. if b && c.turn == 0 then c.left - 1 else c.left) filling

    now_turn : (next shape given c).turn ≡ (if nat_lt 0 c.turn then c.turn - 1 else shape.read_wait + 1)
    now_turn = quiet.turn shape given c idle ∙ ap (λ b. if b && nat_lt 0 c.turn then c.turn - 1 else shape.read_wait + 1) filling

    now_source : (next shape given c).source ≡ (if fills_word shape c then (c.source + 1) % 2 ^ shape.memory_bits else c.source)
    now_source =
        quiet.source shape given c idle
        ∙ ap (λ b. if b then (c.place + 4 + 3 * c.main_out) % 2 ^ shape.memory_bits else if fills_word shape c then (c.source + 1) % 2 ^ shape.memory_bits else c.source) (ne_eqb c.header 3 (omega (arith, zero')))

    -- a clock behind that in which the word was written, but the last one of its turn
    counting : 0 < c.turn → c.turn ≢ shape.read_wait + 1 → Step shape c (next shape given c) s (length load.newest.words)
    counting later other =
        let none : fills_word shape c ≡ false = word_at ∙ ne_eqb c.turn (shape.read_wait + 1) other in
        let left : (next shape given c).left ≡ c.left = now_left ∙ ap (λ b. if b then c.left - 1 else c.left) (ne_eqb c.turn 0 (omega (arith, later))) in
        let turn : (next shape given c).turn ≡ c.turn - 1 = now_turn ∙ ap (λ b. if b then c.turn - 1 else shape.read_wait + 1) (lt_is 0 c.turn later) in
        let most = load.header.turn zero' in
        let still : (next shape given c).turn ≢ shape.read_wait + 1 = (λ e. omega (arith, e, turn, most, later)) in
        let done : words_done shape (next shape given c) (length load.newest.words) ≡ words_done shape c (length load.newest.words) =
        done_behind shape (next shape given c) (length load.newest.words) head_none still ∙ ap (λ k. length load.newest.words - k + 1) left ∙ sym (done_behind shape c (length load.newest.words) zero' other) in
        let fewer = load.header.fewer zero' in
        let hd = head_none in
        record {
          ring = subst (λ b. HasRing b shape (next shape given c) (rested s)) (sym (loads_words (next shape given c) hd (omega (arith, left, more))))
              (goes_on shape c (next shape given c) s load (same_ring none) (same_target none) (same_in_block none) done (λ _. now_words)
              (record {
                most = omega (arith, hd);
                size = λ h'. absurd (omega (arith, hd, h'));
                entries = λ h'. absurd (omega (arith, hd, h'));
                left = λ h' _. absurd (omega (arith, hd, h'));
                source = λ _.
                    now_source ∙ ap (λ b. if b then (c.source + 1) % 2 ^ shape.memory_bits else c.source) none ∙ load.header.source (omega (arith, zero'))
                    ∙ ap (λ k. (code_place s.port.words s.method + k) % 2 ^ shape.memory_bits) (sym done);
                first = λ _ e. absurd (still e);
                fewer = λ _. omega (arith, left, fewer);
                turn = λ _. omega (arith, turn, most);
              }));
          left =
              left_words shape c (length load.newest.words) zero' more
              ∙ (let m = (c.left - 1) * (2 + shape.read_wait) in let e : m + c.turn + 1 ≡ m + (c.turn - 1) + 1 + 1 = omega (arith, later) in e)
              ∙ ap (λ k. (k - 1) * (2 + shape.read_wait) + (c.turn - 1) + 1 + 1) (sym left)
              ∙ ap (λ t. ((next shape given c).left - 1) * (2 + shape.read_wait) + t + 1 + 1) (sym turn)
              ∙ ap (λ k. k + 1) (sym (left_words shape (next shape given c) (length load.newest.words) hd (omega (arith, left, more))));
        }

    -- the last clock of a turn
    module _ (last : c.turn ≡ 0) where
      no_write : fills_word shape c ≡ false
      no_write = word_at ∙ ne_eqb c.turn (shape.read_wait + 1) (omega (arith, last))

      less : (next shape given c).left ≡ c.left - 1
      less = now_left ∙ ap (λ b. if b then c.left - 1 else c.left) (eq-eqb c.turn 0 last)

      again : (next shape given c).turn ≡ shape.read_wait + 1
      again = now_turn ∙ ap (λ b. if b then c.turn - 1 else shape.read_wait + 1) (ge_is 0 c.turn (omega (arith, last)))

      before : words_done shape c (length load.newest.words) ≡ length load.newest.words - c.left + 1
      before = done_behind shape c (length load.newest.words) zero' (omega (arith, last))

      another : 1 < c.left → Step shape c (next shape given c) s (length load.newest.words)
      another two' =
          let hd = head_none in
          let fewer = load.header.fewer zero' in
          let l = less in
          let t = again in
          let size = length load.newest.words in
          let now : words_done shape (next shape given c) (length load.newest.words) ≡ size - (next shape given c).left = done_before shape (next shape given c) (length load.newest.words) hd t in
          let b = before in
          let done : words_done shape (next shape given c) (length load.newest.words) ≡ words_done shape c (length load.newest.words) = omega (arith, now, b, l, fewer, more) in
          let p = code_place s.port.words s.method in
          let source = load.header.source (omega (arith, zero')) in
          let fits = load.within in
          let k = words_done shape c (length load.newest.words) in
          let low : k < length load.newest.words = omega (arith, b, two', fewer) in
          record {
            ring = subst (λ x. HasRing x shape (next shape given c) (rested s)) (sym (loads_words (next shape given c) hd (omega (arith, l, two'))))
                (goes_on shape c (next shape given c) s load (same_ring no_write) (same_target no_write) (same_in_block no_write) done (λ _. now_words)
                (record {
                  most = omega (arith, hd);
                  size = λ h'. absurd (omega (arith, hd, h'));
                  entries = λ h'. absurd (omega (arith, hd, h'));
                  left = λ h' _. absurd (omega (arith, hd, h'));
                  source = λ _.
                      now_source ∙ ap (λ x. if x then (c.source + 1) % 2 ^ shape.memory_bits else c.source) no_write ∙ source
                      ∙ ap (λ x. (p + x) % 2 ^ shape.memory_bits) (sym done);
                  first = λ _ _. read_source (omega (arith, zero')) (p + k) source (omega (arith, fits, low)) ∙ load.memory k low ∙ ap (λ x. slice_index load.newest.words x) (sym done ∙ now);
                  fewer = λ _. omega (arith, l, fewer);
                  turn = λ _. omega (arith, t);
                }));
            left =
                left_words shape c (length load.newest.words) zero' more
                ∙ ap (λ x. (c.left - 1) * (2 + shape.read_wait) + x + 1) last
                ∙ counts (c.left - 1) shape.read_wait (omega (arith, two'))
                ∙ ap (λ x. (x - 1) * (2 + shape.read_wait) + (shape.read_wait + 1) + 1 + 1) (sym l)
                ∙ ap (λ x. ((next shape given c).left - 1) * (2 + shape.read_wait) + x + 1 + 1) (sym t)
                ∙ ap (λ x. x + 1) (sym (left_words shape (next shape given c) (length load.newest.words) hd (omega (arith, l, two'))));
          }
        where
          counts : (m r : ℕ) → 0 < m → m * (2 + r) + 0 + 1 ≡ (m - 1) * (2 + r) + (r + 1) + 1 + 1
          counts m r h =
              let k = m - 1 in
              let e : m ≡ k + 1 = omega (arith, h) in
              ap (λ x. x * (2 + r) + 0 + 1) e ∙ (let e' : (k + 1) * (2 + r) + 0 + 1 ≡ k * (2 + r) + (r + 1) + 1 + 1 = omega arith in e')

      ending : c.left ≡ 1 → Step shape c (next shape given c) s (length load.newest.words)
      ending one' =
          let hd = head_none in
          let l = less in
          let none : (next shape given c).left ≡ 0 = omega (arith, l, one') in
          let fewer = load.header.fewer zero' in
          let b = before in
          let all : words_done shape c (length load.newest.words) ≡ length load.newest.words = omega (arith, b, one', fewer) in
          let same = same_ring no_write in
          let cur = load.current in
          record {
            ring = subst (λ x. HasRing x shape (next shape given c) (rested s)) (sym (loads_no (next shape given c) hd none)) (record {
              methods =
                  ring_same shape c (next shape given c) s.cache same
                  (load_ends shape c.ring c.tags c.next_block s.cache load.newest load.older is valid cur.split
                  (subst (λ k. HasPart shape c.ring c.tags c.next_block s.cache load.newest k) all load.part));
              newer = [];
              method = load.newest;
              older = load.older;
              current = record {
                split = cur.split;
                method = cur.method;
                place = same.place ∙ cur.place;
                base = same.base ∙ cur.base;
                words = λ _. now_words;
              };
            });
            left =
                left_words shape c (length load.newest.words) zero' more
                ∙ ap (λ x. (c.left - 1) * (2 + shape.read_wait) + x + 1) last
                ∙ ap (λ x. (x - 1) * (2 + shape.read_wait) + 0 + 1) one'
                ∙ (let e : (1 - 1) * (2 + shape.read_wait) + 0 + 1 ≡ 0 + 1 = omega arith in e)
                ∙ ap (λ x. x + 1) (sym (left_none shape (next shape given c) (length load.newest.words) hd none));
          }

    -- the first clock of a turn writes a word
    writing : c.turn ≡ shape.read_wait + 1 → Step shape c (next shape given c) s (length load.newest.words)
    writing full =
        let hd = head_none in
        let fewer = load.header.fewer zero' in
        let d = next shape given c in
        let size = length load.newest.words in
        let wrote : fills_word shape c ≡ true = word_at ∙ eq-eqb c.turn (shape.read_wait + 1) full in
        let left : (next shape given c).left ≡ c.left = now_left ∙ ap (λ b. if b then c.left - 1 else c.left) (ne_eqb c.turn 0 (omega (arith, full))) in
        let turn : (next shape given c).turn ≡ c.turn - 1 = now_turn ∙ ap (λ b. if b then c.turn - 1 else shape.read_wait + 1) (lt_is 0 c.turn (omega (arith, full))) in
        let still : (next shape given c).turn ≢ shape.read_wait + 1 = (λ e. omega (arith, e, turn, full)) in
        let k = words_done shape c (length load.newest.words) in
        let was : k ≡ size - c.left = done_before shape c (length load.newest.words) zero' full in
        let now : words_done shape (next shape given c) (length load.newest.words) ≡ size - (next shape given c).left + 1 = done_behind shape (next shape given c) (length load.newest.words) hd still in
        let done : words_done shape (next shape given c) (length load.newest.words) ≡ k + 1 = omega (arith, now, was, left) in
        let low : k < length load.newest.words = omega (arith, was, fewer, more) in
        let cur = load.current in
        let first = first_block [] load.newest s.cache in
        let words : c.words ≡ size = cur.words (omega (arith, zero')) in
        let even : (c.in_block == 0) ≡ (k % shape.block_words == 0) = ap (λ x. x == 0) load.in_block in
        let to : c.target ≡ (first * shape.block_words + k) % shape.ring_words = load.target ∙ ap (λ x. (x + k) % shape.ring_words) cur.base in
        let out : c.main_out ≡ slice_index load.newest.words k = load.header.first zero' full ∙ ap (λ x. slice_index load.newest.words x) (sym was) in
        let T : ℕ → ℕ → Bool → BlockTag = λ m w b. record { begins = bit_of b; method = m; words = w } in
        let tag : tag_taken c ≡ record { begins = bit_of (k == 0); method = load.newest.method; words = size } =
        ap (λ m. T m c.words (c.left == c.words)) (cur.place ∙ sym cur.method) ∙ ap (λ w. T load.newest.method w (c.left == w)) words
        ∙ ap (λ b. T load.newest.method size b) (one_more c.left size fewer ∙ ap (λ x. x == 0) (sym was)) in
        let ring : (next shape given c).ring ≡ slice_set c.ring ((first * shape.block_words + k) % shape.ring_words) (slice_index load.newest.words k) =
        quiet.ring shape given c idle ∙ ap (λ b. if b then slice_set c.ring c.target c.main_out else c.ring) wrote
        ∙ ap (λ x. slice_set c.ring x c.main_out) to ∙ ap (λ x. slice_set c.ring ((first * shape.block_words + k) % shape.ring_words) x) out in
        let tags : (next shape given c).tags ≡ (if k % shape.block_words == 0 then slice_set c.tags c.next_block (record { begins = bit_of (k == 0); method = load.newest.method; words = size }) else c.tags) =
        quiet.tags shape given c idle ∙ ap (λ b. if b && c.in_block == 0 then slice_set c.tags c.next_block (tag_taken c) else c.tags) wrote
        ∙ ap (λ b. if b then slice_set c.tags c.next_block (tag_taken c) else c.tags) even
        ∙ ap (λ t. if k % shape.block_words == 0 then slice_set c.tags c.next_block t else c.tags) tag in
        let next_block : (next shape given c).next_block ≡ (if k % shape.block_words == 0 then behind shape.blocks c.next_block else c.next_block) =
        quiet.next_block shape given c idle ∙ ap (λ b. if b && c.in_block == 0 then behind shape.blocks c.next_block else c.next_block) wrote
        ∙ ap (λ b. if b then behind shape.blocks c.next_block else c.next_block) even in
        let written = word_written shape c.ring c.tags s.cache load.newest load.older is valid cur.split c.next_block k load.part low in
        let some_ring : 0 < shape.ring_words = (let e = is.ring_words in let b = is.blocks in let nb = valid.next in let w = is.some_words in ring_some shape.blocks shape.block_words shape.ring_words (omega (arith, nb, b)) w e) in
        let base = quiet.base shape given c idle in
        record {
          ring = subst (λ b. HasRing b shape (next shape given c) (rested s)) (sym (loads_words (next shape given c) hd (omega (arith, left, more)))) (record {
            newest = load.newest;
            older = load.older;
            current = record {
              split = cur.split;
              method = cur.method;
              place = quiet.place shape given c idle ∙ cur.place;
              base = base ∙ cur.base;
              words = λ _. now_words;
            };
            header = record {
              most = omega (arith, hd);
              size = λ h'. absurd (omega (arith, hd, h'));
              entries = λ h'. absurd (omega (arith, hd, h'));
              left = λ h' _. absurd (omega (arith, hd, h'));
              source = λ _.
                  now_source ∙ ap (λ b. if b then (c.source + 1) % 2 ^ shape.memory_bits else c.source) wrote
                  ∙ ap (λ x. (x + 1) % 2 ^ shape.memory_bits) (load.header.source (omega (arith, zero')))
                  ∙ mod-add-mod (code_place s.port.words s.method + k) (2 ^ shape.memory_bits) 1
                  ∙ ap (λ x. x % 2 ^ shape.memory_bits) (let p = code_place s.port.words s.method in let e : p + k + 1 ≡ p + words_done shape (next shape given c) (length load.newest.words) = omega (arith, done) in e);
              first = λ _ e. absurd (still e);
              fewer = λ _. omega (arith, left, fewer);
              turn = λ _. omega (arith, turn, full);
            };
            size = load.size;
            within = load.within;
            memory = load.memory;
            part = part_is shape c (next shape given c) s.cache load.newest (k + 1) (words_done shape (next shape given c) (length load.newest.words)) ring tags next_block done written;
            target =
                quiet.target shape given c idle ∙ ap (λ b. if b then behind shape.ring_words c.target else c.target) wrote
                ∙ ap (behind shape.ring_words) load.target ∙ behind_next shape.ring_words (c.base + k) some_ring
                ∙ ap (λ x. (x + k + 1) % shape.ring_words) (sym base)
                ∙ ap (λ x. x % shape.ring_words) (let y = (next shape given c).base in let e : y + k + 1 ≡ y + words_done shape (next shape given c) (length load.newest.words) = omega (arith, done) in e);
            in_block =
                quiet.in_block shape given c idle ∙ ap (λ b. if b then behind shape.block_words c.in_block else c.in_block) wrote
                ∙ ap (behind shape.block_words) load.in_block ∙ behind_next shape.block_words k is.some_words ∙ ap (λ x. x % shape.block_words) (sym done);
          });
          left =
              left_words shape c (length load.newest.words) zero' more
              ∙ (let m = (c.left - 1) * (2 + shape.read_wait) in let e : m + c.turn + 1 ≡ m + (c.turn - 1) + 1 + 1 = omega (arith, full) in e)
              ∙ ap (λ x. (x - 1) * (2 + shape.read_wait) + (c.turn - 1) + 1 + 1) (sym left)
              ∙ ap (λ t. ((next shape given c).left - 1) * (2 + shape.read_wait) + t + 1 + 1) (sym turn)
              ∙ ap (λ x. x + 1) (sym (left_words shape (next shape given c) (length load.newest.words) hd (omega (arith, left, more))));
        }

  -- every clock of a load
  pub steps : loads c ≡ true → Step shape c (next shape given c) s (length load.newest.words)
  steps on = elim (cases_eq c.header 0) [
    | inl none ↦ elim (cases_eq c.left 0) [
      | inl nothing ↦ let off = loads_no c none nothing in let bad : ⊥ = cc in absurd bad
      | inr something ↦
          let more : 0 < c.left = omega (arith, something) in
          elim (cases_eq c.turn (shape.read_wait + 1)) [
            | inl full ↦ writing none more full
            | inr part ↦ elim (cases_eq c.turn 0) [
              | inl last ↦ elim (cases_eq c.left 1) [
                | inl one' ↦ ending none more last one'
                | inr others ↦ another none more last (omega (arith, something, others))
              ]
              | inr later ↦ counting none more (omega (arith, later)) part
            ]
          ]
    ]
    | inr head ↦ elim (cases_eq c.header 4) [
      | inl h ↦ four h
      | inr h4 ↦ elim (cases_eq c.header 3) [
        | inl h ↦ three h
        | inr h3 ↦ elim (cases_eq c.header 2) [
          | inl h ↦ two h
          | inr h2 ↦ let most = load.header.most in one (omega (arith, head, h4, h3, h2, most))
        ]
      ]
    ]
  ]
