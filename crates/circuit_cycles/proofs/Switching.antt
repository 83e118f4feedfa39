-- A clock in which a word runs: the method cache behind it.
use Rattle.std.proofs.Common.{◌≡◌, ℕ, ◌+◌, ◌-◌, ◌*◌, ◌%◌, ◌^◌, ◌<◌, ◌≤◌, Bool, true, false, List, [], ◌∷◌, ◌++◌, length, Option, Some, None, is_some, refl, sym, ap, subst, inl, inr, mod-eq_of_lt, ◌∙◌, arith, ltb-true, leb-true, drop}
use Rattle.std.specs.Prelude.{◌==◌, ◌&&◌, nat_lt, nat_le, if◌then◌else◌, slice_set, slice_index, slice_index_or, slice_range}
use Rattle.std.proofs.Math.Nat.{zero-mod, mul-le-mul_right}
use Rattle.std.proofs.lemmas.Bool.{and_parts, ne_eqb, cases_eq}
use Rattle.std.proofs.lemmas.List.{length-drop, length-take-le, get_or-drop, get_or-take}
use Rattle.method_cache.specs.Contents.{Entry, Cache, blocks_for, can_load, find_words, is_cached, first_block, loaded}
use Rattle.method_cache.proofs.Finds.{passed}
use Rattle.jop_core.specs.State.{MachineState}
use Rattle.jop_core.specs.Operations.{popped, looked_up, can_switch, code_words, code_place, code_of}
use Rattle.jop_core.specs.Cycle.{counted, with_flags}
use Rattle.microcode.specs.declared.isa.Body.TheVariants.{Plain}
use Rattle.circuit_cycles.specs.Shape.{Shape}
use Rattle.circuit_cycles.specs.Words.{bits_of, is, stbc, stmwd}
use Rattle.circuit_cycles.specs.Tags.{find_tag, behind}
use Rattle.circuit_cycles.specs.Core.{Core, Given, next, runs, switches, misses, found as found_in, has_words, fills, fills_word, tag_taken, main_place, main_writes}
use Rattle.circuit_cycles.specs.Methods.{HasMethods, HasPart}
use Rattle.circuit_cycles.specs.Stands.{Stands, HasCache, HasRing, IsLoading, words_done}
use Rattle.circuit_cycles.proofs.Rounds.{eqb_eq}
use Rattle.circuit_cycles.proofs.TagLookups.{found_where, found_not}
use Rattle.circuit_cycles.proofs.LoadBegins.{kept, contents_after, first_after, load_begins}
use Rattle.circuit_cycles.proofs.UnderWay.{read_word}
use Rattle.circuit_cycles.proofs.Phases.{done_none, loads_no}
use Rattle.circuit_cycles.proofs.IdleClocks.{no_fill}
use Rattle.circuit_cycles.proofs.Awake.{IsAwake, is_awake}

-- the cache and the current method alone matter
pub cache_moves : (shape : Shape) (d : Core) (s t : MachineState) → t.cache ≡ s.cache → t.method ≡ s.method → HasCache shape d s → HasCache shape d t
cache_moves shape d s t same method h =
    let cur = h.current in
    record {
      methods = subst (λ k. HasMethods shape d.ring d.tags d.next_block k) (sym same) h.methods;
      newer = h.newer;
      method = h.method;
      older = h.older;
      current = record {
        split = ap (λ (k : Cache). k.contents) same ∙ cur.split;
        method = cur.method ∙ sym method;
        place = cur.place ∙ sym method;
        base = cur.base ∙ ap (λ (k : Cache). first_block h.newer h.method k * shape.block_words) (sym same);
        words = cur.words;
      };
    }

-- ---- a method that can be switched to

pub record CanSwitch (s : MachineState) (m : ℕ) : Type 0 where
  pub some : 0 < code_words s.port.words m
  pub fits : blocks_for s.cache.block_words (code_words s.port.words m) ≤ s.cache.blocks
  pub inside : code_place s.port.words m + code_words s.port.words m ≤ length s.port.words

pub can_parts : (s : MachineState) (m : ℕ) → can_switch s m ≡ true → CanSwitch s m
can_parts s m h =
    let n = code_words s.port.words m in
    let one = and_parts (can_load n s.cache) (nat_le (code_place s.port.words m + n) (length s.port.words)) h in
    let two = and_parts (nat_lt 0 n) (nat_le (blocks_for s.cache.block_words n) s.cache.blocks) one.0 in
    record {
      some = ltb-true 0 n two.0;
      fits = leb-true (blocks_for s.cache.block_words n) s.cache.blocks two.1;
      inside = leb-true (code_place s.port.words m + n) (length s.port.words) one.1;
    }

pub range_length : (words : List ℕ) (from n : ℕ) → from + n ≤ length words → length (slice_range words from (from + n)) ≡ n
range_length words from n h =
    let left = length-drop from words in
    let count : from + n - from ≡ n = omega arith in
    length-take-le (from + n - from) (drop from words) (omega (arith, left, h)) ∙ count

range_word : (words : List ℕ) (from n i : ℕ) → i < n → slice_index words (from + i) ≡ slice_index (slice_range words from (from + n)) i
range_word words from n i h = sym (get_or-take (from + n - from) (drop from words) i 0 (omega (arith, h)) ∙ get_or-drop from words i 0)

-- a method that is held
pub record IsHeld (m : ℕ) (es : List Entry) : Type 0 where
  pub newer : List Entry
  pub entry : Entry
  pub older : List Entry
  pub split : es ≡ newer ++ entry ∷ older
  pub method : entry.method ≡ m

pub held_in : (m : ℕ) (es : List Entry) → is_some (find_words m es) ≡ true → IsHeld m es
held_in m [] h = let bad : ⊥ = cc in absurd bad
held_in m (e ∷ es) h = elim (cases_eq e.method m) [
  | inl same ↦ record { newer = []; entry = e; older = es; split = refl; method = same }
  | inr other ↦
      let rest = held_in m es (ap (λ (o : Option (List ℕ)). is_some o) (sym (passed e es m other)) ∙ h) in
      record { newer = e ∷ rest.newer; entry = rest.entry; older = rest.older; split = ap (λ (k : List Entry). e ∷ k) rest.split; method = rest.method }
]

none_of : (o : Option (List ℕ)) → is_some o ≡ false → o ≡ None
none_of None h = refl
none_of (Some x) h = let bad : ⊥ = cc in absurd bad

module _ (shape : Shape) (given : Given) (c : Core) (s : MachineState) (stands : Stands shape c s) (on : runs c ≡ true) where
  abbrev d : Core
  d = next shape given c

  up : IsAwake c
  up = is_awake c on

  pub no_word : fills_word shape c ≡ false
  no_word = let h = up in no_fill shape c (record { header = h.header; left = h.left })

  was : HasCache shape c s
  was = let h = up in subst (λ b. HasRing b shape c s) (loads_no c h.header h.left) stands.ring

  pub no_left : (next shape given c).left ≡ 0
  unfolding next
  no_left =
      let head = up.header in
      ap (λ b. if b then c.main_out % 2 ^ 16 else if fills c && c.turn == 0 then c.left - 1 else c.left) (ne_eqb c.header 4 (omega (arith, head)))
      ∙ by (fills c && c.turn == 0)
    where
      by : (b : Bool) → (if b then c.left - 1 else c.left) ≡ 0
      by true = ap (λ k. k - 1) up.left
      by false = up.left

  ring_is : (next shape given c).ring ≡ c.ring
  unfolding next
  ring_is = ap (λ b. if b then slice_set c.ring c.target c.main_out else c.ring) no_word

  tags_is : (next shape given c).tags ≡ c.tags
  unfolding next
  tags_is = ap (λ b. if b && c.in_block == 0 then slice_set c.tags c.next_block (tag_taken c) else c.tags) no_word

  next_block_is : (next shape given c).next_block ≡ c.next_block
  unfolding next
  next_block_is = ap (λ b. if b && c.in_block == 0 then behind shape.blocks c.next_block else c.next_block) no_word

  methods_stay : HasMethods shape (next shape given c).ring (next shape given c).tags (next shape given c).next_block s.cache
  methods_stay =
      subst (λ x. HasMethods shape x (next shape given c).tags (next shape given c).next_block s.cache) (sym ring_is)
      (subst (λ x. HasMethods shape c.ring x (next shape given c).next_block s.cache) (sym tags_is)
      (subst (λ x. HasMethods shape c.ring c.tags x s.cache) (sym next_block_is) was.methods))

  -- ---- no method is switched to

  module _ (no : switches c ≡ false) where
    pub no_header : (next shape given c).header ≡ 0
    unfolding next
    no_header =
        ap (λ r. if r && elim (found_in c) [ None ↦ true | Some _ ↦ false ] then 4 else c.header - 1) no ∙ ap (λ k. k - 1) up.header

    base_stays : (next shape given c).base ≡ c.base
    unfolding next
    base_stays = ap (λ b. if b then elim (found_in c) [ None ↦ c.next_block * shape.block_words | Some f ↦ f.0 * shape.block_words ] else c.base) no

    place_stays : (next shape given c).place ≡ c.place
    unfolding next
    place_stays = ap (λ b. if b then c.a % 2 ^ shape.memory_bits else c.place) no

    words_stay : (next shape given c).words ≡ c.words
    unfolding next
    words_stay =
        let head = up.header in
        ap (λ b. if b then elim (found_in c) [ None ↦ 0 | Some f ↦ f.1 ] else if has_words c then c.main_out % 2 ^ 16 else c.words) no
        ∙ ap (λ b. if b then c.main_out % 2 ^ 16 else c.words) (ne_eqb c.header 4 (omega (arith, head)))

    pub cache_stays : HasCache shape (next shape given c) s
    cache_stays =
        let cur = was.current in
        let head = up.header in
        record {
          methods = methods_stay;
          newer = was.newer;
          method = was.method;
          older = was.older;
          current = record {
            split = cur.split;
            method = cur.method;
            place = place_stays ∙ cur.place;
            base = base_stays ∙ cur.base;
            words = λ _. words_stay ∙ cur.words (omega (arith, head));
          };
        }

  -- ---- a method is switched to

  module _ (yes : switches c ≡ true) (can : CanSwitch s s.a) where
    bits : bits_of c.word ≡ 41
    bits = eqb_eq (bits_of c.word) 41 (and_parts (runs c) (is stbc c.word) yes).1

    small : s.a + 4 ≤ 2 ^ shape.memory_bits
    small = let inside = can.inside in let size = stands.has_shape.memory in let room = stands.has_shape.places in omega (arith, inside, size, room)

    place_is : (next shape given c).place ≡ s.a
    unfolding next
    place_is =
        let low = small in
        ap (λ b. if b then c.a % 2 ^ shape.memory_bits else c.place) yes
        ∙ ap (λ k. k % 2 ^ shape.memory_bits) stands.registers.a
        ∙ mod-eq_of_lt (let e : s.a < 2 ^ shape.memory_bits = omega (arith, low) in e)

    -- the cache holds it
    module _ (h : IsHeld s.a s.cache.contents) where
      found_is : found_in c ≡ Some (first_block h.newer h.entry s.cache, length h.entry.words)
      found_is =
          ap (λ m. find_tag 0 m c.tags) (stands.registers.a ∙ sym h.method)
          ∙ found_where shape c.ring c.tags c.next_block s.cache stands.is_cache was.methods h.newer h.entry h.older h.split

      pub hit_header : (next shape given c).header ≡ 0
      unfolding next
      hit_header =
          ap (λ (o : Option (ℕ × ℕ)). if switches c && elim o [ None ↦ true | Some _ ↦ false ] then 4 else c.header - 1) found_is
          ∙ ap (λ r. if r && false then 4 else c.header - 1) yes ∙ ap (λ k. k - 1) up.header

      hit_base : (next shape given c).base ≡ first_block h.newer h.entry s.cache * shape.block_words
      unfolding next
      hit_base =
          ap (λ b. if b then elim (found_in c) [ None ↦ c.next_block * shape.block_words | Some f ↦ f.0 * shape.block_words ] else c.base) yes
          ∙ ap (λ (o : Option (ℕ × ℕ)). if true then elim o [ None ↦ c.next_block * shape.block_words | Some f ↦ f.0 * shape.block_words ] else c.base) found_is

      hit_words : (next shape given c).words ≡ length h.entry.words
      unfolding next
      hit_words =
          ap (λ b. if b then elim (found_in c) [ None ↦ 0 | Some f ↦ f.1 ] else if has_words c then c.main_out % 2 ^ 16 else c.words) yes
          ∙ ap (λ (o : Option (ℕ × ℕ)). if true then elim o [ None ↦ 0 | Some f ↦ f.1 ] else c.words) found_is

      pub hits : HasCache shape (next shape given c) (with_flags (record { body = Plain 41; opd = false; nxt = false }) (looked_up true s.a (popped (counted s))))
      hits = record {
        methods = methods_stay;
        newer = h.newer;
        method = h.entry;
        older = h.older;
        current = record {
          split = h.split;
          method = h.method;
          place = place_is;
          base = hit_base;
          words = λ _. hit_words;
        };
      }

    -- the cache doesn't hold it
    module _ (absent : is_cached s.a s.cache ≡ false) where
      found_no : found_in c ≡ None
      found_no =
          ap (λ m. find_tag 0 m c.tags) stands.registers.a
          ∙ found_not shape c.ring c.tags c.next_block s.cache stands.is_cache was.methods s.a (none_of (find_words s.a s.cache.contents) absent)

      miss_is : misses c ≡ true
      miss_is =
          ap (λ (o : Option (ℕ × ℕ)). switches c && elim o [ None ↦ true | Some _ ↦ false ]) found_no
          ∙ ap (λ r. r && true) yes

      pub miss_header : (next shape given c).header ≡ 4
      unfolding next
      miss_header = ap (λ b. if b then 4 else c.header - 1) miss_is

      miss_base : (next shape given c).base ≡ c.next_block * shape.block_words
      unfolding next
      miss_base =
          ap (λ b. if b then elim (found_in c) [ None ↦ c.next_block * shape.block_words | Some f ↦ f.0 * shape.block_words ] else c.base) yes
          ∙ ap (λ (o : Option (ℕ × ℕ)). if true then elim o [ None ↦ c.next_block * shape.block_words | Some f ↦ f.0 * shape.block_words ] else c.base) found_no

      miss_target : (next shape given c).target ≡ c.next_block * shape.block_words
      unfolding next
      miss_target = ap (λ b. if b then c.next_block * shape.block_words else if fills_word shape c then behind shape.ring_words c.target else c.target) miss_is

      miss_in_block : (next shape given c).in_block ≡ 0
      unfolding next
      miss_in_block = ap (λ b. if b then 0 else if fills_word shape c then behind shape.block_words c.in_block else c.in_block) miss_is

      no_write : main_writes shape c ≡ false
      no_write = ap (λ r. r && is stmwd c.word && nat_lt c.write_address shape.memory_words) on ∙ ap (λ k. k == 38 && nat_lt c.write_address shape.memory_words) bits

      miss_out : (next shape given c).main_out ≡ slice_index s.port.words (s.a + 1)
      unfolding next
      miss_out =
          let to = c.write_address % 2 ^ shape.memory_bits in
          let inside = can.inside in
          let size = stands.has_shape.memory in
          let room = stands.has_shape.places in
          ap (λ b. if b && to == main_place shape c then given.main else slice_index_or c.main (main_place shape c) given.main) no_write
          ∙ ap (λ b. slice_index_or c.main (if b then (if switches c then c.a + 1 else c.a) % 2 ^ shape.memory_bits else if has_words c then (c.place + 3) % 2 ^ shape.memory_bits else c.source) given.main) on
          ∙ ap (λ b. slice_index_or c.main ((if b then c.a + 1 else c.a) % 2 ^ shape.memory_bits) given.main) yes
          ∙ ap (λ k. slice_index_or c.main ((k + 1) % 2 ^ shape.memory_bits) given.main) stands.registers.a
          ∙ ap (λ (ws : List ℕ). slice_index_or ws ((s.a + 1) % 2 ^ shape.memory_bits) given.main) stands.registers.main
          ∙ read_word s.port.words (s.a + 1) shape.memory_bits given.main (omega (arith, inside)) (omega (arith, size, room))

      long : length (code_of s s.a) ≡ code_words s.port.words s.a
      long = range_length s.port.words (code_place s.port.words s.a) (code_words s.port.words s.a) can.inside

      some : 0 < length (code_of s s.a)
      some = let count = can.some in let e = long in omega (arith, count, e)

      fits : blocks_for s.cache.block_words (length (code_of s s.a)) ≤ s.cache.blocks
      fits = subst (λ k. blocks_for s.cache.block_words k ≤ s.cache.blocks) (sym long) can.fits

      part : HasPart shape c.ring c.tags c.next_block (loaded s.a (code_of s s.a) s.cache) (record { method = s.a; words = code_of s s.a }) 0
      part = load_begins shape c.ring c.tags c.next_block s.cache s.a (code_of s s.a) stands.is_ring stands.is_cache was.methods absent some fits

      no_done : words_done shape (next shape given c) (length (code_of s s.a)) ≡ 0
      no_done = let e = miss_header in done_none shape (next shape given c) (length (code_of s s.a)) (omega (arith, e))

      -- the place of the first block lies in the ring
      around : c.next_block * shape.block_words ≡ (c.next_block * shape.block_words + 0) % shape.ring_words
      around =
          let is = stands.is_ring in
          let low = stands.is_cache.next in
          let next = was.methods.next in
          let blocks = is.blocks in
          let size = is.ring_words in
          let some_words = is.some_words in
          let product = mul-le-mul_right {m = c.next_block + 1} {n = shape.blocks} shape.block_words (omega (arith, low, next, blocks)) in
          let sum : (c.next_block + 1) * shape.block_words ≡ c.next_block * shape.block_words + shape.block_words = omega arith in
          let inside : c.next_block * shape.block_words < shape.ring_words = omega (arith, product, sum, size, some_words) in
          sym (mod-eq_of_lt inside) ∙ ap (λ k. k % shape.ring_words) (let e : c.next_block * shape.block_words ≡ c.next_block * shape.block_words + 0 = omega arith in e)

      pub misses_load : IsLoading shape (next shape given c) (with_flags (record { body = Plain 41; opd = false; nxt = false }) (looked_up false s.a (popped (counted s))))
      misses_load =
          let head = miss_header in record {
            newest = record { method = s.a; words = code_of s s.a };
            older = kept s.a (code_of s s.a) s.cache;
            current = record {
              split = contents_after shape c.ring c.tags c.next_block s.cache s.a (code_of s s.a) stands.is_ring stands.is_cache was.methods absent some fits;
              method = refl;
              place = place_is;
              base =
                  miss_base
                  ∙ ap (λ k. k * shape.block_words)
                  (was.methods.next ∙ sym (first_after shape c.ring c.tags c.next_block s.cache s.a (code_of s s.a) stands.is_ring stands.is_cache was.methods absent some fits));
              words = λ early. absurd (omega (arith, early, head));
            };
            header = record {
              most = omega (arith, head);
              size = λ _. ap (λ k. k % 2 ^ 16) miss_out ∙ sym long;
              entries = λ e. absurd (omega (arith, e, head));
              left = λ _ early. absurd (omega (arith, early, head));
              source = λ early. absurd (omega (arith, early, head));
              first = λ e. absurd (omega (arith, e, head));
              fewer = λ e. absurd (omega (arith, e, head));
              turn = λ e. absurd (omega (arith, e, head));
            };
            size = sym long;
            within = let e = long in let inside = can.inside in omega (arith, e, inside);
            memory = λ i low. let e = long in range_word s.port.words (code_place s.port.words s.a) (code_words s.port.words s.a) i (omega (arith, low, e));
            part =
                subst (λ x. HasPart shape x (next shape given c).tags (next shape given c).next_block (loaded s.a (code_of s s.a) s.cache) (record { method = s.a; words = code_of s s.a }) (words_done shape (next shape given c) (length (code_of s s.a)))) (sym ring_is)
                (subst (λ x. HasPart shape c.ring x (next shape given c).next_block (loaded s.a (code_of s s.a) s.cache) (record { method = s.a; words = code_of s s.a }) (words_done shape (next shape given c) (length (code_of s s.a)))) (sym tags_is)
                (subst (λ x. HasPart shape c.ring c.tags x (loaded s.a (code_of s s.a) s.cache) (record { method = s.a; words = code_of s s.a }) (words_done shape (next shape given c) (length (code_of s s.a)))) (sym next_block_is)
                (subst (λ k. HasPart shape c.ring c.tags c.next_block (loaded s.a (code_of s s.a) s.cache) (record { method = s.a; words = code_of s s.a }) k) (sym no_done) part)));
            target =
                miss_target ∙ around ∙ ap (λ b. (b + 0) % shape.ring_words) (sym miss_base)
                ∙ ap (λ k. ((next shape given c).base + k) % shape.ring_words) (sym no_done);
            in_block = miss_in_block ∙ sym (zero-mod shape.block_words) ∙ ap (λ k. k % shape.block_words) (sym no_done);
          }
