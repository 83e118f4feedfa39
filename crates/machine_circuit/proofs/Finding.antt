-- What a look-up finds among tags, one after another.
use Rattle.std.proofs.Common.{◌≡◌, ℕ, zero, suc, ◌+◌, ◌*◌, ◌%◌, ◌^◌, ◌<◌, ◌≤◌, Bool, true, false, if◌then◌else◌, List, [], ◌∷◌, length, take, take_all, ◌∙◌, refl, sym, ap, subst, arith}
use Rattle.std.specs.Prelude.{◌==◌, ◌||◌, Option, Some, None, bit_and, bit_or, slice_index_or}
use Rattle.std.specs.Int.Bits.{or_zero_l, or_zero_r}
use Rattle.std.proofs.Math.Nat.{mod-eq_of_lt, mod-lt, suc-mul, zero-mul}
use Rattle.std.proofs.lemmas.Nat.{mul-le}
use Rattle.netlist.specs.declared.net.Net.{Net}
use Rattle.netlist.specs.Meaning.{Words, bit_of, word_on}
use Rattle.circuit_build.proofs.Bits.{or_bits}
use Rattle.circuit_cycles.specs.Words.{place_of, stvp, takes_at_a}
use Rattle.circuit_cycles.specs.Shape.{Shape}
use Rattle.circuit_cycles.specs.Starting.{no_tag}
use Rattle.circuit_cycles.specs.Tags.{BlockTag, find_tag}
use Rattle.circuit_cycles.specs.Core.{Core, byte_place, does, next_vp}
use Rattle.circuit_core.proofs.Choosing.{both}
use Rattle.machine_circuit.specs.Loading.{HasFound, base_found, is_hit, words_found}
use Rattle.machine_circuit.specs.Tags.{HoldTags, HoldsTag, IsOnlyOne, also, also_found, begins_with}
use Rattle.machine_circuit.specs.declared.nets.Found.{Found}
use Rattle.machine_circuit.specs.declared.nets.Tag.{Tag}

-- ---- a tag

-- a bit is whether it is 1
bit : (n : ℕ) → n < 2 → n ≡ bit_of (n == 1)
bit zero h = refl
bit (suc zero) h = refl
bit (suc (suc n)) h = absurd (omega (arith, h))

pub same_method : {r begins same method : ℕ} (place : ℕ) (tag : BlockTag) → tag.begins < 2 → r ≡ bit_and begins same → begins ≡ tag.begins
    → same ≡ bit_of (method == place) → method ≡ tag.method → r ≡ bit_of (begins_with place tag)
same_method place tag fits e b s m =
    both (tag.begins == 1) (tag.method == place) e (b ∙ bit tag.begins fits) (s ∙ ap (λ x. bit_of (x == place)) m)

pub bit_fits : (b : Bool) → bit_of b < 2
bit_fits true = omega arith
bit_fits false = omega arith

-- the tag of a block that is taken, or isn't
pub behind_tag : {ws : Words} {nets : Tag} (taken : Bool) (new old : BlockTag) → new.begins < 2 → old.begins < 2
    → word_on ws nets.begins ≡ (if taken then new.begins else old.begins) → word_on ws nets.method ≡ (if taken then new.method else old.method)
    → word_on ws nets.words ≡ (if taken then new.words else old.words) → HoldsTag ws nets (if taken then new else old)
behind_tag true new old n o b m w = record { begins = b; method = m; words = w; begins_fits = n }
behind_tag false new old n o b m w = record { begins = b; method = m; words = w; begins_fits = o }

-- ---- a tag more

pub hit_also : {r x y : ℕ} (here : ℕ × ℕ) (m : Bool) (before : Option (ℕ × ℕ)) → r ≡ bit_or x y → x ≡ bit_of (is_hit before) → y ≡ bit_of m
    → r ≡ bit_of (is_hit (also here m before))
hit_also {r} {x} {y} here m before e p q =
    e ∙ ap (λ k. bit_or k y) p ∙ ap (λ k. bit_or (bit_of (is_hit before)) k) q ∙ or_bits (is_hit before) m ∙ ap bit_of (by before m)
  where
    by : (o : Option (ℕ × ℕ)) (t : Bool) → (is_hit o || t) ≡ is_hit (also here t o)
    by (Some f) t = refl
    by None true = refl
    by None false = refl

-- a word of what is found: that of no block is 0
pub word_also : {r x y : ℕ} (value : Option (ℕ × ℕ) → ℕ) (here : ℕ × ℕ) (m : Bool) (before : Option (ℕ × ℕ)) → value None ≡ 0
    → (m ≡ true → before ≡ None) → r ≡ bit_or x y → x ≡ value before → y ≡ (if m then value (Some here) else 0) → r ≡ value (also here m before)
word_also {r} {x} {y} value here m before none one e p q =
    e ∙ ap (λ k. bit_or k y) p ∙ ap (λ k. bit_or (value before) k) q ∙ by before m one
  where
    by : (o : Option (ℕ × ℕ)) (t : Bool) → (t ≡ true → o ≡ None) → bit_or (value o) (if t then value (Some here) else 0) ≡ value (also here t o)
    by o false only = or_zero_r (value o) ∙ sym (ap value (unchanged o))
      where
        unchanged : (o : Option (ℕ × ℕ)) → also here false o ≡ o
        unchanged (Some f) = refl
        unchanged None = refl
    by (Some f) true only = let no : Some f ≡ None = only refl in cc
    by None true only = ap (λ k. bit_or k (value (Some here))) none ∙ or_zero_l (value (Some here))

-- ---- all tags before a block

none_before : (place block : ℕ) (tags : List BlockTag) (k : ℕ) (d : BlockTag) → k ≤ length tags
    → ((j : ℕ) → j < k → begins_with place (slice_index_or tags j d) ≡ false) → find_tag block place (take k tags) ≡ None
none_before place block [] zero d le none = refl
none_before place block [] (suc k) d le none = absurd (omega (arith, le))
none_before place block (t ∷ ts) zero d le none = refl
none_before place block (t ∷ ts) (suc k) d le none =
    ap (λ b. if b then Some (block, t.words) else find_tag (block + 1) place (take k ts)) (none 0 (omega arith))
    ∙ none_before place (block + 1) ts k d (omega (arith, le)) (λ j h. none (suc j) (omega (arith, h)))

pub one_more : (place block : ℕ) (tags : List BlockTag) (k : ℕ) (d : BlockTag) → k < length tags
    → find_tag block place (take (suc k) tags) ≡ also_found (block + k) place (slice_index_or tags k d) (find_tag block place (take k tags))
one_more place block [] k d lt = absurd (omega (arith, lt))
one_more place block (t ∷ ts) zero d lt =
    let same : block ≡ block + 0 = omega arith in ap (λ b. if begins_with place t then Some (b, t.words) else None) same
one_more place block (t ∷ ts) (suc k) d lt =
    let same : block + 1 + k ≡ block + suc k = omega arith in
    by (begins_with place t)
    (one_more place (block + 1) ts k d (omega (arith, lt))
    ∙ ap (λ b. also_found b place (slice_index_or ts k d) (find_tag (block + 1) place (take k ts))) same)
  where
    by : (m : Bool)
        → find_tag (block + 1) place (take (suc k) ts) ≡ also_found (block + suc k) place (slice_index_or ts k d) (find_tag (block + 1) place (take k ts))
        → (if m then Some (block, t.words) else find_tag (block + 1) place (take (suc k) ts))
        ≡ also_found (block + suc k) place (slice_index_or ts k d) (if m then Some (block, t.words) else find_tag (block + 1) place (take k ts))
    by true rest = refl
    by false rest = rest

only_here : (place : ℕ) (tags : List BlockTag) (k : ℕ) (d : BlockTag) → k < length tags
    → ((j k : ℕ) (tag : BlockTag) → j < k → k < length tags → begins_with place (slice_index_or tags j tag) ≡ true
    → begins_with place (slice_index_or tags k tag) ≡ false)
    → begins_with place (slice_index_or tags k d) ≡ true → find_tag 0 place (take k tags) ≡ None
only_here place tags k d lt one here = none_before place 0 tags k d (omega (arith, lt)) (λ j h. by j h (begins_with place (slice_index_or tags j d)) refl)
  where
    by : (j : ℕ) → j < k → (b : Bool) → begins_with place (slice_index_or tags j d) ≡ b → b ≡ false
    by j h false e = refl
    by j h true e = let no = one j k d h lt e in cc

-- ---- blocks of a ring

pub block_fits : (block blocks words ring bits : ℕ) → block < blocks → ring ≡ blocks * words → 1 ≤ words → ring ≤ 2 ^ bits → block * words < 2 ^ bits
block_fits block blocks words ring bits lt e some fits =
    let more : suc block * words ≤ blocks * words = mul-le (suc block) words blocks words (omega (arith, lt)) (omega arith) in
    let sum : suc block * words ≡ block * words + words = suc-mul block words in
    omega (arith, e, some, fits, more, sum)

pub small_factor : {block words most : ℕ} → block * words < most → 1 ≤ words → block < most
small_factor {block} {words} {most} fits some =
    let more : block * 1 ≤ block * words = mul-le block 1 block words (omega arith) some in
    omega (arith, fits, more)

pub multiplied : {r b k w bits : ℕ} (block words : ℕ) → block * words < 2 ^ bits → r ≡ (b * k) % 2 ^ w → b ≡ block → w ≡ bits → k ≡ words → r ≡ block * words
multiplied {r} {b} {k} {w} {bits} block words fits e p width q =
    e ∙ ap (λ n. (b * k) % 2 ^ n) width ∙ ap (λ n. (n * k) % 2 ^ bits) p ∙ ap (λ n. (block * n) % 2 ^ bits) q ∙ mod-eq_of_lt fits

-- of one block the number is 0, as is the place at which it begins
pub only_block : {r block blocks : ℕ} (words : ℕ) → r ≡ 0 → blocks ≡ 1 → block < blocks → r ≡ block * words
only_block {r} {block} {blocks} words e one less =
    let none : block ≡ 0 = omega (arith, one, less) in
    e ∙ sym (ap (λ n. n * words) none ∙ zero-mul words)

pub byte_place_fits : (word a jpc : ℕ) → jpc < 2 ^ 16 → byte_place word a jpc < 2 ^ 16
byte_place_fits word a jpc h = by (takes_at_a word)
  where
    by : (t : Bool) → (if t then a % 2 ^ 16 else jpc) < 2 ^ 16
    by true = omega arith
    by false = h

pub vp_within : (n : ℕ) (core : Core) → 0 < n → core.vp < n → next_vp n core < n
vp_within n core some h = by (does stvp core)
  where
    by : (t : Bool) → (if t then core.a % n else core.vp) < n
    by true = mod-lt core.a some
    by false = h

-- a place by equal registers
pub placed : {r m vp ar operand v a o : ℕ} (n word : ℕ) → r ≡ place_of m word vp ar operand → m ≡ n → vp ≡ v → ar ≡ a → operand ≡ o
    → r ≡ place_of n word v a o
placed {r} {m} {vp} {ar} {operand} {v} {a} {o} n word e p hv ha ho =
    e ∙ ap (λ k. place_of k word vp ar operand) p ∙ ap (λ x. place_of n word x ar operand) hv ∙ ap (λ x. place_of n word v x operand) ha
    ∙ ap (λ x. place_of n word v a x) ho

-- ---- all tags

none_yet : (place : ℕ) (tags : List BlockTag) → find_tag 0 place (take 0 tags) ≡ None
none_yet place [] = refl
none_yet place (t ∷ ts) = refl

found_step : (place : ℕ) (tags : List BlockTag) (k : ℕ) (d : BlockTag) → k < length tags
    → also_found k place (slice_index_or tags k d) (find_tag 0 place (take k tags)) ≡ find_tag 0 place (take (k + 1) tags)
found_step place tags k d lt =
    let none : k ≡ 0 + k = omega arith in
    let up : suc k ≡ k + 1 = omega arith in
    ap (λ b. also_found b place (slice_index_or tags k d) (find_tag 0 place (take k tags))) none ∙ sym (one_more place 0 tags k d lt)
    ∙ ap (λ j. find_tag 0 place (take j tags)) up

few_words : (block blocks words : ℕ) → block < blocks → blocks ≤ 256 → words ≤ 1024 → block * words < 2 ^ 64
few_words block blocks words lt b w =
    let most : block * words ≤ 256 * 1024 = mul-le block words 256 1024 (omega (arith, lt, b)) w in
    omega (arith, most)

-- the three nets have this
pub record FoundAre (shape : Shape) (ws : Words) (hit_net base_net words_net : Net) (found : Option (ℕ × ℕ)) : Type 0 where
  pub is_hit : word_on ws hit_net ≡ bit_of (is_hit found)
  pub base : word_on ws base_net ≡ base_found shape found
  pub words : word_on ws words_net ≡ words_found found

pub nothing_found : {shape : Shape} {ws : Words} {is_hit base words : Net} (place : ℕ) (tags : List BlockTag) → word_on ws is_hit ≡ 0
    → word_on ws base ≡ 0 → word_on ws words ≡ 0 → FoundAre shape ws is_hit base words (find_tag 0 place (take 0 tags))
nothing_found {shape} {ws} {is_hit} {base} {words} place tags h b w =
    subst (λ o. FoundAre shape ws is_hit base words o) (sym (none_yet place tags)) (record { is_hit = h; base = b; words = w })

-- what is found among a tag more
pub more_found : {shape : Shape} {ws : Words} {nets : List Tag} {core : Core} {place block : ℕ} {before after : Found} (k : ℕ) (net : Tag)
    → ((here : BlockTag) (o : Option (ℕ × ℕ)) → HoldsTag ws net here → block * shape.block_words < 2 ^ 64 → IsOnlyOne place here o
    → HasFound shape ws before o → HasFound shape ws after (also_found block place here o))
    → HoldTags shape ws nets core → place ≡ core.a → block ≡ k → k < length nets → net ≡ slice_index_or nets k net → shape.blocks ≤ 256
    → shape.block_words ≤ 1024
    → FoundAre shape ws before.is_hit before.base before.words (find_tag 0 core.a (take k core.tags))
    → FoundAre shape ws after.is_hit after.base after.words (find_tag 0 core.a (take (k + 1) core.tags))
more_found {shape} {ws} {nets} {core} {place} {block} {before} {after} k net by h same number lt is blocks words found =
    let here = slice_index_or core.tags k no_tag in
    let within : k < length core.tags = omega (arith, lt, h.count) in
    let holds : HoldsTag ws net here = subst (λ n. HoldsTag ws n here) (sym is) (h.tags k net no_tag lt) in
    let few : k * shape.block_words < 2 ^ 64 = few_words k shape.blocks shape.block_words (omega (arith, lt, h.blocks)) blocks words in
    let only : IsOnlyOne place here (find_tag 0 core.a (take k core.tags)) =
    λ e. only_here core.a core.tags k no_tag within h.one (subst (λ p. begins_with p here ≡ true) same e) in
    let more : HasFound shape ws after (also_found block place here (find_tag 0 core.a (take k core.tags))) =
    by here (find_tag 0 core.a (take k core.tags)) holds (subst (λ b. b * shape.block_words < 2 ^ 64) (sym number) few) only
    (record { is_hit = found.is_hit; base = found.base; words = found.words }) in
    let stated : also_found block place here (find_tag 0 core.a (take k core.tags)) ≡ find_tag 0 core.a (take (k + 1) core.tags) =
    ap (λ b. also_found b place here (find_tag 0 core.a (take k core.tags))) number
    ∙ ap (λ p. also_found k p here (find_tag 0 core.a (take k core.tags))) same ∙ found_step core.a core.tags k no_tag within in
    subst (λ o. FoundAre shape ws after.is_hit after.base after.words o) stated (record { is_hit = more.is_hit; base = more.base; words = more.words })

-- what is found among all of them
pub all_found : {shape : Shape} {ws : Words} {nets : List Tag} {core : Core} (k : ℕ) → HoldTags shape ws nets core → length nets ≤ k
    → find_tag 0 core.a (take k core.tags) ≡ find_tag 0 core.a core.tags
all_found {core = core} k h le = ap (λ l. find_tag 0 core.a l) (take_all k core.tags (omega (arith, le, h.count)))
